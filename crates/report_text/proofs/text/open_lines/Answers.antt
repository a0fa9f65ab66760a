use Rattle.std.proofs.Common.{◌≡◌, ◌<◌, ◌+◌, ◌++◌, ◌∙◌, ℕ, List, [], ap, sym, get_or, length, take}
use Rattle.std.specs.List.{flat_map}
use Rattle.std.proofs.lemmas.List.{flat_map_more, take_all, take_more}
use Rattle.report_text.specs.Text.{open_line}
use Rattle.report_text.proofs.text.open_lines.Goals as goal

-- the lines of one more element
one_more : {X : Type 0} (line_of : X → List ℕ) (xs : List X) (i : ℕ) (d : X) (line : List ℕ) → line ≡ line_of (get_or xs i d) → i < length xs
    → flat_map line_of (take i xs) ++ line ≡ flat_map line_of (take (i + 1) xs)
one_more line_of xs i d line is inside =
    ap (λ more. flat_map line_of (take i xs) ++ more) is
    ∙ flat_map_more line_of [] (take i xs) (get_or xs i d)
    ∙ ap (flat_map line_of) (sym (take_more xs i d inside))

pub loop-site-init : goal.loop-site-init
loop-site-init c = c.new-text.ensures.items

pub loop-site-preserved : goal.loop-site-preserved
loop-site-preserved c =
    let sites = c.args.open_sites.now in
    c.in_ok-extend_from_slice.ensures.items
    ∙ ap (λ before. before ++ c.as_slice-in-loop-site.result.now) c.loop-site.invariant
    ∙ ap (λ line. flat_map open_line (take c.loop-site.site-index sites) ++ line) c.as_slice-in-loop-site.ensures
    ∙ one_more open_line sites c.loop-site.site-index _ c.open_site.result.items c.open_site.ensures c.loop-site-test.true

pub returns-clause-lines : goal.returns-clause-lines
returns-clause-lines c = c.loop-site.invariant ∙ ap (flat_map open_line) (take_all c.loop-site.site-index c.args.open_sites.now c.loop-site-test.false)
