-- A program that errs at open sites alone does so at sites of the code's table of open sites.
use Rattle.std.proofs.Common.{◌≡◌, ℕ, true, ◌==◌, List, Some, Contains, refl, ap, ◌∙◌, subst, slice_get, option_map}
use Rattle.std.proofs.lemmas.Bool.{eq-eqb}
use Rattle.std.proofs.lemmas.Option.{slice_get_within, slice_get-map, get_or_from_slice_get, slice_get-get_or}
use Rattle.std.proofs.lemmas.List.Folds.{list_any_at}
use Rattle.pcode_assembler.specs.declared.code.Site.{Site as Plain}
use Rattle.typed_tree.specs.declared.tree.Tree.{Tree}
use Rattle.typed_tree.specs.declared.site.Site.{Site}
use Rattle.meaning.specs.declared.outcome.Ending.TheVariants.{Error}
use Rattle.meaning.specs.Meaning.{meaning}
use Rattle.check_remover.specs.Strip.{is_among}
use Rattle.code_generator.specs.Tables.{site_table, in_plain_numbers}
use Rattle.cert_checker.specs.Promise.{ClosedNeverErr}

-- an open site is among those of its table
among_open : (sites : List Site) (site : Site) → Contains sites site → is_among (site_table sites) site.id ≡ true
among_open sites site inside =
    let there : slice_get sites inside.0 ≡ Some site = slice_get-get_or sites inside.0 site inside.1 ∙ ap Some inside.2 in
    let entry : slice_get (site_table sites) inside.0 ≡ Some (in_plain_numbers site) =
    slice_get-map in_plain_numbers sites inside.0 ∙ ap (option_map in_plain_numbers) there in
    let plain = in_plain_numbers site in
    list_any_at (λ other. other.id == site.id) (site_table sites) inside.0 plain (slice_get_within (site_table sites) inside.0 plain entry)
    (ap (λ (other : Plain). other.id == site.id) (get_or_from_slice_get (site_table sites) inside.0 plain plain entry)
    ∙ eq-eqb site.id site.id refl)

-- where closed sites never err, an error is at a site of the table
pub errs_at_open : (tree : Tree) (open_sites : List Site) → ClosedNeverErr tree open_sites → (input : List ℕ) (turns site : ℕ)
    → (meaning tree input turns).ending ≡ Error site → is_among (site_table open_sites) site ≡ true
errs_at_open tree open_sites never input turns site errs =
    let found = never input turns site errs in
    subst (λ id. is_among (site_table open_sites) id ≡ true) found.3 (among_open open_sites found.0 found.2)
