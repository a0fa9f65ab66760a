-- The widest certificate is in order.
use Rattle.std.proofs.Common.{arith, ◌≡◌, ◌∙◌, ap, refl, ℕ, Bool, true, false, cond, not, ◌&&◌, List, [], ◌∷◌, ◌++◌, length, map, filter, append-nil}
use Rattle.std.proofs.Common.{Option, Some, None, nat_eq}
use Rattle.std.specs.List.{range_with_len}
use Rattle.std.specs.Option.{option_map}
use Rattle.std.specs.Ordering.{is_lt, nat_cmp, ordering_then}
use Rattle.std.specs.Prelude.{flat_map, nat_lt, slice_get}
use Rattle.std.specs.declared.cmp.Ordering.{Ordering}
use Rattle.std.specs.declared.cmp.Ordering.TheVariants.{Equal, Greater, Less}
use Rattle.std.proofs.lemmas.Bool.{and_from, and_parts, false≢true}
use Rattle.std.proofs.lemmas.Bool.Decides.{nat_tests}
use Rattle.std.proofs.lemmas.Cmp.{nat_cmp_total, tied_itself}
use Rattle.domain.specs.declared.versions.Version.{Version}
use Rattle.certificate.specs.declared.AliasPair.{AliasPair}
use Rattle.certificate.specs.Contents.{LoopClaims, Section, are_claims, are_in_order, are_listed, claim_order, claims_of_block, comes_behind, is_empty}
use Rattle.certificate.specs.Contents.{is_loop, is_right, is_section, is_small, pair_order}
use Rattle.certificate.specs.Lines.{Alias, Change, ClaimLine}
use Rattle.typed_tree.specs.declared.tree.Tree.{Tree}
use Rattle.typed_tree.specs.WellFormed.{is_visible, outline_of}
use Rattle.checker_calls.specs.Names.{is_outward, is_variable_parameter, stands_in}
use Rattle.plain_certificate.specs.Widest.{HasNumbers, HasNumbersFor, block_pairs, is_vacant, loop_with, loops_of, loops_with, may_pair, outward_roots}
use Rattle.plain_certificate.specs.Widest.{paired_roots, parameters_of, roots_where, section_of, visible_roots, widest}
use Rattle.plain_certificate.proofs.Ascending.{ascends, begun, earlier, joined, kept, kept-made, made, right-too, up-from}

-- ---- pairs

abbrev pair : ℕ → ℕ → AliasPair
pair first second = record { first = first; second = second }

then-less : (one other : Ordering) → is_lt one ≡ true → is_lt (ordering_then one other) ≡ true
then-less Less other less = refl
then-less Equal other less = absurd (false≢true less)
then-less Greater other less = absurd (false≢true less)

-- pairs with a first one come behind those of an earlier one
behind-pair : (last : Option AliasPair) (first second : ℕ) → comes_behind nat_cmp (option_map (λ one. one.first) last) first ≡ true
    → comes_behind pair_order last (pair first second) ≡ true
behind-pair None first second behind = refl
behind-pair (Some last) first second behind = then-less (nat_cmp last.first first) (nat_cmp last.second second) behind

-- pairs of one number ascend as those that it is with
same-first : (first : ℕ) → (λ (a b : ℕ). pair_order (pair first a) (pair first b)) ≡ nat_cmp
same-first first =
    let behind : (Ordering → ℕ → ℕ → Ordering) = λ order a b. ordering_then order (nat_cmp a b) in
    ap behind (tied_itself nat_cmp_total first)

with-listed : (right : AliasPair → Bool) (first : ℕ) (last : Option AliasPair) → comes_behind nat_cmp (option_map (λ one. one.first) last) first ≡ true
    → (seconds : List ℕ) → ascends (λ second. right (pair first second)) None seconds ≡ true
    → are_listed pair_order (λ one. one) right last (map (pair first) seconds) ≡ true
with-listed right first last behind seconds listed =
    begun pair_order (λ one. one) right (pair first) last (λ second. behind-pair last first second behind) seconds
    (made pair_order (λ one. one) right (pair first) None seconds
    ∙ ap (λ (order : ℕ → ℕ → Ordering). are_listed order (λ one. one) (λ second. right (pair first second)) None seconds) (same-first first)
    ∙ listed)

-- pairs ascend where their first ones do, and for each of these their second ones
pairs-listed : (right : AliasPair → Bool) (seconds : ℕ → List ℕ) (last : Option AliasPair) (firsts : List ℕ)
    → ascends (λ first. ascends (λ second. right (pair first second)) None (seconds first)) (option_map (λ one. one.first) last) firsts ≡ true
    → are_listed pair_order (λ one. one) right last (flat_map (λ first. map (pair first) (seconds first)) firsts) ≡ true
pairs-listed right seconds last [] listed = refl
pairs-listed right seconds last (first ∷ more) listed =
    let each : (ℕ → Bool) = λ one. ascends (λ second. right (pair one second)) None (seconds one) in
    let parts = and_parts (comes_behind nat_cmp (option_map (λ (one : AliasPair). one.first) last) first) _ listed in
    let rest = and_parts (each first) (ascends each (Some first) more) parts.1 in
    joined pair_order (λ one. one) right (pair first) (flat_map (λ one. map (pair one) (seconds one)) more)
    (λ second. pairs-listed right seconds (Some (pair first second)) more rest.1) last
    (pairs-listed right seconds last more (earlier each (option_map (λ one. one.first) last) first more parts.0 rest.1))
    (seconds first) (with-listed right first last parts.0 (seconds first) rest.0)

-- ---- claims

-- the changes of a block or a loop
changes-listed : (version : Version) (in_loop : Bool) (roots : List ℕ) → ascends is_small None roots ≡ true
    → are_claims version in_loop (map Change roots) ≡ true
changes-listed version in_loop roots listed =
    made claim_order (λ claim. claim) (is_right version in_loop) Change None roots
    ∙ right-too is_small (λ root. is_right version in_loop (Change root)) (λ root small. and_from (is_small root) true small refl) None roots listed

-- pairs and then changes
claims-listed : (version : Version) (pairs : List AliasPair) (roots : List ℕ)
    → are_listed pair_order (λ one. one) (λ one. is_right version false (Alias one)) None pairs ≡ true
    → ascends is_small None roots ≡ true → are_claims version false (map Alias pairs ++ (map Change roots ++ [])) ≡ true
claims-listed version pairs roots listed ascend =
    let changes = changes-listed version false roots ascend in
    ap (λ (more : List ClaimLine). are_claims version false (map Alias pairs ++ more)) (append-nil (map Change roots))
    ∙ joined claim_order (λ claim. claim) (is_right version false) Alias (map Change roots)
    (λ one. begun claim_order (λ claim. claim) (is_right version false) Change (Some (Alias one)) (λ root. refl) roots changes) None changes pairs
    (made claim_order (λ claim. claim) (is_right version false) Alias None pairs ∙ listed)

-- ---- loops

loop-listed : (version : Version) (root : ℕ) (roots : List ℕ) (number : ℕ) → ascends is_small None (root ∷ roots) ≡ true → is_small number ≡ true
    → is_loop version (loop_with (root ∷ roots) number) ≡ true
loop-listed version root roots number ascend small =
    and_from (is_small number) _ small
    (ap (are_claims version true) (append-nil (map Change (root ∷ roots))) ∙ changes-listed version true (root ∷ roots) ascend)

loops-listed : (version : Version) (roots numbers : List ℕ) → ascends is_small None roots ≡ true → ascends is_small None numbers ≡ true
    → are_listed nat_cmp (λ claims. claims.number) (is_loop version) None (loops_with roots numbers) ≡ true
loops-listed version [] numbers ascend listed = refl
loops-listed version (root ∷ roots) numbers ascend listed =
    made nat_cmp (λ claims. claims.number) (is_loop version) (loop_with (root ∷ roots)) None numbers
    ∙ right-too is_small (λ number. is_loop version (loop_with (root ∷ roots) number))
    (λ number small. loop-listed version root roots number ascend small) None numbers listed

-- ---- sections

-- what isn't vacant claims something
some-claimed : (pairs : List AliasPair) (roots : List ℕ) (loops : List LoopClaims)
    → not (is_empty pairs && (is_empty roots && is_empty loops)) ≡ true
    → not (is_empty (map Alias pairs ++ (map Change roots ++ [])) && is_empty loops) ≡ true
some-claimed [] [] loops some = some
some-claimed [] (root ∷ roots) loops some = refl
some-claimed (pair ∷ pairs) roots loops some = refl

section-listed : (version : Version) (block : ℕ) (pairs : List AliasPair) (roots : List ℕ) (loops : List LoopClaims) → is_small block ≡ true
    → are_claims version false (map Alias pairs ++ (map Change roots ++ [])) ≡ true
    → are_listed nat_cmp (λ claims. claims.number) (is_loop version) None loops ≡ true → not (is_empty pairs && (is_empty roots && is_empty loops)) ≡ true
    → is_section version (record { block = block; aliases = pairs; changes = roots; entry = []; exit = []; loops = loops }) ≡ true
section-listed version block pairs roots loops small claims listed some =
    let all = map Alias pairs ++ (map Change roots ++ []) in
    and_from (is_small block) _ small
    (and_from (not (is_empty all && is_empty loops)) _ (some-claimed pairs roots loops some)
    (and_from (are_claims version false all) (are_listed nat_cmp (λ claims. claims.number) (is_loop version) None loops) claims listed))

-- ---- the certificate

small-below : (count number : ℕ) → HasNumbersFor count → nat_lt number count ≡ true → is_small number ≡ true
small-below count number within less = grind (arith, nat_tests)

-- numbers of a table that are kept ascend
numbers-ascend : (test : ℕ → Bool) (count : ℕ) → HasNumbersFor count → ascends is_small None (filter test (range_with_len 0 count)) ≡ true
numbers-ascend test count within =
    kept test (λ number. nat_lt number count) is_small (λ number passes less. small-below count number within less) None (range_with_len 0 count)
    (up-from None 0 count count refl (omega arith))

module _ (version : Version) (tree : Tree) (numbers : HasNumbers tree) where
  roots-ascend : (test : ℕ → Bool) → ascends is_small None (roots_where tree test) ≡ true
  roots-ascend test = numbers-ascend test (length tree.variables.items) numbers.0

  -- those that a variable may be in a pair with
  others : ℕ → ℕ → List ℕ
  others block first = cond (is_variable_parameter tree block first) (paired_roots tree block) (parameters_of tree block)

  others-ascend : (block first : ℕ) → ascends is_small None (others block first) ≡ true
  unfolding others
  others-ascend block first = by (is_variable_parameter tree block first)
    where
      by : (b : Bool) → ascends is_small None (cond b (paired_roots tree block) (parameters_of tree block)) ≡ true
      by true = roots-ascend (may_pair tree block)
      by false = roots-ascend (is_variable_parameter tree block)

  seconds-listed : (block first : ℕ) → is_small first ≡ true
      → ascends (λ second. is_right version false (Alias (pair first second))) None (filter (nat_lt first) (others block first)) ≡ true
  seconds-listed block first small =
      kept (nat_lt first) is_small (λ second. is_right version false (Alias (pair first second)))
      (λ second less small_too. and_from (is_small first && is_small second) (nat_lt first second)
      (and_from (is_small first) (is_small second) small small_too) less) None (others block first) (others-ascend block first)

  block-pairs-listed : (block : ℕ) → are_listed pair_order (λ one. one) (λ one. is_right version false (Alias one)) None (block_pairs tree block) ≡ true
  unfolding others
  block-pairs-listed block =
      pairs-listed (λ one. is_right version false (Alias one)) (λ first. filter (nat_lt first) (others block first)) None (paired_roots tree block)
      (right-too is_small (λ first. ascends (λ second. is_right version false (Alias (pair first second))) None (filter (nat_lt first) (others block first)))
      (seconds-listed block) None (paired_roots tree block) (roots-ascend (may_pair tree block)))

  block-claims-listed : (block : ℕ) → are_claims version false (claims_of_block (section_of tree block)) ≡ true
  block-claims-listed block = by (nat_eq block 0)
    where
      by : (main : Bool) → are_claims version false
          (map Alias (cond main [] (block_pairs tree block)) ++ (map Change (cond main [] (outward_roots tree block)) ++ [])) ≡ true
      by true = refl
      by false = claims-listed version (block_pairs tree block) (outward_roots tree block) (block-pairs-listed block) (roots-ascend (is_outward tree block))

  is-section : (block : ℕ) → not (is_vacant (section_of tree block)) ≡ true → is_small block ≡ true → is_section version (section_of tree block) ≡ true
  is-section block some small =
      let section = section_of tree block in
      section-listed version block section.aliases section.changes section.loops small (block-claims-listed block)
      (loops-listed version (visible_roots tree block) (loops_of tree block) (roots-ascend (is_visible (outline_of tree) block))
      (numbers-ascend (λ number. stands_in block (slice_get tree.loops.items number)) (length tree.loops.items) numbers.1)) some

  -- the widest certificate is in order
  pub widest-is-in-order : are_in_order version (widest tree) ≡ true
  widest-is-in-order =
      let count = length tree.blocks.items in
      let blocks = range_with_len 0 count in
      let lists : (Section → Bool) = λ section. not (is_vacant section) in
      ap (are_in_order version) (kept-made lists (section_of tree) blocks)
      ∙ made nat_cmp (λ section. section.block) (is_section version) (section_of tree) None (filter (λ block. lists (section_of tree block)) blocks)
      ∙ kept (λ block. lists (section_of tree block)) (λ block. nat_lt block count) (λ block. is_section version (section_of tree block))
      (λ block some less. is-section block some (small-below count block numbers.2 less)) None blocks (up-from None 0 count count refl (omega arith))
