-- A well formed tree of few entries isn't too large for the checker.
use Rattle.std.proofs.Common.{arith, ◌≡◌, ⊎_elim, ◌∙◌, sym, ap, refl, ℕ, List, [], ◌∷◌, Option, length, length-append}
use Rattle.std.specs.Prelude.{◌≤◌, ◌^◌, slice_get}
use Rattle.std.specs.List.{flat_map, range_with_len, sum_by}
use Rattle.std.proofs.lemmas.List.Sorted.{sum_by-IsPermutation}
use Rattle.std.proofs.lemmas.List.Sums.{sum_by-cons}
use Rattle.std.proofs.lemmas.List.Concat.{flat_map-cons}
use Rattle.typed_tree.specs.declared.tree.Tree.{Tree}
use Rattle.typed_tree.specs.declared.tree.Block.{Block}
use Rattle.typed_tree.specs.Entries.{entries_in_text, entries_of, entries_of_block, of_block}
use Rattle.typed_tree.specs.WellFormed.{IsWellFormed, most_entries}
use Rattle.cert_checker.specs.Promise.{IsHuge}
use Rattle.cert_checker.specs.Visits.{most_counted}
use Rattle.cert_checker.proofs.SoundProgram.{over-blocks}

long-joined : {A : Type 0} (part : A → List ℕ) (xs : List A) → length (flat_map part xs) ≡ sum_by (λ x. length (part x)) xs
long-joined part [] = refl
long-joined part (x ∷ xs) =
    let both = length-append (part x) (flat_map part xs) in
    let rest = long-joined part xs in
    let all = sum_by-cons (λ y. length (part y)) x xs in
    ap length (flat_map-cons part x xs) ∙ omega (arith, both, rest, all)

-- as many entries stand in the order of the text
entries-in_text : (tree : Tree) → IsWellFormed tree → length (entries_of tree) ≡ length (entries_in_text tree)
entries-in_text tree well =
    let blocks = tree.blocks.items in
    let part = λ (number : ℕ). of_block (λ number. entries_of_block) number (slice_get blocks number) in
    let of_number = λ (number : ℕ) (found : Option Block). length (of_block (λ number. entries_of_block) number found) in
    long-joined entries_of_block blocks
    ∙ sym (over-blocks of_number (λ block. length (entries_of_block block)) (λ k block. refl) blocks)
    ∙ sym (sum_by-IsPermutation (λ k. length (part k)) (range_with_len 0 (length blocks)) tree.bodies.items well.bodies)
    ∙ sym (long-joined part tree.bodies.items)

pub not-huge : (tree : Tree) → IsWellFormed tree → length (entries_in_text tree) ≤ most_entries → IsHuge tree → ⊥
not-huge tree well few huge =
    let same = entries-in_text tree well in
    ⊎_elim (λ (many : 2 ^ 32 ≤ length tree.variables.items). omega (arith, many, well.few_variables))
    (⊎_elim (λ (many : 2 ^ 32 ≤ length tree.blocks.items). omega (arith, many, well.few_blocks))
    (λ (many : most_counted ≤ length (entries_of tree)). omega (arith, many, few, same))) huge
