-- How many rows have a variable that grows with the turns of a for statement so deep.
use Rattle.std.proofs.Common.{arith, ◌≡◌, ◌∙◌, sym, ap, ap₂, refl, subst, ⊎_elim, ℕ, zero, suc, ◌+◌, ◌<◌, ◌≤◌, Fits, w64, min, nat_lt}
use Rattle.std.proofs.Common.{Bool, cond, List, [], ◌∷◌, get_or, length, map, set, Option, Some, None}
use Rattle.std.proofs.lemmas.Bool.{cases_eq, cases_lt, cond_both, eq-eqb, ltb-false}
use Rattle.std.proofs.lemmas.List.{get_or_default, length-set}
use Rattle.typed_tree.specs.declared.tree.Tree.{Tree}
use Rattle.checker_rows.specs.Rows.{Row, rows_of}
use Rattle.checker_state.specs.declared.growing.Growing.{Growing}
use Rattle.checker_state.specs.Growths.{growing_outside, row_outside}
use Rattle.checker_state.specs.State.{RowState}
use Rattle.checker_known.specs.declared.knowledge.Row.{Row as KeptRow}
use Rattle.checker_known.specs.Knots.{counts, recounted}
use Rattle.checker_known.specs.View.{AreGrowing, depth_of, growing_at, said_row, type_rows, type_state}
use Rattle.checker_known.proofs.Tangles.{count-few, recounted-length, recounted-row}

-- after a row was set they are more or fewer by that one
growing-set : (depth : ℕ) (rows : List KeptRow) (i : ℕ) (now d : KeptRow) → i < length rows
    → growing_at depth (map said_row (set rows i now)) + counts depth (depth_of (get_or rows i d).growth)
    ≡ growing_at depth (map said_row rows) + counts depth (depth_of now.growth)
growing-set depth [] i now d inside = absurd (omega (arith, inside))
growing-set depth (row ∷ rows) zero now d inside = omega arith
growing-set depth (row ∷ rows) (suc i) now d inside =
    let rest = growing-set depth rows i now d (omega (arith, inside)) in
    omega (arith, rest)

-- each is one of them
growing-there : (depth : ℕ) (rows : List KeptRow) (i : ℕ) (d : KeptRow) → i < length rows
    → counts depth (depth_of (get_or rows i d).growth) ≤ growing_at depth (map said_row rows)
growing-there depth [] i d inside = absurd (omega (arith, inside))
growing-there depth (row ∷ rows) zero d inside = omega arith
growing-there depth (row ∷ rows) (suc i) d inside =
    let rest = growing-there depth rows i d (omega (arith, inside)) in
    omega (arith, rest)

growing-most : (depth : ℕ) (rows : List KeptRow) → growing_at depth (map said_row rows) ≤ length rows
growing-most depth [] = omega arith
growing-most depth (row ∷ rows) =
    let rest = growing-most depth rows in
    let first = count-few depth (depth_of row.growth) in
    omega (arith, rest, first)

-- the counts stay true where a row is set
pub row-recounted : (rows : List KeptRow) (i : ℕ) (now found : KeptRow) (most new : List ℕ) (was is : Option ℕ) → i < length rows → Fits w64 (length rows)
    → found ≡ get_or rows i found → was ≡ depth_of found.growth → is ≡ depth_of now.growth → new ≡ recounted (was, None) (is, None) most
    → AreGrowing most (map said_row rows) → AreGrowing new (map said_row (set rows i now))
row-recounted rows i now found most new was is inside short found_is was_is is_is new_is counted = λ depth within.
    let within_new : depth < length (recounted (was, None) (is, None) most) = subst (λ (some : List ℕ). depth < length some) new_is within in
    let there : depth < length most = omega (arith, within_new, recounted-length (was, None) (is, None) most) in
    let gone : counts depth was ≡ counts depth (depth_of (get_or rows i found).growth) =
    ap (counts depth) was_is ∙ ap (λ (row : KeptRow). counts depth (depth_of row.growth)) found_is in
    let come : counts depth is ≡ counts depth (depth_of now.growth) = ap (counts depth) is_is in
    let changed = growing-set depth rows i now found inside in
    let least = growing-there depth rows i found inside in
    let few = growing-most depth (set rows i now) in
    let many = length-set rows i now in
    subst (λ (some : List ℕ). growing_at depth (map said_row (set rows i now)) ≤ get_or some depth 0) (sym new_is)
    (recounted-row (was, None) (is, None) most depth (growing_at depth (map said_row rows)) (growing_at depth (map said_row (set rows i now))) within_new
    (counted depth there) (omega (arith, least, gone)) (omega (arith, changed, gone, come)) (omega (arith, few, many, short)))

none-growing : (depth : ℕ) (rows : List Row) → growing_at depth (map type_state rows) ≡ 0
none-growing depth [] = refl
none-growing depth (row ∷ rows) =
    let rest = none-growing depth rows in
    omega (arith, rest)

-- what types tell grows nowhere
pub types-grow : (tree : Tree) (most : List ℕ) → AreGrowing most (type_rows tree)
types-grow tree most = λ depth within.
    let none = none-growing depth (rows_of tree) in
    omega (arith, none)

-- ---- where none grows so deep

own-count : (depth : ℕ) → counts depth (Some depth) ≡ 1
own-count depth = ap (λ (same : Bool). cond same 1 0) (eq-eqb depth depth refl)

one-outside : (depth : ℕ) (growth : Option Growing) → ((place : ℕ) → min depth 128 ≤ place → place ≤ 128 → counts place (depth_of growth) ≡ 0)
    → growing_outside depth growth ≡ growth
one-outside depth None none = refl
one-outside depth (Some growing) none =
    cond_both (nat_lt growing.depth depth) (Some growing) None (λ left. left ≡ Some growing) (λ less. refl)
    (λ deeper.
    let past : depth ≤ growing.depth = ltb-false growing.depth depth deeper in
    let own = own-count (min growing.depth 128) in
    let nothing = none (min growing.depth 128) (omega (arith, past)) (omega arith) in
    absurd (omega (arith, own, nothing)))

all-outside : (depth : ℕ) (rows : List RowState) → ((place : ℕ) → min depth 128 ≤ place → place ≤ 128 → growing_at place rows ≡ 0)
    → map (row_outside depth) rows ≡ rows
all-outside depth [] none = refl
all-outside depth (row ∷ rows) none =
    ap₂ (λ (growth : Option Growing) (rest : List RowState). let one : RowState = record row { growth = growth } in one ∷ rest)
    (one-outside depth row.growth (λ place from to. let all = none place from to in omega (arith, all)))
    (all-outside depth rows (λ place from to. let all = none place from to in omega (arith, all)))

-- none is counted between two depths
abbrev pub NoneCounted : (most : List ℕ) (first end : ℕ) → Type 0
NoneCounted most first end = (depth : ℕ) → first ≤ depth → depth < end → get_or most depth 0 ≡ 0

pub none-first : (most : List ℕ) (first : ℕ) → NoneCounted most first first
none-first most first = λ depth from to. absurd (omega (arith, from, to))

pub none-next : (most : List ℕ) (first place found : ℕ) → place < length most → found ≡ get_or most place found → found ≤ 0
    → NoneCounted most first place → NoneCounted most first (place + 1)
none-next most first place found inside is nothing none = λ depth from to.
    ⊎_elim (λ (same : depth ≡ place).
    let zero_is : get_or most place 0 ≡ found = get_or_default most place 0 found inside ∙ sym is in
    ap (λ (at : ℕ). get_or most at 0) same ∙ (omega (arith, zero_is, nothing)))
    (λ (differ : depth ≡ place → ⊥). none depth from (ne-less depth place to differ)) (cases_eq depth place)
  where
    ne-less : (depth place : ℕ) → depth < place + 1 → (depth ≡ place → ⊥) → depth < place
    ne-less depth place less differ =
        ⊎_elim (λ (below : depth < place). below) (λ (past : place ≤ depth). absurd (differ (omega (arith, less, past)))) (cases_lt depth place)

-- where it isn't from a depth on, none grows so deep
pub none-deep : (depth end : ℕ) (most : List ℕ) (rows : List KeptRow) → 128 < length most → length most ≤ end → AreGrowing most (map said_row rows)
    → NoneCounted most (min depth 128) end → map (row_outside depth) (map said_row rows) ≡ map said_row rows
none-deep depth end most rows long past counted none =
    all-outside depth (map said_row rows)
    (λ place from to.
    let few = counted place (omega (arith, to, long)) in
    let nothing = none place from (omega (arith, to, long, past)) in
    omega (arith, few, nothing))
