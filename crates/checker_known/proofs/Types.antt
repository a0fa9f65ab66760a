-- What types tell of rows, one after another.
use Rattle.std.proofs.Common.{arith, ◌≡◌, ◌∙◌, sym, ap, ap₂, refl, ℕ, zero, suc, ◌+◌, ◌<◌, false, List, [], ◌∷◌, ◌++◌, get_or}
use Rattle.std.proofs.Common.{length, map, take}
use Rattle.std.proofs.Common.{None}
use Rattle.std.proofs.Math.ListN.{get_or-map}
use Rattle.std.proofs.lemmas.List.{length-map, map-append, take_more}
use Rattle.typed_tree.specs.declared.tree.Tree.{Tree}
use Rattle.domain.specs.Interval.{Interval}
use Rattle.checker_rows.specs.Leaves.{scalar}
use Rattle.checker_rows.specs.Limits.{row_limits}
use Rattle.checker_rows.specs.Rows.{Row, rows_of}
use Rattle.checker_known.specs.declared.knowledge.Row.{Row as KeptRow}
use Rattle.checker_state.specs.State.{RowState}
use Rattle.checker_known.specs.View.{said_row, type_rows, type_state}

type-at : (rows : List Row) (i : ℕ) (d : Row) → i < length rows → type_state (get_or rows i d)
    ≡ record { range = row_limits rows i; is_defined = false; growth = None }
type-at [] i d inside = absurd (omega (arith, inside))
type-at (row ∷ rows) zero d inside = refl
type-at (row ∷ rows) (suc i) d inside = type-at rows i d (omega (arith, inside))

-- a row more is as its type tells
pub types-more : (tree : Tree) (rows new : List KeptRow) (i : ℕ) (range : Interval) → map said_row rows ≡ take i (type_rows tree)
    → new ≡ rows ++ (let one : KeptRow = record { range = range; is_defined = false; growth = None } in one) ∷ []
    → range ≡ row_limits (rows_of tree) i → i < length (rows_of tree) → map said_row new ≡ take (i + 1) (type_rows tree)
types-more tree rows new i range so_far new_is range_is inside =
    let all = rows_of tree in
    let none : Row = record { root = 0; leaf = scalar None None } in
    let count : i < length (type_rows tree) = rw length-map inside in
    ap (map said_row) new_is ∙ map-append said_row rows _
    ∙ ap₂ (λ (front : List RowState) (r : Interval). let last : RowState = record { range = r; is_defined = false; growth = None } in front ++ last ∷ [])
    so_far range_is
    ∙ ap (λ (last : RowState). take i (type_rows tree) ++ last ∷ [])
    (sym (type-at all i none inside) ∙ sym (get_or-map type_state all i none))
    ∙ sym (take_more (type_rows tree) i (type_state none) count)
