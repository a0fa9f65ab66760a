-- The rows of a span, one after another, as the uses of what is accessed go over them.
use Rattle.std.proofs.Common.{arith, ◌≡◌, ◌∙◌, sym, ap, ℕ, suc, ◌+◌, ◌-◌, ◌<◌, ◌≤◌, Bool, ◌&&◌, List, [], ◌∷◌, ◌++◌, append_assoc}
use Rattle.std.specs.List.{range_with_len}
use Rattle.typed_tree.specs.declared.tree.Tree.{Tree}
use Rattle.domain.specs.Interval.{Interval, joined}
use Rattle.checker_rows.specs.declared.span.Span.{Span}
use Rattle.checker_rows.specs.View.{numbers}
use Rattle.checker_state.specs.State.{State, range_of, table_of, with_defined}
use Rattle.checker_state.specs.Stores.{Reach, gives_reached}
use Rattle.checker_trail.specs.declared.state.State.{State as Kept}
use Rattle.checker_trail.specs.Trail.{Moves, seen}
use Rattle.checker_trail.proofs.Ways.{moves-as, moves-stay, moves-then}
use Rattle.checker_expressions.specs.Walk.{all_defined, all_joined, is_covered, ranges_of}

-- those from one of them on
abbrev pub rows_from : ℕ → ℕ → List ℕ
rows_from row end = range_with_len row (end - row)

pub from-first : (span : Span) (end : ℕ) → end ≡ span.first + span.count → rows_from span.first end ≡ numbers span
from-first span end is =
    let count : end - span.first ≡ span.count = omega (arith, is) in
    ap (range_with_len span.first) count

pub rows-cut : (row end : ℕ) → row < end → rows_from row end ≡ row ∷ rows_from (row + 1) end
rows-cut row end inside =
    let count : end - row ≡ (end - (row + 1)) + 1 = omega (arith, inside) in
    ap (range_with_len row) count ∙ rows-more row (end - (row + 1))
  where
    rows-more : (row count : ℕ) → range_with_len row (count + 1) ≡ row ∷ range_with_len (row + 1) count
    rows-more row count =
        let e : count + 1 ≡ suc count = omega arith in
        ap (range_with_len row) e

pub rows-past : (row end : ℕ) → end ≤ row → rows_from row end ≡ []
rows-past row end past =
    let count : end - row ≡ 0 = omega (arith, past) in
    ap (range_with_len row) count

-- ---- whether they are covered

-- that turns on the first and on those behind it
pub covered-cut : (tree : Tree) (state : State) (reach : Reach) (row end : ℕ) {gives : Bool} → row < end
    → gives ≡ gives_reached (table_of tree) state reach row
    → is_covered tree state reach (rows_from row end) ≡ (gives && is_covered tree state reach (rows_from (row + 1) end))
covered-cut tree state reach row end inside is =
    ap (is_covered tree state reach) (rows-cut row end inside)
    ∙ ap (λ b. b && is_covered tree state reach (rows_from (row + 1) end)) (sym is)

-- ---- their ranges

pub ranges-cut : (state : State) (row end : ℕ) (items : List Interval) {range : Interval} → row < end → range ≡ range_of state row
    → items ++ ranges_of state (rows_from row end) ≡ (items ++ range ∷ []) ++ ranges_of state (rows_from (row + 1) end)
ranges-cut state row end items {range = range} inside is =
    ap (λ rows. items ++ ranges_of state rows) (rows-cut row end inside)
    ∙ ap (λ (r : Interval). items ++ (r ∷ ranges_of state (rows_from (row + 1) end))) (sym is)
    ∙ sym (append_assoc items (range ∷ []) (ranges_of state (rows_from (row + 1) end)))

pub joined-cut : (state : State) (left row end : ℕ) {behind here : Interval} (range : Interval) → left ≡ suc row → row < end
    → behind ≡ all_joined (ranges_of state (rows_from left end)) → here ≡ range_of state row → range ≡ joined here behind
    → range ≡ all_joined (ranges_of state (rows_from row end))
joined-cut state left row end {behind = behind} {here = here} range left_is inside behind_is here_is is =
    let next : left ≡ row + 1 = omega (arith, left_is) in
    is ∙ ap (λ (r : Interval). joined r behind) here_is ∙ ap (joined (range_of state row)) behind_is
    ∙ ap (λ n. joined (range_of state row) (all_joined (ranges_of state (rows_from n end)))) next
    ∙ ap (λ rows. all_joined (ranges_of state rows)) (sym (rows-cut row end inside))

-- ---- they become defined

pub defined-begun : (span : Span) (end : ℕ) {old new : Kept} → end ≡ span.first + span.count → Moves (all_defined (rows_from span.first end)) old new
    → Moves (all_defined (numbers span)) old new
defined-begun span end {old = old} is moves =
    moves-as (all_defined (numbers span)) moves (ap (λ rows. all_defined rows (seen old)) (from-first span end is))

pub defined-cut : (row end : ℕ) {old mid new : Kept} → row < end → Moves (with_defined row) old mid → Moves (all_defined (rows_from (row + 1) end)) mid new
    → Moves (all_defined (rows_from row end)) old new
defined-cut row end {old = old} inside one rest =
    moves-as (all_defined (rows_from row end)) (moves-then one rest) (ap (λ rows. all_defined rows (seen old)) (sym (rows-cut row end inside)))

pub defined-past : (row end : ℕ) (state : Kept) → end ≤ row → Moves (all_defined (rows_from row end)) state state
defined-past row end state past =
    moves-stay (all_defined (rows_from row end)) state (ap (λ rows. all_defined rows (seen state)) (sym (rows-past row end past)))
