-- Bounds of a callee where it is called: forms and ranges that are greater by a number, and those of variables.
use Rattle.std.proofs.Common.{arith, ◌≡◌, ◌∙◌, sym, ap, ap₂, refl, ℕ, ℤ, pos, ◌+ℤ◌, Bool, true, false, cond, not, ◌&&◌, ◌||◌, nat_eq, List, [], ◌∷◌}
use Rattle.std.proofs.Common.{map, length, Option, Some, None}
use Rattle.std.specs.List.{Contains}
use Rattle.std.specs.Prelude.{int_le, int_lt, option_map, slice_get}
use Rattle.std.proofs.lemmas.Int.{ints}
use Rattle.std.proofs.lemmas.Option.{slice_get_past}
use Rattle.domain.specs.Interval.{Interval}
use Rattle.types.specs.Types.{is_structured}
use Rattle.typed_tree.specs.Accesses.{Origin, root_of}
use Rattle.typed_tree.specs.declared.tree.PathStep.{PathStep}
use Rattle.typed_tree.specs.declared.tree.Selector.{Selector}
use Rattle.typed_tree.specs.declared.tree.Tree.{Tree}
use Rattle.typed_tree.specs.declared.tree.Variable.{Variable}
use Rattle.typed_tree.specs.WellFormed.{of_one}
use Rattle.checker_rows.specs.Leaves.{LeafStep}
use Rattle.checker_rows.specs.Rows.{is_structured_variable, is_under, is_variable_row, leaf_rows, numbers_where, own_row, rows_accessed}
use Rattle.checker_rows.specs.Rows.{rows_under, steps_accessed}
use Rattle.checker_rows.proofs.Numbered.{contains-has, in-numbers}
use Rattle.checker_state.specs.declared.bound.Bound.{Bound as KeptBound}
use Rattle.checker_state.specs.declared.ends.Ends.{Ends}
use Rattle.checker_state.specs.Bounds.{Bound, plus, raised_bound}
use Rattle.checker_state.specs.State.{State, is_below, moved}
use Rattle.checker_state.specs.Stores.{Reach}
use Rattle.checker_state.specs.Terms.{bound_of_parts}
use Rattle.checker_state.specs.View.{AreEnds, said_form}
use Rattle.checker_calls.specs.Actuals.{Actual, Bearer, OfVariable, Reached, way_accessed}
use Rattle.checker_calls.specs.Entry.{Limit, forms_at_most, is_at_most, limit_moved, limit_of, limit_of_actual, limit_of_variable}
use Rattle.checker_calls.proofs.Origins.{whole-rows, whole-way}

-- ---- what is greater by a number

pub term-moved : (form : Option KeptBound) (bound : KeptBound) (number by sum : ℤ) → form ≡ Some bound → sum ≡ (bound.number +ℤ number) +ℤ by
    → Some (bound_of_parts bound.root sum) ≡ option_map (raised_bound by) (option_map (raised_bound number) (said_form form))
term-moved form bound number by sum is sum_is =
    ap (λ (n : ℤ). Some (bound_of_parts bound.root n)) sum_is
    ∙ ap (λ (f : Option KeptBound). option_map (raised_bound by) (option_map (raised_bound number) (said_form f))) (sym is)

more-none : (n : ℤ) → n +ℤ pos 0 ≡ n
more-none n = omega (arith, ints)

range-still : (range : Interval) → moved (pos 0) range ≡ range
range-still range = ap₂ (λ (first last : ℤ). record { first = first; last = last }) (more-none range.first) (more-none range.last)

form-still : (form : Option Bound) → option_map (raised_bound (pos 0)) form ≡ form
form-still None = refl
form-still (Some bound) = ap (λ (n : ℤ). Some (bound_of_parts bound.root n)) (more-none bound.number)

pub limit-still : (limit : Limit) → limit_moved (pos 0) limit ≡ limit
limit-still limit =
    ap₂ (λ (form : Option Bound) (range : Interval). let one : Limit = record { form = form; range = range; has_value = limit.has_value } in one)
    (form-still limit.form) (range-still limit.range)

-- ---- tests

pub ends-below : (one other : Ends) (a b : Interval) → AreEnds one a → AreEnds other b
    → (not (int_lt one.last one.first || int_lt other.last other.first) && int_le one.last other.first) ≡ is_below a b
ends-below one other a b one_is other_is =
    let test = λ (first last other_first other_last : ℤ). not (int_lt last first || int_lt other_last other_first) && int_le last other_first in
    ap₂ (λ (first last : ℤ). test first last other.first other.last) one_is.first_is one_is.last_is
    ∙ ap₂ (λ (first last : ℤ). test a.first a.last first last) other_is.first_is other_is.last_is

-- a limit is at most another exactly where its range is, if its form is not
pub else-below : (state : State) (a b : Limit) (one other : Option Bound) (forms below : Bool) → one ≡ a.form → other ≡ b.form
    → forms ≡ forms_at_most state one other → forms ≡ false → below ≡ is_below a.range b.range → below ≡ is_at_most state a b
else-below state a b one other forms below one_is other_is is none below_is =
    below_is
    ∙ ap (λ (t : Bool). t || is_below a.range b.range) (sym none ∙ is ∙ ap₂ (forms_at_most state) one_is other_is)

-- ---- variables

none-more : (n : ℤ) → pos 0 +ℤ n ≡ n
none-more n = omega (arith, ints)

still-more : (first n : ℤ) → (first +ℤ pos 0) +ℤ n ≡ first +ℤ n
still-more first n = omega (arith, ints)

plus-moved : (tree : Tree) (state : State) (root : ℕ) (number : ℤ)
    → limit_moved number (limit_of tree state (plus root (pos 0))) ≡ limit_of tree state (plus root number)
plus-moved tree state root number =
    let limit = limit_of tree state (plus root number) in
    let range = moved (pos 0) (limit_of tree state (plus root (pos 0))).range in
    ap₂ (λ (form : Option Bound) (range : Interval). let one : Limit = record { form = form; range = range; has_value = limit.has_value } in one)
    (ap (λ (n : ℤ). Some (plus root n)) (none-more number))
    (ap₂ (λ (first last : ℤ). let one : Interval = record { first = first; last = last } in one) (still-more _ number) (still-more _ number))

pub said-plus : (tree : Tree) (state : State) (root : ℕ) (number : ℤ) (limit : Limit) (bound : Bound) → bound ≡ plus root number
    → limit ≡ limit_of tree state bound → limit ≡ limit_moved number (limit_of tree state (plus root (pos 0)))
said-plus tree state root number limit bound bound_is is =
    is ∙ ap (limit_of tree state) bound_is ∙ sym (plus-moved tree state root number)

module _ (tree : Tree) (state : State) (reach : Reach) where
  -- what bears the rows of a variable that is accessed
  abbrev borne : List ℕ → List Bearer
  borne rows = map (λ row. Reached row reach) rows

  variable-plain : (root : ℕ) → is_variable_row tree root ≡ true → is_structured_variable tree root ≡ false
  variable-plain root = by (slice_get tree.variables.items root)
    where
      by : (found : Option Variable) → of_one (λ (variable : Variable). not (is_structured tree.types variable.type_id)) found ≡ true
          → of_one (λ (variable : Variable). is_structured tree.types variable.type_id) found ≡ false
      by None is = absurd (cc)
      by (Some variable) is = of (is_structured tree.types variable.type_id) is
        where
          of : (b : Bool) → not b ≡ true → b ≡ false
          of true is = absurd (cc)
          of false is = refl

  -- an entire variable that is not structured
  entire-limit : (root : ℕ) → is_variable_row tree root ≡ true
      → limit_of_variable tree state (borne (rows_under tree root [])) ≡ Some (limit_of tree state (plus root (pos 0)))
  entire-limit root is =
      ap (λ (b : Bool). limit_of_variable tree state
      (borne (cond b (numbers_where (is_under root []) (length tree.variables.items) (leaf_rows tree)) (own_row root [])))) (variable-plain root is)
      ∙ ap (λ (b : Bool). cond b (Some (limit_of tree state (plus root (pos 0)))) None) is

  -- rows that are no variables' own
  rows-none : (rows : List ℕ) → ((row : ℕ) → Contains rows row → is_variable_row tree row ≡ false) → limit_of_variable tree state (borne rows) ≡ None
  rows-none [] none = refl
  rows-none (row ∷ []) none =
      ap (λ (b : Bool). cond b (Some (limit_of tree state (plus row (pos 0)))) None) (none row (0, omega arith, refl))
  rows-none (row ∷ other ∷ rows) none = refl

  leaf-none : (root : ℕ) (steps : List LeafStep) (row : ℕ)
      → Contains (numbers_where (is_under root steps) (length tree.variables.items) (leaf_rows tree)) row → is_variable_row tree row ≡ false
  leaf-none root steps row inside =
      let rows = numbers_where (is_under root steps) (length tree.variables.items) (leaf_rows tree) in
      let found = in-numbers (is_under root steps) (length tree.variables.items) (leaf_rows tree) row (contains-has rows row inside) in
      ap (of_one (λ (variable : Variable). not (is_structured tree.types variable.type_id)))
      (slice_get_past tree.variables.items row (omega (arith, found.2)))

  own-none : (root : ℕ) (steps : List LeafStep) → (steps ≡ [] → is_variable_row tree root ≡ false)
      → limit_of_variable tree state (borne (own_row root steps)) ≡ None
  own-none root [] none = ap (λ (b : Bool). cond b (Some (limit_of tree state (plus root (pos 0)))) None) (none refl)
  own-none root (step ∷ steps) none = refl

  under-none : (root : ℕ) (steps : List LeafStep) (structured : Bool) → (steps ≡ [] → is_variable_row tree root ≡ false)
      → limit_of_variable tree state
      (borne (cond structured (numbers_where (is_under root steps) (length tree.variables.items) (leaf_rows tree)) (own_row root steps)))
      ≡ None
  under-none root steps true none =
      rows-none (numbers_where (is_under root steps) (length tree.variables.items) (leaf_rows tree)) (leaf-none root steps)
  under-none root steps false none = own-none root steps none

  -- parts of variables, and structured ones
  parts-limit : (origin : Origin) (selectors : List Selector) → (way_accessed origin selectors ≡ [] → is_variable_row tree (root_of origin) ≡ false)
      → limit_of_variable tree state (borne (rows_accessed tree origin selectors)) ≡ None
  parts-limit origin selectors none =
      under-none (root_of origin) (steps_accessed origin selectors) (is_structured_variable tree (root_of origin))
      (λ is. none (whole-way origin selectors is))

-- ---- actual parameters

module _ (tree : Tree) (state : State) (reach : Reach) (formal : ℕ) (origin : Origin) (selectors : List Selector) (number : ℤ) (actual : Actual) where
  abbrev accessed : Actual
  accessed = OfVariable origin selectors reach

  pub actual-entire : (root : ℕ) (limit : Limit) (bound : Bound) → root_of origin ≡ root → actual ≡ accessed
      → nat_eq (length (way_accessed origin selectors)) 0 ≡ true → is_variable_row tree root ≡ true → bound ≡ plus root number
      → limit ≡ limit_of tree state bound → Some limit ≡ option_map (limit_moved number) (limit_of_actual tree state formal (Some actual))
  actual-entire root limit bound root_is actual_is none is bound_is limit_is =
      ap Some (said-plus tree state root number limit bound bound_is limit_is)
      ∙ ap (option_map (limit_moved number))
      (sym (entire-limit tree state reach root is)
      ∙ ap (λ (rows : List ℕ). limit_of_variable tree state (borne tree state reach rows))
      (ap (λ (r : ℕ). rows_under tree r []) (sym root_is) ∙ sym (whole-rows tree origin selectors none))
      ∙ ap (λ (a : Actual). limit_of_actual tree state formal (Some a)) (sym actual_is))

  pub actual-parts : (root : ℕ) → root_of origin ≡ root → actual ≡ accessed
      → (nat_eq (length (way_accessed origin selectors)) 0 ≡ true → is_variable_row tree root ≡ false)
      → None ≡ option_map (limit_moved number) (limit_of_actual tree state formal (Some actual))
  actual-parts root root_is actual_is none =
      ap (option_map (limit_moved number))
      (sym
      (parts-limit tree state reach origin selectors
      (λ is. ap (is_variable_row tree) root_is ∙ none (ap (λ (way : List PathStep). nat_eq (length way) 0) is)))
      ∙ ap (λ (a : Actual). limit_of_actual tree state formal (Some a)) (sym actual_is))
