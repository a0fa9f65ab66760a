-- What is known of two bounds that stand in a relation holds where they do.
use Rattle.std.proofs.Common.{arith, ◌≡◌, ⊎_elim, ◌⊎◌, inl, inr, ◌∙◌, sym, ap, subst, ℕ, ℤ, pos, ◌+ℤ◌, ◌-ℤ◌, ◌≤ℤ◌, ◌<ℤ◌, int_le, Bool, true, false, not}
use Rattle.std.proofs.Common.{cond, List, [], Option, Some, None}
use Rattle.std.specs.Ordering.{int_eq}
use Rattle.std.proofs.lemmas.Int.{ints, by_lt_z}
use Rattle.std.proofs.lemmas.Bool.{cond_both}
use Rattle.std.proofs.lemmas.Option.{same_Some}
use Rattle.typed_tree.specs.declared.tree.Relation.{Relation}
use Rattle.typed_tree.specs.declared.tree.Relation.TheVariants as relation
use Rattle.domain.specs.Interval.{Interval, HasMember, at_least, at_most}
use Rattle.domain.specs.Ranges.{at_least-has, at_most-has}
use Rattle.meaning.specs.declared.value.Value.TheVariants.{Number}
use Rattle.meaning.specs.Meaning.{relates}
use Rattle.meaning.specs.Store.{Environment, Store}
use Rattle.checker_rows.specs.Rows.{Parts}
use Rattle.checker_state.specs.Bounds.{Bound}
use Rattle.checker_state.specs.State.{Dead, Live, State, Table, bound_range, range_of, unless_empty, with_range}
use Rattle.checker_state.specs.Conditions.{bound_at_most, bound_isnt, narrowed, opposite, related, unlike, value_at_least, value_at_most}
use Rattle.checker_state.specs.Conditions.{value_isnt, with_different, with_le, with_order, with_order_of, without_first, without_last}
use Rattle.checker_state.specs.Holds.{HasNumber, IsBound, IsBoundBy, IsIn, Moment, StateHolds, moment}
use Rattle.checker_state.specs.Knows.{AreRows, Knows, Shows}
use Rattle.checker_state.proofs.Assigned.{order-holds}
use Rattle.checker_state.proofs.Bounds.{bound-in, told-of}
use Rattle.checker_state.proofs.Ranged.{in-present}
use Rattle.checker_state.proofs.Rows.{own-lies, range-holds, shown}

-- a change of states keeps what is known of a moment
abbrev pub Preserves : Environment → Store → (State → State) → Type 0
Preserves env store change =
    (rows : List Parts) (table : Table) → AreRows rows table → (state : State) → Knows rows table.variables env state store
    → Knows rows table.variables env (change state) store

le-cases : (x y : ℤ) → x ≤ℤ y → (x <ℤ y) ⊎ (x ≡ y)
le-cases x y less = by_lt_z x y (λ below. inl below) (λ above. inr (omega (arith, ints)))

differs : (x y : ℤ) → not (int_eq x y) ≡ true → x ≡ y → ⊥
differs x y is same = grind (arith, ints)

not-last : (n x : ℤ) (range : Interval) → (x ≡ n → ⊥) → HasMember range x → HasMember (without_last n range) x
not-last n x range differ inside =
    cond_both (int_eq range.last n) (at_most (n -ℤ pos 1) range) range (λ r. HasMember r x)
    (λ is.
    let same : range.last ≡ n = grind (arith, ints) in
    let high = inside.1 in
    at_most-has (n -ℤ pos 1) range x inside
    (⊎_elim (λ (below : x <ℤ n). omega (arith, ints)) (λ (same : x ≡ n). absurd (differ same)) (le-cases x n (omega (arith, ints)))))
    (λ isnt. inside)

not-first : (n x : ℤ) (range : Interval) → (x ≡ n → ⊥) → HasMember range x → HasMember (without_first n range) x
not-first n x range differ inside =
    cond_both (int_eq range.first n) (at_least (n +ℤ pos 1) range) range (λ r. HasMember r x)
    (λ is.
    let same : range.first ≡ n = grind (arith, ints) in
    let low = inside.0 in
    at_least-has (n +ℤ pos 1) range x inside
    (⊎_elim (λ (below : n <ℤ x). omega (arith, ints)) (λ (same : n ≡ x). absurd (differ (sym same))) (le-cases n x (omega (arith, ints)))))
    (λ isnt. inside)

module _ (rows : List Parts) (table : Table) (are : AreRows rows table) (env : Environment) (shows : Shows table.variables env) (store : Store) where
  abbrev m : Moment
  m = moment env store

  abbrev Here : State → Type 0
  Here state = StateHolds rows state m

  pub bound-here : (state : State) (bound : Bound) (n : ℤ) → Here state → IsBound m bound n → HasMember (bound_range state bound) n
  bound-here Dead bound n holds is = absurd holds
  bound-here (Live known) bound n holds is = bound-in rows m known (told-of rows table are env shows store known holds) bound n is

  pub root-here : (state : State) (root : ℕ) (n : ℤ) → Here state → HasNumber m root n → HasMember (range_of state root) n
  root-here Dead root n holds has = absurd holds
  root-here (Live known) root n holds has = (told-of rows table are env shows store known holds).number root n has

  -- ---- a bound and a number

  -- no run goes on from an empty range
  pub nonempty-holds : (range : Interval) (state : State) (n : ℤ) → HasMember range n → Here state → Here (unless_empty range state)
  nonempty-holds range state n inside holds = subst (λ (t : Bool). Here (cond t Dead state)) (sym (in-present range n inside)) holds

  pub narrowed-holds : (state : State) (root : ℕ) (range : Interval) (n : ℤ) → HasNumber m root n → HasMember range n → Here state
      → Here (narrowed root range state)
  narrowed-holds state root range n has inside holds =
      nonempty-holds range (with_range root range state) n inside
      (range-holds rows m state root range
      (own-lies rows table are m root (shown table.variables env shows store root [] (Number n) has) range
      (λ v is. subst (IsIn range) (same_Some (Number n) v (sym has ∙ is)) inside)) holds)

  at-most-by : (root : Option ℕ) (k x n : ℤ) (state : State) → IsBoundBy m root k x → x ≤ℤ n → Here state → Here (value_at_most root k n state)
  at-most-by None k x n state is less holds =
      let passes : int_le k n ≡ true = grind (arith, ints) in
      subst (λ (t : Bool). Here (cond t state Dead)) (sym passes) holds
  at-most-by (Some root) k x n state (old, has, is) less holds =
      narrowed-holds state root (at_most (n -ℤ k) (range_of state root)) old has
      (at_most-has (n -ℤ k) (range_of state root) old (root-here state root old holds has) (omega (arith, ints))) holds

  at-least-by : (root : Option ℕ) (k x n : ℤ) (state : State) → IsBoundBy m root k x → n ≤ℤ x → Here state → Here (value_at_least root k n state)
  at-least-by None k x n state is less holds =
      let passes : int_le n k ≡ true = grind (arith, ints) in
      subst (λ (t : Bool). Here (cond t state Dead)) (sym passes) holds
  at-least-by (Some root) k x n state (old, has, is) less holds =
      narrowed-holds state root (at_least (n -ℤ k) (range_of state root)) old has
      (at_least-has (n -ℤ k) (range_of state root) old (root-here state root old holds has) (omega (arith, ints))) holds

  isnt-by : (root : Option ℕ) (k x n : ℤ) (state : State) → IsBoundBy m root k x → (x ≡ n → ⊥) → Here state → Here (value_isnt root k n state)
  isnt-by None k x n state is differ holds =
      cond_both (int_eq k n) Dead state Here (λ same. absurd (differ (grind (arith, ints)))) (λ apart. holds)
  isnt-by (Some root) k x n state (old, has, is) differ holds =
      let number = n -ℤ k in
      let apart : old ≡ number → ⊥ = λ same. differ (omega (arith, ints)) in
      narrowed-holds state root (without_last number (without_first number (range_of state root))) old has
      (not-last number old (without_first number (range_of state root)) apart
      (not-first number old (range_of state root) apart (root-here state root old holds has))) holds

  -- ---- two bounds

  order-by : (one other : Option ℕ) (i k j x y : ℤ) (state : State) → IsBoundBy m one i x → IsBoundBy m other j y → (x +ℤ k) ≤ℤ y → Here state
      → Here (with_order_of one i k other j state)
  order-by None other i k j x y state left right less holds = holds
  order-by (Some root) None i k j x y state left right less holds = holds
  order-by (Some root) (Some by) i k j x y state (p, p_is, x_is) (q, q_is, y_is) less holds =
      order-holds rows m state root by p q ((j -ℤ i) -ℤ k) p_is q_is (omega (arith, ints)) holds

  pub with_order-holds : (state : State) (a b : Bound) (x y k : ℤ) → IsBound m a x → IsBound m b y → (x +ℤ k) ≤ℤ y → Here state
      → Here (with_order a k b state)
  with_order-holds state a b x y k left right less holds = order-by a.root b.root a.number k b.number x y state left right less holds

  le-holds : (state : State) (a b : Bound) (x y k : ℤ) → IsBound m a x → IsBound m b y → (x +ℤ k) ≤ℤ y → Here state → Here (with_le a k b state)
  le-holds state a b x y k left right less holds =
      let first = (bound_range state a).first in
      let last = (bound_range state b).last in
      let low = (bound-here state a x holds left).0 in
      let high = (bound-here state b y holds right).1 in
      at-least-by b.root b.number y (first +ℤ k) (bound_at_most a (last -ℤ k) (with_order a k b state)) right (omega (arith, ints, low, less))
      (at-most-by a.root a.number x (last -ℤ k) (with_order a k b state) left (omega (arith, ints, high, less))
      (with_order-holds state a b x y k left right less holds))

  unlike-holds : (state : State) (a : Bound) (x y : ℤ) (range : Interval) → IsBound m a x → HasMember range y → (x ≡ y → ⊥) → Here state
      → Here (unlike a range state)
  unlike-holds state a x y range left inside differ holds =
      cond_both (int_eq range.first range.last) (bound_isnt a range.first state) state Here
      (λ single.
      let low = inside.0 in
      let high = inside.1 in
      let one : range.first ≡ range.last = grind (arith, ints) in
      let only : y ≡ range.first = omega (arith, ints) in
      isnt-by a.root a.number x range.first state left (λ same. differ (same ∙ sym only)) holds)
      (λ several. holds)

  different-holds : (state : State) (a b : Bound) (x y : ℤ) → IsBound m a x → IsBound m b y → (x ≡ y → ⊥) → Here state → Here (with_different a b state)
  different-holds state a b x y left right differ holds =
      let one = unlike a (bound_range state b) state in
      let one_holds = unlike-holds state a x y (bound_range state b) left (bound-here state b y holds right) differ holds in
      unlike-holds one b y x (bound_range one a) right (bound-here one a x one_holds left) (λ same. differ (sym same)) one_holds

  related-holds : (r : Relation) (state : State) (a b : Bound) (x y : ℤ) → IsBound m a x → IsBound m b y → relates r x y ≡ true → Here state
      → Here (related r a b state)
  related-holds relation.Equal state a b x y left right is holds =
      let same : x ≡ y = grind (arith, ints) in
      le-holds (with_le a (pos 0) b state) b a y x (pos 0) right left (omega (arith, ints))
      (le-holds state a b x y (pos 0) left right (omega (arith, ints)) holds)
  related-holds relation.NotEqual state a b x y left right is holds = different-holds state a b x y left right (λ same. absurd (differs x y is same)) holds
  related-holds relation.Less state a b x y left right is holds =
      let less : x <ℤ y = grind (arith, ints) in
      le-holds state a b x y (pos 1) left right (omega (arith, ints)) holds
  related-holds relation.Greater state a b x y left right is holds =
      let less : y <ℤ x = grind (arith, ints) in
      le-holds state b a y x (pos 1) right left (omega (arith, ints)) holds
  related-holds relation.LessOrEqual state a b x y left right is holds =
      let less : x ≤ℤ y = grind (arith, ints) in
      le-holds state a b x y (pos 0) left right (omega (arith, ints)) holds
  related-holds relation.GreaterOrEqual state a b x y left right is holds =
      let less : y ≤ℤ x = grind (arith, ints) in
      le-holds state b a y x (pos 0) right left (omega (arith, ints)) holds

pub related-preserves : (env : Environment) (store : Store) (r : Relation) (a b : Bound) (x y : ℤ) → IsBound (moment env store) a x
    → IsBound (moment env store) b y → relates r x y ≡ true → Preserves env store (related r a b)
related-preserves env store r a b x y left right is rows table are state known = record {
  shows = known.shows;
  holds = related-holds rows table are env known.shows store r state a b x y left right is known.holds;
}

-- where a relation doesn't hold, its opposite does
pub opposite-relates : (r : Relation) (x y : ℤ) → relates r x y ≡ false → relates (opposite r) x y ≡ true
opposite-relates relation.Equal x y is = ap not is
opposite-relates relation.NotEqual x y is = grind (arith, ints)
opposite-relates relation.Less x y is = grind (arith, ints)
opposite-relates relation.Greater x y is = grind (arith, ints)
opposite-relates relation.LessOrEqual x y is = grind (arith, ints)
opposite-relates relation.GreaterOrEqual x y is = grind (arith, ints)
