-- The numbers of bounds: that they lie in their ranges, and which of two that are known to stand in an order is greater.
use Rattle.std.proofs.Common.{arith, ◌≡◌, ⊎_elim, ◌∙◌, sym, ap, refl, subst, ℕ, ℤ, pos, ◌+ℤ◌, ◌≤ℤ◌, int_le, true, not, ◌&&◌, ◌||◌}
use Rattle.std.proofs.Common.{List, [], Option, Some, None}
use Rattle.std.specs.List.{Contains, list_any}
use Rattle.std.proofs.lemmas.Int.{ints}
use Rattle.std.proofs.lemmas.Bool.{and_parts, eqb-true, or_cases}
use Rattle.std.proofs.lemmas.Option.{cond_some}
use Rattle.domain.specs.Interval.{Interval, HasMember, is_vacant}
use Rattle.meaning.specs.Integers.{is_integer_number}
use Rattle.meaning.specs.declared.value.Value.TheVariants.{Number}
use Rattle.meaning.specs.Store.{Environment, Store}
use Rattle.checker_rows.specs.Rows.{Parts}
use Rattle.checker_state.specs.Bounds.{Bound, is_at_most, is_same_variable, is_variable, moved_bound, raised_bound}
use Rattle.checker_state.specs.State.{Facts, Held, Live, Ordered, Stretched, Table, bound_range, bound_range_by, is_below, is_next, le, lies_below}
use Rattle.checker_state.specs.State.{row_at, says_at_most}
use Rattle.checker_state.specs.Holds.{FactsHold, HasNumber, HeldHolds, IsBound, IsBoundBy, Moment, moment, value_at}
use Rattle.checker_state.specs.Knows.{AreRows, Shows}
use Rattle.checker_state.proofs.Lists.{any-in}
use Rattle.checker_state.proofs.Rows.{lies-own, shown}

-- ---- variables

pub same-number : (m : Moment) (a b : ℕ) (x y : ℤ) → a ≡ b → HasNumber m a x → HasNumber m b y → x ≡ y
same-number m a b x y is left right =
    let both : Some (Number x) ≡ Some (Number y) = sym left ∙ ap (λ (root : ℕ). value_at m root []) is ∙ right in
    cc

-- a bound of a variable
pub variable-is : (root : ℕ) (found : Option ℕ) → is_variable root found ≡ true → found ≡ Some root
variable-is root None is = absurd (cc)
variable-is root (Some other) is = ap Some (sym (eqb-true root other is))

same-variable : (one other : Option ℕ) → is_same_variable one other ≡ true → one ≡ other
same-variable None None is = refl
same-variable None (Some other) is = absurd (cc)
same-variable (Some root) other is = sym (variable-is root other is)

-- ---- bounds that are moved

raised-by : (m : Moment) (n : ℤ) (root : Option ℕ) (k x : ℤ) → IsBoundBy m root k x → IsBoundBy m root (k +ℤ n) (x +ℤ n)
raised-by m n None k x is = ap (λ (z : ℤ). z +ℤ n) is
raised-by m n (Some root) k x (p, has, is) = (p, has, omega (arith, ints, is))

-- a bound plus a number, in a test
pub raised-is : (m : Moment) (n : ℤ) (bound : Bound) (x : ℤ) → IsBound m bound x → IsBound m (raised_bound n bound) (x +ℤ n)
raised-is m n bound x is = raised-by m n bound.root bound.number x is

pub moved-is : (m : Moment) (n : ℤ) (bound moved : Bound) (x : ℤ) → moved_bound n bound ≡ Some moved → IsBound m bound x → IsBound m moved (x +ℤ n)
moved-is m n bound moved x is at =
    subst (λ b. IsBound m b (x +ℤ n)) (cond_some (is_integer_number (bound.number +ℤ n)) (raised_bound n bound) moved is).1 (raised-is m n bound x at)

-- ---- what tests go by

-- the numbers of variables lie in their ranges, and what is held holds
pub record IsTold (rows : List Parts) (m : Moment) (known : Facts) : Type 0 where
  pub number : (root : ℕ) (n : ℤ) → HasNumber m root n → HasMember (row_at known root).range n
  pub held : (one : Held) → Contains known.held one → HeldHolds rows one m

module _ (rows : List Parts) (m : Moment) (known : Facts) (told : IsTold rows m known) where
  in-by : (root : Option ℕ) (k x : ℤ) → IsBoundBy m root k x → HasMember (bound_range_by (Live known) root k) x
  in-by None k x is = (omega (arith, ints, is), omega (arith, ints, is))
  in-by (Some root) k x (p, has, is) =
      let inside = told.number root p has in
      let low = inside.0 in
      let high = inside.1 in
      (omega (arith, ints), omega (arith, ints))

  -- the number of a bound lies in its range
  pub bound-in : (bound : Bound) (x : ℤ) → IsBound m bound x → HasMember (bound_range (Live known) bound) x
  bound-in bound x is = in-by bound.root bound.number x is

  at_most-by : (one other : Option ℕ) (k l x y : ℤ) → one ≡ other → k ≤ℤ l → IsBoundBy m one k x → IsBoundBy m other l y → x ≤ℤ y
  at_most-by None None k l x y same less left right = omega (arith, ints)
  at_most-by None (Some b) k l x y same less left right = absurd (cc)
  at_most-by (Some a) None k l x y same less left right = absurd (cc)
  at_most-by (Some a) (Some b) k l x y same less (p, p_is, x_is) (q, q_is, y_is) =
      let root : a ≡ b = cc in
      let number = same-number m a b p q root p_is q_is in
      omega (arith, ints)

  at_most-is : (a b : Bound) (x y : ℤ) → IsBound m a x → IsBound m b y → is_at_most a b ≡ true → x ≤ℤ y
  at_most-is a b x y left right is =
      let parts = and_parts (is_same_variable a.root b.root) (int_le a.number b.number) is in
      let less : a.number ≤ℤ b.number = grind (arith, ints, parts.1) in
      at_most-by a.root b.root a.number b.number x y (same-variable a.root b.root parts.0) less left right

  below-is : (a b : Interval) (x y : ℤ) → HasMember a x → HasMember b y → is_below a b ≡ true → x ≤ℤ y
  below-is a b x y left right is =
      let parts = and_parts (not (is_vacant a || is_vacant b)) (int_le a.last b.first) is in
      let less : a.last ≤ℤ b.first = grind (arith, ints, parts.1) in
      let high = left.1 in
      let low = right.0 in
      omega (arith, ints)

  says-by : (one other : Option ℕ) (k l x y : ℤ) (root by : ℕ) (number : ℤ) → one ≡ Some root → other ≡ Some by → (number +ℤ k) ≤ℤ l
      → IsBoundBy m one k x → IsBoundBy m other l y → HeldHolds rows (Ordered root by number) m → x ≤ℤ y
  says-by None other k l x y root by number one_is other_is less left right holds = absurd (cc)
  says-by (Some a) None k l x y root by number one_is other_is less left right holds = absurd (cc)
  says-by (Some a) (Some b) k l x y root by number one_is other_is less (p, p_is, x_is) (q, q_is, y_is) (s, t, s_is, t_is, order) =
      let first = same-number m a root p s (let e : a ≡ root = cc in e) p_is s_is in
      let second = same-number m b by q t (let e : b ≡ by = cc in e) q_is t_is in
      omega (arith, ints)

  says-is : (a b : Bound) (x y : ℤ) → IsBound m a x → IsBound m b y → (one : Held) → HeldHolds rows one m → says_at_most a b one ≡ true → x ≤ℤ y
  says-is a b x y left right (Stretched stretch) holds is = absurd (cc)
  says-is a b x y left right (Ordered root other number) holds is =
      let one = and_parts (is_variable root a.root) (is_variable other b.root && int_le (number +ℤ a.number) b.number) is in
      let two = and_parts (is_variable other b.root) (int_le (number +ℤ a.number) b.number) one.1 in
      let less : (number +ℤ a.number) ≤ℤ b.number = grind (arith, ints, two.1) in
      says-by a.root b.root a.number b.number x y root other number (variable-is root a.root one.0) (variable-is other b.root two.0) less left right holds

  -- a bound that is known to be at most another is
  pub le-is : (a b : Bound) (x y : ℤ) → IsBound m a x → IsBound m b y → le known a b ≡ true → x ≤ℤ y
  le-is a b x y left right is =
      let below = is_below (bound_range (Live known) a) (bound_range (Live known) b) in
      let said = list_any (says_at_most a b) known.held in
      ⊎_elim (at_most-is a b x y left right)
      (λ rest. ⊎_elim (below-is (bound_range (Live known) a) (bound_range (Live known) b) x y (bound-in a x left) (bound-in b y right))
      (λ any. let found = any-in (says_at_most a b) known.held any in says-is a b x y left right found.0 (told.held found.0 found.1) found.2)
      (or_cases below said rest))
      (or_cases (is_at_most a b) (below || said) is)

  pub lies_below-is : (a b : Bound) (x y : ℤ) → IsBound m a x → IsBound m b y → lies_below known a b ≡ true → (x +ℤ pos 1) ≤ℤ y
  lies_below-is a b x y left right is = le-is (raised_bound (pos 1) a) b (x +ℤ pos 1) y (raised-is m (pos 1) a x left) right is

  -- a bound is the one behind another
  pub next-is : (a b : Bound) (x y : ℤ) → IsBound m a x → IsBound m b y → is_next known a b ≡ true → y ≡ (x +ℤ pos 1)
  next-is a b x y left right is =
      let parts = and_parts (lies_below known a b) (le known b (raised_bound (pos 1) a)) is in
      let low = lies_below-is a b x y left right parts.0 in
      let high : y ≤ℤ (x +ℤ pos 1) = le-is b (raised_bound (pos 1) a) y (x +ℤ pos 1) right (raised-is m (pos 1) a x left) parts.1 in
      omega (arith, ints, low, high)

-- ---- where a state is known

module _ (rows : List Parts) (table : Table) (are : AreRows rows table) (env : Environment) (shows : Shows table.variables env) (store : Store) where
  pub told-of : (known : Facts) → FactsHold rows known (moment env store) → IsTold rows (moment env store) known
  told-of known holds = record {
    number = λ root n has.
        lies-own rows table are (moment env store) root (shown table.variables env shows store root [] (Number n) has) (row_at known root).range (Number n)
        (holds.ranges root) has;
    held = holds.held;
  }
