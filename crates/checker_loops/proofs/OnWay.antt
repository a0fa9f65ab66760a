-- What is known of a control variable on its way from one bound to another holds there.
use Rattle.std.proofs.Common.{arith, ◌≡◌, ◌∙◌, sym, refl, subst, ℕ, ◌<◌, ℤ, pos, ◌+ℤ◌, ◌-ℤ◌, ◌≤ℤ◌, Bool, true, false, cond, List, [], Option, Some, None}
use Rattle.std.specs.Ordering.{int_eq}
use Rattle.std.proofs.lemmas.Int.{ints, by_lt_z}
use Rattle.typed_tree.specs.declared.tree.Direction.{Direction}
use Rattle.typed_tree.specs.declared.tree.Direction.TheVariants.{To, DownTo}
use Rattle.domain.specs.Interval.{Interval, HasMember, at_least, at_most}
use Rattle.domain.specs.Ranges.{at_least-has, at_most-has, sum-has, difference-has}
use Rattle.meaning.specs.declared.value.Value.TheVariants as value
use Rattle.meaning.specs.Counting.{has_values, next_value}
use Rattle.meaning.specs.Meaning.{relates}
use Rattle.meaning.specs.Store.{Environment, Store}
use Rattle.checker_state.specs.Conditions.{narrowed, related_forms, with_order}
use Rattle.checker_state.specs.Holds.{HasNumber, IsBound, moment}
use Rattle.checker_state.specs.Knows.{AreRows, IsKept, IsOfForm, Knows, OneChanges, bound_rests}
use Rattle.checker_state.specs.State.{State, Table, range_of}
use Rattle.checker_loops.specs.Ways.{Way, entered, in_order, met, moved_on, next, on_way, own, present, relation_of, single, step, turn_begun, turn_ended}
use Rattle.checker_loops.specs.Ways.{unless_touched, values_behind, where_counts}
use Rattle.checker_state.proofs.Rows.{defined-holds, own-whole, shown}
use Rattle.checker_state.proofs.Changed.{bound-stays}
use Rattle.checker_state.proofs.Assigned.{assignments-hold, none-loose}
use Rattle.checker_state.proofs.Bounded.{bound-here, narrowed-holds, nonempty-holds, related-preserves, root-here, with_order-holds}
use Rattle.checker_rows.specs.Rows.{Parts}
use Rattle.checker_state.specs.Bounds.{Bound, plus}
use Rattle.std.proofs.lemmas.Option.{none-some, same_Some}

-- a number comes before another on a way
abbrev pub Ordered : Direction → ℤ → ℤ → Type 0
Ordered To m n = m ≤ℤ n
Ordered DownTo m n = n ≤ℤ m

-- a number lies between two on a way
abbrev pub Between : Direction → (first last n : ℤ) → Type 0
Between direction first last n = Ordered direction first n × Ordered direction n last

pub ordered-itself : (direction : Direction) (n : ℤ) → Ordered direction n n
ordered-itself To n = omega (arith, ints)
ordered-itself DownTo n = omega (arith, ints)

pub counts-ordered : (direction : Direction) (first last : ℤ) → has_values direction first last ≡ true → Ordered direction first last
counts-ordered To first last is = grind (arith, ints)
counts-ordered DownTo first last is = grind (arith, ints)

before-next : (x y : ℤ) → int_eq x y ≡ false → x ≤ℤ y → (x +ℤ pos 1) ≤ℤ y
before-next x y apart less = by_lt_z x y (λ below. omega (arith, ints)) (λ above. grind (arith, ints))

int_eq-turned : (x y : ℤ) → int_eq x y ≡ false → int_eq y x ≡ false
int_eq-turned x y apart = grind (arith, ints)

-- behind a number that isn't the last comes one on the way
pub next-between : (direction : Direction) (first last n : ℤ) → Between direction first last n → int_eq n last ≡ false
    → Between direction first last (next_value direction n)
next-between To first last n (after, before) apart = (omega (arith, ints), before-next n last apart before)
next-between DownTo first last n (after, before) apart =
    let less = before-next last n (int_eq-turned n last apart) before in
    (omega (arith, ints), omega (arith, ints))

-- what there may be of a form is a number
abbrev pub MayBe : Environment → Store → Option Bound → ℤ → Type 0
MayBe env store form n = (b : Bound) → form ≡ Some b → IsBound (moment env store) b n

pub of-form_may : (env : Environment) (store : Store) (form : Option Bound) (n : ℤ) → IsOfForm (moment env store) form (value.Number n) → MayBe env store form n
of-form_may env store None n of_form b is = absurd (cc)
of-form_may env store (Some bound) n (m, same, is_bound) b is =
    let number : n ≡ m = cc in
    let bounds = same_Some bound b is in
    subst (λ (c : Bound). IsBound (moment env store) c n) bounds (subst (λ (k : ℤ). IsBound (moment env store) bound k) (sym number) is_bound)

module _ (rows : List Parts) (table : Table) (are : AreRows rows table) (env : Environment) (store : Store) where
  abbrev Known : State → Type 0
  Known state = Knows rows table.variables env state store

  -- ---- whether there are values

  relation-relates : (direction : Direction) (x y : ℤ) (b : Bool) → has_values direction x y ≡ b → relates (relation_of direction b) x y ≡ true
  relation-relates To x y true is = is
  relation-relates To x y false is = grind (arith, ints)
  relation-relates DownTo x y true is = is
  relation-relates DownTo x y false is = grind (arith, ints)

  forms-related : (direction : Direction) (b : Bool) (first last : Option Bound) (state : State) (x y : ℤ) → has_values direction x y ≡ b
      → MayBe env store first x → MayBe env store last y → Known state → Known (related_forms (relation_of direction b) first last state)
  forms-related direction b None last state x y is one other known = known
  forms-related direction b (Some first) None state x y is one other known = known
  forms-related direction b (Some first) (Some last) state x y is one other known =
      related-preserves env store (relation_of direction b) first last x y (one first refl) (other last refl) (relation-relates direction x y b is)
      rows table are state known

  pub counts-known : (way : Way) (b : Bool) (state : State) (x y : ℤ) → has_values way.direction x y ≡ b → MayBe env store way.first.form x
      → MayBe env store way.last.form y → Known state → Known (where_counts b way state)
  counts-known way b state x y is one other known = forms-related way.direction b way.first.form way.last.form state x y is one other known

  pub met-in : (form : Option Bound) (state : State) (range : Interval) (n : ℤ) → MayBe env store form n → Known state → HasMember range n
      → HasMember (met form state range) n
  met-in None state range n may known inside = inside
  met-in (Some bound) state range n may known inside =
      let here = bound-here rows table are env known.shows store state bound n known.holds (may bound refl) in
      at_least-has _ _ n (at_most-has _ range n inside here.1) here.0

  -- ---- a turn

  order-known : (state : State) (a b : Bound) (m n : ℤ) → IsBound (moment env store) a m → IsBound (moment env store) b n → m ≤ℤ n → Known state
      → Known (with_order a (pos 0) b state)
  order-known state a b m n one other less known = record {
    shows = known.shows;
    holds = with_order-holds rows table are env known.shows store state a b m n (pos 0) one other (omega (arith, ints, less)) known.holds;
  }

  in-order_known : (direction : Direction) (a b : Option Bound) (m n : ℤ) (state : State) → MayBe env store a m → MayBe env store b n
      → Ordered direction m n → Known state → Known (in_order direction a b state)
  in-order_known To None b m n state one other less known = known
  in-order_known DownTo None b m n state one other less known = known
  in-order_known To (Some a) None m n state one other less known = known
  in-order_known DownTo (Some a) None m n state one other less known = known
  in-order_known To (Some a) (Some b) m n state one other less known = order-known state a b m n (one a refl) (other b refl) less known
  in-order_known DownTo (Some a) (Some b) m n state one other less known = order-known state b a n m (other b refl) (one a refl) less known

  own-may : (way : Way) (n : ℤ) → HasNumber (moment env store) way.control n → MayBe env store (own way) n
  own-may way n has b is =
      subst (λ (c : Bound). IsBound (moment env store) c n) (same_Some (plus way.control (pos 0)) b is) (n, has, omega (arith, ints))

  on-way_in : (direction : Direction) (first last range : Interval) (x y n : ℤ) → HasMember first x → HasMember last y → Between direction x y n
      → HasMember range n → HasMember (on_way direction first last range) n
  on-way_in To first last range x y n one other (after, before) inside =
      let low = one.0 in
      let high = other.1 in
      at_least-has first.first (at_most last.last range) n (at_most-has last.last range n inside (omega (arith, ints))) (omega (arith, ints))
  on-way_in DownTo first last range x y n one other (after, before) inside =
      let low = other.0 in
      let high = one.1 in
      at_least-has last.first (at_most first.last range) n (at_most-has first.last range n inside (omega (arith, ints))) (omega (arith, ints))

  -- where the first turn begins
  pub entered-known : (way : Way) (state : State) (x y : ℤ) → HasMember way.first.values x → HasMember way.last.values y
      → has_values way.direction x y ≡ true → Known state → Known (entered way state)
  entered-known way state x y one other counts known =
      let values = way.first.values in
      record {
        shows = known.shows;
        holds = nonempty-holds rows table are env known.shows store (on_way way.direction values way.last.values values) state x
            (on-way_in way.direction values way.last.values values x y x one other
            (ordered-itself way.direction x, counts-ordered way.direction x y counts) one) known.holds;
      }

  -- where a turn begins
  pub begun-known : (way : Way) (state : State) (x y n : ℤ) → HasNumber (moment env store) way.control n → HasMember way.first.values x
      → HasMember way.last.values y → Between way.direction x y n → MayBe env store way.first.form x → MayBe env store way.last.form y → Known state
      → Known (turn_begun way state)
  begun-known way state x y n has one other between first last known =
      let control = way.control in
      let range = on_way way.direction way.first.values way.last.values (range_of state control) in
      let inside = on-way_in way.direction way.first.values way.last.values (range_of state control) x y n one other between
      (root-here rows table are env known.shows store state control n known.holds has) in
      let there = shown table.variables env known.shows store control [] (value.Number n) has in
      let here : Known (present way state) = record {
        shows = known.shows;
        holds = defined-holds rows (moment env store) (narrowed control range state) control
            (own-whole rows table are (moment env store) control there (value.Number n, has))
            (narrowed-holds rows table are env known.shows store state control range n has inside known.holds);
      }
      in
      in-order_known way.direction (own way) way.last.form n y (in_order way.direction way.first.form (own way) (present way state)) (own-may way n has) last
      between.1
      (in-order_known way.direction way.first.form (own way) x n (present way state) first (own-may way n has) between.0 here)

-- ---- behind a turn

behind-in : (direction : Direction) (last range : Interval) (x y n : ℤ) → HasMember last y → Between direction x y n → int_eq n y ≡ false → HasMember range n
    → HasMember (values_behind direction last range) (next_value direction n)
behind-in To last range x y n inside between apart here =
    let more = next-between To x y n between apart in
    let before = more.1 in
    let high = inside.1 in
    sum-has (at_most (last.last -ℤ pos 1) range) single n (pos 1) (at_most-has (last.last -ℤ pos 1) range n here (omega (arith, ints)))
    (omega (arith, ints), omega (arith, ints))
behind-in DownTo last range x y n inside between apart here =
    let more = next-between DownTo x y n between apart in
    let before = more.1 in
    let low = inside.0 in
    difference-has (at_least (last.first +ℤ pos 1) range) single n (pos 1) (at_least-has (last.first +ℤ pos 1) range n here (omega (arith, ints)))
    (omega (arith, ints), omega (arith, ints))

pub next-of_form : (env : Environment) (store : Store) (control : ℕ) (direction : Direction) (n : ℤ) → HasNumber (moment env store) control n
    → IsOfForm (moment env store) (Some (plus control (step direction))) (value.Number (next_value direction n))
next-of_form env store control To n has = (n +ℤ pos 1, refl, (n, has, refl))
next-of_form env store control DownTo n has = (n -ℤ pos 1, refl, (n, has, omega (arith, ints)))

-- where a turn ends and another follows: the control variable gets its next value, and no other changes
pub ended-known : (rows : List Parts) (table : Table) → AreRows rows table
    → (env : Environment) (way : Way) (state : State) (before after : Store) (x y n : ℤ)
    → way.control < table.variables → OneChanges env way.control [] before after → HasNumber (moment env before) way.control n
    → HasMember way.last.values y → Between way.direction x y n → int_eq n y ≡ false
    → HasNumber (moment env after) way.control (next_value way.direction n) → MayBe env after way.last.form y
    → Knows rows table.variables env state before → Knows rows table.variables env (turn_ended way state) after
ended-known rows table are env way state before after x y n within changes has other between apart has_next last known =
    let m = next_value way.direction n in
    let range = values_behind way.direction way.last.values (range_of state way.control) in
    let inside = behind-in way.direction way.last.values (range_of state way.control) x y n other between apart
    (root-here rows table are env known.shows before state way.control n known.holds has) in
    let assigned = assignments-hold rows table are env [] state before after way.control range (next way) None (value.Number m) within changes has_next known
    (none-loose rows env state after) inside (next-of_form env before way.control way.direction n has) (λ bound is. refl) tt in
    let moved : Knows rows table.variables env (moved_on way range state) after = record {
      shows = known.shows;
      holds = nonempty-holds rows table are env known.shows after range _ m inside assigned.holds;
    }
    in
    in-order_known rows table are env after way.direction (own way) way.last.form m y (moved_on way range state)
    (own-may rows table are env after way m has_next) last (next-between way.direction x y n between apart).1 moved

-- ---- bounds that turns leave as they are

untouched-may : (env : Environment) (touched controls : List ℕ) (before after : Store) (bound : Bound) (n : ℤ) (among : Bool)
    → bound_rests touched bound ≡ among → IsKept env touched controls before after → MayBe env before (cond among None (Some bound)) n
    → MayBe env after (cond among None (Some bound)) n
untouched-may env touched controls before after bound n true is kept may b same = absurd (none-some b same)
untouched-may env touched controls before after bound n false is kept may b same =
    subst (λ (c : Bound). IsBound (moment env after) c n) (same_Some bound b same)
    (bound-stays (moment env before) (moment env after) touched (λ root k apart has. kept.values root apart [] ∙ has) bound n is (may bound refl))

-- from a store to a later one the form of an untouched variable is the same number
pub kept-may : (env : Environment) (touched controls : List ℕ) (before after : Store) (form : Option Bound) (n : ℤ) → IsKept env touched controls before after
    → MayBe env before (unless_touched touched form) n → MayBe env after (unless_touched touched form) n
kept-may env touched controls before after None n kept may b is = absurd (none-some b is)
kept-may env touched controls before after (Some bound) n kept may b is =
    untouched-may env touched controls before after bound n (bound_rests touched bound) refl kept may b is

untouched-if : (env : Environment) (store : Store) (bound : Bound) (n : ℤ) (among : Bool) → MayBe env store (Some bound) n
    → MayBe env store (cond among None (Some bound)) n
untouched-if env store bound n true may b is = absurd (none-some b is)
untouched-if env store bound n false may b is = may b is

-- a form that isn't touched is that which there was
pub untouched-form : (env : Environment) (store : Store) (touched : List ℕ) (form : Option Bound) (n : ℤ) → MayBe env store form n
    → MayBe env store (unless_touched touched form) n
untouched-form env store touched None n may = may
untouched-form env store touched (Some bound) n may = untouched-if env store bound n (bound_rests touched bound) may
