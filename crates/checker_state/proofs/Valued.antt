-- What is known of the values of expressions, ordinals and sets, is so.
use Rattle.std.proofs.Common.{arith, ◌≡◌, ⊎_elim, refl, ℕ, ℤ, pos, int_le, int_lt, ◌&&◌, ◌||◌, Bool, true, false, List}
use Rattle.std.proofs.lemmas.Bool.{and_from, and_parts, or_cases}
use Rattle.std.proofs.lemmas.Int.{ints}
use Rattle.members.specs.Members.{can_be_member, of_one, of_range, of_two, range_fits}
use Rattle.members.specs.declared.sets.Operator.{Operator}
use Rattle.members.specs.declared.sets.Operator.TheVariants as operator
use Rattle.members.proofs.Memberships.{operators_stay, range_stays}
use Rattle.domain.specs.Hull.{hull_between, hull_of, members}
use Rattle.domain.specs.Hulls.{difference-has_set, has_set-empty, hull_between-has_set, hull_of-has_one, intersection-has_set, union-has_set}
use Rattle.domain.specs.Interval.{Interval, HasMember}
use Rattle.domain.specs.Ranges.{common-has, included-has}
use Rattle.meaning.specs.declared.value.Value.{Value}
use Rattle.meaning.specs.declared.value.Value.TheVariants.{Members, Number}
use Rattle.meaning.specs.Store.{Environment, Store}
use Rattle.checker_rows.specs.Limits.{limits_of}
use Rattle.checker_rows.specs.Rows.{Parts}
use Rattle.checker_state.specs.declared.value.Known.{Known}
use Rattle.checker_state.specs.declared.value.Known.TheVariants.{Ordinal, Set}
use Rattle.checker_state.specs.State.{State, Table}
use Rattle.checker_state.specs.Values.{IsKnown, is_closed_member, is_closed_range, known_range, no_members, operated_sets, tested_member}
use Rattle.checker_state.specs.Values.{unless_none, with_member, with_members}
use Rattle.checker_state.specs.Holds.{IsIn}
use Rattle.checker_state.specs.Knows.{AreRows, Knows}
use Rattle.checker_state.specs.Laws.{ValuesTell}
use Rattle.checker_state.proofs.Knows.{nonempty-known}
use Rattle.checker_state.proofs.Ranged.{common-in, included-in, is_in-limits, limits-is_in}

in-known : (known : Known) (v : Value) → IsKnown known v → IsIn (known_range known) v
in-known (Ordinal range) (Number n) is = is
in-known (Ordinal range) (Members set) is = absurd is
in-known (Set hull) (Number n) is = absurd is
in-known (Set hull) (Members set) is = is

closed-member : (range : Interval) (n : ℤ) → HasMember range n → is_closed_member range ≡ true → can_be_member n ≡ true
closed-member range n inside closed =
    let there = included-has range members n closed inside in
    and_from (int_le (pos 0) n) (int_le n (pos 127)) (grind (arith, ints)) (grind (arith, ints))

tested-member : (range : Interval) (n : ℤ) → HasMember range n → can_be_member n ≡ true → HasMember (tested_member range) n
tested-member range n inside passes =
    let both = and_parts (int_le (pos 0) n) (int_le n (pos 127)) passes in
    common-has range members n inside (grind (arith, ints), grind (arith, ints))

closed-range : (first last : Interval) (a b : ℤ) → HasMember first a → HasMember last b → is_closed_range first last ≡ true → range_fits a b ≡ true
closed-range first last a b from to closed =
    ⊎_elim
    (λ (none : int_lt last.last first.first ≡ true).
    let low = from.0 in
    let high = to.1 in
    let below : int_lt b a ≡ true = grind (arith, ints) in
    or-left (int_lt b a) (can_be_member a && can_be_member b) below)
    (λ both.
    let parts = and_parts (is_closed_member first) (is_closed_member last) both in
    or-right (int_lt b a) (can_be_member a && can_be_member b)
    (and_from (can_be_member a) (can_be_member b) (closed-member first a from parts.0) (closed-member last b to parts.1)))
    (or_cases (int_lt last.last first.first) (is_closed_member first && is_closed_member last) closed)
  where
    or-left : (x y : Bool) → x ≡ true → (x || y) ≡ true
    or-left true y is = refl
    or-left false y is = absurd (cc)

    or-right : (x y : Bool) → y ≡ true → (x || y) ≡ true
    or-right true y is = refl
    or-right false y is = is

with-one : (hull range : Interval) (set : ℕ) (n : ℤ) → IsIn hull (Members set) → HasMember range n
    → IsIn (with_member hull range) (Members (of_two operator.Union set (of_one n)))
with-one hull range set n (fits, each) inside = (
  operators_stay operator.Union set (of_one n) fits (range_stays n n),
  union-has_set hull (hull_of range) set (of_one n) each (hull_of-has_one range n inside),
)

with-several : (hull first last : Interval) (set : ℕ) (a b : ℤ) → IsIn hull (Members set) → HasMember first a → HasMember last b
    → IsIn (with_members hull first last) (Members (of_two operator.Union set (of_range a b)))
with-several hull first last set a b (fits, each) from to = (
  operators_stay operator.Union set (of_range a b) fits (range_stays a b),
  union-has_set hull (hull_between first last) set (of_range a b) each (hull_between-has_set first last a b from to),
)

of-two : (o : Operator) (a b : Interval) (s t : ℕ) → IsIn a (Members s) → IsIn b (Members t) → IsIn (operated_sets o a b) (Members (of_two o s t))
of-two operator.Union a b s t (one, left) (two, right) = (operators_stay operator.Union s t one two, union-has_set a b s t left right)
of-two operator.Intersection a b s t (one, left) (two, right) =
    (operators_stay operator.Intersection s t one two, intersection-has_set a b s t left right)
of-two operator.Difference a b s t (one, left) (two, right) = (operators_stay operator.Difference s t one two, difference-has_set a s t left)

goes-on : (rows : List Parts) (table : Table) → AreRows rows table → (env : Environment) (state : State) (store : Store) (known : Known) (v : Value)
    → IsKnown known v → Knows rows table.variables env state store → Knows rows table.variables env (unless_none known state) store
goes-on rows table are env state store (Ordinal range) (Number n) is knows = nonempty-known rows table are env state store knows range n is
goes-on rows table are env state store (Ordinal range) (Members set) is knows = absurd is
goes-on rows table are env state store (Set hull) v is knows = knows

pub values-tell : ValuesTell
values-tell = record {
  in_range = in-known;
  member_passes = closed-member;
  range_passes = closed-range;
  member_lies = tested-member;
  of_none = (omega arith, has_set-empty no_members);
  of_member = with-one;
  of_members = with-several;
  of_operator = of-two;
  passes = λ range known v inside included. limits-is_in range v (included-in known (limits_of range) v included inside);
  lies = λ range known v inside passed. common-in known (limits_of range) v inside (is_in-limits range v passed);
  goes_on = goes-on;
}
