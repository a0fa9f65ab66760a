-- What is known of values, by what they are: ordinals or sets.
use Rattle.std.proofs.Common.{◌≡◌, refl, Bool, true, false, Some, None}
use Rattle.std.proofs.lemmas.Bool.{false≢true}
use Rattle.typed_tree.specs.declared.tree.Scalar.{Scalar}
use Rattle.typed_tree.specs.declared.tree.Scalar.TheVariants as scalar
use Rattle.typed_tree.specs.Kinds.{Held, held_where, is_held, is_same}
use Rattle.domain.specs.Hulls.{hull_of-sets}
use Rattle.domain.specs.Interval.{HasMember, Interval, common}
use Rattle.meaning.specs.declared.value.Value.{Value}
use Rattle.meaning.specs.declared.value.Value.TheVariants.{Members, Number}
use Rattle.meaning.specs.Effect.{members_of, number_of}
use Rattle.meaning.specs.Kinds.{IsOf}
use Rattle.checker_state.specs.declared.value.Known.{Known}
use Rattle.checker_state.specs.declared.value.Known.TheVariants.{Ordinal, Set}
use Rattle.checker_state.specs.Holds.{IsIn}
use Rattle.checker_state.specs.Values.{IsKnown, known_range}
use Rattle.checker_state.proofs.Ranged.{common-in}
use Rattle.checker_state.proofs.Valued.{values-tell}
use Rattle.checker_expressions.specs.Walk.{held_in, hull_known, limited, scalar_of}

-- ---- what the value of an expression is

same-scalar : (a b : Scalar) → is_same a b ≡ true → a ≡ b
same-scalar scalar.Ordinal scalar.Ordinal is = refl
same-scalar scalar.Ordinal scalar.Set is = absurd (false≢true is)
same-scalar scalar.Set scalar.Ordinal is = absurd (false≢true is)
same-scalar scalar.Set scalar.Set is = refl

some-scalar : (a b : Scalar) → is_same a b ≡ true → ◌≡◌ {A = Held} (Some b) (Some a)
some-scalar scalar.Ordinal scalar.Ordinal is = refl
some-scalar scalar.Ordinal scalar.Set is = absurd (false≢true is)
some-scalar scalar.Set scalar.Ordinal is = absurd (false≢true is)
some-scalar scalar.Set scalar.Set is = refl

-- it is what is wanted
pub held-is : (wanted : Scalar) (held : Held) → is_held wanted held ≡ true → held ≡ Some wanted
held-is wanted None is = absurd (false≢true is)
held-is wanted (Some held) is = some-scalar wanted held is

-- where it is something, its operands are as they are taken
pub held-where : (test : Bool) (held one : Scalar) → held_where test held ≡ Some one → (test ≡ true) × (held ≡ one)
held-where true held one is = (refl, let same : held ≡ one = cc in same)
held-where false held one is = absurd (cc)

-- ---- what is known of it

-- a value of a kind that lies in a range
pub held-known : (holds : Scalar) (range : Interval) (v : Value) → IsIn range v → IsOf holds v → IsKnown (held_in holds range) v
held-known scalar.Ordinal range (Number n) inside is = inside
held-known scalar.Ordinal range (Members set) inside is = absurd is
held-known scalar.Set range (Number n) inside is = absurd is
held-known scalar.Set range (Members set) (fits, each) is = (fits, (hull_of-sets range set fits).1 each)

pub scalar-held : (holds : Scalar) (range : Interval) → scalar_of (held_in holds range) ≡ holds
scalar-held scalar.Ordinal range = refl
scalar-held scalar.Set range = refl

-- a value that is known is of the kind that is known
pub known-of : (known : Known) (v : Value) → IsKnown known v → IsOf (scalar_of known) v
known-of (Ordinal range) (Number n) is = tt
known-of (Ordinal range) (Members set) is = absurd is
known-of (Set hull) (Number n) is = absurd is
known-of (Set hull) (Members set) is = is.0

-- and so it is where it lies in limits
pub limited-known : (limits : Interval) (known : Known) (v : Value) → IsKnown known v → IsIn limits v → IsKnown (limited limits known) v
limited-known limits known v is lies =
    held-known (scalar_of known) (common (known_range known) limits) v
    (common-in (known_range known) limits v (values-tell.in_range known v is) lies) (known-of known v is)

-- an ordinal has its number in the range, and a set is one of the hull
pub number-known : (known : Known) (v : Value) → IsKnown known v → scalar_of known ≡ scalar.Ordinal → HasMember (known_range known) (number_of v)
number-known (Ordinal range) (Number n) is same = is
number-known (Ordinal range) (Members set) is same = absurd is
number-known (Set hull) v is same = absurd (cc)

pub set-known : (known : Known) (v : Value) → IsKnown known v → scalar_of known ≡ scalar.Set → IsIn (hull_known known) (Members (members_of v))
set-known (Ordinal range) v is same = absurd (cc)
set-known (Set hull) (Number n) is same = absurd is
set-known (Set hull) (Members set) is same = is
