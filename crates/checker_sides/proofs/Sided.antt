-- Where an operator had a truth value over two values, a side of it that is met keeps what is known.
use Rattle.std.proofs.Common.{arith, ◌≡◌, ◌∙◌, sym, ap, refl, subst, ℕ, ℤ, pos, ◌+ℤ◌, ◌-ℤ◌, ◌≤ℤ◌, ◌<ℤ◌, Bool, true, false, not, ◌⊎◌, ⊎_elim, inl, inr, List, []}
use Rattle.std.proofs.Common.{◌∷◌, Option, Some, None}
use Rattle.std.specs.Ordering.{int_eq}
use Rattle.std.proofs.lemmas.Int.{by_lt_z, ints}
use Rattle.std.proofs.lemmas.Bool.{cond_both}
use Rattle.std.proofs.lemmas.Option.{same_Some}
use Rattle.typed_tree.specs.declared.tree.Dyadic.{Dyadic}
use Rattle.typed_tree.specs.declared.tree.Dyadic.TheVariants as dyadic
use Rattle.typed_tree.specs.declared.tree.Relation.{Relation}
use Rattle.typed_tree.specs.declared.tree.Relation.TheVariants as relation
use Rattle.types.specs.declared.form.Step.{Step}
use Rattle.domain.specs.Interval.{Interval, HasMember, at_least, at_most, common}
use Rattle.domain.specs.Ranges.{at_least-has, at_most-has, common-has}
use Rattle.members.specs.Members as sets
use Rattle.meaning.specs.declared.value.Value.{Value}
use Rattle.meaning.specs.declared.value.Value.TheVariants.{Members, Number}
use Rattle.meaning.specs.Effect.{members_of, number_of}
use Rattle.meaning.specs.Meaning.{relates}
use Rattle.meaning.specs.Store.{Environment, Store}
use Rattle.checker_rows.specs.Rows.{Parts}
use Rattle.checker_state.specs.Conditions.{told, without_first, without_last}
use Rattle.checker_state.specs.Holds.{IsIn, IsOfRow, Moment, component_at, moment}
use Rattle.checker_state.specs.Knows.{AreRows, Knows}
use Rattle.checker_state.specs.State.{State, Table, range_of, with_range}
use Rattle.checker_state.specs.Values.{IsKnown}
use Rattle.checker_state.specs.declared.value.Known.{Known}
use Rattle.checker_state.specs.declared.value.Known.TheVariants.{Ordinal, Set}
use Rattle.checker_state.proofs.Bounded.{nonempty-holds, opposite-relates}
use Rattle.checker_state.proofs.Looped.{range-lies}
use Rattle.checker_state.proofs.Rows.{range-holds}
use Rattle.checker_sides.specs.Sides.{let_through, met, mirrored, operation_met}
use Rattle.checker_sides.specs.declared.sides.Side.{Side}

-- a number is the value of the only component of a row
pub record IsOnly (rows : List Parts) (m : Moment) (row : ℕ) (n : ℤ) : Type 0 where
  pub steps : List Step
  pub of_row : IsOfRow rows row steps
  pub value : component_at rows m row steps ≡ Some (Number n)
  pub only : (other : List Step) → IsOfRow rows row other → other ≡ steps

-- a number is that of a side
pub record IsSide (rows : List Parts) (m : Moment) (side : Side) (n : ℤ) : Type 0 where
  pub old : ℤ
  pub there : IsOnly rows m side.row old
  pub number_is : n ≡ (old +ℤ side.number)

abbrev pub IsSideOf : List Parts → Moment → Option Side → ℤ → Type 0
IsSideOf rows m side n = (one : Side) → side ≡ Some one → IsSide rows m one n

-- so it is of a value, if that is a number
abbrev pub IsSideValue : List Parts → Moment → Option Side → Value → Type 0
IsSideValue rows m side v = (n : ℤ) → v ≡ Number n → IsSideOf rows m side n

-- ---- relations

below-or : (x y : ℤ) → x ≤ℤ y → (x ≡ y → ⊥) → x <ℤ y
below-or x y less apart = by_lt_z x y (λ below. below) (λ above. absurd (apart (omega (arith, ints))))

not-last : (n x : ℤ) (range : Interval) → (x ≡ n → ⊥) → HasMember range x → HasMember (without_last n range) x
not-last n x range apart inside =
    cond_both (int_eq range.last n) (at_most (n -ℤ pos 1) range) range (λ r. HasMember r x)
    (λ is.
    let same : range.last ≡ n = grind (arith, ints) in
    let high = inside.1 in
    let below = below-or x n (omega (arith, ints)) apart in
    at_most-has (n -ℤ pos 1) range x inside (omega (arith, ints)))
    (λ isnt. inside)

not-first : (n x : ℤ) (range : Interval) → (x ≡ n → ⊥) → HasMember range x → HasMember (without_first n range) x
not-first n x range apart inside =
    cond_both (int_eq range.first n) (at_least (n +ℤ pos 1) range) range (λ r. HasMember r x)
    (λ is.
    let same : range.first ≡ n = grind (arith, ints) in
    let low = inside.0 in
    let above = below-or n x (omega (arith, ints)) (λ same. apart (sym same)) in
    at_least-has (n +ℤ pos 1) range x inside (omega (arith, ints)))
    (λ isnt. inside)

differs : (x y : ℤ) → not (int_eq x y) ≡ true → x ≡ y → ⊥
differs x y is same = grind (arith, ints)

told-relates : (r : Relation) (x y : ℤ) (truth : Bool) → relates r x y ≡ truth → relates (told r truth) x y ≡ true
told-relates r x y true is = is
told-relates r x y false is = opposite-relates r x y is

through-has : (r : Relation) (other own : Interval) (x y : ℤ) → relates r x y ≡ true → HasMember other y → HasMember own x
    → HasMember (let_through r other own) x
through-has relation.Equal other own x y is there here =
    let same : x ≡ y = grind (arith, ints) in
    common-has own other x here (subst (HasMember other) (sym same) there)
through-has relation.NotEqual other own x y is there here =
    cond_both (int_eq other.first other.last) (without_last other.first (without_first other.first own)) own (λ range. HasMember range x)
    (λ single.
    let low = there.0 in
    let high = there.1 in
    let one : other.first ≡ other.last = grind (arith, ints) in
    let only : y ≡ other.first = omega (arith, ints) in
    let apart : x ≡ other.first → ⊥ = λ same. differs x y is (same ∙ sym only) in
    not-last other.first x (without_first other.first own) apart (not-first other.first x own apart here))
    (λ several. here)
through-has relation.Less other own x y is there here =
    let high = there.1 in
    let less : (x +ℤ pos 1) ≤ℤ y = grind (arith, ints) in
    at_most-has (other.last -ℤ pos 1) own x here (omega (arith, ints))
through-has relation.Greater other own x y is there here =
    let low = there.0 in
    let less : (y +ℤ pos 1) ≤ℤ x = grind (arith, ints) in
    at_least-has (other.first +ℤ pos 1) own x here (omega (arith, ints))
through-has relation.LessOrEqual other own x y is there here =
    let high = there.1 in
    let less : x ≤ℤ y = grind (arith, ints) in
    at_most-has other.last own x here (omega (arith, ints))
through-has relation.GreaterOrEqual other own x y is there here =
    let low = there.0 in
    let less : y ≤ℤ x = grind (arith, ints) in
    at_least-has other.first own x here (omega (arith, ints))

mirrored-relates : (r : Relation) (x y : ℤ) → relates r x y ≡ true → relates (mirrored r) y x ≡ true
mirrored-relates relation.Equal x y is = grind (arith, ints)
mirrored-relates relation.NotEqual x y is = grind (arith, ints)
mirrored-relates relation.Less x y is = is
mirrored-relates relation.Greater x y is = is
mirrored-relates relation.LessOrEqual x y is = is
mirrored-relates relation.GreaterOrEqual x y is = is

-- ---- operators

-- an operator had a truth value over two values, if it is one that tells something
abbrev pub Gave : Bool → Dyadic → Value → Value → Type 0
Gave truth (dyadic.Relation r) v w = relates r (number_of v) (number_of w) ≡ truth
Gave truth dyadic.In v w = sets.has (members_of w) (number_of v) ≡ truth
Gave truth operation v w = Unit {0}

module _ (rows : List Parts) (table : Table) (are : AreRows rows table) (env : Environment) (store : Store) where
  abbrev m : Moment
  m = moment env store

  abbrev Here : State → Type 0
  Here state = Knows rows table.variables env state store

  pub met-holds : (side : Option Side) (range : Interval) (n : ℤ) → IsSideOf rows m side n → HasMember range n → (state : State) → Here state
      → Here (met side range state)
  met-holds None range n is inside state known = known
  met-holds (Some side) range n is inside state known =
      let own = is side refl in
      let old = own.old in
      let there = own.there in
      let low = inside.0 in
      let high = inside.1 in
      let now = range_of state side.row in
      let lies : HasMember now old = range-lies rows m state side.row known.holds there.steps (Number old) there.of_row there.value in
      let below = at_most (range.last -ℤ side.number) now in
      let narrow = at_least (range.first -ℤ side.number) below in
      let number_is = own.number_is in
      let inner : HasMember narrow old =
      at_least-has (range.first -ℤ side.number) below old (at_most-has (range.last -ℤ side.number) now old lies (omega (arith, ints)))
      (omega (arith, ints)) in
      record {
        shows = known.shows;
        holds = nonempty-holds rows table are env known.shows store narrow (with_range side.row narrow state) old inner
            (range-holds rows m state side.row narrow
            (λ steps v of_row value.
            subst (IsIn narrow)
            (same_Some (Number old) v
            (sym there.value ∙ ap (component_at rows m side.row) (sym (there.only steps of_row)) ∙ value)) inner) known.holds);
      }

  pub operation-holds : (truth : Bool) (operation : Dyadic) (left right : Option Side) (a b : Known) (v w : Value) → Gave truth operation v w
      → IsKnown a v → IsKnown b w → IsSideValue rows m left v → IsSideValue rows m right w → (state : State) → Here state
      → Here (operation_met (Some truth) operation left right (a, b) state)
  operation-holds truth (dyadic.Relation r) left right (Ordinal a) (Ordinal b) (Number x) (Number y) gave a_is b_is left_is right_is state known =
      let so = told-relates r x y truth gave in
      met-holds right (let_through (mirrored (told r truth)) a b) y (right_is y refl)
      (through-has (mirrored (told r truth)) a b y x (mirrored-relates (told r truth) x y so) a_is b_is)
      (met left (let_through (told r truth) b a) state)
      (met-holds left (let_through (told r truth) b a) x (left_is x refl) (through-has (told r truth) b a x y so b_is a_is) state known)
  operation-holds truth (dyadic.Relation r) left right (Ordinal a) (Ordinal b) (Members s) w gave a_is b_is left_is right_is state known = absurd a_is
  operation-holds truth (dyadic.Relation r) left right (Ordinal a) (Ordinal b) (Number x) (Members s) gave a_is b_is left_is right_is state known = absurd b_is
  operation-holds true dyadic.In left right (Ordinal a) (Set hull) (Number x) (Members s) gave a_is b_is left_is right_is state known =
      met-holds left (common a hull) x (left_is x refl) (common-has a hull x a_is (b_is.1 x gave)) state known
  operation-holds true dyadic.In left right (Ordinal a) (Set hull) (Members s) w gave a_is b_is left_is right_is state known = absurd a_is
  operation-holds true dyadic.In left right (Ordinal a) (Set hull) (Number x) (Number y) gave a_is b_is left_is right_is state known = absurd b_is
  operation-holds truth operation left right a b v w gave a_is b_is left_is right_is state known = known
