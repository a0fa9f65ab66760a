-- The tests of values are sound, and so are the operations: a passed test leaves the values in the tested range, a calculation has its number in its
-- range, a result that is tested for overflow lies in integer, and a set has its members in its hull.
use Rattle.std.proofs.Common.{arith, ◌≡◌, ℕ, ◌<◌, ℤ, pos, int_le, nat_lt, Bool, true, false, not, ◌&&◌, ◌||◌, Option, Some, None, refl, subst}
use Rattle.std.proofs.lemmas.Bool.{and_parts, ltb-true}
use Rattle.std.proofs.lemmas.Int.{ints}
use Rattle.std.proofs.lemmas.Option.{none-some, same_Some}
use Rattle.typed_tree.specs.declared.tree.RangeTest.{RangeTest}
use Rattle.typed_tree.specs.declared.tree.Monadic.{Monadic}
use Rattle.typed_tree.specs.declared.tree.Monadic.TheVariants as monadic
use Rattle.typed_tree.specs.declared.tree.Calculation.{Calculation}
use Rattle.typed_tree.specs.declared.tree.Calculation.TheVariants as calculation
use Rattle.typed_tree.specs.declared.tree.Shift.{Shift}
use Rattle.typed_tree.specs.declared.tree.Shift.TheVariants as shift
use Rattle.typed_tree.specs.declared.tree.Dyadic.{Dyadic}
use Rattle.typed_tree.specs.declared.tree.Dyadic.TheVariants as dyadic
use Rattle.typed_tree.specs.declared.tree.Scalar.TheVariants as scalar
use Rattle.typed_tree.specs.Kinds.{given, taken_left, taken_right}
use Rattle.typed_tree.specs.WellFormed.{calculation_is_well_formed, dyadic_is_well_formed, is_well_formed_test, is_whole, monadic_is_well_formed, outline_of}
use Rattle.typed_tree.specs.WellFormed.{shift_is_well_formed}
use Rattle.members.specs.Members as sets
use Rattle.members.specs.declared.sets.Operator.{Operator}
use Rattle.members.specs.declared.sets.Operator.TheVariants as operator
use Rattle.domain.specs.Interval.{Interval, HasMember, has_number, is_included, common, complement, both, either, without_zero_end, at_least}
use Rattle.domain.specs.Interval.{truth_values}
use Rattle.domain.specs.Ranges.{sum-has, difference-has, negated-has, product-has, squared-has, absolute-has, quotient-has, remainder-has, without_zero_end-has}
use Rattle.domain.specs.Ranges.{at_least-has, both-has, either-has, complement-has}
use Rattle.meaning.specs.declared.value.Value.{Value}
use Rattle.meaning.specs.declared.value.Value.TheVariants.{Members, Number}
use Rattle.meaning.specs.Integers.{is_integer_number, is_true, is_odd, truth}
use Rattle.meaning.specs.Store.{Environment, Store}
use Rattle.meaning.specs.Effect as effect
use Rattle.meaning.specs.Effect.{is_in, is_positive, members_of, number_of}
use Rattle.meaning.specs.Meaning as meaning
use Rattle.checker_state.specs.declared.value.Known.{Known}
use Rattle.checker_state.specs.declared.value.Known.TheVariants.{Ordinal, Set}
use Rattle.checker_state.specs.Values.{IsKnown, known_range, operated_sets}
use Rattle.checker_rows.specs.Limits.{integer, limits_of}
use Rattle.checker_expressions.specs.Walk as walk
use Rattle.checker_loops.specs.Ways.{single}
use Rattle.checker_state.specs.Holds.{IsIn}
use Rattle.checker_state.proofs.Ranged.{truth-in, truth_values-has, is_within-has, has-is_within, is_in-limits, limits-is_in, included-in, common-in}
use Rattle.checker_state.proofs.Ranged.{first-positive, is-positive, without-zero}
use Rattle.checker_state.proofs.Valued.{values-tell}
use Rattle.checker_expressions.specs.Walk.{hull_known, limited, scalar_of}
use Rattle.checker_expressions.proofs.Scalars.{limited-known, number-known, scalar-held, set-known}
use Rattle.checker_expressions.proofs.Sound.{World, IsHeld, PassesAs, Sound, Passes, sites_in, sound-then, sound-give, sound-given, sound-tested}
use Rattle.checker_expressions.proofs.Sound.{good-weaker, IsForetold, sound-tested_value}

-- ---- the range of a result has the result

calculated-has : (does : Calculation) (range : Interval) (n : ℤ) → HasMember range n → HasMember (walk.calculated does range) (meaning.calculated does n)
calculated-has calculation.Same range n inside = inside
calculated-has calculation.Negative range n inside = negated-has range n inside
calculated-has calculation.Complement range n inside = truth-in (complement range) (not (is_true n)) (complement-has range n inside)
calculated-has calculation.Absolute range n inside = absolute-has range n inside
calculated-has (calculation.Square overflow) range n inside = squared-has range n inside
calculated-has calculation.Parity range n inside = truth_values-has (is_odd n)
calculated-has calculation.Ordinal range n inside = inside

one-single : HasMember single (pos 1)
one-single = (omega (arith, ints), omega (arith, ints))

shifted-has : (does : Shift) (range : Interval) (n : ℤ) → HasMember range n → HasMember (walk.shifted does range) (meaning.shifted does n)
shifted-has shift.Same range n inside = inside
shifted-has shift.Next range n inside = sum-has range single n (pos 1) inside one-single
shifted-has shift.Previous range n inside = difference-has range single n (pos 1) inside one-single

-- a right operand is no divisor, or one that may be
abbrev IsDivisor : Dyadic → ℤ → Type 0
IsDivisor (dyadic.Div by_zero) b = is_true b ≡ true
IsDivisor (dyadic.Mod by_zero_or_less) b = is_positive b ≡ true
IsDivisor other b = Unit {0}

of_both-has : (operation : Dyadic) (left right : Interval) (a b : ℤ) → HasMember left a → HasMember right b → IsDivisor operation b
    → HasMember (walk.of_both operation left right) (meaning.of_both operation a b)
of_both-has (dyadic.Plus overflow) left right a b one two divides = sum-has left right a b one two
of_both-has (dyadic.Minus overflow) left right a b one two divides = difference-has left right a b one two
of_both-has (dyadic.Times overflow) left right a b one two divides = product-has left right a b one two
of_both-has (dyadic.Div by_zero) left right a b one two divides = quotient-has left right a b one two divides
of_both-has (dyadic.Mod by_zero_or_less) left right a b one two divides = remainder-has left right a b one two divides
of_both-has dyadic.And left right a b one two divides = truth-in (both left right) (is_true a && is_true b) (both-has left right a b one two)
of_both-has dyadic.Or left right a b one two divides = truth-in (either left right) (is_true a || is_true b) (either-has left right a b one two)
of_both-has (dyadic.Relation relation) left right a b one two divides = truth_values-has (meaning.relates relation a b)
of_both-has dyadic.Union left right a b one two divides = truth_values-has false
of_both-has dyadic.Difference left right a b one two divides = truth_values-has false
of_both-has dyadic.Intersection left right a b one two divides = truth_values-has false
of_both-has (dyadic.SetRelation relation) left right a b one two divides = truth_values-has false
of_both-has dyadic.In left right a b one two divides = truth_values-has false

-- a value is known, behind a test, and of the kind that it was
abbrev pub IsFitting : Known → Value → Known → Unit {0} → Store → Type 0
IsFitting known v passed done store = IsKnown passed v × (scalar_of passed ≡ scalar_of known)

-- a number is known, whatever the store
abbrev IsNumber : Known → ℤ → Store → Type 0
IsNumber known n store = IsKnown known (Number n) × (scalar_of known ≡ scalar.Ordinal)

-- what is asked of a right operand: it lies in the range that passes
abbrev Divides : Dyadic → ℤ → Interval → Unit {0} → Store → Type 0
Divides operation b passed done store = HasMember passed b × IsDivisor operation b

module _ (world : World) (block : ℕ) (env : Environment) where
  -- ---- tests

  -- a number that has to lie in limits
  pub within-sound : (limits : Interval) (site : ℕ) (range : Interval) (n : ℤ) (test : Bool) → site < sites_in world → (test ≡ true → HasMember limits n)
      → (HasMember limits n → test ≡ true)
      → HasMember range n → Sound world block env (Passes test n) (effect.require test site) (walk.within limits site range)
  within-sound limits site range n test below lies fits inside =
      sound-tested world block env (is_included range limits) site (common range limits) n test below
      (λ included. fits (included-in range limits (Number n) included inside)) (λ passes. common-in range limits (Number n) inside (lies passes))

  -- a number that has to pass a test lies in its range then
  passed-sound : (fits : RangeTest) (range : Interval) (n : ℤ) → fits.site < sites_in world → HasMember range n
      → Sound world block env (Passes (is_in fits.range (Number n)) n) (effect.require (is_in fits.range (Number n)) fits.site)
      (walk.within (limits_of fits.range) fits.site range)
  passed-sound fits range n below inside =
      within-sound (limits_of fits.range) fits.site range n (is_in fits.range (Number n)) below (is_in-limits fits.range (Number n))
      (limits-is_in fits.range (Number n)) inside

  -- a value that has to fit a type is known to then, and it is what it was
  pub fitting-sound : (fits : RangeTest) (known : Known) (v : Value) → fits.site < sites_in world → IsKnown known v
      → Sound world block env (IsFitting known v) (effect.require (is_in fits.range v) fits.site) (walk.fitting fits known)
  fitting-sound fits known v below inside context state s unbroken part here =
      let test = is_in fits.range v in
      let limits = limits_of fits.range in
      let within : IsIn (known_range known) v = values-tell.in_range known v inside in
      good-weaker world (IsForetold world env (PassesAs test v) context (walk.fitting fits known context state) s.store)
      (IsForetold world env (IsFitting known v) context (walk.fitting fits known context state) s.store) s (effect.require test fits.site s)
      (λ done t is told. record {
        tie = (told.so.tie.0, scalar-held (scalar_of known) (common (known_range known) limits));
        stands = told.so.stands;
        kept = told.so.kept;
      })
      (sound-tested_value world block env (is_included (known_range known) limits) fits.site (limited limits known) v test below
      (λ included. limits-is_in fits.range v (included-in (known_range known) limits v included within))
      (λ passes. limited-known limits known v inside (is_in-limits fits.range v passes)) context state s unbroken part here)

  -- a number that has to be at least 1
  pub positive-sound : (site : ℕ) (range : Interval) (n : ℤ) → site < sites_in world → HasMember range n
      → Sound world block env (Passes (is_positive n) n) (effect.require (is_positive n) site) (walk.positive site range)
  positive-sound site range n below inside =
      sound-tested world block env (int_le (pos 1) range.first) site (at_least (pos 1) range) n (is_positive n) below
      (λ first. first-positive range n first inside) (λ passes. at_least-has (pos 1) range n inside (is-positive n passes))

  -- a divisor, which may not be 0
  divisor-sound : (site : ℕ) (range : Interval) (n : ℤ) → site < sites_in world → HasMember range n
      → Sound world block env (Passes (is_true n) n) (effect.require (is_true n) site) (walk.divisor site range)
  divisor-sound site range n below inside =
      sound-tested world block env (not (has_number range (pos 0))) site (without_zero_end range) n (is_true n) below
      (λ without. without-zero range n without inside) (λ passes. without_zero_end-has range n inside passes)

  divides-sound : (operation : Dyadic) (range : Interval) (b : ℤ) → dyadic_is_well_formed (outline_of world.tree) block operation ≡ true → HasMember range b
      → Sound world block env (Divides operation b) (meaning.divides operation b) (walk.divides operation range)
  divides-sound (dyadic.Div by_zero) range b well inside = divisor-sound by_zero range b (ltb-true by_zero (sites_in world) well) inside
  divides-sound (dyadic.Mod by_zero_or_less) range b well inside =
      positive-sound by_zero_or_less range b (ltb-true by_zero_or_less (sites_in world) well) inside
  divides-sound (dyadic.Plus overflow) range b well inside = sound-give world block env (Divides (dyadic.Plus overflow) b) tt range (λ store. (inside, tt))
  divides-sound (dyadic.Minus overflow) range b well inside = sound-give world block env (Divides (dyadic.Minus overflow) b) tt range (λ store. (inside, tt))
  divides-sound (dyadic.Times overflow) range b well inside = sound-give world block env (Divides (dyadic.Times overflow) b) tt range (λ store. (inside, tt))
  divides-sound dyadic.And range b well inside = sound-give world block env (Divides dyadic.And b) tt range (λ store. (inside, tt))
  divides-sound dyadic.Or range b well inside = sound-give world block env (Divides dyadic.Or b) tt range (λ store. (inside, tt))
  divides-sound (dyadic.Relation relation) range b well inside =
      sound-give world block env (Divides (dyadic.Relation relation) b) tt range (λ store. (inside, tt))
  divides-sound dyadic.Union range b well inside = sound-give world block env (Divides dyadic.Union b) tt range (λ store. (inside, tt))
  divides-sound dyadic.Difference range b well inside = sound-give world block env (Divides dyadic.Difference b) tt range (λ store. (inside, tt))
  divides-sound dyadic.Intersection range b well inside = sound-give world block env (Divides dyadic.Intersection b) tt range (λ store. (inside, tt))
  divides-sound (dyadic.SetRelation relation) range b well inside =
      sound-give world block env (Divides (dyadic.SetRelation relation) b) tt range (λ store. (inside, tt))
  divides-sound dyadic.In range b well inside = sound-give world block env (Divides dyadic.In b) tt range (λ store. (inside, tt))

  -- ---- results

  -- the site of an overflow is one of the program
  abbrev HasSite : Option ℕ → Type 0
  HasSite overflow = (site : ℕ) → overflow ≡ Some site → site < sites_in world

  own-site : (overflow : ℕ) → nat_lt overflow (sites_in world) ≡ true → HasSite (Some overflow)
  own-site overflow well site is = ltb-true site (sites_in world) (subst (λ (n : ℕ). nat_lt n (sites_in world) ≡ true) (same_Some overflow site is) well)

  calculated-site : (does : Calculation) → calculation_is_well_formed (outline_of world.tree) block does ≡ true → HasSite (meaning.overflow_of does)
  calculated-site calculation.Same well site is = absurd (none-some site is)
  calculated-site calculation.Negative well site is = absurd (none-some site is)
  calculated-site calculation.Complement well site is = absurd (none-some site is)
  calculated-site calculation.Absolute well site is = absurd (none-some site is)
  calculated-site (calculation.Square overflow) well site is = own-site overflow well site is
  calculated-site calculation.Parity well site is = absurd (none-some site is)
  calculated-site calculation.Ordinal well site is = absurd (none-some site is)

  of_both-site : (operation : Dyadic) → dyadic_is_well_formed (outline_of world.tree) block operation ≡ true → HasSite (meaning.overflow_of_both operation)
  of_both-site (dyadic.Plus overflow) well site is = own-site overflow well site is
  of_both-site (dyadic.Minus overflow) well site is = own-site overflow well site is
  of_both-site (dyadic.Times overflow) well site is = own-site overflow well site is
  of_both-site (dyadic.Div by_zero) well site is = absurd (none-some site is)
  of_both-site (dyadic.Mod by_zero_or_less) well site is = absurd (none-some site is)
  of_both-site dyadic.And well site is = absurd (none-some site is)
  of_both-site dyadic.Or well site is = absurd (none-some site is)
  of_both-site (dyadic.Relation relation) well site is = absurd (none-some site is)
  of_both-site dyadic.Union well site is = absurd (none-some site is)
  of_both-site dyadic.Difference well site is = absurd (none-some site is)
  of_both-site dyadic.Intersection well site is = absurd (none-some site is)
  of_both-site (dyadic.SetRelation relation) well site is = absurd (none-some site is)
  of_both-site dyadic.In well site is = absurd (none-some site is)

  -- a value that is a number of a range, and the number itself
  pub given-sound : (range : Interval) (n : ℤ) → HasMember range n
      → Sound world block env (IsHeld scalar.Ordinal) (effect.give (Number n)) (walk.ordinal range)
  given-sound range n inside = sound-give world block env (IsHeld scalar.Ordinal) (Number n) (Ordinal range) (λ store. (inside, refl))

  number-sound : (range : Interval) (n : ℤ) → HasMember range n → Sound world block env IsNumber (effect.give n) (walk.ordinal range)
  number-sound range n inside = sound-give world block env IsNumber n (Ordinal range) (λ store. (inside, refl))

  -- a result that has to be an integer, where its overflow has a site
  unless-sound : (overflow : Option ℕ) (range : Interval) (n : ℤ) → HasSite overflow → HasMember range n
      → Sound world block env IsNumber (meaning.unless_overflow overflow n) (walk.unless_overflow overflow range)
  unless-sound None range n below inside = number-sound range n inside
  unless-sound (Some site) range n below inside =
      let test = is_integer_number n in
      let fits = has-is_within integer.first integer.last n in
      sound-then world block env (Passes test n) IsNumber (effect.require test site) (λ tested. effect.give n)
      (walk.within integer site range) (λ passed. walk.ordinal passed)
      (within-sound integer site range n test (below site refl) (is_within-has integer.first integer.last n) fits inside)
      (λ passed tested store passes. number-sound passed n passes.0)

  -- ---- operations

  number-operated : (operation : Monadic) (known : Known) (n : ℤ) → monadic_is_well_formed (outline_of world.tree) block operation ≡ true
      → HasMember (known_range known) n → Sound world block env IsNumber (meaning.operated operation n) (walk.operated operation known)
  number-operated (monadic.Plain does) known n well inside =
      unless-sound (meaning.overflow_of does) (walk.calculated does (known_range known)) (meaning.calculated does n) (calculated-site does well)
      (calculated-has does (known_range known) n inside)
  number-operated (monadic.Tested fits does) known n well inside =
      let test = is_in fits.range (Number n) in
      let outline = outline_of world.tree in
      let parts = and_parts (is_well_formed_test outline block fits) (shift_is_well_formed outline block fits.range does) well in
      let site = and_parts (nat_lt fits.site (sites_in world)) (is_whole fits.range.first && is_whole fits.range.last) parts.0 in
      sound-then world block env (Passes test n) IsNumber (effect.require test fits.site) (λ tested. effect.give (meaning.shifted does n))
      (walk.within (limits_of fits.range) fits.site (known_range known)) (λ passed. walk.ordinal (walk.shifted does passed))
      (passed-sound fits (known_range known) n (ltb-true fits.site (sites_in world) site.0) inside)
      (λ passed tested store passes. number-sound (walk.shifted does passed) (meaning.shifted does n) (shifted-has does passed n passes.0))

  number-combined : (operation : Dyadic) (left right : Interval) (a b : ℤ) → dyadic_is_well_formed (outline_of world.tree) block operation ≡ true
      → HasMember left a → HasMember right b
      → Sound world block env IsNumber (meaning.combined operation a b) (walk.calculated_both operation left right)
  number-combined operation left right a b well one two =
      let overflow = meaning.overflow_of_both operation in
      sound-then world block env (Divides operation b) IsNumber (meaning.divides operation b)
      (λ done. meaning.unless_overflow overflow (meaning.of_both operation a b)) (walk.divides operation right)
      (λ passed. walk.unless_overflow overflow (walk.of_both operation left passed)) (divides-sound operation right b well two)
      (λ passed done store is. unless-sound overflow (walk.of_both operation left passed) (meaning.of_both operation a b) (of_both-site operation well)
      (of_both-has operation left passed a b one is.0 is.1))

  -- a number that is given as a value
  valued-sound : (action : effect.Action ℤ) (walking : walk.Walking Known) → Sound world block env IsNumber action walking
      → Sound world block env (IsHeld scalar.Ordinal) (effect.◌>>=◌ action (λ n. effect.give (Number n))) walking
  valued-sound action walking sound =
      sound-given world block env IsNumber (IsHeld scalar.Ordinal) (λ n. Number n) (λ known n store is. is) action walking sound

  pub operated-sound : (operation : Monadic) (known : Known) (v : Value)
      → monadic_is_well_formed (outline_of world.tree) block operation ≡ true
      → IsKnown known v → scalar_of known ≡ scalar.Ordinal
      → Sound world block env (IsHeld scalar.Ordinal) (effect.◌>>=◌ (meaning.operated operation (number_of v)) (λ n. effect.give (Number n)))
      (walk.operated operation known)
  operated-sound operation known v well inside is =
      valued-sound (meaning.operated operation (number_of v)) (walk.operated operation known)
      (number-operated operation known (number_of v) well (number-known known v inside is))

  -- ---- operations on two operands

  -- an operator of two sets, and a truth value
  of-sets : (o : Operator) (left right : Known) (v w : Value) → IsIn (hull_known left) (Members (members_of v))
      → IsIn (hull_known right) (Members (members_of w))
      → Sound world block env (IsHeld scalar.Set) (effect.give (Members (sets.of_two o (members_of v) (members_of w))))
      (walk.set (operated_sets o (hull_known left) (hull_known right)))
  of-sets o left right v w one two =
      sound-give world block env (IsHeld scalar.Set) (Members (sets.of_two o (members_of v) (members_of w)))
      (Set (operated_sets o (hull_known left) (hull_known right)))
      (λ store. (values-tell.of_operator o (hull_known left) (hull_known right) (members_of v) (members_of w) one two, refl))

  module _ (left right : Known) (v w : Value) (one : IsKnown left v) (two : IsKnown right w) where
    of-numbers : (operation : Dyadic) → dyadic_is_well_formed (outline_of world.tree) block operation ≡ true → scalar_of left ≡ scalar.Ordinal
        → scalar_of right ≡ scalar.Ordinal
        → Sound world block env (IsHeld scalar.Ordinal)
        (effect.◌>>=◌ (meaning.combined operation (number_of v) (number_of w)) (λ n. effect.give (Number n)))
        (walk.calculated_both operation (known_range left) (known_range right))
    of-numbers operation well left_is right_is =
        valued-sound (meaning.combined operation (number_of v) (number_of w)) (walk.calculated_both operation (known_range left) (known_range right))
        (number-combined operation (known_range left) (known_range right) (number_of v) (number_of w) well (number-known left v one left_is)
        (number-known right w two right_is))

    pub combined-sound : (operation : Dyadic) → dyadic_is_well_formed (outline_of world.tree) block operation ≡ true
        → scalar_of left ≡ taken_left operation → scalar_of right ≡ taken_right operation
        → Sound world block env (IsHeld (given operation)) (meaning.operated_both operation v w) (walk.combined operation left right)
    combined-sound (dyadic.Plus overflow) well left_is right_is = of-numbers (dyadic.Plus overflow) well left_is right_is
    combined-sound (dyadic.Minus overflow) well left_is right_is = of-numbers (dyadic.Minus overflow) well left_is right_is
    combined-sound (dyadic.Times overflow) well left_is right_is = of-numbers (dyadic.Times overflow) well left_is right_is
    combined-sound (dyadic.Div by_zero) well left_is right_is = of-numbers (dyadic.Div by_zero) well left_is right_is
    combined-sound (dyadic.Mod by_zero_or_less) well left_is right_is = of-numbers (dyadic.Mod by_zero_or_less) well left_is right_is
    combined-sound dyadic.And well left_is right_is = of-numbers dyadic.And well left_is right_is
    combined-sound dyadic.Or well left_is right_is = of-numbers dyadic.Or well left_is right_is
    combined-sound (dyadic.Relation relation) well left_is right_is = of-numbers (dyadic.Relation relation) well left_is right_is
    combined-sound dyadic.Union well left_is right_is =
        of-sets operator.Union left right v w (set-known left v one left_is) (set-known right w two right_is)
    combined-sound dyadic.Difference well left_is right_is =
        of-sets operator.Difference left right v w (set-known left v one left_is) (set-known right w two right_is)
    combined-sound dyadic.Intersection well left_is right_is =
        of-sets operator.Intersection left right v w (set-known left v one left_is) (set-known right w two right_is)
    combined-sound (dyadic.SetRelation relation) well left_is right_is =
        let test = sets.stand (meaning.way_of relation) (members_of v) (members_of w) in
        given-sound truth_values (truth test) (truth_values-has test)
    combined-sound dyadic.In well left_is right_is =
        let test = sets.has (members_of w) (number_of v) in
        given-sound truth_values (truth test) (truth_values-has test)
