-- What is asked of the input, and what is read of it: the walk knows nothing of it but that an answer is a truth value.
use Rattle.std.proofs.Common.{ap, refl, ℕ, ℤ, pos, Bool, true, false, Option, Some, None}
use Rattle.std.specs.Prelude.{if◌then◌else◌}
use Rattle.types.specs.declared.form.OrdinalRange.{OrdinalRange}
use Rattle.text_input.specs.declared.InputFault.{InputFault}
use Rattle.text_input.specs.declared.InputFault.TheVariants.{OutsideType}
use Rattle.text_input.specs.Input.{is_at_end, read_character, read_eoln, read_integer, read_line}
use Rattle.typed_tree.specs.declared.tree.InputTest.{InputTest}
use Rattle.typed_tree.specs.declared.tree.InputTest.TheVariants as input_test
use Rattle.typed_tree.specs.declared.tree.Readable.{Readable}
use Rattle.typed_tree.specs.declared.tree.Readable.TheVariants as readable
use Rattle.typed_tree.specs.declared.tree.Scalar.TheVariants as scalar
use Rattle.domain.specs.Interval.{truth_values}
use Rattle.meaning.specs.declared.outcome.Ending.{Ending}
use Rattle.meaning.specs.declared.outcome.Ending.TheVariants as ending
use Rattle.meaning.specs.declared.value.Value.TheVariants.{Number}
use Rattle.meaning.specs.Integers.{truth}
use Rattle.meaning.specs.Store.{Environment, Store}
use Rattle.meaning.specs.Effect as effect
use Rattle.meaning.specs.Effect.{is_in}
use Rattle.meaning.specs.Meaning as meaning
use Rattle.checker_state.specs.declared.value.Known.{Known}
use Rattle.checker_state.specs.declared.value.Known.TheVariants.{Ordinal}
use Rattle.checker_state.proofs.Evaluated.{then-keeps}
use Rattle.checker_state.proofs.Ranged.{truth_values-has}
use Rattle.checker_expressions.specs.Walk as walk
use Rattle.checker_expressions.proofs.Keeping.{keeps-itself}
use Rattle.checker_expressions.proofs.Sound.{World, Any_value, IsForetold, IsHeld, IsSo, SoundLeaves, Sound, gives-state, good-give, good-stopped, sound-given}
use Rattle.checker_expressions.proofs.Sound.{sound-take_in, take_in-leaves}

-- what is read leaves the store as it is, and so does its test
pub read-leaves : (reads : Readable) (point : ℕ) → SoundLeaves (meaning.read_as reads point)
read-leaves readable.Integer point = take_in-leaves point read_integer
read-leaves readable.Char point =
    then-keeps (effect.take_in point read_character) (λ c. effect.give (pos c)) (take_in-leaves point read_character)
    (λ c s t n is. ap (λ (x : effect.State). x.store) (gives-state (pos c) n s t is))

unless-leaves : (test : Bool) (e : Ending) → SoundLeaves {A = Unit {0}} (if test then effect.give tt else effect.stop e)
unless-leaves true e s t done is = ap (λ (x : effect.State). x.store) (gives-state tt done s t is)
unless-leaves false e s t done is = absurd (cc)

pub outside-leaves : (range : OrdinalRange) (point : ℕ) (n : ℤ) → SoundLeaves (meaning.unless_outside range point n)
outside-leaves range point n = unless-leaves (is_in range (Number n)) (ending.Input point OutsideType)

module _ (world : World) (block : ℕ) (env : Environment) where
  -- ---- what is asked

  abbrev IsTruth : Known → Bool → Store → Type 0
  IsTruth known b store = IsHeld scalar.Ordinal known (Number (truth b)) store

  test-sound : (asks : InputTest) → Sound world block env IsTruth (meaning.asked asks) (walk.ordinal truth_values)
  test-sound input_test.End context state s unbroken part here =
      let b = is_at_end s.input in
      good-give world (IsForetold world env IsTruth context (walk.ordinal truth_values context state) s.store) b s here.fine
      (record { tie = (truth_values-has b, refl); stands = here.stands; kept = keeps-itself env context.rounds s.store })
  test-sound (input_test.LineEnd point) context state s unbroken part here =
      sound-take_in world block env IsTruth (Ordinal truth_values) point read_eoln (λ b store. (truth_values-has b, refl)) context state s unbroken part here

  -- what is asked of the input is answered by a truth value
  pub asked-sound : (asks : InputTest)
      → Sound world block env (IsHeld scalar.Ordinal) (effect.◌>>=◌ (meaning.asked asks) (λ b. effect.give (Number (truth b)))) (walk.ordinal truth_values)
  asked-sound asks =
      sound-given world block env IsTruth (IsHeld scalar.Ordinal) (λ b. Number (truth b)) (λ known b store tie. tie) (meaning.asked asks)
      (walk.ordinal truth_values) (test-sound asks)

  -- ---- what is read

  -- a number, of which nothing is known
  pub read-sound : (reads : Readable) (point : ℕ) → Sound {A = ℤ} {B = Unit {0}} world block env Any_value (meaning.read_as reads point) (walk.give tt)
  read-sound readable.Integer point = sound-take_in {A = ℤ} {B = Unit {0}} world block env Any_value tt point read_integer (λ n store. tt)
  read-sound readable.Char point =
      sound-given {A = ℕ} {B = Unit {0}} {C = ℤ} world block env Any_value Any_value (λ c. pos c) (λ done c store tie. tt) (effect.take_in point read_character)
      (walk.give tt) (sound-take_in {A = ℕ} {B = Unit {0}} world block env Any_value tt point read_character (λ c store. tt))

  -- a test that isn't passed stops the run for its input
  refused-sound : (test : Bool) (point : ℕ) (fault : InputFault)
      → Sound world block env (IsSo test) (if test then effect.give tt else effect.stop (ending.Input point fault)) (walk.give tt)
  refused-sound true point fault context state s unbroken part here =
      good-give world (IsForetold world env (IsSo true) context (walk.give tt context state) s.store) tt s here.fine
      (record { tie = refl; stands = here.stands; kept = keeps-itself env context.rounds s.store })
  refused-sound false point fault context state s unbroken part here =
      good-stopped world (IsForetold world env (IsSo false) context (walk.give tt context state) s.store) point fault s

  -- where the run goes on behind a number that was read, that is a value of the variable's type
  pub outside-sound : (range : OrdinalRange) (point : ℕ) (n : ℤ)
      → Sound world block env (IsSo (is_in range (Number n))) (meaning.unless_outside range point n) (walk.give tt)
  outside-sound range point n = refused-sound (is_in range (Number n)) point OutsideType

  -- the line end behind a readln
  pub line-sound : (line : Option ℕ) → Sound {A = Unit {0}} {B = Unit {0}} world block env Any_value (meaning.line_passed line) (walk.give tt)
  line-sound None context state s unbroken part here =
      good-give {A = Unit {0}} world (IsForetold {B = Unit {0}} world env Any_value context (walk.give tt context state) s.store) tt s here.fine
      (record { tie = tt; stands = here.stands; kept = keeps-itself env context.rounds s.store })
  line-sound (Some point) context state s unbroken part here =
      sound-take_in {A = Unit {0}} {B = Unit {0}} world block env Any_value tt point read_line (λ done store. tt) context state s unbroken part here
