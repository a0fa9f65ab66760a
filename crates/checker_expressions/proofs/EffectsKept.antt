-- What pieces of a program leave as it was: each action of which they are made, and one after the other.
use Rattle.std.specs.Prelude.{int_le, not, if◌then◌else◌}
use Rattle.std.specs.Ordering.{int_eq}
use Rattle.std.proofs.Common.{arith, ◌≡◌, ◌⊎◌, inl, inr, ⊎_elim, ℕ, zero, suc, ℤ, pos, ◌<◌, ◌≤◌, List, [], ◌∷◌, ◌++◌, Bool}
use Rattle.std.proofs.Common.{true, false, Option, Some, None, refl, sym, ap, ◌∙◌, subst}
use Rattle.std.proofs.lemmas.Bool.{and_parts, and_from, eqb-true}
use Rattle.std.proofs.lemmas.Int.{ints}
use Rattle.types.specs.declared.form.OrdinalRange.{OrdinalRange}
use Rattle.types.specs.declared.form.Step.{Step}
use Rattle.types.specs.declared.form.Step.TheVariants.{Element, Field}
use Rattle.typed_tree.specs.declared.tree.Monadic.{Monadic}
use Rattle.typed_tree.specs.declared.tree.Monadic.TheVariants as monadic
use Rattle.typed_tree.specs.declared.tree.Dyadic.{Dyadic}
use Rattle.typed_tree.specs.declared.tree.Dyadic.TheVariants as dyadic
use Rattle.typed_tree.specs.declared.tree.InputTest.{InputTest}
use Rattle.typed_tree.specs.declared.tree.InputTest.TheVariants as input_test
use Rattle.typed_tree.specs.declared.tree.Readable.{Readable}
use Rattle.typed_tree.specs.declared.tree.Readable.TheVariants as readable
use Rattle.text_input.specs.declared.InputFault.TheVariants.{OutsideType}
use Rattle.text_input.specs.Input.{Reading, Reads, Fails, Ends, read_character, read_eoln, read_integer, read_line}
use Rattle.members.specs.Members.{can_be_member, range_fits}
use Rattle.meaning.specs.declared.outcome.Ending.{Ending}
use Rattle.meaning.specs.declared.outcome.Ending.TheVariants as ending
use Rattle.meaning.specs.declared.value.Value.{Value}
use Rattle.meaning.specs.declared.value.Value.TheVariants.{Number}
use Rattle.meaning.specs.Integers.{is_integer_number}
use Rattle.meaning.specs.Store.{Environment, Place, Store, forgotten, held, is_beginning, kept, part, place_eq, step_eq, stored}
use Rattle.meaning.specs.Effect.{State, Reply, Gives, Stops, Action, Round, ◌>>=◌, and_then, give, stop, require, enter, number_of, use_turn, take_turn}
use Rattle.meaning.specs.Effect.{another, looped, looping, fetch, fetch_all, fetched, is_in, store, store_all, take_in, taken, undefine, write}
use Rattle.meaning.specs.Meaning.{calculated, combined, divides, line_ended, of_both, operated, operated_both, overflow_of, overflow_of_both, shifted}
use Rattle.meaning.specs.Meaning.{asked, line_passed, read_as, unless_outside, unless_overflow, with_one, with_range}
use Rattle.meaning.specs.Laws.{state_after}
use Rattle.checker_state.proofs.Apart.{place-same}
use Rattle.checker_calls.specs.Environments.{IsListed, LiesUnder}
use Rattle.checker_calls.proofs.Places.{step-itself}

-- where a piece stands: what lies in activations of lower numbers is changed only where it may be, and what lies in those below another number stays
-- defined; which places may be changed, a part with the whole; and what is visible
pub record Standing : Type 1 where
  pub number : ℕ
  pub settled : ℕ
  pub may : Place → Type 0
  pub part_may : (between place : Place) → may between → LiesUnder between place → may place
  pub visible : Environment

-- where it stands after other finished turns
abbrev pub turned : Standing → List ℕ → Standing
turned at turns = record at { visible = record at.visible { turns = turns } }

-- what a piece leaves in earlier activations
pub record LeavesSo (at : Standing) (before after : Store) : Type 0 where
  pub values : (place : Place) → place.activation < at.number → at.may place ⊎ (stored after place ≡ stored before place)
  pub defined : (place : Place) (v : Value) → place.activation < at.settled → stored before place ≡ Some v → (w : Value) × (stored after place ≡ Some w)

-- what is left from one state to another, between which only activations begin
pub record Leaving (at : Standing) (before after : State) : Type 0 where
  pub grows : before.activations ≤ after.activations
  pub leaves : LeavesSo at before.store after.store

-- an action leaves that, once the activation has begun
pub record Keeps {A : Type 0} (at : Standing) (action : Action A) : Type 0 where
  pub left : (s : State) → at.number ≤ s.activations → Leaving at s (state_after (action s))

-- it leaves that whatever turns are finished
pub keeps-turned : {A : Type 0} (at : Standing) (turns others : List ℕ) (action : Action A) → Keeps (turned at others) action → Keeps (turned at turns) action
keeps-turned at turns others action kept = record {
  left = λ s begun.
      let leaving = kept.left s begun in
      record { grows = leaving.grows; leaves = record { values = leaving.leaves.values; defined = leaving.leaves.defined } };
}

-- ---- places

-- a place may be written: it lies in no earlier activation, or may be changed
abbrev pub MayWrite : Standing → Place → Type 0
MayWrite at place = place.activation < at.number → at.may place

-- a variable may be changed where it stands
abbrev pub MayChange : Standing → ℕ → Type 0
MayChange at root = (home : Place) → at.visible.variables root ≡ Some home → MayWrite at home

abbrev pub MayWriteTo : Standing → Option Place → Type 0
MayWriteTo at found = (place : Place) → found ≡ Some place → MayWrite at place

-- what is found lies under the place of a variable
abbrev pub IsUnder : Environment → ℕ → Option Place → Type 0
IsUnder visible root found =
    (place : Place) → found ≡ Some place → (home : Place) × (visible.variables root ≡ Some home) × LiesUnder home place

step-same : (a b : Step) → step_eq a b ≡ true → a ≡ b
step-same (Element i) (Element j) is = let same : i ≡ j = grind (arith, ints) in ap Element same
step-same (Field a) (Field b) is = ap Field (eqb-true a b is)
step-same (Element i) (Field b) is = absurd (cc)
step-same (Field a) (Element j) is = absurd (cc)

begins-itself : (steps : List Step) → is_beginning steps steps ≡ true
begins-itself [] = refl
begins-itself (step ∷ steps) = and_from (step_eq step step) (is_beginning steps steps) (step-itself step) (begins-itself steps)

begins-further : (steps behind more : List Step) → is_beginning steps behind ≡ true → is_beginning steps (behind ++ more) ≡ true
begins-further [] behind more is = refl
begins-further (step ∷ steps) [] more is = absurd (cc)
begins-further (step ∷ steps) (other ∷ behind) more is =
    let parts = and_parts (step_eq step other) (is_beginning steps behind) is in
    and_from (step_eq step other) (is_beginning steps (behind ++ more)) parts.0 (begins-further steps behind more parts.1)

begins-through : (first second third : List Step) → is_beginning first second ≡ true → is_beginning second third ≡ true
    → is_beginning first third ≡ true
begins-through [] second third a b = refl
begins-through (x ∷ first) [] third a b = absurd (cc)
begins-through (x ∷ first) (y ∷ second) [] a b = absurd (cc)
begins-through (x ∷ first) (y ∷ second) (z ∷ third) a b =
    let one = and_parts (step_eq x y) (is_beginning first second) a in
    let two = and_parts (step_eq y z) (is_beginning second third) b in
    and_from (step_eq x z) (is_beginning first third) (subst (λ (w : Step). step_eq w z ≡ true) (sym (step-same x y one.0)) two.0)
    (begins-through first second third one.1 two.1)

pub lies-itself : (home : Place) → LiesUnder home home
lies-itself home = (refl, refl, begins-itself home.steps)

pub lies-through : (home between place : Place) → LiesUnder home between → LiesUnder between place → LiesUnder home place
lies-through home between place one two =
    (one.0 ∙ two.0, one.1 ∙ two.1, begins-through home.steps between.steps place.steps one.2 two.2)

pub listed-under : (changes : List ℕ) (visible : Environment) (between place : Place) → IsListed changes visible between
    → LiesUnder between place → IsListed changes visible place
listed-under changes visible between place (root, home, among, is, under) lies =
    (root, home, among, is, lies-through home between place under lies)

-- where a piece stands that may change what is listed
abbrev pub listing : (number settled : ℕ) → List ℕ → Environment → Standing
listing number settled changes visible = record {
  number = number;
  settled = settled;
  may = IsListed changes visible;
  part_may = listed-under changes visible;
  visible = visible;
}

-- where a piece stands that may change all but what lies at a place
abbrev pub watching : Place → Environment → Standing
watching home visible = record {
  number = suc home.activation;
  settled = 0;
  may = λ place. LiesUnder place home → ⊥;
  part_may = λ between place may lies over. may (lies-through between place home lies over);
  visible = visible;
}

-- what lies under a variable that may be changed may be written
pub under-write : (at : Standing) (root : ℕ) (found : Option Place) → MayChange at root → IsUnder at.visible root found → MayWriteTo at found
under-write at root found may under place is earlier =
    let (home, seen, lies) = under place is in
    at.part_may home place (may home seen (omega (arith, lies.0, earlier))) lies

-- a variable's own place, and what is a part of it
pub variable-under : (visible : Environment) (root : ℕ) → IsUnder visible root (visible.variables root)
variable-under visible root place is = (place, is, lies-itself place)

part-lies : (p : Place) (steps : List Step) → LiesUnder p (record p { steps = p.steps ++ steps })
part-lies p steps = (refl, refl, begins-further p.steps p.steps steps (begins-itself p.steps))

pub part-under : (visible : Environment) (root : ℕ) (found : Option Place) (steps : List Step) → IsUnder visible root found
    → IsUnder visible root (part found steps)
part-under visible root None steps under place is = absurd (cc)
part-under visible root (Some p) steps under place is =
    let (home, seen, lies) = under p refl in
    let same : record p { steps = p.steps ++ steps } ≡ place = cc in
    (home, seen, lies-through home p place lies (subst (λ (q : Place). LiesUnder p q) same (part-lies p steps)))

pub part-write : (at : Standing) (found : Option Place) (steps : List Step) → MayWriteTo at found → MayWriteTo at (part found steps)
part-write at None steps may place is earlier = absurd (cc)
part-write at (Some p) steps may place is earlier =
    let same : record p { steps = p.steps ++ steps } ≡ place = cc in
    let lies : LiesUnder p place = subst (λ (q : Place). LiesUnder p q) same (part-lies p steps) in
    at.part_may p place (may p refl (omega (arith, lies.0, earlier))) lies

-- ---- from one state to another

pub leaves-itself : (at : Standing) (s : State) → Leaving at s s
leaves-itself at s = record {
  grows = omega arith;
  leaves = record { values = λ place earlier. inr refl; defined = λ place v earlier is. (v, is) };
}

-- the store and the number of activations are the same
pub leaves-same : (at : Standing) (s t : State) → t.store ≡ s.store → t.activations ≡ s.activations → Leaving at s t
leaves-same at s t store_is activations_are = record {
  grows = omega (arith, activations_are);
  leaves = record {
    values = λ place earlier. inr (ap (λ (store : Store). stored store place) store_is);
    defined = λ place v earlier is. (v, ap (λ (store : Store). stored store place) store_is ∙ is);
  };
}

pub leaves-then : (at : Standing) (s t u : State) → Leaving at s t → Leaving at t u → Leaving at s u
leaves-then at s t u one two = record {
  grows = omega (arith, one.grows, two.grows);
  leaves = record {
    values = λ place earlier.
        ⊎_elim (λ may. inl may)
        (λ later. ⊎_elim (λ may. inl may) (λ before. inr (later ∙ before)) (one.leaves.values place earlier))
        (two.leaves.values place earlier);
    defined = λ place v earlier is.
        let between = one.leaves.defined place v earlier is in
        two.leaves.defined place between.0 earlier between.1;
  };
}

-- ---- one action after the other

-- an action gives a value from some state
pub record CanGive {A : Type 0} (action : Action A) (a : A) : Type 0 where
  pub before : State
  pub after : State
  pub gives : action before ≡ Gives a after

rest-gives : {A B : Type 0} (reply : Reply A) (rest : A → Action B) (b : B) (t : State) → and_then reply rest ≡ Gives b t
    → (a : A) × (u : State) × (reply ≡ Gives a u) × (rest a u ≡ Gives b t)
rest-gives (Gives a u) rest b t is = (a, u, refl, is)
rest-gives (Stops e u) rest b t is = absurd (cc)

pub can-then : {A B : Type 0} (first : Action A) (rest : A → Action B) (b : B) → CanGive (first >>= rest) b
    → (a : A) × CanGive first a × CanGive (rest a) b
can-then first rest b given =
    let (a, u, one, two) = rest-gives (first given.before) rest b given.after given.gives in
    (a, record { before = given.before; after = u; gives = one }, record { before = u; after = given.after; gives = two })

pub given-same : {A : Type 0} (a b : A) → CanGive (give a) b → a ≡ b
given-same a b given = let is = given.gives in cc

leaving-rest : {A B : Type 0} (at : Standing) (s : State) (reply : Reply A) (rest : A → Action B) → Leaving at s (state_after reply)
    → ((a : A) (t : State) → reply ≡ Gives a t → Leaving at t (state_after (rest a t))) → Leaving at s (state_after (and_then reply rest))
leaving-rest at s (Gives a t) rest first each = leaves-then at s t (state_after (rest a t)) first (each a t refl)
leaving-rest at s (Stops e t) rest first each = first

module _ (at : Standing) where
  pub keeps-when : {A B : Type 0} (first : Action A) (rest : A → Action B) → Keeps at first → ((a : A) → CanGive first a → Keeps at (rest a))
      → Keeps at (first >>= rest)
  keeps-when {A} {B} first rest one each = record {
    left = λ s begun.
        leaving-rest at s (first s) rest (one.left s begun)
        (λ a t is.
        let after = ap (λ (reply : Reply A). (state_after reply).activations) is in
        let more = (one.left s begun).grows in
        (each a (record { before = s; after = t; gives = is })).left t (omega (arith, begun, more, after)));
  }

  pub keeps-then : {A B : Type 0} (first : Action A) (rest : A → Action B) → Keeps at first → ((a : A) → Keeps at (rest a)) → Keeps at (first >>= rest)
  keeps-then first rest one each = keeps-when first rest one (λ a given. each a)

  -- ---- actions that write nothing

  pub keeps-give : {A : Type 0} (a : A) → Keeps at (give a)
  keeps-give a = record { left = λ s begun. leaves-itself at s }

  pub keeps-stop : (A : Type 0) (e : Ending) → Keeps at (stop {A = A} e)
  keeps-stop A e = record { left = λ s begun. leaves-itself at s }

  pub keeps-enter : (number : ℕ) (visible : Environment) → Keeps at (enter number visible)
  keeps-enter number visible = record { left = λ s begun. leaves-same at s _ refl refl }

  pub keeps-write : (bytes : List ℕ) → Keeps at (write bytes)
  keeps-write bytes = record { left = λ s begun. leaves-same at s _ refl refl }

  pub keeps-require : (holds : Bool) (site : ℕ) → Keeps at (require holds site)
  keeps-require true site = record { left = λ s begun. leaves-itself at s }
  keeps-require false site = record { left = λ s begun. leaves-itself at s }

  leaves-turn : (turns : ℕ) (s : State) → Leaving at s (state_after (take_turn turns s))
  leaves-turn zero s = leaves-itself at s
  leaves-turn (suc left) s = leaves-same at s _ refl refl

  pub keeps-turn : Keeps at use_turn
  keeps-turn = record { left = λ s begun. leaves-turn s.turns s }

  leaves-fetched : (value : Option Value) (site : ℕ) (s : State) → Leaving at s (state_after (fetched value site s))
  leaves-fetched None site s = leaves-itself at s
  leaves-fetched (Some v) site s = leaves-itself at s

  pub keeps-fetch : (found : Option Place) (site : ℕ) → Keeps at (fetch found site)
  keeps-fetch found site = record { left = λ s begun. leaves-fetched (held s.store found) site s }

  pub keeps-fetch_all : (found : Option Place) (components : List (List Step)) (site : ℕ) → Keeps at (fetch_all found components site)
  keeps-fetch_all found [] site = keeps-give []
  keeps-fetch_all found (steps ∷ components) site =
      keeps-then _ _ (keeps-fetch (part found steps) site)
      (λ v. keeps-then _ _ (keeps-fetch_all found components site) (λ values. keeps-give (v ∷ values)))

  pub keeps-line_ended : (ends_line : Bool) → Keeps at (line_ended ends_line)
  keeps-line_ended true = keeps-write (10 ∷ [])
  keeps-line_ended false = keeps-give tt

  -- ---- the input

  leaves-taken : {A : Type 0} (point : ℕ) (reading : Reading A) (s : State) → Leaving at s (state_after (taken point reading s))
  leaves-taken point (Reads a rest) s = leaves-same at s _ refl refl
  leaves-taken point (Fails fault) s = leaves-itself at s
  leaves-taken point Ends s = leaves-itself at s

  -- what is taken of the input, whatever is read
  pub keeps-take_in : {A : Type 0} (point : ℕ) (reading : List ℕ → Reading A) → Keeps at (take_in point reading)
  keeps-take_in point reading = record { left = λ s begun. leaves-taken point (reading s.input) s }

  pub keeps-asked : (asks : InputTest) → Keeps at (asked asks)
  keeps-asked input_test.End = record { left = λ s begun. leaves-itself at s }
  keeps-asked (input_test.LineEnd point) = keeps-take_in point read_eoln

  pub keeps-read_as : (reads : Readable) (point : ℕ) → Keeps at (read_as reads point)
  keeps-read_as readable.Integer point = keeps-take_in point read_integer
  keeps-read_as readable.Char point = keeps-then _ _ (keeps-take_in point read_character) (λ c. keeps-give (pos c))

  keeps-unless : (test : Bool) (e : Ending) → Keeps {A = Unit {0}} at (if test then give tt else stop e)
  keeps-unless true e = keeps-give tt
  keeps-unless false e = keeps-stop (Unit {0}) e

  pub keeps-unless_outside : (range : OrdinalRange) (point : ℕ) (n : ℤ) → Keeps at (unless_outside range point n)
  keeps-unless_outside range point n = keeps-unless (is_in range (Number n)) (ending.Input point OutsideType)

  pub keeps-line_passed : (line : Option ℕ) → Keeps at (line_passed line)
  keeps-line_passed None = keeps-give tt
  keeps-line_passed (Some point) = keeps-take_in point read_line

  -- ---- operations

  -- a number that is given as a value
  pub keeps-valued : (action : Action ℤ) → Keeps at action → Keeps at (action >>= λ n. give (Number n))
  keeps-valued action one = keeps-then action (λ n. give (Number n)) one (λ n. keeps-give (Number n))

  keeps-unless_overflow : (overflow : Option ℕ) (n : ℤ) → Keeps at (unless_overflow overflow n)
  keeps-unless_overflow None n = keeps-give n
  keeps-unless_overflow (Some site) n = keeps-then _ _ (keeps-require (is_integer_number n) site) (λ _. keeps-give n)

  pub keeps-operated : (operation : Monadic) (n : ℤ) → Keeps at (operated operation n)
  keeps-operated (monadic.Plain does) n = keeps-unless_overflow (overflow_of does) (calculated does n)
  keeps-operated (monadic.Tested fits does) n =
      keeps-then _ _ (keeps-require (is_in fits.range (Number n)) fits.site) (λ _. keeps-give (shifted does n))

  keeps-divides : (operation : Dyadic) (b : ℤ) → Keeps at (divides operation b)
  keeps-divides (dyadic.Plus overflow) b = keeps-give tt
  keeps-divides (dyadic.Minus overflow) b = keeps-give tt
  keeps-divides (dyadic.Times overflow) b = keeps-give tt
  keeps-divides (dyadic.Div by_zero) b = keeps-require (not (int_eq b (pos 0))) by_zero
  keeps-divides (dyadic.Mod by_zero_or_less) b = keeps-require (int_le (pos 1) b) by_zero_or_less
  keeps-divides dyadic.And b = keeps-give tt
  keeps-divides dyadic.Or b = keeps-give tt
  keeps-divides (dyadic.Relation r) b = keeps-give tt
  keeps-divides dyadic.Union b = keeps-give tt
  keeps-divides dyadic.Difference b = keeps-give tt
  keeps-divides dyadic.Intersection b = keeps-give tt
  keeps-divides (dyadic.SetRelation r) b = keeps-give tt
  keeps-divides dyadic.In b = keeps-give tt

  keeps-combined : (operation : Dyadic) (a b : ℤ) → Keeps at (combined operation a b)
  keeps-combined operation a b =
      keeps-then _ _ (keeps-divides operation b) (λ _. keeps-unless_overflow (overflow_of_both operation) (of_both operation a b))

  pub keeps-operated_both : (operation : Dyadic) (v w : Value) → Keeps at (operated_both operation v w)
  keeps-operated_both (dyadic.Plus overflow) v w = keeps-valued _ (keeps-combined (dyadic.Plus overflow) (number_of v) (number_of w))
  keeps-operated_both (dyadic.Minus overflow) v w = keeps-valued _ (keeps-combined (dyadic.Minus overflow) (number_of v) (number_of w))
  keeps-operated_both (dyadic.Times overflow) v w = keeps-valued _ (keeps-combined (dyadic.Times overflow) (number_of v) (number_of w))
  keeps-operated_both (dyadic.Div by_zero) v w = keeps-valued _ (keeps-combined (dyadic.Div by_zero) (number_of v) (number_of w))
  keeps-operated_both (dyadic.Mod by_zero_or_less) v w = keeps-valued _ (keeps-combined (dyadic.Mod by_zero_or_less) (number_of v) (number_of w))
  keeps-operated_both dyadic.And v w = keeps-valued _ (keeps-combined dyadic.And (number_of v) (number_of w))
  keeps-operated_both dyadic.Or v w = keeps-valued _ (keeps-combined dyadic.Or (number_of v) (number_of w))
  keeps-operated_both (dyadic.Relation r) v w = keeps-valued _ (keeps-combined (dyadic.Relation r) (number_of v) (number_of w))
  keeps-operated_both dyadic.Union v w = keeps-give _
  keeps-operated_both dyadic.Difference v w = keeps-give _
  keeps-operated_both dyadic.Intersection v w = keeps-give _
  keeps-operated_both (dyadic.SetRelation r) v w = keeps-give _
  keeps-operated_both dyadic.In v w = keeps-give _

  -- ---- members of a set

  pub keeps-with_one : (site : ℕ) (v : Value) (set : ℕ) → Keeps at (with_one site v set)
  keeps-with_one site v set = keeps-then _ _ (keeps-require (can_be_member (number_of v)) site) (λ _. keeps-give _)

  pub keeps-with_range : (site : ℕ) (a b : Value) (set : ℕ) → Keeps at (with_range site a b set)
  keeps-with_range site a b set = keeps-then _ _ (keeps-require (range_fits (number_of a) (number_of b)) site) (λ _. keeps-give _)

  -- ---- loops

  keeps-another : {A : Type 0} (more : Option A) (next : A → Action (Unit {0})) → ((a : A) → Keeps at (next a)) → Keeps at (another more next)
  keeps-another None next each = keeps-give tt
  keeps-another (Some a) next each = each a

  module _ {A : Type 0} (round : Round A) (each : (a : A) → Keeps at (round a)) where
    keeps-looping : (bound : ℕ) (a : A) → Keeps at (looping bound round a)
    keeps-looping zero a =
        keeps-then _ _ (each a) (λ more. keeps-another more (λ b. stop ending.More) (λ b. keeps-stop (Unit {0}) ending.More))
    keeps-looping (suc left) a =
        keeps-then _ _ (each a) (λ more. keeps-another more (looping left round) (keeps-looping left))

    pub keeps-looped : (a : A) → Keeps at (looped round a)
    keeps-looped a = record { left = λ s begun. (keeps-looping s.turns a).left s begun }

  -- ---- actions that write

  written-same : (place other : Place) (v : Value) (store : Store) (same : Bool) → place_eq place other ≡ same → MayWrite at place
      → other.activation < at.number → at.may other ⊎ ((if same then Some v else stored store other) ≡ stored store other)
  written-same place other v store true is may earlier =
      let one = place-same place other is in
      inl (subst (λ (p : Place). MayWrite at p) one may earlier)
  written-same place other v store false is may earlier = inr refl

  written-there : (v w : Value) (found : Option Value) (same : Bool) → found ≡ Some w
      → (u : Value) × ((if same then Some v else found) ≡ Some u)
  written-there v w found true is = (v, refl)
  written-there v w found false is = (w, is)

  leaves-kept : (found : Option Place) (v : Value) (s : State) → MayWriteTo at found → Leaving at s (record s { store = kept s.store found v })
  leaves-kept None v s may = leaves-same at s _ refl refl
  leaves-kept (Some place) v s may = record {
    grows = omega arith;
    leaves = record {
      values = λ other earlier. written-same place other v s.store (place_eq place other) refl (may place refl) earlier;
      defined = λ other w earlier is. written-there v w (stored s.store other) (place_eq place other) is;
    };
  }

  pub keeps-store : (found : Option Place) (v : Value) → MayWriteTo at found → Keeps at (store found v)
  keeps-store found v may = record { left = λ s begun. leaves-kept found v s may }

  pub keeps-store_all : (found : Option Place) (components : List (List Step)) (values : List Value) → MayWriteTo at found
      → Keeps at (store_all found components values)
  keeps-store_all found [] values may = keeps-give tt
  keeps-store_all found (steps ∷ components) [] may = keeps-give tt
  keeps-store_all found (steps ∷ components) (v ∷ values) may =
      keeps-then _ _ (keeps-store (part found steps) v (part-write at found steps may)) (λ _. keeps-store_all found components values may)

  -- what is found may be changed, and lies in no activation where what is defined stays so
  abbrev pub IsOwn : Option Place → Type 0
  IsOwn found = (place : Place) → found ≡ Some place → (at.settled ≤ place.activation) × MayWrite at place

  pub own-write : (found : Option Place) → IsOwn found → MayWriteTo at found
  own-write found own place is earlier = (own place is).1 earlier

  forgotten-same : (place other : Place) (store : Store) (same : Bool) → place_eq place other ≡ same → MayWrite at place
      → other.activation < at.number → at.may other ⊎ ((if same then None else stored store other) ≡ stored store other)
  forgotten-same place other store true is may earlier =
      let one = place-same place other is in
      inl (subst (λ (p : Place). MayWrite at p) one may earlier)
  forgotten-same place other store false is may earlier = inr refl

  forgotten-there : (place other : Place) (store : Store) (same : Bool) → place_eq place other ≡ same → at.settled ≤ place.activation
      → other.activation < at.settled → (if same then None else stored store other) ≡ stored store other
  forgotten-there place other store true is own earlier =
      let one = ap (λ (p : Place). p.activation) (place-same place other is) in
      absurd (omega (arith, one, own, earlier))
  forgotten-there place other store false is own earlier = refl

  leaves-forgotten : (found : Option Place) (s : State) → IsOwn found → Leaving at s (record s { store = forgotten s.store found })
  leaves-forgotten None s own = leaves-same at s _ refl refl
  leaves-forgotten (Some place) s own = record {
    grows = omega arith;
    leaves = record {
      values = λ other earlier. forgotten-same place other s.store (place_eq place other) refl (own place refl).1 earlier;
      defined = λ other v earlier is. (v, forgotten-there place other s.store (place_eq place other) refl (own place refl).0 earlier ∙ is);
    };
  }

  -- a variable of the activation becomes undefined
  pub keeps-undefine : (found : Option Place) → IsOwn found → Keeps at (undefine found)
  keeps-undefine found own = record { left = λ s begun. leaves-forgotten found s own }
