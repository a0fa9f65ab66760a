-- Replies that give a value, and what changes no variable: operations, accesses and whole values whose indexes change none,
-- and what is asked of the input.
use Rattle.std.proofs.Common.{◌≡◌, ◌∙◌, sym, ap, refl, ℕ, ℤ, pos, int_le, Bool, true, false, not, List, [], ◌∷◌, ◌++◌, map, Option, Some, None}
use Rattle.std.specs.List.{All}
use Rattle.std.specs.Ordering.{int_eq}
use Rattle.std.proofs.lemmas.List.Elements.{All-head, All-tail}
use Rattle.typed_tree.specs.declared.tree.Monadic.{Monadic}
use Rattle.typed_tree.specs.declared.tree.Monadic.TheVariants as monadic
use Rattle.typed_tree.specs.declared.tree.Dyadic.{Dyadic}
use Rattle.typed_tree.specs.declared.tree.Dyadic.TheVariants as dyadic
use Rattle.typed_tree.specs.declared.tree.Relation.{Relation}
use Rattle.typed_tree.specs.declared.tree.InputTest.{InputTest}
use Rattle.typed_tree.specs.declared.tree.InputTest.TheVariants as input_test
use Rattle.typed_tree.specs.declared.tree.Whole.{Whole}
use Rattle.typed_tree.specs.declared.tree.Whole.TheVariants.{Text, Variable as VariableOf}
use Rattle.typed_tree.specs.declared.tree.Access.{Access}
use Rattle.typed_tree.specs.declared.tree.Selector.{Selector}
use Rattle.typed_tree.specs.declared.tree.Selector.TheVariants.{Element, Field}
use Rattle.typed_tree.specs.WellFormed.{whole_indexes}
use Rattle.types.specs.declared.form.Step.{Step}
use Rattle.types.specs.declared.form.Step.TheVariants as step
use Rattle.types.specs.Components.{components_of}
use Rattle.text_input.specs.Input.{Reading, Reads, Fails, Ends, is_at_end, read_eoln}
use Rattle.meaning.specs.declared.value.Value.{Value}
use Rattle.meaning.specs.declared.value.Value.TheVariants.{Members, Number}
use Rattle.members.specs.Members as sets
use Rattle.members.specs.declared.sets.Operator.TheVariants as operator
use Rattle.typed_tree.specs.Accesses.{origin_of}
use Rattle.typed_tree.specs.declared.tree.Designator.{Designator}
use Rattle.typed_tree.specs.declared.tree.Designator.TheVariants as designator
use Rattle.std.proofs.lemmas.Bool.{false≢true}
use Rattle.meaning.specs.Integers.{is_integer_number, is_true, truth}
use Rattle.meaning.specs.Store.{Environment, Place, held, part}
use Rattle.meaning.specs.Effect as effect
use Rattle.meaning.specs.Effect.{Action, Reply, Gives, Stops, and_then, fetch, fetch_all, is_in, number_of}
use Rattle.meaning.specs.Meaning as meaning
use Rattle.meaning.specs.Meaning.{Evaluation, Surroundings, accessed, selected, whole_of}
use Rattle.checker_state.specs.Forms.{result_of}

-- ---- replies that give a value

pub given-same : {A : Type 0} (a b : A) (s t : effect.State) → Gives a s ≡ Gives b t → (a ≡ b) × (s ≡ t)
given-same a b s t is = (cc, cc)

pub then-gives : {A B : Type 0} (reply : Reply A) (next : A → effect.State → Reply B) (b : B) (t : effect.State) → and_then reply next ≡ Gives b t
    → (a : A) × (u : effect.State) × (reply ≡ Gives a u) × (next a u ≡ Gives b t)
then-gives (Gives a u) next b t is = (a, u, refl, is)
then-gives (Stops ending u) next b t is = absurd (cc)

-- ---- operations change no variable

required-kept : (holds : Bool) (site : ℕ) (done : Unit {0}) (s t : effect.State) → effect.require holds site s ≡ Gives done t → t ≡ s
required-kept true site done s t is = sym (given-same tt done s t is).1
required-kept false site done s t is = absurd (cc)

-- a result that may have to be an integer
unless-gives : (overflow : Option ℕ) (n m : ℤ) (s t : effect.State) → meaning.unless_overflow overflow n s ≡ Gives m t → (m ≡ n) × (t ≡ s)
unless-gives None n m s t is = let same = given-same n m s t is in (sym same.0, sym same.1)
unless-gives (Some site) n m s t is =
    let passed = then-gives (effect.require (is_integer_number n) site s) (λ done. effect.give n) m t is in
    let same = given-same n m passed.1 t passed.3 in
    (sym same.0, sym same.1 ∙ required-kept (is_integer_number n) site passed.0 s passed.1 passed.2)

pub operated-gives : (operation : Monadic) (n m : ℤ) (s t : effect.State) → meaning.operated operation n s ≡ Gives m t → (m ≡ result_of operation n) × (t ≡ s)
operated-gives (monadic.Plain does) n m s t is = unless-gives (meaning.overflow_of does) (meaning.calculated does n) m s t is
operated-gives (monadic.Tested fits does) n m s t is =
    let result = meaning.shifted does n in
    let passed = then-gives (effect.require (is_in fits.range (Number n)) fits.site s) (λ done. effect.give result) m t is in
    let same = given-same result m passed.1 t passed.3 in
    (sym same.0, sym same.1 ∙ required-kept (is_in fits.range (Number n)) fits.site passed.0 s passed.1 passed.2)

divides-kept : (operation : Dyadic) (b : ℤ) (done : Unit {0}) (s t : effect.State) → meaning.divides operation b s ≡ Gives done t → t ≡ s
divides-kept (dyadic.Div by_zero) b done s t is = required-kept (not (int_eq b (pos 0))) by_zero done s t is
divides-kept (dyadic.Mod by_zero_or_less) b done s t is = required-kept (int_le (pos 1) b) by_zero_or_less done s t is
divides-kept operation b done s t is = sym (given-same tt done s t is).1

pub combined-gives : (operation : Dyadic) (a b m : ℤ) (s t : effect.State) → meaning.combined operation a b s ≡ Gives m t
    → (m ≡ meaning.of_both operation a b) × (t ≡ s)
combined-gives operation a b m s t is =
    let result = meaning.of_both operation a b in
    let overflow = meaning.overflow_of_both operation in
    let step = then-gives (meaning.divides operation b s) (λ done. meaning.unless_overflow overflow result) m t is in
    let gives = unless-gives overflow result m step.1 t step.3 in
    (gives.0, gives.1 ∙ divides-kept operation b step.0 s step.1 step.2)

-- a number that is given as a value
pub number-gives : (reply : Reply ℤ) (w : Value) (t : effect.State) → and_then reply (λ n. effect.give (Number n)) ≡ Gives w t
    → (n : ℤ) × (reply ≡ Gives n t) × (w ≡ Number n)
number-gives (Gives n u) w t is = let same = given-same (Number n) w u t is in (n, ap (Gives n) same.1, sym same.0)
number-gives (Stops ending u) w t is = absurd (cc)

-- an operation of numbers
abbrev pub is_of_numbers : Dyadic → Bool
is_of_numbers dyadic.Union = false
is_of_numbers dyadic.Difference = false
is_of_numbers dyadic.Intersection = false
is_of_numbers (dyadic.SetRelation r) = false
is_of_numbers dyadic.In = false
is_of_numbers operation = true

-- what an operation on two operands gives, if it is one of numbers; it changes no variable
abbrev pub GivesBoth : Dyadic → Value → Value → Value → (s t : effect.State) → Type 0
GivesBoth operation a b w s t =
    (is_of_numbers operation ≡ true → w ≡ Number (meaning.of_both operation (number_of a) (number_of b))) × (t ≡ s)

numbers-give : (operation : Dyadic) (a b w : Value) (s t : effect.State)
    → and_then (meaning.combined operation (number_of a) (number_of b) s) (λ n. effect.give (Number n)) ≡ Gives w t → GivesBoth operation a b w s t
numbers-give operation a b w s t is =
    let (m, combined, w_is) = number-gives (meaning.combined operation (number_of a) (number_of b) s) w t is in
    let gives = combined-gives operation (number_of a) (number_of b) m s t combined in
    (λ numbers. w_is ∙ ap Number gives.0, gives.1)

set-gives : (operation : Dyadic) (a b v w : Value) (s t : effect.State) → is_of_numbers operation ≡ false → effect.give v s ≡ Gives w t
    → GivesBoth operation a b w s t
set-gives operation a b v w s t none is = (λ numbers. absurd (false≢true (sym none ∙ numbers)), sym (given-same v w s t is).1)

pub both-gives : (operation : Dyadic) (a b w : Value) (s t : effect.State) → meaning.operated_both operation a b s ≡ Gives w t
    → GivesBoth operation a b w s t
both-gives dyadic.Union a b w s t is = set-gives dyadic.Union a b _ w s t refl is
both-gives dyadic.Difference a b w s t is = set-gives dyadic.Difference a b _ w s t refl is
both-gives dyadic.Intersection a b w s t is = set-gives dyadic.Intersection a b _ w s t refl is
both-gives (dyadic.SetRelation r) a b w s t is = set-gives (dyadic.SetRelation r) a b _ w s t refl is
both-gives dyadic.In a b w s t is = set-gives dyadic.In a b _ w s t refl is
both-gives (dyadic.Plus overflow) a b w s t is = numbers-give (dyadic.Plus overflow) a b w s t is
both-gives (dyadic.Minus overflow) a b w s t is = numbers-give (dyadic.Minus overflow) a b w s t is
both-gives (dyadic.Times overflow) a b w s t is = numbers-give (dyadic.Times overflow) a b w s t is
both-gives (dyadic.Div by_zero) a b w s t is = numbers-give (dyadic.Div by_zero) a b w s t is
both-gives (dyadic.Mod by_zero_or_less) a b w s t is = numbers-give (dyadic.Mod by_zero_or_less) a b w s t is
both-gives dyadic.And a b w s t is = numbers-give dyadic.And a b w s t is
both-gives dyadic.Or a b w s t is = numbers-give dyadic.Or a b w s t is
both-gives (dyadic.Relation r) a b w s t is = numbers-give (dyadic.Relation r) a b w s t is

pub truth-is : (b : Bool) → is_true (truth b) ≡ b
truth-is true = refl
truth-is false = refl

pub fetch-gives : (found : Option Value) (site : ℕ) (s t : effect.State) (v : Value) → effect.fetched found site s ≡ Gives v t → (found ≡ Some v) × (s ≡ t)
fetch-gives None site s t v is = absurd (cc)
fetch-gives (Some w) site s t v is = let same = given-same w v s t is in (ap Some same.0, same.1)

-- ---- accesses and whole values

abbrev pub entered : ℕ → Environment → effect.State → effect.State
entered number env s =
    record s { visited = s.visited ++ record { number = number; environment = env; store = s.store } ∷ [] }

-- an action that gives something changes no variable
abbrev pub Keeps : {A : Type 0} → Action A → Type 0
Keeps {A} action = (s t : effect.State) (a : A) → action s ≡ Gives a t → t.store ≡ s.store

abbrev pub KeepsStore : Evaluation → Type 0
KeepsStore evaluation = (env : Surroundings) → Keeps (evaluation env)

pub then-keeps : {A B : Type 0} (action : Action A) (next : A → Action B) → Keeps action → ((a : A) → Keeps (next a)) → Keeps (effect.◌>>=◌ action next)
then-keeps action next first rest s t b is =
    let step = then-gives (action s) next b t is in
    rest step.0 step.1 t b step.3 ∙ first s step.1 step.0 step.2

give-keeps : {A : Type 0} (a : A) → Keeps (effect.give a)
give-keeps a s t b is = ap (λ (x : effect.State). x.store) (sym (given-same a b s t is).1)

require-keeps : (holds : Bool) (site : ℕ) → Keeps (effect.require holds site)
require-keeps holds site s t done is = ap (λ (x : effect.State). x.store) (required-kept holds site done s t is)

selected-keeps : (selectors : List Selector) (indexes : List Evaluation) → All KeepsStore indexes → (env : Surroundings) (place : Option Place)
    → Keeps (selected selectors indexes env place)
selected-keeps [] indexes all env place = give-keeps place
selected-keeps (Field position offset ∷ selectors) indexes all env place =
    selected-keeps selectors indexes all env (part place (step.Field position ∷ []))
selected-keeps (Element fits cells ∷ selectors) [] all env place = give-keeps None
selected-keeps (Element fits cells ∷ selectors) (index ∷ indexes) all env place =
    let inner = λ (v : Value). selected selectors indexes env (part place (step.Element (number_of v) ∷ [])) in
    then-keeps (index env) (λ v. effect.◌>>=◌ (effect.require (is_in fits.range v) fits.site) (λ tested. inner v)) (All-head KeepsStore index indexes all env)
    (λ v.
    then-keeps (effect.require (is_in fits.range v) fits.site) (λ tested. inner v) (require-keeps (is_in fits.range v) fits.site)
    (λ tested. selected-keeps selectors indexes (All-tail KeepsStore index indexes all) env (part place (step.Element (number_of v) ∷ []))))

pub accessed-keeps : (access : Access) (indexes : List Evaluation) → All KeepsStore indexes → (env : Surroundings) → Keeps (accessed access indexes env)
accessed-keeps access indexes all env s t found is =
    selected-keeps access.selectors.items indexes all env (meaning.begun (origin_of access) env) (entered access.number env.visible s) t found is

-- what a set constructor gathers
gathered-keeps : (designators : List Designator) (members : List Evaluation) → All KeepsStore members → (env : Surroundings) (set : ℕ)
    → Keeps (meaning.gathered designators members env set)
gathered-keeps [] members all env set = give-keeps set
gathered-keeps (designator.Single site ∷ designators) [] all env set = give-keeps set
gathered-keeps (designator.Single site ∷ designators) (member ∷ members) all env set =
    then-keeps (member env) (λ v. effect.◌>>=◌ (meaning.with_one site v set) (λ more. meaning.gathered designators members env more))
    (All-head KeepsStore member members all env)
    (λ v.
    then-keeps (meaning.with_one site v set) (λ more. meaning.gathered designators members env more)
    (then-keeps (effect.require (sets.can_be_member (number_of v)) site)
    (λ done. effect.give (sets.of_two operator.Union set (sets.of_one (number_of v)))) (require-keeps (sets.can_be_member (number_of v)) site)
    (λ done. give-keeps (sets.of_two operator.Union set (sets.of_one (number_of v)))))
    (λ more. gathered-keeps designators members (All-tail KeepsStore member members all) env more))
gathered-keeps (designator.Range site ∷ designators) [] all env set = give-keeps set
gathered-keeps (designator.Range site ∷ designators) (first ∷ []) all env set = give-keeps set
gathered-keeps (designator.Range site ∷ designators) (first ∷ last ∷ members) all env set =
    let next = λ (a b : Value) (more : ℕ). meaning.gathered designators members env more in
    let rest = All-tail KeepsStore first (last ∷ members) all in
    then-keeps (first env)
    (λ a. effect.◌>>=◌ (last env) (λ b. effect.◌>>=◌ (meaning.with_range site a b set) (next a b)))
    (All-head KeepsStore first (last ∷ members) all env)
    (λ a.
    then-keeps (last env) (λ b. effect.◌>>=◌ (meaning.with_range site a b set) (next a b)) (All-head KeepsStore last members rest env)
    (λ b.
    then-keeps (meaning.with_range site a b set) (next a b)
    (then-keeps (effect.require (sets.range_fits (number_of a) (number_of b)) site)
    (λ done. effect.give (sets.of_two operator.Union set (sets.of_range (number_of a) (number_of b))))
    (require-keeps (sets.range_fits (number_of a) (number_of b)) site)
    (λ done. give-keeps (sets.of_two operator.Union set (sets.of_range (number_of a) (number_of b)))))
    (λ more. gathered-keeps designators members (All-tail KeepsStore last members rest) env more)))

pub set-keeps : (designators : List Designator) (members : List Evaluation) → All KeepsStore members → (env : Surroundings)
    → Keeps (effect.◌>>=◌ (meaning.gathered designators members env sets.empty) (λ set. effect.give (Members set)))
set-keeps designators members all env =
    then-keeps (meaning.gathered designators members env sets.empty) (λ set. effect.give (Members set))
    (gathered-keeps designators members all env sets.empty) (λ set. give-keeps (Members set))

pub fetch-keeps : (place : Option Place) (site : ℕ) → Keeps (fetch place site)
fetch-keeps place site s t v is = ap (λ (x : effect.State). x.store) (sym (fetch-gives (held s.store place) site s t v is).1)

fetched_all-keeps : (place : Option Place) (components : List (List Step)) (site : ℕ) → Keeps (fetch_all place components site)
fetched_all-keeps place [] site = give-keeps []
fetched_all-keeps place (steps ∷ components) site =
    then-keeps (fetch (part place steps) site) (λ v. effect.◌>>=◌ (fetch_all place components site) (λ values. effect.give (v ∷ values)))
    (fetch-keeps (part place steps) site)
    (λ v.
    then-keeps (fetch_all place components site) (λ values. effect.give (v ∷ values)) (fetched_all-keeps place components site)
    (λ values. give-keeps (v ∷ values)))

pub whole-keeps : (value : Whole) (indexes : List Evaluation) → All KeepsStore (whole_indexes value indexes) → (env : Surroundings)
    → Keeps (whole_of value indexes env)
whole-keeps (Text number characters) indexes all env s t row is =
    give-keeps (map (λ c. Number (pos c)) characters.items) (entered number env.visible s) t row is
whole-keeps (VariableOf access type_id cells defined) indexes all env s t row is =
    let components = components_of env.visible.types type_id in
    then-keeps (accessed access indexes env) (λ place. fetch_all place components defined) (accessed-keeps access indexes all env)
    (λ place. fetched_all-keeps place components defined) s t row is

pub compare-keeps : (number : ℕ) (relation : Relation) (left right : Whole) (left_indexes right_indexes : List Evaluation)
    → All KeepsStore (whole_indexes left left_indexes) → All KeepsStore (whole_indexes right right_indexes) → (env : Surroundings)
    → Keeps (effect.◌>>=◌ (whole_of left left_indexes env)
    (λ a. effect.◌>>=◌ (effect.enter number env.visible)
    (λ done. effect.◌>>=◌ (whole_of right right_indexes env) (λ b. effect.give (Number (meaning.compared relation a b))))))
compare-keeps number relation left right left_indexes right_indexes of_left of_right env =
    let last = λ (a b : List Value). effect.give (Number (meaning.compared relation a b)) in
    let behind = λ (a : List Value). effect.◌>>=◌ (whole_of right right_indexes env) (last a) in
    then-keeps (whole_of left left_indexes env) (λ a. effect.◌>>=◌ (effect.enter number env.visible) (λ done. behind a))
    (whole-keeps left left_indexes of_left env)
    (λ a s t v is.
    then-keeps (whole_of right right_indexes env) (last a) (whole-keeps right right_indexes of_right env)
    (λ b. give-keeps (Number (meaning.compared relation a b))) (entered number env.visible s) t v is)

-- ---- what is asked of the input

-- what is taken of the input changes no variable, whatever is read
taken-keeps : {A : Type 0} (point : ℕ) (reading : Reading A) → Keeps (effect.taken point reading)
taken-keeps point (Reads a rest) s t b is =
    ap (λ (x : effect.State). x.store) (sym (given-same a b (record s { input = rest }) t is).1)
taken-keeps point (Fails fault) s t b is = absurd (cc)
taken-keeps point Ends s t b is = absurd (cc)

test-keeps : (asks : InputTest) → Keeps (meaning.asked asks)
test-keeps input_test.End s t b is = ap (λ (x : effect.State). x.store) (sym (given-same (is_at_end s.input) b s t is).1)
test-keeps (input_test.LineEnd point) s t b is = taken-keeps point (read_eoln s.input) s t b is

pub asked-keeps : (asks : InputTest) → Keeps (effect.◌>>=◌ (meaning.asked asks) (λ b. effect.give (Number (truth b))))
asked-keeps asks =
    then-keeps (meaning.asked asks) (λ b. effect.give (Number (truth b))) (test-keeps asks) (λ b. give-keeps (Number (truth b)))
