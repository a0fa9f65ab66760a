-- The walk is sound: what a piece of a program does from a state that holds, the walk over that piece foretells.
use Rattle.std.proofs.Common.{arith, ◌≡◌, ⊎_elim, ◌⊎◌, inl, inr, sym, ap, refl, subst, ℕ, ℤ, ◌<◌, Bool, true, false, cond, ◌||◌, List, [], ◌∷◌, ◌++◌, length}
use Rattle.std.proofs.Common.{Option, Some, None}
use Rattle.std.specs.Prelude.{◌≤◌, slice_get}
use Rattle.std.specs.List.{Contains}
use Rattle.std.proofs.lemmas.Bool.{false≢true}
use Rattle.std.proofs.lemmas.List.Elements.{Contains-append_left, Contains-append_right, Contains-push_cases}
use Rattle.domain.specs.Interval.{HasMember, Interval}
use Rattle.place.specs.declared.Place.{Place as SourcePlace}
use Rattle.types.specs.Forms.{Form}
use Rattle.typed_tree.specs.declared.tree.Tree.{Tree}
use Rattle.typed_tree.specs.declared.tree.Block.{Block}
use Rattle.typed_tree.specs.declared.tree.FunctionResult.{FunctionResult}
use Rattle.typed_tree.specs.declared.tree.Scalar.{Scalar}
use Rattle.typed_tree.specs.declared.tree.Variable.{Variable}
use Rattle.typed_tree.specs.WellFormed.{declarer, is_round, is_visible, of_one, outline_of}
use Rattle.text_input.specs.declared.InputFault.{InputFault}
use Rattle.text_input.specs.declared.InputFault.TheVariants.{EndOfInput}
use Rattle.text_input.specs.Input.{Reading, Reads, Fails, Ends}
use Rattle.meaning.specs.declared.outcome.Ending.TheVariants.{Error, Input as InputEnding}
use Rattle.meaning.specs.declared.value.Value.{Value}
use Rattle.meaning.specs.declared.value.Value.TheVariants.{Members, Number}
use Rattle.meaning.specs.Store.{Environment, Store}
use Rattle.meaning.specs.Effect as effect
use Rattle.meaning.specs.Effect.{Action, Reply, Visit, and_then}
use Rattle.meaning.specs.Meaning.{Activation, Argument, Calls, assign_all, environment_of}
use Rattle.checker_rows.specs.Rows.{Parts, all_parts, is_ordinal_variable}
use Rattle.checker_state.specs.declared.value.Known.{Known}
use Rattle.checker_state.specs.declared.value.Known.TheVariants.{Ordinal, Set}
use Rattle.checker_state.specs.State.{Dead, State, is_dead, unless_empty}
use Rattle.checker_state.specs.Holds.{HoldNumbers, Separate, StateHolds, moment}
use Rattle.checker_state.specs.Values.{IsKnown, unless_none}
use Rattle.checker_state.specs.Knows.{Knows}
use Rattle.checker_state.specs.Loops.{is_among}
use Rattle.checker_state.proofs.Ranged.{in-present}
use Rattle.checker_loops.specs.Loops.{Round, touched}
use Rattle.checker_loops.specs.Pairs.{Listed, aliases_of}
use Rattle.checker_loops.specs.Sections.{BlockClaims, block_claims_at}
use Rattle.checker_calls.specs.Environments.{Fine, CallLeaves as LeavesAll, LeavesPassed, Proper}
use Rattle.checker_calls.specs.Exit.{result_range}
use Rattle.checker_calls.proofs.Claimed.{AllHold}
use Rattle.checker_calls.proofs.Numbers.{hold-numbers}
use Rattle.checker_calls.proofs.Passed.{AllFit}
use Rattle.checker_calls.proofs.Reached.{alive}
use Rattle.checker_expressions.specs.declared.fault.Rule.{Rule}
use Rattle.checker_expressions.specs.Walk as walk
use Rattle.checker_expressions.specs.declared.fault.Breach.{Breach}
use Rattle.checker_expressions.specs.Walk.{Context, Linked, Walked, Walking, followed, left_open, scalar_of}
use Rattle.checker_expressions.specs.Visits.{moment_of, visits_of}
use Rattle.checker_expressions.proofs.Keeping.{Keeps, keeps-itself, keeps-then}

-- what is fixed for a program: the program, the sites that the whole walk leaves open, the states that it links, the pairs of variables that may share a
-- place, and the claims on each block by its number
pub record World : Type 0 where
  pub tree : Tree
  pub ids : List ℕ
  pub linked : List Linked
  pub pairs : List (ℕ × ℕ)
  pub blocks : List BlockClaims

-- the variables of the program, how many there are, and its types
abbrev pub declared_in : World → List Variable
declared_in world = world.tree.variables.items

abbrev pub variables_in : World → ℕ
variables_in world = length (declared_in world)

abbrev pub types_in : World → List Form
types_in world = world.tree.types

-- how many sites it has
abbrev pub sites_in : World → ℕ
sites_in world = length world.tree.sites.items

-- the components of each of its rows
abbrev pub parts_in : World → List Parts
parts_in world = all_parts world.tree

-- which of its variables are ordinals
abbrev pub ordinal_in : World → ℕ → Bool
ordinal_in world = is_ordinal_variable world.tree

-- its pairs
abbrev pub listed_in : World → Listed
listed_in world = record { tree = world.tree; pairs = world.pairs }

-- a variable is visible in a block of it
abbrev pub is_seen : World → ℕ → ℕ → Bool
is_seen world block root = is_visible (outline_of world.tree) block root

-- a piece's walk is part of the world
pub record IsPartOf {A : Type 0} (world : World) (walked : Walked A) : Type 0 where
  pub ids : (id : ℕ) → Contains walked.open_ids id → Contains world.ids id
  pub linked : (one : Linked) → Contains walked.linked one → Contains world.linked one

-- what a loop's turns change, it touches, and the aliases of that as far as they are visible in a block
abbrev pub IsClosed : World → ℕ → Round → Type 0
IsClosed world block round =
    (root alias : ℕ) → is_seen world block root ≡ true → is_seen world block alias ≡ true → is_among root (round.controls ++ round.changes) ≡ true
    → is_among alias (aliases_of world.pairs root) ≡ true → is_among alias (touched round) ≡ true

-- a walk goes by the world
pub record SoundGoes (world : World) (context : Context) : Type 0 where
  pub tree_is : context.tree ≡ world.tree
  pub pairs_are : context.pairs ≡ listed_in world
  pub blocks_are : context.blocks ≡ world.blocks
  pub closed : (round : Round) → Contains context.rounds round → IsClosed world context.block round

-- a walk goes by the world, and its state holds
pub record Stands (world : World) (env : Environment) (context : Context) (state : State) (store : Store) : Type 0 where
  pub goes : SoundGoes world context
  pub known : Knows (parts_in world) (variables_in world) env state store

-- so a walk stands in a block, where this is visible
pub record Here (world : World) (block : ℕ) (env : Environment) (context : Context) (state : State) (s : effect.State) : Type 0 where
  pub block_is : context.block ≡ block
  pub fine : Fine world.tree s
  pub proper : Proper world.tree world.pairs block s.activations env
  pub stands : Stands world env context state s.store

-- a state of the world is linked to the entry, and it holds there
abbrev pub Meets : World → Visit → Type 0
Meets world visit = (one : Linked) × Contains world.linked one × (one.number ≡ visit.number) × StateHolds (parts_in world) one.state (moment_of visit)

-- each visit that is new meets a state of the world, and of the variables that are visible there no two share a place but pairs
abbrev pub New : World → List Visit → List Visit → Type 0
New world before after =
    (visit : Visit) → Contains after visit → Contains before visit ⊎ (Meets world visit × Separate visit.environment world.pairs)

-- an error comes at an open site of the world alone
abbrev pub ErrsWithin : {A : Type 0} → World → Reply A → Type 0
ErrsWithin world (effect.Gives a s) = Unit {0}
ErrsWithin world (effect.Stops e s) = (id : ℕ) → e ≡ Error id → Contains world.ids id × (id < sites_in world)

-- behind a state, P is so of a value and of the store; each value there lies in its type and in an activation that has begun
pub record Behind {A : Type 0} (world : World) (P : A → Store → Type 0) (s : effect.State) (a : A) (t : effect.State) : Type 0 where
  pub so : P a t.store
  pub fine : Fine world.tree t
  pub grown : s.activations ≤ t.activations

-- where the reply gives a value, that is so
abbrev pub GivesSo : {A : Type 0} → World → (A → Store → Type 0) → effect.State → Reply A → Type 0
GivesSo world P s (effect.Gives a t) = Behind world P s a t
GivesSo world P s (effect.Stops e t) = Unit {0}

-- a reply errs at open sites alone, its new visits meet states of the world, and P is so of what it gives
pub record Good {A : Type 0} (world : World) (P : A → Store → Type 0) (s : effect.State) (reply : Reply A) : Type 0 where
  pub errs : ErrsWithin world reply
  pub new : New world s.visited (visits_of reply)
  pub gives : GivesSo world P s reply

-- a value and the store behind it are as the walk foretells: R ties both to the walk's value, the state behind holds, and
-- of each loop round the piece nothing changed but what that touches
pub record IsForetold {A B : Type 0} (world : World) (env : Environment) (R : B → A → Store → Type 0) (context : Context) (walked : Walked B) (start : Store)
    (a : A) (store : Store) : Type 0 where
  pub tie : R walked.value a store
  pub stands : Stands world env context walked.after store
  pub kept : Keeps env context.rounds start store

-- from each state that holds, where the piece breaks no rule and is part of the world, the replies are as it foretells
abbrev pub Sound : {A B : Type 0} → World → ℕ → Environment → (B → A → Store → Type 0) → Action A → Walking B → Type 0
Sound world block env R action walking =
    (context : Context) (state : State) (s : effect.State) → (walking context state).broken ≡ [] → IsPartOf world (walking context state)
    → Here world block env context state s
    → Good world (IsForetold world env R context (walking context state) s.store) s (action s)

-- the same from states of one store
abbrev pub SoundFrom : {A B : Type 0} → World → ℕ → Environment → Store → (B → A → Store → Type 0) → Action A → Walking B → Type 0
SoundFrom world block env store R action walking =
    (context : Context) (state : State) (s : effect.State) → s.store ≡ store → (walking context state).broken ≡ []
    → IsPartOf world (walking context state) → Here world block env context state s
    → Good world (IsForetold world env R context (walking context state) s.store) s (action s)

-- a piece leaves the store as it is
abbrev pub SoundLeaves : {A : Type 0} → Action A → Type 0
SoundLeaves {A} action = (s t : effect.State) (a : A) → action s ≡ effect.Gives a t → t.store ≡ s.store

-- no tie between two values
abbrev pub Any_value : {A B : Type 0} → B → A → Store → Type 0
Any_value b a store = Unit {0}

-- a value is known, whatever the store
abbrev pub IsValue : Known → Value → Store → Type 0
IsValue known v store = IsKnown known v

-- and it is an ordinal, or a set
abbrev pub IsHeld : Scalar → Known → Value → Store → Type 0
IsHeld one known v store = IsKnown known v × (scalar_of known ≡ one)

-- ---- calls

-- an activation of a block begins, the next that does
abbrev pub activation_of : ℕ → Block → List Argument → Environment → effect.State → Activation
activation_of number block arguments caller s =
    record { number = s.activations; block = number; heading = block.heading; arguments = arguments; caller = caller }

-- a block may be called: what is passed fits its formal parameters, no two variables that are visible in it share a place but pairs, and what is claimed
-- of its begin holds where its value parameters have got what is passed
pub record Called (world : World) (number : ℕ) (block : Block) (arguments : List Argument) (caller : Environment) (s : effect.State) : Type 0 where
  pub block_is : slice_get world.tree.blocks.items number ≡ Some block
  pub from : ℕ
  pub proper : Proper world.tree world.pairs from s.activations caller
  pub callable : of_one (is_round (outline_of world.tree) from) (declarer block.heading.around.items) ≡ true
  pub fit : AllFit world.tree s.activations block.heading.parameters.items arguments
  pub separate : Separate (environment_of world.tree (activation_of number block arguments caller s)) world.pairs
  pub entry : (begun ready : effect.State) → begun.store ≡ s.store
      → assign_all world.tree (environment_of world.tree (activation_of number block arguments caller s)) block.heading.parameters.items arguments begun
      ≡ effect.Gives tt ready
      → AllHold world.tree (block_claims_at world.blocks number).entry
      (environment_of world.tree (activation_of number block arguments caller s)) ready.store

-- the value of a function is an ordinal in the range of its result; a procedure gives 0
abbrev pub LiesInResult : World → ℕ → Option FunctionResult → Value → Type 0
LiesInResult world number None v = Unit {0}
LiesInResult world number (Some result) v = IsKnown (Ordinal (result_range world.tree (block_claims_at world.blocks number) result.root)) v

-- behind a call: it changed what its block lists alone, and what is claimed of the block's end holds
pub record Returned (world : World) (number : ℕ) (block : Block) (arguments : List Argument) (caller : Environment) (s : effect.State) (v : Value)
    (store : Store) : Type 0 where
  pub leaves : LeavesAll s.activations (block_claims_at world.blocks number).changes
      (environment_of world.tree (activation_of number block arguments caller s)) s.store store
  -- its value parameters that it doesn't list have what was passed
  pub passed : (begun ready : effect.State) → begun.store ≡ s.store
      → assign_all world.tree (environment_of world.tree (activation_of number block arguments caller s)) block.heading.parameters.items arguments begun
      ≡ effect.Gives tt ready
      → LeavesPassed world.tree s.activations number (block_claims_at world.blocks number).changes ready.store store
  pub result : LiesInResult world number block.heading.result v
  pub exit : AllHold world.tree (block_claims_at world.blocks number).exit
      (environment_of world.tree (activation_of number block arguments caller s)) store

-- so it is of each call
abbrev pub SoundCalls : World → Calls → Type 0
SoundCalls world calls =
    (number : ℕ) (block : Block) (arguments : List Argument) (caller : Environment) (s : effect.State) → Called world number block arguments caller s
    → Fine world.tree s → Good world (Returned world number block arguments caller s) s (calls number arguments caller s)

-- ---- one after the other

pub gives-state : {A : Type 0} (a b : A) (s t : effect.State) → effect.Gives a s ≡ effect.Gives b t → t ≡ s
gives-state a b s t is = cc

pub unbroken-left : (first second : List Breach) → first ++ second ≡ [] → first ≡ []
unbroken-left [] second is = refl
unbroken-left (breach ∷ first) second is = absurd (cc)

pub unbroken-right : (first second : List Breach) → first ++ second ≡ [] → second ≡ []
unbroken-right [] second is = is
unbroken-right (breach ∷ first) second is = absurd (cc)

pub kept-rule : (kept : Bool) (rule : Rule) (place : SourcePlace) → walk.breach_unless kept rule place ≡ [] → kept ≡ true
kept-rule true rule place is = refl
kept-rule false rule place is = absurd (cc)

pub part-left : {A B : Type 0} (world : World) (first : Walked A) (second : Walked B) → IsPartOf world (followed first second) → IsPartOf world first
part-left world first second part = record {
  ids = λ id inside. part.ids id (Contains-append_left first.open_ids second.open_ids id inside);
  linked = λ one inside. part.linked one (Contains-append_left first.linked second.linked one inside);
}

pub part-right : {A B : Type 0} (world : World) (first : Walked A) (second : Walked B) → IsPartOf world (followed first second) → IsPartOf world second
part-right world first second part = record {
  ids = λ id inside. part.ids id (Contains-append_right first.open_ids second.open_ids id inside);
  linked = λ one inside. part.linked one (Contains-append_right first.linked second.linked one inside);
}

pub nothing-new : (world : World) (visits : List Visit) → New world visits visits
nothing-new world visits visit inside = inl inside

new-then : (world : World) (before mid after : List Visit) → New world before mid → New world mid after → New world before after
new-then world before mid after one two visit inside = ⊎_elim (λ old. one visit old) (λ meets. inr meets) (two visit inside)

-- what is visible stays so when more activations have begun
pub proper-grown : (world : World) (block few more : ℕ) (env : Environment) → few ≤ more → Proper world.tree world.pairs block few env
    → Proper world.tree world.pairs block more env
proper-grown world block few more env grown proper = record {
  types_are = proper.types_are;
  visible = proper.visible;
  only = proper.only;
  typed = proper.typed;
  begun = λ root place is. let before = proper.begun root place is in omega (arith, before, grown);
  separate = proper.separate;
}

-- a value, and nothing changes
pub good-give : {A : Type 0} (world : World) (P : A → Store → Type 0) (a : A) (s : effect.State) → Fine world.tree s → P a s.store
    → Good world P s (effect.give a s)
good-give world P a s fine so = record { errs = tt; new = nothing-new world s.visited; gives = record { so = so; fine = fine; grown = omega arith } }

-- what follows from what is given
pub good-weaker : {A : Type 0} (world : World) (P Q : A → Store → Type 0) (s : effect.State) (reply : Reply A)
    → ((a : A) (t : effect.State) → reply ≡ effect.Gives a t → Behind world P s a t → Q a t.store) → Good world P s reply → Good world Q s reply
good-weaker world P Q s (effect.Gives a t) then good = record {
  errs = tt;
  new = good.new;
  gives = record { so = then a t refl good.gives; fine = good.gives.fine; grown = good.gives.grown };
}
good-weaker world P Q s (effect.Stops e t) then good = record { errs = good.errs; new = good.new; gives = tt }

grown-then : {A : Type 0} (world : World) (P : A → Store → Type 0) (s t : effect.State) (reply : Reply A) → s.activations ≤ t.activations
    → GivesSo world P t reply → GivesSo world P s reply
grown-then world P s t (effect.Gives a u) grown behind =
    record { so = behind.so; fine = behind.fine; grown = let later = behind.grown in omega (arith, grown, later) }
grown-then world P s t (effect.Stops e u) grown behind = tt

-- a piece, and then another
pub good-then : {A C : Type 0} (world : World) (P : A → Store → Type 0) (Q : C → Store → Type 0) (s : effect.State) (reply : Reply A) (next : A → Action C)
    → Good world P s reply
    → ((a : A) (t : effect.State) → reply ≡ effect.Gives a t → Behind world P s a t → Good world Q t (next a t)) → Good world Q s (and_then reply next)
good-then world P Q s (effect.Gives a t) next good two =
    let then = two a t refl good.gives in
    record {
      errs = then.errs;
      new = new-then world s.visited t.visited (visits_of (next a t)) good.new then.new;
      gives = grown-then world Q s t (next a t) good.gives.grown then.gives;
    }
good-then world P Q s (effect.Stops e t) next good two = record { errs = good.errs; new = good.new; gives = tt }

-- where a walk stands behind a piece
pub here-behind : {A B : Type 0} (world : World) (block : ℕ) (env : Environment) (R : B → A → Store → Type 0) (context : Context)
    (state : State) (walked : Walked B) (s t : effect.State) (a : A)
    → Here world block env context state s → Behind world (IsForetold world env R context walked s.store) s a t
    → Here world block env context walked.after t
here-behind world block env R context state walked s t a here behind = record {
  block_is = here.block_is;
  fine = behind.fine;
  proper = proper-grown world block s.activations t.activations env behind.grown here.proper;
  stands = behind.so.stands;
}

-- what the first reply gives is told to the second, and that its ordinal variables have numbers
pub from-held : {A B C D : Type 0} (world : World) (block : ℕ) (env : Environment) (store : Store) (R : B → A → Store → Type 0) (S : D → C → Store → Type 0)
    (action : Action A) (next : A → Action C) (walking : Walking B) (walk_next : B → Walking D)
    → SoundFrom world block env store R action walking
    → ((b : B) (a : A) (s t : effect.State) → action s ≡ effect.Gives a t → s.store ≡ store → R b a t.store
    → HoldNumbers (ordinal_in world) (moment env t.store) → SoundFrom world block env t.store S (next a) (walk_next b))
    → SoundFrom world block env store S (effect.◌>>=◌ action next) (walk.◌>>=◌ walking walk_next)
from-held world block env store R S action next walking walk_next one two context state s same unbroken part here =
    let first = walking context state in
    let second = walk_next first.value context first.after in
    good-then world (IsForetold world env R context first s.store) (IsForetold world env S context (followed first second) s.store) s (action s) next
    (one context state s same (unbroken-left first.broken second.broken unbroken) (part-left world first second part) here)
    (λ a t is told.
    good-weaker world (IsForetold world env S context second t.store) (IsForetold world env S context (followed first second) s.store) t (next a t)
    (λ c u gives then.
    record { tie = then.so.tie; stands = then.so.stands; kept = keeps-then env context.rounds s.store t.store u.store told.so.kept then.so.kept })
    (two first.value a s t is same told.so.tie
    (hold-numbers world.tree world.pairs block s.activations env t.store here.proper told.fine.typed)
    context first.after t refl (unbroken-right first.broken second.broken unbroken)
    (part-right world first second part) (here-behind world block env R context state first s t a here told)))

pub from-then : {A B C D : Type 0} (world : World) (block : ℕ) (env : Environment) (store : Store) (R : B → A → Store → Type 0) (S : D → C → Store → Type 0)
    (action : Action A) (next : A → Action C) (walking : Walking B) (walk_next : B → Walking D)
    → SoundFrom world block env store R action walking
    → ((b : B) (a : A) (s t : effect.State) → action s ≡ effect.Gives a t → s.store ≡ store → R b a t.store
    → SoundFrom world block env t.store S (next a) (walk_next b))
    → SoundFrom world block env store S (effect.◌>>=◌ action next) (walk.◌>>=◌ walking walk_next)
from-then world block env store R S action next walking walk_next one two =
    from-held world block env store R S action next walking walk_next one (λ b a s t is same tie held. two b a s t is same tie)

-- from each store, or from one
pub sound-anywhere : {A B : Type 0} (world : World) (block : ℕ) (env : Environment) (R : B → A → Store → Type 0) (action : Action A) (walking : Walking B)
    → ((store : Store) → SoundFrom world block env store R action walking) → Sound world block env R action walking
sound-anywhere world block env R action walking one context state s unbroken part here = one s.store context state s refl unbroken part here

pub sound-here : {A B : Type 0} (world : World) (block : ℕ) (env : Environment) (store : Store) (R : B → A → Store → Type 0) (action : Action A)
    (walking : Walking B)
    → Sound world block env R action walking → SoundFrom world block env store R action walking
sound-here world block env store R action walking one context state s same unbroken part here = one context state s unbroken part here

pub sound-then : {A B C D : Type 0} (world : World) (block : ℕ) (env : Environment) (R : B → A → Store → Type 0) (S : D → C → Store → Type 0)
    (action : Action A) (next : A → Action C) (walking : Walking B) (walk_next : B → Walking D)
    → Sound world block env R action walking
    → ((b : B) (a : A) (store : Store) → R b a store → Sound world block env S (next a) (walk_next b))
    → Sound world block env S (effect.◌>>=◌ action next) (walk.◌>>=◌ walking walk_next)
sound-then world block env R S action next walking walk_next one two =
    sound-anywhere world block env S (effect.◌>>=◌ action next) (walk.◌>>=◌ walking walk_next)
    (λ store.
    from-then world block env store R S action next walking walk_next (sound-here world block env store R action walking one)
    (λ b a s t gives same tie. sound-here world block env t.store S (next a) (walk_next b) (two b a t.store tie)))

-- the run goes on with a value of which the walk doesn't know
pub sound-given : {A B C : Type 0} (world : World) (block : ℕ) (env : Environment) (R : B → A → Store → Type 0) (S : B → C → Store → Type 0) (f : A → C)
    → ((b : B) (a : A) (store : Store) → R b a store → S b (f a) store)
    → (action : Action A) (walking : Walking B) → Sound world block env R action walking
    → Sound world block env S (effect.◌>>=◌ action (λ a. effect.give (f a))) walking
sound-given world block env R S f ties action walking one context state s unbroken part here =
    let first = walking context state in
    good-then world (IsForetold world env R context first s.store) (IsForetold world env S context first s.store) s (action s)
    (λ a. effect.give (f a)) (one context state s unbroken part here)
    (λ a t is told.
    good-give world (IsForetold world env S context first s.store) (f a) t told.fine
    (record { tie = ties first.value a t.store told.so.tie; stands = told.so.stands; kept = told.so.kept }))

-- so it does with a piece of output
pub sound-written : {A B : Type 0} (world : World) (block : ℕ) (env : Environment) (R : B → A → Store → Type 0) (bytes : A → List ℕ) (action : Action A)
    (walking : Walking B) → Sound world block env R action walking
    → Sound {A = Unit {0}} world block env Any_value (effect.◌>>=◌ action (λ a. effect.write (bytes a))) walking
sound-written world block env R bytes action walking one context state s unbroken part here =
    let first = walking context state in
    good-then {C = Unit {0}} world (IsForetold world env R context first s.store)
    (IsForetold {A = Unit {0}} world env Any_value context first s.store) s (action s)
    (λ a. effect.write (bytes a)) (one context state s unbroken part here)
    (λ a t is told. record {
      errs = tt;
      new = nothing-new world t.visited;
      gives = record {
        so = record { tie = tt; stands = told.so.stands; kept = told.so.kept };
        fine = record { typed = told.fine.typed; begun = told.fine.begun };
        grown = omega arith;
      };
    })

-- what follows from what a walk foretells
pub from-weaker : {A B : Type 0} (world : World) (block : ℕ) (env : Environment) (store : Store) (R S : B → A → Store → Type 0)
    → ((b : B) (a : A) (after : Store) → R b a after → S b a after) → (action : Action A) (walking : Walking B)
    → SoundFrom world block env store R action walking → SoundFrom world block env store S action walking
from-weaker world block env store R S ties action walking one context state s same unbroken part here =
    let first = walking context state in
    good-weaker world (IsForetold world env R context first s.store) (IsForetold world env S context first s.store) s (action s)
    (λ a t is told. record { tie = ties first.value a t.store told.so.tie; stands = told.so.stands; kept = told.so.kept })
    (one context state s same unbroken part here)

-- the walk goes on with a value of which the run doesn't know
pub sound-named : {A B C : Type 0} (world : World) (block : ℕ) (env : Environment) (R : B → A → Store → Type 0) (S : C → A → Store → Type 0) (f : B → C)
    → ((b : B) (a : A) (store : Store) → R b a store → S (f b) a store)
    → (action : Action A) (walking : Walking B) → Sound world block env R action walking
    → Sound world block env S action (walk.◌>>=◌ walking (λ b. walk.give (f b)))
sound-named world block env R S f ties action walking one context state s unbroken part here =
    let first = walking context state in
    let second = walk.give (f first.value) context first.after in
    good-weaker world (IsForetold world env R context first s.store) (IsForetold world env S context (followed first second) s.store) s (action s)
    (λ a t is told. record { tie = ties first.value a t.store told.so.tie; stands = told.so.stands; kept = told.so.kept })
    (one context state s (unbroken-left first.broken second.broken unbroken) (part-left world first second part) here)

-- a walk that goes by the program
pub sound-by_tree : {A B : Type 0} (world : World) (block : ℕ) (env : Environment) (store : Store) (R : B → A → Store → Type 0) (action : Action A)
    (walking : Tree → Walking B) → SoundFrom world block env store R action (walking world.tree)
    → SoundFrom world block env store R action (λ context. walking context.tree context)
sound-by_tree world block env store R action walking one context state s same unbroken part here =
    subst (λ (tree : Tree). (walking tree context state).broken ≡ [] → IsPartOf world (walking tree context state)
    → Good world (IsForetold world env R context (walking tree context state) s.store) s (action s))
    (sym here.stands.goes.tree_is) (λ kept walked. one context state s same kept walked here) unbroken part

-- ---- the pieces

pub sound-give : {A B : Type 0} (world : World) (block : ℕ) (env : Environment) (R : B → A → Store → Type 0) (a : A) (b : B) → ((store : Store) → R b a store)
    → Sound world block env R (effect.give a) (walk.give b)
sound-give world block env R a b tie context state s unbroken part here =
    good-give world (IsForetold world env R context (walk.give b context state) s.store) a s here.fine
    (record { tie = tie s.store; stands = here.stands; kept = keeps-itself env context.rounds s.store })

pub sound-enter : (world : World) (block : ℕ) (env : Environment) (number : ℕ)
    → Sound world block env Any_value (effect.enter number env) (walk.enter number)
sound-enter world block env number context state s unbroken part here =
    let one : Linked = record { number = number; state = state } in
    let entered : Visit = record { number = number; environment = env; store = s.store } in
    let meets : Meets world entered = (one, part.linked one (0, omega arith, refl), refl, here.stands.known.holds) in
    record {
      errs = tt;
      new = λ visit inside.
          ⊎_elim (λ old. inl old)
          (λ is. inr (subst (λ (v : Visit). Meets world v × Separate v.environment world.pairs) is (meets, here.proper.separate)))
          (Contains-push_cases s.visited entered visit inside);
      gives = record {
        so = record { tie = tt; stands = here.stands; kept = keeps-itself env context.rounds s.store };
        fine = record { typed = here.fine.typed; begun = here.fine.begun };
        grown = omega arith;
      };
    }

-- the run stops for its input, which is no error
pub good-stopped : {A : Type 0} (world : World) (P : A → Store → Type 0) (point : ℕ) (fault : InputFault) (s : effect.State)
    → Good {A = A} world P s (effect.Stops (InputEnding point fault) s)
good-stopped world P point fault s = record { errs = λ id is. absurd (cc); new = nothing-new world s.visited; gives = tt }

-- bytes are taken from the input, and nothing else changes
good-taken : {A : Type 0} (world : World) (P : A → Store → Type 0) (point : ℕ) (reading : Reading A) (s : effect.State) → Fine world.tree s
    → ((a : A) → P a s.store) → Good world P s (effect.taken point reading s)
good-taken world P point (Reads a rest) s fine so = record {
  errs = tt;
  new = nothing-new world s.visited;
  gives = record { so = so a; fine = record { typed = fine.typed; begun = fine.begun }; grown = omega arith };
}
good-taken world P point (Fails fault) s fine so = good-stopped world P point fault s
good-taken world P point Ends s fine so = good-stopped world P point EndOfInput s

-- what is taken of the input, whatever is read, leaves what is known as it is
pub sound-take_in : {A B : Type 0} (world : World) (block : ℕ) (env : Environment) (R : B → A → Store → Type 0) (b : B) (point : ℕ)
    (reading : List ℕ → Reading A) → ((a : A) (store : Store) → R b a store) → Sound world block env R (effect.take_in point reading) (walk.give b)
sound-take_in world block env R b point reading tie context state s unbroken part here =
    good-taken world (IsForetold world env R context (walk.give b context state) s.store) point (reading s.input) s here.fine
    (λ a. record { tie = tie a s.store; stands = here.stands; kept = keeps-itself env context.rounds s.store })

taken-leaves : {A : Type 0} (point : ℕ) (reading : Reading A) → SoundLeaves (effect.taken point reading)
taken-leaves point (Reads a rest) s t b is = ap (λ (x : effect.State). x.store) (gives-state a b (record s { input = rest }) t is)
taken-leaves point (Fails fault) s t b is = absurd (cc)
taken-leaves point Ends s t b is = absurd (cc)

pub take_in-leaves : {A : Type 0} (point : ℕ) (reading : List ℕ → Reading A) → SoundLeaves (effect.take_in point reading)
take_in-leaves point reading s t b is = taken-leaves point (reading s.input) s t b is

-- an error at a site that is left open
pub errs-here : (world : World) (site : ℕ) → Contains world.ids site → site < sites_in world → (id : ℕ) → Error site ≡ Error id
    → Contains world.ids id × (id < sites_in world)
errs-here world site listed within id is =
    let same : site ≡ id = cc in
    subst (λ (n : ℕ). Contains world.ids n × (n < sites_in world)) same (listed, within)

pub open-here : (site : ℕ) (closed : Bool) → (closed ≡ true → ⊥) → Contains (left_open closed site) site
open-here site true unclosed = absurd (unclosed refl)
open-here site false unclosed = (0, omega arith, refl)

-- another state that holds
pub stands-as : (world : World) (env : Environment) (context : Context) (state other : State) (store : Store) → Stands world env context state store
    → Knows (parts_in world) (variables_in world) env other store
    → Stands world env context other store
stands-as world env context state other store stands known = record { goes = stands.goes; known = known }

-- no run goes on from an empty range
pub nonempty-stands : (world : World) (env : Environment) (context : Context) (range : Interval) (state : State) (store : Store) (n : ℤ)
    → HasMember range n → Stands world env context state store → Stands world env context (unless_empty range state) store
nonempty-stands world env context range state store n inside stands =
    subst (λ (vacant : Bool). Stands world env context (cond vacant Dead state) store) (sym (in-present range n inside)) stands

pub known-stands : (world : World) (env : Environment) (context : Context) (known : Known) (state : State) (store : Store) (v : Value)
    → IsKnown known v → Stands world env context state store → Stands world env context (unless_none known state) store
known-stands world env context (Ordinal range) state store (Number n) inside stands = nonempty-stands world env context range state store n inside stands
known-stands world env context (Ordinal range) state store (Members set) inside stands = absurd inside
known-stands world env context (Set hull) state store v inside stands = stands

-- a number that passes a test lies in the range that passes
abbrev pub Passes : Bool → ℤ → Interval → Unit {0} → Store → Type 0
Passes test n range done store = HasMember range n × (test ≡ true)

-- a value that passes is known to
abbrev pub PassesAs : Bool → Value → Known → Unit {0} → Store → Type 0
PassesAs test v known done store = IsKnown known v × (test ≡ true)

-- what is tested is so
abbrev pub IsSo : Bool → Unit {0} → Unit {0} → Store → Type 0
IsSo test told done store = test ≡ true

-- where a site is closed, no run comes or the test holds
pub closed-passes : (rows : List Parts) (roots : ℕ) (env : Environment) (state : State) (store : Store) (closed test : Bool)
    → Knows rows roots env state store
    → (closed ≡ true → test ≡ true)
    → (is_dead state || closed) ≡ true → test ≡ true
closed-passes rows roots env state store closed test known holds is =
    holds (subst (λ (dead : Bool). (dead || closed) ≡ true) (alive rows roots env state store known) is)

-- a test fails at a site that isn't closed
fails-open : {B : Type 0} (world : World) (block : ℕ) (env : Environment) (R : B → Unit {0} → Store → Type 0) (closed : Bool) (site : ℕ)
    (context : Context) (state : State) (walked : Walked B) (s : effect.State) → site < sites_in world → (closed ≡ true → false ≡ true)
    → walked.open_ids ≡ left_open (is_dead state || closed) site → IsPartOf world walked → Here world block env context state s
    → Good world (IsForetold world env R context walked s.store) s (effect.require false site s)
fails-open world block env R closed site context state walked s below holds ids part here =
    let unclosed : (is_dead state || closed) ≡ true
    → ⊥ = λ is. false≢true (closed-passes (parts_in world) (variables_in world) env state s.store closed false here.stands.known holds is) in
    record {
      errs = errs-here world site
          (part.ids site (subst (λ (list : List ℕ). Contains list site) (sym ids) (open-here site (is_dead state || closed) unclosed))) below;
      new = nothing-new world s.visited;
      gives = tt;
    }

-- a test at a site: it holds where the site is closed
pub sound-checked : (world : World) (block : ℕ) (env : Environment) (closed : Bool) (site : ℕ) (test : Bool) → site < sites_in world
    → (closed ≡ true → test ≡ true) → Sound world block env (IsSo test) (effect.require test site) (walk.checked closed site)
sound-checked world block env closed site true below holds context state s unbroken part here =
    good-give world (IsForetold world env (IsSo true) context (walk.checked closed site context state) s.store) tt s here.fine (record {
      tie = refl;
      stands = here.stands;
      kept = keeps-itself env context.rounds s.store;
    })
sound-checked world block env closed site false below holds context state s unbroken part here =
    fails-open world block env (IsSo false) closed site context state (walk.checked closed site context state) s below holds refl part here

-- and a number that passes lies in the range that passes
pub sound-tested : (world : World) (block : ℕ) (env : Environment) (closed : Bool) (site : ℕ) (passed : Interval) (n : ℤ) (test : Bool)
    → site < sites_in world → (closed ≡ true → test ≡ true) → (test ≡ true → HasMember passed n)
    → Sound world block env (Passes test n) (effect.require test site) (walk.tested closed site passed)
sound-tested world block env closed site passed n true below holds lets context state s unbroken part here =
    let inside : HasMember passed n = lets refl in
    good-give world (IsForetold world env (Passes true n) context (walk.tested closed site passed context state) s.store) tt s here.fine (record {
      tie = (inside, refl);
      stands = nonempty-stands world env context passed state s.store n inside here.stands;
      kept = keeps-itself env context.rounds s.store;
    })
sound-tested world block env closed site passed n false below holds lets context state s unbroken part here =
    fails-open world block env (Passes false n) closed site context state (walk.tested closed site passed context state) s below holds refl part here

-- a value that passes is as it passes
pub sound-tested_value : (world : World) (block : ℕ) (env : Environment) (closed : Bool) (site : ℕ) (passed : Known) (v : Value) (test : Bool)
    → site < sites_in world → (closed ≡ true → test ≡ true) → (test ≡ true → IsKnown passed v)
    → Sound world block env (PassesAs test v) (effect.require test site) (walk.tested_value closed site passed)
sound-tested_value world block env closed site passed v true below holds lets context state s unbroken part here =
    let inside : IsKnown passed v = lets refl in
    good-give world (IsForetold world env (PassesAs true v) context (walk.tested_value closed site passed context state) s.store) tt s here.fine (record {
      tie = (inside, refl);
      stands = known-stands world env context passed state s.store v inside here.stands;
      kept = keeps-itself env context.rounds s.store;
    })
sound-tested_value world block env closed site passed v false below holds lets context state s unbroken part here =
    fails-open world block env (PassesAs false v) closed site context state (walk.tested_value closed site passed context state) s below holds refl part here
