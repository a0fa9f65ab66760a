-- The branches of a conditional statement and the loops are sound. A loop is a head, a round and a way out: what holds at
-- its head holds there again whenever a round ends that another follows.
use Rattle.std.proofs.Common.{arith, ◌≡◌, ◌∙◌, ◌&&◌, ap, sym, refl, subst, ℕ, zero, suc, Bool, true, false, cond, List, [], ◌∷◌, ◌++◌, Option, Some, None}
use Rattle.std.proofs.Common.{◌+◌, filter, length}
use Rattle.std.specs.Prelude.{◌≤◌}
use Rattle.std.proofs.lemmas.List.Elements.{Contains-append_left, Contains-append_right}
use Rattle.std.proofs.lemmas.List.Folds.{list_all-append}
use Rattle.std.proofs.lemmas.Bool.{and_from}
use Rattle.checker_expressions.specs.declared.fault.Rule.TheVariants.{LoopEntry, LoopTurn}
use Rattle.typed_tree.specs.declared.tree.Expr.{Expr}
use Rattle.typed_tree.specs.declared.tree.Scalar.TheVariants as scalar
use Rattle.typed_tree.specs.declared.tree.Tree.{Tree}
use Rattle.place.specs.declared.Place.{Place as SourcePlace}
use Rattle.domain.specs.Facts.{Fact}
use Rattle.meaning.specs.declared.outcome.Ending.TheVariants.{More}
use Rattle.meaning.specs.declared.value.Value.{Value}
use Rattle.meaning.specs.declared.value.Value.TheVariants.{Members, Number}
use Rattle.meaning.specs.Store.{Environment, Store}
use Rattle.meaning.specs.Effect as effect
use Rattle.meaning.specs.Effect.{Action, and_then}
use Rattle.meaning.specs.Meaning as meaning
use Rattle.meaning.specs.Meaning.{Surroundings, is_so, value_of}
use Rattle.checker_state.specs.declared.value.Known.{Known}
use Rattle.checker_state.specs.declared.value.Known.TheVariants.{Ordinal, Set}
use Rattle.checker_state.specs.Holds.{HoldNumbers, moment}
use Rattle.checker_state.specs.Knows.{IsKept, Knows, AreEntire}
use Rattle.checker_state.specs.Loops.{is_among}
use Rattle.checker_expressions.proofs.Sound.{Any_value, Good, SoundGoes, Here, IsForetold, IsHeld, IsPartOf, Sound, Stands, World, good-give, good-then}
use Rattle.checker_expressions.proofs.Sound.{ordinal_in}
use Rattle.checker_expressions.proofs.Sound.{good-weaker, here-behind, kept-rule, nothing-new, part-left, part-right, parts_in, proper-grown, stands-as}
use Rattle.checker_expressions.proofs.Sound.{unbroken-left, unbroken-right, variables_in}
use Rattle.checker_state.specs.State.{State}
use Rattle.checker_state.specs.Joins.{joined_states}
use Rattle.checker_state.proofs.Joined.{join-holds}
use Rattle.checker_state.proofs.Refined.{conditions-tell}
use Rattle.checker_loops.specs.Growths.{depth_of}
use Rattle.checker_loops.specs.Loops.{Round, claims_at, controls_inside, gives_claims, head_of, is_for_statement, round_of, touched, with_own}
use Rattle.checker_state.specs.State.{table_of}
use Rattle.checker_loops.proofs.Tabled.{are-rows}
use Rattle.checker_loops.proofs.Touched.{all_control}
use Rattle.checker_calls.specs.Environments.{Fine, Proper, Typed}
use Rattle.checker_calls.proofs.AliasedTypes.{in-types}
use Rattle.checker_calls.proofs.Claimed.{AllHold}
use Rattle.checker_calls.proofs.Given.{given-claims}
use Rattle.checker_calls.proofs.Numbers.{hold-numbers}
use Rattle.checker_expressions.specs.Walk as flow
use Rattle.cert_checker.specs.Walk as walk
use Rattle.checker_expressions.specs.Walk.{Context, Valued, Walked, Walking, followed}
use Rattle.cert_checker.specs.Walk.{condition_walk, where_so}
use Rattle.checker_state.specs.Conditions.{branched}
use Rattle.checker_state.specs.Values.{known_range}
use Rattle.cert_checker.proofs.SoundConditions.{IsTested}
use Rattle.checker_expressions.proofs.Keeping.{Keeps, keeps-itself, keeps-then}
use Rattle.cert_checker.proofs.Heads.{head-of_known}
use Rattle.cert_checker.proofs.Rounds.{StandsIn, goes-inside, loop-closed}
use Rattle.cert_checker.proofs.Written.{Foretold}

-- ---- control variables

-- in each loop round a piece are for statements that these variables control, and as many turns are told of as for statements stand round it
pub record AreControlled (controls : List ℕ) (env : Environment) (context : Context) : Type 0 where
  pub control : (root : ℕ) → is_among root controls ≡ true → all_control root context.rounds ≡ true
  pub deep : length env.turns ≡ depth_of context.rounds

-- a piece is sound where such are the loops round it
abbrev pub SoundAmong : {A B : Type 0} → List ℕ → World → ℕ → Environment → (B → A → Store → Type 0) → Action A → Walking B → Type 0
SoundAmong controls world block env R action walking =
    (context : Context) (state : State) (s : effect.State) → AreControlled controls env context → (walking context state).broken ≡ []
    → IsPartOf world (walking context state) → Here world block env context state s
    → Good world (IsForetold world env R context (walking context state) s.store) s (action s)

-- where the walk goes by the program
pub among-by_tree : (controls : List ℕ) (world : World) (block : ℕ) (env : Environment) (action : Action (Unit {0})) (walking : Tree → Walking (Unit {0}))
    → SoundAmong {A = Unit {0}} {B = Unit {0}} controls world block env Any_value action (walking world.tree)
    → SoundAmong {A = Unit {0}} {B = Unit {0}} controls world block env Any_value action (λ context. walking context.tree context)
among-by_tree controls world block env action walking one context state s held unbroken part here =
    subst (λ (tree : Tree). (walking tree context state).broken ≡ [] → IsPartOf world (walking tree context state)
    → Good world (Foretold world env context (walking tree context state) s.store) s (action s))
    (sym here.stands.goes.tree_is) (λ kept walked. one context state s held kept walked here) unbroken part

pub all-controls : (root : ℕ) (rounds : List Round) (one : Round) → all_control root rounds ≡ true → is_among root one.controls ≡ true
    → all_control root (rounds ++ one ∷ []) ≡ true
all-controls root rounds one outer own =
    list_all-append (λ (round : Round). is_among root round.controls) rounds (one ∷ [])
    ∙ and_from (all_control root rounds) (is_among root one.controls && true) outer (and_from (is_among root one.controls) true own refl)

-- ---- where a walk stands

-- another state that holds
pub here-as : (world : World) (block : ℕ) (env : Environment) (context : Context) (state other : State) (s : effect.State)
    → Here world block env context state s → Knows (parts_in world) (variables_in world) env other s.store → Here world block env context other s
here-as world block env context state other s here known = record {
  block_is = here.block_is;
  fine = here.fine;
  proper = here.proper;
  stands = stands-as world env context state other s.store here.stands known;
}

-- in a later state of the same store
pub here-later : (world : World) (block : ℕ) (env : Environment) (context : Context) (state : State) (s t : effect.State) → t.store ≡ s.store
    → Fine world.tree t → s.activations ≤ t.activations → Here world block env context state s → Here world block env context state t
here-later world block env context state s t same fine grown here = record {
  block_is = here.block_is;
  fine = fine;
  proper = proper-grown world block s.activations t.activations env grown here.proper;
  stands = subst (Stands world env context state) (sym same) here.stands;
}

-- the ordinal variables have numbers there
pub numbers-here : (world : World) (block : ℕ) (env : Environment) (context : Context) (state : State) (s : effect.State)
    → Here world block env context state s → HoldNumbers (ordinal_in world) (moment env s.store)
numbers-here world block env context state s here =
    hold-numbers world.tree world.pairs block s.activations env s.store here.proper here.fine.typed

-- ---- branches

-- where a condition has a truth value, what is known of it holds
pub chosen-here : (world : World) (block : ℕ) (env : Surroundings) (condition : Expr) (told : Valued) (v : Value) (s t : effect.State) (context : Context)
    (state : State) → value_of condition env s ≡ effect.Gives v t → IsTested world env.visible condition told v t.store
    → Here world block env.visible context state t
    → Here world block env.visible context (where_so world.tree (is_so v) condition told state) t
chosen-here world block env condition told v s t context state is tested here =
    let numbers = numbers-here world block env.visible context state t here in
    here-as world block env.visible context state (where_so world.tree (is_so v) condition told state) t here
    (tested.sides numbers (branched (ordinal_in world) (is_so v) condition (known_range told.known) state)
    (by told.known v is tested.held))
  where
    by : (known : Known) (v : Value) → value_of condition env s ≡ effect.Gives v t → IsHeld scalar.Ordinal known v t.store
        → Knows (parts_in world) (variables_in world) env.visible (branched (ordinal_in world) (is_so v) condition (known_range known) state) t.store
    by (Ordinal range) (Number n) is inside =
        conditions-tell (parts_in world) (table_of world.tree) (are-rows world.tree) (ordinal_in world) env condition s t n range state is inside.0
        (numbers-here world block env.visible context state t here) here.stands.known
    by (Ordinal range) (Members set) is inside = absurd inside.0
    by (Set hull) v is inside = absurd (let other = inside.1 in cc)

-- behind one of two ways the joined state holds
abbrev JoinedKnown : World → Environment → State → State → Store → Tree → Type 0
JoinedKnown world env one other store tree = Knows (parts_in world) (variables_in world) env (joined_states (table_of tree) one other) store

pub joined-one : (world : World) (env : Environment) (context : Context) (one other : State) (store : Store)
    → HoldNumbers (ordinal_in world) (moment env store) → Stands world env context one store
    → Knows (parts_in world) (variables_in world) env (joined_states (table_of context.tree) one other) store
joined-one world env context one other store numbers stands =
    subst (JoinedKnown world env one other store) (sym stands.goes.tree_is)
    (join-holds.from_one (parts_in world) (table_of world.tree) (are-rows world.tree) env one other store numbers stands.known)

pub joined-other : (world : World) (env : Environment) (context : Context) (one other : State) (store : Store)
    → HoldNumbers (ordinal_in world) (moment env store) → Stands world env context other store
    → Knows (parts_in world) (variables_in world) env (joined_states (table_of context.tree) one other) store
joined-other world env context one other store numbers stands =
    subst (JoinedKnown world env one other store) (sym stands.goes.tree_is)
    (join-holds.from_other (parts_in world) (table_of world.tree) (are-rows world.tree) env one other store numbers stands.known)

one-way : (world : World) (env : Environment) (context : Context) (one other : Walked (Unit {0})) (start store : Store) (done : Unit {0})
    → HoldNumbers (ordinal_in world) (moment env store) → Foretold world env context one start done store
    → Foretold world env context (walk.either_of context one other) start done store
one-way world env context one other start store done numbers told = record {
  tie = tt;
  stands = stands-as world env context one.after (joined_states (table_of context.tree) one.after other.after) store told.stands
      (joined-one world env context one.after other.after store numbers told.stands);
  kept = told.kept;
}

other-way : (world : World) (env : Environment) (context : Context) (one other : Walked (Unit {0})) (start store : Store) (done : Unit {0})
    → HoldNumbers (ordinal_in world) (moment env store) → Foretold world env context other start done store
    → Foretold world env context (walk.either_of context one other) start done store
other-way world env context one other start store done numbers told = record {
  tie = tt;
  stands = stands-as world env context other.after (joined_states (table_of context.tree) one.after other.after) store told.stands
      (joined-other world env context one.after other.after store numbers told.stands);
  kept = told.kept;
}

-- one of two ways, by a truth value
pub ways-good : (world : World) (block few : ℕ) (env : Environment) → Proper world.tree world.pairs block few env
    → (one_action other_action : Action (Unit {0})) (one other : Walked (Unit {0})) (b : Bool) (context : Context) (t : effect.State)
    → (b ≡ true → one.broken ≡ [] → IsPartOf world one → Good world (Foretold world env context one t.store) t (one_action t))
    → (b ≡ false → other.broken ≡ [] → IsPartOf world other → Good world (Foretold world env context other t.store) t (other_action t))
    → (walk.either_of context one other).broken ≡ [] → IsPartOf world (walk.either_of context one other)
    → Good world (Foretold world env context (walk.either_of context one other) t.store) t (cond b one_action other_action t)
ways-good world block few env proper one_action other_action one other true context t taken skipped unbroken part =
    good-weaker world (Foretold world env context one t.store) (Foretold world env context (walk.either_of context one other) t.store) t (one_action t)
    (λ done u is told.
    one-way world env context one other t.store u.store done
    (hold-numbers world.tree world.pairs block few env u.store proper told.fine.typed) told.so)
    (taken refl (unbroken-left one.broken other.broken unbroken) (part-left world one other (record { ids = part.ids; linked = part.linked })))
ways-good world block few env proper one_action other_action one other false context t taken skipped unbroken part =
    good-weaker world (Foretold world env context other t.store) (Foretold world env context (walk.either_of context one other) t.store) t (other_action t)
    (λ done u is told.
    other-way world env context one other t.store u.store done
    (hold-numbers world.tree world.pairs block few env u.store proper told.fine.typed) told.so)
    (skipped refl (unbroken-right one.broken other.broken unbroken) (part-right world one other (record { ids = part.ids; linked = part.linked })))

-- the choice of a branch by a truth value
chosen-good : (controls : List ℕ) (world : World) (block : ℕ) (env : Environment) (one_action other_action : Action (Unit {0})) (condition : Expr)
    (consequence alternative : Walking (Unit {0}))
    (known : Valued) (b : Bool) (context : Context) (state : State) (t : effect.State)
    → SoundAmong {A = Unit {0}} {B = Unit {0}} controls world block env Any_value one_action consequence
    → SoundAmong {A = Unit {0}} {B = Unit {0}} controls world block env Any_value other_action alternative
    → AreControlled controls env context → (walk.branches world.tree condition consequence alternative known context state).broken ≡ []
    → IsPartOf world (walk.branches world.tree condition consequence alternative known context state)
    → Here world block env context (where_so world.tree b condition known state) t
    → Good world (Foretold world env context (walk.branches world.tree condition consequence alternative known context state) t.store) t
    (cond b one_action other_action t)
chosen-good controls world block env one_action other_action condition consequence alternative known b context state t one other held unbroken part here =
    let at = λ (c : Bool). where_so world.tree c condition known state in
    ways-good world block t.activations env here.proper one_action other_action (consequence context (at true)) (alternative context (at false)) b context t
    (λ is unbroken part. one context (at true) t held unbroken part (subst (λ (c : Bool). Here world block env context (at c) t) is here))
    (λ is unbroken part. other context (at false) t held unbroken part (subst (λ (c : Bool). Here world block env context (at c) t) is here))
    unbroken part

module _ (controls : List ℕ) (world : World) (block : ℕ) (env : Surroundings) (condition : Expr) (one_action other_action : Action (Unit {0}))
    (consequence alternative : Walking (Unit {0}))
    (valued : Sound world block env.visible (IsTested world env.visible condition) (value_of condition env) (condition_walk condition))
    (one : SoundAmong {A = Unit {0}} {B = Unit {0}} controls world block env.visible Any_value one_action consequence)
    (other : SoundAmong {A = Unit {0}} {B = Unit {0}} controls world block env.visible Any_value other_action alternative) where
  abbrev choice : Action (Unit {0})
  choice = effect.◌>>=◌ (value_of condition env) (λ v. cond (is_so v) one_action other_action)

  sound-chosen : SoundAmong {A = Unit {0}} {B = Unit {0}} controls world block env.visible Any_value choice
      (flow.◌>>=◌ (condition_walk condition) (walk.branches world.tree condition consequence alternative))
  sound-chosen context state s held unbroken part here =
      let visible = env.visible in
      let first = condition_walk condition context state in
      let second = walk.branches world.tree condition consequence alternative first.value context first.after in
      good-then world (IsForetold world visible (IsTested world visible condition) context first s.store)
      (Foretold world visible context (followed first second) s.store) s (value_of condition env s) (λ v. cond (is_so v) one_action other_action)
      (valued context state s (unbroken-left first.broken second.broken unbroken) (part-left world first second part) here)
      (λ v t is told.
      good-weaker world (Foretold world visible context second t.store) (Foretold world visible context (followed first second) s.store) t
      (cond (is_so v) one_action other_action t)
      (λ done u gives then. record {
        tie = tt;
        stands = then.so.stands;
        kept = keeps-then visible context.rounds s.store t.store u.store told.so.kept then.so.kept;
      })
      (chosen-good controls world block visible one_action other_action condition consequence alternative first.value (is_so v) context first.after t one
      other held (unbroken-right first.broken second.broken unbroken) (part-right world first second part)
      (chosen-here world block env condition first.value v s t context first.after is told.so.tie
      (here-behind world block visible (IsTested world visible condition) context state first s t v here told))))

  -- a condition, and then one of two branches
  pub sound-choice : SoundAmong {A = Unit {0}} {B = Unit {0}} controls world block env.visible Any_value choice
      (flow.◌>>=◌ (condition_walk condition) (λ known context. walk.branches context.tree condition consequence alternative known context))
  sound-choice =
      among-by_tree controls world block env.visible choice
      (λ (tree : Tree). flow.◌>>=◌ (condition_walk condition) (walk.branches tree condition consequence alternative)) sound-chosen

-- ---- loops in general

-- behind a round: P holds at the start of another, and Q where none follows
abbrev pub Turns : {A : Type 0} → (A → Store → Type 0) → (Store → Type 0) → Option A → Store → Type 0
Turns P Q None store = Q store
Turns P Q (Some a) store = P a store

module _ {A : Type 0} (world : World) (few : ℕ) (P : A → Store → Type 0) (Q : Store → Type 0) (round : effect.Round A)
    (each : (a : A) (s : effect.State) → Fine world.tree s → few ≤ s.activations → P a s.store → Good world (Turns P Q) s (round a s)) where
  abbrev Ended : Unit {0} → Store → Type 0
  Ended done store = Q store

  -- no round is left
  ended-good : (more : Option A) (t : effect.State) → Fine world.tree t → Turns P Q more t.store
      → Good {A = Unit {0}} world Ended t (effect.another more (λ b. effect.stop More) t)
  ended-good None t fine so = good-give world Ended tt t fine so
  ended-good (Some b) t fine so = record { errs = λ id is. absurd (cc); new = nothing-new world t.visited; gives = tt }

  another-good : (next : A → Action (Unit {0})) → ((a : A) (t : effect.State) → Fine world.tree t → few ≤ t.activations → P a t.store
      → Good world Ended t (next a t))
      → (more : Option A) (t : effect.State) → Fine world.tree t → few ≤ t.activations → Turns P Q more t.store
      → Good world Ended t (effect.another more next t)
  another-good next later None t fine grown so = good-give world Ended tt t fine so
  another-good next later (Some b) t fine grown so = later b t fine grown so

  -- the rounds of a loop: where it ends, Q holds
  looping-good : (bound : ℕ) (a : A) (s : effect.State) → Fine world.tree s → few ≤ s.activations → P a s.store
      → Good world Ended s (effect.looping bound round a s)
  looping-good zero a s fine grown so =
      good-then world (Turns P Q) Ended s (round a s) (λ more. effect.another more (λ b. effect.stop More))
      (each a s fine grown so) (λ more t is then. ended-good more t then.fine then.so)
  looping-good (suc left) a s fine grown so =
      good-then world (Turns P Q) Ended s (round a s) (λ more. effect.another more (effect.looping left round))
      (each a s fine grown so)
      (λ more t is then.
      another-good (effect.looping left round) (looping-good left) more t then.fine (let later = then.grown in omega (arith, grown, later)) then.so)

-- a round and the walk over it: the states at its ends hold there
abbrev pub EndsHold : World → Environment → Context → (again out : State) → Store → {A : Type 0} → Option A → Store → Type 0
EndsHold world env context again out start =
    Turns (λ a store. Stands world env context again store × Keeps env context.rounds start store)
    (λ store. Stands world env context out store × Keeps env context.rounds start store)

abbrev pub SoundRound : {A : Type 0} → List ℕ → World → ℕ → Environment → Action (Option A) → Walking State → Type 0
SoundRound {A} controls world block env round walking =
    (context : Context) (state : State) (s : effect.State) → AreControlled controls env context → (walking context state).broken ≡ []
    → IsPartOf world (walking context state) → Here world block env context state s
    → Good world (EndsHold world env context (walking context state).after (walking context state).value s.store {A = A}) s (round s)

-- the same of a round that begins with a change of the store, by the loops round it: where another follows, the state at its end holds behind the change
-- with which that begins, and something is so of both
abbrev pub RoundEnds : {A : Type 0} → World → Environment → Context → List Round → (at : A → Store → Store) → (Fits : A → Store → Type 0) → (again out : State)
    → Store → Option A → Store → Type 0
RoundEnds world env context rounds at Fits again out start =
    Turns (λ a store. Stands world env context again (at a store) × Keeps env rounds start (at a store) × Fits a (at a store))
    (λ store. Stands world env context out store × Keeps env rounds start store)

-- ---- the head of a loop

-- of the loops round a round of a loop, the last is the loop itself
pub rounds-own : (env : Environment) (rounds : List Round) (own : Round) (before after : Store) → Keeps env (rounds ++ own ∷ []) before after
    → IsKept env (touched own) own.controls before after
rounds-own env rounds own before after kept = kept own (Contains-append_right rounds (own ∷ []) own (0, omega arith, refl))

pub rounds-outer : (env : Environment) (rounds : List Round) (own : Round) (before after : Store) → Keeps env (rounds ++ own ∷ []) before after
    → Keeps env rounds before after
rounds-outer env rounds own before after kept round inside = kept round (Contains-append_left rounds (own ∷ []) round inside)

-- a loop by its number, and perhaps a control variable: at its head, and inside it
abbrev pub at_head : Context → ℕ → Option ℕ → Round
at_head context number control = with_own control (round_of context.tree context.pairs context.claims number)

abbrev pub inner : Context → ℕ → Context
inner context number = record context { rounds = context.rounds ++ round_of context.tree context.pairs context.claims number ∷ [] }

-- inside a loop one more for statement stands round a piece, if it is one
abbrev pub more_deep : (is_for : Bool) → ℕ
more_deep true = 1
more_deep false = 0

counted-deep : (one : Round) (left : List Round) (b : Bool) (n : ℕ) → n ≡ length (cond b (one ∷ left) left) → n ≡ more_deep b + length left
counted-deep one left true n is = let own : n ≡ suc (length left) = is in omega (arith, own)
counted-deep one left false n is = let own : n ≡ length left = is in omega (arith, own)

first-deep : (one : Round) (rest : List Round) (is_for : Bool) → one.is_for ≡ is_for → depth_of (one ∷ rest) ≡ more_deep is_for + depth_of rest
first-deep one rest is_for is =
    let left = filter (λ (round : Round). round.is_for) rest in
    counted-deep one left is_for (depth_of (one ∷ rest)) (ap (λ (b : Bool). length (cond b (one ∷ left) left)) is)

inside-deep : (rounds : List Round) (one : Round) (is_for : Bool) → one.is_for ≡ is_for → depth_of (rounds ++ one ∷ []) ≡ depth_of rounds + more_deep is_for
inside-deep [] one is_for is = let own = first-deep one [] is_for is in omega (arith, own)
inside-deep (first ∷ rounds) one is_for is =
    let own = first-deep first (rounds ++ one ∷ []) first.is_for refl in
    let before = first-deep first rounds first.is_for refl in
    let rest = inside-deep rounds one is_for is in
    omega (arith, own, before, rest)

-- so is the loop of which they are the control variables inside, where more turns are told of if it is a for statement
pub inner-controlled : (world : World) (outer env : Environment) (context : Context) (number : ℕ) (controls : List ℕ) (is_for : Bool)
    → context.tree ≡ world.tree → controls_inside world.tree number ≡ controls → is_for_statement world.tree number ≡ is_for
    → length env.turns ≡ length outer.turns + more_deep is_for → AreControlled controls outer context → AreControlled controls env (inner context number)
inner-controlled world outer env context number controls is_for tree_is inside kind more held =
    let own = round_of context.tree context.pairs context.claims number in
    let deeper = inside-deep context.rounds own is_for (ap (λ (tree : Tree). is_for_statement tree number) tree_is ∙ kind) in
    let deep = held.deep in
    record {
      control = λ root among.
          all-controls root context.rounds own (held.control root among)
          (ap (λ (tree : Tree). is_among root (controls_inside tree number)) tree_is ∙ ap (is_among root) inside ∙ among);
      deep = omega (arith, deeper, deep, more);
    }

abbrev pub with_head : Context → ℕ → Option ℕ → List Round
with_head context number control = context.rounds ++ at_head context number control ∷ []

abbrev pub loop_begun : Context → ℕ → Option ℕ → State → State
loop_begun context number control state =
    let own = at_head context number control in
    head_of context.tree own (claims_at context.claims number).facts state

-- what a round begins with leaves the store as it has to be
abbrev pub AreFine : {A : Type 0} → World → ℕ → (at : A → Store → Store) → (Fits : A → Store → Type 0) → Type 0
AreFine {A} world few at Fits =
    (a : A) (t : effect.State) → few ≤ t.activations → Fine world.tree t → Fits a (at a t.store) → Fine world.tree (record t { store = at a t.store })

module _ {A : Type 0} (world : World) (block : ℕ) (env : Environment) (few : ℕ)
    (proper : Proper world.tree world.pairs block few env) (context : Context) (number : ℕ) (control : Option ℕ) (state : State)
    (start : Store) (at : A → Store → Store) (Fits : A → Store → Type 0) (at_fine : AreFine world few at Fits) (again out : State)
    (stands : Stands world env context state start) (goes : SoundGoes world (inner context number))
    (controls_are : AreEntire (parts_in world) (variables_in world) (at_head context number control).controls) where
  abbrev facts : List Fact
  facts = (claims_at context.claims number).facts

  abbrev own : Round
  own = at_head context number control

  abbrev within : Context
  within = inner context number

  abbrev rounds : List Round
  rounds = with_head context number control

  abbrev begun : State
  begun = loop_begun context number control state

  -- at the start of a round the head holds, and behind the loop its way out
  abbrev AtHead : A → Store → Type 0
  AtHead a store = Stands world env within begun (at a store) × Keeps env rounds start (at a store) × Fits a (at a store)

  abbrev AtOut : Store → Type 0
  AtOut store = Stands world env context out store × Keeps env context.rounds start store

  -- the loop's facts hold there, and nothing changed but what the loop touches: so the head holds
  head-stands : (t : effect.State) → Fine world.tree t → Keeps env rounds start t.store → AllHold world.tree facts env t.store
      → Stands world env within begun t.store
  head-stands t fine kept hold = record {
    goes = goes;
    known =
        let Known = λ (tree : Tree). Knows (parts_in world) (variables_in world) env (head_of tree own facts state) t.store in
        subst Known (sym stands.goes.tree_is)
        (head-of_known world.tree env own facts state start t.store controls_are (rounds-own env context.rounds own start t.store kept)
        (in-types world.tree world.pairs block few env t.store proper fine.typed) hold stands.known);
  }

  given-there : (given_state : State) (store : Store) → Typed world.tree store → Knows (parts_in world) (variables_in world) env given_state store
      → gives_claims context.tree given_state facts ≡ true → AllHold world.tree facts env store
  given-there given_state store typed known given =
      given-claims world.tree env given_state store (hold-numbers world.tree world.pairs block few env store proper typed) known facts
      (subst (λ (tree : Tree). gives_claims tree given_state facts ≡ true) stands.goes.tree_is given)

  -- behind a round
  round-turns : gives_claims context.tree again facts ≡ true → (before : Store) → Keeps env rounds start before → (more : Option A) (t : effect.State)
      → few ≤ t.activations → Fine world.tree t → RoundEnds world env within rounds at Fits again out before more t.store → Turns AtHead AtOut more t.store
  round-turns given before kept None t grown fine (stood, own_kept) = (
    record { goes = stands.goes; known = stood.known },
    rounds-outer env context.rounds own start t.store (keeps-then env rounds start before t.store kept own_kept),
  )
  round-turns given before kept (Some b) t grown fine (stood, own_kept, fits) =
      let all = keeps-then env rounds start before (at b t.store) kept own_kept in (
        head-stands (record t { store = at b t.store }) (at_fine b t grown fine fits) all
            (given-there again (at b t.store) (at_fine b t grown fine fits).typed stood.known given),
        all,
        fits,
      )

-- a loop whose rounds are sound
pub loop-good : {A : Type 0} (world : World) → (block : ℕ) (env : Environment) (number : ℕ) (place : SourcePlace)
    (control : Option ℕ) (round : effect.Round A) (walking : Walking State) (at : A → Store → Store) (Fits : A → Store → Type 0) (context : Context)
    (state : State) (a : A) (s : effect.State) → AreFine world s.activations at Fits → SoundGoes world (inner context number)
    → AreEntire (parts_in world) (variables_in world) (at_head context number control).controls
    → ((b : A) (t : effect.State) → s.activations ≤ t.activations → Fine world.tree t
    → (walking (inner context number) (loop_begun context number control state)).broken ≡ []
    → IsPartOf world (walking (inner context number) (loop_begun context number control state))
    → Stands world env (inner context number) (loop_begun context number control state) (at b t.store) → Fits b (at b t.store)
    → Good world (RoundEnds world env (inner context number) (with_head context number control) at Fits
    (walking (inner context number) (loop_begun context number control state)).after
    (walking (inner context number) (loop_begun context number control state)).value (at b t.store)) t (round b t))
    → (walk.loop_walk number place control walking context state).broken ≡ [] → IsPartOf world (walk.loop_walk number place control walking context state)
    → Fine world.tree s → Proper world.tree world.pairs block s.activations env
    → Stands world env context state (at a s.store) → Fits a (at a s.store)
    → Good world (Foretold world env context (walk.loop_walk number place control walking context state) (at a s.store)) s (effect.looped round a s)
loop-good {A} world block env number place control round walking at Fits context state a s at_fine goes controls_are each unbroken part
    fine proper stands fits =
    let facts = (claims_at context.claims number).facts in
    let own = at_head context number control in
    let begun = loop_begun context number control state in
    let within = inner context number in
    let rounds = with_head context number control in
    let start = at a s.store in
    let turn = walking within begun in
    let entry = walk.facts_given LoopEntry place facts context state in
    let entering = walk.enter_head own facts context state in
    let turned = walk.facts_given LoopTurn place facts context turn.after in
    let after_turn = followed turned (flow.with_state turn.value context turn.after) in
    let from_head = followed turn after_turn in
    let whole = walk.loop_walk number place control walking context state in
    let few = s.activations in
    let from_entry = unbroken-right entry.broken (turn.broken ++ (turned.broken ++ [])) unbroken in
    let given = given-there world block env few proper context number control state start at Fits at_fine turn.after turn.value stands goes
    controls_are state start (at_fine a s (omega arith) fine fits).typed stands.known (kept-rule (gives_claims context.tree state facts) LoopEntry place
    (unbroken-left entry.broken (turn.broken ++ (turned.broken ++ [])) unbroken)) in
    let given_again = kept-rule (gives_claims context.tree turn.after facts) LoopTurn place
    (unbroken-left turned.broken [] (unbroken-right turn.broken (turned.broken ++ []) from_entry)) in
    let turn_part : IsPartOf world turn = part-left world turn after_turn
    (part-right world entering from_head (part-right world entry (followed entering from_head) part)) in
    let P = AtHead world block env few proper context number control state start at Fits at_fine turn.after turn.value stands goes
    controls_are in
    let Q : Store → Type 0 = AtOut world block env few proper context number control state start at Fits at_fine turn.after turn.value stands goes
    controls_are in
    let begun_kept = keeps-itself env rounds start in
    let first : P a s.store = (
      head-stands world block env few proper context number control state start at Fits at_fine turn.after turn.value stands goes controls_are
          (record s { store = start }) (at_fine a s (omega arith) fine fits) begun_kept given,
      begun_kept,
      fits,
    ) in
    let turns : (b : A) (t : effect.State) → Fine world.tree t → few ≤ t.activations → P b t.store → Good world (Turns P Q) t (round b t) =
    λ b t now grown holds.
    good-weaker world (RoundEnds world env within rounds at Fits turn.after turn.value (at b t.store)) (Turns P Q) t (round b t)
    (λ more u is told.
    round-turns world block env few proper context number control state start at Fits at_fine turn.after turn.value stands goes controls_are
    given_again (at b t.store) holds.1 more u (let later = told.grown in omega (arith, grown, later)) told.fine told.so)
    (each b t grown now (unbroken-left turn.broken (turned.broken ++ []) from_entry) turn_part holds.0 holds.2) in
    good-weaker world (λ (done : Unit {0}) store. Q store) (Foretold world env context whole start) s (effect.looped round a s)
    (λ done t is behind. record { tie = tt; stands = behind.so.0; kept = behind.so.1 })
    (looping-good world few P Q round turns s.turns a s fine (omega arith) first)

-- a round that begins with no change of the store
plain-ends : {A : Type 0} (world : World) (env : Environment) (context : Context) (again out : State) (start : Store) (more : Option A) (store : Store)
    → EndsHold world env context again out start more store
    → RoundEnds world env context context.rounds (λ a store. store) (λ a store. Unit {0}) again out start more store
plain-ends world env context again out start None store told = told
plain-ends world env context again out start (Some a) store (stood, kept) = (stood, kept, tt)

-- a loop that is no for statement
pub sound-loop : {A : Type 0} (controls : List ℕ) (world : World) → (block : ℕ) (env : Environment)
    (number : ℕ) (place : SourcePlace) (round : effect.Round A) (a : A)
    (walking : Walking State) → AreEntire (parts_in world) (variables_in world) (controls_inside world.tree number)
    → StandsIn world block number → controls_inside world.tree number ≡ controls → is_for_statement world.tree number ≡ false
    → ((b : A) → SoundRound controls world block env (round b) walking)
    → SoundAmong {A = Unit {0}} {B = Unit {0}} controls world block env Any_value (effect.looped round a) (walk.loop_walk number place None walking)
sound-loop {A} controls world block env number place round a walking controls_are stands inside_are kind each context state s held unbroken part here =
    let within = inner context number in
    let begun = loop_begun context number None state in
    let turn = walking within begun in
    let goes = here.stands.goes in
    loop-good world block env number place None round walking (λ b store. store) (λ b store. Unit {0}) context state a s
    (λ b t grown fine fits. record { typed = fine.typed; begun = fine.begun })
    (goes-inside world context (round_of context.tree context.pairs context.claims number)
    (loop-closed world context.block context number goes.tree_is goes.pairs_are (stands.0, stands.1, stands.2 ∙ sym here.block_is)) goes)
    (subst (λ (tree : Tree). AreEntire (parts_in world) (variables_in world) (controls_inside tree number)) (sym goes.tree_is) controls_are)
    (λ b t grown fine unbroken part holds fits.
    good-weaker world (EndsHold world env within turn.after turn.value t.store {A = A})
    (RoundEnds world env within within.rounds (λ b store. store) (λ b store. Unit {0}) turn.after turn.value t.store) t (round b t)
    (λ more u is told. plain-ends world env within turn.after turn.value t.store more u.store told.so)
    (each b within begun t (inner-controlled world env env context number controls false goes.tree_is inside_are kind (omega arith) held) unbroken part
    (record {
      block_is = here.block_is;
      fine = fine;
      proper = proper-grown world block s.activations t.activations env grown here.proper;
      stands = holds;
    })))
    unbroken part here.fine here.proper here.stands tt

-- ---- a turn

-- the use of a turn leaves the store as it is
turn-good : (world : World) (t : effect.State) → Fine world.tree t → (n : ℕ)
    → Good {A = Unit {0}} world (λ done store. store ≡ t.store) t (effect.take_turn n t)
turn-good world t fine zero = record { errs = λ id is. absurd (cc); new = nothing-new world t.visited; gives = tt }
turn-good world t fine (suc left) = record {
  errs = tt;
  new = nothing-new world t.visited;
  gives = record { so = refl; fine = record { typed = fine.typed; begun = fine.begun }; grown = omega arith };
}

-- so it is behind it
pub turn-then : {C : Type 0} (world : World) (Q : C → Store → Type 0) (next : Unit {0} → Action C) (t : effect.State) → Fine world.tree t
    → ((done : Unit {0}) (u : effect.State) → u.store ≡ t.store → Fine world.tree u → t.activations ≤ u.activations → Good world Q u (next done u))
    → Good world Q t (and_then (effect.use_turn t) next)
turn-then world Q next t fine then =
    good-then world (λ (done : Unit {0}) store. store ≡ t.store) Q t (effect.use_turn t) next (turn-good world t fine t.turns)
    (λ done u is behind. then done u behind.so behind.fine behind.grown)

-- a round of a while
module _ (controls : List ℕ) (world : World) (block : ℕ) (env : Surroundings) (condition : Expr) (execution : meaning.Execution) (body : Walking (Unit {0}))
    (valued : Sound world block env.visible (IsTested world env.visible condition) (value_of condition env) (condition_walk condition))
    (one : SoundAmong {A = Unit {0}} {B = Unit {0}} controls world block env.visible Any_value (execution env) body) (context : Context)
    (held : AreControlled controls env.visible context) (start : Store) (known : Valued)
    (tested : State) where
  abbrev visible : Environment
  visible = env.visible

  abbrev inside_state : State
  inside_state = where_so world.tree true condition known tested

  abbrev bodied : Walked (Unit {0})
  bodied = body context inside_state

  abbrev Ends : Option (Unit {0}) → Store → Type 0
  Ends = EndsHold world visible context bodied.after (where_so world.tree false condition known tested) start

  while-turned : (b : Bool) (t : effect.State) → Keeps visible context.rounds start t.store
      → Here world block visible context (where_so world.tree b condition known tested) t
      → bodied.broken ≡ [] → IsPartOf world bodied
      → Good world Ends t (meaning.turn_if b (execution env) t)
  while-turned false t kept here unbroken part = good-give world Ends None t here.fine (here.stands, kept)
  while-turned true t kept here unbroken part =
      turn-then world Ends (λ done. effect.◌>>=◌ (execution env) (λ done. effect.give (Some tt))) t here.fine
      (λ done u same fine grown.
      good-then world (Foretold world visible context bodied u.store) Ends u (execution env u) (λ done. effect.give (Some tt))
      (one context inside_state u held unbroken part (here-later world block visible context inside_state t u same fine grown here))
      (λ done w is told.
      good-give world Ends (Some tt) w told.fine (
        told.so.stands,
        keeps-then visible context.rounds start t.store w.store kept
            (subst (λ (x : Store). Keeps visible context.rounds x w.store) same told.so.kept),
      )))

pub sound-while : (controls : List ℕ) (world : World) (block : ℕ) (env : Surroundings) (condition : Expr) (execution : meaning.Execution)
    (body : Walking (Unit {0}))
    → Sound world block env.visible (IsTested world env.visible condition) (value_of condition env) (condition_walk condition)
    → SoundAmong {A = Unit {0}} {B = Unit {0}} controls world block env.visible Any_value (execution env) body
    → SoundRound controls world block env.visible (meaning.while_round (value_of condition) execution env tt) (walk.while_round world.tree condition body)
sound-while controls world block env condition execution body valued one context state s held unbroken part here =
    let visible = env.visible in
    let first = condition_walk condition context state in
    let inner = body context (where_so world.tree true condition first.value first.after) in
    let out = where_so world.tree false condition first.value first.after in
    let rest = followed inner (flow.give out context inner.after) in
    good-then world (IsForetold world visible (IsTested world visible condition) context first s.store)
    (EndsHold world visible context inner.after out s.store {A = Unit {0}}) s
    (value_of condition env s) (λ v. meaning.turn_if (is_so v) (execution env))
    (valued context state s (unbroken-left first.broken rest.broken unbroken) (part-left world first rest part) here)
    (λ v t is told.
    while-turned controls world block env condition execution body valued one context held s.store first.value first.after (is_so v) t told.so.kept
    (chosen-here world block env condition first.value v s t context first.after is told.so.tie
    (here-behind world block visible (IsTested world visible condition) context state first s t v here told))
    (unbroken-left inner.broken [] (unbroken-right first.broken (inner.broken ++ []) unbroken))
    (part-left world inner (flow.give out context inner.after) (part-right world first rest part)))

-- a round of a repeat: behind the condition
repeat-ends : (world : World) (env : Environment) (condition : Expr) (known : Valued) (context : Context) (start : Store) (tested : State) (b : Bool)
    (t : effect.State)
    → Keeps env context.rounds start t.store → Stands world env context (where_so world.tree b condition known tested) t.store
    → EndsHold world env context (where_so world.tree false condition known tested) (where_so world.tree true condition known tested) start {A = Unit {0}}
    (cond b None (Some tt)) t.store
repeat-ends world env condition known context start tested true t kept stands = (stands, kept)
repeat-ends world env condition known context start tested false t kept stands = (stands, kept)

pub sound-repeat : (controls : List ℕ) (world : World) (block : ℕ) (env : Surroundings) (condition : Expr) (execution : meaning.Execution)
    (body : Walking (Unit {0}))
    → SoundAmong {A = Unit {0}} {B = Unit {0}} controls world block env.visible Any_value (execution env) body
    → Sound world block env.visible (IsTested world env.visible condition) (value_of condition env) (condition_walk condition)
    → SoundRound controls world block env.visible (meaning.repeat_round execution (value_of condition) env tt) (walk.repeat_round world.tree body condition)
sound-repeat controls world block env condition execution body one valued context state s held unbroken part here =
    let visible = env.visible in
    let first = body context state in
    let second = condition_walk condition context first.after in
    let again = where_so world.tree false condition second.value second.after in
    let out = where_so world.tree true condition second.value second.after in
    let rest = followed second (flow.give out context again) in
    let P = EndsHold world visible context again out s.store {A = Unit {0}} in
    let answer = λ (v : Value). cond (is_so v) None (Some (tt {0})) in
    turn-then world P (λ done. effect.◌>>=◌ (execution env) (λ done. effect.◌>>=◌ (value_of condition env) (λ v. effect.give (answer v)))) s here.fine
    (λ done u same fine grown.
    let here_again = here-later world block visible context state s u same fine grown here in
    good-then world (Foretold world visible context first u.store) P u (execution env u)
    (λ done. effect.◌>>=◌ (value_of condition env) (λ v. effect.give (answer v)))
    (one context state u held (unbroken-left first.broken rest.broken unbroken) (part-left world first rest part) here_again)
    (λ done w is told.
    let here_then = here-behind {B = Unit {0}} world block visible Any_value context state first u w done here_again told in
    good-then world (IsForetold world visible (IsTested world visible condition) context second w.store) P w (value_of condition env w)
    (λ v. effect.give (answer v))
    (valued context first.after w (unbroken-left second.broken [] (unbroken-right first.broken (second.broken ++ []) unbroken))
    (part-left world second (flow.give out context again) (part-right world first rest part)) here_then)
    (λ v t gives then.
    good-give world P (answer v) t then.fine
    (repeat-ends world visible condition second.value context s.store second.after (is_so v) t
    (keeps-then visible context.rounds s.store w.store t.store (subst (λ (x : Store). Keeps visible context.rounds x w.store) same told.so.kept) then.so.kept)
    (chosen-here world block env condition second.value v w t context second.after gives then.so.tie
    (here-behind world block visible (IsTested world visible condition) context first.after second w t v here_then then)).stands))))
