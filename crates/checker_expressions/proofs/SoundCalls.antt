-- The walk over calls is sound, where that over their actual parameters is, and where calls are.
use Rattle.std.proofs.Common.{◌≡◌, ◌∙◌, sym, ap, refl, subst, ℕ, Bool, true, false, cond, List, [], ◌∷◌, ◌++◌, map, Option}
use Rattle.std.proofs.Common.{Some, None}
use Rattle.std.specs.Prelude.{nat_eq, slice_get}
use Rattle.std.specs.List.{Contains, list_all}
use Rattle.std.proofs.lemmas.Bool.{and_parts, or_left, or_parts, or_right}
use Rattle.std.proofs.lemmas.List.Folds.{list_any-append}
use Rattle.types.specs.Types.{BeginWithRequired}
use Rattle.types.specs.declared.form.Step.{Step}
use Rattle.typed_tree.specs.declared.tree.Block.{Block}
use Rattle.typed_tree.specs.declared.tree.Call.{Call}
use Rattle.typed_tree.specs.declared.tree.FunctionResult.{FunctionResult}
use Rattle.typed_tree.specs.declared.tree.Variable.{Variable}
use Rattle.typed_tree.specs.WellFormed.{declarer, is_round, is_value_kind, is_variable_kind, of_one, outline_of}
use Rattle.meaning.specs.declared.value.Value.{Value}
use Rattle.meaning.specs.Effect as effect
use Rattle.meaning.specs.Meaning as meaning
use Rattle.meaning.specs.Meaning.{Argument, Passing, Surroundings, all_passed}
use Rattle.meaning.specs.Store.{Environment, Place, Store}
use Rattle.typed_tree.specs.declared.tree.Scalar.TheVariants as scalar
use Rattle.checker_state.specs.declared.value.Known.TheVariants.{Ordinal}
use Rattle.checker_state.specs.Values.{IsKnown}
use Rattle.checker_state.specs.Holds.{HasValue, part_of, value_at}
use Rattle.checker_state.specs.Holds.{moment}
use Rattle.checker_state.specs.Loops.{is_among}
use Rattle.checker_state.specs.State.{State}
use Rattle.checker_state.specs.Knows.{Knows}
use Rattle.checker_loops.specs.Loops.{Round, all_list, touched}
use Rattle.checker_loops.specs.Pairs.{aliases_of}
use Rattle.checker_loops.specs.Sections.{BlockClaims, block_claims_at}
use Rattle.checker_loops.proofs.AliasedStores.{all-pass}
use Rattle.checker_loops.proofs.Lists.{among-contains}
use Rattle.checker_calls.specs.Actuals.{Actual, Binding, after_call, bound_to, settled}
use Rattle.checker_calls.specs.Entry.{are_given}
use Rattle.checker_calls.specs.Environments.{Fine, LiesIn, Proper}
use Rattle.checker_calls.specs.Exit.{behind_call, result_range, roots_changed}
use Rattle.checker_calls.specs.Overlaps.{are_separate}
use Rattle.checker_calls.proofs.Passed.{AreComponentsOf, IsArgument, after-call_argument}
use Rattle.checker_expressions.specs.declared.fault.Rule.TheVariants.{Aliases, CallEntry, Changes}
use Rattle.checker_expressions.specs.Walk as walk
use Rattle.checker_expressions.specs.Walk.{Context, PassedPiece, Walked, Walking, actuals_hold_call, actuals_walk, called_block, may_change}
use Rattle.checker_expressions.proofs.Keeping.{Keeps, keeps-itself}
use Rattle.checker_expressions.proofs.Sound.{World, Any_value, Called, Good, SoundGoes, Here, IsClosed, IsForetold, IsHeld, IsPartOf, SoundLeaves, LiesInResult}
use Rattle.checker_expressions.proofs.Sound.{Returned, Sound, SoundCalls, SoundFrom, from-then, gives-state, good-give, good-weaker, is_seen, kept-rule}
use Rattle.checker_expressions.proofs.Sound.{listed_in}
use Rattle.checker_expressions.proofs.Sound.{part-left, parts_in, sound-anywhere, sound-enter, sound-give, sound-here, unbroken-left, unbroken-right}
use Rattle.checker_expressions.proofs.Sound.{known-stands, types_in, variables_in}

-- ---- what is passed

-- an argument is of the kind of a formal parameter, and a value lies in its type, as do the components of a copy
abbrev pub IsOfKind : World → Variable → Argument → Type 0
IsOfKind world formal (meaning.OfValue v) = (is_value_kind formal.kind ≡ true) × LiesIn world.tree.types formal.type_id v
IsOfKind world formal (meaning.OfRow values) = (is_value_kind formal.kind ≡ true) × AreComponentsOf world.tree.types formal.type_id values
IsOfKind world formal (meaning.OfPlace None) = ⊥
IsOfKind world formal (meaning.OfPlace (Some place)) = is_variable_kind formal.kind ≡ true

-- a place is of the kind of a variable parameter, if it is one
pub place-kind : (world : World) (formal : Variable) (found : Option Place) (place : Place) → found ≡ Some place → is_variable_kind formal.kind ≡ true
    → IsOfKind world formal (meaning.OfPlace found)
place-kind world formal found place is kind = subst (λ (p : Option Place). IsOfKind world formal (meaning.OfPlace p)) (sym is) kind

-- what is passed to a formal parameter is what the walk knows of it
pub record IsPassed (world : World) (visible : Environment) (formal : Variable) (actual : Actual) (argument : Argument) (store : Store) : Type 0 where
  pub known : IsArgument world.tree visible store formal actual argument
  pub kind : IsOfKind world formal argument

-- so it is of each, side by side with the roots of the formal parameters
abbrev pub ArePassed : World → Environment → List ℕ → List Actual → List Argument → Store → Type 0
ArePassed world visible [] [] [] store = Unit {0}
ArePassed world visible (root ∷ roots) (actual ∷ actuals) (argument ∷ arguments) store =
    (formal : Variable) × (slice_get world.tree.variables.items root ≡ Some formal) × IsPassed world visible formal actual argument store
    × ArePassed world visible roots actuals arguments store
ArePassed world visible roots actuals arguments store = ⊥

-- ---- what is so of calls that break no rule

-- a call in a block, where a state holds and this is passed, breaks no rule by the claims on the callee
pub record MayCall (world : World) (block number : ℕ) (callee : Block) (visible : Environment) (state : State) (actuals : List Actual)
    (arguments : List Argument) (s : effect.State) : Type 0 where
  pub callee_is : slice_get world.tree.blocks.items number ≡ Some callee
  pub callable : of_one (is_round (outline_of world.tree) block) (declarer callee.heading.around.items) ≡ true
  pub fine : Fine world.tree s
  pub proper : Proper world.tree world.pairs block s.activations visible
  pub known : Knows (parts_in world) (variables_in world) visible state s.store
  pub passed : ArePassed world visible callee.heading.parameters.items actuals arguments s.store
  pub separate : are_separate (listed_in world) block callee.heading.around.items (bound_to callee.heading.parameters.items actuals) ≡ true
  pub given : are_given world.tree (bound_to callee.heading.parameters.items actuals) state (block_claims_at world.blocks number).entry ≡ true

-- the variables that it may change, as the caller knows them
abbrev pub changed_by_call : World → ℕ → Block → List Actual → List ℕ
changed_by_call world number callee actuals =
    roots_changed (bound_to callee.heading.parameters.items actuals) (block_claims_at world.blocks number).changes

-- a variable is none of those that are changed as far as they are visible, nor an alias of one
abbrev pub IsApartFrom : World → ℕ → List ℕ → ℕ → Type 0
IsApartFrom world block roots root =
    (other : ℕ) → is_among other roots ≡ true → is_seen world block other ≡ true
    → (other ≡ root → ⊥) × (is_among root (aliases_of world.pairs other) ≡ false)

-- the laws by which the walk goes: that of the table of types, and those of calls
pub record CallLaws (world : World) : Type 0 where
  pub required : BeginWithRequired (types_in world)
  pub called : (block number : ℕ) (callee : Block) (visible : Environment) (state : State) (actuals : List Actual) (arguments : List Argument)
      (s : effect.State) → MayCall world block number callee visible state actuals arguments s → Called world number callee arguments visible s
  pub behind : (block number : ℕ) (callee : Block) (visible : Environment) (state : State) (actuals : List Actual) (arguments : List Argument)
      (s t : effect.State) (v : Value) → MayCall world block number callee visible state actuals arguments s → Fine world.tree t
      → Returned world number callee arguments visible s v t.store
      → Knows (parts_in world) (variables_in world) visible
      (behind_call world.tree (listed_in world) block number (bound_to callee.heading.parameters.items actuals) (block_claims_at world.blocks number) state)
      t.store
  pub kept : (block number : ℕ) (callee : Block) (visible : Environment) (state : State) (actuals : List Actual) (arguments : List Argument)
      (s t : effect.State) (v : Value) → MayCall world block number callee visible state actuals arguments s
      → Returned world number callee arguments visible s v t.store → (root : ℕ)
      → IsApartFrom world block (changed_by_call world number callee actuals) root → (steps : List Step)
      → value_at (moment visible t.store) root steps ≡ value_at (moment visible s.store) root steps
  pub defined : (block number : ℕ) (callee : Block) (visible : Environment) (state : State) (actuals : List Actual) (arguments : List Argument)
      (s t : effect.State) (v : Value) → MayCall world block number callee visible state actuals arguments s
      → Returned world number callee arguments visible s v t.store → (root : ℕ) (steps : List Step) → HasValue (moment visible s.store) root steps
      → HasValue (moment visible t.store) root steps

-- ---- rules that aren't broken

-- a context of the world's program
abbrev pub in_world : World → Context → Context
in_world world context = record context { tree = world.tree; pairs = listed_in world; blocks = world.blocks }

pub by-world : (world : World) (context : Context) (P : Context → Type 0) → SoundGoes world context → P (in_world world context) → P context
by-world world context P goes so =
    subst (λ tree. P (record context { tree = tree })) (sym goes.tree_is)
    (subst (λ pairs. P (record context { tree = world.tree; pairs = pairs })) (sym goes.pairs_are)
    (subst (λ blocks. P (record context { tree = world.tree; pairs = listed_in world; blocks = blocks })) (sym goes.blocks_are) so))

-- a test that all pass, one of them passes
all-one : (test : ℕ → Bool) (roots : List ℕ) (root : ℕ) → list_all test roots ≡ true → is_among root roots ≡ true → test root ≡ true
all-one test roots root all among = all-pass test roots root (among-contains roots root among) all

round-lists : (root : ℕ) (rounds : List Round) (round : Round) → all_list root rounds ≡ true → Contains rounds round → is_among root round.changes ≡ true
round-lists root rounds round all inside = all-pass (λ (one : Round). is_among root one.changes) rounds round inside all

-- ---- a reply of two pieces

pub then-gives : {A B : Type 0} (reply : effect.Reply A) (next : A → effect.Action B) (b : B) (t : effect.State)
    → effect.and_then reply next ≡ effect.Gives b t
    → (u : effect.State) × (a : A) × (reply ≡ effect.Gives a u) × (next a u ≡ effect.Gives b t)
then-gives (effect.Gives a u) next b t is = (u, a, refl, is)
then-gives (effect.Stops e u) next b t is = absurd (cc)

-- ---- actual parameters

module _ (world : World) (block : ℕ) (env : Surroundings) where
  abbrev visible : Environment
  visible = env.visible

  abbrev Passes : Variable → Actual → Argument → Store → Type 0
  Passes formal = IsPassed world visible formal

  -- the walk over one is sound, and unless it holds a call it leaves the store as it is
  pub record PassedIsSound (formal : Variable) (passing : Passing) (piece : PassedPiece) : Type 0 where
    pub sound : Sound world block visible (Passes formal) (passing env) piece.walk
    pub leaves : piece.holds_call ≡ false → SoundLeaves (passing env)

  abbrev pub AllPassed : List ℕ → List Passing → List PassedPiece → Type 0
  AllPassed [] [] [] = Unit {0}
  AllPassed (root ∷ roots) (passing ∷ passings) (piece ∷ pieces) =
      (formal : Variable) × (slice_get world.tree.variables.items root ≡ Some formal) × PassedIsSound formal passing piece
      × AllPassed roots passings pieces
  AllPassed roots passings pieces = ⊥

  -- actual parameters that hold no call leave the store as it is
  all-leaves : (roots : List ℕ) (passings : List Passing) (pieces : List PassedPiece) → AllPassed roots passings pieces
      → actuals_hold_call pieces ≡ false → SoundLeaves (all_passed passings env)
  all-leaves [] [] [] all quiet = λ s t arguments is. ap (λ (u : effect.State). u.store) (gives-state [] arguments s t is)
  all-leaves [] [] (piece ∷ pieces) all quiet = absurd all
  all-leaves [] (passing ∷ passings) pieces all quiet = absurd all
  all-leaves (root ∷ roots) [] pieces all quiet = absurd all
  all-leaves (root ∷ roots) (passing ∷ passings) [] all quiet = absurd all
  all-leaves (root ∷ roots) (passing ∷ passings) (piece ∷ pieces) (formal, at, one, others) quiet = λ s t arguments is.
      let none = or_parts piece.holds_call (actuals_hold_call pieces) quiet in
      let first = then-gives (passing env s)
      (λ argument. effect.◌>>=◌ (all_passed passings env) (λ more. effect.give (argument ∷ more))) arguments t is in
      let second = then-gives (all_passed passings env first.0) (λ more. effect.give (first.1 ∷ more)) arguments t first.3 in
      ap (λ (u : effect.State). u.store) (gives-state (first.1 ∷ second.1) arguments second.0 t second.3)
      ∙ all-leaves roots passings pieces others none.1 first.0 second.0 second.1 second.2
      ∙ one.leaves none.0 s first.0 first.1 first.2

  -- what is known of an actual parameter where another may hold a call
  abbrev settle : Bool → Actual → Actual
  settle hold actual = cond hold (after_call actual) actual

  settled-later : (hold : Bool) (formal : Variable) (actual : Actual) (argument : Argument) (before after : Store) → (hold ≡ false → after ≡ before)
      → Passes formal actual argument before → Passes formal (settle hold actual) argument after
  settled-later true formal actual argument before after same passed = record {
    known = after-call_argument world.tree visible before after formal actual argument passed.known;
    kind = passed.kind;
  }
  settled-later false formal actual argument before after same passed =
      subst (λ (store : Store). Passes formal actual argument store) (sym (same refl)) passed

  settled-all : (hold : Bool) (actuals : List Actual) → map (settle hold) actuals ≡ settled hold actuals
  settled-all true actuals = refl
  settled-all false [] = refl
  settled-all false (actual ∷ actuals) = ap (λ (more : List Actual). actual ∷ more) (settled-all false actuals)

  abbrev Settled : Bool → List ℕ → List Actual → List Argument → Store → Type 0
  Settled hold roots actuals arguments store = ArePassed world visible roots (map (settle hold) actuals) arguments store

  -- actual parameters, from left to right
  passed-from : (hold : Bool) (roots : List ℕ) (passings : List Passing) (pieces : List PassedPiece) → AllPassed roots passings pieces
      → (hold ≡ false → actuals_hold_call pieces ≡ false) → (store : Store)
      → SoundFrom world block visible store (Settled hold roots) (all_passed passings env) (actuals_walk pieces)
  passed-from hold [] [] [] all quiet store =
      sound-here world block visible store (Settled hold []) (effect.give []) (walk.give [])
      (sound-give world block visible (Settled hold []) [] [] (λ later. tt))
  passed-from hold [] [] (piece ∷ pieces) all quiet store = absurd all
  passed-from hold [] (passing ∷ passings) pieces all quiet store = absurd all
  passed-from hold (root ∷ roots) [] pieces all quiet store = absurd all
  passed-from hold (root ∷ roots) (passing ∷ passings) [] all quiet store = absurd all
  passed-from hold (root ∷ roots) (passing ∷ passings) (piece ∷ pieces) (formal, at, one, others) quiet store =
      let R = Settled hold (root ∷ roots) in
      let none = λ (is : hold ≡ false). or_parts piece.holds_call (actuals_hold_call pieces) (quiet is) in
      from-then world block visible store (Passes formal) R (passing env)
      (λ argument. effect.◌>>=◌ (all_passed passings env) (λ arguments. effect.give (argument ∷ arguments))) piece.walk
      (λ actual. walk.◌>>=◌ (actuals_walk pieces) (λ actuals. walk.give (actual ∷ actuals)))
      (sound-here world block visible store (Passes formal) (passing env) piece.walk one.sound)
      (λ actual argument s t is from passed.
      from-then world block visible t.store (Settled hold roots) R (all_passed passings env) (λ arguments. effect.give (argument ∷ arguments))
      (actuals_walk pieces) (λ actuals. walk.give (actual ∷ actuals)) (passed-from hold roots passings pieces others (λ free. (none free).1) t.store)
      (λ actuals arguments s2 u gives same more. λ context state s3 now unbroken part here.
      let stays = λ (free : hold ≡ false). now ∙ all-leaves roots passings pieces others (none free).1 s2 u arguments gives ∙ same in
      let tie : R (actual ∷ actuals) (argument ∷ arguments) s3.store = (
        formal,
        at,
        settled-later hold formal actual argument t.store s3.store stays passed,
        subst (λ (x : Store). ArePassed world visible roots (map (settle hold) actuals) arguments x) (sym now) more,
      ) in
      good-give world (IsForetold world visible R context (walk.give (actual ∷ actuals) context state) s3.store) (argument ∷ arguments) s3 here.fine
      (record { tie = tie; stands = here.stands; kept = keeps-itself visible context.rounds s3.store })))

  -- ---- the call

  abbrev BehindCall : ℕ → Block → Unit {0} → Value → Store → Type 0
  BehindCall number callee done v store = LiesInResult world number callee.heading.result v

  -- what a loop round the call touches has the variables that the call changes, and their aliases as far as they are visible
  apart-from : (round : Round) (roots : List ℕ) (root : ℕ) → IsClosed world block round
      → ((other : ℕ) → is_among other roots ≡ true → is_among other round.changes ≡ true) → is_seen world block root ≡ true
      → is_among root (touched round) ≡ false → IsApartFrom world block roots root
  apart-from round roots root closed listed shown untouched other among seen_other =
      let own = listed other among in
      let inner : is_among other (round.controls ++ round.changes) ≡ true =
      list_any-append (λ (r : ℕ). nat_eq r other) round.controls round.changes
      ∙ or_right (is_among other round.controls) (is_among other round.changes) own in (
        λ same. not-both (is_among root (touched round)) (touches round root (subst (λ (r : ℕ). is_among r round.changes ≡ true) same own)) untouched,
        false-if (is_among root (aliases_of world.pairs other))
            (λ alias. not-both (is_among root (touched round)) (closed other root seen_other shown inner alias) untouched),
      )
    where
      not-both : (b : Bool) → b ≡ true → b ≡ false → ⊥
      not-both b is isnt = cc

      false-if : (b : Bool) → (b ≡ true → ⊥) → b ≡ false
      false-if true isnt = absurd (isnt refl)
      false-if false isnt = refl

      touches : (round : Round) (r : ℕ) → is_among r round.changes ≡ true → is_among r (touched round) ≡ true
      touches round r is =
          list_any-append (λ (other : ℕ). nat_eq other r) round.controls (round.changes ++ round.aliases)
          ∙ or_right (is_among r round.controls) (is_among r (round.changes ++ round.aliases))
          (list_any-append (λ (other : ℕ). nat_eq other r) round.changes round.aliases
          ∙ or_left (is_among r round.changes) (is_among r round.aliases) is)

  hidden-same : (before after : Store) (root : ℕ) (steps : List Step) → visible.variables root ≡ None
      → value_at (moment visible after) root steps ≡ value_at (moment visible before) root steps
  hidden-same before after root steps none =
      ap (λ (found : Option Place). part_of after found steps) none ∙ sym (ap (λ (found : Option Place). part_of before found steps) none)

  module _ (laws : CallLaws world) (calls : SoundCalls world env.calls) (call : Call) (callee : Block) (actuals : List Actual)
      (arguments : List Argument) where
    abbrev bindings : List Binding
    bindings = bound_to callee.heading.parameters.items actuals

    abbrev claims : BlockClaims
    claims = block_claims_at world.blocks call.block

    abbrev changed : List ℕ
    changed = roots_changed bindings claims.changes

    -- the loops round the call keep what they don't touch
    call-keeps : (context : Context) (state : State) (s t : effect.State) (v : Value) → SoundGoes world context → context.block ≡ block
        → MayCall world block call.block callee visible state actuals arguments s → list_all (may_change (in_world world context)) changed ≡ true
        → Returned world call.block callee arguments visible s v t.store → Keeps visible context.rounds s.store t.store
    call-keeps context state s t v goes block_is may lists returned round inside = record {
      values = λ root untouched steps.
          let listed = λ (other : ℕ) (among : is_among other changed ≡ true).
          round-lists other context.rounds round
          (and_parts (all_list other context.rounds) _ (all-one (may_change (in_world world context)) changed other lists among)).0 inside in
          let closed : IsClosed world block round = subst (λ (b : ℕ). IsClosed world b round) block_is (goes.closed round inside) in
          seen-or (is_seen world block root) root steps refl
          (λ shown. laws.kept block call.block callee visible state actuals arguments s t v may returned root
          (apart-from round changed root closed listed shown untouched) steps);
      defined = λ root among steps has. laws.defined block call.block callee visible state actuals arguments s t v may returned root steps has;
    }
      where
        seen-or : (shown : Bool) (root : ℕ) (steps : List Step) → is_seen world block root ≡ shown
            → (is_seen world block root ≡ true → value_at (moment visible t.store) root steps ≡ value_at (moment visible s.store) root steps)
            → value_at (moment visible t.store) root steps ≡ value_at (moment visible s.store) root steps
        seen-or true root steps is one = one is
        seen-or false root steps is one = hidden-same s.store t.store root steps (may.proper.only root is)

    -- the call, by a context of the world
    call-good : (context : Context) (state : State) (s : effect.State) → slice_get world.tree.blocks.items call.block ≡ Some callee
        → of_one (is_round (outline_of world.tree) block) (declarer callee.heading.around.items) ≡ true
        → (walk.call_with call claims bindings (in_world world context) state).broken ≡ []
        → Here world block visible context state s → ArePassed world visible callee.heading.parameters.items actuals arguments s.store
        → Good world (IsForetold world visible (BehindCall call.block callee) context
        (walk.call_with call claims bindings (in_world world context) state) s.store)
        s (env.calls call.block arguments visible s)
    call-good context state s at callable unbroken here passed =
        let own = in_world world context in
        let separate = are_separate (listed_in world) context.block (walk.around_of (slice_get world.tree.blocks.items call.block)) bindings in
        let given = are_given world.tree bindings state claims.entry in
        let lists = list_all (may_change own) changed in
        let first = walk.breach_unless separate Aliases call.name in
        let second = walk.breach_unless given CallEntry call.name in
        let third = walk.breach_unless lists Changes call.name in
        let rest = unbroken-right first (second ++ (third ++ [])) unbroken in
        let listed = kept-rule lists Changes call.name (unbroken-left third [] (unbroken-right second (third ++ []) rest)) in
        let may : MayCall world block call.block callee visible state actuals arguments s = record {
          callee_is = at;
          callable = callable;
          fine = here.fine;
          proper = here.proper;
          known = here.stands.known;
          passed = passed;
          separate = subst (λ (b : ℕ). are_separate (listed_in world) b callee.heading.around.items bindings ≡ true) here.block_is
              (subst (λ (found : Option Block). are_separate (listed_in world) context.block (walk.around_of found) bindings ≡ true) at
              (kept-rule separate Aliases call.name (unbroken-left first (second ++ (third ++ [])) unbroken)));
          given = kept-rule given CallEntry call.name (unbroken-left second (third ++ []) rest);
        } in
        let called = laws.called block call.block callee visible state actuals arguments s may in
        good-weaker world (Returned world call.block callee arguments visible s)
        (IsForetold world visible (BehindCall call.block callee) context (walk.call_with call claims bindings own state) s.store) s
        (env.calls call.block arguments visible s)
        (λ v t is behind. record {
          tie = behind.so.result;
          stands = record {
            goes = here.stands.goes;
            known = subst (λ (b : ℕ). Knows (parts_in world) (variables_in world) visible
                (behind_call world.tree (listed_in world) b call.block bindings claims state) t.store) (sym here.block_is)
                (laws.behind block call.block callee visible state actuals arguments s t v may behind.fine behind.so);
          };
          kept = call-keeps context state s t v here.stands.goes here.block_is may listed behind.so;
        })
        (calls call.block callee arguments visible s called here.fine)

  -- ---- an expression or a statement that calls

  module _ (laws : CallLaws world) (calls : SoundCalls world env.calls) (call : Call) (callee : Block)
      (at : slice_get world.tree.blocks.items call.block ≡ Some callee)
      (callable : of_one (is_round (outline_of world.tree) block) (declarer callee.heading.around.items) ≡ true) (passings : List Passing)
      (pieces : List PassedPiece) (all : AllPassed callee.heading.parameters.items passings pieces) where
    abbrev Behind_it : Unit {0} → Value → Store → Type 0
    Behind_it = BehindCall call.block callee

    abbrev hold : Bool
    hold = actuals_hold_call pieces

    -- from its actual parameters on
    called-from : (raw : List Actual) (arguments : List Argument) (store : Store)
        → ArePassed world visible callee.heading.parameters.items (settled hold raw) arguments store
        → SoundFrom world block visible store Behind_it (env.calls call.block arguments visible) (walk.called call hold raw)
    called-from raw arguments store passed = λ context state s same unbroken part here.
        let own = in_world world context in
        let P = λ (c : Context). (walk.called call hold raw c state).broken ≡ []
        → Good world (IsForetold world visible Behind_it context (walk.called call hold raw c state) s.store) s (env.calls call.block arguments visible s) in
        let with_formals = λ (found : Option Block).
        walk.call_with call (block_claims_at world.blocks call.block) (bound_to (walk.parameters_of found) (settled hold raw)) own in
        let Q = λ (found : Option Block). (with_formals found state).broken ≡ []
        → Good world (IsForetold world visible Behind_it context (with_formals found state) s.store) s (env.calls call.block arguments visible s) in
        let here_passed : ArePassed world visible callee.heading.parameters.items (settled hold raw) arguments s.store =
        subst (λ (x : Store). ArePassed world visible callee.heading.parameters.items (settled hold raw) arguments x) (sym same) passed in
        by-world world context P here.stands.goes
        (subst Q (sym at)
        (λ kept. call-good laws calls call callee (settled hold raw) arguments context state s at callable kept here here_passed)) unbroken

    -- the whole call
    pub call-sound : Sound world block visible Behind_it (meaning.call_of call passings env) (walk.call_walk call pieces)
    call-sound =
        let action = effect.enter call.number visible in
        let next = λ (done : Unit {0}). effect.◌>>=◌ (all_passed passings env) (λ arguments. env.calls call.block arguments visible) in
        let walk_next = λ (done : Unit {0}). walk.◌>>=◌ (actuals_walk pieces) (λ raw. walk.called call hold raw) in
        let roots = callee.heading.parameters.items in
        sound-anywhere world block visible Behind_it (effect.◌>>=◌ action next) (walk.◌>>=◌ (walk.enter call.number) walk_next)
        (λ store.
        from-then world block visible store Any_value Behind_it action next (walk.enter call.number) walk_next
        (sound-here world block visible store Any_value action (walk.enter call.number) (sound-enter world block visible call.number))
        (λ b a s t is from tie.
        from-then world block visible t.store (Settled hold roots) Behind_it (all_passed passings env) (λ arguments. env.calls call.block arguments visible)
        (actuals_walk pieces) (λ raw. walk.called call hold raw) (passed-from hold roots passings pieces all (λ quiet. quiet) t.store)
        (λ raw arguments s2 u gives same passed.
        called-from raw arguments u.store
        (subst (λ (actuals : List Actual). ArePassed world visible roots actuals arguments u.store) (settled-all hold raw) passed))))

    -- the value of a function
    pub function-sound : (result : FunctionResult) → callee.heading.result ≡ Some result
        → Sound world block visible (IsHeld scalar.Ordinal) (meaning.call_of call passings env) (walk.function_walk call pieces)
    function-sound result result_is = λ context state s unbroken part here.
        let R = IsHeld scalar.Ordinal in
        let first = walk.call_walk call pieces context state in
        let result_at = λ (c : Context). walk.result_walk call (walk.result_of (walk.called_block c call)) c first.after in
        let second = result_at context in
        let range = result_range world.tree (block_claims_at world.blocks call.block) result.root in
        good-weaker world (IsForetold world visible Behind_it context first s.store)
        (IsForetold world visible R context (walk.followed first second) s.store)
        s (meaning.call_of call passings env s)
        (λ v t is behind.
        let told = behind.so in
        let inside : IsKnown (Ordinal range) v = subst (λ (found : Option FunctionResult). LiesInResult world call.block found v) result_is told.tie in
        let P = λ (c : Context). IsForetold world visible R context (walk.followed first (result_at c)) s.store v t.store in
        let own = in_world world context in
        by-world world context P here.stands.goes
        (subst (λ (found : Option Block).
        IsForetold world visible R context (walk.followed first (walk.result_walk call (walk.result_of found) own first.after)) s.store v t.store)
        (sym at)
        (subst (λ (found : Option FunctionResult).
        IsForetold world visible R context (walk.followed first (walk.result_walk call found own first.after)) s.store v t.store) (sym result_is)
        (record {
          tie = (inside, refl);
          stands = known-stands world visible context (Ordinal range) first.after t.store v inside told.stands;
          kept = told.kept;
        }))))
        (call-sound context state s (unbroken-left first.broken second.broken unbroken) (part-first context state part) here)
      where
        part-first : (context : Context) (state : State) → IsPartOf world (walk.function_walk call pieces context state)
            → IsPartOf world (walk.call_walk call pieces context state)
        part-first context state part =
            let first = walk.call_walk call pieces context state in
            part-left world first (walk.result_walk call (walk.result_of (walk.called_block context call)) context first.after) part
