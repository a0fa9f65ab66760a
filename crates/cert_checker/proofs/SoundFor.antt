-- For statements are sound: in each turn the control variable lies on its way, and the body leaves it as it is.
use Rattle.std.proofs.Common.{arith, ◌≡◌, ◌≢◌, ⊎_elim, ◌∙◌, sym, ap, refl, subst, ℕ, ◌<◌, ℤ, Bool, true, false, cond, ◌||◌}
use Rattle.std.proofs.Common.{List, [], ◌∷◌, ◌++◌, Option, Some, None, length, nat_eq}
use Rattle.std.proofs.lemmas.List.{length-append}
use Rattle.std.specs.Ordering.{int_eq}
use Rattle.std.specs.Prelude.{◌≤◌}
use Rattle.std.proofs.lemmas.Int.{ints}
use Rattle.std.proofs.lemmas.Bool.{and_from, both_ways, cases_eq, eq-eqb, eqb-true, false_from_ne_true}
use Rattle.std.proofs.lemmas.List.Folds.{list_any-append}
use Rattle.std.proofs.lemmas.List.Elements.{Contains-push_cases}
use Rattle.std.proofs.lemmas.Option.{slice_get_within}
use Rattle.typed_tree.specs.declared.tree.Tree.{Tree}
use Rattle.typed_tree.specs.declared.tree.Direction.{Direction}
use Rattle.typed_tree.specs.declared.tree.Direction.TheVariants.{To, DownTo}
use Rattle.typed_tree.specs.declared.tree.ForHead.{ForHead}
use Rattle.typed_tree.specs.declared.tree.RangeTest.{RangeTest}
use Rattle.domain.specs.Interval.{Interval, HasMember}
use Rattle.domain.specs.declared.versions.Version.{Version}
use Rattle.checker_state.specs.Bounds.{Bound}
use Rattle.meaning.specs.declared.value.Value.TheVariants.{Number}
use Rattle.meaning.specs.Counting.{has_values, next_value, value_behind, values_before}
use Rattle.meaning.specs.Effect as effect
use Rattle.meaning.specs.Effect.{Action, is_in}
use Rattle.meaning.specs.Meaning as meaning
use Rattle.meaning.specs.Meaning.{Surroundings, within_for}
use Rattle.meaning.specs.Laws.{state_after}
use Rattle.meaning.specs.Store.{Environment, Place as StorePlace, Store, inside_for, is_beginning, overlap, stored as stored_at, undefined, written}
use Rattle.checker_state.specs.declared.value.Known.{Known}
use Rattle.checker_rows.specs.Limits.{limits_of, row_limits}
use Rattle.checker_rows.specs.Rows.{rows_of}
use Rattle.checker_state.specs.Loops.{is_among, with_undefined}
use Rattle.checker_state.specs.Holds.{HasNumber, IsIn, moment}
use Rattle.checker_state.specs.Knows.{IsKept, IsOfForm, Knows, AreEntire}
use Rattle.checker_state.proofs.Ranged.{is_in-limits, limits-is_in}
use Rattle.checker_state.proofs.Assigned.{undefined-known}
use Rattle.checker_state.proofs.Looped.{replaced-known}
use Rattle.checker_state.specs.State.{State}
use Rattle.checker_loops.specs.Growths.{Turns, all_can_begin, all_have_turned, depth_of, growths_begun}
use Rattle.checker_loops.specs.Loops.{Round, claims_at, controls_inside, is_for_statement, round_of, touched, with_own}
use Rattle.checker_loops.proofs.GrowthsTurned.{AreGrown, begins-grown, begun-grown, turned-grown}
use Rattle.checker_state.specs.Growths.{without_turns}
use Rattle.checker_state.proofs.Grown.{growths-hold}
use Rattle.checker_expressions.specs.declared.fault.Rule.TheVariants.{LoopEntry, LoopTurn}
use Rattle.domain.specs.Facts.{Fact}
use Rattle.checker_state.specs.State.{table_of}
use Rattle.checker_loops.proofs.Tabled.{are-rows}
use Rattle.checker_loops.proofs.Touched.{all_control, inside-uncontrolled, inside-untouched, own-controls}
use Rattle.checker_loops.specs.Pairs.{aliases_of, aliases_in}
use Rattle.checker_loops.specs.Ways.{End, Way, entered, met, turn_begun, turn_ended, way_of, way_out, where_counts, with_values}
use Rattle.checker_loops.proofs.OnWay.{Between, MayBe, begun-known, counts-known, counts-ordered, entered-known, kept-may, met-in, next-between, ordered-itself}
use Rattle.checker_loops.proofs.OnWay.{untouched-form}
use Rattle.checker_loops.proofs.AliasedStores.{AreWritten, IsApart, all-pass, hidden-apart, one-kept}
use Rattle.checker_calls.specs.Environments.{Fine, LiesUnder, Proper, Typed}
use Rattle.checker_calls.proofs.AliasedTypes.{declared, written-begun, written-typed}
use Rattle.checker_calls.proofs.SeenAliases.{apart-seen, listed_pairs}
use Rattle.checker_expressions.specs.Walk as flow
use Rattle.checker_expressions.specs.Walk.{Context, Walked, Walking, followed}
use Rattle.checker_expressions.proofs.Keeping.{Keeps, keeps-itself, keeps-then}
use Rattle.checker_expressions.proofs.Sound.{Any_value, Good, SoundGoes, Here, IsForetold, IsPartOf, Passes, Stands, World, good-give, good-then, good-weaker}
use Rattle.checker_expressions.proofs.Sound.{here-behind, is_seen, nothing-new, part-left, part-right, parts_in, proper-grown, sites_in, kept-rule}
use Rattle.checker_expressions.proofs.Sound.{ordinal_in, unbroken-left, unbroken-right, variables_in}
use Rattle.checker_expressions.proofs.SoundCalls.{in_world, by-world}
use Rattle.checker_expressions.proofs.SoundOperations.{within-sound}
use Rattle.cert_checker.specs.Walk as walk
use Rattle.cert_checker.specs.Walk.{steady_in, turns_in}
use Rattle.cert_checker.proofs.Changes.{assigned-knows, ended-knows, number-lies_in, whole, whole-has, whole-typed, whole-written}
use Rattle.cert_checker.proofs.Keeping.{gone-begun, gone-changes, gone-keeps, gone-none, gone-typed}
use Rattle.cert_checker.proofs.Rounds.{StandsIn, goes-inside, loop-closed}
use Rattle.cert_checker.proofs.SparedCalls.{IsAlone}
use Rattle.checker_expressions.proofs.EffectsKept.{Keeps as KeepsAt, lies-itself, watching}
use Rattle.checker_state.proofs.Knows.{entire-value}
use Rattle.cert_checker.proofs.SoundLoops.{AreControlled, AreFine, RoundEnds, SoundAmong, all-controls, here-as, inner, inner-controlled, loop-good}
use Rattle.cert_checker.proofs.SoundLoops.{loop_begun, rounds-outer, rounds-own, turn-then, ways-good, with_head}
use Rattle.cert_checker.proofs.FinishedTurns.{at-most, none-before, one-more}
use Rattle.cert_checker.proofs.Integers.{ordinal-integers}
use Rattle.cert_checker.proofs.Turned.{keeps-turned, proper-turned}
use Rattle.cert_checker.proofs.Written.{Foretold}

-- a number between two of a range lies in the range
between-in : (direction : Direction) (range : Interval) (x y n : ℤ) → HasMember range x → HasMember range y → Between direction x y n → HasMember range n
between-in To range x y n one other (after, before) =
    let low = one.0 in
    let high = other.1 in
    (omega (arith, ints), omega (arith, ints))
between-in DownTo range x y n one other (after, before) =
    let low = other.0 in
    let high = one.1 in
    (omega (arith, ints), omega (arith, ints))

int_eq-same : (m n : ℤ) → int_eq m n ≡ true → m ≡ n
int_eq-same m n is = grind (arith, ints)

-- inside a loop no more is changed than at its head
inside-kept : (env : Environment) (control : ℕ) (loop : Round) (before after : Store)
    → IsKept env (touched loop) loop.controls before after
    → IsKept env (touched (with_own (Some control) loop)) (with_own (Some control) loop).controls before after
inside-kept env control loop before after kept = record {
  values = λ root apart steps. kept.values root (inside-untouched control loop root apart) steps;
  defined = λ root apart steps has. kept.defined root (inside-uncontrolled control loop root apart) steps has;
}

-- of the loops round a round, the last is its own
last-kept : (env : Environment) (rounds : List Round) (one : Round) (before after : Store) → Keeps env rounds before after
    → IsKept env (touched one) one.controls before after → Keeps env (rounds ++ one ∷ []) before after
last-kept env rounds one before after outer own round inside =
    ⊎_elim (λ old. outer round old) (λ is. subst (λ (r : Round). IsKept env (touched r) r.controls before after) is own)
    (Contains-push_cases rounds one round inside)

-- where a variable alone changed, which controls a for statement in each loop
control-keeps : (env : Environment) (root : ℕ) (rounds : List Round) (before after : Store) → IsKept env (root ∷ []) [] before after
    → all_control root rounds ≡ true → Keeps env rounds before after
control-keeps env root rounds before after kept controls round inside = record {
  values = λ other apart steps. kept.values other (alone other apart) steps;
  defined = λ other among steps has. kept.defined other refl steps has;
}
  where
    is_touched : is_among root (touched round) ≡ true
    is_touched =
        list_any-append (λ (other : ℕ). nat_eq other root) round.controls (round.changes ++ round.aliases)
        ∙ ap (λ (b : Bool). b || is_among root (round.changes ++ round.aliases))
        (all-pass (λ (one : Round). is_among root one.controls) rounds round inside controls)

    alone : (other : ℕ) → is_among other (touched round) ≡ false → is_among other (root ∷ []) ≡ false
    alone other apart =
        ap (λ (b : Bool). b || false)
        (false_from_ne_true (nat_eq root other) (λ same.
        both_ways (is_among other (touched round)) apart (subst (λ (r : ℕ). is_among r (touched round) ≡ true) (eqb-true root other same) is_touched)))

-- the values of a variable's type
abbrev typed_values : World → ℕ → Interval
typed_values world root = row_limits (rows_of world.tree) root

-- a test for a variable names a site of the table, and what passes is one of those values
pub record IsTestFor (world : World) (root : ℕ) (fits : RangeTest) : Type 0 where
  pub below : fits.site < sites_in world
  pub typed : (n : ℤ) → is_in fits.range (Number n) ≡ true → HasMember (typed_values world root) n

-- the control variable of a for statement and those inside it
abbrev all_in : World → ForHead → List ℕ
all_in world head = head.control ∷ controls_inside world.tree head.loop_number

-- a control variable that is visible in a block, where none of its aliases is
pub record IsOwn (world : World) (block : ℕ) (env : Environment) (few : ℕ) (control : ℕ) : Type 0 where
  pub proper : Proper world.tree world.pairs block few env
  pub seen : is_seen world block control ≡ true
  pub ordinal : ordinal_in world control ≡ true
  pub hidden : (alias : ℕ) → is_among alias (aliases_of world.pairs control) ≡ true → is_seen world block alias ≡ false

-- that statement is sound, whatever turns are finished
abbrev pub SoundInside : List ℕ → World → ℕ → Surroundings → meaning.Execution → Walking (Unit {0}) → Type 0
SoundInside among world block env execution walking =
    (finished : ℕ)
    → SoundAmong {A = Unit {0}} {B = Unit {0}} among world block (inside_for env.visible finished) Any_value (execution (within_for env finished)) walking

-- what the text tells of the control variable of a for statement: it is visible, and its aliases aren't, in each loop round the statement it controls
-- one, and what is executed leaves it where it alone lies
pub record IsControl (world : World) (block : ℕ) (env : Surroundings) (execution : meaning.Execution) (context : Context) (control : ℕ) : Type 0 where
  pub seen : is_seen world block control ≡ true
  pub ordinal : ordinal_in world control ≡ true
  pub hidden : (alias : ℕ) → is_among alias (aliases_of world.pairs control) ≡ true → is_seen world block alias ≡ false
  pub controls : all_control control context.rounds ≡ true
  pub left : (place : StorePlace) → IsAlone place control env.visible → (finished : ℕ)
      → KeepsAt (watching place env.visible) (execution (within_for env finished))

-- where no other variable shares a place, none lies over it
alone-apart : (env : Environment) (control : ℕ) (home : StorePlace) → IsApart env control home [] → IsAlone home control env
alone-apart env control home apart other place seen lies =
    ⊎_elim (λ (same : control ≡ other). sym same)
    (λ (differs : control ≢ other). absurd (apart other place differs refl seen (lies-overlap home place lies))) (cases_eq control other)
  where
    either : (a b : Bool) → b ≡ true → cond a true b ≡ true
    either true b is = refl
    either false b is = is

    lies-overlap : (home place : StorePlace) → LiesUnder place home → overlap home place ≡ true
    lies-overlap home place lies =
        and_from (nat_eq home.activation place.activation) _ (eq-eqb home.activation place.activation (sym lies.0))
        (and_from (nat_eq home.variable place.variable) _ (eq-eqb home.variable place.variable (sym lies.1))
        (either (is_beginning home.steps place.steps) (is_beginning place.steps home.steps) lies.2))

module _ (world : World) (block : ℕ) (env : Environment) (few : ℕ) (control : ℕ) (own : IsOwn world block env few control) where
  abbrev home : StorePlace
  home = (own.proper.visible control own.seen).0

  at_home : env.variables control ≡ Some home
  at_home = (own.proper.visible control own.seen).1

  is-variable : control < variables_in world
  is-variable =
      let variable = declared world.tree world.pairs block few env own.proper control own.seen in
      slice_get_within world.tree.variables.items control variable.0 variable.1

  apart : IsApart env control home []
  apart =
      hidden-apart env world.pairs own.proper.separate control home at_home
      (λ alias among. own.proper.only alias (own.hidden alias among))

  -- it has a number
  abbrev numbered : ℤ → Store → Store
  numbered n store = written store home (Number n)

  one-number : (n : ℤ) (store : Store) → AreWritten env [] control (whole (Number n)) store (numbered n store)
  one-number n store = whole-written env [] control home at_home apart store (Number n)

  has-number : (n : ℤ) (store : Store) → HasNumber (moment env (numbered n store)) control n
  has-number n store = whole-has env [] control (Number n) store (numbered n store) (one-number n store)

  number-kept : (n : ℤ) (store : Store) → IsKept env (control ∷ []) [] store (numbered n store)
  number-kept n store = one-kept env [] control (whole (Number n)) store (numbered n store) (one-number n store)

  number-fine : (n : ℤ) (t : effect.State) → few ≤ t.activations → Fine world.tree t → HasMember (typed_values world control) n
      → Fine world.tree (record t { store = numbered n t.store })
  number-fine n t grown fine inside =
      let typed = whole-typed world.tree world.pairs block few env own.proper control home at_home (Number n)
      (number-lies_in world.tree control n own.ordinal inside) in
      let are = one-number n t.store in
      let young = own.proper.begun control home at_home in
      record {
        typed = written-typed world.tree env [] control (whole (Number n)) t.store (numbered n t.store) are typed fine.typed;
        begun = written-begun world.tree env [] control (whole (Number n)) t.store (numbered n t.store) are t.activations home at_home
            (omega (arith, young, grown)) fine.begun;
      }

  -- a number is stored to it
  number-stored : (n : ℤ) (t : effect.State) → few ≤ t.activations → Fine world.tree t → HasMember (typed_values world control) n
      → Good {A = Unit {0}} world (λ done store. store ≡ numbered n t.store) t (effect.store (env.variables control) (Number n) t)
  number-stored n t grown fine inside =
      let later = number-fine n t grown fine inside in
      subst (λ (place : Option StorePlace).
      Good {A = Unit {0}} world (λ done store. store ≡ numbered n t.store) t (effect.store place (Number n) t)) (sym at_home)
      (record {
        errs = tt;
        new = nothing-new world t.visited;
        gives = record { so = refl; fine = record { typed = later.typed; begun = later.begun }; grown = omega arith };
      })

module _ (world : World) (block : ℕ) (env : Surroundings)
    (head : ForHead) (in_table : StandsIn world block head.loop_number) (execution : meaning.Execution) (body : Walking (Unit {0}))
    (among : List ℕ) (inside_are : controls_inside world.tree head.loop_number ≡ among) (kind : is_for_statement world.tree head.loop_number ≡ true)
    (one : SoundInside among world block env execution body) where
  abbrev visible : Environment
  visible = env.visible

  -- ---- the rounds

  -- the way of the statement between these bounds
  abbrev way_between : End → End → Way
  way_between first last = record { control = head.control; direction = head.direction; first = first; last = last }

  module _ (context : Context) (first last : End) (x y : ℤ) (few : ℕ) (is_own : IsOwn world block visible few head.control)
      (block_is : context.block ≡ block) (in_first : HasMember first.values x)
      (in_last : HasMember last.values y) (first_typed : HasMember (typed_values world head.control) x)
      (last_typed : HasMember (typed_values world head.control) y) (controls : all_control head.control context.rounds ≡ true)
      (held : (finished : ℕ) → AreControlled among (inside_for visible finished) (inner context head.loop_number))
      (deep : depth_of context.rounds ≡ length visible.turns) (tree_is : context.tree ≡ world.tree)
      (left : (finished : ℕ) → KeepsAt (watching (home world block visible few head.control is_own) visible) (execution (within_for env finished))) where
    abbrev own_home : StorePlace
    own_home = home world block visible few head.control is_own

    abbrev loop : Round
    loop = round_of context.tree context.pairs context.claims head.loop_number

    abbrev own : Round
    own = with_own (Some head.control) loop

    abbrev within : Context
    within = inner context head.loop_number

    abbrev rounds : List Round
    rounds = with_head context head.loop_number (Some head.control)

    abbrev steady : Way
    steady = steady_in context head.loop_number (way_between first last)

    -- what its turns go by, and what is claimed
    abbrev own_turns : Turns
    own_turns = turns_in context head.loop_number (way_between first last)

    abbrev facts : List Fact
    facts = (claims_at context.claims head.loop_number).facts

    -- behind so many turns variables have grown as is claimed
    abbrev Grown : ℕ → Store → Type 0
    Grown finished store = AreGrown world.tree visible store finished own_turns facts

    -- a turn begins where the control variable got a value
    abbrev at : ℤ → Store → Store
    at n store = numbered world block visible few head.control is_own n store

    -- which lies on the way, whose bounds are what they were; and the growths that are claimed hold
    abbrev Fits : ℤ → Store → Type 0
    Fits n store =
        Between head.direction x y n × MayBe visible store steady.first.form x × MayBe visible store steady.last.form y
        × Grown (values_before head.direction x n) store

    at-number : (n : ℤ) (store : Store) → HasNumber (moment visible (at n store)) head.control n
    at-number n store = has-number world block visible few head.control is_own n store

    at-kept : (n : ℤ) (store : Store) → Keeps visible rounds store (at n store)
    at-kept n store =
        control-keeps visible head.control rounds store (at n store) (number-kept world block visible few head.control is_own n store)
        (all-controls head.control context.rounds own controls (own-controls head.control loop))

    on-way : (n : ℤ) → Between head.direction x y n → HasMember (typed_values world head.control) n
    on-way n between = between-in head.direction (typed_values world head.control) x y n first_typed last_typed between

    at-fine : AreFine world few at Fits
    at-fine n t grown fine fits = number-fine world block visible few head.control is_own n t grown fine (on-way n fits.0)

    -- so they are at a later store
    later-forms : (before after : Store) → Keeps visible rounds before after
        → MayBe visible before steady.first.form x × MayBe visible before steady.last.form y
        → MayBe visible after steady.first.form x × MayBe visible after steady.last.form y
    later-forms before after kept (one_may, other_may) =
        let own_kept = rounds-own visible context.rounds own before after kept in (
          kept-may visible (touched own) own.controls before after first.form x own_kept one_may,
          kept-may visible (touched own) own.controls before after last.form y own_kept other_may,
        )

    -- inside the statement all is visible that is round it
    abbrev inside_env : ℕ → Environment
    inside_env finished = inside_for visible finished

    abbrev proper-inside : (finished activations : ℕ) → Proper world.tree world.pairs block activations visible
        → Proper world.tree world.pairs block activations (inside_env finished)
    proper-inside finished activations proper =
        proper-turned visible visible.turns (visible.turns ++ finished ∷ []) world.tree world.pairs block activations proper

    abbrev own_inside : (finished : ℕ) → IsOwn world block (inside_env finished) few head.control
    own_inside finished = record { proper = proper-inside finished few is_own.proper; seen = is_own.seen; ordinal = is_own.ordinal; hidden = is_own.hidden }

    -- behind the turns nothing is told of them
    outside-knows : (finished : ℕ) (state : State) (store : Store) → Knows (parts_in world) (variables_in world) (inside_env finished) state store
        → Knows (parts_in world) (variables_in world) visible (without_turns own_turns.depth state) store
    outside-knows finished state store known =
        subst (λ (depth : ℕ). Knows (parts_in world) (variables_in world) visible (without_turns depth state) store) (sym deep)
        (growths-hold.outside (parts_in world) (variables_in world) visible state store finished known)

    module _ (n : ℤ) (start later : Store) (ended : State) (fits : Fits n start)
        (stands : Stands world (inside_env (values_before head.direction x n)) within ended later)
        (given : all_have_turned own_turns (turn_ended steady ended) facts ≡ true)
        (kept : Keeps visible within.rounds start later) (number_is : HasNumber (moment visible start) head.control n)
        (same_there : stored_at later own_home ≡ stored_at start own_home) where
      -- the body leaves the control variable as it is
      still : HasNumber (moment visible later) head.control n
      still =
          let at_own = at_home world block visible few head.control is_own in
          entire-value visible later head.control own_home at_own ∙ same_there ∙ sym (entire-value visible start head.control own_home at_own) ∙ number_is

      body-kept : Keeps visible rounds start later
      body-kept =
          last-kept visible context.rounds own start later (rounds-outer visible context.rounds loop start later kept)
          (inside-kept visible head.control loop start later (rounds-own visible context.rounds loop start later kept))

      abbrev finished : ℕ
      finished = values_before head.direction x n

      abbrev again_state : State
      again_state = without_turns own_turns.depth (turn_ended steady ended)

      abbrev out_state : State
      out_state = way_out steady (without_turns own_turns.depth ended)

      abbrev Ends : Option ℤ → Type 0
      Ends more = RoundEnds world visible within rounds at Fits again_state out_state start more later

      -- the last turn ends
      round-out : n ≡ y → Ends None
      round-out same =
          let forms = later-forms start later body-kept (fits.1, fits.2) in (
            record {
              goes = stands.goes;
              known = replaced-known (parts_in world) (variables_in world) visible (without_turns own_turns.depth ended) later head.control steady.last.form y
                  (subst (λ (m : ℤ). HasNumber (moment visible later) head.control m) same still) forms.1 (outside-knows finished ended later stands.known);
            },
            body-kept,
          )

      -- another turn follows
      round-again : int_eq n y ≡ false → Ends (Some (next_value head.direction n))
      round-again apart =
          let m = next_value head.direction n in
          let next_kept = at-kept m later in
          let forms = later-forms later (at m later) next_kept (later-forms start later body-kept (fits.1, fits.2)) in
          let between = next-between head.direction x y n fits.0 apart in
          let inside = inside_env finished in
          let own = own_inside finished in
          let known : Knows (parts_in world) (variables_in world) inside (turn_ended steady ended) (at m later) =
          ended-knows world.tree inside steady ended later (at m later) x y n (is-variable world block inside few head.control own)
          (one-number world block inside few head.control own m later) still in_last fits.0 apart forms.1 stands.known in (
            record { goes = stands.goes; known = outside-knows finished (turn_ended steady ended) (at m later) known },
            keeps-then visible rounds start later (at m later) body-kept next_kept,
            (
              between,
              forms.0,
              forms.1,
              subst (λ (count : ℕ). Grown count (at m later)) (sym (one-more head.direction x y n fits.0))
                  (turned-grown world.tree (parts_in world) (table_of world.tree) (are-rows world.tree) visible own_turns finished deep facts
                  (turn_ended steady ended) (at m later) known given),
            ),
          )

      round-ends : (b : Bool) → int_eq n y ≡ b → Ends (cond b None (Some (next_value head.direction n)))
      round-ends true is = round-out (int_eq-same n y is)
      round-ends false is = round-again is

    -- the body leaves what lies where the control variable does
    left-there : (finished : ℕ) (v w : effect.State) (done : Unit {0}) → execution (within_for env finished) v ≡ effect.Gives done w
        → few ≤ v.activations → stored_at w.store own_home ≡ stored_at v.store own_home
    left-there finished v w done is grown =
        let young = is_own.proper.begun head.control own_home (at_home world block visible few head.control is_own) in
        let leaving = (left finished).left v (omega (arith, young, grown)) in
        sym (ap (λ (reply : effect.Reply (Unit {0})). stored_at (state_after reply).store own_home) is)
        ∙ ⊎_elim (λ over. absurd (over (lies-itself own_home))) (λ same. same) (leaving.leaves.values own_home (omega arith))

    -- where a turn begins
    turn-known : (state : State) (n : ℤ) (store : Store) → Typed world.tree (at n store) → Stands world visible within state (at n store) → Fits n (at n store)
        → Knows (parts_in world) (variables_in world) (inside_env (values_before head.direction x n))
        (growths_begun within.tree own_turns facts (turn_begun steady state)) (at n store)
    turn-known state n store typed stands fits =
        let rows = parts_in world in
        let table = table_of world.tree in
        let are = are-rows world.tree in
        let start = at n store in
        let finished = values_before head.direction x n in
        let begun = turn_begun steady state in
        subst (λ (tree : Tree). Knows rows (variables_in world) (inside_env finished) (growths_begun tree own_turns facts begun) start) (sym tree_is)
        (begun-grown world.tree rows table are visible own_turns finished deep (at-most head.direction first.values last.values x y n in_first in_last fits.0)
        facts begun start (ordinal-integers world.tree world.pairs block few visible start is_own.proper typed) fits.3
        (growths-hold.inside rows (variables_in world) visible begun start finished
        (begun-known rows table are visible start steady state x y n (at-number n store) in_first in_last fits.0 fits.1 fits.2 stands.known)))

    -- a round of a for
    abbrev round_walk : Walking State
    round_walk = walk.for_round own_turns head.place facts steady body

    round-good : (state : State) (n : ℤ) (s : effect.State) → few ≤ s.activations → Fine world.tree s → (round_walk within state).broken ≡ []
        → IsPartOf world (round_walk within state) → Stands world visible within state (at n s.store) → Fits n (at n s.store)
        → Good world (RoundEnds world visible within rounds at Fits (round_walk within state).after
        (round_walk within state).value (at n s.store)) s (meaning.for_round head x y execution env n s)
    round-good state n s grown fine unbroken part stands fits =
        let start = at n s.store in
        let finished = values_before head.direction x n in
        let inside = within_for env finished in
        let begun = growths_begun within.tree own_turns facts (turn_begun steady state) in
        let turn : Walked (Unit {0}) = body within begun in
        let ended = turn.after in
        let asks = flow.asked (all_have_turned own_turns (turn_ended steady ended) facts) LoopTurn head.place within (turn_ended steady ended) in
        let over : Walked (Unit {0}) = walk.turn_to own_turns head.place facts steady within ended in
        let out = way_out steady (without_turns own_turns.depth ended) in
        let again = without_turns own_turns.depth (turn_ended steady ended) in
        let rest : Walked State = followed over (flow.give out within again) in
        let given = kept-rule (all_have_turned own_turns (turn_ended steady ended) facts) LoopTurn head.place
        (unbroken-left asks.broken [] (unbroken-left over.broken [] (unbroken-right turn.broken (over.broken ++ []) unbroken))) in
        let P = RoundEnds world visible within rounds at Fits again out start in
        let more = value_behind head.direction y n in
        let next = λ (used : Unit {0}). effect.◌>>=◌ (execution inside) (λ done. effect.give more) in
        let typed = (at-fine n s grown fine fits).typed in
        let begun_stands : Stands world inside.visible within begun start =
        record { goes = stands.goes; known = turn-known state n s.store typed stands fits } in
        good-then world (λ (done : Unit {0}) store. store ≡ start) P s (effect.store (visible.variables head.control) (Number n) s)
        (λ written. effect.◌>>=◌ effect.use_turn next)
        (number-stored world block visible few head.control is_own n s grown fine (on-way n fits.0))
        (λ written u is stored.
        turn-then world P next u stored.fine
        (λ used v same now later.
        let store_is : v.store ≡ start = same ∙ stored.so in
        let here : Here world block inside.visible within begun v = record {
          block_is = block_is;
          fine = now;
          proper = proper-inside finished v.activations
              (proper-grown world block few v.activations visible (let behind = stored.grown in omega (arith, grown, behind, later)) is_own.proper);
          stands = subst (Stands world inside.visible within begun) (sym store_is) begun_stands;
        } in
        good-then world (Foretold world inside.visible within turn v.store) P v (execution inside v) (λ done. effect.give more)
        (one finished within begun v (held finished) (unbroken-left turn.broken (over.broken ++ []) unbroken) (part-left world turn rest part) here)
        (λ done w is told.
        good-give world P more w told.fine
        (round-ends n start w.store ended fits told.so.stands given
        (subst (λ (store : Store). Keeps visible within.rounds store w.store) store_is
        (keeps-turned visible (visible.turns ++ finished ∷ []) visible.turns within.rounds v.store w.store told.so.kept))
        (at-number n s.store)
        (left-there finished v w done is (let behind = stored.grown in omega (arith, grown, behind, later))
        ∙ ap (λ (store : Store). stored_at store own_home) store_is)
        (int_eq n y) refl))))

  -- ---- from the tests of the bounds on

  may-of_form : (store : Store) (form : Option Bound) (n : ℤ) → MayBe visible store form n → IsOfForm (moment visible store) form (Number n)
  may-of_form store None n may = tt
  may-of_form store (Some bound) n may = (n, refl, may bound refl)

  own-of : (context : Context) (state : State) (s : effect.State) (control : ℕ) → IsControl world block env execution context control
      → Here world block visible context state s → IsOwn world block visible s.activations control
  own-of context state s control text here =
      record { proper = here.proper; seen = text.seen; ordinal = text.ordinal; hidden = text.hidden }

  goes-in : (context : Context) (state : State) (s : effect.State) → Here world block visible context state s → SoundGoes world (inner context head.loop_number)
  goes-in context state s here =
      goes-inside world context (round_of context.tree context.pairs context.claims head.loop_number)
      (loop-closed world context.block context head.loop_number here.stands.goes.tree_is here.stands.goes.pairs_are
      (in_table.0, in_table.1, in_table.2 ∙ sym here.block_is)) here.stands.goes

  -- this is known of the values of the bounds
  module _ (version : Version) (from to : Known) where
    abbrev way : Way
    way = way_of (ordinal_in world) version head from to

    module _ (context : Context) (state : State) (x y : ℤ)
        (text : IsControl world block env execution context head.control) (held : AreControlled among visible context)
        (controls_are : AreEntire (parts_in world) (variables_in world) (all_in world head))
        (first_tested : IsTestFor world head.control head.first.fits) (last_tested : IsTestFor world head.control head.last.fits)
        (counts : has_values head.direction x y ≡ true) where
      abbrev first : Walked Interval
      first = walk.tested_end state way.first context state

      abbrev last : Walked Interval
      last = walk.tested_end state way.last context first.after

      abbrev tested : Way
      tested = with_values first.value last.value way

      abbrev begun : Walked (Unit {0})
      begun = walk.begin_way tested context last.after

      abbrev turns : Walked (Unit {0})
      turns = walk.rounds_of head body tested context begun.after

      abbrev from_begun : Walked (Unit {0})
      from_begun = followed begun turns

      abbrev given : Walked Way
      given = flow.give tested context last.after

      abbrev from_last : Walked Way
      from_last = followed last given

      abbrev tests : Walked Way
      tests = walk.tested_way way context state

      abbrev whole_walked : Walked (Unit {0})
      whole_walked = walk.for_turns head body way context state

      abbrev Forms : Store → Type 0
      Forms store = MayBe visible store way.first.form x × MayBe visible store way.last.form y

      abbrev rounds_action : Action (Unit {0})
      rounds_action = effect.looped (meaning.for_round head x y execution env) x

      -- the control variable gets its first value, and the rounds follow
      module _ (unbroken : turns.broken ≡ []) (part : IsPartOf world turns) (v : effect.State)
          (here : Here world block visible context last.after v) (forms : Forms v.store) (in_first : IsIn first.value (Number x))
          (in_last : IsIn last.value (Number y)) (x_fits : is_in head.first.fits.range (Number x) ≡ true)
          (y_fits : is_in head.last.fits.range (Number y) ≡ true) where
        x_typed : HasMember (typed_values world head.control) x
        x_typed = first_tested.typed x x_fits

        y_typed : HasMember (typed_values world head.control) y
        y_typed = last_tested.typed y y_fits

        is_own : IsOwn world block visible v.activations head.control
        is_own = own-of context last.after v head.control text here

        abbrev start : Store
        start = numbered world block visible v.activations head.control is_own x v.store

        -- what is known where it has its first value
        start-known : Knows (parts_in world) (variables_in world) visible begun.after start
        start-known =
            let tree = world.tree in
            let pairs = world.pairs in
            let few = v.activations in
            let aliases = aliases_in (listed_pairs tree pairs) block head.control in
            let place = home world block visible few head.control is_own in
            let at_place = at_home world block visible few head.control is_own in
            let are = whole-written visible aliases head.control place at_place
            (apart-seen tree pairs block few visible here.proper head.control place at_place) v.store (Number x) in
            let typed = whole-typed tree pairs block few visible here.proper head.control place at_place (Number x)
            (number-lies_in tree head.control x text.ordinal x_typed) in
            by-world world context
            (λ (other : Context).
            Knows (parts_in world) (variables_in world) visible (walk.begin_way tested other last.after).after start)
            here.stands.goes
            (subst
            (λ (b : ℕ).
            Knows (parts_in world) (variables_in world) visible
            (walk.begin_way tested (record (in_world world context) { block = b }) last.after).after start)
            (sym here.block_is)
            (assigned-knows tree pairs block few visible here.proper head.control place at_place (Number x) v.store start are typed first.value
            way.first.form None
            (entered tested last.after) in_first (may-of_form v.store way.first.form x forms.0) tt
            (entered-known (parts_in world) (table_of world.tree) (are-rows world.tree) visible v.store tested last.after x y in_first in_last counts
            here.stands.known)))

        rounds-good : Good world (Foretold world visible context turns v.store) v (rounds_action v)
        rounds-good =
            let few = v.activations in
            let controls = text.controls in
            let lies_at = home world block visible few head.control is_own in
            let left = text.left lies_at (alone-apart visible head.control lies_at (apart world block visible few head.control is_own)) in
            let tree_is = here.stands.goes.tree_is in
            let deep = sym held.deep in
            let within = λ (finished : ℕ).
            inner-controlled world visible (inside_for visible finished) context head.loop_number among true tree_is inside_are kind
            (length-append visible.turns (finished ∷ [])) held in
            let own = touched (with_own (Some head.control) (round_of context.tree context.pairs context.claims head.loop_number)) in
            let begun_kept = at-kept context tested.first tested.last x y few is_own here.block_is in_first in_last x_typed y_typed
            controls within deep tree_is left x
            v.store in
            let later = later-forms context tested.first tested.last x y few is_own here.block_is in_first in_last x_typed y_typed
            controls within deep tree_is left
            v.store start begun_kept
            (untouched-form visible v.store own way.first.form x forms.0, untouched-form visible v.store own way.last.form y forms.1) in
            let start_stands : Stands world visible context begun.after start = record { goes = here.stands.goes; known = start-known } in
            let number = head.loop_number in
            let facts = (claims_at context.claims number).facts in
            let entry = walk.growths_entered head.place facts context begun.after in
            let round = walk.for_round (turns_in context number tested) head.place facts (steady_in context number tested) body in
            let loop = walk.loop_walk number head.place (Some head.control) round context begun.after in
            let given = kept-rule (all_can_begin begun.after facts) LoopEntry head.place (unbroken-left entry.broken loop.broken unbroken) in
            let typed = (number-fine world block visible few head.control is_own x v (omega arith) here.fine x_typed).typed in
            let begins = begins-grown world.tree (parts_in world) (table_of world.tree) (are-rows world.tree) visible (turns_in context number tested) facts
            begun.after start (ordinal-integers world.tree world.pairs block few visible start is_own.proper typed) start-known given in
            let first_grown = subst (λ (count : ℕ). AreGrown world.tree visible start count (turns_in context number tested) facts)
            (sym (none-before head.direction x)) begins in
            good-weaker world (Foretold world visible context loop start) (Foretold world visible context turns v.store) v (rounds_action v)
            (λ done w is told. record {
              tie = tt;
              stands = told.so.stands;
              kept = keeps-then visible context.rounds v.store start w.store
                  (rounds-outer visible context.rounds
                  (with_own (Some head.control) (round_of context.tree context.pairs context.claims head.loop_number)) v.store start
                  begun_kept)
                  told.so.kept;
            })
            (loop-good world block visible head.loop_number head.place (Some head.control) (meaning.for_round head x y execution env)
            round
            (at context tested.first tested.last x y few is_own here.block_is in_first in_last x_typed y_typed controls within deep tree_is left)
            (Fits context tested.first tested.last x y few is_own here.block_is in_first in_last x_typed y_typed controls within deep tree_is left)
            context begun.after x v
            (at-fine context tested.first tested.last x y few is_own here.block_is in_first in_last x_typed y_typed controls within deep tree_is left)
            (goes-in context last.after v here)
            (subst (λ (tree : Tree). AreEntire (parts_in world) (variables_in world) (head.control ∷ controls_inside tree head.loop_number))
            (sym here.stands.goes.tree_is) controls_are)
            (λ n t grown fine unbroken part stands fits.
            round-good context tested.first tested.last x y few is_own here.block_is in_first in_last x_typed y_typed controls within deep tree_is left
            (loop_begun context head.loop_number (Some head.control) begun.after) n t grown fine unbroken part stands fits)
            (unbroken-right entry.broken loop.broken unbroken) (part-right world entry loop part) here.fine here.proper start_stands
            ((ordered-itself head.direction x, counts-ordered head.direction x y counts), later.0, later.1, first_grown))

      required-same : (test : Bool) (site : ℕ) (s t : effect.State) (done : Unit {0}) → effect.require test site s ≡ effect.Gives done t
          → (test ≡ true) × (s ≡ t)
      required-same true site s t done is = (refl, cc)
      required-same false site s t done is = absurd (cc)

      abbrev first_test : Bool
      first_test = is_in head.first.fits.range (Number x)

      abbrev last_test : Bool
      last_test = is_in head.last.fits.range (Number y)

      module _ (unbroken : whole_walked.broken ≡ []) (part : IsPartOf world whole_walked) where
        tests_unbroken : tests.broken ≡ []
        tests_unbroken = unbroken-left tests.broken from_begun.broken unbroken

        tests_part : IsPartOf world tests
        tests_part = part-left world tests from_begun part

        from-first : IsPartOf world (followed first from_last)
        from-first = part-right world (flow.give state context state) (followed first from_last) tests_part

        turns_part : IsPartOf world turns
        turns_part = part-right world begun turns (part-right world tests from_begun part)

        -- the test of the last bound, and then the rounds
        last-good : (start : Store) (u : effect.State) → Keeps visible context.rounds start u.store → Here world block visible context first.after u
            → Knows (parts_in world) (variables_in world) visible state u.store
            → Forms u.store → HasMember way.last.values y → IsIn first.value (Number x) → first_test ≡ true
            → Good world (Foretold world visible context whole_walked start) u
            (effect.◌>>=◌ (effect.require last_test head.last.fits.site) (λ done. rounds_action) u)
        last-good start u kept here known forms inside in_first x_fits =
            good-then world (IsForetold world visible (Passes last_test y) context last u.store) (Foretold world visible context whole_walked start) u
            (effect.require last_test head.last.fits.site u) (λ done. rounds_action)
            (within-sound world block visible (limits_of head.last.fits.range) head.last.fits.site (met way.last.form state way.last.values)
            y last_test last_tested.below
            (is_in-limits head.last.fits.range (Number y)) (limits-is_in head.last.fits.range (Number y))
            (met-in (parts_in world) (table_of world.tree) (are-rows world.tree) visible u.store way.last.form state way.last.values y forms.1 known inside)
            context first.after u
            (unbroken-left last.broken given.broken (unbroken-right first.broken from_last.broken tests_unbroken))
            (part-left world last given (part-right world first from_last from-first)) here)
            (λ done v is told.
            let same = required-same last_test head.last.fits.site u v done is in
            let forms_here : Forms v.store = subst (λ (s : effect.State). Forms s.store) same.1 forms in
            let here_behind = here-behind world block visible (Passes last_test y) context first.after last u v done here told in
            good-weaker world (Foretold world visible context turns v.store) (Foretold world visible context whole_walked start) v (rounds_action v)
            (λ done w is then. record {
              tie = tt;
              stands = then.so.stands;
              kept = keeps-then visible context.rounds start u.store w.store kept
                  (keeps-then visible context.rounds u.store v.store w.store told.so.kept then.so.kept);
            })
            (rounds-good (unbroken-right begun.broken turns.broken (unbroken-right tests.broken from_begun.broken unbroken)) turns_part v here_behind
            forms_here in_first told.so.tie.0 x_fits same.0))

        -- the tests of both, and then the rounds
        turns-good : (t : effect.State) → Here world block visible context state t → Forms t.store → HasMember way.first.values x → HasMember way.last.values y
            → Good world (Foretold world visible context whole_walked t.store) t
            (meaning.for_rounds head execution env x y t)
        turns-good t here forms in_first in_last =
            good-then world (IsForetold world visible (Passes first_test x) context first t.store)
            (Foretold world visible context whole_walked t.store) t (effect.require first_test head.first.fits.site t)
            (λ done. effect.◌>>=◌ (effect.require last_test head.last.fits.site) (λ done. rounds_action))
            (within-sound world block visible (limits_of head.first.fits.range) head.first.fits.site (met way.first.form state way.first.values)
            x first_test first_tested.below
            (is_in-limits head.first.fits.range (Number x)) (limits-is_in head.first.fits.range (Number x))
            (met-in (parts_in world) (table_of world.tree) (are-rows world.tree) visible t.store way.first.form state way.first.values x forms.0
            here.stands.known in_first) context state t
            (unbroken-left first.broken from_last.broken tests_unbroken) (part-left world first from_last from-first) here)
            (λ done u is told.
            let same = required-same first_test head.first.fits.site t u done is in
            last-good t.store u told.so.kept (here-behind world block visible (Passes first_test x) context state first t u done here told)
            (subst (λ (s : effect.State). Knows (parts_in world) (variables_in world) visible state s.store) same.1 here.stands.known)
            (subst (λ (s : effect.State). Forms s.store) same.1 forms) in_last told.so.tie.0 same.0)

    -- ---- the whole statement, from the values of its bounds

    module _ (context : Context) (state : State) (x y : ℤ)
        (text : IsControl world block env execution context head.control) (held : AreControlled among visible context)
        (controls_are : AreEntire (parts_in world) (variables_in world) (all_in world head))
        (first_tested : IsTestFor world head.control head.first.fits) (last_tested : IsTestFor world head.control head.last.fits) where
      abbrev where_so : Bool → State
      where_so b = where_counts b way state

      abbrev taken : Walked (Unit {0})
      taken = walk.for_turns head body way context (where_so true)

      abbrev never : Walked (Unit {0})
      never = flow.give tt context (where_so false)

      abbrev both : Walked (Unit {0})
      both = walk.either_of context taken never

      abbrev behind : Walked (Unit {0})
      behind = flow.changed_by (with_undefined head.control) context both.after

      abbrev statement : Walked (Unit {0})
      statement = walk.for_walk head body way context state

      -- the control variable becomes undefined
      undefined-good : (start : Store) (u : effect.State)
          → Keeps visible context.rounds start u.store → Here world block visible context both.after u
          → Good world (Foretold world visible context statement start) u (effect.undefine (visible.variables head.control) u)
      undefined-good start u kept here =
          let few = u.activations in
          let is_own = own-of context both.after u head.control text here in
          let own_home = home world block visible few head.control is_own in
          let own_at = at_home world block visible few head.control is_own in
          let own_apart = apart world block visible few head.control is_own in
          let gone = undefined u.store own_home in
          subst (λ (place : Option StorePlace). Good world (Foretold world visible context statement start) u (effect.undefine place u))
          (sym own_at)
          (record {
            errs = tt;
            new = nothing-new world u.visited;
            gives = record {
              so = record {
                tie = tt;
                stands = record {
                  goes = here.stands.goes;
                  known = undefined-known (parts_in world) (table_of world.tree) (are-rows world.tree) visible both.after head.control u.store gone
                      (is-variable world block visible few head.control is_own) (gone-changes visible u.store head.control own_home own_at own_apart)
                      (gone-none visible u.store head.control own_home own_at own_apart) here.stands.known;
                };
                kept = keeps-then visible context.rounds start u.store gone kept
                    (gone-keeps visible u.store head.control own_home own_at own_apart context.rounds text.controls);
              };
              fine = record {
                typed = gone-typed world.tree u.store own_home here.fine.typed;
                begun = gone-begun few u.store own_home here.fine.begun;
              };
              grown = omega arith;
            };
          })

      pub for-good : (t : effect.State) → statement.broken ≡ [] → IsPartOf world statement → Here world block visible context state t
          → MayBe visible t.store way.first.form x → MayBe visible t.store way.last.form y → HasMember way.first.values x → HasMember way.last.values y
          → Good world (Foretold world visible context statement t.store) t
          (effect.◌>>=◌ (meaning.for_between head execution env x y)
          (λ done. effect.undefine (visible.variables head.control)) t)
      for-good t unbroken part here one other in_first in_last =
          let both_unbroken = unbroken-left both.broken behind.broken unbroken in
          let turns = meaning.for_rounds head execution env x y in
          let counts = has_values head.direction x y in
          let here_so : (b : Bool) → counts ≡ b → Here world block visible context (where_so b) t =
          λ b is. here-as world block visible context state (where_so b) t here
          (counts-known (parts_in world) (table_of world.tree) (are-rows world.tree) visible t.store way b state x y is one other here.stands.known) in
          good-then world (Foretold world visible context both t.store) (Foretold world visible context statement t.store) t
          (cond counts turns (effect.give tt) t) (λ done. effect.undefine (visible.variables head.control))
          (ways-good world block t.activations visible here.proper turns (effect.give tt) taken never counts context t
          (λ is unbroken part.
          turns-good context (where_so true) x y text held controls_are first_tested last_tested is unbroken part t (here_so true is)
          (one, other) in_first in_last)
          (λ is unbroken part.
          good-give world (Foretold world visible context never t.store) tt t here.fine
          (record { tie = tt; stands = (here_so false is).stands; kept = keeps-itself visible context.rounds t.store }))
          both_unbroken (part-left world both behind part))
          (λ done u is told.
          undefined-good t.store u told.so.kept
          (record {
            block_is = here.block_is;
            fine = told.fine;
            proper = proper-grown world block t.activations u.activations visible told.grown here.proper;
            stands = told.so.stands;
          }))
