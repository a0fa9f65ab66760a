-- The walk over each block of a program is sound, and so are calls, by the depth of activations in one another.
use Rattle.std.proofs.Common.{arith, ◌≡◌, ⊎_elim, inl, inr, ◌∙◌, sym, ap, refl, subst, ℕ, zero, suc, ◌+◌, ◌<◌, Bool, true, false, cond, ◌&&◌, nat_eq}
use Rattle.std.proofs.Common.{zero-add, ℤ, ◌||◌, pos, List, [], ◌∷◌, ◌++◌, length, Option, Some, None}
use Rattle.std.specs.Prelude.{◌≤◌, nat_lt, slice_get}
use Rattle.std.specs.List.{Contains}
use Rattle.types.specs.declared.form.Step.{Step}
use Rattle.std.proofs.lemmas.Bool.{and_parts, ltb-true}
use Rattle.std.proofs.lemmas.List.Elements.{All-contains}
use Rattle.std.proofs.lemmas.Option.{none-some}
use Rattle.certificate.specs.declared.Certificate.{Certificate}
use Rattle.types.specs.Types.{is_ordinal}
use Rattle.typed_tree.specs.Accesses.{AtVariable, accessed, is_type}
use Rattle.typed_tree.specs.Loops.{AreLoops, loops_of_block}
use Rattle.typed_tree.specs.WellFormed.{IsWellFormed, are_all, is_parameter_kind, is_placed, is_result, is_result_kind, is_result_or_none}
use Rattle.typed_tree.specs.WellFormed.{encloses, is_one_of, is_round, is_visible, of_one, outline_of, result_roots, roots_where}
use Rattle.typed_tree.specs.declared.tree.Block.{Block}
use Rattle.typed_tree.specs.declared.tree.FunctionResult.{FunctionResult}
use Rattle.typed_tree.specs.declared.tree.Tree.{Tree}
use Rattle.typed_tree.specs.declared.tree.Variable.{Variable}
use Rattle.typed_tree.proofs.Blocks.{are_loops_at}
use Rattle.domain.specs.Facts.{Fact, Range, Defined, Order, Grows}
use Rattle.domain.specs.Interval.{Interval, common}
use Rattle.meaning.specs.declared.value.Value.{Value}
use Rattle.meaning.specs.declared.value.Value.TheVariants.{Number}
use Rattle.meaning.specs.Effect as effect
use Rattle.meaning.specs.Effect.{Reply, Visit}
use Rattle.meaning.specs.Laws.{state_after}
use Rattle.meaning.specs.Meaning.{Argument, Calls, activated, assign_all, calls_of, effect_of, environment_of, executed, result_of}
use Rattle.meaning.specs.Store.{Environment, Place, Store, held, stored}
use Rattle.checker_state.specs.Holds.{HoldNumbers, Holds, IsIn, IsOfRow, component_at, moment, value_at}
use Rattle.checker_state.specs.Values.{IsKnown}
use Rattle.checker_state.specs.declared.value.Known.TheVariants.{Ordinal}
use Rattle.checker_state.specs.Loops.{is_among}
use Rattle.checker_state.specs.State as claim
use Rattle.checker_state.specs.State.{Claim, Dead, Live, State, Table, has_number, is_defined, range_of, row_at}
use Rattle.checker_state.proofs.Knows.{defined-stored, entire-value, nonempty-known, read-in, visible-within}
use Rattle.checker_state.proofs.Rows.{of_own, root-own}
use Rattle.checker_state.proofs.Ranged.{common-in}
use Rattle.checker_state.specs.Knows.{Knows}
use Rattle.checker_rows.specs.Limits.{row_limits}
use Rattle.checker_rows.specs.Rows.{all_parts, is_ordinal_variable, rows_of}
use Rattle.checker_loops.specs.Loops.{all_said, gives_claims, rows_named, said}
use Rattle.checker_state.specs.State.{table_of}
use Rattle.checker_loops.proofs.Tabled.{are-rows}
use Rattle.checker_loops.specs.Sections.{BlockClaims, all_block_claims, all_pairs, block_claims_at}
use Rattle.checker_loops.specs.Starts.{block_start}
use Rattle.checker_loops.proofs.Lists.{among-contains, contains-more, in-flat, in-map}
use Rattle.checker_calls.specs.Environments.{Fine, CallLeaves, LeavesPassed, Proper}
use Rattle.checker_calls.specs.Exit.{claimed_of_row, exit_range, result_range}
use Rattle.checker_calls.proofs.AliasedTypes.{in-types}
use Rattle.checker_calls.proofs.Assigned.{all_assigned, assigns-all}
use Rattle.checker_calls.proofs.Callee.{IsCalled, callee-proper}
use Rattle.checker_calls.proofs.Claimed.{AllHold}
use Rattle.checker_calls.proofs.Given.{given-claims}
use Rattle.checker_calls.proofs.Entered.{begun-behind, roots-are, typed-behind}
use Rattle.checker_calls.proofs.Headings.{heading-at, same-numbers, well-heading}
use Rattle.checker_calls.proofs.Numbers.{hold-numbers}
use Rattle.checker_calls.proofs.Started.{called-start}
use Rattle.cert_checker.proofs.Controls.{ordinal-of}
use Rattle.checker_expressions.specs.declared.fault.Rule.TheVariants.{Exit}
use Rattle.checker_expressions.specs.Walk.{Context, Walked, followed}
use Rattle.checker_expressions.proofs.Sound.{Called, Good, SoundGoes, Here, IsPartOf, LiesInResult, Returned, SoundCalls, World, activation_of, errs-here}
use Rattle.checker_expressions.proofs.Sound.{good-give}
use Rattle.checker_expressions.proofs.Sound.{good-then, good-weaker, kept-rule, nothing-new, open-here, part-left, part-right, parts_in, proper-grown, sites_in}
use Rattle.checker_expressions.proofs.Sound.{unbroken-left, unbroken-right, variables_in}
use Rattle.checker_expressions.proofs.SoundCalls.{CallLaws}
use Rattle.cert_checker.specs.Walk.{begin, block_walk, blocks_walk, facts_given, first_context, program_walk, result_use, statement_walk}
use Rattle.cert_checker.proofs.EffectsParameters.{begun-body, held-body, well-body}
use Rattle.cert_checker.proofs.EffectsRoutines.{calls-leave}
use Rattle.cert_checker.proofs.PassedLeft.{passed-left}
use Rattle.checker_expressions.proofs.EffectsCalls.{CallsLeave}
use Rattle.typed_tree.specs.Threats.{controls_but}
use Rattle.cert_checker.proofs.HiddenControls.{IsKnownPair, hidden-controls}
use Rattle.cert_checker.proofs.SparedCalls.{SpareControls, spared-calls}
use Rattle.cert_checker.proofs.SoundForms.{statement-sound}
use Rattle.cert_checker.proofs.Written.{Foretold}

-- ---- the walk over each block

-- a block is walked where no rule is broken, as part of a world
pub record IsWalked (world : World) (context : Context) (number : ℕ) (block : Block) : Type 0 where
  pub state : State
  pub unbroken : (block_walk number block context state).broken ≡ []
  pub part : IsPartOf world (block_walk number block context state)

pub blocks-walked : (world : World) (context : Context) (start : ℕ) (blocks : List Block) (state : State)
    → (blocks_walk start blocks context state).broken ≡ [] → IsPartOf world (blocks_walk start blocks context state)
    → (number : ℕ) (block : Block) → slice_get blocks number ≡ Some block → IsWalked world context (start + number) block
blocks-walked world context start [] state unbroken part number block is = absurd (none-some block is)
blocks-walked world context start (first ∷ blocks) state unbroken part zero block is =
    let one : Walked (Unit {0}) = block_walk start first context state in
    let rest : Walked (Unit {0}) = blocks_walk (suc start) blocks context one.after in
    let same : first ≡ block = cc in
    let here : start ≡ start + 0 = omega arith in
    subst (λ (n : ℕ). IsWalked world context n block) here
    (subst (λ (b : Block). IsWalked world context start b) same
    (record { state = state; unbroken = unbroken-left one.broken rest.broken unbroken; part = part-left world one rest part }))
blocks-walked world context start (first ∷ blocks) state unbroken part (suc number) block is =
    let one : Walked (Unit {0}) = block_walk start first context state in
    let rest : Walked (Unit {0}) = blocks_walk (suc start) blocks context one.after in
    let next : suc start + number ≡ start + suc number = omega arith in
    subst (λ (n : ℕ). IsWalked world context n block) next
    (blocks-walked world context (suc start) blocks one.after (unbroken-right one.broken rest.broken unbroken) (part-right world one rest part) number block is)

-- ---- where a result lies

-- what is held of a variable by its number is defined
number-defined : (table : Table) (state : State) (root : ℕ) → has_number table state root ≡ true → is_defined state root ≡ true
number-defined table Dead root is = refl
number-defined table (Live known) root is =
    (and_parts (table.ordinal root) (row_at known root).is_defined
    (and_parts (nat_lt root table.variables) (table.ordinal root && (row_at known root).is_defined) is).1).1

module _ (tree : Tree) (env : Environment) (store : Store) (claims : List Fact) (hold : AllHold tree claims env store) (row : ℕ) (steps : List Step)
    (v : Value) (of_row : IsOfRow (all_parts tree) row steps) (value : component_at (all_parts tree) (moment env store) row steps ≡ Some v) where
  claimed-in : (test : Bool) (known range : Interval) → IsIn known v → (test ≡ true → IsIn range v) → IsIn (cond test (common known range) known) v
  claimed-in true known range inside own = common-in known range v inside (own refl)
  claimed-in false known range inside own = inside

  claim-in : (one : Fact) → Contains claims one → (known : Interval) → IsIn known v → IsIn (claimed_of_row tree row one known) v
  claim-in (Range path range) listed known inside =
      let named = rows_named tree path in
      claimed-in (is_among row named) known range inside
      (λ among.
      All-contains (λ (c : Claim). Holds (all_parts tree) c (moment env store)) (all_said tree claims) (claim.Range row range) hold
      (in-flat (said tree) claims (Range path range) (claim.Range row range) listed
      (in-map (λ r. claim.Range r range) named row (among-contains named row among))) steps v of_row value)
  claim-in (Defined path spans) listed known inside = inside
  claim-in (Order one other number) listed known inside = inside
  claim-in (Grows one growth) listed known inside = inside

  -- a value lies where claims that hold say
  pub exit-in : (facts : List Fact) → ((one : Fact) → Contains facts one → Contains claims one) → (known : Interval) → IsIn known v
      → IsIn (exit_range tree row facts known) v
  exit-in [] there known inside = inside
  exit-in (one ∷ facts) there known inside =
      exit-in facts (λ other later. there other (contains-more one facts other later)) (claimed_of_row tree row one known)
      (claim-in one (there one (0, omega arith, refl)) known inside)

-- ---- replies

-- from an earlier state, where the visits are the same
pub good-since : {A : Type 0} (world : World) (P : A → Store → Type 0) (s t : effect.State) (reply : Reply A) → t.visited ≡ s.visited
    → s.activations ≤ t.activations → Good world P t reply → Good world P s reply
good-since world P s t (effect.Gives a u) same grown good = record {
  errs = tt;
  new = λ visit inside. ⊎_elim (λ old. inl (subst (λ (visits : List Visit). Contains visits visit) same old)) (λ meets. inr meets) (good.new visit inside);
  gives = record { so = good.gives.so; fine = good.gives.fine; grown = let later = good.gives.grown in omega (arith, grown, later) };
}
good-since world P s t (effect.Stops e u) same grown good = record {
  errs = good.errs;
  new = λ visit inside. ⊎_elim (λ old. inl (subst (λ (visits : List Visit). Contains visits visit) same old)) (λ meets. inr meets) (good.new visit inside);
  gives = tt;
}

-- what value parameters get
ready-store : (tree : Tree) (visible : Environment) (roots : List ℕ) (arguments : List Argument) (begun ready : effect.State)
    → assign_all tree visible roots arguments begun ≡ effect.Gives tt ready → ready.store ≡ all_assigned tree visible roots arguments begun.store
ready-store tree visible roots arguments begun ready gives =
    sym (ap (λ (reply : Reply (Unit {0})). (state_after reply).store) (sym (assigns-all tree visible roots arguments begun) ∙ gives))

-- the result is fetched, and the store is as it was
result-leaves : (found : Option FunctionResult) (visible : Environment) (s t : effect.State) (v : Value) → result_of found visible s ≡ effect.Gives v t
    → t.store ≡ s.store
result-leaves None visible s t v is = let same : s ≡ t = cc in ap (λ (u : effect.State). u.store) (sym same)
result-leaves (Some result) visible s t v is = by (held s.store (visible.variables result.root)) is
  where
    by : (found : Option Value) → effect.fetched found result.defined s ≡ effect.Gives v t → t.store ≡ s.store
    by None gives = absurd (cc)
    by (Some w) gives = let same : s ≡ t = cc in ap (λ (u : effect.State). u.store) (sym same)

-- ---- a program

abbrev pub program_world : Tree → Certificate → World
program_world tree certificate = record {
  tree = tree;
  ids = (program_walk tree certificate).open_ids;
  linked = (program_walk tree certificate).linked;
  pairs = all_pairs certificate;
  blocks = all_block_claims tree certificate;
}

module _ (tree : Tree) (certificate : Certificate) (unbroken : (program_walk tree certificate).broken ≡ []) (well : IsWellFormed tree)
    (laws : CallLaws (program_world tree certificate))
    (pairs_known : (first second : ℕ) → Contains (all_pairs certificate) (first, second) → IsKnownPair tree first second) where
  abbrev world : World
  world = program_world tree certificate

  abbrev claims_on : ℕ → BlockClaims
  claims_on number = block_claims_at world.blocks number

  abbrev first : Context
  first = first_context tree certificate

  -- the context of a block
  abbrev within : ℕ → Context
  within number = record first { block = number }

  goes : (number : ℕ) → SoundGoes world (within number)
  goes number = record {
    tree_is = refl;
    pairs_are = refl;
    blocks_are = refl;
    closed = λ round inside. absurd (omega (arith, inside.1));
  }

  walked : (number : ℕ) (block : Block) → slice_get tree.blocks.items number ≡ Some block → IsWalked world first number block
  walked number block is =
      subst (λ (n : ℕ). IsWalked world first n block) (zero-add number)
      (blocks-walked world first 0 tree.blocks.items Dead unbroken (record { ids = λ id inside. inside; linked = λ one inside. inside }) number block is)

  block-loops : (number : ℕ) (block : Block) → slice_get tree.blocks.items number ≡ Some block → AreLoops tree.loops.items number (loops_of_block block)
  block-loops number block is =
      subst (λ (n : ℕ). AreLoops tree.loops.items n (loops_of_block block)) (zero-add number)
      (are_loops_at tree.loops.items 0 tree.blocks.items well.loops number block is)

  -- ---- an activation

  module _ (calls : Calls) (sound : SoundCalls world calls) (number : ℕ) (block : Block) (block_is : slice_get tree.blocks.items number ≡ Some block)
      (visible : Environment) where
    abbrev claims : BlockClaims
    claims = claims_on number

    abbrev begun : State
    begun = block_start certificate.version tree number claims.entry

    abbrev entered : Walked (Unit {0})
    entered = begin number claims.entry (within number) (walked number block block_is).state

    abbrev body : Walked (Unit {0})
    body = statement_walk block.body (within number) begun

    abbrev used : Walked (Unit {0})
    used = result_use block.heading.result (within number) body.after

    abbrev given : Walked (Unit {0})
    given = facts_given Exit block.end claims.exit (within number) used.after

    body-unbroken : body.broken ≡ []
    body-unbroken = unbroken-left body.broken (used.broken ++ given.broken) (walked number block block_is).unbroken

    body-part : IsPartOf world body
    body-part = part-left world body (followed used given) (part-right world entered (followed body (followed used given)) (walked number block block_is).part)

    used-part : IsPartOf world used
    used-part =
        part-left world used given
        (part-right world body (followed used given)
        (part-right world entered (followed body (followed used given)) (walked number block block_is).part))

    exit-given : gives_claims tree used.after claims.exit ≡ true
    exit-given =
        kept-rule (gives_claims tree used.after claims.exit) Exit block.end
        (unbroken-right used.broken given.broken (unbroken-right body.broken (used.broken ++ given.broken) (walked number block block_is).unbroken))

    -- the statement of a block, from where an activation of it begins
    pub body-good : visible.turns ≡ [] → SpareControls tree calls → (ready : effect.State) → Fine tree ready
        → Proper tree world.pairs number ready.activations visible
        → Knows (parts_in world) (variables_in world) visible begun ready.store
        → Good world (Foretold world visible (within number) body ready.store) ready
        (effect_of block.body (record { visible = visible; records = []; calls = calls }) ready)
    body-good no_turns spared ready fine proper known =
        statement-sound world number block block_is calls laws sound spared
        (hidden-controls tree well world.pairs pairs_known number) visible block.body (well-body tree well number block block_is)
        (held-body tree well number block block_is) (begun-body tree well number block block_is)
        (record {
          roots = controls_but number 0 tree.blocks.items;
          spared = well.unthreatened number block block_is;
          loops = block-loops number block block_is;
          controls = λ root among. among;
        }) (within number) begun ready (record { control = λ root among. refl; deep = ap length no_turns }) body-unbroken body-part
        (record {
          block_is = refl;
          fine = fine;
          proper = proper;
          stands = record { goes = goes number; known = known };
        })

    -- ---- its result

    -- what holds at its end
    abbrev Ends : Value → Store → Type 0
    Ends v store = LiesInResult world number block.heading.result v × AllHold tree claims.exit visible store

    exit-holds : (store : Store) → HoldNumbers (is_ordinal_variable tree) (moment visible store)
        → Knows (parts_in world) (variables_in world) visible used.after store → AllHold tree claims.exit visible store
    exit-holds store numbers known = given-claims tree visible used.after store numbers known claims.exit exit-given

    module _ (t : effect.State) (here : Here world number visible (within number) body.after t) where
      -- its ordinal variables have numbers there
      numbers : HoldNumbers (is_ordinal_variable tree) (moment visible t.store)
      numbers = hold-numbers tree world.pairs number t.activations visible t.store here.proper here.fine.typed

      module _ (result : FunctionResult) (result_is : block.heading.result ≡ Some result) (below : result.defined < sites_in world)
          (ordinal : is_ordinal_variable tree result.root ≡ true) (home : Place) (at_home : visible.variables result.root ≡ Some home) where
        abbrev own_use : Walked (Unit {0})
        own_use = result_use (Some result) (within number) body.after

        use-is : used ≡ own_use
        use-is = ap (λ (found : Option FunctionResult). result_use found (within number) body.after) result_is

        abbrev Found : Value → Store → Type 0
        Found v store = IsKnown (Ordinal (result_range tree claims result.root)) v × AllHold tree claims.exit visible store

        number-good : (n : ℤ) → stored t.store home ≡ Some (Number n) → Good world Found t (effect.fetched (Some (Number n)) result.defined t)
        number-good n is =
            let many = variables_in world in
            let v : Value = Number n in
            let known = here.stands.known in
            let range = range_of body.after result.root in
            let inside = read-in (parts_in world) (table_of tree) (are-rows tree) visible body.after t.store known result.root home at_home v is in
            let after : Knows (parts_in world) many visible own_use.after t.store =
            nonempty-known (parts_in world) (table_of tree) (are-rows tree) visible body.after t.store known range n inside in
            let exits = exit-holds t.store numbers
            (subst (λ (w : Walked (Unit {0})). Knows (parts_in world) many visible w.after t.store) (sym use-is) after) in
            let m = moment visible t.store in
            let bound = visible-within many visible known.shows result.root home at_home in
            let value : component_at (parts_in world) m result.root [] ≡ Some v =
            ap (λ (r : ℕ). value_at m r []) (root-own (parts_in world) (table_of tree) (are-rows tree) m result.root bound)
            ∙ entire-value visible t.store result.root home at_home ∙ is in
            let of_row = of_own (parts_in world) (table_of tree) (are-rows tree) m result.root bound in
            let typed = (in-types tree world.pairs number t.activations visible t.store here.proper here.fine.typed).components result.root [] v of_row value in
            good-give world Found v t here.fine (
              exit-in tree visible t.store claims.exit exits result.root [] v of_row value claims.exit (λ one listed. listed)
                  (row_limits (rows_of tree) result.root) typed,
              exits,
            )

        fetched-good : (found : Option Value) → stored t.store home ≡ found → Good world Found t (effect.fetched found result.defined t)
        fetched-good None is =
            let closed = has_number (table_of tree) body.after result.root in
            let unclosed : closed ≡ true → ⊥ = λ so.
            let at = defined-stored (parts_in world) (table_of tree) (are-rows tree) visible body.after t.store here.stands.known result.root home at_home
            (number-defined (table_of tree) body.after result.root so) in
            none-some at.0 (sym is ∙ at.1) in
            let part : IsPartOf world own_use = subst (IsPartOf world) use-is used-part in
            record {
              errs = errs-here world result.defined (part.ids result.defined (open-here result.defined closed unclosed)) below;
              new = nothing-new world t.visited;
              gives = tt;
            }
        fetched-good (Some v) is =
            let own = numbers result.root v ordinal (entire-value visible t.store result.root home at_home ∙ is) in
            subst (λ (w : Value). Good world Found t (effect.fetched (Some w) result.defined t)) (sym own.1)
            (number-good own.0 (is ∙ ap (λ (w : Value). Some w) own.1))

      -- the result of a function is visible in its block
      result-well : (result : FunctionResult) → block.heading.result ≡ Some result
          → (result.defined < sites_in world) × (is_visible (outline_of tree) number result.root ≡ true) × (is_ordinal_variable tree result.root ≡ true)
      result-well result result_is =
          let outline = outline_of tree in
          let h = block.heading in
          let one = and_parts (is_placed outline number h)
          (are_all outline number is_parameter_kind h.parameters.items
          && (are_all outline number is_result_kind (result_roots h.result) && is_result_or_none outline h.result))
          (well-heading tree well number block block_is) in
          let two = and_parts (are_all outline number is_parameter_kind h.parameters.items) _ one.1 in
          let three = and_parts (are_all outline number is_result_kind (result_roots h.result)) (is_result_or_none outline h.result) two.1 in
          let own : is_result outline result ≡ true = subst (λ (found : Option FunctionResult). is_result_or_none outline found ≡ true) result_is three.1 in
          let all : are_all outline number is_result_kind (result.root ∷ []) ≡ true =
          subst (λ (found : Option FunctionResult). are_all outline number is_result_kind (result_roots found) ≡ true) result_is three.0 in
          let test = λ (v : Variable). nat_eq v.block number && is_result_kind v.kind in
          let roots = same-numbers (result.root ∷ []) (roots_where test 0 tree.variables.items) all in
          let found = roots-are test 0 tree.variables.items result.root
          (subst (λ (list : List ℕ). Contains list result.root) roots (0, omega arith, refl)) in
          let at : found.0 ≡ result.root = let root_is = found.2 in omega (arith, root_is) in
          let there : slice_get tree.variables.items result.root ≡ Some found.1 = ap (slice_get tree.variables.items) (sym at) ∙ found.3 in
          let ordinal = is_type (is_ordinal tree.types) (accessed tree.variables.items tree.types (AtVariable result.root) []) in
          let of_block = (and_parts (nat_eq found.1.block number) (is_result_kind found.1.kind) found.4).0 in (
            ltb-true result.defined (sites_in world) (and_parts (nat_lt result.defined (sites_in world)) ordinal own).0,
            ap (of_one (λ (v : Variable). is_round outline number v.block)) there
                ∙ ap (of_one (encloses found.1.block number)) (heading-at tree number block block_is)
                ∙ ap (λ (b : Bool). b || is_one_of h.around.items found.1.block) of_block,
            ordinal-of tree.types (slice_get tree.variables.items result.root) (and_parts (nat_lt result.defined (sites_in world)) ordinal own).1,
          )

      result-by : (found : Option FunctionResult) → block.heading.result ≡ found
          → Good world (λ v store. LiesInResult world number found v × AllHold tree claims.exit visible store) t (result_of found visible t)
      result-by None is =
          let same : used.after ≡ body.after =
          ap (λ (found : Option FunctionResult). (result_use found (within number) body.after).after) is in
          good-give world (λ v store. LiesInResult world number None v × AllHold tree claims.exit visible store) (Number (pos 0)) t here.fine (
            tt,
            exit-holds t.store numbers (subst (λ (state : State). Knows (parts_in world) (variables_in world) visible state t.store) (sym same)
                here.stands.known),
          )
      result-by (Some result) is =
          let own = result-well result is in
          let at = here.proper.visible result.root own.1 in
          subst (λ (place : Option Place). Good world (Found result is own.0 own.2 at.0 at.1) t (effect.fetch place result.defined t)) (sym at.1)
          (fetched-good result is own.0 own.2 at.0 at.1 (stored t.store at.0) refl)

      pub result-good : Good world Ends t (result_of block.heading.result visible t)
      result-good = result-by block.heading.result refl

  -- ---- calls

  module _ (calls : Calls) (sound : SoundCalls world calls) (number : ℕ) (block : Block) (arguments : List Argument) (caller : Environment)
      (s : effect.State) (called : Called world number block arguments caller s) (fine : Fine tree s)
      (leave : CallsLeave tree world.blocks calls) (spared : SpareControls tree calls) where
    abbrev callee : Environment
    callee = environment_of tree (activation_of number block arguments caller s)

    abbrev roots : List ℕ
    roots = block.heading.parameters.items

    -- what its value parameters get
    abbrev received : Store
    received = all_assigned tree callee roots arguments s.store

    -- what holds at its end
    abbrev AtEnd : Value → Store → Type 0
    AtEnd v store =
        Ends calls sound number block called.block_is callee v store
        × LeavesPassed tree s.activations number (claims_on number).changes received store

    is_called : IsCalled tree world.pairs number block arguments caller s.activations called.from
    is_called = record { well = well; block_is = called.block_is; proper = called.proper; callable = called.callable; fit = called.fit }

    -- it begins, with so many turns left, and its value parameters get what is passed
    abbrev begun_with : ℕ → effect.State
    begun_with left = record s { turns = left; activations = suc s.activations; living = number ∷ s.living }

    abbrev ready_with : ℕ → effect.State
    ready_with left = record (begun_with left) { store = all_assigned tree callee roots arguments s.store }

    ready-fine : (left : ℕ) → Fine tree (ready_with left)
    ready-fine left = record {
      typed = typed-behind tree world.pairs number block arguments caller s.activations called.from is_called s.store fine.typed;
      begun = begun-behind tree world.pairs number block arguments caller s.activations called.from is_called s.store fine.begun;
    }

    proper-here : Proper tree world.pairs number (suc s.activations) callee
    proper-here = callee-proper tree world.pairs number block arguments caller s.activations called.from is_called called.separate

    known-here : (left : ℕ)
        → Knows (parts_in world) (variables_in world) callee (block_start certificate.version tree number (claims_on number).entry) (ready_with left).store
    known-here left =
        called-start tree world.pairs number block arguments caller s.activations called.from is_called s.store fine.typed fine.begun proper-here
        certificate.version (claims_on number).entry
        (called.entry (begun_with left) (ready_with left) refl (assigns-all tree callee roots arguments (begun_with left)))

    abbrev execution : effect.Action Value
    execution =
        effect.◌>>=◌ (effect_of block.body (record { visible = callee; records = []; calls = calls })) (λ done. result_of block.heading.result callee)

    execution-good : (left : ℕ) → Good world AtEnd (ready_with left) (execution (ready_with left))
    execution-good left =
        let ready = ready_with left in
        let walked_body = body calls sound number block called.block_is callee in
        good-then world (Foretold world callee (within number) walked_body ready.store) AtEnd ready
        (effect_of block.body (record { visible = callee; records = []; calls = calls }) ready) (λ done. result_of block.heading.result callee)
        (body-good calls sound number block called.block_is callee refl spared ready (ready-fine left) proper-here (known-here left))
        (λ done t is told.
        let passed = passed-left tree well certificate unbroken world.pairs calls leave number block arguments caller s called.from is_called ready t done
        refl is in
        good-weaker world (Ends calls sound number block called.block_is callee) AtEnd t (result_of block.heading.result callee t)
        (λ v u gives ends.
        let same = result-leaves block.heading.result callee t u v gives in
        (ends.so, subst (λ (store : Store). LeavesPassed tree s.activations number (claims_on number).changes received store) (sym same) passed))
        (result-good calls sound number block called.block_is callee t
        (record {
          block_is = refl;
          fine = told.fine;
          proper = proper-grown world number ready.activations t.activations callee told.grown proper-here;
          stands = told.so.stands;
        })))

    executed-good : (left : ℕ)
        → Good world AtEnd (begun_with left) (executed tree calls block (activation_of number block arguments caller s) (begun_with left))
    executed-good left =
        let begun = begun_with left in
        subst (λ (reply : Reply (Unit {0})). Good world AtEnd begun (effect.and_then reply (λ done. execution)))
        (sym (assigns-all tree callee roots arguments begun))
        (good-since world AtEnd begun (ready_with left) (execution (ready_with left)) refl (omega arith) (execution-good left))

    abbrev from_begin : ℕ → effect.Action Value
    from_begin activation =
        effect.◌>>=◌
        (executed tree calls block
        (record { number = activation; block = number; heading = block.heading; arguments = arguments; caller = caller }))
        (λ v. effect.◌>>=◌ (effect.end_with s.living) (λ done. effect.give v))

    begun-good : (turns : ℕ) → Good world AtEnd s (effect.and_then (effect.begin_with turns number s) from_begin)
    begun-good zero = record { errs = λ id is. absurd (cc); new = nothing-new world s.visited; gives = tt }
    begun-good (suc left) =
        let begun = begun_with left in
        good-since world AtEnd s begun (from_begin s.activations begun) refl (omega arith)
        (good-then world AtEnd AtEnd begun (executed tree calls block (activation_of number block arguments caller s) begun)
        (λ v. effect.◌>>=◌ (effect.end_with s.living) (λ done. effect.give v)) (executed-good left)
        (λ v t is behind. record {
          errs = tt;
          new = nothing-new world t.visited;
          gives = record {
            so = behind.so;
            fine = record { typed = behind.fine.typed; begun = behind.fine.begun };
            grown = omega arith;
          };
        }))

    pub activated-good : Good world AtEnd s (activated tree calls number (Some block) arguments caller s)
    activated-good = begun-good s.turns

  -- by the depth of activations in one another
  pub sound-calls : (depth : ℕ) → SoundCalls world (calls_of tree depth)
  sound-calls zero number block arguments caller s called fine = record {
    errs = λ id is. absurd (cc);
    new = nothing-new world s.visited;
    gives = tt;
  }
  sound-calls (suc depth) number block arguments caller s called fine =
      let calls = calls_of tree depth in
      let sound = sound-calls depth in
      let leave = calls-leave tree well certificate unbroken depth in
      let spared = spared-calls tree well depth in
      let visible = environment_of tree (activation_of number block arguments caller s) in
      let received = all_assigned tree visible block.heading.parameters.items arguments s.store in
      let P = AtEnd calls sound number block arguments caller s called fine leave spared in
      let left = (calls-leave tree well certificate unbroken (suc depth)).known number block arguments caller s called.block_is in
      good-weaker world P (Returned world number block arguments caller s) s (calls_of tree (suc depth) number arguments caller s)
      (λ v t is behind. record {
        leaves = subst (λ (u : effect.State). CallLeaves s.activations (claims_on number).changes
            (environment_of tree (activation_of number block arguments caller s)) s.store u.store) (ap state_after is)
            (record { values = left.leaves.values; defined = left.leaves.defined });
        passed = λ begun ready same gives.
            let ready_is : ready.store ≡ received =
            ready-store tree visible block.heading.parameters.items arguments begun ready gives
            ∙ ap (all_assigned tree visible block.heading.parameters.items arguments) same in
            subst (λ (store : Store). LeavesPassed tree s.activations number (claims_on number).changes store t.store) (sym ready_is) behind.so.1;
        result = behind.so.0.0;
        exit = behind.so.0.1;
      })
      (subst (λ (found : Option Block). Good world P s (activated tree calls number found arguments caller s)) (sym called.block_is)
      (activated-good calls sound number block arguments caller s called fine leave spared))
