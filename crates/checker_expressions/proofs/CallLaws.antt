-- The laws of calls, by which the walk over expressions and statements goes: a call that breaks no rule may be made, and what is known behind it holds.
use Rattle.std.proofs.Common.{◌≡◌, ⊎_elim, ◌∙◌, sym, refl, subst, ℕ, List, [], ◌∷◌, Some, None}
use Rattle.std.specs.List.{Contains}
use Rattle.std.proofs.lemmas.Bool.{both_ways}
use Rattle.typed_tree.specs.WellFormed.{IsWellFormed}
use Rattle.typed_tree.specs.declared.tree.Block.{Block}
use Rattle.typed_tree.specs.declared.tree.Tree.{Tree}
use Rattle.typed_tree.specs.declared.tree.Variable.{Variable}
use Rattle.types.specs.declared.form.Step.{Step}
use Rattle.domain.specs.Facts.{Fact}
use Rattle.meaning.specs.declared.value.Value.{Value}
use Rattle.meaning.specs.Effect as effect
use Rattle.meaning.specs.Meaning as meaning
use Rattle.meaning.specs.Meaning.{Argument, assign_all, environment_of}
use Rattle.meaning.specs.Store.{Environment, Store}
use Rattle.checker_state.specs.Holds.{HasValue, value_at}
use Rattle.checker_state.specs.Holds.{moment}
use Rattle.checker_state.specs.Loops.{is_among}
use Rattle.checker_state.specs.Knows.{Knows}
use Rattle.checker_state.specs.State.{State}
use Rattle.checker_loops.specs.Pairs.{aliases_of}
use Rattle.checker_loops.specs.Sections.{block_claims_at}
use Rattle.checker_calls.specs.Actuals.{Actual, OfRows, OfValue, OfVariable, bound_to}
use Rattle.checker_calls.specs.Environments.{Fine, Proper, Typed}
use Rattle.checker_calls.specs.Exit.{behind_call}
use Rattle.checker_calls.proofs.AliasedTypes.{seen}
use Rattle.checker_calls.proofs.Assigned.{all_assigned, assigns-all}
use Rattle.checker_calls.proofs.BehindExits.{MayEnd, behind-known}
use Rattle.checker_calls.proofs.CallChanges.{HasLeft, IsNear, defined-kept, value-same_or_near}
use Rattle.checker_calls.proofs.Callee.{IsCalled}
use Rattle.checker_calls.proofs.Claimed.{AllHold}
use Rattle.checker_calls.proofs.Entered.{behind_assignments}
use Rattle.checker_calls.proofs.Fitting.{place-fits}
use Rattle.checker_calls.proofs.Given.{AreOutward, given-hold}
use Rattle.checker_calls.proofs.Parameters.{IsOutward}
use Rattle.checker_calls.proofs.Passed.{AllFit, AreArguments, Fits, IsArgument}
use Rattle.checker_calls.proofs.Places.{pair-listed}
use Rattle.checker_calls.proofs.Separated.{callee-separate, callee-stands}
use Rattle.checker_expressions.proofs.Sound.{Called, Returned, World, activation_of, listed_in, parts_in, variables_in}
use Rattle.checker_expressions.proofs.SoundCalls.{ArePassed, CallLaws, IsApartFrom, IsOfKind, MayCall, changed_by_call}

gives-same : (a b : Unit {0}) (t u : effect.State) → effect.Gives a t ≡ effect.Gives b u → t ≡ u
gives-same a b t u is = cc

-- the claims on each block name what they may: its changes and the facts at its begin what its caller may know, those at its end its own result too
pub record AreClaims (world : World) : Type 0 where
  pub changes : (number root : ℕ) → Contains (block_claims_at world.blocks number).changes root → IsOutward world.tree number root
  pub entry : (number : ℕ) (one : Fact) → Contains (block_claims_at world.blocks number).entry one → AreOutward world.tree number one
  pub exit : (number : ℕ) (one : Fact) → Contains (block_claims_at world.blocks number).exit one
      → MayEnd world.tree number (block_claims_at world.blocks number).changes one

module _ (world : World) (well : IsWellFormed world.tree) (are_claims : AreClaims world) where
  abbrev tree : Tree
  tree = world.tree

  -- ---- what is passed

  arguments-are : (visible : Environment) (store : Store) (roots : List ℕ) (actuals : List Actual) (arguments : List Argument)
      → ArePassed world visible roots actuals arguments store → AreArguments tree visible store roots actuals arguments
  arguments-are visible store [] [] [] are = tt
  arguments-are visible store [] [] (argument ∷ arguments) are = absurd are
  arguments-are visible store [] (actual ∷ actuals) arguments are = absurd are
  arguments-are visible store (root ∷ roots) [] arguments are = absurd are
  arguments-are visible store (root ∷ roots) (actual ∷ actuals) [] are = absurd are
  arguments-are visible store (root ∷ roots) (actual ∷ actuals) (argument ∷ arguments) (formal, is, passed, others) =
      (formal, is, passed.known, arguments-are visible store roots actuals arguments others)

  module _ (block activations : ℕ) (visible : Environment) (proper : Proper tree world.pairs block activations visible) (store : Store) where
    one-fits : (formal : Variable) (actual : Actual) (argument : Argument) → IsArgument tree visible store formal actual argument
        → IsOfKind world formal argument → Fits tree activations argument formal
    one-fits formal actual (meaning.OfValue v) known kind = kind
    one-fits formal actual (meaning.OfRow values) known kind = kind
    one-fits formal actual (meaning.OfPlace None) known kind = absurd kind
    one-fits formal (OfVariable origin selectors reach) (meaning.OfPlace (Some place)) known kind =
        let fits = place-fits tree world.pairs block activations visible proper origin selectors formal.type_id store reach place known.0 known.1 in
        (kind, fits.0, fits.1)
    one-fits formal (OfValue range form) (meaning.OfPlace (Some place)) known kind = absurd known
    one-fits formal (OfRows ranges) (meaning.OfPlace (Some place)) known kind = absurd known

    all-fit : (roots : List ℕ) (actuals : List Actual) (arguments : List Argument) → ArePassed world visible roots actuals arguments store
        → AllFit tree activations roots arguments
    all-fit [] [] [] are = tt
    all-fit [] [] (argument ∷ arguments) are = absurd are
    all-fit [] (actual ∷ actuals) arguments are = absurd are
    all-fit (root ∷ roots) [] arguments are = absurd are
    all-fit (root ∷ roots) (actual ∷ actuals) [] are = absurd are
    all-fit (root ∷ roots) (actual ∷ actuals) (argument ∷ arguments) (formal, is, passed, others) =
        (formal, is, one-fits formal actual argument passed.known passed.kind, all-fit roots actuals arguments others)

  -- ---- a call that may be made

  module _ (block number : ℕ) (callee : Block) (visible : Environment) (state : State) (actuals : List Actual) (arguments : List Argument) (s : effect.State)
      (may : MayCall world block number callee visible state actuals arguments s) where
    abbrev roots : List ℕ
    roots = callee.heading.parameters.items

    abbrev inner : Environment
    inner = environment_of tree (activation_of number callee arguments visible s)

    are-arguments : AreArguments tree visible s.store roots actuals arguments
    are-arguments = arguments-are visible s.store roots actuals arguments may.passed

    is-called : IsCalled tree world.pairs number callee arguments visible s.activations block
    is-called = record {
      well = well;
      block_is = may.callee_is;
      proper = may.proper;
      callable = may.callable;
      fit = all-fit block s.activations visible may.proper s.store roots actuals arguments may.passed;
    }

    -- the store where the callee's statement begins
    abbrev ready_store : Store → Store
    ready_store store = behind_assignments tree world.pairs number callee arguments visible s.activations block is-called store

    call-entry : (begun ready : effect.State) → begun.store ≡ s.store → assign_all tree inner roots arguments begun ≡ effect.Gives tt ready
        → AllHold tree (block_claims_at world.blocks number).entry inner ready.store
    call-entry begun ready same is =
        let given = given-hold tree world.pairs number callee arguments visible s.activations block is-called s.store may.fine.typed may.fine.begun actuals
        are-arguments state may.known (block_claims_at world.blocks number).entry (are_claims.entry number) may.given in
        let ready_is : record begun { store = all_assigned tree inner roots arguments begun.store } ≡ ready =
        gives-same tt tt (record begun { store = all_assigned tree inner roots arguments begun.store }) ready
        (sym (assigns-all tree inner roots arguments begun) ∙ is) in
        subst (λ (t : effect.State). AllHold tree (block_claims_at world.blocks number).entry inner t.store) ready_is
        (subst (λ (store : Store). AllHold tree (block_claims_at world.blocks number).entry inner (all_assigned tree inner roots arguments store))
        (sym same) given)

    pub may-called : Called world number callee arguments visible s
    may-called = record {
      block_is = may.callee_is;
      from = block;
      proper = may.proper;
      callable = may.callable;
      fit = is-called.fit;
      separate = callee-separate tree world.pairs number callee arguments visible s.activations block is-called s.store actuals are-arguments may.separate;
      entry = call-entry;
    }

    -- ---- behind it

    module _ (v : Value) (after : Store) (back : Returned world number callee arguments visible s v after) where
      has-left : HasLeft tree world.pairs number callee arguments visible s.activations block s.store actuals (block_claims_at world.blocks number) after
      has-left = record {
        call = is-called;
        begun = may.fine.begun;
        are = are-arguments;
        proper = callee-stands tree world.pairs number callee arguments visible s.activations block is-called s.store actuals are-arguments may.separate;
        leaves = back.leaves;
        outward = are_claims.changes number;
      }

      -- what is defined stays so
      pub defined-behind : (root : ℕ) (steps : List Step) → HasValue (moment visible s.store) root steps → HasValue (moment visible after) root steps
      defined-behind root steps has =
          defined-kept tree world.pairs number callee arguments visible s.activations block s.store actuals (block_claims_at world.blocks number) after has-left
          root steps has

      -- what is neither changed nor an alias of that is as it was
      pub kept-behind : (root : ℕ) → IsApartFrom world block (changed_by_call world number callee actuals) root → (steps : List Step)
          → value_at (moment visible after) root steps ≡ value_at (moment visible s.store) root steps
      kept-behind root apart steps =
          ⊎_elim (λ same. same)
          (λ (near : IsNear tree world.pairs number callee arguments visible s.activations block s.store actuals (block_claims_at world.blocks number) after
          has-left root).
          let there = seen tree world.pairs block s.activations visible may.proper near.other near.place near.place_is in
          let both = apart near.other near.among there in
          absurd
          (⊎_elim (λ same. both.0 same)
          (λ pair. both_ways (is_among root (aliases_of world.pairs near.other)) both.1 (pair-listed world.pairs near.other root pair)) near.near))
          (value-same_or_near tree world.pairs number callee arguments visible s.activations block s.store actuals (block_claims_at world.blocks number) after
          has-left root steps)

      -- what the walk knows holds
      pub state-behind : (t : effect.State) → t.store ≡ after → Fine tree t
          → Knows (parts_in world) (variables_in world) visible
          (behind_call tree (listed_in world) block number (bound_to roots actuals) (block_claims_at world.blocks number) state) after
      state-behind t same fine =
          behind-known tree world.pairs number callee arguments visible s.activations block s.store actuals (block_claims_at world.blocks number) after
          (record { left = has-left; typed = subst (Typed tree) same fine.typed; exit = back.exit })
          (back.passed s (record s { store = all_assigned tree inner roots arguments s.store }) refl (assigns-all tree inner roots arguments s))
          (are_claims.exit number) state may.known

  -- ---- the laws

  pub call-laws : CallLaws world
  call-laws = record {
    required = well.required;
    called = λ block number callee visible state actuals arguments s may. may-called block number callee visible state actuals arguments s may;
    behind = λ block number callee visible state actuals arguments s t v may fine back.
        state-behind block number callee visible state actuals arguments s may v t.store back t refl fine;
    kept = λ block number callee visible state actuals arguments s t v may back root apart steps.
        kept-behind block number callee visible state actuals arguments s may v t.store back root apart steps;
    defined = λ block number callee visible state actuals arguments s t v may back root steps has.
        defined-behind block number callee visible state actuals arguments s may v t.store back root steps has;
  }
