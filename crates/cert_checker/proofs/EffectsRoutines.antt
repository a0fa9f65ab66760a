-- Calls change what their blocks list alone, and what lies in activations that begin in them, where the walk over the program
-- breaks no rule: by the depth of activations in one another.
use Rattle.std.specs.Prelude.{slice_get}
use Rattle.std.proofs.Common.{arith, ◌≡◌, inl, inr, ⊎_elim, ℕ, zero, suc, ◌+◌, ◌<◌, ◌≤◌, zero-add, List, [], ◌∷◌}
use Rattle.std.proofs.Common.{Option, Some, None, length}
use Rattle.std.proofs.Common.{refl, sym, ap, subst}
use Rattle.std.proofs.lemmas.Bool.{cases_lt}
use Rattle.std.proofs.lemmas.List.FromFn.{get_or-map-range_with_len}
use Rattle.std.proofs.lemmas.Option.{slice_get_within}
use Rattle.certificate.specs.declared.Certificate.{Certificate}
use Rattle.certificate.specs.Contents.{contents}
use Rattle.typed_tree.specs.declared.tree.Tree.{Tree}
use Rattle.typed_tree.specs.declared.tree.Block.{Block}
use Rattle.typed_tree.specs.declared.tree.FunctionResult.{FunctionResult}
use Rattle.typed_tree.specs.WellFormed.{IsWellFormed}
use Rattle.meaning.specs.declared.value.Value.{Value}
use Rattle.meaning.specs.declared.value.Value.TheVariants.{Number}
use Rattle.meaning.specs.Store.{Environment}
use Rattle.meaning.specs.Effect.{Action, State, and_then, begin_with, end_with, give}
use Rattle.meaning.specs.Effect as effect
use Rattle.meaning.specs.Meaning.{Argument, Calls, activated, calls_of, environment_of, executed, result_of}
use Rattle.meaning.specs.Laws.{state_after}
use Rattle.checker_state.specs.State.{Dead}
use Rattle.checker_loops.specs.Sections.{BlockClaims, all_block_claims, block_claims_at, block_claims_in, no_block_claims}
use Rattle.checker_calls.specs.Environments.{CallLeaves}
use Rattle.checker_expressions.specs.Walk.{Context, Walking}
use Rattle.checker_expressions.specs.Walk as flow
use Rattle.cert_checker.specs.Promise.{CallsChangeWhatTheyList}
use Rattle.cert_checker.specs.Walk.{begin, block_walk, blocks_walk, facts_given, first_context, program_walk, result_use, statement_walk}
use Rattle.checker_expressions.specs.declared.fault.Rule.TheVariants.{Exit}
use Rattle.checker_expressions.proofs.EffectsKept.{Keeps, Leaving, Standing, keeps-fetch, keeps-give, keeps-then, leaves-itself, leaves-same, leaves-then}
use Rattle.checker_expressions.proofs.EffectsCalls.{CallsLeave, StandsIn, Yields, activation_from, standing_from, yields-then}
use Rattle.cert_checker.proofs.EffectsParameters.{activation-grounds, begun-body, declare-theirs, keeps-passing, well-body}
use Rattle.cert_checker.proofs.EffectsStatements.{statement-kept}

-- ---- the walk over a program

-- the statement of a block is walked in a context of the block
pub record BodyYields (tree : Tree) (blocks : List BlockClaims) (number : ℕ) (block : Block) : Type 0 where
  pub inner : Context
  pub stands : StandsIn tree blocks number inner
  pub yields : Yields inner (statement_walk block.body) tt

body-yields : (context : Context) (number : ℕ) (block : Block) → Yields context (block_walk number block) tt
    → BodyYields context.tree context.blocks number block
body-yields context number block yields =
    let inner = record context { block = number } in
    let claims = block_claims_at context.blocks number in
    let end = flow.◌>>=◌ (result_use block.heading.result) (λ _. facts_given Exit block.end claims.exit) in
    let one = yields-then inner (begin number claims.entry) (λ _. flow.◌>>=◌ (statement_walk block.body) (λ _. end)) tt
    (record { state = yields.state; unbroken = yields.unbroken; value_is = yields.value_is }) in
    let two = yields-then inner (statement_walk block.body) (λ _. end) tt one.2 in
    record { inner = inner; stands = record { tree_is = refl; blocks_are = refl; block_is = refl }; yields = two.1 }

bodies-yield : (context : Context) (start : ℕ) (blocks : List Block) → Yields context (blocks_walk start blocks) tt → (number : ℕ) (block : Block)
    → slice_get blocks number ≡ Some block → BodyYields context.tree context.blocks (start + number) block
bodies-yield context start [] yields number block is = absurd (cc)
bodies-yield context start (first ∷ blocks) yields zero block is =
    let one = yields-then context (block_walk start first) (λ _. blocks_walk (suc start) blocks) tt yields in
    let here : start ≡ start + 0 = omega arith in
    let same : first ≡ block = cc in
    subst (λ (n : ℕ). BodyYields context.tree context.blocks n block) here
    (subst (λ (b : Block). BodyYields context.tree context.blocks start b) same (body-yields context start first one.1))
bodies-yield context start (first ∷ blocks) yields (suc number) block is =
    let one = yields-then context (block_walk start first) (λ _. blocks_walk (suc start) blocks) tt yields in
    let next : suc start + number ≡ start + suc number = omega arith in
    subst (λ (n : ℕ). BodyYields context.tree context.blocks n block) next (bodies-yield context (suc start) blocks one.2 number block is)

-- ---- activations

pub keeps-result : (at : Standing) (result : Option FunctionResult) (visible : Environment) → Keeps at (result_of result visible)
keeps-result at None visible = keeps-give at (Number _)
keeps-result at (Some result) visible = keeps-fetch at (visible.variables result.root) result.defined

pub keeps-end : (at : Standing) (living : List ℕ) → Keeps at (end_with living)
keeps-end at living = record { left = λ s begun. leaves-same at s _ refl refl }

-- an activation more has begun
pub leaves-begun : (at : Standing) (s t : State) → t.store ≡ s.store → t.activations ≡ suc s.activations → Leaving at s t
leaves-begun at s t store_is activations_are =
    let same = leaves-same at s (record t { activations = s.activations }) store_is refl in
    record { grows = omega (arith, activations_are); leaves = same.leaves }

module _ (tree : Tree) (well : IsWellFormed tree) (certificate : Certificate) (unbroken : (program_walk tree certificate).broken ≡ []) where
  abbrev blocks : List BlockClaims
  blocks = all_block_claims tree certificate

  pub body-here : (number : ℕ) (block : Block) → slice_get tree.blocks.items number ≡ Some block → BodyYields tree blocks number block
  body-here number block is =
      subst (λ (n : ℕ). BodyYields tree blocks n block) (zero-add number)
      (bodies-yield (first_context tree certificate) 0 tree.blocks.items (record { state = Dead; unbroken = unbroken; value_is = refl }) number block is)

  module _ (calls : Calls) (leave : CallsLeave tree blocks calls) (number : ℕ) (block : Block) (is : slice_get tree.blocks.items number ≡ Some block)
      (arguments : List Argument) (caller : Environment) (s : State) where
    abbrev at : Standing
    at = standing_from tree blocks number block arguments caller s

    keeps-executed : Keeps at (executed tree calls block (activation_from number block arguments caller s))
    keeps-executed =
        let body = body-here number block is in
        keeps-then at _ _ (keeps-passing tree blocks number block arguments caller s well is)
        (λ _. keeps-then at _ _
        (statement-kept tree blocks (declare-theirs tree well) number at (activation-grounds tree blocks number block arguments caller s) calls leave
        block.body [] [] [] tt (well-body tree well number block is) (begun-body tree well number block is) body.inner body.stands body.yields)
        (λ _. keeps-result at block.heading.result at.visible))

    abbrev inner : ℕ → Action Value
    inner activation = effect.◌>>=◌
        (executed tree calls block
        (record { number = activation; block = number; heading = block.heading; arguments = arguments; caller = caller }))
        (λ v. effect.◌>>=◌ (end_with s.living) (λ _. give v))

    begun-leaves : (turns : ℕ) → Leaving at s (state_after (and_then (begin_with turns number s) inner))
    begun-leaves zero = leaves-same at s _ refl refl
    begun-leaves (suc left) =
        let begun : State = record s { turns = left; activations = suc s.activations; living = number ∷ s.living } in
        let kept : Keeps at (inner s.activations) =
        keeps-then at _ _ keeps-executed (λ v. keeps-then at _ _ (keeps-end at s.living) (λ _. keeps-give at v)) in
        leaves-then at s begun (state_after (inner s.activations begun)) (leaves-begun at s begun refl refl) (kept.left begun (omega arith))

    activated-leaves : Leaving at s (state_after (activated tree calls number (Some block) arguments caller s))
    activated-leaves = begun-leaves s.turns

  -- calls leave what their blocks don't list, and what lies in earlier activations
  pub calls-leave : (depth : ℕ) → CallsLeave tree blocks (calls_of tree depth)
  calls-leave zero = record {
    known = λ number block arguments caller s is. leaves-itself (standing_from tree blocks number block arguments caller s) s;
    unknown = λ number arguments caller s is. refl;
  }
  calls-leave (suc depth) = record {
    known = λ number block arguments caller s is.
        subst (λ (found : Option Block). Leaving (standing_from tree blocks number block arguments caller s) s
        (state_after (activated tree (calls_of tree depth) number found arguments caller s))) (sym is)
        (activated-leaves (calls_of tree depth) (calls-leave depth) number block is arguments caller s);
    unknown = λ number arguments caller s is.
        ap (λ (found : Option Block). state_after (activated tree (calls_of tree depth) number found arguments caller s)) is;
  }

  -- ---- by the sections of the certificate

  pub claims-are : (number : ℕ) (block : Block) → slice_get tree.blocks.items number ≡ Some block
      → block_claims_at blocks number ≡ block_claims_in number (contents certificate)
  claims-are number block is =
      get_or-map-range_with_len (λ (n : ℕ). block_claims_in n (contents certificate)) 0 (length tree.blocks.items) number number no_block_claims
      (slice_get_within tree.blocks.items number block is) (zero-add number)

  module _ (depth number : ℕ) (block : Block) (arguments : List Argument) (caller : Environment) (s : State)
      (is : slice_get tree.blocks.items number ≡ Some block) where
    abbrev after : State
    after = state_after (calls_of tree depth number arguments caller s)

    left : Leaving (standing_from tree blocks number block arguments caller s) s after
    left = (calls-leave depth).known number block arguments caller s is

    -- no activation ends that was numbered before
    pub call-begins : s.activations ≤ after.activations
    call-begins = left.grows

    -- what a call leaves
    pub call-leaves : CallLeaves s.activations (block_claims_in number (contents certificate)).changes
        (environment_of tree (activation_from number block arguments caller s)) s.store after.store
    call-leaves =
        subst (λ (claims : BlockClaims). CallLeaves s.activations claims.changes (environment_of tree (activation_from number block arguments caller s))
        s.store after.store) (claims-are number block is) (record { values = left.leaves.values; defined = left.leaves.defined })

  pub calls-change-what-they-list : CallsChangeWhatTheyList tree certificate
  calls-change-what-they-list depth number block arguments caller s place is changed =
      let leaves = call-leaves depth number block arguments caller s is in
      ⊎_elim
      (λ (earlier : place.activation < s.activations).
      ⊎_elim (λ listed. inr listed) (λ same. absurd (changed same)) (leaves.values place earlier))
      (λ (begun : s.activations ≤ place.activation). inl begun) (cases_lt place.activation s.activations)
