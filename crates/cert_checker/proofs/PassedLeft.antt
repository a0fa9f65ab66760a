-- What was passed as a value and isn't listed by a block, the statement of the block leaves as it was.
use Rattle.std.proofs.Common.{arith, ◌≡◌, ⊎_elim, ◌∙◌, sym, ap, refl, subst, ℕ, suc, true, false, ◌||◌, nat_eq, List, [], ◌++◌}
use Rattle.std.proofs.Common.{Some}
use Rattle.std.specs.Prelude.{slice_get}
use Rattle.std.specs.List.{Contains}
use Rattle.std.proofs.lemmas.Bool.{and_parts, both_ways}
use Rattle.std.proofs.lemmas.List.Elements.{Contains-append_cases}
use Rattle.std.proofs.lemmas.Option.{same_Some}
use Rattle.certificate.specs.declared.Certificate.{Certificate}
use Rattle.types.specs.declared.form.Step.{Step}
use Rattle.typed_tree.specs.WellFormed.{IsWellFormed, is_local_kind, is_result_kind, is_value_kind, roots_where}
use Rattle.typed_tree.specs.declared.tree.Block.{Block}
use Rattle.typed_tree.specs.declared.tree.Tree.{Tree}
use Rattle.typed_tree.specs.declared.tree.Variable.{Variable}
use Rattle.typed_tree.specs.declared.tree.VariableKind.{VariableKind}
use Rattle.typed_tree.specs.declared.tree.VariableKind.TheVariants as kind
use Rattle.meaning.specs.Effect as effect
use Rattle.meaning.specs.Laws.{state_after}
use Rattle.meaning.specs.Meaning.{Argument, Calls, effect_of, environment_of}
use Rattle.meaning.specs.Store.{Environment, Place}
use Rattle.checker_state.specs.Loops.{is_among}
use Rattle.checker_loops.specs.Sections.{BlockClaims, all_block_claims, block_claims_at}
use Rattle.checker_loops.specs.Starts.{is_own, is_passed_value}
use Rattle.checker_loops.proofs.Lists.{contains-among}
use Rattle.checker_calls.specs.Environments.{IsListed, LeavesPassed}
use Rattle.checker_calls.proofs.Callee.{IsCalled, Outer, Own, PassedTo, Seen, activation_of, place-for_fits, seen-as}
use Rattle.checker_calls.proofs.Entered.{roots-are}
use Rattle.cert_checker.specs.Walk.{program_walk}
use Rattle.cert_checker.proofs.EffectsParameters.{begun-body, behind, behind-grounds, declare-theirs, well-body}
use Rattle.cert_checker.proofs.EffectsRoutines.{body-here}
use Rattle.cert_checker.proofs.EffectsStatements.{statement-kept}
use Rattle.checker_expressions.proofs.EffectsCalls.{CallsLeave}
use Rattle.checker_expressions.proofs.EffectsKept.{LeavesSo}

no-own_value : (one : VariableKind) → (is_local_kind one || is_result_kind one) ≡ true → is_value_kind one ≡ true → ⊥
no-own_value kind.ValueParameter own value = both_ways false refl own
no-own_value kind.VariableParameter own value = both_ways false refl value
no-own_value kind.Local own value = both_ways false refl value
no-own_value kind.Result own value = both_ways false refl value

module _ (tree : Tree) (well : IsWellFormed tree) (certificate : Certificate) (unbroken : (program_walk tree certificate).broken ≡ [])
    (pairs : List (ℕ × ℕ)) (calls : Calls) (leave : CallsLeave tree (all_block_claims tree certificate) calls) (number : ℕ) (block : Block)
    (arguments : List Argument) (caller : Environment) (s : effect.State) (from : ℕ)
    (call : IsCalled tree pairs number block arguments caller s.activations from) where
  abbrev blocks : List BlockClaims
  blocks = all_block_claims tree certificate

  abbrev changes : List ℕ
  changes = (block_claims_at blocks number).changes

  abbrev own_roots : List ℕ
  own_roots = roots_where (is_own number) 0 tree.variables.items

  abbrev callee : Environment
  callee = environment_of tree (activation_of number block arguments caller s.activations)

  -- a value parameter that isn't listed lies under no place of what may be changed
  none-listed : (root : ℕ) (variable : Variable) (steps : List Step) → slice_get tree.variables.items root ≡ Some variable
      → is_passed_value number variable ≡ true → is_among root changes ≡ false
      → IsListed (changes ++ own_roots) callee (record { activation = s.activations; variable = root; steps = steps }) → ⊥
  none-listed root variable steps is passed free (other, home, inside, seen, lies) =
      let found = seen-as tree (activation_of number block arguments caller s.activations) other home seen in
      by found.0 found.1 found.2
    where
      here : Contains (changes ++ own_roots) root → ⊥
      here inside =
          ⊎_elim (λ listed. both_ways (is_among root changes) free (contains-among changes root listed))
          (λ own.
          let at = roots-are (is_own number) 0 tree.variables.items root own in
          let root_is = at.2 in
          let k_is : at.0 ≡ root = omega (arith, root_is) in
          let same : at.1 ≡ variable = same_Some at.1 variable (sym at.3 ∙ ap (slice_get tree.variables.items) k_is ∙ is) in
          let owns = (and_parts (nat_eq variable.block number) (is_local_kind variable.kind || is_result_kind variable.kind)
          (subst (λ (v : Variable). is_own number v ≡ true) same at.4)).1 in
          no-own_value variable.kind owns (and_parts (nat_eq variable.block number) (is_value_kind variable.kind) passed).1)
          (Contains-append_cases changes own_roots root inside)

      by : (v : Variable) → slice_get tree.variables.items other ≡ Some v → Seen (activation_of number block arguments caller s.activations) other v home → ⊥
      by v v_is (Own of_block kind_is at) =
          let same : other ≡ root = ap (λ (p : Place). p.variable) at ∙ lies.1 in
          here (subst (λ (r : ℕ). Contains (changes ++ own_roots) r) same inside)
      by v v_is (PassedTo of_block kind_is at) =
          let young = (place-for_fits tree s.activations block.heading.parameters.items arguments other v home call.fit v_is at).begun in
          let level = lies.0 in
          omega (arith, young, level)
      by v v_is (Outer elsewhere around at) =
          let young = call.proper.begun other home at in
          let level = lies.0 in
          omega (arith, young, level)

  pub passed-left : (ready t : effect.State) (done : Unit {0}) → ready.activations ≡ suc s.activations
      → effect_of block.body (record { visible = callee; records = []; calls = calls }) ready ≡ effect.Gives done t
      → LeavesPassed tree s.activations number changes ready.store t.store
  passed-left ready t done begun is root variable steps variable_is passed free =
      let body = body-here tree well certificate unbroken number block call.block_is in
      let kept = statement-kept tree blocks (declare-theirs tree well) number (behind tree blocks number block arguments caller s)
      (behind-grounds tree blocks number block arguments caller s) calls leave block.body [] [] [] tt (well-body tree well number block call.block_is)
      (begun-body tree well number block call.block_is) body.inner
      body.stands body.yields in
      let left = (kept.left ready (omega (arith, begun))).leaves in
      let behind_is : LeavesSo (behind tree blocks number block arguments caller s) ready.store t.store =
      subst (λ (u : effect.State). LeavesSo (behind tree blocks number block arguments caller s) ready.store u.store) (ap state_after is) left in
      ⊎_elim (λ listed. absurd (none-listed root variable steps variable_is passed free listed)) (λ same. same)
      (behind_is.values (record { activation = s.activations; variable = root; steps = steps }) (omega arith))
