use Rattle.std.proofs.Common.{◌≡◌, ◌∷◌, List, ℕ, ℤ, Bool, reverse, sym, ◌∙◌, ap}
use Rattle.text_input.specs.Input.{Reading, Reads, is_at_end, read_eoln}
use Rattle.typed_tree.specs.declared.tree.InputTest.{InputTest}
use Rattle.meaning.specs.declared.value.Value.TheVariants.{Number}
use Rattle.meaning.specs.Effect.{State, Reply, Action, and_then, taken}
use Rattle.meaning.specs.Integers.{truth}
use Rattle.meaning.specs.Meaning.{OfValue}
use Rattle.interpreter_state.specs.Views.{failed, left_in}
use Rattle.interpreter.specs.Pending.{asking, operands_of, pending_of}
use Rattle.interpreter.proofs.Inputs.{agrees_behind, fails_at}
use Rattle.interpreter.proofs.Resuming.{continues_as}
use Rattle.interpreter.proofs.interpreter.Run.asked.Goals as goal

pub returns-in-End-clause-does : goal.returns-in-End-clause-does
returns-in-End-clause-does c = λ env outer s agrees.
    let old = c.args.self.now in
    let next = pending_of env outer (reverse old.pending.items) in
    let operands = operands_of old in
    let then_rest : ℤ → Reply (Unit {0}) = λ n. next (OfValue (Number n) ∷ operands) s in
    continues_as env outer old c.go_on_with.new.self _ _ c.go_on_with.result
    (ap (λ (a : InputTest). asking a next operands s) c.in-End.is
    ∙ ap (λ (bytes : List ℕ). then_rest (truth (is_at_end bytes))) (sym agrees.input)
    ∙ ap (λ (b : Bool). then_rest (truth b)) (sym c.is_at_end-is_at_end.ensures) ∙ ap then_rest (sym c.truth.ensures))
    (c.go_on_with.ensures.does env outer s agrees)

pub returns-in-Ok-clause-does : goal.returns-in-Ok-clause-does
returns-in-Ok-clause-does c = λ env outer s agrees.
    let old = c.args.self.now in
    let next = pending_of env outer (reverse old.pending.items) in
    let operands = operands_of old in
    let there : State = record s { input = left_in old.input } in
    let behind : Bool → Action (Unit {0}) = λ b. next (OfValue (Number (truth b)) ∷ operands) in
    let reads : read_eoln s.input ≡ Reads c.in-Ok.is_so (left_in old.input) = ap read_eoln (sym agrees.input) ∙ c.in-Ok.ensures in
    continues_as env outer old c.go_on_with-in-Ok.new.self _ _ c.go_on_with-in-Ok.result
    (ap (λ (a : InputTest). asking a next operands s) c.in-LineEnd.is
    ∙ ap (λ (r : Reading Bool). and_then (taken c.in-LineEnd.point r s) behind) reads
    ∙ ap (λ (n : ℤ). next (OfValue (Number n) ∷ operands) there) (sym c.truth-in-Ok.ensures))
    (c.go_on_with-in-Ok.ensures.does env outer there (agrees_behind env outer old s old.input agrees))

pub returns-in-Err-clause-does : goal.returns-in-Err-clause-does
returns-in-Err-clause-does c = λ env outer s agrees.
    let old = c.args.self.now in
    let point = c.in-LineEnd.point in
    let why = c.in-Err.fault in
    let next = pending_of env outer (reverse old.pending.items) in
    let behind : Bool → Action (Unit {0}) = λ b. next (OfValue (Number (truth b)) ∷ operands_of old) in
    let reads : read_eoln s.input ≡ failed why = ap read_eoln (sym agrees.input) ∙ c.in-Err.ensures in (
      env,
      outer,
      s,
      agrees,
      ap (λ (a : InputTest). asking a next (operands_of old) s) c.in-LineEnd.is
          ∙ ap (λ (r : Reading Bool). and_then (taken point r s) behind) reads
          ∙ ap (λ (r : Reply Bool). and_then r behind) (fails_at point why s),
    )
