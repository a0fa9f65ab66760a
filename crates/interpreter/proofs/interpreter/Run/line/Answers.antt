use Rattle.std.proofs.Common.{◌≡◌, Option, ℕ, reverse, sym, ◌∙◌, ap}
use Rattle.text_input.specs.Input.{Reading, Reads, read_line}
use Rattle.meaning.specs.Effect.{Reply, and_then, taken}
use Rattle.interpreter_state.specs.Views.{failed, left_in}
use Rattle.interpreter.specs.Pending.{line_passing, operands_of, pending_of}
use Rattle.interpreter.proofs.Inputs.{agrees_behind, fails_at}
use Rattle.interpreter.proofs.interpreter.Run.line.Goals as goal

pub returns-in-Ok-clause-does : goal.returns-in-Ok-clause-does
returns-in-Ok-clause-does c = λ env outer s agrees.
    let old = c.args.self.now in
    let rest = c.in-Ok.rest in
    let next = pending_of env outer (reverse old.pending.items) (operands_of old) in
    let reads : read_line s.input ≡ Reads tt (left_in rest) = ap read_line (sym agrees.input) ∙ c.in-Ok.ensures in (
      env,
      outer,
      record s { input = left_in rest },
      agrees_behind env outer old s rest agrees,
      ap (λ (o : Option ℕ). line_passing o (pending_of env outer (reverse old.pending.items)) (operands_of old) s) c.in-Some.is
          ∙ ap (λ (r : Reading (Unit {0})). and_then (taken c.in-Some.point r s) (λ _. next)) reads,
    )

pub returns-in-Err-clause-does : goal.returns-in-Err-clause-does
returns-in-Err-clause-does c = λ env outer s agrees.
    let old = c.args.self.now in
    let point = c.in-Some.point in
    let why = c.in-Err.fault in
    let next = pending_of env outer (reverse old.pending.items) (operands_of old) in
    let reads : read_line s.input ≡ failed why = ap read_line (sym agrees.input) ∙ c.in-Err.ensures in (
      env,
      outer,
      s,
      agrees,
      ap (λ (o : Option ℕ). line_passing o (pending_of env outer (reverse old.pending.items)) (operands_of old) s) c.in-Some.is
          ∙ ap (λ (r : Reading (Unit {0})). and_then (taken point r s) (λ _. next)) reads
          ∙ ap (λ (r : Reply (Unit {0})). and_then r (λ _. next)) (fails_at point why s),
    )
