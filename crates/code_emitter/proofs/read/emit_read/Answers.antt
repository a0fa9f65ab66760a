use Rattle.std.proofs.Common.{◌++◌, ap}
use Rattle.std.specs.List.{flat_map}
use Rattle.code_scheme.specs.Code.{line_passed_code, variable_read_code}
use Rattle.code_emitter.proofs.Emitted.{gets_is, gets_then, left_all}
use Rattle.code_emitter.proofs.read.emit_read.Goals as goal

pub returns-clause-emits : goal.returns-clause-emits
returns-clause-emits c =
    let code_of = variable_read_code c.args.scope.now in
    let ones = c.deref-one-items.result.now in
    let all = left_all code_of ones c.loop-one.one-index c.loop-one.invariant.emits c.loop-one-test.false in
    gets_is (gets_then all c.emit_line_passed.ensures)
    (ap (λ xs. flat_map code_of xs ++ line_passed_code c.args.reading.now.line) c.deref-one-items.ensures.value)
