use Rattle.std.proofs.Common.{◌++◌, ap}
use Rattle.std.specs.List.{flat_map}
use Rattle.code_scheme.specs.Code.{line_end_code, parameter_code}
use Rattle.code_emitter.proofs.Emitted.{gets_is, gets_then, left_all}
use Rattle.code_emitter.proofs.write.emit_write.Goals as goal

pub returns-clause-emits : goal.returns-clause-emits
returns-clause-emits c =
    let code_of = parameter_code c.args.scope.now in
    let parameters = c.deref-parameter-items.result.now in
    let all = left_all code_of parameters c.loop-parameter.parameter-index c.loop-parameter.invariant.emits c.loop-parameter-test.false in
    gets_is (gets_then all c.emit_line_end.ensures)
    (ap (λ ps. flat_map code_of ps ++ line_end_code c.args.writing.now.ends_line) c.deref-parameter-items.ensures.value)
