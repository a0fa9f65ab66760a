use Rattle.std.proofs.Common.{ap, ◌∙◌, Option, subst, sym}
use Rattle.typed_tree.specs.declared.tree.FunctionResult.{FunctionResult}
use Rattle.checker_state.specs.Bounds.{Bound}
use Rattle.checker_state.specs.State.{has_value, table_of}
use Rattle.checker_trail.specs.Trail.{seen}
use Rattle.cert_checker.specs.View.{WalkGoes, at_state}
use Rattle.cert_checker.specs.Walk.{result_use}
use Rattle.cert_checker.proofs.StepsBlocks.{result-used}
use Rattle.cert_checker.proofs.walk.Walk.use_result.Goals as goal

pub returns-in-Some : goal.returns-in-Some
returns-in-Some c =
    let walk = c.args.self.now in
    let state = walk.flow.state in
    subst (λ (function : Option FunctionResult). WalkGoes (result_use function) walk
    (at_state c.unless_empty.new.self (record walk { flow = c.open_unless.new.self })) tt) (sym c.in-Some.is)
    (result-used c.in-Some.own c.has_value-closed.result c.range-range.result
    (c.has_value-closed.ensures ∙ ap (λ (bound : Bound). has_value (table_of state.table.now) (seen state) bound) c.plus.ensures)
    c.open_unless.ensures c.range-range.ensures c.unless_empty.ensures)
