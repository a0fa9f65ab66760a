use Rattle.std.proofs.Common.{◌≡◌, map, reverse, arith, ◌∙◌, ap}
use Rattle.std.proofs.lemmas.List.{reverse-reverse}
use Rattle.interpreter_state.specs.Views.{operand_seen}
use Rattle.interpreter.specs.Pending.{operands_of, taken_from}
use Rattle.interpreter.proofs.Resuming.{map_reverse}
use Rattle.interpreter.proofs.interpreter.Run.arguments.Goals as goal

pub returns-clause-taken : goal.returns-clause-taken
returns-clause-taken c =
    let all : c.loop.counter ≡ c.args.count = omega (arith, c.loop-test.false, c.loop.auto.counter-end) in
    let operands = operands_of c.args.self.now in
    ap (map operand_seen) c.reverse.ensures.items
    ∙ map_reverse operand_seen c.loop.arguments.items
    ∙ ap reverse c.loop.invariant.1
    ∙ reverse-reverse (taken_from c.loop.counter operands)
    ∙ ap (λ n. taken_from n operands) all
