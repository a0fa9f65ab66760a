use Rattle.std.proofs.Common.{arith, ◌∙◌, sym}
use Rattle.checker_state.specs.State.{table_of}
use Rattle.checker_state.specs.View.{said_held}
use Rattle.checker_known.specs.Knowledge.{core, viewed}
use Rattle.checker_state.proofs.HeldGiven.{held-given}
use Rattle.checker_known.proofs.HeldLists.{contains-there}
use Rattle.checker_known.proofs.knowledge.Knowledge.keeps.Goals as goal

pub returns-then-is_same : goal.returns-then-is_same
returns-then-is_same c =
    c.has_its_values.ensures
    ∙ sym (held-given (table_of c.args.table.now) (viewed (core c.args.self.now)) (said_held c.args.one.now)
    (contains-there c.args.self.now.held.items c.args.place c.index.result.now c.args.one.now (omega (arith, c.if-place-len.true, c.len.ensures))
    c.index.ensures c.if-is_same.ensures))
