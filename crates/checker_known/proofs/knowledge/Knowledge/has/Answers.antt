use Rattle.std.proofs.Common.{◌∙◌, sym}
use Rattle.checker_rows.specs.Rows.{indexes_at, rows_of}
use Rattle.checker_known.specs.Knowledge.{core, viewed}
use Rattle.checker_known.specs.View.{inner_asked}
use Rattle.checker_known.proofs.Reached.{unreached}
use Rattle.checker_known.proofs.knowledge.Knowledge.has.Goals as goal

pub returns-else-is_reached : goal.returns-else-is_reached
returns-else-is_reached g c =
    let wanted = c.args.wanted in
    c.if-is_reached.false
    ∙ unreached wanted.row (g.A.Ask.asks wanted.first) (viewed (core c.args.self.now)) (indexes_at (rows_of c.args.table.now) wanted.row)
    (inner_asked g.A.Ask.asks wanted.second) (sym c.is_reached.ensures ∙ c.if-is_reached.false)
