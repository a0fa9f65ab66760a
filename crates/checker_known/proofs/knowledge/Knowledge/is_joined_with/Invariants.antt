use Rattle.checker_rows.specs.Rows.{indexes_at, rows_of}
use Rattle.checker_state.specs.State.{joins}
use Rattle.checker_state.specs.View.{said_held}
use Rattle.checker_known.specs.Knowledge.{core, viewed}
use Rattle.checker_known.specs.View.{asked}
use Rattle.checker_known.proofs.InOrder.{NoneSoFar}
use Rattle.checker_known.proofs.knowledge.Knowledge.is_joined_with.Given as goal

abbrev pub invariant-loop-place : goal.invariant-loop-place
invariant-loop-place g l =
    let known = viewed (core l.self) in
    let indexes = indexes_at (rows_of l.table) l.wanted.row in
    let wanted = asked g.A.Ask.asks g.B.Ask.asks l.wanted in
    NoneSoFar (joins known indexes l.wanted.row wanted l.inside (said_held l.one)) l.self.held.items l.place
