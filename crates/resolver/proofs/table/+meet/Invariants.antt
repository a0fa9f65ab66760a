use Rattle.resolver.proofs.Tables.{IsLeftFrom}
use Rattle.resolver.proofs.table.+meet.Given as goal

-- what the statements so far hold is met, and what is behind them is left
abbrev pub invariant-meet_all-loop-statement : goal.invariant-meet_all-loop-statement
invariant-meet_all-loop-statement l = IsLeftFrom l.statements l.initial.met l.statement-index l.met
