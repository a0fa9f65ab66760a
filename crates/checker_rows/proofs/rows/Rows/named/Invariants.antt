use Rattle.std.proofs.Common.{◌<◌, ◌^◌, drop, map}
use Rattle.domain.specs.Facts.{said_path, said_step}
use Rattle.checker_rows.specs.View.{end_of}
use Rattle.checker_rows.proofs.Naming.{NamesOn}
use Rattle.checker_rows.proofs.rows.Rows.named.Given as goal

-- what the path names is what the rest of it names behind the part, and the rows under more are those in the part
abbrev pub invariant-loop-step : goal.invariant-loop-step
invariant-loop-step l = record {
  fits : end_of l.self.types l.part < 2 ^ 64;
  so_far : NamesOn l.self (said_path l.path) (map said_step (drop l.step-index l.path.steps.items)) l.type_id l.part;
}
