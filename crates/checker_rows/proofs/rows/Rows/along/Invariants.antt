use Rattle.std.proofs.Common.{◌≡◌, ◌<◌, ◌^◌, drop, map}
use Rattle.checker_rows.specs.Rows.{path_step}
use Rattle.checker_rows.specs.View.{end_of, part_along}
use Rattle.checker_rows.proofs.rows.Rows.along.Given as goal

-- what the rest of the way leads to is what the way leads to
abbrev pub invariant-loop-step : goal.invariant-loop-step
invariant-loop-step l = record {
  fits : end_of l.self.types l.part < 2 ^ 64;
  same : part_along l.self.types (map path_step (drop l.step-index l.path)) l.part ≡ part_along l.self.types (map path_step l.path) l.fn.whole;
}
