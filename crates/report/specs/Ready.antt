-- What is made for a run of a code, before anything is told. It does not say what the run does.
use Rattle.std.specs.Prelude.{◌≡◌, ℕ}
use Rattle.pcode_assembler.specs.declared.code.Code.{Code}
use Rattle.stack_machine.specs.Does.{cell_count}
use Rattle.stack_machine.specs.Stands.{Stands}
use Rattle.report.specs.declared.ready.Ready.{Ready}

-- a machine of so many cells, and the steps of this code
pub record IsReady (code : Code) (cells : ℕ) (ready : Ready) : Type 0 where
  pub cells_are : cell_count ready.machine ≡ cells
  pub stands : Stands code.instructions.items ready.steps
