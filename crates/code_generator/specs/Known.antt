-- What the proof of the code takes of the crates below: their laws of types, of the meaning and of the machine. It says
-- nothing of code.
use Rattle.types.specs.Laws.{ComponentsAreCells, ComponentsStandOnce, ScalarsHaveOneComponent}
use Rattle.types.specs.Laws.{ElementsLieInOrder, FieldsLieInOrder}
use Rattle.meaning.specs.Laws.{DeeperCallsChangeNothing, LoopsGoRoundByRound, PiecesUseTurnsExactly}
use Rattle.stack_machine.specs.Laws.{OutputOnlyGrows, ReadFailuresBegin}

pub record Known : Type 0 where
  pub cells : ComponentsAreCells
  pub once : ComponentsStandOnce
  pub scalars : ScalarsHaveOneComponent
  pub elements : ElementsLieInOrder
  pub fields : FieldsLieInOrder
  pub pieces : PiecesUseTurnsExactly
  pub rounds : LoopsGoRoundByRound
  pub deeper : DeeperCallsChangeNothing
  pub output : OutputOnlyGrows
  pub failures : ReadFailuresBegin
