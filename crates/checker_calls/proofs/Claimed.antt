-- What facts of a certificate say of a moment of a run.
use Rattle.std.proofs.Common.{List}
use Rattle.std.specs.List.{All}
use Rattle.typed_tree.specs.declared.tree.Tree.{Tree}
use Rattle.domain.specs.Facts.{Fact}
use Rattle.meaning.specs.Store.{Environment, Store}
use Rattle.checker_rows.specs.Rows.{all_parts}
use Rattle.checker_state.specs.Holds.{Holds, moment}
use Rattle.checker_loops.specs.Loops.{all_said}

-- what is claimed holds
abbrev pub AllHold : Tree → List Fact → Environment → Store → Type 0
AllHold tree facts env store = All (λ claim. Holds (all_parts tree) claim (moment env store)) (all_said tree facts)
