-- What holds where a turn of a loop begins: what its turns leave, and the claims.
use Rattle.std.proofs.Common.{List, length}
use Rattle.typed_tree.specs.declared.tree.Tree.{Tree}
use Rattle.domain.specs.Facts.{Fact}
use Rattle.meaning.specs.Store.{Environment, Store}
use Rattle.checker_state.specs.Knows.{AreEntire, IsKept, Knows}
use Rattle.checker_rows.specs.Limits.{row_limits}
use Rattle.checker_rows.specs.Rows.{all_parts, rows_of, rows_touched}
use Rattle.checker_state.specs.State.{State}
use Rattle.checker_state.proofs.Looped.{heads-hold}
use Rattle.checker_loops.specs.Loops.{Round, all_said, head_of, touched}
use Rattle.checker_state.specs.State.{table_of}
use Rattle.checker_loops.proofs.Tabled.{are-rows}
use Rattle.checker_calls.proofs.Claimed.{AllHold}
use Rattle.checker_calls.proofs.AliasedTypes.{InTypes}
use Rattle.checker_calls.proofs.Behind.{kept-untouched}

-- ---- the head

-- what is known there holds after any turns, if the claims do
pub head-of_known : (tree : Tree) (env : Environment) (round : Round) (facts : List Fact) (state : State) (before after : Store)
    → AreEntire (all_parts tree) (length tree.variables.items) round.controls → IsKept env (touched round) round.controls before after → InTypes tree env after
    → AllHold tree facts env after → Knows (all_parts tree) (length tree.variables.items) env state before
    → Knows (all_parts tree) (length tree.variables.items) env (head_of tree round facts state) after
head-of_known tree env round facts state before after controls kept typed hold known =
    heads-hold (all_parts tree) (table_of tree) (are-rows tree) env (row_limits (rows_of tree)) (touched round) (rows_touched tree (touched round))
    round.controls (all_said tree facts) state before after kept (kept-untouched tree env (touched round) round.controls before after typed kept) controls
    (λ row steps v inside of_row is. typed.components row steps v of_row is) hold known
