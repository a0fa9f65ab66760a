-- How many repeats stand in each other in a statement: so many turns are used before an instruction comes.
use Rattle.code_generator.proofs.Words.{ℕ, ◌+◌, max, Option, Some, None}
use Rattle.std.specs.declared.alloc.Global.{Global}
use Rattle.std.specs.declared.boxed.Box.{Box}
use Rattle.typed_tree.specs.declared.tree.Stmt.{Stmt}
use Rattle.typed_tree.specs.declared.tree.Stmt.TheOpen.{Stmt-F}
use Rattle.typed_tree.specs.declared.tree.Stmt.TheOpen.Stmt-F.{Empty, Assign, Copy, Write, Compound, If, While, Repeat, For, Case, Call as Calling, With, Read}
use Rattle.typed_tree.specs.declared.tree.Stmt.TheFolds.{fold-Stmt}
use Rattle.code_scheme.specs.Depth.{greatest}

abbrev pub alternative_repeats : Option (Box ℕ Global) → ℕ
alternative_repeats None = 0
alternative_repeats (Some repeats) = repeats.value

abbrev pub repeats_step : Stmt-F ℕ → ℕ
repeats_step (Empty number) = 0
repeats_step (Assign assignment) = 0
repeats_step (Copy copying) = 0
repeats_step (Write writing) = 0
repeats_step (Read reading) = 0
repeats_step (Calling calling) = 0
repeats_step (Compound number statements) = greatest statements.items
repeats_step (If number condition consequence alternative) = max consequence.value (alternative_repeats alternative)
repeats_step (While head body) = body.value
repeats_step (Repeat head statements) = greatest statements.items + 1
repeats_step (For head body) = body.value
repeats_step (Case head arms) = greatest arms.items
repeats_step (With head body) = body.value

abbrev pub repeats : Stmt → ℕ
repeats = fold-Stmt ℕ repeats_step
