-- Statements by their kind (6.8.3). This says nothing of what they mean.
use Rattle.std.specs.Prelude.{Bool, true, false}
use Rattle.syntax_tree.specs.declared.Stmt.{Stmt}
use Rattle.syntax_tree.specs.declared.Stmt.TheOpen.{Stmt-F}
use Rattle.syntax_tree.specs.declared.Stmt.TheOpen.Stmt-F.{If, Case, While, Repeat, For}
use Rattle.syntax_tree.specs.declared.Stmt.TheViews.{out-Stmt}

-- a conditional statement (6.8.3.3)
abbrev pub is_conditional_form : Stmt-F Stmt → Bool
is_conditional_form (If place condition consequence alternative) = true
is_conditional_form (Case place index constants arms semicolon) = true
is_conditional_form other = false

abbrev pub is_conditional : Stmt → Bool
is_conditional s = is_conditional_form (out-Stmt s)

-- a repetitive statement (6.8.3.6)
abbrev pub is_repetitive_form : Stmt-F Stmt → Bool
is_repetitive_form (While place condition body) = true
is_repetitive_form (Repeat place statements condition) = true
is_repetitive_form (For place variable first direction last body) = true
is_repetitive_form other = false

abbrev pub is_repetitive : Stmt → Bool
is_repetitive s = is_repetitive_form (out-Stmt s)
