-- How ifs and fors look, as they are made.
use Rattle.std.proofs.Common.{◌≡◌, ℕ, [], ◌∷◌, ◌++◌, Option, Some, None, Box, sym, ap, ◌∙◌, append_assoc}
use Rattle.std.specs.declared.alloc.Global.{Global}
use Rattle.typed_tree.specs.declared.tree.Expr.{Expr}
use Rattle.typed_tree.specs.declared.tree.ForHead.{ForHead}
use Rattle.typed_tree.specs.declared.tree.Stmt.{Stmt}
use Rattle.typed_tree.specs.declared.tree.Stmt.TheVariants as stmt
use Rattle.typed_tree.specs.Accesses.{AtVariable}
use Rattle.typed_tree.specs.Look.{Look, Fits, If, Then, Else, Controls, For, ForEnds, Ends, look_expr, look_stmt}
use Rattle.typed_tree.proofs.Looks.{look_case, look_compound, look_for, look_if, look_if_else, look_reading, look_repeat, look_while, look_with, look_write}
use Rattle.typing.proofs.Written.{written_statements}
use Rattle.resolver.specs.Made.{for_head_look, look_bound, look_else}
use Rattle.resolver.proofs.HeldStatements.{held_case, held_choice, held_compound, held_for, held_read, held_repeat, held_while, held_with, held_write}

behind : (number : ℕ) (condition : Expr) (rest : Look)
    → ◌≡◌ {A = Look} (If number ∷ (look_expr condition ++ (Then ∷ rest))) ((If number ∷ (look_expr condition ++ (Then ∷ []))) ++ rest)
behind number condition rest = ap (λ look. If number ∷ look) (sym (append_assoc (look_expr condition) (Then ∷ []) rest))

pub look_choice : (number : ℕ) (condition : Expr) (consequence : Box Stmt Global) (alternative : Option (Box Stmt Global))
    → look_stmt (stmt.If number condition consequence alternative)
    ≡ (If number ∷ (look_expr condition ++ (Then ∷ []))) ++ (look_stmt consequence.value ++ (look_else alternative ++ (Ends ∷ [])))
look_choice number condition consequence None =
    look_if number condition consequence ∙ behind number condition (look_stmt consequence.value ++ (Ends ∷ []))
look_choice number condition consequence (Some other) =
    look_if_else number condition consequence other
    ∙ behind number condition (look_stmt consequence.value ++ (Else ∷ (look_stmt other.value ++ (Ends ∷ []))))

-- conditional statements, as they are read, and as an if is made
pub ruleset conditional_forms = (written_statements, look_choice, held_choice)

-- a for, behind what it is as far as its `do`
pub look_counted : (head : ForHead) (body : Box Stmt Global)
    → look_stmt (stmt.For head body) ≡ for_head_look head ++ (Controls head.control ∷ (look_stmt body.value ++ (ForEnds ∷ [])))
look_counted head body =
    let inside = Controls head.control ∷ (look_stmt body.value ++ (ForEnds ∷ [])) in
    let first = head.first in
    let last = head.last in
    let one = look_bound head.control first in
    let two = look_bound head.control last in
    look_for head body
    ∙ ap (λ look. For head.number head.loop_number head.place head.control head.direction ∷ look)
    (sym (append_assoc (look_expr first.value) (Fits (AtVariable head.control) [] first.fits ∷ [])
    (look_expr last.value ++ (Fits (AtVariable head.control) [] last.fits ∷ inside)))
    ∙ ap (λ look. one ++ look) (sym (append_assoc (look_expr last.value) (Fits (AtVariable head.control) [] last.fits ∷ []) inside))
    ∙ sym (append_assoc one two inside))

-- other statements, as they are made
pub ruleset made_read = (look_reading, held_read)

pub ruleset made_write = (look_write, held_write)

pub ruleset made_compound = (look_compound, held_compound)

pub ruleset made_while = (look_while, held_while)

pub ruleset made_repeat = (look_repeat, held_repeat)

pub ruleset made_for = (look_counted, held_for)

pub ruleset made_case = (look_case, held_case)

pub ruleset made_with = (look_with, held_with)
