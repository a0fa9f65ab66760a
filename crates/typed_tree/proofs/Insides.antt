-- What stands inside the statements of a typed tree, as code makes them.
use Rattle.std.proofs.Common.{◌≡◌, ℕ, List, [], ◌∷◌, ◌++◌, Some, None, map, Box, Vec, sym, ap, ◌∙◌}
use Rattle.std.specs.declared.alloc.Global.{Global}
use Rattle.typed_tree.specs.declared.tree.Assignment.{Assignment}
use Rattle.typed_tree.specs.declared.tree.CaseHead.{CaseHead}
use Rattle.typed_tree.specs.declared.tree.Copying.{Copying}
use Rattle.typed_tree.specs.declared.tree.ForHead.{ForHead}
use Rattle.typed_tree.specs.declared.tree.LoopHead.{LoopHead}
use Rattle.typed_tree.specs.declared.tree.ProcedureCall.{ProcedureCall}
use Rattle.typed_tree.specs.declared.tree.WithHead.{WithHead}
use Rattle.typed_tree.specs.declared.tree.Writing.{Writing}
use Rattle.typed_tree.specs.declared.tree.Reading.{Reading}
use Rattle.typed_tree.specs.declared.tree.Expr.{Expr}
use Rattle.typed_tree.specs.declared.tree.Stmt.{Stmt}
use Rattle.typed_tree.specs.declared.tree.Stmt.TheVariants as stmt
use Rattle.typed_tree.specs.declared.tree.Stmt.TheOpen as layer
use Rattle.typed_tree.specs.declared.tree.Stmt.TheViews.{roll-Stmt}
use Rattle.typed_tree.specs.declared.tree.Stmt.TheFolds.{map-Stmt, fold-roll-Stmt}
use Rattle.typed_tree.specs.declared.tree.Loop.{Loop}
use Rattle.typed_tree.specs.Loops.{AreLoops, Inside, LoopControls, no_loop, both_inside, all_inside, looped, controlled, statement_inside, inside_of}

rolled : (s : Stmt) (d : layer.Stmt-F Stmt) → roll-Stmt d ≡ s → inside_of s ≡ statement_inside (map-Stmt Stmt Inside inside_of d)
rolled s d is = ap inside_of (sym is) ∙ fold-roll-Stmt Inside statement_inside d

pub inside_empty : (number : ℕ) → inside_of (stmt.Empty number) ≡ no_loop
inside_empty number = rolled (stmt.Empty number) (layer.Empty number) (stmt.rolls-Empty number)

pub inside_assign : (assignment : Assignment) → inside_of (stmt.Assign assignment) ≡ no_loop
inside_assign assignment = rolled (stmt.Assign assignment) (layer.Assign assignment) (stmt.rolls-Assign assignment)

pub inside_copy : (copying : Copying) → inside_of (stmt.Copy copying) ≡ no_loop
inside_copy copying = rolled (stmt.Copy copying) (layer.Copy copying) (stmt.rolls-Copy copying)

pub inside_read : (reading : Reading) → inside_of (stmt.Read reading) ≡ no_loop
inside_read reading = rolled (stmt.Read reading) (layer.Read reading) (stmt.rolls-Read reading)

pub inside_write : (writing : Writing) → inside_of (stmt.Write writing) ≡ no_loop
inside_write writing = rolled (stmt.Write writing) (layer.Write writing) (stmt.rolls-Write writing)

pub inside_call : (calling : ProcedureCall) → inside_of (stmt.Call calling) ≡ no_loop
inside_call calling = rolled (stmt.Call calling) (layer.Call calling) (stmt.rolls-Call calling)

pub inside_compound : (number : ℕ) (statements : Vec Stmt Global) → inside_of (stmt.Compound number statements) ≡ all_inside (map inside_of statements.items)
inside_compound number statements = rolled (stmt.Compound number statements) (layer.Compound number statements) (stmt.rolls-Compound number statements)

pub inside_if : (number : ℕ) (condition : Expr) (consequence : Box Stmt Global)
    → inside_of (stmt.If number condition consequence None) ≡ both_inside (inside_of consequence.value) no_loop
inside_if number condition consequence =
    rolled (stmt.If number condition consequence None) (layer.If number condition consequence None) (stmt.rolls-If number condition consequence None)

pub inside_if_else : (number : ℕ) (condition : Expr) (consequence alternative : Box Stmt Global)
    → inside_of (stmt.If number condition consequence (Some alternative)) ≡ both_inside (inside_of consequence.value) (inside_of alternative.value)
inside_if_else number condition consequence alternative =
    rolled (stmt.If number condition consequence (Some alternative)) (layer.If number condition consequence (Some alternative))
    (stmt.rolls-If number condition consequence (Some alternative))

pub inside_while : (head : LoopHead) (body : Box Stmt Global)
    → inside_of (stmt.While head body) ≡ looped None head.loop_number (inside_of body.value)
inside_while head body = rolled (stmt.While head body) (layer.While head body) (stmt.rolls-While head body)

pub inside_repeat : (head : LoopHead) (statements : Vec Stmt Global)
    → inside_of (stmt.Repeat head statements) ≡ looped None head.loop_number (all_inside (map inside_of statements.items))
inside_repeat head statements = rolled (stmt.Repeat head statements) (layer.Repeat head statements) (stmt.rolls-Repeat head statements)

pub inside_for : (head : ForHead) (body : Box Stmt Global)
    → inside_of (stmt.For head body) ≡ controlled head.control (looped (Some head.control) head.loop_number (inside_of body.value))
inside_for head body = rolled (stmt.For head body) (layer.For head body) (stmt.rolls-For head body)

pub inside_case : (head : CaseHead) (arms : Vec Stmt Global) → inside_of (stmt.Case head arms) ≡ all_inside (map inside_of arms.items)
inside_case head arms = rolled (stmt.Case head arms) (layer.Case head arms) (stmt.rolls-Case head arms)

pub inside_with : (head : WithHead) (body : Box Stmt Global) → inside_of (stmt.With head body) ≡ inside_of body.value
inside_with head body = rolled (stmt.With head body) (layer.With head body) (stmt.rolls-With head body)

-- ---- rows of loops

module _ (rows : List Loop) (block : ℕ) where
  pub loops_joined : (first second : List (ℕ × LoopControls)) → AreLoops rows block first → AreLoops rows block second → AreLoops rows block (first ++ second)
  loops_joined [] second one more = more
  loops_joined (l ∷ first) second one more = (one.0, loops_joined first second one.1 more)

  pub loops_split : (first second : List (ℕ × LoopControls)) → AreLoops rows block (first ++ second) → AreLoops rows block first × AreLoops rows block second
  loops_split [] second all = (tt, all)
  loops_split (l ∷ first) second all =
      let rest = loops_split first second all.1 in
      ((all.0, rest.0), rest.1)
