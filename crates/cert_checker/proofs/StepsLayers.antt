-- One layer of a statement, as the walk and the entries of statements have it.
use Rattle.std.proofs.Common.{◌≡◌, rules, sym, subst, Option, None, Some, ℕ, ◌∷◌, ◌++◌, map}
use Rattle.std.specs.declared.alloc.Global.{Global}
use Rattle.std.specs.declared.boxed.Box.{Box}
use Rattle.std.specs.declared.vec.Vec.{Vec}
use Rattle.typed_tree.specs.declared.tree.CaseHead.{CaseHead}
use Rattle.typed_tree.specs.declared.tree.Expr.{Expr}
use Rattle.typed_tree.specs.declared.tree.ForHead.{ForHead}
use Rattle.typed_tree.specs.declared.tree.LoopHead.{LoopHead}
use Rattle.typed_tree.specs.declared.tree.WithHead.{WithHead}
use Rattle.typed_tree.specs.declared.tree.Stmt.TheVariants as stmt
use Rattle.typed_tree.specs.declared.tree.Stmt.{Stmt}
use Rattle.typed_tree.specs.declared.tree.Stmt.TheFolds.{the_lemmas as stmt_lemmas}
use Rattle.typed_tree.specs.Entries.{entries_of_expression, entries_of_statement}
use Rattle.checker_expressions.specs.Walk.{Walking}
use Rattle.cert_checker.specs.declared.walk.Walk.{Walk}
use Rattle.cert_checker.specs.Walk.{all_of, bounds_walk, choice_walk, from_entry, index_walk, repeat_walk, statement_walk, while_walk, with_walk}
use Rattle.cert_checker.specs.View.{WalkGoes, else_entries, else_walk}

-- the same walk, told otherwise
pub goes-as : (walk form : Walking (Unit {0})) {old new : Walk} → walk ≡ form → WalkGoes form old new tt → WalkGoes walk old new tt
goes-as walk form {old = old} {new = new} same goes = subst (λ (w : Walking (Unit {0})). WalkGoes w old new tt) (sym same) goes

pub statement-If : (number : ℕ) (condition : Expr) (consequence : Box Stmt Global) (alternative : Option (Box Stmt Global))
    → statement_walk (stmt.If number condition consequence alternative)
    ≡ from_entry number (choice_walk condition (statement_walk consequence.value) (else_walk alternative))
statement-If number condition consequence None = search (rules, stmt_lemmas)
statement-If number condition consequence (Some statement) = search (rules, stmt_lemmas)

pub entries-If : (number : ℕ) (condition : Expr) (consequence : Box Stmt Global) (alternative : Option (Box Stmt Global))
    → entries_of_statement (stmt.If number condition consequence alternative)
    ≡ number ∷ (entries_of_expression condition ++ (entries_of_statement consequence.value ++ else_entries alternative))
entries-If number condition consequence None = search (rules, stmt_lemmas)
entries-If number condition consequence (Some statement) = search (rules, stmt_lemmas)

pub statement-While : (head : LoopHead) (body : Box Stmt Global)
    → statement_walk (stmt.While head body) ≡ from_entry head.number (while_walk head (statement_walk body.value))
statement-While head body = search (rules, stmt_lemmas)

pub statement-Repeat : (head : LoopHead) (statements : Vec Stmt Global)
    → statement_walk (stmt.Repeat head statements)
    ≡ from_entry head.number (repeat_walk head (all_of (map statement_walk statements.items)))
statement-Repeat head statements = search (rules, stmt_lemmas)

pub statement-For : (head : ForHead) (body : Box Stmt Global)
    → statement_walk (stmt.For head body) ≡ from_entry head.number (bounds_walk head (statement_walk body.value))
statement-For head body = search (rules, stmt_lemmas)

pub statement-Case : (head : CaseHead) (arms : Vec Stmt Global)
    → statement_walk (stmt.Case head arms) ≡ from_entry head.number (index_walk head (map statement_walk arms.items))
statement-Case head arms = search (rules, stmt_lemmas)

pub statement-With : (head : WithHead) (body : Box Stmt Global)
    → statement_walk (stmt.With head body) ≡ from_entry head.number (with_walk head (statement_walk body.value))
statement-With head body = search (rules, stmt_lemmas)
