-- In a statement each operand is as it is taken: form by form, as code builds it.
use Rattle.std.proofs.Common.{◌≡◌, ℕ, ◌&&◌, Bool, true, List, [], ◌∷◌, ◌++◌, map, Option, Some, None, Box, Vec, refl, sym, ap, ap₂, ◌∙◌}
use Rattle.std.specs.declared.alloc.Global.{Global}
use Rattle.std.proofs.lemmas.List.{map-append}
use Rattle.std.proofs.lemmas.List.Folds.{list_all-append}
use Rattle.typed_tree.specs.declared.tree.Assignment.{Assignment}
use Rattle.typed_tree.specs.declared.tree.CaseHead.{CaseHead}
use Rattle.typed_tree.specs.declared.tree.Copying.{Copying}
use Rattle.typed_tree.specs.declared.tree.Expr.{Expr}
use Rattle.typed_tree.specs.declared.tree.ForHead.{ForHead}
use Rattle.typed_tree.specs.declared.tree.LoopHead.{LoopHead}
use Rattle.typed_tree.specs.declared.tree.ProcedureCall.{ProcedureCall}
use Rattle.typed_tree.specs.declared.tree.Reading.{Reading}
use Rattle.typed_tree.specs.declared.tree.WithHead.{WithHead}
use Rattle.typed_tree.specs.declared.tree.Writing.{Writing}
use Rattle.typed_tree.specs.declared.tree.Stmt.{Stmt}
use Rattle.typed_tree.specs.declared.tree.Stmt.TheVariants as stmt
use Rattle.typed_tree.specs.declared.tree.Stmt.TheOpen as layer
use Rattle.typed_tree.specs.declared.tree.Stmt.TheFolds.{fold-roll-Stmt}
use Rattle.typed_tree.specs.Kinds.{are_ordinal_indexes, held_by, is_held, is_held_parameter, is_held_passed, is_held_read, is_held_record, is_held_stmt}
use Rattle.typed_tree.specs.Kinds.{is_held_value}
use Rattle.typed_tree.specs.Kinds.{is_ordinal_expr, statement_held}
use Rattle.typed_tree.specs.Tests.{all_hold}
use Rattle.resolver.specs.Made.{is_held_else}

-- several of these
both : (a b : Bool) → a ≡ true → b ≡ true → (a && b) ≡ true
both a b first second = ap₂ (λ x y. x && y) first second

three : (a b c : Bool) → a ≡ true → b ≡ true → c ≡ true → (a && (b && c)) ≡ true
three a b c first second third = both a (b && c) first (both b c second third)

-- one more of them
pub held_more : {A : Type 0} (test : A → Bool) (made : List A) (one : A) (new : List A) → new ≡ made ++ one ∷ [] → all_hold (map test made) ≡ true
    → test one ≡ true → all_hold (map test new) ≡ true
held_more test made one new is so also =
    ap (λ l. all_hold (map test l)) is
    ∙ ap all_hold (map-append test made (one ∷ []))
    ∙ list_all-append (λ b. b) (map test made) (test one ∷ [])
    ∙ both (all_hold (map test made)) (test one && true) so (ap (λ b. b && true) also)

-- ---- forms

pub held_empty : (number : ℕ) → is_held_stmt (stmt.Empty number) ≡ true
held_empty number = ap is_held_stmt (sym (stmt.rolls-Empty number)) ∙ fold-roll-Stmt Bool statement_held (layer.Empty number)

pub held_assign : (assignment : Assignment) → are_ordinal_indexes assignment.indexes.items ≡ true
    → is_held assignment.fits.tests (held_by assignment.value) ≡ true → is_held_stmt (stmt.Assign assignment) ≡ true
held_assign assignment so also =
    ap is_held_stmt (sym (stmt.rolls-Assign assignment)) ∙ fold-roll-Stmt Bool statement_held (layer.Assign assignment) ∙ both _ _ so also

pub held_copy : (copying : Copying) → are_ordinal_indexes copying.indexes.items ≡ true → is_held_value copying.value copying.value_indexes.items ≡ true
    → is_held_stmt (stmt.Copy copying) ≡ true
held_copy copying so also =
    ap is_held_stmt (sym (stmt.rolls-Copy copying)) ∙ fold-roll-Stmt Bool statement_held (layer.Copy copying) ∙ both _ _ so also

-- those of both assignments
pub ruleset held_assigned = (held_assign, held_copy)

pub held_write : (writing : Writing) → all_hold (map is_held_parameter writing.parameters.items) ≡ true → is_held_stmt (stmt.Write writing) ≡ true
held_write writing so = ap is_held_stmt (sym (stmt.rolls-Write writing)) ∙ fold-roll-Stmt Bool statement_held (layer.Write writing) ∙ so

pub held_read : (reading : Reading) → all_hold (map is_held_read reading.variables.items) ≡ true → is_held_stmt (stmt.Read reading) ≡ true
held_read reading so = ap is_held_stmt (sym (stmt.rolls-Read reading)) ∙ fold-roll-Stmt Bool statement_held (layer.Read reading) ∙ so

pub held_procedure_call : (calling : ProcedureCall) → all_hold (map is_held_passed calling.actuals.items) ≡ true → is_held_stmt (stmt.Call calling) ≡ true
held_procedure_call calling so = ap is_held_stmt (sym (stmt.rolls-Call calling)) ∙ fold-roll-Stmt Bool statement_held (layer.Call calling) ∙ so

pub held_compound : (number : ℕ) (statements : Vec Stmt Global) → all_hold (map is_held_stmt statements.items) ≡ true
    → is_held_stmt (stmt.Compound number statements) ≡ true
held_compound number statements so =
    ap is_held_stmt (sym (stmt.rolls-Compound number statements)) ∙ fold-roll-Stmt Bool statement_held (layer.Compound number statements) ∙ so

pub held_choice : (number : ℕ) (condition : Expr) (consequence : Box Stmt Global) (alternative : Option (Box Stmt Global)) → is_ordinal_expr condition ≡ true
    → is_held_stmt consequence.value ≡ true → is_held_else alternative ≡ true → is_held_stmt (stmt.If number condition consequence alternative) ≡ true
held_choice number condition consequence None so also other =
    ap is_held_stmt (sym (stmt.rolls-If number condition consequence None))
    ∙ fold-roll-Stmt Bool statement_held (layer.If number condition consequence None) ∙ three _ _ true so also refl
held_choice number condition consequence (Some alternative) so also other =
    ap is_held_stmt (sym (stmt.rolls-If number condition consequence (Some alternative)))
    ∙ fold-roll-Stmt Bool statement_held (layer.If number condition consequence (Some alternative)) ∙ three _ _ _ so also other

pub held_while : (head : LoopHead) (body : Box Stmt Global) → is_ordinal_expr head.condition ≡ true → is_held_stmt body.value ≡ true
    → is_held_stmt (stmt.While head body) ≡ true
held_while head body so also =
    ap is_held_stmt (sym (stmt.rolls-While head body)) ∙ fold-roll-Stmt Bool statement_held (layer.While head body) ∙ both _ _ so also

pub held_repeat : (head : LoopHead) (statements : Vec Stmt Global) → all_hold (map is_held_stmt statements.items) ≡ true
    → is_ordinal_expr head.condition ≡ true → is_held_stmt (stmt.Repeat head statements) ≡ true
held_repeat head statements so also =
    ap is_held_stmt (sym (stmt.rolls-Repeat head statements)) ∙ fold-roll-Stmt Bool statement_held (layer.Repeat head statements) ∙ both _ _ so also

pub held_for : (head : ForHead) (body : Box Stmt Global) → is_ordinal_expr head.first.value ≡ true → is_ordinal_expr head.last.value ≡ true
    → is_held_stmt body.value ≡ true → is_held_stmt (stmt.For head body) ≡ true
held_for head body so also within =
    ap is_held_stmt (sym (stmt.rolls-For head body)) ∙ fold-roll-Stmt Bool statement_held (layer.For head body) ∙ three _ _ _ so also within

pub held_case : (head : CaseHead) (arms : Vec Stmt Global) → is_ordinal_expr head.index ≡ true → all_hold (map is_held_stmt arms.items) ≡ true
    → is_held_stmt (stmt.Case head arms) ≡ true
held_case head arms so also =
    ap is_held_stmt (sym (stmt.rolls-Case head arms)) ∙ fold-roll-Stmt Bool statement_held (layer.Case head arms) ∙ both _ _ so also

pub held_with : (head : WithHead) (body : Box Stmt Global) → all_hold (map is_held_record head.records.items) ≡ true → is_held_stmt body.value ≡ true
    → is_held_stmt (stmt.With head body) ≡ true
held_with head body so also =
    ap is_held_stmt (sym (stmt.rolls-With head body)) ∙ fold-roll-Stmt Bool statement_held (layer.With head body) ∙ both _ _ so also
