-- How the forms of a typed tree look, as code builds them; and that the look of a tree tells its entries, and whether its
-- blocks are well formed.
use Rattle.std.proofs.Common.{◌≡◌, ℕ, ℤ, true, false, [], ◌∷◌, ◌++◌, length, map, Some, None, sym, ap, ◌∙◌}
use Rattle.std.proofs.Common.{Box, Vec}
use Rattle.std.specs.Prelude.{flat_map}
use Rattle.std.specs.declared.alloc.Global.{Global}
use Rattle.std.proofs.lemmas.List.{length-map}
use Rattle.std.proofs.lemmas.List.Folds.{flat_map-map}
use Rattle.types.specs.declared.form.TypeId.{TypeId}
use Rattle.typed_tree.specs.declared.tree.Access.{Access}
use Rattle.typed_tree.specs.declared.tree.Designator.{Designator}
use Rattle.typed_tree.specs.declared.tree.Monadic.{Monadic as MonadicOperation}
use Rattle.typed_tree.specs.declared.tree.RangeTest.{RangeTest}
use Rattle.typed_tree.specs.declared.tree.Scalar.{Scalar}
use Rattle.typed_tree.specs.declared.tree.Relation.{Relation}
use Rattle.typed_tree.specs.declared.tree.Dyadic.TheVariants as dyadic
use Rattle.typed_tree.specs.declared.tree.Whole.{Whole}
use Rattle.typed_tree.specs.declared.tree.Call.{Call}
use Rattle.typed_tree.specs.declared.tree.Assignment.{Assignment}
use Rattle.typed_tree.specs.declared.tree.CaseHead.{CaseHead}
use Rattle.typed_tree.specs.declared.tree.Copying.{Copying}
use Rattle.typed_tree.specs.declared.tree.ForHead.{ForHead}
use Rattle.typed_tree.specs.declared.tree.LoopHead.{LoopHead}
use Rattle.typed_tree.specs.declared.tree.ProcedureCall.{ProcedureCall}
use Rattle.typed_tree.specs.declared.tree.WithHead.{WithHead}
use Rattle.typed_tree.specs.declared.tree.Writing.{Writing}
use Rattle.typed_tree.specs.declared.tree.Reading.{Reading}
use Rattle.typed_tree.specs.declared.tree.InputTest.{InputTest}
use Rattle.typed_tree.specs.declared.tree.Expr.{Expr}
use Rattle.typed_tree.specs.declared.tree.Passed.{Passed}
use Rattle.typed_tree.specs.declared.tree.Passed.TheVariants as actual
use Rattle.typed_tree.specs.declared.tree.Link.{Link}
use Rattle.typed_tree.specs.declared.tree.Expr.TheVariants as tree
use Rattle.typed_tree.specs.declared.tree.Expr.TheOpen as layer
use Rattle.typed_tree.specs.declared.tree.Expr.TheViews.{roll-Link, out-Link}
use Rattle.typed_tree.specs.declared.tree.Expr.TheFolds.{fold-roll-Expr, fold-roll-Passed, fold-roll-Link, fold_out-Link}
use Rattle.typed_tree.specs.declared.tree.Stmt.{Stmt}
use Rattle.typed_tree.specs.declared.tree.Stmt.TheVariants as stmt
use Rattle.typed_tree.specs.declared.tree.Stmt.TheOpen as stmt_layer
use Rattle.typed_tree.specs.declared.tree.Stmt.TheFolds.{fold-roll-Stmt}
use Rattle.typed_tree.specs.Look.{passed_look, look_call, look_passed, ForValue, ForWhole, ForVariable}
use Rattle.typed_tree.specs.Look.{Look, link_look, expression_look, look_expr, look_link, look_parameter, statement_look, look_stmt, Constant, Value}
use Rattle.typed_tree.specs.Look.{Operation, Applied, Begins, Operator, Ends, Empty, Assign, Target, Fits, Write, Compound, If, Then, Else, While, Do, Repeat}
use Rattle.typed_tree.specs.Look.{Until, For, Controls, ForEnds, Case, arms_look, look_whole, look_access, compared, WholeTarget, Copied}
use Rattle.typed_tree.specs.Look.{Constructs, Constructed, With, WithEnds, look_record, Read, Input, look_read}
use Rattle.typed_tree.specs.Accesses.{AtVariable, origin_of}
use Rattle.typed_tree.specs.Entries.{joined}
use Rattle.typed_tree.specs.WellFormed.{length_of, source_of}
pub use Rattle.typed_tree.proofs.Measured.{entries_are}

-- how an actual parameter looks, for a callee and the place of a formal one
abbrev Passing : Type 0
Passing = ℕ → ℕ → Look

-- ---- expressions

pub look_constant : (number : ℕ) (value : ℤ) → look_expr (tree.Constant number value) ≡ Constant number value ∷ []
look_constant number value =
    ap look_expr (sym (tree.rolls-Constant number value)) ∙ fold-roll-Expr Look Passing Look expression_look passed_look link_look (layer.Constant number value)

pub look_variable : (access : Access) (indexes : Vec Expr Global) (held : Scalar) (defined : ℕ)
    → look_expr (tree.Variable access indexes held defined)
    ≡ look_access access indexes.items (Value (origin_of access) access.selectors.items (length indexes.items) held defined)
look_variable access indexes held defined =
    ap look_expr (sym (tree.rolls-Variable access indexes held defined))
    ∙ fold-roll-Expr Look Passing Look expression_look passed_look link_look (layer.Variable access indexes held defined)
    ∙ ap (λ count. look_access access indexes.items (Value (origin_of access) access.selectors.items count held defined)) (length-map indexes.items look_expr)

pub look_monadic : (number : ℕ) (operation : MonadicOperation) (operand : Box Expr Global)
    → look_expr (tree.Monadic number operation operand) ≡ Operation number ∷ (look_expr operand.value ++ (Applied operation ∷ []))
look_monadic number operation operand =
    ap look_expr (sym (tree.rolls-Monadic number operation operand))
    ∙ fold-roll-Expr Look Passing Look expression_look passed_look link_look (layer.Monadic number operation operand)

pub look_chain : (first : Box Expr Global) (rest : Vec Link Global)
    → look_expr (tree.Chain first rest) ≡ Begins ∷ (look_expr first.value ++ (flat_map look_link rest.items ++ (Ends ∷ [])))
look_chain first rest =
    ap look_expr (sym (tree.rolls-Chain first rest)) ∙ fold-roll-Expr Look Passing Look expression_look passed_look link_look (layer.Chain first rest)
    ∙ ap (λ links. Begins ∷ (look_expr first.value ++ (links ++ (Ends ∷ [])))) (flat_map-map (λ (row : Look). row) look_link rest.items)

pub look_compare : (number : ℕ) (relation : Relation) (left : Whole) (left_indexes : Vec Expr Global) (right : Whole) (right_indexes : Vec Expr Global)
    → look_expr (tree.Compare number relation left left_indexes right right_indexes)
    ≡ Begins
    ∷ (look_whole left left_indexes.items
    ++ (Operator number (dyadic.Relation relation)
    ∷ (look_whole right right_indexes.items ++ (compared left right ∷ Ends ∷ []))))
look_compare number relation left left_indexes right right_indexes =
    ap look_expr (sym (tree.rolls-Compare number relation left left_indexes right right_indexes))
    ∙ fold-roll-Expr Look Passing Look expression_look passed_look link_look (layer.Compare number relation left left_indexes right right_indexes)

pub look_function_call : (call : Call) (actuals : Vec Passed Global) → look_expr (tree.Call call actuals) ≡ look_call true call actuals.items
look_function_call call actuals =
    ap look_expr (sym (tree.rolls-Call call actuals))
    ∙ fold-roll-Expr Look Passing Look expression_look passed_look link_look (layer.Call call actuals)

pub look_input : (number : ℕ) (asks : InputTest) → look_expr (tree.Input number asks) ≡ Input number asks ∷ []
look_input number asks =
    ap look_expr (sym (tree.rolls-Input number asks)) ∙ fold-roll-Expr Look Passing Look expression_look passed_look link_look (layer.Input number asks)

pub look_set : (number : ℕ) (designators : Vec Designator Global) (members : Vec Expr Global)
    → look_expr (tree.Set number designators members)
    ≡ Constructs number ∷ (flat_map look_expr members.items ++ (Constructed designators.items (length members.items) ∷ []))
look_set number designators members =
    ap look_expr (sym (tree.rolls-Set number designators members))
    ∙ fold-roll-Expr Look Passing Look expression_look passed_look link_look (layer.Set number designators members)
    ∙ ap (λ count. Constructs number ∷ (joined (map look_expr members.items) ++ (Constructed designators.items count ∷ [])))
    (length-map members.items look_expr)
    ∙ ap (λ looks. Constructs number ∷ (looks ++ (Constructed designators.items (length members.items) ∷ [])))
    (flat_map-map (λ (row : Look). row) look_expr members.items)

-- ---- actual parameters, for a callee and the place of a formal one

pub look_passed_value : (value : Expr) (fits : RangeTest) (callee position : ℕ)
    → look_passed (actual.Value value fits) callee position ≡ look_expr value ++ (ForValue fits callee position ∷ [])
look_passed_value value fits callee position =
    ap (λ p. look_passed p callee position) (sym (actual.rolls-Value value fits))
    ∙ ap (λ look. look callee position) (fold-roll-Passed Look Passing Look expression_look passed_look link_look (layer.Value value fits))

pub look_passed_whole : (type_id : TypeId) (value : Whole) (indexes : Vec Expr Global) (callee position : ℕ)
    → look_passed (actual.Whole type_id value indexes) callee position
    ≡ look_whole value indexes.items ++ (ForWhole type_id (source_of value) (length_of value) callee position ∷ [])
look_passed_whole type_id value indexes callee position =
    ap (λ p. look_passed p callee position) (sym (actual.rolls-Whole type_id value indexes))
    ∙ ap (λ look. look callee position) (fold-roll-Passed Look Passing Look expression_look passed_look link_look (layer.Whole type_id value indexes))

pub look_passed_variable : (type_id : TypeId) (access : Access) (indexes : Vec Expr Global) (callee position : ℕ)
    → look_passed (actual.Reference type_id access indexes) callee position
    ≡ look_access access indexes.items (ForVariable type_id (origin_of access) access.selectors.items (length indexes.items) callee position)
look_passed_variable type_id access indexes callee position =
    ap (λ p. look_passed p callee position) (sym (actual.rolls-Reference type_id access indexes))
    ∙ ap (λ look. look callee position) (fold-roll-Passed Look Passing Look expression_look passed_look link_look (layer.Reference type_id access indexes))
    ∙ ap (λ count. look_access access indexes.items (ForVariable type_id (origin_of access) access.selectors.items count callee position))
    (length-map indexes.items look_expr)

-- an operator and its right operand, as they are made
pub look_linked : (link : layer.Link-F Expr Passed Link) → look_link (roll-Link link) ≡ Operator link.number link.operation ∷ look_expr link.operand
look_linked link = fold-roll-Link Look Passing Look expression_look passed_look link_look link

-- the same, as they are read
pub look_link_out : (link : Link) → look_link link ≡ Operator (out-Link link).number (out-Link link).operation ∷ look_expr (out-Link link).operand
look_link_out link = fold_out-Link Look Passing Look expression_look passed_look link_look link

-- ---- statements

pub look_empty : (number : ℕ) → look_stmt (stmt.Empty number) ≡ Empty number ∷ []
look_empty number = ap look_stmt (sym (stmt.rolls-Empty number)) ∙ fold-roll-Stmt Look statement_look (stmt_layer.Empty number)

pub look_assign : (assignment : Assignment)
    → look_stmt (stmt.Assign assignment)
    ≡ Assign assignment.number assignment.becomes
    ∷ (look_access assignment.target assignment.indexes.items
    (Target (origin_of assignment.target) assignment.target.selectors.items (length assignment.indexes.items))
    ++ (look_expr assignment.value ++ (Fits (origin_of assignment.target) assignment.target.selectors.items assignment.fits ∷ [])))
look_assign assignment = ap look_stmt (sym (stmt.rolls-Assign assignment)) ∙ fold-roll-Stmt Look statement_look (stmt_layer.Assign assignment)

pub look_copy : (copying : Copying)
    → look_stmt (stmt.Copy copying)
    ≡ Assign copying.number copying.becomes
    ∷ (look_access copying.target copying.indexes.items
    (WholeTarget (origin_of copying.target) copying.target.selectors.items (length copying.indexes.items) copying.type_id)
    ++ (look_whole copying.value copying.value_indexes.items
    ++ (Copied copying.type_id (source_of copying.value) (length_of copying.value) ∷ [])))
look_copy copying = ap look_stmt (sym (stmt.rolls-Copy copying)) ∙ fold-roll-Stmt Look statement_look (stmt_layer.Copy copying)

pub look_write : (writing : Writing)
    → look_stmt (stmt.Write writing)
    ≡ Write writing.number writing.name writing.ends_line ∷ (flat_map look_parameter writing.parameters.items ++ (Ends ∷ []))
look_write writing = ap look_stmt (sym (stmt.rolls-Write writing)) ∙ fold-roll-Stmt Look statement_look (stmt_layer.Write writing)

pub look_reading : (reading : Reading)
    → look_stmt (stmt.Read reading)
    ≡ Read reading.number reading.name reading.line ∷ (flat_map look_read reading.variables.items ++ (Ends ∷ []))
look_reading reading = ap look_stmt (sym (stmt.rolls-Read reading)) ∙ fold-roll-Stmt Look statement_look (stmt_layer.Read reading)

pub look_procedure_call : (calling : ProcedureCall) → look_stmt (stmt.Call calling) ≡ look_call false calling.call calling.actuals.items
look_procedure_call calling = ap look_stmt (sym (stmt.rolls-Call calling)) ∙ fold-roll-Stmt Look statement_look (stmt_layer.Call calling)

pub look_compound : (number : ℕ) (statements : Vec Stmt Global)
    → look_stmt (stmt.Compound number statements) ≡ Compound number ∷ (flat_map look_stmt statements.items ++ (Ends ∷ []))
look_compound number statements =
    ap look_stmt (sym (stmt.rolls-Compound number statements)) ∙ fold-roll-Stmt Look statement_look (stmt_layer.Compound number statements)
    ∙ ap (λ rows. Compound number ∷ (rows ++ (Ends ∷ []))) (flat_map-map (λ (row : Look). row) look_stmt statements.items)

pub look_if : (number : ℕ) (condition : Expr) (consequence : Box Stmt Global)
    → look_stmt (stmt.If number condition consequence None)
    ≡ If number ∷ (look_expr condition ++ (Then ∷ (look_stmt consequence.value ++ (Ends ∷ []))))
look_if number condition consequence =
    ap look_stmt (sym (stmt.rolls-If number condition consequence None))
    ∙ fold-roll-Stmt Look statement_look (stmt_layer.If number condition consequence None)

pub look_if_else : (number : ℕ) (condition : Expr) (consequence alternative : Box Stmt Global)
    → look_stmt (stmt.If number condition consequence (Some alternative))
    ≡ If number ∷ (look_expr condition ++ (Then ∷ (look_stmt consequence.value ++ (Else ∷ (look_stmt alternative.value ++ (Ends ∷ []))))))
look_if_else number condition consequence alternative =
    ap look_stmt (sym (stmt.rolls-If number condition consequence (Some alternative)))
    ∙ fold-roll-Stmt Look statement_look (stmt_layer.If number condition consequence (Some alternative))

pub look_while : (head : LoopHead) (body : Box Stmt Global)
    → look_stmt (stmt.While head body)
    ≡ While head.number head.loop_number head.place ∷ (look_expr head.condition ++ (Do ∷ (look_stmt body.value ++ (Ends ∷ []))))
look_while head body = ap look_stmt (sym (stmt.rolls-While head body)) ∙ fold-roll-Stmt Look statement_look (stmt_layer.While head body)

pub look_repeat : (head : LoopHead) (statements : Vec Stmt Global)
    → look_stmt (stmt.Repeat head statements)
    ≡ Repeat head.number head.loop_number head.place
    ∷ (flat_map look_stmt statements.items ++ (Until ∷ (look_expr head.condition ++ (Ends ∷ []))))
look_repeat head statements =
    ap look_stmt (sym (stmt.rolls-Repeat head statements))
    ∙ fold-roll-Stmt Look statement_look (stmt_layer.Repeat head statements)
    ∙ ap (λ rows. Repeat head.number head.loop_number head.place ∷ (rows ++ (Until ∷ (look_expr head.condition ++ (Ends ∷ [])))))
    (flat_map-map (λ (row : Look). row) look_stmt statements.items)

pub look_for : (head : ForHead) (body : Box Stmt Global)
    → look_stmt (stmt.For head body)
    ≡ For head.number head.loop_number head.place head.control head.direction
    ∷ (look_expr head.first.value
    ++ (Fits (AtVariable head.control) [] head.first.fits
    ∷ (look_expr head.last.value
    ++ (Fits (AtVariable head.control) [] head.last.fits ∷ Controls head.control ∷ (look_stmt body.value ++ (ForEnds ∷ []))))))
look_for head body = ap look_stmt (sym (stmt.rolls-For head body)) ∙ fold-roll-Stmt Look statement_look (stmt_layer.For head body)

pub look_case : (head : CaseHead) (arms : Vec Stmt Global)
    → look_stmt (stmt.Case head arms)
    ≡ Case head.number head.site
    ∷ (look_expr head.index ++ (arms_look head.constants.items (map look_stmt arms.items) ++ (Ends ∷ [])))
look_case head arms = ap look_stmt (sym (stmt.rolls-Case head arms)) ∙ fold-roll-Stmt Look statement_look (stmt_layer.Case head arms)

pub look_with : (head : WithHead) (body : Box Stmt Global)
    → look_stmt (stmt.With head body)
    ≡ With head.number head.first_slot
    ∷ (flat_map look_record head.records.items ++ (Do ∷ (look_stmt body.value ++ (WithEnds head.first_slot ∷ []))))
look_with head body = ap look_stmt (sym (stmt.rolls-With head body)) ∙ fold-roll-Stmt Look statement_look (stmt_layer.With head body)
