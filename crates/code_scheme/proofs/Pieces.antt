-- Pieces of code, one after another.
use Rattle.std.proofs.Common.{◌≡◌, ℕ, ◌+◌, ◌<◌, ◌≤◌, max, length, length-append, take, get_or, List, [], ◌∷◌, ◌++◌, map, refl, ap, sym, ◌∙◌}
use Rattle.std.proofs.Common.{arith, Some, None}
use Rattle.std.specs.List.{flat_map}
use Rattle.std.specs.Prelude.{ℤ, fold}
use Rattle.std.proofs.lemmas.List.Sums.{fold_push}
use Rattle.std.proofs.lemmas.Simd.{map-map}
use Rattle.std.proofs.lemmas.List.{take_more, map_push}
use Rattle.std.specs.Global.{Vec, Box}
use Rattle.pcode_assembler.specs.declared.instr.Instr.{Instr}
use Rattle.typed_tree.specs.declared.tree.Access.{Access}
use Rattle.typed_tree.specs.declared.tree.RangeTest.{RangeTest}
use Rattle.typed_tree.specs.declared.tree.Whole.{Whole}
use Rattle.types.specs.declared.form.TypeId.{TypeId}
use Rattle.typed_tree.specs.declared.tree.Expr.{Expr}
use Rattle.typed_tree.specs.declared.tree.Link.{Link}
use Rattle.typed_tree.specs.declared.tree.Call.{Call}
use Rattle.typed_tree.specs.declared.tree.Passed.{Passed}
use Rattle.typed_tree.specs.declared.tree.Passed.TheVariants as actual
use Rattle.typed_tree.specs.declared.tree.Scalar.{Scalar}
use Rattle.typed_tree.specs.declared.tree.Expr.TheVariants.{Variable, rolls-Variable, Chain, rolls-Chain, Monadic as MonadicOf, rolls-Monadic}
use Rattle.typed_tree.specs.declared.tree.Expr.TheVariants.{Compare, rolls-Compare, Call as CallOf, rolls-Call as rolls-CallOf, Set, rolls-Set}
use Rattle.typed_tree.specs.declared.tree.Monadic.{Monadic}
use Rattle.typed_tree.specs.declared.tree.Relation.{Relation}
use Rattle.typed_tree.specs.declared.tree.Expr.TheOpen.Expr-F.{Variable as Variable-layer, Chain as Chain-layer, Monadic as Monadic-layer}
use Rattle.typed_tree.specs.declared.tree.Expr.TheOpen.Expr-F.{Compare as Compare-layer, Call as CallOf-layer, Set as Set-layer}
use Rattle.typed_tree.specs.declared.tree.Expr.TheOpen.Passed-F.{Value as Value-layer, Whole as Whole-layer, Reference as Reference-layer}
use Rattle.typed_tree.specs.declared.tree.Expr.TheFolds.{fold-roll-Expr, fold-roll-Passed, fold_out-Link}
use Rattle.typed_tree.specs.declared.tree.LoopHead.{LoopHead}
use Rattle.typed_tree.specs.declared.tree.ForHead.{ForHead}
use Rattle.typed_tree.specs.declared.tree.CaseHead.{CaseHead}
use Rattle.typed_tree.specs.declared.tree.WithHead.{WithHead}
use Rattle.typed_tree.specs.declared.tree.Designator.{Designator}
use Rattle.typed_tree.specs.declared.tree.Stmt.{Stmt}
use Rattle.typed_tree.specs.declared.tree.Stmt.TheVariants.{Compound, rolls-Compound, If}
use Rattle.typed_tree.specs.declared.tree.Stmt.TheVariants.{rolls-If, While, rolls-While, Repeat, rolls-Repeat, For, rolls-For, Case, rolls-Case}
use Rattle.typed_tree.specs.declared.tree.Stmt.TheVariants.{With, rolls-With}
use Rattle.typed_tree.specs.declared.tree.Stmt.TheOpen.Stmt-F.{Compound as Compound-layer}
use Rattle.typed_tree.specs.declared.tree.Stmt.TheOpen.Stmt-F.{If as If-layer, While as While-layer, Repeat as Repeat-layer, For as For-layer}
use Rattle.typed_tree.specs.declared.tree.Stmt.TheOpen.Stmt-F.{Case as Case-layer, With as With-layer}
use Rattle.typed_tree.specs.declared.tree.Stmt.TheFolds.{fold-roll-Stmt}
use Rattle.typed_tree.specs.WellFormed.{length_of}
use Rattle.code_scheme.specs.Scopes.{Scope, holding}
use Rattle.code_scheme.specs.Code.{joined, placed, Placed, if_code, if_else_code, while_code, repeat_code, for_code, for_entry, for_begin, for_next}
use Rattle.code_scheme.specs.Code.{for_end, case_code, dyadic_code, monadic_code, expr_step, link_step, expr_code, link_code, variable_code}
use Rattle.code_scheme.specs.Code.{stmt_step, stmt_code, compare_code, whole_code, set_code, with_code}
use Rattle.code_scheme.specs.Code.{address_code, call_code, index_codes, passed_code, passed_step, statements_code, value_check}
use Rattle.code_scheme.specs.Depth.{arms_depth, expr_depth}
use Rattle.code_scheme.specs.Depth.{access_depth, call_depth, expr_depth_step, index_depths, link_depth, link_depth_step, passed_depth, passed_depth_step}
use Rattle.code_scheme.specs.Depth.{PassedDepth, actuals_depth, designators_depth, whole_depth}
use Rattle.code_scheme.specs.Sizes.{capped}

-- the pieces of a list, one for each element
pub joined-map : {X : Type 0} (piece_of : X → List Instr) (xs : List X) → joined (map piece_of xs) ≡ flat_map piece_of xs
joined-map piece_of [] = refl
joined-map piece_of (x ∷ xs) = ap (λ rest. piece_of x ++ rest) (joined-map piece_of xs)

-- a chain: its first operand, and each of its links
pub expr_code-Chain : (scope : Scope) (first : Box Expr) (rest : Vec Link)
    → expr_code scope (Chain first rest) ≡ expr_code scope first.value ++ flat_map (link_code scope) rest.items
expr_code-Chain scope first rest =
    ap (expr_code scope) (sym (rolls-Chain first rest))
    ∙ fold-roll-Expr (List Instr) (List Instr) (List Instr) (expr_step scope) (passed_step scope) link_step (Chain-layer first rest)
    ∙ ap (λ p. expr_code scope first.value ++ p) (joined-map (link_code scope) rest.items)

-- the value of a variable or of a component
pub expr_code-Variable : (scope : Scope) (access : Access) (indexes : Vec Expr) (holds : Scalar) (defined : ℕ)
    → expr_code scope (Variable access indexes holds defined) ≡ variable_code scope access (index_codes scope indexes.items) defined
expr_code-Variable scope access indexes holds defined =
    ap (expr_code scope) (sym (rolls-Variable access indexes holds defined))
    ∙ fold-roll-Expr (List Instr) (List Instr) (List Instr) (expr_step scope) (passed_step scope) link_step (Variable-layer access indexes holds defined)

-- a relation of two whole values
pub expr_code-Compare : (scope : Scope) (number : ℕ) (r : Relation) (left : Whole) (left_indexes : Vec Expr) (right : Whole) (right_indexes : Vec Expr)
    → expr_code scope (Compare number r left left_indexes right right_indexes) ≡ compare_code r (length_of left)
    (whole_code scope left (index_codes scope left_indexes.items)) (whole_code scope right (index_codes scope right_indexes.items))
expr_code-Compare scope number r left left_indexes right right_indexes =
    ap (expr_code scope) (sym (rolls-Compare number r left left_indexes right right_indexes))
    ∙ fold-roll-Expr (List Instr) (List Instr) (List Instr) (expr_step scope) (passed_step scope) link_step
    (Compare-layer number r left left_indexes right right_indexes)

-- a call of a function
pub expr_code-Call : (scope : Scope) (call : Call) (actuals : Vec Passed)
    → expr_code scope (CallOf call actuals) ≡ call_code scope call (map (passed_code scope) actuals.items)
expr_code-Call scope call actuals =
    ap (expr_code scope) (sym (rolls-CallOf call actuals))
    ∙ fold-roll-Expr (List Instr) (List Instr) (List Instr) (expr_step scope) (passed_step scope) link_step (CallOf-layer call actuals)

-- a set constructor
pub expr_code-Set : (scope : Scope) (number : ℕ) (designators : Vec Designator) (members : Vec Expr)
    → expr_code scope (Set number designators members) ≡ set_code designators.items (map (expr_code scope) members.items)
expr_code-Set scope number designators members =
    ap (expr_code scope) (sym (rolls-Set number designators members))
    ∙ fold-roll-Expr (List Instr) (List Instr) (List Instr) (expr_step scope) (passed_step scope) link_step (Set-layer number designators members)

-- what is passed: a value, a copy, a variable
pub passed_code-Value : (scope : Scope) (value : Expr) (fits : RangeTest)
    → passed_code scope (actual.Value value fits) ≡ expr_code scope value ++ (value_check fits ∷ [])
passed_code-Value scope value fits =
    ap (passed_code scope) (sym (actual.rolls-Value value fits))
    ∙ fold-roll-Passed (List Instr) (List Instr) (List Instr) (expr_step scope) (passed_step scope) link_step (Value-layer value fits)

pub passed_code-Whole : (scope : Scope) (type_id : TypeId) (value : Whole) (indexes : Vec Expr)
    → passed_code scope (actual.Whole type_id value indexes) ≡ whole_code scope value (index_codes scope indexes.items)
passed_code-Whole scope type_id value indexes =
    ap (passed_code scope) (sym (actual.rolls-Whole type_id value indexes))
    ∙ fold-roll-Passed (List Instr) (List Instr) (List Instr) (expr_step scope) (passed_step scope) link_step (Whole-layer type_id value indexes)

pub passed_code-Reference : (scope : Scope) (type_id : TypeId) (access : Access) (indexes : Vec Expr)
    → passed_code scope (actual.Reference type_id access indexes) ≡ address_code scope access (index_codes scope indexes.items)
passed_code-Reference scope type_id access indexes =
    ap (passed_code scope) (sym (actual.rolls-Reference type_id access indexes))
    ∙ fold-roll-Passed (List Instr) (List Instr) (List Instr) (expr_step scope) (passed_step scope) link_step (Reference-layer type_id access indexes)

-- the greatest of some numbers is no less than the one that they begin with
pub start_within : (d : ℕ) (ds : List ℕ) → d ≤ fold max d ds
start_within d [] = omega arith
start_within d (e ∷ ds) = let r = start_within (max d e) ds in omega arith

-- a compound statement: each of its statements
pub stmt_code-Compound : (scope : Scope) (place number : ℕ) (statements : Vec Stmt)
    → stmt_code (Compound number statements) scope place ≡ statements_code scope statements.items place
stmt_code-Compound scope place number statements =
    ap (λ s. stmt_code s scope place) (sym (rolls-Compound number statements))
    ∙ ap (λ code. code scope place) (fold-roll-Stmt Placed stmt_step (Compound-layer number statements))
    ∙ ap (λ pieces. placed pieces place) (map-map (λ code. code scope) stmt_code statements.items)

-- an if statement without `else`, and one with it
pub stmt_code-If : (scope : Scope) (place number : ℕ) (condition : Expr) (consequence : Box Stmt)
    → stmt_code (If number condition consequence None) scope place ≡ if_code (expr_code scope condition) (stmt_code consequence.value) scope place
stmt_code-If scope place number condition consequence =
    ap (λ s. stmt_code s scope place) (sym (rolls-If number condition consequence None))
    ∙ ap (λ code. code scope place) (fold-roll-Stmt Placed stmt_step (If-layer number condition consequence None))

pub stmt_code-If-else : (scope : Scope) (place number : ℕ) (condition : Expr) (consequence alternative : Box Stmt)
    → stmt_code (If number condition consequence (Some alternative)) scope place ≡ if_else_code (expr_code scope condition) (stmt_code consequence.value)
    (stmt_code alternative.value) scope place
stmt_code-If-else scope place number condition consequence alternative =
    ap (λ s. stmt_code s scope place) (sym (rolls-If number condition consequence (Some alternative)))
    ∙ ap (λ code. code scope place) (fold-roll-Stmt Placed stmt_step (If-layer number condition consequence (Some alternative)))

-- a while statement, and a repeat statement
pub stmt_code-While : (scope : Scope) (place : ℕ) (head : LoopHead) (body : Box Stmt)
    → stmt_code (While head body) scope place ≡ while_code (expr_code scope head.condition) (stmt_code body.value) scope place
stmt_code-While scope place head body =
    ap (λ s. stmt_code s scope place) (sym (rolls-While head body))
    ∙ ap (λ code. code scope place) (fold-roll-Stmt Placed stmt_step (While-layer head body))

pub stmt_code-Repeat : (scope : Scope) (place : ℕ) (head : LoopHead) (statements : Vec Stmt)
    → stmt_code (Repeat head statements) scope place ≡ repeat_code (statements_code scope statements.items) (expr_code scope head.condition) place
stmt_code-Repeat scope place head statements =
    ap (λ s. stmt_code s scope place) (sym (rolls-Repeat head statements))
    ∙ ap (λ code. code scope place) (fold-roll-Stmt Placed stmt_step (Repeat-layer head statements))
    ∙ ap (λ pieces. repeat_code (placed pieces) (expr_code scope head.condition) place) (map-map (λ code. code scope) stmt_code statements.items)

-- a for statement
pub stmt_code-For : (scope : Scope) (place : ℕ) (head : ForHead) (body : Box Stmt)
    → stmt_code (For head body) scope place ≡ for_code head (stmt_code body.value) scope place
stmt_code-For scope place head body =
    ap (λ s. stmt_code s scope place) (sym (rolls-For head body))
    ∙ ap (λ code. code scope place) (fold-roll-Stmt Placed stmt_step (For-layer head body))

pub length-For : (head : ForHead) (body : Placed) (scope : Scope) (place : ℕ)
    → length (for_code head body scope place) ≡ length (expr_code scope head.first.value) + length (expr_code scope head.last.value) + 10 + length
    (body (holding 2 scope) (place + length (expr_code scope head.first.value) + length (expr_code scope head.last.value) + 8 + 2)) + 13
length-For head body scope place =
    let first = expr_code scope head.first.value in
    let last = expr_code scope head.last.value in
    let round = place + length first + length last + 8 in
    let inside = body (holding 2 scope) (round + 2) in
    let out = round + 2 + length inside + 9 in
    let entry = for_entry scope head out in
    let begin = for_begin scope head.control in
    let next = for_next scope head.direction round out in
    let done = for_end scope head.control in
    omega (
      arith,
      length-append first (last ++ (entry ++ (begin ++ (inside ++ (next ++ done))))),
      length-append last (entry ++ (begin ++ (inside ++ (next ++ done)))),
      length-append entry (begin ++ (inside ++ (next ++ done))),
      length-append begin (inside ++ (next ++ done)),
      length-append inside (next ++ done),
      length-append next done,
    )

-- a case statement
pub stmt_code-Case : (scope : Scope) (place : ℕ) (head : CaseHead) (arms : Vec Stmt)
    → stmt_code (Case head arms) scope place ≡ case_code head (map stmt_code arms.items) scope place
stmt_code-Case scope place head arms =
    ap (λ s. stmt_code s scope place) (sym (rolls-Case head arms))
    ∙ ap (λ code. code scope place) (fold-roll-Stmt Placed stmt_step (Case-layer head arms))

-- a with statement
pub stmt_code-With : (scope : Scope) (place : ℕ) (head : WithHead) (body : Box Stmt)
    → stmt_code (With head body) scope place ≡ with_code head.records.items (stmt_code body.value) scope place
stmt_code-With scope place head body =
    ap (λ s. stmt_code s scope place) (sym (rolls-With head body))
    ∙ ap (λ code. code scope place) (fold-roll-Stmt Placed stmt_step (With-layer head body))

-- how many cells an expression needs that accesses a variable, or compares two whole values
pub expr_depth-Variable : (access : Access) (indexes : Vec Expr) (holds : Scalar) (defined : ℕ)
    → expr_depth (Variable access indexes holds defined) ≡ access_depth access.selectors.items (index_depths indexes.items)
expr_depth-Variable access indexes holds defined =
    ap expr_depth (sym (rolls-Variable access indexes holds defined))
    ∙ fold-roll-Expr ℕ PassedDepth ℕ expr_depth_step passed_depth_step link_depth_step (Variable-layer access indexes holds defined)

pub expr_depth-Chain : (first : Box Expr) (rest : Vec Link)
    → expr_depth (Chain first rest) ≡ fold max (expr_depth first.value) (map link_depth rest.items)
expr_depth-Chain first rest =
    ap expr_depth (sym (rolls-Chain first rest))
    ∙ fold-roll-Expr ℕ PassedDepth ℕ expr_depth_step passed_depth_step link_depth_step (Chain-layer first rest)

pub expr_depth-Compare : (number : ℕ) (r : Relation) (left : Whole) (left_indexes : Vec Expr) (right : Whole) (right_indexes : Vec Expr)
    → expr_depth (Compare number r left left_indexes right right_indexes) ≡ max (whole_depth left (index_depths left_indexes.items))
    (max (whole_depth right (index_depths right_indexes.items) + length_of left) 2)
expr_depth-Compare number r left left_indexes right right_indexes =
    ap expr_depth (sym (rolls-Compare number r left left_indexes right right_indexes))
    ∙ fold-roll-Expr ℕ PassedDepth ℕ expr_depth_step passed_depth_step link_depth_step (Compare-layer number r left left_indexes right right_indexes)

-- a set constructor
pub expr_depth-Set : (number : ℕ) (designators : Vec Designator) (members : Vec Expr)
    → expr_depth (Set number designators members) ≡ designators_depth 0 designators.items (map expr_depth members.items)
expr_depth-Set number designators members =
    ap expr_depth (sym (rolls-Set number designators members))
    ∙ fold-roll-Expr ℕ PassedDepth ℕ expr_depth_step passed_depth_step link_depth_step (Set-layer number designators members)

-- a call of a function, and what is passed
pub expr_depth-Call : (call : Call) (actuals : Vec Passed) → expr_depth (CallOf call actuals) ≡ call_depth (map passed_depth actuals.items)
expr_depth-Call call actuals =
    ap expr_depth (sym (rolls-CallOf call actuals))
    ∙ fold-roll-Expr ℕ PassedDepth ℕ expr_depth_step passed_depth_step link_depth_step (CallOf-layer call actuals)

pub passed_depth-Value : (value : Expr) (fits : RangeTest) → passed_depth (actual.Value value fits) ≡ record { depth = expr_depth value; cells = 1 }
passed_depth-Value value fits =
    ap passed_depth (sym (actual.rolls-Value value fits))
    ∙ fold-roll-Passed ℕ PassedDepth ℕ expr_depth_step passed_depth_step link_depth_step (Value-layer value fits)

pub passed_depth-Whole : (type_id : TypeId) (value : Whole) (indexes : Vec Expr)
    → passed_depth (actual.Whole type_id value indexes) ≡ record { depth = whole_depth value (index_depths indexes.items); cells = length_of value }
passed_depth-Whole type_id value indexes =
    ap passed_depth (sym (actual.rolls-Whole type_id value indexes))
    ∙ fold-roll-Passed ℕ PassedDepth ℕ expr_depth_step passed_depth_step link_depth_step (Whole-layer type_id value indexes)

pub passed_depth-Reference : (type_id : TypeId) (access : Access) (indexes : Vec Expr)
    → passed_depth (actual.Reference type_id access indexes) ≡ record {
      depth = access_depth access.selectors.items (index_depths indexes.items);
      cells = 1;
    }
passed_depth-Reference type_id access indexes =
    ap passed_depth (sym (actual.rolls-Reference type_id access indexes))
    ∙ fold-roll-Passed ℕ PassedDepth ℕ expr_depth_step passed_depth_step link_depth_step (Reference-layer type_id access indexes)

-- no arm behind the last one needs a cell
pub arms_depth-none : (rows : List (Vec ℤ)) → arms_depth rows [] ≡ 0
arms_depth-none [] = refl
arms_depth-none (row ∷ rows) = refl

-- the greatest depth so far, and one more
pub greatest_one_more : {X : Type 0} (depth_of : X → ℕ) (first : ℕ) (xs : List X) (i : ℕ) (x : X) → i < length xs → x ≡ get_or xs i x
    → fold max first (map depth_of (take (i + 1) xs)) ≡ max (fold max first (map depth_of (take i xs))) (depth_of x)
greatest_one_more depth_of first xs i x h here =
    ap (λ ys. fold max first (map depth_of ys)) (take_more xs i x h) ∙ ap (fold max first) (map_push depth_of (take i xs) (get_or xs i x))
    ∙ fold_push max first (map depth_of (take i xs)) (depth_of (get_or xs i x))
    ∙ ap (λ y. max (fold max first (map depth_of (take i xs))) (depth_of y)) (sym here)

-- a link: its operand, and its operation
pub link_code-is : (scope : Scope) (link : Link) → link_code scope link ≡ expr_code scope link.operand ++ dyadic_code link.operation
link_code-is scope link = fold_out-Link (List Instr) (List Instr) (List Instr) (expr_step scope) (passed_step scope) link_step link

-- an operation on one operand
pub expr_code-Monadic : (scope : Scope) (number : ℕ) (operation : Monadic) (operand : Box Expr)
    → expr_code scope (MonadicOf number operation operand) ≡ expr_code scope operand.value ++ monadic_code operation
expr_code-Monadic scope number operation operand =
    ap (expr_code scope) (sym (rolls-Monadic number operation operand))
    ∙ fold-roll-Expr (List Instr) (List Instr) (List Instr) (expr_step scope) (passed_step scope) link_step (Monadic-layer number operation operand)

-- actual parameters need as much behind counts of cells that are the same in 32 bits
pub depth_alike : (held other : ℕ) (depths : List PassedDepth) → capped held ≡ capped other
    → capped (actuals_depth held depths) ≡ capped (actuals_depth other depths)
depth_alike held other [] same = same
depth_alike held other (d ∷ depths) same =
    let rest = depth_alike (held + d.cells) (other + d.cells) depths (omega (arith, same)) in
    omega (arith, same, rest)
