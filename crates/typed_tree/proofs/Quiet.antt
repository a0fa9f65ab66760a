-- What stands inside expressions and statements: no expression holds a loop, and neither holds the end of a block.
use Rattle.std.specs.declared.alloc.Global.{Global}
use Rattle.std.proofs.Common.{Vec, ℤ, ◌≡◌, ℕ, suc, Bool, true, false, List, [], ◌∷◌, ◌++◌, map, Option, Some, None, refl, sym, ap, ap₂, ◌∙◌}
use Rattle.std.specs.Prelude.{flat_map}
use Rattle.std.proofs.lemmas.List.Concat.{flat_map-append}
use Rattle.typed_tree.specs.declared.tree.Width.{Width as TotalWidth}
use Rattle.typed_tree.specs.declared.tree.WithRecord.{WithRecord}
use Rattle.typed_tree.specs.declared.tree.WriteParameter.{WriteParameter}
use Rattle.typed_tree.specs.declared.tree.Written.{Written as WrittenValue}
use Rattle.typed_tree.specs.declared.tree.Written.TheVariants.{Ordinal, String}
use Rattle.typed_tree.specs.declared.tree.Access.{Access}
use Rattle.typed_tree.specs.declared.tree.Call.{Call}
use Rattle.typed_tree.specs.declared.tree.Whole.{Whole}
use Rattle.typed_tree.specs.declared.tree.Whole.TheVariants.{Text as TextOf, Variable as WholeOf}
use Rattle.typed_tree.specs.declared.tree.Expr.{Expr}
use Rattle.typed_tree.specs.declared.tree.Passed.{Passed}
use Rattle.typed_tree.specs.declared.tree.Link.{Link}
use Rattle.typed_tree.specs.declared.tree.Expr.TheOpen.{Expr-F, Passed-F, Link-F}
use Rattle.typed_tree.specs.declared.tree.Expr.TheOpen.Expr-F.{Constant, Variable, Monadic as MonadicOf, Chain, Compare, Call as CallOf, Set, Input}
use Rattle.typed_tree.specs.declared.tree.Expr.TheOpen.Passed-F.{Value as PassedValue, Whole as PassedWhole, Reference}
use Rattle.typed_tree.specs.declared.tree.Expr.TheFolds.{map-Expr, map-Passed, map-Link, fold-roll-Expr, fold-roll-Passed, fold-roll-Link}
use Rattle.typed_tree.specs.declared.tree.Expr.TheFolds.{ind-Expr, ind-Passed}
use Rattle.typed_tree.specs.declared.tree.Expr.TheViews.{roll-Expr, roll-Passed, roll-Link}
use Rattle.typed_tree.specs.declared.tree.Stmt.{Stmt}
use Rattle.typed_tree.specs.declared.tree.Stmt.TheOpen.{Stmt-F}
use Rattle.typed_tree.specs.declared.tree.Stmt.TheOpen.Stmt-F.{Empty, Assign, Write, Compound, If, While, Repeat, For, Case, Copy, Call as Calling, With, Read}
use Rattle.typed_tree.specs.declared.tree.Stmt.TheFolds.{map-Stmt, fold-roll-Stmt, ind-Stmt}
use Rattle.typed_tree.specs.Entries.{joined}
use Rattle.typed_tree.specs.WellFormed.{placed}
use Rattle.typed_tree.specs.Look.{Mark, Look, link_look, passed_look, expression_look, look_expr, look_passed, look_link}
use Rattle.typed_tree.specs.Look.{look_record, look_width, look_parameter, arms_look}
use Rattle.typed_tree.specs.Look.{statement_look, call_look, look_call, look_stmt, look_written, access_look, whole_look, look_access, look_whole}
use Rattle.typed_tree.specs.Look.{mark_loops, loops_of_look, mark_blocks, blocks_of_look}
use Rattle.typed_tree.specs.Look.{look_read}
use Rattle.typed_tree.specs.declared.tree.ReadVariable.{ReadVariable}

-- no block ends in it
abbrev pub Inner : Look → Type 0
Inner look = blocks_of_look look ≡ []

-- neither a loop nor the end of a block
abbrev pub Quiet : Look → Type 0
Quiet look = (loops_of_look look ≡ []) × Inner look

quiet_then : (look rest : Look) → Quiet look → Quiet rest → Quiet (look ++ rest)
quiet_then look rest one other = (
  flat_map-append mark_loops look rest ∙ ap₂ (λ a b. a ++ b) one.0 other.0,
  flat_map-append mark_blocks look rest ∙ ap₂ (λ a b. a ++ b) one.1 other.1,
)

-- ---- expressions

abbrev QuietOne : {X : Type 0} → (X → Look) → Type 0
QuietOne {X} look = (x : X) × Quiet (look x)

-- an actual parameter, whatever the callee and the place
abbrev IsQuietPassed : Passed → Type 0
IsQuietPassed p = (callee position : ℕ) → Quiet (look_passed p callee position)

abbrev QuietPassed : Type 0
QuietPassed = (p : Passed) × IsQuietPassed p

quiet_joined : {X : Type 0} (look : X → Look) (xs : List (QuietOne look)) → Quiet (joined (map look (map (λ x. x.0) xs)))
quiet_joined look [] = (refl, refl)
quiet_joined look (x ∷ xs) = quiet_then (look x.0) (joined (map look (map (λ x. x.0) xs))) x.1 (quiet_joined look xs)

quiet_mapped : {X : Type 0} (look : X → Look) → ((x : X) → Quiet (look x)) → (xs : List X) → Quiet (flat_map look xs)
quiet_mapped look each [] = (refl, refl)
quiet_mapped look each (x ∷ xs) = quiet_then (look x) (flat_map look xs) (each x) (quiet_mapped look each xs)

quiet_placed : (xs : List QuietPassed) (callee position : ℕ) → Quiet (joined (placed callee position (map look_passed (map (λ x. x.0) xs))))
quiet_placed [] callee position = (refl, refl)
quiet_placed (x ∷ xs) callee position =
    quiet_then (look_passed x.0 callee position) (joined (placed callee (suc position) (map look_passed (map (λ x. x.0) xs))))
    (x.1 callee position) (quiet_placed xs callee (suc position))

quiet_access : (access : Access) (looks : List Look) (does : Mark) → Quiet (joined looks) → Quiet (does ∷ []) → Quiet (access_look access looks does)
quiet_access access looks does quiet end = quiet_then (joined looks) (does ∷ []) quiet end

quiet_whole : (value : Whole) (looks : List Look) → Quiet (joined looks) → Quiet (whole_look value looks)
quiet_whole (TextOf number characters) looks quiet = (refl, refl)
quiet_whole (WholeOf access type_id cells defined) looks quiet = quiet_then (joined looks) (_ ∷ []) quiet (refl, refl)

quiet_call : (is_function : Bool) (call : Call) (looks : List (ℕ → ℕ → Look)) → Quiet (joined (placed call.block 0 looks))
    → Quiet (call_look is_function call looks)
quiet_call is_function call looks quiet = quiet_then (joined (placed call.block 0 looks)) (_ ∷ []) quiet (refl, refl)

abbrev bare : Expr-F (QuietOne look_expr) QuietPassed (QuietOne look_link) → Expr-F Expr Passed Link
bare = map-Expr (QuietOne look_expr) QuietPassed (QuietOne look_link) Expr Passed Link (λ e. e.0) (λ p. p.0) (λ l. l.0)

abbrev bare_passed : Passed-F (QuietOne look_expr) QuietPassed (QuietOne look_link) → Passed-F Expr Passed Link
bare_passed = map-Passed (QuietOne look_expr) QuietPassed (QuietOne look_link) Expr Passed Link (λ e. e.0) (λ p. p.0) (λ l. l.0)

abbrev bare_link : Link-F (QuietOne look_expr) QuietPassed (QuietOne look_link) → Link-F Expr Passed Link
bare_link = map-Link (QuietOne look_expr) QuietPassed (QuietOne look_link) Expr Passed Link (λ e. e.0) (λ p. p.0) (λ l. l.0)

abbrev Passing : Type 0
Passing = ℕ → ℕ → Look

-- one layer
abbrev layer : Expr-F Expr Passed Link → Look
layer y = expression_look (map-Expr Expr Passed Link Look Passing Look look_expr look_passed look_link y)

abbrev passed_layer : Passed-F Expr Passed Link → Passing
passed_layer y = passed_look (map-Passed Expr Passed Link Look Passing Look look_expr look_passed look_link y)

abbrev link_layer : Link-F Expr Passed Link → Look
link_layer y = link_look (map-Link Expr Passed Link Look Passing Look look_expr look_passed look_link y)

quiet_layer : (y : Expr-F (QuietOne look_expr) QuietPassed (QuietOne look_link)) → Quiet (layer (bare y))
quiet_layer (Constant number value) = (refl, refl)
quiet_layer (Variable access indexes held defined) =
    quiet_then (joined (map look_expr (map (λ e. e.0) indexes.items))) (_ ∷ []) (quiet_joined look_expr indexes.items) (refl, refl)
quiet_layer (MonadicOf number operation operand) = quiet_then (look_expr operand.value.0) (_ ∷ []) operand.value.1 (refl, refl)
quiet_layer (Chain first rest) =
    let links = joined (map look_link (map (λ l. l.0) rest.items)) in
    quiet_then (look_expr first.value.0) (links ++ (_ ∷ [])) first.value.1 (quiet_then links (_ ∷ []) (quiet_joined look_link rest.items) (refl, refl))
quiet_layer (Compare number relation left left_indexes right right_indexes) =
    let first = whole_look left (map look_expr (map (λ e. e.0) left_indexes.items)) in
    let second = whole_look right (map look_expr (map (λ e. e.0) right_indexes.items)) in
    quiet_then first (_ ∷ (second ++ (_ ∷ _ ∷ [])))
    (quiet_whole left (map look_expr (map (λ e. e.0) left_indexes.items)) (quiet_joined look_expr left_indexes.items))
    (quiet_then second (_ ∷ _ ∷ [])
    (quiet_whole right (map look_expr (map (λ e. e.0) right_indexes.items)) (quiet_joined look_expr right_indexes.items)) (refl, refl))
quiet_layer (CallOf call actuals) = quiet_call true call (map look_passed (map (λ p. p.0) actuals.items)) (quiet_placed actuals.items call.block 0)
quiet_layer (Input number asks) = (refl, refl)
quiet_layer (Set number designators members) =
    quiet_then (joined (map look_expr (map (λ e. e.0) members.items))) (_ ∷ []) (quiet_joined look_expr members.items) (refl, refl)

quiet_passed_layer : (y : Passed-F (QuietOne look_expr) QuietPassed (QuietOne look_link)) (callee position : ℕ)
    → Quiet (passed_layer (bare_passed y) callee position)
quiet_passed_layer (PassedValue value fits) callee position = quiet_then (look_expr value.0) (_ ∷ []) value.1 (refl, refl)
quiet_passed_layer (PassedWhole type_id value indexes) callee position =
    quiet_then (whole_look value (map look_expr (map (λ e. e.0) indexes.items))) (_ ∷ [])
    (quiet_whole value (map look_expr (map (λ e. e.0) indexes.items)) (quiet_joined look_expr indexes.items)) (refl, refl)
quiet_passed_layer (Reference type_id access indexes) callee position =
    quiet_then (joined (map look_expr (map (λ e. e.0) indexes.items))) (_ ∷ []) (quiet_joined look_expr indexes.items) (refl, refl)

quiet_link_layer : (y : Link-F (QuietOne look_expr) QuietPassed (QuietOne look_link)) → Quiet (link_layer (bare_link y))
quiet_link_layer y = y.operand.1

-- two looks are the same
same_quiet : (look other : Look) → other ≡ look → Quiet look → Quiet other
same_quiet look other is quiet = (ap loops_of_look is ∙ quiet.0, ap blocks_of_look is ∙ quiet.1)

of_expr : (x : Expr-F Expr Passed Link) (y : Expr-F (QuietOne look_expr) QuietPassed (QuietOne look_link)) → bare y ≡ x → Quiet (look_expr (roll-Expr x))
of_expr x y is =
    same_quiet (layer (bare y)) (look_expr (roll-Expr x))
    (fold-roll-Expr Look Passing Look expression_look passed_look link_look x ∙ ap layer (sym is)) (quiet_layer y)

of_passed : (x : Passed-F Expr Passed Link) (y : Passed-F (QuietOne look_expr) QuietPassed (QuietOne look_link)) → bare_passed y ≡ x
    → IsQuietPassed (roll-Passed x)
of_passed x y is callee position =
    same_quiet (passed_layer (bare_passed y) callee position) (look_passed (roll-Passed x) callee position)
    (ap (λ look. look callee position) (fold-roll-Passed Look Passing Look expression_look passed_look link_look x)
    ∙ ap (λ z. passed_layer z callee position) (sym is))
    (quiet_passed_layer y callee position)

of_link : (x : Link-F Expr Passed Link) (y : Link-F (QuietOne look_expr) QuietPassed (QuietOne look_link)) → bare_link y ≡ x → Quiet (look_link (roll-Link x))
of_link x y is =
    same_quiet (link_layer (bare_link y)) (look_link (roll-Link x))
    (fold-roll-Link Look Passing Look expression_look passed_look link_look x ∙ ap link_layer (sym is)) (quiet_link_layer y)

pub quiet_expr : (e : Expr) → Quiet (look_expr e)
quiet_expr = ind-Expr (λ e. Quiet (look_expr e)) IsQuietPassed (λ l. Quiet (look_link l)) of_expr of_passed of_link

quiet_passed : (p : Passed) → IsQuietPassed p
quiet_passed = ind-Passed (λ e. Quiet (look_expr e)) IsQuietPassed (λ l. Quiet (look_link l)) of_expr of_passed of_link

quiet_indexes : (indexes : List Expr) → Quiet (joined (map look_expr indexes))
quiet_indexes [] = (refl, refl)
quiet_indexes (index ∷ indexes) = quiet_then (look_expr index) (joined (map look_expr indexes)) (quiet_expr index) (quiet_indexes indexes)

pub quiet_accessed : (access : Access) (indexes : List Expr) (does : Mark) → Quiet (does ∷ []) → Quiet (look_access access indexes does)
quiet_accessed access indexes does end = quiet_access access (map look_expr indexes) does (quiet_indexes indexes) end

pub quiet_value : (value : Whole) (indexes : List Expr) → Quiet (look_whole value indexes)
quiet_value value indexes = quiet_whole value (map look_expr indexes) (quiet_indexes indexes)

quiet_width : (width : Option TotalWidth) → Quiet (look_width width)
quiet_width None = (refl, refl)
quiet_width (Some width) = quiet_then (look_expr width.value) (_ ∷ []) (quiet_expr width.value) (refl, refl)

quiet_written : (value : WrittenValue) → Quiet (look_written value)
quiet_written (Ordinal value representation) = quiet_then (look_expr value) (_ ∷ []) (quiet_expr value) (refl, refl)
quiet_written (String value indexes) = quiet_then (look_whole value indexes.items) (_ ∷ []) (quiet_value value indexes.items) (refl, refl)

quiet_parameter : (parameter : WriteParameter) → Quiet (look_parameter parameter)
quiet_parameter parameter = quiet_then (look_written parameter.value) (look_width parameter.width) (quiet_written parameter.value) (quiet_width parameter.width)

pub quiet_parameters : (parameters : List WriteParameter) → Quiet (flat_map look_parameter parameters)
quiet_parameters = quiet_mapped look_parameter quiet_parameter

quiet_record : (one : WithRecord) → Quiet (look_record one)
quiet_record one = quiet_accessed one.access one.indexes.items _ (refl, refl)

pub quiet_records : (records : List WithRecord) → Quiet (flat_map look_record records)
quiet_records = quiet_mapped look_record quiet_record

quiet_read : (one : ReadVariable) → Quiet (look_read one)
quiet_read one = quiet_accessed one.access one.indexes.items _ (refl, refl)

pub quiet_reads : (variables : List ReadVariable) → Quiet (flat_map look_read variables)
quiet_reads = quiet_mapped look_read quiet_read

quiet_actuals : (actuals : List Passed) (callee position : ℕ) → Quiet (joined (placed callee position (map look_passed actuals)))
quiet_actuals [] callee position = (refl, refl)
quiet_actuals (one ∷ others) callee position =
    quiet_then (look_passed one callee position) (joined (placed callee (suc position) (map look_passed others)))
    (quiet_passed one callee position) (quiet_actuals others callee (suc position))

pub quiet_called : (is_function : Bool) (call : Call) (actuals : List Passed) → Quiet (look_call is_function call actuals)
quiet_called is_function call actuals = quiet_call is_function call (map look_passed actuals) (quiet_actuals actuals call.block 0)

-- ---- statements

inner_then : (look rest : Look) → Inner look → Inner rest → Inner (look ++ rest)
inner_then look rest one other = flat_map-append mark_blocks look rest ∙ ap₂ (λ a b. a ++ b) one other

abbrev InnerStmt : Type 0
InnerStmt = (s : Stmt) × Inner (look_stmt s)

abbrev bare_stmt : Stmt-F InnerStmt → Stmt-F Stmt
bare_stmt = map-Stmt InnerStmt Stmt (λ s. s.0)

inner_joined : (ys : List InnerStmt) → Inner (joined (map look_stmt (map (λ s. s.0) ys)))
inner_joined [] = refl
inner_joined (y ∷ ys) = inner_then (look_stmt y.0) (joined (map look_stmt (map (λ s. s.0) ys))) y.1 (inner_joined ys)

inner_arms : (rows : List (Vec ℤ Global)) (ys : List InnerStmt) → Inner (arms_look rows (map look_stmt (map (λ s. s.0) ys)))
inner_arms [] [] = refl
inner_arms (row ∷ rows) [] = inner_arms rows []
inner_arms [] (y ∷ ys) = inner_then (look_stmt y.0) (arms_look [] (map look_stmt (map (λ s. s.0) ys))) y.1 (inner_arms [] ys)
inner_arms (row ∷ rows) (y ∷ ys) = inner_then (look_stmt y.0) (arms_look rows (map look_stmt (map (λ s. s.0) ys))) y.1 (inner_arms rows ys)

inner_layer : (y : Stmt-F InnerStmt) → Inner (statement_look (map-Stmt Stmt Look look_stmt (bare_stmt y)))
inner_layer (Empty number) = refl
inner_layer (Assign assignment) =
    inner_then (look_access assignment.target assignment.indexes.items _) (look_expr assignment.value ++ (_ ∷ []))
    (quiet_accessed assignment.target assignment.indexes.items _ (refl, refl)).1
    (inner_then (look_expr assignment.value) (_ ∷ []) (quiet_expr assignment.value).1 refl)
inner_layer (Copy copying) =
    inner_then (look_access copying.target copying.indexes.items _) (look_whole copying.value copying.value_indexes.items ++ (_ ∷ []))
    (quiet_accessed copying.target copying.indexes.items _ (refl, refl)).1
    (inner_then (look_whole copying.value copying.value_indexes.items) (_ ∷ []) (quiet_value copying.value copying.value_indexes.items).1 refl)
inner_layer (Write writing) = inner_then (flat_map look_parameter writing.parameters.items) (_ ∷ []) (quiet_parameters writing.parameters.items).1 refl
inner_layer (Read reading) = inner_then (flat_map look_read reading.variables.items) (_ ∷ []) (quiet_reads reading.variables.items).1 refl
inner_layer (Calling calling) = (quiet_called false calling.call calling.actuals.items).1
inner_layer (Compound number statements) = inner_then (joined (map look_stmt (map (λ s. s.0) statements.items))) (_ ∷ []) (inner_joined statements.items) refl
inner_layer (If number condition consequence None) =
    inner_then (look_expr condition) (_ ∷ (look_stmt consequence.value.0 ++ (_ ∷ []))) (quiet_expr condition).1
    (inner_then (look_stmt consequence.value.0) (_ ∷ []) consequence.value.1 refl)
inner_layer (If number condition consequence (Some other)) =
    inner_then (look_expr condition) (_ ∷ (look_stmt consequence.value.0 ++ (_ ∷ (look_stmt other.value.0 ++ (_ ∷ []))))) (quiet_expr condition).1
    (inner_then (look_stmt consequence.value.0) (_ ∷ (look_stmt other.value.0 ++ (_ ∷ []))) consequence.value.1
    (inner_then (look_stmt other.value.0) (_ ∷ []) other.value.1 refl))
inner_layer (While head body) =
    inner_then (look_expr head.condition) (_ ∷ (look_stmt body.value.0 ++ (_ ∷ []))) (quiet_expr head.condition).1
    (inner_then (look_stmt body.value.0) (_ ∷ []) body.value.1 refl)
inner_layer (Repeat head statements) =
    inner_then (joined (map look_stmt (map (λ s. s.0) statements.items))) (_ ∷ (look_expr head.condition ++ (_ ∷ []))) (inner_joined statements.items)
    (inner_then (look_expr head.condition) (_ ∷ []) (quiet_expr head.condition).1 refl)
inner_layer (For head body) =
    inner_then (look_expr head.first.value) (_ ∷ (look_expr head.last.value ++ (_ ∷ _ ∷ (look_stmt body.value.0 ++ (_ ∷ []))))) (quiet_expr head.first.value).1
    (inner_then (look_expr head.last.value) (_ ∷ _ ∷ (look_stmt body.value.0 ++ (_ ∷ []))) (quiet_expr head.last.value).1
    (inner_then (look_stmt body.value.0) (_ ∷ []) body.value.1 refl))
inner_layer (Case head arms) =
    let inside = arms_look head.constants.items (map look_stmt (map (λ s. s.0) arms.items)) in
    inner_then (look_expr head.index) (inside ++ (_ ∷ [])) (quiet_expr head.index).1
    (inner_then inside (_ ∷ []) (inner_arms head.constants.items arms.items) refl)
inner_layer (With head body) =
    inner_then (flat_map look_record head.records.items) (_ ∷ (look_stmt body.value.0 ++ (_ ∷ []))) (quiet_records head.records.items).1
    (inner_then (look_stmt body.value.0) (_ ∷ []) body.value.1 refl)

-- no block ends in a statement
pub inner_stmt : (s : Stmt) → Inner (look_stmt s)
inner_stmt = ind-Stmt (λ s. Inner (look_stmt s))
    (λ x y is.
    ap blocks_of_look
    (fold-roll-Stmt Look statement_look x ∙ ap (λ z. statement_look (map-Stmt Stmt Look look_stmt z)) (sym is))
    ∙ inner_layer y)
