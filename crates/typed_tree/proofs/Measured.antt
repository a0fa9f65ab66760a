-- What the look of a tree tells of it: the numbers of its entries, and whether its blocks are well formed.
use Rattle.std.specs.declared.alloc.Global.{Global}
use Rattle.std.proofs.Common.{Vec, ℤ, ◌≡◌, ℕ, suc, Bool, true, false, ◌&&◌, slice_get, nat_lt, List, [], ◌∷◌, ◌++◌, length, map, Option, Some, None}
use Rattle.std.proofs.Common.{refl, sym, ap, ap₂, ◌∙◌, append-nil}
use Rattle.std.proofs.Math.Bool.{and-true}
use Rattle.std.specs.Prelude.{flat_map}
use Rattle.std.specs.List.{list_all}
use Rattle.std.proofs.lemmas.List.{length-map}
use Rattle.std.proofs.lemmas.List.Concat.{flat_map-append}
use Rattle.std.proofs.lemmas.List.Folds.{list_all-append, list_all-map}
use Rattle.typed_tree.specs.declared.tree.Tree.{Tree}
use Rattle.typed_tree.specs.declared.tree.Block.{Block}
use Rattle.typed_tree.specs.declared.tree.Width.{Width as TotalWidth}
use Rattle.typed_tree.specs.declared.tree.WithRecord.{WithRecord}
use Rattle.typed_tree.specs.declared.tree.WriteParameter.{WriteParameter}
use Rattle.typed_tree.specs.declared.tree.Written.{Written as WrittenValue}
use Rattle.typed_tree.specs.declared.tree.Written.TheVariants.{Ordinal, String}
use Rattle.typed_tree.specs.declared.tree.Whole.{Whole}
use Rattle.typed_tree.specs.declared.tree.Access.{Access}
use Rattle.typed_tree.specs.declared.tree.Call.{Call}
use Rattle.typed_tree.specs.declared.tree.Dyadic.TheVariants as dyadic
use Rattle.typed_tree.specs.declared.tree.Whole.TheVariants.{Text as TextOf, Variable as WholeOf}
use Rattle.typed_tree.specs.declared.tree.Expr.{Expr}
use Rattle.typed_tree.specs.declared.tree.Link.{Link}
use Rattle.typed_tree.specs.declared.tree.Passed.{Passed}
use Rattle.typed_tree.specs.declared.tree.Expr.TheOpen.{Expr-F, Passed-F, Link-F}
use Rattle.typed_tree.specs.declared.tree.Expr.TheOpen.Expr-F.{Constant, Variable, Monadic as MonadicOf, Chain, Compare, Call as CallOf, Set, Input}
use Rattle.typed_tree.specs.declared.tree.Expr.TheOpen.Passed-F.{Value as PassedValue, Whole as PassedWhole, Reference}
use Rattle.typed_tree.specs.declared.tree.Expr.TheFolds.{fold-Expr, fold-Passed, fold-Link, map-Expr, map-Passed, map-Link, fold-roll-Expr, fold-roll-Passed}
use Rattle.typed_tree.specs.declared.tree.Expr.TheFolds.{fold-roll-Link, ind-Expr, ind-Passed}
use Rattle.typed_tree.specs.declared.tree.Expr.TheViews.{roll-Expr, roll-Passed, roll-Link}
use Rattle.typed_tree.specs.declared.tree.Stmt.{Stmt}
use Rattle.typed_tree.specs.declared.tree.Stmt.TheOpen.{Stmt-F}
use Rattle.typed_tree.specs.declared.tree.Stmt.TheOpen.Stmt-F.{Empty, Assign, Write, Compound, If, While, Repeat, For, Case, Copy, Call as Calling, With, Read}
use Rattle.typed_tree.specs.declared.tree.Stmt.TheFolds.{fold-Stmt, map-Stmt, fold-roll-Stmt, ind-Stmt}
use Rattle.typed_tree.specs.Accesses.{AtVariable, origin_of}
use Rattle.typed_tree.specs.Entries.{joined, expression_entries, link_entries, entries_of_expression, entries_of_width, entries_of_parameter, statement_entries}
use Rattle.typed_tree.specs.Entries.{entries_of_block, entries_in_text, entries_of_passed, passed_entries, call_entries, of_block}
use Rattle.typed_tree.specs.Entries.{entries_of_statement, entries_of_record, entries_of_written, access_entries, whole_entries}
use Rattle.typed_tree.specs.WellFormed.{Outline, placed, passed_is_well_formed, is_well_formed_passed, is_well_formed_call, is_control, may_call}
use Rattle.typed_tree.specs.WellFormed.{passes_value, passes_whole, passes_variable}
use Rattle.typed_tree.specs.WellFormed.{all_hold, is_whole, monadic_is_well_formed, dyadic_is_well_formed, link_is_well_formed, expr_is_well_formed}
use Rattle.typed_tree.specs.WellFormed.{is_well_formed_expr, is_well_formed_link, is_well_formed_width, is_well_formed_parameter, fits_target}
use Rattle.typed_tree.specs.WellFormed.{are_characters, length_of, source_of, whole_indexes, is_well_formed_whole, is_well_formed_written}
use Rattle.typed_tree.specs.WellFormed.{are_designators, compare, is_text, leads_to_held, are_well_formed, is_well_formed_record, is_well_formed_value}
use Rattle.typed_tree.specs.WellFormed.{are_whole, stmt_is_well_formed, is_well_formed_stmt}
use Rattle.typed_tree.specs.Look.{passed_look, call_look, look_passed, heading_look, Called, ForValue, ForWhole, ForVariable}
use Rattle.typed_tree.specs.Look.{Mark, Look, link_look, expression_look, look_expr, look_link, look_width, look_parameter, arms_look, statement_look}
use Rattle.typed_tree.specs.Look.{look_stmt, look_block, tree_look, mark_entries, entries_of_look, is_formed_mark, Ends, If as IfMark, Then, Else, Do, Until}
use Rattle.typed_tree.specs.Look.{Controls, Fits as FitsMark, Written as WrittenMark, Width as WidthMark, WrittenString, compared, look_whole, look_written}
use Rattle.typed_tree.specs.Look.{Constructed, Opens, WithEnds, look_record}
use Rattle.typed_tree.specs.Look.{ForEnds, Applied, Operator, Copied, access_look, whole_look, look_access, Value, WholeValue, Target, WholeTarget}
use Rattle.typed_tree.specs.Look.{look_read, Reads}
use Rattle.typed_tree.specs.WellFormed.{is_well_formed_input, is_well_formed_line, is_well_formed_read}
use Rattle.typed_tree.specs.Entries.{entries_of_read}
use Rattle.typed_tree.specs.declared.tree.ReadVariable.{ReadVariable}

-- ---- a measure of looks that is a fold over trees

-- what is told of pieces by a measure and by a fold
abbrev Told : {X A : Type 0} → (X → A) → (X → A) → Type 0
Told {X} f g = (x : X) × (f x ≡ g x)

-- how an actual parameter looks, for a callee and the place of a formal one
abbrev Passing : Type 0
Passing = ℕ → ℕ → Look

-- of a measure of looks: what it tells of an actual parameter for a callee and a place stands in what a fold gives
module _ {A P : Type 0} (measure : Look → A) (view : P → ℕ → ℕ → A) (step : Expr-F A P A → A) (passed_step : Passed-F A P A → P)
    (link_step : Link-F A P A → A) where
  abbrev of_expr : Expr → A
  of_expr = fold-Expr A P A step passed_step link_step

  abbrev of_passed : Passed → P
  of_passed = fold-Passed A P A step passed_step link_step

  abbrev of_link : Link → A
  of_link = fold-Link A P A step passed_step link_step

  abbrev ToldExpr : Type 0
  ToldExpr = Told (λ e. measure (look_expr e)) of_expr

  abbrev IsToldPassed : Passed → Type 0
  IsToldPassed p = (callee position : ℕ) → measure (look_passed p callee position) ≡ view (of_passed p) callee position

  abbrev ToldPassed : Type 0
  ToldPassed = (p : Passed) × IsToldPassed p

  abbrev ToldLink : Type 0
  ToldLink = Told (λ l. measure (look_link l)) of_link

  abbrev opened : Expr-F ToldExpr ToldPassed ToldLink → Expr-F Expr Passed Link
  opened = map-Expr ToldExpr ToldPassed ToldLink Expr Passed Link (λ e. e.0) (λ p. p.0) (λ l. l.0)

  abbrev passed_opened : Passed-F ToldExpr ToldPassed ToldLink → Passed-F Expr Passed Link
  passed_opened = map-Passed ToldExpr ToldPassed ToldLink Expr Passed Link (λ e. e.0) (λ p. p.0) (λ l. l.0)

  abbrev link_opened : Link-F ToldExpr ToldPassed ToldLink → Link-F Expr Passed Link
  link_opened = map-Link ToldExpr ToldPassed ToldLink Expr Passed Link (λ e. e.0) (λ p. p.0) (λ l. l.0)

  -- one layer of looks, and of what is folded
  abbrev layer_look : Expr-F Expr Passed Link → Look
  layer_look y = expression_look (map-Expr Expr Passed Link Look Passing Look look_expr look_passed look_link y)

  abbrev passed_layer_look : Passed-F Expr Passed Link → Passing
  passed_layer_look y = passed_look (map-Passed Expr Passed Link Look Passing Look look_expr look_passed look_link y)

  abbrev link_layer_look : Link-F Expr Passed Link → Look
  link_layer_look y = link_look (map-Link Expr Passed Link Look Passing Look look_expr look_passed look_link y)

  abbrev layer_of : Expr-F Expr Passed Link → A
  layer_of y = step (map-Expr Expr Passed Link A P A of_expr of_passed of_link y)

  abbrev passed_layer_of : Passed-F Expr Passed Link → P
  passed_layer_of y = passed_step (map-Passed Expr Passed Link A P A of_expr of_passed of_link y)

  abbrev link_layer_of : Link-F Expr Passed Link → A
  link_layer_of y = link_step (map-Link Expr Passed Link A P A of_expr of_passed of_link y)

  -- each layer is measured as the fold has it
  abbrev Layers : Type 0
  Layers = (y : Expr-F ToldExpr ToldPassed ToldLink) → measure (layer_look (opened y)) ≡ layer_of (opened y)

  abbrev PassedLayers : Type 0
  PassedLayers = (y : Passed-F ToldExpr ToldPassed ToldLink) (callee position : ℕ)
      → measure (passed_layer_look (passed_opened y) callee position) ≡ view (passed_layer_of (passed_opened y)) callee position

  abbrev LinkLayers : Type 0
  LinkLayers = (y : Link-F ToldExpr ToldPassed ToldLink) → measure (link_layer_look (link_opened y)) ≡ link_layer_of (link_opened y)

  module _ (layers : Layers) (passed_layers : PassedLayers) (links : LinkLayers) where
    expr_measured : (x : Expr-F Expr Passed Link) (y : Expr-F ToldExpr ToldPassed ToldLink) → opened y ≡ x
        → measure (look_expr (roll-Expr x)) ≡ of_expr (roll-Expr x)
    expr_measured x y is =
        ap measure (fold-roll-Expr Look Passing Look expression_look passed_look link_look x)
        ∙ ap (λ z. measure (layer_look z)) (sym is) ∙ layers y ∙ ap layer_of is ∙ sym (fold-roll-Expr A P A step passed_step link_step x)

    passed_measured : (x : Passed-F Expr Passed Link) (y : Passed-F ToldExpr ToldPassed ToldLink) → passed_opened y ≡ x → IsToldPassed (roll-Passed x)
    passed_measured x y is callee position =
        ap (λ look. measure (look callee position)) (fold-roll-Passed Look Passing Look expression_look passed_look link_look x)
        ∙ ap (λ z. measure (passed_layer_look z callee position)) (sym is) ∙ passed_layers y callee position
        ∙ ap (λ z. view (passed_layer_of z) callee position) is
        ∙ ap (λ z. view z callee position) (sym (fold-roll-Passed A P A step passed_step link_step x))

    link_measured : (x : Link-F Expr Passed Link) (y : Link-F ToldExpr ToldPassed ToldLink) → link_opened y ≡ x
        → measure (look_link (roll-Link x)) ≡ of_link (roll-Link x)
    link_measured x y is =
        ap measure (fold-roll-Link Look Passing Look expression_look passed_look link_look x)
        ∙ ap (λ z. measure (link_layer_look z)) (sym is) ∙ links y ∙ ap link_layer_of is ∙ sym (fold-roll-Link A P A step passed_step link_step x)

    measured_expr : (e : Expr) → measure (look_expr e) ≡ of_expr e
    measured_expr =
        ind-Expr (λ e. measure (look_expr e) ≡ of_expr e) IsToldPassed (λ l. measure (look_link l) ≡ of_link l) expr_measured passed_measured link_measured

    measured_passed : (p : Passed) → IsToldPassed p
    measured_passed =
        ind-Passed (λ e. measure (look_expr e) ≡ of_expr e) IsToldPassed (λ l. measure (look_link l) ≡ of_link l) expr_measured passed_measured link_measured

module _ {A : Type 0} (measure : Look → A) (step : Stmt-F A → A) where
  abbrev of_stmt : Stmt → A
  of_stmt = fold-Stmt A step

  abbrev ToldStmt : Type 0
  ToldStmt = Told (λ s. measure (look_stmt s)) of_stmt

  abbrev stmt_opened : Stmt-F ToldStmt → Stmt-F Stmt
  stmt_opened = map-Stmt ToldStmt Stmt (λ s. s.0)

  measured_stmt :
      ((y : Stmt-F ToldStmt) → measure (statement_look (map-Stmt Stmt Look look_stmt (stmt_opened y))) ≡ step (map-Stmt Stmt A of_stmt (stmt_opened y)))
      → (s : Stmt) → measure (look_stmt s) ≡ of_stmt s
  measured_stmt layers =
      ind-Stmt (λ s. measure (look_stmt s) ≡ of_stmt s)
      (λ x y is.
      ap measure (fold-roll-Stmt Look statement_look x) ∙ ap (λ z. measure (statement_look (map-Stmt Stmt Look look_stmt z))) (sym is)
      ∙ layers y
      ∙ ap (λ z. step (map-Stmt Stmt A of_stmt z)) is
      ∙ sym (fold-roll-Stmt A step x))

-- ---- entries

-- what an actual parameter enters, whatever the callee
abbrev passed_view : List ℕ → ℕ → ℕ → List ℕ
passed_view entries callee position = entries

-- the end of a form enters nothing
entries_ended : (look : Look) (end : Mark) → mark_entries end ≡ [] → entries_of_look (look ++ (end ∷ [])) ≡ entries_of_look look
entries_ended look end silent =
    flat_map-append mark_entries look (end ∷ []) ∙ ap (λ entries. entries_of_look look ++ (entries ++ [])) silent ∙ append-nil (entries_of_look look)

entries_joined : {X : Type 0} (look : X → Look) (entries : X → List ℕ) (xs : List (Told (λ x. entries_of_look (look x)) entries))
    → entries_of_look (joined (map look (map (λ x. x.0) xs))) ≡ joined (map entries (map (λ x. x.0) xs))
entries_joined look entries [] = refl
entries_joined look entries (x ∷ xs) =
    flat_map-append mark_entries (look x.0) (joined (map look (map (λ x. x.0) xs))) ∙ ap₂ (λ a b. a ++ b) x.1 (entries_joined look entries xs)

entries_mapped : {X : Type 0} (look : X → Look) (entries : X → List ℕ) → ((x : X) → entries_of_look (look x) ≡ entries x) → (xs : List X)
    → entries_of_look (flat_map look xs) ≡ flat_map entries xs
entries_mapped look entries each [] = refl
entries_mapped look entries each (x ∷ xs) =
    flat_map-append mark_entries (look x) (flat_map look xs) ∙ ap₂ (λ a b. a ++ b) (each x) (entries_mapped look entries each xs)

-- an access is entered before its index expressions, which enter so many rows
entries_access : (access : Access) (looks : List Look) (rows : List (List ℕ)) (does : Mark) → entries_of_look (joined looks) ≡ joined rows
    → mark_entries does ≡ []
    → entries_of_look (access_look access looks does) ≡ access_entries access rows
entries_access access looks rows does told silent = ap (λ entries. access.number ∷ entries) (entries_ended (joined looks) does silent ∙ told)

-- the same of a whole value
entries_whole : (value : Whole) (looks : List Look) (rows : List (List ℕ)) → entries_of_look (joined looks) ≡ joined rows
    → entries_of_look (whole_look value looks) ≡ whole_entries value rows
entries_whole (TextOf number characters) looks rows told = refl
entries_whole (WholeOf access type_id cells defined) looks rows told =
    entries_access access looks rows (WholeValue (origin_of access) access.selectors.items (length looks) type_id cells defined) told refl

-- what actual parameters enter
entries_placed : (xs : List (ToldPassed entries_of_look passed_view expression_entries passed_entries link_entries)) (callee position : ℕ)
    → entries_of_look (joined (placed callee position (map look_passed (map (λ x. x.0) xs)))) ≡ joined (map entries_of_passed (map (λ x. x.0) xs))
entries_placed [] callee position = refl
entries_placed (x ∷ xs) callee position =
    flat_map-append mark_entries (look_passed x.0 callee position) (joined (placed callee (suc position) (map look_passed (map (λ x. x.0) xs))))
    ∙ ap₂ (λ a b. a ++ b) (x.1 callee position) (entries_placed xs callee (suc position))

-- what a call enters
entries_call : (is_function : Bool) (call : Call) (looks : List Passing) (rows : List (List ℕ))
    → entries_of_look (joined (placed call.block 0 looks)) ≡ joined rows → entries_of_look (call_look is_function call looks) ≡ call_entries call rows
entries_call is_function call looks rows told =
    ap (λ entries. call.number ∷ entries) (entries_ended (joined (placed call.block 0 looks)) (Called is_function call.block (length looks)) refl ∙ told)

entries_layer : Layers entries_of_look passed_view expression_entries passed_entries link_entries
entries_layer (Constant number value) = refl
entries_layer (Variable access indexes held defined) =
    let inside = map (λ e. e.0) indexes.items in
    let looks = map look_expr inside in
    entries_access access looks (map entries_of_expression inside) (Value (origin_of access) access.selectors.items (length looks) held defined)
    (entries_joined look_expr entries_of_expression indexes.items) refl
entries_layer (MonadicOf number operation operand) =
    ap (λ entries. number ∷ entries) (entries_ended (look_expr operand.value.0) (Applied operation) refl ∙ operand.value.1)
entries_layer (Chain first rest) =
    let links = joined (map look_link (map (λ l. l.0) rest.items)) in
    flat_map-append mark_entries (look_expr first.value.0) (links ++ (Ends ∷ []))
    ∙ ap₂ (λ a b. a ++ b) first.value.1
    (entries_ended links Ends refl ∙ entries_joined look_link (of_link entries_of_look passed_view expression_entries passed_entries link_entries) rest.items)
entries_layer (Compare number relation left left_indexes right right_indexes) =
    let inside = map (λ e. e.0) left_indexes.items in
    let others = map (λ e. e.0) right_indexes.items in
    let second = whole_look right (map look_expr others) in
    let end = compared left right ∷ Ends ∷ [] in
    flat_map-append mark_entries (whole_look left (map look_expr inside)) (Operator number (dyadic.Relation relation) ∷ (second ++ end))
    ∙ ap₂ (λ a b. a ++ (number ∷ b))
    (entries_whole left (map look_expr inside) (map entries_of_expression inside)
    (entries_joined look_expr entries_of_expression left_indexes.items))
    (flat_map-append mark_entries second end ∙ append-nil (entries_of_look second)
    ∙ entries_whole right (map look_expr others) (map entries_of_expression others)
    (entries_joined look_expr entries_of_expression right_indexes.items))
entries_layer (CallOf call actuals) =
    entries_call true call (map look_passed (map (λ p. p.0) actuals.items)) (map entries_of_passed (map (λ p. p.0) actuals.items))
    (entries_placed actuals.items call.block 0)
entries_layer (Input number asks) = refl
entries_layer (Set number designators members) =
    ap (λ entries. number ∷ entries)
    (entries_ended (joined (map look_expr (map (λ e. e.0) members.items)))
    (Constructed designators.items (length (map look_expr (map (λ e. e.0) members.items)))) refl
    ∙ entries_joined look_expr entries_of_expression members.items)

entries_passed_layer : PassedLayers entries_of_look passed_view expression_entries passed_entries link_entries
entries_passed_layer (PassedValue value fits) callee position = entries_ended (look_expr value.0) (ForValue fits callee position) refl ∙ value.1
entries_passed_layer (PassedWhole type_id value indexes) callee position =
    let inside = map (λ e. e.0) indexes.items in
    entries_ended (whole_look value (map look_expr inside)) (ForWhole type_id (source_of value) (length_of value) callee position) refl
    ∙ entries_whole value (map look_expr inside) (map entries_of_expression inside) (entries_joined look_expr entries_of_expression indexes.items)
entries_passed_layer (Reference type_id access indexes) callee position =
    let inside = map (λ e. e.0) indexes.items in
    let looks = map look_expr inside in
    entries_access access looks (map entries_of_expression inside)
    (ForVariable type_id (origin_of access) access.selectors.items (length looks) callee position)
    (entries_joined look_expr entries_of_expression indexes.items) refl

entries_link : LinkLayers entries_of_look passed_view expression_entries passed_entries link_entries
entries_link y = ap (λ entries. y.number ∷ entries) y.operand.1

entries_expr : (e : Expr) → entries_of_look (look_expr e) ≡ entries_of_expression e
entries_expr = measured_expr entries_of_look passed_view expression_entries passed_entries link_entries entries_layer entries_passed_layer entries_link

entries_actual : (p : Passed) (callee position : ℕ) → entries_of_look (look_passed p callee position) ≡ entries_of_passed p
entries_actual = measured_passed entries_of_look passed_view expression_entries passed_entries link_entries entries_layer entries_passed_layer entries_link

-- what the actual parameters of a procedure enter
entries_actuals : (actuals : List Passed) (callee position : ℕ)
    → entries_of_look (joined (placed callee position (map look_passed actuals))) ≡ joined (map entries_of_passed actuals)
entries_actuals [] callee position = refl
entries_actuals (one ∷ others) callee position =
    flat_map-append mark_entries (look_passed one callee position) (joined (placed callee (suc position) (map look_passed others)))
    ∙ ap₂ (λ a b. a ++ b) (entries_actual one callee position) (entries_actuals others callee (suc position))

entries_indexes : (indexes : List Expr) → entries_of_look (joined (map look_expr indexes)) ≡ joined (map entries_of_expression indexes)
entries_indexes [] = refl
entries_indexes (index ∷ indexes) =
    flat_map-append mark_entries (look_expr index) (joined (map look_expr indexes)) ∙ ap₂ (λ a b. a ++ b) (entries_expr index) (entries_indexes indexes)

entries_width : (width : Option TotalWidth) → entries_of_look (look_width width) ≡ entries_of_width width
entries_width None = refl
entries_width (Some width) = entries_ended (look_expr width.value) (WidthMark width.site) refl ∙ entries_expr width.value

entries_written : (value : WrittenValue) → entries_of_look (look_written value) ≡ entries_of_written value
entries_written (Ordinal value representation) = entries_ended (look_expr value) (WrittenMark representation) refl ∙ entries_expr value
entries_written (String value indexes) =
    entries_ended (look_whole value indexes.items) (WrittenString (source_of value)) refl
    ∙ entries_whole value (map look_expr indexes.items) (map entries_of_expression indexes.items) (entries_indexes indexes.items)

entries_parameter : (parameter : WriteParameter) → entries_of_look (look_parameter parameter) ≡ entries_of_parameter parameter
entries_parameter parameter =
    flat_map-append mark_entries (look_written parameter.value) (look_width parameter.width)
    ∙ ap₂ (λ a b. a ++ b) (entries_written parameter.value) (entries_width parameter.width)

-- what a record of a with enters
entries_record : (one : WithRecord) → entries_of_look (look_record one) ≡ entries_of_record one
entries_record one =
    entries_access one.access (map look_expr one.indexes.items) (map entries_of_expression one.indexes.items)
    (Opens (origin_of one.access) one.access.selectors.items (length one.indexes.items)) (entries_indexes one.indexes.items) refl

-- what a variable that is read enters
entries_read : (one : ReadVariable) → entries_of_look (look_read one) ≡ entries_of_read one
entries_read one =
    entries_access one.access (map look_expr one.indexes.items) (map entries_of_expression one.indexes.items)
    (Reads (origin_of one.access) one.access.selectors.items (length one.indexes.items) one.reads one.point one.range) (entries_indexes one.indexes.items) refl

-- what an if enters, by what its two statements do
entries_chosen : (number : ℕ) (condition : Expr) (look rest : Look)
    → entries_of_look (IfMark number ∷ (look_expr condition ++ (Then ∷ (look ++ (rest ++ (Ends ∷ []))))))
    ≡ number ∷ (entries_of_expression condition ++ (entries_of_look look ++ entries_of_look rest))
entries_chosen number condition look rest =
    ap (λ entries. number ∷ entries)
    (flat_map-append mark_entries (look_expr condition) (Then ∷ (look ++ (rest ++ (Ends ∷ []))))
    ∙ ap₂ (λ a b. a ++ b) (entries_expr condition)
    (flat_map-append mark_entries look (rest ++ (Ends ∷ [])) ∙ ap (λ row. entries_of_look look ++ row) (entries_ended rest Ends refl)))

-- what the arms of a case enter
entries_arms : (rows : List (Vec ℤ Global)) (ys : List (ToldStmt entries_of_look statement_entries))
    → entries_of_look (arms_look rows (map look_stmt (map (λ s. s.0) ys))) ≡ joined (map entries_of_statement (map (λ s. s.0) ys))
entries_arms [] [] = refl
entries_arms (row ∷ rows) [] = entries_arms rows []
entries_arms [] (y ∷ ys) =
    flat_map-append mark_entries (look_stmt y.0) (arms_look [] (map look_stmt (map (λ s. s.0) ys))) ∙ ap₂ (λ a b. a ++ b) y.1 (entries_arms [] ys)
entries_arms (row ∷ rows) (y ∷ ys) =
    flat_map-append mark_entries (look_stmt y.0) (arms_look rows (map look_stmt (map (λ s. s.0) ys))) ∙ ap₂ (λ a b. a ++ b) y.1 (entries_arms rows ys)

entries_stmt_layer : (y : Stmt-F (ToldStmt entries_of_look statement_entries))
    → entries_of_look (statement_look (map-Stmt Stmt Look look_stmt (stmt_opened entries_of_look statement_entries y)))
    ≡ statement_entries (map-Stmt Stmt (List ℕ) entries_of_statement (stmt_opened entries_of_look statement_entries y))
entries_stmt_layer (Empty number) = refl
entries_stmt_layer (Assign assignment) =
    let does = Target (origin_of assignment.target) assignment.target.selectors.items (length assignment.indexes.items) in
    let end = FitsMark (origin_of assignment.target) assignment.target.selectors.items assignment.fits in
    ap (λ entries. assignment.number ∷ entries)
    (flat_map-append mark_entries (look_access assignment.target assignment.indexes.items does) (look_expr assignment.value ++ (end ∷ []))
    ∙ ap₂ (λ a b. a ++ b)
    (entries_access assignment.target (map look_expr assignment.indexes.items) (map entries_of_expression assignment.indexes.items) does
    (entries_indexes assignment.indexes.items) refl)
    (entries_ended (look_expr assignment.value) end refl ∙ entries_expr assignment.value))
entries_stmt_layer (Copy copying) =
    let does = WholeTarget (origin_of copying.target) copying.target.selectors.items (length copying.indexes.items) copying.type_id in
    let copied = look_whole copying.value copying.value_indexes.items in
    let end = Copied copying.type_id (source_of copying.value) (length_of copying.value) in
    ap (λ entries. copying.number ∷ entries)
    (flat_map-append mark_entries (look_access copying.target copying.indexes.items does) (copied ++ (end ∷ []))
    ∙ ap₂ (λ a b. a ++ b)
    (entries_access copying.target (map look_expr copying.indexes.items) (map entries_of_expression copying.indexes.items) does
    (entries_indexes copying.indexes.items) refl)
    (entries_ended copied end refl
    ∙ entries_whole copying.value (map look_expr copying.value_indexes.items) (map entries_of_expression copying.value_indexes.items)
    (entries_indexes copying.value_indexes.items)))
entries_stmt_layer (Write writing) =
    ap (λ entries. writing.number ∷ entries)
    (entries_ended (flat_map look_parameter writing.parameters.items) Ends refl
    ∙ entries_mapped look_parameter entries_of_parameter entries_parameter writing.parameters.items)
entries_stmt_layer (Read reading) =
    ap (λ entries. reading.number ∷ entries)
    (entries_ended (flat_map look_read reading.variables.items) Ends refl
    ∙ entries_mapped look_read entries_of_read entries_read reading.variables.items)
entries_stmt_layer (Calling calling) =
    entries_call false calling.call (map look_passed calling.actuals.items) (map entries_of_passed calling.actuals.items)
    (entries_actuals calling.actuals.items calling.call.block 0)
entries_stmt_layer (Compound number statements) =
    let rows = joined (map look_stmt (map (λ s. s.0) statements.items)) in
    ap (λ entries. number ∷ entries) (entries_ended rows Ends refl ∙ entries_joined look_stmt entries_of_statement statements.items)
entries_stmt_layer (If number condition consequence None) =
    entries_chosen number condition (look_stmt consequence.value.0) [] ∙ ap
    (λ row. number ∷ (entries_of_expression condition ++ (row ++ []))) consequence.value.1
entries_stmt_layer (If number condition consequence (Some other)) =
    entries_chosen number condition (look_stmt consequence.value.0) (Else ∷ look_stmt other.value.0)
    ∙ ap₂ (λ row rest. number ∷ (entries_of_expression condition ++ (row ++ rest))) consequence.value.1 other.value.1
entries_stmt_layer (While head body) =
    ap (λ entries. head.number ∷ entries)
    (flat_map-append mark_entries (look_expr head.condition) (Do ∷ (look_stmt body.value.0 ++ (Ends ∷ [])))
    ∙ ap₂ (λ a b. a ++ b) (entries_expr head.condition) (entries_ended (look_stmt body.value.0) Ends refl ∙ body.value.1))
entries_stmt_layer (Repeat head statements) =
    let rows = joined (map look_stmt (map (λ s. s.0) statements.items)) in
    ap (λ entries. head.number ∷ entries)
    (flat_map-append mark_entries rows (Until ∷ (look_expr head.condition ++ (Ends ∷ [])))
    ∙ ap₂ (λ a b. a ++ b) (entries_joined look_stmt entries_of_statement statements.items)
    (entries_ended (look_expr head.condition) Ends refl ∙ entries_expr head.condition))
entries_stmt_layer (For head body) =
    let inside = FitsMark (AtVariable head.control) [] head.last.fits ∷ Controls head.control ∷ (look_stmt body.value.0 ++ (ForEnds ∷ [])) in
    ap (λ entries. head.number ∷ entries)
    (flat_map-append mark_entries (look_expr head.first.value) (FitsMark (AtVariable head.control) [] head.first.fits ∷ (look_expr head.last.value ++ inside))
    ∙ ap₂ (λ a b. a ++ b) (entries_expr head.first.value)
    (flat_map-append mark_entries (look_expr head.last.value) inside
    ∙ ap₂ (λ a b. a ++ b) (entries_expr head.last.value) (entries_ended (look_stmt body.value.0) ForEnds refl ∙ body.value.1)))
entries_stmt_layer (Case head arms) =
    let inside = arms_look head.constants.items (map look_stmt (map (λ s. s.0) arms.items)) in
    ap (λ entries. head.number ∷ entries)
    (flat_map-append mark_entries (look_expr head.index) (inside ++ (Ends ∷ []))
    ∙ ap₂ (λ a b. a ++ b) (entries_expr head.index) (entries_ended inside Ends refl ∙ entries_arms head.constants.items arms.items))
entries_stmt_layer (With head body) =
    ap (λ entries. head.number ∷ entries)
    (flat_map-append mark_entries (flat_map look_record head.records.items) (Do ∷ (look_stmt body.value.0 ++ (WithEnds head.first_slot ∷ [])))
    ∙ ap₂ (λ a b. a ++ b) (entries_mapped look_record entries_of_record entries_record head.records.items)
    (entries_ended (look_stmt body.value.0) (WithEnds head.first_slot) refl ∙ body.value.1))

entries_stmt : (s : Stmt) → entries_of_look (look_stmt s) ≡ entries_of_statement s
entries_stmt = measured_stmt entries_of_look statement_entries entries_stmt_layer

entries_block : (number : ℕ) (block : Block) → entries_of_look (look_block number block) ≡ entries_of_block block
entries_block number block = entries_ended (look_stmt block.body) (heading_look number block.heading block.end) refl ∙ entries_stmt block.body

-- of a block, if it is there
entries_placed_block : (number : ℕ) (block : Option Block)
    → entries_of_look (of_block look_block number block) ≡ of_block (λ number. entries_of_block) number block
entries_placed_block number None = refl
entries_placed_block number (Some block) = entries_block number block

-- the look of a tree tells the numbers of its entries
pub entries_are : (tree : Tree) → entries_of_look (tree_look tree) ≡ entries_in_text tree
entries_are tree =
    entries_mapped (λ number. of_block look_block number (slice_get tree.blocks.items number))
    (λ number. of_block (λ number. entries_of_block) number (slice_get tree.blocks.items number))
    (λ number. entries_placed_block number (slice_get tree.blocks.items number)) tree.bodies.items

-- ---- well formed trees

and_last : (a b : Bool) → (a && (b && true)) ≡ (a && b)
and_last true true = refl
and_last true false = refl
and_last false true = refl
and_last false false = refl

and_turned : (a b : Bool) → (a && (b && true)) ≡ (b && a)
and_turned true true = refl
and_turned true false = refl
and_turned false true = refl
and_turned false false = refl

and_assigned : (a b c d : Bool) → ((a && b) && (c && (d && true))) ≡ (a && (b && (c && d)))
and_assigned true true c d = ap (λ b. c && b) (and-true d)
and_assigned true false c d = refl
and_assigned false b c d = refl

and_compared : (a b c d e : Bool) → ((a && b) && ((c && d) && (e && true))) ≡ (a && (b && (c && (d && e))))
and_compared a b true d e = and_assigned a b d e
and_compared a b false d e = and_assigned a b false e

and_shifted : (a b c d : Bool) → (a && (b && (c && d))) ≡ ((a && c) && (b && d))
and_shifted true true c d = refl
and_shifted true false true d = refl
and_shifted true false false d = refl
and_shifted false b c d = refl

and_passed : (a b c : Bool) → ((a && b) && (c && true)) ≡ (a && (b && c))
and_passed true true c = and-true c
and_passed true false c = refl
and_passed false b c = refl

-- an actual parameter is well formed for a callee and a place
abbrev formed_view : (ℕ → ℕ → Bool) → ℕ → ℕ → Bool
formed_view test callee position = test callee position

-- as many looks as tests
so_many : {X : Type 0} (look : X → Look) (test : X → Bool) (xs : List X) → length (map look xs) ≡ length (map test xs)
so_many look test xs = length-map xs look ∙ sym (length-map xs test)

module _ (outline : Outline) (block_number : ℕ) where
  abbrev is_formed : Look → Bool
  is_formed = list_all (is_formed_mark outline block_number)

  formed_cut : (look more : Look) → is_formed (look ++ more) ≡ (is_formed look && is_formed more)
  formed_cut look more = list_all-append (is_formed_mark outline block_number) look more

  -- the end of a form that is always well formed
  formed_ended : (look : Look) (end : Mark) → is_formed_mark outline block_number end ≡ true → is_formed (look ++ (end ∷ [])) ≡ is_formed look
  formed_ended look end fine = formed_cut look (end ∷ []) ∙ ap (λ b. is_formed look && (b && true)) fine ∙ and-true (is_formed look)

  formed_joined : {X : Type 0} (look : X → Look) (test : X → Bool) (xs : List (Told (λ x. is_formed (look x)) test))
      → is_formed (joined (map look (map (λ x. x.0) xs))) ≡ all_hold (map test (map (λ x. x.0) xs))
  formed_joined look test [] = refl
  formed_joined look test (x ∷ xs) = formed_cut (look x.0) (joined (map look (map (λ x. x.0) xs))) ∙ ap₂ (λ a b. a && b) x.1 (formed_joined look test xs)

  formed_mapped : {X : Type 0} (look : X → Look) (test : X → Bool) → ((x : X) → is_formed (look x) ≡ test x) → (xs : List X)
      → is_formed (flat_map look xs) ≡ list_all test xs
  formed_mapped look test each [] = refl
  formed_mapped look test each (x ∷ xs) = formed_cut (look x) (flat_map look xs) ∙ ap₂ (λ a b. a && b) (each x) (formed_mapped look test each xs)

  -- an access is well formed where its index expressions are, which these tests tell
  formed_access : (access : Access) (looks : List Look) (tests : List Bool) (does : Mark) → is_formed (joined looks) ≡ all_hold tests
      → is_formed (access_look access looks does) ≡ (all_hold tests && is_formed_mark outline block_number does)
  formed_access access looks tests does told =
      formed_cut (joined looks) (does ∷ []) ∙ ap₂ (λ a b. a && b) told (and-true (is_formed_mark outline block_number does))

  -- the same of a whole value
  formed_whole : (value : Whole) (looks : List Look) (tests : List Bool) (count : ℕ) → is_formed (joined looks) ≡ all_hold tests → length looks ≡ count
      → is_formed (whole_look value looks) ≡ (all_hold (whole_indexes value tests) && is_well_formed_whole outline block_number value count)
  formed_whole (TextOf number characters) looks tests count told counted = and-true (are_characters characters.items)
  formed_whole (WholeOf access type_id cells defined) looks tests count told counted =
      formed_access access looks tests (WholeValue (origin_of access) access.selectors.items (length looks) type_id cells defined) told
      ∙ ap (λ n. all_hold tests && is_well_formed_whole outline block_number (WholeOf access type_id cells defined) n) counted

  -- actual parameters are well formed where the tests of each are
  formed_placed :
      (xs : List (ToldPassed is_formed formed_view (expr_is_well_formed outline block_number) (passed_is_well_formed outline block_number)
      (link_is_well_formed outline block_number)))
      (callee position : ℕ)
      → is_formed (joined (placed callee position (map look_passed (map (λ x. x.0) xs))))
      ≡ all_hold (placed callee position (map (is_well_formed_passed outline block_number) (map (λ x. x.0) xs)))
  formed_placed [] callee position = refl
  formed_placed (x ∷ xs) callee position =
      formed_cut (look_passed x.0 callee position) (joined (placed callee (suc position) (map look_passed (map (λ x. x.0) xs))))
      ∙ ap₂ (λ a b. a && b) (x.1 callee position) (formed_placed xs callee (suc position))

  -- a call is well formed where these tests of its actual parameters hold
  formed_call : (is_function : Bool) (call : Call) (looks : List Passing) (tests : List (ℕ → ℕ → Bool))
      → is_formed (joined (placed call.block 0 looks)) ≡ all_hold (placed call.block 0 tests) → length looks ≡ length tests
      → is_formed (call_look is_function call looks) ≡ is_well_formed_call outline block_number is_function call tests
  formed_call is_function call looks tests told counted =
      let may : ℕ → Bool = may_call outline block_number is_function call.block in
      formed_cut (joined (placed call.block 0 looks)) (Called is_function call.block (length looks) ∷ [])
      ∙ ap₂ (λ a b. a && (b && true)) told (ap may counted)
      ∙ and_turned (all_hold (placed call.block 0 tests)) (may (length tests))

  formed_layer : Layers is_formed formed_view (expr_is_well_formed outline block_number) (passed_is_well_formed outline block_number)
      (link_is_well_formed outline block_number)
  formed_layer (Constant number value) = and-true (is_whole value)
  formed_layer (Variable access indexes held defined) =
      let inside = map (λ e. e.0) indexes.items in
      let test = is_well_formed_expr outline block_number in
      formed_access access (map look_expr inside) (map test inside)
      (Value (origin_of access) access.selectors.items (length (map look_expr inside)) held defined)
      (formed_joined look_expr test indexes.items)
      ∙ ap
      (λ n. all_hold (map test inside) && (leads_to_held outline block_number held (origin_of access) access.selectors.items n && nat_lt defined outline.sites))
      (so_many look_expr test inside)
  formed_layer (MonadicOf number operation operand) =
      let test = monadic_is_well_formed outline block_number operation in
      formed_cut (look_expr operand.value.0) (Applied operation ∷ []) ∙ ap (λ b. b && (test && true)) operand.value.1
      ∙ and_turned (is_well_formed_expr outline block_number operand.value.0) test
  formed_layer (Chain first rest) =
      let links = joined (map look_link (map (λ l. l.0) rest.items)) in
      formed_cut (look_expr first.value.0) (links ++ (Ends ∷ []))
      ∙ ap₂ (λ a b. a && b) first.value.1 (formed_ended links Ends refl ∙ formed_joined look_link (is_well_formed_link outline block_number) rest.items)
  formed_layer (Compare number relation left left_indexes right right_indexes) =
      let inside = map (λ e. e.0) left_indexes.items in
      let others = map (λ e. e.0) right_indexes.items in
      let test = is_well_formed_expr outline block_number in
      let second = whole_look right (map look_expr others) in
      let end = compared left right ∷ Ends ∷ [] in
      formed_cut (whole_look left (map look_expr inside)) (Operator number (dyadic.Relation relation) ∷ (second ++ end))
      ∙ ap₂ (λ a b. a && b)
      (formed_whole left (map look_expr inside) (map test inside) (length (map test inside)) (formed_joined look_expr test left_indexes.items)
      (so_many look_expr test inside))
      (formed_cut second end
      ∙ ap (λ a. a && (compare outline block_number (source_of left) (length_of left) (source_of right) (length_of right) && true))
      (formed_whole right (map look_expr others) (map test others) (length (map test others)) (formed_joined look_expr test right_indexes.items)
      (so_many look_expr test others)))
      ∙ and_compared (all_hold (whole_indexes left (map test inside))) (is_well_formed_whole outline block_number left (length (map test inside)))
      (all_hold (whole_indexes right (map test others))) (is_well_formed_whole outline block_number right (length (map test others)))
      (compare outline block_number (source_of left) (length_of left) (source_of right) (length_of right))
  formed_layer (CallOf call actuals) =
      let inside = map (λ p. p.0) actuals.items in
      let tests = map (is_well_formed_passed outline block_number) inside in
      formed_call true call (map look_passed inside) tests (formed_placed actuals.items call.block 0)
      (length-map inside look_passed ∙ sym (length-map inside (is_well_formed_passed outline block_number)))
  formed_layer (Input number asks) = and-true (is_well_formed_input outline block_number asks)
  formed_layer (Set number designators members) =
      let inside = map (λ e. e.0) members.items in
      let test = is_well_formed_expr outline block_number in
      formed_cut (joined (map look_expr inside)) (Constructed designators.items (length (map look_expr inside)) ∷ [])
      ∙ ap₂ (λ a n. a && (are_designators outline block_number designators.items n && true)) (formed_joined look_expr test members.items)
      (so_many look_expr test inside)
      ∙ ap (λ b. all_hold (map test inside) && b) (and-true (are_designators outline block_number designators.items (length (map test inside))))

  formed_passed_layer : PassedLayers is_formed formed_view (expr_is_well_formed outline block_number) (passed_is_well_formed outline block_number)
      (link_is_well_formed outline block_number)
  formed_passed_layer (PassedValue value fits) callee position =
      formed_cut (look_expr value.0) (ForValue fits callee position ∷ [])
      ∙ ap₂ (λ a b. a && b) value.1 (and-true (passes_value outline block_number fits callee position))
  formed_passed_layer (PassedWhole type_id value indexes) callee position =
      let inside = map (λ e. e.0) indexes.items in
      let test = is_well_formed_expr outline block_number in
      let fits = passes_whole outline block_number type_id (source_of value) (length_of value) callee position in
      formed_cut (whole_look value (map look_expr inside)) (ForWhole type_id (source_of value) (length_of value) callee position ∷ [])
      ∙ ap (λ b. b && (fits && true))
      (formed_whole value (map look_expr inside) (map test inside) (length (map test inside)) (formed_joined look_expr test indexes.items)
      (so_many look_expr test inside))
      ∙ and_passed (all_hold (whole_indexes value (map test inside))) (is_well_formed_whole outline block_number value (length (map test inside))) fits
  formed_passed_layer (Reference type_id access indexes) callee position =
      let inside = map (λ e. e.0) indexes.items in
      let test = is_well_formed_expr outline block_number in
      formed_access access (map look_expr inside) (map test inside)
      (ForVariable type_id (origin_of access) access.selectors.items (length (map look_expr inside)) callee position)
      (formed_joined look_expr test indexes.items)
      ∙ ap
      (λ n. all_hold (map test inside) && passes_variable outline block_number type_id (origin_of access) access.selectors.items n callee position)
      (so_many look_expr test inside)

  formed_link : LinkLayers is_formed formed_view (expr_is_well_formed outline block_number) (passed_is_well_formed outline block_number)
      (link_is_well_formed outline block_number)
  formed_link y = ap (λ b. dyadic_is_well_formed outline block_number y.operation && b) y.operand.1

  formed_expr : (e : Expr) → is_formed (look_expr e) ≡ is_well_formed_expr outline block_number e
  formed_expr = measured_expr is_formed formed_view (expr_is_well_formed outline block_number) (passed_is_well_formed outline block_number)
      (link_is_well_formed outline block_number) formed_layer formed_passed_layer formed_link

  formed_actual : (p : Passed) (callee position : ℕ) → is_formed (look_passed p callee position) ≡ is_well_formed_passed outline block_number p callee position
  formed_actual = measured_passed is_formed formed_view (expr_is_well_formed outline block_number) (passed_is_well_formed outline block_number)
      (link_is_well_formed outline block_number) formed_layer formed_passed_layer formed_link

  -- the actual parameters of a procedure
  formed_actuals : (actuals : List Passed) (callee position : ℕ)
      → is_formed (joined (placed callee position (map look_passed actuals)))
      ≡ all_hold (placed callee position (map (is_well_formed_passed outline block_number) actuals))
  formed_actuals [] callee position = refl
  formed_actuals (one ∷ others) callee position =
      formed_cut (look_passed one callee position) (joined (placed callee (suc position) (map look_passed others)))
      ∙ ap₂ (λ a b. a && b) (formed_actual one callee position) (formed_actuals others callee (suc position))

  formed_indexes : (indexes : List Expr) → is_formed (joined (map look_expr indexes)) ≡ are_well_formed outline block_number indexes
  formed_indexes [] = refl
  formed_indexes (index ∷ indexes) =
      formed_cut (look_expr index) (joined (map look_expr indexes)) ∙ ap₂ (λ a b. a && b) (formed_expr index) (formed_indexes indexes)

  formed_value : (value : Whole) (indexes : List Expr) → is_formed (look_whole value indexes) ≡ is_well_formed_value outline block_number value indexes
  formed_value value indexes =
      formed_whole value (map look_expr indexes) (map (is_well_formed_expr outline block_number) indexes) (length indexes) (formed_indexes indexes)
      (length-map indexes look_expr)

  formed_width : (width : Option TotalWidth) → is_formed (look_width width) ≡ is_well_formed_width outline block_number width
  formed_width None = refl
  formed_width (Some width) =
      formed_cut (look_expr width.value) (WidthMark width.site ∷ []) ∙ ap (λ b. b && (nat_lt width.site outline.sites && true)) (formed_expr width.value)
      ∙ and_turned (is_well_formed_expr outline block_number width.value) (nat_lt width.site outline.sites)

  formed_written : (value : WrittenValue) → is_formed (look_written value) ≡ is_well_formed_written outline block_number value
  formed_written (Ordinal value representation) = formed_ended (look_expr value) (WrittenMark representation) refl ∙ formed_expr value
  formed_written (String value indexes) =
      formed_cut (look_whole value indexes.items) (WrittenString (source_of value) ∷ [])
      ∙ ap (λ b. b && (is_text outline.types (source_of value) && true)) (formed_value value indexes.items)
      ∙ and_last (is_well_formed_value outline block_number value indexes.items) (is_text outline.types (source_of value))

  formed_parameter : (parameter : WriteParameter) → is_formed (look_parameter parameter) ≡ is_well_formed_parameter outline block_number parameter
  formed_parameter parameter =
      formed_cut (look_written parameter.value) (look_width parameter.width)
      ∙ ap₂ (λ a b. a && b) (formed_written parameter.value) (formed_width parameter.width)

  formed_record : (one : WithRecord) → is_formed (look_record one) ≡ is_well_formed_record outline block_number one
  formed_record one =
      formed_access one.access (map look_expr one.indexes.items) (map (is_well_formed_expr outline block_number) one.indexes.items)
      (Opens (origin_of one.access) one.access.selectors.items (length one.indexes.items)) (formed_indexes one.indexes.items)

  formed_read : (one : ReadVariable) → is_formed (look_read one) ≡ is_well_formed_read outline block_number one
  formed_read one =
      formed_access one.access (map look_expr one.indexes.items) (map (is_well_formed_expr outline block_number) one.indexes.items)
      (Reads (origin_of one.access) one.access.selectors.items (length one.indexes.items) one.reads one.point one.range) (formed_indexes one.indexes.items)

  abbrev opened_stmt : Stmt-F (ToldStmt is_formed (stmt_is_well_formed outline block_number)) → Stmt-F Stmt
  opened_stmt = stmt_opened is_formed (stmt_is_well_formed outline block_number)

  -- whether an if is well formed, by whether its two statements are
  formed_chosen : (number : ℕ) (condition : Expr) (look rest : Look)
      → is_formed (IfMark number ∷ (look_expr condition ++ (Then ∷ (look ++ (rest ++ (Ends ∷ []))))))
      ≡ (is_well_formed_expr outline block_number condition && (is_formed look && is_formed rest))
  formed_chosen number condition look rest =
      formed_cut (look_expr condition) (Then ∷ (look ++ (rest ++ (Ends ∷ []))))
      ∙ ap₂ (λ a b. a && b) (formed_expr condition)
      (formed_cut look (rest ++ (Ends ∷ [])) ∙ ap (λ b. is_formed look && b) (formed_ended rest Ends refl))

  -- whether the arms of a case are well formed
  formed_arms : (rows : List (Vec ℤ Global)) (ys : List (ToldStmt is_formed (stmt_is_well_formed outline block_number)))
      → is_formed (arms_look rows (map look_stmt (map (λ s. s.0) ys)))
      ≡ (list_all are_whole rows && all_hold (map (is_well_formed_stmt outline block_number) (map (λ s. s.0) ys)))
  formed_arms [] [] = refl
  formed_arms (row ∷ rows) [] = ap (λ b. are_whole row && b) (formed_arms rows []) ∙ and_shifted (are_whole row) true (list_all are_whole rows) true
  formed_arms [] (y ∷ ys) = formed_cut (look_stmt y.0) (arms_look [] (map look_stmt (map (λ s. s.0) ys))) ∙ ap₂ (λ a b. a && b) y.1 (formed_arms [] ys)
  formed_arms (row ∷ rows) (y ∷ ys) =
      ap (λ b. are_whole row && b)
      (formed_cut (look_stmt y.0) (arms_look rows (map look_stmt (map (λ s. s.0) ys))) ∙ ap₂ (λ a b. a && b) y.1 (formed_arms rows ys))
      ∙ and_shifted (are_whole row) (is_well_formed_stmt outline block_number y.0) (list_all are_whole rows)
      (all_hold (map (is_well_formed_stmt outline block_number) (map (λ s. s.0) ys)))

  formed_stmt_layer : (y : Stmt-F (ToldStmt is_formed (stmt_is_well_formed outline block_number)))
      → is_formed (statement_look (map-Stmt Stmt Look look_stmt (opened_stmt y)))
      ≡ stmt_is_well_formed outline block_number (map-Stmt Stmt Bool (is_well_formed_stmt outline block_number) (opened_stmt y))
  formed_stmt_layer (Empty number) = refl
  formed_stmt_layer (Assign assignment) =
      let does = Target (origin_of assignment.target) assignment.target.selectors.items (length assignment.indexes.items) in
      let tests = map (is_well_formed_expr outline block_number) assignment.indexes.items in
      let end = FitsMark (origin_of assignment.target) assignment.target.selectors.items assignment.fits in
      let tested = is_formed_mark outline block_number end in
      formed_cut (look_access assignment.target assignment.indexes.items does) (look_expr assignment.value ++ (end ∷ []))
      ∙ ap₂ (λ a b. a && b) (formed_access assignment.target (map look_expr assignment.indexes.items) tests does (formed_indexes assignment.indexes.items))
      (formed_cut (look_expr assignment.value) (end ∷ []) ∙ ap (λ b. b && (tested && true)) (formed_expr assignment.value))
      ∙ and_assigned (all_hold tests) (is_formed_mark outline block_number does) (is_well_formed_expr outline block_number assignment.value) tested
  formed_stmt_layer (Copy copying) =
      let does = WholeTarget (origin_of copying.target) copying.target.selectors.items (length copying.indexes.items) copying.type_id in
      let tests = map (is_well_formed_expr outline block_number) copying.indexes.items in
      let copied = look_whole copying.value copying.value_indexes.items in
      let end = Copied copying.type_id (source_of copying.value) (length_of copying.value) in
      let fits = is_formed_mark outline block_number end in
      formed_cut (look_access copying.target copying.indexes.items does) (copied ++ (end ∷ []))
      ∙ ap₂ (λ a b. a && b) (formed_access copying.target (map look_expr copying.indexes.items) tests does (formed_indexes copying.indexes.items))
      (formed_cut copied (end ∷ []) ∙ ap (λ b. b && (fits && true)) (formed_value copying.value copying.value_indexes.items))
      ∙ and_assigned (all_hold tests) (is_formed_mark outline block_number does)
      (is_well_formed_value outline block_number copying.value copying.value_indexes.items) fits
  formed_stmt_layer (Write writing) =
      formed_ended (flat_map look_parameter writing.parameters.items) Ends refl
      ∙ formed_mapped look_parameter (is_well_formed_parameter outline block_number) formed_parameter writing.parameters.items
      ∙ sym (list_all-map (λ b. b) (is_well_formed_parameter outline block_number) writing.parameters.items)
  formed_stmt_layer (Read reading) =
      ap (λ b. is_well_formed_line outline block_number reading.line && b)
      (formed_ended (flat_map look_read reading.variables.items) Ends refl
      ∙ formed_mapped look_read (is_well_formed_read outline block_number) formed_read reading.variables.items
      ∙ sym (list_all-map (λ b. b) (is_well_formed_read outline block_number) reading.variables.items))
  formed_stmt_layer (Calling calling) =
      let test = is_well_formed_passed outline block_number in
      formed_call false calling.call (map look_passed calling.actuals.items) (map test calling.actuals.items)
      (formed_actuals calling.actuals.items calling.call.block 0)
      (length-map calling.actuals.items look_passed ∙ sym (length-map calling.actuals.items test))
  formed_stmt_layer (Compound number statements) =
      formed_ended (joined (map look_stmt (map (λ s. s.0) statements.items))) Ends refl
      ∙ formed_joined look_stmt (is_well_formed_stmt outline block_number) statements.items
  formed_stmt_layer (If number condition consequence None) =
      formed_chosen number condition (look_stmt consequence.value.0) []
      ∙ ap (λ b. is_well_formed_expr outline block_number condition && (b && true)) consequence.value.1
  formed_stmt_layer (If number condition consequence (Some other)) =
      formed_chosen number condition (look_stmt consequence.value.0) (Else ∷ look_stmt other.value.0)
      ∙ ap₂ (λ a b. is_well_formed_expr outline block_number condition && (a && b)) consequence.value.1 other.value.1
  formed_stmt_layer (While head body) =
      formed_cut (look_expr head.condition) (Do ∷ (look_stmt body.value.0 ++ (Ends ∷ [])))
      ∙ ap₂ (λ a b. a && b) (formed_expr head.condition) (formed_ended (look_stmt body.value.0) Ends refl ∙ body.value.1)
  formed_stmt_layer (Repeat head statements) =
      let rows = joined (map look_stmt (map (λ s. s.0) statements.items)) in
      formed_cut rows (Until ∷ (look_expr head.condition ++ (Ends ∷ [])))
      ∙ ap₂ (λ a b. a && b) (formed_joined look_stmt (is_well_formed_stmt outline block_number) statements.items)
      (formed_ended (look_expr head.condition) Ends refl ∙ formed_expr head.condition)
  formed_stmt_layer (For head body) =
      let inside = FitsMark (AtVariable head.control) [] head.last.fits ∷ Controls head.control ∷ (look_stmt body.value.0 ++ (ForEnds ∷ [])) in
      ap (λ b. is_control outline block_number head.control && b)
      (formed_cut (look_expr head.first.value) (FitsMark (AtVariable head.control) [] head.first.fits ∷ (look_expr head.last.value ++ inside))
      ∙ ap₂ (λ a b. a && (fits_target outline block_number head.first.fits (AtVariable head.control) [] && b)) (formed_expr head.first.value)
      (formed_cut (look_expr head.last.value) inside
      ∙ ap₂ (λ a b. a && (fits_target outline block_number head.last.fits (AtVariable head.control) [] && b)) (formed_expr head.last.value)
      (formed_ended (look_stmt body.value.0) ForEnds refl ∙ body.value.1)))
  formed_stmt_layer (Case head arms) =
      let inside = arms_look head.constants.items (map look_stmt (map (λ s. s.0) arms.items)) in
      ap (λ b. nat_lt head.site outline.sites && b)
      (formed_cut (look_expr head.index) (inside ++ (Ends ∷ []))
      ∙ ap₂ (λ a b. a && b) (formed_expr head.index) (formed_ended inside Ends refl ∙ formed_arms head.constants.items arms.items))
  formed_stmt_layer (With head body) =
      formed_cut (flat_map look_record head.records.items) (Do ∷ (look_stmt body.value.0 ++ (WithEnds head.first_slot ∷ [])))
      ∙ ap₂ (λ a b. a && b)
      (formed_mapped look_record (is_well_formed_record outline block_number) formed_record head.records.items
      ∙ sym (list_all-map (λ b. b) (is_well_formed_record outline block_number) head.records.items))
      (formed_ended (look_stmt body.value.0) (WithEnds head.first_slot) refl ∙ body.value.1)

  -- the look of a statement tells whether it is well formed
  pub formed_stmt : (s : Stmt) → is_formed (look_stmt s) ≡ is_well_formed_stmt outline block_number s
  formed_stmt = measured_stmt is_formed (stmt_is_well_formed outline block_number) formed_stmt_layer
