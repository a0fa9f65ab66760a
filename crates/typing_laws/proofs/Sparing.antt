-- What the look of a statement tells of the variables that it spares, and of the control variables of its for statements.
use Rattle.std.specs.declared.alloc.Global.{Global}
use Rattle.std.proofs.Common.{Vec, ℤ, ◌≡◌, ℕ, suc, Bool, true, false, ◌&&◌, if◌then◌else◌, List, [], ◌∷◌, ◌++◌, length, map, Option}
use Rattle.std.proofs.Common.{Some, None, refl, sym, ap, subst, ◌∙◌}
use Rattle.std.specs.Prelude.{flat_map}
use Rattle.std.specs.Option.{option_and_then}
use Rattle.std.proofs.lemmas.Bool.{and_from}
use Rattle.typed_tree.specs.declared.tree.Width.{Width as TotalWidth}
use Rattle.typed_tree.specs.declared.tree.WriteParameter.{WriteParameter}
use Rattle.typed_tree.specs.declared.tree.Written.{Written as WrittenValue}
use Rattle.typed_tree.specs.declared.tree.Written.TheVariants.{Ordinal, String}
use Rattle.typed_tree.specs.declared.tree.Whole.{Whole}
use Rattle.typed_tree.specs.declared.tree.Whole.TheVariants.{Text as TextOf, Variable as WholeOf}
use Rattle.typed_tree.specs.declared.tree.Expr.{Expr}
use Rattle.typed_tree.specs.declared.tree.Link.{Link}
use Rattle.typed_tree.specs.declared.tree.Passed.{Passed}
use Rattle.typed_tree.specs.declared.tree.Expr.TheOpen.{Expr-F, Passed-F, Link-F}
use Rattle.typed_tree.specs.declared.tree.Expr.TheOpen.Expr-F.{Constant, Variable, Monadic as MonadicOf, Chain, Compare, Call as CallOf, Set, Input}
use Rattle.typed_tree.specs.declared.tree.Expr.TheOpen.Passed-F.{Value as PassedValue, Whole as PassedWhole, Reference}
use Rattle.typed_tree.specs.declared.tree.Expr.TheFolds.{map-Expr, map-Passed, map-Link, fold-roll-Expr, fold-roll-Passed, fold-roll-Link, ind-Expr, ind-Passed}
use Rattle.typed_tree.specs.declared.tree.Expr.TheViews.{roll-Expr, roll-Passed, roll-Link}
use Rattle.typed_tree.specs.declared.tree.Stmt.{Stmt}
use Rattle.typed_tree.specs.declared.tree.Stmt.TheOpen.{Stmt-F}
use Rattle.typed_tree.specs.declared.tree.Stmt.TheOpen.Stmt-F.{Empty, Assign, Write, Compound, If, While, Repeat, For, Case, Copy, Call as Calling}
use Rattle.typed_tree.specs.declared.tree.Stmt.TheOpen.Stmt-F.{Read, With}
use Rattle.typed_tree.specs.declared.tree.Access.{Access}
use Rattle.typed_tree.specs.declared.tree.Base.{Base}
use Rattle.typed_tree.specs.declared.tree.Base.TheVariants as base
use Rattle.typed_tree.specs.declared.tree.ReadVariable.{ReadVariable}
use Rattle.typed_tree.specs.declared.tree.WithRecord.{WithRecord}
use Rattle.typed_tree.specs.Accesses.{AtVariable, origin_by, origin_of, root_of}
use Rattle.typed_tree.specs.declared.tree.Stmt.TheFolds.{map-Stmt, fold-roll-Stmt, ind-Stmt}
use Rattle.typed_tree.specs.declared.tree.Stmt.TheViews.{roll-Stmt}
use Rattle.typed_tree.specs.Entries.{joined}
use Rattle.typed_tree.specs.WellFormed.{placed, source_of}
use Rattle.typed_tree.specs.Look.{Look, Mark, Ends, Then, Else, Do, Until, Fits, Controls, ForEnds, Target, WholeTarget, Width, Written}
use Rattle.typed_tree.specs.Look.{WithEnds, look_read, look_record}
use Rattle.typed_tree.specs.Look.{WrittenString, whole_look, passed_look, link_look, expression_look, look_expr, look_passed}
use Rattle.typed_tree.specs.Look.{look_link, look_whole, look_width, look_written, look_parameter, arms_look, statement_look, look_stmt}
use Rattle.typed_tree.specs.Threats.{Spares, all_so, all_spare, expr_spares, indexes_so, is_none_of, link_spares, passed_spares, spares, spares_in_expr}
use Rattle.typed_tree.specs.Threats.{spares_in_indexes, spares_in_link, spares_in_parameter, spares_in_passed, spares_in_whole, spares_in_width}
use Rattle.typed_tree.specs.Threats.{spares_in_read, spares_in_record, spares_in_written, statement_spares}
use Rattle.typing_laws.specs.Controls.{mark_behind, spared_behind}
use Rattle.typing_laws.proofs.Spared.{spared_append}

-- an access begins in the variable of its root
pub origin_root : (access : Access) → root_of (origin_of access) ≡ access.root
origin_root access = by access.base
  where
    by : (b : Base) → root_of (origin_by access.root b) ≡ access.root
    by base.Variable = refl
    by (base.Record slot steps) = refl

-- ---- forms one after another

pub some_same : {A : Type 0} (x y : A) → Some x ≡ Some y → x ≡ y
some_same x y is = cc

pub cut : (roots behind : List ℕ) (look more : Look) → spared_behind roots (look ++ more) ≡ Some behind
    → (mid : List ℕ) × (spared_behind roots look ≡ Some mid) × (spared_behind mid more ≡ Some behind)
cut roots behind look more is = by (spared_behind roots look) refl (sym (spared_append roots look more) ∙ is)
  where
    by : (found : Option (List ℕ)) → spared_behind roots look ≡ found
        → option_and_then (λ (mid : List ℕ). spared_behind mid more) found ≡ Some behind
        → (mid : List ℕ) × (spared_behind roots look ≡ Some mid) × (spared_behind mid more ≡ Some behind)
    by None there is = absurd cc
    by (Some mid) there is = (mid, there, is)

-- forms that look so tell that variables are spared, and leave those round them
abbrev pub Tells : Look → Spares → Type 0
Tells look so = (roots behind : List ℕ) → spared_behind roots look ≡ Some behind → (so roots ≡ true) × (behind ≡ roots)

nothing : Tells [] (λ roots. true)
nothing roots behind is = (refl, sym (some_same roots behind is))

tells_then : (look more : Look) (so also : Spares) → Tells look so → Tells more also → Tells (look ++ more) (λ roots. so roots && also roots)
tells_then look more so also one two roots behind is =
    let parts = cut roots behind look more is in
    let first = one roots parts.0 parts.1 in
    let second = two roots behind (subst (λ (mid : List ℕ). spared_behind mid more ≡ Some behind) first.1 parts.2) in
    (and_from (so roots) (also roots) first.0 second.0, second.1)

-- a form behind others that tells nothing
tells_before : (look : Look) (end : Mark) (so : Spares) → ((roots : List ℕ) → mark_behind end roots ≡ Some roots) → Tells look so
    → Tells (look ++ (end ∷ [])) so
tells_before look end so plain one roots behind is =
    let parts = cut roots behind look (end ∷ []) is in
    let first = one roots parts.0 parts.1 in
    let last : spared_behind parts.0 (end ∷ []) ≡ Some parts.0 =
    ap (option_and_then (λ (more : List ℕ). spared_behind more [])) (plain parts.0) in
    (first.0, some_same behind parts.0 (sym parts.2 ∙ last) ∙ first.1)

-- one that changes a variable
changed : (free : Bool) (roots behind : List ℕ) (marks : Look)
    → option_and_then (λ (more : List ℕ). spared_behind more marks) (if free && true then Some roots else None) ≡ Some behind
    → (free ≡ true) × (spared_behind roots marks ≡ Some behind)
changed true roots behind marks is = (refl, is)
changed false roots behind marks is = absurd cc

tells_change : (look : Look) (end : Mark) (root : ℕ) (so : Spares)
    → ((roots : List ℕ) → mark_behind end roots ≡ (if is_none_of roots root && true then Some roots else None)) → Tells look so
    → Tells (look ++ (end ∷ [])) (λ roots. so roots && is_none_of roots root)
tells_change look end root so changes one roots behind is =
    let parts = cut roots behind look (end ∷ []) is in
    let first = one roots parts.0 parts.1 in
    let last = changed (is_none_of parts.0 root) parts.0 behind []
    (sym (ap (option_and_then (λ (more : List ℕ). spared_behind more [])) (changes parts.0)) ∙ parts.2) in
    let free : is_none_of roots root ≡ true = subst (λ (mid : List ℕ). is_none_of mid root ≡ true) first.1 last.0 in
    (and_from (so roots) (is_none_of roots root) first.0 free, sym (some_same parts.0 behind last.1) ∙ first.1)

tells_along : (look other : Look) (so also : Spares) → other ≡ look → ((roots : List ℕ) → also roots ≡ so roots) → Tells look so → Tells other also
tells_along look other so also is same told roots behind h =
    let k = told roots behind (ap (spared_behind roots) (sym is) ∙ h) in
    (same roots ∙ k.0, k.1)

-- ---- expressions

abbrev TellsExpr : Expr → Type 0
TellsExpr e = Tells (look_expr e) (λ roots. spares_in_expr roots e)

abbrev TellsPassed : Passed → Type 0
TellsPassed p = (callee position : ℕ) → Tells (look_passed p callee position) (λ roots. spares_in_passed roots p)

abbrev TellsLink : Link → Type 0
TellsLink l = Tells (look_link l) (λ roots. spares_in_link roots l)

abbrev ToldExpr : Type 0
ToldExpr = (e : Expr) × TellsExpr e

abbrev ToldPassed : Type 0
ToldPassed = (p : Passed) × TellsPassed p

abbrev ToldLink : Type 0
ToldLink = (l : Link) × TellsLink l

tells_indexes : (indexes : List ToldExpr)
    → Tells (joined (map look_expr (map (λ e. e.0) indexes))) (λ roots. spares_in_indexes roots (map (λ e. e.0) indexes))
tells_indexes [] = nothing
tells_indexes (index ∷ indexes) =
    tells_then (look_expr index.0) (joined (map look_expr (map (λ e. e.0) indexes))) (λ roots. spares_in_expr roots index.0)
    (λ roots. spares_in_indexes roots (map (λ e. e.0) indexes)) index.1 (tells_indexes indexes)

tells_links : (links : List ToldLink)
    → Tells (joined (map look_link (map (λ l. l.0) links))) (λ roots. all_so (map (spares_in_link roots) (map (λ l. l.0) links)))
tells_links [] = nothing
tells_links (link ∷ links) =
    tells_then (look_link link.0) (joined (map look_link (map (λ l. l.0) links))) (λ roots. spares_in_link roots link.0)
    (λ roots. all_so (map (spares_in_link roots) (map (λ l. l.0) links))) link.1 (tells_links links)

tells_placed : (actuals : List ToldPassed) (callee position : ℕ)
    → Tells (joined (placed callee position (map look_passed (map (λ p. p.0) actuals))))
    (λ roots. all_so (map (spares_in_passed roots) (map (λ p. p.0) actuals)))
tells_placed [] callee position = nothing
tells_placed (one ∷ rest) callee position =
    tells_then (look_passed one.0 callee position) (joined (placed callee (suc position) (map look_passed (map (λ p. p.0) rest))))
    (λ roots. spares_in_passed roots one.0) (λ roots. all_so (map (spares_in_passed roots) (map (λ p. p.0) rest))) (one.1 callee position)
    (tells_placed rest callee (suc position))

tells_whole : (value : Whole) (looks : List Look) (so : List ℕ → List Bool) → Tells (joined looks) (λ roots. all_so (so roots))
    → Tells (whole_look value looks) (λ roots. indexes_so value (so roots))
tells_whole (TextOf number characters) looks so told = nothing
tells_whole (WholeOf access type_id cells defined) looks so told = tells_before (joined looks) _ (λ roots. all_so (so roots)) (λ roots. refl) told

abbrev bare : Expr-F ToldExpr ToldPassed ToldLink → Expr-F Expr Passed Link
bare = map-Expr ToldExpr ToldPassed ToldLink Expr Passed Link (λ e. e.0) (λ p. p.0) (λ l. l.0)

abbrev bare_passed : Passed-F ToldExpr ToldPassed ToldLink → Passed-F Expr Passed Link
bare_passed = map-Passed ToldExpr ToldPassed ToldLink Expr Passed Link (λ e. e.0) (λ p. p.0) (λ l. l.0)

abbrev bare_link : Link-F ToldExpr ToldPassed ToldLink → Link-F Expr Passed Link
bare_link = map-Link ToldExpr ToldPassed ToldLink Expr Passed Link (λ e. e.0) (λ p. p.0) (λ l. l.0)

abbrev pub Passing : Type 0
Passing = ℕ → ℕ → Look

abbrev pub layer : Expr-F Expr Passed Link → Look
layer y = expression_look (map-Expr Expr Passed Link Look Passing Look look_expr look_passed look_link y)

abbrev pub passed_layer : Passed-F Expr Passed Link → Passing
passed_layer y = passed_look (map-Passed Expr Passed Link Look Passing Look look_expr look_passed look_link y)

abbrev pub link_layer : Link-F Expr Passed Link → Look
link_layer y = link_look (map-Link Expr Passed Link Look Passing Look look_expr look_passed look_link y)

abbrev so_layer : Expr-F Expr Passed Link → Spares
so_layer y roots = expr_spares roots (map-Expr Expr Passed Link Bool Bool Bool (spares_in_expr roots) (spares_in_passed roots) (spares_in_link roots) y)

abbrev so_passed_layer : Passed-F Expr Passed Link → Spares
so_passed_layer y roots =
    passed_spares roots (map-Passed Expr Passed Link Bool Bool Bool (spares_in_expr roots) (spares_in_passed roots) (spares_in_link roots) y)

abbrev so_link_layer : Link-F Expr Passed Link → Spares
so_link_layer y roots = link_spares roots (map-Link Expr Passed Link Bool Bool Bool (spares_in_expr roots) (spares_in_passed roots) (spares_in_link roots) y)

tells_layer : (y : Expr-F ToldExpr ToldPassed ToldLink) → Tells (layer (bare y)) (so_layer (bare y))
tells_layer (Constant number value) = nothing
tells_layer (Variable access indexes held defined) =
    tells_before (joined (map look_expr (map (λ e. e.0) indexes.items))) _ (λ roots. spares_in_indexes roots (map (λ e. e.0) indexes.items)) (λ roots. refl)
    (tells_indexes indexes.items)
tells_layer (MonadicOf number operation operand) =
    tells_before (look_expr operand.value.0) _ (λ roots. spares_in_expr roots operand.value.0) (λ roots. refl) operand.value.1
tells_layer (Chain first rest) =
    let links = joined (map look_link (map (λ l. l.0) rest.items)) in
    let so = λ (roots : List ℕ). all_so (map (spares_in_link roots) (map (λ l. l.0) rest.items)) in
    tells_then (look_expr first.value.0) (links ++ (Ends ∷ [])) (λ roots. spares_in_expr roots first.value.0) so first.value.1
    (tells_before links Ends so (λ roots. refl) (tells_links rest.items))
tells_layer (Compare number relation left left_indexes right right_indexes) =
    let inside = map (λ (e : ToldExpr). e.0) left_indexes.items in
    let others = map (λ (e : ToldExpr). e.0) right_indexes.items in
    let second = whole_look right (map look_expr others) in
    let one = tells_whole left (map look_expr inside) (λ roots. map (spares_in_expr roots) inside) (tells_indexes left_indexes.items) in
    let two = tells_whole right (map look_expr others) (λ roots. map (spares_in_expr roots) others) (tells_indexes right_indexes.items) in
    tells_then (whole_look left (map look_expr inside)) (_ ∷ (second ++ (_ ∷ Ends ∷ []))) (λ roots. indexes_so left (map (spares_in_expr roots) inside))
    (λ roots. indexes_so right (map (spares_in_expr roots) others)) one
    (λ roots behind is.
    let parts = cut roots behind second (_ ∷ Ends ∷ []) is in
    let k = two roots parts.0 parts.1 in
    (k.0, sym (some_same parts.0 behind parts.2) ∙ k.1))
tells_layer (CallOf call actuals) =
    tells_before (joined (placed call.block 0 (map look_passed (map (λ p. p.0) actuals.items)))) _
    (λ roots. all_so (map (spares_in_passed roots) (map (λ p. p.0) actuals.items))) (λ roots. refl) (tells_placed actuals.items call.block 0)
tells_layer (Input number asks) = nothing
tells_layer (Set number designators members) =
    tells_before (joined (map look_expr (map (λ e. e.0) members.items))) _ (λ roots. spares_in_indexes roots (map (λ e. e.0) members.items)) (λ roots. refl)
    (tells_indexes members.items)

-- what the origin of an access says of its root
spares_origin : (access : Access) (roots : List ℕ)
    → (if is_none_of roots (root_of (origin_of access)) && true then Some roots else None)
    ≡ (if is_none_of roots access.root && true then Some roots else None)
spares_origin access roots = ap (λ (root : ℕ). if is_none_of roots root && true then Some roots else None) (origin_root access)

tells_passed_layer : (y : Passed-F ToldExpr ToldPassed ToldLink) (callee position : ℕ)
    → Tells (passed_layer (bare_passed y) callee position) (so_passed_layer (bare_passed y))
tells_passed_layer (PassedValue value fits) callee position =
    tells_before (look_expr value.0) _ (λ roots. spares_in_expr roots value.0) (λ roots. refl) value.1
tells_passed_layer (PassedWhole type_id value indexes) callee position =
    let inside = map (λ (e : ToldExpr). e.0) indexes.items in
    tells_before (whole_look value (map look_expr inside)) _ (λ roots. indexes_so value (map (spares_in_expr roots) inside)) (λ roots. refl)
    (tells_whole value (map look_expr inside) (λ roots. map (spares_in_expr roots) inside) (tells_indexes indexes.items))
tells_passed_layer (Reference type_id access indexes) callee position =
    tells_change (joined (map look_expr (map (λ e. e.0) indexes.items))) _ access.root
    (λ roots. spares_in_indexes roots (map (λ e. e.0) indexes.items)) (spares_origin access) (tells_indexes indexes.items)

tells_link_layer : (y : Link-F ToldExpr ToldPassed ToldLink) → Tells (link_layer (bare_link y)) (so_link_layer (bare_link y))
tells_link_layer y = y.operand.1

of_expr : (x : Expr-F Expr Passed Link) (y : Expr-F ToldExpr ToldPassed ToldLink) → bare y ≡ x → TellsExpr (roll-Expr x)
of_expr x y is =
    tells_along (layer (bare y)) (look_expr (roll-Expr x)) (so_layer (bare y)) (λ roots. spares_in_expr roots (roll-Expr x))
    (fold-roll-Expr Look Passing Look expression_look passed_look link_look x ∙ ap layer (sym is))
    (λ roots. fold-roll-Expr Bool Bool Bool (expr_spares roots) (passed_spares roots) (link_spares roots) x
    ∙ ap (λ (z : Expr-F Expr Passed Link). so_layer z roots) (sym is)) (tells_layer y)

of_passed : (x : Passed-F Expr Passed Link) (y : Passed-F ToldExpr ToldPassed ToldLink) → bare_passed y ≡ x → TellsPassed (roll-Passed x)
of_passed x y is callee position =
    tells_along (passed_layer (bare_passed y) callee position) (look_passed (roll-Passed x) callee position) (so_passed_layer (bare_passed y))
    (λ roots. spares_in_passed roots (roll-Passed x))
    (ap (λ (look : Passing). look callee position) (fold-roll-Passed Look Passing Look expression_look passed_look link_look x)
    ∙ ap (λ (z : Passed-F Expr Passed Link). passed_layer z callee position) (sym is))
    (λ roots. fold-roll-Passed Bool Bool Bool (expr_spares roots) (passed_spares roots) (link_spares roots) x
    ∙ ap (λ (z : Passed-F Expr Passed Link). so_passed_layer z roots) (sym is)) (tells_passed_layer y callee position)

of_link : (x : Link-F Expr Passed Link) (y : Link-F ToldExpr ToldPassed ToldLink) → bare_link y ≡ x → TellsLink (roll-Link x)
of_link x y is =
    tells_along (link_layer (bare_link y)) (look_link (roll-Link x)) (so_link_layer (bare_link y)) (λ roots. spares_in_link roots (roll-Link x))
    (fold-roll-Link Look Passing Look expression_look passed_look link_look x ∙ ap link_layer (sym is))
    (λ roots. fold-roll-Link Bool Bool Bool (expr_spares roots) (passed_spares roots) (link_spares roots) x
    ∙ ap (λ (z : Link-F Expr Passed Link). so_link_layer z roots) (sym is)) (tells_link_layer y)

tells_expr : (e : Expr) → TellsExpr e
tells_expr = ind-Expr TellsExpr TellsPassed TellsLink of_expr of_passed of_link

tells_passed : (p : Passed) → TellsPassed p
tells_passed = ind-Passed TellsExpr TellsPassed TellsLink of_expr of_passed of_link

tells_exprs : (indexes : List Expr) → Tells (joined (map look_expr indexes)) (λ roots. spares_in_indexes roots indexes)
tells_exprs [] = nothing
tells_exprs (index ∷ indexes) =
    tells_then (look_expr index) (joined (map look_expr indexes)) (λ roots. spares_in_expr roots index) (λ roots. spares_in_indexes roots indexes)
    (tells_expr index) (tells_exprs indexes)

tells_actuals : (actuals : List Passed) (callee position : ℕ)
    → Tells (joined (placed callee position (map look_passed actuals))) (λ roots. all_so (map (spares_in_passed roots) actuals))
tells_actuals [] callee position = nothing
tells_actuals (one ∷ rest) callee position =
    tells_then (look_passed one callee position) (joined (placed callee (suc position) (map look_passed rest))) (λ roots. spares_in_passed roots one)
    (λ roots. all_so (map (spares_in_passed roots) rest)) (tells_passed one callee position) (tells_actuals rest callee (suc position))

tells_value : (value : Whole) (indexes : List Expr) → Tells (look_whole value indexes) (λ roots. spares_in_whole roots value indexes)
tells_value value indexes = tells_whole value (map look_expr indexes) (λ roots. map (spares_in_expr roots) indexes) (tells_exprs indexes)

tells_written : (value : WrittenValue) → Tells (look_written value) (λ roots. spares_in_written roots value)
tells_written (Ordinal value representation) =
    tells_before (look_expr value) (Written representation) (λ roots. spares_in_expr roots value) (λ roots. refl) (tells_expr value)
tells_written (String value indexes) =
    tells_before (look_whole value indexes.items) (WrittenString (source_of value)) (λ roots. spares_in_whole roots value indexes.items) (λ roots. refl)
    (tells_value value indexes.items)

tells_width : (width : Option TotalWidth) → Tells (look_width width) (λ roots. spares_in_width roots width)
tells_width None = nothing
tells_width (Some width) =
    tells_before (look_expr width.value) (Width width.site) (λ roots. spares_in_expr roots width.value) (λ roots. refl) (tells_expr width.value)

tells_parameters : (parameters : List WriteParameter)
    → Tells (flat_map look_parameter parameters) (λ roots. all_so (map (spares_in_parameter roots) parameters))
tells_parameters [] = nothing
tells_parameters (parameter ∷ parameters) =
    tells_then (look_parameter parameter) (flat_map look_parameter parameters) (λ roots. spares_in_parameter roots parameter)
    (λ roots. all_so (map (spares_in_parameter roots) parameters))
    (tells_then (look_written parameter.value) (look_width parameter.width) (λ roots. spares_in_written roots parameter.value)
    (λ roots. spares_in_width roots parameter.width) (tells_written parameter.value) (tells_width parameter.width))
    (tells_parameters parameters)

-- a variable that is read is changed
tells_read : (one : ReadVariable) → Tells (look_read one) (λ roots. spares_in_read roots one)
tells_read one =
    tells_change (joined (map look_expr one.indexes.items)) _ one.access.root (λ roots. spares_in_indexes roots one.indexes.items)
    (spares_origin one.access) (tells_exprs one.indexes.items)

tells_reads : (variables : List ReadVariable) → Tells (flat_map look_read variables) (λ roots. all_so (map (spares_in_read roots) variables))
tells_reads [] = nothing
tells_reads (one ∷ others) =
    tells_then (look_read one) (flat_map look_read others) (λ roots. spares_in_read roots one) (λ roots. all_so (map (spares_in_read roots) others))
    (tells_read one) (tells_reads others)

-- ---- statements

abbrev TellsStmt : Stmt → Type 0
TellsStmt s = Tells (look_stmt s) (spares s)

abbrev ToldStmt : Type 0
ToldStmt = (s : Stmt) × TellsStmt s

tells_all : (statements : List ToldStmt)
    → Tells (joined (map look_stmt (map (λ s. s.0) statements))) (all_spare (map spares (map (λ s. s.0) statements)))
tells_all [] = nothing
tells_all (statement ∷ statements) =
    tells_then (look_stmt statement.0) (joined (map look_stmt (map (λ s. s.0) statements))) (spares statement.0)
    (all_spare (map spares (map (λ s. s.0) statements))) statement.1 (tells_all statements)

tells_rows : (rows : List (Vec ℤ Global)) → Tells (arms_look rows []) (λ roots. true)
tells_rows [] = nothing
tells_rows (row ∷ rows) = tells_rows rows

tells_arms : (rows : List (Vec ℤ Global)) (arms : List ToldStmt)
    → Tells (arms_look rows (map look_stmt (map (λ s. s.0) arms))) (all_spare (map spares (map (λ s. s.0) arms)))
tells_arms rows [] = tells_rows rows
tells_arms [] (arm ∷ arms) =
    tells_then (look_stmt arm.0) (arms_look [] (map look_stmt (map (λ s. s.0) arms))) (spares arm.0) (all_spare (map spares (map (λ s. s.0) arms))) arm.1
    (tells_arms [] arms)
tells_arms (row ∷ rows) (arm ∷ arms) =
    tells_then (look_stmt arm.0) (arms_look rows (map look_stmt (map (λ s. s.0) arms))) (spares arm.0) (all_spare (map spares (map (λ s. s.0) arms))) arm.1
    (tells_arms rows arms)

tells_records : (records : List WithRecord) → Tells (flat_map look_record records) (λ roots. all_so (map (spares_in_record roots) records))
tells_records [] = nothing
tells_records (one ∷ records) =
    tells_then (look_record one) (flat_map look_record records) (λ roots. spares_in_record roots one)
    (λ roots. all_so (map (spares_in_record roots) records))
    (tells_before (joined (map look_expr one.indexes.items)) _ (λ roots. spares_in_indexes roots one.indexes.items) (λ roots. refl)
    (tells_exprs one.indexes.items))
    (tells_records records)

-- the statement of a for spares its control variable too
tells_body : (control : ℕ) (body : Stmt) → TellsStmt body
    → Tells (Controls control ∷ (look_stmt body ++ (ForEnds ∷ []))) (λ roots. spares body (control ∷ roots))
tells_body control body told roots behind is =
    let parts = cut (control ∷ roots) behind (look_stmt body) (ForEnds ∷ []) is in
    let k = told (control ∷ roots) parts.0 parts.1 in
    let last : spared_behind (control ∷ roots) (ForEnds ∷ []) ≡ Some behind =
    subst (λ (mid : List ℕ). spared_behind mid (ForEnds ∷ []) ≡ Some behind) k.1 parts.2 in
    (k.0, sym (some_same roots behind last))

abbrev bare_stmt : Stmt-F ToldStmt → Stmt-F Stmt
bare_stmt = map-Stmt ToldStmt Stmt (λ s. s.0)

abbrev stmt_layer : Stmt-F Stmt → Look
stmt_layer y = statement_look (map-Stmt Stmt Look look_stmt y)

abbrev so_stmt_layer : Stmt-F Stmt → Spares
so_stmt_layer y = statement_spares (map-Stmt Stmt Spares spares y)

tells_chosen : (condition : Expr) (first rest : Look) (so also : Spares) → Tells first so → Tells rest also
    → Tells (look_expr condition ++ (Then ∷ (first ++ (rest ++ (Ends ∷ []))))) (λ roots. spares_in_expr roots condition && (so roots && also roots))
tells_chosen condition first rest so also one two =
    tells_then (look_expr condition) (Then ∷ (first ++ (rest ++ (Ends ∷ [])))) (λ roots. spares_in_expr roots condition) (λ roots. so roots && also roots)
    (tells_expr condition)
    (tells_then first (rest ++ (Ends ∷ [])) so also one (tells_before rest Ends also (λ roots. refl) two))

tells_assigned : (indexes : List Expr) (does : Mark) (root : ℕ) (rest : Look) (also : Spares)
    → ((roots : List ℕ) → mark_behind does roots ≡ (if is_none_of roots root && true then Some roots else None)) → Tells rest also
    → Tells ((joined (map look_expr indexes) ++ (does ∷ [])) ++ rest) (λ roots. spares_in_indexes roots indexes && (is_none_of roots root && also roots))
tells_assigned indexes does root rest also changes told roots behind is =
    let access = joined (map look_expr indexes) in
    let so = λ (all : List ℕ). spares_in_indexes all indexes in
    let k = tells_then (access ++ (does ∷ [])) rest (λ all. so all && is_none_of all root) also
    (tells_change access does root so changes (tells_exprs indexes)) told roots behind is in
    (regrouped (so roots) (is_none_of roots root) (also roots) k.0, k.1)
  where
    regrouped : (a b c : Bool) → ((a && b) && c) ≡ true → (a && (b && c)) ≡ true
    regrouped true b c is = is
    regrouped false b c is = is

tells_stmt_layer : (y : Stmt-F ToldStmt) → Tells (stmt_layer (bare_stmt y)) (so_stmt_layer (bare_stmt y))
tells_stmt_layer (Empty number) = nothing
tells_stmt_layer (Assign assignment) =
    let target = assignment.target in
    let value = look_expr assignment.value in
    let end = Fits (origin_of target) target.selectors.items assignment.fits in
    tells_assigned assignment.indexes.items (Target (origin_of target) target.selectors.items (length assignment.indexes.items)) target.root
    (value ++ (end ∷ [])) (λ roots. spares_in_expr roots assignment.value) (spares_origin target)
    (tells_before value end (λ roots. spares_in_expr roots assignment.value) (λ roots. refl) (tells_expr assignment.value))
tells_stmt_layer (Copy copying) =
    let target = copying.target in
    let value = look_whole copying.value copying.value_indexes.items in
    let so = λ (roots : List ℕ). spares_in_whole roots copying.value copying.value_indexes.items in
    tells_assigned copying.indexes.items (WholeTarget (origin_of target) target.selectors.items (length copying.indexes.items) copying.type_id) target.root
    (value ++ (_ ∷ [])) so (spares_origin target) (tells_before value _ so (λ roots. refl) (tells_value copying.value copying.value_indexes.items))
tells_stmt_layer (Write writing) =
    tells_before (flat_map look_parameter writing.parameters.items) Ends (λ roots. all_so (map (spares_in_parameter roots) writing.parameters.items))
    (λ roots. refl) (tells_parameters writing.parameters.items)
tells_stmt_layer (Read reading) =
    tells_before (flat_map look_read reading.variables.items) Ends (λ roots. all_so (map (spares_in_read roots) reading.variables.items)) (λ roots. refl)
    (tells_reads reading.variables.items)
tells_stmt_layer (Calling calling) =
    tells_before (joined (placed calling.call.block 0 (map look_passed calling.actuals.items))) _
    (λ roots. all_so (map (spares_in_passed roots) calling.actuals.items)) (λ roots. refl) (tells_actuals calling.actuals.items calling.call.block 0)
tells_stmt_layer (Compound number statements) =
    tells_before (joined (map look_stmt (map (λ s. s.0) statements.items))) Ends (all_spare (map spares (map (λ s. s.0) statements.items))) (λ roots. refl)
    (tells_all statements.items)
tells_stmt_layer (If number condition consequence None) =
    tells_chosen condition (look_stmt consequence.value.0) [] (spares consequence.value.0) (λ roots. true) consequence.value.1 nothing
tells_stmt_layer (If number condition consequence (Some other)) =
    tells_chosen condition (look_stmt consequence.value.0) (Else ∷ look_stmt other.value.0) (spares consequence.value.0) (spares other.value.0)
    consequence.value.1 other.value.1
tells_stmt_layer (While head body) =
    tells_then (look_expr head.condition) (Do ∷ (look_stmt body.value.0 ++ (Ends ∷ []))) (λ roots. spares_in_expr roots head.condition) (spares body.value.0)
    (tells_expr head.condition) (tells_before (look_stmt body.value.0) Ends (spares body.value.0) (λ roots. refl) body.value.1)
tells_stmt_layer (Repeat head statements) =
    tells_then (joined (map look_stmt (map (λ s. s.0) statements.items))) (Until ∷ (look_expr head.condition ++ (Ends ∷ [])))
    (all_spare (map spares (map (λ s. s.0) statements.items))) (λ roots. spares_in_expr roots head.condition) (tells_all statements.items)
    (tells_before (look_expr head.condition) Ends (λ roots. spares_in_expr roots head.condition) (λ roots. refl) (tells_expr head.condition))
tells_stmt_layer (For head body) = λ roots behind is.
    let first = look_expr head.first.value in
    let last = look_expr head.last.value in
    let inside = Fits (AtVariable head.control) [] head.last.fits ∷ Controls head.control ∷ (look_stmt body.value.0 ++ (ForEnds ∷ [])) in
    let more = Fits (AtVariable head.control) [] head.first.fits ∷ (last ++ inside) in
    let in_body = λ (all : List ℕ). spares body.value.0 (head.control ∷ all) in
    let in_last = λ (all : List ℕ). spares_in_expr all head.last.value in
    let one = changed (is_none_of roots head.control) roots behind (first ++ more) is in
    let two = tells_then first more (λ all. spares_in_expr all head.first.value) (λ all. in_last all && in_body all) (tells_expr head.first.value)
    (tells_then last inside in_last in_body (tells_expr head.last.value) (tells_body head.control body.value.0 body.value.1)) roots behind one.1 in
    (and_from (is_none_of roots head.control) (spares_in_expr roots head.first.value && (in_last roots && in_body roots)) one.0 two.0, two.1)
tells_stmt_layer (Case head arms) =
    let inside = arms_look head.constants.items (map look_stmt (map (λ s. s.0) arms.items)) in
    let so = all_spare (map spares (map (λ s. s.0) arms.items)) in
    tells_then (look_expr head.index) (inside ++ (Ends ∷ [])) (λ roots. spares_in_expr roots head.index) so (tells_expr head.index)
    (tells_before inside Ends so (λ roots. refl) (tells_arms head.constants.items arms.items))
tells_stmt_layer (With head body) =
    let so = λ (roots : List ℕ). all_so (map (spares_in_record roots) head.records.items) in
    tells_then (flat_map look_record head.records.items) (Do ∷ (look_stmt body.value.0 ++ (WithEnds head.first_slot ∷ []))) so (spares body.value.0)
    (tells_records head.records.items)
    (tells_before (look_stmt body.value.0) (WithEnds head.first_slot) (spares body.value.0) (λ roots. refl) body.value.1)

-- how a statement looks tells what it spares
pub tells_stmt : (s : Stmt) → TellsStmt s
tells_stmt =
    ind-Stmt TellsStmt
    (λ x y is.
    tells_along (stmt_layer (bare_stmt y)) (look_stmt (roll-Stmt x)) (so_stmt_layer (bare_stmt y)) (spares (roll-Stmt x))
    (fold-roll-Stmt Look statement_look x ∙ ap stmt_layer (sym is))
    (λ roots. ap (λ (so : Spares). so roots) (fold-roll-Stmt Spares statement_spares x) ∙ ap (λ (z : Stmt-F Stmt). so_stmt_layer z roots) (sym is))
    (tells_stmt_layer y))
