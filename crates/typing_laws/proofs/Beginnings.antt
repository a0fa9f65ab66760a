-- What the look of a statement tells of the records at which its accesses begin: each is open there.
use Rattle.std.specs.declared.alloc.Global.{Global}
use Rattle.std.proofs.Common.{Vec, ℤ, ◌≡◌, ℕ, suc, Bool, true, false, ◌&&◌, if◌then◌else◌, List, [], ◌∷◌, ◌++◌, length, map, Option}
use Rattle.std.proofs.Common.{Some, None, refl, sym, ap, subst, ◌∙◌, append-nil, append_assoc, nat_eq, take}
use Rattle.std.specs.List.{list_all}
use Rattle.std.specs.Prelude.{flat_map}
use Rattle.std.specs.Option.{option_and_then}
use Rattle.std.proofs.lemmas.Bool.{and_from, eqb-true}
use Rattle.typed_tree.specs.declared.tree.Width.{Width as TotalWidth}
use Rattle.typed_tree.specs.declared.tree.WriteParameter.{WriteParameter}
use Rattle.typed_tree.specs.declared.tree.Written.{Written as WrittenValue}
use Rattle.typed_tree.specs.declared.tree.Written.TheVariants.{Ordinal, String}
use Rattle.typed_tree.specs.declared.tree.Whole.{Whole}
use Rattle.typed_tree.specs.declared.tree.Whole.TheVariants.{Text as TextOf, Variable as WholeOf}
use Rattle.typed_tree.specs.declared.tree.Expr.{Expr}
use Rattle.typed_tree.specs.declared.tree.Link.{Link}
use Rattle.typed_tree.specs.declared.tree.Passed.{Passed}
use Rattle.typed_tree.specs.declared.tree.Expr.TheOpen.{Expr-F, Passed-F, Link-F}
use Rattle.typed_tree.specs.declared.tree.Expr.TheOpen.Expr-F.{Constant, Variable, Monadic as MonadicOf, Chain, Compare, Call as CallOf, Set, Input}
use Rattle.typed_tree.specs.declared.tree.Expr.TheOpen.Passed-F.{Value as PassedValue, Whole as PassedWhole, Reference}
use Rattle.typed_tree.specs.declared.tree.Expr.TheFolds.{fold-Link, map-Expr, map-Passed, map-Link, fold-roll-Expr, fold-roll-Passed, fold-roll-Link, ind-Expr}
use Rattle.typed_tree.specs.declared.tree.Expr.TheFolds.{ind-Passed}
use Rattle.typed_tree.specs.declared.tree.Expr.TheViews.{roll-Expr, roll-Passed, roll-Link}
use Rattle.typed_tree.specs.declared.tree.Stmt.{Stmt}
use Rattle.typed_tree.specs.declared.tree.Stmt.TheOpen.{Stmt-F}
use Rattle.typed_tree.specs.declared.tree.Stmt.TheOpen.Stmt-F.{Empty, Assign, Write, Compound, If, While, Repeat, For, Case, Copy, Call as Calling}
use Rattle.typed_tree.specs.declared.tree.Stmt.TheOpen.Stmt-F.{Read, With}
use Rattle.typed_tree.specs.declared.tree.Access.{Access}
use Rattle.typed_tree.specs.declared.tree.ReadVariable.{ReadVariable}
use Rattle.typed_tree.specs.declared.tree.WithRecord.{WithRecord}
use Rattle.typed_tree.specs.Accesses.{AtVariable, origin_of}
use Rattle.typed_tree.specs.declared.tree.Stmt.TheFolds.{map-Stmt, fold-roll-Stmt, ind-Stmt}
use Rattle.typed_tree.specs.declared.tree.Stmt.TheViews.{roll-Stmt}
use Rattle.typed_tree.specs.Entries.{joined}
use Rattle.typed_tree.specs.WellFormed.{placed, source_of}
use Rattle.typed_tree.specs.Look.{Look, Mark, Ends, Then, Else, Do, Until, Fits, Controls, ForEnds, Target, WholeTarget, Width, Written}
use Rattle.typed_tree.specs.Look.{Opens, WithEnds, look_read, look_record}
use Rattle.typed_tree.specs.Look.{WrittenString, whole_look, passed_look, link_look, expression_look, look_expr, look_passed}
use Rattle.typed_tree.specs.Look.{look_link, look_whole, look_width, look_written, look_parameter, arms_look, statement_look, look_stmt}
use Rattle.typed_tree.specs.Records.{Begin, OpenRecord, accesses_begin, all_begin, begins, begins_in, expression_begins, is_there, link_begins}
use Rattle.typed_tree.specs.Records.{opened_by, parameter_begins, passed_begin, passed_begins, read_begins, statement_begins, value_begins, whole_begins}
use Rattle.typed_tree.specs.Records.{width_begins}
use Rattle.typed_tree.specs.Records.{with_begins, written_begins}
use Rattle.typing_laws.specs.Opened.{mark_opened, opened_behind, record_of}
use Rattle.typing_laws.proofs.Opened.{opened_append}
use Rattle.typing_laws.proofs.Sparing.{Passing, layer, link_layer, origin_root, passed_layer, some_same}
use Rattle.typing_laws.proofs.Went.{take_front}

-- ---- forms one after another

pub cut : (records last : List OpenRecord) (look more : Look) → opened_behind records (look ++ more) ≡ Some last
    → (mid : List OpenRecord) × (opened_behind records look ≡ Some mid) × (opened_behind mid more ≡ Some last)
cut records last look more is = by (opened_behind records look) refl (sym (opened_append records look more) ∙ is)
  where
    by : (found : Option (List OpenRecord)) → opened_behind records look ≡ found
        → option_and_then (λ (mid : List OpenRecord). opened_behind mid more) found ≡ Some last
        → (mid : List OpenRecord) × (opened_behind records look ≡ Some mid) × (opened_behind mid more ≡ Some last)
    by None there is = absurd cc
    by (Some mid) there is = (mid, there, is)

-- forms that look so tell that accesses begin at what is there, and leave the records that are open
abbrev pub Tells : Look → Begin → Type 0
Tells look so = (records last : List OpenRecord) → opened_behind records look ≡ Some last → (so records ≡ true) × (last ≡ records)

nothing : Tells [] (λ records. true)
nothing records last is = (refl, sym (some_same records last is))

tells_then : (look more : Look) (so also : Begin) → Tells look so → Tells more also → Tells (look ++ more) (λ records. so records && also records)
tells_then look more so also one two records last is =
    let parts = cut records last look more is in
    let first = one records parts.0 parts.1 in
    let second = two records last (subst (λ (mid : List OpenRecord). opened_behind mid more ≡ Some last) first.1 parts.2) in
    (and_from (so records) (also records) first.0 second.0, second.1)

-- less than they tell
tells_less : (look : Look) (so less : Begin) → ((records : List OpenRecord) → so records ≡ true → less records ≡ true) → Tells look so → Tells look less
tells_less look so less follows told records last is =
    let k = told records last is in
    (follows records k.0, k.1)

-- a form behind others that tells nothing
tells_before : (look : Look) (end : Mark) (so : Begin) → ((records : List OpenRecord) → mark_opened end records ≡ Some records) → Tells look so
    → Tells (look ++ (end ∷ [])) so
tells_before look end so plain one records last is =
    let parts = cut records last look (end ∷ []) is in
    let first = one records parts.0 parts.1 in
    let ends : opened_behind parts.0 (end ∷ []) ≡ Some parts.0 =
    ap (option_and_then (λ (more : List OpenRecord). opened_behind more [])) (plain parts.0) in
    (first.0, some_same last parts.0 (sym parts.2 ∙ ends) ∙ first.1)

-- one that asks something of the records
asked : (test : Bool) (records behind last : List OpenRecord) (marks : Look)
    → option_and_then (λ (more : List OpenRecord). opened_behind more marks) (if test then Some behind else None) ≡ Some last
    → (test ≡ true) × (opened_behind behind marks ≡ Some last)
asked true records behind last marks is = (refl, is)
asked false records behind last marks is = absurd cc

-- one whose access begins here
both_of_true : (a : Bool) → (a && true) ≡ true → a ≡ true
both_of_true true is = refl
both_of_true false is = absurd cc

tells_access : (look : Look) (end : Mark) (access : Access) (so : Begin)
    → ((records : List OpenRecord)
    → mark_opened end records ≡ (if list_all (is_there records) (origin_of access ∷ []) then Some records else None)) → Tells look so
    → Tells (look ++ (end ∷ [])) (λ records. so records && is_there records (origin_of access))
tells_access look end access so asks one records last is =
    let parts = cut records last look (end ∷ []) is in
    let first = one records parts.0 parts.1 in
    let ends = asked (list_all (is_there parts.0) (origin_of access ∷ [])) parts.0 parts.0 last []
    (sym (ap (option_and_then (λ (more : List OpenRecord). opened_behind more [])) (asks parts.0)) ∙ parts.2) in
    let there : is_there records (origin_of access) ≡ true =
    subst (λ (mid : List OpenRecord). is_there mid (origin_of access) ≡ true) first.1 (both_of_true (is_there parts.0 (origin_of access)) ends.0) in
    (and_from (so records) (is_there records (origin_of access)) first.0 there, sym (some_same parts.0 last ends.1) ∙ first.1)

tells_along : (look other : Look) (so also : Begin) → other ≡ look → ((records : List OpenRecord) → also records ≡ so records) → Tells look so
    → Tells other also
tells_along look other so also is same told records last h =
    let k = told records last (ap (opened_behind records) (sym is) ∙ h) in
    (same records ∙ k.0, k.1)

-- ---- expressions

-- an operator and its right operand
abbrev link_begin : Link → Begin
link_begin = fold-Link Begin Begin Begin expression_begins passed_begins link_begins

abbrev TellsExpr : Expr → Type 0
TellsExpr e = Tells (look_expr e) (begins e)

abbrev TellsPassed : Passed → Type 0
TellsPassed p = (callee position : ℕ) → Tells (look_passed p callee position) (passed_begin p)

abbrev TellsLink : Link → Type 0
TellsLink l = Tells (look_link l) (link_begin l)

abbrev ToldExpr : Type 0
ToldExpr = (e : Expr) × TellsExpr e

abbrev ToldPassed : Type 0
ToldPassed = (p : Passed) × TellsPassed p

abbrev ToldLink : Type 0
ToldLink = (l : Link) × TellsLink l

tells_indexes : (indexes : List ToldExpr) → Tells (joined (map look_expr (map (λ e. e.0) indexes))) (all_begin (map begins (map (λ e. e.0) indexes)))
tells_indexes [] = nothing
tells_indexes (index ∷ indexes) =
    tells_then (look_expr index.0) (joined (map look_expr (map (λ e. e.0) indexes))) (begins index.0)
    (all_begin (map begins (map (λ e. e.0) indexes))) index.1 (tells_indexes indexes)

tells_links : (links : List ToldLink) → Tells (joined (map look_link (map (λ l. l.0) links))) (all_begin (map link_begin (map (λ l. l.0) links)))
tells_links [] = nothing
tells_links (link ∷ links) =
    tells_then (look_link link.0) (joined (map look_link (map (λ l. l.0) links))) (link_begin link.0)
    (all_begin (map link_begin (map (λ l. l.0) links))) link.1 (tells_links links)

tells_placed : (actuals : List ToldPassed) (callee position : ℕ)
    → Tells (joined (placed callee position (map look_passed (map (λ p. p.0) actuals)))) (all_begin (map passed_begin (map (λ p. p.0) actuals)))
tells_placed [] callee position = nothing
tells_placed (one ∷ rest) callee position =
    tells_then (look_passed one.0 callee position) (joined (placed callee (suc position) (map look_passed (map (λ p. p.0) rest))))
    (passed_begin one.0) (all_begin (map passed_begin (map (λ p. p.0) rest))) (one.1 callee position) (tells_placed rest callee (suc position))

tells_whole : (value : Whole) (looks : List Look) (so : List Begin) → Tells (joined looks) (all_begin so)
    → Tells (whole_look value looks) (whole_begins value so)
tells_whole (TextOf number characters) looks so told = nothing
tells_whole (WholeOf access type_id cells defined) looks so told = tells_access (joined looks) _ access (all_begin so) (λ records. refl) told

abbrev bare : Expr-F ToldExpr ToldPassed ToldLink → Expr-F Expr Passed Link
bare = map-Expr ToldExpr ToldPassed ToldLink Expr Passed Link (λ e. e.0) (λ p. p.0) (λ l. l.0)

abbrev bare_passed : Passed-F ToldExpr ToldPassed ToldLink → Passed-F Expr Passed Link
bare_passed = map-Passed ToldExpr ToldPassed ToldLink Expr Passed Link (λ e. e.0) (λ p. p.0) (λ l. l.0)

abbrev bare_link : Link-F ToldExpr ToldPassed ToldLink → Link-F Expr Passed Link
bare_link = map-Link ToldExpr ToldPassed ToldLink Expr Passed Link (λ e. e.0) (λ p. p.0) (λ l. l.0)

abbrev so_layer : Expr-F Expr Passed Link → Begin
so_layer y = expression_begins (map-Expr Expr Passed Link Begin Begin Begin begins passed_begin link_begin y)

abbrev so_passed_layer : Passed-F Expr Passed Link → Begin
so_passed_layer y = passed_begins (map-Passed Expr Passed Link Begin Begin Begin begins passed_begin link_begin y)

abbrev so_link_layer : Link-F Expr Passed Link → Begin
so_link_layer y = link_begins (map-Link Expr Passed Link Begin Begin Begin begins passed_begin link_begin y)

tells_layer : (y : Expr-F ToldExpr ToldPassed ToldLink) → Tells (layer (bare y)) (so_layer (bare y))
tells_layer (Constant number value) = nothing
tells_layer (Variable access indexes held defined) =
    tells_access (joined (map look_expr (map (λ e. e.0) indexes.items))) _ access (all_begin (map begins (map (λ e. e.0) indexes.items))) (λ records. refl)
    (tells_indexes indexes.items)
tells_layer (MonadicOf number operation operand) = tells_before (look_expr operand.value.0) _ (begins operand.value.0) (λ records. refl) operand.value.1
tells_layer (Chain first rest) =
    let links = joined (map look_link (map (λ l. l.0) rest.items)) in
    let so = all_begin (map link_begin (map (λ (l : ToldLink). l.0) rest.items)) in
    tells_then (look_expr first.value.0) (links ++ (Ends ∷ [])) (begins first.value.0) so first.value.1
    (tells_before links Ends so (λ records. refl) (tells_links rest.items))
tells_layer (Compare number relation left left_indexes right right_indexes) =
    let inside = map (λ (e : ToldExpr). e.0) left_indexes.items in
    let others = map (λ (e : ToldExpr). e.0) right_indexes.items in
    let second = whole_look right (map look_expr others) in
    let one = tells_whole left (map look_expr inside) (map begins inside) (tells_indexes left_indexes.items) in
    let two = tells_whole right (map look_expr others) (map begins others) (tells_indexes right_indexes.items) in
    tells_then (whole_look left (map look_expr inside)) (_ ∷ (second ++ (_ ∷ Ends ∷ []))) (whole_begins left (map begins inside))
    (whole_begins right (map begins others)) one
    (λ records last is.
    let parts = cut records last second (_ ∷ Ends ∷ []) is in
    let k = two records parts.0 parts.1 in
    (k.0, sym (some_same parts.0 last parts.2) ∙ k.1))
tells_layer (CallOf call actuals) =
    tells_before (joined (placed call.block 0 (map look_passed (map (λ p. p.0) actuals.items)))) _
    (all_begin (map passed_begin (map (λ p. p.0) actuals.items))) (λ records. refl) (tells_placed actuals.items call.block 0)
tells_layer (Input number asks) = nothing
tells_layer (Set number designators members) =
    tells_before (joined (map look_expr (map (λ e. e.0) members.items))) _ (all_begin (map begins (map (λ e. e.0) members.items))) (λ records. refl)
    (tells_indexes members.items)

tells_passed_layer : (y : Passed-F ToldExpr ToldPassed ToldLink) (callee position : ℕ)
    → Tells (passed_layer (bare_passed y) callee position) (so_passed_layer (bare_passed y))
tells_passed_layer (PassedValue value fits) callee position = tells_before (look_expr value.0) _ (begins value.0) (λ records. refl) value.1
tells_passed_layer (PassedWhole type_id value indexes) callee position =
    let inside = map (λ (e : ToldExpr). e.0) indexes.items in
    tells_before (whole_look value (map look_expr inside)) _ (whole_begins value (map begins inside)) (λ records. refl)
    (tells_whole value (map look_expr inside) (map begins inside) (tells_indexes indexes.items))
tells_passed_layer (Reference type_id access indexes) callee position =
    tells_access (joined (map look_expr (map (λ e. e.0) indexes.items))) _ access (all_begin (map begins (map (λ e. e.0) indexes.items))) (λ records. refl)
    (tells_indexes indexes.items)

tells_link_layer : (y : Link-F ToldExpr ToldPassed ToldLink) → Tells (link_layer (bare_link y)) (so_link_layer (bare_link y))
tells_link_layer y = y.operand.1

of_expr : (x : Expr-F Expr Passed Link) (y : Expr-F ToldExpr ToldPassed ToldLink) → bare y ≡ x → TellsExpr (roll-Expr x)
of_expr x y is =
    tells_along (layer (bare y)) (look_expr (roll-Expr x)) (so_layer (bare y)) (begins (roll-Expr x))
    (fold-roll-Expr Look Passing Look expression_look passed_look link_look x ∙ ap layer (sym is))
    (λ records. ap (λ (so : Begin). so records) (fold-roll-Expr Begin Begin Begin expression_begins passed_begins link_begins x)
    ∙ ap (λ (z : Expr-F Expr Passed Link). so_layer z records) (sym is)) (tells_layer y)

of_passed : (x : Passed-F Expr Passed Link) (y : Passed-F ToldExpr ToldPassed ToldLink) → bare_passed y ≡ x → TellsPassed (roll-Passed x)
of_passed x y is callee position =
    tells_along (passed_layer (bare_passed y) callee position) (look_passed (roll-Passed x) callee position) (so_passed_layer (bare_passed y))
    (passed_begin (roll-Passed x))
    (ap (λ (look : Passing). look callee position) (fold-roll-Passed Look Passing Look expression_look passed_look link_look x)
    ∙ ap (λ (z : Passed-F Expr Passed Link). passed_layer z callee position) (sym is))
    (λ records. ap (λ (so : Begin). so records) (fold-roll-Passed Begin Begin Begin expression_begins passed_begins link_begins x)
    ∙ ap (λ (z : Passed-F Expr Passed Link). so_passed_layer z records) (sym is)) (tells_passed_layer y callee position)

of_link : (x : Link-F Expr Passed Link) (y : Link-F ToldExpr ToldPassed ToldLink) → bare_link y ≡ x → TellsLink (roll-Link x)
of_link x y is =
    tells_along (link_layer (bare_link y)) (look_link (roll-Link x)) (so_link_layer (bare_link y)) (link_begin (roll-Link x))
    (fold-roll-Link Look Passing Look expression_look passed_look link_look x ∙ ap link_layer (sym is))
    (λ records. ap (λ (so : Begin). so records) (fold-roll-Link Begin Begin Begin expression_begins passed_begins link_begins x)
    ∙ ap (λ (z : Link-F Expr Passed Link). so_link_layer z records) (sym is)) (tells_link_layer y)

tells_expr : (e : Expr) → TellsExpr e
tells_expr = ind-Expr TellsExpr TellsPassed TellsLink of_expr of_passed of_link

tells_passed : (p : Passed) → TellsPassed p
tells_passed = ind-Passed TellsExpr TellsPassed TellsLink of_expr of_passed of_link

tells_exprs : (indexes : List Expr) → Tells (joined (map look_expr indexes)) (all_begin (map begins indexes))
tells_exprs [] = nothing
tells_exprs (index ∷ indexes) =
    tells_then (look_expr index) (joined (map look_expr indexes)) (begins index) (all_begin (map begins indexes)) (tells_expr index) (tells_exprs indexes)

tells_actuals : (actuals : List Passed) (callee position : ℕ)
    → Tells (joined (placed callee position (map look_passed actuals))) (all_begin (map passed_begin actuals))
tells_actuals [] callee position = nothing
tells_actuals (one ∷ rest) callee position =
    tells_then (look_passed one callee position) (joined (placed callee (suc position) (map look_passed rest))) (passed_begin one)
    (all_begin (map passed_begin rest)) (tells_passed one callee position) (tells_actuals rest callee (suc position))

tells_value : (value : Whole) (indexes : List Expr) → Tells (look_whole value indexes) (value_begins value indexes)
tells_value value indexes = tells_whole value (map look_expr indexes) (map begins indexes) (tells_exprs indexes)

tells_written : (value : WrittenValue) → Tells (look_written value) (written_begins value)
tells_written (Ordinal value representation) = tells_before (look_expr value) (Written representation) (begins value) (λ records. refl) (tells_expr value)
tells_written (String value indexes) =
    tells_before (look_whole value indexes.items) (WrittenString (source_of value)) (value_begins value indexes.items) (λ records. refl)
    (tells_value value indexes.items)

tells_width : (width : Option TotalWidth) → Tells (look_width width) (width_begins width)
tells_width None = nothing
tells_width (Some width) = tells_before (look_expr width.value) (Width width.site) (begins width.value) (λ records. refl) (tells_expr width.value)

tells_parameters : (parameters : List WriteParameter) → Tells (flat_map look_parameter parameters) (all_begin (map parameter_begins parameters))
tells_parameters [] = nothing
tells_parameters (parameter ∷ parameters) =
    tells_then (look_parameter parameter) (flat_map look_parameter parameters) (parameter_begins parameter) (all_begin (map parameter_begins parameters))
    (tells_then (look_written parameter.value) (look_width parameter.width) (written_begins parameter.value) (width_begins parameter.width)
    (tells_written parameter.value) (tells_width parameter.width))
    (tells_parameters parameters)

tells_read : (one : ReadVariable) → Tells (look_read one) (read_begins one)
tells_read one =
    tells_access (joined (map look_expr one.indexes.items)) _ one.access (all_begin (map begins one.indexes.items)) (λ records. refl)
    (tells_exprs one.indexes.items)

tells_reads : (variables : List ReadVariable) → Tells (flat_map look_read variables) (all_begin (map read_begins variables))
tells_reads [] = nothing
tells_reads (one ∷ others) =
    tells_then (look_read one) (flat_map look_read others) (read_begins one) (all_begin (map read_begins others)) (tells_read one) (tells_reads others)

-- ---- statements

abbrev TellsStmt : Stmt → Type 0
TellsStmt s = Tells (look_stmt s) (begins_in s)

abbrev ToldStmt : Type 0
ToldStmt = (s : Stmt) × TellsStmt s

tells_all : (statements : List ToldStmt)
    → Tells (joined (map look_stmt (map (λ s. s.0) statements))) (all_begin (map begins_in (map (λ s. s.0) statements)))
tells_all [] = nothing
tells_all (statement ∷ statements) =
    tells_then (look_stmt statement.0) (joined (map look_stmt (map (λ s. s.0) statements))) (begins_in statement.0)
    (all_begin (map begins_in (map (λ s. s.0) statements))) statement.1 (tells_all statements)

tells_rows : (rows : List (Vec ℤ Global)) → Tells (arms_look rows []) (λ records. true)
tells_rows [] = nothing
tells_rows (row ∷ rows) = tells_rows rows

tells_arms : (rows : List (Vec ℤ Global)) (arms : List ToldStmt)
    → Tells (arms_look rows (map look_stmt (map (λ s. s.0) arms))) (all_begin (map begins_in (map (λ s. s.0) arms)))
tells_arms rows [] = tells_rows rows
tells_arms [] (arm ∷ arms) =
    tells_then (look_stmt arm.0) (arms_look [] (map look_stmt (map (λ s. s.0) arms))) (begins_in arm.0) (all_begin (map begins_in (map (λ s. s.0) arms)))
    arm.1 (tells_arms [] arms)
tells_arms (row ∷ rows) (arm ∷ arms) =
    tells_then (look_stmt arm.0) (arms_look rows (map look_stmt (map (λ s. s.0) arms))) (begins_in arm.0) (all_begin (map begins_in (map (λ s. s.0) arms)))
    arm.1 (tells_arms rows arms)

-- each record of a with is open for those behind it, and all of them are for its statement
tells_with : (body : Stmt) (slot : ℕ) → TellsStmt body → (rows : List WithRecord) (records last : List OpenRecord)
    → opened_behind records (flat_map look_record rows ++ (Do ∷ (look_stmt body ++ (WithEnds slot ∷ [])))) ≡ Some last
    → (with_begins rows (begins_in body) records ≡ true) × (more : List OpenRecord) × (last ≡ take slot (records ++ more))
tells_with body slot told [] records last is =
    let parts = cut records last (look_stmt body) (WithEnds slot ∷ []) is in
    let k = told records parts.0 parts.1 in
    (k.0, [], sym (some_same (take slot parts.0) last parts.2) ∙ ap (take slot) (k.1 ∙ sym (append-nil records)))
tells_with body slot told (one ∷ rows) records last is =
    let end = Do ∷ (look_stmt body ++ (WithEnds slot ∷ [])) in
    let indexes = joined (map look_expr one.indexes.items) in
    let origin = origin_of one.access in
    let opens_it = Opens origin one.access.selectors.items (length one.indexes.items) in
    let parts = cut records last (look_record one) (flat_map look_record rows ++ end)
    (ap (opened_behind records) (sym (append_assoc (look_record one) (flat_map look_record rows) end)) ∙ is) in
    let own = cut records parts.0 indexes (opens_it ∷ []) parts.1 in
    let k = tells_exprs one.indexes.items records own.0 own.1 in
    let opened = asked (list_all (is_there own.0) (origin ∷ [])) own.0 (own.0 ++ record_of origin one.access.selectors.items ∷ []) parts.0 [] own.2 in
    let there : is_there records origin ≡ true =
    subst (λ (mid : List OpenRecord). is_there mid origin ≡ true) k.1 (both_of_true (is_there own.0 origin) opened.0) in
    let same : parts.0 ≡ records ++ opened_by one.access ∷ [] =
    sym (some_same (own.0 ++ record_of origin one.access.selectors.items ∷ []) parts.0 opened.1)
    ∙ ap (λ (mid : List OpenRecord). mid ++ record_of origin one.access.selectors.items ∷ []) k.1
    ∙ ap (λ (root : ℕ). records ++ at_root one root ∷ []) (origin_root one.access) in
    let rest = tells_with body slot told rows (records ++ opened_by one.access ∷ []) last
    (subst (λ (mid : List OpenRecord). opened_behind mid (flat_map look_record rows ++ end) ≡ Some last) same parts.2) in (
      and_from (accesses_begin one.access one.indexes.items records) (with_begins rows (begins_in body) (records ++ opened_by one.access ∷ []))
          (and_from (all_begin (map begins one.indexes.items) records) (is_there records origin) k.0 there) rest.0,
      opened_by one.access ∷ rest.1,
      rest.2 ∙ ap (take slot) (append_assoc records (opened_by one.access ∷ []) rest.1),
    )
  where
    at_root : WithRecord → ℕ → OpenRecord
    at_root one root = record { root = root; steps = (opened_by one.access).steps }

abbrev bare_stmt : Stmt-F ToldStmt → Stmt-F Stmt
bare_stmt = map-Stmt ToldStmt Stmt (λ s. s.0)

abbrev stmt_layer : Stmt-F Stmt → Look
stmt_layer y = statement_look (map-Stmt Stmt Look look_stmt y)

abbrev so_stmt_layer : Stmt-F Stmt → Begin
so_stmt_layer y = statement_begins (map-Stmt Stmt Begin begins_in y)

tells_chosen : (condition : Expr) (first rest : Look) (so also : Begin) → Tells first so → Tells rest also
    → Tells (look_expr condition ++ (Then ∷ (first ++ (rest ++ (Ends ∷ []))))) (λ records. begins condition records && (so records && also records))
tells_chosen condition first rest so also one two =
    tells_then (look_expr condition) (Then ∷ (first ++ (rest ++ (Ends ∷ [])))) (begins condition) (λ records. so records && also records)
    (tells_expr condition)
    (tells_then first (rest ++ (Ends ∷ [])) so also one (tells_before rest Ends also (λ records. refl) two))

-- the first of two that hold
first_holds : (a b : Bool) → (a && b) ≡ true → a ≡ true
first_holds true b is = refl
first_holds false b is = absurd cc

tells_stmt_layer : (y : Stmt-F ToldStmt) → Tells (stmt_layer (bare_stmt y)) (so_stmt_layer (bare_stmt y))
tells_stmt_layer (Empty number) = nothing
tells_stmt_layer (Assign assignment) =
    let target = assignment.target in
    let indexes = assignment.indexes.items in
    let value = look_expr assignment.value in
    let fits = Fits (origin_of target) target.selectors.items assignment.fits in
    let does = Target (origin_of target) target.selectors.items (length indexes) in
    tells_then (joined (map look_expr indexes) ++ (does ∷ [])) (value ++ (fits ∷ [])) (accesses_begin target indexes) (begins assignment.value)
    (tells_access (joined (map look_expr indexes)) does target (all_begin (map begins indexes)) (λ records. refl) (tells_exprs indexes))
    (tells_less (value ++ (fits ∷ [])) (λ records. begins assignment.value records && is_there records (origin_of target)) (begins assignment.value)
    (λ records. first_holds (begins assignment.value records) (is_there records (origin_of target)))
    (tells_access value fits target (begins assignment.value) (λ records. refl) (tells_expr assignment.value)))
tells_stmt_layer (Copy copying) =
    let target = copying.target in
    let indexes = copying.indexes.items in
    let value = look_whole copying.value copying.value_indexes.items in
    let does = WholeTarget (origin_of target) target.selectors.items (length indexes) copying.type_id in
    tells_then (joined (map look_expr indexes) ++ (does ∷ [])) (value ++ (_ ∷ [])) (accesses_begin target indexes)
    (value_begins copying.value copying.value_indexes.items)
    (tells_access (joined (map look_expr indexes)) does target (all_begin (map begins indexes)) (λ records. refl) (tells_exprs indexes))
    (tells_before value _ (value_begins copying.value copying.value_indexes.items) (λ records. refl) (tells_value copying.value copying.value_indexes.items))
tells_stmt_layer (Write writing) =
    tells_before (flat_map look_parameter writing.parameters.items) Ends (all_begin (map parameter_begins writing.parameters.items)) (λ records. refl)
    (tells_parameters writing.parameters.items)
tells_stmt_layer (Read reading) =
    tells_before (flat_map look_read reading.variables.items) Ends (all_begin (map read_begins reading.variables.items)) (λ records. refl)
    (tells_reads reading.variables.items)
tells_stmt_layer (Calling calling) =
    tells_before (joined (placed calling.call.block 0 (map look_passed calling.actuals.items))) _ (all_begin (map passed_begin calling.actuals.items))
    (λ records. refl) (tells_actuals calling.actuals.items calling.call.block 0)
tells_stmt_layer (Compound number statements) =
    tells_before (joined (map look_stmt (map (λ s. s.0) statements.items))) Ends (all_begin (map begins_in (map (λ s. s.0) statements.items)))
    (λ records. refl) (tells_all statements.items)
tells_stmt_layer (If number condition consequence None) =
    tells_chosen condition (look_stmt consequence.value.0) [] (begins_in consequence.value.0) (λ records. true) consequence.value.1 nothing
tells_stmt_layer (If number condition consequence (Some other)) =
    tells_chosen condition (look_stmt consequence.value.0) (Else ∷ look_stmt other.value.0) (begins_in consequence.value.0) (begins_in other.value.0)
    consequence.value.1 other.value.1
tells_stmt_layer (While head body) =
    tells_then (look_expr head.condition) (Do ∷ (look_stmt body.value.0 ++ (Ends ∷ []))) (begins head.condition) (begins_in body.value.0)
    (tells_expr head.condition) (tells_before (look_stmt body.value.0) Ends (begins_in body.value.0) (λ records. refl) body.value.1)
tells_stmt_layer (Repeat head statements) =
    let so = all_begin (map begins_in (map (λ (s : ToldStmt). s.0) statements.items)) in
    tells_then (joined (map look_stmt (map (λ s. s.0) statements.items))) (Until ∷ (look_expr head.condition ++ (Ends ∷ []))) so (begins head.condition)
    (tells_all statements.items) (tells_before (look_expr head.condition) Ends (begins head.condition) (λ records. refl) (tells_expr head.condition))
tells_stmt_layer (For head body) =
    let last = look_expr head.last.value in
    let inside = Fits (AtVariable head.control) [] head.last.fits ∷ Controls head.control ∷ (look_stmt body.value.0 ++ (ForEnds ∷ [])) in
    tells_then (look_expr head.first.value) (Fits (AtVariable head.control) [] head.first.fits ∷ (last ++ inside)) (begins head.first.value)
    (λ records. begins head.last.value records && begins_in body.value.0 records) (tells_expr head.first.value)
    (tells_then last inside (begins head.last.value) (begins_in body.value.0) (tells_expr head.last.value)
    (tells_before (look_stmt body.value.0) ForEnds (begins_in body.value.0) (λ records. refl) body.value.1))
tells_stmt_layer (Case head arms) =
    let inside = arms_look head.constants.items (map look_stmt (map (λ s. s.0) arms.items)) in
    let so = all_begin (map begins_in (map (λ (s : ToldStmt). s.0) arms.items)) in
    tells_then (look_expr head.index) (inside ++ (Ends ∷ [])) (begins head.index) so (tells_expr head.index)
    (tells_before inside Ends so (λ records. refl) (tells_arms head.constants.items arms.items))
tells_stmt_layer (With head body) = λ records last is.
    let slot = head.first_slot in
    let rows = head.records.items in
    let first = asked (nat_eq slot (length records)) records records last
    (flat_map look_record rows ++ (Do ∷ (look_stmt body.value.0 ++ (WithEnds slot ∷ [])))) is in
    let k = tells_with body.value.0 slot body.value.1 rows records last first.1 in (
      and_from (nat_eq slot (length records)) (with_begins rows (begins_in body.value.0) records) first.0 k.0,
      k.2 ∙ ap (λ n. take n (records ++ k.1)) (eqb-true slot (length records) first.0) ∙ take_front records k.1,
    )

-- how a statement looks tells at which records its accesses begin
pub tells_stmt : (s : Stmt) → TellsStmt s
tells_stmt =
    ind-Stmt TellsStmt
    (λ x y is.
    tells_along (stmt_layer (bare_stmt y)) (look_stmt (roll-Stmt x)) (so_stmt_layer (bare_stmt y)) (begins_in (roll-Stmt x))
    (fold-roll-Stmt Look statement_look x ∙ ap stmt_layer (sym is))
    (λ records. ap (λ (so : Begin). so records) (fold-roll-Stmt Begin statement_begins x) ∙ ap (λ (z : Stmt-F Stmt). so_stmt_layer z records) (sym is))
    (tells_stmt_layer y))
