-- Well formed expressions and statements compare and write strings alone.
use Rattle.std.proofs.Common.{◌≡◌, ℕ, suc, Bool, true, List, [], ◌∷◌, map, Option, Some, None, refl, sym, ap, ◌∙◌}
use Rattle.std.proofs.lemmas.Bool.{and_from, and_parts}
use Rattle.typed_tree.specs.declared.tree.ReadVariable.{ReadVariable}
use Rattle.typed_tree.specs.declared.tree.Width.{Width}
use Rattle.typed_tree.specs.declared.tree.WithRecord.{WithRecord}
use Rattle.typed_tree.specs.declared.tree.WriteParameter.{WriteParameter}
use Rattle.typed_tree.specs.declared.tree.Written.{Written}
use Rattle.typed_tree.specs.declared.tree.Written.TheVariants.{Ordinal, String}
use Rattle.typed_tree.specs.declared.tree.Whole.{Whole}
use Rattle.typed_tree.specs.declared.tree.Whole.TheVariants.{Text, Variable as VariableOf}
use Rattle.typed_tree.specs.declared.tree.Expr.{Expr}
use Rattle.typed_tree.specs.declared.tree.Passed.{Passed}
use Rattle.typed_tree.specs.declared.tree.Link.{Link}
use Rattle.typed_tree.specs.declared.tree.Expr.TheOpen.{Expr-F, Passed-F, Link-F}
use Rattle.typed_tree.specs.declared.tree.Expr.TheOpen.Expr-F.{Constant, Variable, Monadic as MonadicOf, Chain, Compare, Call as CallOf, Set, Input}
use Rattle.typed_tree.specs.declared.tree.Expr.TheOpen.Passed-F.{Value, Whole as WholeOf, Reference}
use Rattle.typed_tree.specs.declared.tree.Expr.TheFolds.{fold-Link, map-Expr, map-Passed, map-Link, fold-roll-Expr, fold-roll-Passed, fold-roll-Link}
use Rattle.typed_tree.specs.declared.tree.Expr.TheFolds.{ind-Expr, ind-Passed}
use Rattle.typed_tree.specs.declared.tree.Expr.TheViews.{roll-Expr, roll-Passed, roll-Link}
use Rattle.typed_tree.specs.declared.tree.Stmt.{Stmt}
use Rattle.typed_tree.specs.declared.tree.Stmt.TheOpen.{Stmt-F}
use Rattle.typed_tree.specs.declared.tree.Stmt.TheOpen.Stmt-F.{Empty, Assign, Write, Compound, If, While, Repeat, For, Case, Copy, Call as Calling, With, Read}
use Rattle.typed_tree.specs.declared.tree.Stmt.TheFolds.{map-Stmt, fold-roll-Stmt, ind-Stmt}
use Rattle.typed_tree.specs.Tests.{all_hold, whole_indexes}
use Rattle.typed_tree.specs.WellFormed as well
use Rattle.typed_tree.specs.WellFormed.{Outline, placed, source_of, expr_is_well_formed, passed_is_well_formed, link_is_well_formed, is_well_formed_expr}
use Rattle.typed_tree.specs.WellFormed.{is_well_formed_link, is_well_formed_passed, is_well_formed_parameter, is_well_formed_record, is_well_formed_stmt}
use Rattle.typed_tree.specs.WellFormed.{is_well_formed_read}
use Rattle.typed_tree.specs.WellFormed.{is_well_formed_value, is_well_formed_width, is_well_formed_written, stmt_is_well_formed}
use Rattle.code_generator.proofs.Texts.{compares_in, compares_strings, expression_compares, is_text, link_compares, parameter_compares, passed_compares}
use Rattle.code_generator.proofs.Texts.{passes_strings, read_compares, record_compares, statement_compares, value_compares, width_compares, written_compares}

module _ (o : Outline) (b : ℕ) where
  abbrev link_strings : Link → Bool
  link_strings = fold-Link Bool Bool Bool (expression_compares o.types) (passed_compares o.types) (link_compares o.types)

  abbrev Tells : Expr → Type 0
  Tells e = is_well_formed_expr o b e ≡ true → compares_strings o.types e ≡ true

  -- an actual parameter, whatever the callee and the place
  abbrev TellsPassed : Passed → Type 0
  TellsPassed p = (callee position : ℕ) → is_well_formed_passed o b p callee position ≡ true → passes_strings o.types p ≡ true

  abbrev TellsLink : Link → Type 0
  TellsLink l = is_well_formed_link o b l ≡ true → link_strings l ≡ true

  abbrev One : Type 0
  One = (e : Expr) × Tells e

  abbrev OnePassed : Type 0
  OnePassed = (p : Passed) × TellsPassed p

  abbrev OneLink : Type 0
  OneLink = (l : Link) × TellsLink l

  all_told : {X : Type 0} (test says : X → Bool) → (xs : List ((x : X) × (test x ≡ true → says x ≡ true)))
      → all_hold (map test (map (λ x. x.0) xs)) ≡ true → all_hold (map says (map (λ x. x.0) xs)) ≡ true
  all_told test says [] given = refl
  all_told test says (x ∷ xs) given =
      let both = and_parts (test x.0) (all_hold (map test (map (λ y. y.0) xs))) given in
      and_from (says x.0) (all_hold (map says (map (λ y. y.0) xs))) (x.1 both.0) (all_told test says xs both.1)

  each_told : {X : Type 0} (test says : X → Bool) → ((x : X) → test x ≡ true → says x ≡ true) → (xs : List X) → all_hold (map test xs) ≡ true
      → all_hold (map says xs) ≡ true
  each_told test says each [] given = refl
  each_told test says each (x ∷ xs) given =
      let both = and_parts (test x) (all_hold (map test xs)) given in
      and_from (says x) (all_hold (map says xs)) (each x both.0) (each_told test says each xs both.1)

  placed_told : (xs : List OnePassed) (callee position : ℕ)
      → all_hold (placed callee position (map (is_well_formed_passed o b) (map (λ x. x.0) xs))) ≡ true
      → all_hold (map (passes_strings o.types) (map (λ x. x.0) xs)) ≡ true
  placed_told [] callee position given = refl
  placed_told (x ∷ xs) callee position given =
      let both = and_parts (is_well_formed_passed o b x.0 callee position)
      (all_hold (placed callee (suc position) (map (is_well_formed_passed o b) (map (λ y. y.0) xs)))) given in
      and_from (passes_strings o.types x.0) (all_hold (map (passes_strings o.types) (map (λ y. y.0) xs))) (x.1 callee position both.0)
      (placed_told xs callee (suc position) both.1)

  whole_told : (value : Whole) (xs : List One) → all_hold (whole_indexes value (map (is_well_formed_expr o b) (map (λ x. x.0) xs))) ≡ true
      → all_hold (whole_indexes value (map (compares_strings o.types) (map (λ x. x.0) xs))) ≡ true
  whole_told (Text number characters) xs given = refl
  whole_told (VariableOf access type_id cells defined) xs given = all_told (is_well_formed_expr o b) (compares_strings o.types) xs given

  text_told : (value : Whole) → well.is_text o.types (source_of value) ≡ true → is_text o.types value ≡ true
  text_told (Text number characters) given = refl
  text_told (VariableOf access type_id cells defined) given = given

  abbrev bare : Expr-F One OnePassed OneLink → Expr-F Expr Passed Link
  bare = map-Expr One OnePassed OneLink Expr Passed Link (λ e. e.0) (λ p. p.0) (λ l. l.0)

  abbrev bare_passed : Passed-F One OnePassed OneLink → Passed-F Expr Passed Link
  bare_passed = map-Passed One OnePassed OneLink Expr Passed Link (λ e. e.0) (λ p. p.0) (λ l. l.0)

  abbrev bare_link : Link-F One OnePassed OneLink → Link-F Expr Passed Link
  bare_link = map-Link One OnePassed OneLink Expr Passed Link (λ e. e.0) (λ p. p.0) (λ l. l.0)

  -- whether one layer is well formed, and whether it compares strings alone
  abbrev tests : Expr-F Expr Passed Link → Bool
  tests y =
      expr_is_well_formed o b
      (map-Expr Expr Passed Link Bool (ℕ → ℕ → Bool) Bool (is_well_formed_expr o b) (is_well_formed_passed o b) (is_well_formed_link o b) y)

  abbrev says : Expr-F Expr Passed Link → Bool
  says y =
      expression_compares o.types
      (map-Expr Expr Passed Link Bool Bool Bool (compares_strings o.types) (passes_strings o.types) link_strings y)

  abbrev tests_passed : Passed-F Expr Passed Link → ℕ → ℕ → Bool
  tests_passed y =
      passed_is_well_formed o b
      (map-Passed Expr Passed Link Bool (ℕ → ℕ → Bool) Bool (is_well_formed_expr o b) (is_well_formed_passed o b) (is_well_formed_link o b) y)

  abbrev says_passed : Passed-F Expr Passed Link → Bool
  says_passed y =
      passed_compares o.types
      (map-Passed Expr Passed Link Bool Bool Bool (compares_strings o.types) (passes_strings o.types) link_strings y)

  abbrev tests_link : Link-F Expr Passed Link → Bool
  tests_link y =
      link_is_well_formed o b
      (map-Link Expr Passed Link Bool (ℕ → ℕ → Bool) Bool (is_well_formed_expr o b) (is_well_formed_passed o b) (is_well_formed_link o b) y)

  abbrev says_link : Link-F Expr Passed Link → Bool
  says_link y =
      link_compares o.types
      (map-Link Expr Passed Link Bool Bool Bool (compares_strings o.types) (passes_strings o.types) link_strings y)

  told_layer : (y : Expr-F One OnePassed OneLink) → tests (bare y) ≡ true → says (bare y) ≡ true
  told_layer (Constant number value) given = refl
  told_layer (Variable access indexes held defined) given =
      all_told (is_well_formed_expr o b) (compares_strings o.types) indexes.items (and_parts _ _ given).0
  told_layer (MonadicOf number operation operand) given = operand.value.1 (and_parts _ _ given).1
  told_layer (Chain first rest) given =
      let both = and_parts (is_well_formed_expr o b first.value.0) _ given in
      and_from _ _ (first.value.1 both.0) (all_told (is_well_formed_link o b) link_strings rest.items both.1)
  told_layer (Compare number relation left left_indexes right right_indexes) given =
      let one = and_parts _ _ given in
      let two = and_parts _ _ one.1 in
      let three = and_parts _ _ two.1 in
      let four = and_parts _ _ three.1 in
      let texts = and_parts _ _ four.1 in
      and_from _ _ (and_from _ _ (text_told left texts.0) (whole_told left left_indexes.items one.0))
      (and_from _ _ (text_told right (and_parts _ _ texts.1).0) (whole_told right right_indexes.items three.0))
  told_layer (CallOf call actuals) given = placed_told actuals.items call.block 0 (and_parts _ _ given).1
  told_layer (Input number asks) given = refl
  told_layer (Set number designators members) given =
      all_told (is_well_formed_expr o b) (compares_strings o.types) members.items (and_parts _ _ given).0

  told_passed_layer : (y : Passed-F One OnePassed OneLink) (callee position : ℕ) → tests_passed (bare_passed y) callee position ≡ true
      → says_passed (bare_passed y) ≡ true
  told_passed_layer (Value value fits) callee position given = value.1 (and_parts _ _ given).0
  told_passed_layer (WholeOf type_id value indexes) callee position given = whole_told value indexes.items (and_parts _ _ given).0
  told_passed_layer (Reference type_id access indexes) callee position given =
      all_told (is_well_formed_expr o b) (compares_strings o.types) indexes.items (and_parts _ _ given).0

  told_link_layer : (y : Link-F One OnePassed OneLink) → tests_link (bare_link y) ≡ true → says_link (bare_link y) ≡ true
  told_link_layer y given = y.operand.1 (and_parts _ _ given).1

  of_expr : (x : Expr-F Expr Passed Link) (y : Expr-F One OnePassed OneLink) → bare y ≡ x → Tells (roll-Expr x)
  of_expr x y is given =
      fold-roll-Expr Bool Bool Bool (expression_compares o.types) (passed_compares o.types) (link_compares o.types) x ∙ ap says (sym is)
      ∙ told_layer y (ap tests is
      ∙ sym (fold-roll-Expr Bool (ℕ → ℕ → Bool) Bool (expr_is_well_formed o b) (passed_is_well_formed o b) (link_is_well_formed o b) x) ∙ given)

  of_passed : (x : Passed-F Expr Passed Link) (y : Passed-F One OnePassed OneLink) → bare_passed y ≡ x → TellsPassed (roll-Passed x)
  of_passed x y is callee position given =
      fold-roll-Passed Bool Bool Bool (expression_compares o.types) (passed_compares o.types) (link_compares o.types) x ∙ ap says_passed (sym is)
      ∙ told_passed_layer y callee position (ap (λ z. tests_passed z callee position) is
      ∙ sym (ap (λ (t : ℕ → ℕ → Bool). t callee position)
      (fold-roll-Passed Bool (ℕ → ℕ → Bool) Bool (expr_is_well_formed o b) (passed_is_well_formed o b) (link_is_well_formed o b) x)) ∙ given)

  of_link : (x : Link-F Expr Passed Link) (y : Link-F One OnePassed OneLink) → bare_link y ≡ x → TellsLink (roll-Link x)
  of_link x y is given =
      fold-roll-Link Bool Bool Bool (expression_compares o.types) (passed_compares o.types) (link_compares o.types) x ∙ ap says_link (sym is)
      ∙ told_link_layer y (ap tests_link is
      ∙ sym (fold-roll-Link Bool (ℕ → ℕ → Bool) Bool (expr_is_well_formed o b) (passed_is_well_formed o b) (link_is_well_formed o b) x) ∙ given)

  told : (e : Expr) → Tells e
  told = ind-Expr Tells TellsPassed TellsLink of_expr of_passed of_link

  told_passed : (p : Passed) → TellsPassed p
  told_passed = ind-Passed Tells TellsPassed TellsLink of_expr of_passed of_link

  -- ---- statements

  told_indexes : (es : List Expr) → all_hold (map (is_well_formed_expr o b) es) ≡ true → all_hold (map (compares_strings o.types) es) ≡ true
  told_indexes = each_told (is_well_formed_expr o b) (compares_strings o.types) told

  told_value : (value : Whole) (es : List Expr) → is_well_formed_value o b value es ≡ true → value_compares o.types value es ≡ true
  told_value (Text number characters) es given = refl
  told_value (VariableOf access type_id cells defined) es given = told_indexes es (and_parts _ _ given).0

  told_width : (width : Option Width) → is_well_formed_width o b width ≡ true → width_compares o.types width ≡ true
  told_width None given = refl
  told_width (Some width) given = told width.value (and_parts _ _ given).1

  told_written : (value : Written) → is_well_formed_written o b value ≡ true → written_compares o.types value ≡ true
  told_written (Ordinal value representation) given = told value given
  told_written (String value indexes) given =
      let both = and_parts _ _ given in
      and_from _ _ (text_told value both.1) (told_value value indexes.items both.0)

  told_parameter : (parameter : WriteParameter) → is_well_formed_parameter o b parameter ≡ true → parameter_compares o.types parameter ≡ true
  told_parameter parameter given =
      let both = and_parts _ _ given in
      and_from _ _ (told_written parameter.value both.0) (told_width parameter.width both.1)

  told_record : (one : WithRecord) → is_well_formed_record o b one ≡ true → record_compares o.types one ≡ true
  told_record one given = told_indexes one.indexes.items (and_parts _ _ given).0

  told_read : (one : ReadVariable) → is_well_formed_read o b one ≡ true → read_compares o.types one ≡ true
  told_read one given = told_indexes one.indexes.items (and_parts _ _ given).0

  told_actuals : (actuals : List Passed) (callee position : ℕ) → all_hold (placed callee position (map (is_well_formed_passed o b) actuals)) ≡ true
      → all_hold (map (passes_strings o.types) actuals) ≡ true
  told_actuals [] callee position given = refl
  told_actuals (one ∷ others) callee position given =
      let both = and_parts _ _ given in
      and_from _ _ (told_passed one callee position both.0) (told_actuals others callee (suc position) both.1)

  abbrev TellsStmt : Stmt → Type 0
  TellsStmt s = is_well_formed_stmt o b s ≡ true → compares_in o.types s ≡ true

  abbrev OneStmt : Type 0
  OneStmt = (s : Stmt) × TellsStmt s

  abbrev bare_stmt : Stmt-F OneStmt → Stmt-F Stmt
  bare_stmt = map-Stmt OneStmt Stmt (λ s. s.0)

  abbrev tests_stmt : Stmt-F Stmt → Bool
  tests_stmt y = stmt_is_well_formed o b (map-Stmt Stmt Bool (is_well_formed_stmt o b) y)

  abbrev says_stmt : Stmt-F Stmt → Bool
  says_stmt y = statement_compares o.types (map-Stmt Stmt Bool (compares_in o.types) y)

  told_stmt_layer : (y : Stmt-F OneStmt) → tests_stmt (bare_stmt y) ≡ true → says_stmt (bare_stmt y) ≡ true
  told_stmt_layer (Empty number) given = refl
  told_stmt_layer (Assign assignment) given =
      let one = and_parts _ _ given in
      let two = and_parts _ _ one.1 in
      and_from _ _ (told_indexes assignment.indexes.items one.0) (told assignment.value (and_parts _ _ two.1).0)
  told_stmt_layer (Copy copying) given =
      let one = and_parts _ _ given in
      let two = and_parts _ _ one.1 in
      and_from _ _ (told_indexes copying.indexes.items one.0) (told_value copying.value copying.value_indexes.items (and_parts _ _ two.1).0)
  told_stmt_layer (Write writing) given =
      each_told (is_well_formed_parameter o b) (parameter_compares o.types) told_parameter writing.parameters.items given
  told_stmt_layer (Read reading) given =
      each_told (is_well_formed_read o b) (read_compares o.types) told_read reading.variables.items (and_parts _ _ given).1
  told_stmt_layer (Calling calling) given = told_actuals calling.actuals.items calling.call.block 0 (and_parts _ _ given).1
  told_stmt_layer (Compound number statements) given = all_told (is_well_formed_stmt o b) (compares_in o.types) statements.items given
  told_stmt_layer (If number condition consequence None) given =
      let one = and_parts _ _ given in
      and_from _ _ (told condition one.0) (and_from _ _ (consequence.value.1 (and_parts _ _ one.1).0) refl)
  told_stmt_layer (If number condition consequence (Some other)) given =
      let one = and_parts _ _ given in
      let two = and_parts _ _ one.1 in
      and_from _ _ (told condition one.0) (and_from _ _ (consequence.value.1 two.0) (other.value.1 two.1))
  told_stmt_layer (While head body) given =
      let one = and_parts _ _ given in
      and_from _ _ (told head.condition one.0) (body.value.1 one.1)
  told_stmt_layer (Repeat head statements) given =
      let one = and_parts _ _ given in
      and_from _ _ (all_told (is_well_formed_stmt o b) (compares_in o.types) statements.items one.0) (told head.condition one.1)
  told_stmt_layer (For head body) given =
      let one = and_parts _ _ given in
      let first = and_parts _ _ one.1 in
      let last = and_parts _ _ (and_parts _ _ first.1).1 in
      and_from _ _ (told head.first.value first.0) (and_from _ _ (told head.last.value last.0) (body.value.1 (and_parts _ _ last.1).1))
  told_stmt_layer (Case head arms) given =
      let one = and_parts _ _ given in
      let two = and_parts _ _ one.1 in
      and_from _ _ (told head.index two.0) (all_told (is_well_formed_stmt o b) (compares_in o.types) arms.items (and_parts _ _ two.1).1)
  told_stmt_layer (With head body) given =
      let one = and_parts _ _ given in
      and_from _ _ (each_told (is_well_formed_record o b) (record_compares o.types) told_record head.records.items one.0) (body.value.1 one.1)

  -- a statement
  pub told_statement : (s : Stmt) → TellsStmt s
  told_statement = ind-Stmt TellsStmt
      (λ x y is given.
      fold-roll-Stmt Bool (statement_compares o.types) x ∙ ap says_stmt (sym is)
      ∙ told_stmt_layer y (ap tests_stmt is ∙ sym (fold-roll-Stmt Bool (stmt_is_well_formed o b) x) ∙ given))
