-- How many cells an evaluation needs at once is no more than the count that a full store is judged by.
use Rattle.std.proofs.Common.{◌≡◌, ℕ, ◌+◌, ◌≤◌, max, Bool, true, false, ◌&&◌, List, [], ◌∷◌, length, map, nat_eq, Option, Some, None, if◌then◌else◌, refl, ap}
use Rattle.std.proofs.Common.{sym, subst, ◌∙◌, arith}
use Rattle.std.specs.Prelude.{ℤ, filter, fold, not, slice_get, sum, sum_by}
use Rattle.std.specs.Global.{Vec}
use Rattle.std.proofs.lemmas.List.Sums.{sum_by-cons}
use Rattle.typed_tree.specs.declared.tree.Monadic.{Monadic}
use Rattle.typed_tree.specs.declared.tree.Monadic.TheVariants as monadic
use Rattle.typed_tree.specs.declared.tree.Selector.{Selector}
use Rattle.typed_tree.specs.declared.tree.Selector.TheVariants.{Element, Field}
use Rattle.typed_tree.specs.declared.tree.Shift.TheVariants as shift
use Rattle.typed_tree.specs.declared.tree.Tree.{Tree}
use Rattle.typed_tree.specs.declared.tree.Block.{Block}
use Rattle.typed_tree.specs.declared.tree.FunctionResult.{FunctionResult}
use Rattle.typed_tree.specs.declared.tree.Variable.{Variable as DeclaredVariable}
use Rattle.typed_tree.specs.declared.tree.VariableKind.{VariableKind}
use Rattle.typed_tree.specs.declared.tree.VariableKind.TheVariants as kind
use Rattle.types.specs.Forms.{Form}
use Rattle.types.specs.Types.{cells_of}
use Rattle.typed_tree.specs.declared.tree.Designator.{Designator}
use Rattle.typed_tree.specs.declared.tree.Designator.TheVariants as designator
use Rattle.typed_tree.specs.declared.tree.ReadVariable.{ReadVariable}
use Rattle.typed_tree.specs.declared.tree.Width.{Width}
use Rattle.typed_tree.specs.declared.tree.WithRecord.{WithRecord}
use Rattle.typed_tree.specs.declared.tree.WriteParameter.{WriteParameter}
use Rattle.typed_tree.specs.declared.tree.Written.{Written}
use Rattle.typed_tree.specs.declared.tree.Written.TheVariants.{Ordinal, String}
use Rattle.typed_tree.specs.declared.tree.Whole.{Whole}
use Rattle.typed_tree.specs.declared.tree.Whole.TheVariants.{Text, Variable as VariableOf}
use Rattle.typed_tree.specs.declared.tree.Expr.{Expr}
use Rattle.typed_tree.specs.declared.tree.Link.{Link}
use Rattle.typed_tree.specs.declared.tree.Passed.{Passed}
use Rattle.typed_tree.specs.declared.tree.Expr.TheOpen.{Expr-F, Passed-F, Link-F}
use Rattle.typed_tree.specs.declared.tree.Expr.TheOpen.Expr-F.{Constant, Variable, Monadic as MonadicOf, Chain, Compare, Call as CallOf, Set, Input}
use Rattle.typed_tree.specs.declared.tree.Expr.TheOpen.Passed-F.{Value as PassedValue, Whole as PassedWhole, Reference}
use Rattle.typed_tree.specs.declared.tree.Expr.TheViews.{roll-Expr, roll-Passed, roll-Link}
use Rattle.typed_tree.specs.declared.tree.Expr.TheFolds.{fold-Link, map-Expr, map-Passed, map-Link, fold-roll-Expr, fold-roll-Passed, fold-roll-Link, ind-Expr}
use Rattle.typed_tree.specs.declared.tree.Expr.TheFolds.{ind-Passed}
use Rattle.typed_tree.specs.Accesses.{index_count}
use Rattle.typed_tree.specs.declared.tree.Stmt.{Stmt}
use Rattle.typed_tree.specs.declared.tree.Stmt.TheOpen.{Stmt-F}
use Rattle.typed_tree.specs.declared.tree.Stmt.TheOpen.Stmt-F.{Empty, Assign, Write, Compound, If, While, Repeat, For, Case, Copy, Call as Calling, With, Read}
use Rattle.typed_tree.specs.declared.tree.Stmt.TheViews.{roll-Stmt}
use Rattle.typed_tree.specs.declared.tree.Stmt.TheFolds.{map-Stmt, fold-roll-Stmt, ind-Stmt}
use Rattle.typed_tree.specs.WellFormed.{is_parameter_kind, is_variable_kind, length_of, variables_of}
use Rattle.code_scheme.specs.Scopes.{cells_where, is_other_of, is_parameter_of, other_cells, parameter_cells, slot_cells}
use Rattle.code_scheme.specs.Depth.{PassedDepth, actuals_depth, block_depth, designators_depth, passed_depth, passed_depth_step, records_depth, result_depth}
use Rattle.code_scheme.specs.Need.{block_need, body_need, passed_need, passed_need_step, reached_need, record_need, variable_need}
use Rattle.code_scheme.specs.Depth.{expr_depth, link_depth, expr_depth_step, link_depth_step, width_depth, parameter_depth, monadic_depth, access_depth}
use Rattle.code_scheme.specs.Depth.{whole_depth, store_depth, index_depths, written_depth, written_cells, stmt_depth, stmt_depth_step, arms_depth, read_depth}
use Rattle.code_scheme.specs.Need.{expr_need, expr_need_step, link_need_step, whole_need, index_needs, width_need, written_need, parameter_need}
use Rattle.code_scheme.specs.Need.{read_need, stmt_need, stmt_need_step}
use Rattle.code_scheme.proofs.Pieces.{start_within}

sum-cons : (n : ℕ) (ns : List ℕ) → sum (n ∷ ns) ≡ n + sum ns
sum-cons n ns = sum_by-cons (λ x. x) n ns

same_within : (d d' n n' : ℕ) → d ≡ d' → n ≡ n' → d' ≤ n' → d ≤ n
same_within d d' n n' p q h = omega (arith, p, q, h)

-- the greatest of some depths, behind a first one
row_within : {X : Type 0} (f g : X → ℕ) (xs : List ((x : X) × (f x ≤ g x))) (depth need : ℕ) → depth ≤ need
    → fold max depth (map f (map (λ x. x.0) xs)) ≤ need + sum (map g (map (λ x. x.0) xs))
row_within f g [] depth need h = omega (arith, h)
row_within f g (x ∷ xs) depth need h =
    let r = row_within f g xs (max depth (f x.0)) (need + g x.0) (omega (arith, h, x.1)) in
    omega (arith, r, sum-cons (g x.0) (map g (map (λ y. y.0) xs)))

-- an address takes a cell at least
pub address_takes_one : (selectors : List Selector) (indexes : List ℕ) → 1 ≤ access_depth selectors indexes
address_takes_one [] indexes = omega arith
address_takes_one (Field position before ∷ selectors) indexes = address_takes_one selectors indexes
address_takes_one (Element fits cells ∷ selectors) [] = address_takes_one selectors []
address_takes_one (Element fits cells ∷ selectors) (index ∷ indexes) = omega arith

-- where each index is taken, it is the greatest of all
pub indexes_taken : (least : ℕ) (selectors : List Selector) (indexes : List ℕ) → length indexes ≡ index_count selectors
    → fold max least (map (λ index. index + 1) indexes) ≤ max least (access_depth selectors indexes)
indexes_taken least [] [] counts = omega arith
indexes_taken least [] (index ∷ indexes) counts = absurd (omega (arith, counts))
indexes_taken least (Field position before ∷ selectors) indexes counts = indexes_taken least selectors indexes counts
indexes_taken least (Element fits cells ∷ selectors) [] counts = absurd (omega (arith, counts))
indexes_taken least (Element fits cells ∷ selectors) (index ∷ indexes) counts =
    let rest = indexes_taken (max least (index + 1)) selectors indexes (omega (arith, counts)) in
    omega (arith, rest)

-- a set takes a cell
pub set_takes_one : (held : ℕ) (designators : List Designator) (members : List ℕ) → 1 ≤ designators_depth held designators members
set_takes_one held [] members = omega arith
set_takes_one held (designator.Single site ∷ others) [] = omega arith
set_takes_one held (designator.Single site ∷ others) (value ∷ members) = omega (arith, set_takes_one 1 others members)
set_takes_one held (designator.Range site ∷ others) [] = omega arith
set_takes_one held (designator.Range site ∷ others) (first ∷ []) = omega arith
set_takes_one held (designator.Range site ∷ others) (first ∷ last ∷ members) = omega (arith, set_takes_one 1 others members)

-- an operation on one operand needs two cells at most
monadic_within : (operation : Monadic) → monadic_depth operation ≤ 2
monadic_within (monadic.Plain does) = omega arith
monadic_within (monadic.Tested fits shift.Same) = omega arith
monadic_within (monadic.Tested fits shift.Next) = omega arith
monadic_within (monadic.Tested fits shift.Previous) = omega arith

-- an expression needs a cell at least, that of its value
abbrev NeedsOne : Expr → Type 0
NeedsOne e = 1 ≤ expr_depth e

abbrev LinkNeedsOne : Link → Type 0
LinkNeedsOne l = 1 ≤ link_depth l

abbrev HereNeedsOne : Type 0
HereNeedsOne = (e : Expr) × NeedsOne e

abbrev LinkHere : Type 0
LinkHere = (l : Link) × LinkNeedsOne l

-- of an actual parameter nothing is said here
abbrev PassedHere : Type 0
PassedHere = (p : Passed) × Unit {0}

abbrev bare_one : Expr-F HereNeedsOne PassedHere LinkHere → Expr-F Expr Passed Link
bare_one = map-Expr HereNeedsOne PassedHere LinkHere Expr Passed Link (λ e. e.0) (λ p. p.0) (λ l. l.0)

-- actual parameters need no less than what is there already
held_within : (held : ℕ) (depths : List PassedDepth) → held ≤ actuals_depth held depths
held_within held [] = omega arith
held_within held (d ∷ depths) = omega (arith, held_within (held + d.cells) depths)

one_of : (x : Expr-F Expr Passed Link) → 1 ≤ expr_depth_step (map-Expr Expr Passed Link ℕ PassedDepth ℕ expr_depth passed_depth link_depth x)
    → NeedsOne (roll-Expr x)
one_of x h = subst (λ n. 1 ≤ n) (sym (fold-roll-Expr ℕ PassedDepth ℕ expr_depth_step passed_depth_step link_depth_step x)) h

one_layer : (y : Expr-F HereNeedsOne PassedHere LinkHere) → NeedsOne (roll-Expr (bare_one y))
one_layer (Constant number n) = one_of (Constant number n) (omega arith)
one_layer (Variable access indexes holds defined) =
    one_of (bare_one (Variable access indexes holds defined))
    (address_takes_one access.selectors.items (map expr_depth (map (λ (e : HereNeedsOne). e.0) indexes.items)))
one_layer (MonadicOf number operation operand) = one_of (bare_one (MonadicOf number operation operand)) (omega (arith, operand.value.1))
one_layer (Chain first rest) =
    one_of (bare_one (Chain first rest))
    (omega (arith, first.value.1, start_within (expr_depth first.value.0) (map link_depth (map (λ (l : LinkHere). l.0) rest.items))))
one_layer (Compare number r left left_indexes right right_indexes) = one_of (bare_one (Compare number r left left_indexes right right_indexes)) (omega arith)
one_layer (CallOf call actuals) =
    one_of (bare_one (CallOf call actuals))
    (omega (arith, held_within 4 (map passed_depth (map (λ (p : PassedHere). p.0) actuals.items))))
one_layer (Input number asks) = one_of (Input number asks) (omega arith)
one_layer (Set number designators members) =
    one_of (bare_one (Set number designators members))
    (set_takes_one 0 designators.items (map expr_depth (map (λ (e : HereNeedsOne). e.0) members.items)))

link_one : (y : Link-F HereNeedsOne PassedHere LinkHere)
    → LinkNeedsOne (roll-Link (map-Link HereNeedsOne PassedHere LinkHere Expr Passed Link (λ e. e.0) (λ p. p.0) (λ l. l.0) y))
link_one y =
    subst (λ n. 1 ≤ n)
    (sym (fold-roll-Link ℕ PassedDepth ℕ expr_depth_step passed_depth_step link_depth_step
    (map-Link HereNeedsOne PassedHere LinkHere Expr Passed Link (λ e. e.0) (λ p. p.0) (λ l. l.0) y))) (omega arith)

needs_one : (e : Expr) → NeedsOne e
needs_one =
    ind-Expr NeedsOne (λ p. Unit {0}) LinkNeedsOne (λ x y is. subst (λ z. NeedsOne (roll-Expr z)) is (one_layer y)) (λ x y is. tt)
    (λ x y is. subst (λ z. LinkNeedsOne (roll-Link z)) is (link_one y))

-- a whole value needs a cell for each component at least
cells_within : (value : Whole) (depths : List ℕ) → length_of value ≤ whole_depth value depths
cells_within (Text number characters) depths = omega arith
cells_within (VariableOf access type_id cells defined) depths = omega arith

module _ (types : List Form) where
  -- the need of an operator and its right operand
  abbrev link_need : Link → ℕ
  link_need = fold-Link ℕ ℕ ℕ expr_need_step (passed_need_step types) link_need_step

  abbrev ExprWithin : Expr → Type 0
  ExprWithin e = expr_depth e ≤ expr_need types e

  abbrev LinkWithin : Link → Type 0
  LinkWithin l = link_depth l ≤ link_need l

  abbrev PassedWithin : Passed → Type 0
  PassedWithin p = ((passed_depth p).depth ≤ passed_need types p) × ((passed_depth p).cells ≤ passed_need types p)

  abbrev HereWithin : Type 0
  HereWithin = (e : Expr) × ExprWithin e

  abbrev PassedHereWithin : Type 0
  PassedHereWithin = (p : Passed) × PassedWithin p

  abbrev LinkHereWithin : Type 0
  LinkHereWithin = (l : Link) × LinkWithin l

  -- an address: each index is evaluated beside it
  access_within : (selectors : List Selector) (indexes : List HereWithin)
      → access_depth selectors (map expr_depth (map (λ e. e.0) indexes)) ≤ 2 + sum (map (expr_need types) (map (λ e. e.0) indexes))
  access_within [] indexes = omega arith
  access_within (Field position before ∷ selectors) indexes = access_within selectors indexes
  access_within (Element fits cells ∷ selectors) [] = access_within selectors []
  access_within (Element fits cells ∷ selectors) (e ∷ indexes) =
      let r = access_within selectors indexes in
      omega (arith, r, e.1, sum-cons (expr_need types e.0) (map (expr_need types) (map (λ (d : HereWithin). d.0) indexes)))

  -- the designators of a set constructor: beside a set at most, the last of a range beside its first as well
  designators_within : (held : ℕ) → held ≤ 1 → (designators : List Designator) (members : List HereWithin)
      → designators_depth held designators (map expr_depth (map (λ e. e.0) members)) ≤ 2 + sum (map (expr_need types) (map (λ e. e.0) members))
  designators_within held few [] members = omega arith
  designators_within held few (designator.Single site ∷ others) [] = omega arith
  designators_within held few (designator.Single site ∷ others) (e ∷ members) =
      omega (
        arith,
        few,
        e.1,
        designators_within 1 (omega arith) others members,
        sum-cons (expr_need types e.0) (map (expr_need types) (map (λ (d : HereWithin). d.0) members)),
      )
  designators_within held few (designator.Range site ∷ others) [] = omega arith
  designators_within held few (designator.Range site ∷ others) (first ∷ []) = omega arith
  designators_within held few (designator.Range site ∷ others) (first ∷ last ∷ members) =
      let needs = map (expr_need types) (map (λ (d : HereWithin). d.0) members) in
      omega (
        arith,
        few,
        first.1,
        last.1,
        designators_within 1 (omega arith) others members,
        sum-cons (expr_need types first.0) (expr_need types last.0 ∷ needs),
        sum-cons (expr_need types last.0) needs,
      )

  whole_within : (value : Whole) (indexes : List HereWithin)
      → whole_depth value (map expr_depth (map (λ e. e.0) indexes)) + 6 ≤ whole_need value (map (expr_need types) (map (λ e. e.0) indexes))
  whole_within (Text number characters) indexes = omega arith
  whole_within (VariableOf access type_id cells defined) indexes = omega (arith, access_within access.selectors.items indexes)

  rolled_expr : (x : Expr-F Expr Passed Link)
      → expr_depth_step (map-Expr Expr Passed Link ℕ PassedDepth ℕ expr_depth passed_depth link_depth x)
      ≤ expr_need_step (map-Expr Expr Passed Link ℕ ℕ ℕ (expr_need types) (passed_need types) link_need x) → ExprWithin (roll-Expr x)
  rolled_expr x =
      same_within _ _ _ _ (fold-roll-Expr ℕ PassedDepth ℕ expr_depth_step passed_depth_step link_depth_step x)
      (fold-roll-Expr ℕ ℕ ℕ expr_need_step (passed_need_step types) link_need_step x)

  rolled_link : (x : Link-F Expr Passed Link)
      → link_depth_step (map-Link Expr Passed Link ℕ PassedDepth ℕ expr_depth passed_depth link_depth x)
      ≤ link_need_step (map-Link Expr Passed Link ℕ ℕ ℕ (expr_need types) (passed_need types) link_need x) → LinkWithin (roll-Link x)
  rolled_link x =
      same_within _ _ _ _ (fold-roll-Link ℕ PassedDepth ℕ expr_depth_step passed_depth_step link_depth_step x)
      (fold-roll-Link ℕ ℕ ℕ expr_need_step (passed_need_step types) link_need_step x)

  abbrev bare_expr : Expr-F HereWithin PassedHereWithin LinkHereWithin → Expr-F Expr Passed Link
  bare_expr = map-Expr HereWithin PassedHereWithin LinkHereWithin Expr Passed Link (λ e. e.0) (λ p. p.0) (λ l. l.0)

  abbrev bare_passed : Passed-F HereWithin PassedHereWithin LinkHereWithin → Passed-F Expr Passed Link
  bare_passed = map-Passed HereWithin PassedHereWithin LinkHereWithin Expr Passed Link (λ e. e.0) (λ p. p.0) (λ l. l.0)

  -- actual parameters, one after another
  actuals_within : (held : ℕ) (actuals : List PassedHereWithin)
      → actuals_depth held (map passed_depth (map (λ p. p.0) actuals)) ≤ held + sum (map (passed_need types) (map (λ p. p.0) actuals))
  actuals_within held [] = omega arith
  actuals_within held (p ∷ actuals) =
      let rest = actuals_within (held + (passed_depth p.0).cells) actuals in
      omega (arith, p.1.0, p.1.1, rest, sum-cons (passed_need types p.0) (map (passed_need types) (map (λ q. q.0) actuals)))

  rolled_passed : (x : Passed-F Expr Passed Link) (d : PassedDepth) (n : ℕ)
      → passed_depth_step (map-Passed Expr Passed Link ℕ PassedDepth ℕ expr_depth passed_depth link_depth x) ≡ d
      → passed_need_step types (map-Passed Expr Passed Link ℕ ℕ ℕ (expr_need types) (passed_need types) link_need x) ≡ n → d.depth ≤ n → d.cells ≤ n
      → PassedWithin (roll-Passed x)
  rolled_passed x d n deep much depth cells =
      let is = fold-roll-Passed ℕ PassedDepth ℕ expr_depth_step passed_depth_step link_depth_step x ∙ deep in
      let needs = fold-roll-Passed ℕ ℕ ℕ expr_need_step (passed_need_step types) link_need_step x ∙ much in (
        omega (arith, ap (λ (e : PassedDepth). e.depth) is, needs, depth),
        omega (arith, ap (λ (e : PassedDepth). e.cells) is, needs, cells),
      )

  passed_layer : (y : Passed-F HereWithin PassedHereWithin LinkHereWithin) → PassedWithin (roll-Passed (bare_passed y))
  passed_layer (PassedValue value fits) =
      rolled_passed (bare_passed (PassedValue value fits)) (record { depth = expr_depth value.0; cells = 1 }) (expr_need types value.0) refl refl value.1
      (omega (arith, value.1, needs_one value.0))
  passed_layer (PassedWhole type_id value indexes) =
      let depths = map expr_depth (map (λ (e : HereWithin). e.0) indexes.items) in
      let needs = map (expr_need types) (map (λ (e : HereWithin). e.0) indexes.items) in
      rolled_passed (bare_passed (PassedWhole type_id value indexes)) (record { depth = whole_depth value depths; cells = length_of value })
      (whole_need value needs) refl refl (omega (arith, whole_within value indexes.items)) (omega arith)
  passed_layer (Reference type_id access indexes) =
      let depths = map expr_depth (map (λ (e : HereWithin). e.0) indexes.items) in
      let needs = map (expr_need types) (map (λ (e : HereWithin). e.0) indexes.items) in
      rolled_passed (bare_passed (Reference type_id access indexes)) (record { depth = access_depth access.selectors.items depths; cells = 1 })
      (reached_need types type_id needs) refl refl
      (omega (arith, access_within access.selectors.items indexes.items)) (omega arith)

  expr_layer : (y : Expr-F HereWithin PassedHereWithin LinkHereWithin) → ExprWithin (roll-Expr (bare_expr y))
  expr_layer (Constant number n) = rolled_expr (Constant number n) (omega arith)
  expr_layer (Variable access indexes holds defined) =
      rolled_expr (bare_expr (Variable access indexes holds defined)) (omega (arith, access_within access.selectors.items indexes.items))
  expr_layer (MonadicOf number operation operand) =
      rolled_expr (bare_expr (MonadicOf number operation operand)) (omega (arith, operand.value.1, monadic_within operation))
  expr_layer (Chain first rest) =
      rolled_expr (bare_expr (Chain first rest))
      (row_within link_depth link_need rest.items (expr_depth first.value.0) (expr_need types first.value.0) first.value.1)
  expr_layer (Compare number r left left_indexes right right_indexes) =
      rolled_expr (bare_expr (Compare number r left left_indexes right right_indexes))
      (omega (arith, whole_within left left_indexes.items, whole_within right right_indexes.items))
  expr_layer (CallOf call actuals) = rolled_expr (bare_expr (CallOf call actuals)) (omega (arith, actuals_within 4 actuals.items))
  expr_layer (Input number asks) = rolled_expr (Input number asks) (omega arith)
  expr_layer (Set number designators members) =
      rolled_expr (bare_expr (Set number designators members)) (omega (arith, designators_within 0 (omega arith) designators.items members.items))

  link_layer : (y : Link-F HereWithin PassedHereWithin LinkHereWithin)
      → LinkWithin (roll-Link (map-Link HereWithin PassedHereWithin LinkHereWithin Expr Passed Link (λ e. e.0) (λ p. p.0) (λ l. l.0) y))
  link_layer y =
      rolled_link (map-Link HereWithin PassedHereWithin LinkHereWithin Expr Passed Link (λ e. e.0) (λ p. p.0) (λ l. l.0) y) (omega (arith, y.operand.1))

  pub expr_within : (e : Expr) → expr_depth e ≤ expr_need types e
  expr_within =
      ind-Expr ExprWithin PassedWithin LinkWithin (λ x y is. subst (λ z. ExprWithin (roll-Expr z)) is (expr_layer y))
      (λ x y is. subst (λ z. PassedWithin (roll-Passed z)) is (passed_layer y)) (λ x y is. subst (λ z. LinkWithin (roll-Link z)) is (link_layer y))

  passed_within : (p : Passed) → PassedWithin p
  passed_within =
      ind-Passed ExprWithin PassedWithin LinkWithin (λ x y is. subst (λ z. ExprWithin (roll-Expr z)) is (expr_layer y))
      (λ x y is. subst (λ z. PassedWithin (roll-Passed z)) is (passed_layer y)) (λ x y is. subst (λ z. LinkWithin (roll-Link z)) is (link_layer y))

  -- the actual parameters of a statement
  calling_within : (held : ℕ) (actuals : List Passed) → actuals_depth held (map passed_depth actuals) ≤ held + sum_by (passed_need types) actuals
  calling_within held [] = omega arith
  calling_within held (p ∷ actuals) =
      let rest = calling_within (held + (passed_depth p).cells) actuals in
      omega (arith, (passed_within p).0, (passed_within p).1, rest, sum_by-cons (passed_need types) p actuals)

  -- index expressions, each of which is within
  abbrev with_proofs : List Expr → List HereWithin
  with_proofs [] = []
  with_proofs (e ∷ es) = (e, expr_within e) ∷ with_proofs es

  without : (es : List Expr) → map (λ (e : HereWithin). e.0) (with_proofs es) ≡ es
  without [] = refl
  without (e ∷ es) = ap (λ rest. e ∷ rest) (without es)

  address_within : (selectors : List Selector) (indexes : List Expr)
      → access_depth selectors (index_depths indexes) ≤ 2 + sum (index_needs types indexes)
  address_within selectors indexes =
      subst (λ es. access_depth selectors (index_depths es) ≤ 2 + sum (index_needs types es)) (without indexes)
      (access_within selectors (with_proofs indexes))

  value_within : (value : Whole) (indexes : List Expr) → whole_depth value (index_depths indexes) + 6 ≤ whole_need value (index_needs types indexes)
  value_within value indexes =
      subst (λ es. whole_depth value (index_depths es) + 6 ≤ whole_need value (index_needs types es)) (without indexes)
      (whole_within value (with_proofs indexes))

  store_within : (selectors : List Selector) (indexes : List Expr) (value : Expr)
      → store_depth selectors (index_depths indexes) (expr_depth value) ≤ 2 + sum (index_needs types indexes) + expr_need types value
  store_within selectors indexes value = omega (arith, expr_within value, address_within selectors indexes)

  -- the records of a with, and how many they are
  records_within : (records : List WithRecord) → records_depth records ≤ sum_by (record_need types) records
  records_within [] = omega arith
  records_within (one ∷ others) =
      omega (
        arith,
        address_within one.access.selectors.items one.indexes.items,
        records_within others,
        sum_by-cons (record_need types) one others,
      )

  records_counted : (records : List WithRecord) → length records ≤ sum_by (record_need types) records
  records_counted [] = omega arith
  records_counted (one ∷ others) = omega (arith, records_counted others, sum_by-cons (record_need types) one others)

  -- a width, beside the value that is written in it
  width_within : (width : Option Width) → width_depth width ≤ width_need types width + 1
  width_within None = omega arith
  width_within (Some width) = omega (arith, expr_within width.value)

  -- a value that is written, and its cells
  written_within : (value : Written) → (written_depth value ≤ written_need types value) × (written_cells value ≤ written_depth value)
  written_within (Ordinal value representation) = (expr_within value, needs_one value)
  written_within (String value indexes) = (omega (arith, value_within value indexes.items), cells_within value (index_depths indexes.items))

  -- both together
  parameter_within : (p : WriteParameter) → parameter_depth p ≤ parameter_need types p + 1
  parameter_within p = omega (arith, (written_within p.value).0, (written_within p.value).1, width_within p.width)

  -- the values of a write
  parameters_within : (ps : List WriteParameter) (depth need : ℕ) → 1 ≤ need → depth ≤ need
      → fold max depth (map parameter_depth ps) ≤ need + sum_by (parameter_need types) ps
  parameters_within [] depth need least h = omega (arith, h)
  parameters_within (p ∷ ps) depth need least h =
      let r = parameters_within ps (max depth (parameter_depth p)) (need + parameter_need types p) (omega (arith, least))
      (omega (arith, h, least, parameter_within p)) in
      omega (arith, r, sum_by-cons (parameter_need types) p ps)

  -- the variables of a read
  reads_within : (ones : List ReadVariable) (depth need : ℕ) → depth ≤ need
      → fold max depth (map read_depth ones) ≤ need + sum_by (read_need types) ones
  reads_within [] depth need h = omega (arith, h)
  reads_within (one ∷ ones) depth need h =
      let r = reads_within ones (max depth (read_depth one)) (need + read_need types one)
      (omega (arith, h, address_within one.access.selectors.items one.indexes.items)) in
      omega (arith, r, sum_by-cons (read_need types) one ones)

  abbrev StmtWithin : Stmt → Type 0
  StmtWithin s = stmt_depth s ≤ stmt_need types s

  abbrev StmtHere : Type 0
  StmtHere = (s : Stmt) × StmtWithin s

  abbrev bare_stmt : Stmt-F StmtHere → Stmt-F Stmt
  bare_stmt = map-Stmt StmtHere Stmt (λ s. s.0)

  rolled_stmt : (x : Stmt-F Stmt) → stmt_depth_step (map-Stmt Stmt ℕ stmt_depth x) ≤ stmt_need_step types (map-Stmt Stmt ℕ (stmt_need types) x)
      → StmtWithin (roll-Stmt x)
  rolled_stmt x = same_within _ _ _ _ (fold-roll-Stmt ℕ stmt_depth_step x) (fold-roll-Stmt ℕ (stmt_need_step types) x)

  -- the arms of a case statement
  arms_within : (rows : List (Vec ℤ)) (arms : List StmtHere)
      → arms_depth rows (map stmt_depth (map (λ x. x.0) arms)) ≤ sum (map (stmt_need types) (map (λ x. x.0) arms))
  arms_within [] arms = omega arith
  arms_within (row ∷ rows) [] = omega arith
  arms_within (row ∷ rows) (arm ∷ arms) =
      omega (arith, arm.1, arms_within rows arms, sum-cons (stmt_need types arm.0) (map (stmt_need types) (map (λ x. x.0) arms)))

  stmt_layer : (y : Stmt-F StmtHere) → StmtWithin (roll-Stmt (bare_stmt y))
  stmt_layer (Empty number) = rolled_stmt (Empty number) (omega arith)
  stmt_layer (Assign assignment) =
      rolled_stmt (Assign assignment) (omega (arith, store_within assignment.target.selectors.items assignment.indexes.items assignment.value))
  stmt_layer (Copy copying) =
      rolled_stmt (Copy copying)
      (omega (
        arith,
        address_within copying.target.selectors.items copying.indexes.items,
        value_within copying.value copying.value_indexes.items,
      ))
  stmt_layer (Write writing) =
      rolled_stmt (Write writing) (parameters_within writing.parameters.items 0 8 (omega arith) (omega arith))
  stmt_layer (Read reading) = rolled_stmt (Read reading) (reads_within reading.variables.items 0 8 (omega arith))
  stmt_layer (Calling calling) = rolled_stmt (Calling calling) (omega (arith, calling_within 4 calling.actuals.items))
  stmt_layer (Compound number statements) =
      rolled_stmt (bare_stmt (Compound number statements)) (row_within stmt_depth (stmt_need types) statements.items 0 8 (omega arith))
  stmt_layer (If number condition consequence None) =
      rolled_stmt (bare_stmt (If number condition consequence None)) (omega (arith, expr_within condition, consequence.value.1))
  stmt_layer (If number condition consequence (Some alternative)) =
      rolled_stmt (bare_stmt (If number condition consequence (Some alternative)))
      (omega (arith, expr_within condition, consequence.value.1, alternative.value.1))
  stmt_layer (While head body) = rolled_stmt (bare_stmt (While head body)) (omega (arith, expr_within head.condition, body.value.1))
  stmt_layer (Repeat head statements) =
      rolled_stmt (bare_stmt (Repeat head statements))
      (omega (arith, expr_within head.condition, row_within stmt_depth (stmt_need types) statements.items 0 8 (omega arith)))
  stmt_layer (For head body) =
      rolled_stmt (bare_stmt (For head body))
      (omega (arith, expr_within head.first.value, expr_within head.last.value, body.value.1))
  stmt_layer (Case head arms) =
      rolled_stmt (bare_stmt (Case head arms))
      (omega (arith, expr_within head.index, arms_within head.constants.items arms.items))
  stmt_layer (With head body) =
      rolled_stmt (bare_stmt (With head body))
      (omega (arith, records_within head.records.items, records_counted head.records.items, body.value.1))

  -- the same of a statement
  pub stmt_within : (s : Stmt) → stmt_depth s ≤ stmt_need types s
  stmt_within = ind-Stmt StmtWithin (λ x y is. subst (λ z. StmtWithin (roll-Stmt z)) is (stmt_layer y))

sum_if : {X : Type 0} (f : X → ℕ) (b : Bool) (x : X) (xs : List X) → sum_by f (if b then x ∷ xs else xs) ≡ (if b then f x else 0) + sum_by f xs
sum_if f true x xs = sum_by-cons f x xs
sum_if f false x xs = omega arith

split_within : (own kind : Bool) (slot need : ℕ) → slot ≤ need
    → (if own && kind then slot else 0) + (if own && not kind then slot else 0) ≤ (if own then need else 0)
split_within true true slot need h = omega (arith, h)
split_within true false slot need h = omega (arith, h)
split_within false kind slot need h = omega arith

kind_within : (k : VariableKind) (cells : ℕ) → (if is_variable_kind k then 1 else cells) ≤ (if is_parameter_kind k then 1 + cells else cells)
kind_within kind.Local cells = omega arith
kind_within kind.ValueParameter cells = omega arith
kind_within kind.VariableParameter cells = omega arith
kind_within kind.Result cells = omega arith

-- a variable takes no more cells than it may need
slot_within : (types : List Form) (variable : DeclaredVariable) → slot_cells types variable ≤ variable_need types variable
slot_within types variable = kind_within variable.kind (cells_of types variable.type_id)

-- the parameters and the other variables of a block
frame_within : (types : List Form) (number : ℕ) (variables : List DeclaredVariable)
    → cells_where types (is_parameter_of number) variables + cells_where types (is_other_of number) variables ≤ sum_by (variable_need types)
    (variables_of number variables)
frame_within types number [] = omega arith
frame_within types number (variable ∷ variables) =
    let own = nat_eq variable.block number in
    let kind = is_parameter_kind variable.kind in
    let slot = slot_cells types variable in
    omega (
      arith,
      sum_if (slot_cells types) (own && kind) variable (filter (is_parameter_of number) variables),
      sum_if (slot_cells types) (own && not kind) variable (filter (is_other_of number) variables),
      sum_if (variable_need types) own variable (variables_of number variables),
      split_within own kind slot (variable_need types variable) (slot_within types variable),
      frame_within types number variables,
    )

result_within : (result : Option FunctionResult) → result_depth result ≤ 1
result_within None = omega arith
result_within (Some result) = omega arith

-- the frame of a block takes no more cells than an activation of it may need
pub block_within : (tree : Tree) (number : ℕ) (block : Block) → slice_get tree.blocks.items number ≡ Some block
    → 4 + parameter_cells tree number + other_cells tree number + block_depth block ≤ block_need tree number
block_within tree number block is =
    omega (
      arith,
      ap (body_need tree.types) is,
      stmt_within tree.types block.body,
      result_within block.heading.result,
      frame_within tree.types number tree.variables.items,
    )
