-- The form of an expression is the same, whether a walk or a condition is made of it, and so is whether it holds a call.
use Rattle.std.proofs.Common.{◌≡◌, ◌∙◌, sym, ap, ap₂, refl, subst, ℕ, Bool, ◌||◌, List, [], ◌∷◌, map}
use Rattle.std.specs.List.{list_any}
use Rattle.typed_tree.specs.declared.tree.Whole.{Whole}
use Rattle.typed_tree.specs.declared.tree.Whole.TheVariants.{Text, Variable as VariableOf}
use Rattle.typed_tree.specs.declared.tree.Expr.{Expr}
use Rattle.typed_tree.specs.declared.tree.Link.{Link}
use Rattle.typed_tree.specs.declared.tree.Passed.{Passed}
use Rattle.typed_tree.specs.declared.tree.Expr.TheOpen.{Expr-F, Link-F, Passed-F}
use Rattle.typed_tree.specs.declared.tree.Expr.TheOpen.Expr-F.{Constant, Variable, Monadic as MonadicOf, Chain, Compare, Call as CallOf, Set, Input}
use Rattle.typed_tree.specs.declared.tree.Expr.TheOpen.Passed-F.{Value as PassedValue, Whole as PassedWhole, Reference}
use Rattle.typed_tree.specs.declared.tree.Expr.TheViews.{roll-Expr, roll-Link, roll-Passed}
use Rattle.typed_tree.specs.declared.tree.Expr.TheFolds.{map-Expr, map-Link, map-Passed, fold-roll-Expr, fold-roll-Link, fold-roll-Passed, ind-Expr}
use Rattle.typed_tree.specs.declared.tree.Expr.TheFolds.{ind-Passed}
use Rattle.typed_tree.specs.Calls.{any_holds, expression_holds_call, hold_call, holds_call, link_holds_call, link_holds_call_of, passed_holds_call}
use Rattle.typed_tree.specs.Calls.{passed_step_holds_call, whole_holds_call}
use Rattle.typed_tree.specs.WellFormed.{whole_indexes}
use Rattle.checker_state.specs.Conditions.{Condition, Conjunct, bound_form, condition_of, condition_step, conjunct_of, link_condition, operand_of}
use Rattle.checker_state.specs.Conditions.{passed_condition}
use Rattle.domain.specs.declared.versions.Version.{Version}
use Rattle.checker_state.specs.declared.forms.Form.{Form}
use Rattle.checker_state.specs.Forms.{Operand, bound_of, chain_form, sign_form}
use Rattle.checker_expressions.specs.Walk as walk
use Rattle.checker_expressions.specs.Walk.{Joint, PassedPiece, Piece, joint_of, link_step, passed_piece_of, passed_step, piece_of, piece_step}

-- ---- forms

-- an expression has the form by which its conditions go, whichever variables are ordinals, and the walk knows whether it holds a call
pub record IsFormed (e : Expr) : Type 0 where
  pub form : (ordinal : ℕ → Bool) → (piece_of e).form ordinal ≡ (condition_of ordinal e).form
  pub holds : (piece_of e).holds_call ≡ holds_call e

abbrev IsPassedSo : Passed → Type 0
IsPassedSo p = (passed_piece_of p).holds_call ≡ passed_holds_call p

record IsJoined (l : Link) : Type 0 where
  pub operand : (ordinal : ℕ → Bool) → (joint_of l).operand ordinal ≡ operand_of (conjunct_of ordinal l)
  pub holds : (joint_of l).holds_call ≡ link_holds_call_of l

abbrev FormedExpr : Type 0
FormedExpr = (e : Expr) × IsFormed e

abbrev FormedPassed : Type 0
FormedPassed = (p : Passed) × IsPassedSo p

abbrev FormedLink : Type 0
FormedLink = (l : Link) × IsJoined l

abbrev bare_expr : Expr-F FormedExpr FormedPassed FormedLink → Expr-F Expr Passed Link
bare_expr = map-Expr FormedExpr FormedPassed FormedLink Expr Passed Link (λ e. e.0) (λ p. p.0) (λ l. l.0)

abbrev bare_passed : Passed-F FormedExpr FormedPassed FormedLink → Passed-F Expr Passed Link
bare_passed = map-Passed FormedExpr FormedPassed FormedLink Expr Passed Link (λ e. e.0) (λ p. p.0) (λ l. l.0)

abbrev bare_link : Link-F FormedExpr FormedPassed FormedLink → Link-F Expr Passed Link
bare_link = map-Link FormedExpr FormedPassed FormedLink Expr Passed Link (λ e. e.0) (λ p. p.0) (λ l. l.0)

same-operands : (ordinal : ℕ → Bool) (links : List FormedLink)
    → map (λ joint. joint.operand ordinal) (map joint_of (map (λ l. l.0) links)) ≡ map operand_of (map (conjunct_of ordinal) (map (λ l. l.0) links))
same-operands ordinal [] = refl
same-operands ordinal (link ∷ links) =
    ap₂ (λ (one : Operand) (more : List Operand). one ∷ more) (link.1.operand ordinal) (same-operands ordinal links)

either : {a b c d : Bool} → a ≡ b → c ≡ d → (a || c) ≡ (b || d)
either one two = ap₂ (λ (x y : Bool). x || y) one two

same-holds : (parts : List FormedExpr) → walk.hold_call (map piece_of (map (λ e. e.0) parts)) ≡ any_holds (map holds_call (map (λ e. e.0) parts))
same-holds [] = refl
same-holds (one ∷ parts) = either one.1.holds (same-holds parts)

same-joined : (links : List FormedLink)
    → list_any (λ joint. joint.holds_call) (map joint_of (map (λ l. l.0) links)) ≡ any_holds (map link_holds_call_of (map (λ l. l.0) links))
same-joined [] = refl
same-joined (link ∷ links) = either link.1.holds (same-joined links)

same-whole : (value : Whole) (parts : List FormedExpr)
    → walk.hold_call (whole_indexes value (map piece_of (map (λ e. e.0) parts))) ≡ any_holds (whole_indexes value (map holds_call (map (λ e. e.0) parts)))
same-whole (Text number text) parts = refl
same-whole (VariableOf access type_id cells defined) parts = same-holds parts

form-layer : (ordinal : ℕ → Bool) (y : Expr-F FormedExpr FormedPassed FormedLink)
    → (piece_step (map-Expr Expr Passed Link Piece PassedPiece Joint piece_of passed_piece_of joint_of (bare_expr y))).form ordinal
    ≡ (condition_step ordinal
    (map-Expr Expr Passed Link Condition (Unit {0}) Conjunct (condition_of ordinal) (λ p. tt) (conjunct_of ordinal) (bare_expr y))).form
form-layer ordinal (Constant number value) = refl
form-layer ordinal (Variable access indexes holds defined) = refl
form-layer ordinal (Set number designators members) = refl
form-layer ordinal (MonadicOf number operation operand) = ap (λ (form : Form). sign_form form operation) (operand.value.1.form ordinal)
form-layer ordinal (Chain first rest) = ap₂ chain_form (first.value.1.form ordinal) (same-operands ordinal rest.items)
form-layer ordinal (Compare number relation left left_indexes right right_indexes) = refl
form-layer ordinal (CallOf call actuals) = refl
form-layer ordinal (Input number asks) = refl

holds-layer : (y : Expr-F FormedExpr FormedPassed FormedLink)
    → (piece_step (map-Expr Expr Passed Link Piece PassedPiece Joint piece_of passed_piece_of joint_of (bare_expr y))).holds_call
    ≡ expression_holds_call (map-Expr Expr Passed Link Bool Bool Bool holds_call passed_holds_call link_holds_call_of (bare_expr y))
holds-layer (Constant number value) = refl
holds-layer (Variable access indexes holds defined) = same-holds indexes.items
holds-layer (Set number designators members) = same-holds members.items
holds-layer (MonadicOf number operation operand) = operand.value.1.holds
holds-layer (Chain first rest) = either first.value.1.holds (same-joined rest.items)
holds-layer (Compare number relation left left_indexes right right_indexes) =
    either (same-whole left left_indexes.items) (same-whole right right_indexes.items)
holds-layer (CallOf call actuals) = refl
holds-layer (Input number asks) = refl

passed-layer : (y : Passed-F FormedExpr FormedPassed FormedLink)
    → (passed_step (map-Passed Expr Passed Link Piece PassedPiece Joint piece_of passed_piece_of joint_of (bare_passed y))).holds_call
    ≡ passed_step_holds_call (map-Passed Expr Passed Link Bool Bool Bool holds_call passed_holds_call link_holds_call_of (bare_passed y))
passed-layer (PassedValue value fits) = value.1.holds
passed-layer (PassedWhole type_id value indexes) = same-whole value indexes.items
passed-layer (Reference type_id access indexes) = same-holds indexes.items

operand-layer : (ordinal : ℕ → Bool) (y : Link-F FormedExpr FormedPassed FormedLink)
    → (link_step (map-Link Expr Passed Link Piece PassedPiece Joint piece_of passed_piece_of joint_of (bare_link y))).operand ordinal
    ≡ operand_of (link_condition
    (map-Link Expr Passed Link Condition (Unit {0}) Conjunct (condition_of ordinal) (λ p. tt) (conjunct_of ordinal) (bare_link y)))
operand-layer ordinal y = ap (λ (form : Form). record { operation = y.operation; form = form }) (y.operand.1.form ordinal)

rolled-form : (x : Expr-F Expr Passed Link)
    → ((ordinal : ℕ → Bool) → (piece_step (map-Expr Expr Passed Link Piece PassedPiece Joint piece_of passed_piece_of joint_of x)).form ordinal
    ≡ (condition_step ordinal
    (map-Expr Expr Passed Link Condition (Unit {0}) Conjunct (condition_of ordinal) (λ p. tt) (conjunct_of ordinal) x)).form)
    → (piece_step (map-Expr Expr Passed Link Piece PassedPiece Joint piece_of passed_piece_of joint_of x)).holds_call
    ≡ expression_holds_call (map-Expr Expr Passed Link Bool Bool Bool holds_call passed_holds_call link_holds_call_of x)
    → IsFormed (roll-Expr x)
rolled-form x same holds = record {
  form = λ ordinal.
      ap (λ (piece : Piece). piece.form ordinal) (fold-roll-Expr Piece PassedPiece Joint piece_step passed_step link_step x) ∙ same ordinal
      ∙ sym (ap (λ (condition : Condition). condition.form)
      (fold-roll-Expr Condition (Unit {0}) Conjunct (condition_step ordinal) passed_condition link_condition x));
  holds = ap (λ (piece : Piece). piece.holds_call) (fold-roll-Expr Piece PassedPiece Joint piece_step passed_step link_step x) ∙ holds
      ∙ sym (fold-roll-Expr Bool Bool Bool expression_holds_call passed_step_holds_call link_holds_call x);
}

rolled-passed_form : (x : Passed-F Expr Passed Link)
    → (passed_step (map-Passed Expr Passed Link Piece PassedPiece Joint piece_of passed_piece_of joint_of x)).holds_call
    ≡ passed_step_holds_call (map-Passed Expr Passed Link Bool Bool Bool holds_call passed_holds_call link_holds_call_of x)
    → IsPassedSo (roll-Passed x)
rolled-passed_form x holds =
    ap (λ (piece : PassedPiece). piece.holds_call) (fold-roll-Passed Piece PassedPiece Joint piece_step passed_step link_step x) ∙ holds
    ∙ sym (fold-roll-Passed Bool Bool Bool expression_holds_call passed_step_holds_call link_holds_call x)

rolled-operand : (x : Link-F Expr Passed Link)
    → ((ordinal : ℕ → Bool) → (link_step (map-Link Expr Passed Link Piece PassedPiece Joint piece_of passed_piece_of joint_of x)).operand ordinal
    ≡ operand_of (link_condition
    (map-Link Expr Passed Link Condition (Unit {0}) Conjunct (condition_of ordinal) (λ p. tt) (conjunct_of ordinal) x)))
    → (piece_of x.operand).holds_call ≡ holds_call x.operand
    → IsJoined (roll-Link x)
rolled-operand x same holds = record {
  operand = λ ordinal.
      ap (λ (joint : Joint). joint.operand ordinal) (fold-roll-Link Piece PassedPiece Joint piece_step passed_step link_step x) ∙ same ordinal
      ∙ sym (ap operand_of (fold-roll-Link Condition (Unit {0}) Conjunct (condition_step ordinal) passed_condition link_condition x));
  holds = ap (λ (joint : Joint). joint.holds_call) (fold-roll-Link Piece PassedPiece Joint piece_step passed_step link_step x) ∙ holds
      ∙ sym (fold-roll-Link Bool Bool Bool expression_holds_call passed_step_holds_call link_holds_call x);
}

pub form-same : (e : Expr) → IsFormed e
form-same =
    ind-Expr IsFormed IsPassedSo IsJoined
    (λ x y is. subst (λ (z : Expr-F Expr Passed Link). IsFormed (roll-Expr z)) is (rolled-form (bare_expr y) (λ ordinal. form-layer ordinal y) (holds-layer y)))
    (λ x y is. subst (λ (z : Passed-F Expr Passed Link). IsPassedSo (roll-Passed z)) is (rolled-passed_form (bare_passed y) (passed-layer y)))
    (λ x y is. subst (λ (z : Link-F Expr Passed Link). IsJoined (roll-Link z)) is
    (rolled-operand (bare_link y) (λ ordinal. operand-layer ordinal y) y.operand.1.holds))

-- an actual parameter holds a call where the walk knows it
pub passed-holds : (p : Passed) → (passed_piece_of p).holds_call ≡ passed_holds_call p
passed-holds =
    ind-Passed IsFormed IsPassedSo IsJoined
    (λ x y is. subst (λ (z : Expr-F Expr Passed Link). IsFormed (roll-Expr z)) is (rolled-form (bare_expr y) (λ ordinal. form-layer ordinal y) (holds-layer y)))
    (λ x y is. subst (λ (z : Passed-F Expr Passed Link). IsPassedSo (roll-Passed z)) is (rolled-passed_form (bare_passed y) (passed-layer y)))
    (λ x y is. subst (λ (z : Link-F Expr Passed Link). IsJoined (roll-Link z)) is
    (rolled-operand (bare_link y) (λ ordinal. operand-layer ordinal y) y.operand.1.holds))

-- the bound of the form of an expression
pub bound-same : (ordinal : ℕ → Bool) (version : Version) (e : Expr) → walk.form_by ordinal version (piece_of e) ≡ bound_form ordinal version e
bound-same ordinal version e = ap (bound_of version) ((form-same e).form ordinal)

-- a whole value holds a call, or expressions, where the walk knows it
pub pieces-hold : (expressions : List Expr) → walk.hold_call (map piece_of expressions) ≡ hold_call expressions
pieces-hold [] = refl
pieces-hold (one ∷ expressions) = either (form-same one).holds (pieces-hold expressions)

pub whole-holds : (value : Whole) (expressions : List Expr)
    → walk.hold_call (whole_indexes value (map piece_of expressions)) ≡ whole_holds_call value expressions
whole-holds (Text number text) expressions = refl
whole-holds (VariableOf access type_id cells defined) expressions = pieces-hold expressions

-- index expressions hold a call where the walk knows it
pub indexes-hold : (indexes : List Expr) → walk.hold_call (walk.index_pieces indexes) ≡ hold_call indexes
indexes-hold indexes = pieces-hold indexes
