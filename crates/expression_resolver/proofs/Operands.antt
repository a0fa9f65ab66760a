-- The operands of operators and relations, and values that are assigned: which of them are ordinals and which are sets.
use Rattle.std.proofs.Common.{◌≡◌, ℕ, ◌&&◌, Bool, true, false, if◌then◌else◌, List, [], ◌∷◌, ◌++◌, map, Option, Some, None, is_some, Ok, Err, refl, sym, ap}
use Rattle.std.proofs.Common.{append-nil, ap₂, subst, Box, Vec, ◌∙◌}
use Rattle.std.specs.Prelude.{flat_map}
use Rattle.std.specs.declared.alloc.Global.{Global}
use Rattle.std.specs.Option.{option_and_then, option_map}
use Rattle.std.proofs.lemmas.List.{map-append}
use Rattle.place.specs.declared.Place.{Place}
use Rattle.syntax_tree.specs.declared.Operator.{Operator}
use Rattle.syntax_tree.specs.declared.Operator.TheVariants as op
use Rattle.syntax_tree.specs.declared.RelationalOperator.{RelationalOperator}
use Rattle.syntax_tree.specs.declared.RelationalOperator.TheVariants as relational
use Rattle.types.specs.Forms.{Form}
use Rattle.types.specs.Types.{are_compatible_sets, form_at, form_kind, form_range, is_assignable, joined_base, kind_of, kind_range, range_of}
use Rattle.types.specs.declared.form.OrdinalRange.{OrdinalRange}
use Rattle.types.specs.declared.form.TypeId.{TypeId}
use Rattle.types.specs.declared.form.TypeKind.{TypeKind}
use Rattle.types.specs.declared.form.TypeKind.TheVariants as kind_of_type
use Rattle.types.specs.declared.sets.SetBase.{SetBase}
use Rattle.scopes.specs.declared.denotation.RequiredFunction.{RequiredFunction}
use Rattle.typed_tree.specs.declared.tree.Dyadic.{Dyadic}
use Rattle.typed_tree.specs.declared.tree.Dyadic.TheVariants as dyadic
use Rattle.typed_tree.specs.declared.tree.Expr.{Expr}
use Rattle.typed_tree.specs.declared.tree.Expr.TheVariants as tree
use Rattle.typed_tree.specs.declared.tree.Expr.TheOpen as layer
use Rattle.typed_tree.specs.declared.tree.Expr.TheViews.{roll-Link}
use Rattle.typed_tree.specs.declared.tree.Link.{Link}
use Rattle.typed_tree.specs.declared.tree.Monadic.{Monadic}
use Rattle.typed_tree.specs.declared.tree.Passed.{Passed as PassedOne}
use Rattle.typed_tree.specs.declared.tree.RangeTest.{RangeTest}
use Rattle.typed_tree.specs.declared.tree.Relation.{Relation}
use Rattle.typed_tree.specs.declared.tree.Relation.TheVariants as relate
use Rattle.typed_tree.specs.declared.tree.Scalar.{Scalar}
use Rattle.typed_tree.specs.declared.tree.Scalar.TheVariants as scalar
use Rattle.typed_tree.specs.declared.tree.SetRelation.{SetRelation}
use Rattle.typed_tree.specs.declared.tree.SetRelation.TheVariants as relate_sets
use Rattle.typed_tree.specs.Kinds.{Held, given, held_by, held_where, is_held, is_ordinal_expr, links_held, taken_left, taken_right}
use Rattle.typed_tree.specs.Look.{Begins, Compared, Ends, Look, Operator as OperatorMark, look_expr, look_link}
use Rattle.typed_tree.proofs.Looks.{look_chain, look_linked}
use Rattle.typed_tree.specs.Tests.{of_one}
use Rattle.typing.specs.declared.functions.BegunFunction.{BegunFunction}
use Rattle.typing_rules.specs.declared.typed.Typed.{Typed}
use Rattle.typing_rules.specs.declared.typed.TypedValue.{TypedValue}
use Rattle.typing_rules.specs.declared.typed.TypedValue.TheVariants as typed
use Rattle.typing.specs.Functions.{applied, applied_to}
use Rattle.typing.specs.Passing.{Passed, After, after, behind_marks, pure}
use Rattle.typing_rules.specs.Checked.{Checked, and_then}
use Rattle.typing_rules.specs.Checked.{or_mismatch}
use Rattle.typing.specs.Expressions.{compares}
use Rattle.typing_rules.specs.Targets.{Copy, fitting_members, fitting_value}
use Rattle.typing_rules.specs.Typed.{is_ordinal_of, is_scalar_value}
use Rattle.typing_rules.specs.Operators.{may_compare, may_contain, may_relate}
use Rattle.typing.specs.Expressions.{operation, operation_or}
use Rattle.typing_rules.specs.Operators.{member_of, member_type, member_with_site, operand_type}
use Rattle.typing_rules.specs.Targets.{members_test}
use Rattle.typing_rules.specs.Typed.{ordinal_type}
use Rattle.typing_rules.specs.Operators.{relation_behind_value}
use Rattle.typing.specs.Expressions.{tested}
use Rattle.typing_rules.specs.Operators.{relation_of, result_of, set_operation, set_operation_behind, set_relation_of}
use Rattle.typing_rules.specs.Targets.{whole_copy}
use Rattle.expression_resolver.specs.Made.{AreHeldLinks, held_behind, is_such, look_compared, relates}
use Rattle.expression_resolver.specs.Values.{scalar_of, tested_as}
use Rattle.expression_resolver.proofs.HeldForms.{held_chain, held_linked, links_more, same_scalar}

-- how two strings look that are compared
pub compares_look : (left right : Option Copy) (now : Passed) → compares left right now ≡ Ok (after tt (look_compared left right) now)
unfolding compares
compares_look None right now = refl
compares_look (Some left) None now = refl
compares_look (Some left) (Some right) now = refl

-- an answer, by its outcome
answers : {A : Type 0} (a b : After A) → ◌≡◌ {A = Checked (After A)} (Ok a) (Ok b) → a.answer ≡ b.answer
answers a b is = let same : a ≡ b = cc in ap (λ x. x.answer) same

-- ---- operators

-- what an operator takes and gives, behind a left operand
pub record OperatorTakes (operation : Dyadic) (first second gives : Scalar) : Type 0 where
  pub left : taken_left operation ≡ first
  pub right : taken_right operation ≡ second
  pub result : given operation ≡ gives

abbrev ordinals : Dyadic → Type 0
ordinals does = OperatorTakes does scalar.Ordinal scalar.Ordinal scalar.Ordinal

all_ordinals : (does : Dyadic) → taken_left does ≡ scalar.Ordinal → taken_right does ≡ scalar.Ordinal → given does ≡ scalar.Ordinal → ordinals does
all_ordinals does left right result = record { left = left; right = right; result = result }

tested_takes : (does : ℕ → Dyadic) → ((id : ℕ) → ordinals (does id)) → (outcome : Checked (After ℕ)) (found : Dyadic) (look : Look) (new : Passed)
    → and_then outcome (λ a. behind_marks a.look (pure (does a.answer) a.passed)) ≡ Ok (after found look new) → ordinals found
tested_takes does so (Ok a) found look new is = subst ordinals (answers (after (does a.answer) (a.look ++ []) a.passed) (after found look new) is) (so a.answer)
tested_takes does so (Err why) found look new is = absurd cc

operation_takes : (operator : Operator) (place : Place) (old : Passed) (found : Dyadic) (look : Look) (new : Passed)
    → operation operator place old ≡ Ok (after found look new) → ordinals found
unfolding operation tested
operation_takes op.Plus place old found look new is = tested_takes dyadic.Plus (λ id. all_ordinals _ refl refl refl) _ found look new is
operation_takes op.Minus place old found look new is = tested_takes dyadic.Minus (λ id. all_ordinals _ refl refl refl) _ found look new is
operation_takes op.Times place old found look new is = tested_takes dyadic.Times (λ id. all_ordinals _ refl refl refl) _ found look new is
operation_takes op.Div place old found look new is = tested_takes dyadic.Div (λ id. all_ordinals _ refl refl refl) _ found look new is
operation_takes op.Mod place old found look new is = tested_takes dyadic.Mod (λ id. all_ordinals _ refl refl refl) _ found look new is
operation_takes op.Or place old found look new is =
    subst ordinals (answers (after dyadic.Or [] old) (after found look new) is) (all_ordinals dyadic.Or refl refl refl)
operation_takes op.And place old found look new is =
    subst ordinals (answers (after dyadic.And [] old) (after found look new) is) (all_ordinals dyadic.And refl refl refl)

abbrev sets : Dyadic → Type 0
sets does = OperatorTakes does scalar.Set scalar.Set scalar.Set

-- the operation of an operator, and the result on two operands
pub record Links (operation : Dyadic) (left right result : TypedValue) : Type 0 where
  pub left_scalar : is_scalar_value left ≡ true
  pub right_scalar : is_scalar_value right ≡ true
  pub result_scalar : is_scalar_value result ≡ true
  pub takes : OperatorTakes operation (scalar_of left) (scalar_of right) (scalar_of result)

given_if : (test : Bool) (made result : TypedValue) → (if test then Some made else None) ≡ Some result → made ≡ result
given_if true made result is = cc
given_if false made result is = absurd cc

module _ (operator : Operator) (place : Place) (old : Passed) (found : Dyadic) (look : Look) (new : Passed) (result : TypedValue) where
  same_ordinals : (id other : TypeId) → ordinals found → typed.Ordinal (operand_type operator) ≡ result
      → Links found (typed.Ordinal id) (typed.Ordinal other) result
  same_ordinals id other takes same = subst (Links found (typed.Ordinal id) (typed.Ordinal other)) same (record {
    left_scalar = refl;
    right_scalar = refl;
    result_scalar = refl;
    takes = takes;
  })

  same_sets : (does : Dyadic) (base other joined : SetBase) → sets does → does ≡ found → typed.Set joined ≡ result
      → Links found (typed.Set base) (typed.Set other) result
  same_sets does base other joined takes same is = subst (Links found (typed.Set base) (typed.Set other)) is (record {
    left_scalar = refl;
    right_scalar = refl;
    result_scalar = refl;
    takes = subst sets same takes;
  })

  of_sets : (base other : SetBase) (does : Option Dyadic) → ((one : Dyadic) → does ≡ Some one → sets one)
      → operation_or does operator place old ≡ Ok (after found look new)
      → (if is_some does && are_compatible_sets base other then Some (typed.Set (joined_base base other)) else None) ≡ Some result
      → Links found (typed.Set base) (typed.Set other) result
  unfolding operation_or
  of_sets base other None so is gives = absurd cc
  of_sets base other (Some does) so is gives =
      same_sets does base other (joined_base base other) (so does refl) (answers (after does [] old) (after found look new) is)
      (given_if (are_compatible_sets base other) _ result gives)

  by_operator : (one : Operator) (does : Dyadic) → set_operation one ≡ Some does → sets does
  by_operator op.Plus does is = let same : dyadic.Union ≡ does = cc in subst sets same (record { left = refl; right = refl; result = refl })
  by_operator op.Minus does is = let same : dyadic.Difference ≡ does = cc in subst sets same (record { left = refl; right = refl; result = refl })
  by_operator op.Times does is = let same : dyadic.Intersection ≡ does = cc in subst sets same (record { left = refl; right = refl; result = refl })
  by_operator op.Or does is = absurd cc
  by_operator op.Div does is = absurd cc
  by_operator op.Mod does is = absurd cc
  by_operator op.And does is = absurd cc

  pub links_of : (left right : TypedValue) → operation_or (set_operation_behind operator left) operator place old ≡ Ok (after found look new)
      → result_of operator left right ≡ Some result → Links found left right result
  unfolding operation_or
  links_of (typed.Ordinal id) (typed.Ordinal other) is gives =
      same_ordinals id other (operation_takes operator place old found look new is) (given_if _ _ result gives)
  links_of (typed.Set base) (typed.Set other) is gives = of_sets base other (set_operation operator) (by_operator operator) is gives
  links_of (typed.Ordinal id) (typed.Set other) is gives = absurd cc
  links_of (typed.Ordinal id) (typed.Text other length) is gives = absurd cc
  links_of (typed.Ordinal id) (typed.Whole other cells) is gives = absurd cc
  links_of (typed.Set base) (typed.Ordinal other) is gives = absurd cc
  links_of (typed.Set base) (typed.Text other length) is gives = absurd cc
  links_of (typed.Set base) (typed.Whole other cells) is gives = absurd cc
  links_of (typed.Text id length) right is gives = absurd cc
  links_of (typed.Whole id cells) right is gives = absurd cc

-- an operator takes its operands
pub takes_both : (operation : Dyadic) (left right result : Scalar) → OperatorTakes operation left right result → (a b : Held) → is_held left a ≡ true
    → is_held right b ≡ true → held_where (is_held (taken_left operation) a && is_held (taken_right operation) b) (given operation) ≡ Some result
takes_both operation left right result takes a b first second =
    ap₂ held_where
    (ap₂ (λ x y. x && y) (ap (λ one. is_held one a) takes.left ∙ first) (ap (λ one. is_held one b) takes.right ∙ second))
    takes.result

-- an operator with its right operand, as it is made
pub made_link : (link : layer.Link-F Expr PassedOne Link) (left right result : TypedValue) → Links link.operation left right result
    → is_held (scalar_of right) (held_by link.operand) ≡ true → AreHeldLinks left result (roll-Link link ∷ [])
made_link link left right result links operand = record {
  scalar = links.result_scalar ∙ sym links.left_scalar;
  held = λ before so.
      ap (is_held (scalar_of result)) (held_linked link before
      ∙ takes_both link.operation (scalar_of left) (scalar_of right) (scalar_of result) links.takes before (held_by link.operand) so operand)
      ∙ same_scalar (scalar_of result);
}

-- none, and one more behind others
pub no_links : (left : TypedValue) → AreHeldLinks left left []
no_links left = record { scalar = refl; held = λ before so. so }

pub more_links : (left between result : TypedValue) (links : List Link) (link : Link) → AreHeldLinks left between links
    → AreHeldLinks between result (link ∷ []) → AreHeldLinks left result (links ++ link ∷ [])
more_links left between result links link so_far one = record {
  scalar = one.scalar ∙ so_far.scalar;
  held = λ before so.
      ap (λ ls. is_held (scalar_of result) (links_held before ls)) (map-append held_behind links (link ∷ []))
      ∙ ap (is_held (scalar_of result)) (links_more before (map held_behind links) (held_behind link ∷ []))
      ∙ one.held (links_held before (map held_behind links)) (so_far.held before so);
}

-- ---- relations

module _ (types : List Form) where
  -- of two ordinals, or of two strings
  plain_relates : (relation : Relation) (left right : TypedValue) → scalar_of left ≡ scalar.Ordinal → may_compare types left right ≡ true
      → relates (dyadic.Relation relation) left right ≡ true
  plain_relates relation (typed.Ordinal id) (typed.Ordinal other) none may = refl
  plain_relates relation (typed.Ordinal id) (typed.Set other) none may = absurd cc
  plain_relates relation (typed.Ordinal id) (typed.Text other length) none may = absurd cc
  plain_relates relation (typed.Ordinal id) (typed.Whole other cells) none may = absurd cc
  plain_relates relation (typed.Set base) right none may = absurd cc
  plain_relates relation (typed.Text id length) (typed.Ordinal other) none may = absurd cc
  plain_relates relation (typed.Text id length) (typed.Set other) none may = absurd cc
  plain_relates relation (typed.Text id length) (typed.Text other more) none may = refl
  plain_relates relation (typed.Text id length) (typed.Whole other cells) none may = refl
  plain_relates relation (typed.Whole id cells) (typed.Ordinal other) none may = absurd cc
  plain_relates relation (typed.Whole id cells) (typed.Set other) none may = absurd cc
  plain_relates relation (typed.Whole id cells) (typed.Text other more) none may = refl
  plain_relates relation (typed.Whole id cells) (typed.Whole other more) none may = refl

  -- of two sets
  sets_relate : (relation : SetRelation) (base : SetBase) (right : TypedValue) → may_compare types (typed.Set base) right ≡ true
      → relates (dyadic.SetRelation relation) (typed.Set base) right ≡ true
  sets_relate relation base (typed.Ordinal other) may = absurd cc
  sets_relate relation base (typed.Set other) may = refl
  sets_relate relation base (typed.Text other length) may = absurd cc
  sets_relate relation base (typed.Whole other cells) may = absurd cc

  -- of an ordinal and a set
  member_relates : (left right : TypedValue) → may_contain left right ≡ true → relates dyadic.In left right ≡ true
  member_relates (typed.Ordinal id) (typed.Set base) may = refl
  member_relates (typed.Ordinal id) (typed.Ordinal other) may = absurd cc
  member_relates (typed.Ordinal id) (typed.Text other length) may = absurd cc
  member_relates (typed.Ordinal id) (typed.Whole other cells) may = absurd cc
  member_relates (typed.Set base) right may = absurd cc
  member_relates (typed.Text id length) right may = absurd cc
  member_relates (typed.Whole id cells) right may = absurd cc

  same_relation : (does found : Dyadic) (left right : TypedValue) → Some does ≡ Some found → relates does left right ≡ true → relates found left right ≡ true
  same_relation does found left right is so = let same : does ≡ found = cc in subst (λ d. relates d left right ≡ true) same so

  ordinal_relation : (operator : RelationalOperator) (found : Dyadic) (left right : Typed) → scalar_of left.value ≡ scalar.Ordinal
      → Some (relation_of operator) ≡ Some found → may_relate types operator left right ≡ true → relates found left.value right.value ≡ true
  ordinal_relation relational.In found left right none is may =
      same_relation dyadic.In found left.value right.value is (member_relates left.value right.value may)
  ordinal_relation relational.Equal found left right none is may =
      same_relation _ found left.value right.value is (plain_relates relate.Equal left.value right.value none may)
  ordinal_relation relational.NotEqual found left right none is may =
      same_relation _ found left.value right.value is (plain_relates relate.NotEqual left.value right.value none may)
  ordinal_relation relational.Less found left right none is may =
      same_relation _ found left.value right.value is (plain_relates relate.Less left.value right.value none may)
  ordinal_relation relational.Greater found left right none is may =
      same_relation _ found left.value right.value is (plain_relates relate.Greater left.value right.value none may)
  ordinal_relation relational.LessOrEqual found left right none is may =
      same_relation _ found left.value right.value is (plain_relates relate.LessOrEqual left.value right.value none may)
  ordinal_relation relational.GreaterOrEqual found left right none is may =
      same_relation _ found left.value right.value is (plain_relates relate.GreaterOrEqual left.value right.value none may)

  set_relation : (operator : RelationalOperator) (found : Dyadic) (base : SetBase) (site : Option ℕ) (right : Typed)
      → set_relation_of operator ≡ Some found → may_relate types operator (record { value = typed.Set base; site = site }) right ≡ true
      → relates found (typed.Set base) right.value ≡ true
  set_relation relational.In found base site right is may = absurd cc
  set_relation relational.Less found base site right is may = absurd cc
  set_relation relational.Greater found base site right is may = absurd cc
  set_relation relational.Equal found base site right is may =
      same_relation _ found (typed.Set base) right.value is (sets_relate relate_sets.Equal base right.value may)
  set_relation relational.NotEqual found base site right is may =
      same_relation _ found (typed.Set base) right.value is (sets_relate relate_sets.NotEqual base right.value may)
  set_relation relational.LessOrEqual found base site right is may =
      same_relation _ found (typed.Set base) right.value is (sets_relate relate_sets.Included base right.value may)
  set_relation relational.GreaterOrEqual found base site right is may =
      same_relation _ found (typed.Set base) right.value is (sets_relate relate_sets.Includes base right.value may)

  -- the relation that an operator tells takes the operands that the operator relates
  pub relates_both : (operator : RelationalOperator) (found : Dyadic) (left right : Typed) → relation_behind_value operator left.value ≡ Some found
      → may_relate types operator left right ≡ true → relates found left.value right.value ≡ true
  relates_both operator found left right is may = by left.value left.site is may
    where
      by : (value : TypedValue) (site : Option ℕ) → relation_behind_value operator value ≡ Some found
          → may_relate types operator (record { value = value; site = site }) right ≡ true → relates found value right.value ≡ true
      by (typed.Ordinal id) site is may = ordinal_relation operator found (record { value = typed.Ordinal id; site = site }) right refl is may
      by (typed.Text id length) site is may = ordinal_relation operator found (record { value = typed.Text id length; site = site }) right refl is may
      by (typed.Whole id cells) site is may = ordinal_relation operator found (record { value = typed.Whole id cells; site = site }) right refl is may
      by (typed.Set base) site is may = set_relation operator found base site right is may

-- a relation takes its scalar operands, and gives an ordinal
pub record Relates (operation : Dyadic) (left right : TypedValue) : Type 0 where
  pub right_scalar : is_scalar_value right ≡ true
  pub none : whole_copy left ≡ None
  pub takes : OperatorTakes operation (scalar_of left) (scalar_of right) scalar.Ordinal

module _ (left right : TypedValue) where
  such_scalar : (wanted : Scalar) (value : TypedValue) → is_such wanted value ≡ true → is_scalar_value value ≡ true
  such_scalar wanted (typed.Ordinal id) is = refl
  such_scalar wanted (typed.Set base) is = refl
  such_scalar wanted (typed.Text id length) is = absurd cc
  such_scalar wanted (typed.Whole id cells) is = absurd cc

  such_kind : (wanted : Scalar) (value : TypedValue) → is_such wanted value ≡ true → wanted ≡ scalar_of value
  such_kind scalar.Ordinal (typed.Ordinal id) is = refl
  such_kind scalar.Set (typed.Set base) is = refl
  such_kind scalar.Ordinal (typed.Set base) is = absurd cc
  such_kind scalar.Set (typed.Ordinal id) is = absurd cc
  such_kind wanted (typed.Text id length) is = absurd cc
  such_kind wanted (typed.Whole id cells) is = absurd cc

  such_whole : (wanted : Scalar) (value : TypedValue) → is_such wanted value ≡ true → whole_copy value ≡ None
  such_whole wanted (typed.Ordinal id) is = refl
  such_whole wanted (typed.Set base) is = refl
  such_whole wanted (typed.Text id length) is = absurd cc
  such_whole wanted (typed.Whole id cells) is = absurd cc

  relates_such : (operation : Dyadic) (wanted other : Scalar) → OperatorTakes operation wanted other scalar.Ordinal → is_such wanted left ≡ true
      → is_such other right ≡ true → Relates operation left right
  relates_such operation wanted other takes first second = record {
    right_scalar = such_scalar other right second;
    none = such_whole wanted left first;
    takes = record {
      left = takes.left ∙ such_kind wanted left first;
      right = takes.right ∙ such_kind other right second;
      result = takes.result;
    };
  }

  both : (a b : Bool) → (a && b) ≡ true → (a ≡ true) × (b ≡ true)
  both true true is = (refl, refl)
  both true false is = absurd cc
  both false b is = absurd cc

  plain_such : (relation : Relation) → is_scalar_value left ≡ true → (value other : TypedValue) → value ≡ left → other ≡ right
      → relates (dyadic.Relation relation) value other ≡ true → Relates (dyadic.Relation relation) left right
  plain_such relation is_one (typed.Ordinal id) (typed.Ordinal one) is also so =
      relates_such (dyadic.Relation relation) scalar.Ordinal scalar.Ordinal (record { left = refl; right = refl; result = refl })
      (ap (is_such scalar.Ordinal) (sym is)) (ap (is_such scalar.Ordinal) (sym also))
  plain_such relation is_one (typed.Ordinal id) (typed.Set base) is also so = absurd cc
  plain_such relation is_one (typed.Ordinal id) (typed.Text one length) is also so = absurd cc
  plain_such relation is_one (typed.Ordinal id) (typed.Whole one cells) is also so = absurd cc
  plain_such relation is_one (typed.Set base) other is also so = absurd cc
  plain_such relation is_one (typed.Text id length) other is also so = let same : false ≡ true = ap is_scalar_value is ∙ is_one in absurd cc
  plain_such relation is_one (typed.Whole id cells) other is also so = let same : false ≡ true = ap is_scalar_value is ∙ is_one in absurd cc

  pub relates_scalars : (operation : Dyadic) → relates operation left right ≡ true → is_scalar_value left ≡ true → Relates operation left right
  relates_scalars (dyadic.Relation relation) so is_one = plain_such relation is_one left right refl refl so
  relates_scalars (dyadic.SetRelation relation) so is_one =
      let two = both (is_such scalar.Set left) (is_such scalar.Set right) so in
      relates_such (dyadic.SetRelation relation) scalar.Set scalar.Set (record { left = refl; right = refl; result = refl }) two.0 two.1
  relates_scalars dyadic.In so is_one =
      let two = both (is_such scalar.Ordinal left) (is_such scalar.Set right) so in
      relates_such dyadic.In scalar.Ordinal scalar.Set (record { left = refl; right = refl; result = refl }) two.0 two.1
  relates_scalars other so is_one = absurd cc

-- as a relation of two ordinals or sets is made
module _ (link : layer.Link-F Expr PassedOne Link) (first : Box Expr Global) (rest : Vec Link Global) (are : rest.items ≡ roll-Link link ∷ []) where
  pub relation_held : (left right : TypedValue) → Relates link.operation left right → is_held (scalar_of left) (held_by first.value) ≡ true
      → is_held (scalar_of right) (held_by link.operand) ≡ true → is_ordinal_expr (tree.Chain first rest) ≡ true
  relation_held left right relates so also =
      ap (is_held scalar.Ordinal)
      (held_chain first rest ∙ ap (λ links. links_held (held_by first.value) (map held_behind links)) are
      ∙ held_linked link (held_by first.value)
      ∙ takes_both link.operation (scalar_of left) (scalar_of right) scalar.Ordinal relates.takes (held_by first.value) (held_by link.operand) so also)

  pub relation_looks : (copy other : Option Copy) → copy ≡ None
      → look_expr (tree.Chain first rest)
      ≡ Begins ∷ (look_expr first.value
      ++ (OperatorMark link.number link.operation ∷ (look_expr link.operand ++ (look_compared copy other ++ (Ends ∷ [])))))
  relation_looks copy other none =
      look_chain first rest
      ∙ ap (λ links. Begins ∷ (look_expr first.value ++ (flat_map look_link links ++ (Ends ∷ [])))) are
      ∙ ap (λ look. Begins ∷ (look_expr first.value ++ (look ++ (Ends ∷ [])))) (append-nil (look_link (roll-Link link)) ∙ look_linked link)
      ∙ ap (λ one. Begins ∷ (look_expr first.value
      ++ (OperatorMark link.number link.operation ∷ (look_expr link.operand ++ (look_compared one other ++ (Ends ∷ [])))))) (sym none)

-- a relation of structured operands is one of strings
pub record Compares (operation : Dyadic) (first second : TypedValue) : Type 0 where
  pub relation : Relation
  pub is : operation ≡ dyadic.Relation relation
  pub left : is_some (whole_copy first) ≡ true
  pub right : is_some (whole_copy second) ≡ true

pub relates_structured : (operation : Dyadic) (left right : TypedValue) → relates operation left right ≡ true → is_scalar_value left ≡ false
    → Compares operation left right
relates_structured operation (typed.Ordinal id) right so none = absurd cc
relates_structured operation (typed.Set base) right so none = absurd cc
relates_structured (dyadic.Relation relation) (typed.Text id length) right so none = record { relation = relation; is = refl; left = refl; right = by right so }
  where
    by : (value : TypedValue) → relates (dyadic.Relation relation) (typed.Text id length) value ≡ true → is_some (whole_copy value) ≡ true
    by (typed.Ordinal other) so = absurd cc
    by (typed.Set other) so = absurd cc
    by (typed.Text other more) so = refl
    by (typed.Whole other cells) so = refl
relates_structured (dyadic.Relation relation) (typed.Whole id cells) right so none = record { relation = relation; is = refl; left = refl; right = by right so }
  where
    by : (value : TypedValue) → relates (dyadic.Relation relation) (typed.Whole id cells) value ≡ true → is_some (whole_copy value) ≡ true
    by (typed.Ordinal other) so = absurd cc
    by (typed.Set other) so = absurd cc
    by (typed.Text other more) so = refl
    by (typed.Whole other more) so = refl
relates_structured (dyadic.SetRelation relation) (typed.Text id length) right so none = absurd cc
relates_structured (dyadic.SetRelation relation) (typed.Whole id cells) right so none = absurd cc
relates_structured dyadic.In (typed.Text id length) right so none = absurd cc
relates_structured dyadic.In (typed.Whole id cells) right so none = absurd cc
relates_structured other (typed.Text id length) right so none = absurd cc
relates_structured other (typed.Whole id cells) right so none = absurd cc

-- how they look that are compared
pub compared_are : (left right : TypedValue) (copy other : Copy) → whole_copy left ≡ Some copy → whole_copy right ≡ Some other
    → look_compared (whole_copy left) (whole_copy right) ≡ Compared copy.source copy.cells other.source other.cells ∷ []
compared_are left right copy other is also = ap₂ look_compared is also

-- ---- values that are assigned

module _ (types : List Form) (target : TypeId) (range : OrdinalRange) where
  assigned_if : (test : Bool) (found : Option OrdinalRange) → (if test then found else None) ≡ Some range → found ≡ Some range
  assigned_if true found is = is
  assigned_if false found is = absurd cc

  ranged : (kind : TypeKind) → kind_range kind ≡ Some range → scalar.Ordinal ≡ tested_as (Some kind)
  ranged (kind_of_type.Ordinal own) is = refl
  ranged (kind_of_type.Set base members) is = absurd cc
  ranged kind_of_type.Structured is = absurd cc

  ordinal_target : (form : Option Form) → option_and_then form_range form ≡ Some range → scalar.Ordinal ≡ tested_as (option_map form_kind form)
  ordinal_target None is = absurd cc
  ordinal_target (Some form) is = ranged (form_kind form) is

  set_target : (base : SetBase) (kind : Option TypeKind) → fitting_members base kind ≡ Some range → scalar.Set ≡ tested_as kind
  set_target base None is = absurd cc
  set_target base (Some (kind_of_type.Ordinal own)) is = absurd cc
  set_target base (Some (kind_of_type.Set other members)) is = refl
  set_target base (Some kind_of_type.Structured) is = absurd cc

  -- a scalar value that is assigned to a target is tested as such a one
  pub fitting_kind : (value : TypedValue) → fitting_value types target value ≡ Some range
      → (is_scalar_value value ≡ true) × (scalar_of value ≡ tested_as (kind_of types target))
  fitting_kind (typed.Ordinal id) is = (refl, ordinal_target (form_at types target) (assigned_if (is_assignable types target id) (range_of types target) is))
  fitting_kind (typed.Set base) is = (refl, set_target base (kind_of types target) is)
  fitting_kind (typed.Text id length) is = absurd cc
  fitting_kind (typed.Whole id cells) is = absurd cc

-- ---- ordinals

pub ordinal_scalar : (value : TypedValue) (id : TypeId) → ordinal_type value ≡ Some id → (is_scalar_value value ≡ true) × (scalar_of value ≡ scalar.Ordinal)
ordinal_scalar (typed.Ordinal id) other is = (refl, refl)
ordinal_scalar (typed.Set base) other is = absurd cc
ordinal_scalar (typed.Text id length) other is = absurd cc
ordinal_scalar (typed.Whole id cells) other is = absurd cc

pub tested_ordinal : (test : TypeId → Bool) (t : Typed) → is_ordinal_of test t ≡ true → (is_scalar_value t.value ≡ true) × (scalar_of t.value ≡ scalar.Ordinal)
tested_ordinal test t is = by t.value is
  where
    by : (value : TypedValue) → of_one test (ordinal_type value) ≡ true → (is_scalar_value value ≡ true) × (scalar_of value ≡ scalar.Ordinal)
    by (typed.Ordinal id) is = (refl, refl)
    by (typed.Set base) is = absurd cc
    by (typed.Text id length) is = absurd cc
    by (typed.Whole id cells) is = absurd cc

-- the argument of a required function
pub applied_ordinal : (types : List Form) (f : RequiredFunction) (begun : BegunFunction) (place : Place) (t : Typed) (made : Monadic × TypeId)
    → applied types f begun place t ≡ Ok made → (is_scalar_value t.value ≡ true) × (scalar_of t.value ≡ scalar.Ordinal)
applied_ordinal types f begun place t made is = by t.value is
  where
    by : (value : TypedValue) → applied_to types f begun place value ≡ Ok made → (is_scalar_value value ≡ true) × (scalar_of value ≡ scalar.Ordinal)
    by (typed.Ordinal id) is = (refl, refl)
    by (typed.Set base) is = absurd cc
    by (typed.Text id length) is = absurd cc
    by (typed.Whole id cells) is = absurd cc

-- a member of a set
pub member_ordinal : (host : Option TypeId) (place : Place) (t : Typed) (made : TypeId) → member_of host place t ≡ Ok made
    → (is_scalar_value t.value ≡ true) × (scalar_of t.value ≡ scalar.Ordinal)
member_ordinal host place t made is = by t.value is
  where
    by : (value : TypedValue) → member_type host place (ordinal_type value) ≡ Ok made → (is_scalar_value value ≡ true) × (scalar_of value ≡ scalar.Ordinal)
    by (typed.Ordinal id) is = (refl, refl)
    by (typed.Set base) is = absurd cc
    by (typed.Text id length) is = absurd cc
    by (typed.Whole id cells) is = absurd cc

pub sited_ordinal : (host : Option TypeId) (place : Place) (t : Typed) (made : ℕ × TypeId) → member_with_site host place t ≡ Ok made
    → (is_scalar_value t.value ≡ true) × (scalar_of t.value ≡ scalar.Ordinal)
sited_ordinal host place t made is = by (member_of host place t) refl is
  where
    by : (found : Checked TypeId) → member_of host place t ≡ found
        → and_then found (λ type_id. and_then (or_mismatch place t.site) λ id. Ok (id, type_id)) ≡ Ok made
        → (is_scalar_value t.value ≡ true) × (scalar_of t.value ≡ scalar.Ordinal)
    by (Ok type_id) there is = member_ordinal host place t type_id there
    by (Err why) there is = absurd cc

-- an ordinal of a kind of value that is one
pub held_as : (wanted : Scalar) (value : TypedValue) (made : Held) → scalar_of value ≡ wanted → is_held (scalar_of value) made ≡ true
    → is_held wanted made ≡ true
held_as wanted value made is so = ap (λ one. is_held one made) (sym is) ∙ so

-- ---- the test of a set

pub members_tested : (types : List Form) (target : TypeId) (place : Place) (t : Typed) (made : RangeTest) → members_test types target place t ≡ Ok made
    → (made.tests ≡ scalar.Set) × (fitting_value types target t.value ≡ Some made.range)
members_tested types target place t made is = by (fitting_value types target t.value) t.site refl is
  where
    by : (found : Option OrdinalRange) (site : Option ℕ) → fitting_value types target t.value ≡ found
        → and_then (or_mismatch place found) (λ range. and_then (or_mismatch place site) λ id.
        Ok (record { site = id; tests = scalar.Set; range = range })) ≡ Ok made
        → (made.tests ≡ scalar.Set) × (fitting_value types target t.value ≡ Some made.range)
    by (Some range) (Some id) found is =
        let same : ◌≡◌ {A = RangeTest} (record { site = id; tests = scalar.Set; range = range }) made = cc in
        (ap (λ (r : RangeTest). r.tests) (sym same), found ∙ ap (λ (r : RangeTest). Some r.range) same)
    by (Some range) None found is = absurd cc
    by None site found is = absurd cc
