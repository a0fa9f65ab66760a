-- An ordinal or a set by a test of what an expression is: what typing answers, and that it is one.
use Rattle.std.proofs.Common.{◌≡◌, Bool, true, false, List, Option, Some, None, Result, Ok, Err, IfOk, inr, refl, sym, ap, ◌∙◌}
use Rattle.std.specs.Prelude.{MatchResult}
use Rattle.std.specs.Option.{ok_or}
use Rattle.place.specs.declared.Place.{Place}
use Rattle.syntax_tree.specs.declared.Operator.{Operator}
use Rattle.types.specs.Forms.{Form}
use Rattle.typed_tree.specs.declared.fault.TypeFault.{TypeFault}
use Rattle.typed_tree.specs.declared.tree.Expr.{Expr}
use Rattle.typed_tree.specs.declared.tree.Scalar.TheVariants as scalar
use Rattle.typed_tree.specs.Kinds.{held_by, is_ordinal_expr}
use Rattle.typed_tree.specs.Look.{look_expr}
use Rattle.typing_rules.specs.declared.typed.Typed.{Typed}
use Rattle.typing_rules.specs.declared.typed.TypedValue.{TypedValue}
use Rattle.typing_rules.specs.declared.typed.TypedValue.TheVariants as typed
use Rattle.typing_rules.specs.Checked.{Checked, and_then, fits}
use Rattle.typing_rules.specs.Operators.{result_of}
use Rattle.typing_rules.specs.Typed.{is_scalar_value}
use Rattle.typing.specs.Passing.{Passed, Passing, After, after, ◌>>?◌}
use Rattle.typing.specs.Outcomes.{Makes}
use Rattle.expression_resolver.specs.declared.typed.TypedExpr.{TypedExpr}
use Rattle.expression_resolver.specs.Made.{typed_of}
use Rattle.expression_resolver.specs.Values.{IsScalarOf, look_value, scalar_of, value_of}
use Rattle.expression_resolver.proofs.Operands.{held_as}

-- what is told of it, unless it is refused
pub if_told : {A : Type 0} (P : Type 0) (told : Checked A) → ((a : A) → told ≡ Ok a → P) → IfOk told (λ _. P)
if_told P (Ok a) so = so a refl
if_told P (Err why) so = tt

pub told_some : {A : Type 0} (found : Option A) (why : TypeFault) (one : A) → ok_or found why ≡ Ok one → found ≡ Some one
told_some (Some a) why one is = cc
told_some None why one is = absurd cc

pub fits_so : {A : Type 0} (test : Bool) (place : Place) (a b : A) → fits test place a ≡ Ok b → test ≡ true
fits_so true place a b is = refl
fits_so false place a b is = absurd cc

-- a result takes two ordinals or two sets
pub result_scalar : (operator : Operator) (left right result : TypedValue) → result_of operator left right ≡ Some result → is_scalar_value right ≡ true
result_scalar operator (typed.Ordinal id) (typed.Ordinal other) result is = refl
result_scalar operator (typed.Set base) (typed.Set other) result is = refl
result_scalar operator (typed.Ordinal id) (typed.Set other) result is = absurd cc
result_scalar operator (typed.Ordinal id) (typed.Text other length) result is = absurd cc
result_scalar operator (typed.Ordinal id) (typed.Whole other cells) result is = absurd cc
result_scalar operator (typed.Set base) (typed.Ordinal other) result is = absurd cc
result_scalar operator (typed.Set base) (typed.Text other length) result is = absurd cc
result_scalar operator (typed.Set base) (typed.Whole other cells) result is = absurd cc
result_scalar operator (typed.Text id length) right result is = absurd cc
result_scalar operator (typed.Whole id cells) right result is = absurd cc

module _ {A : Type 0} (made : TypedExpr) (told : Checked A) where
  abbrev pub Taken : Result (A × Expr) TypeFault → Type 0
  Taken result = MatchResult result (λ one. (told ≡ Ok one.0) × IsScalarOf made.value one.1) (λ why. told ≡ Err why)

  -- a test of an expression, and then the ordinal or the set that it is
  pub scalar_tested : (p : Passing Typed) (test : List Form → Typed → Checked A) (old now : Passed) (result : Result (A × Expr) TypeFault)
      → p old ≡ Ok (after (typed_of made) (look_value made.value) now) → told ≡ test now.types (typed_of made) → Taken result
      → Makes (λ one. one.0) (λ one. look_expr one.1) ((p >>? test) old) result now
  scalar_tested p test old now (Ok one) passes is so =
      ap (λ r. and_then r (λ a. and_then (test a.passed.types a.answer) (λ b. Ok (after b a.look a.passed)))) passes
      ∙ ap (λ r. and_then r (λ b. Ok (after b (look_value made.value) now))) (sym is ∙ so.0)
      ∙ ap (λ look. Ok (after one.0 look now)) so.1.looks
  scalar_tested p test old now (Err why) passes is so = inr (
      ap (λ r. and_then r (λ a. and_then (test a.passed.types a.answer) (λ b. Ok (after b a.look a.passed)))) passes
      ∙ ap (λ r. and_then r (λ b. Ok (after b (look_value made.value) now))) (sym is ∙ so))

  -- an ordinal, where the test takes these alone
  pub ordinal_taken : (result : Result (A × Expr) TypeFault) → Taken result
      → ((a : A) → told ≡ Ok a → (is_scalar_value (value_of made.value) ≡ true) × (scalar_of (value_of made.value) ≡ scalar.Ordinal))
      → IfOk result (λ one. is_ordinal_expr one.1 ≡ true)
  ordinal_taken (Ok one) so ordinal = held_as scalar.Ordinal (value_of made.value) (held_by one.1) (ordinal one.0 so.0).1 so.1.held
  ordinal_taken (Err why) so ordinal = tt
