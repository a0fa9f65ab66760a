-- Bound forms: expressions of constants alone, entire ordinal variables, and such a variable plus or minus such a
-- constant (ISO 7185:1990, 6.7.1, 6.7.2.2, 6.6.6). It says nothing of expressions that have the same value in another
-- form.
use Rattle.std.specs.Prelude.{ℕ, ℤ, pos, ◌+ℤ◌, ◌-ℤ◌, ◌*ℤ◌, neg_ℤ, int_div, int_le, Bool, true, List, [], ◌∷◌, Option}
use Rattle.std.specs.Prelude.{Some, None, if◌then◌else◌, fold}
use Rattle.std.specs.Int.{int_rem_euclid}
use Rattle.std.specs.Ordering.{int_eq}
use Rattle.typed_tree.specs.declared.tree.Selector.{Selector}
use Rattle.typed_tree.specs.declared.tree.Monadic.{Monadic}
use Rattle.typed_tree.specs.declared.tree.Monadic.TheVariants as monadic
use Rattle.typed_tree.specs.declared.tree.Calculation.TheVariants as calculation
use Rattle.typed_tree.specs.declared.tree.Dyadic.{Dyadic}
use Rattle.typed_tree.specs.declared.tree.Dyadic.TheVariants as dyadic
use Rattle.typed_tree.specs.Accesses.{Origin, AtVariable, AtRecord}
use Rattle.domain.specs.Versions.{has}
use Rattle.domain.specs.declared.versions.Extension.TheVariants.{Constants}
use Rattle.domain.specs.declared.versions.Version.{Version}
use Rattle.checker_state.specs.Bounds.{Bound, constant, plus}
use Rattle.checker_state.specs.declared.forms.Form.{Form}
use Rattle.checker_state.specs.declared.forms.Form.TheVariants.{Fixed, Entire, Moved, Other}
use Rattle.checker_state.specs.declared.forms.Spelling.{Spelling}
use Rattle.checker_state.specs.declared.forms.Spelling.TheVariants.{Literal, Signed, Computed}
use Rattle.meaning.specs.Integers.{integer_or_none}
use Rattle.meaning.specs.Meaning.{calculated, shifted}

-- an entire variable that is told to be an ordinal; no component of one, and no field of a record of a with statement
abbrev pub access_form : (ordinal : ℕ → Bool) → Origin → List Selector → Form
access_form ordinal (AtVariable root) [] = if ordinal root then Entire root else Other
access_form ordinal (AtVariable root) (selector ∷ selectors) = Other
access_form ordinal (AtRecord root slot steps) selectors = Other

-- ---- operations on one operand

-- what an operation gives of a number, if its test is passed
abbrev pub result_of : Monadic → ℤ → ℤ
result_of (monadic.Plain does) n = calculated does n
result_of (monadic.Tested fits does) n = shifted does n

-- how the result is spelled: a constant that has no sign gets one, all else is calculated
abbrev pub operated_spelling : Monadic → Spelling → Spelling
operated_spelling (monadic.Plain calculation.Same) Literal = Signed
operated_spelling (monadic.Plain calculation.Negative) Literal = Signed
operated_spelling operation spelling = Computed

-- a number, if there is one
abbrev pub fixed_form : Spelling → Option ℤ → Form
fixed_form spelling None = Other
fixed_form spelling (Some n) = Fixed spelling n

-- an operation on one operand: of a constant its result, if that is one of integer
abbrev pub sign_form : Form → Monadic → Form
sign_form (Fixed spelling n) operation =
    fixed_form (operated_spelling operation spelling) (integer_or_none (result_of operation n))
sign_form form operation = Other

-- ---- operations on two operands

-- the quotient of two numbers, and the remainder, if there is one
abbrev pub quotient : ℤ → ℤ → Option ℤ
quotient a b = if int_eq b (pos 0) then None else integer_or_none (int_div a b)

abbrev pub remainder : ℤ → ℤ → Option ℤ
remainder a b = if int_le (pos 1) b then integer_or_none (int_rem_euclid a b) else None

-- what is calculated from two constants, if it is a number of integer
abbrev pub computed : Dyadic → ℤ → ℤ → Option ℤ
computed (dyadic.Plus overflow) a b = integer_or_none (a +ℤ b)
computed (dyadic.Minus overflow) a b = integer_or_none (a -ℤ b)
computed (dyadic.Times overflow) a b = integer_or_none (a *ℤ b)
computed (dyadic.Div by_zero) a b = quotient a b
computed (dyadic.Mod by_zero_or_less) a b = remainder a b
computed operation a b = None

-- a variable plus a number, if there is one
abbrev pub moved_form : ℕ → Spelling → Option ℤ → Form
moved_form root spelling None = Other
moved_form root spelling (Some n) = Moved root spelling n

-- a variable, and an operator and a constant behind it
abbrev pub offset_form : ℕ → Dyadic → Spelling → ℤ → Form
offset_form root (dyadic.Plus overflow) spelling n = Moved root spelling n
offset_form root (dyadic.Minus overflow) spelling n = moved_form root spelling (integer_or_none (neg_ℤ n))
offset_form root operation spelling n = Other

-- an operator between two operands
abbrev pub operated_form : Dyadic → (left right : Form) → Form
operated_form operation (Fixed spelling a) (Fixed other b) = fixed_form Computed (computed operation a b)
operated_form operation (Entire root) (Fixed spelling n) = offset_form root operation spelling n
operated_form operation left right = Other

-- an operator and the form of its right operand
pub record Operand : Type 0 where
  pub operation : Dyadic
  pub form : Form

-- an operator more
abbrev pub chain_step : Form → Operand → Form
chain_step left link = operated_form link.operation left link.form

-- the first operand of a chain, and its operators from left to right
abbrev pub chain_form : Form → List Operand → Form
chain_form first links = fold chain_step first links

-- ---- what a form is

-- the variable that a form is
abbrev pub root_of : Form → Option ℕ
root_of (Entire root) = Some root
root_of form = None

-- a number with this spelling stands in a bound form: one that is calculated does so where constants may be
abbrev pub stands : Version → Spelling → Bool
stands version Computed = has version Constants
stands version spelling = true

-- the bound of a form, if it is a bound form by the rules of a version
abbrev pub bound_of : Version → Form → Option Bound
bound_of version (Fixed spelling n) = if stands version spelling then Some (constant n) else None
bound_of version (Entire root) = Some (plus root (pos 0))
bound_of version (Moved root spelling n) = if stands version spelling then Some (plus root n) else None
bound_of version Other = None
