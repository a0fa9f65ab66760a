-- The one actual of a function.
use Rattle.std.proofs.Common.{◌≡◌, List, [], ◌∷◌, length, map, get_or, option_map, Err, refl, sym, ap, arith}
use Rattle.place.specs.declared.Place.{Place}
use Rattle.syntax_tree.specs.declared.Actual.{Actual}
use Rattle.syntax_tree.specs.declared.Expr.TheViews.{out-Actual}
use Rattle.typed_tree.specs.declared.fault.TypeFault.TheVariants as fault
use Rattle.typing.specs.Expressions.{expression, written_actual, only, without_width}
use Rattle.typing.proofs.Written.{typing_actual}

pub one_alone : {A : Type 0} (xs : List A) (x : A) → length xs ≡ 1 → x ≡ get_or xs 0 x → xs ≡ x ∷ []
one_alone [] x one is = absurd (omega (arith, one))
one_alone (first ∷ []) x one is = ap (λ a. a ∷ []) (sym is)
one_alone (first ∷ second ∷ rest) x one is = absurd (omega (arith, one))

pub only_is : (place : Place) (actual : Actual)
    → only place (map written_actual (actual ∷ []))
    ≡ without_width place (expression (out-Actual actual).value) (option_map expression (out-Actual actual).width)
only_is place actual = ap (λ a. only place (a ∷ [])) (typing_actual actual)

pub not_one : (place : Place) (actuals : List Actual) → ¬ (length actuals ≡ 1) → only place (map written_actual actuals) ≡ Err (fault.WrongParameters place)
not_one place [] several = refl
not_one place (first ∷ []) several = absurd (several refl)
not_one place (first ∷ second ∷ rest) several = refl

-- all of these
pub ruleset only_one = (one_alone, only_is, not_one)
