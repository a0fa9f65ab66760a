-- The formal parameters with their actual ones, from a place on.
use Rattle.std.proofs.Common.{arith, ◌≡◌, ◌∙◌, sym, ap, ap₂, refl, ℕ, ◌+◌, ◌<◌, ◌≤◌, Bool, true, false, cond, nat_eq, List, [], ◌∷◌, length, map, drop, get_or}
use Rattle.std.proofs.Common.{Option}
use Rattle.std.proofs.Common.{inl, inr, min}
use Rattle.std.proofs.lemmas.Bool.{cases_lt}
use Rattle.std.proofs.lemmas.List.{drop_all, drop_more}
use Rattle.std.proofs.lemmas.Option.{slice_get_cases}
use Rattle.checker_calls.specs.declared.actuals.Actual.{Actual as KeptActual}
use Rattle.checker_calls.specs.Actuals.{Actual, Binding, actual_of, bound_to}
use Rattle.checker_calls.specs.View.{said_actual}

abbrev bound_from : List ℕ → List KeptActual → ℕ → List Binding
bound_from roots actuals i = bound_to (drop i roots) (map said_actual (drop i actuals))

none-bound : (roots : List ℕ) → bound_to roots [] ≡ []
none-bound [] = refl
none-bound (root ∷ roots) = refl

bound-past : (roots : List ℕ) (actuals : List KeptActual) (i : ℕ) → length actuals ≤ i → bound_from roots actuals i ≡ []
bound-past roots actuals i past = ap (λ some. bound_to (drop i roots) (map said_actual some)) (drop_all i actuals past) ∙ none-bound (drop i roots)

-- none is left
pub bound-end : (roots : List ℕ) (actuals : List KeptActual) (i n : ℕ) → n ≡ min (length roots) (length actuals) → n ≤ i
    → [] ≡ bound_from roots actuals i
bound-end roots actuals i n is behind =
    elim (cases_lt i (length roots)) [
      | inl inside ↦ sym (bound-past roots actuals i (omega (arith, is, behind, inside)))
      | inr past ↦ sym (ap (λ some. bound_to some (map said_actual (drop i actuals))) (drop_all i roots past))
    ]

-- the next one, and those behind it
bound-next : (roots : List ℕ) (actuals : List KeptActual) (i : ℕ) (actual : KeptActual) → i < length roots → i < length actuals
    → actual ≡ get_or actuals i actual
    → bound_from roots actuals i ≡ record { root = get_or roots i 0; actual = said_actual actual } ∷ bound_from roots actuals (i + 1)
bound-next roots actuals i actual inside within is =
    ap₂ (λ some others. bound_to some (map said_actual others)) (drop_more roots i 0 inside) (drop_more actuals i actual within)
    ∙ ap (λ one. bound_to (get_or roots i 0 ∷ drop (i + 1) roots) (said_actual one ∷ map said_actual (drop (i + 1) actuals))) (sym is)

unless-first : (same : Bool) (first rest : Option Actual) → same ≡ false → cond same first rest ≡ rest
unless-first false first rest is = refl
unless-first true first rest is = absurd (cc)

-- a formal parameter that isn't the next one is one of those behind it
pub actual-next : (roots : List ℕ) (actuals : List KeptActual) (i root : ℕ) (all : Option Actual) → i < length roots
    → nat_eq (get_or roots i 0) root ≡ false
    → actual_of (bound_from roots actuals i) root ≡ all → actual_of (bound_from roots actuals (i + 1)) root ≡ all
actual-next roots actuals i root all inside other is =
    elim (slice_get_cases actuals i).1 [
      | inl found ↦
          sym (ap (λ some. actual_of some root) (bound-next roots actuals i found.0 inside found.1 (sym found.3))
          ∙ unless-first (nat_eq (get_or roots i 0) root) _ (actual_of (bound_from roots actuals (i + 1)) root) other)
          ∙ is
      | inr past ↦
          ap (λ some. actual_of some root)
          (bound-past roots actuals (i + 1) (omega (arith, past.0)) ∙ sym (bound-past roots actuals i past.0))
          ∙ is
    ]
