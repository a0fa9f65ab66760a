-- Forms that change none of the control variables of the for statements round them.
use Rattle.std.proofs.Common.{◌≡◌, ℕ, Bool, true, false, not, nat_eq, if◌then◌else◌, List, [], ◌∷◌, ◌++◌, Option, Some, None, refl, ap, ◌∙◌}
use Rattle.std.specs.List.{list_all, list_any}
use Rattle.std.specs.Option.{option_and_then}
use Rattle.typed_tree.specs.Look.{Look, Mark, Controls, ForEnds}
use Rattle.typed_tree.specs.Threats.{is_none_of}
use Rattle.typing_laws.specs.Controls.{is_bracket, mark_behind, mark_changes, spared_behind}

-- these are control variables of for statements round a place
abbrev pub AreHeld : List ℕ → List ℕ → Type 0
AreHeld roots controls =
    (root : ℕ) → list_any (λ one. nat_eq one root) roots ≡ true → list_any (λ control. nat_eq control root) controls ≡ true

pub none_held : (controls : List ℕ) → AreHeld [] controls
none_held controls root is = absurd cc

-- what is none of those is none of these
pub apart_held : (roots controls : List ℕ) (root : ℕ) → AreHeld roots controls → not (list_any (λ control. nat_eq control root) controls) ≡ true
    → is_none_of roots root ≡ true
apart_held roots controls root held apart =
    by (list_any (λ one. nat_eq one root) roots) (list_any (λ control. nat_eq control root) controls) (held root) apart
  where
    by : (own there : Bool) → (own ≡ true → there ≡ true) → not there ≡ true → not own ≡ true
    by false there held apart = refl
    by true true held apart = absurd cc
    by true false held apart = let no = held refl in absurd cc

-- a form that changes none of them leaves them
pub plain_mark : (one : Mark) (roots : List ℕ) → is_bracket one ≡ false → list_all (is_none_of roots) (mark_changes one) ≡ true
    → mark_behind one roots ≡ Some roots
plain_mark (Controls control) roots plain spares = absurd cc
plain_mark ForEnds roots plain spares = absurd cc
plain_mark other roots plain spares = ap (λ (b : Bool). if b then Some roots else None) spares

pub one_mark : (one : Mark) (roots : List ℕ) → is_bracket one ≡ false → list_all (is_none_of roots) (mark_changes one) ≡ true
    → spared_behind roots (one ∷ []) ≡ Some roots
one_mark one roots plain spares = ap (option_and_then (λ (more : List ℕ). spared_behind more [])) (plain_mark one roots plain spares)

pub spared_append : (roots : List ℕ) (look more : Look)
    → spared_behind roots (look ++ more) ≡ option_and_then (λ (behind : List ℕ). spared_behind behind more) (spared_behind roots look)
spared_append roots [] more = refl
spared_append roots (mark ∷ look) more = by (mark_behind mark roots) (λ behind. spared_append behind look more)
  where
    by : (found : Option (List ℕ))
        → ((behind : List ℕ)
        → spared_behind behind (look ++ more) ≡ option_and_then (λ (behind : List ℕ). spared_behind behind more) (spared_behind behind look))
        → option_and_then (λ (behind : List ℕ). spared_behind behind (look ++ more)) found
        ≡ option_and_then (λ (behind : List ℕ). spared_behind behind more) (option_and_then (λ (behind : List ℕ). spared_behind behind look) found)
    by None each = refl
    by (Some behind) each = each behind

-- one form, and then another
pub spared_then : (roots : List ℕ) (look more : Look) → spared_behind roots look ≡ Some roots → spared_behind roots more ≡ Some roots
    → spared_behind roots (look ++ more) ≡ Some roots
spared_then roots look more one two =
    spared_append roots look more ∙ ap (option_and_then (λ (behind : List ℕ). spared_behind behind more)) one ∙ two
