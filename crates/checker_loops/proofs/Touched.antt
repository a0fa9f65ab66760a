-- What a loop touches at its head and inside.
use Rattle.std.proofs.Common.{◌≡◌, ◌∙◌, ap, refl, ℕ, Bool, true, false, ◌||◌, nat_eq, List}
use Rattle.std.proofs.Common.{[], ◌∷◌, ◌++◌, Option, Some, None}
use Rattle.std.proofs.lemmas.Bool.{eq-eqb}
use Rattle.std.proofs.lemmas.List.Folds.{list_any-append}
use Rattle.std.specs.List.{list_all, list_any}
use Rattle.checker_state.specs.Bounds.{is_variable}
use Rattle.checker_state.specs.Loops.{is_among}
use Rattle.checker_loops.specs.Loops.{Round, touched, with_own}
use Rattle.checker_loops.specs.View.{own_controls}

-- in each of these loops is a for statement that a variable controls
abbrev pub all_control : ℕ → List Round → Bool
all_control root rounds = list_all (λ round. is_among root round.controls) rounds

either-parts : (root : ℕ) (round : Round) → is_among root (touched round)
    ≡ (is_among root round.controls || (is_among root round.changes || is_among root round.aliases))
either-parts root round =
    list_any-append (λ other. nat_eq other root) round.controls (round.changes ++ round.aliases)
    ∙ ap (λ t. is_among root round.controls || t) (list_any-append (λ other. nat_eq other root) round.changes round.aliases)

or-nothing : (a b : Bool) → (a || b) ≡ ((a || false) || b)
or-nothing true b = refl
or-nothing false b = refl

pub touched_parts : (own : Option ℕ) (round : Round) (root : ℕ)
    → is_among root (touched (with_own own round))
    ≡ (is_among root (own_controls own) || (is_among root round.controls || (is_among root round.changes || is_among root round.aliases)))
touched_parts None round root = either-parts root round
touched_parts (Some control) round root =
    ap (λ t. nat_eq control root || t) (either-parts root round)
    ∙ or-nothing (nat_eq control root) (is_among root round.controls || (is_among root round.changes || is_among root round.aliases))

-- ---- inside the loop of a for statement

nor-one : (e a : Bool) → (e || a) ≡ false → a ≡ false
nor-one false a is = is
nor-one true a is = absurd (cc)

-- what isn't touched at the head isn't touched inside
pub inside-untouched : (control : ℕ) (loop : Round) (root : ℕ) → is_among root (touched (with_own (Some control) loop)) ≡ false
    → is_among root (touched loop) ≡ false
inside-untouched control loop root apart = nor-one (nat_eq control root) (is_among root (touched loop)) apart

pub inside-uncontrolled : (control : ℕ) (loop : Round) (root : ℕ) → is_among root (with_own (Some control) loop).controls ≡ false
    → is_among root loop.controls ≡ false
inside-uncontrolled control loop root apart = nor-one (nat_eq control root) (is_among root loop.controls) apart

or-first : (a b : Bool) → a ≡ true → (a || b) ≡ true
or-first true b is = refl
or-first false b is = absurd (cc)

-- a control variable is among those that control a for statement at the head
pub own-controls : (control : ℕ) (loop : Round) → is_among control (with_own (Some control) loop).controls ≡ true
own-controls control loop = or-first (nat_eq control control) (is_among control loop.controls) (eq-eqb control control refl)

-- nothing rests on variables that has none
pub none-rests : (roots : List ℕ) → list_any (λ root. is_variable root None) roots ≡ false
none-rests [] = refl
none-rests (root ∷ roots) = none-rests roots
