-- What rests on some variables is held no longer where they change: all of it is left out at once.
use Rattle.std.proofs.Common.{◌≡◌, ◌∙◌, sym, ap, ap₂, refl, ℕ, Bool, true, false, cond, not, ◌||◌, List, [], ◌∷◌, get_or, map, set, Option, Some, None}
use Rattle.std.specs.Prelude.{filter}
use Rattle.std.specs.List.{cons_option, filter_map, list_any}
use Rattle.std.proofs.lemmas.Bool.{cond_both}
use Rattle.checker_state.specs.declared.held.Held.{Held as KeptHeld}
use Rattle.checker_state.specs.Bounds.{Bound, is_variable}
use Rattle.checker_state.specs.Changes.{all_changed, bound_rests_on, changed, rests_on, span_rests_on}
use Rattle.checker_state.specs.Knows.{rests_on_any}
use Rattle.checker_state.specs.State.{Dead, Facts, Held, Live, RowState, Span, State, ends_of, no_row, with_growth}
use Rattle.checker_state.specs.View.{said_held}
use Rattle.checker_state.proofs.Settled.{one-kept, rests-by-ends}
use Rattle.checker_trail.specs.declared.state.State.{State as Kept}
use Rattle.checker_known.specs.Knowledge.{core, kept_by, viewed}
use Rattle.checker_trail.specs.Trail.{all_ungrown, over_held, seen}

-- ---- several

more-kept : (one : Held) (held : List Held) (test : Held → Bool) (rests : Bool) → filter test (cons_option (cond rests None (Some one)) held)
    ≡ cond (not rests) (cond (test one) (one ∷ filter test held) (filter test held)) (filter test held)
more-kept one held test true = refl
more-kept one held test false = refl

both-tests : (one : Held) (held : List Held) (rests any : Bool) → cond (not rests) (cond (not any) (one ∷ held) held) held
    ≡ cond (not (rests || any)) (one ∷ held) held
both-tests one held true any = refl
both-tests one held false any = refl

held-kept : (root : ℕ) (roots : List ℕ) (held : List Held)
    → filter (λ one. not (rests_on_any roots one)) (filter_map (changed root None) held) ≡ filter (λ one. not (rests_on_any (root ∷ roots) one)) held
held-kept root roots [] = refl
held-kept root roots (one ∷ held) =
    let test : Held → Bool = λ other. not (rests_on_any roots other) in
    let rest = filter (λ other. not (rests_on_any (root ∷ roots) other)) held in
    ap (λ found. filter test (cons_option found (filter_map (changed root None) held))) (one-kept root one)
    ∙ more-kept one (filter_map (changed root None) held) test (rests_on root one)
    ∙ ap (λ behind. cond (not (rests_on root one)) (cond (test one) (one ∷ behind) behind) behind) (held-kept root roots held)
    ∙ both-tests one rest (rests_on root one) (rests_on_any roots one)

all-kept : (held : List Held) → filter (λ one. true) held ≡ held
all-kept [] = refl
all-kept (one ∷ held) = ap (λ rest. one ∷ rest) (all-kept held)

-- rows of which several variables aren't known to grow
abbrev ungrown : List ℕ → List RowState → List RowState
ungrown [] rows = rows
ungrown (root ∷ roots) rows = ungrown roots (set rows root (record (get_or rows root no_row) { growth = None }))

abbrev without : List ℕ → Facts → State
without roots facts =
    Live (record facts { rows = ungrown roots facts.rows; held = filter (λ one. not (rests_on_any roots one)) facts.held })

live-kept : (roots : List ℕ) (facts : Facts) → all_changed roots (Live facts) ≡ without roots facts
live-kept [] facts = ap (λ held. Live (record facts { held = held })) (sym (all-kept facts.held))
live-kept (root ∷ roots) facts =
    live-kept roots (record (with_growth root None facts) { held = filter_map (changed root None) facts.held })
    ∙ ap (λ held. Live (record facts { rows = ungrown (root ∷ roots) facts.rows; held = held })) (held-kept root roots facts.held)

live-ungrown : (roots : List ℕ) (facts : Facts) → all_ungrown roots (Live facts) ≡ Live (record facts { rows = ungrown roots facts.rows })
live-ungrown [] facts = refl
live-ungrown (root ∷ roots) facts = live-ungrown roots (with_growth root None facts)

dead-ungrown : (roots : List ℕ) → all_ungrown roots Dead ≡ Dead
dead-ungrown [] = refl
dead-ungrown (root ∷ roots) = dead-ungrown roots

dead-kept : (roots : List ℕ) → all_changed roots Dead ≡ Dead
dead-kept [] = refl
dead-kept (root ∷ roots) = dead-kept roots

kept-tests : (test : Held → Bool) (held : List KeptHeld)
    → kept_by (map (λ one. test (said_held one)) held) (map said_held held) ≡ filter test (map said_held held)
kept-tests test [] = refl
kept-tests test (one ∷ held) =
    ap (λ rest. cond (test (said_held one)) (said_held one ∷ rest) rest) (kept-tests test held)

-- those stay that rest on none of some variables, none of which is known to grow
pub left-out : (state : Kept) (roots : List ℕ) (kept : List Bool)
    → kept ≡ map (λ one. not (rests_on_any roots (said_held one))) state.known.held.items
    → over_held (kept_by kept) (all_ungrown roots (seen state)) ≡ all_changed roots (seen state)
left-out state roots kept is =
    let facts = viewed (core state.known) in
    cond_both state.known.is_dead Dead (Live facts) (λ (known : State). over_held (kept_by kept) (all_ungrown roots known) ≡ all_changed roots known)
    (λ dead. ap (over_held (kept_by kept)) (dead-ungrown roots) ∙ sym (dead-kept roots))
    (λ live.
    ap (over_held (kept_by kept)) (live-ungrown roots facts)
    ∙ ap (λ (tests : List Bool). Live (record facts { rows = ungrown roots facts.rows; held = kept_by tests facts.held })) is
    ∙ ap (λ (held : List Held). Live (record facts { rows = ungrown roots facts.rows; held = held }))
    (kept-tests (λ one. not (rests_on_any roots one)) state.known.held.items)
    ∙ sym (live-kept roots facts))

-- ---- tests of several variables

either : (a b c d : Bool) → ((a || b) || (c || d)) ≡ ((a || c) || (b || d))
either true b true d = refl
either true b false d = refl
either false true true d = refl
either false true false d = refl
either false false c d = refl

any-either : (p q : ℕ → Bool) (roots : List ℕ) → list_any (λ root. p root || q root) roots ≡ (list_any p roots || list_any q roots)
any-either p q [] = refl
any-either p q (root ∷ roots) =
    ap (λ rest. (p root || q root) || rest) (any-either p q roots) ∙ either (p root) (q root) (list_any p roots) (list_any q roots)

-- one of two tests is passed by one of them, or the other is
pub either-first : (p q : ℕ → Bool) (roots : List ℕ) (one : Bool) → one ≡ list_any p roots → one ≡ true → one ≡ list_any (λ root. p root || q root) roots
either-first p q roots one one_is is =
    is ∙ sym (any-either p q roots ∙ ap (λ b. b || list_any q roots) (sym one_is ∙ is))

pub either-second : (p q : ℕ → Bool) (roots : List ℕ) (one other : Bool) → one ≡ list_any p roots → one ≡ false → other ≡ list_any q roots
    → other ≡ list_any (λ root. p root || q root) roots
either-second p q roots one other one_is is other_is =
    other_is ∙ sym (any-either p q roots ∙ ap (λ b. b || list_any q roots) (sym one_is ∙ is))

pub any-none : (roots : List ℕ) → list_any (λ root. false) roots ≡ false
any-none [] = refl
any-none (root ∷ roots) = any-none roots

or-none : (a : Bool) → a ≡ (a || false)
or-none true = refl
or-none false = refl

pub any-alone : (p : ℕ → Bool) (roots : List ℕ) → list_any p roots ≡ list_any (λ root. p root || false) roots
any-alone p [] = refl
any-alone p (root ∷ roots) = ap₂ (λ one rest. one || rest) (or-none (p root)) (any-alone p roots)

-- what is held rests on some, if its ends do
pub ends-rest : (one : Held) (span : Span) (inner : List Span) (roots : List ℕ) (test : Bool) → span ∷ inner ≡ ends_of one
    → test ≡ list_any (λ root. span_rests_on root span || list_any (span_rests_on root) inner) roots → test ≡ rests_on_any roots one
ends-rest one span inner roots test ends is =
    is ∙ ap (λ (rests : ℕ → Bool). list_any rests roots) (λ i root. same root i)
  where
    same : (root : ℕ) → (span_rests_on root span || list_any (span_rests_on root) inner) ≡ rests_on root one
    same root = ap (list_any (span_rests_on root)) ends ∙ rests-by-ends root one

-- a number rests on none
pub none-rests : (bound : Bound) (roots : List ℕ) → bound.root ≡ None → false ≡ list_any (λ root. bound_rests_on root bound) roots
none-rests bound roots is =
    sym (any-none roots) ∙ ap (λ (found : Option ℕ). list_any (λ root. is_variable root found) roots) (sym is)
