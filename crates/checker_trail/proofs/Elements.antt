-- First indexes of a row become defined, and values are stored to rows.
use Rattle.std.proofs.Common.{arith, ◌≡◌, ◌∙◌, sym, ap, ap₂, refl, subst, ℕ, suc, ◌+◌, Bool, false, cond, List, [], ◌∷◌, ◌++◌}
use Rattle.std.proofs.Common.{append_assoc, filter, length, take}
use Rattle.std.proofs.Common.{Option, None, Some}
use Rattle.std.specs.List.{remove}
use Rattle.std.proofs.lemmas.List.{drop_at, length-map, length_push, take_at}
use Rattle.domain.specs.Interval.{Interval}
use Rattle.checker_state.specs.declared.held.Held.{Held as KeptHeld}
use Rattle.checker_trail.specs.declared.state.State.{State as Kept}
use Rattle.checker_state.specs.Bounds.{Bound}
use Rattle.checker_state.specs.Changes.{with_some}
use Rattle.checker_state.specs.State.{Dead, Held, Live, State, stretched, with_more}
use Rattle.checker_state.specs.Stores.{Reach, all_stored, is_none, longer, or_alone, points, stored, with_element}
use Rattle.checker_known.specs.Longer.{AreLonger, place_if, places_from, without}
use Rattle.checker_trail.specs.Trail.{Moves, over_held, seen}
use Rattle.checker_known.specs.Knowledge.{core, viewed}
use Rattle.checker_state.specs.View.{said_held}
use Rattle.checker_known.proofs.HeldLists.{said_all}
use Rattle.checker_trail.proofs.Ways.{moves-as, moves-then, seen-live}

-- ---- those that become longer go

removed-at : (first rest : List Held) (one : Held) (n : ℕ) → length first ≡ n → remove ((first ++ one ∷ []) ++ rest) n ≡ first ++ rest
removed-at first rest one n count =
    ap₂ (λ (front back : List Held). front ++ back)
    (ap (take n) (append_assoc first (one ∷ []) rest) ∙ take_at first (one ∷ rest) n count)
    (drop_at (first ++ one ∷ []) rest (suc n) (length_push first one ∙ (let same : length first + 1 ≡ suc n = omega (arith, count) in same)))

module _ (change : Held → Option Held) where
  abbrev stays : Held → Bool
  stays one = is_none (change one)

  without-behind : (first rest : List Held) (n : ℕ) → length first ≡ n → without (places_from change n rest) (first ++ rest) ≡ first ++ filter stays rest
  without-behind first [] n count = refl
  without-behind first (one ∷ rest) n count =
      let places = places_from change (suc n) rest in
      let front : without places (first ++ one ∷ rest) ≡ (first ++ one ∷ []) ++ filter stays rest =
      ap (without places) (sym (append_assoc first (one ∷ []) rest))
      ∙ without-behind (first ++ one ∷ []) rest (suc n) (length_push first one ∙ (let same : length first + 1 ≡ suc n = omega (arith, count) in same)) in
      elim (change one) as (λ (found : Option Held).
      without (place_if found n places) (first ++ one ∷ rest) ≡ first ++ cond (is_none found) (one ∷ filter stays rest) (filter stays rest)) [
        | None ↦ front ∙ append_assoc first (one ∷ []) (filter stays rest)
        | Some now ↦ ap (λ (held : List Held). remove held n) front ∙ removed-at first (filter stays rest) one n count
      ]

  pub without-longer : (held : List Held) → without (places_from change 0 held) held ≡ filter stays held
  without-longer held = without-behind [] held 0 refl

or-more : (row : ℕ) (one : List Bound) (more : List Held) → (length more ≡ 0 → ⊥) → or_alone row one more ≡ more
or-more row one [] some = absurd (some refl)
or-more row one (held ∷ more) some = refl

-- where that much is held, first indexes are defined
element-is : (row : ℕ) (one : List Bound) (state : Kept) (places : List ℕ) (more : List KeptHeld) → state.known.is_dead ≡ false
    → AreLonger (viewed (core state.known)) row one places more (said_all state.known.held.items)
    → over_held (λ held. with_more (or_alone row one (said_all more)) (without places held)) (seen state) ≡ with_element row one (seen state)
element-is row one state places more live beside =
    let known = viewed (core state.known) in
    ap (over_held (λ held. with_more (or_alone row one (said_all more)) (without places held))) (seen-live state live)
    ∙ ap₂ (λ (some left : List Held). Live (record known { held = with_more (or_alone row one some) left })) beside.more_are
    (ap (λ (some : List ℕ). without some known.held) beside.places_are ∙ without-longer (longer known row one) known.held)
    ∙ ap (with_element row one) (sym (seen-live state live))

one-over : (one : Held) (places : List ℕ) (state : State)
    → with_some (Some one) (over_held (without places) state) ≡ over_held (λ held. with_more (one ∷ []) (without places held)) state
one-over one places Dead = refl
one-over one places (Live facts) = refl

more-over : (more : List Held) (places : List ℕ) (state : State)
    → over_held (with_more more) (over_held (without places) state) ≡ over_held (λ held. with_more more (without places held)) state
more-over more places Dead = refl
more-over more places (Live facts) = refl

pub alone-moves : {a b c : Kept} (row : ℕ) (one : List Bound) (places gone : List ℕ) (more : List KeptHeld) (alone : KeptHeld)
    → a.known.is_dead ≡ false → AreLonger (viewed (core a.known)) row one places more (said_all a.known.held.items) → more ≡ [] → gone ≡ places
    → said_held alone ≡ stretched row (points one) → Moves (over_held (without gone)) a b
    → Moves (with_some (Some (said_held alone))) b c → Moves (with_element row one) a c
alone-moves {a = a} {b = b} {c = c} row one places gone more alone live beside none gone_are alone_is removed held =
    let first = subst (λ (some : List ℕ). Moves (over_held (without some)) a b) gone_are removed in
    let rest = subst (λ (h : Held). Moves (with_some (Some h)) b c) alone_is held in
    moves-as (with_element row one) (moves-then first rest)
    (one-over (stretched row (points one)) places (seen a)
    ∙ ap (λ (some : List KeptHeld). over_held (λ held. with_more (or_alone row one (said_all some)) (without places held)) (seen a)) (sym none)
    ∙ element-is row one a places more live beside)

pub longer-moves : {a b c : Kept} (row : ℕ) (one : List Bound) (places gone : List ℕ) (more there : List KeptHeld) → a.known.is_dead ≡ false
    → AreLonger (viewed (core a.known)) row one places more (said_all a.known.held.items) → (length more ≡ 0 → ⊥) → gone ≡ places → there ≡ more
    → Moves (over_held (without gone)) a b → Moves (over_held (with_more (said_all there))) b c → Moves (with_element row one) a c
longer-moves {a = a} {b = b} {c = c} row one places gone more there live beside several gone_are more_are removed held =
    let first = subst (λ (some : List ℕ). Moves (over_held (without some)) a b) gone_are removed in
    let rest = subst (λ (all : List KeptHeld). Moves (over_held (with_more (said_all all))) b c) more_are held in
    let some : length (said_all more) ≡ 0 → ⊥ = λ none. several (sym (length-map more said_held) ∙ none) in
    moves-as (with_element row one) (moves-then first rest)
    (more-over (said_all more) places (seen a)
    ∙ ap (λ (all : List Held). over_held (λ held. with_more all (without places held)) (seen a)) (sym (or-more row one (said_all more) some))
    ∙ element-is row one a places more live beside)

-- ---- stores

pub stored-append : (reach : Reach) (stores : List (ℕ × Interval)) (one : ℕ × Interval) (state : State)
    → stored reach one.0 one.1 (all_stored reach stores state) ≡ all_stored reach (stores ++ one ∷ []) state
stored-append reach [] one state = refl
stored-append reach (first ∷ stores) one state = stored-append reach stores one (stored reach first.0 first.1 state)
