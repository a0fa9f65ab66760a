-- Lists of what is held: which of them passes a test, where one comes among them, and what is left of them.
use Rattle.std.proofs.Common.{arith, ◌≡◌, ◌∙◌, sym, ap, ap₂, refl, subst, ℕ, zero, suc, ◌+◌, ◌<◌, ◌≤◌, Bool, true, false, cond, ◌||◌, List, [], ◌∷◌, ◌++◌}
use Rattle.std.proofs.Common.{append_assoc, append-nil, length, map, set, take, drop, drop-cons, get_or, Option, Some, None, filter, ◌-◌}
use Rattle.std.proofs.Common.{◌⊎◌, ⊎_elim, inl, inr}
use Rattle.std.specs.List.{Contains, cons_option, filter_map, insert, list_any, remove}
use Rattle.std.specs.declared.cmp.Ordering.{Ordering}
use Rattle.std.specs.declared.cmp.Ordering.TheVariants.{Less, Equal, Greater}
use Rattle.std.proofs.Math.ListN.{get_or-map}
use Rattle.std.proofs.Math.Seq.{take-suc}
use Rattle.std.proofs.lemmas.List.{set_split, take-append-drop, take-map, drop-map, drop_all, take_all, map-append, length-map}
use Rattle.std.proofs.lemmas.List.Folds.{list_any_at}
use Rattle.checker_state.specs.declared.held.Held.{Held as KeptHeld}
use Rattle.checker_state.specs.State.{Held, held_order, put, with_more, with_one}
use Rattle.checker_known.specs.Knowledge.{changed_at, kept_by}
use Rattle.checker_known.specs.Resting.{AreRising, IsAt}
use Rattle.checker_state.specs.View.{said_held}
use Rattle.checker_state.proofs.HeldOrders.{no_held}

abbrev pub said_all : List KeptHeld → List Held
said_all = map said_held

-- ---- tests

pub any-said : (test : Held → Bool) (held : List KeptHeld) → list_any (λ one. test (said_held one)) held ≡ list_any test (said_all held)
any-said test [] = refl
any-said test (one ∷ held) = ap (λ (rest : Bool). test (said_held one) || rest) (any-said test held)

-- one of some passes a test
pub any-there : (test : Held → Bool) (held there : List KeptHeld) (i : ℕ) → there ≡ held → i < length there
    → test (said_held (get_or there i no_held)) ≡ true → true ≡ list_any test (said_all held)
any-there test held there i same inside passes =
    sym (list_any_at (λ one. test (said_held one)) there i no_held inside passes)
    ∙ any-said test there ∙ ap (λ (some : List KeptHeld). list_any test (said_all some)) same

-- ---- where one comes among others

-- it comes behind the first ones
abbrev pub ComesBehind : Held → List Held → ℕ → Type 0
ComesBehind one held i = with_one one held ≡ take i held ++ with_one one (drop i held)

module _ (one : Held) (held : List Held) (i : ℕ) (next : Held) (inside : i < length held) (next_is : get_or held i next ≡ next)
    (so_far : ComesBehind one held i) where
  rest-is : drop i held ≡ next ∷ drop (suc i) held
  rest-is = drop-cons held i next inside ∙ ap (λ (h : Held). h ∷ drop (suc i) held) next_is

  at-next : (order : Ordering) → held_order one next ≡ order
      → with_one one held ≡ take i held ++ put order one next (drop (suc i) held) (with_one one (drop (suc i) held))
  at-next order is =
      so_far ∙ ap (λ (rest : List Held). take i held ++ with_one one rest) rest-is
      ∙ ap (λ (o : Ordering). take i held ++ put o one next (drop (suc i) held) (with_one one (drop (suc i) held))) is

  pub comes-behind : held_order one next ≡ Greater → ComesBehind one held (i + 1)
  comes-behind is =
      let more = with_one one (drop (suc i) held) in
      at-next Greater is
      ∙ sym (append_assoc (take i held) (next ∷ []) more)
      ∙ ap (λ (begin : List Held). begin ++ more)
      (ap (λ (h : Held). take i held ++ h ∷ []) (sym next_is) ∙ sym (take-suc held i next inside))
      ∙ ap (λ (k : ℕ). take k held ++ with_one one (drop k held)) (let is_one : suc i ≡ i + 1 = omega arith in is_one)

  pub comes-here : held_order one next ≡ Less → with_one one held ≡ insert held i one
  comes-here is = at-next Less is ∙ ap (λ (rest : List Held). take i held ++ one ∷ rest) (sym rest-is)

  pub is-there : held_order one next ≡ Equal → with_one one held ≡ held
  is-there is = at-next Equal is ∙ ap (λ (rest : List Held). take i held ++ rest) (sym rest-is) ∙ take-append-drop i held

pub comes-last : (one : Held) (held : List Held) (i n : ℕ) → ComesBehind one held i → length held ≤ i → n ≡ length held
    → with_one one held ≡ insert held n one
comes-last one held i n so_far all n_is =
    so_far
    ∙ ap₂ (λ (first rest : List Held). first ++ with_one one rest) (take_all i held all) (drop_all i held all)
    ∙ ap₂ (λ (first rest : List Held). first ++ one ∷ rest) (sym (take_all n held (omega (arith, n_is)))) (sym (drop_all n held (omega (arith, n_is))))

-- ---- what is said of a list with one more, one less, or another one

pub insert-said : (held : List KeptHeld) (place : ℕ) (one : KeptHeld) → said_all (insert held place one) ≡ insert (said_all held) place (said_held one)
insert-said held place one =
    map-append said_held (take place held) (one ∷ drop place held)
    ∙ ap₂ (λ (first rest : List Held). first ++ said_held one ∷ rest) (sym (take-map said_held place held)) (sym (drop-map said_held place held))

pub remove-said : (held : List KeptHeld) (place : ℕ) → said_all (remove held place) ≡ remove (said_all held) place
remove-said held place =
    map-append said_held (take place held) (drop (suc place) held)
    ∙ ap₂ (λ (first rest : List Held). first ++ rest) (sym (take-map said_held place held)) (sym (drop-map said_held (suc place) held))

-- ---- more, one after another

pub more-append : (first rest held : List Held) → with_more (first ++ rest) held ≡ with_more rest (with_more first held)
more-append [] rest held = refl
more-append (one ∷ first) rest held = more-append first rest (with_one one held)

-- what is said of one of a list
pub said-there : (held : List KeptHeld) (i : ℕ) (one : KeptHeld) → i < length held → one ≡ get_or held i one
    → get_or (said_all held) i (said_held one) ≡ said_held one
said-there held i one inside is = get_or-map said_held held i one ∙ ap said_held (sym is)

pub said-inside : (held : List KeptHeld) (i : ℕ) → i < length held → i < length (said_all held)
said-inside held i inside = rw length-map inside

-- ---- one becomes another, or goes

cons-append : (some : Option Held) (rest : List Held) → cons_option some [] ++ rest ≡ cons_option some rest
cons-append None rest = refl
cons-append (Some one) rest = refl

module _ (change : Held → Option Held) where
  one-there : (held : List Held) (place : ℕ) (one : Held) → place < length held → get_or held place one ≡ one
      → changed_at change place held ≡ (take place held ++ cons_option (change one) []) ++ drop (suc place) held
  one-there held place one inside is =
      ap (λ (rest : List Held). (take place held ++ filter_map change (take 1 rest)) ++ drop (suc place) held)
      (drop-cons held place one inside ∙ ap (λ (h : Held). h ∷ drop (suc place) held) is)

  pub one-gone : (held : List Held) (place : ℕ) (one : Held) → place < length held → get_or held place one ≡ one → change one ≡ None
      → remove held place ≡ changed_at change place held
  one-gone held place one inside is gone =
      ap (λ (first : List Held). first ++ drop (suc place) held) (sym (append-nil (take place held)))
      ∙ ap (λ (some : Option Held). (take place held ++ cons_option some []) ++ drop (suc place) held) (sym gone)
      ∙ sym (one-there held place one inside is)

  pub one-became : (held : List Held) (place : ℕ) (one now : Held) → place < length held → get_or held place one ≡ one → change one ≡ Some now
      → set held place now ≡ changed_at change place held
  one-became held place one now inside is became =
      set_split held place now inside ∙ sym (append_assoc (take place held) (now ∷ []) (drop (suc place) held))
      ∙ ap (λ (some : Option Held). (take place held ++ cons_option some []) ++ drop (suc place) held) (sym became)
      ∙ sym (one-there held place one inside is)

  pub none-there : (held : List Held) (place : ℕ) → length held ≤ place → changed_at change place held ≡ held
  none-there held place past =
      ap₂ (λ (first rest : List Held). (first ++ filter_map change (take 1 rest)) ++ drop (suc place) held) (take_all place held past)
      (drop_all place held past)
      ∙ ap (λ (rest : List Held). (held ++ []) ++ rest) (drop_all (suc place) held (omega arith)) ∙ append-nil (held ++ []) ∙ append-nil held

  -- those from a place on are changed
  abbrev pub changed_from : ℕ → List Held → List Held
  changed_from place held = take place held ++ filter_map change (drop place held)

  pub changed-step : (place : ℕ) (held : List Held) → changed_at change place (changed_from (suc place) held) ≡ changed_from place held
  changed-step zero [] = refl
  changed-step zero (one ∷ held) = cons-append (change one) (filter_map change held)
  changed-step (suc place) [] = refl
  changed-step (suc place) (one ∷ held) = ap (λ (rest : List Held). one ∷ rest) (changed-step place held)

  pub changed-end : (held : List Held) (place : ℕ) → length held ≤ place → changed_from place held ≡ held
  changed-end held place past =
      ap₂ (λ (first rest : List Held). first ++ filter_map change rest) (take_all place held past) (drop_all place held past) ∙ append-nil held

-- ---- those that stand where this says so

pub kept-none : (held : List Held) → kept_by [] held ≡ held
kept-none [] = refl
kept-none (one ∷ held) = refl

-- those from a place on are kept or not
abbrev pub kept_from : List Bool → ℕ → List Held → List Held
kept_from kept place held = take place held ++ kept_by (drop place kept) (drop place held)

pub kept-end : (kept : List Bool) (held : List Held) → kept_from kept (length kept) held ≡ held
kept-end kept held =
    ap (λ (some : List Bool). take (length kept) held ++ kept_by some (drop (length kept) held)) (drop_all (length kept) kept (omega arith))
    ∙ ap (λ (rest : List Held). take (length kept) held ++ rest) (kept-none (drop (length kept) held)) ∙ take-append-drop (length kept) held

pub kept-step : (kept : List Bool) (place : ℕ) (held : List Held) → place < length kept → get_or kept place false ≡ true
    → kept_from kept (suc place) held ≡ kept_from kept place held
kept-step [] place held inside is = absurd (omega (arith, inside))
kept-step (b ∷ kept) zero [] inside is = refl
kept-step (b ∷ kept) zero (one ∷ held) inside is =
    sym (ap (λ (c : Bool). cond c (one ∷ kept_by kept held) (kept_by kept held)) is)
kept-step (b ∷ kept) (suc place) [] inside is = refl
kept-step (b ∷ kept) (suc place) (one ∷ held) inside is =
    ap (λ (rest : List Held). one ∷ rest) (kept-step kept place held (omega (arith, inside)) is)

pub dropped-step : (kept : List Bool) (place : ℕ) (held : List Held) → place < length kept → get_or kept place false ≡ false
    → remove (kept_from kept (suc place) held) place ≡ kept_from kept place held
dropped-step [] place held inside is = absurd (omega (arith, inside))
dropped-step (b ∷ kept) zero [] inside is = refl
dropped-step (b ∷ kept) zero (one ∷ held) inside is =
    sym (ap (λ (c : Bool). cond c (one ∷ kept_by kept held) (kept_by kept held)) is)
dropped-step (b ∷ kept) (suc place) [] inside is = refl
dropped-step (b ∷ kept) (suc place) (one ∷ held) inside is =
    ap (λ (rest : List Held). one ∷ rest) (dropped-step kept place held (omega (arith, inside)) is)

pub kept-filter : (test : Held → Bool) (held : List Held) → kept_by (map test held) held ≡ filter test held
kept-filter test [] = refl
kept-filter test (one ∷ held) =
    ap (λ (rest : List Held). cond (test one) (one ∷ rest) rest) (kept-filter test held)

-- ---- the last one goes

pub taken-step : (place : ℕ) (held : List Held) → remove (take (suc place) held) place ≡ take place held
taken-step zero [] = refl
taken-step zero (one ∷ held) = refl
taken-step (suc place) [] = refl
taken-step (suc place) (one ∷ held) = ap (λ (rest : List Held). one ∷ rest) (taken-step place held)

-- the same as one of a list is in it
pub contains-there : (held : List KeptHeld) (i : ℕ) (next one : KeptHeld) → i < length held → next ≡ get_or held i next
    → said_held one ≡ said_held next → Contains (said_all held) (said_held one)
contains-there held i next one inside is same =
    subst (λ (h : Held). Contains (said_all held) h) (sym same) (i, said-inside held i inside, said-there held i next inside is)

-- ---- those at places become others, or go, the last one first

module _ (change : Held → Option Held) where
  abbrev pub changed_each : List ℕ → List Held → List Held
  changed_each [] held = held
  changed_each (place ∷ places) held = changed_at change place (changed_each places held)

  -- each that stands at none of some places stays
  abbrev pub OthersStay : (from : ℕ) (places : List ℕ) → List Held → Type 0
  OthersStay from places held = (one : Held) (i : ℕ) → from ≤ i → IsAt one held i → (change one ≡ Some one) ⊎ Contains places i

  one-stays : (held : List Held) (place : ℕ) → ((one : Held) → IsAt one held place → change one ≡ Some one)
      → changed_from change (suc place) held ≡ changed_from change place held
  one-stays [] zero stays = refl
  one-stays [] (suc place) stays = refl
  one-stays (one ∷ held) zero stays =
      ap (λ (some : Option Held). cons_option some (filter_map change held)) (sym (stays one (omega arith, refl)))
  one-stays (one ∷ held) (suc place) stays =
      ap (λ (rest : List Held). one ∷ rest) (one-stays held place (λ other at. stays other (omega (arith, at.0), at.1)))

  gap-stays : (held : List Held) (from count : ℕ) → ((one : Held) (i : ℕ) → from ≤ i → i < from + count → IsAt one held i → change one ≡ Some one)
      → changed_from change (from + count) held ≡ changed_from change from held
  gap-stays held from zero stays = ap (λ (n : ℕ). changed_from change n held) (let same : from + zero ≡ from = omega arith in same)
  gap-stays held from (suc count) stays =
      ap (λ (n : ℕ). changed_from change n held) (let same : from + suc count ≡ suc (from + count) = omega arith in same)
      ∙ one-stays held (from + count) (λ one at. stays one (from + count) (omega arith) (omega arith) at)
      ∙ gap-stays held from count (λ one i past below at. stays one i past (omega (arith, below)) at)

  between-stays : (held : List Held) (from to : ℕ) → from ≤ to → ((one : Held) (i : ℕ) → from ≤ i → i < to → IsAt one held i → change one ≡ Some one)
      → changed_from change to held ≡ changed_from change from held
  between-stays held from to up stays =
      let sum : from + (to - from) ≡ to = omega (arith, up) in
      ap (λ (n : ℕ). changed_from change n held) (sym sum)
      ∙ gap-stays held from (to - from) (λ one i past below at. stays one i past (omega (arith, below, sum)) at)

  not-first : (place : ℕ) (places : List ℕ) (i : ℕ) → place < i → Contains (place ∷ places) i → Contains places i
  not-first place places i below has = rest has.0 has.1 has.2
    where
      rest : (k : ℕ) → k < length (place ∷ places) → get_or (place ∷ places) k i ≡ i → Contains places i
      rest zero inside is = absurd (omega (arith, below, is))
      rest (suc k) inside is = (k, omega (arith, inside), is)

  not-below : (first : ℕ) (places : List ℕ) (end i k : ℕ) → AreRising first places end → i < first → k < length places → get_or places k i ≡ i → ⊥
  not-below first [] end i k rising below inside is = omega (arith, inside)
  not-below first (place ∷ places) end i zero rising below inside is = omega (arith, below, is, rising.0)
  not-below first (place ∷ places) end i (suc k) rising below inside is =
      not-below (suc place) places end i k rising.1 (omega (arith, below, rising.0)) (omega (arith, inside)) is

  pub each-from : (held : List Held) (from : ℕ) (places : List ℕ) → AreRising from places (length held) → OthersStay from places held
      → changed_each places held ≡ changed_from change from held
  each-from held from [] rising stay =
      sym (changed-end change held (length held) (omega arith))
      ∙ between-stays held from (length held) rising (λ one i past below at.
      ⊎_elim (λ (is : change one ≡ Some one). is) (λ (has : Contains [] i). absurd (omega (arith, has.1))) (stay one i past at))
  each-from held from (place ∷ places) rising stay =
      ap (changed_at change place)
      (each-from held (suc place) places rising.1 (λ one i past at.
      ⊎_elim (λ (is : change one ≡ Some one). inl is)
      (λ (has : Contains (place ∷ places) i). inr (not-first place places i (omega (arith, past)) has))
      (stay one i (omega (arith, past, rising.0)) at)))
      ∙ changed-step change place held
      ∙ between-stays held from place rising.0 (λ one i past below at.
      ⊎_elim (λ (is : change one ≡ Some one). is)
      (λ (has : Contains (place ∷ places) i).
      absurd (not-below place (place ∷ places) (length held) i has.0 (omega arith, rising.1) below has.1 has.2))
      (stay one i past at))
