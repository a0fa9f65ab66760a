-- What becomes longer where first indexes of a row become defined, one after another.
use Rattle.std.proofs.Common.{arith, ◌≡◌, ◌∙◌, sym, ap, ap₂, refl, subst, ⊎_elim, ℕ, zero, suc, ◌+◌, ◌<◌, ◌≤◌, List, [], ◌∷◌, ◌++◌, get_or}
use Rattle.std.proofs.Common.{append-nil, length, take}
use Rattle.std.proofs.Common.{Option, None, Some}
use Rattle.std.specs.List.{cons_option, filter_map}
use Rattle.std.proofs.Math.ListN.{get_or-map}
use Rattle.std.proofs.lemmas.Bool.{cases_eq}
use Rattle.std.proofs.lemmas.List.{get_or_default, length-map, length-take-le, map-append, take_all, take_more}
use Rattle.std.proofs.lemmas.List.Elements.{filter_map-append}
use Rattle.checker_state.specs.declared.held.Held.{Held as KeptHeld}
use Rattle.checker_state.specs.Bounds.{Bound}
use Rattle.checker_state.specs.State.{Facts, Held}
use Rattle.checker_state.specs.Stores.{longer}
use Rattle.checker_known.specs.Longer.{AreLonger, AreNear, place_if, places_from}
use Rattle.checker_state.specs.View.{said_held}
use Rattle.checker_known.proofs.HeldLists.{said_all}
use Rattle.checker_state.proofs.HeldOrders.{no_held}

if-append : (found : Option Held) (place : ℕ) (first rest : List ℕ) → place_if found place (first ++ rest) ≡ place_if found place first ++ rest
if-append None place first rest = refl
if-append (Some now) place first rest = refl

-- the places of one more
places-push : (change : Held → Option Held) (place : ℕ) (held : List Held) (one : Held)
    → places_from change place (held ++ one ∷ []) ≡ places_from change place held ++ place_if (change one) (place + length held) []
places-push change place [] one = ap (λ (n : ℕ). place_if (change one) n []) (let same : place ≡ place + 0 = omega arith in same)
places-push change place (first ∷ held) one =
    ap (place_if (change first) place)
    (places-push change (suc place) held one
    ∙ ap (λ (n : ℕ). places_from change (suc place) held ++ place_if (change one) n [])
    (let same : suc place + length held ≡ place + suc (length held) = omega arith in same))
    ∙ if-append (change first) place (places_from change (suc place) held) (place_if (change one) (place + suc (length held)) [])

module _ {known : Facts} {row : ℕ} {indexes : List Bound} {places : List ℕ} {more : List KeptHeld} (held : List KeptHeld) where
  -- one more is asked
  pub longer-more : {new_places : List ℕ} {new_more : List KeptHeld} (i : ℕ) (one : KeptHeld) (found : Option Held) → i < length held
      → one ≡ get_or held i one → found ≡ longer known row indexes (said_held one)
      → AreLonger known row indexes places more (said_all (take i held)) → new_places ≡ places ++ place_if found i []
      → said_all new_more ≡ said_all more ++ cons_option found []
      → AreLonger known row indexes new_places new_more (said_all (take (i + 1) held))
  longer-more {new_places = new_places} {new_more = new_more} i one found inside is found_is so_far places_is more_is =
      let change = longer known row indexes in
      let said : said_all (take (i + 1) held) ≡ said_all (take i held) ++ said_held one ∷ [] =
      ap said_all (take_more held i one inside) ∙ map-append said_held (take i held) (get_or held i one ∷ [])
      ∙ ap (λ (last : KeptHeld). said_all (take i held) ++ said_held last ∷ []) (sym is) in
      let count : length (said_all (take i held)) ≡ i = rw length-map (length-take-le i held (omega (arith, inside))) in
      record {
        places_are =
            places_is ∙ ap₂ (λ (front : List ℕ) (some : Option Held). front ++ place_if some i []) so_far.places_are found_is
            ∙ ap (λ (n : ℕ). places_from change 0 (said_all (take i held)) ++ place_if (change (said_held one)) n [])
            (let same : i ≡ 0 + length (said_all (take i held)) = omega (arith, count) in same)
            ∙ sym (places-push change 0 (said_all (take i held)) (said_held one)) ∙ sym (ap (places_from change 0) said);
        more_are =
            more_is ∙ ap₂ (λ (front : List Held) (some : Option Held). front ++ cons_option some []) so_far.more_are found_is
            ∙ sym (filter_map-append change (said_all (take i held)) (said_held one ∷ [])) ∙ sym (ap (filter_map change) said);
      }

  -- those that stay as they are need not be asked
  pub longer-skip : (from to : ℕ) → from ≤ to → to ≤ length held
      → ((i : ℕ) (none : KeptHeld) → from ≤ i → i < to → longer known row indexes (said_held (get_or held i none)) ≡ None)
      → AreLonger known row indexes places more (said_all (take from held)) → AreLonger known row indexes places more (said_all (take to held))
  longer-skip from zero upto within stay so_far =
      subst (λ (n : ℕ). AreLonger known row indexes places more (said_all (take n held))) (let same : from ≡ 0 = omega (arith, upto) in same) so_far
  longer-skip from (suc to) upto within stay so_far =
      ⊎_elim (λ (same : from ≡ suc to). subst (λ (n : ℕ). AreLonger known row indexes places more (said_all (take n held))) same so_far)
      (λ (differ : from ≡ suc to → ⊥).
      let one = get_or held to no_held in
      subst (λ (n : ℕ). AreLonger known row indexes places more (said_all (take n held))) (let same : to + 1 ≡ suc to = omega arith in same)
      (longer-more to one None (omega (arith, within)) (get_or_default held to no_held one (omega (arith, within)))
      (sym (stay to no_held (omega (arith, upto, differ)) (omega arith)))
      (longer-skip from to (omega (arith, upto, differ)) (omega (arith, within)) (λ i none past inside. stay i none past (omega (arith, inside))) so_far)
      (sym (append-nil places)) (sym (append-nil (said_all more)))))
      (cases_eq from (suc to))

module _ {known : Facts} {row : ℕ} {indexes : List Bound} {first end : ℕ} (held : List KeptHeld)
    (near : AreNear known row indexes (said_all held) first end) where
  -- what is said of one that stands there
  said-at : (i : ℕ) (none : KeptHeld)
      → longer known row indexes (get_or (said_all held) i (said_held none)) ≡ longer known row indexes (said_held (get_or held i none))
  said-at i none = ap (longer known row indexes) (get_or-map said_held held i none)

  pub begins-inside : first ≤ length held
  begins-inside = omega (arith, near.begins, length-map held said_held)

  pub ends-inside : end ≤ length held
  ends-inside = omega (arith, near.ends, length-map held said_held)

  -- from the first that may become longer
  pub longer-begin : (places : List ℕ) (more : List KeptHeld) → places ≡ [] → more ≡ [] → AreLonger known row indexes places more (said_all (take first held))
  longer-begin places more no_places no_more =
      longer-skip held 0 first (omega arith) begins-inside (λ i none past below. sym (said-at i none) ∙ near.before i (said_held none) below)
      (record { places_are = no_places; more_are = ap said_all no_more })

  -- to the last one
  pub longer-end : (places : List ℕ) (more : List KeptHeld) (i : ℕ) → end ≤ i → i ≤ length held
      → AreLonger known row indexes places more (said_all (take i held)) → AreLonger known row indexes places more (said_all held)
  longer-end places more i past inside so_far =
      subst (λ (all : List KeptHeld). AreLonger known row indexes places more (said_all all)) (take_all (length held) held (omega arith))
      (longer-skip held i (length held) inside (omega arith)
      (λ j none behind below.
      sym (said-at j none) ∙ near.behind j (said_held none) (omega (arith, past, behind)) (omega (arith, below, length-map held said_held)))
      so_far)
