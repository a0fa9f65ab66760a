-- The knots of a row: how many there are after a change, and what is known of its stretches where there is none.
use Rattle.std.proofs.Common.{arith, ◌≡◌, ◌∙◌, sym, ap, ap₂, refl, subst, ⊎_elim, ℕ, zero, suc, ◌+◌, ◌-◌, ◌<◌, ◌≤◌, Fits, w64, min}
use Rattle.std.proofs.Common.{Bool, true, false, cond, nat_eq, List, [], ◌∷◌, get_or, length, set, Option, Some, None}
use Rattle.std.specs.List.{insert, remove}
use Rattle.std.proofs.Math.ListN.{get_or-map}
use Rattle.std.proofs.lemmas.Bool.{cases_eq, eq-eqb, ne_eqb}
use Rattle.std.proofs.lemmas.List.{get_or-set_other, get_or-set_same, get_or_default, length-map, length-set, map-set}
use Rattle.std.proofs.lemmas.List.Edits.{length-insert, length-remove}
use Rattle.checker_state.specs.declared.held.Held.{Held as KeptHeld}
use Rattle.checker_state.specs.View.{said_held}
use Rattle.checker_state.specs.State.{Held}
use Rattle.checker_known.specs.Knots.{AreCounted, counts, knot, knot_at, knots_of, lowered, raised, recounted}
use Rattle.checker_known.specs.Pairs.{told_at}
use Rattle.checker_known.proofs.HeldLists.{insert-said, remove-said, said-inside, said_all}
use Rattle.checker_known.proofs.Pairs.{around-within, at-within, told-few, told-insert, told-remove, told-set}

-- ---- a place

pub no-knot-first : (held : List Held) → None ≡ knot_at zero held
no-knot-first [] = refl
no-knot-first (one ∷ held) = refl

knot-past : (place : ℕ) (held : List Held) → length held ≤ place → None ≡ knot_at place held
knot-past place [] past = refl
knot-past zero (one ∷ held) past = absurd (omega (arith, past))
knot-past (suc zero) (one ∷ []) past = refl
knot-past (suc zero) (one ∷ next ∷ held) past = absurd (omega (arith, past))
knot-past (suc (suc place)) (one ∷ held) past = knot-past (suc place) held (omega (arith, past))

knot-there : (held : List Held) (place : ℕ) (none : Held) → suc place < length held
    → knot (get_or held place none) (get_or held (suc place) none) ≡ knot_at (suc place) held
knot-there [] place none inside = absurd (omega (arith, inside))
knot-there (one ∷ []) place none inside = absurd (omega (arith, inside))
knot-there (one ∷ next ∷ held) zero none inside = refl
knot-there (one ∷ next ∷ held) (suc place) none inside = knot-there (next ∷ held) place none (omega (arith, inside))

pub knot-none : (place : ℕ) (held : List KeptHeld) → length held ≤ place → None ≡ knot_at place (said_all held)
knot-none place held past = knot-past place (said_all held) (rw length-map past)

knot-kept : (held : List KeptHeld) (before : ℕ) (one next : KeptHeld) → suc before < length held
    → knot (said_held (get_or held before one)) (said_held (get_or held (suc before) next)) ≡ knot_at (suc before) (said_all held)
knot-kept held before one next inside =
    ap₂ knot (sym (get_or-map said_held held before one))
    (ap said_held (get_or_default held (suc before) next one inside) ∙ sym (get_or-map said_held held (suc before) one))
    ∙ knot-there (said_all held) before (said_held one) (said-inside held (suc before) inside)

-- two that stand beside one another
pub knot-beside : (held : List KeptHeld) (place : ℕ) (one next : KeptHeld) → (place ≡ 0 → ⊥) → place < length held
    → knot (said_held (get_or held (place - 1) one)) (said_held (get_or held place next)) ≡ knot_at place (said_all held)
knot-beside held zero one next some inside = absurd (some refl)
knot-beside held (suc before) one next some inside =
    ap (λ (n : ℕ). knot (said_held (get_or held n one)) (said_held (get_or held (suc before) next)))
    (let first : suc before - 1 ≡ before = omega arith in first)
    ∙ knot-kept held before one next inside

-- ---- what is counted

pub count-few : (row : ℕ) (found : Option ℕ) → counts row found ≤ 1
count-few row None = omega arith
count-few row (Some one) = few (nat_eq one row)
  where
    few : (same : Bool) → cond same 1 0 ≤ 1
    few true = omega arith
    few false = omega arith

abbrev told_knot : ℕ → Held → Held → ℕ
told_knot row one next = counts row (knot one next)

counts-at : (row place : ℕ) (held : List Held) → counts row (knot_at place held) ≡ told_at (told_knot row) place held
counts-at row place [] = refl
counts-at row zero (one ∷ held) = refl
counts-at row (suc zero) (one ∷ []) = refl
counts-at row (suc zero) (one ∷ next ∷ held) = refl
counts-at row (suc (suc place)) (one ∷ held) = counts-at row (suc place) held

counted-less : (gone : Option ℕ) (knots : List ℕ) (row : ℕ) → row < length knots → get_or (lowered gone knots) row 0 ≡ get_or knots row 0 - counts row gone
counted-less None knots row inside = omega arith
counted-less (Some one) knots row inside =
    ⊎_elim (λ (same : one ≡ row).
    let counted : counts row (Some one) ≡ 1 = ap (λ (b : Bool). cond b 1 0) (eq-eqb one row same) in
    ap (λ (n : ℕ). get_or (set knots n (get_or knots n 0 - 1)) row 0) same ∙ get_or-set_same knots row (get_or knots row 0 - 1) 0 inside
    ∙ ap (λ (n : ℕ). get_or knots row 0 - n) (sym counted))
    (λ (differ : one ≡ row → ⊥).
    let counted : counts row (Some one) ≡ 0 = ap (λ (b : Bool). cond b 1 0) (ne_eqb one row differ) in
    get_or-set_other knots one row (get_or knots one 0 - 1) 0 (λ (same : row ≡ one). differ (sym same)) ∙ (omega (arith, counted)))
    (cases_eq one row)

counted-more : (come : Option ℕ) (knots : List ℕ) (row : ℕ) → row < length knots
    → min (get_or knots row 0 + counts row come) 18446744073709551615 ≤ get_or (raised come knots) row 0
counted-more None knots row inside = omega arith
counted-more (Some one) knots row inside =
    ⊎_elim (λ (same : one ≡ row).
    let counted : counts row (Some one) ≡ 1 = ap (λ (b : Bool). cond b 1 0) (eq-eqb one row same) in
    let is : get_or (raised (Some one) knots) row 0 ≡ min (get_or knots row 0 + 1) 18446744073709551615 =
    ap (λ (n : ℕ). get_or (set knots n (min (get_or knots n 0 + 1) 18446744073709551615)) row 0) same
    ∙ get_or-set_same knots row (min (get_or knots row 0 + 1) 18446744073709551615) 0 inside in
    omega (arith, is, counted))
    (λ (differ : one ≡ row → ⊥).
    let counted : counts row (Some one) ≡ 0 = ap (λ (b : Bool). cond b 1 0) (ne_eqb one row differ) in
    let is : get_or (raised (Some one) knots) row 0 ≡ get_or knots row 0 =
    get_or-set_other knots one row (min (get_or knots one 0 + 1) 18446744073709551615) 0 (λ (same : row ≡ one). differ (sym same)) in
    omega (arith, is, counted))
    (cases_eq one row)

lowered-length : (gone : Option ℕ) (knots : List ℕ) → length (lowered gone knots) ≡ length knots
lowered-length None knots = refl
lowered-length (Some one) knots = length-set knots one (get_or knots one 0 - 1)

raised-length : (come : Option ℕ) (knots : List ℕ) → length (raised come knots) ≡ length knots
raised-length None knots = refl
raised-length (Some one) knots = length-set knots one (min (get_or knots one 0 + 1) 18446744073709551615)

-- what is counted of a row, where some knots went and some came
pub recounted-row : (gone come : Option ℕ × Option ℕ) (knots : List ℕ) (row now then : ℕ) → row < length (recounted gone come knots)
    → now ≤ get_or knots row 0 → counts row gone.0 + counts row gone.1 ≤ now
    → then + (counts row gone.0 + counts row gone.1) ≡ now + (counts row come.0 + counts row come.1) → then ≤ 18446744073709551615
    → then ≤ get_or (recounted gone come knots) row 0
recounted-row gone come knots row now then inside counted within is few =
    let one = lowered gone.0 knots in
    let two = lowered gone.1 one in
    let three = raised come.0 two in
    let n1 : length one ≡ length knots = lowered-length gone.0 knots in
    let n2 : length two ≡ length one = lowered-length gone.1 one in
    let n3 : length three ≡ length two = raised-length come.0 two in
    let n4 : length (raised come.1 three) ≡ length three = raised-length come.1 three in
    let there : row < length knots = omega (arith, inside, n1, n2, n3, n4) in
    let v1 = counted-less gone.0 knots row there in
    let v2 = counted-less gone.1 one row (omega (arith, there, n1)) in
    let v3 = counted-more come.0 two row (omega (arith, there, n1, n2)) in
    let v4 = counted-more come.1 three row (omega (arith, there, n1, n2, n3)) in
    omega (arith, v1, v2, v3, v4, counted, within, is, few)

pub recounted-length : (gone come : Option ℕ × Option ℕ) (knots : List ℕ) → length (recounted gone come knots) ≡ length knots
recounted-length gone come knots =
    let one = lowered gone.0 knots in
    let two = lowered gone.1 one in
    let three = raised come.0 two in
    raised-length come.1 three ∙ raised-length come.0 two ∙ lowered-length gone.1 one ∙ lowered-length gone.0 knots

-- ---- after a change

module _ (held new held_there new_there : List KeptHeld) (place : ℕ) (knots new_knots : List ℕ) (gone come : Option ℕ × Option ℕ)
    (counted : AreCounted knots (said_all held)) (short : Fits w64 (length held)) (held_same : held_there ≡ held) (new_same : new_there ≡ new)
    (knots_are : new_knots ≡ recounted gone come knots) where
  -- the same counted for each row
  changed : ((row : ℕ) → counts row gone.0 + counts row gone.1 ≤ knots_of row (said_all held))
      → ((row : ℕ) → knots_of row (said_all new) + (counts row gone.0 + counts row gone.1)
      ≡ knots_of row (said_all held) + (counts row come.0 + counts row come.1))
      → length (said_all new) ≤ length held + 1 → AreCounted new_knots (said_all new)
  changed within is many = λ row inside.
      let inside_new : row < length (recounted gone come knots) = subst (λ (some : List ℕ). row < length some) knots_are inside in
      let there : row < length knots = omega (arith, inside_new, recounted-length gone come knots) in
      let few : knots_of row (said_all new) ≤ 18446744073709551615 =
      omega (arith, told-few (told_knot row) (λ one next. count-few row (knot one next)) (said_all new), many, short) in
      subst (λ (some : List ℕ). knots_of row (said_all new) ≤ get_or some row 0) (sym knots_are)
      (recounted-row gone come knots row (knots_of row (said_all held)) (knots_of row (said_all new)) inside_new (counted row there) (within row) (is row) few)

  -- what was and what is there of a place, and of a place and the next
  at-held : (row place : ℕ) (found : Option ℕ) → found ≡ knot_at place (said_all held_there) → counts row found ≡ told_at (told_knot row) place (said_all held)
  at-held row place found is =
      ap (counts row) (is ∙ ap (λ (h : List KeptHeld). knot_at place (said_all h)) held_same) ∙ counts-at row place (said_all held)

  at-new : (row place : ℕ) (found : Option ℕ) → found ≡ knot_at place (said_all new_there) → counts row found ≡ told_at (told_knot row) place (said_all new)
  at-new row place found is =
      ap (counts row) (is ∙ ap (λ (h : List KeptHeld). knot_at place (said_all h)) new_same) ∙ counts-at row place (said_all new)

  pub knots-inserted : (one : KeptHeld) → place ≤ length held → new ≡ insert held place one
      → gone.0 ≡ knot_at place (said_all held_there) → gone.1 ≡ None → come.0 ≡ knot_at place (said_all new_there)
      → come.1 ≡ knot_at (suc place) (said_all new_there) → AreCounted new_knots (said_all new)
  knots-inserted one inside new_is gone_is none come_is next_is =
      let all = said_all held in
      let all_new : said_all new ≡ insert all place (said_held one) = ap said_all new_is ∙ insert-said held place one in
      let inside_all : place ≤ length all = rw length-map inside in
      changed
      (λ row.
      let g : counts row gone.0 ≡ told_at (told_knot row) place all = at-held row place gone.0 gone_is in
      let n : counts row gone.1 ≡ 0 = ap (counts row) none in
      omega (arith, at-within (told_knot row) place all, g, n))
      (λ row.
      let g : counts row gone.0 ≡ told_at (told_knot row) place all = at-held row place gone.0 gone_is in
      let n : counts row gone.1 ≡ 0 = ap (counts row) none in
      let c : counts row come.0 ≡ told_at (told_knot row) place (insert all place (said_held one)) =
      at-new row place come.0 come_is ∙ ap (told_at (told_knot row) place) all_new in
      let d : counts row come.1 ≡ told_at (told_knot row) (suc place) (insert all place (said_held one)) =
      at-new row (suc place) come.1 next_is ∙ ap (told_at (told_knot row) (suc place)) all_new in
      let k : knots_of row (said_all new) ≡ knots_of row (insert all place (said_held one)) = ap (knots_of row) all_new in
      omega (arith, told-insert (told_knot row) all place (said_held one) inside_all, g, n, c, d, k))
      (let n : length (said_all new) ≡ length all + 1 = ap length all_new ∙ length-insert all place (said_held one) inside_all in
      omega (arith, n, length-map held said_held))

  pub knots-removed : place < length held → new ≡ remove held place
      → gone.0 ≡ knot_at place (said_all held_there) → gone.1 ≡ knot_at (suc place) (said_all held_there)
      → come.0 ≡ knot_at place (said_all new_there) → come.1 ≡ None → AreCounted new_knots (said_all new)
  knots-removed inside new_is gone_is next_is come_is none =
      let all = said_all held in
      let all_new : said_all new ≡ remove all place = ap said_all new_is ∙ remove-said held place in
      let inside_all : place < length all = rw length-map inside in
      changed
      (λ row.
      let g : counts row gone.0 ≡ told_at (told_knot row) place all = at-held row place gone.0 gone_is in
      let n : counts row gone.1 ≡ told_at (told_knot row) (suc place) all = at-held row (suc place) gone.1 next_is in
      omega (arith, around-within (told_knot row) place all, g, n))
      (λ row.
      let g : counts row gone.0 ≡ told_at (told_knot row) place all = at-held row place gone.0 gone_is in
      let n : counts row gone.1 ≡ told_at (told_knot row) (suc place) all = at-held row (suc place) gone.1 next_is in
      let c : counts row come.0 ≡ told_at (told_knot row) place (remove all place) =
      at-new row place come.0 come_is ∙ ap (told_at (told_knot row) place) all_new in
      let d : counts row come.1 ≡ 0 = ap (counts row) none in
      let k : knots_of row (said_all new) ≡ knots_of row (remove all place) = ap (knots_of row) all_new in
      omega (arith, told-remove (told_knot row) all place inside_all, g, n, c, d, k))
      (let n : length (said_all new) + 1 ≡ length all = ap (λ (h : List Held). length h + 1) all_new ∙ length-remove all place inside_all in
      omega (arith, n, length-map held said_held))

  pub knots-set : (one : KeptHeld) → place < length held → new ≡ set held place one
      → gone.0 ≡ knot_at place (said_all held_there) → gone.1 ≡ knot_at (suc place) (said_all held_there)
      → come.0 ≡ knot_at place (said_all new_there) → come.1 ≡ knot_at (suc place) (said_all new_there) → AreCounted new_knots (said_all new)
  knots-set one inside new_is gone_is next_is come_is more_is =
      let all = said_all held in
      let all_new : said_all new ≡ set all place (said_held one) = ap said_all new_is ∙ map-set said_held held place one in
      let inside_all : place < length all = rw length-map inside in
      changed
      (λ row.
      let g : counts row gone.0 ≡ told_at (told_knot row) place all = at-held row place gone.0 gone_is in
      let n : counts row gone.1 ≡ told_at (told_knot row) (suc place) all = at-held row (suc place) gone.1 next_is in
      omega (arith, around-within (told_knot row) place all, g, n))
      (λ row.
      let g : counts row gone.0 ≡ told_at (told_knot row) place all = at-held row place gone.0 gone_is in
      let n : counts row gone.1 ≡ told_at (told_knot row) (suc place) all = at-held row (suc place) gone.1 next_is in
      let c : counts row come.0 ≡ told_at (told_knot row) place (set all place (said_held one)) =
      at-new row place come.0 come_is ∙ ap (told_at (told_knot row) place) all_new in
      let d : counts row come.1 ≡ told_at (told_knot row) (suc place) (set all place (said_held one)) =
      at-new row (suc place) come.1 more_is ∙ ap (told_at (told_knot row) (suc place)) all_new in
      let k : knots_of row (said_all new) ≡ knots_of row (set all place (said_held one)) = ap (knots_of row) all_new in
      omega (arith, told-set (told_knot row) all place (said_held one) inside_all, g, n, c, d, k))
      (let n : length (said_all new) ≡ length all = ap length all_new ∙ length-set all place (said_held one) in
      omega (arith, n, length-map held said_held))
