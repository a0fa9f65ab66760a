-- Where what is held stands that is listed by a variable: found by halves, and put into the list anew.
use Rattle.std.proofs.Common.{arith, ◌≡◌, ◌≢◌, ◌⊎◌, inl, inr, ⊎_elim, ◌∙◌, sym, ap, refl, subst, ℕ, suc, ◌+◌, ◌<◌, ◌≤◌, true, false, true≢false, nat_eq, set}
use Rattle.std.proofs.Common.{List, [], ◌∷◌, ◌++◌, get_or, length, take, Some}
use Rattle.std.specs.List.{Contains, dedup}
use Rattle.std.specs.List.Sorted.{IsPermutation, IsSorted}
use Rattle.std.specs.Global.{Vec}
use Rattle.std.specs.Ordering.{is_gt, nat_cmp, ordering_reverse}
use Rattle.std.specs.declared.cmp.Ordering.{Ordering}
use Rattle.std.specs.declared.cmp.Ordering.TheVariants.{Less, Equal, Greater}
use Rattle.std.proofs.lemmas.Bool.{cases_Bool, cases_lt, eq-eqb, eqb-true}
use Rattle.std.proofs.lemmas.List.{get_or_default, map-append, take_all, take_more}
use Rattle.std.proofs.lemmas.List.Kept.{Contains-dedup_nat, Contains-from_dedup}
use Rattle.std.proofs.lemmas.List.Sorted.{Contains-permutation, IsPermutation-sym}
use Rattle.std.proofs.lemmas.List.Elements.{Contains-append_cases, Contains-append_left, Contains-append_right}
use Rattle.std.proofs.lemmas.Map.Keys.{IsStrictlyIncreasing-dedup, Less-from_sorted, below_from_sorted, sorted_from_strictly_increasing}
use Rattle.checker_state.specs.declared.bound.Rebinding.{Rebinding}
use Rattle.checker_state.specs.declared.held.Held.{Held as KeptHeld}
use Rattle.checker_state.specs.State.{Held, held_order}
use Rattle.checker_state.specs.View.{held_by, root_of, said_held}
use Rattle.checker_known.specs.Halves.{IsEdge}
use Rattle.checker_known.specs.Order.{disorder_of}
use Rattle.checker_known.specs.Resting.{AreChanging, AreFound, AreListed, AreRising, HasAllAt, HaveAll, IsAt, listed}
use Rattle.checker_known.proofs.HeldLists.{said-there, said_all}
use Rattle.checker_known.proofs.InOrder.{in-order}
use Rattle.checker_state.proofs.HeldOrders.{held-turned}
use Rattle.checker_known.proofs.Listed.{first-or-rest, is-listed, listed-other, listed-set, same-order, settled}

-- ---- where one is held

not-greater : (order : Ordering) → order ≡ Equal → is_gt order ≡ true → ⊥
not-greater Less is passes = cc
not-greater Equal is passes = cc
not-greater Greater is passes = cc

module _ (one : Held) (held : List Held) (count place : ℕ) (ordered : disorder_of held ≡ 0) (whole : count ≡ length held)
    (edge : IsEdge (λ other. is_gt (held_order one other)) held 0 count place) where
  not-before : (other : ℕ) → IsAt one held other → other < place → ⊥
  not-before other at below =
      not-greater (held_order one (get_or held other one)) (ap (held_order one) at.1 ∙ same-order one) (edge.before other one (omega arith) below)

  not-behind : (other : ℕ) → IsAt one held other → place < other → ⊥
  not-behind other at above =
      let here = get_or held place one in
      let less : held_order here one ≡ Less =
      ap (held_order here) (sym at.1) ∙ Less-from_sorted held_order held place other one (in-order held one ordered) above at.0 in
      let turned : held_order one here ≡ Greater = held-turned one here ∙ ap ordering_reverse less in
      true≢false (sym (ap is_gt turned) ∙ edge.behind place one (omega arith) (omega (arith, above, at.0, whole)))

  pub found-there : (other : ℕ) → IsAt one held other → other ≡ place
  found-there other at =
      ⊎_elim (λ (below : other < place). absurd (not-before other at below))
      (λ (up : place ≤ other).
      ⊎_elim (λ (above : place < other). absurd (not-behind other at above)) (λ (not_above : other ≤ place). omega (arith, up, not_above))
      (cases_lt place other))
      (cases_lt other place)

  -- it isn't held where the one at that place is another, or there is none
  pub found-none : (place < length held → held_order one (get_or held place one) ≡ Equal → ⊥) → (other : ℕ) → IsAt one held other → ⊥
  found-none differs other at =
      let same : other ≡ place = found-there other at in
      differs (omega (arith, same, at.0))
      (ap (held_order one) (ap (λ (n : ℕ). get_or held n one) (sym same) ∙ at.1) ∙ same-order one)

-- ---- places that rise

rising-by : (places : List ℕ) (first end : ℕ) → first ≤ end → ((place : ℕ) → Contains places place → (first ≤ place) × (place < end))
    → ((i j : ℕ) → i < j → j < length places → get_or places i 0 < get_or places j 0) → AreRising first places end
rising-by [] first end within inside rises = within
rising-by (place ∷ places) first end within inside rises =
    let here = inside place (0, omega arith, refl) in (
      here.0,
      rising-by places (suc place) end (omega (arith, here.1))
          (λ other has. (
            omega (
              arith,
              subst (λ (n : ℕ). place < n) (get_or_default places has.0 0 other has.1 ∙ has.2)
                  (rises 0 (suc has.0) (omega arith) (omega (arith, has.1))),
            ),
            (inside other (suc has.0, omega (arith, has.1), has.2)).1,
          ))
          (λ i j below within. rises (suc i) (suc j) (omega (arith, below)) (omega (arith, within))),
    )

-- places that were found, sorted and each once
pub rising-found : (list held : List Held) (found sorted places : List ℕ) → AreFound list held found → IsPermutation found sorted
    → IsSorted nat_cmp sorted → places ≡ dedup nat_eq sorted → HaveAll list held places
rising-found list held found sorted places all moved in_order is =
    let rises = sorted_from_strictly_increasing (dedup nat_eq sorted) (IsStrictlyIncreasing-dedup sorted in_order) in
    record {
      rising = rw is (rising-by (dedup nat_eq sorted) 0 (length held) (omega arith)
          (λ place has. (
            omega arith,
            all.inside place (Contains-permutation sorted found place (IsPermutation-sym found sorted moved) (Contains-from_dedup nat_eq sorted place has)),
          ))
          (λ i j below within. below_from_sorted (dedup nat_eq sorted) i j 0 rises below within));
      there = λ one place has at.
          rw is (Contains-dedup_nat sorted place (Contains-permutation found sorted place moved (all.there one place has at)));
    }

-- ---- the places of those of a list that are held

pub found-begin : (held : List Held) → AreFound [] held []
found-begin held = record {
  inside = λ place has. absurd (omega (arith, has.1));
  there = λ one place has at. absurd (omega (arith, has.1));
}

last-or-before : (list : List Held) (next one : Held) → Contains (list ++ next ∷ []) one → Contains list one ⊎ (next ≡ one)
last-or-before list next one has =
    ⊎_elim (λ (before : Contains list one). inl before)
    (λ (last : Contains (next ∷ []) one).
    ⊎_elim (λ (same : next ≡ one). inr same) (λ (none : Contains [] one). absurd (omega (arith, none.1))) (first-or-rest next [] one last))
    (Contains-append_cases list (next ∷ []) one has)

-- one more, which isn't held
found-absent : (list held : List Held) (places : List ℕ) (next : Held) → AreFound list held places
    → ((place : ℕ) → IsAt next held place → ⊥) → AreFound (list ++ next ∷ []) held places
found-absent list held places next found absent = record {
  inside = found.inside;
  there = λ one place has at.
      ⊎_elim (λ (before : Contains list one). found.there one place before at)
      (λ (same : next ≡ one). absurd (absent place (subst (λ (h : Held). IsAt h held place) (sym same) at)))
      (last-or-before list next one has);
}

-- one more, which is held at a place
found-present : (list held : List Held) (places : List ℕ) (next : Held) (place : ℕ) → AreFound list held places → place < length held
    → ((other : ℕ) → IsAt next held other → other ≡ place) → AreFound (list ++ next ∷ []) held (places ++ place ∷ [])
found-present list held places next place found inside there = record {
  inside = λ other has.
      ⊎_elim (λ (before : Contains places other). found.inside other before)
      (λ (last : Contains (place ∷ []) other).
      ⊎_elim (λ (same : place ≡ other). omega (arith, same, inside)) (λ (none : Contains [] other). absurd (omega (arith, none.1)))
      (first-or-rest place [] other last))
      (Contains-append_cases places (place ∷ []) other has);
  there = λ one other has at.
      ⊎_elim (λ (before : Contains list one). Contains-append_left places (place ∷ []) other (found.there one other before at))
      (λ (same : next ≡ one).
      Contains-append_right places (place ∷ []) other
      (0, omega arith, sym (there other (subst (λ (h : Held). IsAt h held other) (sym same) at))))
      (last-or-before list next one has);
}

said-more : (list : List KeptHeld) (i : ℕ) (d : KeptHeld) → i < length list
    → said_all (take i list) ++ said_held (get_or list i d) ∷ [] ≡ said_all (take (i + 1) list)
said-more list i d inside =
    sym (map-append said_held (take i list) (get_or list i d ∷ [])) ∙ ap said_all (sym (take_more list i d inside))

-- the same of the next one of a list
pub next-absent : (list : List KeptHeld) (i : ℕ) (d : KeptHeld) (held : List Held) (places : List ℕ) → i < length list
    → AreFound (said_all (take i list)) held places → ((place : ℕ) → IsAt (said_held (get_or list i d)) held place → ⊥)
    → AreFound (said_all (take (i + 1) list)) held places
next-absent list i d held places inside found absent =
    subst (λ (some : List Held). AreFound some held places) (said-more list i d inside)
    (found-absent (said_all (take i list)) held places (said_held (get_or list i d)) found absent)

pub next-present : (list : List KeptHeld) (i : ℕ) (d : KeptHeld) (held : List Held) (places new : List ℕ) (place : ℕ) → i < length list
    → AreFound (said_all (take i list)) held places
    → (place < length held) × ((other : ℕ) → IsAt (said_held (get_or list i d)) held other → other ≡ place)
    → new ≡ places ++ place ∷ [] → AreFound (said_all (take (i + 1) list)) held new
next-present list i d held places new place inside found is new_is =
    subst (λ (more : List ℕ). AreFound (said_all (take (i + 1) list)) held more) (sym new_is)
    (subst (λ (some : List Held). AreFound some held (places ++ place ∷ [])) (said-more list i d inside)
    (found-present (said_all (take i list)) held places (said_held (get_or list i d)) place found is.0 is.1))

pub found-whole : (list : List KeptHeld) (i : ℕ) (held : List Held) (places : List ℕ) → length list ≤ i
    → AreFound (said_all (take i list)) held places → AreFound (said_all list) held places
found-whole list i held places done found =
    subst (λ (all : List KeptHeld). AreFound (said_all all) held places) (take_all i list done) found

-- ---- what stands at places

pub all-at-none : (held : List Held) → HasAllAt [] held []
all-at-none held = λ one place has at. absurd (omega (arith, has.1))

place-or-before : (places : List ℕ) (i place : ℕ) → i < length places → Contains (take (i + 1) places) place
    → Contains (take i places) place ⊎ (get_or places i 0 ≡ place)
place-or-before places i place inside has =
    ⊎_elim (λ (before : Contains (take i places) place). inl before)
    (λ (last : Contains (get_or places i 0 ∷ []) place).
    ⊎_elim (λ (same : get_or places i 0 ≡ place). inr same) (λ (none : Contains [] place). absurd (omega (arith, none.1)))
    (first-or-rest (get_or places i 0) [] place last))
    (Contains-append_cases (take i places) (get_or places i 0 ∷ []) place (subst (λ (all : List ℕ). Contains all place) (take_more places i 0 inside) has))

-- one place more, where nothing is held
pub all-at-past : (places : List ℕ) (i : ℕ) (held list : List Held) → i < length places → HasAllAt (take i places) held list
    → length held ≤ get_or places i 0 → HasAllAt (take (i + 1) places) held list
all-at-past places i held list inside so_far past = λ one place has at.
    ⊎_elim (λ (before : Contains (take i places) place). so_far one place before at)
    (λ (same : get_or places i 0 ≡ place). absurd (omega (arith, same, past, at.0)))
    (place-or-before places i place inside has)

-- one place more, and what stands there
all-at-more : (places : List ℕ) (i : ℕ) (held list : List Held) (next : Held) → i < length places → HasAllAt (take i places) held list
    → get_or held (get_or places i 0) next ≡ next → HasAllAt (take (i + 1) places) held (list ++ next ∷ [])
all-at-more places i held list next inside so_far is = λ one place has at.
    ⊎_elim (λ (before : Contains (take i places) place). Contains-append_left list (next ∷ []) one (so_far one place before at))
    (λ (same : get_or places i 0 ≡ place).
    let next_is : next ≡ one =
    sym is ∙ ap (λ (n : ℕ). get_or held n next) same ∙ get_or_default held place next one at.0 ∙ at.1 in
    Contains-append_right list (next ∷ []) one (0, omega arith, next_is))
    (place-or-before places i place inside has)

-- the same of what is lent
pub next-held : (places : List ℕ) (i : ℕ) (held there list new : List KeptHeld) (one : KeptHeld) → there ≡ held → i < length places
    → HasAllAt (take i places) (said_all held) (said_all list) → get_or places i 0 < length there → one ≡ get_or there (get_or places i 0) one
    → new ≡ list ++ one ∷ [] → HasAllAt (take (i + 1) places) (said_all held) (said_all new)
next-held places i held there list new one same inside so_far within is new_is =
    let place = get_or places i 0 in
    subst (λ (some : List Held). HasAllAt (take (i + 1) places) (said_all held) some)
    (sym (ap said_all new_is ∙ map-append said_held list (one ∷ [])))
    (all-at-more places i (said_all held) (said_all list) (said_held one) inside so_far
    (said-there held place one (subst (λ (some : List KeptHeld). place < length some) same within)
    (is ∙ ap (λ (some : List KeptHeld). get_or some place one) same)))

-- a list with what stands at the places of all that it lists will do
pub whole-relisted : (lists : List (Vec KeptHeld)) (root : ℕ) (held : List Held) (places : List ℕ) (list : Vec KeptHeld) → root < length lists
    → AreListed lists held → HaveAll (listed lists root) held places → HasAllAt places held (said_all list.items)
    → AreListed (set lists root list) held
whole-relisted lists root held places list inside were all has = λ one held_one.
    let place = held_one.0 in
    let at : IsAt one held place = (held_one.1, held_one.2) in
    is-listed (set lists root list) one (λ how.
    ⊎_elim (λ (stays : held_by how one ≡ Some one). inl stays)
    (λ (there : Contains (listed lists (root_of how)) one).
    inr (⊎_elim
    (λ (same : nat_eq (root_of how) root ≡ true).
    let is : root_of how ≡ root = eqb-true (root_of how) root same in
    let was : Contains (listed lists root) one = subst (λ (n : ℕ). Contains (listed lists n) one) is there in
    subst (λ (n : ℕ). Contains (listed (set lists root list) n) one) (sym is)
    (subst (λ (some : List Held). Contains some one) (sym (listed-set lists root list inside)) (has one place (all.there one place was at) at)))
    (λ (differs : nat_eq (root_of how) root ≡ false).
    let apart : root_of how ≢ root = λ is. true≢false (sym (eq-eqb (root_of how) root is) ∙ differs) in
    subst (λ (some : List Held). Contains some one) (sym (listed-other lists root list inside (root_of how) apart)) there)
    (cases_Bool (nat_eq (root_of how) root))))
    (settled lists one (were one held_one) how))

-- ---- what a rebinding may change

pub changing-at : (how : Rebinding) (root : ℕ) (lists : List (Vec KeptHeld)) (held : List Held) (places : List ℕ) → root ≡ root_of how
    → AreListed lists held → HaveAll (listed lists root) held places → AreChanging how held places
changing-at how root lists held places is were all = record {
  rising = all.rising;
  others = λ one place at.
      ⊎_elim (λ (stays : held_by how one ≡ Some one). inl stays)
      (λ (there : Contains (listed lists (root_of how)) one).
      inr (all.there one place (subst (λ (n : ℕ). Contains (listed lists n) one) (sym is) there) at))
      (settled lists one (were one (place, at.0, at.1)) how);
}
