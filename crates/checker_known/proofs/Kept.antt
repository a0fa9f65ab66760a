-- What is held in its order, and what already stands there: that changes nothing where it is held once more.
use Rattle.std.proofs.Common.{arith, ◌≡◌, ◌⊎◌, inl, inr, ◌∙◌, sym, ap, refl, subst, ℕ, zero, suc, ◌+◌, ◌<◌, Bool, true, false, cond}
use Rattle.std.proofs.Common.{List, [], ◌∷◌, ◌++◌, append_assoc, append-nil, filter, get_or, length, take}
use Rattle.std.specs.List.{AllByRecursion, Contains}
use Rattle.std.specs.List.Sorted.{IsStrictlySortedBy}
use Rattle.std.specs.declared.cmp.Ordering.{Ordering}
use Rattle.std.specs.declared.cmp.Ordering.TheVariants.{Less, Equal, Greater}
use Rattle.std.specs.Ordering.{ordering_reverse}
use Rattle.std.proofs.lemmas.Cmp.{tied_itself}
use Rattle.std.proofs.lemmas.List.{get_or_default, length-map, take_more}
use Rattle.std.proofs.lemmas.List.Elements.{filter-append}
use Rattle.std.proofs.lemmas.List.{map-append}
use Rattle.checker_state.specs.declared.held.Held.{Held as KeptHeld}
use Rattle.checker_state.specs.State.{Held, held_order, put, with_more, with_one}
use Rattle.checker_state.specs.View.{said_held}
use Rattle.checker_known.specs.Told.{ToldLeaves}
use Rattle.checker_known.specs.Order.{disorder_of}
use Rattle.checker_known.specs.Knowledge.{kept_by}
use Rattle.checker_known.proofs.HeldLists.{more-append, said_all}
use Rattle.checker_known.proofs.InOrder.{in-order, there}
use Rattle.checker_state.proofs.HeldOrders.{held-total, no_held}

-- ---- in order

abbrev InOrder : List Held → Type 0
InOrder = IsStrictlySortedBy held_order

abbrev Behind : Held → List Held → Type 0
Behind one = AllByRecursion (λ (other : Held). held_order one other ≡ Less)

greater-less : (one other : Held) → held_order one other ≡ Greater → held_order other one ≡ Less
greater-less one other is = held-total.antisymm other one ∙ ap ordering_reverse is

less-greater : (one other : Held) → held_order one other ≡ Less → held_order other one ≡ Greater
less-greater one other is = held-total.antisymm other one ∙ ap ordering_reverse is

behind-more : (one first : Held) (held : List Held) → held_order one first ≡ Less → Behind first held → Behind one held
behind-more one first [] less behind = tt
behind-more one first (next ∷ held) less behind = (held-total.trans one first next less behind.0, behind-more one first held less behind.1)

-- one that lies behind another does so among others
module _ (least one : Held) (less : held_order least one ≡ Less) where
  behind-put : (order : Ordering) (first : Held) (rest longer : List Held) → Behind least (first ∷ rest) → Behind least longer
      → Behind least (put order one first rest longer)
  behind-put Less first rest longer all longer_all = (less, all)
  behind-put Equal first rest longer all longer_all = all
  behind-put Greater first rest longer all longer_all = (all.0, longer_all)

  behind-one : (held : List Held) → Behind least held → Behind least (with_one one held)
  behind-one [] all = (less, tt)
  behind-one (first ∷ rest) all = behind-put (held_order one first) first rest (with_one one rest) all (behind-one rest all.1)

module _ (one : Held) where
  order-put : (order : Ordering) (first : Held) (rest : List Held) → held_order one first ≡ order → InOrder (first ∷ rest)
      → InOrder (with_one one rest) → InOrder (put order one first rest (with_one one rest))
  unfolding IsStrictlySortedBy
  order-put Less first rest is all longer = ((is, behind-more one first rest is all.0), all)
  order-put Equal first rest is all longer = all
  order-put Greater first rest is all longer = (behind-one first one (greater-less one first is) rest all.0, longer)

  pub order-one : (held : List Held) → InOrder held → InOrder (with_one one held)
  unfolding IsStrictlySortedBy
  order-one [] all = (tt, tt)
  order-one (first ∷ rest) all = order-put (held_order one first) first rest refl all (order-one rest all.1)

pub order-more : (more held : List Held) → InOrder held → InOrder (with_more more held)
order-more [] held all = all
order-more (one ∷ more) held all = order-more more (with_one one held) (order-one one held all)

-- ---- among others

abbrev pub Among : Held → List Held → Type 0
Among one [] = ⊥
Among one (first ∷ held) = (first ≡ one) ⊎ Among one held

pub among-contains : (one : Held) (held : List Held) → Among one held → Contains held one
among-contains one [] has = absurd has
among-contains one (first ∷ held) (inl same) = (0, omega arith, same)
among-contains one (first ∷ held) (inr has) = behind (among-contains one held has)
  where
    behind : Contains held one → Contains (first ∷ held) one
    behind (place, within, is) = (suc place, omega arith, is)

pub contains-among : (one : Held) (held : List Held) → Contains held one → Among one held
contains-among one [] (place, within, is) = absurd (omega (arith, within))
contains-among one (first ∷ held) (zero, within, is) = inl is
contains-among one (first ∷ held) (suc place, within, is) = inr (contains-among one held (place, omega (arith, within), is))

module _ (one : Held) where
  among-put : (new : Held) (order : Ordering) (first : Held) (rest longer : List Held) → Among one (first ∷ rest) → (Among one rest → Among one longer)
      → Among one (put order new first rest longer)
  among-put new Less first rest longer has more = inr has
  among-put new Equal first rest longer has more = has
  among-put new Greater first rest longer (inl same) more = inl same
  among-put new Greater first rest longer (inr has) more = inr (more has)

  among-one : (new : Held) (held : List Held) → Among one held → Among one (with_one new held)
  among-one new [] has = absurd has
  among-one new (first ∷ rest) has = among-put new (held_order new first) first rest (with_one new rest) has (among-one new rest)

  among-more : (more held : List Held) → Among one held → Among one (with_more more held)
  among-more [] held has = has
  among-more (new ∷ more) held has = among-more more (with_one new held) (among-one new held has)

  less-there : (first : Held) (held : List Held) → Behind first held → Among one held → held_order first one ≡ Less
  less-there first [] all has = absurd has
  less-there first (next ∷ held) all (inl same) = ap (held_order first) (sym same) ∙ all.0
  less-there first (next ∷ held) all (inr has) = less-there first held all.1 has

  -- what is held in its order already has one
  pub already : (held : List Held) → InOrder held → Among one held → with_one one held ≡ held
  unfolding IsStrictlySortedBy
  already [] all has = absurd has
  already (first ∷ rest) all (inl same) =
      ap (λ (order : Ordering). put order one first rest (with_one one rest))
      (ap (held_order one) same ∙ tied_itself held-total one)
  already (first ∷ rest) all (inr has) =
      ap (λ (order : Ordering). put order one first rest (with_one one rest)) (less-greater first one (less-there first rest all.0 has))
      ∙ ap (λ (longer : List Held). first ∷ longer) (already rest all.1 has)

-- ---- what stands in its order is the same where it is held anew

less-middle : (least : Held) (first : List Held) (one : Held) (rest : List Held) → Behind least (first ++ one ∷ rest) → held_order least one ≡ Less
less-middle least [] one rest all = all.0
less-middle least (other ∷ first) one rest all = less-middle least first one rest all.1

comes-last : (first : List Held) (one : Held) (rest : List Held) → InOrder (first ++ one ∷ rest) → with_one one first ≡ first ++ one ∷ []
unfolding IsStrictlySortedBy
comes-last [] one rest all = refl
comes-last (other ∷ first) one rest all =
    ap (λ (order : Ordering). put order one other first (with_one one first)) (less-greater other one (less-middle other first one rest all.0))
    ∙ ap (λ (longer : List Held). other ∷ longer) (comes-last first one rest all.1)

behind-anew : (rest first : List Held) → InOrder (first ++ rest) → with_more rest first ≡ first ++ rest
behind-anew [] first all = sym (append-nil first)
behind-anew (one ∷ rest) first all =
    ap (with_more rest) (comes-last first one rest all)
    ∙ behind-anew rest (first ++ one ∷ []) (subst InOrder (sym (append_assoc first (one ∷ []) rest)) all)
    ∙ append_assoc first (one ∷ []) rest

pub same-anew : (none : Held) (held : List Held) → disorder_of held ≡ 0 → with_more held [] ≡ held
same-anew none held ordered = behind-anew held [] (in-order held none ordered)

-- ---- those that stay

behind-kept : (first : Held) (kept : List Bool) (held : List Held) → Behind first held → Behind first (kept_by kept held)
behind-kept first [] [] all = all
behind-kept first [] (one ∷ held) all = all
behind-kept first (b ∷ kept) [] all = all
behind-kept first (true ∷ kept) (one ∷ held) all = (all.0, behind-kept first kept held all.1)
behind-kept first (false ∷ kept) (one ∷ held) all = behind-kept first kept held all.1

pub order-kept : (kept : List Bool) (held : List Held) → InOrder held → InOrder (kept_by kept held)
unfolding IsStrictlySortedBy
order-kept [] [] all = all
order-kept [] (one ∷ held) all = all
order-kept (b ∷ kept) [] all = all
order-kept (true ∷ kept) (one ∷ held) all = (behind-kept one kept held all.0, order-kept kept held all.1)
order-kept (false ∷ kept) (one ∷ held) all = order-kept kept held all.1

pub among-kept : (one : Held) (kept : List Bool) (held : List Held) (place : ℕ) → get_or kept place false ≡ true → place < length held
    → get_or held place one ≡ one → Among one (kept_by kept held)
among-kept one [] held place stays inside is = absurd (cc)
among-kept one (b ∷ kept) [] place stays inside is = absurd (omega (arith, inside))
among-kept one (true ∷ kept) (first ∷ held) zero stays inside is = inl is
among-kept one (false ∷ kept) (first ∷ held) zero stays inside is = absurd (cc)
among-kept one (true ∷ kept) (first ∷ held) (suc place) stays inside is = inr (among-kept one kept held place stays (omega (arith, inside)) is)
among-kept one (false ∷ kept) (first ∷ held) (suc place) stays inside is = among-kept one kept held place stays (omega (arith, inside)) is

pub stays-there : (kept : List Bool) (held : List KeptHeld) (place : ℕ) (one next : KeptHeld) → get_or kept place false ≡ true → place < length held
    → next ≡ get_or held place next → said_held one ≡ said_held next → Contains (kept_by kept (said_all held)) (said_held one)
stays-there kept held place one next stays inside is same =
    among-contains (said_held one) (kept_by kept (said_all held))
    (among-kept (said_held one) kept (said_all held) place stays (rw length-map inside)
    (there (λ (h : Held). h) held place next (said_held one) inside is ∙ sym same))

-- ---- what is held elsewhere, but for what stays

some-more : (test : Held → Bool) (first : List Held) (one : Held) (held : List Held)
    → with_more (filter test (first ++ one ∷ [])) held ≡ with_more (filter test (one ∷ [])) (with_more (filter test first) held)
some-more test first one held =
    ap (λ (some : List Held). with_more some held) (filter-append test first (one ∷ []))
    ∙ more-append (filter test first) (filter test (one ∷ [])) held

module _ (left there stay : List Held) (one : Held) (so_far : ToldLeaves left there stay) where
  leaves-more : ToldLeaves (left ++ one ∷ []) (there ++ one ∷ []) stay
  leaves-more test =
      some-more test left one stay ∙ ap (with_more (filter test (one ∷ []))) (so_far test) ∙ sym (some-more test there one stay)

  same-held : (test : Held → Bool) (b : Bool) (held : List Held) → with_one one held ≡ held → with_more (cond b (one ∷ []) []) held ≡ held
  same-held test true held is = is
  same-held test false held is = refl

  leaves-out : InOrder stay → Among one stay → ToldLeaves left (there ++ one ∷ []) stay
  leaves-out ordered has test =
      so_far test
      ∙ sym (same-held test (test one) (with_more (filter test there) stay)
      (already one (with_more (filter test there) stay) (order-more (filter test there) stay ordered) (among-more one (filter test there) stay has)))
      ∙ sym (some-more test there one stay)

said-more : (held : List KeptHeld) (i : ℕ) (one : KeptHeld) → i < length held → one ≡ get_or held i one
    → said_all (take (i + 1) held) ≡ said_all (take i held) ++ said_held one ∷ []
said-more held i one inside is =
    ap said_all (take_more held i one inside) ∙ map-append said_held (take i held) (get_or held i one ∷ [])
    ∙ ap (λ (h : KeptHeld). said_all (take i held) ++ said_held h ∷ []) (sym is)

module _ (stay : List Held) (held : List KeptHeld) (i : ℕ) (inside : i < length held) where
  abbrev one : KeptHeld
  one = get_or held i no_held

  is : one ≡ get_or held i one
  is = get_or_default held i no_held one inside

  more-here : (found new : List KeptHeld) → ToldLeaves (said_all found) (said_all (take i held)) stay → new ≡ found ++ one ∷ []
      → ToldLeaves (said_all new) (said_all (take (i + 1) held)) stay
  more-here found new so_far new_is =
      subst (λ (l : List Held). ToldLeaves l (said_all (take (i + 1) held)) stay)
      (sym (ap said_all new_is ∙ map-append said_held found (one ∷ [])))
      (subst (λ (t : List Held). ToldLeaves (said_all found ++ said_held one ∷ []) t stay) (sym (said-more held i one inside is))
      (leaves-more (said_all found) (said_all (take i held)) stay (said_held one) so_far))

  same-here : (found : List KeptHeld) → ToldLeaves (said_all found) (said_all (take i held)) stay → InOrder stay → Among (said_held one) stay
      → ToldLeaves (said_all found) (said_all (take (i + 1) held)) stay
  same-here found so_far ordered has =
      subst (λ (t : List Held). ToldLeaves (said_all found) t stay) (sym (said-more held i one inside is))
      (leaves-out (said_all found) (said_all (take i held)) stay (said_held one) so_far ordered has)

module _ (stay : List Held) (held there : List KeptHeld) (i : ℕ) (same : there ≡ held) (inside : i < length there) (found : List KeptHeld)
    (so_far : ToldLeaves (said_all found) (said_all (take i held)) stay) where
  here : ToldLeaves (said_all found) (said_all (take i there)) stay
  here = subst (λ (h : List KeptHeld). ToldLeaves (said_all found) (said_all (take i h)) stay) (sym same) so_far

  -- one more is left, or left out since it stays
  pub others-more : (new : List KeptHeld) → new ≡ found ++ get_or there i no_held ∷ [] → ToldLeaves (said_all new) (said_all (take (i + 1) held)) stay
  others-more new new_is =
      subst (λ (h : List KeptHeld). ToldLeaves (said_all new) (said_all (take (i + 1) h)) stay) same (more-here stay there i inside found new here new_is)

  pub others-same : (none : Held) (kept : List Bool) (asked : List KeptHeld) → stay ≡ kept_by kept (said_all asked) → disorder_of (said_all asked) ≡ 0
      → Contains stay (said_held (get_or there i no_held)) → ToldLeaves (said_all found) (said_all (take (i + 1) held)) stay
  others-same none kept asked stay_is ordered has =
      subst (λ (h : List KeptHeld). ToldLeaves (said_all found) (said_all (take (i + 1) h)) stay) same
      (same-here stay there i inside found here
      (subst InOrder (sym stay_is) (order-kept kept (said_all asked) (in-order (said_all asked) none ordered)))
      (contains-among (said_held (get_or there i no_held)) stay has))
