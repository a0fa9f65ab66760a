-- What is held in its order: how much of it is out of that order, and where those stand that stand together.
use Rattle.std.proofs.Common.{arith, ◌≡◌, Fits, w64, ⊎_elim, ◌∙◌, sym, ap, ap₂, refl, subst, ℕ, zero, suc, ◌+◌, ◌<◌, ◌≤◌}
use Rattle.std.proofs.Common.{Bool, true, false, ◌||◌}
use Rattle.std.proofs.Common.{List, [], ◌∷◌, ◌-◌, get_or, length, set}
use Rattle.std.specs.List.{insert, list_any, remove}
use Rattle.std.specs.List.Sorted.{IsStrictlySortedBy}
use Rattle.std.specs.Ordering.{is_gt, ordering_reverse, ordering_then}
use Rattle.std.specs.Cmp.{IsTotalOrder}
use Rattle.std.specs.declared.cmp.Ordering.{Ordering}
use Rattle.std.specs.declared.cmp.Ordering.TheVariants.{Less, Equal, Greater}
use Rattle.std.proofs.lemmas.Bool.{cases_lt}
use Rattle.std.proofs.lemmas.Cmp.{alike_right}
use Rattle.std.proofs.lemmas.List.Folds.{list_any_at}
use Rattle.std.proofs.lemmas.Map.Keys.{Less-from_sorted, sorted_from_all_adjacent}
use Rattle.std.proofs.Math.ListN.{get_or-map}
use Rattle.std.proofs.lemmas.List.{get_or_default, length-map, length-set, map-set}
use Rattle.std.proofs.lemmas.List.Edits.{length-insert, length-remove}
use Rattle.checker_state.specs.declared.held.Group.{Group}
use Rattle.checker_state.specs.declared.held.Held.{Held as KeptHeld}
use Rattle.checker_state.specs.View.{said_held}
use Rattle.checker_state.specs.State.{Held, group_of, held_order}
use Rattle.checker_state.proofs.HeldOrders.{by-group, groups-total, held-chain, held-total, held-turned}
use Rattle.checker_known.specs.Halves.{Falls, IsEdge}
use Rattle.checker_known.specs.Order.{AreBetween, AreOf, comes_before, disorder_of, out_of_order, stands, wrong, wrong_around, wrong_at}
use Rattle.checker_known.proofs.Pairs.{around-within, at-few, at-within, none-first, told-few, told-insert, told-nothing, told-past, told-remove}
use Rattle.checker_known.proofs.Pairs.{told-set, told-there}
use Rattle.checker_known.proofs.HeldLists.{ComesBehind, any-said, comes-behind, insert-said, remove-said, said-inside, said-there, said_all}

-- ---- disorder

wrong-few : (order : Ordering) → wrong order ≤ 1
wrong-few Less = omega arith
wrong-few Equal = omega arith
wrong-few Greater = omega arith

disorder-few : (held : List Held) → disorder_of held ≤ length held - 1
disorder-few = told-few out_of_order (λ one next. wrong-few (held_order one next))

-- ---- a place

pub wrong-first : (place : ℕ) (held : List Held) → place ≡ 0 → 0 ≡ wrong_at place held
wrong-first place held is = sym (ap (λ (n : ℕ). wrong_at n held) is ∙ none-first out_of_order held)

wrong-kept : (held : List KeptHeld) (before : ℕ) (one next : KeptHeld) → suc before < length held
    → wrong (held_order (said_held (get_or held before one)) (said_held (get_or held (suc before) next))) ≡ wrong_at (suc before) (said_all held)
wrong-kept held before one next inside =
    ap₂ (λ (a b : Held). wrong (held_order a b)) (sym (get_or-map said_held held before one))
    (ap said_held (get_or_default held (suc before) next one inside) ∙ sym (get_or-map said_held held (suc before) one))
    ∙ told-there out_of_order (said_all held) before (said_held one) (said-inside held (suc before) inside)

-- two that stand beside one another
pub wrong-beside : (held : List KeptHeld) (place : ℕ) (one next : KeptHeld) (order : Ordering) → (place ≡ 0 → ⊥) → place < length held
    → order ≡ held_order (said_held (get_or held (place - 1) one)) (said_held (get_or held place next)) → wrong order ≡ wrong_at place (said_all held)
wrong-beside held zero one next order some inside is = absurd (some refl)
wrong-beside held (suc before) one next order some inside is =
    let first : suc before - 1 ≡ before = omega arith in
    ap wrong is
    ∙ ap (λ (n : ℕ). wrong (held_order (said_held (get_or held n one)) (said_held (get_or held (suc before) next)))) first
    ∙ wrong-kept held before one next inside

pub wrong-not : (order : Ordering) → (order ≡ Less → ⊥) → 1 ≡ wrong order
wrong-not Less not_less = absurd (not_less refl)
wrong-not Equal not_less = refl
wrong-not Greater not_less = refl

pub wrong-none : (place : ℕ) (held : List KeptHeld) → length held ≤ place → 0 ≡ wrong_at place (said_all held)
wrong-none place held past = told-past out_of_order place (said_all held) (rw length-map past)

pub wrong-neither : (place : ℕ) (held : List KeptHeld) → length held ≤ place → 0 ≡ wrong_around place (said_all held)
wrong-neither place held past = omega (arith, wrong-none place held past, wrong-none (suc place) held (omega (arith, past)))

few-at : (place : ℕ) (held : List Held) → wrong_at place held ≤ 1
few-at = at-few out_of_order (λ one next. wrong-few (held_order one next))

pub around-fits : (place : ℕ) (held : List Held) (first rest : ℕ) → first ≡ wrong_at place held → rest ≡ wrong_at (place + 1) held → Fits w64 (first + rest)
around-fits place held first rest first_is rest_is = omega (arith, first_is, rest_is, few-at place held, few-at (place + 1) held)

-- ---- after a change

-- how much is out of order before and after
pub record Recounted (now was more : ℕ) (new : List KeptHeld) : Type 0 where
  pub fits : Fits w64 (now - was + more)
  pub count : now - was + more ≡ disorder_of (said_all new)

module _ (held there : List KeptHeld) (place now was : ℕ) (now_is : now ≡ disorder_of (said_all held)) (same : there ≡ held) where
  pub was-within : was ≡ wrong_at place (said_all there) → was ≤ now
  was-within is =
      let was_at : was ≡ wrong_at place (said_all held) = is ∙ ap (λ (h : List KeptHeld). wrong_at place (said_all h)) same in
      omega (arith, at-within out_of_order place (said_all held), was_at, now_is)

  pub were-within : was ≡ wrong_around place (said_all there) → was ≤ now
  were-within is =
      let was_at : was ≡ wrong_around place (said_all held) = is ∙ ap (λ (h : List KeptHeld). wrong_around place (said_all h)) same in
      omega (arith, around-within out_of_order place (said_all held), was_at, now_is)

module _ (held new held_there new_there : List KeptHeld) (place now was more : ℕ) (now_is : now ≡ disorder_of (said_all held))
    (short : Fits w64 (length held)) (held_same : held_there ≡ held) (new_same : new_there ≡ new) where
  recounted : now - was + more ≡ disorder_of (said_all new) → length (said_all new) ≤ length held + 1 → Recounted now was more new
  recounted count many = record {
    fits = omega (arith, disorder-few (said_all new), count, many, short);
    count = count;
  }

  abbrev pub WasAt : Type 0
  WasAt = was ≡ wrong_at place (said_all held_there)

  abbrev pub WasAround : Type 0
  WasAround = was ≡ wrong_around place (said_all held_there)

  abbrev pub IsAt : Type 0
  IsAt = more ≡ wrong_at place (said_all new_there)

  abbrev pub IsAround : Type 0
  IsAround = more ≡ wrong_around place (said_all new_there)

  pub inserted-count : (one : KeptHeld) → place ≤ length held → new ≡ insert held place one → WasAt → IsAround → Recounted now was more new
  inserted-count one inside new_is was_is more_is =
      let all = said_all held in
      let all_new : said_all new ≡ insert all place (said_held one) = ap said_all new_is ∙ insert-said held place one in
      let inside_all : place ≤ length all = rw length-map inside in
      let was_at : was ≡ wrong_at place all = was_is ∙ ap (λ (h : List KeptHeld). wrong_at place (said_all h)) held_same in
      let more_at : more ≡ wrong_around place (insert all place (said_held one)) =
      more_is ∙ ap (λ (h : List KeptHeld). wrong_around place (said_all h)) new_same ∙ ap (wrong_around place) all_new in
      let d : disorder_of (said_all new) ≡ disorder_of (insert all place (said_held one)) = ap disorder_of all_new in
      let n : length (said_all new) ≡ length all + 1 = ap length all_new ∙ length-insert all place (said_held one) inside_all in
      let m : length all ≡ length held = length-map held said_held in
      let within : was ≤ now = omega (arith, at-within out_of_order place all, was_at, now_is) in
      recounted (omega (arith, told-insert out_of_order all place (said_held one) inside_all, was_at, more_at, d, now_is, within)) (omega (arith, n, m))

  pub removed-count : place < length held → new ≡ remove held place → WasAround → IsAt → Recounted now was more new
  removed-count inside new_is was_is more_is =
      let all = said_all held in
      let all_new : said_all new ≡ remove all place = ap said_all new_is ∙ remove-said held place in
      let inside_all : place < length all = rw length-map inside in
      let was_at : was ≡ wrong_around place all = was_is ∙ ap (λ (h : List KeptHeld). wrong_around place (said_all h)) held_same in
      let more_at : more ≡ wrong_at place (remove all place) =
      more_is ∙ ap (λ (h : List KeptHeld). wrong_at place (said_all h)) new_same ∙ ap (wrong_at place) all_new in
      let d : disorder_of (said_all new) ≡ disorder_of (remove all place) = ap disorder_of all_new in
      let n : length (said_all new) + 1 ≡ length all = ap (λ (h : List Held). length h + 1) all_new ∙ length-remove all place inside_all in
      let m : length all ≡ length held = length-map held said_held in
      let within : was ≤ now = omega (arith, around-within out_of_order place all, was_at, now_is) in
      recounted (omega (arith, told-remove out_of_order all place inside_all, was_at, more_at, d, now_is, within)) (omega (arith, n, m))

  pub set-counted : (one : KeptHeld) → place < length held → new ≡ set held place one → WasAround → IsAround → Recounted now was more new
  set-counted one inside new_is was_is more_is =
      let all = said_all held in
      let all_new : said_all new ≡ set all place (said_held one) = ap said_all new_is ∙ map-set said_held held place one in
      let inside_all : place < length all = rw length-map inside in
      let was_at : was ≡ wrong_around place all = was_is ∙ ap (λ (h : List KeptHeld). wrong_around place (said_all h)) held_same in
      let more_at : more ≡ wrong_around place (set all place (said_held one)) =
      more_is ∙ ap (λ (h : List KeptHeld). wrong_around place (said_all h)) new_same ∙ ap (wrong_around place) all_new in
      let d : disorder_of (said_all new) ≡ disorder_of (set all place (said_held one)) = ap disorder_of all_new in
      let n : length (said_all new) ≡ length all = ap length all_new ∙ length-set all place (said_held one) in
      let m : length all ≡ length held = length-map held said_held in
      let within : was ≤ now = omega (arith, around-within out_of_order place all, was_at, now_is) in
      recounted (omega (arith, told-set out_of_order all place (said_held one) inside_all, was_at, more_at, d, now_is, within)) (omega (arith, n, m))

-- ---- where nothing is out of order

never-wrong : (order : Ordering) → wrong order ≡ 0 → order ≡ Less
never-wrong Less is = refl
never-wrong Equal is = absurd (omega (arith, is))
never-wrong Greater is = absurd (omega (arith, is))

next-behind : (held : List Held) (i : ℕ) (none : Held) → disorder_of held ≡ 0 → suc i < length held
    → held_order (get_or held i none) (get_or held (suc i) none) ≡ Less
next-behind held i none is inside =
    never-wrong (held_order (get_or held i none) (get_or held (suc i) none)) (told-nothing out_of_order held i none is inside)

pub in-order : (held : List Held) (none : Held) → disorder_of held ≡ 0 → IsStrictlySortedBy held_order held
in-order held none is =
    sorted_from_all_adjacent held-total held none (λ i inside.
    subst (λ (n : ℕ). held_order (get_or held i none) (get_or held n none) ≡ Less) {x = suc i} {y = i + 1} (omega arith)
    (next-behind held i none is (omega (arith, inside))))

-- ---- where a group stands

module _ {K : Type 0} {R : K → K → Ordering} (o : IsTotalOrder R) (with_them : Bool) (x y key : K) (rest : Ordering) where
  by-order : (order : Ordering) → R x y ≡ order → ordering_then order rest ≡ Less → (first : Ordering) → R y key ≡ first
      → comes_before with_them first ≡ true → comes_before with_them (R x key) ≡ true
  by-order Less less is Less first before = ap (comes_before with_them) (o.trans x y key less first)
  by-order Less less is Equal first before = ap (comes_before with_them) (sym (alike_right o y key x first) ∙ less)
  by-order Less less is Greater first before = absurd (cc)
  by-order Equal same is order first before = ap (comes_before with_them) (o.congr x y key same ∙ first) ∙ before
  by-order Greater more is order first before = absurd (cc)

  before-too : ordering_then (R x y) rest ≡ Less → comes_before with_them (R y key) ≡ true → comes_before with_them (R x key) ≡ true
  before-too is before = by-order (R x y) refl is (R y key) refl before

-- what comes before something that comes before a group does so too
falls : (place : Group) (with_them : Bool) (x y : Held) → held_order x y ≡ Less → comes_before with_them (stands place y) ≡ true
    → comes_before with_them (stands place x) ≡ true
falls place with_them x y is before =
    let (rest, order_is) = by-group x y in before-too groups-total with_them (group_of x) (group_of y) place rest (sym order_is ∙ is) before

-- those before a group, or up to it, stand first
pub group-falls : (place : Group) (with_them : Bool) (held : List Held) (count : ℕ) → disorder_of held ≡ 0 → count ≤ length held
    → Falls (λ one. comes_before with_them (stands place one)) held 0 count
group-falls place with_them held count ordered within = record {
  falls = λ i j none from less inside passes.
      falls place with_them (get_or held i none) (get_or held j none)
      (Less-from_sorted held_order held i j none (in-order held none ordered) less (omega (arith, inside, within))) passes;
}

before-less : (order : Ordering) → comes_before false order ≡ true → order ≡ Less
before-less Less is = refl
before-less Equal is = absurd (cc)
before-less Greater is = absurd (cc)

behind-greater : (order : Ordering) → comes_before true order ≡ false → order ≡ Greater
behind-greater Less is = absurd (cc)
behind-greater Equal is = absurd (cc)
behind-greater Greater is = refl

neither : (order : Ordering) → comes_before false order ≡ false → comes_before true order ≡ true → order ≡ Equal
neither Less first rest = absurd (cc)
neither Equal first rest = refl
neither Greater first rest = absurd (cc)

module _ (place : Group) (held : List Held) (count first end : ℕ) (whole : count ≡ length held)
    (begins : IsEdge (λ one. comes_before false (stands place one)) held 0 count first)
    (ends : IsEdge (λ one. comes_before true (stands place one)) held 0 count end) where
  pub between-edges : AreBetween place held first end
  between-edges = record {
    begins = omega (arith, begins.ends, whole);
    ends = omega (arith, ends.ends, whole);
    before = λ i one below within. before-less (stands place (get_or held i one)) (begins.before i one (omega arith) below);
    behind = λ i one past within. behind-greater (stands place (get_or held i one)) (ends.behind i one past (omega (arith, within, whole)));
  }

  pub own-edges : AreOf place held first end
  own-edges = record {
    of = λ i one from below.
        neither (stands place (get_or held i one)) (begins.behind i one from (omega (arith, below, ends.ends)))
        (ends.before i one (omega arith) below);
  }

pub between-all : (place : Group) (held : List KeptHeld) (end : ℕ) → end ≡ length held → AreBetween place (said_all held) 0 end
between-all place held end is = record {
  begins = omega arith;
  ends = rw length-map (omega (arith, is));
  before = λ i one below within. absurd (omega (arith, below));
  behind = λ i one past within. absurd (omega (arith, past, within, is, length-map held said_held));
}

-- ---- what stands outside a group

none-passes : (test : Held → Bool) (held : List Held) → ((i : ℕ) (one : Held) → i < length held → test (get_or held i one) ≡ false)
    → false ≡ list_any test held
none-passes test [] fails = refl
none-passes test (one ∷ held) fails =
    none-passes test held (λ i other inside. fails (suc i) other (omega (arith, inside)))
    ∙ sym (ap (λ (b : Bool). b || list_any test held) (fails 0 one (omega arith)))

-- none of those before a place passes a test
pub record NoneSoFar (test : Held → Bool) (held : List KeptHeld) (place : ℕ) : Type 0 where
  pub fail : (i : ℕ) (one : Held) → i < place → i < length (said_all held) → test (get_or (said_all held) i one) ≡ false

module _ (test : Held → Bool) (place : Group) (outside : (one : Held) → (stands place one ≡ Equal → ⊥) → test one ≡ false)
    (held : List KeptHeld) (first end : ℕ) (between : AreBetween place (said_all held) first end) where
  pub none-begin : NoneSoFar test held first
  none-begin = record {
    fail = λ i one below within.
        outside (get_or (said_all held) i one) (λ (same : stands place (get_or (said_all held) i one) ≡ Equal).
        let less : stands place (get_or (said_all held) i one) ≡ Less = between.before i one below within in cc);
  }

  pub none-there : (i : ℕ) → NoneSoFar test held i → end ≤ i → false ≡ list_any test (said_all held)
  none-there place_now so_far done =
      none-passes test (said_all held) (λ i one inside.
      ⊎_elim (λ (below : i < place_now). so_far.fail i one below inside)
      (λ (past : place_now ≤ i).
      outside (get_or (said_all held) i one) (λ (same : stands place (get_or (said_all held) i one) ≡ Equal).
      let more : stands place (get_or (said_all held) i one) ≡ Greater = between.behind i one (omega (arith, past, done)) inside in cc))
      (cases_lt i place_now))

-- what a test says of one that stands at a place
pub there : {B : Type 0} (test : Held → B) (held : List KeptHeld) (place : ℕ) (next : KeptHeld) (one : Held) → place < length held
    → next ≡ get_or held place next → test (get_or (said_all held) place one) ≡ test (said_held next)
there test held place next one inside is =
    ap test (get_or_default (said_all held) place one (said_held next) (rw length-map inside) ∙ said-there held place next inside is)

pub none-more : (test : Held → Bool) (held : List KeptHeld) (place : ℕ) (next : KeptHeld) → NoneSoFar test held place → place < length held
    → next ≡ get_or held place next → test (said_held next) ≡ false → NoneSoFar test held (place + 1)
none-more test held place next so_far inside is fails = record {
  fail = λ i one below within.
      ⊎_elim (λ (less : i < place). so_far.fail i one less within)
      (λ (more : place ≤ i).
      ap (λ (n : ℕ). test (get_or (said_all held) n one)) (let same : i ≡ place = omega (arith, more, below) in same)
      ∙ there test held place next one inside is ∙ fails)
      (cases_lt i place);
}

pub none-at-all : (test : Held → Bool) (held : List Held) → ((one : Held) → test one ≡ false) → false ≡ list_any test held
none-at-all test held fails = none-passes test held (λ i one inside. fails (get_or held i one))

pub inside-between : {place : Group} {first end : ℕ} (held : List KeptHeld) (i : ℕ) → AreBetween place (said_all held) first end → i < end → i < length held
inside-between held i between below = omega (arith, between.ends, below, length-map held said_held)

pub any-here : (test : Held → Bool) (held : List KeptHeld) (i : ℕ) (next : KeptHeld) → i < length held → next ≡ get_or held i next
    → test (said_held next) ≡ true → true ≡ list_any test (said_all held)
any-here test held i next inside is passes =
    sym (list_any_at (λ (one : KeptHeld). test (said_held one)) held i next inside (ap (λ (one : KeptHeld). test (said_held one)) (sym is) ∙ passes))
    ∙ any-said test held

-- ---- where one comes

turned-less : (order : Ordering) → is_gt order ≡ true → ordering_reverse order ≡ Less
turned-less Less is = absurd (cc)
turned-less Equal is = absurd (cc)
turned-less Greater is = refl

greater : (order : Ordering) → is_gt order ≡ true → order ≡ Greater
greater Less is = absurd (cc)
greater Equal is = absurd (cc)
greater Greater is = refl

-- those behind which one comes stand first
pub below-falls : (one : Held) (held : List Held) (count : ℕ) → disorder_of held ≡ 0 → count ≤ length held
    → Falls (λ other. is_gt (held_order one other)) held 0 count
below-falls one held count ordered within = record {
  falls = λ i j none from less inside passes.
      let x = get_or held i none in
      let y = get_or held j none in
      ap is_gt
      (held-turned one x
      ∙ ap ordering_reverse
      (held-chain x y one (Less-from_sorted held_order held i j none (in-order held none ordered) less (omega (arith, inside, within)))
      (held-turned y one ∙ turned-less (held_order one y) passes)));
}

pub comes-from : (one : Held) (held : List Held) (n : ℕ) → n ≤ length held → ((i : ℕ) → i < n → held_order one (get_or held i one) ≡ Greater)
    → ComesBehind one held n
comes-from one held zero inside after = refl
comes-from one held (suc n) inside after =
    let next = get_or held n one in
    subst (λ (k : ℕ). ComesBehind one held k) {x = n + 1} {y = suc n} (omega arith)
    (comes-behind one held n next (omega (arith, inside)) (get_or_default held n next one (omega (arith, inside)))
    (comes-from one held n (omega (arith, inside)) (λ i below. after i (omega (arith, below)))) (after n (omega arith)))

pub comes-edge : (one : Held) (held : List Held) (count place : ℕ) → count ≤ length held → IsEdge (λ other. is_gt (held_order one other)) held 0 count place
    → ComesBehind one held place
comes-edge one held count place within edge =
    comes-from one held place (omega (arith, edge.ends, within))
    (λ i below. greater (held_order one (get_or held i one)) (edge.before i one (omega arith) below))
