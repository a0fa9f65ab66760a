-- What is held in the lists of variables: what rests on none of them stays at a rebinding, and lists with more.
use Rattle.std.proofs.Common.{arith, ◌≡◌, ◌≢◌, ◌⊎◌, inl, inr, ⊎_elim, ◌∙◌, sym, ap, refl, subst, ℕ, zero, suc, ◌+◌, ◌<◌}
use Rattle.std.proofs.Common.{Bool, true, false, cond, ◌||◌, nat_eq, List, [], ◌∷◌, ◌++◌, get_or, length, map, set, take, drop, Option, Some, None, true≢false}
use Rattle.std.specs.List.{Contains, insert, list_any, remove}
use Rattle.std.specs.Global.{Vec}
use Rattle.std.specs.Ordering.{eq_by_cmp, is_eq, ordering_reverse}
use Rattle.std.specs.declared.cmp.Ordering.{Ordering}
use Rattle.std.specs.declared.cmp.Ordering.TheVariants.{Less, Equal, Greater}
use Rattle.std.proofs.lemmas.List.Folds.{list_any_at}
use Rattle.std.proofs.lemmas.Map.Views.{Contains-from_any}
use Rattle.std.proofs.Math.Bool.{or-false}
use Rattle.std.proofs.Math.ListN.{get_or-map}
use Rattle.std.proofs.lemmas.Bool.{cases_Bool, eq-eqb, eqb-true, or_cases}
use Rattle.std.proofs.lemmas.List.{get_or-drop, get_or-set_other, get_or-set_same, length-drop, length-map, map-append, map-set, set_split, take-append-drop}
use Rattle.std.proofs.lemmas.List.Elements.{Contains-append_cases, Contains-append_left, Contains-append_right}
use Rattle.checker_state.specs.declared.bound.Rebinding.{Rebinding}
use Rattle.checker_state.specs.declared.held.Held.{Held as KeptHeld}
use Rattle.checker_state.specs.declared.held.Span.{Span as KeptSpan}
use Rattle.checker_state.specs.Bounds.{is_variable}
use Rattle.checker_state.specs.Changes.{span_rests_on}
use Rattle.checker_state.specs.State.{Held, Span, ends_of, held_order}
use Rattle.checker_state.specs.View.{IsSettled, held_by, inner_spans, root_of, said_held, said_span}
use Rattle.checker_known.specs.declared.resting.Resting.{Resting}
use Rattle.checker_known.specs.Resting.{AreListed, IsListed, Lists, ListsMore, Puts, has, is_left, listed}
use Rattle.checker_state.proofs.HeldOrders.{held-same, held-turned}
use Rattle.checker_state.proofs.Settled.{rests-by-ends}
use Rattle.std.specs.Prelude.{Result, Ok, Err, OnOk, is_ok}
use Rattle.checker_known.proofs.HeldLists.{said_all}

-- ---- what is in a list with one more, one less, or another one

module _ {X : Type 0} where
  one-there : (y : X) (ys : List X) (x : X) (k : ℕ) → k < length (y ∷ ys) → get_or (y ∷ ys) k x ≡ x → (y ≡ x) ⊎ Contains ys x
  one-there y ys x zero inside is = inl is
  one-there y ys x (suc k) inside is = inr (k, omega (arith, inside), is)

  pub first-or-rest : (y : X) (ys : List X) (x : X) → Contains (y ∷ ys) x → (y ≡ x) ⊎ Contains ys x
  first-or-rest y ys x has = one-there y ys x has.0 has.1 has.2

  pub in-drop : (n : ℕ) (xs : List X) (x : X) → Contains (drop n xs) x → Contains xs x
  in-drop n xs x has = (n + has.0, omega (arith, has.1, length-drop n xs), sym (get_or-drop n xs has.0 x) ∙ has.2)

  in-take : (n : ℕ) (xs : List X) (x : X) → Contains (take n xs) x → Contains xs x
  in-take n xs x has = subst (λ (all : List X). Contains all x) (take-append-drop n xs) (Contains-append_left (take n xs) (drop n xs) x has)

  among-parts : (xs : List X) (n m : ℕ) (y x : X) → Contains (take n xs ++ y ∷ drop m xs) x → Contains xs x ⊎ (y ≡ x)
  among-parts xs n m y x has =
      ⊎_elim (λ (front : Contains (take n xs) x). inl (in-take n xs x front))
      (λ (back : Contains (y ∷ drop m xs) x).
      ⊎_elim (λ (same : y ≡ x). inr same) (λ (rest : Contains (drop m xs) x). inl (in-drop m xs x rest)) (first-or-rest y (drop m xs) x back))
      (Contains-append_cases (take n xs) (y ∷ drop m xs) x has)

  pub among-inserted : (xs : List X) (place : ℕ) (y x : X) → Contains (insert xs place y) x → Contains xs x ⊎ (y ≡ x)
  among-inserted xs place y x has = among-parts xs place place y x has

  pub among-set : (xs : List X) (place : ℕ) (y x : X) → place < length xs → Contains (set xs place y) x → Contains xs x ⊎ (y ≡ x)
  among-set xs place y x inside has =
      among-parts xs place (suc place) y x (subst (λ (all : List X). Contains all x) (set_split xs place y inside) has)

  pub among-removed : (xs : List X) (place : ℕ) (x : X) → Contains (remove xs place) x → Contains xs x
  among-removed xs place x has =
      ⊎_elim (λ (front : Contains (take place xs) x). in-take place xs x front)
      (λ (back : Contains (drop (suc place) xs) x). in-drop (suc place) xs x back)
      (Contains-append_cases (take place xs) (drop (suc place) xs) x has)

  pub in-inserted : (xs : List X) (place : ℕ) (y x : X) → Contains xs x → Contains (insert xs place y) x
  in-inserted xs place y x has =
      ⊎_elim (λ (front : Contains (take place xs) x). Contains-append_left (take place xs) (y ∷ drop place xs) x front)
      (λ (back : Contains (drop place xs) x).
      Contains-append_right (take place xs) (y ∷ drop place xs) x (Contains-append_right (y ∷ []) (drop place xs) x back))
      (Contains-append_cases (take place xs) (drop place xs) x
      (subst (λ (all : List X). Contains all x) (sym (take-append-drop place xs)) has))

  pub is-inserted : (xs : List X) (place : ℕ) (y : X) → Contains (insert xs place y) y
  is-inserted xs place y =
      Contains-append_right (take place xs) (y ∷ drop place xs) y (0, omega arith, refl)

-- ---- what is listed

-- a rebinding leaves it as it is, or it is in the list of the variable
abbrev pub Settled : List (Vec KeptHeld) → Rebinding → Held → Type 0
Settled lists how one = (held_by how one ≡ Some one) ⊎ Contains (listed lists (root_of how)) one

turned-same : (order : Ordering) → order ≡ ordering_reverse order → order ≡ Equal
turned-same Less is = absurd (cc)
turned-same Equal is = refl
turned-same Greater is = absurd (cc)

pub same-order : (one : Held) → held_order one one ≡ Equal
same-order one = turned-same (held_order one one) (held-turned one one)

order-of-one : (one : Held) → eq_by_cmp held_order one one ≡ true
order-of-one one = ap is_eq (same-order one)

left-there : (one : Held) (some : Option Held) → is_left one some ≡ true → some ≡ Some one
left-there one None is = absurd (true≢false (sym is))
left-there one (Some other) is = ap Some (sym (held-same one other (equal (held_order one other) is)))
  where
    equal : (order : Ordering) → is_eq order ≡ true → order ≡ Equal
    equal Less is = absurd (true≢false (sym is))
    equal Equal is = refl
    equal Greater is = absurd (true≢false (sym is))

pub settled : (lists : List (Vec KeptHeld)) (one : Held) → IsListed lists one → (how : Rebinding) → Settled lists how one
settled lists one is how =
    ⊎_elim (λ (left : is_left one (held_by how one) ≡ true). inl (left-there one (held_by how one) left))
    (λ (there : has (listed lists (root_of how)) one ≡ true). inr (Contains-from_any same one (listed lists (root_of how)) there))
    (or_cases (is_left one (held_by how one)) (has (listed lists (root_of how)) one) (is how))
  where
    equal : (order : Ordering) → is_eq order ≡ true → order ≡ Equal
    equal Less is = absurd (true≢false (sym is))
    equal Equal is = refl
    equal Greater is = absurd (true≢false (sym is))

    same : (x y : Held) → eq_by_cmp held_order x y ≡ true → x ≡ y
    same x y is = held-same x y (equal (held_order x y) is)

pub is-listed : (lists : List (Vec KeptHeld)) (one : Held) → ((how : Rebinding) → Settled lists how one) → IsListed lists one
is-listed lists one each how =
    ⊎_elim
    (λ (stays : held_by how one ≡ Some one).
    ap (λ (b : Bool). b || has (listed lists (root_of how)) one) (ap (is_left one) stays ∙ order-of-one one))
    (λ (there : Contains (listed lists (root_of how)) one).
    ap (λ (b : Bool). is_left one (held_by how one) || b)
    (list_any_at (eq_by_cmp held_order one) (listed lists (root_of how)) there.0 one there.1
    (ap (eq_by_cmp held_order one) there.2 ∙ order-of-one one))
    ∙ or-true (is_left one (held_by how one)))
    (each how)
  where
    or-true : (b : Bool) → (b || true) ≡ true
    or-true true = refl
    or-true false = refl

-- ---- lists

module _ (one : Held) (a b : Resting) where
  -- what rests on a variable that passes a test is listed, and the rest stays
  listed-by : (test : ℕ → Bool) → ((how : Rebinding) → test (root_of how) ≡ false → held_by how one ≡ Some one) → Lists test one a b
      → ListsMore one a b
  listed-by test stays lists = record {
    was_whole = lists.was_whole;
    there =
        is-listed b.lists.items one (λ how.
        ⊎_elim (λ (rests : test (root_of how) ≡ true). inr (lists.there (root_of how) rests))
        (λ (rests : test (root_of how) ≡ false). inl (stays how rests))
        (cases_Bool (test (root_of how))));
    keeps = lists.keeps;
  }

  pub lists-as : (p q : ℕ → Bool) → ((root : ℕ) → q root ≡ true → p root ≡ true) → Lists p one a b → Lists q one a b
  lists-as p q is lists = record {
    was_whole = lists.was_whole;
    there = λ root passes. lists.there root (is root passes);
    keeps = lists.keeps;
  }

pub listed-ends : (one : Held) (spans : List Span) (a b : Resting) → IsSettled one → spans ≡ ends_of one
    → (b.is_whole ≡ true → Lists (λ root. list_any (span_rests_on root) spans) one a b) → b.is_whole ≡ true → ListsMore one a b
listed-ends one spans a b settled ends lists whole =
    listed-by one a b (λ root. list_any (span_rests_on root) spans)
    (λ how is. settled how (sym (ap (list_any (span_rests_on (root_of how))) ends ∙ rests-by-ends (root_of how) one) ∙ is)) (lists whole)

-- nothing is listed by no variable
pub lists-none : (one : Held) (a : Resting) → a.is_whole ≡ true → Lists (λ root. false) one a a
lists-none one a whole = record {
  was_whole = whole;
  there = λ root passes. absurd (true≢false (sym passes));
  keeps = λ root other has. has;
}

pub lists-both : (p q : ℕ → Bool) (one : Held) (a b c : Resting) → (b.is_whole ≡ true → Lists p one a b) → (c.is_whole ≡ true → Lists q one b c)
    → c.is_whole ≡ true → Lists (λ root. p root || q root) one a c
lists-both p q one a b c lists then whole =
    let rest = then whole in
    let first = lists rest.was_whole in
    record {
      was_whole = first.was_whole;
      there = λ root passes.
          ⊎_elim (λ (is : p root ≡ true). rest.keeps root one (first.there root is)) (λ (is : q root ≡ true). rest.there root is)
          (or_cases (p root) (q root) passes);
      keeps = λ root other has. rest.keeps root other (first.keeps root other has);
    }

-- what is listed by the variables of a bound, and of spans
pub lists-bound : (variable : Option ℕ) (root : ℕ) (one : Held) (a b : Resting) → variable ≡ Some root
    → (b.is_whole ≡ true → Lists (λ other. nat_eq other root) one a b) → b.is_whole ≡ true → Lists (λ other. is_variable other variable) one a b
lists-bound variable root one a b is lists whole =
    lists-as one a b (λ other. nat_eq other root) (λ other. is_variable other variable)
    (λ other passes. sym (ap (is_variable other) is) ∙ passes) (lists whole)

pub lists-number : (variable : Option ℕ) (one : Held) (a : Resting) → variable ≡ None → a.is_whole ≡ true
    → Lists (λ other. is_variable other variable) one a a
lists-number variable one a is whole =
    lists-as one a a (λ other. false) (λ other. is_variable other variable)
    (λ other passes. sym (ap (is_variable other) is) ∙ passes) (lists-none one a whole)

pub lists-spans : (span : Span) (inner : Option KeptSpan) (more : KeptSpan) (one : Held) (a b c : Resting) → inner ≡ Some more
    → (b.is_whole ≡ true → Lists (λ root. span_rests_on root span) one a b)
    → (c.is_whole ≡ true → Lists (λ root. span_rests_on root (said_span more)) one b c)
    → c.is_whole ≡ true → Lists (λ root. list_any (span_rests_on root) (span ∷ inner_spans inner)) one a c
lists-spans span inner more one a b c is first rest whole =
    lists-as one a c (λ root. span_rests_on root span || span_rests_on root (said_span more))
    (λ root. list_any (span_rests_on root) (span ∷ inner_spans inner))
    (λ root passes.
    ap (λ (rests : Bool). span_rests_on root span || rests) (sym (or-false (span_rests_on root (said_span more))))
    ∙ sym (ap (λ (some : Option KeptSpan). list_any (span_rests_on root) (span ∷ inner_spans some)) is) ∙ passes)
    (lists-both (λ root. span_rests_on root span) (λ root. span_rests_on root (said_span more)) one a b c first rest whole)

pub lists-span : (span : Span) (inner : Option KeptSpan) (one : Held) (a b : Resting) → inner ≡ None
    → (b.is_whole ≡ true → Lists (λ root. span_rests_on root span) one a b)
    → b.is_whole ≡ true → Lists (λ root. list_any (span_rests_on root) (span ∷ inner_spans inner)) one a b
lists-span span inner one a b is lists whole =
    lists-as one a b (λ root. span_rests_on root span) (λ root. list_any (span_rests_on root) (span ∷ inner_spans inner))
    (λ root passes.
    sym (or-false (span_rests_on root span))
    ∙ sym (ap (λ (some : Option KeptSpan). list_any (span_rests_on root) (span ∷ inner_spans some)) is) ∙ passes)
    (lists whole)

-- ---- one list

abbrev pub lists_in : List (Vec KeptHeld) → List (List KeptHeld)
lists_in lists = map (λ (list : Vec KeptHeld). list.items) lists

module _ (lists : List (Vec KeptHeld)) (root : ℕ) (list : Vec KeptHeld) (inside : root < length lists) where
  items-set : lists_in (set lists root list) ≡ set (lists_in lists) root list.items
  items-set = map-set (λ (list : Vec KeptHeld). list.items) lists root list

  pub listed-set : listed (set lists root list) root ≡ said_all list.items
  listed-set =
      ap (λ (all : List (List KeptHeld)). said_all (get_or all root [])) items-set
      ∙ ap said_all (get_or-set_same (lists_in lists) root list.items [] (rw length-map inside))

  pub listed-other : (other : ℕ) → other ≢ root → listed (set lists root list) other ≡ listed lists other
  listed-other other apart =
      ap (λ (all : List (List KeptHeld)). said_all (get_or all other [])) items-set
      ∙ ap said_all (get_or-set_other (lists_in lists) root other list.items [] apart)

pub listed-there : (lists : List (Vec KeptHeld)) (root : ℕ) (found : Vec KeptHeld) → root < length lists → found ≡ get_or lists root found
    → said_all found.items ≡ listed lists root
listed-there lists root found inside is =
    ap (λ (list : Vec KeptHeld). said_all list.items) is
    ∙ ap said_all (sym (get_or-map (λ (list : Vec KeptHeld). list.items) lists root found))
    ∙ ap said_all (defaults (lists_in lists) root found.items (rw length-map inside))
  where
    defaults : (all : List (List KeptHeld)) (i : ℕ) (none : List KeptHeld) → i < length all → get_or all i none ≡ get_or all i []
    defaults [] i none inside = absurd (omega (arith, inside))
    defaults (first ∷ all) zero none inside = refl
    defaults (first ∷ all) (suc i) none inside = defaults all i none (omega (arith, inside))

-- something is put into one list
pub lists-put : (one : Held) (root : ℕ) (a b : Resting) (found list : Vec KeptHeld) → a.is_whole ≡ true → root < length a.lists.items
    → found ≡ get_or a.lists.items root found → b.lists.items ≡ set a.lists.items root list → Puts one (said_all found.items) (said_all list.items)
    → Lists (λ other. nat_eq other root) one a b
lists-put one root a b found list whole inside is new puts =
    let lists = a.lists.items in
    let at_new : (other : ℕ) → listed b.lists.items other ≡ listed (set lists root list) other = λ other.
    ap (λ (all : List (Vec KeptHeld)). listed all other) new in
    let has-one : Contains (listed b.lists.items root) one =
    subst (λ (all : List Held). Contains all one) (sym (at_new root ∙ listed-set lists root list inside)) puts.there in
    record {
      was_whole = whole;
      there = λ other passes.
          subst (λ (n : ℕ). Contains (listed b.lists.items n) one) (sym (eqb-true other root passes)) has-one;
      keeps = λ other held has.
          ⊎_elim
          (λ (same : nat_eq other root ≡ true).
          subst (λ (n : ℕ). Contains (listed b.lists.items n) held) (sym (eqb-true other root same))
          (subst (λ (all : List Held). Contains all held) (sym (at_new root ∙ listed-set lists root list inside))
          (puts.keeps held (subst (λ (all : List Held). Contains all held) (sym (listed-there lists root found inside is))
          (subst (λ (n : ℕ). Contains (listed lists n) held) (eqb-true other root same) has)))))
          (λ (differs : nat_eq other root ≡ false).
          let apart : other ≢ root = λ is. true≢false (sym (eq-eqb other root is) ∙ differs) in
          subst (λ (all : List Held). Contains all held) (sym (at_new other ∙ listed-other lists root list inside other apart)) has)
          (cases_Bool (nat_eq other root));
    }

-- ---- after a change of what is held

abbrev pub Whole : Resting → List Held → Type 0
Whole resting held = resting.is_whole ≡ true → AreListed resting.lists.items held

pub whole-more : (one : Held) (held more : List Held) (a b : Resting) → Whole a held → (b.is_whole ≡ true → ListsMore one a b)
    → ((other : Held) → Contains more other → Contains held other ⊎ (one ≡ other)) → Whole b more
whole-more one held more a b was lists among whole = λ other has.
    let step = lists whole in
    ⊎_elim
    (λ (before : Contains held other).
    is-listed b.lists.items other (λ how.
    ⊎_elim (λ (stays : held_by how other ≡ Some other). inl stays)
    (λ (there : Contains (listed a.lists.items (root_of how)) other). inr (step.keeps (root_of how) other there))
    (settled a.lists.items other (was step.was_whole other before) how)))
    (λ (same : one ≡ other). subst (λ (h : Held). IsListed b.lists.items h) same step.there)
    (among other has)

pub whole-less : (held less : List Held) (a : Resting) → Whole a held → ((other : Held) → Contains less other → Contains held other) → Whole a less
whole-less held less a was among whole = λ other has. was whole other (among other has)

-- ---- one more in a list

pub puts-pushed : {T E : Type 0} (one : KeptHeld) (list new : List KeptHeld) (done : Result T E)
    → new ≡ cond (is_ok done) (list ++ one ∷ []) list → OnOk done (Puts (said_held one) (said_all list) (said_all new))
puts-pushed one list new (Ok _) is =
    let all : said_all new ≡ said_all list ++ said_held one ∷ [] = ap said_all is ∙ map-append said_held list (one ∷ []) in
    record {
      there = subst (λ (some : List Held). Contains some (said_held one)) (sym all)
          (Contains-append_right (said_all list) (said_held one ∷ []) (said_held one) (0, omega arith, refl));
      keeps = λ other has.
          subst (λ (some : List Held). Contains some other) (sym all) (Contains-append_left (said_all list) (said_held one ∷ []) other has);
    }
puts-pushed one list new (Err _) is = tt

pub puts-same : (one : Held) (list : List Held) → Contains list one → Puts one list list
puts-same one list there = record { there = there; keeps = λ other has. has }
