-- What a number makes longer of a row without knots begins or ends near it.
use Rattle.std.proofs.Common.{arith, ◌≡◌, ◌∙◌, sym, ap, ap₂, refl, subst, ⊎_elim, ℕ, ℤ, pos, zero, suc, ◌+ℤ◌, ◌-ℤ◌, ◌-◌, ◌<◌, ◌≤◌}
use Rattle.std.proofs.Common.{Bool, true, false, cond, ◌&&◌, ◌||◌, not, int_le, int_lt, nat_eq, List, [], ◌∷◌, get_or, length, Option, Some, None}
use Rattle.std.specs.Cmp.{nat_cmp_is}
use Rattle.std.specs.Cmp.Lexicographic.{slice_cmp}
use Rattle.std.specs.List.{list_any}
use Rattle.std.specs.Option.{is_none, is_some}
use Rattle.std.specs.Ordering.{int_cmp, ordering_then}
use Rattle.std.specs.declared.cmp.Ordering.{Ordering}
use Rattle.std.specs.declared.cmp.Ordering.TheVariants.{Less, Equal, Greater}
use Rattle.std.proofs.lemmas.Bool.{and_parts, cases_Bool, cases_eq, cases_lt, eq-eqb, false≢true, false_from_ne_true, or_cases}
use Rattle.std.proofs.lemmas.Int.{ints}
use Rattle.std.proofs.lemmas.Map.Keys.{Less-from_sorted}
use Rattle.domain.specs.declared.versions.Extension.TheVariants.{Boxes}
use Rattle.domain.specs.Versions.{has}
use Rattle.checker_state.specs.Bounds.{Bound, constant}
use Rattle.checker_state.specs.State.{Facts, Held, Span, Stretch, bound_range, held_order, is_below, is_next, le, lies_below, says_at_most}
use Rattle.checker_state.specs.State.{Live, span_order, stretch_in, stretched}
use Rattle.checker_state.specs.Stores.{is_at, longer, longer_by, longer_of, longer_span, longer_stretch}
use Rattle.checker_state.proofs.HeldOrders.{longer-outside, of-row, says-no-first}
use Rattle.checker_state.specs.declared.held.Group.TheVariants as group
use Rattle.checker_known.specs.declared.halves.Test.TheVariants as test
use Rattle.checker_known.specs.Halves.{Falls, IsEdge, first_of, last_of, passes, spans_in, spans_of}
use Rattle.checker_known.specs.Knots.{counts, goes_on, is_plain, knot, knots_of}
use Rattle.checker_known.specs.Longer.{AreNear}
use Rattle.checker_known.specs.Order.{AreBetween, AreOf, disorder_of, stands}
use Rattle.checker_known.proofs.InOrder.{in-order}
use Rattle.checker_known.proofs.Pairs.{told-nothing}

-- ---- spans of numbers

-- the numbers between two
abbrev between : ℤ → ℤ → Span
between first last = record { first = constant first; last = constant last }

-- the first of some spans has numbers
record Numbers (spans : List Span) : Type 0 where
  first : ℤ
  last : ℤ
  rest : List Span
  spans_are : spans ≡ between first last ∷ rest
  in_order : int_le first last ≡ true

none-is : (root : Option ℕ) → is_none root ≡ true → root ≡ None
none-is None is = refl
none-is (Some root) is = absurd (cc)

plain-numbers : (span : Span) (rest : List Span) → is_plain span ≡ true → Numbers (span ∷ rest)
plain-numbers span rest is =
    let parts = and_parts (is_none span.first.root) (is_none span.last.root && int_le span.first.number span.last.number) is in
    let more = and_parts (is_none span.last.root) (int_le span.first.number span.last.number) parts.1 in
    record {
      first = span.first.number;
      last = span.last.number;
      rest = rest;
      spans_are =
          ap₂ (λ (one other : Option ℕ).
          let first : Bound = record { root = one; number = span.first.number } in
          let last : Bound = record { root = other; number = span.last.number } in
          let same : Span = record { first = first; last = last } in
          same ∷ rest)
          (none-is span.first.root parts.0) (none-is span.last.root more.0);
      in_order = more.1;
    }

numbers-first : (one other : List Span) → goes_on one other ≡ true → Numbers one
numbers-first [] other is = absurd (cc)
numbers-first (span ∷ one) [] is = absurd (cc)
numbers-first (span ∷ one) (next ∷ other) is =
    plain-numbers span one (and_parts (is_plain span) (is_plain next && int_le span.last.number next.last.number) is).0

numbers-next : (one other : List Span) → goes_on one other ≡ true → Numbers other
numbers-next [] other is = absurd (cc)
numbers-next (span ∷ one) [] is = absurd (cc)
numbers-next (span ∷ one) (next ∷ other) is =
    let parts = and_parts (is_plain span) (is_plain next && int_le span.last.number next.last.number) is in
    plain-numbers next other (and_parts (is_plain next) (int_le span.last.number next.last.number) parts.1).0

ends-later : (one other : List Span) → goes_on one other ≡ true → int_le (last_of one) (last_of other) ≡ true
ends-later [] other is = absurd (cc)
ends-later (span ∷ one) [] is = absurd (cc)
ends-later (span ∷ one) (next ∷ other) is =
    let parts = and_parts (is_plain span) (is_plain next && int_le span.last.number next.last.number) is in
    (and_parts (is_plain next) (int_le span.last.number next.last.number) parts.1).1

-- ---- numbers beside one another

module _ (known : Facts) where
  no-order : (x y : ℤ) (held : List Held) → list_any (says_at_most (constant x) (constant y)) held ≡ false
  no-order x y [] = refl
  no-order x y (one ∷ held) = ap₂ (λ (a b : Bool). a || b) (says-no-first (constant x) (constant y) refl one) (no-order x y held)

  le-numbers : (x y : ℤ) → le known (constant x) (constant y) ≡ true → int_le x y ≡ true
  le-numbers x y is =
      ⊎_elim (λ (itself : int_le x y ≡ true). itself)
      (λ (told : (is_below (bound_range (Live known) (constant x)) (bound_range (Live known) (constant y))
      || list_any (says_at_most (constant x) (constant y)) known.held) ≡ true).
      ⊎_elim (λ (below : is_below (bound_range (Live known) (constant x)) (bound_range (Live known) (constant y)) ≡ true).
      (and_parts _ (int_le x y) below).1)
      (λ (held : list_any (says_at_most (constant x) (constant y)) known.held ≡ true). absurd (false≢true (sym (no-order x y known.held) ∙ held)))
      (or_cases _ _ told))
      (or_cases (int_le x y) _ is)

  not-next : (x y : ℤ) → (y ≡ x +ℤ pos 1 → ⊥) → is_next known (constant x) (constant y) ≡ false
  not-next x y differ =
      false_from_ne_true (is_next known (constant x) (constant y)) (λ is.
      let parts = and_parts (lies_below known (constant x) (constant y)) (le known (constant y) (constant (x +ℤ pos 1))) is in
      let up = le-numbers (x +ℤ pos 1) y parts.0 in
      let down = le-numbers y (x +ℤ pos 1) parts.1 in
      differ (grind (arith, ints)))

  -- a span of numbers isn't just a number, if it begins or ends at another
  not-at : (c f l : ℤ) → (f ≡ c → l ≡ c → ⊥) → is_at known (constant c) (between f l) ≡ false
  not-at c f l differ =
      false_from_ne_true (is_at known (constant c) (between f l)) (λ is.
      let first = le known (constant f) (constant c) in
      let first_too = le known (constant c) (constant f) in
      let last = le known (constant l) (constant c) in
      let last_too = le known (constant c) (constant l) in
      let parts = and_parts (first && first_too) (last && last_too) is in
      let one = and_parts first first_too parts.0 in
      let two = and_parts last last_too parts.1 in
      let a = le-numbers f c one.0 in
      let b = le-numbers c f one.1 in
      let d = le-numbers l c two.0 in
      let e = le-numbers c l two.1 in
      differ (grind (arith, ints)) (grind (arith, ints)))

  -- a span of numbers that a number isn't beside doesn't become longer by it
  span-stays : (c f l : ℤ) → (c ≡ l +ℤ pos 1 → ⊥) → (f ≡ c +ℤ pos 1 → ⊥) → longer_span known (constant c) (between f l) ≡ None
  span-stays c f l behind before =
      ap₂ (λ (first rest : Bool).
      cond first (Some (record (between f l) { last = constant c })) (cond rest (Some (record (between f l) { first = constant c })) None))
      (not-next l c behind) (not-next c f before)

  both-none : (b : Bool) (nothing : Option Held) → cond b nothing nothing ≡ nothing
  both-none true nothing = refl
  both-none false nothing = refl

  -- a stretch of numbers that a number isn't beside, and that isn't just this number, stays as it is
  numbers-stay : (row : ℕ) (c f l : ℤ) (more : List Bound) (rest : List Span) → (c ≡ l +ℤ pos 1 → ⊥) → (f ≡ c +ℤ pos 1 → ⊥) → (f ≡ c → l ≡ c → ⊥)
      → longer_by known row (constant c ∷ more) (between f l ∷ rest) ≡ None
  numbers-stay row c f l [] [] behind before at = ap (longer_of row [] []) (span-stays c f l behind before)
  numbers-stay row c f l [] (span ∷ rest) behind before at = refl
  numbers-stay row c f l (two ∷ []) [] behind before at = refl
  numbers-stay row c f l (two ∷ []) (span ∷ []) behind before at =
      let beside = longer_of row (constant c ∷ []) [] (longer_span known two span) in
      let column = longer_of row [] (two ∷ []) in
      let is_column = has known.rules Boxes && is_at known two span in
      ap₂ (λ (is : Bool) (longer : Option Span). cond is beside (cond is_column (column longer) None)) (not-at c f l at) (span-stays c f l behind before)
      ∙ both-none is_column None
  numbers-stay row c f l (two ∷ []) (span ∷ next ∷ rest) behind before at = refl
  numbers-stay row c f l (two ∷ third ∷ more) rest behind before at = refl

  far-stretch : (row : ℕ) (c : ℤ) (more : List Bound) (one : Option Stretch) → Numbers (spans_in one) → (c ≡ last_of (spans_in one) +ℤ pos 1 → ⊥)
      → (first_of (spans_in one) ≡ c +ℤ pos 1 → ⊥) → (first_of (spans_in one) ≡ c → last_of (spans_in one) ≡ c → ⊥)
      → longer_stretch known row (constant c ∷ more) one ≡ None
  far-stretch row c more None numbers behind before at = refl
  far-stretch row c more (Some s) numbers behind before at =
      let n = numbers in
      let first : first_of s.spans ≡ n.first = ap first_of n.spans_are in
      let last : last_of s.spans ≡ n.last = ap last_of n.spans_are in
      ap (λ (some : Option Held). cond (nat_eq s.row row) some None)
      (ap (longer_by known row (constant c ∷ more)) n.spans_are
      ∙ numbers-stay row c n.first n.last more n.rest (λ is. behind (is ∙ ap (λ (l : ℤ). l +ℤ pos 1) (sym last))) (λ is. before (first ∙ is))
      (λ one two. at (first ∙ one) (last ∙ two)))
      ∙ both-none (nat_eq s.row row) None

  far-stays : (row : ℕ) (c : ℤ) (more : List Bound) (one : Held) → Numbers (spans_of one) → (c ≡ last_of (spans_of one) +ℤ pos 1 → ⊥)
      → (first_of (spans_of one) ≡ c +ℤ pos 1 → ⊥) → (first_of (spans_of one) ≡ c → last_of (spans_of one) ≡ c → ⊥)
      → longer known row (constant c ∷ more) one ≡ None
  far-stays row c more one = far-stretch row c more (stretch_in one)

  -- ---- what stands in a row

  module _ (row : ℕ) (held : List Held) (first end : ℕ) (row_is : AreBetween (group.Row row) held first end) where
    before-row : (indexes : List Bound) (i : ℕ) (none : Held) → i < first → longer known row indexes (get_or held i none) ≡ None
    before-row indexes i none below =
        longer-outside known row indexes (get_or held i none) (λ same.
        let less = row_is.before i none below (omega (arith, below, row_is.begins)) in cc)

    behind-row : (indexes : List Bound) (i : ℕ) (none : Held) → end ≤ i → i < length held → longer known row indexes (get_or held i none) ≡ None
    behind-row indexes i none past within =
        longer-outside known row indexes (get_or held i none) (λ same.
        let more = row_is.behind i none past within in cc)

    pub near-row : (indexes : List Bound) → AreNear known row indexes held first end
    near-row indexes = record { begins = row_is.begins; ends = row_is.ends; before = before-row indexes; behind = behind-row indexes }

-- two stretches of a row go on, if they are no knot of it
loose-stretches : (row : ℕ) (one other : List Span) → counts row (knot (stretched row one) (stretched row other)) ≡ 0 → goes_on one other ≡ true
loose-stretches row one other is =
    ⊎_elim (λ (goes : goes_on one other ≡ true). goes)
    (λ (not_so : goes_on one other ≡ false).
    let found : knot (stretched row one) (stretched row other) ≡ Some row =
    ap₂ (λ (x y : Bool). cond (x && not y) (Some row) None) (eq-eqb row row refl) not_so in
    let counted : counts row (knot (stretched row one) (stretched row other)) ≡ 1 =
    ap (counts row) found ∙ ap (λ (b : Bool). cond b 1 0) (eq-eqb row row refl) in
    absurd (omega (arith, is, counted)))
    (cases_Bool (goes_on one other))

loose : (row : ℕ) (a b : Held) → stands (group.Row row) a ≡ Equal → stands (group.Row row) b ≡ Equal → counts row (knot a b) ≡ 0
    → goes_on (spans_of a) (spans_of b) ≡ true
loose row a b first rest is =
    let (one, a_is) = of-row row a first in
    let (other, b_is) = of-row row b rest in
    ap₂ (λ (x y : Held). goes_on (spans_of x) (spans_of y)) a_is b_is
    ∙ loose-stretches row one other (sym (ap₂ (λ (x y : Held). counts row (knot x y)) a_is b_is) ∙ is)

numbers-more : (f g : ℤ) → int_lt g f ≡ true → int_cmp f g ≡ Greater
numbers-more f g is =
    let no : int_lt f g ≡ false = grind (arith, ints) in
    ap₂ (λ (a b : Bool). cond a Less (cond b Greater Equal)) no is

greater-less : Greater ≡ Less → ⊥
greater-less is = cc

-- the earlier of two of a row begins no later
begins-sooner : (row : ℕ) (a b : Held) → stands (group.Row row) a ≡ Equal → stands (group.Row row) b ≡ Equal → Numbers (spans_of a)
    → Numbers (spans_of b) → held_order a b ≡ Less → int_le (first_of (spans_of a)) (first_of (spans_of b)) ≡ true
begins-sooner row a b first rest x y is =
    let (one, a_is) = of-row row a first in
    let (other, b_is) = of-row row b rest in
    let spans_is : spans_of a ≡ one = ap spans_of a_is in
    let others_is : spans_of b ≡ other = ap spans_of b_is in
    let less : held_order (stretched row one) (stretched row other) ≡ Less = sym (ap₂ held_order a_is b_is) ∙ is in
    let x_is = sym spans_is ∙ x.spans_are in
    let y_is = sym others_is ∙ y.spans_are in
    let f : first_of (spans_of a) ≡ x.first = ap first_of x.spans_are in
    let g : first_of (spans_of b) ≡ y.first = ap first_of y.spans_are in
    let no : int_lt y.first x.first ≡ false =
    false_from_ne_true (int_lt y.first x.first) (λ more.
    greater-less
    (sym (ap₂ (λ (o p : Ordering). ordering_then o p) (sym (nat_cmp_is row row Equal refl)) (ap₂ (slice_cmp span_order) x_is y_is)
    ∙ ap (λ (o : Ordering). ordering_then (ordering_then o (int_cmp x.last y.last)) (slice_cmp span_order x.rest y.rest)) (numbers-more x.first y.first more))
    ∙ less)) in
    let at_most : int_le x.first y.first ≡ true = grind (arith, ints) in
    ap₂ (λ (p q : ℤ). int_le p q) f g ∙ at_most

-- ---- a row without knots

module _ (row : ℕ) (held : List Held) (first end : ℕ) (within : end ≤ length held) (own : AreOf (group.Row row) held first end) (ordered : disorder_of held ≡ 0)
    (no_knot : knots_of row held ≡ 0) (several : suc first < end) where
  goes-at : (i : ℕ) (none : Held) → first ≤ i → suc i < end → goes_on (spans_of (get_or held i none)) (spans_of (get_or held (suc i) none)) ≡ true
  goes-at i none from below =
      loose row (get_or held i none) (get_or held (suc i) none) (own.of i none from (omega (arith, below))) (own.of (suc i) none (omega (arith, from)) below)
      (told-nothing (λ (one next : Held). counts row (knot one next)) held i none no_knot (omega (arith, below, within)))

  numbers-at : (i : ℕ) (none : Held) → first ≤ i → i < end → Numbers (spans_of (get_or held i none))
  numbers-at i none from below =
      ⊎_elim
      (λ (inside : suc i < end).
      numbers-first (spans_of (get_or held i none)) (spans_of (get_or held (suc i) none)) (goes-at i none from inside))
      (λ (last : end ≤ suc i).
      subst (λ (k : ℕ). Numbers (spans_of (get_or held k none))) (let same : suc (i - 1) ≡ i = omega (arith, last, several, below) in same)
      (numbers-next (spans_of (get_or held (i - 1) none)) (spans_of (get_or held (suc (i - 1)) none))
      (goes-at (i - 1) none (omega (arith, last, several, below)) (omega (arith, last, several, below)))))
      (cases_lt (suc i) end)

  lasts : (i j : ℕ) (none : Held) → first ≤ i → i < j → j < end
      → int_le (last_of (spans_of (get_or held i none))) (last_of (spans_of (get_or held j none))) ≡ true
  lasts i zero none from less inside = absurd (omega (arith, less))
  lasts i (suc j) none from less inside =
      ⊎_elim (λ (same : i ≡ j).
      subst (λ (k : ℕ). int_le (last_of (spans_of (get_or held k none))) (last_of (spans_of (get_or held (suc j) none))) ≡ true) (sym same)
      (ends-later (spans_of (get_or held j none)) (spans_of (get_or held (suc j) none)) (goes-at j none (omega (arith, from, same)) inside)))
      (λ (differ : i ≡ j → ⊥).
      let one = lasts i j none from (omega (arith, less, differ)) (omega (arith, inside)) in
      let two = ends-later (spans_of (get_or held j none)) (spans_of (get_or held (suc j) none)) (goes-at j none (omega (arith, from, less)) inside) in
      grind (arith, ints))
      (cases_eq i j)

  firsts : (i j : ℕ) (none : Held) → first ≤ i → i < j → j < end
      → int_le (first_of (spans_of (get_or held i none))) (first_of (spans_of (get_or held j none))) ≡ true
  firsts i j none from less inside =
      begins-sooner row (get_or held i none) (get_or held j none) (own.of i none from (omega (arith, less, inside)))
      (own.of j none (omega (arith, from, less)) inside) (numbers-at i none from (omega (arith, less, inside)))
      (numbers-at j none (omega (arith, from, less)) inside)
      (Less-from_sorted held_order held i j none (in-order held none ordered) less (omega (arith, inside, within)))

  pub ends-fall : (n : ℤ) → Falls (passes (test.EndsBelow n)) held first end
  ends-fall n = record {
    falls = λ i j none from less inside below.
        let sooner = lasts i j none from less inside in grind (arith, ints);
  }

  pub begins-fall : (n : ℤ) → Falls (passes (test.BeginsBelow n)) held first end
  begins-fall n = record {
    falls = λ i j none from less inside below.
        let sooner = firsts i j none from less inside in grind (arith, ints);
  }

  numbers-order : (spans : List Span) → Numbers spans → int_le (first_of spans) (last_of spans) ≡ true
  numbers-order spans n = ap (λ (s : List Span). int_le (first_of s) (last_of s)) n.spans_are ∙ n.in_order

  pub near-number : (known : Facts) (c m n : ℤ) (rest : List Bound) (from to : ℕ) → AreBetween (group.Row row) held first end → m ≡ c -ℤ pos 1 → n ≡ c +ℤ pos 2
      → IsEdge (passes (test.EndsBelow m)) held first end from → IsEdge (passes (test.BeginsBelow n)) held first end to
      → AreNear known row (constant c ∷ rest) held from to
  near-number known c m n rest from to row_is m_is n_is ends begins = record {
    begins = omega (arith, ends.ends, within);
    ends = omega (arith, begins.ends, within);
    before = λ i none below.
        ⊎_elim (λ (out : i < first). before-row known row held first end row_is (constant c ∷ rest) i none out)
        (λ (inside : first ≤ i).
        let one = get_or held i none in
        let numbers = numbers-at i none inside (omega (arith, below, ends.ends)) in
        let order = numbers-order (spans_of one) numbers in
        let ends_below = ends.before i none inside below in
        far-stays known row c rest one numbers (λ is. grind (arith, ints)) (λ is. grind (arith, ints)) (λ first_is last_is. grind (arith, ints)))
        (cases_lt i first);
    behind = λ i none past there.
        ⊎_elim (λ (inside : i < end).
        let one = get_or held i none in
        let numbers = numbers-at i none (omega (arith, past, begins.begins)) inside in
        let order = numbers-order (spans_of one) numbers in
        let begins_behind = begins.behind i none past inside in
        far-stays known row c rest one numbers (λ is. grind (arith, ints)) (λ is. grind (arith, ints)) (λ first_is last_is. grind (arith, ints)))
        (λ (out : end ≤ i). behind-row known row held first end row_is (constant c ∷ rest) i none out there)
        (cases_lt i end);
  }

-- a bound without a variable
pub number-is : (bound : Bound) → is_some bound.root ≡ false → constant bound.number ≡ bound
number-is bound none = root-is bound.root none
  where
    root-is : (root : Option ℕ) → is_some root ≡ false
        → (let one : Bound = record { root = None; number = bound.number } in one)
        ≡ (let other : Bound = record { root = root; number = bound.number } in other)
    root-is None none = refl
    root-is (Some root) none = absurd (cc)
