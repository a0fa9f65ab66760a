-- What is left of what is held holds after variables changed, and with a bound in the place of a variable.
use Rattle.std.proofs.Common.{arith, ◌≡◌, ◌∙◌, sym, ap, refl, subst, ℕ, ℤ, ◌+ℤ◌, neg_ℤ, Bool, true, false, cond, ◌||◌, nat_eq, List, [], ◌∷◌}
use Rattle.std.proofs.Common.{Option, Some, None}
use Rattle.std.specs.List.{list_any}
use Rattle.std.proofs.lemmas.Int.{ints}
use Rattle.std.proofs.lemmas.Bool.{both_ways, eq-eqb, eqb-true, or_from, or_parts}
use Rattle.std.proofs.lemmas.Option.{cond_some, none-some, same_Some}
use Rattle.types.specs.declared.form.Step.{Step}
use Rattle.meaning.specs.Integers.{is_integer_number}
use Rattle.meaning.specs.Store.{Environment, Store}
use Rattle.checker_rows.specs.Rows.{Parts, first_index}
use Rattle.checker_state.specs.Bounds.{Bound, is_variable, moved_bound}
use Rattle.checker_state.specs.State.{Held, Ordered, Span, Stretched}
use Rattle.checker_state.specs.Changes.{all_with_bounds, both_there, bound_in_place, bound_rests_on, changed, changed_bound, changed_bound_by}
use Rattle.checker_state.specs.Changes.{in_place, instead, order_in_place, ordered, raised, raised_number, span_between, span_rests_on, stretch_of}
use Rattle.checker_state.specs.Changes.{unless_resting}
use Rattle.checker_state.specs.Changes.{with_bounds}
use Rattle.checker_state.specs.Loops.{is_among}
use Rattle.checker_state.specs.Holds.{AreBounds, HasComponent, HasNumber, HeldHolds, IsBound, IsBoundBy, IsOfRow, Moment, Numbers, StretchHolds, moment}
use Rattle.checker_state.specs.Knows.{OneChanges, bound_rests, rests_on_any}
use Rattle.checker_state.proofs.Bounds.{moved-is, same-number, variable-is}

-- ---- tests of which one passed

pub unless-some : {A : Type 0} (test : Bool) (one other : A) → cond test None (Some one) ≡ Some other → (test ≡ false) × (one ≡ other)
unless-some true one other is = absurd (none-some other is)
unless-some false one other is = (refl, same_Some one other is)

pub when-some : {A : Type 0} (test : Bool) (found : Option A) (other : A) → cond test found None ≡ Some other → (test ≡ true) × (found ≡ Some other)
when-some true found other is = (refl, is)
when-some false found other is = absurd (none-some other is)

pub both-some : (found : Option Span) (more : Option (List Span)) (all : List Span) → both_there found more ≡ Some all
    → (span : Span) × (spans : List Span) × (found ≡ Some span) × (more ≡ Some spans) × (span ∷ spans ≡ all)
both-some None more all is = absurd (none-some all is)
both-some (Some span) None all is = absurd (none-some all is)
both-some (Some span) (Some spans) all is = (span, spans, refl, refl, same_Some (span ∷ spans) all is)

pub between-some : (first last : Option Bound) (span : Span) → span_between first last ≡ Some span → (first ≡ Some span.first) × (last ≡ Some span.last)
between-some None last span is = absurd (none-some span is)
between-some (Some first) None span is = absurd (none-some span is)
between-some (Some first) (Some last) span is =
    let same = same_Some (record { first = first; last = last }) span is in
    (ap (λ (s : Span). Some s.first) same, ap (λ (s : Span). Some s.last) same)

pub stretch-some : (row : ℕ) (found : Option (List Span)) (one : Held) → stretch_of row found ≡ Some one
    → (spans : List Span) × (found ≡ Some spans) × (Stretched (record { row = row; spans = spans }) ≡ one)
stretch-some row None one is = absurd (none-some one is)
stretch-some row (Some spans) one is = (spans, refl, same_Some (Stretched (record { row = row; spans = spans })) one is)

order-some : (a b : ℕ) (number : ℤ) (one : Held) → ordered a b number ≡ Some one → Ordered a b number ≡ one
order-some a b number one is = (cond_some (is_integer_number number) (Ordered a b number) one is).1

-- no element passes either of two tests
pub apart-both : (p q : ℕ → Bool) (roots : List ℕ) → list_any (λ root. p root || q root) roots ≡ false → (list_any p roots ≡ false) × (list_any q roots ≡ false)
apart-both p q [] is = (refl, refl)
apart-both p q (root ∷ roots) is =
    let parts = or_parts (p root || q root) (list_any (λ r. p r || q r) roots) is in
    let first = or_parts (p root) (q root) parts.0 in
    let rest = apart-both p q roots parts.1 in
    (or_from (p root) (list_any p roots) first.0 rest.0, or_from (q root) (list_any q roots) first.1 rest.1)

-- ---- bounds that become others

-- each component with an index that is defined at one moment is at another
abbrev pub StaysDefined : List Parts → (before after : Moment) → Type 0
StaysDefined rows before after =
    (row : ℕ) (steps : List Step) (index : ℤ) → IsOfRow rows row steps → first_index steps ≡ Some index → HasComponent rows before row steps
    → HasComponent rows after row steps

module _ (before after : Moment) (aliases : List ℕ) where
  -- a bound that rests on none of some variables has the number of the one that it becomes
  abbrev pub BoundsBecome : (Bound → Option Bound) → Type 0
  BoundsBecome change =
      (bound other : Bound) (x : ℤ) → bound_rests aliases bound ≡ false → change bound ≡ Some other → IsBound before bound x → IsBound after other x

  spans-become : (change : Bound → Option Bound) → BoundsBecome change → (spans others : List Span) (numbers : List Numbers)
      → list_any (λ root. list_any (span_rests_on root) spans) aliases ≡ false → all_with_bounds change spans ≡ Some others
      → AreBounds before spans numbers → AreBounds after others numbers
  spans-become change become [] others [] free is are = subst (λ spans. AreBounds after spans []) (same_Some [] others is) tt
  spans-become change become [] others (one ∷ numbers) free is are = absurd are
  spans-become change become (span ∷ spans) others [] free is are = absurd are
  spans-become change become (span ∷ spans) others (one ∷ numbers) free is are =
      let apart = apart-both (λ root. span_rests_on root span) (λ root. list_any (span_rests_on root) spans) aliases free in
      let bounds = apart-both (λ root. bound_rests_on root span.first) (λ root. bound_rests_on root span.last) aliases apart.0 in
      let (new, more, new_is, more_is, same) = both-some (with_bounds change span) (all_with_bounds change spans) others is in
      let ends = between-some (change span.first) (change span.last) new new_is in
      subst (λ spans. AreBounds after spans (one ∷ numbers)) same (
        become span.first new.first one.first bounds.0 ends.0 are.0,
        become span.last new.last one.last bounds.1 ends.1 are.1,
        spans-become change become spans more numbers apart.1 more_is are.2,
      )

  pub stretch-becomes : (rows : List Parts) → StaysDefined rows before after → (change : Bound → Option Bound) → BoundsBecome change → (row : ℕ)
      (spans : List Span) (other : Held) → list_any (λ root. list_any (span_rests_on root) spans) aliases ≡ false
      → stretch_of row (all_with_bounds change spans) ≡ Some other → StretchHolds rows (record { row = row; spans = spans }) before
      → HeldHolds rows other after
  stretch-becomes rows stays change become row spans other free is (numbers, are, each) =
      let (new, new_is, same) = stretch-some row (all_with_bounds change spans) other is in
      subst (λ one. HeldHolds rows one after) same (
        numbers,
        spans-become change become spans new numbers free new_is are,
        λ steps index of_row first lie. stays row steps index of_row first (each steps index of_row first lie),
      )

  -- a variable's number is that of another after it, or that plus a number
  abbrev Moves : Bool → ℤ → ℕ → ℕ → Type 0
  Moves moves k a b = (n : ℤ) → HasNumber before a n → HasNumber after b (cond moves (n +ℤ k) n)

  order-moves : (rows : List Parts) (left right : Bool) (k : ℤ) (a b c d : ℕ) (number : ℤ) → Moves left k a c → Moves right k b d
      → HeldHolds rows (Ordered a b number) before → HeldHolds rows (Ordered c d (raised_number left right k number)) after
  order-moves rows true true k a b c d number first second (m, n, at_a, at_b, less) = (m +ℤ k, n +ℤ k, first m at_a, second n at_b, omega (arith, ints, less))
  order-moves rows true false k a b c d number first second (m, n, at_a, at_b, less) = (m +ℤ k, n, first m at_a, second n at_b, omega (arith, ints, less))
  order-moves rows false true k a b c d number first second (m, n, at_a, at_b, less) = (m, n +ℤ k, first m at_a, second n at_b, omega (arith, ints, less))
  order-moves rows false false k a b c d number first second (m, n, at_a, at_b, less) = (m, n, first m at_a, second n at_b, less)

-- ---- what rests on no variable that changed

-- the numbers of the variables that aren't among some stay
abbrev pub KeepNumbers : List ℕ → (before after : Moment) → Type 0
KeepNumbers roots before after = (root : ℕ) (n : ℤ) → is_among root roots ≡ false → HasNumber before root n → HasNumber after root n

module _ (before after : Moment) (roots : List ℕ) (keep : KeepNumbers roots before after) where
  stays-by : (root : Option ℕ) (k x : ℤ) → list_any (λ other. is_variable other root) roots ≡ false → IsBoundBy before root k x → IsBoundBy after root k x
  stays-by None k x free is = is
  stays-by (Some root) k x free (n, has, is) = (n, keep root n free has, is)

  pub bound-stays : (bound : Bound) (x : ℤ) → bound_rests roots bound ≡ false → IsBound before bound x → IsBound after bound x
  bound-stays bound x free is = stays-by bound.root bound.number x free is

  spans-stay : (spans : List Span) (numbers : List Numbers) → list_any (λ root. list_any (span_rests_on root) spans) roots ≡ false
      → AreBounds before spans numbers → AreBounds after spans numbers
  spans-stay [] [] free are = tt
  spans-stay [] (one ∷ numbers) free are = are
  spans-stay (span ∷ spans) [] free are = are
  spans-stay (span ∷ spans) (one ∷ numbers) free are =
      let apart = apart-both (λ root. span_rests_on root span) (λ root. list_any (span_rests_on root) spans) roots free in
      let bounds = apart-both (λ root. bound_rests_on root span.first) (λ root. bound_rests_on root span.last) roots apart.0 in
      (bound-stays span.first one.first bounds.0 are.0, bound-stays span.last one.last bounds.1 are.1, spans-stay spans numbers apart.1 are.2)

  pub held-stays : (rows : List Parts) → StaysDefined rows before after → (one : Held) → rests_on_any roots one ≡ false → HeldHolds rows one before
      → HeldHolds rows one after
  held-stays rows stays (Stretched stretch) free (numbers, are, each) = (
    numbers,
    spans-stay stretch.spans numbers free are,
    λ steps index of_row first lie. stays stretch.row steps index of_row first
        (each steps index of_row first lie),
  )
  held-stays rows stays (Ordered a b number) free (m, n, at_a, at_b, less) =
      let apart = apart-both (λ root. nat_eq root a) (λ root. nat_eq root b) roots free in
      (m, n, keep a m apart.0 at_a, keep b n apart.1 at_b, less)

-- ---- a variable changed

-- the number of a variable after it got the value of a form
abbrev pub IsNumberOf : ℕ → Option Bound → (before after : Moment) → Type 0
IsNumberOf root None before after = Unit {0}
IsNumberOf root (Some bound) before after = (n : ℤ) × HasNumber after root n × IsBound before bound n

module _ (before after : Moment) (root : ℕ) (aliases : List ℕ) (keep : KeepNumbers (root ∷ aliases) before after) where
  -- the variable rose by a number
  module _ (k old : ℤ) (was : HasNumber before root old) (rose : HasNumber after root (old +ℤ k)) where
    moves-by : (a : ℕ) (own : Bool) → nat_eq root a ≡ own → is_among a aliases ≡ false → Moves before after aliases own k a a
    moves-by a true is free n has =
        let here = eqb-true root a is in
        let same = same-number before root a old n here was has in
        subst (λ r. HasNumber after r (n +ℤ k)) here (subst (λ x. HasNumber after root (x +ℤ k)) same rose)
    moves-by a false is free n has = keep a n (or_from (nat_eq root a) (is_among a aliases) is free) has

    raised-order : (rows : List Parts) (a b : ℕ) (number : ℤ) (other : Held) → rests_on_any aliases (Ordered a b number) ≡ false
        → raised root k a b number ≡ Some other → HeldHolds rows (Ordered a b number) before → HeldHolds rows other after
    raised-order rows a b number other free is holds =
        let apart = apart-both (λ alias. nat_eq alias a) (λ alias. nat_eq alias b) aliases free in
        subst (λ one. HeldHolds rows one after) (order-some a b (raised_number (nat_eq root a) (nat_eq root b) k number) other is)
        (order-moves before after aliases rows (nat_eq root a) (nat_eq root b) k a b a b number (moves-by a (nat_eq root a) refl apart.0)
        (moves-by b (nat_eq root b) refl apart.1) holds)

    raised-bound : (bound other : Bound) (x : ℤ) → bound.root ≡ Some root → moved_bound (neg_ℤ k) bound ≡ Some other → IsBound before bound x
        → IsBound after other x
    raised-bound bound other x own is at =
        let (n, has, x_is) = subst (λ r. IsBoundBy before r bound.number x) own at in
        let same = same-number before root root n old refl has was in
        let moved = moved-is after (neg_ℤ k) bound other ((old +ℤ k) +ℤ bound.number) is
        (subst (λ r. IsBoundBy after r bound.number ((old +ℤ k) +ℤ bound.number)) (sym own) (old +ℤ k, rose, refl)) in
        subst (λ y. IsBound after other y) (omega (arith, ints, same, x_is)) moved

  -- by the form whose value it got
  rose-by : (form : Bound) → is_variable root form.root ≡ true → IsNumberOf root (Some form) before after
      → (old : ℤ) × HasNumber before root old × HasNumber after root (old +ℤ form.number)
  rose-by form is (n, has, at) =
      let (old, was, n_is) = subst (λ r. IsBoundBy before r form.number n) (variable-is root form.root is) at in
      (old, was, subst (λ x. HasNumber after root x) (sym n_is) has)

  kept-bound : (bound other : Bound) (x : ℤ) → bound_rests_on root bound ≡ false → bound_rests aliases bound ≡ false → bound ≡ other → IsBound before bound x
      → IsBound after other x
  kept-bound bound other x apart free same at =
      subst (λ b. IsBound after b x) same
      (bound-stays before after (root ∷ aliases) keep bound x (or_from (bound_rests_on root bound) (bound_rests aliases bound) apart free) at)

  changed-by : (form : Bound) → IsNumberOf root (Some form) before after → (bound other : Bound) (x : ℤ) (own : Bool) → bound_rests_on root bound ≡ own
      → bound_rests aliases bound ≡ false → cond own (changed_bound_by root form bound) (Some bound) ≡ Some other → IsBound before bound x
      → IsBound after other x
  changed-by form number bound other x false own free is at = kept-bound bound other x own free (same_Some bound other is) at
  changed-by form number bound other x true own free is at =
      let moves = when-some (is_variable root form.root) (moved_bound (neg_ℤ form.number) bound) other is in
      let (old, was, rose) = rose-by form moves.0 number in
      raised-bound form.number old was rose bound other x (variable-is root bound.root own) moves.1 at

  changed-becomes : (form : Option Bound) → IsNumberOf root form before after → BoundsBecome before after aliases (changed_bound root form)
  changed-becomes None number bound other x free is at =
      let parts = unless-some (bound_rests_on root bound) bound other is in
      kept-bound bound other x parts.0 free parts.1 at
  changed-becomes (Some form) number bound other x free is at = changed-by form number bound other x (bound_rests_on root bound) refl free is at

  kept-order : (rows : List Parts) → StaysDefined rows before after → (a b : ℕ) (number : ℤ) (other : Held)
      → rests_on_any aliases (Ordered a b number) ≡ false → unless_resting root a b number ≡ Some other → HeldHolds rows (Ordered a b number) before
      → HeldHolds rows other after
  kept-order rows stays a b number other free is holds =
      let parts = unless-some (nat_eq root a || nat_eq root b) (Ordered a b number) other is in
      subst (λ one. HeldHolds rows one after) parts.1
      (held-stays before after (root ∷ aliases) keep rows stays (Ordered a b number)
      (or_from (nat_eq root a || nat_eq root b) (rests_on_any aliases (Ordered a b number)) parts.0 free) holds)

  order-by : (rows : List Parts) → StaysDefined rows before after → (form : Bound) → IsNumberOf root (Some form) before after → (a b : ℕ) (number : ℤ)
      (other : Held) (own : Bool) → is_variable root form.root ≡ own → rests_on_any aliases (Ordered a b number) ≡ false
      → cond own (raised root form.number a b number) (unless_resting root a b number) ≡ Some other → HeldHolds rows (Ordered a b number) before
      → HeldHolds rows other after
  order-by rows stays form at a b number other false own free is holds = kept-order rows stays a b number other free is holds
  order-by rows stays form at a b number other true own free is holds =
      let (old, was, rose) = rose-by form own at in
      raised-order form.number old was rose rows a b number other free is holds

  -- what is left of what rests on no alias
  pub changed-holds : (rows : List Parts) → StaysDefined rows before after → (form : Option Bound) → IsNumberOf root form before after → (one other : Held)
      → rests_on_any aliases one ≡ false → changed root form one ≡ Some other → HeldHolds rows one before → HeldHolds rows other after
  changed-holds rows stays form number (Stretched stretch) other free is holds =
      stretch-becomes before after aliases rows stays (changed_bound root form) (changed-becomes form number) stretch.row stretch.spans other free is holds
  changed-holds rows stays None number (Ordered a b k) other free is holds = kept-order rows stays a b k other free is holds
  changed-holds rows stays (Some form) number (Ordered a b k) other free is holds =
      order-by rows stays form number a b k other (is_variable root form.root) refl free is holds

-- no number but those of a variable and of its aliases changed
pub changes-keep : (env : Environment) (root : ℕ) (aliases : List ℕ) (before after : Store) → OneChanges env root aliases before after
    → KeepNumbers (root ∷ aliases) (moment env before) (moment env after)
changes-keep env root aliases before after changes other n free has =
    let parts = or_parts (nat_eq root other) (is_among other aliases) free in
    changes.others other [] (λ same whole. both_ways (nat_eq root other) parts.0 (eq-eqb root other (sym same))) parts.1 ∙ has

-- ---- a variable is its bound

module _ (m : Moment) (root : ℕ) (own : Bound) (x : ℤ) (has : HasNumber m root x) (at : IsBound m own x) where
  placed-by : (bound other : Bound) (y : ℤ) (here : Bool) → bound_rests_on root bound ≡ here
      → cond here (moved_bound bound.number own) (Some bound) ≡ Some other → IsBound m bound y → IsBound m other y
  placed-by bound other y false here is holds = subst (λ b. IsBound m b y) (same_Some bound other is) holds
  placed-by bound other y true here is holds =
      let (n, n_is, sum) = subst (λ r. IsBoundBy m r bound.number y) (variable-is root bound.root here) holds in
      let same = same-number m root root n x refl n_is has in
      subst (λ z. IsBound m other z) (omega (arith, ints, same, sum)) (moved-is m bound.number own other x is at)

  placed-moves : (by : ℕ) (k old : ℤ) → HasNumber m by old → (old +ℤ k) ≡ x → (a : ℕ) (here : Bool) → nat_eq root a ≡ here
      → Moves m m [] here (neg_ℤ k) a (cond here by a)
  placed-moves by k old at_by sum a false is n n_is = n_is
  placed-moves by k old at_by sum a true is n n_is =
      let same = same-number m root a x n (eqb-true root a is) has n_is in
      subst (λ z. HasNumber m by z) (omega (arith, ints, same, sum)) at_by

  placed-order : (rows : List Parts) (by : Option ℕ) (k : ℤ) → IsBoundBy m by k x → (a b : ℕ) (number : ℤ) (other : Held)
      → order_in_place root by k a b number ≡ Some other → HeldHolds rows (Ordered a b number) m → HeldHolds rows other m
  placed-order rows None k at_by a b number other is holds = absurd (none-some other is)
  placed-order rows (Some by) k (old, at_by, sum) a b number other is holds =
      let left = nat_eq root a in
      let right = nat_eq root b in
      subst (λ one. HeldHolds rows one m) (order-some (instead root by a) (instead root by b) (raised_number left right (neg_ℤ k) number) other is)
      (order-moves m m [] rows left right (neg_ℤ k) a b (instead root by a) (instead root by b) number (placed-moves by k old at_by sum a left refl)
      (placed-moves by k old at_by sum b right refl) holds)

  placed-if : (rows : List Parts) (a b : ℕ) (number : ℤ) (other : Held) (rests : Bool)
      → cond rests (order_in_place root own.root own.number a b number) (Some (Ordered a b number)) ≡ Some other → HeldHolds rows (Ordered a b number) m
      → HeldHolds rows other m
  placed-if rows a b number other true is holds = placed-order rows own.root own.number at a b number other is holds
  placed-if rows a b number other false is holds = subst (λ one. HeldHolds rows one m) (same_Some (Ordered a b number) other is) holds

  -- what is held with the bound in the variable's place
  pub placed-holds : (rows : List Parts) (one other : Held) → in_place root own one ≡ Some other → HeldHolds rows one m → HeldHolds rows other m
  placed-holds rows (Stretched stretch) other is holds =
      stretch-becomes m m [] rows (λ row steps index of_row first defined. defined) (bound_in_place root own)
      (λ bound other y free is at. placed-by bound other y (bound_rests_on root bound) refl is at) stretch.row stretch.spans other refl is holds
  placed-holds rows (Ordered a b number) other is holds = placed-if rows a b number other (nat_eq root a || nat_eq root b) is holds
