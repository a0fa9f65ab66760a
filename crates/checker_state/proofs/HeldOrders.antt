-- The order of what is held: only the same ties in it, it is a total one, and what stands together stands beside one
-- another in it; what is outside of what stands together is of no use for what is asked of that.
use Rattle.std.proofs.Common.{◌≡◌, ⊎_elim, ◌∙◌, sym, ap, ap₂, refl, subst, ℕ, ℤ, pos, ◌+ℤ◌, Bool, true, false, cond, ◌&&◌, eqb-true, int_le, nat_eq}
use Rattle.std.proofs.Common.{Option, Some, None, List}
use Rattle.std.specs.List.{list_any}
use Rattle.std.specs.Cmp.{IsTotalOrder, nat_cmp_is}
use Rattle.std.specs.Cmp.Lexicographic.{options_total, slice_cmp}
use Rattle.std.specs.FinMap.{int_cmp-IsAntisymmetric, nat_cmp-IsAntisymmetric, slice_cmp-IsAntisymmetric}
use Rattle.std.specs.Option.{option_cmp}
use Rattle.std.specs.Ordering.{int_cmp, nat_cmp, on, ordering_reverse, ordering_then, then_cmp}
use Rattle.std.specs.declared.cmp.Ordering.{Ordering}
use Rattle.std.specs.declared.cmp.Ordering.TheVariants.{Less, Equal, Greater}
use Rattle.std.proofs.lemmas.Bool.{cases_Bool}
use Rattle.std.proofs.lemmas.Cmp.{int_cmp_total, lists_total, nat_cmp_total, on_total, then_total}
use Rattle.types.specs.declared.form.OrdinalRange.{OrdinalRange}
use Rattle.checker_state.specs.declared.bound.Bound.{Bound as KeptBound}
use Rattle.checker_state.specs.declared.held.Group.{Group}
use Rattle.checker_state.specs.declared.held.Group.TheVariants as group
use Rattle.checker_state.specs.declared.held.Held.{Held as KeptHeld}
use Rattle.checker_state.specs.declared.held.Held.TheVariants as kept
use Rattle.checker_state.specs.Bounds.{Bound, bound_order, is_variable, variable_order}
use Rattle.checker_state.specs.State.{Facts, Held, Ordered, Span, Stretch, Stretched, Wanted, begin_in_time, begins, covers, go_on, group_of}
use Rattle.checker_state.specs.State.{group_order, have_spans, held_order, joins, says_at_most, span_order, stretched}
use Rattle.checker_state.specs.Stores.{longer, longer_by}

-- what stands for what isn't held
abbrev pub no_held : KeptHeld
no_held =
    let none : KeptBound = record { root = None; number = pos 0 } in
    kept.Stretched (record { row = 0; span = record { first = none; last = none }; inner = None })

-- ---- what ties

both-equal : (one other : Ordering) → ordering_then one other ≡ Equal → (one ≡ Equal) × (other ≡ Equal)
both-equal Less other is = absurd (cc)
both-equal Equal other is = (refl, is)
both-equal Greater other is = absurd (cc)

variables-same : (one other : Option ℕ) → variable_order one other ≡ Equal → one ≡ other
variables-same None None is = refl
variables-same None (Some root) is = absurd (cc)
variables-same (Some root) None is = absurd (cc)
variables-same (Some root) (Some other) is = ap Some (nat_cmp-IsAntisymmetric root other is)

bounds-same : (one other : Bound) → bound_order one other ≡ Equal → one ≡ other
bounds-same one other is =
    let both = both-equal (variable_order one.root other.root) (int_cmp one.number other.number) is in
    ap₂ (λ (root : Option ℕ) (number : ℤ). let bound : Bound = record { root = root; number = number } in bound)
    (variables-same one.root other.root both.0) (int_cmp-IsAntisymmetric one.number other.number both.1)

spans-same : (one other : Span) → span_order one other ≡ Equal → one ≡ other
spans-same one other is =
    let both = both-equal (bound_order one.first other.first) (bound_order one.last other.last) is in
    ap₂ (λ (first last : Bound). let span : Span = record { first = first; last = last } in span)
    (bounds-same one.first other.first both.0) (bounds-same one.last other.last both.1)

pub held-same : (one other : Held) → held_order one other ≡ Equal → one ≡ other
held-same (Stretched one) (Stretched other) is =
    let both = both-equal (nat_cmp one.row other.row) (slice_cmp span_order one.spans other.spans) is in
    ap₂ (λ (row : ℕ) (spans : List Span). Stretched (record { row = row; spans = spans }))
    (nat_cmp-IsAntisymmetric one.row other.row both.0) (slice_cmp-IsAntisymmetric spans-same one.spans other.spans both.1)
held-same (Stretched one) (Ordered c d n) is = absurd (cc)
held-same (Ordered a b m) (Stretched other) is = absurd (cc)
held-same (Ordered a b m) (Ordered c d n) is =
    let one = both-equal (nat_cmp a c) (ordering_then (nat_cmp b d) (int_cmp m n)) is in
    let two = both-equal (nat_cmp b d) (int_cmp m n) one.1 in
    ap (λ (root : ℕ). Ordered root b m) (nat_cmp-IsAntisymmetric a c one.0)
    ∙ ap₂ (λ (other : ℕ) (number : ℤ). Ordered c other number) (nat_cmp-IsAntisymmetric b d two.0) (int_cmp-IsAntisymmetric m n two.1)

-- ---- it is a total order

variables-are : (one other : Option ℕ) → option_cmp nat_cmp one other ≡ variable_order one other
variables-are None None = refl
variables-are None (Some other) = refl
variables-are (Some root) None = refl
variables-are (Some root) (Some other) = refl

variables-total : IsTotalOrder variable_order
variables-total = subst IsTotalOrder (λ i one other. variables-are one other i) (options_total nat_cmp_total)

bounds-total : IsTotalOrder bound_order
bounds-total = then_total (on_total (λ (b : Bound). b.root) variables-total) (on_total (λ (b : Bound). b.number) int_cmp_total)

spans-total : IsTotalOrder span_order
spans-total = then_total (on_total (λ (s : Span). s.first) bounds-total) (on_total (λ (s : Span). s.last) bounds-total)

abbrev stretch_order : Stretch → Stretch → Ordering
stretch_order = then_cmp (on (λ (s : Stretch). s.row) nat_cmp) (on (λ (s : Stretch). s.spans) (slice_cmp span_order))

stretches-total : IsTotalOrder stretch_order
stretches-total = then_total (on_total (λ (s : Stretch). s.row) nat_cmp_total) (on_total (λ (s : Stretch). s.spans) (lists_total spans-total))

-- two variables, and an order of them
record Two : Type 0 where
  root : ℕ
  other : ℕ

abbrev two_order : Two → Two → Ordering
two_order = then_cmp (on (λ (t : Two). t.root) nat_cmp) (on (λ (t : Two). t.other) nat_cmp)

two-total : IsTotalOrder two_order
two-total = then_total (on_total (λ (t : Two). t.root) nat_cmp_total) (on_total (λ (t : Two). t.other) nat_cmp_total)

record Order : Type 0 where
  two : Two
  number : ℤ

abbrev order_order : Order → Order → Ordering
order_order = then_cmp (on (λ (o : Order). o.two) two_order) (on (λ (o : Order). o.number) int_cmp)

orders-total : IsTotalOrder order_order
orders-total = then_total (on_total (λ (o : Order). o.two) two-total) (on_total (λ (o : Order). o.number) int_cmp_total)

abbrev order_of : ℕ → ℕ → ℤ → Order
order_of root other number = record { two = record { root = root; other = other }; number = number }

then-then : (one two three : Ordering) → ordering_then (ordering_then one two) three ≡ ordering_then one (ordering_then two three)
then-then Less two three = refl
then-then Equal two three = refl
then-then Greater two three = refl

orders-are : (a b c d : ℕ) (m n : ℤ) → order_order (order_of a b m) (order_of c d n) ≡ held_order (Ordered a b m) (Ordered c d n)
orders-are a b c d m n = then-then (nat_cmp a c) (nat_cmp b d) (int_cmp m n)

pub held-turned : (one other : Held) → held_order one other ≡ ordering_reverse (held_order other one)
held-turned (Stretched a) (Stretched b) = stretches-total.antisymm a b
held-turned (Stretched a) (Ordered c d n) = refl
held-turned (Ordered a b m) (Stretched c) = refl
held-turned (Ordered a b m) (Ordered c d n) =
    sym (orders-are a b c d m n) ∙ orders-total.antisymm (order_of a b m) (order_of c d n) ∙ ap ordering_reverse (orders-are c d a b n m)

pub held-chain : (x y z : Held) → held_order x y ≡ Less → held_order y z ≡ Less → held_order x z ≡ Less
held-chain (Stretched a) (Stretched b) (Stretched c) first rest = stretches-total.trans a b c first rest
held-chain (Stretched a) y (Ordered e f n) first rest = refl
held-chain (Stretched a) (Ordered c d m) (Stretched b) first rest = absurd (cc)
held-chain (Ordered a b m) (Stretched c) z first rest = absurd (cc)
held-chain (Ordered a b m) (Ordered c d n) (Stretched e) first rest = absurd (cc)
held-chain (Ordered a b l) (Ordered c d m) (Ordered e f n) first rest =
    sym (orders-are a b e f l n)
    ∙ orders-total.trans (order_of a b l) (order_of c d m) (order_of e f n) (orders-are a b c d l m ∙ first) (orders-are c d e f m n ∙ rest)

held-alike : (x y z : Held) → held_order x y ≡ Equal → held_order x z ≡ held_order y z
held-alike (Stretched a) (Stretched b) (Stretched c) same = stretches-total.congr a b c same
held-alike (Stretched a) (Stretched b) (Ordered e f n) same = refl
held-alike (Stretched a) (Ordered c d m) z same = absurd (cc)
held-alike (Ordered a b m) (Stretched c) z same = absurd (cc)
held-alike (Ordered a b m) (Ordered c d n) (Stretched e) same = refl
held-alike (Ordered a b l) (Ordered c d m) (Ordered e f n) same =
    sym (orders-are a b e f l n)
    ∙ orders-total.congr (order_of a b l) (order_of c d m) (order_of e f n) (orders-are a b c d l m ∙ same) ∙ orders-are c d e f m n

pub held-total : IsTotalOrder held_order
held-total = record { antisymm = held-turned; trans = held-chain; congr = held-alike }

-- ---- what stands together

groups-turned : (a b : Group) → group_order a b ≡ ordering_reverse (group_order b a)
groups-turned (group.Row a) (group.Row b) = nat_cmp_total.antisymm a b
groups-turned (group.Row a) (group.Pair c d) = refl
groups-turned (group.Pair a b) (group.Row c) = refl
groups-turned (group.Pair a b) (group.Pair c d) = two-total.antisymm (record { root = a; other = b }) (record { root = c; other = d })

groups-chain : (x y z : Group) → group_order x y ≡ Less → group_order y z ≡ Less → group_order x z ≡ Less
groups-chain (group.Row a) (group.Row b) (group.Row c) first rest = nat_cmp_total.trans a b c first rest
groups-chain (group.Row a) y (group.Pair e f) first rest = refl
groups-chain (group.Row a) (group.Pair c d) (group.Row e) first rest = absurd (cc)
groups-chain (group.Pair a b) (group.Row c) z first rest = absurd (cc)
groups-chain (group.Pair a b) (group.Pair c d) (group.Row e) first rest = absurd (cc)
groups-chain (group.Pair a b) (group.Pair c d) (group.Pair e f) first rest =
    two-total.trans (record { root = a; other = b }) (record { root = c; other = d }) (record { root = e; other = f }) first rest

groups-alike : (x y z : Group) → group_order x y ≡ Equal → group_order x z ≡ group_order y z
groups-alike (group.Row a) (group.Row b) (group.Row c) same = nat_cmp_total.congr a b c same
groups-alike (group.Row a) (group.Row b) (group.Pair e f) same = refl
groups-alike (group.Row a) (group.Pair c d) z same = absurd (cc)
groups-alike (group.Pair a b) (group.Row c) z same = absurd (cc)
groups-alike (group.Pair a b) (group.Pair c d) (group.Row e) same = refl
groups-alike (group.Pair a b) (group.Pair c d) (group.Pair e f) same =
    two-total.congr (record { root = a; other = b }) (record { root = c; other = d }) (record { root = e; other = f }) same

pub groups-total : IsTotalOrder group_order
groups-total = record { antisymm = groups-turned; trans = groups-chain; congr = groups-alike }

-- by this it stands first of all
pub by-group : (x y : Held) → (rest : Ordering) × (held_order x y ≡ ordering_then (group_order (group_of x) (group_of y)) rest)
by-group (Stretched a) (Stretched b) = (slice_cmp span_order a.spans b.spans, refl)
by-group (Stretched a) (Ordered c d n) = (Equal, refl)
by-group (Ordered a b m) (Stretched c) = (Equal, refl)
by-group (Ordered a b m) (Ordered c d n) = (int_cmp m n, sym (then-then (nat_cmp a c) (nat_cmp b d) (int_cmp m n)))

-- with the stretches of a row stands nothing else
pub of-row : (row : ℕ) (one : Held) → group_order (group_of one) (group.Row row) ≡ Equal → (spans : List Span) × (one ≡ stretched row spans)
of-row row (Stretched s) is = (s.spans, ap (λ (r : ℕ). stretched r s.spans) (nat_cmp-IsAntisymmetric s.row row is))
of-row row (Ordered a b m) is = absurd (cc)

-- ---- what is outside

-- what an order of other variables doesn't say, and what a stretch of another row doesn't cover
abbrev pub Outside : Group → Held → Type 0
Outside place one = group_order (group_of one) place ≡ Equal → ⊥

level : (x y : ℕ) → nat_eq x y ≡ true → nat_cmp x y ≡ Equal
level x y is = sym (nat_cmp_is x y Equal (eqb-true x y is))

pub says-outside : (a b : Bound) (root other : ℕ) → a.root ≡ Some root → b.root ≡ Some other → (one : Held) → Outside (group.Pair root other) one
    → says_at_most a b one ≡ false
says-outside a b root other first second (Stretched stretch) outside = refl
says-outside a b root other first second (Ordered x y number) outside =
    ap₂ (λ (p q : Option ℕ). is_variable x p && (is_variable y q && int_le (number +ℤ a.number) b.number)) first second
    ∙ ⊎_elim
    (λ (left : nat_eq x root ≡ true).
    ⊎_elim (λ (right : nat_eq y other ≡ true). absurd (outside (ap₂ ordering_then (level x root left) (level y other right))))
    (λ (right : nat_eq y other ≡ false).
    ap₂ (λ (p q : Bool). p && (q && int_le (number +ℤ a.number) b.number)) left right)
    (cases_Bool (nat_eq y other)))
    (λ (left : nat_eq x root ≡ false).
    ap (λ (p : Bool). p && (nat_eq y other && int_le (number +ℤ a.number) b.number)) left)
    (cases_Bool (nat_eq x root))

pub says-no-first : (a b : Bound) → a.root ≡ None → (one : Held) → says_at_most a b one ≡ false
says-no-first a b none (Stretched stretch) = refl
says-no-first a b none (Ordered x y number) =
    ap (λ (p : Option ℕ). is_variable x p && (is_variable y b.root && int_le (number +ℤ a.number) b.number)) none

and-false : (b : Bool) → (b && false) ≡ false
and-false true = refl
and-false false = refl

pub says-no-second : (a b : Bound) → b.root ≡ None → (one : Held) → says_at_most a b one ≡ false
says-no-second a b none (Stretched stretch) = refl
says-no-second a b none (Ordered x y number) =
    ap (λ (q : Option ℕ). is_variable x a.root && (is_variable y q && int_le (number +ℤ a.number) b.number)) none ∙ and-false (is_variable x a.root)

-- what is of another row is none that is wanted of a row
row-outside : (row other : ℕ) (rest : Bool) → (nat_cmp other row ≡ Equal → ⊥) → (nat_eq row other && rest) ≡ false
row-outside row other rest outside =
    ⊎_elim
    (λ (same : nat_eq row other ≡ true). absurd (outside (sym (nat_cmp_is other row Equal (sym (eqb-true row other same))))))
    (λ (differ : nat_eq row other ≡ false). ap (λ (b : Bool). b && rest) differ) (cases_Bool (nat_eq row other))

module _ (known : Facts) (indexes : List OrdinalRange) (row : ℕ) (wanted : List Wanted) where
  pub covers-outside : (one : Held) → Outside (group.Row row) one → covers known indexes row wanted one ≡ false
  covers-outside (Ordered x y number) outside = refl
  covers-outside (Stretched stretch) outside = row-outside row stretch.row (have_spans known indexes wanted stretch.spans) outside

  module _ (inside : Bool) where
    begins-outside : (one : Held) → Outside (group.Row row) one → begins known indexes row wanted inside one ≡ false
    begins-outside (Ordered x y number) outside = refl
    begins-outside (Stretched stretch) outside = row-outside row stretch.row (begin_in_time inside known indexes wanted stretch.spans) outside

    pub joined-outside : (one : Held) → Outside (group.Row row) one
        → (begins known indexes row wanted inside one && list_any (joins known indexes row wanted inside one) known.held) ≡ false
    joined-outside one outside =
        ap (λ (b : Bool). b && list_any (joins known indexes row wanted inside one) known.held) (begins-outside one outside)

    pub joins-outside : (one other : Held) → Outside (group.Row row) other → joins known indexes row wanted inside one other ≡ false
    joins-outside (Ordered x y number) other outside = refl
    joins-outside (Stretched one) (Ordered x y number) outside = refl
    joins-outside (Stretched one) (Stretched other) outside =
        row-outside row other.row (go_on inside known indexes wanted one.spans other.spans) outside

module _ (known : Facts) (row : ℕ) where
  pub longer-outside : (indexes : List Bound) (one : Held) → Outside (group.Row row) one → longer known row indexes one ≡ None
  longer-outside indexes (Ordered x y number) outside = refl
  longer-outside indexes (Stretched s) outside =
      ⊎_elim (λ (same : nat_eq s.row row ≡ true). absurd (outside (sym (nat_cmp_is s.row row Equal (eqb-true s.row row same)))))
      (λ (differ : nat_eq s.row row ≡ false). ap (λ (b : Bool). cond b (longer_by known row indexes s.spans) None) differ)
      (cases_Bool (nat_eq s.row row))
