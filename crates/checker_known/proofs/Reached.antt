-- What has all that is wanted of a row goes to its end.
use Rattle.std.proofs.Common.{◌≡◌, ⊎_elim, sym, ap, refl, ℕ, Bool, true, false, ◌&&◌, ◌||◌, eqb-true, nat_eq, List, [], ◌∷◌}
use Rattle.std.specs.List.{Contains, list_any}
use Rattle.std.specs.Cmp.{nat_cmp_is}
use Rattle.std.specs.Ordering.{nat_cmp}
use Rattle.std.specs.declared.cmp.Ordering.TheVariants.{Equal}
use Rattle.std.proofs.lemmas.Bool.{and_from, and_parts, both_ways, cases_Bool, false_from_ne_true, or_cases}
use Rattle.std.proofs.lemmas.List.Folds.{list_any-from_Any}
use Rattle.types.specs.declared.form.OrdinalRange.{OrdinalRange}
use Rattle.domain.specs.Versions.{has}
use Rattle.domain.specs.declared.versions.Extension.TheVariants.{Blocks, Boxes}
use Rattle.checker_state.specs.declared.held.Group.TheVariants as group
use Rattle.checker_state.specs.State.{Facts, Held, Ordered, Span, Stretched, Wanted, all_indexes, begins, covers, go_on, has_span, have_spans, is_covered}
use Rattle.checker_state.specs.State.{is_had, is_joined, is_joined_inside, joins, wanted_of}
use Rattle.checker_state.proofs.HeldOrders.{Outside}
use Rattle.checker_state.proofs.Lists.{any-in}
use Rattle.checker_known.specs.View.{reaches, spans_reach}

any-of : (test : Held → Bool) (held : List Held) (one : Held) → Contains held one → test one ≡ true → list_any test held ≡ true
any-of test held one (k, within, is) passes = list_any-from_Any test held (k, one, within, is, passes)

-- what is of another row is none of a row
row-outside : (row other : ℕ) (rest : Bool) → (nat_cmp other row ≡ Equal → ⊥) → (nat_eq row other && rest) ≡ false
row-outside row other rest outside =
    ⊎_elim
    (λ (same : nat_eq row other ≡ true). absurd (outside (sym (nat_cmp_is other row Equal (sym (eqb-true row other same))))))
    (λ (differ : nat_eq row other ≡ false). ap (λ (b : Bool). b && rest) differ) (cases_Bool (nat_eq row other))

module _ (row : ℕ) (asks : Wanted) where
  pub reaches-outside : (one : Held) → Outside (group.Row row) one → reaches row asks one ≡ false
  reaches-outside (Ordered x y number) outside = refl
  reaches-outside (Stretched stretch) outside = row-outside row stretch.row (spans_reach asks stretch.spans) outside

  module _ (known : Facts) where
    having : (indexes : List OrdinalRange) (more : List Wanted) (spans : List Span) → have_spans known indexes (asks ∷ more) spans ≡ true
        → spans_reach asks spans ≡ true
    having indexes more [] is = refl
    having indexes more (span ∷ spans) is = (and_parts (asks.begins span.first) (asks.ends span.last) (and_parts (has_span asks span) _ is).0).1

    going : (inside : Bool) (indexes : List OrdinalRange) (more : List Wanted) (held next : List Span)
        → go_on inside known indexes (asks ∷ more) held next ≡ true → spans_reach asks next ≡ true
    going false indexes more [] next is = absurd (cc)
    going true indexes more [] next is = absurd (cc)
    going false indexes more (span ∷ held) [] is = refl
    going true indexes more (span ∷ held) [] is = refl
    going false indexes more (span ∷ held) (other ∷ next) is = (and_parts (asks.ends other.last) _ (and_parts _ _ is).1).0
    going true indexes more (span ∷ held) (other ∷ next) is =
        (and_parts (asks.begins other.first) (asks.ends other.last) (and_parts (has_span asks other) _ is).0).1

    covering : (indexes : List OrdinalRange) (more : List Wanted) (one : Held) → covers known indexes row (asks ∷ more) one ≡ true
        → reaches row asks one ≡ true
    covering indexes more (Ordered x y number) is = absurd (cc)
    covering indexes more (Stretched stretch) is =
        let parts = and_parts (nat_eq row stretch.row) (have_spans known indexes (asks ∷ more) stretch.spans) is in
        and_from (nat_eq row stretch.row) (spans_reach asks stretch.spans) parts.0 (having indexes more stretch.spans parts.1)

    joining : (inside : Bool) (indexes : List OrdinalRange) (more : List Wanted) (one other : Held)
        → joins known indexes row (asks ∷ more) inside one other ≡ true → reaches row asks other ≡ true
    joining inside indexes more (Ordered x y number) other is = absurd (cc)
    joining inside indexes more (Stretched one) (Ordered x y number) is = absurd (cc)
    joining inside indexes more (Stretched one) (Stretched other) is =
        let parts = and_parts (nat_eq row other.row) (go_on inside known indexes (asks ∷ more) one.spans other.spans) is in
        and_from (nat_eq row other.row) (spans_reach asks other.spans) parts.0 (going inside indexes more one.spans other.spans parts.1)

    abbrev is_reached : Bool
    is_reached = list_any (reaches row asks) known.held

    by-one : (indexes : List OrdinalRange) (more : List Wanted) → is_covered known indexes row (asks ∷ more) ≡ true → is_reached ≡ true
    by-one indexes more is =
        let found = any-in (covers known indexes row (asks ∷ more)) known.held is in
        any-of (reaches row asks) known.held found.0 found.1 (covering indexes more found.0 found.2)

    by-two : (inside : Bool) (indexes : List OrdinalRange) (more : List Wanted) → is_joined known indexes row (asks ∷ more) inside ≡ true
        → is_reached ≡ true
    by-two inside indexes more is =
        let begin = begins known indexes row (asks ∷ more) inside in
        let join = joins known indexes row (asks ∷ more) inside in
        let first = any-in (λ one. begin one && list_any (join one) known.held) known.held is in
        let parts = and_parts (begin first.0) (list_any (join first.0) known.held) first.2 in
        let next = any-in (join first.0) known.held parts.1 in
        any-of (reaches row asks) known.held next.0 next.1 (joining inside indexes more first.0 next.0 next.2)

    within : (indexes : List OrdinalRange) (more : List Wanted) → is_joined_inside known indexes row (asks ∷ more) ≡ true → is_reached ≡ true
    within [] [] is = absurd (cc)
    within (first ∷ []) [] is = absurd (cc)
    within (first ∷ second ∷ indexes) [] is = by-two true (first ∷ second ∷ indexes) (wanted_of known (all_indexes second) ∷ []) is
    within indexes (two ∷ more) is =
        ⊎_elim (by-two true indexes (two ∷ more)) (by-two false indexes (two ∷ more))
        (or_cases (is_joined known indexes row (asks ∷ two ∷ more) true) (is_joined known indexes row (asks ∷ two ∷ more) false) is)

    had : (indexes : List OrdinalRange) (more : List Wanted) → is_had known indexes row (asks ∷ more) ≡ true → is_reached ≡ true
    had indexes more is =
        let one = is_covered known indexes row (asks ∷ []) in
        let two = is_joined known indexes row (asks ∷ []) false in
        let blocks = has known.rules Blocks && (one || two) in
        let boxes = has known.rules Boxes && is_joined_inside known indexes row (asks ∷ more) in
        ⊎_elim (by-one indexes more)
        (λ rest. ⊎_elim
        (λ by_blocks. ⊎_elim (by-one indexes []) (by-two false indexes []) (or_cases one two (and_parts (has known.rules Blocks) (one || two) by_blocks).1))
        (λ by_boxes. within indexes more (and_parts (has known.rules Boxes) (is_joined_inside known indexes row (asks ∷ more)) by_boxes).1)
        (or_cases blocks boxes rest))
        (or_cases (is_covered known indexes row (asks ∷ more)) (blocks || boxes) is)

    -- where nothing goes to the end, nothing has all
    pub unreached : (indexes : List OrdinalRange) (more : List Wanted) → is_reached ≡ false → false ≡ is_had known indexes row (asks ∷ more)
    unreached indexes more none =
        sym (false_from_ne_true (is_had known indexes row (asks ∷ more)) (λ is. both_ways is_reached none (had indexes more is)))
