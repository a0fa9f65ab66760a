-- What is held is given where the variables are defined on which it rests.
use Rattle.std.proofs.Common.{arith, ◌≡◌, ◌∙◌, sym, ap, refl, ℕ, ℤ, pos, ◌+ℤ◌, int_le, Bool, true, false, ◌&&◌, List, [], ◌∷◌, Option, Some}
use Rattle.std.proofs.Common.{None, drop, map, nat_eq}
use Rattle.std.specs.List.{Contains, list_any}
use Rattle.std.proofs.lemmas.Bool.{and_from, eq-eqb, or_left, or_right}
use Rattle.std.proofs.lemmas.Int.{ints}
use Rattle.std.proofs.lemmas.List.Folds.{list_any_at}
use Rattle.types.specs.declared.form.OrdinalRange.{OrdinalRange}
use Rattle.checker_state.specs.Bounds.{Bound, is_at_most, is_same_variable, plus}
use Rattle.checker_state.specs.State.{Facts, Held, Live, Ordered, Span, Stretch, Stretched, Table, bound_range, covers, gives, has_its_values, has_number}
use Rattle.checker_state.specs.State.{has_span, have_spans}
use Rattle.checker_state.specs.State.{have_values, is_covered}
use Rattle.checker_state.specs.State.{is_below, is_empty, is_whole, le, says_at_most, wanted_of}

less-itself : (n : ℤ) → int_le n n ≡ true
less-itself n = grind (arith, ints)

variable-itself : (root : Option ℕ) → is_same_variable root root ≡ true
variable-itself None = refl
variable-itself (Some root) = eq-eqb root root refl

module _ (known : Facts) where
  -- a bound is at most itself
  le-itself : (bound : Bound) → le known bound bound ≡ true
  le-itself bound =
      or_left (is_at_most bound bound) _
      (and_from (is_same_variable bound.root bound.root) (int_le bound.number bound.number) (variable-itself bound.root) (less-itself bound.number))

  spans-themselves : (indexes : List OrdinalRange) (spans : List Span) → have_spans known indexes (map (wanted_of known) spans) spans ≡ true
  spans-themselves indexes [] = refl
  spans-themselves indexes (span ∷ spans) =
      and_from (has_span (wanted_of known span) span) (have_spans known (drop 1 indexes) (map (wanted_of known) spans) spans)
      (and_from (le known span.first span.first) (le known span.last span.last) (le-itself span.first) (le-itself span.last))
      (spans-themselves (drop 1 indexes) spans)

  covers-itself : (indexes : List OrdinalRange) (stretch : Stretch)
      → covers known indexes stretch.row (map (wanted_of known) stretch.spans) (Stretched stretch) ≡ true
  covers-itself indexes stretch =
      and_from (nat_eq stretch.row stretch.row) (have_spans known indexes (map (wanted_of known) stretch.spans) stretch.spans)
      (eq-eqb stretch.row stretch.row refl) (spans-themselves indexes stretch.spans)

  any-held : (test : Held → Bool) (one : Held) → Contains known.held one → test one ≡ true → list_any test known.held ≡ true
  any-held test one (place, within, is) passes =
      list_any_at test known.held place one within (ap test is ∙ passes)

  order-itself : (root other : ℕ) (number : ℤ) → says_at_most (plus root (pos 0)) (plus other number) (Ordered root other number) ≡ true
  order-itself root other number =
      and_from (nat_eq root root) (nat_eq other other && int_le (number +ℤ pos 0) number) (eq-eqb root root refl)
      (and_from (nat_eq other other) (int_le (number +ℤ pos 0) number) (eq-eqb other other refl) (grind (arith, ints)))

and-true : (first rest : Bool) → rest ≡ true → (first && rest) ≡ first
and-true true rest is = is
and-true false rest is = refl

pub held-given : (table : Table) (known : Facts) (one : Held) → Contains known.held one → gives table known one ≡ has_its_values table (Live known) one
held-given table known (Stretched stretch) has =
    and-true (have_values table (Live known) stretch.spans) _
    (or_right (list_any (is_empty known) stretch.spans) _
    (or_right (is_whole table known stretch.row) _
    (or_left (is_covered known (table.indexes stretch.row) stretch.row (map (wanted_of known) stretch.spans)) _
    (any-held known (covers known (table.indexes stretch.row) stretch.row (map (wanted_of known) stretch.spans)) (Stretched stretch) has
    (covers-itself known (table.indexes stretch.row) stretch)))))
held-given table known (Ordered root other number) has =
    let a = plus root (pos 0) in
    let b = plus other number in
    ap (λ (rest : Bool). has_number table (Live known) root && rest)
    (and-true (has_number table (Live known) other) (le known a b)
    (or_right (is_at_most a b) _
    (or_right (is_below (bound_range (Live known) a) (bound_range (Live known) b)) _
    (any-held known (says_at_most a b) (Ordered root other number) has (order-itself known root other number)))))
    ∙ sym (and-true (has_number table (Live known) root && has_number table (Live known) other) true refl)
