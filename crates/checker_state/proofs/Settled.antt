-- A rebinding of a variable on which something that is held doesn't rest leaves it as it is; and by its ends it is told
-- on which variables it rests.
use Rattle.std.proofs.Common.{◌≡◌, ⊎_elim, ◌∙◌, ap, ap₂, refl, ℕ, ℤ, Bool, true, false, cond, ◌||◌, nat_eq, List, [], ◌∷◌, Some, None}
use Rattle.std.specs.List.{list_any}
use Rattle.std.proofs.Math.Bool.{or-false}
use Rattle.std.proofs.lemmas.Bool.{cases_Bool, or_parts}
use Rattle.checker_state.specs.declared.bound.Rebinding.{Rebinding}
use Rattle.checker_state.specs.declared.bound.Rebinding.TheVariants as rebinding
use Rattle.checker_state.specs.Bounds.{Bound, is_variable, moved_bound}
use Rattle.checker_state.specs.Changes.{all_with_bounds, bound_rests_on, both_there, changed, changed_bound, changed_bound_by, order_in_place}
use Rattle.checker_state.specs.Changes.{ordered, raised, raised_number, rests_on, span_between, span_rests_on, stretch_of, unless_resting, with_bounds}
use Rattle.checker_state.specs.State.{Held, Ordered, Span, Stretch, Stretched, ends_of}
use Rattle.checker_state.specs.View.{bound_by, held_by, root_of, said_bound}

-- ---- what stays

stays-bound : (how : Rebinding) (bound : Bound) → bound_rests_on (root_of how) bound ≡ false → bound_by how bound ≡ Some bound
stays-bound (rebinding.Changed root None) bound is = ap (λ (rests : Bool). cond rests None (Some bound)) is
stays-bound (rebinding.Changed root (Some form)) bound is =
    ap (λ (rests : Bool). cond rests (changed_bound_by root (said_bound form) bound) (Some bound)) is
stays-bound (rebinding.InPlace root own) bound is =
    ap (λ (rests : Bool). cond rests (moved_bound bound.number (said_bound own)) (Some bound)) is

stays-span : (how : Rebinding) (span : Span) → span_rests_on (root_of how) span ≡ false → with_bounds (bound_by how) span ≡ Some span
stays-span how span is =
    let both = or_parts (bound_rests_on (root_of how) span.first) (bound_rests_on (root_of how) span.last) is in
    ap₂ span_between (stays-bound how span.first both.0) (stays-bound how span.last both.1)

stays-spans : (how : Rebinding) (spans : List Span) → list_any (span_rests_on (root_of how)) spans ≡ false
    → all_with_bounds (bound_by how) spans ≡ Some spans
stays-spans how [] is = refl
stays-spans how (span ∷ spans) is =
    let both = or_parts (span_rests_on (root_of how) span) (list_any (span_rests_on (root_of how)) spans) is in
    ap₂ both_there (stays-span how span both.0) (stays-spans how spans both.1)

pub stays-stretch : (how : Rebinding) (stretch : Stretch) → rests_on (root_of how) (Stretched stretch) ≡ false
    → held_by how (Stretched stretch) ≡ Some (Stretched stretch)
stays-stretch (rebinding.Changed root form) stretch is =
    ap (stretch_of stretch.row) (stays-spans (rebinding.Changed root form) stretch.spans is)
stays-stretch (rebinding.InPlace root own) stretch is =
    ap (stretch_of stretch.row) (stays-spans (rebinding.InPlace root own) stretch.spans is)

stays-raised : (root : ℕ) (k : ℤ) (a b : ℕ) (number : ℤ) → (nat_eq root a || nat_eq root b) ≡ false
    → ordered a b number ≡ Some (Ordered a b number) → raised root k a b number ≡ Some (Ordered a b number)
stays-raised root k a b number is proper =
    let both = or_parts (nat_eq root a) (nat_eq root b) is in
    ap₂ (λ (left right : Bool). ordered a b (raised_number left right k number)) both.0 both.1 ∙ proper

pub stays-order : (how : Rebinding) (a b : ℕ) (number : ℤ) → (nat_eq (root_of how) a || nat_eq (root_of how) b) ≡ false
    → ordered a b number ≡ Some (Ordered a b number) → held_by how (Ordered a b number) ≡ Some (Ordered a b number)
stays-order (rebinding.Changed root None) a b number is proper = ap (λ (rests : Bool). cond rests None (Some (Ordered a b number))) is
stays-order (rebinding.Changed root (Some form)) a b number is proper =
    let alone : unless_resting root a b number ≡ Some (Ordered a b number) = ap (λ (rests : Bool). cond rests None (Some (Ordered a b number))) is in
    ⊎_elim
    (λ (own : is_variable root form.root ≡ true).
    ap (λ (is_own : Bool). cond is_own (raised root form.number a b number) (unless_resting root a b number)) own
    ∙ stays-raised root form.number a b number is proper)
    (λ (other : is_variable root form.root ≡ false).
    ap (λ (is_own : Bool). cond is_own (raised root form.number a b number) (unless_resting root a b number)) other ∙ alone)
    (cases_Bool (is_variable root form.root))
stays-order (rebinding.InPlace root own) a b number is proper =
    let by = said_bound own in
    ap (λ (rests : Bool). cond rests (order_in_place root by.root by.number a b number) (Some (Ordered a b number))) is

-- ---- what goes

between-kept : (span : Span) (first last : Bool) → span_between (cond first None (Some span.first)) (cond last None (Some span.last))
    ≡ cond (first || last) None (Some span)
between-kept span true last = refl
between-kept span false true = refl
between-kept span false false = refl

both-kept : (span : Span) (spans : List Span) (one rest : Bool) → both_there (cond one None (Some span)) (cond rest None (Some spans))
    ≡ cond (one || rest) None (Some (span ∷ spans))
both-kept span spans true rest = refl
both-kept span spans false true = refl
both-kept span spans false false = refl

spans-kept : (root : ℕ) (spans : List Span) → all_with_bounds (changed_bound root None) spans
    ≡ cond (list_any (span_rests_on root) spans) None (Some spans)
spans-kept root [] = refl
spans-kept root (span ∷ spans) =
    ap₂ both_there (between-kept span (bound_rests_on root span.first) (bound_rests_on root span.last)) (spans-kept root spans)
    ∙ both-kept span spans (span_rests_on root span) (list_any (span_rests_on root) spans)

stretch-kept : (row : ℕ) (spans : List Span) (rests : Bool) → stretch_of row (cond rests None (Some spans))
    ≡ cond rests None (Some (Stretched (record { row = row; spans = spans })))
stretch-kept row spans true = refl
stretch-kept row spans false = refl

-- what rests on a variable goes, and the rest stays as it is
pub one-kept : (root : ℕ) (one : Held) → changed root None one ≡ cond (rests_on root one) None (Some one)
one-kept root (Stretched stretch) =
    ap (stretch_of stretch.row) (spans-kept root stretch.spans) ∙ stretch-kept stretch.row stretch.spans (list_any (span_rests_on root) stretch.spans)
one-kept root (Ordered a b number) = refl

-- ---- by its ends

pub rests-by-ends : (root : ℕ) (one : Held) → list_any (span_rests_on root) (ends_of one) ≡ rests_on root one
rests-by-ends root (Stretched stretch) = refl
rests-by-ends root (Ordered a b number) = or-false (nat_eq root a || nat_eq root b)
