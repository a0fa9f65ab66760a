-- Tables of types whose ordinal types go from a number of integer to another, as members of sets do.
use Rattle.std.proofs.Common.{◌≡◌, ℕ, zero, suc, true, ◌&&◌, List, [], ◌∷◌, ◌++◌, Option, Some, None, option_map, slice_get, refl, subst}
use Rattle.std.specs.Option.{option_and_then}
use Rattle.types.specs.Forms.{Form}
use Rattle.types.specs.declared.form.TypeId.{TypeId}
use Rattle.types.specs.declared.form.TypeKind.{TypeKind}
use Rattle.types.specs.declared.form.TypeKind.TheVariants as kind
use Rattle.types.specs.declared.form.OrdinalRange.{OrdinalRange}
use Rattle.types.specs.Types.{form_at, form_kind, form_range, kind_range, range_of, required_forms, scalar_range, scalar_range_of}
use Rattle.typed_tree.specs.WellFormed.{is_whole}

abbrev pub IsWholeRange : OrdinalRange → Type 0
IsWholeRange range = (is_whole range.first && is_whole range.last) ≡ true

abbrev pub HaveWholeRanges : List Form → Type 0
HaveWholeRanges types = (id : TypeId) (range : OrdinalRange) → scalar_range_of types id ≡ Some range → IsWholeRange range

abbrev pub IfWhole : Option OrdinalRange → Type 0
IfWhole None = Unit {0}
IfWhole (Some range) = IsWholeRange range

-- the values of a scalar form
abbrev pub form_values : Form → Option OrdinalRange
form_values form = scalar_range (form_kind form)

abbrev values_in : Option Form → Option OrdinalRange
values_in form = option_and_then scalar_range (option_map form_kind form)

-- the values of an ordinal type are those of a scalar one
pub ordinal_values : (types : List Form) (id : TypeId) (range : OrdinalRange) → range_of types id ≡ Some range → scalar_range_of types id ≡ Some range
ordinal_values types id range is = by (form_at types id) is
  where
    of_kind : (found : TypeKind) → kind_range found ≡ Some range → scalar_range found ≡ Some range
    of_kind (kind.Ordinal values) h = h
    of_kind (kind.Set base members) h = absurd cc
    of_kind kind.Structured h = absurd cc

    by : (form : Option Form) → option_and_then form_range form ≡ Some range → values_in form ≡ Some range
    by None h = absurd cc
    by (Some form) h = of_kind (form_kind form) h

-- the required types do
pub required_have : HaveWholeRanges required_forms
required_have id range is = subst IfWhole is (by id.index)
  where
    by : (n : ℕ) → IfWhole (values_in (slice_get required_forms n))
    by zero = refl
    by (suc zero) = refl
    by (suc (suc zero)) = refl
    by (suc (suc (suc n))) = tt

-- ---- one type more

whole_at : (types : List Form) → HaveWholeRanges types → (n : ℕ) → IfWhole (values_in (slice_get types n))
whole_at types whole n = by (scalar_range_of types (record { index = n })) refl
  where
    by : (values : Option OrdinalRange) → scalar_range_of types (record { index = n }) ≡ values → IfWhole values
    by None is = tt
    by (Some range) is = whole (record { index = n }) range is

one_more : (types : List Form) (form : Form) → ((n : ℕ) → IfWhole (values_in (slice_get types n))) → IfWhole (form_values form)
    → (n : ℕ) → IfWhole (values_in (slice_get (types ++ form ∷ []) n))
one_more [] form all one zero = one
one_more [] form all one (suc n) = tt
one_more (first ∷ types) form all one zero = all zero
one_more (first ∷ types) form all one (suc n) = one_more types form (λ k. all (suc k)) one n

pub if_whole : (types : List Form) → HaveWholeRanges types → (id : TypeId) → IfWhole (range_of types id)
if_whole types whole id = by (range_of types id) refl
  where
    by : (values : Option OrdinalRange) → range_of types id ≡ values → IfWhole values
    by None is = tt
    by (Some range) is = whole id range (ordinal_values types id range is)

pub whole_more : (types : List Form) (form : Form) → HaveWholeRanges types → IfWhole (form_values form) → HaveWholeRanges (types ++ form ∷ [])
whole_more types form whole one id range is = subst IfWhole is (one_more types form (whole_at types whole) one id.index)
