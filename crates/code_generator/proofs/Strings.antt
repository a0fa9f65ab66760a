-- The components of a string are ordinals.
use Rattle.code_generator.proofs.Words.{◌≡◌, ℕ, zero, suc, ◌<◌, ◌≤◌, List, [], ◌∷◌, length, take, map, Option, Some, None, refl, sym, ap, ◌∙◌, subst, arith}
use Rattle.code_generator.proofs.Words.{Bool, true}
use Rattle.code_generator.proofs.Words.{⊎_elim, ℤ, slice_get, nat_lt, if◌then◌else◌, cases_lt, lt-ltb, false≢true, none-some, same_Some}
use Rattle.code_generator.proofs.Words.{option_and_then, Form, TypeId, components_of, Value}
use Rattle.std.specs.Option.{option_map}
use Rattle.std.specs.Prelude.{is_some}
use Rattle.std.proofs.lemmas.Bool.{and_from}
use Rattle.std.proofs.lemmas.List.{length-take}
use Rattle.std.proofs.lemmas.Option.{slice_get_past}
use Rattle.types.specs.declared.form.ArrayElement.{ArrayElement}
use Rattle.types.specs.declared.form.OrdinalRange.{OrdinalRange}
use Rattle.types.specs.declared.form.Step.TheVariants.{Element}
use Rattle.types.specs.Components.{Steps, components_at, entry_values, laid_out, range_values, values_at}
use Rattle.types.specs.Forms.{Array, Char}
use Rattle.types.specs.Types.{form_kind, scalar_range}
use Rattle.types.specs.Types.{BeginWithRequired, before, cells_at, char, element_in, element_of, elements, form_at, is_string, range_of, string_in}
use Rattle.types.specs.Types.{string_length}
use Rattle.types.proofs.Elements.{elements_components}
use Rattle.types.proofs.Laid.{components_before, components_of_form, first_laid, laid_before, values_before}
use Rattle.types.proofs.Scalars.{scalar_component}
use Rattle.types.proofs.Strings.{string_parts}
use Rattle.typed_tree.specs.declared.tree.Scalar.{Scalar}
use Rattle.typed_tree.specs.declared.tree.Scalar.TheVariants as scalar
use Rattle.code_generator.proofs.Scalars.{AllFit, HasFit, HasKind, kind_scalar, scalar_of, scalar_on, scalars_of}

-- the components of an array of scalars
only_elements : (values : List ℤ) (k : ℕ) (steps : Steps) → slice_get (elements_components ([] ∷ []) values) k ≡ Some steps
    → (value : ℤ) × (steps ≡ Element value ∷ []) × (0 < length values)
only_elements [] k steps at = absurd (none-some steps at)
only_elements (value ∷ values) zero steps at = (value, sym (same_Some (Element value ∷ []) steps at), omega arith)
only_elements (value ∷ values) (suc k) steps at = let rest = only_elements values k steps at in (rest.0, rest.1, omega arith)

-- there are no values of what stands behind
no_values : (types : List Form) (id index : TypeId) → id.index ≤ index.index → values_at (laid_before types id) index ≡ []
no_values types id index behind =
    ap (λ entries. values_at entries index) (first_laid types id.index)
    ∙ ap entry_values (slice_get_past (take id.index (laid_out types)) index.index (few behind))
  where
    few : id.index ≤ index.index → length (take id.index (laid_out types)) ≤ index.index
    few behind = let e = length-take id.index (laid_out types) in grind (arith, behind, e)

module _ (types : List Form) (required : BeginWithRequired types) where
  char_form : form_at types char ≡ Some Char
  char_form = ap (λ (table : List Form). form_at table char) required.1

  -- an array stands behind the required types
  array_behind : (packed : Bool) (index element : TypeId) (n : ℕ) → slice_get types n ≡ Some (Array packed index element) → char.index < n
  array_behind packed index element zero is = absurd (cc (ap (λ (table : List Form). slice_get table 0) required.1))
  array_behind packed index element (suc zero) is = absurd (cc (ap (λ (table : List Form). slice_get table 1) required.1))
  array_behind packed index element (suc (suc zero)) is = absurd (cc (ap (λ (table : List Form). slice_get table 2) required.1))
  array_behind packed index element (suc (suc (suc n))) is = omega arith

  module _ (id : TypeId) where
    -- an array of chars whose index has values has elements
    has_elements : (packed : Bool) (index : TypeId) → form_at types id ≡ Some (Array packed index char) → 0 < length (values_at (laid_before types id) index)
        → (e : ArrayElement) × (element_of types id ≡ Some e) × (e.type_id ≡ char)
    has_elements packed index is some = ⊎_elim there nowhere (cases_lt index.index id.index)
      where
        nowhere : id.index ≤ index.index → (e : ArrayElement) × (element_of types id ≡ Some e) × (e.type_id ≡ char)
        nowhere behind = let none = ap length (no_values types id index behind) in absurd (omega (arith, none, some))

        by : index.index < id.index → (range : Option OrdinalRange) → range_of types index ≡ range
            → (e : ArrayElement) × (element_of types id ≡ Some e) × (e.type_id ≡ char)
        by less None values =
            let none = ap length (values_before types id index less ∙ ap range_values values) in absurd (omega (arith, none, some))
        by less (Some range) values =
            let made : ArrayElement = record { index = index; range = range; type_id = char; cells = cells_at (before types id) char } in
            let behind = array_behind packed index char id.index is in (
              made,
              ap (element_in types (before types id) id) is ∙ ap (elements (before types id) id index char) values
                  ∙ ap (λ b. if b then Some made else None)
                  (and_from (nat_lt index.index id.index) (nat_lt char.index id.index) (lt-ltb index.index id.index less)
                  (lt-ltb char.index id.index behind)),
              refl,
            )

        there : index.index < id.index → (e : ArrayElement) × (element_of types id ≡ Some e) × (e.type_id ≡ char)
        there less = by less (range_of types index) refl

    array_ordinal : (packed : Bool) (index : TypeId) → form_at types id ≡ Some (Array packed index char) → (k : ℕ) (steps : Steps)
        → slice_get (components_of types id) k ≡ Some steps → scalar_on types id steps ≡ Some scalar.Ordinal
    array_ordinal packed index is k steps at =
        let behind = array_behind packed index char id.index is in
        let one : components_at (laid_before types id) char ≡ [] ∷ [] =
        components_before types id char behind
        ∙ scalar_component types char (ap (λ form. is_some (option_and_then scalar_range
        (option_map form_kind form))) char_form) in
        let row = only_elements (values_at (laid_before types id) index) k steps
        (ap (λ rows. slice_get (elements_components rows (values_at (laid_before types id) index)) k) (sym one)
        ∙ ap (λ rows. slice_get rows k) (sym (components_of_form types id (Array packed index char) is)) ∙ at) in
        let e = has_elements packed index is row.2 in
        ap (scalar_on types id) row.1
        ∙ ap (λ o. option_and_then (scalar_of types) (option_and_then (λ t. Some t) (option_map (λ (x : ArrayElement). x.type_id) o))) e.1
        ∙ ap (scalar_of types) e.2 ∙ ap (λ form. kind_scalar (option_map form_kind form)) char_form

    string_form : (n : ℕ) (form : Option Form) → form_at types id ≡ form → string_in types form ≡ Some n
        → (packed : Bool) × (index : TypeId) × (form_at types id ≡ Some (Array packed index char))
    string_form n (Some (Array packed index element)) is string =
        (packed, index, is ∙ ap (λ e. Some (Array packed index e)) (string_parts types packed index element n string).0)
    string_form n other is string = absurd (none-some n string)

    -- a component of a string
    pub string_ordinal : is_string types id ≡ true → (k : ℕ) (steps : Steps) → slice_get (components_of types id) k ≡ Some steps
        → scalar_on types id steps ≡ Some scalar.Ordinal
    string_ordinal string k steps at = by (string_length types id) refl string
      where
        by : (n : Option ℕ) → string_length types id ≡ n → is_some n ≡ true → scalar_on types id steps ≡ Some scalar.Ordinal
        by None is some = absurd (false≢true some)
        by (Some n) is some = let form = string_form n (form_at types id) refl is in array_ordinal form.0 form.1 form.2 k steps at

-- ---- rows of ordinals

-- all are ordinals
abbrev pub AreNumbers : List Value → Type 0
AreNumbers [] = Unit {0}
AreNumbers (v ∷ vs) = HasKind scalar.Ordinal v × AreNumbers vs

-- each of the kinds is that of ordinals
abbrev pub AllOrdinal : List (Option Scalar) → Type 0
AllOrdinal kinds = (k : ℕ) (kind : Option Scalar) → slice_get kinds k ≡ Some kind → kind ≡ Some scalar.Ordinal

pub fit_numbers : (kinds : List (Option Scalar)) (vs : List Value) → AllOrdinal kinds → AllFit kinds vs → AreNumbers vs
fit_numbers [] [] are fit = tt
fit_numbers [] (v ∷ vs) are fit = absurd fit
fit_numbers (kind ∷ kinds) [] are fit = absurd fit
fit_numbers (kind ∷ kinds) (v ∷ vs) are fit =
    (subst (λ k. HasFit k (Some v)) (are 0 kind refl) fit.0, fit_numbers kinds vs (λ k other at. are (suc k) other at) fit.1)

pub numbers_fit : (kinds : List (Option Scalar)) (vs : List Value) → AllOrdinal kinds → length vs ≡ length kinds → AreNumbers vs → AllFit kinds vs
numbers_fit [] [] are long numbers = tt
numbers_fit [] (v ∷ vs) are long numbers = absurd (omega arith)
numbers_fit (kind ∷ kinds) [] are long numbers = absurd (omega arith)
numbers_fit (kind ∷ kinds) (v ∷ vs) are long numbers =
    (subst (λ k. HasFit k (Some v)) (sym (are 0 kind refl)) numbers.0, numbers_fit kinds vs (λ k other at. are (suc k) other at) (omega arith) numbers.1)

-- those of a string
map_ordinal : {A : Type 0} (f : A → Option Scalar) (xs : List A) → ((k : ℕ) (x : A) → slice_get xs k ≡ Some x → f x ≡ Some scalar.Ordinal)
    → AllOrdinal (map f xs)
map_ordinal f [] each k kind at = absurd (none-some kind at)
map_ordinal f (x ∷ xs) each zero kind at = sym (same_Some (f x) kind at) ∙ each 0 x refl
map_ordinal f (x ∷ xs) each (suc k) kind at = map_ordinal f xs (λ i y there. each (suc i) y there) k kind at

pub string_scalars : (types : List Form) → BeginWithRequired types → (id : TypeId) → is_string types id ≡ true → AllOrdinal (scalars_of types id)
string_scalars types required id string = map_ordinal (scalar_on types id) (components_of types id) (string_ordinal types required id string)

-- those of characters
pub characters_ordinal : (characters : List ℕ) → AllOrdinal (map (λ (c : ℕ). Some scalar.Ordinal) characters)
characters_ordinal characters = map_ordinal (λ (c : ℕ). Some scalar.Ordinal) characters (λ k x at. refl)
