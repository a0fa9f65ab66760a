-- A table with more types behind says the same of each of its types.
use Rattle.std.proofs.Common.{◌≡◌, ⊎_elim, ℕ, ◌<◌, ◌≤◌, Bool, true, false, cond, ltb, List, ◌++◌, length, take}
use Rattle.std.proofs.Common.{Option, Some, None, refl, sym, ap, subst, ◌∙◌, arith}
use Rattle.std.proofs.lemmas.Bool.{and_left, cases_lt, le-ltb}
use Rattle.std.proofs.lemmas.List.{take-append-le}
use Rattle.std.proofs.lemmas.Option.{none-some, slice_get_past}
use Rattle.std.specs.Option.{option_map, option_and_then}
use Rattle.std.specs.Prelude.{is_some, slice_get}
use Rattle.types.specs.Components.{components_of, entry_components, laid_out}
use Rattle.types.specs.Types.{before, cells_at, cells_of, char, counted, element_in, element_of, elements, entry_cells}
use Rattle.types.specs.Types.{base_in, field_at, field_in, field_of, fields_in, form_at, form_kind, form_range, is_ordinal, is_scalar}
use Rattle.types.specs.Types.{is_same, is_string, own_field, range_of, scalar_range, scalar_range_of, set_base, string_in, string_last, string_length}
use Rattle.types.specs.declared.form.ArrayElement.{ArrayElement}
use Rattle.types.specs.declared.form.OrdinalRange.{OrdinalRange}
use Rattle.types.specs.Forms.{Form}
use Rattle.types.specs.Forms.{Array}
use Rattle.types.specs.declared.form.TypeId.{TypeId}
use Rattle.types.specs.Types.{Counted}
use Rattle.types.proofs.Counts.{entry_at, entry_over}
use Rattle.types.proofs.Elements.{is_array}
use Rattle.types.proofs.Growing.{slice_get-left}
use Rattle.types.proofs.Laid.{laid_at, laid_before, laid_over}

module _ (types more : List Form) (id : TypeId) (there : id.index < length types) where
  pub form_longer : form_at (types ++ more) id ≡ form_at types id
  form_longer = slice_get-left types more id.index there

  pub range_longer : range_of (types ++ more) id ≡ range_of types id
  range_longer = ap (option_and_then form_range) form_longer

  pub ordinal_longer : is_ordinal (types ++ more) id ≡ is_ordinal types id
  ordinal_longer = ap is_some range_longer

  pub scalar_range_longer : scalar_range_of (types ++ more) id ≡ scalar_range_of types id
  scalar_range_longer = ap (λ form. option_and_then scalar_range (option_map form_kind form)) form_longer

  pub scalar_longer : is_scalar (types ++ more) id ≡ is_scalar types id
  scalar_longer = ap is_some scalar_range_longer

  pub set_base_longer : set_base (types ++ more) id ≡ set_base types id
  set_base_longer = ap base_in form_longer

  first_longer : take id.index (types ++ more) ≡ take id.index types
  first_longer = take-append-le id.index types more (omega (arith, there))

  pub before_longer : before (types ++ more) id ≡ before types id
  before_longer = ap counted first_longer

  pub cells_longer : cells_of (types ++ more) id ≡ cells_of types id
  cells_longer =
      ap entry_cells
      (entry_at (types ++ more) id ∙ ap (λ entries. option_map (entry_over entries) (form_at (types ++ more) id)) before_longer
      ∙ ap (option_map (entry_over (before types id))) form_longer ∙ sym (entry_at types id))

  pub components_longer : components_of (types ++ more) id ≡ components_of types id
  components_longer =
      ap entry_components
      (laid_at (types ++ more) id ∙ ap (λ first. option_map (laid_over (laid_out first)) (form_at (types ++ more) id)) first_longer
      ∙ ap (option_map (laid_over (laid_before types id))) form_longer ∙ sym (laid_at types id))

  pub field_longer : (name : List ℕ) → field_of (types ++ more) id name ≡ field_of types id name
  field_longer name =
      ap (λ entries. own_field id (field_in entries name (form_at (types ++ more) id))) before_longer
      ∙ ap (λ form. own_field id (field_in (before types id) name form)) form_longer

  pub field_at_longer : (position : ℕ) → field_at (types ++ more) id position ≡ field_at types id position
  field_at_longer position =
      ap (λ entries. own_field id (slice_get (fields_in entries (form_at (types ++ more) id)) position)) before_longer
      ∙ ap (λ form. own_field id (slice_get (fields_in (before types id) form) position)) form_longer

-- ---- the parts of an array

no_elements : (entries : List Counted) (id index element : TypeId) (range : Option OrdinalRange) → id.index ≤ index.index
    → elements entries id index element range ≡ None
no_elements entries id index element None h = refl
no_elements entries id index element (Some range) h =
    let made : ArrayElement = record { index = index; range = range; type_id = element; cells = cells_at entries element } in
    ap (λ b. cond b (Some made) None)
    (and_left (ltb index.index id.index) (ltb element.index id.index) (le-ltb index.index id.index h))

module _ (types more : List Form) (id : TypeId) (there : id.index < length types) where
  elements_in : (entries : List Counted) (form : Option Form) → element_in (types ++ more) entries id form ≡ element_in types entries id form
  elements_in entries (Some (Array packed index element)) =
      ⊎_elim (λ h. ap (elements entries id index element) (range_longer types more index (omega (arith, h, there))))
      (λ h. no_elements entries id index element (range_of (types ++ more) index) h ∙ sym (no_elements entries id index element (range_of types index) h))
      (cases_lt index.index id.index)
  elements_in entries other = refl

  pub element_longer : element_of (types ++ more) id ≡ element_of types id
  element_longer =
      ap (λ entries. element_in (types ++ more) entries id (form_at (types ++ more) id)) (before_longer types more id there)
      ∙ ap (element_in (types ++ more) (before types id) id) (form_longer types more id there) ∙ elements_in (before types id) (form_at types id)

-- ---- strings

-- the index type of an array stands in the table
abbrev pub HasIndex : List Form → Option Form → Type 0
HasIndex types (Some (Array packed index element)) = index.index < length types
HasIndex types other = Unit {0}

module _ (types more : List Form) where
  string_in_longer : (form : Option Form) → HasIndex types form → string_in (types ++ more) form ≡ string_in types form
  string_in_longer (Some (Array true index element)) h =
      ap (λ form. cond (is_same element char) (string_last form) None) (slice_get-left types more index.index h)
  string_in_longer other h = refl

  string_in_stays : (form : Option Form) (n : ℕ) → string_in types form ≡ Some n → string_in (types ++ more) form ≡ Some n
  string_in_stays (Some (Array true index element)) n is =
      ⊎_elim (λ h. string_in_longer (Some (Array true index element)) h ∙ is)
      (λ h. absurd
      (no_string (is_same element char)
      (ap (λ form. cond (is_same element char) (string_last form) None) (sym (slice_get_past types index.index h)) ∙ is)))
      (cases_lt index.index (length types))
    where
      no_string : (b : Bool) → cond b (string_last None) None ≡ Some n → ⊥
      no_string true is = none-some n is
      no_string false is = none-some n is
  string_in_stays other n is = is

  module _ (id : TypeId) (there : id.index < length types) where
    pub string_longer : HasIndex types (form_at types id) → string_length (types ++ more) id ≡ string_length types id
    string_longer h = ap (string_in (types ++ more)) (form_longer types more id there) ∙ string_in_longer (form_at types id) h

    pub is_string_longer : HasIndex types (form_at types id) → is_string (types ++ more) id ≡ is_string types id
    is_string_longer h = ap is_some (string_longer h)

    -- an array whose parts stand before it
    pub array_has_index : (e : ArrayElement) → element_of types id ≡ Some e → HasIndex types (form_at types id)
    array_has_index e is =
        let array = is_array types id e is in
        subst (HasIndex types) (sym array.form) (omega (arith, array.index_before, there))

    -- a string stays one
    pub string_stays : (n : ℕ) → string_length types id ≡ Some n → string_length (types ++ more) id ≡ Some n
    string_stays n is = ap (string_in (types ++ more)) (form_longer types more id there) ∙ string_in_stays (form_at types id) n is
