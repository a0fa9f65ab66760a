-- The one component of a scalar type, which no step leads to.
use Rattle.std.proofs.Common.{◌≡◌, ⊎_elim, ℕ, ◌+◌, true, ℤ, List, [], ◌∷◌, length, Option, Some, None, refl, sym, ap, ◌∙◌}
use Rattle.std.proofs.lemmas.Bool.{false≢true}
use Rattle.std.proofs.lemmas.Option.{none-some}
use Rattle.std.specs.Option.{option_and_then, option_map}
use Rattle.std.specs.Prelude.{slice_get, is_some}
use Rattle.types.specs.Components.{LaidOut, Steps, behind_step, components_at, components_of, fields_components, form_components, values_at}
use Rattle.types.specs.Types.{cells_of, form_at, form_kind, form_range, is_ordinal, is_scalar, scalar_range}
use Rattle.types.specs.Forms.{FieldForm}
use Rattle.types.specs.declared.form.Step.{Step}
use Rattle.types.specs.declared.form.Step.TheVariants as step
use Rattle.types.specs.Forms.{Form}
use Rattle.types.specs.Forms.{Integer, Boolean, Char, Enumeration, Subrange, Array, Record, Set}
use Rattle.types.specs.declared.form.TypeId.{TypeId}
use Rattle.types.proofs.Elements.{elements_components}
use Rattle.types.proofs.Laid.{components_of_form, laid_before, length_components}
use Rattle.types.proofs.Once.{behind, in_either}

module _ (types : List Form) (id : TypeId) where
  of_form : (form : Option Form) → form_at types id ≡ form → is_some (option_and_then scalar_range (option_map form_kind form)) ≡ true
      → components_of types id ≡ [] ∷ []
  of_form None is h = absurd (false≢true h)
  of_form (Some Integer) is h = components_of_form types id Integer is
  of_form (Some Boolean) is h = components_of_form types id Boolean is
  of_form (Some Char) is h = components_of_form types id Char is
  of_form (Some (Enumeration last)) is h = components_of_form types id (Enumeration last) is
  of_form (Some (Subrange host first last)) is h = components_of_form types id (Subrange host first last) is
  of_form (Some (Array packed index element)) is h = absurd (false≢true h)
  of_form (Some (Record packed fields)) is h = absurd (false≢true h)
  of_form (Some (Set packed host first last)) is h = components_of_form types id (Set packed host first last) is

  -- a scalar type is its own component
  pub scalar_component : is_scalar types id ≡ true → components_of types id ≡ [] ∷ []
  scalar_component h = of_form (form_at types id) refl h

  pub scalar_cell : is_scalar types id ≡ true → cells_of types id ≡ 1
  scalar_cell h = sym (length_components types id) ∙ ap length (scalar_component h)

  by_form : (form : Option Form) → is_some (option_and_then form_range form) ≡ true
      → is_some (option_and_then scalar_range (option_map form_kind form)) ≡ true
  by_form None h = h
  by_form (Some Integer) h = refl
  by_form (Some Boolean) h = refl
  by_form (Some Char) h = refl
  by_form (Some (Enumeration last)) h = refl
  by_form (Some (Subrange host first last)) h = refl
  by_form (Some (Array packed index element)) h = h
  by_form (Some (Record packed fields)) h = h
  by_form (Some (Set packed host first last)) h = refl

  -- an ordinal type is scalar
  pub ordinal_scalar : is_ordinal types id ≡ true → is_scalar types id ≡ true
  ordinal_scalar h = by_form (form_at types id) h

  pub ordinal_component : is_ordinal types id ≡ true → components_of types id ≡ [] ∷ []
  ordinal_component h = scalar_component (ordinal_scalar h)

  pub ordinal_cell : is_ordinal types id ≡ true → cells_of types id ≡ 1
  ordinal_cell h = scalar_cell (ordinal_scalar h)

-- ---- steps lead to all other components

has_step : Steps → Option Step
has_step [] = None
has_step (s ∷ steps) = Some s

begun : (s : Step) (rows : List Steps) (k : ℕ) → slice_get (behind_step s rows) k ≡ Some [] → ⊥
unfolding has_step
begun s rows k is = let b = behind s rows k [] is in none-some s (sym (ap has_step b.2))

begun_elements : (rows : List Steps) (values : List ℤ) (k : ℕ) → slice_get (elements_components rows values) k ≡ Some [] → ⊥
begun_elements rows [] k is = none-some [] is
begun_elements rows (value ∷ values) k is =
    ⊎_elim (λ here. begun (step.Element value) rows k here) (λ there. begun_elements rows values there.0 there.2)
    (in_either (behind_step (step.Element value) rows) (elements_components rows values) k [] is)

begun_fields : (laid : List LaidOut) (position : ℕ) (fields : List FieldForm) (k : ℕ) → slice_get (fields_components laid position fields) k ≡ Some [] → ⊥
begun_fields laid position [] k is = none-some [] is
begun_fields laid position (field ∷ fields) k is =
    ⊎_elim (λ here. begun (step.Field position) (components_at laid field.type_id) k here) (λ there. begun_fields laid (position + 1) fields there.0 there.2)
    (in_either (behind_step (step.Field position) (components_at laid field.type_id)) (fields_components laid (position + 1) fields) k [] is)

scalar_form : (laid : List LaidOut) (form : Form) (k : ℕ) → slice_get (form_components laid form) k ≡ Some [] → is_some (scalar_range (form_kind form)) ≡ true
scalar_form laid Integer k is = refl
scalar_form laid Boolean k is = refl
scalar_form laid Char k is = refl
scalar_form laid (Enumeration last) k is = refl
scalar_form laid (Subrange host first last) k is = refl
scalar_form laid (Array packed index element) k is = absurd (begun_elements (components_at laid element) (values_at laid index) k is)
scalar_form laid (Record packed fields) k is = absurd (begun_fields laid 0 fields k is)
scalar_form laid (Set packed host first last) k is = refl

-- a type that is its own component is scalar
pub component_scalar : (types : List Form) (id : TypeId) (form : Form) (k : ℕ) → form_at types id ≡ Some form
    → slice_get (components_of types id) k ≡ Some [] → is_scalar types id ≡ true
component_scalar types id form k is h =
    ap (λ form. is_some (option_and_then scalar_range (option_map form_kind form))) is
    ∙ scalar_form (laid_before types id) form k (ap (λ rows. slice_get rows k) (sym (components_of_form types id form is)) ∙ h)
