-- The part of a type that a place falls into.
use Rattle.std.proofs.Common.{◌≡◌, ⊎_elim, ℕ, zero, suc, ◌+◌, ◌-◌, ◌*◌, ◌/◌, ◌%◌, ◌<◌, ◌≤◌, ℤ, pos, ◌+ℤ◌, false}
use Rattle.std.proofs.Common.{List, [], ◌∷◌, length, drop, take, get_or, slice_index_or}
use Rattle.std.proofs.Common.{Bool, Vec, Global, Option, Some, None, refl, sym, ap, subst, ◌∙◌, arith}
use Rattle.std.proofs.lemmas.Bool.{cases_lt}
use Rattle.std.proofs.lemmas.List.{length-drop, length-take, nil_from_length, get_or_append_left, get_or-append_right}
use Rattle.std.proofs.lemmas.Option.{get_or_from_slice_get, slice_get-get_or, slice_get-map, slice_get_past}
use Rattle.std.proofs.Math.Nat.{div-add-mod, div-lt_iff_lt-mul, mod-lt, mul_comm, mul-zero}
use Rattle.std.proofs.Math.Seq.{drop-cons, take-length}
use Rattle.std.specs.Option.{IsSomeAnd, MatchOption, option_map, option_and_then}
use Rattle.std.specs.Prelude.{slice_get}
use Rattle.types.specs.Components.{LaidOut, Steps, behind_step, components_at, components_of, fields_components, form_components, laid_out, range_values}
use Rattle.types.specs.Components.{values_at as laid_values}
use Rattle.types.specs.Types.{before, cells_at, cells_of, counted, form_at, form_cells, form_range, index_values, range_of, values_at, values_in}
use Rattle.types.specs.Parts.{GoesOn, IsInside, steps_to}
use Rattle.types.specs.declared.component.Part.{Part}
use Rattle.types.specs.Forms.{FieldForm}
use Rattle.types.specs.declared.form.OrdinalRange.{OrdinalRange}
use Rattle.types.specs.declared.form.Step.{Step}
use Rattle.types.specs.declared.form.Step.TheVariants as step
use Rattle.types.specs.declared.form.Field.{Field}
use Rattle.types.specs.declared.form.TypeForm.{TypeForm}
use Rattle.types.specs.declared.form.TypeForm.TheVariants as kept
use Rattle.types.specs.Forms.{Array, Form, form_of}
use Rattle.types.specs.declared.form.TypeId.{TypeId}
use Rattle.types.proofs.Counts.{cells_before, cells_of_form, values_counted}
use Rattle.types.proofs.Elements.{part_at, value_at}
use Rattle.types.proofs.Growing.{slice_get-take}
use Rattle.types.proofs.Laid.{components_before, components_not_before, components_of_form, components_of_none}
use Rattle.types.proofs.Laid.{laid_before, length_behind, length_components, values_before}

-- the components behind a step, at a place among them
behind_at : (s : Step) (rows : List Steps) (place : ℕ) → place < length rows
    → slice_get (behind_step s rows) place ≡ Some (s ∷ slice_index_or rows place [])
behind_at s rows place h = slice_get-map (λ steps. s ∷ steps) rows place ∙ ap (option_map (λ steps. s ∷ steps)) (slice_get-get_or rows place [] h)

one : (place : ℕ) → slice_index_or {A = Steps} ([] ∷ []) place [] ≡ []
one zero = refl
one (suc place) = refl

-- no step leads into a scalar
pub no_part : (laid : List LaidOut) (form : TypeForm) (place : ℕ) → ((packed : Bool) (index element : TypeId) → form ≡ kept.Array packed index element → ⊥)
    → ((packed : Bool) (fields : Vec Field Global) → form ≡ kept.Record packed fields → ⊥)
    → slice_index_or (form_components laid (form_of form)) place [] ≡ []
no_part laid kept.Integer place arrays records = one place
no_part laid kept.Boolean place arrays records = one place
no_part laid kept.Char place arrays records = one place
no_part laid (kept.Enumeration last) place arrays records = one place
no_part laid (kept.Subrange host first last) place arrays records = one place
no_part laid (kept.Array packed index element) place arrays records = absurd (arrays packed index element refl)
no_part laid (kept.Record packed fields) place arrays records = absurd (records packed fields refl)
no_part laid (kept.Set packed host first last) place arrays records = one place

-- ---- in an array

module _ (types : List Form) (id index element : TypeId) where
  abbrev pub cells : ℕ
  cells = cells_at (before types id) element

  no_values : id.index ≤ index.index → values_at (before types id) index ≡ 0
  no_values h =
      values_counted (take id.index types) index
      ∙ ap (λ form. index_values (option_and_then form_range form)) (slice_get_past (take id.index types) index.index (few h))
    where
      few : id.index ≤ index.index → length (take id.index types) ≤ index.index
      few h = let e = length-take id.index types in grind (arith, h, e)

  its_values : index.index < id.index → values_at (before types id) index ≡ index_values (range_of types index)
  its_values h =
      values_counted (take id.index types) index
      ∙ ap (λ form. index_values (option_and_then form_range form)) (slice_get-take types id.index index.index h)

  module _ (place : ℕ) (inside : place < values_at (before types id) index * cells) where
    pub index_before : index.index < id.index
    index_before = ⊎_elim (λ h. h) (λ h. absurd (none (values_at (before types id) index) (no_values h) inside)) (cases_lt index.index id.index)
      where
        none : (n : ℕ) → n ≡ 0 → place < n * cells → ⊥
        none n is h = let l = subst (λ n. place < n * cells) is h in omega (arith, l)

    pub has_range : range_of types index ≡ None → ⊥
    has_range is = none (values_at (before types id) index) (its_values index_before ∙ ap index_values is) inside
      where
        none : (n : ℕ) → n ≡ 0 → place < n * cells → ⊥
        none n is h = let l = subst (λ n. place < n * cells) is h in omega (arith, l)

    pub some_cells : 0 < cells
    some_cells = by cells inside
      where
        by : (c : ℕ) → place < values_at (before types id) index * c → 0 < c
        by zero h = let l = subst (λ m. place < m) (mul-zero (values_at (before types id) index)) h in omega (arith, l)
        by (suc c) h = omega arith

    module _ (range : OrdinalRange) (is : range_of types index ≡ Some range) where
      pub index_within : place / cells < values_in range
      index_within =
          let many : values_at (before types id) index ≡ values_in range = its_values index_before ∙ ap index_values is in
          (div-lt_iff_lt-mul some_cells).1 (subst (λ n. place < n * cells) many inside)

      pub place_within : place % cells < cells
      place_within = mod-lt place some_cells

      pub element_reads : slice_index_or (form_components (laid_before types id) (Array false index element)) place []
          ≡ step.Element (range.first +ℤ pos (place / cells)) ∷ slice_index_or (components_at (laid_before types id) element) (place % cells) []
      element_reads =
          let value : ℤ = range.first +ℤ pos (place / cells) in
          let rows : List Steps = components_at (laid_before types id) element in
          let as_many : length rows ≡ cells = length_components (take id.index types) element in
          let at : place ≡ place / cells * cells + place % cells =
          sym (div-add-mod place cells) ∙ ap (λ n. n + place % cells) (mul_comm cells (place / cells)) in
          let item : slice_get (laid_values (laid_before types id) index) (place / cells) ≡ Some value =
          ap (λ values. slice_get values (place / cells)) (values_before types id index index_before ∙ ap range_values is)
          ∙ value_at range.first (values_in range) (place / cells) index_within in
          let within : place % cells < length rows = subst (λ n. place % cells < n) (sym as_many) place_within in
          let reads : slice_get (form_components (laid_before types id) (Array false index element)) place
          ≡ Some (step.Element value ∷ slice_index_or rows (place % cells) []) =
          ap (slice_get (form_components (laid_before types id) (Array false index element))) at
          ∙ part_at (λ value. behind_step (step.Element value) rows) cells (λ value. length_behind (step.Element value) rows ∙ as_many)
          (laid_values (laid_before types id) index) (place / cells) (place % cells) value item place_within
          ∙ behind_at (step.Element value) rows (place % cells) within in
          get_or_from_slice_get (form_components (laid_before types id) (Array false index element)) place
          (step.Element value ∷ slice_index_or rows (place % cells) []) [] reads

-- ---- in a record

-- the fields from one on
pub next_fields : (fields : List Field) (position : ℕ) (field : Field) → position < length fields → field ≡ get_or fields position field
    → drop position fields ≡ field ∷ drop (position + 1) fields
next_fields fields position field h is =
    let e : suc position ≡ position + 1 = omega arith in
    drop-cons fields position field h ∙ ap (λ f. f ∷ drop (suc position) fields) (sym is) ∙ ap (λ n. field ∷ drop n fields) e

pub no_fields : (fields : List Field) (position : ℕ) → length fields ≤ position → drop position fields ≡ []
no_fields fields position h = let e = length-drop position fields in nil_from_length (drop position fields) (omega (arith, h, e))

module _ (types : List Form) (id : TypeId) (position : ℕ) (field : FieldForm) (fields : List FieldForm) (place : ℕ) where
  rows : List Steps
  rows = components_at (laid_before types id) field.type_id

  as_many : length (behind_step (step.Field position) rows) ≡ cells_at (before types id) field.type_id
  unfolding rows
  as_many = length_behind (step.Field position) rows ∙ length_components (take id.index types) field.type_id

  pub field_reads : place < cells_at (before types id) field.type_id
      → slice_index_or (fields_components (laid_before types id) position (field ∷ fields)) place []
      ≡ step.Field position ∷ slice_index_or (components_at (laid_before types id) field.type_id) place []
  unfolding rows
  field_reads h =
      let within : place < length rows = omega (arith, h, as_many, length_behind (step.Field position) rows) in
      get_or_append_left (behind_step (step.Field position) rows) (fields_components (laid_before types id) (position + 1) fields) [] place
      (omega (arith, h, as_many))
      ∙ get_or_from_slice_get (behind_step (step.Field position) rows) place (step.Field position ∷ slice_index_or rows place []) []
      (behind_at (step.Field position) rows place within)

  pub field_skipped : cells_at (before types id) field.type_id ≤ place
      → slice_index_or (fields_components (laid_before types id) position (field ∷ fields)) place []
      ≡ slice_index_or (fields_components (laid_before types id) (position + 1) fields) (place - cells_at (before types id) field.type_id) []
  unfolding rows
  field_skipped h =
      get_or-append_right (behind_step (step.Field position) rows) (fields_components (laid_before types id) (position + 1) fields)
      (cells_at (before types id) field.type_id) place [] as_many h

-- ---- in a type among the first ones

module _ (types : List Form) (part : Part) where
  -- a number that is none of theirs stands for a scalar
  pub steps_outside : part.before ≤ part.type_id.index → steps_to types part ≡ []
  steps_outside h =
      ap (λ rows. slice_index_or rows part.place []) (components_not_before types (record { index = part.before }) part.type_id h) ∙ one part.place

  module _ (within : part.type_id.index < part.before) where
    same_rows : components_at (laid_out (take part.before types)) part.type_id ≡ components_of types part.type_id
    same_rows = components_before types (record { index = part.before }) part.type_id within

    pub steps_of_none : form_at types part.type_id ≡ None → steps_to types part ≡ []
    steps_of_none is = ap (λ rows. slice_index_or rows part.place []) (same_rows ∙ components_of_none types part.type_id is) ∙ one part.place

    pub steps_of_form : (form : Form) → form_at types part.type_id ≡ Some form
        → steps_to types part ≡ slice_index_or (form_components (laid_before types part.type_id) form) part.place []
    steps_of_form form is = ap (λ rows. slice_index_or rows part.place []) (same_rows ∙ components_of_form types part.type_id form is)

    pub inside_form : (form : Form) → form_at types part.type_id ≡ Some form → IsInside types part
        → part.place < form_cells (before types part.type_id) form
    inside_form form is =
        subst (λ n. part.place < n)
        (cells_before types (record { index = part.before }) part.type_id within ∙ cells_of_form types part.type_id form is)

-- a step that leads on
pub leads_on : (types : List Form) (number : ℕ) (next : Option (Step × Part)) (steps same : Steps) → steps ≡ same
    → IsSomeAnd next (GoesOn types number same) → MatchOption next (steps ≡ []) (GoesOn types number steps)
leads_on types number None steps same is h = absurd h
leads_on types number (Some next) steps same is h = subst (λ steps. GoesOn types number steps next) (sym is) h

-- all types of a table are its first ones
pub all_cells : (types : List Form) (id : TypeId) → cells_at (counted (take (length types) types)) id ≡ cells_of types id
all_cells types id = ap (λ types. cells_at (counted types) id) (take-length types)

pub all_components : (types : List Form) (id : TypeId) → components_at (laid_out (take (length types) types)) id ≡ components_of types id
all_components types id = ap (λ types. components_at (laid_out types) id) (take-length types)
