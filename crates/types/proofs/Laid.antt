-- The components of the types of a table: those of a form over the types before it, as many as its cells.
use Rattle.std.proofs.Common.{◌≡◌, ℕ, zero, suc, ◌+◌, ◌*◌, ◌<◌, ◌≤◌, List, [], ◌∷◌, length, take, Option, Some, None, refl, sym, ap, ◌∙◌, arith}
use Rattle.std.proofs.Common.{ℤ, pos, ◌+ℤ◌, sum_by}
use Rattle.std.proofs.lemmas.List.{length-append, length-map, length-take, length-take-le}
use Rattle.std.proofs.lemmas.List.Sums.{sum_by-cons}
use Rattle.std.proofs.lemmas.Option.{slice_get_past, slice_get_within}
use Rattle.std.specs.List.{flat_map}
use Rattle.std.specs.Option.{option_map, option_and_then}
use Rattle.std.specs.Prelude.{slice_get}
use Rattle.types.specs.Components.{LaidOut, Steps, behind_step, components_at, components_of, entry_components, entry_values}
use Rattle.types.specs.Components.{fields_components, form_components}
use Rattle.types.specs.Components.{laid_out, range_values, values_at, values_from}
use Rattle.types.specs.Types.{before, cells_at, cells_of, counted, form_at, form_cells, form_range, index_values, range_of, values_in}
use Rattle.types.specs.Types.{values_at as counted_values}
use Rattle.types.specs.Forms.{FieldForm}
use Rattle.types.specs.declared.form.OrdinalRange.{OrdinalRange}
use Rattle.types.specs.declared.form.Step.{Step}
use Rattle.types.specs.declared.form.Step.TheVariants as step
use Rattle.types.specs.Forms.{Form}
use Rattle.types.specs.Forms.{Integer, Boolean, Char, Enumeration, Subrange, Array, Record, Set}
use Rattle.types.specs.declared.form.TypeId.{TypeId}
use Rattle.types.specs.Types.{Counted}
use Rattle.types.proofs.Counts.{cells_of_form, cells_of_none, values_counted}
use Rattle.types.proofs.Growing.{grown_before, made_at, slice_get-take}

-- the types before one, with their components
abbrev pub laid_before : List Form → TypeId → List LaidOut
laid_before types id = laid_out (take id.index types)

-- a form with its components over those that are laid out
abbrev pub laid_over : List LaidOut → Form → LaidOut
laid_over entries form = record { form = form; components = form_components entries form }

-- the types before one are the first that are laid out
pub first_laid : (types : List Form) (n : ℕ) → laid_out (take n types) ≡ take n (laid_out types)
first_laid types n = grown_before laid_over types n

pub laid_at : (types : List Form) (id : TypeId) → slice_get (laid_out types) id.index ≡ option_map (laid_over (laid_before types id)) (form_at types id)
laid_at types id = made_at laid_over types id.index

-- a type has the components of its form over the types before it
pub components_of_form : (types : List Form) (id : TypeId) (form : Form) → form_at types id ≡ Some form
    → components_of types id ≡ form_components (laid_before types id) form
components_of_form types id form is = ap entry_components (laid_at types id ∙ ap (option_map (laid_over (laid_before types id))) is)

-- a number that is no type's stands for one component
pub components_of_none : (types : List Form) (id : TypeId) → form_at types id ≡ None → components_of types id ≡ [] ∷ []
components_of_none types id is = ap entry_components (laid_at types id ∙ ap (option_map (laid_over (laid_before types id))) is)

-- the components of a part that stands before its type are those of the part
pub components_before : (types : List Form) (id part : TypeId) → part.index < id.index
    → components_at (laid_before types id) part ≡ components_of types part
components_before types id part h =
    ap (λ entries. components_at entries part) (first_laid types id.index) ∙ ap entry_components (slice_get-take (laid_out types) id.index part.index h)

-- another part is none of the types before, and has one
pub components_not_before : (types : List Form) (id part : TypeId) → id.index ≤ part.index → components_at (laid_before types id) part ≡ [] ∷ []
components_not_before types id part h =
    ap (λ entries. components_at entries part) (first_laid types id.index)
    ∙ ap entry_components (slice_get_past (take id.index (laid_out types)) part.index (few h))
  where
    few : id.index ≤ part.index → length (take id.index (laid_out types)) ≤ part.index
    few h = let e = length-take id.index (laid_out types) in grind (arith, h, e)

values_of_entry : (form : Option Form) (entries : List LaidOut)
    → entry_values (option_map (laid_over entries) form) ≡ range_values (option_and_then form_range form)
values_of_entry None entries = refl
values_of_entry (Some form) entries = refl

-- the values of a type that is laid out are those of the type
pub values_laid : (types : List Form) (id : TypeId) → values_at (laid_out types) id ≡ range_values (range_of types id)
values_laid types id = ap entry_values (laid_at types id) ∙ values_of_entry (form_at types id) (laid_before types id)

-- those of a type that stands before another
pub values_before : (types : List Form) (id part : TypeId) → part.index < id.index
    → values_at (laid_before types id) part ≡ range_values (range_of types part)
values_before types id part h =
    ap (λ entries. values_at entries part) (first_laid types id.index)
    ∙ ap entry_values (slice_get-take (laid_out types) id.index part.index h) ∙ values_laid types part

-- ---- as many as cells

pub length_values : (first : ℤ) (n : ℕ) → length (values_from first n) ≡ n
length_values first zero = refl
length_values first (suc n) = ap suc (length_values (first +ℤ pos 1) n)

pub many_values : (range : Option OrdinalRange) → length (range_values range) ≡ index_values range
many_values None = refl
many_values (Some range) = length_values range.first (values_in range)

-- parts of one length
pub length_parts : {A B : Type 0} (parts : A → List B) (items : List A) (n : ℕ) → ((item : A) → length (parts item) ≡ n)
    → length (flat_map parts items) ≡ length items * n
length_parts parts [] n same = let e : 0 ≡ 0 * n = omega arith in e
length_parts parts (item ∷ items) n same =
    length-append (parts item) (flat_map parts items) ∙ ap (λ m. m + length (flat_map parts items)) (same item)
    ∙ ap (λ m. n + m) (length_parts parts items n same) ∙ one_more (length items)
  where
    one_more : (m : ℕ) → n + m * n ≡ suc m * n
    one_more m = omega arith

pub length_behind : (s : Step) (rows : List Steps) → length (behind_step s rows) ≡ length rows
length_behind s rows = length-map rows (λ steps. s ∷ steps)

module _ (laid : List LaidOut) (entries : List Counted) (same : (id : TypeId) → length (components_at laid id) ≡ cells_at entries id)
    (many : (id : TypeId) → length (values_at laid id) ≡ counted_values entries id) where
  as_many_of_fields : (position : ℕ) (fields : List FieldForm)
      → length (fields_components laid position fields) ≡ sum_by (λ field. cells_at entries field.type_id) fields
  as_many_of_fields position [] = refl
  as_many_of_fields position (field ∷ fields) =
      length-append (behind_step (step.Field position) (components_at laid field.type_id)) (fields_components laid (position + 1) fields)
      ∙ ap (λ n. n + length (fields_components laid (position + 1) fields))
      (length_behind (step.Field position) (components_at laid field.type_id) ∙ same field.type_id)
      ∙ ap (λ n. cells_at entries field.type_id + n) (as_many_of_fields (position + 1) fields)
      ∙ sym (sum_by-cons (λ field. cells_at entries field.type_id) field fields)

  as_many_of_form : (form : Form) → length (form_components laid form) ≡ form_cells entries form
  as_many_of_form Integer = refl
  as_many_of_form Boolean = refl
  as_many_of_form Char = refl
  as_many_of_form (Enumeration last) = refl
  as_many_of_form (Subrange host first last) = refl
  as_many_of_form (Array packed index element) =
      length_parts (λ value. behind_step (step.Element value) (components_at laid element)) (values_at laid index) (cells_at entries element)
      (λ value. length_behind (step.Element value) (components_at laid element) ∙ same element)
      ∙ ap (λ n. n * cells_at entries element) (many index)
  as_many_of_form (Record packed fields) = as_many_of_fields 0 fields
  as_many_of_form (Set packed host first last) = refl

-- a table, and those of its first types
AsMany : List Form → Type 0
AsMany types = (id : TypeId) → length (components_of types id) ≡ cells_of types id

many_laid : (types : List Form) (id : TypeId) → length (values_at (laid_out types) id) ≡ counted_values (counted types) id
many_laid types id = ap length (values_laid types id) ∙ many_values (range_of types id) ∙ sym (values_counted types id)

one_type : (types : List Form) (id : TypeId) → ((form : Form) → form_at types id ≡ Some form → AsMany (take id.index types))
    → (form : Option Form) → form_at types id ≡ form → length (components_of types id) ≡ cells_of types id
unfolding AsMany
one_type types id fewer None is = ap length (components_of_none types id is) ∙ sym (cells_of_none types id is)
one_type types id fewer (Some form) is =
    ap length (components_of_form types id form is)
    ∙ as_many_of_form (laid_before types id) (before types id) (fewer form is) (many_laid (take id.index types)) form
    ∙ sym (cells_of_form types id form is)

-- the types before one of a table are fewer
pub fewer_before : (bound : ℕ) (types : List Form) (id : TypeId) (form : Form) → length types ≤ suc bound → form_at types id ≡ Some form
    → length (take id.index types) ≤ bound
fewer_before bound types id form h is =
    let i = slice_get_within types id.index form is in
    let e = length-take-le id.index types (omega (arith, i)) in
    omega (arith, e, h, i)

pub none_before : (types : List Form) (id : TypeId) (form : Form) → length types ≤ 0 → form_at types id ≡ Some form → ⊥
none_before types id form h is = let i = slice_get_within types id.index form is in omega (arith, h, i)

as_many : (bound : ℕ) (types : List Form) → length types ≤ bound → AsMany types
unfolding AsMany
as_many zero types h id = one_type types id (λ form is. absurd (none_before types id form h is)) (form_at types id) refl
as_many (suc bound) types h id =
    one_type types id (λ form is. as_many bound (take id.index types) (fewer_before bound types id form h is)) (form_at types id) refl

-- a type has as many components as cells
pub length_components : (types : List Form) (id : TypeId) → length (components_of types id) ≡ cells_of types id
unfolding AsMany
length_components types id = as_many (length types) types (omega arith) id
