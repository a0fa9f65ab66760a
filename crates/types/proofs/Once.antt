-- Each component of a type is there once.
use Rattle.std.proofs.Common.{◌≡◌, ◌⊎◌, inl, inr, ⊎_elim, ℕ, zero, suc, ◌+◌, ◌≤◌, ℤ, pos, ◌+ℤ◌, ◌≤ℤ◌, List, [], ◌∷◌, ◌++◌, length, take}
use Rattle.std.proofs.Common.{Option, Some, None, refl, sym, ap, subst, ◌∙◌, arith}
use Rattle.std.proofs.lemmas.Int.{ints}
use Rattle.std.proofs.lemmas.Option.{none-some, same_Some, slice_get-map, slice_get_within}
use Rattle.std.specs.Option.{option_map}
use Rattle.std.specs.Prelude.{slice_get}
use Rattle.types.specs.Components.{LaidOut, Steps, behind_step, components_at, components_of, entry_values, fields_components, form_components}
use Rattle.types.specs.Components.{range_values, values_from}
use Rattle.types.specs.Types.{form_at, form_range, values_in}
use Rattle.types.specs.Forms.{FieldForm}
use Rattle.types.specs.declared.form.OrdinalRange.{OrdinalRange}
use Rattle.types.specs.declared.form.Step.{Step}
use Rattle.types.specs.declared.form.Step.TheVariants as step
use Rattle.types.specs.Forms.{Form}
use Rattle.types.specs.Forms.{Integer, Boolean, Char, Enumeration, Subrange, Array, Record, Set}
use Rattle.types.specs.declared.form.TypeId.{TypeId}
use Rattle.types.proofs.Elements.{elements_components}
use Rattle.types.proofs.Laid.{components_of_form, components_of_none, fewer_before, laid_before, none_before}

-- no item is at two places of a list
abbrev pub AreOnce : {A : Type 0} → List A → Type 0
AreOnce {A} items = (j k : ℕ) (item : A) → slice_get items j ≡ Some item → slice_get items k ≡ Some item → j ≡ k

once_none : {A : Type 0} → AreOnce {A = A} []
once_none j k item one other = absurd (none-some item one)

once_one : {A : Type 0} (x : A) → AreOnce (x ∷ [])
once_one x j k item one other =
    let m = slice_get_within (x ∷ []) j item one in
    let n = slice_get_within (x ∷ []) k item other in
    omega (arith, m, n)

-- an item of two lists is in one of them
pub in_either : {A : Type 0} (items more : List A) (k : ℕ) (item : A) → slice_get (items ++ more) k ≡ Some item
    → (slice_get items k ≡ Some item) ⊎ ((m : ℕ) × (k ≡ length items + m) × (slice_get more m ≡ Some item))
in_either [] more k item is = let e : k ≡ 0 + k = omega arith in inr (k, e, is)
in_either (x ∷ items) more zero item is = inl is
in_either (x ∷ items) more (suc k) item is =
    ⊎_elim (λ here. inl here) (λ there. inr (there.0, omega (arith, there.1), there.2)) (in_either items more k item is)

once_both : {A : Type 0} (items more : List A) → AreOnce items → AreOnce more
    → ((j k : ℕ) (item : A) → slice_get items j ≡ Some item → slice_get more k ≡ Some item → ⊥) → AreOnce (items ++ more)
once_both items more first second apart j k item one other =
    ⊎_elim
    (λ a. ⊎_elim (λ b. first j k item a b) (λ b. absurd (apart j b.0 item a b.2)) (in_either items more k item other))
    (λ a. ⊎_elim (λ b. absurd (apart k a.0 item b a.2)) (λ b. omega (arith, a.1, b.1, second a.0 b.0 item a.2 b.2)) (in_either items more k item other))
    (in_either items more j item one)

-- ---- components behind a step

mapped : {A B : Type 0} (f : A → B) (o : Option A) (y : B) → option_map f o ≡ Some y → (x : A) × (o ≡ Some x) × (f x ≡ y)
mapped f None y is = absurd (none-some y is)
mapped f (Some x) y is = (x, refl, same_Some (f x) y is)

pub behind : (s : Step) (rows : List Steps) (k : ℕ) (steps : Steps) → slice_get (behind_step s rows) k ≡ Some steps
    → (rest : Steps) × (slice_get rows k ≡ Some rest) × (s ∷ rest ≡ steps)
behind s rows k steps is = mapped (λ rest. s ∷ rest) (slice_get rows k) steps (sym (slice_get-map (λ rest. s ∷ rest) rows k) ∙ is)

abbrev tail : Steps → Steps
tail [] = []
tail (s ∷ steps) = steps

-- the index or the place that steps begin with
abbrev first_index : Steps → Option ℤ
first_index (step.Element value ∷ steps) = Some value
first_index other = None

abbrev first_place : Steps → Option ℕ
first_place (step.Field position ∷ steps) = Some position
first_place other = None

once_behind : (s : Step) (rows : List Steps) → AreOnce rows → AreOnce (behind_step s rows)
once_behind s rows once j k steps one other =
    let a = behind s rows j steps one in
    let b = behind s rows k steps other in
    once j k a.0 a.1 (b.1 ∙ ap Some (ap tail (b.2 ∙ sym a.2)))

-- ---- those of elements

module _ (rows : List Steps) where
  from_first : (first : ℤ) (n k : ℕ) (steps : Steps) → slice_get (elements_components rows (values_from first n)) k ≡ Some steps
      → (value : ℤ) × (first_index steps ≡ Some value) × (first ≤ℤ value)
  from_first first zero k steps is = absurd (none-some steps is)
  from_first first (suc n) k steps is =
      ⊎_elim (λ here. let b = behind (step.Element first) rows k steps here in (first, ap first_index (sym b.2), omega (arith, ints)))
      (λ there. let b = from_first (first +ℤ pos 1) n there.0 steps there.2 in (b.0, b.1, omega (arith, ints, b.2)))
      (in_either (behind_step (step.Element first) rows) (elements_components rows (values_from (first +ℤ pos 1) n)) k steps is)

  once_elements : (first : ℤ) (n : ℕ) → AreOnce rows → AreOnce (elements_components rows (values_from first n))
  once_elements first zero once = once_none
  once_elements first (suc n) once =
      once_both (behind_step (step.Element first) rows) (elements_components rows (values_from (first +ℤ pos 1) n)) (once_behind (step.Element first) rows once)
      (once_elements (first +ℤ pos 1) n once)
      (λ j k steps one other.
      let a = behind (step.Element first) rows j steps one in
      let b = from_first (first +ℤ pos 1) n k steps other in
      let same = same_Some first b.0 (ap first_index a.2 ∙ b.1) in
      omega (arith, ints, same, b.2))

  once_range : (range : Option OrdinalRange) → AreOnce rows → AreOnce (elements_components rows (range_values range))
  once_range None once = once_none
  once_range (Some range) once = once_elements range.first (values_in range) once

  once_values : (entry : Option LaidOut) → AreOnce rows → AreOnce (elements_components rows (entry_values entry))
  once_values None once = once_none
  once_values (Some entry) once = once_range (form_range entry.form) once

-- ---- those of fields

module _ (laid : List LaidOut) where
  from_place : (position : ℕ) (fields : List FieldForm) (k : ℕ) (steps : Steps) → slice_get (fields_components laid position fields) k ≡ Some steps
      → (place : ℕ) × (first_place steps ≡ Some place) × (position ≤ place)
  from_place position [] k steps is = absurd (none-some steps is)
  from_place position (field ∷ fields) k steps is =
      ⊎_elim
      (λ here. let b = behind (step.Field position) (components_at laid field.type_id) k steps here in (position, ap first_place (sym b.2), omega arith))
      (λ there. let b = from_place (position + 1) fields there.0 steps there.2 in (b.0, b.1, omega (arith, b.2)))
      (in_either (behind_step (step.Field position) (components_at laid field.type_id)) (fields_components laid (position + 1) fields) k steps is)

  module _ (once : (id : TypeId) → AreOnce (components_at laid id)) where
    once_fields : (position : ℕ) (fields : List FieldForm) → AreOnce (fields_components laid position fields)
    once_fields position [] = once_none
    once_fields position (field ∷ fields) =
        once_both (behind_step (step.Field position) (components_at laid field.type_id)) (fields_components laid (position + 1) fields)
        (once_behind (step.Field position) (components_at laid field.type_id) (once field.type_id)) (once_fields (position + 1) fields)
        (λ j k steps one other.
        let a = behind (step.Field position) (components_at laid field.type_id) j steps one in
        let b = from_place (position + 1) fields k steps other in
        let same = same_Some position b.0 (ap first_place a.2 ∙ b.1) in
        omega (arith, same, b.2))

    once_form : (form : Form) → AreOnce (form_components laid form)
    once_form Integer = once_one []
    once_form Boolean = once_one []
    once_form Char = once_one []
    once_form (Enumeration last) = once_one []
    once_form (Subrange host first last) = once_one []
    once_form (Array packed index element) = once_values (components_at laid element) (slice_get laid index.index) (once element)
    once_form (Record packed fields) = once_fields 0 fields
    once_form (Set packed host first last) = once_one []

-- ---- those of the types of a table

HasOnce : List Form → Type 0
HasOnce types = (id : TypeId) → AreOnce (components_of types id)

one_type : (types : List Form) (id : TypeId) → ((form : Form) → form_at types id ≡ Some form → HasOnce (take id.index types))
    → (form : Option Form) → form_at types id ≡ form → AreOnce (components_of types id)
unfolding HasOnce
one_type types id fewer None is = subst AreOnce (sym (components_of_none types id is)) (once_one [])
one_type types id fewer (Some form) is =
    subst AreOnce (sym (components_of_form types id form is)) (once_form (laid_before types id) (fewer form is) form)

has_once : (bound : ℕ) (types : List Form) → length types ≤ bound → HasOnce types
unfolding HasOnce
has_once zero types h id = one_type types id (λ form is. absurd (none_before types id form h is)) (form_at types id) refl
has_once (suc bound) types h id =
    one_type types id (λ form is. has_once bound (take id.index types) (fewer_before bound types id form h is)) (form_at types id) refl

-- each component is there once
pub components_once : (types : List Form) (id : TypeId) → AreOnce (components_of types id)
unfolding HasOnce
components_once types id = has_once (length types) types (omega arith) id
