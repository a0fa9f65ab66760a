-- How many leaves types have, and those of parts of a type.
use Rattle.std.proofs.Common.{◌≡◌, ⊎_elim, ℕ, zero, suc, ◌+◌, ◌<◌, ◌≤◌, ◌^◌, Bool, cond, List, [], ◌∷◌, ◌++◌, length, map, take, sum_by}
use Rattle.std.proofs.Common.{Option, Some, None, refl, sym, ap, ◌∙◌, arith}
use Rattle.std.proofs.Common.{Vec}
use Rattle.std.specs.declared.alloc.Global.{Global}
use Rattle.std.proofs.lemmas.Bool.{cases_lt, le-ltb, lt-ltb}
use Rattle.std.proofs.lemmas.Int.{clamps}
use Rattle.std.proofs.lemmas.List.{length-append, length-map, map-append}
use Rattle.std.proofs.lemmas.List.Sums.{fold-append, sum_by-cons}
use Rattle.std.proofs.lemmas.Option.{none-some, same_Some, slice_get-map}
use Rattle.std.specs.Option.{option_map, option_and_then}
use Rattle.std.specs.Prelude.{flat_map, slice_get}
use Rattle.types.specs.Forms.{FieldForm, Form, field_form, form_of}
use Rattle.types.specs.Forms.{Integer, Boolean, Char, Enumeration, Subrange, Array, Record, Set}
use Rattle.types.specs.Types.{form_at, form_kind, range_of, scalar_range}
use Rattle.types.specs.declared.form.Field.{Field}
use Rattle.types.specs.declared.form.OrdinalRange.{OrdinalRange}
use Rattle.types.specs.declared.form.TypeForm.{TypeForm}
use Rattle.types.specs.declared.form.TypeForm.TheVariants as kept
use Rattle.types.specs.declared.form.TypeId.{TypeId}
use Rattle.checker_rows.specs.declared.leaf.Descent.{Descent}
use Rattle.checker_rows.specs.declared.leaf.Descent.TheVariants.{Direct, Once, Twice}
use Rattle.checker_rows.specs.Leaves.{Leaf, Leafed, behind_elements, behind_field, entry_leaves, fields_leaves, form_leaves, leaf_next}
use Rattle.checker_rows.specs.Leaves.{leafed, leaves_at, leaves_of}
use Rattle.checker_rows.specs.Leaves.{range_at, scalar, scalar_leaves}
use Rattle.checker_rows.specs.View.{capped, count_at, count_in, field_part, form_count, leaf_counts, own_type, part_count, part_leaves, ranges_on, way_behind}
use Rattle.checker_rows.proofs.Leafed.{leafed_before, leafed_many, leaves_before, leaves_not_before, leaves_of_form, leaves_of_none, range_before}
use Rattle.checker_rows.proofs.Leafed.{range_not_before}

count_of_entry : (entry : Option Leafed) → count_in (option_map (λ entry. length entry.leaves) entry) ≡ length (entry_leaves entry)
count_of_entry None = refl
count_of_entry (Some entry) = refl

pub type_counted : (types : List Form) (id : TypeId) → count_at (leaf_counts types) id ≡ length (leaves_of types id)
type_counted types id =
    ap count_in (slice_get-map (λ (entry : Leafed). length entry.leaves) (leafed types) id.index) ∙ count_of_entry (slice_get (leafed types) id.index)

pub part_counted : (types : List Form) (part : Option TypeId) → part_count (leaf_counts types) part ≡ length (part_leaves types part)
part_counted types None = refl
part_counted types (Some id) = type_counted types id

fields_counted : (types : List Form) (position : ℕ) (fields : List FieldForm)
    → sum_by (λ field. count_at (leaf_counts types) field.type_id) fields ≡ length (fields_leaves (leafed types) position fields)
fields_counted types position [] = refl
fields_counted types position (field ∷ fields) =
    sum_by-cons (λ field. count_at (leaf_counts types) field.type_id) field fields
    ∙ ap (λ n. count_at (leaf_counts types) field.type_id + n) (fields_counted types (position + 1) fields)
    ∙ ap (λ n. n + length (fields_leaves (leafed types) (position + 1) fields))
    (type_counted types field.type_id ∙ sym (length-map (leaves_at (leafed types) field.type_id) (behind_field position)))
    ∙ sym (length-append (map (behind_field position) (leaves_at (leafed types) field.type_id)) (fields_leaves (leafed types) (position + 1) fields))

-- a form has so many over the types of a table
pub form_counted : (types : List Form) (form : Form) → form_count (leaf_counts types) form ≡ length (form_leaves (leafed types) form)
form_counted types Integer = refl
form_counted types Boolean = refl
form_counted types Char = refl
form_counted types (Enumeration last) = refl
form_counted types (Subrange host first last) = refl
form_counted types (Set packed host first last) = refl
form_counted types (Array packed index element) =
    type_counted types element ∙ sym (length-map (leaves_at (leafed types) element) (behind_elements (range_at (leafed types) index)))
form_counted types (Record packed fields) = fields_counted types 0 fields

-- ---- counts as they are kept

pub capped_at : (counts : List ℕ) (id : TypeId) → count_at (map capped counts) id ≡ capped (count_at counts id)
capped_at counts id = ap count_in (slice_get-map capped counts id.index) ∙ by (slice_get counts id.index)
  where
    by : (count : Option ℕ) → count_in (option_map capped count) ≡ capped (count_in count)
    by None = refl
    by (Some count) = refl

capped_part : (counts : List ℕ) (part : Option TypeId) → part_count (map capped counts) part ≡ capped (part_count counts part)
capped_part counts None = refl
capped_part counts (Some id) = capped_at counts id

-- a count that fits is the count
pub part_kept : (counts : List ℕ) (part : Option TypeId) → part_count counts part < 2 ^ 64 → part_count (map capped counts) part ≡ part_count counts part
part_kept counts part fits = let kept = capped_part counts part in omega (arith, clamps, kept, fits)

capped_fields : (counts : List ℕ) (fields : List FieldForm)
    → capped (sum_by (λ field. count_at (map capped counts) field.type_id) fields) ≡ capped (sum_by (λ field. count_at counts field.type_id) fields)
capped_fields counts [] = refl
capped_fields counts (field ∷ fields) =
    let kept = sum_by-cons (λ field. count_at (map capped counts) field.type_id) field fields in
    let are = sum_by-cons (λ field. count_at counts field.type_id) field fields in
    let own = capped_at counts field.type_id in
    let more = capped_fields counts fields in
    omega (arith, clamps, kept, are, own, more)

-- a form has as many by the counts that are kept
pub capped_form : (counts : List ℕ) (form : Form) → capped (form_count (map capped counts) form) ≡ capped (form_count counts form)
capped_form counts Integer = refl
capped_form counts Boolean = refl
capped_form counts Char = refl
capped_form counts (Enumeration last) = refl
capped_form counts (Subrange host first last) = refl
capped_form counts (Set packed host first last) = refl
capped_form counts (Array packed index element) = let own = capped_at counts element in omega (arith, clamps, own)
capped_form counts (Record packed fields) = capped_fields counts fields

-- the fields of a record have no more by them
pub kept_fields_fit : (counts : List ℕ) (id : TypeId) (fields : List Field)
    → sum_by (λ field. part_count (map capped counts) (own_type id field.type_id)) fields
    ≤ sum_by (λ field. part_count counts (own_type id field.type_id)) fields
kept_fields_fit counts id [] = omega arith
kept_fields_fit counts id (field ∷ fields) =
    let kept = sum_by-cons (λ field. part_count (map capped counts) (own_type id field.type_id)) field fields in
    let are = sum_by-cons (λ field. part_count counts (own_type id field.type_id)) field fields in
    let own = capped_part counts (own_type id field.type_id) in
    let more = kept_fields_fit counts id fields in
    omega (arith, clamps, kept, are, own, more)

-- a field begins at the same row by them, where the counts of all fit
pub field_kept : (counts : List ℕ) (id : TypeId) (first : ℕ) (fields : List FieldForm) (position : ℕ)
    → sum_by (λ field. part_count counts (own_type id field.type_id)) fields < 2 ^ 64
    → field_part (map capped counts) id first fields position ≡ field_part counts id first fields position
field_kept counts id first [] position fit = refl
field_kept counts id first (field ∷ fields) zero fit = refl
field_kept counts id first (field ∷ fields) (suc position) fit =
    let all = sum_by-cons (λ field. part_count counts (own_type id field.type_id)) field fields in
    let own = part_kept counts (own_type id field.type_id) (omega (arith, all, fit)) in
    ap (λ n. field_part (map capped counts) id (first + n) fields position) own
    ∙ field_kept counts id (first + part_count counts (own_type id field.type_id)) fields position (omega (arith, all, fit))

-- ---- the counts of the types of a table

-- the first types with one more
take_one : {A : Type 0} (items : List A) (n : ℕ) (item : A) → slice_get items n ≡ Some item → take (suc n) items ≡ take n items ++ item ∷ []
take_one [] n item is = absurd (none-some item is)
take_one (x ∷ items) zero item is = ap (λ y. y ∷ []) (same_Some x item is)
take_one (x ∷ items) (suc n) item is = ap (λ l. x ∷ l) (take_one items n item is)

counts_push : (types : List Form) (form : Form) → leaf_counts (types ++ form ∷ []) ≡ leaf_counts types ++ form_count (leaf_counts types) form ∷ []
counts_push types form =
    ap (map (λ (entry : Leafed). length entry.leaves)) (fold-append leaf_next [] types (form ∷ []))
    ∙ map-append (λ (entry : Leafed). length entry.leaves) (leafed types) (record { form = form; leaves = form_leaves (leafed types) form } ∷ [])
    ∙ ap (λ n. leaf_counts types ++ n ∷ []) (sym (form_counted types form))

pub counts_more : (types : List Form) (n : ℕ) (form : Form) → slice_get types n ≡ Some form
    → leaf_counts (take (suc n) types) ≡ leaf_counts (take n types) ++ form_count (leaf_counts (take n types)) form ∷ []
counts_more types n form is = ap leaf_counts (take_one types n form is) ∙ counts_push (take n types) form

pub all_taken : {A : Type 0} (items : List A) (n : ℕ) → slice_get items n ≡ None → take n items ≡ items
all_taken [] zero is = refl
all_taken [] (suc n) is = refl
all_taken (x ∷ items) zero is = absurd (none-some x (sym is))
all_taken (x ∷ items) (suc n) is = ap (λ l. x ∷ l) (all_taken items n is)

-- the types so far, and one more
pub counts_step : (types : List Form) (counts new : List ℕ) (form : Form) (count : ℕ) → counts ≡ map capped (leaf_counts (take (length counts) types))
    → slice_get types (length counts) ≡ Some form → count ≡ capped (form_count counts form) → new ≡ counts ++ count ∷ []
    → new ≡ map capped (leaf_counts (take (length new) types))
counts_step types counts new form count so_far is counted pushed =
    let longer = length-append counts (count ∷ []) in
    let same = ap length pushed in
    let e : suc (length counts) ≡ length new = omega (arith, longer, same) in
    let before = leaf_counts (take (length counts) types) in
    pushed ∙ ap (λ n. counts ++ n ∷ []) (counted ∙ ap (λ l. capped (form_count l form)) so_far ∙ capped_form before form)
    ∙ ap (λ l. l ++ capped (form_count before form) ∷ []) so_far
    ∙ sym (map-append capped before (form_count before form ∷ []))
    ∙ ap (map capped) (sym (counts_more types (length counts) form is)) ∙ ap (λ n. map capped (leaf_counts (take n types))) e

-- the fields that a program keeps
pub kept_fields_counted : (counts : List ℕ) (fields : List Field)
    → sum_by (λ field. count_at counts field.type_id) fields ≡ sum_by (λ field. count_at counts field.type_id) (map field_form fields)
kept_fields_counted counts [] = refl
kept_fields_counted counts (field ∷ fields) =
    sum_by-cons (λ field. count_at counts field.type_id) field fields
    ∙ ap (λ n. count_at counts field.type_id + n) (kept_fields_counted counts fields)
    ∙ sym (sum_by-cons (λ field. count_at counts field.type_id) (field_form field) (map field_form fields))

-- ---- parts of a type

pub part_before : (types : List Form) (id part : TypeId) → leaves_at (leafed_before types id) part ≡ part_leaves types (own_type id part)
part_before types id part =
    ⊎_elim (λ h. leaves_before types id part h ∙ sym (ap (λ b. part_leaves types (cond b (Some part) None)) (lt-ltb part.index id.index h)))
    (λ h. leaves_not_before types id part h ∙ sym (ap (λ b. part_leaves types (cond b (Some part) None)) (le-ltb part.index id.index h)))
    (cases_lt part.index id.index)

pub values_of_part : (types : List Form) (id part : TypeId) → range_at (leafed_before types id) part ≡ option_and_then (range_of types) (own_type id part)
values_of_part types id part =
    ⊎_elim (λ h. range_before types id part h ∙ sym (ap (λ b. option_and_then (range_of types) (cond b (Some part) None)) (lt-ltb part.index id.index h)))
    (λ h. range_not_before types id part h ∙ sym (ap (λ b. option_and_then (range_of types) (cond b (Some part) None)) (le-ltb part.index id.index h)))
    (cases_lt part.index id.index)

fields_of_parts : (types : List Form) (id : TypeId) (position : ℕ) (fields : List FieldForm)
    → length (fields_leaves (leafed_before types id) position fields) ≡ sum_by (λ field. part_count (leaf_counts types) (own_type id field.type_id)) fields
fields_of_parts types id position [] = refl
fields_of_parts types id position (field ∷ fields) =
    length-append (map (behind_field position) (leaves_at (leafed_before types id) field.type_id))
    (fields_leaves (leafed_before types id) (position + 1) fields)
    ∙ ap (λ n. n + length (fields_leaves (leafed_before types id) (position + 1) fields))
    (length-map (leaves_at (leafed_before types id) field.type_id) (behind_field position) ∙ ap length (part_before types id field.type_id)
    ∙ sym (part_counted types (own_type id field.type_id)))
    ∙ ap (λ n. part_count (leaf_counts types) (own_type id field.type_id) + n) (fields_of_parts types id (position + 1) fields)
    ∙ sym (sum_by-cons (λ field. part_count (leaf_counts types) (own_type id field.type_id)) field fields)

-- a record has those of its fields
pub record_counted : (types : List Form) (id : TypeId) (packed : Bool) (fields : List FieldForm) → form_at types id ≡ Some (Record packed fields)
    → count_at (leaf_counts types) id ≡ sum_by (λ field. part_count (leaf_counts types) (own_type id field.type_id)) fields
record_counted types id packed fields is =
    type_counted types id ∙ ap length (leaves_of_form types id (Record packed fields) is) ∙ fields_of_parts types id 0 fields

kept_parts : (types : List Form) (id : TypeId) (fields : List Field)
    → sum_by (λ field. part_count (leaf_counts types) (own_type id field.type_id)) (map field_form fields)
    ≡ sum_by (λ field. part_count (leaf_counts types) (own_type id field.type_id)) fields
kept_parts types id [] = refl
kept_parts types id (field ∷ fields) =
    sum_by-cons (λ field. part_count (leaf_counts types) (own_type id field.type_id)) (field_form field) (map field_form fields)
    ∙ ap (λ n. part_count (leaf_counts types) (own_type id field.type_id) + n) (kept_parts types id fields)
    ∙ sym (sum_by-cons (λ field. part_count (leaf_counts types) (own_type id field.type_id)) field fields)

pub kept_record_counted : (types : List Form) (id : TypeId) (packed : Bool) (fields : List Field)
    → form_at types id ≡ Some (Record packed (map field_form fields))
    → count_at (leaf_counts types) id ≡ sum_by (λ field. part_count (leaf_counts types) (own_type id field.type_id)) fields
kept_record_counted types id packed fields is = record_counted types id packed (map field_form fields) is ∙ kept_parts types id fields

pub array_counted : (types : List Form) (id : TypeId) (packed : Bool) (index element : TypeId) → form_at types id ≡ Some (Array packed index element)
    → count_at (leaf_counts types) id ≡ part_count (leaf_counts types) (own_type id element)
array_counted types id packed index element is =
    type_counted types id ∙ ap length (leaves_of_form types id (Array packed index element) is)
    ∙ length-map (leaves_at (leafed_before types id) element) (behind_elements (range_at (leafed_before types id) index))
    ∙ ap length (part_before types id element) ∙ sym (part_counted types (own_type id element))

-- ---- the ranges of leaves

ranges_behind : (way : Descent) (index : Option OrdinalRange) (leaf : Leaf) → ranges_on way (behind_elements index leaf) ≡ ranges_on (way_behind way index) leaf
ranges_behind Direct index leaf = refl
ranges_behind (Once None) index leaf = refl
ranges_behind (Once (Some first)) None leaf = refl
ranges_behind (Once (Some first)) (Some second) leaf = refl
ranges_behind (Twice first None) index leaf = refl
ranges_behind (Twice first (Some second)) index leaf = refl

ranges_of_elements : (way : Descent) (index : Option OrdinalRange) (leaves : List Leaf)
    → map (ranges_on way) (map (behind_elements index) leaves) ≡ map (ranges_on (way_behind way index)) leaves
ranges_of_elements way index [] = refl
ranges_of_elements way index (leaf ∷ leaves) =
    ap (λ r. r ∷ map (ranges_on way) (map (behind_elements index) leaves)) (ranges_behind way index leaf)
    ∙ ap (λ l. ranges_on (way_behind way index) leaf ∷ l) (ranges_of_elements way index leaves)

ranges_in_field : (way : Descent) (position : ℕ) (leaf : Leaf) → ranges_on way (behind_field position leaf) ≡ ranges_on way leaf
ranges_in_field way position leaf = refl

ranges_of_field : (way : Descent) (position : ℕ) (leaves : List Leaf) → map (ranges_on way) (map (behind_field position) leaves) ≡ map (ranges_on way) leaves
ranges_of_field way position [] = refl
ranges_of_field way position (leaf ∷ leaves) =
    ap (λ r. r ∷ map (ranges_on way) (map (behind_field position) leaves)) (ranges_in_field way position leaf)
    ∙ ap (λ l. ranges_on way leaf ∷ l) (ranges_of_field way position leaves)

ranges_of_fields : (types : List Form) (id : TypeId) (way : Descent) (position : ℕ) (fields : List FieldForm)
    → map (ranges_on way) (fields_leaves (leafed_before types id) position fields)
    ≡ flat_map (λ field. map (ranges_on way) (part_leaves types (own_type id field.type_id))) fields
ranges_of_fields types id way position [] = refl
ranges_of_fields types id way position (field ∷ fields) =
    map-append (ranges_on way) (map (behind_field position) (leaves_at (leafed_before types id) field.type_id))
    (fields_leaves (leafed_before types id) (position + 1) fields)
    ∙ ap (λ l. l ++ map (ranges_on way) (fields_leaves (leafed_before types id) (position + 1) fields))
    (ranges_of_field way position (leaves_at (leafed_before types id) field.type_id) ∙ ap (map (ranges_on way)) (part_before types id field.type_id))
    ∙ ap (λ l. map (ranges_on way) (part_leaves types (own_type id field.type_id)) ++ l) (ranges_of_fields types id way (position + 1) fields)

kept_fields : (types : List Form) (id : TypeId) (way : Descent) (fields : List Field)
    → flat_map (λ field. map (ranges_on way) (part_leaves types (own_type id field.type_id))) (map field_form fields)
    ≡ flat_map (λ field. map (ranges_on way) (part_leaves types (own_type id field.type_id))) fields
kept_fields types id way [] = refl
kept_fields types id way (field ∷ fields) =
    ap (λ l. map (ranges_on way) (part_leaves types (own_type id field.type_id)) ++ l) (kept_fields types id way fields)

pub record_ranges : (types : List Form) (id : TypeId) (way : Descent) (packed : Bool) (fields : List Field)
    → form_at types id ≡ Some (Record packed (map field_form fields))
    → map (ranges_on way) (leaves_of types id) ≡ flat_map (λ field. map (ranges_on way) (part_leaves types (own_type id field.type_id))) fields
record_ranges types id way packed fields is =
    ap (map (ranges_on way)) (leaves_of_form types id (Record packed (map field_form fields)) is)
    ∙ ranges_of_fields types id way 0 (map field_form fields) ∙ kept_fields types id way fields

pub array_ranges : (types : List Form) (id : TypeId) (way : Descent) (packed : Bool) (index element : TypeId)
    → form_at types id ≡ Some (Array packed index element)
    → map (ranges_on way) (leaves_of types id)
    ≡ map (ranges_on (way_behind way (option_and_then (range_of types) (own_type id index)))) (part_leaves types (own_type id element))
array_ranges types id way packed index element is =
    ap (map (ranges_on way)) (leaves_of_form types id (Array packed index element) is)
    ∙ ranges_of_elements way (range_at (leafed_before types id) index) (leaves_at (leafed_before types id) element)
    ∙ ap (λ range. map (ranges_on (way_behind way range)) (leaves_at (leafed_before types id) element)) (values_of_part types id index)
    ∙ ap (map (ranges_on (way_behind way (option_and_then (range_of types) (own_type id index))))) (part_before types id element)

module _ (types : List Form) (way : Descent) (id : TypeId) where
  pub none_ranges : form_at types id ≡ None → map (ranges_on way) (leaves_of types id) ≡ ranges_on way (scalar None None) ∷ []
  none_ranges is = ap (map (ranges_on way)) (leaves_of_none types id is)

  -- a form that is neither an array nor a record
  pub scalar_ranges : (form : TypeForm) → form_at types id ≡ Some (form_of form)
      → ((packed : Bool) (index element : TypeId) → form ≡ kept.Array packed index element → ⊥)
      → ((packed : Bool) (fields : Vec Field Global) → form ≡ kept.Record packed fields → ⊥)
      → map (ranges_on way) (leaves_of types id) ≡ ranges_on way (scalar (Some id) (scalar_range (form_kind (form_of form)))) ∷ []
  scalar_ranges form is no_array no_record =
      ap (map (ranges_on way)) (leaves_of_form types id (form_of form) is ∙ by form no_array no_record)
      ∙ ap (λ (n : ℕ). ranges_on way (scalar (Some (record { index = n })) (scalar_range (form_kind (form_of form)))) ∷ [])
      (leafed_many types id (form_of form) is)
    where
      by : (form : TypeForm) → ((packed : Bool) (index element : TypeId) → form ≡ kept.Array packed index element → ⊥)
          → ((packed : Bool) (fields : Vec Field Global) → form ≡ kept.Record packed fields → ⊥)
          → form_leaves (leafed_before types id) (form_of form) ≡ scalar_leaves (leafed_before types id) (form_of form)
      by kept.Integer no_array no_record = refl
      by kept.Boolean no_array no_record = refl
      by kept.Char no_array no_record = refl
      by (kept.Enumeration last) no_array no_record = refl
      by (kept.Subrange host first last) no_array no_record = refl
      by (kept.Set packed host first last) no_array no_record = refl
      by (kept.Array packed index element) no_array no_record = absurd (no_array packed index element refl)
      by (kept.Record packed fields) no_array no_record = absurd (no_record packed fields refl)
