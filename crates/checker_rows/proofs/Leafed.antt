-- The leaves of the types of a table: those of a form over the types before it.
use Rattle.std.proofs.Common.{◌≡◌, ℕ, ◌<◌, ◌≤◌, false, List, [], ◌∷◌, length, take, Option, Some, None, refl, sym, ap, ◌∙◌, arith}
use Rattle.std.proofs.lemmas.Bool.{false≢true}
use Rattle.std.proofs.lemmas.List.{length-take}
use Rattle.std.proofs.lemmas.Option.{slice_get_past, slice_get_within}
use Rattle.std.specs.Option.{option_map, option_and_then}
use Rattle.std.specs.Prelude.{slice_get}
use Rattle.types.specs.Forms.{Form, Integer, Boolean, Char, Enumeration, Subrange, Array, Record, Set}
use Rattle.types.specs.Types.{form_at, form_kind, form_range, is_structured, is_structured_kind, range_of, scalar_range}
use Rattle.types.specs.declared.form.OrdinalRange.{OrdinalRange}
use Rattle.types.specs.declared.form.TypeId.{TypeId}
use Rattle.types.proofs.Growing.{grown_before, made_at, slice_get-take}
use Rattle.checker_rows.specs.Leaves.{Leafed, entry_leaves, entry_range, form_leaves, leafed, leaves_at, leaves_of, range_at, scalar}

-- the types before one, with their leaves
abbrev pub leafed_before : List Form → TypeId → List Leafed
leafed_before types id = leafed (take id.index types)

-- a form with its leaves over those that have theirs
abbrev pub leafed_over : List Leafed → Form → Leafed
leafed_over entries form = record { form = form; leaves = form_leaves entries form }

pub first_leafed : (types : List Form) (n : ℕ) → leafed (take n types) ≡ take n (leafed types)
first_leafed types n = grown_before leafed_over types n

pub leafed_at : (types : List Form) (id : TypeId) → slice_get (leafed types) id.index ≡ option_map (leafed_over (leafed_before types id)) (form_at types id)
leafed_at types id = made_at leafed_over types id.index

-- a type has the leaves of its form over the types before it
pub leaves_of_form : (types : List Form) (id : TypeId) (form : Form) → form_at types id ≡ Some form
    → leaves_of types id ≡ form_leaves (leafed_before types id) form
leaves_of_form types id form is = ap entry_leaves (leafed_at types id ∙ ap (option_map (leafed_over (leafed_before types id))) is)

-- its number is how many types stand before it
pub leafed_many : (types : List Form) (id : TypeId) (form : Form) → form_at types id ≡ Some form → length (leafed_before types id) ≡ id.index
leafed_many types id form is =
    let within = slice_get_within (leafed types) id.index (leafed_over (leafed_before types id) form)
    (leafed_at types id ∙ ap (option_map (leafed_over (leafed_before types id))) is) in
    let long = length-take id.index (leafed types) in
    let same = ap length (first_leafed types id.index) in
    omega (arith, within, long, same)

-- a number that is no type's stands for one leaf
pub leaves_of_none : (types : List Form) (id : TypeId) → form_at types id ≡ None → leaves_of types id ≡ scalar None None ∷ []
leaves_of_none types id is = ap entry_leaves (leafed_at types id ∙ ap (option_map (leafed_over (leafed_before types id))) is)

-- a type that is no array and no record has one
module _ (types : List Form) (id : TypeId) where
  abbrev own-id : Option TypeId
  own-id = Some (record { index = length (leafed_before types id) })

  scalar-form : (form : Option Form) → form_at types id ≡ form → is_structured_kind (option_map form_kind form) ≡ false
      → (own : Option TypeId) × (values : Option OrdinalRange) × (leaves_of types id ≡ scalar own values ∷ [])
  scalar-form None is plain = (None, None, leaves_of_none types id is)
  scalar-form (Some Integer) is plain = (own-id, form_range Integer, leaves_of_form types id Integer is)
  scalar-form (Some Boolean) is plain = (own-id, form_range Boolean, leaves_of_form types id Boolean is)
  scalar-form (Some Char) is plain = (own-id, form_range Char, leaves_of_form types id Char is)
  scalar-form (Some (Enumeration last)) is plain = (own-id, form_range (Enumeration last), leaves_of_form types id (Enumeration last) is)
  scalar-form (Some (Subrange host first last)) is plain =
      (own-id, form_range (Subrange host first last), leaves_of_form types id (Subrange host first last) is)
  scalar-form (Some (Set packed host first last)) is plain =
      (own-id, scalar_range (form_kind (Set packed host first last)), leaves_of_form types id (Set packed host first last) is)
  scalar-form (Some (Array packed index element)) is plain = absurd (false≢true (sym plain))
  scalar-form (Some (Record packed fields)) is plain = absurd (false≢true (sym plain))

  pub leaves_of_scalar : is_structured types id ≡ false
      → (own : Option TypeId) × (values : Option OrdinalRange) × (leaves_of types id ≡ scalar own values ∷ [])
  leaves_of_scalar plain = scalar-form (form_at types id) refl plain

few : (entries : List Leafed) (n m : ℕ) → n ≤ m → length (take n entries) ≤ m
few entries n m h = let e = length-take n entries in grind (arith, h, e)

-- the leaves of a part that stands before its type are those of the part
pub leaves_before : (types : List Form) (id part : TypeId) → part.index < id.index
    → leaves_at (leafed_before types id) part ≡ leaves_of types part
leaves_before types id part h =
    ap (λ entries. leaves_at entries part) (first_leafed types id.index) ∙ ap entry_leaves (slice_get-take (leafed types) id.index part.index h)

-- another part is none of the types before, and has one
pub leaves_not_before : (types : List Form) (id part : TypeId) → id.index ≤ part.index → leaves_at (leafed_before types id) part ≡ scalar None None ∷ []
leaves_not_before types id part h =
    ap (λ entries. leaves_at entries part) (first_leafed types id.index)
    ∙ ap entry_leaves (slice_get_past (take id.index (leafed types)) part.index (few (leafed types) id.index part.index h))

range_of_entry : (form : Option Form) (entries : List Leafed) → entry_range (option_map (leafed_over entries) form) ≡ option_and_then form_range form
range_of_entry None entries = refl
range_of_entry (Some form) entries = refl

-- the values of a type with its leaves are those of the type
pub range_leafed : (types : List Form) (id : TypeId) → range_at (leafed types) id ≡ range_of types id
range_leafed types id = ap entry_range (leafed_at types id) ∙ range_of_entry (form_at types id) (leafed_before types id)

-- those of a type that stands before another
pub range_before : (types : List Form) (id part : TypeId) → part.index < id.index → range_at (leafed_before types id) part ≡ range_of types part
range_before types id part h =
    ap (λ entries. range_at entries part) (first_leafed types id.index)
    ∙ ap entry_range (slice_get-take (leafed types) id.index part.index h) ∙ range_leafed types part

-- another part has none
pub range_not_before : (types : List Form) (id part : TypeId) → id.index ≤ part.index → range_at (leafed_before types id) part ≡ None
range_not_before types id part h =
    ap (λ entries. range_at entries part) (first_leafed types id.index)
    ∙ ap entry_range (slice_get_past (take id.index (leafed types)) part.index (few (leafed types) id.index part.index h))
