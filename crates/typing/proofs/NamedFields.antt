-- Fields of a record, one after another.
use Rattle.std.proofs.Common.{◌≡◌, ℕ, ◌+◌, ◌<◌, ◌≤◌, Bool, true, false, if◌then◌else◌, List, [], ◌∷◌, ◌++◌, map, length, drop, get_or, Ok, Err}
use Rattle.std.proofs.Common.{nat_eq, ◌||◌, refl, sym, ap, ◌∙◌}
use Rattle.std.specs.List.{list_any}
use Rattle.std.specs.Cmp.Lexicographic.{pointwise}
use Rattle.std.proofs.lemmas.List.{map-append, drop_more, at_drop_all}
use Rattle.syntax_tree.specs.declared.Name.{Name}
use Rattle.types.specs.Forms.{FieldForm, field_form}
use Rattle.types.specs.declared.form.Field.{Field}
use Rattle.types.specs.declared.form.TypeId.{TypeId}
use Rattle.typed_tree.specs.declared.fault.TypeFault.TheVariants as fault
use Rattle.typing.specs.Denoters.{named_fields}
use Rattle.typing.specs.Names.{folded}

-- whether one has a name, of those that are kept
any_kept : (name : List ℕ) (fields : List Field)
    → list_any (λ (field : FieldForm). pointwise nat_eq field.name name) (map field_form fields)
    ≡ list_any (λ (field : Field). pointwise nat_eq field.name.items name) fields
any_kept name [] = refl
any_kept name (field ∷ fields) = ap (λ b. pointwise nat_eq field.name.items name || b) (any_kept name fields)

module _ (type_id : TypeId) (names : List Name) (old : List Field) where
  -- what is left, once some are put
  abbrev pub AreFieldsFrom : ℕ → List Field → Type 0
  AreFieldsFrom i fields =
      named_fields (map field_form old) type_id names ≡ named_fields (map field_form fields) type_id (drop i names)

  module _ (i : ℕ) (name : Name) (fields : List Field) (within : i < length names) (is : name ≡ get_or names i name) (left : AreFieldsFrom i fields)
      (found : Bool) (tests : found ≡ list_any (λ (field : Field). pointwise nat_eq field.name.items (folded name.text.now)) fields) where
    fields_go : named_fields (map field_form old) type_id names
        ≡ (if found then Err (fault.DeclaredTwice name.place)
        else named_fields (map field_form fields ++ record { name = folded name.text.now; type_id = type_id } ∷ []) type_id (drop (i + 1) names))
    fields_go =
        left
        ∙ ap (λ ns. named_fields (map field_form fields) type_id ns) (drop_more names i name within)
        ∙ ap (λ n. named_fields (map field_form fields) type_id (n ∷ drop (i + 1) names)) (sym is)
        ∙ ap (λ b. if b then Err (fault.DeclaredTwice name.place)
        else named_fields (map field_form fields ++ record { name = folded name.text.now; type_id = type_id } ∷ []) type_id (drop (i + 1) names))
        (any_kept (folded name.text.now) fields ∙ sym tests)

    -- the next one is put
    pub field_next : (field : Field) → found ≡ false → field.name.items ≡ folded name.text.now → field.type_id ≡ type_id
        → AreFieldsFrom (i + 1) (fields ++ field ∷ [])
    field_next field new named typed =
        fields_go
        ∙ ap (λ b. if b then Err (fault.DeclaredTwice name.place)
        else named_fields (map field_form fields ++ record { name = folded name.text.now; type_id = type_id } ∷ []) type_id (drop (i + 1) names)) new
        ∙ ap (λ n. named_fields (map field_form fields ++ record { name = n; type_id = type_id } ∷ []) type_id (drop (i + 1) names)) (sym named)
        ∙ ap (λ t. named_fields (map field_form fields ++ record { name = field.name.items; type_id = t } ∷ []) type_id (drop (i + 1) names)) (sym typed)
        ∙ ap (λ fs. named_fields fs type_id (drop (i + 1) names)) (sym (map-append field_form fields (field ∷ [])))

    -- its name stands before it
    pub field_twice : found ≡ true → named_fields (map field_form old) type_id names ≡ Err (fault.DeclaredTwice name.place)
    field_twice twice =
        fields_go
        ∙ ap (λ b. if b then Err (fault.DeclaredTwice name.place)
        else named_fields (map field_form fields ++ record { name = folded name.text.now; type_id = type_id } ∷ []) type_id (drop (i + 1) names)) twice

  -- all are put
  pub fields_end : (i : ℕ) (fields : List Field) → length names ≤ i → AreFieldsFrom i fields
      → named_fields (map field_form old) type_id names ≡ Ok (map field_form fields)
  fields_end i fields all left = left ∙ at_drop_all (λ ns. named_fields (map field_form fields) type_id ns) names i all

pub ruleset fields_left = (field_next, field_twice, fields_end)
