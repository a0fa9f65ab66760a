-- The names of the fields of a record, one after another.
use Rattle.std.proofs.Common.{◌≡◌, ℕ, ◌+◌, ◌<◌, List, [], ◌∷◌, ◌++◌, map, length, take, get_or, sym, ap, ◌∙◌, append-nil}
use Rattle.std.specs.List.{flat_map}
use Rattle.std.proofs.lemmas.Grind.{flat_map-append}
use Rattle.std.proofs.lemmas.List.{map-append, take_more}
use Rattle.types.specs.Forms.{FieldForm, field_form}
use Rattle.types.specs.declared.form.Field.{Field}

-- those of one field more
pub names_more : {A : Type 0} (names : FieldForm → List A) (fields : List Field) (i : ℕ) (field : Field) (made more : List A)
    → i < length fields → field ≡ get_or fields i field → made ≡ flat_map names (map field_form (take i fields)) → more ≡ names (field_form field)
    → made ++ more ≡ flat_map names (map field_form (take (i + 1) fields))
names_more names fields i field made more within is so_far told =
    ap (λ l. made ++ l) (told ∙ ap (λ f. names (field_form f)) is ∙ sym (append-nil (names (field_form (get_or fields i field)))))
    ∙ ap (λ l. l ++ flat_map names (map field_form (get_or fields i field ∷ []))) so_far
    ∙ sym (flat_map-append names (map field_form (take i fields)) (map field_form (get_or fields i field ∷ [])))
    ∙ ap (flat_map names) (sym (map-append field_form (take i fields) (get_or fields i field ∷ [])))
    ∙ ap (λ fs. flat_map names (map field_form fs)) (sym (take_more fields i field within))
