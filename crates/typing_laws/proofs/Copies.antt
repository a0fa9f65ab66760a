-- What may be copied to a structured target: a value of its type, or a string as long.
use Rattle.std.proofs.Common.{◌≡◌, ℕ, Bool, true, false, ◌&&◌, ◌||◌, nat_eq, if◌then◌else◌, List, Option, Some, None, is_some, refl, sym, ap, ap₂}
use Rattle.std.proofs.Common.{subst, ◌∙◌, Ok, option_map}
use Rattle.std.proofs.lemmas.Bool.{eqb-true}
use Rattle.place.specs.declared.Place.{Place}
use Rattle.types.specs.Forms.{Form, Set, Subrange}
use Rattle.types.specs.declared.form.TypeId.{TypeId}
use Rattle.types.specs.declared.sets.SetBase.{SetBase}
use Rattle.types.specs.Types.{base_in, cells_of, form_at, form_kind, have_one_base, have_one_length, host_in, host_of, is_assignable}
use Rattle.types.specs.Types.{is_compatible, is_same, is_string}
use Rattle.types.specs.Types.{is_structured, is_structured_kind, set_base, string_in, string_length}
use Rattle.typed_tree.specs.WellFormed.{Outline, is_alike, may_copy}
use Rattle.typing_rules.specs.declared.typed.Typed.{Typed}
use Rattle.typing_rules.specs.declared.typed.TypedValue.{TypedValue}
use Rattle.typing_rules.specs.declared.typed.TypedValue.TheVariants as value
use Rattle.typing_rules.specs.Targets.{Copy, copy_of, copying, copying_value}
use Rattle.typing_rules.specs.Checked.{or_mismatch}
use Rattle.typing_laws.proofs.Grown.{both_true}
use Rattle.typing_laws.proofs.Reached.{IsLonger, IsFurther, Reached, whole_of}
use Rattle.typing_laws.proofs.Strings.{both_and, there}
use Rattle.typing_laws.proofs.Tables.{AreLawful, cells_of_longer, is_string_longer, is_structured_longer, string_has_cells, string_longer, structured_stands}

-- ---- types of structured values

-- the host type of one is itself
host_itself : (types : List Form) (id : TypeId) → is_structured types id ≡ true → host_of types id ≡ id
host_itself types id structured = by (form_at types id) structured
  where
    by : (form : Option Form) → is_structured_kind (option_map form_kind form) ≡ true → host_in id form ≡ id
    by (Some (Subrange host first last)) is = absurd cc
    by other is = refl

-- so is that of a string
host_of_string : (types : List Form) (id : TypeId) → is_string types id ≡ true → host_of types id ≡ id
host_of_string types id is = by (form_at types id) is
  where
    by : (form : Option Form) → is_some (string_in types form) ≡ true → host_in id form ≡ id
    by (Some (Subrange host first last)) h = absurd cc
    by other h = refl

-- it has no sets as values
no_base : (types : List Form) (id : TypeId) → is_structured types id ≡ true → set_base types id ≡ None
no_base types id structured = by (form_at types id) structured
  where
    by : (form : Option Form) → is_structured_kind (option_map form_kind form) ≡ true → base_in form ≡ None
    by (Some (Set packed host first last)) is = absurd cc
    by other is = refl

-- ---- a value of the same type, or a string as long

-- the type of a structured value is that of the variable whose value it is; or it is a string's
abbrev IsSource : List Form → TypeId → Option TypeId → Type 0
IsSource types id None = is_string types id ≡ true
IsSource types id (Some source) = (source ≡ id) × (is_structured types id ≡ true)

-- what is structured is so by its type
abbrev pub HasSource : List Form → TypedValue → Type 0
HasSource types (value.Ordinal type_id) = Unit {0}
HasSource types (value.Set base) = Unit {0}
HasSource types (value.Text type_id length) = is_string types type_id ≡ true
HasSource types (value.Whole type_id cells) = is_structured types type_id ≡ true

-- a copy is as long as its target, and like it
abbrev pub IsCopyFor : List Form → TypeId → Copy → Type 0
IsCopyFor types target copy = (nat_eq (cells_of types target) copy.cells ≡ true) × (is_alike types target copy.source copy.cells ≡ true)

-- what is assigned to a structured type is of its host type, or as long
module _ (types : List Form) (target id : TypeId) (structured : is_structured types target ≡ true) (is : is_assignable types target id ≡ true) where
  abbrev lengths : Bool
  lengths = have_one_length (string_length types target) (string_length types id)

  without_sets : (is_same (host_of types target) (host_of types id) || lengths) ≡ true
  without_sets =
      by (is_same (host_of types target) (host_of types id)) lengths (have_one_base (set_base types target) (set_base types id))
      (ap (λ (base : Option SetBase). have_one_base base (set_base types id)) (no_base types target structured)) is
    where
      by : (same long sets : Bool) → sets ≡ false → (same || (long || sets)) ≡ true → (same || long) ≡ true
      by true long sets none h = refl
      by false true sets none h = refl
      by false false sets none h = let no : false ≡ true = sym none ∙ h in absurd cc

-- a type to which a string of some type is assigned is a string
string_target : (types : List Form) (target id : TypeId) → is_structured types target ≡ true → is_string types id ≡ true
    → is_assignable types target id ≡ true → is_string types target ≡ true
string_target types target id structured string is =
    by (is_same target id) refl
    (ap₂ (λ a b. is_same a b || lengths types target id structured is) (sym (host_itself types target structured)) (sym (host_of_string types id string))
    ∙ without_sets types target id structured is)
  where
    first_some : (a b : Option ℕ) → have_one_length a b ≡ true → is_some a ≡ true
    first_some (Some a) (Some b) h = refl
    first_some (Some a) None h = refl
    first_some None b h = absurd cc

    by : (test : Bool) → is_same target id ≡ test → (test || have_one_length (string_length types target) (string_length types id)) ≡ true
        → is_string types target ≡ true
    by true same h =
        let one : target ≡ id = ap (λ n. record { index = n }) (eqb-true target.index id.index same) in
        ap (is_string types) one ∙ string
    by false same h = first_some (string_length types target) (string_length types id) h

-- a structured type that is compatible with a string is one
pub string_compared : (types : List Form) (id other : TypeId) → is_string types id ≡ true → is_structured types other ≡ true
    → is_compatible types id other ≡ true → is_string types other ≡ true
string_compared types id other string structured is =
    by (is_same (host_of types id) (host_of types other)) (have_one_length (string_length types id) (string_length types other))
    (have_one_base (set_base types id) (set_base types other)) refl (second_some (string_length types id) (string_length types other))
    (ap (have_one_base (set_base types id)) (no_base types other structured) ∙ no_sets (set_base types id)) is
  where
    no_sets : (base : Option SetBase) → have_one_base base None ≡ false
    no_sets None = refl
    no_sets (Some base) = refl

    second_some : (a b : Option ℕ) → have_one_length a b ≡ true → is_some b ≡ true
    second_some (Some a) (Some b) h = refl
    second_some (Some a) None h = absurd cc
    second_some None b h = absurd cc

    same_string : is_same (host_of types id) (host_of types other) ≡ true → is_string types other ≡ true
    same_string same =
        let one : id.index ≡ other.index =
        eqb-true id.index other.index
        (ap₂ is_same (sym (host_of_string types id string)) (sym (host_itself types other structured)) ∙ same) in
        ap (λ n. is_string types (record { index = n })) (sym one) ∙ string

    by : (same long sets : Bool) → is_same (host_of types id) (host_of types other) ≡ same → (long ≡ true → is_string types other ≡ true) → sets ≡ false
        → (same || (long || sets)) ≡ true → is_string types other ≡ true
    by true long sets at lengths none h = same_string at
    by false true sets at lengths none h = lengths refl
    by false false sets at lengths none h = let no : false ≡ true = sym none ∙ h in absurd cc

alike_is : (types : List Form) → AreLawful types → (target id : TypeId) (source : Option TypeId) (cells : ℕ) → is_structured types target ≡ true
    → IsSource types id source → is_assignable types target id ≡ true → nat_eq (cells_of types target) cells ≡ true
    → is_alike types target source cells ≡ true
alike_is types lawful target id None cells structured string is as_many =
    by (string_length types target) refl (string_target types target id structured string is)
  where
    by : (n : Option ℕ) → string_length types target ≡ n → is_some n ≡ true → have_one_length n (Some cells) ≡ true
    by None found h = absurd cc
    by (Some n) found h = ap (λ m. nat_eq m cells) (sym (string_has_cells types lawful target n found)) ∙ as_many
alike_is types lawful target id (Some source) cells structured own is as_many =
    subst (λ z. (is_same target z || have_one_length (string_length types target) (string_length types z)) ≡ true) (sym own.0)
    (ap₂ (λ a b. is_same a b || lengths types target id structured is) (sym (host_itself types target structured)) (sym (host_itself types id own.1))
    ∙ without_sets types target id structured is)

copy_is : (types : List Form) → AreLawful types → (target id : TypeId) (made copy : Copy) → is_structured types target ≡ true → IsSource types id made.source
    → copy_of types target id made ≡ Some copy → IsCopyFor types target copy
copy_is types lawful target id made copy structured own is = by (is_assignable types target id && nat_eq (cells_of types target) made.cells) refl is
  where
    by : (test : Bool) → (is_assignable types target id && nat_eq (cells_of types target) made.cells) ≡ test → (if test then Some made else None) ≡ Some copy
        → IsCopyFor types target copy
    by true fits h =
        let parts = both_and (is_assignable types target id) (nat_eq (cells_of types target) made.cells) fits in
        let same : made ≡ copy = cc in
        subst (IsCopyFor types target) same (parts.1, alike_is types lawful target id made.source made.cells structured own parts.0 parts.1)
    by false fits h = absurd cc

copying_is : (types : List Form) → AreLawful types → (target : TypeId) (v : TypedValue) (copy : Copy) → is_structured types target ≡ true
    → HasSource types v → copying_value types target v ≡ Some copy → IsCopyFor types target copy
copying_is types lawful target (value.Ordinal type_id) copy structured has is = absurd cc
copying_is types lawful target (value.Set base) copy structured has is = absurd cc
copying_is types lawful target (value.Text type_id length) copy structured has is =
    copy_is types lawful target type_id (record { source = None; cells = length }) copy structured has is
copying_is types lawful target (value.Whole type_id cells) copy structured has is =
    copy_is types lawful target type_id (record { source = Some type_id; cells = cells }) copy structured (refl, has) is

-- the same, as it is tested
pub copying_there : (place : Place) (now : Reached) (types : List Form) (target : TypeId) (t : Typed) (copy : Copy) → now.types ≡ types → AreLawful types
    → is_structured now.types target ≡ true → HasSource now.types t.value → or_mismatch place (copying types target t) ≡ Ok copy
    → IsCopyFor now.types target copy
copying_there place now types target t copy same lawful structured has is =
    copying_is now.types (subst AreLawful (sym same) lawful) target t.value copy structured has
    (ap (λ l. copying l target t) same ∙ there place (copying types target t) copy is)

-- ---- with more types

pub source_longer : {old new : List Form} → IsLonger old new → (v : TypedValue) → HasSource old v → HasSource new v
source_longer longer (value.Ordinal type_id) has = tt
source_longer longer (value.Set base) has = tt
source_longer longer (value.Text type_id length) has = is_string_longer longer type_id has
source_longer longer (value.Whole type_id cells) has = is_structured_longer longer type_id has

alike_longer : {old new : List Form} → IsLonger old new → (target : TypeId) (source : Option TypeId) (cells : ℕ) → is_alike old target source cells ≡ true
    → is_alike new target source cells ≡ true
alike_longer {old} {new} longer target None cells is = by (string_length old target) refl is
  where
    by : (n : Option ℕ) → string_length old target ≡ n → have_one_length n (Some cells) ≡ true
        → have_one_length (string_length new target) (Some cells) ≡ true
    by None found h = absurd cc
    by (Some n) found h = ap (λ m. have_one_length m (Some cells)) (string_longer longer target n found) ∙ h
alike_longer {old} {new} longer target (Some source) cells is = by (is_same target source) is
  where
    both : (m n : Option ℕ) → string_length old target ≡ m → string_length old source ≡ n → have_one_length m n ≡ true
        → have_one_length (string_length new target) (string_length new source) ≡ true
    both (Some m) (Some n) one two h = ap₂ have_one_length (string_longer longer target m one) (string_longer longer source n two) ∙ h
    both (Some m) None one two h = absurd cc
    both None n one two h = absurd cc

    by : (test : Bool) → (test || have_one_length (string_length old target) (string_length old source)) ≡ true
        → (test || have_one_length (string_length new target) (string_length new source)) ≡ true
    by true h = refl
    by false h = both (string_length old target) (string_length old source) refl refl h

-- a copy for a target may be copied to it
pub copy_formed : (block : ℕ) (now : Reached) (target : TypeId) (copy : Copy) (o : Outline) → IsFurther now (whole_of o)
    → is_structured now.types target ≡ true → IsCopyFor now.types target copy → may_copy o block target copy.source copy.cells ≡ true
copy_formed block now target copy o more structured fits =
    both_true _ _ (is_structured_longer more.types target structured)
    (both_true _ _ (ap (λ n. nat_eq n copy.cells) (cells_of_longer more.types target (structured_stands now.types target structured)) ∙ fits.0)
    (alike_longer more.types target copy.source copy.cells fits.1))
