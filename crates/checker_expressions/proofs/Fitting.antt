-- A value that passes the test for a type is one of it, where it is of its kind. A whole value that may be copied to a type: its values lie in the ranges
-- that are known, leaf by leaf of the type, and each is one of the type of its component.
use Rattle.std.proofs.Common.{arith, ◌≡◌, ⊎_elim, ◌∙◌, sym, ap, refl, subst, ℕ, zero, suc, ℤ, pos, true, ◌&&◌, ◌||◌, nat_eq, nat_le, nat_lt}
use Rattle.std.proofs.Common.{ap₂, length, List, [], ◌∷◌, Option, Some, None}
use Rattle.std.specs.Option.{option_and_then}
use Rattle.std.specs.Prelude.{option_map, slice_get}
use Rattle.std.specs.List.{All, list_all}
use Rattle.std.specs.Ordering.{int_eq}
use Rattle.std.specs.declared.alloc.Global.{Global}
use Rattle.std.specs.declared.vec.Vec.{Vec}
use Rattle.std.proofs.lemmas.Bool.{and_parts, eqb-true, false≢true, ltb-true, or_cases}
use Rattle.std.proofs.lemmas.Int.{ints}
use Rattle.std.proofs.lemmas.List.{length-map}
use Rattle.std.proofs.lemmas.List.Elements.{All-contains}
use Rattle.std.proofs.lemmas.Option.{cond_some, none-some, same_Some, slice_get_within}
use Rattle.types.specs.Components.{components_of}
use Rattle.types.specs.Forms.{Array, Char, Form}
use Rattle.types.specs.Types.{BeginWithRequired, cells_of, form_at, form_kind, have_one_length, is_same, is_structured, is_structured_kind, most_cells}
use Rattle.types.specs.Types.{before, char, element_in, element_of, field_at, fields_in, kind_of, own_field, scalar_range, scalar_range_of, string_in}
use Rattle.types.specs.Types.{string_length}
use Rattle.types.specs.declared.form.ArrayElement.{ArrayElement}
use Rattle.types.specs.declared.form.TypeKind.{TypeKind}
use Rattle.types.specs.declared.form.TypeKind.TheVariants as kind
use Rattle.types.specs.declared.form.OrdinalRange.{OrdinalRange}
use Rattle.types.specs.declared.form.Step.{Step}
use Rattle.types.specs.declared.form.Step.TheVariants as step
use Rattle.types.specs.declared.form.TypeId.{TypeId}
use Rattle.types.proofs.Laid.{length_components}
use Rattle.types.proofs.Strings.{string_type}
use Rattle.typed_tree.specs.Accesses.{are_values_of, origin_of}
use Rattle.typed_tree.specs.WellFormed.{Outline, is_alike, is_character, is_test_of, is_value_of, is_well_formed_whole, leads_to_whole, length_of}
use Rattle.typed_tree.specs.WellFormed.{may_copy, source_of, tests_type}
use Rattle.typed_tree.specs.declared.tree.RangeTest.{RangeTest}
use Rattle.typed_tree.specs.declared.tree.Scalar.{Scalar}
use Rattle.typed_tree.specs.declared.tree.Scalar.TheVariants as scalar
use Rattle.typed_tree.specs.declared.tree.Whole.{Whole}
use Rattle.typed_tree.specs.declared.tree.Whole.TheVariants.{Text, Variable as VariableOf}
use Rattle.domain.specs.Interval.{Interval}
use Rattle.meaning.specs.declared.value.Value.{Value}
use Rattle.meaning.specs.declared.value.Value.TheVariants.{Number}
use Rattle.meaning.specs.Effect.{is_in}
use Rattle.meaning.specs.Integers.{is_within}
use Rattle.meaning.specs.Kinds.{IsOf, IsOfKind}
use Rattle.checker_state.specs.Holds.{IsIn}
use Rattle.checker_rows.specs.Limits.{limits_of}
use Rattle.checker_state.proofs.Ranged.{is_in-limits}
use Rattle.checker_rows.specs.Leaves.{Leaf, leaves_of}
use Rattle.checker_rows.proofs.Alike.{NamesAlike, one-length, string-leaf, strings-alike}
use Rattle.checker_rows.proofs.Components.{Has, each-named, mapped-at, only}
use Rattle.checker_rows.proofs.Numbered.{has-contains, some-at}
use Rattle.checker_loops.proofs.AliasedStores.{all-pass}
use Rattle.checker_calls.specs.Environments.{LiesIn, element_behind, field_behind, type_led}
use Rattle.checker_calls.proofs.ComponentTypes.{component-typed}
use Rattle.checker_calls.proofs.PlaceTypes.{first-led}
use Rattle.checker_calls.proofs.Passed.{AreComponentsOf}
use Rattle.checker_expressions.specs.Walk.{text_range}
use Rattle.checker_expressions.proofs.SoundRows.{IsWhole, LieIn, characters_of}

-- a test has the range of a type, and its value is of the kind of that
module _ (types : List Form) (id : TypeId) (v : Value) where
  same-range : (tested own : OrdinalRange) → are_values_of tested own ≡ true → tested ≡ own
  same-range tested own same =
      let ends = and_parts (int_eq tested.first own.first) (int_eq tested.last own.last) same in
      let first : tested.first ≡ own.first = grind (arith, ints, ends.0) in
      let last : tested.last ≡ own.last = grind (arith, ints, ends.1) in
      ap₂ (λ (a b : ℤ). record { first = a; last = b }) first last

  lies-of_kind : (range own : OrdinalRange) (found : TypeKind) → kind_of types id ≡ Some found → scalar_range found ≡ Some own → IsOfKind (Some found) v
      → are_values_of range own ≡ true → is_in range v ≡ true → LiesIn types id v
  lies-of_kind range own found is own_is of_kind same passes = (
    own,
    ap (option_and_then scalar_range) is ∙ own_is,
    subst (λ (r : OrdinalRange). IsIn (limits_of r) v) (same-range range own same) (is_in-limits range v passes),
    subst (λ (k : Option TypeKind). IsOfKind k v) (sym is) of_kind,
  )

  lies-by : (tested : Scalar) (range : OrdinalRange) (found : Option TypeKind) → kind_of types id ≡ found → is_test_of tested range found ≡ true
      → is_in range v ≡ true → IsOf tested v → LiesIn types id v
  lies-by scalar.Ordinal range (Some (kind.Ordinal own)) is same passes of_kind = lies-of_kind range own (kind.Ordinal own) is refl of_kind same passes
  lies-by scalar.Set range (Some (kind.Set base members)) is same passes of_kind =
      lies-of_kind range members (kind.Set base members) is refl of_kind same passes
  lies-by scalar.Ordinal range None is same passes of_kind = absurd (false≢true same)
  lies-by scalar.Ordinal range (Some (kind.Set base members)) is same passes of_kind = absurd (false≢true same)
  lies-by scalar.Ordinal range (Some kind.Structured) is same passes of_kind = absurd (false≢true same)
  lies-by scalar.Set range None is same passes of_kind = absurd (false≢true same)
  lies-by scalar.Set range (Some (kind.Ordinal own)) is same passes of_kind = absurd (false≢true same)
  lies-by scalar.Set range (Some kind.Structured) is same passes of_kind = absurd (false≢true same)

  -- a value that passes a test for a type is one of it
  pub passed-lies : (fits : RangeTest) → tests_type types fits id ≡ true → is_in fits.range v ≡ true → IsOf fits.tests v → LiesIn types id v
  passed-lies fits same passes of_kind = lies-by fits.tests fits.range (kind_of types id) refl same passes of_kind

-- in the range of all
all-lie : (types : List Form) (target : TypeId) (range : Interval) (values : List Value) → All (IsIn range) values
    → LieIn types target (range ∷ []) values
all-lie types target range values all k zero rest leaf v own of_type of_leaf named at ranged =
    subst (λ (r : Interval). IsIn r v) (same_Some range own ranged) (All-contains (IsIn range) values v all (has-contains values v (k, at)))
all-lie types target range values all k (suc j) rest leaf v own of_type of_leaf named at ranged = absurd (none-some own ranged)

-- those of a type whose leaves name alike
alike-lie : (types : List Form) (target source : TypeId) (ranges : List Interval) (values : List Value) → NamesAlike types target source
    → length (components_of types target) ≡ length (components_of types source) → LieIn types source ranges values
    → LieIn types target ranges values
alike-lie types target source ranges values alike many lie k j rest leaf v own of_type of_leaf named at ranged =
    let within = slice_get_within (components_of types target) k rest of_type in
    let other = some-at (components_of types source) k (omega (arith, within, many)) in
    let there = alike k j rest other.0 leaf of_type other.1 of_leaf named in
    lie k j other.0 there.0 v own other.1 there.1 there.2 at ranged

string-structured : (types : List Form) (n : ℕ) (form : Option Form) → string_in types form ≡ Some n → is_structured_kind (option_map form_kind form) ≡ true
string-structured types n (Some (Array packed index element)) is = refl
string-structured types n form is = absurd (none-some n is)

pub same-type : (a b : TypeId) → is_same a b ≡ true → a ≡ b
same-type a b is = ap (λ (n : ℕ). record { index = n }) (eqb-true a.index b.index is)

-- a whole value has as many values as it has components
pub many-values : (outline : Outline) (block : ℕ) (target : TypeId) (value : Whole) (indexes : ℕ) (ranges : List Interval) (values : List Value)
    → is_well_formed_whole outline block value indexes ≡ true → nat_eq (cells_of outline.types target) (length_of value) ≡ true
    → IsWhole outline.types value ranges values → length (components_of outline.types target) ≡ length values
many-values outline block target (Text number text) indexes ranges values well may whole =
    length_components outline.types target ∙ eqb-true (cells_of outline.types target) (length text.items) may
    ∙ sym (length-map text.items (λ (c : ℕ). Number (pos c))) ∙ ap length (sym whole.told.0)
many-values outline block target (VariableOf access type_id cells defined) indexes ranges values well may whole =
    let leads = leads_to_whole outline block type_id (origin_of access) access.selectors.items indexes in
    let sized = is_value_of outline block type_id cells in
    let parts = and_parts leads (sized && nat_lt defined outline.sites) well in
    let both = and_parts sized (nat_lt defined outline.sites) parts.1 in
    let own = and_parts (nat_eq cells (cells_of outline.types type_id)) (nat_le cells most_cells) both.0 in
    length_components outline.types target ∙ eqb-true (cells_of outline.types target) cells may
    ∙ eqb-true cells (cells_of outline.types type_id) own.0 ∙ sym (length_components outline.types type_id) ∙ sym whole.told.0.count

-- ---- strings

-- the values of type char
abbrev chars : OrdinalRange
chars = record { first = pos 0; last = pos 127 }

-- values of that type
abbrev AreChars : List Value → Type 0
AreChars values = (k : ℕ) (v : Value) → slice_get values k ≡ Some v → IsIn (limits_of chars) v × IsOf scalar.Ordinal v

text-chars : (characters : List ℕ) → list_all is_character characters ≡ true → AreChars (characters_of characters)
text-chars characters all k v at =
    let found = mapped-at (λ (c : ℕ). Number (pos c)) characters k v at in
    let small = ltb-true found.0 128 (all-pass is_character characters found.0 (has-contains characters found.0 (k, found.1)) all) in
    subst (λ (own : Value). IsIn (limits_of chars) own × IsOf scalar.Ordinal own) found.2 ((omega (arith, ints), omega (arith, ints, small)), tt)

-- what is structured has no values of its own
structured-none : (found : Option TypeKind) (range : OrdinalRange) → is_structured_kind found ≡ true → option_and_then scalar_range found ≡ Some range → ⊥
structured-none None range structured is = false≢true structured
structured-none (Some (kind.Ordinal own)) range structured is = false≢true structured
structured-none (Some (kind.Set base members)) range structured is = false≢true structured
structured-none (Some kind.Structured) range structured is = none-some range is

module _ (types : List Form) (required : BeginWithRequired types) where
  char-form : form_at types char ≡ Some Char
  char-form = ap (λ (table : List Form). form_at table char) required.1

  char-kind : kind_of types char ≡ Some (kind.Ordinal chars)
  char-kind = ap (option_map form_kind) char-form

  char-values : scalar_range_of types char ≡ Some chars
  char-values = ap (option_and_then scalar_range) char-kind

  -- no step leads from a char
  char-end : (steps : List Step) (own : TypeId) → type_led types steps char ≡ Some own → own ≡ char
  char-end [] own leads = sym (same_Some char own leads)
  char-end (step.Element index ∷ steps) own leads =
      let first = first-led types (step.Element index) steps char own leads in
      absurd (none-some first.0 (sym (ap (λ (f : Option Form). element_behind index (element_in types (before types char) char f)) char-form) ∙ first.1))
  char-end (step.Field position ∷ steps) own leads =
      let first = first-led types (step.Field position) steps char own leads in
      absurd (none-some first.0
      (sym (ap (λ (f : Option Form). field_behind (own_field char (slice_get (fields_in (before types char) f) position))) char-form) ∙ first.1))

  -- a step from a string leads to a char
  string-element : (id : TypeId) (many : ℕ) → string_length types id ≡ Some many → (index : ℤ) (next : TypeId) (found : Option ArrayElement)
      → element_of types id ≡ found → element_behind index found ≡ Some next → next ≡ char
  string-element id many string index next None is leads = absurd (none-some next leads)
  string-element id many string index next (Some element) is leads =
      sym (cond_some (is_within element.range.first element.range.last index) element.type_id next leads).1 ∙ string_type types id element many is string

  string-field : (id : TypeId) (many position : ℕ) (next : TypeId) (form : Option Form) → form_at types id ≡ form → string_in types form ≡ Some many
      → field_behind (field_at types id position) ≡ Some next → next ≡ char
  string-field id many position next (Some (Array packed index element)) is string leads =
      absurd (none-some next
      (sym (ap (λ (f : Option Form). field_behind (own_field id (slice_get (fields_in (before types id) f) position))) is) ∙ leads))
  string-field id many position next form is string leads = absurd (none-some many string)

  string-char : (id : TypeId) (many : ℕ) → string_length types id ≡ Some many → (rest : List Step) (own : TypeId) → scalar_range_of types own ≡ Some chars
      → type_led types rest id ≡ Some own → own ≡ char
  string-char id many string [] own values leads =
      absurd (structured-none (kind_of types id) chars (string-structured types many (form_at types id) string)
      (ap (scalar_range_of types) (same_Some id own leads) ∙ values))
  string-char id many string (step.Element index ∷ steps) own values leads =
      let first = first-led types (step.Element index) steps id own leads in
      let next = string-element id many string index first.0 (element_of types id) refl first.1 in
      char-end steps own (subst (λ (t : TypeId). type_led types steps t ≡ Some own) next first.2)
  string-char id many string (step.Field position ∷ steps) own values leads =
      let first = first-led types (step.Field position) steps id own leads in
      let next = string-field id many position first.0 (form_at types id) refl string first.1 in
      char-end steps own (subst (λ (t : TypeId). type_led types steps t ≡ Some own) next first.2)

  -- a component of a string is of type char
  string-component : (id : TypeId) (many : ℕ) → string_length types id ≡ Some many → (k : ℕ) (rest : List Step)
      → slice_get (components_of types id) k ≡ Some rest → type_led types rest id ≡ Some char
  string-component id many string k rest at =
      let leaf = string-leaf types required id many string in
      let named = each-named types id rest (k, at) in
      let same = only leaf.0 named.0 (subst (λ (all : List Leaf). Has all named.0) leaf.1 named.1) in
      let own = component-typed types rest id named.0 chars (k, at) named.1 named.2 (ap (λ (l : Leaf). l.values) (sym same) ∙ leaf.2) in
      own.1 ∙ ap Some (string-char id many string rest own.0 own.2 own.1)

  -- so chars are values of its components, and these are chars
  chars-components : (id : TypeId) (many : ℕ) → string_length types id ≡ Some many → (values : List Value) → length values ≡ length (components_of types id)
      → AreChars values → AreComponentsOf types id values
  chars-components id many string values count are = record {
    count = count;
    each = λ k rest v rest_at v_at.
        let own = are k v v_at in (
          char,
          string-component id many string k rest rest_at,
          (chars, char-values, own.0, subst (λ (found : Option TypeKind). IsOfKind found v) (sym char-kind) own.1),
        );
  }

  components-chars : (id : TypeId) (many : ℕ) → string_length types id ≡ Some many → (values : List Value) → AreComponentsOf types id values
      → AreChars values
  components-chars id many string values are k v at =
      let within = slice_get_within values k v at in
      let rest = some-at (components_of types id) k (let count = are.count in omega (arith, within, count)) in
      let lies = are.each k rest.0 v rest.1 at in
      let same : lies.0 ≡ char = same_Some lies.0 char (sym lies.1 ∙ string-component id many string k rest.0 rest.1) in
      let own : LiesIn types char v = subst (λ (t : TypeId). LiesIn types t v) same lies.2 in
      let range : own.0 ≡ chars = same_Some own.0 chars (sym own.1 ∙ char-values) in (
        subst (λ (r : OrdinalRange). IsIn (limits_of r) v) range own.2,
        subst (λ (found : Option TypeKind). IsOfKind found v) char-kind own.3,
      )

-- ---- copies

-- the values of a copy for a type lie in the ranges that are known, and each is one of the type of its component
pub record IsCopyFor (types : List Form) (target : TypeId) (ranges : List Interval) (values : List Value) : Type 0 where
  pub structured : is_structured types target ≡ true
  pub many : length ranges ≡ length (leaves_of types target)
  pub lie : LieIn types target ranges values
  pub components : AreComponentsOf types target values

module _ (outline : Outline) (block : ℕ) (required : BeginWithRequired outline.types) (target : TypeId) (indexes : ℕ) (ranges : List Interval)
    (values : List Value) where
  abbrev types : List Form
  types = outline.types

  text-copied : (number : ℕ) (text : Vec ℕ Global) → is_well_formed_whole outline block (Text number text) indexes ≡ true → is_structured types target ≡ true
      → length (components_of types target) ≡ length values → is_alike types target None (length text.items) ≡ true
      → IsWhole types (Text number text) ranges values → IsCopyFor types target ranges values
  text-copied number text well structured count alike whole =
      let string = one-length (string_length types target) (Some (length text.items)) alike in
      let parts = and_parts (nat_le (length text.items) 65536) (list_all is_character text.items) well in
      record {
        structured = structured;
        many = ap length whole.told.1 ∙ sym (ap length (string-leaf types required target string.0 string.2).1);
        lie = subst (λ (own : List Interval). LieIn types target own values) (sym whole.told.1)
            (all-lie types target (text_range text.items) values whole.told.2);
        components = chars-components types required target string.0 string.2 values (sym count)
            (subst AreChars (sym whole.told.0) (text-chars text.items parts.1));
      }

  value-copied : (source : TypeId) → is_structured types target ≡ true → length (components_of types target) ≡ length values
      → (is_same target source || have_one_length (string_length types target) (string_length types source)) ≡ true → AreComponentsOf types source values
      → (is_structured types source ≡ true → length ranges ≡ length (leaves_of types source)) → LieIn types source ranges values
      → IsCopyFor types target ranges values
  value-copied source structured count alike are many lie =
      let lengths = have_one_length (string_length types target) (string_length types source) in
      ⊎_elim
      (λ is.
      let same = same-type target source is in
      let own = subst (λ (id : TypeId). is_structured types id ≡ true) same structured in
      subst (λ (id : TypeId). IsCopyFor types id ranges values) (sym same)
      (record { structured = own; many = many own; lie = lie; components = are }))
      (λ strings.
      let both = one-length (string_length types target) (string_length types source) strings in
      record {
        structured = structured;
        many = many (string-structured types both.1 (form_at types source) both.3) ∙ ap length (string-leaf types required source both.1 both.3).1
            ∙ sym (ap length (string-leaf types required target both.0 both.2).1);
        lie = alike-lie types target source ranges values (strings-alike types required target source both.0 both.1 both.2 both.3) (count ∙ are.count) lie;
        components = chars-components types required target both.0 both.2 values (sym count)
            (components-chars types required source both.1 both.3 values are);
      })
      (or_cases (is_same target source) lengths alike)

  -- what may be copied to a type is a copy for it
  pub copy-for : (value : Whole) → is_well_formed_whole outline block value indexes ≡ true
      → may_copy outline block target (source_of value) (length_of value) ≡ true → IsWhole types value ranges values → IsCopyFor types target ranges values
  copy-for value well may whole =
      let sized = nat_eq (cells_of types target) (length_of value) in
      let alike = is_alike types target (source_of value) (length_of value) in
      let one = and_parts (is_structured types target) (sized && alike) may in
      let two = and_parts sized alike one.1 in
      by value well one.0 (many-values outline block target value indexes ranges values well two.0 whole) two.1 whole
    where
      by : (value : Whole) → is_well_formed_whole outline block value indexes ≡ true → is_structured types target ≡ true
          → length (components_of types target) ≡ length values → is_alike types target (source_of value) (length_of value) ≡ true
          → IsWhole types value ranges values → IsCopyFor types target ranges values
      by (Text number text) well structured count alike whole = text-copied number text well structured count alike whole
      by (VariableOf access source cells defined) well structured count alike whole =
          value-copied source structured count alike whole.told.0 whole.told.1 whole.told.2
