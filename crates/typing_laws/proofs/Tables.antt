-- Tables of types as a program makes them, each longer than the one before, and texts that are characters.
use Rattle.std.proofs.Common.{◌≡◌, ℕ, zero, suc, ◌<◌, ◌≤◌, Bool, true, false, if◌then◌else◌, nat_lt, List, [], ◌∷◌, ◌++◌, length, sum_by, Some, None, Ok, Err}
use Rattle.std.proofs.Common.{ok_or, slice_get, get_or, refl, sym, ap, subst, ◌∙◌, arith, length-append, append_assoc, Option, is_some, option_map}
use Rattle.std.specs.Option.{option_and_then}
use Rattle.std.proofs.lemmas.Bool.Decides.{nat_tests}
use Rattle.std.proofs.lemmas.List.Sums.{sum_by-cons}
use Rattle.std.proofs.lemmas.Option.{slice_get-get_or, slice_get_within}
use Rattle.types.specs.Forms.{Form, Integer}
use Rattle.types.specs.declared.form.TypeId.{TypeId}
use Rattle.types.specs.declared.form.TypeKind.{TypeKind}
use Rattle.types.specs.declared.form.ArrayElement.{ArrayElement}
use Rattle.types.specs.declared.form.RecordField.{RecordField}
use Rattle.types.specs.declared.form.TypeKind.TheVariants as kind
use Rattle.types.specs.declared.refusal.TypeRefusal.TheVariants.{TooManyCells, FirstAboveLast, MembersOutOfRange}
use Rattle.types.specs.Types.{BeginWithRequired, Counted, admitted_cells, cells_of, char, counted, element_of, entry_cells, few, field_at, form_cells}
use Rattle.types.specs.Types.{form_at, form_kind, form_range, has_outside_members, is_ordinal, is_string, is_structured, is_structured_kind, is_turned}
use Rattle.types.specs.Types.{kind_of, kind_range, most_cells, required_forms, scalar_range, string_in, string_length}
use Rattle.types.proofs.Built.{AreBuilt, IsOver, built_more, required_built, string_elements}
use Rattle.types.proofs.Counts.{counted_more, one_cell}
use Rattle.types.proofs.Elements.{is_array}
use Rattle.types.proofs.Fields.{is_field}
use Rattle.types.proofs.Longer.{cells_longer, element_longer, field_at_longer, form_longer, ordinal_longer, string_stays}
use Rattle.types.proofs.Strings.{indexes, string_cells}
use Rattle.typed_tree.specs.declared.tree.PathStep.{PathStep}
use Rattle.typed_tree.specs.declared.tree.PathStep.TheVariants as path
use Rattle.typed_tree.specs.declared.tree.Scalar.{Scalar}
use Rattle.typed_tree.specs.declared.tree.Scalar.TheVariants as scalar
use Rattle.typed_tree.specs.declared.tree.Variable.{Variable}
use Rattle.typed_tree.specs.Accesses.{lying, stepped}
use Rattle.typed_tree.specs.WellFormed.{are_characters, holds, is_held_by}
use Rattle.typing_laws.proofs.Reached.{IsLonger}
use Rattle.typing_laws.proofs.WholeRanges.{HaveWholeRanges, IfWhole, form_values, required_have, whole_more}

-- ---- the kinds of types

-- what is structured stands in the table
pub structured_stands : (types : List Form) (id : TypeId) → is_structured types id ≡ true → id.index < length types
structured_stands types id is = by (form_at types id) refl is
  where
    by : (form : Option Form) → form_at types id ≡ form → is_structured_kind (option_map form_kind form) ≡ true → id.index < length types
    by None found h = absurd cc
    by (Some form) found h = slice_get_within types id.index form found

-- what stands there has a kind
pub has_kind : (types : List Form) (id : TypeId) → id.index < length types → kind_of types id ≡ None → ⊥
has_kind types id stands = by (form_at types id) refl
  where
    by : (form : Option Form) → form_at types id ≡ form → option_map form_kind form ≡ None → ⊥
    by None found h = let known = slice_get-get_or types id.index Integer stands in absurd cc
    by (Some form) found h = absurd cc

-- a variable of an ordinal type holds an ordinal
pub ordinal_held : (types : List Form) (id : TypeId) → is_ordinal types id ≡ true → holds types scalar.Ordinal id ≡ true
ordinal_held types id is = by (form_at types id) is
  where
    of_kind : (found : TypeKind) → is_some (kind_range found) ≡ true → is_held_by scalar.Ordinal (Some found) ≡ true
    of_kind (kind.Ordinal range) h = refl
    of_kind (kind.Set base members) h = absurd cc
    of_kind kind.Structured h = absurd cc

    by : (form : Option Form) → is_some (option_and_then form_range form) ≡ true → is_held_by scalar.Ordinal (option_map form_kind form) ≡ true
    by None h = absurd cc
    by (Some form) h = of_kind (form_kind form) h

-- what a variable holds is a scalar, of a type that stands in the table
pub held_scalar : (held : Scalar) (found : Option TypeKind) → is_held_by held found ≡ true → is_some (option_and_then scalar_range found) ≡ true
held_scalar scalar.Ordinal (Some (kind.Ordinal range)) is = refl
held_scalar scalar.Set (Some (kind.Set base members)) is = refl
held_scalar scalar.Ordinal (Some (kind.Set base members)) is = absurd cc
held_scalar scalar.Ordinal (Some kind.Structured) is = absurd cc
held_scalar scalar.Ordinal None is = absurd cc
held_scalar scalar.Set (Some (kind.Ordinal range)) is = absurd cc
held_scalar scalar.Set (Some kind.Structured) is = absurd cc
held_scalar scalar.Set None is = absurd cc

-- ---- ways in values

-- a step leads to a type before
stepped_before : (types : List Form) (step : PathStep) (id part : TypeId) → stepped types step id ≡ Some part → part.index < id.index
stepped_before types path.Element id part is = by (element_of types id) refl is
  where
    by : (found : Option ArrayElement) → element_of types id ≡ found → option_map (λ (e : ArrayElement). e.type_id) found ≡ Some part
        → part.index < id.index
    by None found h = absurd cc
    by (Some e) found h = let same : e.type_id ≡ part = cc in subst (λ (z : TypeId). z.index < id.index) same (is_array types id e found).type_before
stepped_before types (path.Field position) id part is = by (field_at types id position) refl is
  where
    by : (found : Option RecordField) → field_at types id position ≡ found → option_map (λ (f : RecordField). f.type_id) found ≡ Some part
        → part.index < id.index
    by None found h = absurd cc
    by (Some f) found h = let same : f.type_id ≡ part = cc in subst (λ (z : TypeId). z.index < id.index) same (is_field types id position f found).type_before

pub lying_stands : (types : List Form) (steps : List PathStep) (id part : TypeId) → id.index < length types → lying types steps id ≡ Some part
    → part.index < length types
lying_stands types [] id part stands is = let same : id ≡ part = cc in subst (λ (z : TypeId). z.index < length types) same stands
lying_stands types (step ∷ steps) id part stands is = by (stepped types step id) refl is (λ next. lying_stands types steps next part)
  where
    by : (found : Option TypeId) → stepped types step id ≡ found → option_and_then (lying types steps) found ≡ Some part
        → ((next : TypeId) → next.index < length types → lying types steps next ≡ Some part → part.index < length types) → part.index < length types
    by None there h more = absurd cc
    by (Some next) there h more = more next (omega (arith, stands, stepped_before types step id next there)) h

-- ---- longer tables

-- a string stands in the table
string_stands : (types : List Form) (id : TypeId) (n : ℕ) → string_length types id ≡ Some n → id.index < length types
string_stands types id n is = by (form_at types id) refl is
  where
    by : (form : Option Form) → form_at types id ≡ form → string_in types form ≡ Some n → id.index < length types
    by None found h = absurd cc
    by (Some form) found h = slice_get_within types id.index form found

module _ {old new : List Form} (longer : IsLonger old new) where
  pub begin_longer : BeginWithRequired old → BeginWithRequired new
  begin_longer begin = (begin.0 ++ longer.more, longer.goes_on ∙ ap (λ types. types ++ longer.more) begin.1 ∙ append_assoc required_forms begin.0 longer.more)

  module _ (id : TypeId) (there : id.index < length old) where
    -- a type of the first stands in the second, and is the same there
    pub stands_longer : id.index < length new
    stands_longer = omega (arith, there, ap length longer.goes_on, length-append old longer.more)

    pub is_ordinal_longer : is_ordinal new id ≡ is_ordinal old id
    is_ordinal_longer = ap (λ types. is_ordinal types id) longer.goes_on ∙ ordinal_longer old longer.more id there

    pub kind_longer : kind_of new id ≡ kind_of old id
    kind_longer = ap (λ types. kind_of types id) longer.goes_on ∙ ap (option_map form_kind) (form_longer old longer.more id there)

    pub form_at_longer : form_at new id ≡ form_at old id
    form_at_longer = ap (λ types. form_at types id) longer.goes_on ∙ form_longer old longer.more id there

    pub cells_of_longer : cells_of new id ≡ cells_of old id
    cells_of_longer = ap (λ types. cells_of types id) longer.goes_on ∙ cells_longer old longer.more id there

    pub element_of_longer : element_of new id ≡ element_of old id
    element_of_longer = ap (λ types. element_of types id) longer.goes_on ∙ element_longer old longer.more id there

    pub field_of_longer : (position : ℕ) → field_at new id position ≡ field_at old id position
    field_of_longer position = ap (λ types. field_at types id position) longer.goes_on ∙ field_at_longer old longer.more id there position

  -- what lies on a way is of the same type
  pub lying_longer : (steps : List PathStep) (id : TypeId) → id.index < length old → lying new steps id ≡ lying old steps id
  lying_longer [] id there = refl
  lying_longer (step ∷ steps) id there = ap (option_and_then (lying new steps)) (one step) ∙ by (stepped old step id) refl (lying_longer steps)
    where
      one : (s : PathStep) → stepped new s id ≡ stepped old s id
      one path.Element = ap (option_map (λ (e : ArrayElement). e.type_id)) (element_of_longer id there)
      one (path.Field position) = ap (option_map (λ (f : RecordField). f.type_id)) (field_of_longer id there position)

      by : (found : Option TypeId) → stepped old step id ≡ found
          → ((next : TypeId) → next.index < length old → lying new steps next ≡ lying old steps next)
          → option_and_then (lying new steps) found ≡ option_and_then (lying old steps) found
      by None h more = refl
      by (Some next) h more = more next (omega (arith, there, stepped_before old step id next h))

  -- what is structured is so there
  pub is_structured_longer : (id : TypeId) → is_structured old id ≡ true → is_structured new id ≡ true
  is_structured_longer id is =
      ap (λ types. is_structured types id) longer.goes_on
      ∙ ap (λ form. is_structured_kind (option_map form_kind form)) (form_longer old longer.more id (structured_stands old id is)) ∙ is

  -- a string is as long
  pub string_longer : (id : TypeId) (n : ℕ) → string_length old id ≡ Some n → string_length new id ≡ Some n
  string_longer id n is =
      ap (λ types. string_length types id) longer.goes_on ∙ string_stays old longer.more id (string_stands old id n is) n is

  pub is_string_longer : (id : TypeId) → is_string old id ≡ true → is_string new id ≡ true
  is_string_longer id is = by (string_length old id) refl is
    where
      by : (n : Option ℕ) → string_length old id ≡ n → is_some n ≡ true → is_string new id ≡ true
      by None found h = absurd cc
      by (Some n) found h = ap is_some (string_longer id n found)

-- ---- what the types of a program have

pub record AreLawful (types : List Form) : Type 0 where
  pub begin : BeginWithRequired types
  pub whole : HaveWholeRanges types
  pub built : AreBuilt types
  -- a variable of one takes no more cells than a type may
  pub few_cells : (id : TypeId) → cells_of types id ≤ most_cells

pub required_lawful : AreLawful required_forms
required_lawful = record {
  begin = ([], refl);
  whole = required_have;
  built = required_built;
  few_cells = λ id. omega (arith, one_cell id);
}

pub char_cell : (types : List Form) → BeginWithRequired types → cells_of types char ≡ 1
char_cell types begin = ap (λ t. cells_of t char) begin.1 ∙ cells_longer required_forms begin.0 char (omega arith) ∙ one_cell char

-- a string has as many cells as characters
pub string_has_cells : (types : List Form) → AreLawful types → (id : TypeId) (n : ℕ) → string_length types id ≡ Some n → cells_of types id ≡ n
string_has_cells types are id n string =
    let elements = string_elements types are.built id n string in
    let chars = ap (λ t. is_ordinal t char) are.begin.1 ∙ ordinal_longer required_forms are.begin.0 char (omega arith) in
    string_cells types id (record { index = elements.0; range = indexes n; type_id = char; cells = cells_of types char }) n elements.1 string chars

pub required_stand : (types : List Form) → BeginWithRequired types → 2 < length types
required_stand types begin = omega (arith, ap length begin.1, length-append required_forms begin.0)

-- what is admitted takes few cells
pub few_is : (m cells : ℕ) → ok_or (few m) TooManyCells ≡ Ok cells → m ≤ most_cells
few_is m cells is = by (nat_lt most_cells m) refl is
  where
    by : (test : Bool) → nat_lt most_cells m ≡ test → ok_or (if test then None else Some m) TooManyCells ≡ Ok cells → m ≤ most_cells
    by true h e = absurd cc
    by false h e = grind (arith, nat_tests)

pub admitted_few : (types : List Form) (form : Form) (cells : ℕ) → admitted_cells types form ≡ Ok cells → form_cells (counted types) form ≤ most_cells
admitted_few types form cells is = by (is_turned form) (has_outside_members form) is
  where
    by : (test outside : Bool)
        → (if test then Err FirstAboveLast
        else if outside then Err MembersOutOfRange else ok_or (few (form_cells (counted types) form)) TooManyCells) ≡ Ok cells
        → form_cells (counted types) form ≤ most_cells
    by true outside h = absurd cc
    by false true h = absurd cc
    by false false h = few_is (form_cells (counted types) form) cells h

each_few : (entries : List Counted) (entry : Counted) → ((k : ℕ) → entry_cells (slice_get entries k) ≤ most_cells) → entry.cells ≤ most_cells
    → (n : ℕ) → entry_cells (slice_get (entries ++ entry ∷ []) n) ≤ most_cells
each_few [] entry all one zero = one
each_few [] entry all one (suc n) = omega arith
each_few (first ∷ entries) entry all one zero = all zero
each_few (first ∷ entries) entry all one (suc n) = each_few entries entry (λ k. all (suc k)) one n

-- a type more, which is admitted
pub lawful_more : (types : List Form) (form : Form) (cells : ℕ) → AreLawful types → IfWhole (form_values form) → IsOver (length types) form
    → admitted_cells types form ≡ Ok cells → AreLawful (types ++ form ∷ [])
lawful_more types form cells are whole over admits =
    let entry : Counted = record { form = form; cells = form_cells (counted types) form } in
    record {
      begin = begin_longer (record { more = form ∷ []; goes_on = refl }) are.begin;
      whole = whole_more types form are.whole whole;
      built = built_more types form are.built over;
      few_cells = λ id.
          subst (λ entries. entry_cells (slice_get entries id.index) ≤ most_cells) (sym (counted_more types form))
          (each_few (counted types) entry (λ k. are.few_cells (record { index = k })) (admitted_few types form cells admits) id.index);
    }

-- ---- the types of variables

-- they stand in the table
abbrev pub HaveTypes : List Form → List Variable → Type 0
HaveTypes types [] = Unit {0}
HaveTypes types (variable ∷ variables) = (variable.type_id.index < length types) × HaveTypes types variables

-- the cells that they take together
abbrev pub cells_in : List Form → List Variable → ℕ
cells_in types variables = sum_by (λ variable. cells_of types variable.type_id) variables

pub one_has_type : (types : List Form) (variables : List Variable) (variable : Variable) → HaveTypes types variables
    → variable.type_id.index < length types → HaveTypes types (variables ++ variable ∷ [])
one_has_type types [] variable all one = (one, tt)
one_has_type types (first ∷ variables) variable all one = (all.0, one_has_type types variables variable all.1 one)

module _ {old new : List Form} (longer : IsLonger old new) where
  pub have_types_longer : (variables : List Variable) → HaveTypes old variables → HaveTypes new variables
  have_types_longer [] all = tt
  have_types_longer (variable ∷ variables) all = (stands_longer longer variable.type_id all.0, have_types_longer variables all.1)

  pub cells_in_longer : (variables : List Variable) → HaveTypes old variables → cells_in new variables ≡ cells_in old variables
  cells_in_longer [] all = refl
  cells_in_longer (variable ∷ variables) all =
      let new_cells = sum_by-cons (λ (v : Variable). cells_of new v.type_id) variable variables in
      let old_cells = sum_by-cons (λ (v : Variable). cells_of old v.type_id) variable variables in
      omega (arith, new_cells, old_cells, cells_of_longer longer variable.type_id all.0, cells_in_longer variables all.1)

-- ---- texts

-- each is the characters of a string
abbrev pub AreTexts : List (List ℕ) → Type 0
AreTexts texts = (number : ℕ) → are_characters (get_or texts number []) ≡ true

pub no_texts : AreTexts []
no_texts number = refl

-- one text more
pub texts_more : (texts : List (List ℕ)) (characters : List ℕ) → AreTexts texts → are_characters characters ≡ true → AreTexts (texts ++ characters ∷ [])
texts_more [] characters texts_are is zero = is
texts_more [] characters texts_are is (suc number) = refl
texts_more (text ∷ texts) characters texts_are is zero = texts_are zero
texts_more (text ∷ texts) characters texts_are is (suc number) = texts_more texts characters (λ k. texts_are (suc k)) is number
