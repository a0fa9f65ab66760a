-- What declarations do: they add no site and no entry, each name denotes what is sound, and the variables have room.
use Rattle.std.proofs.Common.{ℤ, pos, nat_le, map, Vec, ◌<◌, ◌≡◌, ℕ, ◌+◌, ◌-◌, ◌≤◌, ◌&&◌, Bool, true, false, nat_eq, nat_lt, if◌then◌else◌, List, [], ◌∷◌, ◌++◌}
use Rattle.std.proofs.Common.{length, option_map, Option, Some, None, Result, Ok, Err, length-append, refl, sym, ap, subst, ◌∙◌, arith, inl, inr, ◌⊎◌}
use Rattle.std.proofs.Common.{slice_get}
use Rattle.std.proofs.lemmas.Bool.{eq-eqb}
use Rattle.std.proofs.lemmas.Bool.Decides.{nat_tests}
use Rattle.std.specs.List.{list_all, list_any}
use Rattle.std.specs.declared.alloc.Global.{Global}
use Rattle.std.specs.Cmp.Lexicographic.{pointwise}
use Rattle.place.specs.declared.Place.{Place}
use Rattle.syntax_tree.specs.declared.Name.{Name}
use Rattle.syntax_tree.specs.declared.Constant.{Constant}
use Rattle.syntax_tree.specs.declared.ConstantDefinition.{ConstantDefinition}
use Rattle.syntax_tree.specs.declared.ConstantValue.{ConstantValue}
use Rattle.syntax_tree.specs.declared.ConstantValue.TheVariants as value
use Rattle.syntax_tree.specs.declared.TypeDefinition.{TypeDefinition}
use Rattle.syntax_tree.specs.declared.TypeDenoter.{TypeDenoter}
use Rattle.syntax_tree.specs.declared.TypeDenoter.TheOpen as layer
use Rattle.syntax_tree.specs.declared.TypeDenoter.TheViews.{roll-TypeDenoter}
use Rattle.syntax_tree.specs.declared.TypeDenoter.TheFolds.{map-TypeDenoter, fold-roll-TypeDenoter, ind-TypeDenoter}
use Rattle.syntax_tree.specs.Places.{fields_of}
use Rattle.syntax_tree.specs.declared.VariableGroup.{VariableGroup}
use Rattle.types.specs.Forms.{Form, FieldForm, Enumeration, Subrange, Array, Record, Set}
use Rattle.types.specs.declared.form.TypeId.{TypeId}
use Rattle.types.specs.declared.form.OrdinalRange.{OrdinalRange}
use Rattle.types.specs.Types.{char, cells_of, host_of, is_ordinal, is_same, is_string, most_cells, range_of}
use Rattle.types.proofs.Built.{IsOver}
use Rattle.scopes.specs.Scopes.{Region, said, put, is_defined, found, define, outer}
use Rattle.scopes.specs.declared.denotation.Denotation.{Denotation}
use Rattle.scopes.specs.declared.denotation.Denotation.TheVariants as denotes
use Rattle.scopes.specs.declared.denotation.File.{File}
use Rattle.scopes.specs.declared.denotation.File.TheVariants as file
use Rattle.scopes.specs.declared.fault.ScopeFault.{ScopeFault}
use Rattle.scopes.specs.declared.fault.ScopeFault.TheVariants as scope
use Rattle.scopes.specs.declared.fault.ScopeFault.TheVariants.{DeclaredTwice}
use Rattle.typed_tree.specs.declared.fault.TypeFault.TheVariants as fault
use Rattle.typed_tree.specs.declared.tree.Variable.{Variable}
use Rattle.typed_tree.specs.declared.tree.VariableKind.{VariableKind}
use Rattle.typed_tree.specs.declared.tree.VariableKind.TheVariants as variable
use Rattle.typed_tree.specs.WellFormed.{is_character, are_characters, is_local_kind, is_parameter_kind, is_result_kind, most_numbered, roots_where}
use Rattle.typing.specs.Names.{folded}
use Rattle.typing.specs.Passing.{Passed, After, Passing, after, behind_marks, by_types, pure, given, ◌>>=◌, ◌>>?◌}
use Rattle.typing_rules.specs.Checked.{Checked}
use Rattle.typing.specs.Steps.{value_of, pass, find, declare, add_type, keep_text, latest, give_file, next_root, enclosing_now}
use Rattle.typing_rules.specs.Checked.{fits, or_mismatch, told}
use Rattle.typing.specs.Steps.{reserve}
use Rattle.typing.specs.Strings.{string_characters, string_type, string_constant}
use Rattle.typing.specs.Constants.{as_ordinal, unsigned_constant, constant, ordinal_constant}
use Rattle.typing.specs.Denoters.{WrittenDenoter, named_type, type_of_name, constants_from, enumeration, between, subrange, index_type, index_types, arrays}
use Rattle.typing.specs.Denoters.{array, named_fields, grouped_fields, record_type, set_form, set_type, denoter_step, denoted_type}
use Rattle.typing.specs.Routines.{definition, type_definition, declared, local, group}
use Rattle.typing.specs.Typing.{declares_file, file_of, parameter_of_program}
use Rattle.typing_laws.proofs.WholeRanges.{HaveWholeRanges, IfWhole, form_values, ordinal_values}
use Rattle.typing_laws.proofs.Tables.{is_string_longer, lawful_more, stands_longer, texts_more}
use Rattle.typing_laws.proofs.Constants.{IsWhole, IsWholeOrdinal, number_whole, number_sound, constant_is, behind_sound, ordinal_whole}
use Rattle.typing_laws.proofs.Strings.{AreOfChar, IsStringOf, fit_is, all_of_char, no_characters, char_whole, there as is_there, type_added, string_type_is}
use Rattle.typing_laws.proofs.Grown.{both_true}
use Rattle.typing_laws.proofs.Owned.{cells_more, declares, parameters_of, results_of, roots_none_more, roots_one_more}
use Rattle.typing.proofs.Ways.{Nobody, One, Stay, Token, Typed, Text, Given, Define, Declare}
use Rattle.typing_laws.proofs.Went.{grows}
use Rattle.typing_laws.proofs.Reached.{IsLonger, as_long, one_longer, Head, Here, is_round_here, get_last, last_or_before}
use Rattle.typing_laws.proofs.Sound.{IsSound, IsVariable, found_holds, define_holds, inside_itself, regions_later}
use Rattle.typing_laws.proofs.Ready.{base_variable}
use Rattle.typing_laws.proofs.Keeping.{Ready, Keeps, Kept, ready_regions, ready_latest, ready_files, ready_types, keeps_then, always, each_keeps, keeps_checks}
use Rattle.typing_laws.proofs.Keeping.{pure_keeps, behind, before, aside}
use Rattle.typing_laws.proofs.Steps.{split, split_unless, below}

told_is : {A : Type 0} (place : Place) (r : Result A ScopeFault) (x : A) → told place r ≡ Ok x → r ≡ Ok x
told_is place (Ok a) x is = let same : a ≡ x = cc in ap Ok same
told_is place (Err why) x is = absurd cc

-- a definition leaves all regions but the innermost
define_under : (name : List ℕ) (denotation : Denotation) (regions new : List Region) → define name denotation regions ≡ Ok new → outer new ≡ outer regions
define_under name denotation [] new is = absurd cc
define_under name denotation (region ∷ under) new is = by (is_defined (said region name)) is
  where
    by : (test : Bool) → (if test then Err DeclaredTwice else Ok (put region name (Some denotation) ∷ under)) ≡ Ok new → outer new ≡ under
    by true h = absurd cc
    by false h = let same : put region name (Some denotation) ∷ under ≡ new = cc in ap outer (sym same)

at_most : (a b : ℕ) → nat_lt a b ≡ false → b ≤ a
at_most a b h = grind (arith, nat_tests)

pub named_is : (name : Name) (r : Result Denotation ScopeFault) (type_id : TypeId) → named_type name r ≡ Ok type_id
    → r ≡ Ok (denotes.TypeName type_id)
named_is name (Ok (denotes.TypeName id)) type_id is = cc
named_is name (Ok other) type_id is = absurd cc
named_is name (Err (scope.Memory _)) type_id is = absurd cc
named_is name (Err scope.DeclaredTwice) type_id is = absurd cc
named_is name (Err scope.UsedBeforeDeclared) type_id is = absurd cc
named_is name (Err scope.NotDeclared) type_id is = absurd cc

-- a form whose values are whole
abbrev IsWholeForm : Form → Type 0
IsWholeForm form = IfWhole (form_values form)

-- the same of a form that is made of no types
abbrev IsScalarForm : Form → Type 0
IsScalarForm form = IsWholeForm form × ((number : ℕ) → IsOver number form)

value_whole : (number : ℕ) (place : Place) (c : ℤ) → value_of number place ≡ Ok c → IsWhole c
value_whole number place c is =
    let fit = fit_is (nat_le number 2147483647) place (pos number) c is in
    subst IsWhole fit.1 (number_whole number fit.0)

between_whole : (types : List Form) (place : Place) (first last : Option (ℤ × TypeId)) (form : Form) → between types place first last ≡ Ok form
    → IsWholeOrdinal first → IsWholeOrdinal last → IsScalarForm form
between_whole types place (Some first) (Some last) form is low high =
    let host = host_of types first.1 in
    let fit = fit_is (is_same host (host_of types last.1) && is_ordinal types first.1) place (Subrange host first.0 last.0) form is in
    subst IsScalarForm fit.1 (both_true _ _ low high, λ number. tt)
between_whole types place (Some first) None form is low high = absurd cc
between_whole types place None last form is low high = absurd cc

-- the members of a set are whole, as the values of its base are
set_whole : (types : List Form) → HaveWholeRanges types → (packed : Bool) (base : TypeId) (form : Form) → set_form types packed base ≡ Some form
    → IsScalarForm form
set_whole types whole packed base form is = by (range_of types base) refl is
  where
    made : OrdinalRange → Form
    made range = Set packed (host_of types base) range.first range.last

    by : (found : Option OrdinalRange) → range_of types base ≡ found → option_map made found ≡ Some form → IsScalarForm form
    by None found h = absurd cc
    by (Some range) found h =
        let same : made range ≡ form = cc in
        subst IsScalarForm same (whole base range (ordinal_values types base range found), λ number. tt)

-- fields of the first so many types
abbrev AreFieldsOver : ℕ → List FieldForm → Type 0
AreFieldsOver number fields = (k : ℕ) (field : FieldForm) → slice_get fields k ≡ Some field → field.type_id.index < number

abbrev field_named : Name → TypeId → FieldForm
field_named name type_id = record { name = folded name.text.now; type_id = type_id }

-- so are those that are named
named_over : (number : ℕ) (fields : List FieldForm) (type_id : TypeId) (names : List Name) (more : List FieldForm) → type_id.index < number
    → AreFieldsOver number fields → named_fields fields type_id names ≡ Ok more → AreFieldsOver number more
named_over number fields type_id [] more stands over is = let same : fields ≡ more = cc in subst (AreFieldsOver number) same over
named_over number fields type_id (name ∷ names) more stands over is =
    by (list_any (λ (field : FieldForm). pointwise nat_eq field.name (folded name.text.now)) fields)
    (named_over number (fields ++ field_named name type_id ∷ []) type_id names more stands
    (λ k field there. one_over k field (last_or_before fields (field_named name type_id) k field there))) is
  where
    one_over : (k : ℕ) (field : FieldForm) → (slice_get fields k ≡ Some field) ⊎ ((k ≡ length fields) × (field_named name type_id ≡ field))
        → field.type_id.index < number
    one_over k field (inl before) = over k field before
    one_over k field (inr last) = subst (λ (f : FieldForm). f.type_id.index < number) last.1 stands

    by : (test : Bool) → (named_fields (fields ++ field_named name type_id ∷ []) type_id names ≡ Ok more → AreFieldsOver number more)
        → (if test then Err (fault.DeclaredTwice name.place) else named_fields (fields ++ field_named name type_id ∷ []) type_id names) ≡ Ok more
        → AreFieldsOver number more
    by true rest h = absurd cc
    by false rest h = rest h

module _ (here : Here) (under : List Region) (counted : ℕ) (heads : List Head) where
  abbrev pub IsReady : Passed → Type 0
  IsReady s = Ready here under counted heads s.variables s

  abbrev pub Readied : {A : Type 0} → A → Passed → Type 0
  Readied answer s = IsReady s

  -- ---- definitions

  -- a definition, where more variables may be denoted
  pub declare_keeps : (name : Name) (denotation : Denotation) (bound : Passed → List Variable)
      → ((s : Passed) (regions : List Region) → bound (record s { regions = regions }) ≡ bound s)
      → Keeps counted (λ s. Ready here under counted heads (bound s) s × IsSound here (bound s) s.types heads denotation) (declare name denotation)
      (λ _ s. Ready here under counted heads (bound s) s)
  unfolding declare
  declare_keeps name denotation bound same_bound = record {
    keeps = λ s a is from.
        let r = from.0 in
        let text = folded name.text.now in
        let x = split (told name.place (define text denotation s.regions)) (λ regions. Ok (after tt [] (record s { regions = regions }))) a is in
        let same : after tt [] (record s { regions = x.0 }) ≡ a = cc in
        let defined = told_is name.place (define text denotation s.regions) x.0 x.1 in
        let sound = define_holds (IsSound here (bound s) s.types heads) text denotation s.regions x.0 from.1 r.sound defined in
        let below = define_under text denotation s.regions x.0 defined ∙ r.under_it in
        subst (Kept counted s (λ _ n. Ready here under counted heads (bound n) n)) same (
          One (Define text denotation x.0 tt defined),
          subst (λ n. Ready here under counted heads n (record s { regions = x.0 })) (sym (same_bound s x.0)) (ready_regions x.0 sound below r),
        );
  }

  -- it leaves all but the regions as it is
  abbrev pub IsDeclared : Passed → After (Unit {0}) → Type 0
  IsDeclared s a = (regions : List Region) × (after tt [] (record s { regions = regions }) ≡ a)

  pub declare_is : (name : Name) (denotation : Denotation) (s : Passed) (a : After (Unit {0})) → declare name denotation s ≡ Ok a → IsDeclared s a
  unfolding declare
  declare_is name denotation s a is =
      let outcome = told name.place (define (folded name.text.now) denotation s.regions) in
      let x = split outcome (λ regions. Ok (after tt [] (record s { regions = regions }))) a is in
      (x.0, cc)

  -- a definition of what is sound
  define_keeps : (name : Name) (denotation : Denotation) → Keeps counted (λ s. IsReady s × IsSound here s.variables s.types heads denotation)
      (declare name denotation) Readied
  define_keeps name denotation = declare_keeps name denotation (λ s. s.variables) (λ s regions. refl)

  -- ---- constants

  pass_keeps : (place : Place) → Keeps counted IsReady (pass place) Readied
  unfolding pass
  pass_keeps place = always (pass place) tt (λ s. record s { latest = place }) (λ s. refl) λ s r. (One (Token place), ready_latest place r)

  -- what may be denoted
  abbrev IsFit : Passed → Denotation → Type 0
  IsFit s d = IsSound here s.variables s.types heads d

  abbrev Denotes : Denotation → Passed → Type 0
  Denotes d s = IsReady s × IsFit s d

  -- a name denotes what may be denoted
  find_keeps : (name : Name) → Keeps counted IsReady (find name) Denotes
  unfolding find
  find_keeps name = record {
    keeps = λ s a is r.
        let text = folded name.text.now in
        let x = split (told name.place (found s.regions text)) (λ d. Ok (after d [] (record s { latest = name.place }))) a is in
        let same : after x.0 [] (record s { latest = name.place }) ≡ a = cc in
        let it_is = told_is name.place (found s.regions text) x.0 x.1 in
        let sound = found_holds (IsSound here s.variables s.types heads) s.regions text x.0 r.sound it_is in
        subst (Kept counted s Denotes) same (One (Token name.place), (ready_latest name.place r, sound));
  }

  -- something else that holds of what an answer says
  given_keeps : {A : Type 0} (checked : Checked A) (Says : A → Type 0) → ((x : A) → checked ≡ Ok x → Says x)
      → Keeps counted IsReady (given checked) (λ x s. IsReady s × Says x)
  given_keeps {A} checked Says says = record {
    keeps = λ s a is r.
        let x = split checked (λ answer. Ok (after answer [] s)) a is in
        let same : after x.0 [] s ≡ a = cc in
        subst (Kept counted s (λ x n. IsReady n × Says x)) same (Stay, (r, says x.0 x.1));
  }

  string_type_keeps : (place : Place) (n : ℕ) → 1 < n
      → Keeps counted IsReady (string_type place n) (λ id s. IsReady s × IsStringOf n id s.types)
  string_type_keeps place n more = record {
    keeps = λ s a is r.
        let made = string_type_is place n s a more r.base.lawful is in
        subst (Kept counted s (λ id m. IsReady m × IsStringOf n id m.types)) made.same
        (made.way, (ready_types a.passed.types (grows {acts = false} {owner = Nobody} made.way).types made.lawful r, (made.few, made.string)));
  }

  keep_text_keeps : (text : List ℕ) → Keeps counted (λ s. IsReady s × (are_characters text ≡ true)) (keep_text text) Readied
  unfolding keep_text
  keep_text_keeps text = record {
    keeps = λ s a is from.
        let r = from.0 in
        let new : Passed = record s { texts = s.texts ++ text ∷ [] } in
        let same : after (length s.texts) [] new ≡ a = cc in
        let ready : IsReady new = record {
          sound = r.sound;
          under_it = r.under_it;
          base = r.base;
          texts = texts_more s.texts text r.texts from.1;
          cells = r.cells;
        } in
        subst (Kept counted s Readied) same (One (Text text), ready);
  }

  text_keeps : (place : Place) (cs : List ℕ) → 1 < length cs → list_all is_character cs ≡ true
      → Keeps counted IsReady (string_type place (length cs) >>= (λ type_id. keep_text cs >>= (λ number. pure (denotes.Text number type_id)))) Denotes
  text_keeps place cs more all =
      keeps_then (string_type_keeps place (length cs) more) λ type_id.
      keeps_then (before (λ s from. ((from.0, both_true _ _ from.1.0 all), from.1.1))
      (aside {Also = λ s. is_string s.types type_id ≡ true} (λ s new longer same. is_string_longer longer type_id) (keep_text_keeps cs))) λ number.
      pure_keeps (denotes.Text number type_id) (λ s is. is)

  string_constant_keeps : (place : Place) (cs : List ℕ) → AreOfChar cs → Keeps counted IsReady (string_constant place cs) Denotes
  unfolding string_constant
  string_constant_keeps place [] all = absurd (no_characters all)
  string_constant_keeps place (c ∷ []) all = pure_keeps (denotes.Constant (pos c) char) (λ s r. (r, char_whole c all.1))
  string_constant_keeps place (c ∷ d ∷ cs) all = text_keeps place (c ∷ d ∷ cs) (omega arith) all.1

  unsigned_keeps : (v : ConstantValue) → Keeps counted IsReady (unsigned_constant v) Denotes
  unfolding unsigned_constant
  unsigned_keeps (value.Number number place) =
      keeps_checks (pass_keeps place) λ types _ c s same is r. (r, number_sound here s.variables s.types heads number place c is)
  unsigned_keeps (value.String text place) =
      keeps_then
      (keeps_then (pass_keeps place) λ _.
      given_keeps (string_characters place text.now) AreOfChar (all_of_char place text.now)) λ cs.
      record { keeps = λ s a is from. (string_constant_keeps place cs from.1).keeps s a is from.0 }
  unsigned_keeps (value.Name name) = keeps_checks (find_keeps name) λ types d c s same is k. (k.0, subst (IsFit s) (constant_is name.place d c is) k.1)

  constant_keeps : (c : Constant) → Keeps counted IsReady (constant c) Denotes
  unfolding constant
  constant_keeps c = keeps_checks (unsigned_keeps c.value) λ types unsigned made s same is k.
      (k.0, behind_sound here s.variables s.types heads c.sign unsigned made is k.1)

  -- an ordinal is a whole number
  abbrev Whole : Option (ℤ × TypeId) → Passed → Type 0
  Whole c s = IsReady s × IsWholeOrdinal c

  ordinal_keeps : (c : Constant) → Keeps counted IsReady (ordinal_constant c) Whole
  unfolding ordinal_constant
  ordinal_keeps c = keeps_checks (constant_keeps c) λ types d one s same is k. (k.0, by s d one is k.1)
    where
      by : (s : Passed) (d : Denotation) (one : Option (ℤ × TypeId)) → ◌≡◌ {A = Checked (Option (ℤ × TypeId))} (Ok (as_ordinal d)) (Ok one)
          → IsFit s d → IsWholeOrdinal one
      by s d one is sound = let same : as_ordinal d ≡ one = cc in subst IsWholeOrdinal same (ordinal_whole here s.variables s.types heads d sound)

  pub definition_keeps : (d : ConstantDefinition) → Keeps counted IsReady (definition d) Readied
  unfolding definition
  definition_keeps d = keeps_then (constant_keeps d.value) λ c. define_keeps d.name c

  -- ---- program parameters

  give_file_keeps : (one : File) → Keeps counted IsReady (give_file one) Readied
  unfolding give_file
  give_file_keeps file.Input =
      always (give_file file.Input) tt (λ s. record s { has_input = true }) (λ s. refl) λ s r.
      (One (Given true s.has_output), ready_files true s.has_output r)
  give_file_keeps file.Output =
      always (give_file file.Output) tt (λ s. record s { has_output = true }) (λ s. refl) λ s r.
      (One (Given s.has_input true), ready_files s.has_input true r)

  pub parameter_keeps : (name : Name) → Keeps counted IsReady (parameter_of_program name) Readied
  unfolding parameter_of_program
  parameter_keeps name = by (file_of (folded name.text.now))
    where
      by : (found : Option File) → Keeps counted IsReady (declares_file name found) Readied
      by (Some one) = keeps_then (before (λ s r. (r, tt)) (define_keeps name (denotes.File one))) λ _. give_file_keeps one
      by None = record { keeps = λ s a is r. absurd cc }

  -- ---- variables

  -- a variable that the block declares whose cells are counted
  abbrev pub declared_as : VariableKind → TypeId → Variable
  declared_as of type_id = record { block = counted; type_id = type_id; kind = of }

  -- beside a type of the table
  abbrev pub IsTyped : TypeId → Passed → Type 0
  IsTyped type_id s = IsReady s × (type_id.index < length s.types)

  -- no heading that was passed tells it
  abbrev pub MayDeclare : VariableKind → Passed → Type 0
  MayDeclare of s = (is_local_kind of ≡ true) ⊎ (length s.headings ≤ counted)

  -- the block's parameters and results so far
  abbrev pub HasRoots : List ℕ → List ℕ → Passed → Type 0
  HasRoots roots results s = (parameters_of counted s.variables ≡ roots) × (results_of counted s.variables ≡ results)

  -- with one declared so
  abbrev pub and_root : VariableKind → List ℕ → ℕ → List ℕ
  and_root of roots root = if is_parameter_kind of then roots ++ root ∷ [] else roots

  abbrev pub and_result : VariableKind → List ℕ → ℕ → List ℕ
  and_result of results root = if is_result_kind of then results ++ root ∷ [] else results

  own_roots : (is_kind : VariableKind → Bool) (of : VariableKind) (type_id : TypeId) (variables : List Variable) (roots : List ℕ)
      → roots_where (declares counted is_kind) 0 variables ≡ roots
      → roots_where (declares counted is_kind) 0 (variables ++ declared_as of type_id ∷ []) ≡ (if is_kind of then roots ++ length variables ∷ [] else roots)
  own_roots is_kind of type_id variables roots are = by (is_kind of) refl
    where
      one : Variable
      one = declared_as of type_id

      own : (test : Bool) → is_kind of ≡ test → declares counted is_kind one ≡ test
      own test is = ap (λ b. b && is_kind of) (eq-eqb counted counted refl) ∙ is

      by : (test : Bool) → is_kind of ≡ test
          → roots_where (declares counted is_kind) 0 (variables ++ one ∷ []) ≡ (if test then roots ++ length variables ∷ [] else roots)
      by true is = roots_one_more (declares counted is_kind) variables one (own true is) ∙ ap (λ l. l ++ length variables ∷ []) are
      by false is = roots_none_more (declares counted is_kind) variables one (own false is) ∙ are

  -- there may be one variable more, of a type of the table
  abbrev pub MayCome : VariableKind → TypeId → Passed → Type 0
  MayCome of type_id s = (type_id.index < length s.types) × (length s.variables < most_numbered) × MayDeclare of s

  -- the number of the next variable
  abbrev pub IsRoot : VariableKind → TypeId → ℕ → Passed → Type 0
  IsRoot of type_id root s = IsReady s × MayCome of type_id s × (root ≡ length s.variables)

  -- it is declared, but has no cells yet
  abbrev pub IsNext : VariableKind → TypeId → ℕ → Passed → Type 0
  IsNext of type_id root s =
      Ready here under counted heads (s.variables ++ declared_as of type_id ∷ []) s × MayCome of type_id s × (root ≡ length s.variables)

  -- behind it
  abbrev pub IsBehind : VariableKind → TypeId → Passed → Type 0
  IsBehind of type_id s = IsTyped type_id s × MayDeclare of s

  pub next_root_keeps : (place : Place) (of : VariableKind) (type_id : TypeId) (roots results : List ℕ)
      → Keeps counted (λ s. IsBehind of type_id s × HasRoots roots results s) (next_root place) (λ root s. IsRoot of type_id root s × HasRoots roots results s)
  unfolding next_root
  next_root_keeps place of type_id roots results = record {
    keeps = λ s a is from.
        let r = from.0 in
        let x = split_unless (nat_le most_numbered (length s.variables)) (fault.TooMany place) (after (length s.variables) [] s) a is in
        subst (Kept counted s (λ root n. IsRoot of type_id root n × HasRoots roots results n)) x.1
        (Stay, ((r.0.0, (r.0.1, below most_numbered (length s.variables) x.0, r.1), refl), from.1));
  }

  pub root_is_next : (of : VariableKind) (type_id : TypeId) (root : ℕ) (s : Passed) → IsRoot of type_id root s → IsNext of type_id root s
  root_is_next of type_id root s is =
      let r = is.0 in
      let one = declared_as of type_id in
      (ready_regions s.regions (regions_later inside_itself (one_longer s.variables one) as_long as_long s.regions r.sound) r.under_it r, is.1, is.2)

  module _ (there : counted < length heads) where
    pub reserve_keeps : (place : Place) (of : VariableKind) (type_id : TypeId) (root : ℕ) (roots results : List ℕ)
        → Keeps counted (λ s. IsNext of type_id root s × HasRoots roots results s) (reserve place counted of type_id)
        (λ _ s. (IsBehind of type_id s × HasRoots (and_root of roots root) (and_result of results root) s)
        × (slice_get s.variables root ≡ Some (declared_as of type_id)))
    unfolding reserve
    reserve_keeps place of type_id root roots results = record {
      keeps = λ s a is from.
          let next = from.0 in
          let r = next.0 in
          let one = declared_as of type_id in
          let taken = s.enclosing.cells + cells_of s.types type_id in
          let new : Passed = record s { variables = s.variables ++ one ∷ []; enclosing = record (s.enclosing) { cells = taken } } in
          let x = split_unless (nat_lt most_cells taken) (fault.TooManyCells place) (after tt [] new) a is in
          let own = eq-eqb counted counted refl in
          let ready : IsReady new = record {
            sound = r.sound;
            under_it = r.under_it;
            base =
                base_variable s.types s.variables s.headings (length heads) one r.base there next.1.0 next.1.1
                (omega (arith, r.cells, at_most most_cells taken x.0)) next.1.2;
            texts = r.texts;
            cells = ap (λ n. n + cells_of s.types type_id) r.cells ∙ sym (cells_more s.types counted s.variables one own);
          } in
          let at_root = next.2 in
          subst (Kept counted s (λ _ n. (IsBehind of type_id n × HasRoots (and_root of roots root) (and_result of results root) n)
          × (slice_get n.variables root ≡ Some (declared_as of type_id)))) x.1 (
            One (Declare one taken refl),
            (
              (
                ((ready, next.1.0), next.1.2),
                (
                  own_roots is_parameter_kind of type_id s.variables roots from.1.0
                      ∙ ap (λ n. if is_parameter_kind of then roots ++ n ∷ [] else roots) (sym at_root),
                  own_roots is_result_kind of type_id s.variables results from.1.1
                      ∙ ap (λ n. if is_result_kind of then results ++ n ∷ [] else results) (sym at_root),
                ),
              ),
              ap (slice_get (s.variables ++ one ∷ [])) at_root ∙ get_last s.variables one,
            ),
          );
    }

    -- a variable with a name
    pub declared_keeps : is_round_here here counted ≡ true → (of : VariableKind) (type_id : TypeId) (name : Name) (roots results : List ℕ)
        → Keeps counted (λ s. IsBehind of type_id s × HasRoots roots results s) (declared counted of type_id name)
        (λ root s. IsBehind of type_id s × HasRoots (and_root of roots root) (and_result of results root) s)
    unfolding declared
    declared_keeps visible of type_id name roots results =
        keeps_then (next_root_keeps name.place of type_id roots results) λ root.
        keeps_then (defined root) λ _.
        keeps_then (reserve_keeps name.place of type_id root roots results) λ _.
        pure_keeps root (λ s is. is.0)
      where
        defined : (root : ℕ) → Keeps counted (λ s. IsRoot of type_id root s × HasRoots roots results s) (declare name (denotes.Variable root type_id))
            (λ _ s. IsNext of type_id root s × HasRoots roots results s)
        defined root = record {
          keeps = λ s a is from.
              let one = declared_as of type_id in
              let all = s.variables ++ one ∷ [] in
              let at_root = from.0.2 in
              let next : Ready here under counted heads all s = (root_is_next of type_id root s from.0).0 in
              let last : slice_get all root ≡ Some one = ap (slice_get all) at_root ∙ get_last s.variables one in
              let variable : IsVariable here all s.types root type_id =
              record { variable = one; is_there = last; is_visible = visible; of_type = refl; stands = from.0.1.0 } in
              let kept = declare_keeps name (denotes.Variable root type_id) (λ s. s.variables ++ one ∷ []) (λ s regions. refl) in
              let done = kept.keeps s a is (next, variable) in
              let same = declare_is name (denotes.Variable root type_id) s a is in
              let known =
              subst (λ (z : After (Unit {0})). MayCome of type_id z.passed × (root ≡ length z.passed.variables) × HasRoots roots results z.passed) same.1
              (from.0.1, from.0.2, from.1) in
              (done.0, ((done.1, known.0, known.1), known.2));
        }

  -- ---- types

  type_of_name_keeps : (name : Name) → Keeps counted IsReady (type_of_name name) IsTyped
  unfolding type_of_name
  type_of_name_keeps name = record {
    keeps = λ s a is r.
        let denoted = found s.regions (folded name.text.now) in
        let x = split (named_type name denoted) (λ type_id. Ok (after type_id [] (record s { latest = name.place }))) a is in
        let same : after x.0 [] (record s { latest = name.place }) ≡ a = cc in
        let one : x.0.index < length s.types =
        found_holds (IsSound here s.variables s.types heads) s.regions (folded name.text.now) (denotes.TypeName x.0) r.sound
        (named_is name denoted x.0 x.1) in
        subst (Kept counted s IsTyped) same (One (Token name.place), (ready_latest name.place r, one));
  }

  add_type_keeps : (place : Place) (form : Form)
      → Keeps counted (λ s. IsReady s × IsWholeForm form × IsOver (length s.types) form) (add_type place form) IsTyped
  add_type_keeps place form = record {
    keeps = λ s a is from.
        let x = type_added place form s a is in
        let lawful = lawful_more s.types form x.0 from.0.base.lawful from.1 from.2 x.1 in
        subst (Kept counted s IsTyped) x.2 (
          One (Typed form tt),
          (ready_types (s.types ++ form ∷ []) (one_longer s.types form) lawful from.0, omega (arith, length-append s.types (form ∷ []))),
        );
  }

  -- the constants of a type leave all types as they are
  constants_from_keeps : (type_id : TypeId) (number : ℕ) (names : List Name)
      → Keeps counted (IsTyped type_id) (constants_from type_id number names) (λ _ s. IsTyped type_id s)
  constants_from_keeps type_id number [] = pure_keeps tt (λ s is. is)
  constants_from_keeps type_id number (name ∷ names) =
      keeps_then (given_typed (value_of number name.place) (value_whole number name.place)) λ value.
      keeps_then (declared_value value) λ _.
      constants_from_keeps type_id (number + 1) names
    where
      given_typed : (checked : Checked ℤ) → ((value : ℤ) → checked ≡ Ok value → IsWhole value)
          → Keeps counted (IsTyped type_id) (given checked) (λ value s. (IsReady s × IsWhole value) × (type_id.index < length s.types))
      given_typed checked whole = record {
        keeps = λ s a is from.
            let x = split checked (λ answer. Ok (after answer [] s)) a is in
            let same : after x.0 [] s ≡ a = cc in
            subst (Kept counted s (λ value n. (IsReady n × IsWhole value) × (type_id.index < length n.types))) same
            (Stay, ((from.0, whole x.0 x.1), from.1));
      }

      declared_value : (value : ℤ) → Keeps counted (λ s. (IsReady s × IsWhole value) × (type_id.index < length s.types))
          (declare name (denotes.Constant value type_id))
          (λ _ s. IsTyped type_id s)
      declared_value value = record {
        keeps = λ s a is from.
            let done = (define_keeps name (denotes.Constant value type_id)).keeps s a is (from.0.0, from.0.1) in
            let same = declare_is name (denotes.Constant value type_id) s a is in
            (done.0, (done.1, subst (λ (z : After (Unit {0})). type_id.index < length z.passed.types) same.1 from.1));
      }

  latest_keeps : Keeps counted IsReady latest Readied
  unfolding latest
  latest_keeps = record {
    keeps = λ s a is r.
        let same : after s.latest [] s ≡ a = cc in
        subst (Kept counted s Readied) same (Stay, r);
  }

  enumeration_keeps : (names : List Name) → Keeps counted IsReady (enumeration names) IsTyped
  unfolding enumeration
  enumeration_keeps names =
      keeps_then latest_keeps λ place.
      keeps_then (given_keeps (value_of (length names - 1) place) (λ last. IsWholeForm (Enumeration last))
      (λ last is. both_true _ _ refl (value_whole (length names - 1) place last is))) λ last.
      keeps_then (before (λ s is. (is.0, is.1, tt)) (add_type_keeps place (Enumeration last))) λ type_id.
      keeps_then (constants_from_keeps type_id 0 names) λ _.
      pure_keeps type_id (λ s is. is)

  subrange_keeps : (first : Constant) (place : Place) (last : Constant) → Keeps counted IsReady (subrange first place last) IsTyped
  unfolding subrange
  subrange_keeps first place last =
      keeps_then (ordinal_keeps first) λ f.
      keeps_then (form_keeps f) λ form.
      before (λ s is. (is.0, is.1.0, is.1.1 (length s.types))) (add_type_keeps place form)
    where
      last_keeps : (f : Option (ℤ × TypeId)) → Keeps counted (Whole f) (ordinal_constant last) (λ l s. Whole l s × IsWholeOrdinal f)
      last_keeps f = record {
        keeps = λ s a is k.
            let one = (ordinal_keeps last).keeps s a is k.0 in
            (one.0, (one.1, k.1));
      }

      form_keeps : (f : Option (ℤ × TypeId))
          → Keeps counted (Whole f) (ordinal_constant last >>? (λ types l. between types place f l)) (λ form s. IsReady s × IsScalarForm form)
      form_keeps f = keeps_checks (last_keeps f) λ types l form s same is k. (k.0.0, between_whole types place f l form is k.1 k.0.1)

  -- ---- arrays and records

  -- a denoter denotes a type of the table
  abbrev KeepsDenoter : WrittenDenoter → Type 0
  KeepsDenoter w = Keeps counted IsReady w IsTyped

  abbrev KeepDenoters : List WrittenDenoter → Type 0
  KeepDenoters [] = Unit {0}
  KeepDenoters (w ∷ ws) = KeepsDenoter w × KeepDenoters ws

  -- what stands in the table stays there
  abbrev Stands : TypeId → Passed → Type 0
  Stands id s = id.index < length s.types

  abbrev AllStand : List TypeId → Passed → Type 0
  AllStand [] s = Unit {0}
  AllStand (id ∷ ids) s = Stands id s × AllStand ids s

  abbrev FieldsStand : List FieldForm → Passed → Type 0
  FieldsStand fields s = AreFieldsOver (length s.types) fields

  stays : (id : TypeId) (s new : Passed) → IsLonger s.types new.types → new.enclosing.block ≡ s.enclosing.block → Stands id s → Stands id new
  stays id s new longer same is = stands_longer longer id is

  all_stay : (ids : List TypeId) (s new : Passed) → IsLonger s.types new.types → new.enclosing.block ≡ s.enclosing.block → AllStand ids s → AllStand ids new
  all_stay [] s new longer same all = tt
  all_stay (id ∷ ids) s new longer same all = (stays id s new longer same all.0, all_stay ids s new longer same all.1)

  fields_stay : (fields : List FieldForm) (s new : Passed) → IsLonger s.types new.types → new.enclosing.block ≡ s.enclosing.block → FieldsStand fields s
      → FieldsStand fields new
  fields_stay fields s new longer same all = λ k field is. stays field.type_id s new longer same (all k field is)

  index_type_keeps : (w : WrittenDenoter) → KeepsDenoter w → KeepsDenoter (index_type w)
  unfolding index_type
  index_type_keeps w law =
      keeps_then law λ id.
      keeps_then (aside {Also = Stands id} (stays id) latest_keeps) λ place.
      keeps_checks {p = pure (tt {0})} {test = λ types _. fits (is_ordinal types id) place id} {Between = λ _ s. IsTyped id s}
      (pure_keeps tt (λ s is. is)) λ types _ b s same fit is.
      subst (λ (z : TypeId). IsTyped z s) (fit_is (is_ordinal types id) place id b fit).1 is

  index_types_keep : (ws : List WrittenDenoter) → KeepDenoters ws
      → Keeps counted IsReady (index_types ws) (λ ids s. IsReady s × AllStand ids s)
  index_types_keep [] laws = pure_keeps [] (λ s r. (r, tt))
  index_types_keep (w ∷ ws) laws =
      keeps_then (index_type_keeps w laws.0) λ id.
      keeps_then (aside {Also = Stands id} (stays id) (index_types_keep ws laws.1)) λ ids.
      pure_keeps (id ∷ ids) (λ s is. (is.0.0, (is.1, is.0.1)))

  arrays_keep : (packed : Bool) (place : Place) (indexes : List TypeId) (element : TypeId)
      → Keeps counted (λ s. IsTyped element s × AllStand indexes s) (arrays packed place indexes element) IsTyped
  arrays_keep packed place [] element = pure_keeps element (λ s is. is.0)
  arrays_keep packed place (index ∷ indexes) element =
      keeps_then (before (λ s is. ((is.0, is.1.1), is.1.0))
      (aside {Also = Stands index} (stays index) (arrays_keep packed place indexes element))) λ inner.
      before (λ s is. (is.0.0, tt, (is.1, is.0.1))) (add_type_keeps place (Array packed index inner))

  array_keeps : (packed : Bool) (place : Place) (indexes : List WrittenDenoter) (element : WrittenDenoter) → KeepDenoters indexes
      → KeepsDenoter element → Keeps counted IsReady (array packed place indexes element) IsTyped
  unfolding array
  array_keeps packed place indexes element laws law =
      keeps_then (pass_keeps place) λ _.
      keeps_then (index_types_keep indexes laws) λ ids.
      keeps_then (aside {Also = AllStand ids} (all_stay ids) law) λ inner.
      arrays_keep packed place ids inner

  abbrev HaveFields : List FieldForm → Passed → Type 0
  HaveFields fields s = IsReady s × FieldsStand fields s

  named_keeps : (fields : List FieldForm) (type_id : TypeId) (names : List Name)
      → Keeps counted (λ s. IsTyped type_id s × FieldsStand fields s) (given (named_fields fields type_id names)) HaveFields
  named_keeps fields type_id names = record {
    keeps = λ s a is from.
        let x = split (named_fields fields type_id names) (λ answer. Ok (after answer [] s)) a is in
        let same : after x.0 [] s ≡ a = cc in
        subst (Kept counted s HaveFields) same
        (Stay, (from.0.0, named_over (length s.types) fields type_id names x.0 from.0.1 from.1 x.1));
  }

  grouped_fields_keep : (fields : List FieldForm) (rows : List (Vec Name Global)) (ws : List WrittenDenoter) → KeepDenoters ws
      → Keeps counted (HaveFields fields) (grouped_fields fields (fields_of rows ws)) HaveFields
  grouped_fields_keep fields [] ws laws = pure_keeps fields (λ s is. is)
  grouped_fields_keep fields (row ∷ rows) [] laws = pure_keeps fields (λ s is. is)
  grouped_fields_keep fields (row ∷ rows) (w ∷ ws) laws =
      keeps_then (aside {Also = FieldsStand fields} (fields_stay fields) laws.0) λ type_id.
      keeps_then (named_keeps fields type_id row.items) λ more.
      grouped_fields_keep more rows ws laws.1

  record_keeps : (packed : Bool) (place : Place) (rows : List (Vec Name Global)) (ws : List WrittenDenoter) → KeepDenoters ws
      → Keeps counted IsReady (record_type packed place (fields_of rows ws)) IsTyped
  unfolding record_type
  record_keeps packed place rows ws laws =
      keeps_then (pass_keeps place) λ _.
      keeps_then (before (λ s r. (r, λ k field is. absurd cc)) (grouped_fields_keep [] rows ws laws)) λ fields.
      before (λ s is. (is.0, tt, is.1)) (add_type_keeps place (Record packed fields))

  set_keeps : (packed : Bool) (place : Place) (base : WrittenDenoter) → KeepsDenoter base → Keeps counted IsReady (set_type packed place base) IsTyped
  unfolding set_type
  set_keeps packed place base law =
      keeps_then (pass_keeps place) λ _.
      keeps_then (index_type_keeps base law) λ id.
      keeps_then (form_keeps id) λ form.
      before (λ s is. (is.0, is.1.0, is.1.1 (length s.types))) (add_type_keeps place form)
    where
      form_keeps : (id : TypeId)
          → Keeps counted (IsTyped id) (by_types (λ types. or_mismatch place (set_form types packed id))) (λ form s. IsReady s × IsScalarForm form)
      form_keeps id = record {
        keeps = λ s a is from.
            let x = split (or_mismatch place (set_form s.types packed id)) (λ form. Ok (after form [] s)) a is in
            let same : after x.0 [] s ≡ a = cc in
            subst (Kept counted s (λ form n. IsReady n × IsScalarForm form)) same
            (Stay, (from.0, set_whole s.types from.0.base.lawful.whole packed id x.0 (is_there place (set_form s.types packed id) x.0 x.1)));
      }

  -- ---- every denoter

  abbrev KeepsTypeDenoter : TypeDenoter → Type 0
  KeepsTypeDenoter d = KeepsDenoter (denoted_type d)

  abbrev WithDenoter : Type 0
  WithDenoter = (d : TypeDenoter) × KeepsTypeDenoter d

  abbrev bare : layer.TypeDenoter-F WithDenoter → layer.TypeDenoter-F TypeDenoter
  bare y = map-TypeDenoter WithDenoter TypeDenoter (λ d. d.0) y

  from_layer : (d : layer.TypeDenoter-F TypeDenoter) → KeepsDenoter (denoter_step (map-TypeDenoter TypeDenoter WrittenDenoter denoted_type d))
      → KeepsTypeDenoter (roll-TypeDenoter d)
  from_layer d law = subst KeepsDenoter (sym (fold-roll-TypeDenoter WrittenDenoter denoter_step d)) law

  rows_keep : (ys : List WithDenoter) → KeepDenoters (map denoted_type (map (λ (y : WithDenoter). y.0) ys))
  rows_keep [] = tt
  rows_keep (y ∷ ys) = (y.1, rows_keep ys)

  denoter_layer : (y : layer.TypeDenoter-F WithDenoter) → KeepsTypeDenoter (roll-TypeDenoter (bare y))
  denoter_layer (layer.Name name) = from_layer (layer.Name name) (type_of_name_keeps name)
  denoter_layer (layer.Enumerated constants) = from_layer (layer.Enumerated constants) (enumeration_keeps constants.items)
  denoter_layer (layer.Subrange first place last) = from_layer (layer.Subrange first place last) (subrange_keeps first place last)
  denoter_layer (layer.Array packed place indexes element) =
      from_layer (bare (layer.Array packed place indexes element))
      (array_keeps packed place _ _ (rows_keep indexes.items) element.value.1)
  denoter_layer (layer.Record packed place rows denoters semicolon) =
      from_layer (bare (layer.Record packed place rows denoters semicolon))
      (record_keeps packed place rows.items _ (rows_keep denoters.items))
  denoter_layer (layer.Set packed place base) = from_layer (bare (layer.Set packed place base)) (set_keeps packed place _ base.value.1)

  denoted_type_keeps : (d : TypeDenoter) → Keeps counted IsReady (denoted_type d) IsTyped
  denoted_type_keeps d =
      ind-TypeDenoter KeepsTypeDenoter (λ x y is. subst (λ z. KeepsTypeDenoter (roll-TypeDenoter z)) is (denoter_layer y)) d

  pub type_definition_keeps : (d : TypeDefinition) → Keeps counted IsReady (type_definition d) Readied
  unfolding type_definition
  type_definition_keeps d = keeps_then (denoted_type_keeps d.denoter) λ type_id. define_keeps d.name (denotes.TypeName type_id)

  -- ---- groups of variables

  -- the block's own, which stands round its own region
  module _ (there : counted < length heads) (visible : is_round_here here counted ≡ true) where
    -- a block whose cells are counted is the one round the place
    abbrev IsCounted : Passed → Type 0
    IsCounted s = s.enclosing.block ≡ counted

    local_keeps : (type_id : TypeId) (name : Name)
        → Keeps counted (λ s. IsTyped type_id s × IsCounted s) (local type_id name) (λ _ s. IsTyped type_id s × IsCounted s)
    unfolding local enclosing_now
    local_keeps type_id name = record {
      keeps = λ s a is from.
          let same_block : declared s.enclosing.block variable.Local type_id name ≡ declared counted variable.Local type_id name =
          ap (λ n. declared n variable.Local type_id name) from.1 in
          let goes : (declared counted variable.Local type_id name >>= (λ root. pure (tt {0}))) s ≡ Ok a =
          ap (λ (p : Passing ℕ). (p >>= (λ root. pure (tt {0}))) s) (sym same_block) ∙ behind_nothing_is _ a is in
          let roots = parameters_of counted s.variables in
          let results = results_of counted s.variables in
          let law : Keeps counted (λ n. (IsBehind variable.Local type_id n × HasRoots roots results n) × IsCounted n)
          (declared counted variable.Local type_id name >>= (λ root. pure (tt {0}))) (λ _ n. IsTyped type_id n × IsCounted n) =
          keeps_then (aside counted_stays (declared_keeps there visible variable.Local type_id name roots results)) λ root.
          pure_keeps tt (λ n k. (k.0.0.0, k.1)) in
          law.keeps s a goes (((from.0, inl refl), (refl, refl)), from.1);
    }
      where
        counted_stays : (s new : Passed) → IsLonger s.types new.types → new.enclosing.block ≡ s.enclosing.block → IsCounted s → IsCounted new
        counted_stays s new longer same is = same ∙ is

        behind_nothing_is : (r : Checked (After (Unit {0}))) (a : After (Unit {0})) → behind_marks [] r ≡ Ok a → r ≡ Ok a
        behind_nothing_is (Ok b) a h = let same : b ≡ a = cc in ap Ok same
        behind_nothing_is (Err why) a h = absurd cc

    pub group_keeps : (g : VariableGroup) → Keeps counted (λ s. IsReady s × IsCounted s) (group g) (λ _ s. IsReady s × IsCounted s)
    unfolding group
    group_keeps g =
        keeps_then (aside counted_stays (denoted_type_keeps g.denoter)) λ type_id.
        behind (λ x s is. (is.0.0, is.1)) (each_keeps (local_keeps type_id) g.names.items)
      where
        counted_stays : (s new : Passed) → IsLonger s.types new.types → new.enclosing.block ≡ s.enclosing.block → IsCounted s → IsCounted new
        counted_stays s new longer same is = same ∙ is
