-- What constants do: they have no sites, and their values are whole.
use Rattle.std.proofs.Common.{◌≡◌, ℕ, ℤ, Bool, true, false, not, ◌&&◌, if◌then◌else◌, nat_le, List, [], ◌∷◌, ◌++◌, Option, Some, None, Ok, Err, pos, neg_ℤ}
use Rattle.std.proofs.Common.{refl, subst, ◌∙◌, arith}
use Rattle.std.specs.List.{list_all, list_any}
use Rattle.std.specs.Ordering.{int_eq}
use Rattle.std.proofs.lemmas.List.Folds.{list_all-append}
use Rattle.std.proofs.lemmas.Int.{ints}
use Rattle.place.specs.declared.Place.{Place}
use Rattle.syntax_tree.specs.declared.Sign.{Sign}
use Rattle.syntax_tree.specs.declared.Sign.TheVariants as sign
use Rattle.syntax_tree.specs.declared.SignAt.{SignAt}
use Rattle.syntax_tree.specs.declared.Constant.{Constant}
use Rattle.syntax_tree.specs.declared.ConstantValue.{ConstantValue}
use Rattle.syntax_tree.specs.declared.ConstantValue.TheVariants as value
use Rattle.types.specs.Forms.{Form}
use Rattle.types.specs.declared.form.TypeId.{TypeId}
use Rattle.types.specs.Types.{integer, is_same, is_compatible}
use Rattle.scopes.specs.declared.denotation.Denotation.{Denotation}
use Rattle.scopes.specs.declared.denotation.Denotation.TheVariants as denotes
use Rattle.typed_tree.specs.declared.tree.Variable.{Variable}
use Rattle.typed_tree.specs.declared.fault.TypeFault.TheVariants as fault
use Rattle.typed_tree.specs.WellFormed.{is_whole}
use Rattle.typing_rules.specs.Checked.{Checked}
use Rattle.typing_rules.specs.Checked.{fits}
use Rattle.typing.specs.Strings.{string_characters}
use Rattle.typing.specs.Constants.{as_constant, as_ordinal, unsigned_constant, signed_value, behind_sign, constant, ordinal_constant, constant_place}
use Rattle.typing.specs.Statements.{own_constant, case_constant, constant_row}
use Rattle.typing_laws.proofs.Sound.{IsSound}
use Rattle.typing_laws.proofs.Reached.{Head, Here, Reached}
use Rattle.typing_laws.proofs.Grown.{heads_of, both_true}
use Rattle.typing_laws.proofs.Steps.{PassingDoes, Nothing, IsSoundThen, quietly, checks, pass_does, pure_does, given_does, find_does}
use Rattle.typing_laws.proofs.Strings.{fit_is, all_of_char, string_constant_does}

abbrev pub IsWhole : ℤ → Type 0
IsWhole value = is_whole value ≡ true

-- ---- values

pub number_whole : (value : ℕ) → nat_le value 2147483647 ≡ true → IsWhole (pos value)
number_whole value few = few

-- a constant that a name denotes is what is denoted
pub constant_is : (place : Place) (d c : Denotation) → as_constant place d ≡ Ok c → d ≡ c
constant_is place (denotes.Constant value type_id) c is = cc
constant_is place (denotes.Text number type_id) c is = cc
constant_is place other c is = absurd cc

negative_whole : (value : ℤ) → IsWhole value → IsWhole (neg_ℤ value)
negative_whole value whole = grind (arith, ints)

signed_whole : (s : Sign) (value : ℤ) → IsWhole value → IsWhole (signed_value s value)
signed_whole sign.Plus value whole = whole
signed_whole sign.Minus value whole = negative_whole value whole

-- the value of an ordinal constant is whole
abbrev pub IsWholeOrdinal : Option (ℤ × TypeId) → Type 0
IsWholeOrdinal None = Unit {0}
IsWholeOrdinal (Some c) = IsWhole c.0

own_whole : (types : List Form) (type_id : TypeId) (before : List ℤ) (place : Place) (c : Option (ℤ × TypeId)) (value : ℤ)
    → own_constant types type_id before place c ≡ Ok value → IsWholeOrdinal c → IsWhole value
own_whole types type_id before place None value is whole = absurd cc
own_whole types type_id before place (Some c) value is whole =
    subst IsWhole (by (is_compatible types type_id c.1 && not (list_any (int_eq c.0) before)) is) whole
  where
    by : (test : Bool) → (if test then Ok c.0 else Err (fault.CaseConstant place)) ≡ Ok value → c.0 ≡ value
    by true h = cc
    by false h = absurd cc

-- ---- constants

module _ (here : Here) where
  module _ (variables : List Variable) (types : List Form) (heads : List Head) where
    pub behind_sound : (s : Option SignAt) (c made : Denotation) → behind_sign s c ≡ Ok made → IsSound here variables types heads c
        → IsSound here variables types heads made
    behind_sound None c made is sound = let same : c ≡ made = cc in subst (IsSound here variables types heads) same sound
    behind_sound (Some at) (denotes.Constant value type_id) made is sound =
        let made_is = fit_is (is_same type_id integer && is_whole value) at.place (denotes.Constant (signed_value at.sign value) integer) made is in
        subst (IsSound here variables types heads) made_is.1 (signed_whole at.sign value sound)
    behind_sound (Some at) other made is sound = absurd cc

    pub ordinal_whole : (d : Denotation) → IsSound here variables types heads d → IsWholeOrdinal (as_ordinal d)
    ordinal_whole (denotes.Constant value type_id) sound = sound
    ordinal_whole other sound = tt

    pub number_sound : (number : ℕ) (place : Place) (c : Denotation)
        → fits (nat_le number 2147483647) place (denotes.Constant (pos number) integer) ≡ Ok c → IsSound here variables types heads c
    number_sound number place c is =
        let fit = fit_is (nat_le number 2147483647) place (denotes.Constant (pos number) integer) c is in
        subst (IsSound here variables types heads) fit.1 (number_whole number fit.0)

  unsigned_does : {least : Reached} (v : ConstantValue) → PassingDoes here least Nothing (unsigned_constant v) (λ d now. IsSoundThen here d now)
  unfolding unsigned_constant
  unsigned_does (value.Number number place) = checks (pass_does place) λ types _ c now _ is _.
      number_sound now.variables now.types (heads_of now) number place c is
  unsigned_does (value.String text place) =
      quietly (quietly (pass_does place) λ _ _ _ _. given_does (string_characters place text.now)) λ cs _ _ is.
      string_constant_does place cs (all_of_char place text.now cs is)
  unsigned_does (value.Name name) =
      checks (find_does name) λ types d c now _ is sound. subst (λ z. IsSoundThen here z now) (constant_is name.place d c is) sound.0

  constant_does : {least : Reached} (c : Constant) → PassingDoes here least Nothing (constant c) (λ d now. IsSoundThen here d now)
  unfolding constant
  constant_does c = checks (unsigned_does c.value) λ types unsigned made now _ is sound.
      behind_sound now.variables now.types (heads_of now) c.sign unsigned made is sound

  ordinal_does : {least : Reached} (c : Constant) → PassingDoes here least Nothing (ordinal_constant c) (λ one now. IsWholeOrdinal one)
  unfolding ordinal_constant
  ordinal_does c = checks (constant_does c) λ types d one now _ is sound. by now d one is sound
    where
      by : (now : Reached) (d : Denotation) (one : Option (ℤ × TypeId)) → ◌≡◌ {A = Checked (Option (ℤ × TypeId))} (Ok (as_ordinal d)) (Ok one)
          → IsSoundThen here d now
          → IsWholeOrdinal one
      by now d one is sound =
          let same : as_ordinal d ≡ one = cc in subst IsWholeOrdinal same (ordinal_whole now.variables now.types (heads_of now) d sound)

  case_constant_does : {least : Reached} (type_id : TypeId) (before : List ℤ) (c : Constant)
      → PassingDoes here least Nothing (case_constant type_id before c) (λ value now. IsWhole value)
  unfolding case_constant
  case_constant_does type_id before c =
      checks (ordinal_does c) λ types one value now _ is whole. own_whole types type_id before (constant_place c) one value is whole

  -- those before an arm
  pub row_does : {least : Reached} (type_id : TypeId) (before row : List ℤ) (cs : List Constant) → list_all is_whole row ≡ true
      → PassingDoes here least Nothing (constant_row type_id before row cs) (λ made now. list_all is_whole made ≡ true)
  row_does type_id before row [] whole = pure_does row (λ n h. whole)
  row_does type_id before row (c ∷ cs) whole =
      quietly (case_constant_does type_id (before ++ row) c) λ value _ _ is.
      row_does type_id before (row ++ value ∷ []) cs (list_all-append is_whole row (value ∷ []) ∙ both_true _ _ whole (both_true _ true is refl))
