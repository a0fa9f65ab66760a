-- What strings do: a string has at most as many characters as a type has cells, and its type leaves all others as they are.
use Rattle.std.proofs.Common.{◌≡◌, ℕ, ℤ, ◌*◌, ◌≤◌, Bool, true, false, ◌&&◌, not, nat_le, List, [], ◌∷◌, ◌++◌, length, Option, Some, None, Result, Ok, Err, pos}
use Rattle.std.proofs.Common.{refl, sym, ap, ap₂, subst, ◌∙◌, arith, slice_get, ◌<◌, is_some, int_lt, if◌then◌else◌}
use Rattle.std.proofs.Common.{length-append}
use Rattle.std.specs.Prelude.{◌==◌, ◌-ℤ◌, ◌+ℤ◌}
use Rattle.std.specs.List.{list_all}
use Rattle.std.specs.Option.{option_and_then}
use Rattle.std.proofs.lemmas.Bool.Decides.{nat_tests}
use Rattle.std.proofs.lemmas.Int.{ints}
use Rattle.place.specs.declared.Place.{Place}
use Rattle.types.specs.Forms.{Form, Subrange, Array}
use Rattle.types.specs.declared.form.TypeId.{TypeId}
use Rattle.types.specs.declared.refusal.TypeRefusal.{TypeRefusal}
use Rattle.types.specs.Types.{integer, char, natural, admitted_cells, numbered, counted, cells_at, values_at, index_values, form_range, most_cells}
use Rattle.types.specs.Types.{form_at, is_string, string_in, string_last}
use Rattle.types.proofs.Counts.{values_counted}
use Rattle.scopes.specs.declared.denotation.Denotation.TheVariants as denotes
use Rattle.typed_tree.specs.WellFormed.{is_character, is_whole}
use Rattle.typing.specs.Passing.{Passed, After, Passing, after, given, behind_marks, pure, ◌>>=◌}
use Rattle.typing_rules.specs.Checked.{Checked, and_then}
use Rattle.typing.specs.Steps.{value_of, added, add_type, keep_text}
use Rattle.typing_rules.specs.Checked.{fits, or_mismatch}
use Rattle.typing.specs.Strings.{characters, string_characters, string_type, string_constant}
use Rattle.typing_laws.proofs.Tables.{AreLawful, admitted_few, char_cell, is_string_longer, lawful_more, required_stand}
use Rattle.typing_laws.proofs.Reached.{Here, Reached, further_still, get_longer, one_longer}
use Rattle.typing.proofs.Ways.{Owner, IsNoSet, Way, One, Then, Typed, no_set_adds}
use Rattle.typing_laws.proofs.Grown.{both_true}
use Rattle.typing_laws.proofs.Steps.{PassingDoes, Nothing, PassingLeaves, IsSoundThen, split, quietly, pure_does, keep_text_does, grown_plain, no_sites}

-- ---- tests

-- an answer, where it fits
pub fit_is : {A : Type 0} (test : Bool) (place : Place) (answer other : A) → fits test place answer ≡ Ok other → (test ≡ true) × (answer ≡ other)
fit_is true place answer other is = (refl, cc)
fit_is false place answer other is = absurd cc

pub there : {A : Type 0} (place : Place) (found : Option A) (a : A) → or_mismatch place found ≡ Ok a → found ≡ Some a
there place (Some b) a is = cc
there place None a is = absurd cc

pub both_and : (a b : Bool) → (a && b) ≡ true → (a ≡ true) × (b ≡ true)
both_and true true is = (refl, refl)
both_and true false is = absurd cc
both_and false b is = absurd cc

-- a string has characters, of type char
abbrev pub AreOfChar : List ℕ → Type 0
AreOfChar cs = (not (length cs == 0) ≡ true) × (list_all is_character cs ≡ true)

pub no_characters : AreOfChar [] → ⊥
no_characters all = let none : ◌≡◌ {A = Bool} false true = all.0 in absurd cc

pub all_of_char : (place : Place) (bytes cs : List ℕ) → string_characters place bytes ≡ Ok cs → AreOfChar cs
all_of_char place bytes cs is =
    let x = split (or_mismatch place (characters bytes)) (λ found. fits (not (length found == 0) && list_all is_character found) place found) cs is in
    let fit = fit_is (not (length x.0 == 0) && list_all is_character x.0) place x.0 cs x.2 in
    subst AreOfChar fit.1 (both_and (not (length x.0 == 0)) (list_all is_character x.0) fit.0)

-- ---- a type more

-- behind no form
pub behind_nothing : {A : Type 0} (r : Checked (After A)) → behind_marks [] r ≡ r
behind_nothing (Ok a) = refl
behind_nothing (Err why) = refl

-- a test, and then others
pub given_then : {A B : Type 0} (checked : Checked A) (f : A → Passing B) (s : Passed) (b : After B) → (given checked >>= f) s ≡ Ok b
    → (x : A) × (checked ≡ Ok x) × (f x s ≡ Ok b)
given_then (Ok x) f s b is = (x, refl, sym (behind_nothing (f x s)) ∙ is)
given_then (Err why) f s b is = absurd cc

-- a table with a form more
abbrev pub with_form : Form → Passed → Passed
with_form form s = record s { types = s.types ++ form ∷ [] }

abbrev pub next_type : Passed → TypeId
next_type s = record { index = length s.types }

-- a type more, and then others
pub add_type_then : {B : Type 0} (place : Place) (form : Form) (f : TypeId → Passing B) (s : Passed) (b : After B)
    → (add_type place form >>= f) s ≡ Ok b
    → (cells : ℕ) × (admitted_cells s.types form ≡ Ok cells) × (f (next_type s) (with_form form s) ≡ Ok b)
unfolding add_type
add_type_then {B} place form f s b is = by (admitted_cells s.types form) refl is
  where
    by : (r : Result ℕ TypeRefusal) → admitted_cells s.types form ≡ r
        → and_then (and_then (added place (numbered s.types r)) (λ id. Ok (after id [] (with_form form s))))
        (λ a. behind_marks a.look (f a.answer a.passed)) ≡ Ok b
        → (cells : ℕ) × (admitted_cells s.types form ≡ Ok cells) × (f (next_type s) (with_form form s) ≡ Ok b)
    by (Ok cells) admits h = (cells, admits, sym (behind_nothing (f (next_type s) (with_form form s))) ∙ h)
    by (Err rule) admits h = absurd cc

-- a type more
pub type_added : (place : Place) (form : Form) (s : Passed) (a : After TypeId) → add_type place form s ≡ Ok a
    → (cells : ℕ) × (admitted_cells s.types form ≡ Ok cells) × (after (next_type s) [] (with_form form s) ≡ a)
unfolding add_type
type_added place form s a is = by (admitted_cells s.types form) refl is
  where
    by : (r : Result ℕ TypeRefusal) → admitted_cells s.types form ≡ r
        → and_then (added place (numbered s.types r)) (λ id. Ok (after id [] (with_form form s))) ≡ Ok a
        → (cells : ℕ) × (admitted_cells s.types form ≡ Ok cells) × (after (next_type s) [] (with_form form s) ≡ a)
    by (Ok cells) admits h = (cells, admits, cc)
    by (Err rule) admits h = absurd cc

-- ---- the type of a string

from_one : (n : ℕ) → natural (pos n -ℤ pos 1 +ℤ pos 1) ≡ n
from_one n = let same : pos n -ℤ pos 1 +ℤ pos 1 ≡ pos n = omega (arith, ints) in ap natural same

at_end : (types : List Form) (form : Form) → slice_get (types ++ form ∷ []) (length types) ≡ Some form
at_end [] form = refl
at_end (first ∷ types) form = at_end types form

-- an array over the subrange before it, which goes from 1 to its length
few_components : (types : List Form) (n cells : ℕ) → AreLawful (types ++ Subrange integer (pos 1) (pos n) ∷ [])
    → admitted_cells (types ++ Subrange integer (pos 1) (pos n) ∷ []) (Array true (record { index = length types }) char) ≡ Ok cells
    → nat_le n 65536 ≡ true
few_components types n cells are is =
    let form = Subrange integer (pos 1) (pos n) in
    let index : TypeId = record { index = length types } in
    let entries = counted (types ++ form ∷ []) in
    let values : values_at entries index ≡ n =
    values_counted (types ++ form ∷ []) index ∙ ap (λ found. index_values (option_and_then form_range found)) (at_end types form) ∙ from_one n in
    let once : n * 1 ≡ n = omega arith in
    let all : values_at entries index * cells_at entries char ≡ n = ap₂ (λ a b. a * b) values (char_cell (types ++ form ∷ []) are.begin) ∙ once in
    le_true n (subst (λ m. m ≤ most_cells) all (admitted_few (types ++ form ∷ []) (Array true index char) cells is))
  where
    le_true : (m : ℕ) → m ≤ most_cells → nat_le m 65536 ≡ true
    le_true m h = grind (arith, nat_tests)

-- it is a string type of more than one character
string_at_end : (types : List Form) (n : ℕ) → 1 < n
    → is_string ((types ++ Subrange integer (pos 1) (pos n) ∷ []) ++ Array true (record { index = length types }) char ∷ [])
    (record { index = length (types ++ Subrange integer (pos 1) (pos n) ∷ []) })
    ≡ true
string_at_end types n more =
    let form = Subrange integer (pos 1) (pos n) in
    let array = Array true (record { index = length types }) char in
    let all = (types ++ form ∷ []) ++ array ∷ [] in
    let index : form_at all (record { index = length types }) ≡ Some form =
    get_longer (one_longer (types ++ form ∷ []) array) (length types) form (at_end types form) in
    let long : int_lt (pos 1) (pos n) ≡ true = grind (arith, ints) in
    ap (λ found. is_some (string_in all found)) (at_end (types ++ form ∷ []) array) ∙ ap (λ found. is_some (string_last found)) index
    ∙ ap (λ test. is_some (if test then Some n else None)) long

-- a string type is new, and leaves all other types
pub record IsStringType (n : ℕ) (s : Passed) (a : After TypeId) : Type 0 where
  pub same : after a.answer [] (record s { types = a.passed.types }) ≡ a
  pub way : {acts : Bool} {owner : Owner} → Way acts owner 0 0 [] s (record s { types = a.passed.types })
  pub lawful : AreLawful a.passed.types
  pub few : nat_le n 65536 ≡ true
  pub string : is_string a.passed.types a.answer ≡ true

adds_both : {acts : Bool} {owner : Owner} (s : Passed) (first second : Form) → IsNoSet first → IsNoSet second
    → Way acts owner 0 0 [] s (record s { types = (s.types ++ first ∷ []) ++ second ∷ [] })
adds_both {owner = owner} s first second a b = Then (One (Typed first (no_set_adds owner first a))) (One (Typed second (no_set_adds owner second b)))

pub string_type_is : (place : Place) (n : ℕ) (s : Passed) (a : After TypeId) → 1 < n → AreLawful s.types → string_type place n s ≡ Ok a
    → IsStringType n s a
unfolding string_type
string_type_is place n s a more are is =
    let form : ℤ → Form = λ last. Subrange integer (pos 1) last in
    let array : Form = Array true (next_type s) char in
    let x = given_then (value_of n place) (λ last. add_type place (form last) >>= (λ index. add_type place (Array true index char))) s a is in
    let fit = fit_is (nat_le n 2147483647) place (pos n) x.0 x.1 in
    let rest : (add_type place (form (pos n)) >>= (λ index. add_type place (Array true index char))) s ≡ Ok a =
    subst (λ last. (add_type place (form last) >>= (λ index. add_type place (Array true index char))) s ≡ Ok a) (sym fit.1) x.2 in
    let y = add_type_then place (form (pos n)) (λ index. add_type place (Array true index char)) s a rest in
    let z = type_added place array (with_form (form (pos n)) s) a y.2 in
    let one = lawful_more s.types (form (pos n)) y.0 are fit.0 tt y.1 in
    let chars = required_stand s.types are.begin in
    let longer = length-append s.types (form (pos n) ∷ []) in
    subst (IsStringType n s) z.2 (record {
      same = refl;
      way = adds_both s (form (pos n)) array tt tt;
      lawful = lawful_more (s.types ++ form (pos n) ∷ []) array z.0 one tt (omega (arith, longer), omega (arith, chars, longer)) z.1;
      few = few_components s.types n z.0 one z.1;
      string = string_at_end s.types n more;
    })

-- of so many characters, and of a string type
abbrev pub IsStringOf : ℕ → TypeId → List Form → Type 0
IsStringOf n id types = (nat_le n 65536 ≡ true) × (is_string types id ≡ true)

module _ {here : Here} {least : Reached} where
  pub string_type_does : (place : Place) (n : ℕ) → 1 < n → PassingDoes here least Nothing (string_type place n) (λ id now. IsStringOf n id now.types)
  string_type_does place n more = record {
    does = λ s a is fine h.
        let made = string_type_is place n s a more fine.lawful is in
        subst (PassingLeaves here Nothing s (λ id now. IsStringOf n id now.types)) made.same
        (grown_plain made.way made.lawful fine.texts, no_sites refl refl, (made.few, made.string));
  }

-- ---- constants

-- a char is a whole number
pub char_whole : (c : ℕ) → list_all is_character (c ∷ []) ≡ true → is_whole (pos c) ≡ true
char_whole c is = grind (arith, nat_tests)

module _ {here : Here} {least : Reached} where
  -- two or more characters
  text_does : (place : Place) (cs : List ℕ) → 1 < length cs → list_all is_character cs ≡ true
      → PassingDoes here least Nothing (string_type place (length cs) >>= (λ type_id. keep_text cs >>= (λ number. pure (denotes.Text number type_id))))
      (λ d now. IsSoundThen here d now)
  text_does place cs more all =
      quietly (string_type_does place (length cs) more) λ type_id _ _ made.
      quietly (keep_text_does cs (both_true _ _ made.0 all)) λ number _ one _.
      pure_does (denotes.Text number type_id) (λ n h. is_string_longer (further_still one h).types type_id made.1)

  pub string_constant_does : (place : Place) (cs : List ℕ) → AreOfChar cs
      → PassingDoes here least Nothing (string_constant place cs) (λ d now. IsSoundThen here d now)
  unfolding string_constant
  string_constant_does place [] all = absurd (no_characters all)
  string_constant_does place (c ∷ []) all = pure_does (denotes.Constant (pos c) char) (λ n h. char_whole c all.1)
  string_constant_does place (c ∷ d ∷ cs) all = text_does place (c ∷ d ∷ cs) (omega arith) all.1
