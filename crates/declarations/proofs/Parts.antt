-- Names that are known together are known in parts; and the constants of an enumerated type, one after another.
use Rattle.std.proofs.Common.{◌≡◌, ◌∙◌, ℕ, ℤ, ◌+◌, ◌<◌, ◌≤◌, List, [], ◌∷◌, ◌++◌, drop, length, get_or, Ok, Err, inl, inr, sym, ap}
use Rattle.std.proofs.lemmas.List.{drop_more, at_drop_all}
use Rattle.std.proofs.lemmas.List.Elements.{All-cons, All-head, All-nil, All-tail}
use Rattle.syntax_tree.specs.declared.Name.{Name}
use Rattle.types.specs.declared.form.TypeId.{TypeId}
use Rattle.scopes.specs.Scopes.{Region, Knows}
use Rattle.scopes.specs.declared.denotation.Denotation.TheVariants as denotes
use Rattle.typed_tree.specs.declared.fault.TypeFault.{TypeFault}
use Rattle.typing.specs.Denoters.{constants_from}
use Rattle.typing.specs.Names.{folded}
use Rattle.typing.specs.Outcomes.{IsFault}
use Rattle.typing.specs.Passing.{Passed, After, after, behind_marks}
use Rattle.typing_rules.specs.Checked.{Checked, and_then}
use Rattle.typing.specs.Steps.{value_of, declare}
use Rattle.typing.proofs.Rows.{behind_nothing}
use Rattle.declarations.specs.Known.{AreKnown}

module _ (regions : List Region) where
  abbrev IsKnown : Name → Type 0
  IsKnown name = Knows regions (folded name.text.now)

  -- the first of them
  pub first_known : (names more : List Name) → AreKnown (names ++ more) regions → AreKnown names regions
  first_known [] more known = All-nil IsKnown
  first_known (name ∷ names) more known =
      All-cons IsKnown name names (All-head IsKnown name (names ++ more) known)
      (first_known names more (All-tail IsKnown name (names ++ more) known))

  -- and those behind
  pub others_known : (names more : List Name) → AreKnown (names ++ more) regions → AreKnown more regions
  others_known [] more known = known
  others_known (name ∷ names) more known = others_known names more (All-tail IsKnown name (names ++ more) known)

  -- the one behind
  pub last_known : (names : List Name) (name : Name) → AreKnown (names ++ name ∷ []) regions → IsKnown name
  last_known names name known = All-head IsKnown name [] (others_known names (name ∷ []) known)

-- constants that are declared one after another
module _ (type_id : TypeId) (names : List Name) (old : Passed) where
  -- what is left, once some are declared
  abbrev pub AreLeft : ℕ → Passed → Type 0
  AreLeft i now = constants_from type_id 0 names old ≡ constants_from type_id i (drop i names) now

  -- what is left behind the next one
  abbrev behind : ℕ → Checked (After (Unit {0})) → Checked (After (Unit {0}))
  behind i declared = and_then declared (λ a. behind_marks a.look (constants_from type_id (i + 1) (drop (i + 1) names) a.passed))

  -- the next one has a value
  counted : (i : ℕ) (name : Name) (now : Passed) → i < length names → name ≡ get_or names i name → AreLeft i now
      → (value : ℤ) → value_of i name.place ≡ Ok value
      → constants_from type_id 0 names old ≡ behind i (declare name (denotes.Constant value type_id) now)
  counted i name now within is left value counts =
      left
      ∙ ap (λ ns. constants_from type_id i ns now) (drop_more names i name within)
      ∙ ap (λ n. constants_from type_id i (n ∷ drop (i + 1) names) now) (sym is)
      ∙ ap (λ c. and_then (and_then c (λ v. Ok (after v [] now)))
      (λ a. behind_marks a.look (behind i (declare name (denotes.Constant a.answer type_id) a.passed)))) counts
      ∙ behind_nothing (behind i (declare name (denotes.Constant value type_id) now))

  -- and is declared
  pub constant_next : (i : ℕ) (name : Name) (now new : Passed) → i < length names → name ≡ get_or names i name → AreLeft i now
      → (value : ℤ) → value_of i name.place ≡ Ok value → declare name (denotes.Constant value type_id) now ≡ Ok (after tt [] new) → AreLeft (i + 1) new
  constant_next i name now new within is left value counts passes =
      counted i name now within is left value counts ∙ ap (behind i) passes
      ∙ behind_nothing (constants_from type_id (i + 1) (drop (i + 1) names) new)

  -- it is not
  pub constant_stops : (i : ℕ) (name : Name) (now : Passed) (why : TypeFault) → i < length names → name ≡ get_or names i name → AreLeft i now
      → (value : ℤ) → value_of i name.place ≡ Ok value → IsFault (declare name (denotes.Constant value type_id) now) why
      → IsFault (constants_from type_id 0 names old) why
  constant_stops i name now why within is left value counts (inl memory) = inl memory
  constant_stops i name now why within is left value counts (inr stops) = inr (counted i name now within is left value counts ∙ ap (behind i) stops)

  -- it has no value
  pub value_stops : (i : ℕ) (name : Name) (now : Passed) (why : TypeFault) → i < length names → name ≡ get_or names i name → AreLeft i now
      → value_of i name.place ≡ Err why → IsFault (constants_from type_id 0 names old) why
  value_stops i name now why within is left counts = inr (
      left
      ∙ ap (λ ns. constants_from type_id i ns now) (drop_more names i name within)
      ∙ ap (λ n. constants_from type_id i (n ∷ drop (i + 1) names) now) (sym is)
      ∙ ap (λ c. and_then (and_then c (λ v. Ok (after v [] now)))
      (λ a. behind_marks a.look (behind i (declare name (denotes.Constant a.answer type_id) a.passed)))) counts)

  -- all are declared
  pub constants_end : (i : ℕ) (now : Passed) → length names ≤ i → AreLeft i now → constants_from type_id 0 names old ≡ Ok (after tt [] now)
  constants_end i now all left = left ∙ at_drop_all (λ ns. constants_from type_id i ns now) names i all
