-- What is passed to the formal parameters of a block, as the meaning has it, as it fits them, and as the checker knows it.
use Rattle.std.proofs.Common.{arith, ◌≡◌, ◌∙◌, refl, ℕ, ◌<◌, ℤ, ◌≤ℤ◌, true, List, [], ◌∷◌, length, map, Option, Some, None}
use Rattle.std.specs.Prelude.{int_le, nat_lt, neg_ℤ, slice_get, ◌&&◌}
use Rattle.std.specs.List.{list_all}
use Rattle.std.proofs.lemmas.List.{length-map}
use Rattle.std.proofs.lemmas.Bool.{and_parts}
use Rattle.std.proofs.lemmas.Int.{ints}
use Rattle.std.proofs.lemmas.Option.{none-some}
use Rattle.types.specs.Components.{components_of}
use Rattle.types.specs.Forms.{Form}
use Rattle.types.specs.declared.form.Step.{Step}
use Rattle.types.specs.declared.form.Step.TheVariants as step
use Rattle.types.specs.declared.form.TypeId.{TypeId}
use Rattle.types.specs.Types.{is_structured}
use Rattle.typed_tree.specs.Accesses.{Origin, AtVariable, accessed, index_count, root_of, step_of}
use Rattle.typed_tree.specs.WellFormed.{Outline, is_value_kind, is_variable_kind, is_well_formed_selector, is_whole}
use Rattle.typed_tree.specs.declared.tree.Selector.{Selector}
use Rattle.typed_tree.specs.declared.tree.Selector.TheVariants.{Element, Field}
use Rattle.typed_tree.specs.declared.tree.Tree.{Tree}
use Rattle.typed_tree.specs.declared.tree.Variable.{Variable}
use Rattle.domain.specs.Interval.{HasMember, Interval}
use Rattle.meaning.specs.declared.value.Value.{Value}
use Rattle.meaning.specs.Integers.{maxint}
use Rattle.meaning.specs.Meaning as meaning
use Rattle.meaning.specs.Meaning.{Argument}
use Rattle.meaning.specs.Store.{Environment, Place, Store, part}
use Rattle.checker_rows.specs.Leaves.{Leaf, is_named, leaves_of}
use Rattle.checker_rows.specs.Limits.{integer}
use Rattle.checker_rows.proofs.Selected.{Matches}
use Rattle.checker_rows.specs.Rows.{indexes_of}
use Rattle.checker_state.specs.Holds.{IsIn, moment}
use Rattle.checker_state.specs.Knows.{IsIndex, IsOfForm}
use Rattle.checker_state.specs.Stores.{Index, Reach}
use Rattle.checker_calls.specs.Actuals.{Actual, OfRows, OfValue, OfVariable, after_call, unknown_index, unknown_reach, way_accessed}
use Rattle.checker_calls.specs.Environments.{LiesIn, place_type, type_led}

-- ---- what an access reaches

-- an index of a way is a number of the range, and what its form says
pub record IsIndexOn (env : Environment) (store : Store) (index : Index) (number : ℤ) : Type 0 where
  pub in_range : HasMember index.range number
  pub of_form : IsIndex env store index number

-- each of some is, as they follow on the way
abbrev pub AreIndexesOn : Environment → Store → List Index → List ℤ → Type 0
AreIndexesOn env store [] numbers = Unit {0}
AreIndexesOn env store (index ∷ indexes) [] = ⊥
AreIndexesOn env store (index ∷ indexes) (number ∷ numbers) = IsIndexOn env store index number × AreIndexesOn env store indexes numbers

-- what is reached on a way, by its first indexes: all of that, where these are all indexes of the selectors; none is told only where there is none
pub record IsReachedBy (env : Environment) (store : Store) (selectors : List Selector) (way : List Step) (reach : Reach) : Type 0 where
  pub indexes : AreIndexesOn env store reach.indexes (indexes_of way)
  pub all : reach.is_all ≡ true → length reach.indexes ≡ index_count selectors
  pub none : reach.indexes ≡ [] → index_count selectors ≡ 0

-- numbers are integers
abbrev pub AreIntegers : List ℤ → Type 0
AreIntegers [] = Unit {0}
AreIntegers (number ∷ numbers) = HasMember integer number × AreIntegers numbers

-- an access leads to the place of a part of a variable, which is reached as the walk tells: by all selectors from the variable, those to the record at which
-- it begins and its own
pub record Leads (env : Environment) (origin : Origin) (selectors : List Selector) (store : Store) (reach : Reach) (place : Option Place) : Type 0 where
  pub all : List Selector
  pub steps_are : map step_of all ≡ way_accessed origin selectors
  pub way : List Step
  pub place_is : place ≡ part (env.variables (root_of origin)) way
  pub matches : Matches all way
  pub reached : IsReachedBy env store all way reach

-- the value of each component of a type lies in the range of the leaf that names it
abbrev pub LieIn : List Form → TypeId → List Interval → List Value → Type 0
LieIn types id ranges values =
    (k j : ℕ) (rest : List Step) (leaf : Leaf) (v : Value) (range : Interval) → slice_get (components_of types id) k ≡ Some rest
    → slice_get (leaves_of types id) j ≡ Some leaf → is_named leaf.steps rest ≡ true → slice_get values k ≡ Some v → slice_get ranges j ≡ Some range
    → IsIn range v

-- ---- what fits a formal parameter

-- values are those of the components of a type, each one of its own type
pub record AreComponentsOf (types : List Form) (id : TypeId) (values : List Value) : Type 0 where
  pub count : length values ≡ length (components_of types id)
  pub each : (k : ℕ) (rest : List Step) (v : Value) → slice_get (components_of types id) k ≡ Some rest → slice_get values k ≡ Some v
      → (own : TypeId) × (type_led types rest id ≡ Some own) × LiesIn types own v

-- what is passed fits a formal parameter: a value of its type, or a variable of its type, in an activation that has begun
abbrev pub Fits : Tree → ℕ → Argument → Variable → Type 0
Fits tree activations (meaning.OfValue v) formal = (is_value_kind formal.kind ≡ true) × LiesIn tree.types formal.type_id v
Fits tree activations (meaning.OfRow values) formal = (is_value_kind formal.kind ≡ true) × AreComponentsOf tree.types formal.type_id values
Fits tree activations (meaning.OfPlace None) formal = ⊥
Fits tree activations (meaning.OfPlace (Some place)) formal =
    (is_variable_kind formal.kind ≡ true) × (place_type tree place ≡ Some formal.type_id) × (place.activation < activations)

-- as many are passed as there are formal parameters, and each fits
abbrev pub AllFit : Tree → ℕ → List ℕ → List Argument → Type 0
AllFit tree activations [] [] = Unit {0}
AllFit tree activations [] (argument ∷ arguments) = ⊥
AllFit tree activations (root ∷ roots) [] = ⊥
AllFit tree activations (root ∷ roots) (argument ∷ arguments) =
    (formal : Variable) × (slice_get tree.variables.items root ≡ Some formal) × Fits tree activations argument formal
    × AllFit tree activations roots arguments

-- ---- what the checker knows of it

-- what is passed is what the checker knows of the actual parameter of a formal one
abbrev pub IsArgument : Tree → Environment → Store → Variable → Actual → Argument → Type 0
IsArgument tree env store formal (OfValue range form) (meaning.OfValue v) = IsIn range v × IsOfForm (moment env store) form v
IsArgument tree env store formal (OfRows ranges) (meaning.OfRow values) =
    (is_structured tree.types formal.type_id ≡ true) × (length ranges ≡ length (leaves_of tree.types formal.type_id))
    × LieIn tree.types formal.type_id ranges values
IsArgument tree env store formal (OfVariable origin selectors reach) (meaning.OfPlace place) =
    (leads : Leads env origin selectors store reach place)
    × (accessed tree.variables.items tree.types (AtVariable (root_of origin)) leads.all ≡ Some formal.type_id) × AreIntegers (indexes_of leads.way)
IsArgument tree env store formal actual argument = ⊥

abbrev pub AreArguments : Tree → Environment → Store → List ℕ → List Actual → List Argument → Type 0
AreArguments tree env store [] [] [] = Unit {0}
AreArguments tree env store (root ∷ roots) (actual ∷ actuals) (argument ∷ arguments) =
    (formal : Variable) × (slice_get tree.variables.items root ≡ Some formal) × IsArgument tree env store formal actual argument
    × AreArguments tree env store roots actuals arguments
AreArguments tree env store roots actuals arguments = ⊥

whole-between : (first last n : ℤ) → is_whole first ≡ true → is_whole last ≡ true → first ≤ℤ n → n ≤ℤ last → HasMember integer n
whole-between first last n one two low high =
    let a = and_parts (int_le (neg_ℤ maxint) first) (int_le first maxint) one in
    let b = and_parts (int_le (neg_ℤ maxint) last) (int_le last maxint) two in
    let above : neg_ℤ maxint ≤ℤ first = grind (arith, ints, a.0) in
    let below : last ≤ℤ maxint = grind (arith, ints, b.1) in
    (omega (arith, ints), omega (arith, ints))

-- so are the indexes on a way of well formed selectors
pub indexes-integer : (outline : Outline) (block : ℕ) (selectors : List Selector) (way : List Step)
    → list_all (is_well_formed_selector outline block) selectors ≡ true → Matches selectors way → AreIntegers (indexes_of way)
indexes-integer outline block [] [] well matches = tt
indexes-integer outline block [] (s ∷ way) well matches = absurd matches
indexes-integer outline block (Element fits cells ∷ selectors) [] well matches = absurd matches
indexes-integer outline block (Field position offset ∷ selectors) [] well matches = absurd matches
indexes-integer outline block (Element fits cells ∷ selectors) (step.Field place ∷ way) well matches = absurd matches
indexes-integer outline block (Field position offset ∷ selectors) (step.Element index ∷ way) well matches = absurd matches
indexes-integer outline block (Field position offset ∷ selectors) (step.Field place ∷ way) well matches =
    indexes-integer outline block selectors way well matches.1
indexes-integer outline block (Element fits cells ∷ selectors) (step.Element index ∷ way) well matches =
    let one = and_parts (nat_lt fits.site outline.sites && (is_whole fits.range.first && is_whole fits.range.last))
    (list_all (is_well_formed_selector outline block) selectors) well in
    let two = and_parts (nat_lt fits.site outline.sites) (is_whole fits.range.first && is_whole fits.range.last) one.0 in
    let three = and_parts (is_whole fits.range.first) (is_whole fits.range.last) two.1 in (
      whole-between fits.range.first fits.range.last index three.0 three.1 matches.0 matches.1,
      indexes-integer outline block selectors way one.1 matches.2,
    )

-- ---- an actual parameter that was evaluated before a call

module _ (tree : Tree) (env : Environment) (before after : Store) where
  indexes-later : (indexes : List Index) (numbers : List ℤ) → AreIntegers numbers → AreIndexesOn env before indexes numbers
      → AreIndexesOn env after (map (λ index. unknown_index) indexes) numbers
  indexes-later [] numbers integers on = tt
  indexes-later (index ∷ indexes) [] integers on = on
  indexes-later (index ∷ indexes) (number ∷ numbers) (integer, integers) (one, more) =
      (record { in_range = integer; of_form = λ b is. absurd (none-some b is) }, indexes-later indexes numbers integers more)

  unmapped : (indexes : List Index) → map (λ index. unknown_index) indexes ≡ [] → indexes ≡ []
  unmapped [] is = refl
  unmapped (index ∷ indexes) is = absurd (cc)

  pub reached-later : (selectors : List Selector) (way : List Step) (reach : Reach) → AreIntegers (indexes_of way) → IsReachedBy env before selectors way reach
      → IsReachedBy env after selectors way (unknown_reach reach)
  reached-later selectors way reach integers reached = record {
    indexes = indexes-later reach.indexes (indexes_of way) integers reached.indexes;
    all = λ is. length-map reach.indexes (λ index. unknown_index) ∙ reached.all is;
    none = λ is. reached.none (unmapped reach.indexes is);
  }

  -- it is still what is known of it then
  pub after-call_argument : (formal : Variable) (actual : Actual) (argument : Argument) → IsArgument tree env before formal actual argument
      → IsArgument tree env after formal (after_call actual) argument
  after-call_argument formal (OfValue range form) (meaning.OfValue v) is = (is.0, tt)
  after-call_argument formal (OfValue range form) (meaning.OfRow values) is = absurd is
  after-call_argument formal (OfValue range form) (meaning.OfPlace place) is = absurd is
  after-call_argument formal (OfRows ranges) (meaning.OfValue v) is = absurd is
  after-call_argument formal (OfRows ranges) (meaning.OfRow values) is = is
  after-call_argument formal (OfRows ranges) (meaning.OfPlace place) is = absurd is
  after-call_argument formal (OfVariable origin selectors reach) (meaning.OfValue v) is = absurd is
  after-call_argument formal (OfVariable origin selectors reach) (meaning.OfRow values) is = absurd is
  after-call_argument formal (OfVariable origin selectors reach) (meaning.OfPlace place) (leads, typed, integers) = (
    record {
      all = leads.all;
      steps_are = leads.steps_are;
      way = leads.way;
      place_is = leads.place_is;
      matches = leads.matches;
      reached = reached-later leads.all leads.way reach integers leads.reached;
    },
    typed,
    integers,
  )
