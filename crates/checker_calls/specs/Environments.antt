-- What holds of stores and of what is visible in every run (ISO 7185:1990, 6.2.2, 6.2.3, 6.5.1, 6.6.3): each value lies
-- among those of the type of its place, and in an activation that has begun; each variable that is visible in a block
-- has a place of its type. It does not say that a run keeps it.
use Rattle.std.specs.Prelude.{◌≡◌, ℕ, ℤ, ◌<◌, true, false, List, [], ◌∷◌, Option, Some, None, if◌then◌else◌}
use Rattle.std.specs.Prelude.{◌⊎◌, slice_get, Contains}
use Rattle.std.specs.Option.{option_and_then}
use Rattle.types.specs.Forms.{Form}
use Rattle.types.specs.Types.{element_of, field_at, scalar_range_of}
use Rattle.types.specs.declared.form.ArrayElement.{ArrayElement}
use Rattle.types.specs.declared.form.OrdinalRange.{OrdinalRange}
use Rattle.types.specs.declared.form.RecordField.{RecordField}
use Rattle.types.specs.declared.form.Step.{Step}
use Rattle.types.specs.declared.form.Step.TheVariants.{Element, Field}
use Rattle.types.specs.declared.form.TypeId.{TypeId}
use Rattle.typed_tree.specs.declared.tree.Tree.{Tree}
use Rattle.typed_tree.specs.declared.tree.Variable.{Variable}
use Rattle.typed_tree.specs.WellFormed.{is_visible, outline_of}
use Rattle.meaning.specs.declared.value.Value.{Value}
use Rattle.meaning.specs.Effect as effect
use Rattle.meaning.specs.Integers.{is_within}
use Rattle.meaning.specs.Kinds.{IsOfType}
use Rattle.meaning.specs.Store.{Environment, Place, Store, is_beginning, stored}
use Rattle.checker_state.specs.Holds.{IsIn, Separate}
use Rattle.checker_state.specs.Loops.{is_among}
use Rattle.checker_rows.specs.Limits.{limits_of}
use Rattle.checker_loops.specs.Starts.{is_passed_value}

-- ---- the types of places

-- the type of what a step leads to from a value of a type, if it is there
abbrev pub element_behind : ℤ → Option ArrayElement → Option TypeId
element_behind index None = None
element_behind index (Some element) =
    if is_within element.range.first element.range.last index then Some element.type_id else None

abbrev pub field_behind : Option RecordField → Option TypeId
field_behind None = None
field_behind (Some field) = Some field.type_id

abbrev pub type_behind : List Form → Step → TypeId → Option TypeId
type_behind types (Element index) id = element_behind index (element_of types id)
type_behind types (Field position) id = field_behind (field_at types id position)

-- the type of what steps lead to
abbrev pub type_led : List Form → List Step → TypeId → Option TypeId
type_led types [] id = Some id
type_led types (step ∷ steps) id = option_and_then (type_led types steps) (type_behind types step id)

-- the type of what lies at a place: that to which its steps lead from its variable's
abbrev pub place_type : Tree → Place → Option TypeId
place_type tree place =
    option_and_then (λ variable. type_led tree.types place.steps variable.type_id)
    (slice_get tree.variables.items place.variable)

-- ---- stores

-- a value lies among those of a scalar type: it is of its kind, a number or a set, and in its range
abbrev pub LiesIn : List Form → TypeId → Value → Type 0
LiesIn types id v =
    (range : OrdinalRange) × (scalar_range_of types id ≡ Some range) × IsIn (limits_of range) v
    × IsOfType types (Some id) v

-- each value lies among those of the type of its place
abbrev pub Typed : Tree → Store → Type 0
Typed tree store =
    (place : Place) (v : Value) → stored store place ≡ Some v
    → (id : TypeId) × (place_type tree place ≡ Some id) × LiesIn tree.types id v

-- each value lies in one of so many activations
abbrev pub Begun : ℕ → Store → Type 0
Begun activations store =
    (place : Place) (v : Value) → stored store place ≡ Some v → place.activation < activations

pub record Fine (tree : Tree) (s : effect.State) : Type 0 where
  pub typed : Typed tree s.store
  pub begun : Begun s.activations s.store

-- ---- what is visible

-- what is visible in a block, among so many activations, where the variables of these pairs may share a place
pub record Proper (tree : Tree) (pairs : List (ℕ × ℕ)) (block activations : ℕ) (env : Environment) : Type 0 where
  pub types_are : env.types ≡ tree.types
  -- each variable that is visible in the block has a place, and no other
  pub visible : (root : ℕ) → is_visible (outline_of tree) block root ≡ true
      → (place : Place) × (env.variables root ≡ Some place)
  pub only : (root : ℕ) → is_visible (outline_of tree) block root ≡ false → env.variables root ≡ None
  -- it is one of the variable's type
  pub typed : (root : ℕ) (place : Place) (variable : Variable) → env.variables root ≡ Some place
      → slice_get tree.variables.items root ≡ Some variable → place_type tree place ≡ Some variable.type_id
  -- in an activation that has begun
  pub begun : (root : ℕ) (place : Place) → env.variables root ≡ Some place → place.activation < activations
  -- two of them share a place only if they are a pair
  pub separate : Separate env pairs

-- ---- what a call leaves

-- a place is that of a variable, or of a part of it
abbrev pub LiesUnder : Place → Place → Type 0
LiesUnder home place =
    (home.activation ≡ place.activation) × (home.variable ≡ place.variable)
    × (is_beginning home.steps place.steps ≡ true)

-- a place is a part of that of a variable which is among these
abbrev pub IsListed : List ℕ → Environment → Place → Type 0
IsListed changes visible place =
    (root : ℕ) × (home : Place) × Contains changes root × (visible.variables root ≡ Some home) × LiesUnder home place

-- an activation of this number, where this is visible and whose block lists these changes, left what lies in earlier
-- activations as it was, but for the places of what is listed; and there too it left each variable defined that was
pub record CallLeaves (number : ℕ) (changes : List ℕ) (visible : Environment) (before after : Store) : Type 0 where
  pub values : (place : Place) → place.activation < number
      → IsListed changes visible place ⊎ (stored after place ≡ stored before place)
  pub defined : (place : Place) (v : Value) → place.activation < number → stored before place ≡ Some v
      → (w : Value) × (stored after place ≡ Some w)

-- what was passed as a value in an activation of a block, and isn't listed, it left as it was
abbrev pub LeavesPassed : Tree → (activation block : ℕ) → (changes : List ℕ) → (before after : Store) → Type 0
LeavesPassed tree activation block changes before after =
    (root : ℕ) (variable : Variable) (steps : List Step) → slice_get tree.variables.items root ≡ Some variable
    → is_passed_value block variable ≡ true → is_among root changes ≡ false
    → stored after (record { activation = activation; variable = root; steps = steps })
    ≡ stored before (record { activation = activation; variable = root; steps = steps })
