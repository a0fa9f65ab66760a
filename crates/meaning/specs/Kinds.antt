-- What kinds of values types have, which type lies at a place, and where the records of with statements lie (ISO
-- 7185:1990, 6.4.2, 6.4.3.4, 6.5.1, 6.8.3.10). It does not say that a run keeps to it.
use Rattle.std.specs.Prelude.{◌≡◌, ℕ, List, [], ◌∷◌, Option, Some, None, map, slice_get}
use Rattle.std.specs.Option.{option_and_then, option_map}
use Rattle.members.specs.Laws.{IsSet}
use Rattle.types.specs.declared.form.Step.{Step}
use Rattle.types.specs.declared.form.Step.TheVariants as step
use Rattle.types.specs.declared.form.TypeId.{TypeId}
use Rattle.types.specs.declared.form.TypeKind.{TypeKind}
use Rattle.types.specs.declared.form.TypeKind.TheVariants as kind
use Rattle.types.specs.Forms.{Form}
use Rattle.types.specs.Types.{kind_of}
use Rattle.typed_tree.specs.declared.tree.PathStep.{PathStep}
use Rattle.typed_tree.specs.declared.tree.PathStep.TheVariants as path
use Rattle.typed_tree.specs.declared.tree.Scalar.{Scalar}
use Rattle.typed_tree.specs.declared.tree.Scalar.TheVariants as scalar
use Rattle.typed_tree.specs.Accesses.{lying}
use Rattle.typed_tree.specs.Records.{OpenRecord}
use Rattle.typed_tree.specs.WellFormed.{Outline}
use Rattle.meaning.specs.declared.value.Value.{Value}
use Rattle.meaning.specs.declared.value.Value.TheVariants.{Members, Number}
use Rattle.meaning.specs.Store.{Environment, Place, part}

-- a value is a number, or a set
abbrev pub IsOf : Scalar → Value → Type 0
IsOf scalar.Ordinal (Number n) = Unit {0}
IsOf scalar.Ordinal (Members set) = ⊥
IsOf scalar.Set (Number n) = ⊥
IsOf scalar.Set (Members set) = IsSet set

-- a type of this kind has such values
abbrev pub IsOfKind : Option TypeKind → Value → Type 0
IsOfKind (Some (kind.Ordinal range)) v = IsOf scalar.Ordinal v
IsOfKind (Some (kind.Set base members)) v = IsOf scalar.Set v
IsOfKind other v = ⊥

-- a type has such values; what has no type has none
abbrev pub IsOfType : List Form → Option TypeId → Value → Type 0
IsOfType types None v = ⊥
IsOfType types (Some id) v = IsOfKind (kind_of types id) v

-- the step of a place, without its index
abbrev pub way_step : Step → PathStep
way_step (step.Element index) = path.Element
way_step (step.Field position) = path.Field position

abbrev pub way_of : List Step → List PathStep
way_of steps = map way_step steps

-- the type of a variable, by its root
abbrev pub type_of : Outline → ℕ → Option TypeId
type_of outline root = option_map (λ variable. variable.type_id) (slice_get outline.variables root)

-- the type of what lies on a way in a variable
abbrev pub type_on : Outline → ℕ → List PathStep → Option TypeId
type_on outline root way = option_and_then (lying outline.types way) (type_of outline root)

-- the type of what lies at a place
abbrev pub type_at : Outline → Place → Option TypeId
type_at outline place = type_on outline place.variable (way_of place.steps)

-- a place lies on a way in a variable; one that isn't visible has none
abbrev pub LiesOn : Environment → ℕ → List PathStep → Option Place → Type 0
LiesOn env root way place =
    (steps : List Step) × (place ≡ part (env.variables root) steps) × (way_of steps ≡ way)

-- the records that are open lie at these places, by their slots
abbrev pub LieOpen : Environment → List OpenRecord → List (Option Place) → Type 0
LieOpen env [] [] = Unit {0}
LieOpen env [] (place ∷ places) = ⊥
LieOpen env (one ∷ others) [] = ⊥
LieOpen env (one ∷ others) (place ∷ places) = LiesOn env one.root one.steps place × LieOpen env others places
