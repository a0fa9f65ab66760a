-- What scalars hold by their kinds: a number of type integer, or a set. It tells the kinds of the components of types, of
-- places and of the values of expressions.
use Rattle.code_generator.proofs.Words.{◌≡◌, suc, List, [], ◌∷◌, ◌++◌, length, map, Option, Some, None, refl, ap, ◌∙◌, Bool, true}
use Rattle.code_generator.proofs.Words.{option_and_then, false≢true, none-some, Form, TypeId, components_of, Value, Place, number_of, Cell}
use Rattle.code_generator.proofs.Words.{Undefined, Number, is_ordinal}
use Rattle.std.proofs.lemmas.Option.{cond_some}
use Rattle.std.specs.Prelude.{is_some}
use Rattle.types.specs.declared.form.OrdinalRange.{OrdinalRange}
use Rattle.types.specs.declared.form.TypeKind.{TypeKind}
use Rattle.types.specs.declared.form.TypeKind.TheVariants as kind
use Rattle.types.specs.Components.{Steps}
use Rattle.types.specs.Types.{is_scalar, kind_of, scalar_range}
use Rattle.typed_tree.specs.declared.tree.Scalar.{Scalar}
use Rattle.typed_tree.specs.declared.tree.Scalar.TheVariants as scalar
use Rattle.typed_tree.specs.Accesses.{lying}
use Rattle.typed_tree.specs.Kinds.{Held, held_where, is_held}
use Rattle.typed_tree.specs.WellFormed.{Outline, is_held_by, is_test_of}
use Rattle.meaning.specs.declared.value.Value.TheVariants as value
use Rattle.meaning.specs.Kinds.{type_at, way_of}
use Rattle.meaning.proofs.KindsTypes.{held-is, ordinal-kind, same-type, type-part}
use Rattle.meaning.specs.Store.{place_eq}
use Rattle.stack_machine.specs.declared.cell.Cell.TheVariants.{Set}
use Rattle.code_generator.proofs.Numbers.{Fits}

-- a value is of a kind
abbrev pub HasKind : Scalar → Value → Type 0
HasKind scalar.Ordinal (value.Number n) = Fits n
HasKind scalar.Ordinal (value.Members set) = ⊥
HasKind scalar.Set (value.Number n) = ⊥
HasKind scalar.Set (value.Members set) = Unit {0}

-- the cell of a value
abbrev pub value_cell : Value → Cell
value_cell (value.Number n) = Number n
value_cell (value.Members set) = Set set

-- what a cell holds for a scalar
abbrev pub cell_of : Option Value → Cell
cell_of None = Undefined
cell_of (Some v) = value_cell v

-- what a scalar of a kind may hold; one of no kind holds nothing
abbrev pub HasFit : Option Scalar → Option Value → Type 0
HasFit kind None = Unit {0}
HasFit None (Some v) = ⊥
HasFit (Some kind) (Some v) = HasKind kind v

-- ---- an ordinal

pub ordinal_is : (v : Value) → HasKind scalar.Ordinal v → v ≡ value.Number (number_of v)
ordinal_is (value.Number n) has = refl
ordinal_is (value.Members set) has = absurd has

pub ordinal_cell : (v : Value) → HasKind scalar.Ordinal v → value_cell v ≡ Number (number_of v)
ordinal_cell v has = ap value_cell (ordinal_is v has)

pub ordinal_fits : (v : Value) → HasKind scalar.Ordinal v → Fits (number_of v)
ordinal_fits (value.Number n) has = has
ordinal_fits (value.Members set) has = absurd has

-- ---- kinds of types

abbrev pub kind_scalar : Option TypeKind → Option Scalar
kind_scalar (Some (kind.Ordinal range)) = Some scalar.Ordinal
kind_scalar (Some (kind.Set base members)) = Some scalar.Set
kind_scalar (Some kind.Structured) = None
kind_scalar None = None

-- the scalar that a type is
abbrev pub scalar_of : List Form → TypeId → Option Scalar
scalar_of types id = kind_scalar (kind_of types id)

-- that of a place
abbrev pub scalar_at : Outline → Place → Option Scalar
scalar_at outline p = option_and_then (scalar_of outline.types) (type_at outline p)

held_kind : (held : Scalar) (of : Option TypeKind) → is_held_by held of ≡ true → kind_scalar of ≡ Some held
held_kind scalar.Ordinal (Some (kind.Ordinal range)) is = refl
held_kind scalar.Ordinal (Some (kind.Set base members)) is = absurd (false≢true is)
held_kind scalar.Ordinal (Some kind.Structured) is = absurd (false≢true is)
held_kind scalar.Ordinal None is = absurd (false≢true is)
held_kind scalar.Set (Some (kind.Ordinal range)) is = absurd (false≢true is)
held_kind scalar.Set (Some (kind.Set base members)) is = refl
held_kind scalar.Set (Some kind.Structured) is = absurd (false≢true is)
held_kind scalar.Set None is = absurd (false≢true is)

tested_kind : (tests : Scalar) (range : OrdinalRange) (of : Option TypeKind) → is_test_of tests range of ≡ true → kind_scalar of ≡ Some tests
tested_kind scalar.Ordinal range (Some (kind.Ordinal other)) is = refl
tested_kind scalar.Ordinal range (Some (kind.Set base members)) is = absurd (false≢true is)
tested_kind scalar.Ordinal range (Some kind.Structured) is = absurd (false≢true is)
tested_kind scalar.Ordinal range None is = absurd (false≢true is)
tested_kind scalar.Set range (Some (kind.Ordinal other)) is = absurd (false≢true is)
tested_kind scalar.Set range (Some (kind.Set base members)) is = refl
tested_kind scalar.Set range (Some kind.Structured) is = absurd (false≢true is)
tested_kind scalar.Set range None is = absurd (false≢true is)

scalar_kind : (held : Scalar) (of : Option TypeKind) → kind_scalar of ≡ Some held
    → is_some (option_and_then scalar_range of) ≡ true
scalar_kind held (Some (kind.Ordinal range)) is = refl
scalar_kind held (Some (kind.Set base members)) is = refl
scalar_kind held (Some kind.Structured) is = absurd (none-some held is)
scalar_kind held None is = absurd (none-some held is)

module _ (types : List Form) (id : TypeId) where
  -- that of a variable that holds such a one, of a test, and of an ordinal
  pub scalar_held : (held : Scalar) → is_held_by held (kind_of types id) ≡ true → scalar_of types id ≡ Some held
  scalar_held held is = held_kind held (kind_of types id) is

  pub scalar_tested : (tests : Scalar) (range : OrdinalRange) → is_test_of tests range (kind_of types id) ≡ true → scalar_of types id ≡ Some tests
  scalar_tested tests range is = tested_kind tests range (kind_of types id) is

  pub scalar_ordinal : is_ordinal types id ≡ true → scalar_of types id ≡ Some scalar.Ordinal
  scalar_ordinal is = scalar_held scalar.Ordinal (ordinal-kind types id is)

  -- a type that is a scalar
  pub is_scalar_of : (held : Scalar) → scalar_of types id ≡ Some held → is_scalar types id ≡ true
  is_scalar_of held is = scalar_kind held (kind_of types id) is

-- ---- kinds of places

module _ (outline : Outline) (p : Place) where
  -- one of a type
  pub scalar_there : (id : TypeId) → type_at outline p ≡ Some id → scalar_at outline p ≡ scalar_of outline.types id
  scalar_there id is = ap (option_and_then (scalar_of outline.types)) is

  -- a part of it
  pub type_inside : (id : TypeId) (steps : Steps) → type_at outline p ≡ Some id
      → type_at outline (record p { steps = p.steps ++ steps }) ≡ lying outline.types (way_of steps) id
  type_inside id steps is = type-part outline p steps ∙ ap (option_and_then (lying outline.types (way_of steps))) is

-- the same place has the same kind
pub scalar_same : (outline : Outline) (p q : Place) → place_eq p q ≡ true → scalar_at outline p ≡ scalar_at outline q
scalar_same outline p q same = ap (option_and_then (scalar_of outline.types)) (same-type outline p q same)

-- ---- kinds of components

-- that of the component to which steps lead from a value of a type
abbrev pub scalar_on : List Form → TypeId → Steps → Option Scalar
scalar_on types id steps = option_and_then (scalar_of types) (lying types (way_of steps) id)

-- those of some components, and of all components of a type
abbrev pub scalars_on : List Form → TypeId → List Steps → List (Option Scalar)
scalars_on types id components = map (scalar_on types id) components

abbrev pub scalars_of : List Form → TypeId → List (Option Scalar)
scalars_of types id = scalars_on types id (components_of types id)

-- values of these kinds
abbrev pub AllFit : List (Option Scalar) → List Value → Type 0
AllFit [] [] = Unit {0}
AllFit [] (v ∷ vs) = ⊥
AllFit (kind ∷ kinds) [] = ⊥
AllFit (kind ∷ kinds) (v ∷ vs) = HasFit kind (Some v) × AllFit kinds vs

pub fit_length : (kinds : List (Option Scalar)) (vs : List Value) → AllFit kinds vs → length vs ≡ length kinds
fit_length [] [] fit = refl
fit_length [] (v ∷ vs) fit = absurd fit
fit_length (kind ∷ kinds) [] fit = absurd fit
fit_length (kind ∷ kinds) (v ∷ vs) fit = ap suc (fit_length kinds vs fit.1)

-- ---- what an expression is

-- where a test has to hold, it does
pub held_so : (test : Bool) (held kind : Scalar) → held_where test held ≡ Some kind → (test ≡ true) × (held ≡ kind)
held_so test held kind is = cond_some test held kind is

pub is_kind : (wanted : Scalar) (held : Held) → is_held wanted held ≡ true → held ≡ Some wanted
is_kind wanted held is = held-is wanted held is
