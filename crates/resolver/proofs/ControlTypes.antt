-- The type of a control variable stays ordinal up to the bounds of its for statement.
use Rattle.std.proofs.Common.{◌≡◌, ℕ, true, List, [], ◌∷◌, Option, Some, None, is_some, Ok, refl, ap}
use Rattle.std.specs.Option.{option_and_then, option_map}
use Rattle.place.specs.declared.Place.{Place}
use Rattle.types.specs.Forms.{Form}
use Rattle.types.specs.Types.{form_at, form_kind, form_range, is_ordinal, kind_of, kind_range}
use Rattle.types.specs.declared.form.TypeId.{TypeId}
use Rattle.types.specs.declared.form.TypeKind.{TypeKind}
use Rattle.types.specs.declared.form.TypeKind.TheVariants as kind_of_type
use Rattle.typed_tree.specs.declared.tree.Scalar.TheVariants as scalar
use Rattle.typed_tree.specs.Look.{While}
use Rattle.typing.proofs.Ways.{enter_loop_walks, may_change_walks}
use Rattle.typing.specs.Passing.{Passed, after, behind_marks, mark}
use Rattle.typing.specs.Steps.{begin_loop, may_change}
use Rattle.typing_rules.specs.Checked.{and_then}
use Rattle.expression_resolver.specs.Values.{AreTestedAlike, tested_as}
use Rattle.expression_resolver.proofs.KeptKinds.{walked_alike}

kind_ordinal : (kind : TypeKind) → is_some (kind_range kind) ≡ true → tested_as (Some kind) ≡ scalar.Ordinal
kind_ordinal (kind_of_type.Ordinal range) is = refl
kind_ordinal (kind_of_type.Set base members) is = absurd cc
kind_ordinal kind_of_type.Structured is = absurd cc

form_ordinal : (form : Option Form) → is_some (option_and_then form_range form) ≡ true → tested_as (option_map form_kind form) ≡ scalar.Ordinal
form_ordinal None is = absurd cc
form_ordinal (Some form) is = kind_ordinal (form_kind form) is

-- what is assigned to an ordinal type is an ordinal
pub ordinal_tested : (types : List Form) (id : TypeId) → is_ordinal types id ≡ true → tested_as (kind_of types id) ≡ scalar.Ordinal
ordinal_tested types id is = form_ordinal (form_at types id) is

pub change_alike : (place : Place) (root : ℕ) (old new : Passed) → may_change place root old ≡ Ok (after tt [] new) → AreTestedAlike old.types new.types
change_alike place root = walked_alike (may_change_walks place root) tt []

-- its own mark is of no weight
pub loop_alike : (numbers : ℕ × ℕ) (old new : Passed) → begin_loop old ≡ Ok (after numbers [] new) → AreTestedAlike old.types new.types
loop_alike numbers old new passes =
    walked_alike (enter_loop_walks (λ n l. While n l old.latest) (λ n l. refl)) tt (While numbers.0 numbers.1 old.latest ∷ []) old new
    (ap (λ begun. and_then begun (λ a. behind_marks a.look (mark (While a.answer.0 a.answer.1 old.latest) a.passed))) passes)
