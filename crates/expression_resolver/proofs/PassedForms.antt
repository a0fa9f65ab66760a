-- An actual parameter: how its typing goes on by what the formal one is, and how what is passed looks.
use Rattle.std.proofs.Common.{◌≡◌, ℕ, List, [], ◌∷◌, ◌++◌, length, false, Option, Some, None, is_some, Ok, refl, sym}
use Rattle.std.proofs.Common.{ap₂, ◌∙◌}
use Rattle.std.specs.Option.{option_map}
use Rattle.place.specs.declared.Place.{Place}
use Rattle.syntax_tree.specs.declared.Expr.{Expr as SyntaxExpr}
use Rattle.syntax_tree.specs.declared.Name.{Name}
use Rattle.syntax_tree.specs.declared.Selector.{Selector}
use Rattle.types.specs.declared.form.TypeId.{TypeId}
use Rattle.typed_tree.specs.declared.tree.Passed.TheVariants as passes
use Rattle.typed_tree.specs.declared.tree.Scalar.TheVariants as scalar
use Rattle.typed_tree.specs.declared.tree.Selector.{Selector as TreeSelector}
use Rattle.typed_tree.specs.declared.tree.VariableKind.{VariableKind}
use Rattle.typed_tree.specs.declared.tree.VariableKind.TheVariants as kind
use Rattle.typed_tree.specs.Accesses.{Origin, index_count, origin_of, root_of}
use Rattle.typed_tree.specs.Look.{Access, ForValue, ForVariable, look_passed}
use Rattle.typed_tree.specs.WellFormed.{is_variable_kind}
use Rattle.typed_tree.proofs.Looks.{look_passed_variable}
use Rattle.typing.specs.Passing.{Passed, Passing, after, by_types, mark, ◌>>=◌, ◌>>◌}
use Rattle.typing.specs.Steps.{enter_as, may_change}
use Rattle.typing.specs.Expressions.{Denoted, Written, expression, passable, passed_ordinal, passed_variable}
use Rattle.typing.specs.Expressions.{selected, unless_width}
use Rattle.expression_resolver.specs.declared.typed.Reached.{Reached}
use Rattle.expression_resolver.specs.Accesses.{look_reached, named_variable, reached}
use Rattle.expression_resolver.specs.Made.{fitted}
use Rattle.expression_resolver.proofs.Fitting.{by_value}
use Rattle.expression_resolver.proofs.Selecting.{look_made, reached_then, variable_then}

-- ---- by what the formal one is

pub no_width : (place : Place) (width : Option SyntaxExpr) → is_some width ≡ false → unless_width place (option_map expression width) ≡ Ok tt
no_width place None none = refl
no_width place (Some width) none = absurd cc

pub other_kind : (one : VariableKind) → (one ≡ kind.VariableParameter → ⊥) → is_variable_kind one ≡ false
other_kind kind.Local other = refl
other_kind kind.ValueParameter other = refl
other_kind kind.VariableParameter other = absurd (other refl)
other_kind kind.Result other = refl

-- ---- values

module _ (type_id : TypeId) (w : Written) (callee position : ℕ) (s : Passed) where
  -- a value of an ordinal type, and then its mark
  pub ordinal_goes : passed_ordinal type_id w callee position s
      ≡ (fitted scalar.Ordinal type_id w.first w >>= (λ fits. mark (ForValue fits callee position))) s
  unfolding passed_ordinal
  ordinal_goes = by_value scalar.Ordinal type_id w.first w (λ fits. ForValue fits callee position) s

-- ---- variables

module _ (name : Name) (selectors : List Selector) (indexes : List Written) (wanted : TypeId) (callee position : ℕ) where
  abbrev pub behind_component : Denoted → List TreeSelector × TypeId → Passing (Unit {0})
  behind_component variable component =
      by_types (λ types. passable types wanted variable.from component.0 component.1 name.place)
      >> mark (ForVariable wanted variable.origin component.0 (index_count component.0) callee position)

  abbrev behind_variable : Denoted → Passing (Unit {0})
  behind_variable variable =
      may_change name.place (root_of variable.origin)
      >> (enter_as Access >> (selected variable.selectors variable.type_id selectors indexes >>= behind_component variable))

  -- it goes on behind what is reached
  pub access_goes : (old first : Passed) (variable : Denoted) → named_variable name old ≡ Ok (after variable [] first)
      → passed_variable name selectors indexes wanted callee position old
      ≡ (reached name.place variable selectors indexes >>= behind_component variable) first
  unfolding passed_variable
  access_goes old first variable finds =
      variable_then name behind_variable old first variable finds
      ∙ reached_then name.place variable selectors indexes (behind_component variable) first

-- as it is made
pub variable_made : (wanted : TypeId) (made : Reached) (origin : Origin) (callee position : ℕ) → origin_of made.access ≡ origin
    → index_count made.access.selectors.items ≡ length made.indexes.items
    → look_reached made ++ (ForVariable wanted origin made.access.selectors.items (index_count made.access.selectors.items) callee position ∷ [])
    ≡ look_passed (passes.Reference wanted made.access made.indexes) callee position
variable_made wanted made origin callee position is counted =
    ap₂ (λ o n. look_reached made ++ (ForVariable wanted o made.access.selectors.items n callee position ∷ [])) (sym is) counted
    ∙ sym (look_passed_variable wanted made.access made.indexes callee position
    ∙ look_made made.access made.indexes
    (ForVariable wanted (origin_of made.access) made.access.selectors.items (length made.indexes.items) callee position))
