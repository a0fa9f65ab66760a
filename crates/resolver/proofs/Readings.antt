-- Variables that are read: how their typing goes on from what is accessed, and how they look.
use Rattle.std.proofs.Common.{◌≡◌, ℕ, List, [], ◌∷◌, ◌++◌, length, Vec, Ok, Err, refl, sym, ap, ap₂, subst, ◌∙◌}
use Rattle.std.specs.declared.alloc.Global.{Global}
use Rattle.place.specs.declared.Place.{Place}
use Rattle.syntax_tree.specs.declared.Actual.{Actual}
use Rattle.syntax_tree.specs.declared.Expr.{Expr}
use Rattle.syntax_tree.specs.declared.Link.{Link}
use Rattle.syntax_tree.specs.declared.Name.{Name}
use Rattle.syntax_tree.specs.declared.Selector.{Selector}
use Rattle.syntax_tree.specs.declared.Expr.TheVariants as syntax
use Rattle.syntax_tree.specs.declared.Expr.TheOpen as layer
use Rattle.syntax_tree.specs.declared.Expr.TheViews.{out-Expr, roll-Expr, roll-out-Expr}
use Rattle.syntax_tree.specs.declared.Expr.TheFolds.{map-Expr, fold-roll-Expr}
use Rattle.types.specs.declared.form.OrdinalRange.{OrdinalRange}
use Rattle.types.specs.declared.form.TypeId.{TypeId}
use Rattle.typed_tree.specs.declared.fault.TypeFault.TheVariants.{NotVariable}
use Rattle.typed_tree.specs.declared.tree.Base.{Base}
use Rattle.typed_tree.specs.declared.tree.Base.TheVariants as base
use Rattle.typed_tree.specs.declared.tree.Readable.{Readable}
use Rattle.typed_tree.specs.declared.tree.Selector.{Selector as TreeSelector}
use Rattle.typed_tree.specs.Accesses.{Origin, index_count, origin_by, origin_of, root_of}
use Rattle.typed_tree.specs.Look.{Access, Reads, look_read}
use Rattle.typing.specs.Expressions.{Denoted, Written, WrittenActual, WrittenLink, actual_step, expression, expression_step, link_step, not_readable}
use Rattle.typing.specs.Expressions.{read_variable, selected, written_actual, written_link}
use Rattle.typing.specs.Passing.{Passed, Passing, after, behind_marks, by_types, mark, ◌>>=◌, ◌>>◌}
use Rattle.typing_rules.specs.Checked.{and_then}
use Rattle.typing_rules.specs.Targets.{read_as}
use Rattle.typing.specs.Steps.{enter_as, may_change, point}
use Rattle.typing.specs.View.{denoted_of}
use Rattle.typing.specs.declared.records.DenotedVariable.{DenotedVariable}
use Rattle.typing.proofs.Rows.{behind_nothing}
use Rattle.typing.proofs.Written.{typing_actual, written_expressions}
use Rattle.expression_resolver.specs.declared.typed.Reached.{Reached}
use Rattle.expression_resolver.specs.Accesses.{component_of, look_reached, named_variable}
use Rattle.expression_resolver.proofs.PassedForms.{no_width}
use Rattle.expression_resolver.proofs.Selecting.{component_then, look_made, variable_then}

-- the root of the variable at which an access begins, or in which its record lies
root_is : (root : ℕ) (one : Base) → root_of (origin_by root one) ≡ root
root_is root base.Variable = refl
root_is root (base.Record slot path) = refl

module _ (name : Name) (selectors : List Selector) (indexes : List Written) where
  abbrev pub behind_component : Denoted → ℕ → List TreeSelector × TypeId → Passing (Unit {0})
  behind_component variable id component =
      by_types (λ types. read_as types name.place component.1)
      >>= (λ read. mark (Reads variable.origin component.0 (index_count component.0) read.0 id read.1))

  abbrev behind_point : Denoted → ℕ → Passing (Unit {0})
  behind_point variable id = enter_as Access >> (selected variable.selectors variable.type_id selectors indexes >>= behind_component variable id)

  abbrev pub behind_variable : Denoted → Passing (Unit {0})
  behind_variable variable = may_change name.place (root_of variable.origin) >> (point name.place >>= behind_point variable)

  -- it goes on behind the variable
  pub read_goes : (old first : Passed) (variable : Denoted) → named_variable name old ≡ Ok (after variable [] first)
      → read_variable name selectors indexes old ≡ behind_variable variable first
  unfolding read_variable
  read_goes old first variable finds = variable_then name behind_variable old first variable finds

  -- and behind what is accessed, once the variable may be changed and has its point
  pub accessed_goes : (old first changed now : Passed) (made : DenotedVariable) (id : ℕ) → named_variable name old ≡ Ok (after (denoted_of made) [] first)
      → may_change name.place made.root first ≡ Ok (after tt [] changed) → point name.place changed ≡ Ok (after id [] now)
      → read_variable name selectors indexes old ≡ (component_of (denoted_of made) selectors indexes >>= behind_component (denoted_of made) id) now
  accessed_goes old first changed now made id finds changes counts =
      let variable = denoted_of made in
      read_goes old first variable finds
      ∙ ap (λ r. and_then r (λ a. behind_marks a.look ((point name.place >>= behind_point variable) a.passed)))
      (ap (λ root. may_change name.place root first) (root_is made.root made.base) ∙ changes)
      ∙ behind_nothing ((point name.place >>= behind_point variable) changed)
      ∙ ap (λ r. and_then r (λ a. behind_marks a.look (behind_point variable a.answer a.passed))) counts
      ∙ behind_nothing (behind_point variable id now)
      ∙ component_then variable selectors indexes (behind_component variable id) now

-- as it is made
pub read_made : (made : Reached) (origin : Origin) (reads : Readable) (id : ℕ) (range : OrdinalRange) → origin_of made.access ≡ origin
    → index_count made.access.selectors.items ≡ length made.indexes.items
    → look_reached made ++ (Reads origin made.access.selectors.items (index_count made.access.selectors.items) reads id range ∷ [])
    ≡ look_read (record { access = made.access; indexes = made.indexes; reads = reads; point = id; range = range })
read_made made origin reads id range is counted =
    ap₂ (λ o n. look_reached made ++ (Reads o made.access.selectors.items n reads id range ∷ [])) (sym is) counted
    ∙ sym (look_made made.access made.indexes (Reads (origin_of made.access) made.access.selectors.items (length made.indexes.items) reads id range))

-- ---- what is read, as it is written

abbrev as_written : layer.Expr-F Expr Actual Link → Written
as_written d = expression_step (map-Expr Expr Actual Link Written WrittenActual WrittenLink expression written_actual written_link d)

not_read : (place : Place) (s : Passed) → not_readable place s ≡ Err (NotVariable place)
unfolding not_readable
not_read place s = refl

module _ (w : Expr) (s : Passed) (no_name : (name : Name) → ¬ (w ≡ syntax.Name name))
    (none : (name : Name) (selectors : Vec Selector Global) (indexes : Vec Expr Global) → ¬ (w ≡ syntax.Component name selectors indexes)) where
  written_is : (d : layer.Expr-F Expr Actual Link) → roll-Expr d ≡ w → as_written d ≡ expression w
  written_is d is = sym (ap expression (sym is) ∙ fold-roll-Expr Written WrittenActual WrittenLink expression_step actual_step link_step d)

  other_form : (d : layer.Expr-F Expr Actual Link) → roll-Expr d ≡ w → (as_written d).reading s ≡ Err (NotVariable (as_written d).first)
  other_form (layer.Name name) is = absurd (no_name name (sym is ∙ syntax.rolls-Name name))
  other_form (layer.Component name selectors indexes) is = absurd (none name selectors indexes (sym is ∙ syntax.rolls-Component name selectors indexes))
  other_form other is = not_read (as_written other).first s

  -- what is no variable isn't
  pub not_variable : (expression w).reading s ≡ Err (NotVariable (expression w).first)
  not_variable =
      subst (λ (e : Written). e.reading s ≡ Err (NotVariable e.first)) (written_is (out-Expr w) (roll-out-Expr w))
      (other_form (out-Expr w) (roll-out-Expr w))

pub ruleset read_forms = (typing_actual, no_width, written_expressions)
