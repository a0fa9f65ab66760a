-- Targets of assignments: how their typing goes on from what is reached, and how they look.
use Rattle.std.proofs.Common.{◌≡◌, true, false, List, [], ◌∷◌, ◌++◌, Option, Some, None, Result, Ok, Err, IfOk, length, inl, inr, refl, sym, ap, ap₂, ◌∙◌}
use Rattle.place.specs.declared.Place.{Place}
use Rattle.syntax_tree.specs.declared.Name.{Name}
use Rattle.syntax_tree.specs.declared.Selector.{Selector}
use Rattle.types.specs.declared.form.TypeId.{TypeId}
use Rattle.types.specs.declared.form.TypeKind.{TypeKind}
use Rattle.types.specs.declared.form.TypeKind.TheVariants as kind_of_type
use Rattle.types.specs.Types.{is_structured_kind, kind_of}
use Rattle.scopes.specs.declared.denotation.Denotation.{Denotation}
use Rattle.typed_tree.specs.declared.fault.TypeFault.{TypeFault}
use Rattle.typed_tree.specs.declared.tree.Selector.{Selector as TreeSelector}
use Rattle.typed_tree.specs.Accesses.{Origin, index_count, origin_of, root_of}
use Rattle.typed_tree.specs.Look.{Look, Access, Target, WholeTarget}
use Rattle.typing.specs.Expressions.{Denoted, Written, kind_now, selected}
use Rattle.typing_rules.specs.Denotations.{as_routine}
use Rattle.typing.specs.Outcomes.{Makes}
use Rattle.typing.specs.Passing.{Passed, Passing, After, after, behind_marks, mark, pure, ◌>>=◌, ◌>>◌}
use Rattle.typing_rules.specs.Checked.{Checked, and_then}
use Rattle.typing.specs.Statements.{Accessed, assigned, assigned_by_kind, target, target_mark, target_of}
use Rattle.typing.specs.Steps.{enter_as, find, may_change}
use Rattle.typing.proofs.Rows.{behind_nothing}
use Rattle.expression_resolver.specs.declared.typed.Reached.{Reached}
use Rattle.expression_resolver.specs.Accesses.{look_reached, reached}
use Rattle.expression_resolver.specs.Values.{tested_as}
use Rattle.expression_resolver.proofs.Selecting.{look_made, reached_then}
use Rattle.resolver.specs.Made.{MakesTarget, accessed_of, target_look}

-- the mark of what is reached
mark_counted : (kind : Option TypeKind) (made : Reached) (origin : Origin) → origin_of made.access ≡ origin
    → index_count made.access.selectors.items ≡ length made.indexes.items
    → target_mark kind origin made.access.selectors.items made.type_id ≡ target_look kind made
mark_counted (Some kind_of_type.Structured) made origin same counted =
    ap₂ (λ o n. WholeTarget o made.access.selectors.items n made.type_id) (sym same) counted
mark_counted (Some (kind_of_type.Set base members)) made origin same counted = ap₂ (λ o n. Target o made.access.selectors.items n) (sym same) counted
mark_counted (Some (kind_of_type.Ordinal range)) made origin same counted = ap₂ (λ o n. Target o made.access.selectors.items n) (sym same) counted
mark_counted None made origin same counted = ap₂ (λ o n. Target o made.access.selectors.items n) (sym same) counted

-- a value is copied to a structured target, and else fitted
pub structured_kind : (kind : Option TypeKind) → is_structured_kind kind ≡ true → kind ≡ Some kind_of_type.Structured
structured_kind (Some kind_of_type.Structured) is = refl
structured_kind (Some (kind_of_type.Set base members)) is = absurd cc
structured_kind (Some (kind_of_type.Ordinal range)) is = absurd cc
structured_kind None is = absurd cc

pub scalar_kind : (kind : Option TypeKind) (to : Accessed) (becomes : Place) (value : Written) → is_structured_kind kind ≡ false
    → assigned_by_kind kind to becomes value ≡ assigned (tested_as kind) to becomes value
scalar_kind (Some kind_of_type.Structured) to becomes value is = absurd cc
scalar_kind (Some (kind_of_type.Set base members)) to becomes value is = refl
scalar_kind (Some (kind_of_type.Ordinal range)) to becomes value is = refl
scalar_kind None to becomes value is = refl

pub scalar_look : (kind : Option TypeKind) (made : Reached) → is_structured_kind kind ≡ false
    → target_look kind made ≡ Target (origin_of made.access) made.access.selectors.items (length made.indexes.items)
scalar_look (Some kind_of_type.Structured) made is = absurd cc
scalar_look (Some (kind_of_type.Set base members)) made is = refl
scalar_look (Some (kind_of_type.Ordinal range)) made is = refl
scalar_look None made is = refl

abbrev accessed_by : Origin → List TreeSelector × TypeId → Accessed
accessed_by origin component = record { origin = origin; selectors = component.0; type_id = component.1 }

module _ (name : Name) (selectors : List Selector) (indexes : List Written) where
  abbrev behind_component : Origin → List TreeSelector × TypeId → Passing Accessed
  behind_component origin component =
      kind_now component.1 >>= (λ found. mark (target_mark found origin component.0 component.1) >> pure (accessed_by origin component))

  abbrev behind_variable : Denoted → Passing Accessed
  behind_variable variable =
      may_change name.place (root_of variable.origin)
      >> (enter_as Access >> (selected variable.selectors variable.type_id selectors indexes >>= behind_component variable.origin))

  abbrev behind_name : Denotation → Passing Accessed
  behind_name d = target_of (as_routine d) selectors name.place d >>= behind_variable

  module _ (d : Denotation) (variable : Denoted) (old first now : Passed) (finds : find name old ≡ Ok (after d [] first)) where
    behind_find : target name selectors indexes old ≡ behind_marks [] (behind_name d first)
    unfolding target
    behind_find = ap (λ r. and_then r (λ a. behind_marks a.look (behind_name a.answer a.passed))) finds

    module _ (is : target_of (as_routine d) selectors name.place d first ≡ Ok (after variable [] now)) where
      abbrev behind_reached : Checked (After (List TreeSelector × TypeId)) → Checked (After Accessed)
      behind_reached outcome = and_then outcome (λ a. behind_marks a.look (behind_component variable.origin a.answer a.passed))

      goes : target name selectors indexes old ≡ behind_reached (reached name.place variable selectors indexes now)
      goes =
          behind_find
          ∙ ap (λ r. behind_marks [] (and_then r (λ a. behind_marks a.look (behind_variable a.answer a.passed)))) is
          ∙ behind_nothing (behind_marks [] (behind_variable variable now))
          ∙ behind_nothing (behind_variable variable now)
          ∙ reached_then name.place variable selectors indexes (behind_component variable.origin) now

      reach_passes : (component : List TreeSelector × TypeId) (look : Look) (last : Passed)
          → reached name.place variable selectors indexes now ≡ Ok (after component look last)
          → target name selectors indexes old
          ≡ Ok (after (accessed_by variable.origin component)
          (look ++ (target_mark (kind_of last.types component.1) variable.origin component.0 component.1 ∷ [])) last)
      unfolding kind_now
      reach_passes component look last passes = goes ∙ ap behind_reached passes

      -- as it is made
      pub target_made : (result : Result Reached TypeFault) (new : Passed)
          → Makes (λ made. (made.access.selectors.items, made.type_id)) look_reached (reached name.place variable selectors indexes now) result new
          → IfOk result (λ made. origin_of made.access ≡ variable.origin)
          → IfOk result (λ made. index_count made.access.selectors.items ≡ length made.indexes.items)
          → MakesTarget (target name selectors indexes old) result new
      target_made (Ok made) new passes origin counted =
          let kind = kind_of new.types made.type_id in
          reach_passes (made.access.selectors.items, made.type_id) (look_reached made) new passes
          ∙ ap (λ o. Ok (after (accessed_by o (made.access.selectors.items, made.type_id))
          (look_reached made ++ (target_mark kind variable.origin made.access.selectors.items made.type_id ∷ [])) new)) (sym origin)
          ∙ ap (λ does. Ok (after (accessed_of made) (look_reached made ++ (does ∷ [])) new)) (mark_counted kind made variable.origin origin counted)
          ∙ ap (λ look. Ok (after (accessed_of made) look new)) (sym (look_made made.access made.indexes (target_look kind made)))
      target_made (Err why) new (inl memory) origin counted = inl memory
      target_made (Err why) new (inr stops) origin counted = inr (goes ∙ ap behind_reached stops)
