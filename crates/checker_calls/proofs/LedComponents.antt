-- Steps that lead to a scalar lead to a component; none lead on from a scalar.
use Rattle.std.proofs.Common.{arith, ◌≡◌, ◌∙◌, sym, ap, refl, subst, Bool, true, cond, nat_eq, List, [], ◌∷◌, Option, Some}
use Rattle.std.proofs.Common.{None}
use Rattle.std.specs.Cmp.{int_eq_equiv}
use Rattle.std.specs.List.{Contains}
use Rattle.std.specs.Option.{option_and_then}
use Rattle.std.specs.Ordering.{int_eq}
use Rattle.std.proofs.lemmas.Bool.{and_from, eq-eqb}
use Rattle.std.proofs.lemmas.Option.{cond_some, none-some, same_Some}
use Rattle.types.specs.Components.{components_of}
use Rattle.types.specs.Forms.{Form}
use Rattle.types.specs.Types.{element_of, field_at, is_scalar}
use Rattle.types.specs.declared.form.ArrayElement.{ArrayElement}
use Rattle.types.specs.declared.form.RecordField.{RecordField}
use Rattle.types.specs.declared.form.Step.{Step}
use Rattle.types.specs.declared.form.Step.TheVariants as step
use Rattle.types.specs.declared.form.TypeId.{TypeId}
use Rattle.types.proofs.Scalars.{scalar_component}
use Rattle.typed_tree.specs.Accesses.{are_values_of, element_type, field_type, led, selected}
use Rattle.typed_tree.specs.declared.tree.Scalar.TheVariants as scalar
use Rattle.typed_tree.specs.declared.tree.Selector.{Selector}
use Rattle.typed_tree.specs.declared.tree.Selector.TheVariants.{Element, Field}
use Rattle.meaning.specs.Integers.{is_within}
use Rattle.checker_rows.proofs.Components.{Has}
use Rattle.checker_rows.proofs.Numbered.{contains-has, has-contains}
use Rattle.checker_rows.proofs.Selected.{Matches, reaches}
use Rattle.checker_state.proofs.Ranged.{is_within-has}
use Rattle.checker_calls.specs.Environments.{element_behind, field_behind, type_behind, type_led}
use Rattle.checker_calls.proofs.PlaceTypes.{first-led}

module _ (types : List Form) where
  -- a component behind a selector that leads on
  covered : (selector : Selector) (s : Step) (id next : TypeId) (rest : List Step) → selected types selector id ≡ Some next → Matches (selector ∷ []) (s ∷ [])
      → Has (components_of types next) rest → Has (components_of types id) (s ∷ rest)
  covered selector s id next rest is matches has =
      (reaches types (selector ∷ []) id next (ap (option_and_then (led types [])) is)).covers (s ∷ []) rest matches has

  step-covers : (s : Step) (id next : TypeId) (rest : List Step) → type_behind types s id ≡ Some next → Has (components_of types next) rest
      → Has (components_of types id) (s ∷ rest)
  step-covers (step.Element index) id next rest is has = by (element_of types id) refl is
    where
      by : (found : Option ArrayElement) → element_of types id ≡ found → element_behind index found ≡ Some next
          → Has (components_of types id) (step.Element index ∷ rest)
      by None found is = absurd (none-some next is)
      by (Some e) found is =
          let within = cond_some (is_within e.range.first e.range.last index) e.type_id next is in
          let lies = is_within-has e.range.first e.range.last index within.0 in
          let same : are_values_of e.range e.range ≡ true =
          and_from (int_eq e.range.first e.range.first) (int_eq e.range.last e.range.last) (int_eq_equiv.refl e.range.first) (int_eq_equiv.refl e.range.last) in
          let leads : selected types (Element (record { site = 0; tests = scalar.Ordinal; range = e.range }) e.cells) id ≡ Some next =
          ap (element_type e.range e.cells) found
          ∙ ap (λ (b : Bool). cond b (Some e.type_id) None) (and_from (are_values_of e.range e.range) (nat_eq e.cells e.cells) same
          (eq-eqb e.cells e.cells refl))
          ∙ ap Some within.1 in
          covered (Element (record { site = 0; tests = scalar.Ordinal; range = e.range }) e.cells) (step.Element index) id next rest leads
          (lies.0, lies.1, tt) has
  step-covers (step.Field position) id next rest is has = by (field_at types id position) refl is
    where
      by : (found : Option RecordField) → field_at types id position ≡ found → field_behind found ≡ Some next
          → Has (components_of types id) (step.Field position ∷ rest)
      by None found is = absurd (none-some next is)
      by (Some f) found is =
          let leads : selected types (Field position f.offset) id ≡ Some next =
          ap (field_type f.offset) found ∙ ap (λ (b : Bool). cond b (Some f.type_id) None) (eq-eqb f.offset f.offset refl) ∙ is in
          covered (Field position f.offset) (step.Field position) id next rest leads (refl, tt) has

  -- what steps lead to is a component, if it is a scalar
  pub led-component : (steps : List Step) (id own : TypeId) → type_led types steps id ≡ Some own → is_scalar types own ≡ true
      → Contains (components_of types id) steps
  led-component [] id own leads one_value =
      let same : is_scalar types id ≡ true = ap (is_scalar types) (same_Some id own leads) ∙ one_value in
      subst (λ (all : List (List Step)). Contains all []) (sym (scalar_component types id same)) (0, omega arith, refl)
  led-component (s ∷ steps) id own leads one_value =
      let first = first-led types s steps id own leads in
      has-contains (components_of types id) (s ∷ steps)
      (step-covers s id first.0 steps first.1
      (contains-has (components_of types first.0) steps (led-component steps first.0 own first.2 one_value)))
