-- The records of with statements that are open where a piece stands: each lies in its variable on a way of selectors, by which it has its type. So does what
-- an access begins at, whether it is a variable or such a record.
use Rattle.std.proofs.Common.{◌≡◌, ◌∙◌, sym, ap, ap₂, refl, subst, ℕ, zero, suc, Bool, true, false, List, [], ◌∷◌, ◌++◌, map, Option, Some, None}
use Rattle.std.proofs.lemmas.Bool.{and_parts, eqb-true, false≢true}
use Rattle.std.proofs.lemmas.Option.{none-some, same_Some}
use Rattle.std.specs.Cmp.Lexicographic.{pointwise}
use Rattle.std.specs.List.{list_all}
use Rattle.std.specs.Option.{option_and_then, option_map}
use Rattle.std.specs.Prelude.{if◌then◌else◌, nat_eq, slice_get}
use Rattle.types.specs.Forms.{Form}
use Rattle.types.specs.Types.{field_at}
use Rattle.types.specs.declared.form.ArrayElement.{ArrayElement}
use Rattle.types.specs.declared.form.RecordField.{RecordField}
use Rattle.types.specs.declared.form.Step.{Step}
use Rattle.types.specs.declared.form.TypeId.{TypeId}
use Rattle.typed_tree.specs.declared.tree.PathStep.{PathStep}
use Rattle.typed_tree.specs.declared.tree.PathStep.TheVariants as path
use Rattle.typed_tree.specs.declared.tree.Selector.{Selector}
use Rattle.typed_tree.specs.declared.tree.Selector.TheVariants.{Element, Field}
use Rattle.typed_tree.specs.declared.tree.Variable.{Variable}
use Rattle.typed_tree.specs.Accesses.{Origin, AtVariable, AtRecord, accessed, field_type, led, lying, root_of, selected, step_of, stepped, steps_of}
use Rattle.typed_tree.specs.Records.{OpenRecord, is_open_as, is_same_step, is_there}
use Rattle.typed_tree.specs.WellFormed.{is_well_formed_selector, of_one, outline_of}
use Rattle.meaning.specs.Meaning.{Surroundings, begun, place_at}
use Rattle.meaning.specs.Store.{Environment, Place, part}
use Rattle.checker_rows.proofs.Selected.{Matches, is-element, led-on}
use Rattle.checker_expressions.proofs.Sound.{World, declared_in, types_in}

-- ---- where selectors lead

module _ (types : List Form) where
  pub led-then : (first second : List Selector) (from : TypeId) → led types (first ++ second) from ≡ option_and_then (led types second) (led types first from)
  led-then [] second from = refl
  led-then (selector ∷ first) second from = by (selected types selector from) (λ next. led-then first second next)
    where
      by : (found : Option TypeId) → ((next : TypeId) → led types (first ++ second) next ≡ option_and_then (led types second) (led types first next))
          → option_and_then (led types (first ++ second)) found ≡ option_and_then (led types second) (option_and_then (led types first) found)
      by None more = refl
      by (Some next) more = more next

  field-stepped : (offset : ℕ) (found : Option RecordField) (next : TypeId) → field_type offset found ≡ Some next
      → option_map (λ (field : RecordField). field.type_id) found ≡ Some next
  field-stepped offset None next leads = absurd (none-some next leads)
  field-stepped offset (Some field) next leads = by (nat_eq offset field.offset) leads
    where
      by : (same : Bool) → (if same then Some field.type_id else None) ≡ Some next → Some field.type_id ≡ Some next
      by true is = is
      by false is = absurd (none-some next is)

  -- the step of a selector leads where it does
  selected-stepped : (selector : Selector) (from next : TypeId) → selected types selector from ≡ Some next → stepped types (step_of selector) from ≡ Some next
  selected-stepped (Element fits cells) from next leads =
      let own = is-element types fits cells from next leads in
      ap (option_map (λ (element : ArrayElement). element.type_id)) own.is ∙ ap Some own.type_is
  selected-stepped (Field position offset) from next leads = field-stepped offset (field_at types from position) next leads

  led-lying : (selectors : List Selector) (from id : TypeId) → led types selectors from ≡ Some id → lying types (map step_of selectors) from ≡ Some id
  led-lying [] from id leads = leads
  led-lying (selector ∷ selectors) from id leads =
      let on = led-on types selector selectors from id (selected types selector from) refl leads in
      ap (option_and_then (lying types (map step_of selectors))) (selected-stepped selector from on.0 on.1) ∙ led-lying selectors on.0 id on.2

  -- an access that begins at a record accesses what all selectors from the variable lead to
  pub accessed-then : (variables : List Variable) (root slot : ℕ) (all own : List Selector) (from id : TypeId)
      → accessed variables types (AtVariable root) all ≡ Some from → accessed variables types (AtRecord root slot (map step_of all)) own ≡ Some id
      → accessed variables types (AtVariable root) (all ++ own) ≡ Some id
  accessed-then variables root slot all own from id = by (slice_get variables root)
    where
      by : (found : Option Variable) → option_and_then (λ (variable : Variable). led types all variable.type_id) found ≡ Some from
          → option_and_then (λ (variable : Variable). option_and_then (led types own) (lying types (map step_of all) variable.type_id)) found ≡ Some id
          → option_and_then (λ (variable : Variable). led types (all ++ own) variable.type_id) found ≡ Some id
      by None there leads = absurd (none-some from there)
      by (Some variable) there leads =
          led-then all own variable.type_id ∙ ap (option_and_then (led types own)) there
          ∙ sym (ap (option_and_then (led types own)) (led-lying all variable.type_id from there)) ∙ leads

-- ---- records that are open

-- a record that is open lies there in its variable, on a way of all selectors from it
pub record IsOpen (world : World) (block : ℕ) (visible : Environment) (one : OpenRecord) (place : Option Place) : Type 0 where
  pub all : List Selector
  pub steps_are : map step_of all ≡ one.steps
  pub tests : list_all (is_well_formed_selector (outline_of world.tree) block) all ≡ true
  pub type_id : TypeId
  pub typed : accessed (declared_in world) (types_in world) (AtVariable one.root) all ≡ Some type_id
  pub way : List Step
  pub place_is : place ≡ part (visible.variables one.root) way
  pub matches : Matches all way

-- so do those of all slots
abbrev pub AreOpen : World → ℕ → Environment → List OpenRecord → List (Option Place) → Type 0
AreOpen world block visible [] [] = Unit {0}
AreOpen world block visible [] (place ∷ places) = ⊥
AreOpen world block visible (one ∷ others) [] = ⊥
AreOpen world block visible (one ∷ others) (place ∷ places) = IsOpen world block visible one place × AreOpen world block visible others places

-- what an access begins at
pub record Begins (world : World) (block : ℕ) (visible : Environment) (origin : Origin) (place : Option Place) : Type 0 where
  pub all : List Selector
  pub steps_are : map step_of all ≡ steps_of origin
  pub tests : list_all (is_well_formed_selector (outline_of world.tree) block) all ≡ true
  -- what is accessed from there
  pub typed : (own : List Selector) (id : TypeId) → accessed (declared_in world) (types_in world) origin own ≡ Some id
      → accessed (declared_in world) (types_in world) (AtVariable (root_of origin)) (all ++ own) ≡ Some id
  pub way : List Step
  pub place_is : place ≡ part (visible.variables (root_of origin)) way
  pub matches : Matches all way

step-same : (a b : PathStep) → is_same_step a b ≡ true → a ≡ b
step-same path.Element path.Element is = refl
step-same path.Element (path.Field other) is = absurd (false≢true is)
step-same (path.Field position) path.Element is = absurd (false≢true is)
step-same (path.Field position) (path.Field other) is = ap path.Field (eqb-true position other is)

pub steps-same : (a b : List PathStep) → pointwise is_same_step a b ≡ true → a ≡ b
steps-same [] [] is = refl
steps-same [] (y ∷ b) is = absurd (false≢true is)
steps-same (x ∷ a) [] is = absurd (false≢true is)
steps-same (x ∷ a) (y ∷ b) is =
    let both = and_parts (is_same_step x y) (pointwise is_same_step a b) is in
    ap₂ (λ (one : PathStep) (more : List PathStep). one ∷ more) (step-same x y both.0) (steps-same a b both.1)

module _ (world : World) (block : ℕ) where
  -- that of a slot
  open-at : (visible : Environment) (records : List OpenRecord) (places : List (Option Place)) → AreOpen world block visible records places → (slot : ℕ)
      (one : OpenRecord) → slice_get records slot ≡ Some one → IsOpen world block visible one (place_at (slice_get places slot))
  open-at visible [] places are slot one is = absurd (none-some one is)
  open-at visible (first ∷ others) [] are slot one is = absurd are
  open-at visible (first ∷ others) (place ∷ places) are zero one is =
      subst (λ (record_there : OpenRecord). IsOpen world block visible record_there place) (same_Some first one is) are.0
  open-at visible (first ∷ others) (place ∷ places) are (suc slot) one is = open-at visible others places are.1 slot one is

  of-record : (visible : Environment) (root slot : ℕ) (steps : List PathStep) (place : Option Place) (one : OpenRecord) → is_open_as root steps one ≡ true
      → IsOpen world block visible one place → Begins world block visible (AtRecord root slot steps) place
  of-record visible root slot steps place one same is =
      let both = and_parts (nat_eq root one.root) (pointwise is_same_step steps one.steps) same in
      let root_is : one.root ≡ root = sym (eqb-true root one.root both.0) in
      let steps_are : map step_of is.all ≡ steps = is.steps_are ∙ sym (steps-same steps one.steps both.1) in
      record {
        all = is.all;
        steps_are = steps_are;
        tests = is.tests;
        typed = λ own id leads.
            accessed-then (types_in world) (declared_in world) root slot is.all own is.type_id id
            (subst (λ (r : ℕ). accessed (declared_in world) (types_in world) (AtVariable r) is.all ≡ Some is.type_id) root_is is.typed)
            (subst (λ (s : List PathStep). accessed (declared_in world) (types_in world) (AtRecord root slot s) own ≡ Some id) (sym steps_are) leads);
        way = is.way;
        place_is = subst (λ (r : ℕ). place ≡ part (visible.variables r) is.way) root_is is.place_is;
        matches = is.matches;
      }

  part-none : (place : Option Place) → place ≡ part place []
  part-none None = refl
  part-none (Some p) = ap (λ (s : List Step). Some (record p { steps = s })) (sym (no-more p.steps))
    where
      no-more : (steps : List Step) → steps ++ [] ≡ steps
      no-more [] = refl
      no-more (step ∷ steps) = ap (λ (more : List Step). step ∷ more) (no-more steps)

  -- an access begins at what is there
  pub begins-at : (env : Surroundings) (records : List OpenRecord) → AreOpen world block env.visible records env.records → (origin : Origin)
      → is_there records origin ≡ true → Begins world block env.visible origin (begun origin env)
  begins-at env records are (AtVariable root) there = record {
    all = [];
    steps_are = refl;
    tests = refl;
    typed = λ own id leads. leads;
    way = [];
    place_is = part-none (env.visible.variables root);
    matches = tt;
  }
  begins-at env records are (AtRecord root slot steps) there = by (slice_get records slot) refl there
    where
      by : (found : Option OpenRecord) → slice_get records slot ≡ found → of_one (is_open_as root steps) found ≡ true
          → Begins world block env.visible (AtRecord root slot steps) (place_at (slice_get env.records slot))
      by None is same = absurd (false≢true same)
      by (Some one) is same =
          of-record env.visible root slot steps (place_at (slice_get env.records slot)) one same (open-at env.visible records env.records are slot one is)
