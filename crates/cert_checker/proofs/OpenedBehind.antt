-- The records of a with statement, once they are accessed, lie open for its statement: each on its way in its variable.
use Rattle.std.proofs.Common.{arith, ◌≡◌, ◌∙◌, sym, ap, ap₂, refl, subst, ℕ, zero, suc, true, List, [], ◌∷◌, ◌++◌, length, map, Option, Some, None}
use Rattle.std.specs.Cmp.Lexicographic.{pointwise}
use Rattle.std.specs.Prelude.{nat_eq, slice_get}
use Rattle.std.proofs.lemmas.Bool.{and_parts, eqb-true, false≢true}
use Rattle.std.proofs.lemmas.List.{length-map}
use Rattle.std.proofs.lemmas.Option.{none-some, same_Some}
use Rattle.types.specs.declared.form.Step.{Step}
use Rattle.types.specs.declared.form.Step.TheVariants as step
use Rattle.typed_tree.specs.Accesses.{Origin, AtVariable, AtRecord, index_count, origin_of, root_of, step_of, steps_of}
use Rattle.typed_tree.specs.Records.{Begin, OpenRecord, accesses_begin, all_begin, begins, is_open_as, is_same_step, is_there, opened_by, with_begins}
use Rattle.typed_tree.specs.WellFormed.{Outline, all_hold, are_well_formed, is_record, is_well_formed_record, leads_to_record, of_one}
use Rattle.typed_tree.specs.declared.tree.Access.{Access}
use Rattle.typed_tree.specs.declared.tree.PathStep.{PathStep}
use Rattle.typed_tree.specs.declared.tree.PathStep.TheVariants as path
use Rattle.typed_tree.specs.declared.tree.Selector.{Selector}
use Rattle.typed_tree.specs.declared.tree.Selector.TheVariants.{Element, Field}
use Rattle.typed_tree.specs.declared.tree.WithRecord.{WithRecord}
use Rattle.meaning.specs.declared.value.Value.{Value}
use Rattle.meaning.specs.Effect as effect
use Rattle.meaning.specs.Effect.{is_in, number_of, require}
use Rattle.meaning.specs.Kinds.{LieOpen, LiesOn, way_of}
use Rattle.meaning.specs.Meaning.{Calls, Evaluation, Surroundings, accessed, begun, opened, place_at, selected, value_of, values_of}
use Rattle.meaning.specs.Store.{Environment, Place, part}
use Rattle.checker_calls.proofs.Origins.{root_is}
use Rattle.checker_expressions.proofs.EffectsKept.{CanGive, can-then, given-same}
use Rattle.checker_expressions.proofs.Opened.{steps-same}
use Rattle.checker_expressions.proofs.SoundAccesses.{leads-count, part-none, part-then}

-- the records that are open for the statement of a with
abbrev pub behind : List WithRecord → List OpenRecord → List OpenRecord
behind [] records = records
behind (one ∷ others) records = behind others (records ++ opened_by one.access ∷ [])

-- the accesses of the statement begin at them
pub with-begun : (list : List WithRecord) (body : Begin) (records : List OpenRecord) → with_begins list body records ≡ true
    → body (behind list records) ≡ true
with-begun [] body records begin = begin
with-begun (one ∷ others) body records begin =
    let more = records ++ opened_by one.access ∷ [] in
    with-begun others body more (and_parts (accesses_begin one.access one.indexes.items records) (with_begins others body more) begin).1

-- what is asked of the first record and of those behind it
pub record IsBegun (one : WithRecord) (others : List WithRecord) (body : Begin) (records : List OpenRecord) : Type 0 where
  pub indexes : all_begin (map begins one.indexes.items) records ≡ true
  pub there : is_there records (origin_of one.access) ≡ true
  pub later : with_begins others body (records ++ opened_by one.access ∷ []) ≡ true

pub with-parts : (one : WithRecord) (others : List WithRecord) (body : Begin) (records : List OpenRecord) → with_begins (one ∷ others) body records ≡ true
    → IsBegun one others body records
with-parts one others body records begin =
    let later = with_begins others body (records ++ opened_by one.access ∷ []) in
    let both = and_parts (accesses_begin one.access one.indexes.items records) later begin in
    let own = and_parts (all_begin (map begins one.indexes.items) records) (is_there records (origin_of one.access)) both.0 in
    record { indexes = own.0; there = own.1; later = both.1 }

-- ---- ways

way-then : (first second : List Step) → way_of (first ++ second) ≡ way_of first ++ way_of second
way-then [] second = refl
way-then (step.Element index ∷ first) second = ap (λ (way : List PathStep). path.Element ∷ way) (way-then first second)
way-then (step.Field position ∷ first) second = ap (λ (way : List PathStep). path.Field position ∷ way) (way-then first second)

-- a place lies on a way from another
abbrev LiesFrom : Option Place → List PathStep → Option Place → Type 0
LiesFrom found way place = (steps : List Step) × (place ≡ part found steps) × (way_of steps ≡ way)

lies-itself : (found : Option Place) → LiesFrom found [] found
lies-itself found = ([], sym (part-none found), refl)

lies-then : (found : Option Place) (first second : List PathStep) (between place : Option Place) → LiesFrom found first between
    → LiesFrom between second place → LiesFrom found (first ++ second) place
lies-then found first second between place one two = (
  one.0 ++ two.0,
  two.1 ∙ ap (λ (p : Option Place). part p two.0) one.1 ∙ part-then found one.0 two.0,
  way-then one.0 two.0 ∙ ap₂ (λ (a b : List PathStep). a ++ b) one.2 two.2,
)

module _ (env : Surroundings) where
  -- selectors lead on their way, where they have an index expression for each index
  way-selected : (selectors : List Selector) (indexes : List Evaluation) (found result : Option Place) → length indexes ≡ index_count selectors
      → CanGive (selected selectors indexes env found) result → LiesFrom found (map step_of selectors) result
  way-selected [] indexes found result count given = subst (LiesFrom found []) (given-same found result given) (lies-itself found)
  way-selected (Field position offset ∷ selectors) indexes found result count given =
      let next : List Step = step.Field position ∷ [] in
      lies-then found (path.Field position ∷ []) (map step_of selectors) (part found next) result (next, refl, refl)
      (way-selected selectors indexes (part found next) result count given)
  way-selected (Element fits cells ∷ selectors) [] found result count given = absurd (omega (arith, count))
  way-selected (Element fits cells ∷ selectors) (index ∷ indexes) found result count given =
      let at_index = λ (v : Value). part found (step.Element (number_of v) ∷ []) in
      let one = can-then (index env)
      (λ v. effect.◌>>=◌ (require (is_in fits.range v) fits.site) (λ _. selected selectors indexes env (at_index v))) result given in
      let two = can-then (require (is_in fits.range one.0) fits.site) (λ _. selected selectors indexes env (at_index one.0)) result one.2 in
      lies-then found (path.Element ∷ []) (map step_of selectors) (at_index one.0) result (step.Element (number_of one.0) ∷ [], refl, refl)
      (way-selected selectors indexes (at_index one.0) result (omega (arith, count)) two.2)

  way-open : (records : List OpenRecord) (found : List (Option Place)) → LieOpen env.visible records found → (slot : ℕ) (one : OpenRecord)
      → slice_get records slot ≡ Some one → LiesOn env.visible one.root one.steps (place_at (slice_get found slot))
  way-open [] found lie slot one is = absurd (none-some one is)
  way-open (first ∷ others) [] lie slot one is = absurd lie
  way-open (first ∷ others) (place ∷ found) lie zero one is =
      subst (λ (own : OpenRecord). LiesOn env.visible own.root own.steps place) (same_Some first one is) lie.0
  way-open (first ∷ others) (place ∷ found) lie (suc slot) one is = way-open others found lie.1 slot one is

  -- so does where an access begins
  way-begun : (records : List OpenRecord) → LieOpen env.visible records env.records → (origin : Origin) → is_there records origin ≡ true
      → LiesOn env.visible (root_of origin) (steps_of origin) (begun origin env)
  way-begun records lie (AtVariable root) there = lies-itself (env.visible.variables root)
  way-begun records lie (AtRecord root slot steps) there = by (slice_get records slot) refl there
    where
      by : (found : Option OpenRecord) → slice_get records slot ≡ found → of_one (is_open_as root steps) found ≡ true
          → LiesOn env.visible root steps (place_at (slice_get env.records slot))
      by None is same = absurd (false≢true same)
      by (Some one) is same =
          let both = and_parts (nat_eq root one.root) (pointwise is_same_step steps one.steps) same in
          subst (λ (r : ℕ). LiesOn env.visible r steps (place_at (slice_get env.records slot))) (sym (eqb-true root one.root both.0))
          (subst (λ (way : List PathStep). LiesOn env.visible one.root way (place_at (slice_get env.records slot)))
          (sym (steps-same steps one.steps both.1)) (way-open records env.records lie slot one is))

  -- and the record that an access opens
  way-accessed : (records : List OpenRecord) → LieOpen env.visible records env.records → (access : Access) → is_there records (origin_of access) ≡ true
      → (indexes : List Evaluation) (result : Option Place) → length indexes ≡ index_count access.selectors.items
      → CanGive (accessed access indexes env) result → LiesOn env.visible (opened_by access).root (opened_by access).steps result
  way-accessed records lie access there indexes result count given =
      let origin = origin_of access in
      let selectors = access.selectors.items in
      let found = begun origin env in
      let one = can-then (effect.enter access.number env.visible) (λ _. selected selectors indexes env found) result given in
      subst (λ (root : ℕ). LiesOn env.visible root (steps_of origin ++ map step_of selectors) result) (root_is access)
      (lies-then (env.visible.variables (root_of origin)) (steps_of origin) (map step_of selectors) found result (way-begun records lie origin there)
      (way-selected selectors indexes found result count one.2))

-- ---- all records

module _ (visible : Environment) (calls : Calls) (outline : Outline) (block : ℕ) where
  abbrev around : List (Option Place) → Surroundings
  around places = record { visible = visible; records = places; calls = calls }

  lie-then : (records : List OpenRecord) (places : List (Option Place)) (one : OpenRecord) (place : Option Place) → LieOpen visible records places
      → LiesOn visible one.root one.steps place → LieOpen visible (records ++ one ∷ []) (places ++ place ∷ [])
  lie-then [] [] one place lie is = (is, tt)
  lie-then [] (other ∷ places) one place lie is = absurd lie
  lie-then (first ∷ records) [] one place lie is = absurd lie
  lie-then (first ∷ records) (other ∷ places) one place lie is = (lie.0, lie-then records places one place lie.1 is)

  -- a record of a with that was accessed is open
  pub one-opened : (one : WithRecord) (records : List OpenRecord) (places : List (Option Place)) → LieOpen visible records places
      → is_well_formed_record outline block one ≡ true → is_there records (origin_of one.access) ≡ true → (place : Option Place)
      → CanGive (accessed one.access (values_of one.indexes.items) (around places)) place
      → LieOpen visible (records ++ opened_by one.access ∷ []) (places ++ place ∷ [])
  one-opened one records places lie well there place given =
      let access = one.access in
      let indexes = one.indexes.items in
      let leads = leads_to_record outline block (origin_of access) access.selectors.items (length indexes) in
      let parts = and_parts (are_well_formed outline block indexes) leads well in
      let count = leads-count outline block (is_record outline.types) (origin_of access) access.selectors.items (length indexes) parts.1 in
      lie-then records places (opened_by access) place lie
      (way-accessed (around places) records lie access there (values_of indexes) place (length-map indexes value_of ∙ count) given)

  -- and so are all
  pub all-opened : (list : List WithRecord) (records : List OpenRecord) (places : List (Option Place)) → LieOpen visible records places
      → all_hold (map (is_well_formed_record outline block) list) ≡ true → (body : Begin) → with_begins list body records ≡ true
      → (found : List (Option Place)) → CanGive (opened list (around places)) found → LieOpen visible (behind list records) found
  all-opened [] records places lie well body begin found given = subst (LieOpen visible records) (given-same places found given) lie
  all-opened (one ∷ others) records places lie well body begin found given =
      let parts = and_parts (is_well_formed_record outline block one) (all_hold (map (is_well_formed_record outline block) others)) well in
      let own = with-parts one others body records begin in
      let both = can-then (accessed one.access (values_of one.indexes.items) (around places))
      (λ place. opened others (around (places ++ place ∷ []))) found given in
      all-opened others (records ++ opened_by one.access ∷ []) (places ++ both.0 ∷ [])
      (one-opened one records places lie parts.0 own.there both.0 both.1) parts.1 body own.later found both.2
