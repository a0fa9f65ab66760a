-- The records of with statements that are accessed are open then: each lies in its variable on a way of selectors.
use Rattle.std.proofs.Common.{◌≡◌, ◌∙◌, subst, ℕ, true, length, List, [], ◌∷◌, ◌++◌, map, Option, Some}
use Rattle.std.proofs.lemmas.Bool.{and_from, and_parts}
use Rattle.typed_tree.specs.Accesses as accesses
use Rattle.typed_tree.specs.Accesses.{Origin, AtVariable, origin_of, root_of}
use Rattle.typed_tree.specs.Kinds.{is_held_record}
use Rattle.typed_tree.specs.Records.{Begin, OpenRecord, all_begin, begins, is_there, opened_by, with_begins}
use Rattle.typed_tree.specs.WellFormed.{all_hold, are_well_formed, is_record, is_well_formed_record, leads_to_record, outline_of}
use Rattle.typed_tree.specs.declared.tree.WithRecord.{WithRecord}
use Rattle.meaning.specs.Effect as effect
use Rattle.meaning.specs.Effect.{Action}
use Rattle.meaning.specs.Kinds.{LieOpen}
use Rattle.meaning.specs.Meaning as meaning
use Rattle.meaning.specs.Meaning.{Calls, Surroundings, accessed, values_of}
use Rattle.meaning.specs.Store.{Environment, Place, Store, part}
use Rattle.checker_state.specs.Stores.{Reach}
use Rattle.checker_calls.proofs.Origins.{goes, root_is}
use Rattle.checker_expressions.specs.Walk as flow
use Rattle.checker_expressions.specs.Walk.{Walking, followed}
use Rattle.checker_expressions.proofs.Keeping.{keeps-then}
use Rattle.checker_expressions.proofs.Opened.{AreOpen, IsOpen}
use Rattle.checker_expressions.proofs.Sound.{Any_value, IsForetold, Sound, SoundCalls, World, declared_in, good-then, good-weaker, here-behind, part-left}
use Rattle.checker_expressions.proofs.Sound.{part-right, sound-give, sound-named, sound-then, types_in, unbroken-left, unbroken-right}
use Rattle.checker_expressions.proofs.SoundAccesses.{LeadsTo, leads-type, type-of}
use Rattle.checker_expressions.proofs.SoundCalls.{CallLaws}
use Rattle.checker_expressions.proofs.SoundExpressions.{access-sound}
use Rattle.cert_checker.specs.Walk as walk
use Rattle.cert_checker.proofs.OpenedBehind.{behind, with-parts}
use Rattle.cert_checker.proofs.SoundLoops.{SoundAmong}
use Rattle.cert_checker.proofs.Written.{Foretold}

-- a piece behind another that tells something of a value
pub among-after : {A : Type 0} (controls : List ℕ) (world : World) (block : ℕ) (env : Environment) (P : A → Type 0) (action : Action A)
    (next : A → Action (Unit {0})) (walking walk_next : Walking (Unit {0}))
    → Sound {A = A} {B = Unit {0}} world block env (λ done a store. P a) action walking
    → ((a : A) → P a → SoundAmong {A = Unit {0}} {B = Unit {0}} controls world block env Any_value (next a) walk_next)
    → SoundAmong {A = Unit {0}} {B = Unit {0}} controls world block env Any_value (effect.◌>>=◌ action next) (flow.◌>>=◌ walking (λ done. walk_next))
among-after {A} controls world block env P action next walking walk_next one two context state s held unbroken part here =
    let R = λ (done : Unit {0}) (a : A) (store : Store). P a in
    let first = walking context state in
    let second = walk_next context first.after in
    let Q = Foretold world env context (followed first second) s.store in
    good-then world (IsForetold world env R context first s.store) Q s (action s) next
    (one context state s (unbroken-left first.broken second.broken unbroken) (part-left world first second part) here)
    (λ a t is told.
    good-weaker world (Foretold world env context second t.store) Q t (next a t)
    (λ c u gives then. record {
      tie = tt;
      stands = then.so.stands;
      kept = keeps-then env context.rounds s.store t.store u.store told.so.kept then.so.kept;
    })
    (two a told.so.tie context first.after t held (unbroken-right first.broken second.broken unbroken) (part-right world first second part)
    (here-behind {B = Unit {0}} world block env R context state first s t a here told)))

-- ---- records that are open

module _ (world : World) (block : ℕ) (visible : Environment) where
  -- one more
  open-then : (records : List OpenRecord) (places : List (Option Place)) (one : OpenRecord) (place : Option Place) → AreOpen world block visible records places
      → IsOpen world block visible one place → AreOpen world block visible (records ++ one ∷ []) (places ++ place ∷ [])
  open-then [] [] one place are is = (is, tt)
  open-then [] (other ∷ places) one place are is = absurd are
  open-then (first ∷ records) [] one place are is = absurd are
  open-then (first ∷ records) (other ∷ places) one place are is = (are.0, open-then records places one place are.1 is)

  -- they lie on their ways
  pub lie-open : (records : List OpenRecord) (places : List (Option Place)) → AreOpen world block visible records places → LieOpen visible records places
  lie-open [] [] are = tt
  lie-open [] (place ∷ places) are = absurd are
  lie-open (one ∷ records) [] are = absurd are
  lie-open (one ∷ records) (place ∷ places) are = (
    (are.0.way, are.0.place_is, goes are.0.all are.0.way are.0.matches ∙ are.0.steps_are),
    lie-open records places are.1,
  )

module _ (world : World) (block : ℕ) (visible : Environment) (does : Calls) (laws : CallLaws world) (calls : SoundCalls world does) where
  abbrev around : List (Option Place) → Surroundings
  around places = record { visible = visible; records = places; calls = does }

  -- what an access to a record leads to is open
  led-open : (one : WithRecord) (records : List OpenRecord) (places : List (Option Place))
      → leads_to_record (outline_of world.tree) block (origin_of one.access) one.access.selectors.items (length one.indexes.items) ≡ true
      → (reach : Reach) (place : Option Place) (store : Store)
      → LeadsTo world block (around places) (origin_of one.access) one.access.selectors.items reach place store
      → IsOpen world block visible (opened_by one.access) place
  led-open one records places leads_there reach place store leads_to =
      let access = one.access in
      let origin = origin_of access in
      let selectors = access.selectors.items in
      let wanted = is_record (types_in world) in
      let found = type-of wanted (accesses.accessed (declared_in world) (types_in world) origin selectors)
      (leads-type (outline_of world.tree) block wanted origin selectors (length one.indexes.items) leads_there) in
      let leads = leads_to.leads in
      record {
        all = leads.all;
        steps_are = leads.steps_are;
        tests = leads_to.tests;
        type_id = found.0;
        typed = subst (λ (root : ℕ). accesses.accessed (declared_in world) (types_in world) (AtVariable root) leads.all ≡ Some found.0)
            (root_is access) (leads_to.typed found.0 found.1);
        way = leads.way;
        place_is = subst (λ (root : ℕ). place ≡ part (visible.variables root) leads.way) (root_is access) leads.place_is;
        matches = leads.matches;
      }

  -- the records of a with, one after another
  pub opened-sound : (list : List WithRecord) (records : List OpenRecord) (places : List (Option Place)) → AreOpen world block visible records places
      → all_hold (map (is_well_formed_record (outline_of world.tree) block) list) ≡ true → all_hold (map is_held_record list) ≡ true → (body : Begin)
      → with_begins list body records ≡ true
      → Sound {B = Unit {0}} world block visible (λ done found store. AreOpen world block visible (behind list records) found)
      (meaning.opened list (around places)) (walk.all_of (map walk.record_walk list))
  opened-sound [] records places opened well held body begin =
      sound-give {B = Unit {0}} world block visible (λ done found store. AreOpen world block visible records found) places tt (λ store. opened)
  opened-sound (one ∷ others) records places opened well held body begin =
      let access = one.access in
      let indexes = one.indexes.items in
      let origin = origin_of access in
      let selectors = access.selectors.items in
      let outline = outline_of world.tree in
      let env = around places in
      let more = records ++ opened_by access ∷ [] in
      let parts = and_parts (is_well_formed_record outline block one) (all_hold (map (is_well_formed_record outline block) others)) well in
      let kinds = and_parts (is_held_record one) (all_hold (map is_held_record others)) held in
      let there = with-parts one others body records begin in
      let first = and_parts (are_well_formed outline block indexes) (leads_to_record outline block origin selectors (length indexes)) parts.0 in
      let R = λ (done : Unit {0}) (place : Option Place) (store : Store). IsOpen world block visible (opened_by access) place in
      let S = λ (done : Unit {0}) (found : List (Option Place)) (store : Store). AreOpen world block visible (behind others more) found in
      let action = accessed access (values_of indexes) env in
      let later = λ (place : Option Place). meaning.opened others (around (places ++ place ∷ [])) in
      let rest = walk.all_of (map walk.record_walk others) in
      let walking = flow.access_walk access (flow.index_pieces indexes) in
      sound-then {B = Unit {0}} {D = Unit {0}} world block visible R S action later (walk.record_walk one) (λ done. rest)
      (sound-named world block visible (LeadsTo world block env origin selectors) R (λ reach. tt) (led-open one records places first.1) action walking
      (access-sound world block env records opened laws calls access indexes (is_record (types_in world)) first.0 first.1 kinds.0
      (and_from (all_begin (map begins indexes) records) (is_there records origin) there.indexes there.there)))
      (λ done place store is.
      opened-sound others more (places ++ place ∷ []) (open-then world block visible records places (opened_by access) place opened is) parts.1 kinds.1 body
      there.later)
