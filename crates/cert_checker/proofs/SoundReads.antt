-- What is read is sound: each variable is accessed, then it is read and tested by its type, and then it is stored.
use Rattle.std.proofs.Common.{arith, ◌≡◌, ◌∙◌, refl, sym, subst, ℕ, ℤ, true, nat_lt, ◌&&◌, length, List, [], ◌∷◌, map, Option, None}
use Rattle.std.proofs.lemmas.Bool.{and_parts}
use Rattle.place.specs.declared.Place.{Place}
use Rattle.typed_tree.specs.Accesses.{Origin, origin_of, root_of}
use Rattle.typed_tree.specs.Kinds.{is_held_read}
use Rattle.typed_tree.specs.Records.{OpenRecord, all_begin, read_begins}
use Rattle.typed_tree.specs.WellFormed.{Outline, all_hold, are_well_formed, has_values, is_well_formed_read, is_whole, leads_to, leads_to_read, outline_of}
use Rattle.typed_tree.specs.declared.tree.RangeTest.{RangeTest}
use Rattle.typed_tree.specs.declared.tree.ReadVariable.{ReadVariable}
use Rattle.typed_tree.specs.declared.tree.Scalar.TheVariants as scalar
use Rattle.typed_tree.specs.declared.tree.Selector.{Selector}
use Rattle.typed_tree.specs.declared.tree.Tree.{Tree}
use Rattle.domain.specs.Interval.{Interval}
use Rattle.meaning.specs.declared.value.Value.TheVariants.{Number}
use Rattle.meaning.specs.Store.{Environment, Place as StorePlace, Store}
use Rattle.meaning.specs.Effect as effect
use Rattle.meaning.specs.Effect.{is_in}
use Rattle.meaning.specs.Meaning as meaning
use Rattle.meaning.specs.Meaning.{Surroundings, accessed, line_passed, read_as, read_of, unless_outside, values_of}
use Rattle.checker_rows.specs.Limits.{limits_of}
use Rattle.checker_state.proofs.Ranged.{is_in-limits}
use Rattle.checker_state.specs.Stores.{Reach}
use Rattle.checker_expressions.proofs.Inputs.{line-sound, outside-leaves, outside-sound, read-leaves, read-sound}
use Rattle.checker_expressions.proofs.Keeping.{keeps-then}
use Rattle.checker_expressions.proofs.Opened.{AreOpen}
use Rattle.checker_expressions.proofs.Sound.{Any_value, IsSo, SoundCalls, SoundFrom, World, from-then, good-then, good-weaker}
use Rattle.checker_expressions.proofs.Sound.{here-behind, is_seen, sound-anywhere, sound-by_tree, sound-give, sound-here, sound-then, types_in}
use Rattle.checker_expressions.proofs.SoundAccesses.{LeadsTo, leads-seen, leads-type}
use Rattle.checker_expressions.proofs.SoundCalls.{CallLaws}
use Rattle.checker_expressions.proofs.SoundExpressions.{SoundAction, access-sound}
use Rattle.checker_expressions.specs.Walk as flow
use Rattle.checker_expressions.specs.Walk.{Context, Walked, Walking}
use Rattle.cert_checker.specs.Walk as walk
use Rattle.cert_checker.specs.Walk.{point_place, reach_stored, read_value, read_walk}
use Rattle.cert_checker.proofs.SoundAssignments.{has_type, passed-typed, reached-then, value-stored}
use Rattle.cert_checker.proofs.Written.{Foretold}
use Rattle.checker_expressions.proofs.BehindCalls.{left-itself}

-- the run does something more, of which the walk has nothing
pub behind-walk : (world : World) (block : ℕ) (env : Environment) (action more : effect.Action (Unit {0})) (walking : Walking (Unit {0}))
    → SoundAction world block env action walking → SoundAction world block env more (flow.give tt)
    → SoundAction world block env (effect.◌>>=◌ action (λ done. more)) walking
behind-walk world block env action more walking one two context state s unbroken part here =
    let first = walking context state in
    let Q = Foretold world env context first s.store in
    let nothing : Walked (Unit {0}) = flow.give tt context first.after in
    good-then world Q Q s (action s) (λ done. more) (one context state s unbroken part here)
    (λ done t is told.
    good-weaker world (Foretold world env context nothing t.store) Q t (more t)
    (λ again u gives then. record {
      tie = tt;
      stands = then.so.stands;
      kept = keeps-then env context.rounds s.store t.store u.store told.so.kept then.so.kept;
    })
    (two context first.after t refl (record {
      ids = λ id inside. absurd (omega (arith, inside.1));
      linked = λ entered inside. absurd (omega (arith, inside.1));
    }) (here-behind {B = Unit {0}} world block env Any_value context state first s t done here told)))

module _ (world : World) (block : ℕ) (env : Surroundings) (records : List OpenRecord) (opened : AreOpen world block env.visible records env.records)
    (laws : CallLaws world) (calls : SoundCalls world env.calls) where
  abbrev visible : Environment
  visible = env.visible

  abbrev outline : Outline
  outline = outline_of world.tree

  module _ (name : Place) (one : ReadVariable) where
    abbrev origin : Origin
    origin = origin_of one.access

    abbrev selectors : List Selector
    selectors = one.access.selectors.items

    abbrev range : Interval
    range = limits_of one.range

    abbrev held : Context → Reach → Reach
    held context = reach_stored context selectors []

    -- what is read is tested as a value is that is assigned
    abbrev test : RangeTest
    test = record { site = 0; tests = scalar.Ordinal; range = one.range }

    abbrev tested-store : Option StorePlace → ℤ → effect.Action (Unit {0})
    tested-store place n = effect.◌>>=◌ (unless_outside one.range one.point n) (λ inside. effect.store place (Number n))

    abbrev from_place : Option StorePlace → effect.Action (Unit {0})
    from_place place = effect.◌>>=◌ (read_as one.reads one.point) (tested-store place)

    module _ (typed : has_type world test origin selectors ≡ true) (seen : is_seen world block (root_of origin) ≡ true) (reach : Reach)
        (place : Option StorePlace) where
      -- a number of the type is stored
      store-sound : (n : ℤ) → is_in one.range (Number n) ≡ true → (store : Store) → LeadsTo world block env origin selectors reach place store
          → SoundFrom {A = Unit {0}} {B = Unit {0}} world block visible store Any_value (effect.store place (Number n)) (read_value name one reach)
      store-sound n inside store leads at state s same unbroken part here =
          let own = passed-typed world origin selectors test (Number n) typed inside tt in
          sound-by_tree {A = Unit {0}} {B = Unit {0}} world block visible store Any_value (effect.store place (Number n))
          (λ (tree : Tree). walk.assign_to (point_place tree one.point name) origin selectors (held at reach) None None range)
          (value-stored world block env records opened laws calls (point_place world.tree one.point name) origin selectors own.0 own.1 (Number n) own.2 seen
          (held at reach) place range (is_in-limits one.range (Number n) inside) store
          (reached-then at world block env store store origin selectors reach place [] here.stands.goes (λ quiet. refl)
          (left-itself world [] visible store) leads) None None tt tt) at state s same unbroken part here

      read-stored : (store : Store) → LeadsTo world block env origin selectors reach place store
          → SoundFrom {A = Unit {0}} {B = Unit {0}} world block visible store Any_value (from_place place) (read_value name one reach)
      read-stored store leads =
          from-then {A = ℤ} {B = Unit {0}} {C = Unit {0}} {D = Unit {0}} world block visible store Any_value Any_value (read_as one.reads one.point)
          (tested-store place) (flow.give tt) (λ done. read_value name one reach)
          (sound-here {A = ℤ} {B = Unit {0}} world block visible store Any_value (read_as one.reads one.point) (flow.give tt)
          (read-sound world block visible one.reads one.point))
          (λ done n s t is from told.
          from-then {A = Unit {0}} {B = Unit {0}} {C = Unit {0}} {D = Unit {0}} world block visible t.store (IsSo (is_in one.range (Number n))) Any_value
          (unless_outside one.range one.point n) (λ inside. effect.store place (Number n)) (flow.give tt) (λ done. read_value name one reach)
          (sound-here world block visible t.store (IsSo (is_in one.range (Number n))) (unless_outside one.range one.point n) (flow.give tt)
          (outside-sound world block visible one.range one.point n))
          (λ done passed u w passes same inside.
          let stays : w.store ≡ store =
          outside-leaves one.range one.point n u w passed passes ∙ same ∙ read-leaves one.reads one.point s t n is ∙ from in
          store-sound n inside w.store (subst (λ (x : Store). LeadsTo world block env origin selectors reach place x) (sym stays) leads)))

    variable-sound : is_well_formed_read outline block one ≡ true → is_held_read one ≡ true → read_begins one records ≡ true
        → SoundAction world block visible (read_of one env) (read_walk name one)
    variable-sound well taken begin =
        let access = one.access in
        let indexes = one.indexes.items in
        let n = length indexes in
        let wanted = has_values (types_in world) one.range in
        let there = leads_to outline block wanted origin selectors n in
        let both = and_parts (are_well_formed outline block indexes) (leads_to_read outline block one.point one.range origin selectors n) well in
        let led = (and_parts there (nat_lt one.point outline.points && (is_whole one.range.first && is_whole one.range.last)) both.1).0 in
        let leads = LeadsTo world block env origin selectors in
        let action = accessed access (values_of indexes) env in
        let walking = flow.access_walk access (flow.index_pieces indexes) in
        sound-anywhere {A = Unit {0}} {B = Unit {0}} world block visible Any_value (read_of one env) (read_walk name one)
        (λ store.
        from-then {C = Unit {0}} {D = Unit {0}} world block visible store leads Any_value action from_place walking (read_value name one)
        (sound-here world block visible store leads action walking
        (access-sound world block env records opened laws calls access indexes wanted both.0 led taken begin))
        (λ reach place s t is from is_led.
        read-stored (leads-type outline block wanted origin selectors n led) (leads-seen outline block wanted origin selectors n led) reach place t.store
        is_led))

  -- variables that are read, one after another
  pub variables-sound : (name : Place) (variables : List ReadVariable) → all_hold (map (is_well_formed_read outline block) variables) ≡ true
      → all_hold (map is_held_read variables) ≡ true → all_begin (map read_begins variables) records ≡ true
      → SoundAction world block visible (meaning.all_of (map read_of variables) env) (walk.all_of (map (read_walk name) variables))
  variables-sound name [] well taken begin = sound-give {A = Unit {0}} {B = Unit {0}} world block visible Any_value tt tt (λ store. tt)
  variables-sound name (one ∷ others) well taken begin =
      let is_well = is_well_formed_read outline block in
      let parts = and_parts (is_well one) (all_hold (map is_well others)) well in
      let kinds = and_parts (is_held_read one) (all_hold (map is_held_read others)) taken in
      let there = and_parts (read_begins one records) (all_begin (map read_begins others) records) begin in
      sound-then world block visible Any_value Any_value (read_of one env) (λ done. meaning.all_of (map read_of others) env) (read_walk name one)
      (λ done. walk.all_of (map (read_walk name) others)) (variable-sound name one parts.0 kinds.0 there.0)
      (λ b a store tie. variables-sound name others parts.1 kinds.1 there.1)

  -- and then perhaps a line end is passed
  pub reading-sound : (name : Place) (variables : List ReadVariable) (line : Option ℕ) → all_hold (map (is_well_formed_read outline block) variables) ≡ true
      → all_hold (map is_held_read variables) ≡ true → all_begin (map read_begins variables) records ≡ true
      → SoundAction world block visible (effect.◌>>=◌ (meaning.all_of (map read_of variables) env) (λ done. line_passed line))
      (walk.all_of (map (read_walk name) variables))
  reading-sound name variables line well taken begin =
      behind-walk world block visible (meaning.all_of (map read_of variables) env) (line_passed line) (walk.all_of (map (read_walk name) variables))
      (variables-sound name variables well taken begin) (line-sound world block visible line)
