-- The code of an access: it leaves the address of the part that selectors lead to on top, or stops as an index does.
use Rattle.code_generator.proofs.Words.{◌≡◌, ℕ, zero, suc, ◌+◌, ◌-◌, ◌*◌, ◌<◌, ◌≤◌, max, List, [], ◌∷◌, ◌++◌, length, map, Option, Some, None, Ok, refl, sym}
use Rattle.code_generator.proofs.Words.{ap, ◌∙◌, subst, append_assoc, arith, length-append, Bool, true, inr, ℤ, pos, ◌-ℤ◌, int_le, ◌&&◌, nat_lt, slice_get}
use Rattle.code_generator.proofs.Words.{list_all, option_and_then, and_parts, eqb-true, ltb-true, false≢true, same_Some, slice_get_within, length-map, Instr}
use Rattle.code_generator.proofs.Words.{TypeId, cells_of, nat_eq, Expr, RangeTest, Variable, all_hold, is_well_formed_expr, Value, Place, stored}
use Rattle.code_generator.proofs.Words.{Gives, Action, ◌>>=◌, number_of, require, value_of, UsesTurnsExactly, Cell, Number, State, expr_code, Home, expr_depth}
use Rattle.code_generator.proofs.Words.{row_length, links_to, variable_home, start_within}
use Rattle.std.proofs.Common.{if◌then◌else◌}
use Rattle.std.specs.Cmp.Lexicographic.{pointwise}
use Rattle.std.specs.Option.{option_map}
use Rattle.std.specs.Prelude.{Vec}
use Rattle.std.specs.declared.alloc.Global.{Global}
use Rattle.std.specs.Prelude.{negsuc, ◌≤ℤ◌, fold}
use Rattle.std.proofs.lemmas.Int.{ints}
use Rattle.pcode_assembler.specs.declared.instr.Instr.TheVariants as instr
use Rattle.types.specs.declared.form.Step.TheVariants as step
use Rattle.types.specs.Types.{is_scalar}
use Rattle.typed_tree.specs.declared.tree.Base.{Base}
use Rattle.typed_tree.specs.declared.tree.Base.TheVariants as base_at
use Rattle.typed_tree.specs.declared.tree.PathStep.{PathStep}
use Rattle.typed_tree.specs.declared.tree.Scalar.{Scalar}
use Rattle.typed_tree.specs.declared.tree.Scalar.TheVariants as scalar
use Rattle.typed_tree.specs.Kinds.{are_ordinals, held_by}
use Rattle.typed_tree.specs.Records.{OpenRecord, all_begin, begins as all_begins, is_open_as, is_same_step, is_there}
use Rattle.code_generator.proofs.Texts.{compares_strings}
use Rattle.typed_tree.specs.declared.tree.Access.{Access}
use Rattle.typed_tree.specs.declared.tree.Selector.{Selector}
use Rattle.typed_tree.specs.declared.tree.Selector.TheVariants.{Element, Field}
use Rattle.typed_tree.specs.Accesses.{Origin, AtRecord, AtVariable, accessed, index_count, is_type, led, lying, origin_by, origin_of, root_of}
use Rattle.typed_tree.specs.Accesses.{selected as chosen}
use Rattle.typed_tree.specs.Accesses.{steps_of}
use Rattle.typed_tree.specs.WellFormed.{is_visible, is_well_formed_selector, is_well_formed_test, is_whole, leads_to}
use Rattle.meaning.specs.Effect as effect
use Rattle.meaning.specs.Effect.{fetch}
use Rattle.meaning.specs.declared.value.Value.TheVariants as value
use Rattle.meaning.specs.Kinds.{type_on}
use Rattle.meaning.specs.Meaning.{Evaluation, place_at, selected}
use Rattle.meaning.specs.Meaning as meaning
use Rattle.stack_machine.specs.Addresses.{element}
use Rattle.stack_machine.specs.Frames.{on_two, base as base_of}
use Rattle.code_scheme.specs.Code.{Reached, At, By, address_code, address_of, fetch_code, field_code, range_check, reached, reached_from, selectors_code}
use Rattle.code_scheme.specs.Code.{variable_code}
use Rattle.code_scheme.specs.Depth.{access_depth}
use Rattle.code_scheme.proofs.Depths.{address_takes_one, indexes_taken}
use Rattle.code_scheme.specs.Scopes.{offset, access_offset, behind_fields, fields_offset, links, record_home}
use Rattle.check_remover.specs.Strip.{stays}
use Rattle.code_generator.proofs.Acts.{loads}
use Rattle.code_generator.proofs.Addressing.{loads_address, increases, indexes as element_indexed, loads_indirect}
use Rattle.code_generator.proofs.Alike.{LiesIn, Leads, cell_within, alike_above, base_is, keeps_above}
use Rattle.code_generator.proofs.Scalars.{HasFit, cell_of, is_kind, is_scalar_of, scalar_at, scalar_of, scalar_there as scalar_there_of}
use Rattle.code_generator.proofs.Nesting.{one_there}
use Rattle.code_generator.proofs.Places.{way_is}
use Rattle.code_generator.proofs.Evaluating.{ExprRuns, Gives as GivesKind, fetched_runs, frames_of, shape_of, sites, range_then}
use Rattle.code_generator.proofs.Numbers.{same_range}
use Rattle.code_generator.proofs.Parts.{inner, IsPart, element_part, field_part, is_element, is_field_of, led_on, scalar_part, part_later, part_up_to}
use Rattle.code_generator.proofs.Reach.{Stands, StandsAt, stands_front, stands_back, Comes, comes_less, stays_here}
use Rattle.code_generator.proofs.Exact.{exact_selected}
use Rattle.code_generator.proofs.Setting.{Setting, Shown, ShownRecord, Way, Direct, ByAddress, Reaches, outline, around, exact_around, on, Based, linked}
use Rattle.code_generator.proofs.Setting.{limit_far, acts}
use Rattle.code_generator.proofs.Setting.{entered}
use Rattle.code_generator.proofs.Running.{ordinal_beside, Aim, Arrives, Evaluates, Runs, instr_then, runs_from, then_code, value_on}
use Rattle.code_generator.proofs.Lists.{slice_get-front, length_one}

-- how far a number lies above another
counted : (z : ℤ) → pos 0 ≤ℤ z → (n : ℕ) × (pos n ≡ z)
counted (pos n) h = (n, refl)
counted (negsuc n) h = absurd (omega (arith, ints, h))

module _ (g : Setting) where
  -- the part of a place that is of a type lies from a cell on, below the cells that are held
  abbrev pub PartAt : Place → TypeId → ℕ → Type 0
  PartAt p t d = IsPart (outline g) g.world g.below p t d

  -- index expressions, each with what is shown of its code
  abbrev pub Indexes : Type 0
  Indexes = List ((e : Expr) × ExprRuns g e)

  abbrev pub expressions : Indexes → List Expr
  expressions indexes = map (λ e. e.0) indexes

  abbrev pub wells : Indexes → List Bool
  wells indexes = map (is_well_formed_expr (outline g) g.number) (expressions indexes)

  -- they are in order, and ordinals
  abbrev pub AreOrdinals : List Expr → Type 0
  AreOrdinals es =
      (all_hold (map (is_well_formed_expr (outline g) g.number) es) ≡ true) × (are_ordinals (map held_by es) ≡ true)
      × (all_begin (map all_begins es) g.opened ≡ true) × (all_hold (map (compares_strings g.tree.types) es) ≡ true)

  -- the first one is, and the others are
  pub first_ordinal : (e : Expr) (es : List Expr) → AreOrdinals (e ∷ es) → GivesKind scalar.Ordinal (shape_of g e) × AreOrdinals es
  first_ordinal e es good =
      let well = and_parts _ _ good.0 in
      let held = and_parts _ _ good.1 in
      let there = and_parts _ _ good.2 in
      let strings = and_parts _ _ good.3 in
      ((well.0, is_kind scalar.Ordinal (held_by e) held.0, there.0, strings.0), (well.1, held.1, there.1, strings.1))

  pub as_many_wells : (indexes : Indexes) → length (wells indexes) ≡ length (expressions indexes)
  as_many_wells indexes = length-map (expressions indexes) (is_well_formed_expr (outline g) g.number)

  -- the address of a part of a place comes on top of what is held, over cells alike to the store
  abbrev pub Addressed : List Cell → TypeId → Option Place → effect.State → Type 0
  Addressed held t None s = ⊥
  Addressed held t (Some p) s = (base : List Cell) × Based g s base × (d : ℕ) × PartAt p t d × (g.below + length held < g.limit)

  abbrev pub addressed_there : (held : List Cell) (place : ℕ) (t : TypeId) (q : Option Place) (s : effect.State) → Addressed held t q s → State
  addressed_there held place t None s h = absurd h
  addressed_there held place t (Some p) s h = on g ((h.0 ++ held) ++ Number (pos h.2) ∷ []) place s

  abbrev pub address_on : List Cell → TypeId → ℕ → Aim (Option Place)
  address_on held t place = record { Holds = Addressed held t; there = addressed_there held place t; gain = 0 }

  abbrev pub Addresses : State → List Cell → ℕ → TypeId → Action (Option Place) → effect.State → Type 0
  Addresses m held place t action s = Runs g (address_on held t place) m action s

  -- an address that is there after some instructions
  pub addresses : (least : ℕ) (m : State) (base held : List Cell) (place d : ℕ) (p : Place) (t : TypeId) (s : effect.State) → Based g s base
      → PartAt p t d → Comes g.target least m (on g ((base ++ held) ++ Number (pos d) ∷ []) place s) → g.below + length held < g.limit
      → Arrives g (address_on held t place) s.turns m (Gives (Some p) s)
  addresses least m base held place d p t s based part l room =
      ((base, based, d, part, room), comes_less g.target (s.turns - s.turns + 0) least m _ (omega arith) l, omega arith)

  -- what comes at an address
  pub at_address : {A : Type 0} (aim : Aim A) (held : List Cell) (place : ℕ) (t : TypeId) (next : Option Place → Action A)
      → ((base : List Cell) (d : ℕ) (p : Place) (u : effect.State) → Based g u base → PartAt p t d → g.below + length held < g.limit
      → Runs g aim (on g ((base ++ held) ++ Number (pos d) ∷ []) place u) (next (Some p)) u)
      → (q : Option Place) (u : effect.State) (x : Addressed held t q u) → Runs g aim (addressed_there held place t q u x) (next q) u
  at_address aim held place t next h None u x = absurd x
  at_address aim held place t next h (Some p) u x = h x.0 x.2 p u x.1 x.3 x.4

  -- an address, and the code behind it
  pub address_then : {A : Type 0} (aim : ℕ → Aim A) (c c' : List Instr) (place : ℕ) (m : State) (held : List Cell) (t : TypeId)
      (first : Action (Option Place)) (next : Option Place → Action A) (s : effect.State) → UsesTurnsExactly first → Stands g.target place (c ++ c')
      → (Stands g.target place c → Addresses m held (place + length c) t first s)
      → ((base : List Cell) (d : ℕ) (p : Place) (u : effect.State) → Stands g.target (place + length c) c' → Based g u base → PartAt p t d
      → g.below + length held < g.limit
      → Runs g (aim (place + length c + length c')) (on g ((base ++ held) ++ Number (pos d) ∷ []) (place + length c) u) (next (Some p)) u)
      → Runs g (aim (place + length (c ++ c'))) m (first >>= next) s
  address_then aim c c' place m held t first next s exact stands runs h =
      then_code g (address_on held t) aim c c' place m first next s exact stands runs
      (λ q u x rest le. at_address (aim (place + length c + length c')) held (place + length c) t next (λ base d p v. h base d p v rest) q u x)

  -- ---- selectors

  -- the step to a field, whose place is so many cells further
  field_steps : (before place d : ℕ) (base held : List Cell) (s : effect.State) → Stands g.target place (field_code before) → Based g s base
      → g.below + length held < g.limit → d + before ≤ g.below
      → Comes g.target 0 (on g ((base ++ held) ++ Number (pos d) ∷ []) place s)
      (on g ((base ++ held) ++ Number (pos (d + before)) ∷ []) (place + length (field_code before)) s)
  field_steps zero place d base held s stands based room within =
      let here : place ≡ place + 0 = omega arith in
      let at : d ≡ d + 0 = omega arith in
      subst (λ q. Comes g.target 0 (on g ((base ++ held) ++ Number (pos d) ∷ []) place s) (on g ((base ++ held) ++ Number (pos
      (d + 0)) ∷ []) q s))
      here
      (subst (λ e. Comes g.target 0 (on g ((base ++ held) ++ Number (pos d) ∷ []) place s) (on g ((base ++ held) ++ Number
      (pos e) ∷ []) place s)) at
      (stays_here g.target _))
  field_steps (suc n) place d base held s stands based room within =
      let full = based.full in
      let far = limit_far g in
      let same : offset (suc n) ≡ suc n = omega arith in
      let cells = base ++ held in
      let long = length-append base held in
      let added = acts g (instr.Increase (offset (suc n))) (cells ++ Number (pos d) ∷ []) (cells ++ Number (pos (d + offset (suc n))) ∷ []) place s _
      stands.0 refl
      (increases g.frame g.limit g.size cells (linked g s base held based) (offset (suc n)) d (omega arith) (omega arith)) in
      subst (λ k. Comes g.target 0 (on g (cells ++ Number (pos d) ∷ []) place s) (on g (cells ++ Number (pos (d + k)) ∷ []) (place + 1) s)) same
      (comes_less g.target 0 1 _ _ (omega arith) added)

  -- the part that a field is
  field_at_part : (end position before d : ℕ) (p : Place) (t part : TypeId)
      → chosen g.tree.types (Field position before) t ≡ Some part → IsPart (outline g) g.world end p t d
      → IsPart (outline g) g.world end (inner p (step.Field position ∷ [])) part (d + before)
  field_at_part end position before d p t part is whole =
      let f = is_field_of g.tree.types t part position before is in
      subst (λ k. IsPart (outline g) g.world end (inner p (step.Field position ∷ [])) part (d + k)) (sym f.offset_is)
      (subst (λ u. IsPart (outline g) g.world end (inner p (step.Field position ∷ [])) u (d + f.field.offset)) f.type_is
      (field_part (outline g) g.world end g.known p t d position f.field f.found whole))

  -- the part that an element is, at an index in the range of the test
  element_at_part : (fits : RangeTest) (cells d n : ℕ) (index : ℤ) (p : Place) (t part : TypeId)
      → chosen g.tree.types (Element fits cells) t ≡ Some part → fits.range.first ≤ℤ index → index ≤ℤ fits.range.last
      → pos n ≡ index -ℤ fits.range.first → PartAt p t d → PartAt (inner p (step.Element index ∷ [])) part (d + n * cells) × (cells ≤ 65536)
  element_at_part fits cells d n index p t part is low high counts whole =
      let e = is_element g.tree.types t part fits cells is in
      let lies = element_part (outline g) g.world g.below g.known p t d e.element e.found index (subst (λ z. z ≤ℤ index) e.first low)
      (subst (λ z. index ≤ℤ z) e.last high) n (counts ∙ ap (λ z. index -ℤ z) e.first) whole in
      let few = lies.few in
      let same = (g.known.elements g.tree.types t e.element e.found).cells in
      let as_told = e.cells_are in (
        subst (λ k. PartAt (inner p (step.Element index ∷ [])) part (d + n * k)) (sym e.cells_are)
            (subst (λ u. PartAt (inner p (step.Element index ∷ [])) u (d + n * e.element.cells)) e.type_is lies),
        omega arith,
      )

  -- the code and the depth of index expressions
  abbrev pub codes : Indexes → List (List Instr)
  codes indexes = map (expr_code g.scope) (expressions indexes)

  abbrev pub depths : Indexes → List ℕ
  depths indexes = map expr_depth (expressions indexes)

  abbrev pub are_selectors : List Selector → Bool
  are_selectors selectors = list_all (is_well_formed_selector (outline g) g.number) selectors

  -- what is shown of the code of selectors over an address, from some depth on
  abbrev SelectorsRun : List Selector → Indexes → Type 0
  SelectorsRun selectors indexes =
      (depth place d : ℕ) (base held : List Cell) (p : Place) (t last : TypeId) (s : effect.State) → Stands g.target place (selectors_code selectors
      (codes indexes))
      → AreOrdinals (expressions indexes) → are_selectors selectors ≡ true → length (expressions indexes) ≡ index_count selectors
      → led g.tree.types selectors t ≡ Some last → PartAt p t d → Based g s base
      → g.below + length held + fold max depth (map (λ i. i + 1) (depths indexes)) ≤ g.limit → g.below + length held < g.limit
      → Addresses (on g ((base ++ held) ++ Number (pos d) ∷ []) place s) held (place + length (selectors_code selectors (codes indexes))) last
      (selected selectors (map value_of (expressions indexes)) (around g) (Some p)) s

  -- a field is a step further; an index is evaluated, tested and gives way to the address of its element
  pub selectors_run : (selectors : List Selector) (indexes : Indexes) → SelectorsRun selectors indexes
  selectors_run [] indexes depth place d base held p t last s stands wells well counts ends whole based deep room =
      let here : place ≡ place + 0 = omega arith in
      let same = same_Some t last ends in
      inr (addresses 0 _ base held (place + 0) d p last s based (subst (λ u. PartAt p u d) same whole)
      (subst (λ q. Comes g.target 0 (on g ((base ++ held) ++ Number (pos d) ∷ []) place s) (on g ((base ++ held) ++ Number
      (pos d) ∷ []) q s)) here
      (stays_here g.target _)) room)
  selectors_run (Field position before ∷ selectors) indexes depth place d base held p t last s stands wells well counts ends whole based deep room =
      let on_led = led_on g.tree.types (Field position before) selectors t last ends in
      let inside = field_at_part g.below position before d p t on_led.0 on_led.1 whole in
      let within = inside.within in
      let c = field_code before in
      let rest = selectors_code selectors (codes indexes) in
      let q = inner p (step.Field position ∷ []) in
      let e : place + length c + length rest ≡ place + length (c ++ rest) = omega (arith, length-append c rest) in
      subst (λ there. Addresses (on g ((base ++ held) ++ Number (pos d) ∷ []) place s) held there last
      (selected selectors (map value_of (expressions indexes)) (around g) (Some q)) s) e
      (runs_from g (address_on held last (place + length c + length rest)) 0 _ _
      (selected selectors (map value_of (expressions indexes)) (around g) (Some q)) s
      (field_steps before place d base held s (stands_front g.target place c rest stands) based room (omega arith))
      (selectors_run selectors indexes depth (place + length c) (d + before) base held q on_led.0 last s (stands_back g.target place c rest stands) wells
      well counts on_led.2 inside based deep room))
  selectors_run (Element fits cells ∷ selectors) [] depth place d base held p t last s stands wells well counts ends whole based deep room =
      absurd (omega arith)
  selectors_run (Element fits cells ∷ selectors) (index ∷ indexes) depth place d base held p t last s stands wells well counts ends whole based deep room =
      let on_led = led_on g.tree.types (Element fits cells) selectors t last ends in
      let c = expr_code g.scope index.0 in
      let indexing = instr.IndexAddress fits.range.first (row_length cells) ∷ selectors_code selectors (codes indexes) in
      let more = start_within (max depth (expr_depth index.0 + 1)) (map (λ i. i + 1) (depths indexes)) in
      let parts = first_ordinal index.0 (expressions indexes) wells in
      let selector_parts : (is_well_formed_test (outline g) g.number fits ≡ true) × (are_selectors selectors ≡ true) =
      and_parts _ _ well in
      let test_parts = and_parts (nat_lt fits.site (sites g)) (is_whole fits.range.first && is_whole fits.range.last) selector_parts.0 in
      let whole_bound = (and_parts (is_whole fits.range.first) (is_whole fits.range.last) test_parts.1).0 in
      let above = held ++ Number (pos d) ∷ [] in
      let high = length_one held (Number (pos d)) in
      let chosen_by : Value → Action (Option Place) = λ v.
      selected selectors (map value_of (expressions indexes)) (around g) (Some (inner p (step.Element (number_of v) ∷ []))) in
      let next : Value → Action (Option Place) = λ v. require (effect.is_in fits.range v) fits.site >>= λ _. chosen_by v in
      ordinal_beside g (address_on held last) c (range_check fits ∷ indexing) place base held (Number (pos d) ∷ [])
      (value_of index.0 (around g)) next s ((exact_around g).values index.0) stands
      (λ front. index.1 scalar.Ordinal place base above s front parts.0 based (omega arith))
      (λ base2 n s2 rest based2 fit2 room2.
      let v = value.Number n in
      let from = place + length c in
      let one = (base2 ++ held) ++ Number (pos d) ∷ [] in
      let in_frame = linked g s2 base2 held based2 in
      let e : from + 1 + length indexing ≡ from + length (range_check fits ∷ indexing) = omega arith in
      subst (λ there. Addresses (on g (one ++ Number n ∷ []) from s2) held there last (next v) s2) e
      (range_then g (address_on held last (from + 1 + length indexing)) fits n one from s2 (chosen_by v) rest.0
      (ltb-true fits.site (sites g) test_parts.0) (omega (arith, in_frame, length_one (base2 ++ held) (Number (pos d)))) fit2
      (λ holds.
      let both = and_parts (int_le fits.range.first n) (int_le n fits.range.last) (sym (same_range fits.range n fit2) ∙ holds) in
      let low : fits.range.first ≤ℤ n = omega (arith, ints, both.0) in
      let far = counted (n -ℤ fits.range.first) (omega (arith, ints, low)) in
      let lies = element_at_part fits cells d far.0 n p t on_led.0 on_led.1 low (omega (arith, ints, both.1)) far.1 whole in
      let small = lies.1 in
      let same : row_length cells ≡ cells = omega arith in
      let inside = lies.0.within in
      let full = based2.full in
      let limit = limit_far g in
      let long = length-append base2 held in
      let reached = acts g (instr.IndexAddress fits.range.first (row_length cells)) (one ++ Number n ∷ [])
      ((base2 ++ held) ++ Number (pos (d + far.0 * cells)) ∷ []) (from + 1) s2 _ rest.1.0 refl
      (ap (λ size. on_two (element fits.range.first size) (frames_of g (one ++ Number n ∷ []))) same
      ∙ element_indexed g.frame g.limit g.size (base2 ++ held) in_frame fits.range.first n cells d far.0 (omega arith)
      (record { is = whole_bound }) fit2 far.1 small (omega arith)) in
      instr_then g (address_on held last) 1 (instr.IndexAddress fits.range.first (row_length cells)) (selectors_code selectors (codes indexes)) (from + 1) _ _
      (chosen_by v) s2 reached
      (selectors_run selectors indexes (max depth (expr_depth index.0 + 1)) (from + 1 + 1) (d + far.0 * cells) base2 held
      (inner p (step.Element n ∷ [])) on_led.0 last s2 rest.1.1 parts.1 selector_parts.1 (omega arith) on_led.2 lies.0 based2 deep (omega arith)))))

  -- ---- an access

  -- what is known of selectors that lead from where an access begins to a type that is wanted, with so many index expressions
  pub record LeadsTo (wanted : TypeId → Bool) (origin : Origin) (selectors : List Selector) (indexes : ℕ) : Type 0 where
    pub visible : is_visible (outline g) g.number (root_of origin) ≡ true
    pub counts : indexes ≡ index_count selectors
    pub well : are_selectors selectors ≡ true
    pub variable : Variable
    pub declared : slice_get g.tree.variables.items (root_of origin) ≡ Some variable
    -- the type of what it begins at
    pub from : TypeId
    pub from_is : lying g.tree.types (steps_of origin) variable.type_id ≡ Some from
    pub last : TypeId
    pub ends : led g.tree.types selectors from ≡ Some last
    pub last_is : accessed g.tree.variables.items g.tree.types origin selectors ≡ Some last
    pub is_wanted : wanted last ≡ true

  -- the type of what an access accesses, from that of what it begins at
  abbrev led_from : Origin → List Selector → Option Variable → Option TypeId
  led_from origin selectors o =
      option_and_then (λ (v : Variable). option_and_then (led g.tree.types selectors) (lying g.tree.types (steps_of origin) v.type_id)) o

  accessed_from : (origin : Origin) (selectors : List Selector)
      → accessed g.tree.variables.items g.tree.types origin selectors ≡ led_from origin selectors (slice_get g.tree.variables.items (root_of origin))
  accessed_from (AtVariable root) selectors = refl
  accessed_from (AtRecord root slot steps) selectors = refl

  module _ (wanted : TypeId → Bool) (origin : Origin) (selectors : List Selector) (indexes : ℕ) where
    pub leads : leads_to (outline g) g.number wanted origin selectors indexes ≡ true → LeadsTo wanted origin selectors indexes
    leads e =
        let seen = and_parts _ _ e in
        let parts = and_parts _ _ seen.1 in
        let parts' = and_parts _ _ parts.1 in
        to_variable seen.0 (eqb-true indexes (index_count selectors) parts.0) parts'.0 (slice_get g.tree.variables.items (root_of origin)) refl
        (ap (is_type wanted) (sym (accessed_from origin selectors)) ∙ parts'.1)
      where
        to_type : is_visible (outline g) g.number (root_of origin) ≡ true → indexes ≡ index_count selectors → are_selectors selectors ≡ true
            → (variable : Variable) → slice_get g.tree.variables.items (root_of origin) ≡ Some variable → (from : TypeId)
            → lying g.tree.types (steps_of origin) variable.type_id ≡ Some from → (o : Option TypeId) → led g.tree.types selectors from ≡ o
            → is_type wanted o ≡ true → LeadsTo wanted origin selectors indexes
        to_type visible counts well variable declared from from_is None ends e = absurd (false≢true e)
        to_type visible counts well variable declared from from_is (Some last) ends e = record {
          visible = visible;
          counts = counts;
          well = well;
          variable = variable;
          declared = declared;
          from = from;
          from_is = from_is;
          last = last;
          ends = ends;
          last_is = accessed_from origin selectors ∙ ap (led_from origin selectors) declared ∙ ap (option_and_then (led g.tree.types selectors)) from_is
              ∙ ends;
          is_wanted = e;
        }

        to_from : is_visible (outline g) g.number (root_of origin) ≡ true → indexes ≡ index_count selectors → are_selectors selectors ≡ true
            → (variable : Variable) → slice_get g.tree.variables.items (root_of origin) ≡ Some variable → (o : Option TypeId)
            → lying g.tree.types (steps_of origin) variable.type_id ≡ o → is_type wanted (option_and_then (led g.tree.types selectors) o) ≡ true
            → LeadsTo wanted origin selectors indexes
        to_from visible counts well variable declared None is e = absurd (false≢true e)
        to_from visible counts well variable declared (Some from) is e =
            to_type visible counts well variable declared from is (led g.tree.types selectors from) refl e

        to_variable : is_visible (outline g) g.number (root_of origin) ≡ true → indexes ≡ index_count selectors → are_selectors selectors ≡ true
            → (o : Option Variable) → slice_get g.tree.variables.items (root_of origin) ≡ o → is_type wanted (led_from origin selectors o) ≡ true
            → LeadsTo wanted origin selectors indexes
        to_variable visible counts well None declared e = absurd (false≢true e)
        to_variable visible counts well (Some variable) declared e =
            to_from visible counts well variable declared (lying g.tree.types (steps_of origin) variable.type_id) refl e

  -- where the fields before the first index lead to
  pub record Ahead (end : ℕ) (selectors : List Selector) (p : Place) (d : ℕ) (last : TypeId) : Type 0 where
    pub there : Place
    pub its : TypeId
    pub part : IsPart (outline g) g.world end there its (d + fields_offset selectors)
    pub ends : led g.tree.types (behind_fields selectors) its ≡ Some last
    pub counts : index_count (behind_fields selectors) ≡ index_count selectors
    pub well : are_selectors (behind_fields selectors) ≡ true
    pub meant : (evaluations : List Evaluation)
        → selected selectors evaluations (around g) (Some p) ≡ selected (behind_fields selectors) evaluations (around g) (Some there)

  ahead : (end : ℕ) (selectors : List Selector) (p : Place) (t : TypeId) (d : ℕ) (last : TypeId) → are_selectors selectors ≡ true
      → led g.tree.types selectors t ≡ Some last → IsPart (outline g) g.world end p t d → Ahead end selectors p d last
  ahead end [] p t d last well ends whole =
      let same : d ≡ d + 0 = omega arith in
      record {
        there = p;
        its = t;
        part = subst (IsPart (outline g) g.world end p t) same whole;
        ends = ends;
        counts = refl;
        well = well;
        meant = λ evaluations. refl;
      }
  ahead end (Element fits cells ∷ selectors) p t d last well ends whole =
      let same : d ≡ d + 0 = omega arith in
      record {
        there = p;
        its = t;
        part = subst (IsPart (outline g) g.world end p t) same whole;
        ends = ends;
        counts = refl;
        well = well;
        meant = λ evaluations. refl;
      }
  ahead end (Field position before ∷ selectors) p t d last well ends whole =
      let on_led = led_on g.tree.types (Field position before) selectors t last ends in
      let rest = ahead end selectors (inner p (step.Field position ∷ [])) on_led.0 (d + before) last well on_led.2
      (field_at_part end position before d p t on_led.0 on_led.1 whole) in
      let at : d + before + fields_offset selectors ≡ d + (before + fields_offset selectors) = omega arith in
      record {
        there = rest.there;
        its = rest.its;
        part = subst (IsPart (outline g) g.world end rest.there rest.its) at rest.part;
        ends = rest.ends;
        counts = rest.counts;
        well = rest.well;
        meant = rest.meant;
      }

  -- an instruction pushes the address of a cell
  abbrev pub PushesAddress : Instr → ℕ → Type 0
  PushesAddress i d =
      (place : ℕ) (base held : List Cell) (s : effect.State) → StandsAt g.target place i (stays g.target.is_open i) → Based g s base
      → g.below + length held < g.limit
      → Comes g.target 1 (on g (base ++ held) place s) (on g ((base ++ held) ++ Number (pos d) ∷ []) (place + 1) s)

  -- how code reaches what selectors lead to from a cell: the cell lies at an offset in a frame; or the code of its address
  -- is that instruction and what follows from the selectors
  abbrev pub IsReached : Reached → ℕ → Instr → List Selector → List (List Instr) → Type 0
  IsReached (At level start) cell first rest indexes =
      (owner : ℕ) × Leads g.fixed level g.frame owner × (cell ≡ owner + start) × (rest ≡ []) × (first ≡ instr.LoadAddress level start)
  IsReached (By code) cell first rest indexes = code ≡ first ∷ selectors_code rest indexes

  -- the part from which the code of an access begins
  pub record Begins (access : Access) (last : TypeId) (indexes : List (List Instr)) : Type 0 where
    pub rest : List Selector
    pub there : Place
    pub its : TypeId
    pub cell : ℕ
    pub part : PartAt there its cell
    pub ends : led g.tree.types rest its ≡ Some last
    pub counts : index_count rest ≡ index_count access.selectors.items
    pub well : are_selectors rest ≡ true
    pub meant : (evaluations : List Evaluation) → meaning.accessed access evaluations (around g)
        ≡ (λ s. selected rest evaluations (around g) (Some there) (entered g access.number s))
    pub first : Instr
    pub pushes : PushesAddress first cell
    pub way : Reached
    pub way_is : reached g.scope access indexes ≡ way
    pub reaches : IsReached way cell first rest indexes

  -- the frame that so many links lead to
  pub frame_found : (level owner : ℕ) (base held : List Cell) (s : effect.State) → Based g s base → Leads g.fixed level g.frame owner
      → base_of level g.frame (base ++ held) ≡ Ok owner
  frame_found level owner base held s based l =
      let full = based.full in
      let same = g.fixed_is in
      base_is g.fixed (base ++ held) level g.frame owner (keeps_above g.fixed base held based.keeps) (omega (arith, length-append base held)) l

  -- the address of a cell in a frame
  pub address_pushed : (level start owner : ℕ) → Leads g.fixed level g.frame owner → owner + start ≤ g.below
      → PushesAddress (instr.LoadAddress level start) (owner + start)
  address_pushed level start owner l inside place base held s stands based room =
      let full = based.full in
      let far = limit_far g in
      let long = length-append base held in
      acts g (instr.LoadAddress level start) (base ++ held) ((base ++ held) ++ Number (pos (owner + start)) ∷ []) place s _ stands refl
      (loads_address g.frame g.limit g.size (base ++ held) level start owner (omega arith) (frame_found level owner base held s based l) (omega arith))

  -- the address that a cell in a frame holds
  reference_pushed : (level start owner address : ℕ) → Leads g.fixed level g.frame owner → slice_get g.fixed (owner + start)
      ≡ Some (Some (Number (pos address)))
      → PushesAddress (instr.Load level start) address
  reference_pushed level start owner address l at place base held s stands based room =
      let full = based.full in
      let long = length-append base held in
      let there = slice_get-front base held (owner + start) (Number (pos address)) (based.keeps.each (owner + start) (Number (pos address)) at) in
      acts g (instr.Load level start) (base ++ held) ((base ++ held) ++ Number (pos address) ∷ []) place s _ stands refl
      (loads g.frame g.limit g.size (base ++ held) level start owner (Number (pos address)) (omega arith) (frame_found level owner base held s based l)
      (slice_get_within (base ++ held) (owner + start) (Number (pos address)) there) there)

  -- what selectors lead to in a frame
  reached_there : (level start owner : ℕ) (rest : List Selector) (indexes : List (List Instr)) → Leads g.fixed level g.frame owner
      → IsReached (reached_from level start rest indexes) (owner + start) (instr.LoadAddress level start) rest indexes
  reached_there level start owner [] indexes l = (owner, l, refl, refl, refl)
  reached_there level start owner (x ∷ rest) indexes l = refl

  -- an access that begins at a variable
  module _ (number root : ℕ) (vec : Vec Selector Global) (wanted : TypeId → Bool) (count : ℕ) (indexes : List (List Instr))
      (l : LeadsTo wanted (AtVariable root) vec.items count) where
    abbrev at_variable : Access
    at_variable = record { number = number; root = root; base = base_at.Variable; selectors = vec }

    abbrev home : Home
    home = variable_home g.scope root

    abbrev level : ℕ
    level = links_to g.scope home.level

    abbrev selectors : List Selector
    selectors = vec.items

    abbrev shown : Shown g.tree g.world g.fixed g.below g.frame g.scope g.environment root l.variable
    shown = g.shows root l.variable l.declared l.visible

    abbrev start_offset : ℕ
    start_offset = access_offset g.scope at_variable

    entry_meant : (evaluations : List Evaluation) → meaning.accessed at_variable evaluations (around g)
        ≡ (λ s. selected selectors evaluations (around g) (Some shown.place) (entered g number s))
    entry_meant evaluations = ap {B = Action (Option Place)} (λ (o : Option Place) (s : effect.State). selected selectors evaluations (around g) o
        (entered g number s)) shown.place_is

    -- the type of the variable is that of what it begins at
    ends_from : led g.tree.types selectors l.variable.type_id ≡ Some l.last
    ends_from = ap (led g.tree.types selectors) (same_Some l.variable.type_id l.from l.from_is) ∙ l.ends

    begins_by : (way : Way) → Reaches g.tree g.world g.fixed g.below shown.place l.variable (shown.owner + home.start) home.refers way
        → Begins at_variable l.last indexes
    begins_by Direct r =
        let whole = r.1 in
        let near = g.near root l.variable l.declared r.0 in
        let start = shown.owner + home.start in
        let close = part_up_to (outline g) g.world g.below shown.place l.variable.type_id start whole in
        let all = ahead (start + cells_of g.tree.types l.variable.type_id) selectors shown.place l.variable.type_id start l.last l.well ends_from close in
        let within = all.part.within in
        let inside = whole.within in
        let at : start + fields_offset selectors ≡ shown.owner + start_offset = omega arith in
        let part = part_later (outline g) g.world (start + cells_of g.tree.types l.variable.type_id) g.below all.there all.its
        (start + fields_offset selectors)
        (omega arith) all.part in
        record {
          rest = behind_fields selectors;
          there = all.there;
          its = all.its;
          cell = shown.owner + start_offset;
          part = subst (PartAt all.there all.its) at part;
          ends = all.ends;
          counts = all.counts;
          well = all.well;
          meant = λ evaluations. entry_meant evaluations
              ∙ ap {B = Action (Option Place)} (λ (action : Action (Option Place)) (s : effect.State). action (entered g number s))
              (all.meant evaluations);
          first = instr.LoadAddress level start_offset;
          pushes = address_pushed level start_offset shown.owner shown.leads (omega arith);
          way = reached_from level start_offset (behind_fields selectors) indexes;
          way_is = ap (λ b. if b then By (instr.Load level home.start ∷ selectors_code selectors indexes)
              else reached_from level start_offset (behind_fields selectors) indexes) r.0;
          reaches = reached_there level start_offset shown.owner (behind_fields selectors) indexes shown.leads;
        }
    begins_by (ByAddress address) r = record {
      rest = selectors;
      there = shown.place;
      its = l.variable.type_id;
      cell = address;
      part = r.2;
      ends = ends_from;
      counts = refl;
      well = l.well;
      meant = entry_meant;
      first = instr.Load level home.start;
      pushes = reference_pushed level home.start shown.owner address shown.leads r.1;
      way = By (instr.Load level home.start ∷ selectors_code selectors indexes);
      way_is = ap (λ b. if b then By (instr.Load level home.start ∷ selectors_code selectors indexes)
          else reached_from level start_offset (behind_fields selectors) indexes) r.0;
      reaches = refl;
    }

    begins_at_variable : Begins at_variable l.last indexes
    begins_at_variable = begins_by shown.way shown.reaches

  -- one that begins at a record that is open
  module _ (number root slot : ℕ) (path : Vec PathStep Global) (vec : Vec Selector Global) (wanted : TypeId → Bool) (count : ℕ)
      (indexes : List (List Instr)) (l : LeadsTo wanted (AtRecord root slot path.items) vec.items count)
      (there : is_there g.opened (AtRecord root slot path.items) ≡ true) where
    abbrev at_record : Access
    at_record = record { number = number; root = root; base = base_at.Record slot path; selectors = vec }

    abbrev record_at : Home
    record_at = record_home g.scope slot

    abbrev links_up : ℕ
    links_up = links_to g.scope record_at.level

    open_record : (one : OpenRecord) × (slice_get g.opened slot ≡ Some one) × (is_open_as root path.items one ≡ true)
    open_record = one_there (is_open_as root path.items) (slice_get g.opened slot) there

    abbrev open_shown : ShownRecord g.tree g.world g.fixed g.below g.frame g.scope g.records slot open_record.0
    open_shown = g.opens slot open_record.0 open_record.1

    no_links_up : links_up ≡ 0
    no_links_up =
        let none : g.scope.level - g.scope.level ≡ 0 = omega arith in
        ap (links_to g.scope) open_shown.level_is ∙ ap links none

    -- it is of the type of what the access begins at
    type_same : open_shown.id ≡ l.from
    type_same =
        let same = and_parts (nat_eq root open_record.0.root) (pointwise is_same_step path.items open_record.0.steps) open_record.2 in
        let root_is = eqb-true root open_record.0.root same.0 in
        let steps_are = way_is path.items open_record.0.steps same.1 in
        same_Some open_shown.id l.from
        (sym open_shown.type_is ∙ ap (λ n. type_on (outline g) n open_record.0.steps) (sym root_is) ∙ ap (type_on (outline g) root) (sym steps_are)
        ∙ ap (λ o. option_and_then (lying g.tree.types path.items) (option_map (λ (v : Variable). v.type_id) o)) l.declared ∙ l.from_is)

    begins_at_record : Begins at_record l.last indexes
    begins_at_record = record {
      rest = vec.items;
      there = open_shown.place;
      its = l.from;
      cell = open_shown.address;
      part = subst (λ t. PartAt open_shown.place t open_shown.address) type_same open_shown.part;
      ends = l.ends;
      counts = refl;
      well = l.well;
      meant = λ evaluations. ap {B = Action (Option Place)} (λ (o : Option (Option Place)) (s : effect.State). selected vec.items evaluations (around g)
          (place_at o) (entered g number s)) open_shown.place_is;
      first = instr.Load links_up record_at.start;
      pushes = reference_pushed links_up record_at.start g.frame open_shown.address
          (subst (λ n. Leads g.fixed n g.frame g.frame) (sym no_links_up) refl) open_shown.held;
      way = By (instr.Load links_up record_at.start ∷ selectors_code vec.items indexes);
      way_is = ap (λ b. if b then By (instr.Load links_up record_at.start ∷ selectors_code vec.items indexes)
          else reached_from links_up (access_offset g.scope at_record) (behind_fields vec.items) indexes) open_shown.refers;
      reaches = refl;
    }

  begins_from : (number root : ℕ) (base : Base) (vec : Vec Selector Global) (wanted : TypeId → Bool) (count : ℕ) (indexes : List (List Instr))
      (l : LeadsTo wanted (origin_by root base) vec.items count) → is_there g.opened (origin_by root base) ≡ true
      → Begins (record { number = number; root = root; base = base; selectors = vec }) l.last indexes
  begins_from number root base_at.Variable vec wanted count indexes l there = begins_at_variable number root vec wanted count indexes l
  begins_from number root (base_at.Record slot path) vec wanted count indexes l there =
      begins_at_record number root slot path vec wanted count indexes l there

  -- where the code of an access begins
  pub begins : (access : Access) (wanted : TypeId → Bool) (count : ℕ) (indexes : List (List Instr))
      (l : LeadsTo wanted (origin_of access) access.selectors.items count) → is_there g.opened (origin_of access) ≡ true → Begins access l.last indexes
  begins access wanted count indexes l there = begins_from access.number access.root access.base access.selectors wanted count indexes l there

  module _ (access : Access) (indexes : Indexes) (last : TypeId) (start : Begins access last (codes indexes))
      (good : AreOrdinals (expressions indexes)) (counts : length (expressions indexes) ≡ index_count access.selectors.items) where
    abbrev rest_code : List Instr
    rest_code = selectors_code start.rest (codes indexes)

    -- what the access means behind its entry
    abbrev pub found : Action (Option Place)
    found = selected start.rest (map value_of (expressions indexes)) (around g) (Some start.there)

    pub exact_found : UsesTurnsExactly found
    exact_found = exact_selected (around g) (exact_around g) start.rest (expressions indexes) (Some start.there)

    -- each index is one that a selector takes
    all_taken : fold max 1 (map (λ i. i + 1) (depths indexes)) ≤ max 1 (access_depth access.selectors.items (depths indexes))
    all_taken = indexes_taken 1 access.selectors.items (depths indexes) (length-map (expressions indexes) expr_depth ∙ counts)

    pub pushed_runs : (place : ℕ) (base held : List Cell) (s : effect.State) → Stands g.target place (start.first ∷ rest_code) → Based g s base
        → g.below + length held + access_depth access.selectors.items (depths indexes) ≤ g.limit
        → Addresses (on g (base ++ held) place s) held (place + length (start.first ∷ rest_code)) last found s
    pushed_runs place base held s stands based deep =
        let cells = base ++ held in
        let more = address_takes_one access.selectors.items (depths indexes) in
        instr_then g (address_on held last) 1 start.first rest_code place (on g cells place s) _ found s
        (start.pushes place base held s stands.0 based (omega arith))
        (selectors_run start.rest indexes 1 (place + 1) start.cell base held start.there start.its last s stands.1 good start.well
        (counts ∙ sym start.counts) start.ends start.part based (omega (arith, deep, all_taken, more)) (omega arith))

    -- the code of the address of what is reached
    address_by : (way : Reached) → IsReached way start.cell start.first start.rest (codes indexes) → address_of way ≡ start.first ∷ rest_code
    address_by (At links first) r = ap (λ i. i ∷ []) (sym r.4) ∙ ap (λ rest. start.first ∷ selectors_code rest (codes indexes)) (sym r.3)
    address_by (By code) r = r

    pub address_is : address_code g.scope access (codes indexes) ≡ start.first ∷ rest_code
    address_is = ap address_of start.way_is ∙ address_by start.way start.reaches

    -- the code of an address
    pub address_runs : (place : ℕ) (base held : List Cell) (s : effect.State) → Stands g.target place (address_code g.scope access (codes indexes))
        → Based g s base → g.below + length held + access_depth access.selectors.items (depths indexes) ≤ g.limit
        → Addresses (on g (base ++ held) place s) held (place + length (address_code g.scope access (codes indexes))) last found s
    address_runs place base held s stands based deep =
        subst (λ c. Addresses (on g (base ++ held) place s) held (place + length c) last found s) (sym address_is)
        (pushed_runs place base held s (subst (Stands g.target place) address_is stands) based deep)

    -- the value of a scalar that is loaded, checked
    loaded_runs : (kind : Scalar) (defined place : ℕ) (cells base held : List Cell) (p : Place) (d : ℕ) (s : effect.State) → defined < sites g
        → LiesIn g.world p d → scalar_at (outline g) p ≡ Some kind
        → StandsAt g.target (place + 1) (instr.CheckDefined defined 1) (g.target.is_open defined) → Based g s base → g.below + length held < g.limit
        → ((cell : Cell) → d < length (base ++ held) → slice_get (base ++ held) d ≡ Some cell
        → Comes g.target 1 (on g cells place s) (on g ((base ++ held) ++ cell ∷ []) (place + 1) s))
        → Evaluates g kind (on g cells place s) held (place + 1 + 1) (fetch (Some p) defined) s
    loaded_runs kind defined place cells base held p d s within lies is stands based room does =
        let above = alike_above (outline g) g.world s.store base held based.alike in
        let loaded = does (cell_of (stored s.store p)) (cell_within (outline g) g.world s.store (base ++ held) p d above lies) (above.scalars p d lies) in
        runs_from g (value_on g kind held (place + 1 + 1)) 1 _ _ (fetch (Some p) defined) s loaded
        (fetched_runs g kind (place + 1) defined base held s (stored s.store p) stands within based room
        (subst (λ k. HasFit k (stored s.store p)) is (above.fits p d lies)))

    module _ (kind : Scalar) (scalar_is : scalar_of g.tree.types last ≡ Some kind) where
      abbrev is_one : is_scalar g.tree.types last ≡ true
      is_one = is_scalar_of g.tree.types last kind scalar_is

      -- a part of that type is such a one
      pub kind_there : (p : Place) (d : ℕ) → PartAt p last d → scalar_at (outline g) p ≡ Some kind
      kind_there p d part = scalar_there_of (outline g) p last part.typed ∙ scalar_is

      -- what is reached without a selector is the scalar
      pub part_there : start.rest ≡ [] → PartAt start.there last start.cell
      part_there none =
          let same : start.its ≡ last = same_Some start.its last (ap (λ rest. led g.tree.types rest start.its) (sym none) ∙ start.ends) in
          subst (λ u. PartAt start.there u start.cell) same start.part

      pub scalar_lies_there : (p : Place) (d : ℕ) → PartAt p last d → LiesIn g.world p d
      scalar_lies_there p d part = scalar_part (outline g) g.world g.below g.known p last d is_one part

      pub scalar_there : start.rest ≡ [] → LiesIn g.world start.there start.cell
      scalar_there none = scalar_lies_there start.there start.cell (part_there none)

      fetch_by : (way : Reached) → reached g.scope access (codes indexes) ≡ way → IsReached way start.cell start.first start.rest (codes indexes)
          → (defined place : ℕ) (base held : List Cell) (s : effect.State) → defined < sites g
          → Stands g.target place (fetch_code way ++ (instr.CheckDefined defined 1 ∷ [])) → Based g s base
          → g.below + length held + access_depth access.selectors.items (depths indexes) ≤ g.limit
          → Evaluates g kind (on g (base ++ held) place s) held (place + length (fetch_code way ++ (instr.CheckDefined defined 1 ∷ [])))
          (found >>= λ q. fetch q defined) s
      fetch_by (At level first) is r defined place base held s within stands based deep =
          let cells = base ++ held in
          let more = address_takes_one access.selectors.items (depths indexes) in
          let full = based.full in
          let long = length-append base held in
          let e : place + 1 + 1 ≡ place + 2 = omega arith in
          let selects = λ (rest : List Selector). (λ (t : effect.State). selected rest (map value_of (expressions indexes)) (around g) (Some start.there) t) in
          subst (λ rest. Evaluates g kind (on g cells place s) held (place + 2)
          (selected rest (map value_of (expressions indexes)) (around g) (Some start.there) >>= λ q. fetch q defined) s) (sym r.3)
          (subst (λ q. Evaluates g kind (on g cells place s) held q (fetch (Some start.there) defined) s) e
          (loaded_runs kind defined place cells base held start.there start.cell s within (scalar_there r.3)
          (kind_there start.there start.cell (part_there r.3)) stands.1.0 based (omega arith)
          (λ cell inside at.
          acts g (instr.Load level first) cells (cells ++ cell ∷ []) place s _ stands.0 refl
          (loads g.frame g.limit g.size cells level first r.0 cell (omega arith) (frame_found level r.0 base held s based r.1)
          (subst (λ d. d < length cells) r.2 inside) (ap (slice_get cells) (sym r.2) ∙ at)))))
      fetch_by (By code) is r defined place base held s within stands based deep =
          let check = instr.CheckDefined defined 1 ∷ [] in
          let load = instr.LoadIndirect 0 ∷ [] in
          let split = append_assoc code load check in
          let far = limit_far g in
          subst (λ c. Evaluates g kind (on g (base ++ held) place s) held (place + length c) (found >>= λ q. fetch q defined) s) (sym split)
          (address_then (value_on g kind held) code (load ++ check) place _ held last found (λ q. fetch q defined) s exact_found
          (subst (Stands g.target place) split stands)
          (λ front. subst (λ c. Addresses (on g (base ++ held) place s) held (place + length c) last found s) (sym r)
          (pushed_runs place base held s (subst (Stands g.target place) r front) based deep))
          (λ base2 d p s2 rest based2 part2 room2.
          let full = based2.full in
          let long = length-append base2 held in
          let from = place + length code in
          let e : from + 1 + 1 ≡ from + 2 = omega arith in
          subst (λ q. Evaluates g kind (on g ((base2 ++ held) ++ Number (pos d) ∷ []) from s2) held q (fetch (Some p) defined) s2) e
          (loaded_runs kind defined from ((base2 ++ held) ++ Number (pos d) ∷ []) base2 held p d s2 within
          (scalar_lies_there p d part2) (kind_there p d part2) rest.1.0 based2 room2
          (λ cell inside at'.
          acts g (instr.LoadIndirect 0) ((base2 ++ held) ++ Number (pos d) ∷ []) ((base2 ++ held) ++ cell ∷ []) from s2 _ rest.0 refl
          (loads_indirect g.frame g.limit g.size (base2 ++ held) (linked g s2 base2 held based2) d cell (omega arith) (omega arith) inside at')))))

      -- the code of the value of an ordinal or a set that is accessed, checked
      pub fetch_runs : (defined place : ℕ) (base held : List Cell) (s : effect.State) → defined < sites g
          → Stands g.target place (variable_code g.scope access (codes indexes) defined) → Based g s base
          → g.below + length held + access_depth access.selectors.items (depths indexes) ≤ g.limit
          → Evaluates g kind (on g (base ++ held) place s) held (place + length (variable_code g.scope access (codes indexes) defined))
          (found >>= λ q. fetch q defined) s
      fetch_runs defined place base held s within stands based deep =
          subst (λ way. Evaluates g kind (on g (base ++ held) place s) held (place + length (fetch_code way ++ (instr.CheckDefined defined 1 ∷ [])))
          (found >>= λ q. fetch q defined) s) (sym start.way_is)
          (fetch_by start.way start.way_is start.reaches defined place base held s within
          (subst (λ way. Stands g.target place (fetch_code way ++ (instr.CheckDefined defined 1 ∷ []))) start.way_is stands) based deep)
