-- Copies of whole values are sound: the target is accessed, and then come the components, which are stored side by side.
use Rattle.std.proofs.Common.{◌≡◌, ◌∙◌, sym, ap, refl, subst, ℕ, Bool, true, false, ◌&&◌, length, List, Option, Some}
use Rattle.std.proofs.lemmas.Bool.{and_parts}
use Rattle.types.specs.Components.{components_of}
use Rattle.types.specs.Forms.{Form}
use Rattle.types.specs.Types.{is_same, is_structured}
use Rattle.types.specs.declared.form.TypeId.{TypeId}
use Rattle.place.specs.declared.Place.{Place}
use Rattle.typed_tree.specs.Accesses as accesses
use Rattle.typed_tree.specs.Accesses.{Origin, AtVariable, origin_of, root_of}
use Rattle.typed_tree.specs.Calls.{whole_holds_call}
use Rattle.typed_tree.specs.Kinds.{are_ordinal_indexes, is_held_value, statement_held}
use Rattle.typed_tree.specs.Records.{OpenRecord, accesses_begin, statement_begins, value_begins}
use Rattle.typed_tree.specs.WellFormed.{Outline, are_well_formed, is_well_formed_value, is_well_formed_whole, leads_to_whole, length_of}
use Rattle.typed_tree.specs.WellFormed.{may_copy, outline_of, source_of, stmt_is_well_formed}
use Rattle.typed_tree.specs.declared.tree.Copying.{Copying}
use Rattle.typed_tree.specs.declared.tree.Expr.{Expr}
use Rattle.typed_tree.specs.declared.tree.Selector.{Selector}
use Rattle.typed_tree.specs.declared.tree.Stmt.TheOpen.Stmt-F.{Copy}
use Rattle.typed_tree.specs.declared.tree.Tree.{Tree}
use Rattle.typed_tree.specs.declared.tree.Whole.{Whole}
use Rattle.typed_tree.specs.declared.tree.Whole.TheVariants.{Text, Variable as VariableOf}
use Rattle.domain.specs.Interval.{Interval}
use Rattle.meaning.specs.declared.value.Value.{Value}
use Rattle.meaning.specs.Store.{Environment, Place as StorePlace, Store}
use Rattle.meaning.specs.Effect as effect
use Rattle.meaning.specs.Meaning as meaning
use Rattle.meaning.specs.Meaning.{Surroundings, accessed, values_of}
use Rattle.checker_state.proofs.Refined.{whole-kept}
use Rattle.checker_rows.specs.Rows.{rows_accessed}
use Rattle.checker_rows.proofs.Numbered.{has-contains}
use Rattle.checker_rows.proofs.Accessed.{row-leaf, rows-count, rows-are}
use Rattle.checker_calls.proofs.Origins.{rows-same}
use Rattle.checker_state.specs.Stores.{Reach}
use Rattle.checker_expressions.specs.Walk as flow
use Rattle.checker_expressions.specs.Walk.{Context}
use Rattle.checker_expressions.proofs.Fitting.{copy-for, same-type}
use Rattle.checker_expressions.proofs.Sound.{Any_value, Good, SoundCalls, SoundFrom, World, declared_in, from-then, is_seen, sound-anywhere, sound-here}
use Rattle.checker_expressions.proofs.Sound.{types_in}
use Rattle.checker_expressions.proofs.BehindCalls.{AndLeft, piece-leaves, sound-left}
use Rattle.checker_expressions.proofs.Forms.{indexes-hold}
use Rattle.checker_expressions.proofs.Opened.{AreOpen}
use Rattle.checker_expressions.proofs.OtherLoops.{whole-alike}
use Rattle.checker_expressions.proofs.SoundAccesses.{IsWholeIn, LeadsTo, leads-seen, leads-type, type-of}
use Rattle.checker_expressions.proofs.SoundCalls.{CallLaws}
use Rattle.checker_expressions.proofs.SoundExpressions.{SoundAction, access-sound, whole_value-sound}
use Rattle.checker_calls.proofs.Passed.{IsReachedBy}
use Rattle.checker_expressions.proofs.SoundRows.{IsWhole}
use Rattle.cert_checker.specs.Walk as walk
use Rattle.cert_checker.specs.Walk.{paired, reach_stored}
use Rattle.cert_checker.proofs.SoundAssignments.{reached-then}
use Rattle.cert_checker.proofs.Targets.{paired-at, paired-targets, structured-whole}
use Rattle.cert_checker.proofs.Written.{Fit, Foretold, stores-good}

-- a whole value whose index expressions hold no call
whole-quiet : (value : Whole) (indexes : List Expr) → flow.hold_call (flow.index_pieces indexes) ≡ false → whole_holds_call value indexes ≡ false
whole-quiet (Text number characters) indexes quiet = refl
whole-quiet (VariableOf access type_id cells defined) indexes quiet = sym (indexes-hold indexes) ∙ quiet

module _ (world : World) (block : ℕ) (env : Surroundings) (records : List OpenRecord) (opened : AreOpen world block env.visible records env.records)
    (laws : CallLaws world) (calls : SoundCalls world env.calls) where
  abbrev visible : Environment
  visible = env.visible

  abbrev outline : Outline
  outline = outline_of world.tree

  abbrev access_type : Origin → List Selector → Option TypeId
  access_type origin selectors = accesses.accessed (declared_in world) (types_in world) origin selectors

  abbrev leads_whole : TypeId → Origin → List Selector → ℕ → Bool
  leads_whole = leads_to_whole outline block

  -- an access leads to a type
  leads-there : (type_id : TypeId) (origin : Origin) (selectors : List Selector) (n : ℕ) → leads_whole type_id origin selectors n ≡ true
      → access_type origin selectors ≡ Some type_id
  leads-there type_id origin selectors n leads =
      let wanted = λ (id : TypeId). is_same id type_id && is_structured (types_in world) id in
      let found = type-of wanted (access_type origin selectors) (leads-type outline block wanted origin selectors n leads) in
      found.1 ∙ ap (λ (id : TypeId). Some id)
      (same-type found.0 type_id (and_parts (is_same found.0 type_id) (is_structured (types_in world) found.0) found.2).0)

  module _ (origin : Origin) (selectors : List Selector) (target : TypeId) (leads : access_type origin selectors ≡ Some target) where
    abbrev root : ℕ
    root = root_of origin

    -- ---- the copy

    copy-stored : (becomes : Place) → is_seen world block root ≡ true → (value : Whole) (indexes : ℕ)
        → is_well_formed_whole outline block value indexes ≡ true → may_copy outline block target (source_of value) (length_of value) ≡ true
        → (reach : Reach) (place : Option StorePlace) (ranges : List Interval) (values : List Value) → IsWhole (types_in world) value ranges values
        → (store : Store) → LeadsTo world block env origin selectors reach place store
        → SoundFrom {A = Unit {0}} {B = Unit {0}} world block visible store Any_value (effect.store_all place (components_of visible.types target) values)
        (walk.copy_to becomes origin selectors reach ranges)
    copy-stored becomes seen value indexes well may reach place ranges values whole store leads_to context state s same unbroken part here =
        let copy = copy-for outline block laws.required target indexes ranges values value well may whole in
        let at = here.proper.visible root seen in
        let led = leads_to.leads in
        let all = led.all in
        let all_typed = leads_to.typed target leads in
        let under = rows_accessed world.tree (AtVariable root) all in
        let rows = rows-are world.tree (AtVariable root) all target all_typed in
        let many = sym copy.components.count in
        let long : length under ≡ length ranges = rows-count world.tree (AtVariable root) all target all_typed ∙ sym copy.many in
        let way = led.way in
        let matches = led.matches in
        let stores = λ (tree : Tree). paired (rows_accessed tree origin selectors) ranges in
        let fit =
        subst (λ (tree : Tree). Fit world block visible root at.0 at.1 all target rows reach way matches values many (stores tree))
        (sym here.stands.goes.tree_is)
        (subst (λ (own : List ℕ). Fit world block visible root at.0 at.1 all target rows reach way matches values many (paired own ranges))
        (rows-same world.tree origin selectors all led.steps_are)
        (record {
          structured = λ none.
              structured-whole world.tree root target
              (subst (λ (s : List Selector). access_type (AtVariable root) s ≡ Some target) none all_typed) copy.structured;
          are = λ one listed. let at = paired-at under ranges one listed in has-contains under one.0 (at.j, at.row_is);
          targets = paired-targets world.tree root all target rows visible store way matches values many ranges long copy.lie
              (λ rest j row at of_row. row-leaf world.tree (AtVariable root) all target all_typed way rest j row matches at of_row);
        })) in
        let reached = subst (λ (x : Store). IsReachedBy visible x all way reach) (sym same) led.reached in
        subst (λ (own : List Form).
        Good world (Foretold world visible context (walk.copy_to becomes origin selectors reach ranges context state) s.store) s
        (effect.store_all place (components_of own target) values s)) (sym here.proper.types_are)
        (stores-good world block visible root at.0 at.1 all target rows reach way matches values many all_typed copy.components becomes
        (stores context.tree) fit context state s reached unbroken here place led.place_is)

  -- the target is accessed, and then comes the value
  abbrev pub copied : Copying → effect.Action (Unit {0})
  copied copying =
      effect.◌>>=◌ (accessed copying.target (values_of copying.indexes.items) env)
      (λ place. effect.◌>>=◌ (meaning.whole_of copying.value (values_of copying.value_indexes.items) env)
      (effect.store_all place (components_of visible.types copying.type_id)))

  well-whole : (value : Whole) (indexes : List Expr) → is_well_formed_value outline block value indexes ≡ true
      → is_well_formed_whole outline block value (length indexes) ≡ true
  well-whole value indexes well = (and_parts _ (is_well_formed_whole outline block value (length indexes)) well).1

  pub copying-sound : (copying : Copying) → stmt_is_well_formed outline block (Copy copying) ≡ true → statement_held (Copy copying) ≡ true
      → statement_begins (Copy copying) records ≡ true → SoundAction world block visible (copied copying) (walk.copying_walk copying)
  copying-sound copying well taken begin =
      let type_id = copying.type_id in
      let origin = origin_of copying.target in
      let selectors = copying.target.selectors.items in
      let indexes = copying.indexes.items in
      let n = length indexes in
      let value = copying.value in
      let value_indexes = copying.value_indexes.items in
      let there = leads_whole type_id origin selectors n in
      let is_value = is_well_formed_value outline block value value_indexes in
      let may = may_copy outline block type_id (source_of value) (length_of value) in
      let one = and_parts (are_well_formed outline block indexes) (there && (is_value && may)) well in
      let two = and_parts there (is_value && may) one.1 in
      let three = and_parts is_value may two.1 in
      let kinds = and_parts (are_ordinal_indexes indexes) (is_held_value value value_indexes) taken in
      let begun = and_parts (accesses_begin copying.target indexes records) (value_begins value value_indexes records) begin in
      let wanted = λ (id : TypeId). is_same id type_id && is_structured (types_in world) id in
      let seen = leads-seen outline block wanted origin selectors n two.0 in
      let leads_is = leads-there type_id origin selectors n two.0 in
      let leads = LeadsTo world block env origin selectors in
      let action = accessed copying.target (values_of indexes) env in
      let whole = meaning.whole_of value (values_of value_indexes) env in
      let stored = λ (place : Option StorePlace). effect.store_all place (components_of visible.types type_id) in
      let next = λ (place : Option StorePlace). effect.◌>>=◌ whole (stored place) in
      let walking = flow.access_walk copying.target (flow.index_pieces indexes) in
      let whole_walking = flow.whole_walk value (flow.index_pieces value_indexes) in
      let later = flow.index_pieces value_indexes in
      let inner = flow.calls_in later in
      let copy = λ (reach : Reach) (copied : List Interval) (own : Context).
      walk.copy_to copying.becomes origin selectors (reach_stored own selectors later reach) copied own in
      let Given = IsWholeIn world block env value in
      let whole_sound = whole_value-sound world block env records opened laws calls value value_indexes three.0 kinds.1 begun.1 in
      let walk_next = λ (reach : Reach). flow.◌>>=◌ whole_walking (copy reach) in
      sound-anywhere {A = Unit {0}} {B = Unit {0}} world block visible Any_value (effect.◌>>=◌ action next) (flow.◌>>=◌ walking walk_next)
      (λ store.
      from-then {C = Unit {0}} {D = Unit {0}} world block visible store leads Any_value action next walking walk_next
      (sound-here world block visible store leads action walking
      (access-sound world block env records opened laws calls copying.target indexes wanted one.0 two.0 kinds.0 begun.0))
      (λ reach place s t is from led.
      from-then {C = Unit {0}} {D = Unit {0}} world block visible t.store (AndLeft world inner visible t.store Given) Any_value whole (stored place)
      whole_walking (copy reach)
      (sound-left world inner block visible t.store Given whole whole_walking whole_sound
      (piece-leaves world inner block visible Given whole whole_walking whole_sound (λ own rounds. whole-alike own rounds value value_indexes)))
      (λ ranges values s2 u gives same (told, left) at state s3 now unbroken part here.
      copy-stored origin selectors type_id leads_is copying.becomes seen value (length value_indexes) (well-whole value value_indexes three.0) three.1
      (reach_stored at selectors later reach) place ranges values told u.store
      (reached-then at world block env t.store u.store origin selectors reach place later here.stands.goes
      (λ quiet. whole-kept value value_indexes (whole-quiet value value_indexes quiet) env s2 u values gives ∙ same) left led) at state s3 now unbroken part
      here)))
