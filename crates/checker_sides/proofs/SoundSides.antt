-- What the operators of a condition tell is so of their operands in the evaluation, if no call is in it: where the condition had a truth value, each side
-- that is met keeps what is known.
use Rattle.std.proofs.Common.{arith, rules, ◌≡◌, ◌∙◌, ap, ap₂, refl, sym, subst, ℕ, ℤ, pos, ◌+ℤ◌, Bool, true, false, not, ◌&&◌, ◌||◌, cond, List, [], ◌∷◌, ◌++◌}
use Rattle.std.proofs.Common.{map}
use Rattle.std.proofs.Common.{◌<◌, Option, Some, None, length, append-nil, nat_lt}
use Rattle.std.proofs.lemmas.Int.{ints}
use Rattle.std.proofs.lemmas.List.{map-append}
use Rattle.std.specs.List.{Contains, list_all}
use Rattle.std.specs.Option.{option_map}
use Rattle.std.specs.declared.alloc.Global.{Global}
use Rattle.std.specs.declared.boxed.Box.{Box}
use Rattle.std.specs.declared.vec.Vec.{Vec}
use Rattle.std.proofs.lemmas.Bool.{and_from, and_parts, cond_both, false≢true, or_parts}
use Rattle.std.proofs.lemmas.List.Folds.{list_all-append}
use Rattle.std.proofs.lemmas.Option.{cond_some, none-some, same_Some}
use Rattle.types.specs.Components.{components_of}
use Rattle.types.specs.declared.form.Step.{Step}
use Rattle.types.specs.declared.form.Step.TheVariants as step
use Rattle.types.specs.declared.form.TypeId.{TypeId}
use Rattle.typed_tree.specs.declared.tree.Access.{Access}
use Rattle.typed_tree.specs.declared.tree.Scalar.{Scalar}
use Rattle.typed_tree.specs.declared.tree.Dyadic.{Dyadic}
use Rattle.typed_tree.specs.declared.tree.Dyadic.TheVariants as dyadic
use Rattle.typed_tree.specs.declared.tree.Monadic.{Monadic}
use Rattle.typed_tree.specs.declared.tree.Monadic.TheVariants as monadic
use Rattle.typed_tree.specs.declared.tree.Calculation.TheVariants as calculation
use Rattle.typed_tree.specs.declared.tree.Expr.{Expr}
use Rattle.typed_tree.specs.declared.tree.Link.{Link}
use Rattle.typed_tree.specs.declared.tree.Passed.{Passed}
use Rattle.typed_tree.specs.declared.tree.PathStep.{PathStep}
use Rattle.typed_tree.specs.declared.tree.Selector.{Selector}
use Rattle.typed_tree.specs.declared.tree.Selector.TheVariants.{Element, Field}
use Rattle.typed_tree.specs.declared.tree.Expr.TheOpen.{Expr-F, Link-F}
use Rattle.typed_tree.specs.declared.tree.Expr.TheOpen.Expr-F.{Constant, Variable, Monadic as MonadicOf, Chain, Compare, Call as CallOf, Set as SetOf, Input}
use Rattle.typed_tree.specs.declared.tree.Expr.TheViews.{out-Expr, roll-Expr, roll-Link, roll-out-Expr}
use Rattle.typed_tree.specs.declared.tree.Expr.TheFolds.{fold-Link, fold-roll-Expr, fold-roll-Link, ind-Expr, map-Expr, map-Link, the_lemmas}
use Rattle.types.proofs.Scalars.{scalar_component}
use Rattle.checker_calls.specs.Actuals.{way_accessed}
use Rattle.typed_tree.specs.Accesses as accesses
use Rattle.typed_tree.specs.Accesses.{AtVariable, Origin, index_count, origin_of, root_of, step_of, steps_of}
use Rattle.typed_tree.specs.Calls.{any_holds, expression_holds_call, holds_call, link_holds_call, link_holds_call_of, passed_holds_call, passed_step_holds_call}
use Rattle.typed_tree.specs.Records.{Begin, OpenRecord, all_begin, begins, expression_begins, is_there, link_begins, passed_begin, passed_begins}
use Rattle.typed_tree.specs.WellFormed.{Outline, all_hold, dyadic_is_well_formed, expr_is_well_formed, holds, is_well_formed_expr}
use Rattle.typed_tree.specs.WellFormed.{is_well_formed_link, is_well_formed_passed, leads_to_held, link_is_well_formed, monadic_is_well_formed, outline_of}
use Rattle.typed_tree.specs.WellFormed.{passed_is_well_formed}
use Rattle.types.specs.Types.{kind_of}
use Rattle.domain.specs.declared.versions.Version.TheVariants.{Three}
use Rattle.members.specs.Members as sets
use Rattle.meaning.specs.Integers.{is_true, truth}
use Rattle.meaning.specs.declared.value.Value.{Value}
use Rattle.meaning.specs.declared.value.Value.TheVariants.{Number}
use Rattle.meaning.specs.Store.{Environment, Place, Store, held, part}
use Rattle.meaning.specs.Effect as effect
use Rattle.meaning.specs.Effect.{members_of, number_of}
use Rattle.meaning.specs.Meaning as meaning
use Rattle.meaning.specs.Meaning.{Evaluation, Passing, Surroundings, begun, is_so, link_of, passing_of, relates, selected, value_of}
use Rattle.checker_rows.specs.Rows.{Parts, is_ordinal_variable, rows_accessed}
use Rattle.checker_rows.proofs.Accessed.{RowsAre, rows-are}
use Rattle.checker_loops.proofs.Lists.{in-one}
use Rattle.checker_loops.proofs.Tabled.{are-rows}
use Rattle.checker_loops.proofs.VariableRows.{one-way}
use Rattle.checker_calls.proofs.Origins.{rows-same}
use Rattle.checker_state.specs.Bounds.{Bound}
use Rattle.checker_state.specs.Conditions.{Accessed, Condition, Conjunct, Subject, Telling, all_tellings, bound_form, chain_tellings, condition_of}
use Rattle.checker_state.specs.Conditions.{condition_step}
use Rattle.checker_state.specs.Conditions.{conjunct_of, joins, link_condition, passed_condition, subject_of, taken, takes_both, turn_tellings, under}
use Rattle.checker_state.specs.Forms.{bound_of}
use Rattle.checker_state.specs.Holds.{HasNumber, HoldNumbers, IsBoundBy, IsOfRow, Moment, component_at, moment, value_at}
use Rattle.checker_state.specs.Knows.{IsOfForm, Knows, Shows}
use Rattle.checker_state.specs.State.{State, table_of}
use Rattle.checker_state.specs.Values.{IsKnown}
use Rattle.checker_state.proofs.Evaluated.{both-gives, fetch-gives, given-same, is_of_numbers, truth-is}
use Rattle.checker_state.proofs.Refined.{expression-kept, forms-tell}
use Rattle.checker_state.proofs.Rows.{shown}
use Rattle.checker_expressions.specs.declared.noting.Noted.{Noted}
use Rattle.checker_sides.specs.declared.sides.Side.{Side}
use Rattle.checker_sides.specs.Sides.{access_side, all_met, bound_side, expression_side, is_field, is_straight, only_row, operation_met, row_side, side_by}
use Rattle.checker_sides.specs.Sides.{side_of, sided}
use Rattle.checker_sides.specs.Sides.{selects_field, side_of_parts, telling_met}
use Rattle.checker_expressions.proofs.Opened.{AreOpen, begins-at}
use Rattle.checker_sides.proofs.Sided.{Gave, IsOnly, IsSide, IsSideOf, IsSideValue, operation-holds}
use Rattle.checker_expressions.proofs.Sound.{World, declared_in, ordinal_in, parts_in, types_in, variables_in}
use Rattle.checker_expressions.proofs.SoundAccesses.{held-scalar, leads-type, part-held, part-none, part-then, type-of}
use Rattle.checker_expressions.proofs.SoundCalls.{then-gives}
use Rattle.checker_expressions.proofs.SoundNotes.{AreNoted}
use Rattle.checker_expressions.proofs.SoundRows.{Matches, matches-then}
use Rattle.checker_expressions.proofs.Traced.{Operands, Traced, TracedLink, first_values, link_values, trace_link, trace_passed, trace_step, traced-combines}
use Rattle.checker_expressions.proofs.Traced.{traced-evaluates, traced_behind, traced_link, traced_of, traced_passed, turns_values}

-- ---- what is accessed without an index

-- selectors that lead to fields alone lead to one place, and change nothing
plain-selected : (selectors : List Selector) (evaluations : List Evaluation) (env : Surroundings) (place found : Option Place) (s t : effect.State)
    → list_all selects_field selectors ≡ true → selected selectors evaluations env place s ≡ effect.Gives found t
    → (way : List Step) × (found ≡ part place way) × Matches selectors way × (t ≡ s)
plain-selected [] evaluations env place found s t plain is =
    let same = given-same place found s t is in
    ([], sym same.0 ∙ sym (part-none place), tt, sym same.1)
plain-selected (Element fits cells ∷ selectors) evaluations env place found s t plain is = absurd (false≢true plain)
plain-selected (Field position offset ∷ selectors) evaluations env place found s t plain is =
    let one = step.Field position ∷ [] in
    let (way, found_is, matches, same) = plain-selected selectors evaluations env (part place one) found s t plain is in
    (step.Field position ∷ way, found_is ∙ part-then place one way, (refl, matches), same)

plain-count : (selectors : List Selector) → list_all is_field (map step_of selectors) ≡ true → index_count selectors ≡ 0
plain-count [] plain = refl
plain-count (Element fits cells ∷ selectors) plain = absurd (false≢true plain)
plain-count (Field position offset ∷ selectors) plain = plain-count selectors plain

plain-steps : (selectors : List Selector) → list_all selects_field selectors ≡ true → list_all is_field (map step_of selectors) ≡ true
plain-steps [] plain = refl
plain-steps (Element fits cells ∷ selectors) plain = absurd (false≢true plain)
plain-steps (Field position offset ∷ selectors) plain = plain-steps selectors plain

only-is : (rows : List ℕ) (row : ℕ) → only_row rows ≡ Some row → rows ≡ row ∷ []
only-is [] row is = absurd (none-some row is)
only-is (one ∷ []) row is = ap (λ (r : ℕ). r ∷ []) (same_Some one row is)
only-is (one ∷ two ∷ rows) row is = absurd (none-some row is)

mapped-side : (found : Option ℕ) (side : Side) → option_map row_side found ≡ Some side → (row : ℕ) × (found ≡ Some row) × (side ≡ row_side row)
mapped-side None side is = absurd (none-some side is)
mapped-side (Some row) side is = (row, refl, sym (same_Some (row_side row) side is))

-- ---- what operators tell

-- the whole has this truth value, if there is one
abbrev pub IsSo : Option Bool → Value → Type 0
IsSo None v = Unit {0}
IsSo (Some b) v = is_so v ≡ b

taken-so : (conjuncts : List Conjunct) (told : Option Bool) (v : Value) → IsSo told v → IsSo (taken conjuncts told) v
taken-so conjuncts None v so = tt
taken-so conjuncts (Some b) v so =
    cond_both (list_all (λ c. takes_both b c.operation) conjuncts) (Some b) None (λ found. IsSo found v) (λ takes. so) (λ none. tt)

taken-takes : (conjuncts : List Conjunct) (told : Option Bool) (b : Bool) → taken conjuncts told ≡ Some b
    → list_all (λ c. takes_both b c.operation) conjuncts ≡ true
taken-takes conjuncts None b is = absurd (none-some b is)
taken-takes conjuncts (Some own) b is =
    let both = cond_some (list_all (λ c. takes_both own c.operation) conjuncts) own b is in
    subst (λ (c : Bool). list_all (λ conjunct. takes_both c conjunct.operation) conjuncts ≡ true) both.1 both.0

-- both operands have the truth value that the whole takes from both
both-so : (operation : Dyadic) (a b : ℤ) (so : Bool) → takes_both so operation ≡ true → is_true (meaning.of_both operation a b) ≡ so
    → (is_true a ≡ so) × (is_true b ≡ so)
both-so dyadic.And a b true takes is = and_parts (is_true a) (is_true b) (sym (truth-is (is_true a && is_true b)) ∙ is)
both-so dyadic.Or a b false takes is = or_parts (is_true a) (is_true b) (sym (truth-is (is_true a || is_true b)) ∙ is)
both-so operation a b true takes is = absurd (cc)
both-so operation a b false takes is = absurd (cc)

-- these are operations of numbers
takes-numbers : (so : Bool) (operation : Dyadic) → takes_both so operation ≡ true → is_of_numbers operation ≡ true
takes-numbers true dyadic.And takes = refl
takes-numbers false dyadic.Or takes = refl
takes-numbers true operation takes = absurd (cc)
takes-numbers false operation takes = absurd (cc)

-- an operation gave a truth value
gave : (operation : Dyadic) (v w r : Value) (s t : effect.State) → meaning.operated_both operation v w s ≡ effect.Gives r t → Gave (is_so r) operation v w
gave (dyadic.Relation relation) v w r s t is =
    let one = both-gives (dyadic.Relation relation) v w r s t is in
    sym (truth-is (relates relation (number_of v) (number_of w))) ∙ sym (ap is_so (one.0 refl))
gave dyadic.In v w r s t is =
    let has = sets.has (members_of w) (number_of v) in
    sym (truth-is has) ∙ ap is_so (given-same (Number (truth has)) r s t is).0
gave dyadic.And v w r s t is = tt
gave dyadic.Or v w r s t is = tt
gave (dyadic.Plus site) v w r s t is = tt
gave (dyadic.Minus site) v w r s t is = tt
gave (dyadic.Times site) v w r s t is = tt
gave (dyadic.Div site) v w r s t is = tt
gave (dyadic.Mod site) v w r s t is = tt
gave dyadic.Union v w r s t is = tt
gave dyadic.Difference v w r s t is = tt
gave dyadic.Intersection v w r s t is = tt
gave (dyadic.SetRelation relation) v w r s t is = tt

joined-operations : (ordinal : ℕ → Bool) (links : List Link)
    → list_all (λ conjunct. joins conjunct.operation) (map (conjunct_of ordinal) links) ≡ list_all (λ link. joins link.operation) (map traced_link links)
joined-operations ordinal [] = refl
joined-operations ordinal (link ∷ links) = ap₂ (λ (one more : Bool). one && more) (ap joins (one-operation ordinal link)) (joined-operations ordinal links)
  where
    one-operation : (ordinal : ℕ → Bool) (link : Link) → (conjunct_of ordinal link).operation ≡ (traced_link link).operation
    one-operation ordinal link = search (rules, the_lemmas)

straight-then : (b : Bool) (found : Option Side) (side : Side) → cond b found None ≡ Some side → (b ≡ true) × (found ≡ Some side)
straight-then true found side is = (refl, is)
straight-then false found side is = absurd (none-some side is)

not-not : (b : Bool) → not (not b) ≡ b
not-not true = refl
not-not false = refl

-- behind an entry
abbrev entered_in : Environment → ℕ → effect.State → effect.State
entered_in visible number s = record s { visited = s.visited ++ record { number = number; environment = visible; store = s.store } ∷ [] }

module _ (world : World) (block : ℕ) (env : Surroundings) (records : List OpenRecord) (opened : AreOpen world block env.visible records env.records)
    (shows : Shows (variables_in world) env.visible) where
  abbrev visible : Environment
  visible = env.visible

  abbrev outline : Outline
  outline = outline_of world.tree

  abbrev ordinal : ℕ → Bool
  ordinal = ordinal_in world

  abbrev well_expr : Expr → Bool
  well_expr = is_well_formed_expr outline block

  abbrev well_passed : Passed → ℕ → ℕ → Bool
  well_passed = is_well_formed_passed outline block

  abbrev well_link : Link → Bool
  well_link = is_well_formed_link outline block

  abbrev link_begin : Link → Begin
  link_begin = fold-Link Begin Begin Begin expression_begins passed_begins link_begins

  abbrev at_store : Store → Moment
  at_store store = moment visible store

  abbrev SideIs : Option Side → Store → Value → Type 0
  SideIs side store v = IsSideValue (parts_in world) (at_store store) side v

  -- what a condition is at a form
  abbrev conditions : Expr-F Expr Passed Link → Condition
  conditions x = condition_step ordinal (map-Expr Expr Passed Link Condition (Unit {0}) Conjunct (condition_of ordinal) (λ p. tt) (conjunct_of ordinal) x)

  conditioned : (x : Expr-F Expr Passed Link) → condition_of ordinal (roll-Expr x) ≡ conditions x
  conditioned x = fold-roll-Expr Condition (Unit {0}) Conjunct (condition_step ordinal) passed_condition link_condition x

  -- ---- sides

  abbrev EvaluatesSide : Expr → Type 0
  EvaluatesSide e =
      well_expr e ≡ true → begins e records ≡ true → (s t : effect.State) (v : Value) → value_of e env s ≡ effect.Gives v t
      → HoldNumbers ordinal (at_store t.store) → SideIs (expression_side world.tree e) t.store v

  -- a variable as a whole is the only component of its row
  own-side : (root : ℕ) (old k n : ℤ) (store : Store) → HasNumber (at_store store) root old → n ≡ (old +ℤ k)
      → IsSide (parts_in world) (at_store store) (record { row = root; number = k }) n
  own-side root old k n store has is =
      let within = shown (variables_in world) visible shows store root [] (Number old) has in
      let own = (are-rows world.tree).own root within in
      record {
        old = old;
        there = record {
          steps = [];
          of_row = subst (λ (parts : Parts). Contains parts.components []) (sym own) (0, omega arith, refl);
          value = ap (λ (parts : Parts). value_at (at_store store) parts.root []) own ∙ has;
          only = λ other of_row. sym (in-one [] other (subst (λ (parts : Parts). Contains parts.components other) own of_row));
        };
        number_is = is;
      }

  parts-side : (root : Option ℕ) (k n : ℤ) (store : Store) → IsBoundBy (at_store store) root k n
      → IsSideOf (parts_in world) (at_store store) (side_of_parts root k) n
  parts-side None k n store is one found = absurd (none-some one found)
  parts-side (Some root) k n store (old, has, is) one found =
      subst (λ (side : Side). IsSide (parts_in world) (at_store store) side n) (same_Some _ one found) (own-side root old k n store has (sym is))

  bound-is_side : (bound : Option Bound) (v : Value) (store : Store) → IsOfForm (at_store store) bound v → SideIs (bound_side bound) store v
  bound-is_side None v store is n v_is one found = absurd (none-some one found)
  bound-is_side (Some bound) v store (m, m_is, lies) n v_is one found =
      let same : m ≡ n = cc in
      parts-side bound.root bound.number n store (subst (IsBoundBy (at_store store) bound.root bound.number) same lies) one found

  -- what is no access
  formed-side : (e : Expr) → (condition_of ordinal e).accessed ≡ None → EvaluatesSide e
  formed-side e none well begin s t v is numbers =
      subst (λ (accessed : Option Accessed). SideIs (side_by world.tree accessed (bound_form ordinal Three e)) t.store v) (sym none)
      (bound-is_side (bound_form ordinal Three e) v t.store (forms-tell ordinal Three e env s t v is numbers))

  -- what is accessed
  module _ (access : Access) (evaluations : List Evaluation) (one : Scalar) (defined count : ℕ) where
    abbrev own : List Selector
    own = access.selectors.items

    abbrev origin : Origin
    origin = origin_of access

    abbrev root : ℕ
    root = root_of origin

    abbrev under_it : List ℕ
    under_it = rows_accessed world.tree origin own

    accessed-side : leads_to_held outline block one origin own count ≡ true → is_there records origin ≡ true → (s t : effect.State) (v : Value)
        → effect.◌>>=◌ (meaning.accessed access evaluations env) (λ place. effect.fetch place defined) s ≡ effect.Gives v t
        → SideIs (access_side world.tree (record { origin = origin; selectors = own })) t.store v
    accessed-side leads there s t v gives n v_is side found =
        let (straight, some) = straight-then (is_straight origin own) (option_map row_side (only_row under_it)) side found in
        let (row, row_is, side_is) = mapped-side (only_row under_it) side some in
        let begins = begins-at world block env records opened origin there in
        let all = begins.all ++ own in
        let own_steps = map step_of own in
        let steps_are : map step_of all ≡ way_accessed origin own =
        map-append step_of begins.all own ∙ ap (λ (steps : List PathStep). steps ++ own_steps) begins.steps_are in
        let parted = and_parts (list_all is_field (steps_of origin)) (list_all selects_field own) straight in
        let plain : list_all is_field (map step_of all) ≡ true =
        ap (list_all is_field) steps_are ∙ list_all-append is_field (steps_of origin) own_steps
        ∙ and_from (list_all is_field (steps_of origin)) (list_all is_field own_steps) parted.0 (plain-steps own parted.1) in
        let none = plain-count all plain in
        let start = entered_in visible access.number s in
        let reached = then-gives (selected own evaluations env (begun origin env) start) (λ place. effect.fetch place defined) v t gives in
        let led = plain-selected own evaluations env (begun origin env) reached.1 start reached.0 parted.1 reached.2 in
        let fetched = fetch-gives (held reached.0.store reached.1) defined reached.0 t v reached.3 in
        let way = begins.way ++ led.0 in
        let place_is : reached.1 ≡ part (visible.variables root) way =
        led.1 ∙ ap (λ (place : Option Place). part place led.0) begins.place_is ∙ part-then (visible.variables root) begins.way led.0 in
        let matches = matches-then begins.all own begins.way led.0 begins.matches led.2 in
        let (id, typed, of_one) = type-of (holds (types_in world) one) (accesses.accessed (declared_in world) (types_in world) origin own)
        (leads-type outline block (holds (types_in world) one) origin own count leads) in
        let laws : RowsAre world.tree root under_it all id =
        subst (λ (under : List ℕ). RowsAre world.tree root under all id) (rows-same world.tree origin own all steps_are)
        (rows-are world.tree (AtVariable root) all id (begins.typed own id typed)) in
        let alone : components_of (types_in world) id ≡ [] ∷ [] =
        scalar_component (types_in world) id (held-scalar one (kind_of (types_in world) id) of_one) in
        let itself : Contains (components_of (types_in world) id) [] =
        subst (λ (components : List (List Step)). Contains components []) (sym alone) (0, omega arith, refl) in
        let covered = laws.covers way [] matches itself in
        let row_same : covered.0 ≡ row =
        sym (in-one row covered.0 (subst (λ (rows : List ℕ). Contains rows covered.0) (only-is under_it row row_is) covered.1)) in
        let inside : Contains under_it row = subst (Contains under_it) row_same covered.1 in
        let value : value_at (at_store t.store) root (way ++ []) ≡ Some (Number n) =
        ap (λ (steps : List Step). value_at (at_store t.store) root steps) (append-nil way) ∙ sym (part-held t.store (visible.variables root) way)
        ∙ ap (held t.store) (sym place_is) ∙ ap (λ (store : Store). held store reached.1) (sym (ap (λ (u : effect.State). u.store) fetched.1)) ∙ fetched.0
        ∙ ap Some v_is in
        let there_is : IsSide (parts_in world) (at_store t.store) (row_side row) n = record {
          old = n;
          there = record {
            steps = way ++ [];
            of_row = subst (λ (r : ℕ). IsOfRow (parts_in world) r (way ++ [])) row_same covered.2;
            value = ap (λ (r : ℕ). value_at (at_store t.store) r (way ++ [])) (laws.root_is row inside) ∙ value;
            only = λ other of_row.
                let lies = laws.lies row other inside of_row in
                lies.2
                ∙ ap₂ (λ (first rest : List Step). first ++ rest) (one-way all lies.0 way none lies.3 matches)
                (sym (in-one [] lies.1 (subst (λ (components : List (List Step)). Contains components lies.1) alone lies.4)));
          };
          number_is = omega (arith, ints);
        } in
        subst (λ (one : Side). IsSide (parts_in world) (at_store t.store) one n) (sym side_is) there_is

  no-access : (x : Expr-F Expr Passed Link) → (conditions x).accessed ≡ None → (condition_of ordinal (roll-Expr x)).accessed ≡ None
  no-access x none = ap (λ (c : Condition). c.accessed) (conditioned x) ∙ none

  layer-side : (x : Expr-F Expr Passed Link) → EvaluatesSide (roll-Expr x)
  layer-side (Variable access indexes one defined) well begin s t v is numbers =
      let x : Expr-F Expr Passed Link = Variable access indexes one defined in
      let evaluations = map value_of indexes.items in
      let many = length (map well_expr indexes.items) in
      let leads = leads_to_held outline block one (origin_of access) access.selectors.items many in
      let parts = and_parts (all_hold (map well_expr indexes.items)) (leads && nat_lt defined outline.sites)
      (sym (fold-roll-Expr Bool (ℕ → ℕ → Bool) Bool (expr_is_well_formed outline block) (passed_is_well_formed outline block)
      (link_is_well_formed outline block) x) ∙ well) in
      let both = and_parts leads (nat_lt defined outline.sites) parts.1 in
      let there = and_parts (all_begin (map begins indexes.items) records) (is_there records (origin_of access))
      (sym (ap (λ (b : Begin). b records) (fold-roll-Expr Begin Begin Begin expression_begins passed_begins link_begins x)) ∙ begin) in
      subst (λ (condition : Condition). SideIs (side_of world.tree (subject_of condition)) t.store v) (sym (conditioned x))
      (accessed-side access evaluations one defined many both.0 there.1 s t v
      (sym (ap (λ (e : Evaluation). e env s)
      (fold-roll-Expr Evaluation Passing meaning.Combination meaning.value_step meaning.passed_step meaning.link_step x)) ∙ is))
  layer-side (Constant number value) well begin s t v is numbers =
      formed-side (roll-Expr (Constant number value)) (no-access (Constant number value) refl) well begin s t v is numbers
  layer-side (SetOf number designators members) well begin s t v is numbers =
      formed-side (roll-Expr (SetOf number designators members)) (no-access (SetOf number designators members) refl) well begin s t v is numbers
  layer-side (MonadicOf number operation operand) well begin s t v is numbers =
      formed-side (roll-Expr (MonadicOf number operation operand)) (no-access (MonadicOf number operation operand) refl) well begin s t v is numbers
  layer-side (Chain first rest) well begin s t v is numbers =
      formed-side (roll-Expr (Chain first rest)) (no-access (Chain first rest) refl) well begin s t v is numbers
  layer-side (Compare number relation left left_indexes right right_indexes) well begin s t v is numbers =
      formed-side (roll-Expr (Compare number relation left left_indexes right right_indexes))
      (no-access (Compare number relation left left_indexes right right_indexes) refl) well begin s t v is numbers
  layer-side (CallOf call actuals) well begin s t v is numbers =
      formed-side (roll-Expr (CallOf call actuals)) (no-access (CallOf call actuals) refl) well begin s t v is numbers
  layer-side (Input number asks) well begin s t v is numbers =
      formed-side (roll-Expr (Input number asks)) (no-access (Input number asks) refl) well begin s t v is numbers

  -- the value of an operand is that of its side, if it is one
  pub evaluates-side : (e : Expr) → EvaluatesSide e
  evaluates-side e = subst EvaluatesSide (roll-out-Expr e) (layer-side (out-Expr e))

  -- ---- what operators tell

  -- an operator that had a truth value did so over the values of its operands
  pub record Tells (store : Store) (telling : Telling) (one : Operands) (told : Bool) : Type 0 where
    pub gave : Gave told telling.operation one.left one.right
    pub left : SideIs (side_of world.tree telling.left) store one.left
    pub right : SideIs (side_of world.tree telling.right) store one.right

  abbrev pub AreTold : Store → List Telling → List Operands → Type 0
  AreTold store [] [] = Unit {0}
  AreTold store (telling ∷ tellings) (one ∷ more) =
      ((told : Bool) → telling.truth ≡ Some told → Tells store telling one told) × AreTold store tellings more
  AreTold store tellings more = ⊥

  told-both : (store : Store) (tellings others : List Telling) (some more : List Operands) → AreTold store tellings some → AreTold store others more
      → AreTold store (tellings ++ others) (some ++ more)
  told-both store [] others [] more first rest = rest
  told-both store [] others (one ∷ some) more first rest = absurd first
  told-both store (telling ∷ tellings) others [] more first rest = absurd first
  told-both store (telling ∷ tellings) others (one ∷ some) more first rest = (first.0, told-both store tellings others some more first.1 rest)

  -- behind a value
  told-behind : {A : Type 0} (store : Store) (tellings others : List Telling) (some : List Operands) (reply : effect.Reply A) (a : A) (t : effect.State)
      (next : A → effect.State → List Operands) → reply ≡ effect.Gives a t → AreTold store tellings some → AreTold store others (next a t)
      → AreTold store (tellings ++ others) (some ++ traced_behind reply next)
  told-behind store tellings others some reply a t next is first rest =
      subst (λ (r : effect.Reply _). AreTold store (tellings ++ others) (some ++ traced_behind r next)) (sym is)
      (told-both store tellings others some (next a t) first rest)

  abbrev Numbers : Store → Type 0
  Numbers store = HoldNumbers ordinal (at_store store)

  -- behind an entry
  abbrev entered_at : ℕ → effect.State → effect.State
  entered_at number s = entered_in visible number s

  abbrev ExprTold : Bool → Begin → Traced → Condition → Bool → Type 0
  ExprTold well begin traced condition quiet =
      well ≡ true → begin records ≡ true → quiet ≡ false → (s t : effect.State) (v : Value) → traced.evaluation env s ≡ effect.Gives v t
      → Numbers s.store → (told : Option Bool) → IsSo told v → AreTold s.store (condition.tellings told) (traced.values env s)

  -- an operator and its right operand, behind a value on the left
  record Did (traced : TracedLink) (conjunct : Conjunct) (s t : effect.State) (v r : Value) : Type 0 where
    right : Value
    behind : effect.State
    gives : traced.right.evaluation env (entered_at traced.number s) ≡ effect.Gives right behind
    operated : meaning.operated_both conjunct.operation v right behind ≡ effect.Gives r t
    stays : behind.store ≡ s.store
    inner : (told : Option Bool) → IsSo told right
        → AreTold s.store (conjunct.right.tellings told) (traced.right.values env (entered_at traced.number s))
    right_side : SideIs (side_of world.tree (subject_of conjunct.right)) s.store right

  abbrev LinkTold : Bool → Begin → TracedLink → Conjunct → Bool → Type 0
  LinkTold well begin traced conjunct quiet =
      well ≡ true → begin records ≡ true → quiet ≡ false → (s t : effect.State) (v r : Value) → traced.combination env v s ≡ effect.Gives r t
      → Numbers s.store → Did traced conjunct s t v r

  abbrev ExprIsTold : Expr → Type 0
  ExprIsTold e = ExprTold (well_expr e) (begins e) (traced_of e) (condition_of ordinal e) (holds_call e)

  abbrev LinkIsTold : Link → Type 0
  LinkIsTold l = LinkTold (well_link l) (link_begin l) (traced_link l) (conjunct_of ordinal l) (link_holds_call_of l)

  abbrev ToldExpr : Type 0
  ToldExpr = (e : Expr) × ExprIsTold e

  abbrev ToldPassed : Type 0
  ToldPassed = (p : Passed) × Unit {0}

  abbrev ToldLink : Type 0
  ToldLink = (l : Link) × LinkIsTold l

  abbrev links_of : List ToldLink → List Link
  links_of = map (λ (l : ToldLink). l.0)

  abbrev conjuncts_of : List ToldLink → List Conjunct
  conjuncts_of links = map (conjunct_of ordinal) (links_of links)

  abbrev traced_in : List ToldLink → List TracedLink
  traced_in links = map traced_link (links_of links)

  abbrev turns : List ToldLink → meaning.Combination
  turns links = meaning.in_turn (map (λ link. link.combination) (traced_in links))

  -- these operators are well formed, begin at open records, and hold no call
  abbrev AreQuiet : List ToldLink → Type 0
  AreQuiet links =
      (all_hold (map well_link (links_of links)) ≡ true) × (all_begin (map link_begin (links_of links)) records ≡ true)
      × (any_holds (map link_holds_call_of (links_of links)) ≡ false)

  quiet-first : (link : ToldLink) (links : List ToldLink) → AreQuiet (link ∷ links)
      → (well_link link.0 ≡ true) × (link_begin link.0 records ≡ true) × (link_holds_call_of link.0 ≡ false)
  quiet-first link links quiet = (
    (and_parts (well_link link.0) (all_hold (map well_link (links_of links))) quiet.0).0,
    (and_parts (link_begin link.0 records) (all_begin (map link_begin (links_of links)) records) quiet.1).0,
    (or_parts (link_holds_call_of link.0) (any_holds (map link_holds_call_of (links_of links))) quiet.2).0,
  )

  quiet-rest : (link : ToldLink) (links : List ToldLink) → AreQuiet (link ∷ links) → AreQuiet links
  quiet-rest link links quiet = (
    (and_parts (well_link link.0) (all_hold (map well_link (links_of links))) quiet.0).1,
    (and_parts (link_begin link.0 records) (all_begin (map link_begin (links_of links)) records) quiet.1).1,
    (or_parts (link_holds_call_of link.0) (any_holds (map link_holds_call_of (links_of links))) quiet.2).1,
  )

  did-first : (link : ToldLink) (links : List ToldLink) → AreQuiet (link ∷ links) → (s t : effect.State) (v r : Value)
      → (traced_link link.0).combination env v s ≡ effect.Gives r t → Numbers s.store → Did (traced_link link.0) (conjunct_of ordinal link.0) s t v r
  did-first link links quiet s t v r is numbers =
      let first = quiet-first link links quiet in link.1 first.0 first.1 first.2 s t v r is numbers

  -- no operator changes the store
  did-stays : (link : ToldLink) (s t : effect.State) (v r : Value) → Did (traced_link link.0) (conjunct_of ordinal link.0) s t v r → t.store ≡ s.store
  did-stays link s t v r did =
      ap (λ (u : effect.State). u.store) (both-gives (conjunct_of ordinal link.0).operation v did.right r did.behind t did.operated).1 ∙ did.stays

  -- both operands have the truth value that the whole takes from both
  joined-so : (link : ToldLink) (s t : effect.State) (v r : Value) (told : Option Bool) → Did (traced_link link.0) (conjunct_of ordinal link.0) s t v r
      → ((b : Bool) → told ≡ Some b → takes_both b (conjunct_of ordinal link.0).operation ≡ true) → IsSo told r
      → (did : Did (traced_link link.0) (conjunct_of ordinal link.0) s t v r) → IsSo told v × IsSo told did.right
  joined-so link s t v r None was takes so did = (tt, tt)
  joined-so link s t v r (Some b) was takes so did =
      let operation = (conjunct_of ordinal link.0).operation in
      let one = both-gives operation v did.right r did.behind t did.operated in
      both-so operation (number_of v) (number_of did.right) b (takes b refl)
      (sym (ap is_so (one.0 (takes-numbers b operation (takes b refl)))) ∙ so)

  takes-first : (link : ToldLink) (links : List ToldLink) (told : Option Bool)
      → ((b : Bool) → told ≡ Some b → list_all (λ c. takes_both b c.operation) (conjuncts_of (link ∷ links)) ≡ true)
      → ((b : Bool) → told ≡ Some b → takes_both b (conjunct_of ordinal link.0).operation ≡ true)
      × ((b : Bool) → told ≡ Some b → list_all (λ c. takes_both b c.operation) (conjuncts_of links) ≡ true)
  takes-first link links told takes = (
    λ b is. (and_parts (takes_both b (conjunct_of ordinal link.0).operation) (list_all (λ c. takes_both b c.operation) (conjuncts_of links)) (takes b is)).0,
    λ b is. (and_parts (takes_both b (conjunct_of ordinal link.0).operation) (list_all (λ c. takes_both b c.operation) (conjuncts_of links)) (takes b is)).1,
  )

  -- operators that join conditions
  turns-inside : (links : List ToldLink) → AreQuiet links → (s t : effect.State) (v r : Value) → turns links env v s ≡ effect.Gives r t → Numbers s.store
      → (told : Option Bool) → ((b : Bool) → told ≡ Some b → list_all (λ c. takes_both b c.operation) (conjuncts_of links) ≡ true) → IsSo told r
      → IsSo told v × AreTold s.store (all_tellings (conjuncts_of links) told) (turns_values true (traced_in links) v env s)
  turns-inside [] quiet s t v r is numbers told takes so = (subst (IsSo told) (sym (given-same v r s t is).0) so, tt)
  turns-inside (link ∷ links) quiet s t v r is numbers told takes so =
      let own = traced_link link.0 in
      let step = then-gives (own.combination env v s) (turns links env) r t is in
      let did = did-first link links quiet s step.0 v step.1 step.2 numbers in
      let same = did-stays link s step.0 v step.1 did in
      let both = takes-first link links told takes in
      let rest = turns-inside links (quiet-rest link links quiet) step.0 t step.1 r step.3 (subst Numbers (sym same) numbers) told both.1 so in
      let first = joined-so link s step.0 v step.1 told did both.0 rest.0 did in (
        first.0,
        told-behind s.store ((conjunct_of ordinal link.0).right.tellings told) (all_tellings (conjuncts_of links) told) (link_values true v own env s)
            (own.combination env v s) step.1 step.0 (λ w u. turns_values true (traced_in links) w env u) step.2 (did.inner told first.1)
            (subst (λ (store : Store). AreTold store (all_tellings (conjuncts_of links) told) (turns_values true (traced_in links) step.1 env step.0)) same
            rest.1),
      )

  -- operators between operands
  turns-apart : (links : List ToldLink) → AreQuiet links → (left : Subject) (s t : effect.State) (v r : Value) → turns links env v s ≡ effect.Gives r t
      → Numbers s.store → (told : Option Bool) → IsSo told r → ((b : Bool) → told ≡ Some b → SideIs (side_of world.tree left) s.store v)
      → AreTold s.store (turn_tellings left (conjuncts_of links) told) (turns_values false (traced_in links) v env s)
  turns-apart [] quiet left s t v r is numbers told so side = tt
  turns-apart (link ∷ []) quiet left s t v r is numbers told so side =
      let own = traced_link link.0 in
      let step = then-gives (own.combination env v s) (turns [] env) r t is in
      let did = did-first link [] quiet s step.0 v step.1 step.2 numbers in
      let conjunct = conjunct_of ordinal link.0 in
      let one : Operands = record { left = v; right = did.right } in
      let telling : Telling = record { truth = told; operation = conjunct.operation; left = left; right = subject_of conjunct.right } in
      let same : step.1 ≡ r = (given-same step.1 r step.0 t step.3).0 in
      told-behind s.store (telling ∷ []) [] (link_values false v own env s) (own.combination env v s) step.1 step.0
      (λ w u. turns_values false [] w env u) step.2
      (subst (λ (reply : effect.Reply Value). AreTold s.store (telling ∷ []) (traced_behind reply (λ x u. record { left = v; right = x } ∷ [])))
      (sym did.gives) (
        λ b b_is. record {
          gave = subst (λ (so : Bool). Gave so conjunct.operation v did.right)
              (ap is_so same ∙ subst (λ (found : Option Bool). IsSo found r) b_is so)
              (gave conjunct.operation v did.right step.1 did.behind step.0 did.operated);
          left = side b b_is;
          right = did.right_side;
        },
        tt,
      )) tt
  turns-apart (link ∷ next ∷ links) quiet left s t v r is numbers told so side =
      let own = traced_link link.0 in
      let step = then-gives (own.combination env v s) (turns (next ∷ links) env) r t is in
      let did = did-first link (next ∷ links) quiet s step.0 v step.1 step.2 numbers in
      let same = did-stays link s step.0 v step.1 did in
      let conjunct = conjunct_of ordinal link.0 in
      let telling : Telling = record { truth = None; operation = conjunct.operation; left = left; right = subject_of conjunct.right } in
      let later = turn_tellings left (conjuncts_of (next ∷ links)) None in
      let rest = turns-apart (next ∷ links) (quiet-rest link (next ∷ links) quiet) left step.0 t step.1 r step.3 (subst Numbers (sym same) numbers) None tt
      (λ b b_is. absurd (none-some b b_is)) in
      told-behind s.store (telling ∷ []) later (link_values false v own env s) (own.combination env v s) step.1 step.0
      (λ w u. turns_values false (traced_in (next ∷ links)) w env u) step.2
      (subst (λ (reply : effect.Reply Value). AreTold s.store (telling ∷ []) (traced_behind reply (λ x u. record { left = v; right = x } ∷ [])))
      (sym did.gives) (λ b b_is. absurd (none-some b b_is), tt))
      (subst (λ (store : Store). AreTold store later (turns_values false (traced_in (next ∷ links)) step.1 env step.0)) same rest)

  -- ---- the layers

  abbrev plain_expr : Expr-F ToldExpr ToldPassed ToldLink → Expr-F Expr Passed Link
  plain_expr = map-Expr ToldExpr ToldPassed ToldLink Expr Passed Link (λ e. e.0) (λ p. p.0) (λ l. l.0)

  abbrev plain_link : Link-F ToldExpr ToldPassed ToldLink → Link-F Expr Passed Link
  plain_link = map-Link ToldExpr ToldPassed ToldLink Expr Passed Link (λ e. e.0) (λ p. p.0) (λ l. l.0)

  abbrev ExprLayer : Expr-F Expr Passed Link → Type 0
  ExprLayer x =
      ExprTold (expr_is_well_formed outline block (map-Expr Expr Passed Link Bool (ℕ → ℕ → Bool) Bool well_expr well_passed well_link x))
      (expression_begins (map-Expr Expr Passed Link Begin Begin Begin begins passed_begin link_begin x))
      (trace_step (map-Expr Expr Passed Link Traced Passing TracedLink traced_of traced_passed traced_link x))
      (condition_step ordinal (map-Expr Expr Passed Link Condition (Unit {0}) Conjunct (condition_of ordinal) (λ p. tt) (conjunct_of ordinal) x))
      (expression_holds_call (map-Expr Expr Passed Link Bool Bool Bool holds_call passed_holds_call link_holds_call_of x))

  abbrev LinkLayer : Link-F Expr Passed Link → Type 0
  LinkLayer x =
      LinkTold (link_is_well_formed outline block (map-Link Expr Passed Link Bool (ℕ → ℕ → Bool) Bool well_expr well_passed well_link x))
      (link_begins (map-Link Expr Passed Link Begin Begin Begin begins passed_begin link_begin x))
      (trace_link (map-Link Expr Passed Link Traced Passing TracedLink traced_of traced_passed traced_link x))
      (link_condition (map-Link Expr Passed Link Condition (Unit {0}) Conjunct (condition_of ordinal) (λ p. tt) (conjunct_of ordinal) x))
      (link_holds_call (map-Link Expr Passed Link Bool Bool Bool holds_call passed_holds_call link_holds_call_of x))

  value-traced : (e : Expr) (s t : effect.State) (v : Value) → (traced_of e).evaluation env s ≡ effect.Gives v t → value_of e env s ≡ effect.Gives v t
  value-traced e s t v is = ap (λ (evaluation : Evaluation). evaluation env s) (sym (traced-evaluates e)) ∙ is

  -- an operand that holds no call keeps the store, and its value is that of its side
  operand-kept : (e : Expr) (s t : effect.State) (v : Value) → holds_call e ≡ false → (traced_of e).evaluation env s ≡ effect.Gives v t → t.store ≡ s.store
  operand-kept e s t v quiet is = expression-kept e quiet env s t v (value-traced e s t v is)

  operand-side : (e : Expr) (s t : effect.State) (v : Value) → well_expr e ≡ true → begins e records ≡ true → holds_call e ≡ false
      → (traced_of e).evaluation env s ≡ effect.Gives v t → Numbers s.store → SideIs (expression_side world.tree e) s.store v
  operand-side e s t v well begin quiet is numbers =
      let same = operand-kept e s t v quiet is in
      subst (λ (store : Store). SideIs (expression_side world.tree e) store v) same
      (evaluates-side e well begin s t v (value-traced e s t v is) (subst Numbers (sym same) numbers))

  under-so : (operation : Monadic) (told : Option Bool) (a v : Value) (s t : effect.State)
      → effect.and_then (meaning.operated operation (number_of a) s) (λ n. effect.give (Number n)) ≡ effect.Gives v t → IsSo told v
      → IsSo (under operation told) a
  under-so (monadic.Plain calculation.Complement) None a v s t is so = tt
  under-so (monadic.Plain calculation.Complement) (Some b) a v s t is so =
      let n = number_of a in
      sym (not-not (is_true n)) ∙ ap not (sym (truth-is (not (is_true n))) ∙ ap is_so (given-same (Number (truth (not (is_true n)))) v s t is).0 ∙ so)
  under-so operation told a v s t is so = tt

  expr-layer : (y : Expr-F ToldExpr ToldPassed ToldLink) → ExprLayer (plain_expr y)
  expr-layer (Constant number value) well begin quiet s t v is numbers told so = tt
  expr-layer (Variable access indexes one defined) well begin quiet s t v is numbers told so = tt
  expr-layer (SetOf number designators members) well begin quiet s t v is numbers told so = tt
  expr-layer (Compare number relation left left_indexes right right_indexes) well begin quiet s t v is numbers told so = tt
  expr-layer (CallOf call actuals) well begin quiet s t v is numbers told so = tt
  expr-layer (Input number asks) well begin quiet s t v is numbers told so = tt
  expr-layer (MonadicOf number operation operand) well begin quiet s t v is numbers told so =
      let e = operand.value.0 in
      let parts = and_parts (monadic_is_well_formed outline block operation) (well_expr e) well in
      let from = entered_at number s in
      let meant = λ (v : Value). effect.◌>>=◌ (meaning.operated operation (number_of v)) (λ n. effect.give (Number n)) in
      let step = then-gives ((traced_of e).evaluation env from) meant v t is in
      operand.value.1 parts.1 begin quiet from step.0 step.1 step.2 numbers (under operation told) (under-so operation told step.1 v step.0 t step.3 so)
  expr-layer (Chain first rest) well begin quiet s t v is numbers told so =
      let links = links_of rest.items in
      let conjuncts = conjuncts_of rest.items in
      let parts = and_parts (well_expr e) (all_hold (map well_link links)) well in
      let there = and_parts (begins e records) (all_begin (map link_begin links) records) begin in
      let none = or_parts (holds_call e) (any_holds (map link_holds_call_of links)) quiet in
      let own = traced_of e in
      let step = then-gives (own.evaluation env s) (turns rest.items env) v t is in
      let same = operand-kept e s step.0 step.1 none.0 step.2 in
      let later = subst Numbers (sym same) numbers in
      let all_quiet : AreQuiet rest.items = (parts.1, there.1, none.1) in
      let inside = list_all (λ (link : TracedLink). joins link.operation) (traced_in rest.items) in
      subst (λ (b : Bool). AreTold s.store
      (cond b ((condition_of ordinal e).tellings (taken conjuncts told) ++ all_tellings conjuncts (taken conjuncts told))
      (turn_tellings (subject_of (condition_of ordinal e)) conjuncts told))
      (first_values inside own env s ++ traced_behind (own.evaluation env s) (λ w u. turns_values inside (traced_in rest.items) w env u)))
      (sym (joined-operations ordinal links))
      (by inside
      (let takes = taken-takes conjuncts told in
      let all = turns-inside rest.items all_quiet step.0 t step.1 v step.3 later (taken conjuncts told) takes (taken-so conjuncts told v so) in
      told-behind s.store ((condition_of ordinal e).tellings (taken conjuncts told)) (all_tellings conjuncts (taken conjuncts told)) (own.values env s)
      (own.evaluation env s) step.1 step.0 (λ w u. turns_values true (traced_in rest.items) w env u) step.2
      (first.value.1 parts.0 there.0 none.0 s step.0 step.1 step.2 numbers (taken conjuncts told) all.0)
      (subst (λ (store : Store). AreTold store (all_tellings conjuncts (taken conjuncts told)) (turns_values true (traced_in rest.items) step.1 env step.0))
      same
      all.1))
      (let left = subject_of (condition_of ordinal e) in
      told-behind s.store [] (turn_tellings left conjuncts told) [] (own.evaluation env s) step.1 step.0
      (λ w u. turns_values false (traced_in rest.items) w env u) step.2 tt
      (subst (λ (store : Store). AreTold store (turn_tellings left conjuncts told) (turns_values false (traced_in rest.items) step.1 env step.0)) same
      (turns-apart rest.items all_quiet left step.0 t step.1 v step.3 later told so
      (λ b b_is. subst (λ (store : Store). SideIs (side_of world.tree left) store step.1) (sym same)
      (operand-side e s step.0 step.1 parts.0 there.0 none.0 step.2 numbers))))))
    where
      e : Expr
      e = first.value.0

      by : (inside : Bool)
          → AreTold s.store
          ((condition_of ordinal e).tellings (taken (conjuncts_of rest.items) told) ++ all_tellings (conjuncts_of rest.items)
          (taken (conjuncts_of rest.items) told))
          ((traced_of e).values env s ++ traced_behind ((traced_of e).evaluation env s) (λ w u. turns_values true (traced_in rest.items) w env u))
          → AreTold s.store (turn_tellings (subject_of (condition_of ordinal e)) (conjuncts_of rest.items) told)
          (traced_behind ((traced_of e).evaluation env s) (λ w u. turns_values false (traced_in rest.items) w env u))
          → AreTold s.store
          (cond inside
          ((condition_of ordinal e).tellings (taken (conjuncts_of rest.items) told) ++ all_tellings (conjuncts_of rest.items)
          (taken (conjuncts_of rest.items) told))
          (turn_tellings (subject_of (condition_of ordinal e)) (conjuncts_of rest.items) told))
          (first_values inside (traced_of e) env s
          ++ traced_behind ((traced_of e).evaluation env s) (λ w u. turns_values inside (traced_in rest.items) w env u))
      by true one other = one
      by false one other = other

  link-layer : (y : Link-F ToldExpr ToldPassed ToldLink) → LinkLayer (plain_link y)
  link-layer y well begin quiet s t v r is numbers =
      let e = y.operand.0 in
      let parts = and_parts (dyadic_is_well_formed outline block y.operation) (well_expr e) well in
      let from = entered_at y.number s in
      let step = then-gives ((traced_of e).evaluation env from) (meaning.operated_both y.operation v) r t is in
      record {
        right = step.1;
        behind = step.0;
        gives = step.2;
        operated = step.3;
        stays = operand-kept e from step.0 step.1 quiet step.2;
        inner = λ told so. y.operand.1 parts.1 begin quiet from step.0 step.1 step.2 numbers told so;
        right_side = operand-side e from step.0 step.1 parts.1 begin quiet step.2 numbers;
      }

  -- by what the five folds are at a form
  rolled-expr : (x : Expr-F Expr Passed Link) → ExprLayer x → ExprIsTold (roll-Expr x)
  rolled-expr x layer =
      subst (λ (w : Bool). ExprTold w (begins (roll-Expr x)) (traced_of (roll-Expr x)) (condition_of ordinal (roll-Expr x)) (holds_call (roll-Expr x)))
      (sym (fold-roll-Expr Bool (ℕ → ℕ → Bool) Bool (expr_is_well_formed outline block) (passed_is_well_formed outline block)
      (link_is_well_formed outline block) x))
      (subst (λ (b : Begin). ExprTold (well x) b (traced_of (roll-Expr x)) (condition_of ordinal (roll-Expr x)) (holds_call (roll-Expr x)))
      (sym (fold-roll-Expr Begin Begin Begin expression_begins passed_begins link_begins x))
      (subst (λ (one : Traced). ExprTold (well x) (begin x) one (condition_of ordinal (roll-Expr x)) (holds_call (roll-Expr x)))
      (sym (fold-roll-Expr Traced Passing TracedLink trace_step trace_passed trace_link x))
      (subst (λ (c : Condition). ExprTold (well x) (begin x) (traces x) c (holds_call (roll-Expr x))) (sym (conditioned x))
      (subst (λ (b : Bool). ExprTold (well x) (begin x) (traces x) (conditions x) b)
      (sym (fold-roll-Expr Bool Bool Bool expression_holds_call passed_step_holds_call link_holds_call x)) layer))))
    where
      well : Expr-F Expr Passed Link → Bool
      well x = expr_is_well_formed outline block (map-Expr Expr Passed Link Bool (ℕ → ℕ → Bool) Bool well_expr well_passed well_link x)

      begin : Expr-F Expr Passed Link → Begin
      begin x = expression_begins (map-Expr Expr Passed Link Begin Begin Begin begins passed_begin link_begin x)

      traces : Expr-F Expr Passed Link → Traced
      traces x = trace_step (map-Expr Expr Passed Link Traced Passing TracedLink traced_of traced_passed traced_link x)

  rolled-link : (x : Link-F Expr Passed Link) → LinkLayer x → LinkIsTold (roll-Link x)
  rolled-link x layer =
      subst (λ (w : Bool). LinkTold w (link_begin (roll-Link x)) (traced_link (roll-Link x)) (conjunct_of ordinal (roll-Link x))
      (link_holds_call_of (roll-Link x)))
      (sym (fold-roll-Link Bool (ℕ → ℕ → Bool) Bool (expr_is_well_formed outline block) (passed_is_well_formed outline block)
      (link_is_well_formed outline block) x))
      (subst (λ (b : Begin). LinkTold (well x) b (traced_link (roll-Link x)) (conjunct_of ordinal (roll-Link x)) (link_holds_call_of (roll-Link x)))
      (sym (fold-roll-Link Begin Begin Begin expression_begins passed_begins link_begins x))
      (subst (λ (one : TracedLink). LinkTold (well x) (begin x) one (conjunct_of ordinal (roll-Link x)) (link_holds_call_of (roll-Link x)))
      (sym (fold-roll-Link Traced Passing TracedLink trace_step trace_passed trace_link x))
      (subst (λ (c : Conjunct). LinkTold (well x) (begin x) (traces x) c (link_holds_call_of (roll-Link x)))
      (sym (fold-roll-Link Condition (Unit {0}) Conjunct (condition_step ordinal) passed_condition link_condition x))
      (subst (λ (b : Bool). LinkTold (well x) (begin x) (traces x) (conjoins x) b)
      (sym (fold-roll-Link Bool Bool Bool expression_holds_call passed_step_holds_call link_holds_call x)) layer))))
    where
      well : Link-F Expr Passed Link → Bool
      well x = link_is_well_formed outline block (map-Link Expr Passed Link Bool (ℕ → ℕ → Bool) Bool well_expr well_passed well_link x)

      begin : Link-F Expr Passed Link → Begin
      begin x = link_begins (map-Link Expr Passed Link Begin Begin Begin begins passed_begin link_begin x)

      traces : Link-F Expr Passed Link → TracedLink
      traces x = trace_link (map-Link Expr Passed Link Traced Passing TracedLink traced_of traced_passed traced_link x)

      conjoins : Link-F Expr Passed Link → Conjunct
      conjoins x = link_condition (map-Link Expr Passed Link Condition (Unit {0}) Conjunct (condition_of ordinal) (λ p. tt) (conjunct_of ordinal) x)

  each-told : (e : Expr) → ExprIsTold e
  each-told =
      ind-Expr ExprIsTold (λ p. Unit {0}) LinkIsTold
      (λ x y is. subst (λ (z : Expr-F Expr Passed Link). ExprIsTold (roll-Expr z)) is (rolled-expr (plain_expr y) (expr-layer y))) (λ x y is. tt)
      (λ x y is. subst (λ (z : Link-F Expr Passed Link). LinkIsTold (roll-Link z)) is (rolled-link (plain_link y) (link-layer y)))

  -- ---- what a condition tells

  told-holds : (store : Store) (tellings : List Telling) (notes : List Noted) (values : List Operands) → AreTold store tellings values → AreNoted notes values
      → (state : State) → Knows (parts_in world) (variables_in world) visible state store
      → Knows (parts_in world) (variables_in world) visible (all_met world.tree tellings notes state) store
  told-holds store [] notes values told noted state known = known
  told-holds store (telling ∷ tellings) [] values told noted state known = known
  told-holds store (telling ∷ tellings) (note ∷ notes) [] told noted state known = absurd noted
  told-holds store (telling ∷ tellings) (note ∷ notes) (one ∷ values) told noted state known =
      told-holds store tellings notes values told.1 noted.2 (telling_met world.tree telling note state) (by telling.truth told.0)
    where
      by : (truth : Option Bool) → ((b : Bool) → truth ≡ Some b → Tells store telling one b)
          → Knows (parts_in world) (variables_in world) visible
          (operation_met truth telling.operation (side_of world.tree telling.left) (side_of world.tree telling.right) (note.left, note.right) state) store
      by None tells = known
      by (Some b) tells =
          let tell = tells b refl in
          operation-holds (parts_in world) (table_of world.tree) (are-rows world.tree) visible store b telling.operation (side_of world.tree telling.left)
          (side_of world.tree telling.right) note.left note.right one.left one.right tell.gave noted.0 noted.1 tell.left tell.right state known

  -- what a condition tells by what was noted in its evaluation
  pub sided-holds : (e : Expr) → well_expr e ≡ true → begins e records ≡ true → (s t : effect.State) (v : Value) (notes : List Noted)
      → value_of e env s ≡ effect.Gives v t → AreNoted notes ((traced_of e).values env s) → HoldNumbers ordinal (moment visible t.store)
      → (state : State) → Knows (parts_in world) (variables_in world) visible state t.store
      → Knows (parts_in world) (variables_in world) visible (sided world.tree (is_so v) e notes state) t.store
  sided-holds e well begin s t v notes is noted numbers state known =
      let tellings = (condition_of ordinal e).tellings (Some (is_so v)) in
      cond_both (holds_call e) state (all_met world.tree tellings notes state)
      (λ state. Knows (parts_in world) (variables_in world) visible state t.store) (λ holds. known)
      (λ quiet.
      let same = expression-kept e quiet env s t v is in
      let traced = ap (λ (evaluation : Evaluation). evaluation env s) (traced-evaluates e) ∙ is in
      let told = each-told e well begin quiet s t v traced (subst Numbers same numbers) (Some (is_so v)) refl in
      told-holds t.store tellings notes ((traced_of e).values env s)
      (subst (λ (store : Store). AreTold store tellings ((traced_of e).values env s)) (sym same) told) noted state known)
