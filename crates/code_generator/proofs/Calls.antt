-- Calls: from the jump to a routine's code on the machine does what the call does, in as many activations in one another as one
-- likes, or its store is full.
use Rattle.code_generator.proofs.Words.{◌≡◌, ℕ, zero, suc, ◌+◌, ◌-◌, ◌<◌, ◌≤◌, ◌⊎◌, inl, inr, List, [], ◌∷◌, ◌++◌, length, Some, Ok, refl, sym, ap, ◌∙◌, subst}
use Rattle.code_generator.proofs.Words.{arith, Bool, true, false, length-append, append-nil, append_assoc, replicate, slice_get, pos, nat_eq, option_and_then}
use Rattle.code_generator.proofs.Words.{and_parts, cases_lt, eqb-true, sum_by-cons, Block, heading_of, Ending, Value, Reply, Gives, Action, ◌>>=◌, give}
use Rattle.code_generator.proofs.Words.{number_of, Argument, Cell, Undefined, Number, State, routines_of, block_depth, living_need, block_scope, called_routine}
use Rattle.code_generator.proofs.Words.{count, links_to, other_cells, parameter_cells, row_length}
use Rattle.pcode_assembler.specs.declared.instr.Instr.TheVariants as instr
use Rattle.typed_tree.specs.declared.tree.Heading.{Heading}
use Rattle.typed_tree.specs.WellFormed.{is_callable, is_kind_of}
use Rattle.meaning.specs.declared.outcome.Ending.TheVariants as ending
use Rattle.meaning.specs.Effect as effect
use Rattle.meaning.specs.Meaning.{Activation as Begun, activated, assign_all, calls_of, effect_of, executed, result_of}
use Rattle.stack_machine.specs.declared.stop.Stop.TheVariants as stop
use Rattle.stack_machine.specs.Calls.{called}
use Rattle.stack_machine.specs.Frames.{entered}
use Rattle.stack_machine.specs.Machine.{and_then, at_place, with_frame}
use Rattle.code_scheme.specs.Code.{block_code, end_code, return_code, routine_at, stmt_code}
use Rattle.code_scheme.specs.declared.routine.Routine.{Routine}
use Rattle.code_scheme.specs.Need.{block_need}
use Rattle.code_scheme.specs.Scopes.{routine_or_none}
use Rattle.code_scheme.proofs.Depths.{block_within}
use Rattle.code_scheme.proofs.Routines.{block_stands}
use Rattle.code_generator.proofs.Acts.{framed}
use Rattle.code_generator.proofs.Alike.{Leads}
use Rattle.code_generator.proofs.Calling.{begins_frame, enters, full, index_is}
use Rattle.code_generator.proofs.Cells.{few_passed, others_few}
use Rattle.code_generator.proofs.Laying.{Laid, laid_cells, laid_from}
use Rattle.code_generator.proofs.Nesting.{Callable, callable as may_be_called, heading_at, well_block}
use Rattle.code_generator.proofs.Passing.{AllFitted, CallsRun, Returns, left_by, links_of, return_on}
use Rattle.code_generator.proofs.Reach.{Comes, Stands, StandsAt, Stops, comes_at_rate, comes_by, comes_less, comes_on, stands_back, stands_front, stays_here}
use Rattle.code_generator.proofs.Reach.{stops_by, stops_on}
use Rattle.code_generator.proofs.Returning.{back_based, back_comes, back_place, count_of, finish, restored}
use Rattle.code_generator.proofs.Setting.{exact_around, Setting, Based, Ends, Starves, around, on, outline, running_at, starves_first}
use Rattle.code_generator.proofs.Starting.{assigned, begun_state, h, started}
use Rattle.code_generator.proofs.Stmts.{stmt_runs}
use Rattle.code_generator.proofs.Withs.{block_good}
use Rattle.code_generator.proofs.Running.{Arrives, Executes, gives_then, kept_on, runs_from, then_runs}

module _ (g : Setting) (depth : ℕ) (known : CallsRun depth) (depth_is : g.depth ≡ suc depth) (is_function : Bool) (number : ℕ) (block : Block)
    (outer place : ℕ) (base held cells : List Cell) (arguments : List Argument) (s : effect.State)
    (block_is : slice_get g.tree.blocks.items number ≡ Some block)
    (may : is_callable (outline g) g.number is_function (length arguments) (heading_of block) ≡ true)
    (way : Leads g.fixed (links_to g.scope (called_routine g.scope number).level) g.frame outer)
    (stands : StandsAt g.target place (instr.CallProcedure (row_length (called_routine g.scope number).cells) (called_routine g.scope number).place) true)
    (there : slice_get g.target.whole place
    ≡ Some (instr.CallProcedure (row_length (called_routine g.scope number).cells) (called_routine g.scope number).place))
    (based : Based g s base) (fitted : AllFitted g number 0 arguments cells) (room : g.below + length held + 4 + length cells ≤ g.limit) where
  callable : Callable g.tree g.well g.number g.block number block
  callable = may_be_called g.tree g.well g.number g.block g.block_is is_function (length arguments) number block block_is may

  abbrev parameters : ℕ
  parameters = parameter_cells g.tree number

  abbrev others : ℕ
  others = other_cells g.tree number

  -- what the heading says of the parameters and of the result
  kind_and_count : (is_kind_of is_function block.heading.result ≡ true) × (length arguments ≡ length block.heading.parameters.items)
  kind_and_count =
      let parts = and_parts _ _ may in
      let inside = and_parts (is_kind_of is_function block.heading.result) (nat_eq (length arguments) (length block.heading.parameters.items)) parts.1 in
      (inside.0, eqb-true (length arguments) (length block.heading.parameters.items) inside.1)

  laid : Laid g number g.tree.variables.items arguments cells
  laid =
      let w = well_block g.tree g.well number block block_is in
      laid_from g number 0 g.tree.variables.items 0 arguments cells
      (λ i v at. let z : i ≡ 0 + i = omega arith in ap (slice_get g.tree.variables.items) (sym z) ∙ at)
      (λ i.
      let z : 0 + i ≡ i = omega arith in
      ap (λ o. option_and_then (λ root. slice_get g.tree.variables.items root)
      (option_and_then (λ (heading : Heading). slice_get heading.parameters.items (0 + i)) o)) (heading_at g.tree.blocks.items number block block_is)
      ∙ ap (λ n. option_and_then (λ root. slice_get g.tree.variables.items root) (slice_get block.heading.parameters.items n)) z
      ∙ ap (λ roots. option_and_then (λ root. slice_get g.tree.variables.items root) (slice_get roots i)) w.parameters_are)
      (kind_and_count.1 ∙ ap length w.parameters_are) fitted

  -- the index behind the call
  abbrev return : ℕ
  return = g.target.to place + 1

  return_within : return < length g.target.code
  return_within = (g.comes_back place (row_length (called_routine g.scope number).cells) (called_routine g.scope number).place there).0

  return_short : return ≤ 1000000
  return_short = (g.comes_back place (row_length (called_routine g.scope number).cells) (called_routine g.scope number).place there).1

  abbrev front : List Cell
  front = base ++ held

  front_long : length front ≡ g.below + length held
  front_long = let full' = based.full in omega (arith, length-append base held)

  abbrev links : List Cell
  links = Number (pos outer) ∷ Number (pos g.frame) ∷ Number (pos return) ∷ Number (pos g.limit) ∷ []

  abbrev frame_need : ℕ
  frame_need = 4 + parameters + others + block_depth block

  abbrev stack : List Cell
  stack = front ++ (links ++ cells)

  -- where the routine's code stands
  abbrev code_place : ℕ
  code_place = 0 + length (block_stands g.tree number block block_is).before

  code_stands : Stands g.target code_place (block_code g.tree number block (block_scope g.tree (routines_of g.tree) number) code_place)
  code_stands =
      let st = block_stands g.tree number block block_is in
      let code = block_code g.tree number block (block_scope g.tree (routines_of g.tree) number) code_place in
      stands_front g.target code_place code st.behind
      (stands_back g.target 0 st.before (code ++ st.behind) (subst (Stands g.target 0) st.splits g.stands))

  cells_long : length cells ≡ parameters
  cells_long = laid_cells g number g.tree.variables.items arguments cells laid

  -- ---- the jump

  abbrev arrived : State
  arrived = record {
    frames = framed (g.below + length held) g.limit g.size stack;
    place = g.target.to code_place;
    input = s.input;
    fails = false;
    output = s.output;
  }

  routine : called_routine g.scope number ≡ routine_at g.tree number code_place
  routine =
      ap (λ (rs : List Routine). routine_or_none (slice_get rs number)) g.routines_are ∙ ap routine_or_none (block_stands g.tree number block block_is).known

  jump_comes : Comes g.target g.target.rate (on g ((base ++ (held ++ links_of g outer)) ++ cells) place s) arrived
  jump_comes =
      let few = few_passed g.tree g.short number block block_is in
      let count_is : row_length (called_routine g.scope number).cells ≡ length cells =
      omega (arith, ap (λ (r : Routine). r.cells) routine, cells_long, few) in
      let target_is : (called_routine g.scope number).place ≡ code_place = ap (λ (r : Routine). r.place) routine in
      let stack_is : (base ++ (held ++ links_of g outer)) ++ cells ≡ front ++ (links_of g outer ++ cells) =
      ap (λ l. l ++ cells) (sym (append_assoc base held (links_of g outer))) ∙ append_assoc front (links_of g outer) cells in
      let linked = g.frame_within in
      let full' = based.full in
      let does : called (row_length (called_routine g.scope number).cells) (g.target.to (called_routine g.scope number).place) return
      (framed g.frame g.limit g.size ((base ++ (held ++ links_of g outer)) ++ cells))
      ≡ Ok (framed (g.below + length held) g.limit g.size stack, g.target.to code_place) =
      ap (λ cs. called (row_length (called_routine g.scope number).cells) (g.target.to (called_routine g.scope number).place) return
      (framed g.frame g.limit g.size cs)) stack_is
      ∙ begins_frame g.frame g.limit g.size front cells (Number (pos outer)) (Number (pos g.frame)) Undefined (Number (pos g.limit))
      (row_length (called_routine g.scope number).cells) (g.target.to (called_routine g.scope number).place) return (sym count_is)
      (omega (arith, linked, full', front_long))
      ∙ ap (λ z. Ok (
        framed (length front) g.limit g.size (front ++ (Number (pos outer) ∷ Number (pos g.frame) ∷ Number z ∷ Number (pos g.limit) ∷ cells)),
        g.target.to (called_routine g.scope number).place,
      )) (index_is return return_short)
      ∙ ap (λ f. Ok (framed f g.limit g.size stack, g.target.to (called_routine g.scope number).place)) front_long
      ∙ ap (λ p. Ok (framed (g.below + length held) g.limit g.size stack, g.target.to p)) target_is in
      comes_at_rate g.target _ (on g ((base ++ (held ++ links_of g outer)) ++ cells) place s) arrived stands.0
      (ap (λ r. and_then r (at_place (record (on g ((base ++ (held ++ links_of g outer)) ++ cells) place s) { place = return }))) does)

  -- ---- the beginning of the frame

  stack_long : length stack ≡ g.below + length held + 4 + parameters
  stack_long = omega (arith, front_long, length-append front (links ++ cells), cells_long)

  -- all other variables of the block are counted
  others_counted : count others ≡ others
  others_counted = omega (arith, others_few g.tree g.well g.short number block block_is)

  -- and all that its evaluations need, where the frame fits
  evaluation_counted : g.below + length held + frame_need ≤ g.size → count (block_depth block) ≡ block_depth block
  evaluation_counted fits = let small = g.small in omega (arith, fits, small)

  -- the frame doesn't fit: there were too few cells for the activations that last
  too_few : g.size < g.below + length held + frame_need → g.size < living_need g.tree (number ∷ s.living)
  too_few large =
      let low = g.low in
      let limit = g.limit_is in
      let living = ap (living_need g.tree) based.lasting in
      omega (
        arith,
        large,
        room,
        low,
        limit,
        living,
        sum_by-cons (block_need g.tree) number s.living,
        sum_by-cons (block_need g.tree) g.number g.callers,
        block_within g.tree number block block_is,
        block_within g.tree g.number g.block g.block_is,
      )

  -- so was the store: what is counted of the evaluations is all that they need, or as much as a machine has
  store_is_full : g.size < g.below + length held + frame_need → Stops g.target arrived (record { output = s.output; stop = stop.StoreFull })
  store_is_full large =
      let small = g.small in
      stops_by g.target (instr.Enter (count others) (count (block_depth block))) arrived stop.StoreFull code_stands.0.0
      (ap (with_frame (record arrived { place = g.target.to code_place + 1 }))
      (full (g.below + length held) g.limit g.size stack (count others) (count (block_depth block)) (omega (arith, stack_long, others_counted, small, large))))

  abbrev begun_here : Begun
  begun_here = record { number = s.activations; block = number; heading = block.heading; arguments = arguments; caller = g.environment }

  abbrev body_does : Action Value
  body_does = executed g.tree (calls_of g.tree depth) block begun_here

  abbrev ends_so : Value → Action Value
  ends_so v = effect.end_with s.living >>= λ _. give v

  -- ---- the block, where the frame fits

  module _ (fits : g.below + length held + frame_need ≤ g.size) (left : ℕ) (turns_are : s.turns ≡ suc left) where
    abbrev its : Setting
    its = h g number block block_is callable outer way base held cells arguments s based return depth depth_is room laid fits

    abbrev s1 : effect.State
    s1 = begun_state g number block block_is callable outer way base held cells arguments s based return depth depth_is room laid fits left

    abbrev undefined : List Cell
    undefined = replicate others Undefined

    abbrev entry_cells : List Cell
    entry_cells = front ++ (links ++ (cells ++ undefined))

    abbrev inside : ℕ
    inside = code_place + 1

    enters_frame : Comes g.target 1 arrived (on its entry_cells inside s1)
    enters_frame =
        let does : entered (count others) (count (block_depth block)) (framed (g.below + length held) g.limit g.size stack)
        ≡ Some (framed its.frame its.limit its.size entry_cells) =
        enters (g.below + length held) g.limit g.size stack (count others) (count (block_depth block))
        (omega (arith, stack_long, others_counted, evaluation_counted fits, fits))
        ∙ ap (λ n. Some (framed its.frame (length stack + n + count (block_depth block)) its.size (stack ++ replicate n Undefined))) others_counted
        ∙ ap (λ n. Some (framed its.frame n its.size (stack ++ undefined))) (limits stack_long (evaluation_counted fits))
        ∙ ap (λ cs. Some (framed its.frame its.limit its.size cs))
        (append_assoc front (links ++ cells) undefined ∙ ap (λ l. front ++ l) (append_assoc links cells undefined)) in
        comes_by g.target (instr.Enter (count others) (count (block_depth block))) arrived (on its entry_cells inside s1) code_stands.0.0
        (ap (with_frame (record arrived { place = g.target.to code_place + 1 })) does
        ∙ ap (λ p. Ok (running_at its entry_cells p s1)) (sym code_stands.0.1))
      where
        limits : length stack ≡ g.below + length held + 4 + parameters → count (block_depth block) ≡ block_depth block
            → length stack + others + count (block_depth block) ≡ its.limit
        limits long deep = omega (arith, long, deep)

    -- the statement of the block, and its result
    abbrev behind_body : ℕ
    behind_body = inside + length (stmt_code block.body its.scope inside)

    -- where the instruction stands that goes back
    abbrev back : ℕ
    back = back_place g number block block_is callable outer way base held cells arguments s based return depth depth_is room laid fits is_function behind_body

    ending_stands : Stands g.target behind_body (return_code its.scope block.heading.result)
    ending_stands =
        let whole = stands_back g.target inside (stmt_code block.body its.scope inside) (end_code its.scope number block.heading.result) code_stands.1 in
        subst (Stands g.target behind_body) (ap (λ n. end_code its.scope n block.heading.result) callable.number_is) whole

    body_runs : (base2 : List Cell) (t : effect.State) → Based its t base2
        → Returns its (on its base2 inside t) [] back is_function
        (effect_of block.body (around its) >>= λ _. result_of block.heading.result its.environment) t
    body_runs base2 t after =
        let body_stands = stands_front g.target inside (stmt_code block.body its.scope inside) (end_code its.scope number block.heading.result) code_stands.1 in
        let none = append-nil base2 in
        let few = few_passed g.tree g.short number block block_is in
        let runs = stmt_runs block.body its known (omega arith) inside base2 [] t body_stands (block_good g.tree g.well number block block_is) after
        (omega (arith, few, others_few g.tree g.well g.short number block block_is)) (omega arith) in
        let ran = subst (λ cs. Executes its (on its cs inside t) [] behind_body (effect_of block.body (around its)) t) none runs in
        then_runs its (kept_on its [] behind_body) (return_on its [] is_function back) (on its base2 inside t) (effect_of block.body (around its))
        (λ _. result_of block.heading.result its.environment) t ((exact_around its).statements block.body) ran
        (λ _ u x le.
        (finish g number block block_is callable outer way base held cells arguments s based return depth depth_is room laid fits is_function kind_and_count.0
        behind_body x.0 u x.1 ending_stands (omega arith)).0)

    return_stands : (last : List Cell) (u : effect.State) → Based its u last
        → StandsAt its.target back (instr.Return (count_of is_function)) true
    return_stands last u after =
        (finish g number block block_is callable outer way base held cells arguments s based return depth depth_is room laid fits is_function kind_and_count.0
        behind_body last u after ending_stands (omega arith)).1

    -- the whole block: what was passed is assigned first
    block_runs : Returns its arrived [] back is_function body_does s1
    block_runs =
        let w = well_block g.tree g.well number block block_is in
        let a = assigned g number block block_is callable outer way base held cells arguments s based return depth depth_is room laid fits 0
        g.tree.variables.items arguments cells (front ++ links) s1 laid (omega (arith, front_long, length-append front links))
        (λ i v at. let z : i ≡ 0 + i = omega arith in ap (slice_get g.tree.variables.items) (sym z) ∙ at)
        (subst (Based its s1) (sym (append_assoc front links _))
        (started g number block block_is callable outer way base held cells arguments s based return depth depth_is room laid fits left turns_are)) in
        let assigning : assign_all g.tree its.environment block.heading.parameters.items arguments s1 ≡ Gives tt (record s1 { store = a.0 }) =
        ap (λ roots. assign_all g.tree its.environment roots arguments s1) w.parameters_are ∙ a.1 in
        let after : Based its (record s1 { store = a.0 }) entry_cells =
        subst (Based its (record s1 { store = a.0 })) (append_assoc front links (cells ++ undefined)) a.2 in
        let aim = return_on its [] is_function back in
        let next : Unit {0} → Action Value = λ _. effect_of block.body (around its) >>= λ _. result_of block.heading.result its.environment in
        runs_from its aim 1 _ _ body_does s1 enters_frame
        (gives_then its aim _ (assign_all g.tree its.environment block.heading.parameters.items arguments) next s1 (record s1 { store = a.0 }) tt
        ((exact_around its).assigned g.tree block.heading.parameters.items arguments) assigning refl
        (body_runs entry_cells (record s1 { store = a.0 }) after))

    -- ---- back at the call

    -- an end that the routine's code comes to
    ends_here : (end : Ending) (output : List ℕ) → Ends its left arrived end output
        → Ends g s.turns (on g ((base ++ (held ++ links_of g outer)) ++ cells) place s) end output
    ends_here ending.Finished output e = record { why = e.why; stops = stops_on g.target g.target.rate _ arrived _ jump_comes e.stops; so = e.so }
    ends_here (ending.Error site) output (inl e) =
        inl (record { why = e.why; stops = stops_on g.target g.target.rate _ arrived _ jump_comes e.stops; so = e.so })
    ends_here (ending.Error site) output (inr closed) = inr closed
    ends_here (ending.Input point fault) output e =
        record { why = e.why; stops = stops_on g.target g.target.rate _ arrived _ jump_comes e.stops; so = e.so }
    ends_here ending.More output e =
        let few = g.repeats_are_few number block block_is in (
          e.0,
          comes_less g.target (s.turns - g.slack) (g.target.rate + (left - its.slack)) _ e.0 (omega (arith, few, turns_are))
              (comes_on g.target g.target.rate (left - its.slack) _ arrived e.0 jump_comes e.1),
          e.2,
        )

    abbrev call_place : State
    call_place = on g ((base ++ (held ++ links_of g outer)) ++ cells) place s

    returned : (r : Reply Value) → Arrives its (return_on its [] is_function back) left arrived r
        → Arrives g (return_on g held is_function (place + 1)) s.turns call_place (effect.and_then r ends_so)
    returned (Gives v t) e =
        let last = e.0.0 in
        let after = e.0.1 in
        let n = number_of v in
        let came = subst (λ l. Comes g.target (left - t.turns + 0) arrived (on its (l ++ left_by its is_function n) back t)) (append-nil last) e.1 in
        let home = back_comes g number block block_is callable outer way base held cells arguments s based return depth depth_is room laid fits t last after
        is_function n back (place + 1) (return_stands last t after) (sym stands.1) return_within in (
          (
            restored g number block block_is callable outer way base held cells arguments s based return depth depth_is room laid fits t last after,
            back_based g number block block_is callable outer way base held cells arguments s based return depth depth_is room laid fits t last after,
            e.0.2,
          ),
          comes_less g.target (s.turns - t.turns + 0) (g.target.rate + (left - t.turns + 0 + 1)) _ _ (omega (arith, turns_are))
              (comes_on g.target g.target.rate (left - t.turns + 0 + 1) _ _ _ jump_comes (comes_on g.target (left - t.turns + 0) 1 _ _ _ came home)),
          omega (arith, turns_are, e.2),
        )
    returned (effect.Stops end t) e = ends_here end t.output e

    abbrev whole_does : Action Value
    whole_does = body_does >>= ends_so

    -- the call with so many turns, of which the activation takes one
    call_runs : Starves g call_place whole_does s1 ⊎ Arrives g (return_on g held is_function (place + 1)) s.turns call_place (whole_does s1)
    call_runs = by block_runs
      where
        by : Returns its arrived [] back is_function body_does s1
            → Starves g call_place whole_does s1 ⊎ Arrives g (return_on g held is_function (place + 1)) s.turns call_place (whole_does s1)
        by (inl x) =
            let y = starves_first its arrived body_does ends_so s1 x in
            inl (y.0, y.1, y.2, stops_on g.target g.target.rate _ arrived _ jump_comes y.3, y.4, y.5)
        by (inr e) = inr (returned (body_does s1) e)

  abbrev begun_action : Action Value
  begun_action = activated g.tree (calls_of g.tree depth) number (Some block) arguments g.environment

  action_is : calls_of g.tree g.depth number arguments g.environment ≡ begun_action
  action_is =
      ap (λ d. calls_of g.tree d number arguments g.environment) depth_is
      ∙ ap (λ o. activated g.tree (calls_of g.tree depth) number o arguments g.environment) block_is

  abbrev at_call : State
  at_call = on g ((base ++ (held ++ links_of g outer)) ++ cells) place s

  -- the activation begins, if there is a turn for it and the frame fits
  abbrev behind_begin : ℕ → Action Value
  behind_begin activation =
      executed g.tree (calls_of g.tree depth) block (record {
        number = activation;
        block = number;
        heading = block.heading;
        arguments = arguments;
        caller = g.environment;
      }) >>= ends_so

  begun_runs : Returns g at_call held (place + 1) is_function begun_action s
  begun_runs = by s.turns refl
    where
      with_turn : (left : ℕ) → s.turns ≡ suc left → (g.size < g.below + length held + frame_need) ⊎ (g.below + length held + frame_need ≤ g.size)
          → Starves g at_call begun_action s
          ⊎ Arrives g (return_on g held is_function (place + 1)) s.turns at_call (effect.and_then (effect.begin_with (suc left) number s) behind_begin)
      with_turn left is (inl large) =
          inl (
            0,
            record s { turns = 0; starved = number ∷ s.living },
            refl,
            stops_on g.target g.target.rate at_call arrived _ jump_comes (store_is_full large),
            too_few large,
            omega arith,
          )
      with_turn left is (inr fits) = lifted (call_runs fits left is)
        where
          lifted : Starves g at_call (body_does >>= ends_so) (record s { turns = left; activations = suc s.activations; living = number ∷ s.living })
              ⊎ Arrives g (return_on g held is_function (place + 1)) s.turns at_call
              ((body_does >>= ends_so) (record s { turns = left; activations = suc s.activations; living = number ∷ s.living }))
              → Starves g at_call begun_action s
              ⊎ Arrives g (return_on g held is_function (place + 1)) s.turns at_call (effect.and_then (effect.begin_with (suc left) number s) behind_begin)
          lifted (inl x) = inl (suc x.0, x.1, x.2, x.3, x.4, omega (arith, is, x.5))
          lifted (inr e) = inr e

      by : (turns : ℕ) → s.turns ≡ turns → Starves g at_call begun_action s
          ⊎ Arrives g (return_on g held is_function (place + 1)) s.turns at_call (effect.and_then (effect.begin_with turns number s) behind_begin)
      by zero is = inr (at_call, comes_less g.target (s.turns - g.slack) 0 _ _ (omega (arith, is)) (stays_here g.target at_call), refl)
      by (suc left) is = with_turn left is (cases_lt g.size (g.below + length held + frame_need))

  pub call_at : Returns g at_call held (place + 1) is_function (calls_of g.tree g.depth number arguments g.environment) s
  call_at = subst (λ action. Returns g at_call held (place + 1) is_function action s) (sym action_is) begun_runs

-- calls do so, in as many activations in one another as one likes
pub calls_run : (depth : ℕ) → CallsRun depth
calls_run zero g depth_is is_function number block outer place base held cells arguments s block_is may way stands there based fitted room =
    let deep = based.deep in
    absurd (omega (arith, deep, depth_is))
calls_run (suc depth) g depth_is is_function number block outer place base held cells arguments s block_is may way stands there based fitted room =
    call_at g depth (calls_run depth) depth_is is_function number block outer place base held cells arguments s block_is may way stands there based fitted room
