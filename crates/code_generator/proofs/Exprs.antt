-- The code of an expression leaves its value on top, or stops as the expression does.
use Rattle.code_generator.proofs.Words.{◌≡◌, ℕ, ◌+◌, ◌<◌, ◌≤◌, max, List, [], ◌∷◌, ◌++◌, length, map, Option, Some, None, Ok, inr, refl, sym, ap, ◌∙◌, subst}
use Rattle.code_generator.proofs.Words.{arith, length-append, append_assoc, append-nil, ◌-◌, suc, zero, Bool, true, false, ℤ, pos, ◌-ℤ◌, int_le, slice_get}
use Rattle.code_generator.proofs.Words.{nat_eq, nat_lt, not, ◌&&◌, ◌||◌, w32, eqb-true, ltb-true, and_parts, length-map, none-some, same_Some, Instr, TypeId}
use Rattle.code_generator.proofs.Words.{Form, Expr, Block, RangeTest, Value, Place, UsesTurnsExactly, false≢true, list_all, State, Action, ◌>>=◌, number_of}
use Rattle.code_generator.proofs.Words.{require, give}
use Rattle.code_generator.proofs.Words.{value_of, Argument, OfValue, OfRow, OfPlace, deed_of, Cell, Number, Attempt, expr_code, expr_depth, called_routine}
use Rattle.code_generator.proofs.Words.{links_to, row_length, all_hold, is_well_formed_expr, heading_of, moved, start_within}
use Rattle.std.specs.Prelude.{neg_ℤ, ◌+ℤ◌, ◌*ℤ◌, int_lt, int_div, unsigned_abs, fold}
use Rattle.std.specs.Int.{cast_signed, int_rem_euclid, int_wrapping_add, int_wrapping_sub, int_wrapping_mul, int_wrapping_div, int_wrapping_neg}
use Rattle.std.specs.Ordering.{int_eq}
use Rattle.members.specs.Members as members
use Rattle.members.specs.declared.sets.Operator.TheVariants as operator
use Rattle.members.specs.declared.sets.Relation.TheVariants as way
use Rattle.pcode_assembler.specs.declared.instr.Instr.TheVariants as instr
use Rattle.types.specs.declared.form.OrdinalRange.{OrdinalRange}
use Rattle.types.specs.Types.{is_same, cells_of as type_cells}
use Rattle.typed_tree.specs.declared.tree.Access.{Access}
use Rattle.typed_tree.specs.declared.tree.Variable.{Variable as DeclaredVariable}
use Rattle.typed_tree.specs.declared.tree.Monadic.{Monadic}
use Rattle.typed_tree.specs.declared.tree.Monadic.TheVariants as monadic
use Rattle.typed_tree.specs.declared.tree.Calculation.{Calculation}
use Rattle.typed_tree.specs.declared.tree.Calculation.TheVariants as calculation
use Rattle.typed_tree.specs.declared.tree.Shift.{Shift}
use Rattle.typed_tree.specs.declared.tree.Shift.TheVariants as shift
use Rattle.typed_tree.specs.declared.tree.Dyadic.{Dyadic}
use Rattle.typed_tree.specs.declared.tree.Dyadic.TheVariants as dyadic
use Rattle.typed_tree.specs.declared.tree.Designator.{Designator}
use Rattle.typed_tree.specs.declared.tree.Designator.TheVariants.{Range, Single}
use Rattle.typed_tree.specs.declared.tree.Scalar.{Scalar}
use Rattle.typed_tree.specs.declared.tree.Scalar.TheVariants as scalar
use Rattle.typed_tree.specs.declared.tree.SetRelation.{SetRelation}
use Rattle.typed_tree.specs.declared.tree.SetRelation.TheVariants as set_relation
use Rattle.typed_tree.specs.declared.tree.Relation.{Relation}
use Rattle.typed_tree.specs.declared.tree.Relation.TheVariants as relation
use Rattle.typed_tree.specs.declared.tree.Width.{Width}
use Rattle.typed_tree.specs.declared.tree.Written.{Written}
use Rattle.typed_tree.specs.declared.tree.Whole.{Whole}
use Rattle.typed_tree.specs.declared.tree.Link.{Link}
use Rattle.typed_tree.specs.declared.tree.Call.{Call}
use Rattle.typed_tree.specs.declared.tree.Heading.{Heading}
use Rattle.typed_tree.specs.declared.tree.Passed.{Passed}
use Rattle.typed_tree.specs.declared.tree.InputTest.{InputTest}
use Rattle.typed_tree.specs.declared.tree.Expr.TheOpen.{Expr-F, Passed-F, Link-F}
use Rattle.typed_tree.specs.declared.tree.Expr.TheOpen.Passed-F.{Value as PassedValue, Whole as PassedWhole, Reference}
use Rattle.typed_tree.specs.declared.tree.Expr.TheOpen.Expr-F.{Constant, Variable, Monadic as MonadicOf, Chain, Compare, Call as CallOf, Input, Set as SetOf}
use Rattle.typed_tree.specs.declared.tree.Expr.TheViews.{roll-Expr, roll-Passed, roll-Link}
use Rattle.typed_tree.specs.declared.tree.Expr.TheFolds.{map-Expr, map-Passed, map-Link, fold-roll-Expr, fold-roll-Passed, fold-roll-Link, ind-Expr, ind-Passed}
use Rattle.meaning.specs.declared.value.Value.TheVariants as value
use Rattle.meaning.specs.Effect as effect
use Rattle.meaning.specs.Effect.{fetch}
use Rattle.meaning.specs.Meaning.{Evaluation, Combination, gathered, link_of, operated_both, value_step, with_one, with_range, operated, combined, relates}
use Rattle.meaning.specs.Meaning.{asked, in_turn, width_of, order_of, calculated}
use Rattle.meaning.specs.Meaning.{overflow_of, shifted, unless_overflow, Passing, all_passed, calls_of, passing_of}
use Rattle.meaning.proofs.Replies.{and_then-and_then}
use Rattle.meaning.specs.Meaning as meaning
use Rattle.meaning.specs.Integers.{magnitude, truth}
use Rattle.stack_machine.specs.declared.cell.Cell.TheVariants.{Set}
use Rattle.stack_machine.specs.Deeds.{Acts, Tests}
use Rattle.stack_machine.specs.Sets.{on_sets, related}
use Rattle.stack_machine.specs.Frames as frames
use Rattle.stack_machine.specs.Rows as rows
use Rattle.machine_arithmetic.specs.Arithmetic.{is_odd}
use Rattle.code_scheme.specs.Code.{calculation_code, monadic_code, shift_code, joined, dyadic_code, relation_instr, variable_code, width_code, check_positive}
use Rattle.code_scheme.specs.Code.{link_code, address_code, call_code, expr_step, passed_code, passed_step as passed_code_step, range_check, link_step}
use Rattle.code_scheme.specs.Code.{compare_code, default_width, designators_code, set_code, single_code, span_code, union_code, value_check, whole_code}
use Rattle.code_scheme.specs.Depth.{access_depth, link_depth, expr_depth_step, link_depth_step, width_depth, monadic_depth, whole_depth, PassedDepth}
use Rattle.code_scheme.specs.Depth.{actuals_depth, call_depth, designators_depth, passed_depth, passed_depth_step, shift_depth}
use Rattle.typed_tree.specs.WellFormed.{calculation_is_well_formed, shift_is_well_formed, monadic_is_well_formed, dyadic_is_well_formed, expr_is_well_formed}
use Rattle.typed_tree.specs.WellFormed.{link_is_well_formed, is_well_formed_link, is_well_formed_width, is_well_formed_whole, is_whole, leads_to_held}
use Rattle.typed_tree.specs.WellFormed.{are_designators, compare, holds, is_well_formed_input, member_site, members_wanted}
use Rattle.typed_tree.specs.Accesses.{origin_of}
use Rattle.typed_tree.specs.Kinds.{Held, are_ordinals, expression_held, given, held_by, held_where, is_held, is_held_passed, is_held_value, is_held_width}
use Rattle.typed_tree.specs.Kinds.{link_held, links_held, passed_held, taken_left, taken_right}
use Rattle.typed_tree.specs.Records.{Begin, access_begins, all_begin, begins as begins_of, expression_begins, is_there, link_begins, passed_begin}
use Rattle.typed_tree.specs.Records.{passed_begins, value_begins, width_begins}
use Rattle.code_generator.proofs.Texts.{compares_strings, expression_compares, is_text, link_compares, passed_compares, passes_strings, value_compares}
use Rattle.code_generator.proofs.Texts.{width_compares}
use Rattle.typed_tree.specs.WellFormed.{length_of, whole_indexes, formal_of, is_callable, is_passed_to, is_well_formed_call, is_well_formed_passed}
use Rattle.typed_tree.specs.WellFormed.{is_well_formed_test, leads_to_type, may_call, may_copy, passed_is_well_formed, passes_value, passes_variable}
use Rattle.typed_tree.specs.WellFormed.{passes_whole, placed as placed_for, source_of, takes_value, takes_variable, takes_whole}
use Rattle.code_generator.proofs.Alike.{Leads, leads_split}
use Rattle.code_generator.proofs.Calling.{marks}
use Rattle.code_generator.proofs.Exact.{exact_link, exact_passed}
use Rattle.code_generator.proofs.Nesting.{one_there}
use Rattle.code_generator.proofs.Passing.{AllPass, CallsAt, PassedRuns, Passes, PassesAs, Returns, function_evaluates, links_of, all_on, passed_on, passes_it}
use Rattle.code_generator.proofs.Passing.{return_on}
use Rattle.code_generator.proofs.Reach.{StandsAt, Stands, Comes, comes_less, comes_on, stands_back, stands_front, stays_here}
use Rattle.code_generator.proofs.Rows.{cells_of, length-cells_of, compares, numbers_of, same_order, order_fits}
use Rattle.code_generator.proofs.Setting.{Setting, outline, around, exact_around, on, Based, linked, Here, acts, passes, fails, as_value, entered}
use Rattle.code_generator.proofs.Accesses.{AreOrdinals, first_ordinal, Indexes, expressions, wells, as_many_wells, codes, depths, leads, begins, fetch_runs}
use Rattle.code_generator.proofs.Accesses.{found as place_found, PartAt}
use Rattle.code_generator.proofs.Accesses.{address_runs, exact_found, frame_found, address_on, at_address}
use Rattle.code_generator.proofs.Evaluating.{Gives as GivesKind, Good, Shape, same_four, same_shape, shape_of, sites, frames_of, RunsAs, CombinesAs}
use Rattle.code_generator.proofs.Evaluating.{ExprRuns, LinkRuns, link_begins_by, link_held_by, link_strings, value_tested}
use Rattle.code_generator.proofs.Scalars.{AllFit, HasFit, HasKind, fit_length, held_so, is_kind, is_scalar_of, scalar_held, scalar_of, scalar_tested}
use Rattle.code_generator.proofs.Scalars.{scalars_of}
use Rattle.code_generator.proofs.Scalars.{value_cell}
use Rattle.code_generator.proofs.Sets.{fits_range, joined_empty, loads_set, makes_one, makes_range, member_is, on_sets_is, related_is}
use Rattle.code_generator.proofs.Strings.{AreNumbers}
use Rattle.code_generator.proofs.Wholes.{copied_cells, copied_fit, few_components, same_type, whole_runs, row_kinds, row_long, row_on, row_then}
use Rattle.code_generator.proofs.Wholes.{text_numbers}
use Rattle.code_generator.proofs.Acts.{on_one_is, is_in_range, is_not_zero, squares, sums, differs, multiplies, on_two_is, divides, leaves}
use Rattle.code_generator.proofs.Numbers.{Fits, sum_is, difference_is, product_is, fits_negated, negated_is, fits_magnitude, magnitude_is, fits_quotient}
use Rattle.code_generator.proofs.Numbers.{quotient_is, fits_remainder, fits_truth, same_truth, same_test, same_positive, fits_next, fits_previous, same_range}
use Rattle.code_generator.proofs.Running.{beside, check_then, ordinal_beside, scalar_then, value_top, IsValue, Aim, Evaluates, Runs, gives, instr_then}
use Rattle.code_generator.proofs.Running.{runs_from, runs_same, then_code, then_runs}
use Rattle.code_generator.proofs.Running.{value_on, value_then}
use Rattle.code_generator.proofs.Held.{pushes_number}
use Rattle.code_generator.proofs.Inputs.{as_truth, asked_runs}
use Rattle.code_generator.proofs.Lists.{length_one}

-- a heading of a table is that of a block
heading_there : (blocks : List Block) (number : ℕ) (heading : Heading) → slice_get (map heading_of blocks) number ≡ Some heading
    → (block : Block) × (slice_get blocks number ≡ Some block) × (heading_of block ≡ heading)
heading_there [] number heading e = absurd (none-some heading e)
heading_there (block ∷ blocks) zero heading e = (block, refl, same_Some (heading_of block) heading e)
heading_there (block ∷ blocks) (suc number) heading e = heading_there blocks number heading e

-- as many cells as are there already
actuals_deep : (height : ℕ) (depths : List PassedDepth) → height ≤ actuals_depth height depths
actuals_deep height [] = omega arith
actuals_deep height (d ∷ depths) = let rest = actuals_deep (height + d.cells) depths in omega arith

module _ (g : Setting) where
  abbrev variables : List DeclaredVariable
  variables = g.tree.variables.items

  abbrev types : List Form
  types = g.tree.types

  -- a number that is pushed
  number_runs : (n : ℤ) (place : ℕ) (base held : List Cell) (s : effect.State) → Here g place (instr.LoadConstant n) → Fits n → Based g s base
      → g.below + length held + 1 ≤ g.limit → Evaluates g scalar.Ordinal (on g (base ++ held) place s) held (place + 1) (give (value.Number n)) s
  number_runs n place base held s here fit based room =
      let full = based.full in
      let long = length-append base held in
      inr (gives g scalar.Ordinal 1 _ base held (place + 1) (value.Number n) s based
      (pushes_number g (base ++ held) n place s here (omega arith)) fit (omega arith))

  -- an ordinal where it is wanted
  as_ordinal : (kind : Scalar) (m : State) (held : List Cell) (place : ℕ) (action : Action Value) (s : effect.State) → Some scalar.Ordinal ≡ Some kind
      → Evaluates g scalar.Ordinal m held place action s → Evaluates g kind m held place action s
  as_ordinal kind m held place action s is runs = subst (λ k. Evaluates g k m held place action s) (same_Some scalar.Ordinal kind is) runs

  -- a constant
  constant_runs : (number : ℕ) (n : ℤ) → RunsAs g (expr_step g.scope (Constant number n)) (expr_depth_step (Constant number n))
      (record { well = is_whole n; held = Some scalar.Ordinal; there = true; strings = true }) (value_step (Constant number n))
  constant_runs number n kind place base held s stands good based room =
      as_ordinal kind _ held (place + 1) (give (value.Number n)) (entered g number s) good.1
      (number_runs n place base held (entered g number s) stands.0 (record { is = good.0 }) based room)

  -- what is asked of the input
  input_runs : (number : ℕ) (asks : InputTest) → RunsAs g (expr_step g.scope (Input number asks)) (expr_depth_step (Input number asks))
      (record { well = is_well_formed_input (outline g) g.number asks; held = Some scalar.Ordinal; there = true; strings = true })
      (value_step (Input number asks))
  input_runs number asks kind place base held s stands good based room =
      as_ordinal kind _ held (place + 1) (as_truth (asked asks)) (entered g number s) good.1
      (asked_runs g asks place base held (entered g number s) stands.0 good.0 based (omega (arith, room)))

  -- what a variable or a component holds
  variable_runs : (access : Access) (indexes : Indexes g) (holding : Scalar) (defined : ℕ)
      → RunsAs g (variable_code g.scope access (codes g indexes) defined) (access_depth access.selectors.items (depths g indexes))
      (record {
        well = all_hold (wells g indexes)
            && (leads_to_held (outline g) g.number holding (origin_of access) access.selectors.items (length (wells g indexes)) && nat_lt defined (sites g));
        held = held_where (are_ordinals (map held_by (expressions g indexes))) holding;
        there = access_begins access (map begins_of (expressions g indexes)) g.opened;
        strings = all_hold (map (compares_strings types) (expressions g indexes));
      })
      (λ env. meaning.accessed access (map value_of (expressions g indexes)) env >>= λ q. fetch q defined)
  variable_runs access indexes holding defined kind place base held s stands good based room =
      let parts = and_parts _ _ good.0 in
      let parts' = and_parts _ _ parts.1 in
      let own = held_so (are_ordinals (map held_by (expressions g indexes))) holding kind good.1 in
      let begun = and_parts (all_begin (map begins_of (expressions g indexes)) g.opened) (is_there g.opened (origin_of access)) good.2 in
      let ordinals : AreOrdinals g (expressions g indexes) = (parts.0, own.0, begun.0, good.3) in
      let wanted : TypeId → Bool = holds types holding in
      let led_to = leads g wanted (origin_of access) access.selectors.items (length (expressions g indexes))
      (subst (λ k. leads_to_held (outline g) g.number holding (origin_of access) access.selectors.items k ≡ true) (as_many_wells g indexes) parts'.0) in
      let start = begins g access wanted (length (expressions g indexes)) (codes g indexes) led_to begun.1 in
      subst (λ action. Evaluates g kind (on g (base ++ held) place s) held (place + length (variable_code g.scope access (codes g indexes) defined))
      (action >>= λ q. fetch q defined) s) (sym (start.meant (map value_of (expressions g indexes))))
      (fetch_runs g access indexes led_to.last start ordinals led_to.counts kind (scalar_held types led_to.last holding led_to.is_wanted ∙ ap Some own.1)
      defined place base held (entered g access.number s) (ltb-true defined (sites g) parts'.1) stands based room)

  -- an operation that is never in error: the instruction leaves a number, which is the one that is meant
  given_runs : (apply : Instr) (place : ℕ) (stack base held : List Cell) (c d : ℤ) (s : effect.State) (act : frames.Frames → Attempt frames.Frames)
      → Here g place apply → deed_of apply ≡ Acts act → act (frames_of g stack) ≡ Ok (frames_of g ((base ++ held) ++ Number d ∷ [])) → d ≡ c
      → Fits c → Based g s base → g.below + length held < g.limit
      → Evaluates g scalar.Ordinal (on g stack place s) held (place + 1) (give (value.Number c)) s
  given_runs apply place stack base held c d s act here rule does same fit based room =
      inr (gives g scalar.Ordinal 1 _ base held (place + 1) (value.Number c) s based (acts g apply stack ((base ++ held) ++ Number c ∷ []) place s act here rule
      (does ∙ ap (λ v. Ok (frames_of g ((base ++ held) ++ Number v ∷ []))) same)) fit room)

  -- a check, behind which more comes where it holds
  checked_then : (check : Instr) (site place end : ℕ) (stack held : List Cell) (s : effect.State) (next : Action ℤ) (test : frames.Frames → Attempt Bool)
      (good : Bool) → StandsAt g.target place check (g.target.is_open site) → moved g.target.to check ≡ check → deed_of check ≡ Tests site test
      → test (frames_of g stack) ≡ Ok good → site < sites g → (good ≡ true → Evaluates g scalar.Ordinal (on g stack (place + 1) s) held end (as_value next) s)
      → Evaluates g scalar.Ordinal (on g stack place s) held end (as_value (require good site >>= (λ _. next))) s
  checked_then check site place end stack held s next test true stands same rule e within rest =
      runs_from g (value_on g scalar.Ordinal held end) 0 _ _ (as_value next) s (passes g check stack place site s test same rule stands e) (rest refl)
  checked_then check site place end stack held s next test false stands same rule e within rest =
      inr (fails g check stack place site s test same rule s.turns stands within e)

  -- an operation behind a check of its result or of its operand
  checked_runs : (check apply : Instr) (site place : ℕ) (stack base held : List Cell) (c d : ℤ) (s : effect.State) (test : frames.Frames → Attempt Bool)
      (act : frames.Frames → Attempt frames.Frames) (good : Bool) → StandsAt g.target place check (g.target.is_open site) → Here g (place + 1) apply
      → moved g.target.to check ≡ check → deed_of check ≡ Tests site test → deed_of apply ≡ Acts act → test (frames_of g stack) ≡ Ok good
      → (good ≡ true → (act (frames_of g stack) ≡ Ok (frames_of g ((base ++ held) ++ Number d ∷ []))) × (d ≡ c) × Fits c) → site < (sites g) → Based g s base
      → g.below + length held < g.limit
      → Evaluates g scalar.Ordinal (on g stack place s) held (place + 2) (as_value (require good site >>= (λ _. give c))) s
  checked_runs check apply site place stack base held c d s test act good stands here same rule rule' e does within based room =
      checked_then check site place (place + 2) stack held s (give c) test good stands same rule e within
      (λ so.
      let d' = does so in
      let p : place + 1 + 1 ≡ place + 2 = omega arith in
      subst (λ q. Evaluates g scalar.Ordinal (on g stack (place + 1) s) held q (give (value.Number c)) s) p
      (given_runs apply (place + 1) stack base held c d s act here rule' d'.0 d'.1 d'.2 based room))

  -- a result that is checked to be of type integer
  result_runs : (check apply : Instr) (overflow place : ℕ) (stack base held : List Cell) (c d : ℤ) (s : effect.State) (test : frames.Frames → Attempt Bool)
      (act : frames.Frames → Attempt frames.Frames) → StandsAt g.target place check (g.target.is_open overflow) → Here g (place + 1) apply
      → moved g.target.to check ≡ check → deed_of check ≡ Tests overflow test → deed_of apply ≡ Acts act
      → test (frames_of g stack) ≡ Ok (frames.is_integer c) → act (frames_of g stack) ≡ Ok (frames_of g ((base ++ held) ++ Number d ∷ []))
      → (Fits c → d ≡ c) → overflow < (sites g) → Based g s base → g.below + length held < g.limit
      → Evaluates g scalar.Ordinal (on g stack place s) held (place + 2) (as_value (unless_overflow (Some overflow) c)) s
  result_runs check apply overflow place stack base held c d s test act stands here same rule rule' e does is within based room =
      subst (λ t. Evaluates g scalar.Ordinal (on g stack place s) held (place + 2) (as_value (require t overflow >>= (λ _. give c))) s)
      (sym (same_test c))
      (checked_runs check apply overflow place stack base held c d s test act (frames.is_integer c) stands here same rule rule' e
      (λ good. let fit : Fits c = record { is = good } in (does, is fit, fit)) within based room)

  -- one number gives way to another
  module _ (place : ℕ) (base held : List Cell) (n : ℤ) (s : effect.State) (based : Based g s base) (room : g.below + length held < g.limit)
      (fit : Fits n) where
    abbrev cells : List Cell
    cells = base ++ held

    abbrev one : List Cell
    one = cells ++ Number n ∷ []

    within_frame : g.frame + 4 ≤ length cells
    within_frame = linked g s base held based

    below_limit : length cells < g.limit
    below_limit = let full = based.full in omega (arith, length-append base held)

    one_given : (apply : Instr) (f : ℤ → ℤ) (c : ℤ) → Here g place apply → deed_of apply ≡ Acts (frames.on_one f) → f n ≡ c → Fits c
        → Evaluates g scalar.Ordinal (on g one place s) held (place + 1) (give (value.Number c)) s
    one_given apply f c here rule same fit' =
        given_runs apply place one base held c (f n) s _ here rule (on_one_is g.frame g.limit g.size cells within_frame f n below_limit) same fit' based room

    truth_given : (apply : Instr) (test : ℤ → Bool) → Here g place apply → deed_of apply ≡ Acts (frames.on_one (λ v. frames.truth (test v)))
        → Evaluates g scalar.Ordinal (on g one place s) held (place + 1) (give (value.Number (truth (test n)))) s
    truth_given apply test here rule =
        one_given apply (λ v. frames.truth (test v)) (truth (test n)) here rule (same_truth (test n)) (subst Fits (same_truth (test n)) (fits_truth (test n)))

    -- nothing changes
    left_as_it_is : Evaluates g scalar.Ordinal (on g one place s) held place (give (value.Number n)) s
    left_as_it_is = inr (gives g scalar.Ordinal 0 _ base held place (value.Number n) s based (stays_here g.target (on g one place s)) fit room)

    -- a step to the number beside it
    stepped_runs : (step : Instr) (f : ℤ → ℤ → ℤ) (c : ℤ) → Here g place (instr.LoadConstant (pos 1)) → Here g (place + 1) step
        → deed_of step ≡ Acts (frames.on_two f) → f n (pos 1) ≡ c → Fits c
        → g.below + length held + 2 ≤ g.limit → Evaluates g scalar.Ordinal (on g one place s) held (place + 2) (give (value.Number c)) s
    stepped_runs step f c at1 at2 rule same fit' deep =
        let full = based.full in
        let two = one ++ Number (pos 1) ∷ [] in
        let pushed = pushes_number g one (pos 1) place s at1 (omega (arith, length_one cells (Number n), length-append base held)) in
        let p : place + 1 + 1 ≡ place + 2 = omega arith in
        subst (λ q. Evaluates g scalar.Ordinal (on g one place s) held q (give (value.Number c)) s) p
        (runs_from g (value_on g scalar.Ordinal held (place + 1 + 1)) 1 _ _ (give (value.Number c)) s pushed
        (given_runs step (place + 1) two base held c (f n (pos 1)) s _ at2 rule
        (on_two_is g.frame g.limit g.size cells within_frame n (pos 1) f below_limit) same fit' based room))

    -- what is calculated from a number
    calculation_runs : (does : Calculation) → Stands g.target place (calculation_code does) → calculation_is_well_formed (outline g) g.number does ≡ true
        → Evaluates g scalar.Ordinal (on g one place s) held (place + length (calculation_code does))
        (as_value (unless_overflow (overflow_of does) (calculated does n))) s
    calculation_runs calculation.Same stands well =
        let e : place ≡ place + 0 = omega arith in
        subst (λ p. Evaluates g scalar.Ordinal (on g one place s) held p (give (value.Number n)) s) e left_as_it_is
    calculation_runs calculation.Negative stands well =
        one_given instr.Negate (int_wrapping_neg w32) (neg_ℤ n) stands.0 refl (negated_is n fit) (fits_negated n fit)
    calculation_runs calculation.Complement stands well = truth_given instr.Not (λ v. not (frames.is_true v)) stands.0 refl
    calculation_runs calculation.Absolute stands well =
        one_given instr.Absolute (λ v. cast_signed w32 (unsigned_abs v)) (magnitude n) stands.0 refl (magnitude_is n fit) (fits_magnitude n fit)
    calculation_runs (calculation.Square overflow) stands well =
        result_runs (instr.CheckSquare overflow) instr.Square overflow place one base held (n *ℤ n) (int_wrapping_mul w32 n n) s _ _ stands.0 stands.1.0 refl
        refl refl
        (squares g.frame g.limit g.size cells within_frame n)
        (on_one_is g.frame g.limit g.size cells within_frame (λ v. int_wrapping_mul w32 v v) n below_limit) (product_is n n fit fit)
        (ltb-true overflow (sites g) well) based room
    calculation_runs calculation.Parity stands well = truth_given instr.Odd is_odd stands.0 refl
    calculation_runs calculation.Ordinal stands well =
        let e : place ≡ place + 0 = omega arith in
        subst (λ p. Evaluates g scalar.Ordinal (on g one place s) held p (give (value.Number n)) s) e left_as_it_is

    -- what comes of a number that lies in a range
    shift_runs : (range : OrdinalRange) (does : Shift) → Stands g.target place (shift_code does)
        → shift_is_well_formed (outline g) g.number range does ≡ true → int_le range.first n ≡ true → int_le n range.last ≡ true
        → g.below + length held + shift_depth does ≤ g.limit
        → Evaluates g scalar.Ordinal (on g one place s) held (place + length (shift_code does)) (give (value.Number (shifted does n))) s
    shift_runs range shift.Same stands well above below deep =
        let e : place ≡ place + 0 = omega arith in
        subst (λ p. Evaluates g scalar.Ordinal (on g one place s) held p (give (value.Number n)) s) e left_as_it_is
    shift_runs range shift.Next stands well above below deep =
        let f = fits_next n range.last fit (record { is = well }) below in
        stepped_runs instr.Add (int_wrapping_add w32) (n +ℤ pos 1) stands.0 stands.1.0 refl (sum_is n (pos 1) fit (record { is = refl }) f) f deep
    shift_runs range shift.Previous stands well above below deep =
        let f = fits_previous n range.first fit (record { is = well }) above in
        stepped_runs instr.Subtract (int_wrapping_sub w32) (n -ℤ pos 1) stands.0 stands.1.0 refl
        (difference_is n (pos 1) fit (record { is = refl }) f) f deep

  -- what an operation makes of a number
  operated_runs : (place : ℕ) (base held : List Cell) (n : ℤ) (s : effect.State) → Based g s base → g.below + length held < g.limit → Fits n
      → (operation : Monadic) → Stands g.target place (monadic_code operation) → monadic_is_well_formed (outline g) g.number operation ≡ true
      → g.below + length held + monadic_depth operation ≤ g.limit
      → Evaluates g scalar.Ordinal (on g ((base ++ held) ++ Number n ∷ []) place s) held (place + length (monadic_code operation))
      (as_value (operated operation n)) s
  operated_runs place base held n s based room fit (monadic.Plain does) stands well deep =
      calculation_runs place base held n s based room fit does stands well
  operated_runs place base held n s based room fit (monadic.Tested fits does) stands well deep =
      let range = fits.range in
      let parts = and_parts (is_well_formed_test (outline g) g.number fits) (shift_is_well_formed (outline g) g.number range does) well in
      let within = and_parts (nat_lt fits.site (sites g)) (is_whole range.first && is_whole range.last) parts.0 in
      let end = place + 1 + length (shift_code does) in
      let e : end ≡ place + length (monadic_code (monadic.Tested fits does)) = omega arith in
      subst (λ p. Evaluates g scalar.Ordinal (on g ((base ++ held) ++ Number n ∷ []) place s) held p (as_value (operated (monadic.Tested fits does) n)) s) e
      (checked_then (range_check fits) fits.site place end ((base ++ held) ++ Number n ∷ []) held s (give (shifted does n)) _
      (effect.is_in range (value.Number n)) stands.0 refl refl
      (is_in_range g.frame g.limit g.size (base ++ held) (linked g s base held based) range.first range.last n
      ∙ ap Ok (sym (same_range range n fit)))
      (ltb-true fits.site (sites g) within.0)
      (λ so.
      let both = and_parts (int_le range.first n) (int_le n range.last) (sym (same_range range n fit) ∙ so) in
      shift_runs (place + 1) base held n s based room fit range does stands.1 parts.1 both.0 both.1 deep))

  -- an operation on one operand
  monadic_runs : (number : ℕ) (operation : Monadic) (e : Expr) → ExprRuns g e
      → RunsAs g (expr_code g.scope e ++ monadic_code operation) (max (expr_depth e) (monadic_depth operation))
      (record {
        well = monadic_is_well_formed (outline g) g.number operation && is_well_formed_expr (outline g) g.number e;
        held = held_where (is_held scalar.Ordinal (held_by e)) scalar.Ordinal;
        there = begins_of e g.opened;
        strings = compares_strings types e;
      })
      (λ env. effect.enter number env.visible >>= λ _. value_of e env >>= λ w. as_value (operated operation (number_of w)))
  monadic_runs number operation e runs kind place base held s stands good based room =
      let c = expr_code g.scope e in
      let parts = and_parts (monadic_is_well_formed (outline g) g.number operation) (is_well_formed_expr (outline g) g.number e) good.0 in
      let own = held_so (is_held scalar.Ordinal (held_by e)) scalar.Ordinal kind good.1 in
      let next : Value → Action Value = λ w. as_value (operated operation (number_of w)) in
      as_ordinal kind _ held (place + length (c ++ monadic_code operation)) (value_of e (around g) >>= next) (entered g number s) (ap Some own.1)
      (value_then g (value_on g scalar.Ordinal held) c (monadic_code operation) place _ held (value_of e (around g)) next (entered g number s)
      ((exact_around g).values e) stands
      (λ front. runs scalar.Ordinal place base held (entered g number s) front
      (parts.1, is_kind scalar.Ordinal (held_by e) own.0, good.2, good.3) based (omega arith))
      (λ base2 n t rest based2 fit2 room2 le.
      operated_runs (place + length c) base2 held n t based2 room2 fit2 operation rest parts.0 (omega arith)))

  -- two numbers give way to a third
  module _ (place : ℕ) (base held : List Cell) (a b : ℤ) (s : effect.State) (based : Based g s base) (room : g.below + length held < g.limit)
      (fit : Fits a) (fit' : Fits b) where
    abbrev left_held : List Cell
    left_held = (base ++ held) ++ Number a ∷ []

    abbrev two : List Cell
    two = left_held ++ Number b ∷ []

    in_frame : g.frame + 4 ≤ length (base ++ held)
    in_frame = linked g s base held based

    -- the divisor stands above the dividend and the links
    above : g.frame + 4 ≤ length left_held
    above = let h = in_frame in omega (arith, length_one (base ++ held) (Number a))

    within_limit : length (base ++ held) < g.limit
    within_limit = let full = based.full in omega (arith, length-append base held)

    truths_given : (apply : Instr) (test : ℤ → ℤ → Bool) → Here g place apply
        → deed_of apply ≡ Acts (frames.on_two (λ x y. frames.truth (test x y)))
        → Evaluates g scalar.Ordinal (on g two place s) held (place + 1) (give (value.Number (truth (test a b)))) s
    truths_given apply test here rule =
        given_runs apply place two base held (truth (test a b)) (frames.truth (test a b)) s _ here rule
        (on_two_is g.frame g.limit g.size (base ++ held) in_frame a b (λ x y. frames.truth (test x y)) within_limit) (same_truth (test a b))
        (subst Fits (same_truth (test a b)) (fits_truth (test a b))) based room

    relation_runs : (r : Relation) → Stands g.target place (relation_instr r ∷ [])
        → Evaluates g scalar.Ordinal (on g two place s) held (place + 1) (give (value.Number (truth (relates r a b)))) s
    relation_runs relation.Equal stands = truths_given instr.Equal int_eq stands.0 refl
    relation_runs relation.NotEqual stands = truths_given instr.NotEqual (λ x y. not (int_eq x y)) stands.0 refl
    relation_runs relation.Less stands = truths_given instr.Less int_lt stands.0 refl
    relation_runs relation.Greater stands = truths_given instr.Greater (λ x y. int_lt y x) stands.0 refl
    relation_runs relation.LessOrEqual stands = truths_given instr.LessOrEqual int_le stands.0 refl
    relation_runs relation.GreaterOrEqual stands = truths_given instr.GreaterOrEqual (λ x y. int_le y x) stands.0 refl

    -- a result of type integer of both, checked
    both_checked : (check apply : Instr) (overflow : ℕ) (c d : ℤ) (test : frames.Frames → Attempt Bool) (act : frames.Frames → Attempt frames.Frames)
        → StandsAt g.target place check (g.target.is_open overflow) → Here g (place + 1) apply → moved g.target.to check ≡ check
        → deed_of check ≡ Tests overflow test → deed_of apply ≡ Acts act → test (frames_of g two) ≡ Ok (frames.is_integer c)
        → act (frames_of g two) ≡ Ok (frames_of g ((base ++ held) ++ Number d ∷ [])) → (Fits c → d ≡ c) → nat_lt overflow (sites g) ≡ true
        → Evaluates g scalar.Ordinal (on g two place s) held (place + 2) (as_value (unless_overflow (Some overflow) c)) s
    both_checked check apply overflow c d test act stands here same rule rule' e does is well =
        result_runs check apply overflow place two base held c d s test act stands here same rule rule' e does is (ltb-true overflow (sites g) well) based room

    -- what comes of an operation on numbers
    abbrev Combines : Dyadic → Type 0
    Combines operation =
        Stands g.target place (dyadic_code operation) → dyadic_is_well_formed (outline g) g.number operation ≡ true
        → Evaluates g scalar.Ordinal (on g two place s) held (place + length (dyadic_code operation)) (as_value (combined operation a b)) s

    plus_runs : (overflow : ℕ) → Combines (dyadic.Plus overflow)
    plus_runs overflow stands well =
        both_checked (instr.CheckSum overflow) instr.Add overflow (a +ℤ b) (int_wrapping_add w32 a b) _ _ stands.0 stands.1.0 refl refl refl
        (sums g.frame g.limit g.size (base ++ held) in_frame a b)
        (on_two_is g.frame g.limit g.size (base ++ held) in_frame a b (int_wrapping_add w32) within_limit) (sum_is a b fit fit') well

    minus_runs : (overflow : ℕ) → Combines (dyadic.Minus overflow)
    minus_runs overflow stands well =
        both_checked (instr.CheckDifference overflow) instr.Subtract overflow (a -ℤ b) (int_wrapping_sub w32 a b) _ _ stands.0 stands.1.0 refl refl refl
        (differs g.frame g.limit g.size (base ++ held) in_frame a b)
        (on_two_is g.frame g.limit g.size (base ++ held) in_frame a b (int_wrapping_sub w32) within_limit) (difference_is a b fit fit') well

    times_runs : (overflow : ℕ) → Combines (dyadic.Times overflow)
    times_runs overflow stands well =
        both_checked (instr.CheckProduct overflow) instr.Multiply overflow (a *ℤ b) (int_wrapping_mul w32 a b) _ _ stands.0 stands.1.0 refl refl refl
        (multiplies g.frame g.limit g.size (base ++ held) in_frame a b)
        (on_two_is g.frame g.limit g.size (base ++ held) in_frame a b (int_wrapping_mul w32) within_limit) (product_is a b fit fit') well

    div_runs : (by_zero : ℕ) → Combines (dyadic.Div by_zero)
    div_runs by_zero stands well =
        checked_runs (instr.CheckZero by_zero) instr.Divide by_zero place two base held (int_div a b) (int_wrapping_div w32 a b) s _ _ (frames.is_true b)
        stands.0 stands.1.0 refl refl refl
        (is_not_zero g.frame g.limit g.size left_held above b)
        (λ good. (divides g.frame g.limit g.size (base ++ held) in_frame a b within_limit good, quotient_is a b fit, fits_quotient a b fit))
        (ltb-true by_zero (sites g) well) based room

    mod_runs : (by_zero_or_less : ℕ) → Combines (dyadic.Mod by_zero_or_less)
    mod_runs by_zero_or_less stands well =
        checked_runs (check_positive by_zero_or_less) instr.Modulo by_zero_or_less place two base held (int_rem_euclid a b) (int_rem_euclid a b) s _ _
        (int_le (pos 1) b) stands.0 stands.1.0 refl refl refl
        (is_in_range g.frame g.limit g.size left_held above (pos 1) (pos 2147483647) b ∙ ap Ok (same_positive b fit'))
        (λ good. (leaves g.frame g.limit g.size (base ++ held) in_frame a b within_limit good, refl, fits_remainder a b fit' good))
        (ltb-true by_zero_or_less (sites g) well) based room

    and_runs : Combines dyadic.And
    and_runs stands well = truths_given instr.And (λ x y. frames.is_true x && frames.is_true y) stands.0 refl

    or_runs : Combines dyadic.Or
    or_runs stands well = truths_given instr.Or (λ x y. frames.is_true x || frames.is_true y) stands.0 refl

  -- a set that an instruction leaves
  set_given : (apply : Instr) (place : ℕ) (stack base held : List Cell) (d : ℕ) (s : effect.State) (act : frames.Frames → Attempt frames.Frames)
      → Here g place apply → deed_of apply ≡ Acts act → act (frames_of g stack) ≡ Ok (frames_of g ((base ++ held) ++ Set d ∷ [])) → Based g s base
      → g.below + length held < g.limit → Evaluates g scalar.Set (on g stack place s) held (place + 1) (give (value.Members d)) s
  set_given apply place stack base held d s act here rule does based room =
      inr (gives g scalar.Set 1 _ base held (place + 1) (value.Members d) s based
      (acts g apply stack ((base ++ held) ++ Set d ∷ []) place s act here rule does) tt room)

  -- two values give way to a third
  module _ (place : ℕ) (base held : List Cell) (s : effect.State) (based : Based g s base) (room : g.below + length held < g.limit) where
    abbrev over : Value → Value → List Cell
    over left right = ((base ++ held) ++ value_cell left ∷ []) ++ value_cell right ∷ []

    linked_below : g.frame + 4 ≤ length (base ++ held)
    linked_below = linked g s base held based

    room_below : length (base ++ held) < g.limit
    room_below = let full = based.full in omega (arith, length-append base held)

    -- what comes of an operation
    abbrev Operates : Dyadic → Value → Value → Type 0
    Operates operation left right =
        Stands g.target place (dyadic_code operation) → dyadic_is_well_formed (outline g) g.number operation ≡ true
        → Evaluates g (given operation) (on g (over left right) place s) held (place + length (dyadic_code operation)) (operated_both operation left right) s

    -- two numbers, two sets, and a number with a set
    of_numbers : (operation : Dyadic) (left right : Value) → ((a b : ℤ) → Fits a → Fits b → Operates operation (value.Number a) (value.Number b))
        → HasKind scalar.Ordinal left → HasKind scalar.Ordinal right → Operates operation left right
    of_numbers operation (value.Number a) (value.Number b) h l r = h a b l r
    of_numbers operation (value.Number a) (value.Members b) h l r = absurd r
    of_numbers operation (value.Members a) right h l r = absurd l

    of_sets : (operation : Dyadic) (left right : Value) → ((a b : ℕ) → Operates operation (value.Members a) (value.Members b))
        → HasKind scalar.Set left → HasKind scalar.Set right → Operates operation left right
    of_sets operation (value.Members a) (value.Members b) h l r = h a b
    of_sets operation (value.Members a) (value.Number b) h l r = absurd r
    of_sets operation (value.Number a) right h l r = absurd l

    sets_given : (apply : Instr) (f : ℕ → ℕ → ℕ) (a b : ℕ) → Here g place apply → deed_of apply ≡ Acts (on_sets f)
        → Evaluates g scalar.Set (on g (over (value.Members a) (value.Members b)) place s) held (place + 1) (give (value.Members (f a b))) s
    sets_given apply f a b here rule =
        set_given apply place _ base held (f a b) s _ here rule (on_sets_is g.frame g.limit g.size (base ++ held) linked_below a b f room_below) based room

    related_given : (apply : Instr) (f : ℕ → ℕ → Bool) (a b : ℕ) → Here g place apply → deed_of apply ≡ Acts (related f)
        → Evaluates g scalar.Ordinal (on g (over (value.Members a) (value.Members b)) place s) held (place + 1) (give (value.Number (truth (f a b)))) s
    related_given apply f a b here rule =
        given_runs apply place _ base held (truth (f a b)) (frames.truth (f a b)) s _ here rule
        (related_is g.frame g.limit g.size (base ++ held) linked_below a b f room_below) (same_truth (f a b))
        (subst Fits (same_truth (f a b)) (fits_truth (f a b))) based room

    set_relation_runs : (r : SetRelation) (a b : ℕ) → Operates (dyadic.SetRelation r) (value.Members a) (value.Members b)
    set_relation_runs set_relation.Equal a b stands well = related_given instr.SetEqual (members.stand way.Equal) a b stands.0 refl
    set_relation_runs set_relation.NotEqual a b stands well = related_given instr.SetNotEqual (members.stand way.NotEqual) a b stands.0 refl
    set_relation_runs set_relation.Included a b stands well = related_given instr.SetInside (members.stand way.Inside) a b stands.0 refl
    set_relation_runs set_relation.Includes a b stands well = related_given instr.SetAround (members.stand way.Around) a b stands.0 refl

    member_runs : (left right : Value) → HasKind scalar.Ordinal left → HasKind scalar.Set right → Operates dyadic.In left right
    member_runs (value.Number n) (value.Members set) l r stands well =
        given_runs instr.IsMember place _ base held (truth (members.has set n)) (frames.truth (members.has set n)) s _ stands.0 refl
        (member_is g.frame g.limit g.size (base ++ held) linked_below n set room_below) (same_truth (members.has set n))
        (subst Fits (same_truth (members.has set n)) (fits_truth (members.has set n))) based room
    member_runs (value.Number n) (value.Number b) l r stands well = absurd r
    member_runs (value.Members a) right l r stands well = absurd l

    both_runs : (operation : Dyadic) (left right : Value) → HasKind (taken_left operation) left → HasKind (taken_right operation) right
        → Operates operation left right
    both_runs (dyadic.Plus overflow) left right =
        of_numbers (dyadic.Plus overflow) left right (λ a b fit fit'. plus_runs place base held a b s based room fit fit' overflow)
    both_runs (dyadic.Minus overflow) left right =
        of_numbers (dyadic.Minus overflow) left right (λ a b fit fit'. minus_runs place base held a b s based room fit fit' overflow)
    both_runs (dyadic.Times overflow) left right =
        of_numbers (dyadic.Times overflow) left right (λ a b fit fit'. times_runs place base held a b s based room fit fit' overflow)
    both_runs (dyadic.Div by_zero) left right =
        of_numbers (dyadic.Div by_zero) left right (λ a b fit fit'. div_runs place base held a b s based room fit fit' by_zero)
    both_runs (dyadic.Mod by_zero_or_less) left right =
        of_numbers (dyadic.Mod by_zero_or_less) left right (λ a b fit fit'. mod_runs place base held a b s based room fit fit' by_zero_or_less)
    both_runs dyadic.And left right = of_numbers dyadic.And left right (λ a b fit fit'. and_runs place base held a b s based room fit fit')
    both_runs dyadic.Or left right = of_numbers dyadic.Or left right (λ a b fit fit'. or_runs place base held a b s based room fit fit')
    both_runs (dyadic.Relation r) left right =
        of_numbers (dyadic.Relation r) left right (λ a b fit fit' stands well. relation_runs place base held a b s based room fit fit' r stands)
    both_runs dyadic.Union left right =
        of_sets dyadic.Union left right (λ a b stands well. sets_given instr.Union (members.of_two operator.Union) a b stands.0 refl)
    both_runs dyadic.Difference left right =
        of_sets dyadic.Difference left right (λ a b stands well. sets_given instr.Difference (members.of_two operator.Difference) a b stands.0 refl)
    both_runs dyadic.Intersection left right =
        of_sets dyadic.Intersection left right (λ a b stands well. sets_given instr.Intersection (members.of_two operator.Intersection) a b stands.0 refl)
    both_runs (dyadic.SetRelation r) left right = of_sets (dyadic.SetRelation r) left right (λ a b. set_relation_runs r a b)
    both_runs dyadic.In left right = member_runs left right

  -- two rows give way to their order, and that is compared with 0
  ordered_runs : (r : Relation) (count place : ℕ) (base held : List Cell) (vs ws : List Value) (s : effect.State) → length vs ≡ count → length ws ≡ count
      → AreNumbers vs → AreNumbers ws
      → Stands g.target place (instr.Compare count ∷ instr.LoadConstant (pos 0) ∷ relation_instr r ∷ []) → Based g s base
      → g.below + length held + 2 ≤ g.limit
      → Evaluates g scalar.Ordinal (on g (((base ++ held) ++ cells_of vs) ++ cells_of ws) place s) held (place + 3)
      (give (value.Number (meaning.compared r vs ws))) s
  ordered_runs r count place base held vs ws s long as_long left_are right_are stands based deep =
      let cells = base ++ held in
      let full = based.full in
      let few = length-append base held in
      let both = (cells ++ cells_of vs) ++ cells_of ws in
      let left = numbers_of vs in
      let right = numbers_of ws in
      let order = rows.order left right in
      let ordered = cells ++ Number order ∷ [] in
      let is_order : order ≡ order_of left right =
      same_order left right (length-map vs number_of ∙ long ∙ sym as_long ∙ sym (length-map ws number_of)) in
      let compared = acts g (instr.Compare count) both ordered place s _ stands.0 refl
      (compares g.frame g.limit g.size cells (linked g s base held based) vs ws count long as_long left_are right_are (omega arith)) in
      let zero = pushes_number g ordered (pos 0) (place + 1) s stands.1.0 (omega (arith, length_one cells (Number order))) in
      let fit : Fits order = subst Fits (sym is_order) (order_fits left right) in
      let related = relation_runs (place + 1 + 1) base held order (pos 0) s based (omega arith) fit (record { is = refl }) r stands.1.1 in
      let whole = runs_from g (value_on g scalar.Ordinal held (place + 1 + 1 + 1)) 2 _ _ (give (value.Number (truth (relates r order (pos 0))))) s
      (comes_on g.target 1 1 _ _ _ compared zero) related in
      let e : place + 1 + 1 + 1 ≡ place + 3 = omega arith in
      subst (λ p. Evaluates g scalar.Ordinal (on g both place s) held p (give (value.Number (meaning.compared r vs ws))) s) e
      (subst (λ o. Evaluates g scalar.Ordinal (on g both place s) held (place + 1 + 1 + 1) (give (value.Number (truth (relates r o
      (pos 0))))) s) is_order whole)

  -- two whole values are compared
  compare_runs : (number : ℕ) (r : Relation) (left : Whole) (left_indexes : Indexes g) (right : Whole)
      (right_indexes : Indexes g)
      → RunsAs g (compare_code r (length_of left) (whole_code g.scope left (codes g left_indexes)) (whole_code g.scope right (codes g right_indexes)))
      (max (whole_depth left (depths g left_indexes)) (max (whole_depth right (depths g right_indexes) + length_of left) 2))
      (record {
        well = all_hold (whole_indexes left (wells g left_indexes)) && (is_well_formed_whole (outline g) g.number left (length (wells g left_indexes))
            && (all_hold (whole_indexes right (wells g right_indexes))
            && (is_well_formed_whole (outline g) g.number right (length (wells g right_indexes))
            && compare (outline g) g.number (source_of left) (length_of left) (source_of right) (length_of right))));
        held = held_where (is_held_value left (expressions g left_indexes) && is_held_value right (expressions g right_indexes)) scalar.Ordinal;
        there = value_begins left (expressions g left_indexes) g.opened && value_begins right (expressions g right_indexes) g.opened;
        strings = (is_text types left && value_compares types left (expressions g left_indexes))
            && (is_text types right && value_compares types right (expressions g right_indexes));
      })
      (λ env. meaning.whole_of left (map value_of (expressions g left_indexes)) env >>= λ vs. effect.enter number env.visible >>= λ _.
      meaning.whole_of right (map value_of (expressions g right_indexes)) env >>= λ ws. give (value.Number (meaning.compared r vs ws)))
  compare_runs number r left left_indexes right right_indexes kind place base held s stands good based deep =
      let n = length_of left in
      let c = whole_code g.scope left (codes g left_indexes) in
      let d = whole_code g.scope right (codes g right_indexes) in
      let last = instr.Compare (row_length n) ∷ instr.LoadConstant (pos 0) ∷ relation_instr r ∷ [] in
      let one = and_parts (all_hold (whole_indexes left (wells g left_indexes))) _ good.0 in
      let two = and_parts (is_well_formed_whole (outline g) g.number left (length (wells g left_indexes))) _ one.1 in
      let three = and_parts (all_hold (whole_indexes right (wells g right_indexes))) _ two.1 in
      let four = and_parts (is_well_formed_whole (outline g) g.number right (length (wells g right_indexes))) _ three.1 in
      let as_long : n ≡ length_of right = eqb-true n (length_of right) (and_parts _ _ (and_parts _ _ four.1).1).1 in
      let own = held_so (is_held_value left (expressions g left_indexes) && is_held_value right (expressions g right_indexes)) scalar.Ordinal kind good.1 in
      let helds = and_parts (is_held_value left (expressions g left_indexes)) (is_held_value right (expressions g right_indexes)) own.0 in
      let begun = and_parts (value_begins left (expressions g left_indexes) g.opened) (value_begins right (expressions g right_indexes) g.opened) good.2 in
      let strings = and_parts (is_text types left && value_compares types left (expressions g left_indexes))
      (is_text types right && value_compares types right (expressions g right_indexes)) good.3 in
      let left_string = and_parts (is_text types left) (value_compares types left (expressions g left_indexes)) strings.0 in
      let right_string = and_parts (is_text types right) (value_compares types right (expressions g right_indexes)) strings.1 in
      let left_well = subst (λ k. is_well_formed_whole (outline g) g.number left k ≡ true) (as_many_wells g left_indexes) two.0 in
      let right_well = subst (λ k. is_well_formed_whole (outline g) g.number right k ≡ true) (as_many_wells g right_indexes) four.0 in
      let same : n ≡ row_length n = few_components g left (length (expressions g left_indexes)) left_well in
      let left_long = row_long g left (length (expressions g left_indexes)) left_well in
      let right_long = row_long g right (length (expressions g right_indexes)) right_well in
      let there = place + length c in
      let meant = meaning.whole_of right (map value_of (expressions g right_indexes)) (around g) in
      let next' : List Value → List Value → Action Value = λ vs ws. give (value.Number (meaning.compared r vs ws)) in
      let next : List Value → Action Value = λ vs. effect.enter number g.environment >>= λ _. meant >>= next' vs in
      as_ordinal kind _ held (place + length (c ++ (d ++ last))) (meaning.whole_of left (map value_of (expressions g left_indexes)) (around g) >>= next) s
      (ap Some own.1)
      (row_then g (value_on g scalar.Ordinal held) c (d ++ last) place _ held (row_kinds g left)
      (meaning.whole_of left (map value_of (expressions g left_indexes)) (around g)) next s
      ((exact_around g).wholes left (expressions g left_indexes)) stands
      (λ front.
      whole_runs g left left_indexes place base held s front (one.0, left_well, helds.0, begun.0, left_string.1) based (omega arith))
      (λ base2 vs s2 rest based2 fits.
      let long : length vs ≡ n = fit_length (row_kinds g left) vs fits ∙ left_long in
      let high = length-append held (cells_of vs) in
      let wide = length-cells_of vs in
      beside g (AllFit (row_kinds g right)) cells_of (value_on g scalar.Ordinal held) d last there base2 held (cells_of vs) meant (next' vs)
      (entered g number s2)
      ((exact_around g).wholes right (expressions g right_indexes)) rest
      (λ front.
      whole_runs g right right_indexes there base2 (held ++ cells_of vs) (entered g number s2) front
      (three.0, right_well, helds.1, begun.1, right_string.1) based2 (omega arith))
      (λ base3 ws s4 ordering based4 so.
      let also : length ws ≡ length_of right = fit_length (row_kinds g right) ws so ∙ right_long in
      ordered_runs r (row_length n) (there + length d) base3 held vs ws s4 (long ∙ same) (also ∙ sym as_long ∙ same)
      (text_numbers g left vs left_string.0 fits) (text_numbers g right ws right_string.0 so) ordering based4 (omega arith))))

  -- an operator and its right operand
  link_runs : (number : ℕ) (operation : Dyadic) (e : Expr) → ExprRuns g e
      → CombinesAs g (expr_code g.scope e ++ dyadic_code operation) (expr_depth e + 1)
      (record {
        well = dyadic_is_well_formed (outline g) g.number operation && is_well_formed_expr (outline g) g.number e;
        held = link_held (record { number = number; operation = operation; operand = held_by e });
        there = begins_of e g.opened;
        strings = compares_strings types e;
      })
      (meaning.link_step (record { number = number; operation = operation; operand = value_of e }))
  link_runs number operation e runs before kind place base held left s stands good based room has =
      let c = expr_code g.scope e in
      let parts = and_parts (dyadic_is_well_formed (outline g) g.number operation) (is_well_formed_expr (outline g) g.number e) good.0 in
      let own = held_so (is_held (taken_left operation) (Some before) && is_held (taken_right operation) (held_by e)) (given operation) kind good.1 in
      let takes = and_parts (is_held (taken_left operation) (Some before)) (is_held (taken_right operation) (held_by e)) own.0 in
      let left_is : before ≡ taken_left operation = same_Some before (taken_left operation) (is_kind (taken_left operation) (Some before) takes.0) in
      let has_left = subst (λ k. HasKind k left) left_is has in
      let row = value_cell left ∷ [] in
      let one = length_one held (value_cell left) in
      let next : Value → Action Value = λ w. operated_both operation left w in
      subst (λ k. Evaluates g k (on g ((base ++ held) ++ row) place s) held (place + length (c ++ dyadic_code operation))
      (value_of e (around g) >>= next) (entered g number s)) own.1
      (beside g (IsValue g (taken_right operation) (held ++ row)) (value_top g) (value_on g (given operation) held) c (dyadic_code operation) place base held
      row (value_of e (around g)) next (entered g number s) ((exact_around g).values e) stands
      (λ front.
      runs (taken_right operation) place base (held ++ row) (entered g number s) front
      (parts.1, is_kind (taken_right operation) (held_by e) takes.1, good.2, good.3) based (omega arith))
      (λ base2 w t rest based2 so.
      let room2 = so.1 in
      both_runs (place + length c) base2 held t based2 (omega arith) operation left w has_left so.0 rest parts.0))

  -- where something comes of operators, they stand behind a value
  behind_value : (links : List ((l : Link) × LinkRuns g l)) (h : Held) (kind : Scalar)
      → links_held h (map link_held_by (map (λ l. l.0) links)) ≡ Some kind → (before : Scalar) × (h ≡ Some before)
  behind_value [] h kind e = (kind, e)
  behind_value (l ∷ links) h kind e = by h (behind_value links (link_held_by l.0 h) kind e)
    where
      by : (h : Held) → (mid : Scalar) × (link_held_by l.0 h ≡ Some mid) → (before : Scalar) × (h ≡ Some before)
      by None x = absurd (l.1.needs x.0 x.1)
      by (Some before) x = (before, refl)

  -- the operators of a chain, from left to right
  links_run : (links : List ((l : Link) × LinkRuns g l)) (before kind : Scalar) (depth place : ℕ) (base held : List Cell) (left : Value) (s : effect.State)
      → Stands g.target place (joined (map (link_code g.scope) (map (λ l. l.0) links)))
      → all_hold (map (is_well_formed_link (outline g) g.number) (map (λ l. l.0) links)) ≡ true
      → links_held (Some before) (map link_held_by (map (λ l. l.0) links)) ≡ Some kind
      → all_begin (map link_begins_by (map (λ l. l.0) links)) g.opened ≡ true → all_hold (map (link_strings types) (map (λ l. l.0) links)) ≡ true
      → Based g s base
      → g.below + length held + fold max depth (map link_depth (map (λ l. l.0) links)) ≤ g.limit → g.below + length held < g.limit → HasKind before left
      → Evaluates g kind (on g ((base ++ held) ++ value_cell left ∷ []) place s) held
      (place + length (joined (map (link_code g.scope) (map (λ l. l.0) links)))) (in_turn (map link_of (map (λ l. l.0) links)) (around g) left) s
  links_run [] before kind depth place base held left s stands good holds begun strings based deep room has =
      let e : place ≡ place + 0 = omega arith in
      subst (λ p. Evaluates g kind (on g ((base ++ held) ++ value_cell left ∷ []) place s) held p (give left) s) e
      (inr (gives g kind 0 _ base held place left s based (stays_here g.target _) (subst (λ k. HasKind k left) (same_Some before kind holds) has) room))
  links_run (l ∷ links) before kind depth place base held left s stands good holds begun strings based deep room has =
      let c = link_code g.scope l.0 in
      let rest = joined (map (link_code g.scope) (map (λ k. k.0) links)) in
      let d = start_within (max depth (link_depth l.0)) (map link_depth (map (λ k. k.0) links)) in
      let mid = behind_value links (link_held_by l.0 (Some before)) kind holds in
      let well = and_parts _ _ good in
      let there = and_parts _ _ begun in
      let text = and_parts _ _ strings in
      scalar_then g mid.0 (value_on g kind held) c rest place _ held (link_of l.0 (around g) left)
      (in_turn (map link_of (map (λ k. k.0) links)) (around g)) s
      (l.1.exact left) stands
      (λ front. l.1.combines before mid.0 place base held left s front (well.0, mid.1, there.0, text.0) based (omega arith) has)
      (λ base2 w s2 back based2 has2 room2 le.
      links_run links mid.0 kind (max depth (link_depth l.0)) (place + length c) base2 held w s2 back well.1
      (subst (λ h. links_held h (map link_held_by (map (λ k. k.0) links)) ≡ Some kind) mid.1 holds) there.1 text.1 based2 deep room2 has2)

  chain_runs : (first : (e : Expr) × ExprRuns g e) (links : List ((l : Link) × LinkRuns g l))
      → RunsAs g (expr_code g.scope first.0 ++ joined (map (link_code g.scope) (map (λ l. l.0) links)))
      (fold max (expr_depth first.0) (map link_depth (map (λ l. l.0) links)))
      (record {
        well = is_well_formed_expr (outline g) g.number first.0 && all_hold (map (is_well_formed_link (outline g) g.number) (map (λ l. l.0) links));
        held = links_held (held_by first.0) (map link_held_by (map (λ l. l.0) links));
        there = begins_of first.0 g.opened && all_begin (map link_begins_by (map (λ l. l.0) links)) g.opened;
        strings = compares_strings types first.0 && all_hold (map (link_strings types) (map (λ l. l.0) links));
      })
      (λ e. value_of first.0 e >>= λ v. in_turn (map link_of (map (λ l. l.0) links)) e v)
  chain_runs first links kind place base held s stands good based deep =
      let c = expr_code g.scope first.0 in
      let rest = joined (map (link_code g.scope) (map (λ k. k.0) links)) in
      let d = start_within (expr_depth first.0) (map link_depth (map (λ k. k.0) links)) in
      let well = and_parts _ _ good.0 in
      let there = and_parts _ _ good.2 in
      let text = and_parts _ _ good.3 in
      let mid = behind_value links (held_by first.0) kind good.1 in
      scalar_then g mid.0 (value_on g kind held) c rest place _ held (value_of first.0 (around g)) (in_turn (map link_of (map (λ k. k.0) links)) (around g)) s
      ((exact_around g).values first.0) stands
      (λ front. first.1 mid.0 place base held s front (well.0, mid.1, there.0, text.0) based (omega arith))
      (λ base2 w s2 back based2 has2 room2 le.
      links_run links mid.0 kind (expr_depth first.0) (place + length c) base2 held w s2 back well.1
      (subst (λ h. links_held h (map link_held_by (map (λ k. k.0) links)) ≡ Some kind) mid.1 good.1) there.1 text.1 based2 deep room2 has2)

  -- ---- a set constructor

  -- the set as a value
  abbrev as_members : Action ℕ → Action Value
  as_members action = action >>= λ set. give (value.Members set)

  -- what is held of the set so far, and the set that is meant
  abbrev set_top : Bool → ℕ → List Cell
  set_top true set = Set set ∷ []
  set_top false set = []

  -- a set of more members on top is joined to the one before it
  joined_runs : (some : Bool) (place : ℕ) (base held : List Cell) (set more : ℕ) (s : effect.State) → Stands g.target place (union_code some)
      → (some ≡ false → set ≡ members.empty) → Based g s base → g.below + length held + length (set_top some set) < g.limit
      → Comes g.target 0 (on g (((base ++ held) ++ set_top some set) ++ Set more ∷ []) place s)
      (on g ((base ++ held) ++ Set (members.of_two operator.Union set more) ∷ []) (place + length (union_code some)) s)
  joined_runs true place base held set more s stands none based room =
      let full = based.full in
      comes_less g.target 0 1 _ _ (omega arith)
      (acts g instr.Union (((base ++ held) ++ Set set ∷ []) ++ Set more ∷ []) ((base ++ held) ++ Set (members.of_two operator.Union set more) ∷ []) place s _
      stands.0 refl
      (on_sets_is g.frame g.limit g.size (base ++ held) (linked g s base held based) set more (members.of_two operator.Union)
      (omega (arith, length-append base held))))
  joined_runs false place base held set more s stands none based room =
      let e : place ≡ place + 0 = omega arith in
      let same : Set more ≡ Set (members.of_two operator.Union set more) =
      ap Set (sym (joined_empty more) ∙ ap (λ x. members.of_two operator.Union x more) (sym (none refl))) in
      subst (λ p. Comes g.target 0 (on g (((base ++ held) ++ []) ++ Set more ∷ []) place s)
      (on g ((base ++ held) ++ Set (members.of_two operator.Union set more) ∷ []) p s)) e
      (subst (λ cs. Comes g.target 0 (on g (cs ++ Set more ∷ []) place s) (on g ((base ++ held) ++ Set (members.of_two operator.Union set more) ∷ []) place s))
      (sym (append-nil (base ++ held)))
      (subst (λ cell. Comes g.target 0 (on g ((base ++ held) ++ Set more ∷ []) place s) (on g ((base ++ held) ++ cell ∷ []) place s)) same
      (stays_here g.target _)))

  -- the code of designators, above the set of those before them
  abbrev Gathers : List Designator → Indexes g → Type 0
  Gathers designators indexes =
      (some : Bool) (place : ℕ) (base held : List Cell) (set : ℕ) (s : effect.State)
      → Stands g.target place (designators_code some designators (codes g indexes)) → AreOrdinals g (expressions g indexes)
      → length (expressions g indexes) ≡ members_wanted designators → list_all (λ one. nat_lt (member_site one) (sites g)) designators ≡ true
      → (some ≡ false → set ≡ members.empty) → (designators ≡ [] → some ≡ true) → Based g s base
      → g.below + length held + designators_depth (length (set_top some set)) designators (depths g indexes) ≤ g.limit
      → Evaluates g scalar.Set (on g ((base ++ held) ++ set_top some set) place s) held (place + length (designators_code some designators (codes g indexes)))
      (as_members (gathered designators (map value_of (expressions g indexes)) (around g) set)) s

  -- a set on top is joined to the one before it, and then come the others
  gather_rest : (some : Bool) (others : List Designator) (indexes : Indexes g) → Gathers others indexes → (place : ℕ) (base held : List Cell) (set more : ℕ)
      (s : effect.State) → Stands g.target place (union_code some ++ designators_code true others (codes g indexes)) → AreOrdinals g (expressions g indexes)
      → length (expressions g indexes) ≡ members_wanted others → list_all (λ one. nat_lt (member_site one) (sites g)) others ≡ true
      → (some ≡ false → set ≡ members.empty) → Based g s base → g.below + length held + length (set_top some set) < g.limit
      → g.below + length held + designators_depth 1 others (depths g indexes) ≤ g.limit
      → Evaluates g scalar.Set (on g (((base ++ held) ++ set_top some set) ++ Set more ∷ []) place s) held
      (place + length (union_code some ++ designators_code true others (codes g indexes)))
      (as_members (gathered others (map value_of (expressions g indexes)) (around g) (members.of_two operator.Union set more))) s
  gather_rest some others indexes gathers place base held set more s stands ordinals counts within none based room deep =
      let union = union_code some in
      let rest = designators_code true others (codes g indexes) in
      let joined = members.of_two operator.Union set more in
      let e : place + length union + length rest ≡ place + length (union ++ rest) = omega (arith, length-append union rest) in
      subst (λ end. Evaluates g scalar.Set (on g (((base ++ held) ++ set_top some set) ++ Set more ∷ []) place s) held end
      (as_members (gathered others (map value_of (expressions g indexes)) (around g) joined)) s) e
      (runs_from g (value_on g scalar.Set held (place + length union + length rest)) 0 _ _
      (as_members (gathered others (map value_of (expressions g indexes)) (around g) joined)) s
      (joined_runs some place base held set more s (stands_front g.target place union rest stands) none based room)
      (gathers true (place + length union) base held joined s (stands_back g.target place union rest stands) ordinals counts within
      (λ e. absurd (false≢true (sym e))) (λ _. refl) based deep))

  -- a test, behind which there is one set more
  required_same : (holds : Bool) (site more : ℕ) (rest : ℕ → Action ℕ) (t : effect.State)
      → as_members ((require holds site >>= λ _. give more) >>= rest) t ≡ (require holds site >>= λ _. as_members (rest more)) t
  required_same true site more rest t = refl
  required_same false site more rest t = refl

  gather_runs : (designators : List Designator) (indexes : Indexes g) → Gathers designators indexes
  gather_runs [] indexes true place base held set s stands ordinals counts within none some based deep =
      let e : place ≡ place + 0 = omega arith in
      subst (λ q. Evaluates g scalar.Set (on g ((base ++ held) ++ Set set ∷ []) place s) held q (give (value.Members set)) s) e
      (inr (gives g scalar.Set 0 _ base held place (value.Members set) s based (stays_here g.target _) tt (omega arith)))
  gather_runs [] indexes false place base held set s stands ordinals counts within none some based deep = absurd (false≢true (some refl))
  gather_runs (Single site ∷ others) [] some place base held set s stands ordinals counts within none last based deep = absurd (omega arith)
  gather_runs (Range site ∷ others) [] some place base held set s stands ordinals counts within none last based deep = absurd (omega arith)
  gather_runs (Range site ∷ others) (first ∷ []) some place base held set s stands ordinals counts within none last based deep = absurd (omega arith)
  gather_runs (Single site ∷ others) (index ∷ indexes) some place base held set s stands ordinals counts within none last based deep =
      let c = expr_code g.scope index.0 in
      let rest = union_code some ++ designators_code true others (codes g indexes) in
      let behind = single_code site ++ rest in
      let row = set_top some set in
      let parts = first_ordinal g index.0 (expressions g indexes) ordinals in
      let sites_in = and_parts (nat_lt site (sites g)) (list_all (λ one. nat_lt (member_site one) (sites g)) others) within in
      let high = length-append held row in
      let further : ℕ → Action ℕ = λ more. gathered others (map value_of (expressions g indexes)) (around g) more in
      let next : Value → Action ℕ = λ v. with_one site v set >>= further in
      let next' : Value → Action Value = λ v. as_members (next v) in
      runs_same g (value_on g scalar.Set held (place + length (c ++ behind))) _ (as_members (value_of index.0 (around g) >>= next))
      (value_of index.0 (around g) >>= next') s
      (λ t. and_then-and_then (value_of index.0 (around g) t) next (λ set. give (value.Members set)))
      (ordinal_beside g (value_on g scalar.Set held) c behind place base held row (value_of index.0 (around g)) next' s ((exact_around g).values index.0)
      stands
      (λ front. index.1 scalar.Ordinal place base (held ++ row) s front parts.0 based (omega arith))
      (λ base2 n t back based2 fit room.
      let from = place + length c in
      let full = based2.full in
      let below = (base2 ++ held) ++ row in
      let long = length-append base2 held in
      let longer = length-append (base2 ++ held) row in
      let in_frame = linked g t base2 held based2 in
      let good = members.can_be_member n in
      let more = members.of_one n in
      let made = acts g instr.Singleton (below ++ Number n ∷ []) (below ++ Set more ∷ []) (from + 1) t _ back.1.0 refl
      (makes_one g.frame g.limit g.size below (omega (arith, in_frame, longer)) n (omega arith)) in
      let e : from + 1 + 1 + length rest ≡ from + length behind = omega arith in
      runs_same g (value_on g scalar.Set held (from + length behind)) _ (next' (value.Number n))
      (require good site >>= λ _. as_members (further (members.of_two operator.Union set more))) t
      (required_same good site (members.of_two operator.Union set more) further)
      (check_then g (value_on g scalar.Set held (from + length behind)) (instr.CheckRange site (pos 0) (pos 127)) site from (below ++ Number n ∷ []) t
      (as_members (further (members.of_two operator.Union set more))) _ good back.0 refl refl
      (is_in_range g.frame g.limit g.size below (omega (arith, in_frame, longer)) (pos 0) (pos 127) n)
      (ltb-true site (sites g) sites_in.0)
      (λ holds.
      runs_from g (value_on g scalar.Set held (from + length behind)) 1 _ _ (as_members (further (members.of_two operator.Union set more))) t made
      (subst (λ q. Evaluates g scalar.Set (on g (below ++ Set more ∷ []) (from + 1 + 1) t) held q
      (as_members (further (members.of_two operator.Union set more))) t) e
      (gather_rest some others indexes (gather_runs others indexes) (from + 1 + 1) base2 held set more t back.1.1 parts.1 (omega arith) sites_in.1 none
      based2 (omega arith) (omega arith)))))))
  gather_runs (Range site ∷ others) (first ∷ last ∷ indexes) some place base held set s stands ordinals counts within none least based deep =
      let c = expr_code g.scope first.0 in
      let d = expr_code g.scope last.0 in
      let rest = union_code some ++ designators_code true others (codes g indexes) in
      let behind = span_code site ++ rest in
      let row = set_top some set in
      let one = first_ordinal g first.0 (last.0 ∷ expressions g indexes) ordinals in
      let two = first_ordinal g last.0 (expressions g indexes) one.1 in
      let sites_in = and_parts (nat_lt site (sites g)) (list_all (λ one. nat_lt (member_site one) (sites g)) others) within in
      let high = length-append held row in
      let further : ℕ → Action ℕ = λ more. gathered others (map value_of (expressions g indexes)) (around g) more in
      let next2 : Value → Value → Action ℕ = λ v w. with_range site v w set >>= further in
      let next : Value → Action ℕ = λ v. value_of last.0 (around g) >>= next2 v in
      let next' : Value → Action Value = λ v. as_members (next v) in
      let next2' : Value → Value → Action Value = λ v w. as_members (next2 v w) in
      runs_same g (value_on g scalar.Set held (place + length (c ++ (d ++ behind)))) _ (as_members (value_of first.0 (around g) >>= next))
      (value_of first.0 (around g) >>= next') s
      (λ t. and_then-and_then (value_of first.0 (around g) t) next (λ set. give (value.Members set)))
      (ordinal_beside g (value_on g scalar.Set held) c (d ++ behind) place base held row (value_of first.0 (around g)) next' s
      ((exact_around g).values first.0) stands
      (λ front. first.1 scalar.Ordinal place base (held ++ row) s front one.0 based (omega arith))
      (λ base2 a t back based2 fit room.
      let from = place + length c in
      let taller = length_one (held ++ row) (Number a) in
      subst (λ cs. Evaluates g scalar.Set (on g (cs ++ Number a ∷ []) from t) held (from + length (d ++ behind)) (next' (value.Number a)) t)
      (sym (append_assoc base2 held row))
      (runs_same g (value_on g scalar.Set held (from + length (d ++ behind))) _ (next' (value.Number a))
      (value_of last.0 (around g) >>= next2' (value.Number a)) t
      (λ u. and_then-and_then (value_of last.0 (around g) u) (next2 (value.Number a)) (λ set. give (value.Members set)))
      (ordinal_beside g (value_on g scalar.Set held) d behind from base2 (held ++ row) (Number a ∷ []) (value_of last.0 (around g)) (next2' (value.Number a)) t
      ((exact_around g).values last.0) back
      (λ front. last.1 scalar.Ordinal from base2 ((held ++ row) ++ Number a ∷ []) t front two.0 based2 (omega arith))
      (λ base3 b u there based3 fit2 room2.
      let at = from + length d in
      let full = based3.full in
      let below = base3 ++ (held ++ row) in
      let long = length-append base3 (held ++ row) in
      let in_frame = linked g u base3 (held ++ row) based3 in
      let good = members.range_fits a b in
      let more = members.of_range a b in
      let joined = members.of_two operator.Union set more in
      let two_there = (below ++ Number a ∷ []) ++ Number b ∷ [] in
      let made = acts g instr.SetRange two_there (below ++ Set more ∷ []) (at + 1) u _ there.1.0 refl
      (makes_range g.frame g.limit g.size below in_frame a b (omega arith)) in
      let e : at + 1 + 1 + length rest ≡ at + length behind = omega arith in
      runs_same g (value_on g scalar.Set held (at + length behind)) _ (next2' (value.Number a) (value.Number b))
      (require good site >>= λ _. as_members (further joined)) u
      (required_same good site joined further)
      (check_then g (value_on g scalar.Set held (at + length behind)) (instr.CheckMembers site) site at two_there u
      (as_members (further joined)) _ good there.0 refl refl
      (fits_range g.frame g.limit g.size below in_frame a b)
      (ltb-true site (sites g) sites_in.0)
      (λ so.
      runs_from g (value_on g scalar.Set held (at + length behind)) 1 _ _ (as_members (further joined)) u made
      (subst (λ q. Evaluates g scalar.Set (on g (below ++ Set more ∷ []) (at + 1 + 1) u) held q (as_members (further joined)) u) e
      (subst (λ cs. Evaluates g scalar.Set (on g (cs ++ Set more ∷ []) (at + 1 + 1) u) held (at + 1 + 1 + length rest) (as_members (further joined)) u)
      (append_assoc base3 held row)
      (gather_rest some others indexes (gather_runs others indexes) (at + 1 + 1) base3 held set more u there.1.1 two.1 (omega arith) sites_in.1 none
      based3 (omega arith) (omega arith)))))))))))

  -- the code of a set constructor
  set_code_runs : (designators : List Designator) (indexes : Indexes g) (place : ℕ) (base held : List Cell) (s : effect.State)
      → Stands g.target place (set_code designators (codes g indexes)) → AreOrdinals g (expressions g indexes)
      → length (expressions g indexes) ≡ members_wanted designators → list_all (λ one. nat_lt (member_site one) (sites g)) designators ≡ true
      → Based g s base → g.below + length held + designators_depth 0 designators (depths g indexes) ≤ g.limit
      → Evaluates g scalar.Set (on g (base ++ held) place s) held (place + length (set_code designators (codes g indexes)))
      (as_members (gathered designators (map value_of (expressions g indexes)) (around g) members.empty)) s
  set_code_runs [] indexes place base held s stands ordinals counts within based deep =
      let full = based.full in
      set_given (instr.LoadSet 0) place (base ++ held) base held 0 s _ stands.0 refl
      (loads_set g.frame g.limit g.size (base ++ held) 0 (omega (arith, length-append base held))) based (omega arith)
  set_code_runs (one ∷ others) indexes place base held s stands ordinals counts within based deep =
      subst (λ cs. Evaluates g scalar.Set (on g cs place s) held (place + length (set_code (one ∷ others) (codes g indexes)))
      (as_members (gathered (one ∷ others) (map value_of (expressions g indexes)) (around g) members.empty)) s) (append-nil (base ++ held))
      (gather_runs (one ∷ others) indexes false place base held members.empty s stands ordinals counts within (λ _. refl)
      (λ e. absurd (cons_not_nil one others e)) based deep)
    where
      cons_not_nil : {A : Type 0} (x : A) (xs : List A) → x ∷ xs ≡ [] → ⊥
      cons_not_nil x xs e = let no = ap length e in omega (arith, no)

  set_runs : (number : ℕ) (designators : List Designator) (indexes : Indexes g)
      → RunsAs g (set_code designators (codes g indexes)) (designators_depth 0 designators (depths g indexes))
      (record {
        well = all_hold (wells g indexes) && are_designators (outline g) g.number designators (length (wells g indexes));
        held = held_where (are_ordinals (map held_by (expressions g indexes))) scalar.Set;
        there = all_begin (map begins_of (expressions g indexes)) g.opened;
        strings = all_hold (map (compares_strings types) (expressions g indexes));
      })
      (λ env. effect.enter number env.visible >>= λ _. gathered designators (map value_of (expressions g indexes)) env members.empty >>= λ set. give
      (value.Members set))
  set_runs number designators indexes kind place base held s stands good based deep =
      let parts = and_parts (all_hold (wells g indexes)) _ good.0 in
      let own = held_so (are_ordinals (map held_by (expressions g indexes))) scalar.Set kind good.1 in
      let shapes = and_parts (nat_eq (length (wells g indexes)) (members_wanted designators))
      (list_all (λ one. nat_lt (member_site one) (sites g)) designators) parts.1 in
      subst (λ k. Evaluates g k (on g (base ++ held) place s) held (place + length (set_code designators (codes g indexes)))
      (as_members (gathered designators (map value_of (expressions g indexes)) (around g) members.empty)) (entered g number s)) own.1
      (set_code_runs designators indexes place base held (entered g number s) stands (parts.0, own.0, good.2, good.3)
      (sym (as_many_wells g indexes) ∙ eqb-true (length (wells g indexes)) (members_wanted designators) shapes.0) shapes.1 based deep)

  -- ---- actual parameters

  value_is_passed : (v : (e : Expr) × ExprRuns g e) (fits : RangeTest)
      → PassesAs g (expr_code g.scope v.0 ++ (value_check fits ∷ [])) (record { depth = expr_depth v.0; cells = 1 })
      (record {
        well = λ callee position. is_well_formed_expr (outline g) g.number v.0 && passes_value (outline g) g.number fits callee position;
        held = is_held fits.tests (held_by v.0);
        there = begins_of v.0 g.opened;
        strings = compares_strings types v.0;
      })
      (λ env. value_of v.0 env >>= λ w. require (effect.is_in fits.range w) fits.site >>= λ _. give (OfValue w))
  value_is_passed v fits callee position place base held s stands good helds begun strings based deep =
      let c = expr_code g.scope v.0 in
      let check = value_check fits ∷ [] in
      let parts = and_parts (is_well_formed_expr (outline g) g.number v.0) (passes_value (outline g) g.number fits callee position) good in
      let tests = and_parts (is_well_formed_test (outline g) g.number fits) (is_passed_to (outline g) g.number (takes_value (outline g) fits) callee position)
      parts.1 in
      let within = ltb-true fits.site (sites g) (and_parts (nat_lt fits.site (sites g)) (is_whole fits.range.first && is_whole fits.range.last) tests.0).0 in
      let formal = one_there (takes_value (outline g) fits) (formal_of (outline g) callee position) tests.1 in
      let takes = and_parts _ _ formal.2 in
      let its : scalar_of types formal.0.type_id ≡ Some fits.tests = scalar_tested types formal.0.type_id fits.tests fits.range takes.1 in
      let next : Value → Action Argument = λ w. require (effect.is_in fits.range w) fits.site >>= λ _. give (OfValue w) in
      scalar_then g fits.tests (passed_on g held 1 callee position) c check place _ held (value_of v.0 (around g)) next s ((exact_around g).values v.0) stands
      (λ front. v.1 fits.tests place base held s front (parts.0, is_kind fits.tests (held_by v.0) helds, begun, strings) based deep)
      (λ base2 w t rest based2 has room le.
      value_tested g (passed_on g held 1 callee position (place + length c + 1)) fits.tests fits w (base2 ++ held) (place + length c) t (give (OfValue w))
      rest.0 within
      (linked g t base2 held based2) has
      (λ so. inr (passes_it g 0 _ base2 held (value_cell w ∷ []) (place + length c + 1) callee position (OfValue w) formal.0 t based2 formal.1
      (takes.0, is_scalar_of types formal.0.type_id fits.tests its, subst (λ k. HasFit k (Some w)) (sym its) has, refl) (stays_here g.target _))))

  whole_is_passed : (type_id : TypeId) (v : Whole) (indexes : Indexes g)
      → PassesAs g (whole_code g.scope v (codes g indexes)) (record { depth = whole_depth v (depths g indexes); cells = length_of v })
      (record {
        well = λ callee position. all_hold (whole_indexes v (wells g indexes)) && (is_well_formed_whole (outline g) g.number v (length (wells g indexes))
            && passes_whole (outline g) g.number type_id (source_of v) (length_of v) callee position);
        held = is_held_value v (expressions g indexes);
        there = value_begins v (expressions g indexes) g.opened;
        strings = value_compares types v (expressions g indexes);
      })
      (λ env. meaning.whole_of v (map value_of (expressions g indexes)) env >>= λ vs. give (OfRow vs))
  whole_is_passed type_id v indexes callee position place base held s stands good helds begun strings based deep =
      let c = whole_code g.scope v (codes g indexes) in
      let n = length_of v in
      let one = and_parts (all_hold (whole_indexes v (wells g indexes))) _ good in
      let two = and_parts (is_well_formed_whole (outline g) g.number v (length (wells g indexes)))
      (passes_whole (outline g) g.number type_id (source_of v) n callee position) one.1 in
      let well = subst (λ k. is_well_formed_whole (outline g) g.number v k ≡ true) (as_many_wells g indexes) two.0 in
      let copied = and_parts (may_copy (outline g) g.number type_id (source_of v) n) (is_passed_to (outline g) g.number (takes_whole type_id) callee position)
      two.1 in
      let formal = one_there (takes_whole type_id) (formal_of (outline g) callee position) copied.1 in
      let takes = and_parts _ _ formal.2 in
      let its = same_type g type_id formal.0.type_id takes.1 in
      let many : type_cells types formal.0.type_id ≡ n =
      ap (λ (id : TypeId). type_cells types id) (sym its) ∙ copied_cells g type_id (source_of v) n copied.0 in
      then_runs g (row_on g held (row_kinds g v) (place + length c)) (passed_on g held n callee position (place + length c)) _
      (meaning.whole_of v (map value_of (expressions g indexes)) (around g)) (λ vs. give (OfRow vs)) s ((exact_around g).wholes v (expressions g indexes))
      (whole_runs g v indexes place base held s stands (one.0, well, helds, begun, strings) based deep)
      (λ vs t x le.
      let cells = cells_of vs in
      let count : length vs ≡ n = fit_length (row_kinds g v) vs x.2 ∙ row_long g v (length (expressions g indexes)) well in
      let long : length cells ≡ n = length-cells_of vs ∙ count in
      let fit = subst (λ u. AllFit (scalars_of types u) vs) its (copied_fit g type_id v (length (expressions g indexes)) vs well copied.0 x.2) in
      subst (λ k. Passes g (on g ((x.0 ++ held) ++ cells) (place + length c) t) held (place + length c) k callee position (give (OfRow vs)) t) long
      (inr (passes_it g 0 _ x.0 held cells (place + length c) callee position (OfRow vs) formal.0 t x.1 formal.1 (takes.0, count ∙ sym many, fit, refl)
      (stays_here g.target _))))

  reference_is_passed : (type_id : TypeId) (access : Access) (indexes : Indexes g)
      → PassesAs g (address_code g.scope access (codes g indexes)) (record { depth = access_depth access.selectors.items (depths g indexes); cells = 1 })
      (record {
        well = λ callee position. all_hold (wells g indexes)
            && passes_variable (outline g) g.number type_id (origin_of access) access.selectors.items (length (wells g indexes)) callee position;
        held = are_ordinals (map held_by (expressions g indexes));
        there = access_begins access (map begins_of (expressions g indexes)) g.opened;
        strings = all_hold (map (compares_strings types) (expressions g indexes));
      })
      (λ env. meaning.accessed access (map value_of (expressions g indexes)) env >>= λ q. give (OfPlace q))
  reference_is_passed type_id access indexes callee position place base held s stands good helds begins_there strings based deep =
      let c = address_code g.scope access (codes g indexes) in
      let wanted : TypeId → Bool = λ id. is_same id type_id in
      let one = and_parts (all_hold (wells g indexes)) _ good in
      let begun = and_parts (all_begin (map begins_of (expressions g indexes)) g.opened) (is_there g.opened (origin_of access)) begins_there in
      let ordinals : AreOrdinals g (expressions g indexes) = (one.0, helds, begun.0, strings) in
      let two = and_parts (leads_to_type (outline g) g.number type_id (origin_of access) access.selectors.items (length (wells g indexes)))
      (is_passed_to (outline g) g.number (takes_variable type_id) callee position) one.1 in
      let led_to = leads g wanted (origin_of access) access.selectors.items (length (expressions g indexes))
      (subst (λ k. leads_to_type (outline g) g.number type_id (origin_of access) access.selectors.items k ≡ true) (as_many_wells g indexes) two.0) in
      let start = begins g access wanted (length (expressions g indexes)) (codes g indexes) led_to begun.1 in
      let formal = one_there (takes_variable type_id) (formal_of (outline g) callee position) two.1 in
      let takes = and_parts _ _ formal.2 in
      let its : led_to.last ≡ formal.0.type_id = same_type g led_to.last type_id led_to.is_wanted ∙ same_type g type_id formal.0.type_id takes.1 in
      let found = place_found g access indexes led_to.last start ordinals led_to.counts in
      let next : Option Place → Action Argument = λ q. give (OfPlace q) in
      subst (λ action. Passes g (on g (base ++ held) place s) held (place + length c) 1 callee position (action >>= next) s)
      (sym (start.meant (map value_of (expressions g indexes))))
      (then_runs g (address_on g held led_to.last (place + length c)) (passed_on g held 1 callee position (place + length c)) _ found next
      (entered g access.number s) (exact_found g access indexes led_to.last start ordinals led_to.counts)
      (address_runs g access indexes led_to.last start ordinals led_to.counts place base held (entered g access.number s) stands based deep)
      (λ q u x le.
      at_address g (passed_on g held 1 callee position (place + length c)) held (place + length c) led_to.last next
      (λ base2 d p t based2 part room.
      inr (passes_it g 0 _ base2 held (Number (pos d) ∷ []) (place + length c) callee position (OfPlace (Some p)) formal.0 t based2 formal.1
      (d, takes.0, subst (λ u. PartAt g p u d) its part, refl) (stays_here g.target _))) q u x))

  -- ---- a call

  abbrev bare : List ((p : Passed) × PassedRuns g p) → List Passed
  bare actuals = map (λ p. p.0) actuals

  abbrev actuals_code : List ((p : Passed) × PassedRuns g p) → List Instr
  actuals_code actuals = joined (map (passed_code g.scope) (bare actuals))

  actuals_pass : (actuals : List ((p : Passed) × PassedRuns g p)) (callee position below height place : ℕ) (base held : List Cell) (s : effect.State)
      → length held ≡ below + height → Stands g.target place (actuals_code actuals)
      → all_hold (placed_for callee position (map (is_well_formed_passed (outline g) g.number) (bare actuals))) ≡ true
      → all_hold (map is_held_passed (bare actuals)) ≡ true → all_begin (map passed_begin (bare actuals)) g.opened ≡ true
      → all_hold (map (passes_strings types) (bare actuals)) ≡ true → Based g s base
      → g.below + below + actuals_depth height (map passed_depth (bare actuals)) ≤ g.limit
      → AllPass g (on g (base ++ held) place s) held (place + length (actuals_code actuals)) callee position (length actuals)
      (all_passed (map passing_of (bare actuals)) (around g)) s
  actuals_pass [] callee position below height place base held s high stands good helds begun strings based deep =
      let here : place ≡ place + 0 = omega arith in
      let comes = subst (λ q. Comes g.target 0 (on g (base ++ held) place s) (on g ((base ++ held) ++ []) q s)) here
      (subst (λ cells. Comes g.target 0 (on g (base ++ held) place s) (on g cells place s)) (sym (append-nil (base ++ held)))
      (stays_here g.target _)) in
      inr ((base, based, [], refl, omega (arith, high), refl), comes_less g.target (s.turns - s.turns + 0) 0 _ _ (omega arith) comes, omega arith)
  actuals_pass (one ∷ actuals) callee position below height place base held s high stands good helds begun strings based deep =
      let helds' = and_parts _ _ helds in
      let begun' = and_parts _ _ begun in
      let strings' = and_parts _ _ strings in
      let c = passed_code g.scope one.0 in
      let rest = actuals_code actuals in
      let d = passed_depth one.0 in
      let parts = and_parts (is_well_formed_passed (outline g) g.number one.0 callee position)
      (all_hold (placed_for callee (suc position) (map (is_well_formed_passed (outline g) g.number) (bare actuals)))) good in
      let others = all_passed (map passing_of (bare actuals)) (around g) in
      let total = suc (length actuals) in
      let next : Argument → Action (List Argument) = λ argument. others >>= λ arguments. give (argument ∷ arguments) in
      then_code g (passed_on g held d.cells callee position) (all_on g held callee position total) c rest place _ (passing_of one.0 (around g)) next s
      ((exact_around g).actuals one.0) stands
      (λ front. one.1 callee position place base held s front parts.0 helds'.0 begun'.0 strings'.0 based (omega (arith, high)))
      (λ argument t x back le.
      let cells = x.2 in
      let long = x.6 in
      let above = held ++ cells in
      let taller = length-append held cells in
      let end = place + length c + length rest in
      subst (λ stack. AllPass g (on g stack (place + length c) t) held end callee position total (next argument) t) (sym (append_assoc x.0 held cells))
      (then_runs g (all_on g above callee (suc position) (length actuals) end) (all_on g held callee position total end) _ others
      (λ arguments. give (argument ∷ arguments)) t (exact_passed (around g) (exact_around g) (bare actuals))
      (actuals_pass actuals callee (suc position) below (height + d.cells) (place + length c) x.0 above t (omega (arith, high, taller, long)) back parts.1
      helds'.1 begun'.1 strings'.1 x.1
      (omega arith))
      (λ arguments u y le.
      let room = y.4 in
      inr (
        (y.0, y.1, cells ++ y.2, (x.3, x.4, cells, y.2, refl, x.5, y.3), omega (arith, room, taller, length-append cells y.2), ap suc y.5),
        subst (λ stack. Comes g.target (u.turns - u.turns + 0) (on g ((y.0 ++ above) ++ y.2) end u) (on g stack end u))
            (ap (λ l. l ++ y.2) (sym (append_assoc y.0 held cells)) ∙ append_assoc (y.0 ++ held) cells y.2)
            (comes_less g.target (u.turns - u.turns + 0) 0 _ _ (omega arith) (stays_here g.target _)),
        omega arith,
      ))))

  -- the mark of a new frame, whose static link leads to this frame
  marked_runs : (level outer place : ℕ) (base held : List Cell) (s : effect.State) → Leads g.fixed level g.frame outer → Here g place (instr.MarkStack level)
      → Based g s base → g.below + length held + 4 ≤ g.limit
      → Comes g.target 1 (on g (base ++ held) place s) (on g (base ++ (held ++ links_of g outer)) (place + 1) s)
  marked_runs level outer place base held s l here based room =
      let cells = base ++ held in
      let full = based.full in
      let long = length-append base held in
      subst (λ stack. Comes g.target 1 (on g cells place s) (on g stack (place + 1) s)) (append_assoc base held (links_of g outer))
      (acts g (instr.MarkStack level) cells (cells ++ links_of g outer) place s _ here refl
      (marks g.frame g.limit g.size cells level outer (omega arith) (frame_found g level outer base held s based l)))

  module _ (known : CallsAt g) where
    call_returns : (is_function : Bool) (call : Call) (actuals : List ((p : Passed) × PassedRuns g p)) (place : ℕ) (base held : List Cell) (s : effect.State)
        → Stands g.target place (call_code g.scope call (map (passed_code g.scope) (bare actuals)))
        → is_well_formed_call (outline g) g.number is_function call (map (is_well_formed_passed (outline g) g.number) (bare actuals)) ≡ true
        → all_hold (map is_held_passed (bare actuals)) ≡ true → all_begin (map passed_begin (bare actuals)) g.opened ≡ true
        → all_hold (map (passes_strings types) (bare actuals)) ≡ true → Based g s base
        → g.below + length held + call_depth (map passed_depth (bare actuals)) ≤ g.limit
        → Returns g (on g (base ++ held) place s) held (place + length (call_code g.scope call (map (passed_code g.scope) (bare actuals)))) is_function
        (meaning.call_of call (map passing_of (bare actuals)) (around g)) s
    call_returns is_function call actuals place base held s stands good helds begun strings based deep =
        let routine = called_routine g.scope call.block in
        let level = links_to g.scope routine.level in
        let c = actuals_code actuals in
        let jump = instr.CallProcedure (row_length routine.cells) routine.place ∷ [] in
        let wf = map (is_well_formed_passed (outline g) g.number) (bare actuals) in
        let parts = and_parts (may_call (outline g) g.number is_function call.block (length wf)) (all_hold (placed_for call.block 0 wf)) good in
        let callee = one_there (is_callable (outline g) g.number is_function (length wf)) (slice_get (outline g).headings call.block) parts.0 in
        let block = heading_there (g.tree.blocks.items) call.block callee.0 callee.1 in
        let up : links_to g.scope 0 ≡ level + (links_to g.scope 0 - level) = omega arith in
        let way = leads_split g.fixed level (links_to g.scope 0 - level) g.frame g.bottom (subst (λ n. Leads g.fixed n g.frame g.bottom) up g.chain) in
        let outer = way.0 in
        let links = links_of g outer in
        let above = held ++ links in
        let taller : length above ≡ length held + 4 = length-append held links in
        let s1 = entered g call.number s in
        let more = actuals_deep 4 (map passed_depth (bare actuals)) in
        let marked = marked_runs level outer place base held s way.1 stands.0 based (omega arith) in
        let next : List Argument → Action Value = λ arguments. calls_of g.tree g.depth call.block arguments g.environment in
        let many : length wf ≡ length actuals = length-map (bare actuals) (is_well_formed_passed (outline g) g.number) ∙ length-map actuals (λ p. p.0) in
        instr_then g (return_on g held is_function) 1 (instr.MarkStack level) (c ++ jump) place _ _
        (all_passed (map passing_of (bare actuals)) (around g) >>= next) s1 marked
        (then_code g (all_on g above call.block 0 (length actuals)) (return_on g held is_function) c jump (place + 1) _
        (all_passed (map passing_of (bare actuals)) (around g)) next s1 (exact_passed (around g) (exact_around g) (bare actuals)) stands.1
        (λ front. actuals_pass actuals call.block 0 (length held) 4 (place + 1) base above s1 taller front parts.1 helds begun strings based deep)
        (λ arguments t x jumping le.
        let room = x.4 in
        known is_function call.block block.0 outer (place + 1 + length c) x.0 held x.2 arguments t block.1
        (subst (λ n. is_callable (outline g) g.number is_function n (heading_of block.0) ≡ true) (many ∙ sym x.5)
        (ap (is_callable (outline g) g.number is_function (length wf)) block.2 ∙ callee.2))
        way.1 jumping.0 jumping.2 x.1 x.3 (omega (arith, room, taller))))

    call_evaluates : (call : Call) (actuals : List ((p : Passed) × PassedRuns g p))
        → RunsAs g (call_code g.scope call (map (passed_code g.scope) (bare actuals))) (call_depth (map passed_depth (bare actuals)))
        (record {
          well = is_well_formed_call (outline g) g.number true call (map (is_well_formed_passed (outline g) g.number) (bare actuals));
          held = held_where (all_hold (map is_held_passed (bare actuals))) scalar.Ordinal;
          there = all_begin (map passed_begin (bare actuals)) g.opened;
          strings = all_hold (map (passes_strings types) (bare actuals));
        })
        (meaning.call_of call (map passing_of (bare actuals)))
    call_evaluates call actuals kind place base held s stands good based deep =
        let more = actuals_deep 4 (map passed_depth (bare actuals)) in
        let own = held_so (all_hold (map is_held_passed (bare actuals))) scalar.Ordinal kind good.1 in
        let end = place + length (call_code g.scope call (map (passed_code g.scope) (bare actuals))) in
        as_ordinal kind _ held end (meaning.call_of call (map passing_of (bare actuals)) (around g)) s (ap Some own.1)
        (function_evaluates g _ held end (meaning.call_of call (map passing_of (bare actuals)) (around g)) s (omega arith)
        (call_returns true call actuals place base held s stands good.0 own.0 good.2 good.3 based deep))

  -- what is known of a width
  abbrev pub width_shape : Option Width → Shape Bool Bool
  width_shape width = record {
    well = is_well_formed_width (outline g) g.number width;
    held = is_held_width width;
    there = width_begins width g.opened;
    strings = width_compares types width;
  }

  -- ---- all forms

  abbrev is_step : Expr-F Bool (ℕ → ℕ → Bool) Bool → Bool
  is_step = expr_is_well_formed (outline g) g.number

  abbrev is_passed_step : Passed-F Bool (ℕ → ℕ → Bool) Bool → ℕ → ℕ → Bool
  is_passed_step = passed_is_well_formed (outline g) g.number

  abbrev is_link_step : Link-F Bool (ℕ → ℕ → Bool) Bool → Bool
  is_link_step = link_is_well_formed (outline g) g.number

  abbrev Code : Type 0
  Code = List Instr

  abbrev Test : Type 0
  Test = ℕ → ℕ → Bool

  -- one layer of an expression, and of an actual parameter
  abbrev expr_layer_shape : Expr-F Expr Passed Link → Shape Bool Held
  expr_layer_shape x = record {
    well = is_step (map-Expr Expr Passed Link Bool Test Bool (is_well_formed_expr (outline g) g.number) (is_well_formed_passed (outline g) g.number)
        (is_well_formed_link (outline g) g.number) x);
    held = expression_held (map-Expr Expr Passed Link Held Bool (Held → Held) held_by is_held_passed link_held_by x);
    there = expression_begins (map-Expr Expr Passed Link Begin Begin Begin begins_of passed_begin link_begins_by x) g.opened;
    strings = expression_compares types
        (map-Expr Expr Passed Link Bool Bool Bool (compares_strings types) (passes_strings types) (link_strings types) x);
  }

  abbrev passed_layer_shape : Passed-F Expr Passed Link → Shape Test Bool
  passed_layer_shape x = record {
    well = is_passed_step (map-Passed Expr Passed Link Bool Test Bool (is_well_formed_expr (outline g) g.number) (is_well_formed_passed (outline g) g.number)
        (is_well_formed_link (outline g) g.number) x);
    held = passed_held (map-Passed Expr Passed Link Held Bool (Held → Held) held_by is_held_passed link_held_by x);
    there = passed_begins (map-Passed Expr Passed Link Begin Begin Begin begins_of passed_begin link_begins_by x) g.opened;
    strings = passed_compares types
        (map-Passed Expr Passed Link Bool Bool Bool (compares_strings types) (passes_strings types) (link_strings types) x);
  }

  rolled_expr : (x : Expr-F Expr Passed Link)
      → RunsAs g (expr_step g.scope (map-Expr Expr Passed Link Code Code Code (expr_code g.scope) (passed_code g.scope) (link_code g.scope) x))
      (expr_depth_step (map-Expr Expr Passed Link ℕ PassedDepth ℕ expr_depth passed_depth link_depth x)) (expr_layer_shape x)
      (value_step (map-Expr Expr Passed Link Evaluation Passing Combination value_of passing_of link_of x)) → ExprRuns g (roll-Expr x)
  rolled_expr x =
      same_four (RunsAs g) (fold-roll-Expr Code Code Code (expr_step g.scope) (passed_code_step g.scope) link_step x)
      (fold-roll-Expr ℕ PassedDepth ℕ expr_depth_step passed_depth_step link_depth_step x)
      (same_shape (fold-roll-Expr Bool Test Bool is_step is_passed_step is_link_step x)
      (fold-roll-Expr Held Bool (Held → Held) expression_held passed_held link_held x)
      (ap (λ (f : Begin). f g.opened) (fold-roll-Expr Begin Begin Begin expression_begins passed_begins link_begins x))
      (fold-roll-Expr Bool Bool Bool (expression_compares types) (passed_compares types) (link_compares types) x))
      (fold-roll-Expr Evaluation Passing Combination value_step meaning.passed_step meaning.link_step x)

  rolled_passed : (x : Passed-F Expr Passed Link)
      → PassesAs g (passed_code_step g.scope (map-Passed Expr Passed Link Code Code Code (expr_code g.scope) (passed_code g.scope) (link_code g.scope) x))
      (passed_depth_step (map-Passed Expr Passed Link ℕ PassedDepth ℕ expr_depth passed_depth link_depth x)) (passed_layer_shape x)
      (meaning.passed_step (map-Passed Expr Passed Link Evaluation Passing Combination value_of passing_of link_of x)) → PassedRuns g (roll-Passed x)
  rolled_passed x =
      same_four (PassesAs g) (fold-roll-Passed Code Code Code (expr_step g.scope) (passed_code_step g.scope) link_step x)
      (fold-roll-Passed ℕ PassedDepth ℕ expr_depth_step passed_depth_step link_depth_step x)
      (same_shape (fold-roll-Passed Bool Test Bool is_step is_passed_step is_link_step x)
      (fold-roll-Passed Held Bool (Held → Held) expression_held passed_held link_held x)
      (ap (λ (f : Begin). f g.opened) (fold-roll-Passed Begin Begin Begin expression_begins passed_begins link_begins x))
      (fold-roll-Passed Bool Bool Bool (expression_compares types) (passed_compares types) (link_compares types) x))
      (fold-roll-Passed Evaluation Passing Combination value_step meaning.passed_step meaning.link_step x)

  abbrev Told : Type 0
  Told = (e : Expr) × ExprRuns g e

  abbrev ToldPassed : Type 0
  ToldPassed = (p : Passed) × PassedRuns g p

  abbrev ToldLink : Type 0
  ToldLink = (l : Link) × LinkRuns g l

  abbrev plain : Expr-F Told ToldPassed ToldLink → Expr-F Expr Passed Link
  plain = map-Expr Told ToldPassed ToldLink Expr Passed Link (λ e. e.0) (λ p. p.0) (λ l. l.0)

  abbrev plain_passed : Passed-F Told ToldPassed ToldLink → Passed-F Expr Passed Link
  plain_passed = map-Passed Told ToldPassed ToldLink Expr Passed Link (λ e. e.0) (λ p. p.0) (λ l. l.0)

  abbrev plain_link : Link-F Told ToldPassed ToldLink → Link-F Expr Passed Link
  plain_link = map-Link Told ToldPassed ToldLink Expr Passed Link (λ e. e.0) (λ p. p.0) (λ l. l.0)

  module _ (known : CallsAt g) where
    expr_layer : (y : Expr-F Told ToldPassed ToldLink) → ExprRuns g (roll-Expr (plain y))
    expr_layer (Constant number n) = rolled_expr (Constant number n) (constant_runs number n)
    expr_layer (Input number asks) = rolled_expr (Input number asks) (input_runs number asks)
    expr_layer (Variable access indexes holding defined) =
        rolled_expr (plain (Variable access indexes holding defined)) (variable_runs access indexes.items holding defined)
    expr_layer (SetOf number designators members) =
        rolled_expr (plain (SetOf number designators members)) (set_runs number designators.items members.items)
    expr_layer (MonadicOf number operation operand) =
        rolled_expr (MonadicOf number operation (record { ptr = operand.ptr; alloc = operand.alloc; value = operand.value.0 }))
        (monadic_runs number operation operand.value.0 operand.value.1)
    expr_layer (Chain first rest) = rolled_expr (plain (Chain first rest)) (chain_runs first.value rest.items)
    expr_layer (Compare number r left left_indexes right right_indexes) =
        rolled_expr (plain (Compare number r left left_indexes right right_indexes))
        (compare_runs number r left left_indexes.items right right_indexes.items)
    expr_layer (CallOf call actuals) = rolled_expr (plain (CallOf call actuals)) (call_evaluates known call actuals.items)

    passed_layer : (y : Passed-F Told ToldPassed ToldLink) → PassedRuns g (roll-Passed (plain_passed y))
    passed_layer (PassedValue v fits) = rolled_passed (PassedValue v.0 fits) (value_is_passed v fits)
    passed_layer (PassedWhole type_id v indexes) =
        rolled_passed (plain_passed (PassedWhole type_id v indexes)) (whole_is_passed type_id v indexes.items)
    passed_layer (Reference type_id access indexes) =
        rolled_passed (plain_passed (Reference type_id access indexes)) (reference_is_passed type_id access indexes.items)

    link_layer : (y : Link-F Told ToldPassed ToldLink) → LinkRuns g (roll-Link (plain_link y))
    link_layer y =
        let x = plain_link y in
        let meant = fold-roll-Link Evaluation Passing Combination value_step meaning.passed_step meaning.link_step x in
        let held = fold-roll-Link Held Bool (Held → Held) expression_held passed_held link_held x in
        let exact = (exact_around g).values y.operand.0 in
        record {
          combines = same_four (CombinesAs g) (fold-roll-Link Code Code Code (expr_step g.scope) (passed_code_step g.scope) link_step x)
              (fold-roll-Link ℕ PassedDepth ℕ expr_depth_step passed_depth_step link_depth_step x)
              (same_shape (fold-roll-Link Bool Test Bool is_step is_passed_step is_link_step x) held
              (ap (λ (f : Begin). f g.opened) (fold-roll-Link Begin Begin Begin expression_begins passed_begins link_begins x))
              (fold-roll-Link Bool Bool Bool (expression_compares types) (passed_compares types) (link_compares types) x)) meant
              (link_runs y.number y.operation y.operand.0 y.operand.1);
          exact = λ v. subst (λ (f : Combination). UsesTurnsExactly (f (around g) v)) (sym meant)
              (exact_link (around g) (exact_around g) y.number y.operation (value_of y.operand.0) v exact);
          needs = λ kind e. none-some kind (sym (ap (λ (f : Held → Held). f None) held) ∙ e);
        }

    -- the code of an expression leaves its value on top, or stops as the expression does
    pub expr_runs : (e : Expr) → ExprRuns g e
    expr_runs =
        ind-Expr (ExprRuns g) (PassedRuns g) (LinkRuns g) (λ x y is. subst (λ z. ExprRuns g (roll-Expr z)) is (expr_layer y))
        (λ x y is. subst (λ z. PassedRuns g (roll-Passed z)) is (passed_layer y)) (λ x y is. subst (λ z. LinkRuns g (roll-Link z)) is (link_layer y))

    -- that of an actual parameter leaves what is passed
    pub passed_runs : (p : Passed) → PassedRuns g p
    passed_runs =
        ind-Passed (ExprRuns g) (PassedRuns g) (LinkRuns g) (λ x y is. subst (λ z. ExprRuns g (roll-Expr z)) is (expr_layer y))
        (λ x y is. subst (λ z. PassedRuns g (roll-Passed z)) is (passed_layer y)) (λ x y is. subst (λ z. LinkRuns g (roll-Link z)) is (link_layer y))

    abbrev told_actuals : List Passed → List ToldPassed
    told_actuals actuals = map (λ p. (p, passed_runs p)) actuals

    bare_told : (actuals : List Passed) → bare (told_actuals actuals) ≡ actuals
    bare_told [] = refl
    bare_told (p ∷ actuals) = ap (λ rest. p ∷ rest) (bare_told actuals)

    -- that of a call leaves the value of a function
    pub call_runs : (is_function : Bool) (call : Call) (actuals : List Passed) (place : ℕ) (base held : List Cell) (s : effect.State)
        → Stands g.target place (call_code g.scope call (map (passed_code g.scope) actuals))
        → is_well_formed_call (outline g) g.number is_function call (map (is_well_formed_passed (outline g) g.number) actuals) ≡ true
        → all_hold (map is_held_passed actuals) ≡ true → all_begin (map passed_begin actuals) g.opened ≡ true
        → all_hold (map (passes_strings types) actuals) ≡ true → Based g s base
        → g.below + length held + call_depth (map passed_depth actuals) ≤ g.limit
        → Returns g (on g (base ++ held) place s) held (place + length (call_code g.scope call (map (passed_code g.scope) actuals))) is_function
        (meaning.call_of call (map passing_of actuals) (around g)) s
    call_runs is_function call actuals =
        subst (λ all. (place : ℕ) (base held : List Cell) (s : effect.State) → Stands g.target place (call_code g.scope call (map (passed_code g.scope) all))
        → is_well_formed_call (outline g) g.number is_function call (map (is_well_formed_passed (outline g) g.number) all) ≡ true
        → all_hold (map is_held_passed all) ≡ true → all_begin (map passed_begin all) g.opened ≡ true
        → all_hold (map (passes_strings types) all) ≡ true → Based g s base
        → g.below + length held + call_depth (map passed_depth all) ≤ g.limit
        → Returns g (on g (base ++ held) place s) held (place + length (call_code g.scope call (map (passed_code g.scope) all))) is_function
        (meaning.call_of call (map passing_of all) (around g)) s) (bare_told actuals) (call_returns known is_function call (told_actuals actuals))

    -- an ordinal, and the code behind it
    pub expr_then : {A : Type 0} (aim : ℕ → Aim A) (e : Expr) (c : List Instr) (place : ℕ) (base held : List Cell) (next : Value → Action A)
        (s : effect.State) → Stands g.target place (expr_code g.scope e ++ c) → GivesKind scalar.Ordinal (shape_of g e) → Based g s base
        → g.below + length held + expr_depth e ≤ g.limit
        → ((base2 : List Cell) (n : ℤ) (t : effect.State) → Stands g.target (place + length (expr_code g.scope e)) c → Based g t base2
        → Fits n → g.below + length held < g.limit → t.turns ≤ s.turns
        → Runs g (aim (place + length (expr_code g.scope e) + length c))
        (on g ((base2 ++ held) ++ Number n ∷ []) (place + length (expr_code g.scope e)) t) (next (value.Number n)) t)
        → Runs g (aim (place + length (expr_code g.scope e ++ c))) (on g (base ++ held) place s) (value_of e (around g) >>= next) s
    expr_then aim e c place base held next s stands good based room h =
        value_then g aim (expr_code g.scope e) c place _ held (value_of e (around g)) next s ((exact_around g).values e) stands
        (λ front. expr_runs e scalar.Ordinal place base held s front good based room) h

    -- the code of a width leaves it on top, or stops as the width does; a value has this one where none is given
    pub width_runs : (width : Option Width) (v : Written) (default : ℤ) → default_width v ≡ instr.LoadConstant default → Fits default
        → (place : ℕ) (base held : List Cell) (s : effect.State) → Stands g.target place (width_code g.scope width v) → Good (width_shape width)
        → Based g s base → g.below + length held + width_depth width ≤ g.limit
        → Evaluates g scalar.Ordinal (on g (base ++ held) place s) held (place + length (width_code g.scope width v))
        (as_value (width_of width default (around g))) s
    width_runs None v default is fit place base held s stands good based room =
        number_runs default place base held s (subst (λ i. Stands g.target place (i ∷ [])) is stands).0 fit based room
    width_runs (Some width) v default is fit place base held s stands good based room =
        let c = expr_code g.scope width.value in
        let check = check_positive width.site in
        let parts = and_parts (nat_lt width.site (sites g)) (is_well_formed_expr (outline g) g.number width.value) good.0 in
        let next : Value → Action ℤ = λ w. require (effect.is_positive (number_of w)) width.site >>= λ _. give (number_of w) in
        let width_then : Value → Action Value = λ w. as_value (next w) in
        runs_same g (value_on g scalar.Ordinal held (place + length (c ++ check ∷ []))) _ (as_value (value_of width.value (around g) >>= next))
        (value_of width.value (around g) >>= width_then) s
        (λ t. and_then-and_then (value_of width.value (around g) t) next (λ n. give (value.Number n)))
        (expr_then (value_on g scalar.Ordinal held) width.value (check ∷ []) place base held width_then s stands
        (parts.1, is_kind scalar.Ordinal (held_by width.value) good.1, good.2, good.3) based room
        (λ base2 n s2 rest based2 fit room2 le.
        checked_then check width.site (place + length c) (place + length c + 1) ((base2 ++ held) ++ Number n ∷ []) held s2 (give n) _ (int_le (pos 1) n)
        rest.0 refl refl
        (is_in_range g.frame g.limit g.size (base2 ++ held) (linked g s2 base2 held based2) (pos 1) (pos 2147483647) n
        ∙ ap Ok (same_positive n fit)) (ltb-true width.site (sites g) parts.0)
        (λ _. left_as_it_is (place + length c + 1) base2 held n s2 based2 room2 fit)))
