-- The code of a statement keeps the program's store and the cells of its frame alike, or stops as the statement does.
use Rattle.code_generator.proofs.Words.{◌≡◌, ℕ, suc, ◌+◌, ◌<◌, ◌≤◌, max, Option, List, [], ◌∷◌, ◌++◌, length, map, Some, None, Ok, inr, refl, sym, ap, ◌∙◌}
use Rattle.code_generator.proofs.Words.{subst, arith, length-append, append_assoc, append-nil, Bool, true, false, slice_set, ℤ, pos, ◌-ℤ◌, int_le, not, nat_lt}
use Rattle.code_generator.proofs.Words.{◌&&◌, if◌then◌else◌, ltb-true, and_parts, Instr, RangeTest, Expr, Value, UsesTurnsExactly, Action, ◌>>=◌, number_of}
use Rattle.code_generator.proofs.Words.{require, give, value_of, deed_of, Cell, Undefined, Number, Attempt, Scope, count, row_length, expr_code}
use Rattle.code_generator.proofs.Words.{expr_depth, all_hold, is_well_formed_expr, start_within}
use Rattle.std.specs.Prelude.{negsuc, ◌+ℤ◌, ◌-◌, replicate, take, codes, fold}
use Rattle.std.specs.Global.{Vec}
use Rattle.std.specs.List.{flat_map, list_all}
use Rattle.std.specs.Ordering.{int_eq}
use Rattle.check_remover.specs.Strip.{stays}
use Rattle.std.specs.Fmt.{signed_decimal}
use Rattle.pcode_assembler.specs.declared.instr.Instr.TheVariants as instr
use Rattle.typed_tree.specs.declared.tree.ProcedureCall.{ProcedureCall}
use Rattle.typed_tree.specs.declared.tree.Writing.{Writing}
use Rattle.typed_tree.specs.declared.tree.LoopHead.{LoopHead}
use Rattle.typed_tree.specs.declared.tree.ForHead.{ForHead}
use Rattle.typed_tree.specs.declared.tree.CaseHead.{CaseHead}
use Rattle.typed_tree.specs.declared.tree.Direction.{Direction}
use Rattle.typed_tree.specs.declared.tree.Direction.TheVariants as direction
use Rattle.typed_tree.specs.declared.tree.Representation.{Representation}
use Rattle.typed_tree.specs.declared.tree.Representation.TheVariants as representation
use Rattle.typed_tree.specs.declared.tree.Reading.{Reading}
use Rattle.typed_tree.specs.declared.tree.ReadVariable.{ReadVariable}
use Rattle.typed_tree.specs.declared.tree.Width.{Width}
use Rattle.typed_tree.specs.declared.tree.WriteParameter.{WriteParameter}
use Rattle.typed_tree.specs.declared.tree.Written.{Written}
use Rattle.typed_tree.specs.declared.tree.Written.TheVariants.{Ordinal, String}
use Rattle.typed_tree.specs.declared.tree.Whole.{Whole}
use Rattle.typed_tree.specs.declared.tree.Stmt.{Stmt}
use Rattle.typed_tree.specs.declared.tree.Stmt.TheOpen.{Stmt-F}
use Rattle.typed_tree.specs.declared.tree.Stmt.TheOpen.Stmt-F.{Empty, Assign, Copy, Write, Compound, If, While, Repeat, For, Case, Call as Calling, With, Read}
use Rattle.typed_tree.specs.declared.tree.Stmt.TheViews.{roll-Stmt}
use Rattle.typed_tree.specs.declared.tree.Stmt.TheFolds.{fold-Stmt, map-Stmt, fold-roll-Stmt, ind-Stmt}
use Rattle.meaning.specs.declared.outcome.Ending.TheVariants as ending
use Rattle.meaning.specs.declared.value.Value.TheVariants as value
use Rattle.meaning.specs.Store.{kept, forgotten}
use Rattle.meaning.specs.Counting.{has_values, next_value, value_behind, values_before}
use Rattle.meaning.specs.Effect as effect
use Rattle.meaning.specs.Effect.{Round}
use Rattle.meaning.specs.Meaning.{Execution, is_so, turn_if, while_round, repeat_round, for_round, for_rounds, for_between, is_among, arm_of, whole_of}
use Rattle.meaning.specs.Meaning.{line_passed, read_of}
use Rattle.meaning.specs.Meaning.{alternative_of, width_of, effect_of, effect_step, parameter_of, all_of, line_ended, call_of, passing_of}
use Rattle.meaning.specs.Meaning.{default_width as default_width_of}
use Rattle.stack_machine.specs.Deeds.{Writes}
use Rattle.machine_arithmetic.specs.declared.arithmetic.Dyadic.TheVariants as dyadic
use Rattle.stack_machine.specs.Frames as frames
use Rattle.stack_machine.specs.Machine as machine
use Rattle.stack_machine.specs.Machine.{with_text}
use Rattle.stack_machine.specs.Texts as texts
use Rattle.code_scheme.specs.Scopes.{held_offset, holding}
use Rattle.code_scheme.specs.Code.{Placed, placed, if_code, if_else_code, while_code, repeat_code, for_code, for_entry, for_begin, for_next, for_end}
use Rattle.code_scheme.specs.Code.{order_instr, next_instr, row_code, arms_code, case_code, width_code, write_instr, parameter_code, line_end_code, call_code}
use Rattle.code_scheme.specs.Code.{line_passed_code, read_code, variable_read_code}
use Rattle.code_scheme.specs.Code.{passed_code, write_code, stmt_code, stmt_step, default_width, ordinal_instr, ordinal_width, whole_code}
use Rattle.code_scheme.specs.Depth.{call_depth, greatest, passed_depth, stmt_depth, stmt_depth_step, arms_depth, parameter_depth, width_depth, whole_depth}
use Rattle.code_scheme.specs.Depth.{read_depth}
use Rattle.typed_tree.specs.Accesses.{AtVariable}
use Rattle.typed_tree.specs.Kinds.{is_held_parameter, is_held_passed, is_held_read, is_held_stmt, is_held_value, is_ordinal_expr, statement_held}
use Rattle.typed_tree.specs.Records.{Begin, all_begin, begins as all_begins, begins_in, parameter_begins, passed_begin, statement_begins, value_begins}
use Rattle.typed_tree.specs.Records.{read_begins}
use Rattle.code_generator.proofs.Texts.{compares_in, compares_strings, is_text, parameter_compares, passes_strings, read_compares, statement_compares}
use Rattle.code_generator.proofs.Texts.{value_compares}
use Rattle.typed_tree.specs.WellFormed.{is_text as is_text_of, is_well_formed_line, is_well_formed_read, source_of}
use Rattle.typed_tree.specs.WellFormed.{is_well_formed_parameter, is_well_formed_test, is_well_formed_stmt, fits_target, whole_indexes}
use Rattle.typed_tree.specs.WellFormed.{are_whole, stmt_is_well_formed, is_control, is_well_formed_call, is_well_formed_passed, is_well_formed_whole, length_of}
use Rattle.code_generator.proofs.Reach.{Stands, StandsAt, stands_front, stands_back, Comes, comes_less, comes_on, stays_here}
use Rattle.code_generator.proofs.Setting.{AllHeld, branched, goes_around, Setting, outline, around, exact_around, on, Based, later, linked, limit_far}
use Rattle.code_generator.proofs.Setting.{Here, goes_on}
use Rattle.code_generator.proofs.Setting.{jumps, fails, entered}
use Rattle.code_generator.proofs.Loops.{Rounds, RoundsBehind, RoundRuns, round_again, round_over, turn_then, turned, loops, reset, rounds_from_reset}
use Rattle.code_generator.proofs.Loops.{after_turns, round_on}
use Rattle.code_generator.proofs.Accesses.{Indexes, expressions, codes as index_codes}
use Rattle.code_generator.proofs.Assigns.{told, told_back, assign_runs, copy_runs}
use Rattle.code_generator.proofs.Evaluating.{Good, Shape, both, good_parts, in_order, ordinal_good, ordinal_shape, same_four, same_shape, sites, ExecutesAs}
use Rattle.code_generator.proofs.Evaluating.{fetched_at, frames_of, one_held, range_then}
use Rattle.code_generator.proofs.Scalars.{fit_length}
use Rattle.code_generator.proofs.Strings.{AreNumbers}
use Rattle.code_generator.proofs.Exact.{exact_for_round, exact_parameters, exact_read, exact_reads, exact_repeat_round, exact_statements, exact_while_round}
use Rattle.code_generator.proofs.Inputs.{line_runs}
use Rattle.code_generator.proofs.Passing.{CallsAt, CallsRun, returns_executes}
use Rattle.code_generator.proofs.Readings.{read_runs}
use Rattle.code_generator.proofs.Repeats.{repeats, repeats_step}
use Rattle.code_generator.proofs.Wholes.{few_components, fitting_bytes, row_kinds, row_long, text_numbers, whole_runs, row_then}
use Rattle.code_generator.proofs.Withs.{StmtRuns, popped_there, stmt_shape, with_runs}
use Rattle.code_generator.proofs.Held.{slot, IsScalar, is_scalar, variable_kept, variable_forgotten, loads_held, stores_held, decides, begins, steps, leaves}
use Rattle.code_generator.proofs.Held.{compares_row, last_is, next_fits, one_fits}
use Rattle.code_scheme.proofs.Arms.{length-arms, length-row}
use Rattle.code_scheme.proofs.Pieces.{length-For}
use Rattle.code_generator.proofs.Acts.{writes}
use Rattle.code_generator.proofs.Numbers.{Fits, fits_by_abs, sum_is, difference_is}
use Rattle.code_generator.proofs.Rows.{cells_of, length-cells_of, numbers_of, same_byte, writes_string}
use Rattle.code_generator.proofs.Exprs.{call_runs, width_runs, width_shape, expr_then}
use Rattle.code_generator.proofs.Running.{Aim, done_jumps, Executes, Runs, behind_executes, branch_then, done, done_then, kept_on, number_then, runs_from}
use Rattle.code_generator.proofs.Running.{then_runs}
use Rattle.code_generator.proofs.Lists.{length_one}

-- what the machine writes in a width is what the program writes
same_integer_text : (n width : ℤ) → texts.integer_text n width ≡ effect.integer_text n width
same_integer_text n (pos w) = refl
same_integer_text n (negsuc w) =
    let none : 0 ≡ 0 - length (signed_decimal n) = omega arith in
    ap (λ blanks. replicate blanks 32 ++ signed_decimal n) none

same_string_text : (text : List ℕ) (width : ℤ) → texts.string_text text width ≡ effect.string_text text width
same_string_text text (pos w) = refl
same_string_text text (negsuc w) =
    let none : 0 ≡ 0 - length text = omega arith in
    ap (λ blanks. replicate blanks 32 ++ take 0 text) none

same_char_text : (n width : ℤ) → Fits n → texts.char_text n width ≡ effect.char_text n width
same_char_text n (pos w) fit = ap (λ byte. replicate (w - 1) 32 ++ byte ∷ []) (same_byte n fit)
same_char_text n (negsuc w) fit = ap (λ byte. byte ∷ []) (same_byte n fit)

-- the width of an ordinal where none is given
same_default : (r : Representation) → instr.LoadConstant (ordinal_width r) ≡ instr.LoadConstant (default_width_of r)
same_default representation.Char = refl
same_default representation.Integer = refl
same_default representation.Boolean = refl

default_fits : (r : Representation) → Fits (default_width_of r)
default_fits representation.Char = record { is = refl }
default_fits representation.Integer = record { is = refl }
default_fits representation.Boolean = record { is = refl }

-- what holds of each element
abbrev Each : {X : Type 0} → (X → Type 0) → List X → Type 0
Each holds [] = Unit {0}
Each holds (x ∷ xs) = holds x × Each holds xs

-- pieces that are the same at each place, one after another
placed_flat : {X : Type 0} (code_of : Scope → X → List Instr) (scope : Scope) (xs : List X) (place : ℕ)
    → placed (map (λ (code : Placed). code scope) (map (λ (x : X) (sc : Scope) (_ : ℕ). code_of sc x) xs)) place ≡ flat_map (code_of scope) xs
placed_flat code_of scope [] place = refl
placed_flat code_of scope (x ∷ xs) place = ap (λ rest. code_of scope x ++ rest) (placed_flat code_of scope xs (place + length (code_of scope x)))

-- the state behind a text
abbrev written : effect.State → List ℕ → effect.State
written s text = record s { output = s.output ++ text }

module _ (g : Setting) (known : CallsAt g) where
  -- a value and its width give way to a text
  text_runs : (write : Instr) (text : List ℕ) (place : ℕ) (cells after : List Cell) (s : effect.State)
      (act : frames.Frames → Attempt (frames.Frames × List ℕ)) → Here g place write → deed_of write ≡ Writes act
      → act (frames_of g cells) ≡ Ok (frames_of g after, text) → Comes g.target 1 (on g cells place s) (on g after (place + 1) (written s text))
  text_runs write text place cells after s act here rule does =
      let m = fetched_at g cells place s in
      goes_on g write cells after place s (written s text) here
      (ap (λ deed. machine.carried_out g.target.tables (length g.target.code) deed m) rule ∙ ap (λ r. machine.and_then r (with_text m)) does)

  ordinal_writes : (r : Representation) (place : ℕ) (cells : List Cell) (n w : ℤ) (s : effect.State) → Fits n → Stands g.target place (ordinal_instr r ∷ [])
      → g.frame + 4 ≤ length cells
      → Comes g.target 1 (on g ((cells ++ Number n ∷ []) ++ Number w ∷ []) place s)
      (on g cells (place + 1) (written s (effect.text_of r n w)))
  ordinal_writes representation.Char place cells n w s fit stands in_frame =
      let two = (cells ++ Number n ∷ []) ++ Number w ∷ [] in
      subst (λ t. Comes g.target 1 (on g two place s) (on g cells (place + 1) (written s t))) (same_char_text n w fit)
      (text_runs instr.WriteChar (texts.char_text n w) place two cells s _ stands.0 refl
      (writes g.frame g.limit g.size cells in_frame n w texts.char_text))
  ordinal_writes representation.Integer place cells n w s fit stands in_frame =
      let two = (cells ++ Number n ∷ []) ++ Number w ∷ [] in
      subst (λ t. Comes g.target 1 (on g two place s) (on g cells (place + 1) (written s t))) (same_integer_text n w)
      (text_runs instr.WriteInteger (texts.integer_text n w) place two cells s _ stands.0 refl
      (writes g.frame g.limit g.size cells in_frame n w texts.integer_text))
  ordinal_writes representation.Boolean place cells n w s fit stands in_frame =
      let two = (cells ++ Number n ∷ []) ++ Number w ∷ [] in
      subst (λ t. Comes g.target 1 (on g two place s) (on g cells (place + 1) (written s t)))
      (same_string_text (if frames.is_true n then codes "true" else codes "false") w)
      (text_runs instr.WriteBoolean (texts.boolean_text n w) place two cells s _ stands.0 refl
      (writes g.frame g.limit g.size cells in_frame n w texts.boolean_text))

  string_writes : (count : ℕ) (row : List Value) (place : ℕ) (cells : List Cell) (w : ℤ) (s : effect.State) → length row ≡ count → AreNumbers row
      → Stands g.target place (instr.WriteString count ∷ []) → g.frame + 4 ≤ length cells
      → Comes g.target 1 (on g ((cells ++ cells_of row) ++ Number w ∷ []) place s)
      (on g cells (place + 1) (written s (effect.row_text row w)))
  string_writes count row place cells w s long fit stands in_frame =
      let string = (cells ++ cells_of row) ++ Number w ∷ [] in
      subst (λ t. Comes g.target 1 (on g string place s) (on g cells (place + 1) (written s t)))
      (same_string_text (map texts.byte_of (numbers_of row)) w ∙ ap (λ bytes. effect.string_text bytes w) (fitting_bytes row fit))
      (text_runs (instr.WriteString count) (texts.string_text (map texts.byte_of (numbers_of row)) w) place string cells s _ stands.0 refl
      (writes_string g.frame g.limit g.size cells in_frame row w count long fit))

  -- a width above the cells of a value, with which it gives way to a text
  width_writes : (width : Option Width) (v : Written) (default : ℤ) (row : List Value) (text : ℤ → List ℕ) (place : ℕ) (base held : List Cell)
      (s : effect.State) → default_width v ≡ instr.LoadConstant default → Fits default
      → Stands g.target place (width_code g.scope width v ++ (write_instr v ∷ [])) → Good (width_shape g width)
      → Based g s base
      → g.below + length held + (width_depth width + length row) ≤ g.limit
      → ((there : ℕ) (cells : List Cell) (w : ℤ) (u : effect.State) → Stands g.target there (write_instr v ∷ []) → g.frame + 4 ≤ length cells
      → Comes g.target 1 (on g ((cells ++ cells_of row) ++ Number w ∷ []) there u) (on g cells (there + 1) (written u (text w))))
      → Executes g (on g ((base ++ held) ++ cells_of row) place s) held (place + length (width_code g.scope width v ++ (write_instr v ∷ [])))
      (width_of width default (around g) >>= (λ w. effect.write (text w))) s
  width_writes width v default row text place base held s is fit stands good based deep writes =
      let wide = width_code g.scope width v in
      let writing = write_instr v ∷ [] in
      let more = held ++ cells_of row in
      let long = length-append held (cells_of row) in
      let next : ℤ → Action (Unit {0}) = λ w. effect.write (text w) in
      subst (λ cells. Executes g (on g cells place s) held (place + length (wide ++ writing)) (width_of width default (around g) >>= next) s)
      (sym (append_assoc base held (cells_of row)))
      (number_then g (kept_on g held) wide writing place _ more (width_of width default (around g)) next s ((exact_around g).widths width default) stands
      (λ front. width_runs g known width v default is fit place base more s front good based (omega (arith, length-cells_of row)))
      (λ base2 w u rest based2 fit2.
      subst (λ cells. Executes g (on g (cells ++ Number w ∷ []) (place + length wide) u) held (place + length wide + 1) (next w) u)
      (append_assoc base2 held (cells_of row))
      (inr (done g 1 _ base2 held (place + length wide + 1) (written u (text w)) based2
      (writes (place + length wide) (base2 ++ held) w u rest (linked g u base2 held based2))))))

  -- a value that is written, and its width
  abbrev parameter_shape : WriteParameter → Shape Bool Bool
  parameter_shape p = record {
    well = is_well_formed_parameter (outline g) g.number p;
    held = is_held_parameter p;
    there = parameter_begins p g.opened;
    strings = parameter_compares g.tree.types p;
  }

  abbrev ParameterRuns : WriteParameter → Type 0
  ParameterRuns p = ExecutesAs g (λ scope _. parameter_code scope p) (parameter_depth p) (parameter_shape p) (parameter_of p)

  -- a string with these index expressions
  abbrev string_shape : Whole → List Expr → Shape Bool Bool
  string_shape v es = record {
    well = (all_hold (whole_indexes v (map (is_well_formed_expr (outline g) g.number) es)) && is_well_formed_whole (outline g) g.number v (length es))
        && is_text_of g.tree.types (source_of v);
    held = is_held_value v es;
    there = value_begins v es g.opened;
    strings = is_text g.tree.types v && value_compares g.tree.types v es;
  }

  -- a string that is written, with these index expressions in it
  abbrev StringRuns : Whole → Vec Expr → Option Width → List Expr → Type 0
  StringRuns v indexes width es =
      ExecutesAs g (λ scope _. whole_code scope v (map (expr_code scope) es)
      ++ (width_code scope width (String v indexes) ++ (instr.WriteString (row_length (length_of v)) ∷ [])))
      (max (whole_depth v (map expr_depth es)) (width_depth width + length_of v))
      (both (string_shape v es) (width_shape g width))
      (λ env. whole_of v (map value_of es) env >>= λ row. width_of width (pos (length_of v)) env >>= λ w. effect.write (effect.row_text row w))

  string_runs : (v : Whole) (vec : Vec Expr) (width : Option Width) (indexes : Indexes g) → StringRuns v vec width (expressions g indexes)
  string_runs v vec width indexes place base held s stands good based high deep =
      let n = length_of v in
      let es = expressions g indexes in
      let c = whole_code g.scope v (index_codes g indexes) in
      let wide = width_code g.scope width (String v vec) in
      let writing = instr.WriteString (row_length n) ∷ [] in
      let parts = good_parts (string_shape v es) (width_shape g width) good in
      let own = parts.0 in
      let inside = and_parts (all_hold (whole_indexes v (map (is_well_formed_expr (outline g) g.number) es)))
      (is_well_formed_whole (outline g) g.number v (length es)) (and_parts _ (is_text_of g.tree.types (source_of v)) own.0).0 in
      let text = and_parts (is_text g.tree.types v) (value_compares g.tree.types v es) own.3 in
      let same : n ≡ row_length n = few_components g v (length es) inside.1 in
      let next : List Value → Action (Unit {0}) = λ row. width_of width (pos n) (around g) >>= λ w. effect.write (effect.row_text row w) in
      row_then g (kept_on g held) c (wide ++ writing) place _ held (row_kinds g v) (whole_of v (map value_of es) (around g)) next s
      ((exact_around g).wholes v es) stands
      (λ front. whole_runs g v indexes place base held s front (inside.0, inside.1, own.1, own.2, text.1) based (omega arith))
      (λ base2 row t rest based2 fit.
      let long : length row ≡ n = fit_length (row_kinds g v) row fit ∙ row_long g v (length es) inside.1 in
      width_writes width (String v vec) (pos n) row (effect.row_text row) (place + length c) base2 held t (ap (λ m. instr.LoadConstant (pos m)) (sym same))
      (fits_by_abs (pos n) (omega arith)) rest parts.1 based2 (omega (arith, long))
      (λ there cells w u here in_frame. string_writes (row_length n) row there cells w u (long ∙ same) (text_numbers g v row text.0 fit) here in_frame))

  written_runs : (v : Written) (width : Option Width) → ParameterRuns (record { value = v; width = width })
  written_runs (Ordinal v r) width place base held s stands good based high deep =
      let wide = width_code g.scope width (Ordinal v r) in
      let parts = good_parts (ordinal_shape g v) (width_shape g width) good in
      let default = default_width_of r in
      expr_then g known (kept_on g held) v (wide ++ (ordinal_instr r ∷ [])) place base held
      (λ x. width_of width default (around g) >>= λ w. effect.write (effect.text_of r (number_of x) w)) s stands (ordinal_good g v parts.0) based
      (omega arith)
      (λ base2 n t rest based2 fit room le.
      width_writes width (Ordinal v r) default (value.Number n ∷ []) (effect.text_of r n) (place + length (expr_code g.scope v)) base2 held t (same_default r)
      (default_fits r) rest parts.1 based2 (omega arith)
      (λ there cells w u here in_frame. ordinal_writes r there cells n w u fit here in_frame))
  written_runs (String v indexes) width place base held s stands good based high deep =
      let runs = subst (StringRuns v indexes width) (told_back g known indexes.items) (string_runs v indexes width (told g known indexes.items)) in
      runs place base held s stands good based high deep

  parameter_runs : (p : WriteParameter) → ParameterRuns p
  parameter_runs p = written_runs p.value p.width

  -- nothing to do
  nothing_runs : (place : ℕ) (base held : List Cell) (s : effect.State) → Based g s base
      → Executes g (on g (base ++ held) place s) held (place + 0) (give tt) s
  nothing_runs place base held s based =
      let e : place ≡ place + 0 = omega arith in
      inr (done g 0 _ base held (place + 0) s based (subst (λ p. Comes g.target 0 (on g (base ++ held) place s) (on g (base ++ held) p s)) e
      (stays_here g.target _)))

  -- pieces that are executed one after another
  module _ {X : Type 0} (code_of : X → Placed) (depth_of : X → ℕ) (well_of held_of : X → Bool) (there_of : X → Begin) (strings_of : X → Bool)
      (meant_by : X → Execution) (exact : (x : X) → UsesTurnsExactly (meant_by x (around g))) where
    -- what is known of one, and of all
    abbrev piece_shape : X → Shape Bool Bool
    piece_shape x = record { well = well_of x; held = held_of x; there = there_of x g.opened; strings = strings_of x }

    abbrev AllGood : List X → Type 0
    AllGood xs =
        (all_hold (map well_of xs) ≡ true) × (all_hold (map held_of xs) ≡ true) × (all_begin (map there_of xs) g.opened ≡ true)
        × (all_hold (map strings_of xs) ≡ true)

    all_run : (xs : List X) → Each (λ x. ExecutesAs g (code_of x) (depth_of x) (piece_shape x) (meant_by x)) xs
        → (depth place : ℕ) (base held : List Cell) (s : effect.State)
        → Stands g.target place (placed (map (λ code. code g.scope) (map code_of xs)) place) → AllGood xs → Based g s base
        → AllHeld g held → g.below + length held + fold max depth (map depth_of xs) ≤ g.limit
        → Executes g (on g (base ++ held) place s) held (place + length (placed (map (λ code. code g.scope) (map code_of xs)) place))
        (all_of (map meant_by xs) (around g)) s
    all_run [] each depth place base held s stands good based high deep = nothing_runs place base held s based
    all_run (x ∷ xs) each depth place base held s stands good based high deep =
        let c = code_of x g.scope place in
        let rest = placed (map (λ code. code g.scope) (map code_of xs)) (place + length c) in
        let d = start_within (max depth (depth_of x)) (map depth_of xs) in
        let well = and_parts _ _ good.0 in
        let holding = and_parts _ _ good.1 in
        let there = and_parts _ _ good.2 in
        let strings = and_parts _ _ good.3 in
        done_then g (kept_on g held) c rest place _ held (meant_by x (around g)) (λ _. all_of (map meant_by xs) (around g)) s (exact x) stands
        (λ front. each.0 place base held s front (well.0, holding.0, there.0, strings.0) based high (omega arith))
        (λ base2 t back based2 le.
        all_run xs each.1 (max depth (depth_of x)) (place + length c) base2 held t back (well.1, holding.1, there.1, strings.1) based2 high
        (omega arith))

  each_parameter : (ps : List WriteParameter) → Each ParameterRuns ps
  each_parameter [] = tt
  each_parameter (p ∷ ps) = (parameter_runs p, each_parameter ps)

  -- a line end behind a writeln
  line_end_runs : (ends_line : Bool) (place : ℕ) (base held : List Cell) (s : effect.State) → Stands g.target place (line_end_code ends_line)
      → Based g s base → Executes g (on g (base ++ held) place s) held (place + length (line_end_code ends_line)) (line_ended ends_line) s
  line_end_runs true place base held s stands based =
      inr (done g 1 _ base held (place + 1) (written s (10 ∷ [])) based
      (goes_on g instr.WriteLine (base ++ held) (base ++ held) place s (written s (10 ∷ [])) stands.0 refl))
  line_end_runs false place base held s stands based = nothing_runs place base held s based

  write_runs : (writing : Writing)
      → ExecutesAs g (λ scope _. write_code scope writing) (greatest (map parameter_depth writing.parameters.items))
      (record {
        well = all_hold (map (is_well_formed_parameter (outline g) g.number) writing.parameters.items);
        held = all_hold (map is_held_parameter writing.parameters.items);
        there = all_begin (map parameter_begins writing.parameters.items) g.opened;
        strings = all_hold (map (parameter_compares g.tree.types) writing.parameters.items);
      })
      (λ e. effect.enter writing.number e.visible >>= λ _. all_of (map parameter_of writing.parameters.items) e >>= λ _. line_ended writing.ends_line)
  write_runs writing place base held s stands good based high deep =
      let s1 = entered g writing.number s in
      let ps = writing.parameters.items in
      let code_of : WriteParameter → Placed = λ p scope _. parameter_code scope p in
      let c = flat_map (parameter_code g.scope) ps in
      let same : placed (map (λ code. code g.scope) (map code_of ps)) place ≡ c = placed_flat parameter_code g.scope ps place in
      done_then g (kept_on g held) c (line_end_code writing.ends_line) place _ held (all_of (map parameter_of ps) (around g))
      (λ _. line_ended writing.ends_line) s1 (exact_parameters (around g) (exact_around g) ps) stands
      (λ front.
      subst (λ p. Executes g (on g (base ++ held) place s) held (place + length p) (all_of (map parameter_of ps) (around g)) s1) same
      (all_run code_of parameter_depth (is_well_formed_parameter (outline g) g.number) is_held_parameter parameter_begins
      (parameter_compares g.tree.types) parameter_of ((exact_around g).written) ps (each_parameter ps) 0 place
      base held s1 (subst (Stands g.target place) (sym same) front) good based high deep))
      (λ base2 t rest based2 le. line_end_runs writing.ends_line (place + length c) base2 held t rest based2)

  -- a variable that is read
  abbrev read_shape : ReadVariable → Shape Bool Bool
  read_shape one = record {
    well = is_well_formed_read (outline g) g.number one;
    held = is_held_read one;
    there = read_begins one g.opened;
    strings = read_compares g.tree.types one;
  }

  each_read : (ones : List ReadVariable)
      → Each (λ one. ExecutesAs g (λ scope _. variable_read_code scope one) (read_depth one) (read_shape one) (read_of one)) ones
  each_read [] = tt
  each_read (one ∷ ones) = (read_runs g known one, each_read ones)

  reading_runs : (reading : Reading)
      → ExecutesAs g (λ scope _. read_code scope reading) (greatest (map read_depth reading.variables.items))
      (record {
        well = is_well_formed_line (outline g) g.number reading.line
            && all_hold (map (is_well_formed_read (outline g) g.number) reading.variables.items);
        held = all_hold (map is_held_read reading.variables.items);
        there = all_begin (map read_begins reading.variables.items) g.opened;
        strings = all_hold (map (read_compares g.tree.types) reading.variables.items);
      })
      (λ e. effect.enter reading.number e.visible >>= λ _. all_of (map read_of reading.variables.items) e >>= λ _. line_passed reading.line)
  reading_runs reading place base held s stands good based high deep =
      let s1 = entered g reading.number s in
      let ones = reading.variables.items in
      let well = and_parts (is_well_formed_line (outline g) g.number reading.line) (all_hold (map (is_well_formed_read (outline g) g.number) ones)) good.0 in
      let code_of : ReadVariable → Placed = λ one scope _. variable_read_code scope one in
      let c = flat_map (variable_read_code g.scope) ones in
      let same : placed (map (λ code. code g.scope) (map code_of ones)) place ≡ c = placed_flat variable_read_code g.scope ones place in
      done_then g (kept_on g held) c (line_passed_code reading.line) place _ held (all_of (map read_of ones) (around g))
      (λ _. line_passed reading.line) s1 (exact_reads (around g) (exact_around g) ones) stands
      (λ front.
      subst (λ p. Executes g (on g (base ++ held) place s) held (place + length p) (all_of (map read_of ones) (around g)) s1) same
      (all_run code_of read_depth (is_well_formed_read (outline g) g.number) is_held_read read_begins (read_compares g.tree.types) read_of
      (exact_read (around g) (exact_around g)) ones (each_read ones) 0 place base held s1 (subst (Stands g.target place) (sym same) front)
      (well.1, good.1, good.2, good.3) based high deep))
      (λ base2 t rest based2 le. line_runs g reading.line (place + length c) base2 held t rest well.0 based2)

  -- a condition, a jump where it is false, and what comes at either place
  condition_then : {A : Type 0} (aim : ℕ → Aim A) (condition : Expr) (target : ℕ) (c : List Instr) (place : ℕ) (base held : List Cell)
      (next : Bool → Action A) (s : effect.State) → Stands g.target place (expr_code g.scope condition ++ (instr.JumpIfFalse target ∷ c))
      → Good (ordinal_shape g condition) → Based g s base → g.below + length held + expr_depth condition ≤ g.limit
      → ((base2 : List Cell) (t : effect.State) → Stands g.target (place + length (expr_code g.scope condition) + 1) c → Based g t base2
      → Runs g (aim (place + length (expr_code g.scope condition) + 1 + length c))
      (on g (base2 ++ held) (place + length (expr_code g.scope condition) + 1) t) (next true) t)
      → ((base2 : List Cell) (t : effect.State) → Stands g.target (place + length (expr_code g.scope condition) + 1) c → Based g t base2
      → Runs g (aim (place + length (expr_code g.scope condition) + 1 + length c)) (on g (base2 ++ held) target t) (next false) t)
      → Runs g (aim (place + length (expr_code g.scope condition ++ (instr.JumpIfFalse target ∷ c)))) (on g (base ++ held) place s)
      (value_of condition (around g) >>= (λ v. next (is_so v))) s
  condition_then aim condition target c place base held next s stands good based room so not_so =
      let jump = instr.JumpIfFalse target in
      let first = place + length (expr_code g.scope condition) in
      let e : first + 1 + length c ≡ first + length (jump ∷ c) = omega arith in
      expr_then g known aim condition (jump ∷ c) place base held (λ v. next (is_so v)) s stands (ordinal_good g condition good) based room
      (λ base2 n t rest based2 fit room2 le.
      subst (λ end. Runs g (aim end) (on g ((base2 ++ held) ++ Number n ∷ []) first t) (next (is_so (value.Number n))) t) e
      (branch_then g (aim (first + 1 + length c)) target (base2 ++ held) n first next t rest.0 (linked g t base2 held based2)
      (so base2 t rest.1 based2) (not_so base2 t rest.1 based2)))

  -- a call of a procedure
  calling_runs : (calling : ProcedureCall)
      → ExecutesAs g (λ scope _. call_code scope calling.call (map (passed_code scope) calling.actuals.items))
      (call_depth (map passed_depth calling.actuals.items))
      (record {
        well = is_well_formed_call (outline g) g.number false calling.call (map (is_well_formed_passed (outline g) g.number) calling.actuals.items);
        held = all_hold (map is_held_passed calling.actuals.items);
        there = all_begin (map passed_begin calling.actuals.items) g.opened;
        strings = all_hold (map (passes_strings g.tree.types) calling.actuals.items);
      })
      (λ e. call_of calling.call (map passing_of calling.actuals.items) e >>= λ _. give tt)
  calling_runs calling place base held s stands good based high deep =
      let call = calling.call in
      let actuals = calling.actuals.items in
      returns_executes g _ held (place + length (call_code g.scope call (map (passed_code g.scope) actuals)))
      (call_of call (map passing_of actuals) (around g)) s
      ((exact_around g).calls call actuals) (call_runs g known false call actuals place base held s stands good.0 good.1 good.2 good.3 based deep)

abbrev bare : List ((s : Stmt) × StmtRuns s) → List Stmt
bare ss = map (λ x. x.0) ss

each_statement : (g : Setting) (known : CallsRun g.depth) (ss : List ((s : Stmt) × StmtRuns s)) (before : ℕ)
    → fold max before (map repeats (bare ss)) ≤ g.slack
    → Each (λ s. ExecutesAs g (stmt_code s) (stmt_depth s) (stmt_shape g s) (effect_of s)) (bare ss)
each_statement g known [] before few = tt
each_statement g known (s ∷ ss) before few =
    let least = start_within (max before (repeats s.0)) (map repeats (bare ss)) in
    (s.1 g known (omega arith), each_statement g known ss (max before (repeats s.0)) few)

-- what is known of statements
abbrev stmts_shape : Setting → List Stmt → Shape Bool Bool
stmts_shape g ss = record {
  well = all_hold (map (is_well_formed_stmt (outline g) g.number) ss);
  held = all_hold (map is_held_stmt ss);
  there = all_begin (map begins_in ss) g.opened;
  strings = all_hold (map (compares_in g.tree.types) ss);
}

-- statements are executed one after another
statements_run : (g : Setting) (known : CallsRun g.depth) (ss : List ((s : Stmt) × StmtRuns s)) → greatest (map repeats (bare ss)) ≤ g.slack
    → ExecutesAs g (λ scope place. placed (map (λ code. code scope) (map stmt_code (bare ss))) place)
    (greatest (map stmt_depth (bare ss))) (stmts_shape g (bare ss)) (all_of (map effect_of (bare ss)))
statements_run g known ss few place base held s stands good based high deep =
    all_run g (known g refl) stmt_code stmt_depth (is_well_formed_stmt (outline g) g.number) is_held_stmt begins_in (compares_in g.tree.types) effect_of
    ((exact_around g).statements) (bare ss)
    (each_statement g known ss 0 few) 0 place base held s stands good based high deep

compound_runs : (g : Setting) (known : CallsRun g.depth) (number : ℕ) (ss : List ((s : Stmt) × StmtRuns s))
    → greatest (map repeats (bare ss)) ≤ g.slack
    → ExecutesAs g (λ scope place. placed (map (λ code. code scope) (map stmt_code (bare ss))) place)
    (greatest (map stmt_depth (bare ss))) (stmts_shape g (bare ss))
    (λ e. effect.enter number e.visible >>= λ _. all_of (map effect_of (bare ss)) e)
compound_runs g known number ss few place base held s stands good based high deep =
    statements_run g known ss few place base held (entered g number s) stands good based high deep

empty_runs : (g : Setting) (known : CallsRun g.depth) (number : ℕ) → ExecutesAs g (λ _ _. []) 0 in_order (λ e. effect.enter number e.visible)
empty_runs g known number place base held s stands good based high deep = nothing_runs g (known g refl) place base held (entered g number s) based

-- an if statement without `else`
if_runs : (g : Setting) (known : CallsRun g.depth) (number : ℕ) (condition : Expr) (consequence : (s : Stmt) × StmtRuns s)
    → max (repeats consequence.0) 0 ≤ g.slack
    → ExecutesAs g (λ scope. if_code (expr_code scope condition) (stmt_code consequence.0) scope)
    (max (expr_depth condition) (max (stmt_depth consequence.0) 0))
    (both (ordinal_shape g condition) (both (stmt_shape g consequence.0) in_order))
    (λ e. effect.enter number e.visible >>= λ _. value_of condition e >>= λ v. if is_so v then effect_of consequence.0 e else alternative_of None e)
if_runs g known number condition consequence few place base held s stands good based high deep =
    let yes = place + length (expr_code g.scope condition) + 1 in
    let code = stmt_code consequence.0 g.scope yes in
    let parts = good_parts (ordinal_shape g condition) (both (stmt_shape g consequence.0) in_order) good in
    let inside_good = (good_parts (stmt_shape g consequence.0) in_order parts.1).0 in
    condition_then g (known g refl) (kept_on g held) condition (yes + length code) code place base held
    (λ holds. if holds then effect_of consequence.0 (around g) else alternative_of None (around g)) (entered g number s) stands parts.0 based (omega arith)
    (λ base2 t inside based2. consequence.1 g known (omega arith) yes base2 held t inside inside_good based2 high (omega arith))
    (λ base2 t inside based2. inr (done g 0 _ base2 held (yes + length code) t based2 (stays_here g.target _)))

-- and one with it
if_else_runs : (g : Setting) (known : CallsRun g.depth) (number : ℕ) (condition : Expr) (consequence alternative : (s : Stmt) × StmtRuns s)
    → max (repeats consequence.0) (repeats alternative.0) ≤ g.slack
    → ExecutesAs g (λ scope. if_else_code (expr_code scope condition) (stmt_code consequence.0) (stmt_code alternative.0) scope)
    (max (expr_depth condition) (max (stmt_depth consequence.0) (stmt_depth alternative.0)))
    (both (ordinal_shape g condition) (both (stmt_shape g consequence.0) (stmt_shape g alternative.0)))
    (λ e. effect.enter number e.visible >>= λ _. value_of condition e >>= λ v. if is_so v then effect_of consequence.0 e else effect_of alternative.0 e)
if_else_runs g known number condition consequence alternative few place base held s stands good based high deep =
    let test = expr_code g.scope condition in
    let yes = place + length test + 1 in
    let code = stmt_code consequence.0 g.scope yes in
    let no = yes + length code + 1 in
    let other = stmt_code alternative.0 g.scope no in
    let end = no + length other in
    let behind = instr.Jump end ∷ other in
    let e : end ≡ place + length (test ++ (instr.JumpIfFalse no ∷ (code ++ behind))) =
    omega (arith, length-append test (instr.JumpIfFalse no ∷ (code ++ behind)), length-append code behind) in
    let parts = good_parts (ordinal_shape g condition) (both (stmt_shape g consequence.0) (stmt_shape g alternative.0)) good in
    let either = good_parts (stmt_shape g consequence.0) (stmt_shape g alternative.0) parts.1 in
    let next : Bool → Action (Unit {0}) = λ holds. if holds then effect_of consequence.0 (around g) else effect_of alternative.0 (around g) in
    subst (λ p. Executes g (on g (base ++ held) place s) held p (value_of condition (around g) >>= (λ v. next (is_so v))) (entered g number s)) e
    (condition_then g (known g refl) (λ _. kept_on g held end) condition no (code ++ behind) place base held next (entered g number s) stands parts.0 based
    (omega arith)
    (λ base2 t inside based2.
    done_jumps g code other yes end _ held (effect_of consequence.0 (around g)) t inside
    (λ front. consequence.1 g known (omega arith) yes base2 held t front either.0 based2 high (omega arith)))
    (λ base2 t inside based2.
    alternative.1 g known (omega arith) no base2 held t (stands_back g.target yes code behind inside).1 either.1 based2 high (omega arith)))

-- what each round of a loop begins with that holds nothing
abbrev always : Unit {0} → Type 0
always start = Unit {0}

-- a while statement
while_runs : (g : Setting) (known : CallsRun g.depth) (head : LoopHead) (body : (s : Stmt) × StmtRuns s) → repeats body.0 ≤ g.slack
    → ExecutesAs g (λ scope. while_code (expr_code scope head.condition) (stmt_code body.0) scope) (max (expr_depth head.condition) (stmt_depth body.0))
    (both (ordinal_shape g head.condition) (stmt_shape g body.0))
    (λ e. effect.enter head.number e.visible >>= λ _. effect.looped (while_round (value_of head.condition) (effect_of body.0) e) tt)
while_runs g known head body few place base held s stands good based high deep =
    let s1 = entered g head.number s in
    let test = expr_code g.scope head.condition in
    let inside = place + length test + 1 in
    let code = stmt_code body.0 g.scope inside in
    let end = inside + length code + 1 in
    let back = instr.Jump place ∷ [] in
    let e : end ≡ place + length (test ++ (instr.JumpIfFalse end ∷ (code ++ back))) =
    omega (arith, length-append test (instr.JumpIfFalse end ∷ (code ++ back)), length-append code back) in
    let parts = good_parts (ordinal_shape g head.condition) (stmt_shape g body.0) good in
    let hold : Unit {0} → List Cell = λ _. held in
    let does = effect_of body.0 (around g) in
    let round : Round (Unit {0}) = while_round (value_of head.condition) (effect_of body.0) (around g) in
    subst (λ p. Executes g (on g (base ++ held) place s) held p (effect.looped round tt) s1) e
    (loops g always hold place end held round ((goes_around g).whiles head.condition body.0)
    (λ start. exact_while_round (around g) (exact_around g) head.condition body.0)
    (λ start base2 t fits based2.
    expr_then g (known g refl) (λ _. round_on g always hold place end held 0 t.turns) head.condition (instr.JumpIfFalse end ∷ (code ++ back)) place base2 held
    (λ v. turn_if (is_so v) does) t stands (ordinal_good g head.condition parts.0) based2 (omega arith)
    (λ base3 n u rest based3 fit room le.
    let tested = on g ((base3 ++ held) ++ Number n ∷ []) (place + length test) u in
    branched g (λ b. Rounds g always hold place end held 0 t.turns tested (turn_if b does) u) end (base3 ++ held) n (place + length test) u rest.0
    (linked g u base3 held based3)
    (λ came.
    turn_then g always hold place end held t.turns code back inside tested _ held does (Some tt) u refl came le ((exact_around g).statements body.0) rest.1
    (λ left fewer front.
    body.1 g known few inside base3 held (record u { turns = left }) front parts.1 (later g left u base3 fewer based3) high (omega arith))
    (λ base4 w jump based4 fewest.
    round_again g always hold place end held 0 t.turns 1 _ tt base4 w based4 (omega arith) fewest tt
    (jumps g place (base4 ++ held) (inside + length code) w jump.0)))
    (λ came. round_over g always hold place end held 0 t.turns 1 tested base3 u based3 (omega arith) came))) tt base s1 tt based)

-- a repeat statement
repeat_runs : (g : Setting) (known : CallsRun g.depth) (head : LoopHead) (ss : List ((s : Stmt) × StmtRuns s))
    → greatest (map repeats (bare ss)) + 1 ≤ g.slack
    → ExecutesAs g (λ scope. repeat_code (placed (map (λ code. code scope) (map stmt_code (bare ss)))) (expr_code scope head.condition))
    (max (greatest (map stmt_depth (bare ss))) (expr_depth head.condition))
    (both (stmts_shape g (bare ss)) (ordinal_shape g head.condition))
    (λ e. effect.enter head.number e.visible >>= λ _. effect.looped (repeat_round (all_of (map effect_of (bare ss))) (value_of head.condition) e) tt)
repeat_runs g known head ss few place base held s stands good based high deep =
    let s1 = entered g head.number s in
    let h = reset g (g.slack - 1) g.scope.next in
    let known_there = known h refl in
    let code = placed (map (λ c. c g.scope) (map stmt_code (bare ss))) place in
    let test = expr_code g.scope head.condition in
    let last = place + length code in
    let end = last + length test + 1 in
    let back = instr.JumpIfFalse place ∷ [] in
    let e : end ≡ place + length (code ++ (test ++ back)) = omega (arith, length-append code (test ++ back), length-append test back) in
    let parts = good_parts (stmts_shape g (bare ss)) (ordinal_shape g head.condition) good in
    let hold : Unit {0} → List Cell = λ _. held in
    let statements = all_of (map effect_of (bare ss)) in
    let round : Round (Unit {0}) = repeat_round statements (value_of head.condition) (around g) in
    let until : Value → Action (Option (Unit {0})) = λ v. give (if is_so v then None else Some tt) in
    let rest : Action (Option (Unit {0})) = statements (around g) >>= λ _. value_of head.condition (around g) >>= until in
    let inside : (left : ℕ) (base2 : List Cell) (t : effect.State) → t.turns ≡ left → Based h t base2
    → Rounds h always hold place end held 1 (suc left) (on g (base2 ++ held) place t) rest t =
    λ left base2 t is based2.
    done_then h (λ _. round_on h always hold place end held 1 (suc left)) code (test ++ back) place _ held (statements (around g))
    (λ _. value_of head.condition (around g) >>= until) t (exact_statements (around g) (exact_around g) (bare ss)) stands
    (λ front.
    statements_run h known ss (omega arith) place base2 held t front parts.0 based2 high (omega arith))
    (λ base3 u behind based3 fewer.
    expr_then h known_there (λ _. round_on h always hold place end held 1 (suc left)) head.condition back last base3 held until u behind
    (ordinal_good h head.condition parts.1) based3
    (omega arith)
    (λ base4 n w jump based4 fit room fewest.
    let tested = on g ((base4 ++ held) ++ Number n ∷ []) (last + length test) w in
    branched g (λ b. Rounds h always hold place end held 1 (suc left) tested (give (if b then None else Some tt)) w) place (base4 ++ held) n
    (last + length test) w jump.0 (linked h w base4 held based4)
    (λ came. round_over h always hold place end held 1 (suc left) 1 tested base4 w based4 (omega arith) came)
    (λ came.
    round_again h always hold place end held 1 (suc left) 1 tested tt base4 w based4 (omega arith) (omega (arith, is, fewer, fewest)) tt came))) in
    subst (λ p. Executes g (on g (base ++ held) place s) held p (effect.looped round tt) s1) e
    (loops g always hold place end held round ((goes_around g).repeats (bare ss) head.condition)
    (λ start. exact_repeat_round (around g) (exact_around g) (bare ss) head.condition)
    (λ start base2 t fits based2.
    turned g always hold place end held t.turns t _ (λ _. rest) refl (λ left is.
    let t' = record t { turns = left } in
    subst (λ n. RoundsBehind g always hold place end held 0 n n (on g (base2 ++ held) place t) rest t') (sym is)
    (rounds_from_reset g (g.slack - 1) g.scope.next always hold place end held left _ rest t' (omega arith) refl
    (inside left base2 t' refl (later g left t base2 (omega (arith, is)) based2))))) tt base s1 tt based)

-- ---- a for statement

-- the bounds that are held are compared as the direction says, and a jump is taken where they leave no value
ordered : (g : Setting) (s : effect.State) (base held : List Cell) (n l : ℤ) (way : Direction) (place out : ℕ) → Based g s base
    → AllHeld g held → g.below + length held + 4 ≤ g.limit → Here g place (instr.Load 0 (held_offset g.scope 0))
    → Here g (place + 1) (instr.Load 0 (held_offset g.scope 1))
    → StandsAt g.target (place + 1 + 1) (order_instr way) (stays g.target.is_open (order_instr way))
    → StandsAt g.target (place + 1 + 1 + 1) (instr.JumpIfFalse out) true
    → Comes g.target 4 (on g (base ++ (held ++ Number n ∷ Number l ∷ [])) place s)
    (on g (base ++ (held ++ Number n ∷ Number l ∷ [])) (if has_values way n l then place + 4 else out) s)
ordered g s base held n l direction.To place out based high room at1 at2 at3 at4 =
    decides g s base held n l based high room instr.LessOrEqual (frames.of_two dyadic.LessOrEqual) (int_le n l) place out at1 at2 at3 at4
    refl refl
ordered g s base held n l direction.DownTo place out based high room at1 at2 at3 at4 =
    decides g s base held n l based high room instr.GreaterOrEqual (frames.of_two dyadic.GreaterOrEqual) (int_le l n) place out at1 at2 at3 at4
    refl refl

-- the next value is held, and the next round begins
stepped : (g : Setting) (s : effect.State) (base held : List Cell) (n l : ℤ) (way : Direction) (place head : ℕ) → Based g s base
    → AllHeld g held → g.below + length held + 4 ≤ g.limit → Fits n → Fits (next_value way n)
    → Here g place (instr.Load 0 (held_offset g.scope 0)) → Here g (place + 1) (instr.LoadConstant (pos 1))
    → StandsAt g.target (place + 1 + 1) (next_instr way) (stays g.target.is_open (next_instr way))
    → Here g (place + 1 + 1 + 1) (instr.Store 0 (held_offset g.scope 0)) → StandsAt g.target (place + 1 + 1 + 1 + 1) (instr.Jump head) true
    → Comes g.target 1 (on g (base ++ (held ++ Number n ∷ Number l ∷ [])) place s)
    (on g (base ++ (held ++ Number (next_value way n) ∷ Number l ∷ [])) head s)
stepped g s base held n l direction.To place head based high room fit fit' at1 at2 at3 at4 at5 =
    steps g s base held n l based high room instr.Add (frames.of_two dyadic.Add) (n +ℤ pos 1) place head at1 at2 at3 at4 at5 refl
    (sum_is n (pos 1) fit one_fits fit')
stepped g s base held n l direction.DownTo place head based high room fit fit' at1 at2 at3 at4 at5 =
    steps g s base held n l based high room instr.Subtract (frames.of_two dyadic.Subtract) (n -ℤ pos 1) place head at1 at2 at3 at4 at5 refl
    (difference_is n (pos 1) fit one_fits fit')

-- a statement inside another one, after some finished turns, above the cells that this one holds
above_held : (g : Setting) (turns : List ℕ) (known : CallsRun g.depth) (body : (s : Stmt) × StmtRuns s) → repeats body.0 ≤ g.slack
    → Good (stmt_shape g body.0) → (held row : List Cell) → AllHeld g held
    → g.below + length held + (stmt_depth body.0 + length row) ≤ g.limit → (place : ℕ) (base : List Cell) (s : effect.State)
    → Stands g.target place (stmt_code body.0 (holding (length row) g.scope) place) → Based g s base
    → Executes g (on g (base ++ (held ++ row)) place s) (held ++ row) (place + length (stmt_code body.0 (holding (length row) g.scope) place))
    (effect_of body.0 (around (after_turns g turns))) s
above_held g turns known body few good held row high room place base s stands based =
    let next = count (g.scope.next + length row) in
    let long = length-append held row in
    let reach = limit_far g in
    body.1 (reset (after_turns g turns) g.slack next) known few place base (held ++ row) s stands good based (omega (arith, long, high, reach, room))
    (omega (arith, long, room))

module _ (g : Setting) (known : CallsRun g.depth) (head : ForHead) (scalar : IsScalar g head.control) (body : (s : Stmt) × StmtRuns s)
    (few : repeats body.0 ≤ g.slack)
    (good : Good (stmt_shape g body.0)) (place : ℕ) (held : List Cell)
    (high : AllHeld g held) (room : g.below + length held + max 4 (stmt_depth body.0 + 2) ≤ g.limit) (l : ℤ) (fit_last : Fits l) where
  -- where a round begins, where its body is over, and where the loop is
  abbrev start : ℕ
  start = place + 8

  abbrev body_code : List Instr
  body_code = stmt_code body.0 (holding 2 g.scope) (start + 2)

  abbrev behind : ℕ
  behind = start + 2 + length body_code

  abbrev out : ℕ
  out = behind + 9

  abbrev entry : List Instr
  entry = for_entry g.scope head out

  abbrev next_code : List Instr
  next_code = for_next g.scope head.direction start out

  abbrev end_code : List Instr
  end_code = for_end g.scope head.control

  abbrev loop : List Instr
  loop = for_begin g.scope head.control ++ (body_code ++ (next_code ++ end_code))

  abbrev hold : ℤ → List Cell
  hold n = held ++ Number n ∷ Number l ∷ []

  abbrev fit : ℤ → Type 0
  fit n = Fits n × (has_values head.direction n l ≡ true)

  -- a round where the first value is this one, and the finished turns at a value
  abbrev round : ℤ → Round ℤ
  round first = for_round head first l (effect_of body.0) (around g)

  abbrev finished : ℤ → ℤ → List ℕ
  finished first n = g.environment.turns ++ values_before head.direction first n ∷ []

  enough : g.below + length held + 4 ≤ g.limit
  enough = omega arith

  -- all rounds from a value on, and what comes behind them
  abbrev rounds : ℤ → Action (Unit {0})
  rounds n = for_rounds head (effect_of body.0) (around g) n l

  abbrev undefined : Action (Unit {0})
  undefined = effect.undefine (g.environment.variables head.control)

  module _ (stands : Stands g.target place (entry ++ loop)) where
    from_begin : Stands g.target start loop
    from_begin = stands_back g.target place entry loop stands

    from_inside : Stands g.target (start + 2) (body_code ++ (next_code ++ end_code))
    from_inside = stands_back g.target start (for_begin g.scope head.control) (body_code ++ (next_code ++ end_code)) from_begin

    from_next : Stands g.target behind (next_code ++ end_code)
    from_next = stands_back g.target (start + 2) body_code (next_code ++ end_code) from_inside

    from_end : Stands g.target out end_code
    from_end = stands_back g.target behind next_code end_code from_next

    -- behind the body
    turns_back : (n : ℤ) (base : List Cell) (s : effect.State) (bound : ℕ) (same : Bool) → int_eq n l ≡ same → fit n → s.turns < bound → Based g s base
        → Comes g.target 4 (on g (base ++ hold n) behind s) (on g (base ++ hold n) (if not same then behind + 4 else out) s)
        → Rounds g fit hold start out (hold l) 0 bound (on g (base ++ hold n) behind s) (give (if same then None else Some (next_value head.direction n))) s
    turns_back n base s bound true is fits fewer based came =
        round_over g fit hold start out (hold l) 0 bound 4 _ base s based (omega arith)
        (subst (λ m. Comes g.target 4 (on g (base ++ hold n) behind s) (on g (base ++ hold m) out s)) (last_is n l is) came)
    turns_back n base s bound false is fits fewer based came =
        let next = next_fits head.direction n l fits.0 fit_last fits.1 is in
        let p : behind + 1 + 1 + 1 + 1 ≡ behind + 4 = omega arith in
        let rest = from_next.1.1.1.1 in
        let again = stepped g s base held n l head.direction (behind + 1 + 1 + 1 + 1) start based high enough fits.0 next.fits rest.0 rest.1.0 rest.1.1.0
        rest.1.1.1.0 rest.1.1.1.1.0 in
        round_again g fit hold start out (hold l) 0 bound 5 _ (next_value head.direction n) base s based (omega arith) fewer (next.fits, next.has)
        (comes_on g.target 4 1 _ _ _ came
        (subst (λ q. Comes g.target 1 (on g (base ++ hold n) q s) (on g (base ++ hold (next_value head.direction n)) start s)) p again))

    for_round_runs : (first : ℤ) → RoundRuns g fit hold start out (hold l) (round first)
    for_round_runs first n base s fits based =
        let s1 : effect.State = record s { store = kept s.store (g.environment.variables head.control) (value.Number n) } in
        let base1 = slice_set base (slot g head.control scalar) (Number n) in
        let based1 = variable_kept g head.control scalar s base n based fits.0 in
        turn_then g fit hold start out (hold l) s.turns body_code (next_code ++ end_code) (start + 2) _ (on g (base1 ++ hold n) (start + 2) s) (hold n)
        (effect_of body.0 (around (after_turns g (finished first n)))) (value_behind head.direction l n) s1 refl
        (comes_less g.target 1 2 _ _ (omega arith)
        (begins g s base held n l based high enough head.control start scalar fits.0 from_begin.0 from_begin.1.0)) (omega arith)
        ((exact_around (after_turns g (finished first n))).statements body.0) from_inside
        (λ left fewer inside.
        above_held g (finished first n) known body few good held (Number n ∷ Number l ∷ []) high (omega arith) (start + 2) base1
        (record s1 { turns = left }) inside
        (later g left s1 base1 fewer based1))
        (λ base2 u rest based2 fewer.
        turns_back n base2 u s.turns (int_eq n l) refl fits fewer based2
        (decides g u base2 held n l based2 high enough instr.NotEqual (frames.of_two dyadic.NotEqual) (not (int_eq n l)) behind out
        rest.0 rest.1.0 rest.1.1.0 rest.1.1.1.0 refl refl))

    -- behind the loop
    leaves_it : (n : ℤ) (base : List Cell) (s : effect.State) → Fits n → Based g s base
        → Executes g (on g (base ++ hold n) out s) held (out + 4) undefined s
    leaves_it n base s fits based =
        inr (done g 4 _ (slice_set base (slot g head.control scalar) Undefined) held (out + 4)
        (record s { store = forgotten s.store (g.environment.variables head.control) }) (variable_forgotten g head.control scalar s base based)
        (leaves g s base held n l based high enough head.control out scalar fits fit_last from_end.0 from_end.1.0 from_end.1.1.0 from_end.1.1.1.0))

    module _ (site_first : head.first.fits.site < length g.tree.sites.items) (site_last : head.last.fits.site < length g.tree.sites.items) where
      -- the tests of the bounds, and the rounds
      tested : (n : ℤ) (base : List Cell) (s : effect.State) → Fits n → has_values head.direction n l ≡ true → Based g s base
          → Executes g (on g (base ++ hold n) (place + 4) s) (hold l) out (rounds n) s
      tested n base s fits has based =
          let here = base ++ hold n in
          let one = held ++ Number n ∷ [] in
          let rest = stands.1.1.1.1 in
          let full = based.full in
          let long : length here ≡ g.below + length held + 2 = omega (arith, length-append base (hold n), length-append held (Number n ∷ Number l ∷ [])) in
          let four = place + 1 + 1 + 1 + 1 in
          let six = four + 1 + 1 in
          let p : four ≡ place + 4 = omega arith in
          let q : six + 1 + 1 ≡ start = omega arith in
          let split : here ≡ (base ++ one) ++ Number l ∷ [] = ap (λ cs. base ++ cs) (sym (append_assoc held (Number n ∷ []) (Number l ∷ [])))
          ∙ sym (append_assoc base one (Number l ∷ [])) in
          let a = loads_held g s base held (Number n ∷ Number l ∷ []) [] here 0 (Number n) four based high (sym (append-nil here)) refl (omega arith) rest.0 in
          let b = stores_held g s base held (Number n ∷ Number l ∷ []) (here ++ Number n ∷ []) 0 (Number n) six based high refl (omega arith) (omega arith)
          rest.1.1.0 in
          let looping = subst (λ m. Executes g (on g here m s) (hold l) out (effect.looped (round n) n) s) (sym q)
          (loops g fit hold start out (hold l) (round n) ((goes_around g).fors head n l body.0)
          (λ m. exact_for_round (around g) (exact_around g) head n l body.0 (λ k. (exact_around (after_turns g (finished n k))).statements body.0) m)
          (for_round_runs n) n base s (fits, has) based) in
          let last_test : Action (Unit {0}) = require (effect.is_in head.last.fits.range (value.Number l)) head.last.fits.site
          >>= λ _. effect.looped (round n) n in
          let last_here = subst (λ cs. Executes g (on g cs (six + 1) s) (hold l) out last_test s) (sym split)
          (range_then g (kept_on g (hold l) out) head.last.fits l (base ++ one) (six + 1) s (effect.looped (round n) n) rest.1.1.1.0 site_last
          (linked g s base one based) fit_last
          (λ _. subst (λ cs. Executes g (on g cs (six + 1 + 1) s) (hold l) out (effect.looped (round n) n) s) split looping)) in
          subst (λ m. Executes g (on g here m s) (hold l) out (rounds n) s) p
          (runs_from g (kept_on g (hold l) out) 1 _ _ (rounds n) s a
          (range_then g (kept_on g (hold l) out) head.first.fits n here (four + 1) s last_test rest.1.0 site_first
          (linked g s base (hold n) based) fits (λ _. runs_from g (kept_on g (hold l) out) 1 _ _ last_test s b last_here)))

      -- from the values of the bounds on
      from_bounds : (n : ℤ) (base : List Cell) (s : effect.State) (has : Bool) → has_values head.direction n l ≡ has → Fits n → Based g s base
          → Comes g.target 4 (on g (base ++ hold n) place s) (on g (base ++ hold n) (if has then place + 4 else out) s)
          → Executes g (on g (base ++ hold n) place s) held (out + 4) ((if has then rounds n else give tt) >>= λ _. undefined) s
      from_bounds n base s true has fits based came =
          runs_from g (kept_on g held (out + 4)) 4 _ _ (rounds n >>= λ _. undefined) s came
          (then_runs g (kept_on g (hold l) out) (kept_on g held (out + 4)) _ (rounds n) (λ _. undefined) s ((exact_around g).counted head body.0 n l)
          (tested n base s fits has based) (λ _ t x le. leaves_it l x.0 t fit_last x.1))
      from_bounds n base s false has fits based came = runs_from g (kept_on g held (out + 4)) 4 _ _ undefined s came (leaves_it n base s fits based)

      for_between_runs : (n : ℤ) (base : List Cell) (s : effect.State) → Fits n → Based g s base
          → Executes g (on g (base ++ hold n) place s) held (out + 4) (for_between head (effect_of body.0) (around g) n l >>= λ _. undefined) s
      for_between_runs n base s fits based =
          from_bounds n base s (has_values head.direction n l) refl fits based
          (ordered g s base held n l head.direction place out based high enough stands.0 stands.1.0 stands.1.1.0 stands.1.1.1.0)

for_runs : (g : Setting) (known : CallsRun g.depth) (head : ForHead) (body : (s : Stmt) × StmtRuns s) → repeats body.0 ≤ g.slack
    → ExecutesAs g (for_code head (stmt_code body.0))
    (max (max (expr_depth head.first.value) (expr_depth head.last.value + 1)) (max 4 (stmt_depth body.0 + 2)))
    (record {
      well = is_control (outline g) g.number head.control && (is_well_formed_expr (outline g) g.number head.first.value
          && (fits_target (outline g) g.number head.first.fits (AtVariable head.control) [] && (is_well_formed_expr (outline g) g.number head.last.value
          && (fits_target (outline g) g.number head.last.fits (AtVariable head.control) [] && is_well_formed_stmt (outline g) g.number body.0))));
      held = is_ordinal_expr head.first.value && (is_ordinal_expr head.last.value && is_held_stmt body.0);
      there = all_begins head.first.value g.opened && (all_begins head.last.value g.opened && begins_in body.0 g.opened);
      strings = compares_strings g.tree.types head.first.value && (compares_strings g.tree.types head.last.value && compares_in g.tree.types body.0);
    })
    (λ e. effect.enter head.number e.visible >>= λ _. value_of head.first.value e >>= λ a. value_of head.last.value e >>= λ b.
    for_between head (effect_of body.0) e (number_of a) (number_of b) >>= λ _. effect.undefine (e.visible.variables head.control))
for_runs g known head body few place base held s stands good based high deep =
    let s1 = entered g head.number s in
    let first = head.first.value in
    let last = head.last.value in
    let a = expr_code g.scope first in
    let b = expr_code g.scope last in
    let test = place + length a + length b in
    let inside = test + 8 + 2 in
    let end = inside + length (stmt_code body.0 (holding 2 g.scope) inside) + 9 + 4 in
    let e : end ≡ place + length (for_code head (stmt_code body.0) g.scope place) =
    omega (arith, length-For head (stmt_code body.0) g.scope place) in
    let p1 = and_parts (is_control (outline g) g.number head.control) _ good.0 in
    let p2 = and_parts (is_well_formed_expr (outline g) g.number first) _ p1.1 in
    let p3 = and_parts (fits_target (outline g) g.number head.first.fits (AtVariable head.control) []) _ p2.1 in
    let p4 = and_parts (is_well_formed_expr (outline g) g.number last) _ p3.1 in
    let p5 = and_parts (fits_target (outline g) g.number head.last.fits (AtVariable head.control) []) (is_well_formed_stmt (outline g) g.number body.0) p4.1 in
    let h1 = and_parts (is_ordinal_expr first) (is_ordinal_expr last && is_held_stmt body.0) good.1 in
    let h2 = and_parts (is_ordinal_expr last) (is_held_stmt body.0) h1.1 in
    let b1 = and_parts (all_begins first g.opened) (all_begins last g.opened && begins_in body.0 g.opened) good.2 in
    let b2 = and_parts (all_begins last g.opened) (begins_in body.0 g.opened) b1.1 in
    let s1' = and_parts (compares_strings g.tree.types first) (compares_strings g.tree.types last && compares_in g.tree.types body.0) good.3 in
    let s2' = and_parts (compares_strings g.tree.types last) (compares_in g.tree.types body.0) s1'.1 in
    let site_of : (fits : RangeTest) → fits_target (outline g) g.number fits (AtVariable head.control) [] ≡ true → fits.site < sites g =
    λ fits well. ltb-true fits.site (sites g)
    (and_parts (nat_lt fits.site (sites g)) _ (and_parts (is_well_formed_test (outline g) g.number fits) _ well).0).0 in
    let scalar = is_scalar g head.control p1.0 in
    let rest : Value → Value → Action (Unit {0}) =
    λ v w. for_between head (effect_of body.0) (around g) (number_of v) (number_of w) >>= λ _. effect.undefine (g.environment.variables head.control) in
    let there : ℕ → Aim (Unit {0}) = λ _. kept_on g held end in
    subst (λ q. Executes g (on g (base ++ held) place s) held q (value_of first (around g) >>= (λ v. value_of last (around g) >>= λ w. rest v w)) s1) e
    (expr_then g (known g refl) there first _ place base held (λ v. value_of last (around g) >>= λ w. rest v w) s1 stands
    (ordinal_good g first (p2.0, h1.0, b1.0, s1'.0)) based (omega arith)
    (λ base2 n t from_last based2 fit room2 le.
    let v = value.Number n in
    let more : length (held ++ Number n ∷ []) ≡ length held + 1 = length_one held (Number n) in
    subst (λ cells. Executes g (on g cells (place + length a) t) held end (value_of last (around g) >>= (rest v)) t) (one_held g base2 held (Number n))
    (expr_then g (known g refl) there last _ (place + length a) base2 (held ++ Number n ∷ []) (rest v) t from_last
    (ordinal_good g last (p4.0, h2.0, b2.0, s2'.0)) based2 (omega (arith, more))
    (λ base3 l u from_entry based3 fit' room3 fewer.
    let w = value.Number l in
    let two : (base3 ++ (held ++ Number n ∷ [])) ++ Number l ∷ [] ≡ base3 ++ (held ++ Number n ∷ Number l ∷ []) =
    append_assoc base3 (held ++ Number n ∷ []) (Number l ∷ []) ∙ ap (λ cs. base3 ++ cs) (append_assoc held (Number n ∷ []) (Number l ∷ [])) in
    subst (λ cells. Executes g (on g cells test u) held end (rest v w) u) (sym two)
    (for_between_runs g known head scalar body few (p5.1, h2.1, b2.1, s2'.1) test held high (omega arith) l fit' from_entry (site_of head.first.fits p3.0)
    (site_of head.last.fits p5.0) n base3 u fit based3)))))

-- ---- a case statement

module _ (g : Setting) (known : CallsRun g.depth) (site : ℕ) (within : site < length g.tree.sites.items) (out : ℕ) (held : List Cell)
    (high : AllHeld g held) (n : ℤ) (fail : ℕ) (failing : StandsAt g.target fail (instr.Fail site) (g.target.is_open site)) where
  abbrev index : List Cell
  index = held ++ Number n ∷ []

  no_arm : (place : ℕ) (base : List Cell) (s : effect.State) → place + 0 ≡ fail
      → Executes g (on g (base ++ index) place s) index out (effect.stop (ending.Error site)) s
  no_arm place base s at =
      let e : fail ≡ place = omega (arith, at) in
      inr (fails g (instr.Fail site) (base ++ index) place site s _ refl refl s.turns
      (subst (λ p. StandsAt g.target p (instr.Fail site) (g.target.is_open site)) e failing) within refl)

  arms_run : (rows : List (Vec ℤ)) (arms : List ((s : Stmt) × StmtRuns s)) (before place : ℕ) (base : List Cell) (s : effect.State)
      → fold max before (map repeats (bare arms)) ≤ g.slack
      → Good (stmts_shape g (bare arms))
      → g.below + length held + max 3 (arms_depth rows (map stmt_depth (bare arms)) + 1) ≤ g.limit → Based g s base
      → Stands g.target place (arms_code g.scope out rows (map stmt_code (bare arms)) place)
      → place + length (arms_code g.scope out rows (map stmt_code (bare arms)) place) ≡ fail
      → Executes g (on g (base ++ index) place s) index out (arm_of site rows (map effect_of (bare arms)) n (around g)) s
  arms_run [] arms before place base s few good deep based stands at = no_arm place base s at
  arms_run (row ∷ rows) [] before place base s few good deep based stands at = no_arm place base s at
  arms_run (row ∷ rows) (arm ∷ arms) before place base s few good deep based stands at =
      let others = bare arms in
      let least = start_within (max before (repeats arm.0)) (map repeats others) in
      let inside = place + length (row_code g.scope 0 row.items) + 1 in
      let code = stmt_code arm.0 (holding 1 g.scope) inside in
      let next = inside + length code + 1 in
      let compared = row_code g.scope inside row.items in
      let rest = arms_code g.scope out rows (map stmt_code others) next in
      let same = length-row g.scope inside 0 row.items in
      let e : place + length compared + 1 ≡ inside = omega (arith, same) in
      let end : next + length rest ≡ fail =
      omega (arith, at, same, length-append compared (instr.Jump next ∷ (code ++ (instr.Jump out ∷ rest))), length-append code (instr.Jump out ∷ rest)) in
      let jump = stands_back g.target place compared (instr.Jump next ∷ (code ++ (instr.Jump out ∷ rest))) stands in
      let from_arm = subst (λ p. Stands g.target p (code ++ (instr.Jump out ∷ rest))) e jump.1 in
      let parts = good_parts (stmt_shape g arm.0) (stmts_shape g others) good in
      let result : Bool → Action (Unit {0}) = λ b. if b then effect_of arm.0 (around g) else arm_of site rows (map effect_of others) n (around g) in
      (elim (is_among row.items n) as (λ b. Comes g.target 0 (on g (base ++ index) place s)
      (on g (base ++ index) (if b then inside else place + length compared) s)
      → Executes g (on g (base ++ index) place s) index out (result b) s) [
        | true ↦ λ there.
            runs_from g (kept_on g index out) 0 _ _ (effect_of arm.0 (around g)) s there
            (done_jumps g code rest inside out _ index (effect_of arm.0 (around g)) s from_arm
            (λ front. above_held g g.environment.turns known arm (omega arith) parts.0 held (Number n ∷ []) high
            (omega (arith, deep)) inside base s front based))
        | false ↦ λ there.
            runs_from g (kept_on g index out) 1 _ _ (arm_of site rows (map effect_of others) n (around g)) s
            (comes_on g.target 0 1 _ _ _ there (jumps g next (base ++ index) (place + length compared) s jump.0))
            (arms_run rows arms (max before (repeats arm.0)) next base s few parts.1 (omega arith) based
            (stands_back g.target inside code (instr.Jump out ∷ rest) from_arm).1 end)
      ]) (compares_row g s base held n based high (omega arith) row.items inside place
      (stands_front g.target place compared (instr.Jump next ∷ (code ++ (instr.Jump out ∷ rest))) stands))

case_runs : (g : Setting) (known : CallsRun g.depth) (head : CaseHead) (arms : List ((s : Stmt) × StmtRuns s)) → greatest (map repeats (bare arms)) ≤ g.slack
    → ExecutesAs g (case_code head (map stmt_code (bare arms)))
    (max (expr_depth head.index) (max 3 (arms_depth head.constants.items (map stmt_depth (bare arms)) + 1)))
    (record {
      well = nat_lt head.site (sites g) && (is_well_formed_expr (outline g) g.number head.index && (list_all are_whole head.constants.items && all_hold (map
          (is_well_formed_stmt (outline g) g.number) (bare arms))));
      held = is_ordinal_expr head.index && all_hold (map is_held_stmt (bare arms));
      there = all_begins head.index g.opened && all_begin (map begins_in (bare arms)) g.opened;
      strings = compares_strings g.tree.types head.index && all_hold (map (compares_in g.tree.types) (bare arms));
    })
    (λ e. effect.enter head.number e.visible >>= λ _. value_of head.index e >>= λ v.
    arm_of head.site head.constants.items (map effect_of (bare arms)) (number_of v) e)
case_runs g known head arms few place base held s stands good based high deep =
    let s1 = entered g head.number s in
    let rows = head.constants.items in
    let test = expr_code g.scope head.index in
    let codes = map stmt_code (bare arms) in
    let first = place + length test in
    let out = first + length (arms_code g.scope 0 rows codes first) + 1 in
    let all = arms_code g.scope out rows codes first in
    let pop = instr.JumpIfFalse (out + 1) ∷ [] in
    let same : first + length all + 1 ≡ out = ap (λ m. first + m + 1) (length-arms g.scope rows codes out 0 first) in
    let p1 = and_parts (nat_lt head.site (sites g)) _ good.0 in
    let h1 = and_parts (is_ordinal_expr head.index) (all_hold (map is_held_stmt (bare arms))) good.1 in
    let b1 = and_parts (all_begins head.index g.opened) (all_begin (map begins_in (bare arms)) g.opened) good.2 in
    let s1' = and_parts (compares_strings g.tree.types head.index) (all_hold (map (compares_in g.tree.types) (bare arms))) good.3 in
    let p2 = and_parts (is_well_formed_expr (outline g) g.number head.index) _ p1.1 in
    let p3 = and_parts (list_all are_whole rows) (all_hold (map (is_well_formed_stmt (outline g) g.number) (bare arms))) p2.1 in
    let within = ltb-true head.site (sites g) p1.0 in
    let next : Value → Action (Unit {0}) = λ v. arm_of head.site rows (map effect_of (bare arms)) (number_of v) (around g) in
    expr_then g (known g refl) (kept_on g held) head.index (all ++ (instr.Fail head.site ∷ pop)) place base held next s1 stands
    (ordinal_good g head.index (p2.0, h1.0, b1.0, s1'.0)) based (omega arith)
    (λ base2 n t from_arms based2 fit room2 le.
    let v = value.Number n in
    let here = held ++ Number n ∷ [] in
    let end = first + length (all ++ (instr.Fail head.site ∷ pop)) in
    let at_end = stands_back g.target first all (instr.Fail head.site ∷ pop) from_arms in
    let popping = subst (λ p. StandsAt g.target p (instr.JumpIfFalse (out + 1)) true) same at_end.1.0 in
    let e : out + 1 ≡ end = omega (arith, same, length-append all (instr.Fail head.site ∷ pop)) in
    subst (λ cells. Executes g (on g cells first t) held end (next v) t) (one_held g base2 held (Number n))
    (subst (λ q. Executes g (on g (base2 ++ here) first t) held q (next v) t) e
    (behind_executes g _ here held out (out + 1) (next v) t
    (arms_run g known head.site within out held high n (first + length all) at_end.0 rows arms 0 first base2 t few (p3.1, h1.1, b1.1, s1'.1)
    (omega arith) based2
    (stands_front g.target first all (instr.Fail head.site ∷ pop) from_arms) refl)
    (λ base3 u based3.
    subst (λ cells. Comes g.target 0 (on g cells out u) (on g (base3 ++ held) (out + 1) u)) (sym (one_held g base3 held (Number n)))
    (popped_there g (base3 ++ held) n out u popping (linked g u base3 held based3))))))

module _ (x : Stmt-F Stmt) where
  abbrev is_step : Setting → Stmt-F Bool → Bool
  is_step g = stmt_is_well_formed (outline g) g.number

  -- one layer of a statement
  abbrev stmt_layer_shape : Setting → Shape Bool Bool
  stmt_layer_shape g = record {
    well = is_step g (map-Stmt Stmt Bool (fold-Stmt Bool (is_step g)) x);
    held = statement_held (map-Stmt Stmt Bool is_held_stmt x);
    there = statement_begins (map-Stmt Stmt Begin begins_in x) g.opened;
    strings = statement_compares g.tree.types (map-Stmt Stmt Bool (compares_in g.tree.types) x);
  }

  rolled_stmt : ((g : Setting) → CallsRun g.depth → repeats_step (map-Stmt Stmt ℕ repeats x) ≤ g.slack
      → ExecutesAs g (stmt_step (map-Stmt Stmt Placed stmt_code x))
      (stmt_depth_step (map-Stmt Stmt ℕ stmt_depth x)) (stmt_layer_shape g) (effect_step (map-Stmt Stmt Execution effect_of x))) → StmtRuns (roll-Stmt x)
  rolled_stmt runs g known few =
      same_four (ExecutesAs g) (fold-roll-Stmt Placed stmt_step x) (fold-roll-Stmt ℕ stmt_depth_step x)
      (same_shape (fold-roll-Stmt Bool (is_step g) x) (fold-roll-Stmt Bool statement_held x)
      (ap (λ (f : Begin). f g.opened) (fold-roll-Stmt Begin statement_begins x)) (fold-roll-Stmt Bool (statement_compares g.tree.types) x))
      (fold-roll-Stmt Execution effect_step x) (runs g known (subst (λ n. n ≤ g.slack) (fold-roll-Stmt ℕ repeats_step x) few))

stmt_layer : (y : Stmt-F ((s : Stmt) × StmtRuns s)) → StmtRuns (roll-Stmt (map-Stmt ((s : Stmt) × StmtRuns s) Stmt (λ s. s.0) y))
stmt_layer (Empty number) = rolled_stmt (Empty number) (λ g known few. empty_runs g known number)
stmt_layer (Assign assignment) = rolled_stmt (Assign assignment) (λ g known few. assign_runs g (known g refl) assignment)
stmt_layer (Copy copying) = rolled_stmt (Copy copying) (λ g known few. copy_runs g (known g refl) copying)
stmt_layer (Write writing) = rolled_stmt (Write writing) (λ g known few. write_runs g (known g refl) writing)
stmt_layer (Read reading) = rolled_stmt (Read reading) (λ g known few. reading_runs g (known g refl) reading)
stmt_layer (Calling calling) = rolled_stmt (Calling calling) (λ g known few. calling_runs g (known g refl) calling)
stmt_layer (Compound number statements) =
    rolled_stmt (map-Stmt ((s : Stmt) × StmtRuns s) Stmt (λ s. s.0) (Compound number statements))
    (λ g known few. compound_runs g known number statements.items few)
stmt_layer (If number condition consequence None) =
    rolled_stmt (map-Stmt ((s : Stmt) × StmtRuns s) Stmt (λ s. s.0) (If number condition consequence None))
    (λ g known few. if_runs g known number condition consequence.value few)
stmt_layer (If number condition consequence (Some alternative)) =
    rolled_stmt (map-Stmt ((s : Stmt) × StmtRuns s) Stmt (λ s. s.0) (If number condition consequence (Some alternative)))
    (λ g known few. if_else_runs g known number condition consequence.value alternative.value few)
stmt_layer (While head body) =
    rolled_stmt (map-Stmt ((s : Stmt) × StmtRuns s) Stmt (λ s. s.0) (While head body)) (λ g known few. while_runs g known head body.value few)
stmt_layer (Repeat head statements) =
    rolled_stmt (map-Stmt ((s : Stmt) × StmtRuns s) Stmt (λ s. s.0) (Repeat head statements)) (λ g known few. repeat_runs g known head statements.items few)
stmt_layer (For head body) =
    rolled_stmt (map-Stmt ((s : Stmt) × StmtRuns s) Stmt (λ s. s.0) (For head body)) (λ g known few. for_runs g known head body.value few)
stmt_layer (Case head arms) =
    rolled_stmt (map-Stmt ((s : Stmt) × StmtRuns s) Stmt (λ s. s.0) (Case head arms)) (λ g known few. case_runs g known head arms.items few)
stmt_layer (With head body) =
    rolled_stmt (map-Stmt ((s : Stmt) × StmtRuns s) Stmt (λ s. s.0) (With head body)) (λ g known few. with_runs g known head body.value few)

-- the code of a statement keeps store and cells alike, or stops as the statement does
pub stmt_runs : (s : Stmt) → StmtRuns s
stmt_runs = ind-Stmt StmtRuns (λ x y is. subst (λ z. StmtRuns (roll-Stmt z)) is (stmt_layer y))
