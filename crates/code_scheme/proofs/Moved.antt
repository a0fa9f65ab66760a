-- Code whose calls lead to other places is the same code with those places in its calls, so it is as long.
use Rattle.std.proofs.Common.{◌≡◌, ℕ, ◌+◌, Bool, true, false, List, [], ◌∷◌, ◌++◌, length, map, Option, Some, None, if◌then◌else◌, refl, ap, sym, subst, ◌∙◌}
use Rattle.std.specs.Prelude.{ℤ, pos, slice_get, suc, zero}
use Rattle.std.specs.List.{flat_map}
use Rattle.std.specs.Global.{Vec}
use Rattle.std.proofs.lemmas.List.{length-map, map-append}
use Rattle.pcode_assembler.specs.declared.instr.Instr.{Instr}
use Rattle.pcode_assembler.specs.declared.instr.Instr.TheVariants as instr
use Rattle.typed_tree.specs.declared.tree.Access.{Access}
use Rattle.typed_tree.specs.declared.tree.Assignment.{Assignment}
use Rattle.typed_tree.specs.declared.tree.Block.{Block}
use Rattle.typed_tree.specs.declared.tree.Calculation.{Calculation}
use Rattle.typed_tree.specs.declared.tree.Calculation.TheVariants as calculation
use Rattle.typed_tree.specs.declared.tree.Call.{Call}
use Rattle.typed_tree.specs.declared.tree.Copying.{Copying}
use Rattle.typed_tree.specs.declared.tree.Designator.{Designator}
use Rattle.typed_tree.specs.declared.tree.Designator.TheVariants as designator
use Rattle.typed_tree.specs.declared.tree.Direction.{Direction}
use Rattle.typed_tree.specs.declared.tree.Direction.TheVariants as direction
use Rattle.typed_tree.specs.declared.tree.Dyadic.{Dyadic}
use Rattle.typed_tree.specs.declared.tree.Dyadic.TheVariants as dyadic
use Rattle.typed_tree.specs.declared.tree.FunctionResult.{FunctionResult}
use Rattle.typed_tree.specs.declared.tree.Monadic.{Monadic}
use Rattle.typed_tree.specs.declared.tree.Monadic.TheVariants as monadic
use Rattle.typed_tree.specs.declared.tree.Relation.{Relation}
use Rattle.typed_tree.specs.declared.tree.Relation.TheVariants as relation
use Rattle.typed_tree.specs.declared.tree.RangeTest.{RangeTest}
use Rattle.typed_tree.specs.declared.tree.Representation.TheVariants as representation
use Rattle.typed_tree.specs.declared.tree.SetRelation.{SetRelation}
use Rattle.typed_tree.specs.declared.tree.SetRelation.TheVariants as set_relation
use Rattle.typed_tree.specs.declared.tree.Scalar.{Scalar}
use Rattle.typed_tree.specs.declared.tree.Scalar.TheVariants as scalar
use Rattle.typed_tree.specs.declared.tree.WithRecord.{WithRecord}
use Rattle.typed_tree.specs.declared.tree.Selector.{Selector}
use Rattle.typed_tree.specs.declared.tree.Selector.TheVariants.{Element, Field}
use Rattle.typed_tree.specs.declared.tree.Shift.TheVariants as shift
use Rattle.typed_tree.specs.declared.tree.Tree.{Tree}
use Rattle.typed_tree.specs.declared.tree.InputTest.{InputTest}
use Rattle.typed_tree.specs.declared.tree.InputTest.TheVariants as input_test
use Rattle.typed_tree.specs.declared.tree.Readable.{Readable}
use Rattle.typed_tree.specs.declared.tree.Readable.TheVariants as readable
use Rattle.typed_tree.specs.declared.tree.Reading.{Reading}
use Rattle.typed_tree.specs.declared.tree.ReadVariable.{ReadVariable}
use Rattle.typed_tree.specs.declared.tree.Width.{Width}
use Rattle.typed_tree.specs.declared.tree.Whole.{Whole}
use Rattle.typed_tree.specs.declared.tree.Whole.TheVariants.{Text, Variable as VariableOf}
use Rattle.typed_tree.specs.declared.tree.WriteParameter.{WriteParameter}
use Rattle.typed_tree.specs.declared.tree.Writing.{Writing}
use Rattle.typed_tree.specs.declared.tree.Written.{Written}
use Rattle.typed_tree.specs.declared.tree.Written.TheVariants.{Ordinal, String}
use Rattle.typed_tree.specs.declared.tree.Expr.{Expr}
use Rattle.typed_tree.specs.declared.tree.Link.{Link}
use Rattle.typed_tree.specs.declared.tree.Passed.{Passed}
use Rattle.typed_tree.specs.declared.tree.Expr.TheOpen.{Expr-F, Passed-F, Link-F}
use Rattle.typed_tree.specs.declared.tree.Expr.TheOpen.Expr-F.{Constant, Variable, Monadic as MonadicOf, Chain, Compare, Call as CallOf, Set, Input}
use Rattle.typed_tree.specs.declared.tree.Expr.TheOpen.Passed-F.{Value as PassedValue, Whole as PassedWhole, Reference}
use Rattle.typed_tree.specs.declared.tree.Expr.TheViews.{roll-Expr, roll-Passed, roll-Link}
use Rattle.typed_tree.specs.declared.tree.Expr.TheFolds.{map-Expr, map-Passed, map-Link, fold-roll-Expr, fold-roll-Passed, fold-roll-Link, ind-Expr, ind-Passed}
use Rattle.typed_tree.specs.declared.tree.Stmt.{Stmt}
use Rattle.typed_tree.specs.declared.tree.Stmt.TheOpen.{Stmt-F}
use Rattle.typed_tree.specs.declared.tree.Stmt.TheOpen.Stmt-F.{Empty, Assign, Write, Compound, If, While, Repeat, For, Case, Copy, Call as Calling, With, Read}
use Rattle.typed_tree.specs.declared.tree.Stmt.TheViews.{roll-Stmt}
use Rattle.typed_tree.specs.declared.tree.Stmt.TheFolds.{map-Stmt, fold-roll-Stmt, ind-Stmt}
use Rattle.code_scheme.specs.declared.routine.Routine.{Routine}
use Rattle.code_scheme.specs.Calls.{with_call}
use Rattle.code_scheme.specs.Depth.{block_depth}
use Rattle.typed_tree.specs.WellFormed.{length_of}
use Rattle.code_scheme.specs.Scopes.{Scope, access_home, block_scope, count, holding, other_cells, routine_or_none, row_length, with_record, with_records}
use Rattle.code_scheme.specs.Code.{At, By, Placed, Reached, address_code, address_of, arms_code, assign_code, block_code, blocks_code, compare_code, copy_code}
use Rattle.code_scheme.specs.Code.{calculation_code, call_code, designators_code, dyadic_code, records_code, release_code, set_code, set_relation_instr}
use Rattle.code_scheme.specs.Code.{asked_instr, input_code, line_passed_code, read_code, read_instr, variable_read_code}
use Rattle.code_scheme.specs.Code.{single_code, span_code, tested_check, union_code, value_check, with_code, write_code}
use Rattle.code_scheme.specs.Code.{end_code, expr_code, expr_step, fetch_code, field_code, index_codes, joined, line_end_code, link_code, link_step}
use Rattle.code_scheme.specs.Code.{monadic_code}
use Rattle.code_scheme.specs.Code.{next_instr, order_instr, parameter_code, passed_code, passed_step, placed, reached, reached_from, relation_instr, row_code}
use Rattle.code_scheme.specs.Code.{selectors_code, stmt_code, stmt_step, store_code, variable_code, whole_code, width_code, write_instr, written_code}

-- a routine that stands elsewhere
abbrev pub moved_routine : (ℕ → ℕ) → Routine → Routine
moved_routine places routine = record { level = routine.level; cells = routine.cells; place = places routine.place }

-- these routines are those others, which stand elsewhere
abbrev pub AreMoved : (ℕ → ℕ) → List Routine → List Routine → Type 0
AreMoved places here there =
    (block : ℕ) → routine_or_none (slice_get there block) ≡ moved_routine places (routine_or_none (slice_get here block))

module _ (places : ℕ → ℕ) where
  abbrev pub moved : List Instr → List Instr
  moved = map (with_call places)

  -- code without calls
  relation_moved : (r : Relation) → with_call places (relation_instr r) ≡ relation_instr r
  relation_moved relation.Equal = refl
  relation_moved relation.NotEqual = refl
  relation_moved relation.Less = refl
  relation_moved relation.Greater = refl
  relation_moved relation.LessOrEqual = refl
  relation_moved relation.GreaterOrEqual = refl

  set_relation_moved : (r : SetRelation) → with_call places (set_relation_instr r) ≡ set_relation_instr r
  set_relation_moved set_relation.Equal = refl
  set_relation_moved set_relation.NotEqual = refl
  set_relation_moved set_relation.Included = refl
  set_relation_moved set_relation.Includes = refl

  tested_moved : (tested : Scalar) (fits : RangeTest) → with_call places (tested_check tested fits) ≡ tested_check tested fits
  tested_moved scalar.Ordinal fits = refl
  tested_moved scalar.Set fits = refl

  check_moved : (fits : RangeTest) → with_call places (value_check fits) ≡ value_check fits
  check_moved fits = tested_moved fits.tests fits

  single_moved : (site : ℕ) (some : Bool) → moved (single_code site ++ union_code some) ≡ single_code site ++ union_code some
  single_moved site true = refl
  single_moved site false = refl

  span_moved : (site : ℕ) (some : Bool) → moved (span_code site ++ union_code some) ≡ span_code site ++ union_code some
  span_moved site true = refl
  span_moved site false = refl

  release_moved : (n place : ℕ) → moved (release_code n place) ≡ release_code n place
  release_moved zero place = refl
  release_moved (suc n) place = ap (λ c. instr.JumpIfFalse (place + 1) ∷ c) (release_moved n (place + 1))

  calculation_moved : (does : Calculation) → moved (calculation_code does) ≡ calculation_code does
  calculation_moved calculation.Same = refl
  calculation_moved calculation.Negative = refl
  calculation_moved calculation.Complement = refl
  calculation_moved calculation.Absolute = refl
  calculation_moved (calculation.Square overflow) = refl
  calculation_moved calculation.Parity = refl
  calculation_moved calculation.Ordinal = refl

  monadic_moved : (operation : Monadic) → moved (monadic_code operation) ≡ monadic_code operation
  monadic_moved (monadic.Plain does) = calculation_moved does
  monadic_moved (monadic.Tested fits shift.Same) = refl
  monadic_moved (monadic.Tested fits shift.Next) = refl
  monadic_moved (monadic.Tested fits shift.Previous) = refl

  dyadic_moved : (operation : Dyadic) → moved (dyadic_code operation) ≡ dyadic_code operation
  dyadic_moved (dyadic.Plus overflow) = refl
  dyadic_moved (dyadic.Minus overflow) = refl
  dyadic_moved (dyadic.Times overflow) = refl
  dyadic_moved (dyadic.Div by_zero) = refl
  dyadic_moved (dyadic.Mod by_zero_or_less) = refl
  dyadic_moved dyadic.And = refl
  dyadic_moved dyadic.Or = refl
  dyadic_moved (dyadic.Relation r) = ap (λ i. i ∷ []) (relation_moved r)
  dyadic_moved dyadic.Union = refl
  dyadic_moved dyadic.Difference = refl
  dyadic_moved dyadic.Intersection = refl
  dyadic_moved (dyadic.SetRelation r) = ap (λ i. i ∷ []) (set_relation_moved r)
  dyadic_moved dyadic.In = refl

  field_moved : (before : ℕ) → moved (field_code before) ≡ field_code before
  field_moved zero = refl
  field_moved (suc n) = refl

  write_moved : (value : Written) → with_call places (write_instr value) ≡ write_instr value
  write_moved (Ordinal value representation.Char) = refl
  write_moved (Ordinal value representation.Integer) = refl
  write_moved (Ordinal value representation.Boolean) = refl
  write_moved (String value indexes) = refl

  line_end_moved : (ends_line : Bool) → moved (line_end_code ends_line) ≡ line_end_code ends_line
  line_end_moved true = refl
  line_end_moved false = refl

  -- what reads
  read_instr_moved : (reads : Readable) (point : ℕ) → with_call places (read_instr reads point) ≡ read_instr reads point
  read_instr_moved readable.Integer point = refl
  read_instr_moved readable.Char point = refl

  input_moved : (one : ReadVariable) → moved (input_code one) ≡ input_code one
  input_moved one = ap (λ i. i ∷ instr.CheckInput one.point one.range.first one.range.last ∷ []) (read_instr_moved one.reads one.point)

  line_passed_moved : (line : Option ℕ) → moved (line_passed_code line) ≡ line_passed_code line
  line_passed_moved None = refl
  line_passed_moved (Some point) = refl

  asked_moved : (asks : InputTest) → with_call places (asked_instr asks) ≡ asked_instr asks
  asked_moved input_test.End = refl
  asked_moved (input_test.LineEnd point) = refl

  order_moved : (way : Direction) → with_call places (order_instr way) ≡ order_instr way
  order_moved direction.To = refl
  order_moved direction.DownTo = refl

  next_moved : (way : Direction) → with_call places (next_instr way) ≡ next_instr way
  next_moved direction.To = refl
  next_moved direction.DownTo = refl

  row_moved : (scope : Scope) (arm : ℕ) (row : List ℤ) → moved (row_code scope arm row) ≡ row_code scope arm row
  row_moved scope arm [] = refl
  row_moved scope arm (constant ∷ row) = simp (row_moved scope arm row)

  constants_moved : (characters : List ℕ) → moved (map (λ c. instr.LoadConstant (pos c)) characters) ≡ map (λ c. instr.LoadConstant (pos c)) characters
  constants_moved [] = refl
  constants_moved (c ∷ characters) = ap (λ is. instr.LoadConstant (pos c) ∷ is) (constants_moved characters)

  -- pieces of code
  abbrev all_moved : List (List Instr) → List (List Instr)
  all_moved = map moved

  joined_moved : (codes : List (List Instr)) → joined (all_moved codes) ≡ moved (joined codes)
  joined_moved [] = refl
  joined_moved (code ∷ codes) = ap (λ c. moved code ++ c) (joined_moved codes) ∙ sym (map-append (with_call places) code (joined codes))

  selectors_moved : (selectors : List Selector) (codes : List (List Instr))
      → selectors_code selectors (all_moved codes) ≡ moved (selectors_code selectors codes)
  selectors_moved [] codes = refl
  selectors_moved (Field position before ∷ selectors) codes = simp (map-append, field_moved, selectors_moved selectors codes)
  selectors_moved (Element fits cells ∷ selectors) [] = selectors_moved selectors []
  selectors_moved (Element fits cells ∷ selectors) (code ∷ codes) = simp (map-append, selectors_moved selectors codes)

  -- a set constructor
  designators_moved : (some : Bool) (designators : List Designator) (codes : List (List Instr))
      → designators_code some designators (all_moved codes) ≡ moved (designators_code some designators codes)
  designators_moved some [] codes = refl
  designators_moved some (designator.Single site ∷ others) [] = refl
  designators_moved some (designator.Single site ∷ others) (value ∷ codes) =
      let set = single_code site ++ union_code some in
      let rest = designators_code true others codes in
      ap (λ c. moved value ++ (set ++ c)) (designators_moved true others codes)
      ∙ ap (λ c. moved value ++ (c ++ moved rest)) (sym (single_moved site some))
      ∙ ap (λ c. moved value ++ c) (sym (map-append (with_call places) set rest))
      ∙ sym (map-append (with_call places) value (set ++ rest))
  designators_moved some (designator.Range site ∷ others) [] = refl
  designators_moved some (designator.Range site ∷ others) (first ∷ []) = refl
  designators_moved some (designator.Range site ∷ others) (first ∷ last ∷ codes) =
      let set = span_code site ++ union_code some in
      let rest = designators_code true others codes in
      ap (λ c. moved first ++ (moved last ++ (set ++ c))) (designators_moved true others codes)
      ∙ ap (λ c. moved first ++ (moved last ++ (c ++ moved rest))) (sym (span_moved site some))
      ∙ ap (λ c. moved first ++ (moved last ++ c)) (sym (map-append (with_call places) set rest))
      ∙ ap (λ c. moved first ++ c) (sym (map-append (with_call places) last (set ++ rest)))
      ∙ sym (map-append (with_call places) first (last ++ (set ++ rest)))

  set_moved : (designators : List Designator) (codes : List (List Instr)) → set_code designators (all_moved codes) ≡ moved (set_code designators codes)
  set_moved [] codes = refl
  set_moved (first ∷ others) codes = designators_moved false (first ∷ others) codes

  -- what is accessed
  abbrev way_moved : Reached → Reached
  way_moved (At level start) = At level start
  way_moved (By address) = By (moved address)

  address_moved : (way : Reached) → address_of (way_moved way) ≡ moved (address_of way)
  address_moved (At level start) = refl
  address_moved (By address) = refl

  fetch_moved : (way : Reached) → fetch_code (way_moved way) ≡ moved (fetch_code way)
  fetch_moved (At level start) = refl
  fetch_moved (By address) = simp map-append

  store_moved : (value : List Instr) (way : Reached) → store_code (moved value) (way_moved way) ≡ moved (store_code value way)
  store_moved value (At level start) = simp map-append
  store_moved value (By address) = simp map-append

  from_moved : (level start : ℕ) (selectors : List Selector) (codes : List (List Instr))
      → reached_from level start selectors (all_moved codes) ≡ way_moved (reached_from level start selectors codes)
  from_moved level start [] codes = refl
  from_moved level start (selector ∷ selectors) codes =
      ap (λ c. By (instr.LoadAddress level start ∷ c)) (selectors_moved (selector ∷ selectors) codes)

  any_moved : (refers : Bool) (level start place : ℕ) (all behind : List Selector) (codes : List (List Instr))
      → (if refers then By (instr.Load level start ∷ selectors_code all (all_moved codes)) else reached_from level place behind (all_moved codes))
      ≡ way_moved (if refers then By (instr.Load level start ∷ selectors_code all codes) else reached_from level place behind codes)
  any_moved true level start place all behind codes = ap (λ c. By (instr.Load level start ∷ c)) (selectors_moved all codes)
  any_moved false level start place all behind codes = from_moved level place behind codes

  reached_moved : (scope : Scope) (access : Access) (codes : List (List Instr))
      → reached scope access (all_moved codes) ≡ way_moved (reached scope access codes)
  reached_moved scope access codes = any_moved (access_home scope access).refers _ _ _ access.selectors.items _ codes

  whole_moved : (scope : Scope) (value : Whole) (codes : List (List Instr)) → whole_code scope value (all_moved codes) ≡ moved (whole_code scope value codes)
  whole_moved scope (Text number characters) codes = sym (constants_moved characters.items)
  whole_moved scope (VariableOf access type_id cells defined) codes =
      let load = instr.LoadMany _ ∷ instr.CheckDefined defined _ ∷ [] in
      ap (λ way. address_of way ++ load) (reached_moved scope access codes)
      ∙ ap (λ c. c ++ load) (address_moved (reached scope access codes))
      ∙ sym (map-append (with_call places) (address_code scope access codes) load)

  -- in two scopes with the same variables
  module _ (here there : List Routine) (moves : AreMoved places here there) where
    abbrev from : Scope → Scope
    from s = record s { routines = here }

    abbrev to : Scope → Scope
    to s = record s { routines = there }

    call_moved : (s : Scope) (call : Call) (codes : List (List Instr)) → call_code (to s) call (all_moved codes) ≡ moved (call_code (from s) call codes)
    call_moved s call codes = simp (moves, joined_moved, map-append)

    module _ (s : Scope) where
      abbrev ExprMoved : Expr → Type 0
      ExprMoved e = expr_code (to s) e ≡ moved (expr_code (from s) e)

      abbrev PassedMoved : Passed → Type 0
      PassedMoved p = passed_code (to s) p ≡ moved (passed_code (from s) p)

      abbrev LinkMoved : Link → Type 0
      LinkMoved l = link_code (to s) l ≡ moved (link_code (from s) l)

      abbrev HereExpr : Type 0
      HereExpr = (e : Expr) × ExprMoved e

      abbrev HerePassed : Type 0
      HerePassed = (p : Passed) × PassedMoved p

      abbrev HereLink : Type 0
      HereLink = (l : Link) × LinkMoved l

      abbrev bare : Expr-F HereExpr HerePassed HereLink → Expr-F Expr Passed Link
      bare = map-Expr HereExpr HerePassed HereLink Expr Passed Link (λ e. e.0) (λ p. p.0) (λ l. l.0)

      abbrev bare_passed : Passed-F HereExpr HerePassed HereLink → Passed-F Expr Passed Link
      bare_passed = map-Passed HereExpr HerePassed HereLink Expr Passed Link (λ e. e.0) (λ p. p.0) (λ l. l.0)

      abbrev bare_link : Link-F HereExpr HerePassed HereLink → Link-F Expr Passed Link
      bare_link = map-Link HereExpr HerePassed HereLink Expr Passed Link (λ e. e.0) (λ p. p.0) (λ l. l.0)

      -- a row of parts
      rows_moved : {X : Type 0} (f g : X → List Instr) (xs : List ((x : X) × (f x ≡ moved (g x))))
          → map f (map (λ x. x.0) xs) ≡ all_moved (map g (map (λ x. x.0) xs))
      rows_moved f g [] = refl
      rows_moved f g (x ∷ xs) = ap (λ c. c ∷ map f (map (λ y. y.0) xs)) x.1 ∙ ap (λ cs. moved (g x.0) ∷ cs) (rows_moved f g xs)

      rolled : (x : Expr-F Expr Passed Link)
          → expr_step (to s) (map-Expr Expr Passed Link (List Instr) (List Instr) (List Instr) (expr_code (to s)) (passed_code (to s)) (link_code (to s)) x)
          ≡ moved (expr_step (from s)
          (map-Expr Expr Passed Link (List Instr) (List Instr) (List Instr) (expr_code (from s)) (passed_code (from s)) (link_code (from s)) x))
          → ExprMoved (roll-Expr x)
      rolled x same =
          fold-roll-Expr (List Instr) (List Instr) (List Instr) (expr_step (to s)) (passed_step (to s)) link_step x
          ∙ same
          ∙ sym (ap moved (fold-roll-Expr (List Instr) (List Instr) (List Instr) (expr_step (from s)) (passed_step (from s)) link_step x))

      rolled_passed : (x : Passed-F Expr Passed Link)
          → passed_step (to s) (map-Passed Expr Passed Link (List Instr) (List Instr) (List Instr) (expr_code (to s)) (passed_code (to s)) (link_code (to s)) x)
          ≡ moved (passed_step (from s)
          (map-Passed Expr Passed Link (List Instr) (List Instr) (List Instr) (expr_code (from s)) (passed_code (from s)) (link_code (from s)) x))
          → PassedMoved (roll-Passed x)
      rolled_passed x same =
          fold-roll-Passed (List Instr) (List Instr) (List Instr) (expr_step (to s)) (passed_step (to s)) link_step x
          ∙ same
          ∙ sym (ap moved (fold-roll-Passed (List Instr) (List Instr) (List Instr) (expr_step (from s)) (passed_step (from s)) link_step x))

      abbrev codes : List HereExpr → List (List Instr)
      codes indexes = map (expr_code (from s)) (map (λ e. e.0) indexes)

      codes_moved : (indexes : List HereExpr) → map (expr_code (to s)) (map (λ e. e.0) indexes) ≡ all_moved (codes indexes)
      codes_moved indexes = rows_moved (expr_code (to s)) (expr_code (from s)) indexes

      layer : (y : Expr-F HereExpr HerePassed HereLink) → ExprMoved (roll-Expr (bare y))
      layer (Constant number n) = rolled (Constant number n) refl
      layer (Variable access indexes holds defined) =
          rolled (bare (Variable access indexes holds defined))
          (ap (λ cs. variable_code (to s) access cs defined) (codes_moved indexes.items)
          ∙ simp (reached_moved (from s) access (codes indexes.items), fetch_moved, map-append))
      layer (MonadicOf number operation operand) =
          rolled (bare (MonadicOf number operation operand)) (simp (operand.value.1, map-append, monadic_moved))
      layer (Chain first rest) =
          rolled (bare (Chain first rest))
          (ap (λ cs. expr_code (to s) first.value.0 ++ joined cs) (rows_moved (link_code (to s)) (link_code (from s)) rest.items)
          ∙ simp (first.value.1, joined_moved, map-append))
      layer (Compare number r left left_indexes right right_indexes) =
          rolled (bare (Compare number r left left_indexes right right_indexes))
          (ap (λ c. compare_code r (length_of left) c (whole_code (to s) right (map (expr_code (to s)) (map (λ (e : HereExpr). e.0) right_indexes.items))))
          (ap (whole_code (to s) left) (codes_moved left_indexes.items) ∙ whole_moved (from s) left (codes left_indexes.items))
          ∙ ap (compare_code r (length_of left) (moved (whole_code (from s) left (codes left_indexes.items))))
          (ap (whole_code (to s) right) (codes_moved right_indexes.items) ∙ whole_moved (from s) right (codes right_indexes.items))
          ∙ simp (map-append, relation_moved))
      layer (CallOf call actuals) =
          rolled (bare (CallOf call actuals))
          (ap (call_code (to s) call) (rows_moved (passed_code (to s)) (passed_code (from s)) actuals.items)
          ∙ call_moved s call (map (passed_code (from s)) (map (λ (p : HerePassed). p.0) actuals.items)))
      layer (Input number asks) = rolled (Input number asks) (ap (λ i. i ∷ []) (sym (asked_moved asks)))
      layer (Set number designators members) =
          rolled (bare (Set number designators members))
          (ap (set_code designators.items) (codes_moved members.items) ∙ set_moved designators.items (codes members.items))

      passed_layer : (y : Passed-F HereExpr HerePassed HereLink) → PassedMoved (roll-Passed (bare_passed y))
      passed_layer (PassedValue value fits) = rolled_passed (bare_passed (PassedValue value fits)) (simp (value.1, map-append, check_moved))
      passed_layer (PassedWhole type_id value indexes) =
          rolled_passed (bare_passed (PassedWhole type_id value indexes))
          (ap (whole_code (to s) value) (codes_moved indexes.items) ∙ whole_moved (from s) value (codes indexes.items))
      passed_layer (Reference type_id access indexes) =
          rolled_passed (bare_passed (Reference type_id access indexes))
          (ap (address_code (to s) access) (codes_moved indexes.items)
          ∙ ap address_of (reached_moved (from s) access (codes indexes.items))
          ∙ address_moved (reached (from s) access (codes indexes.items)))

      link_layer : (y : Link-F HereExpr HerePassed HereLink) → LinkMoved (roll-Link (bare_link y))
      link_layer y =
          fold-roll-Link (List Instr) (List Instr) (List Instr) (expr_step (to s)) (passed_step (to s)) link_step (bare_link y)
          ∙ (simp (y.operand.1, map-append, dyadic_moved))
          ∙ sym (ap moved (fold-roll-Link (List Instr) (List Instr) (List Instr) (expr_step (from s)) (passed_step (from s)) link_step (bare_link y)))

      expr_moved : (e : Expr) → ExprMoved e
      expr_moved =
          ind-Expr ExprMoved PassedMoved LinkMoved (λ x y is. subst (λ z. ExprMoved (roll-Expr z)) is (layer y))
          (λ x y is. subst (λ z. PassedMoved (roll-Passed z)) is (passed_layer y)) (λ x y is. subst (λ z. LinkMoved (roll-Link z)) is (link_layer y))

      passed_moved : (p : Passed) → PassedMoved p
      passed_moved =
          ind-Passed ExprMoved PassedMoved LinkMoved (λ x y is. subst (λ z. ExprMoved (roll-Expr z)) is (layer y))
          (λ x y is. subst (λ z. PassedMoved (roll-Passed z)) is (passed_layer y)) (λ x y is. subst (λ z. LinkMoved (roll-Link z)) is (link_layer y))

      -- parts of statements
      each_moved : {X : Type 0} (f g : X → List Instr) (same : (x : X) → f x ≡ moved (g x)) (xs : List X) → map f xs ≡ all_moved (map g xs)
      each_moved f g same [] = refl
      each_moved f g same (x ∷ xs) = ap (λ c. c ∷ map f xs) (same x) ∙ ap (λ cs. moved (g x) ∷ cs) (each_moved f g same xs)

      indexes_moved : (indexes : List Expr) → index_codes (to s) indexes ≡ all_moved (index_codes (from s) indexes)
      indexes_moved = each_moved (expr_code (to s)) (expr_code (from s)) expr_moved

      width_moved : (width : Option Width) (value : Written) → width_code (to s) width value ≡ moved (width_code (from s) width value)
      width_moved None (Ordinal value representation) = refl
      width_moved None (String value indexes) = refl
      width_moved (Some width) value = simp (expr_moved width.value, map-append)

      written_moved : (value : Written) → written_code (to s) value ≡ moved (written_code (from s) value)
      written_moved (Ordinal value representation) = expr_moved value
      written_moved (String value indexes) =
          ap (whole_code (to s) value) (indexes_moved indexes.items) ∙ whole_moved (from s) value (index_codes (from s) indexes.items)

      parameters_moved : (ps : List WriteParameter) → flat_map (parameter_code (to s)) ps ≡ moved (flat_map (parameter_code (from s)) ps)
      parameters_moved [] = refl
      parameters_moved (p ∷ ps) =
          simp (written_moved p.value, width_moved p.width p.value, write_moved, map-append, parameters_moved ps)

      assign_moved : (assignment : Assignment) → assign_code (to s) assignment ≡ moved (assign_code (from s) assignment)
      assign_moved assignment =
          let target = assignment.target in
          let value = expr_code (from s) assignment.value in
          let check = value_check assignment.fits ∷ [] in
          let here = index_codes (from s) assignment.indexes.items in
          let way = reached (from s) target here in
          ap (λ c. store_code (c ++ check) (reached (to s) target (index_codes (to s) assignment.indexes.items))) (expr_moved assignment.value)
          ∙ ap (λ cs. store_code (moved value ++ check) (reached (to s) target cs)) (indexes_moved assignment.indexes.items)
          ∙ ap (store_code (moved value ++ check)) (reached_moved (from s) target here)
          ∙ ap (λ i. store_code (moved value ++ (i ∷ [])) (way_moved way)) (sym (check_moved assignment.fits))
          ∙ ap (λ v. store_code v (way_moved way)) (sym (map-append (with_call places) value check))
          ∙ store_moved (value ++ check) way

      copy_moved : (copying : Copying) → copy_code (to s) copying ≡ moved (copy_code (from s) copying)
      copy_moved copying =
          let here = index_codes (from s) copying.indexes.items in
          let within = index_codes (from s) copying.value_indexes.items in
          let target = ap (address_code (to s) copying.target) (indexes_moved copying.indexes.items)
          ∙ ap address_of (reached_moved (from s) copying.target here)
          ∙ address_moved (reached (from s) copying.target here) in
          let value = ap (whole_code (to s) copying.value) (indexes_moved copying.value_indexes.items) ∙ whole_moved (from s) copying.value within in
          let last = instr.StoreMany (row_length (length_of copying.value)) ∷ [] in
          ap (λ c. c ++ (whole_code (to s) copying.value (index_codes (to s) copying.value_indexes.items) ++ last)) target
          ∙ ap (λ c. moved (address_code (from s) copying.target here) ++ (c ++ last)) value
          ∙ simp map-append

      writing_moved : (writing : Writing) → write_code (to s) writing ≡ moved (write_code (from s) writing)
      writing_moved writing =
          ap (λ c. c ++ line_end_code writing.ends_line) (parameters_moved writing.parameters.items)
          ∙ simp (map-append, line_end_moved)

      read_moved : (one : ReadVariable) → variable_read_code (to s) one ≡ moved (variable_read_code (from s) one)
      read_moved one =
          let here = index_codes (from s) one.indexes.items in
          let way = reached (from s) one.access here in
          ap (λ cs. store_code (input_code one) (reached (to s) one.access cs)) (indexes_moved one.indexes.items)
          ∙ ap (store_code (input_code one)) (reached_moved (from s) one.access here)
          ∙ ap (λ c. store_code c (way_moved way)) (sym (input_moved one))
          ∙ store_moved (input_code one) way

      reads_moved : (ones : List ReadVariable) → flat_map (variable_read_code (to s)) ones ≡ moved (flat_map (variable_read_code (from s)) ones)
      reads_moved [] = refl
      reads_moved (one ∷ ones) =
          ap (λ c. c ++ flat_map (variable_read_code (to s)) ones) (read_moved one)
          ∙ ap (λ c. moved (variable_read_code (from s) one) ++ c) (reads_moved ones)
          ∙ sym (map-append (with_call places) (variable_read_code (from s) one) (flat_map (variable_read_code (from s)) ones))

      reading_moved : (reading : Reading) → read_code (to s) reading ≡ moved (read_code (from s) reading)
      reading_moved reading =
          ap (λ c. c ++ line_passed_code reading.line) (reads_moved reading.variables.items)
          ∙ simp (map-append, line_passed_moved)

      calling_moved : (call : Call) (actuals : List Passed)
          → call_code (to s) call (map (passed_code (to s)) actuals) ≡ moved (call_code (from s) call (map (passed_code (from s)) actuals))
      calling_moved call actuals =
          ap (call_code (to s) call) (each_moved (passed_code (to s)) (passed_code (from s)) passed_moved actuals)
          ∙ call_moved s call (map (passed_code (from s)) actuals)

    -- the records of a with, and the scope of its statement
    records_moved : (s : Scope) (records : List WithRecord) → records_code (to s) records ≡ moved (records_code (from s) records)
    records_moved s [] = refl
    records_moved s (one ∷ others) =
        let codes = index_codes (from s) one.indexes.items in
        let rest = records_code (with_record (from s)) others in
        ap (λ cs. address_code (to s) one.access cs ++ records_code (with_record (to s)) others) (indexes_moved s one.indexes.items)
        ∙ ap (λ way. address_of way ++ records_code (with_record (to s)) others) (reached_moved (from s) one.access codes)
        ∙ ap (λ c. c ++ records_code (with_record (to s)) others) (address_moved (reached (from s) one.access codes))
        ∙ ap (λ c. moved (address_code (from s) one.access codes) ++ c) (records_moved (with_record s) others)
        ∙ sym (map-append (with_call places) (address_code (from s) one.access codes) rest)

    opened_by : (routines : List Routine) (n : ℕ) (s : Scope)
        → with_records n (record s { routines = routines }) ≡ record (with_records n s) { routines = routines }
    opened_by routines zero s = refl
    opened_by routines (suc n) s = opened_by routines n (with_record s)

    abbrev StmtMoved : Stmt → Type 0
    StmtMoved x = (s : Scope) (place : ℕ) → stmt_code x (to s) place ≡ moved (stmt_code x (from s) place)

    abbrev HereStmt : Type 0
    HereStmt = (x : Stmt) × StmtMoved x

    abbrev bare_stmt : Stmt-F HereStmt → Stmt-F Stmt
    bare_stmt = map-Stmt HereStmt Stmt (λ x. x.0)

    abbrev bare_stmts : List HereStmt → List Placed
    bare_stmts xs = map stmt_code (map (λ x. x.0) xs)

    rolled_stmt : (x : Stmt-F Stmt) → ((s : Scope) (place : ℕ) → stmt_step (map-Stmt Stmt Placed stmt_code x) (to s) place ≡ moved
        (stmt_step (map-Stmt Stmt Placed stmt_code x) (from s) place)) → StmtMoved (roll-Stmt x)
    rolled_stmt x same s place =
        ap (λ code. code (to s) place) (fold-roll-Stmt Placed stmt_step x)
        ∙ same s place
        ∙ sym (ap (λ code. moved (code (from s) place)) (fold-roll-Stmt Placed stmt_step x))

    placed_moved : (s : Scope) (xs : List HereStmt) (place : ℕ)
        → placed (map (λ code. code (to s)) (bare_stmts xs)) place ≡ moved (placed (map (λ code. code (from s)) (bare_stmts xs)) place)
    placed_moved s [] place = refl
    placed_moved s (x ∷ xs) place = simp (x.1 s place, length-map, map-append, placed_moved s xs)

    arms_moved : (s : Scope) (rows : List (Vec ℤ)) (xs : List HereStmt) (out place : ℕ)
        → arms_code (to s) out rows (bare_stmts xs) place ≡ moved (arms_code (from s) out rows (bare_stmts xs) place)
    arms_moved s [] xs out place = refl
    arms_moved s (row ∷ rows) [] out place = refl
    arms_moved s (row ∷ rows) (x ∷ xs) out place =
        simp (x.1 (holding 1 s), row_moved, length-map, map-append, arms_moved s rows xs)

    -- a with: its records, its statement, and what gives up the addresses
    abbrev with_from : List Instr → ℕ → Placed → Scope → ℕ → List Instr
    with_from addresses n body scope inside = addresses ++ (body scope inside ++ release_code n (inside + length (body scope inside)))

    with_moved : (s : Scope) (records : List WithRecord) (x : HereStmt) (place : ℕ)
        → with_code records (stmt_code x.0) (to s) place ≡ moved (with_code records (stmt_code x.0) (from s) place)
    with_moved s records x place =
        let n = length records in
        let addresses = records_code (from s) records in
        let inside = place + length addresses in
        let opened = with_records n s in
        let code = stmt_code x.0 (from opened) inside in
        let release = release_code n (inside + length code) in
        ap (λ c. with_from c n (stmt_code x.0) (with_records n (to s)) (place + length c)) (records_moved s records)
        ∙ ap (λ l. with_from (moved addresses) n (stmt_code x.0) (with_records n (to s)) (place + l)) (length-map addresses (with_call places))
        ∙ ap (λ scope. with_from (moved addresses) n (stmt_code x.0) scope inside) (opened_by there n s)
        ∙ ap (λ c. moved addresses ++ (c ++ release_code n (inside + length c))) (x.1 opened inside)
        ∙ ap (λ l. moved addresses ++ (moved code ++ release_code n (inside + l))) (length-map code (with_call places))
        ∙ ap (λ c. moved addresses ++ (moved code ++ c)) (sym (release_moved n (inside + length code)))
        ∙ ap (λ c. moved addresses ++ c) (sym (map-append (with_call places) code release))
        ∙ sym (map-append (with_call places) addresses (code ++ release))
        ∙ ap (λ scope. moved (with_from addresses n (stmt_code x.0) scope inside)) (sym (opened_by here n s))

    stmt_layer : (y : Stmt-F HereStmt) → StmtMoved (roll-Stmt (bare_stmt y))
    stmt_layer (Empty number) = rolled_stmt (Empty number) (λ s place. refl)
    stmt_layer (Assign assignment) = rolled_stmt (Assign assignment) (λ s place. assign_moved s assignment)
    stmt_layer (Copy copying) = rolled_stmt (Copy copying) (λ s place. copy_moved s copying)
    stmt_layer (Write writing) = rolled_stmt (Write writing) (λ s place. writing_moved s writing)
    stmt_layer (Read reading) = rolled_stmt (Read reading) (λ s place. reading_moved s reading)
    stmt_layer (Calling calling) = rolled_stmt (Calling calling) (λ s place. calling_moved s calling.call calling.actuals.items)
    stmt_layer (Compound number statements) =
        rolled_stmt (bare_stmt (Compound number statements)) (λ s place. placed_moved s statements.items place)
    stmt_layer (If number condition consequence None) =
        rolled_stmt (bare_stmt (If number condition consequence None)) (λ s place.
        simp (expr_moved s condition, consequence.value.1 s, length-map, map-append))
    stmt_layer (If number condition consequence (Some alternative)) =
        rolled_stmt (bare_stmt (If number condition consequence (Some alternative))) (λ s place.
        simp (expr_moved s condition, consequence.value.1 s, alternative.value.1 s, length-map, map-append))
    stmt_layer (While head body) =
        rolled_stmt (bare_stmt (While head body)) (λ s place.
        simp (expr_moved s head.condition, body.value.1 s, length-map, map-append))
    stmt_layer (Repeat head statements) =
        rolled_stmt (bare_stmt (Repeat head statements)) (λ s place.
        simp (expr_moved s head.condition, placed_moved s statements.items, map-append))
    stmt_layer (For head body) =
        rolled_stmt (bare_stmt (For head body)) (λ s place.
        simp (expr_moved s head.first.value, expr_moved s head.last.value, body.value.1 (holding 2 s), order_moved, next_moved, length-map, map-append))
    stmt_layer (Case head arms) =
        rolled_stmt (bare_stmt (Case head arms)) (λ s place.
        simp (expr_moved s head.index, arms_moved s head.constants.items arms.items, length-map, map-append))
    stmt_layer (With head body) =
        rolled_stmt (bare_stmt (With head body)) (λ s place. with_moved s head.records.items body.value place)

    stmt_moved : (x : Stmt) → StmtMoved x
    stmt_moved = ind-Stmt StmtMoved (λ x y is. subst (λ z. StmtMoved (roll-Stmt z)) is (stmt_layer y))

    -- blocks
    end_moved : (s : Scope) (number : ℕ) (result : Option FunctionResult) → end_code (to s) number result ≡ moved (end_code (from s) number result)
    end_moved s zero result = refl
    end_moved s (suc number) None = refl
    end_moved s (suc number) (Some result) = refl

    pub block_moved : (tree : Tree) (number : ℕ) (block : Block) (place : ℕ)
        → block_code tree number block (block_scope tree there number) place ≡ moved (block_code tree number block (block_scope tree here number) place)
    block_moved tree number block place =
        let s = block_scope tree here number in
        let code = stmt_code block.body s (place + 1) in
        let end = end_code s number block.heading.result in
        ap (λ c. instr.Enter (count (other_cells tree number)) (count (block_depth block)) ∷ (c ++ end)) (stmt_moved block.body s (place + 1))
        ∙ ap (λ e. instr.Enter (count (other_cells tree number)) (count (block_depth block)) ∷ (moved code ++ e))
        (end_moved s number block.heading.result)
        ∙ ap (λ c. instr.Enter (count (other_cells tree number)) (count (block_depth block)) ∷ c) (sym (map-append (with_call places) code end))

    pub blocks_moved : (tree : Tree) (number : ℕ) (blocks : List Block) (place : ℕ)
        → blocks_code tree there number blocks place ≡ moved (blocks_code tree here number blocks place)
    blocks_moved tree number [] place = refl
    blocks_moved tree number (block ∷ blocks) place =
        let code = block_code tree number block (block_scope tree here number) place in
        let rest = blocks_code tree there (suc number) blocks in
        ap (λ c. c ++ rest (place + length c)) (block_moved tree number block place)
        ∙ ap (λ n. moved code ++ rest (place + n)) (length-map code (with_call places))
        ∙ ap (λ c. moved code ++ c) (blocks_moved tree (suc number) blocks (place + length code))
        ∙ sym (map-append (with_call places) code (blocks_code tree here (suc number) blocks (place + length code)))
