-- One walk over a program's code, for a test of each instruction: it is in bounds; and in the code of a well formed
-- program it names a site, a point and an instruction that are there.
use Rattle.std.proofs.Common.{◌≡◌, ℕ, ◌+◌, ◌-◌, ◌<◌, ◌≤◌, min, Bool, true, false, ◌&&◌, nat_le, List, [], ◌∷◌, ◌++◌, length, map, Option, Some, None}
use Rattle.std.proofs.Common.{if◌then◌else◌, refl, ap, sym, subst, ◌∙◌, arith, length-append, append-nil}
use Rattle.std.specs.Prelude.{slice_get, pos, ℤ, zero, suc, nat_eq, nat_lt, ◌||◌}
use Rattle.std.specs.Global.{Vec}
use Rattle.std.specs.List.{list_all, flat_map}
use Rattle.std.specs.Option.{option_and_then}
use Rattle.std.proofs.Math.Nat.{min-le_right}
use Rattle.std.proofs.lemmas.Bool.{and_parts, le-leb, lt-ltb}
use Rattle.std.proofs.lemmas.Option.{none-some}
use Rattle.pcode_assembler.specs.declared.instr.Instr.{Instr}
use Rattle.pcode_assembler.specs.declared.instr.Instr.TheVariants as instr
use Rattle.pcode_assembler.specs.Bounds.{in_bounds, is_level, is_offset}
use Rattle.pcode_assembler.specs.Writable.{EndsInNoCheck, check_site, last_of, names_what_is_there}
use Rattle.typed_tree.specs.declared.tree.Tree.{Tree}
use Rattle.typed_tree.specs.declared.tree.Block.{Block}
use Rattle.typed_tree.specs.declared.tree.Assignment.{Assignment}
use Rattle.typed_tree.specs.declared.tree.Copying.{Copying}
use Rattle.typed_tree.specs.declared.tree.ForHead.{ForHead}
use Rattle.typed_tree.specs.declared.tree.CaseHead.{CaseHead}
use Rattle.typed_tree.specs.declared.tree.Monadic.{Monadic}
use Rattle.typed_tree.specs.declared.tree.Monadic.TheVariants as monadic
use Rattle.typed_tree.specs.declared.tree.Calculation.{Calculation}
use Rattle.typed_tree.specs.declared.tree.Calculation.TheVariants as calculation
use Rattle.typed_tree.specs.declared.tree.Shift.{Shift}
use Rattle.typed_tree.specs.declared.tree.Shift.TheVariants as shift
use Rattle.typed_tree.specs.declared.tree.Dyadic.{Dyadic}
use Rattle.typed_tree.specs.declared.tree.Dyadic.TheVariants as dyadic
use Rattle.typed_tree.specs.declared.tree.Relation.{Relation}
use Rattle.typed_tree.specs.declared.tree.Relation.TheVariants as relation
use Rattle.typed_tree.specs.declared.tree.RangeTest.{RangeTest}
use Rattle.typed_tree.specs.declared.tree.Access.{Access}
use Rattle.typed_tree.specs.declared.tree.Base.{Base}
use Rattle.typed_tree.specs.declared.tree.Base.TheVariants as base
use Rattle.typed_tree.specs.declared.tree.Designator.{Designator}
use Rattle.typed_tree.specs.declared.tree.Designator.TheVariants as designator
use Rattle.typed_tree.specs.declared.tree.SetRelation.{SetRelation}
use Rattle.typed_tree.specs.declared.tree.SetRelation.TheVariants as set_relation
use Rattle.typed_tree.specs.declared.tree.Scalar.{Scalar}
use Rattle.typed_tree.specs.declared.tree.Scalar.TheVariants as scalar
use Rattle.typed_tree.specs.declared.tree.WithRecord.{WithRecord}
use Rattle.typed_tree.specs.declared.tree.Selector.{Selector}
use Rattle.typed_tree.specs.declared.tree.Selector.TheVariants.{Element, Field}
use Rattle.typed_tree.specs.declared.tree.Direction.{Direction}
use Rattle.typed_tree.specs.declared.tree.Direction.TheVariants as direction
use Rattle.typed_tree.specs.declared.tree.Representation.TheVariants as representation
use Rattle.typed_tree.specs.declared.tree.InputTest.{InputTest}
use Rattle.typed_tree.specs.declared.tree.InputTest.TheVariants as input_test
use Rattle.typed_tree.specs.declared.tree.Readable.{Readable}
use Rattle.typed_tree.specs.declared.tree.Readable.TheVariants as readable
use Rattle.typed_tree.specs.declared.tree.ReadVariable.{ReadVariable}
use Rattle.typed_tree.specs.declared.tree.Width.{Width}
use Rattle.typed_tree.specs.declared.tree.WriteParameter.{WriteParameter}
use Rattle.typed_tree.specs.declared.tree.Written.{Written}
use Rattle.typed_tree.specs.declared.tree.Written.TheVariants.{Ordinal, String}
use Rattle.typed_tree.specs.declared.tree.Whole.{Whole}
use Rattle.typed_tree.specs.declared.tree.Whole.TheVariants.{Text, Variable as VariableOf}
use Rattle.typed_tree.specs.declared.tree.Expr.{Expr}
use Rattle.typed_tree.specs.declared.tree.Link.{Link}
use Rattle.typed_tree.specs.declared.tree.Passed.{Passed}
use Rattle.typed_tree.specs.declared.tree.Call.{Call}
use Rattle.typed_tree.specs.declared.tree.FunctionResult.{FunctionResult}
use Rattle.typed_tree.specs.declared.tree.Variable.{Variable as DeclaredVariable}
use Rattle.typed_tree.specs.declared.tree.Expr.TheOpen.{Expr-F, Passed-F, Link-F}
use Rattle.typed_tree.specs.declared.tree.Expr.TheOpen.Expr-F.{Constant, Variable, Monadic as MonadicOf, Chain, Compare, Call as CallOf, Set, Input}
use Rattle.typed_tree.specs.declared.tree.Expr.TheOpen.Passed-F.{Value as PassedValue, Whole as PassedWhole, Reference}
use Rattle.typed_tree.specs.declared.tree.Expr.TheViews.{roll-Expr, roll-Passed, roll-Link}
use Rattle.typed_tree.specs.declared.tree.Expr.TheFolds.{map-Expr, map-Passed, map-Link, fold-roll-Expr, fold-roll-Passed, fold-roll-Link, ind-Expr}
use Rattle.typed_tree.specs.declared.tree.Expr.TheFolds.{ind-Passed}
use Rattle.typed_tree.specs.declared.tree.Stmt.{Stmt}
use Rattle.typed_tree.specs.declared.tree.Stmt.TheOpen.{Stmt-F}
use Rattle.typed_tree.specs.declared.tree.Stmt.TheOpen.Stmt-F.{Empty, Assign, Write, Compound, If, While, Repeat, For, Case, Copy, Call as Calling, With, Read}
use Rattle.typed_tree.specs.declared.tree.Stmt.TheViews.{roll-Stmt}
use Rattle.typed_tree.specs.declared.tree.Stmt.TheFolds.{map-Stmt, fold-roll-Stmt, ind-Stmt}
use Rattle.typed_tree.specs.WellFormed.{Outline, all_hold, are_well_formed_blocks, calculation_is_well_formed, dyadic_is_well_formed, expr_is_well_formed}
use Rattle.typed_tree.specs.WellFormed.{fits_target, is_heading, is_result_or_none, is_well_formed_block, is_well_formed_expr}
use Rattle.typed_tree.specs.WellFormed.{is_well_formed_link, is_well_formed_parameter, is_well_formed_passed, is_well_formed_selector, is_well_formed_stmt}
use Rattle.typed_tree.specs.WellFormed.{is_well_formed_test, is_well_formed_value, is_well_formed_whole, is_well_formed_width, is_well_formed_written}
use Rattle.typed_tree.specs.Accesses.{AtVariable, Origin, index_count, origin_of, root_of}
use Rattle.typed_tree.specs.WellFormed.{are_well_formed, is_well_formed_record, member_site, members_wanted}
use Rattle.typed_tree.specs.WellFormed.{is_well_formed_input, is_well_formed_line, is_well_formed_read}
use Rattle.typed_tree.specs.WellFormed.{are_all, is_parameter_kind, is_placed, is_result_kind, result_roots, is_visible, leads_to, length_of}
use Rattle.typed_tree.specs.WellFormed.{link_is_well_formed, monadic_is_well_formed, outline_of, passed_is_well_formed}
use Rattle.typed_tree.specs.WellFormed.{placed as placed_for, stmt_is_well_formed, whole_indexes}
use Rattle.types.specs.declared.form.TypeId.{TypeId}
use Rattle.code_scheme.specs.declared.home.Home.{Home}
use Rattle.code_scheme.specs.declared.routine.Routine.{Routine}
use Rattle.code_scheme.specs.Scopes.{Scope, access_offset, behind_fields, block_scope, called_routine, count as as_count, fields_offset, held_offset, holding}
use Rattle.code_scheme.specs.Scopes.{home_or_none, homes_from, links_to, offset, other_cells, routine_or_none, row_length, start_of, variable_home}
use Rattle.code_scheme.specs.Scopes.{access_home, begun_home, record_home, with_record, with_records}
use Rattle.code_scheme.specs.Code.{At, By, Reached, address_of, reached, reached_from, fetch_code, store_code, call_code, passed_code, passed_step}
use Rattle.code_scheme.specs.Code.{field_code, selectors_code, address_code, index_codes, assign_code, copy_code, control_offset, case_code}
use Rattle.code_scheme.specs.Code.{joined, placed, Placed, calculation_code, shift_code, monadic_code, relation_instr, dyadic_code, expr_code, link_code}
use Rattle.code_scheme.specs.Code.{expr_step, link_step, check_positive, for_code, if_code, if_else_code, repeat_code, while_code}
use Rattle.code_scheme.specs.Code.{width_code, parameter_code, write_instr, line_end_code, stmt_code, stmt_step, range_check, order_instr, next_instr}
use Rattle.code_scheme.specs.Code.{row_code, arms_code, for_entry, for_begin, for_next, for_end, program_code, compare_code, whole_code}
use Rattle.code_scheme.specs.Code.{written_code, block_code, blocks_code, end_code, routines_from, routines_of}
use Rattle.code_scheme.specs.Code.{designators_code, records_code, release_code, set_code, set_relation_instr, single_code, span_code, tested_check}
use Rattle.code_scheme.specs.Code.{asked_instr, input_code, line_passed_code, read_instr, union_code, variable_read_code, with_code}
use Rattle.code_scheme.specs.Depth.{block_depth}
use Rattle.code_scheme.proofs.Arms.{length-arms, length-row}
use Rattle.code_scheme.proofs.Pieces.{length-For}
use Rattle.code_scheme.proofs.Routines.{block_stands}

-- what passes one test passes another
weaker : (p q : Instr → Bool) → ((i : Instr) → p i ≡ true → q i ≡ true) → (code : List Instr) → list_all p code ≡ true → list_all q code ≡ true
weaker p q so [] h = refl
weaker p q so (i ∷ code) h =
    let parts = and_parts (p i) (list_all p code) h in
    ap (λ b. b && list_all q code) (so i parts.0) ∙ weaker p q so code parts.1

-- what is cut at a bound is in it
cut_at : (n bound : ℕ) → nat_le (min n bound) bound ≡ true
cut_at n bound = le-leb (min n bound) bound (min-le_right n bound)

-- two bounds are met
both : (a b : Bool) → a ≡ true → b ≡ true → (a && b) ≡ true
both a b first second = ap (λ x. x && b) first ∙ second

links_in : (scope : Scope) (level : ℕ) → is_level (links_to scope level) ≡ true
links_in scope level = cut_at (scope.level - level) 15

held_in : (scope : Scope) (n : ℕ) → is_offset (held_offset scope n) ≡ true
held_in scope n = cut_at (scope.next + n) 16777215

-- one record more lies at an offset as well
record_in : (records : List Home) (one : Home) → ((slot : ℕ) → is_offset (home_or_none (slice_get records slot)).start ≡ true)
    → is_offset one.start ≡ true → (slot : ℕ) → is_offset (home_or_none (slice_get (records ++ one ∷ []) slot)).start ≡ true
record_in [] one each its zero = its
record_in [] one each its (suc slot) = refl
record_in (record_home ∷ records) one each its zero = each 0
record_in (record_home ∷ records) one each its (suc slot) = record_in records one (λ n. each (suc n)) its slot

-- what takes addresses away is an instruction for each
length-release : (n place : ℕ) → length (release_code n place) ≡ n
length-release zero place = refl
length-release (suc n) place = omega (arith, length-release n (place + 1))

-- a block's code has an end
end_is_some : (block : ℕ) (scope : Scope) (result : Option FunctionResult) → 1 ≤ length (end_code scope block result)
end_is_some zero scope result = omega arith
end_is_some (suc block) scope None = omega arith
end_is_some (suc block) scope (Some result) = omega arith

-- for a program of this outline, in code of so many instructions; nothing has to be there where the test is lax
module _ (outline : Outline) (count : ℕ) (lax : Bool) where
  -- a test of the program, which need not hold where the test of its code is lax
  record Given (b : Bool) : Type 0 where
    is : (b || lax) ≡ true

  given_parts : (a b : Bool) → Given (a && b) → Given a × Given b
  given_parts true b h = (record { is = refl }, h)
  given_parts false true h = (h, record { is = refl })
  given_parts false false h = (h, h)

  abbrev names : Instr → Bool
  names = names_what_is_there outline.sites outline.points count

  abbrev test : Instr → Bool
  test i = in_bounds i && (names i || lax)

  -- each instruction of some code passes
  abbrev Passes : List Instr → Type 0
  Passes [] = Unit {0}
  Passes (i ∷ is) = (test i ≡ true) × Passes is

  passes_on : (xs ys : List Instr) → Passes xs → Passes ys → Passes (xs ++ ys)
  passes_on [] ys first second = second
  passes_on (x ∷ xs) ys first second = (first.0, passes_on xs ys first.1 second)

  all_pass : (code : List Instr) → Passes code → list_all test code ≡ true
  all_pass [] h = refl
  all_pass (i ∷ code) h = ap (λ b. b && list_all test code) h.0 ∙ all_pass code h.1

  -- an instruction in bounds that names what is there
  meets : (i : Instr) (there : Bool) → in_bounds i ≡ true → names i ≡ there → Given there → test i ≡ true
  meets i there inside same given = ap (λ b. b && (names i || lax)) inside ∙ ap (λ b. b || lax) same ∙ given.is

  -- one that names nothing, and one that jumps
  names_none : (i : Instr) → in_bounds i ≡ true → names i ≡ true → test i ≡ true
  names_none i inside same = meets i true inside same (record { is = refl })

  goes : (i : Instr) (target : ℕ) → in_bounds i ≡ true → names i ≡ (nat_lt target count && true) → target < count → test i ≡ true
  goes i target inside same less = meets i _ inside same (record { is = ap (λ b. (b && true) || lax) (lt-ltb target count less) })

  jumps : (target : ℕ) → target < count → test (instr.Jump target) ≡ true
  jumps target = goes (instr.Jump target) target refl refl

  jumps_if : (target : ℕ) → target < count → test (instr.JumpIfFalse target) ≡ true
  jumps_if target = goes (instr.JumpIfFalse target) target refl refl

  -- one that reads
  given_further : (b : Bool) → Given b → Given (b && true)
  given_further true given = given
  given_further false given = given

  reads : (i : Instr) (point : ℕ) → in_bounds i ≡ true → names i ≡ (nat_lt point outline.points && true)
      → Given (nat_lt point outline.points) → test i ≡ true
  reads i point inside same given = meets i _ inside same (given_further (nat_lt point outline.points) given)

  -- what code reaches
  abbrev ReachedPasses : Reached → Type 0
  ReachedPasses (At level start) = (is_level level ≡ true) × (is_offset start ≡ true)
  ReachedPasses (By address) = Passes address

  address_passes : (r : Reached) → ReachedPasses r → Passes (address_of r)
  address_passes (At level start) h = (names_none (instr.LoadAddress level start) (both _ _ h.0 h.1) refl, tt)
  address_passes (By address) h = h

  fetch_passes : (r : Reached) → ReachedPasses r → Passes (fetch_code r)
  fetch_passes (At level start) h = (names_none (instr.Load level start) (both _ _ h.0 h.1) refl, tt)
  fetch_passes (By address) h = passes_on address _ h (refl, tt)

  store_passes : (value : List Instr) (r : Reached) → Passes value → ReachedPasses r → Passes (store_code value r)
  store_passes value (At level start) valued h = passes_on value _ valued (names_none (instr.Store level start) (both _ _ h.0 h.1) refl, tt)
  store_passes value (By address) valued h = passes_on address _ h (passes_on value _ valued (refl, tt))

  -- codes of index expressions
  abbrev AllPass : List (List Instr) → Type 0
  AllPass [] = Unit {0}
  AllPass (code ∷ codes) = Passes code × AllPass codes

  -- where code runs, each variable begins at an offset, each routine at an instruction, and the address of each record
  -- lies at an offset
  abbrev ScopeIn : Scope → Type 0
  ScopeIn scope =
      ((root : ℕ) → is_offset (variable_home scope root).start ≡ true)
      × (((callee : ℕ) → (called_routine scope callee).place < count) × ((slot : ℕ) → is_offset (record_home scope slot).start ≡ true))

  begun_in : (scope : Scope) → ScopeIn scope → (root : ℕ) (begins : Base) → is_offset (begun_home scope root begins).start ≡ true
  begun_in scope there root base.Variable = there.0 root
  begun_in scope there root (base.Record slot path) = there.1.1 slot

  record_there : (scope : Scope) → ScopeIn scope → ScopeIn (with_record scope)
  record_there scope there = (
    there.0,
    (there.1.0, record_in scope.records (record { level = scope.level; start = held_offset scope 0; refers = true }) there.1.1 (held_in scope 0)),
  )

  records_there : (n : ℕ) (scope : Scope) → ScopeIn scope → ScopeIn (with_records n scope)
  records_there zero scope there = there
  records_there (suc n) scope there = records_there n (with_record scope) (record_there scope there)

  release_passes : (n place : ℕ) → place + n < count → Passes (release_code n place)
  release_passes zero place few = tt
  release_passes (suc n) place few = (jumps_if (place + 1) (omega (arith, few)), release_passes n (place + 1) (omega (arith, few)))

  field_passes : (before : ℕ) → Passes (field_code before)
  field_passes zero = tt
  field_passes (suc n) = (names_none (instr.Increase (offset (suc n))) (cut_at (suc n) 16777215) refl, tt)

  characters_pass : (cs : List ℕ) → Passes (map (λ c. instr.LoadConstant (pos c)) cs)
  characters_pass [] = tt
  characters_pass (c ∷ cs) = (refl, characters_pass cs)

  shift_passes : (does : Shift) → Passes (shift_code does)
  shift_passes shift.Same = tt
  shift_passes shift.Next = (refl, (refl, tt))
  shift_passes shift.Previous = (refl, (refl, tt))

  relation_passes : (r : Relation) → test (relation_instr r) ≡ true
  relation_passes relation.Equal = refl
  relation_passes relation.NotEqual = refl
  relation_passes relation.Less = refl
  relation_passes relation.Greater = refl
  relation_passes relation.LessOrEqual = refl
  relation_passes relation.GreaterOrEqual = refl

  set_relation_passes : (r : SetRelation) → test (set_relation_instr r) ≡ true
  set_relation_passes set_relation.Equal = refl
  set_relation_passes set_relation.NotEqual = refl
  set_relation_passes set_relation.Included = refl
  set_relation_passes set_relation.Includes = refl

  union_passes : (some : Bool) → Passes (union_code some)
  union_passes true = (refl, tt)
  union_passes false = tt

  -- a set constructor whose tests name sites
  designators_pass : (some : Bool) (designators : List Designator) (codes : List (List Instr)) → AllPass codes
      → Given (list_all (λ one. nat_lt (member_site one) outline.sites) designators) → Passes (designators_code some designators codes)
  designators_pass some [] codes each given = tt
  designators_pass some (designator.Single site ∷ others) [] each given = tt
  designators_pass some (designator.Single site ∷ others) (value ∷ codes) each given =
      let parts = given_parts (nat_lt site outline.sites) _ given in
      let set = passes_on (single_code site) (union_code some)
      (meets (instr.CheckRange site (pos 0) (pos 127)) _ refl refl parts.0, (refl, tt)) (union_passes some) in
      passes_on value _ each.0 (passes_on (single_code site ++ union_code some) _ set (designators_pass true others codes each.1 parts.1))
  designators_pass some (designator.Range site ∷ others) [] each given = tt
  designators_pass some (designator.Range site ∷ others) (first ∷ []) each given = tt
  designators_pass some (designator.Range site ∷ others) (first ∷ last ∷ codes) each given =
      let parts = given_parts (nat_lt site outline.sites) _ given in
      let set = passes_on (span_code site) (union_code some)
      (meets (instr.CheckMembers site) _ refl refl parts.0, (refl, tt)) (union_passes some) in
      passes_on first _ each.0
      (passes_on last _ each.1.0 (passes_on (span_code site ++ union_code some) _ set (designators_pass true others codes each.1.1 parts.1)))

  set_passes : (designators : List Designator) (codes : List (List Instr)) → AllPass codes
      → Given (list_all (λ one. nat_lt (member_site one) outline.sites) designators) → Passes (set_code designators codes)
  set_passes [] codes each given = (refl, tt)
  set_passes (first ∷ others) codes each given = designators_pass false (first ∷ others) codes each given

  compare_passes : (r : Relation) (components : ℕ) (left right : List Instr) → Passes left → Passes right → Passes (compare_code r components left right)
  compare_passes r components left right first second =
      passes_on left _ first
      (passes_on right _ second (names_none (instr.Compare (row_length components)) (cut_at components 65536) refl, (refl, (relation_passes r, tt))))

  line_end_passes : (ends_line : Bool) → Passes (line_end_code ends_line)
  line_end_passes true = (refl, tt)
  line_end_passes false = tt

  read_instr_passes : (how : Readable) (point : ℕ) → Given (nat_lt point outline.points) → test (read_instr how point) ≡ true
  read_instr_passes readable.Integer point given = reads (instr.ReadInteger point) point refl refl given
  read_instr_passes readable.Char point given = reads (instr.ReadChar point) point refl refl given

  input_passes : (one : ReadVariable) → Given (nat_lt one.point outline.points) → Passes (input_code one)
  input_passes one given = (
    read_instr_passes one.reads one.point given,
    (reads (instr.CheckInput one.point one.range.first one.range.last) one.point refl refl given, tt),
  )

  -- in a block of this number
  module _ (block : ℕ) where
    abbrev well : Expr → Bool
    well = is_well_formed_expr outline block

    abbrev well_passed : Passed → ℕ → ℕ → Bool
    well_passed = is_well_formed_passed outline block

    abbrev well_link : Link → Bool
    well_link = is_well_formed_link outline block

    abbrev well_stmt : Stmt → Bool
    well_stmt = is_well_formed_stmt outline block

    abbrev well_selectors : List Selector → Bool
    well_selectors = list_all (is_well_formed_selector outline block)

    range_passes : (fits : RangeTest) → Given (is_well_formed_test outline block fits) → test (range_check fits) ≡ true
    range_passes fits given = meets (range_check fits) _ refl refl (given_parts (nat_lt fits.site outline.sites) _ given).0

    tested_passes : (tested : Scalar) (fits : RangeTest) → Given (is_well_formed_test outline block fits) → test (tested_check tested fits) ≡ true
    tested_passes scalar.Ordinal fits given = range_passes fits given
    tested_passes scalar.Set fits given =
        meets (instr.CheckSet fits.site fits.range.first fits.range.last) _ refl refl (given_parts (nat_lt fits.site outline.sites) _ given).0

    target_passes : (fits : RangeTest) (origin : Origin) (selectors : List Selector) → Given (fits_target outline block fits origin selectors)
        → test (range_check fits) ≡ true
    target_passes fits origin selectors given = range_passes fits (given_parts (is_well_formed_test outline block fits) _ given).0

    line_passes : (line : Option ℕ) → Given (is_well_formed_line outline block line) → Passes (line_passed_code line)
    line_passes None given = tt
    line_passes (Some point) given = (reads (instr.ReadLine point) point refl refl given, tt)

    asked_passes : (asks : InputTest) → Given (is_well_formed_input outline block asks) → test (asked_instr asks) ≡ true
    asked_passes input_test.End given = refl
    asked_passes (input_test.LineEnd point) given = reads (instr.EndOfLine point) point refl refl given

    calculation_passes : (does : Calculation) → Given (calculation_is_well_formed outline block does) → Passes (calculation_code does)
    calculation_passes calculation.Same given = tt
    calculation_passes calculation.Negative given = (refl, tt)
    calculation_passes calculation.Complement given = (refl, tt)
    calculation_passes calculation.Absolute given = (refl, tt)
    calculation_passes (calculation.Square overflow) given = (meets (instr.CheckSquare overflow) _ refl refl given, (refl, tt))
    calculation_passes calculation.Parity given = (refl, tt)
    calculation_passes calculation.Ordinal given = tt

    monadic_passes : (operation : Monadic) → Given (monadic_is_well_formed outline block operation) → Passes (monadic_code operation)
    monadic_passes (monadic.Plain does) given = calculation_passes does given
    monadic_passes (monadic.Tested fits does) given = (range_passes fits (given_parts (is_well_formed_test outline block fits) _ given).0, shift_passes does)

    dyadic_passes : (operation : Dyadic) → Given (dyadic_is_well_formed outline block operation) → Passes (dyadic_code operation)
    dyadic_passes (dyadic.Plus overflow) given = (meets (instr.CheckSum overflow) _ refl refl given, (refl, tt))
    dyadic_passes (dyadic.Minus overflow) given = (meets (instr.CheckDifference overflow) _ refl refl given, (refl, tt))
    dyadic_passes (dyadic.Times overflow) given = (meets (instr.CheckProduct overflow) _ refl refl given, (refl, tt))
    dyadic_passes (dyadic.Div by_zero) given = (meets (instr.CheckZero by_zero) _ refl refl given, (refl, tt))
    dyadic_passes (dyadic.Mod by_zero_or_less) given = (meets (check_positive by_zero_or_less) _ refl refl given, (refl, tt))
    dyadic_passes dyadic.And given = (refl, tt)
    dyadic_passes dyadic.Or given = (refl, tt)
    dyadic_passes (dyadic.Relation r) given = (relation_passes r, tt)
    dyadic_passes dyadic.Union given = (refl, tt)
    dyadic_passes dyadic.Difference given = (refl, tt)
    dyadic_passes dyadic.Intersection given = (refl, tt)
    dyadic_passes (dyadic.SetRelation r) given = (set_relation_passes r, tt)
    dyadic_passes dyadic.In given = (refl, tt)

    -- ---- what is accessed

    selectors_pass : (selectors : List Selector) (codes : List (List Instr)) → AllPass codes
        → Given (well_selectors selectors) → Passes (selectors_code selectors codes)
    selectors_pass [] codes each given = tt
    selectors_pass (Field position before ∷ selectors) codes each given =
        passes_on (field_code before) _ (field_passes before) (selectors_pass selectors codes each given)
    selectors_pass (Element fits cells ∷ selectors) [] each given =
        selectors_pass selectors [] each (given_parts (is_well_formed_test outline block fits) _ given).1
    selectors_pass (Element fits cells ∷ selectors) (code ∷ codes) each given =
        let parts = given_parts (is_well_formed_test outline block fits) _ given in
        passes_on code _ each.0 (
          range_passes fits parts.0,
          (names_none (instr.IndexAddress fits.range.first (row_length cells)) (cut_at cells 65536) refl, selectors_pass selectors codes each.1 parts.1),
        )

    behind_given : (selectors : List Selector) → Given (well_selectors selectors) → Given (well_selectors (behind_fields selectors))
    behind_given [] given = given
    behind_given (Field position before ∷ selectors) given = behind_given selectors given
    behind_given (Element fits cells ∷ selectors) given = given

    -- an access that leads to what is wanted has selectors that are well formed
    selectors_given : (wanted : TypeId → Bool) (origin : Origin) (selectors : List Selector) (n : ℕ)
        → Given (leads_to outline block wanted origin selectors n) → Given (well_selectors selectors)
    selectors_given wanted origin selectors n given =
        (given_parts (well_selectors selectors) _
        (given_parts (nat_eq n (index_count selectors)) _ (given_parts (is_visible outline block (root_of origin)) _ given).1).1).0

    from_passes : (level start : ℕ) (selectors : List Selector) (codes : List (List Instr)) → AllPass codes
        → Given (well_selectors selectors) → is_level level ≡ true → is_offset start ≡ true → ReachedPasses (reached_from level start selectors codes)
    from_passes level start [] codes each given near begins = (near, begins)
    from_passes level start (selector ∷ selectors) codes each given near begins =
        (names_none (instr.LoadAddress level start) (both _ _ near begins) refl, selectors_pass (selector ∷ selectors) codes each given)

    any_passes : (refers : Bool) (level start place : ℕ) (selectors : List Selector) (codes : List (List Instr)) → AllPass codes
        → Given (well_selectors selectors) → is_level level ≡ true → is_offset start ≡ true → is_offset place ≡ true
        → ReachedPasses (if refers then By (instr.Load level start ∷ selectors_code selectors codes)
        else reached_from level place (behind_fields selectors) codes)
    any_passes true level start place selectors codes each given near begins inside =
        (names_none (instr.Load level start) (both _ _ near begins) refl, selectors_pass selectors codes each given)
    any_passes false level start place selectors codes each given near begins inside =
        from_passes level place (behind_fields selectors) codes each (behind_given selectors given) near inside

    module _ (scope : Scope) (there : ScopeIn scope) where
      reached_passes : (access : Access) (codes : List (List Instr)) → AllPass codes
          → Given (well_selectors access.selectors.items) → ReachedPasses (reached scope access codes)
      reached_passes access codes each given =
          let home = access_home scope access in
          any_passes home.refers (links_to scope home.level) home.start (access_offset scope access) access.selectors.items codes each given
          (links_in scope home.level) (begun_in scope there access.root access.base) (cut_at (home.start + fields_offset access.selectors.items) 16777215)

      -- a whole value, with these codes of its index expressions, which pass if these tests of them are given
      whole_passes : (value : Whole) (codes : List (List Instr)) (wells : List Bool) (n : ℕ) → (Given (all_hold wells) → AllPass codes)
          → Given (all_hold (whole_indexes value wells)) → Given (is_well_formed_whole outline block value n) → Passes (whole_code scope value codes)
      whole_passes (Text number characters) codes wells n each all given = characters_pass characters.items
      whole_passes (VariableOf access type_id cells defined) codes wells n each all given =
          let parts = given_parts _ _ given in
          let selectors = selectors_given _ (origin_of access) access.selectors.items n parts.0 in
          passes_on (address_code scope access codes) _ (address_passes _ (reached_passes access codes (each all) selectors)) (
            names_none (instr.LoadMany (row_length cells)) (cut_at cells 65536) refl,
            (meets (instr.CheckDefined defined (row_length cells)) _ (cut_at cells 65536) refl (given_parts _ _ parts.1).1, tt),
          )

      -- ---- expressions

      abbrev ExprPasses : Expr → Type 0
      ExprPasses e = Given (well e) → Passes (expr_code scope e)

      abbrev PassedPasses : Passed → Type 0
      PassedPasses p = (callee position : ℕ) → Given (well_passed p callee position) → Passes (passed_code scope p)

      abbrev LinkPasses : Link → Type 0
      LinkPasses l = Given (well_link l) → Passes (link_code scope l)

      -- trees whose parts are known to have such code, and the trees alone
      abbrev ProvedExpr : Type 0
      ProvedExpr = (e : Expr) × ExprPasses e

      abbrev ProvedPassed : Type 0
      ProvedPassed = (p : Passed) × PassedPasses p

      abbrev ProvedLink : Type 0
      ProvedLink = (l : Link) × LinkPasses l

      abbrev bare : List ProvedExpr → List Expr
      bare = map (λ e. e.0)

      abbrev bare_expr : Expr-F ProvedExpr ProvedPassed ProvedLink → Expr-F Expr Passed Link
      bare_expr = map-Expr ProvedExpr ProvedPassed ProvedLink Expr Passed Link (λ e. e.0) (λ p. p.0) (λ l. l.0)

      abbrev bare_passed : Passed-F ProvedExpr ProvedPassed ProvedLink → Passed-F Expr Passed Link
      bare_passed = map-Passed ProvedExpr ProvedPassed ProvedLink Expr Passed Link (λ e. e.0) (λ p. p.0) (λ l. l.0)

      abbrev bare_link : Link-F ProvedExpr ProvedPassed ProvedLink → Link-F Expr Passed Link
      bare_link = map-Link ProvedExpr ProvedPassed ProvedLink Expr Passed Link (λ e. e.0) (λ p. p.0) (λ l. l.0)

      indexes_pass : (indexes : List ProvedExpr) → Given (all_hold (map well (bare indexes))) → AllPass (map (expr_code scope) (bare indexes))
      indexes_pass [] given = tt
      indexes_pass (e ∷ indexes) given =
          let parts = given_parts (well e.0) _ given in
          (e.1 parts.0, indexes_pass indexes parts.1)

      links_pass : (links : List ProvedLink) → Given (all_hold (map well_link (map (λ l. l.0) links)))
          → Passes (joined (map (link_code scope) (map (λ l. l.0) links)))
      links_pass [] given = tt
      links_pass (l ∷ links) given =
          let parts = given_parts (well_link l.0) _ given in
          passes_on (link_code scope l.0) _ (l.1 parts.0) (links_pass links parts.1)

      actuals_pass : (actuals : List ProvedPassed) (callee position : ℕ)
          → Given (all_hold (placed_for callee position (map well_passed (map (λ p. p.0) actuals))))
          → Passes (joined (map (passed_code scope) (map (λ p. p.0) actuals)))
      actuals_pass [] callee position given = tt
      actuals_pass (p ∷ actuals) callee position given =
          let parts = given_parts (well_passed p.0 callee position) _ given in
          passes_on (passed_code scope p.0) _ (p.1 callee position parts.0) (actuals_pass actuals callee (suc position) parts.1)

      call_passes : (call : Call) (pieces : List (List Instr)) → Passes (joined pieces) → Passes (call_code scope call pieces)
      call_passes call pieces inside =
          let routine = called_routine scope call.block in (
            names_none (instr.MarkStack (links_to scope routine.level)) (links_in scope routine.level) refl,
            passes_on (joined pieces) _ inside (
              goes (instr.CallProcedure (row_length routine.cells) routine.place) routine.place (cut_at routine.cells 65536) refl
                  (there.1.0 call.block),
              tt,
            ),
          )

      abbrev Code : Type 0
      Code = List Instr

      abbrev Test : Type 0
      Test = ℕ → ℕ → Bool

      rolled_expr : (x : Expr-F Expr Passed Link)
          → (Given (expr_is_well_formed outline block (map-Expr Expr Passed Link Bool Test Bool well well_passed well_link x))
          → Passes (expr_step scope (map-Expr Expr Passed Link Code Code Code (expr_code scope) (passed_code scope) (link_code scope) x)))
          → ExprPasses (roll-Expr x)
      rolled_expr x h given =
          subst Passes (sym (fold-roll-Expr Code Code Code (expr_step scope) (passed_step scope) link_step x))
          (h (subst Given (fold-roll-Expr Bool Test Bool (expr_is_well_formed outline block) (passed_is_well_formed outline block)
          (link_is_well_formed outline block) x) given))

      rolled_passed : (x : Passed-F Expr Passed Link) → ((callee position : ℕ)
          → Given (passed_is_well_formed outline block (map-Passed Expr Passed Link Bool Test Bool well well_passed well_link x) callee position)
          → Passes (passed_step scope (map-Passed Expr Passed Link Code Code Code (expr_code scope) (passed_code scope) (link_code scope) x)))
          → PassedPasses (roll-Passed x)
      rolled_passed x h callee position given =
          subst Passes (sym (fold-roll-Passed Code Code Code (expr_step scope) (passed_step scope) link_step x))
          (h callee position (subst (λ (t : Test). Given (t callee position)) (fold-roll-Passed Bool Test Bool (expr_is_well_formed outline block)
          (passed_is_well_formed outline block) (link_is_well_formed outline block) x) given))

      rolled_link : (x : Link-F Expr Passed Link)
          → (Given (link_is_well_formed outline block (map-Link Expr Passed Link Bool Test Bool well well_passed well_link x))
          → Passes (link_step (map-Link Expr Passed Link Code Code Code (expr_code scope) (passed_code scope) (link_code scope) x))) → LinkPasses (roll-Link x)
      rolled_link x h given =
          subst Passes (sym (fold-roll-Link Code Code Code (expr_step scope) (passed_step scope) link_step x))
          (h (subst Given (fold-roll-Link Bool Test Bool (expr_is_well_formed outline block) (passed_is_well_formed outline block)
          (link_is_well_formed outline block) x) given))

      expr_layer : (y : Expr-F ProvedExpr ProvedPassed ProvedLink) → ExprPasses (roll-Expr (bare_expr y))
      expr_layer (Constant number n) = rolled_expr (Constant number n) (λ given. (refl, tt))
      expr_layer (Variable access indexes holds defined) =
          rolled_expr (bare_expr (Variable access indexes holds defined)) (λ given.
          let parts = given_parts _ _ given in
          let parts' = given_parts _ _ parts.1 in
          passes_on (fetch_code (reached scope access (map (expr_code scope) (bare indexes.items)))) _
          (fetch_passes _ (reached_passes access _ (indexes_pass indexes.items parts.0)
          (selectors_given _ (origin_of access) access.selectors.items _ parts'.0)))
          (meets (instr.CheckDefined defined 1) _ refl refl parts'.1, tt))
      expr_layer (MonadicOf number operation operand) =
          rolled_expr (bare_expr (MonadicOf number operation operand)) (λ given.
          let parts = given_parts (monadic_is_well_formed outline block operation) _ given in
          passes_on (expr_code scope operand.value.0) _ (operand.value.1 parts.1) (monadic_passes operation parts.0))
      expr_layer (Chain first rest) =
          rolled_expr (bare_expr (Chain first rest)) (λ given.
          let parts = given_parts (well first.value.0) _ given in
          passes_on (expr_code scope first.value.0) _ (first.value.1 parts.0) (links_pass rest.items parts.1))
      expr_layer (Compare number r left left_indexes right right_indexes) =
          rolled_expr (bare_expr (Compare number r left left_indexes right right_indexes)) (λ given.
          let one = given_parts _ _ given in
          let two = given_parts _ _ one.1 in
          let three = given_parts _ _ two.1 in
          let four = given_parts _ _ three.1 in
          compare_passes r (length_of left) _ _ (whole_passes left _ _ _ (indexes_pass left_indexes.items) one.0 two.0)
          (whole_passes right _ _ _ (indexes_pass right_indexes.items) three.0 four.0))
      expr_layer (CallOf call actuals) =
          rolled_expr (bare_expr (CallOf call actuals)) (λ given.
          call_passes call (map (passed_code scope) (map (λ (p : ProvedPassed). p.0) actuals.items))
          (actuals_pass actuals.items call.block 0 (given_parts _ _ given).1))
      expr_layer (Input number asks) = rolled_expr (Input number asks) (λ given. (asked_passes asks given, tt))
      expr_layer (Set number designators members) =
          rolled_expr (bare_expr (Set number designators members)) (λ given.
          let parts = given_parts _ _ given in
          let sites = given_parts (nat_eq _ (members_wanted designators.items)) _ parts.1 in
          set_passes designators.items _ (indexes_pass members.items parts.0) sites.1)

      passed_layer : (y : Passed-F ProvedExpr ProvedPassed ProvedLink) → PassedPasses (roll-Passed (bare_passed y))
      passed_layer (PassedValue value fits) =
          rolled_passed (bare_passed (PassedValue value fits)) (λ callee position given.
          let parts = given_parts (well value.0) _ given in
          passes_on (expr_code scope value.0) _ (value.1 parts.0)
          (tested_passes fits.tests fits (given_parts (is_well_formed_test outline block fits) _ parts.1).0, tt))
      passed_layer (PassedWhole type_id value indexes) =
          rolled_passed (bare_passed (PassedWhole type_id value indexes)) (λ callee position given.
          let one = given_parts _ _ given in
          let two = given_parts _ _ one.1 in
          whole_passes value _ _ _ (indexes_pass indexes.items) one.0 two.0)
      passed_layer (Reference type_id access indexes) =
          rolled_passed (bare_passed (Reference type_id access indexes)) (λ callee position given.
          let one = given_parts _ _ given in
          let two = given_parts _ _ one.1 in
          address_passes _ (reached_passes access _ (indexes_pass indexes.items one.0) (selectors_given _ (origin_of access) access.selectors.items _ two.0)))

      link_layer : (y : Link-F ProvedExpr ProvedPassed ProvedLink) → LinkPasses (roll-Link (bare_link y))
      link_layer y =
          rolled_link (bare_link y) (λ given.
          let parts = given_parts (dyadic_is_well_formed outline block y.operation) _ given in
          passes_on (expr_code scope y.operand.0) _ (y.operand.1 parts.1) (dyadic_passes y.operation parts.0))

      expr_passes : (e : Expr) → ExprPasses e
      expr_passes =
          ind-Expr ExprPasses PassedPasses LinkPasses (λ x y is. subst (λ z. ExprPasses (roll-Expr z)) is (expr_layer y))
          (λ x y is. subst (λ z. PassedPasses (roll-Passed z)) is (passed_layer y)) (λ x y is. subst (λ z. LinkPasses (roll-Link z)) is (link_layer y))

      passed_passes : (p : Passed) → PassedPasses p
      passed_passes =
          ind-Passed ExprPasses PassedPasses LinkPasses (λ x y is. subst (λ z. ExprPasses (roll-Expr z)) is (expr_layer y))
          (λ x y is. subst (λ z. PassedPasses (roll-Passed z)) is (passed_layer y)) (λ x y is. subst (λ z. LinkPasses (roll-Link z)) is (link_layer y))

      exprs_pass : (es : List Expr) → Given (all_hold (map well es)) → AllPass (index_codes scope es)
      exprs_pass [] given = tt
      exprs_pass (e ∷ es) given =
          let parts = given_parts (well e) _ given in
          (expr_passes e parts.0, exprs_pass es parts.1)

      all_passed : (actuals : List Passed) (callee position : ℕ) → Given (all_hold (placed_for callee position (map well_passed actuals)))
          → Passes (joined (map (passed_code scope) actuals))
      all_passed [] callee position given = tt
      all_passed (p ∷ actuals) callee position given =
          let parts = given_parts (well_passed p callee position) _ given in
          passes_on (passed_code scope p) _ (passed_passes p callee position parts.0) (all_passed actuals callee (suc position) parts.1)

      value_passes : (value : Whole) (indexes : List Expr) → Given (is_well_formed_value outline block value indexes)
          → Passes (whole_code scope value (index_codes scope indexes))
      value_passes value indexes given =
          let parts = given_parts _ _ given in
          whole_passes value _ _ _ (exprs_pass indexes) parts.0 parts.1

      -- ---- statements without statements

      assign_passes : (assignment : Assignment) → Given (stmt_is_well_formed outline block (Assign assignment)) → Passes (assign_code scope assignment)
      assign_passes assignment given =
          let one = given_parts _ _ given in
          let two = given_parts _ _ one.1 in
          let three = given_parts (well assignment.value) _ two.1 in
          let origin = origin_of assignment.target in
          let selectors = assignment.target.selectors.items in
          store_passes _ _ (passes_on (expr_code scope assignment.value) _ (expr_passes assignment.value three.0)
          (tested_passes assignment.fits.tests assignment.fits (given_parts (is_well_formed_test outline block assignment.fits) _ three.1).0, tt))
          (reached_passes assignment.target _ (exprs_pass assignment.indexes.items one.0) (selectors_given _ origin selectors _ two.0))

      copy_passes : (copying : Copying) → Given (stmt_is_well_formed outline block (Copy copying)) → Passes (copy_code scope copying)
      copy_passes copying given =
          let one = given_parts _ _ given in
          let two = given_parts _ _ one.1 in
          let three = given_parts (is_well_formed_value outline block copying.value copying.value_indexes.items) _ two.1 in
          let target = copying.target in
          passes_on (address_code scope target (index_codes scope copying.indexes.items)) _
          (address_passes _ (reached_passes target _ (exprs_pass copying.indexes.items one.0)
          (selectors_given _ (origin_of target) target.selectors.items _ two.0)))
          (passes_on (whole_code scope copying.value (index_codes scope copying.value_indexes.items)) _
          (value_passes copying.value copying.value_indexes.items three.0)
          (names_none (instr.StoreMany (row_length (length_of copying.value))) (cut_at (length_of copying.value) 65536) refl, tt))

      width_passes : (width : Option Width) (value : Written) → Given (is_well_formed_width outline block width) → Passes (width_code scope width value)
      width_passes None (Ordinal value representation) given = (refl, tt)
      width_passes None (String value indexes) given = (refl, tt)
      width_passes (Some width) value given =
          let parts = given_parts (nat_lt width.site outline.sites) _ given in
          passes_on (expr_code scope width.value) _ (expr_passes width.value parts.1) (meets (check_positive width.site) _ refl refl parts.0, tt)

      write_passes : (value : Written) → test (write_instr value) ≡ true
      write_passes (Ordinal value representation.Char) = refl
      write_passes (Ordinal value representation.Integer) = refl
      write_passes (Ordinal value representation.Boolean) = refl
      write_passes (String value indexes) = names_none (instr.WriteString (row_length (length_of value))) (cut_at (length_of value) 65536) refl

      written_passes : (value : Written) → Given (is_well_formed_written outline block value) → Passes (written_code scope value)
      written_passes (Ordinal value representation) given = expr_passes value given
      written_passes (String value indexes) given =
          value_passes value indexes.items (given_parts (is_well_formed_value outline block value indexes.items) _ given).0

      parameters_pass : (parameters : List WriteParameter) → Given (all_hold (map (is_well_formed_parameter outline block) parameters))
          → Passes (flat_map (parameter_code scope) parameters)
      parameters_pass [] given = tt
      parameters_pass (p ∷ ps) given =
          let parts = given_parts (is_well_formed_parameter outline block p) _ given in
          let both_parts = given_parts (is_well_formed_written outline block p.value) _ parts.0 in
          passes_on (parameter_code scope p) _
          (passes_on (written_code scope p.value) _ (written_passes p.value both_parts.0)
          (passes_on (width_code scope p.width p.value) _ (width_passes p.width p.value both_parts.1) (write_passes p.value, tt)))
          (parameters_pass ps parts.1)

      read_passes : (one : ReadVariable) → Given (is_well_formed_read outline block one) → Passes (variable_read_code scope one)
      read_passes one given =
          let parts = given_parts (are_well_formed outline block one.indexes.items) _ given in
          let leads = given_parts _ _ parts.1 in
          store_passes (input_code one) _ (input_passes one (given_parts (nat_lt one.point outline.points) _ leads.1).0)
          (reached_passes one.access _ (exprs_pass one.indexes.items parts.0) (selectors_given _ (origin_of one.access) one.access.selectors.items _ leads.0))

      reads_pass : (ones : List ReadVariable) → Given (all_hold (map (is_well_formed_read outline block) ones))
          → Passes (flat_map (variable_read_code scope) ones)
      reads_pass [] given = tt
      reads_pass (one ∷ ones) given =
          let parts = given_parts (is_well_formed_read outline block one) _ given in
          passes_on (variable_read_code scope one) _ (read_passes one parts.0) (reads_pass ones parts.1)

      -- ---- the instructions of loops and cases

      order_passes : (way : Direction) → (test (order_instr way) ≡ true) × (test (next_instr way) ≡ true)
      order_passes direction.To = (refl, refl)
      order_passes direction.DownTo = (refl, refl)

      loads : (n : ℕ) → test (instr.Load 0 (held_offset scope n)) ≡ true
      loads n = names_none (instr.Load 0 (held_offset scope n)) (held_in scope n) refl

      stores : (n : ℕ) → test (instr.Store 0 (held_offset scope n)) ≡ true
      stores n = names_none (instr.Store 0 (held_offset scope n)) (held_in scope n) refl

      entry_passes : (head : ForHead) (out : ℕ) → out < count → Given (fits_target outline block head.first.fits (AtVariable head.control) [])
          → Given (fits_target outline block head.last.fits (AtVariable head.control) []) → Passes (for_entry scope head out)
      entry_passes head out less first last =
          let tests : Passes (range_check head.first.fits ∷ instr.Store 0 (held_offset scope 0) ∷ range_check head.last.fits ∷ []) = (
            target_passes head.first.fits (AtVariable head.control) [] first,
            (stores 0, (target_passes head.last.fits (AtVariable head.control) [] last, tt)),
          ) in
          (loads 0, (loads 1, ((order_passes head.direction).0, (jumps_if out less, (loads 0, tests)))))

      begin_passes : (control : ℕ) → Passes (for_begin scope control)
      begin_passes control = (loads 0, (names_none (instr.Store 0 (control_offset scope control)) (there.0 control) refl, tt))

      next_passes : (way : Direction) (round out : ℕ) → round < count → out < count → Passes (for_next scope way round out)
      next_passes way round out again less =
          let back : Passes (next_instr way ∷ instr.Store 0 (held_offset scope 0) ∷ instr.Jump round ∷ []) =
          ((order_passes way).1, (stores 0, (jumps round again, tt))) in
          (loads 0, (loads 1, (refl, (jumps_if out less, (loads 0, (refl, back))))))

      end_passes : (control : ℕ) → Passes (for_end scope control)
      end_passes control =
          let store = names_none (instr.Store 0 (control_offset scope control)) (there.0 control) refl in
          (store, (store, (names_none (instr.Load (links_to scope 0) 2) (both _ _ (links_in scope 0) refl) refl, (store, tt))))

      row_passes : (arm : ℕ) → arm < count → (row : List ℤ) → Passes (row_code scope arm row)
      row_passes arm less [] = tt
      row_passes arm less (constant ∷ row) = (refl, (loads 0, (refl, (jumps_if arm less, row_passes arm less row))))

    -- ---- statements at their places

    -- some code passes at a place where another instruction comes behind it
    abbrev Fits : ℕ → List Instr → Type 0
    Fits place code = place + length code < count → Passes code

    fits_on : (place : ℕ) (xs ys : List Instr) → Fits place xs → Fits (place + length xs) ys → Fits place (xs ++ ys)
    fits_on place xs ys first second few =
        let long = length-append xs ys in
        passes_on xs ys (first (omega (arith, few, long))) (second (omega (arith, few, long)))

    fits_behind : (place : ℕ) (i : Instr) (is : List Instr) → (place + 1 + length is < count → test i ≡ true) → Fits (place + 1) is → Fits place (i ∷ is)
    fits_behind place i is first rest few =
        let few' : place + 1 + length is < count = omega (arith, few) in
        (first few', rest few')

    abbrev StmtFits : Stmt → Type 0
    StmtFits s = (scope : Scope) → ScopeIn scope → (place : ℕ) → Given (well_stmt s) → Fits place (stmt_code s scope place)

    abbrev ProvedStmt : Type 0
    ProvedStmt = (s : Stmt) × StmtFits s

    abbrev bare_stmt : Stmt-F ProvedStmt → Stmt-F Stmt
    bare_stmt = map-Stmt ProvedStmt Stmt (λ s. s.0)

    abbrev bare_stmts : List ProvedStmt → List Stmt
    bare_stmts = map (λ s. s.0)

    rolled_stmt : (x : Stmt-F Stmt) → ((scope : Scope) → ScopeIn scope → (place : ℕ)
        → Given (stmt_is_well_formed outline block (map-Stmt Stmt Bool well_stmt x))
        → Fits place (stmt_step (map-Stmt Stmt Placed stmt_code x) scope place)) → StmtFits (roll-Stmt x)
    rolled_stmt x h scope there place given =
        subst (λ (code : Placed). Fits place (code scope place)) (sym (fold-roll-Stmt Placed stmt_step x))
        (h scope there place (subst Given (fold-roll-Stmt Bool (stmt_is_well_formed outline block) x) given))

    stmts_fit : (scope : Scope) → ScopeIn scope → (statements : List ProvedStmt) (place : ℕ) → Given (all_hold (map well_stmt (bare_stmts statements)))
        → Fits place (placed (map (λ code. code scope) (map stmt_code (bare_stmts statements))) place)
    stmts_fit scope there [] place given few = tt
    stmts_fit scope there (s ∷ statements) place given few =
        let parts = given_parts (well_stmt s.0) _ given in
        let code = stmt_code s.0 scope place in
        fits_on place code _ (s.1 scope there place parts.0) (stmts_fit scope there statements (place + length code) parts.1) few

    if_fits : (condition : Expr) (consequence : ProvedStmt) (scope : Scope) → ScopeIn scope → (place : ℕ)
        → Given (well condition) → Given (well_stmt consequence.0) → Fits place (if_code (expr_code scope condition) (stmt_code consequence.0) scope place)
    if_fits condition consequence scope there place tested good =
        let test = expr_code scope condition in
        let yes = place + length test + 1 in
        let code = stmt_code consequence.0 scope yes in
        fits_on place test _ (λ few. expr_passes scope there condition tested)
        (fits_behind (place + length test) (instr.JumpIfFalse (yes + length code)) code (jumps_if _) (consequence.1 scope there yes good))

    if_else_fits : (condition : Expr) (consequence alternative : ProvedStmt) (scope : Scope) → ScopeIn scope → (place : ℕ)
        → Given (well condition) → Given (well_stmt consequence.0) → Given (well_stmt alternative.0)
        → Fits place (if_else_code (expr_code scope condition) (stmt_code consequence.0) (stmt_code alternative.0) scope place)
    if_else_fits condition consequence alternative scope there place tested good good' =
        let test = expr_code scope condition in
        let yes = place + length test + 1 in
        let code = stmt_code consequence.0 scope yes in
        let no = yes + length code + 1 in
        let other = stmt_code alternative.0 scope no in
        let behind = instr.Jump (no + length other) ∷ other in
        fits_on place test _ (λ few. expr_passes scope there condition tested)
        (fits_behind (place + length test) (instr.JumpIfFalse no) (code ++ behind)
        (λ few. jumps_if no (omega (arith, few, length-append code behind)))
        (fits_on yes code behind (consequence.1 scope there yes good)
        (fits_behind (yes + length code) (instr.Jump (no + length other)) other (jumps _) (alternative.1 scope there no good'))))

    while_fits : (condition : Expr) (body : ProvedStmt) (scope : Scope) → ScopeIn scope → (place : ℕ) → Given (well condition)
        → Given (well_stmt body.0) → Fits place (while_code (expr_code scope condition) (stmt_code body.0) scope place)
    while_fits condition body scope there place tested good =
        let test = expr_code scope condition in
        let inside = place + length test + 1 in
        let code = stmt_code body.0 scope inside in
        let back = instr.Jump place ∷ [] in
        fits_on place test _ (λ few. expr_passes scope there condition tested)
        (fits_behind (place + length test) (instr.JumpIfFalse (inside + length code + 1)) (code ++ back)
        (λ few. jumps_if (inside + length code + 1) (omega (arith, few, length-append code back)))
        (fits_on inside code back (body.1 scope there inside good) (λ few. (jumps place (omega (arith, few)), tt))))

    repeat_fits : (statements : List ProvedStmt) (condition : Expr) (scope : Scope) → ScopeIn scope → (place : ℕ)
        → Given (all_hold (map well_stmt (bare_stmts statements))) → Given (well condition)
        → Fits place (repeat_code (placed (map (λ code. code scope) (map stmt_code (bare_stmts statements)))) (expr_code scope condition) place)
    repeat_fits statements condition scope there place good tested =
        let code = placed (map (λ c. c scope) (map stmt_code (bare_stmts statements))) place in
        let test = expr_code scope condition in
        fits_on place code _ (stmts_fit scope there statements place good)
        (fits_on (place + length code) test (instr.JumpIfFalse place ∷ []) (λ few. expr_passes scope there condition tested)
        (λ few. (jumps_if place (omega (arith, few)), tt)))

    for_fits : (head : ForHead) (body : ProvedStmt) (scope : Scope) → ScopeIn scope → (place : ℕ)
        → Given (well head.first.value) → Given (fits_target outline block head.first.fits (AtVariable head.control) [])
        → Given (well head.last.value) → Given (fits_target outline block head.last.fits (AtVariable head.control) [])
        → Given (well_stmt body.0) → Fits place (for_code head (stmt_code body.0) scope place)
    for_fits head body scope there place valued fits valued' fits' good few =
        let long = length-For head (stmt_code body.0) scope place in
        let first = expr_code scope head.first.value in
        let last = expr_code scope head.last.value in
        let round = place + length first + length last + 8 in
        let inside = stmt_code body.0 (holding 2 scope) (round + 2) in
        let out = round + 2 + length inside + 9 in
        let next = for_next scope head.direction round out in
        let end = for_end scope head.control in
        let begin = for_begin scope head.control in
        let entry = for_entry scope head out in
        let loop = begin ++ (inside ++ (next ++ end)) in
        let again : round < count = omega (arith, few, long) in
        let less : out < count = omega (arith, few, long) in
        passes_on first (last ++ (entry ++ loop)) (expr_passes scope there head.first.value valued)
        (passes_on last (entry ++ loop) (expr_passes scope there head.last.value valued')
        (passes_on entry loop (entry_passes scope there head out less fits fits')
        (passes_on begin (inside ++ (next ++ end)) (begin_passes scope there head.control)
        (passes_on inside (next ++ end) (body.1 (holding 2 scope) there (round + 2) good (omega (arith, few, long)))
        (passes_on next end (next_passes scope there head.direction round out again less) (end_passes scope there head.control))))))

    arms_fit : (scope : Scope) → ScopeIn scope → (out : ℕ) → out < count → (rows : List (Vec ℤ)) (arms : List ProvedStmt) (place : ℕ)
        → Given (all_hold (map well_stmt (bare_stmts arms))) → Fits place (arms_code scope out rows (map stmt_code (bare_stmts arms)) place)
    arms_fit scope there out less [] arms place given few = tt
    arms_fit scope there out less (row ∷ rows) [] place given few = tt
    arms_fit scope there out less (row ∷ rows) (arm ∷ arms) place given few =
        let parts = given_parts (well_stmt arm.0) _ given in
        let inside = place + length (row_code scope 0 row.items) + 1 in
        let code = stmt_code arm.0 (holding 1 scope) inside in
        let next = inside + length code + 1 in
        let compared = row_code scope inside row.items in
        let rest = arms_code scope out rows (map stmt_code (bare_stmts arms)) next in
        let same = length-row scope inside 0 row.items in
        let long = length-append compared (instr.Jump next ∷ (code ++ (instr.Jump out ∷ rest))) in
        let longer = length-append code (instr.Jump out ∷ rest) in
        let within : next + length rest < count = omega (arith, few, same, long, longer) in
        passes_on compared _ (row_passes scope there inside (omega (arith, within)) row.items) (
          jumps next (omega (arith, within)),
          passes_on code _ (arm.1 (holding 1 scope) there inside parts.0 (omega (arith, within)))
              (jumps out less, arms_fit scope there out less rows arms next parts.1 within),
        )

    case_fits : (head : CaseHead) (arms : List ProvedStmt) (scope : Scope) → ScopeIn scope → (place : ℕ) → Given (nat_lt head.site outline.sites)
        → Given (well head.index) → Given (all_hold (map well_stmt (bare_stmts arms)))
        → Fits place (case_code head (map stmt_code (bare_stmts arms)) scope place)
    case_fits head arms scope there place sited tested good few =
        let index = expr_code scope head.index in
        let rows = head.constants.items in
        let codes = map stmt_code (bare_stmts arms) in
        let first = place + length index in
        let out = first + length (arms_code scope 0 rows codes first) + 1 in
        let all = arms_code scope out rows codes first in
        let end = instr.Fail head.site ∷ instr.JumpIfFalse (out + 1) ∷ [] in
        let same = length-arms scope rows codes out 0 first in
        let within : first + length all + 2 < count = omega (arith, few, length-append index (all ++ end), length-append all end) in
        passes_on index _ (expr_passes scope there head.index tested)
        (passes_on all end (arms_fit scope there out (omega (arith, within, same)) rows arms first good (omega (arith, within)))
        (meets (instr.Fail head.site) _ refl refl sited, (jumps_if (out + 1) (omega (arith, within, same)), tt)))

    records_pass : (scope : Scope) → ScopeIn scope → (records : List WithRecord)
        → Given (all_hold (map (is_well_formed_record outline block) records)) → Passes (records_code scope records)
    records_pass scope there [] given = tt
    records_pass scope there (one ∷ others) given =
        let parts = given_parts (is_well_formed_record outline block one) _ given in
        let its = given_parts (are_well_formed outline block one.indexes.items) _ parts.0 in
        passes_on (address_code scope one.access (index_codes scope one.indexes.items)) _
        (address_passes _ (reached_passes scope there one.access _ (exprs_pass scope there one.indexes.items its.0)
        (selectors_given _ (origin_of one.access) one.access.selectors.items _ its.1)))
        (records_pass (with_record scope) (record_there scope there) others parts.1)

    with_fits : (records : List WithRecord) (body : ProvedStmt) (scope : Scope) → ScopeIn scope → (place : ℕ)
        → Given (all_hold (map (is_well_formed_record outline block) records)) → Given (well_stmt body.0)
        → Fits place (with_code records (stmt_code body.0) scope place)
    with_fits records body scope there place well good few =
        let n = length records in
        let addresses = records_code scope records in
        let inside = place + length addresses in
        let opened = with_records n scope in
        let code = stmt_code body.0 opened inside in
        let release = release_code n (inside + length code) in
        let within : inside + length code + n < count =
        omega (
          arith,
          few,
          length-append addresses (code ++ release),
          length-append code release,
          length-release n (inside + length code),
        ) in
        passes_on addresses (code ++ release) (records_pass scope there records well)
        (passes_on code release (body.1 opened (records_there n scope there) inside good (omega (arith, within)))
        (release_passes n (inside + length code) within))

    stmt_layer : (y : Stmt-F ProvedStmt) → StmtFits (roll-Stmt (bare_stmt y))
    stmt_layer (Empty number) = rolled_stmt (Empty number) (λ scope there place given few. tt)
    stmt_layer (Assign assignment) = rolled_stmt (Assign assignment) (λ scope there place given few. assign_passes scope there assignment given)
    stmt_layer (Copy copying) = rolled_stmt (Copy copying) (λ scope there place given few. copy_passes scope there copying given)
    stmt_layer (Write writing) =
        rolled_stmt (Write writing) (λ scope there place given few.
        passes_on (flat_map (parameter_code scope) writing.parameters.items) (line_end_code writing.ends_line)
        (parameters_pass scope there writing.parameters.items given) (line_end_passes writing.ends_line))
    stmt_layer (Read reading) =
        rolled_stmt (Read reading) (λ scope there place given few.
        let parts = given_parts (is_well_formed_line outline block reading.line) _ given in
        passes_on (flat_map (variable_read_code scope) reading.variables.items) (line_passed_code reading.line)
        (reads_pass scope there reading.variables.items parts.1) (line_passes reading.line parts.0))
    stmt_layer (Calling calling) =
        rolled_stmt (Calling calling) (λ scope there place given few.
        call_passes scope there calling.call (map (passed_code scope) calling.actuals.items)
        (all_passed scope there calling.actuals.items calling.call.block 0 (given_parts _ _ given).1))
    stmt_layer (Compound number statements) =
        rolled_stmt (bare_stmt (Compound number statements)) (λ scope there place given. stmts_fit scope there statements.items place given)
    stmt_layer (If number condition consequence None) =
        rolled_stmt (bare_stmt (If number condition consequence None)) (λ scope there place given.
        let one = given_parts (well condition) _ given in
        if_fits condition consequence.value scope there place one.0 (given_parts (well_stmt consequence.value.0) _ one.1).0)
    stmt_layer (If number condition consequence (Some alternative)) =
        rolled_stmt (bare_stmt (If number condition consequence (Some alternative))) (λ scope there place given.
        let one = given_parts (well condition) _ given in
        let two = given_parts (well_stmt consequence.value.0) _ one.1 in
        if_else_fits condition consequence.value alternative.value scope there place one.0 two.0 two.1)
    stmt_layer (While head body) =
        rolled_stmt (bare_stmt (While head body)) (λ scope there place given.
        let one = given_parts (well head.condition) _ given in
        while_fits head.condition body.value scope there place one.0 one.1)
    stmt_layer (Repeat head statements) =
        rolled_stmt (bare_stmt (Repeat head statements)) (λ scope there place given.
        let one = given_parts (all_hold (map well_stmt (bare_stmts statements.items))) _ given in
        repeat_fits statements.items head.condition scope there place one.0 one.1)
    stmt_layer (For head body) =
        rolled_stmt (bare_stmt (For head body)) (λ scope there place given.
        let one = given_parts _ _ given in
        let two = given_parts (well head.first.value) _ one.1 in
        let three = given_parts (fits_target outline block head.first.fits (AtVariable head.control) []) _ two.1 in
        let four = given_parts (well head.last.value) _ three.1 in
        let five = given_parts (fits_target outline block head.last.fits (AtVariable head.control) []) _ four.1 in
        for_fits head body.value scope there place two.0 three.0 four.0 five.0 five.1)
    stmt_layer (Case head arms) =
        rolled_stmt (bare_stmt (Case head arms)) (λ scope there place given.
        let one = given_parts (nat_lt head.site outline.sites) _ given in
        let two = given_parts (well head.index) _ one.1 in
        case_fits head arms.items scope there place one.0 two.0 (given_parts _ _ two.1).1)
    stmt_layer (With head body) =
        rolled_stmt (bare_stmt (With head body)) (λ scope there place given.
        let one = given_parts (all_hold (map (is_well_formed_record outline block) head.records.items)) _ given in
        with_fits head.records.items body.value scope there place one.0 one.1)

    stmt_fits : (s : Stmt) → StmtFits s
    stmt_fits = ind-Stmt StmtFits (λ x y is. subst (λ z. StmtFits (roll-Stmt z)) is (stmt_layer y))

  -- ---- blocks

  end_passes_there : (block : ℕ) (scope : Scope) → ScopeIn scope → (result : Option FunctionResult) → Given (is_result_or_none outline result)
      → Passes (end_code scope block result)
  end_passes_there zero scope there result given = (refl, tt)
  end_passes_there (suc block) scope there None given = (refl, tt)
  end_passes_there (suc block) scope there (Some result) given = (
    names_none (instr.Load 0 (variable_home scope result.root).start) (there.0 result.root) refl,
    (meets (instr.CheckDefined result.defined 1) _ refl refl (given_parts (nat_lt result.defined outline.sites) _ given).0, (refl, tt)),
  )

  blocks_pass : (tree : Tree) (routines : List Routine) → ((block : ℕ) → ScopeIn (block_scope tree routines block)) → (block : ℕ) (blocks : List Block)
      (place : ℕ) → Given (are_well_formed_blocks outline block blocks) → place + length (blocks_code tree routines block blocks place) ≤ count
      → Passes (blocks_code tree routines block blocks place)
  blocks_pass tree routines there block [] place given few = tt
  blocks_pass tree routines there block (one ∷ blocks) place given few =
      let parts = given_parts (is_well_formed_block outline block one) _ given in
      let its = given_parts (is_heading outline block one.heading) _ parts.0 in
      let heading = one.heading in
      let formals = given_parts (is_placed outline block heading) _ its.0 in
      let results = given_parts (are_all outline block is_parameter_kind heading.parameters.items) _ formals.1 in
      let result = given_parts (are_all outline block is_result_kind (result_roots heading.result)) (is_result_or_none outline heading.result) results.1 in
      let well = given_parts _ (is_well_formed_stmt outline block one.body) its.1 in
      let scope = block_scope tree routines block in
      let body = stmt_code one.body scope (place + 1) in
      let end = end_code scope block heading.result in
      let code = block_code tree block one scope place in
      let rest = blocks_code tree routines (suc block) blocks (place + length code) in
      let some = end_is_some block scope heading.result in
      let long = length-append code rest in
      let longer = length-append body end in
      passes_on code rest (
        names_none (instr.Enter (as_count (other_cells tree block)) (as_count (block_depth one)))
            (both _ _ (cut_at (other_cells tree block) 16777216) (cut_at (block_depth one) 16777216)) refl,
        passes_on body end (stmt_fits block one.body scope (there block) (place + 1) well.1 (omega (arith, few, long, longer, some)))
            (end_passes_there block scope (there block) heading.result result.1),
      )
      (blocks_pass tree routines there (suc block) blocks (place + length code) parts.1 (omega (arith, few, long)))

-- ---- a program

-- each variable of a program begins at an offset
homes_in : (tree : Tree) (start : ℕ) (variables : List DeclaredVariable) (root : ℕ)
    → is_offset (home_or_none (slice_get (homes_from tree start variables) root)).start ≡ true
homes_in tree start [] root = refl
homes_in tree start (variable ∷ variables) zero = cut_at (start_of tree start variable) 16777215
homes_in tree start (variable ∷ variables) (suc root) = homes_in tree (suc start) variables root

-- each routine begins at an instruction, and one that isn't there is said to begin at the first
none_there : (tree : Tree) (n : ℕ) (blocks : List Block) (place callee : ℕ) → slice_get blocks callee ≡ None
    → slice_get (routines_from tree n blocks place) callee ≡ None
none_there tree n [] place callee none = refl
none_there tree n (block ∷ blocks) place zero none = absurd (none-some block (sym none))
none_there tree n (block ∷ blocks) place (suc callee) none = none_there tree (suc n) blocks _ callee none

routines_in : (tree : Tree) (callee : ℕ) (block : Option Block) → slice_get tree.blocks.items callee ≡ block → 0 < length (program_code tree)
    → (routine_or_none (slice_get (routines_of tree) callee)).place < length (program_code tree)
routines_in tree callee None is some =
    subst (λ o. (routine_or_none o).place < length (program_code tree)) (sym (none_there tree 0 tree.blocks.items 0 callee is)) some
routines_in tree callee (Some block) is some =
    let st = block_stands tree callee block is in
    let code = block_code tree callee block (block_scope tree (routines_of tree) callee) (0 + length st.before) in
    let long = ap length st.splits in
    subst (λ o. (routine_or_none o).place < length (program_code tree)) (sym st.known)
    (omega (arith, long, length-append st.before (code ++ st.behind), length-append code st.behind))

some_there : (tree : Tree) (block : Block) (blocks : List Block) → tree.blocks.items ≡ block ∷ blocks → 0 < length (program_code tree)
some_there tree block blocks is =
    let routines = routines_of tree in
    let code = block_code tree 0 block (block_scope tree routines 0) 0 in
    let long = ap (λ bs. length (blocks_code tree routines 0 bs 0)) is in
    omega (arith, long, length-append code (blocks_code tree routines 1 blocks (0 + length code)))

-- the walk over it
program_passes : (tree : Tree) (lax : Bool) (blocks : List Block) → tree.blocks.items ≡ blocks
    → Given (outline_of tree) (length (program_code tree)) lax (are_well_formed_blocks (outline_of tree) 0 tree.blocks.items)
    → Passes (outline_of tree) (length (program_code tree)) lax (program_code tree)
program_passes tree lax [] is given =
    subst (λ bs. Passes (outline_of tree) (length (program_code tree)) lax (blocks_code tree (routines_of tree) 0 bs 0)) (sym is) tt
program_passes tree lax (block ∷ blocks) is given =
    let some = some_there tree block blocks is in
    blocks_pass (outline_of tree) (length (program_code tree)) lax tree (routines_of tree)
    (λ number. (
      homes_in tree 0 tree.variables.items,
      (λ callee. routines_in tree callee (slice_get tree.blocks.items callee) refl some, λ slot. refl),
    )) 0 tree.blocks.items 0 given (omega arith)

given_lax : (b : Bool) → (b || true) ≡ true
given_lax true = refl
given_lax false = refl

strict_is : (b : Bool) → (b || false) ≡ true → b ≡ true
strict_is true h = refl
strict_is false h = h

-- the operands of each instruction are in bounds
pub program_in_bounds : (tree : Tree) → list_all in_bounds (program_code tree) ≡ true
program_in_bounds tree =
    let outline = outline_of tree in
    let count = length (program_code tree) in
    weaker (test outline count true) in_bounds (λ i h. (and_parts (in_bounds i) _ h).0) (program_code tree)
    (all_pass outline count true (program_code tree) (program_passes tree true tree.blocks.items refl (record { is = given_lax _ })))

-- what it names is there, if the program is well formed
pub program_names : (tree : Tree) → are_well_formed_blocks (outline_of tree) 0 tree.blocks.items ≡ true
    → list_all (names_what_is_there (length tree.sites.items) (length tree.points.items) (length (program_code tree))) (program_code tree) ≡ true
program_names tree well =
    let outline = outline_of tree in
    let count = length (program_code tree) in
    weaker (test outline count false) (names outline count false)
    (λ i h. strict_is (names outline count false i) (and_parts (in_bounds i) _ h).1) (program_code tree)
    (all_pass outline count false (program_code tree)
    (program_passes tree false tree.blocks.items refl (record { is = ap (λ b. b || false) well })))

-- ---- the last instruction

last_behind : (xs ys : List Instr) → 0 < length ys → last_of (xs ++ ys) ≡ last_of ys
last_behind [] ys some = refl
last_behind (x ∷ []) [] some = absurd (omega arith)
last_behind (x ∷ []) (y ∷ ys) some = refl
last_behind (x ∷ next ∷ xs) ys some = last_behind (next ∷ xs) ys some

end_ends : (block : ℕ) (scope : Scope) (result : Option FunctionResult) → EndsInNoCheck (end_code scope block result)
end_ends zero scope result = refl
end_ends (suc block) scope None = refl
end_ends (suc block) scope (Some result) = refl

block_ends : (tree : Tree) (number : ℕ) (block : Block) (scope : Scope) (place : ℕ) → EndsInNoCheck (block_code tree number block scope place)
block_ends tree number block scope place =
    let enter = instr.Enter (as_count (other_cells tree number)) (as_count (block_depth block)) in
    let result = block.heading.result in
    ap (option_and_then check_site)
    (last_behind (enter ∷ stmt_code block.body scope (place + 1)) (end_code scope number result) (end_is_some number scope result))
    ∙ end_ends number scope result

blocks_end : (tree : Tree) (routines : List Routine) (number : ℕ) (blocks : List Block) (place : ℕ)
    → EndsInNoCheck (blocks_code tree routines number blocks place)
blocks_end tree routines number [] place = refl
blocks_end tree routines number (block ∷ []) place =
    let scope = block_scope tree routines number in
    subst EndsInNoCheck (sym (append-nil (block_code tree number block scope place))) (block_ends tree number block scope place)
blocks_end tree routines number (block ∷ next ∷ blocks) place =
    let code = block_code tree number block (block_scope tree routines number) place in
    let here = place + length code in
    let other = block_code tree (suc number) next (block_scope tree routines (suc number)) here in
    let rest = blocks_code tree routines (suc number) (next ∷ blocks) here in
    ap (option_and_then check_site)
    (last_behind code rest (omega (arith, length-append other (blocks_code tree routines (suc (suc number)) blocks (here + length other)))))
    ∙ blocks_end tree routines (suc number) (next ∷ blocks) here

-- it is no check
pub program_ends : (tree : Tree) → EndsInNoCheck (program_code tree)
program_ends tree = blocks_end tree (routines_of tree) 0 tree.blocks.items 0
