-- The code of programs and what it needs, worked out by hand.
use Rattle.std.proofs.Common.{◌≡◌, ℕ, ◌+◌, ◌<◌, ◌^◌, true, false, Bool, ℤ, pos, negsuc, List, [], ◌∷◌, ◌++◌, length, Option, Some, None, Vec, Global, arith}
use Rattle.std.proofs.Common.{refl, ap, ◌∙◌}
use Rattle.pcode_assembler.specs.declared.instr.Instr.{Instr}
use Rattle.pcode_assembler.specs.declared.instr.Instr.TheVariants as instr
use Rattle.types.specs.Forms.{Form, Array, Record}
use Rattle.types.specs.declared.form.TypeId.{TypeId}
use Rattle.types.specs.Types.{boolean, cells_of, integer, required_forms}
use Rattle.typed_tree.specs.declared.tree.Tree.{Tree}
use Rattle.typed_tree.specs.declared.tree.Base.TheVariants as base
use Rattle.typed_tree.specs.declared.tree.Block.{Block}
use Rattle.typed_tree.specs.declared.tree.Heading.{Heading}
use Rattle.typed_tree.specs.declared.tree.FunctionResult.{FunctionResult}
use Rattle.typed_tree.specs.declared.tree.Call.{Call}
use Rattle.typed_tree.specs.declared.tree.Reading.{Reading}
use Rattle.typed_tree.specs.declared.tree.Access.{Access}
use Rattle.typed_tree.specs.declared.tree.Selector.TheVariants.{Element, Field}
use Rattle.typed_tree.specs.declared.tree.RangeTest.{RangeTest}
use Rattle.typed_tree.specs.declared.tree.Designator.TheVariants as designator
use Rattle.typed_tree.specs.declared.tree.Scalar.TheVariants as scalar
use Rattle.typed_tree.specs.declared.tree.Variable.{Variable as DeclaredVariable}
use Rattle.typed_tree.specs.declared.tree.VariableKind.{VariableKind}
use Rattle.typed_tree.specs.declared.tree.VariableKind.TheVariants as kind
use Rattle.typed_tree.specs.declared.tree.Relation.TheVariants as relation
use Rattle.typed_tree.specs.declared.tree.Readable.TheVariants as readable
use Rattle.typed_tree.specs.declared.tree.Representation.TheVariants as representation
use Rattle.typed_tree.specs.declared.tree.WriteParameter.{WriteParameter}
use Rattle.typed_tree.specs.declared.tree.Written.TheVariants.{Ordinal, String}
use Rattle.typed_tree.specs.declared.tree.Whole.{Whole}
use Rattle.typed_tree.specs.declared.tree.Whole.TheVariants.{Text, Variable as VariableOf}
use Rattle.typed_tree.specs.declared.tree.Expr.{Expr}
use Rattle.typed_tree.specs.declared.tree.Passed.{Passed}
use Rattle.typed_tree.specs.declared.tree.Link.{Link}
use Rattle.typed_tree.specs.declared.tree.Stmt.{Stmt}
use Rattle.typed_tree.specs.declared.tree.Expr.TheOpen.{Expr-F, Passed-F}
use Rattle.typed_tree.specs.declared.tree.Expr.TheOpen.Expr-F.{Constant, Variable, Compare, Call as CallOf}
use Rattle.typed_tree.specs.declared.tree.Expr.TheOpen.Passed-F.{Value as PassedValue, Reference}
use Rattle.typed_tree.specs.declared.tree.Expr.TheViews.{roll-Expr, roll-Passed}
use Rattle.typed_tree.specs.declared.tree.Expr.TheFolds.{fold-Link, map-Expr, map-Passed, fold-roll-Expr, fold-roll-Passed}
use Rattle.typed_tree.specs.declared.tree.Stmt.TheOpen.{Stmt-F}
use Rattle.typed_tree.specs.declared.tree.Stmt.TheOpen.Stmt-F.{Assign, Copy, Write, Compound, Call as Calling, Read}
use Rattle.typed_tree.specs.declared.tree.Stmt.TheViews.{roll-Stmt}
use Rattle.typed_tree.specs.declared.tree.Stmt.TheFolds.{map-Stmt, fold-roll-Stmt}
use Rattle.code_scheme.specs.Scopes.{Scope, homes_of, with_records}
use Rattle.code_scheme.specs.Code.{Placed, expr_code, expr_step, link_code, link_step, parameter_code, passed_code, passed_step, placed, program_code}
use Rattle.code_scheme.specs.Code.{address_code, read_code, release_code, set_code, stmt_code, stmt_step}
use Rattle.code_scheme.specs.Depth.{PassedDepth, designators_depth, expr_depth, expr_depth_step, link_depth, link_depth_step, parameter_depth, passed_depth}
use Rattle.code_scheme.specs.Depth.{passed_depth_step}
use Rattle.code_scheme.specs.Depth.{stmt_depth, stmt_depth_step}
use Rattle.code_scheme.specs.Need.{block_need, expr_need, expr_need_step, link_need_step, living_need, parameter_need, passed_need, passed_need_step}
use Rattle.code_scheme.specs.Need.{stmt_need, stmt_need_step}
use Rattle.typed_tree.specs.WellFormed.{Outline, expr_is_well_formed, is_well_formed_expr, is_well_formed_link, is_well_formed_passed, link_is_well_formed}
use Rattle.typed_tree.specs.WellFormed.{passed_is_well_formed}

-- a type by its number
abbrev numbered : ℕ → TypeId
numbered n = record { index = n }

-- an instruction that tells its place
abbrev here : ℕ → Instr
here place = instr.Jump place

-- each piece is made for the place behind those before it
pieces : placed ((λ n. here n ∷ []) ∷ (λ n. here n ∷ here (n + 1) ∷ []) ∷ (λ n. []) ∷ (λ n. here n ∷ []) ∷ []) 7 ≡ here 7 ∷ here 8 ∷ here 9 ∷ here 10 ∷ []
pieces = refl

-- a layer has the code of its parts, needs the cells of its parts
expr_makes : (scope : Scope) (x : Expr-F Expr Passed Link)
    → expr_code scope (roll-Expr x) ≡ expr_step scope
    (map-Expr Expr Passed Link (List Instr) (List Instr) (List Instr) (expr_code scope) (passed_code scope) (link_code scope) x)
expr_makes scope x = fold-roll-Expr (List Instr) (List Instr) (List Instr) (expr_step scope) (passed_step scope) link_step x

passed_makes : (scope : Scope) (x : Passed-F Expr Passed Link)
    → passed_code scope (roll-Passed x) ≡ passed_step scope
    (map-Passed Expr Passed Link (List Instr) (List Instr) (List Instr) (expr_code scope) (passed_code scope) (link_code scope) x)
passed_makes scope x = fold-roll-Passed (List Instr) (List Instr) (List Instr) (expr_step scope) (passed_step scope) link_step x

stmt_makes : (x : Stmt-F Stmt) (scope : Scope) (place : ℕ)
    → stmt_code (roll-Stmt x) scope place ≡ stmt_step (map-Stmt Stmt Placed stmt_code x) scope place
stmt_makes x scope place = ap (λ code. code scope place) (fold-roll-Stmt Placed stmt_step x)

expr_deep : (x : Expr-F Expr Passed Link)
    → expr_depth (roll-Expr x) ≡ expr_depth_step (map-Expr Expr Passed Link ℕ PassedDepth ℕ expr_depth passed_depth link_depth x)
expr_deep x = fold-roll-Expr ℕ PassedDepth ℕ expr_depth_step passed_depth_step link_depth_step x

passed_deep : (x : Passed-F Expr Passed Link)
    → passed_depth (roll-Passed x) ≡ passed_depth_step (map-Passed Expr Passed Link ℕ PassedDepth ℕ expr_depth passed_depth link_depth x)
passed_deep x = fold-roll-Passed ℕ PassedDepth ℕ expr_depth_step passed_depth_step link_depth_step x

stmt_deep : (x : Stmt-F Stmt) → stmt_depth (roll-Stmt x) ≡ stmt_depth_step (map-Stmt Stmt ℕ stmt_depth x)
stmt_deep x = fold-roll-Stmt ℕ stmt_depth_step x

abbrev link_need : List Form → Link → ℕ
link_need types = fold-Link ℕ ℕ ℕ expr_need_step (passed_need_step types) link_need_step

expr_needs : (types : List Form) (x : Expr-F Expr Passed Link)
    → expr_need types (roll-Expr x) ≡ expr_need_step (map-Expr Expr Passed Link ℕ ℕ ℕ (expr_need types) (passed_need types) (link_need types) x)
expr_needs types x = fold-roll-Expr ℕ ℕ ℕ expr_need_step (passed_need_step types) link_need_step x

passed_needs : (types : List Form) (x : Passed-F Expr Passed Link)
    → passed_need types (roll-Passed x)
    ≡ passed_need_step types (map-Passed Expr Passed Link ℕ ℕ ℕ (expr_need types) (passed_need types) (link_need types) x)
passed_needs types x = fold-roll-Passed ℕ ℕ ℕ expr_need_step (passed_need_step types) link_need_step x

stmt_needs : (types : List Form) (x : Stmt-F Stmt) → stmt_need types (roll-Stmt x) ≡ stmt_need_step types (map-Stmt Stmt ℕ (stmt_need types) x)
stmt_needs types x = fold-roll-Stmt ℕ (stmt_need_step types) x

ruleset makes = (expr_makes, passed_makes, stmt_makes, expr_deep, passed_deep, stmt_deep)

ruleset needs = (expr_needs, passed_needs, stmt_needs)

-- with two variables of type integer of the program's block and one site
abbrev outline : Heading → Outline
outline heading = record {
  variables = record { block = 0; type_id = integer; kind = kind.Local } ∷ record { block = 0; type_id = integer; kind = kind.Local } ∷ [];
  types = required_forms;
  sites = 1;
  points = 2;
  headings = heading ∷ [];
}

expr_forms : (heading : Heading) (x : Expr-F Expr Passed Link)
    → is_well_formed_expr (outline heading) 0 (roll-Expr x) ≡ expr_is_well_formed (outline heading) 0
    (map-Expr Expr Passed Link Bool (ℕ → ℕ → Bool) Bool (is_well_formed_expr (outline heading) 0) (is_well_formed_passed (outline heading) 0)
    (is_well_formed_link (outline heading) 0) x)
expr_forms heading x =
    fold-roll-Expr Bool (ℕ → ℕ → Bool) Bool (expr_is_well_formed (outline heading) 0) (passed_is_well_formed (outline heading) 0)
    (link_is_well_formed (outline heading) 0) x

-- the least integer, and the number below it
least : (heading : Heading) → is_well_formed_expr (outline heading) 0 (roll-Expr (Constant 7 (negsuc 2147483646))) ≡ true
least heading = expr_forms heading (Constant 7 (negsuc 2147483646))

below_least : (heading : Heading) → is_well_formed_expr (outline heading) 0 (roll-Expr (Constant 7 (negsuc 2147483647))) ≡ false
below_least heading = expr_forms heading (Constant 7 (negsuc 2147483647))

-- trees over whatever heap and whatever places
module _ (heap : Vec ℕ Global) (some_call : Call) where
  abbrev vec : {A : Type 0} (items : List A) → length items < 2 ^ 63 → Vec A Global
  vec items small = record {
    ptr = heap.ptr;
    len = length items;
    cap = length items;
    alloc = heap.alloc;
    items = items;
    ok = (refl, omega arith);
    small = small;
  }

  abbrev constant : ℕ → ℤ → Expr
  constant number value = roll-Expr (Constant number value)

  abbrev access : ℕ → ℕ → Access
  access number root = record { number = number; root = root; base = base.Variable; selectors = vec [] (omega arith) }

  abbrev variable : ℕ → ℕ → ℕ → Expr
  variable number root site = roll-Expr (Variable (access number root) (vec [] (omega arith)) scalar.Ordinal site)

  abbrev test : ℕ → RangeTest
  test site = record { site = site; tests = scalar.Ordinal; range = record { first = negsuc 0; last = pos 8 } }

  abbrev by_value : Expr → ℕ → Passed
  by_value value site = roll-Passed (PassedValue value (test site))

  abbrev by_reference : ℕ → ℕ → Passed
  by_reference number root = roll-Passed (Reference integer (access number root) (vec [] (omega arith)))

  abbrev call : ℕ → ℕ → Call
  call number block = record { number = number; name = some_call.name; block = block }

  abbrev compound : ℕ → (statements : List Stmt) → length statements < 2 ^ 63 → Stmt
  compound number statements small = roll-Stmt (Compound number (vec statements small))

  abbrev assign : ℕ → ℕ → ℕ → ℕ → Expr → Stmt
  assign number access_number root site value =
      roll-Stmt
      (Assign (record {
        number = number;
        becomes = some_call.name;
        target = access access_number root;
        indexes = vec [] (omega arith);
        fits = test site;
        value = value;
      }))

  abbrev calls : ℕ → ℕ → Passed → Stmt
  calls number block actual = roll-Stmt (Calling (record { call = call number block; actuals = vec (actual ∷ []) (omega arith) }))

  abbrev calling : ℕ → ℕ → Passed → Expr
  calling number block actual = roll-Expr (CallOf (call number block) (vec (actual ∷ []) (omega arith)))

  abbrev heading : (around parameters : List ℕ) → Option FunctionResult → length around < 2 ^ 63 → length parameters < 2 ^ 63 → Heading
  heading around parameters result few small = record { around = vec around few; parameters = vec parameters small; result = result }

  abbrev block : Heading → Stmt → Block
  block heading body = record { heading = heading; body = body; end = some_call.name }

  abbrev declared : ℕ → VariableKind → DeclaredVariable
  declared block how = record { block = block; type_id = integer; kind = how }

  abbrev program : (blocks : List Block) (variables : List DeclaredVariable) → length blocks < 2 ^ 63 → length variables < 2 ^ 63 → Tree
  program blocks variables few small = record {
    blocks = vec blocks few;
    bodies = vec [] (omega arith);
    variables = vec variables small;
    sites = vec [] (omega arith);
    points = vec [] (omega arith);
    loops = vec [] (omega arith);
    types = required_forms;
  }

  -- procedure p(var a: integer);
  --   procedure q(b: integer); begin a := b; p(a) end;
  -- begin q(7) end;
  -- function f(n: integer): integer; begin f := n end;
  -- begin p(x); x := f(x) end.
  abbrev routines : Tree
  routines =
      program
      (block (heading [] [] None (omega arith) (omega arith))
      (compound 14 (calls 15 1 (by_reference 16 0) ∷ assign 17 18 0 3 (calling 19 3 (by_value (variable 20 0 1) 2)) ∷ []) (omega arith))
      ∷ block (heading (0 ∷ []) (1 ∷ []) None (omega arith) (omega arith)) (compound 6 (calls 7 2 (by_value (constant 8 (pos 7)) 4) ∷ []) (omega arith))
      ∷ block (heading (0 ∷ 1 ∷ []) (2 ∷ []) None (omega arith) (omega arith))
      (compound 0 (assign 1 2 1 6 (variable 3 2 5) ∷ calls 4 1 (by_reference 5 1) ∷ []) (omega arith))
      ∷ block (heading (0 ∷ []) (3 ∷ []) (Some (record { root = 4; defined = 9 })) (omega arith) (omega arith))
      (compound 9 (assign 10 11 4 8 (variable 12 3 7) ∷ []) (omega arith))
      ∷ [])
      (declared 0 kind.Local
      ∷ declared 1 kind.VariableParameter
      ∷ declared 2 kind.ValueParameter
      ∷ declared 3 kind.ValueParameter
      ∷ declared 3 kind.Result
      ∷ [])
      (omega arith) (omega arith)

  routines_lie : homes_of routines ≡ record { level = 0; start = 4; refers = false } ∷ record { level = 1; start = 4; refers = true }
      ∷ record { level = 2; start = 4; refers = false } ∷ record { level = 1; start = 4; refers = false } ∷ record { level = 1; start = 5; refers = false } ∷ []
  routines_lie = refl

  -- an actual variable parameter is an address; what a variable parameter stands for is reached by the address in its
  -- cell; a frame further out is as many static links away as levels lie between
  routines_code : program_code routines ≡
      instr.Enter 1 6
      ∷ instr.MarkStack 0 ∷ instr.LoadAddress 0 4 ∷ instr.CallProcedure 1 12
      ∷ instr.MarkStack 0 ∷ instr.Load 0 4 ∷ instr.CheckDefined 1 1 ∷ instr.CheckRange 2 (negsuc 0) (pos 8) ∷ instr.CallProcedure 1 28
      ∷ instr.CheckRange 3 (negsuc 0) (pos 8) ∷ instr.Store 0 4 ∷ instr.Stop
      ∷ instr.Enter 0 5
      ∷ instr.MarkStack 0 ∷ instr.LoadConstant (pos 7) ∷ instr.CheckRange 4 (negsuc 0) (pos 8) ∷ instr.CallProcedure 1 18 ∷ instr.Return 0
      ∷ instr.Enter 0 5
      ∷ instr.Load 1 4 ∷ instr.Load 0 4 ∷ instr.CheckDefined 5 1 ∷ instr.CheckRange 6 (negsuc 0) (pos 8) ∷ instr.StoreIndirect
      ∷ instr.MarkStack 2 ∷ instr.Load 1 4 ∷ instr.CallProcedure 1 12 ∷ instr.Return 0
      ∷ instr.Enter 1 2
      ∷ instr.Load 0 4 ∷ instr.CheckDefined 7 1 ∷ instr.CheckRange 8 (negsuc 0) (pos 8) ∷ instr.Store 0 5
      ∷ instr.Load 0 5 ∷ instr.CheckDefined 9 1 ∷ instr.Return 1 ∷ []
  routines_code = simp makes

  -- 8 for the block, for each statement and for each expression; a cell for each variable and each value, and one more
  -- for a parameter
  routines_need : (block_need routines 0 ≡ 69) × (block_need routines 1 ≡ 35) × (block_need routines 2 ≡ 61) × (block_need routines 3 ≡ 45)
  routines_need = (simp needs, simp needs, simp needs, simp needs)

  -- where p stands in q, in p, in the program
  routines_living : living_need routines (1 ∷ 2 ∷ 1 ∷ 0 ∷ []) ≡ 200
  routines_living = simp needs

  abbrev of_integers : Heading
  of_integers = heading [] [] None (omega arith) (omega arith)

  -- the second variable, tested at the first site; there is no third variable, nor is there a second site
  second : is_well_formed_expr (outline of_integers) 0 (variable 7 1 0) ≡ true
  second = expr_forms of_integers (Variable (access 7 1) (vec [] (omega arith)) scalar.Ordinal 0)

  third : is_well_formed_expr (outline of_integers) 0 (variable 7 2 0) ≡ false
  third = expr_forms of_integers (Variable (access 7 2) (vec [] (omega arith)) scalar.Ordinal 0)

  no_site : is_well_formed_expr (outline of_integers) 0 (variable 7 1 1) ≡ false
  no_site = expr_forms of_integers (Variable (access 7 1) (vec [] (omega arith)) scalar.Ordinal 1)

  -- begin a := 7; writeln(b : 7) end
  abbrev b_in_seven : WriteParameter
  b_in_seven = record { value = Ordinal (variable 6 1 1) representation.Integer; width = Some (record { value = constant 4 (pos 7); site = 2 }) }

  abbrev plain : Tree
  plain =
      program
      (block of_integers
      (compound 1
      (assign 2 3 0 0 (constant 4 (pos 7))
      ∷ roll-Stmt (Write (record { number = 5; name = some_call.name; parameters = vec (b_in_seven ∷ []) (omega arith); ends_line = true })) ∷ [])
      (omega arith))
      ∷ [])
      (declared 0 kind.Local ∷ declared 0 kind.Local ∷ []) (omega arith) (omega arith)

  plain_code : program_code plain ≡
      instr.Enter 2 2
      ∷ instr.LoadConstant (pos 7) ∷ instr.CheckRange 0 (negsuc 0) (pos 8) ∷ instr.Store 0 4
      ∷ instr.Load 0 5 ∷ instr.CheckDefined 1 1 ∷ instr.LoadConstant (pos 7) ∷ instr.CheckRange 2 (pos 1) (pos 2147483647)
      ∷ instr.WriteInteger ∷ instr.WriteLine ∷ instr.Stop ∷ []
  plain_code = simp makes

  plain_need : block_need plain 0 ≡ 70
  plain_need = simp needs

  -- a record without fields, an array of two such records, and an array of two integers
  abbrev bare_forms : List Form
  bare_forms = required_forms ++ Record false [] ∷ Array false boolean (numbered 3) ∷ Array false boolean integer ∷ []

  their_cells : (cells_of bare_forms (numbered 3) ≡ 0) × (cells_of bare_forms (numbered 4) ≡ 0) × (cells_of bare_forms (numbered 5) ≡ 2)
  their_cells = (refl, refl, refl)

  -- a variable that is passed as such counts 8, and one cell if it has any
  abbrev passes : TypeId → Passed
  passes type_id = roll-Passed (Reference type_id (access 1 0) (vec [] (omega arith)))

  record_needs : passed_need bare_forms (passes (numbered 3)) ≡ 8
  record_needs = simp needs

  records_need : passed_need bare_forms (passes (numbered 4)) ≡ 8
  records_need = simp needs

  row_needs : passed_need bare_forms (passes (numbered 5)) ≡ 9
  row_needs = simp needs

  -- a statement, the variable to which it copies, and the value with its cells
  abbrev copies : TypeId → ℕ → Stmt
  copies type_id cells =
      roll-Stmt
      (Copy (record {
        number = 1;
        becomes = some_call.name;
        target = access 2 0;
        indexes = vec [] (omega arith);
        type_id = type_id;
        value = VariableOf (access 3 1) type_id cells 0;
        value_indexes = vec [] (omega arith);
      }))

  copied_record_needs : stmt_need bare_forms (copies (numbered 3) 0) ≡ 8 + 8 + 8
  copied_record_needs = simp needs

  copied_row_needs : stmt_need bare_forms (copies (numbered 5) 2) ≡ 8 + 9 + 10
  copied_row_needs = simp needs

  -- b.f[7].g, where two cells lie before f and one before g
  abbrev part_layer : Expr-F Expr Passed Link
  part_layer =
      Variable (record {
        number = 6;
        root = 1;
        base = base.Variable;
        selectors = vec (Field 1 2 ∷ Element (record { site = 3; tests = scalar.Ordinal; range = record { first = pos 5; last = pos 9 } }) 4 ∷ Field 1 1
            ∷ []) (omega arith);
      }) (vec (constant 4 (pos 7) ∷ []) (omega arith)) scalar.Ordinal 1

  abbrev part : Expr
  part = roll-Expr part_layer

  -- a scope with b in the block's own frame, and one where b is a variable parameter of the block round it
  abbrev own : Scope
  own = record {
    homes = record { level = 0; start = 4; refers = false } ∷ record { level = 0; start = 5; refers = false } ∷ [];
    routines = [];
    level = 0;
    next = 14;
    records = [];
  }

  abbrev inner : Scope
  inner = record {
    homes = record { level = 0; start = 4; refers = false } ∷ record { level = 1; start = 5; refers = true } ∷ [];
    routines = [];
    level = 2;
    next = 14;
    records = [];
  }

  part_code : expr_code own part ≡ instr.LoadAddress 0 7 ∷ instr.LoadConstant (pos 7) ∷ instr.CheckRange 3 (pos 5) (pos 9) ∷ instr.IndexAddress (pos 5) 4
      ∷ instr.Increase 1 ∷ instr.LoadIndirect 0 ∷ instr.CheckDefined 1 1 ∷ []
  part_code = simp makes

  inner_part_code : expr_code inner part ≡ instr.Load 1 5 ∷ instr.Increase 2 ∷ instr.LoadConstant (pos 7) ∷ instr.CheckRange 3 (pos 5) (pos 9)
      ∷ instr.IndexAddress (pos 5) 4 ∷ instr.Increase 1 ∷ instr.LoadIndirect 0 ∷ instr.CheckDefined 1 1 ∷ []
  inner_part_code =
      expr_makes inner part_layer
      ∙ ap (λ index. ((instr.Load 1 5 ∷ instr.Increase 2 ∷ (index ++ (instr.CheckRange 3 (pos 5) (pos 9) ∷ instr.IndexAddress (pos 5) 4
      ∷ instr.Increase 1 ∷ []))) ++ (instr.LoadIndirect 0 ∷ [])) ++ (instr.CheckDefined 1 1 ∷ [])) (expr_makes inner (Constant 4 (pos 7)))

  part_depth : expr_depth part ≡ 2
  part_depth = simp makes

  part_need : expr_need required_forms part ≡ 18
  part_need = simp needs

  -- the strings 'ab' and 'b!'
  abbrev ab : Whole
  ab = Text 1 (vec (97 ∷ 98 ∷ []) (omega arith))

  -- 'ab' < 'b!'
  abbrev less : Expr
  less = roll-Expr (Compare 2 relation.Less ab (vec [] (omega arith)) (Text 3 (vec (98 ∷ 33 ∷ []) (omega arith))) (vec [] (omega arith)))

  less_code : expr_code own less ≡ instr.LoadConstant (pos 97) ∷ instr.LoadConstant (pos 98) ∷ instr.LoadConstant (pos 98)
      ∷ instr.LoadConstant (pos 33) ∷ instr.Compare 2 ∷ instr.LoadConstant (pos 0) ∷ instr.Less ∷ []
  less_code = simp makes

  less_depth : expr_depth less ≡ 4
  less_depth = simp makes

  less_need : expr_need required_forms less ≡ 29
  less_need = simp needs

  -- written without a width
  abbrev ab_alone : WriteParameter
  ab_alone = record { value = String ab (vec [] (omega arith)); width = None }

  ab_code : parameter_code own ab_alone ≡ instr.LoadConstant (pos 97) ∷ instr.LoadConstant (pos 98) ∷ instr.LoadConstant (pos 2) ∷ instr.WriteString 2 ∷ []
  ab_code = refl

  ab_depth : parameter_depth ab_alone ≡ 3
  ab_depth = refl

  ab_need : parameter_need required_forms ab_alone ≡ 10
  ab_need = refl

  -- [], and [3, 1..5]
  empty_code : set_code [] [] ≡ instr.LoadSet 0 ∷ []
  empty_code = refl

  some_code : set_code (designator.Single 4 ∷ designator.Range 5 ∷ []) ((instr.LoadConstant (pos 3) ∷ []) ∷ (instr.LoadConstant (pos 1) ∷ [])
      ∷ (instr.LoadConstant (pos 5) ∷ []) ∷ []) ≡ instr.LoadConstant (pos 3) ∷ instr.CheckRange 4 (pos 0) (pos 127) ∷ instr.Singleton
      ∷ instr.LoadConstant (pos 1) ∷ instr.LoadConstant (pos 5) ∷ instr.CheckMembers 5 ∷ instr.SetRange ∷ instr.Union ∷ []
  some_code = refl

  some_depth : designators_depth 0 (designator.Single 4 ∷ designator.Range 5 ∷ []) (1 ∷ 1 ∷ 1 ∷ []) ≡ 3
  some_depth = refl

  -- readln(b, b[7])
  abbrev lines : Reading
  lines = record {
    number = 1;
    name = some_call.name;
    variables = vec (record {
      access = access 2 1;
      indexes = vec [] (omega arith);
      reads = readable.Char;
      point = 0;
      range = record { first = pos 0; last = pos 127 };
    } ∷ record {
      access = record {
        number = 3;
        root = 1;
        base = base.Variable;
        selectors = vec (Element (record { site = 3; tests = scalar.Ordinal; range = record { first = pos 5; last = pos 9 } }) 4 ∷ []) (omega arith);
      };
      indexes = vec (constant 4 (pos 7) ∷ []) (omega arith);
      reads = readable.Integer;
      point = 1;
      range = record { first = negsuc 0; last = pos 8 };
    } ∷ []) (omega arith);
    line = Some 2;
  }

  lines_code : read_code own lines ≡ instr.ReadChar 0 ∷ instr.CheckInput 0 (pos 0) (pos 127) ∷ instr.Store 0 5
      ∷ instr.LoadAddress 0 5 ∷ instr.LoadConstant (pos 7) ∷ instr.CheckRange 3 (pos 5) (pos 9) ∷ instr.IndexAddress (pos 5) 4
      ∷ instr.ReadInteger 1 ∷ instr.CheckInput 1 (negsuc 0) (pos 8) ∷ instr.StoreIndirect ∷ instr.ReadLine 2 ∷ []
  lines_code = simp makes

  lines_need : stmt_need required_forms (roll-Stmt (Read lines)) ≡ 8 + 9 + 18
  lines_need = simp needs

  lines_depth : stmt_depth (roll-Stmt (Read lines)) ≡ 2
  lines_depth = simp makes

  -- two records lie one behind the other, and are given up one after the other
  two_lie : (with_records 2 inner).records ≡ record { level = 2; start = 14; refers = true } ∷ record { level = 2; start = 15; refers = true } ∷ []
  two_lie = refl

  two_end : release_code 2 7 ≡ instr.JumpIfFalse 8 ∷ instr.JumpIfFalse 9 ∷ []
  two_end = refl

  -- a field of the second, before which one cell lies
  of_second : address_code (with_records 2 inner) (record {
    number = 6;
    root = 1;
    base = base.Record 1 (vec [] (omega arith));
    selectors = vec (Field 1 1 ∷ []) (omega arith);
  }) [] ≡ instr.Load 0 15 ∷ instr.Increase 1 ∷ []
  of_second = refl
