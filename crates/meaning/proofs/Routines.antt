-- The meaning of small programs with routines, worked out by hand.
use Rattle.std.proofs.Common.{◌≡◌, ℕ, ◌<◌, ◌^◌, false, ℤ, pos, negsuc, List, [], ◌∷◌, ◌++◌, length, Option, Some, None, Vec, Box, Global, codes, arith, refl}
use Rattle.std.proofs.Common.{ap}
use Rattle.types.specs.declared.form.TypeId.{TypeId}
use Rattle.types.specs.Forms.{Subrange, Array}
use Rattle.types.specs.Types.{char, integer, required_forms}
use Rattle.typed_tree.specs.declared.tree.Tree.{Tree}
use Rattle.typed_tree.specs.declared.tree.Block.{Block}
use Rattle.typed_tree.specs.declared.tree.Heading.{Heading}
use Rattle.typed_tree.specs.declared.tree.FunctionResult.{FunctionResult}
use Rattle.typed_tree.specs.declared.tree.Call.{Call}
use Rattle.typed_tree.specs.declared.tree.Access.{Access}
use Rattle.typed_tree.specs.declared.tree.Base.TheVariants as base
use Rattle.typed_tree.specs.declared.tree.Selector.TheVariants.{Element}
use Rattle.typed_tree.specs.declared.tree.RangeTest.{RangeTest}
use Rattle.typed_tree.specs.declared.tree.Variable.{Variable as DeclaredVariable}
use Rattle.typed_tree.specs.declared.tree.VariableKind.{VariableKind}
use Rattle.typed_tree.specs.declared.tree.VariableKind.TheVariants as kind
use Rattle.typed_tree.specs.declared.tree.Shift.TheVariants as shift
use Rattle.typed_tree.specs.declared.tree.Monadic.TheVariants as monadic
use Rattle.typed_tree.specs.declared.tree.Monadic.{Monadic}
use Rattle.typed_tree.specs.declared.tree.Dyadic.{Dyadic}
use Rattle.typed_tree.specs.declared.tree.Dyadic.TheVariants as dyadic
use Rattle.typed_tree.specs.declared.tree.Relation.TheVariants as relation
use Rattle.typed_tree.specs.declared.tree.Representation.TheVariants as representation
use Rattle.typed_tree.specs.declared.tree.Scalar.TheVariants as scalar
use Rattle.typed_tree.specs.declared.tree.Written.TheVariants.{Ordinal}
use Rattle.typed_tree.specs.declared.tree.WriteParameter.{WriteParameter}
use Rattle.typed_tree.specs.declared.tree.Expr.{Expr}
use Rattle.typed_tree.specs.declared.tree.Passed.{Passed}
use Rattle.typed_tree.specs.declared.tree.Link.{Link}
use Rattle.typed_tree.specs.declared.tree.Stmt.{Stmt}
use Rattle.typed_tree.specs.declared.tree.Expr.TheOpen.Expr-F.{Constant, Variable, Chain, Monadic as MonadicOf, Call as CallOf}
use Rattle.typed_tree.specs.declared.tree.Expr.TheOpen.Passed-F.{Value as PassedValue, Reference}
use Rattle.typed_tree.specs.declared.tree.Expr.TheFolds.{map-Expr, map-Passed, map-Link, fold-roll-Expr, fold-roll-Passed, fold-roll-Link}
use Rattle.typed_tree.specs.declared.tree.Expr.TheOpen.{Expr-F, Passed-F, Link-F}
use Rattle.typed_tree.specs.declared.tree.Expr.TheViews.{roll-Expr, roll-Passed, roll-Link}
use Rattle.typed_tree.specs.declared.tree.Stmt.TheOpen.Stmt-F.{Assign, Write, Compound, If, Call as Calling}
use Rattle.typed_tree.specs.declared.tree.Stmt.TheFolds.{map-Stmt, fold-roll-Stmt}
use Rattle.typed_tree.specs.declared.tree.Stmt.TheOpen.{Stmt-F}
use Rattle.typed_tree.specs.declared.tree.Stmt.TheViews.{roll-Stmt}
use Rattle.meaning.specs.declared.outcome.Ending.TheVariants.{Error, Finished, More}
use Rattle.meaning.specs.declared.value.Value.{Value}
use Rattle.meaning.specs.Effect.{State}
use Rattle.meaning.specs.Meaning.{Surroundings, value_of, passing_of, link_of, Evaluation, Passing, Combination, Execution, value_step, passed_step, link_step}
use Rattle.meaning.specs.Meaning.{effect_step, effect_of, meaning, run}
use Rattle.meaning.specs.Laws.{state_after}

-- a layer does what it does of what its parts do
stmt_does : (x : Stmt-F Stmt) (env : Surroundings) (s : State) → effect_of (roll-Stmt x) env s ≡ effect_step (map-Stmt Stmt Execution effect_of x) env s
stmt_does x env s = ap (λ (f : Execution). f env s) (fold-roll-Stmt Execution effect_step x)

expr_does : (x : Expr-F Expr Passed Link) (env : Surroundings) (s : State)
    → value_of (roll-Expr x) env s ≡ value_step (map-Expr Expr Passed Link Evaluation Passing Combination value_of passing_of link_of x) env s
expr_does x env s = ap (λ (f : Evaluation). f env s) (fold-roll-Expr Evaluation Passing Combination value_step passed_step link_step x)

passed_does : (x : Passed-F Expr Passed Link) (env : Surroundings) (s : State)
    → passing_of (roll-Passed x) env s ≡ passed_step (map-Passed Expr Passed Link Evaluation Passing Combination value_of passing_of link_of x) env s
passed_does x env s = ap (λ (f : Passing). f env s) (fold-roll-Passed Evaluation Passing Combination value_step passed_step link_step x)

link_does : (x : Link-F Expr Passed Link) (env : Surroundings) (v : Value) (s : State)
    → link_of (roll-Link x) env v s ≡ link_step (map-Link Expr Passed Link Evaluation Passing Combination value_of passing_of link_of x) env v s
link_does x env v s = ap (λ (f : Combination). f env v s) (fold-roll-Link Evaluation Passing Combination value_step passed_step link_step x)

ruleset does = (stmt_does, expr_does, passed_does, link_does)

-- trees over whatever heap and whatever places
module _ (heap : Vec ℕ Global) (some_call : Call) where
  abbrev vec : {A : Type 0} (items : List A) → length items < 2 ^ 63 → Vec A Global
  vec items small = record {
    ptr = heap.ptr;
    len = length items;
    cap = length items;
    alloc = heap.alloc;
    items = items;
    ok = (refl, omega arith);
    small = small;
  }

  abbrev boxed : {A : Type 0} → A → Box A Global
  boxed value = record { ptr = heap.ptr; alloc = heap.alloc; value = value }

  abbrev constant : ℕ → ℤ → Expr
  constant number value = roll-Expr (Constant number value)

  abbrev access : ℕ → ℕ → Access
  access number root = record { number = number; root = root; base = base.Variable; selectors = vec [] (omega arith) }

  abbrev variable : ℕ → ℕ → ℕ → Expr
  variable number root site = roll-Expr (Variable (access number root) (vec [] (omega arith)) scalar.Ordinal site)

  abbrev two : Expr → ℕ → Dyadic → Expr → Expr
  two left number operation right =
      roll-Expr (Chain (boxed left) (vec (roll-Link (record { number = number; operation = operation; operand = right }) ∷ []) (omega arith)))

  -- pred of a char, and chr
  abbrev before : ℕ → Monadic
  before site = monadic.Tested (record { site = site; tests = scalar.Ordinal; range = record { first = pos 1; last = pos 127 } }) shift.Previous

  abbrev to_char : ℕ → Monadic
  to_char site = monadic.Tested (record { site = site; tests = scalar.Ordinal; range = record { first = pos 0; last = pos 127 } }) shift.Same

  abbrev any_integer : ℕ → RangeTest
  any_integer site = record { site = site; tests = scalar.Ordinal; range = record { first = negsuc 2147483646; last = pos 2147483647 } }

  abbrev written : Expr → WriteParameter
  written value = record { value = Ordinal value representation.Char; width = None }

  abbrev by_value : Expr → ℕ → Passed
  by_value value site = roll-Passed (PassedValue value (any_integer site))

  abbrev call : ℕ → ℕ → Call
  call number block = record { number = number; name = some_call.name; block = block }

  abbrev compound : ℕ → (statements : List Stmt) → length statements < 2 ^ 63 → Stmt
  compound number statements small = roll-Stmt (Compound number (vec statements small))

  abbrev writes : ℕ → (values : List WriteParameter) → length values < 2 ^ 63 → Stmt
  writes number values small = roll-Stmt (Write (record { number = number; name = some_call.name; parameters = vec values small; ends_line = false }))

  abbrev assign : ℕ → ℕ → ℕ → ℕ → Expr → Stmt
  assign number access_number root site value =
      roll-Stmt (Assign (record {
        number = number;
        becomes = some_call.name;
        target = access access_number root;
        indexes = vec [] (omega arith);
        fits = any_integer site;
        value = value;
      }))

  abbrev calls : ℕ → ℕ → (actuals : List Passed) → length actuals < 2 ^ 63 → Stmt
  calls number block actuals small = roll-Stmt (Calling (record { call = call number block; actuals = vec actuals small }))

  abbrev calling : ℕ → ℕ → (actuals : List Passed) → length actuals < 2 ^ 63 → Expr
  calling number block actuals small = roll-Expr (CallOf (call number block) (vec actuals small))

  -- an element of the array of root 0, whose index is tested at the site 7
  abbrev element_access : Access
  element_access = record {
    number = 0;
    root = 0;
    base = base.Variable;
    selectors = vec (Element (record { site = 7; tests = scalar.Ordinal; range = record { first = pos 1; last = pos 2 } }) 1 ∷ []) (omega arith);
  }

  abbrev to_element : ℕ → Expr → Expr → Stmt
  to_element number index value =
      roll-Stmt (Assign (record {
        number = number;
        becomes = some_call.name;
        target = element_access;
        indexes = vec (index ∷ []) (omega arith);
        fits = any_integer 8;
        value = value;
      }))

  abbrev of_element : Expr → Expr
  of_element index = roll-Expr (Variable element_access (vec (index ∷ []) (omega arith)) scalar.Ordinal 9)

  abbrev element : Expr → Passed
  element index = roll-Passed (Reference char element_access (vec (index ∷ []) (omega arith)))

  abbrev when : ℕ → Expr → Stmt → Stmt
  when number condition statement = roll-Stmt (If number condition (boxed statement) None)

  abbrev heading : (around parameters : List ℕ) → Option FunctionResult → length around < 2 ^ 63 → length parameters < 2 ^ 63 → Heading
  heading around parameters result few small = record { around = vec around few; parameters = vec parameters small; result = result }

  abbrev block : Heading → Stmt → Block
  block heading body = record { heading = heading; body = body; end = some_call.name }

  abbrev declared : ℕ → VariableKind → TypeId → DeclaredVariable
  declared block how type_id = record { block = block; type_id = type_id; kind = how }

  abbrev program : (blocks : List Block) (variables : List DeclaredVariable) → length blocks < 2 ^ 63 → length variables < 2 ^ 63 → Tree
  program blocks variables few small = record {
    blocks = vec blocks few;
    bodies = vec [] (omega arith);
    variables = vec variables small;
    sites = vec [] (omega arith);
    points = vec [] (omega arith);
    loops = vec [] (omega arith);
    types = required_forms ++ Subrange integer (pos 1) (pos 2) ∷ Array false (record { index = 3 }) char ∷ [];
  }

  -- procedure a(n: char); var x: char; procedure b; begin write(x) end;
  -- begin x := n; if n > 'a' then a(pred(n)); b end; begin a('b') end.
  -- Each activation of b writes the x of the activation of a round it.
  abbrev nested : Tree
  nested =
      program
      (block (heading [] [] None (omega arith) (omega arith))
      (compound 17 (calls 18 1 (by_value (constant 19 (pos 98)) 9 ∷ []) (omega arith) ∷ []) (omega arith))
      ∷ block (heading (0 ∷ []) (0 ∷ []) None (omega arith) (omega arith))
      (compound 3
      (assign 4 5 1 2 (variable 6 0 3)
      ∷ when 7 (two (variable 8 0 4) 9 (dyadic.Relation relation.Greater) (constant 10 (pos 97)))
      (calls 11 1 (by_value (roll-Expr (MonadicOf 12 (before 5) (boxed (variable 13 0 6)))) 7 ∷ []) (omega arith))
      ∷ calls 15 2 [] (omega arith) ∷ [])
      (omega arith))
      ∷ block (heading (0 ∷ 1 ∷ []) [] None (omega arith) (omega arith))
      (compound 0 (writes 1 (written (variable 2 1 1) ∷ []) (omega arith) ∷ []) (omega arith))
      ∷ [])
      (declared 1 kind.ValueParameter char ∷ declared 1 kind.Local char ∷ []) (omega arith) (omega arith)

  nested_means : meaning nested [] 4 ≡ record { output = codes "ab"; ending = Finished }
  nested_means = simp does

  -- an activation of a routine uses a turn, and the program's uses none: with three the last activation of b wants one
  nested_wants_more : meaning nested [] 3 ≡ record { output = codes "a"; ending = More }
  nested_wants_more = simp does

  -- function f(n: integer): integer; begin if n < 2 then f := 1 else f := n * f(n - 1) end; begin write(chr(f(5))) end.
  abbrev factorial : Tree
  factorial =
      program
      (block (heading [] [] None (omega arith) (omega arith))
      (compound 13
      (writes 14 (written (roll-Expr (MonadicOf 15 (to_char 9) (boxed (calling 16 1 (by_value (constant 17 (pos 5)) 10 ∷ []) (omega arith))))) ∷ [])
      (omega arith) ∷ [])
      (omega arith))
      ∷ block (heading (0 ∷ []) (1 ∷ []) (Some (record { root = 0; defined = 8 })) (omega arith) (omega arith))
      (compound 0
      (roll-Stmt (If 1 (two (variable 2 1 0) 3 (dyadic.Relation relation.Less) (constant 4 (pos 2))) (boxed (assign 5 6 0 1 (constant 7 (pos 1))))
      (Some (boxed (assign 8 9 0 2 (two (variable 10 1 3) 11 (dyadic.Times 4)
      (calling 12 1 (by_value (two (variable 13 1 5) 14 (dyadic.Minus 6) (constant 15 (pos 1))) 7 ∷ []) (omega arith))))))) ∷ [])
      (omega arith))
      ∷ [])
      (declared 1 kind.Result integer ∷ declared 1 kind.ValueParameter integer ∷ []) (omega arith) (omega arith)

  factorial_means : meaning factorial [] 5 ≡ record { output = codes "x"; ending = Finished }
  factorial_means = simp does

  -- function f: char; begin if false then f := 'a' end; begin write(f) end.
  abbrev unresolved : Tree
  unresolved =
      program
      (block (heading [] [] None (omega arith) (omega arith))
      (compound 5 (writes 6 (written (calling 7 1 [] (omega arith)) ∷ []) (omega arith) ∷ []) (omega arith))
      ∷ block (heading (0 ∷ []) [] (Some (record { root = 0; defined = 1 })) (omega arith) (omega arith))
      (compound 0 (when 1 (constant 2 (pos 0)) (assign 3 4 0 0 (constant 5 (pos 97))) ∷ []) (omega arith))
      ∷ [])
      (declared 1 kind.Result char ∷ []) (omega arith) (omega arith)

  -- at its end the result of the function is undefined
  undefined_result : meaning unresolved [] 1 ≡ record { output = []; ending = Error 1 }
  undefined_result = simp does

  -- var a: array [1..2] of char; i: 1..2; procedure swap(var x, y: char); var t: char; begin t := x; x := y; y := t end;
  -- begin a[1] := 'p'; a[2] := 'q'; i := 1; swap(a[i], a[i]); swap(a[1], a[2]); write(a[1], a[2]) end.
  abbrev swaps : Tree
  swaps =
      program
      (block (heading [] [] None (omega arith) (omega arith))
      (compound 10
      (to_element 11 (constant 13 (pos 1)) (constant 14 (pos 112))
      ∷ to_element 15 (constant 17 (pos 2)) (constant 18 (pos 113))
      ∷ assign 19 20 1 4 (constant 21 (pos 1))
      ∷ calls 22 1 (element (variable 24 1 5) ∷ element (variable 26 1 6) ∷ []) (omega arith)
      ∷ calls 27 1 (element (constant 29 (pos 1)) ∷ element (constant 31 (pos 2)) ∷ []) (omega arith)
      ∷ writes 32 (written (of_element (constant 34 (pos 1))) ∷ written (of_element (constant 36 (pos 2))) ∷ []) (omega arith)
      ∷ [])
      (omega arith))
      ∷ block (heading (0 ∷ []) (2 ∷ 3 ∷ []) None (omega arith) (omega arith))
      (compound 0 (assign 1 2 4 0 (variable 3 2 1) ∷ assign 4 5 2 0 (variable 6 3 2) ∷ assign 7 8 3 0 (variable 9 4 3) ∷ []) (omega arith))
      ∷ [])
      (declared 0 kind.Local (record { index = 4 }) ∷ declared 0 kind.Local (record { index = 3 }) ∷ declared 1 kind.VariableParameter char
      ∷ declared 1 kind.VariableParameter char ∷ declared 1 kind.Local char ∷ [])
      (omega arith) (omega arith)

  swaps_means : meaning swaps [] 2 ≡ record { output = codes "qp"; ending = Finished }
  swaps_means = simp does

  -- procedure q; begin q end; begin q end.
  abbrev endless : Tree
  endless =
      program
      (block (heading [] [] None (omega arith) (omega arith)) (compound 2 (calls 3 1 [] (omega arith) ∷ []) (omega arith))
      ∷ block (heading (0 ∷ []) [] None (omega arith) (omega arith)) (compound 0 (calls 1 1 [] (omega arith) ∷ []) (omega arith)) ∷ [])
      [] (omega arith) (omega arith)

  endless_wants_more : meaning endless [] 3 ≡ record { output = []; ending = More }
  endless_wants_more = simp does

  -- the activation that wants the fourth turn, and those in which it would begin
  three_last : (state_after (run endless [] 3)).starved ≡ 1 ∷ 1 ∷ 1 ∷ 1 ∷ 0 ∷ []
  three_last = simp does
