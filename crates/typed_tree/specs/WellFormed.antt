-- Well formed trees: each constant and each range of a test lies in that of integer (ISO 7185:1990, 6.4.2.2), each
-- variable that a block names is one that it or a block round it declares (6.2.2), selectors lead to a component of
-- the type that is wanted (6.5.3), a value is tested for the range of its target's type, as each member of a set is,
-- what is copied is of its target's type or a string as long (6.4.6), each designator of a set constructor has its
-- members (6.7.1), a call passes to each formal parameter what it takes (6.6.3), a control variable is a local one
-- (6.8.3.9), each test names a site of the table, each loop stands in the table of loops, the variables of a block take
-- no more cells than a block has, the table of types begins with the required ones, operands are sets or numbers as
-- they are taken, the records of with statements are open where they are accessed, and what is compared or written as a
-- whole is a string. It does not say that a tree is that of a program.
use Rattle.std.specs.Prelude.{◌≡◌, ℕ, zero, suc, ℤ, ◌<◌, ◌≤◌, pos, neg_ℤ, ◌+ℤ◌, ◌-ℤ◌, ◌&&◌, ◌||◌, ◌++◌, Bool}
use Rattle.std.specs.Prelude.{true, false, List, []}
use Rattle.std.specs.Prelude.{Option, Some, None, Vec, IsPermutation, int_le, nat_lt, nat_le, nat_eq, length, map}
use Rattle.std.specs.Prelude.{◌∷◌, filter, if◌then◌else◌, slice_get, sum_by}
use Rattle.std.specs.Cmp.Lexicographic.{pointwise}
use Rattle.std.specs.List.{list_all, list_any, range_with_len}
use Rattle.std.specs.Option.{option_and_then}
use Rattle.std.specs.declared.alloc.Global.{Global}
use Rattle.std.specs.declared.boxed.Box.{Box}
use Rattle.types.specs.Forms.{Form, Record}
use Rattle.types.specs.declared.form.OrdinalRange.{OrdinalRange}
use Rattle.types.specs.declared.form.TypeId.{TypeId}
use Rattle.types.specs.declared.form.TypeKind.{TypeKind}
use Rattle.types.specs.declared.form.TypeKind.TheVariants as kind_of_type
use Rattle.types.specs.Types.{BeginWithRequired, cells_of, form_at, have_one_length, is_ordinal, is_same, is_scalar}
use Rattle.types.specs.Types.{is_string, is_structured, kind_of, most_cells, string_length}
use Rattle.typed_tree.specs.declared.tree.Tree.{Tree}
use Rattle.typed_tree.specs.declared.tree.Selector.{Selector}
use Rattle.typed_tree.specs.declared.tree.Selector.TheVariants.{Element, Field}
use Rattle.typed_tree.specs.declared.tree.Variable.{Variable as DeclaredVariable}
use Rattle.typed_tree.specs.declared.tree.VariableKind.{VariableKind}
use Rattle.typed_tree.specs.declared.tree.VariableKind.TheVariants as kind
use Rattle.typed_tree.specs.declared.tree.Block.{Block}
use Rattle.typed_tree.specs.declared.tree.Heading.{Heading}
use Rattle.typed_tree.specs.declared.tree.FunctionResult.{FunctionResult}
use Rattle.typed_tree.specs.declared.tree.Call.{Call}
use Rattle.typed_tree.specs.declared.tree.Monadic.{Monadic}
use Rattle.typed_tree.specs.declared.tree.Monadic.TheVariants as monadic
use Rattle.typed_tree.specs.declared.tree.Calculation.{Calculation}
use Rattle.typed_tree.specs.declared.tree.Calculation.TheVariants as calculation
use Rattle.typed_tree.specs.declared.tree.Shift.{Shift}
use Rattle.typed_tree.specs.declared.tree.Shift.TheVariants as shift
use Rattle.typed_tree.specs.declared.tree.Dyadic.{Dyadic}
use Rattle.typed_tree.specs.declared.tree.Dyadic.TheVariants as dyadic
use Rattle.typed_tree.specs.declared.tree.RangeTest.{RangeTest}
use Rattle.typed_tree.specs.declared.tree.Scalar.{Scalar}
use Rattle.typed_tree.specs.declared.tree.Scalar.TheVariants as scalar
use Rattle.typed_tree.specs.declared.tree.Designator.{Designator}
use Rattle.typed_tree.specs.declared.tree.Designator.TheVariants as designator
use Rattle.typed_tree.specs.declared.tree.Width.{Width}
use Rattle.typed_tree.specs.declared.tree.WithRecord.{WithRecord}
use Rattle.typed_tree.specs.declared.tree.ReadVariable.{ReadVariable}
use Rattle.typed_tree.specs.declared.tree.InputTest.{InputTest}
use Rattle.typed_tree.specs.declared.tree.InputTest.TheVariants as input_test
use Rattle.typed_tree.specs.declared.tree.WriteParameter.{WriteParameter}
use Rattle.typed_tree.specs.declared.tree.Written.{Written}
use Rattle.typed_tree.specs.declared.tree.Written.TheVariants.{Ordinal, String}
use Rattle.typed_tree.specs.declared.tree.Whole.{Whole}
use Rattle.typed_tree.specs.declared.tree.Whole.TheVariants.{Text, Variable as VariableOf}
use Rattle.typed_tree.specs.declared.tree.Expr.{Expr}
use Rattle.typed_tree.specs.declared.tree.Link.{Link}
use Rattle.typed_tree.specs.declared.tree.Passed.{Passed}
use Rattle.typed_tree.specs.declared.tree.Expr.TheOpen.{Expr-F, Passed-F, Link-F}
use Rattle.typed_tree.specs.declared.tree.Expr.TheOpen.Expr-F.{Constant, Variable, Monadic as MonadicOf, Chain}
use Rattle.typed_tree.specs.declared.tree.Expr.TheOpen.Expr-F.{Compare, Call as CallOf, Set, Input}
use Rattle.typed_tree.specs.declared.tree.Expr.TheOpen.Passed-F.{Value, Whole as WholeOf, Reference}
use Rattle.typed_tree.specs.declared.tree.Expr.TheFolds.{fold-Expr, fold-Passed, fold-Link}
use Rattle.typed_tree.specs.declared.tree.Stmt.{Stmt}
use Rattle.typed_tree.specs.declared.tree.Stmt.TheOpen.{Stmt-F}
use Rattle.typed_tree.specs.declared.tree.Stmt.TheOpen.Stmt-F.{Empty, Assign, Write, Compound, If, While, Repeat, For}
use Rattle.typed_tree.specs.declared.tree.Stmt.TheOpen.Stmt-F.{Case, Copy, Call as Calling, With, Read}
use Rattle.typed_tree.specs.declared.tree.Stmt.TheFolds.{fold-Stmt}
use Rattle.typed_tree.specs.Accesses.{Origin, AtVariable, accessed, are_values_of, index_count, is_type, origin_of}
use Rattle.typed_tree.specs.Accesses.{root_of}
use Rattle.typed_tree.specs.Kinds.{are_held}
use Rattle.typed_tree.specs.Loops.{AreLoopsOf}
use Rattle.typed_tree.specs.Records.{are_there}
pub use Rattle.typed_tree.specs.Tests.{all_hold, of_one, whole_indexes}
use Rattle.typed_tree.specs.Threats.{controls_but, spares}

-- a program has no more variables, no more blocks and no more loops
abbrev pub most_numbered : ℕ
most_numbered = 1000000

-- the most statements and expressions of a program
abbrev pub most_entries : ℕ
most_entries = 4000000

-- a number of type integer
abbrev pub is_whole : ℤ → Bool
is_whole value = int_le (neg_ℤ (pos 2147483647)) value && int_le value (pos 2147483647)

-- a value of type char (6.4.2.2)
abbrev pub is_character : ℕ → Bool
is_character c = nat_lt c 128

-- the characters of a string, no more than a type has cells
abbrev pub are_characters : List ℕ → Bool
are_characters characters = nat_le (length characters) 65536 && list_all is_character characters

-- how many components a whole value has
abbrev pub length_of : Whole → ℕ
length_of (Text number characters) = length characters.items
length_of (VariableOf access type_id cells defined) = cells

-- the type of the variable of which a whole value is the value; a string has none
abbrev pub source_of : Whole → Option TypeId
source_of (Text number characters) = None
source_of (VariableOf access type_id cells defined) = Some type_id

-- a string, or a value of a type that is one of strings
abbrev pub is_text : List Form → Option TypeId → Bool
is_text types None = true
is_text types (Some id) = is_string types id

-- a string of so many characters, or a value of a type, may be copied to a target of a type: one of the same type, or a
-- string as long (6.4.6)
abbrev pub is_alike : List Form → TypeId → Option TypeId → ℕ → Bool
is_alike types target None cells = have_one_length (string_length types target) (Some cells)
is_alike types target (Some source) cells =
    is_same target source || have_one_length (string_length types target) (string_length types source)

-- the constants before an arm
abbrev pub are_whole : Vec ℤ Global → Bool
are_whole constants = list_all is_whole constants.items

-- what a program declares, by which its forms are measured
pub record Outline : Type 0 where
  pub variables : List DeclaredVariable
  pub types : List Form
  -- how many sites there are, and how many points
  pub sites : ℕ
  pub points : ℕ
  -- by block number
  pub headings : List Heading

abbrev pub heading_of : Block → Heading
heading_of block = block.heading

abbrev pub outline_of : Tree → Outline
outline_of tree = record {
  variables = tree.variables.items;
  types = tree.types;
  sites = length tree.sites.items;
  points = length tree.points.items;
  headings = map heading_of tree.blocks.items;
}

-- a block is one of these
abbrev pub is_one_of : List ℕ → ℕ → Bool
is_one_of blocks block = list_any (λ one. nat_eq one block) blocks

-- a block is that of a number, which has this heading, or stands round it
abbrev pub encloses : ℕ → ℕ → Heading → Bool
encloses block number heading = nat_eq block number || is_one_of heading.around.items block

-- a block is that of a number, or stands round it (6.2.2)
abbrev pub is_round : Outline → ℕ → ℕ → Bool
is_round outline number block = of_one (encloses block number) (slice_get outline.headings number)

-- a variable is declared in a block or round it
abbrev pub is_visible : Outline → ℕ → ℕ → Bool
is_visible outline number root =
    of_one (λ variable. is_round outline number variable.block) (slice_get outline.variables root)

abbrev pub is_local_kind : VariableKind → Bool
is_local_kind kind.Local = true
is_local_kind other = false

abbrev pub is_value_kind : VariableKind → Bool
is_value_kind kind.ValueParameter = true
is_value_kind other = false

abbrev pub is_variable_kind : VariableKind → Bool
is_variable_kind kind.VariableParameter = true
is_variable_kind other = false

abbrev pub is_result_kind : VariableKind → Bool
is_result_kind kind.Result = true
is_result_kind other = false

-- a variable is declared by a block in this way
abbrev pub is_declared : Outline → ℕ → (VariableKind → Bool) → ℕ → Bool
is_declared outline number is_kind root =
    of_one (λ variable. nat_eq variable.block number && is_kind variable.kind) (slice_get outline.variables root)

-- a formal parameter of a block, by its place from 0
abbrev pub formal_of : Outline → ℕ → ℕ → Option DeclaredVariable
formal_of outline number position =
    option_and_then (λ root. slice_get outline.variables root)
    (option_and_then (λ heading. slice_get heading.parameters.items position) (slice_get outline.headings number))

-- a value of a type of this kind is tested so: an ordinal for its values, a set for those that members may have
abbrev pub is_test_of : Scalar → OrdinalRange → Option TypeKind → Bool
is_test_of scalar.Ordinal range (Some (kind_of_type.Ordinal other)) = are_values_of range other
is_test_of scalar.Set range (Some (kind_of_type.Set base members)) = are_values_of range members
is_test_of tested range kind = false

-- a value of a type of this kind is such a scalar
abbrev pub is_held_by : Scalar → Option TypeKind → Bool
is_held_by scalar.Ordinal (Some (kind_of_type.Ordinal range)) = true
is_held_by scalar.Set (Some (kind_of_type.Set base members)) = true
is_held_by held kind = false

-- a variable of a type holds such a scalar
abbrev pub holds : List Form → Scalar → TypeId → Bool
holds types held id = is_held_by held (kind_of types id)

-- the same of a test for a type of a table
abbrev pub tests_type : List Form → RangeTest → TypeId → Bool
tests_type types fits id = is_test_of fits.tests fits.range (kind_of types id)

-- a type is an ordinal one with these values
abbrev pub has_values : List Form → OrdinalRange → TypeId → Bool
has_values types range id = is_test_of scalar.Ordinal range (kind_of types id)

-- a value that is tested so may be passed to a value parameter of a scalar type (6.6.3.2)
abbrev pub takes_value : Outline → RangeTest → DeclaredVariable → Bool
takes_value outline fits formal = is_value_kind formal.kind && tests_type outline.types fits formal.type_id

-- a copy may be passed to a value parameter of this type
abbrev pub takes_whole : TypeId → DeclaredVariable → Bool
takes_whole type_id formal = is_value_kind formal.kind && is_same type_id formal.type_id

-- a variable of this type may be passed to a variable parameter (6.6.3.3)
abbrev pub takes_variable : TypeId → DeclaredVariable → Bool
takes_variable type_id formal = is_variable_kind formal.kind && is_same type_id formal.type_id

-- the block that declares a routine is the innermost of those round it; the program's block is no routine's
abbrev pub declarer : List ℕ → Option ℕ
declarer [] = None
declarer (block ∷ []) = Some block
declarer (block ∷ inner ∷ blocks) = declarer (inner ∷ blocks)

-- how many expressions a designator of a set constructor takes
abbrev pub members_wanted : List Designator → ℕ
members_wanted [] = 0
members_wanted (designator.Single site ∷ others) = suc (members_wanted others)
members_wanted (designator.Range site ∷ others) = suc (suc (members_wanted others))

-- the site of its test
abbrev pub member_site : Designator → ℕ
member_site (designator.Single site) = site
member_site (designator.Range site) = site

-- a type is a record (6.4.3.3)
abbrev pub is_record_form : Option Form → Bool
is_record_form (Some (Record packed fields)) = true
is_record_form other = false

abbrev pub is_record : List Form → TypeId → Bool
is_record types id = is_record_form (form_at types id)

-- a function has a result, a procedure has none
abbrev pub is_kind_of : Bool → Option FunctionResult → Bool
is_kind_of true (Some result) = true
is_kind_of false None = true
is_kind_of is_function result = false

-- a routine with this heading may be called in a block, with so many actual parameters (6.2.2, 6.6.3)
abbrev pub is_callable : Outline → ℕ → Bool → ℕ → Heading → Bool
is_callable outline block is_function count heading =
    of_one (is_round outline block) (declarer heading.around.items)
    && (is_kind_of is_function heading.result && nat_eq count (length heading.parameters.items))

-- each of these is at its place of a list, the first at this one, for a callee
abbrev pub placed : {A : Type 0} → ℕ → ℕ → List (ℕ → ℕ → A) → List A
placed callee position [] = []
placed callee position (one ∷ others) = one callee position ∷ placed callee (suc position) others

-- with what a program declares, in a block of this number
module _ (outline : Outline) (block : ℕ) where
  -- the test of a value
  abbrev pub is_well_formed_test : RangeTest → Bool
  is_well_formed_test test = nat_lt test.site outline.sites && (is_whole test.range.first && is_whole test.range.last)

  abbrev pub is_well_formed_selector : Selector → Bool
  is_well_formed_selector (Element fits cells) = is_well_formed_test fits
  is_well_formed_selector (Field position offset) = true

  -- an access with so many index expressions leads to a component whose type is wanted
  abbrev pub leads_to : (TypeId → Bool) → Origin → List Selector → ℕ → Bool
  leads_to wanted origin selectors indexes =
      is_visible outline block (root_of origin)
      && (nat_eq indexes (index_count selectors)
      && (list_all is_well_formed_selector selectors
      && is_type wanted (accessed outline.variables outline.types origin selectors)))

  -- to an ordinal
  abbrev pub leads_to_ordinal : Origin → List Selector → ℕ → Bool
  leads_to_ordinal = leads_to (is_ordinal outline.types)

  -- to an ordinal or a set
  abbrev pub leads_to_scalar : Origin → List Selector → ℕ → Bool
  leads_to_scalar = leads_to (is_scalar outline.types)

  -- to one of these
  abbrev pub leads_to_held : Scalar → Origin → List Selector → ℕ → Bool
  leads_to_held held = leads_to (holds outline.types held)

  -- to a record
  abbrev pub leads_to_record : Origin → List Selector → ℕ → Bool
  leads_to_record = leads_to (is_record outline.types)

  -- to a component of a type
  abbrev pub leads_to_type : TypeId → Origin → List Selector → ℕ → Bool
  leads_to_type type_id = leads_to (λ id. is_same id type_id)

  -- to an ordinal of a type with these values, which is read at a point
  abbrev pub leads_to_read : ℕ → OrdinalRange → Origin → List Selector → ℕ → Bool
  leads_to_read point range origin selectors indexes =
      leads_to (has_values outline.types range) origin selectors indexes
      && (nat_lt point outline.points && (is_whole range.first && is_whole range.last))

  -- the test of a value has the range of the type of what is accessed
  abbrev pub fits_target : RangeTest → Origin → List Selector → Bool
  fits_target fits origin selectors =
      is_well_formed_test fits
      && is_type (tests_type outline.types fits) (accessed outline.variables outline.types origin selectors)

  -- to a structured value of a type
  abbrev pub leads_to_whole : TypeId → Origin → List Selector → ℕ → Bool
  leads_to_whole type_id = leads_to (λ id. is_same id type_id && is_structured outline.types id)

  -- a structured value of a type, of so many cells
  abbrev pub is_value_of : TypeId → ℕ → Bool
  is_value_of type_id cells = nat_eq cells (cells_of outline.types type_id) && nat_le cells most_cells

  -- a string of so many characters, or a value of a type of so many cells, may be copied to a target of a type
  abbrev pub may_copy : TypeId → Option TypeId → ℕ → Bool
  may_copy target source cells =
      is_structured outline.types target
      && (nat_eq (cells_of outline.types target) cells && is_alike outline.types target source cells)

  -- strings are compared with such as are as long, whose values are those of variables of types or their own
  abbrev pub compare : Option TypeId → ℕ → Option TypeId → ℕ → Bool
  compare left length right other =
      is_text outline.types left && (is_text outline.types right && nat_eq length other)

  abbrev pub is_well_formed_whole : Whole → ℕ → Bool
  is_well_formed_whole (Text number characters) indexes = are_characters characters.items
  is_well_formed_whole (VariableOf access type_id cells defined) indexes =
      leads_to_whole type_id (origin_of access) access.selectors.items indexes
      && (is_value_of type_id cells && nat_lt defined outline.sites)

  abbrev pub calculation_is_well_formed : Calculation → Bool
  calculation_is_well_formed (calculation.Square overflow) = nat_lt overflow outline.sites
  calculation_is_well_formed other = true

  -- behind a test the next number, and the one before, are of type integer
  abbrev pub shift_is_well_formed : OrdinalRange → Shift → Bool
  shift_is_well_formed range shift.Same = true
  shift_is_well_formed range shift.Next = is_whole (range.last +ℤ pos 1)
  shift_is_well_formed range shift.Previous = is_whole (range.first -ℤ pos 1)

  abbrev pub monadic_is_well_formed : Monadic → Bool
  monadic_is_well_formed (monadic.Plain does) = calculation_is_well_formed does
  monadic_is_well_formed (monadic.Tested fits does) = is_well_formed_test fits && shift_is_well_formed fits.range does

  abbrev pub dyadic_is_well_formed : Dyadic → Bool
  dyadic_is_well_formed (dyadic.Plus overflow) = nat_lt overflow outline.sites
  dyadic_is_well_formed (dyadic.Minus overflow) = nat_lt overflow outline.sites
  dyadic_is_well_formed (dyadic.Times overflow) = nat_lt overflow outline.sites
  dyadic_is_well_formed (dyadic.Div by_zero) = nat_lt by_zero outline.sites
  dyadic_is_well_formed (dyadic.Mod by_zero_or_less) = nat_lt by_zero_or_less outline.sites
  dyadic_is_well_formed dyadic.And = true
  dyadic_is_well_formed dyadic.Or = true
  dyadic_is_well_formed (dyadic.Relation relation) = true
  dyadic_is_well_formed dyadic.Union = true
  dyadic_is_well_formed dyadic.Difference = true
  dyadic_is_well_formed dyadic.Intersection = true
  dyadic_is_well_formed (dyadic.SetRelation relation) = true
  dyadic_is_well_formed dyadic.In = true

  -- what is asked of the input
  abbrev pub is_well_formed_input : InputTest → Bool
  is_well_formed_input input_test.End = true
  is_well_formed_input (input_test.LineEnd point) = nat_lt point outline.points

  -- the point of a readln
  abbrev pub is_well_formed_line : Option ℕ → Bool
  is_well_formed_line None = true
  is_well_formed_line (Some point) = nat_lt point outline.points

  -- the designators of a set constructor of so many expressions
  abbrev pub are_designators : List Designator → ℕ → Bool
  are_designators designators count =
      nat_eq count (members_wanted designators)
      && list_all (λ one. nat_lt (member_site one) outline.sites) designators

  -- a procedure or a function may be called here, with so many actual parameters
  abbrev pub may_call : Bool → ℕ → ℕ → Bool
  may_call is_function callee count =
      of_one (is_callable outline block is_function count) (slice_get outline.headings callee)

  -- what is passed fits the formal parameter of a callee at a place
  abbrev pub is_passed_to : (DeclaredVariable → Bool) → ℕ → ℕ → Bool
  is_passed_to takes callee position = of_one takes (formal_of outline callee position)

  -- a test of a value that is passed, a copy of a string or of a value of a type, of so many cells, and a variable
  abbrev pub passes_value : RangeTest → ℕ → ℕ → Bool
  passes_value fits callee position =
      is_well_formed_test fits && is_passed_to (takes_value outline fits) callee position

  abbrev pub passes_whole : TypeId → Option TypeId → ℕ → ℕ → ℕ → Bool
  passes_whole type_id source cells callee position =
      may_copy type_id source cells && is_passed_to (takes_whole type_id) callee position

  abbrev pub passes_variable : TypeId → Origin → List Selector → ℕ → ℕ → ℕ → Bool
  passes_variable type_id origin selectors indexes callee position =
      leads_to_type type_id origin selectors indexes && is_passed_to (takes_variable type_id) callee position

  -- a call of a procedure or of a function, with its actual parameters
  abbrev pub is_well_formed_call : Bool → Call → List (ℕ → ℕ → Bool) → Bool
  is_well_formed_call is_function call actuals =
      may_call is_function call.block (length actuals) && all_hold (placed call.block 0 actuals)

  abbrev pub link_is_well_formed : Link-F Bool (ℕ → ℕ → Bool) Bool → Bool
  link_is_well_formed link = dyadic_is_well_formed link.operation && link.operand

  -- an actual parameter is well formed, for a callee and the place of a formal parameter
  abbrev pub passed_is_well_formed : Passed-F Bool (ℕ → ℕ → Bool) Bool → ℕ → ℕ → Bool
  passed_is_well_formed (Value value fits) callee position = value && passes_value fits callee position
  passed_is_well_formed (WholeOf type_id value indexes) callee position =
      all_hold (whole_indexes value indexes.items)
      && (is_well_formed_whole value (length indexes.items)
      && passes_whole type_id (source_of value) (length_of value) callee position)
  passed_is_well_formed (Reference type_id access indexes) callee position =
      all_hold indexes.items
      && passes_variable type_id (origin_of access) access.selectors.items (length indexes.items) callee position

  abbrev pub expr_is_well_formed : Expr-F Bool (ℕ → ℕ → Bool) Bool → Bool
  expr_is_well_formed (Constant number value) = is_whole value
  expr_is_well_formed (Variable access indexes held defined) =
      all_hold indexes.items
      && (leads_to_held held (origin_of access) access.selectors.items (length indexes.items)
      && nat_lt defined outline.sites)
  expr_is_well_formed (MonadicOf number operation operand) = monadic_is_well_formed operation && operand.value
  expr_is_well_formed (Chain first rest) = first.value && all_hold rest.items
  expr_is_well_formed (Compare number relation left left_indexes right right_indexes) =
      all_hold (whole_indexes left left_indexes.items)
      && (is_well_formed_whole left (length left_indexes.items)
      && (all_hold (whole_indexes right right_indexes.items)
      && (is_well_formed_whole right (length right_indexes.items)
      && compare (source_of left) (length_of left) (source_of right) (length_of right))))
  expr_is_well_formed (CallOf call actuals) = is_well_formed_call true call actuals.items
  expr_is_well_formed (Input number asks) = is_well_formed_input asks
  expr_is_well_formed (Set number designators members) =
      all_hold members.items && are_designators designators.items (length members.items)

  -- an expression is well formed
  abbrev pub is_well_formed_expr : Expr → Bool
  is_well_formed_expr = fold-Expr Bool (ℕ → ℕ → Bool) Bool expr_is_well_formed passed_is_well_formed link_is_well_formed

  -- the same of an actual parameter
  abbrev pub is_well_formed_passed : Passed → ℕ → ℕ → Bool
  is_well_formed_passed =
      fold-Passed Bool (ℕ → ℕ → Bool) Bool expr_is_well_formed passed_is_well_formed link_is_well_formed

  -- the same of an operator and its right operand
  abbrev pub is_well_formed_link : Link → Bool
  is_well_formed_link = fold-Link Bool (ℕ → ℕ → Bool) Bool expr_is_well_formed passed_is_well_formed link_is_well_formed

  -- the index expressions of an access
  abbrev pub are_well_formed : List Expr → Bool
  are_well_formed indexes = all_hold (map is_well_formed_expr indexes)

  -- a whole value with its index expressions
  abbrev pub is_well_formed_value : Whole → List Expr → Bool
  is_well_formed_value value indexes =
      all_hold (whole_indexes value (map is_well_formed_expr indexes)) && is_well_formed_whole value (length indexes)

  abbrev pub is_well_formed_width : Option Width → Bool
  is_well_formed_width None = true
  is_well_formed_width (Some width) = nat_lt width.site outline.sites && is_well_formed_expr width.value

  -- a value that is written
  abbrev pub is_well_formed_written : Written → Bool
  is_well_formed_written (Ordinal value representation) = is_well_formed_expr value
  is_well_formed_written (String value indexes) =
      is_well_formed_value value indexes.items && is_text outline.types (source_of value)

  -- the same, and its width
  abbrev pub is_well_formed_parameter : WriteParameter → Bool
  is_well_formed_parameter parameter = is_well_formed_written parameter.value && is_well_formed_width parameter.width

  -- a record of a with
  abbrev pub is_well_formed_record : WithRecord → Bool
  is_well_formed_record one =
      are_well_formed one.indexes.items
      && leads_to_record (origin_of one.access) one.access.selectors.items (length one.indexes.items)

  -- a variable that is read
  abbrev pub is_well_formed_read : ReadVariable → Bool
  is_well_formed_read one =
      are_well_formed one.indexes.items
      && leads_to_read one.point one.range (origin_of one.access) one.access.selectors.items (length one.indexes.items)

  -- the statement behind `else`, where there is one
  abbrev pub alternative_is_well_formed : Option (Box Bool Global) → Bool
  alternative_is_well_formed None = true
  alternative_is_well_formed (Some well) = well.value

  -- a control variable is an ordinal one of the variable declaration part of the block (6.8.3.9)
  abbrev pub is_control : ℕ → Bool
  is_control root = is_declared outline block is_local_kind root && leads_to_ordinal (AtVariable root) [] 0

  abbrev pub stmt_is_well_formed : Stmt-F Bool → Bool
  stmt_is_well_formed (Empty number) = true
  stmt_is_well_formed (Assign assignment) =
      are_well_formed assignment.indexes.items
      && (leads_to_scalar (origin_of assignment.target) assignment.target.selectors.items
      (length assignment.indexes.items)
      && (is_well_formed_expr assignment.value
      && fits_target assignment.fits (origin_of assignment.target) assignment.target.selectors.items))
  stmt_is_well_formed (Copy copying) =
      are_well_formed copying.indexes.items
      && (leads_to_whole copying.type_id (origin_of copying.target) copying.target.selectors.items
      (length copying.indexes.items)
      && (is_well_formed_value copying.value copying.value_indexes.items
      && may_copy copying.type_id (source_of copying.value) (length_of copying.value)))
  stmt_is_well_formed (Write writing) = all_hold (map is_well_formed_parameter writing.parameters.items)
  stmt_is_well_formed (Read reading) =
      is_well_formed_line reading.line && all_hold (map is_well_formed_read reading.variables.items)
  stmt_is_well_formed (Calling calling) =
      is_well_formed_call false calling.call (map is_well_formed_passed calling.actuals.items)
  stmt_is_well_formed (Compound number statements) = all_hold statements.items
  stmt_is_well_formed (If number condition consequence alternative) =
      is_well_formed_expr condition && (consequence.value && alternative_is_well_formed alternative)
  stmt_is_well_formed (While head body) = is_well_formed_expr head.condition && body.value
  stmt_is_well_formed (Repeat head statements) = all_hold statements.items && is_well_formed_expr head.condition
  stmt_is_well_formed (For head body) =
      is_control head.control
      && (is_well_formed_expr head.first.value
      && (fits_target head.first.fits (AtVariable head.control) []
      && (is_well_formed_expr head.last.value
      && (fits_target head.last.fits (AtVariable head.control) [] && body.value))))
  stmt_is_well_formed (Case head arms) =
      nat_lt head.site outline.sites
      && (is_well_formed_expr head.index && (list_all are_whole head.constants.items && all_hold arms.items))
  stmt_is_well_formed (With head body) = all_hold (map is_well_formed_record head.records.items) && body.value

  -- a statement is well formed
  abbrev pub is_well_formed_stmt : Stmt → Bool
  is_well_formed_stmt = fold-Stmt Bool stmt_is_well_formed

-- the variables that a block declares
abbrev pub variables_of : ℕ → List DeclaredVariable → List DeclaredVariable
variables_of block variables = filter (λ variable. nat_eq variable.block block) variables

-- they take no more cells than a block has
abbrev pub are_few_cells : Outline → ℕ → Bool
are_few_cells outline block =
    nat_le
    (sum_by (λ variable. cells_of outline.types variable.type_id) (variables_of block outline.variables)) most_cells

-- the roots of the variables of which a test holds, where the first has this root
abbrev pub roots_where : (DeclaredVariable → Bool) → ℕ → List DeclaredVariable → List ℕ
roots_where test root [] = []
roots_where test root (variable ∷ variables) =
    if test variable then root ∷ roots_where test (suc root) variables else roots_where test (suc root) variables

-- these are the roots of the variables that a block declares in this way, in their order
abbrev pub are_all : Outline → ℕ → (VariableKind → Bool) → List ℕ → Bool
are_all outline block is_kind roots =
    pointwise nat_eq roots
    (roots_where (λ variable. nat_eq variable.block block && is_kind variable.kind) 0 outline.variables)

abbrev pub is_parameter_kind : VariableKind → Bool
is_parameter_kind one = is_value_kind one || is_variable_kind one

abbrev pub result_roots : Option FunctionResult → List ℕ
result_roots None = []
result_roots (Some result) = result.root ∷ []

-- a result is an ordinal, whose test names a site
abbrev pub is_result : Outline → FunctionResult → Bool
is_result outline result =
    nat_lt result.defined outline.sites
    && is_type (is_ordinal outline.types) (accessed outline.variables outline.types (AtVariable result.root) [])

abbrev pub is_result_or_none : Outline → Option FunctionResult → Bool
is_result_or_none outline None = true
is_result_or_none outline (Some result) = is_result outline result

-- blocks are at most so many deep in one another, the program's among them
abbrev pub most_blocks : ℕ
most_blocks = 16

-- the blocks round a routine are those round its declarer, whose number is lower, and the declarer
abbrev pub is_declared_by : Outline → ℕ → List ℕ → ℕ → Bool
is_declared_by outline block around last =
    nat_lt last block
    && of_one (λ heading. pointwise nat_eq around (heading.around.items ++ last ∷ []))
    (slice_get outline.headings last)

-- nothing stands round the program's block, which has neither parameters nor a result
abbrev pub is_placed : Outline → ℕ → Heading → Bool
is_placed outline zero heading =
    pointwise nat_eq heading.around.items []
    && (pointwise nat_eq heading.parameters.items [] && pointwise nat_eq (result_roots heading.result) [])
is_placed outline (suc block) heading =
    nat_lt (length heading.around.items) most_blocks
    && of_one (is_declared_by outline (suc block) heading.around.items) (declarer heading.around.items)

-- a block has this heading, whose parameters and result it declares
abbrev pub is_heading : Outline → ℕ → Heading → Bool
is_heading outline block heading =
    is_placed outline block heading
    && (are_all outline block is_parameter_kind heading.parameters.items
    && (are_all outline block is_result_kind (result_roots heading.result)
    && is_result_or_none outline heading.result))

-- a block is well formed
abbrev pub is_well_formed_block : Outline → ℕ → Block → Bool
is_well_formed_block outline number block =
    is_heading outline number block.heading
    && (are_few_cells outline number && is_well_formed_stmt outline number block.body)

-- these blocks, which are numbered from one on
abbrev pub are_well_formed_blocks : Outline → ℕ → List Block → Bool
are_well_formed_blocks outline number [] = true
are_well_formed_blocks outline number (block ∷ blocks) =
    is_well_formed_block outline number block && are_well_formed_blocks outline (suc number) blocks

-- a tree is well formed
pub record IsWellFormed (tree : Tree) : Type 0 where
  -- by their roots
  pub few_variables : length tree.variables.items ≤ most_numbered
  pub few_blocks : length tree.blocks.items ≤ most_numbered
  pub few_loops : length tree.loops.items ≤ most_numbered
  -- the table of types begins with the required ones (6.4.2.2)
  pub required : BeginWithRequired tree.types
  -- each is one that a block declares
  pub declared :
      list_all (λ variable. nat_lt variable.block (length tree.blocks.items)) tree.variables.items ≡ true
  -- the program's block is there
  pub a_block : 0 < length tree.blocks.items
  pub blocks : are_well_formed_blocks (outline_of tree) 0 tree.blocks.items ≡ true
  -- each loop has its row in the table
  pub loops : AreLoopsOf tree.loops.items 0 tree.blocks.items
  -- each operand is an ordinal or a set, as it is taken
  pub held : are_held tree.blocks.items ≡ true
  -- each access begins at a variable, or at a record that is open there
  pub there : are_there tree.blocks.items ≡ true
  -- the text has the statements of each block once
  pub bodies : IsPermutation (range_with_len 0 (length tree.blocks.items)) tree.bodies.items
  -- a control variable is threatened neither in another block nor in the statement of its for (6.8.3.9)
  pub unthreatened :
      (number : ℕ) (block : Block) → slice_get tree.blocks.items number ≡ Some block
      → spares block.body (controls_but number 0 tree.blocks.items) ≡ true
