-- The entries of a typed tree in the order of entry (ISO 7185:1990, 6.7, 6.8):
-- each statement, the empty one too, each factor, sign and operator between operands, each variable left of `:=`, each
-- variable that is passed to a variable parameter, and each record of a with.
-- It says nothing of what happens at an entry.
use Rattle.std.specs.Prelude.{◌≡◌, ℕ, ◌++◌, List, [], ◌∷◌, Option, Some, None, flat_map, length, map, slice_get}
use Rattle.std.specs.List.{range_with_len}
use Rattle.std.specs.declared.alloc.Global.{Global}
use Rattle.std.specs.declared.boxed.Box.{Box}
use Rattle.typed_tree.specs.declared.tree.Tree.{Tree}
use Rattle.typed_tree.specs.declared.tree.Access.{Access}
use Rattle.typed_tree.specs.declared.tree.Block.{Block}
use Rattle.typed_tree.specs.declared.tree.Call.{Call}
use Rattle.typed_tree.specs.declared.tree.Width.{Width}
use Rattle.typed_tree.specs.declared.tree.WithRecord.{WithRecord}
use Rattle.typed_tree.specs.declared.tree.ReadVariable.{ReadVariable}
use Rattle.typed_tree.specs.declared.tree.WriteParameter.{WriteParameter}
use Rattle.typed_tree.specs.declared.tree.Written.{Written}
use Rattle.typed_tree.specs.declared.tree.Written.TheVariants.{Ordinal, String}
use Rattle.typed_tree.specs.declared.tree.Whole.{Whole}
use Rattle.typed_tree.specs.declared.tree.Whole.TheVariants.{Text, Variable as VariableOf}
use Rattle.typed_tree.specs.declared.tree.Expr.{Expr}
use Rattle.typed_tree.specs.declared.tree.Passed.{Passed}
use Rattle.typed_tree.specs.declared.tree.Expr.TheOpen.{Expr-F, Passed-F, Link-F}
use Rattle.typed_tree.specs.declared.tree.Expr.TheOpen.Expr-F.{Constant, Variable, Monadic as MonadicOf, Chain}
use Rattle.typed_tree.specs.declared.tree.Expr.TheOpen.Expr-F.{Compare, Call as CallOf, Set, Input}
use Rattle.typed_tree.specs.declared.tree.Expr.TheOpen.Passed-F.{Value, Whole as WholeOf, Reference}
use Rattle.typed_tree.specs.declared.tree.Expr.TheFolds.{fold-Expr, fold-Passed}
use Rattle.typed_tree.specs.declared.tree.Stmt.{Stmt}
use Rattle.typed_tree.specs.declared.tree.Stmt.TheOpen.{Stmt-F}
use Rattle.typed_tree.specs.declared.tree.Stmt.TheOpen.Stmt-F.{Empty, Assign, Write, Compound, If, While, Repeat, For}
use Rattle.typed_tree.specs.declared.tree.Stmt.TheOpen.Stmt-F.{Case, Copy, Call as Calling, With, Read}
use Rattle.typed_tree.specs.declared.tree.Stmt.TheFolds.{fold-Stmt}

-- several rows as one
abbrev pub joined : {A : Type 0} → List (List A) → List A
joined rows = flat_map (λ row. row) rows

-- an access is entered before its index expressions
abbrev pub access_entries : Access → List (List ℕ) → List ℕ
access_entries access indexes = access.number ∷ joined indexes

-- the numbers of a whole value's entries, with those of its index expressions
abbrev pub whole_entries : Whole → List (List ℕ) → List ℕ
whole_entries (Text number characters) indexes = number ∷ []
whole_entries (VariableOf access type_id cells defined) indexes = access_entries access indexes

-- an operator is entered before its right operand
abbrev pub link_entries : Link-F (List ℕ) (List ℕ) (List ℕ) → List ℕ
link_entries link = link.number ∷ link.operand

-- an actual parameter is entered as the expression or the variable that it is
abbrev pub passed_entries : Passed-F (List ℕ) (List ℕ) (List ℕ) → List ℕ
passed_entries (Value value fits) = value
passed_entries (WholeOf type_id value indexes) = whole_entries value indexes.items
passed_entries (Reference type_id access indexes) = access_entries access indexes.items

-- a call is entered before its actual parameters
abbrev pub call_entries : Call → List (List ℕ) → List ℕ
call_entries call actuals = call.number ∷ joined actuals

abbrev pub expression_entries : Expr-F (List ℕ) (List ℕ) (List ℕ) → List ℕ
expression_entries (Constant number value) = number ∷ []
expression_entries (Variable access indexes held defined) = access_entries access indexes.items
expression_entries (MonadicOf number operation operand) = number ∷ operand.value
expression_entries (Chain first rest) = first.value ++ joined rest.items
expression_entries (Compare number relation left left_indexes right right_indexes) =
    whole_entries left left_indexes.items ++ (number ∷ whole_entries right right_indexes.items)
expression_entries (CallOf call actuals) = call_entries call actuals.items
expression_entries (Input number asks) = number ∷ []
expression_entries (Set number designators members) = number ∷ joined members.items

-- the numbers of an expression's entries
abbrev pub entries_of_expression : Expr → List ℕ
entries_of_expression = fold-Expr (List ℕ) (List ℕ) (List ℕ) expression_entries passed_entries link_entries

-- the same of an actual parameter
abbrev pub entries_of_passed : Passed → List ℕ
entries_of_passed = fold-Passed (List ℕ) (List ℕ) (List ℕ) expression_entries passed_entries link_entries

-- the same of the index expressions of an access, or of a whole value
abbrev pub index_entries : List Expr → List (List ℕ)
index_entries = map entries_of_expression

abbrev pub entries_of_width : Option Width → List ℕ
entries_of_width None = []
entries_of_width (Some width) = entries_of_expression width.value

-- the numbers of the entries of a value that is written
abbrev pub entries_of_written : Written → List ℕ
entries_of_written (Ordinal value representation) = entries_of_expression value
entries_of_written (String value indexes) = whole_entries value (index_entries indexes.items)

-- the same, and of its width
abbrev pub entries_of_parameter : WriteParameter → List ℕ
entries_of_parameter parameter = entries_of_written parameter.value ++ entries_of_width parameter.width

-- the numbers of the entries of a record of a with
abbrev pub entries_of_record : WithRecord → List ℕ
entries_of_record one = access_entries one.access (index_entries one.indexes.items)

-- the numbers of the entries of a variable that is read
abbrev pub entries_of_read : ReadVariable → List ℕ
entries_of_read one = access_entries one.access (index_entries one.indexes.items)

-- the numbers of the entries of the statement behind `else`, where there is one
abbrev pub alternative_entries : Option (Box (List ℕ) Global) → List ℕ
alternative_entries None = []
alternative_entries (Some entries) = entries.value

abbrev pub statement_entries : Stmt-F (List ℕ) → List ℕ
statement_entries (Empty number) = number ∷ []
statement_entries (Assign assignment) =
    assignment.number ∷ (access_entries assignment.target (index_entries assignment.indexes.items)
    ++ entries_of_expression assignment.value)
statement_entries (Copy copying) =
    copying.number
    ∷ (access_entries copying.target (index_entries copying.indexes.items)
    ++ whole_entries copying.value (index_entries copying.value_indexes.items))
statement_entries (Write writing) = writing.number ∷ flat_map entries_of_parameter writing.parameters.items
statement_entries (Read reading) = reading.number ∷ flat_map entries_of_read reading.variables.items
statement_entries (Calling calling) = call_entries calling.call (map entries_of_passed calling.actuals.items)
statement_entries (Compound number statements) = number ∷ joined statements.items
statement_entries (If number condition consequence alternative) =
    number ∷ (entries_of_expression condition ++ (consequence.value ++ alternative_entries alternative))
statement_entries (While head body) = head.number ∷ (entries_of_expression head.condition ++ body.value)
statement_entries (Repeat head statements) =
    head.number ∷ (joined statements.items ++ entries_of_expression head.condition)
statement_entries (For head body) =
    head.number ∷ (entries_of_expression head.first.value ++ (entries_of_expression head.last.value ++ body.value))
statement_entries (Case head arms) = head.number ∷ (entries_of_expression head.index ++ joined arms.items)
statement_entries (With head body) = head.number ∷ (flat_map entries_of_record head.records.items ++ body.value)

-- the numbers of a statement's entries
abbrev pub entries_of_statement : Stmt → List ℕ
entries_of_statement = fold-Stmt (List ℕ) statement_entries

-- the numbers of a block's entries
abbrev pub entries_of_block : Block → List ℕ
entries_of_block block = entries_of_statement block.body

-- the numbers of a program's entries, block by block
abbrev pub entries_of : Tree → List ℕ
entries_of tree = flat_map entries_of_block tree.blocks.items

-- what a block of a number has, if it is there
abbrev pub of_block : {A : Type 0} → (ℕ → Block → List A) → ℕ → Option Block → List A
of_block part number None = []
of_block part number (Some block) = part number block

-- what the blocks have, in the order in which the text has their statements
abbrev pub in_text : {A : Type 0} → (ℕ → Block → List A) → Tree → List A
in_text part tree = flat_map (λ number. of_block part number (slice_get tree.blocks.items number)) tree.bodies.items

-- the numbers of a program's entries, in the order of the text
abbrev pub entries_in_text : Tree → List ℕ
entries_in_text = in_text (λ number. entries_of_block)

-- from 0, one after another in the order of the text
abbrev pub AreNumbered : Tree → Type 0
AreNumbered tree = entries_in_text tree ≡ range_with_len 0 (length (entries_in_text tree))
