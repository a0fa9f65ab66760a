-- How the resolver's answers are what typing says of statements: what is made of a form looks so. It says nothing of
-- what typing answers.
use Rattle.std.specs.Prelude.{◌≡◌, ℕ, ℤ, Bool, true, List, [], ◌∷◌, ◌++◌, flat_map, length, Result, Ok, Err}
use Rattle.std.specs.Prelude.{Option, Some, None, Vec, IsPermutation, map}
use Rattle.std.specs.List.{list_all}
use Rattle.std.specs.List.Sorted.{IsNonDecreasingBy}
use Rattle.std.specs.Borrow.{Bor}
use Rattle.std.specs.declared.alloc.Global.{Global}
use Rattle.std.specs.declared.boxed.Box.{Box}
use Rattle.syntax_tree.specs.declared.Program.{Program}
use Rattle.syntax_tree.specs.declared.Actual.{Actual}
use Rattle.syntax_tree.specs.declared.Stmt.{Stmt as SyntaxStmt}
use Rattle.place.specs.declared.Place.{Place}
use Rattle.typed_tree.specs.declared.fault.TypeFault.{TypeFault}
use Rattle.typed_tree.specs.declared.tree.Tree.{Tree}
use Rattle.typed_tree.specs.declared.tree.Block.{Block}
use Rattle.typed_tree.specs.declared.tree.FunctionResult.{FunctionResult}
use Rattle.typed_tree.specs.declared.tree.Fitted.{Fitted}
use Rattle.typed_tree.specs.declared.tree.ForHead.{ForHead}
use Rattle.typed_tree.specs.declared.tree.CaseHead.{CaseHead}
use Rattle.typed_tree.specs.declared.tree.Expr.{Expr}
use Rattle.typed_tree.specs.declared.tree.Stmt.{Stmt}
use Rattle.typed_tree.specs.declared.tree.ReadVariable.{ReadVariable}
use Rattle.typed_tree.specs.declared.tree.WriteParameter.{WriteParameter}
use Rattle.typed_tree.specs.declared.tree.Width.{Width}
use Rattle.typed_tree.specs.declared.tree.Written.{Written as WrittenValue}
use Rattle.types.specs.declared.form.TypeId.{TypeId}
use Rattle.types.specs.declared.form.TypeKind.{TypeKind}
use Rattle.types.specs.declared.form.TypeKind.TheVariants as kind_of_type
use Rattle.types.specs.Types.{kind_of}
use Rattle.typed_tree.specs.declared.tree.WithRecord.{WithRecord}
use Rattle.typed_tree.specs.Accesses.{AtVariable, origin_of}
use Rattle.typed_tree.specs.Kinds.{are_held, is_held_stmt}
use Rattle.typed_tree.specs.Look.{Look, Mark, Fits, If, Then, Else, For, Case, Target, WholeTarget}
use Rattle.typed_tree.specs.Look.{blocks_of_look}
use Rattle.typed_tree.specs.Look.{look_block, look_expr, look_stmt, arms_look, tree_look, look_access, look_written}
use Rattle.typed_tree.specs.Look.{look_parameter, look_read, look_record, look_width}
use Rattle.typing.specs.Expressions.{Denoted, WrittenActual, entire, written_actual}
use Rattle.typing.specs.Passing.{Passed, Passing, After, after, pure, ◌>>=◌, ◌>>◌}
use Rattle.typing_rules.specs.Checked.{Checked}
use Rattle.typing.specs.Outcomes.{IsFault, Makes}
use Rattle.typing.specs.Sound.{IsTyped}
use Rattle.typing.specs.Typing.{typing}
use Rattle.typing.specs.Statements.{Accessed, compound, function_target, statement}
use Rattle.typing.specs.Blocks.{block_ends}
use Rattle.typing.specs.Routines.{all_came, result_at_end}
use Rattle.typing.specs.View.{enclosing_of}
use Rattle.typing.specs.declared.blocks.BegunBlock.{BegunBlock}
use Rattle.expression_resolver.specs.declared.typed.Reached.{Reached}
use Rattle.resolver.specs.declared.typed.MadeBlock.{MadeBlock}
use Rattle.resolver.specs.declared.typed.LaidBlocks.{LaidBlocks}
use Rattle.resolver.specs.Table.{IsTableOf}

-- a statement
abbrev pub MakesStmt : Checked (After (Unit {0})) → Result Stmt TypeFault → Passed → Type 0
MakesStmt = Makes (λ s. tt) look_stmt

-- statements, one after another
abbrev pub MakesStmts : Checked (After (Unit {0})) → Result (Vec Stmt Global) TypeFault → Passed → Type 0
MakesStmts = Makes (λ made. tt) (λ made. flat_map look_stmt made.items)

-- a condition
abbrev pub MakesCondition : Checked (After (Unit {0})) → Result Expr TypeFault → Passed → Type 0
MakesCondition = Makes (λ made. tt) look_expr

-- how an if looks as far as its `then`, of this number and this condition
abbrev pub if_head_look : ℕ × Expr → Look
if_head_look head = If head.0 ∷ (look_expr head.1 ++ (Then ∷ []))

-- an if as far as its `then`
abbrev pub MakesIfHead : Checked (After (Unit {0})) → Result (ℕ × Expr) TypeFault → Passed → Type 0
MakesIfHead = Makes (λ head. tt) if_head_look

-- what tells of what is accessed left of `:=`, by the kind of its type
abbrev pub target_look : Option TypeKind → Reached → Mark
target_look (Some kind_of_type.Structured) made =
    WholeTarget (origin_of made.access) made.access.selectors.items (length made.indexes.items) made.type_id
target_look other made = Target (origin_of made.access) made.access.selectors.items (length made.indexes.items)

-- how it looks
abbrev pub look_target : Option TypeKind → Reached → Look
look_target kind made = look_access made.access made.indexes.items (target_look kind made)

-- what it accesses
abbrev pub accessed_of : Reached → Accessed
accessed_of made = record {
  origin = origin_of made.access;
  selectors = made.access.selectors.items;
  type_id = made.type_id;
}

-- the result of a function, whose block this is
abbrev pub result_variable : Place → ℕ → Passing Denoted
result_variable place block = function_target place block >>= (λ found. pure (entire found.0 found.1))

-- what is accessed left of `:=`
abbrev pub MakesTarget : Checked (After Accessed) → Result Reached TypeFault → Passed → Type 0
MakesTarget outcome (Ok made) new =
    outcome ≡ Ok (after (accessed_of made) (look_target (kind_of new.types made.type_id) made) new)
MakesTarget outcome (Err why) new = IsFault outcome why

-- how a bound of a for looks, whose control variable has this root
abbrev pub look_bound : ℕ → Fitted → Look
look_bound control made = look_expr made.value ++ (Fits (AtVariable control) [] made.fits ∷ [])

-- a bound of a for
abbrev pub MakesBound : ℕ → Checked (After (Unit {0})) → Result Fitted TypeFault → Passed → Type 0
MakesBound control = Makes (λ made. tt) (look_bound control)

-- how a for looks as far as its `do`
abbrev pub for_head_look : ForHead → Look
for_head_look head =
    For head.number head.loop_number head.place head.control head.direction
    ∷ (look_bound head.control head.first ++ look_bound head.control head.last)

-- a for as far as its `do`, by the root of its control variable
abbrev pub MakesForHead : Checked (After ℕ) → Result ForHead TypeFault → Passed → Type 0
MakesForHead = Makes (λ head. head.control) for_head_look

-- a case as far as its `of`, by the type of its index
abbrev pub MakesCaseHead : Checked (After TypeId) → Result (CaseHead × TypeId) TypeFault → Passed → Type 0
MakesCaseHead = Makes (λ made. made.1) (λ made. Case made.0.number made.0.site ∷ look_expr made.0.index)

-- the arms of a case, with the rows of constants before them
abbrev pub MakesArms
    : Checked (After (Unit {0})) → Result (Vec (Vec ℤ Global) Global × Vec Stmt Global) TypeFault → Passed → Type 0
MakesArms = Makes (λ made. tt) (λ made. arms_look made.0.items (map look_stmt made.1.items))

-- the constants before an arm, which are met behind others
abbrev pub MakesConstants
    : List ℤ → List ℤ → Checked (After (List ℤ)) → Result (Vec ℤ Global) TypeFault → Passed → Type 0
MakesConstants old new outcome (Ok row) passed = (outcome ≡ Ok (after row.items [] passed)) × (new ≡ old ++ row.items)
MakesConstants old new outcome (Err why) passed = IsFault outcome why

-- a statement in a box
abbrev pub MakesBoxed : Checked (After (Unit {0})) → Result (Box Stmt Global) TypeFault → Passed → Type 0
MakesBoxed = Makes (λ made. tt) (λ made. look_stmt made.value)

-- what was made, in a box
abbrev pub Boxes : {T : Type 0} → Result T TypeFault → Result (Box T Global) TypeFault → Type 0
Boxes (Ok made) (Ok box) = box.value ≡ made
Boxes (Err why) (Ok box) = ⊥
Boxes made (Err why) = IsFault made why

-- how the statement behind `else` looks, where there is one
abbrev pub look_else : Option (Box Stmt Global) → Look
look_else None = []
look_else (Some made) = Else ∷ look_stmt made.value

-- the statement behind `else`, if there is one
abbrev pub MakesAlternative : Checked (After (Unit {0})) → Result (Option (Box Stmt Global)) TypeFault → Passed → Type 0
MakesAlternative = Makes (λ made. tt) look_else

-- actual parameters
abbrev pub MakesActuals : Checked (After (List WrittenActual)) → Result (Bor (List Actual)) TypeFault → Passed → Type 0
MakesActuals = Makes (λ actuals. map written_actual actuals.now) (λ actuals. [])

-- what is written, of something that looks so, where a mark behind that tells how
pub record IsWrittenAs (form : Option Mark) (look : Look) (made : WrittenValue) : Type 0 where
  pub one : Mark
  pub is : form ≡ Some one
  pub looks : look_written made ≡ look ++ (one ∷ [])

-- a value that is written, with its width
abbrev pub MakesParameter : Checked (After (Unit {0})) → Result WriteParameter TypeFault → Passed → Type 0
MakesParameter = Makes (λ made. tt) look_parameter

-- values that are written, one after another
abbrev pub MakesParameters : Checked (After (Unit {0})) → Result (Vec WriteParameter Global) TypeFault → Passed → Type 0
MakesParameters = Makes (λ made. tt) (λ made. flat_map look_parameter made.items)

-- the width of a value, if there is one
abbrev pub MakesWidth : Checked (After (Unit {0})) → Result (Option Width) TypeFault → Passed → Type 0
MakesWidth = Makes (λ made. tt) look_width

-- a width
abbrev pub MakesOwnWidth : Checked (After (Unit {0})) → Result Width TypeFault → Passed → Type 0
MakesOwnWidth = Makes (λ made. tt) (λ made. look_width (Some made))

-- a variable that is read, and those of a read, one after another
abbrev pub MakesRead : Checked (After (Unit {0})) → Result ReadVariable TypeFault → Passed → Type 0
MakesRead = Makes (λ made. tt) look_read

abbrev pub MakesReads : Checked (After (Unit {0})) → Result (Vec ReadVariable Global) TypeFault → Passed → Type 0
MakesReads = Makes (λ made. tt) (λ made. flat_map look_read made.items)

-- a record of a with, and its records, one after another
abbrev pub MakesRecord : Checked (After (Unit {0})) → Result WithRecord TypeFault → Passed → Type 0
MakesRecord = Makes (λ made. tt) look_record

abbrev pub MakesRecords : Checked (After (Unit {0})) → Result (Vec WithRecord Global) TypeFault → Passed → Type 0
MakesRecords = Makes (λ made. tt) (λ made. flat_map look_record made.items)

-- in the statement behind `else` each operand is as it is taken
abbrev pub is_held_else : Option (Box Stmt Global) → Bool
is_held_else None = true
is_held_else (Some made) = is_held_stmt made.value

-- ---- blocks

-- the same of the statement of each block that was made
abbrev pub are_held_made : List MadeBlock → Bool
are_held_made made = list_all (λ one. is_held_stmt one.block.body) made

-- how blocks look that were made, one after another
abbrev pub look_made : List MadeBlock → Look
look_made blocks = flat_map (λ made. look_block made.number made.block) blocks

-- blocks that are made behind others
abbrev pub MakesBlocks
    : List MadeBlock → List MadeBlock → Checked (After (Unit {0})) → Result (Unit {0}) TypeFault → Passed → Type 0
MakesBlocks old new outcome (Ok _) passed =
    (own : List MadeBlock) × (new ≡ old ++ own) × (outcome ≡ Ok (after tt (look_made own) passed))
MakesBlocks old new outcome (Err why) passed = IsFault outcome why

-- the same, and then the statements of the block round them
abbrev pub MakesBody
    : List MadeBlock → List MadeBlock → Checked (After (Unit {0})) → Result Stmt TypeFault → Passed → Type 0
MakesBody old new outcome (Ok made) passed =
    (own : List MadeBlock) × (new ≡ old ++ own) × (outcome ≡ Ok (after tt (look_made own ++ look_stmt made) passed))
MakesBody old new outcome (Err why) passed = IsFault outcome why

-- the statements of a block, once no routine of it waits for its block
abbrev pub statement_part : List SyntaxStmt → Passing (Unit {0})
statement_part statements = all_came >> compound (map statement statements)

-- a block of a routine that ended: it was tested that its result is assigned, and then the block round it goes on
pub record IsEnded (number : ℕ) (begun : BegunBlock) (body : Stmt) (name end : Place) (before behind : List MadeBlock)
    (old new : Passed) : Type 0 where
  pub result : Option FunctionResult
  pub later : Passed
  pub tests : result_at_end name end begun.root old ≡ Ok (after result [] later)
  pub ends : block_ends (enclosing_of begun.round) later ≡ Ok (after tt [] new)
  pub are
      : behind
      ≡ before
      ++ record {
        number = number;
        block = record {
          heading = record { around = begun.around; parameters = begun.parameters; result = result };
          body = body;
          end = end;
        };
      }
      ∷ []

abbrev pub EndsRoutine
    : ℕ → BegunBlock → Stmt → Place → Place → List MadeBlock → List MadeBlock → Passed → Result (Unit {0}) TypeFault
    → Passed → Type 0
EndsRoutine number begun body name end before behind old (Ok _) new =
    IsEnded number begun body name end before behind old new
EndsRoutine number begun body name end before behind old (Err why) new =
    IsFault (result_at_end name end begun.root old) why

-- blocks in the order of their numbers
pub record AreArranged (made : List MadeBlock) (blocks : List Block) : Type 0 where
  pub sorted : List MadeBlock
  pub shuffled : IsPermutation made sorted
  pub rise : IsNonDecreasingBy (λ one. one.number) sorted
  pub are : blocks ≡ map (λ one. one.block) sorted

-- blocks that were made in the order of the text, as a tree has them
pub record AreLaidOut (made : List MadeBlock) (laid : LaidBlocks) : Type 0 where
  pub arranged : AreArranged made laid.blocks.items
  pub bodies : laid.bodies.items ≡ map (λ one. one.number) made
  pub loops : IsTableOf made laid.loops.items
  pub held : are_held laid.blocks.items ≡ true

-- the blocks of a program that was passed, as its tree has them
pub record AreLaidBlocks (program : Program) (last : Passed) (laid : LaidBlocks) : Type 0 where
  pub made : List MadeBlock
  pub typed : typing program ≡ Ok (after tt (look_made made) last)
  pub laid_out : AreLaidOut made laid

-- the typed tree of a program, whose blocks are those that its look tells
pub record IsResolved (program : Program) (tree : Tree) : Type 0 where
  pub is_typed : IsTyped program tree
  pub count : length tree.blocks.items ≡ length is_typed.left.headings
  pub bodies : tree.bodies.items ≡ blocks_of_look (tree_look tree)
  pub held : are_held tree.blocks.items ≡ true
