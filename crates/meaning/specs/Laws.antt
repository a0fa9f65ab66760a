-- What holds of the meaning of every program (ISO 7185:1990, 6.7.2.1, 6.8): a run with more turns goes on from where
-- the shorter one was, how deep activations may stand in one another never matters, a call that returns ends what it
-- began, each piece uses its turns exactly, a loop goes round by round, a chain of operators is calculated from left
-- to right, and finished turns are told and change nothing else. It says nothing of what the single steps are.
use Rattle.std.specs.Prelude.{◌≡◌, ◌≢◌, ◌⊎◌, ℕ, ◌+◌, ◌<◌, ℤ, Bool, List, [], ◌++◌, Option, map}
use Rattle.std.specs.declared.alloc.Global.{Global}
use Rattle.std.specs.declared.boxed.Box.{Box}
use Rattle.std.specs.declared.vec.Vec.{Vec}
use Rattle.typed_tree.specs.declared.tree.Tree.{Tree}
use Rattle.typed_tree.specs.declared.tree.Call.{Call}
use Rattle.typed_tree.specs.declared.tree.Designator.{Designator}
use Rattle.typed_tree.specs.declared.tree.Dyadic.{Dyadic}
use Rattle.typed_tree.specs.declared.tree.Expr.{Expr}
use Rattle.typed_tree.specs.declared.tree.ForHead.{ForHead}
use Rattle.typed_tree.specs.declared.tree.Link.{Link}
use Rattle.typed_tree.specs.declared.tree.Passed.{Passed}
use Rattle.typed_tree.specs.declared.tree.Stmt.{Stmt}
use Rattle.typed_tree.specs.declared.tree.Whole.{Whole}
use Rattle.typed_tree.specs.declared.tree.Width.{Width}
use Rattle.typed_tree.specs.declared.tree.WithRecord.{WithRecord}
use Rattle.typed_tree.specs.declared.tree.WriteParameter.{WriteParameter}
use Rattle.typed_tree.specs.declared.tree.Expr.TheVariants.{Chain}
use Rattle.meaning.specs.declared.outcome.Ending.{Ending}
use Rattle.meaning.specs.declared.outcome.Ending.TheVariants as ending
use Rattle.meaning.specs.declared.value.Value.{Value}
use Rattle.meaning.specs.Store.{Environment, Place}
use Rattle.meaning.specs.Effect.{State, Visit, Reply, Gives, Stops, Action, Round, and_then, another, enter, looped}
use Rattle.meaning.specs.Effect.{require}
use Rattle.meaning.specs.Effect.{store, use_turn}
use Rattle.meaning.specs.Meaning.{Argument, Surroundings, all_of, assign_all, call_of, calls_of, combined, effect_of}
use Rattle.meaning.specs.Meaning.{for_round, for_rounds, meaning, parameter_of, passing_of, repeat_round, run, value_of}
use Rattle.meaning.specs.Meaning.{gathered, opened, operated_both, while_round, whole_of, width_of}

-- the same state with more turns left
abbrev pub with_turns : ℕ → State → State
with_turns more s = record s { turns = s.turns + more }

-- the same reply with more turns left
abbrev pub reply_with_turns : {A : Type 0} → ℕ → Reply A → Reply A
reply_with_turns more (Gives a s) = Gives a (with_turns more s)
reply_with_turns more (Stops e s) = Stops e (with_turns more s)

-- the state after a reply
abbrev pub state_after : {A : Type 0} → Reply A → State
state_after (Gives a s) = s
state_after (Stops e s) = s

-- an output that begins another
abbrev pub Begins : List ℕ → List ℕ → Type 0
Begins output whole = (rest : List ℕ) × (whole ≡ output ++ rest)

-- of two replies, the second for more turns: they are the same but for the turns that are left, or the first stopped
-- for want of turns, with an output that begins the second's
abbrev pub Extends : {A : Type 0} → ℕ → Reply A → Reply A → Type 0
Extends more first second =
    (second ≡ reply_with_turns more first)
    ⊎ ((s : State) × (first ≡ Stops ending.More s) × Begins s.output (state_after second).output)

-- a run with more turns goes on from where the run with fewer was
abbrev pub TurnsGoOn : Type 0
TurnsGoOn =
    (tree : Tree) (input : List ℕ) (turns more : ℕ) →
    Extends more (run tree input turns) (run tree input (turns + more))

-- with more turns the output only grows at its end
abbrev pub TurnsExtendTheOutput : Type 0
TurnsExtendTheOutput =
    (tree : Tree) (input : List ℕ) (turns more : ℕ) →
    (rest : List ℕ) × ((meaning tree input (turns + more)).output ≡ (meaning tree input turns).output ++ rest)

-- a run that ended for another reason than its turns ends so with more turns too
abbrev pub EndingsStay : Type 0
EndingsStay =
    (tree : Tree) (input : List ℕ) (turns more : ℕ) →
    (meaning tree input turns).ending ≢ ending.More → meaning tree input (turns + more) ≡ meaning tree input turns

-- where the bound on how deep activations stand in one another is greater than the turns that are left, a greater bound
-- changes nothing
abbrev pub DepthsAreEnough : Type 0
DepthsAreEnough =
    (tree : Tree) (depth more number : ℕ) (arguments : List Argument) (caller : Environment) (s : State) →
    s.turns < depth →
    calls_of tree (depth + more) number arguments caller s ≡ calls_of tree depth number arguments caller s

-- behind a call that returns, the activations last that lasted before it
abbrev pub CallsReturn : Type 0
CallsReturn =
    (tree : Tree) (depth number : ℕ) (arguments : List Argument) (caller : Environment) (s t : State) (v : Value) →
    calls_of tree depth number arguments caller s ≡ Gives v t → t.living ≡ s.living

-- between two states a piece, which gave this, used some turns; and it does the same with those and whatever is left
abbrev pub UsedTurns : {A : Type 0} → Action A → State → State → A → Type 0
UsedTurns action s t a =
    (used : ℕ) × (s.turns ≡ used + t.turns)
    × ((left : ℕ) → action (record s { turns = used + left }) ≡ Gives a (record t { turns = left }))

-- where a piece gives a value, as many turns as it used are enough, and none that are left change what it does
abbrev pub UsesTurnsExactly : {A : Type 0} → Action A → Type 0
UsesTurnsExactly {A} action = (s t : State) (a : A) → action s ≡ Gives a t → UsedTurns action s t a

-- where so much is visible, in statements of these records, and calls may stand so deep in one another
abbrev pub standing : Tree → ℕ → Environment → List (Option Place) → Surroundings
standing tree depth visible records = record { visible = visible; records = records; calls = calls_of tree depth }

-- each statement does so, wherever it stands
abbrev pub StatementsUseTurnsExactly : Type 0
StatementsUseTurnsExactly =
    (tree : Tree) (depth : ℕ) (visible : Environment) (records : List (Option Place)) (statement : Stmt) →
    UsesTurnsExactly (effect_of statement (standing tree depth visible records))

-- all pieces do so that stand here
pub record AllUseTurnsExactly (env : Surroundings) : Type 0 where
  -- a turn, an entry, a test, an assignment, and an operator between two values
  pub turn : UsesTurnsExactly use_turn
  pub entries : (number : ℕ) → UsesTurnsExactly (enter number env.visible)
  pub tests : (holds : Bool) (site : ℕ) → UsesTurnsExactly (require holds site)
  pub stores : (place : Option Place) (v : Value) → UsesTurnsExactly (store place v)
  pub operators : (operation : Dyadic) (left right : ℤ) → UsesTurnsExactly (combined operation left right)
  pub operations : (operation : Dyadic) (left right : Value) → UsesTurnsExactly (operated_both operation left right)
  -- expressions, the members of a set constructor, whole values, actual parameters and how they are assigned, and calls
  pub values : (e : Expr) → UsesTurnsExactly (value_of e env)
  pub gathering : (designators : List Designator) (members : List Expr) (set : ℕ)
      → UsesTurnsExactly (gathered designators (map value_of members) env set)
  pub wholes : (value : Whole) (indexes : List Expr) → UsesTurnsExactly (whole_of value (map value_of indexes) env)
  pub actuals : (actual : Passed) → UsesTurnsExactly (passing_of actual env)
  pub assigned : (tree : Tree) (roots : List ℕ) (arguments : List Argument)
      → UsesTurnsExactly (assign_all tree env.visible roots arguments)
  pub calls : (call : Call) (actuals : List Passed) → UsesTurnsExactly (call_of call (map passing_of actuals) env)
  -- what is written, the records of a with statement, statements, and the rounds of a for statement
  pub widths : (width : Option Width) (default : ℤ) → UsesTurnsExactly (width_of width default env)
  pub written : (parameter : WriteParameter) → UsesTurnsExactly (parameter_of parameter env)
  pub records : (records : List WithRecord) → UsesTurnsExactly (opened records env)
  pub statements : (statement : Stmt) → UsesTurnsExactly (effect_of statement env)
  pub counted : (head : ForHead) (body : Stmt) (first last : ℤ)
      → UsesTurnsExactly (for_rounds head (effect_of body) env first last)

-- each piece does so, wherever it stands
abbrev pub PiecesUseTurnsExactly : Type 0
PiecesUseTurnsExactly =
    (tree : Tree) (depth : ℕ) (visible : Environment) (records : List (Option Place)) →
    AllUseTurnsExactly (standing tree depth visible records)

-- a loop is its first round, and then the loop again, if another round follows
abbrev pub GoesRoundByRound : {A : Type 0} → Round A → Type 0
GoesRoundByRound {A} round =
    (a : A) (s : State) → looped round a s ≡ and_then (round a s) (λ more. another more (looped round))

-- all loops are that stand here
pub record AllGoRoundByRound (env : Surroundings) : Type 0 where
  pub whiles : (condition : Expr) (body : Stmt)
      → GoesRoundByRound (while_round (value_of condition) (effect_of body) env)
  pub repeats : (statements : List Stmt) (condition : Expr)
      → GoesRoundByRound (repeat_round (all_of (map effect_of statements)) (value_of condition) env)
  pub fors : (head : ForHead) (first last : ℤ) (body : Stmt)
      → GoesRoundByRound (for_round head first last (effect_of body) env)

-- each loop is, wherever it stands
abbrev pub LoopsGoRoundByRound : Type 0
LoopsGoRoundByRound =
    (tree : Tree) (depth : ℕ) (visible : Environment) (records : List (Option Place)) →
    AllGoRoundByRound (standing tree depth visible records)

-- where the bound on how deep activations stand in one another is greater than the turns that are left, a statement
-- does the same under a greater bound
abbrev pub DeeperCallsChangeNothing : Type 0
DeeperCallsChangeNothing =
    (tree : Tree) (depth more : ℕ) (visible : Environment) (records : List (Option Place)) (statement : Stmt)
    (s : State) → s.turns < depth →
    effect_of statement (standing tree depth visible records) s
    ≡ effect_of statement (standing tree (depth + more) visible records) s

-- where the beginning of a chain stops, the chain stops there, whatever stands to the right
abbrev pub ChainsGoLeftToRight : Type 0
ChainsGoLeftToRight =
    (first : Box Expr Global) (rest longer : Vec Link Global) (more : List Link)
    (env : Surroundings) (s t : State) (end : Ending)
    → longer.items ≡ rest.items ++ more → value_of (Chain first rest) env s ≡ Stops end t
    → value_of (Chain first longer) env s ≡ Stops end t

-- an entry, a state and a reply without the finished turns that entries tell
abbrev pub untold_visit : Visit → Visit
untold_visit visit = record visit { environment = record visit.environment { turns = [] } }

abbrev pub untold : State → State
untold s = record s { visited = map untold_visit s.visited }

abbrev pub untold_reply : {A : Type 0} → Reply A → Reply A
untold_reply (Gives a s) = Gives a (untold s)
untold_reply (Stops e s) = Stops e (untold s)

-- which turns the for statements round a statement have finished changes nothing but what its entries tell of them
abbrev pub FinishedTurnsAreOnlyTold : Type 0
FinishedTurnsAreOnlyTold =
    (tree : Tree) (depth : ℕ) (visible : Environment) (records : List (Option Place)) (turns : List ℕ)
    (statement : Stmt) (s : State) →
    untold_reply (effect_of statement (standing tree depth (record visible { turns = turns }) records) s)
    ≡ untold_reply (effect_of statement (standing tree depth visible records) s)
