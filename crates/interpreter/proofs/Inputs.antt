-- What is read and asked of the input, as the work that an interpreter has to do for it.
use Rattle.std.proofs.Common.{◌≡◌, ℕ, ℤ, pos, List, [], ◌∷◌, Option, Bor, map, sym, ◌∙◌, ap, refl}
use Rattle.text_input.specs.declared.InputFault.{InputFault}
use Rattle.text_input.specs.declared.InputFault.TheVariants as fault
use Rattle.text_input.specs.Input.{Reading as TextRead, Reads, Fails, Ends, read_character}
use Rattle.typed_tree.specs.declared.tree.Expr.{Expr}
use Rattle.typed_tree.specs.declared.tree.Expr.TheVariants as expr
use Rattle.typed_tree.specs.declared.tree.Expr.TheFolds.{fold-roll-Expr}
use Rattle.typed_tree.specs.declared.tree.Expr.TheOpen.Expr-F.{Input as Input-F}
use Rattle.typed_tree.specs.declared.tree.InputTest.{InputTest}
use Rattle.typed_tree.specs.declared.tree.Reading.{Reading}
use Rattle.typed_tree.specs.declared.tree.ReadVariable.{ReadVariable}
use Rattle.typed_tree.specs.declared.tree.Readable.{Readable}
use Rattle.typed_tree.specs.declared.tree.Readable.TheVariants as readable
use Rattle.typed_tree.specs.declared.tree.Stmt.{Stmt}
use Rattle.typed_tree.specs.declared.tree.Stmt.TheVariants as stmt
use Rattle.typed_tree.specs.declared.tree.Stmt.TheOpen.Stmt-F.{Read as Read-F}
use Rattle.typed_tree.specs.Accesses.{origin_of}
use Rattle.meaning.specs.declared.outcome.Ending.TheVariants as ending
use Rattle.meaning.specs.declared.value.Value.{Value}
use Rattle.meaning.specs.declared.value.Value.TheVariants.{Number}
use Rattle.meaning.specs.Store.{Place}
use Rattle.meaning.specs.Integers.{truth}
use Rattle.meaning.specs.Effect.{State, Reply, Stops, Action, ◌>>=◌, and_then, give, store, taken}
use Rattle.meaning.specs.Meaning.{Argument, OfValue, Surroundings, Evaluation, Passing, Combination, all_of, asked, begun, line_passed, link_step}
use Rattle.meaning.specs.Meaning.{passed_step, read_as, read_of, selected, unless_outside, value_of, value_step, values_of}
use Rattle.meaning.proofs.Replies.{and_then-and_then}
use Rattle.interpreter_state.specs.declared.input.Input.{Input}
use Rattle.interpreter_state.specs.declared.work.Work.{Work}
use Rattle.interpreter_state.specs.declared.work.Work.TheVariants as work
use Rattle.interpreter_state.specs.Views.{by_number, failed, left_in, read_by}
use Rattle.interpreter.specs.declared.interpreter.Run.{Run}
use Rattle.interpreter.specs.Pending.{Resumption, Agrees, accessing, asking, keeping, line_passing, pending_of, read_at, resumed}
use Rattle.interpreter.proofs.Unrolling.{entered, evaluated, executed, executed-rolled}

-- ---- forms

pub does-Read : (reading : Reading) (given : Stmt) → given ≡ stmt.Read reading → (all : Bor (List ReadVariable)) → all.now ≡ reading.variables.items →
    (env : Surroundings) (outer : Resumption) (works : List Work) (operands : List Argument) (s : State) →
    executed env outer given works operands s ≡
    resumed env (work.Variables all reading.line) (pending_of env outer works) operands (entered reading.number env s)
does-Read reading given is all same env outer works operands s =
    let then_rest : Unit {0} → Action (Unit {0}) = λ _. pending_of env outer works operands in
    let each : List ReadVariable → Reply (Unit {0}) = λ l. all_of (map read_of l) env (entered reading.number env s) in
    executed-rolled (Read-F reading) given (stmt.Read reading) is (stmt.rolls-Read reading) env outer works operands s
    ∙ and_then-and_then (each reading.variables.items) (λ _. line_passed reading.line) then_rest
    ∙ ap (λ (l : List ReadVariable). and_then (each l) (λ _. line_passed reading.line >>= then_rest)) (sym same)

-- the variables of a read, the first one and then the others
pub does-Variables : (first : Bor ReadVariable) (rest all : Bor (List ReadVariable)) (line : Option ℕ) → all.now ≡ first.now ∷ rest.now →
    (indexes : List Expr) → indexes ≡ first.now.indexes.items → (env : Surroundings) (outer : Resumption) (works : List Work)
    (operands : List Argument) (s : State) → resumed env (work.Variables all line) (pending_of env outer works) operands s ≡
    accessing env first.now.access indexes (work.Read first) (pending_of env outer (work.Variables rest line ∷ works)) operands
    (entered first.now.access.number env s)
does-Variables first rest all line is indexes same env outer works operands s =
    let access = first.now.access in
    let place : List Expr → Reply (Option Place) =
    λ l. selected access.selectors.items (values_of l) env (begun (origin_of access) env) (entered access.number env s) in
    let others : Action (Unit {0}) = all_of (map read_of rest.now) env in
    let behind : Unit {0} → Action (Unit {0}) = λ _. line_passing line (pending_of env outer works) operands in
    ap (λ (l : List ReadVariable). and_then (all_of (map read_of l) env s) behind) is
    ∙ and_then-and_then (read_of first.now env s) (λ _. others) behind
    ∙ and_then-and_then (place first.now.indexes.items) (read_at first.now) (λ _. others >>= behind)
    ∙ ap (λ (l : List Expr). and_then (place l) (λ p. read_at first.now p >>= λ _. others >>= behind)) (sym same)

pub does-no-Variables : (all : Bor (List ReadVariable)) (line : Option ℕ) → all.now ≡ [] →
    (env : Surroundings) (outer : Resumption) (works : List Work) (operands : List Argument) (s : State) →
    resumed env (work.Variables all line) (pending_of env outer works) operands s ≡ line_passing line (pending_of env outer works) operands s
does-no-Variables all line none env outer works operands s =
    ap (λ (l : List ReadVariable). and_then (all_of (map read_of l) env s) (λ _. line_passing line (pending_of env outer works) operands)) none

pub does-Input : (n : ℕ) (asks : InputTest) (given : Expr) → given ≡ expr.Input n asks →
    (env : Surroundings) (outer : Resumption) (works : List Work) (operands : List Argument) (s : State) →
    evaluated env outer given works operands s ≡ asking asks (pending_of env outer works) operands (entered n env s)
does-Input n asks given is env outer works operands s =
    let then_rest : Value → Action (Unit {0}) = λ v. pending_of env outer works (OfValue v ∷ operands) in
    ap (λ (e : Expr). and_then (value_of e env s) then_rest) (is ∙ sym (expr.rolls-Input n asks))
    ∙ ap (λ (f : Evaluation). and_then (f env s) then_rest)
    (fold-roll-Expr Evaluation Passing Combination value_step passed_step link_step (Input-F n asks))
    ∙ and_then-and_then (asked asks (entered n env s)) (λ b. give (Number (truth b))) then_rest

-- ---- the input

-- a run that took some of the input
pub agrees_behind : (env : Surroundings) (outer : Resumption) (run : Run) (s : State) (rest : Input) → Agrees env outer run s →
    Agrees env outer (record run { input = rest }) (record s { input = left_in rest })
agrees_behind env outer run s rest agrees = record {
  visible = agrees.visible;
  calls = agrees.calls;
  waits = agrees.waits;
  deep = agrees.deep;
  few = agrees.few;
  store = agrees.store;
  input = refl;
  output = agrees.output;
  turns = agrees.turns;
  activations = agrees.activations;
  records = agrees.records;
}

-- where the input is at fault the run ends
pub fails_at : {A : Type 0} (point : ℕ) (why : InputFault) (s : State) → taken {A = A} point (failed why) s ≡ Stops (ending.Input point why) s
fails_at point fault.EndOfInput s = refl
fails_at point fault.NotANumber s = refl
fails_at point fault.NumberTooLarge s = refl
fails_at point fault.OutsideType s = refl
fails_at point fault.NotACharacter s = refl

-- what is read for a variable
character_taken : (point : ℕ) (reading : TextRead ℕ) (s : State) →
    and_then (taken point reading s) (λ c. give (pos c)) ≡ taken point (by_number reading) s
character_taken point (Reads c rest) s = refl
character_taken point (Fails why) s = refl
character_taken point Ends s = refl

reads_as : (reads : Readable) (point : ℕ) (s : State) → read_as reads point s ≡ taken point (read_by reads s.input) s
reads_as readable.Integer point s = refl
reads_as readable.Char point s = character_taken point (read_character s.input) s

module _ (one : ReadVariable) (place : Option Place) (next : Resumption) (operands : List Argument) (s : State) where
  -- what is read is tested and stored
  abbrev stored : ℤ → Action (Unit {0})
  stored n = unless_outside one.range one.point n >>= λ _. store place (Number n)

  reads_so : (answer : TextRead ℤ) → read_by one.reads s.input ≡ answer →
      and_then (read_at one place s) (λ _. next operands) ≡ and_then (and_then (taken one.point answer s) stored) (λ _. next operands)
  reads_so answer is =
      ap (λ (r : Reply ℤ). and_then (and_then r stored) (λ _. next operands))
      (reads_as one.reads one.point s ∙ ap (λ (a : TextRead ℤ). taken one.point a s) is)

  pub reads_on : (n : ℤ) (rest : List ℕ) → read_by one.reads s.input ≡ Reads n rest → and_then (read_at one place s) (λ _. next operands) ≡
      keeping place (Number n) one.range (ending.Input one.point fault.OutsideType) next operands (record s { input = rest })
  reads_on n rest is =
      reads_so (Reads n rest) is
      ∙ and_then-and_then (unless_outside one.range one.point n (record s { input = rest })) (λ _. store place (Number n)) (λ _. next operands)

  pub reads_ends : (why : InputFault) → read_by one.reads s.input ≡ failed why →
      and_then (read_at one place s) (λ _. next operands) ≡ Stops (ending.Input one.point why) s
  reads_ends why is =
      reads_so (failed why) is
      ∙ ap (λ (r : Reply ℤ). and_then (and_then r stored) (λ _. next operands)) (fails_at one.point why s)
