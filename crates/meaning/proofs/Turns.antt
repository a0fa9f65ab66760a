-- More turns only extend a run. For each action three facts: the output only grows, the turns only fall, and with more
-- turns the action goes on from where it was with fewer.
use Rattle.std.proofs.Common.{◌≡◌, ◌≢◌, inl, inr, ℕ, zero, suc, ◌+◌, ◌≤◌, arith}
use Rattle.std.proofs.Common.{List, [], ◌∷◌, ◌++◌, append-nil, append_assoc, Option, Some, None, map, slice_get}
use Rattle.std.proofs.Common.{sym, ◌∙◌, ap, subst, refl}
use Rattle.typed_tree.specs.declared.tree.Tree.{Tree}
use Rattle.typed_tree.specs.declared.tree.Block.{Block}
use Rattle.typed_tree.specs.declared.tree.Expr.{Expr}
use Rattle.typed_tree.specs.declared.tree.Passed.{Passed}
use Rattle.typed_tree.specs.declared.tree.Call.{Call}
use Rattle.typed_tree.specs.declared.tree.Whole.{Whole}
use Rattle.typed_tree.specs.declared.tree.Access.{Access}
use Rattle.typed_tree.specs.declared.tree.Stmt.{Stmt}
use Rattle.meaning.specs.declared.outcome.Ending.{Ending}
use Rattle.meaning.specs.declared.outcome.Ending.TheVariants as ending
use Rattle.meaning.specs.declared.value.Value.{Value}
use Rattle.meaning.specs.Store.{Environment, Place, held}
use Rattle.meaning.specs.Effect.{State, Reply, Gives, Stops, Action, Round, ◌>>=◌, and_then, give, stop, enter, take_turn, use_turn, another, looping, looped}
use Rattle.meaning.specs.Effect.{fetched, fetch, store, undefine, write, begin_with, begin, living_now, end_with}
use Rattle.meaning.specs.Meaning.{Argument, Calls, Surroundings, Activation, all_of, accessed, whole_of, values_of, value_of, passing_of, effect_of, call_of}
use Rattle.meaning.specs.Meaning.{executed, activated, calls_of, Meaning, run_of, ended}
use Rattle.meaning.specs.Laws.{with_turns, reply_with_turns, state_after, Begins, Extends}
use Rattle.meaning.specs.Effect.{at_end, take_in, taken}
use Rattle.text_input.specs.Input.{Reading, Reads, Fails, Ends}
use Rattle.meaning.proofs.Walks.{Closed, closed_by_rounds, of_value, of_passing, of_access, of_whole_value, of_called, of_effect, of_statements, of_executed}

-- nothing more was written
nothing : (output : List ℕ) → Begins output output
nothing output = ([], sym (append-nil output))

-- what was written, and then more
further : (first second third : List ℕ) → Begins first second → Begins second third → Begins first third
further first second third begun more =
    (begun.0 ++ more.0, more.1 ∙ ap (λ written. written ++ more.0) begun.1 ∙ append_assoc first begun.0 more.0)

-- an action that more turns only extend, and that gives no turns back: a loop's turns are then enough for its rounds
pub record Extended {A : Type 0} (action : Action A) : Type 0 where
  pub grows : (s : State) → Begins s.output (state_after (action s)).output
  pub falls : (s : State) → (state_after (action s)).turns ≤ s.turns
  pub extends : (more : ℕ) (s : State) → Extends more (action s) (action (with_turns more s))

-- what comes after a reply only adds to its output
grown_rest : {A B : Type 0} (output : List ℕ) (reply : Reply A) (rest : A → Action B) → Begins output (state_after reply).output →
    ((a : A) (s : State) → Begins s.output (state_after (rest a s)).output) → Begins output (state_after (and_then reply rest)).output
grown_rest output (Gives a s) rest begun each = further output s.output _ begun (each a s)
grown_rest output (Stops e s) rest begun each = begun

-- what comes after a reply gives no turns back
fallen_rest : {A B : Type 0} (turns : ℕ) (reply : Reply A) (rest : A → Action B) → (state_after reply).turns ≤ turns →
    ((a : A) (s : State) → (state_after (rest a s)).turns ≤ s.turns) → (state_after (and_then reply rest)).turns ≤ turns
fallen_rest turns (Gives a s) rest fewer each = omega (arith, fewer, each a s)
fallen_rest turns (Stops e s) rest fewer each = fewer

-- the same reply with more turns, and then a rest that more turns extend
same_rest : {A B : Type 0} (more : ℕ) (reply : Reply A) (rest longer_rest : A → Action B) →
    ((a : A) (s : State) → Extends more (rest a s) (longer_rest a (with_turns more s))) →
    Extends more (and_then reply rest) (and_then (reply_with_turns more reply) longer_rest)
same_rest more (Gives a s) rest longer_rest each = each a s
same_rest more (Stops e s) rest longer_rest each = inl refl

-- a reply for want of turns stays so, whatever comes after it; where the run with more went on, its rest adds to the output
extended_rest : {A B : Type 0} (more : ℕ) (first second : Reply A) (rest longer_rest : A → Action B) → Extends more first second →
    ((a : A) (s : State) → Extends more (rest a s) (longer_rest a (with_turns more s))) →
    ((a : A) (s : State) → Begins s.output (state_after (longer_rest a s)).output) →
    Extends more (and_then first rest) (and_then second longer_rest)
extended_rest {A} {B} more first second rest longer_rest (inl same) each grows =
    subst (λ (reply : Reply A). Extends more (and_then first rest) (and_then reply longer_rest)) (sym same)
    (same_rest more first rest longer_rest each)
extended_rest more first second rest longer_rest (inr stopped) each grows =
    inr (stopped.0, ap (λ reply. and_then reply rest) stopped.1, grown_rest stopped.0.output second longer_rest stopped.2 grows)

pub extended_then : {A B : Type 0} (action : Action A) (rest : A → Action B) → Extended action → ((a : A) → Extended (rest a)) →
    Extended (action >>= rest)
extended_then action rest first each = record {
  grows = λ s. grown_rest s.output (action s) rest (first.grows s) (λ a t. (each a).grows t);
  falls = λ s. fallen_rest s.turns (action s) rest (first.falls s) (λ a t. (each a).falls t);
  extends = λ more s. extended_rest more (action s) (action (with_turns more s)) rest rest (first.extends more s)
      (λ a t. (each a).extends more t) (λ a t. (each a).grows t);
}

pub extended_give : {A : Type 0} (a : A) → Extended (give a)
extended_give a = record { grows = λ s. nothing s.output; falls = λ s. omega arith; extends = λ more s. inl refl }

pub extended_stop : {A : Type 0} (e : Ending) → Extended (stop {A = A} e)
extended_stop e = record { grows = λ s. nothing s.output; falls = λ s. omega arith; extends = λ more s. inl refl }

pub extended_enter : (number : ℕ) (env : Environment) → Extended (enter number env)
extended_enter number env = record { grows = λ s. nothing s.output; falls = λ s. omega arith; extends = λ more s. inl refl }

pub extended_store : (p : Option Place) (v : Value) → Extended (store p v)
extended_store p v = record { grows = λ s. nothing s.output; falls = λ s. omega arith; extends = λ more s. inl refl }

pub extended_undefine : (p : Option Place) → Extended (undefine p)
extended_undefine p = record { grows = λ s. nothing s.output; falls = λ s. omega arith; extends = λ more s. inl refl }

pub extended_write : (bytes : List ℕ) → Extended (write bytes)
extended_write bytes = record { grows = λ s. (bytes, refl); falls = λ s. omega arith; extends = λ more s. inl refl }

-- what is taken of the input writes nothing, whatever the turns
pub extended_taken : {A : Type 0} (point : ℕ) (reading : Reading A) → Extended (taken point reading)
extended_taken point (Reads a rest) = record { grows = λ s. nothing s.output; falls = λ s. omega arith; extends = λ more s. inl refl }
extended_taken point (Fails why) = record { grows = λ s. nothing s.output; falls = λ s. omega arith; extends = λ more s. inl refl }
extended_taken point Ends = record { grows = λ s. nothing s.output; falls = λ s. omega arith; extends = λ more s. inl refl }

pub extended_take : {A : Type 0} (point : ℕ) (reading : List ℕ → Reading A) → Extended (take_in point reading)
extended_take point reading = record {
  grows = λ s. (extended_taken point (reading s.input)).grows s;
  falls = λ s. (extended_taken point (reading s.input)).falls s;
  extends = λ more s. (extended_taken point (reading s.input)).extends more s;
}

pub extended_end : Extended at_end
extended_end = record { grows = λ s. nothing s.output; falls = λ s. omega arith; extends = λ more s. inl refl }

-- a turn writes nothing
turn_grows : (turns : ℕ) (s : State) → Begins s.output (state_after (take_turn turns s)).output
turn_grows zero s = nothing s.output
turn_grows (suc left) s = nothing s.output

-- after a turn there are fewer
turn_falls : (turns : ℕ) (s : State) → turns ≤ s.turns → (state_after (take_turn turns s)).turns ≤ s.turns
turn_falls zero s there = omega arith
turn_falls (suc left) s there = omega (arith, there)

-- where no turn was left, more of them may go on
turn_extends : (turns more : ℕ) (s : State) → Extends more (take_turn turns s) (take_turn (turns + more) (with_turns more s))
turn_extends zero more s = inr (s, refl, turn_grows (zero + more) (with_turns more s))
turn_extends (suc left) more s =
    let one_more : suc left + more ≡ suc (left + more) = omega arith in
    inl (ap (λ turns. take_turn turns (with_turns more s)) one_more)

-- the start of a loop's body or of a routine's block
pub extended_use_turn : Extended use_turn
extended_use_turn = record {
  grows = λ s. turn_grows s.turns s;
  falls = λ s. turn_falls s.turns s (omega arith);
  extends = λ more s. turn_extends s.turns more s;
}

-- another round, if one follows
extended_another : {A : Type 0} (more : Option A) (next : A → Action (Unit {0})) → ((a : A) → Extended (next a)) → Extended (another more next)
extended_another None next each = extended_give tt
extended_another (Some a) next each = each a

-- a loop whose rounds more turns only extend
module _ {A : Type 0} (round : Round A) (each : (a : A) → Extended (round a)) where
  -- its rounds up to a bound
  extended_looping : (bound : ℕ) (a : A) → Extended (looping bound round a)
  extended_looping zero a =
      let last : Option A → Action (Unit {0}) = λ more. another more (λ b. stop ending.More) in
      extended_then (round a) last (each a) (λ more. extended_another more (λ b. stop ending.More) (λ b. extended_stop ending.More))
  extended_looping (suc left) a =
      let next : Option A → Action (Unit {0}) = λ more. another more (looping left round) in
      extended_then (round a) next (each a) (λ more. extended_another more (looping left round) (extended_looping left))

  -- where the bound stopped the loop, a greater one may go on
  stopped_round : (more : ℕ) (follows : Option A) (next : A → Action (Unit {0})) → ((a : A) → Extended (next a)) → (s : State) →
      Extends more (another follows (λ b. stop ending.More) s) (another follows next (with_turns more s))
  stopped_round more None next grown s = inl refl
  stopped_round more (Some a) next grown s = inr (s, refl, (grown a).grows (with_turns more s))

  last_round : (more bound : ℕ) (a : A) (s : State) → Extends more (looping zero round a s) (looping bound round a (with_turns more s))
  last_round more zero a s =
      extended_rest more (round a s) (round a (with_turns more s)) (λ follows. another follows (λ b. stop ending.More))
      (λ follows. another follows (λ b. stop ending.More)) ((each a).extends more s)
      (λ follows t. stopped_round more follows (λ b. stop ending.More) (λ b. extended_stop ending.More) t)
      (λ follows t. (extended_another follows (λ b. stop ending.More) (λ b. extended_stop ending.More)).grows t)
  last_round more (suc left) a s =
      extended_rest more (round a s) (round a (with_turns more s)) (λ follows. another follows (λ b. stop ending.More))
      (λ follows. another follows (looping left round)) ((each a).extends more s)
      (λ follows t. stopped_round more follows (looping left round) (extended_looping left) t)
      (λ follows t. (extended_another follows (looping left round) (extended_looping left)).grows t)

  same_round : (more : ℕ) (follows : Option A) (next longer : A → Action (Unit {0})) →
      ((a : A) (s : State) → Extends more (next a s) (longer a (with_turns more s))) → (s : State) →
      Extends more (another follows next s) (another follows longer (with_turns more s))
  same_round more None next longer extends s = inl refl
  same_round more (Some a) next longer extends s = extends a s

  -- more turns, and a bound that is greater by them
  extends_looping : (bound more : ℕ) (a : A) (s : State) →
      Extends more (looping bound round a s) (looping (bound + more) round a (with_turns more s))
  extends_looping zero more a s = last_round more (zero + more) a s
  extends_looping (suc left) more a s =
      let one_more : suc (left + more) ≡ suc left + more = omega arith in
      subst (λ bound. Extends more (looping (suc left) round a s) (looping bound round a (with_turns more s))) one_more
      (extended_rest more (round a s) (round a (with_turns more s)) (λ follows. another follows (looping left round))
      (λ follows. another follows (looping (left + more) round)) ((each a).extends more s)
      (λ follows t. same_round more follows (looping left round) (looping (left + more) round) (extends_looping left more) t)
      (λ follows t. (extended_another follows (looping (left + more) round) (extended_looping (left + more))).grows t))

  extended_looped : (a : A) → Extended (looped round a)
  extended_looped a = record {
    grows = λ s. (extended_looping s.turns a).grows s;
    falls = λ s. (extended_looping s.turns a).falls s;
    extends = λ more s. extends_looping s.turns more a s;
  }

extended_fetched : (o : Option Value) (site : ℕ) → Extended (fetched o site)
extended_fetched None site = extended_stop (ending.Error site)
extended_fetched (Some v) site = extended_give v

pub extended_fetch : (p : Option Place) (site : ℕ) → Extended (fetch p site)
extended_fetch p site = record {
  grows = λ s. (extended_fetched (held s.store p) site).grows s;
  falls = λ s. (extended_fetched (held s.store p) site).falls s;
  extends = λ more s. (extended_fetched (held s.store p) site).extends more s;
}

-- an activation begins
begin_grows : (turns block : ℕ) (s : State) → Begins s.output (state_after (begin_with turns block s)).output
begin_grows zero block s = nothing s.output
begin_grows (suc left) block s = nothing s.output

begin_falls : (turns block : ℕ) (s : State) → turns ≤ s.turns → (state_after (begin_with turns block s)).turns ≤ s.turns
begin_falls zero block s there = omega arith
begin_falls (suc left) block s there = omega (arith, there)

begin_extends : (turns more block : ℕ) (s : State) → Extends more (begin_with turns block s) (begin_with (turns + more) block (with_turns more s))
begin_extends zero more block s = inr (record s { starved = block ∷ s.living }, refl, begin_grows (zero + more) block (with_turns more s))
begin_extends (suc left) more block s =
    let one_more : suc left + more ≡ suc (left + more) = omega arith in
    inl (ap (λ turns. begin_with turns block (with_turns more s)) one_more)

pub extended_begin : (block : ℕ) → Extended (begin block)
extended_begin block = record {
  grows = λ s. begin_grows s.turns block s;
  falls = λ s. begin_falls s.turns block s (omega arith);
  extends = λ more s. begin_extends s.turns more block s;
}

pub extended_living_now : Extended living_now
extended_living_now = record { grows = λ s. nothing s.output; falls = λ s. omega arith; extends = λ more s. inl refl }

pub extended_end_with : (living : List ℕ) → Extended (end_with living)
extended_end_with living = record { grows = λ s. nothing s.output; falls = λ s. omega arith; extends = λ more s. inl refl }

-- ---- pieces

pub extended_closed : Closed (λ A action other. Extended action)
extended_closed = closed_by_rounds (λ A action other. Extended action) (record {
  follows = λ action other rest others first each. extended_then action rest first each;
  gives = λ a. extended_give a;
  errs = λ site. extended_stop (ending.Error site);
  enters = extended_enter;
  fetches = extended_fetch;
  stores = extended_store;
  undefines = extended_undefine;
  writes = extended_write;
  turns = extended_use_turn;
  takes = λ point reading. extended_take point reading;
  asks = extended_end;
  refuses = λ point why. extended_stop (ending.Input point why);
}) (λ A round other each a. extended_looped round each a)

-- what calls do, more turns only extend
abbrev pub ExtendedCalls : Calls → Type 0
ExtendedCalls calls = (number : ℕ) (arguments : List Argument) (caller : Environment) → Extended (calls number arguments caller)

module _ (env : Surroundings) (extended : ExtendedCalls env.calls) where
  pub extended_value : (e : Expr) → Extended (value_of e env)
  extended_value e = of_value (λ A action other. Extended action) extended_closed env.visible env.calls env.calls extended e env.records

  pub extended_passing : (p : Passed) → Extended (passing_of p env)
  extended_passing p = of_passing (λ A action other. Extended action) extended_closed env.visible env.calls env.calls extended p env.records

  pub extended_access : (access : Access) (indexes : List Expr) → Extended (accessed access (values_of indexes) env)
  extended_access access indexes = of_access
      (λ A action other. Extended action) extended_closed env.visible env.calls env.calls extended access indexes env.records

  pub extended_whole_of : (value : Whole) (indexes : List Expr) → Extended (whole_of value (values_of indexes) env)
  extended_whole_of value indexes = of_whole_value
      (λ A action other. Extended action) extended_closed env.visible env.calls env.calls extended value indexes env.records

  pub extended_call : (call : Call) (actuals : List Passed) → Extended (call_of call (map passing_of actuals) env)
  extended_call call actuals = of_called (λ A action other. Extended action) extended_closed env.visible env.calls env.calls extended call actuals env.records

  pub extended_effect : (e : Stmt) → Extended (effect_of e env)
  extended_effect e = of_effect (λ A action other. Extended action) extended_closed env.visible env.calls env.calls extended e env.records

  pub extended_statements : (statements : List Stmt) → Extended (all_of (map effect_of statements) env)
  extended_statements statements = of_statements
      (λ A action other. Extended action) extended_closed env.visible env.calls env.calls extended statements env.records

-- ---- calls

-- an activation of a block, by its number
abbrev pub activation_of : ℕ → Block → List Argument → Environment → ℕ → Activation
activation_of number block arguments caller activation =
    record { number = activation; block = number; heading = block.heading; arguments = arguments; caller = caller }

module _ (tree : Tree) where
  pub extended_executed : (calls : Calls) → ExtendedCalls calls → (block : Block) (activation : Activation)
      → Extended (executed tree calls block activation)
  extended_executed calls extended = of_executed (λ A action other. Extended action) extended_closed tree calls calls extended

  pub extended_activated : (calls : Calls) → ExtendedCalls calls → (number : ℕ) (block : Option Block) (arguments : List Argument) (caller : Environment)
      → Extended (activated tree calls number block arguments caller)
  extended_activated calls extended number None arguments caller = extended_give _
  extended_activated calls extended number (Some block) arguments caller =
      extended_then _ _ extended_living_now
      (λ living. extended_then _ _ (extended_begin number)
      (λ activation. extended_then _ _ (extended_executed calls extended block (activation_of number block arguments caller activation))
      (λ v. extended_then _ _ (extended_end_with living) (λ _. extended_give v))))

  -- calls of each depth
  pub extended_calls : (depth : ℕ) → ExtendedCalls (calls_of tree depth)
  extended_calls zero number arguments caller = extended_stop ending.More
  extended_calls (suc depth) number arguments caller =
      extended_activated (calls_of tree depth) (extended_calls depth) number (slice_get tree.blocks.items number) arguments caller

-- ---- runs

pub extended_run : (tree : Tree) (depth : ℕ) (block : Option Block) → Extended (run_of tree depth block)
extended_run tree depth None = extended_give tt
extended_run tree depth (Some block) = extended_effect _ (extended_calls tree depth) block.body

-- the output of a whole run is that of its last state
pub output_after : (reply : Reply (Unit {0})) → (ended reply).output ≡ (state_after reply).output
output_after (Gives a s) = refl
output_after (Stops e s) = refl

-- turns that are left show neither in the output nor in the ending
same_end : (more : ℕ) (reply : Reply (Unit {0})) → ended (reply_with_turns more reply) ≡ ended reply
same_end more (Gives a s) = refl
same_end more (Stops e s) = refl

pub output_extended : (more : ℕ) (first second : Reply (Unit {0})) → Extends more first second →
    Begins (ended first).output (ended second).output
output_extended more first second (inl same) =
    subst (λ (written : List ℕ). Begins (ended first).output written)
    (sym (ap (λ (m : Meaning). m.output) (ap ended same ∙ same_end more first))) (nothing (ended first).output)
output_extended more first second (inr stopped) = (
  stopped.2.0,
  output_after second ∙ stopped.2.1
      ∙ ap (λ (written : List ℕ). written ++ stopped.2.0) (sym (ap (λ (r : Reply (Unit {0})). (ended r).output) stopped.1)),
)

pub ending_kept : (more : ℕ) (first second : Reply (Unit {0})) → Extends more first second → (ended first).ending ≢ ending.More →
    ended second ≡ ended first
ending_kept more first second (inl same) other = ap ended same ∙ same_end more first
ending_kept more first second (inr stopped) other = absurd (other (ap (λ (r : Reply (Unit {0})). (ended r).ending) stopped.1))
