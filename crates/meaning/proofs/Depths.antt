-- How deep activations may stand in one another: each uses a turn, so where the bound is greater than the turns that are
-- left, a greater one changes nothing, and a call is what an activation is that makes such calls itself. And so more turns
-- only extend whole runs.
use Rattle.std.proofs.Common.{◌≡◌, ℕ, zero, suc, ◌+◌, ◌≤◌, ◌<◌, arith, List, [], ◌∷◌, Option, Some, None, map, slice_get, sym, ◌∙◌, ap, subst, refl}
use Rattle.typed_tree.specs.declared.tree.Tree.{Tree}
use Rattle.typed_tree.specs.declared.tree.Block.{Block}
use Rattle.typed_tree.specs.declared.tree.Expr.{Expr}
use Rattle.typed_tree.specs.declared.tree.Stmt.{Stmt}
use Rattle.meaning.specs.declared.outcome.Ending.TheVariants as ending
use Rattle.meaning.specs.declared.value.Value.{Value}
use Rattle.meaning.specs.Store.{Environment, Place}
use Rattle.meaning.specs.Effect.{State, Reply, Gives, Stops, Action, Round, ◌>>=◌, and_then, give, stop, another, looping, looped, begin_with, end_with}
use Rattle.meaning.specs.Meaning.{Argument, Calls, all_of, value_of, effect_of, activated, calls_of, run_of, run, first_state}
use Rattle.meaning.specs.Laws.{state_after, Extends, TurnsGoOn, TurnsExtendTheOutput, EndingsStay, DepthsAreEnough, standing}
use Rattle.meaning.proofs.Walks.{Closed, closed_by_rounds, RelatedCalls, of_value, of_effect, of_statements, of_executed}
use Rattle.meaning.proofs.Turns.{Extended, extended_give, extended_stop, extended_enter, extended_fetch, extended_store, extended_undefine, extended_write}
use Rattle.meaning.proofs.Turns.{extended_take, extended_end}
use Rattle.meaning.proofs.Turns.{extended_use_turn, extended_end_with, extended_run, activation_of, output_extended, ending_kept}

-- of two actions: from each state with fewer turns than a bound they do the same, and give none back
abbrev pub Agree : ℕ → (A : Type 0) → Action A → Action A → Type 0
Agree bound A action other = (s : State) → s.turns < bound → (action s ≡ other s) × ((state_after (action s)).turns ≤ s.turns)

-- an action and itself
agrees : {A : Type 0} (bound : ℕ) (action : Action A) → Extended action → Agree bound A action action
agrees bound action extended s below = (refl, extended.falls s)

-- what comes after the same reply
agreed_rest : {A B : Type 0} (bound turns : ℕ) (reply other : Reply A) (rest others : A → Action B) → reply ≡ other
    → (state_after reply).turns ≤ turns → turns < bound → ((a : A) → Agree bound B (rest a) (others a))
    → (and_then reply rest ≡ and_then other others) × ((state_after (and_then reply rest)).turns ≤ turns)
agreed_rest bound turns (Gives a s) other rest others same fewer below each =
    let here = each a s (omega (arith, fewer, below)) in
    (here.0 ∙ ap (λ r. and_then r others) same, omega (arith, here.1, fewer))
agreed_rest bound turns (Stops e s) other rest others same fewer below each = (ap (λ r. and_then r others) same, fewer)

module _ (bound : ℕ) where
  pub agreed_then : {A B : Type 0} (action other : Action A) (rest others : A → Action B) → Agree bound A action other
      → ((a : A) → Agree bound B (rest a) (others a)) → Agree bound B (action >>= rest) (other >>= others)
  agreed_then action other rest others first each s below =
      let one = first s below in
      agreed_rest bound s.turns (action s) (other s) rest others one.0 one.1 below each

  agreed_another : {A : Type 0} (more : Option A) (next other : A → Action (Unit {0})) → ((a : A) → Agree bound (Unit {0}) (next a) (other a))
      → Agree bound (Unit {0}) (another more next) (another more other)
  agreed_another None next other each = agrees bound (give tt) (extended_give tt)
  agreed_another (Some a) next other each = each a

  module _ {A : Type 0} (round other : Round A) (each : (a : A) → Agree bound (Option A) (round a) (other a)) where
    agreed_looping : (count : ℕ) (a : A) → Agree bound (Unit {0}) (looping count round a) (looping count other a)
    agreed_looping zero a =
        agreed_then (round a) (other a) (λ more. another more (λ b. stop ending.More)) (λ more. another more (λ b. stop ending.More)) (each a)
        (λ more. agreed_another more (λ b. stop ending.More) (λ b. stop ending.More)
        (λ b. agrees bound (stop ending.More) (extended_stop ending.More)))
    agreed_looping (suc left) a =
        agreed_then (round a) (other a) (λ more. another more (looping left round)) (λ more. another more (looping left other)) (each a)
        (λ more. agreed_another more (looping left round) (looping left other) (agreed_looping left))

    agreed_looped : (a : A) → Agree bound (Unit {0}) (looped round a) (looped other a)
    agreed_looped a s below = agreed_looping s.turns a s below

  pub agreed_closed : Closed (Agree bound)
  agreed_closed = closed_by_rounds (Agree bound) (record {
    follows = λ action other rest others first each. agreed_then action other rest others first each;
    gives = λ a. agrees bound (give a) (extended_give a);
    errs = λ site. agrees bound (stop (ending.Error site)) (extended_stop (ending.Error site));
    enters = λ number visible. agrees bound _ (extended_enter number visible);
    fetches = λ place site. agrees bound _ (extended_fetch place site);
    stores = λ place v. agrees bound _ (extended_store place v);
    undefines = λ place. agrees bound _ (extended_undefine place);
    writes = λ bytes. agrees bound _ (extended_write bytes);
    turns = agrees bound _ extended_use_turn;
    takes = λ point reading. agrees bound _ (extended_take point reading);
    asks = agrees bound _ extended_end;
    refuses = λ point why. agrees bound _ (extended_stop (ending.Input point why));
  }) (λ A round other each a. agreed_looped round other each a)

-- an activation begins, and then comes what agrees with one turn less
agreed_begun : {A : Type 0} (bound turns number : ℕ) (rest others : ℕ → Action A) (s : State) → turns ≤ s.turns → turns < suc bound
    → ((activation : ℕ) → Agree bound A (rest activation) (others activation))
    → (and_then (begin_with turns number s) rest ≡ and_then (begin_with turns number s) others)
    × ((state_after (and_then (begin_with turns number s) rest)).turns ≤ s.turns)
agreed_begun bound zero number rest others s there below each = (refl, omega arith)
agreed_begun bound (suc left) number rest others s there below each =
    let begun : State = record s { turns = left; activations = suc s.activations; living = number ∷ s.living } in
    let fewer : left < bound = omega (arith, below) in
    let here = each s.activations begun fewer in
    (here.0, omega (arith, here.1, there))

module _ (tree : Tree) where
  -- activations whose calls agree
  agreed_activated : (bound : ℕ) (calls others : Calls) → RelatedCalls (Agree bound) (agreed_closed bound) calls others
      → (number : ℕ) (block : Option Block) (arguments : List Argument) (caller : Environment)
      → Agree (suc bound) Value (activated tree calls number block arguments caller) (activated tree others number block arguments caller)
  agreed_activated bound calls others related number None arguments caller s below = (refl, omega arith)
  agreed_activated bound calls others related number (Some block) arguments caller s below =
      agreed_begun bound s.turns number _ _ s (omega arith) below
      (λ activation. agreed_then bound _ _ _ _
      (of_executed (Agree bound) (agreed_closed bound) tree calls others related block (activation_of number block arguments caller activation))
      (λ v. agreed_then bound _ _ _ _ (agrees bound (end_with s.living) (extended_end_with s.living)) (λ _. agrees bound (give v) (extended_give v))))

  -- calls of a depth, and of a greater one
  pub agreed_calls : (depth more : ℕ) → RelatedCalls (Agree depth) (agreed_closed depth) (calls_of tree depth) (calls_of tree (depth + more))
  agreed_calls zero more number arguments caller = λ s below. let no : ⊥ = omega (arith, below) in absurd no
  agreed_calls (suc depth) more number arguments caller =
      let one_more : suc (depth + more) ≡ suc depth + more = omega arith in
      subst (λ d. Agree (suc depth) Value (calls_of tree (suc depth) number arguments caller) (calls_of tree d number arguments caller)) one_more
      (agreed_activated depth (calls_of tree depth) (calls_of tree (depth + more)) (agreed_calls depth more) number
      (slice_get tree.blocks.items number) arguments caller)

  -- a call is an activation that makes such calls itself
  pub calls_unrolled : (depth number : ℕ) (arguments : List Argument) (caller : Environment) (s : State) → s.turns < depth
      → calls_of tree depth number arguments caller s
      ≡ activated tree (calls_of tree depth) number (slice_get tree.blocks.items number) arguments caller s
  calls_unrolled zero number arguments caller s below = let no : ⊥ = omega (arith, below) in absurd no
  calls_unrolled (suc depth) number arguments caller s below =
      let one_more : depth + 1 ≡ suc depth = omega arith in
      let deeper = subst (λ d. RelatedCalls (Agree depth) (agreed_closed depth) (calls_of tree depth) (calls_of tree d)) one_more (agreed_calls depth 1) in
      (agreed_activated depth (calls_of tree depth) (calls_of tree (suc depth)) deeper number (slice_get tree.blocks.items number) arguments caller s
      below).0

  -- ---- pieces that stand where calls are of a depth, or of a greater one

  pub deep_value : (depth more : ℕ) (visible : Environment) (records : List (Option Place)) (e : Expr) (s : State) → s.turns < depth
      → value_of e (standing tree depth visible records) s
      ≡ value_of e (standing tree (depth + more) visible records) s
  deep_value depth more visible records e s below =
      (of_value (Agree depth) (agreed_closed depth) visible (calls_of tree depth) (calls_of tree (depth + more)) (agreed_calls depth more) e records s below).0

  pub deep_effect : (depth more : ℕ) (visible : Environment) (records : List (Option Place)) (e : Stmt) (s : State) → s.turns < depth
      → effect_of e (standing tree depth visible records) s
      ≡ effect_of e (standing tree (depth + more) visible records) s
  deep_effect depth more visible records e s below =
      (of_effect (Agree depth) (agreed_closed depth) visible (calls_of tree depth) (calls_of tree (depth + more)) (agreed_calls depth more) e records s below).0

  pub deep_statements : (depth more : ℕ) (visible : Environment) (records : List (Option Place)) (statements : List Stmt) (s : State) → s.turns < depth
      → all_of (map effect_of statements) (standing tree depth visible records) s
      ≡ all_of (map effect_of statements) (standing tree (depth + more) visible records) s
  deep_statements depth more visible records statements s below =
      (of_statements (Agree depth) (agreed_closed depth) visible (calls_of tree depth) (calls_of tree (depth + more)) (agreed_calls depth more)
      statements records s below).0

  -- the run of a block
  pub deep_run : (depth more : ℕ) (block : Option Block) (s : State) → s.turns < depth → run_of tree depth block s ≡ run_of tree (depth + more) block s
  deep_run depth more None s below = refl
  deep_run depth more (Some block) s below = deep_effect depth more _ [] block.body s below

-- a greater bound changes nothing
pub depths_are_enough : DepthsAreEnough
depths_are_enough tree depth more number arguments caller s below = sym (agreed_calls tree depth more number arguments caller s below).0

-- ---- whole runs

pub goes_on : TurnsGoOn
goes_on tree input turns more =
    let block = slice_get tree.blocks.items 0 in
    let deep : suc turns + more ≡ suc (turns + more) = omega arith in
    let same : run tree input turns ≡ run_of tree (suc (turns + more)) block (first_state input turns) =
    deep_run tree (suc turns) more block (first_state input turns) (omega arith)
    ∙ ap (λ depth. run_of tree depth block (first_state input turns)) deep in
    subst (λ reply. Extends more reply (run tree input (turns + more))) (sym same)
    ((extended_run tree (suc (turns + more)) block).extends more (first_state input turns))

pub output_extends : TurnsExtendTheOutput
output_extends tree input turns more = output_extended more (run tree input turns) (run tree input (turns + more)) (goes_on tree input turns more)

pub ending_stays : EndingsStay
ending_stays tree input turns more other =
    ending_kept more (run tree input turns) (run tree input (turns + more)) (goes_on tree input turns more) other
