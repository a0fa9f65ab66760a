-- Behind a piece that gives a value the same activations last as before it: a call ends those that it began.
use Rattle.std.proofs.Common.{◌≡◌, ℕ, zero, suc, List, Option, Some, None, map, slice_get, refl, subst}
use Rattle.typed_tree.specs.declared.tree.Tree.{Tree}
use Rattle.typed_tree.specs.declared.tree.Block.{Block}
use Rattle.typed_tree.specs.declared.tree.Expr.{Expr}
use Rattle.typed_tree.specs.declared.tree.Stmt.{Stmt}
use Rattle.meaning.specs.declared.outcome.Ending.TheVariants as ending
use Rattle.meaning.specs.declared.value.Value.{Value}
use Rattle.meaning.specs.Store.{Environment, held}
use Rattle.meaning.specs.Effect.{State, Reply, Gives, Stops, Action, Round, ◌>>=◌, and_then, give, stop, another, looping, take_turn, fetched}
use Rattle.meaning.specs.Effect.{begin_with, end_with}
use Rattle.meaning.specs.Meaning.{Argument, Calls, Surroundings, all_of, value_of, effect_of, executed, activated, calls_of}
use Rattle.meaning.specs.Laws.{CallsReturn}
use Rattle.meaning.specs.Effect.{taken}
use Rattle.text_input.specs.Input.{Reading, Reads, Fails, Ends}
use Rattle.meaning.proofs.Walks.{Closed, closed_by_rounds, of_value, of_effect, of_statements}
use Rattle.meaning.proofs.Turns.{activation_of}

-- if there is a value, these activations last
abbrev pub Lasting : {A : Type 0} → List ℕ → Reply A → Type 0
Lasting living (Gives a s) = s.living ≡ living
Lasting living (Stops e s) = Unit {0}

-- an action behind which the same last
abbrev pub Lasts : (A : Type 0) → Action A → Action A → Type 0
Lasts A action other = (s : State) → Lasting s.living (action s)

lasting_rest : {A B : Type 0} (living : List ℕ) (reply : Reply A) (rest : A → Action B) → Lasting living reply
    → ((a : A) (s : State) → Lasting s.living (rest a s)) → Lasting living (and_then reply rest)
lasting_rest living (Gives a s) rest same each = subst (λ l. Lasting l (rest a s)) same (each a s)
lasting_rest living (Stops e s) rest same each = tt

lasting_turn : (turns : ℕ) (s : State) → Lasting s.living (take_turn turns s)
lasting_turn zero s = tt
lasting_turn (suc left) s = refl

lasting_fetched : (value : Option Value) (site : ℕ) (s : State) → Lasting s.living (fetched value site s)
lasting_fetched None site s = tt
lasting_fetched (Some v) site s = refl

lasting_another : {A : Type 0} (more : Option A) (next : A → Action (Unit {0})) → ((a : A) (s : State) → Lasting s.living (next a s))
    → (s : State) → Lasting s.living (another more next s)
lasting_another None next each s = refl
lasting_another (Some a) next each s = each a s

module _ {A : Type 0} (round : Round A) (each : (a : A) (s : State) → Lasting s.living (round a s)) where
  lasting_looping : (count : ℕ) (a : A) (s : State) → Lasting s.living (looping count round a s)
  lasting_looping zero a s =
      lasting_rest s.living (round a s) (λ more. another more (λ b. stop ending.More)) (each a s)
      (λ more t. lasting_another more (λ b. stop ending.More) (λ b u. tt) t)
  lasting_looping (suc left) a s =
      lasting_rest s.living (round a s) (λ more. another more (looping left round)) (each a s)
      (λ more t. lasting_another more (looping left round) (lasting_looping left) t)

lasting_taken : {A : Type 0} (point : ℕ) (reading : Reading A) (s : State) → Lasting s.living (taken point reading s)
lasting_taken point (Reads a rest) s = refl
lasting_taken point (Fails why) s = tt
lasting_taken point Ends s = tt

lasts_closed : Closed Lasts
lasts_closed = closed_by_rounds Lasts (record {
  follows = λ action other rest others first each s. lasting_rest s.living (action s) rest (first s) each;
  gives = λ a s. refl;
  errs = λ site s. tt;
  enters = λ number visible s. refl;
  fetches = λ place site s. lasting_fetched (held s.store place) site s;
  stores = λ place v s. refl;
  undefines = λ place s. refl;
  writes = λ bytes s. refl;
  turns = λ s. lasting_turn s.turns s;
  takes = λ point reading s. lasting_taken point (reading s.input) s;
  asks = λ s. refl;
  refuses = λ point why s. tt;
}) (λ A round other each a s. lasting_looping round each s.turns a s)

-- ---- calls

-- what lasted before is taken up behind a value
lasting_end : (living : List ℕ) (reply : Reply Value) → Lasting living (and_then reply (λ v. end_with living >>= λ _. give v))
lasting_end living (Gives v s) = refl
lasting_end living (Stops e s) = tt

lasting_begun : (turns number : ℕ) (s : State) (inner : ℕ → Action Value)
    → Lasting s.living (and_then (begin_with turns number s) (λ activation. inner activation >>= λ v. end_with s.living >>= λ _. give v))
lasting_begun zero number s inner = tt
lasting_begun (suc left) number s inner = lasting_end s.living (inner s.activations _)

lasting_activated : (tree : Tree) (calls : Calls) (number : ℕ) (block : Option Block) (arguments : List Argument) (caller : Environment) (s : State)
    → Lasting s.living (activated tree calls number block arguments caller s)
lasting_activated tree calls number None arguments caller s = refl
lasting_activated tree calls number (Some block) arguments caller s =
    lasting_begun s.turns number s (λ activation. executed tree calls block (activation_of number block arguments caller activation))

lasting_calls : (tree : Tree) (depth number : ℕ) (arguments : List Argument) (caller : Environment) (s : State)
    → Lasting s.living (calls_of tree depth number arguments caller s)
lasting_calls tree zero number arguments caller s = tt
lasting_calls tree (suc depth) number arguments caller s =
    lasting_activated tree (calls_of tree depth) number (slice_get tree.blocks.items number) arguments caller s

pub calls_return : CallsReturn
calls_return tree depth number arguments caller s t v is =
    subst (λ reply. Lasting s.living reply) is (lasting_calls tree depth number arguments caller s)

-- ---- pieces, where calls return

-- calls behind which the same last
abbrev pub LastingCalls : Calls → Type 0
LastingCalls calls =
    (number : ℕ) (arguments : List Argument) (caller : Environment) → Lasts Value (calls number arguments caller) (calls number arguments caller)

pub calls_last : (tree : Tree) (depth : ℕ) → LastingCalls (calls_of tree depth)
calls_last tree depth number arguments caller s = lasting_calls tree depth number arguments caller s

module _ (env : Surroundings) (lasting : LastingCalls env.calls) where
  pub value_lasts : (e : Expr) (s : State) → Lasting s.living (value_of e env s)
  value_lasts e = of_value Lasts lasts_closed env.visible env.calls env.calls lasting e env.records

  pub effect_lasts : (e : Stmt) (s : State) → Lasting s.living (effect_of e env s)
  effect_lasts e = of_effect Lasts lasts_closed env.visible env.calls env.calls lasting e env.records

  pub statements_last : (statements : List Stmt) (s : State) → Lasting s.living (all_of (map effect_of statements) env s)
  statements_last statements = of_statements Lasts lasts_closed env.visible env.calls env.calls lasting statements env.records
