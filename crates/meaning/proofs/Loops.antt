-- A loop's bound: each round behind which another follows uses a turn, so a loop is the same under every bound that is no
-- less than the turns that are left, and its rounds follow one another as if there were none.
use Rattle.std.proofs.Common.{◌≡◌, ℕ, ℤ, zero, suc, ◌≤◌, ◌<◌, Bool, true, false, Option, Some, None, arith, refl, if◌then◌else◌}
use Rattle.typed_tree.specs.declared.tree.ForHead.{ForHead}
use Rattle.meaning.specs.declared.outcome.Ending.TheVariants.{More}
use Rattle.meaning.specs.declared.value.Value.{Value}
use Rattle.meaning.specs.declared.value.Value.TheVariants.{Number}
use Rattle.meaning.specs.Effect.{State, Reply, Gives, Stops, Action, Round, ◌>>=◌, and_then, give, stop, take_turn, use_turn, another, looping, looped, store}
use Rattle.meaning.specs.Meaning.{Surroundings, Evaluation, Execution, is_so, turn_if, while_round, repeat_round, for_round, for_turn}
use Rattle.meaning.specs.Counting.{value_behind}
use Rattle.meaning.specs.Store.{Place}
use Rattle.meaning.specs.Laws.{state_after}
use Rattle.meaning.proofs.Turns.{Extended, extended_then, extended_give}

-- a round's reply: if another round follows, fewer turns are left than a bound
abbrev pub Spent : {A : Type 0} → ℕ → Reply (Option A) → Type 0
Spent bound (Gives None s) = Unit {0}
Spent bound (Gives (Some a) s) = s.turns < bound
Spent bound (Stops e s) = Unit {0}

-- each round behind which another follows uses a turn
pub record UsesTurns {A : Type 0} (round : Round A) : Type 0 where
  pub spent : (a : A) (s : State) → Spent s.turns (round a s)

-- what may follow a round is the same
follows_same : {A : Type 0} (reply : Reply (Option A)) (first second : A → Action (Unit {0})) (bound : ℕ) → Spent bound reply →
    ((a : A) (s : State) → s.turns < bound → first a s ≡ second a s) →
    and_then reply (λ more. another more first) ≡ and_then reply (λ more. another more second)
follows_same (Gives None s) first second bound spent same = refl
follows_same (Gives (Some a) s) first second bound spent same = same a s spent
follows_same (Stops e s) first second bound spent same = refl

module _ {A : Type 0} (round : Round A) (uses : UsesTurns round) where
  -- any bounds that the turns don't exceed
  pub looping-bound : (bound other : ℕ) (a : A) (s : State) → s.turns ≤ bound → s.turns ≤ other →
      looping bound round a s ≡ looping other round a s
  looping-bound zero zero a s few less = refl
  looping-bound zero (suc left) a s few less =
      follows_same (round a s) (λ b. stop More) (looping left round) s.turns (uses.spent a s)
      (λ b t fewer. let no : ⊥ = omega (arith, few, fewer) in absurd no)
  looping-bound (suc left) zero a s few less =
      follows_same (round a s) (looping left round) (λ b. stop More) s.turns (uses.spent a s)
      (λ b t fewer. let no : ⊥ = omega (arith, less, fewer) in absurd no)
  looping-bound (suc left) (suc there) a s few less =
      follows_same (round a s) (looping left round) (looping there round) s.turns (uses.spent a s)
      (λ b t fewer. looping-bound left there b t (omega (arith, few, fewer)) (omega (arith, less, fewer)))

  looping-rounds : (bound : ℕ) (a : A) (s : State) → s.turns ≤ bound →
      looping bound round a s ≡ and_then (round a s) (λ more. another more (looped round))
  looping-rounds zero a s few =
      follows_same (round a s) (λ b. stop More) (looped round) s.turns (uses.spent a s)
      (λ b t fewer. let no : ⊥ = omega (arith, few, fewer) in absurd no)
  looping-rounds (suc left) a s few =
      follows_same (round a s) (looping left round) (looped round) s.turns (uses.spent a s)
      (λ b t fewer. looping-bound left t.turns b t (omega (arith, few, fewer)) (omega arith))

  -- a round, and then the loop again, if another round follows
  pub looped-rounds : (a : A) (s : State) → looped round a s ≡ and_then (round a s) (λ more. another more (looped round))
  looped-rounds a s = looping-rounds s.turns a s (omega arith)

-- after a turn that gives none back
spent_below : {A : Type 0} (reply : Reply (Option A)) (bound : ℕ) → (state_after reply).turns < bound → Spent bound reply
spent_below (Gives None s) bound fewer = tt
spent_below (Gives (Some a) s) bound fewer = fewer
spent_below (Stops e s) bound fewer = tt

spent_taken : {A : Type 0} (turns : ℕ) (rest : Action (Option A)) (s : State) → Extended rest → Spent turns (and_then (take_turn turns s) (λ _. rest))
spent_taken zero rest s done = tt
spent_taken (suc left) rest s done =
    let there : State = record s { turns = left } in
    let fewer = done.falls there in
    spent_below (rest there) (suc left) (omega (arith, fewer))

-- a turn is used, and then comes what gives none back
pub spent_turn : {A : Type 0} (rest : Action (Option A)) (s : State) → Extended rest → Spent s.turns ((use_turn >>= λ _. rest) s)
spent_turn rest s done = spent_taken s.turns rest s done

-- fewer than fewer
spent_fewer : {A : Type 0} (reply : Reply (Option A)) (less bound : ℕ) → less ≤ bound → Spent less reply → Spent bound reply
spent_fewer (Gives None s) less bound few spent = tt
spent_fewer (Gives (Some a) s) less bound few spent = omega (arith, few, spent)
spent_fewer (Stops e s) less bound few spent = tt

-- what gives no turns back, and then what spends some
pub spent_then : {A B : Type 0} (reply : Reply B) (rest : B → Action (Option A)) (bound : ℕ) → (state_after reply).turns ≤ bound →
    ((b : B) (t : State) → Spent t.turns (rest b t)) → Spent bound (and_then reply rest)
spent_then (Gives b t) rest bound few each = spent_fewer (rest b t) t.turns bound few (each b t)
spent_then (Stops e t) rest bound few each = tt

spent_turn_if : (so : Bool) (body : Action (Unit {0})) (s : State) → Extended body → Spent s.turns (turn_if so body s)
spent_turn_if false body s done = tt
spent_turn_if true body s done = spent_turn (body >>= λ _. give (Some tt)) s (extended_then body (λ _. give (Some tt)) done (λ _. extended_give (Some tt)))

-- each turn of a while is used
pub while_uses : (condition : Evaluation) (body : Execution) (env : Surroundings) → Extended (condition env) → Extended (body env) →
    UsesTurns (while_round condition body env)
while_uses condition body env tested done = record {
  spent = λ start s. spent_then (condition env s) (λ v. turn_if (is_so v) (body env)) s.turns (tested.falls s)
      (λ v t. spent_turn_if (is_so v) (body env) t done);
}

-- each turn of a repeat is used
pub repeat_uses : (body : Execution) (condition : Evaluation) (env : Surroundings) → Extended (body env) → Extended (condition env) →
    UsesTurns (repeat_round body condition env)
repeat_uses body condition env done tested =
    let until : Value → Action (Option (Unit {0})) = λ v. give (if is_so v then None else Some tt) in
    let rest : Action (Option (Unit {0})) = body env >>= λ _. condition env >>= until in
    record {
      spent = λ start s. spent_turn rest s (extended_then (body env) (λ _. condition env >>= until) done
          (λ _. extended_then (condition env) until tested (λ v. extended_give (if is_so v then None else Some tt))));
    }

-- a control variable gets a value, and then comes a turn
pub counted_uses : (place : Option Place) (body : ℤ → Action (Unit {0})) (behind : ℤ → Option ℤ) → ((n : ℤ) → Extended (body n)) →
    UsesTurns (λ n. store place (Number n) >>= λ _. use_turn >>= λ _. body n >>= λ _. give (behind n))
counted_uses place body behind done =
    let next : ℤ → Action (Option ℤ) = λ n. give (behind n) in
    record {
      spent = λ n s. spent_then (store place (Number n) s) (λ _. use_turn >>= λ _. body n >>= λ _. next n) s.turns (omega arith)
          (λ _ t. spent_turn (body n >>= λ _. next n) t (extended_then (body n) (λ _. next n) (done n) (λ _. extended_give (behind n))));
    }

-- each turn of a for is used
pub for_uses : (head : ForHead) (first last : ℤ) (body : Execution) (env : Surroundings) → ((n : ℤ) → Extended (body (for_turn head first env n))) →
    UsesTurns (for_round head first last body env)
for_uses head first last body env done =
    counted_uses (env.visible.variables head.control) (λ n. body (for_turn head first env n)) (value_behind head.direction last) done
