-- A piece that gives a value uses some turns, and gives the same with those and whatever is left behind it: so a piece that
-- was reached in a run is reached in a run with as many turns as one likes to leave for it.
use Rattle.std.proofs.Common.{◌≡◌, ℕ, zero, suc, ◌+◌, ◌≤◌, ◌<◌, arith, List, [], Bool, true, false, Option, Some, None, map, slice_get, ℤ}
use Rattle.std.proofs.Common.{refl, sym, ap, ◌∙◌, if◌then◌else◌}
use Rattle.typed_tree.specs.declared.tree.Tree.{Tree}
use Rattle.typed_tree.specs.declared.tree.Block.{Block}
use Rattle.typed_tree.specs.declared.tree.Direction.{Direction}
use Rattle.typed_tree.specs.declared.tree.Expr.{Expr}
use Rattle.typed_tree.specs.declared.tree.Stmt.{Stmt}
use Rattle.meaning.specs.declared.outcome.Ending.TheVariants as ending
use Rattle.meaning.specs.declared.value.Value.{Value}
use Rattle.meaning.specs.declared.value.Value.TheVariants.{Number}
use Rattle.meaning.specs.Store.{Environment, Place, held}
use Rattle.meaning.specs.Counting.{value_behind}
use Rattle.meaning.specs.Effect.{State, Reply, Gives, Stops, Action, Round, ◌>>=◌, and_then, give, stop, another, looped, take_turn, use_turn}
use Rattle.meaning.specs.Effect.{fetched, fetch, store, begin_with, begin, living_now, end_with}
use Rattle.meaning.specs.Meaning.{Argument, Calls, Surroundings, Activation, all_of, value_of, effect_of, executed, activated, calls_of, is_so, turn_if}
use Rattle.meaning.specs.Laws.{state_after, UsedTurns, UsesTurnsExactly, StatementsUseTurnsExactly, standing}
use Rattle.meaning.specs.Effect.{at_end, take_in, taken}
use Rattle.text_input.specs.Input.{Reading, Reads, Fails, Ends}
use Rattle.meaning.proofs.Walks.{Closed, while_again, repeat_again, for_again, of_value, of_effect, of_statements, of_executed}
use Rattle.meaning.proofs.Turns.{Extended, extended_then, extended_give, extended_stop, extended_enter, extended_fetch, extended_store, extended_undefine}
use Rattle.meaning.proofs.Turns.{extended_take, extended_end}
use Rattle.meaning.proofs.Turns.{extended_write, extended_use_turn, extended_closed, activation_of, extended_calls}
use Rattle.meaning.proofs.Loops.{UsesTurns, Spent, looped-rounds, while_uses, repeat_uses, counted_uses}

-- ---- actions that use no turn

-- the same reply with so many turns left
abbrev left_at : {A : Type 0} → ℕ → Reply A → Reply A
left_at left (Gives a s) = Gives a (record s { turns = left })
left_at left (Stops e s) = Stops e (record s { turns = left })

pub exact_plain : {A : Type 0} (action : Action A) → ((s : State) → (state_after (action s)).turns ≡ s.turns)
    → ((s : State) (left : ℕ) → action (record s { turns = left }) ≡ left_at left (action s)) → UsesTurnsExactly action
exact_plain action same plain s t a is =
    let none : s.turns ≡ 0 + t.turns = sym (same s) ∙ ap (λ r. (state_after r).turns) is ∙ plus_none t.turns in
    (0, none, λ left. plain s (0 + left) ∙ ap (left_at (0 + left)) is ∙ ap (λ n. Gives a (record t { turns = n })) (sym (plus_none left)))
  where
    plus_none : (n : ℕ) → n ≡ 0 + n
    plus_none n = omega arith

pub exact_give : {A : Type 0} (a : A) → UsesTurnsExactly (give a)
exact_give a = exact_plain (give a) (λ s. refl) (λ s left. refl)

-- an action that gives no value
pub exact_stop : {A : Type 0} (action : Action A) → ((s t : State) (a : A) → action s ≡ Gives a t → ⊥) → UsesTurnsExactly action
exact_stop action never s t a is = absurd (never s t a is)

fetched_turns : (value : Option Value) (site : ℕ) (s : State) → (state_after (fetched value site s)).turns ≡ s.turns
fetched_turns None site s = refl
fetched_turns (Some v) site s = refl

fetched_left : (value : Option Value) (site : ℕ) (s : State) (left : ℕ) → fetched value site (record s { turns = left }) ≡ left_at left (fetched value site s)
fetched_left None site s left = refl
fetched_left (Some v) site s left = refl

taken_turns : {A : Type 0} (point : ℕ) (reading : Reading A) (s : State) → (state_after (taken point reading s)).turns ≡ s.turns
taken_turns point (Reads a rest) s = refl
taken_turns point (Fails why) s = refl
taken_turns point Ends s = refl

taken_left : {A : Type 0} (point : ℕ) (reading : Reading A) (s : State) (left : ℕ)
    → taken point reading (record s { turns = left }) ≡ left_at left (taken point reading s)
taken_left point (Reads a rest) s left = refl
taken_left point (Fails why) s left = refl
taken_left point Ends s left = refl

-- ---- one after the other

pub exact_then : {A B : Type 0} (action : Action A) (rest : A → Action B) → UsesTurnsExactly action → ((a : A) → UsesTurnsExactly (rest a))
    → UsesTurnsExactly (action >>= rest)
exact_then {A} {B} action rest first each s t b is = by (action s) refl is
  where
    by : (reply : Reply A) → action s ≡ reply → and_then reply rest ≡ Gives b t
        → UsedTurns (action >>= rest) s t b
    by (Gives a u) gives then_is =
        let one = first s u a gives in
        let two = each a u t b then_is in (
          one.0 + two.0,
          omega (arith, one.1, two.1),
          λ left.
              let parts : (one.0 + two.0) + left ≡ one.0 + (two.0 + left) = omega arith in
              ap (λ n. and_then (action (record s { turns = n })) rest) parts ∙ ap (λ r. and_then r rest) (one.2 (two.0 + left)) ∙ two.2 left,
        )
    by (Stops e u) gives then_is = absurd cc

-- what comes behind a piece is reached with so many turns left for it, if the piece begins with those and its own
pub reached : {A B : Type 0} (action : Action A) (rest : A → Action B) → UsesTurnsExactly action → (s t : State) (a : A) → action s ≡ Gives a t
    → (left : ℕ) → (used : ℕ) × ((action >>= rest) (record s { turns = used + left }) ≡ rest a (record t { turns = left }))
reached action rest exact s t a is left =
    let one = exact s t a is in
    (one.0, ap (λ r. and_then r rest) (one.2 left))

-- ---- turns

turn_exact : (turns : ℕ) (s t : State) (a : Unit {0}) → turns ≡ s.turns → take_turn turns s ≡ Gives a t
    → UsedTurns use_turn s t a
turn_exact zero s t a there is = absurd cc
turn_exact (suc less) s t a there is =
    let state : record s { turns = less } ≡ t = ap state_after is in
    let counted : less ≡ t.turns = ap (λ (u : State). u.turns) state in (
      1,
      omega (arith, there, counted),
      λ left.
          let one_more : 1 + left ≡ suc left = omega arith in
          ap (λ n. take_turn n (record s { turns = n })) one_more ∙ ap (λ (u : State). Gives tt (record u { turns = left })) state,
    )

pub exact_turn : UsesTurnsExactly use_turn
exact_turn s t a is = turn_exact s.turns s t a refl is

begin_exact : (turns block : ℕ) (s t : State) (a : ℕ) → turns ≡ s.turns → begin_with turns block s ≡ Gives a t
    → UsedTurns (begin block) s t a
begin_exact zero block s t a there is = absurd cc
begin_exact (suc less) block s t a there is =
    let counted : less ≡ t.turns = ap (λ r. (state_after r).turns) is in (
      1,
      omega (arith, there, counted),
      λ left.
          let one_more : 1 + left ≡ suc left = omega arith in
          ap (λ n. begin_with n block (record s { turns = n })) one_more ∙ ap (left_at left) is,
    )

pub exact_begin : (block : ℕ) → UsesTurnsExactly (begin block)
exact_begin block s t a is = begin_exact s.turns block s t a refl is

-- ---- loops

module _ {A : Type 0} (round : Round A) (uses : UsesTurns round) (each : (a : A) → UsesTurnsExactly (round a)) where
  -- from the reply of the first round, and what holds of the loop with fewer turns
  exact_round : (a : A) (s t : State) (b : Unit {0}) (reply : Reply (Option A)) → round a s ≡ reply → Spent s.turns reply
      → ((more : A) (u : State) → u.turns < s.turns → looped round more u ≡ Gives b t → UsedTurns (looped round more) u t b)
      → and_then reply (λ more. another more (looped round)) ≡ Gives b t → UsedTurns (looped round a) s t b
  exact_round a s t b (Gives None u) gives spent again is =
      let one = each a s u None gives in
      let same : u ≡ t = ap state_after is in (
        one.0,
        omega (arith, one.1, ap (λ (v : State). v.turns) same),
        λ left.
            looped-rounds round uses a (record s { turns = one.0 + left })
            ∙ ap (λ r. and_then r (λ more. another more (looped round))) (one.2 left)
            ∙ ap (λ (v : State). Gives tt (record v { turns = left })) same,
      )
  exact_round a s t b (Gives (Some more) u) gives spent again is =
      let one = each a s u (Some more) gives in
      let two = again more u spent is in (
        one.0 + two.0,
        omega (arith, one.1, two.1),
        λ left.
            let parts : (one.0 + two.0) + left ≡ one.0 + (two.0 + left) = omega arith in
            ap (λ n. looped round a (record s { turns = n })) parts
            ∙ looped-rounds round uses a (record s { turns = one.0 + (two.0 + left) })
            ∙ ap (λ r. and_then r (λ next. another next (looped round))) (one.2 (two.0 + left)) ∙ two.2 left,
      )
  exact_round a s t b (Stops e u) gives spent again is = absurd cc

  exact_rounds : (bound : ℕ) (a : A) (s t : State) (b : Unit {0}) → s.turns ≤ bound → looped round a s ≡ Gives b t → UsedTurns (looped round a) s t b
  exact_rounds zero a s t b few is =
      exact_round a s t b (round a s) refl (uses.spent a s)
      (λ more u fewer more_is. let no : ⊥ = omega (arith, few, fewer) in absurd no) (sym (looped-rounds round uses a s) ∙ is)
  exact_rounds (suc bound) a s t b few is =
      exact_round a s t b (round a s) refl (uses.spent a s)
      (λ more u fewer more_is. exact_rounds bound more u t b (omega (arith, few, fewer)) more_is) (sym (looped-rounds round uses a s) ∙ is)

  pub exact_looped : (a : A) → UsesTurnsExactly (looped round a)
  exact_looped a s t b is = exact_rounds s.turns a s t b (omega arith) is

-- ---- pieces

-- a piece that more turns only extend, and that uses its turns exactly
abbrev pub Exact : (A : Type 0) → Action A → Action A → Type 0
Exact A action other = Extended action × UsesTurnsExactly action

pub exact_turn_if : (so : Bool) (body : Action (Unit {0})) → UsesTurnsExactly body → UsesTurnsExactly (turn_if so body)
exact_turn_if false body done = exact_give None
exact_turn_if true body done = exact_then use_turn _ exact_turn (λ _. exact_then body _ done (λ _. exact_give (Some tt)))

-- where nothing is visible and nothing can be called
nowhere : Surroundings
nowhere = record { visible = record { variables = λ root. None; types = []; turns = [] }; records = []; calls = λ number arguments caller. stop ending.More }

exact_while : (condition : Action Value) (body : Action (Unit {0})) → Exact Value condition condition → Exact (Unit {0}) body body
    → UsesTurnsExactly (looped (while_again condition body) tt)
exact_while condition body tested done =
    exact_looped (while_again condition body) (while_uses (λ env. condition) (λ env. body) nowhere tested.0 done.0)
    (λ start. exact_then condition _ tested.1 (λ v. exact_turn_if (is_so v) body done.1)) tt

exact_repeat : (body : Action (Unit {0})) (condition : Action Value) → Exact (Unit {0}) body body → Exact Value condition condition
    → UsesTurnsExactly (looped (repeat_again body condition) tt)
exact_repeat body condition done tested =
    exact_looped (repeat_again body condition) (repeat_uses (λ env. body) (λ env. condition) nowhere done.0 tested.0)
    (λ start. exact_then use_turn _ exact_turn
    (λ _. exact_then body _ done.1 (λ _. exact_then condition _ tested.1 (λ v. exact_give (if is_so v then None else Some tt))))) tt

exact_for : (place : Option Place) (direction : Direction) (last : ℤ) (body : ℤ → Action (Unit {0})) → ((n : ℤ) → Exact (Unit {0}) (body n) (body n))
    → (first : ℤ)
    → UsesTurnsExactly (looped (for_again place direction last body) first)
exact_for place direction last body done first =
    exact_looped (for_again place direction last body) (counted_uses place body (value_behind direction last) (λ n. (done n).0))
    (λ n. exact_then (store place (Number n)) _ (exact_plain (store place (Number n)) (λ s. refl) (λ s left. refl))
    (λ _. exact_then use_turn _ exact_turn (λ _. exact_then (body n) _ (done n).1 (λ _. exact_give (value_behind direction last n))))) first

pub exact_closed : Closed Exact
exact_closed = record {
  follows = λ a b f g one each. (extended_then a f one.0 (λ x. (each x).0), exact_then a f one.1 (λ x. (each x).1));
  gives = λ a. (extended_give a, exact_give a);
  errs = λ site. (extended_stop (ending.Error site), exact_stop (stop (ending.Error site)) (λ s t a is. absurd cc));
  enters = λ number visible. (extended_enter number visible, exact_plain _ (λ s. refl) (λ s left. refl));
  fetches = λ place site. (
    extended_fetch place site,
    exact_plain (fetch place site) (λ s. fetched_turns (held s.store place) site s) (λ s left. fetched_left (held s.store place) site s left),
  );
  stores = λ place v. (extended_store place v, exact_plain _ (λ s. refl) (λ s left. refl));
  undefines = λ place. (extended_undefine place, exact_plain _ (λ s. refl) (λ s left. refl));
  writes = λ bytes. (extended_write bytes, exact_plain _ (λ s. refl) (λ s left. refl));
  turns = (extended_use_turn, exact_turn);
  takes = λ point reading. (
    extended_take point reading,
    exact_plain (take_in point reading) (λ s. taken_turns point (reading s.input) s) (λ s left. taken_left point (reading s.input) s left),
  );
  asks = (extended_end, exact_plain _ (λ s. refl) (λ s left. refl));
  refuses = λ point why. (extended_stop (ending.Input point why), exact_stop (stop (ending.Input point why)) (λ s t a is. absurd cc));
  whiles = λ condition test body other tested done.
      (extended_closed.whiles condition condition body body tested.0 done.0, exact_while condition body tested done);
  repeats = λ body other condition test done tested.
      (extended_closed.repeats body body condition condition done.0 tested.0, exact_repeat body condition done tested);
  fors = λ place direction last body other done first.
      (extended_closed.fors place direction last body body (λ n. (done n).0) first, exact_for place direction last body done first);
}

-- what calls do, uses its turns exactly
abbrev pub ExactCalls : Calls → Type 0
ExactCalls calls =
    (number : ℕ) (arguments : List Argument) (caller : Environment) → Exact Value (calls number arguments caller) (calls number arguments caller)

module _ (env : Surroundings) (exact : ExactCalls env.calls) where
  pub exact_value : (e : Expr) → UsesTurnsExactly (value_of e env)
  exact_value e = (of_value Exact exact_closed env.visible env.calls env.calls exact e env.records).1

  pub exact_effect : (e : Stmt) → UsesTurnsExactly (effect_of e env)
  exact_effect e = (of_effect Exact exact_closed env.visible env.calls env.calls exact e env.records).1

  pub exact_statements : (statements : List Stmt) → UsesTurnsExactly (all_of (map effect_of statements) env)
  exact_statements statements = (of_statements Exact exact_closed env.visible env.calls env.calls exact statements env.records).1

-- ---- calls

module _ (tree : Tree) where
  pub exact_executed : (calls : Calls) → ExactCalls calls → (block : Block) (activation : Activation)
      → UsesTurnsExactly (executed tree calls block activation)
  exact_executed calls exact block activation = (of_executed Exact exact_closed tree calls calls exact block activation).1

  pub exact_activated : (calls : Calls) → ExactCalls calls → (number : ℕ) (block : Option Block) (arguments : List Argument) (caller : Environment)
      → UsesTurnsExactly (activated tree calls number block arguments caller)
  exact_activated calls exact number None arguments caller = exact_give _
  exact_activated calls exact number (Some block) arguments caller =
      exact_then living_now _ (exact_plain living_now (λ s. refl) (λ s left. refl))
      (λ living. exact_then (begin number) _ (exact_begin number)
      (λ activation. exact_then _ _ (exact_executed calls exact block (activation_of number block arguments caller activation))
      (λ v. exact_then (end_with living) _ (exact_plain (end_with living) (λ s. refl) (λ s left. refl)) (λ _. exact_give v))))

  -- calls of each depth
  pub exact_calls : (depth : ℕ) → ExactCalls (calls_of tree depth)
  exact_calls zero number arguments caller = (extended_calls tree zero number arguments caller, exact_stop (stop ending.More) (λ s t a is. absurd cc))
  exact_calls (suc depth) number arguments caller = (
    extended_calls tree (suc depth) number arguments caller,
    exact_activated (calls_of tree depth) (exact_calls depth) number (slice_get tree.blocks.items number) arguments caller,
  )

pub statements_use_turns : StatementsUseTurnsExactly
statements_use_turns tree depth visible records statement = exact_effect (standing tree depth visible records) (exact_calls tree depth) statement
