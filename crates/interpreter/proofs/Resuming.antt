-- What pending work means, step by step.
use Rattle.std.proofs.Common.{◌≡◌, ℕ, suc, List, [], ◌∷◌, ◌++◌, Option, Some, None, Result, Ok, Err, reverse, sym, ◌∙◌}
use Rattle.std.proofs.Common.{ap, subst, refl, length, map, arith, Bool}
use Rattle.std.proofs.Common.{true, false, if◌then◌else◌, Box, Global, ℤ}
use Rattle.std.proofs.lemmas.Int.{ints}
use mir.Syntax.{w32}
use mir.Val.{SFits, to_z, of_z}
use Rattle.std.specs.declared.alloc.AllocError.{AllocError}
use Rattle.typed_tree.specs.declared.tree.RangeTest.{RangeTest}
use Rattle.typed_tree.specs.declared.tree.Stmt.{Stmt}
use Rattle.types.specs.declared.form.OrdinalRange.{OrdinalRange}
use Rattle.meaning.specs.declared.outcome.Ending.{Ending}
use Rattle.std.proofs.lemmas.List.{reverse-append}
use Rattle.std.specs.Option.{ok_or}
use Rattle.meaning.specs.declared.value.Value.{Value}
use Rattle.interpreter.specs.declared.interpreter.Run.{Run}
use Rattle.interpreter_state.specs.declared.work.Work.{Work}
use Rattle.types.specs.declared.form.Step.TheVariants as step
use Rattle.meaning.specs.declared.outcome.Ending.TheVariants as ending
use Rattle.meaning.specs.declared.value.Value.TheVariants.{Number, Members}
use Rattle.meaning.specs.Meaning.{Surroundings}
use Rattle.meaning.specs.Store.{Place, held, kept, part}
use Rattle.meaning.specs.Effect.{State, Reply, Stops, Action, ◌>>=◌, and_then, fetched, fetch, give, is_in, number_of, require, stop, store}
use Rattle.meaning.specs.Meaning.{Calls, calls_of, effect_of, is_so}
use Rattle.typed_tree.specs.declared.tree.Tree.{Tree}
use Rattle.meaning.proofs.Turns.{ExtendedCalls, extended_calls}
use Rattle.interpreter_state.specs.Answers.{answered, checked, index_tested}
use Rattle.meaning.specs.Meaning.{Argument, OfValue}
use Rattle.interpreter.specs.Pending.{Resumption, Agrees, Continues, RunDoes, pending_of, resumed, rest_of, operands_of}
use Rattle.interpreter.specs.Pending.{tested, with_top, chosen, keeping, or_end, top_of, below_top, indexed}

map_append : {A B : Type 0} (f : A → B) (xs ys : List A) → map f (xs ++ ys) ≡ map f xs ++ map f ys
map_append f [] ys = refl
map_append f (x ∷ xs) ys = ap (λ l. f x ∷ l) (map_append f xs ys)

-- one more at the end of a stack is one more at its top
pub reverse_push : {A : Type 0} (xs : List A) (x : A) → reverse (xs ++ x ∷ []) ≡ x ∷ reverse xs
reverse_push xs x = reverse-append xs (x ∷ [])

pub reverse_pushed : {A : Type 0} (ys xs : List A) (x : A) (zs : List A) → ys ≡ xs ++ x ∷ [] → reverse xs ≡ zs → reverse ys ≡ x ∷ zs
reverse_pushed ys xs x zs pushed below = ap reverse pushed ∙ reverse_push xs x ∙ ap (λ l. x ∷ l) below

pub map_reverse : {A B : Type 0} (f : A → B) (xs : List A) → map f (reverse xs) ≡ reverse (map f xs)
map_reverse f [] = refl
map_reverse f (x ∷ xs) =
    ap (map f) (reverse-append (x ∷ []) xs) ∙ map_append f (reverse xs) (x ∷ []) ∙ ap (λ l. l ++ f x ∷ []) (map_reverse f xs)
    ∙ sym (reverse-append (f x ∷ []) (map f xs))

pub none_left : {A : Type 0} (xs : List A) → length xs ≡ 0 → xs ≡ []
none_left [] h = refl
none_left (x ∷ xs) h = let no : ⊥ = omega (arith, h) in absurd no

fetched_answer : (o : Option Value) (site : ℕ) (s : State) → fetched o site s ≡ answered (ok_or o site) s
fetched_answer None site s = refl
fetched_answer (Some v) site s = refl

-- the value of a variable is what its place holds
pub fetched_there : (defined : ℕ) (s : State) (place : Option Place) (o : Option Value) (answer : Result Value ℕ) → o ≡ held s.store place →
    answer ≡ ok_or o defined → fetch place defined s ≡ answered answer s
fetched_there defined s place o answer holds is = ap (λ w. fetched w defined s) (sym holds) ∙ fetched_answer o defined s ∙ ap (λ a. answered a s) (sym is)

-- loops in a run give no turns back
extended_at : (tree : Tree) (depth : ℕ) (calls : Calls) → calls ≡ calls_of tree depth → ExtendedCalls calls
extended_at tree depth calls is = subst ExtendedCalls (sym is) (extended_calls tree depth)

pub calls_extended : (env : Surroundings) (outer : Resumption) (run : Run) (s : State) → Agrees env outer run s → ExtendedCalls env.calls
calls_extended env outer run s agrees = extended_at run.tree.now (suc run.activation.depth) env.calls agrees.calls

module _ (env : Surroundings) (outer : Resumption) (old new : Run) where
  -- the run goes on with other work
  pub goes_on_to : (s : State) (works : List Work) (operands : List Argument) (reply : Reply (Unit {0})) → Agrees env outer new s →
      reverse new.pending.items ≡ works → operands_of new ≡ operands → reply ≡ pending_of env outer works operands s → Continues reply (Ok None) new
  goes_on_to s works operands reply agrees work same is =
      (env, outer, s, agrees, is ∙ ap (λ l. pending_of env outer works l s) (sym same) ∙ ap (λ p. pending_of env outer p (operands_of new) s) (sym work))

  -- what another reply goes on to
  pub continues_as : (reply other : Reply (Unit {0})) (result : Result (Option Ending) AllocError) → reply ≡ other → Continues other result new →
      Continues reply result new
  continues_as reply other result is continues = subst (λ (r : Reply (Unit {0})). Continues r result new) (sym is) continues

-- a step that does another piece of work that is the same
pub does_as : (old new : Run) (work other : Work) (result : Result (Option Ending) AllocError) → work ≡ other → RunDoes (λ env. resumed env other) old result
    new →
    RunDoes (λ env. resumed env work) old result new
does_as old new work other result is does = subst (λ (w : Work). RunDoes (λ env. resumed env w) old result new) (sym is) does

-- a run that stops behind its operands
pub stops_below : (old taken : Run) (env : Surroundings) (outer : Resumption) (s : State) (start : Reply (Unit {0})) (ending : Ending) →
    taken ≡ record old { operands = taken.operands } → start ≡ Stops ending s → Agrees env outer old s → Continues start (Ok (Some ending)) taken
stops_below old taken env outer s start ending same is agrees = (env, outer, s, subst (λ (r : Run). Agrees env outer r s) (sym same) agrees, is)

-- a run whose operands changed
pub agreed_below : (old taken : Run) (env : Surroundings) (outer : Resumption) (s : State) → taken ≡ record old { operands = taken.operands } →
    Agrees env outer old s → Agrees env outer taken s
agreed_below old taken env outer s same agrees = subst (λ (r : Run). Agrees env outer r s) (sym same) agrees

-- a piece of work in another state, with which the run agrees in which it goes on
pub goes_on_from : (old taken new : Run) (env : Surroundings) (outer : Resumption) (s : State) (piece : Surroundings → Resumption → Resumption)
    (below : List Argument) (result : Result (Option Ending) AllocError) (start : Reply (Unit {0})) → taken.pending.items ≡ old.pending.items →
    operands_of taken ≡ below → start ≡ piece env (pending_of env outer (reverse old.pending.items)) below s → Agrees env outer taken s →
    RunDoes piece taken result new → Continues start result new
goes_on_from old taken new env outer s piece below result start same left is agrees does =
    continues_as env outer old new start _ result
    (is
    ∙ ap (λ (l : List Argument). piece env (pending_of env outer (reverse old.pending.items)) l s) (sym left)
    ∙ ap (λ (l : List Work). piece env (pending_of env outer (reverse l)) (operands_of taken) s) (sym same))
    (does env outer s agrees)

-- a piece of work whose operands were taken from the stack
pub goes_on_below : (old taken new : Run) (env : Surroundings) (outer : Resumption) (s : State) (piece : Surroundings → Resumption → Resumption)
    (below : List Argument) (result : Result (Option Ending) AllocError) (start : Reply (Unit {0})) → taken ≡ record old { operands = taken.operands } →
    operands_of taken ≡ below → start ≡ piece env (pending_of env outer (reverse old.pending.items)) below s → Agrees env outer old s →
    RunDoes piece taken result new → Continues start result new
goes_on_below old taken new env outer s piece below result start same left is agrees does =
    goes_on_from old taken new env outer s piece below result start (ap (λ (r : Run). r.pending.items) same) left is
    (agreed_below old taken env outer s same agrees) does

-- a statement, and then the rest
abbrev pub executing : Stmt → Surroundings → Resumption → Resumption
executing statement env next operands = effect_of statement env >>= λ _. next operands

-- the topmost operand chooses a branch
pub chooses : (env : Surroundings) (consequence : Stmt) (alternative : Option (Box Stmt Global)) (next : Resumption) (operands : List Argument) (s : State)
    (so : Bool) → is_so (top_of operands) ≡ so →
    with_top (λ v below. chosen (is_so v) consequence alternative env >>= λ _. next below) operands s ≡
    and_then (chosen so consequence alternative env s) (λ _. next (below_top operands))
chooses env consequence alternative next operands s so is =
    ap (λ (b : Bool). and_then (chosen b consequence alternative env s) (λ _. next (below_top operands))) is

-- what an action gives, as an operand
abbrev pub giving_as : {A : Type 0} → (A → Argument) → Action A → Resumption → Resumption
giving_as operand action next operands = action >>= λ a. next (operand a ∷ operands)

-- a calculation with operands that were taken from the stack
pub goes_on_by : {A : Type 0} (operand : A → Argument) (old taken new : Run) (env : Surroundings) (outer : Resumption) (s : State) (action : Action A)
    (answer : Result A ℕ) (below : List Argument) (result : Result (Option Ending) AllocError) → taken ≡ record old { operands = taken.operands } →
    operands_of taken ≡ below → action s ≡ answered answer s → Agrees env outer old s →
    RunDoes (λ env. giving_as operand (answered answer)) taken result new →
    Continues (giving_as operand action (pending_of env outer (reverse old.pending.items)) below s) result new
goes_on_by operand old taken new env outer s action answer below result same left gives agrees does =
    goes_on_below old taken new env outer s (λ env. giving_as operand (answered answer)) below result _ same left
    (ap (λ r. and_then r (λ a. pending_of env outer (reverse old.pending.items) (operand a ∷ below))) gives)
    agrees does

-- a set in hand
abbrev pub set_in_hand : ℕ → Argument
set_in_hand set = OfValue (Members set)

-- a number in hand
abbrev pub number_in_hand : ℤ → Argument
number_in_hand n = OfValue (Number n)

-- the topmost piece of work is taken from the stack
pub taken : (env : Surroundings) (outer : Resumption) (run : Run) (left : List Work) (work : Work) (t : State) → run.pending.items ≡ left ++ work ∷ [] →
    rest_of env outer run t ≡ resumed env work (pending_of env outer (reverse left)) (operands_of run) t
taken env outer run left work t is =
    ap (λ (l : List Work). pending_of env outer l (operands_of run) t) (ap reverse is ∙ reverse_push left work)

-- a value in its range is stored
pub keeps : (place : Option Place) (v u : Value) (range : OrdinalRange) (ending : Ending) (next : Resumption) (operands : List Argument) (s : State) →
    v ≡ u → is_in range v ≡ true → keeping place v range ending next operands s ≡ next operands (record s { store = kept s.store place u })
keeps place v u range ending next operands s same fine =
    ap (λ (b : Bool). and_then (or_end b ending s) (λ _. store place v >>= λ _. next operands)) fine
    ∙ ap (λ (w : Value). next operands (record s { store = kept s.store place w })) same

-- an index that was tested
abbrev pub index_answer : Option Place → Result ℤ ℕ → Action (Option Place)
index_answer place (Ok n) = give (part place (step.Element n ∷ []))
index_answer place (Err site) = stop (ending.Error site)

index_choice : (b : Bool) (site : ℕ) (place : Option Place) (n : ℤ) (s : State) →
    (require b site >>= λ _. give (part place (step.Element n ∷ []))) s ≡ index_answer place (if b then Ok n else Err site) s
index_choice true site place n s = refl
index_choice false site place n s = refl

pub indexed_as : (fits : RangeTest) (place : Option Place) (v : Value) (s : State) →
    indexed fits place v s ≡ index_answer place (index_tested fits v) s
indexed_as fits place v s = index_choice (is_in fits.range v) fits.site place (number_of v) s

-- a value that passed the test
choice_some : (b : Bool) (v u : Value) → (if b then Some v else None) ≡ Some u → (v ≡ u) × (b ≡ true)
choice_some true v u h = (cc, refl)
choice_some false v u h = let no : ⊥ = cc in absurd no

pub checked_some : (range : OrdinalRange) (v u : Value) (o : Option Value) → o ≡ checked range v → o ≡ Some u → (v ≡ u) × (is_in range v ≡ true)
checked_some range v u o is some = choice_some (is_in range v) v u (sym is ∙ some)

-- what holds of two numbers that were passed holds of them
pub passed : (P : ℤ → ℤ → Type 0) (a b : ℤ) → SFits w32 a → SFits w32 b → P (to_z w32 (of_z w32 a)) (to_z w32 (of_z w32 b)) → P a b
passed P a b fits too holds =
    let one : to_z w32 (of_z w32 a) ≡ a = omega (arith, ints, fits) in
    let other : to_z w32 (of_z w32 b) ≡ b = omega (arith, ints, too) in
    subst (λ n. P n b) one (subst (λ n. P (to_z w32 (of_z w32 a)) n) other holds)

-- so it is of three
pub passed_three : (P : ℤ → ℤ → ℤ → Type 0) (a b c : ℤ) → SFits w32 a → SFits w32 b → SFits w32 c
    → P (to_z w32 (of_z w32 a)) (to_z w32 (of_z w32 b)) (to_z w32 (of_z w32 c)) → P a b c
passed_three P a b c one other third holds =
    passed (λ n m. P a b m) c c third third (passed (λ n m. P n m (to_z w32 (of_z w32 c))) a b one other holds)

-- a value that was tested
tested_answer : (b : Bool) (site : ℕ) (v : Value) (s : State) →
    (require b site >>= λ _. give v) s ≡ answered (ok_or (if b then Some v else None) site) s
tested_answer true site v s = refl
tested_answer false site v s = refl

pub tested_as : (fits : RangeTest) (v : Value) (s : State) → tested fits v s ≡ answered (ok_or (checked fits.range v) fits.site) s
tested_as fits v s = tested_answer (is_in fits.range v) fits.site v s
