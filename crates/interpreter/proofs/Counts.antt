-- The values of a control variable on their way to the last one: where the first hasn't passed it, none does, so that the
-- one behind a value that isn't the last comes before or at the last.
use Rattle.std.proofs.Common.{◌≡◌, ◌⊎◌, inl, inr, ℕ, zero, suc, ℤ, pos, ◌+ℤ◌, ◌-ℤ◌, Bool, true, false, Option, Some, None, Result, Ok, Err, arith}
use Rattle.std.proofs.Common.{sym, ◌∙◌, ap, refl, if◌then◌else◌, int_le, int_lt}
use Rattle.std.specs.Ordering.{int_eq}
use Rattle.std.proofs.lemmas.Int.{ints}
use Rattle.typed_tree.specs.declared.tree.Direction.{Direction}
use Rattle.typed_tree.specs.declared.tree.Direction.TheVariants.{To, DownTo}
use Rattle.typed_tree.specs.declared.tree.ForHead.{ForHead}
use Rattle.typed_tree.specs.declared.tree.Stmt.{Stmt}
use Rattle.meaning.specs.declared.outcome.Ending.TheVariants as ending
use Rattle.meaning.specs.declared.value.Value.TheVariants.{Number}
use Rattle.meaning.specs.Counting.{has_values, next_value, value_behind}
use Rattle.meaning.specs.Meaning.{Surroundings}
use Rattle.meaning.specs.Store.{kept}
use Rattle.meaning.specs.Effect.{State, Reply, Gives, Stops, Action, ◌>>=◌, and_then, give, stop, require, use_turn, another, looping, looped, is_in}
use Rattle.meaning.specs.Meaning.{Execution, effect_of, for_round, for_between, for_turn}
use Rattle.interpreter_state.specs.Answers.{both_bounds, bounds_tested, value_before}
use Rattle.interpreter.specs.Pending.{counting}
use Rattle.meaning.proofs.Replies.{and_then-same}

-- none follows, or the same one does, which hasn't passed the last
abbrev Behind : Direction → ℤ → ℤ → Type 0
Behind direction last n =
    ((value_behind direction last n ≡ None) × (value_before direction last n ≡ None))
    ⊎ ((value_behind direction last n ≡ Some (next_value direction n)) × (value_before direction last n ≡ Some (next_value direction n))
    × (has_values direction (next_value direction n) last ≡ true))

behind_up : (last n : ℤ) (is_last : Bool) → int_eq n last ≡ is_last → int_le n last ≡ true → Behind To last n
behind_up last n true same left =
    let none : int_lt n last ≡ false = grind (arith, ints) in
    inl (ap (λ b. if b then None else Some (next_value To n)) same, ap (λ b. if b then Some (next_value To n) else None) none)
behind_up last n false same left =
    let some : int_lt n last ≡ true = grind (arith, ints) in
    let there : int_le (n +ℤ pos 1) last ≡ true = grind (arith, ints) in
    inr (ap (λ b. if b then None else Some (next_value To n)) same, ap (λ b. if b then Some (next_value To n) else None) some, there)

behind_down : (last n : ℤ) (is_last : Bool) → int_eq n last ≡ is_last → int_le last n ≡ true → Behind DownTo last n
behind_down last n true same left =
    let none : int_lt last n ≡ false = grind (arith, ints) in
    inl (ap (λ b. if b then None else Some (next_value DownTo n)) same, ap (λ b. if b then Some (next_value DownTo n) else None) none)
behind_down last n false same left =
    let some : int_lt last n ≡ true = grind (arith, ints) in
    let there : int_le last (n -ℤ pos 1) ≡ true = grind (arith, ints) in
    inr (ap (λ b. if b then None else Some (next_value DownTo n)) same, ap (λ b. if b then Some (next_value DownTo n) else None) some, there)

behind : (direction : Direction) (last n : ℤ) → has_values direction n last ≡ true → Behind direction last n
behind To last n left = behind_up last n (int_eq n last) refl left
behind DownTo last n left = behind_down last n (int_eq n last) refl left

-- a body, and then a value that is known
pub body-given : {A : Type 0} (reply : Reply (Unit {0})) (a : A) (next : A → Action (Unit {0})) →
    and_then (and_then reply (λ _. give a)) next ≡ and_then reply (λ _. next a)
body-given (Gives done s) a next = refl
body-given (Stops e s) a next = refl

pub turn-given : {A : Type 0} (reply : Reply (Unit {0})) (body : Action (Unit {0})) (a : A) (next : A → Action (Unit {0})) →
    and_then (and_then reply (λ _. body >>= λ _. give a)) next ≡ and_then reply (λ _. body >>= λ _. next a)
turn-given (Gives done s) body a next = body-given (body s) a next
turn-given (Stops e s) body a next = refl

module _ (env : Surroundings) (head : ForHead) (start last : ℤ) (body : Stmt) where
  -- the same rounds follow
  alike_behind : (n : ℤ) (s : State) (first second : ℤ → Action (Unit {0})) → Behind head.direction last n →
      ((m : ℤ) (t : State) → has_values head.direction m last ≡ true → first m t ≡ second m t) →
      another (value_behind head.direction last n) first s ≡ another (value_before head.direction last n) second s
  alike_behind n s first second (inl none) same =
      ap (λ (o : Option ℤ). another o first s) none.0 ∙ sym (ap (λ (o : Option ℤ). another o second s) none.1)
  alike_behind n s first second (inr some) same =
      ap (λ (o : Option ℤ). another o first s) some.0 ∙ same (next_value head.direction n) s some.2
      ∙ sym (ap (λ (o : Option ℤ). another o second s) some.1)

  alike_round : (n : ℤ) (s : State) (first second : ℤ → Action (Unit {0})) → has_values head.direction n last ≡ true →
      ((m : ℤ) (t : State) → has_values head.direction m last ≡ true → first m t ≡ second m t) →
      and_then (for_round head start last (effect_of body) env n s) (λ more. another more first) ≡
      and_then (counting env head start last body n s) (λ more. another more second)
  alike_round n s first second left same =
      let there : State = record s { store = kept s.store (env.visible.variables head.control) (Number n) } in
      let inner = effect_of body (for_turn head start env n) in
      turn-given (use_turn there) inner (value_behind head.direction last n) (λ more. another more first)
      ∙ and_then-same (use_turn there) _ _ (λ _ t. and_then-same (inner t) _ _
      (λ _ u. alike_behind n u first second (behind head.direction last n left) same))
      ∙ sym (turn-given (use_turn there) inner (value_before head.direction last n) (λ more. another more second))

  alike_looping : (bound : ℕ) (n : ℤ) (s : State) → has_values head.direction n last ≡ true →
      looping bound (for_round head start last (effect_of body) env) n s ≡ looping bound (counting env head start last body) n s
  alike_looping zero n s left = alike_round n s (λ b. stop ending.More) (λ b. stop ending.More) left (λ m t there. refl)
  alike_looping (suc bound) n s left =
      alike_round n s (looping bound (for_round head start last (effect_of body) env)) (looping bound (counting env head start last body)) left
      (λ m t there. alike_looping bound m t there)

-- the rounds of a for from its tested bounds
abbrev pub rounds_of : Surroundings → ForHead → Execution → Result (Option (ℤ × ℤ)) ℕ → Action (Unit {0})
rounds_of env head body (Err site) = stop (ending.Error site)
rounds_of env head body (Ok None) = give tt
rounds_of env head body (Ok (Some bounds)) = looped (for_round head bounds.0 bounds.1 body env) bounds.0

tested_rounds : (env : Surroundings) (head : ForHead) (body : Execution) (first last : ℤ) (one other : ℕ) (has fits fits_too : Bool) (s : State) →
    (if has then (require fits one >>= λ _. require fits_too other >>= λ _. looped (for_round head first last body env) first) else give tt) s ≡
    rounds_of env head body (if has then both_bounds (if fits then Ok first else Err one) (if fits_too then Ok last else Err other) else Ok None) s
tested_rounds env head body first last one other false fits fits_too s = refl
tested_rounds env head body first last one other true false fits_too s = refl
tested_rounds env head body first last one other true true false s = refl
tested_rounds env head body first last one other true true true s = refl

-- a for from the numbers of its bounds, once they are tested
pub between-tested : (env : Surroundings) (head : ForHead) (body : Execution) (first last : ℤ) (s : State) →
    for_between head body env first last s ≡ rounds_of env head body (bounds_tested head first last) s
between-tested env head body first last s =
    tested_rounds env head body first last head.first.fits.site head.last.fits.site (has_values head.direction first last)
    (is_in head.first.fits.range (Number first)) (is_in head.last.fits.range (Number last)) s

-- the bounds that a test lets through
abbrev first_of : Result (Option (ℤ × ℤ)) ℕ → ℤ
first_of (Err site) = pos 0
first_of (Ok None) = pos 0
first_of (Ok (Some bounds)) = bounds.0

abbrev last_of : Result (Option (ℤ × ℤ)) ℕ → ℤ
last_of (Err site) = pos 0
last_of (Ok None) = pos 0
last_of (Ok (Some bounds)) = bounds.1

some_bounds : (direction : Direction) (first last : ℤ) (one other : ℕ) (has fits fits_too : Bool) (a b : ℤ) → has_values direction first last ≡ has →
    (if has then both_bounds (if fits then Ok first else Err one) (if fits_too then Ok last else Err other) else Ok None) ≡ Ok (Some (a, b)) →
    has_values direction a b ≡ true
some_bounds direction first last one other false fits fits_too a b any is = let no : ⊥ = cc in absurd no
some_bounds direction first last one other true false fits_too a b any is = let no : ⊥ = cc in absurd no
some_bounds direction first last one other true true false a b any is = let no : ⊥ = cc in absurd no
some_bounds direction first last one other true true true a b any is =
    ap (λ n. has_values direction n b) (sym (ap first_of is)) ∙ ap (has_values direction first) (sym (ap last_of is)) ∙ any

-- they leave values between them
pub bounds-leave : (head : ForHead) (first last a b : ℤ) → bounds_tested head first last ≡ Ok (Some (a, b)) → has_values head.direction a b ≡ true
bounds-leave head first last a b is =
    some_bounds head.direction first last head.first.fits.site head.last.fits.site (has_values head.direction first last)
    (is_in head.first.fits.range (Number first)) (is_in head.last.fits.range (Number last)) a b refl is

-- a for whose bounds leave values is the rounds that don't pass the last one
pub looped-counting : (env : Surroundings) (head : ForHead) (first last : ℤ) (body : Stmt) (s : State) → has_values head.direction first last ≡ true →
    looped (for_round head first last (effect_of body) env) first s ≡ looped (counting env head first last body) first s
looped-counting env head first last body s left = alike_looping env head first last body s.turns first s left
