-- What the code of a piece of the program does: it comes to where it is to come with what the piece gives, or stops as the
-- piece does. Code runs behind other code, whatever each is to come to.
use Rattle.code_generator.proofs.Words.{◌≡◌, ℕ, ◌+◌, ◌-◌, ◌<◌, ◌≤◌, ◌⊎◌, inl, inr, List, [], ◌∷◌, ◌++◌, length, Ok, refl, sym, subst, arith, length-append}
use Rattle.code_generator.proofs.Words.{append_assoc, Bool, true, false, ℤ, Instr, Value, Reply, Gives, Action, ◌>>=◌, number_of, require, UsesTurnsExactly}
use Rattle.code_generator.proofs.Words.{deed_of, Cell, Number, Attempt, Frames, State, moved, is_true}
use Rattle.pcode_assembler.specs.declared.instr.Instr.TheVariants as instr
use Rattle.typed_tree.specs.declared.tree.Scalar.{Scalar}
use Rattle.typed_tree.specs.declared.tree.Scalar.TheVariants as scalar
use Rattle.meaning.specs.declared.value.Value.TheVariants as value
use Rattle.meaning.specs.Effect as effect
use Rattle.meaning.proofs.Replies.{and_then-and_then}
use Rattle.stack_machine.specs.Deeds.{Tests}
use Rattle.code_generator.proofs.Acts.{framed}
use Rattle.code_generator.proofs.Exact.{exact_give, exact_then}
use Rattle.code_generator.proofs.Numbers.{Fits}
use Rattle.code_generator.proofs.Scalars.{HasKind, ordinal_fits, ordinal_is, value_cell}
use Rattle.code_generator.proofs.Reach.{Stands, StandsAt, Comes, comes_on, comes_less, stands_front, stands_back, stays_here}
use Rattle.code_generator.proofs.Setting.{Setting, on, Based, Ends, ends_on, Starves, starves_on, starves_same, starves_first, starves_behind, as_value, passes}
use Rattle.code_generator.proofs.Setting.{fails, branched, jumps}

-- where code is to come with what a piece gives: what holds then, the machine there, and for how many turns more than the
-- piece used its instructions make up
pub record Aim (A : Type 0) : Type 1 where
  pub Holds : A → effect.State → Type 0
  pub there : (v : A) (s : effect.State) → Holds v s → State
  pub gain : ℕ

module _ (g : Setting) where
  -- what the code of a piece does, with so many turns left here: it comes there; or the piece ends
  abbrev pub Arrives : {A : Type 0} → Aim A → ℕ → State → Reply A → Type 0
  Arrives aim turns m (Gives v s) = (h : aim.Holds v s) × Comes g.target (turns - s.turns + aim.gain) m (aim.there v s h) × (s.turns ≤ turns)
  Arrives aim turns m (effect.Stops end s) = Ends g turns m end s.output

  -- or the store is full
  abbrev pub Runs : {A : Type 0} → Aim A → State → Action A → effect.State → Type 0
  Runs aim m action s = Starves g m action s ⊎ Arrives aim s.turns m (action s)

  pub arrives_on : {A : Type 0} (aim : Aim A) (turns left : ℕ) (a b : State) (r : Reply A) → left ≤ turns → Comes g.target (turns - left) a b
      → Arrives aim left b r → Arrives aim turns a r
  arrives_on aim turns left a b (Gives v s) le l e = (
    e.0,
    comes_less g.target (turns - s.turns + aim.gain) (turns - left + (left - s.turns + aim.gain)) a _ (omega arith)
        (comes_on g.target (turns - left) (left - s.turns + aim.gain) a b _ l e.1),
    omega (arith, e.2),
  )
  arrives_on aim turns left a b (effect.Stops end s) le l e = ends_on g turns left a b end s.output l e

  -- where no turn is used
  pub runs_from : {A : Type 0} (aim : Aim A) (least : ℕ) (a b : State) (action : Action A) (s : effect.State) → Comes g.target least a b
      → Runs aim b action s → Runs aim a action s
  runs_from aim least a b action s l (inl x) = inl (starves_on g least a b action s l x)
  runs_from aim least a b action s l (inr e) =
      inr (arrives_on aim s.turns s.turns a b (action s) (omega arith) (comes_less g.target (s.turns - s.turns) least a b (omega arith) l) e)

  -- the same action
  pub runs_same : {A : Type 0} (aim : Aim A) (m : State) (action other : Action A) (s : effect.State) → ((t : effect.State) → action t ≡ other t)
      → Runs aim m other s → Runs aim m action s
  runs_same aim m action other s same (inl x) = inl (starves_same g m action other s same x)
  runs_same aim m action other s same (inr e) = inr (subst (Arrives aim s.turns m) (sym (same s)) e)

  -- what the machine does behind a piece
  pub runs_to : {A : Type 0} (aim aim' : Aim A) (m : State) (action : Action A) (s : effect.State) → aim'.gain ≤ aim.gain → Runs aim m action s
      → ((v : A) (t : effect.State) (h : aim.Holds v t) → (h' : aim'.Holds v t) × Comes g.target 0 (aim.there v t h) (aim'.there v t h'))
      → Runs aim' m action s
  runs_to aim aim' m action s less (inl x) to = inl x
  runs_to {A} aim aim' m action s less (inr e) to = inr (by (action s) e)
    where
      by : (r : Reply A) → Arrives aim s.turns m r → Arrives aim' s.turns m r
      by (Gives v t) at =
          let x = to v t at.0 in (
            x.0,
            comes_less g.target (s.turns - t.turns + aim'.gain) (s.turns - t.turns + aim.gain + 0) m _ (omega (arith, less))
                (comes_on g.target (s.turns - t.turns + aim.gain) 0 m _ _ at.1 x.1),
            at.2,
          )
      by (effect.Stops end t) ends = ends

  -- ---- one piece behind another

  -- behind one that gave something
  pub runs_behind : {A B : Type 0} (aim : Aim B) (m there : State) (first : Action A) (next : A → Action B) (s t : effect.State) (v : A)
      → UsesTurnsExactly first → first s ≡ Gives v t → t.turns ≤ s.turns → Comes g.target (s.turns - t.turns) m there → Runs aim there (next v) t
      → Starves g m (first >>= next) s ⊎ Arrives aim s.turns m (next v t)
  runs_behind aim m there first next s t v exact is le l (inl x) = inl (starves_behind g (s.turns - t.turns) m there first next s t v exact is l x)
  runs_behind aim m there first next s t v exact is le l (inr e) = inr (arrives_on aim s.turns t.turns m there (next v t) le l e)

  -- wherever the first one comes to
  pub then_runs : {A B : Type 0} (aim : Aim A) (aim' : Aim B) (m : State) (first : Action A) (next : A → Action B) (s : effect.State)
      → UsesTurnsExactly first → Runs aim m first s
      → ((v : A) (t : effect.State) (h : aim.Holds v t) → t.turns ≤ s.turns → Runs aim' (aim.there v t h) (next v) t)
      → Runs aim' m (first >>= next) s
  then_runs aim aim' m first next s exact (inl x) h = inl (starves_first g m first next s x)
  then_runs {A} {B} aim aim' m first next s exact (inr e) h = by (first s) refl e
    where
      by : (r : Reply A) → first s ≡ r → Arrives aim s.turns m r
          → Starves g m (first >>= next) s ⊎ Arrives aim' s.turns m (effect.and_then r next)
      by (Gives v t) is at =
          runs_behind aim' m (aim.there v t at.0) first next s t v exact is at.2
          (comes_less g.target (s.turns - t.turns) (s.turns - t.turns + aim.gain) m _ (omega arith) at.1) (h v t at.0 at.2)
      by (effect.Stops end t) is ends = inr ends

  -- behind one that has no code
  pub gives_then : {A B : Type 0} (aim : Aim B) (m : State) (first : Action A) (next : A → Action B) (s t : effect.State) (v : A)
      → UsesTurnsExactly first → first s ≡ Gives v t → s.turns ≡ t.turns → Runs aim m (next v) t → Runs aim m (first >>= next) s
  gives_then aim m first next s t v exact is same (inl x) = inl (starves_behind g 0 m m first next s t v exact is (stays_here g.target m) x)
  gives_then aim m first next s t v exact is same (inr e) =
      inr (subst (λ r. Arrives aim s.turns m (effect.and_then r next)) (sym is) (subst (λ n. Arrives aim n m (next v t)) (sym same) e))

  -- the code of one, and the code of the other
  pub then_code : {A B : Type 0} (aim : ℕ → Aim A) (aim' : ℕ → Aim B) (c c' : List Instr) (place : ℕ) (m : State) (first : Action A)
      (next : A → Action B) (s : effect.State) → UsesTurnsExactly first → Stands g.target place (c ++ c')
      → (Stands g.target place c → Runs (aim (place + length c)) m first s)
      → ((v : A) (t : effect.State) (h : (aim (place + length c)).Holds v t) → Stands g.target (place + length c) c' → t.turns ≤ s.turns
      → Runs (aim' (place + length c + length c')) ((aim (place + length c)).there v t h) (next v) t)
      → Runs (aim' (place + length (c ++ c'))) m (first >>= next) s
  then_code aim aim' c c' place m first next s exact stands runs h =
      let e : place + length c + length c' ≡ place + length (c ++ c') = omega (arith, length-append c c') in
      subst (λ end. Runs (aim' end) m (first >>= next) s) e
      (then_runs (aim (place + length c)) (aim' (place + length c + length c')) m first next s exact (runs (stands_front g.target place c c' stands))
      (λ v t holds. h v t holds (stands_back g.target place c c' stands)))

  -- an instruction, and the code of a piece
  pub instr_then : {A : Type 0} (aim : ℕ → Aim A) (least : ℕ) (i : Instr) (c : List Instr) (place : ℕ) (m there : State) (action : Action A)
      (s : effect.State) → Comes g.target least m there → Runs (aim (place + 1 + length c)) there action s
      → Runs (aim (place + length (i ∷ c))) m action s
  instr_then aim least i c place m there action s l runs =
      let e : place + 1 + length c ≡ place + length (i ∷ c) = omega arith in
      subst (λ end. Runs (aim end) m action s) e (runs_from (aim (place + 1 + length c)) least m there action s l runs)

  -- a check, and what comes behind it where it holds
  pub check_then : {A : Type 0} (aim : Aim A) (check : Instr) (site place : ℕ) (cells : List Cell) (s : effect.State) (next : Action A)
      (test : Frames → Attempt Bool) (good : Bool) → StandsAt g.target place check (g.target.is_open site) → moved g.target.to check ≡ check
      → deed_of check ≡ Tests site test → test (framed g.frame g.limit g.size cells) ≡ Ok good → site < length g.tree.sites.items
      → (good ≡ true → Runs aim (on g cells (place + 1) s) next s)
      → Runs aim (on g cells place s) (require good site >>= (λ _. next)) s
  check_then aim check site place cells s next test true stands same rule e within rest =
      runs_from aim 0 _ _ next s (passes g check cells place site s test same rule stands e) (rest refl)
  check_then aim check site place cells s next test false stands same rule e within rest =
      inr (fails g check cells place site s test same rule s.turns stands within e)

  -- a conditional jump behind a number, and what comes at either place
  pub branch_then : {A : Type 0} (aim : Aim A) (target : ℕ) (below : List Cell) (n : ℤ) (place : ℕ) (next : Bool → Action A) (s : effect.State)
      → StandsAt g.target place (instr.JumpIfFalse target) true → g.frame + 4 ≤ length below
      → Runs aim (on g below (place + 1) s) (next true) s → Runs aim (on g below target s) (next false) s
      → Runs aim (on g (below ++ Number n ∷ []) place s) (next (is_true n)) s
  branch_then aim target below n place next s stands in_frame so not_so =
      branched g (λ b. Runs aim (on g (below ++ Number n ∷ []) place s) (next b) s) target below n place s stands in_frame
      (λ came. runs_from aim 1 _ _ (next true) s came so) (λ came. runs_from aim 1 _ _ (next false) s came not_so)

  -- ---- what comes on top of the cells that are held

  -- over cells alike to the store
  abbrev pub top_on : {A : Type 0} → (A → Type 0) → (A → List Cell) → List Cell → ℕ → Aim A
  top_on IsSo top held place = record {
    Holds = λ v s. (base : List Cell) × Based g s base × IsSo v;
    there = λ v s h. on g ((h.0 ++ held) ++ top v) place s;
    gain = 0;
  }

  -- what comes beside a row that is held too, and the code behind it
  pub beside : {A B : Type 0} (IsSo : A → Type 0) (top : A → List Cell) (aim : ℕ → Aim B) (c c' : List Instr) (place : ℕ) (base held row : List Cell)
      (first : Action A) (next : A → Action B) (s : effect.State) → UsesTurnsExactly first → Stands g.target place (c ++ c')
      → (Stands g.target place c
      → Runs (top_on IsSo top (held ++ row) (place + length c)) (on g (base ++ (held ++ row)) place s) first s)
      → ((base2 : List Cell) (v : A) (t : effect.State) → Stands g.target (place + length c) c' → Based g t base2 → IsSo v
      → Runs (aim (place + length c + length c')) (on g (((base2 ++ held) ++ row) ++ top v) (place + length c) t) (next v) t)
      → Runs (aim (place + length (c ++ c'))) (on g ((base ++ held) ++ row) place s) (first >>= next) s
  beside IsSo top aim c c' place base held row first next s exact stands runs h =
      subst (λ cells. Runs (aim (place + length (c ++ c'))) (on g cells place s) (first >>= next) s) (sym (append_assoc base held row))
      (then_code (top_on IsSo top (held ++ row)) aim c c' place _ first next s exact stands runs
      (λ v t x rest le.
      subst (λ cells. Runs (aim (place + length c + length c')) (on g (cells ++ top v) (place + length c) t) (next v) t)
      (append_assoc x.0 held row) (h x.0 v t rest x.1 x.2)))

  -- ---- the code of an expression

  -- its value is of this kind
  abbrev pub IsValue : Scalar → List Cell → Value → Type 0
  IsValue kind held v = HasKind kind v × (g.below + length held < g.limit)

  abbrev pub value_top : Value → List Cell
  value_top v = value_cell v ∷ []

  abbrev pub value_on : Scalar → List Cell → ℕ → Aim Value
  value_on kind held = top_on (IsValue kind held) value_top held

  abbrev pub Evaluates : Scalar → State → List Cell → ℕ → Action Value → effect.State → Type 0
  Evaluates kind m held place action s = Runs (value_on kind held place) m action s

  -- a value that is there after some instructions
  pub gives : (kind : Scalar) (least : ℕ) (m : State) (base held : List Cell) (place : ℕ) (v : Value) (s : effect.State) → Based g s base
      → Comes g.target least m (on g ((base ++ held) ++ value_cell v ∷ []) place s) → HasKind kind v → g.below + length held < g.limit
      → Arrives (value_on kind held place) s.turns m (Gives v s)
  gives kind least m base held place v s based l fit room =
      ((base, based, (fit, room)), comes_less g.target (s.turns - s.turns + 0) least m _ (omega arith) l, omega arith)

  -- a value of a kind, and the code behind it
  pub scalar_then : {A : Type 0} (kind : Scalar) (aim : ℕ → Aim A) (c c' : List Instr) (place : ℕ) (m : State) (held : List Cell) (first : Action Value)
      (next : Value → Action A) (s : effect.State) → UsesTurnsExactly first → Stands g.target place (c ++ c')
      → (Stands g.target place c → Evaluates kind m held (place + length c) first s)
      → ((base : List Cell) (v : Value) (t : effect.State) → Stands g.target (place + length c) c' → Based g t base → HasKind kind v
      → g.below + length held < g.limit → t.turns ≤ s.turns
      → Runs (aim (place + length c + length c')) (on g ((base ++ held) ++ value_cell v ∷ []) (place + length c) t) (next v) t)
      → Runs (aim (place + length (c ++ c'))) m (first >>= next) s
  scalar_then kind aim c c' place m held first next s exact stands runs h =
      then_code (value_on kind held) aim c c' place m first next s exact stands runs (λ v t x rest. h x.0 v t rest x.1 x.2.0 x.2.1)

  -- an ordinal
  pub value_then : {A : Type 0} (aim : ℕ → Aim A) (c c' : List Instr) (place : ℕ) (m : State) (held : List Cell) (first : Action Value)
      (next : Value → Action A) (s : effect.State) → UsesTurnsExactly first → Stands g.target place (c ++ c')
      → (Stands g.target place c → Evaluates scalar.Ordinal m held (place + length c) first s)
      → ((base : List Cell) (n : ℤ) (t : effect.State) → Stands g.target (place + length c) c' → Based g t base → Fits n
      → g.below + length held < g.limit → t.turns ≤ s.turns
      → Runs (aim (place + length c + length c')) (on g ((base ++ held) ++ Number n ∷ []) (place + length c) t) (next (value.Number n)) t)
      → Runs (aim (place + length (c ++ c'))) m (first >>= next) s
  value_then aim c c' place m held first next s exact stands runs h =
      scalar_then scalar.Ordinal aim c c' place m held first next s exact stands runs
      (λ base v t rest based has room le.
      subst (λ w. Runs (aim (place + length c + length c')) (on g ((base ++ held) ++ value_cell w ∷ []) (place + length c) t) (next w) t)
      (sym (ordinal_is v has)) (h base (number_of v) t rest based (ordinal_fits v has) room le))

  -- and one beside a row that is held too
  pub ordinal_beside : {B : Type 0} (aim : ℕ → Aim B) (c c' : List Instr) (place : ℕ) (base held row : List Cell) (first : Action Value)
      (next : Value → Action B) (s : effect.State) → UsesTurnsExactly first → Stands g.target place (c ++ c')
      → (Stands g.target place c → Evaluates scalar.Ordinal (on g (base ++ (held ++ row)) place s) (held ++ row) (place + length c) first s)
      → ((base2 : List Cell) (n : ℤ) (t : effect.State) → Stands g.target (place + length c) c' → Based g t base2 → Fits n
      → g.below + length (held ++ row) < g.limit
      → Runs (aim (place + length c + length c')) (on g (((base2 ++ held) ++ row) ++ Number n ∷ []) (place + length c) t) (next (value.Number n)) t)
      → Runs (aim (place + length (c ++ c'))) (on g ((base ++ held) ++ row) place s) (first >>= next) s
  ordinal_beside aim c c' place base held row first next s exact stands runs h =
      beside (IsValue scalar.Ordinal (held ++ row)) value_top aim c c' place base held row first next s exact stands runs
      (λ base2 v t rest based so.
      subst (λ w. Runs (aim (place + length c + length c')) (on g (((base2 ++ held) ++ row) ++ value_cell w ∷ []) (place + length c) t) (next w) t)
      (sym (ordinal_is v so.0)) (h base2 (number_of v) t rest based (ordinal_fits v so.0) so.1))

  -- a number
  pub number_then : {A : Type 0} (aim : ℕ → Aim A) (c c' : List Instr) (place : ℕ) (m : State) (held : List Cell) (first : Action ℤ)
      (next : ℤ → Action A) (s : effect.State) → UsesTurnsExactly first → Stands g.target place (c ++ c')
      → (Stands g.target place c → Evaluates scalar.Ordinal m held (place + length c) (as_value first) s)
      → ((base : List Cell) (n : ℤ) (t : effect.State) → Stands g.target (place + length c) c' → Based g t base → Fits n
      → Runs (aim (place + length c + length c')) (on g ((base ++ held) ++ Number n ∷ []) (place + length c) t) (next n) t)
      → Runs (aim (place + length (c ++ c'))) m (first >>= next) s
  number_then aim c c' place m held first next s exact stands runs h =
      runs_same (aim (place + length (c ++ c'))) m (first >>= next) (as_value first >>= λ v. next (number_of v)) s
      (λ t. sym (and_then-and_then (first t) (λ n. effect.give (value.Number n)) (λ v. next (number_of v))))
      (value_then aim c c' place m held (as_value first) (λ v. next (number_of v)) s
      (exact_then first (λ n. effect.give (value.Number n)) exact (λ n. exact_give (value.Number n))) stands runs
      (λ base n t rest based fit room le. h base n t rest based fit))

  -- ---- the code of a statement

  -- what is held stays, over cells alike to the store
  abbrev pub kept_on : List Cell → ℕ → Aim (Unit {0})
  kept_on held place = record {
    Holds = λ v s. (base : List Cell) × Based g s base;
    there = λ v s h. on g (h.0 ++ held) place s;
    gain = 0;
  }

  abbrev pub Executes : State → List Cell → ℕ → Action (Unit {0}) → effect.State → Type 0
  Executes m held place action s = Runs (kept_on held place) m action s

  -- a state that is there after some instructions
  pub done : (least : ℕ) (m : State) (base held : List Cell) (place : ℕ) (s : effect.State) → Based g s base
      → Comes g.target least m (on g (base ++ held) place s) → Arrives (kept_on held place) s.turns m (Gives tt s)
  done least m base held place s based l = ((base, based), comes_less g.target (s.turns - s.turns + 0) least m _ (omega arith) l, omega arith)

  -- a statement, and the code behind it
  pub done_then : {A : Type 0} (aim : ℕ → Aim A) (c c' : List Instr) (place : ℕ) (m : State) (held : List Cell) (first : Action (Unit {0}))
      (next : Unit {0} → Action A) (s : effect.State) → UsesTurnsExactly first → Stands g.target place (c ++ c')
      → (Stands g.target place c → Executes m held (place + length c) first s)
      → ((base : List Cell) (t : effect.State) → Stands g.target (place + length c) c' → Based g t base → t.turns ≤ s.turns
      → Runs (aim (place + length c + length c')) (on g (base ++ held) (place + length c) t) (next tt) t)
      → Runs (aim (place + length (c ++ c'))) m (first >>= next) s
  done_then aim c c' place m held first next s exact stands runs h =
      then_code (kept_on held) aim c c' place m first next s exact stands runs (λ v t x rest. h x.0 t rest x.1)

  -- what the machine does behind a statement that gives
  pub behind_executes : (m : State) (held held' : List Cell) (place place' : ℕ) (action : Action (Unit {0})) (s : effect.State)
      → Executes m held place action s
      → ((base : List Cell) (t : effect.State) → Based g t base → Comes g.target 0 (on g (base ++ held) place t) (on g (base ++ held') place' t))
      → Executes m held' place' action s
  behind_executes m held held' place place' action s e h =
      runs_to (kept_on held place) (kept_on held' place') m action s (omega arith) e (λ v t x. ((x.0, x.1), h x.0 t x.1))

  -- a statement, and a jump behind it
  pub done_jumps : (c c' : List Instr) (place out : ℕ) (m : State) (held : List Cell) (action : Action (Unit {0})) (s : effect.State)
      → Stands g.target place (c ++ (instr.Jump out ∷ c')) → (Stands g.target place c → Executes m held (place + length c) action s)
      → Executes m held out action s
  done_jumps c c' place out m held action s stands runs =
      behind_executes m held held (place + length c) out action s (runs (stands_front g.target place c (instr.Jump out ∷ c') stands))
      (λ base t based.
      comes_less g.target 0 1 _ _ (omega arith) (jumps g out (base ++ held) (place + length c) t (stands_back g.target place c (instr.Jump out ∷ c') stands).0))
