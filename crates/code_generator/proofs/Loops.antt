-- Loops: a head where each round begins, and a round that comes back to it or leaves the loop. Each round behind which
-- another follows uses a turn, so a run with as many turns as a bound takes no more rounds than that.
use Rattle.code_generator.proofs.Words.{◌≡◌, ℕ, zero, suc, ◌+◌, ◌-◌, ◌<◌, ◌≤◌, ◌⊎◌, List, ◌++◌, Option, Some, None, inl, inr, refl, arith, Ending, Reply, Gives}
use Rattle.code_generator.proofs.Words.{Action, ◌>>=◌, UsesTurnsExactly, Cell, Instr, State, length}
use Rattle.meaning.specs.declared.outcome.Ending.TheVariants as ending
use Rattle.meaning.specs.Effect as effect
use Rattle.meaning.specs.Effect.{Round, use_turn}
use Rattle.meaning.specs.Laws.{GoesRoundByRound}
use Rattle.code_generator.proofs.Reach.{Comes, Stands, comes_less, stays_here}
use Rattle.code_generator.proofs.Setting.{Setting, on, Based, Ends, Starves, starves_on}
use Rattle.code_generator.proofs.Running.{Aim, Arrives, Executes, Runs, arrives_on, done, done_then, kept_on, runs_same, then_runs}

-- in a setting, a loop with what is held at its head where a round begins with this, its head and its end, and what is
-- held there
module _ (g : Setting) {A : Type 0} (fit : A → Type 0) (hold : A → List Cell) (head end : ℕ) (held : List Cell) where
  -- The code of a part of a round comes, by instructions for so many turns more, to the end; or to the head with fewer
  -- turns than a bound.
  abbrev pub IsRound : ℕ → Option A → effect.State → Type 0
  IsRound bound None s = (base : List Cell) × Based g s base
  IsRound bound (Some a) s = (base : List Cell) × Based g s base × (s.turns < bound) × fit a

  abbrev pub round_there : (bound : ℕ) (more : Option A) (s : effect.State) → IsRound bound more s → State
  round_there bound None s h = on g (h.0 ++ held) end s
  round_there bound (Some a) s h = on g (h.0 ++ hold a) head s

  abbrev pub round_on : ℕ → ℕ → Aim (Option A)
  round_on gain bound = record { Holds = IsRound bound; there = round_there bound; gain = gain }

  abbrev pub Rounds : ℕ → ℕ → State → Action (Option A) → effect.State → Type 0
  Rounds gain bound m action s = Runs g (round_on gain bound) m action s

  -- what a piece does behind a turn that was used before it
  abbrev pub RoundsBehind : ℕ → ℕ → ℕ → State → Action (Option A) → effect.State → Type 0
  RoundsBehind gain bound turns m action s = Starves g m action s ⊎ Arrives g (round_on gain bound) turns m (action s)

  rounds_later : (gain bound turns : ℕ) (a b : State) (action : Action (Option A)) (s : effect.State) → s.turns ≤ turns
      → Comes g.target (turns - s.turns) a b → Rounds gain bound b action s → RoundsBehind gain bound turns a action s
  rounds_later gain bound turns a b action s le l (inl x) = inl (starves_on g (turns - s.turns) a b action s l x)
  rounds_later gain bound turns a b action s le l (inr e) = inr (arrives_on g (round_on gain bound) turns s.turns a b (action s) le l e)

  -- a turn, behind which an instruction came or comes
  pub turned : (bound : ℕ) (s : effect.State) (m : State) (next : Unit {0} → Action (Option A)) → m.output ≡ s.output
      → ((left : ℕ) → s.turns ≡ suc left → RoundsBehind 0 bound s.turns m (next tt) (record s { turns = left }))
      → Rounds 0 bound m (use_turn >>= next) s
  turned bound s m next same h = by s.turns refl
    where
      behind : (left : ℕ) → s.turns ≡ suc left → RoundsBehind 0 bound s.turns m (next tt) (record s { turns = left })
          → Starves g m (use_turn >>= next) s ⊎ Arrives g (round_on 0 bound) s.turns m (next tt (record s { turns = left }))
      behind left is (inl x) = inl (suc x.0, x.1, x.2, x.3, x.4, omega (arith, is, x.5))
      behind left is (inr e) = inr e

      by : (k : ℕ) → s.turns ≡ k
          → Starves g m (use_turn >>= next) s ⊎ Arrives g (round_on 0 bound) s.turns m (effect.and_then (effect.take_turn k s) next)
      by zero is = inr (m, comes_less g.target (s.turns - g.slack) 0 m m (omega (arith, is)) (stays_here g.target m), same)
      by (suc left) is = behind left is (h left is)

  -- the loop is over
  pub round_over : (gain bound least : ℕ) (m : State) (base : List Cell) (s : effect.State) → Based g s base → gain ≤ least
      → Comes g.target least m (on g (base ++ held) end s) → Rounds gain bound m (effect.give None) s
  round_over gain bound least m base s based le l =
      inr ((base, based), comes_less g.target (s.turns - s.turns + gain) least m _ (omega (arith, le)) l, omega arith)

  -- another round comes
  pub round_again : (gain bound least : ℕ) (m : State) (a : A) (base : List Cell) (s : effect.State) → Based g s base → gain ≤ least → s.turns < bound
      → fit a → Comes g.target least m (on g (base ++ hold a) head s) → Rounds gain bound m (effect.give (Some a)) s
  round_again gain bound least m a base s based le few fits l =
      inr ((base, based, few, fits), comes_less g.target (s.turns - s.turns + gain) least m _ (omega (arith, le)) l, omega arith)

  -- a turn, for which an instruction makes up; the code of the body, and the code that comes behind it
  pub turn_then : (bound : ℕ) (c c' : List Instr) (place : ℕ) (m there : State) (over : List Cell) (body : Action (Unit {0})) (more : Option A)
      (s : effect.State) → m.output ≡ s.output → Comes g.target 1 m there → s.turns ≤ bound → UsesTurnsExactly body → Stands g.target place (c ++ c')
      → ((left : ℕ) → left ≤ s.turns → Stands g.target place c → Executes g there over (place + length c) body (record s { turns = left }))
      → ((base : List Cell) (t : effect.State) → Stands g.target (place + length c) c' → Based g t base → t.turns < bound
      → Rounds 0 bound (on g (base ++ over) (place + length c) t) (effect.give more) t)
      → Rounds 0 bound m (use_turn >>= λ _. body >>= λ _. effect.give more) s
  turn_then bound c c' place m there over body more s same came le exact stands runs behind =
      turned bound s m (λ _. body >>= λ _. effect.give more) same (λ left is.
      rounds_later 0 bound s.turns m there (body >>= λ _. effect.give more) (record s { turns = left }) (omega (arith, is))
      (comes_less g.target (s.turns - left) 1 m there (omega (arith, is)) came)
      (done_then g (λ _. round_on 0 bound) c c' place there over body (λ _. effect.give more) (record s { turns = left }) exact stands
      (runs left (omega (arith, is))) (λ base t rest based fewer. behind base t rest based (omega (arith, is, fewer, le)))))

  -- behind a round the next one comes, or the loop is over
  round_then : (m : State) (first : Action (Option A)) (next : A → Action (Unit {0})) (s : effect.State) → UsesTurnsExactly first
      → Rounds 0 s.turns m first s
      → ((a : A) (base : List Cell) (t : effect.State) → t.turns < s.turns → fit a → Based g t base
      → Executes g (on g (base ++ hold a) head t) held end (next a) t)
      → Executes g m held end (first >>= λ more. effect.another more next) s
  round_then m first next s exact e h =
      then_runs g (round_on 0 s.turns) (kept_on g held end) m first (λ more. effect.another more next) s exact e by
    where
      by : (more : Option A) (t : effect.State) (x : IsRound s.turns more t) → t.turns ≤ s.turns
          → Executes g (round_there s.turns more t x) held end (effect.another more next) t
      by None t x le = inr (done g 0 _ x.0 held end t x.1 (stays_here g.target _))
      by (Some a) t x le = h a x.0 t x.2 x.3 x.1

  -- what is shown of each round
  abbrev pub RoundRuns : Round A → Type 0
  RoundRuns round =
      (a : A) (base : List Cell) (s : effect.State) → fit a → Based g s base → Rounds 0 s.turns (on g (base ++ hold a) head s) (round a) s

  module _ (round : Round A) (goes : GoesRoundByRound round) (exact : (a : A) → UsesTurnsExactly (round a)) (runs : RoundRuns round) where
    loops_within : (bound : ℕ) (a : A) (base : List Cell) (s : effect.State) → s.turns ≤ bound → fit a → Based g s base
        → Executes g (on g (base ++ hold a) head s) held end (effect.looped round a) s
    loops_within zero a base s few fits based =
        runs_same g (kept_on g held end) _ (effect.looped round a) (round a >>= λ more. effect.another more (effect.looped round)) s (goes a)
        (round_then _ (round a) (effect.looped round) s (exact a) (runs a base s fits based) (λ b base2 t fewer fits2 based2. absurd (omega arith)))
    loops_within (suc bound) a base s few fits based =
        runs_same g (kept_on g held end) _ (effect.looped round a) (round a >>= λ more. effect.another more (effect.looped round)) s (goes a)
        (round_then _ (round a) (effect.looped round) s (exact a) (runs a base s fits based)
        (λ b base2 t fewer fits2 based2. loops_within bound b base2 t (omega arith) fits2 based2))

    -- the loop
    pub loops : (a : A) (base : List Cell) (s : effect.State) → fit a → Based g s base
        → Executes g (on g (base ++ hold a) head s) held end (effect.looped round a) s
    loops a base s fits based = loops_within s.turns a base s (omega arith) fits based

-- the setting with other slack, and with other cells held
abbrev pub reset : Setting → ℕ → ℕ → Setting
reset g slack next = record g {
  slack = slack;
  scope = record g.scope { next = next };
  homes_are = g.homes_are;
  routines_are = g.routines_are;
  level_is = g.level_is;
  near = g.near;
  shows = λ root variable at seen.
      let x = g.shows root variable at seen in
      record { place = x.place; place_is = x.place_is; owner = x.owner; leads = x.leads; way = x.way; reaches = x.reaches };
  chain = g.chain;
  as_many_homes = g.as_many_homes;
  opens = λ slot one at.
      let x = g.opens slot one at in
      record {
        place = x.place;
        place_is = x.place_is;
        id = x.id;
        type_is = x.type_is;
        level_is = x.level_is;
        refers = x.refers;
        address = x.address;
        held = x.held;
        part = x.part;
      };
}

-- the setting after other finished turns
abbrev pub after_turns : Setting → List ℕ → Setting
after_turns g turns = record g {
  environment = record g.environment { turns = turns };
  types_are = g.types_are;
  shows = λ root variable at seen.
      let x = g.shows root variable at seen in
      record { place = x.place; place_is = x.place_is; owner = x.owner; leads = x.leads; way = x.way; reaches = x.reaches };
}

module _ (g : Setting) (slack next : ℕ) where
  -- an end with less slack, by fewer turns
  ends_from_reset : (turns left : ℕ) (m : State) (why : Ending) (output : List ℕ) → turns - g.slack ≤ left - slack
      → Ends (reset g slack next) left m why output → Ends g turns m why output
  ends_from_reset turns left m ending.Finished output le e = e
  ends_from_reset turns left m (ending.Error site) output le e = e
  ends_from_reset turns left m (ending.Input point fault) output le e = e
  ends_from_reset turns left m ending.More output le e = (e.0, comes_less g.target (turns - g.slack) (left - slack) m e.0 le e.1, e.2)

  -- a round with less slack, behind its turn
  pub rounds_from_reset : {A : Type 0} (fit : A → Type 0) (hold : A → List Cell) (head end : ℕ) (held : List Cell) (left : ℕ) (m : State)
      (action : Action (Option A)) (s : effect.State) → suc slack ≤ g.slack → s.turns ≡ left
      → Rounds (reset g slack next) fit hold head end held 1 (suc left) m action s
      → RoundsBehind g fit hold head end held 0 (suc left) (suc left) m action s
  rounds_from_reset fit hold head end held left m action s le is (inl x) = inl x
  rounds_from_reset {A} fit hold head end held left m action s le is (inr e) = inr (by (action s) e)
    where
      by : (r : Reply (Option A))
          → Arrives (reset g slack next) (round_on (reset g slack next) fit hold head end held 1 (suc left)) s.turns m r
          → Arrives g (round_on g fit hold head end held 0 (suc left)) (suc left) m r
      by (Gives more t) e =
          (e.0, comes_less g.target (suc left - t.turns + 0) (s.turns - t.turns + 1) m _ (omega arith) e.1, omega (arith, e.2))
      by (effect.Stops why t) e = ends_from_reset (suc left) s.turns m why t.output (omega arith) e
