-- How variables grow with the turns of for statements, where two ways meet, after a step, inside a statement, where its turns begin and end, and behind
-- it.
use Rattle.std.proofs.Common.{arith, ◌≡◌, ◌∙◌, sym, ap, refl, subst, ℕ, ℤ, pos, ◌+ℤ◌, ◌≤ℤ◌, ◌<◌, ◌+◌, Bool, true, cond, ◌&&◌, nat_eq}
use Rattle.std.proofs.Common.{List, [], ◌∷◌, ◌++◌, length, map, nat_lt, suc, zero, Option, Some, None, IfSome}
use Rattle.std.specs.List.{slice_get}
use Rattle.std.specs.Ordering.{int_eq}
use Rattle.std.specs.Int.{int_min, int_max}
use Rattle.std.proofs.lemmas.Int.{ints, clamps}
use Rattle.std.proofs.lemmas.Bool.{and_from, and_parts, cond_both, eq-eqb, eqb-true, ltb-true}
use Rattle.std.proofs.lemmas.List.{length-map}
use Rattle.std.proofs.lemmas.Option.{none-some, same_Some}
use Rattle.std.proofs.Math.IntN.{*ℤ-zero}
use Rattle.std.proofs.Math.ListN as lists
use Rattle.domain.specs.declared.growth.Growth.{Growth}
use Rattle.domain.specs.contracts.growth.GrowthDomain.TheImpl.Laws.{leq_includes-law, join_has_left-law, join_has_right-law}
use Rattle.domain.specs.GrowthLaws.{next-pairs, reach-has, stepped-has}
use Rattle.domain.specs.Growths.{HasPair, is_within, joined, next, stepped}
use Rattle.domain.specs.Ranges.{between-members}
use Rattle.domain.specs.Interval.{Interval, HasMember, IsEnd, between, common}
use Rattle.domain.specs.contracts.interval.IntervalDomain.TheImpl.Laws as interval
use Rattle.meaning.specs.Integers.{is_integer_number}
use Rattle.meaning.specs.declared.value.Value.{Value}
use Rattle.meaning.specs.declared.value.Value.TheVariants.{Members, Number}
use Rattle.meaning.specs.Store.{Environment, Store, inside_for}
use Rattle.checker_rows.specs.Rows.{Parts}
use Rattle.checker_state.specs.declared.growing.Growing.{Growing}
use Rattle.checker_state.specs.Growths.{behind_step, growing_by, growing_on_both, growing_outside, growth_of, has_grown, has_grown_by, joined_growth}
use Rattle.checker_state.specs.Growths.{reached, row_outside, stepped_growth, with_growing, without_turns}
use Rattle.checker_state.specs.State.{Dead, Facts, Held, Live, Ordered, RowState, Span, State, Stretched, Table, no_row, range_of, row_at, with_row}
use Rattle.checker_state.specs.Holds.{AreBounds, FactsHold, GrowsSo, GrowthHolds, HasNumber, HeldHolds, IsBoundBy, IsIn, Moment, Numbers, StateHolds}
use Rattle.checker_state.specs.Holds.{ValuesLie, moment, value_at}
use Rattle.checker_state.specs.Knows.{AreRows, IsInteger, IsStep, Shows}
use Rattle.checker_state.specs.Laws.{GrowthsHold}
use Rattle.checker_state.proofs.Looped.{range-lies}
use Rattle.checker_state.proofs.Ranged.{common-in, in-present}
use Rattle.checker_state.proofs.Rows.{Any_value, all-where, lies-own, own-lies, row-where, where-all}

-- ---- where two ways meet

-- it is one with as many turns of the same for statement
same-turns : (one other : Growing) → (nat_eq one.depth other.depth && int_eq one.most other.most) ≡ true
    → (one.depth ≡ other.depth) × (one.most ≡ other.most)
same-turns one other is =
    let parts = and_parts (nat_eq one.depth other.depth) (int_eq one.most other.most) is in
    let most = parts.1 in
    (eqb-true one.depth other.depth parts.0, grind (arith, ints, most))

growing-one : (m : Moment) (root : ℕ) (one other : Growing) → GrowsSo root one m → GrowthHolds root (growing_on_both one other) m
growing-one m root one other (k, at, below, so) =
    cond_both (nat_eq one.depth other.depth && int_eq one.most other.most) _ None (λ growth. GrowthHolds root growth m)
    (λ same. (k, at, below, λ n has. join_has_left-law one.growth other.growth (k, n) (so n has))) (λ differ. tt)

growing-other : (m : Moment) (root : ℕ) (one other : Growing) → GrowsSo root other m → GrowthHolds root (growing_on_both one other) m
growing-other m root one other (k, at, below, so) =
    cond_both (nat_eq one.depth other.depth && int_eq one.most other.most) _ None (λ growth. GrowthHolds root growth m)
    (λ same.
    let turns = same-turns one other same in
    let least = turns.1 in (
      k,
      ap (λ (depth : ℕ). slice_get m.environment.turns depth) turns.0 ∙ at,
      subst (λ (most : ℤ). pos k ≤ℤ most) (sym least) below,
      λ n has. join_has_right-law one.growth other.growth (k, n) (so n has),
    ))
    (λ differ. tt)

pub growth-one : (m : Moment) (root : ℕ) (one other : Option Growing) → GrowthHolds root one m → GrowthHolds root (joined_growth one other) m
growth-one m root None None grows = tt
growth-one m root None (Some other) grows = tt
growth-one m root (Some one) None grows = tt
growth-one m root (Some one) (Some other) grows = growing-one m root one other grows

pub growth-other : (m : Moment) (root : ℕ) (one other : Option Growing) → GrowthHolds root other m → GrowthHolds root (joined_growth one other) m
growth-other m root None None grows = tt
growth-other m root None (Some other) grows = tt
growth-other m root (Some one) None grows = tt
growth-other m root (Some one) (Some other) grows = growing-other m root one other grows

growth-itself : (growth : Growth) → joined growth growth ≡ growth
growth-itself growth =
    let min : (z : ℤ) → int_min z z ≡ z = λ z. omega (arith, ints, clamps) in
    let max : (z : ℤ) → int_max z z ≡ z = λ z. omega (arith, ints, clamps) in
    λ i. record {
      first = min growth.first i;
      first_step = min growth.first_step i;
      last = max growth.last i;
      last_step = max growth.last_step i;
    }

-- where the same is known on both ways it stays
pub joined-itself : (growth : Option Growing) → joined_growth growth growth ≡ growth
joined-itself None = refl
joined-itself (Some growing) =
    let same : int_eq growing.most growing.most ≡ true = grind (arith, ints) in
    ap (λ (test : Bool). cond test (Some (record growing { growth = joined growing.growth growing.growth })) None)
    (and_from (nat_eq growing.depth growing.depth) (int_eq growing.most growing.most) (eq-eqb growing.depth growing.depth refl) same)
    ∙ ap (λ (growth : Growth). Some (record growing { growth = growth })) (growth-itself growing.growth)

-- ---- where a variable grows from here on

-- a number of integer is an end that ranges may have
integer-end : (n : ℤ) → is_integer_number n ≡ true → IsEnd n
integer-end n fits = (grind (arith, ints), grind (arith, ints))

module _ (rows : List Parts) (table : Table) (are : AreRows rows table) (m : Moment) (root : ℕ) (within : root < table.variables) (growing : Growing)
    (grows : GrowsSo root growing m) where
  -- its value is reached
  number-reached : (n : ℤ) → HasNumber m root n → is_integer_number n ≡ true → HasMember (reached growing) n
  number-reached n has fits =
      reach-has growing.most growing.growth grows.0 n (grows.3 n has) grows.2 (integer-end n fits)

  value-reached : (v : Value) → value_at m root [] ≡ Some v → IsInteger v → IsIn (reached growing) v
  value-reached (Number n) is fits = number-reached n is fits
  value-reached (Members set) is fits = absurd fits

  pub growing-holds : ((v : Value) → value_at m root [] ≡ Some v → IsInteger v) → (state : State) → StateHolds rows state m
      → StateHolds rows (with_growing root growing state) m
  growing-holds fits Dead holds = absurd holds
  growing-holds fits (Live known) holds =
      let range = common (row_at known root).range (reached growing) in
      let lies = own-lies rows table are m root within range (λ v is.
      common-in (row_at known root).range (reached growing) v
      (lies-own rows table are m root within (row_at known root).range v (holds.ranges root) is) (value-reached v is (fits v is))) in
      where-all rows m (Any_value rows m) (λ row steps v. tt)
      (with_row root (record (row_at known root) { range = range; growth = Some growing }) known)
      (row-where rows m (Any_value rows m) (Any_value rows m) [] [] known root (record (row_at known root) { range = range; growth = Some growing })
      (record { range = λ steps v of_row there any. lies steps v of_row there; defined = λ kept is. holds.defined root is }) grows
      (λ other state differ was. was) (all-where rows m known holds))

-- ---- after a step

module _ (rows : List Parts) (table : Table) (are : AreRows rows table) (env : Environment) (shows : Shows table.variables env) (before after : Store)
    (root : ℕ) (within : root < table.variables) (v : Value) (own : value_at (moment env after) root [] ≡ Some v) where
  -- the value that the variable had grew, and so does the one that it has
  same-number : (m n : ℤ) → Number m ≡ Number n → m ≡ n
  same-number m n is = cc

  module _ (step : Interval) (is_step : IsStep (moment env before) root (Some step) v) where
    new-grows : (growing : Growing) (growth : Growth) → stepped step growing.growth ≡ Some growth → GrowsSo root growing (moment env before)
        → GrowsSo root (record growing { growth = growth }) (moment env after)
    new-grows growing growth stepped_is (k, at, below, so) =
        let (old, number, has_old, inside, v_is, fits) = is_step in
        let moves = subst (λ (more : Option Growth).
        IfSome more (λ more. (k : ℕ) (n e : ℤ) → HasPair growing.growth (k, n) → HasMember step e → HasPair more (k, n +ℤ e))) stepped_is
        (stepped-has step growing.growth (stepped step growing.growth) refl) in (
          k,
          at,
          below,
          λ n has.
              subst (λ (n : ℤ). HasPair growth (k, n)) (same-number (old +ℤ number) n (sym v_is ∙ same_Some v (Number n) (sym own ∙ has)))
              (moves k old number (so old has_old) inside),
        )

    value-integer : (w : Value) → value_at (moment env after) root [] ≡ Some w → IsInteger w
    value-integer w is =
        let (old, number, has_old, inside, v_is, fits) = is_step in
        subst IsInteger (sym v_is ∙ same_Some v w (sym own ∙ is)) fits

    behind-holds : (growing : Growing) → GrowsSo root growing (moment env after) → (state : State) → StateHolds rows state (moment env after)
        → StateHolds rows (behind_step root (Some growing) state) (moment env after)
    behind-holds growing grows state holds =
        let (old, number, has_old, inside, v_is, fits) = is_step in
        let n = old +ℤ number in
        let has : HasNumber (moment env after) root n = own ∙ ap Some v_is in
        let in_both : IsIn (common (range_of state root) (reached growing)) (Number n) =
        common-in (range_of state root) (reached growing) (Number n)
        (lies-own rows table are (moment env after) root within (range_of state root) (Number n) (range-lies rows (moment env after) state root holds) has)
        (number-reached rows table are (moment env after) root within growing grows n has fits) in
        subst (λ (none : Bool). StateHolds rows (cond none Dead (with_growing root growing state)) (moment env after))
        (sym (in-present (common (range_of state root) (reached growing)) n in_both))
        (growing-holds rows table are (moment env after) root within growing grows value-integer state holds)

    stepped-holds : (growing : Growing) → GrowsSo root growing (moment env before) → (more : Option Growth) → stepped step growing.growth ≡ more
        → (state : State) → StateHolds rows state (moment env after)
        → StateHolds rows (behind_step root (growing_by growing more) state) (moment env after)
    stepped-holds growing grows None is state holds = holds
    stepped-holds growing grows (Some growth) is state holds =
        behind-holds (record growing { growth = growth }) (new-grows growing growth is grows) state holds

  growth-stepped : (step : Option Interval) → IsStep (moment env before) root step v → (growth : Option Growing)
      → GrowthHolds root growth (moment env before) → (state : State) → StateHolds rows state (moment env after)
      → StateHolds rows (behind_step root (stepped_growth step growth) state) (moment env after)
  growth-stepped None is_step None grows state holds = holds
  growth-stepped None is_step (Some growing) grows state holds = holds
  growth-stepped (Some step) is_step None grows state holds = holds
  growth-stepped (Some step) is_step (Some growing) grows state holds =
      stepped-holds step is_step growing grows (stepped step growing.growth) refl state holds

  pub step-holds : (step : Option Interval) → IsStep (moment env before) root step v → (old : State) → StateHolds rows old (moment env before)
      → (state : State) → StateHolds rows state (moment env after)
      → StateHolds rows (behind_step root (stepped_growth step (growth_of old root)) state) (moment env after)
  step-holds step is_step Dead was state holds = absurd was
  step-holds step is_step (Live known) was state holds = growth-stepped step is_step (row_at known root).growth (was.growths root) state holds

-- ---- inside a for statement and behind it

-- what is known rests on finished turns by how variables grow alone
module _ (env : Environment) (turns others : List ℕ) (store : Store) where
  abbrev one : Moment
  one = moment (record env { turns = turns }) store

  abbrev other : Moment
  other = moment (record env { turns = others }) store

  bound-turned : (root : Option ℕ) (number n : ℤ) → IsBoundBy one root number n → IsBoundBy other root number n
  bound-turned None number n is = is
  bound-turned (Some root) number n is = is

  bounds-turned : (spans : List Span) (numbers : List Numbers) → AreBounds one spans numbers → AreBounds other spans numbers
  bounds-turned [] [] are = tt
  bounds-turned [] (first ∷ numbers) are = absurd are
  bounds-turned (span ∷ spans) [] are = absurd are
  bounds-turned (span ∷ spans) (first ∷ numbers) are = (
    bound-turned span.first.root span.first.number first.first are.0,
    bound-turned span.last.root span.last.number first.last are.1,
    bounds-turned spans numbers are.2,
  )

  pub held-turned : (rows : List Parts) (held : Held) → HeldHolds rows held one → HeldHolds rows held other
  held-turned rows (Stretched stretch) holds = (holds.0, bounds-turned stretch.spans holds.0 holds.1, holds.2)
  held-turned rows (Ordered root less number) holds = holds

  -- a state whose variables grow with other turns
  pub facts-turned : (rows : List Parts) (known : Facts) → FactsHold rows known one
      → ((root : ℕ) → GrowthHolds root (row_at known root).growth other) → FactsHold rows known other
  facts-turned rows known holds grows = record {
    count = holds.count;
    ranges = holds.ranges;
    defined = holds.defined;
    growths = grows;
    held = λ held inside. held-turned rows held (holds.held held inside);
  }

-- turns that are finished stay so inside one more for statement
turns-inside : (turns : List ℕ) (more depth k : ℕ) → slice_get turns depth ≡ Some k → slice_get (turns ++ more ∷ []) depth ≡ Some k
turns-inside [] more depth k is = absurd (none-some k is)
turns-inside (first ∷ turns) more zero k is = is
turns-inside (first ∷ turns) more (suc depth) k is = turns-inside turns more depth k is

turns-outside : (turns : List ℕ) (more depth k : ℕ) → depth < length turns → slice_get (turns ++ more ∷ []) depth ≡ Some k → slice_get turns depth ≡ Some k
turns-outside [] more depth k within is = absurd (omega (arith, within))
turns-outside (first ∷ turns) more zero k within is = is
turns-outside (first ∷ turns) more (suc depth) k within is = turns-outside turns more depth k (omega (arith, within)) is

turns-own : (turns : List ℕ) (more : ℕ) → slice_get (turns ++ more ∷ []) (length turns) ≡ Some more
turns-own [] more = refl
turns-own (first ∷ turns) more = turns-own turns more

module _ (env : Environment) (store : Store) (finished : ℕ) where
  abbrev inner : Moment
  inner = moment (inside_for env finished) store

  abbrev outer : Moment
  outer = moment env store

  growth-inside : (root : ℕ) (growth : Option Growing) → GrowthHolds root growth outer → GrowthHolds root growth inner
  growth-inside root None grows = tt
  growth-inside root (Some growing) (k, at, below, so) = (k, turns-inside env.turns finished growing.depth k at, below, so)

  growth-outside : (root : ℕ) (growth : Option Growing) → GrowthHolds root growth inner → GrowthHolds root (growing_outside (length env.turns) growth) outer
  growth-outside root None grows = tt
  growth-outside root (Some growing) (k, at, below, so) =
      cond_both (nat_lt growing.depth (length env.turns)) (Some growing) None (λ growth. GrowthHolds root growth outer)
      (λ less. (k, turns-outside env.turns finished growing.depth k (ltb-true growing.depth (length env.turns) less) at, below, so)) (λ deeper. tt)

  inside-holds : (rows : List Parts) (state : State) → StateHolds rows state outer → StateHolds rows state inner
  inside-holds rows Dead holds = absurd holds
  inside-holds rows (Live known) holds =
      facts-turned env env.turns (env.turns ++ finished ∷ []) store rows known holds
      (λ root. growth-inside root (row_at known root).growth (holds.growths root))

  outside-holds : (rows : List Parts) (state : State) → StateHolds rows state inner
      → StateHolds rows (without_turns (length env.turns) state) outer
  outside-holds rows Dead holds = absurd holds
  outside-holds rows (Live known) holds =
      let depth = length env.turns in
      let left : Facts = record known { rows = map (row_outside depth) known.rows } in
      let at = λ (row : ℕ). lists.get_or-map (row_outside depth) known.rows row no_row in
      let many = length-map known.rows (row_outside depth) in
      let P = λ (row : ℕ) (state : RowState). ValuesLie rows row state.range outer in
      record {
        count = omega (arith, many, holds.count);
        ranges = λ row. subst (λ (state : RowState). ValuesLie rows row state.range outer) (sym (at row)) (holds.ranges row);
        defined = λ row is. holds.defined row (sym (ap (λ (state : RowState). state.is_defined) (at row)) ∙ is);
        growths = λ root.
            subst (λ (state : RowState). GrowthHolds root state.growth outer) (sym (at root))
            (growth-outside root (row_at known root).growth (holds.growths root));
        held = λ held inside. held-turned env (env.turns ++ finished ∷ []) env.turns store rows held (holds.held held inside);
      }

  -- behind a turn
  grown-by : (root : ℕ) (growth : Growth) (own : Option Growing) (n : ℤ) → HasNumber outer root n → GrowthHolds root own inner
      → has_grown_by own (length env.turns) growth ≡ true → HasPair growth (finished + 1, n)
  grown-by root growth None n has grows is = absurd (cc)
  grown-by root growth (Some growing) n has (k, at, below, so) is =
      let parts = and_parts (nat_eq growing.depth (length env.turns)) (is_within growing.growth (next growth)) is in
      let depth = eqb-true growing.depth (length env.turns) parts.0 in
      let own = sym (turns-own env.turns finished) ∙ sym (ap (λ (d : ℕ). slice_get (env.turns ++ finished ∷ []) d) depth) ∙ at in
      let same = same_Some finished k own in
      (next-pairs growth finished n).0
      (leq_includes-law growing.growth (next growth) (finished, n) parts.1 (subst (λ (k : ℕ). HasPair growing.growth (k, n)) (sym same) (so n has)))

  grown-holds : (rows : List Parts) (state : State) (root : ℕ) (growth : Growth) (n : ℤ) → HasNumber outer root n → StateHolds rows state inner
      → has_grown state root (length env.turns) growth ≡ true → HasPair growth (finished + 1, n)
  grown-holds rows Dead root growth n has holds is = absurd holds
  grown-holds rows (Live known) root growth n has holds is = grown-by root growth (row_at known root).growth n has (holds.growths root) is

-- before the first turn
can-begin : (growth : Growth) (n : ℤ) → HasMember (between growth.first growth.last) n → HasPair growth (0, n)
can-begin growth n has =
    let (low, high) = (between-members growth.first growth.last n).0 has in
    let first = *ℤ-zero growth.first_step in
    let last = *ℤ-zero growth.last_step in
    (omega (arith, ints, first, low), omega (arith, ints, last, high))

pub growths-hold : GrowthsHold
growths-hold = record {
  begins = λ rows table are env state store root growth n within has known is.
      can-begin growth n
      (interval.leq_includes-law (range_of state root) (between growth.first growth.last) n is
      (lies-own rows table are (moment env store) root within (range_of state root) (Number n)
      (range-lies rows (moment env store) state root known.holds) has));
  inside = λ rows roots env state store finished known.
      record { shows = record { only = known.shows.only }; holds = inside-holds env store finished rows state known.holds };
  begun = λ rows table are env state store root growing is_begun known. record {
    shows = known.shows;
    holds = growing-holds rows table are (moment env store) root is_begun.0 growing is_begun.1 is_begun.2 state known.holds;
  };
  grown = λ rows roots env state store root finished growth n has known is.
      grown-holds env store finished rows state root growth n has known.holds is;
  outside = λ rows roots env state store finished known.
      record { shows = record { only = known.shows.only }; holds = outside-holds env store finished rows state known.holds };
}
