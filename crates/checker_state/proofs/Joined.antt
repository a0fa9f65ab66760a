-- What is known where two ways meet holds, whichever was taken.
use Rattle.std.proofs.Common.{arith, ⊎_elim, refl, sym, subst, ℕ, ◌<◌, ◌≤◌, max, ◌&&◌, List, [], length, filter}
use Rattle.std.specs.List.{Contains}
use Rattle.std.proofs.lemmas.Bool.{and_parts, cases_lt, or_cases}
use Rattle.std.proofs.lemmas.List.{get_or_past}
use Rattle.std.proofs.lemmas.List.FromFn.{get_or-map-range_with_len, length-map-range_with_len}
use Rattle.meaning.specs.Store.{Environment, Store}
use Rattle.checker_rows.specs.Rows.{Parts}
use Rattle.checker_state.specs.State.{Dead, Facts, Held, Live, RowState, State, Table, gives, is_whole, no_row, row_at}
use Rattle.checker_state.specs.Joins.{joined_facts, joined_row, joined_states}
use Rattle.checker_state.specs.Holds.{FactsHold, GrowthHolds, HeldHolds, HoldNumbers, Moment, StateHolds, moment}
use Rattle.checker_state.specs.Knows.{AreRows, Shows}
use Rattle.checker_state.specs.Laws.{JoinHolds}
use Rattle.checker_state.proofs.Given.{held-given, whole-holds}
use Rattle.checker_state.proofs.Grown.{growth-one, growth-other}
use Rattle.checker_state.proofs.Lists.{in-filter, with_more-each}
use Rattle.checker_state.proofs.Ranged.{in-left, in-right}
use Rattle.checker_state.proofs.Rows.{RowWhere, Any_value, of_row-within}

module _ (rows : List Parts) (table : Table) (are : AreRows rows table) (env : Environment) (shows : Shows table.variables env) (store : Store)
    (numbers : HoldNumbers table.ordinal (moment env store)) (one other : Facts) where
  abbrev m : Moment
  m = moment env store

  abbrev both : Facts
  both = joined_facts table one other

  abbrev RowHolds : ℕ → RowState → Type 0
  RowHolds row state = RowWhere rows m (Any_value rows m) [] row state

  -- what is known of each row on both ways
  joined-holds : length rows ≤ max (length one.rows) (length other.rows) → ((row : ℕ) → RowHolds row (joined_row table one other row))
      → ((root : ℕ) → GrowthHolds root (joined_row table one other root).growth m)
      → ((held : Held) → Contains both.held held → HeldHolds rows held m) → FactsHold rows both m
  joined-holds enough each grows held =
      let count = max (length one.rows) (length other.rows) in
      let many = length-map-range_with_len (joined_row table one other) 0 count in
      let at = λ (row : ℕ) (within : row < length rows).
      subst (RowHolds row) (sym (get_or-map-range_with_len (joined_row table one other) 0 count row row no_row (omega (arith, within, enough)) (omega arith)))
      (each row) in
      record {
        count = omega (arith, many, enough);
        ranges = λ row steps v of_row there. (at row (of_row-within rows row steps of_row)).range steps v of_row there tt;
        defined = λ row is steps of_row. (at row (of_row-within rows row steps of_row)).defined refl is steps of_row;
        growths = λ root.
            let P : RowState → Type 0 = λ state. GrowthHolds root state.growth m in
            ⊎_elim
            (λ within. subst P (sym (get_or-map-range_with_len (joined_row table one other) 0 count root root no_row within (omega arith))) (grows root))
            (λ beyond. subst P (sym (get_or_past both.rows root no_row (omega (arith, many, beyond)))) tt) (cases_lt root count);
        held = held;
      }

  from-one : FactsHold rows one m → FactsHold rows both m
  from-one holds =
      joined-holds (let enough = holds.count in omega (arith, enough))
      (λ row.
      let first = row_at one row in
      let second = row_at other row in
      let whole = is_whole table one row in
      let whole_other = is_whole table other row in
      record {
        range = λ steps v of_row there any. in-left first.range second.range v (holds.ranges row steps v of_row there);
        defined = λ kept is.
            ⊎_elim (λ held. holds.defined row (and_parts first.is_defined whole_other held).0)
            (λ given. whole-holds rows table are env shows store numbers one holds row (and_parts second.is_defined whole given).1)
            (or_cases (first.is_defined && whole_other) (second.is_defined && whole) is);
      })
      (λ root. growth-one m root (row_at one root).growth (row_at other root).growth (holds.growths root))
      (with_more-each (λ held. HeldHolds rows held m) (filter (gives table one) other.held) (filter (gives table other) one.held)
      (λ held inside. held-given rows table are env shows store numbers one holds held (in-filter (gives table one) other.held held inside).1)
      (λ held inside. holds.held held (in-filter (gives table other) one.held held inside).0))

  from-other : FactsHold rows other m → FactsHold rows both m
  from-other holds =
      joined-holds (let enough = holds.count in omega (arith, enough))
      (λ row.
      let first = row_at one row in
      let second = row_at other row in
      let whole = is_whole table one row in
      let whole_other = is_whole table other row in
      record {
        range = λ steps v of_row there any. in-right first.range second.range v (holds.ranges row steps v of_row there);
        defined = λ kept is.
            ⊎_elim (λ given. whole-holds rows table are env shows store numbers other holds row (and_parts first.is_defined whole_other given).1)
            (λ held. holds.defined row (and_parts second.is_defined whole held).0)
            (or_cases (first.is_defined && whole_other) (second.is_defined && whole) is);
      })
      (λ root. growth-other m root (row_at one root).growth (row_at other root).growth (holds.growths root))
      (with_more-each (λ held. HeldHolds rows held m) (filter (gives table one) other.held) (filter (gives table other) one.held)
      (λ held inside. holds.held held (in-filter (gives table one) other.held held inside).0)
      (λ held inside. held-given rows table are env shows store numbers other holds held (in-filter (gives table other) one.held held inside).1))

module _ (rows : List Parts) (table : Table) (are : AreRows rows table) (env : Environment) (shows : Shows table.variables env) where
  state-one : (one other : State) (store : Store) → HoldNumbers table.ordinal (moment env store) → StateHolds rows one (moment env store)
      → StateHolds rows (joined_states table one other) (moment env store)
  state-one Dead other store numbers holds = absurd holds
  state-one (Live one) Dead store numbers holds = holds
  state-one (Live one) (Live other) store numbers holds = from-one rows table are env shows store numbers one other holds

  state-other : (one other : State) (store : Store) → HoldNumbers table.ordinal (moment env store) → StateHolds rows other (moment env store)
      → StateHolds rows (joined_states table one other) (moment env store)
  state-other Dead other store numbers holds = holds
  state-other (Live one) Dead store numbers holds = absurd holds
  state-other (Live one) (Live other) store numbers holds = from-other rows table are env shows store numbers one other holds

pub join-holds : JoinHolds
join-holds = record {
  from_one = λ rows table are env one other store numbers known. record {
    shows = known.shows;
    holds = state-one rows table are env known.shows one other store numbers known.holds;
  };
  from_other = λ rows table are env one other store numbers known. record {
    shows = known.shows;
    holds = state-other rows table are env known.shows one other store numbers known.holds;
  };
}
