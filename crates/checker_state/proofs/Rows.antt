-- What is known of rows after one of them was set: there what was set, and elsewhere what was known. And the rows that
-- are variables' own.
use Rattle.std.proofs.Common.{arith, ◌≡◌, ⊎_elim, ◌∙◌, sym, ap, refl, subst, ℕ, ◌<◌, ◌≤◌, ℤ, true, false, nat_eq, List, [], ◌∷◌, get_or, length}
use Rattle.std.proofs.Common.{Option, Some, None}
use Rattle.std.specs.Prelude.{slice_set}
use Rattle.std.specs.List.{Contains}
use Rattle.std.proofs.lemmas.Bool.{cases_eq, cases_lt, ne_eqb, or_from, or_parts}
use Rattle.std.proofs.lemmas.List.{get_or_past, get_or-set_other, get_or-set_same, length-set}
use Rattle.std.proofs.lemmas.Option.{none-some}
use Rattle.types.specs.declared.form.Step.{Step}
use Rattle.domain.specs.Interval.{Interval}
use Rattle.meaning.specs.declared.value.Value.{Value}
use Rattle.meaning.specs.Store.{Environment, Place, Store}
use Rattle.checker_rows.specs.Rows.{Parts, no_parts}
use Rattle.checker_state.specs.declared.growing.Growing.{Growing}
use Rattle.checker_state.specs.State.{Dead, Facts, Held, Live, RowState, State, Table, no_row, row_at, with_defined, with_growth, with_range, with_row}
use Rattle.checker_state.specs.Changes.{with_some}
use Rattle.checker_state.specs.Loops.{is_among}
use Rattle.checker_state.specs.Holds.{FactsHold, GrowthHolds, HasNumber, HasValue, HeldHolds, IsIn, IsOfRow, IsWhole, Moment, StateHolds}
use Rattle.checker_state.specs.Holds.{ValuesLie, component_at, moment, part_of, value_at}
use Rattle.checker_state.specs.Knows.{AreRows, Shows}
use Rattle.checker_state.proofs.Lists.{at-head, head-or_tail, in-none, with_one-each}

-- a row with components is there
pub of_row-within : (rows : List Parts) (row : ℕ) (steps : List Step) → IsOfRow rows row steps → row < length rows
of_row-within rows row steps of_row =
    ⊎_elim (λ within. within)
    (λ beyond. absurd (in-none steps (subst (λ (parts : Parts). Contains parts.components steps) (get_or_past rows row no_parts beyond) of_row)))
    (cases_lt row (length rows))

-- what is so of the row that is set, and of each other as it was, is so after it was set
set-where : (P : RowState → Type 0) (known : Facts) (row other : ℕ) (state : RowState) → (other ≡ row → P state)
    → ((other ≡ row → ⊥) → P (row_at known other)) → other < length known.rows → P (row_at (with_row row state known) other)
set-where P known row other state there elsewhere within =
    ⊎_elim
    (λ same.
    subst P
    (sym (ap (λ (r : ℕ). row_at (with_row row state known) r) same
    ∙ get_or-set_same known.rows row state no_row (subst (λ r. r < length known.rows) same within)))
    (there same))
    (λ differ. subst P (sym (get_or-set_other known.rows row other state no_row differ)) (elsewhere differ)) (cases_eq other row)

-- a row that isn't there stays so
set-past : (known : Facts) (row other : ℕ) (state : RowState) → length known.rows ≤ other → no_row ≡ row_at (with_row row state known) other
set-past known row other state beyond =
    let same = length-set known.rows row state in
    sym (get_or_past (slice_set known.rows row state) other no_row (omega (arith, same, beyond)))

-- ---- how variables grow

-- a variable that has no number but those that it had grows as it did
pub growth-stays : (env : Environment) (before after : Store) (root : ℕ) (growth : Option Growing)
    → ((n : ℤ) → HasNumber (moment env after) root n → HasNumber (moment env before) root n)
    → GrowthHolds root growth (moment env before) → GrowthHolds root growth (moment env after)
growth-stays env before after root None back grows = tt
growth-stays env before after root (Some growing) back (k, at, below, so) = (k, at, below, λ n has. so n (back n has))

-- after a row was set the variable of its number grows as was set, and each other as it did
pub growth-set : (m : Moment) (known : Facts) (row other : ℕ) (state : RowState) → (other ≡ row → GrowthHolds other state.growth m)
    → ((other ≡ row → ⊥) → GrowthHolds other (row_at known other).growth m) → GrowthHolds other (row_at (with_row row state known) other).growth m
growth-set m known row other state there elsewhere =
    let P : RowState → Type 0 = λ state. GrowthHolds other state.growth m in
    ⊎_elim (λ within. set-where P known row other state there elsewhere within)
    (λ beyond. subst P (set-past known row other state beyond) tt) (cases_lt other (length known.rows))

module _ (rows : List Parts) (m : Moment) where
  -- what is known of a row holds of the values that are claimed of it; that it is defined, unless that is lost
  pub record RowWhere (Claimed : ℕ → List Step → Value → Type 0) (lost : List ℕ) (row : ℕ) (state : RowState) : Type 0 where
    pub range : (steps : List Step) (v : Value) → IsOfRow rows row steps → component_at rows m row steps ≡ Some v → Claimed row steps v
        → IsIn state.range v
    pub defined : is_among row lost ≡ false → state.is_defined ≡ true → IsWhole rows row m

  -- so it is of each row, variables grow so, and what is held holds
  pub record HoldsWhere (Claimed : ℕ → List Step → Value → Type 0) (lost : List ℕ) (known : Facts) : Type 0 where
    pub count : length rows ≤ length known.rows
    pub each : (row : ℕ) → RowWhere Claimed lost row (row_at known row)
    pub growths : (root : ℕ) → GrowthHolds root (row_at known root).growth m
    pub held : (one : Held) → Contains known.held one → HeldHolds rows one m

  pub row-where : (Claimed Then : ℕ → List Step → Value → Type 0) (lost left : List ℕ) (known : Facts) (row : ℕ) (state : RowState)
      → RowWhere Then left row state → GrowthHolds row state.growth m
      → ((other : ℕ) (state : RowState) → (other ≡ row → ⊥) → RowWhere Claimed lost other state → RowWhere Then left other state)
      → HoldsWhere Claimed lost known → HoldsWhere Then left (with_row row state known)
  row-where Claimed Then lost left known row state so grows others holds = record {
    count = omega (arith, length-set known.rows row state, holds.count);
    growths = λ other.
        growth-set m known row other state (λ same. subst (λ (r : ℕ). GrowthHolds r state.growth m) (sym same) grows) (λ differ. holds.growths other);
    each = λ other.
        let all = λ (steps : List Step) (of_row : IsOfRow rows other steps).
        set-where (RowWhere Then left other) known row other state (λ same. subst (λ r. RowWhere Then left r state) (sym same) so)
        (λ differ. others other (row_at known other) differ (holds.each other)) (omega (arith, holds.count, of_row-within rows other steps of_row)) in
        record {
          range = λ steps v of_row there claimed. (all steps of_row).range steps v of_row there claimed;
          defined = λ kept is steps of_row. (all steps of_row).defined kept is steps of_row;
        };
    held = holds.held;
  }

  still-lost : (Claimed : ℕ → List Step → Value → Type 0) (lost : List ℕ) (row other : ℕ) (state : RowState) → (other ≡ row → ⊥)
      → RowWhere Claimed (row ∷ lost) other state → RowWhere Claimed lost other state
  still-lost Claimed lost row other state differ was = record {
    range = was.range;
    defined = λ kept is. was.defined (or_from (nat_eq row other) (is_among other lost) (ne_eqb row other (λ same. differ (sym same))) kept) is;
  }

  -- a row has another range, which has the values that are claimed of it from here on
  pub range-where : (Claimed Then : ℕ → List Step → Value → Type 0) (lost : List ℕ) (known : Facts) (row : ℕ) (range : Interval)
      → ((steps : List Step) (v : Value) → IsOfRow rows row steps → component_at rows m row steps ≡ Some v → Then row steps v → IsIn range v)
      → ((other : ℕ) (steps : List Step) (v : Value) → (other ≡ row → ⊥) → Then other steps v → Claimed other steps v)
      → HoldsWhere Claimed lost known → HoldsWhere Then lost (with_row row (record (row_at known row) { range = range }) known)
  range-where Claimed Then lost known row range so others holds =
      row-where Claimed Then lost lost known row (record (row_at known row) { range = range }) (record { range = so; defined = (holds.each row).defined })
      (holds.growths row) (λ other state differ was. record {
        range = λ steps v of_row there claimed. was.range steps v of_row there (others other steps v differ claimed);
        defined = was.defined;
      }) holds

  -- each component of a row is defined, if that was lost
  pub defined-where : (Claimed : ℕ → List Step → Value → Type 0) (lost : List ℕ) (known : Facts) (row : ℕ) → IsWhole rows row m
      → HoldsWhere Claimed (row ∷ lost) known → HoldsWhere Claimed lost (with_row row (record (row_at known row) { is_defined = true }) known)
  defined-where Claimed lost known row so holds =
      row-where Claimed Claimed (row ∷ lost) lost known row (record (row_at known row) { is_defined = true })
      (record { range = (holds.each row).range; defined = λ kept is. so }) (holds.growths row) (still-lost Claimed lost row) holds

  -- that a row is defined is lost, and no more claimed
  pub forgotten-where : (Claimed : ℕ → List Step → Value → Type 0) (lost : List ℕ) (known : Facts) (row : ℕ)
      → HoldsWhere Claimed (row ∷ lost) known → HoldsWhere Claimed lost (with_row row (record (row_at known row) { is_defined = false }) known)
  forgotten-where Claimed lost known row holds =
      row-where Claimed Claimed (row ∷ lost) lost known row (record (row_at known row) { is_defined = false })
      (record { range = (holds.each row).range; defined = λ kept is. absurd (cc) }) (holds.growths row) (still-lost Claimed lost row) holds

  -- what is known of a row holds, however its variable grows
  pub row-grown : (Claimed : ℕ → List Step → Value → Type 0) (lost : List ℕ) (known : Facts) (root : ℕ) (growth : Option Growing) (row : ℕ)
      → RowWhere Claimed lost row (row_at known row) → RowWhere Claimed lost row (row_at (with_growth root growth known) row)
  row-grown Claimed lost known root growth row was =
      let P = RowWhere Claimed lost row in
      let grown : RowState = record (row_at known root) { growth = growth } in
      ⊎_elim
      (λ within.
      set-where P known root row grown
      (λ same. subst (λ (r : ℕ). P (record (row_at known r) { growth = growth })) same (record { range = was.range; defined = was.defined })) (λ differ. was)
      within)
      (λ beyond. subst P (get_or_past known.rows row no_row beyond ∙ set-past known root row grown beyond) was)
      (cases_lt row (length known.rows))

  -- a variable grows otherwise, or isn't known to
  pub growth-where : (Claimed : ℕ → List Step → Value → Type 0) (lost : List ℕ) (known : Facts) (root : ℕ) (growth : Option Growing)
      → GrowthHolds root growth m → HoldsWhere Claimed lost known → HoldsWhere Claimed lost (with_growth root growth known)
  growth-where Claimed lost known root growth grows holds = record {
    count = omega (arith, length-set known.rows root (record (row_at known root) { growth = growth }), holds.count);
    each = λ row. row-grown Claimed lost known root growth row (holds.each row);
    growths = λ other.
        growth-set m known root other (record (row_at known root) { growth = growth })
        (λ same. subst (λ (r : ℕ). GrowthHolds r growth m) (sym same) grows) (λ differ. holds.growths other);
    held = holds.held;
  }

  -- more is lost
  pub lost-where : (Claimed : ℕ → List Step → Value → Type 0) (lost : List ℕ) (known : Facts) (row : ℕ) → HoldsWhere Claimed lost known
      → HoldsWhere Claimed (row ∷ lost) known
  lost-where Claimed lost known row holds = record {
    count = holds.count;
    each = λ other. record {
      range = (holds.each other).range;
      defined = λ kept is. (holds.each other).defined (or_parts (nat_eq row other) (is_among other lost) kept).1 is;
    };
    growths = holds.growths;
    held = holds.held;
  }

  -- ---- all is claimed, and nothing is lost

  abbrev pub Any_value : ℕ → List Step → Value → Type 0
  Any_value row steps v = Unit {0}

  pub where-all : (Claimed : ℕ → List Step → Value → Type 0) → ((row : ℕ) (steps : List Step) (v : Value) → Claimed row steps v) → (known : Facts)
      → HoldsWhere Claimed [] known → FactsHold rows known m
  where-all Claimed so known holds = record {
    count = holds.count;
    ranges = λ row steps v of_row there. (holds.each row).range steps v of_row there (so row steps v);
    defined = λ row is. (holds.each row).defined refl is;
    growths = holds.growths;
    held = holds.held;
  }

  pub all-where : (known : Facts) → FactsHold rows known m → HoldsWhere Any_value [] known
  all-where known holds = record {
    count = holds.count;
    each = λ row. record { range = λ steps v of_row there any. holds.ranges row steps v of_row there; defined = λ kept is. holds.defined row is };
    growths = holds.growths;
    held = holds.held;
  }

  pub range-holds : (state : State) (row : ℕ) (range : Interval) → ValuesLie rows row range m → StateHolds rows state m
      → StateHolds rows (with_range row range state) m
  range-holds Dead row range so holds = holds
  range-holds (Live known) row range so holds =
      where-all Any_value (λ row steps v. tt) (with_row row (record (row_at known row) { range = range }) known)
      (range-where Any_value Any_value [] known row range (λ steps v of_row there any. so steps v of_row there) (λ other steps v differ any. tt)
      (all-where known holds))

  pub defined-holds : (state : State) (row : ℕ) → IsWhole rows row m → StateHolds rows state m → StateHolds rows (with_defined row state) m
  defined-holds Dead row so holds = holds
  defined-holds (Live known) row so holds =
      where-all Any_value (λ row steps v. tt) (with_row row (record (row_at known row) { is_defined = true }) known)
      (defined-where Any_value [] known row so (lost-where Any_value [] known row (all-where known holds)))

  -- more is held
  pub held-holds : (state : State) (one : Held) → HeldHolds rows one m → StateHolds rows state m → StateHolds rows (with_some (Some one) state) m
  held-holds Dead one so holds = holds
  held-holds (Live known) one so holds = record {
    count = holds.count;
    ranges = holds.ranges;
    defined = holds.defined;
    growths = holds.growths;
    held = with_one-each (λ one. HeldHolds rows one m) one known.held so holds.held;
  }

-- ---- rows of variables

-- a variable that isn't shown has no value
pub shown : (variables : ℕ) (env : Environment) → Shows variables env → (store : Store) (root : ℕ) (steps : List Step) (v : Value)
    → value_at (moment env store) root steps ≡ Some v → root < variables
shown variables env shows store root steps v is =
    ⊎_elim (λ within. within)
    (λ beyond. absurd (none-some v (sym (ap (λ (found : Option Place). part_of store found steps) (shows.only root beyond)) ∙ is)))
    (cases_lt root variables)

module _ (rows : List Parts) (table : Table) (are : AreRows rows table) (m : Moment) (root : ℕ) (within : root < table.variables) where
  abbrev own : Parts
  own = record { root = root; components = [] ∷ [] }

  -- the variable is the one component of its row
  only-whole : (steps : List Step) → Contains own.components steps → [] ≡ steps
  only-whole steps inside = ⊎_elim (λ same. same) (λ later. absurd (in-none steps later)) (head-or_tail [] steps [] inside)

  pub own-lies : (range : Interval) → ((v : Value) → value_at m root [] ≡ Some v → IsIn range v) → ValuesLie rows root range m
  own-lies range so =
      subst (λ (parts : Parts). (steps : List Step) (v : Value) → Contains parts.components steps → value_at m parts.root steps ≡ Some v → IsIn range v)
      (sym (are.own root within))
      (λ steps v inside is. so v (subst (λ s. value_at m root s ≡ Some v) (sym (only-whole steps inside)) is))

  pub lies-own : (range : Interval) (v : Value) → ValuesLie rows root range m → value_at m root [] ≡ Some v → IsIn range v
  lies-own range v lie is =
      subst (λ (parts : Parts). (steps : List Step) (v : Value) → Contains parts.components steps → value_at m parts.root steps ≡ Some v → IsIn range v)
      (are.own root within) lie [] v (at-head [] []) is

  pub own-whole : HasValue m root [] → IsWhole rows root m
  own-whole has =
      subst (λ (parts : Parts). (steps : List Step) → Contains parts.components steps → HasValue m parts.root steps) (sym (are.own root within))
      (λ steps inside. subst (λ s. HasValue m root s) (only-whole steps inside) has)

  pub whole-own : IsWhole rows root m → HasValue m root []
  whole-own whole =
      subst (λ (parts : Parts). (steps : List Step) → Contains parts.components steps → HasValue m parts.root steps) (are.own root within) whole []
      (at-head [] [])

  -- it is of its row
  pub of_own : IsOfRow rows root []
  of_own = subst (λ (parts : Parts). Contains parts.components []) (sym (are.own root within)) (at-head [] [])

  pub root-own : (get_or rows root no_parts).root ≡ root
  root-own = ap (λ (parts : Parts). parts.root) (are.own root within)
