-- What is known at the head of a loop, and behind it with a bound in its control variable's place, holds.
use Rattle.std.proofs.Common.{arith, ◌≡◌, ⊎_elim, ◌∙◌, sym, ap, refl, subst, ℕ, ℤ, ◌<◌, ◌≤◌, true, false, nat_eq, List, [], ◌∷◌, get_or, length}
use Rattle.std.proofs.Common.{Option, Some, None}
use Rattle.std.specs.List.{All, Contains, filter_map}
use Rattle.std.proofs.lemmas.Bool.{cases_lt, and_parts, ne_eqb, or_from}
use Rattle.std.proofs.lemmas.List.{length-set}
use Rattle.std.proofs.lemmas.List.Elements.{All-cons, All-head, All-nil, All-tail}
use Rattle.std.proofs.lemmas.Option.{none-some}
use Rattle.domain.specs.Interval.{Interval, common}
use Rattle.types.specs.declared.form.Step.{Step}
use Rattle.meaning.specs.declared.value.Value.{Value}
use Rattle.meaning.specs.Store.{Environment, Store}
use Rattle.checker_rows.specs.Rows.{Parts, first_index, no_parts}
use Rattle.checker_state.specs.Bounds.{Bound}
use Rattle.checker_state.specs.State.{Claim, Dead, Defined, Facts, Held, Holds as Holding, Live, Range, State, Table, range_of}
use Rattle.checker_state.specs.State.{row_at}
use Rattle.checker_state.specs.State.{state_gives, with_growth, with_range}
use Rattle.checker_state.specs.Changes.{all_changed, changed, in_place, rests_on}
use Rattle.checker_state.specs.Loops.{after_turns, all_forgotten, gives_all, is_among, replaced, with_claim, with_claims, with_forgotten, with_limits}
use Rattle.checker_state.specs.Holds.{GrowthHolds, HasNumber, HeldHolds, HoldNumbers, Holds, IsBound, IsOfRow, Moment, StateHolds, ValuesLie, moment}
use Rattle.checker_state.specs.Knows.{AreEntire, AreRows, AreUntouched, InLimits, IsKept, Knows, rests_on_any}
use Rattle.checker_state.specs.Laws.{HeadsHold}
use Rattle.checker_state.proofs.Changed.{StaysDefined, held-stays, placed-holds, unless-some}
use Rattle.checker_state.proofs.Given.{given-holds}
use Rattle.checker_state.proofs.Lists.{head-or_tail, in-filter_map, in-none, in-tail, at-head, with_more-each}
use Rattle.checker_state.proofs.Ranged.{common-in}
use Rattle.checker_state.proofs.Rows.{HoldsWhere, RowWhere, defined-holds, forgotten-where, growth-set, growth-stays, held-holds, range-holds, range-where}
use Rattle.checker_state.proofs.Rows.{root-own, row-grown, where-all}
use Rattle.checker_state.proofs.Settled.{one-kept}

-- ---- what rests on no variable that changed

pub unchanged : (root : ℕ) (one other : Held) → changed root None one ≡ Some other → (rests_on root one ≡ false) × (one ≡ other)
unchanged root one other is = unless-some (rests_on root one) one other (sym (one-kept root one) ∙ is)

module _ (rows : List Parts) (m : Moment) where
  -- a state that some run comes to, of which so much is claimed
  abbrev pub StateWhere : (Claimed : ℕ → List Step → Value → Type 0) → List ℕ → State → Type 0
  StateWhere Claimed lost Dead = ⊥
  StateWhere Claimed lost (Live known) = HoldsWhere rows m Claimed lost known

  pub changed-where : (Claimed : ℕ → List Step → Value → Type 0) (lost roots : List ℕ) (known : Facts) → length rows ≤ length known.rows
      → ((row : ℕ) → RowWhere rows m Claimed lost row (row_at known row))
      → ((root : ℕ) → is_among root roots ≡ false → GrowthHolds root (row_at known root).growth m)
      → ((one : Held) → Contains known.held one → rests_on_any roots one ≡ false → HeldHolds rows one m)
      → StateWhere Claimed lost (all_changed roots (Live known))
  changed-where Claimed lost [] known count each grows held =
      record { count = count; each = each; growths = λ root. grows root refl; held = λ one listed. held one listed refl }
  changed-where Claimed lost (root ∷ roots) known count each grows held =
      let same = length-set known.rows root (record (row_at known root) { growth = None }) in
      changed-where Claimed lost roots (record (with_growth root None known) { held = filter_map (changed root None) known.held })
      (omega (arith, same, count)) (λ row. row-grown rows m Claimed lost known root None row (each row))
      (λ other free.
      growth-set m known root other (record (row_at known root) { growth = None }) (λ same. tt)
      (λ differ. grows other (or_from (nat_eq root other) (is_among other roots) (ne_eqb root other (λ same. differ (sym same))) free)))
      (λ one listed free.
      let (old, old_listed, became) = in-filter_map (changed root None) known.held one listed in
      let parts = unchanged root old one became in
      subst (λ h. HeldHolds rows h m) parts.1
      (held old old_listed
      (or_from (rests_on root old) (rests_on_any roots old) parts.0 (subst (λ h. rests_on_any roots h ≡ false) (sym parts.1) free))))

  -- the range of a row is claimed, unless that is still to be set
  abbrev Unlisted : List ℕ → ℕ → List Step → Value → Type 0
  Unlisted touched row steps v = Contains touched row → ⊥

  limits-where : (lost : List ℕ) (limits : ℕ → Interval) (touched : List ℕ) (state : State)
      → ((row : ℕ) → Contains touched row → ValuesLie rows row (limits row) m) → StateWhere (Unlisted touched) lost state
      → StateWhere (Unlisted []) lost (with_limits limits touched state)
  limits-where lost limits [] state inside holds = holds
  limits-where lost limits (row ∷ touched) Dead inside holds = absurd holds
  limits-where lost limits (row ∷ touched) (Live known) inside holds =
      limits-where lost limits touched (with_range row (limits row) (Live known)) (λ other listed. inside other (in-tail row other touched listed))
      (range-where rows m (Unlisted (row ∷ touched)) (Unlisted touched) lost known row (limits row)
      (λ steps v of_row there free. inside row (at-head row touched) steps v of_row there)
      (λ other steps v differ free listed. ⊎_elim (λ same. differ (sym same)) free (head-or_tail row other touched listed)) holds)

  all_forgotten-where : (Claimed : ℕ → List Step → Value → Type 0) (lost : List ℕ) (state : State) → StateWhere Claimed lost state
      → StateWhere Claimed [] (all_forgotten lost state)
  all_forgotten-where Claimed [] state holds = holds
  all_forgotten-where Claimed (root ∷ lost) Dead holds = absurd holds
  all_forgotten-where Claimed (root ∷ lost) (Live known) holds =
      all_forgotten-where Claimed lost (with_forgotten root (Live known)) (forgotten-where rows m Claimed lost known root holds)

  listed-all : (state : State) → StateWhere (Unlisted []) [] state → StateHolds rows state m
  listed-all Dead holds = holds
  listed-all (Live known) holds = where-all rows m (Unlisted []) (λ row steps v listed. in-none row listed) known holds

  -- ---- claims

  pub range-lies : (state : State) (row : ℕ) → StateHolds rows state m → ValuesLie rows row (range_of state row) m
  range-lies Dead row holds = absurd holds
  range-lies (Live known) row holds = holds.ranges row

  pub claim-holds : (claim : Claim) (state : State) → Holds rows claim m → StateHolds rows state m → StateHolds rows (with_claim claim state) m
  claim-holds (Range row range) state so holds =
      range-holds rows m state row (common (range_of state row) range)
      (λ steps v of_row there. common-in (range_of state row) range v (range-lies state row holds steps v of_row there) (so steps v of_row there)) holds
  claim-holds (Defined row) state so holds = defined-holds rows m state row so holds
  claim-holds (Holding one) state so holds = held-holds rows m state one so holds

  pub claims-hold : (claims : List Claim) (state : State) → All (λ claim. Holds rows claim m) claims → StateHolds rows state m
      → StateHolds rows (with_claims claims state) m
  claims-hold [] state all holds = holds
  claims-hold (claim ∷ claims) state all holds =
      let P = λ (claim : Claim). Holds rows claim m in
      claims-hold claims (with_claim claim state) (All-tail P claim claims all) (claim-holds claim state (All-head P claim claims all) holds)

-- claims that a state gives hold
pub given-all : (rows : List Parts) (table : Table) → AreRows rows table → (env : Environment) (state : State) (store : Store) (claims : List Claim)
    → HoldNumbers table.ordinal (moment env store) → Knows rows table.variables env state store → gives_all table state claims ≡ true
    → All (λ claim. Holds rows claim (moment env store)) claims
given-all rows table are env state store [] numbers known is = All-nil (λ claim. Holds rows claim (moment env store))
given-all rows table are env state store (claim ∷ claims) numbers known is =
    let parts = and_parts (state_gives table state claim) (gives_all table state claims) is in
    All-cons (λ claim. Holds rows claim (moment env store)) claim claims (given-holds rows table are env state store claim numbers known parts.0)
    (given-all rows table are env state store claims numbers known parts.1)

-- ---- the head

module _ (rows : List Parts) (table : Table) (are : AreRows rows table) (env : Environment) (limits : ℕ → Interval) (roots touched controls : List ℕ)
    (before after : Store) (kept : IsKept env roots controls before after) (untouched : AreUntouched rows env touched before after)
    (entire : AreEntire rows table.variables controls) (inside : InLimits rows limits touched env after) where
  abbrev After : Moment
  After = moment env after

  stays : StaysDefined rows (moment env before) After
  stays row steps index of_row first has =
      ⊎_elim
      (λ (within : row < table.variables).
      let own = subst (λ (parts : Parts). Contains parts.components steps) (are.own row within) of_row in
      let whole : [] ≡ steps = ⊎_elim (λ same. same) (λ none. absurd (in-none steps none)) (head-or_tail [] steps [] own) in
      absurd (none-some index (ap first_index whole ∙ first)))
      (λ (beyond : table.variables ≤ row). kept.defined (get_or rows row no_parts).root (entire row steps beyond of_row) steps has)
      (cases_lt row table.variables)

  -- a row whose variable isn't forgotten
  free-root : (row : ℕ) (steps : List Step) → IsOfRow rows row steps → is_among row controls ≡ false → is_among (get_or rows row no_parts).root controls ≡ false
  free-root row steps of_row free =
      ⊎_elim
      (λ (within : row < table.variables). subst (λ root. is_among root controls ≡ false) (sym (root-own rows table are After row within)) free)
      (λ (beyond : table.variables ≤ row). entire row steps beyond of_row) (cases_lt row table.variables)

  turned : (state : State) → StateHolds rows state (moment env before) → StateHolds rows (after_turns limits roots touched controls state) After
  turned Dead holds = absurd holds
  turned (Live known) holds =
      let changed_state = all_changed roots (Live known) in
      listed-all rows After (after_turns limits roots touched controls (Live known))
      (all_forgotten-where rows After (Unlisted rows After []) controls (with_limits limits touched changed_state)
      (limits-where rows After controls limits touched changed_state (λ row listed steps v of_row there. inside row steps v listed of_row there)
      (changed-where rows After (Unlisted rows After touched) controls roots known holds.count
      (λ row. record {
        range = λ steps v of_row there free. holds.ranges row steps v of_row (untouched row steps v free of_row there);
        defined = λ free is steps of_row.
            kept.defined (get_or rows row no_parts).root (free-root row steps of_row free) steps (holds.defined row is steps of_row);
      })
      (λ root free. growth-stays env before after root (row_at known root).growth (λ n has. sym (kept.values root free []) ∙ has) (holds.growths root))
      (λ one listed free.
      held-stays (moment env before) After roots (λ root n apart has. kept.values root apart [] ∙ has) rows stays one free (holds.held one listed)))))

pub heads-hold : HeadsHold
heads-hold rows table are env limits roots touched controls claims state before after kept untouched entire inside all known = record {
  shows = known.shows;
  holds = claims-hold rows (moment env after) claims (after_turns limits roots touched controls state) all
      (turned rows table are env limits roots touched controls before after kept untouched entire inside state known.holds);
}

-- what is known after turns, of which nothing is claimed
pub turned-known : (rows : List Parts) (table : Table) → AreRows rows table
    → (env : Environment) (limits : ℕ → Interval) (roots touched controls : List ℕ) (state : State) (before after : Store)
    → IsKept env roots controls before after → AreUntouched rows env touched before after → AreEntire rows table.variables controls
    → InLimits rows limits touched env after → Knows rows table.variables env state before
    → Knows rows table.variables env (after_turns limits roots touched controls state) after
turned-known rows table are env limits roots touched controls state before after kept untouched entire inside known =
    heads-hold rows table are env limits roots touched controls [] state before after kept untouched entire inside
    (All-nil (λ claim. Holds rows claim (moment env after))) known

-- ---- behind a loop

replaced-holds : (rows : List Parts) (m : Moment) (state : State) (root : ℕ) (bound : Option Bound) (x : ℤ) → HasNumber m root x
    → ((b : Bound) → bound ≡ Some b → IsBound m b x) → StateHolds rows state m → StateHolds rows (replaced root bound state) m
replaced-holds rows m state root None x has at holds = holds
replaced-holds rows m Dead root (Some own) x has at holds = holds
replaced-holds rows m (Live known) root (Some own) x has at holds = record {
  count = holds.count;
  ranges = holds.ranges;
  defined = holds.defined;
  growths = holds.growths;
  held = with_more-each (λ one. HeldHolds rows one m) (filter_map (in_place root own) known.held) []
      (λ one inside.
      let (old, listed, became) = in-filter_map (in_place root own) known.held one inside in
      placed-holds m root own x has (at own refl) rows old one became (holds.held old listed)) (λ one none. absurd (in-none one none));
}

pub replaced-known : (rows : List Parts) (roots : ℕ) (env : Environment) (state : State) (store : Store) (root : ℕ)
    (bound : Option Bound) (x : ℤ) → HasNumber (moment env store) root x
    → ((b : Bound) → bound ≡ Some b → IsBound (moment env store) b x) → Knows rows roots env state store
    → Knows rows roots env (replaced root bound state) store
replaced-known rows roots env state store root bound x has at known = record {
  shows = known.shows;
  holds = replaced-holds rows (moment env store) state root bound x has at known.holds;
}
