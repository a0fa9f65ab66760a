-- Where two ways meet: what is known row by row, and what is held, is what is known behind both.
use Rattle.std.proofs.Common.{arith, ◌≡◌, ◌⊎◌, ⊎_elim, inl, inr, ◌∙◌, sym, ap, ap₂, refl, subst, ℕ, ℤ, zero, suc, ◌<◌, Bool, true, false, cond, ◌&&◌, ◌||◌}
use Rattle.std.proofs.Common.{Option, None}
use Rattle.std.proofs.Common.{int_lt}
use Rattle.std.proofs.Common.{List, [], ◌∷◌, ◌++◌, filter, get_or, length, map, max, set}
use Rattle.std.specs.List.{Contains, range_with_len}
use Rattle.std.proofs.Math.ListN.{get_or-map}
use Rattle.std.proofs.lemmas.Bool.{cases_eq}
use Rattle.std.proofs.lemmas.List.{get_or-set_other, get_or-set_same, length-map, length-set}
use Rattle.std.proofs.lemmas.List.Elements.{Contains-append_left, Contains-append_right}
use Rattle.std.proofs.lemmas.List.FromFn.{fill_by_all}
use Rattle.typed_tree.specs.declared.tree.Tree.{Tree}
use Rattle.domain.specs.Interval.{Interval, is_vacant, joined}
use Rattle.std.specs.Int.{int_min, int_max}
use Rattle.checker_state.specs.declared.held.Held.{Held as KeptHeld}
use Rattle.checker_known.specs.declared.told.Told.{Told}
use Rattle.checker_known.specs.declared.knowledge.Row.{Row}
use Rattle.checker_trail.specs.declared.state.State.{State as Kept}
use Rattle.checker_known.specs.declared.change.Branch.{Branch}
use Rattle.checker_known.specs.declared.change.Change.{Change}
use Rattle.checker_known.specs.declared.change.Change.TheVariants as change
use Rattle.checker_state.specs.declared.growing.Growing.{Growing}
use Rattle.checker_state.specs.Growths.{joined_growth}
use Rattle.checker_state.specs.Joins.{joined_facts, joined_row, joined_states}
use Rattle.checker_state.proofs.Grown.{joined-itself}
use Rattle.checker_trail.specs.Meets.{AreAlike, Joined, Joins, JoinsBehind, with_rows}
use Rattle.checker_known.specs.Told.{AreTold, arrival_at, joined_at, none, rows_changed, said_at}
use Rattle.checker_state.specs.State.{Dead, Facts, Held, Live, RowState, State, Table, gives, is_whole, no_row, row_at, with_more}
use Rattle.checker_trail.specs.Trail.{Comes, EndsAt, TrailGoes, TrailLeaves, Moves, over_held, seen}
use Rattle.checker_known.specs.Knowledge.{Core, core, kept_by, made, redone, seen_core, viewed}
use Rattle.checker_trail.specs.Trail.{with_state}
use Rattle.checker_known.specs.View.{said_row}
use Rattle.checker_state.specs.State.{table_of}
use Rattle.checker_known.proofs.HeldLists.{kept-filter, said_all}
use Rattle.checker_trail.proofs.Ways.{ends-from, goes-back, goes-then, moves-as, moves-then, seen-dead, seen-live}

-- ---- rows, one after another

-- what a list has behind its first item
later : (first : ℕ) (numbers : List ℕ) (number : ℕ) → (number ≡ first → ⊥) → Contains (first ∷ numbers) number → Contains numbers number
later first numbers number differs (zero, within, is) = absurd (differs (sym is))
later first numbers number differs (suc place, within, is) = (place, omega arith, is)

module _ (state : ℕ → RowState) where
  -- rows become what they are to be
  abbrev pub settled : List ℕ → List RowState → List RowState
  settled [] rows = rows
  settled (row ∷ numbers) rows = settled numbers (set rows row (state row))

  abbrev Done : List RowState → ℕ → Type 0
  Done rows row = get_or rows row no_row ≡ state row

  same-count : (numbers : List ℕ) (rows : List RowState) → length (settled numbers rows) ≡ length rows
  same-count [] rows = refl
  same-count (number ∷ numbers) rows = same-count numbers (set rows number (state number)) ∙ length-set rows number (state number)

  each-done : (numbers : List ℕ) (rows : List RowState) (row : ℕ) → row < length rows → Contains numbers row ⊎ Done rows row
      → Done (settled numbers rows) row
  each-done [] rows row within known = ⊎_elim (λ listed. absurd (omega (arith, listed.1))) (λ done. done) known
  each-done (number ∷ numbers) rows row within known =
      let still : row < length (set rows number (state number)) = omega (arith, within, length-set rows number (state number)) in
      each-done numbers (set rows number (state number)) row still
      (⊎_elim
      (λ (same : row ≡ number).
      inr (rw same (get_or-set_same rows number (state number) no_row (rw same at within))))
      (λ differs.
      ⊎_elim (λ listed. inl (later number numbers row differs listed))
      (λ done. inr (get_or-set_other rows number row (state number) no_row differs ∙ done)) known)
      (cases_eq row number))

  pub all-settled : (numbers : List ℕ) (count : ℕ) (start : List RowState) → length start ≡ count
      → ((row : ℕ) → row < count → Contains numbers row ⊎ Done start row)
      → settled numbers start ≡ map state (range_with_len 0 count)
  all-settled numbers count start many known =
      fill_by_all state (settled numbers start) count no_row (same-count numbers start ∙ many)
      (λ row within. each-done numbers start row (omega (arith, many)) (known row within))

-- rows that are set are settled
pub with-settled : (state : ℕ → RowState) (numbers : List ℕ) (rows : List (ℕ × Row)) (facts : Facts)
    → map said_at rows ≡ map (λ (row : ℕ). let one : ℕ × RowState = (row, state row) in one) numbers
    → with_rows rows (Live facts) ≡ Live (record facts { rows = settled state numbers facts.rows })
with-settled state [] [] facts same = refl
with-settled state [] (one ∷ rows) facts same = absurd (cc)
with-settled state (number ∷ numbers) [] facts same = absurd (cc)
with-settled state (number ∷ numbers) (one ∷ rows) facts same =
    let first : said_at one ≡ (number, state number) = cc in
    let rest : map said_at rows ≡ map (λ (row : ℕ). let one : ℕ × RowState = (row, state row) in one) numbers = cc in
    ap (λ (p : ℕ × RowState). with_rows rows (Live (record facts { rows = set facts.rows p.0 p.1 }))) first
    ∙ with-settled state numbers rows (record facts { rows = set facts.rows number (state number) }) rest

pub rows-append : (rows : List (ℕ × Row)) (one : ℕ × Row) (state : State)
    → with_state one.0 (said_row one.1) (with_rows rows state) ≡ with_rows (rows ++ one ∷ []) state
rows-append [] one state = refl
rows-append (first ∷ rows) one state = rows-append rows one (with_state first.0 (said_row first.1) state)

-- ---- a row that is the same on both ways

cond-alike : {A : Type 0} (b : Bool) (x : A) → cond b x x ≡ x
cond-alike true x = refl
cond-alike false x = refl

either-alike : (b : Bool) (range both : Interval) → both ≡ range → cond b range (cond b range both) ≡ range
either-alike true range both is = refl
either-alike false range both is = is

joined-same : (range : Interval) → joined range range ≡ range
joined-same range =
    either-alike (is_vacant range) range (record { first = int_min range.first range.first; last = int_max range.last range.last })
    (ap₂ (λ (first last : ℤ). record { first = first; last = last })
    (cond-alike (int_lt range.first range.first) range.first) (cond-alike (int_lt range.last range.last) range.last))

whole-alike : (one other x y : Bool) → one ≡ other → ((one && (other || x)) || (other && (one || y))) ≡ one
whole-alike true true x y same = refl
whole-alike false false x y same = refl
whole-alike true false x y same = absurd (cc)
whole-alike false true x y same = absurd (cc)

abbrev state_of : Interval → Bool → Option Growing → RowState
state_of range is_defined growth = record { range = range; is_defined = is_defined; growth = growth }

alike-joined : (table : Table) (one other : Facts) (row : ℕ) → row_at one row ≡ row_at other row → row_at one row ≡ joined_row table one other row
alike-joined table one other row same =
    let range =
    ap (λ (s : RowState). joined (row_at one row).range s.range) (sym same) ∙ joined-same (row_at one row).range in
    let whole = whole-alike (row_at one row).is_defined (row_at other row).is_defined _ _ (ap (λ (s : RowState). s.is_defined) same) in
    let growth =
    ap (λ (s : RowState). joined_growth (row_at one row).growth s.growth) (sym same) ∙ joined-itself (row_at one row).growth in
    sym (λ i. state_of (range i) (whole i) (growth i))

-- ---- two ways from a start

-- a change leaves each row as it is but its own
module _ (row : ℕ) where
  abbrev Same : Core → Core → Type 0
  Same one other = get_or one.rows row none ≡ get_or other.rows row none

  pub rows-kept : (changes : List Change) (from : Core) → Contains (rows_changed changes) row ⊎ Same from (redone changes from)
  rows-kept [] from = inr refl
  rows-kept (change.Row own was now ∷ changes) from =
      ⊎_elim (λ (same : row ≡ own). inl (0, omega arith, sym same))
      (λ differs.
      ⊎_elim (λ listed. inl (Contains-append_right (own ∷ []) (rows_changed changes) row listed))
      (λ kept. inr (sym (get_or-set_other from.rows own row now none differs) ∙ kept))
      (rows-kept changes (made (change.Row own was now) from)))
      (cases_eq row own)
  rows-kept (change.Inserted place held ∷ changes) from = rows-kept changes (made (change.Inserted place held) from)
  rows-kept (change.Removed place held ∷ changes) from = rows-kept changes (made (change.Removed place held) from)
  rows-kept (change.Replaced place was now ∷ changes) from = rows-kept changes (made (change.Replaced place was now) from)
  rows-kept (change.Died ∷ changes) from = rows-kept changes (made change.Died from)
  rows-kept (change.Revived ∷ changes) from = rows-kept changes (made change.Revived from)

pub count-kept : (changes : List Change) (from : Core) → length (redone changes from).rows ≡ length from.rows
count-kept [] from = refl
count-kept (change.Row own was now ∷ changes) from =
    count-kept changes (made (change.Row own was now) from) ∙ length-set from.rows own now
count-kept (change.Inserted place held ∷ changes) from = count-kept changes (made (change.Inserted place held) from)
count-kept (change.Removed place held ∷ changes) from = count-kept changes (made (change.Removed place held) from)
count-kept (change.Replaced place was now ∷ changes) from = count-kept changes (made (change.Replaced place was now) from)
count-kept (change.Died ∷ changes) from = count-kept changes (made change.Died from)
count-kept (change.Revived ∷ changes) from = count-kept changes (made change.Revived from)

-- the ends of two ways from a start are alike but for the rows that they changed
pub ends-alike : (from one other : Core) (here there : List Change) → redone here from ≡ one → redone there from ≡ other
    → AreAlike (rows_changed here ++ rows_changed there) one other
ends-alike from one other here there one_is other_is = record {
  count =
      ap (λ (c : Core). length c.rows) (sym other_is) ∙ count-kept there from ∙ sym (count-kept here from)
      ∙ ap (λ (c : Core). length c.rows) one_is;
  each = λ row.
      ⊎_elim (λ listed. inl (Contains-append_left (rows_changed here) (rows_changed there) row listed))
      (λ first.
      ⊎_elim (λ listed. inl (Contains-append_right (rows_changed here) (rows_changed there) row listed))
      (λ second.
      inr (ap (λ (c : Core). get_or c.rows row none) (sym one_is) ∙ sym first ∙ second ∙ ap (λ (c : Core). get_or c.rows row none) other_is))
      (rows-kept row there from))
      (rows-kept row here from);
}

-- ---- what is known behind both

module _ (table : Table) (one there : Core) (rows : List ℕ) (told : Told) (are_told : AreTold table there one.held rows told)
    (alike : AreAlike rows one there) (more : List KeptHeld) (found : List (ℕ × Row))
    (more_are : said_all more ≡ filter (gives table (viewed one)) (said_all told.held.items))
    (found_are : map said_at found ≡ map (joined_at table (viewed one)) told.rows.items) where
  abbrev state : ℕ → RowState
  state = joined_row table (viewed one) (viewed there)

  pairs-are : (numbers : List ℕ)
      → map (joined_at table (viewed one)) (map (arrival_at table there) numbers)
      ≡ map (λ (row : ℕ). let pair : ℕ × RowState = (row, state row) in pair) numbers
  pairs-are [] = refl
  pairs-are (row ∷ numbers) =
      ap₂ (λ (s : RowState) (rest : List (ℕ × RowState)). let pair : ℕ × RowState = (
        row,
        record {
          range = joined (row_at (viewed one) row).range s.range;
          is_defined =
              ((row_at (viewed one) row).is_defined && is_whole table (viewed there) row)
              || (s.is_defined && is_whole table (viewed one) row);
          growth = joined_growth (row_at (viewed one) row).growth s.growth;
        },
      ) in pair ∷ rest)
      (sym (get_or-map said_row there.rows row none)) (pairs-are numbers)

  known-are : (held : List Held)
      → with_rows found (Live (record (viewed one) { held = held }))
      ≡ Live (record { rows = settled state rows (map said_row one.rows); held = held; rules = one.rules })
  known-are held =
      with-settled state rows found (record (viewed one) { held = held })
      (found_are ∙ ap (map (joined_at table (viewed one))) are_told.rows_are ∙ pairs-are rows)

  said-same : (row : ℕ) → get_or one.rows row none ≡ get_or there.rows row none → row_at (viewed one) row ≡ row_at (viewed there) row
  said-same row same =
      get_or-map said_row one.rows row none ∙ ap said_row same ∙ sym (get_or-map said_row there.rows row none)

  rows-are : settled state rows (map said_row one.rows) ≡ (joined_facts table (viewed one) (viewed there)).rows
  rows-are =
      let n = length (map said_row one.rows) in
      let one_count : n ≡ length one.rows = length-map one.rows said_row in
      let there_count : length (map said_row there.rows) ≡ length there.rows = length-map there.rows said_row in
      let count : n ≡ max n (length (map said_row there.rows)) = omega (arith, one_count, there_count, alike.count) in
      all-settled state rows n (map said_row one.rows) refl
      (λ row within.
      ⊎_elim (λ listed. inl listed)
      (λ same. inr (alike-joined table (viewed one) (viewed there) row (said-same row same))) (alike.each row))
      ∙ ap (λ (k : ℕ). map state (range_with_len 0 k)) count

  held-are : with_more (said_all more) (kept_by told.kept.items (said_all one.held)) ≡ (joined_facts table (viewed one) (viewed there)).held
  held-are =
      ap₂ (λ (some left : List Held). with_more some left) more_are
      (ap (λ (flags : List Bool). kept_by flags (said_all one.held)) are_told.kept_are ∙ kept-filter (gives table (viewed there)) (said_all one.held))
      ∙ are_told.held_are (gives table (viewed one))

  pub both-known : with_rows found (over_held (with_more (said_all more)) (over_held (kept_by told.kept.items) (Live (viewed one))))
      ≡ Live (joined_facts table (viewed one) (viewed there))
  both-known =
      known-are (with_more (said_all more) (kept_by told.kept.items (said_all one.held)))
      ∙ ap₂ (λ (all : List RowState) (held : List Held). Live (record { rows = all; held = held; rules = one.rules })) rows-are held-are

pub core-live : (from : Core) → from.is_dead ≡ false → seen_core from ≡ Live (viewed from)
core-live from is = ap (λ (dead : Bool). cond dead Dead (Live (viewed from))) is

-- what is told of both ways is known behind them
pub settle-moves : {a b c d : Kept} (there : Core) (rows : List ℕ) (told : Told) (flags : List Bool) (more there_more : List KeptHeld)
    (found there_found : List (ℕ × Row)) → a.known.is_dead ≡ false → there.is_dead ≡ false
    → AreTold (table_of a.table.now) there a.known.held.items rows told → AreAlike rows (core a.known) there
    → said_all more ≡ filter (gives (table_of a.table.now) (viewed (core a.known))) (said_all told.held.items)
    → map said_at found ≡ map (joined_at (table_of a.table.now) (viewed (core a.known))) told.rows.items
    → flags ≡ told.kept.items → there_more ≡ more → there_found ≡ found
    → Moves (over_held (kept_by flags)) a b → Moves (over_held (with_more (said_all there_more))) b c → Moves (with_rows there_found) c d
    → Moves (λ state. joined_states (table_of a.table.now) state (seen_core there)) a d
settle-moves {a = a} there rows told flags more there_more found there_found live there_live are_told alike more_are
    found_are flags_are same_more same_found retained held set =
    let table = table_of a.table.now in
    let one = core a.known in
    moves-as (λ state. joined_states table state (seen_core there)) (moves-then (moves-then retained held) set)
    (ap (λ (state : State). with_rows there_found (over_held (with_more (said_all there_more)) (over_held (kept_by flags) state))) (seen-live a live)
    ∙ ap (λ (some : List Bool). with_rows there_found (over_held (with_more (said_all there_more)) (over_held (kept_by some) (Live (viewed one))))) flags_are
    ∙ ap₂ (λ (all : List KeptHeld) (pairs : List (ℕ × Row)). with_rows pairs
    (over_held (with_more (said_all all)) (over_held (kept_by told.kept.items) (Live (viewed one)))))
    same_more same_found
    ∙ both-known table one there rows told are_told alike more found more_are found_are
    ∙ ap₂ (λ (first second : State). joined_states table first second) (sym (seen-live a live)) (sym (core-live there there_live)))

-- ---- the ways to there

-- where a state has gone to the end of the other way and back
pub record There (start s0 s2 s4 : Kept) (end : Core) (here : Branch) : Type 0 where
  pub other_core : core s2.known ≡ end
  pub other_table : s2.table.now ≡ s0.table.now
  pub own_core : core s4.known ≡ core s0.known
  pub own_table : s4.table.now ≡ s0.table.now
  pub from_start : redone here.changes.items (core start.known) ≡ core s0.known
  pub goes : TrailGoes start s4

pub been-there : {start s0 s1 s2 s3 s4 : Kept} (end : Core) (here there other : Branch) → TrailGoes start s0 → EndsAt (core start.known) other end
    → TrailLeaves start s0 s1 here → ((end : Core) → EndsAt (core s1.known) other end → Comes end s1 s2)
    → (TrailGoes start s2 → TrailLeaves start s2 s3 there) → ((end : Core) → EndsAt (core s3.known) here end → Comes end s3 s4)
    → s1.refused ≡ None → s2.refused ≡ None → s3.refused ≡ None → s4.refused ≡ None → There start s0 s2 s4 end here
been-there {start = start} {s0 = s0} {s1 = s1} {s3 = s3} end here there other way ends leaves goes leaves_again goes_again long1 long2 long3 long4 =
    let first = leaves.unless_short long1 in
    let second = (goes end (ends-from (core s1.known) (core start.known) first.core_is ends)).unless_short long2 in
    let third = (leaves_again (goes-then (goes-back first) second.goes)).unless_short long3 in
    let fourth = (goes_again (core s0.known) (ends-from (core s3.known) (core start.known) third.core_is first.ends)).unless_short long4 in
    let back = goes-then (goes-back third) fourth.goes in
    record {
      other_core = second.core_is;
      other_table = second.goes.same_table ∙ first.same_table ∙ sym way.same_table;
      own_core = fourth.core_is;
      own_table = back.same_table ∙ sym way.same_table;
      from_start = first.ends.forth;
      goes = back;
    }

pub meet-joins : {start s0 s2 s4 s5 : Kept} (end : Core) (here other : Branch) (held : List KeptHeld) (told : Told) → There start s0 s2 s4 end here
    → s0.refused ≡ None → s0.known.is_dead ≡ false → end.is_dead ≡ false → EndsAt (core start.known) other end → held ≡ s0.known.held.items
    → AreTold (table_of s2.table.now) (core s2.known) held (rows_changed here.changes.items ++ rows_changed other.changes.items) told
    → ((there : Core) (rows : List ℕ) → s4.known.is_dead ≡ false → there.is_dead ≡ false
    → AreTold (table_of s4.table.now) there s4.known.held.items rows told → AreAlike rows (core s4.known) there
    → Moves (λ state. joined_states (table_of s4.table.now) state (seen_core there)) s4 s5)
    → s5.refused ≡ None → Joined start end s0 s5
meet-joins {start = start} {s0 = s0} {s2 = s2} {s4 = s4} {s5 = s5} end here other held told been long live end_live ends held_is are_told settles long5 =
    let rows = rows_changed here.changes.items ++ rows_changed other.changes.items in
    let same_held : held ≡ s4.known.held.items = held_is ∙ ap (λ (c : Core). c.held) (sym been.own_core) in
    let same_table : s2.table.now ≡ s4.table.now = been.other_table ∙ sym been.own_table in
    let told_there : AreTold (table_of s4.table.now) end s4.known.held.items rows told =
    subst (λ (t : Tree). AreTold (table_of t) end s4.known.held.items rows told) same_table
    (subst (λ (c : Core). AreTold (table_of s2.table.now) c s4.known.held.items rows told) been.other_core
    (subst (λ (h : List KeptHeld). AreTold (table_of s2.table.now) (core s2.known) h rows told) same_held are_told)) in
    let own_live : s4.known.is_dead ≡ false = ap (λ (c : Core). c.is_dead) been.own_core ∙ live in
    let alike : AreAlike rows (core s4.known) end =
    ends-alike (core start.known) (core s4.known) end here.changes.items other.changes.items (been.from_start ∙ sym been.own_core) ends.forth in
    let moved = (settles end rows own_live end_live told_there alike).unless_short long5 in
    record {
      was_long = long;
      seen_is =
          moved.seen_is
          ∙ ap₂ (λ (t : Tree) (state : State). joined_states (table_of t) state (seen_core end)) been.own_table (ap seen_core been.own_core);
      goes = goes-then been.goes moved.goes;
    }

-- ---- where no run comes to the end of one

joined-dead : (table : Table) (state : State) → state ≡ joined_states table state Dead
joined-dead table Dead = refl
joined-dead table (Live facts) = refl

pub other-dead : {start state : Kept} (end : Core) (other : Branch) → TrailGoes start state → EndsAt (core start.known) other end → other.is_dead ≡ true
    → Joins start end state state
other-dead {state = state} end other way ends dead = record {
  unless_short = λ long. record {
    was_long = long;
    seen_is =
        joined-dead (table_of state.table.now) (seen state)
        ∙ sym (ap (λ (b : Bool). joined_states (table_of state.table.now) (seen state) (cond b Dead (Live (viewed end)))) (sym ends.dead_is ∙ dead));
    goes = way;
  };
}

pub own-dead : {start s0 s1 s2 : Kept} (end : Core) (here other : Branch) → TrailGoes start s0 → EndsAt (core start.known) other end
    → s0.known.is_dead ≡ true → TrailLeaves start s0 s1 here → ((end : Core) → EndsAt (core s1.known) other end → Comes end s1 s2)
    → (s2.refused ≡ None → s1.refused ≡ None) → Joins start end s0 s2
own-dead {start = start} {s0 = s0} {s1 = s1} end here other way ends dead leaves goes chain = record {
  unless_short = λ long.
      let first = leaves.unless_short (chain long) in
      let second = (goes end (ends-from (core s1.known) (core start.known) first.core_is ends)).unless_short long in
      record {
        was_long = first.was_long;
        seen_is =
            ap seen_core second.core_is
            ∙ sym (ap (λ (state : State). joined_states (table_of s0.table.now) state (seen_core end)) (seen-dead s0 dead));
        goes = goes-then (goes-back first) second.goes;
      };
}

-- ---- where the other way was walked before

pub joins-behind : {start s0 s1 s2 s3 : Kept} (end : Core) (here other : Branch) → TrailGoes start s0 → EndsAt (core start.known) other end
    → TrailLeaves start s0 s1 here → ((end : Core) → EndsAt (core s1.known) other end → Comes end s1 s2)
    → (TrailGoes start s2 → EndsAt (core start.known) here (core s0.known) → Joins start (core s0.known) s2 s3)
    → (s2.refused ≡ None → s1.refused ≡ None) → (s3.refused ≡ None → s2.refused ≡ None) → JoinsBehind start end s0 s3
joins-behind {start = start} {s0 = s0} {s1 = s1} {s2 = s2} end here other way ends leaves goes joins long1 long2 = record {
  unless_short = λ long.
      let first = leaves.unless_short (long1 (long2 long)) in
      let second = (goes end (ends-from (core s1.known) (core start.known) first.core_is ends)).unless_short (long2 long) in
      let back = goes-then (goes-back first) second.goes in
      let third = (joins back first.ends).unless_short long in
      record {
        was_long = first.was_long;
        seen_is =
            third.seen_is
            ∙ ap₂ (λ (t : Tree) (c : Core). joined_states (table_of t) (seen_core c) (seen s0)) (back.same_table ∙ sym way.same_table) second.core_is;
        goes = third.goes;
      };
}
