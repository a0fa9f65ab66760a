-- A way that is made shorter leads to what was known at its end.
use Rattle.std.proofs.Common.{arith, ◌≡◌, ⊎_elim, inl, inr, ◌∙◌, sym, ap, ap₂, refl, ℕ, ◌+◌, ◌-◌, ◌<◌, Bool, true, false, cond, None}
use Rattle.std.proofs.Common.{List, [], ◌∷◌, ◌++◌, append-nil, get_or, length, map, take, drop}
use Rattle.std.proofs.Math.ListN.{get_or-map}
use Rattle.std.proofs.lemmas.Grind.{flat_map-append}
use Rattle.std.proofs.lemmas.List.{drop_at, length-drop, length-map, map-append, take_all, take_more}
use Rattle.std.proofs.lemmas.List.FromFn.{fill_by_all}
use Rattle.domain.specs.declared.versions.Version.{Version}
use Rattle.checker_state.specs.declared.held.Held.{Held as KeptHeld}
use Rattle.checker_known.specs.declared.knowledge.Row.{Row}
use Rattle.checker_known.specs.declared.change.Branch.{Branch}
use Rattle.checker_known.specs.declared.change.Change.{Change}
use Rattle.checker_known.specs.declared.change.Change.TheVariants as change
use Rattle.checker_known.specs.Knowledge.{Core, core, made, redone, seen_core, viewed}
use Rattle.checker_known.specs.Told.{none, row_changed, rows_changed, said_at}
use Rattle.checker_known.specs.View.{said_row}
use Rattle.checker_state.specs.State.{Dead, Facts, Held, Live, RowState, State, no_row, row_at}
use Rattle.checker_state.specs.View.{said_held}
use Rattle.checker_trail.specs.declared.state.State.{State as Kept}
use Rattle.checker_trail.specs.Meets.{Joins, with_rows}
use Rattle.checker_trail.specs.Shorter.{Goes, IsStraight, Shortens, at_row}
use Rattle.checker_trail.specs.Trail.{Moves, TrailGoes, TrailLeaves, over_held, seen}
use Rattle.checker_trail.proofs.Meeting.{all-settled, core-live, count-kept, rows-kept, settled, with-settled}
use Rattle.checker_trail.proofs.Ways.{goes-back, goes-then, left-seen, moves-then, seen-live}

-- ---- what is known of rows that are changed

pub values-more : (facts : Facts) (changes : List Change) (i : ℕ) (one : Change) (found new : List (ℕ × Row)) → i < length changes
    → one ≡ get_or changes i one → map said_at found ≡ map (at_row facts) (rows_changed (take i changes))
    → map said_at new ≡ map said_at found ++ map (at_row facts) (row_changed one)
    → map said_at new ≡ map (at_row facts) (rows_changed (take (i + 1) changes))
values-more facts changes i one found new inside is so_far new_is =
    let at = at_row facts in
    let some = rows_changed (take i changes) in
    let more : rows_changed (take (i + 1) changes) ≡ some ++ row_changed one =
    ap rows_changed (take_more changes i one inside)
    ∙ flat_map-append row_changed (take i changes) (get_or changes i one ∷ [])
    ∙ ap (λ (last : Change). some ++ rows_changed (last ∷ [])) (sym is)
    ∙ ap (λ (last : List ℕ). some ++ last) (append-nil (row_changed one)) in
    new_is ∙ ap (λ (front : List (ℕ × RowState)). front ++ map at (row_changed one)) so_far
    ∙ sym (map-append at some (row_changed one)) ∙ sym (ap (map at) more)

-- what stands on a trail from a mark on
pub trail-end : (all there : List Change) (mark : ℕ) → there ≡ all → take (length there - mark) (drop mark there) ≡ drop mark all
trail-end all there mark same =
    take_all (length there - mark) (drop mark there) (omega (arith, length-drop mark there)) ∙ ap (drop mark) same

-- ---- on another way

pub went : {f g h : State → State} {a b c d : Kept} → Moves f a b → Moves g b c → Moves h c d → Goes a d
went first second third = record {
  unless_short = λ long.
      let all = (moves-then (moves-then first second) third).unless_short long in
      record { was_long = all.was_long; goes = all.goes };
}

-- ---- what is known at the end

rules-kept : (changes : List Change) (from : Core) → (redone changes from).rules ≡ from.rules
rules-kept [] from = refl
rules-kept (change.Row own was now ∷ changes) from = rules-kept changes (made (change.Row own was now) from)
rules-kept (change.Inserted place held ∷ changes) from = rules-kept changes (made (change.Inserted place held) from)
rules-kept (change.Removed place held ∷ changes) from = rules-kept changes (made (change.Removed place held) from)
rules-kept (change.Replaced place was now ∷ changes) from = rules-kept changes (made (change.Replaced place was now) from)
rules-kept (change.Died ∷ changes) from = rules-kept changes (made change.Died from)
rules-kept (change.Revived ∷ changes) from = rules-kept changes (made change.Revived from)

module _ (start end : Core) (changes : List Change) (is : redone changes start ≡ end) where
  abbrev state : ℕ → RowState
  state = row_at (viewed end)

  rows-are : settled state (rows_changed changes) (map said_row start.rows) ≡ map said_row end.rows
  rows-are =
      let n = length (map said_row end.rows) in
      let count : length (map said_row start.rows) ≡ n =
      length-map start.rows said_row ∙ sym (count-kept changes start) ∙ ap (λ (c : Core). length c.rows) is
      ∙ sym (length-map end.rows said_row) in
      all-settled state (rows_changed changes) n (map said_row start.rows) count
      (λ row within.
      ⊎_elim (λ listed. inl listed)
      (λ same.
      inr (get_or-map said_row start.rows row none ∙ ap said_row (same ∙ ap (λ (c : Core). get_or c.rows row none) is)
      ∙ sym (get_or-map said_row end.rows row none)))
      (rows-kept row changes start))
      ∙ sym (fill_by_all state (map said_row end.rows) n no_row refl (λ row within. refl))

  at-end : (rows : List (ℕ × Row)) → map said_at rows ≡ map (at_row (viewed end)) (rows_changed changes)
      → over_held (λ _. map said_held end.held) (with_rows rows (Live (viewed start))) ≡ Live (viewed end)
  at-end rows same =
      ap (over_held (λ _. map said_held end.held)) (with-settled state (rows_changed changes) rows (viewed start) same)
      ∙ ap₂ (λ (all : List RowState) (rules : Version). Live (record { rows = all; held = map said_held end.held; rules = rules }))
      rows-are (sym (rules-kept changes start) ∙ ap (λ (c : Core). c.rules) is)

rows-dead : (rows : List (ℕ × Row)) → with_rows rows Dead ≡ Dead
rows-dead [] = refl
rows-dead (one ∷ rows) = rows-dead rows

-- a run comes to a start from which one goes on
live-start : (start : Core) (dead : Bool) → start.is_dead ≡ dead → (rows : List (ℕ × Row)) (held : List Held) (facts : Facts)
    → Live facts ≡ over_held (λ _. held) (with_rows rows (seen_core start)) → seen_core start ≡ Live (viewed start)
live-start start true is rows held facts same =
    let dead : seen_core start ≡ Dead = ap (λ (b : Bool). cond b Dead (Live (viewed start))) is in
    let bad : Live facts ≡ Dead =
    same ∙ ap (λ (s : State). over_held (λ _. held) (with_rows rows s)) dead ∙ ap (over_held (λ _. held)) (rows-dead rows) in
    absurd (cc)
live-start start false is rows held facts same = core-live start is

-- ---- a way that was made shorter, or wasn't

pub shortens : {start s0 s1 s2 : Kept} {here : Branch} (rows : List (ℕ × Row)) (held : List KeptHeld) (mark : ℕ) → mark ≡ length start.trail.items
    → s0.known.is_dead ≡ false → TrailGoes start s0
    → map said_at rows ≡ map (at_row (viewed (core s0.known))) (rows_changed (drop mark s0.trail.items)) → held ≡ s0.known.held.items
    → TrailLeaves start s0 s1 here → Goes s1 s2 → IsStraight rows held s1 s2 → Shortens start s0 s2
shortens {start = start} {s0 = s0} {s1 = s1} {s2 = s2} rows held mark marks live way rows_are held_are leaves goes is = record {
  unless_short = λ long.
      let moved = goes.unless_short long in
      let left = leaves.unless_short moved.was_long in
      let more_are : drop mark s0.trail.items ≡ way.more =
      ap₂ (λ (m : ℕ) (trail : List Change). drop m trail) marks way.trail_is
      ∙ drop_at start.trail.items way.more (length start.trail.items) refl in
      let rows_here : map said_at rows ≡ map (at_row (viewed (core s0.known))) (rows_changed way.more) =
      rows_are ∙ ap (λ (some : List Change). map (at_row (viewed (core s0.known))) (rows_changed some)) more_are in
      let seen_is : seen s2 ≡ over_held (λ _. map said_held s0.known.held.items) (with_rows rows (seen start)) =
      is.seen_is long
      ∙ ap₂ (λ (some : List KeptHeld) (s : State). over_held (λ _. map said_held some) (with_rows rows s)) held_are (left-seen left) in
      let begun : seen start ≡ Live (viewed (core start.known)) =
      live-start (core start.known) start.known.is_dead refl rows (map said_held s0.known.held.items) (viewed (core s2.known))
      (sym (seen-live s2 is.is_live) ∙ seen_is) in
      let back = goes-then (goes-back left) moved.goes in
      record {
        was_long = left.was_long;
        seen_is =
            seen_is ∙ ap (λ (s : State). over_held (λ _. map said_held s0.known.held.items) (with_rows rows s)) begun
            ∙ at-end (core start.known) (core s0.known) way.more way.forth rows rows_here ∙ sym (seen-live s0 live);
        same_table = back.same_table ∙ sym way.same_table;
        goes = back;
      };
}

-- ways that meet on a shorter way
pub joins-shorter : {start a b c : Kept} {end : Core} → Joins start end a b → (TrailGoes start b → Shortens start b c)
    → (c.refused ≡ None → b.refused ≡ None) → Joins start end a c
joins-shorter joins shorter long1 = record {
  unless_short = λ long.
      let joined = joins.unless_short (long1 long) in
      let short = (shorter joined.goes).unless_short long in
      record { was_long = joined.was_long; seen_is = short.seen_is ∙ joined.seen_is; goes = short.goes };
}
