-- What the end of a way tells, one after another.
use Rattle.std.proofs.Common.{◌≡◌, ◌∙◌, sym, ap, ap₂, ℕ, ◌+◌, ◌<◌, Bool, true, false, cond, List, [], ◌∷◌, ◌++◌, append_assoc, append-nil, filter}
use Rattle.std.proofs.Common.{get_or, length, map, take}
use Rattle.std.proofs.lemmas.Grind.{flat_map-append}
use Rattle.std.proofs.lemmas.List.{map-append, take_more}
use Rattle.std.proofs.lemmas.List.Elements.{filter-append}
use Rattle.checker_state.specs.declared.held.Held.{Held as KeptHeld}
use Rattle.checker_known.specs.declared.told.Arrival.{Arrival}
use Rattle.checker_known.specs.declared.knowledge.Row.{Row}
use Rattle.checker_known.specs.declared.change.Change.{Change}
use Rattle.checker_known.specs.Told.{arrival_at, joined_at, row_changed, rows_changed, said_at}
use Rattle.checker_state.specs.State.{Facts, Held, RowState, Table}
use Rattle.checker_known.specs.Knowledge.{Core}
use Rattle.checker_state.specs.View.{said_held}
use Rattle.checker_known.specs.View.{said_row}
use Rattle.checker_known.proofs.HeldLists.{said_all}
use Rattle.checker_state.proofs.HeldOrders.{no_held}

-- ---- tests of what is held

said-more : (held : List KeptHeld) (i : ℕ) → i < length held
    → said_all (take (i + 1) held) ≡ said_all (take i held) ++ said_held (get_or held i no_held) ∷ []
said-more held i inside =
    ap said_all (take_more held i no_held inside) ∙ map-append said_held (take i held) (get_or held i no_held ∷ [])

pub tests-more : (test : Held → Bool) (held : List KeptHeld) (i : ℕ) (kept new : List Bool) (b : Bool) → i < length held
    → kept ≡ map test (said_all (take i held)) → new ≡ kept ++ b ∷ [] → b ≡ test (said_held (get_or held i no_held))
    → new ≡ map test (said_all (take (i + 1) held))
tests-more test held i kept new b inside so_far new_is is =
    let one = said_held (get_or held i no_held) in
    new_is ∙ ap₂ (λ (front : List Bool) (last : Bool). front ++ last ∷ []) so_far is
    ∙ sym (map-append test (said_all (take i held)) (one ∷ [])) ∙ sym (ap (map test) (said-more held i inside))

module _ (test : Held → Bool) (held : List KeptHeld) (i : ℕ) (inside : i < length held) where
  filter-more : filter test (said_all (take (i + 1) held))
      ≡ filter test (said_all (take i held)) ++ cond (test (said_held (get_or held i no_held))) (said_held (get_or held i no_held) ∷ []) []
  filter-more =
      ap (filter test) (said-more held i inside) ∙ filter-append test (said_all (take i held)) (said_held (get_or held i no_held) ∷ [])

  pub given-more : (found new : List KeptHeld) → said_all found ≡ filter test (said_all (take i held))
      → new ≡ found ++ get_or held i no_held ∷ [] → test (said_held (get_or held i no_held)) ≡ true
      → said_all new ≡ filter test (said_all (take (i + 1) held))
  given-more found new so_far new_is passes =
      let one = said_held (get_or held i no_held) in
      ap said_all new_is ∙ map-append said_held found (get_or held i no_held ∷ []) ∙ ap (λ (front : List Held). front ++ one ∷ []) so_far
      ∙ ap (λ (b : Bool). filter test (said_all (take i held)) ++ cond b (one ∷ []) []) (sym passes) ∙ sym filter-more

  pub given-same : (found : List KeptHeld) → said_all found ≡ filter test (said_all (take i held))
      → test (said_held (get_or held i no_held)) ≡ false → said_all found ≡ filter test (said_all (take (i + 1) held))
  given-same found so_far fails =
      let one = said_held (get_or held i no_held) in
      so_far ∙ sym (append-nil (filter test (said_all (take i held))))
      ∙ ap (λ (b : Bool). filter test (said_all (take i held)) ++ cond b (one ∷ []) []) (sym fails) ∙ sym filter-more

-- ---- rows that were changed

pub arrive-more : (table : Table) (there : Core) (changes : List Change) (i : ℕ) (one : Change) (before rows new : List Arrival) → i < length changes
    → one ≡ get_or changes i one → rows ≡ before ++ map (arrival_at table there) (rows_changed (take i changes))
    → new ≡ rows ++ map (arrival_at table there) (row_changed one)
    → new ≡ before ++ map (arrival_at table there) (rows_changed (take (i + 1) changes))
arrive-more table there changes i one before rows new inside is so_far new_is =
    let at = arrival_at table there in
    let some = rows_changed (take i changes) in
    let more : rows_changed (take (i + 1) changes) ≡ some ++ row_changed one =
    ap rows_changed (take_more changes i one inside)
    ∙ flat_map-append row_changed (take i changes) (get_or changes i one ∷ [])
    ∙ ap (λ (last : Change). some ++ rows_changed (last ∷ [])) (sym is)
    ∙ ap (λ (last : List ℕ). some ++ last) (append-nil (row_changed one)) in
    new_is ∙ ap (λ (front : List Arrival). front ++ map at (row_changed one)) so_far
    ∙ append_assoc before (map at some) (map at (row_changed one))
    ∙ ap (λ (back : List Arrival). before ++ back) (sym (map-append at some (row_changed one)) ∙ sym (ap (map at) more))

-- those of both ways
pub both-arrived : (table : Table) (there : Core) (one other one_there other_there : List Change) (none first rows : List Arrival) → none ≡ []
    → first ≡ none ++ map (arrival_at table there) (rows_changed one_there) → rows ≡ first ++ map (arrival_at table there) (rows_changed other_there)
    → one_there ≡ one → other_there ≡ other → rows ≡ map (arrival_at table there) (rows_changed one ++ rows_changed other)
both-arrived table there one other one_there other_there none first rows none_is first_is rows_is one_is other_is =
    let at = arrival_at table there in
    rows_is
    ∙ ap₂ (λ (front : List Arrival) (changes : List Change). front ++ map at (rows_changed changes))
    (first_is ∙ ap₂ (λ (front : List Arrival) (changes : List Change). front ++ map at (rows_changed changes)) none_is one_is) other_is
    ∙ sym (map-append at (rows_changed one) (rows_changed other))

pub joined-more : (table : Table) (one : Facts) (rows : List Arrival) (i : ℕ) (other : Arrival) (found new : List (ℕ × Row)) (known : Row)
    → i < length rows → other ≡ get_or rows i other → map said_at found ≡ map (joined_at table one) (take i rows)
    → new ≡ found ++ (other.row, known) ∷ [] → said_row known ≡ (joined_at table one other).1
    → map said_at new ≡ map (joined_at table one) (take (i + 1) rows)
joined-more table one rows i other found new known inside is so_far new_is known_is =
    let at = joined_at table one in
    ap (map said_at) new_is ∙ map-append said_at found ((other.row, known) ∷ [])
    ∙ ap₂ (λ (front : List (ℕ × RowState)) (state : RowState). front ++ (other.row, state) ∷ []) so_far known_is
    ∙ ap (λ (last : Arrival). map at (take i rows) ++ at last ∷ []) is
    ∙ sym (map-append at (take i rows) (get_or rows i other ∷ [])) ∙ sym (ap (map at) (take_more rows i other inside))
