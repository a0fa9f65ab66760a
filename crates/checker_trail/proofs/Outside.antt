-- Behind a for statement nothing grows with its turns: row by row, and where no variable grows so deep.
use Rattle.std.proofs.Common.{arith, ◌≡◌, ◌∙◌, sym, ap, ap₂, refl, ℕ, ◌+◌, ◌<◌, ◌≤◌, Bool, cond, List, [], ◌∷◌, ◌++◌, append-nil, drop, get_or, length}
use Rattle.std.proofs.Common.{map, nat_lt, take, Option, Some, None}
use Rattle.std.proofs.Math.Seq.{map-set_same}
use Rattle.std.proofs.lemmas.Bool.{cond_both}
use Rattle.std.proofs.lemmas.List.{drop_all, get_or_default, length-append, length-drop, length-map, length-take-le, take_all}
use Rattle.std.proofs.lemmas.List.Edits.{map_over_more}
use Rattle.checker_state.specs.declared.growing.Growing.{Growing}
use Rattle.checker_state.specs.Growths.{growing_outside, row_outside, without_turns}
use Rattle.checker_state.specs.State.{Dead, Facts, Live, RowState, State, no_row, row_at}
use Rattle.checker_known.specs.Knowledge.{core, viewed}
use Rattle.checker_known.specs.View.{said_row}
use Rattle.checker_trail.specs.declared.state.State.{State as Kept}
use Rattle.checker_trail.specs.Trail.{Moves, all_ungrown, at_outside, over_held, seen, with_growth_at}
use Rattle.checker_state.specs.declared.bound.Bound.{Bound as KeptBound}
use Rattle.checker_state.specs.declared.bound.Rebinding.TheVariants as rebinding
use Rattle.checker_state.specs.Changes.{with_change}
use Rattle.checker_state.specs.View.{held_by, said_form}
use Rattle.std.specs.List.{filter_map}
use Rattle.checker_trail.proofs.Ways.{moves-as, moves-stay, moves-then}

-- ---- a variable changed

pub changed-as : (root : ℕ) (form : Option KeptBound) (state : State)
    → over_held (filter_map (held_by (rebinding.Changed root form))) (with_growth_at root None state) ≡ with_change root (said_form form) state
changed-as root form Dead = refl
changed-as root form (Live facts) = refl

pub ungrown-append : (roots : List ℕ) (root : ℕ) (state : State)
    → with_growth_at root None (all_ungrown roots state) ≡ all_ungrown (roots ++ root ∷ []) state
ungrown-append [] root state = refl
ungrown-append (first ∷ roots) root state = ungrown-append roots root (with_growth_at first None state)

-- ---- variables, one after another

abbrev pub all_outside : (depth : ℕ) → List ℕ → State → State
all_outside depth [] state = state
all_outside depth (row ∷ rows) state = all_outside depth rows (at_outside depth row state)

pub outside-append : (depth : ℕ) (rows : List ℕ) (row : ℕ) (state : State)
    → at_outside depth row (all_outside depth rows state) ≡ all_outside depth (rows ++ row ∷ []) state
outside-append depth [] row state = refl
outside-append depth (first ∷ rows) row state = outside-append depth rows row (at_outside depth first state)

growing-twice : (depth : ℕ) (growth : Option Growing) → growing_outside depth (growing_outside depth growth) ≡ growing_outside depth growth
growing-twice depth None = refl
growing-twice depth (Some growing) =
    cond_both (nat_lt growing.depth depth) (Some growing) None (λ growth. growing_outside depth growth ≡ growth)
    (λ less. ap (λ (test : Bool). cond test (Some growing) None) less) (λ deeper. refl)

row-twice : (depth : ℕ) (row : RowState) → row_outside depth (row_outside depth row) ≡ row_outside depth row
row-twice depth row = ap (λ (growth : Option Growing). let one : RowState = record row { growth = growth } in one) (growing-twice depth row.growth)

one-stays : (depth row : ℕ) (state : State) → without_turns depth (at_outside depth row state) ≡ without_turns depth state
one-stays depth row Dead = refl
one-stays depth row (Live facts) =
    ap (λ (rows : List RowState). Live (record facts { rows = rows }))
    (map-set_same (row_outside depth) facts.rows row (row_outside depth (row_at facts row)) no_row (row-twice depth (row_at facts row)))

all-stay : (depth : ℕ) (rows : List ℕ) (state : State) → without_turns depth (all_outside depth rows state) ≡ without_turns depth state
all-stay depth [] state = refl
all-stay depth (row ∷ rows) state = all-stay depth rows (at_outside depth row state) ∙ one-stays depth row state

-- then all others
pub rest-moves : {a b c : Kept} (depth : ℕ) (rows : List ℕ) → Moves (all_outside depth rows) a b → Moves (without_turns depth) b c
    → Moves (without_turns depth) a c
rest-moves {a = a} depth rows first rest = moves-as (without_turns depth) (moves-then first rest) (all-stay depth rows (seen a))

-- ---- where no variable grows so deep

pub none-moves : {a b : Kept} (depth : ℕ) (rows : List ℕ) → map (row_outside depth) (viewed (core b.known)).rows ≡ (viewed (core b.known)).rows
    → Moves (all_outside depth rows) a b → Moves (without_turns depth) a b
none-moves {b = b} depth rows none moves =
    let facts = viewed (core b.known) in
    rest-moves depth rows moves
    (moves-stay (without_turns depth) b
    (cond_both b.known.is_dead Dead (Live facts) (λ (state : State). state ≡ without_turns depth state) (λ dead. refl)
    (λ live. ap (λ (rows : List RowState). Live (record facts { rows = rows })) (sym none))))

-- ---- all rows

-- the rows before one
abbrev pub outside_before : (depth row : ℕ) → State → State
outside_before depth row Dead = Dead
outside_before depth row (Live facts) =
    Live (record facts { rows = map (row_outside depth) (take row facts.rows) ++ drop row facts.rows })

pub before-begin : (depth : ℕ) (state : Kept) → Moves (outside_before depth 0) state state
before-begin depth state =
    let facts = viewed (core state.known) in
    moves-stay (outside_before depth 0) state
    (cond_both state.known.is_dead Dead (Live facts) (λ (seen : State). seen ≡ outside_before depth 0 seen) (λ dead. refl) (λ live. refl))

row-more : (depth row : ℕ) (facts : Facts) → row < length facts.rows
    → at_outside depth row (outside_before depth row (Live facts)) ≡ outside_before depth (row + 1) (Live facts)
row-more depth row facts inside =
    let f = row_outside depth in
    let so_far = map f (take row facts.rows) ++ drop row facts.rows in
    let front : length (map f (take row facts.rows)) ≡ row = length-map (take row facts.rows) f ∙ length-take-le row facts.rows (omega (arith, inside)) in
    let within : row < length so_far = rw (length-append, length-drop) (omega (arith, front, inside)) in
    ap (λ (rows : List RowState). Live (record facts { rows = rows }))
    (map_over_more f facts.rows so_far row (get_or so_far row no_row) inside refl
    (get_or_default so_far row no_row (get_or so_far row no_row) within))

pub before-more : {a b c : Kept} (depth row : ℕ) → row < length a.known.rows.items → Moves (outside_before depth row) a b
    → Moves (at_outside depth row) b c → Moves (outside_before depth (row + 1)) a c
before-more {a = a} depth row inside first rest =
    let facts = viewed (core a.known) in
    let count = length-map a.known.rows.items said_row in
    moves-as (outside_before depth (row + 1)) (moves-then first rest)
    (cond_both a.known.is_dead Dead (Live facts)
    (λ (seen : State). at_outside depth row (outside_before depth row seen) ≡ outside_before depth (row + 1) seen) (λ dead. refl)
    (λ live. row-more depth row facts (omega (arith, inside, count))))

pub before-end : {a b : Kept} (depth row : ℕ) → length a.known.rows.items ≤ row → Moves (outside_before depth row) a b → Moves (without_turns depth) a b
before-end {a = a} depth row past moves =
    let facts = viewed (core a.known) in
    let count = length-map a.known.rows.items said_row in
    let all : length facts.rows ≤ row = omega (arith, past, count) in
    moves-as (without_turns depth) moves
    (cond_both a.known.is_dead Dead (Live facts) (λ (seen : State). outside_before depth row seen ≡ without_turns depth seen) (λ dead. refl)
    (λ live.
    ap₂ (λ (front back : List RowState). Live (record facts { rows = map (row_outside depth) front ++ back })) (take_all row facts.rows all)
    (drop_all row facts.rows all)
    ∙ ap (λ (rows : List RowState). Live (record facts { rows = rows })) (append-nil (map (row_outside depth) facts.rows))))
