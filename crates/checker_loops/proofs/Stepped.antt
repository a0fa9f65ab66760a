-- What is known of rows and of claims, one after another.
use Rattle.std.proofs.Common.{arith, subst, Bool, true, false, ◌&&◌, ◌≡◌, ◌∙◌, sym, ap, refl, ℕ, zero}
use Rattle.std.proofs.Common.{suc, ◌+◌, ◌-◌, ◌≤◌, ◌<◌, List, [], ◌∷◌, ◌++◌, append-nil, map, Option, Some, None}
use Rattle.std.specs.List.{flat_map, list_all, range_with_len}
use Rattle.std.proofs.lemmas.List.{map-append}
use Rattle.std.proofs.lemmas.List.Concat.{flat_map-append}
use Rattle.std.proofs.lemmas.List.Folds.{list_all-append, list_all-map, list_all_at}
use Rattle.std.proofs.lemmas.List.FromFn.{get_or-range_with_len, length-range_with_len}
use Rattle.certificate.specs.declared.facts.Fact.{Fact as KeptFact}
use Rattle.certificate.specs.Contents.{said_fact}
use Rattle.domain.specs.Facts.{Fact, Range, Defined, Order, Grows, Span}
use Rattle.domain.specs.Interval.{Interval}
use Rattle.typed_tree.specs.declared.tree.Tree.{Tree}
use Rattle.checker_rows.specs.Rows.{rows_touched, rows_under}
use Rattle.checker_state.specs.Changes.{all_changed, with_change}
use Rattle.checker_state.specs.Loops.{all_forgotten, with_claim, with_claims, with_forgotten, with_limits}
use Rattle.checker_state.specs.State.{Claim, State, with_range}
use Rattle.checker_trail.specs.declared.state.State.{State as Kept}
use Rattle.checker_trail.specs.Trail.{Moves, seen}
use Rattle.checker_trail.proofs.Ways.{moves-as, moves-stay, moves-then}
use Rattle.checker_loops.specs.Loops.{Round, all_said, asked, said, said_by, touched, with_own}
use Rattle.checker_loops.specs.View.{claim_at, claim_by, own_controls, rows_said}

-- ---- rows with consecutive numbers

-- those from a first one on, before another
abbrev pub rows_to : (first row : ℕ) → List ℕ
rows_to first row = range_with_len first (row - first)

range-more : (first count : ℕ) → range_with_len first (suc count) ≡ range_with_len first count ++ (first + count) ∷ []
range-more first zero = let e : first ≡ first + 0 = omega arith in ap (λ n. n ∷ []) e
range-more first (suc count) =
    let e : (first + 1) + count ≡ first + suc count = omega arith in
    ap (λ rest. first ∷ rest) (range-more (first + 1) count) ∙ ap (λ n. first ∷ (range_with_len (first + 1) count ++ n ∷ [])) e

pub rows-more : (first row : ℕ) → first ≤ row → rows_to first (row + 1) ≡ rows_to first row ++ row ∷ []
rows-more first row from =
    let count : (row + 1) - first ≡ suc (row - first) = omega arith in
    let last : first + (row - first) ≡ row = omega arith in
    ap (range_with_len first) count ∙ range-more first (row - first) ∙ ap (λ n. rows_to first row ++ n ∷ []) last

-- where the last one was
pub rows-whole : (first count row last : ℕ) → last ≡ first + count → (first ≤ last → row ≤ last) → last ≤ row
    → rows_to first row ≡ range_with_len first count
rows-whole first count row last is before past =
    let here : row ≤ last = before (omega arith) in
    let e : row - first ≡ count = omega arith in ap (range_with_len first) e

-- a step for each of them
pub moves-row : {a b c : Kept} (steps : List ℕ → State → State) (step : State → State) (first row : ℕ) → first ≤ row
    → Moves (steps (rows_to first row)) a b → Moves step b c
    → ((state : State) → step (steps (rows_to first row) state) ≡ steps (rows_to first row ++ row ∷ []) state)
    → Moves (steps (rows_to first (row + 1))) a c
moves-row {a = a} steps step first row from before next same =
    moves-as (steps (rows_to first (row + 1))) (moves-then before next)
    (same (seen a) ∙ sym (ap (λ (rows : List ℕ). steps rows (seen a)) (rows-more first row from)))

rows-none : (first : ℕ) → rows_to first first ≡ []
rows-none first = let e : first - first ≡ 0 = omega arith in ap (range_with_len first) e

pub rows-begin : (steps : List ℕ → State → State) (first : ℕ) (state : Kept) → ((known : State) → steps [] known ≡ known)
    → Moves (steps (rows_to first first)) state state
rows-begin steps first state none =
    moves-stay (steps (rows_to first first)) state
    (sym (ap (λ (rows : List ℕ). steps rows (seen state)) (rows-none first) ∙ none (seen state)))

-- ---- some behind others

pub changed-over : (roots more : List ℕ) (state : State) → all_changed (roots ++ more) state ≡ all_changed more (all_changed roots state)
changed-over [] more state = refl
changed-over (root ∷ roots) more state = changed-over roots more (with_change root None state)

pub forgotten-over : (roots more : List ℕ) (state : State) → all_forgotten (roots ++ more) state ≡ all_forgotten more (all_forgotten roots state)
forgotten-over [] more state = refl
forgotten-over (root ∷ roots) more state = forgotten-over roots more (with_forgotten root state)

pub limits-over : (limits : ℕ → Interval) (rows more : List ℕ) (state : State)
    → with_limits limits (rows ++ more) state ≡ with_limits limits more (with_limits limits rows state)
limits-over limits [] more state = refl
limits-over limits (row ∷ rows) more state = limits-over limits rows more (with_range row (limits row) state)

pub claims-over : (claims more : List Claim) (state : State) → with_claims (claims ++ more) state ≡ with_claims more (with_claims claims state)
claims-over [] more state = refl
claims-over (claim ∷ claims) more state = claims-over claims more (with_claim claim state)

-- ---- rows that are touched

pub limits-row : (limits : ℕ → Interval) (rows : List ℕ) (row : ℕ) (range : Interval) (state : State) → range ≡ limits row
    → with_range row range (with_limits limits rows state) ≡ with_limits limits (rows ++ row ∷ []) state
limits-row limits rows row range state is =
    ap (λ r. with_range row r (with_limits limits rows state)) is ∙ sym (limits-over limits rows (row ∷ []) state)

pub rows-over : (limits : ℕ → Interval) (tree : Tree) (roots more : List ℕ) (state : State)
    → with_limits limits (rows_touched tree (roots ++ more)) state
    ≡ with_limits limits (rows_touched tree more) (with_limits limits (rows_touched tree roots) state)
rows-over limits tree roots more state =
    ap (λ rows. with_limits limits rows state) (flat_map-append (λ root. rows_under tree root []) roots more)
    ∙ limits-over limits (rows_touched tree roots) (rows_touched tree more) state

pub rows-root : (limits : ℕ → Interval) (tree : Tree) (roots : List ℕ) (root : ℕ) (rows : List ℕ) (state : State) → rows ≡ rows_under tree root []
    → with_limits limits rows (with_limits limits (rows_touched tree roots) state) ≡ with_limits limits (rows_touched tree (roots ++ root ∷ [])) state
rows-root limits tree roots root rows state is =
    ap (λ some. with_limits limits some (with_limits limits (rows_touched tree roots) state)) (is ∙ sym (append-nil (rows_under tree root [])))
    ∙ sym (rows-over limits tree roots (root ∷ []) state)

-- ---- claims

-- a fact says what it says of each row
pub said-by-rows : (defined : List Span → ℕ → Claim) (tree : Tree) (fact : Fact)
    → map (claim_by defined fact) (rows_said tree fact) ≡ said_by defined tree fact
said-by-rows defined tree (Range path range) = refl
said-by-rows defined tree (Defined path spans) = refl
said-by-rows defined tree (Order root other number) = refl
said-by-rows defined tree (Grows root growth) = refl

pub claims-row : (tree : Tree) (fact : Fact) (rows : List ℕ) (row : ℕ) (claim : Claim) (state : State) → claim ≡ claim_at tree fact row
    → with_claim claim (with_claims (map (claim_at tree fact) rows) state) ≡ with_claims (map (claim_at tree fact) (rows ++ row ∷ [])) state
claims-row tree fact rows row claim state is =
    ap (λ one. with_claim one (with_claims (map (claim_at tree fact) rows) state)) is
    ∙ sym (claims-over (map (claim_at tree fact) rows) (claim_at tree fact row ∷ []) state)
    ∙ ap (λ all. with_claims all state) (sym (map-append (claim_at tree fact) rows (row ∷ [])))

pub claims-fact : (tree : Tree) (facts : List Fact) (fact : Fact) (state : State)
    → with_claims (said tree fact) (with_claims (all_said tree facts) state) ≡ with_claims (all_said tree (facts ++ fact ∷ [])) state
claims-fact tree facts fact state =
    ap (λ all. with_claims all (with_claims (all_said tree facts) state)) (sym (append-nil (said tree fact)))
    ∙ sym (claims-over (all_said tree facts) (said tree fact ++ []) state)
    ∙ ap (λ all. with_claims all state) (sym (flat_map-append (said tree) facts (fact ∷ [])))

-- a state gives what a fact says of one row more
pub given-row : (test : Claim → Bool) (claim : ℕ → Claim) (first row : ℕ) → first ≤ row → list_all test (map claim (rows_to first row)) ≡ true
    → test (claim row) ≡ true → list_all test (map claim (rows_to first (row + 1))) ≡ true
given-row test claim first row from before here =
    ap (λ rows. list_all test (map claim rows)) (rows-more first row from) ∙ ap (list_all test) (map-append claim (rows_to first row) (row ∷ []))
    ∙ list_all-append test (map claim (rows_to first row)) (claim row ∷ []) ∙ ap (λ b. b && (test (claim row) && true)) before
    ∙ ap (λ b. b && true) here

-- it doesn't give what a fact says of one of them
pub not-given : (test : Claim → Bool) (claim : ℕ → Claim) (first count row last : ℕ) → last ≡ first + count → first ≤ row → row < last
    → test (claim row) ≡ false → list_all test (map claim (range_with_len first count)) ≡ false
not-given test claim first count row last is from before here =
    let i = row - first in
    let inside : i < count = omega (arith, is, from, before) in
    let at : first + i ≡ row = omega (arith, from) in
    list_all-map test claim (range_with_len first count)
    ∙ list_all_at (λ n. test (claim n)) (range_with_len first count) i 0 (subst (λ n. i < n) (sym (length-range_with_len first count)) inside)
    (ap (λ n. test (claim n)) (get_or-range_with_len first count i 0 inside ∙ at) ∙ here)

-- it gives each fact exactly where it gives what is asked for all
pub claims_given : (test : Claim → Bool) (tree : Tree) (facts : List KeptFact)
    → list_all (λ fact. list_all test (asked tree (said_fact fact))) facts ≡ list_all test (flat_map (asked tree) (map said_fact facts))
claims_given test tree [] = refl
claims_given test tree (fact ∷ facts) =
    ap (λ rest. list_all test (asked tree (said_fact fact)) && rest) (claims_given test tree facts)
    ∙ sym (list_all-append test (asked tree (said_fact fact)) (flat_map (asked tree) (map said_fact facts)))

-- ---- what a loop touches at its head

touched-lists : (own : Option ℕ) (round : Round) → touched (with_own own round) ≡ own_controls own ++ (round.controls ++ (round.changes ++ round.aliases))
touched-lists None round = refl
touched-lists (Some control) round = refl

-- a step for each list is one for all
pub touched-steps : (steps : List ℕ → State → State) (own : Option ℕ) (round : Round) (state : State)
    → ((some more : List ℕ) (state : State) → steps (some ++ more) state ≡ steps more (steps some state))
    → steps round.aliases (steps round.changes (steps round.controls (steps (own_controls own) state))) ≡ steps (touched (with_own own round)) state
touched-steps steps own round state over =
    let first = steps (own_controls own) state in
    sym (over round.changes round.aliases (steps round.controls first)) ∙ sym (over round.controls (round.changes ++ round.aliases) first)
    ∙ sym (over (own_controls own) (round.controls ++ (round.changes ++ round.aliases)) state)
    ∙ ap (λ roots. steps roots state) (sym (touched-lists own round))

pub own-forgotten : (own : Option ℕ) (round : Round) (state : State)
    → all_forgotten round.controls (all_forgotten (own_controls own) state) ≡ all_forgotten (with_own own round).controls state
own-forgotten None round state = refl
own-forgotten (Some control) round state = refl
