-- Steps of the state that are told by the rows of the program, one after another.
use Rattle.std.proofs.Common.{◌≡◌, ◌∙◌, sym, ap, ℕ, ◌+◌, ◌<◌, ◌≤◌, List, [], ◌∷◌, ◌++◌, get_or, length, take}
use Rattle.std.proofs.lemmas.List.{take_more}
use Rattle.typed_tree.specs.declared.tree.Tree.{Tree}
use Rattle.checker_state.specs.State.{State}
use Rattle.checker_trail.specs.declared.state.State.{State as Kept}
use Rattle.checker_trail.specs.Trail.{Moves, seen}
use Rattle.checker_trail.proofs.Ways.{moves-as, moves-told}
use Rattle.checker_loops.proofs.Stepped.{rows-more, rows_to}

-- for one row more
pub told-row : {a b c : Kept} (steps : List ℕ → State → State) (step : Tree → State → State) (first row : ℕ) → first ≤ row
    → Moves (steps (rows_to first row)) a b → Moves (step b.table.now) b c
    → ((state : State) → step a.table.now (steps (rows_to first row) state) ≡ steps (rows_to first row ++ row ∷ []) state)
    → Moves (steps (rows_to first (row + 1))) a c
told-row {a = a} steps step first row from before next same =
    moves-as (steps (rows_to first (row + 1))) (moves-told step before next)
    (same (seen a) ∙ sym (ap (λ (rows : List ℕ). steps rows (seen a)) (rows-more first row from)))

-- for one element more of a list
pub told-more : {A : Type 0} {a b c : Kept} (steps : List A → State → State) (step : Tree → State → State) (list : List A) (i : ℕ) (one : A)
    → i < length list → one ≡ get_or list i one → Moves (steps (take i list)) a b → Moves (step b.table.now) b c
    → ((state : State) → step a.table.now (steps (take i list) state) ≡ steps (take i list ++ one ∷ []) state)
    → Moves (steps (take (i + 1) list)) a c
told-more {A = A} {a = a} steps step list i one inside is before next same =
    moves-as (steps (take (i + 1) list)) (moves-told step before next)
    (same (seen a) ∙ ap (λ (last : A). steps (take i list ++ last ∷ []) (seen a)) is
    ∙ sym (ap (λ (some : List A). steps some (seen a)) (take_more list i one inside)))
