-- What is stored to aliases, one after another.
use Rattle.std.proofs.Common.{◌≡◌, ◌∙◌, ap, refl, ℕ, List, [], ◌∷◌, ◌++◌, map}
use Rattle.typed_tree.specs.declared.tree.Tree.{Tree}
use Rattle.checker_rows.specs.Rows.{rows_under}
use Rattle.checker_state.specs.Changes.{all_changed}
use Rattle.checker_state.specs.State.{State}
use Rattle.checker_trail.specs.declared.state.State.{State as Kept}
use Rattle.checker_trail.specs.Trail.{Moves, seen}
use Rattle.checker_trail.proofs.Ways.{moves-as}
use Rattle.checker_ways.specs.declared.aliases.Stored.{Stored as KeptStored}
use Rattle.checker_loops.specs.Aliases.{Stored, alias_joined, aliases_joined, all_joined_to, row_joined, rows_joined, with_aliases_stored}
use Rattle.checker_ways.specs.View.{said_stored}

pub rows-over : (tree : Tree) (stored : Stored) (rows : List ℕ) (row : ℕ) (state : State)
    → row_joined tree stored row (rows_joined tree stored rows state) ≡ rows_joined tree stored (rows ++ row ∷ []) state
rows-over tree stored [] row state = refl
rows-over tree stored (first ∷ rows) row state = rows-over tree stored rows row (row_joined tree stored first state)

pub aliases-over : (tree : Tree) (stored : Stored) (aliases : List ℕ) (alias : ℕ) (state : State)
    → alias_joined tree stored alias (aliases_joined tree stored aliases state) ≡ aliases_joined tree stored (aliases ++ alias ∷ []) state
aliases-over tree stored [] alias state = refl
aliases-over tree stored (first ∷ aliases) alias state = aliases-over tree stored aliases alias (alias_joined tree stored first state)

all-over : (tree : Tree) (some : List KeptStored) (one : KeptStored) (aliases : List ℕ) (state : State)
    → aliases_joined tree (said_stored one) aliases (all_joined_to tree (map said_stored some) aliases state)
    ≡ all_joined_to tree (map said_stored (some ++ one ∷ [])) aliases state
all-over tree [] one aliases state = refl
all-over tree (first ∷ some) one aliases state = all-over tree some one aliases (aliases_joined tree (said_stored first) aliases state)

pub stored-over : (tree : Tree) (aliases : List ℕ) (some : List KeptStored) (one : KeptStored) (state : State)
    → aliases_joined tree (said_stored one) aliases (with_aliases_stored tree aliases (map said_stored some) state)
    ≡ with_aliases_stored tree aliases (map said_stored (some ++ one ∷ [])) state
stored-over tree aliases some one state = all-over tree some one aliases (all_changed aliases state)

-- an alias, by its rows
pub alias-moves : {a b : Kept} (stored : Stored) (tree : Tree) (alias : ℕ) (rows : List ℕ) → tree ≡ a.table.now → rows ≡ rows_under tree alias []
    → Moves (rows_joined a.table.now stored rows) a b → Moves (alias_joined a.table.now stored alias) a b
alias-moves {a = a} stored tree alias rows tree_is is moves =
    moves-as (alias_joined a.table.now stored alias) moves
    (ap (λ (some : List ℕ). rows_joined a.table.now stored some (seen a)) (is ∙ ap (λ (t : Tree). rows_under t alias []) tree_is))
