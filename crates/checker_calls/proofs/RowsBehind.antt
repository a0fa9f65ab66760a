-- What calls change row by row, and change by change.
use Rattle.std.proofs.Common.{◌≡◌, ◌∙◌, ap, refl, ℕ, Bool, true, false, cond, List, [], ◌∷◌, ◌++◌}
use Rattle.typed_tree.specs.declared.tree.Tree.{Tree}
use Rattle.domain.specs.Facts.{Fact}
use Rattle.domain.specs.Interval.{Interval, common}
use Rattle.checker_state.specs.State.{State}
use Rattle.checker_calls.specs.Exit.{Change, all_common, is_row, row_behind, rows_behind, rows_changed}
use Rattle.checker_calls.specs.ExitView.{just}

-- some rows, and then others
pub behind-append : (tree : Tree) (changes : List Change) (rows more : List ℕ) (known : State)
    → rows_behind tree changes (rows ++ more) known ≡ rows_behind tree changes more (rows_behind tree changes rows known)
behind-append tree changes [] more known = refl
behind-append tree changes (row ∷ rows) more known = behind-append tree changes rows more (row_behind tree changes row known)

-- nothing is changed where nothing bears it
pub none-changed : (tree : Tree) (facts : List Fact) (rows : List ℕ) → rows_changed tree facts rows [] ≡ []
none-changed tree facts [] = refl
none-changed tree facts (row ∷ rows) = refl

-- the values of all changes, one change more
pub all-common : (changes : List Change) (change : Change) (range : Interval)
    → all_common (changes ++ change ∷ []) range ≡ common (all_common changes range) change.range
all-common [] change range = refl
all-common (one ∷ changes) change range = all-common changes change (common range one.range)

front : (b : Bool) (one : Change) (changes : List Change) (change : Change)
    → cond b (one ∷ changes ++ change ∷ []) (changes ++ change ∷ []) ≡ cond b (one ∷ changes) changes ++ change ∷ []
front true one changes change = refl
front false one changes change = refl

-- the changes of just a row, one change more
pub just-more : (row : ℕ) (changes : List Change) (change : Change) (same : Bool) → is_row row change.bearer ≡ same
    → just row (changes ++ change ∷ []) ≡ cond same (just row changes ++ change ∷ []) (just row changes)
just-more row [] change true same = ap (λ b. cond b (change ∷ []) []) same
just-more row [] change false same = ap (λ b. cond b (change ∷ []) []) same
just-more row (one ∷ changes) change true same =
    ap (λ rest. cond (is_row row one.bearer) (one ∷ rest) rest) (just-more row changes change true same)
    ∙ front (is_row row one.bearer) one (just row changes) change
just-more row (one ∷ changes) change false same =
    ap (λ rest. cond (is_row row one.bearer) (one ∷ rest) rest) (just-more row changes change false same)
