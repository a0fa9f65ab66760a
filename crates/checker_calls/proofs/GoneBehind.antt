-- The state of the program on its way behind a call: row by row, and fact by fact.
use Rattle.std.proofs.Common.{◌≡◌, ◌∙◌, sym, ap, ap₂, refl, subst, ℕ, ℤ, ◌+◌, ◌-ℤ◌, ◌<◌, Bool, true, false, cond, List, [], ◌∷◌, ◌++◌}
use Rattle.std.proofs.Common.{append-nil, get_or, length, map, take, Option, Some}
use Rattle.std.specs.Prelude.{slice_get}
use Rattle.std.proofs.lemmas.List.Concat.{flat_map-append}
use Rattle.domain.specs.Facts as fact
use Rattle.domain.specs.Facts.{Defined, Fact, Path}
use Rattle.domain.specs.Interval.{Interval}
use Rattle.typed_tree.specs.declared.tree.Tree.{Tree}
use Rattle.checker_rows.specs.Rows.{rows_touched, rows_under}
use Rattle.checker_state.specs.Bounds.{Bound}
use Rattle.checker_state.specs.Changes.{ordered, with_some}
use Rattle.checker_state.specs.State.{Span, State}
use Rattle.checker_state.specs.Stores.{Reach, is_entire}
use Rattle.checker_trail.specs.declared.state.State.{State as Kept}
use Rattle.checker_trail.specs.Trail.{Moves}
use Rattle.checker_trail.proofs.Ways.{moves-more}
use Rattle.checker_calls.specs.Actuals.{Bearer, Binding, Passed, Reached, all_of_rows, bearers_named}
use Rattle.checker_calls.specs.Exit.{Change, Touches, bearers_defined, bounds_ordered, exit_spans, is_own_path, row_behind, row_defined, rows_behind}
use Rattle.checker_calls.specs.Exit.{variables_ordered, with_exit, with_exits}
use Rattle.checker_calls.specs.ExitView.{rows_outside, whole_rows}
use Rattle.checker_calls.proofs.RowsBehind.{behind-append}

-- ---- rows that are touched

pub behind-row : (tree : Tree) (changes : List Change) (rows : List ℕ) (row : ℕ) (state : State)
    → row_behind tree changes row (rows_behind tree changes rows state) ≡ rows_behind tree changes (rows ++ row ∷ []) state
behind-row tree changes rows row state = sym (behind-append tree changes rows (row ∷ []) state)

pub behind-root : (tree : Tree) (changes : List Change) (roots : List ℕ) (root : ℕ) (rows : List ℕ) (state : State) → rows ≡ rows_under tree root []
    → rows_behind tree changes rows (rows_behind tree changes (rows_touched tree roots) state)
    ≡ rows_behind tree changes (rows_touched tree (roots ++ root ∷ [])) state
behind-root tree changes roots root rows state is =
    ap (λ some. rows_behind tree changes some (rows_behind tree changes (rows_touched tree roots) state)) (is ∙ sym (append-nil (rows_under tree root [])))
    ∙ sym (behind-append tree changes (rows_touched tree roots) (rows_touched tree (root ∷ [])) state)
    ∙ ap (λ all. rows_behind tree changes all state) (sym (flat_map-append (λ one. rows_under tree one []) roots (root ∷ [])))

-- the rows of a variable more
pub behind-more : {a b c : Kept} (tree : Tree) (changes : List Change) (touched roots : List ℕ) (i root : ℕ) (rows : List ℕ) → roots ≡ touched
    → i < length roots → root ≡ get_or roots i root → rows ≡ rows_under tree root []
    → Moves (rows_behind tree changes (rows_touched tree (take i touched))) a b → Moves (rows_behind tree changes rows) b c
    → Moves (rows_behind tree changes (rows_touched tree (take (i + 1) touched))) a c
behind-more {a = a} {b = b} {c = c} tree changes touched roots i root rows same inside is rows_is before next =
    subst (λ (some : List ℕ). Moves (rows_behind tree changes (rows_touched tree (take i some))) a b
    → Moves (rows_behind tree changes (rows_touched tree (take (i + 1) some))) a c) same
    (λ so_far. moves-more (λ some. rows_behind tree changes (rows_touched tree some)) (rows_behind tree changes rows) roots i root inside is so_far next
    (λ state. behind-root tree changes (take i roots) root rows state rows_is))
    before

-- ---- facts at the end

pub exits-append : (tree : Tree) (block : ℕ) (bindings : List Binding) (touches : Touches) (facts : List Fact) (fact : Fact) (state : State)
    → with_exit tree block bindings touches fact (with_exits tree block bindings touches facts state)
    ≡ with_exits tree block bindings touches (facts ++ fact ∷ []) state
exits-append tree block bindings touches [] fact state = refl
exits-append tree block bindings touches (one ∷ facts) fact state =
    exits-append tree block bindings touches facts fact (with_exit tree block bindings touches one state)

-- ---- bearers

pub defined-row : (tree : Tree) (spans : Option (List Span)) (rows : List ℕ) (row : ℕ) (state : State)
    → row_defined tree spans row (bearers_defined tree spans (all_of_rows rows) state) ≡ bearers_defined tree spans (all_of_rows (rows ++ row ∷ [])) state
defined-row tree spans [] row state = refl
defined-row tree spans (one ∷ rows) row state = defined-row tree spans rows row (row_defined tree spans one state)

-- what is passed as values has no rows, and what is reached in part none of which all is reached
pub passed-rows : (ranges : List Interval) → [] ≡ whole_rows (map Passed ranges)
passed-rows [] = refl
passed-rows (range ∷ ranges) = passed-rows ranges

pub part-rows : (reach : Reach) (rows : List ℕ) → is_entire reach ≡ false → [] ≡ whole_rows (map (λ row. Reached row reach) rows)
part-rows reach [] part = refl
part-rows reach (row ∷ rows) part =
    let rest = whole_rows (map (λ one. Reached one reach) rows) in
    part-rows reach rows part ∙ ap (λ b. cond b (row ∷ rest) rest) (sym part)

pub reached-rows : (reach : Reach) (rows : List ℕ) → is_entire reach ≡ true → rows ≡ whole_rows (map (λ row. Reached row reach) rows)
reached-rows reach [] whole = refl
reached-rows reach (row ∷ rows) whole =
    let rest = whole_rows (map (λ one. Reached one reach) rows) in
    ap (λ more. row ∷ more) (reached-rows reach rows whole) ∙ ap (λ b. cond b (row ∷ rest) rest) (sym whole)

-- where rows are defined of which all bears something, all is that bearers are
defined-cases : (tree : Tree) (spans : Option (List Span)) (row : ℕ) (bearers : List Bearer) (state : State) (whole : Bool)
    → ((now : State) → bearers_defined tree spans (all_of_rows (whole_rows bearers)) now ≡ bearers_defined tree spans bearers now)
    → bearers_defined tree spans (all_of_rows (cond whole (row ∷ whole_rows bearers) (whole_rows bearers))) state
    ≡ bearers_defined tree spans bearers (cond whole (row_defined tree spans row state) state)
defined-cases tree spans row bearers state true rest = rest (row_defined tree spans row state)
defined-cases tree spans row bearers state false rest = rest state

whole-defined : (tree : Tree) (spans : Option (List Span)) (bearers : List Bearer) (state : State)
    → bearers_defined tree spans (all_of_rows (whole_rows bearers)) state ≡ bearers_defined tree spans bearers state
whole-defined tree spans [] state = refl
whole-defined tree spans (Passed range ∷ bearers) state = whole-defined tree spans bearers state
whole-defined tree spans (Reached row reach ∷ bearers) state =
    defined-cases tree spans row bearers state (is_entire reach) (λ now. whole-defined tree spans bearers now)

-- what a path names that isn't the callee's own
pub not-own : (tree : Tree) (block : ℕ) (bindings : List Binding) (path : Path)
    → is_own_path block path bindings (slice_get tree.variables.items path.root) ≡ false
    → whole_rows (bearers_named tree bindings path) ≡ rows_outside tree block bindings path
not-own tree block bindings path other = sym (ap (λ own. cond own [] (whole_rows (bearers_named tree bindings path))) other)

-- a claim at the end is known, where the rows of what it names are defined
pub outside-defined : (tree : Tree) (block : ℕ) (bindings : List Binding) (touches : Touches) (path : Path) (spans : List fact.Span) (state : State)
    → bearers_defined tree (exit_spans tree bindings touches spans) (all_of_rows (rows_outside tree block bindings path)) state
    ≡ with_exit tree block bindings touches (Defined path spans) state
outside-defined tree block bindings touches path spans state =
    by (is_own_path block path bindings (slice_get tree.variables.items path.root))
  where
    bearers : List Bearer
    bearers = bearers_named tree bindings path

    found : Option (List Span)
    found = exit_spans tree bindings touches spans

    by : (own : Bool) → bearers_defined tree found (all_of_rows (cond own [] (whole_rows bearers))) state
        ≡ cond own state (bearers_defined tree found bearers state)
    by true = refl
    by false = whole-defined tree found bearers state

-- ---- bounds

-- orders of variables of bounds that are there
pub ordered-bounds : (a b : Bound) (first last : Option Bound) (root other : ℕ) (number : ℤ) (state : State) → first ≡ Some a → last ≡ Some b
    → a.root ≡ Some root → b.root ≡ Some other → number ≡ b.number -ℤ a.number
    → with_some (ordered root other number) state ≡ bounds_ordered first last state
ordered-bounds a b first last root other number state first_is last_is root_is other_is number_is =
    ap (λ n. with_some (ordered root other n) state) number_is
    ∙ sym (ap₂ (λ x y. variables_ordered x a.number y b.number state) root_is other_is)
    ∙ sym (ap₂ (λ x y. bounds_ordered x y state) first_is last_is)
