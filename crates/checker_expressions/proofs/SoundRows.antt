-- What an access reaches of the rows of components, and what is known of the values there.
use Rattle.std.proofs.Common.{arith, ◌≡◌, ◌∙◌, sym, ap, refl, subst, ℕ, zero, suc, ℤ, pos, Bool, true, false, cond}
use Rattle.std.proofs.lemmas.Bool.{false≢true}
use Rattle.std.proofs.Common.{List, [], ◌∷◌, ◌++◌, length, map}
use Rattle.std.specs.Prelude.{Contains}
use Rattle.std.specs.List.{All}
use Rattle.types.specs.Components.{components_of}
use Rattle.types.specs.Forms.{Form}
use Rattle.types.specs.declared.form.Step.{Step}
use Rattle.types.specs.declared.form.Step.TheVariants as step
use Rattle.types.specs.declared.form.TypeId.{TypeId}
use Rattle.types.specs.Types.{is_structured}
use Rattle.typed_tree.specs.declared.tree.Selector.{Selector}
use Rattle.typed_tree.specs.declared.tree.Selector.TheVariants.{Element, Field}
use Rattle.typed_tree.specs.declared.tree.Tree.{Tree}
use Rattle.typed_tree.specs.declared.tree.Whole.{Whole}
use Rattle.typed_tree.specs.declared.tree.Whole.TheVariants.{Text, Variable as VariableOf}
use Rattle.typed_tree.specs.Accesses.{index_count}
use Rattle.domain.specs.Interval.{Interval}
use Rattle.meaning.specs.declared.value.Value.{Value}
use Rattle.meaning.specs.declared.value.Value.TheVariants.{Number}
use Rattle.meaning.specs.Store.{Environment, Store}
use Rattle.checker_state.specs.Holds.{HasValue, IsIn, moment}
use Rattle.checker_rows.specs.Leaves.{leaves_of}
use Rattle.checker_rows.specs.Rows.{Parts, all_parts, indexes_of}
pub use Rattle.checker_rows.proofs.Accessed.{RowsAre, rows-are}
pub use Rattle.checker_rows.proofs.Selected.{Matches}
use Rattle.checker_loops.proofs.AliasedStores.{all-pass}
pub use Rattle.checker_loops.proofs.VariableRows.{one-way}
pub use Rattle.checker_calls.proofs.Passed.{AreComponentsOf, AreIndexesOn, IsIndexOn, IsReachedBy, LieIn}
pub use Rattle.checker_calls.proofs.Reached.{reached-has}
use Rattle.checker_state.specs.State.{State, range_of, with_defined}
use Rattle.checker_state.specs.Stores.{Index, Reach, gives_reached, is_entire, is_entire_by}
use Rattle.checker_state.specs.Holds.{HasComponent, IsOfRow}
use Rattle.checker_state.specs.Knows.{Knows}
use Rattle.checker_state.proofs.Ranged.{in-left, in-right}
use Rattle.checker_state.proofs.Rows.{defined-holds}
use Rattle.checker_state.specs.State.{table_of}
use Rattle.checker_expressions.specs.Walk.{all_defined, all_joined, is_covered, ranges_of, text_range, with_used}

-- ---- whole values

-- the values of a string's characters
abbrev pub characters_of : List ℕ → List Value
characters_of = map (λ c. Number (pos c))

-- the values of a whole value, by the ranges that are known; those of a variable are ones of its components' types
abbrev pub AreOf : List Form → Whole → List Interval → List Value → Type 0
AreOf types (Text number text) ranges values =
    (values ≡ characters_of text.items) × (ranges ≡ text_range text.items ∷ []) × All (IsIn (text_range text.items)) values
AreOf types (VariableOf access type_id cells defined) ranges values =
    AreComponentsOf types type_id values × (is_structured types type_id ≡ true → length ranges ≡ length (leaves_of types type_id))
    × LieIn types type_id ranges values

pub record IsWhole (types : List Form) (value : Whole) (ranges : List Interval) (values : List Value) : Type 0 where
  pub told : AreOf types value ranges values

-- ---- ways

-- the way of more selectors
pub matches-then : (first second : List Selector) (way more : List Step) → Matches first way → Matches second more → Matches (first ++ second) (way ++ more)
matches-then [] second [] more one two = two
matches-then [] second (s ∷ way) more one two = absurd one
matches-then (selector ∷ first) second [] more one two = absurd (no-way selector first one)
  where
    no-way : (selector : Selector) (first : List Selector) → Matches (selector ∷ first) [] → ⊥
    no-way (Element fits cells) first is = is
    no-way (Field position offset) first is = is
matches-then (Element fits cells ∷ first) second (step.Element index ∷ way) more one two = (one.0, one.1, matches-then first second way more one.2 two)
matches-then (Element fits cells ∷ first) second (step.Field place ∷ way) more one two = absurd one
matches-then (Field position offset ∷ first) second (step.Element index ∷ way) more one two = absurd one
matches-then (Field position offset ∷ first) second (step.Field place ∷ way) more one two = (one.0, matches-then first second way more one.1 two)

-- the indexes on a way, and how many there are
pub indexes-then : (way more : List Step) → indexes_of (way ++ more) ≡ indexes_of way ++ indexes_of more
indexes-then [] more = refl
indexes-then (step.Element index ∷ way) more = ap (λ (indexes : List ℤ). index ∷ indexes) (indexes-then way more)
indexes-then (step.Field position ∷ way) more = indexes-then way more

pub indexes-many : (selectors : List Selector) (way : List Step) → Matches selectors way → length (indexes_of way) ≡ index_count selectors
indexes-many [] [] matches = refl
indexes-many [] (s ∷ way) matches = absurd matches
indexes-many (Element fits cells ∷ selectors) [] matches = absurd matches
indexes-many (Element fits cells ∷ selectors) (step.Element index ∷ way) matches = ap suc (indexes-many selectors way matches.2)
indexes-many (Element fits cells ∷ selectors) (step.Field place ∷ way) matches = absurd matches
indexes-many (Field position offset ∷ selectors) [] matches = absurd matches
indexes-many (Field position offset ∷ selectors) (step.Element index ∷ way) matches = absurd matches
indexes-many (Field position offset ∷ selectors) (step.Field place ∷ way) matches = indexes-many selectors way matches.1

-- ---- ranges

pub covered-row : (tree : Tree) (state : State) (reach : Reach) (rows : List ℕ) (row : ℕ) → is_covered tree state reach rows ≡ true → Contains rows row
    → gives_reached (table_of tree) state reach row ≡ true
covered-row tree state reach rows row covered inside = all-pass (gives_reached (table_of tree) state reach) rows row inside covered

-- a value of one of several rows lies in what their ranges join to
pub joined-in : (state : State) (rows : List ℕ) (row : ℕ) (v : Value) → Contains rows row → IsIn (range_of state row) v
    → IsIn (all_joined (ranges_of state rows)) v
joined-in state [] row v inside is = absurd (omega (arith, inside.1))
joined-in state (first ∷ rows) row v (zero, within, at) is =
    in-left (range_of state first) (all_joined (ranges_of state rows)) v (subst (λ (r : ℕ). IsIn (range_of state r) v) (sym at) is)
joined-in state (first ∷ rows) row v (suc k, within, at) is =
    in-right (range_of state first) (all_joined (ranges_of state rows)) v (joined-in state rows row v (k, omega (arith, within), at) is)

-- ---- what is defined behind a use

pub all_defined-known : (rows : List Parts) (roots : ℕ) (env : Environment) (store : Store) (used : List ℕ)
    → ((row : ℕ) (steps : List Step) → Contains used row → IsOfRow rows row steps → HasComponent rows (moment env store) row steps) → (state : State)
    → Knows rows roots env state store → Knows rows roots env (all_defined used state) store
all_defined-known rows roots env store [] has state known = known
all_defined-known rows roots env store (row ∷ used) has state known =
    all_defined-known rows roots env store used
    (λ other steps inside of_row. has other steps (suc inside.0, omega (arith, inside.1), inside.2) of_row)
    (with_defined row state)
    (record {
      shows = known.shows;
      holds = defined-holds rows (moment env store) state row (λ steps of_row. has row steps (0, omega arith, refl) of_row) known.holds;
    })

-- what is all of each row has no index
entire-is : (reach : Reach) → is_entire reach ≡ true → (reach.is_all ≡ true) × (length reach.indexes ≡ 0)
entire-is reach is = by reach.indexes is
  where
    by : (indexes : List Index) → is_entire_by reach.is_all indexes ≡ true → (reach.is_all ≡ true) × (length indexes ≡ 0)
    by [] is = (is, refl)
    by (index ∷ indexes) is = absurd (false≢true is)

-- where all components of the type that is reached have values
pub used-known : (tree : Tree) (roots : ℕ) (env : Environment) (store : Store) (root : ℕ) (under : List ℕ) (selectors : List Selector) (id : TypeId)
    → RowsAre tree root under selectors id → (way : List Step) → Matches selectors way → (reach : Reach) → IsReachedBy env store selectors way reach
    → ((rest : List Step) → Contains (components_of tree.types id) rest → HasValue (moment env store) root (way ++ rest)) → (state : State)
    → Knows (all_parts tree) roots env state store
    → Knows (all_parts tree) roots env (with_used reach under state) store
used-known tree roots env store root under selectors id rows way matches reach reached has state known = by (is_entire reach) refl
  where
    by : (b : Bool) → is_entire reach ≡ b
        → Knows (all_parts tree) roots env (cond b (all_defined under state) state) store
    by false is = known
    by true is =
        let all = entire-is reach is in
        let none : index_count selectors ≡ 0 = sym (reached.all all.0) ∙ all.1 in
        all_defined-known (all_parts tree) roots env store under
        (λ row steps inside of_row.
        let lies = rows.lies row steps inside of_row in
        let same : steps ≡ way ++ lies.1 = lies.2 ∙ ap (λ (w : List Step). w ++ lies.1) (one-way selectors lies.0 way none lies.3 matches) in
        subst (λ (r : ℕ). HasValue (moment env store) r steps) (sym (rows.root_is row inside))
        (subst (λ (s : List Step). HasValue (moment env store) root s) (sym same) (has lies.1 lies.4))) state known
