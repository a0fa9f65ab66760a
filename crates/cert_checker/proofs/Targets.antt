-- What an access reaches of the rows under it, where values are stored to the components of a type there.
use Rattle.std.proofs.Common.{arith, ◌≡◌, ⊎_elim, ◌∙◌, sym, ap, refl, subst, ℕ, suc, ◌<◌, ◌≤◌, ℤ, true, List, [], ◌∷◌, ◌++◌, Some, map}
use Rattle.std.proofs.Common.{length, Option}
use Rattle.std.specs.Prelude.{slice_get}
use Rattle.std.specs.List.{Contains}
use Rattle.std.proofs.lemmas.Bool.{false≢true}
use Rattle.std.proofs.lemmas.Option.{same_Some}
use Rattle.types.specs.Components.{components_of}
use Rattle.types.specs.declared.form.Step.{Step}
use Rattle.types.specs.declared.form.Step.TheVariants as step
use Rattle.types.specs.declared.form.TypeId.{TypeId}
use Rattle.types.specs.Types.{is_structured}
use Rattle.typed_tree.specs.Accesses.{AtVariable, accessed}
use Rattle.typed_tree.specs.WellFormed.{of_one}
use Rattle.typed_tree.specs.declared.tree.Variable.{Variable}
use Rattle.typed_tree.specs.declared.tree.Selector.{Selector}
use Rattle.typed_tree.specs.declared.tree.Selector.TheVariants.{Element, Field}
use Rattle.typed_tree.specs.declared.tree.Tree.{Tree}
use Rattle.domain.specs.Interval.{Interval}
use Rattle.meaning.specs.declared.value.Value.{Value}
use Rattle.meaning.specs.Store.{Environment, Place, Store}
use Rattle.meaning.specs.Store as store
use Rattle.checker_state.specs.Holds.{IsIn, IsOfRow, moment}
use Rattle.checker_state.proofs.Apart.{part}
use Rattle.checker_rows.specs.Leaves.{Leaf, is_named, leaves_of}
use Rattle.checker_rows.specs.Rows.{all_parts, indexes_of, is_structured_variable, leaf_step, rows_accessed}
use Rattle.checker_rows.proofs.Numbered.{below-or, has-contains}
use Rattle.checker_state.specs.Stores.{Index, Reach}
use Rattle.checker_state.specs.Knows.{AreIndexes, BeginWith, IsReach, IsReached}
use Rattle.checker_loops.proofs.VariableRows.{under-plain, variable-accessed, variable-row}
use Rattle.checker_loops.proofs.AliasedStores.{Pairs, at-head, head-or_tail, in-tail}
use Rattle.checker_calls.specs.Environments.{Proper, place_type}
use Rattle.checker_calls.proofs.Passed.{AreComponentsOf, AreIndexesOn, IsReachedBy, LieIn}
use Rattle.checker_rows.proofs.Selected.{Matches}
use Rattle.checker_rows.proofs.Accessed.{RowsAre}
use Rattle.checker_calls.proofs.Reached.{bound-one}
use Rattle.checker_expressions.proofs.SoundRows.{indexes-many, indexes-then}
use Rattle.cert_checker.specs.Walk.{Stores, alike, paired}
use Rattle.cert_checker.proofs.SoundStores.{AreFormed, AreReached, AreTargets}
use Rattle.checker_calls.proofs.AliasedTypes.{AreTyped}
use Rattle.checker_calls.proofs.Fitting.{part-accessed}

-- ---- components with values

-- the components of a type behind a way, each with its value
abbrev pub zipped : List Step → List (List Step) → List Value → Pairs
zipped way [] values = []
zipped way (rest ∷ components) [] = []
zipped way (rest ∷ components) (v ∷ values) = (way ++ rest, v) ∷ zipped way components values

pub record IsZipped (way : List Step) (components : List (List Step)) (values : List Value) (pair : List Step × Value) : Type 0 where
  pub k : ℕ
  pub rest : List Step
  pub rest_is : slice_get components k ≡ Some rest
  pub value_is : slice_get values k ≡ Some pair.1
  pub steps_are : pair.0 ≡ way ++ rest

pub zipped-at : (way : List Step) (components : List (List Step)) (values : List Value) (pair : List Step × Value)
    → Contains (zipped way components values) pair → IsZipped way components values pair
zipped-at way [] values pair inside = absurd (omega (arith, inside.1))
zipped-at way (rest ∷ components) [] pair inside = absurd (omega (arith, inside.1))
zipped-at way (rest ∷ components) (v ∷ values) pair inside =
    ⊎_elim
    (λ same. record {
      k = 0;
      rest = rest;
      rest_is = refl;
      value_is = ap (λ (p : List Step × Value). Some p.1) same;
      steps_are = ap (λ (p : List Step × Value). p.0) (sym same);
    })
    (λ later.
    let at = zipped-at way components values pair later in
    record { k = suc at.k; rest = at.rest; rest_is = at.rest_is; value_is = at.value_is; steps_are = at.steps_are })
    (head-or_tail (way ++ rest, v) pair (zipped way components values) inside)

pub zipped-has : (way : List Step) (components : List (List Step)) (values : List Value) → length components ≡ length values → (rest : List Step)
    → Contains components rest → (pair : List Step × Value) × Contains (zipped way components values) pair × (pair.0 ≡ way ++ rest)
zipped-has way [] values same rest inside = absurd (omega (arith, inside.1))
zipped-has way (first ∷ components) [] same rest inside = absurd (omega (arith, same))
zipped-has way (first ∷ components) (v ∷ values) same rest inside =
    ⊎_elim
    (λ is. ((way ++ first, v), at-head (way ++ first, v) (zipped way components values), ap (λ (r : List Step). way ++ r) is))
    (λ later.
    let found = zipped-has way components values (omega (arith, same)) rest later in
    (found.0, in-tail (way ++ first, v) found.0 (zipped way components values) found.1, found.2))
    (head-or_tail first rest components inside)

-- such values are ones of the types of their places
pub zipped-typed : (tree : Tree) (pairs : List (ℕ × ℕ)) (block activations : ℕ) (env : Environment) → Proper tree pairs block activations env → (root : ℕ)
    (home : Place) → env.variables root ≡ Some home → (selectors : List Selector) (id : TypeId)
    → accessed tree.variables.items tree.types (AtVariable root) selectors ≡ Some id → (way : List Step) → Matches selectors way → (values : List Value)
    → AreComponentsOf tree.types id values → AreTyped tree env root (zipped way (components_of tree.types id) values)
zipped-typed tree pairs block activations env proper root home at selectors id typed way matches values components pair place inside place_is =
    let of = zipped-at way (components_of tree.types id) values pair inside in
    let own = components.each of.k of.rest pair.1 of.rest_is of.value_is in
    let there : Some (part home (way ++ of.rest)) ≡ Some place =
    ap (λ (found : Option Place). store.part found (way ++ of.rest)) (sym at)
    ∙ ap (λ (steps : List Step). store.part (env.variables root) steps) (sym of.steps_are) ∙ place_is in
    let same = same_Some (part home (way ++ of.rest)) place there in
    let led = part-accessed tree pairs block activations env proper root selectors id typed home at way of.rest matches in
    (own.0, ap (place_type tree) (sym same) ∙ led ∙ own.1, own.2)

-- ---- rows with ranges

pub alike-at : (range : Interval) (rows : List ℕ) (one : ℕ × Interval) → Contains (alike range rows) one → Contains rows one.0 × (one.1 ≡ range)
alike-at range [] one inside = absurd (omega (arith, inside.1))
alike-at range (row ∷ rows) one inside =
    ⊎_elim
    (λ same.
    (subst (λ (r : ℕ). Contains (row ∷ rows) r) (ap (λ (o : ℕ × Interval). o.0) same) (at-head row rows), ap (λ (o : ℕ × Interval). o.1) (sym same)))
    (λ later. let at = alike-at range rows one later in (in-tail row one.0 rows at.0, at.1))
    (head-or_tail (row, range) one (alike range rows) inside)

pub alike-has : (range : Interval) (rows : List ℕ) (row : ℕ) → Contains rows row → Contains (alike range rows) (row, range)
alike-has range [] row inside = absurd (omega (arith, inside.1))
alike-has range (first ∷ rows) row inside =
    ⊎_elim (λ same. subst (λ (r : ℕ). Contains (alike range (first ∷ rows)) (r, range)) same (at-head (first, range) (alike range rows)))
    (λ later. in-tail (first, range) (row, range) (alike range rows) (alike-has range rows row later)) (head-or_tail first row rows inside)

pub record IsPaired (rows : List ℕ) (ranges : List Interval) (one : ℕ × Interval) : Type 0 where
  pub j : ℕ
  pub row_is : slice_get rows j ≡ Some one.0
  pub range_is : slice_get ranges j ≡ Some one.1

pub paired-at : (rows : List ℕ) (ranges : List Interval) (one : ℕ × Interval) → Contains (paired rows ranges) one → IsPaired rows ranges one
paired-at [] ranges one inside = absurd (omega (arith, inside.1))
paired-at (row ∷ rows) [] one inside = absurd (omega (arith, inside.1))
paired-at (row ∷ rows) (range ∷ ranges) one inside =
    ⊎_elim
    (λ same. record {
      j = 0;
      row_is = ap (λ (o : ℕ × Interval). Some o.0) same;
      range_is = ap (λ (o : ℕ × Interval). Some o.1) same;
    })
    (λ later.
    let at = paired-at rows ranges one later in
    record { j = suc at.j; row_is = at.row_is; range_is = at.range_is })
    (head-or_tail (row, range) one (paired rows ranges) inside)

pub paired-has : (rows : List ℕ) (ranges : List Interval) → length rows ≡ length ranges → (row : ℕ) → Contains rows row
    → (range : Interval) × Contains (paired rows ranges) (row, range)
paired-has [] ranges same row inside = absurd (omega (arith, inside.1))
paired-has (first ∷ rows) [] same row inside = absurd (omega (arith, same))
paired-has (first ∷ rows) (range ∷ ranges) same row inside =
    ⊎_elim
    (λ is. (range, subst (λ (r : ℕ). Contains (paired (first ∷ rows) (range ∷ ranges)) (r, range)) is (at-head (first, range) (paired rows ranges))))
    (λ later.
    let found = paired-has rows ranges (omega (arith, same)) row later in
    (found.0, in-tail (first, range) (row, found.0) (paired rows ranges) found.1))
    (head-or_tail first row rows inside)

-- ---- ways

number-same : (i j : ℤ) (more others : List ℤ) → i ∷ more ≡ j ∷ others → (i ≡ j) × (more ≡ others)
number-same i j more others is = (cc, cc)

-- to the same indexes selectors have one way
pub same-way : (selectors : List Selector) (way other : List Step) → Matches selectors way → Matches selectors other → indexes_of way ≡ indexes_of other
    → way ≡ other
same-way [] [] [] matches others is = refl
same-way [] [] (t ∷ other) matches others is = absurd others
same-way [] (s ∷ way) other matches others is = absurd matches
same-way (Element fits cells ∷ selectors) [] other matches others is = absurd matches
same-way (Field position offset ∷ selectors) [] other matches others is = absurd matches
same-way (Element fits cells ∷ selectors) (s ∷ way) [] matches others is = absurd others
same-way (Field position offset ∷ selectors) (s ∷ way) [] matches others is = absurd others
same-way (Element fits cells ∷ selectors) (step.Element i ∷ way) (step.Element j ∷ other) matches others is =
    let same = number-same i j (indexes_of way) (indexes_of other) is in
    ap (λ (n : ℤ). step.Element n ∷ way) same.0 ∙ ap (λ (w : List Step). step.Element j ∷ w) (same-way selectors way other matches.2 others.2 same.1)
same-way (Element fits cells ∷ selectors) (step.Element i ∷ way) (step.Field b ∷ other) matches others is = absurd others
same-way (Element fits cells ∷ selectors) (step.Field a ∷ way) (t ∷ other) matches others is = absurd matches
same-way (Field position offset ∷ selectors) (step.Element i ∷ way) (t ∷ other) matches others is = absurd matches
same-way (Field position offset ∷ selectors) (step.Field a ∷ way) (step.Element j ∷ other) matches others is = absurd others
same-way (Field position offset ∷ selectors) (step.Field a ∷ way) (step.Field b ∷ other) matches others is =
    let same : a ≡ b = sym matches.0 ∙ others.0 in
    ap (λ (p : ℕ). step.Field p ∷ way) same
    ∙ ap (λ (w : List Step). step.Field b ∷ w) (same-way selectors way other matches.1 others.1 is)

-- indexes whose forms are known are the same numbers wherever they are
forms-same : (env : Environment) (store : Store) (indexes : List Index) (numbers own : List ℤ) → AreFormed indexes → AreIndexes env store indexes numbers
    → AreIndexesOn env store indexes own → length own ≡ length indexes → numbers ≡ own
forms-same env store [] [] [] formed are on many = refl
forms-same env store [] [] (n ∷ own) formed are on many = absurd (omega (arith, many))
forms-same env store [] (number ∷ numbers) own formed are on many = absurd are
forms-same env store (index ∷ indexes) [] own formed are on many = absurd are
forms-same env store (index ∷ indexes) (number ∷ numbers) [] formed are on many = absurd on
forms-same env store (index ∷ indexes) (number ∷ numbers) (n ∷ own) ((b, form_is), formed) are on many =
    let same = bound-one (moment env store) b number n (are.0 b form_is) (on.0.of_form b form_is) in
    ap (λ (m : ℤ). m ∷ numbers) same
    ∙ ap (λ (all : List ℤ). n ∷ all) (forms-same env store indexes numbers own formed are.1 on.1 (omega (arith, many)))

-- the first indexes of a way, as many as there are
begin-same : (numbers indexes more : List ℤ) → length numbers ≡ length indexes → BeginWith numbers (indexes ++ more) → numbers ≡ indexes
begin-same [] [] more many begins = refl
begin-same [] (index ∷ indexes) more many begins = absurd (omega (arith, many))
begin-same (number ∷ numbers) [] more many begins = absurd (omega (arith, many))
begin-same (number ∷ numbers) (index ∷ indexes) more many begins =
    ap (λ (n : ℤ). n ∷ numbers) (sym begins.0)
    ∙ ap (λ (all : List ℤ). index ∷ all) (begin-same numbers indexes more (omega (arith, many)) begins.1)

on-indexes : (env : Environment) (store : Store) (indexes : List Index) (numbers : List ℤ) → AreIndexesOn env store indexes numbers
    → length numbers ≡ length indexes → AreIndexes env store indexes numbers
on-indexes env store [] [] on many = tt
on-indexes env store [] (number ∷ numbers) on many = absurd (omega (arith, many))
on-indexes env store (index ∷ indexes) [] on many = absurd on
on-indexes env store (index ∷ indexes) (number ∷ numbers) on many = (on.0.of_form, on-indexes env store indexes numbers on.1 (omega (arith, many)))

-- what is accessed is no variable's own row, unless that is an entire variable which isn't structured
pub behind-variables : (tree : Tree) (root : ℕ) (selectors : List Selector) → (selectors ≡ [] → is_structured_variable tree root ≡ true) → (row : ℕ)
    → Contains (rows_accessed tree (AtVariable root) selectors) row → length tree.variables.items ≤ row
behind-variables tree root selectors structured row inside =
    ⊎_elim
    (λ (within : row < length tree.variables.items).
    let own = variable-row tree (AtVariable root) selectors row inside within in
    absurd (false≢true
    (sym (under-plain tree root (map leaf_step selectors) row inside within)
    ∙ subst (λ (r : ℕ). is_structured_variable tree r ≡ true) own.0 (structured own.1))))
    (λ beyond. let is = beyond.1 in omega (arith, is)) (below-or (length tree.variables.items) row)

-- a structured variable as a whole
pub structured-whole : (tree : Tree) (root : ℕ) (id : TypeId) → accessed tree.variables.items tree.types (AtVariable root) [] ≡ Some id
    → is_structured tree.types id ≡ true → is_structured_variable tree root ≡ true
structured-whole tree root id typed structured =
    let variable = variable-accessed tree root [] id typed in
    ap (of_one (λ (v : Variable). is_structured tree.types v.type_id)) variable.1
    ∙ ap (is_structured tree.types) (same_Some variable.0.type_id id variable.2) ∙ structured

-- ---- what is reached

module _ (tree : Tree) (root : ℕ) (selectors : List Selector) (id : TypeId)
    (rows : RowsAre tree root (rows_accessed tree (AtVariable root) selectors) selectors id) (env : Environment) (store : Store) (way : List Step)
    (matches : Matches selectors way) where
  abbrev touched : List ℕ
  touched = rows_accessed tree (AtVariable root) selectors

  abbrev Behind : List Step → Type 0
  Behind steps = (rest : List Step) × (steps ≡ way ++ rest) × Contains (components_of tree.types id) rest

  -- what is reached of the rows lies behind the way
  pub reached-behind : (reach : Reach) → IsReachedBy env store selectors way reach → AreFormed reach.indexes → (row : ℕ) (steps : List Step)
      → Contains touched row → IsOfRow (all_parts tree) row steps → IsReached env store reach steps → Behind steps
  reached-behind reach reached formed row steps inside of_row (all, (numbers, are, begins)) =
      let (other, rest, is, others, has) = rows.lies row steps inside of_row in
      let count = reached.all all in
      let many = indexes-many selectors way matches in
      let own = forms-same env store reach.indexes numbers (indexes_of way) formed are reached.indexes (omega (arith, many, count)) in
      let both = indexes-many selectors other others in
      let as_many : length numbers ≡ length (indexes_of way) = ap length own in
      let first = begin-same numbers (indexes_of other) (indexes_of rest) (omega (arith, as_many, many, both))
      (subst (BeginWith numbers) (ap indexes_of is ∙ indexes-then other rest) begins) in
      let same : way ≡ other = same-way selectors way other matches others (sym own ∙ first) in
      (rest, is ∙ ap (λ (w : List Step). w ++ rest) (sym same), has)

  pub is-reach : (reach : Reach) → IsReachedBy env store selectors way reach → IsReach env store reach
  is-reach reach reached all =
      let count = reached.all all in
      let many = indexes-many selectors way matches in
      (indexes_of way, on-indexes env store reach.indexes (indexes_of way) reached.indexes (omega (arith, many, count)))

  -- ---- values for the components of the type

  module _ (values : List Value) (many : length (components_of tree.types id) ≡ length values) where
    abbrev pairs : Pairs
    pairs = zipped way (components_of tree.types id) values

    pub zipped-reached : (stores : Stores) → ((one : ℕ × Interval) → Contains stores one → Contains touched one.0) → (reach : Reach)
        → IsReachedBy env store selectors way reach → AreFormed reach.indexes → AreReached (all_parts tree) env reach pairs stores store
    zipped-reached stores are reach reached formed one steps inside of_row is =
        let behind = reached-behind reach reached formed one.0 steps (are one inside) of_row is in
        let found = zipped-has way (components_of tree.types id) values many behind.0 behind.2 in
        (found.0, found.1, found.2 ∙ sym behind.1)

    zipped-row : (pair : List Step × Value) → Contains pairs pair → (row : ℕ) × Contains touched row × IsOfRow (all_parts tree) row pair.0
    zipped-row pair inside =
        let at = zipped-at way (components_of tree.types id) values pair inside in
        let found = rows.covers way at.rest matches (has-contains (components_of tree.types id) at.rest (at.k, at.rest_is)) in
        (found.0, found.1, subst (IsOfRow (all_parts tree) found.0) (sym at.steps_are) found.2)

    -- each row with the same range
    pub alike-targets : (range : Interval) → ((v : Value) → Contains values v → IsIn range v)
        → AreTargets (all_parts tree) root pairs (alike range touched)
    alike-targets range each = record {
      roots = λ one inside. rows.root_is one.0 (alike-at range touched one inside).0;
      in_rows = λ pair inside.
          let found = zipped-row pair inside in
          ((found.0, range), alike-has range touched found.0 found.1, found.2);
      in_ranges = λ pair one inside listed of_row.
          let at = zipped-at way (components_of tree.types id) values pair inside in
          subst (λ (r : Interval). IsIn r pair.1) (sym (alike-at range touched one listed).1)
          (each pair.1 (has-contains values pair.1 (at.k, at.value_is)));
    }

    -- each with its own
    pub paired-targets : (ranges : List Interval) → length touched ≡ length ranges → LieIn tree.types id ranges values
        → ((rest : List Step) (j row : ℕ) → slice_get touched j ≡ Some row → IsOfRow (all_parts tree) row (way ++ rest)
        → (leaf : Leaf) × (slice_get (leaves_of tree.types id) j ≡ Some leaf) × (is_named leaf.steps rest ≡ true))
        → AreTargets (all_parts tree) root pairs (paired touched ranges)
    paired-targets ranges same lie named = record {
      roots = λ one inside. let at = paired-at touched ranges one inside in rows.root_is one.0 (has-contains touched one.0 (at.j, at.row_is));
      in_rows = λ pair inside.
          let found = zipped-row pair inside in
          let range = paired-has touched ranges same found.0 found.1 in
          ((found.0, range.0), range.1, found.2);
      in_ranges = λ pair one inside listed of_row.
          let at = zipped-at way (components_of tree.types id) values pair inside in
          let pairing = paired-at touched ranges one listed in
          let leaf = named at.rest pairing.j one.0 pairing.row_is (subst (IsOfRow (all_parts tree) one.0) at.steps_are of_row) in
          lie at.k pairing.j at.rest leaf.0 pair.1 one.1 at.rest_is leaf.1 leaf.2 at.value_is pairing.range_is;
    }
