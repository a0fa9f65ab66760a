-- What the checker did where values are stored, from what it did over the parts of it.
use Rattle.std.proofs.Common.{◌≡◌, ◌∙◌, refl, sym, ap, ap₂, subst, cond, ℕ, Bool, true, false, List, [], ◌∷◌, ◌++◌, Option, None, map}
use Rattle.std.proofs.lemmas.Bool.{false≢true}
use Rattle.place.specs.declared.Place.{Place as SourcePlace}
use Rattle.typed_tree.specs.declared.tree.Access.{Access}
use Rattle.typed_tree.specs.declared.tree.Assignment.{Assignment}
use Rattle.typed_tree.specs.declared.tree.Copying.{Copying}
use Rattle.typed_tree.specs.declared.tree.Expr.{Expr}
use Rattle.typed_tree.specs.declared.tree.ReadVariable.{ReadVariable}
use Rattle.typed_tree.specs.declared.tree.Selector.{Selector}
use Rattle.typed_tree.specs.declared.tree.Tree.{Tree}
use Rattle.typed_tree.specs.Accesses.{Origin, origin_of, root_of}
use Rattle.domain.specs.Interval.{Interval}
use Rattle.checker_rows.specs.Limits.{limits_of}
use Rattle.checker_rows.specs.Rows.{is_ordinal_variable, rows_accessed}
use Rattle.checker_state.specs.Bounds.{Bound}
use Rattle.checker_state.specs.Changes.{assigned}
use Rattle.checker_state.specs.Conditions.{bound_form}
use Rattle.checker_state.specs.declared.value.Known.{Known}
use Rattle.checker_state.specs.Values.{known_range}
use Rattle.checker_state.specs.State.{State}
use Rattle.checker_state.specs.Stores.{Reach, all_stored}
use Rattle.checker_trail.specs.declared.state.State.{State as Kept}
use Rattle.checker_trail.specs.Trail.{Moves}
use Rattle.checker_loops.specs.Aliases.{reach_unless_alias, unless_alias, with_aliases_stored}
use Rattle.checker_expressions.specs.View.{state_of}
use Rattle.checker_expressions.specs.Visits.{all_counted}
use Rattle.checker_expressions.specs.Walk.{Walking, ◌>>=◌, access_walk, changed_by, fitting, index_pieces, piece_of, value_walk, whole_walk}
use Rattle.checker_calls.proofs.Origins.{root_is}
use Rattle.checker_expressions.proofs.Counted.{counted-both}
use Rattle.cert_checker.specs.declared.walk.Walk.{Walk}
use Rattle.cert_checker.specs.View.{WalkGoes, at_state, context_of, row_stored}
use Rattle.checker_expressions.specs.declared.noting.Noted.{Noted}
use Rattle.checker_expressions.specs.Walk.{Valued, noting_walk}
use Rattle.domain.specs.Versions.{has}
use Rattle.domain.specs.declared.versions.Extension.TheVariants.{Growths}
use Rattle.domain.specs.declared.versions.Extension.{Extension}
use Rattle.cert_checker.specs.Steps.{noted_where, unnoted_walk, value_step}
use Rattle.cert_checker.specs.Walk.{Stores, aliases_here, alike, assign, assign_component, assign_entire, assign_to, assign_value, assignment_walk, change}
use Rattle.cert_checker.specs.Walk.{copy_to, copying_walk, from_entry, is_whole_variable, paired, point_place, reach_stored, read_value, store_to, stores_made}
use Rattle.cert_checker.proofs.Steps.{goes-from_entry, goes-here, goes-then, moved}

-- ---- what the state did

module _ {old : Walk} {state : Kept} (root : ℕ) (aliases : List ℕ) (aliases_are : aliases ≡ aliases_here (context_of old) root) where
  -- values were stored, and the aliases of their variable may have them
  pub stored-goes : (reach : Reach) (stores : Stores)
      → Moves (λ known. all_stored (reach_unless_alias aliases reach) stores
      (with_aliases_stored old.flow.state.table.now aliases (map (row_stored old.flow.state.table.now) stores) known)) old.flow.state state
      → WalkGoes (stores_made root reach stores) old (at_state state old) tt
  stored-goes reach stores moves =
      let tree = old.flow.state.table.now in
      let step : List ℕ → State → State =
      λ some known. all_stored (reach_unless_alias some reach) stores (with_aliases_stored tree some (map (row_stored tree) stores) known) in
      goes-here (changed_by (step aliases)) (stores_made root reach stores)
      (ap (λ (some : List ℕ). changed_by (step some) (context_of old) (state_of old.flow)) aliases_are) (moved moves)

  -- a variable got a value
  pub assigned-goes : (range : Interval) (form : Option Bound) (step : Option Interval)
      → Moves (λ known. assigned root range (unless_alias aliases form) step
      (with_aliases_stored old.flow.state.table.now aliases (row_stored old.flow.state.table.now (root, range) ∷ []) known)) old.flow.state state
      → WalkGoes (assign root form step range) old (at_state state old) tt
  assigned-goes range form by_step moves =
      let tree = old.flow.state.table.now in
      let step : List ℕ → State → State =
      λ some known. assigned root range (unless_alias some form) by_step (with_aliases_stored tree some (row_stored tree (root, range) ∷ []) known) in
      goes-here (changed_by (step aliases)) (assign root form by_step range)
      (ap (λ (some : List ℕ). changed_by (step some) (context_of old) (state_of old.flow)) aliases_are) (moved moves)

-- ---- stores at a place

module _ (place : SourcePlace) (root : ℕ) {old mid new : Walk} where
  pub store-goes : (reach : Reach) (stores : Stores) → WalkGoes (change place root) old mid tt → WalkGoes (stores_made root reach stores) mid new tt
      → WalkGoes (store_to place root reach stores) old new tt
  store-goes reach stores one two = goes-then (change place root) (λ _. stores_made root reach stores) one two

-- one of two walks
either-goes : (test : Bool) (one other : Walking (Unit {0})) {old new : Walk} → (test ≡ true → WalkGoes one old new tt) →
    (test ≡ false → WalkGoes other old new tt)
    → WalkGoes (cond test one other) old new tt
either-goes true one other first second = first refl
either-goes false one other first second = second refl

module _ (place : SourcePlace) (access : Access) (reach : Reach) where
  abbrev origin : Origin
  origin = origin_of access

  abbrev selectors : List Selector
  selectors = access.selectors.items

  -- the access has its root, wherever it begins
  at-root : (walk : ℕ → Walking (Unit {0})) {old new : Walk} → WalkGoes (walk access.root) old new tt → WalkGoes (walk (root_of origin)) old new tt
  at-root walk {old = old} {new = new} one = subst (λ (r : ℕ). WalkGoes (walk r) old new tt) (sym (root_is access)) one

  -- a variable as a whole gets the value
  pub entire-goes : {old mid new : Walk} (form : Option Bound) (step : Option Interval) (range : Interval) → is_whole_variable origin selectors ≡ true
      → WalkGoes (change place access.root) old mid tt → WalkGoes (assign access.root form step range) mid new tt
      → WalkGoes (assign_to place origin selectors reach form step range) old new tt
  entire-goes {old = old} {new = new} form step range is one two =
      either-goes (is_whole_variable origin selectors) (assign_entire place (root_of origin) form step range)
      (assign_component place origin selectors reach range)
      (λ so. at-root (λ (r : ℕ). assign_entire place r form step range)
      (goes-then (change place access.root) (λ _. assign access.root form step range) one two))
      (λ so. absurd (false≢true (sym so ∙ is)))

  pub component-goes : {old new : Walk} (form : Option Bound) (step : Option Interval) (range : Interval) → is_whole_variable origin selectors ≡ false
      → WalkGoes (assign_component place origin selectors reach range) old new tt → WalkGoes (assign_to place origin selectors reach form step range) old new tt
  component-goes {old = old} {new = new} form step range is one =
      either-goes (is_whole_variable origin selectors) (assign_entire place (root_of origin) form step range)
      (assign_component place origin selectors reach range)
      (λ so. absurd (false≢true (sym is ∙ so))) (λ so. one)

  module _ (old : Walk) (tree : Tree) (rows : List ℕ) (tree_is : tree ≡ old.flow.state.table.now)
      (rows_are : rows ≡ rows_accessed tree origin selectors) where
    rows-here : rows ≡ rows_accessed old.flow.state.table.now origin selectors
    rows-here = rows_are ∙ ap (λ (t : Tree). rows_accessed t origin selectors) tree_is

    -- a value is stored to the rows that are accessed
    pub alike-goes : {new : Walk} (range : Interval) → WalkGoes (store_to place access.root reach (alike range rows)) old new tt
        → WalkGoes (assign_component place origin selectors reach range) old new tt
    alike-goes range one =
        goes-here (store_to place (root_of origin) reach (alike range rows)) (assign_component place origin selectors reach range)
        (ap (λ (r : List ℕ). store_to place (root_of origin) reach (alike range r) (context_of old) (state_of old.flow)) rows-here)
        (at-root (λ (r : ℕ). store_to place r reach (alike range rows)) one)

    -- so are the components of a whole value
    pub paired-goes : {new : Walk} (ranges : List Interval) → WalkGoes (store_to place access.root reach (paired rows ranges)) old new tt
        → WalkGoes (copy_to place origin selectors reach ranges) old new tt
    paired-goes ranges one =
        goes-here (store_to place (root_of origin) reach (paired rows ranges)) (copy_to place origin selectors reach ranges)
        (ap (λ (r : List ℕ). store_to place (root_of origin) reach (paired r ranges) (context_of old) (state_of old.flow)) rows-here)
        (at-root (λ (r : ℕ). store_to place r reach (paired rows ranges)) one)

-- what is accessed gets the value of an expression, by the form that this has in the program
pub value-goes : (assignment : Assignment) (reach : Reach) (notes : List Noted) (passed : Known) (tree : Tree) (form : Option Bound) (step : Option Interval)
    (range : Interval) {old new : Walk} → tree ≡ old.flow.state.table.now
    → form ≡ bound_form (is_ordinal_variable tree) old.flow.grounds.version assignment.value
    → step ≡ value_step tree (root_of (origin_of assignment.target)) assignment.value notes → range ≡ known_range passed
    → WalkGoes (assign_to assignment.becomes (origin_of assignment.target) assignment.target.selectors.items reach form step range) old new tt
    → WalkGoes (assign_value assignment reach notes passed) old new tt
value-goes assignment reach notes passed tree form step range {old = old} tree_is form_is step_is range_is one =
    let root = root_of (origin_of assignment.target) in
    let stores = λ (f : Option Bound) (s : Option Interval) (r : Interval).
    assign_to assignment.becomes (origin_of assignment.target) assignment.target.selectors.items reach f s r in
    goes-here (stores form step range) (assign_value assignment reach notes passed)
    (ap₂ (λ (f : Option Bound) (r : Interval). stores f step r (context_of old) (state_of old.flow))
    (form_is ∙ ap (λ (t : Tree). bound_form (is_ordinal_variable t) old.flow.grounds.version assignment.value) tree_is) range_is
    ∙ ap (λ (s : Option Interval).
    stores (bound_form (is_ordinal_variable old.flow.state.table.now) old.flow.grounds.version assignment.value) s (known_range passed) (context_of old)
    (state_of old.flow))
    (step_is ∙ ap (λ (t : Tree). value_step t root assignment.value notes) tree_is)) one

-- what is accessed gets any value of its type, at the point where it is read
pub read-goes : (name place : SourcePlace) (one : ReadVariable) (tree : Tree) (selectors : List Selector) (reach held : Reach) (range : Interval)
    {old new : Walk}
    → tree ≡ old.flow.state.table.now → place ≡ point_place tree one.point name → selectors ≡ one.access.selectors.items
    → held ≡ reach_stored (context_of old) selectors [] reach → range ≡ limits_of one.range
    → WalkGoes (assign_to place (origin_of one.access) one.access.selectors.items held None None range) old new tt → WalkGoes (read_value name one reach) old
    new tt
read-goes name place one tree selectors reach held range {old = old} tree_is place_is selectors_are held_is range_is stores =
    let own = one.access.selectors.items in
    let before = old.flow.state.table.now in
    let form = λ (p : SourcePlace) (r : Reach) (i : Interval).
    assign_to p (origin_of one.access) own r None None i (context_of old) (state_of old.flow) in
    let place_here : place ≡ point_place before one.point name = place_is ∙ ap (λ (t : Tree). point_place t one.point name) tree_is in
    let held_here : held ≡ reach_stored (context_of old) own [] reach =
    held_is ∙ ap (λ (s : List Selector). reach_stored (context_of old) s [] reach) selectors_are in
    goes-here (assign_to place (origin_of one.access) own held None None range) (read_value name one reach)
    (ap (λ (p : SourcePlace). form p held range) place_here
    ∙ ap₂ (λ (r : Reach) (i : Interval). form (point_place before one.point name) r i) held_here range_is) stores

-- ---- values that may be noted

-- where certificates have an extension
pub noting-goes : (extension : Extension) (e : Expr) (told : Valued) {old new : Walk} → has (context_of old).version extension ≡ true
    → WalkGoes (noting_walk [] e) old new told
    → WalkGoes (noted_where extension e) old new told
noting-goes extension e told {old = old} is one =
    goes-here (noting_walk [] e) (noted_where extension e)
    (ap (λ (b : Bool). cond b (noting_walk [] e (context_of old)) (unnoted_walk e (context_of old)) (state_of old.flow)) (sym is)) one

-- where they don't
pub unnoted-goes : (extension : Extension) (e : Expr) (known : Known) {old new : Walk} → has (context_of old).version extension ≡ false
    → WalkGoes (value_walk e) old new known
    → WalkGoes (noted_where extension e) old new (record { known = known; noted = [] })
unnoted-goes extension e known {old = old} {new = new} is one =
    goes-here (unnoted_walk e) (noted_where extension e)
    (ap (λ (b : Bool). cond b (noting_walk [] e (context_of old)) (unnoted_walk e (context_of old)) (state_of old.flow)) (sym is))
    (record {
      unless_short = λ long.
          let own = one.unless_short long in
          record {
            was_long = own.was_long;
            has_done = λ ready.
                let came = own.has_done ready in
                record {
                  goes = came.goes;
                  noted = record {
                    context_is = came.noted.context_is;
                    aliases_are = came.noted.aliases_are;
                    open_is = came.noted.open_is;
                    broken_is = came.noted.broken_is;
                  };
                  value_is = ap (λ (k : Known). (let told : Valued = record { known = k; noted = [] } in told)) came.value_is;
                  state_is = came.state_is;
                };
          };
    })

-- ---- whole statements

-- an assignment, with its index expressions and its selectors as the checker has them
pub assignment-goes : (assignment : Assignment) (indexes : List Expr) (selectors : List Selector) (reach held : Reach) (told : Valued) (passed : Known)
    {old reached valued tested new : Walk}
    → indexes ≡ assignment.indexes.items → WalkGoes (access_walk assignment.target (index_pieces indexes)) old reached reach
    → WalkGoes (noted_where Growths assignment.value) reached valued told → WalkGoes (fitting assignment.fits told.known) valued tested passed
    → selectors ≡ assignment.target.selectors.items → held ≡ reach_stored (context_of tested) selectors (piece_of assignment.value ∷ []) reach
    → WalkGoes (assign_value assignment held told.noted passed) tested new tt
    → WalkGoes (from_entry assignment.number (assignment_walk assignment)) old new tt
assignment-goes assignment indexes _ reach held told passed {old = old} {tested = tested} {new = new} indexes_are accessed valued fits selectors_are
    held_is stores =
    let target = assignment.target in
    let own = target.selectors.items in
    let store : Reach → List Noted → Known → Walking (Unit {0}) =
    λ reach notes passed context. assign_value assignment (reach_stored context own (piece_of assignment.value ∷ []) reach) notes passed context in
    let same : held ≡ reach_stored (context_of tested) own (piece_of assignment.value ∷ []) reach =
    held_is ∙ ap (λ (s : List Selector). reach_stored (context_of tested) s (piece_of assignment.value ∷ []) reach) selectors_are in
    let stored : WalkGoes (store reach told.noted passed) tested new tt =
    goes-here (assign_value assignment held told.noted passed) (store reach told.noted passed)
    (ap (λ (r : Reach). assign_value assignment r told.noted passed (context_of tested) (state_of tested.flow)) same) stores in
    let from_access : List Expr → Walking (Unit {0}) =
    λ some. access_walk target (index_pieces some)
    >>= λ reach. noted_where Growths assignment.value >>= λ told. fitting assignment.fits told.known >>= store reach told.noted in
    goes-from_entry assignment.number (assignment_walk assignment)
    (goes-here (from_access indexes) (assignment_walk assignment)
    (ap (λ (some : List Expr). from_access some (context_of old) (state_of old.flow)) indexes_are)
    (goes-then (access_walk target (index_pieces indexes))
    (λ reach. noted_where Growths assignment.value >>= λ told. fitting assignment.fits told.known >>= store reach told.noted)
    accessed
    (goes-then (noted_where Growths assignment.value) (λ told. fitting assignment.fits told.known >>= store reach told.noted) valued
    (goes-then (fitting assignment.fits told.known) (store reach told.noted) fits stored))))

-- an assignment of a whole value, likewise
pub copying-goes : (copying : Copying) (indexes more later : List Expr) (selectors : List Selector) (reach held : Reach) (ranges : List Interval)
    {old reached valued new : Walk}
    → indexes ≡ copying.indexes.items → WalkGoes (access_walk copying.target (index_pieces indexes)) old reached reach
    → more ≡ copying.value_indexes.items → WalkGoes (whole_walk copying.value (index_pieces more)) reached valued ranges
    → selectors ≡ copying.target.selectors.items → later ≡ copying.value_indexes.items
    → held ≡ reach_stored (context_of valued) selectors (index_pieces later) reach
    → WalkGoes (copy_to copying.becomes (origin_of copying.target) copying.target.selectors.items held ranges) valued new tt
    → WalkGoes (from_entry copying.number (copying_walk copying)) old new tt
copying-goes copying indexes more later _ reach held ranges {old = old} {valued = valued} {new = new} indexes_are accessed more_are whole selectors_are
    later_are held_is stores =
    let target = copying.target in
    let own = target.selectors.items in
    let store : Reach → List Interval → Walking (Unit {0}) =
    λ reach ranges context. copy_to copying.becomes (origin_of target) own
    (reach_stored context own (index_pieces copying.value_indexes.items) reach) ranges context in
    let same : held ≡ reach_stored (context_of valued) own (index_pieces copying.value_indexes.items) reach =
    held_is ∙ ap₂ (λ (s : List Selector) (l : List Expr). reach_stored (context_of valued) s (index_pieces l) reach) selectors_are later_are in
    let stored : WalkGoes (store reach ranges) valued new tt =
    goes-here (copy_to copying.becomes (origin_of target) own held ranges) (store reach ranges)
    (ap (λ (r : Reach). copy_to copying.becomes (origin_of target) own r ranges (context_of valued) (state_of valued.flow)) same) stores in
    let from_access : List Expr → List Expr → Walking (Unit {0}) =
    λ some others. access_walk target (index_pieces some) >>= λ reach. whole_walk copying.value (index_pieces others) >>= store reach in
    goes-from_entry copying.number (copying_walk copying)
    (goes-here (from_access indexes more) (copying_walk copying)
    (ap₂ (λ (some others : List Expr). from_access some others (context_of old) (state_of old.flow)) indexes_are more_are)
    (goes-then (access_walk target (index_pieces indexes)) (λ reach. whole_walk copying.value (index_pieces more) >>= store reach) accessed
    (goes-then (whole_walk copying.value (index_pieces more)) (store reach) whole stored)))

-- ---- entries

-- an entry, and then two pieces
pub both-counted : {Counter : Type 0} (counted : ℕ → Counter → Counter) (number : ℕ) (one two : List ℕ) (before : Counter) {between mid after : Counter}
    → between ≡ counted number before → mid ≡ all_counted counted one between → after ≡ all_counted counted two mid
    → after ≡ all_counted counted (number ∷ (one ++ two)) before
both-counted counted number one two before entered first rest =
    rest ∙ ap (all_counted counted two) (first ∙ ap (all_counted counted one) entered) ∙ sym (counted-both counted one two (counted number before))
