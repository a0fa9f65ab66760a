-- The rows of a program under an access: the components of each lie on the ways of its selectors, and the rows stand side by side with the leaves of the type
-- there.
use Rattle.std.proofs.Common.{arith, ◌≡◌, ⊎_elim, ◌⊎◌, inl, inr, ◌∙◌, sym, ap, refl, subst, ℕ, ◌+◌, ◌<◌, ◌≤◌, Bool, true, false, cond}
use Rattle.std.proofs.Common.{List, [], ◌∷◌, ◌++◌, append-nil, length, map, filter, Option, Some, None}
use Rattle.std.proofs.lemmas.Bool.{and_from, cases_lt, eq-eqb, false≢true}
use Rattle.std.proofs.lemmas.Bool.Decides.{Decides-int_eq}
use Rattle.std.proofs.lemmas.List.{map-append}
use Rattle.std.specs.Ordering.{int_eq}
use Rattle.std.specs.Prelude.{nat_eq, pos}
use Rattle.std.proofs.lemmas.List.{get_or_past}
use Rattle.std.proofs.lemmas.List.FromFn.{get_or-range_with_len, length-range_with_len}
use Rattle.std.proofs.lemmas.Option.{get_or_from_slice_get, none-some, same_Some, slice_get-get_or, slice_get_within}
use Rattle.std.specs.List.{Contains, range_with_len}
use Rattle.std.specs.Option.{option_and_then, option_map}
use Rattle.std.specs.Prelude.{slice_get, slice_index_or}
use Rattle.types.specs.Components.{Steps, components_of}
use Rattle.types.specs.Forms.{Array, Form, Record}
use Rattle.types.specs.Types.{form_at, form_kind, is_structured, is_structured_kind}
use Rattle.types.specs.declared.form.OrdinalRange.{OrdinalRange}
use Rattle.types.specs.declared.form.TypeId.{TypeId}
use Rattle.types.specs.Types.{element_of, field_at}
use Rattle.types.specs.declared.form.ArrayElement.{ArrayElement}
use Rattle.types.specs.declared.form.RecordField.{RecordField}
use Rattle.typed_tree.specs.declared.tree.Scalar.TheVariants as scalar
use Rattle.typed_tree.specs.declared.tree.PathStep.{PathStep}
use Rattle.typed_tree.specs.declared.tree.PathStep.TheVariants as path
use Rattle.typed_tree.specs.declared.tree.Selector.TheVariants.{Element, Field}
use Rattle.typed_tree.specs.Accesses.{Origin, AtVariable, AtRecord, accessed, are_values_of, element_type, field_type, led, lying, root_of}
use Rattle.typed_tree.specs.Accesses.{selected, stepped}
use Rattle.typed_tree.specs.declared.tree.Selector.{Selector}
use Rattle.typed_tree.specs.declared.tree.Tree.{Tree}
use Rattle.typed_tree.specs.declared.tree.Variable.{Variable}
use Rattle.checker_rows.specs.Leaves.{Leaf, LeafStep, Elements, FieldAt, begins, behind_elements, is_named, leaves_at, leaves_of, range_at, scalar}
use Rattle.checker_rows.specs.Rows.{LieIn, Parts, Row, all_parts, components_in, indexes_at, indexes_of, leaf_rows, leaf_step, no_parts, parts_of}
use Rattle.checker_rows.specs.Rows.{path_step, row_indexes}
use Rattle.checker_rows.specs.Rows.{rows_accessed, rows_of, rows_under}
use Rattle.checker_rows.proofs.Components.{Has, components_of_scalar, each-alone, each-indexed, each-named, in-field_leaf, mapped-at, only}
use Rattle.checker_rows.proofs.Leafed.{leafed_before, leaves_of_form, leaves_of_scalar}
use Rattle.checker_rows.proofs.Numbered.{IsLeafOf, below-or, contains-has, has-contains, in-filter, leaf-of, leaf-parts, leaf-row}
use Rattle.checker_rows.proofs.Numbered.{of-filter, own-indexes, own-parts, parts-many, row-of_leaf, some-at}
use Rattle.checker_rows.proofs.Selected.{Behind, Matches, Reaches, begins-behind, behind-named, named-behind, path_of, reaches}
use Rattle.checker_rows.proofs.Under.{all_under, leaves_under}
use Rattle.checker_rows.proofs.Variables.{part-there, part_under, row_of, rows-many, rows_before, under_of, variable_first}

module _ (types : List Form) where
  -- a leaf of a structured type lies behind a step
  pub leaf-behind : (id : TypeId) (leaf : Leaf) → is_structured types id ≡ true → Has (leaves_of types id) leaf → is_named leaf.steps [] ≡ true → ⊥
  leaf-behind id leaf structured has named = by (form_at types id) refl structured
    where
      by : (form : Option Form) → form_at types id ≡ form → is_structured_kind (option_map form_kind form) ≡ true → ⊥
      by (Some (Array packed index element)) is structured =
          let behind = behind_elements (range_at (leafed_before types id) index) in
          let own = leaves_at (leafed_before types id) element in
          let there : Has (map behind own) leaf =
          subst (λ (all : List Leaf). Has all leaf) (leaves_of_form types id (Array packed index element) is) has in
          let found = mapped-at behind own there.0 leaf there.1 in
          false≢true (ap (λ (l : Leaf). is_named l.steps []) found.2 ∙ named)
      by (Some (Record packed fields)) is structured =
          let there = subst (λ (all : List Leaf). Has all leaf) (leaves_of_form types id (Record packed fields) is) has in
          let found = in-field_leaf (leafed_before types id) 0 fields there.0 leaf there.1 in
          false≢true (ap (λ (l : Leaf). is_named l.steps []) found.4 ∙ named)
      by form is structured = absurd (false≢true structured)

-- ---- the rows of a program

-- steps lead to a component of a row
abbrev pub IsOf : Tree → ℕ → Steps → Type 0
IsOf tree row steps = Contains (slice_index_or (all_parts tree) row no_parts).components steps

-- what has a component is the own row of a variable, and the component the variable
pub record IsOwnRow (tree : Tree) (number : ℕ) (steps : Steps) : Type 0 where
  pub within : number < length tree.variables.items
  pub steps_are : steps ≡ []

-- or the row of a leaf, which names the component
pub record IsLeafRow (tree : Tree) (number : ℕ) (steps : Steps) : Type 0 where
  pub k : ℕ
  pub number_is : number ≡ length tree.variables.items + k
  pub row : Row
  pub is : slice_get (leaf_rows tree) k ≡ Some row
  pub parts_are : slice_index_or (all_parts tree) number no_parts ≡ parts_of tree row
  pub leaf : IsLeafOf tree.types 0 tree.variables.items k row
  pub of_type : Has (components_of tree.types leaf.variable.type_id) steps
  pub named : is_named row.leaf.steps steps ≡ true

row-there : (tree : Tree) (number k : ℕ) (steps : Steps) (row : Row) → number ≡ length tree.variables.items + k → slice_get (leaf_rows tree) k ≡ Some row
    → IsOf tree number steps → IsLeafRow tree number steps
row-there tree number k steps row number_is is of_row =
    let leaf = leaf-of tree.types 0 tree.variables.items k row is in
    let parts : slice_index_or (all_parts tree) number no_parts ≡ parts_of tree row =
    ap (λ (n : ℕ). slice_index_or (all_parts tree) n no_parts) number_is ∙ leaf-parts tree k row is in
    let root : row.root ≡ leaf.root = omega (arith, leaf.root_is) in
    let same : slice_get tree.variables.items row.root ≡ Some leaf.variable = ap (slice_get tree.variables.items) root ∙ leaf.variable_is in
    let found = of-filter (is_named row.leaf.steps) (components_in tree.types (slice_get tree.variables.items row.root)) steps
    (subst (λ (p : Parts). Contains p.components steps) parts of_row) in
    record {
      k = k;
      number_is = number_is;
      row = row;
      is = is;
      parts_are = parts;
      leaf = leaf;
      of_type = contains-has (components_of tree.types leaf.variable.type_id) steps
          (subst (λ (v : Option Variable). Contains (components_in tree.types v) steps) same found.0);
      named = found.1;
    }

no-item : {A : Type 0} (item : A) → Contains [] item → ⊥
no-item item (k, within, is) = omega (arith, within)

leaf-row-at : (tree : Tree) (number k : ℕ) (steps : Steps) → number ≡ length tree.variables.items + k → IsOf tree number steps → IsLeafRow tree number steps
leaf-row-at tree number k steps number_is of_row =
    ⊎_elim (λ within. let at = some-at (leaf_rows tree) k within in row-there tree number k steps at.0 number_is at.1 of_row)
    (λ beyond.
    let many = parts-many tree in
    let all = rows-many tree in
    let none = get_or_past (all_parts tree) number no_parts (omega (arith, many, all, number_is, beyond)) in
    absurd (no-item steps (subst (λ (p : Parts). Contains p.components steps) none of_row)))
    (cases_lt k (length (leaf_rows tree)))

own-row-at : (tree : Tree) (number : ℕ) (steps : Steps) → number < length tree.variables.items → IsOf tree number steps → steps ≡ []
own-row-at tree number steps within of_row =
    sym (only [] steps (contains-has ([] ∷ []) steps (subst (λ (p : Parts). Contains p.components steps) (own-parts tree number within) of_row)))

pub row-is : (tree : Tree) (number : ℕ) (steps : Steps) → IsOf tree number steps → IsOwnRow tree number steps ⊎ IsLeafRow tree number steps
row-is tree number steps of_row =
    ⊎_elim (λ within. inl (record { within = within; steps_are = own-row-at tree number steps within of_row }))
    (λ beyond. inr (leaf-row-at tree number beyond.0 steps beyond.1 of_row)) (below-or (length tree.variables.items) number)

leaf-inner : (tree : Tree) (row : ℕ) (steps : Steps) → IsLeafRow tree row steps → steps ≡ [] → ⊥
leaf-inner tree row steps is none =
    leaf-behind tree.types is.leaf.variable.type_id is.row.leaf is.leaf.structured (is.leaf.j, is.leaf.leaf_is)
    (subst (λ (s : Steps). is_named is.row.leaf.steps s ≡ true) none is.named)

-- no component of a row behind those of variables is the whole of a variable
pub components-inner : (tree : Tree) (row : ℕ) (steps : Steps) → length tree.variables.items ≤ row → IsOf tree row steps → steps ≡ [] → ⊥
components-inner tree row steps behind of_row none =
    ⊎_elim (λ own. absurd (let within = own.within in omega (arith, behind, within))) (λ leaf. leaf-inner tree row steps leaf none)
    (row-is tree row steps of_row)

leaves-apart : (tree : Tree) (row other : ℕ) (steps : Steps) → IsLeafRow tree row steps → IsLeafRow tree other steps
    → (slice_index_or (all_parts tree) row no_parts).root ≡ (slice_index_or (all_parts tree) other no_parts).root → row ≡ other
leaves-apart tree row other steps a b same =
    let roots : a.row.root ≡ b.row.root = sym (ap (λ (p : Parts). p.root) a.parts_are) ∙ same ∙ ap (λ (p : Parts). p.root) b.parts_are in
    let root : b.leaf.root ≡ a.leaf.root = omega (arith, roots, a.leaf.root_is, b.leaf.root_is) in
    let variable : b.leaf.variable ≡ a.leaf.variable =
    same_Some b.leaf.variable a.leaf.variable (sym b.leaf.variable_is ∙ ap (slice_get tree.variables.items) root ∙ a.leaf.variable_is) in
    let place : slice_get (leaves_of tree.types a.leaf.variable.type_id) b.leaf.j ≡ Some b.row.leaf =
    subst (λ (v : Variable). slice_get (leaves_of tree.types v.type_id) b.leaf.j ≡ Some b.row.leaf) variable b.leaf.leaf_is in
    let j = each-alone tree.types a.leaf.variable.type_id a.leaf.j b.leaf.j a.row.leaf b.row.leaf steps a.leaf.leaf_is place a.named b.named in
    let before = ap (rows_before tree.types tree.variables.items) root in
    omega (arith, a.number_is, b.number_is, a.leaf.number_is, b.leaf.number_is, j, before)

-- two rows have no component in common
pub rows-apart : (tree : Tree) (row other : ℕ) (steps : Steps) → IsOf tree row steps → IsOf tree other steps
    → (slice_index_or (all_parts tree) row no_parts).root ≡ (slice_index_or (all_parts tree) other no_parts).root → row ≡ other
rows-apart tree row other steps one two same =
    ⊎_elim
    (λ a.
    ⊎_elim
    (λ b.
    sym (ap (λ (p : Parts). p.root) (own-parts tree row a.within)) ∙ same ∙ ap (λ (p : Parts). p.root) (own-parts tree other b.within))
    (λ b. absurd (leaf-inner tree other steps b a.steps_are)) (row-is tree other steps two))
    (λ a.
    ⊎_elim (λ b. absurd (leaf-inner tree row steps a b.steps_are)) (λ b. leaves-apart tree row other steps a b same) (row-is tree other steps two))
    (row-is tree row steps one)

-- the indexes on the way to a component of a row are of its values
pub indexes-lie : (tree : Tree) (row : ℕ) (steps : Steps) → IsOf tree row steps → LieIn (indexes_at (rows_of tree) row) (indexes_of steps)
indexes-lie tree number steps of_row =
    ⊎_elim
    (λ own. subst (λ (ranges : List OrdinalRange). LieIn ranges (indexes_of steps)) (sym (own-indexes tree number own.within)) tt)
    (λ is.
    let at : slice_get (rows_of tree) number ≡ Some is.row = ap (slice_get (rows_of tree)) is.number_is ∙ leaf-row tree is.k ∙ is.is in
    subst (λ (row : Option Row). LieIn (row_indexes row) (indexes_of steps)) (sym at)
    (each-indexed tree.types is.leaf.variable.type_id steps is.row.leaf is.of_type (is.leaf.j, is.leaf.leaf_is) is.named))
    (row-is tree number steps of_row)

-- ---- under an access

-- under a variable the row of each leaf of its type has the components that the leaf names
pub under-parts : (tree : Tree) (root m : ℕ) (variable : Variable) (own : Leaf) → slice_get tree.variables.items root ≡ Some variable
    → slice_get (leaves_of tree.types variable.type_id) m ≡ Some own
    → slice_index_or (all_parts tree) (variable_first tree root variable + m) no_parts ≡ parts_of tree (row_of root own)
under-parts tree root m variable own is at = by (is_structured tree.types variable.type_id) refl
  where
    by : (b : Bool) → is_structured tree.types variable.type_id ≡ b
        → slice_index_or (all_parts tree) (cond b (length tree.variables.items + rows_before tree.types tree.variables.items root) root + m) no_parts
        ≡ parts_of tree (row_of root own)
    by true structured =
        let before = rows_before tree.types tree.variables.items root in
        let e : length tree.variables.items + before + m ≡ length tree.variables.items + (before + m) = omega arith in
        let r : 0 + root ≡ root = omega arith in
        ap (λ (n : ℕ). slice_index_or (all_parts tree) n no_parts) e
        ∙ leaf-parts tree (before + m) (row_of (0 + root) own) (row-of_leaf tree.types 0 root m tree.variables.items variable own is structured at)
        ∙ ap (λ (n : ℕ). parts_of tree (row_of n own)) r
    by false plain =
        let single = leaves_of_scalar tree.types variable.type_id plain in
        let leaf = scalar single.0 single.1 in
        let here : slice_get (leaf ∷ []) m ≡ Some own = sym (ap (λ (l : List Leaf). slice_get l m) single.2) ∙ at in
        let within = slice_get_within (leaf ∷ []) m own here in
        let e : root + m ≡ root = omega (arith, within) in
        let components = ap (components_in tree.types) is ∙ components_of_scalar tree.types variable.type_id plain in
        ap (λ (n : ℕ). slice_index_or (all_parts tree) n no_parts) e ∙ own-parts tree root (slice_get_within tree.variables.items root variable is)
        ∙ ap (λ (l : List Steps). record { root = root; components = filter (is_named []) l }) (sym components)
        ∙ ap (λ (l : Leaf). parts_of tree (row_of root l)) (only leaf own (m, here))

-- what an access of a type, by all selectors from its variable, has of the rows under it
pub record RowsAre (tree : Tree) (root : ℕ) (under : List ℕ) (selectors : List Selector) (id : TypeId) : Type 0 where
  -- each of them is one of the variable
  pub root_is : (row : ℕ) → Contains under row → (slice_index_or (all_parts tree) row no_parts).root ≡ root
  -- each component of one lies on a way of the selectors, at a component of the type
  pub lies : (row : ℕ) (steps : Steps) → Contains under row → IsOf tree row steps
      → (way rest : Steps) × (steps ≡ way ++ rest) × Matches selectors way × Contains (components_of tree.types id) rest
  -- each component of the type on such a way is one of a row
  pub covers : (way rest : Steps) → Matches selectors way → Contains (components_of tree.types id) rest
      → (row : ℕ) × Contains under row × IsOf tree row (way ++ rest)
  -- and the row is that of the leaf which names it
  pub placed : (way rest : Steps) (j row : ℕ) (leaf : Leaf) → Matches selectors way → Contains (components_of tree.types id) rest
      → slice_get (leaves_of tree.types id) j ≡ Some leaf → is_named leaf.steps rest ≡ true
      → slice_get under j ≡ Some row → IsOf tree row (way ++ rest)

range-at : (a n j number : ℕ) → slice_get (range_with_len a n) j ≡ Some number → (number ≡ a + j) × (j < n)
range-at a n j number is =
    let inside = slice_get_within (range_with_len a n) j number is in
    let many = length-range_with_len a n in
    let within : j < n = omega (arith, inside, many) in
    let value = get_or-range_with_len a n j number within in
    let own = get_or_from_slice_get (range_with_len a n) j number number is in
    (omega (arith, value, own), within)

at-range : (a n j : ℕ) → j < n → slice_get (range_with_len a n) j ≡ Some (a + j)
at-range a n j within =
    let many = length-range_with_len a n in
    slice_get-get_or (range_with_len a n) j 0 (omega (arith, within, many)) ∙ ap Some (get_or-range_with_len a n j 0 within)

module _ (tree : Tree) (root : ℕ) (selectors : List Selector) (id : TypeId) where
  abbrev variables : List Variable
  variables = tree.variables.items

  abbrev under : List ℕ
  under = rows_under tree root (path_of selectors)

  module _ (variable : Variable) (variable_is : slice_get variables root ≡ Some variable)
      (led_there : led tree.types selectors variable.type_id ≡ Some id) where
    reached : Reaches tree.types selectors variable.type_id id
    reached = reaches tree.types selectors variable.type_id id led_there

    first : ℕ
    first = variable_first tree root variable + reached.first

    -- the rows stand one behind another
    under-range : under ≡ range_with_len first (length (leaves_of tree.types id))
    unfolding first
    under-range =
        let path = path_of selectors in
        let from = variable_first tree root variable in
        under_of tree root path ∙ ap (λ part. part_under tree.types path (Some part)) (part-there tree root variable variable_is)
        ∙ ap (λ (p : List LeafStep). leaves_under p from (leaves_of tree.types variable.type_id)) (sym (append-nil path))
        ∙ reached.part.numbers [] from ∙ all_under (from + reached.first) (leaves_of tree.types id)

    number-at : (j number : ℕ) → slice_get under j ≡ Some number → (number ≡ first + j) × (j < length (leaves_of tree.types id))
    number-at j number is =
        range-at first (length (leaves_of tree.types id)) j number (sym (ap (λ (l : List ℕ). slice_get l j) under-range) ∙ is)

    at-number : (j : ℕ) → j < length (leaves_of tree.types id) → slice_get under j ≡ Some (first + j)
    at-number j within = ap (λ (l : List ℕ). slice_get l j) under-range ∙ at-range first (length (leaves_of tree.types id)) j within

    -- the row of a leaf of the type there
    record IsPlaced (row : ℕ) (leaf : Leaf) : Type 0 where
      own : Leaf
      steps_are : own.steps ≡ path_of selectors ++ leaf.steps
      parts_are : slice_index_or (all_parts tree) row no_parts ≡ parts_of tree (row_of root own)

    is-placed : (j : ℕ) (leaf : Leaf) → slice_get (leaves_of tree.types id) j ≡ Some leaf → IsPlaced (first + j) leaf
    unfolding first
    is-placed j leaf is =
        let own = reached.part.each j leaf is in
        let from = variable_first tree root variable in
        let e : from + reached.first + j ≡ from + (reached.first + j) = omega arith in
        record {
          own = own.0;
          steps_are = own.2;
          parts_are = ap (λ (n : ℕ). slice_index_or (all_parts tree) n no_parts) e ∙ under-parts tree root (reached.first + j) variable own.0 variable_is own.1;
        }

    row-placed : (row : ℕ) → Has under row → (leaf : Leaf) × IsPlaced row leaf
    row-placed row (j, at) =
        let number = number-at j row at in
        let leaf = some-at (leaves_of tree.types id) j number.1 in
        (leaf.0, subst (λ (n : ℕ). IsPlaced n leaf.0) (sym number.0) (is-placed j leaf.0 leaf.1))

    components-there : components_in tree.types (slice_get variables root) ≡ components_of tree.types variable.type_id
    components-there = ap (components_in tree.types) variable_is

    -- what has a component of a row is named by the leaf
    of-placed : (row : ℕ) (leaf : Leaf) (steps : Steps) (placed : IsPlaced row leaf) → IsOf tree row steps
        → Has (components_of tree.types variable.type_id) steps × (is_named placed.own.steps steps ≡ true)
    of-placed row leaf steps placed of_row =
        let all = components_in tree.types (slice_get variables root) in
        let found = of-filter (is_named placed.own.steps) all steps (subst (λ (p : Parts). Contains p.components steps) placed.parts_are of_row) in
        (subst (λ (rows : List Steps). Has rows steps) components-there (contains-has all steps found.0), found.1)

    lies-under : (row : ℕ) (steps : Steps) → Has under row → IsOf tree row steps → Behind tree.types selectors id steps
    lies-under row steps has of_row =
        let there = row-placed row has in
        let placed = there.1 in
        let own = of-placed row there.0 steps placed of_row in
        let begun = ap (begins (path_of selectors)) placed.steps_are ∙ begins-behind (path_of selectors) there.0.steps in
        reached.lies placed.own.steps steps own.0 begun own.1

    placed-at : (way rest : Steps) (row : ℕ) (leaf : Leaf) → Matches selectors way → Has (components_of tree.types id) rest → IsPlaced row leaf
        → is_named leaf.steps rest ≡ true → IsOf tree row (way ++ rest)
    placed-at way rest row leaf matches has placed named =
        let steps = way ++ rest in
        let all = components_in tree.types (slice_get variables root) in
        let inside : Has all steps = subst (λ (rows : List Steps). Has rows steps) (sym components-there) (reached.covers way rest matches has) in
        let names : is_named placed.own.steps steps ≡ true =
        ap (λ (path : List LeafStep). is_named path steps) placed.steps_are ∙ named-behind selectors way rest leaf.steps matches named in
        subst (λ (p : Parts). Contains p.components steps) (sym placed.parts_are)
        (has-contains (filter (is_named placed.own.steps) all) steps (in-filter (is_named placed.own.steps) all steps inside names))

    rows-found : RowsAre tree root under selectors id
    rows-found = record {
      root_is = λ row inside. ap (λ (p : Parts). p.root) (row-placed row (contains-has under row inside)).1.parts_are;
      lies = λ row steps inside of_row.
          let behind = lies-under row steps (contains-has under row inside) of_row in
          (behind.way, behind.rest, behind.steps_are, behind.matches, has-contains (components_of tree.types id) behind.rest behind.of_type);
      covers = λ way rest matches inside.
          let has = contains-has (components_of tree.types id) rest inside in
          let leaf = each-named tree.types id rest has in
          let j = leaf.1.0 in
          let number = at-number j (slice_get_within (leaves_of tree.types id) j leaf.0 leaf.1.1) in (
            first + j,
            has-contains under (first + j) (j, number),
            placed-at way rest (first + j) leaf.0 matches has (is-placed j leaf.0 leaf.1.1) leaf.2,
          );
      placed = λ way rest j row leaf matches inside is named at.
          let has = contains-has (components_of tree.types id) rest inside in
          let placed = subst (λ (n : ℕ). IsPlaced n leaf) (sym (number-at j row at).0) (is-placed j leaf is) in
          placed-at way rest row leaf matches has placed named;
    }

    leaf-found : (way rest : Steps) (j row : ℕ) → Matches selectors way → slice_get under j ≡ Some row → IsOf tree row (way ++ rest)
        → (leaf : Leaf) × (slice_get (leaves_of tree.types id) j ≡ Some leaf) × (is_named leaf.steps rest ≡ true)
    leaf-found way rest j row matches at of_row =
        let number = number-at j row at in
        let leaf = some-at (leaves_of tree.types id) j number.1 in
        let placed = subst (λ (n : ℕ). IsPlaced n leaf.0) (sym number.0) (is-placed j leaf.0 leaf.1) in
        let own = of-placed row leaf.0 (way ++ rest) placed of_row in (
          leaf.0,
          leaf.1,
          behind-named selectors way rest leaf.0.steps matches
              (sym (ap (λ (path : List LeafStep). is_named path (way ++ rest)) placed.steps_are) ∙ own.1),
        )

-- ---- from where an access begins

-- selectors that go the way of steps from a value of a type: each index is any of its array
element_selector : Option ArrayElement → Selector
element_selector None = Element (record { site = 0; tests = scalar.Ordinal; range = record { first = pos 0; last = pos 0 } }) 0
element_selector (Some element) = Element (record { site = 0; tests = scalar.Ordinal; range = element.range }) element.cells

field_selector : ℕ → Option RecordField → Selector
field_selector position None = Field position 0
field_selector position (Some field) = Field position field.offset

selector_of : List Form → PathStep → TypeId → Selector
selector_of types path.Element id = element_selector (element_of types id)
selector_of types (path.Field position) id = field_selector position (field_at types id position)

pub path_selectors : List Form → List PathStep → Option TypeId → List Selector
path_selectors types [] id = []
path_selectors types (step ∷ steps) None = selector_of types step (record { index = 0 }) ∷ path_selectors types steps None
path_selectors types (step ∷ steps) (Some id) = selector_of types step id ∷ path_selectors types steps (stepped types step id)

-- all selectors from the variable of an access: those of the way to where it begins, and its own
abbrev pub selectors_from : Tree → Origin → List Selector → List Selector
selectors_from tree (AtVariable root) selectors = selectors
selectors_from tree (AtRecord root slot steps) selectors =
    path_selectors tree.types steps (option_map (λ (variable : Variable). variable.type_id) (slice_get tree.variables.items root)) ++ selectors

module _ (types : List Form) where
  element-step : (found : Option ArrayElement) → leaf_step (element_selector found) ≡ Elements
  unfolding element_selector
  element-step None = refl
  element-step (Some element) = refl

  field-step : (position : ℕ) (found : Option RecordField) → leaf_step (field_selector position found) ≡ FieldAt position
  unfolding field_selector
  field-step position None = refl
  field-step position (Some field) = refl

  own-step : (step : PathStep) (id : TypeId) → leaf_step (selector_of types step id) ≡ path_step step
  unfolding selector_of
  own-step path.Element id = element-step (element_of types id)
  own-step (path.Field position) id = field-step position (field_at types id position)

  -- they go these steps
  path-steps : (steps : List PathStep) (id : Option TypeId) → map leaf_step (path_selectors types steps id) ≡ map path_step steps
  unfolding path_selectors
  path-steps [] id = refl
  path-steps (step ∷ steps) None =
      (λ i. own-step step (record { index = 0 }) i ∷ path-steps steps None i)
  path-steps (step ∷ steps) (Some id) = (λ i. own-step step id i ∷ path-steps steps (stepped types step id) i)

  -- and lead to what lies there
  element-selected : (id next : TypeId) (found : Option ArrayElement) → element_of types id ≡ found
      → option_map (λ (element : ArrayElement). element.type_id) found ≡ Some next → selected types (element_selector found) id ≡ Some next
  unfolding element_selector
  element-selected id next None is leads = absurd (none-some next leads)
  element-selected id next (Some element) is leads =
      ap (element_type element.range element.cells) is
      ∙ ap (λ (b : Bool). cond b (Some element.type_id) None)
      (and_from (are_values_of element.range element.range) (nat_eq element.cells element.cells)
      (and_from (int_eq element.range.first element.range.first) (int_eq element.range.last element.range.last)
      ((Decides-int_eq element.range.first element.range.first).1 refl) ((Decides-int_eq element.range.last element.range.last).1 refl))
      (eq-eqb element.cells element.cells refl)) ∙ leads

  field-selected : (id next : TypeId) (position : ℕ) (found : Option RecordField) → field_at types id position ≡ found
      → option_map (λ (field : RecordField). field.type_id) found ≡ Some next → selected types (field_selector position found) id ≡ Some next
  unfolding field_selector
  field-selected id next position None is leads = absurd (none-some next leads)
  field-selected id next position (Some field) is leads =
      ap (field_type field.offset) is
      ∙ ap (λ (b : Bool). cond b (Some field.type_id) None) (eq-eqb field.offset field.offset refl) ∙ leads

  step-selected : (step : PathStep) (id next : TypeId) → stepped types step id ≡ Some next → selected types (selector_of types step id) id ≡ Some next
  unfolding selector_of
  step-selected path.Element id next leads = element-selected id next (element_of types id) refl leads
  step-selected (path.Field position) id next leads = field-selected id next position (field_at types id position) refl leads

  path-led_on : (step : PathStep) (steps : List PathStep) (selectors : List Selector) (from id : TypeId)
      → ((next : TypeId) → option_and_then (led types selectors) (lying types steps next) ≡ Some id
      → led types (path_selectors types steps (Some next) ++ selectors) next ≡ Some id)
      → (found : Option TypeId) → stepped types step from ≡ found
      → option_and_then (led types selectors) (option_and_then (lying types steps) found) ≡ Some id
      → option_and_then (led types (path_selectors types steps found ++ selectors)) (selected types (selector_of types step from) from) ≡ Some id
  path-led_on step steps selectors from id more None is leads = absurd (none-some id leads)
  path-led_on step steps selectors from id more (Some next) is leads =
      ap (option_and_then (led types (path_selectors types steps (Some next) ++ selectors))) (step-selected step from next is) ∙ more next leads

  path-led : (steps : List PathStep) (selectors : List Selector) (from id : TypeId)
      → option_and_then (led types selectors) (lying types steps from) ≡ Some id
      → led types (path_selectors types steps (Some from) ++ selectors) from ≡ Some id
  unfolding path_selectors
  path-led [] selectors from id leads = leads
  path-led (step ∷ steps) selectors from id leads =
      path-led_on step steps selectors from id (λ next. path-led steps selectors next id) (stepped types step from) refl leads

-- a variable that is accessed is there, and all selectors lead from it
pub record IsFound (tree : Tree) (origin : Origin) (selectors : List Selector) (id : TypeId) : Type 0 where
  pub variable : Variable
  pub variable_is : slice_get tree.variables.items (root_of origin) ≡ Some variable
  pub leads : led tree.types (selectors_from tree origin selectors) variable.type_id ≡ Some id
  pub rows_are : rows_under tree (root_of origin) (path_of (selectors_from tree origin selectors)) ≡ rows_accessed tree origin selectors

variable-found : (tree : Tree) (root : ℕ) (selectors : List Selector) (id : TypeId) (found : Option Variable) → slice_get tree.variables.items root ≡ found
    → option_and_then (λ (variable : Variable). led tree.types selectors variable.type_id) found ≡ Some id → IsFound tree (AtVariable root) selectors id
variable-found tree root selectors id None is leads = absurd (none-some id leads)
variable-found tree root selectors id (Some variable) is leads =
    record { variable = variable; variable_is = is; leads = leads; rows_are = refl }

record-found : (tree : Tree) (root slot : ℕ) (steps : List PathStep) (selectors : List Selector) (id : TypeId) (found : Option Variable)
    → slice_get tree.variables.items root ≡ found
    → option_and_then (λ (variable : Variable). option_and_then (led tree.types selectors) (lying tree.types steps variable.type_id)) found ≡ Some id
    → IsFound tree (AtRecord root slot steps) selectors id
record-found tree root slot steps selectors id None is leads = absurd (none-some id leads)
record-found tree root slot steps selectors id (Some variable) is leads =
    let from : option_map (λ (v : Variable). v.type_id) (slice_get tree.variables.items root) ≡ Some variable.type_id =
    ap (option_map (λ (v : Variable). v.type_id)) is in
    let type_id = option_map (λ (v : Variable). v.type_id) (slice_get tree.variables.items root) in
    record {
      variable = variable;
      variable_is = is;
      leads = ap (λ (o : Option TypeId). led tree.types (path_selectors tree.types steps o ++ selectors) variable.type_id) from
          ∙ path-led tree.types steps selectors variable.type_id id leads;
      rows_are = ap (rows_under tree root)
          (map-append leaf_step (path_selectors tree.types steps type_id) selectors
          ∙ ap (λ (l : List LeafStep). l ++ map leaf_step selectors) (path-steps tree.types steps type_id));
    }

pub is-found : (tree : Tree) (origin : Origin) (selectors : List Selector) (id : TypeId)
    → accessed tree.variables.items tree.types origin selectors ≡ Some id → IsFound tree origin selectors id
is-found tree (AtVariable root) selectors id leads = variable-found tree root selectors id (slice_get tree.variables.items root) refl leads
is-found tree (AtRecord root slot steps) selectors id leads =
    record-found tree root slot steps selectors id (slice_get tree.variables.items root) refl leads

module _ (tree : Tree) (origin : Origin) (own : List Selector) (id : TypeId)
    (leads : accessed tree.variables.items tree.types origin own ≡ Some id) where
  abbrev all : List Selector
  all = selectors_from tree origin own

  abbrev there : IsFound tree origin own id
  there = is-found tree origin own id leads

  pub rows-are : RowsAre tree (root_of origin) (rows_accessed tree origin own) (selectors_from tree origin own) id
  rows-are =
      subst (λ (under : List ℕ). RowsAre tree (root_of origin) under all id) there.rows_are
      (rows-found tree (root_of origin) all id there.variable there.variable_is there.leads)

  -- under an access lie as many rows as its type has leaves
  pub rows-count : length (rows_accessed tree origin own) ≡ length (leaves_of tree.types id)
  rows-count =
      ap length (sym there.rows_are ∙ under-range tree (root_of origin) all id there.variable there.variable_is there.leads)
      ∙ length-range_with_len (first tree (root_of origin) all id there.variable there.variable_is there.leads) (length (leaves_of tree.types id))

  -- and the components of each are those of the leaf at its place
  pub row-leaf : (way rest : Steps) (j row : ℕ) → Matches (selectors_from tree origin own) way → slice_get (rows_accessed tree origin own) j ≡ Some row
      → IsOf tree row (way ++ rest) → (leaf : Leaf) × (slice_get (leaves_of tree.types id) j ≡ Some leaf) × (is_named leaf.steps rest ≡ true)
  row-leaf way rest j row matches at =
      leaf-found tree (root_of origin) all id there.variable there.variable_is there.leads way rest j row matches
      (ap (λ (l : List ℕ). slice_get l j) there.rows_are ∙ at)
