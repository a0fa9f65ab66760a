-- Rows by their numbers: those of variables first, each by its root number, and behind them those of leaves.
use Rattle.std.proofs.Common.{arith, ◌≡◌, ⊎_elim, ◌⊎◌, inl, inr, ◌∙◌, sym, ap, refl, subst, ℕ, zero, suc, ◌+◌, ◌-◌, ◌<◌, Bool, true, false, cond, nat_eq, ◌&&◌}
use Rattle.std.proofs.Common.{List, [], ◌∷◌, length, map, filter, Some}
use Rattle.std.proofs.lemmas.Bool.{and_parts, cases_lt, eq-eqb, eqb-true}
use Rattle.std.proofs.lemmas.List.{length-append, length-map}
use Rattle.std.proofs.lemmas.List.Elements.{All-contains, filter_passes, All-filter, All-contains_itself}
use Rattle.std.proofs.lemmas.Option.{get_or_from_slice_get, none-some, same_Some, slice_get-get_or, slice_get_within, slice_get-map}
use Rattle.std.specs.List.{Contains}
use Rattle.std.specs.Option.{option_and_then, option_map}
use Rattle.std.specs.Prelude.{slice_get, slice_index_or}
use Rattle.types.specs.Forms.{Form}
use Rattle.types.specs.Types.{is_structured, scalar_range_of}
use Rattle.types.proofs.Growing.{slice_get-left, slice_get-right}
use Rattle.types.proofs.Once.{in_either}
use Rattle.typed_tree.specs.declared.tree.Tree.{Tree}
use Rattle.typed_tree.specs.declared.tree.Variable.{Variable}
use Rattle.typed_tree.specs.WellFormed.{of_one}
use Rattle.checker_rows.specs.Leaves.{Leaf, LeafStep, begins, leaves_of, scalar}
use Rattle.checker_rows.specs.Rows.{Parts, Row, all_parts, is_structured_variable, is_under, leaf_rows, no_parts, numbers_where, own_part, own_row, own_rows}
use Rattle.checker_rows.specs.Rows.{indexes_at, parts_of, row_indexes, rows_from, rows_of, rows_under, values_at, variable_rows}
use Rattle.checker_rows.specs.View.{rows_count}
use Rattle.checker_rows.proofs.Components.{Has, mapped-at, only}
use Rattle.checker_rows.proofs.Variables.{length_variable, own-many, row_of, rows_before}

-- ---- items of lists

pub has-contains : {A : Type 0} (items : List A) (item : A) → Has items item → Contains items item
has-contains items item (k, is) = (k, slice_get_within items k item is, get_or_from_slice_get items k item item is)

pub contains-has : {A : Type 0} (items : List A) (item : A) → Contains items item → Has items item
contains-has items item (k, within, is) = (k, slice_get-get_or items k item within ∙ ap Some is)

pub in-filter : {A : Type 0} (test : A → Bool) (items : List A) (item : A) → Has items item → test item ≡ true → Has (filter test items) item
in-filter test [] item (k, is) passes = absurd (none-some item is)
in-filter test (first ∷ items) item (zero, is) passes =
    let same = same_Some first item is in
    let own : test first ≡ true = ap test same ∙ passes in
    subst (λ (b : Bool). Has (cond b (first ∷ filter test items) (filter test items)) item) (sym own) (0, is)
in-filter test (first ∷ items) item (suc k, is) passes = either (test first) (in-filter test items item (k, is) passes)
  where
    either : (b : Bool) → Has (filter test items) item → Has (cond b (first ∷ filter test items) (filter test items)) item
    either true (m, at) = (suc m, at)
    either false has = has

pub of-filter : {A : Type 0} (test : A → Bool) (items : List A) (item : A) → Contains (filter test items) item → Contains items item × (test item ≡ true)
of-filter test items item inside = (
  All-contains (Contains items) (filter test items) item (All-filter test (Contains items) items (All-contains_itself items)) inside,
  All-contains (λ (x : _). test x ≡ true) (filter test items) item (filter_passes test items) inside,
)

pub some-at : {A : Type 0} (items : List A) (k : ℕ) → k < length items → (item : A) × (slice_get items k ≡ Some item)
some-at [] k within = absurd (omega (arith, within))
some-at (item ∷ items) zero within = (item, refl)
some-at (item ∷ items) (suc k) within = some-at items k (omega (arith, within))

-- a number is below another, or so many above it
pub below-or : (a n : ℕ) → (n < a) ⊎ ((k : ℕ) × (n ≡ a + k))
below-or a n = ⊎_elim (λ below. inl below) (λ beyond. inr (n - a, omega (arith, beyond))) (cases_lt n a)

-- ---- the numbers of rows that pass a test

-- a number of those of which a test holds is that of such a row
abbrev pub IsNumber : (Row → Bool) → ℕ → List Row → ℕ → Type 0
IsNumber test number rows found = (m : ℕ) × (row : Row) × (found ≡ number + m) × (slice_get rows m ≡ Some row) × (test row ≡ true)

number-first : (test : Row → Bool) (number : ℕ) (row : Row) (rows : List Row) (found : ℕ)
    → (Has (numbers_where test (suc number) rows) found → IsNumber test (suc number) rows found) → (b : Bool) → test row ≡ b
    → Has (cond b (number ∷ numbers_where test (suc number) rows) (numbers_where test (suc number) rows)) found → IsNumber test number (row ∷ rows) found
number-first test number row rows found more true passes (zero, is) = let same = same_Some number found is in (0, row, omega (arith, same), refl, passes)
number-first test number row rows found more true passes (suc k, is) =
    let there = more (k, is) in (suc there.0, there.1, omega (arith, there.2), there.3, there.4)
number-first test number row rows found more false fails has =
    let there = more has in (suc there.0, there.1, omega (arith, there.2), there.3, there.4)

pub in-numbers : (test : Row → Bool) (number : ℕ) (rows : List Row) (found : ℕ) → Has (numbers_where test number rows) found → IsNumber test number rows found
in-numbers test number [] found (k, is) = absurd (none-some found is)
in-numbers test number (row ∷ rows) found has =
    number-first test number row rows found (λ more. in-numbers test (suc number) rows found more) (test row) refl has

-- and that of each such row is among them
pub numbers-where : (test : Row → Bool) (number : ℕ) (rows : List Row) (k : ℕ) (row : Row) → slice_get rows k ≡ Some row → test row ≡ true
    → Contains (numbers_where test number rows) (number + k)
numbers-where test number [] k row is passes = absurd (none-some row is)
numbers-where test number (first ∷ rows) zero row is passes =
    let e : number ≡ number + 0 = omega arith in
    let more = numbers_where test (suc number) rows in
    subst (λ (b : Bool). Contains (cond b (number ∷ more) more) (number + 0)) (sym (ap test (same_Some first row is) ∙ passes)) (0, omega arith, e)
numbers-where test number (first ∷ rows) (suc k) row is passes =
    let next : suc number + k ≡ number + suc k = omega arith in
    either (test first) (subst (Contains (numbers_where test (suc number) rows)) next (numbers-where test (suc number) rows k row is passes))
  where
    either : (b : Bool) → Contains (numbers_where test (suc number) rows) (number + suc k)
        → Contains (cond b (number ∷ numbers_where test (suc number) rows) (numbers_where test (suc number) rows)) (number + suc k)
    either true (i, within, at) = (suc i, omega (arith, within), at)
    either false inside = inside

-- ---- the rows of variables

module _ (types : List Form) where
  -- a variable's own row
  abbrev pub own_of : ℕ → Variable → Row
  own_of root variable = row_of root (scalar (Some variable.type_id) (scalar_range_of types variable.type_id))

  own-at : (from n : ℕ) (variables : List Variable) (variable : Variable) → slice_get variables n ≡ Some variable
      → slice_get (own_rows types from variables) n ≡ Some (own_of (from + n) variable)
  own-at from n [] variable is = absurd (none-some variable is)
  own-at from zero (v ∷ variables) variable is =
      let e : from ≡ from + 0 = omega arith in
      ap (λ (x : Variable). Some (own_of from x)) (same_Some v variable is) ∙ ap (λ (r : ℕ). Some (own_of r variable)) e
  own-at from (suc n) (v ∷ variables) variable is =
      let e : suc from + n ≡ from + suc n = omega arith in
      own-at (suc from) n variables variable is ∙ ap (λ (r : ℕ). Some (own_of r variable)) e

  -- a leaf of a variable among the rows
  pub record IsLeafOf (from : ℕ) (variables : List Variable) (m : ℕ) (row : Row) : Type 0 where
    pub root : ℕ
    pub variable : Variable
    pub j : ℕ
    pub variable_is : slice_get variables root ≡ Some variable
    pub structured : is_structured types variable.type_id ≡ true
    pub root_is : row.root ≡ from + root
    pub leaf_is : slice_get (leaves_of types variable.type_id) j ≡ Some row.leaf
    pub number_is : m ≡ rows_before types variables root + j

  in-variable : (from : ℕ) (variable : Variable) (variables : List Variable) (m : ℕ) (row : Row) → slice_get (variable_rows types from variable) m ≡ Some row
      → IsLeafOf from (variable ∷ variables) m row
  in-variable from variable variables m row is = by (is_structured types variable.type_id) refl is
    where
      by : (b : Bool) → is_structured types variable.type_id ≡ b
          → slice_get (cond b (map (λ leaf. record { root = from; leaf = leaf }) (leaves_of types variable.type_id)) []) m ≡ Some row
          → IsLeafOf from (variable ∷ variables) m row
      by false structured is = absurd (none-some row is)
      by true structured is =
          let found = mapped-at (row_of from) (leaves_of types variable.type_id) m row is in
          let own = ap (λ (r : Row). r.root) found.2 in
          record {
            root = 0;
            variable = variable;
            j = m;
            variable_is = refl;
            structured = structured;
            root_is = omega (arith, own);
            leaf_is = found.1 ∙ ap (λ (r : Row). Some r.leaf) found.2;
            number_is = omega arith;
          }

  pub leaf-of : (from : ℕ) (variables : List Variable) (m : ℕ) (row : Row) → slice_get (rows_from types from variables) m ≡ Some row
      → IsLeafOf from variables m row
  leaf-of from [] m row is = absurd (none-some row is)
  leaf-of from (variable ∷ variables) m row is =
      ⊎_elim (λ here. in-variable from variable variables m row here)
      (λ there.
      let found = leaf-of (suc from) variables there.0 row there.2 in
      let many = length_variable types from variable in
      record {
        root = suc found.root;
        variable = found.variable;
        j = found.j;
        variable_is = found.variable_is;
        structured = found.structured;
        root_is = omega (arith, found.root_is);
        leaf_is = found.leaf_is;
        number_is = omega (arith, there.1, many, found.number_is);
      })
      (in_either (variable_rows types from variable) (rows_from types (suc from) variables) m row is)

  pub row-of_leaf : (from root j : ℕ) (variables : List Variable) (variable : Variable) (leaf : Leaf) → slice_get variables root ≡ Some variable
      → is_structured types variable.type_id ≡ true → slice_get (leaves_of types variable.type_id) j ≡ Some leaf
      → slice_get (rows_from types from variables) (rows_before types variables root + j) ≡ Some (row_of (from + root) leaf)
  row-of_leaf from root j [] variable leaf is structured at = absurd (none-some variable is)
  row-of_leaf from zero j (v ∷ variables) variable leaf is structured at =
      let same = same_Some v variable is in
      let own : slice_get (map (row_of from) (leaves_of types v.type_id)) j ≡ Some (row_of from leaf) =
      slice_get-map (row_of from) (leaves_of types v.type_id) j
      ∙ ap (option_map (row_of from)) (ap (λ (x : Variable). slice_get (leaves_of types x.type_id) j) same ∙ at) in
      let here : slice_get (variable_rows types from v) j ≡ Some (row_of from leaf) =
      ap (λ (b : Bool). slice_get (cond b (map (row_of from) (leaves_of types v.type_id)) []) j)
      (ap (λ (x : Variable). is_structured types x.type_id) same ∙ structured) ∙ own in
      let e : 0 + j ≡ j = omega arith in
      let r : from ≡ from + 0 = omega arith in
      ap (slice_get (rows_from types from (v ∷ variables))) e
      ∙ slice_get-left (variable_rows types from v) (rows_from types (suc from) variables) j
      (slice_get_within (variable_rows types from v) j (row_of from leaf) here)
      ∙ here ∙ ap (λ (n : ℕ). Some (row_of n leaf)) r
  row-of_leaf from (suc root) j (v ∷ variables) variable leaf is structured at =
      let many = length_variable types from v in
      let e : rows_count types v + rows_before types variables root + j ≡ length (variable_rows types from v) + (rows_before types variables root + j) =
      omega (arith, many) in
      let r : suc from + root ≡ from + suc root = omega arith in
      ap (slice_get (rows_from types from (v ∷ variables))) e
      ∙ slice_get-right (variable_rows types from v) (rows_from types (suc from) variables) (rows_before types variables root + j)
      ∙ row-of_leaf (suc from) root j variables variable leaf is structured at ∙ ap (λ (n : ℕ). Some (row_of n leaf)) r

-- ---- the rows of a program

module _ (tree : Tree) where
  abbrev variables : List Variable
  variables = tree.variables.items

  abbrev own : List Row
  own = own_rows tree.types 0 tree.variables.items

  -- a variable's own row has its root number
  pub own-row : (root : ℕ) (variable : Variable) → slice_get tree.variables.items root ≡ Some variable
      → slice_get (rows_of tree) root ≡ Some (own_of tree.types root variable)
  own-row root variable is =
      let many = own-many tree.types 0 variables in
      let within = slice_get_within variables root variable is in
      let e : 0 + root ≡ root = omega arith in
      slice_get-left own (leaf_rows tree) root (omega (arith, many, within)) ∙ own-at tree.types 0 root variables variable is
      ∙ ap (λ (r : ℕ). Some (own_of tree.types r variable)) e

  -- its values are those of the variable's type, and no index is on the way
  pub own-values : (root : ℕ) (variable : Variable) → slice_get tree.variables.items root ≡ Some variable
      → values_at (rows_of tree) root ≡ scalar_range_of tree.types variable.type_id
  own-values root variable is = ap (option_and_then (λ (row : Row). row.leaf.values)) (own-row root variable is)

  pub own-indexes : (root : ℕ) → root < length tree.variables.items → indexes_at (rows_of tree) root ≡ []
  own-indexes root within =
      let variable = some-at variables root within in
      ap row_indexes (own-row root variable.0 variable.1)

  -- those of leaves stand behind them
  pub leaf-row : (k : ℕ) → slice_get (rows_of tree) (length tree.variables.items + k) ≡ slice_get (leaf_rows tree) k
  leaf-row k =
      ap (λ (n : ℕ). slice_get (rows_of tree) (n + k)) (sym (own-many tree.types 0 variables)) ∙ slice_get-right own (leaf_rows tree) k

  -- each row has its components
  pub parts-many : length (all_parts tree) ≡ length (rows_of tree)
  parts-many =
      length-append (map own_part own) (map (parts_of tree) (leaf_rows tree))
      ∙ ap (λ (n : ℕ). n + length (map (parts_of tree) (leaf_rows tree))) (length-map own own_part)
      ∙ ap (λ (n : ℕ). length own + n) (length-map (leaf_rows tree) (parts_of tree)) ∙ sym (length-append own (leaf_rows tree))

  pub own-parts : (root : ℕ) → root < length tree.variables.items
      → slice_index_or (all_parts tree) root no_parts ≡ record { root = root; components = [] ∷ [] }
  own-parts root within =
      let variable = some-at variables root within in
      let many = own-many tree.types 0 variables in
      let all = length-map own own_part in
      let e : 0 + root ≡ root = omega arith in
      get_or_from_slice_get (all_parts tree) root (record { root = root; components = [] ∷ [] }) no_parts
      (slice_get-left (map own_part own) (map (parts_of tree) (leaf_rows tree)) root (omega (arith, many, all, within))
      ∙ slice_get-map own_part own root ∙ ap (option_map own_part) (own-at tree.types 0 root variables variable.0 variable.1)
      ∙ ap (λ (r : ℕ). Some (record { root = r; components = [] ∷ [] })) e)

  pub leaf-parts : (k : ℕ) (row : Row) → slice_get (leaf_rows tree) k ≡ Some row
      → slice_index_or (all_parts tree) (length tree.variables.items + k) no_parts ≡ parts_of tree row
  leaf-parts k row is =
      get_or_from_slice_get (all_parts tree) (length variables + k) (parts_of tree row) no_parts
      (ap (λ (n : ℕ). slice_get (all_parts tree) (n + k)) (sym (length-map own own_part ∙ own-many tree.types 0 variables))
      ∙ slice_get-right (map own_part own) (map (parts_of tree) (leaf_rows tree)) k
      ∙ slice_get-map (parts_of tree) (leaf_rows tree) k ∙ ap (option_map (parts_of tree)) is)

  -- the row of a number
  pub row-at : (number : ℕ) → number < length (all_parts tree) → (row : Row) × (slice_get (rows_of tree) number ≡ Some row)
  row-at number within = let many = parts-many in some-at (rows_of tree) number (omega (arith, many, within))

  leaf-there : (number k : ℕ) (row : Row) → number ≡ length tree.variables.items + k → slice_get (rows_of tree) number ≡ Some row
      → slice_get (leaf_rows tree) k ≡ Some row
  leaf-there number k row e is = sym (leaf-row k) ∙ ap (slice_get (rows_of tree)) (sym e) ∙ is

  own-there : (number : ℕ) (row : Row) → number < length tree.variables.items → slice_get (rows_of tree) number ≡ Some row → number ≡ row.root
  own-there number row within is =
      let variable = some-at variables number within in
      ap (λ (r : Row). r.root) (same_Some (own_of tree.types number variable.0) row (sym (own-row number variable.0 variable.1) ∙ is))

  -- the root of a row's components is that of the row
  pub root-of_row : (number : ℕ) (row : Row) → slice_get (rows_of tree) number ≡ Some row
      → (slice_index_or (all_parts tree) number no_parts).root ≡ row.root
  root-of_row number row is =
      ⊎_elim (λ within. ap (λ (p : Parts). p.root) (own-parts number within) ∙ own-there number row within is)
      (λ beyond.
      ap (λ (n : ℕ). (slice_index_or (all_parts tree) n no_parts).root) beyond.1
      ∙ ap (λ (p : Parts). p.root) (leaf-parts beyond.0 row (leaf-there number beyond.0 row beyond.1 is)))
      (below-or (length variables) number)

  -- ---- those under a variable

  leaf-structured : (k : ℕ) (row : Row) → slice_get (leaf_rows tree) k ≡ Some row → is_structured_variable tree row.root ≡ true
  leaf-structured k row is =
      let leaf = leaf-of tree.types 0 variables k row is in
      let e : row.root ≡ leaf.root = omega (arith, leaf.root_is) in
      ap (of_one (λ (v : Variable). is_structured tree.types v.type_id)) (ap (slice_get variables) e ∙ leaf.variable_is) ∙ leaf.structured

  under-structured : (root number : ℕ) → is_structured_variable tree root ≡ true
      → Contains (numbers_where (is_under root []) (length tree.variables.items) (leaf_rows tree)) number → Contains (rows_under tree root []) number
  under-structured root number structured inside =
      subst (λ (b : Bool). Contains (cond b (numbers_where (is_under root []) (length variables) (leaf_rows tree)) (own_row root [])) number)
      (sym structured) inside

  under-plain : (root : ℕ) → is_structured_variable tree root ≡ false → Contains (rows_under tree root []) root
  under-plain root plain =
      subst (λ (b : Bool). Contains (cond b (numbers_where (is_under root []) (length variables) (leaf_rows tree)) (own_row root [])) root)
      (sym plain) (0, omega arith, refl)

  -- each row of a variable is among those under it, but the own row of a structured one
  pub number-under : (number : ℕ) (row : Row) → slice_get (rows_of tree) number ≡ Some row
      → (number < length tree.variables.items → is_structured_variable tree number ≡ false) → Contains (rows_under tree row.root []) number
  number-under number row is plain =
      ⊎_elim
      (λ within.
      subst (λ (root : ℕ). Contains (rows_under tree root []) number) (own-there number row within is) (under-plain number (plain within)))
      (λ beyond.
      let there = leaf-there number beyond.0 row beyond.1 is in
      let passes : (nat_eq row.root row.root && begins [] row.leaf.steps) ≡ true =
      ap (λ (b : Bool). b && begins [] row.leaf.steps) (eq-eqb row.root row.root refl) in
      under-structured row.root number (leaf-structured beyond.0 row there)
      (subst (Contains (numbers_where (is_under row.root []) (length variables) (leaf_rows tree))) (sym beyond.1)
      (numbers-where (is_under row.root []) (length variables) (leaf_rows tree) beyond.0 row there passes)))
      (below-or (length variables) number)

  -- a row under a part of a variable is one of the variable's
  pub under-root : (root : ℕ) (steps : List LeafStep) (number : ℕ) → root < length tree.variables.items → Contains (rows_under tree root steps) number
      → (slice_index_or (all_parts tree) number no_parts).root ≡ root
  under-root root steps number within inside = by (is_structured_variable tree root) inside
    where
      own-one : (steps : List LeafStep) → Has (own_row root steps) number → root ≡ number
      own-one [] has = only root number has
      own-one (s ∷ steps) (k, is) = absurd (none-some number is)

      by : (b : Bool) → Contains (cond b (numbers_where (is_under root steps) (length variables) (leaf_rows tree)) (own_row root steps)) number
          → (slice_index_or (all_parts tree) number no_parts).root ≡ root
      by true inside =
          let rows = numbers_where (is_under root steps) (length variables) (leaf_rows tree) in
          let found = in-numbers (is_under root steps) (length variables) (leaf_rows tree) number (contains-has rows number inside) in
          let row = found.1 in
          let both = and_parts (nat_eq row.root root) (begins steps row.leaf.steps) found.4 in
          ap (λ (n : ℕ). (slice_index_or (all_parts tree) n no_parts).root) found.2
          ∙ ap (λ (p : Parts). p.root) (leaf-parts found.0 row found.3) ∙ eqb-true row.root root both.0
      by false inside =
          let same = own-one steps (contains-has (own_row root steps) number inside) in
          ap (λ (n : ℕ). (slice_index_or (all_parts tree) n no_parts).root) (sym same) ∙ ap (λ (p : Parts). p.root) (own-parts root within)
