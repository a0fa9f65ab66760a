-- The rows of variables one behind another, and those under a part of one of them.
use Rattle.std.proofs.Common.{◌≡◌, ℕ, zero, suc, ◌+◌, ◌<◌, ◌≤◌, ◌^◌, Bool, true, false, ◌&&◌, cond, eqb, List, [], ◌∷◌, ◌++◌, length, map, sum_by, take}
use Rattle.std.proofs.Common.{Option, Some, None, refl, sym, ap, ◌∙◌, append_assoc, append-nil, arith}
use Rattle.std.proofs.lemmas.Bool.{eq-eqb, eqb-true}
use Rattle.std.proofs.lemmas.List.{length-append, length-map, length-take-le, map-append}
use Rattle.std.proofs.lemmas.List.Concat.{flat_map-append}
use Rattle.std.proofs.lemmas.List.Sums.{sum_by-cons}
use Rattle.std.proofs.lemmas.Option.{none-some, same_Some, unwrap_or-slice_get}
use Rattle.std.specs.List.{range_with_len}
use Rattle.std.specs.Option.{option_map, unwrap_or}
use Rattle.std.specs.Prelude.{flat_map, slice_get, slice_index_or}
use Rattle.types.specs.Forms.{FieldForm, Form}
use Rattle.types.specs.Forms.{Integer, Boolean, Char, Enumeration, Subrange, Array, Record, Set}
use Rattle.types.specs.Types.{form_at, is_structured}
use Rattle.types.specs.declared.form.OrdinalRange.{OrdinalRange}
use Rattle.types.specs.declared.form.TypeId.{TypeId}
use Rattle.typed_tree.specs.declared.tree.Tree.{Tree}
use Rattle.typed_tree.specs.declared.tree.Variable.{Variable}
use Rattle.typed_tree.specs.WellFormed.{of_one}
use Rattle.checker_rows.specs.declared.part.Part.{Part}
use Rattle.checker_rows.specs.declared.leaf.RowRanges.{RowRanges}
use Rattle.checker_rows.specs.Leaves.{Leaf, LeafStep, Elements, FieldAt, begins, leaves_at, leaves_of, range_at, scalar}
use Rattle.checker_rows.specs.Rows.{Row, is_under, leaf_rows, numbers_where, own_row, own_rows, rows_from, rows_of, rows_under, variable_rows}
use Rattle.checker_rows.specs.View.{AreKept, count_at, end_of, field_part, first_under, firsts_from, firsts_of, form_part, leaf_counts, next_part, own_ranges}
use Rattle.checker_rows.specs.View.{own_type, part_along, part_count, part_leaves, part_rows, ranges_of, rows_count, typed_part, variable_part, variable_ranges}
use Rattle.checker_rows.proofs.Leafed.{leafed_before, leaves_of_form, leaves_of_none, leaves_of_scalar}
use Rattle.checker_rows.proofs.Counted.{array_counted, part_before, part_counted, record_counted, type_counted}
use Rattle.checker_rows.proofs.Under.{all_under, elements_part, field_part as field_leaves, leaves_under, no_elements, no_field, no_field_of_elements, skipped}

abbrev pub row_of : ℕ → Leaf → Row
row_of root leaf = record { root = root; leaf = leaf }

-- ---- those of which a test holds

numbers-append : (test : Row → Bool) (number : ℕ) (rows more : List Row)
    → numbers_where test number (rows ++ more) ≡ numbers_where test number rows ++ numbers_where test (number + length rows) more
numbers-append test number [] more = let e : number ≡ number + 0 = omega arith in ap (λ n. numbers_where test n more) e
numbers-append test number (row ∷ rows) more =
    let e : suc number + length rows ≡ number + suc (length rows) = omega arith in
    by (test row) (numbers-append test (suc number) rows more ∙ ap (λ n. numbers_where test (suc number) rows ++ numbers_where test n more) e)
  where
    by : (b : Bool)
        → numbers_where test (suc number) (rows ++ more)
        ≡ numbers_where test (suc number) rows ++ numbers_where test (number + suc (length rows)) more
        → cond b (number ∷ numbers_where test (suc number) (rows ++ more)) (numbers_where test (suc number) (rows ++ more))
        ≡ cond b (number ∷ numbers_where test (suc number) rows) (numbers_where test (suc number) rows)
        ++ numbers_where test (number + suc (length rows)) more
    by true same = ap (λ l. number ∷ l) same
    by false same = same

-- the rows of one variable
numbers_of_own : (root : ℕ) (steps : List LeafStep) (number : ℕ) (leaves : List Leaf)
    → numbers_where (is_under root steps) number (map (row_of root) leaves) ≡ leaves_under steps number leaves
numbers_of_own root steps number [] = refl
numbers_of_own root steps number (leaf ∷ leaves) =
    ap (λ b. cond (b && begins steps leaf.steps) (number ∷ numbers_where (is_under root steps) (suc number) (map (row_of root) leaves))
    (numbers_where (is_under root steps) (suc number) (map (row_of root) leaves))) (eq-eqb root root refl)
    ∙ ap (λ l. cond (begins steps leaf.steps) (number ∷ l) l) (numbers_of_own root steps (suc number) leaves)

numbers_of_other : (root other : ℕ) (steps : List LeafStep) (number : ℕ) (leaves : List Leaf) → eqb other root ≡ false
    → numbers_where (is_under root steps) number (map (row_of other) leaves) ≡ []
numbers_of_other root other steps number [] apart = refl
numbers_of_other root other steps number (leaf ∷ leaves) apart =
    ap (λ b. cond (b && begins steps leaf.steps) (number ∷ numbers_where (is_under root steps) (suc number) (map (row_of other) leaves))
    (numbers_where (is_under root steps) (suc number) (map (row_of other) leaves))) apart
    ∙ numbers_of_other root other steps (suc number) leaves apart

unequal : (a b : ℕ) → (a ≡ b → ⊥) → eqb a b ≡ false
unequal a b apart = by (eqb a b) refl
  where
    by : (c : Bool) → eqb a b ≡ c → c ≡ false
    by true is = absurd (apart (eqb-true a b is))
    by false is = refl

module _ (types : List Form) where
  -- the numbers of the leaves under steps in a part
  abbrev pub part_under : List LeafStep → Option Part → List ℕ
  part_under steps None = []
  part_under steps (Some part) = leaves_under steps part.first (part_leaves types part.type_id)

  pub all_of_part : (part : Option Part) → part_under [] part ≡ part_rows types part
  all_of_part None = refl
  all_of_part (Some part) =
      all_under part.first (part_leaves types part.type_id) ∙ ap (range_with_len part.first) (sym (part_counted types part.type_id))

  -- ---- variables

  pub length_variable : (root : ℕ) (variable : Variable) → length (variable_rows types root variable) ≡ rows_count types variable
  length_variable root variable = by (is_structured types variable.type_id)
    where
      by : (b : Bool) → length (cond b (map (row_of root) (leaves_of types variable.type_id)) []) ≡ cond b (count_at (leaf_counts types) variable.type_id) 0
      by true = length-map (leaves_of types variable.type_id) (row_of root) ∙ sym (type_counted types variable.type_id)
      by false = refl

  other_variable : (root other : ℕ) (steps : List LeafStep) (number : ℕ) (variable : Variable) → eqb other root ≡ false
      → numbers_where (is_under root steps) number (variable_rows types other variable) ≡ []
  other_variable root other steps number variable apart = by (is_structured types variable.type_id)
    where
      by : (b : Bool) → numbers_where (is_under root steps) number (cond b (map (row_of other) (leaves_of types variable.type_id)) []) ≡ []
      by true = numbers_of_other root other steps number (leaves_of types variable.type_id) apart
      by false = refl

  own_variable : (root : ℕ) (steps : List LeafStep) (number : ℕ) (variable : Variable) → is_structured types variable.type_id ≡ true
      → numbers_where (is_under root steps) number (variable_rows types root variable) ≡ leaves_under steps number (leaves_of types variable.type_id)
  own_variable root steps number variable structured =
      ap (λ b. numbers_where (is_under root steps) number (cond b (map (row_of root) (leaves_of types variable.type_id)) [])) structured
      ∙ numbers_of_own root steps number (leaves_of types variable.type_id)

  -- the variables behind have other numbers
  later_variables : (root from : ℕ) (steps : List LeafStep) (number : ℕ) (variables : List Variable) → root < from
      → numbers_where (is_under root steps) number (rows_from types from variables) ≡ []
  later_variables root from steps number [] h = refl
  later_variables root from steps number (variable ∷ variables) h =
      numbers-append (is_under root steps) number (variable_rows types from variable) (rows_from types (suc from) variables)
      ∙ ap (λ l. l ++ numbers_where (is_under root steps) (number + length (variable_rows types from variable)) (rows_from types (suc from) variables))
      (other_variable root from steps number variable (unequal from root (λ e. omega (arith, e, h))))
      ∙ later_variables root (suc from) steps (number + length (variable_rows types from variable)) variables (omega (arith, h))

  -- how many leaves lie before those of a variable
  abbrev pub rows_before : List Variable → ℕ → ℕ
  rows_before [] root = 0
  rows_before (variable ∷ variables) zero = 0
  rows_before (variable ∷ variables) (suc root) = rows_count types variable + rows_before variables root

  -- those under steps from a structured variable are among its leaves
  pub under_variable : (from root : ℕ) (steps : List LeafStep) (number : ℕ) (variables : List Variable) (variable : Variable)
      → slice_get variables root ≡ Some variable → is_structured types variable.type_id ≡ true
      → numbers_where (is_under (from + root) steps) number (rows_from types from variables)
      ≡ leaves_under steps (number + rows_before variables root) (leaves_of types variable.type_id)
  under_variable from root steps number [] variable is structured = absurd (none-some variable is)
  under_variable from zero steps number (v ∷ variables) variable is structured =
      let e : from + 0 ≡ from = omega arith in
      let z : number ≡ number + 0 = omega arith in
      ap (λ r. numbers_where (is_under r steps) number (rows_from types from (v ∷ variables))) e
      ∙ numbers-append (is_under from steps) number (variable_rows types from v) (rows_from types (suc from) variables)
      ∙ ap (λ l. numbers_where (is_under from steps) number (variable_rows types from v) ++ l)
      (later_variables from (suc from) steps (number + length (variable_rows types from v)) variables (omega arith))
      ∙ append-nil (numbers_where (is_under from steps) number (variable_rows types from v))
      ∙ ap (λ (x : Variable). numbers_where (is_under from steps) number (variable_rows types from x)) (same_Some v variable is)
      ∙ own_variable from steps number variable structured ∙ ap (λ n. leaves_under steps n (leaves_of types variable.type_id)) z
  under_variable from (suc root) steps number (v ∷ variables) variable is structured =
      let e : from + suc root ≡ suc from + root = omega arith in
      let z : number + rows_count types v + rows_before variables root ≡ number + (rows_count types v + rows_before variables root) = omega arith in
      numbers-append (is_under (from + suc root) steps) number (variable_rows types from v) (rows_from types (suc from) variables)
      ∙ ap (λ l. l ++ numbers_where (is_under (from + suc root) steps) (number + length (variable_rows types from v)) (rows_from types (suc from) variables))
      (other_variable (from + suc root) from steps number v (unequal from (from + suc root) (λ e. omega (arith, e))))
      ∙ ap (λ r. numbers_where (is_under r steps) (number + length (variable_rows types from v)) (rows_from types (suc from) variables)) e
      ∙ ap (λ n. numbers_where (is_under (suc from + root) steps) (number + n) (rows_from types (suc from) variables)) (length_variable from v)
      ∙ under_variable (suc from) root steps (number + rows_count types v) variables variable is structured
      ∙ ap (λ n. leaves_under steps n (leaves_of types variable.type_id)) z

  -- the leaves of a structured variable end within those of all
  pub variable_ends : (from root : ℕ) (variables : List Variable) (variable : Variable) → slice_get variables root ≡ Some variable
      → rows_before variables root + rows_count types variable ≤ length (rows_from types from variables)
  variable_ends from root [] variable is = absurd (none-some variable is)
  variable_ends from zero (v ∷ variables) variable is =
      let all = length-append (variable_rows types from v) (rows_from types (suc from) variables) in
      let own = length_variable from v in
      let same = ap (rows_count types) (same_Some v variable is) in
      omega (arith, all, own, same)
  variable_ends from (suc root) (v ∷ variables) variable is =
      let all = length-append (variable_rows types from v) (rows_from types (suc from) variables) in
      let own = length_variable from v in
      let ends = variable_ends (suc from) root variables variable is in
      omega (arith, all, own, ends)

  -- the first row under a variable, in the table of all
  pub first-at : (root first n : ℕ) (variables : List Variable) (variable : Variable) → slice_get variables n ≡ Some variable
      → slice_get (firsts_from types root first variables) n ≡ Some (first_under types (root + n) (first + rows_before variables n) variable)
  first-at root first n [] variable is = absurd (none-some variable is)
  first-at root first zero (v ∷ variables) variable is =
      let e : root ≡ root + 0 = omega arith in
      let z : first ≡ first + 0 = omega arith in
      ap (λ (x : Variable). Some (first_under types root first x)) (same_Some v variable is)
      ∙ ap (λ r. Some (first_under types r first variable)) e ∙ ap (λ n. Some (first_under types (root + 0) n variable)) z
  first-at root first (suc n) (v ∷ variables) variable is =
      let e : suc root + n ≡ root + suc n = omega arith in
      let z : first + rows_count types v + rows_before variables n ≡ first + (rows_count types v + rows_before variables n) = omega arith in
      first-at (suc root) (first + rows_count types v) n variables variable is
      ∙ ap (λ r. Some (first_under types r (first + rows_count types v + rows_before variables n) variable)) e
      ∙ ap (λ m. Some (first_under types (root + suc n) m variable)) z

  first-none : (root first n : ℕ) (variables : List Variable) → slice_get variables n ≡ None → slice_get (firsts_from types root first variables) n ≡ None
  first-none root first n [] is = refl
  first-none root first zero (v ∷ variables) is = absurd (none-some v (sym is))
  first-none root first (suc n) (v ∷ variables) is = first-none (suc root) (first + rows_count types v) n variables is

  -- ---- steps

  fields_under : (id : TypeId) (first : ℕ) (fields : List FieldForm) (n : ℕ) (rest : List LeafStep) (position : ℕ) (number : ℕ)
      → (field : FieldForm) → slice_get fields n ≡ Some field
      → field_part (leaf_counts types) id first fields n
      ≡ Some (record { first = first + skipped (leafed_before types id) fields n; type_id = own_type id field.type_id })
  fields_under id first [] n rest position number field is = absurd (none-some field is)
  fields_under id first (f ∷ fields) zero rest position number field is =
      let e : first ≡ first + 0 = omega arith in
      ap (λ (x : FieldForm). Some (record { first = first; type_id = own_type id x.type_id })) (same_Some f field is)
      ∙ ap (λ n. Some (record { first = n; type_id = own_type id field.type_id })) e
  fields_under id first (f ∷ fields) (suc n) rest position number field is =
      let own = part_counted types (own_type id f.type_id) in
      let same = ap length (part_before types id f.type_id) in
      let e : first + part_count (leaf_counts types) (own_type id f.type_id) + skipped (leafed_before types id) fields n
      ≡ first + (length (leaves_at (leafed_before types id) f.type_id) + skipped (leafed_before types id) fields n) = omega (arith, own, same) in
      fields_under id (first + part_count (leaf_counts types) (own_type id f.type_id)) fields n rest position number field is
      ∙ ap (λ n. Some (record { first = n; type_id = own_type id field.type_id })) e

  no_fields_under : (id : TypeId) (first : ℕ) (fields : List FieldForm) (n : ℕ) → slice_get fields n ≡ None
      → field_part (leaf_counts types) id first fields n ≡ None
  no_fields_under id first [] n is = refl
  no_fields_under id first (f ∷ fields) zero is = absurd (none-some f (sym is))
  no_fields_under id first (f ∷ fields) (suc n) is =
      no_fields_under id (first + part_count (leaf_counts types) (own_type id f.type_id)) fields n is

  module _ (id : TypeId) (first : ℕ) (rest : List LeafStep) where
    elements_under : (packed : Bool) (index element : TypeId) → form_at types id ≡ Some (Array packed index element)
        → leaves_under (Elements ∷ rest) first (leaves_of types id)
        ≡ part_under rest (Some (record { first = first; type_id = own_type id element }))
    elements_under packed index element is =
        let e : first + 0 ≡ first = omega arith in
        ap (leaves_under (Elements ∷ rest) first) (leaves_of_form types id (Array packed index element) is)
        ∙ (elements_part (range_at (leafed_before types id) index) (leaves_at (leafed_before types id) element)).numbers rest first
        ∙ ap (λ n. leaves_under rest n (leaves_at (leafed_before types id) element)) e
        ∙ ap (leaves_under rest first) (part_before types id element)

    field_under : (packed : Bool) (fields : List FieldForm) (position : ℕ) → form_at types id ≡ Some (Record packed fields) → (o : Option FieldForm)
        → slice_get fields position ≡ o
        → leaves_under (FieldAt position ∷ rest) first (leaves_of types id) ≡ part_under rest (field_part (leaf_counts types) id first fields position)
    field_under packed fields position is None at =
        ap (leaves_under (FieldAt position ∷ rest) first) (leaves_of_form types id (Record packed fields) is)
        ∙ no_field (leafed_before types id) position fields rest first at ∙ ap (part_under rest) (sym (no_fields_under id first fields position at))
    field_under packed fields position is (Some field) at =
        ap (leaves_under (FieldAt position ∷ rest) first) (leaves_of_form types id (Record packed fields) is)
        ∙ (field_leaves (leafed_before types id) position fields field at).numbers rest first
        ∙ ap (leaves_under rest (first + skipped (leafed_before types id) fields position)) (part_before types id field.type_id)
        ∙ ap (part_under rest) (sym (fields_under id first fields position rest position first field at))

    form_under : (form : Option Form) → form_at types id ≡ form → (step : LeafStep)
        → leaves_under (step ∷ rest) first (leaves_of types id) ≡ part_under rest (form_part (leaf_counts types) id first form step)
    form_under None is step = ap (leaves_under (step ∷ rest) first) (leaves_of_none types id is)
    form_under (Some Integer) is step = ap (leaves_under (step ∷ rest) first) (leaves_of_form types id Integer is)
    form_under (Some Boolean) is step = ap (leaves_under (step ∷ rest) first) (leaves_of_form types id Boolean is)
    form_under (Some Char) is step = ap (leaves_under (step ∷ rest) first) (leaves_of_form types id Char is)
    form_under (Some (Enumeration last)) is step = ap (leaves_under (step ∷ rest) first) (leaves_of_form types id (Enumeration last) is)
    form_under (Some (Subrange host low high)) is step = ap (leaves_under (step ∷ rest) first) (leaves_of_form types id (Subrange host low high) is)
    form_under (Some (Set packed host low high)) is step = ap (leaves_under (step ∷ rest) first) (leaves_of_form types id (Set packed host low high) is)
    form_under (Some (Array packed index element)) is Elements = elements_under packed index element is
    form_under (Some (Array packed index element)) is (FieldAt position) =
        ap (leaves_under (FieldAt position ∷ rest) first) (leaves_of_form types id (Array packed index element) is)
        ∙ no_field_of_elements (range_at (leafed_before types id) index) position rest first (leaves_at (leafed_before types id) element)
    form_under (Some (Record packed fields)) is Elements =
        ap (leaves_under (Elements ∷ rest) first) (leaves_of_form types id (Record packed fields) is)
        ∙ no_elements (leafed_before types id) fields rest first
    form_under (Some (Record packed fields)) is (FieldAt position) = field_under packed fields position is (slice_get fields position) refl

  typed_under : (first : ℕ) (part : Option TypeId) (step : LeafStep) (rest : List LeafStep)
      → leaves_under (step ∷ rest) first (part_leaves types part) ≡ part_under rest (typed_part types first part step)
  typed_under first None step rest = refl
  typed_under first (Some id) step rest = form_under id first rest (form_at types id) refl step

  -- those under a step and more are those under these in the part there
  pub under_step : (part : Option Part) (step : LeafStep) (rest : List LeafStep) → part_under (step ∷ rest) part ≡ part_under rest (next_part types part step)
  under_step None step rest = refl
  under_step (Some part) step rest = typed_under part.first part.type_id step rest

  -- ---- a part ends within the whole

  pub field_ends : (id : TypeId) (first : ℕ) (fields : List FieldForm) (n : ℕ)
      → end_of types (field_part (leaf_counts types) id first fields n)
      ≤ first + sum_by (λ field. part_count (leaf_counts types) (own_type id field.type_id)) fields
  field_ends id first [] n = omega arith
  field_ends id first (field ∷ fields) zero =
      let all = sum_by-cons (λ field. part_count (leaf_counts types) (own_type id field.type_id)) field fields in omega (arith, all)
  field_ends id first (field ∷ fields) (suc n) =
      let all = sum_by-cons (λ field. part_count (leaf_counts types) (own_type id field.type_id)) field fields in
      let ends = field_ends id (first + part_count (leaf_counts types) (own_type id field.type_id)) fields n in
      omega (arith, all, ends)

  form_ends : (id : TypeId) (first : ℕ) (form : Option Form) → form_at types id ≡ form → (step : LeafStep)
      → end_of types (form_part (leaf_counts types) id first form step) ≤ first + count_at (leaf_counts types) id
  form_ends id first (Some (Array packed index element)) is Elements = let own = array_counted types id packed index element is in omega (arith, own)
  form_ends id first (Some (Record packed fields)) is (FieldAt position) =
      let own = record_counted types id packed fields is in
      let ends = field_ends id first fields position in
      omega (arith, own, ends)
  form_ends id first form is step = omega arith

  typed_ends : (first : ℕ) (part : Option TypeId) (step : LeafStep) → end_of types (typed_part types first part step)
      ≤ first + part_count (leaf_counts types) part
  typed_ends first None step = omega arith
  typed_ends first (Some id) step = form_ends id first (form_at types id) refl step

  pub next_ends : (part : Option Part) (step : LeafStep) → end_of types (next_part types part step) ≤ end_of types part
  next_ends None step = omega arith
  next_ends (Some part) step = typed_ends part.first part.type_id step

  -- ---- as they are built

  pub ranges_of_variable : (root : ℕ) (variable : Variable) → map (λ row. ranges_of row.leaf) (variable_rows types root variable)
      ≡ variable_ranges types variable
  ranges_of_variable root variable = by (is_structured types variable.type_id)
    where
      all : (leaves : List Leaf) → map (λ row. ranges_of row.leaf) (map (row_of root) leaves) ≡ map ranges_of leaves
      all [] = refl
      all (leaf ∷ leaves) = ap (λ l. ranges_of leaf ∷ l) (all leaves)

      by : (b : Bool) → map (λ row. ranges_of row.leaf) (cond b (map (row_of root) (leaves_of types variable.type_id)) [])
          ≡ cond b (map ranges_of (leaves_of types variable.type_id)) []
      by true = all (leaves_of types variable.type_id)
      by false = refl

  pub ranges_from : (from : ℕ) (variables : List Variable)
      → map (λ row. ranges_of row.leaf) (rows_from types from variables) ≡ flat_map (variable_ranges types) variables
  ranges_from from [] = refl
  ranges_from from (variable ∷ variables) =
      map-append (λ row. ranges_of row.leaf) (variable_rows types from variable) (rows_from types (suc from) variables)
      ∙ ap (λ l. l ++ map (λ row. ranges_of row.leaf) (rows_from types (suc from) variables)) (ranges_of_variable from variable)
      ∙ ap (λ l. variable_ranges types variable ++ l) (ranges_from (suc from) variables)

  pub ranges_of_own : (from : ℕ) (variables : List Variable)
      → map (λ row. ranges_of row.leaf) (own_rows types from variables) ≡ map (own_ranges types) variables
  ranges_of_own from [] = refl
  ranges_of_own from (variable ∷ variables) = ap (λ l. own_ranges types variable ∷ l) (ranges_of_own (suc from) variables)

  length_ranges : (variable : Variable) → length (variable_ranges types variable) ≡ rows_count types variable
  length_ranges variable =
      ap length (sym (ranges_of_variable 0 variable)) ∙ length-map (variable_rows types 0 variable) (λ row. ranges_of row.leaf) ∙ length_variable 0 variable

  -- one variable more
  pub firsts_push : (root first : ℕ) (variables : List Variable) (variable : Variable)
      → firsts_from types root first (variables ++ variable ∷ [])
      ≡ firsts_from types root first variables
      ++ first_under types (root + length variables) (first + length (flat_map (variable_ranges types) variables)) variable ∷ []
  firsts_push root first [] variable =
      let e : root ≡ root + 0 = omega arith in
      let z : first ≡ first + 0 = omega arith in
      ap (λ r. first_under types r first variable ∷ []) e ∙ ap (λ n. first_under types (root + 0) n variable ∷ []) z
  firsts_push root first (v ∷ variables) variable =
      let all = length-append (variable_ranges types v) (flat_map (variable_ranges types) variables) in
      let own = length_ranges v in
      let e : suc root + length variables ≡ root + suc (length variables) = omega arith in
      let z : first + rows_count types v + length (flat_map (variable_ranges types) variables)
      ≡ first + length (variable_ranges types v ++ flat_map (variable_ranges types) variables) = omega (arith, all, own) in
      let so_far = firsts_from types (suc root) (first + rows_count types v) variables in
      let behind = first + length (variable_ranges types v ++ flat_map (variable_ranges types) variables) in
      ap (λ l. first_under types root first v ∷ l) (firsts_push (suc root) (first + rows_count types v) variables variable)
      ∙ ap (λ n. first_under types root first v ∷ (so_far ++ first_under types (suc root + length variables) n variable ∷ [])) z
      ∙ ap (λ r. first_under types root first v ∷ (so_far ++ first_under types r behind variable ∷ [])) e

  module _ (all : List Variable) (n : ℕ) (item : Variable) (rows : List RowRanges)
      (rows_are : rows ≡ map (own_ranges types) all ++ flat_map (variable_ranges types) (take n all)) (more : take (n + 1) all ≡ take n all ++ item ∷ []) where
    pub firsts_more : n ≤ length all
        → firsts_from types 0 (length all) (take (n + 1) all)
        ≡ firsts_from types 0 (length all) (take n all) ++ first_under types n (length rows) item ∷ []
    firsts_more within =
        let taken = length-take-le n all within in
        let root : 0 + length (take n all) ≡ n = omega (arith, taken) in
        let parts = length-append (map (own_ranges types) all) (flat_map (variable_ranges types) (take n all)) in
        let own = length-map all (own_ranges types) in
        let first : length all + length (flat_map (variable_ranges types) (take n all)) ≡ length rows = omega (arith, parts, own, ap length rows_are) in
        let so_far = firsts_from types 0 (length all) (take n all) in
        let behind = length all + length (flat_map (variable_ranges types) (take n all)) in
        ap (firsts_from types 0 (length all)) more ∙ firsts_push 0 (length all) (take n all) item
        ∙ ap (λ r. so_far ++ first_under types r behind item ∷ []) root ∙ ap (λ k. so_far ++ first_under types n k item ∷ []) first

    pub ranges_more : map (own_ranges types) all ++ flat_map (variable_ranges types) (take (n + 1) all) ≡ rows ++ variable_ranges types item
    ranges_more =
        let own = map (own_ranges types) all in
        let so_far = flat_map (variable_ranges types) (take n all) in
        ap (λ l. own ++ l)
        (ap (flat_map (variable_ranges types)) more ∙ flat_map-append (variable_ranges types) (take n all) (item ∷ [])
        ∙ ap (λ l. so_far ++ l) (append-nil (variable_ranges types item)))
        ∙ sym (append_assoc own so_far (variable_ranges types item)) ∙ ap (λ l. l ++ variable_ranges types item) (sym rows_are)

-- ---- the variables of a program

pub own-many : (types : List Form) (from : ℕ) (variables : List Variable) → length (own_rows types from variables) ≡ length variables
own-many types from [] = refl
own-many types from (variable ∷ variables) = ap suc (own-many types (suc from) variables)

-- how many rows there are
pub rows-many : (tree : Tree) → length (rows_of tree) ≡ length tree.variables.items + length (leaf_rows tree)
rows-many tree =
    length-append (own_rows tree.types 0 tree.variables.items) (leaf_rows tree)
    ∙ ap (λ n. n + length (leaf_rows tree)) (own-many tree.types 0 tree.variables.items)

pub ranges_are : (tree : Tree)
    → map (λ row. ranges_of row.leaf) (rows_of tree)
    ≡ map (own_ranges tree.types) tree.variables.items ++ flat_map (variable_ranges tree.types) tree.variables.items
ranges_are tree =
    map-append (λ row. ranges_of row.leaf) (own_rows tree.types 0 tree.variables.items) (leaf_rows tree)
    ∙ ap (λ l. l ++ map (λ row. ranges_of row.leaf) (leaf_rows tree)) (ranges_of_own tree.types 0 tree.variables.items)
    ∙ ap (λ l. map (own_ranges tree.types) tree.variables.items ++ l) (ranges_from tree.types 0 tree.variables.items)

-- the first row under a variable that is there
abbrev pub variable_first : Tree → ℕ → Variable → ℕ
variable_first tree root variable =
    first_under tree.types root (length tree.variables.items + rows_before tree.types tree.variables.items root) variable

module _ (tree : Tree) (root : ℕ) where
  abbrev by-tables : Option ℕ → Option Variable → Part
  by-tables first variable = record { first = unwrap_or first root; type_id = option_map (λ (v : Variable). v.type_id) variable }

  part-by : (first : Option ℕ) (variable : Option Variable) → slice_get (firsts_of tree) root ≡ first → slice_get tree.variables.items root ≡ variable
      → variable_part tree root ≡ by-tables first variable
  part-by first variable first_is variable_is =
      ap (λ (n : ℕ). record { first = n; type_id = option_map (λ (v : Variable). v.type_id) (slice_get tree.variables.items root) })
      (sym (unwrap_or-slice_get (firsts_of tree) root root))
      ∙ ap (λ (o : Option ℕ). by-tables o (slice_get tree.variables.items root)) first_is ∙ ap (by-tables first) variable_is

  pub part-there : (variable : Variable) → slice_get tree.variables.items root ≡ Some variable
      → variable_part tree root ≡ record { first = variable_first tree root variable; type_id = Some variable.type_id }
  part-there variable is =
      let e : 0 + root ≡ root = omega arith in
      let first = length tree.variables.items + rows_before tree.types tree.variables.items root in
      part-by (Some (variable_first tree root variable)) (Some variable)
      (first-at tree.types 0 (length tree.variables.items) root tree.variables.items variable is
      ∙ ap (λ r. Some (first_under tree.types r first variable)) e) is

  pub part-none : slice_get tree.variables.items root ≡ None → variable_part tree root ≡ record { first = root; type_id = None }
  part-none is = part-by None None (first-none tree.types 0 (length tree.variables.items) root tree.variables.items is) is

  single_under : (steps : List LeafStep) (number : ℕ) (type_id : Option TypeId) (values : Option OrdinalRange)
      → leaves_under steps number (scalar type_id values ∷ []) ≡ own_row number steps
  single_under [] number type_id values = refl
  single_under (s ∷ steps) number type_id values = refl

  structured_under : (steps : List LeafStep) (variable : Variable) → slice_get tree.variables.items root ≡ Some variable → (b : Bool)
      → is_structured tree.types variable.type_id ≡ b
      → cond b (numbers_where (is_under root steps) (length tree.variables.items) (leaf_rows tree)) (own_row root steps)
      ≡ leaves_under steps (cond b (length tree.variables.items + rows_before tree.types tree.variables.items root) root)
      (leaves_of tree.types variable.type_id)
  structured_under steps variable is true structured =
      let e : root ≡ 0 + root = omega arith in
      ap (λ r. numbers_where (is_under r steps) (length tree.variables.items) (leaf_rows tree)) e
      ∙ under_variable tree.types 0 root steps (length tree.variables.items) tree.variables.items variable is structured
  structured_under steps variable is false structured =
      let single = leaves_of_scalar tree.types variable.type_id structured in
      sym (ap (leaves_under steps root) single.2 ∙ single_under steps root single.0 single.1)

  -- the rows under steps from a variable of a program
  pub under_of : (steps : List LeafStep) → rows_under tree root steps ≡ part_under tree.types steps (Some (variable_part tree root))
  under_of steps = by (slice_get tree.variables.items root) refl
    where
      by : (o : Option Variable) → slice_get tree.variables.items root ≡ o
          → cond (of_one (λ (v : Variable). is_structured tree.types v.type_id) o)
          (numbers_where (is_under root steps) (length tree.variables.items) (leaf_rows tree)) (own_row root steps)
          ≡ part_under tree.types steps (Some (variable_part tree root))
      by None is = sym (ap (λ part. part_under tree.types steps (Some part)) (part-none is) ∙ single_under steps root None None)
      by (Some variable) is =
          structured_under steps variable is (is_structured tree.types variable.type_id) refl
          ∙ sym (ap (λ part. part_under tree.types steps (Some part)) (part-there variable is))

  scalar_ends : (variable : Variable) → slice_get tree.variables.items root ≡ Some variable → (b : Bool) → is_structured tree.types variable.type_id ≡ b
      → root < 2 ^ 32 → length (rows_of tree) < 2 ^ 64
      → cond b (length tree.variables.items + rows_before tree.types tree.variables.items root) root + count_at (leaf_counts tree.types) variable.type_id
      < 2 ^ 64
  scalar_ends variable is true structured low few =
      let ends = variable_ends tree.types 0 root tree.variables.items variable is in
      let many = rows-many tree in
      let own = ap (λ b. cond b (count_at (leaf_counts tree.types) variable.type_id) 0) structured in
      omega (arith, ends, many, own, few)
  scalar_ends variable is false structured low few =
      let own = type_counted tree.types variable.type_id ∙ ap length (leaves_of_scalar tree.types variable.type_id structured).2 in
      omega (arith, own, low)

  -- the rows of a variable end with those of the program
  pub ends_of : root < 2 ^ 32 → length (rows_of tree) < 2 ^ 64 → end_of tree.types (Some (variable_part tree root)) < 2 ^ 64
  ends_of low few = by (slice_get tree.variables.items root) refl
    where
      by : (o : Option Variable) → slice_get tree.variables.items root ≡ o → end_of tree.types (Some (variable_part tree root)) < 2 ^ 64
      by None is = let same = ap (λ part. end_of tree.types (Some part)) (part-none is) in omega (arith, same, low)
      by (Some variable) is =
          let same = ap (λ part. end_of tree.types (Some part)) (part-there variable is) in
          let ends = scalar_ends variable is (is_structured tree.types variable.type_id) refl low few in
          omega (arith, same, ends)

pub ends_kept : (tree : Tree) (counts firsts : List ℕ) (rows : List RowRanges) → AreKept tree counts firsts rows → length rows < 2 ^ 64 → (root : ℕ)
    → root < 2 ^ 32 → end_of tree.types (Some (variable_part tree root)) < 2 ^ 64
ends_kept tree counts firsts rows kept few root low =
    let same = ap length kept.rows_are ∙ length-map (rows_of tree) (λ row. ranges_of row.leaf) in
    ends_of tree root low (omega (arith, same, few))

-- a variable as the tables that are kept have it
pub found_kept : (tree : Tree) (counts firsts : List ℕ) (rows : List RowRanges) → AreKept tree counts firsts rows → (root : ℕ) (part : Part)
    → part.first ≡ slice_index_or firsts root root → part.type_id ≡ option_map (λ (v : Variable). v.type_id) (slice_get tree.variables.items root)
    → part ≡ variable_part tree root
found_kept tree counts firsts rows kept root part first type_id =
    ap (λ (n : ℕ). record part { first = n }) (first ∙ ap (λ (l : List ℕ). slice_index_or l root root) kept.firsts_are)
    ∙ ap (λ (t : Option TypeId). record { first = slice_index_or (firsts_of tree) root root; type_id = t }) type_id

-- those under steps and more are those under these in the part to which the steps lead
pub under_along : (types : List Form) (steps rest : List LeafStep) (part : Option Part)
    → part_under types (steps ++ rest) part ≡ part_under types rest (part_along types steps part)
under_along types [] rest part = refl
under_along types (step ∷ steps) rest part = under_step types part step (steps ++ rest) ∙ under_along types steps rest (next_part types part step)
