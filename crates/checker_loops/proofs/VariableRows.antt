-- The rows of a variable: where an access leads on a way, and which rows lie under an entire variable.
use Rattle.std.proofs.Common.{arith, Bool, cond, ◌≡◌, ⊎_elim, ◌<◌, false, ◌∙◌, sym, ap, refl, subst, ℕ, true, List, [], ◌∷◌, ◌++◌, length, Option, Some, None}
use Rattle.std.proofs.Common.{map}
use Rattle.std.specs.List.{Contains}
use Rattle.std.specs.Option.{option_and_then}
use Rattle.std.specs.Prelude.{is_some, option_map, slice_get, slice_index_or}
use Rattle.std.proofs.lemmas.Bool.{false≢true}
use Rattle.std.proofs.lemmas.Option.{none-some}
use Rattle.types.specs.Components.{components_of}
use Rattle.types.specs.Forms.{Array, Form, Record}
use Rattle.types.specs.Types.{form_at, form_kind, form_range, is_ordinal, is_scalar, is_structured, is_structured_kind, kind_of, scalar_range}
use Rattle.types.specs.declared.form.TypeKind.{TypeKind}
use Rattle.types.specs.declared.form.TypeKind.TheVariants.{Structured}
use Rattle.types.specs.declared.form.Step.{Step}
use Rattle.types.specs.declared.form.Step.TheVariants as step
use Rattle.types.specs.declared.form.TypeId.{TypeId}
use Rattle.typed_tree.specs.Accesses.{Origin, AtVariable, accessed, index_count, led, root_of, steps_of}
use Rattle.typed_tree.specs.declared.tree.PathStep.{PathStep}
use Rattle.typed_tree.specs.declared.tree.Selector.{Selector}
use Rattle.typed_tree.specs.declared.tree.Selector.TheVariants.{Element, Field}
use Rattle.typed_tree.specs.declared.tree.Tree.{Tree}
use Rattle.typed_tree.specs.declared.tree.Variable.{Variable}
use Rattle.checker_rows.specs.Leaves.{LeafStep}
use Rattle.checker_rows.specs.Rows.{all_parts, first_index, is_structured_variable, is_under, leaf_rows, no_parts, numbers_where, own_row, rows_accessed}
use Rattle.checker_rows.specs.Rows.{leaf_step, path_step, rows_under, steps_accessed}
use Rattle.checker_rows.proofs.Accessed.{IsOf, row-is, rows-are}
use Rattle.checker_rows.proofs.Numbered.{contains-has, in-numbers, number-under, root-of_row, row-at}
use Rattle.checker_rows.proofs.Selected.{Matches}
use Rattle.checker_state.proofs.Rows.{of_row-within}
use Rattle.checker_loops.proofs.Lists.{in-one}

-- ---- ways

-- what lies behind a way of selectors is told by the steps
pub same-rest : (selectors : List Selector) (way other a b : List Step) → Matches selectors way → Matches selectors other → way ++ a ≡ other ++ b → a ≡ b
same-rest [] [] [] a b one two is = is
same-rest [] [] (s ∷ other) a b one two is = absurd two
same-rest [] (s ∷ way) other a b one two is = absurd one
same-rest (Element fits cells ∷ selectors) [] other a b one two is = absurd one
same-rest (Field position offset ∷ selectors) [] other a b one two is = absurd one
same-rest (Element fits cells ∷ selectors) (s ∷ way) [] a b one two is = absurd two
same-rest (Field position offset ∷ selectors) (s ∷ way) [] a b one two is = absurd two
same-rest (Element fits cells ∷ selectors) (step.Element i ∷ way) (step.Element j ∷ other) a b one two is =
    same-rest selectors way other a b one.2 two.2 (cc)
same-rest (Element fits cells ∷ selectors) (step.Element i ∷ way) (step.Field p ∷ other) a b one two is = absurd two
same-rest (Element fits cells ∷ selectors) (step.Field p ∷ way) (t ∷ other) a b one two is = absurd one
same-rest (Field position offset ∷ selectors) (step.Element i ∷ way) (t ∷ other) a b one two is = absurd one
same-rest (Field position offset ∷ selectors) (step.Field p ∷ way) (step.Element j ∷ other) a b one two is = absurd two
same-rest (Field position offset ∷ selectors) (step.Field p ∷ way) (step.Field q ∷ other) a b one two is =
    same-rest selectors way other a b one.1 two.1 (cc)

-- no selectors go no way
pub no-way : (way : List Step) → Matches [] way → way ++ [] ≡ []
no-way [] matches = refl
no-way (s ∷ way) matches = absurd matches

-- without an index there is one way
pub one-way : (selectors : List Selector) (way other : List Step) → index_count selectors ≡ 0 → Matches selectors way → Matches selectors other → way ≡ other
one-way [] [] [] none one two = refl
one-way [] [] (s ∷ other) none one two = absurd two
one-way [] (s ∷ way) other none one two = absurd one
one-way (Element fits cells ∷ selectors) way other none one two = absurd (omega (arith, none))
one-way (Field position offset ∷ selectors) [] other none one two = absurd one
one-way (Field position offset ∷ selectors) (step.Element index ∷ way) other none one two = absurd one
one-way (Field position offset ∷ selectors) (step.Field place ∷ way) [] none one two = absurd two
one-way (Field position offset ∷ selectors) (step.Field place ∷ way) (step.Element index ∷ other) none one two = absurd two
one-way (Field position offset ∷ selectors) (step.Field place ∷ way) (step.Field own ∷ other) none one two =
    let same : place ≡ own = sym one.0 ∙ two.0 in
    ap (λ (p : ℕ). step.Field p ∷ way) same ∙ ap (λ (w : List Step). step.Field own ∷ w) (one-way selectors way other none one.1 two.1)

-- behind fields alone the first index is that of what follows
pub first-behind_fields : (selectors : List Selector) (way rest : List Step) → index_count selectors ≡ 0 → Matches selectors way
    → first_index (way ++ rest) ≡ first_index rest
first-behind_fields [] [] rest none matches = refl
first-behind_fields [] (s ∷ way) rest none matches = absurd matches
first-behind_fields (Element fits cells ∷ selectors) way rest none matches = absurd (omega (arith, none))
first-behind_fields (Field position offset ∷ selectors) [] rest none matches = absurd matches
first-behind_fields (Field position offset ∷ selectors) (step.Element index ∷ way) rest none matches = absurd matches
first-behind_fields (Field position offset ∷ selectors) (step.Field place ∷ way) rest none matches = first-behind_fields selectors way rest none matches.1

-- ---- types

ordinal-plain : (form : Option Form) → is_some (option_and_then form_range form) ≡ true → is_structured_kind (option_map form_kind form) ≡ true → ⊥
ordinal-plain (Some (Array packed index element)) ordinal structured = false≢true ordinal
ordinal-plain (Some (Record packed fields)) ordinal structured = false≢true ordinal
ordinal-plain form ordinal structured = false≢true structured

scalar-plain : (kind : Option TypeKind) → is_some (option_and_then scalar_range kind) ≡ true → is_structured_kind kind ≡ true → ⊥
scalar-plain (Some Structured) scalar structured = false≢true scalar
scalar-plain kind scalar structured = false≢true structured

-- no type is both scalar and structured
pub scalar-unstructured : (types : List Form) (id : TypeId) → is_scalar types id ≡ true → is_structured types id ≡ true → ⊥
scalar-unstructured types id scalar structured = scalar-plain (kind_of types id) scalar structured

-- no type is both ordinal and structured
pub not-both : (types : List Form) (id : TypeId) → is_ordinal types id ≡ true → is_structured types id ≡ true → ⊥
not-both types id ordinal structured = ordinal-plain (form_at types id) ordinal structured

some-type : (types : List Form) (id : TypeId) (selectors : List Selector) (found : Option Variable)
    → option_and_then (λ (variable : Variable). led types selectors variable.type_id) found ≡ Some id
    → (variable : Variable) × (found ≡ Some variable) × (led types selectors variable.type_id ≡ Some id)
some-type types id selectors None is = absurd (none-some id is)
some-type types id selectors (Some variable) is = (variable, refl, is)

-- what is accessed is a variable of a type from which selectors lead on
pub variable-accessed : (tree : Tree) (root : ℕ) (selectors : List Selector) (id : TypeId)
    → accessed tree.variables.items tree.types (AtVariable root) selectors ≡ Some id
    → (variable : Variable) × (slice_get tree.variables.items root ≡ Some variable) × (led tree.types selectors variable.type_id ≡ Some id)
variable-accessed tree root selectors id is = some-type tree.types id selectors (slice_get tree.variables.items root) is

-- ---- the rows under a variable

-- the component of a variable's own row is the variable
pub own-row_steps : (tree : Tree) (row : ℕ) (steps : List Step) → row < length tree.variables.items → IsOf tree row steps → steps ≡ []
own-row_steps tree row steps within of_row =
    ⊎_elim (λ own. own.steps_are) (λ leaf. let beyond = leaf.number_is in absurd (omega (arith, within, beyond))) (row-is tree row steps of_row)

-- a row that has a component is one of those under its variable, but the own row of a structured one
pub under-whole : (tree : Tree) (row : ℕ) (steps : List Step) → IsOf tree row steps
    → (row < length tree.variables.items → is_structured_variable tree row ≡ false)
    → Contains (rows_under tree (slice_index_or (all_parts tree) row no_parts).root []) row
under-whole tree row steps of_row plain =
    let at = row-at tree row (of_row-within (all_parts tree) row steps of_row) in
    subst (λ (root : ℕ). Contains (rows_under tree root []) row) (sym (root-of_row tree row at.0 at.1)) (number-under tree row at.0 at.1 plain)

-- so is each that is under a part of one
pub under-plain : (tree : Tree) (root : ℕ) (steps : List LeafStep) (row : ℕ) → Contains (rows_under tree root steps) row
    → row < length tree.variables.items → is_structured_variable tree row ≡ false
under-plain tree root steps row inside within = by (is_structured_variable tree root) refl inside
  where
    own : (steps : List LeafStep) → Contains (own_row root steps) row → root ≡ row
    own [] inside = in-one root row inside
    own (s ∷ steps) inside = absurd (omega (arith, inside.1))

    by : (b : Bool) → is_structured_variable tree root ≡ b
        → Contains (cond b (numbers_where (is_under root steps) (length tree.variables.items) (leaf_rows tree)) (own_row root steps)) row
        → is_structured_variable tree row ≡ false
    by true is inside =
        let rows = numbers_where (is_under root steps) (length tree.variables.items) (leaf_rows tree) in
        let found = in-numbers (is_under root steps) (length tree.variables.items) (leaf_rows tree) row (contains-has rows row inside) in
        let behind = found.2 in
        absurd (omega (arith, within, behind))
    by false is inside = subst (λ (r : ℕ). is_structured_variable tree r ≡ false) (own steps inside) is

-- an access has a variable's own row only where it is the entire variable
pub variable-row : (tree : Tree) (origin : Origin) (selectors : List Selector) (row : ℕ) → Contains (rows_accessed tree origin selectors) row
    → row < length tree.variables.items → (root_of origin ≡ row) × (selectors ≡ []) × (steps_of origin ≡ [])
variable-row tree origin selectors row inside within = by (is_structured_variable tree (root_of origin)) inside
  where
    own : (steps : List PathStep) (selectors : List Selector) → Contains (own_row (root_of origin) (map path_step steps ++ map leaf_step selectors)) row
        → (root_of origin ≡ row) × (selectors ≡ []) × (steps ≡ [])
    own [] [] inside = (in-one (root_of origin) row inside, refl, refl)
    own [] (s ∷ selectors) inside = absurd (omega (arith, inside.1))
    own (s ∷ steps) selectors inside = absurd (omega (arith, inside.1))

    by : (b : Bool)
        → Contains (cond b (numbers_where (is_under (root_of origin) (steps_accessed origin selectors)) (length tree.variables.items) (leaf_rows tree))
        (own_row (root_of origin) (steps_accessed origin selectors))) row
        → (root_of origin ≡ row) × (selectors ≡ []) × (steps_of origin ≡ [])
    by true inside =
        let test = is_under (root_of origin) (steps_accessed origin selectors) in
        let rows = numbers_where test (length tree.variables.items) (leaf_rows tree) in
        let found = in-numbers test (length tree.variables.items) (leaf_rows tree) row (contains-has rows row inside) in
        let behind = found.2 in
        absurd (omega (arith, within, behind))
    by false inside = own (steps_of origin) selectors inside

-- the type of an entire variable
pub own-type : (tree : Tree) (root : ℕ) (variable : Variable) → slice_get tree.variables.items root ≡ Some variable
    → accessed tree.variables.items tree.types (AtVariable root) [] ≡ Some variable.type_id
own-type tree root variable is = ap (option_and_then (λ (v : Variable). led tree.types [] v.type_id)) is

pub empty-way : (way : List Step) → Matches [] way → way ≡ []
empty-way [] matches = refl
empty-way (s ∷ way) matches = absurd matches

-- a component of a row under a variable is one of the variable's type
pub row-component : (tree : Tree) (root row : ℕ) (steps : List Step) (id : TypeId) → accessed tree.variables.items tree.types (AtVariable root) [] ≡ Some id
    → Contains (rows_under tree root []) row → IsOf tree row steps → Contains (components_of tree.types id) steps
row-component tree root row steps id typed inside of_row =
    let lies = (rows-are tree (AtVariable root) [] id typed).lies row steps inside of_row in
    let same : steps ≡ lies.1 = lies.2 ∙ ap (λ (way : List Step). way ++ lies.1) (empty-way lies.0 lies.3) in
    subst (Contains (components_of tree.types id)) (sym same) lies.4
