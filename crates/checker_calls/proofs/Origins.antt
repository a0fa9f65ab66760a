-- Accesses by all selectors from their variables: those of an access that begins at a record of a with statement are the record's and its own.
use Rattle.std.proofs.Common.{◌≡◌, ◌∙◌, sym, ap, ap₂, refl, ℕ, true, nat_eq, List, [], ◌∷◌, ◌++◌, length, map}
use Rattle.std.proofs.lemmas.Bool.{eqb-true}
use Rattle.std.proofs.lemmas.List.{map-append, nil_from_length}
use Rattle.types.specs.declared.form.Step.{Step}
use Rattle.types.specs.declared.form.Step.TheVariants as step
use Rattle.typed_tree.specs.Accesses.{Origin, AtVariable, origin_by, origin_of, root_of, step_of, steps_of}
use Rattle.typed_tree.specs.declared.tree.Access.{Access}
use Rattle.typed_tree.specs.declared.tree.Base.{Base}
use Rattle.typed_tree.specs.declared.tree.Base.TheVariants as base
use Rattle.typed_tree.specs.declared.tree.PathStep.{PathStep}
use Rattle.typed_tree.specs.declared.tree.PathStep.TheVariants as path
use Rattle.typed_tree.specs.declared.tree.Selector.{Selector}
use Rattle.typed_tree.specs.declared.tree.Selector.TheVariants.{Element, Field}
use Rattle.typed_tree.specs.declared.tree.Tree.{Tree}
use Rattle.meaning.specs.Kinds.{way_of}
use Rattle.checker_rows.specs.Leaves.{LeafStep}
use Rattle.checker_rows.specs.Rows.{leaf_step, path_step, rows_accessed, rows_under, steps_accessed}
use Rattle.checker_rows.proofs.Selected.{Matches}
use Rattle.checker_calls.specs.Actuals.{way_accessed}

root-by : (root : ℕ) (from : Base) → root_of (origin_by root from) ≡ root
root-by root base.Variable = refl
root-by root (base.Record slot steps) = refl

-- an access has its root, wherever it begins
pub root_is : (access : Access) → root_of (origin_of access) ≡ access.root
root_is access = root-by access.root access.base

-- ---- ways

step-same : (selector : Selector) → path_step (step_of selector) ≡ leaf_step selector
step-same (Element fits cells) = refl
step-same (Field position offset) = refl

steps-same : (selectors : List Selector) → map path_step (map step_of selectors) ≡ map leaf_step selectors
steps-same [] = refl
steps-same (selector ∷ selectors) = ap₂ (λ (first : LeafStep) (rest : List LeafStep). first ∷ rest) (step-same selector) (steps-same selectors)

-- the steps to the rows of what is accessed are those of the way
pub way-steps : (origin : Origin) (selectors : List Selector) → map path_step (way_accessed origin selectors) ≡ steps_accessed origin selectors
way-steps origin selectors =
    map-append path_step (steps_of origin) (map step_of selectors)
    ∙ ap (λ (rest : List LeafStep). map path_step (steps_of origin) ++ rest) (steps-same selectors)

-- all selectors from the variable lead to the same rows
pub rows-same : (tree : Tree) (origin : Origin) (selectors all : List Selector) → map step_of all ≡ way_accessed origin selectors
    → rows_accessed tree (AtVariable (root_of origin)) all ≡ rows_accessed tree origin selectors
rows-same tree origin selectors all is =
    ap (rows_under tree (root_of origin)) (sym (steps-same all) ∙ ap (map path_step) is ∙ way-steps origin selectors)

-- ---- entire variables

none-mapped : (way : List PathStep) → map path_step way ≡ [] → way ≡ []
none-mapped [] is = refl
none-mapped (s ∷ way) is = absurd (cc)

-- where no steps lead to the rows, what is accessed is the variable
pub whole-way : (origin : Origin) (selectors : List Selector) → steps_accessed origin selectors ≡ [] → way_accessed origin selectors ≡ []
whole-way origin selectors is = none-mapped (way_accessed origin selectors) (way-steps origin selectors ∙ is)

-- and where no way leads to it, its rows are those of the variable
pub whole-rows : (tree : Tree) (origin : Origin) (selectors : List Selector) → nat_eq (length (way_accessed origin selectors)) 0 ≡ true
    → rows_accessed tree origin selectors ≡ rows_under tree (root_of origin) []
whole-rows tree origin selectors is =
    let none = nil_from_length (way_accessed origin selectors) (eqb-true _ 0 is) in
    ap (rows_under tree (root_of origin)) (sym (way-steps origin selectors) ∙ ap (map path_step) none)

-- ---- ways of places

-- what goes the way of selectors takes their steps
pub goes : (selectors : List Selector) (way : List Step) → Matches selectors way → way_of way ≡ map step_of selectors
goes [] [] matches = refl
goes [] (s ∷ way) matches = absurd matches
goes (selector ∷ selectors) [] matches = absurd matches
goes (Element fits cells ∷ selectors) (step.Element index ∷ way) (low, high, matches) =
    ap (λ (rest : List PathStep). path.Element ∷ rest) (goes selectors way matches)
goes (Element fits cells ∷ selectors) (step.Field place ∷ way) matches = absurd matches
goes (Field position offset ∷ selectors) (step.Element index ∷ way) matches = absurd matches
goes (Field position offset ∷ selectors) (step.Field place ∷ way) (same, matches) =
    ap₂ (λ (n : ℕ) (rest : List PathStep). path.Field n ∷ rest) (sym same) (goes selectors way matches)
