-- The variables that a block declares, as variables are declared: those of a kind by their roots, and the cells of all.
use Rattle.std.proofs.Common.{◌≡◌, ℕ, zero, suc, ◌+◌, Bool, true, false, ◌&&◌, if◌then◌else◌, nat_eq, List, [], ◌∷◌, ◌++◌, length, Option, Some, None}
use Rattle.std.proofs.Common.{slice_get, refl, ap, ◌∙◌, arith, append-nil}
use Rattle.std.proofs.lemmas.Bool.{eqb-true}
use Rattle.std.proofs.lemmas.List.Elements.{filter-append}
use Rattle.std.proofs.lemmas.List.Sums.{sum_by_push}
use Rattle.types.specs.Forms.{Form}
use Rattle.types.specs.Types.{cells_of}
use Rattle.typed_tree.specs.declared.tree.Variable.{Variable}
use Rattle.typed_tree.specs.declared.tree.VariableKind.{VariableKind}
use Rattle.typed_tree.specs.declared.tree.VariableKind.TheVariants as kind
use Rattle.typed_tree.specs.WellFormed.{is_local_kind, is_parameter_kind, is_result_kind, roots_where, variables_of}
use Rattle.typing_laws.proofs.Reached.{IsLonger}
use Rattle.typing_laws.proofs.Tables.{HaveTypes, cells_in, cells_in_longer}

-- a test fails
abbrev pub Fails : Bool → Type 0
Fails test = test ≡ false

-- ---- roots

-- one variable more
pub roots_more : (test : Variable → Bool) (first : ℕ) (variables : List Variable) (variable : Variable)
    → roots_where test first (variables ++ variable ∷ [])
    ≡ roots_where test first variables ++ (if test variable then (first + length variables) ∷ [] else [])
roots_more test first [] variable = by (test variable)
  where
    by : (b : Bool) → (if b then first ∷ [] else []) ≡ (if b then (first + 0) ∷ [] else [])
    by true = let same : first ≡ first + 0 = omega arith in ap (λ n. n ∷ []) same
    by false = refl
roots_more test first (v ∷ variables) variable =
    by (test v) (test variable) (roots_more test (suc first) variables variable)
  where
    next : suc first + length variables ≡ first + suc (length variables)
    next = omega arith

    by : (here last : Bool)
        → roots_where test (suc first) (variables ++ variable ∷ [])
        ≡ roots_where test (suc first) variables ++ (if last then (suc first + length variables) ∷ [] else [])
        → (if here then first ∷ roots_where test (suc first) (variables ++ variable ∷ []) else roots_where test (suc first) (variables ++ variable ∷ []))
        ≡ (if here then first ∷ roots_where test (suc first) variables else roots_where test (suc first) variables)
        ++ (if last then (first + suc (length variables)) ∷ [] else [])
    by true last more =
        ap (λ l. first ∷ l) more ∙ ap (λ n. first ∷ (roots_where test (suc first) variables ++ (if last then n ∷ [] else []))) next
    by false last more = more ∙ ap (λ n. roots_where test (suc first) variables ++ (if last then n ∷ [] else [])) next

pub roots_none_more : (test : Variable → Bool) (variables : List Variable) (variable : Variable) → Fails (test variable)
    → roots_where test 0 (variables ++ variable ∷ []) ≡ roots_where test 0 variables
roots_none_more test variables variable none =
    roots_more test 0 variables variable ∙ ap (λ (b : Bool). roots_where test 0 variables ++ (if b then (0 + length variables) ∷ [] else [])) none
    ∙ append-nil (roots_where test 0 variables)

pub roots_one_more : (test : Variable → Bool) (variables : List Variable) (variable : Variable) → test variable ≡ true
    → roots_where test 0 (variables ++ variable ∷ []) ≡ roots_where test 0 variables ++ length variables ∷ []
roots_one_more test variables variable one =
    let plain : 0 + length variables ≡ length variables = omega arith in
    roots_more test 0 variables variable ∙ ap (λ (b : Bool). roots_where test 0 variables ++ (if b then (0 + length variables) ∷ [] else [])) one
    ∙ ap (λ n. roots_where test 0 variables ++ n ∷ []) plain

-- each of them is the root of a variable of which the test holds
pub record HasRoot (test : Variable → Bool) (first root : ℕ) (variables : List Variable) : Type 0 where
  pub place : ℕ
  pub at : root ≡ first + place
  pub variable : Variable
  pub is_there : slice_get variables place ≡ Some variable
  pub holds : test variable ≡ true

pub root_there : (test : Variable → Bool) (first : ℕ) (variables : List Variable) (position root : ℕ)
    → slice_get (roots_where test first variables) position ≡ Some root → HasRoot test first root variables
root_there test first [] position root is = absurd cc
root_there test first (v ∷ variables) position root is = by (λ p. root_there test (suc first) variables p root) (test v) refl position is
  where
    behind : HasRoot test (suc first) root variables → HasRoot test first root (v ∷ variables)
    behind r = record { place = suc r.place; at = omega (arith, r.at); variable = r.variable; is_there = r.is_there; holds = r.holds }

    by : ((p : ℕ) → slice_get (roots_where test (suc first) variables) p ≡ Some root → HasRoot test (suc first) root variables)
        → (here : Bool) → test v ≡ here → (position : ℕ)
        → slice_get (if here then first ∷ roots_where test (suc first) variables else roots_where test (suc first) variables) position ≡ Some root
        → HasRoot test first root (v ∷ variables)
    by more true holds zero h =
        let same : first ≡ root = cc in record { place = 0; at = omega (arith, same); variable = v; is_there = refl; holds = holds }
    by more true holds (suc position) h = behind (more position h)
    by more false holds position h = behind (more position h)

-- ---- parameters and results

abbrev pub declares : ℕ → (VariableKind → Bool) → Variable → Bool
declares block is_kind variable = nat_eq variable.block block && is_kind variable.kind

-- of a block, by their roots
abbrev pub parameters_of : ℕ → List Variable → List ℕ
parameters_of block variables = roots_where (declares block is_parameter_kind) 0 variables

abbrev pub results_of : ℕ → List Variable → List ℕ
results_of block variables = roots_where (declares block is_result_kind) 0 variables

abbrev pub roots_of : Option ℕ → List ℕ
roots_of None = []
roots_of (Some root) = root ∷ []

pub not_both : (a b : Bool) → Fails b → Fails (a && b)
not_both true b is = is
not_both false b is = refl

pub local_no_parameter : (of : VariableKind) → is_local_kind of ≡ true → Fails (is_parameter_kind of)
local_no_parameter kind.Local is = refl
local_no_parameter other is = absurd cc

pub local_no_result : (of : VariableKind) → is_local_kind of ≡ true → Fails (is_result_kind of)
local_no_result kind.Local is = refl
local_no_result other is = absurd cc

-- blocks are different
pub other_block : (a b : ℕ) → (a ≡ b → ⊥) → Fails (nat_eq a b)
other_block a b differ = by (nat_eq a b) refl
  where
    by : (test : Bool) → nat_eq a b ≡ test → Fails test
    by true same = absurd (differ (eqb-true a b same))
    by false same = refl

pub of_other_block : (block : ℕ) (is_kind : VariableKind → Bool) (variable : Variable) → Fails (nat_eq variable.block block)
    → Fails (declares block is_kind variable)
of_other_block block is_kind variable other = ap (λ b. b && is_kind variable.kind) other

-- ---- cells

-- those of the variables of a block
abbrev pub cells_of_block : List Form → ℕ → List Variable → ℕ
cells_of_block types block variables = cells_in types (variables_of block variables)

own_more : (block : ℕ) (variables : List Variable) (variable : Variable)
    → variables_of block (variables ++ variable ∷ []) ≡ variables_of block variables ++ (if nat_eq variable.block block then variable ∷ [] else [])
own_more block variables variable = filter-append (λ (v : Variable). nat_eq v.block block) variables (variable ∷ [])

-- one of another block more
pub others_kept : (block : ℕ) (variables : List Variable) (variable : Variable) → Fails (nat_eq variable.block block)
    → variables_of block (variables ++ variable ∷ []) ≡ variables_of block variables
others_kept block variables variable other =
    own_more block variables variable ∙ ap (λ (b : Bool). variables_of block variables ++ (if b then variable ∷ [] else [])) other
    ∙ append-nil (variables_of block variables)

-- one of the block more
pub cells_more : (types : List Form) (block : ℕ) (variables : List Variable) (variable : Variable) → nat_eq variable.block block ≡ true
    → cells_of_block types block (variables ++ variable ∷ []) ≡ cells_of_block types block variables + cells_of types variable.type_id
cells_more types block variables variable own =
    ap (cells_in types)
    (own_more block variables variable ∙ ap (λ (b : Bool). variables_of block variables ++ (if b then variable ∷ [] else [])) own)
    ∙ sum_by_push (λ (v : Variable). cells_of types v.type_id) (variables_of block variables) variable

own_have_types : (types : List Form) (block : ℕ) (variables : List Variable) → HaveTypes types variables → HaveTypes types (variables_of block variables)
own_have_types types block [] all = tt
own_have_types types block (v ∷ variables) all = by (nat_eq v.block block) (own_have_types types block variables all.1)
  where
    by : (own : Bool) → HaveTypes types (variables_of block variables)
        → HaveTypes types (if own then v ∷ variables_of block variables else variables_of block variables)
    by true more = (all.0, more)
    by false more = more

-- with more types
pub block_cells_longer : {old new : List Form} → IsLonger old new → (block : ℕ) (variables : List Variable) → HaveTypes old variables
    → cells_of_block new block variables ≡ cells_of_block old block variables
block_cells_longer {old} {new} longer block variables all =
    cells_in_longer longer (variables_of block variables) (own_have_types old block variables all)
