-- The arm of a case at a value of its index.
use Rattle.std.proofs.Common.{◌≡◌, ℕ, ℤ, ◌+◌, ◌≤◌, List, [], ◌∷◌, Bool, true, false, Option, Some, None, Vec, Global}
use Rattle.std.proofs.Common.{map, arith, subst, refl, if◌then◌else◌}
use Rattle.std.proofs.lemmas.List.Sums.{sum_by-cons}
use Rattle.typed_tree.specs.declared.tree.Stmt.{Stmt}
use Rattle.meaning.specs.declared.outcome.Ending.TheVariants as ending
use Rattle.meaning.specs.Meaning.{Surroundings}
use Rattle.meaning.specs.Effect.{State, Action, stop}
use Rattle.meaning.specs.Meaning.{Execution, arm_of, effect_of, is_among}
use Rattle.interpreter_state.specs.Answers.{arm_at}
use Rattle.interpreter.specs.Size.{row_size, size_of_statement}

-- an arm, or an error at the site where there is none
abbrev pub arm_or_error : ℕ → Option Stmt → Execution
arm_or_error site None env = stop (ending.Error site)
arm_or_error site (Some arm) env = effect_of arm env

found_or_later : (site : ℕ) (found : Bool) (arm : Stmt) (later : Option Stmt) (rest : Action (Unit {0})) (env : Surroundings) (s : State) →
    rest s ≡ arm_or_error site later env s →
    (if found then effect_of arm env else rest) s ≡ arm_or_error site (if found then Some arm else later) env s
found_or_later site true arm later rest env s same = refl
found_or_later site false arm later rest env s same = same

-- what is done is the arm that is found
pub arm-found : (site : ℕ) (rows : List (Vec ℤ Global)) (arms : List Stmt) (n : ℤ) (env : Surroundings) (s : State) →
    arm_of site rows (map effect_of arms) n env s ≡ arm_or_error site (arm_at rows arms n) env s
arm-found site [] arms n env s = refl
arm-found site (row ∷ rows) [] n env s = refl
arm-found site (row ∷ rows) (arm ∷ arms) n env s =
    found_or_later site (is_among row.items n) arm (arm_at rows arms n) (arm_of site rows (map effect_of arms) n env) env s
    (arm-found site rows arms n env s)

-- an arm that is found is one of the arms
size-chosen : (found : Bool) (first arm : Stmt) (later : Option Stmt) (all : ℕ) → (if found then Some first else later) ≡ Some arm →
    1 + size_of_statement first ≤ all → (later ≡ Some arm → 1 + size_of_statement arm ≤ all) → 1 + size_of_statement arm ≤ all
size-chosen true first arm later all is one other =
    let same : first ≡ arm = cc in subst (λ (e : Stmt). 1 + size_of_statement e ≤ all) same one
size-chosen false first arm later all is one other = other is

pub size-found : (rows : List (Vec ℤ Global)) (arms : List Stmt) (n : ℤ) (arm : Stmt) → arm_at rows arms n ≡ Some arm →
    1 + size_of_statement arm ≤ row_size 1 (map size_of_statement arms)
size-found [] arms n arm is = let no : ⊥ = cc in absurd no
size-found (row ∷ rows) [] n arm is = let no : ⊥ = cc in absurd no
size-found (row ∷ rows) (first ∷ arms) n arm is =
    let all = sum_by-cons (λ size. 1 + size) (size_of_statement first) (map size_of_statement arms) in
    size-chosen (is_among row.items n) first arm (arm_at rows arms n) (row_size 1 (map size_of_statement (first ∷ arms))) is (omega (arith, all))
    (λ later. let rest = size-found rows arms n arm later in omega (arith, all, rest))
