-- Each parameter of a block that is called with its actual one; and which variables of the callee the caller knows too.
use Rattle.std.proofs.Common.{arith, ◌≡◌, ◌⊎◌, inl, inr, ◌∙◌, sym, ap, refl, subst, ℕ, zero, suc, Bool, true, false, cond, ◌&&◌, ◌||◌}
use Rattle.std.proofs.Common.{nat_eq, List, [], ◌∷◌, Option, Some, None}
use Rattle.std.specs.List.{Contains}
use Rattle.std.specs.Prelude.{slice_get}
use Rattle.std.proofs.lemmas.Bool.{eqb-false, eqb-true, false≢true}
use Rattle.std.proofs.lemmas.Option.{get_or_from_slice_get, none-some, same_Some, slice_get_within}
use Rattle.typed_tree.specs.WellFormed.{encloses, is_local_kind, is_one_of, is_parameter_kind, is_result_kind, is_round, of_one, outline_of}
use Rattle.typed_tree.specs.declared.tree.Block.{Block}
use Rattle.typed_tree.specs.declared.tree.Tree.{Tree}
use Rattle.typed_tree.specs.declared.tree.Variable.{Variable}
use Rattle.typed_tree.specs.declared.tree.VariableKind.{VariableKind}
use Rattle.typed_tree.specs.declared.tree.VariableKind.TheVariants as kind
use Rattle.meaning.specs.Meaning.{Argument, environment_of, home_of, place_for, place_passed, seen_from}
use Rattle.meaning.specs.Store.{Environment, Store}
use Rattle.checker_loops.specs.Starts.{is_own}
use Rattle.checker_calls.specs.Actuals.{Actual, Binding, actual_of, bound_to}
use Rattle.checker_calls.proofs.Callee.{IsCalled, activation_of, parameter-listed}
use Rattle.checker_calls.proofs.Entered.{parameter-own}
use Rattle.checker_calls.proofs.Headings.{heading-at}
use Rattle.checker_calls.proofs.Passed.{AllFit, AreArguments, Fits, IsArgument}

-- a parameter, by its place, with its actual one and what is passed
pub record IsParameter (tree : Tree) (env : Environment) (store : Store) (activations : ℕ) (roots : List ℕ) (actuals : List Actual)
    (arguments : List Argument) (root : ℕ) (variable : Variable) : Type 0 where
  pub i : ℕ
  pub actual : Actual
  pub argument : Argument
  pub root_at : slice_get roots i ≡ Some root
  pub argument_at : slice_get arguments i ≡ Some argument
  pub actual_is : actual_of (bound_to roots actuals) root ≡ Some actual
  pub place_is : place_for root roots arguments ≡ place_passed argument
  pub known : IsArgument tree env store variable actual argument
  pub fits : Fits tree activations argument variable

module _ (tree : Tree) (env : Environment) (store : Store) (activations : ℕ) where
  pub parameter-at : (roots : List ℕ) (actuals : List Actual) (arguments : List Argument) → AreArguments tree env store roots actuals arguments
      → AllFit tree activations roots arguments → (root : ℕ) (variable : Variable)
      → slice_get tree.variables.items root ≡ Some variable → Contains roots root
      → IsParameter tree env store activations roots actuals arguments root variable
  parameter-at [] actuals arguments are fit root variable is inside = absurd (omega (arith, inside.1))
  parameter-at (first ∷ roots) [] arguments are fit root variable is inside = absurd are
  parameter-at (first ∷ roots) (actual ∷ actuals) [] are fit root variable is inside = absurd are
  parameter-at (first ∷ roots) (actual ∷ actuals) (argument ∷ arguments) (formal, formal_is, own, others)
      (fitting, fitting_is, fits, fit) root variable is
      inside =
      by (nat_eq first root) refl inside
      (λ later.
      parameter-at roots actuals arguments others fit root variable is later)
    where
      more : nat_eq first root ≡ false → IsParameter tree env store activations roots actuals arguments root variable
          → IsParameter tree env store activations (first ∷ roots) (actual ∷ actuals) (argument ∷ arguments) root variable
      more away p = record {
        i = suc p.i;
        actual = p.actual;
        argument = p.argument;
        root_at = p.root_at;
        argument_at = p.argument_at;
        actual_is = ap (λ (b : Bool). cond b (Some actual) (actual_of (bound_to roots actuals) root)) away ∙ p.actual_is;
        place_is = ap (λ (b : Bool). cond b (place_passed argument) (place_for root roots arguments)) away ∙ p.place_is;
        known = p.known;
        fits = p.fits;
      }

      by : (same : Bool) → nat_eq first root ≡ same → Contains (first ∷ roots) root
          → (Contains roots root → IsParameter tree env store activations roots actuals arguments root variable)
          → IsParameter tree env store activations (first ∷ roots) (actual ∷ actuals) (argument ∷ arguments) root variable
      by true same inside rest =
          let one = eqb-true first root same in
          let v : formal ≡ variable = same_Some formal variable (sym formal_is ∙ ap (slice_get tree.variables.items) one ∙ is) in
          let w : fitting ≡ variable = same_Some fitting variable (sym fitting_is ∙ ap (slice_get tree.variables.items) one ∙ is) in
          record {
            i = 0;
            actual = actual;
            argument = argument;
            root_at = ap Some one;
            argument_at = refl;
            actual_is = ap (λ (b : Bool). cond b (Some actual) (actual_of (bound_to roots actuals) root)) same;
            place_is = ap (λ (b : Bool). cond b (place_passed argument) (place_for root roots arguments)) same;
            known = subst (λ (x : Variable). IsArgument tree env store x actual argument) v own;
            fits = subst (λ (x : Variable). Fits tree activations argument x) w fits;
          }
      by false same (zero, within, at) rest = absurd (eqb-false first root same at)
      by false same (suc k, within, at) rest = more same (rest (k, omega (arith, within), at))

-- only a parameter has an actual one
pub actual-of_parameter : (roots : List ℕ) (actuals : List Actual) (root : ℕ) (actual : Actual) → actual_of (bound_to roots actuals) root ≡ Some actual
    → Contains roots root
actual-of_parameter [] actuals root actual is = absurd (none-some actual is)
actual-of_parameter (first ∷ roots) [] root actual is = absurd (none-some actual is)
actual-of_parameter (first ∷ roots) (one ∷ actuals) root actual is =
    by (nat_eq first root) refl is (λ later. actual-of_parameter roots actuals root actual later)
  where
    by : (same : Bool) → nat_eq first root ≡ same → cond same (Some one) (actual_of (bound_to roots actuals) root) ≡ Some actual
        → (actual_of (bound_to roots actuals) root ≡ Some actual → Contains roots root) → Contains (first ∷ roots) root
    by true same is rest = (0, omega arith, eqb-true first root same)
    by false same is rest = let later = rest is in let within = later.1 in (suc later.0, omega (arith, within), later.2)

-- ---- what caller and callee know

-- a variable is visible in a block, and is none of its own nor its result
abbrev pub IsOutward : Tree → ℕ → ℕ → Type 0
IsOutward tree number root =
    (variable : Variable) × (slice_get tree.variables.items root ≡ Some variable) × (is_round (outline_of tree) number variable.block ≡ true)
    × (is_own number variable ≡ false)

or-none : (a b : Bool) → (a || b) ≡ false → (a ≡ false) × (b ≡ false)
or-none true b is = absurd (false≢true (sym is))
or-none false b is = (refl, is)

other-kind : (one : VariableKind) → (is_local_kind one || is_result_kind one) ≡ false → is_parameter_kind one ≡ true
other-kind kind.Local is = absurd (false≢true (sym is))
other-kind kind.Result is = absurd (false≢true (sym is))
other-kind kind.ValueParameter is = refl
other-kind kind.VariableParameter is = refl

module _ (tree : Tree) (pairs : List (ℕ × ℕ)) (number : ℕ) (block : Block) (arguments : List Argument) (caller : Environment) (activations from : ℕ)
    (call : IsCalled tree pairs number block arguments caller activations from) (store : Store) (actuals : List Actual)
    (are : AreArguments tree caller store block.heading.parameters.items actuals arguments) where
  abbrev pub callee : Environment
  callee = environment_of tree (activation_of number block arguments caller activations)

  abbrev pub bindings : List Binding
  bindings = bound_to block.heading.parameters.items actuals

  -- a variable round the callee's block lies where it does for the caller
  pub record IsOuter (root : ℕ) (variable : Variable) : Type 0 where
    pub same : callee.variables root ≡ caller.variables root
    pub no_actual : actual_of bindings root ≡ None

  abbrev pub Parameter : ℕ → Variable → Type 0
  Parameter root variable = IsParameter tree caller store activations block.heading.parameters.items actuals arguments root variable

  outer-is : (root : ℕ) (variable : Variable) → slice_get tree.variables.items root ≡ Some variable → nat_eq variable.block number ≡ false
      → is_one_of block.heading.around.items variable.block ≡ true → IsOuter root variable
  outer-is root variable is away among = record {
    same = ap (seen_from (activation_of number block arguments caller activations) root) is
        ∙ ap (λ (b : Bool). cond b (home_of (activation_of number block arguments caller activations) root variable.kind)
        (cond (is_one_of block.heading.around.items variable.block) (caller.variables root) None)) away
        ∙ ap (λ (b : Bool). cond b (caller.variables root) None) among;
    no_actual = none (actual_of bindings root) refl;
  }
    where
      none : (found : Option Actual) → actual_of bindings root ≡ found → found ≡ None
      none None at = refl
      none (Some actual) at =
          let inside = actual-of_parameter block.heading.parameters.items actuals root actual at in
          let own = parameter-own tree call.well number block call.block_is root inside in
          let one : own.0 ≡ variable = same_Some own.0 variable (sym own.1 ∙ is) in
          absurd (eqb-false variable.block number away (subst (λ (v : Variable). v.block ≡ number) one own.2))

  -- what the caller may know of the callee's variables: those round it, and parameters
  pub outward-cases : (root : ℕ) (outward : IsOutward tree number root) → IsOuter root outward.0 ⊎ Parameter root outward.0
  outward-cases root (variable, is, round, other) = by (nat_eq variable.block number) refl
    where
      encloses-it : (nat_eq variable.block number || is_one_of block.heading.around.items variable.block) ≡ true
      encloses-it = sym (ap (of_one (encloses variable.block number)) (heading-at tree number block call.block_is)) ∙ round

      by : (own : Bool) → nat_eq variable.block number ≡ own → IsOuter root variable ⊎ Parameter root variable
      by true own =
          let kinds : (is_local_kind variable.kind || is_result_kind variable.kind) ≡ false =
          sym (ap (λ (b : Bool). b && (is_local_kind variable.kind || is_result_kind variable.kind)) own) ∙ other in
          inr
          (parameter-at tree caller store activations block.heading.parameters.items actuals arguments are call.fit root variable is
          (parameter-listed tree call.well number block call.block_is root variable is (eqb-true variable.block number own) (other-kind variable.kind kinds)))
      by false own =
          inl (outer-is root variable is own (sym (ap (λ (b : Bool). b || is_one_of block.heading.around.items variable.block) own) ∙ encloses-it))

  -- a parameter is declared by the callee's block
  pub parameter-block : (root : ℕ) (variable : Variable) → slice_get tree.variables.items root ≡ Some variable → Parameter root variable
      → variable.block ≡ number
  parameter-block root variable is p =
      let inside : Contains block.heading.parameters.items root = (
        p.i,
        slice_get_within block.heading.parameters.items p.i root p.root_at,
        get_or_from_slice_get block.heading.parameters.items p.i root root p.root_at,
      ) in
      let own = parameter-own tree call.well number block call.block_is root inside in
      subst (λ (v : Variable). v.block ≡ number) (same_Some own.0 variable (sym own.1 ∙ is)) own.2
