-- What the checker did over calls from their actual parameters on.
use Rattle.std.proofs.Common.{◌≡◌, ◌∙◌, ap, refl, sym, append-nil, Bool, ◌&&◌, List, [], ◌∷◌, Option, Some, None}
use Rattle.std.specs.List.{list_all}
use Rattle.std.specs.Prelude.{flat_map}
use Rattle.std.proofs.lemmas.List.Folds.{list_all-append}
use Rattle.typed_tree.specs.declared.tree.Call.{Call}
use Rattle.typed_tree.specs.declared.tree.FunctionResult.{FunctionResult}
use Rattle.domain.specs.Interval.{Interval}
use Rattle.checker_state.specs.State.{State, unless_empty}
use Rattle.checker_state.specs.declared.value.Known.TheVariants.{Ordinal}
use Rattle.checker_trail.specs.declared.state.State.{State as Kept}
use Rattle.checker_trail.specs.Trail.{Moves}
use Rattle.checker_expressions.specs.declared.flow.Flow.{Flow}
use Rattle.checker_expressions.specs.View.{FlowGoes, call_range, context_of, range_of_result, state_of}
use Rattle.checker_expressions.specs.Walk.{Context, called_block, result_known, result_of, result_walk}
use Rattle.checker_expressions.proofs.Flows.{first-none, goes-by}

-- each of the lists of some has it where all that they list have
pub all-listed : {A B : Type 0} (test : B → Bool) (list : A → List B) (xs : List A)
    → list_all (λ x. list_all test (list x)) xs ≡ list_all test (flat_map list xs)
all-listed test list [] = refl
all-listed test list (x ∷ xs) =
    ap (λ b. list_all test (list x) && b) (all-listed test list xs) ∙ sym (list_all-append test (list x) (flat_map list xs))

-- the value of a function
result-is : (context : Context) (call : Call) (result : Option FunctionResult) (range : Interval) (state : State) → range ≡ range_of_result context call result
    → result_walk call result context state ≡ result_known range context state
result-is context call None range state is = ap (λ r. result_known r context state) (sym is)
result-is context call (Some result) range state is = ap (λ r. result_known r context state) (sym is)

pub result-goes : (call : Call) (range : Interval) (old : Flow) {state : Kept} → Moves (unless_empty range) old.state state
    → range ≡ call_range (context_of old []) call
    → FlowGoes (λ context. result_walk call (result_of (called_block context call)) context) old (record old { state = state }) (Ordinal range)
result-goes call range old moves is =
    goes-by (λ context. result_walk call (result_of (called_block context call)) context) (result_known range (context_of old []) (state_of old))
    (unless_empty range)
    (λ claims.
    let context = context_of old claims in
    result-is context call (result_of (called_block context call)) range (state_of old) is)
    refl moves refl refl (sym (append-nil old.open_ids.items)) (sym (first-none old.broken))
