-- Calls and the values of functions: how their typing goes on from that of their actual parameters.
use Rattle.std.proofs.Common.{◌≡◌, ℕ, Bool, List, [], Option, Some, None, Ok, refl}
use Rattle.std.specs.Prelude.{slice_get}
use Rattle.place.specs.declared.Place.{Place}
use Rattle.syntax_tree.specs.declared.Name.{Name}
use Rattle.types.specs.declared.form.TypeId.{TypeId}
use Rattle.scopes.specs.declared.denotation.Denotation.{Denotation}
use Rattle.scopes.specs.declared.denotation.Denotation.TheVariants as denotes
use Rattle.scopes.specs.declared.denotation.InputFunction.{InputFunction}
use Rattle.typed_tree.specs.declared.site.SiteKind.{SiteKind}
use Rattle.typed_tree.specs.declared.tree.Variable.{Variable}
use Rattle.typing_rules.specs.declared.typed.Typed.{Typed}
use Rattle.typing.specs.Passing.{Passed, Passing, After, after, behind_marks, given, pure, ◌>>=◌}
use Rattle.typing_rules.specs.Checked.{Checked, and_then}
use Rattle.typing.specs.Steps.{host_type, variable_at}
use Rattle.typing.specs.Expressions.{WrittenActual, call_by, or_no_result, required_call, result_variable}
use Rattle.typing_rules.specs.Typed.{typed}
use Rattle.expression_resolver.specs.Made.{host_found}
use Rattle.expression_resolver.proofs.Results.{result_host}

-- ---- the value of a function

module _ (place : Place) (id : Option ℕ) where
  abbrev value_of : Option ℕ → Passing Typed
  value_of root = result_variable root >>= (λ found. given (or_no_result place found)
      >>= (λ result. host_type result.type_id >>= (λ host. pure (typed host id))))

  -- its type by the variable of its result
  abbrev by_host : Checked (After TypeId) → Checked (After Typed)
  by_host outcome = and_then outcome (λ a. Ok (after (typed a.answer id) a.look a.passed))

  by_found : (s : Passed) (found : Option Variable)
      → behind_marks [] ((given (or_no_result place found) >>= (λ result. host_type result.type_id >>= (λ host. pure (typed host id)))) s)
      ≡ by_host (behind_marks [] (host_found place found s))
  unfolding host_found host_type
  by_found s None = refl
  by_found s (Some variable) = refl

  pub value_by_host : (root : Option ℕ) (s : Passed) → value_of root s ≡ by_host (result_host place root s)
  unfolding variable_at
  value_by_host None s = by_found s None
  value_by_host (Some n) s = by_found s (slice_get s.variables n)

-- ---- the call of a required function

-- what is neither a routine of the program nor a function of the input
pub required_else : (d : Denotation) (name : Name) (actuals : List WrittenActual) (lead : Option SiteKind)
    → ((block : ℕ) (is_function : Bool) → ¬ (d ≡ denotes.Routine block is_function)) → ((function : InputFunction) → ¬ (d ≡ denotes.InputFunction function))
    → call_by d name actuals lead ≡ required_call d name actuals lead
required_else (denotes.Routine block is_function) name actuals lead no_routine none = absurd (no_routine block is_function refl)
required_else (denotes.InputFunction function) name actuals lead no_routine none = absurd (none function refl)
required_else other name actuals lead no_routine none = refl
