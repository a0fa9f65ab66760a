-- The results of functions: of what type they are, by their roots.
use Rattle.std.proofs.Common.{◌≡◌, ℕ, [], Option, Some, None, Ok, Err, ap, ◌∙◌}
use Rattle.std.specs.Prelude.{slice_get}
use Rattle.place.specs.declared.Place.{Place}
use Rattle.types.specs.declared.form.TypeId.{TypeId}
use Rattle.types.specs.Types.{host_of}
use Rattle.typed_tree.specs.declared.fault.TypeFault.TheVariants as fault
use Rattle.typed_tree.specs.declared.tree.Variable.{Variable}
use Rattle.typing.specs.Passing.{Passed, After, after, behind_marks}
use Rattle.typing_rules.specs.Checked.{Checked, and_then}
use Rattle.typing.specs.Steps.{host_type, variable_at}
use Rattle.typing.specs.Expressions.{result_variable}
use Rattle.expression_resolver.specs.Made.{host_found}

module _ (place : Place) (root : Option ℕ) (s : Passed) where
  abbrev pub result_host : Checked (After TypeId)
  result_host = and_then (result_variable root s) (λ a. behind_marks a.look (host_found place a.answer a.passed))

  abbrev of_root : Option ℕ → Checked (After TypeId)
  of_root r = and_then (result_variable r s) (λ a. behind_marks a.look (host_found place a.answer a.passed))

  -- there is none
  pub no_result : root ≡ None → result_host ≡ Err (fault.WrongParameters place)
  unfolding host_found
  no_result is = ap of_root is

  -- there is no variable of its root
  pub no_variable : (n : ℕ) → root ≡ Some n → slice_get s.variables n ≡ None → result_host ≡ Err (fault.WrongParameters place)
  unfolding host_found variable_at
  no_variable n is none = ap of_root is ∙ ap (λ (found : Option Variable). behind_marks [] (host_found place found s)) none

  pub host_is : (n : ℕ) (variable : Variable) (host : TypeId) → root ≡ Some n → slice_get s.variables n ≡ Some variable
      → host_of s.types variable.type_id ≡ host
      → result_host ≡ Ok (after host [] s)
  unfolding host_found variable_at host_type
  host_is n variable host is found same =
      ap of_root is ∙ ap (λ (v : Option Variable). behind_marks [] (host_found place v s)) found ∙ ap (λ id. Ok (after id [] s)) same
