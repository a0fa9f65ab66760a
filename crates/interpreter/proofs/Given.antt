-- What is given as a number or as a set is given as a value.
use Rattle.std.proofs.Common.{◌≡◌, ℕ, ℤ, List, Result, Ok, Err, sym, ap}
use Rattle.std.specs.Result.{result_map_both}
use Rattle.meaning.specs.declared.value.Value.{Value}
use Rattle.meaning.specs.declared.value.Value.TheVariants.{Number, Members}
use Rattle.meaning.specs.Effect.{State}
use Rattle.meaning.specs.Meaning.{Argument}
use Rattle.interpreter_state.specs.Answers.{answered}
use Rattle.interpreter.specs.Pending.{Resumption, giving, giving_number, giving_set}

pub number_given : (number : Result ℤ ℕ) (value : Result Value ℕ) (next : Resumption) (operands : List Argument) (s : State) →
    value ≡ result_map_both Number (λ site. site) number → giving_number (answered number) next operands s ≡ giving (answered value) next operands s
number_given (Ok n) value next operands s is = sym (ap (λ (v : Result Value ℕ). giving (answered v) next operands s) is)
number_given (Err site) value next operands s is = sym (ap (λ (v : Result Value ℕ). giving (answered v) next operands s) is)

pub set_given : (set : Result ℕ ℕ) (value : Result Value ℕ) (next : Resumption) (operands : List Argument) (s : State) →
    value ≡ result_map_both Members (λ site. site) set → giving_set (answered set) next operands s ≡ giving (answered value) next operands s
set_given (Ok n) value next operands s is = sym (ap (λ (v : Result Value ℕ). giving (answered v) next operands s) is)
set_given (Err site) value next operands s is = sym (ap (λ (v : Result Value ℕ). giving (answered v) next operands s) is)
