-- The values of ordinal variables are integers.
use Rattle.std.proofs.Common.{◌≡◌, ℕ, ℤ, List, [], length}
use Rattle.std.specs.List.{slice_get}
use Rattle.std.proofs.lemmas.Option.{slice_get_within}
use Rattle.types.specs.Types.{is_ordinal}
use Rattle.typed_tree.specs.declared.tree.Tree.{Tree}
use Rattle.typed_tree.specs.declared.tree.Variable.{Variable}
use Rattle.meaning.specs.declared.value.Value.{Value}
use Rattle.meaning.specs.declared.value.Value.TheVariants.{Members, Number}
use Rattle.meaning.specs.Store.{Environment, Store}
use Rattle.checker_rows.specs.Limits.{integer}
use Rattle.checker_state.specs.Holds.{IsIn}
use Rattle.checker_state.specs.Knows.{IsInteger}
use Rattle.checker_state.proofs.Ranged.{has-is_within}
use Rattle.checker_loops.proofs.GrowthsTurned.{AreIntegers}
use Rattle.checker_calls.specs.Environments.{Proper, Typed}
use Rattle.checker_calls.proofs.AliasedTypes.{in-types}
use Rattle.checker_calls.proofs.Headings.{one-there}
use Rattle.checker_calls.proofs.Numbers.{hold-numbers}

number-integer : (v : Value) → (n : ℤ) × (v ≡ Number n) → IsIn integer v → IsInteger v
number-integer (Number n) is inside = has-is_within integer.first integer.last n inside
number-integer (Members set) (n, is) inside = absurd (cc)

pub ordinal-integers : (tree : Tree) (pairs : List (ℕ × ℕ)) (block activations : ℕ) (env : Environment) (store : Store)
    → Proper tree pairs block activations env → Typed tree store → AreIntegers tree (length tree.variables.items) env store
ordinal-integers tree pairs block activations env store proper typed root ordinal =
    let found = one-there (λ (v : Variable). is_ordinal tree.types v.type_id) (slice_get tree.variables.items root) ordinal in (
      slice_get_within tree.variables.items root found.0 found.1,
      λ v is.
          number-integer v (hold-numbers tree pairs block activations env store proper typed root v ordinal is)
          ((in-types tree pairs block activations env store proper typed).integers root [] v is),
    )
