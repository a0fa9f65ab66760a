-- Where each value lies among those of the type of its place, a variable that is an ordinal has a number as its value.
use Rattle.std.proofs.Common.{◌≡◌, refl, subst, ℕ, ℤ, true, List, [], Option, Some, None}
use Rattle.std.proofs.lemmas.Bool.{false≢true}
use Rattle.std.specs.Option.{option_and_then, option_map}
use Rattle.std.specs.Prelude.{is_some, slice_get}
use Rattle.types.specs.Forms.{Form}
use Rattle.types.specs.Types.{form_at, form_kind, form_range, is_ordinal, kind_range}
use Rattle.types.specs.declared.form.TypeId.{TypeId}
use Rattle.types.specs.declared.form.TypeKind.{TypeKind}
use Rattle.types.specs.declared.form.TypeKind.TheVariants.{Ordinal, Set, Structured}
use Rattle.typed_tree.specs.declared.tree.Tree.{Tree}
use Rattle.typed_tree.specs.declared.tree.Variable.{Variable}
use Rattle.meaning.specs.declared.value.Value.{Value}
use Rattle.meaning.specs.declared.value.Value.TheVariants.{Members, Number}
use Rattle.meaning.specs.Kinds.{IsOfKind, IsOfType}
use Rattle.meaning.specs.Store.{Environment, Store}
use Rattle.checker_rows.specs.Rows.{is_ordinal_variable}
use Rattle.checker_state.proofs.Apart.{part}
use Rattle.checker_state.specs.Holds.{HoldNumbers, moment}
use Rattle.checker_loops.proofs.AliasedStores.{stored-of}
use Rattle.checker_calls.specs.Environments.{Proper, Typed}
use Rattle.checker_calls.proofs.AliasedTypes.{whole-type}
use Rattle.checker_calls.proofs.Headings.{one-there}

of-kind : (kind : TypeKind) (v : Value) → is_some (kind_range kind) ≡ true → IsOfKind (Some kind) v → (n : ℤ) × (v ≡ Number n)
of-kind (Ordinal range) (Number n) ordinal is = (n, refl)
of-kind (Ordinal range) (Members set) ordinal is = absurd is
of-kind (Set base members) v ordinal is = absurd (false≢true ordinal)
of-kind Structured v ordinal is = absurd (false≢true ordinal)

of-form : (form : Option Form) (v : Value) → is_some (option_and_then form_range form) ≡ true → IsOfKind (option_map form_kind form) v
    → (n : ℤ) × (v ≡ Number n)
of-form None v ordinal is = absurd (false≢true ordinal)
of-form (Some form) v ordinal is = of-kind (form_kind form) v ordinal is

-- a value of an ordinal type is a number
pub ordinal-number : (types : List Form) (id : TypeId) (v : Value) → is_ordinal types id ≡ true → IsOfType types (Some id) v → (n : ℤ) × (v ≡ Number n)
ordinal-number types id v ordinal is = of-form (form_at types id) v ordinal is

-- ordinal variables have numbers
pub hold-numbers : (tree : Tree) (pairs : List (ℕ × ℕ)) (block activations : ℕ) (env : Environment) (store : Store)
    → Proper tree pairs block activations env → Typed tree store → HoldNumbers (is_ordinal_variable tree) (moment env store)
hold-numbers tree pairs block activations env store proper typed root v ordinal is =
    let variable = one-there (λ (x : Variable). is_ordinal tree.types x.type_id) (slice_get tree.variables.items root) ordinal in
    let home = stored-of store (env.variables root) [] v is in
    let own = typed (part home.0 []) v home.2 in
    let same = whole-type tree pairs block activations env proper root home.0 own.0 variable.0 home.1 variable.1 own.1 in
    ordinal-number tree.types own.0 v (subst (λ (id : TypeId). is_ordinal tree.types id ≡ true) same variable.2) own.2.3
