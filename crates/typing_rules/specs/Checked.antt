-- An answer, or the first broken rule. It says nothing of what the rules are.
use Rattle.std.specs.Prelude.{Result, Ok, Err, Bool, true, false, Option, Some, None}
use Rattle.memory.specs.Refused.{the_refusal}
use Rattle.place.specs.declared.Place.{Place}
use Rattle.scopes.specs.declared.fault.ScopeFault.{ScopeFault}
use Rattle.scopes.specs.declared.fault.ScopeFault.TheVariants as scope
use Rattle.typed_tree.specs.declared.fault.TypeFault.{TypeFault}
use Rattle.typed_tree.specs.declared.fault.TypeFault.TheVariants as fault

-- an answer, or the first broken rule
abbrev pub Checked : Type 0 → Type 0
Checked A = Result A TypeFault

abbrev pub and_then : {A B : Type 0} → Checked A → (A → Checked B) → Checked B
and_then (Ok a) f = f a
and_then (Err fault) f = Err fault

-- an answer where types fit, and else K1 at the place
abbrev pub fits : {A : Type 0} → Bool → Place → A → Checked A
fits true place answer = Ok answer
fits false place answer = Err (fault.Mismatch place)

abbrev pub or_mismatch : {A : Type 0} → Place → Option A → Checked A
or_mismatch place (Some answer) = Ok answer
or_mismatch place None = Err (fault.Mismatch place)

-- a fault of the scopes, at its place
abbrev pub placed : ScopeFault → Place → TypeFault
placed (scope.Memory _) place = fault.Memory the_refusal
placed scope.DeclaredTwice place = fault.DeclaredTwice place
placed scope.UsedBeforeDeclared place = fault.UsedBeforeDeclared place
placed scope.NotDeclared place = fault.NotDeclared place

-- what the scopes answer, at a place
abbrev pub told : {A : Type 0} → Place → Result A ScopeFault → Checked A
told place (Ok a) = Ok a
told place (Err f) = Err (placed f place)
