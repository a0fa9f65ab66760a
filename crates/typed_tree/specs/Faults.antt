-- The codes and the places of the rules of names and types: S1 to S4 of names, K1 to K10 of types and kinds, Y1 to Y3
-- of the values and the cells of types. It doesn't say which program breaks which rule.
use Rattle.std.specs.Prelude.{ℕ, Option, Some, None}
use Rattle.place.specs.declared.Place.{Place}
use Rattle.typed_tree.specs.declared.fault.TypeFault.{TypeFault}
use Rattle.typed_tree.specs.declared.fault.TypeFault.TheVariants.{Memory, DeclaredTwice, UsedBeforeDeclared}
use Rattle.typed_tree.specs.declared.fault.TypeFault.TheVariants.{NotDeclared, NestedTooDeep, Mismatch}
use Rattle.typed_tree.specs.declared.fault.TypeFault.TheVariants.{NotVariable, WrongParameters}
use Rattle.typed_tree.specs.declared.fault.TypeFault.TheVariants.{PackedComponent, Threatened, CaseConstant}
use Rattle.typed_tree.specs.declared.fault.TypeFault.TheVariants.{NeverAssigned, NotProgramParameter, NotCompleted}
use Rattle.typed_tree.specs.declared.fault.TypeFault.TheVariants.{TooMany, FirstAboveLast, TooManyCells}
use Rattle.typed_tree.specs.declared.fault.TypeFault.TheVariants.{MembersOutOfRange}

-- the letters of the rules
abbrev pub letter_s : ℕ
letter_s = 83

abbrev pub letter_k : ℕ
letter_k = 75

abbrev pub letter_y : ℕ
letter_y = 89

-- the letter of a rule and the number behind it, and 0 for want of memory
abbrev pub code_of : TypeFault → ℕ × ℕ
code_of (Memory _) = (0, 0)
code_of (DeclaredTwice p) = (letter_s, 1)
code_of (UsedBeforeDeclared p) = (letter_s, 2)
code_of (NotDeclared p) = (letter_s, 3)
code_of (NestedTooDeep p) = (letter_s, 4)
code_of (Mismatch p) = (letter_k, 1)
code_of (NotVariable p) = (letter_k, 2)
code_of (WrongParameters p) = (letter_k, 3)
code_of (PackedComponent p) = (letter_k, 4)
code_of (Threatened p) = (letter_k, 5)
code_of (CaseConstant p) = (letter_k, 6)
code_of (NeverAssigned p) = (letter_k, 7)
code_of (NotProgramParameter p) = (letter_k, 8)
code_of (NotCompleted p) = (letter_k, 9)
code_of (TooMany p) = (letter_k, 10)
code_of (FirstAboveLast p) = (letter_y, 1)
code_of (TooManyCells p) = (letter_y, 2)
code_of (MembersOutOfRange p) = (letter_y, 3)

-- where a fault stands in the text
abbrev pub place_of_fault : TypeFault → Option Place
place_of_fault (Memory _) = None
place_of_fault (DeclaredTwice p) = Some p
place_of_fault (UsedBeforeDeclared p) = Some p
place_of_fault (NotDeclared p) = Some p
place_of_fault (NestedTooDeep p) = Some p
place_of_fault (Mismatch p) = Some p
place_of_fault (NotVariable p) = Some p
place_of_fault (WrongParameters p) = Some p
place_of_fault (PackedComponent p) = Some p
place_of_fault (Threatened p) = Some p
place_of_fault (CaseConstant p) = Some p
place_of_fault (NeverAssigned p) = Some p
place_of_fault (NotProgramParameter p) = Some p
place_of_fault (NotCompleted p) = Some p
place_of_fault (TooMany p) = Some p
place_of_fault (FirstAboveLast p) = Some p
place_of_fault (TooManyCells p) = Some p
place_of_fault (MembersOutOfRange p) = Some p
