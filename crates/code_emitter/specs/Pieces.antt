-- Parts of the code of statements. It does not say what they do.
use Rattle.std.specs.Prelude.{ℕ, ℤ, ◌+◌, Bool, List, [], ◌∷◌, ◌++◌, length}
use Rattle.std.specs.Prelude.{if◌then◌else◌}
use Rattle.std.specs.Global.{Vec}
use Rattle.pcode_assembler.specs.declared.instr.Instr.{Instr}
use Rattle.pcode_assembler.specs.declared.instr.Instr.TheVariants as instr
use Rattle.typed_tree.specs.declared.tree.Direction.{Direction}
use Rattle.typed_tree.specs.declared.tree.ForHead.{ForHead}
use Rattle.typed_tree.specs.declared.tree.WithRecord.{WithRecord}
use Rattle.code_scheme.specs.declared.home.Home.{Home}
use Rattle.code_scheme.specs.Scopes.{Scope, count, held_offset, holding}
use Rattle.code_scheme.specs.Code.{Placed, address_code, index_codes, order_instr, range_check, row_code}

-- how many cells the set takes to which others are joined, if there is one
abbrev pub held_sets : Bool → ℕ
held_sets some = if some then 1 else 0

-- a test, and what is done where it holds; where it doesn't, a jump behind that and so many instructions more
abbrev pub guarded_code : ℕ → List Instr → Placed → Placed
guarded_code past test inside scope place =
    let begin = place + length test + 1 in
    test ++ (instr.JumpIfFalse (begin + length (inside scope begin) + past) ∷ inside scope begin)

-- whether the bounds of a for statement leave a value, and their tests
abbrev pub for_order : Scope → Direction → List Instr
for_order scope way =
    instr.Load 0 (held_offset scope 0) ∷ instr.Load 0 (held_offset scope 1) ∷ order_instr way ∷ []

abbrev pub for_tests : Scope → ForHead → List Instr
for_tests scope head =
    instr.Load 0 (held_offset scope 0) ∷ range_check head.first.fits ∷ instr.Store 0 (held_offset scope 0)
    ∷ range_check head.last.fits ∷ []

-- a scope in which so many records more stand, all of which lie here
abbrev pub among : Scope → List Home → ℕ → Scope
among scope records cells = record scope { next = count (scope.next + cells); records = records }

-- the address of a record of a `with`
abbrev pub record_code : Scope → WithRecord → List Instr
record_code scope one = address_code scope one.access (index_codes scope one.indexes.items)

-- where an arm of a case statement begins behind its row of constants, and the jump behind it
abbrev pub arm_begin : Scope → List ℤ → ℕ → ℕ
arm_begin scope row place = place + length (row_code scope 0 row) + 1

abbrev pub arm_end : Scope → List ℤ → Placed → ℕ → ℕ
arm_end scope row arm place =
    let inside = arm_begin scope row place in
    inside + length (arm (holding 1 scope) inside)

-- an arm with its row, a jump over it and one out of the statement that isn't set
abbrev pub arm_code : Scope → List ℤ → Placed → ℕ → List Instr
arm_code scope row arm place =
    let inside = arm_begin scope row place in
    row_code scope inside row
    ++ (instr.Jump (arm_end scope row arm place + 1) ∷ (arm (holding 1 scope) inside ++ (instr.Jump 0 ∷ [])))

-- where those jumps stand, arm by arm, from this place on
abbrev pub jumps_out : Scope → List (Vec ℤ) → List Placed → ℕ → List ℕ
jumps_out scope [] arms place = []
jumps_out scope (row ∷ rows) [] place = []
jumps_out scope (row ∷ rows) (arm ∷ arms) place =
    let out = arm_end scope row.items arm place in
    out ∷ jumps_out scope rows arms (out + 1)
