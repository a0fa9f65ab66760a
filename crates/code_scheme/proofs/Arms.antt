-- How long the arms of a case statement are rests neither on where their jumps go nor on where their constants jump.
use Rattle.std.proofs.Common.{◌≡◌, ℕ, ◌+◌, List, [], ◌∷◌, ◌++◌, length, refl, arith, length-append}
use Rattle.std.specs.Prelude.{ℤ}
use Rattle.std.specs.Global.{Vec}
use Rattle.pcode_assembler.specs.declared.instr.Instr.TheVariants as instr
use Rattle.code_scheme.specs.Scopes.{Scope, holding}
use Rattle.code_scheme.specs.Code.{Placed, arms_code, row_code}

-- where the jumps out go changes no length
pub length-arms : (scope : Scope) (rows : List (Vec ℤ)) (arms : List Placed) (out out' place : ℕ)
    → length (arms_code scope out rows arms place) ≡ length (arms_code scope out' rows arms place)
length-arms scope [] arms out out' place = refl
length-arms scope (row ∷ rows) [] out out' place = refl
length-arms scope (row ∷ rows) (arm ∷ arms) out out' place =
    let inside = place + length (row_code scope 0 row.items) + 1 in
    let code = arm (holding 1 scope) inside in
    let next = inside + length code + 1 in
    let compared = row_code scope inside row.items in
    let rest = arms_code scope out rows arms next in
    let rest' = arms_code scope out' rows arms next in
    let same = length-arms scope rows arms out out' next in
    omega (
      arith,
      same,
      length-append compared (instr.Jump next ∷ (code ++ (instr.Jump out ∷ rest))),
      length-append compared (instr.Jump next ∷ (code ++ (instr.Jump out' ∷ rest'))),
      length-append code (instr.Jump out ∷ rest),
      length-append code (instr.Jump out' ∷ rest'),
    )

-- nor does the place of the arm that of its constants
pub length-row : (scope : Scope) (arm arm' : ℕ) (row : List ℤ) → length (row_code scope arm row) ≡ length (row_code scope arm' row)
length-row scope arm arm' [] = refl
length-row scope arm arm' (constant ∷ row) = let e = length-row scope arm arm' row in omega arith
