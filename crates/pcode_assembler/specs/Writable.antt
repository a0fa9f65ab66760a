-- Code whose text can be written and read again: what each instruction names is there, and the tables are numbered.
-- Which operands a text can spell is told in Bounds. It says nothing of what the code does.
use Rattle.std.specs.Prelude.{◌≡◌, ℕ, ◌&&◌, Bool, true, List, [], ◌∷◌, length, map, nat_le, nat_lt, Option, None, Some}
use Rattle.std.specs.List.{list_all, range_with_len}
use Rattle.std.specs.Option.{option_and_then}
use Rattle.pcode_assembler.specs.declared.code.Code.{Code}
use Rattle.pcode_assembler.specs.declared.code.Site.{Site}
use Rattle.pcode_assembler.specs.declared.code.Point.{Point}
use Rattle.pcode_assembler.specs.declared.instr.Instr.{Instr}
use Rattle.pcode_assembler.specs.declared.instr.Instr.TheVariants as instr
use Rattle.pcode_assembler.specs.Bounds.{in_bounds}

-- where an instruction may go, but to the next one
abbrev pub jump_target : Instr → Option ℕ
jump_target (instr.Jump target) = Some target
jump_target (instr.JumpIfFalse target) = Some target
jump_target (instr.CallProcedure length target) = Some target
jump_target _ = None

-- the site of a check
abbrev pub check_site : Instr → Option ℕ
check_site (instr.CheckRange site low high) = Some site
check_site (instr.CheckZero site) = Some site
check_site (instr.CheckDefined site length) = Some site
check_site (instr.CheckSum site) = Some site
check_site (instr.CheckDifference site) = Some site
check_site (instr.CheckProduct site) = Some site
check_site (instr.CheckSquare site) = Some site
check_site (instr.CheckMembers site) = Some site
check_site (instr.CheckSet site low high) = Some site
check_site (instr.Fail site) = Some site
check_site _ = None

-- the point of an instruction that reads
abbrev pub read_point : Instr → Option ℕ
read_point (instr.ReadInteger point) = Some point
read_point (instr.ReadChar point) = Some point
read_point (instr.ReadLine point) = Some point
read_point (instr.EndOfLine point) = Some point
read_point (instr.CheckInput point low high) = Some point
read_point _ = None

-- a number that is there is one of the first numbers
abbrev pub is_below : ℕ → Option ℕ → Bool
is_below bound None = true
is_below bound (Some n) = nat_lt n bound

-- in code of so many instructions, with so many sites and points, an instruction names what is there
abbrev pub names_what_is_there : ℕ → ℕ → ℕ → Instr → Bool
names_what_is_there sites points count i =
    is_below points (read_point i) && (is_below count (jump_target i) && is_below sites (check_site i))

-- a kind of an error: from 1 (index) to 13 (set member)
abbrev pub is_kind : ℕ → Bool
is_kind kind = nat_le 1 kind && nat_le kind 13

-- these numbers are those from 0 on
abbrev pub AreNumbered : List ℕ → Type 0
AreNumbered ids = ids ≡ range_with_len 0 (length ids)

pub record IsWritable (code : Code) : Type 0 where
  pub operands : list_all in_bounds code.instructions.items ≡ true
  pub names :
      list_all
      (names_what_is_there (length code.sites.items) (length code.points.items) (length code.instructions.items))
      code.instructions.items ≡ true
  pub sites : AreNumbered (map (λ (site : Site). site.id) code.sites.items)
  pub points : AreNumbered (map (λ (point : Point). point.id) code.points.items)
  pub kinds : list_all (λ (site : Site). is_kind site.kind) code.sites.items ≡ true

-- the last instruction of some code
abbrev pub last_of : List Instr → Option Instr
last_of [] = None
last_of (i ∷ []) = Some i
last_of (i ∷ next ∷ others) = last_of (next ∷ others)

-- it is no check, so that none that is taken out leaves a jump to it without an instruction
abbrev pub EndsInNoCheck : List Instr → Type 0
EndsInNoCheck code = option_and_then check_site (last_of code) ≡ None
