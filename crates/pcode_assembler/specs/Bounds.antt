-- The operands that the text of a code can spell: each instruction's levels, offsets and numbers of cells lie within
-- their bounds. It does not say that a target, a site or a point exists.
use Rattle.std.specs.Prelude.{ℕ, ◌&&◌, Bool, true, nat_le}
use Rattle.pcode_assembler.specs.declared.instr.Instr.{Instr}
use Rattle.pcode_assembler.specs.declared.instr.Instr.TheVariants as instr

-- how many static links to follow
abbrev pub is_level : ℕ → Bool
is_level level = nat_le level 15

-- a distance between cells
abbrev pub is_offset : ℕ → Bool
is_offset offset = nat_le offset 16777215

-- a number of cells of a frame
abbrev pub is_count : ℕ → Bool
is_count cells = nat_le cells 16777216

-- a number of cells of a value, or of characters
abbrev pub is_length : ℕ → Bool
is_length length = nat_le length 65536

-- a number of results
abbrev pub is_result_count : ℕ → Bool
is_result_count results = nat_le results 1

abbrev pub in_bounds : Instr → Bool
in_bounds (instr.LoadConstant value) = true
in_bounds (instr.LoadSet members) = true
in_bounds (instr.LoadAddress level offset) = is_level level && is_offset offset
in_bounds (instr.Load level offset) = is_level level && is_offset offset
in_bounds (instr.Store level offset) = is_level level && is_offset offset
in_bounds (instr.LoadIndirect offset) = is_offset offset
in_bounds instr.StoreIndirect = true
in_bounds (instr.LoadMany length) = is_length length
in_bounds (instr.StoreMany length) = is_length length
in_bounds (instr.Increase offset) = is_offset offset
in_bounds (instr.IndexAddress low size) = is_length size
in_bounds instr.Add = true
in_bounds instr.Subtract = true
in_bounds instr.Multiply = true
in_bounds instr.Divide = true
in_bounds instr.Modulo = true
in_bounds instr.Negate = true
in_bounds instr.Absolute = true
in_bounds instr.Square = true
in_bounds instr.Odd = true
in_bounds instr.Not = true
in_bounds instr.And = true
in_bounds instr.Or = true
in_bounds instr.Equal = true
in_bounds instr.NotEqual = true
in_bounds instr.Less = true
in_bounds instr.LessOrEqual = true
in_bounds instr.Greater = true
in_bounds instr.GreaterOrEqual = true
in_bounds (instr.Compare length) = is_length length
in_bounds instr.Singleton = true
in_bounds instr.SetRange = true
in_bounds instr.Union = true
in_bounds instr.Intersection = true
in_bounds instr.Difference = true
in_bounds instr.IsMember = true
in_bounds instr.SetEqual = true
in_bounds instr.SetNotEqual = true
in_bounds instr.SetInside = true
in_bounds instr.SetAround = true
in_bounds (instr.Jump target) = true
in_bounds (instr.JumpIfFalse target) = true
in_bounds (instr.MarkStack level) = is_level level
in_bounds (instr.CallProcedure length target) = is_length length
in_bounds (instr.Enter variables evaluation) = is_count variables && is_count evaluation
in_bounds (instr.Return results) = is_result_count results
in_bounds (instr.ReadInteger point) = true
in_bounds (instr.ReadChar point) = true
in_bounds (instr.ReadLine point) = true
in_bounds (instr.EndOfLine point) = true
in_bounds instr.EndOfFile = true
in_bounds (instr.CheckInput point low high) = true
in_bounds instr.WriteInteger = true
in_bounds instr.WriteChar = true
in_bounds instr.WriteBoolean = true
in_bounds (instr.WriteString length) = is_length length
in_bounds instr.WriteLine = true
in_bounds instr.Stop = true
in_bounds (instr.CheckRange site low high) = true
in_bounds (instr.CheckZero site) = true
in_bounds (instr.CheckDefined site length) = is_length length
in_bounds (instr.CheckSum site) = true
in_bounds (instr.CheckDifference site) = true
in_bounds (instr.CheckProduct site) = true
in_bounds (instr.CheckSquare site) = true
in_bounds (instr.CheckMembers site) = true
in_bounds (instr.CheckSet site low high) = true
in_bounds (instr.Fail site) = true
