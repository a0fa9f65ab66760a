-- How a writer of code comes from line to line: words of private functions alone. It does not say how a code is
-- spelled.
use Rattle.std.specs.Prelude.{◌≡◌, ℕ, ◌<◌, Bool, true, false, ◌==◌, if◌then◌else◌, List, [], ◌∷◌}
use Rattle.std.specs.Prelude.{length, decimal}
use Rattle.std.specs.Prelude.{slice_index_or}
use Rattle.std.specs.List.{flat_map, list_all, list_any}
use Rattle.text_lines.specs.declared.writer.Writer.{Writer}
use Rattle.text_lines.specs.Lines.{ended}
use Rattle.text_lines.specs.Writing.{Appends}
use Rattle.pcode_assembler.specs.declared.content.Content.{Content}
use Rattle.pcode_assembler.specs.declared.content.Content.TheVariants as content
use Rattle.pcode_assembler.specs.declared.instr.Instr.{Instr}
use Rattle.pcode_assembler.specs.declared.instr.Instr.TheVariants as instr
use Rattle.pcode_assembler.specs.Contents.{goes_to}
use Rattle.pcode_assembler.specs.Lines.{has_numbers, line_of, words_behind}

-- the text of lines, each with its end
abbrev pub lines_text : List Content → List ℕ
lines_text lines = flat_map (λ said. ended (line_of said)) lines

abbrev pub AppendsLines : List Content → (old new : Writer) → Type 0
AppendsLines lines old new = Appends (lines_text lines) old new

abbrev pub instruction_line : Instr → List ℕ
instruction_line i = line_of (content.Instruction i)

-- a place's label, if it has one
abbrev pub label_if : Bool → ℕ → List Content
label_if is_target place = if is_target then content.Label place ∷ [] else []

-- the operands of an instruction with a natural number alone
abbrev pub single_words : Instr → List ℕ
single_words (instr.LoadIndirect offset) = 32 ∷ decimal offset
single_words (instr.Increase offset) = 32 ∷ decimal offset
single_words (instr.LoadMany length) = 32 ∷ decimal length
single_words (instr.StoreMany length) = 32 ∷ decimal length
single_words (instr.Compare length) = 32 ∷ decimal length
single_words (instr.WriteString length) = 32 ∷ decimal length
single_words (instr.Jump target) = 32 ∷ decimal target
single_words (instr.JumpIfFalse target) = 32 ∷ decimal target
single_words (instr.ReadInteger point) = 32 ∷ decimal point
single_words (instr.ReadChar point) = 32 ∷ decimal point
single_words (instr.ReadLine point) = 32 ∷ decimal point
single_words (instr.EndOfLine point) = 32 ∷ decimal point
single_words (instr.CheckZero site) = 32 ∷ decimal site
single_words (instr.CheckSum site) = 32 ∷ decimal site
single_words (instr.CheckDifference site) = 32 ∷ decimal site
single_words (instr.CheckProduct site) = 32 ∷ decimal site
single_words (instr.CheckSquare site) = 32 ∷ decimal site
single_words (instr.CheckMembers site) = 32 ∷ decimal site
single_words (instr.Fail site) = 32 ∷ decimal site
single_words _ = []

-- the operands of an instruction that has natural numbers alone
abbrev pub natural_words : Instr → List ℕ
natural_words (instr.LoadAddress level offset) = words_behind (decimal level ∷ decimal offset ∷ [])
natural_words (instr.Load level offset) = words_behind (decimal level ∷ decimal offset ∷ [])
natural_words (instr.Store level offset) = words_behind (decimal level ∷ decimal offset ∷ [])
natural_words (instr.MarkStack level) = words_behind (decimal level ∷ [])
natural_words (instr.Return results) = words_behind (decimal results ∷ [])
natural_words (instr.CallProcedure length target) = words_behind (decimal length ∷ decimal target ∷ [])
natural_words (instr.Enter variables evaluation) = words_behind (decimal variables ∷ decimal evaluation ∷ [])
natural_words (instr.CheckDefined site length) = words_behind (decimal site ∷ decimal length ∷ [])
natural_words i = single_words i

-- all numbers of a code are of 32 bits, and all sets of 128 members
abbrev pub have_numbers : List Instr → Bool
have_numbers code = list_all has_numbers code

-- a place's mark when another is marked
abbrev pub placed : (k place : ℕ) → Bool → Bool
placed k place was = if k == place then true else was

-- the places of a code are marked to which jumps among some instructions go
pub record Marks (code jumps : List Instr) (marks : List Bool) : Type 0 where
  pub count : length marks ≡ length code
  pub each : (k : ℕ) → k < length code → slice_index_or marks k false ≡ list_any (goes_to k) jumps
