-- The lines of a text, and the first fault of one that is no code's. It does not say what a faultless text says.
use Rattle.std.specs.Prelude.{ℕ, ◌+◌, max, Bool, true, false, ◌&&◌, if◌then◌else◌, nat_le, nat_lt, ◌==◌, List, [], ◌∷◌}
use Rattle.std.specs.Prelude.{length, Option, Some, None, Result, Ok, Err, codes}
use Rattle.std.specs.Str.{bytes_eq}
use Rattle.text_lines.specs.Lines.{Line, lines}
use Rattle.pcode_assembler.specs.declared.instr.Instr.{Instr}
use Rattle.pcode_assembler.specs.declared.content.Content.{Content}
use Rattle.pcode_assembler.specs.declared.content.Content.TheVariants as content
use Rattle.pcode_assembler.specs.declared.content.LineWord.{LineWord}
use Rattle.pcode_assembler.specs.declared.fault.AsmFault.{AsmFault}
use Rattle.pcode_assembler.specs.declared.fault.AsmFault.TheVariants.{Refused}
use Rattle.pcode_assembler.specs.declared.fault.AsmRule.{AsmRule}
use Rattle.pcode_assembler.specs.declared.fault.AsmRule.TheVariants as rule
use Rattle.pcode_assembler.specs.declared.above.Above.{Above}
use Rattle.pcode_assembler.specs.declared.labels.Label.{Label}
use Rattle.pcode_assembler.specs.Lines.{is_id, is_instruction, label_line, line_word, part_of_word}
use Rattle.pcode_assembler.specs.Lines.{content_of}
use Rattle.pcode_assembler.specs.Writable.{check_site, is_below, jump_target, read_point}

-- ---- lines

-- the bytes of all lines but the last
abbrev pub above_last : List Line → List (List ℕ)
above_last [] = []
above_last (last ∷ []) = []
above_last (line ∷ next ∷ more) = line.bytes ∷ above_last (next ∷ more)

abbrev pub body : List ℕ → List (List ℕ)
body text = above_last (lines text)

-- the last line is `end`, with its line end; an answer of the lines so far stands where there are no more
abbrev pub is_end : Line → Bool
is_end line = line.ended && bytes_eq line.bytes (codes "end")

abbrev pub ends : Bool → List Line → Bool
ends so_far [] = so_far
ends so_far (line ∷ more) = ends (is_end line) more

abbrev pub has_end : List ℕ → Bool
has_end text = ends false (lines text)

-- a text that is cut off, told at its last line
abbrev pub end_fault : List ℕ → Option AsmFault
end_fault text = if has_end text then None else Some (Refused rule.CutOff (max 1 (length (lines text))))

-- ---- labels

-- what is known of all labels of a text: the line where each stands first, and how many instructions stand above that;
-- and how many instructions there are. Lines count by their first words.
pub record Seen : Type 0 where
  pub first : ℕ → Option Label
  pub instructions : ℕ

-- a line is that of a label
abbrev pub is_label : ℕ → List ℕ → Bool
is_label number line = is_id number && bytes_eq line (label_line number)

-- a line's part in the number of instructions
abbrev pub weight : List ℕ → ℕ
weight line = if is_instruction line then 1 else 0

-- where a label stands first, below so many lines and instructions
abbrev pub first_label : (number line place : ℕ) → List (List ℕ) → Option Label
first_label number line place [] = None
first_label number line place (here ∷ more) =
    if is_label number here then Some (record { line = line; place = place })
    else first_label number (line + 1) (place + weight here) more

abbrev pub instruction_count : List (List ℕ) → ℕ
instruction_count [] = 0
instruction_count (line ∷ more) = weight line + instruction_count more

abbrev pub seen_in : List (List ℕ) → Seen
seen_in lines =
    record { first = λ number. first_label number 1 0 lines; instructions = instruction_count lines }

-- ---- where a line may stand

-- a text has at most so many sites, points and instructions
abbrev pub most : ℕ
most = 1000000

-- below the first line of a text
abbrev pub start : Above
start = record { sites = 0; points = 0; instructions = 0; part = 0 }

-- what the line stands below that follows a line
abbrev pub below : Above → Content → Above
below above (content.Site line column kind) = record above { sites = above.sites + 1; part = 0 }
below above (content.Point line column) = record above { points = above.points + 1; part = 1 }
below above (content.Label number) = record above { part = 2 }
below above (content.Instruction i) = record above { instructions = above.instructions + 1; part = 2 }

-- a jump goes to a label that is there and has an instruction behind it
abbrev pub is_followed : ℕ → Option Label → Bool
is_followed instructions None = false
is_followed instructions (Some label) = nat_lt label.place instructions

abbrev pub reaches : Seen → Option ℕ → Bool
reaches seen None = true
reaches seen (Some number) = is_followed seen.instructions (seen.first number)

-- a label stands in this line first
abbrev pub stands_at : ℕ → Option Label → Bool
stands_at line None = false
stands_at line (Some label) = label.line == line

-- the rule that an instruction breaks, if any: it names what isn't there, there are too many, or a jump goes nowhere
abbrev pub instruction_rule : Seen → Above → Instr → Option AsmRule
instruction_rule seen above i =
    if is_below above.points (read_point i) && is_below above.sites (check_site i)
    then (if nat_lt above.instructions most
    then (if reaches seen (jump_target i) then None else Some rule.Target) else Some rule.TooMany)
    else Some rule.Operand

-- the rule that a line breaks which says something, at its number
abbrev pub rule_at : Seen → Above → (number : ℕ) → Content → Option AsmRule
rule_at seen above number (content.Site line column kind) =
    if nat_lt above.sites most then None else Some rule.Operand
rule_at seen above number (content.Point line column) =
    if nat_lt above.points most then None else Some rule.Operand
rule_at seen above number (content.Label label) =
    if stands_at number (seen.first label) then None else Some rule.LabelTwice
rule_at seen above number (content.Instruction i) = instruction_rule seen above i

-- what is said, unless it breaks a rule
abbrev pub unless : Content → Option AsmRule → Result Content AsmRule
unless said None = Ok said
unless said (Some broken) = Err broken

abbrev pub said_or_rule : Seen → Above → ℕ → Option Content → Result Content AsmRule
said_or_rule seen above number None = Err rule.Operand
said_or_rule seen above number (Some said) = unless said (rule_at seen above number said)

abbrev pub of_word : Seen → Above → ℕ → Option LineWord → List ℕ → Result Content AsmRule
of_word seen above number None line = Err rule.UnknownLine
of_word seen above number (Some word) line =
    if nat_le above.part (part_of_word word) then said_or_rule seen above number (content_of word line)
    else Err rule.UnknownLine

-- what a line says, or the first of the rules that it breaks
abbrev pub reading : Seen → Above → (number : ℕ) → List ℕ → Result Content AsmRule
reading seen above number line = of_word seen above number (line_word line) line

-- ---- the first fault

abbrev pub fault_at : ℕ → Result Content AsmRule → Option AsmFault
fault_at number (Ok said) = None
fault_at number (Err broken) = Some (Refused broken number)

-- one fault, or else another
abbrev pub or_else : Option AsmFault → Option AsmFault → Option AsmFault
or_else None other = other
or_else (Some fault) other = Some fault

abbrev pub below_line : Above → Result Content AsmRule → Above
below_line above (Ok said) = below above said
below_line above (Err broken) = above

-- the fault of the first faulty line, the lines numbered from the number on
abbrev pub fault_from : Seen → Above → (number : ℕ) → List (List ℕ) → Option AsmFault
fault_from seen above number [] = None
fault_from seen above number (line ∷ more) =
    or_else (fault_at number (reading seen above number line))
    (fault_from seen (below_line above (reading seen above number line)) (number + 1) more)

-- the first line
abbrev pub heading : List ℕ
heading = codes "pcode 1"

-- the fault of a first line that isn't the heading
abbrev pub heading_fault : List (List ℕ) → Option AsmFault
heading_fault [] = Some (Refused rule.UnknownLine 1)
heading_fault (first ∷ more) = if bytes_eq first heading then None else Some (Refused rule.UnknownLine 1)

-- the fault of the last line of a text, or else that of the first
abbrev pub frame_fault : List ℕ → Option AsmFault
frame_fault text = or_else (end_fault text) (heading_fault (body text))

-- the first fault of the lines above the last
abbrev pub body_fault : List (List ℕ) → Option AsmFault
body_fault [] = Some (Refused rule.UnknownLine 1)
body_fault (first ∷ more) =
    if bytes_eq first heading then fault_from (seen_in (first ∷ more)) start 2 more
    else Some (Refused rule.UnknownLine 1)

-- the first fault of a text
abbrev pub first_fault : List ℕ → Option AsmFault
first_fault text = or_else (end_fault text) (body_fault (body text))
