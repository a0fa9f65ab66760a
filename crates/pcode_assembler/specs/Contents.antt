-- What the lines of a code's text say together, and the text of a code. It does not say what a code does.
use Rattle.std.specs.Prelude.{◌≡◌, ℕ, ◌+◌, ◌≤◌, min, Bool, true, false, ◌&&◌, nat_le, nat_eq, if◌then◌else◌, List, []}
use Rattle.std.specs.Prelude.{◌∷◌, ◌++◌, length, map, Option, Some, None, Result, Ok, Err, codes}
use Rattle.std.specs.List.{flat_map, list_all, list_any}
use Rattle.std.specs.Option.{is_none, option_map_or}
use Rattle.memory.specs.Refused.{the_refusal}
use Rattle.text_lines.specs.Lines.{ended}
use Rattle.pcode_assembler.specs.declared.code.Code.{Code}
use Rattle.pcode_assembler.specs.declared.code.Site.{Site}
use Rattle.pcode_assembler.specs.declared.code.Point.{Point}
use Rattle.pcode_assembler.specs.declared.instr.Instr.{Instr}
use Rattle.pcode_assembler.specs.declared.instr.Instr.TheVariants as instr
use Rattle.pcode_assembler.specs.declared.content.Content.{Content}
use Rattle.pcode_assembler.specs.declared.content.Content.TheVariants as content
use Rattle.pcode_assembler.specs.declared.above.Above.{Above}
use Rattle.pcode_assembler.specs.declared.labels.Label.{Label}
use Rattle.pcode_assembler.specs.declared.fault.AsmFault.{AsmFault}
use Rattle.pcode_assembler.specs.declared.fault.AsmFault.TheVariants.{Memory}
use Rattle.pcode_assembler.specs.Lines.{fits, is_place, line_of, part_of}
use Rattle.pcode_assembler.specs.Text.{Seen, below, heading, most, rule_at, seen_in, start}
use Rattle.pcode_assembler.specs.Writable.{IsWritable, jump_target}

-- ---- what lines say

-- a line may stand where it stands: its part of the text has begun, and it breaks no rule
abbrev pub is_right : Seen → Above → ℕ → Content → Bool
is_right seen above number said = nat_le above.part (part_of said) && is_none (rule_at seen above number said)

-- each line may, the lines numbered from the number on
abbrev pub are_right : Seen → Above → (number : ℕ) → List Content → Bool
are_right seen above number [] = true
are_right seen above number (said ∷ more) =
    is_right seen above number said && are_right seen (below above said) (number + 1) more

-- the row that a line adds to a table: of sites and of points, each with how many stand above it as its id, and of
-- instructions, their jumps to labels
abbrev pub site_rows : Above → Content → List Site
site_rows above (content.Site line column kind) =
    record { id = above.sites; line = line; column = column; kind = kind } ∷ []
site_rows above _ = []

abbrev pub point_rows : Above → Content → List Point
point_rows above (content.Point line column) = record { id = above.points; line = line; column = column } ∷ []
point_rows above _ = []

abbrev pub instruction_rows : Above → Content → List Instr
instruction_rows above (content.Instruction i) = i ∷ []
instruction_rows above _ = []

-- the rows that lines add
abbrev pub rows : {A : Type 0} → (Above → Content → List A) → Above → List Content → List A
rows row above [] = []
rows row above (said ∷ more) = row above said ++ rows row (below above said) more

-- the instruction behind a label, by its number in the code; 32 bits are enough for each text that has no fault
abbrev pub place_or : ℕ → Option Label → ℕ
place_or label None = label
place_or label (Some first) = min first.place 4294967295

abbrev pub named : Seen → ℕ → ℕ
named seen label = place_or label (seen.first label)

-- an instruction with its jump turned to another place
abbrev pub going_to : (ℕ → ℕ) → Instr → Instr
going_to to (instr.Jump target) = instr.Jump (to target)
going_to to (instr.JumpIfFalse target) = instr.JumpIfFalse (to target)
going_to to (instr.CallProcedure length target) = instr.CallProcedure length (to target)
going_to to i = i

-- ---- texts

-- the lines of a text above its last
abbrev pub lines_of : List Content → List (List ℕ)
lines_of said = heading ∷ map line_of said

-- the text of lines that say something, the first and the last line around them
abbrev pub text_of : List Content → List ℕ
text_of said = flat_map ended (lines_of said) ++ ended (codes "end")

-- a text says a code: it is the text of lines whose operands fit, each of which may stand where it stands, and the code
-- has what they say
pub record Says (text : List ℕ) (code : Code) : Type 0 where
  pub said : List Content
  pub text_is : text ≡ text_of said
  pub fit : list_all fits said ≡ true
  pub right : are_right (seen_in (lines_of said)) start 2 said ≡ true
  pub sites : code.sites.items ≡ rows site_rows start said
  pub points : code.points.items ≡ rows point_rows start said
  pub instructions :
      code.instructions.items ≡ map (going_to (named (seen_in (lines_of said)))) (rows instruction_rows start said)

-- a code is answered that is the same as another, or memory ran out
pub record IsSameCode (a b : Code) : Type 0 where
  pub sites : a.sites.items ≡ b.sites.items
  pub points : a.points.items ≡ b.points.items
  pub instructions : a.instructions.items ≡ b.instructions.items

abbrev pub IsReadAs : Code → Result Code AsmFault → Type 0
IsReadAs code (Ok answered) = IsSameCode code answered
IsReadAs code (Err fault) = fault ≡ Memory the_refusal

-- ---- the text of a code

-- an instruction may go to a place by a jump
abbrev pub goes_to : ℕ → Instr → Bool
goes_to place i = option_map_or (nat_eq place) (jump_target i) false

-- a place has a label, which is its number, if a jump goes there
abbrev pub label_rows : List Instr → ℕ → List Content
label_rows code place = if list_any (goes_to place) code then content.Label place ∷ [] else []

-- the lines of instructions from a place of the code on
abbrev pub body_lines : (code : List Instr) → (place : ℕ) → List Instr → List Content
body_lines code place [] = []
body_lines code place (i ∷ more) = label_rows code place ++ content.Instruction i ∷ body_lines code (place + 1) more

abbrev pub site_line : Site → Content
site_line site = content.Site site.line site.column site.kind

abbrev pub point_line : Point → Content
point_line point = content.Point point.line point.column

-- the lines of a code
abbrev pub contents : Code → List Content
contents code =
    map site_line code.sites.items
    ++ (map point_line code.points.items ++ body_lines code.instructions.items 0 code.instructions.items)

abbrev pub spelling : Code → List ℕ
spelling code = text_of (contents code)

-- a code that a text can say: it can be written, its tables are no longer than a text's, and its places are a text's
pub record HasText (code : Code) : Type 0 where
  pub writable : IsWritable code
  pub few_sites : length code.sites.items ≤ most
  pub few_points : length code.points.items ≤ most
  pub few_instructions : length code.instructions.items ≤ most
  pub site_places :
      list_all (λ (site : Site). is_place site.line && is_place site.column) code.sites.items ≡ true
  pub point_places :
      list_all (λ (point : Point). is_place point.line && is_place point.column) code.points.items ≡ true
