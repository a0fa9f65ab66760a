-- The lines of a code's text between its first and its last: how a line spells what it says, and what a line says. It
-- does not say where a line may stand.
use Rattle.std.specs.Prelude.{ℕ, ℤ, pos, neg_ℤ, ◌^◌, Bool, true, false, ◌&&◌, int_le, nat_le, nat_lt, if◌then◌else◌}
use Rattle.std.specs.Prelude.{List, [], ◌∷◌, ◌++◌, Option, Some}
use Rattle.std.specs.Prelude.{None, codes, decimal}
use Rattle.std.specs.Str.{bytes_eq}
use Rattle.std.specs.Option.{option_map}
use Rattle.text_lines.specs.Numerals.{natural}
use Rattle.text_lines.specs.Words.{behind, parted}
use Rattle.pcode_assembler.specs.declared.instr.Instr.{Instr}
use Rattle.pcode_assembler.specs.declared.instr.Instr.TheVariants as instr
use Rattle.pcode_assembler.specs.declared.table.Shape.{Shape}
use Rattle.pcode_assembler.specs.declared.table.Shape.TheVariants as shape
use Rattle.pcode_assembler.specs.declared.content.Content.{Content}
use Rattle.pcode_assembler.specs.declared.content.Content.TheVariants as content
use Rattle.pcode_assembler.specs.declared.content.LineWord.{LineWord}
use Rattle.pcode_assembler.specs.declared.content.LineWord.TheVariants as word
use Rattle.pcode_assembler.specs.Bounds.{in_bounds}
use Rattle.pcode_assembler.specs.Table.{operand_words, shape_of, template, word_of}
use Rattle.pcode_assembler.specs.Table.{with_words as instruction_with}
use Rattle.pcode_assembler.specs.Words.{both, positive}
use Rattle.pcode_assembler.specs.Writable.{check_site, is_kind, jump_target, read_point}

-- ---- how a line is spelled

-- words behind another, each behind a blank
abbrev pub words_behind : List (List ℕ) → List ℕ
words_behind [] = []
words_behind (word ∷ []) = 32 ∷ word
words_behind (word ∷ next ∷ more) = 32 ∷ (word ++ words_behind (next ∷ more))

-- the line of a label
abbrev pub label_line : ℕ → List ℕ
label_line number = codes "label " ++ decimal number

-- the line that says something, without its line end
abbrev pub line_of : Content → List ℕ
line_of (content.Site line column kind) =
    codes "site" ++ words_behind (decimal line ∷ decimal column ∷ decimal kind ∷ [])
line_of (content.Point line column) = codes "point" ++ words_behind (decimal line ∷ decimal column ∷ [])
line_of (content.Label number) = label_line number
line_of (content.Instruction i) = word_of i ++ words_behind (operand_words i)

-- ---- what may be said

-- a line or a column of a place
abbrev pub is_place : ℕ → Bool
is_place n = nat_le 1 n && nat_le n 1048576

-- a label, a site or a point that an instruction names is one of the first 1,000,000
abbrev pub is_id : ℕ → Bool
is_id id = nat_le id 999999

abbrev pub is_id_or_none : Option ℕ → Bool
is_id_or_none None = true
is_id_or_none (Some id) = is_id id

-- a number of 32 bits
abbrev pub is_number_of_32_bits : ℤ → Bool
is_number_of_32_bits z = int_le (neg_ℤ (pos 2147483648)) z && int_le z (pos 2147483647)

-- numbers of an instruction are of 32 bits, and its sets have 128 members at most
abbrev pub has_numbers : Instr → Bool
has_numbers (instr.LoadConstant value) = is_number_of_32_bits value
has_numbers (instr.LoadSet members) = nat_lt members (2 ^ 128)
has_numbers (instr.IndexAddress low size) = is_number_of_32_bits low
has_numbers (instr.CheckInput point low high) = is_number_of_32_bits low && is_number_of_32_bits high
has_numbers (instr.CheckRange site low high) = is_number_of_32_bits low && is_number_of_32_bits high
has_numbers (instr.CheckSet site low high) = is_number_of_32_bits low && is_number_of_32_bits high
has_numbers _ = true

-- what an instruction names is among the first
abbrev pub has_ids : Instr → Bool
has_ids i = is_id_or_none (jump_target i) && (is_id_or_none (check_site i) && is_id_or_none (read_point i))

-- an instruction's operands are within their limits
abbrev pub is_spellable : Instr → Bool
is_spellable i = in_bounds i && (has_ids i && has_numbers i)

-- a line's operands are
abbrev pub fits : Content → Bool
fits (content.Site line column kind) = is_place line && (is_place column && is_kind kind)
fits (content.Point line column) = is_place line && is_place column
fits (content.Label number) = is_id number
fits (content.Instruction i) = is_spellable i

-- ---- what a line says

-- what stands before the first blank
abbrev pub before_blank : List ℕ → Option (List ℕ × List ℕ) → List ℕ
before_blank line None = line
before_blank line (Some parts) = parts.0

abbrev pub first_word : List ℕ → List ℕ
first_word line = before_blank line (parted line)

-- what a first word is, if it is known
abbrev pub known_word : List ℕ → Option LineWord
known_word first =
    if bytes_eq first (codes "site") then Some word.Site
    else if bytes_eq first (codes "point") then Some word.Point
    else if bytes_eq first (codes "label") then Some word.Label
    else option_map word.Instruction (template first)

abbrev pub line_word : List ℕ → Option LineWord
line_word line = known_word (first_word line)

-- an instruction's word stands first in a line
abbrev pub is_instruction_word : Option LineWord → Bool
is_instruction_word (Some (word.Instruction i)) = true
is_instruction_word _ = false

abbrev pub is_instruction : List ℕ → Bool
is_instruction line = is_instruction_word (line_word line)

-- the part of the text where the lines of a word stand: sites, points, and then the rest
abbrev pub part_of_word : LineWord → ℕ
part_of_word word.Site = 0
part_of_word word.Point = 1
part_of_word word.Label = 2
part_of_word (word.Instruction i) = 2

abbrev pub part_of : Content → ℕ
part_of (content.Site line column kind) = 0
part_of (content.Point line column) = 1
part_of (content.Label number) = 2
part_of (content.Instruction i) = 2

-- operands of sites and points
abbrev pub place : List ℕ → Option (ℕ × ℕ)
place words = both (positive 1048576) (positive 1048576) words

abbrev pub kind_of : List ℕ → Option ℕ
kind_of word = positive 13 word

abbrev pub column_and_kind : List ℕ → Option (ℕ × ℕ)
column_and_kind words = both (positive 1048576) kind_of words

abbrev pub site : List ℕ → Option Content
site words = option_map (λ p. content.Site p.0 p.1.0 p.1.1) (both (positive 1048576) column_and_kind words)

-- what a line of a word alone says, and of a word with others
abbrev pub without_operands : Shape → Instr → Option Content
without_operands shape.Nothing i = Some (content.Instruction i)
without_operands _ i = None

abbrev pub alone : LineWord → Option Content
alone (word.Instruction i) = without_operands (shape_of i) i
alone _ = None

abbrev pub with_words : LineWord → List ℕ → Option Content
with_words word.Site words = site words
with_words word.Point words = option_map (λ p. content.Point p.0 p.1) (place words)
with_words word.Label words = option_map content.Label (natural 999999 words)
with_words (word.Instruction i) words = option_map content.Instruction (instruction_with i words)

abbrev pub content_at : LineWord → Option (List ℕ × List ℕ) → Option Content
content_at word None = alone word
content_at word (Some parts) = with_words word parts.1

-- what a line says that begins with a word, if its operands are right
abbrev pub content_of : LineWord → List ℕ → Option Content
content_of word line = content_at word (parted line)

-- the number of a label's line
abbrev pub number_behind : Option (List ℕ) → Option ℕ
number_behind None = None
number_behind (Some number) = natural 999999 number

abbrev pub label_of : List ℕ → Option ℕ
label_of line = number_behind (behind (codes "label ") line)
