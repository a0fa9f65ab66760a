-- The lines of a certificate below its heading: how a line spells what it says, and what a line says, if it is in the
-- grammar and its numbers are in range. ISO 7185:1990 knows no certificates. It does not say where a line may stand.
use Rattle.std.specs.Prelude.{ℕ, suc, ℤ, pos, Bool, true, false, not, ◌&&◌, ◌==◌, int_le, int_lt, if◌then◌else◌}
use Rattle.std.specs.Prelude.{List, [], ◌∷◌}
use Rattle.std.specs.Prelude.{◌++◌, take, drop, position, Option, Some, None, Result, Ok, Err, codes, decimal}
use Rattle.std.specs.List.{flat_map}
use Rattle.std.specs.Ordering.{int_eq}
use Rattle.std.specs.Fmt.{signed_decimal}
use Rattle.domain.specs.Interval.{between}
use Rattle.domain.specs.Facts.{Path, Range, Defined, Order, Grows}
use Rattle.domain.specs.Facts.{Fact as VariableFact}
use Rattle.domain.specs.Versions.{has}
use Rattle.domain.specs.declared.growth.Growth.{Growth}
use Rattle.domain.specs.declared.versions.Extension.TheVariants.{Boxes, Growths}
use Rattle.domain.specs.declared.versions.Version.{Version}
use Rattle.text_lines.specs.Words.{behind}
use Rattle.certificate.specs.declared.AliasPair.{AliasPair}
use Rattle.certificate.specs.declared.words.LineFault.{LineFault}
use Rattle.certificate.specs.declared.words.LineFault.TheVariants.{NotInGrammar, OutOfRange}
use Rattle.certificate.specs.Words.{◌>>=◌, both, constant_of, number_of, parted, variable, variable_of, when}
use Rattle.certificate.specs.Paths.{path_of, path_words}
use Rattle.certificate.specs.Bounds.{span_words, spans_of}

-- what is claimed of a block: two variables may share a place in it; it changes a variable; a fact holds where it
-- begins, or where it ends; or of a loop: it changes a variable; a fact holds whenever a turn of it begins
pub data ClaimLine : Type 0 where
  Alias : AliasPair → ClaimLine
  Change : (root : ℕ) → ClaimLine
  Entry : VariableFact → ClaimLine
  Exit : VariableFact → ClaimLine
  Fact : VariableFact → ClaimLine

-- what a line says: the lines below it are of a block, or of a loop; or something is claimed of the last one
pub data Content : Type 0 where
  Block : (number : ℕ) → Content
  Loop : (number : ℕ) → Content
  Claimed : ClaimLine → Content

-- ---- how a line is spelled

-- the numbers of a growth: the lower number and its step, and then the upper ones
abbrev pub growth_words : Growth → List ℕ
growth_words growth =
    signed_decimal growth.first
    ++ 32 ∷ (signed_decimal growth.first_step
    ++ 32 ∷ (signed_decimal growth.last ++ 32 ∷ signed_decimal growth.last_step))

-- the words of a fact: numbers are decimal, and one blank parts two words
abbrev pub fact_words : VariableFact → List ℕ
fact_words (Range path range) =
    codes "range " ++ path_words path ++ 32 ∷ (signed_decimal range.first ++ 32 ∷ signed_decimal range.last)
fact_words (Defined path spans) = codes "defined " ++ path_words path ++ flat_map span_words spans
fact_words (Order root other number) =
    codes "order " ++ variable root ++ 32 ∷ (variable other ++ 32 ∷ signed_decimal number)
fact_words (Grows root growth) = codes "grow " ++ variable root ++ 32 ∷ growth_words growth

-- the words of a claim
abbrev pub claim_words : ClaimLine → List ℕ
claim_words (Alias pair) = codes "alias " ++ variable pair.first ++ 32 ∷ variable pair.second
claim_words (Change root) = codes "change " ++ variable root
claim_words (Entry fact) = codes "entry " ++ fact_words fact
claim_words (Exit fact) = codes "exit " ++ fact_words fact
claim_words (Fact fact) = codes "fact " ++ fact_words fact

-- the line that says something, without its line end
abbrev pub line_of : Content → List ℕ
line_of (Block number) = codes "proc " ++ decimal number
line_of (Loop number) = codes "loop " ++ decimal number
line_of (Claimed claim) = claim_words claim

-- ---- what a line of a version says

-- a range fact: a range without a number is written 1 0
abbrev pub range_of : Path × (ℤ × ℤ) → Result VariableFact LineFault
range_of (path, (first, last)) =
    if int_lt last first && not (int_eq first (pos 1) && int_eq last (pos 0)) then Err OutOfRange
    else Ok (Range path (between first last))

-- a path and two numbers
abbrev pub range_fact : List ℕ → Result VariableFact LineFault
range_fact words = do
  first ← parted words
  second ← parted first.1
  parts ← both (path_of true first.0) (both (constant_of second.0) (constant_of second.1))
  range_of parts

-- in a version with boxes a path may lead to elements
abbrev pub defined_path : Version → List ℕ → Result Path LineFault
defined_path version word = path_of (has version Boxes) word

-- a path and spans
abbrev pub spanned_fact : Version → (path spans : List ℕ) → Result VariableFact LineFault
spanned_fact version path spans = do
  parts ← both (defined_path version path) (spans_of version spans)
  Ok (Defined parts.0 parts.1)

-- a path, and perhaps spans behind a blank
abbrev pub defined_at : Version → List ℕ → Option ℕ → Result VariableFact LineFault
defined_at version words None = defined_path version words >>= λ path. Ok (Defined path [])
defined_at version words (Some end) = spanned_fact version (take end words) (drop (suc end) words)

abbrev pub defined_fact : Version → List ℕ → Result VariableFact LineFault
defined_fact version words = defined_at version words (position (λ byte. byte == 32) words)

-- two variables and a number
abbrev pub order_fact : List ℕ → Result VariableFact LineFault
order_fact words = do
  first ← parted words
  second ← parted first.1
  parts ← both (variable_of first.0) (both (variable_of second.0) (constant_of second.1))
  Ok (Order parts.0 parts.1.0 parts.1.1)

-- two numbers
abbrev pub numbers_of : List ℕ → Result (ℤ × ℤ) LineFault
numbers_of words = do
  ends ← parted words
  both (constant_of ends.0) (constant_of ends.1)

-- neither lower number is above the upper one
abbrev pub ascends : Growth → Bool
ascends growth = int_le growth.first growth.last && int_le growth.first_step growth.last_step

abbrev pub if_ascending : Growth → Result Growth LineFault
if_ascending growth = if ascends growth then Ok growth else Err OutOfRange

-- the growth between lower and upper numbers
abbrev pub growth_between : (ℤ × ℤ) × (ℤ × ℤ) → Result Growth LineFault
growth_between ((first, first_step), (last, last_step)) =
    if_ascending (record { first = first; first_step = first_step; last = last; last_step = last_step })

-- four numbers
abbrev pub growth_of : List ℕ → Result Growth LineFault
growth_of words = do
  first ← parted words
  second ← parted first.1
  numbers ← both (both (constant_of first.0) (constant_of second.0)) (numbers_of second.1)
  growth_between numbers

-- a variable and a growth
abbrev pub growing_fact : List ℕ → Result VariableFact LineFault
growing_fact words = do
  ends ← parted words
  parts ← both (variable_of ends.0) (growth_of ends.1)
  Ok (Grows parts.0 parts.1)

-- the same, in a version that has growths
abbrev pub grow_fact : Version → List ℕ → Result VariableFact LineFault
grow_fact version words = if has version Growths then growing_fact words else Err NotInGrammar

-- the words of a fact
abbrev pub fact_of : Version → List ℕ → Result VariableFact LineFault
fact_of version words =
    when (behind (codes "defined ") words) (defined_fact version)
    (when (behind (codes "range ") words) range_fact
    (when (behind (codes "order ") words) order_fact
    (when (behind (codes "grow ") words) (grow_fact version) (Err NotInGrammar))))

-- two variables
abbrev pub pair_of : List ℕ → Result AliasPair LineFault
pair_of words = do
  ends ← parted words
  roots ← both (variable_of ends.0) (variable_of ends.1)
  Ok (record { first = roots.0; second = roots.1 })

-- a claim, by the word that the line begins with
abbrev pub claim_of : Version → List ℕ → Result ClaimLine LineFault
claim_of version line =
    when (behind (codes "alias ") line) (λ words. pair_of words >>= λ pair. Ok (Alias pair))
    (when (behind (codes "change ") line) (λ word. variable_of word >>= λ root. Ok (Change root))
    (when (behind (codes "entry ") line) (λ words. fact_of version words >>= λ fact. Ok (Entry fact))
    (when (behind (codes "exit ") line) (λ words. fact_of version words >>= λ fact. Ok (Exit fact))
    (when (behind (codes "fact ") line) (λ words. fact_of version words >>= λ fact. Ok (Fact fact))
    (Err NotInGrammar)))))

-- what a line says
abbrev pub reading : Version → List ℕ → Result Content LineFault
reading version line =
    when (behind (codes "proc ") line) (λ word. number_of word >>= λ number. Ok (Block number))
    (when (behind (codes "loop ") line) (λ word. number_of word >>= λ number. Ok (Loop number))
    (claim_of version line >>= λ claim. Ok (Claimed claim)))
