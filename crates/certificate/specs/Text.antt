-- The lines of a text, and the first fault of one that is no certificate's. ISO 7185:1990 knows no certificates. It
-- does not say what a certificate claims of a program.
use Rattle.std.specs.Prelude.{ℕ, suc, Bool, true, false, not, ◌&&◌, if◌then◌else◌, List, [], ◌∷◌, Option, Some}
use Rattle.std.specs.Prelude.{None, Result, Ok, Err, codes}
use Rattle.std.specs.Str.{bytes_eq}
use Rattle.std.specs.Option.{is_some}
use Rattle.std.specs.Ordering.{nat_cmp}
use Rattle.text_lines.specs.Lines.{Line, lines}
use Rattle.domain.specs.declared.versions.Version.{Version}
use Rattle.domain.specs.declared.versions.Version.TheVariants.{One, Three, Two}
use Rattle.text_lines.specs.Numerals.{is_number}
use Rattle.text_lines.specs.Words.{behind}
use Rattle.certificate.specs.declared.words.LineFault.{LineFault}
use Rattle.certificate.specs.declared.words.LineFault.TheVariants as line
use Rattle.certificate.specs.declared.fault.ReadFault.{ReadFault}
use Rattle.certificate.specs.declared.fault.ReadFault.TheVariants.{FirstLine, NotInGrammar, OutOfOrder, OutOfRange}
use Rattle.certificate.specs.declared.fault.ReadFault.TheVariants.{Unended}
use Rattle.certificate.specs.Lines.{ClaimLine, Content, Block, Loop, Claimed, reading}
use Rattle.certificate.specs.Contents.{claim_order, comes_behind, heading, may_stand}

-- ---- where a line may stand

-- what a line stands below: the last block, the last loop of it, and the last claim of that, or of the block itself
pub record Above : Type 0 where
  pub block : Option ℕ
  pub loop_number : Option ℕ
  pub claim : Option ClaimLine

-- below the heading of a text
abbrev pub nothing : Above
nothing = record { block = None; loop_number = None; claim = None }

-- what the line stands below that follows a line
abbrev pub below : Above → Content → Above
below above (Block number) = record { block = Some number; loop_number = None; claim = None }
below above (Loop number) = record { block = above.block; loop_number = Some number; claim = None }
below above (Claimed claim) = record { block = above.block; loop_number = above.loop_number; claim = Some claim }

-- blocks ascend, the loops of a block, and the claims of a loop, and of a block itself, which stand before its loops
abbrev pub admits : Above → Content → Bool
admits above (Block number) = comes_behind nat_cmp above.block number
admits above (Loop number) = is_some above.block && comes_behind nat_cmp above.loop_number number
admits above (Claimed claim) =
    is_some above.block
    && (may_stand (is_some above.loop_number) claim && comes_behind claim_order above.claim claim)

-- a line is in the grammar as a heading of the word, whatever its number
abbrev pub is_heading_behind : Option (List ℕ) → Bool
is_heading_behind None = false
is_heading_behind (Some number) = is_number number

abbrev pub is_heading : List ℕ → Line → Bool
is_heading word line = line.ended && is_heading_behind (behind word line.bytes)

-- a block's heading has a line below it, and so has a loop's
abbrev pub has_below : Content → List Line → Bool
has_below (Block number) [] = false
has_below (Block number) (next ∷ more) = not (is_heading (codes "proc ") next)
has_below (Loop number) [] = false
has_below (Loop number) (next ∷ more) = not (is_heading (codes "proc ") next) && not (is_heading (codes "loop ") next)
has_below (Claimed claim) more = true

-- ---- the first fault

-- the fault of a line below the heading that says something, or says nothing
abbrev pub content_fault : ℕ → Above → Result Content LineFault → List Line → Option ReadFault
content_fault number above (Err line.NotInGrammar) more = Some (NotInGrammar number)
content_fault number above (Err line.OutOfRange) more = Some (OutOfRange number)
content_fault number above (Ok content) more =
    if admits above content && has_below content more then None else Some (OutOfOrder number)

-- the fault of a line below the heading that has its end: it may be no heading of a text once more
abbrev pub ended_fault : Version → ℕ → Above → List ℕ → List Line → Option ReadFault
ended_fault version number above bytes more =
    if bytes_eq bytes (heading version) then Some (OutOfOrder number)
    else content_fault number above (reading version bytes) more

-- the fault of a line below the heading: first that it has no end
abbrev pub line_fault : Version → ℕ → Above → Line → List Line → Option ReadFault
line_fault version number above line more =
    if line.ended then ended_fault version number above line.bytes more else Some (Unended number)

-- one fault, or else another
abbrev pub or_else : Option ReadFault → Option ReadFault → Option ReadFault
or_else None other = other
or_else (Some fault) other = Some fault

-- what the line stands below that follows a line, if that says something
abbrev pub below_line : Above → Result Content LineFault → Above
below_line above (Ok content) = below above content
below_line above (Err fault) = above

-- the fault of the first faulty line below the heading, the lines numbered from the number on
abbrev pub fault_from : Version → ℕ → Above → List Line → Option ReadFault
fault_from version number above [] = None
fault_from version number above (line ∷ more) =
    or_else (line_fault version number above line more)
    (fault_from version (suc number) (below_line above (reading version line.bytes)) more)

-- the version of which bytes are the heading
abbrev pub version_named : List ℕ → Result Version ReadFault
version_named bytes =
    if bytes_eq bytes (heading One) then Ok One
    else if bytes_eq bytes (heading Two) then Ok Two
    else if bytes_eq bytes (heading Three) then Ok Three
    else Err (FirstLine 1)

-- the version that a first line names, or its fault: first that it has no end
abbrev pub version_of : Line → Result Version ReadFault
version_of line = if line.ended then version_named line.bytes else Err (Unended 1)

-- the fault of a first line, or else of the first faulty line below it
abbrev pub fault_behind : Result Version ReadFault → List Line → Option ReadFault
fault_behind (Err fault) more = Some fault
fault_behind (Ok version) more = fault_from version 2 nothing more

-- the fault of the first faulty line of a text; a text without lines lacks its first
abbrev pub fault_of_lines : List Line → Option ReadFault
fault_of_lines [] = Some (FirstLine 1)
fault_of_lines (line ∷ more) = fault_behind (version_of line) more

abbrev pub first_fault : List ℕ → Option ReadFault
first_fault text = fault_of_lines (lines text)
