-- What the words `pint [--cells N] CODE` say: the matches that a command of these two arguments has on them, by clap's
-- own definitions, and the number that the text of N spells.
use Rattle.std.specs.Prelude.{◌≡◌, ◌≤◌, codes, ℕ, List, [], ◌∷◌, Option, Some, None, pos}
use Rattle.std.specs.Str.Parse.{IsNumeral, digits_value, without_leading_plus}
use Rattle.clap.specs.Words.{App, Rule, Text, first_of, first_value, found_of, matches_of, one_text}
use Rattle.clap.specs.Built.{IsParsedFrom}
use Rattle.clap.specs.Faults.{fault_of}
use Rattle.clap.specs.declared.builder.command.Command.{Command}
use Rattle.clap.specs.declared.builder.value_parser.ValueParser.TheVariants.{Signed}
use Rattle.clap.specs.declared.parser.matches.ArgMatches.{ArgMatches}
use Rattle.command_line.specs.Words.{command_of, needed, option, value}
use Rattle.command_line.specs.declared.pint.PintWords.{PintWords}

-- the option `--cells N`, whose value clap takes where it is a number from 1 to 16,777,216
abbrev pub cells : Rule
cells = record (option (codes "cells")) { parser = Some (Signed (pos 1) (pos 16777216)) }

-- the command's arguments
abbrev pub arguments : List Rule
arguments = cells ∷ needed (value (codes "code")) ∷ []

-- the command
abbrev pub pint : App
pint = command_of (codes "pint") arguments

-- the path of the code that the words give
abbrev pub code_in : List Text → Option Text
code_in words = first_of (codes "code") (matches_of pint words)

-- the text of the number of cells, if the words give one
abbrev pub cells_in : List Text → Option Text
cells_in words = first_of (codes "cells") (matches_of pint words)

-- the text is decimal digits, one or more, of which the first may be zero, behind a plus or nothing, and spells the
-- number
abbrev pub Spells : Text → ℕ → Type 0
Spells text number =
    IsNumeral 10 (without_leading_plus text) × (digits_value 10 (without_leading_plus text) ≡ number)

-- the number of cells, by its text: 1,000,000 where there is none
abbrev pub IsCount : Option Text → ℕ → Type 0
IsCount None count = count ≡ 1000000
IsCount (Some text) count = Spells text count

-- words that are taken have no fault, and give the path and the number of cells, which is in its range
pub record AreSaid (words : List Text) (said : PintWords) : Type 0 where
  pub faultless : fault_of pint words ≡ []
  pub code : code_in words ≡ Some said.code.now
  pub cells : IsCount (cells_in words) said.cells
  pub least : 1 ≤ said.cells
  pub most : said.cells ≤ 16777216

-- each text that a parse of the command found for the cells spells a number in the range, and is read as it stands
abbrev pub ReadsCells : Command → Type 0
ReadsCells command = (matches : ArgMatches) → IsParsedFrom command matches
    → (text : Text) → first_value (found_of matches) (codes "cells") ≡ Some text
    → (count : ℕ) × Spells text count × (1 ≤ count) × (count ≤ 16777216)
    × (one_text (found_of matches) (codes "cells") ≡ Some text)
