-- The numbers and the places of the faults of a text, L1 to L8.
-- This doesn't say which text has which fault.
use Rattle.std.specs.Prelude.{ℕ, Option, Some, None}
use Rattle.place.specs.declared.Place.{Place}
use Rattle.lexer.specs.declared.fault.LexFault.{LexFault}
use Rattle.lexer.specs.declared.fault.LexFault.TheVariants.{Memory, UnknownByte, OpenComment, OpenString, EmptyString}
use Rattle.lexer.specs.declared.fault.LexFault.TheVariants.{LargeNumber, TouchingLetter, LongText, StringByte}

-- the number of a fault behind the letter L, and 0 for want of memory
abbrev pub code_of : LexFault → ℕ
code_of (Memory _) = 0
code_of (UnknownByte p) = 1
code_of (OpenComment p) = 2
code_of (OpenString p) = 3
code_of (EmptyString p) = 4
code_of (LargeNumber p) = 5
code_of (TouchingLetter p) = 6
code_of (LongText p) = 7
code_of (StringByte p) = 8

-- where a fault stands in the text
abbrev pub place_of_fault : LexFault → Option Place
place_of_fault (Memory _) = None
place_of_fault (UnknownByte p) = Some p
place_of_fault (OpenComment p) = Some p
place_of_fault (OpenString p) = Some p
place_of_fault (EmptyString p) = Some p
place_of_fault (LargeNumber p) = Some p
place_of_fault (TouchingLetter p) = Some p
place_of_fault (LongText p) = Some p
place_of_fault (StringByte p) = Some p
