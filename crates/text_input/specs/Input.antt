-- What is read of an input (ISO 7185:1990, 6.4.3.5, 6.6.6.5, 6.9.1, 6.9.2): a list of bytes, of which the byte 10 ends
-- a line. It says nothing of where the bytes come from, and nothing of the types of variables.
use Rattle.std.specs.Prelude.{ℕ, zero, suc, ℤ, pos, negsuc, ◌+◌, ◌-◌, ◌*◌, ◌&&◌, Bool, true, false, List, [], ◌∷◌}
use Rattle.std.specs.Prelude.{if◌then◌else◌, nat_eq, nat_le}
use Rattle.text_input.specs.declared.InputFault.{InputFault}
use Rattle.text_input.specs.declared.InputFault.TheVariants as fault

-- the input as lines, each of them ended
abbrev pub completed : List ℕ → List ℕ
completed [] = []
completed (b ∷ []) = if nat_eq b 10 then b ∷ [] else b ∷ 10 ∷ []
completed (b ∷ c ∷ bytes) = b ∷ completed (c ∷ bytes)

-- what is read, and the bytes behind it; or what is wrong there; or a byte is needed behind the last one
pub data Reading (A : Type 0) : Type 0 where
  Reads : A → List ℕ → Reading A
  Fails : InputFault → Reading A
  Ends : Reading A

-- nothing is left
abbrev pub is_at_end : List ℕ → Bool
is_at_end [] = true
is_at_end (byte ∷ bytes) = false

-- ---- characters and lines

-- one byte is a character: a line end is read as a space
abbrev pub character : ℕ → List ℕ → Reading ℕ
character byte rest =
    if nat_eq byte 10 then Reads 32 rest
    else if nat_le byte 127 then Reads byte rest
    else Fails fault.NotACharacter

abbrev pub read_character : List ℕ → Reading ℕ
read_character [] = Ends
read_character (byte ∷ bytes) = character byte bytes

-- the next line end is passed, with what stands before it
abbrev pub read_line : List ℕ → Reading (Unit {0})
read_line [] = Ends
read_line (byte ∷ bytes) = if nat_eq byte 10 then Reads tt bytes else read_line bytes

-- a line ends here; nothing is taken
abbrev pub read_eoln : List ℕ → Reading Bool
read_eoln [] = Ends
read_eoln (byte ∷ bytes) = Reads (nat_eq byte 10) (byte ∷ bytes)

-- ---- numbers

abbrev pub is_blank : ℕ → Bool
is_blank byte = if nat_eq byte 32 then true else nat_eq byte 10

abbrev pub is_digit : ℕ → Bool
is_digit byte = nat_le 48 byte && nat_le byte 57

-- a number with its sign
abbrev pub signed : Bool → ℕ → ℤ
signed false n = pos n
signed true zero = pos 0
signed true (suc n) = negsuc n

-- a number of type integer that was read
abbrev pub number : Bool → ℕ → List ℕ → Reading ℤ
number is_negative n rest =
    if nat_le n 2147483647 then Reads (signed is_negative n) rest else Fails fault.NumberTooLarge

-- the digits that follow, behind those that make a number; the byte behind the last one is looked at
abbrev pub digits : Bool → ℕ → List ℕ → Reading ℤ
digits is_negative n [] = Ends
digits is_negative n (byte ∷ bytes) =
    if is_digit byte then digits is_negative (n * 10 + (byte - 48)) bytes
    else number is_negative n (byte ∷ bytes)

-- digits, at least one
abbrev pub unsigned_at : Bool → List ℕ → Reading ℤ
unsigned_at is_negative [] = Ends
unsigned_at is_negative (byte ∷ bytes) =
    if is_digit byte then digits is_negative (byte - 48) bytes else Fails fault.NotANumber

-- a sign or none, and digits directly behind it
abbrev pub signed_at : ℕ → List ℕ → Reading ℤ
signed_at byte bytes =
    if nat_eq byte 45 then unsigned_at true bytes
    else if nat_eq byte 43 then unsigned_at false bytes
    else unsigned_at false (byte ∷ bytes)

-- an integer, behind spaces and line ends
abbrev pub read_integer : List ℕ → Reading ℤ
read_integer [] = Ends
read_integer (byte ∷ bytes) = if is_blank byte then read_integer bytes else signed_at byte bytes
