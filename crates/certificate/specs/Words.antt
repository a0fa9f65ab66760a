-- The words of a certificate's lines: numbers and variables, and what is read in a part of a line, if that is in the
-- grammar and its numbers are in range. ISO 7185:1990 knows no certificates. It does not say which lines there are.
use Rattle.std.specs.Prelude.{ℕ, zero, suc, ℤ, pos, neg_ℤ}
use Rattle.std.specs.Prelude.{if◌then◌else◌, List, ◌++◌, Option}
use Rattle.std.specs.Prelude.{Some, None, Result, Ok, Err, codes, decimal, ok_or}
use Rattle.text_lines.specs.Numerals.{is_number, natural}
use Rattle.text_lines.specs.Words as text
use Rattle.text_lines.specs.Words.{behind}
use Rattle.certificate.specs.declared.words.LineFault.{LineFault}
use Rattle.certificate.specs.declared.words.LineFault.TheVariants.{NotInGrammar, OutOfRange}

-- ---- how a variable is spelled

-- a variable, by its root number
abbrev pub variable : ℕ → List ℕ
variable root = codes "v" ++ decimal root

-- ---- numbers

-- the greatest number of a block, a loop or a variable, and the greatest magnitude of the others
abbrev pub most : ℕ
most = 999999

abbrev pub maxint : ℕ
maxint = 2147483647

-- ---- what is read

-- what is made of a part of a line, if there is no fault in it
infixl 10 ◌>>=◌
abbrev pub ◌>>=◌ : {A B : Type 0} → Result A LineFault → (A → Result B LineFault) → Result B LineFault
(Ok part) >>= f = f part
(Err fault) >>= f = Err fault

-- two parts of a line: it is not in the grammar before a number of it is out of range
abbrev pub both : {A B : Type 0} → Result A LineFault → Result B LineFault → Result (A × B) LineFault
both (Ok a) (Ok b) = Ok (a, b)
both (Ok a) (Err fault) = Err fault
both (Err NotInGrammar) b = Err NotInGrammar
both (Err OutOfRange) (Ok b) = Err OutOfRange
both (Err OutOfRange) (Err fault) = Err fault

-- why a word isn't a number up to a limit
abbrev pub number_fault : List ℕ → LineFault
number_fault word = if is_number word then OutOfRange else NotInGrammar

-- a number that is at most a limit
abbrev pub at_most : ℕ → List ℕ → Result ℕ LineFault
at_most limit word = ok_or (natural limit word) (number_fault word)

-- the number of a block, a loop or a variable
abbrev pub number_of : List ℕ → Result ℕ LineFault
number_of word = at_most most word

-- what is read behind a beginning, if the text has it
abbrev pub when : {A : Type 0} → Option (List ℕ) → (List ℕ → Result A LineFault) → Result A LineFault
    → Result A LineFault
when None read otherwise = otherwise
when (Some rest) read otherwise = read rest

-- a variable: v and its root number
abbrev pub variable_of : List ℕ → Result ℕ LineFault
variable_of word = when (behind (codes "v") word) number_of (Err NotInGrammar)

-- the negative of a magnitude; 0 has no minus
abbrev pub negative : ℕ → Result ℤ LineFault
negative zero = Err NotInGrammar
negative (suc n) = Ok (neg_ℤ (pos (suc n)))

-- the number of a magnitude, without a minus and with one
abbrev pub positive_of : List ℕ → Result ℤ LineFault
positive_of digits = at_most maxint digits >>= λ magnitude. Ok (pos magnitude)

abbrev pub negative_of : List ℕ → Result ℤ LineFault
negative_of digits = at_most maxint digits >>= negative

-- the same of a magnitude by which a bound lies below a variable; 0 is out of its range
abbrev pub lowered : ℕ → Result ℤ LineFault
lowered zero = Err OutOfRange
lowered (suc n) = Ok (neg_ℤ (pos (suc n)))

abbrev pub lowered_of : List ℕ → Result ℤ LineFault
lowered_of digits = at_most maxint digits >>= lowered

-- a number with or without a minus
abbrev pub constant_of : List ℕ → Result ℤ LineFault
constant_of word = when (behind (codes "-") word) negative_of (positive_of word)

-- what stands before the first blank, and what stands behind it
abbrev pub parted : List ℕ → Result (List ℕ × List ℕ) LineFault
parted words = ok_or (text.parted words) NotInGrammar
