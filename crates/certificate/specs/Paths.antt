-- Paths in a certificate's lines: how a path is spelled, and what is read of a word (ISO 7185:1990, 6.5.3: components
-- of variables). It does not say which components a variable has.
use Rattle.std.specs.Prelude.{ℕ, Bool, false, ◌&&◌, ◌||◌, ◌==◌, if◌then◌else◌, List, [], ◌∷◌, ◌++◌, map, Option, Some}
use Rattle.std.specs.Prelude.{None, Result, Ok, Err, codes}
use Rattle.std.specs.Str.{bytes_eq}
use Rattle.std.specs.Char.{is_ascii_digit, is_ascii_lowercase}
use Rattle.std.specs.List.{flat_map, list_all}
use Rattle.domain.specs.Facts.{Step, Path, Elements, Field}
use Rattle.text_lines.specs.Words.{behind}
use Rattle.certificate.specs.declared.words.LineFault.{LineFault}
use Rattle.certificate.specs.declared.words.LineFault.TheVariants.{NotInGrammar}
use Rattle.certificate.specs.Words.{◌>>=◌, both, variable, variable_of}

-- ---- how a path is spelled

-- a dot and the name of a field, or brackets for all elements
abbrev pub step_words : Step → List ℕ
step_words Elements = codes "[]"
step_words (Field name) = codes "." ++ name

-- a variable, and the steps behind it
abbrev pub path_words : Path → List ℕ
path_words path = variable path.root ++ flat_map step_words path.steps

-- ---- what a word says

-- a name: a small letter, and then small letters and digits (6.1.3)
abbrev pub is_name_byte : ℕ → Bool
is_name_byte byte = is_ascii_lowercase byte || is_ascii_digit byte

abbrev pub is_name : List ℕ → Bool
is_name [] = false
is_name (first ∷ more) = is_ascii_lowercase first && list_all is_name_byte more

-- a dot or an opening bracket
abbrev pub begins_step : ℕ → Bool
begins_step byte = byte == 46 || byte == 91

-- a text cut before each byte that begins a step: what stands before the first of them, and the pieces from there on
abbrev pub with_byte : ℕ → List ℕ × List (List ℕ) → List ℕ × List (List ℕ)
with_byte byte (front, pieces) =
    if begins_step byte then ([], (byte ∷ front) ∷ pieces) else (byte ∷ front, pieces)

abbrev pub cut : List ℕ → List ℕ × List (List ℕ)
cut [] = ([], [])
cut (byte ∷ more) = with_byte byte (cut more)

-- the step that a piece says, by what stands behind a dot
abbrev pub step_behind : Option (List ℕ) → Step
step_behind None = Elements
step_behind (Some name) = Field name

abbrev pub step_in : List ℕ → Step
step_in piece = step_behind (behind (codes ".") piece)

-- a piece is in the grammar: a field, or all elements where these may stand
abbrev pub is_piece_behind : (elements : Bool) → List ℕ → Option (List ℕ) → Bool
is_piece_behind elements piece None = elements && bytes_eq piece (codes "[]")
is_piece_behind elements piece (Some name) = is_name name

abbrev pub is_piece : (elements : Bool) → List ℕ → Bool
is_piece elements piece = is_piece_behind elements piece (behind (codes ".") piece)

-- the steps that pieces say
abbrev pub steps_of : (elements : Bool) → List (List ℕ) → Result (List Step) LineFault
steps_of elements pieces =
    if list_all (is_piece elements) pieces then Ok (map step_in pieces) else Err NotInGrammar

-- the path that a word says, with all elements where these may stand
abbrev pub path_of : (elements : Bool) → List ℕ → Result Path LineFault
path_of elements word = do
  parts ← both (variable_of (cut word).0) (steps_of elements (cut word).1)
  Ok (record { root = parts.0; steps = parts.1 })
