-- Bounds and spans in a certificate's lines: how they are spelled, and what is read of words. ISO 7185:1990 knows no
-- bounds. It does not say what number a bound is.
use Rattle.std.specs.Prelude.{ℕ, zero, suc, ℤ, pos, int_lt, Bool, ◌||◌, ◌==◌, if◌then◌else◌, List, [], ◌∷◌, ◌++◌}
use Rattle.std.specs.Prelude.{take, drop, position, Option, Some, None, Result, Ok, Err, codes}
use Rattle.std.specs.Fmt.{signed_decimal}
use Rattle.std.specs.List.{position_or_len}
use Rattle.domain.specs.Facts.{Bound, Number, Plus, Span}
use Rattle.domain.specs.Versions.{most_spans}
use Rattle.domain.specs.declared.versions.Version.{Version}
use Rattle.text_lines.specs.Words.{behind}
use Rattle.certificate.specs.declared.words.LineFault.{LineFault}
use Rattle.certificate.specs.declared.words.LineFault.TheVariants.{NotInGrammar}
use Rattle.certificate.specs.Words.{◌>>=◌, both, constant_of, lowered_of, parted, positive_of, variable}
use Rattle.certificate.specs.Words.{variable_of, when}

-- ---- how bounds are spelled

-- a number behind its sign, which is a plus at 0
abbrev pub offset : ℤ → List ℕ
offset number = if int_lt number (pos 0) then signed_decimal number else codes "+" ++ signed_decimal number

-- a number, or a variable and a number with its sign
abbrev pub bound_words : Bound → List ℕ
bound_words (Number number) = signed_decimal number
bound_words (Plus root number) = variable root ++ offset number

-- two bounds, with a blank before each
abbrev pub span_words : Span → List ℕ
span_words span = 32 ∷ (bound_words span.first ++ 32 ∷ bound_words span.last)

-- ---- what words say

-- a number behind its sign
abbrev pub offset_of : List ℕ → Result ℤ LineFault
offset_of word =
    when (behind (codes "+") word) positive_of (when (behind (codes "-") word) lowered_of (Err NotInGrammar))

abbrev pub is_sign : ℕ → Bool
is_sign byte = byte == 43 || byte == 45

-- a variable before the first sign, and a number from there on
abbrev pub plus_at : List ℕ → ℕ → Result Bound LineFault
plus_at word end = do
  parts ← both (variable_of (take end word)) (offset_of (drop end word))
  Ok (Plus parts.0 parts.1)

-- the bound that a word says
abbrev pub bound_of : List ℕ → Result Bound LineFault
bound_of word =
    when (behind (codes "v") word) (λ _. plus_at word (position_or_len is_sign word))
    (constant_of word >>= λ number. Ok (Number number))

-- the span between two bounds
abbrev pub span_of : (first last : List ℕ) → Result Span LineFault
span_of first last = do
  bounds ← both (bound_of first) (bound_of last)
  Ok (record { first = bounds.0; last = bounds.1 })

-- a span and those behind it
abbrev pub span_and : Result Span LineFault → Result (List Span) LineFault → Result (List Span) LineFault
span_and span more = do
  parts ← both span more
  Ok (parts.0 ∷ parts.1)

-- the spans of a first bound and what stands behind it: a last bound, and perhaps more spans behind a blank
abbrev pub spans_at : (read_more : List ℕ → Result (List Span) LineFault) → (first rest : List ℕ) → Option ℕ
    → Result (List Span) LineFault
spans_at read_more first rest None = span_of first rest >>= λ span. Ok (span ∷ [])
spans_at read_more first rest (Some end) =
    span_and (span_of first (take end rest)) (read_more (drop (suc end) rest))

-- spans, at least one and at most a number of them: bounds in pairs, a blank between any two of them
abbrev pub spans_up_to : ℕ → List ℕ → Result (List Span) LineFault
spans_up_to zero words = Err NotInGrammar
spans_up_to (suc more) words = do
  ends ← parted words
  spans_at (spans_up_to more) ends.0 ends.1 (position (λ byte. byte == 32) ends.1)

-- the spans that words say in a certificate of a version
abbrev pub spans_of : Version → List ℕ → Result (List Span) LineFault
spans_of version words = spans_up_to (most_spans version) words
