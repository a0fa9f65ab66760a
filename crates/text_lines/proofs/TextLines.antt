-- A text and its lines.
use Rattle.std.proofs.Common.{◌≡◌, ℕ, suc, ◌+◌, ◌<◌, ◌≤◌, Bool, true, false, nat_lt, ◌==◌, cond, not, List, [], ◌∷◌, ◌++◌, length, take, drop, Option, Some}
use Rattle.std.proofs.Common.{None, refl, sym, ap, ◌∙◌, arith}
use Rattle.std.proofs.lemmas.Grind.{common_steps}
use Rattle.std.proofs.lemmas.Bool.{and_parts}
use Rattle.std.proofs.lemmas.Bool.Decides.{nat_tests}
use Rattle.std.specs.Bool.{if◌then◌else◌}
use Rattle.std.specs.List.{position, position_or_len}
use Rattle.text_lines.specs.Lines.{Line, lines, with_front}
use Rattle.text_lines.proofs.Bytes.{are_above}

abbrev ends : ℕ → Bool
ends byte = byte == 10

one_more : (n : ℕ) → 1 + n ≡ suc n
one_more n = omega arith

-- one byte more before a line, where e says that it is a line end
front-at_end : (e : Bool) (byte n : ℕ) (more : List ℕ)
    → (n < length more → lines more ≡ record { bytes = take n more; ended = true } ∷ lines (drop (suc n) more)) → cond (not e) (1 + n) 0 < suc (length more)
    → (if e then record { bytes = []; ended = true } ∷ lines more else with_front byte (lines more))
    ≡ record { bytes = take (cond (not e) (1 + n) 0) (byte ∷ more); ended = true } ∷ lines (drop (suc (cond (not e) (1 + n) 0)) (byte ∷ more))
front-at_end true byte n more more_is within = refl
front-at_end false byte n more more_is within =
    let at_end : n < length more = omega arith in
    rw one_more (ap (with_front byte) (more_is at_end))

front-unended : (e : Bool) (byte n : ℕ) (more : List ℕ) → (length more ≤ n → lines more ≡ record { bytes = more; ended = false } ∷ [])
    → suc (length more) ≤ cond (not e) (1 + n) 0
    → (if e then record { bytes = []; ended = true } ∷ lines more else with_front byte (lines more)) ≡ record { bytes = byte ∷ more; ended = false } ∷ []
front-unended true byte n more more_is none = absurd (omega arith)
front-unended false byte n more more_is none = ap (with_front byte) (more_is (omega arith))

front-last : (e : Bool) (byte n : ℕ) → 1 ≤ cond (not e) (1 + n) 0
    → (if e then record { bytes = []; ended = true } ∷ [] else with_front byte []) ≡ record { bytes = byte ∷ []; ended = false } ∷ []
front-last true byte n none = absurd (omega arith)
front-last false byte n none = refl

-- a text with a line end begins with the line before it
pub lines-at_end : (text : List ℕ) → position_or_len ends text < length text
    → lines text ≡ record { bytes = take (position_or_len ends text) text; ended = true } ∷ lines (drop (suc (position_or_len ends text)) text)
lines-at_end [] within = absurd (omega arith)
lines-at_end (byte ∷ more) within = front-at_end (byte == 10) byte (position_or_len ends more) more (lines-at_end more) within

-- a text without a line end is one line
pub lines-unended : (text : List ℕ) → 0 < length text → length text ≤ position_or_len ends text → lines text ≡ record { bytes = text; ended = false } ∷ []
lines-unended [] some none = absurd (omega arith)
lines-unended (byte ∷ []) some none = front-last (byte == 10) byte (position_or_len ends []) none
lines-unended (byte ∷ next ∷ more) some none =
    front-unended (byte == 10) byte (position_or_len ends (next ∷ more)) (next ∷ more) (lines-unended (next ∷ more) (omega arith)) none

-- the text that has the lines
abbrev pub unlines : List Line → List ℕ
unlines [] = []
unlines (line ∷ more) = line.bytes ++ cond line.ended (10 ∷ unlines more) (unlines more)

unlines-front : (byte : ℕ) (ls : List Line) → unlines (with_front byte ls) ≡ byte ∷ unlines ls
unlines-front byte [] = refl
unlines-front byte (line ∷ more) = refl

unlines-step : (byte : ℕ) (more : List ℕ) (e : Bool) → byte == 10 ≡ e → unlines (lines more) ≡ more
    → unlines (if e then record { bytes = []; ended = true } ∷ lines more else with_front byte (lines more)) ≡ byte ∷ more
unlines-step byte more true is more_is = grind (arith, common_steps)
unlines-step byte more false is more_is = unlines-front byte (lines more) ∙ ap (λ rest. byte ∷ rest) more_is

-- lines part a text and lose nothing
pub unlines-lines : (text : List ℕ) → unlines (lines text) ≡ text
unlines-lines [] = refl
unlines-lines (byte ∷ more) = unlines-step byte more (byte == 10) refl (unlines-lines more)

position-at : (k n end : ℕ) (within : Bool) → nat_lt k n ≡ within → cond within (Some k) None ≡ Some end → (k ≡ end) × (k < n)
position-at k n end true is found = (cc, grind (arith, nat_tests))
position-at k n end false is found = cc

position-none : (k n : ℕ) (within : Bool) → nat_lt k n ≡ within → (let r : Option ℕ = cond within (Some k) None in r ≡ None) → n ≤ k
position-none k n true is none = cc
position-none k n false is none = grind (arith, nat_tests)

-- the lines of a text whose first line end is at a place
pub lines-found : (text rest : List ℕ) (end : ℕ) → position ends text ≡ Some end → rest ≡ drop (suc end) text
    → lines text ≡ record { bytes = take end text; ended = true } ∷ lines rest
lines-found text rest end found rest_is =
    let at : (position_or_len ends text ≡ end) × (position_or_len ends text < length text) = position-at _ (length text) end _ refl found in
    lines-at_end text at.1 ∙ ap (λ k. record { bytes = take k text; ended = true } ∷ lines (drop (suc k) text)) at.0
    ∙ ap (λ more. record { bytes = take end text; ended = true } ∷ lines more) (sym rest_is)

-- the lines of a text that has no line end
pub lines-not_found : (text rest : List ℕ) → 0 < length text → position ends text ≡ None → rest ≡ []
    → lines text ≡ record { bytes = text; ended = false } ∷ lines rest
lines-not_found text rest some none rest_is =
    lines-unended text some (position-none _ (length text) _ refl none) ∙ ap (λ more. record { bytes = text; ended = false } ∷ lines more) (sym rest_is)

-- ---- the lines of a text of lines

abbrev pub whole : List ℕ → Line
whole line = record { bytes = line; ended = true }

-- a text begins with a line that has no byte of a line end
pub lines_at : (line rest : List ℕ) → are_above 10 line ≡ true → lines (line ++ 10 ∷ rest) ≡ whole line ∷ lines rest
lines_at [] rest above = refl
lines_at (byte ∷ line) rest above =
    let parts = and_parts (nat_lt 10 byte) _ above in
    let other : byte == 10 ≡ false = grind (arith, nat_tests) in
    rw (other, lines_at line rest parts.1) refl
