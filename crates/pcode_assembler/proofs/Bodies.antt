-- The lines of a text above its last.
use Rattle.std.proofs.Common.{◌≡◌, ℕ, ◌<◌, Bool, true, false, ◌==◌, ◌&&◌, List, [], ◌∷◌, ◌++◌, map, length, refl, sym, ap, ◌∙◌, arith}
use Rattle.std.proofs.Common.{append_assoc, codes}
use Rattle.std.specs.Bool.{if◌then◌else◌}
use Rattle.std.specs.List.{flat_map, list_all}
use Rattle.std.specs.Str.{bytes_eq}
use Rattle.std.proofs.lemmas.Bool.{and_parts}
use Rattle.std.proofs.lemmas.Slice.Eq.{bytes_eq-Decides}
use Rattle.text_lines.specs.Lines.{Line, ended, lines, with_front}
use Rattle.text_lines.proofs.Bytes.{are_above}
use Rattle.text_lines.proofs.TextLines.{lines_at, unlines, unlines-lines, whole}
use Rattle.pcode_assembler.specs.Text.{above_last, body, ends, has_end, is_end}

front_line : (byte : ℕ) (ls : List Line) → (first : Line) × (more : List Line) × (with_front byte ls ≡ first ∷ more)
front_line byte [] = (record { bytes = byte ∷ []; ended = false }, [], refl)
front_line byte (line ∷ more) = (record { bytes = byte ∷ line.bytes; ended = line.ended }, more, refl)

first_line : (newline : Bool) (byte : ℕ) (ls : List Line)
    → (first : Line) × (more : List Line) × ((if newline then record { bytes = []; ended = true } ∷ ls else with_front byte ls) ≡ first ∷ more)
first_line true byte ls = (record { bytes = []; ended = true }, ls, refl)
first_line false byte ls = front_line byte ls

-- a text with a byte has a line
has_line : (text : List ℕ) → 0 < length text → (first : Line) × (more : List Line) × (lines text ≡ first ∷ more)
has_line [] some = absurd (omega arith)
has_line (byte ∷ text) some = first_line (byte == 10) byte (lines text)

-- a line that has a text below it
pub next_body : (text more : List ℕ) (line : Line) → lines text ≡ line ∷ lines more → 0 < length more → body text ≡ line.bytes ∷ body more
next_body text more line is some =
    let below = has_line more some in
    ap above_last (is ∙ ap (λ ls. line ∷ ls) below.2) ∙ ap (λ ls. line.bytes ∷ above_last ls) (sym below.2)

pub last_body : (text more : List ℕ) (line : Line) → lines text ≡ line ∷ lines more → more ≡ [] → body text ≡ []
last_body text more line is none = ap above_last (is ∙ ap (λ (t : List ℕ). line ∷ lines t) none)

-- ---- what is parted is put together again

-- all lines but the last have their ends
abbrev are_ended : List Line → Bool
are_ended [] = true
are_ended (last ∷ []) = true
are_ended (line ∷ next ∷ more) = line.ended && are_ended (next ∷ more)

ended_newline : (ls : List Line) → are_ended ls ≡ true → are_ended (record { bytes = []; ended = true } ∷ ls) ≡ true
ended_newline [] all = refl
ended_newline (line ∷ more) all = all

ended_front : (byte : ℕ) (ls : List Line) → are_ended ls ≡ true → are_ended (with_front byte ls) ≡ true
ended_front byte [] all = refl
ended_front byte (line ∷ []) all = refl
ended_front byte (line ∷ next ∷ more) all = all

ended_either : (newline : Bool) (byte : ℕ) (ls : List Line) → are_ended ls ≡ true
    → are_ended (if newline then record { bytes = []; ended = true } ∷ ls else with_front byte ls) ≡ true
ended_either true byte ls all = ended_newline ls all
ended_either false byte ls all = ended_front byte ls all

all_ended : (text : List ℕ) → are_ended (lines text) ≡ true
all_ended [] = refl
all_ended (byte ∷ more) = ended_either (byte == 10) byte (lines more) (all_ended more)

end_is : (line : Line) → is_end line ≡ true → (line.ended ≡ true) × (line.bytes ≡ codes "end")
end_is line is = let parts = and_parts line.ended (bytes_eq line.bytes (codes "end")) is in (parts.0, (bytes_eq-Decides line.bytes (codes "end")).0 parts.1)

unlines_body : (ls : List Line) → are_ended ls ≡ true → ends false ls ≡ true → unlines ls ≡ flat_map ended (above_last ls) ++ ended (codes "end")
unlines_body [] all at_end = absurd cc
unlines_body (line ∷ []) all at_end = let last = end_is line at_end in rw (last.0, last.1) refl
unlines_body (line ∷ next ∷ more) all at_end =
    let parts = and_parts line.ended (are_ended (next ∷ more)) all in
    let rest = unlines_body (next ∷ more) parts.1 at_end in
    rw parts.0 (
    ap (λ text. line.bytes ++ 10 ∷ text) rest
    ∙ sym (append_assoc line.bytes (10 ∷ []) (flat_map ended (above_last (next ∷ more)) ++ ended (codes "end")))
    ∙ sym (append_assoc (ended line.bytes) (flat_map ended (above_last (next ∷ more))) (ended (codes "end"))))

-- a text with its end is the text of the lines above that
pub body_text : (text : List ℕ) → has_end text ≡ true → text ≡ flat_map ended (body text) ++ ended (codes "end")
body_text text at_end = sym (unlines-lines text) ∙ unlines_body (lines text) (all_ended text) at_end

-- ---- the lines of a text of lines

lines_again : (ls : List (List ℕ)) → list_all (are_above 10) ls ≡ true
    → lines (flat_map ended ls ++ ended (codes "end")) ≡ map whole ls ++ whole (codes "end") ∷ []
lines_again [] above = refl
lines_again (line ∷ more) above =
    let parts = and_parts (are_above 10 line) _ above in
    ap lines (append_assoc (ended line) (flat_map ended more) (ended (codes "end"))
    ∙ append_assoc line (10 ∷ []) (flat_map ended more ++ ended (codes "end")))
    ∙ lines_at line (flat_map ended more ++ ended (codes "end")) parts.0
    ∙ ap (λ rest. whole line ∷ rest) (lines_again more parts.1)

above_whole : (ls : List (List ℕ)) → above_last (map whole ls ++ whole (codes "end") ∷ []) ≡ ls
above_whole [] = refl
above_whole (line ∷ []) = refl
above_whole (line ∷ next ∷ more) = ap (λ rest. line ∷ rest) (above_whole (next ∷ more))

ends_whole : (ls : List (List ℕ)) (so_far : Bool) → ends so_far (map whole ls ++ whole (codes "end") ∷ []) ≡ true
ends_whole [] so_far = refl
ends_whole (line ∷ more) so_far = ends_whole more (is_end (whole line))

pub body_again : (ls : List (List ℕ)) → list_all (are_above 10) ls ≡ true → body (flat_map ended ls ++ ended (codes "end")) ≡ ls
body_again ls above = ap above_last (lines_again ls above) ∙ above_whole ls

pub end_again : (ls : List (List ℕ)) → list_all (are_above 10) ls ≡ true → has_end (flat_map ended ls ++ ended (codes "end")) ≡ true
end_again ls above = ap (ends false) (lines_again ls above) ∙ ends_whole ls false
