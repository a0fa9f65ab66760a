-- Spans, and their words.
use Rattle.std.proofs.Common.{◌≡◌, ℕ, zero, suc, ◌<◌, Bool, true, ◌&&◌, ◌==◌, List, [], ◌∷◌, ◌++◌, length, take, drop, Option, Some, None}
use Rattle.std.proofs.Common.{append_assoc, Result, Ok, Err, nat_le, refl, sym, ap, subst, ◌∙◌, arith}
use Rattle.std.specs.Bool.{if◌then◌else◌}
use Rattle.std.specs.List.{flat_map, list_all, position}
use Rattle.std.proofs.lemmas.Bool.{and_from, and_parts}
use Rattle.std.proofs.lemmas.Bool.Decides.{nat_tests}
use Rattle.std.proofs.lemmas.List.{append-nil}
use Rattle.domain.specs.Facts.{Bound, Span}
use Rattle.domain.specs.Versions.{has, most_spans}
use Rattle.domain.specs.declared.versions.Extension.TheVariants.{Blocks}
use Rattle.domain.specs.declared.versions.Version.{Version}
use Rattle.text_lines.proofs.Bytes.{above_append, are_above, byte_above}
use Rattle.text_lines.proofs.Parting.{blank_found, blank_missed, drop_past, front_part, word_before}
use Rattle.certificate.specs.declared.words.LineFault.{LineFault}
use Rattle.certificate.specs.declared.words.LineFault.TheVariants.{NotInGrammar, OutOfRange}
use Rattle.certificate.specs.Bounds.{bound_of, bound_words, span_of, span_words, spans_at, spans_of, span_and, spans_up_to}
use Rattle.certificate.specs.Contents.{are_spans, is_bound, is_span}
use Rattle.certificate.specs.Words.{both, parted}
use Rattle.certificate.proofs.Numerals.{bound_ok, ok_is}
use Rattle.certificate.proofs.WordLaws.{both_ok, parted_again}
use Rattle.certificate.proofs.WordLaws.{parted_spelled}
use Rattle.certificate.proofs.BoundLaws.{bound_above, bound_again, bound_spelled}

span_spelled : (first last : List ℕ) (span : Span) → span_of first last ≡ Ok span
    → (32 ∷ (first ++ 32 ∷ last) ≡ span_words span) × (is_span span ≡ true)
span_spelled first last span e =
    let made : Bound × Bound → Result Span LineFault = λ bounds. Ok (record { first = bounds.0; last = bounds.1 }) in
    let bounds = bound_ok (both (bound_of first) (bound_of last)) made span e in
    let two = both_ok (bound_of first) (bound_of last) bounds.0.0 bounds.0.1 bounds.1 in
    let low = bound_spelled first bounds.0.0 two.0 in
    let high = bound_spelled last bounds.0.1 two.1 in
    let whole = ap (λ front. 32 ∷ (front ++ 32 ∷ last)) low.0 ∙ ap (λ rest. 32 ∷ (bound_words bounds.0.0 ++ 32 ∷ rest)) high.0 in
    subst (λ span. (32 ∷ (first ++ 32 ∷ last) ≡ span_words span) × (is_span span ≡ true))
    (ok_is (record { first = bounds.0.0; last = bounds.0.1 }) span bounds.2) (whole, and_from _ _ low.1 high.1)

pub spans_by : (version : Version) (words : List ℕ) (blocks : Bool) → has version Blocks ≡ blocks
    → spans_of version words ≡ spans_up_to (if blocks then 2 else 1) words
spans_by version words blocks is = ap (λ blocks. spans_up_to (if blocks then 2 else 1) words) is

pub spans_cut : (most : ℕ) (words first rest : List ℕ) (end : ℕ) → parted words ≡ Ok (first, rest) → position (λ byte. byte == 32) rest ≡ Some end
    → spans_up_to (suc most) words ≡ span_and (span_of first (take end rest)) (spans_up_to most (drop (suc end) rest))
spans_cut most words first rest end cut found = rw cut (ap (spans_at (spans_up_to most) first rest) found)

behind_wrong : (span : Result Span LineFault) → span_and span (Err NotInGrammar) ≡ Err NotInGrammar
behind_wrong (Ok span) = refl
behind_wrong (Err NotInGrammar) = refl
behind_wrong (Err OutOfRange) = refl

-- more words than two are no span
pub too_many : (words first rest : List ℕ) (end : ℕ) → parted words ≡ Ok (first, rest) → position (λ byte. byte == 32) rest ≡ Some end
    → Err NotInGrammar ≡ spans_up_to 1 words
too_many words first rest end cut found =
    sym (spans_cut 0 words first rest end cut found ∙ behind_wrong (span_of first (take end rest)))

-- spans with these words, the first blank aside, are at most a number of spans, and right
abbrev Told : ℕ → (words : List ℕ) → List Span → Type 0
Told most words spans = (32 ∷ words ≡ flat_map span_words spans) × ((nat_le (length spans) most && list_all is_span spans) ≡ true)

one_few : (most : ℕ) → nat_le 1 (suc most) ≡ true
one_few most = grind (arith, nat_tests)

more_few : (n most : ℕ) → nat_le n most ≡ true → nat_le (suc n) (suc most) ≡ true
more_few n most few = grind (arith, nat_tests)

at_spelled : (most : ℕ) (first rest : List ℕ) (o : Option ℕ) (spans : List Span)
    → ((words : List ℕ) (spans : List Span) → spans_up_to most words ≡ Ok spans → Told most words spans)
    → position (λ byte. byte == 32) rest ≡ o → spans_at (spans_up_to most) first rest o ≡ Ok spans → Told (suc most) (first ++ 32 ∷ rest) spans
at_spelled most first rest None spans others is e =
    let one = bound_ok (span_of first rest) (λ span. Ok (span ∷ [])) spans e in
    let told = span_spelled first rest one.0 one.1 in
    subst (Told (suc most) (first ++ 32 ∷ rest)) (ok_is (one.0 ∷ []) spans one.2)
    (told.0 ∙ sym (append-nil (span_words one.0)), and_from _ _ (one_few most) (and_from (is_span one.0) true told.1 refl))
at_spelled most first rest (Some end) spans others is e =
    let last = take end rest in
    let more = drop (suc end) rest in
    let made : Span × List Span → Result (List Span) LineFault = λ parts. Ok (parts.0 ∷ parts.1) in
    let parts = bound_ok (both (span_of first last) (spans_up_to most more)) made spans e in
    let two = both_ok (span_of first last) (spans_up_to most more) parts.0.0 parts.0.1 parts.1 in
    let one = span_spelled first last parts.0.0 two.0 in
    let told = others more parts.0.1 two.1 in
    let few = and_parts (nat_le (length parts.0.1) most) (list_all is_span parts.0.1) told.1 in
    let whole = ap (λ text. 32 ∷ (first ++ 32 ∷ text)) (front_part rest (Some end) last more is refl)
    ∙ ap (λ text. 32 ∷ text) (sym (append_assoc first (32 ∷ last) (32 ∷ more)))
    ∙ ap (λ front. front ++ 32 ∷ more) one.0 ∙ ap (λ back. span_words parts.0.0 ++ back) told.0 in
    subst (Told (suc most) (first ++ 32 ∷ rest)) (ok_is (parts.0.0 ∷ parts.0.1) spans parts.2)
    (whole, and_from _ _ (more_few (length parts.0.1) most few.0) (and_from _ _ one.1 few.1))

up_to_spelled : (most : ℕ) (words : List ℕ) (spans : List Span) → spans_up_to most words ≡ Ok spans → Told most words spans
up_to_spelled zero words spans e = absurd cc
up_to_spelled (suc most) words spans e =
    let ends = bound_ok (parted words) (λ ends. spans_at (spans_up_to most) ends.0 ends.1 (position (λ byte. byte == 32) ends.1)) spans e in
    let told = at_spelled most ends.0.0 ends.0.1 _ spans (up_to_spelled most) refl ends.2 in
    (ap (λ text. 32 ∷ text) (parted_spelled words ends.0.0 ends.0.1 ends.1) ∙ told.0, told.1)

-- words that say spans are those of these spans, but for the first blank
pub spans_spelled : (version : Version) (words : List ℕ) (spans : List Span) → spans_of version words ≡ Ok spans
    → (32 ∷ words ≡ flat_map span_words spans) × (are_spans version spans ≡ true)
spans_spelled version words spans e = up_to_spelled (most_spans version) words spans e

span_again : (span : Span) → is_span span ≡ true → span_of (bound_words span.first) (bound_words span.last) ≡ Ok span
span_again span fits =
    let ends = and_parts (is_bound span.first) (is_bound span.last) fits in
    rw (bound_again span.first ends.0, bound_again span.last ends.1) refl

not_none : (n : ℕ) → nat_le (suc n) 0 ≡ true → ⊥
not_none n few = grind (arith, nat_tests)

fewer : (n most : ℕ) → nat_le (suc n) (suc most) ≡ true → nat_le n most ≡ true
fewer n most few = grind (arith, nat_tests)

up_to_again : (most : ℕ) (span : Span) (more : List Span) → (nat_le (length (span ∷ more)) most && list_all is_span (span ∷ more)) ≡ true
    → spans_up_to most ((bound_words span.first ++ 32 ∷ bound_words span.last) ++ flat_map span_words more) ≡ Ok (span ∷ more)
up_to_again zero span more fits =
    absurd (not_none (length more) (and_parts (nat_le (length (span ∷ more)) 0) (list_all is_span (span ∷ more)) fits).0)
up_to_again (suc most) span [] fits =
    let right = (and_parts (is_span span) true (and_parts (nat_le 1 (suc most)) (list_all is_span (span ∷ [])) fits).1).0 in
    let ends = and_parts (is_bound span.first) (is_bound span.last) right in
    let first = bound_words span.first in
    let last = bound_words span.last in
    ap (spans_up_to (suc most)) (append-nil (first ++ 32 ∷ last))
    ∙ rw (
      parted_again first last (bound_above 32 span.first (omega arith) ends.0),
      blank_missed last (bound_above 32 span.last (omega arith) ends.1),
      span_again span right,
    ) refl
up_to_again (suc most) span (other ∷ more) fits =
    let few = and_parts (nat_le (suc (length (other ∷ more))) (suc most)) (list_all is_span (span ∷ other ∷ more)) fits in
    let right = and_parts (is_span span) (list_all is_span (other ∷ more)) few.1 in
    let ends = and_parts (is_bound span.first) (is_bound span.last) right.0 in
    let first = bound_words span.first in
    let last = bound_words span.last in
    let rest = (bound_words other.first ++ 32 ∷ bound_words other.last) ++ flat_map span_words more in
    ap (spans_up_to (suc most)) (append_assoc first (32 ∷ last) (32 ∷ rest))
    ∙ rw (
      parted_again first (last ++ 32 ∷ rest) (bound_above 32 span.first (omega arith) ends.0),
      blank_found last rest (bound_above 32 span.last (omega arith) ends.1),
      word_before last rest,
      drop_past last rest,
      span_again span right.0,
      up_to_again most other more (and_from _ _ (fewer (length (other ∷ more)) most few.0) right.1),
    ) refl

-- the words of spans say these spans
pub spans_again : (version : Version) (span : Span) (more : List Span) → are_spans version (span ∷ more) ≡ true
    → spans_of version ((bound_words span.first ++ 32 ∷ bound_words span.last) ++ flat_map span_words more) ≡ Ok (span ∷ more)
spans_again version span more fits = up_to_again (most_spans version) span more fits

pub spans_above : (limit : ℕ) (spans : List Span) → limit < 32 → list_all is_span spans ≡ true → are_above limit (flat_map span_words spans) ≡ true
spans_above limit [] low fits = refl
spans_above limit (span ∷ more) low fits =
    let parts = and_parts (is_span span) (list_all is_span more) fits in
    let ends = and_parts (is_bound span.first) (is_bound span.last) parts.0 in
    let blank = byte_above limit 32 low in
    above_append limit (span_words span) (flat_map span_words more)
    (and_from _ _ blank (above_append limit (bound_words span.first) _ (bound_above limit span.first (omega arith) ends.0)
    (and_from _ _ blank (bound_above limit span.last (omega arith) ends.1))))
    (spans_above limit more low parts.1)
