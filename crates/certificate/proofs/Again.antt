-- The line that says something is read again.
use Rattle.std.proofs.Common.{◌≡◌, ℕ, suc, ℤ, pos, Bool, true, false, ◌&&◌, ◌||◌, int_le, int_lt, List, [], ◌∷◌, ◌++◌, length}
use Rattle.std.proofs.Common.{drop, nat_le, Ok, refl, ap, ◌∙◌, arith, decimal}
use Rattle.std.specs.List.{flat_map, list_all}
use Rattle.std.specs.Ordering.{int_eq}
use Rattle.std.specs.Fmt.{signed_decimal}
use Rattle.std.proofs.lemmas.Bool.{and_parts}
use Rattle.std.proofs.lemmas.Int.{ints}
use Rattle.std.proofs.lemmas.List.{append-nil}
use Rattle.domain.specs.Interval.{Interval}
use Rattle.domain.specs.Facts.{Fact as VariableFact, Path, Span}
use Rattle.domain.specs.Facts.{Range, Defined, Order, Grows}
use Rattle.domain.specs.Versions.{has, most_spans}
use Rattle.domain.specs.declared.versions.Extension.TheVariants.{Boxes}
use Rattle.domain.specs.declared.versions.Version.{Version}
use Rattle.text_lines.specs.Lines.{lines}
use Rattle.text_lines.proofs.Bytes.{above_append, are_above}
use Rattle.text_lines.proofs.Parting.{blank_found, blank_missed, drop_past, word_before}
use Rattle.text_lines.proofs.TextLines.{lines_at}
use Rattle.certificate.specs.Bounds.{bound_words, span_words}
use Rattle.certificate.specs.declared.AliasPair.{AliasPair}
use Rattle.certificate.specs.Building.{is_content, said_line}
use Rattle.certificate.specs.Contents.{is_claim, is_constant, is_fact, is_path, is_plain, is_small, is_span}
use Rattle.certificate.specs.Lines.{ClaimLine, Alias, Change, Entry, Exit, Fact, Content, Block, Loop, Claimed, claim_of, claim_words, pair_of}
use Rattle.certificate.specs.Lines.{defined_at, defined_fact, fact_of, fact_words, line_of, order_fact, range_fact, range_of}
use Rattle.certificate.specs.Lines.{reading, spanned_fact}
use Rattle.certificate.specs.Paths.{path_words}
use Rattle.certificate.specs.Words.{variable}
use Rattle.certificate.proofs.GrowthLaws.{grow_above, grow_again}
use Rattle.certificate.proofs.SpanLaws.{spans_above, spans_again}
use Rattle.certificate.proofs.Numerals.{constant_again}
use Rattle.certificate.proofs.PathLaws.{path_above, path_again}
use Rattle.certificate.proofs.WordLaws.{constant_above, number_above, number_again}
use Rattle.certificate.proofs.WordLaws.{parted_again, variable_above}

-- ---- facts

both_below : (first last : ℤ) → int_lt last first ≡ true → int_le first last ≡ true → ⊥
both_below first last less low = grind (arith, ints)

range_again : (path : Path) (first last : ℤ) (less one below : Bool) → int_lt last first ≡ less → (int_eq first (pos 1) && int_eq last (pos 0)) ≡ one
    → int_le first last ≡ below → (below || one) ≡ true
    → range_of (path, (first, last)) ≡ Ok (Range path (record { first = first; last = last }))
range_again path first last true true below less one low plain =
    let ends = and_parts (int_eq first (pos 1)) (int_eq last (pos 0)) one in
    let first_is : first ≡ pos 1 = grind (arith, ints) in
    let last_is : last ≡ pos 0 = grind (arith, ints) in
    rw (first_is, last_is) refl
range_again path first last true false true less one low plain = absurd (both_below first last less low)
range_again path first last true false false less one low plain = absurd cc
range_again path first last false one below less one_is low plain = rw less refl

range_fact_again : (version : Version) (path : Path) (range : Interval) → is_fact version (Range path range) ≡ true
    → range_fact (path_words path ++ 32 ∷ (signed_decimal range.first ++ 32 ∷ signed_decimal range.last)) ≡ Ok (Range path range)
range_fact_again version path range fits =
    let right = and_parts (is_path true path) _ fits in
    let low = and_parts (is_constant range.first) _ right.1 in
    let high = and_parts (is_constant range.last) (is_plain range) low.1 in
    rw (
      parted_again (path_words path) (signed_decimal range.first ++ 32 ∷ signed_decimal range.last) (path_above true 32 path (omega arith) right.0),
      parted_again (signed_decimal range.first) (signed_decimal range.last) (constant_above 32 range.first (omega arith) low.0),
      path_again true path right.0,
      constant_again range.first low.0,
      constant_again range.last high.0,
    )
    (range_again path range.first range.last _ _ _ refl refl refl high.1)

defined_again : (version : Version) (path : Path) (spans : List Span) → is_fact version (Defined path spans) ≡ true
    → defined_fact version (path_words path ++ flat_map span_words spans) ≡ Ok (Defined path spans)
defined_again version path [] fits =
    let elements = has version Boxes in
    let right = (and_parts (is_path elements path) _ fits).0 in
    ap (defined_fact version) (append-nil (path_words path))
    ∙ ap (defined_at version (path_words path)) (blank_missed (path_words path) (path_above elements 32 path (omega arith) right))
    ∙ rw (path_again elements path right) refl
defined_again version path (span ∷ more) fits =
    let elements = has version Boxes in
    let right = and_parts (is_path elements path) _ fits in
    let spans = (bound_words span.first ++ 32 ∷ bound_words span.last) ++ flat_map span_words more in
    ap (defined_at version (path_words path ++ 32 ∷ spans)) (blank_found (path_words path) spans (path_above elements 32 path (omega arith) right.0))
    ∙ ap (λ word. spanned_fact version word (drop (suc (length (path_words path))) (path_words path ++ 32 ∷ spans))) (word_before (path_words path) spans)
    ∙ ap (spanned_fact version (path_words path)) (drop_past (path_words path) spans)
    ∙ rw (path_again elements path right.0, spans_again version span more right.1) refl

order_fact_again : (version : Version) (root other : ℕ) (number : ℤ) → is_fact version (Order root other number) ≡ true
    → order_fact (variable root ++ 32 ∷ (variable other ++ 32 ∷ signed_decimal number)) ≡ Ok (Order root other number)
order_fact_again version root other number fits =
    let small = and_parts (is_small root) _ fits in
    let bound = and_parts (is_small other) (is_constant number) small.1 in
    rw (
      parted_again (variable root) (variable other ++ 32 ∷ signed_decimal number) (variable_above 32 root (omega arith) small.0),
      parted_again (variable other) (signed_decimal number) (variable_above 32 other (omega arith) bound.0),
      number_again root small.0,
      number_again other bound.0,
      constant_again number bound.1,
    ) refl

fact_again : (version : Version) (fact : VariableFact) → is_fact version fact ≡ true → fact_of version (fact_words fact) ≡ Ok fact
fact_again version (Range path range) fits = range_fact_again version path range fits
fact_again version (Defined path spans) fits = defined_again version path spans fits
fact_again version (Order root other number) fits = order_fact_again version root other number fits
fact_again version (Grows root growth) fits = grow_again version root growth fits

pair_again : (version : Version) (pair : AliasPair) → is_claim version (Alias pair) ≡ true
    → pair_of (variable pair.first ++ 32 ∷ variable pair.second) ≡ Ok pair
pair_again version pair fits =
    let small = and_parts (is_small pair.first) (is_small pair.second) fits in
    rw (
      parted_again (variable pair.first) (variable pair.second) (variable_above 32 pair.first (omega arith) small.0),
      number_again pair.first small.0,
      number_again pair.second small.1,
    ) refl

claim_again : (version : Version) (claim : ClaimLine) → is_claim version claim ≡ true → claim_of version (claim_words claim) ≡ Ok claim
claim_again version (Alias pair) fits = rw (pair_again version pair fits) refl
claim_again version (Change root) fits = rw (number_again root fits) refl
claim_again version (Entry fact) fits = rw (fact_again version fact fits) refl
claim_again version (Exit fact) fits = rw (fact_again version fact fits) refl
claim_again version (Fact fact) fits = rw (fact_again version fact fits) refl

-- no claim's line is a heading's
claimed_again : (version : Version) (claim : ClaimLine) → is_claim version claim ≡ true → reading version (claim_words claim) ≡ Ok (Claimed claim)
claimed_again version (Alias pair) fits = rw (claim_again version (Alias pair) fits) refl
claimed_again version (Change root) fits = rw (claim_again version (Change root) fits) refl
claimed_again version (Entry fact) fits = rw (claim_again version (Entry fact) fits) refl
claimed_again version (Exit fact) fits = rw (claim_again version (Exit fact) fits) refl
claimed_again version (Fact fact) fits = rw (claim_again version (Fact fact) fits) refl

-- a line that says something is read as that
pub line_again : (version : Version) (content : Content) → is_content version content ≡ true → reading version (line_of content) ≡ Ok content
line_again version (Block number) fits = rw (number_again number fits) refl
line_again version (Loop number) fits = rw (number_again number fits) refl
line_again version (Claimed claim) fits = claimed_again version claim fits

-- ---- lines

fact_above : (version : Version) (fact : VariableFact) → is_fact version fact ≡ true → are_above 10 (fact_words fact) ≡ true
fact_above version (Range path range) fits =
    let right = and_parts (is_path true path) _ fits in
    let low = and_parts (is_constant range.first) _ right.1 in
    let high = and_parts (is_constant range.last) (is_plain range) low.1 in
    above_append 10 (path_words path) _ (path_above true 10 path (omega arith) right.0)
    (above_append 10 (signed_decimal range.first) _ (constant_above 10 range.first (omega arith) low.0) (constant_above 10 range.last (omega arith) high.0))
fact_above version (Defined path spans) fits =
    let elements = has version Boxes in
    let right = and_parts (is_path elements path) _ fits in
    let few = and_parts (nat_le (length spans) (most_spans version)) (list_all is_span spans) right.1 in
    above_append 10 (path_words path) _ (path_above elements 10 path (omega arith) right.0) (spans_above 10 spans (omega arith) few.1)
fact_above version (Order root other number) fits =
    let small = and_parts (is_small root) _ fits in
    let bound = and_parts (is_small other) (is_constant number) small.1 in
    above_append 10 (decimal root) _ (number_above 10 root (omega arith) small.0)
    (above_append 10 (decimal other) _ (number_above 10 other (omega arith) bound.0) (constant_above 10 number (omega arith) bound.1))
fact_above version (Grows root growth) fits = grow_above version root growth fits

claim_above : (version : Version) (claim : ClaimLine) → is_claim version claim ≡ true → are_above 10 (claim_words claim) ≡ true
claim_above version (Alias pair) fits =
    let small = and_parts (is_small pair.first) (is_small pair.second) fits in
    above_append 10 (decimal pair.first) _ (number_above 10 pair.first (omega arith) small.0) (number_above 10 pair.second (omega arith) small.1)
claim_above version (Change root) fits = number_above 10 root (omega arith) fits
claim_above version (Entry fact) fits = fact_above version fact fits
claim_above version (Exit fact) fits = fact_above version fact fits
claim_above version (Fact fact) fits = fact_above version fact fits

line_above : (version : Version) (content : Content) → is_content version content ≡ true → are_above 10 (line_of content) ≡ true
line_above version (Block number) fits = number_above 10 number (omega arith) fits
line_above version (Loop number) fits = number_above 10 number (omega arith) fits
line_above version (Claimed claim) fits = claim_above version claim fits

-- a text that begins with a line that says something
pub line_at : (version : Version) (content : Content) (rest : List ℕ) → is_content version content ≡ true
    → lines (line_of content ++ 10 ∷ rest) ≡ said_line content ∷ lines rest
line_at version content rest fits = lines_at (line_of content) rest (line_above version content fits)
