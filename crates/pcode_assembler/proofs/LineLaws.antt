-- The lines of a text between its first and its last: each is read as it is spelled.
use Rattle.std.proofs.Common.{◌≡◌, ℕ, ◌^◌, ◌<◌, ◌≤◌, Bool, true, false, cond, ◌&&◌, nat_le, List, [], ◌∷◌, ◌++◌, Option, Some, None}
use Rattle.std.proofs.Common.{refl, sym, ap, subst, ◌∙◌, arith, decimal, codes}
use Rattle.std.specs.Bool.{if◌then◌else◌}
use Rattle.std.specs.List.{find, list_all}
use Rattle.text_lines.specs.Numerals.{natural}
use Rattle.text_lines.specs.Words.{parted}
use Rattle.text_lines.proofs.Bytes.{above_append, are_above}
use Rattle.text_lines.proofs.Digits.{decimal_above}
use Rattle.text_lines.proofs.Parting.{parted-again, parted-spelled, some_is}
use Rattle.std.specs.Option.{option_map}
use Rattle.std.specs.Str.{bytes_eq}
use Rattle.std.proofs.lemmas.Bool.{and_from, and_parts}
use Rattle.std.proofs.lemmas.Bool.Decides.{nat_tests}
use Rattle.std.proofs.lemmas.List.{append-nil}
use Rattle.std.proofs.lemmas.Slice.Eq.{bytes_eq-Decides}
use Rattle.pcode_assembler.specs.declared.content.Content.{Content}
use Rattle.pcode_assembler.specs.declared.content.Content.TheVariants as content
use Rattle.pcode_assembler.specs.declared.content.LineWord.{LineWord}
use Rattle.pcode_assembler.specs.declared.content.LineWord.TheVariants as word
use Rattle.pcode_assembler.specs.declared.instr.Instr.{Instr}
use Rattle.pcode_assembler.specs.Lines.{alone, before_blank, column_and_kind, content_at, content_of, fits, is_instruction_word, is_place}
use Rattle.pcode_assembler.specs.Lines.{kind_of, known_word, line_of, line_word, part_of, part_of_word, place, site, with_words, words_behind}
use Rattle.pcode_assembler.specs.Table.{operand_words, template, templates, word_of}
use Rattle.pcode_assembler.specs.Table.{with_words as instruction_with}
use Rattle.pcode_assembler.specs.Words.{both, positive}
use Rattle.pcode_assembler.specs.Writable.{is_kind}
use Rattle.pcode_assembler.proofs.Instructions.{alone_written, instruction_again, operands_above, word_above, written}
use Rattle.pcode_assembler.proofs.Numerals.{mapped, positive-again, positive-spelled}
use Rattle.pcode_assembler.proofs.Parting.{both-again, both-spelled, le_true, nat_above, nat_again, nat_spelled}

between : (n limit : ℕ) → (nat_le 1 n && nat_le n limit) ≡ true → (1 ≤ n) × (n ≤ limit)
between n limit is =
    let parts = and_parts (nat_le 1 n) (nat_le n limit) is in
    (grind (arith, nat_tests, parts), grind (arith, nat_tests, parts))

between_from : (n limit : ℕ) → 1 ≤ n → n ≤ limit → (nat_le 1 n && nat_le n limit) ≡ true
between_from n limit low high = and_from (nat_le 1 n) (nat_le n limit) (le_true 1 n low) (le_true n limit high)

from_one_again : (limit n : ℕ) → (nat_le 1 n && nat_le n limit) ≡ true → limit < 2 ^ 64 → positive limit (decimal n) ≡ Some n
from_one_again limit n is small = let ends = between n limit is in positive-again limit n ends.0 ends.1 (omega (arith, ends.1))

from_one_above : (floor limit n : ℕ) → floor < 48 → (nat_le 1 n && nat_le n limit) ≡ true → limit < 2 ^ 64 → are_above floor (decimal n) ≡ true
from_one_above floor limit n low is small = let ends = between n limit is in decimal_above floor n low (omega (arith, ends.1))

from_one_spelled : (limit : ℕ) (w : List ℕ) (n : ℕ) → positive limit w ≡ Some n → limit < 2 ^ 64 → (w ≡ decimal n) × ((nat_le 1 n && nat_le n limit) ≡ true)
from_one_spelled limit w n e small =
    let spelled = positive-spelled limit w n e small in (spelled.0, between_from n limit spelled.1 spelled.2)

-- ---- what is spelled is read

-- whether a line is an instruction's
abbrev pub is_code : Content → Bool
is_code (content.Instruction i) = true
is_code _ = false

-- a line is read as what it says
pub record IsReadBack (said : Content) : Type 0 where
  pub first : LineWord
  pub known : line_word (line_of said) ≡ Some first
  pub part_is : part_of_word first ≡ part_of said
  pub code_is : is_instruction_word (Some first) ≡ is_code said
  pub says : content_of first (line_of said) ≡ Some said

word_again : (first text : List ℕ) (w : LineWord) (said : Content) → are_above 32 first ≡ true → known_word first ≡ Some w
    → with_words w text ≡ Some said → line_of said ≡ first ++ 32 ∷ text → part_of_word w ≡ part_of said
    → is_instruction_word (Some w) ≡ is_code said → IsReadBack said
word_again first text w said above known says line_is part_is code_is =
    let blank = ap parted line_is ∙ parted-again first text above in record {
      first = w;
      known = ap (λ o. known_word (before_blank (line_of said) o)) blank ∙ known;
      part_is = part_is;
      code_is = code_is;
      says = ap (content_at w) blank ∙ says;
    }

pub line_again : (said : Content) → fits said ≡ true → IsReadBack said
line_again (content.Site line column kind) fit =
    let a = and_parts (is_place line) (is_place column && is_kind kind) fit in
    let b = and_parts (is_place column) (is_kind kind) a.1 in
    word_again (codes "site") (decimal line ++ 32 ∷ (decimal column ++ 32 ∷ decimal kind)) word.Site (content.Site line column kind) refl refl
    (ap (option_map (λ p. content.Site p.0 p.1.0 p.1.1))
    (both-again (positive 1048576) column_and_kind (decimal line) (decimal column ++ 32 ∷ decimal kind) line (column, kind)
    (from_one_above 32 1048576 line (omega arith) a.0 (omega arith)) (from_one_again 1048576 line a.0 (omega arith))
    (both-again (positive 1048576) kind_of (decimal column) (decimal kind) column kind
    (from_one_above 32 1048576 column (omega arith) b.0 (omega arith)) (from_one_again 1048576 column b.0 (omega arith))
    (from_one_again 13 kind b.1 (omega arith))))) refl refl refl
line_again (content.Point line column) fit =
    let a = and_parts (is_place line) (is_place column) fit in
    word_again (codes "point") (decimal line ++ 32 ∷ decimal column) word.Point (content.Point line column) refl refl
    (ap (option_map (λ p. content.Point p.0 p.1))
    (both-again (positive 1048576) (positive 1048576) (decimal line) (decimal column) line column
    (from_one_above 32 1048576 line (omega arith) a.0 (omega arith)) (from_one_again 1048576 line a.0 (omega arith))
    (from_one_again 1048576 column a.1 (omega arith)))) refl refl refl
line_again (content.Label number) fit =
    word_again (codes "label") (decimal number) word.Label (content.Label number) refl refl
    (ap (option_map content.Label) (nat_again 999999 number fit (omega arith))) refl refl refl
line_again (content.Instruction i) fit =
    let again = instruction_again i fit in record {
      first = word.Instruction again.template;
      known = again.known;
      part_is = refl;
      code_is = refl;
      says = again.said;
    }

-- ---- the bytes of a line

words_above : (words : List (List ℕ)) → list_all (are_above 10) words ≡ true → are_above 10 (words_behind words) ≡ true
words_above [] all = refl
words_above (w ∷ []) all = (and_parts (are_above 10 w) true all).0
words_above (w ∷ next ∷ more) all =
    let parts = and_parts (are_above 10 w) (list_all (are_above 10) (next ∷ more)) all in
    above_append 10 w (words_behind (next ∷ more)) parts.0 (words_above (next ∷ more) parts.1)

pub line_above : (said : Content) → fits said ≡ true → are_above 10 (line_of said) ≡ true
line_above (content.Site line column kind) fit =
    let a = and_parts (is_place line) (is_place column && is_kind kind) fit in
    let b = and_parts (is_place column) (is_kind kind) a.1 in
    words_above (decimal line ∷ decimal column ∷ decimal kind ∷ [])
    (and_from _ _ (from_one_above 10 1048576 line (omega arith) a.0 (omega arith))
    (and_from _ _ (from_one_above 10 1048576 column (omega arith) b.0 (omega arith))
    (and_from _ _ (from_one_above 10 13 kind (omega arith) b.1 (omega arith)) refl)))
line_above (content.Point line column) fit =
    let a = and_parts (is_place line) (is_place column) fit in
    words_above (decimal line ∷ decimal column ∷ [])
    (and_from _ _ (from_one_above 10 1048576 line (omega arith) a.0 (omega arith))
    (and_from _ _ (from_one_above 10 1048576 column (omega arith) a.1 (omega arith)) refl))
line_above (content.Label number) fit = nat_above 10 999999 number (omega arith) fit (omega arith)
line_above (content.Instruction i) fit = above_append 10 (word_of i) (words_behind (operand_words i)) (word_above i) (words_above (operand_words i)
    (operands_above i fit))

-- ---- what is read is spelled so

-- a word of lines is spelled so
abbrev IsWordOf : List ℕ → LineWord → Type 0
IsWordOf first word.Site = first ≡ codes "site"
IsWordOf first word.Point = first ≡ codes "point"
IsWordOf first word.Label = first ≡ codes "label"
IsWordOf first (word.Instruction t) = first ≡ word_of t

found_passes : (test : Instr → Bool) (i t : Instr) (rest : Option Instr) (passes : Bool) → test i ≡ passes → cond passes (Some i) rest ≡ Some t
    → (rest ≡ Some t → test t ≡ true) → test t ≡ true
found_passes test i t rest true is e more = subst (λ (j : Instr). test j ≡ true) (some_is i t e) is
found_passes test i t rest false is e more = more e

passes : (test : Instr → Bool) (is : List Instr) (t : Instr) → find test is ≡ Some t → test t ≡ true
passes test [] t e = absurd cc
passes test (i ∷ is) t e = found_passes test i t (find test is) (test i) refl e (passes test is t)

template_is : (first : List ℕ) (t : Instr) → template first ≡ Some t → first ≡ word_of t
template_is first t e = sym ((bytes_eq-Decides (word_of t) first).0 (passes (λ i. bytes_eq (word_of i) first) templates t e))

template_word : (first : List ℕ) (w : LineWord) → option_map word.Instruction (template first) ≡ Some w → IsWordOf first w
template_word first w e =
    let found = mapped word.Instruction (template first) w e in
    subst (IsWordOf first) found.2 (template_is first found.0 found.1)

known_test : (first : List ℕ) (is_site is_point is_label : Bool) (w : LineWord) → bytes_eq first (codes "site") ≡ is_site
    → bytes_eq first (codes "point") ≡ is_point → bytes_eq first (codes "label") ≡ is_label
    → (if is_site then Some word.Site else if is_point then Some word.Point else if is_label then Some word.Label
    else option_map word.Instruction (template first)) ≡ Some w
    → IsWordOf first w
known_test first true is_point is_label w s p l e = subst (IsWordOf first) (some_is word.Site w e) ((bytes_eq-Decides first (codes "site")).0 s)
known_test first false true is_label w s p l e = subst (IsWordOf first) (some_is word.Point w e) ((bytes_eq-Decides first (codes "point")).0 p)
known_test first false false true w s p l e = subst (IsWordOf first) (some_is word.Label w e) ((bytes_eq-Decides first (codes "label")).0 l)
known_test first false false false w s p l e = template_word first w e

known_is : (first : List ℕ) (w : LineWord) → known_word first ≡ Some w → IsWordOf first w
known_is first w e = known_test first _ _ _ w refl refl refl e

-- a line is spelled as what it says
pub record IsSpelled (line : List ℕ) (w : LineWord) (said : Content) : Type 0 where
  pub line_is : line ≡ line_of said
  pub fit : fits said ≡ true
  pub part_is : part_of said ≡ part_of_word w

blank_between : (words u v first second : List ℕ) → words ≡ u ++ 32 ∷ v → u ≡ first → v ≡ second → words ≡ first ++ 32 ∷ second
blank_between words u v first second is u_is v_is = is ∙ ap (λ w. w ++ 32 ∷ v) u_is ∙ ap (λ w. first ++ 32 ∷ w) v_is

site_spelled : (line words : List ℕ) (said : Content) → line ≡ codes "site" ++ 32 ∷ words → site words ≡ Some said → IsSpelled line word.Site said
site_spelled line words said line_is e =
    let found = mapped (λ p. content.Site p.0 p.1.0 p.1.1) (both (positive 1048576) column_and_kind words) said e in
    let l = found.0.0 in
    let c = found.0.1.0 in
    let k = found.0.1.1 in
    let parts = both-spelled (positive 1048576) column_and_kind words l (c, k) found.1 in
    let rest = both-spelled (positive 1048576) kind_of parts.1 c k parts.4 in
    let a = from_one_spelled 1048576 parts.0 l parts.3 (omega arith) in
    let b = from_one_spelled 1048576 rest.0 c rest.3 (omega arith) in
    let d = from_one_spelled 13 rest.1 k rest.4 (omega arith) in
    subst (IsSpelled line word.Site) found.2 (record {
      line_is = line_is ∙ ap (λ w. codes "site" ++ 32 ∷ w)
          (blank_between words parts.0 parts.1 (decimal l) (decimal c ++ 32 ∷ decimal k) parts.2 a.0
          (blank_between parts.1 rest.0 rest.1 (decimal c) (decimal k) rest.2 b.0 d.0));
      fit = and_from _ _ a.1 (and_from _ _ b.1 d.1);
      part_is = refl;
    })

point_spelled : (line words : List ℕ) (said : Content) → line ≡ codes "point" ++ 32 ∷ words
    → option_map (λ p. content.Point p.0 p.1) (place words) ≡ Some said → IsSpelled line word.Point said
point_spelled line words said line_is e =
    let found = mapped (λ p. content.Point p.0 p.1) (place words) said e in
    let l = found.0.0 in
    let c = found.0.1 in
    let parts = both-spelled (positive 1048576) (positive 1048576) words l c found.1 in
    let a = from_one_spelled 1048576 parts.0 l parts.3 (omega arith) in
    let b = from_one_spelled 1048576 parts.1 c parts.4 (omega arith) in
    subst (IsSpelled line word.Point) found.2 (record {
      line_is = line_is ∙ ap (λ w. codes "point" ++ 32 ∷ w) (blank_between words parts.0 parts.1 (decimal l) (decimal c) parts.2 a.0 b.0);
      fit = and_from _ _ a.1 b.1;
      part_is = refl;
    })

label_spelled : (line words : List ℕ) (said : Content) → line ≡ codes "label" ++ 32 ∷ words
    → option_map content.Label (natural 999999 words) ≡ Some said → IsSpelled line word.Label said
label_spelled line words said line_is e =
    let found = mapped content.Label (natural 999999 words) said e in
    let spelled = nat_spelled 999999 words found.0 found.1 (omega arith) in
    subst (IsSpelled line word.Label) found.2
    (record { line_is = line_is ∙ ap (λ w. codes "label" ++ 32 ∷ w) spelled.0; fit = spelled.1; part_is = refl })

instruction_spelled : (line words : List ℕ) (t : Instr) (said : Content) → line ≡ word_of t ++ 32 ∷ words
    → option_map content.Instruction (instruction_with t words) ≡ Some said → IsSpelled line (word.Instruction t) said
instruction_spelled line words t said line_is e =
    let found = mapped content.Instruction (instruction_with t words) said e in
    let is = written t words found.0 found.1 in
    subst (IsSpelled line (word.Instruction t)) found.2 (record {
      line_is = line_is ∙ ap (λ w. w ++ 32 ∷ words) (sym is.word_is) ∙ ap (λ rest. word_of found.0 ++ rest) (sym is.operands);
      fit = is.fits;
      part_is = refl;
    })

words_spelled : (line first words : List ℕ) (w : LineWord) (said : Content) → line ≡ first ++ 32 ∷ words → IsWordOf first w
    → with_words w words ≡ Some said → IsSpelled line w said
words_spelled line first words word.Site said line_is first_is e = site_spelled line words said (line_is ∙ ap (λ f. f ++ 32 ∷ words) first_is) e
words_spelled line first words word.Point said line_is first_is e = point_spelled line words said (line_is ∙ ap (λ f. f ++ 32 ∷ words) first_is) e
words_spelled line first words word.Label said line_is first_is e = label_spelled line words said (line_is ∙ ap (λ f. f ++ 32 ∷ words) first_is) e
words_spelled line first words (word.Instruction t) said line_is first_is e =
    instruction_spelled line words t said (line_is ∙ ap (λ f. f ++ 32 ∷ words) first_is) e

alone_spelled : (line : List ℕ) (w : LineWord) (said : Content) → IsWordOf line w → alone w ≡ Some said → IsSpelled line w said
alone_spelled line word.Site said line_is e = absurd cc
alone_spelled line word.Point said line_is e = absurd cc
alone_spelled line word.Label said line_is e = absurd cc
alone_spelled line (word.Instruction t) said line_is e =
    let is = alone_written t said e in
    subst (IsSpelled line (word.Instruction t)) (sym is.0) (record {
      line_is = line_is ∙ sym (append-nil (word_of t)) ∙ ap (λ rest. word_of t ++ rest) (sym is.1);
      fit = is.2;
      part_is = refl;
    })

spelled_at : (line : List ℕ) (o : Option (List ℕ × List ℕ)) (w : LineWord) (said : Content) → parted line ≡ o
    → known_word (before_blank line o) ≡ Some w → content_at w o ≡ Some said → IsSpelled line w said
spelled_at line None w said is known e = alone_spelled line w said (known_is line w known) e
spelled_at line (Some parts) w said is known e =
    words_spelled line parts.0 parts.1 w said (parted-spelled line parts.0 parts.1 is) (known_is parts.0 w known) e

pub line_spelled : (line : List ℕ) (w : LineWord) (said : Content) → line_word line ≡ Some w → content_of w line ≡ Some said
    → IsSpelled line w said
line_spelled line w said known e = spelled_at line _ w said refl known e
