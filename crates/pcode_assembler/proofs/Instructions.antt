-- Instructions as the lines of a text: each is read as it is spelled. What is so of operands is said of each form that they
-- have, and what is so of words and bounds is computed for each instruction of the table.
use Rattle.std.proofs.Common.{◌≡◌, ℕ, ◌^◌, ◌<◌, ℤ, pos, Bool, true, false, ◌&&◌, nat_le, nat_lt, List, [], ◌∷◌, ◌++◌, Option, Some, None}
use Rattle.std.proofs.Common.{refl, sym, ap, ◌∙◌, arith, decimal}
use Rattle.std.specs.List.{list_all}
use Rattle.std.specs.Fmt.{signed_decimal}
use Rattle.std.specs.Option.{option_map}
use Rattle.std.proofs.lemmas.Bool.{and_from, and_parts}
use Rattle.std.proofs.lemmas.Bool.Decides.{nat_tests}
use Rattle.std.proofs.lemmas.List.{append-nil}
use Rattle.text_lines.specs.Numerals.{natural}
use Rattle.text_lines.specs.Words.{parted}
use Rattle.text_lines.proofs.Bytes.{are_above}
use Rattle.text_lines.proofs.Parting.{parted-again, some_is}
use Rattle.pcode_assembler.specs.declared.content.Content.{Content}
use Rattle.pcode_assembler.specs.declared.content.Content.TheVariants as content
use Rattle.pcode_assembler.specs.declared.content.LineWord.TheVariants as word
use Rattle.pcode_assembler.specs.declared.instr.Instr.{Instr}
use Rattle.pcode_assembler.specs.declared.instr.Instr.TheVariants as instr
use Rattle.pcode_assembler.specs.declared.table.Shape.{Shape}
use Rattle.pcode_assembler.specs.declared.table.Shape.TheVariants as shape
use Rattle.pcode_assembler.specs.Lines.{before_blank, content_at, content_of, is_number_of_32_bits, is_spellable, known_word, line_of, line_word}
use Rattle.pcode_assembler.specs.Lines.{without_operands, words_behind}
use Rattle.pcode_assembler.specs.Table.{cell, element, in_shape, operand_words, pair, range, shape_of, with_cell, with_natural, with_pair}
use Rattle.pcode_assembler.specs.Table.{with_range, with_small, with_words, word_of}
use Rattle.pcode_assembler.specs.Words.{both, members, number, set_digits}
use Rattle.pcode_assembler.proofs.Numerals.{mapped, number-again, number-spelled, number_above}
use Rattle.pcode_assembler.proofs.Parting.{both-again, both-spelled, nat_above, nat_again, nat_spelled}
use Rattle.pcode_assembler.proofs.Sets.{members-again, members-spelled, set_above}

-- ---- operands of a form

-- the numbers that they are
abbrev Values : Shape → Type 0
Values shape.Nothing = Unit {0}
Values shape.Number = ℤ
Values shape.Members = ℕ
Values (shape.Natural limit) = ℕ
Values (shape.Small limit) = ℕ
Values shape.Cell = ℕ × ℕ
Values (shape.Pair first second) = ℕ × ℕ
Values shape.Element = ℤ × ℕ
Values shape.Range = ℕ × (ℤ × ℤ)

abbrev zeros : (s : Shape) → Values s
zeros shape.Nothing = tt
zeros shape.Number = pos 0
zeros shape.Members = 0
zeros (shape.Natural limit) = 0
zeros (shape.Small limit) = 0
zeros shape.Cell = (0, 0)
zeros (shape.Pair first second) = (0, 0)
zeros shape.Element = (pos 0, 0)
zeros shape.Range = (0, (pos 0, pos 0))

-- the words that spell them
abbrev words_of : (s : Shape) → Values s → List (List ℕ)
words_of shape.Nothing v = []
words_of shape.Number z = signed_decimal z ∷ []
words_of shape.Members m = set_digits m ∷ []
words_of (shape.Natural limit) n = decimal n ∷ []
words_of (shape.Small limit) n = decimal n ∷ []
words_of shape.Cell p = decimal p.0 ∷ decimal p.1 ∷ []
words_of (shape.Pair first second) p = decimal p.0 ∷ decimal p.1 ∷ []
words_of shape.Element p = signed_decimal p.0 ∷ decimal p.1 ∷ []
words_of shape.Range p = decimal p.0 ∷ signed_decimal p.1.0 ∷ signed_decimal p.1.1 ∷ []

abbrev fits : (s : Shape) → Values s → Bool
fits shape.Nothing v = true
fits shape.Number z = is_number_of_32_bits z
fits shape.Members m = nat_lt m (2 ^ 128)
fits (shape.Natural limit) n = nat_le n limit
fits (shape.Small limit) n = nat_le n limit
fits shape.Cell p = nat_le p.0 15 && nat_le p.1 16777215
fits (shape.Pair first second) p = nat_le p.0 first && nat_le p.1 second
fits shape.Element p = nat_le p.1 65536 && is_number_of_32_bits p.0
fits shape.Range p = nat_le p.0 999999 && (is_number_of_32_bits p.1.0 && is_number_of_32_bits p.1.1)

-- the limits of natural numbers are of 64 bits
abbrev is_low : Shape → Bool
is_low (shape.Natural limit) = nat_lt limit (2 ^ 64)
is_low (shape.Small limit) = nat_lt limit (2 ^ 64)
is_low (shape.Pair first second) = nat_lt first (2 ^ 64) && nat_lt second (2 ^ 64)
is_low other = true

-- those that words spell, which are words behind one another without the first blank
abbrev reads : (s : Shape) → List ℕ → Option (Values s)
reads shape.Nothing words = None
reads shape.Number words = number words
reads shape.Members words = members words
reads (shape.Natural limit) words = natural limit words
reads (shape.Small limit) words = natural limit words
reads shape.Cell words = cell words
reads (shape.Pair first second) words = pair first second words
reads shape.Element words = element words
reads shape.Range words = range words

abbrev text_of : List (List ℕ) → List ℕ
text_of [] = []
text_of (first ∷ []) = first
text_of (first ∷ next ∷ more) = first ++ words_behind (next ∷ more)

-- an instruction with them
abbrev filled : (s : Shape) → Instr → Values s → Instr
filled shape.Nothing i v = i
filled shape.Number i z = instr.LoadConstant z
filled shape.Members i m = instr.LoadSet m
filled (shape.Natural limit) i n = with_natural i n
filled (shape.Small limit) i n = with_small i n
filled shape.Cell i p = with_cell i p.0 p.1
filled (shape.Pair first second) i p = with_pair i p.0 p.1
filled shape.Element i p = instr.IndexAddress p.0 p.1
filled shape.Range i p = with_range i p.0 p.1.0 p.1.1

filled_reads : (s : Shape) (i : Instr) (words : List ℕ) → in_shape s i words ≡ option_map (filled s i) (reads s words)
filled_reads shape.Nothing i words = refl
filled_reads other i words = refl

low_is : (limit : ℕ) → nat_lt limit (2 ^ 64) ≡ true → limit < 2 ^ 64
low_is limit low = grind (arith, nat_tests)

-- ---- they are read as they are spelled

pair_again : (first second : ℕ) (p : ℕ × ℕ) → (nat_le p.0 first && nat_le p.1 second) ≡ true → first < 2 ^ 64 → second < 2 ^ 64
    → pair first second (decimal p.0 ++ 32 ∷ decimal p.1) ≡ Some p
pair_again first second p fit low small =
    let parts = and_parts (nat_le p.0 first) (nat_le p.1 second) fit in
    both-again (natural first) (natural second) (decimal p.0) (decimal p.1) p.0 p.1 (nat_above 32 first p.0 (omega arith) parts.0 low)
    (nat_again first p.0 parts.0 low) (nat_again second p.1 parts.1 small)

element_again : (p : ℤ × ℕ) → fits shape.Element p ≡ true → element (signed_decimal p.0 ++ 32 ∷ decimal p.1) ≡ Some p
element_again p fit =
    let parts = and_parts (nat_le p.1 65536) (is_number_of_32_bits p.0) fit in
    both-again number (natural 65536) (signed_decimal p.0) (decimal p.1) p.0 p.1 (number_above 32 p.0 (omega arith) parts.1)
    (number-again p.0 parts.1) (nat_again 65536 p.1 parts.0 (omega arith))

range_again : (p : ℕ × (ℤ × ℤ)) → fits shape.Range p ≡ true
    → range (decimal p.0 ++ 32 ∷ (signed_decimal p.1.0 ++ 32 ∷ signed_decimal p.1.1)) ≡ Some p
range_again p fit =
    let parts = and_parts (nat_le p.0 999999) (is_number_of_32_bits p.1.0 && is_number_of_32_bits p.1.1) fit in
    let ends = and_parts (is_number_of_32_bits p.1.0) (is_number_of_32_bits p.1.1) parts.1 in
    both-again (natural 999999) (both number number) (decimal p.0) (signed_decimal p.1.0 ++ 32 ∷ signed_decimal p.1.1) p.0 p.1
    (nat_above 32 999999 p.0 (omega arith) parts.0 (omega arith)) (nat_again 999999 p.0 parts.0 (omega arith))
    (both-again number number (signed_decimal p.1.0) (signed_decimal p.1.1) p.1.0 p.1.1 (number_above 32 p.1.0 (omega arith) ends.0)
    (number-again p.1.0 ends.0) (number-again p.1.1 ends.1))

-- what an instruction's word says with words behind it, if the form of its operands is such a one
abbrev said_in : Shape → Instr → List (List ℕ) → Option Content
said_in s i [] = without_operands s i
said_in s i words = option_map content.Instruction (in_shape s i (text_of words))

made : {A : Type 0} (f : A → Instr) (o : Option A) (v : A) → o ≡ Some v → option_map content.Instruction (option_map f o) ≡ Some (content.Instruction (f v))
made f o v is = ap (λ o. option_map content.Instruction (option_map f o)) is

filled_said : (s : Shape) (v : Values s) (i : Instr) → fits s v ≡ true → is_low s ≡ true
    → said_in s i (words_of s v) ≡ Some (content.Instruction (filled s i v))
filled_said shape.Nothing v i fit low = refl
filled_said shape.Number z i fit low = made (filled shape.Number i) _ z (number-again z fit)
filled_said shape.Members m i fit low = made (filled shape.Members i) _ m (members-again m fit)
filled_said (shape.Natural limit) n i fit low = made (filled (shape.Natural limit) i) _ n (nat_again limit n fit (low_is limit low))
filled_said (shape.Small limit) n i fit low = made (filled (shape.Small limit) i) _ n (nat_again limit n fit (low_is limit low))
filled_said shape.Cell p i fit low = made (filled shape.Cell i) _ p (pair_again 15 16777215 p fit (omega arith) (omega arith))
filled_said (shape.Pair first second) p i fit low =
    let lows = and_parts (nat_lt first (2 ^ 64)) (nat_lt second (2 ^ 64)) low in
    made (filled (shape.Pair first second) i) _ p (pair_again first second p fit (low_is first lows.0) (low_is second lows.1))
filled_said shape.Element p i fit low = made (filled shape.Element i) _ p (element_again p fit)
filled_said shape.Range p i fit low = made (filled shape.Range i) _ p (range_again p fit)

-- ---- and spelled as they are read

blank_between : (words u v first second : List ℕ) → words ≡ u ++ 32 ∷ v → u ≡ first → v ≡ second → words ≡ first ++ 32 ∷ second
blank_between words u v first second is u_is v_is = is ∙ ap (λ w. w ++ 32 ∷ v) u_is ∙ ap (λ w. first ++ 32 ∷ w) v_is

pair_spelled : (first second : ℕ) (words : List ℕ) (p : ℕ × ℕ) → pair first second words ≡ Some p → first < 2 ^ 64 → second < 2 ^ 64
    → (words ≡ decimal p.0 ++ 32 ∷ decimal p.1) × ((nat_le p.0 first && nat_le p.1 second) ≡ true)
pair_spelled first second words p e low small =
    let parts = both-spelled (natural first) (natural second) words p.0 p.1 e in
    let a = nat_spelled first parts.0 p.0 parts.3 low in
    let b = nat_spelled second parts.1 p.1 parts.4 small in
    (blank_between words parts.0 parts.1 _ _ parts.2 a.0 b.0, and_from _ _ a.1 b.1)

element_spelled : (words : List ℕ) (p : ℤ × ℕ) → element words ≡ Some p
    → (words ≡ signed_decimal p.0 ++ 32 ∷ decimal p.1) × (fits shape.Element p ≡ true)
element_spelled words p e =
    let parts = both-spelled number (natural 65536) words p.0 p.1 e in
    let a = number-spelled parts.0 p.0 parts.3 in
    let b = nat_spelled 65536 parts.1 p.1 parts.4 (omega arith) in
    (blank_between words parts.0 parts.1 _ _ parts.2 a.0 b.0, and_from _ _ b.1 a.1)

range_spelled : (words : List ℕ) (p : ℕ × (ℤ × ℤ)) → range words ≡ Some p
    → (words ≡ decimal p.0 ++ 32 ∷ (signed_decimal p.1.0 ++ 32 ∷ signed_decimal p.1.1)) × (fits shape.Range p ≡ true)
range_spelled words p e =
    let parts = both-spelled (natural 999999) (both number number) words p.0 p.1 e in
    let ends = both-spelled number number parts.1 p.1.0 p.1.1 parts.4 in
    let a = nat_spelled 999999 parts.0 p.0 parts.3 (omega arith) in
    let b = number-spelled ends.0 p.1.0 ends.3 in
    let c = number-spelled ends.1 p.1.1 ends.4 in
    (blank_between words parts.0 parts.1 _ _ parts.2 a.0 (blank_between parts.1 ends.0 ends.1 _ _ ends.2 b.0 c.0), and_from _ _ a.1 (and_from _ _ b.1 c.1))

-- these words spell them
abbrev AreSpelled : (s : Shape) → List ℕ → Values s → Type 0
AreSpelled s words v = (words_behind (words_of s v) ≡ 32 ∷ words) × (fits s v ≡ true)

behind_a_blank : (words spelled : List ℕ) → words ≡ spelled → 32 ∷ spelled ≡ 32 ∷ words
behind_a_blank words spelled is = ap (λ w. 32 ∷ w) (sym is)

spelled : (s : Shape) (words : List ℕ) (v : Values s) → reads s words ≡ Some v → is_low s ≡ true → AreSpelled s words v
spelled shape.Nothing words v e low = absurd cc
spelled shape.Number words z e low = let it = number-spelled words z e in (behind_a_blank words _ it.0, it.1)
spelled shape.Members words m e low = let it = members-spelled words m e in (behind_a_blank words _ it.0, it.1)
spelled (shape.Natural limit) words n e low = let it = nat_spelled limit words n e (low_is limit low) in (behind_a_blank words _ it.0, it.1)
spelled (shape.Small limit) words n e low = let it = nat_spelled limit words n e (low_is limit low) in (behind_a_blank words _ it.0, it.1)
spelled shape.Cell words p e low =
    let it = pair_spelled 15 16777215 words p e (omega arith) (omega arith) in (behind_a_blank words _ it.0, it.1)
spelled (shape.Pair first second) words p e low =
    let lows = and_parts (nat_lt first (2 ^ 64)) (nat_lt second (2 ^ 64)) low in
    let it = pair_spelled first second words p e (low_is first lows.0) (low_is second lows.1) in (behind_a_blank words _ it.0, it.1)
spelled shape.Element words p e low = let it = element_spelled words p e in (behind_a_blank words _ it.0, it.1)
spelled shape.Range words p e low = let it = range_spelled words p e in (behind_a_blank words _ it.0, it.1)

-- ---- their bytes

pair_above : (first second : ℕ) (p : ℕ × ℕ) → (nat_le p.0 first && nat_le p.1 second) ≡ true → first < 2 ^ 64 → second < 2 ^ 64
    → list_all (are_above 10) (decimal p.0 ∷ decimal p.1 ∷ []) ≡ true
pair_above first second p fit low small =
    let parts = and_parts (nat_le p.0 first) (nat_le p.1 second) fit in
    and_from _ _ (nat_above 10 first p.0 (omega arith) parts.0 low) (and_from _ _ (nat_above 10 second p.1 (omega arith) parts.1 small) refl)

above : (s : Shape) (v : Values s) → fits s v ≡ true → is_low s ≡ true → list_all (are_above 10) (words_of s v) ≡ true
above shape.Nothing v fit low = refl
above shape.Number z fit low = and_from _ _ (number_above 10 z (omega arith) fit) refl
above shape.Members m fit low = and_from _ _ (set_above 10 m (omega arith)) refl
above (shape.Natural limit) n fit low = and_from _ _ (nat_above 10 limit n (omega arith) fit (low_is limit low)) refl
above (shape.Small limit) n fit low = and_from _ _ (nat_above 10 limit n (omega arith) fit (low_is limit low)) refl
above shape.Cell p fit low = pair_above 15 16777215 p fit (omega arith) (omega arith)
above (shape.Pair first second) p fit low =
    let lows = and_parts (nat_lt first (2 ^ 64)) (nat_lt second (2 ^ 64)) low in pair_above first second p fit (low_is first lows.0) (low_is second lows.1)
above shape.Element p fit low =
    let parts = and_parts (nat_le p.1 65536) (is_number_of_32_bits p.0) fit in
    and_from _ _ (number_above 10 p.0 (omega arith) parts.1) (and_from _ _ (nat_above 10 65536 p.1 (omega arith) parts.0 (omega arith)) refl)
above shape.Range p fit low =
    let parts = and_parts (nat_le p.0 999999) (is_number_of_32_bits p.1.0 && is_number_of_32_bits p.1.1) fit in
    let ends = and_parts (is_number_of_32_bits p.1.0) (is_number_of_32_bits p.1.1) parts.1 in
    and_from _ _ (nat_above 10 999999 p.0 (omega arith) parts.0 (omega arith))
    (and_from _ _ (number_above 10 p.1.0 (omega arith) ends.0) (and_from _ _ (number_above 10 p.1.1 (omega arith) ends.1) refl))

-- ---- the table

abbrev values_of : (i : Instr) → Values (shape_of i)
values_of (instr.LoadConstant value) = value
values_of (instr.LoadSet members) = members
values_of (instr.LoadAddress level offset) = (level, offset)
values_of (instr.Load level offset) = (level, offset)
values_of (instr.Store level offset) = (level, offset)
values_of (instr.LoadIndirect offset) = offset
values_of (instr.LoadMany length) = length
values_of (instr.StoreMany length) = length
values_of (instr.Increase offset) = offset
values_of (instr.IndexAddress low size) = (low, size)
values_of (instr.Compare length) = length
values_of (instr.Jump target) = target
values_of (instr.JumpIfFalse target) = target
values_of (instr.MarkStack level) = level
values_of (instr.CallProcedure length target) = (length, target)
values_of (instr.Enter variables evaluation) = (variables, evaluation)
values_of (instr.Return results) = results
values_of (instr.ReadInteger point) = point
values_of (instr.ReadChar point) = point
values_of (instr.ReadLine point) = point
values_of (instr.EndOfLine point) = point
values_of (instr.CheckInput point low high) = (point, (low, high))
values_of (instr.WriteString length) = length
values_of (instr.CheckRange site low high) = (site, (low, high))
values_of (instr.CheckZero site) = site
values_of (instr.CheckDefined site length) = (site, length)
values_of (instr.CheckSum site) = site
values_of (instr.CheckDifference site) = site
values_of (instr.CheckProduct site) = site
values_of (instr.CheckSquare site) = site
values_of (instr.CheckMembers site) = site
values_of (instr.CheckSet site low high) = (site, (low, high))
values_of (instr.Fail site) = site
values_of other = tt

-- the instruction of its word in the table
abbrev template_of : Instr → Instr
template_of i = filled (shape_of i) i (zeros (shape_of i))

record IsSeen (i : Instr) : Type 0 where
  low : is_low (shape_of i) ≡ true
  above : are_above 10 (word_of i) ≡ true
  no_blank : parted (word_of i) ≡ None
  first : are_above 32 (word_of i) ≡ true
  known : known_word (word_of i) ≡ Some (word.Instruction (template_of i))
  form : shape_of (template_of i) ≡ shape_of i
  again : filled (shape_of i) (template_of i) (values_of i) ≡ i
  own : filled (shape_of i) i (values_of i) ≡ i
  word_is : (v : Values (shape_of i)) → word_of (filled (shape_of i) i v) ≡ word_of i
  words : (v : Values (shape_of i)) → operand_words (filled (shape_of i) i v) ≡ words_of (shape_of i) v

seen : (i : Instr) → IsSeen i
seen (instr.LoadConstant value) = record {
  low = refl;
  above = refl;
  no_blank = refl;
  first = refl;
  known = refl;
  form = refl;
  again = refl;
  own = refl;
  word_is = λ v. refl;
  words = λ v. refl;
}
seen other = record {
  low = refl;
  above = refl;
  no_blank = refl;
  first = refl;
  known = refl;
  form = refl;
  again = refl;
  own = refl;
  word_is = λ v. refl;
  words = λ v. refl;
}

one_test : (a : Bool) → (a && true) ≡ a
one_test true = refl
one_test false = refl

named : (a : Bool) → ((a && true) && true) ≡ a
named a = one_test (a && true) ∙ one_test a

named_range : (a b : Bool) → ((a && true) && b) ≡ (a && b)
named_range a b = ap (λ a. a && b) (one_test a)

call_tests : (a b : Bool) → (a && ((b && true) && true)) ≡ (a && b)
call_tests a b = ap (λ b. a && b) (named b)

defined_tests : (a b : Bool) → (b && ((a && true) && true)) ≡ (a && b)
defined_tests true true = refl
defined_tests true false = refl
defined_tests false true = refl
defined_tests false false = refl

spellable : (i : Instr) (v : Values (shape_of i)) → is_spellable (filled (shape_of i) i v) ≡ fits (shape_of i) v
spellable (instr.LoadConstant value) v = refl
spellable (instr.CheckDefined site length) v = defined_tests (nat_le v.0 999999) (nat_le v.1 65536)
spellable (instr.CallProcedure length target) v = call_tests (nat_le v.0 65536) (nat_le v.1 999999)
spellable other v = search (one_test, named, named_range)

own_fits : (i : Instr) → is_spellable i ≡ true → fits (shape_of i) (values_of i) ≡ true
own_fits i fit = sym (spellable i (values_of i)) ∙ ap is_spellable (seen i).own ∙ fit

own_words : (i : Instr) → operand_words i ≡ words_of (shape_of i) (values_of i)
own_words i = sym (ap operand_words (seen i).own) ∙ (seen i).words (values_of i)

-- ---- what is spelled is read

-- a word with words behind it
record IsParted (i : Instr) (first : List ℕ) (words : List (List ℕ)) : Type 0 where
  known : line_word (first ++ words_behind words) ≡ known_word first
  said : content_of (word.Instruction i) (first ++ words_behind words) ≡ said_in (shape_of i) i words

parts : (i : Instr) (first : List ℕ) (words : List (List ℕ)) → are_above 32 first ≡ true → parted first ≡ None → IsParted i first words
parts i first [] above no_blank = record {
  known = ap line_word (append-nil first) ∙ ap (λ o. known_word (before_blank first o)) no_blank;
  said = ap (content_of (word.Instruction i)) (append-nil first) ∙ ap (content_at (word.Instruction i)) no_blank;
}
parts i first (one ∷ []) above no_blank =
    let blank = parted-again first one above in record {
      known = ap (λ o. known_word (before_blank (first ++ 32 ∷ one) o)) blank;
      said = ap (content_at (word.Instruction i)) blank;
    }
parts i first (one ∷ next ∷ more) above no_blank =
    let text = text_of (one ∷ next ∷ more) in
    let blank = parted-again first text above in record {
      known = ap (λ o. known_word (before_blank (first ++ 32 ∷ text) o)) blank;
      said = ap (content_at (word.Instruction i)) blank;
    }

-- the line of an instruction is read as that
pub record IsReadAgain (i : Instr) : Type 0 where
  pub template : Instr
  pub known : line_word (line_of (content.Instruction i)) ≡ Some (word.Instruction template)
  pub said : content_of (word.Instruction template) (line_of (content.Instruction i)) ≡ Some (content.Instruction i)

pub instruction_again : (i : Instr) → is_spellable i ≡ true → IsReadAgain i
instruction_again i fit =
    let it = seen i in
    let template = template_of i in
    let line = parts template (word_of i) (operand_words i) it.first it.no_blank in record {
      template = template;
      known = line.known ∙ it.known;
      said = line.said ∙ ap (λ s. said_in s template (operand_words i)) it.form ∙ ap (said_in (shape_of i) template) (own_words i)
          ∙ filled_said (shape_of i) (values_of i) template (own_fits i fit) it.low ∙ ap (λ i. Some (content.Instruction i)) it.again;
    }

-- ---- the bytes of a line

pub operands_above : (i : Instr) → is_spellable i ≡ true → list_all (are_above 10) (operand_words i) ≡ true
operands_above i fit = ap (list_all (are_above 10)) (own_words i) ∙ above (shape_of i) (values_of i) (own_fits i fit) (seen i).low

pub word_above : (i : Instr) → are_above 10 (word_of i) ≡ true
word_above i = (seen i).above

-- ---- what is read is spelled so

-- an instruction of a template's word has these words as its operands
pub record IsWritten (template : Instr) (words : List ℕ) (i : Instr) : Type 0 where
  pub word_is : word_of i ≡ word_of template
  pub operands : words_behind (operand_words i) ≡ 32 ∷ words
  pub fits : is_spellable i ≡ true

pub written : (template : Instr) (words : List ℕ) (i : Instr) → with_words template words ≡ Some i → IsWritten template words i
written t words i e =
    let s = shape_of t in
    let found = mapped (filled s t) (reads s words) i (sym (filled_reads s t words) ∙ e) in
    let it = spelled s words found.0 found.1 (seen t).low in record {
      word_is = ap word_of (sym found.2) ∙ (seen t).word_is found.0;
      operands = ap (λ i. words_behind (operand_words i)) (sym found.2) ∙ ap words_behind ((seen t).words found.0) ∙ it.0;
      fits = ap is_spellable (sym found.2) ∙ spellable t found.0 ∙ it.1;
    }

alone_in : (s : Shape) (i : Instr) (said : Content) → without_operands s i ≡ Some said → (s ≡ shape.Nothing) × (said ≡ content.Instruction i)
alone_in shape.Nothing i said e = (refl, sym (some_is (content.Instruction i) said e))
alone_in other i said e = absurd cc

nothing_of : (s : Shape) (v : Values s) → s ≡ shape.Nothing → (words_behind (words_of s v) ≡ []) × (fits s v ≡ true)
nothing_of shape.Nothing v is = (refl, refl)
nothing_of other v is = absurd cc

-- an instruction's word alone says that instruction, which has no operands
pub alone_written : (i : Instr) (said : Content) → without_operands (shape_of i) i ≡ Some said
    → (said ≡ content.Instruction i) × (words_behind (operand_words i) ≡ []) × (is_spellable i ≡ true)
alone_written i said e =
    let alone = alone_in (shape_of i) i said e in
    let nothing = nothing_of (shape_of i) (values_of i) alone.0 in
    (alone.1, ap words_behind (own_words i) ∙ nothing.0, sym (ap is_spellable (seen i).own) ∙ spellable i (values_of i) ∙ nothing.1)
