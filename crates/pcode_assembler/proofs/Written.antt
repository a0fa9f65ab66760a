-- The lines that a writer of code puts one behind the other are the spelling.
use Rattle.std.proofs.Common.{◌≡◌, ℕ, suc, ◌+◌, ◌<◌, Bool, true, false, List, [], ◌∷◌, ◌++◌, length, map, take, get_or, refl, sym, ap, ◌∙◌, arith}
use Rattle.std.proofs.Common.{append_assoc, codes}
use Rattle.std.specs.List.{flat_map}
use Rattle.std.proofs.Math.Seq.{take-suc}
use Rattle.std.proofs.lemmas.Bool.{and_from, and_parts}
use Rattle.std.proofs.lemmas.Grind.{common_steps, flat_map-append}
use Rattle.std.proofs.lemmas.List.{append-nil}
use Rattle.text_lines.specs.Lines.{ended}
use Rattle.pcode_assembler.specs.declared.content.Content.{Content}
use Rattle.pcode_assembler.specs.declared.content.Content.TheVariants as content
use Rattle.pcode_assembler.specs.declared.instr.Instr.{Instr}
use Rattle.pcode_assembler.specs.Contents.{body_lines, label_rows, text_of}
use Rattle.pcode_assembler.specs.Lines.{has_numbers, line_of}
use Rattle.pcode_assembler.specs.Text.{heading}
use Rattle.pcode_assembler.specs.Writing.{Marks, have_numbers, instruction_line, label_if, lines_text}

take_next : (xs : List Instr) (k : ℕ) (i : Instr) → k < length xs → i ≡ get_or xs k i → take (k + 1) xs ≡ take k xs ++ i ∷ []
take_next xs k i within here =
    let n : k + 1 ≡ suc k = omega arith in
    ap (λ n. take n xs) n ∙ take-suc xs k i within ∙ ap (λ j. take k xs ++ j ∷ []) (sym here)

pub body_snoc : (code : List Instr) (place : ℕ) (xs : List Instr) (i : Instr)
    → body_lines code place (xs ++ i ∷ []) ≡ body_lines code place xs ++ (label_rows code (place + length xs) ++ content.Instruction i ∷ [])
body_snoc code place [] i = ap (λ p. label_rows code p ++ content.Instruction i ∷ []) (omega arith)
body_snoc code place (x ∷ xs) i =
    let rest = body_snoc code (place + 1) xs i in
    let here : place + 1 + length xs ≡ place + suc (length xs) = omega arith in
    ap (λ more. label_rows code place ++ content.Instruction x ∷ more)
    (rest ∙ ap (λ p. body_lines code (place + 1) xs ++ (label_rows code p ++ content.Instruction i ∷ [])) here)
    ∙ sym (append_assoc (label_rows code place) (content.Instruction x ∷ body_lines code (place + 1) xs)
    (label_rows code (place + suc (length xs)) ++ content.Instruction i ∷ []))

lines_append : (a b : List Content) → lines_text (a ++ b) ≡ lines_text a ++ lines_text b
lines_append a b = flat_map-append (λ said. ended (line_of said)) a b

one_line : (i : Instr) → lines_text (content.Instruction i ∷ []) ≡ ended (instruction_line i)
one_line i = append-nil (ended (instruction_line i))

length_take : (xs : List Instr) (k : ℕ) → k < length xs → length (take k xs) ≡ k
length_take xs k within = grind (arith, common_steps)

-- one instruction more is written, behind its label
pub written_next : (code : List Instr) (k : ℕ) (i : Instr) (marks : List Bool) (start before middle new : List ℕ) → Marks code code marks
    → k < length code → i ≡ get_or code k i → before ≡ start ++ lines_text (body_lines code 0 (take k code))
    → middle ≡ before ++ lines_text (label_if (get_or marks k false) k)
    → new ≡ middle ++ ended (instruction_line i) → new ≡ start ++ lines_text (body_lines code 0 (take (k + 1) code))
written_next code k i marks start before middle new marked within here before_is middle_is new_is =
    let labels : label_if (get_or marks k false) k ≡ label_rows code (0 + length (take k code)) =
    ap (λ m. label_if m k) (marked.each k within) ∙ ap (label_rows code) (omega (arith, length_take code k within)) in
    let row = label_rows code (0 + length (take k code)) in
    let front = lines_text (body_lines code 0 (take k code)) in
    new_is ∙ ap (λ m. m ++ ended (instruction_line i)) (middle_is ∙ ap (λ ls. before ++ lines_text ls) labels)
    ∙ append_assoc before (lines_text row) (ended (instruction_line i))
    ∙ ap (λ b. b ++ (lines_text row ++ ended (instruction_line i))) before_is
    ∙ append_assoc start front (lines_text row ++ ended (instruction_line i))
    ∙ ap (λ t. start ++ (front ++ (lines_text row ++ t))) (sym (one_line i))
    ∙ ap (λ t. start ++ (front ++ t)) (sym (lines_append row (content.Instruction i ∷ [])))
    ∙ ap (λ t. start ++ t) (sym (lines_append (body_lines code 0 (take k code)) (row ++ content.Instruction i ∷ [])))
    ∙ ap (λ ls. start ++ lines_text ls) (sym (body_snoc code 0 (take k code) i))
    ∙ ap (λ xs. start ++ lines_text (body_lines code 0 xs)) (sym (take_next code k i within here))

numbers_snoc : (xs : List Instr) (i : Instr) → have_numbers xs ≡ true → has_numbers i ≡ true → have_numbers (xs ++ i ∷ []) ≡ true
numbers_snoc [] i all one = and_from _ _ one refl
numbers_snoc (x ∷ xs) i all one =
    let parts = and_parts (has_numbers x) (have_numbers xs) all in
    and_from _ _ parts.0 (numbers_snoc xs i parts.1 one)

pub numbers_next : (code : List Instr) (k : ℕ) (i : Instr) → k < length code → i ≡ get_or code k i → have_numbers (take k code) ≡ true
    → has_numbers i ≡ true → have_numbers (take (k + 1) code) ≡ true
numbers_next code k i within here all one = ap have_numbers (take_next code k i within here) ∙ numbers_snoc (take k code) i all one

-- ---- the whole text

lines_map : (said : List Content) → lines_text said ≡ flat_map ended (map line_of said)
lines_map [] = refl
lines_map (one ∷ more) = ap (λ rest. ended (line_of one) ++ rest) (lines_map more)

-- the first line, three kinds of lines, and the last
pub written : (sites points code : List Content) (first second third fourth last : List ℕ) → first ≡ ended heading
    → second ≡ first ++ lines_text sites → third ≡ second ++ lines_text points → fourth ≡ third ++ lines_text code
    → last ≡ fourth ++ ended (codes "end") → last ≡ text_of (sites ++ (points ++ code))
written sites points code first second third fourth last first_is second_is third_is fourth_is last_is =
    let s = lines_text sites in
    let p = lines_text points in
    let c = lines_text code in
    let e = ended (codes "end") in
    let all : fourth ≡ ended heading ++ lines_text (sites ++ (points ++ code)) =
    fourth_is ∙ ap (λ t. t ++ c) (third_is ∙ ap (λ t. t ++ p) (second_is ∙ ap (λ t. t ++ s) first_is))
    ∙ append_assoc (ended heading ++ s) p c ∙ append_assoc (ended heading) s (p ++ c)
    ∙ ap (λ t. ended heading ++ (s ++ t)) (sym (lines_append points code))
    ∙ ap (λ t. ended heading ++ t) (sym (lines_append sites (points ++ code))) in
    last_is ∙ ap (λ t. t ++ e) (all ∙ ap (λ t. ended heading ++ t) (lines_map (sites ++ (points ++ code))))
