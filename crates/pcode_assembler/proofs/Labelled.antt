-- Where the labels of a code's lines stand.
use Rattle.std.proofs.Common.{◌≡◌, ◌≢◌, ℕ, suc, ◌+◌, ◌<◌, ◌≤◌, Bool, true, false, not, ◌&&◌, ◌==◌, List, [], ◌∷◌, ◌++◌, length, map, Some}
use Rattle.std.proofs.Common.{refl, sym, ap, subst, ◌∙◌, arith}
use Rattle.std.specs.Bool.{if◌then◌else◌}
use Rattle.std.specs.List.{list_all, list_any}
use Rattle.std.specs.Str.{bytes_eq}
use Rattle.std.proofs.lemmas.Bool.{and_from, and_parts, eqb-true, eqb-false, ne_eqb}
use Rattle.std.proofs.lemmas.Slice.Eq.{bytes_eq-Decides}
use Rattle.pcode_assembler.specs.declared.content.Content.{Content}
use Rattle.pcode_assembler.specs.declared.content.Content.TheVariants as content
use Rattle.pcode_assembler.specs.declared.instr.Instr.{Instr}
use Rattle.pcode_assembler.specs.Contents.{body_lines, goes_to, label_rows}
use Rattle.pcode_assembler.specs.Lines.{fits, is_id, is_instruction_word, label_line, line_of}
use Rattle.pcode_assembler.specs.Text.{first_label, heading, instruction_count, is_label, weight}
use Rattle.pcode_assembler.proofs.LabelLines.{id_from}
use Rattle.pcode_assembler.proofs.LineLaws.{is_code, line_again}
use Rattle.pcode_assembler.proofs.Whole.{same_content}

-- ---- the lines of a code

-- a line's part in the number of instructions
abbrev pub weight_of : Content → ℕ
weight_of said = if is_code said then 1 else 0

pub weight_is : (said : Content) → fits said ≡ true → weight (line_of said) ≡ weight_of said
weight_is said fit =
    let again = line_again said fit in
    ap (λ o. if is_instruction_word o then 1 else 0) again.known ∙ ap (λ b. if b then 1 else 0) again.code_is

-- a line is no label's, or another's
abbrev pub is_other : ℕ → Content → Bool
is_other q (content.Label n) = not (q == n)
is_other q _ = true

not_same : (q n : ℕ) (b : Bool) → q == n ≡ b → not b ≡ true → n ≢ q
not_same q n true is differ same = absurd (let e : false ≡ true = differ in cc)
not_same q n false is differ same = eqb-false q n is (sym same)

label_number : (n q : ℕ) → (let one : Content = content.Label n in one ≡ content.Label q) → n ≡ q
label_number n q same = cc

other_not : (q : ℕ) (said : Content) → is_other q said ≡ true → said ≢ content.Label q
other_not q (content.Site line column kind) other same = absurd cc
other_not q (content.Point line column) other same = absurd cc
other_not q (content.Instruction i) other same = absurd cc
other_not q (content.Label n) other same = not_same q n (q == n) refl other (label_number n q same)

test_not : (q : ℕ) (said : Content) (b : Bool) → is_label q (line_of said) ≡ b → fits said ≡ true → said ≢ content.Label q → b ≡ false
test_not q said true is fit other =
    let parts = and_parts (is_id q) (bytes_eq (line_of said) (label_line q)) is in
    absurd (other (same_content said (content.Label q) fit parts.0 ((bytes_eq-Decides (line_of said) (label_line q)).0 parts.1)))
test_not q said false is fit other = refl

no_label : (q : ℕ) (said : Content) → fits said ≡ true → is_other q said ≡ true → is_label q (line_of said) ≡ false
no_label q said fit other = test_not q said _ refl fit (other_not q said other)

this_label : (q : ℕ) → is_id q ≡ true → is_label q (label_line q) ≡ true
this_label q fit = and_from _ _ fit ((bytes_eq-Decides (label_line q) (label_line q)).1 refl)

heading_test : (b : Bool) → (b && false) ≡ false
heading_test true = refl
heading_test false = refl

no_heading : (q : ℕ) → is_label q heading ≡ false
no_heading q = heading_test (is_id q)

-- how many instructions lines say
abbrev pub code_count : List Content → ℕ
code_count [] = 0
code_count (said ∷ more) = weight_of said + code_count more

pub count_is : (said : List Content) → list_all fits said ≡ true → instruction_count (map line_of said) ≡ code_count said
count_is [] fit = refl
count_is (one ∷ more) fit =
    let parts = and_parts (fits one) (list_all fits more) fit in
    ap (λ w. w + instruction_count (map line_of more)) (weight_is one parts.0) ∙ ap (λ n. weight_of one + n) (count_is more parts.1)

-- ---- past lines of other labels

pub skip_one : (q number place : ℕ) (said : Content) (rest : List (List ℕ)) → fits said ≡ true → is_other q said ≡ true
    → first_label q number place (line_of said ∷ rest) ≡ first_label q (number + 1) (place + weight_of said) rest
skip_one q number place said rest fit other =
    rw (no_label q said fit other) (ap (λ w. first_label q (number + 1) (place + w) rest) (weight_is said fit))

pub skip : (q number place : ℕ) (said : List Content) (rest : List (List ℕ)) → list_all fits said ≡ true → list_all (is_other q) said ≡ true
    → first_label q number place (map line_of said ++ rest) ≡ first_label q (number + length said) (place + code_count said) rest
skip q number place [] rest fit other =
    let n : number ≡ number + 0 = omega arith in
    let p : place ≡ place + 0 = omega arith in
    ap (λ k. first_label q k place rest) n ∙ ap (λ k. first_label q (number + 0) k rest) p
skip q number place (one ∷ more) rest fit other =
    let parts = and_parts (fits one) (list_all fits more) fit in
    let others = and_parts (is_other q one) (list_all (is_other q) more) other in
    let n : number + 1 + length more ≡ number + suc (length more) = omega arith in
    let p : place + weight_of one + code_count more ≡ place + (weight_of one + code_count more) = omega arith in
    skip_one q number place one (map line_of more ++ rest) parts.0 others.0
    ∙ skip q (number + 1) (place + weight_of one) more rest parts.1 others.1
    ∙ ap (λ k. first_label q k (place + weight_of one + code_count more) rest) n
    ∙ ap (λ k. first_label q (number + suc (length more)) k rest) p

pub past_heading : (q : ℕ) (rest : List (List ℕ)) → first_label q 1 0 (heading ∷ rest) ≡ first_label q 2 0 rest
past_heading q rest = rw (no_heading q) refl

-- ---- the lines of a body

-- past the lines of one instruction
row_past : (q number place : ℕ) (i : Instr) (target : Bool) (rest : List (List ℕ)) → place < q → fits (content.Label place) ≡ true
    → fits (content.Instruction i) ≡ true
    → first_label q number place (map line_of (if target then content.Label place ∷ [] else []) ++ (line_of (content.Instruction i) ∷ rest))
    ≡ first_label q (number + length (if target then content.Label place ∷ [] else []) + 1) (place + 1) rest
row_past q number place i true rest above label_fits fit =
    let other : q == place ≡ false = ne_eqb q place (λ same. absurd (omega (arith, same, above))) in
    let p : place + 0 ≡ place = omega arith in
    skip_one q number place (content.Label place) (line_of (content.Instruction i) ∷ rest) label_fits (rw other refl)
    ∙ ap (λ k. first_label q (number + 1) k (line_of (content.Instruction i) ∷ rest)) p
    ∙ skip_one q (number + 1) place (content.Instruction i) rest fit refl
row_past q number place i false rest above label_fits fit =
    let n : number + 1 ≡ number + 0 + 1 = omega arith in
    skip_one q number place (content.Instruction i) rest fit refl ∙ ap (λ k. first_label q k (place + 1) rest) n

pub map_append : (a b : List Content) → map line_of (a ++ b) ≡ map line_of a ++ map line_of b
map_append [] b = refl
map_append (one ∷ a) b = ap (λ rest. line_of one ∷ rest) (map_append a b)

pub body_past : (code : List Instr) (q number place : ℕ) (i : Instr) (rest : List Content) → place < q → fits (content.Label place) ≡ true
    → fits (content.Instruction i) ≡ true
    → first_label q number place (map line_of (label_rows code place ++ content.Instruction i ∷ rest))
    ≡ first_label q (number + length (label_rows code place) + 1) (place + 1) (map line_of rest)
body_past code q number place i rest above label_fits fit =
    ap (first_label q number place) (map_append (label_rows code place) (content.Instruction i ∷ rest))
    ∙ row_past q number place i (list_any (goes_to place) code) (map line_of rest) above label_fits fit

-- the label of a place in front of its instruction
pub label_here : (code : List Instr) (number place : ℕ) (rest : List Content) → list_any (goes_to place) code ≡ true
    → fits (content.Label place) ≡ true
    → first_label place number place (map line_of (label_rows code place ++ rest)) ≡ Some (record { line = number; place = place })
label_here code number place rest target fit = rw (target, this_label place fit) refl

fits_row : (place : ℕ) (target : Bool) → fits (content.Label place) ≡ true → list_all fits (if target then content.Label place ∷ [] else []) ≡ true
fits_row place true fit = and_from _ _ fit refl
fits_row place false fit = refl

pub fits_append : (a b : List Content) → list_all fits a ≡ true → list_all fits b ≡ true → list_all fits (a ++ b) ≡ true
fits_append [] b fit other = other
fits_append (one ∷ a) b fit other =
    let parts = and_parts (fits one) (list_all fits a) fit in and_from _ _ parts.0 (fits_append a b parts.1 other)

-- a body's lines fit where its instructions do
pub body_fits : (code : List Instr) (place : ℕ) (xs : List Instr) → place + length xs ≤ 1000000
    → list_all (λ i. fits (content.Instruction i)) xs ≡ true → list_all fits (body_lines code place xs) ≡ true
body_fits code place [] few fit = refl
body_fits code place (i ∷ xs) few fit =
    let parts = and_parts (fits (content.Instruction i)) (list_all (λ i. fits (content.Instruction i)) xs) fit in
    fits_append (label_rows code place) (content.Instruction i ∷ body_lines code (place + 1) xs)
    (fits_row place (list_any (goes_to place) code) (id_from place (omega (arith, few))))
    (and_from _ _ parts.0 (body_fits code (place + 1) xs (omega (arith, few)) parts.1))

-- the first label of a place of a body
label_or_next : (code : List Instr) (q number place : ℕ) (i : Instr) (xs : List Instr) (here : Bool) → place == q ≡ here → place ≤ q
    → q < place + suc (length xs) → place + suc (length xs) ≤ 1000000 → list_any (goes_to q) code ≡ true
    → fits (content.Instruction i) ≡ true
    → (place < q → (line : ℕ) × (first_label q (number + length (label_rows code place) + 1) (place + 1) (map line_of (body_lines code (place + 1) xs))
    ≡ Some (record { line = line; place = q })))
    → (line : ℕ) × (first_label q number place (map line_of (body_lines code place (i ∷ xs))) ≡ Some (record { line = line; place = q }))
label_or_next code q number place i xs true is low high few target fit next =
    let same = eqb-true place q is in
    let here = label_here code number q (content.Instruction i ∷ body_lines code (q + 1) xs) target (id_from q (omega (arith, high, few))) in
    (number, subst (λ (p : ℕ). first_label q number p (map line_of (body_lines code p (i ∷ xs))) ≡ Some (record { line = number; place = q })) (sym same) here)
label_or_next code q number place i xs false is low high few target fit next =
    let less : place < q = omega (arith, low, eqb-false place q is) in
    let rest = next less in
    (rest.0, body_past code q number place i (body_lines code (place + 1) xs) less (id_from place (omega (arith, few))) fit ∙ rest.1)

-- the first label of a place of a body
pub body_label : (code : List Instr) (q number place : ℕ) (xs : List Instr) → place ≤ q → q < place + length xs → place + length xs ≤ 1000000
    → list_any (goes_to q) code ≡ true → list_all (λ i. fits (content.Instruction i)) xs ≡ true
    → (line : ℕ) × (first_label q number place (map line_of (body_lines code place xs)) ≡ Some (record { line = line; place = q }))
body_label code q number place [] low high few target fit = absurd (omega arith)
body_label code q number place (i ∷ xs) low high few target fit =
    let parts = and_parts (fits (content.Instruction i)) (list_all (λ i. fits (content.Instruction i)) xs) fit in
    label_or_next code q number place i xs (place == q) refl low high few target parts.0
    (λ less. body_label code q (number + length (label_rows code place) + 1) (place + 1) xs (omega (arith, less)) (omega (arith, high))
    (omega (arith, few)) target parts.1)
