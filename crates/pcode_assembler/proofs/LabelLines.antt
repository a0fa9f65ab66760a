-- The line of a label.
use Rattle.std.proofs.Common.{◌≡◌, ◌≢◌, ℕ, ◌+◌, ◌≤◌, Bool, true, false, ◌==◌, nat_eq, List, ◌∷◌, ◌++◌, Option, Some, None, refl, sym, ap, ◌∙◌, arith, codes}
use Rattle.std.specs.Bool.{if◌then◌else◌}
use Rattle.std.specs.Str.{bytes_eq}
use Rattle.std.proofs.lemmas.Bool.{and_from, and_parts, eqb-true, eqb-false}
use Rattle.std.proofs.lemmas.Bool.Decides.{nat_tests}
use Rattle.std.proofs.lemmas.Slice.Eq.{bytes_eq-Decides}
use Rattle.text_lines.specs.Words.{behind}
use Rattle.text_lines.proofs.Digits.{natural-again, natural-spelled}
use Rattle.text_lines.proofs.Parting.{behind_some, some_is}
use Rattle.pcode_assembler.specs.Lines.{is_id, is_instruction, label_line, label_of, number_behind}
use Rattle.pcode_assembler.specs.Reading.{Notes, NotesLabel, is_this, or_label, seen_by}
use Rattle.pcode_assembler.specs.declared.labels.Labels.{Labels}
use Rattle.std.specs.HashMap.{get}
use Rattle.pcode_assembler.specs.Text.{first_label, is_label, weight}
use Rattle.pcode_assembler.specs.declared.labels.Label.{Label}

pub id_is : (n : ℕ) → is_id n ≡ true → n ≤ 999999
id_is n is = grind (arith, nat_tests)

pub id_from : (n : ℕ) → n ≤ 999999 → is_id n ≡ true
id_from n small = grind (arith, nat_tests)

behind_label : (line : List ℕ) (o : Option (List ℕ)) (n : ℕ) → behind (codes "label ") line ≡ o → number_behind o ≡ Some n → (line ≡ label_line n) ×
    (n ≤ 999999)
behind_label line None n is e = absurd cc
behind_label line (Some digits) n is e =
    let spelled = natural-spelled 999999 digits n e (omega arith) in
    (behind_some (codes "label ") line digits is ∙ ap (λ digits. codes "label " ++ digits) spelled.0, spelled.1)

pub label_spelled : (line : List ℕ) (n : ℕ) → label_of line ≡ Some n → (line ≡ label_line n) × (n ≤ 999999)
label_spelled line n e = behind_label line _ n refl e

pub label_again : (n : ℕ) → n ≤ 999999 → label_of (label_line n) ≡ Some n
label_again n small = natural-again 999999 n small (omega arith)

same_bytes : (a b : List ℕ) → a ≡ b → bytes_eq a b ≡ true
same_bytes a b same = (bytes_eq-Decides a b).1 same

pub label_is : (q : ℕ) (line : List ℕ) → is_label q line ≡ true → label_of line ≡ Some q
label_is q line is =
    let parts = and_parts (is_id q) (bytes_eq line (label_line q)) is in
    ap label_of ((bytes_eq-Decides line (label_line q)).0 parts.1) ∙ label_again q (id_is q parts.0)

not_label : (q : ℕ) (line : List ℕ) (b : Bool) → is_label q line ≡ b → label_of line ≢ Some q → b ≡ false
not_label q line true is other = absurd (other (label_is q line is))
not_label q line false is other = refl

label_or_not : (q n : ℕ) (line : List ℕ) (same : Bool) → q == n ≡ same → label_of line ≡ Some n → is_label q line ≡ same
label_or_not q n line true same is =
    let found = label_spelled line n is in
    let eq = eqb-true q n same in
    and_from _ _ (id_from q (omega (arith, found.1, eq))) (same_bytes line (label_line q) (found.0 ∙ ap label_line (sym eq)))
label_or_not q n line false same is =
    not_label q line _ refl (λ other. absurd (eqb-false q n same (some_is q n (sym other ∙ is))))

pub label_test : (q : ℕ) (line : List ℕ) (o : Option ℕ) → label_of line ≡ o → is_label q line ≡ is_this q o
label_test q line None is = not_label q line _ refl (λ other. absurd cc)
label_test q line (Some n) is = label_or_not q n line (q == n) refl is

either : (known : Option Label) (is : Bool) (here : Label) (more : Option Label)
    → or_label (or_label known (if is then Some here else None)) more ≡ or_label known (if is then Some here else more)
either None true here more = refl
either None false here more = refl
either (Some first) is here more = refl

-- a label that is known above a line, in it, or below it
pub first_next : (known : Option Label) (q number place : ℕ) (line : List ℕ) (more : List (List ℕ))
    → or_label (or_label known (if is_label q line then Some (record { line = number; place = place }) else None))
    (first_label q (number + 1) (place + weight line) more)
    ≡ or_label known (first_label q number place (line ∷ more))
first_next known q number place line more =
    either known (is_label q line) (record { line = number; place = place }) (first_label q (number + 1) (place + weight line) more)

pub nothing_more : (known : Option Label) → or_label known None ≡ known
nothing_more None = refl
nothing_more (Some first) = refl

pub noted : (old middle new : Labels) (label : Option ℕ) (number : ℕ) (line : List ℕ) → label ≡ label_of line → NotesLabel label number old middle
    → new.first ≡ middle.first → new.instructions ≡ middle.instructions + weight line → Notes number line old new
noted old middle new label number line is notes firsts count = record {
  first = λ q. ap (λ m. get nat_eq m q) firsts ∙ notes.first q
      ∙ ap (λ (b : Bool). or_label ((seen_by old).first q) (if b then Some (record { line = number; place = old.instructions }) else None))
      (sym (label_test q line label (sym is)));
  instructions = count ∙ ap (λ n. n + weight line) notes.instructions;
}

pub noted_next : (q number : ℕ) (line : List ℕ) (more : List (List ℕ)) (whole : Option Label) (old new : Labels) → Notes number line old new
    → or_label ((seen_by old).first q) (first_label q number old.instructions (line ∷ more)) ≡ whole
    → or_label ((seen_by new).first q) (first_label q (number + 1) new.instructions more) ≡ whole
noted_next q number line more whole old new notes so_far =
    ap (λ place. or_label ((seen_by new).first q) (first_label q (number + 1) place more)) notes.instructions
    ∙ ap (λ known. or_label known (first_label q (number + 1) (old.instructions + weight line) more)) (notes.first q)
    ∙ first_next ((seen_by old).first q) q number old.instructions line more ∙ so_far

one_or_none : (is : Bool) → (if is then 1 else 0) ≤ 1
one_or_none true = omega arith
one_or_none false = omega arith

pub weight_small : (line : List ℕ) → weight line ≤ 1
weight_small line = one_or_none (is_instruction line)
