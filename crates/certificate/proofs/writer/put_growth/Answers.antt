use Rattle.std.proofs.Common.{◌∙◌, ◌∷◌, ◌++◌, ◌≡◌, List, ap, ap₂, append_assoc, of_z, rules, to_z, w32, ℕ, ℤ}
use Rattle.std.specs.Fmt.{signed_decimal}
use Rattle.std.proofs.lemmas.Int.{to_z-of_z}
use Rattle.text_lines.specs.Writing.{written}
use Rattle.certificate.proofs.writer.put_growth.Goals as goal

abbrev numbers : (first second : ℤ) → List ℕ
numbers first second = 32 ∷ (signed_decimal first ++ 32 ∷ signed_decimal second)

pub returns : goal.returns
returns c =
    let growth = c.args.growth.now in
    let front_text = written c.args.writer.now in
    let begun_is : to_z w32 (of_z w32 growth.first) ≡ growth.first = search (rules, to_z-of_z) in
    let step_is : to_z w32 (of_z w32 growth.first_step) ≡ growth.first_step = search (rules, to_z-of_z) in
    let last_is : to_z w32 (of_z w32 growth.last) ≡ growth.last = search (rules, to_z-of_z) in
    let last_step_is : to_z w32 (of_z w32 growth.last_step) ≡ growth.last_step = search (rules, to_z-of_z) in
    let lower = ap₂ numbers begun_is step_is in
    let upper = ap₂ numbers last_is last_step_is in
    let upper_words = numbers growth.last growth.last_step in λ fine.
    let second = c.put_numbers-2.ensures fine in
    let first = c.put_numbers.ensures second.0 in (
      first.0,
      second.1
          ∙ ap (λ (text : List ℕ). text ++ numbers (to_z w32 (of_z w32 growth.last)) (to_z w32 (of_z w32 growth.last_step))) first.1
          ∙ ap₂ (λ (front back : List ℕ). (front_text ++ front) ++ back) lower upper
          ∙ append_assoc front_text (numbers growth.first growth.first_step) upper_words
          ∙ ap (λ (text : List ℕ). front_text ++ 32 ∷ text)
          (append_assoc (signed_decimal growth.first) (32 ∷ signed_decimal growth.first_step) upper_words),
    )
