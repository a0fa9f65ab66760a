-- Growths: the words of their numbers, and what these say.
use Rattle.std.proofs.Common.{◌≡◌, ℕ, ℤ, Bool, true, false, ◌&&◌, List, ◌∷◌, ◌++◌, Result, Ok, Err, refl, ap, subst, arith, codes, decimal}
use Rattle.std.specs.Bool.{if◌then◌else◌}
use Rattle.std.specs.Fmt.{signed_decimal}
use Rattle.std.proofs.lemmas.Bool.{and_from, and_parts}
use Rattle.domain.specs.Facts.{Fact as VariableFact, Grows}
use Rattle.domain.specs.Versions.{has}
use Rattle.domain.specs.declared.growth.Growth.{Growth}
use Rattle.domain.specs.declared.versions.Extension.TheVariants.{Growths}
use Rattle.domain.specs.declared.versions.Version.{Version}
use Rattle.text_lines.proofs.Bytes.{above_append, are_above}
use Rattle.certificate.specs.declared.words.LineFault.{LineFault}
use Rattle.certificate.specs.declared.words.LineFault.TheVariants.{NotInGrammar, OutOfRange}
use Rattle.certificate.specs.Contents.{is_constant, is_fact, is_growth, is_small}
use Rattle.certificate.specs.Lines.{ascends, fact_words, grow_fact, growing_fact, growth_between, growth_of, growth_words, numbers_of}
use Rattle.certificate.specs.Words.{◌>>=◌, both, constant_of, parted, variable, variable_of}
use Rattle.certificate.proofs.Numerals.{bound_ok, constant_again, constant_spelled, ok_is}
use Rattle.certificate.proofs.WordLaws.{both_ok, constant_above, number_above, number_again, parted_again, parted_spelled}
use Rattle.certificate.proofs.WordLaws.{variable_above, variable_spelled}

-- a text in two parts, which spell something
two_parts : (words a b x y : List ℕ) → words ≡ a ++ 32 ∷ b → a ≡ x → b ≡ y → words ≡ x ++ 32 ∷ y
two_parts words a b x y is a_is b_is = rw (is, a_is, b_is) refl

-- ---- what words say is spelled so

numbers_spelled : (words : List ℕ) (first second : ℤ) → numbers_of words ≡ Ok (first, second)
    → (words ≡ signed_decimal first ++ 32 ∷ signed_decimal second) × ((is_constant first && is_constant second) ≡ true)
numbers_spelled words first second e =
    let ends = bound_ok (parted words) (λ ends. both (constant_of ends.0) (constant_of ends.1)) (first, second) e in
    let two = both_ok (constant_of ends.0.0) (constant_of ends.0.1) first second ends.2 in
    let low = constant_spelled ends.0.0 first two.0 in
    let high = constant_spelled ends.0.1 second two.1 in
    (two_parts words ends.0.0 ends.0.1 _ _ (parted_spelled words ends.0.0 ends.0.1 ends.1) low.0 high.0, and_from _ _ low.1 high.1)

between_is : (made growth : Growth) (up : Bool) → ascends made ≡ up → (if up then Ok made else Err OutOfRange) ≡ Ok growth
    → (made ≡ growth) × (ascends made ≡ true)
between_is made growth true up e = (ok_is made growth e, up)
between_is made growth false up e = absurd cc

growth_spelled : (words : List ℕ) (growth : Growth) → growth_of words ≡ Ok growth → (words ≡ growth_words growth) × (is_growth growth ≡ true)
growth_spelled words growth e =
    let first = bound_ok (parted words) (λ first. parted first.1 >>= λ second. both (both (constant_of first.0) (constant_of second.0))
    (numbers_of second.1) >>= growth_between) growth e in
    let second = bound_ok (parted first.0.1) (λ second. both (both (constant_of first.0.0) (constant_of second.0))
    (numbers_of second.1) >>= growth_between) growth first.2 in
    let numbers = bound_ok (both (both (constant_of first.0.0) (constant_of second.0.0)) (numbers_of second.0.1)) growth_between growth second.2 in
    let halves = both_ok (both (constant_of first.0.0) (constant_of second.0.0)) (numbers_of second.0.1) numbers.0.0 numbers.0.1 numbers.1 in
    let lower = both_ok (constant_of first.0.0) (constant_of second.0.0) numbers.0.0.0 numbers.0.0.1 halves.0 in
    let upper = numbers_spelled second.0.1 numbers.0.1.0 numbers.0.1.1 halves.1 in
    let begun = constant_spelled first.0.0 numbers.0.0.0 lower.0 in
    let step = constant_spelled second.0.0 numbers.0.0.1 lower.1 in
    let made : Growth = record {
      first = numbers.0.0.0;
      first_step = numbers.0.0.1;
      last = numbers.0.1.0;
      last_step = numbers.0.1.1;
    } in
    let told = between_is made growth _ refl numbers.2 in
    let rest = two_parts first.0.1 second.0.0 second.0.1 _ _ (parted_spelled first.0.1 second.0.0 second.0.1 second.1) step.0 upper.0 in
    subst (λ growth. (words ≡ growth_words growth) × (is_growth growth ≡ true)) told.0 (
      two_parts words first.0.0 first.0.1 _ _ (parted_spelled words first.0.0 first.0.1 first.1) begun.0 rest,
      and_from _ _ (and_from _ _ begun.1 step.1) (and_from _ _ upper.1 told.1),
    )

growing_spelled : (version : Version) (words : List ℕ) (fact : VariableFact) → has version Growths ≡ true → growing_fact words ≡ Ok fact
    → (codes "grow " ++ words ≡ fact_words fact) × (is_fact version fact ≡ true)
growing_spelled version words fact there e =
    let made : ℕ × Growth → Result VariableFact LineFault = λ parts. Ok (Grows parts.0 parts.1) in
    let ends = bound_ok (parted words) (λ ends. both (variable_of ends.0) (growth_of ends.1) >>= made) fact e in
    let parts = bound_ok (both (variable_of ends.0.0) (growth_of ends.0.1)) made fact ends.2 in
    let two = both_ok (variable_of ends.0.0) (growth_of ends.0.1) parts.0.0 parts.0.1 parts.1 in
    let root = variable_spelled ends.0.0 parts.0.0 two.0 in
    let growth = growth_spelled ends.0.1 parts.0.1 two.1 in
    let whole = two_parts words ends.0.0 ends.0.1 _ _ (parted_spelled words ends.0.0 ends.0.1 ends.1) root.0 growth.0 in
    subst (λ fact. (codes "grow " ++ words ≡ fact_words fact) × (is_fact version fact ≡ true)) (ok_is (Grows parts.0.0 parts.0.1) fact parts.2)
    (ap (λ more. codes "grow " ++ more) whole, and_from _ _ there (and_from _ _ root.1 growth.1))

pub grow_spelled : (version : Version) (words : List ℕ) (fact : VariableFact) (there : Bool) → has version Growths ≡ there
    → (if there then growing_fact words else Err NotInGrammar) ≡ Ok fact
    → (codes "grow " ++ words ≡ fact_words fact) × (is_fact version fact ≡ true)
grow_spelled version words fact true there e = growing_spelled version words fact there e
grow_spelled version words fact false there e = absurd cc

-- ---- what is spelled is read again

growth_parts : (growth : Growth) → is_growth growth ≡ true
    → ((is_constant growth.first ≡ true) × (is_constant growth.first_step ≡ true))
    × (((is_constant growth.last ≡ true) × (is_constant growth.last_step ≡ true)) × (ascends growth ≡ true))
growth_parts growth fits =
    let lower = and_parts (is_constant growth.first && is_constant growth.first_step) _ fits in
    let upper = and_parts (is_constant growth.last && is_constant growth.last_step) (ascends growth) lower.1 in (
      and_parts (is_constant growth.first) (is_constant growth.first_step) lower.0,
      (and_parts (is_constant growth.last) (is_constant growth.last_step) upper.0, upper.1),
    )

growth_again : (growth : Growth) → is_growth growth ≡ true → growth_of (growth_words growth) ≡ Ok growth
growth_again growth fits =
    let parts = growth_parts growth fits in
    let upper = signed_decimal growth.last ++ 32 ∷ signed_decimal growth.last_step in
    rw (
      parted_again (signed_decimal growth.first) (signed_decimal growth.first_step ++ 32 ∷ upper)
          (constant_above 32 growth.first (omega arith) parts.0.0),
      parted_again (signed_decimal growth.first_step) upper (constant_above 32 growth.first_step (omega arith) parts.0.1),
      parted_again (signed_decimal growth.last) (signed_decimal growth.last_step) (constant_above 32 growth.last (omega arith) parts.1.0.0),
      constant_again growth.first parts.0.0,
      constant_again growth.first_step parts.0.1,
      constant_again growth.last parts.1.0.0,
      constant_again growth.last_step parts.1.0.1,
      parts.1.1,
    ) refl

pub grow_again : (version : Version) (root : ℕ) (growth : Growth) → is_fact version (Grows root growth) ≡ true
    → grow_fact version (variable root ++ 32 ∷ growth_words growth) ≡ Ok (Grows root growth)
grow_again version root growth fits =
    let there = and_parts (has version Growths) _ fits in
    let small = and_parts (is_small root) (is_growth growth) there.1 in
    rw (
      there.0,
      parted_again (variable root) (growth_words growth) (variable_above 32 root (omega arith) small.0),
      number_again root small.0,
      growth_again growth small.1,
    ) refl

growth_above : (growth : Growth) → is_growth growth ≡ true → are_above 10 (growth_words growth) ≡ true
growth_above growth fits =
    let parts = growth_parts growth fits in
    above_append 10 (signed_decimal growth.first) _ (constant_above 10 growth.first (omega arith) parts.0.0)
    (above_append 10 (signed_decimal growth.first_step) _ (constant_above 10 growth.first_step (omega arith) parts.0.1)
    (above_append 10 (signed_decimal growth.last) _ (constant_above 10 growth.last (omega arith) parts.1.0.0)
    (constant_above 10 growth.last_step (omega arith) parts.1.0.1)))

-- no byte of its words ends a line
pub grow_above : (version : Version) (root : ℕ) (growth : Growth) → is_fact version (Grows root growth) ≡ true
    → are_above 10 (fact_words (Grows root growth)) ≡ true
grow_above version root growth fits =
    let small = and_parts (is_small root) (is_growth growth) (and_parts (has version Growths) _ fits).1 in
    above_append 10 (decimal root) _ (number_above 10 root (omega arith) small.0) (growth_above growth small.1)
