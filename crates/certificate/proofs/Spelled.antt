-- What a line says, and the line that says it.
use Rattle.std.proofs.Common.{◌≡◌, ℕ, suc, ℤ, pos, Bool, true, false, not, ◌&&◌, int_le, int_lt, ◌==◌, List, ◌∷◌, ◌++◌, take, drop, Option}
use Rattle.std.proofs.Common.{[], nat_le, Some, None, Result, Ok, Err, refl, sym, ap, subst, ◌∙◌, arith, inl, inr, codes, decimal}
use Rattle.std.specs.Bool.{if◌then◌else◌}
use Rattle.std.specs.List.{position}
use Rattle.std.specs.Ordering.{int_eq}
use Rattle.std.specs.Fmt.{signed_decimal}
use Rattle.std.proofs.lemmas.Bool.{and_from, and_parts}
use Rattle.std.proofs.lemmas.Bool.Decides.{nat_tests}
use Rattle.std.proofs.lemmas.Int.{ints}
use Rattle.std.proofs.lemmas.List.{append-nil}
use Rattle.domain.specs.Interval.{Interval, between}
use Rattle.domain.specs.Facts.{Fact as VariableFact, Path, Span}
use Rattle.domain.specs.Facts.{Range, Defined, Order}
use Rattle.domain.specs.Versions.{has, most_spans}
use Rattle.domain.specs.declared.versions.Extension.TheVariants.{Boxes}
use Rattle.domain.specs.declared.versions.Version.{Version}
use Rattle.text_lines.specs.Words.{behind}
use Rattle.text_lines.proofs.Parting.{behind_some, front_part}
use Rattle.certificate.specs.declared.words.LineFault.{LineFault}
use Rattle.certificate.specs.declared.words.LineFault.TheVariants.{NotInGrammar, OutOfRange}
use Rattle.certificate.specs.Bounds.{spans_of}
use Rattle.certificate.specs.declared.AliasPair.{AliasPair}
use Rattle.certificate.specs.Building.{is_content}
use Rattle.certificate.specs.Contents.{is_claim, is_constant, is_fact, is_path, is_plain, is_small}
use Rattle.certificate.specs.Lines.{ClaimLine, Alias, Change, Entry, Exit, Fact, Content, Block, Loop, Claimed, claim_of, claim_words, pair_of}
use Rattle.certificate.specs.Lines.{defined_at, defined_fact, fact_of, fact_words, grow_fact, line_of, order_fact, range_fact, range_of}
use Rattle.certificate.specs.Lines.{defined_path, reading, spanned_fact}
use Rattle.certificate.specs.Paths.{path_of, path_words}
use Rattle.certificate.specs.Words.{◌>>=◌, both, constant_of, number_of, parted, variable, variable_of, when}
use Rattle.certificate.proofs.GrowthLaws.{grow_spelled}
use Rattle.certificate.proofs.SpanLaws.{spans_spelled}
use Rattle.certificate.proofs.Numerals.{bound_ok, constant_spelled, ok_is, when_ok}
use Rattle.certificate.proofs.PathLaws.{path_spelled}
use Rattle.certificate.proofs.WordLaws.{both_ok, number_spelled, parted_spelled, variable_spelled}

-- ---- facts

range_plain : (first last : ℤ) (less one : Bool) → int_lt last first ≡ less → (int_eq first (pos 1) && int_eq last (pos 0)) ≡ one
    → (less && not one) ≡ false
    → ◌≡◌ {A = Interval} (between first last) (record { first = first; last = last }) × (is_plain (record { first = first; last = last }) ≡ true)
range_plain first last true true less one is =
    let ends = and_parts (int_eq first (pos 1)) (int_eq last (pos 0)) one in
    let first_is : first ≡ pos 1 = grind (arith, ints) in
    let last_is : last ≡ pos 0 = grind (arith, ints) in
    rw (first_is, last_is) (refl, refl)
range_plain first last true false less one is = absurd cc
range_plain first last false one less one_is is =
    let below : int_le first last ≡ true = grind (arith, ints) in
    (rw less refl, rw below refl)

range_test : (version : Version) (path : Path) (first last : ℤ) (fact : VariableFact) (fault : Bool)
    → (int_lt last first && not (int_eq first (pos 1) && int_eq last (pos 0))) ≡ fault
    → (if fault then Err OutOfRange else Ok (Range path (between first last))) ≡ Ok fact
    → is_path true path ≡ true → is_constant first ≡ true → is_constant last ≡ true
    → (codes "range " ++ path_words path ++ 32 ∷ (signed_decimal first ++ 32 ∷ signed_decimal last) ≡ fact_words fact) × (is_fact version fact ≡ true)
range_test version path first last fact true is e right low high = absurd cc
range_test version path first last fact false is e right low high =
    let plain = range_plain first last _ _ refl refl is in
    let same : Range path (record { first = first; last = last }) ≡ fact =
    ap (λ range. Range path range) (sym plain.0) ∙ ok_is (Range path (between first last)) fact e in
    let words = codes "range " ++ path_words path ++ 32 ∷ (signed_decimal first ++ 32 ∷ signed_decimal last) in
    subst (λ fact. (words ≡ fact_words fact) × (is_fact version fact ≡ true)) same
    (refl, rw (right, low, high, plain.1) refl)

-- a text in three parts, which spell something
three_parts : (words a rest b c x y z : List ℕ) → words ≡ a ++ 32 ∷ rest → rest ≡ b ++ 32 ∷ c → a ≡ x → b ≡ y → c ≡ z
    → words ≡ x ++ 32 ∷ (y ++ 32 ∷ z)
three_parts words a rest b c x y z is rest_is a_is b_is c_is = rw (is, rest_is, a_is, b_is, c_is) refl

range_fact_spelled : (version : Version) (words : List ℕ) (fact : VariableFact) → range_fact words ≡ Ok fact
    → (codes "range " ++ words ≡ fact_words fact) × (is_fact version fact ≡ true)
range_fact_spelled version words fact e =
    let first = bound_ok (parted words) (λ first. parted first.1 >>= λ second. both (path_of true first.0)
    (both (constant_of second.0) (constant_of second.1)) >>= range_of) fact e in
    let second = bound_ok (parted first.0.1) (λ second. both (path_of true first.0.0)
    (both (constant_of second.0) (constant_of second.1)) >>= range_of) fact first.2 in
    let parts = bound_ok (both (path_of true first.0.0) (both (constant_of second.0.0) (constant_of second.0.1))) range_of fact second.2 in
    let ends = both_ok (path_of true first.0.0) (both (constant_of second.0.0) (constant_of second.0.1)) parts.0.0 parts.0.1 parts.1 in
    let numbers = both_ok (constant_of second.0.0) (constant_of second.0.1) parts.0.1.0 parts.0.1.1 ends.1 in
    let path = path_spelled true first.0.0 parts.0.0 ends.0 in
    let low = constant_spelled second.0.0 parts.0.1.0 numbers.0 in
    let high = constant_spelled second.0.1 parts.0.1.1 numbers.1 in
    let told = range_test version parts.0.0 parts.0.1.0 parts.0.1.1 fact _ refl parts.2 path.1 low.1 high.1 in
    let whole = three_parts words first.0.0 first.0.1 second.0.0 second.0.1 _ _ _ (parted_spelled words first.0.0 first.0.1 first.1)
    (parted_spelled first.0.1 second.0.0 second.0.1 second.1) path.0 low.0 high.0 in
    (ap (λ more. codes "range " ++ more) whole ∙ told.0, told.1)

order_fact_spelled : (version : Version) (words : List ℕ) (fact : VariableFact) → order_fact words ≡ Ok fact
    → (codes "order " ++ words ≡ fact_words fact) × (is_fact version fact ≡ true)
order_fact_spelled version words fact e =
    let made : ℕ × (ℕ × ℤ) → Result VariableFact LineFault = λ parts. Ok (Order parts.0 parts.1.0 parts.1.1) in
    let first = bound_ok (parted words) (λ first. parted first.1 >>= λ second. both (variable_of first.0)
    (both (variable_of second.0) (constant_of second.1)) >>= made) fact e in
    let second = bound_ok (parted first.0.1) (λ second. both (variable_of first.0.0)
    (both (variable_of second.0) (constant_of second.1)) >>= made) fact first.2 in
    let parts = bound_ok (both (variable_of first.0.0) (both (variable_of second.0.0) (constant_of second.0.1))) made fact second.2 in
    let ends = both_ok (variable_of first.0.0) (both (variable_of second.0.0) (constant_of second.0.1)) parts.0.0 parts.0.1 parts.1 in
    let bound = both_ok (variable_of second.0.0) (constant_of second.0.1) parts.0.1.0 parts.0.1.1 ends.1 in
    let root = variable_spelled first.0.0 parts.0.0 ends.0 in
    let other = variable_spelled second.0.0 parts.0.1.0 bound.0 in
    let number = constant_spelled second.0.1 parts.0.1.1 bound.1 in
    let whole = three_parts words first.0.0 first.0.1 second.0.0 second.0.1 _ _ _ (parted_spelled words first.0.0 first.0.1 first.1)
    (parted_spelled first.0.1 second.0.0 second.0.1 second.1) root.0 other.0 number.0 in
    subst (λ fact. (codes "order " ++ words ≡ fact_words fact) × (is_fact version fact ≡ true))
    (ok_is (Order parts.0.0 parts.0.1.0 parts.0.1.1) fact parts.2)
    (ap (λ more. codes "order " ++ more) whole, and_from _ _ root.1 (and_from _ _ other.1 number.1))

spanned_spelled : (version : Version) (words path spans : List ℕ) (fact : VariableFact) → words ≡ path ++ 32 ∷ spans
    → spanned_fact version path spans ≡ Ok fact → (codes "defined " ++ words ≡ fact_words fact) × (is_fact version fact ≡ true)
spanned_spelled version words path spans fact is e =
    let made : Path × List Span → Result VariableFact LineFault = λ parts. Ok (Defined parts.0 parts.1) in
    let parts = bound_ok (both (defined_path version path) (spans_of version spans)) made fact e in
    let two = both_ok (defined_path version path) (spans_of version spans) parts.0.0 parts.0.1 parts.1 in
    let path_is = path_spelled (has version Boxes) path parts.0.0 two.0 in
    let spans_are = spans_spelled version spans parts.0.1 two.1 in
    let whole = is ∙ ap (λ front. front ++ 32 ∷ spans) path_is.0 ∙ ap (λ rest. path_words parts.0.0 ++ rest) spans_are.0 in
    subst (λ fact. (codes "defined " ++ words ≡ fact_words fact) × (is_fact version fact ≡ true)) (ok_is (Defined parts.0.0 parts.0.1) fact parts.2)
    (ap (λ more. codes "defined " ++ more) whole, and_from _ _ path_is.1 spans_are.1)

none_few : (version : Version) → nat_le 0 (most_spans version) ≡ true
none_few version = grind (arith, nat_tests)

defined_part : (version : Version) (words : List ℕ) (o : Option ℕ) (fact : VariableFact) → position (λ byte. byte == 32) words ≡ o
    → defined_at version words o ≡ Ok fact → (codes "defined " ++ words ≡ fact_words fact) × (is_fact version fact ≡ true)
defined_part version words None fact is e =
    let path = bound_ok (defined_path version words) (λ path. Ok (Defined path [])) fact e in
    let spelled = path_spelled (has version Boxes) words path.0 path.1 in
    subst (λ fact. (codes "defined " ++ words ≡ fact_words fact) × (is_fact version fact ≡ true)) (ok_is (Defined path.0 []) fact path.2)
    (ap (λ more. codes "defined " ++ more) (spelled.0 ∙ sym (append-nil (path_words path.0))), and_from _ _ spelled.1 (and_from _ _ (none_few version) refl))
defined_part version words (Some end) fact is e =
    spanned_spelled version words (take end words) (drop (suc end) words) fact
    (front_part words (Some end) (take end words) (drop (suc end) words) is refl) e

fact_spelled : (version : Version) (words : List ℕ) (fact : VariableFact) → fact_of version words ≡ Ok fact
    → (words ≡ fact_words fact) × (is_fact version fact ≡ true)
fact_spelled version words fact e =
    elim (when_ok (behind (codes "defined ") words) (defined_fact version) _ fact e) [
      | inl found ↦
          let told = defined_part version found.0 _ fact refl found.2 in (behind_some (codes "defined ") words found.0 found.1 ∙ told.0, told.1)
      | inr range ↦
          elim (when_ok (behind (codes "range ") words) range_fact _ fact range) [
            | inl found ↦
                let told = range_fact_spelled version found.0 fact found.2 in
                (behind_some (codes "range ") words found.0 found.1 ∙ told.0, told.1)
            | inr order ↦
                elim (when_ok (behind (codes "order ") words) order_fact _ fact order) [
                  | inl found ↦
                      let told = order_fact_spelled version found.0 fact found.2 in
                      (behind_some (codes "order ") words found.0 found.1 ∙ told.0, told.1)
                  | inr grow ↦
                      elim (when_ok (behind (codes "grow ") words) (grow_fact version) (Err NotInGrammar) fact grow) [
                        | inl found ↦
                            let told = grow_spelled version found.0 fact _ refl found.2 in
                            (behind_some (codes "grow ") words found.0 found.1 ∙ told.0, told.1)
                        | inr fault ↦ absurd cc
                      ]
                ]
          ]
    ]

pair_spelled : (version : Version) (words : List ℕ) (pair : AliasPair) → pair_of words ≡ Ok pair
    → (words ≡ variable pair.first ++ 32 ∷ variable pair.second) × (is_claim version (Alias pair) ≡ true)
pair_spelled version words pair e =
    let made : ℕ × ℕ → Result AliasPair LineFault = λ roots. Ok (record { first = roots.0; second = roots.1 }) in
    let ends = bound_ok (parted words) (λ ends. both (variable_of ends.0) (variable_of ends.1) >>= made) pair e in
    let roots = bound_ok (both (variable_of ends.0.0) (variable_of ends.0.1)) made pair ends.2 in
    let two = both_ok (variable_of ends.0.0) (variable_of ends.0.1) roots.0.0 roots.0.1 roots.1 in
    let first = variable_spelled ends.0.0 roots.0.0 two.0 in
    let second = variable_spelled ends.0.1 roots.0.1 two.1 in
    let whole = parted_spelled words ends.0.0 ends.0.1 ends.1 ∙ ap (λ front. front ++ 32 ∷ ends.0.1) first.0
    ∙ ap (λ rest. variable roots.0.0 ++ 32 ∷ rest) second.0 in
    subst (λ pair. (words ≡ variable pair.first ++ 32 ∷ variable pair.second) × (is_claim version (Alias pair) ≡ true))
    (ok_is (record { first = roots.0.0; second = roots.0.1 }) pair roots.2)
    (whole, and_from _ _ first.1 second.1)

-- ---- lines

-- what is read behind a word is spelled so, and so is the line that begins with it
module _ {C A : Type 0} (spelled : C → List ℕ) (is_right : C → Bool) (word : List ℕ) (made : A → C) (words : A → List ℕ) (fits : A → Bool)
    (line_is : (a : A) → spelled (made a) ≡ word ++ words a) (fits_are : (a : A) → is_right (made a) ≡ fits a)
    (read : List ℕ → Result A LineFault) (read_spelled : (rest : List ℕ) (a : A) → read rest ≡ Ok a → (rest ≡ words a) × (fits a ≡ true)) where
  word_spelled : (line rest : List ℕ) (c : C) → behind word line ≡ Some rest → (read rest >>= λ a. Ok (made a)) ≡ Ok c
      → (line ≡ spelled c) × (is_right c ≡ true)
  word_spelled line rest c found e =
      let told = bound_ok (read rest) (λ a. Ok (made a)) c e in
      let right = read_spelled rest told.0 told.1 in
      subst (λ c. (line ≡ spelled c) × (is_right c ≡ true)) (ok_is (made told.0) c told.2)
      (behind_some word line rest found ∙ ap (λ more. word ++ more) right.0 ∙ sym (line_is told.0), fits_are told.0 ∙ right.1)

  -- and so is a line that begins with it or is read otherwise
  when_spelled : (line : List ℕ) (otherwise : Result C LineFault) (c : C) → (otherwise ≡ Ok c → (line ≡ spelled c) × (is_right c ≡ true))
      → when (behind word line) (λ rest. read rest >>= λ a. Ok (made a)) otherwise ≡ Ok c → (line ≡ spelled c) × (is_right c ≡ true)
  when_spelled line otherwise c others e =
      elim (when_ok (behind word line) (λ rest. read rest >>= λ a. Ok (made a)) otherwise c e) [
        | inl found ↦ word_spelled line found.0 c found.1 found.2
        | inr rest ↦ others rest
      ]

no_words : (version : Version) (line : List ℕ) (claim : ClaimLine) → (let fault : Result ClaimLine LineFault = Err NotInGrammar in fault ≡ Ok claim)
    → (line ≡ claim_words claim) × (is_claim version claim ≡ true)
no_words version line claim e = absurd cc

claim_spelled : (version : Version) (line : List ℕ) (claim : ClaimLine) → claim_of version line ≡ Ok claim
    → (line ≡ claim_words claim) × (is_claim version claim ≡ true)
claim_spelled version line claim e =
    when_spelled claim_words (is_claim version) (codes "alias ") Alias (λ pair. variable pair.first ++ 32 ∷ variable pair.second)
    (λ pair. is_claim version (Alias pair))
    (λ pair. refl) (λ pair. refl) pair_of (pair_spelled version) line _ claim
    (when_spelled claim_words (is_claim version) (codes "change ") Change variable is_small (λ root. refl) (λ root. refl)
    variable_of variable_spelled line _ claim
    (when_spelled claim_words (is_claim version) (codes "entry ") Entry fact_words (is_fact version) (λ fact. refl) (λ fact. refl)
    (fact_of version) (fact_spelled version) line _ claim
    (when_spelled claim_words (is_claim version) (codes "exit ") Exit fact_words (is_fact version) (λ fact. refl) (λ fact. refl)
    (fact_of version) (fact_spelled version) line _ claim
    (when_spelled claim_words (is_claim version) (codes "fact ") Fact fact_words (is_fact version) (λ fact. refl) (λ fact. refl)
    (fact_of version) (fact_spelled version) line _ claim
    (no_words version line claim))))) e

claimed_spelled : (version : Version) (line : List ℕ) (content : Content) → (claim_of version line >>= λ claim. Ok (Claimed claim)) ≡ Ok content
    → (line ≡ line_of content) × (is_content version content ≡ true)
claimed_spelled version line content e =
    let told = bound_ok (claim_of version line) (λ claim. Ok (Claimed claim)) content e in
    subst (λ content. (line ≡ line_of content) × (is_content version content ≡ true)) (ok_is (Claimed told.0) content told.2)
    (claim_spelled version line told.0 told.1)

-- a line that says something is the line of what it says, and its numbers are in range
pub line_spelled : (version : Version) (line : List ℕ) (content : Content) → reading version line ≡ Ok content
    → (line ≡ line_of content) × (is_content version content ≡ true)
line_spelled version line content e =
    when_spelled line_of (is_content version) (codes "proc ") Block decimal is_small (λ number. refl) (λ number. refl) number_of number_spelled line _ content
    (when_spelled line_of (is_content version) (codes "loop ") Loop decimal is_small (λ number. refl) (λ number. refl) number_of number_spelled line _ content
    (claimed_spelled version line content)) e
