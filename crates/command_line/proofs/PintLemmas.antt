-- The number of cells, by its text, and words of `pint`, worked out.
use Rattle.std.proofs.Common.{◌≡◌, ◌∙◌, ◌<◌, ◌≤◌, ◌^◌, ◌==◌, ℕ, Bool, true, false, cond, drop, List, [], ◌∷◌, Option, Some, None, ap, arith}
use Rattle.std.proofs.Common.{codes, option_map, refl}
use Rattle.std.specs.Prelude.{Err, Ok, Result, pos, slice_get, unwrap_or}
use Rattle.std.specs.Borrow.{Bor}
use Rattle.std.specs.Str.Parse.{ParsesUnsigned, digits_value, starts_with_minus, without_leading_plus}
use Rattle.std.proofs.lemmas.Int.{ints}
use Rattle.clap.specs.Lexer.{without_minus}
use Rattle.clap.specs.Words.{IsSignedIn, ReadsOne, Text, first_value, is_simple, matched_of, one_text, read_as}
use Rattle.clap.specs.Faults.{fault_of, is_simple_and_free}
use Rattle.clap.specs.declared.error.kind.ErrorKind.TheVariants as kind
use Rattle.clap.specs.declared.parser.matches.Found.{Found}
use Rattle.clap.specs.declared.parser.matches.MatchedArg.{MatchedArg}
use Rattle.clap.proofs.OnLiterals.{clap_on_literals}
use Rattle.command_line.specs.Pint.{IsCount, Spells, cells_in, code_in, pint}

without_minus-cond : (t : Text) → without_minus t ≡ cond (starts_with_minus t) (drop 1 t) t
without_minus-cond [] = refl
without_minus-cond (x ∷ xs) = go (x == 45)
  where
    go : (b : Bool) → unwrap_or (cond b (Some xs) None) (x ∷ xs) ≡ cond b xs (x ∷ xs)
    go true = refl
    go false = refl

-- a text that clap takes as a number from `least` on, which isn't zero, spells it with no minus
pub spelled : (least most : ℕ) (text : Text) → 1 ≤ least → IsSignedIn (pos least) (pos most) text
    → (count : ℕ) × Spells text count × (least ≤ count) × (count ≤ most) × (without_minus text ≡ text)
spelled least most text positive passed = by_sign (starts_with_minus text) refl
  where
    by_sign : (b : Bool) → starts_with_minus text ≡ b
        → (count : ℕ) × Spells text count × (least ≤ count) × (count ≤ most) × (without_minus text ≡ text)
    by_sign true minus =
        let low = rw minus at passed.2 in
        absurd (omega (arith, ints))
    by_sign false minus =
        let low = rw minus at passed.2 in
        let high = rw minus at passed.3 in
        let numeral = rw minus at passed.0 in
        (digits_value 10 (without_leading_plus text), (numeral, refl), omega (arith, ints), omega (arith, ints), rw (without_minus-cond text, minus) refl)

no_text : (f : Found) (id : Text) → first_value f id ≡ None → one_text f id ≡ None
no_text f id first = by_entry (matched_of f id) refl
  where
    by_value : (x : MatchedArg) (o : Option (Bor Text)) → option_map (λ s. s.now) o ≡ None → option_map (λ s. read_as x.reading s.now) o ≡ None
    by_value x None h = refl
    by_value x (Some s) h = cc

    by_entry : (o : Option MatchedArg) → matched_of f id ≡ o → one_text f id ≡ None
    by_entry None e = rw e refl
    by_entry (Some x) e = rw e (by_value x (slice_get x.vals.items 0) (rw e at first))

-- the number that is read of a text that spells one
read_number : (E : Type 0) (text : Text) (number : Option ℕ) (count : ℕ) → Spells text count → count < 2 ^ 32
    → ReadsOne (ParsesUnsigned {E = E} 32 10) text number → number ≡ Some count
read_number E text (Some v) count spells fits read = ap Some (read.1 ∙ spells.1)
read_number E text None count spells fits read = absurd (read.1 (spells.0, rw spells.1 fits))

-- the number of cells that is read of what was found for them, 1,000,000 where nothing was
pub counted : {E : Type 0} (G : Text → Result ℕ E → Type 0) (f : Found) (given : Option Text) (number : Option ℕ) (count : ℕ)
    → ((u : Text) (x : Result ℕ E) → G u x → ParsesUnsigned 32 10 u x) → first_value f (codes "cells") ≡ given
    → ((text : Text) → first_value f (codes "cells") ≡ Some text
    → (n : ℕ) × Spells text n × (1 ≤ n) × (n ≤ 16777216) × (one_text f (codes "cells") ≡ Some text))
    → (one_text f (codes "cells") ≡ None → number ≡ None) → ((t : Text) → one_text f (codes "cells") ≡ Some t → ReadsOne G t number)
    → count ≡ unwrap_or number 1000000 → IsCount given count × (1 ≤ count) × (count ≤ 16777216)
counted G f None number count parses first reads none value is =
    let same : count ≡ 1000000 = is ∙ ap (λ o. unwrap_or o 1000000) (none (no_text f (codes "cells") first)) in
    (same, rw same (omega arith), rw same (omega arith))
counted {E} G f (Some text) number count parses first reads none value is =
    let known = reads text first in
    let read : ReadsOne (ParsesUnsigned {E = E} 32 10) text number = as_parsed number (value text known.4) in
    let same : count ≡ known.0 = is ∙ ap (λ o. unwrap_or o 1000000) (read_number E text number known.0 known.1 (omega arith) read) in
    (rw same known.1, rw same known.2, rw same known.3)
  where
    as_parsed : (o : Option ℕ) → ReadsOne G text o → ReadsOne (ParsesUnsigned {E = E} 32 10) text o
    as_parsed (Some v) h = parses text (Ok v) h
    as_parsed None h = (h.0, parses text (Err h.0) h.1)

pub pint_is_simple : is_simple pint ≡ true
unfolding clap_on_literals
pint_is_simple = refl

pub pint_is_free : is_simple_and_free pint ≡ true
unfolding clap_on_literals
pint_is_free = refl

abbrev sized : List Text
sized = codes "pint" ∷ codes "--cells" ∷ codes "+0016777216" ∷ codes "hello.code" ∷ []

abbrev plain : List Text
plain = codes "pint" ∷ codes "hello.code" ∷ []

sized_faultless : fault_of pint sized ≡ []
unfolding clap_on_literals
sized_faultless = refl

cells_sized : cells_in sized ≡ Some (codes "+0016777216")
unfolding clap_on_literals
cells_sized = refl

spells_seven : Spells (codes "+007") 7
spells_seven = ((omega arith, (omega arith, (omega arith, (omega arith, tt)))), refl)

code_sized : code_in sized ≡ Some (codes "hello.code")
unfolding clap_on_literals
code_sized = refl

plain_faultless : fault_of pint plain ≡ []
unfolding clap_on_literals
plain_faultless = refl

cells_plain : cells_in plain ≡ None
unfolding clap_on_literals
cells_plain = refl

none_is_too_few : fault_of pint (codes "pint" ∷ codes "--cells" ∷ codes "0" ∷ codes "hello.code" ∷ []) ≡ kind.ValueValidation ∷ []
unfolding clap_on_literals
none_is_too_few = refl

too_many : fault_of pint (codes "pint" ∷ codes "--cells=16777217" ∷ codes "hello.code" ∷ []) ≡ kind.ValueValidation ∷ []
unfolding clap_on_literals
too_many = refl

no_number : fault_of pint (codes "pint" ∷ codes "--cells=many" ∷ codes "hello.code" ∷ []) ≡ kind.ValueValidation ∷ []
unfolding clap_on_literals
no_number = refl

no_minus : fault_of pint (codes "pint" ∷ codes "--cells=-5" ∷ codes "hello.code" ∷ []) ≡ kind.ValueValidation ∷ []
unfolding clap_on_literals
no_minus = refl

needs_a_code : fault_of pint (codes "pint" ∷ []) ≡ kind.MissingRequiredArgument ∷ []
unfolding clap_on_literals
needs_a_code = refl

no_second_path : fault_of pint (codes "pint" ∷ codes "a" ∷ codes "b" ∷ []) ≡ kind.UnknownArgument ∷ []
unfolding clap_on_literals
no_second_path = refl
