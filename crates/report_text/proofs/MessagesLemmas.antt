-- A text is written part by part, and one text behind another.
use Rattle.std.proofs.Common.{◌≡◌, ℕ, ◌<◌, List, [], ◌++◌, length, take, drop, Option, ◌-◌, length-drop, refl, sym}
use Rattle.std.proofs.Common.{ap, ◌∙◌, append_assoc, arith}
use Rattle.std.specs.Prelude.{◌==◌, ◌&&◌, nat_lt, if◌then◌else◌}
use Rattle.std.specs.Io.KnownBytes.{Appends}
use Rattle.std.proofs.KnownBytes.{Appends-nil, Appends-trans}
use Rattle.std.proofs.lemmas.Bool.Decides.{nat_tests}
use Rattle.std.proofs.lemmas.List.{take_all}

-- a writer got the text but for this rest
pub record Left (known known' : Option (List ℕ)) (rest text : List ℕ) : Type 0 where
  pub got : List ℕ
  pub grew : Appends known known' got
  pub in_order : got ++ rest ≡ text

pub Left-all : (known : Option (List ℕ)) (text : List ℕ) → Left known known text text
Left-all known text = record { got = []; grew = Appends-nil known; in_order = refl }

-- a part of the rest is written
pub Left-part : (a b c : Option (List ℕ)) (rest part rest' text : List ℕ) → Left a b rest text → Appends b c part → rest ≡ part ++ rest' → Left a c rest' text
Left-part a b c rest part rest' text h grew e = record {
  got = h.got ++ part;
  grew = Appends-trans a b c h.got part h.grew grew;
  in_order = append_assoc h.got part rest' ∙ ap (λ l. h.got ++ l) (sym e) ∙ h.in_order;
}

-- what is left of a text
pub part_left : (rest : List ℕ) (count : ℕ) → drop count rest ≡ take (length rest - count) (drop count rest)
part_left rest count = sym (take_all (length rest - count) (drop count rest) (omega (arith, length-drop count rest)))

-- a write that takes some bytes doesn't count as a failure
pub none_failed : (piece : List ℕ) (count : ℕ) → 0 < count → ◌≡◌ {A = ℕ} (if (count == 0) && nat_lt 0 (length piece) then 1 else 0) 0
none_failed piece count h = grind (arith, nat_tests)
