-- Rows of values: which of two comes first, and how one is cut to so many places.
use Rattle.std.proofs.Common.{◌≡◌, ℕ, zero, suc, pos, negsuc, ◌<◌, ◌≤◌, ◌-◌, ◌++◌, List, [], ◌∷◌, drop, length, map, replicate, take}
use Rattle.std.proofs.Common.{arith, refl, sym, ap, ◌∙◌}
use Rattle.std.proofs.lemmas.List.{length-map, take-map}
use Rattle.meaning.specs.Integers.{byte_of}
use Rattle.meaning.specs.declared.value.Value.{Value}
use Rattle.meaning.specs.Effect.{number_of, row_text}
use Rattle.meaning.specs.Meaning.{order_of}

-- a row comes before one that goes on behind it
pub order-behind : (row other : List Value) (place : ℕ) → length row ≤ place → place ≤ length row → length row < length other →
    order_of (map number_of (drop place row)) (map number_of (drop place other)) ≡ negsuc 0
order-behind row [] place above below less = let never : ⊥ = omega (arith, less) in absurd never
order-behind [] (b ∷ other) zero above below less = refl
order-behind [] (b ∷ other) (suc place) above below less = let never : ⊥ = omega (arith, below) in absurd never
order-behind (a ∷ row) (b ∷ other) zero above below less = let never : ⊥ = omega (arith, above) in absurd never
order-behind (a ∷ row) (b ∷ other) (suc place) above below less =
    order-behind row other place (omega (arith, above)) (omega (arith, below)) (omega (arith, less))

-- the byte of a component
abbrev pub component_byte : Value → ℕ
component_byte v = byte_of (number_of v)

-- a row that is cut to so many places
pub cut : (row : List Value) (places : ℕ) → places ≤ length row → map component_byte (take places row) ≡ row_text row (pos places)
cut row places short =
    let all : length (map component_byte row) ≡ length row = length-map row component_byte in
    let none : places - length (map component_byte row) ≡ 0 = omega (arith, all, short) in
    sym (take-map component_byte places row) ∙ sym (ap (λ n. replicate n 32 ++ take places (map component_byte row)) none)
