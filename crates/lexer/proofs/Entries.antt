-- A search in a table, row by row.
use Rattle.std.proofs.Common.{◌≡◌, ℕ, ◌<◌, ◌+◌, zero, suc, true, false, List, [], ◌∷◌, length, get_or, map, drop, Some, Bor, add-one, refl, arith}
use Rattle.std.specs.Char.{to_ascii_lowercase}
use Rattle.std.specs.Str.{bytes_eq}
use Rattle.std.proofs.lemmas.Slice.Eq.{bytes_eq-Decides}
use Rattle.std.proofs.lemmas.Bool.{false_from_ne_true}
use Rattle.lexer.specs.declared.token.Word.{Word}
use Rattle.lexer.specs.Spelling.{entry, in_small_letters}

-- a row with another spelling is passed
pub entry_passes : (table : List (Bor (List ℕ) × Word)) (i : ℕ) (d : Bor (List ℕ) × Word) (letters : List ℕ) → i < length table
    → (map to_ascii_lowercase (get_or table i d).0.now ≡ map to_ascii_lowercase letters → ⊥)
    → entry (in_small_letters (drop (i + 1) table)) (map to_ascii_lowercase letters) ≡ entry (in_small_letters (drop i table)) (map to_ascii_lowercase letters)
entry_passes [] i d letters h e = absurd (omega arith)
entry_passes (x ∷ xs) zero d letters h e =
    let t : bytes_eq (map to_ascii_lowercase x.0.now) (map to_ascii_lowercase letters) ≡ false = false_from_ne_true _ (λ q. e ((bytes_eq-Decides _ _).0 q)) in
    rw t refl
entry_passes (x ∷ xs) (suc i) d letters h e = rw add-one (rw add-one at (entry_passes xs i d letters (omega arith) e))

-- a row with this spelling is found
pub entry_found : (table : List (Bor (List ℕ) × Word)) (i : ℕ) (d : Bor (List ℕ) × Word) (letters : List ℕ) → i < length table
    → map to_ascii_lowercase (get_or table i d).0.now ≡ map to_ascii_lowercase letters
    → entry (in_small_letters (drop i table)) (map to_ascii_lowercase letters) ≡ Some (get_or table i d).1
entry_found [] i d letters h e = absurd (omega arith)
entry_found (x ∷ xs) zero d letters h e =
    let t : bytes_eq (map to_ascii_lowercase x.0.now) (map to_ascii_lowercase letters) ≡ true = (bytes_eq-Decides _ _).1 e in
    rw t refl
entry_found (x ∷ xs) (suc i) d letters h e = entry_found xs i d letters (omega arith) e
