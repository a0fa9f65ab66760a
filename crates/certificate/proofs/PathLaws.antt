-- A path and its word.
use Rattle.std.proofs.Common.{◌≡◌, ℕ, ◌<◌, Bool, true, false, not, nat_lt, List, [], ◌∷◌, ◌++◌, map, Option, Some, None, Result, Ok}
use Rattle.std.proofs.Common.{Err, refl, sym, ap, subst, ◌∙◌, arith, decimal, codes}
use Rattle.std.specs.Bool.{if◌then◌else◌}
use Rattle.std.specs.Char.{is_ascii_digit, is_ascii_lowercase}
use Rattle.std.specs.List.{flat_map, list_all}
use Rattle.std.specs.Str.{bytes_eq}
use Rattle.std.proofs.lemmas.Bool.{and_from, and_parts}
use Rattle.std.proofs.lemmas.Bool.Decides.{nat_tests}
use Rattle.std.proofs.lemmas.Fmt.{digits_decimal}
use Rattle.std.proofs.lemmas.List.{append-nil}
use Rattle.std.proofs.lemmas.Slice.Eq.{bytes_eq-Decides}
use Rattle.domain.specs.Facts.{Step, Path, Elements, Field}
use Rattle.text_lines.specs.Words.{behind}
use Rattle.text_lines.proofs.Bytes.{above_append, are_above, byte_above}
use Rattle.text_lines.proofs.Digits.{own}
use Rattle.text_lines.proofs.Parting.{behind_some}
use Rattle.certificate.specs.declared.words.LineFault.{LineFault}
use Rattle.certificate.specs.declared.words.LineFault.TheVariants.{NotInGrammar}
use Rattle.certificate.specs.Contents.{is_path, is_small, is_step}
use Rattle.certificate.specs.Paths.{begins_step, cut, is_name, is_name_byte, is_piece, is_piece_behind, path_of, path_words, step_behind, step_in, step_words}
use Rattle.certificate.specs.Paths.{steps_of}
use Rattle.certificate.specs.Words.{◌>>=◌, both, variable, variable_of}
use Rattle.certificate.proofs.Numerals.{bound_ok, ok_is}
use Rattle.certificate.proofs.WordLaws.{both_ok, small_is, variable_above, variable_again, variable_spelled}

-- ---- what is read is spelled so

abbrev joined : List (List ℕ) → List ℕ
joined pieces = flat_map (λ piece. piece) pieces

cut_joined_step : (begins : Bool) (byte : ℕ) (front more : List ℕ) (pieces : List (List ℕ)) → front ++ joined pieces ≡ more
    → (let p : List ℕ × List (List ℕ) = (if begins then ([], (byte ∷ front) ∷ pieces) else (byte ∷ front, pieces)) in p.0 ++ joined p.1) ≡ byte ∷ more
cut_joined_step true byte front more pieces is = ap (λ rest. byte ∷ rest) is
cut_joined_step false byte front more pieces is = ap (λ rest. byte ∷ rest) is

-- the pieces of a word, joined, are the word
cut_joined : (word : List ℕ) → (cut word).0 ++ joined (cut word).1 ≡ word
cut_joined [] = refl
cut_joined (byte ∷ more) = cut_joined_step (begins_step byte) byte (cut more).0 more (cut more).1 (cut_joined more)

piece_behind : (elements : Bool) (piece : List ℕ) (o : Option (List ℕ)) → behind (codes ".") piece ≡ o → is_piece_behind elements piece o ≡ true
    → (piece ≡ step_words (step_behind o)) × (is_step elements (step_behind o) ≡ true)
piece_behind elements piece None is right =
    let parts = and_parts elements (bytes_eq piece (codes "[]")) right in ((bytes_eq-Decides piece (codes "[]")).0 parts.1, parts.0)
piece_behind elements piece (Some name) is right = (behind_some (codes ".") piece name is, right)

steps_spelled : (elements : Bool) (pieces : List (List ℕ)) → list_all (is_piece elements) pieces ≡ true
    → (joined pieces ≡ flat_map step_words (map step_in pieces)) × (list_all (is_step elements) (map step_in pieces) ≡ true)
steps_spelled elements [] right = (refl, refl)
steps_spelled elements (piece ∷ pieces) right =
    let parts = and_parts (is_piece elements piece) (list_all (is_piece elements) pieces) right in
    let first = piece_behind elements piece _ refl parts.0 in
    let more = steps_spelled elements pieces parts.1 in (
      ap (λ text. text ++ joined pieces) first.0 ∙ ap (λ rest. step_words (step_in piece) ++ rest) more.0,
      and_from _ _ first.1 more.1,
    )

steps_read : (elements : Bool) (pieces : List (List ℕ)) (right : Bool) (steps : List Step) → list_all (is_piece elements) pieces ≡ right
    → (if right then Ok (map step_in pieces) else Err NotInGrammar) ≡ Ok steps
    → (joined pieces ≡ flat_map step_words steps) × (list_all (is_step elements) steps ≡ true)
steps_read elements pieces true steps right is =
    subst (λ steps. (joined pieces ≡ flat_map step_words steps) × (list_all (is_step elements) steps ≡ true)) (ok_is (map step_in pieces) steps is)
    (steps_spelled elements pieces right)
steps_read elements pieces false steps right is = absurd cc

-- a word that says a path is the word of that path
pub path_spelled : (elements : Bool) (word : List ℕ) (path : Path) → path_of elements word ≡ Ok path
    → (word ≡ path_words path) × (is_path elements path ≡ true)
path_spelled elements word path e =
    let made : ℕ × List Step → Result Path LineFault = λ parts. Ok (record { root = parts.0; steps = parts.1 }) in
    let parts = bound_ok (both (variable_of (cut word).0) (steps_of elements (cut word).1)) made path e in
    let two = both_ok (variable_of (cut word).0) (steps_of elements (cut word).1) parts.0.0 parts.0.1 parts.1 in
    let root = variable_spelled (cut word).0 parts.0.0 two.0 in
    let steps = steps_read elements (cut word).1 _ parts.0.1 refl two.1 in
    let whole : word ≡ variable parts.0.0 ++ flat_map step_words parts.0.1 =
    sym (cut_joined word) ∙ ap (λ front. front ++ joined (cut word).1) root.0 ∙ ap (λ rest. variable parts.0.0 ++ rest) steps.0 in
    subst (λ (path : Path). (word ≡ path_words path) × (is_path elements path ≡ true))
    (ok_is {A = Path} (record { root = parts.0.0; steps = parts.0.1 }) path parts.2) (whole, and_from _ _ root.1 steps.1)

-- ---- what is spelled so is read

-- a text without a byte that begins a step
abbrev are_within : List ℕ → Bool
are_within text = list_all (λ byte. not (begins_step byte)) text

cut_within_step : (begins : Bool) (byte : ℕ) (front text : List ℕ) (pieces : List (List ℕ)) → not begins ≡ true
    → ◌≡◌ {A = List ℕ × List (List ℕ)} (if begins then ([], (byte ∷ front) ∷ pieces) else (byte ∷ front, pieces)) (byte ∷ front, pieces)
cut_within_step true byte front text pieces within = absurd cc
cut_within_step false byte front text pieces within = refl

cut_within : (text rest : List ℕ) → are_within text ≡ true
    → ◌≡◌ {A = List ℕ × List (List ℕ)} (cut (text ++ rest)) (text ++ (cut rest).0, (cut rest).1)
cut_within [] rest within = refl
cut_within (byte ∷ text) rest within =
    let parts = and_parts (not (begins_step byte)) (are_within text) within in
    cut_within_step (begins_step byte) byte (cut (text ++ rest)).0 text (cut (text ++ rest)).1 parts.0
    ∙ ap (λ (p : List ℕ × List (List ℕ)). let q : List ℕ × List (List ℕ) = (byte ∷ p.0, p.1) in q) (cut_within text rest parts.1)

letter_name : (byte : ℕ) → is_ascii_lowercase byte ≡ true → is_name_byte byte ≡ true
letter_name byte letter = rw letter refl

name_within : (byte : ℕ) → is_name_byte byte ≡ true → not (begins_step byte) ≡ true
name_within byte right = grind (arith, nat_tests)

digit_within : (byte : ℕ) → is_ascii_digit byte ≡ true → not (begins_step byte) ≡ true
digit_within byte right = grind (arith, nat_tests)

all_within : (test : ℕ → Bool) → ((byte : ℕ) → test byte ≡ true → not (begins_step byte) ≡ true) → (text : List ℕ) → list_all test text ≡ true
    → are_within text ≡ true
all_within test within [] right = refl
all_within test within (byte ∷ text) right =
    let parts = and_parts (test byte) (list_all test text) right in
    and_from _ _ (within byte parts.0) (all_within test within text parts.1)

name_bytes : (name : List ℕ) → is_name name ≡ true → list_all is_name_byte name ≡ true
name_bytes [] right = absurd cc
name_bytes (first ∷ more) right =
    let parts = and_parts (is_ascii_lowercase first) (list_all is_name_byte more) right in and_from _ _ (letter_name first parts.0) parts.1

cut_steps : (elements : Bool) (steps : List Step) → list_all (is_step elements) steps ≡ true
    → ◌≡◌ {A = List ℕ × List (List ℕ)} (cut (flat_map step_words steps)) ([], map step_words steps)
cut_steps elements [] right = refl
cut_steps elements (Elements ∷ steps) right =
    let parts = and_parts elements (list_all (is_step elements) steps) right in
    ap (λ (p : List ℕ × List (List ℕ)). let q : List ℕ × List (List ℕ) = ([], (91 ∷ 93 ∷ p.0) ∷ p.1) in q) (cut_steps elements steps parts.1)
cut_steps elements (Field name ∷ steps) right =
    let parts = and_parts (is_name name) (list_all (is_step elements) steps) right in
    ap (λ (p : List ℕ × List (List ℕ)). let q : List ℕ × List (List ℕ) = ([], (46 ∷ p.0) ∷ p.1) in q)
    (cut_within name (flat_map step_words steps) (all_within is_name_byte name_within name (name_bytes name parts.0))
    ∙ ap (λ (p : List ℕ × List (List ℕ)). let q : List ℕ × List (List ℕ) = (name ++ p.0, p.1) in q) (cut_steps elements steps parts.1)
    ∙ ap (λ (front : List ℕ). let q : List ℕ × List (List ℕ) = (front, map step_words steps) in q) (append-nil name))

steps_again : (elements : Bool) (steps : List Step) → list_all (is_step elements) steps ≡ true
    → (list_all (is_piece elements) (map step_words steps) ≡ true) × (map step_in (map step_words steps) ≡ steps)
steps_again elements [] right = (refl, refl)
steps_again elements (Elements ∷ steps) right =
    let parts = and_parts elements (list_all (is_step elements) steps) right in
    let more = steps_again elements steps parts.1 in
    (and_from _ _ (and_from _ _ parts.0 refl) more.0, ap (λ rest. Elements ∷ rest) more.1)
steps_again elements (Field name ∷ steps) right =
    let parts = and_parts (is_name name) (list_all (is_step elements) steps) right in
    let more = steps_again elements steps parts.1 in
    (and_from _ _ parts.0 more.0, ap (λ rest. Field name ∷ rest) more.1)

cut_path : (elements : Bool) (path : Path) → is_path elements path ≡ true
    → ◌≡◌ {A = List ℕ × List (List ℕ)} (cut (path_words path)) (variable path.root, map step_words path.steps)
cut_path elements path right =
    let parts = and_parts (is_small path.root) (list_all (is_step elements) path.steps) right in
    let small = small_is path.root parts.0 in
    let root : are_within (variable path.root) ≡ true =
    and_from _ _ refl (all_within is_ascii_digit digit_within (decimal path.root) (digits_decimal own path.root (omega arith))) in
    cut_within (variable path.root) (flat_map step_words path.steps) root
    ∙ ap (λ (p : List ℕ × List (List ℕ)). let q : List ℕ × List (List ℕ) = (variable path.root ++ p.0, p.1) in q) (cut_steps elements path.steps parts.1)
    ∙ ap (λ (front : List ℕ). let q : List ℕ × List (List ℕ) = (front, map step_words path.steps) in q) (append-nil (variable path.root))

-- the word of a path says that path
pub path_again : (elements : Bool) (path : Path) → is_path elements path ≡ true → path_of elements (path_words path) ≡ Ok path
path_again elements path right =
    let parts = and_parts (is_small path.root) (list_all (is_step elements) path.steps) right in
    let made : ℕ × List Step → Result Path LineFault = λ parts. Ok (record { root = parts.0; steps = parts.1 }) in
    let steps = steps_again elements path.steps parts.1 in
    ap (λ (p : List ℕ × List (List ℕ)). both (variable_of p.0) (steps_of elements p.1) >>= made) (cut_path elements path right)
    ∙ rw (variable_again path.root parts.0, steps.0, steps.1) refl

-- ---- the bytes of a path

name_above : (limit byte : ℕ) → limit < 46 → is_name_byte byte ≡ true → nat_lt limit byte ≡ true
name_above limit byte low right = grind (arith, nat_tests)

names_above : (limit : ℕ) (name : List ℕ) → limit < 46 → list_all is_name_byte name ≡ true → are_above limit name ≡ true
names_above limit [] low right = refl
names_above limit (byte ∷ name) low right =
    let parts = and_parts (is_name_byte byte) (list_all is_name_byte name) right in
    and_from _ _ (name_above limit byte low parts.0) (names_above limit name low parts.1)

steps_above : (elements : Bool) (limit : ℕ) (steps : List Step) → limit < 46 → list_all (is_step elements) steps ≡ true
    → are_above limit (flat_map step_words steps) ≡ true
steps_above elements limit [] low right = refl
steps_above elements limit (Elements ∷ steps) low right =
    let parts = and_parts elements (list_all (is_step elements) steps) right in
    and_from _ _ (byte_above limit 91 (omega arith)) (and_from _ _ (byte_above limit 93 (omega arith)) (steps_above elements limit steps low parts.1))
steps_above elements limit (Field name ∷ steps) low right =
    let parts = and_parts (is_name name) (list_all (is_step elements) steps) right in
    and_from _ _ (byte_above limit 46 (omega arith))
    (above_append limit name _ (names_above limit name low (name_bytes name parts.0)) (steps_above elements limit steps low parts.1))

pub path_above : (elements : Bool) (limit : ℕ) (path : Path) → limit < 46 → is_path elements path ≡ true → are_above limit (path_words path) ≡ true
path_above elements limit path low right =
    let parts = and_parts (is_small path.root) (list_all (is_step elements) path.steps) right in
    above_append limit (variable path.root) _ (variable_above limit path.root (omega arith) parts.0)
    (steps_above elements limit path.steps low parts.1)
