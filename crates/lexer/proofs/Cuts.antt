-- How long the piece is that a text begins with, and where its fault stands.
use Rattle.std.proofs.Common.{◌≡◌, ℕ, ◌<◌, ◌≤◌, zero, suc, List, length, take, drop, Bool, true, false, Option, Some, None, Result, Ok, Err, ◌==◌, codes}
use Rattle.std.proofs.Common.{nat_lt, refl, arith, sym, ap, if◌then◌else◌}
use Rattle.std.specs.Option.{option_map, option_or, option_map_or}
use Rattle.std.proofs.lemmas.List.{length-take}
use Rattle.std.proofs.lemmas.List.Quantifiers.{position-Some}
use Rattle.lexer.specs.declared.piece.Piece.{Piece}
use Rattle.lexer.specs.declared.piece.Piece.TheVariants as piece
use Rattle.lexer.specs.declared.piece.Refusal.{Refusal}
use Rattle.lexer.specs.declared.piece.Refusal.TheVariants.{UnknownByte, OpenComment, OpenString, EmptyString, LargeNumber, TouchingLetter, StringByte}
use Rattle.lexer.specs.declared.token.Kind.TheVariants as kind
use Rattle.lexer.specs.Shape.{Shape, Separator, Letters, Digits, Quoted, Mark, shape_of, opens_comment, begins}
use Rattle.lexer.specs.Piece.{longest, piece_at, piece_from, piece_of, with_length, shapeless, offset_of, bad_byte, begins_with_letter, value_of}

front_step : (o : Option Shape) (n : ℕ) (below : Option (ℕ × Shape)) (found : ℕ × Shape)
    → ((shorter : ℕ × Shape) → below ≡ Some shorter → (0 < shorter.0) × (shorter.0 ≤ n))
    → option_or (option_map (λ s. (suc n, s)) o) below ≡ Some found → (0 < found.0) × (found.0 ≤ suc n)
front_step None n below found h e = let shorter = h found e in (shorter.0, omega arith)
front_step (Some s) n below found h e =
    let here : ◌≡◌ {A = ℕ × Shape} (suc n, s) found = cc in
    let same : suc n ≡ found.0 = λ i. (here i).0 in
    (omega arith, omega arith)

-- the longest front with a shape has a byte, and no more than it may
front_within : (n : ℕ) (text : List ℕ) (found : ℕ × Shape) → longest n text ≡ Some found → (0 < found.0) × (found.0 ≤ n)
front_within zero text found e = cc
front_within (suc n) text found e = front_step (shape_of (take (suc n) text) (drop (suc n) text)) n (longest n text) found (front_within n text) e

-- a piece is cut off as long as the front with its shape
length_kept : (n : ℕ) (r : Result Piece Refusal) (found : Piece × ℕ) → with_length n r ≡ Ok found → n ≡ found.1
length_kept n (Ok p) found e = let same : ◌≡◌ {A = Piece × ℕ} (p, n) found = cc in λ i. (same i).1
length_kept n (Err why) found e = cc

cut_from : (text : List ℕ) (o : Option (ℕ × Shape)) (found : Piece × ℕ) → longest (length text) text ≡ o → piece_from text o ≡ Ok found
    → (0 < found.1) × (found.1 ≤ length text)
cut_from text None found h e = cc
cut_from text (Some front) found h e =
    let within = front_within (length text) text front h in
    let same = length_kept front.0 (piece_of front.1 (take front.0 text) (drop front.0 text)) found e in
    (omega arith, omega arith)

pub piece_cut : (text : List ℕ) (found : Piece × ℕ) → piece_at text ≡ Ok found → (0 < found.1) × (found.1 ≤ length text)
unfolding piece_at
piece_cut text found e = cut_from text (longest (length text) text) found refl e

-- no fault but that of a byte in a string stands behind the front
shapeless_offset : (comment string : Bool) (why : Refusal) → (if comment then OpenComment else (if string then OpenString else UnknownByte)) ≡ why
    → offset_of why ≡ 0
shapeless_offset true string why e = ap offset_of (sym e)
shapeless_offset false true why e = ap offset_of (sym e)
shapeless_offset false false why e = ap offset_of (sym e)

digits_offset : (large touching : Bool) (p : Piece) (why : Refusal)
    → ◌≡◌ {A = Result Piece Refusal} (if large then Err LargeNumber else (if touching then Err TouchingLetter else Ok p)) (Err why) → offset_of why ≡ 0
digits_offset true touching p why e = let same : why ≡ LargeNumber = cc in ap offset_of same
digits_offset false true p why e = let same : why ≡ TouchingLetter = cc in ap offset_of same
digits_offset false false p why e = cc

string_offset : (empty : Bool) (o : Option ℕ) (n : ℕ) (p : Piece) (why : Refusal) → ((i : ℕ) → o ≡ Some i → i ≤ n)
    → ◌≡◌ {A = Result Piece Refusal} (if empty then Err EmptyString else option_map_or (λ offset. Err (StringByte offset)) o (Ok p)) (Err why)
    → offset_of why ≤ n
string_offset true o n p why h e =
    let same : why ≡ EmptyString = cc in
    let first : offset_of why ≡ 0 = ap offset_of same in
    omega arith
string_offset false None n p why h e = cc
string_offset false (Some i) n p why h e =
    let same : why ≡ StringByte i = cc in
    let there : offset_of why ≡ i = ap offset_of same in
    let fits = h i refl in
    omega arith

piece_offset : (s : Shape) (bytes behind : List ℕ) (why : Refusal) → piece_of s bytes behind ≡ Err why → offset_of why ≤ length bytes
piece_offset Separator bytes behind why e = cc
piece_offset Letters bytes behind why e = cc
piece_offset Digits bytes behind why e =
    let first = digits_offset (nat_lt 2147483647 (value_of bytes)) (begins_with_letter behind) (piece.Token (kind.Number (value_of bytes))) why e in
    omega arith
piece_offset Quoted bytes behind why e =
    string_offset (length bytes == 2) (bad_byte bytes) (length bytes) (piece.Token kind.Text) why
    (λ i h. let at = position-Some _ bytes i 0 h in omega (arith, at.0)) e
piece_offset (Mark s) bytes behind why e = cc

fault_kept : (n : ℕ) (r : Result Piece Refusal) (why : Refusal) → with_length n r ≡ Err why → r ≡ Err why
fault_kept n (Ok p) why e = cc
fault_kept n (Err w) why e = let same : w ≡ why = cc in ap (λ v. Err v) same

offset_from : (text : List ℕ) (o : Option (ℕ × Shape)) (why : Refusal) → piece_from text o ≡ Err why → offset_of why ≤ length text
offset_from text None why e =
    let same : shapeless text ≡ why = cc in
    let first = shapeless_offset (opens_comment text) (begins (codes "'") text) why same in
    omega arith
offset_from text (Some front) why e =
    let bytes = take front.0 text in
    let within : offset_of why ≤ length bytes = piece_offset front.1 bytes (drop front.0 text) why (fault_kept front.0 _ why e) in
    omega (arith, length-take front.0 text)

pub fault_within : (text : List ℕ) (why : Refusal) → piece_at text ≡ Err why → offset_of why ≤ length text
unfolding piece_at
fault_within text why e = offset_from text (longest (length text) text) why e
