-- A text as a row of pieces: one more of them, and that there is one such row.
use Rattle.std.proofs.Common.{◌≡◌, ℕ, ◌+◌, ◌-◌, List, [], ◌∷◌, ◌++◌, length, map, take, drop, Ok, Err, Result, inl, inr, refl, arith, sym, ◌∙◌, ap, subst}
use Rattle.std.proofs.Common.{append_assoc}
use Rattle.std.proofs.lemmas.List.{append-nil, map_push, length-append, take-append-drop}
use Rattle.std.proofs.lemmas.List.Sums.{fold-append}
use Rattle.std.proofs.Math.Seq.{take-append-add}
use Rattle.place.specs.declared.Place.{Place}
use Rattle.lexer.specs.declared.fault.LexFault.{LexFault}
use Rattle.lexer.specs.declared.piece.Piece.{Piece}
use Rattle.lexer.specs.declared.piece.Piece.TheVariants as piece
use Rattle.lexer.specs.declared.token.Kind.{Kind}
use Rattle.lexer.specs.declared.token.Token.{Token}
use Rattle.lexer.specs.declared.piece.Refusal.{Refusal}
use Rattle.lexer.specs.declared.piece.Refusal.TheVariants.{UnknownByte}
use Rattle.place.specs.Place.{start, past, place_of, place_after}
use Rattle.lexer.specs.Piece.{piece_at, offset_of}
use Rattle.lexer.specs.Tokens.{Lexeme, TokensLeave, lexemes, lexemes_of, lexeme_of, IsTokenList, IsFirstFault, fault_of}
use Rattle.lexer.proofs.Symbols.{nothing_at}

-- the place just past the pieces
abbrev pub place_behind : Place → List ℕ → List (Piece × ℕ) → Place
place_behind place text [] = place
place_behind place text (p ∷ ps) = place_behind (place_after place (take p.1 text)) (drop p.1 text) ps

pub leaves_more : (text : List ℕ) (ps : List (Piece × ℕ)) (rest : List ℕ) (p : Piece × ℕ) → TokensLeave text ps rest → piece_at rest ≡ Ok p
    → TokensLeave text (ps ++ p ∷ []) (drop p.1 rest)
leaves_more text [] rest p h e = (ap piece_at h ∙ e, ap (drop p.1) h)
leaves_more text (q ∷ qs) rest p h e = (h.0, leaves_more (drop q.1 text) qs rest p h.1 e)

pub lexemes_more : (place : Place) (text : List ℕ) (ps : List (Piece × ℕ)) (rest : List ℕ) (p : Piece × ℕ) → TokensLeave text ps rest
    → lexemes place text (ps ++ p ∷ []) ≡ lexemes place text ps ++ lexemes_of p.0 (take p.1 rest) (place_behind place text ps)
lexemes_more place text [] rest p h = append-nil _ ∙ ap (λ r. lexemes_of p.0 (take p.1 r) place) h
lexemes_more place text (q ∷ qs) rest p h =
    let front = lexemes_of q.0 (take q.1 text) place in
    let after = place_after place (take q.1 text) in
    ap (λ ls. front ++ ls) (lexemes_more after (drop q.1 text) qs rest p h.1) ∙ sym (append_assoc front _ _)

pub place_more : (place : Place) (text : List ℕ) (ps : List (Piece × ℕ)) (rest : List ℕ) (p : Piece × ℕ) → TokensLeave text ps rest
    → place_behind place text (ps ++ p ∷ []) ≡ place_after (place_behind place text ps) (take p.1 rest)
place_more place text [] rest p h = ap (λ r. place_after place (take p.1 r)) h
place_more place text (q ∷ qs) rest p h = place_more (place_after place (take q.1 text)) (drop q.1 text) qs rest p h.1

-- a token is kept, and a separator is not
pub kept_token : (items new : List Token) (k : Kind) (token : Token) (text : List ℕ) (ps : List (Piece × ℕ)) (rest : List ℕ) (p : Piece × ℕ)
    → TokensLeave text ps rest
    → map lexeme_of items ≡ lexemes start text ps → new ≡ items ++ token ∷ []
    → lexeme_of token ≡ record { kind = k; text = take p.1 rest; place = place_behind start text ps }
    → p.0 ≡ piece.Token k → map lexeme_of new ≡ lexemes start text (ps ++ p ∷ [])
kept_token items new k token text ps rest p h before grown same is =
    ap (map lexeme_of) grown ∙ map_push lexeme_of items token ∙ (λ i. before i ++ same i ∷ [])
    ∙ ap (λ q. lexemes start text ps ++ lexemes_of q (take p.1 rest) (place_behind start text ps)) (sym is) ∙ sym (lexemes_more start text ps rest p h)

pub kept_separator : (items : List Token) (text : List ℕ) (ps : List (Piece × ℕ)) (rest : List ℕ) (p : Piece × ℕ) → TokensLeave text ps rest
    → map lexeme_of items ≡ lexemes start text ps → p.0 ≡ piece.Separator → map lexeme_of items ≡ lexemes start text (ps ++ p ∷ [])
kept_separator items text ps rest p h before is =
    before ∙ sym (append-nil _) ∙ ap (λ q. lexemes start text ps ++ lexemes_of q (take p.1 rest) (place_behind start text ps)) (sym is) ∙ sym
    (lexemes_more start text ps rest p h)

-- the bytes of the pieces
place_front : (place : Place) (text : List ℕ) (ps : List (Piece × ℕ)) (rest : List ℕ) → TokensLeave text ps rest
    → (front : List ℕ) × (text ≡ front ++ rest) × (place_behind place text ps ≡ place_after place front)
place_front place text [] rest h = ([], h, refl)
place_front place text (q ∷ qs) rest h =
    let after = place_front (place_after place (take q.1 text)) (drop q.1 text) qs rest h.1 in
    let whole : text ≡ take q.1 text ++ drop q.1 text = sym (take-append-drop q.1 text) in (
      take q.1 text ++ after.0,
      whole ∙ ap (λ r. take q.1 text ++ r) after.1 ∙ sym (append_assoc (take q.1 text) after.0 rest),
      after.2 ∙ sym (fold-append past place (take q.1 text) after.0),
    )

-- the place of a fault in the rest
pub place_stops : (text : List ℕ) (ps : List (Piece × ℕ)) (rest : List ℕ) (n : ℕ) → TokensLeave text ps rest
    → place_after (place_behind start text ps) (take n rest) ≡ place_of (take (length text - length rest + n) text)
place_stops text ps rest n h =
    let f = place_front start text ps rest h in
    let total : length text ≡ length f.0 + length rest = ap length f.1 ∙ length-append f.0 rest in
    let count : length text - length rest + n ≡ length f.0 + n = omega arith in
    let bytes : take (length text - length rest + n) text ≡ f.0 ++ take n rest = ap (λ m. take m text) count ∙ ap (take (length f.0 + n)) f.1
    ∙ take-append-add f.0 rest n in
    ap (λ q. place_after q (take n rest)) f.2 ∙ sym (fold-append past start f.0 (take n rest)) ∙ ap place_of (sym bytes)

-- one row of pieces, and one rest
once : (text : List ℕ) (ps qs : List (Piece × ℕ)) (r s : List ℕ) (v w : Refusal) → TokensLeave text ps r → piece_at r ≡ Err v → TokensLeave text qs s
    → piece_at s ≡ Err w → (ps ≡ qs) × (r ≡ s)
once text [] [] r s v w h e k f = (refl, sym h ∙ k)
once text [] (q ∷ qs) r s v w h e k f = let clash : ◌≡◌ {A = Result (Piece × ℕ) Refusal} (Ok q) (Err v) = sym k.0 ∙ ap piece_at h ∙ e in cc
once text (p ∷ ps) [] r s v w h e k f = let clash : ◌≡◌ {A = Result (Piece × ℕ) Refusal} (Ok p) (Err w) = sym h.0 ∙ ap piece_at k ∙ f in cc
once text (p ∷ ps) (q ∷ qs) r s v w h e k f =
    let both : ◌≡◌ {A = Result (Piece × ℕ) Refusal} (Ok p) (Ok q) = sym h.0 ∙ k.0 in
    let same : p ≡ q = cc in
    let later = once (drop p.1 text) ps qs r s v w h.1 e (subst (λ u. TokensLeave (drop u.1 text) qs s) (sym same) k.1) f in
    (λ i. same i ∷ later.0 i, later.1)

pub one_list : (text : List ℕ) (a b : List Lexeme) → IsTokenList text a → IsTokenList text b → a ≡ b
one_list text a b h k =
    let same = once text h.1 k.1 [] [] UnknownByte UnknownByte h.2 nothing_at k.2 nothing_at in
    h.3 ∙ ap (lexemes start text) same.0 ∙ sym k.3

pub list_or_fault : (text : List ℕ) (list : List Lexeme) (found : LexFault) → IsTokenList text list → IsFirstFault text found → ⊥
list_or_fault text list found h (inl k) = omega arith
list_or_fault text list found h (inr k) =
    let same = once text h.1 k.1.0 [] k.1.1 UnknownByte k.1.4 h.2 nothing_at k.1.2 k.1.5 in
    k.1.3 (sym same.1)

pub one_fault : (text : List ℕ) (a b : LexFault) → IsFirstFault text a → IsFirstFault text b → a ≡ b
one_fault text a b (inl h) (inl k) = h.1 ∙ sym k.1
one_fault text a b (inl h) (inr k) = absurd (omega arith)
one_fault text a b (inr h) (inl k) = absurd (omega arith)
one_fault text a b (inr h) (inr k) =
    let same = once text h.1.0 k.1.0 h.1.1 k.1.1 h.1.4 k.1.4 h.1.2 h.1.5 k.1.2 k.1.5 in
    let both : ◌≡◌ {A = Result (Piece × ℕ) Refusal} (Err h.1.4) (Err k.1.4) = sym h.1.5 ∙ ap piece_at same.1 ∙ k.1.5 in
    let why : h.1.4 ≡ k.1.4 = cc in
    h.1.6 ∙ (λ i. fault_of (why i) (place_of (take (length text - length (same.1 i) + offset_of (why i)) text))) ∙ sym k.1.6
