-- The places of the tokens of a text are in order.
use Rattle.std.proofs.Common.{◌≡◌, ℕ, List, [], ◌∷◌, ◌++◌, map, take, drop, refl, subst, sym, ap, IsTrue, arith}
use Rattle.std.proofs.lemmas.List.{length-take}
use Rattle.place.specs.declared.Place.{Place}
use Rattle.place.specs.Place.{start, place_after, comes_before, ArePlacesInOrder}
use Rattle.place.proofs.Order.{comes_still, after_behind, without_first}
use Rattle.lexer.specs.declared.piece.Piece.{Piece}
use Rattle.lexer.specs.declared.piece.Piece.TheVariants as piece
use Rattle.lexer.specs.declared.token.Token.{Token}
use Rattle.lexer.specs.Piece.{piece_at}
use Rattle.lexer.specs.Tokens.{Lexeme, TokensLeave, lexemes, lexemes_of, lexeme_of}
use Rattle.lexer.proofs.Cuts.{piece_cut}
use Rattle.std.proofs.Common.{Ok}

abbrev lexeme_places : List Lexeme → List Place
lexeme_places = map (λ lexeme. lexeme.place)

-- a piece moves its place on
piece_moves : (place : Place) (text : List ℕ) (p : Piece × ℕ) → piece_at text ≡ Ok p → IsTrue (comes_before place (place_after place (take p.1 text)))
piece_moves place text p e =
    let cut = piece_cut text p e in
    after_behind place (take p.1 text) (omega (arith, cut.0, cut.1, length-take p.1 text))

-- what a piece leaves is in order with what stands behind it
piece_order : (q place next : Place) (found : Piece) (bytes : List ℕ) (others : List Lexeme) → IsTrue (comes_before q place) → IsTrue (comes_before place next)
    → ((r : Place) → IsTrue (comes_before r next) → ArePlacesInOrder (r ∷ lexeme_places others))
    → ArePlacesInOrder (q ∷ lexeme_places (lexemes_of found bytes place ++ others))
piece_order q place next piece.Separator bytes others h k more = more q (comes_still q place next h k)
piece_order q place next (piece.Token kind) bytes others h k more = (h, more place k)

order_behind : (text : List ℕ) (ps : List (Piece × ℕ)) (rest : List ℕ) (place q : Place) → TokensLeave text ps rest → IsTrue (comes_before q place)
    → ArePlacesInOrder (q ∷ lexeme_places (lexemes place text ps))
order_behind text [] rest place q h k = tt
order_behind text (p ∷ ps) rest place q h k =
    let next = place_after place (take p.1 text) in
    piece_order q place next p.0 (take p.1 text) (lexemes next (drop p.1 text) ps) k (piece_moves place text p h.0)
    (λ r m. order_behind (drop p.1 text) ps rest next r h.1 m)

-- a place before all of a text
abbrev nowhere : Place
nowhere = record { line = 0; column = 0 }

places_of : (tokens : List Token) → lexeme_places (map lexeme_of tokens) ≡ map (λ token. token.place) tokens
places_of [] = refl
places_of (t ∷ ts) = ap (λ ps. t.place ∷ ps) (places_of ts)

-- the places of the tokens among pieces of a text are in order
pub tokens_in_order : (text : List ℕ) (tokens : List Token) (ps : List (Piece × ℕ)) (rest : List ℕ) → TokensLeave text ps rest
    → map lexeme_of tokens ≡ lexemes start text ps
    → ArePlacesInOrder (map (λ token. token.place) tokens)
tokens_in_order text tokens ps rest h e =
    subst ArePlacesInOrder (places_of tokens)
    (subst (λ l. ArePlacesInOrder (lexeme_places l)) (sym e)
    (without_first nowhere (lexeme_places (lexemes start text ps)) (order_behind text ps rest start nowhere h refl)))
