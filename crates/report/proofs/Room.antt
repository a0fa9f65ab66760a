-- The typed tree of a source has room in a text of code: it has few sites and points, and they stand at places of the
-- source's tokens, each of which such a text can spell.
use Rattle.std.proofs.Common.{◌≡◌, ℕ, zero, suc, ◌+◌, ◌<◌, ◌≤◌, Bool, true, false, nat_le, List, [], ◌∷◌, ◌++◌, Option, Some, None, Ok, Err}
use Rattle.std.proofs.Common.{length, map, take, drop, IfSome, Contains, slice_index_or, ◌==◌, refl, sym, ap, subst, ◌∙◌, arith}
use Rattle.std.proofs.lemmas.Bool.{and_from}
use Rattle.std.proofs.lemmas.Bool.Decides.{nat_tests}
use Rattle.std.proofs.lemmas.List.{length-map, length-take, length-drop}
use Rattle.place.specs.declared.Place.{Place}
use Rattle.place.specs.Place.{past, place_after, start}
use Rattle.lexer.specs.declared.token.Token.{Token}
use Rattle.lexer.specs.declared.piece.Piece.{Piece}
use Rattle.lexer.specs.declared.piece.Piece.TheVariants as piece
use Rattle.lexer.specs.Piece.{piece_at}
use Rattle.lexer.specs.Tokens.{IsTokenList, TokensLeave, Lexeme, lexeme_of, lexemes, lexemes_of}
use Rattle.lexer.proofs.Symbols.{nothing_at}
use Rattle.syntax_tree.specs.declared.Program.{Program}
use Rattle.syntax_tree.specs.Places.{program_places}
use Rattle.reading.specs.Lexemes.{Spelling, Spells}
use Rattle.reading.specs.Trees.{program_spelling}
use Rattle.reading.proofs.Places.{kept, kept_places, program_kept}
use Rattle.parser.specs.Syntax.{IsTreeOf}
use Rattle.typed_tree.specs.declared.site.Site.{Site}
use Rattle.typed_tree.specs.declared.site.Point.{Point}
use Rattle.typed_tree.specs.declared.tree.Tree.{Tree}
use Rattle.typed_tree.specs.Ids.{Stands}
use Rattle.typed_tree.specs.Look.{tree_look}
use Rattle.typing.specs.Passing.{After, after}
use Rattle.typing.specs.Sound.{IsTyped, stands}
use Rattle.typing_laws.specs.Controls.{Each}
use Rattle.typing_laws.proofs.Programs.{typing_is_lawful}
use Rattle.pcode_assembler.specs.Lines.{is_place}
use Rattle.code_generator.specs.Tables.{has_room, is_spelled, points_are_spelled, sites_are_spelled}

-- ---- how far a place moves

-- behind so many bytes
record Moves (old new : Place) (count : ℕ) : Type 0 where
  line : 1 ≤ new.line
  column : 1 ≤ new.column
  lines : new.line ≤ old.line + count
  columns : new.column ≤ old.column + count

past_moves : (place : Place) (byte : ℕ) → 1 ≤ place.line → 1 ≤ place.column → Moves place (past place byte) 1
past_moves place byte line column = by (byte == 10) refl
  where
    by : (ends : Bool) → (byte == 10) ≡ ends → Moves place (past place byte) 1
    by true is = rw is record { line = omega arith; column = omega arith; lines = omega arith; columns = omega (arith, column) }
    by false is = rw is record { line = line; column = omega arith; lines = omega arith; columns = omega arith }

moves : (place : Place) (bytes : List ℕ) → 1 ≤ place.line → 1 ≤ place.column → Moves place (place_after place bytes) (length bytes)
moves place [] line column = record { line = line; column = column; lines = omega arith; columns = omega arith }
moves place (byte ∷ bytes) line column =
    let one = past_moves place byte line column in
    let more = moves (past place byte) bytes one.line one.column in
    record {
      line = more.line;
      column = more.column;
      lines = omega (arith, one.lines, more.lines);
      columns = omega (arith, one.columns, more.columns);
    }

-- ---- the places of tokens

-- a text of code can spell it
record IsWithin (place : Place) : Type 0 where
  line : 1 ≤ place.line
  column : 1 ≤ place.column
  lines : place.line ≤ 1048576
  columns : place.column ≤ 1048576

-- a piece takes a byte
takes : (text : List ℕ) (p : Piece × ℕ) → piece_at text ≡ Ok p → 1 ≤ length text
takes [] p is = absurd (let both : Err _ ≡ Ok p = sym nothing_at ∙ is in cc)
takes (byte ∷ text) p is = omega arith

lexemes_within : (place : Place) (text : List ℕ) (pieces : List (Piece × ℕ)) → TokensLeave text pieces [] → 1 ≤ place.line → 1 ≤ place.column
    → place.line + length text ≤ 1048577 → place.column + length text ≤ 1048577 → Each (λ one. IsWithin one.place) (lexemes place text pieces)
lexemes_within place text [] leaves line column lines columns = tt
lexemes_within place text (p ∷ ps) leaves line column lines columns =
    let some = takes text p leaves.0 in
    let more = moves place (take p.1 text) line column in
    let taken = length-take p.1 text in
    let left = length-drop p.1 text in
    let rest = lexemes_within (place_after place (take p.1 text)) (drop p.1 text) ps leaves.1 more.line more.column
    (omega (arith, more.lines, taken, left, lines)) (omega (arith, more.columns, taken, left, columns)) in
    by p.0 some (lexemes (place_after place (take p.1 text)) (drop p.1 text) ps) rest
  where
    by : (one : Piece) → 1 ≤ length text → (others : List Lexeme) → Each (λ l. IsWithin l.place) others
        → Each (λ l. IsWithin l.place) (lexemes_of one (take p.1 text) place ++ others)
    by piece.Separator some others rest = rest
    by (piece.Token k) some others rest =
        (record { line = line; column = column; lines = omega (arith, some, lines); columns = omega (arith, some, columns) }, rest)

tokens_within : (source : List ℕ) (list : List Lexeme) → IsTokenList source list → Each (λ one. IsWithin one.place) list
tokens_within source list is =
    subst (Each (λ one. IsWithin one.place)) (sym is.3)
    (lexemes_within start source is.1 is.2 (omega arith) (omega arith) (omega (arith, is.0)) (omega (arith, is.0)))

-- ---- the places that a tree keeps

kept_one : (token : Token) (o : Option Place) (others : List Place) → IfSome o (λ place. token.place ≡ place) → IsWithin token.place
    → Each IsWithin others → Each IsWithin (kept o others)
kept_one token None others is here rest = rest
kept_one token (Some place) others is here rest = (subst IsWithin is here, rest)

kept_within : (s : Spelling) (tokens : List Token) → Spells tokens s → Each (λ one. IsWithin one.place) (map lexeme_of tokens)
    → Each IsWithin (kept_places s)
kept_within [] tokens h all = tt
kept_within (l ∷ s) tokens h all =
    let those = subst (λ (ts : List Token). Each (λ (one : Lexeme). IsWithin one.place) (map lexeme_of ts)) h.2 all in
    kept_one h.0 l.place (kept_places s) h.3.place those.0 (kept_within s h.1 h.4 those.1)

each_has : {A : Type 0} (Holds : A → Type 0) (x : A) (xs : List A) → Each Holds xs → (k : ℕ) → k < length xs → slice_index_or xs k x ≡ x → Holds x
each_has Holds x [] all k within is = absurd (omega (arith, within))
each_has Holds x (y ∷ xs) all zero within is = subst Holds is all.0
each_has Holds x (y ∷ xs) all (suc k) within is = each_has Holds x xs all.1 k (omega (arith, within)) is

places_within : (source : List ℕ) (program : Program) (tokens : List Token) → IsTokenList source (map lexeme_of tokens) → IsTreeOf program tokens
    → (place : Place) → Contains (program_places program) place → IsWithin place
places_within source program tokens list is place has =
    each_has IsWithin place (program_places program)
    (subst (Each IsWithin) (sym (program_kept program))
    (kept_within (program_spelling program) tokens is.spelled (tokens_within source (map lexeme_of tokens) list)))
    has.0 has.1 has.2

-- ---- the tables of a tree

within_spelled : (place : Place) → IsWithin place → is_spelled place ≡ true
within_spelled place is = and_from _ _ (by place.line is.line is.lines) (by place.column is.column is.columns)
  where
    by : (n : ℕ) → 1 ≤ n → n ≤ 1048576 → is_place n ≡ true
    by n low high = grind (arith, nat_tests)

first_has : {A : Type 0} (x : A) (xs : List A) → Contains (x ∷ xs) x
first_has x xs = (0, omega arith, refl)

later_has : {A : Type 0} (x y : A) (xs : List A) → Contains xs y → Contains (x ∷ xs) y
later_has x y xs has = (suc has.0, omega (arith, has.1), has.2)

sites_spelled : (sites : List Site) → ((site : Stands) → Contains (map stands sites) site → IsWithin site.1) → sites_are_spelled sites ≡ true
sites_spelled [] all = refl
sites_spelled (site ∷ sites) all =
    and_from _ _ (within_spelled site.place (all (stands site) (first_has (stands site) (map stands sites))))
    (sites_spelled sites (λ one has. all one (later_has (stands site) one (map stands sites) has)))

abbrev place_of_point : Point → Place
place_of_point point = point.place

points_spelled : (points : List Point) → ((place : Place) → Contains (map place_of_point points) place → IsWithin place)
    → points_are_spelled points ≡ true
points_spelled [] all = refl
points_spelled (point ∷ points) all =
    and_from _ _ (within_spelled point.place (all point.place (first_has point.place (map place_of_point points))))
    (points_spelled points (λ one has. all one (later_has point.place one (map place_of_point points) has)))

few : (n : ℕ) → n ≤ 1000000 → nat_le n 1000000 ≡ true
few n h = grind (arith, nat_tests)

-- a typed tree of a source has room
pub typed_has_room : (tree : Tree) (source : List ℕ) (program : Program) (tokens : List Token) → IsTokenList source (map lexeme_of tokens)
    → IsTreeOf program tokens → IsTyped program tree → has_room tree ≡ true
typed_has_room tree source program tokens list is typed =
    let a : After (Unit {0}) = after tt (tree_look tree) typed.left in
    let lawful = typing_is_lawful program a typed.typed in
    let within = places_within source program tokens list is in
    let sites = typed.is_left.sites in
    let points = typed.is_left.points in
    let site_count = sym (length-map tree.sites.items stands) ∙ ap length sites in
    let point_count = sym (length-map tree.points.items place_of_point) ∙ ap length points in
    and_from _ _ (few (length tree.sites.items) (omega (arith, site_count, lawful.few_sites)))
    (and_from _ _ (few (length tree.points.items) (omega (arith, point_count, lawful.few_points)))
    (and_from _ _
    (sites_spelled tree.sites.items
    (λ site has. within site.1 (lawful.sites_there site (subst (λ (l : List Stands). Contains l site) sites has))))
    (points_spelled tree.points.items
    (λ place has. within place (lawful.points_there place (subst (λ (l : List Place). Contains l place) points has))))))
