-- Laws of reading (ISO 7185:1990, 6.2 to 6.10), for every limit of levels: what is read is spelled so; what a well
-- formed tree spells is read so where the tree keeps to the limit, and is refused for nesting where it doesn't; and so
-- no list of tokens has two trees.
use Rattle.std.specs.Prelude.{◌≡◌, ℕ, ◌≤◌, ◌<◌, List, [], IsTrue, Option, Ok, Err}
use Rattle.place.specs.declared.Place.{Place}
use Rattle.lexer.specs.declared.token.Token.{Token}
use Rattle.syntax_tree.specs.declared.Program.{Program}
use Rattle.reading.specs.declared.refusal.Refusal.TheVariants.{TooDeep}
use Rattle.reading.specs.Lexemes.{Spells}
use Rattle.reading.specs.Trees.{program_outline, program_spelling, is_program, nesting, notation}
use Rattle.reading.specs.Declarations.{program}

-- a tree of this outline is well formed, keeps to the limit, and is spelled by all of the tokens
pub record IsReadFrom (limit : ℕ) (tokens left : List Token) (tree : Program) : Type 0 where
  pub well_formed : IsTrue (is_program tree)
  pub nests : nesting tree ≤ limit
  pub spelled : Spells tokens (program_spelling tree)
  pub all : left ≡ []

-- what is read is spelled so
abbrev pub ReadIsSpelled : Type 0
ReadIsSpelled =
    (limit : ℕ) (tokens left : List Token) (tree : Program) → program limit tokens ≡ Ok (program_outline tree, left)
    → IsReadFrom limit tokens left tree

-- a rule stops for nesting
abbrev pub StopsForNesting : ℕ → List Token → Type 0
StopsForNesting limit tokens =
    (at : Option Place) × (left : List Token) × (program limit tokens ≡ Err (TooDeep at, left))

-- what a well formed tree spells is read so, unless the tree nests deeper than the limit
pub record IsRead (limit : ℕ) (tokens : List Token) (tree : Program) : Type 0 where
  pub within : nesting tree ≤ limit → program limit tokens ≡ Ok (program_outline tree, [])
  pub deeper : limit < nesting tree → StopsForNesting limit tokens

abbrev pub SpelledIsRead : Type 0
SpelledIsRead =
    (limit : ℕ) (tokens : List Token) (tree : Program) → IsTrue (is_program tree)
    → Spells tokens (program_spelling tree) → IsRead limit tokens tree

-- well formed trees that the tokens spell are one: they are written alike, each form in its brackets
unfoldable pub HasOneTree : List Token → Type 0
HasOneTree tokens =
    (one two : Program) → IsTrue (is_program one) → IsTrue (is_program two)
    → Spells tokens (program_spelling one) → Spells tokens (program_spelling two) → notation one ≡ notation two

-- each list of tokens has one tree at most, however deep
abbrev pub TokensHaveOneTree : Type 0
TokensHaveOneTree = (tokens : List Token) → HasOneTree tokens
