-- The headline: what a checker's list of open sites promises of a program, for every input and every number of turns
-- (ISO 7185:1990, 3.1). It does not say that an open site can err, that a run ends, or that memory and the store
-- suffice.
use Rattle.std.specs.Prelude.{ℕ, List, map}
use Rattle.lexer.specs.declared.token.Token.{Token}
use Rattle.lexer.specs.Tokens.{IsTokenList, lexeme_of}
use Rattle.syntax_tree.specs.declared.Program.{Program}
use Rattle.parser.specs.Syntax.{IsTreeOf}
use Rattle.typed_tree.specs.declared.tree.Tree.{Tree}
use Rattle.typed_tree.specs.declared.site.Site.{Site}
use Rattle.typing.specs.Sound.{IsTyped}
use Rattle.cert_checker.specs.Promise.{ClosedNeverErr}
use Rattle.pcode_assembler.specs.declared.code.Code.{Code}
use Rattle.code_generator.specs.Follows.{Follows}

-- For every input text and every number of turns the program's meaning commits no error at a site outside the list, and
-- the code without the checks of all other sites writes what that meaning writes and stops as it stops.
pub record Headline (tree : Tree) (open_sites : List Site) (stripped : Code) : Type 0 where
  pub closed_never_err : ClosedNeverErr tree open_sites
  pub follows : Follows stripped tree

-- a source text is written as a program: its tokens spell the program's tree
abbrev pub IsWrittenAs : List ℕ → Program → Type 0
IsWrittenAs source program = (tokens : List Token) × IsTokenList source (map lexeme_of tokens) × IsTreeOf program tokens

-- the typed tree of a source text
abbrev pub IsTypedTreeOf : Tree → List ℕ → Type 0
IsTypedTreeOf tree source = (program : Program) × IsWrittenAs source program × IsTyped program tree
