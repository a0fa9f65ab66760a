-- Lists whose parts hold no other of their kind: how they are read, and what the rules of their parts leave.
-- This doesn't say how one part is read: see Declarations in reading.
use Rattle.std.specs.Prelude.{◌≡◌, ◌<◌, ◌≤◌, List, [], length, Ok}
use Rattle.lexer.specs.declared.token.Symbol.{Symbol}
use Rattle.lexer.specs.declared.token.Symbol.TheVariants as symbol
use Rattle.lexer.specs.declared.token.Token.{Token}
use Rattle.reading.specs.Outline.{Outline}
use Rattle.reading.specs.Reading.{Reading, ◌>>=◌, ◌>>◌, pure, on, separated, symbol_taken, expect_symbol}

-- the rule leaves no more tokens than there were
pub record LeavesNoMore {A : Type 0} (rule : Reading A) : Type 0 where
  pub no_more : (tokens others : List Token) (made : A) → rule tokens ≡ Ok (made, others)
      → length others ≤ length tokens

-- the rule leaves fewer
pub record LeavesFewer {A : Type 0} (rule : Reading A) : Type 0 where
  pub fewer : (tokens others : List Token) (made : A) → rule tokens ≡ Ok (made, others)
      → length others < length tokens

-- parts with a symbol between each two, and the symbol that ends them
abbrev pub enclosed : Symbol → Symbol → Reading Outline → Reading (List Outline)
enclosed s end part = separated s part >>= (λ found. expect_symbol end >> pure found)

-- the same in parentheses, or none where no parentheses come
abbrev pub in_parentheses : Symbol → Reading Outline → Reading (List Outline)
in_parentheses s part =
    on (symbol_taken symbol.OpenParenthesis) (λ place. enclosed s symbol.CloseParenthesis part) (pure [])
