-- The chains of the levels of operators (ISO 7185:1990, 6.7.1), each with its operands: simple expressions and terms.
-- This doesn't say how a chain is read: see Expressions in reading.
use Rattle.std.specs.Prelude.{ℕ, List}
use Rattle.reading.specs.Outline.{Outline}
use Rattle.reading.specs.Reading.{Reading, Turn, loop}
use Rattle.reading.specs.Expressions.{chain, factor, link_turn, term, signed}
use Rattle.token_cursor.specs.Level.{level_number}
use Rattle.token_cursor.specs.declared.operator.Level.{Level}
use Rattle.token_cursor.specs.declared.operator.Level.TheVariants.{Sum, Product}

-- the first operand of a chain, and one behind an operator
abbrev pub first_operand : Level → ℕ → Reading Outline
first_operand Sum levels = signed (term levels)
first_operand Product levels = factor levels

abbrev pub operand : Level → ℕ → Reading Outline
operand Sum levels = term levels
operand Product levels = factor levels

abbrev pub chain_of : Level → ℕ → Reading Outline
chain_of level levels = chain (level_number level) (first_operand level levels) (operand level levels)

-- the operators of a chain, each with the operand behind it
abbrev pub turn_of : Level → ℕ → Unit {0} → Reading (Turn (Unit {0}) Outline (Unit {0}))
turn_of level levels = link_turn (level_number level) (operand level levels)

abbrev pub links : Level → ℕ → Reading (List Outline × Unit {0})
links level levels = loop (turn_of level levels) tt
