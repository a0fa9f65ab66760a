-- The levels of the operators of chains.
use Rattle.std.specs.Prelude.{ℕ}
use Rattle.token_cursor.specs.declared.operator.Level.{Level}
use Rattle.token_cursor.specs.declared.operator.Level.TheVariants.{Sum, Product}
use Rattle.reading.specs.Outline.{sum_level, product_level}

-- the level of the chains of these operators
abbrev pub level_number : Level → ℕ
level_number Sum = sum_level
level_number Product = product_level
