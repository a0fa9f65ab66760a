-- The blocks of procedures and functions, by how many levels are left (ISO 7185:1990, 6.2.1).
-- This doesn't say how they are read: see Declarations in reading.
use Rattle.std.specs.Prelude.{ℕ, zero, suc, Bool, if◌then◌else◌, Option, None}
use Rattle.reading.specs.Declarations as read
use Rattle.reading.specs.Expressions.{Below}
use Rattle.reading.specs.Reading.{Reading, too_deep, pure, forward_taken}

-- what is a level below a block, by the place at which it begins
abbrev pub block_below : ℕ → Below
block_below zero = too_deep
block_below (suc levels) = λ at. read.block levels

-- the directive `forward`, where it may stand
abbrev pub may_take_forward : Bool → Reading (Option (Unit {0}))
may_take_forward directive = if directive then forward_taken else pure None
