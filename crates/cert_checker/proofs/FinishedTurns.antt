-- How many turns a for statement has finished where one begins: no more than there are between the bounds, none before
-- the first value, and one more before the next.
use Rattle.std.proofs.Common.{arith, ◌≡◌, ◌+◌, ℤ, pos, ◌+ℤ◌, ◌-ℤ◌}
use Rattle.std.specs.Prelude.{◌≤ℤ◌}
use Rattle.std.proofs.lemmas.Int.{ints}
use Rattle.types.specs.Types.{natural}
use Rattle.typed_tree.specs.declared.tree.Direction.{Direction}
use Rattle.typed_tree.specs.declared.tree.Direction.TheVariants.{To, DownTo}
use Rattle.domain.specs.Interval.{Interval, HasMember}
use Rattle.meaning.specs.Counting.{next_value, values_before}
use Rattle.checker_loops.proofs.OnWay.{Between}
use Rattle.checker_loops.specs.Growths.{most_between}

-- a number that isn't negative is as many
natural-is : (n : ℤ) → pos 0 ≤ℤ n → pos (natural n) ≡ n
natural-is n positive = grind (arith, ints)

natural-next : (n : ℤ) → pos 0 ≤ℤ n → natural (n +ℤ pos 1) ≡ natural n + 1
natural-next n positive = grind (arith, ints)

pub none-before : (direction : Direction) (x : ℤ) → values_before direction x x ≡ 0
none-before To x = grind (arith, ints)
none-before DownTo x = grind (arith, ints)

pub one-more : (direction : Direction) (x y n : ℤ) → Between direction x y n
    → values_before direction x (next_value direction n) ≡ values_before direction x n + 1
one-more To x y n (after, before) = grind (arith, ints)
one-more DownTo x y n (after, before) = grind (arith, ints)

pub at-most : (direction : Direction) (first last : Interval) (x y n : ℤ) → HasMember first x → HasMember last y → Between direction x y n
    → pos (values_before direction x n) ≤ℤ most_between direction first last
at-most To first last x y n one other (after, before) =
    let low = one.0 in
    let high = other.1 in
    let is = natural-is (n -ℤ x) (omega (arith, ints)) in
    omega (arith, ints, is)
at-most DownTo first last x y n one other (after, before) =
    let low = other.0 in
    let high = one.1 in
    let is = natural-is (x -ℤ n) (omega (arith, ints)) in
    omega (arith, ints, is)
