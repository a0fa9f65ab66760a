-- What is seen of a reader and of a writer from outside. It does not say what a call does.
use Rattle.std.specs.Prelude.{ℕ, List, Option}

-- what is seen of a reader
pub record Feeds : Type 0 where
  -- the bytes that are left, where they are known
  pub remaining : Option (List ℕ)
  -- how many bytes it gave at each call so far, where that is known: 0 at one that failed
  pub asked : Option (List ℕ)
  -- how many calls have failed
  pub failures : ℕ

-- what is seen of a writer
pub record Sunk : Type 0 where
  -- the bytes that it holds, where they are known
  pub contents : Option (List ℕ)
  -- how long the pieces were that it was offered, where that is known
  pub offered : Option (List ℕ)
  -- how many calls have failed: with an error, or by taking no byte of a piece that isn't empty
  pub failures : ℕ
