-- What a writer got of a text that was written to it: all of it, or a beginning where it failed. It says nothing of
-- what the text is.
use Rattle.std.specs.Prelude.{◌≡◌, ◌≤◌, ◌+◌, ℕ, List, [], ◌++◌}
use Rattle.std.specs.Io.KnownBytes.{Appends}
use Rattle.run_ports.specs.Seen.{Sunk}

-- the writer got the text: all of it where no call failed, else a beginning, and then no call came after the failure
pub record Gets (before after : Sunk) (text : List ℕ) : Type 0 where
  pub got : List ℕ
  pub lost : List ℕ
  pub in_order : got ++ lost ≡ text
  pub grew : Appends before.contents after.contents got
  pub whole : after.failures ≡ before.failures → lost ≡ []
  pub at_most_one : after.failures ≤ before.failures + 1
