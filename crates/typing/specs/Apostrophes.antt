-- The characters of a string one after another, as far as the apostrophe that closes it (ISO 7185:1990, 6.1.7). It says
-- nothing of what a string means.
use Rattle.std.specs.Prelude.{◌≡◌, ◌<◌, ◌==◌, ℕ, List, [], ◌∷◌, length, Option, Some, None, option_map, if◌then◌else◌}
use Rattle.typing.specs.Strings.{characters_behind}

-- no character, if nothing stands there but the apostrophe that closes a string
abbrev pub closed : List ℕ → Option (List ℕ)
closed (b ∷ []) = if b == 39 then Some [] else None
closed other = None

-- these bytes are those of a character, and fewer behind them
pub record BeginsWith (c : ℕ) (rest bytes : List ℕ) : Type 0 where
  pub is : characters_behind bytes ≡ option_map (λ cs. c ∷ cs) (characters_behind rest)
  pub fewer : length rest < length bytes
