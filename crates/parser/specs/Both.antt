-- What a rule reads beside what was made before it.
-- This doesn't say what a rule reads: see Reading in reading.
use Rattle.std.specs.Prelude.{◌≡◌, Result, Ok, Err}
use Rattle.reading.specs.declared.refusal.Refusal.{Refusal}

-- both are there; or the second isn't
abbrev pub StandsBeside : {A B : Type 0} → A → Result B Refusal → Result (A × B) Refusal → Type 0
StandsBeside made found (Ok both) = (both.0 ≡ made) × (found ≡ Ok both.1)
StandsBeside made found (Err why) = found ≡ Err why
