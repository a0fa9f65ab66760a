-- What stands before the period of a program.
-- This doesn't say how a program is read: see Declarations in reading.
use Rattle.std.specs.Prelude.{◌≡◌, Result, Ok, Err}
use Rattle.reading.specs.declared.refusal.Refusal.{Refusal}
use Rattle.reading.specs.Declarations.{period_at_end}
use Rattle.reading.specs.Reading.{◌>>◌, pure}
use Rattle.token_cursor.specs.declared.cursor.Cursor.{Cursor}
use Rattle.token_cursor.specs.Cursor.{Makes}

-- what was made is made still where the period stands behind it, and nothing else
abbrev pub IsEnded : {T : Type 0} → Result T Refusal → Cursor → Result T Refusal → Cursor → Type 0
IsEnded (Ok made) old result new = Makes (λ same. same) ((period_at_end >> pure made) old.rest.now) result new
IsEnded (Err why) old result new = (result ≡ Err why) × (new ≡ old)
