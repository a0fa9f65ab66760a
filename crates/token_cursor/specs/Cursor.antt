-- What the functions of a parser make of the tokens that are left to it, each by a reading.
-- This doesn't say what a reading makes of tokens: see Reading in reading.
use Rattle.std.specs.Prelude.{◌≡◌, Option, Result, Ok, Err}
use Rattle.memory.specs.Refused.{the_refusal}
use Rattle.lexer.specs.declared.token.Kind.{Kind}
use Rattle.reading.specs.declared.refusal.Refusal.{Refusal}
use Rattle.reading.specs.declared.refusal.Refusal.TheVariants.{Memory}
use Rattle.reading.specs.Reading.{Outcome, Reading, ◌>>◌, expect, pure}
use Rattle.token_cursor.specs.declared.cursor.Cursor.{Cursor}

-- what is taken from the tokens that are left, if something is, and what is left then
abbrev pub CursorTakes : {A : Type 0} → Reading (Option A) → Cursor → Option A → Cursor → Type 0
CursorTakes reading old found new = reading old.rest.now ≡ Ok (found, new.rest.now)

-- a form that is made, by how it looks, and what is left then; or why there is none, and where: want of memory, or what
-- the outcome is
abbrev pub Makes : {A T : Type 0} → (T → A) → Outcome A → Result T Refusal → Cursor → Type 0
Makes look outcome (Ok made) new = outcome ≡ Ok (look made, new.rest.now)
Makes look outcome (Err why) new = (¬ (why ≡ Memory the_refusal)) → outcome ≡ Err (why, new.rest.now)

-- what was made is made still where a token of the kind stands behind it
abbrev pub IsFollowed : {T : Type 0} → Result T Refusal → Kind → Cursor → Result T Refusal → Cursor → Type 0
IsFollowed (Ok made) kind old result new = Makes (λ same. same) ((expect kind >> pure made) old.rest.now) result new
IsFollowed (Err why) kind old result new = (result ≡ Err why) × (new ≡ old)
