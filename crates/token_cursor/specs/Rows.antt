-- Parts that end at an `end`, each kept as two: the constants and the statement of an arm, the names and the type
-- denoter of fields.
-- This doesn't say how they are read: see Statements and Declarations in reading.
use Rattle.std.specs.Prelude.{◌≡◌, List, Bool, length, Result, Ok, Err}
use Rattle.std.specs.declared.alloc.Global.{Global}
use Rattle.std.specs.declared.vec.Vec.{Vec}
use Rattle.memory.specs.Refused.{the_refusal}
use Rattle.reading.specs.declared.refusal.Refusal.{Refusal}
use Rattle.reading.specs.declared.refusal.Refusal.TheVariants.{Memory}
use Rattle.reading.specs.Reading.{Outcome}
use Rattle.token_cursor.specs.declared.cursor.Cursor.{Cursor}

-- as many are made of one as of the other, which look so; or it stops
abbrev pub MakesRows : {X Y A : Type 0} → (List X → List Y → Bool → A) → Outcome A
    → Result (Vec X Global × Vec Y Global × Bool) Refusal → Cursor → Type 0
MakesRows look outcome (Ok made) new =
    (length made.0.items ≡ length made.1.items)
    × (outcome ≡ Ok (look made.0.items made.1.items made.2, new.rest.now))
MakesRows look outcome (Err why) new = (¬ (why ≡ Memory the_refusal)) → outcome ≡ Err (why, new.rest.now)
