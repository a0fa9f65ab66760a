-- What a rule read, kept in memory.
-- This doesn't say what a rule reads: see Reading in reading.
use Rattle.std.specs.Prelude.{◌≡◌, List, [], ◌∷◌, ◌++◌, Result, Ok, Err}
use Rattle.std.specs.declared.alloc.Global.{Global}
use Rattle.std.specs.declared.boxed.Box.{Box}
use Rattle.memory.specs.Refused.{the_refusal}
use Rattle.reading.specs.declared.refusal.Refusal.{Refusal}
use Rattle.reading.specs.declared.refusal.Refusal.TheVariants.{Memory}

-- it stands behind the others; or it isn't there, or memory ran out
abbrev pub Puts : {T : Type 0} → List T → Result T Refusal → Result (Unit {0}) Refusal → List T → Type 0
Puts before (Ok made) (Ok done) after = after ≡ before ++ made ∷ []
Puts before (Err why) (Ok done) after = ⊥
Puts before found (Err why) after = (¬ (why ≡ Memory the_refusal)) → found ≡ Err why

-- it is in a box; or it isn't there, or memory ran out
abbrev pub Boxes : {T : Type 0} → Result T Refusal → Result (Box T Global) Refusal → Type 0
Boxes (Ok made) (Ok box) = box.value ≡ made
Boxes (Err why) (Ok box) = ⊥
Boxes found (Err why) = (¬ (why ≡ Memory the_refusal)) → found ≡ Err why
