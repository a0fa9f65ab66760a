-- How calls answer that compute a typing: what it answers, or exactly its fault; or want of memory, which comes from
-- refused growths alone. It says nothing of what a typing answers.
use Rattle.std.specs.Prelude.{◌≡◌, ◌⊎◌, [], Result, Ok, Err}
use Rattle.memory.specs.Refused.{the_refusal}
use Rattle.typed_tree.specs.declared.fault.TypeFault.{TypeFault}
use Rattle.typed_tree.specs.declared.fault.TypeFault.TheVariants.{Memory}
use Rattle.typed_tree.specs.Look.{Look}
use Rattle.typing.specs.Passing.{Passed, After, after}
use Rattle.typing_rules.specs.Checked.{Checked}

-- a step that grows nothing: its outcome, and what is known then
abbrev pub Tells : {A : Type 0} → Checked (After A) → Result A TypeFault → Passed → Type 0
Tells outcome (Ok answer) new = outcome ≡ Ok (after answer [] new)
Tells outcome (Err why) new = outcome ≡ Err why

-- why there is no answer: want of memory, or the fault of the outcome
abbrev pub IsFault : {A : Type 0} → Checked A → TypeFault → Type 0
IsFault outcome why = (why ≡ Memory the_refusal) ⊎ (outcome ≡ Err why)

-- a step that may lack memory
abbrev pub TypingTakes : {A : Type 0} → Checked (After A) → Result A TypeFault → Passed → Type 0
TypingTakes outcome (Ok answer) new = outcome ≡ Ok (after answer [] new)
TypingTakes outcome (Err why) new = IsFault outcome why

-- a form that is made, by what it answers and how it looks
abbrev pub Makes : {A T : Type 0} → (T → A) → (T → Look) → Checked (After A) → Result T TypeFault → Passed → Type 0
Makes answer look outcome (Ok made) new = outcome ≡ Ok (after (answer made) (look made) new)
Makes answer look outcome (Err why) new = IsFault outcome why
