-- A text that is whole.
use Rattle.std.proofs.Common.{◌≡◌, ℕ, List, Result, Ok, Err, ◌∙◌}
use Rattle.std.specs.Result.{IfOk}
use Rattle.text_lines.specs.declared.writer.Writer.{Writer}
use Rattle.text_lines.specs.Writing.{IsWhole, written}

-- a writer that finishes gives what it has written
pub finished : {V E : Type 0} (answer : Result V E) (items : V → List ℕ) (writer : Writer) (text : List ℕ)
    → IfOk answer (λ made. IsWhole writer × (items made ≡ written writer)) → (IsWhole writer → written writer ≡ text)
    → IfOk answer (λ made. items made ≡ text)
finished (Ok made) items writer text given is = given.1 ∙ is given.0
finished (Err fault) items writer text given is = tt
