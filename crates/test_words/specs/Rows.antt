-- The text that a call gives for a row of a table. It does not say what else the call could give.
use Rattle.std.specs.Prelude.{◌≡◌, ℕ, List, Ok, Result, String, string_bytes}
use Rattle.std.specs.Borrow.{Bor}
use Rattle.std.specs.declared.alloc.Global.{Global}

-- at a reference to the row the call gave a text, and it has these bytes
abbrev pub GivesText : {Row E : Type 0} → (Bor Row → Result (String Global) E → Type 0) → Row → List ℕ → Type 0
GivesText {Row} post row bytes =
    (shown : Bor Row) × (text : String Global) × (shown.now ≡ row) × post shown (Ok text) × (string_bytes text ≡ bytes)
