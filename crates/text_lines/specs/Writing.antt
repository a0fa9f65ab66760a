-- How the text of a writer grows. It does not say what is written.
use Rattle.std.specs.Prelude.{◌≡◌, ℕ, None, List, ◌++◌}
use Rattle.text_lines.specs.declared.writer.Writer.{Writer}

-- the text so far, and that memory has not run out, so that it is all that was appended
abbrev pub written : Writer → List ℕ
written writer = writer.text.items

abbrev pub IsWhole : Writer → Type 0
IsWhole writer = writer.refused ≡ None

-- bytes are appended to a text, unless memory ran out
abbrev pub Appends : List ℕ → (old new : Writer) → Type 0
Appends bytes old new = IsWhole new → IsWhole old × (written new ≡ written old ++ bytes)
