-- The rule of a constant behind its sign.
-- This doesn't say how a value is read: see Statements in reading.
use Rattle.reading.specs.Outline as form
use Rattle.reading.specs.Outline.{Outline}
use Rattle.reading.specs.Reading.{Reading, ◌>>=◌, pure}
use Rattle.reading.specs.Statements.{value}

-- signed = value, behind a sign or none
abbrev pub signed : Outline → Reading Outline
signed sign = value >>= (λ v. pure (form.constant sign v))
