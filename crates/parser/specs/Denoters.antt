-- An array type, a set type and a record type behind `packed` or none (ISO 7185:1990, 6.4.3.1).
-- This doesn't say how they are read: see Declarations in reading.
use Rattle.std.specs.Prelude.{Bool}
use Rattle.reading.specs.Declarations as read
use Rattle.reading.specs.Outline as form
use Rattle.reading.specs.Outline.{Outline}
use Rattle.reading.specs.Reading.{Reading, ◌>>=◌, pure}

abbrev pub array_type : Bool → Reading Outline → Reading Outline
array_type packed denoter = read.array denoter >>= (λ a. pure (form.array packed a.0 a.1 a.2))

abbrev pub set_type : Bool → Reading Outline → Reading Outline
set_type packed denoter = read.set_type denoter >>= (λ s. pure (form.set_type packed s.0 s.1))

abbrev pub record_type : Bool → Reading Outline → Reading Outline
record_type packed denoter = read.record_type denoter >>= (λ r. pure (form.record_type packed r.0 r.1 r.2))
