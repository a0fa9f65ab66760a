-- What the versions of certificates have: all that they differ in is told here. ISO 7185:1990 knows no certificates. It
-- does not say how one is spelled.
use Rattle.std.specs.Prelude.{ℕ, Bool, nat_le, if◌then◌else◌}
use Rattle.domain.specs.declared.versions.Extension.{Extension}
use Rattle.domain.specs.declared.versions.Extension.TheVariants.{Blocks, Boxes, Calls, Constants, Growths, Sides}
use Rattle.domain.specs.declared.versions.Version.{Version}
use Rattle.domain.specs.declared.versions.Version.TheVariants.{One, Three, Two}

-- the number that a version's first line names
abbrev pub number : Version → ℕ
number One = 1
number Two = 2
number Three = 3

-- the number of the first version that has an extension
abbrev pub since : Extension → ℕ
since Blocks = 2
since Growths = 2
since Constants = 3
since Boxes = 3
since Sides = 3
since Calls = 3

abbrev pub has : Version → Extension → Bool
has version extension = nat_le (since extension) (number version)

-- how many spans a fact has at most: two, where elements of a matrix are defined by both their indexes
abbrev pub most_spans : Version → ℕ
most_spans version = if has version Blocks then 2 else 1
