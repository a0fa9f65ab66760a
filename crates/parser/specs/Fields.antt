-- The fields of a record, kept as two rows: the names, and the type denoter behind each.
-- This doesn't say how they are read: see Declarations in reading.
use Rattle.std.specs.Prelude.{List, map}
use Rattle.std.specs.declared.alloc.Global.{Global}
use Rattle.std.specs.declared.vec.Vec.{Vec}
use Rattle.syntax_tree.specs.Places.{fields_of}
use Rattle.syntax_tree.specs.declared.Name.{Name}
use Rattle.syntax_tree.specs.declared.TypeDenoter.{TypeDenoter}
use Rattle.reading.specs.Outline.{Outline}
use Rattle.reading.specs.Trees.{fields_outline, denoter_outline}

-- how the fields of a record look
abbrev pub fields_look : List (Vec Name Global) → List TypeDenoter → List Outline
fields_look names denoters = map fields_outline (fields_of names (map denoter_outline denoters))
