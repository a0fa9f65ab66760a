-- The fields of a record, as they are read.
use Rattle.std.proofs.Common.{◌≡◌, List, [], ◌∷◌, map, Vec, refl, ap}
use Rattle.std.specs.declared.alloc.Global.{Global}
use Rattle.syntax_tree.specs.declared.Name.{Name}
use Rattle.reading.specs.Outline as form
use Rattle.reading.specs.Outline.{Outline}
use Rattle.reading.specs.Reading.{Reading}
use Rattle.reading.specs.Declarations as read
use Rattle.reading.specs.Trees.{name_outline, denoter_outline}
use Rattle.parser.specs.Fields.{fields_look}
use Rattle.parser.proofs.Pairs.{pair, Pushes}

-- how the names before a denoter look
abbrev pub names_look : Vec Name Global → List Outline
names_look names = map name_outline names.items

pub fields_are : (denoter : Reading Outline) → read.fields denoter ≡ pair names_look denoter_outline form.fields read.field_names denoter fields_look
unfolding read.fields
fields_are denoter = refl

pub fields_push : (denoter : Reading Outline) → Pushes names_look denoter_outline form.fields read.field_names denoter fields_look
fields_push denoter [] [] x y e = refl
fields_push denoter [] (b ∷ ys) x y e = absurd cc
fields_push denoter (a ∷ xs) [] x y e = absurd cc
fields_push denoter (a ∷ xs) (b ∷ ys) x y e =
    ap (λ l. form.fields (map name_outline a.items) (denoter_outline b) ∷ l) (fields_push denoter xs ys x y cc)
