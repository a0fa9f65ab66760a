-- The arms of a case, as they are read.
use Rattle.std.proofs.Common.{[], ◌∷◌, map, refl, ap}
use Rattle.reading.specs.Outline as form
use Rattle.reading.specs.Outline.{Outline}
use Rattle.reading.specs.Reading.{Reading}
use Rattle.reading.specs.Statements as read
use Rattle.reading.specs.Trees.{constant_outline, stmt_outline}
use Rattle.parser.specs.Built.{constants_outlines, arms_outlines}
use Rattle.parser.proofs.Pairs.{Pushes}

pub arms_push : (statement : Reading Outline) → Pushes constants_outlines stmt_outline form.arm read.row statement arms_outlines
arms_push statement [] [] x y e = refl
arms_push statement [] (b ∷ ys) x y e = absurd cc
arms_push statement (a ∷ xs) [] x y e = absurd cc
arms_push statement (a ∷ xs) (b ∷ ys) x y e =
    ap (λ l. form.arm (map constant_outline a.items) (stmt_outline b) ∷ l) (arms_push statement xs ys x y cc)
