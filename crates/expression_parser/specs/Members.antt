-- The members of a set, kept as two rows: the designators, and the values of all of them.
-- This doesn't say how members are read: see Expressions in reading.
use Rattle.std.specs.Prelude.{◌≡◌, List, [], ◌∷◌, ◌++◌, length, map, Result, Ok, Err}
use Rattle.std.specs.declared.alloc.Global.{Global}
use Rattle.std.specs.declared.vec.Vec.{Vec}
use Rattle.memory.specs.Refused.{the_refusal}
use Rattle.syntax_tree.specs.Places.{members_of}
use Rattle.syntax_tree.specs.declared.Designator.{Designator}
use Rattle.syntax_tree.specs.declared.Designator.TheVariants.{Single, Range}
use Rattle.syntax_tree.specs.declared.Expr.{Expr}
use Rattle.reading.specs.declared.refusal.Refusal.{Refusal}
use Rattle.reading.specs.declared.refusal.Refusal.TheVariants.{Memory}
use Rattle.reading.specs.Outline as form
use Rattle.reading.specs.Outline.{Outline}
use Rattle.reading.specs.Reading.{Outcome}
use Rattle.reading.specs.Trees.{expr_outline, member_outline, values_of}
use Rattle.token_cursor.specs.declared.cursor.Cursor.{Cursor}

-- how members look
abbrev pub members_look : List Designator → List Expr → List Outline
members_look designators values = map member_outline (members_of designators (map expr_outline values))

-- members are made, with as many values as their designators want; or it stops
abbrev pub MakesMembers : Outcome (List Outline) → Result (Vec Designator Global × Vec Expr Global) Refusal → Cursor
    → Type 0
MakesMembers outcome (Ok made) new =
    (values_of made.0.items ≡ length made.1.items)
    × (outcome ≡ Ok (members_look made.0.items made.1.items, new.rest.now))
MakesMembers outcome (Err why) new = (¬ (why ≡ Memory the_refusal)) → outcome ≡ Err (why, new.rest.now)

-- a member is made, its values put behind the others; or it stops
abbrev pub MakesMember : Outcome Outline → Result Designator Refusal → Cursor → List Expr → List Expr → Type 0
MakesMember outcome (Ok Single) new before after =
    (value : Expr) × (after ≡ before ++ value ∷ []) × (outcome ≡ Ok (form.single (expr_outline value), new.rest.now))
MakesMember outcome (Ok Range) new before after =
    (first : Expr) × (last : Expr) × (after ≡ before ++ first ∷ last ∷ [])
    × (outcome ≡ Ok (form.range (expr_outline first) (expr_outline last), new.rest.now))
MakesMember outcome (Err why) new before after = (¬ (why ≡ Memory the_refusal)) → outcome ≡ Err (why, new.rest.now)
