-- What a turn of the rule of selectors makes: a selector, whose index expression, if it has one, is put behind those of
-- the selectors before it.
-- This doesn't say how selectors are read: see Expressions in reading.
use Rattle.std.specs.Prelude.{◌≡◌, Bool, true, false, List, [], ◌∷◌, ◌++◌, Option, Some, None, Result, Ok, Err}
use Rattle.memory.specs.Refused.{the_refusal}
use Rattle.place.specs.declared.Place.{Place}
use Rattle.syntax_tree.specs.declared.Expr.{Expr}
use Rattle.syntax_tree.specs.declared.Selector.{Selector}
use Rattle.syntax_tree.specs.declared.Selector.TheVariants.{Index, Field}
use Rattle.reading.specs.declared.refusal.Refusal.{Refusal}
use Rattle.reading.specs.declared.refusal.Refusal.TheVariants.{Memory}
use Rattle.reading.specs.Lexemes.{identifier}
use Rattle.reading.specs.Outline as form
use Rattle.reading.specs.Outline.{Outline}
use Rattle.reading.specs.Trees.{expr_outline}
use Rattle.reading.specs.Reading.{Outcome, Turn, more, ends}
use Rattle.token_cursor.specs.declared.cursor.Cursor.{Cursor}

-- whether a selector is an index, behind which its brackets are open
abbrev pub is_index : Selector → Bool
is_index (Index place joined) = true
is_index (Field name) = false

-- an index behind a comma, or behind its opening bracket, by whether brackets are open before it
abbrev pub index_outline : Bool → Bool → Place → Outline → Outline
index_outline within true place index = form.joined_index within place index
index_outline within false place index = form.index within place index

-- a selector is made, or the end of the selectors
abbrev pub Selects : Bool → Outcome (Turn Bool Outline Outline) → Result (Option Selector) Refusal → Cursor
    → List Expr → List Expr → Type 0
Selects within outcome (Ok None) new before after =
    (outcome ≡ Ok (ends (form.closing within), new.rest.now)) × (after ≡ before)
Selects within outcome (Ok (Some (Field name))) new before after =
    (outcome ≡ Ok (more false (form.field within (identifier name)), new.rest.now)) × (after ≡ before)
Selects within outcome (Ok (Some (Index place joined))) new before after =
    (index : Expr) × (after ≡ before ++ index ∷ [])
    × (outcome ≡ Ok (more true (index_outline within joined place (expr_outline index)), new.rest.now))
Selects within outcome (Err why) new before after = (¬ (why ≡ Memory the_refusal)) → outcome ≡ Err (why, new.rest.now)

-- an index is made behind the token that begins it
abbrev pub SelectsIndex : Outcome Outline → Place → Bool → Result (Option Selector) Refusal → Cursor
    → List Expr → List Expr → Type 0
SelectsIndex outcome place joined (Ok found) new before after =
    (found ≡ Some (Index place joined)) × (index : Expr) × (after ≡ before ++ index ∷ [])
    × (outcome ≡ Ok (expr_outline index, new.rest.now))
SelectsIndex outcome place joined (Err why) new before after =
    (¬ (why ≡ Memory the_refusal)) → outcome ≡ Err (why, new.rest.now)
