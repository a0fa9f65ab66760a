-- Where a byte of a text stands: its line and its column in bytes, both counted from 1. A line ends with
-- byte 10 (ISO 7185:1990, 6.1.8, leaves the form of a line's end open).
-- This says nothing of which bytes a text may have.
use Rattle.std.specs.Prelude.{ℕ, ◌+◌, ◌&&◌, ◌||◌, Bool, IsTrue, List, [], ◌∷◌, ◌++◌, if◌then◌else◌, ◌==◌, nat_eq}
use Rattle.std.specs.Prelude.{nat_lt, fold, decimal, codes}
use Rattle.place.specs.declared.Place.{Place}

-- the place of a text's first byte
abbrev pub start : Place
start = record { line = 1; column = 1 }

-- the place just past a byte
abbrev pub past : Place → ℕ → Place
past p b = if b == 10 then record { line = p.line + 1; column = 1 } else record { line = p.line; column = p.column + 1 }

-- the place just past bytes that begin at a place
abbrev pub place_after : Place → List ℕ → Place
place_after = fold past

-- the place just past the bytes that a text begins with
abbrev pub place_of : List ℕ → Place
place_of = place_after start

-- a place as it is printed, `LINE:COLUMN`
abbrev pub place_text : Place → List ℕ
place_text p = decimal p.line ++ codes ":" ++ decimal p.column

-- one place comes before another: on an earlier line, or on the same line in an earlier column
abbrev pub comes_before : Place → Place → Bool
comes_before first second =
    nat_lt first.line second.line || (nat_eq first.line second.line && nat_lt first.column second.column)

-- places in the order of the text, each before the next
abbrev pub ArePlacesInOrder : List Place → Type 0
ArePlacesInOrder [] = Unit {0}
ArePlacesInOrder (place ∷ []) = Unit {0}
ArePlacesInOrder (place ∷ next ∷ others) = IsTrue (comes_before place next) × ArePlacesInOrder (next ∷ others)
