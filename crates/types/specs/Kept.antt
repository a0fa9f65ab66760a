-- Tables of types as programs keep them. It says nothing of the rules of types.
use Rattle.std.specs.Prelude.{List, map}
use Rattle.types.specs.Forms.{Form, form_of}
use Rattle.types.specs.Types.{Counted}
use Rattle.types.specs.declared.table.Entry.{Entry}

-- the forms of the types that a table keeps
abbrev pub forms_of : List Entry → List Form
forms_of entries = map (λ entry. form_of entry.form) entries

-- a type that a table keeps, with its cells
abbrev pub counted_of : Entry → Counted
counted_of entry = record { form = form_of entry.form; cells = entry.cells }
