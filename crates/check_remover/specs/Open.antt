-- Which ids are those of open sites, told by a row of flags. It does not say which instructions have such an id.
use Rattle.std.specs.Prelude.{◌≡◌, ℕ, ◌<◌, Bool, false, List, length, slice_index_or}
use Rattle.pcode_assembler.specs.declared.code.Site.{Site}
use Rattle.check_remover.specs.Strip.{is_among}

-- the flag at each place of the row tells whether one of the sites has that place as its id
abbrev pub AreFlagsOf : List Site → List Bool → Type 0
AreFlagsOf sites flags = (id : ℕ) → id < length flags → slice_index_or flags id false ≡ is_among sites id
