-- Records of with statements (ISO 7185:1990, 6.8.3.10): which are open behind a form, by slot. Each access begins at a
-- variable or at a record that is open there; each with opens its records behind those that are open round it, and at
-- its end these alone are open. It says nothing of what is accessed in a run.
use Rattle.std.specs.Prelude.{Bool, List, [], ◌∷◌, ◌++◌, Option, Some, None, if◌then◌else◌, length, map, nat_eq, take}
use Rattle.std.specs.List.{list_all}
use Rattle.std.specs.Option.{option_and_then}
use Rattle.typed_tree.specs.declared.tree.Selector.{Selector}
use Rattle.typed_tree.specs.Accesses.{Origin, root_of, step_of, steps_of}
use Rattle.typed_tree.specs.Look.{Look, Mark, Value, WholeValue, ForVariable, Target, WholeTarget, Fits}
use Rattle.typed_tree.specs.Look.{With, Opens, Reads, WithEnds}
use Rattle.typed_tree.specs.Records.{OpenRecord, is_there}

-- where an access of a form begins
abbrev pub mark_origins : Mark → List Origin
mark_origins (Value origin selectors indexes held defined) = origin ∷ []
mark_origins (WholeValue origin selectors indexes type_id cells defined) = origin ∷ []
mark_origins (ForVariable type_id origin selectors indexes callee position) = origin ∷ []
mark_origins (Target origin selectors indexes) = origin ∷ []
mark_origins (WholeTarget origin selectors indexes type_id) = origin ∷ []
mark_origins (Reads origin selectors indexes reads point range) = origin ∷ []
mark_origins (Fits origin selectors fits) = origin ∷ []
mark_origins (Opens origin selectors indexes) = origin ∷ []
mark_origins other = []

-- a form may stand among records that are open: a with opens its first record in the next slot
abbrev pub may_stand : List OpenRecord → Mark → Bool
may_stand records (With number first_slot) = nat_eq first_slot (length records)
may_stand records mark = list_all (is_there records) (mark_origins mark)

-- the record that an access opens
abbrev pub record_of : Origin → List Selector → OpenRecord
record_of origin selectors = record { root = root_of origin; steps = steps_of origin ++ map step_of selectors }

-- the records that are open behind a form
abbrev pub records_behind : List OpenRecord → Mark → List OpenRecord
records_behind records (Opens origin selectors indexes) = records ++ record_of origin selectors ∷ []
records_behind records (WithEnds first_slot) = take first_slot records
records_behind records other = records

-- the same; none, if the form may not stand there
abbrev pub mark_opened : Mark → List OpenRecord → Option (List OpenRecord)
mark_opened mark records = if may_stand records mark then Some (records_behind records mark) else None

-- the same behind several forms
abbrev pub opened_behind : List OpenRecord → Look → Option (List OpenRecord)
opened_behind records [] = Some records
opened_behind records (mark ∷ marks) = option_and_then (λ more. opened_behind more marks) (mark_opened mark records)
