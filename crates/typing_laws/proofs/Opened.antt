-- Records that are open behind forms.
use Rattle.std.proofs.Common.{◌≡◌, Bool, true, ◌&&◌, if◌then◌else◌, List, [], ◌∷◌, ◌++◌, Option, Some, None, map, refl, ap, ◌∙◌}
use Rattle.std.specs.List.{list_all}
use Rattle.std.specs.Option.{option_and_then}
use Rattle.typed_tree.specs.Accesses.{Origin}
use Rattle.typed_tree.specs.Look.{Look, Mark}
use Rattle.typed_tree.specs.Records.{OpenRecord, is_there}
use Rattle.typing.specs.Passing.{OpenRecord as OpenedRecord}
use Rattle.typing_laws.proofs.Reached.{Here}
use Rattle.typing_laws.specs.Opened.{mark_opened, opened_behind}

-- records as the tree tells them
abbrev pub bare_record : OpenedRecord → OpenRecord
bare_record opened = record { root = opened.root; steps = opened.steps }

abbrev pub open_in : Here → List OpenRecord
open_in here = map bare_record here.records

pub opened_append : (records : List OpenRecord) (look more : Look)
    → opened_behind records (look ++ more) ≡ option_and_then (λ (behind : List OpenRecord). opened_behind behind more) (opened_behind records look)
opened_append records [] more = refl
opened_append records (mark ∷ look) more = by (mark_opened mark records) (λ behind. opened_append behind look more)
  where
    by : (found : Option (List OpenRecord))
        → ((behind : List OpenRecord)
        → opened_behind behind (look ++ more) ≡ option_and_then (λ (last : List OpenRecord). opened_behind last more) (opened_behind behind look))
        → option_and_then (λ (behind : List OpenRecord). opened_behind behind (look ++ more)) found
        ≡ option_and_then (λ (last : List OpenRecord). opened_behind last more)
        (option_and_then (λ (behind : List OpenRecord). opened_behind behind look) found)
    by None each = refl
    by (Some behind) each = each behind

-- one form, and then another
pub opened_then : (records behind last : List OpenRecord) (look more : Look) → opened_behind records look ≡ Some behind
    → opened_behind behind more ≡ Some last → opened_behind records (look ++ more) ≡ Some last
opened_then records behind last look more one two =
    opened_append records look more ∙ ap (option_and_then (λ (mid : List OpenRecord). opened_behind mid more)) one ∙ two

pub one_opened : (one : Mark) (records behind : List OpenRecord) → mark_opened one records ≡ Some behind → opened_behind records (one ∷ []) ≡ Some behind
one_opened one records behind is = ap (option_and_then (λ (more : List OpenRecord). opened_behind more [])) is

-- a form whose access begins at what is there
pub stands_there : (records behind : List OpenRecord) (origin : Origin) → is_there records origin ≡ true
    → (if list_all (is_there records) (origin ∷ []) then Some behind else None) ≡ Some behind
stands_there records behind origin there = ap (λ (b : Bool). if b && true then Some behind else None) there
