-- Results of functions (ISO 7185:1990, 6.6.2): each is assigned somewhere. It says nothing of whether a run comes
-- there.
use Rattle.std.specs.Prelude.{ℕ, List, [], ◌∷◌, Some, flat_map, nat_eq, Bool}
use Rattle.std.specs.List.{list_all, list_any}
use Rattle.typed_tree.specs.Accesses.{root_of}
use Rattle.typed_tree.specs.Look.{Look, Mark, BlockEnds, Target, WholeTarget}

-- the variable left of `:=`
abbrev pub mark_targets : Mark → List ℕ
mark_targets (Target origin selectors indexes) = root_of origin ∷ []
mark_targets (WholeTarget origin selectors indexes type_id) = root_of origin ∷ []
mark_targets other = []

-- the result of the function whose block ends
abbrev pub mark_results : Mark → List ℕ
mark_results (BlockEnds number around parameters (Some result) end) = result.root ∷ []
mark_results other = []

-- a variable is assigned in what looks so
abbrev pub is_target : Look → ℕ → Bool
is_target look root = list_any (nat_eq root) (flat_map mark_targets look)

-- each result is
abbrev pub are_assigned : Look → Bool
are_assigned look = list_all (is_target look) (flat_map mark_results look)
