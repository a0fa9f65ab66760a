-- Tests of what may be there and of several, and the index expressions that a whole value has (ISO 7185:1990, 6.5.3).
use Rattle.std.specs.Prelude.{Bool, false, List, [], Option, Some, None}
use Rattle.std.specs.List.{list_all}
use Rattle.typed_tree.specs.declared.tree.Whole.{Whole}
use Rattle.typed_tree.specs.declared.tree.Whole.TheVariants.{Text, Variable as VariableOf}

-- they all hold
abbrev pub all_hold : List Bool → Bool
all_hold tests = list_all (λ b. b) tests

-- a test holds of what is there
abbrev pub of_one : {A : Type 0} → (A → Bool) → Option A → Bool
of_one test None = false
of_one test (Some one) = test one

-- the index expressions of a whole value; a string has none
abbrev pub whole_indexes : {A : Type 0} → Whole → List A → List A
whole_indexes (Text number characters) indexes = []
whole_indexes (VariableOf access type_id cells defined) indexes = indexes
