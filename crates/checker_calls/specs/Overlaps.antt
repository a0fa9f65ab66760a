-- Which variables share a place in a called block (ISO 7185:1990, 6.6.3.3), and that a certificate lists them: two
-- variable parameters with actual ones that may be the same or parts of one another, and one and a variable declared
-- round the block. It does not say that others don't.
use Rattle.std.specs.Prelude.{ℕ, Bool, true, false, not, ◌&&◌, ◌||◌, List, [], ◌∷◌, Option, Some, None, nat_eq}
use Rattle.std.specs.Prelude.{slice_get}
use Rattle.std.specs.List.{list_all}
use Rattle.typed_tree.specs.declared.tree.PathStep.{PathStep}
use Rattle.typed_tree.specs.declared.tree.PathStep.TheVariants.{Element, Field}
use Rattle.typed_tree.specs.declared.tree.Tree.{Tree}
use Rattle.typed_tree.specs.declared.tree.Variable.{Variable}
use Rattle.typed_tree.specs.declared.tree.Selector.{Selector}
use Rattle.typed_tree.specs.Accesses.{Origin, root_of}
use Rattle.typed_tree.specs.WellFormed.{is_one_of}
use Rattle.checker_state.specs.Loops.{is_among}
use Rattle.checker_calls.specs.Actuals.{Actual, OfValue, OfRows, OfVariable, Binding, way_accessed}
use Rattle.checker_loops.specs.Pairs.{Listed, aliases_in, aliases_of}

-- ways from one variable lead to different fields of a record
abbrev pub are_parted : List PathStep → List PathStep → Bool
are_parted (Element ∷ way) (Element ∷ other_way) = are_parted way other_way
are_parted (Field position ∷ way) (Field other ∷ other_way) = not (nat_eq position other) || are_parted way other_way
are_parted way other_way = false

-- with the listed pairs
module _ (pairs : List (ℕ × ℕ)) where
  -- two variables are a listed pair
  abbrev pub is_listed : ℕ → ℕ → Bool
  is_listed one other = is_among other (aliases_of pairs one)

  -- two variables that are accessed may share a place
  abbrev pub may_overlap : Origin → List Selector → Origin → List Selector → Bool
  may_overlap origin selectors other other_selectors =
      (nat_eq (root_of origin) (root_of other)
      && not (are_parted (way_accessed origin selectors) (way_accessed other other_selectors)))
      || is_listed (root_of origin) (root_of other)

  -- a formal parameter to which this is passed and another to which a variable is are a listed pair where these may
  abbrev pub is_actual_listed : ℕ → Origin → List Selector → ℕ → Actual → Bool
  is_actual_listed formal origin selectors other (OfValue range form) = true
  is_actual_listed formal origin selectors other (OfRows ranges) = true
  is_actual_listed formal origin selectors other (OfVariable other_origin other_selectors reach) =
      not (may_overlap origin selectors other_origin other_selectors) || is_listed formal other

  abbrev pub is_listed_with : ℕ → Origin → List Selector → Binding → Bool
  is_listed_with formal origin selectors binding =
      is_actual_listed formal origin selectors binding.root binding.actual

  -- a variable is declared in one of some blocks
  abbrev pub is_declared_in : List ℕ → Option Variable → Bool
  is_declared_in blocks None = false
  is_declared_in blocks (Some variable) = is_one_of blocks variable.block

  -- a variable parameter and a variable round the block, if it is one, are a listed pair
  abbrev pub is_listed_round : Tree → List ℕ → ℕ → ℕ → Bool
  is_listed_round tree around formal root =
      not (is_declared_in around (slice_get tree.variables.items root)) || is_listed formal root

-- a variable parameter to which a variable is passed in a block: with that and its aliases there, and with each
-- parameter behind it
abbrev pub is_actual_separate : Listed → (caller : ℕ) → List ℕ → List Binding → ℕ → Actual → Bool
is_actual_separate listed caller around others formal (OfValue range form) = true
is_actual_separate listed caller around others formal (OfRows ranges) = true
is_actual_separate listed caller around others formal (OfVariable origin selectors reach) =
    list_all (is_listed_round listed.pairs listed.tree around formal)
    (root_of origin ∷ aliases_in listed caller (root_of origin))
    && list_all (is_listed_with listed.pairs formal origin selectors) others

-- what is passed in one block to another, round which there are some, makes listed aliases alone
abbrev pub are_separate : Listed → (caller : ℕ) → List ℕ → List Binding → Bool
are_separate listed caller around [] = true
are_separate listed caller around (binding ∷ bindings) =
    is_actual_separate listed caller around bindings binding.root binding.actual
    && are_separate listed caller around bindings
