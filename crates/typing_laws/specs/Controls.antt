-- Control variables (ISO 7185:1990, 6.8.3.9): no other block than that whose for statement a variable controls assigns
-- it, reads it, passes it to a variable parameter, or uses it as a control variable; nor does the statement of the for.
-- It says nothing of what calls do.
use Rattle.std.specs.Prelude.{◌≡◌, ℕ, ◌++◌, Bool, true, false, List, [], ◌∷◌, Option, Some, None, if◌then◌else◌, map}
use Rattle.std.specs.List.{list_all}
use Rattle.std.specs.Option.{option_and_then}
use Rattle.typed_tree.specs.Accesses.{root_of}
use Rattle.typed_tree.specs.Look.{Look, Mark, For, ForVariable, Reads, Target, WholeTarget, Controls, ForEnds}
use Rattle.typed_tree.specs.Look.{blocks_of_look, next_of}
use Rattle.typed_tree.specs.Threats.{is_none_of}

-- the variable that a form alone may change, by its root: a record of a with may be in it
abbrev pub mark_changes : Mark → List ℕ
mark_changes (Target origin selectors indexes) = root_of origin ∷ []
mark_changes (WholeTarget origin selectors indexes type_id) = root_of origin ∷ []
mark_changes (ForVariable type_id origin selectors indexes callee position) = root_of origin ∷ []
mark_changes (Reads origin selectors indexes reads point range) = root_of origin ∷ []
mark_changes (For number loop_number place control direction) = control ∷ []
mark_changes other = []

-- the variable that controls a for statement
abbrev pub mark_controls : Mark → List ℕ
mark_controls (For number loop_number place control direction) = control ∷ []
mark_controls other = []

-- the roots that forms have, each with the block in which its form stands
abbrev pub in_blocks : (Mark → List ℕ) → Look → List (ℕ × ℕ)
in_blocks roots [] = []
in_blocks roots (mark ∷ marks) =
    map (λ root. (next_of (blocks_of_look (mark ∷ marks)), root)) (roots mark) ++ in_blocks roots marks

-- it holds of each of these
abbrev pub Each : {A : Type 0} → (A → Type 0) → List A → Type 0
Each Holds [] = Unit {0}
Each Holds (one ∷ others) = Holds one × Each Holds others

-- what changes the variable of a for statement stands in the block of that
abbrev pub IsKeptBy : Look → ℕ × ℕ → Type 0
IsKeptBy look control = Each (λ change. change.1 ≡ control.1 → change.0 ≡ control.0) (in_blocks mark_changes look)

-- the variable of each for statement is changed in its block alone
abbrev pub AreUnthreatened : Look → Type 0
AreUnthreatened look = Each (IsKeptBy look) (in_blocks mark_controls look)

-- ---- the statement of a for

-- where the statement of a for begins, and where it ends
abbrev pub is_bracket : Mark → Bool
is_bracket (Controls control) = true
is_bracket ForEnds = true
is_bracket other = false

-- the control variables of the for statements in whose statements a form stands that comes behind another, the
-- innermost first, by those in whose statements that stands; none, if it changes one of these
abbrev pub mark_behind : Mark → List ℕ → Option (List ℕ)
mark_behind (Controls control) roots = Some (control ∷ roots)
mark_behind ForEnds [] = None
mark_behind ForEnds (root ∷ roots) = Some roots
mark_behind other roots = if list_all (is_none_of roots) (mark_changes other) then Some roots else None

-- the same behind several forms
abbrev pub spared_behind : List ℕ → Look → Option (List ℕ)
spared_behind roots [] = Some roots
spared_behind roots (mark ∷ marks) = option_and_then (λ more. spared_behind more marks) (mark_behind mark roots)
