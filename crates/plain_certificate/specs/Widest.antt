-- The widest certificate of a program, which has no facts: block by block the pairs and the changes that it may list,
-- and for each loop all that is visible in its block (ISO 7185:1990, 6.6.3.3, 6.8.3.6). What would list nothing is left
-- out. It does not say that it breaks no rule.
use Rattle.std.specs.Prelude.{ℕ, Bool, not, ◌||◌, ◌&&◌, List, [], ◌∷◌, filter, flat_map, map, length, nat_eq, nat_lt}
use Rattle.std.specs.Prelude.{if◌then◌else◌, slice_get, ◌+◌, ◌≤◌}
use Rattle.std.specs.List.{range_with_len}
use Rattle.typed_tree.specs.declared.tree.Tree.{Tree}
use Rattle.typed_tree.specs.WellFormed.{is_visible, outline_of}
use Rattle.certificate.specs.declared.AliasPair.{AliasPair}
use Rattle.certificate.specs.Contents.{LoopClaims, Section, is_empty}
use Rattle.certificate.specs.Words.{most}
use Rattle.checker_calls.specs.Names.{is_outward, is_round_about, is_variable_parameter, stands_in}

-- a certificate has a number for each of so many, the first of which is 0
abbrev pub HasNumbersFor : ℕ → Type 0
HasNumbersFor count = count ≤ most + 1

-- it has them for the variables, the loops and the blocks of a program
abbrev pub HasNumbers : Tree → Type 0
HasNumbers tree =
    HasNumbersFor (length tree.variables.items)
    × HasNumbersFor (length tree.loops.items)
    × HasNumbersFor (length tree.blocks.items)

-- the variables of a program of which a test holds
abbrev pub roots_where : Tree → (ℕ → Bool) → List ℕ
roots_where tree test = filter test (range_with_len 0 (length tree.variables.items))

-- those that are visible in a block
abbrev pub visible_roots : Tree → ℕ → List ℕ
visible_roots tree block = roots_where tree (is_visible (outline_of tree) block)

-- those that its callers may know
abbrev pub outward_roots : Tree → ℕ → List ℕ
outward_roots tree block = roots_where tree (is_outward tree block)

-- ---- pairs

-- its variable parameters
abbrev pub parameters_of : Tree → ℕ → List ℕ
parameters_of tree block = roots_where tree (is_variable_parameter tree block)

-- what may be in a pair: a variable parameter of the block, or a variable round it
abbrev pub may_pair : Tree → ℕ → ℕ → Bool
may_pair tree block root = is_variable_parameter tree block root || is_round_about tree block root

abbrev pub paired_roots : Tree → ℕ → List ℕ
paired_roots tree block = roots_where tree (may_pair tree block)

-- a variable in pairs with those of others that come behind it
abbrev pub pairs_with : ℕ → List ℕ → List AliasPair
pairs_with first others =
    map (λ second. record { first = first; second = second }) (filter (λ second. nat_lt first second) others)

-- a variable parameter is in a pair with each, another variable with variable parameters
abbrev pub pairs_of : Tree → ℕ → ℕ → List AliasPair
pairs_of tree block first =
    pairs_with first
    (if is_variable_parameter tree block first then paired_roots tree block else parameters_of tree block)

abbrev pub block_pairs : Tree → ℕ → List AliasPair
block_pairs tree block = flat_map (pairs_of tree block) (paired_roots tree block)

-- ---- loops

abbrev pub loop_with : List ℕ → ℕ → LoopClaims
loop_with changes number = record { number = number; changes = changes; facts = [] }

-- the loops of a block
abbrev pub loops_of : Tree → ℕ → List ℕ
loops_of tree block =
    filter (λ number. stands_in block (slice_get tree.loops.items number)) (range_with_len 0 (length tree.loops.items))

-- each of them changes the same
abbrev pub loops_with : List ℕ → List ℕ → List LoopClaims
loops_with [] numbers = []
loops_with (root ∷ roots) numbers = map (loop_with (root ∷ roots)) numbers

abbrev pub block_loops : Tree → ℕ → List LoopClaims
block_loops tree block = loops_with (visible_roots tree block) (loops_of tree block)

-- ---- sections

-- of the program's block itself nothing is claimed
abbrev pub section_of : Tree → ℕ → Section
section_of tree block = record {
  block = block;
  aliases = if nat_eq block 0 then [] else block_pairs tree block;
  changes = if nat_eq block 0 then [] else outward_roots tree block;
  entry = [];
  exit = [];
  loops = block_loops tree block;
}

abbrev pub is_vacant : Section → Bool
is_vacant section = is_empty section.aliases && (is_empty section.changes && is_empty section.loops)

abbrev pub widest : Tree → List Section
widest tree =
    filter (λ section. not (is_vacant section)) (map (section_of tree) (range_with_len 0 (length tree.blocks.items)))
