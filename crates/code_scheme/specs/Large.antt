-- Code that is too large: it has more instructions than a code may have, or a block of the program has more cells of
-- parameters than a call may pass. So many only variables without any cell may be. How large a frame is doesn't matter:
-- where it has more cells than a machine, no run begins it, since the store is full there. It does not say what code
-- does.
use Rattle.std.specs.Prelude.{ℕ, suc, ◌||◌, nat_lt, Bool, false, List, [], ◌∷◌, length}
use Rattle.typed_tree.specs.declared.tree.Tree.{Tree}
use Rattle.typed_tree.specs.declared.tree.Block.{Block}
use Rattle.code_scheme.specs.Code.{program_code}
use Rattle.code_scheme.specs.Scopes.{parameter_cells}

-- a block of a number has more cells of parameters than a call may pass
abbrev pub passes_too_much : Tree → ℕ → Bool
passes_too_much tree number = nat_lt 65536 (parameter_cells tree number)

-- one of these blocks does, of which the first has this number
abbrev pub one_passes_too_much : Tree → ℕ → List Block → Bool
one_passes_too_much tree number [] = false
one_passes_too_much tree number (block ∷ blocks) =
    passes_too_much tree number || one_passes_too_much tree (suc number) blocks

abbrev pub is_too_large : Tree → Bool
is_too_large tree = nat_lt 1000000 (length (program_code tree)) || one_passes_too_much tree 0 tree.blocks.items
