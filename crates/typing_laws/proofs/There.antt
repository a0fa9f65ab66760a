-- In a tree that looks as a typed one does, each access begins at a variable or at a record that is open there.
use Rattle.std.proofs.Common.{◌≡◌, ℕ, zero, suc, Bool, true, List, [], ◌∷◌, length, Some, slice_get, refl, sym, ap, ◌∙◌}
use Rattle.std.specs.Prelude.{IsPermutation}
use Rattle.std.specs.List.{list_all, range_with_len}
use Rattle.typed_tree.specs.declared.tree.Block.{Block}
use Rattle.typed_tree.specs.declared.tree.Tree.{Tree}
use Rattle.typed_tree.specs.Look.{heading_look, look_block, look_stmt, tree_look}
use Rattle.typed_tree.specs.Records.{OpenRecord, are_there, begins_in}
use Rattle.typing_laws.proofs.Beginnings.{cut, tells_stmt}
use Rattle.typing_laws.proofs.Grown.{both_true}
use Rattle.typing_laws.proofs.OwnBlocks.{among, own_block}
use Rattle.typing_laws.proofs.Sparing.{some_same}
use Rattle.typing_laws.specs.Opened.{opened_behind}

-- a block leaves no record open
ended : (number : ℕ) (block : Block) (last : List OpenRecord) → opened_behind [] (look_block number block) ≡ Some last
    → (opened_behind [] (look_stmt block.body) ≡ Some []) × (last ≡ [])
ended number block last is =
    let parts = cut [] last (look_stmt block.body) (heading_look number block.heading block.end ∷ []) is in
    let told = tells_stmt block.body [] parts.0 parts.1 in
    let ends : Some parts.0 ≡ Some last = parts.2 in
    (parts.1 ∙ ap Some told.1, sym (some_same parts.0 last ends) ∙ told.1)

all_blocks : (test : Block → Bool) (blocks : List Block) → ((number : ℕ) (block : Block) → slice_get blocks number ≡ Some block → test block ≡ true)
    → list_all test blocks ≡ true
all_blocks test [] each = refl
all_blocks test (block ∷ blocks) each = both_true _ _ (each zero block refl) (all_blocks test blocks (λ number other is. each (suc number) other is))

pub all_there : (tree : Tree) → IsPermutation (range_with_len 0 (length tree.blocks.items)) tree.bodies.items → opened_behind [] (tree_look tree) ≡ Some []
    → are_there tree.blocks.items ≡ true
all_there tree bodies opened =
    all_blocks (λ block. begins_in block.body []) tree.blocks.items λ number block is.
    let own = own_block tree opened_behind [] (λ last h. sym (some_same [] last h)) cut ended tree.bodies.items [] opened number block is
    (among tree bodies number block is) in
    (tells_stmt block.body [] [] own).0
