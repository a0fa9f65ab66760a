-- The region of a block knows from its beginning the names that the block defines.
use Rattle.std.proofs.Common.{◌≡◌, ◌∙◌, ℕ, List, [], ◌∷◌, ◌++◌, Ok, Err, IfOk, Result, All, Vec, map, flat_map, sym, ap, subst}
use Rattle.std.specs.declared.alloc.Global.{Global}
use Rattle.std.proofs.lemmas.List.Elements.{All-cons, All-head, All-nil, All-tail}
use Rattle.syntax_tree.specs.declared.Block.{Block}
use Rattle.syntax_tree.specs.declared.Block.TheViews.{out-Block, out-Routine}
use Rattle.syntax_tree.specs.declared.ConstantDefinition.{ConstantDefinition}
use Rattle.syntax_tree.specs.declared.Name.{Name}
use Rattle.syntax_tree.specs.declared.Routine.{Routine}
use Rattle.scopes.specs.Scopes.{Region, opened, Knows}
use Rattle.scopes.proofs.Known.{beside_lists, opened_lists}
use Rattle.typed_tree.specs.declared.fault.TypeFault.{TypeFault}
use Rattle.typing.specs.Blocks.{BeginsBlock, block_begins}
use Rattle.typing.specs.declared.blocks.BegunBlock.{BegunBlock}
use Rattle.typing.specs.Names.{folded, all_folded, heading_names, type_names, group_names}
use Rattle.typing.specs.Passing.{Headed, Enclosing, Passed, After, after}
use Rattle.typing_rules.specs.Checked.{Checked}
use Rattle.typing.specs.Routines.{typed_block}
use Rattle.typing.specs.Steps.{enclosing_now, heading_at, open_beside, open_block, with_enclosing}
use Rattle.typing.proofs.Written.{block_names_are}
use Rattle.declarations.specs.Parts.{routine_names, texts}
use Rattle.declarations.specs.Known.{AreKnown, AreKnownDefinitions, AreKnownRoutines, AreKnownTypes, AreKnownGroups}
use Rattle.declarations.proofs.Parts.{first_known, others_known}

-- the regions that an outcome leaves
regions_of : {A : Type 0} → Checked (After A) → List Region
regions_of (Ok a) = a.passed.regions
regions_of (Err why) = []

-- once a region is open that opened with these names
module _ (keys : List (Vec ℕ Global)) (names : List Name) (is : texts keys ≡ all_folded names) (old new : Passed) where
  pub opened_known : open_block (texts keys) old ≡ Ok (after tt [] new) → AreKnown names new.regions
  unfolding open_block regions_of
  opened_known opens =
      subst (AreKnown names) (ap (λ l. opened l ∷ old.regions) (sym is) ∙ ap regions_of opens) (opened_lists (λ name. folded name.text.now) names)

-- once one is open beside parameters
module _ (names : List Name) (number : ℕ) (round : Enclosing) (heading : Headed) (old new : Passed) where
  pub beside_known : block_begins number (all_folded names) old ≡ Ok (after (round, heading) [] new) → AreKnown names new.regions
  unfolding block_begins enclosing_now heading_at with_enclosing open_beside regions_of
  beside_known begins = subst (AreKnown names) (ap regions_of begins) (beside_lists (λ name. folded name.text.now) names _)

-- ---- names of several forms

module _ (regions : List Region) where
  constants_are : (ds : List ConstantDefinition) → AreKnown (map (λ d. d.name) ds) regions → AreKnownDefinitions ds regions
  constants_are [] known = All-nil _
  constants_are (d ∷ ds) known =
      All-cons (λ (d : ConstantDefinition). Knows regions (folded d.name.text.now)) d ds
      (All-head (λ (name : Name). Knows regions (folded name.text.now)) d.name (map (λ d. d.name) ds) known)
      (constants_are ds (All-tail (λ (name : Name). Knows regions (folded name.text.now)) d.name (map (λ d. d.name) ds) known))

  pub forms_are : {A : Type 0} (names : A → List Name) (forms : List A) → AreKnown (flat_map names forms) regions
      → All (λ form. AreKnown (names form) regions) forms
  forms_are names [] known = All-nil _
  forms_are names (form ∷ forms) known =
      All-cons (λ f. AreKnown (names f) regions) form forms (first_known regions (names form) (flat_map names forms) known)
      (forms_are names forms (others_known regions (names form) (flat_map names forms) known))

  -- the names of a block
  module _ (block : Block) (known : AreKnown (typed_block block).names regions) where
    constants : List Name
    constants = map (λ d. d.name) (out-Block block).constants.items

    types : List Name
    types = flat_map type_names (out-Block block).types.items

    variables : List Name
    variables = flat_map group_names (out-Block block).variables.items

    all_known : AreKnown (constants ++ (types ++ (variables ++ routine_names (out-Block block).routines.items))) regions
    unfolding constants types variables
    all_known = subst (λ l. AreKnown l regions) (block_names_are block) known

    -- its constants are known
    pub constants_known : AreKnownDefinitions (out-Block block).constants.items regions
    unfolding constants
    constants_known = constants_are (out-Block block).constants.items (first_known regions constants _ all_known)

    behind_constants : AreKnown (types ++ (variables ++ routine_names (out-Block block).routines.items)) regions
    behind_constants = others_known regions constants _ all_known

    -- its types
    pub types_known : AreKnownTypes (out-Block block).types.items regions
    unfolding types
    types_known = forms_are type_names (out-Block block).types.items (first_known regions types _ behind_constants)

    behind_types : AreKnown (variables ++ routine_names (out-Block block).routines.items) regions
    behind_types = others_known regions types _ behind_constants

    -- its variables
    pub variables_known : AreKnownGroups (out-Block block).variables.items regions
    unfolding variables
    variables_known = forms_are group_names (out-Block block).variables.items (first_known regions variables _ behind_types)

    -- and its routines
    pub routines_known : AreKnownRoutines (out-Block block).routines.items regions
    routines_known =
        forms_are (λ (r : Routine). heading_names (out-Routine r).heading) (out-Block block).routines.items (others_known regions variables _ behind_types)

-- ---- a block that began

pub begun_known : (names : List Name) (number : ℕ) (keys : List (Vec ℕ Global)) (old : Passed) (result : Result BegunBlock TypeFault) (new : Passed)
    → texts keys ≡ all_folded names → BeginsBlock (block_begins number (texts keys) old) result new → IfOk result (λ _. AreKnown names new.regions)
begun_known names number keys old (Err why) new is begins = tt
begun_known names number keys old (Ok made) new is begins =
    beside_known names number _ begins.0 old new (ap (λ l. block_begins number l old) (sym is) ∙ begins.1)
