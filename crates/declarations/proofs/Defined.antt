-- The names that denoters define, one denoter after another.
use Rattle.std.proofs.Common.{◌≡◌, ℕ, ◌+◌, ◌<◌, ◌≤◌, List, [], ◌∷◌, ◌++◌, Vec, length, drop, get_or, map, flat_map, refl, sym, ap, ap₂, ◌∙◌}
use Rattle.std.proofs.Common.{append_assoc, append-nil, min, inl, inr, ◌⊎◌}
use Rattle.std.specs.declared.alloc.Global.{Global}
use Rattle.std.proofs.lemmas.List.{map-append, drop_more, at_drop_all}
use Rattle.syntax_tree.specs.declared.Routine.{Routine}
use Rattle.syntax_tree.specs.declared.TypeDefinition.{TypeDefinition}
use Rattle.syntax_tree.specs.declared.VariableGroup.{VariableGroup}
use Rattle.syntax_tree.specs.declared.Name.{Name}
use Rattle.syntax_tree.specs.declared.TypeDenoter.{TypeDenoter}
use Rattle.syntax_tree.specs.declared.Block.{Block}
use Rattle.syntax_tree.specs.declared.Block.TheViews.{out-Block}
use Rattle.syntax_tree.specs.declared.ConstantDefinition.{ConstantDefinition}
use Rattle.typing.specs.Names.{folded, all_folded, denoter_names, group_names, type_names}
use Rattle.typing.specs.Routines.{typed_block}
use Rattle.typing.proofs.Written.{block_names_are}
use Rattle.typing.proofs.DenoterRows.{past_one}
use Rattle.declarations.specs.Parts.{routine_names}
use Rattle.declarations.specs.Known.{names_in, names_in_groups}

folded_both : (before : List (List ℕ)) (names more : List Name) → before ++ all_folded (names ++ more) ≡ (before ++ all_folded names) ++ all_folded more
folded_both before names more =
    ap (λ l. before ++ l) (map-append (λ (name : Name). folded name.text.now) names more)
    ∙ sym (append_assoc before (all_folded names) (all_folded more))

-- ---- denoters

module _ (denoters : List TypeDenoter) where
  -- those of the next one, and those behind
  pub next_names : (i : ℕ) (denoter : TypeDenoter) → i < length denoters → denoter ≡ get_or denoters i denoter
      → names_in (drop i denoters) ≡ denoter_names denoter ++ names_in (drop (i + 1) denoters)
  next_names i denoter within is = ap names_in (drop_more denoters i denoter within) ∙ ap (λ d. names_in (d ∷ drop (i + 1) denoters)) (sym is)

module _ (denoters : List TypeDenoter) (before : List (List ℕ)) where
  -- what is left, once some are met
  abbrev pub AreNamesFrom : ℕ → List (List ℕ) → Type 0
  AreNamesFrom i keys = before ++ all_folded (names_in denoters) ≡ keys ++ all_folded (names_in (drop i denoters))

  -- the next one is met
  pub denoter_next : (i : ℕ) (denoter : TypeDenoter) (keys : List (List ℕ)) → i < length denoters → denoter ≡ get_or denoters i denoter
      → AreNamesFrom i keys → AreNamesFrom (i + 1) (keys ++ all_folded (denoter_names denoter))
  denoter_next i denoter keys within is left =
      left ∙ ap (λ l. keys ++ all_folded l) (next_names denoters i denoter within is)
      ∙ folded_both keys (denoter_names denoter) (names_in (drop (i + 1) denoters))

  -- all are met
  pub denoters_end : (i : ℕ) (keys : List (List ℕ)) → length denoters ≤ i → AreNamesFrom i keys → before ++ all_folded (names_in denoters) ≡ keys
  denoters_end i keys all left = left ∙ at_drop_all (λ ds. keys ++ all_folded (names_in ds)) denoters i all ∙ append-nil keys

-- ---- groups of fields

no_denoters : (rows : List (Vec Name Global)) → names_in_groups rows [] ≡ []
no_denoters [] = refl
no_denoters (row ∷ rows) = refl

module _ (rows : List (Vec Name Global)) (denoters : List TypeDenoter) where
  abbrev pub groups_from : ℕ → List Name
  groups_from i = names_in_groups (drop i rows) (drop i denoters)

  pub next_group : (i : ℕ) (row : Vec Name Global) (denoter : TypeDenoter) → i < length rows → row ≡ get_or rows i row
      → i < length denoters → denoter ≡ get_or denoters i denoter → groups_from i ≡ denoter_names denoter ++ groups_from (i + 1)
  next_group i row denoter row_within row_is within is =
      ap (λ rs. names_in_groups rs (drop i denoters)) (drop_more rows i row row_within)
      ∙ ap (λ ds. names_in_groups (get_or rows i row ∷ drop (i + 1) rows) ds) (drop_more denoters i denoter within)
      ∙ ap₂ (λ r d. names_in_groups (r ∷ drop (i + 1) rows) (d ∷ drop (i + 1) denoters)) (sym row_is) (sym is)

  -- no more are left
  pub no_groups : (i : ℕ) → i ≡ min (length rows) (length denoters) → groups_from i ≡ []
  no_groups i all = by (past_one i (length rows) (length denoters) all)
    where
      by : (length rows ≤ i) ⊎ (length denoters ≤ i) → groups_from i ≡ []
      by (inl past) = at_drop_all (λ rs. names_in_groups rs (drop i denoters)) rows i past
      by (inr past) = at_drop_all (λ ds. names_in_groups (drop i rows) ds) denoters i past ∙ no_denoters (drop i rows)

  module _ (before : List (List ℕ)) where
    -- what is left, once some are met
    abbrev pub AreGroupNamesFrom : ℕ → List (List ℕ) → Type 0
    AreGroupNamesFrom i keys = before ++ all_folded (names_in_groups rows denoters) ≡ keys ++ all_folded (groups_from i)

    -- the next one is met
    pub group_next : (i : ℕ) (row : Vec Name Global) (denoter : TypeDenoter) (keys : List (List ℕ)) → i < length rows → row ≡ get_or rows i row
        → i < length denoters → denoter ≡ get_or denoters i denoter → AreGroupNamesFrom i keys
        → AreGroupNamesFrom (i + 1) (keys ++ all_folded (denoter_names denoter))
    group_next i row denoter keys row_within row_is within is left =
        left ∙ ap (λ l. keys ++ all_folded l) (next_group i row denoter row_within row_is within is)
        ∙ folded_both keys (denoter_names denoter) (groups_from (i + 1))

    -- all are met
    pub groups_end : (i : ℕ) (keys : List (List ℕ)) → i ≡ min (length rows) (length denoters) → AreGroupNamesFrom i keys
        → before ++ all_folded (names_in_groups rows denoters) ≡ keys
    groups_end i keys all left = left ∙ ap (λ l. keys ++ all_folded l) (no_groups i all) ∙ append-nil keys

-- ---- a block

-- the names of a block, behind others
names_of_block : (before : List (List ℕ)) (b : Block)
    → before ++ all_folded (typed_block b).names
    ≡ (((before ++ all_folded (map (λ d. d.name) (out-Block b).constants.items)) ++ all_folded (flat_map type_names (out-Block b).types.items))
    ++ all_folded (flat_map group_names (out-Block b).variables.items)) ++ all_folded (routine_names (out-Block b).routines.items)
names_of_block before b =
    let block = out-Block b in
    let constants = map (λ (d : ConstantDefinition). d.name) block.constants.items in
    let types = flat_map type_names block.types.items in
    let variables = flat_map group_names block.variables.items in
    let routines = routine_names block.routines.items in
    ap (λ l. before ++ all_folded l) (block_names_are b)
    ∙ folded_both before constants (types ++ (variables ++ routines))
    ∙ folded_both (before ++ all_folded constants) types (variables ++ routines)
    ∙ folded_both ((before ++ all_folded constants) ++ all_folded types) variables routines

-- they are gathered one part after another
pub names_gathered : (b : Block) (constants : List ConstantDefinition) (types : List TypeDefinition) (variables : List VariableGroup)
    (routines : List Routine) (k0 k1 k2 k3 k4 : List (List ℕ)) → constants ≡ (out-Block b).constants.items → types ≡ (out-Block b).types.items
    → variables ≡ (out-Block b).variables.items → routines ≡ (out-Block b).routines.items → k1 ≡ k0 ++ all_folded (map (λ d. d.name) constants)
    → k2 ≡ k1 ++ all_folded (flat_map type_names types) → k3 ≡ k2 ++ all_folded (flat_map group_names variables)
    → k4 ≡ k3 ++ all_folded (routine_names routines) → k4 ≡ k0 ++ all_folded (typed_block b).names
names_gathered b constants types variables routines k0 k1 k2 k3 k4 constants_are types_are variables_are routines_are first second third fourth =
    fourth
    ∙ ap₂ (λ k rs. k ++ all_folded (routine_names rs))
    (third
    ∙ ap₂ (λ k vs. k ++ all_folded (flat_map group_names vs))
    (second
    ∙ ap₂ (λ k ts. k ++ all_folded (flat_map type_names ts))
    (first ∙ ap (λ cs. k0 ++ all_folded (map (λ (d : ConstantDefinition). d.name) cs)) constants_are) types_are)
    variables_are)
    routines_are
    ∙ sym (names_of_block k0 b)
