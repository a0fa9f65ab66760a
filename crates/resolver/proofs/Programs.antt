-- Programs: the typed tree of one that is made of its blocks, and what it has by the laws of typing.
use Rattle.std.proofs.Common.{◌≡◌, ◌≤◌, true, List, [], ◌∷◌, ◌++◌, length, map, slice_get, Result, MatchResult, IfOk}
use Rattle.std.proofs.Common.{IfErr, Ok, Err, inl, refl, sym, ap, ap₂, subst, ◌∙◌, arith}
use Rattle.std.specs.Prelude.{IsPermutation, flat_map, vec_len}
use Rattle.std.specs.List.{range_with_len}
use Rattle.std.proofs.lemmas.Grind.{flat_map-append}
use Rattle.std.proofs.lemmas.List.{length-map}
use Rattle.memory.specs.Refused.{the_refusal}
use Rattle.place.specs.Place.{ArePlacesInOrder}
use Rattle.syntax_tree.specs.declared.Program.{Program}
use Rattle.syntax_tree.specs.Places.{program_places}
use Rattle.types.specs.Types.{BeginWithRequired}
use Rattle.typed_tree.specs.declared.fault.TypeFault.{TypeFault}
use Rattle.typed_tree.specs.declared.fault.TypeFault.TheVariants.{Memory}
use Rattle.typed_tree.specs.declared.tree.Tree.{Tree}
use Rattle.typed_tree.specs.Entries.{AreNumbered, of_block}
use Rattle.typed_tree.specs.Ids.{AreInOrder, AreByPlace, ArePointsInOrder}
use Rattle.typed_tree.specs.Look.{blocks_of_look, heading_look, look_block, look_stmt, mark_blocks, tree_look}
use Rattle.typed_tree.specs.Kinds.{are_held}
use Rattle.typed_tree.specs.Loops.{loops_of}
use Rattle.typed_tree.specs.WellFormed.{IsWellFormed}
use Rattle.typed_tree.proofs.Quiet.{inner_stmt}
use Rattle.typing.specs.Outcomes.{IsFault}
use Rattle.typing.specs.Passing.{Passed, after}
use Rattle.typing.specs.Sound.{IsLeft, IsTyped, rows_of_block, stands}
use Rattle.typing.specs.Typing.{typing}
use Rattle.typing_laws.specs.Lawful.{Lawful}
use Rattle.typing_laws.proofs.Programs.{typing_is_lawful}
use Rattle.typing_laws.proofs.Trees as Trees
use Rattle.resolver.specs.Made.{AreArranged, AreLaidBlocks, AreLaidOut, IsResolved, look_made}
use Rattle.resolver.specs.Table.{IsTableOf}
use Rattle.resolver.specs.declared.typed.LaidBlocks.{LaidBlocks}
use Rattle.resolver.specs.declared.typed.MadeBlock.{MadeBlock}
use Rattle.resolver.proofs.Arranged.{AreThere, are_there, as_many_blocks, in_text_is, number_of}

-- the blocks that end in how some blocks look
numbers_told : (made : List MadeBlock) → blocks_of_look (look_made made) ≡ map number_of made
numbers_told [] = refl
numbers_told (one ∷ others) =
    let end = heading_look one.number one.block.heading one.block.end in
    flat_map-append mark_blocks (look_block one.number one.block) (look_made others)
    ∙ ap₂ (λ l m. l ++ m)
    (flat_map-append mark_blocks (look_stmt one.block.body) (end ∷ []) ∙ ap (λ l. l ++ one.number ∷ []) (inner_stmt one.block.body))
    (numbers_told others)

-- ---- a tree that is made of blocks

module _ (program : Program) (made : List MadeBlock) (last : Passed) (typed : typing program ≡ Ok (after tt (look_made made) last)) (tree : Tree)
    (arranged : AreArranged made tree.blocks.items) (bodies : tree.bodies.items ≡ map (λ one. one.number) made) (table : IsTableOf made tree.loops.items)
    (held : are_held tree.blocks.items ≡ true) (left : IsLeft last tree) where
  all_numbers : IsPermutation (range_with_len 0 (length last.headings)) (map number_of made)
  all_numbers =
      let lawful : Lawful program (after tt (look_made made) last) = typing_is_lawful program (after tt (look_made made) last) typed in
      subst (IsPermutation (range_with_len 0 (length last.headings))) (numbers_told made) lawful.blocks

  there : AreThere tree.blocks.items made
  there = are_there made tree.blocks.items arranged (length last.headings) all_numbers

  as_numbers : tree.bodies.items ≡ map number_of made
  as_numbers = bodies

  looks : tree_look tree ≡ look_made made
  looks =
      ap (flat_map (λ number. of_block look_block number (slice_get tree.blocks.items number))) as_numbers
      ∙ in_text_is look_block tree.blocks.items made there

  pub is_resolved : IsResolved program tree
  is_resolved = record {
    is_typed = record {
      left = last;
      typed = typed ∙ ap (λ look. Ok (after tt look last)) (sym looks);
      is_left = left;
      has_loops =
          table
          ∙ sym (ap (flat_map (λ number. of_block rows_of_block number (slice_get tree.blocks.items number))) as_numbers
          ∙ in_text_is rows_of_block tree.blocks.items made there);
    };
    count = as_many_blocks made tree.blocks.items arranged (length last.headings) all_numbers;
    bodies = as_numbers ∙ sym (ap blocks_of_look looks ∙ numbers_told made);
    held = held;
  }

-- blocks as they are laid out
pub laid_from : (program : Program) (last : Passed) (made : List MadeBlock) → typing program ≡ Ok (after tt (look_made made) last)
    → (answer : Result LaidBlocks TypeFault) → MatchResult answer (AreLaidOut made) (λ why. why ≡ Memory the_refusal)
    → MatchResult answer (AreLaidBlocks program last) (IsFault (typing program))
laid_from program last made typed (Ok laid) are = record { made = made; typed = typed; laid_out = are }
laid_from program last made typed (Err why) is = inl is

-- ---- what the tree of a program has

module _ (program : Program) (tree : Tree) (resolved : IsResolved program tree) where
  lawful : Lawful program (after tt (tree_look tree) resolved.is_typed.left)
  lawful = typing_is_lawful program (after tt (tree_look tree) resolved.is_typed.left) resolved.is_typed.typed

  pub is_typed : IsTyped program tree
  is_typed = resolved.is_typed

  pub ids_in_order : AreInOrder tree.sites.items
  ids_in_order = resolved.is_typed.is_left.ids

  pub points_in_order : ArePointsInOrder tree.points.items
  points_in_order = resolved.is_typed.is_left.point_ids

  pub has_few_points : vec_len tree.points ≤ 1000000
  has_few_points =
      let as_many : length tree.points.items ≡ length resolved.is_typed.left.points =
      sym (length-map tree.points.items (λ point. point.place)) ∙ ap length resolved.is_typed.is_left.points in
      omega (arith, tree.points.ok.0, as_many, lawful.few_points)

  pub has_types : BeginWithRequired tree.types
  has_types =
      Trees.has_types program (after tt (tree_look tree) resolved.is_typed.left) tree lawful refl resolved.is_typed.is_left resolved.count resolved.bodies

  pub has_few_sites : vec_len tree.sites ≤ 1000000
  has_few_sites =
      let few : length tree.sites.items ≤ 1000000 = subst (λ n. n ≤ 1000000)
      (sym (Trees.as_many_sites program (after tt (tree_look tree) resolved.is_typed.left) tree lawful refl resolved.is_typed.is_left resolved.count
      resolved.bodies))
      lawful.few_sites in
      omega (arith, tree.sites.ok.0)

  pub is_numbered : AreNumbered tree
  is_numbered =
      Trees.is_numbered program (after tt (tree_look tree) resolved.is_typed.left) tree lawful refl resolved.is_typed.is_left resolved.count resolved.bodies

  pub loops_are_numbered : map (λ l. l.0) (loops_of tree) ≡ range_with_len 0 (length (loops_of tree))
  loops_are_numbered =
      Trees.loops_are_numbered program (after tt (tree_look tree) resolved.is_typed.left) tree lawful refl resolved.is_typed.is_left resolved.count
      resolved.bodies

  pub sites_by_place : ArePlacesInOrder (program_places program) → AreByPlace (map stands tree.sites.items)
  sites_by_place order = subst AreByPlace (sym resolved.is_typed.is_left.sites) (lawful.by_place order)

  pub is_well_formed : IsWellFormed tree
  is_well_formed =
      Trees.is_well_formed program (after tt (tree_look tree) resolved.is_typed.left) tree lawful refl resolved.is_typed.is_left resolved.count
      resolved.bodies resolved.is_typed.has_loops resolved.held

-- what an answer has where it is the tree of the program
pub resolved_has : (program : Program) (Has : Tree → Type 0) → ((tree : Tree) → IsResolved program tree → Has tree) → (answer : Result Tree TypeFault)
    → MatchResult answer (IsResolved program) (IsFault (typing program)) → IfOk answer Has
resolved_has program Has has (Ok tree) resolved = has tree resolved
resolved_has program Has has (Err why) stops = tt

-- why there is none
pub not_resolved : (program : Program) (answer : Result Tree TypeFault) → MatchResult answer (IsResolved program) (IsFault (typing program))
    → IfErr answer (IsFault (typing program))
not_resolved program (Ok tree) resolved = tt
not_resolved program (Err why) stops = stops
