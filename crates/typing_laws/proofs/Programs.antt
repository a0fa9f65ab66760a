-- The law of typing: what each typed program has.
use Rattle.std.proofs.Common.{◌≡◌, ℕ, zero, suc, ◌+◌, ◌<◌, ◌≤◌, true, false, ◌&&◌, nat_eq, nat_lt, nat_le, List, [], ◌∷◌, ◌++◌, length, map, Option, Some, None}
use Rattle.std.proofs.Common.{Ok, slice_get, refl, sym, ap, ap₂, subst, ◌∙◌, arith, append_assoc}
use Rattle.std.specs.Prelude.{Contains, IsPermutation}
use Rattle.std.specs.List.{range_with_len, list_all}
use Rattle.std.proofs.lemmas.Bool.Decides.{nat_tests}
use Rattle.std.proofs.lemmas.Grind.{flat_map-append}
use Rattle.std.proofs.lemmas.List.{length-map}
use Rattle.std.proofs.lemmas.Option.{slice_get_within}
use Rattle.std.proofs.lemmas.Result.{IfOk-at_ok}
use Rattle.place.specs.declared.Place.{Place}
use Rattle.syntax_tree.specs.declared.Name.{Name}
use Rattle.syntax_tree.specs.declared.Program.{Program}
use Rattle.syntax_tree.specs.Places.{block_places, name_places, program_places}
use Rattle.types.specs.Types.{most_cells, required_forms}
use Rattle.scopes.specs.Scopes.{Region, opened}
use Rattle.typed_tree.specs.declared.tree.FunctionResult.{FunctionResult}
use Rattle.typed_tree.specs.declared.tree.Heading.{Heading as TreeHeading}
use Rattle.typed_tree.specs.declared.tree.Variable.{Variable}
use Rattle.typed_tree.specs.Ids.{AreByPlace}
use Rattle.typed_tree.specs.Look.{Look, Mark, BlockEnds, mark_blocks, blocks_of_look, are_formed}
use Rattle.typed_tree.specs.WellFormed.{Outline, are_few_cells, is_heading, most_numbered}
use Rattle.typing.specs.Names.{all_folded, required_region}
use Rattle.typing.specs.Passing.{Headed, Passed, After, Passing, after, behind_marks, each, ◌>>◌}
use Rattle.typing_rules.specs.Checked.{Checked}
use Rattle.typing.specs.Steps.{begins, open_block, open_required, program_heading}
use Rattle.typing.specs.Routines.{TypedBlock, block_end, typed_block}
use Rattle.typing.specs.Typing.{parameter_of_program, parameters_of_program, program_typing, typing}
use Rattle.typing.proofs.WalkedBlocks.{typing_goes}
use Rattle.typing.proofs.Ways.{Anyone, Way}
use Rattle.typing_laws.specs.Lawful.{IsOutlineOf, Lawful}
use Rattle.typing_laws.proofs.Blocks.{block_lawful}
use Rattle.typing_laws.proofs.Bodies.{closed, closed_blocks, closed_formed, fine_standing, unthreatened_at_end}
use Rattle.typing_laws.proofs.Built.{AreEnds, Built, Builds, EndsSo, HasSite, Standing, built_then, ends_append, ends_later, is_between, keeps_builds, no_ends}
use Rattle.typing_laws.proofs.AtPlaces.{points_at, sites_at}
use Rattle.typing_laws.proofs.Covers.{Stood, Covers, points_among, sites_among, covers_behind, covers_both, covers_skip}
use Rattle.typing_laws.proofs.Declarations.{parameter_keeps}
use Rattle.typing_laws.proofs.Assigned.{results_assigned}
use Rattle.typing_laws.proofs.Went.{grows, inner}
use Rattle.typing_laws.proofs.Grown.{Grown, sited_then, both_true, fine_later, further, grown_then}
use Rattle.typing_laws.proofs.Headings.{heads_count, parts_of}
use Rattle.typing_laws.proofs.Keeping.{before, behind, each_keeps}
use Rattle.typing_laws.proofs.Numbers.{entries_go, few_entries, few_loops, few_points, few_sites, loops_go}
use Rattle.typing_laws.proofs.Ordered.{covers_by_place}
use Rattle.typing_laws.proofs.Outlines.{Agrees, agrees_in, headed_at, heading_formed, same_parts}
use Rattle.typing_laws.proofs.Owned.{cells_of_block}
use Rattle.typing_laws.proofs.Reached.{same_longer, get_longer, mapped_get, Here, reached, whole_of, signature_of, signature_passed, IsFurther, further_still}
use Rattle.typing_laws.proofs.Ready.{Base, IsHeaded, base_types, heads_passed}
use Rattle.typing_laws.proofs.Sound.{IsSound, opened_holds, required_sound}
use Rattle.typing_laws.proofs.Strings.{behind_nothing}
use Rattle.typing_laws.proofs.Tables.{no_texts, required_lawful}
use Rattle.typing_laws.proofs.Waiting.{count_append, count_of, count_range, one_if, same_counts, waits_in}
use Rattle.typing_laws.specs.Controls.{AreUnthreatened, mark_changes, mark_controls, spared_behind}
use Rattle.typing_laws.specs.Opened.{opened_behind}
use Rattle.typing_laws.proofs.Spared.{none_held, spared_then}
use Rattle.typing_laws.proofs.Opened.{opened_then}
use Rattle.typing_laws.proofs.Placed.{placed_inner}

-- ---- where a program begins

abbrev program_here : Here
program_here = record { block = 0; around = []; records = [] }

abbrev round_it : List Region
round_it = required_region ∷ []

-- its regions are open
abbrev opened_program : Program → TypedBlock → Passed
opened_program program block =
    record (begins program.name.place) { regions = opened (all_folded (program.parameters.items ++ block.names)) ∷ required_region ∷ [] }

begins_base : Base required_forms [] (program_heading ∷ []) 1
begins_base = record {
  lawful = required_lawful;
  headed = headed;
  by_blocks = refl;
  have_types = tt;
  few_variables = omega arith;
  few_blocks = omega arith;
  few_cells = λ block. omega arith;
}
  where
    none : (root : ℕ) → ◌≡◌ {A = Option ℕ} None (Some root) → ⊥
    none root is = absurd cc

    first : IsHeaded required_forms [] (program_heading ∷ []) 0 program_heading
    first = record {
      placed = (refl, refl, refl);
      parameters = refl;
      results = refl;
      ordinal = λ root is. absurd (none root is);
      region = tt;
    }

    headed : (block : ℕ) (h : Headed) → slice_get (program_heading ∷ []) block ≡ Some h → IsHeaded required_forms [] (program_heading ∷ []) block h
    headed zero h is = let same : program_heading ≡ h = cc in subst (IsHeaded required_forms [] (program_heading ∷ []) 0) same first
    headed (suc block) h is = absurd cc

begins_standing : (program : Program) (block : TypedBlock) → Standing program_here round_it (opened_program program block)
begins_standing program block = record {
  ready = record {
    sound = (
      opened_holds (IsSound program_here [] required_forms (heads_passed (program_heading ∷ [])))
          (all_folded (program.parameters.items ++ block.names)),
      (required_sound program_here [] required_forms (heads_passed (program_heading ∷ [])) (omega arith), tt),
    );
    under_it = refl;
    base = begins_base;
    texts = no_texts;
    cells = refl;
  };
  block = refl;
  around = refl;
  none_open = refl;
  records = refl;
  stands = (signature_passed program_heading, refl, refl);
  waiting = λ number waits. absurd cc;
}

parameters_build : (names : List Name) → Builds program_here round_it (λ added. added ≡ []) (each parameter_of_program names)
parameters_build names =
    keeps_builds {Also = λ s. Unit {0}} (λ s st. tt) (λ heads there.
    before (λ s from. from.0) (behind (λ x s r. (r, tt)) (each_keeps (parameter_keeps program_here round_it 0 heads) names)))

-- ---- a program

-- the parts of a program, as they are built
record Whole (program : Program) (a : After (Unit {0})) : Type 0 where
  pub start : Passed
  pub starts : (start.sites ≡ []) × (length start.headings ≡ 1)
      × ((number : ℕ) → waits_in start.enclosing.waiting number ≡ false)
  pub first : Look
  pub middle : Passed
  pub built : Built program_here first start middle
  pub standing : Standing program_here round_it middle
  pub came : (number : ℕ) → waits_in middle.enclosing.waiting number ≡ false
  pub second : Look
  pub grown : Grown program_here second middle a.passed
  pub headed : Headed
  pub result : Option FunctionResult
  pub end : Place
  pub ends : EndsSo (reached a.passed) 0 headed.around headed.parameters result
  pub look : a.look ≡ first ++ (second ++ (BlockEnds 0 headed.around headed.parameters result end ∷ []))
  pub added : List Stood
  pub sites : a.passed.sites ≡ sites_among added
  pub points : a.passed.points ≡ points_among added
  pub covered : Covers 0 (program_places program) added

twice : (r : Checked (After (Unit {0}))) (a : After (Unit {0})) → behind_marks [] (behind_marks [] r) ≡ Ok a → r ≡ Ok a
twice r a h = sym (behind_nothing r) ∙ sym (behind_nothing (behind_marks [] r)) ∙ h

parameters_go : (program : Program) (block : TypedBlock) (a : After (Unit {0})) → parameters_of_program program block (begins program.name.place) ≡ Ok a
    → each parameter_of_program program.parameters.items (opened_program program block) ≡ Ok a
unfolding parameters_of_program open_required open_block
parameters_go program block a is = twice (each parameter_of_program program.parameters.items (opened_program program block)) a is

whole : (program : Program) (a : After (Unit {0})) → typing program ≡ Ok a → Whole program a
unfolding typing program_typing
whole program a is =
    let block = typed_block program.block in
    let s0 = begins program.name.place in
    let s1 = opened_program program block in
    let end : Passing (Unit {0}) = block_end 0 program.name.place block.end program_heading in
    let x = parts_of (parameters_of_program program block) (λ _. block.typing >> end) s0 a is in
    let p = (parameters_build program.parameters.items).builds s1 x.first (parameters_go program block x.first x.goes) (begins_standing program block) in
    let y = parts_of block.typing (λ _. end) x.first.passed x.second x.goes_on in
    let law = block_lawful program.block in
    let i = law.law program_here round_it x.first.passed y.first y.goes p.2 in
    let fine = fine_later i.grown (fine_standing program_here round_it i.middle i.standing) in
    let c = closed program_here program.name.place block program_heading y.first.passed y.second fine y.goes_on in
    let g = grown_then i.grown c.grown in
    let f = built_then p.0 i.built in
    let mark_end = BlockEnds 0 program_heading.around program_heading.parameters c.result block.end in
    let all_look : x.first.look ++ (y.first.look ++ y.second.look) ≡ (x.first.look ++ i.first) ++ ((i.second ++ c.look) ++ (mark_end ∷ [])) =
    ap₂ (λ l m. x.first.look ++ (l ++ m)) i.look c.look_is
    ∙ ap (λ l. x.first.look ++ l) (append_assoc i.first i.second (c.look ++ (mark_end ∷ [])))
    ∙ sym (append_assoc x.first.look i.first (i.second ++ (c.look ++ (mark_end ∷ []))))
    ∙ ap (λ l. (x.first.look ++ i.first) ++ l) (sym (append_assoc i.second c.look (mark_end ∷ []))) in
    let made : after tt (x.first.look ++ (y.first.look ++ y.second.look)) y.second.passed ≡ a =
    ap (λ (z : After (Unit {0})). after z.answer (x.first.look ++ z.look) z.passed) y.both ∙ x.both in
    let at_start : slice_get s1.headings 0 ≡ Some program_heading = refl in
    let at_end : slice_get (map signature_passed y.second.passed.headings) 0 ≡ Some (signature_passed program_heading) =
    mapped_get signature_passed y.second.passed.headings 0 program_heading
    (ap (λ l. slice_get l 0) (inner g.way).headings ∙ get_longer f.grows.headings 0 program_heading at_start) in
    let sited = sited_then {Both = Covers 0 (law.inside ++ (block.end ∷ []))} (covers_both 0 law.inside (block.end ∷ [])) i.sited c.sited in
    let sites : y.second.passed.sites ≡ sites_among sited.added =
    sited.sites ∙ ap (λ l. l ++ sites_among sited.added) (p.1.sites ∙ ap sites_among p.1.covered) in
    let points : y.second.passed.points ≡ points_among sited.added =
    sited.points ∙ ap (λ l. l ++ points_among sited.added) (p.1.points ∙ ap points_among p.1.covered) in
    subst (Whole program) made (record {
      start = s1;
      starts = (refl, refl, (λ number. refl));
      first = x.first.look ++ i.first;
      middle = i.middle;
      built = f;
      standing = i.standing;
      came = i.came;
      second = i.second ++ c.look;
      grown = g;
      headed = program_heading;
      result = c.result;
      end = block.end;
      ends = record {
        signature = signature_passed program_heading;
        is_there = at_end;
        around_it = refl;
        parameters_are = refl;
        result_is = sym c.ends.0;
        site = c.ends.1;
      };
      look = all_look;
      added = sited.added;
      sites = sites;
      points = points;
      covered =
          covers_skip 0 program.name.place (name_places program.parameters.items ++ block_places program.block) sited.added
          (covers_behind 0 (name_places program.parameters.items) (block_places program.block) sited.added
          (subst (λ l. Covers 0 l sited.added) (sym law.places_are) sited.covered));
    })

-- ---- what a program has

module _ (program : Program) (a : After (Unit {0})) (w : Whole program a) where
  abbrev mark_end : Mark
  mark_end = BlockEnds 0 w.headed.around w.headed.parameters w.result w.end

  abbrev ended : Look
  ended = w.second ++ (mark_end ∷ [])

  at_end : {A : Type 0} (f : Look → A) → f a.look ≡ f (w.first ++ ended)
  at_end f = ap f w.look

  blocks_ended : blocks_of_look ended ≡ 0 ∷ []
  blocks_ended = closed_blocks w.second 0 w.headed.around w.headed.parameters w.result w.end (inner w.grown.way).ends

  at_least_one : 0 < length a.passed.headings
  at_least_one =
      omega (
        arith,
        slice_get_within (map signature_passed a.passed.headings) 0 w.ends.signature w.ends.is_there,
        length-map a.passed.headings signature_passed,
      )

  -- each number of a heading stands once among the blocks that end
  counts : (number : ℕ) → count_of number (blocks_of_look a.look) ≡ one_if (is_between 0 (length a.passed.headings) number)
  counts number =
      let both = ap (count_of number) (at_end blocks_of_look ∙ flat_map-append mark_blocks w.first ended)
      ∙ count_append number (blocks_of_look w.first) (blocks_of_look ended) in
      let one = ap (count_of number) blocks_ended in
      let as_many = ap (λ (l : List Headed). one_if (is_between 1 (length l) number)) (inner w.grown.way).headings in
      let from_one = ap (λ n. one_if (is_between n (length w.middle.headings) number)) w.starts.1 in
      let there = slice_get_within w.middle.headings 0 in
      omega (
        arith,
        both,
        one,
        w.built.accounted number,
        ap one_if (w.came number),
        ap one_if (w.starts.2 number),
        from_one,
        as_many,
        first_too number (length a.passed.headings) at_least_one,
      )
    where
      first_too : (number many : ℕ) → 0 < many → one_if (nat_eq number 0) + one_if (is_between 1 many number) ≡ one_if (is_between 0 many number)
      first_too number many some = grind (arith, nat_tests)

  blocks_permuted : IsPermutation (range_with_len 0 (length a.passed.headings)) (blocks_of_look a.look)
  blocks_permuted =
      same_counts (range_with_len 0 (length a.passed.headings)) (blocks_of_look a.look)
      (λ number. count_range number 0 (length a.passed.headings) ∙ from_zero number ∙ sym (counts number))
    where
      from_zero : (number : ℕ)
          → one_if (nat_le 0 number && nat_lt number (0 + length a.passed.headings)) ≡ one_if (is_between 0 (length a.passed.headings) number)
      from_zero number =
          let plain : 0 + length a.passed.headings ≡ length a.passed.headings = omega arith in
          ap (λ n. one_if (nat_le 0 number && nat_lt number n)) plain

  all_end : AreEnds (reached a.passed) a.look
  all_end =
      subst (AreEnds (reached a.passed)) (sym w.look)
      (ends_append (reached a.passed) w.first ended (ends_later (reached w.middle) (reached a.passed) w.first (further w.grown.way) w.built.ends)
      (ends_append (reached a.passed) w.second (mark_end ∷ []) (no_ends (reached a.passed) w.second (inner w.grown.way).ends) (w.ends, tt)))

  -- the variables of for statements are changed in their blocks alone
  has_controls : AreUnthreatened a.look
  has_controls =
      subst AreUnthreatened (sym w.look)
      (unthreatened_at_end program_here w.start w.middle a.passed w.built w.grown mark_end
      (placed_inner mark_changes 0 w.headed.around w.headed.parameters w.result w.end w.second (inner w.grown.way).ends refl)
      (placed_inner mark_controls 0 w.headed.around w.headed.parameters w.result w.end w.second (inner w.grown.way).ends refl))

  -- and nowhere in the statement of their for
  are_spared : spared_behind [] a.look ≡ Some []
  are_spared =
      ap (spared_behind []) w.look
      ∙ spared_then [] w.first ended w.built.spared (spared_then [] w.second (mark_end ∷ []) (w.grown.spared [] (none_held w.middle.controls)) refl)

  -- each access begins at what is there
  are_opened : opened_behind [] a.look ≡ Some []
  are_opened =
      ap (opened_behind []) w.look ∙ opened_then [] [] [] w.first ended w.built.opened (opened_then [] [] [] w.second (mark_end ∷ []) w.grown.opened refl)

  -- the types, variables and headings fit each other
  base : Base a.passed.types a.passed.variables a.passed.headings (length (heads_passed a.passed.headings))
  base =
      let m = w.middle in
      let many = length (heads_passed m.headings) in
      subst (λ h. Base a.passed.types a.passed.variables h (length (heads_passed h))) (sym (inner w.grown.way).headings)
      (subst (λ v. Base a.passed.types v m.headings many) (sym (inner w.grown.way).variables)
      (base_types m.types a.passed.types m.variables m.headings many (grows w.grown.way).types w.grown.lawful w.standing.ready.base))

  module _ (o : Outline) (is : IsOutlineOf a o) where
    agrees : (number : ℕ) → number < length a.passed.headings → Agrees (reached a.passed) o.headings number
    agrees number less = agrees_in (reached a.passed) o.headings a.look number (omega (arith, counts number, is_one number less)) all_end is.headings
      where
        is_one : (number : ℕ) → number < length a.passed.headings → one_if (is_between 0 (length a.passed.headings) number) ≡ 1
        is_one number less = grind (arith, nat_tests)

    same_headings : map signature_of o.headings ≡ map signature_passed a.passed.headings
    same_headings =
        let one = length-map o.headings signature_of in
        let two = length-map a.passed.headings signature_passed in
        same_parts (map signature_of o.headings) (map signature_passed a.passed.headings) (omega (arith, one, two, is.count))
        (λ k less.
        let g = agrees k (omega (arith, less, one, is.count)) in
        mapped_get signature_of o.headings k g.heading g.is_there ∙ sym g.passed)

    as_far_as : IsFurther (reached a.passed) (whole_of o)
    as_far_as = record {
      sites = omega (arith, is.sites);
      points = omega (arith, is.points);
      types = same_longer is.types;
      variables = same_longer is.variables;
      headings = same_longer same_headings;
      threats = λ root threatened. refl;
      apart = λ root apart. refl;
    }

    is_formed : are_formed o a.look ≡ true
    is_formed =
        at_end (are_formed o) ∙ w.built.parts o ended
        ∙ both_true _ _ (w.built.formed o (further_still (further w.grown.way) as_far_as))
        (closed_formed w.second 0 w.headed.around w.headed.parameters w.result w.end o (inner w.grown.way).ends (w.grown.formed o as_far_as))

    heading_is : (number : ℕ) (heading : TreeHeading) → slice_get o.headings number ≡ Some heading → is_heading o number heading ≡ true
    heading_is number heading there =
        let at = headed_at o a.passed.headings same_headings number heading there in
        let less = slice_get_within a.passed.headings number at.0 at.1 in
        let g = agrees number less in
        let same : g.heading ≡ heading = some_same g.heading heading (sym g.is_there ∙ there) in
        let told = base.headed number at.0 at.1 in
        heading_formed o a.passed.headings same_headings number heading at.0 at.2
        (subst (λ t. IsHeaded t o.variables a.passed.headings number at.0) (sym is.types)
        (subst (λ v. IsHeaded a.passed.types v a.passed.headings number at.0) (sym is.variables) told))
        (subst (λ n. HasSite n heading.result) (sym is.sites) (subst (λ (h : TreeHeading). HasSite (length a.passed.sites) h.result) same g.site))
      where
        some_same : (x y : TreeHeading) → Some x ≡ Some y → x ≡ y
        some_same x y h = cc

    cells_are_few : (number : ℕ) → are_few_cells o number ≡ true
    cells_are_few number =
        le_is (cells_of_block o.types number o.variables) most_cells
        (subst (λ t. cells_of_block t number o.variables ≤ most_cells) (sym is.types)
        (subst (λ v. cells_of_block a.passed.types number v ≤ most_cells) (sym is.variables) (base.few_cells number)))
      where
        le_is : (m n : ℕ) → m ≤ n → nat_le m n ≡ true
        le_is m n h = grind (arith, nat_tests)

  is_lawful : Way true Anyone 0 2 a.look (begins program.name.place) a.passed → Lawful program a
  is_lawful way = let entries = entries_go way in let loops = loops_go way in record {
    numbered = entries.ascends;
    few_entries = omega (arith, entries.next_is, few_entries way (omega arith));
    loops = loops.ascends;
    few_loops = omega (arith, loops.next_is, few_loops way (omega arith));
    blocks = blocks_permuted;
    a_block = at_least_one;
    formed = is_formed;
    headings = heading_is;
    few_cells = cells_are_few;
    few_variables = base.few_variables;
    few_blocks = subst (λ n. n ≤ most_numbered) (heads_count a.passed.headings) base.few_blocks;
    declared =
        subst (λ n. list_all (λ (v : Variable). nat_lt v.block n) a.passed.variables ≡ true) (heads_count a.passed.headings) base.by_blocks;
    unthreatened = has_controls;
    spared = are_spared;
    opened = are_opened;
    assigned = results_assigned way refl;
    few_sites = few_sites way (omega arith);
    few_points = few_points way (omega arith);
    sites_there = λ site has. sites_at (program_places program) w.added w.covered site (subst (λ l. Contains l site) w.sites has);
    points_there = λ point has. points_at (program_places program) w.added w.covered point (subst (λ l. Contains l point) w.points has);
    types = w.grown.lawful.begin;
    by_place = λ order. subst AreByPlace (sym w.sites) (covers_by_place (program_places program) w.added order w.covered);
  }

-- what each typed program has
pub typing_is_lawful : (program : Program) (a : After (Unit {0})) → typing program ≡ Ok a → Lawful program a
typing_is_lawful program a is = is_lawful program a (whole program a is)
    (IfOk-at_ok (λ b. Way true Anyone 0 2 b.look (begins program.name.place) b.passed) is (typing_goes program))
