-- What stands behind the heading of a routine: `forward`, or its block, which ends as its heading tells.
use Rattle.std.proofs.Common.{◌≡◌, ℕ, ◌+◌, ◌<◌, ◌≤◌, Bool, true, false, ◌&&◌, nat_eq, if◌then◌else◌, List, [], ◌∷◌, ◌++◌, length, map, Option, Some, None, Ok}
use Rattle.std.proofs.Common.{Err, option_map, slice_get, get_or, refl, sym, ap, ap₂, subst, ◌∙◌, arith, inl, inr, ◌⊎◌, append-nil, append_assoc}
use Rattle.std.proofs.Common.{◌||◌}
use Rattle.std.specs.List.{list_any, list_all}
use Rattle.std.proofs.lemmas.Bool.{eqb-true, eq-eqb}
use Rattle.std.proofs.lemmas.Bool.Decides.{nat_tests}
use Rattle.std.proofs.lemmas.Grind.{flat_map-append}
use Rattle.std.proofs.lemmas.Option.{slice_get_within}
use Rattle.indexmap.specs.IndexMap.{insert_entry}
use Rattle.place.specs.declared.Place.{Place}
use Rattle.syntax_tree.specs.declared.Name.{Name}
use Rattle.scopes.specs.Scopes.{Region, opened_beside, outer}
use Rattle.typed_tree.specs.declared.fault.TypeFault.TheVariants as fault
use Rattle.typed_tree.specs.declared.site.SiteKind.TheVariants as kind
use Rattle.typed_tree.specs.declared.tree.FunctionResult.{FunctionResult}
use Rattle.typed_tree.specs.WellFormed.{Outline, variables_of, is_one_of}
use Rattle.typed_tree.specs.Look.{Mark, Look, BlockEnds, mark_blocks, blocks_of_look, are_formed}
use Rattle.typed_tree.specs.Look.{is_formed_mark}
use Rattle.typed_tree.proofs.Blocks.{formed_as_far, formed_before}
use Rattle.typed_tree.specs.declared.tree.Variable.{Variable}
use Rattle.typing.specs.Names.{all_folded}
use Rattle.typing.specs.Passing.{Enclosing, Headed, Passed, After, Passing, after, behind_marks, mark, ◌>>◌}
use Rattle.typing_rules.specs.Checked.{Checked}
use Rattle.typing.specs.Steps.{close_block, enclosing_now, heading_at, is_assigned, open_beside, program_heading, with_enclosing}
use Rattle.typing.specs.Routines.{Begun, TypedBlock, block_end, forward, result_at_end, routine_block, told_waiting}
use Rattle.typing_laws.proofs.Built.{Built, EndsSo, HasSite, IsOpen, LeavesBuilt, Standing, ends_append, ends_later, is_between, no_ends, open_later, IsChanged}
use Rattle.typing_laws.proofs.Built.{IsControlled, IsOver, and_grouped, between_both, contradicts, no_fewer}
use Rattle.typing_laws.proofs.Covers.{Stood, Covers, points_among, sites_among, covers_both, covers_none}
use Rattle.typing_laws.proofs.Grown.{Fine, Grown, Sited, sited_then, both_true, fine_later, further, grown_further, grown_then, IsFree}
use Rattle.typing_laws.proofs.Headings.{parts_of, quiet_parts}
use Rattle.typing_laws.proofs.Owned.{Fails, block_cells_longer, other_block}
use Rattle.typing_laws.proofs.Ready.{Base, base_types, fit_of, heads_passed, among_split, around_less}
use Rattle.typing_laws.proofs.Reached.{as_long, mapped_longer, get_longer, get_mapped, get_or_is, mapped_get, head_of}
use Rattle.typing_laws.proofs.Reached.{signature_passed, Reached, reached, IsFurther, as_far, further_still, Here, stands_later, is_round_here}
use Rattle.typing_laws.proofs.Routines.{Began, Begins}
use Rattle.typing_laws.proofs.Sound.{AreSound, IsSoundRegion, beside_holds, declared_in, inside_itself, inside_routine, regions_later, round_inside, IsSound}
use Rattle.typing_laws.proofs.Sound.{among_more}
use Rattle.typing_laws.proofs.Sound.{or_right}
use Rattle.typing.proofs.Ways.{Stay}
use Rattle.typing_laws.proofs.Went.{Grows, as_high, grow_then, grows, inner as inner_of, same_controls}
use Rattle.typing_laws.proofs.Steps.{PassingDoes, Anything, Nothing, no_sites, silent_leaves, last as last_does, pure_does, quietly, site_does, sited, split_if}
use Rattle.typing_laws.proofs.Tables.{cells_in}
use Rattle.typing_laws.proofs.Waiting.{count_append, count_of, one_if, is_place, told_of_it, told_of_others, waits_in}
use Rattle.typing_laws.specs.Controls.{AreUnthreatened, Each, in_blocks, mark_changes, mark_controls}
use Rattle.typing_laws.proofs.Spared.{none_held, spared_then}
use Rattle.typing_laws.proofs.Opened.{opened_then}
use Rattle.typing_laws.proofs.Kept.{MayChange, changes_of, controls_of, each_append, each_more}
use Rattle.typing_laws.proofs.Placed.{each_map, each_pair, each_square, placed_as_far, placed_inner}

-- ---- what is told of a routine that waits

abbrev pub with_told : ℕ → Option Place → Passed → Passed
with_told number place s = record s { enclosing = record (s.enclosing) { waiting = insert_entry nat_eq s.enclosing.waiting number place } }

told_is : (number : ℕ) (place : Option Place) (s : Passed) (a : After (Unit {0})) → told_waiting number place s ≡ Ok a
    → after tt [] (with_told number place s) ≡ a
unfolding told_waiting enclosing_now with_enclosing
told_is number place s a is = cc

-- behind a heading, once it is told whether its routine waits
pub record Told (here : Here) (under : List Region) (number : ℕ) (told : Bool) (old new : Passed) : Type 0 where
  pub sites : new.sites ≡ old.sites
  pub points : new.points ≡ old.points
  pub controls_kept : new.controls ≡ old.controls
  pub grows : Grows old new
  pub standing : Standing here under new
  pub is_open : IsOpen here new number
  pub waits_it : waits_in new.enclosing.waiting number ≡ told
  pub accounted :
      (block : ℕ)
      → one_if (waits_in new.enclosing.waiting block) + (if told then 0 else one_if (nat_eq block number))
      ≡ one_if (waits_in old.enclosing.waiting block) + one_if (is_between (length old.headings) (length new.headings) block)
  pub others :
      (block : ℕ) → block < length old.headings → Fails (nat_eq here.block block) → Fails (waits_in old.enclosing.waiting block)
      → Fails (nat_eq number block) × (variables_of block new.variables ≡ variables_of block old.variables)

-- a block whose heading wasn't passed doesn't wait
none_waits_there : (here : Here) (under : List Region) (s : Passed) → Standing here under s → (number : ℕ) → length s.headings ≤ number
    → Fails (waits_in s.enclosing.waiting number)
none_waits_there here under s st number new = by (waits_in s.enclosing.waiting number) refl
  where
    by : (test : Bool) → waits_in s.enclosing.waiting number ≡ test → Fails test
    by true waits =
        let o = st.waiting number waits in
        let less = slice_get_within s.headings number o.headed o.is_there in
        absurd (omega (arith, less, new))
    by false waits = refl

-- what stands is left by what is told
told_standing : (here : Here) (under : List Region) (s : Passed) (number : ℕ) (place : Option Place) → Standing here under s → IsOpen here s number
    → Standing here under (with_told number place s)
told_standing here under s number place st is_open = record {
  ready = record {
    sound = st.ready.sound;
    under_it = st.ready.under_it;
    base = st.ready.base;
    texts = st.ready.texts;
    cells = st.ready.cells;
  };
  block = st.block;
  around = st.around;
  none_open = st.none_open;
  records = st.records;
  stands = st.stands;
  waiting = λ block waits. opened (by block (nat_eq block number) refl waits);
}
  where
    opened : {block : ℕ} → IsOpen here s block → IsOpen here (with_told number place s) block
    opened o = record { headed = o.headed; is_there = o.is_there; around_it = o.around_it; cells = o.cells; other = o.other }

    by : (block : ℕ) (test : Bool) → nat_eq block number ≡ test → waits_in (insert_entry nat_eq s.enclosing.waiting number place) block ≡ true
        → IsOpen here s block
    by block true same waits = subst (IsOpen here s) (sym (eqb-true block number same)) is_open
    by block false other waits = st.waiting block (sym (told_of_others s.enclosing.waiting number block place other) ∙ waits)

open_told : (here : Here) (s : Passed) (number block : ℕ) (place : Option Place) → IsOpen here s block → IsOpen here (with_told number place s) block
open_told here s number block place o = record { headed = o.headed; is_there = o.is_there; around_it = o.around_it; cells = o.cells; other = o.other }

-- behind a new heading
new_told : (here : Here) (under : List Region) (number : ℕ) (place : Option Place) (old now : Passed) → Standing here under old
    → Began here under number old now → Told here under number (is_place place) old (with_told number place now)
new_told here under number place old now st b = record {
  sites = b.sites;
  points = b.points;
  controls_kept = b.controls_kept;
  grows = b.grows;
  standing = told_standing here under now number place b.standing b.is_open;
  is_open = open_told here now number number place b.is_open;
  waits_it = told_of_it now.enclosing.waiting number place;
  accounted = λ block. by block (nat_eq block number) refl;
  others = λ block less other none.
      (other_block number block (λ same. omega (arith, same, b.number_is, less)), b.others block less other);
}
  where
    new_one : (block m : ℕ) → block ≡ length old.headings → m ≡ length old.headings + 1 → one_if (is_between (length old.headings) m block) ≡ 1
    new_one block m one two = grind (arith, nat_tests)

    no_one : (block m : ℕ) → nat_eq block (length old.headings) ≡ false → m ≡ length old.headings + 1
        → one_if (is_between (length old.headings) m block) ≡ 0
    no_one block m one two = grind (arith, nat_tests)

    one_of : (told : Bool) (n : ℕ) → n ≡ 1 → one_if told + (if told then 0 else n) ≡ 1
    one_of true n is = omega arith
    one_of false n is = omega (arith, is)

    none_of : (told : Bool) (n : ℕ) → n ≡ 0 → (if told then 0 else n) ≡ 0
    none_of true n is = refl
    none_of false n is = is

    by : (block : ℕ) (test : Bool) → nat_eq block number ≡ test
        → one_if (waits_in (insert_entry nat_eq now.enclosing.waiting number place) block) + (if is_place place then 0 else one_if (nat_eq block number))
        ≡ one_if (waits_in old.enclosing.waiting block) + one_if (is_between (length old.headings) (length now.headings) block)
    by block true same =
        let at : block ≡ number = eqb-true block number same in
        let told : waits_in (insert_entry nat_eq now.enclosing.waiting number place) block ≡ is_place place =
        ap (waits_in (insert_entry nat_eq now.enclosing.waiting number place)) at ∙ told_of_it now.enclosing.waiting number place in
        let before = none_waits_there here under old st block (omega (arith, at, b.number_is)) in
        omega (
          arith,
          ap one_if told,
          ap one_if before,
          one_of (is_place place) (one_if (nat_eq block number)) (ap one_if same),
          new_one block (length now.headings) (at ∙ b.number_is) b.one_more,
        )
    by block false other =
        let told = told_of_others now.enclosing.waiting number block place other ∙ ap (λ l. waits_in l block) b.waiting in
        omega (
          arith,
          ap one_if told,
          none_of (is_place place) (one_if (nat_eq block number)) (ap one_if other),
          no_one block (length now.headings) (ap (nat_eq block) (sym b.number_is) ∙ other) b.one_more,
        )

-- behind one that waited
resumed_told : (here : Here) (under : List Region) (number : ℕ) (s : Passed) → Standing here under s → waits_in s.enclosing.waiting number ≡ true
    → Told here under number false s (with_told number None s)
resumed_told here under number s st waits = record {
  sites = refl;
  points = refl;
  controls_kept = refl;
  grows = as_high;
  standing = told_standing here under s number None st (st.waiting number waits);
  is_open = open_told here s number number None (st.waiting number waits);
  waits_it = told_of_it s.enclosing.waiting number None;
  accounted = λ block. by block (nat_eq block number) refl;
  others = λ block less other none. (differs block (nat_eq number block) refl none, refl);
}
  where
    none_new : (block m : ℕ) → one_if (is_between m m block) ≡ 0
    none_new block m = grind (arith, nat_tests)

    differs : (block : ℕ) (test : Bool) → nat_eq number block ≡ test → Fails (waits_in s.enclosing.waiting block) → Fails test
    differs block true same none =
        let at : number ≡ block = eqb-true number block same in
        absurd (no (sym (ap (waits_in s.enclosing.waiting) at) ∙ waits) none)
      where
        no : {b : Bool} → b ≡ true → b ≡ false → ⊥
        no one two = let same : true ≡ false = sym one ∙ two in absurd cc
    differs block false other none = refl

    by : (block : ℕ) (test : Bool) → nat_eq block number ≡ test
        → one_if (waits_in (insert_entry nat_eq s.enclosing.waiting number None) block) + one_if (nat_eq block number)
        ≡ one_if (waits_in s.enclosing.waiting block) + one_if (is_between (length s.headings) (length s.headings) block)
    by block true same =
        let at : block ≡ number = eqb-true block number same in
        let told : waits_in (insert_entry nat_eq s.enclosing.waiting number None) block ≡ false =
        ap (waits_in (insert_entry nat_eq s.enclosing.waiting number None)) at ∙ told_of_it s.enclosing.waiting number None in
        omega (arith, ap one_if told, ap one_if same, ap one_if (ap (waits_in s.enclosing.waiting) at ∙ waits), none_new block (length s.headings))
    by block false other =
        let told = told_of_others s.enclosing.waiting number block None other in
        omega (arith, ap one_if told, ap one_if other, none_new block (length s.headings))

-- behind any heading whose block comes
pub begins_told : (here : Here) (under : List Region) (b : Begun) (old now : Passed) → Standing here under old → Begins here under b old now
    → Told here under b.number false old (with_told b.number None now)
begins_told here under b old now st (inl new) = new_told here under b.number None old now st new.1
begins_told here under b old now st (inr waited) =
    subst (λ n. Told here under b.number false old (with_told b.number None n)) waited.2 (resumed_told here under b.number old st waited.1)

-- ---- the directive forward

built_told : (here : Here) (under : List Region) (number : ℕ) (old new : Passed) → Told here under number true old new → Built here [] old new
built_told here under number old new t = record {
  grows = t.grows;
  formed = λ o h. refl;
  parts = λ o rest. refl;
  ends = tt;
  accounted = λ block. omega (arith, t.accounted block);
  others = λ block less other none. (t.others block less other none).1;
  placed = λ roots rest. refl;
  over = λ block there. absurd (omega (arith, there));
  changed = tt;
  controlled = tt;
  unthreatened = tt;
  controls_kept = t.controls_kept;
  spared = refl;
  opened = refl;
}

pub forward_builds : (here : Here) (under : List Region) (b : Begun) (place : Place) (old now : Passed) (a : After (Unit {0})) → Standing here under old
    → Begins here under b old now → forward b.is_first b.number place now ≡ Ok a → LeavesBuilt here under (λ added. added ≡ []) old a
forward_builds here under b place old now a st begins is = by b.is_first begins is
  where
    by : (first : Bool) → ((first ≡ true) × Began here under b.number old now)
        ⊎ ((first ≡ false) × (waits_in old.enclosing.waiting b.number ≡ true) × (old ≡ now))
        → forward first b.number place now ≡ Ok a → LeavesBuilt here under (λ added. added ≡ []) old a
    by true (inl new) goes =
        let told = new_told here under b.number (Some place) old now st new.1 in
        subst (LeavesBuilt here under (λ added. added ≡ []) old) (told_is b.number (Some place) now a goes)
        (built_told here under b.number old (with_told b.number (Some place) now) told, no_sites told.sites told.points, told.standing)
    by true (inr waited) goes = absurd cc
    by false begins goes = absurd cc

-- ---- the end of a block

is_assigned_does : {here : Here} {least : Reached} (place : Place) (root : ℕ) → PassingDoes here least Nothing (is_assigned place root) Anything
unfolding is_assigned
is_assigned_does place root = record {
  does = λ s a is fine h.
      let x = split_if (list_any (nat_eq root) s.assigned) (fault.NeverAssigned place) (after tt [] s) a is in
      silent_leaves Anything x.1 Stay refl refl refl refl fine tt;
}

-- the site of a result stands at the end
abbrev EndsWith : Option ℕ → Option FunctionResult → Reached → Type 0
EndsWith root result now = (option_map (λ (r : FunctionResult). r.root) result ≡ root) × HasSite now.sites result

result_does : {here : Here} {least : Reached} (name end : Place) (root : Option ℕ)
    → PassingDoes here least (Covers 0 (end ∷ [])) (result_at_end name end root) (EndsWith root)
unfolding result_at_end
result_does name end None =
    sited (λ sites none. subst (Covers 0 (end ∷ [])) (sym none) (covers_none 0 (end ∷ []))) (pure_does None (λ n h. (refl, tt)))
result_does name end (Some root) =
    sited (λ sites one. (Some kind.UndefinedResult ∷ [], [], one, (omega arith, tt), refl))
    (quietly (is_assigned_does name root) λ _ _ _ _.
    last_does (site_does kind.UndefinedResult end) λ defined now _ known.
    pure_does (Some (record { root = root; defined = defined })) (λ n h. (refl, omega (arith, known, h.sites))))

-- ---- a block

-- the declarations of a block, and then its statements
pub record Inside (here : Here) (under : List Region) (Has : List Stood → Type 0) (s : Passed) (a : After (Unit {0})) : Type 0 where
  pub first : Look
  pub second : Look
  pub middle : Passed
  pub built : Built here first s middle
  pub standing : Standing here under middle
  pub came : (number : ℕ) → Fails (waits_in middle.enclosing.waiting number)
  pub grown : Grown here second middle a.passed
  pub look : a.look ≡ first ++ second
  pub sited : Sited Has s a.passed

pub record LawfulBody (places : List Place) (b : TypedBlock) : Type 0 where
  pub inside : List Place
  pub places_are : places ≡ inside ++ (b.end ∷ [])
  pub law : (here : Here) (under : List Region) (s : Passed) (a : After (Unit {0})) → b.typing s ≡ Ok a → Standing here under s
      → Inside here under (Covers 0 inside) s a

-- what is known of a block may be passed on to its statements
pub fine_standing : (here : Here) (under : List Region) (s : Passed) → Standing here under s → Fine here s
fine_standing here under s st = record {
  sound = st.ready.sound;
  lawful = st.ready.base.lawful;
  texts = st.ready.texts;
  block = st.block;
  around = st.around;
  records = st.records ∙ sym st.none_open;
  stands = st.stands;
  fit = fit_of s (length (heads_passed s.headings)) st.ready.base;
}

-- forms of a block, and then its end
module _ (look : Look) (number : ℕ) (around parameters : List ℕ) (result : Option FunctionResult) (end : Place) where
  abbrev pub closing : Mark
  closing = BlockEnds number around parameters result end

  pub closed_blocks : blocks_of_look look ≡ [] → blocks_of_look (look ++ (closing ∷ [])) ≡ number ∷ []
  closed_blocks inner = flat_map-append mark_blocks look (closing ∷ []) ∙ ap (λ l. l ++ number ∷ []) inner

  pub closed_formed : (o : Outline) → blocks_of_look look ≡ [] → list_all (is_formed_mark o number) look ≡ true
      → are_formed o (look ++ (closing ∷ [])) ≡ true
  closed_formed o inner formed = formed_before o number look (closing ∷ []) inner refl ∙ ap (λ b. b && true) formed

  pub closed_parts : (o : Outline) (rest : Look)
      → are_formed o ((look ++ (closing ∷ [])) ++ rest) ≡ (are_formed o (look ++ (closing ∷ [])) && are_formed o rest)
  closed_parts o rest = formed_as_far o look rest number around parameters result end

-- what is known where the block of a routine begins
module _ (here : Here) (under : List Region) (number : ℕ) (headed : Headed) (names : List (List ℕ)) where
  abbrev inner : Here
  inner = declared_in here number

  abbrev entered : Passed → Passed
  entered s = record s {
    enclosing = record { block = number; around = headed.around; cells = headed.cells; waiting = [] };
    regions = opened_beside headed.region names ∷ s.regions;
  }

  entered_standing : (s : Passed) → Standing here under s → (o : IsOpen here s number) → o.headed ≡ headed → Standing inner s.regions (entered s)
  entered_standing s st o same =
      let there : slice_get s.headings number ≡ Some headed = o.is_there ∙ ap Some same in
      let around : headed.around ≡ inner.around = ap (λ (h : Headed). h.around) (sym same) ∙ o.around_it in
      let heads = heads_passed s.headings in
      let told = st.ready.base.headed number headed there in
      let region : IsSoundRegion inner s.variables s.types heads headed.region =
      subst (λ l. IsSoundRegion (record { block = number; around = l; records = [] }) s.variables s.types heads headed.region) around told.region in
      record {
        ready = record {
          sound = (
            beside_holds (IsSound inner s.variables s.types heads) headed.region names region,
            regions_later (inside_routine here number st.none_open) as_long as_long as_long s.regions st.ready.sound,
          );
          under_it = refl;
          base = st.ready.base;
          texts = st.ready.texts;
          cells = ap (λ (h : Headed). h.cells) (sym same) ∙ o.cells;
        };
        block = refl;
        around = around;
        none_open = refl;
        records = st.records;
        stands = (signature_passed headed, mapped_get signature_passed s.headings number headed there, around);
        waiting = λ block waits. absurd cc;
      }

  -- behind its end
  abbrev left : Enclosing → Passed → Passed
  left round s = record s { regions = outer s.regions; enclosing = round }

  -- the block round it goes on
  left_standing : (s middle last : Passed) (round : Enclosing) → round ≡ s.enclosing → Standing here under s → Fails (waits_in s.enclosing.waiting number)
      → Fails (nat_eq here.block number)
      → {first : Look} → Built inner first (entered s) middle → Standing inner s.regions middle
      → {second : Look} → Grown inner second middle last → Standing here under (left round last)
  left_standing s middle last round round_is st none apart f inside g =
      let regions : outer last.regions ≡ s.regions = ap outer (inner_of g.way).regions ∙ inside.ready.under_it in
      let kept = inner_of g.way in
      let grown = grow_then f.grows (grows g.way) in
      let at = get_mapped signature_passed s.headings here.block st.stands.0 st.stands.1 in
      let there = slice_get_within s.headings here.block at.0 at.1 in
      let others : (block : ℕ) → block < length s.headings → Fails (nat_eq number block)
      → variables_of block last.variables ≡ variables_of block s.variables =
      λ block less other. ap (variables_of block) kept.variables ∙ f.others block less other refl in
      let own : Fails (nat_eq number here.block) = turned here.block number apart in
      let base : Base last.types last.variables last.headings (length (heads_passed last.headings)) =
      subst (λ h. Base last.types last.variables h (length (heads_passed h))) (sym kept.headings)
      (subst (λ v. Base last.types v middle.headings (length (heads_passed middle.headings))) (sym kept.variables)
      (base_types middle.types last.types middle.variables middle.headings (length (heads_passed middle.headings))
      (grows g.way).types g.lawful inside.ready.base)) in
      let more : IsFurther (reached s) (reached last) = grown_further s last grown (same_controls g.way ∙ f.controls_kept) in
      record {
        ready = record {
          sound =
              subst (AreSound here last.variables last.types (heads_passed last.headings)) (sym regions)
              (regions_later inside_itself grown.variables grown.types
              (mapped_longer head_of (mapped_longer signature_passed grown.headings)) s.regions st.ready.sound);
          under_it = ap outer regions ∙ st.ready.under_it;
          base = base;
          texts = g.texts;
          cells =
              ap (λ (e : Enclosing). e.cells) round_is ∙ st.ready.cells
              ∙ sym (ap (cells_in last.types) (others here.block there own) ∙ block_cells_longer grown.types here.block s.variables st.ready.base.have_types);
        };
        block = ap (λ (e : Enclosing). e.block) round_is ∙ st.block;
        around = ap (λ (e : Enclosing). e.around) round_is ∙ st.around;
        none_open = st.none_open;
        records = kept.records ∙ inside.records;
        stands = stands_later here (reached s) (reached last) more st.stands;
        waiting = λ block waits.
            let before = ap (λ (e : Enclosing). waits_in e.waiting block) (sym round_is) ∙ waits in
            let o = st.waiting block before in
            let less = slice_get_within s.headings block o.headed o.is_there in
            let other : Fails (nat_eq number block) = differs s block none before in
            open_left last round block (open_later here s last block grown.types st.ready.base.have_types grown.headings (others block less other) o);
      }
    where
      turned : (m n : ℕ) → Fails (nat_eq m n) → Fails (nat_eq n m)
      turned m n other = grind (arith, nat_tests)

      open_left : (last : Passed) (round : Enclosing) (block : ℕ) → IsOpen here last block → IsOpen here (left round last) block
      open_left last round block o = record { headed = o.headed; is_there = o.is_there; around_it = o.around_it; cells = o.cells; other = o.other }

      differs : (s : Passed) (block : ℕ) → Fails (waits_in s.enclosing.waiting number) → waits_in s.enclosing.waiting block ≡ true → Fails (nat_eq number block)
      differs s block none waits = other_block number block (λ same. no (ap (waits_in s.enclosing.waiting) same ∙ waits) none)
        where
          no : {b : Bool} → b ≡ true → b ≡ false → ⊥
          no one two = let same : true ≡ false = sym one ∙ two in absurd cc

-- ---- control variables of a block that ends

turned : (m n : ℕ) → Fails (nat_eq m n) → Fails (nat_eq n m)
turned m n other = grind (arith, nat_tests)

-- what stands round a routine's block is that, or stands round its declarer
round_parts : (here : Here) (number block : ℕ) → is_round_here (declared_in here number) block ≡ true
    → (block ≡ number) ⊎ (is_round_here here block ≡ true)
round_parts here number block is = by (nat_eq block number) refl is
  where
    or_left : (a c : Bool) → a ≡ true → (a || c) ≡ true
    or_left true c h = refl
    or_left false c h = absurd cc

    split_last : (is_one_of here.around block ≡ true) ⊎ (block ≡ here.block) → is_round_here here block ≡ true
    split_last (inl inside) = or_right (nat_eq block here.block) (is_one_of here.around block) inside
    split_last (inr same) = or_left (nat_eq block here.block) (is_one_of here.around block) (eq-eqb block here.block same)

    by : (test : Bool) → nat_eq block number ≡ test → (test || is_one_of (here.around ++ here.block ∷ []) block) ≡ true
        → (block ≡ number) ⊎ (is_round_here here block ≡ true)
    by true same h = inl (eqb-true block number same)
    by false same h = inr (split_last (among_split here.around here.block block h))

-- the declarations of a block, its statements, and its end
module _ (here : Here) (start middle last : Passed) {first : Look} {second : Look} (f : Built here first start middle) (g : Grown here second middle last)
    (mark_end : Mark) where
  abbrev with_end : Look
  with_end = first ++ (second ++ (mark_end ∷ []))

  abbrev Apart : ℕ × ℕ → ℕ × ℕ → Type 0
  Apart control change = change.1 ≡ control.1 → change.0 ≡ control.0

  some_alike : (root other : ℕ) (v w : Variable) (variables : List Variable) → other ≡ root → slice_get variables root ≡ Some v
      → slice_get variables other ≡ Some w → v ≡ w
  some_alike root other v w variables same one two = out (sym (ap (slice_get variables) same ∙ one) ∙ two)
    where
      out : Some v ≡ Some w → v ≡ w
      out h = cc

  -- a control variable of a block inside, and what the statements change
  first_apart : (control : ℕ × ℕ) (root : ℕ) → IsControlled first middle control → MayChange here (reached last) root → Apart control (here.block, root)
  first_apart control root c m same =
      let there = ap (λ l. slice_get l control.1) (inner_of g.way).variables ∙ c.is_there in
      let alike = some_alike control.1 root c.variable m.variable last.variables same there m.is_there in
      let block : m.variable.block ≡ control.0 = ap (λ (v : Variable). v.block) (sym alike) ∙ c.own in
      absurd (contradicts (ap (is_round_here here) (sym block) ∙ m.is_visible) (f.over control.0 c.ended).outside)

  -- a control variable of the statements, and what blocks inside change
  second_apart : (root : ℕ) (change : ℕ × ℕ) → IsFree here middle last root → IsChanged here first middle change → Apart (here.block, root) change
  second_apart root change c x same =
      let there = ap (λ l. slice_get l change.1) (inner_of g.way).variables ∙ x.is_there in
      let alike = some_alike root change.1 c.variable x.variable last.variables same c.is_there there in
      let own : c.variable.block ≡ here.block = eqb-true c.variable.block here.block c.own in
      let block : x.variable.block ≡ here.block = ap (λ (v : Variable). v.block) (sym alike) ∙ own in
      absurd (by block x.stands)
    where
      by : x.variable.block ≡ here.block
          → ((is_round_here here x.variable.block ≡ true) × (list_any (nat_eq change.1) middle.threatened ≡ true))
          ⊎ (0 < count_of x.variable.block (blocks_of_look first)) → ⊥
      by block (inl round) = contradicts (ap (λ n. list_any (nat_eq n) middle.threatened) (sym same) ∙ round.1) c.free
      by block (inr ended) =
          let over = f.over here.block (subst (λ n. 0 < count_of n (blocks_of_look first)) block ended) in
          let own : is_round_here here here.block ≡ true = ap (λ b. b || is_one_of here.around here.block) (eq-eqb here.block here.block refl) in
          contradicts own over.outside

  pub unthreatened_at_end : in_blocks mark_changes (second ++ (mark_end ∷ [])) ≡ map (λ root. (here.block, root)) (changes_of second)
      → in_blocks mark_controls (second ++ (mark_end ∷ [])) ≡ map (λ root. (here.block, root)) (controls_of second) → AreUnthreatened with_end
  unthreatened_at_end changes_placed controls_placed =
      let controls = in_blocks mark_controls first in
      let others = map (λ root. (here.block, root)) (controls_of second) in
      let changes = in_blocks mark_changes first in
      let behind = map (λ root. (here.block, root)) (changes_of second) in
      let ended = second ++ (mark_end ∷ []) in
      subst (λ xs. Each (λ x. Each (Apart x) (in_blocks mark_changes with_end)) xs)
      (sym (f.placed mark_controls ended ∙ ap (λ l. controls ++ l) controls_placed))
      (subst (λ ys. Each (λ x. Each (Apart x) ys) (controls ++ others)) (sym (f.placed mark_changes ended ∙ ap (λ l. changes ++ l) changes_placed))
      (each_square Apart controls others changes behind f.unthreatened
      (each_pair (IsControlled first middle) (IsMadeBy (MayChange here (reached last))) Apart controls behind
      (λ control change c made. subst (Apart control) (sym made.1) (first_apart control made.0 c made.2)) f.controlled
      (each_map (MayChange here (reached last)) (IsMadeBy (MayChange here (reached last))) (λ root. (here.block, root)) (changes_of second)
      (λ root m. (root, refl, m)) g.changes))
      (each_pair (IsMadeBy (IsFree here middle last)) (IsChanged here first middle) Apart others changes
      (λ control change made x. subst (λ z. Apart z change) (sym made.1) (second_apart made.0 change made.2 x))
      (each_map (IsFree here middle last) (IsMadeBy (IsFree here middle last)) (λ root. (here.block, root)) (controls_of second)
      (λ root m. (root, refl, m)) g.controls)
      f.changed)
      (each_pair IsOwn IsOwn Apart others behind (λ control change one two same. two ∙ sym one) (all_own (controls_of second))
      (all_own (changes_of second)))))
    where
      IsMadeBy : (ℕ → Type 0) → ℕ × ℕ → Type 0
      IsMadeBy Holds pair = (root : ℕ) × (pair ≡ (here.block, root)) × Holds root

      IsOwn : ℕ × ℕ → Type 0
      IsOwn pair = pair.0 ≡ here.block

      all_own : (roots : List ℕ) → Each IsOwn (map (λ root. (here.block, root)) roots)
      all_own [] = tt
      all_own (root ∷ roots) = (refl, all_own roots)

-- from the declarations of a block to its end
module _ (here : Here) (under : List Region) (number : ℕ) (headed : Headed) (names : List (List ℕ)) where
  abbrev inner_here : Here
  inner_here = declared_in here number

  -- what is not round the block isn't round its declarer's
  outside_too : (block : ℕ) → Fails (is_round_here inner_here block) → Fails (is_round_here here block)
  outside_too block outside = by (is_round_here here block) refl
    where
      by : (test : Bool) → is_round_here here block ≡ test → Fails test
      by true round = absurd (contradicts (round_inside here number block round) outside)
      by false round = refl

  -- the block itself isn't round its declarer's
  itself_outside : (s : Passed) → Standing here under s → (o : IsOpen here s number) → Fails (is_round_here here number)
  itself_outside s st o = by (nat_eq number here.block) (turned here.block number o.other) (is_one_of here.around number) refl
    where
      by : (own : Bool) → Fails own → (round : Bool) → is_one_of here.around number ≡ round → Fails (own || round)
      by own apart true among =
          let many = number + 1 in
          let base = st.ready.base in
          let inside : is_one_of o.headed.around number ≡ true =
          subst (λ l. is_one_of l number ≡ true) (sym o.around_it) (among_more here.around here.block number among) in
          let less =
          around_less s.types s.variables s.headings (length (heads_passed s.headings)) base many number (omega arith) o.headed o.is_there number inside in
          absurd (omega (arith, less))
      by own apart false among = ap (λ b. b || false) apart

  module _ (s middle last : Passed) {first : Look} {second : Look}
      (f : Built inner_here first (entered here under number headed names s) middle) (g : Grown inner_here second middle last) (mark_end : Mark) where
    abbrev whole_look : Look
    whole_look = first ++ (second ++ (mark_end ∷ []))

    module _ (blocks : blocks_of_look (second ++ (mark_end ∷ [])) ≡ number ∷ []) where
      counted_blocks : (block : ℕ) → count_of block (blocks_of_look whole_look) ≡ count_of block (blocks_of_look first) + one_if (nat_eq block number)
      counted_blocks block =
          let both = ap (count_of block) (flat_map-append mark_blocks first (second ++ (mark_end ∷ [])))
          ∙ count_append block (blocks_of_look first) (blocks_of_look (second ++ (mark_end ∷ []))) in
          omega (arith, both, ap (count_of block) blocks)

      there_first : (block : ℕ) → 0 < count_of block (blocks_of_look first) → 0 < count_of block (blocks_of_look whole_look)
      there_first block there = omega (arith, counted_blocks block, there)

      there_last : 0 < count_of number (blocks_of_look whole_look)
      there_last = omega (arith, counted_blocks number, ap one_if (eq-eqb number number refl))

      first_changed : (change : ℕ × ℕ) → IsChanged inner_here first middle change
          → IsChanged here whole_look (left here under number headed names s.enclosing last) change
      first_changed change c = record {
        variable = c.variable;
        is_there = ap (λ l. slice_get l change.1) (inner_of g.way).variables ∙ c.is_there;
        stands = by c.stands;
      }
        where
          round : list_any (nat_eq change.1) middle.threatened ≡ true → (c.variable.block ≡ number) ⊎ (is_round_here here c.variable.block ≡ true)
              → ((is_round_here here c.variable.block ≡ true) × (list_any (nat_eq change.1) last.threatened ≡ true))
              ⊎ (0 < count_of c.variable.block (blocks_of_look whole_look))
          round threatened (inl own) = inr (subst (λ n. 0 < count_of n (blocks_of_look whole_look)) (sym own) there_last)
          round threatened (inr outer) = inl (outer, (grows g.way).threats change.1 threatened)

          by : ((is_round_here inner_here c.variable.block ≡ true) × (list_any (nat_eq change.1) middle.threatened ≡ true))
              ⊎ (0 < count_of c.variable.block (blocks_of_look first))
              → ((is_round_here here c.variable.block ≡ true) × (list_any (nat_eq change.1) last.threatened ≡ true))
              ⊎ (0 < count_of c.variable.block (blocks_of_look whole_look))
          by (inl inside) = round inside.1 (round_parts here number c.variable.block inside.0)
          by (inr ended) = inr (there_first c.variable.block ended)

      second_changed : (root : ℕ) → MayChange inner_here (reached last) root
          → IsChanged here whole_look (left here under number headed names s.enclosing last) (number, root)
      second_changed root m = record {
        variable = m.variable;
        is_there = m.is_there;
        stands = round (nat_eq m.variable.block number) refl m.may (round_parts here number m.variable.block m.is_visible);
      }
        where
          own_end : m.variable.block ≡ number → 0 < count_of m.variable.block (blocks_of_look whole_look)
          own_end own = subst (λ n. 0 < count_of n (blocks_of_look whole_look)) (sym own) there_last

          round : (own : Bool) → nat_eq m.variable.block number ≡ own → (own || list_any (nat_eq root) last.threatened) ≡ true
              → (m.variable.block ≡ number) ⊎ (is_round_here here m.variable.block ≡ true)
              → ((is_round_here here m.variable.block ≡ true) × (list_any (nat_eq root) last.threatened ≡ true))
              ⊎ (0 < count_of m.variable.block (blocks_of_look whole_look))
          round true same may parts = inr (own_end (eqb-true m.variable.block number same))
          round false same may (inl own) = inr (own_end own)
          round false same may (inr outer) = inl (outer, may)

      changed_all : in_blocks mark_changes (second ++ (mark_end ∷ [])) ≡ map (λ root. (number, root)) (changes_of second)
          → Each (IsChanged here whole_look (left here under number headed names s.enclosing last)) (in_blocks mark_changes whole_look)
      changed_all placed =
          let new = left here under number headed names s.enclosing last in
          let Holds = IsChanged here whole_look new in
          subst (Each Holds) (sym (f.placed mark_changes (second ++ (mark_end ∷ [])) ∙ ap (λ l. in_blocks mark_changes first ++ l) placed))
          (each_append Holds (in_blocks mark_changes first) (map (λ root. (number, root)) (changes_of second))
          (each_more (IsChanged inner_here first middle) Holds (in_blocks mark_changes first) first_changed f.changed)
          (each_map (MayChange inner_here (reached last)) Holds (λ root. (number, root)) (changes_of second) second_changed g.changes))

      controlled_all : in_blocks mark_controls (second ++ (mark_end ∷ [])) ≡ map (λ root. (number, root)) (controls_of second)
          → Each (IsControlled whole_look (left here under number headed names s.enclosing last)) (in_blocks mark_controls whole_look)
      controlled_all placed =
          let new = left here under number headed names s.enclosing last in
          let Holds = IsControlled whole_look new in
          subst (Each Holds) (sym (f.placed mark_controls (second ++ (mark_end ∷ [])) ∙ ap (λ l. in_blocks mark_controls first ++ l) placed))
          (each_append Holds (in_blocks mark_controls first) (map (λ root. (number, root)) (controls_of second))
          (each_more (IsControlled first middle) Holds (in_blocks mark_controls first) (λ control c. record {
            variable = c.variable;
            is_there = ap (λ l. slice_get l control.1) (inner_of g.way).variables ∙ c.is_there;
            own = c.own;
            ended = there_first control.0 c.ended;
          }) f.controlled)
          (each_map (IsFree inner_here middle last) Holds (λ root. (number, root)) (controls_of second) (λ root c. record {
            variable = c.variable;
            is_there = c.is_there;
            own = eqb-true c.variable.block number c.own;
            ended = there_last;
          }) g.controls))

  -- the blocks that end are over
  over_all : (old s middle last : Passed) → Told here under number false old s → {first : Look}
      → Built inner_here first (entered here under number headed names s) middle → {second : Look} → Grown inner_here second middle last
      → ((block : ℕ) → Fails (waits_in middle.enclosing.waiting block)) → (look : Look) (mark_end : Mark)
      → blocks_of_look (look ++ (mark_end ∷ [])) ≡ number ∷ [] → (block : ℕ)
      → 0 < count_of block (blocks_of_look (first ++ (look ++ (mark_end ∷ []))))
      → IsOver here (left here under number headed names s.enclosing last) block
  over_all old s middle last t {first} f g came look mark_end blocks block there =
      let both = ap (count_of block) (flat_map-append mark_blocks first (look ++ (mark_end ∷ [])))
      ∙ count_append block (blocks_of_look first) (blocks_of_look (look ++ (mark_end ∷ []))) in
      by (nat_eq block number) refl (omega (arith, both, ap (count_of block) blocks, there))
    where
      as_many : length last.headings ≡ length middle.headings
      as_many = ap length (inner_of g.way).headings

      new_one : 0 < count_of block (blocks_of_look first) → length s.headings ≤ block
      new_one ended = greater (is_between (length s.headings) (length middle.headings) block) refl
          (omega (arith, f.accounted block, ap one_if (came block), ended))
        where
          greater : (test : Bool) → is_between (length s.headings) (length middle.headings) block ≡ test → 0 < one_if test → length s.headings ≤ block
          greater true h some = grind (arith, nat_tests)
          greater false h some = absurd (omega (arith, some))

      by : (own : Bool) → nat_eq block number ≡ own → 0 < count_of block (blocks_of_look first) + one_if own
          → IsOver here (left here under number headed names s.enclosing last) block
      by true same some =
          let at : block ≡ number = eqb-true block number same in
          let known = slice_get_within s.headings number t.is_open.headed t.is_open.is_there in
          record {
            there = omega (arith, at, known, as_many, no_fewer s.headings middle.headings f.grows.headings);
            waits_not = ap (waits_in s.enclosing.waiting) at ∙ t.waits_it;
            outside = ap (is_round_here here) at ∙ itself_outside s t.standing t.is_open;
          }
      by false other some =
          let ended : 0 < count_of block (blocks_of_look first) = omega (arith, some) in
          let over = f.over block ended in
          record {
            there = omega (arith, over.there, as_many);
            waits_not = none_waits_there here under s t.standing block (new_one ended);
            outside = outside_too block over.outside;
          }

-- ---- the block of a routine

pub record Closed (here : Here) (b : TypedBlock) (headed : Headed) (s : Passed) (a : After (Unit {0})) : Type 0 where
  pub look : Look
  pub result : Option FunctionResult
  pub grown : Grown here look s a.passed
  pub sited : Sited (Covers 0 (b.end ∷ [])) s a.passed
  pub ends : (option_map (λ (r : FunctionResult). r.root) result ≡ headed.result) × HasSite (length a.passed.sites) result
  pub look_is : a.look ≡ look ++ (BlockEnds here.block headed.around headed.parameters result b.end ∷ [])

pub closed : (here : Here) (name : Place) (b : TypedBlock) (headed : Headed) (s : Passed) (a : After (Unit {0})) → Fine here s
    → block_end here.block name b.end headed s ≡ Ok a → Closed here b headed s a
unfolding block_end
closed here name b headed s a fine is =
    let ends : Option FunctionResult → Passing (Unit {0}) = λ result. mark (BlockEnds here.block headed.around headed.parameters result b.end) in
    let x = parts_of (result_at_end name b.end headed.result) ends s a is in
    let law = (result_does {here = here} {least = reached s} name b.end headed.result).does s x.first x.goes fine as_far in
    let r = x.first.answer in
    let last : after tt (BlockEnds here.block headed.around headed.parameters r b.end ∷ []) x.first.passed ≡ x.second = ok_is x.goes_on in
    let whole : after tt (x.first.look ++ (BlockEnds here.block headed.around headed.parameters r b.end ∷ [])) x.first.passed ≡ a =
    ap (λ (z : After (Unit {0})). after z.answer (x.first.look ++ z.look) z.passed) last ∙ x.both in
    subst (Closed here b headed s) whole (record {
      look = x.first.look;
      result = r;
      grown = law.0;
      sited = law.1;
      ends = law.2;
      look_is = refl;
    })
  where
    ok_is : {c d : After (Unit {0})} → ◌≡◌ {A = Checked (After (Unit {0}))} (Ok c) (Ok d) → c ≡ d
    ok_is h = cc

-- the parts of a routine's block
record BlockParts (here : Here) (under : List Region) (number : ℕ) (name : Name) (b : TypedBlock) (headed : Headed) (s : Passed)
    (a : After (Unit {0})) : Type 0 where
  pub typed : After (Unit {0})
  pub goes : b.typing (entered here under number headed (all_folded b.names) s) ≡ Ok typed
  pub end : After (Unit {0})
  pub ends : block_end number name.place b.end headed typed.passed ≡ Ok end
  pub both : after tt (typed.look ++ end.look) (left here under number headed (all_folded b.names) s.enclosing end.passed) ≡ a

block_parts : (here : Here) (under : List Region) (number : ℕ) (name : Name) (b : TypedBlock) (headed : Headed) (s : Passed) (a : After (Unit {0}))
    → get_or s.headings number program_heading ≡ headed → routine_block number name b s ≡ Ok a → BlockParts here under number name b headed s a
unfolding routine_block enclosing_now heading_at with_enclosing open_beside close_block
block_parts here under number name b headed s a same is =
    let rest : Headed → Passing (Unit {0}) = λ h. b.typing >> (block_end number name.place b.end h >> (close_block >> with_enclosing s.enclosing)) in
    let start : Headed → Passed = λ h. entered here under number h (all_folded b.names) s in
    let h0 = get_or s.headings number program_heading in
    let on0 : rest h0 (start h0) ≡ Ok a = four (rest h0 (start h0)) a is in
    let on : rest headed (start headed) ≡ Ok a = subst (λ h. rest h (start h) ≡ Ok a) same on0 in
    let x = parts_of b.typing (λ _. block_end number name.place b.end headed >> (close_block >> with_enclosing s.enclosing)) (start headed) a on in
    let y = parts_of (block_end number name.place b.end headed) (λ _. close_block >> with_enclosing s.enclosing) x.first.passed x.second x.goes_on in
    let last : after tt [] (left here under number headed (all_folded b.names) s.enclosing y.first.passed) ≡ y.second = ok_is y.goes_on in
    let inside : after tt y.first.look (left here under number headed (all_folded b.names) s.enclosing y.first.passed) ≡ x.second =
    ap (λ l. after tt l (left here under number headed (all_folded b.names) s.enclosing y.first.passed)) (sym (append-nil y.first.look))
    ∙ ap (λ (z : After (Unit {0})). after z.answer (y.first.look ++ z.look) z.passed) last ∙ y.both in
    record {
      typed = x.first;
      goes = x.goes;
      end = y.first;
      ends = y.goes;
      both = ap (λ (z : After (Unit {0})). after z.answer (x.first.look ++ z.look) z.passed) inside ∙ x.both;
    }
  where
    four : (r : Checked (After (Unit {0}))) (a : After (Unit {0}))
        → behind_marks [] (behind_marks [] (behind_marks [] (behind_marks [] r))) ≡ Ok a → r ≡ Ok a
    four (Ok c) a h = let same : c ≡ a = cc in ap Ok same
    four (Err why) a h = absurd cc

    ok_is : {c d : After (Unit {0})} → ◌≡◌ {A = Checked (After (Unit {0}))} (Ok c) (Ok d) → c ≡ d
    ok_is h = cc

pub routine_block_builds : (here : Here) (under : List Region) (number : ℕ) (name : Name) (b : TypedBlock) (places : List Place) → LawfulBody places b
    → (old s : Passed) (a : After (Unit {0})) → Told here under number false old s → routine_block number name b s ≡ Ok a
    → LeavesBuilt here under (Covers 0 places) old a
routine_block_builds here under number name b places lawful old s a t is =
    let o = t.is_open in
    let headed = o.headed in
    let names = all_folded b.names in
    let inside_here : Here = inner here under number headed names in
    let found = get_or_is s.headings number program_heading headed o.is_there in
    let p = block_parts here under number name b headed s a found is in
    let start = entered here under number headed names s in
    let begins = entered_standing here under number headed names s t.standing o refl in
    let i = lawful.law inside_here s.regions start p.typed p.goes begins in
    let fine = fine_later i.grown (fine_standing inside_here s.regions i.middle i.standing) in
    let c = closed inside_here name.place b headed p.typed.passed p.end fine p.ends in
    let f = i.built in
    let g = grown_then i.grown c.grown in
    let last = left here under number headed names s.enclosing p.end.passed in
    let look = i.second ++ c.look in
    let mark_end = BlockEnds number headed.around headed.parameters c.result b.end in
    let ended = look ++ (mark_end ∷ []) in
    let blocks = closed_blocks look number headed.around headed.parameters c.result b.end (inner_of g.way).ends in
    let all_look : p.typed.look ++ p.end.look ≡ i.first ++ ended =
    ap₂ (λ x y. x ++ y) i.look c.look_is ∙ append_assoc i.first i.second (c.look ++ (mark_end ∷ []))
    ∙ ap (λ l. i.first ++ l) (sym (append_assoc i.second c.look (mark_end ∷ []))) in
    let whole : after tt (i.first ++ ended) last ≡ a = ap (λ l. after tt l last) (sym all_look) ∙ p.both in
    let there = slice_get_within s.headings number headed o.is_there in
    let more : IsFurther (reached i.middle) (reached last) = further g.way in
    let at_end : slice_get (map signature_passed p.end.passed.headings) number ≡ Some (signature_passed headed) =
    mapped_get signature_passed p.end.passed.headings number headed
    (ap (λ l. slice_get l number) (inner_of g.way).headings ∙ get_longer f.grows.headings number headed o.is_there) in
    let end_so : EndsSo (reached last) number headed.around headed.parameters c.result = record {
      signature = signature_passed headed;
      is_there = at_end;
      around_it = refl;
      parameters_are = refl;
      result_is = sym c.ends.0;
      site = c.ends.1;
    } in
    let sited : Sited (Covers 0 places) old last =
    let both = sited_then {Both = Covers 0 (lawful.inside ++ (b.end ∷ []))} (covers_both 0 lawful.inside (b.end ∷ [])) i.sited c.sited in record {
      added = both.added;
      sites = both.sites ∙ ap (λ l. l ++ sites_among both.added) t.sites;
      points = both.points ∙ ap (λ l. l ++ points_among both.added) t.points;
      covered = subst (λ l. Covers 0 l both.added) (sym lawful.places_are) both.covered;
    } in
    let built : Built here (i.first ++ ended) old last = record {
      grows = grow_then t.grows (grow_then f.grows (grows g.way));
      formed = λ w h.
          f.parts w ended
          ∙ both_true _ _ (f.formed w (further_still more h))
          (closed_formed look number headed.around headed.parameters c.result b.end w (inner_of g.way).ends (g.formed w h));
      parts = λ w rest.
          ap (are_formed w) (append_assoc i.first ended rest) ∙ f.parts w (ended ++ rest)
          ∙ ap (λ x. are_formed w i.first && x) (closed_parts look number headed.around headed.parameters c.result b.end w rest)
          ∙ and_grouped (are_formed w i.first) (are_formed w ended) (are_formed w rest)
          ∙ ap (λ x. x && are_formed w rest) (sym (f.parts w ended));
      ends =
          ends_append (reached last) i.first ended (ends_later (reached i.middle) (reached last) i.first more f.ends)
          (ends_append (reached last) look (mark_end ∷ []) (no_ends (reached last) look (inner_of g.way).ends) (end_so, tt));
      accounted = λ block.
          let both = ap (count_of block) (flat_map-append mark_blocks i.first ended) ∙ count_append block (blocks_of_look i.first) (blocks_of_look ended) in
          let one = ap (count_of block) blocks in
          let between = between_both (length old.headings) (length s.headings) (length i.middle.headings) block
          (no_fewer old.headings s.headings t.grows.headings) (no_fewer s.headings i.middle.headings f.grows.headings) in
          let as_many = ap (λ (l : List Headed). one_if (is_between (length old.headings) (length l) block)) (inner_of g.way).headings in
          omega (arith, both, one, f.accounted block, ap one_if (i.came block), t.accounted block, between, as_many);
      others = λ block less other none.
          let told = t.others block less other none in
          let still : block < length s.headings = omega (arith, less, no_fewer old.headings s.headings t.grows.headings) in
          ap (variables_of block) (inner_of g.way).variables ∙ f.others block still told.0 refl ∙ told.1;
      placed = λ roots rest.
          ap (in_blocks roots) (append_assoc i.first ended rest) ∙ f.placed roots (ended ++ rest)
          ∙ ap (λ l. in_blocks roots i.first ++ l) (placed_as_far roots number headed.around headed.parameters c.result b.end look rest)
          ∙ sym (append_assoc (in_blocks roots i.first) (in_blocks roots ended) (in_blocks roots rest))
          ∙ ap (λ l. l ++ in_blocks roots rest) (sym (f.placed roots ended));
      over = over_all here under number headed names old s i.middle p.end.passed t f g i.came look mark_end blocks;
      changed =
          changed_all here under number headed names s i.middle p.end.passed f g mark_end blocks
          (placed_inner mark_changes number headed.around headed.parameters c.result b.end look (inner_of g.way).ends refl);
      controlled =
          controlled_all here under number headed names s i.middle p.end.passed f g mark_end blocks
          (placed_inner mark_controls number headed.around headed.parameters c.result b.end look (inner_of g.way).ends refl);
      unthreatened =
          unthreatened_at_end inside_here start i.middle p.end.passed f g mark_end
          (placed_inner mark_changes number headed.around headed.parameters c.result b.end look (inner_of g.way).ends refl)
          (placed_inner mark_controls number headed.around headed.parameters c.result b.end look (inner_of g.way).ends refl);
      controls_kept = same_controls g.way ∙ f.controls_kept ∙ t.controls_kept;
      spared = spared_then [] i.first ended f.spared (spared_then [] look (mark_end ∷ []) (g.spared [] (none_held i.middle.controls)) refl);
      opened = opened_then [] [] [] i.first ended f.opened (opened_then [] [] [] look (mark_end ∷ []) g.opened refl);
    } in
    let standing =
    left_standing here under number headed names s i.middle p.end.passed s.enclosing refl t.standing t.waits_it o.other f i.standing g in
    subst (LeavesBuilt here under (Covers 0 places) old) whole (built, sited, standing)

-- what stands behind a heading
pub body_builds : (here : Here) (under : List Region) (begins : Begun) (name : Name) (block : TypedBlock) (places : List Place) → LawfulBody places block
    → (old now : Passed) (a : After (Unit {0})) → Standing here under old → Begins here under begins old now
    → (told_waiting begins.number None >> routine_block begins.number name block) now ≡ Ok a → LeavesBuilt here under (Covers 0 places) old a
body_builds here under begins name block places lawful old now a st is_begun is =
    let x = quiet_parts (told_waiting begins.number None) (λ _. routine_block begins.number name block) now a is
    (λ b goes. ap (λ (c : After (Unit {0})). c.look) (sym (told_is begins.number None now b goes))) in
    let told = begins_told here under begins old now st is_begun in
    let on : routine_block begins.number name block (with_told begins.number None now) ≡ Ok a =
    subst (λ (c : After (Unit {0})). routine_block begins.number name block c.passed ≡ Ok a) (sym (told_is begins.number None now x.0 x.1)) x.2 in
    routine_block_builds here under begins.number name block places lawful old (with_told begins.number None now) a told on
