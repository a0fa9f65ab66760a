-- A routine that was called: its activation is the latest, its frame begins behind what its caller holds, and all that stands
-- below it but the scalars is fixed while it runs.
use Rattle.code_generator.proofs.Words.{◌≡◌, ℕ, suc, ◌+◌, ◌-◌, ◌<◌, ◌≤◌, ◌⊎◌, inl, inr, ⊎_elim, List, [], ◌∷◌, ◌++◌, length, map, take, Option, Some, None}
use Rattle.code_generator.proofs.Words.{none-some, option_and_then}
use Rattle.code_generator.proofs.Words.{refl, sym, ap, ◌∙◌, subst, arith, Bool, true, false, length-append, append_assoc, replicate, eq-eqb, if◌then◌else◌}
use Rattle.code_generator.proofs.Words.{nat_eq, nat_lt, slice_get, pos, ◌&&◌, ◌||◌, eqb-true, false≢true, ltb-true, length-map, sum_by-cons, slice_get_within}
use Rattle.code_generator.proofs.Words.{components_of, cells_of, Block, Variable, VariableKind, heading_of, is_parameter_kind, is_variable_kind, roots_where}
use Rattle.code_generator.proofs.Words.{Place, Argument, OfValue, OfRow, OfPlace, Cell, Undefined, Number, Home, routines_of, block_depth, living_need, Scope}
use Rattle.code_generator.proofs.Words.{block_scope, called_routine, cells_where, is_parameter_of, links_to, other_cells, parameter_cells, slot_cells}
use Rattle.code_generator.proofs.Words.{variable_home}
use Rattle.std.specs.Option.{option_map}
use Rattle.std.proofs.lemmas.Bool.{false_from_ne_true}
use Rattle.typed_tree.specs.declared.tree.VariableKind.TheVariants as kinds
use Rattle.typed_tree.specs.WellFormed.{encloses, is_one_of, is_round, is_visible, of_one, outline_of}
use Rattle.meaning.specs.Store.{Environment, place_eq}
use Rattle.meaning.specs.Meaning.{Activation as Begun, environment_of, home_of as home_in, own_place, place_for, place_passed, seen_from}
use Rattle.code_scheme.specs.declared.routine.Routine.{Routine}
use Rattle.code_scheme.specs.Code.{routine_at}
use Rattle.code_scheme.specs.Need.{block_need}
use Rattle.code_scheme.specs.Scopes.{block_level, home_of, is_other_of, level_of, links, offset, routine_or_none, start_of}
use Rattle.code_scheme.proofs.Depths.{block_within}
use Rattle.code_scheme.proofs.Routines.{block_stands}
use Rattle.code_generator.proofs.Alike.{Activation, World, Lives, Fixed, Lies, LiesIn, IsApart, Leads, leads_above, leads_once, leads_split, leads_within}
use Rattle.code_generator.proofs.Cells.{Owned, home_is, lies_inside, other_ends, others_few, own_scalars, owned, owned_back, owned_in, parameter_ends, slot_of}
use Rattle.code_generator.proofs.Cells.{few_passed, start_near, starts_as_other, starts_as_parameter, variable_ends}
use Rattle.code_generator.proofs.Laying.{Laid, fitted_length, found, marked, marked_long, no_reference}
use Rattle.code_generator.proofs.Nesting.{Callable, heading_at, shallow, well_block}
use Rattle.code_generator.proofs.Parts.{IsPart, part_above}
use Rattle.code_generator.proofs.Passing.{Fitted}
use Rattle.code_generator.proofs.Places.{place_apart}
use Rattle.code_generator.proofs.Repeats.{repeats}
use Rattle.code_generator.proofs.Setting.{Setting, Shown, Way, Direct, ByAddress, Reaches}
use Rattle.code_generator.proofs.Lists.{slice_before, slice_behind, slice_get-front, slice_map, slice_there, slice_replicate, all_at}
use Rattle.std.proofs.lemmas.List.{length-replicate}

-- what is told of the cells of a parameter: the address in that of a variable parameter is fixed
abbrev pub fixed_mark : Variable → Cell → Option Cell
fixed_mark v cell = if is_variable_kind v.kind then Some cell else None

module _ (g : Setting) (number : ℕ) (block : Block) (block_is : slice_get g.tree.blocks.items number ≡ Some block)
    (callable : Callable g.tree g.well g.number g.block number block) (outer : ℕ)
    (way : Leads g.fixed (links_to g.scope (called_routine g.scope number).level) g.frame outer) (held cells : List Cell) (arguments : List Argument)
    (activation return depth : ℕ) (old : (a : Activation) → Lives g.world a → a.number < activation)
    (room : g.below + length held + 4 + length cells ≤ g.limit) (laid : Laid g number g.tree.variables.items arguments cells)
    (fits : g.below + length held + (4 + parameter_cells g.tree number + other_cells g.tree number + block_depth block) ≤ g.size) where
  abbrev variables : List Variable
  variables = g.tree.variables.items

  abbrev parameters : ℕ
  parameters = parameter_cells g.tree number

  abbrev others : ℕ
  others = other_cells g.tree number

  -- where its frame begins, and ends below what it holds
  abbrev pub new_frame : ℕ
  new_frame = g.below + length held

  abbrev pub new_below : ℕ
  new_below = new_frame + (4 + parameters + others)

  abbrev pub new_links : List Cell
  new_links = Number (pos outer) ∷ Number (pos g.frame) ∷ Number (pos return) ∷ Number (pos g.limit) ∷ []

  abbrev shape : List (Option Cell)
  shape = marked g number fixed_mark variables cells

  -- what is fixed below its frame, its links, and its parameters and other variables
  abbrev under : Fixed
  under = g.fixed ++ map Some held

  abbrev inside : Fixed
  inside = shape ++ replicate others None

  abbrev pub new_fixed : Fixed
  new_fixed = under ++ (map Some new_links ++ inside)

  abbrev pub new_activation : Activation
  new_activation = record { number = activation; frame = new_frame; owns = owned_in g.tree number }

  abbrev pub new_world : World
  new_world = new_activation ∷ g.world

  abbrev pub new_scope : Scope
  new_scope = block_scope g.tree (routines_of g.tree) number

  abbrev pub begun : Begun
  begun = record { number = activation; block = number; heading = block.heading; arguments = arguments; caller = g.environment }

  abbrev pub new_environment : Environment
  new_environment = environment_of g.tree begun

  -- ---- lengths

  cells_long : length cells ≡ parameters
  cells_long = (marked_long g number fixed_mark variables arguments cells laid).1

  shape_long : length shape ≡ parameters
  shape_long = (marked_long g number fixed_mark variables arguments cells laid).0 ∙ cells_long

  under_long : length under ≡ new_frame
  under_long = let same = g.fixed_is in omega (arith, same, length-append g.fixed (map Some held), length-map held (λ c. Some c))

  pub new_fixed_long : length new_fixed ≡ new_below
  new_fixed_long =
      omega (
        arith,
        under_long,
        length-append under (map Some new_links ++ inside),
        length-append shape (replicate others None),
        shape_long,
        length-replicate {A = Option Cell} others None,
      )

  -- what is fixed at a place in the frame
  pub link_at : (i : ℕ) (cell : Cell) → slice_get new_links i ≡ Some cell → slice_get new_fixed (new_frame + i) ≡ Some (Some cell)
  link_at i cell at =
      let there = slice_map (λ c. Some c) new_links i cell at in
      slice_behind under (map Some new_links ++ inside) i (new_frame + i) (omega (arith, under_long))
      ∙ slice_get-front (map Some new_links) inside i (Some cell) there

  inside_at : (i n : ℕ) → n ≡ new_frame + 4 + i → slice_get new_fixed n ≡ slice_get inside i
  inside_at i n e =
      slice_behind under (map Some new_links ++ inside) (4 + i) n (omega (arith, under_long, e))
      ∙ slice_behind (map Some new_links) inside i (4 + i) refl

  pub outer_fixed : (i : ℕ) (c : Option Cell) → slice_get g.fixed i ≡ Some c → slice_get new_fixed i ≡ Some c
  outer_fixed i c at = slice_get-front under (map Some new_links ++ inside) i c (slice_get-front g.fixed (map Some held) i c at)

  -- ---- scalars

  old_lies : (p : Place) (c : ℕ) (l : LiesIn new_world p c) → Lives g.world l.owner → LiesIn g.world p c
  old_lies p c l lives = record { owner = l.owner; lives = lives; lies = l.lies }

  own_lies : (p : Place) (c : ℕ) (l : LiesIn new_world p c) → l.owner ≡ new_activation → Lies new_activation p c
  own_lies p c l same = subst (λ a. Lies a p c) same l.lies

  old_below : (p : Place) (c : ℕ) → LiesIn g.world p c → c < g.below
  old_below p c l = let same = g.fixed_is in let there = slice_get_within g.fixed c None (g.apart.free p c l) in omega (arith, same, there)

  own_above : (p : Place) (c : ℕ) → Lies new_activation p c → new_frame + 4 ≤ c
  own_above p c l = (lies_inside g.tree g.known new_activation number p c refl l).0

  mixed : (p q : Place) (c d : ℕ) → Lies new_activation p c → LiesIn g.world q d → ((c ≡ d → ⊥) × (p.activation ≡ q.activation → ⊥))
  mixed p q c d l m =
      let low = old_below q d m in
      let high = own_above p c l in
      let younger = old m.owner m.lives in
      let its = l.its in
      let theirs = m.lies.its in
      (λ e. let no : ⊥ = omega (arith, low, high, e) in no, λ e. let no : ⊥ = omega (arith, younger, its, theirs, e) in no)

  apart_by : (p q : Place) (c d : ℕ) (l : LiesIn new_world p c) (m : LiesIn new_world q d) → (l.owner ≡ new_activation) ⊎ Lives g.world l.owner
      → (m.owner ≡ new_activation) ⊎ Lives g.world m.owner → ((c ≡ d) × (place_eq p q ≡ true)) ⊎ ((c ≡ d → ⊥) × (place_eq p q ≡ false))
  apart_by p q c d l m (inl mine) (inl its) =
      own_scalars g.tree g.known new_activation number refl p q c d (own_lies p c l mine) (own_lies q d m its)
  apart_by p q c d l m (inl mine) (inr its) =
      let differ = mixed p q c d (own_lies p c l mine) (old_lies q d m its) in inr (differ.0, place_apart p q differ.1)
  apart_by p q c d l m (inr mine) (inl its) =
      let differ = mixed q p d c (own_lies q d m its) (old_lies p c l mine) in
      inr (λ e. differ.0 (sym e), place_apart p q (λ e. differ.1 (sym e)))
  apart_by p q c d l m (inr mine) (inr its) = g.apart.scalars p q c d (old_lies p c l mine) (old_lies q d m its)

  -- the cell of a scalar of the frame, in rows that fill each such cell alike
  module _ {A : Type 0} (front : List A) (front_long : length front ≡ new_frame + 4) (mark : Variable → Cell → A) (fill : A)
      (fills : (v : Variable) (cell : Cell) → is_variable_kind v.kind ≡ false → mark v cell ≡ fill) where
    abbrev row : List A
    row = marked g number mark variables cells

    filled_at : (v : Variable) (first : List Cell) (i : ℕ) → is_variable_kind v.kind ≡ false → i < length first
        → slice_get (map (mark v) first) i ≡ Some fill
    filled_at v first i plain h =
        let x = slice_there first i h in slice_map (mark v) first i x.0 x.1 ∙ ap Some (fills v x.0 plain)

    pub own_filled : (p : Place) (c : ℕ) → Lies new_activation p c → slice_get (front ++ (row ++ replicate others fill)) c ≡ Some fill
    own_filled p c l = by (is_parameter_kind o.variable.kind) refl
      where
        o : Owned g.tree number p.variable l.extent
        o = owned g.tree number p.variable l.extent l.owned

        start : start_of g.tree p.variable o.variable ≡ l.extent.start
        start = ap (λ e. e.start) o.extent_is

        inward : l.inward < slot_cells g.tree.types o.variable
        inward =
            let long : length (components_of g.tree.types o.variable.type_id) ≡ length l.extent.components = ap (λ e. length e.components) o.extent_is in
            omega (arith, long, slice_get_within l.extent.components l.inward p.steps l.reached, slot_of g.tree g.known o.variable o.no_reference)

        row_long : length row ≡ parameters
        row_long = (marked_long g number mark variables arguments cells laid).0 ∙ cells_long

        by : (kind : Bool) → is_parameter_kind o.variable.kind ≡ kind → slice_get (front ++ (row ++ replicate others fill)) c ≡ Some fill
        by true is =
            let its : is_parameter_of number o.variable ≡ true = ap (λ b. b && is_parameter_kind o.variable.kind) (eq-eqb o.variable.block number o.own) ∙ is in
            let f = found g number mark 0 variables arguments cells p.variable o.variable laid o.declared its in
            let begins = starts_as_parameter g.tree p.variable o.variable is in
            let mine = ap (λ n. cells_where g.tree.types (is_parameter_of n) (take p.variable variables)) o.own in
            let cell = l.cell_is in
            let long = fitted_length g number o.variable f.argument f.first f.fitted in
            slice_behind front (row ++ replicate others fill) (length f.marks_front + l.inward) c
            (omega (arith, front_long, cell, start, begins, mine, f.front_is, f.marks_front_is))
            ∙ slice_before row (replicate others fill) (length f.marks_front + l.inward)
            (omega (
              arith,
              ap length f.marks,
              length-append f.marks_front (map (mark o.variable) f.first ++ f.marks_behind),
              length-append (map (mark o.variable) f.first) f.marks_behind,
              length-map f.first (mark o.variable),
              long,
              inward,
            ))
            ∙ ap (λ l'. slice_get l' (length f.marks_front + l.inward)) f.marks
            ∙ slice_behind f.marks_front (map (mark o.variable) f.first ++ f.marks_behind) l.inward (length f.marks_front + l.inward) refl
            ∙ slice_get-front (map (mark o.variable) f.first) f.marks_behind l.inward fill
            (filled_at o.variable f.first l.inward o.no_reference (omega (arith, long, inward)))
        by false is =
            let begins = starts_as_other g.tree p.variable o.variable is in
            let mine = ap (λ n. cells_where g.tree.types (is_other_of n) (take p.variable variables)) o.own in
            let front_is = ap (parameter_cells g.tree) o.own in
            let ends = other_ends g.tree p.variable o.variable o.declared is in
            let rest = ap (other_cells g.tree) o.own in
            let cell = l.cell_is in
            let at = cells_where g.tree.types (is_other_of number) (take p.variable variables) + l.inward in
            slice_behind front (row ++ replicate others fill) (parameters + at) c (omega (arith, front_long, cell, start, begins, mine, front_is))
            ∙ slice_behind row (replicate others fill) at (parameters + at) (omega (arith, row_long))
            ∙ slice_replicate others at fill (omega (arith, begins, mine, front_is, ends, rest, inward))

  own_free : (p : Place) (c : ℕ) → Lies new_activation p c → slice_get new_fixed c ≡ Some None
  own_free p c l =
      let front = under ++ map Some new_links in
      let long : length front ≡ new_frame + 4 = omega (arith, under_long, length-append under (map Some new_links)) in
      ap (λ l'. slice_get l' c) (sym (append_assoc under (map Some new_links) inside))
      ∙ own_filled front long fixed_mark None (λ v cell plain. ap (λ b. if b then Some cell else None) plain) p c l

  pub new_apart : IsApart new_world new_fixed
  new_apart = record {
    scalars = λ p q c d l m. apart_by p q c d l m l.lives m.lives;
    free = λ p c l.
        ⊎_elim
        (λ (mine : l.owner ≡ new_activation). own_free p c (own_lies p c l mine))
        (λ (its : Lives g.world l.owner). outer_fixed c None (g.apart.free p c (old_lies p c l its)))
        l.lives;
  }

  -- ---- levels

  abbrev caller_level : ℕ
  caller_level = length g.block.heading.around.items

  abbrev outer_level : ℕ
  outer_level = length callable.its.its_block.heading.around.items

  level_at : (n : ℕ) (b : Block) → slice_get g.tree.blocks.items n ≡ Some b → block_level g.tree n ≡ length b.heading.around.items
  level_at n b at = ap level_of at

  own_level : length block.heading.around.items ≡ outer_level + 1
  own_level = ap length callable.its.around_is ∙ length-append callable.its.its_block.heading.around.items (callable.its.its ∷ [])

  few_levels : caller_level < 16
  few_levels = shallow g.tree g.well g.number g.block g.block_is

  abbrev pub routine_of : Routine
  routine_of = routine_at g.tree number (0 + length (block_stands g.tree number block block_is).before)

  pub routine_is : called_routine g.scope number ≡ routine_of
  routine_is = ap (λ (rs : List Routine). routine_or_none (slice_get rs number)) g.routines_are
      ∙ ap routine_or_none (block_stands g.tree number block block_is).known

  routine_level : (called_routine g.scope number).level ≡ outer_level
  routine_level =
      let level : (called_routine g.scope number).level ≡ block_level g.tree number - 1 = ap (λ (r : Routine). r.level) routine_is in
      omega (arith, level, level_at number block block_is, own_level)

  -- so many links lead to the declarer's frame
  outer_way : Leads g.fixed (caller_level - outer_level) g.frame outer
  outer_way =
      let level = g.level_is in
      let few = few_levels in
      let same : links_to g.scope (called_routine g.scope number).level ≡ caller_level - outer_level =
      omega (arith, routine_level, level, level_at g.number g.block g.block_is) in
      subst (λ n. Leads g.fixed n g.frame outer) same way

  -- what links of the caller lead to lies behind the declarer's frame
  beyond : (n last : ℕ) → n ≤ outer_level → Leads g.fixed (caller_level - n) g.frame last → Leads g.fixed (outer_level - n) outer last
  beyond n last le l =
      let up = callable.up in
      let parts : caller_level - n ≡ (caller_level - outer_level) + (outer_level - n) = omega (arith, up, le) in
      let split = leads_split g.fixed (caller_level - outer_level) (outer_level - n) g.frame last (subst (λ k. Leads g.fixed k g.frame last) parts l) in
      subst (λ f. Leads g.fixed (outer_level - n) f last)
      (leads_once g.fixed (caller_level - outer_level) g.frame split.0 outer split.1 outer_way) split.2

  outer_within : outer < length g.fixed
  outer_within =
      let inside = g.frame_within in
      let same = g.fixed_is in
      leads_within g.fixed (caller_level - outer_level) g.frame outer (omega arith) outer_way

  -- from the new frame one link more
  one_more : (n last : ℕ) → Leads g.fixed n outer last → Leads new_fixed (suc n) new_frame last
  one_more n last l = (
    outer,
    ap (slice_get new_fixed) (plus_none new_frame) ∙ link_at 0 (Number (pos outer)) refl,
    omega (arith, outer_within, new_fixed_long, under_long, length-append g.fixed (map Some held)),
    leads_above_all n outer last l,
  )
    where
      plus_none : (n : ℕ) → n ≡ n + 0
      plus_none n = omega arith

      leads_above_all : (n frame last : ℕ) → Leads g.fixed n frame last → Leads new_fixed n frame last
      leads_above_all n frame last l =
          leads_above under (map Some new_links ++ inside) n frame last (leads_above g.fixed (map Some held) n frame last l)

  -- ---- the static links

  new_level : new_scope.level ≡ outer_level + 1
  new_level = level_at number block block_is ∙ own_level

  few_outer : outer_level + 1 < 16
  few_outer = let few = shallow g.tree g.well number block block_is in omega (arith, few, own_level)

  pub new_chain : Leads new_fixed (links_to new_scope 0) new_frame g.bottom
  new_chain =
      let level = g.level_is in
      let few = few_levels in
      let all : links_to g.scope 0 ≡ caller_level - 0 = omega (arith, level, few, level_at g.number g.block g.block_is) in
      let mine : suc (outer_level - 0) ≡ links_to new_scope 0 = omega (arith, new_level, few_outer) in
      subst (λ n. Leads new_fixed n new_frame g.bottom) mine
      (one_more (outer_level - 0) g.bottom (beyond 0 g.bottom (omega arith) (subst (λ n. Leads g.fixed n g.frame g.bottom) all g.chain)))

  -- ---- what is visible

  abbrev pub its_home : (root : ℕ) (v : Variable) → slice_get variables root ≡ Some v → variable_home new_scope root ≡ home_of g.tree root v
  its_home root v at = home_is g.tree new_scope root v refl at

  abbrev NewShown : ℕ → Variable → Type 0
  NewShown root v = Shown g.tree new_world new_fixed new_below new_frame new_scope new_environment root v

  -- a variable that the block itself declares
  module _ (root : ℕ) (v : Variable) (at : slice_get variables root ≡ Some v) (own : v.block ≡ number) where
    its_level : (variable_home new_scope root).level ≡ new_scope.level
    its_level = ap (λ (h : Home). h.level) (its_home root v at) ∙ ap (block_level g.tree) own

    pub its_start : (variable_home new_scope root).start ≡ start_of g.tree root v
    its_start = ap (λ (h : Home). h.start) (its_home root v at) ∙ (start_near g.tree g.well g.short number block block_is root v at own).1

    its_refers : (variable_home new_scope root).refers ≡ is_variable_kind v.kind
    its_refers = ap (λ (h : Home). h.refers) (its_home root v at)

    its_leads : Leads new_fixed (links_to new_scope (variable_home new_scope root).level) new_frame new_frame
    its_leads =
        let none : new_scope.level - new_scope.level ≡ 0 = omega arith in
        subst (λ n. Leads new_fixed n new_frame new_frame) (sym (ap (links_to new_scope) its_level ∙ ap links none)) refl

    pub seen : new_environment.variables root ≡ home_in begun root v.kind
    seen =
        ap (seen_from begun root) at
        ∙ ap (λ b. if b then home_in begun root v.kind else (if is_one_of block.heading.around.items v.block then g.environment.variables root else None))
        (eq-eqb v.block number own)

    -- one that is no variable parameter lies in the frame
    pub own_part : is_variable_kind v.kind ≡ false → IsPart (outline_of g.tree) new_world new_below (own_place activation root) v.type_id
        (new_frame + (variable_home new_scope root).start)
    own_part plain =
        let slot = slot_of g.tree g.known v plain in
        let many = g.known.cells g.tree.types v.type_id in
        let ends = variable_ends g.tree root v at in
        let front = ap (parameter_cells g.tree) own in
        let rest = ap (other_cells g.tree) own in
        let start = its_start in
        let small = few_passed g.tree g.short number block block_is in
        let w = well_block g.tree g.well number block block_is in
        record {
          from = record {
            each = λ k steps there. record {
              owner = new_activation;
              lives = inl refl;
              lies = record {
                its = refl;
                extent = record { start = start_of g.tree root v; components = components_of g.tree.types v.type_id };
                owned = owned_back g.tree number root v at own plain;
                inward = k;
                reached = there;
                cell_is = omega (arith, start);
              };
            };
          };
          within = omega (arith, slot, many, ends, front, rest, start);
          few = few_of v at own plain;
          typed = ap (λ o. option_and_then (λ id. Some id) (option_map (λ (w : Variable). w.type_id) o)) at;
        }
      where
        few_of : (v : Variable) → slice_get variables root ≡ Some v → v.block ≡ number → is_variable_kind v.kind ≡ false
            → cells_of g.tree.types v.type_id ≤ 65536
        few_of v at own plain = by (is_parameter_kind v.kind) refl
          where
            by : (kind : Bool) → is_parameter_kind v.kind ≡ kind → cells_of g.tree.types v.type_id ≤ 65536
            by true is =
                let ends = parameter_ends g.tree root v at is in
                let start = starts_as_parameter g.tree root v is in
                let front = ap (parameter_cells g.tree) own in
                let small = few_passed g.tree g.short number block block_is in
                omega (arith, ends, start, front, small, slot_of g.tree g.known v plain, g.known.cells g.tree.types v.type_id)
            by false is =
                let ends = other_ends g.tree root v at is in
                let start = starts_as_other g.tree root v is in
                let front = ap (parameter_cells g.tree) own in
                let rest = ap (other_cells g.tree) own in
                let few = others_few g.tree g.well g.short number block block_is in
                omega (arith, ends, start, front, rest, few, slot_of g.tree g.known v plain, g.known.cells g.tree.types v.type_id)

    shown_direct : is_variable_kind v.kind ≡ false → home_in begun root v.kind ≡ Some (own_place activation root) → NewShown root v
    shown_direct plain home = record {
      place = own_place activation root;
      place_is = seen ∙ home;
      owner = new_frame;
      leads = its_leads;
      way = Direct;
      reaches = (its_refers ∙ plain, own_part plain);
    }

    -- what a variable parameter stands for
    reference : (argument : Argument) (first : List Cell) → is_variable_kind v.kind ≡ true → Fitted g v argument first
        → (p : Place) × (address : ℕ) × (place_passed argument ≡ Some p) × (first ≡ Number (pos address) ∷ [])
        × IsPart (outline_of g.tree) g.world g.below p v.type_id address
    reference (OfValue w) first refers f = absurd (false≢true (sym (no_reference v.kind f.0) ∙ refers))
    reference (OfRow vs) first refers f = absurd (false≢true (sym (no_reference v.kind f.0) ∙ refers))
    reference (OfPlace None) first refers f = absurd f
    reference (OfPlace (Some p)) first refers f = (p, f.0, refl, f.3, f.2)

    shown_reference : v.kind ≡ kinds.VariableParameter → NewShown root v
    shown_reference kind =
        let refers : is_variable_kind v.kind ≡ true = ap is_variable_kind kind in
        let is : is_parameter_kind v.kind ≡ true = ap is_parameter_kind kind in
        let its : is_parameter_of number v ≡ true = ap (λ b. b && is_parameter_kind v.kind) (eq-eqb v.block number own) ∙ is in
        let f = found g number fixed_mark 0 variables arguments cells root v laid at its in
        let begins = starts_as_parameter g.tree root v is in
        let mine = ap (λ n. cells_where g.tree.types (is_parameter_of n) (take root variables)) own in
        let r = reference f.argument f.first refers f.fitted in
        let none : 0 + root ≡ root = omega arith in
        let place : place_for root block.heading.parameters.items arguments ≡ Some r.0 =
        ap (λ roots. place_for root roots arguments) (well_block g.tree g.well number block block_is).parameters_are
        ∙ ap (λ n. place_for n (roots_where (is_parameter_of number) 0 variables) arguments) (sym none) ∙ f.place_is ∙ r.2 in
        let fixed : slice_get new_fixed (new_frame + (variable_home new_scope root).start) ≡ Some (Some (Number (pos r.1))) =
        inside_at (length f.marks_front + 0) (new_frame + (variable_home new_scope root).start)
        (omega (arith, its_start, begins, mine, f.front_is, f.marks_front_is))
        ∙ slice_before shape (replicate others None) (length f.marks_front + 0)
        (omega (
          arith,
          ap length f.marks,
          length-append f.marks_front (map (fixed_mark v) f.first ++ f.marks_behind),
          length-append (map (fixed_mark v) f.first) f.marks_behind,
          length-map f.first (fixed_mark v),
          ap length r.3,
        ))
        ∙ ap (λ l. slice_get l (length f.marks_front + 0)) f.marks
        ∙ slice_behind f.marks_front (map (fixed_mark v) f.first ++ f.marks_behind) 0 (length f.marks_front + 0) refl
        ∙ ap (λ first. slice_get (map (fixed_mark v) first ++ f.marks_behind) 0) r.3
        ∙ ap (λ b. Some (if b then Some (Number (pos r.1)) else None)) refers in
        record {
          place = r.0;
          place_is = seen ∙ ap (home_in begun root) kind ∙ place;
          owner = new_frame;
          leads = its_leads;
          way = ByAddress r.1;
          reaches = (
            its_refers ∙ refers,
            fixed,
            part_above (outline_of g.tree) new_activation g.world g.below new_below r.0 v.type_id r.1 (omega arith) r.4,
          );
        }

    shown_own : (kind : VariableKind) → v.kind ≡ kind → NewShown root v
    shown_own kinds.Local is = shown_direct (ap is_variable_kind is) (ap (home_in begun root) is)
    shown_own kinds.ValueParameter is = shown_direct (ap is_variable_kind is) (ap (home_in begun root) is)
    shown_own kinds.Result is = shown_direct (ap is_variable_kind is) (ap (home_in begun root) is)
    shown_own kinds.VariableParameter is = shown_reference is

  -- one that a block round it declares
  module _ (root : ℕ) (v : Variable) (at : slice_get variables root ≡ Some v) (other : v.block ≡ number → ⊥)
      (round : is_one_of block.heading.around.items v.block ≡ true) where
    outer_shown : Shown g.tree g.world g.fixed g.below g.frame g.scope g.environment root v
    outer_shown =
        g.shows root v at
        (ap (of_one (λ (w : Variable). is_round (outline_of g.tree) g.number w.block)) at
        ∙ ap (of_one (encloses v.block g.number)) (heading_at g.tree.blocks.items g.number g.block g.block_is) ∙ callable.above v.block round)

    abbrev x : Shown g.tree g.world g.fixed g.below g.frame g.scope g.environment root v
    x = outer_shown

    same_home : variable_home g.scope root ≡ variable_home new_scope root
    same_home = g.homes_are root v at ∙ sym (its_home root v at)

    -- its block, whose level isn't greater than the declarer's
    its_block : (b : Block) × (slice_get g.tree.blocks.items v.block ≡ Some b)
    its_block = slice_there g.tree.blocks.items v.block
        (ltb-true v.block (length g.tree.blocks.items) (all_at (λ (w : Variable). nat_lt w.block (length g.tree.blocks.items)) variables root v g.well.declared
        at))

    abbrev far : ℕ
    far = length its_block.0.heading.around.items

    no_deeper : far ≤ outer_level
    no_deeper = callable.no_deeper v.block its_block.0 round its_block.1

    home_level : (variable_home new_scope root).level ≡ far
    home_level = ap (λ (h : Home). h.level) (its_home root v at) ∙ level_at v.block its_block.0 its_block.1

    outer_leads : Leads new_fixed (links_to new_scope (variable_home new_scope root).level) new_frame x.owner
    outer_leads =
        let level = g.level_is in
        let few = few_levels in
        let up = callable.up in
        let low = no_deeper in
        let theirs : links_to g.scope (variable_home g.scope root).level ≡ caller_level - far =
        omega (arith, level, few, level_at g.number g.block g.block_is, home_level, ap (λ (h : Home). h.level) same_home) in
        let mine : suc (outer_level - far) ≡ links_to new_scope (variable_home new_scope root).level =
        omega (arith, new_level, few_outer, home_level, low) in
        subst (λ n. Leads new_fixed n new_frame x.owner) mine
        (one_more (outer_level - far) x.owner (beyond far x.owner low (subst (λ n. Leads g.fixed n g.frame x.owner) theirs x.leads)))

    seen_outside : new_environment.variables root ≡ g.environment.variables root
    seen_outside =
        ap (seen_from begun root) at
        ∙ ap (λ b. if b then home_in begun root v.kind else (if is_one_of block.heading.around.items v.block then g.environment.variables root else None))
        (false_from_ne_true (nat_eq v.block number) (λ e. other (eqb-true v.block number e)))
        ∙ ap (λ b. if b then g.environment.variables root else None) round

    reaches_outside : (way : Way) → Reaches g.tree g.world g.fixed g.below x.place v (x.owner + (variable_home g.scope root).start)
        (variable_home g.scope root).refers way
        → Reaches g.tree new_world new_fixed new_below x.place v (x.owner + (variable_home g.scope root).start) (variable_home g.scope root).refers way
    reaches_outside Direct r = (
      r.0,
      part_above (outline_of g.tree) new_activation g.world g.below new_below x.place v.type_id (x.owner + (variable_home g.scope root).start) (omega arith)
          r.1,
    )
    reaches_outside (ByAddress address) r = (
      r.0,
      outer_fixed (x.owner + (variable_home g.scope root).start) (Some (Number (pos address))) r.1,
      part_above (outline_of g.tree) new_activation g.world g.below new_below x.place v.type_id address (omega arith) r.2,
    )

    shown_outside : NewShown root v
    shown_outside = record {
      place = x.place;
      place_is = seen_outside ∙ x.place_is;
      owner = x.owner;
      leads = outer_leads;
      way = x.way;
      reaches = subst (λ (h : Home). Reaches g.tree new_world new_fixed new_below x.place v (x.owner + h.start) h.refers x.way) same_home
          (reaches_outside x.way x.reaches);
    }

  pub new_shows : (root : ℕ) (v : Variable) → slice_get variables root ≡ Some v → is_visible (outline_of g.tree) number root ≡ true → NewShown root v
  new_shows root v at visible = by (nat_eq v.block number) refl
    where
      there : encloses v.block number (heading_of block) ≡ true
      there =
          ap (of_one (encloses v.block number)) (sym (heading_at g.tree.blocks.items number block block_is))
          ∙ ap (of_one (λ (w : Variable). is_round (outline_of g.tree) number w.block)) (sym at) ∙ visible

      by : (own : Bool) → nat_eq v.block number ≡ own → NewShown root v
      by true is = shown_own root v at (eqb-true v.block number is) v.kind refl
      by false is =
          shown_outside root v at (λ e. false≢true (sym is ∙ eq-eqb v.block number e))
          (ap (λ b. b || is_one_of block.heading.around.items v.block) (sym is) ∙ there)

  -- an offset reaches all of a variable, whichever block declares it
  pub new_near : (root : ℕ) (v : Variable) → slice_get variables root ≡ Some v → (variable_home new_scope root).refers ≡ false
      → (variable_home new_scope root).start + cells_of g.tree.types v.type_id ≤ 16777215
  new_near root v at plain =
      let b = slice_there g.tree.blocks.items v.block
      (ltb-true v.block (length g.tree.blocks.items) (all_at (λ (w : Variable). nat_lt w.block (length g.tree.blocks.items)) variables root v g.well.declared
      at)) in
      let near = start_near g.tree g.well g.short v.block b.0 b.1 root v at refl in
      let refers : is_variable_kind v.kind ≡ false = sym (ap (λ (h : Home). h.refers) (its_home root v at)) ∙ plain in
      let start : (variable_home new_scope root).start ≡ offset (start_of g.tree root v) = ap (λ (h : Home). h.start) (its_home root v at) in
      omega (arith, near.0, near.1, start, slot_of g.tree g.known v refers, g.known.cells g.tree.types v.type_id)

  -- ---- the setting

  pub new_low : new_frame ≤ living_need g.tree (g.number ∷ g.callers)
  new_low =
      let low = g.low in
      let limit = g.limit_is in
      omega (arith, low, limit, room, sum_by-cons (block_need g.tree) g.number g.callers, block_within g.tree g.number g.block g.block_is)

  pub links_inside : new_frame + 4 ≤ new_below
  links_inside = omega arith

  abbrev pub callee : Setting
  callee =
      record {
        known = g.known;
        tree = g.tree;
        well = g.well;
        short = g.short;
        target = g.target;
        sites_are = g.sites_are;
        points_are = g.points_are;
        stands = g.stands;
        comes_back = g.comes_back;
        repeats_are_few = g.repeats_are_few;
        size = g.size;
        limit = new_frame + (4 + parameters + others + block_depth block);
        small = g.small;
        inside = fits;
        number = number;
        block = block;
        block_is = block_is;
        world = new_world;
        fixed = new_fixed;
        apart = new_apart;
        below = new_below;
        fixed_is = new_fixed_long;
        frame = new_frame;
        frame_within = links_inside;
        callers = g.number ∷ g.callers;
        low = new_low;
        limit_is = refl;
        slack = repeats block.body;
        depth = depth;
        scope = new_scope;
        homes_are = its_home;
        routines_are = refl;
        level_is = refl;
        near = new_near;
        environment = new_environment;
        types_are = refl;
        shows = new_shows;
        bottom = g.bottom;
        chain = new_chain;
        blank = outer_fixed (g.bottom + 2) (Some Undefined) g.blank;
        opened = [];
        records = [];
        as_many_homes = refl;
        as_many_records = refl;
        opens = λ slot one at. absurd (none-some one at);
      }
