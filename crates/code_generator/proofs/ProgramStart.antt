-- The program's block as it runs: its activation is the only one, its frame the first, and nothing of it is defined.
use Rattle.code_generator.proofs.Words.{◌≡◌, ℕ, zero, suc, ◌+◌, ◌-◌, ◌<◌, ◌≤◌, inl, ⊎_elim, List, [], ◌∷◌, ◌++◌, length, map, Option, Some, None, refl, sym, ap}
use Rattle.code_generator.proofs.Words.{◌∙◌, subst, arith, Bool, true, false, replicate, eq-eqb, if◌then◌else◌, nat_eq, slice_get, pos, ◌&&◌, ◌||◌, and_parts}
use Rattle.code_generator.proofs.Words.{eqb-true, false≢true, ltb-true, none-some, option_and_then, same_Some, components_of, Form, cells_of, Block, Tree}
use Rattle.code_generator.proofs.Words.{Variable}
use Rattle.code_generator.proofs.Words.{VariableKind, IsWellFormed, heading_of, is_parameter_kind, is_variable_kind, roots_where, Place, Cell, Undefined}
use Rattle.code_generator.proofs.Words.{Number, Home, routines_of, block_depth, Scope, block_scope, cells_where, is_parameter_of, links_to, other_cells}
use Rattle.code_generator.proofs.Words.{parameter_cells, slot_cells, variable_home}
use Rattle.std.specs.Option.{option_map}
use Rattle.std.proofs.lemmas.Bool.{or_parts}
use Rattle.pcode_assembler.specs.declared.instr.Instr.TheVariants as instr
use Rattle.typed_tree.specs.declared.tree.VariableKind.TheVariants as kinds
use Rattle.typed_tree.specs.WellFormed.{encloses, is_one_of, is_value_kind, is_visible, of_one, is_round, outline_of}
use Rattle.meaning.specs.Store.{Environment}
use Rattle.meaning.specs.Meaning.{Activation as Begun, environment_of, first_state, home_of as home_in, own_place, program_activation, seen_from}
use Rattle.code_scheme.specs.Code.{program_code}
use Rattle.code_scheme.specs.Scopes.{block_level, home_of, level_of, offset, start_of}
use Rattle.code_generator.specs.Known.{Known}
use Rattle.code_scheme.specs.Large.{is_too_large}
use Rattle.code_generator.specs.Tables.{point_table, site_table}
use Rattle.code_generator.proofs.Alike.{Activation, World, Fixed, Lies, LiesIn, IsApart, Leads}
use Rattle.code_generator.proofs.Cells.{home_is, lies_inside, others_few, own_scalars, owned_back, owned_in, slot_of, start_near, other_ends}
use Rattle.code_generator.proofs.Cells.{starts_as_other, where_cons}
use Rattle.code_generator.proofs.Nesting.{heading_at, nothing_round_program, same_numbers, well_block}
use Rattle.code_generator.proofs.Parts.{IsPart}
use Rattle.code_generator.proofs.Reach.{Target, Stands}
use Rattle.code_generator.proofs.Repeats.{repeats}
use Rattle.code_generator.proofs.Setting.{Setting, Based, Shown, Direct}
use Rattle.code_generator.proofs.Starting.{keeps_join, keeps_none, keeps_some}
use Rattle.code_generator.proofs.Lists.{slice_behind, slice_there, slice_replicate, all_at}
use Rattle.std.proofs.lemmas.List.{length-replicate}

-- no variables are there of which a test holds
none_is : (test : Variable → Bool) (root : ℕ) (vs : List Variable) (i : ℕ) (v : Variable) → roots_where test root vs ≡ [] → slice_get vs i ≡ Some v
    → test v ≡ false
none_is test root [] i v none at = absurd (none-some v at)
none_is test root (w ∷ vs) zero v none at = by (test w) refl none
  where
    by : (b : Bool) → test w ≡ b → (if b then root ∷ roots_where test (suc root) vs else roots_where test (suc root) vs) ≡ [] → test v ≡ false
    by true is none = cc
    by false is none = ap test (sym (same_Some w v at)) ∙ is
none_is test root (w ∷ vs) (suc i) v none at = by (λ rest. none_is test (suc root) vs i v rest at) (test w) none
  where
    by : (roots_where test (suc root) vs ≡ [] → test v ≡ false) → (b : Bool)
        → (if b then root ∷ roots_where test (suc root) vs else roots_where test (suc root) vs) ≡ [] → test v ≡ false
    by known true none = cc
    by known false none = known none

no_cells : (types : List Form) (test : Variable → Bool) (root : ℕ) (vs : List Variable) → roots_where test root vs ≡ [] → cells_where types test vs ≡ 0
no_cells types test root [] none = refl
no_cells types test root (w ∷ vs) none = by (λ rest. no_cells types test (suc root) vs rest) (test w) refl none
  where
    by : (roots_where test (suc root) vs ≡ [] → cells_where types test vs ≡ 0) → (b : Bool) → test w ≡ b
        → (if b then root ∷ roots_where test (suc root) vs else roots_where test (suc root) vs) ≡ []
        → cells_where types test (w ∷ vs) ≡ 0
    by known true is none = cc
    by known false is none =
        let rest = known none in
        let own = ap (λ b. if b then slot_cells types w else 0) is in
        omega (arith, rest, own, where_cons types test w vs)

module _ (tree : Tree) (well : IsWellFormed tree) (block : Block) (block_is : slice_get tree.blocks.items 0 ≡ Some block) where
  -- the program has no parameters
  no_roots : roots_where (is_parameter_of 0) 0 tree.variables.items ≡ []
  no_roots =
      let w = well_block tree well 0 block block_is in
      let parts = and_parts _ _ w.placed in
      let none = and_parts _ _ parts.1 in
      sym w.parameters_are ∙ same_numbers block.heading.parameters.items [] none.0

  pub none_here : parameter_cells tree 0 ≡ 0
  none_here = no_cells tree.types (is_parameter_of 0) 0 tree.variables.items no_roots

module _ (known : Known) (tree : Tree) (well : IsWellFormed tree) (short : is_too_large tree ≡ false) (target : Target)
    (sites_are : target.tables.sites ≡ site_table tree.sites.items)
    (points_are : target.tables.points ≡ point_table tree.points.items) (stands : Stands target 0 (program_code tree))
    (comes_back : (place n routine : ℕ) → slice_get target.whole place ≡ Some (instr.CallProcedure n routine)
    → (target.to place + 1 < length target.code) × (target.to place + 1 ≤ 1000000))
    (repeats_are_few : (number : ℕ) (block : Block) → slice_get tree.blocks.items number ≡ Some block → suc (repeats block.body) ≤ target.rate)
    (input : List ℕ) (size : ℕ) (small : size ≤ 16777216) (block : Block) (block_is : slice_get tree.blocks.items 0 ≡ Some block)
    (fits : 4 + parameter_cells tree 0 + other_cells tree 0 + block_depth block ≤ size) (turns : ℕ) where
  abbrev variables : List Variable
  variables = tree.variables.items

  abbrev others : ℕ
  others = other_cells tree 0

  none_of : (root : ℕ) (v : Variable) → slice_get variables root ≡ Some v → v.block ≡ 0 → is_parameter_kind v.kind ≡ false
  none_of root v at own =
      ap (λ b. b && is_parameter_kind v.kind) (sym (eq-eqb v.block 0 own))
      ∙ none_is (is_parameter_of 0) 0 variables root v (no_roots tree well block block_is) at

  plain_of : (root : ℕ) (v : Variable) → slice_get variables root ≡ Some v → v.block ≡ 0 → is_variable_kind v.kind ≡ false
  plain_of root v at own = (or_parts (is_value_kind v.kind) (is_variable_kind v.kind) (none_of root v at own)).1

  -- the only activation
  abbrev pub activation : Activation
  activation = record { number = 0; frame = 0; owns = owned_in tree 0 }

  abbrev pub world : World
  world = activation ∷ []

  abbrev first_links : List Cell
  first_links = Number (pos 0) ∷ Number (pos 0) ∷ Undefined ∷ Undefined ∷ []

  abbrev pub fixed : Fixed
  fixed = map (λ c. Some c) first_links ++ replicate others None

  abbrev pub below : ℕ
  below = 4 + parameter_cells tree 0 + others

  abbrev pub cells : List Cell
  cells = first_links ++ replicate others Undefined

  pub fixed_long : length fixed ≡ below
  fixed_long = omega (arith, none_here tree well block block_is, length-replicate {A = Option Cell} others None)

  cells_long : length cells ≡ below
  cells_long = omega (arith, none_here tree well block block_is, length-replicate {A = Cell} others Undefined)

  lies : (p : Place) (c : ℕ) → LiesIn world p c → Lies activation p c
  lies p c l = ⊎_elim (λ (is : l.owner ≡ activation). subst (λ a. Lies a p c) is l.lies) (λ no. absurd no) l.lives

  inside : (p : Place) (c : ℕ) → LiesIn world p c → (4 ≤ c) × (c - 4 < others)
  inside p c l =
      let at = lies_inside tree known activation 0 p c refl (lies p c l) in
      (omega (arith, at.0), omega (arith, at.0, at.1, none_here tree well block block_is))

  behind : {A : Type 0} (front : List A) (x : A) (p : Place) (c : ℕ) → length front ≡ 4 → LiesIn world p c
      → slice_get (front ++ replicate others x) c ≡ Some x
  behind front x p c four l =
      let at = inside p c l in
      slice_behind front (replicate others x) (c - 4) c (omega (arith, at.0, four)) ∙ slice_replicate others (c - 4) x at.1

  pub apart : IsApart world fixed
  apart = record {
    scalars = λ p q c d l m. own_scalars tree known activation 0 refl p q c d (lies p c l) (lies q d m);
    free = λ p c l. behind (map (λ cell. Some cell) first_links) None p c refl l;
  }

  abbrev pub scope : Scope
  scope = block_scope tree (routines_of tree) 0

  abbrev pub begun : Begun
  begun = program_activation tree block.heading

  abbrev pub environment : Environment
  environment = environment_of tree begun

  pub its_home : (root : ℕ) (v : Variable) → slice_get variables root ≡ Some v → variable_home scope root ≡ home_of tree root v
  its_home root v at = home_is tree scope root v refl at

  pub near : (root : ℕ) (v : Variable) → slice_get variables root ≡ Some v → (variable_home scope root).refers ≡ false
      → (variable_home scope root).start + cells_of tree.types v.type_id ≤ 16777215
  near root v at plain =
      let b = slice_there tree.blocks.items v.block
      (ltb-true v.block (length tree.blocks.items) (all_at _ variables root v well.declared at)) in
      let near' = start_near tree well short v.block b.0 b.1 root v at refl in
      let refers : is_variable_kind v.kind ≡ false = sym (ap (λ (h : Home). h.refers) (its_home root v at)) ∙ plain in
      let start : (variable_home scope root).start ≡ offset (start_of tree root v) = ap (λ (h : Home). h.start) (its_home root v at) in
      omega (arith, near'.0, near'.1, start, slot_of tree known v refers, known.cells tree.types v.type_id)

  no_level : block_level tree 0 ≡ 0
  no_level = ap level_of block_is ∙ ap length (nothing_round_program tree well block block_is)

  pub no_links : (level : ℕ) → links_to scope level ≡ 0
  no_links level = omega (arith, no_level)

  -- ---- what is visible

  module _ (root : ℕ) (v : Variable) (at : slice_get variables root ≡ Some v) (own : v.block ≡ 0) where
    its_start : (variable_home scope root).start ≡ start_of tree root v
    its_start = ap (λ (h : Home). h.start) (its_home root v at) ∙ (start_near tree well short 0 block block_is root v at own).1

    its_refers : (variable_home scope root).refers ≡ false
    its_refers = ap (λ (h : Home). h.refers) (its_home root v at) ∙ plain_of root v at own

    its_place : (kind : VariableKind) → is_variable_kind kind ≡ false → home_in begun root kind ≡ Some (own_place 0 root)
    its_place kinds.Local plain = refl
    its_place kinds.ValueParameter plain = refl
    its_place kinds.Result plain = refl
    its_place kinds.VariableParameter plain = absurd (false≢true (sym plain))

    seen : environment.variables root ≡ Some (own_place 0 root)
    seen =
        ap (seen_from begun root) at
        ∙ ap (λ b. if b then home_in begun root v.kind
        else (if is_one_of block.heading.around.items v.block then begun.caller.variables root else None)) (eq-eqb v.block 0 own)
        ∙ its_place v.kind (plain_of root v at own)

    own_part : IsPart (outline_of tree) world below (own_place 0 root) v.type_id (0 + (variable_home scope root).start)
    own_part =
        let slot = slot_of tree known v (plain_of root v at own) in
        let many = known.cells tree.types v.type_id in
        let is = none_of root v at own in
        let ends = other_ends tree root v at is in
        let front = ap (parameter_cells tree) own in
        let rest = ap (other_cells tree) own in
        let few = others_few tree well short 0 block block_is in
        let begins = starts_as_other tree root v is in
        record {
          from = record {
            each = λ k steps there. record {
              owner = activation;
              lives = inl refl;
              lies = record {
                its = refl;
                extent = record { start = start_of tree root v; components = components_of tree.types v.type_id };
                owned = owned_back tree 0 root v at own (plain_of root v at own);
                inward = k;
                reached = there;
                cell_is = omega (arith, its_start);
              };
            };
          };
          within = omega (arith, slot, many, ends, front, rest, its_start);
          few = omega (arith, slot, many, ends, front, rest, begins, few);
          typed = ap (λ o. option_and_then (λ id. Some id) (option_map (λ (w : Variable). w.type_id) o)) at;
        }

    shown : Shown tree world fixed below 0 scope environment root v
    shown = record {
      place = own_place 0 root;
      place_is = seen;
      owner = 0;
      leads = subst (λ n. Leads fixed n 0 0) (sym (no_links (variable_home scope root).level)) refl;
      way = Direct;
      reaches = (its_refers, own_part);
    }

  pub shows : (root : ℕ) (v : Variable) → slice_get variables root ≡ Some v → is_visible (outline_of tree) 0 root ≡ true
      → Shown tree world fixed below 0 scope environment root v
  shows root v at visible = by (nat_eq v.block 0) refl
    where
      there : encloses v.block 0 (heading_of block) ≡ true
      there =
          ap (of_one (encloses v.block 0)) (sym (heading_at tree.blocks.items 0 block block_is))
          ∙ ap (of_one (λ (w : Variable). is_round (outline_of tree) 0 w.block)) (sym at) ∙ visible

      by : (own : Bool) → nat_eq v.block 0 ≡ own → Shown tree world fixed below 0 scope environment root v
      by true is = shown root v at (eqb-true v.block 0 is)
      by false is =
          let round : is_one_of block.heading.around.items v.block ≡ true =
          ap (λ b. b || is_one_of block.heading.around.items v.block) (sym is) ∙ there in
          absurd (false≢true (ap (λ around. is_one_of around v.block) (sym (nothing_round_program tree well block block_is)) ∙ round))

  -- ---- the setting

  pub limit_there : 4 + parameter_cells tree 0 + others + block_depth block ≡ 0 + (4 + parameter_cells tree 0 + others + block_depth block)
  limit_there = omega arith

  abbrev pub setting : Setting
  setting =
      record {
        known = known;
        tree = tree;
        well = well;
        short = short;
        target = target;
        sites_are = sites_are;
        points_are = points_are;
        stands = stands;
        comes_back = comes_back;
        repeats_are_few = repeats_are_few;
        size = size;
        limit = 4 + parameter_cells tree 0 + others + block_depth block;
        small = small;
        inside = fits;
        number = 0;
        block = block;
        block_is = block_is;
        world = world;
        fixed = fixed;
        apart = apart;
        below = below;
        fixed_is = fixed_long;
        frame = 0;
        frame_within = omega arith;
        callers = [];
        low = omega arith;
        limit_is = limit_there;
        slack = repeats block.body;
        depth = suc turns;
        scope = scope;
        homes_are = its_home;
        routines_are = refl;
        level_is = refl;
        near = near;
        environment = environment;
        types_are = refl;
        shows = shows;
        bottom = 0;
        chain = subst (λ n. Leads fixed n 0 0) (sym (no_links 0)) refl;
        blank = refl;
        opened = [];
        records = [];
        as_many_homes = refl;
        as_many_records = refl;
        opens = λ slot one at. absurd (none-some one at);
      }

  -- nothing is defined
  pub first_based : Based setting (first_state input turns) cells
  first_based = record {
    full = cells_long;
    alike = record { scalars = λ p c l. behind first_links Undefined p c refl l; fits = λ p c l. tt };
    keeps = keeps_join (map (λ c. Some c) first_links) (replicate others None) first_links (replicate others Undefined) refl (keeps_some first_links)
        (keeps_none others (replicate others Undefined));
    old = λ a lives. ⊎_elim (λ (is : a ≡ activation). let zero_is = ap (λ (x : Activation). x.number) is in omega (arith, zero_is)) (λ no. absurd no) lives;
    fresh = λ p late. refl;
    lasting = refl;
    deep = omega arith;
  }
