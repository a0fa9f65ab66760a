-- Each definition, each declaration and each block goes a way, and so does a whole program.
use Rattle.std.proofs.Common.{◌≡◌, ◌++◌, ◌&&◌, ap, length, nat_le, refl, ℕ, suc, ◌+◌, Bool, true, false, if◌then◌else◌, List, [], ◌∷◌, Option, Some, None, Vec}
use Rattle.std.proofs.Common.{Ok, Err, nat_eq, map, sym, subst}
use Rattle.std.specs.declared.alloc.Global.{Global}
use Rattle.place.specs.declared.Place.{Place}
use Rattle.syntax_tree.specs.declared.Name.{Name}
use Rattle.syntax_tree.specs.declared.Constant.{Constant}
use Rattle.syntax_tree.specs.declared.Block.{Block}
use Rattle.syntax_tree.specs.declared.Block.TheOpen as block_layer
use Rattle.syntax_tree.specs.declared.Block.TheViews.{roll-Block, roll-Routine}
use Rattle.syntax_tree.specs.declared.Block.TheFolds.{map-Block, map-Routine, fold-roll-Block, fold-roll-Routine, ind-Block, ind-Routine}
use Rattle.syntax_tree.specs.declared.FormalGroup.{FormalGroup}
use Rattle.syntax_tree.specs.declared.Heading.{Heading}
use Rattle.syntax_tree.specs.declared.Heading.TheVariants.{Procedure, Function, Resumed}
use Rattle.syntax_tree.specs.declared.Program.{Program}
use Rattle.syntax_tree.specs.declared.Routine.{Routine}
use Rattle.syntax_tree.specs.declared.ConstantDefinition.{ConstantDefinition}
use Rattle.syntax_tree.specs.declared.TypeDefinition.{TypeDefinition}
use Rattle.syntax_tree.specs.declared.TypeDenoter.{TypeDenoter}
use Rattle.syntax_tree.specs.declared.TypeDenoter.TheOpen.{TypeDenoter-F}
use Rattle.syntax_tree.specs.declared.TypeDenoter.TheOpen as layer
use Rattle.syntax_tree.specs.declared.TypeDenoter.TheViews.{roll-TypeDenoter}
use Rattle.syntax_tree.specs.declared.TypeDenoter.TheFolds.{map-TypeDenoter, fold-roll-TypeDenoter, ind-TypeDenoter}
use Rattle.syntax_tree.specs.declared.VariableGroup.{VariableGroup}
use Rattle.syntax_tree.specs.Places.{fields_of}
use Rattle.types.specs.Forms.{FieldForm, Array, Record}
use Rattle.types.specs.declared.form.TypeId.{TypeId}
use Rattle.scopes.specs.Scopes.{found}
use Rattle.scopes.specs.declared.denotation.Denotation.TheVariants as denotes
use Rattle.typed_tree.specs.declared.fault.TypeFault.TheVariants as fault
use Rattle.typed_tree.specs.declared.tree.VariableKind.{VariableKind}
use Rattle.std.specs.List.{list_any}
use Rattle.typed_tree.specs.declared.tree.FunctionResult.{FunctionResult}
use Rattle.typed_tree.specs.declared.site.SiteKind.TheVariants as kind
use Rattle.typed_tree.specs.Look.{Mark, BlockEnds}
use Rattle.typing.specs.Names.{folded}
use Rattle.typing.specs.Passing.{Headed, Passed, Passing, after, behind_marks, each, pure, mark, ◌>>=◌}
use Rattle.typing_rules.specs.Checked.{Checked, and_then}
use Rattle.typing.specs.Steps.{is_assigned, most_sites, site, begins}
use Rattle.typing.specs.Denoters as Denoters
use Rattle.typing.specs.Denoters.{WrittenDenoter, denoted_type, denoter_step}
use Rattle.typing.specs.Routines as Routines
use Rattle.typing.specs.Routines.{Begun, TypedBlock, TypedRoutine, block_step, routine_step, typed_block, typed_routine}
use Rattle.typing.specs.Typing as Typing
use Rattle.scopes.specs.declared.denotation.File.{File}
use Rattle.typing.proofs.Ways.{Owner, Anyone, Owns, Defines, Way, Stay, One, Then, Token, Site, Ended, below, WayGoes, Walks, then_walks, pure_walks}
use Rattle.typing.proofs.Ways.{given_walks}
use Rattle.typing.proofs.Ways.{by_types_walks, defined_adds, test_walks, walk}
use Rattle.typing.proofs.Ways.{each_walks, declare_walks, latest_walks, add_type_walks, pass_walks, enclosing_now_walks, with_enclosing_walks, heading_at_walks}
use Rattle.typing.proofs.Ways.{open_beside_walks, close_block_walks, open_block_walks, add_heading_walks, open_required_walks}
use Rattle.typing.proofs.WalkedForms.{constant_walks, ordinal_constant_walks, body_walks}

module _ (acts : Bool) (owner : Owner) (defines : Defines owner) (depth : ℕ) where
  abbrev pub Goes_by : {A : Type 0} → Passing A → Type 0
  Goes_by p = Walks (Way acts owner depth depth) p

  -- ---- denoters

  pub type_of_name_walks : (name : Name) → Goes_by (Denoters.type_of_name name)
  unfolding Denoters.type_of_name
  type_of_name_walks name = record { walks = λ old. by old (Denoters.named_type name (found old.regions (folded name.text.now))) }
    where
      by : (old : Passed) (outcome : Checked TypeId)
          → WayGoes (Way acts owner depth depth) old (and_then outcome (λ type_id. Ok (after type_id [] (record old { latest = name.place }))))
      by old (Ok type_id) = One (Token name.place)
      by old (Err why) = tt

  constants_from_walks : (type_id : TypeId) (number : ℕ) (names : List Name) → Goes_by (Denoters.constants_from type_id number names)
  constants_from_walks type_id number [] = search walk
  constants_from_walks type_id number (name ∷ names) =
      then_walks (given_walks _) λ value.
      then_walks (declare_walks name (denotes.Constant value type_id) defines) λ _.
      constants_from_walks type_id (number + 1) names

  enumeration_walks : (names : List Name) → Goes_by (Denoters.enumeration names)
  unfolding Denoters.enumeration
  enumeration_walks names =
      then_walks latest_walks λ place.
      then_walks (given_walks _) λ last.
      then_walks (add_type_walks place _ (defined_adds owner defines _)) λ type_id.
      then_walks (constants_from_walks type_id 0 names) λ _.
      pure_walks type_id

  subrange_walks : (first : Constant) (place : Place) (last : Constant) → Goes_by (Denoters.subrange first place last)
  unfolding Denoters.subrange
  subrange_walks first place last =
      then_walks (ordinal_constant_walks acts owner depth first) λ f.
      then_walks (test_walks _ (ordinal_constant_walks acts owner depth last)) λ form.
      add_type_walks place form (defined_adds owner defines form)

  abbrev pub DenoterWalks : WrittenDenoter → Type 0
  DenoterWalks w = Goes_by w

  abbrev pub DenotersWalk : List WrittenDenoter → Type 0
  DenotersWalk [] = Unit {0}
  DenotersWalk (w ∷ ws) = DenoterWalks w × DenotersWalk ws

  pub index_type_walks : (w : WrittenDenoter) → DenoterWalks w → Goes_by (Denoters.index_type w)
  unfolding Denoters.index_type
  index_type_walks w law = then_walks law (λ id. then_walks latest_walks (λ place. by_types_walks _))

  pub index_types_walk : (ws : List WrittenDenoter) → DenotersWalk ws → Goes_by (Denoters.index_types ws)
  index_types_walk [] laws = search walk
  index_types_walk (w ∷ ws) laws =
      then_walks (index_type_walks w laws.0) (λ id. then_walks (index_types_walk ws laws.1) (λ ids. pure_walks (id ∷ ids)))

  arrays_walk : (packed : Bool) (place : Place) (ids : List TypeId) (element : TypeId) → Goes_by (Denoters.arrays packed place ids element)
  arrays_walk packed place [] element = search walk
  arrays_walk packed place (id ∷ ids) element =
      then_walks (arrays_walk packed place ids element) (λ inner. add_type_walks place (Array packed id inner) (defined_adds owner defines _))

  array_walks : (packed : Bool) (place : Place) (indexes : List WrittenDenoter) (element : WrittenDenoter) → DenotersWalk indexes → DenoterWalks element
      → Goes_by (Denoters.array packed place indexes element)
  unfolding Denoters.array
  array_walks packed place indexes element laws law =
      then_walks (pass_walks place) λ _.
      then_walks (index_types_walk indexes laws) λ ids.
      then_walks law λ inner.
      arrays_walk packed place ids inner

  groups_walk : (fields : List FieldForm) (rows : List (Vec Name Global)) (ws : List WrittenDenoter) → DenotersWalk ws
      → Goes_by (Denoters.grouped_fields fields (fields_of rows ws))
  groups_walk fields [] ws laws = search walk
  groups_walk fields (row ∷ rows) [] laws = search walk
  groups_walk fields (row ∷ rows) (w ∷ ws) laws = then_walks laws.0 (λ id. then_walks (given_walks _) (λ more. groups_walk more rows ws laws.1))

  record_walks : (packed : Bool) (place : Place) (rows : List (Vec Name Global)) (ws : List WrittenDenoter) → DenotersWalk ws
      → Goes_by (Denoters.record_type packed place (fields_of rows ws))
  unfolding Denoters.record_type
  record_walks packed place rows ws laws =
      then_walks (pass_walks place) λ _.
      then_walks (groups_walk [] rows ws laws) λ fields.
      add_type_walks place (Record packed fields) (defined_adds owner defines _)

  set_walks : (packed : Bool) (place : Place) (base : WrittenDenoter) → DenoterWalks base → Goes_by (Denoters.set_type packed place base)
  unfolding Denoters.set_type
  set_walks packed place base law =
      then_walks (pass_walks place) λ _.
      then_walks (index_type_walks base law) λ id.
      then_walks (by_types_walks _) λ form.
      add_type_walks place form (defined_adds owner defines form)

  abbrev pub TypeDenoterWalks : TypeDenoter → Type 0
  TypeDenoterWalks d = Goes_by (denoted_type d)

  abbrev WithDenoter : Type 0
  WithDenoter = (d : TypeDenoter) × TypeDenoterWalks d

  abbrev bare : TypeDenoter-F WithDenoter → TypeDenoter-F TypeDenoter
  bare = map-TypeDenoter WithDenoter TypeDenoter (λ d. d.0)

  rows_walk : (ys : List WithDenoter) → DenotersWalk (map denoted_type (map (λ (y : WithDenoter). y.0) ys))
  rows_walk [] = tt
  rows_walk (y ∷ ys) = (y.1, rows_walk ys)

  rolled : (l : TypeDenoter-F TypeDenoter) → Goes_by (denoter_step (map-TypeDenoter TypeDenoter WrittenDenoter denoted_type l))
      → TypeDenoterWalks (roll-TypeDenoter l)
  rolled l law = subst (λ (w : WrittenDenoter). Goes_by w) (sym (fold-roll-TypeDenoter WrittenDenoter denoter_step l)) law

  denoter_layer : (y : TypeDenoter-F WithDenoter) → TypeDenoterWalks (roll-TypeDenoter (bare y))
  denoter_layer (layer.Name name) = rolled (layer.Name name) (type_of_name_walks name)
  denoter_layer (layer.Enumerated constants) = rolled (layer.Enumerated constants) (enumeration_walks constants.items)
  denoter_layer (layer.Subrange first place last) = rolled (layer.Subrange first place last) (subrange_walks first place last)
  denoter_layer (layer.Array packed place indexes element) =
      rolled (bare (layer.Array packed place indexes element)) (array_walks packed place _ _ (rows_walk indexes.items) element.value.1)
  denoter_layer (layer.Record packed place rows ds semicolon) =
      rolled (bare (layer.Record packed place rows ds semicolon)) (record_walks packed place rows.items _ (rows_walk ds.items))
  denoter_layer (layer.Set packed place base) = rolled (bare (layer.Set packed place base)) (set_walks packed place _ base.value.1)

  pub denoted_type_walks : (d : TypeDenoter) → TypeDenoterWalks d
  denoted_type_walks d = ind-TypeDenoter TypeDenoterWalks (λ x y is. subst (λ z. TypeDenoterWalks (roll-TypeDenoter z)) is (denoter_layer y)) d

  pub denoters_walk : (ds : List TypeDenoter) → DenotersWalk (map denoted_type ds)
  denoters_walk [] = tt
  denoters_walk (d ∷ ds) = (denoted_type_walks d, denoters_walk ds)

  -- ---- declarations

  pub definition_walks : (d : ConstantDefinition) → Goes_by (Routines.definition d)
  unfolding Routines.definition
  definition_walks d = search (walk, constant_walks acts owner depth, defines)

  pub type_definition_walks : (d : TypeDefinition) → Goes_by (Routines.type_definition d)
  unfolding Routines.type_definition
  type_definition_walks d = search (walk, denoted_type_walks, defines)

  pub declared_walks : (block : ℕ) (kind : VariableKind) (type_id : TypeId) (name : Name) → Owns owner block
      → Goes_by (Routines.declared block kind type_id name)
  unfolding Routines.declared
  declared_walks block kind type_id name owns = search (walk, defines, owns)

  pub parameter_walks : (name : Name) → Goes_by (Typing.parameter_of_program name)
  unfolding Typing.parameter_of_program
  parameter_walks name = by (Typing.file_of (folded name.text.now))
    where
      by : (file : Option File) → Goes_by (Typing.declares_file name file)
      by (Some file) = search (walk, defines)
      by None = search walk

  -- ---- headings

  pub result_walks : (block : ℕ) (place : Place) (type_id : Option TypeId) → Owns owner block → Goes_by (Routines.result block place type_id)
  unfolding Routines.result
  result_walks block place None owns = search walk
  result_walks block place (Some type_id) owns = search (walk, owns)

  pub named_walk : (block : ℕ) (kind : VariableKind) (type_id : TypeId) (names : List Name) → Owns owner block
      → Goes_by (Routines.parameters_named block kind type_id names)
  named_walk block kind type_id [] owns = search walk
  named_walk block kind type_id (name ∷ names) owns =
      then_walks (declared_walks block kind type_id name owns) λ root.
      then_walks (named_walk block kind type_id names owns) λ roots.
      pure_walks (root ∷ roots)

  pub parameters_walk : (block : ℕ) (groups : List FormalGroup) (types : List TypeId) → Owns owner block → Goes_by (Routines.parameters block groups types)
  parameters_walk block [] types owns = search walk
  parameters_walk block (g ∷ groups) [] owns = search walk
  parameters_walk block (g ∷ groups) (type_id ∷ types) owns =
      then_walks (named_walk block (Routines.parameter_kind g.by) type_id g.names.items owns) λ roots.
      then_walks (parameters_walk block groups types owns) λ others.
      pure_walks _

  pub types_walk : (groups : List FormalGroup) → Goes_by (Routines.group_types groups)
  types_walk [] = search walk
  types_walk (g ∷ groups) = then_walks (type_of_name_walks g.type_name) (λ id. then_walks (types_walk groups) (λ ids. pure_walks (id ∷ ids)))

  pub of_result_walks : (of_result : Option Name) → Goes_by (Routines.type_of_result of_result)
  unfolding Routines.result_type
  of_result_walks None = search walk
  of_result_walks (Some name) = search (walk, type_of_name_walks)

  pub waiting_for_walks : (is_function : Bool) (name : Name) → Goes_by (Routines.waiting_for is_function name)
  unfolding Routines.waiting_for
  waiting_for_walks is_function name = record { walks = λ old. Stay }

  pub all_came_walks : Goes_by Routines.all_came
  unfolding Routines.all_came
  all_came_walks = search walk

-- variables of the block round a place
module _ (acts : Bool) (depth : ℕ) where
  pub local_walks : (type_id : TypeId) (name : Name) → Walks (Way acts Anyone depth depth) (Routines.local type_id name)
  unfolding Routines.local
  local_walks type_id name = search (walk, declared_walks acts Anyone tt depth)

  pub group_walks : (g : VariableGroup) → Walks (Way acts Anyone depth depth) (Routines.group g)
  unfolding Routines.group
  group_walks g = search (walk, denoted_type_walks acts Anyone tt depth, local_walks)

-- the end of a block
block_end_walks : (depth : ℕ) (number : ℕ) (name end : Place) (heading : Headed)
    → Walks (Way true Anyone depth depth) (Routines.block_end number name end heading)
unfolding Routines.block_end Routines.result_at_end is_assigned site
block_end_walks depth number name end heading = by heading.result
  where
    ends : Option FunctionResult → Mark
    ends result = BlockEnds number heading.around heading.parameters result end

    by : (result : Option ℕ) → Walks (Way true Anyone depth depth) (Routines.result_at_end name end result >>= (λ r. mark (ends r)))
    by None = record { walks = λ old. One (Ended (ends None) refl refl refl) }
    by (Some root) = record { walks = λ old. assigned old (list_any (nat_eq root) old.assigned) refl }
      where
        assigned : (old : Passed) (test : Bool) → list_any (nat_eq root) old.assigned ≡ test → WayGoes (Way true Anyone depth depth) old
            (and_then (and_then (if test then Ok (after (tt {0}) [] old) else Err (fault.NeverAssigned name))
            (λ b. behind_marks {A = Option FunctionResult} b.look
            ((site kind.UndefinedResult end >>= (λ defined. pure (Some (record { root = root; defined = defined })))) b.passed)))
            (λ b. behind_marks b.look (mark (ends b.answer) b.passed)))
        assigned old false is = tt
        assigned old true is = few (nat_le most_sites (length old.sites)) refl
          where
            few : (many : Bool) → nat_le most_sites (length old.sites) ≡ many → WayGoes (Way true Anyone depth depth) old
                (and_then (behind_marks {A = Option FunctionResult} [] (and_then (if many then Err (fault.TooMany end)
                else Ok (after (length old.sites) [] (record old { sites = old.sites ++ (kind.UndefinedResult, end) ∷ []; latest = end })))
                (λ b. behind_marks b.look (pure (Some (record { root = root; defined = b.answer })) b.passed))))
                (λ b. behind_marks b.look (mark (ends b.answer) b.passed)))
            few true h = tt
            few false h =
                Then (One (Site kind.UndefinedResult end (below most_sites (length old.sites) h)))
                (One (Ended (ends (Some (record { root = root; defined = length old.sites }))) refl refl (ap (λ b. b && true) is)))

-- ---- routines

module _ (depth : ℕ) where
  abbrev pub Goes_round : {A : Type 0} → Passing A → Type 0
  Goes_round p = Walks (Way true Anyone depth depth) p

  heading_walks : (number : ℕ) (name : Name) (groups : List FormalGroup) (of_result : Option Name)
      → Goes_round (Routines.heading number name groups of_result)
  unfolding Routines.heading
  heading_walks number name groups of_result =
      then_walks (types_walk true Anyone tt depth groups) λ types.
      then_walks (of_result_walks true Anyone tt depth of_result) λ result_id.
      then_walks enclosing_now_walks λ round.
      then_walks (with_enclosing_walks _) λ _.
      then_walks (result_walks true Anyone tt depth number name.place result_id tt) λ root.
      then_walks (open_block_walks _) λ _.
      then_walks (parameters_walk true Anyone tt (suc depth) number groups types tt) λ roots.
      then_walks close_block_walks λ region.
      then_walks enclosing_now_walks λ own.
      then_walks (with_enclosing_walks round) λ _.
      add_heading_walks _

  begun_walks : (name : Name) (groups : List FormalGroup) (of_result : Option Name) → Goes_round (Routines.begun name groups of_result)
  unfolding Routines.new_heading
  begun_walks name groups of_result = search (walk, heading_walks) depth 12

  headed_walks : (h : Heading) → Goes_round (Routines.headed h)
  headed_walks (Procedure name formals) = by formals.items
    where
      or_new : (number : Option ℕ) → Goes_round (Routines.or_new name number)
      or_new None = begun_walks name [] None
      or_new (Some number) = search walk

      by : (groups : List FormalGroup) → Goes_round (Routines.procedure_headed name groups)
      by [] = then_walks (waiting_for_walks true Anyone tt depth false name) or_new
      by (g ∷ groups) = begun_walks name (g ∷ groups) None
  headed_walks (Function name formals of_result) = begun_walks name formals.items (Some of_result)
  headed_walks (Resumed name) = then_walks (waiting_for_walks true Anyone tt depth true name) or_mismatched
    where
      or_mismatched : (number : Option ℕ) → Goes_round (Routines.or_mismatched name number)
      or_mismatched None = search walk
      or_mismatched (Some number) = search walk

  routine_block_walks : (number : ℕ) (name : Name) (b : TypedBlock) → Walks (Way true Anyone (suc depth) (suc depth)) b.typing
      → Goes_round (Routines.routine_block number name b)
  unfolding Routines.routine_block
  routine_block_walks number name b inner =
      then_walks enclosing_now_walks λ round.
      then_walks (heading_at_walks number) λ heading.
      then_walks (with_enclosing_walks _) λ _.
      then_walks (open_beside_walks _ _) λ _.
      then_walks inner λ _.
      then_walks (block_end_walks (suc depth) number name.place b.end heading) λ _.
      then_walks close_block_walks λ _.
      with_enclosing_walks round

  told_walks : (number : ℕ) (place : Option Place) → Goes_round (Routines.told_waiting number place)
  unfolding Routines.told_waiting
  told_walks number place = search walk

-- a block, however many regions are open
pub record BlockWalks (p : Passing (Unit {0})) : Type 0 where
  pub at : (depth : ℕ) → Walks (Way true Anyone depth depth) p

abbrev BodyWalks : Option TypedBlock → Type 0
BodyWalks None = Unit {0}
BodyWalks (Some b) = BlockWalks b.typing

routine_body_walks : (depth : ℕ) (heading : Begun) (name : Name) (b : Option TypedBlock) → BodyWalks b
    → Walks (Way true Anyone depth depth) (Routines.routine_body heading name b)
routine_body_walks depth heading name None inner = by heading.is_first
  where
    by : (is_first : Bool) → Walks (Way true Anyone depth depth) (Routines.forward is_first heading.number name.place)
    by true = told_walks depth heading.number (Some name.place)
    by false = search walk
routine_body_walks depth heading name (Some b) inner =
    then_walks (told_walks depth heading.number None) (λ _. routine_block_walks depth heading.number name b (inner.at (suc depth)))

abbrev WithBlock : Type 0
WithBlock = (b : Block) × BlockWalks (typed_block b).typing

abbrev WithRoutine : Type 0
WithRoutine = (r : Routine) × BlockWalks (typed_routine r).typing

routines_walk : (depth : ℕ) (rs : List WithRoutine)
    → Walks (Way true Anyone depth depth) (each (λ (r : TypedRoutine). r.typing) (map typed_routine (map (λ (r : WithRoutine). r.0) rs)))
routines_walk depth [] = search walk
routines_walk depth (r ∷ rs) = then_walks (r.1.at depth) (λ _. routines_walk depth rs)

abbrev bare_block : block_layer.Block-F WithBlock WithRoutine → block_layer.Block-F Block Routine
bare_block y = map-Block WithBlock WithRoutine Block Routine (λ b. b.0) (λ r. r.0) y

abbrev bare_routine : block_layer.Routine-F WithBlock WithRoutine → block_layer.Routine-F Block Routine
bare_routine y = map-Routine WithBlock WithRoutine Block Routine (λ b. b.0) (λ r. r.0) y

block_of_layer : (y : block_layer.Block-F WithBlock WithRoutine) → BlockWalks (typed_block (roll-Block (bare_block y))).typing
block_of_layer y =
    subst (λ (t : TypedBlock). BlockWalks t.typing) (sym (fold-roll-Block TypedBlock TypedRoutine block_step routine_step (bare_block y))) (record {
      at = λ depth.
          then_walks (each_walks _ y.constants.items (definition_walks true Anyone tt depth)) λ _.
          then_walks (each_walks _ y.types.items (type_definition_walks true Anyone tt depth)) λ _.
          then_walks (each_walks _ y.variables.items (group_walks true depth)) λ _.
          then_walks (routines_walk depth y.routines.items) λ _.
          then_walks (all_came_walks true Anyone tt depth) λ _.
          body_walks Anyone depth y.statements.items;
    })

routine_of_layer : (y : block_layer.Routine-F WithBlock WithRoutine) → BlockWalks (typed_routine (roll-Routine (bare_routine y))).typing
routine_of_layer y =
    subst (λ (t : TypedRoutine). BlockWalks t.typing) (sym (fold-roll-Routine TypedBlock TypedRoutine block_step routine_step (bare_routine y))) (record {
      at = λ depth. then_walks (headed_walks depth y.heading) λ begins. routine_body_walks depth begins _ _ (by y.block);
    })
  where
    by : (b : Option WithBlock)
        → BodyWalks (block_layer.Routine-F.block (map-Routine Block Routine TypedBlock TypedRoutine typed_block typed_routine
        (bare_routine (record { heading = y.heading; block = b }))))
    by None = tt
    by (Some b) = b.1

pub block_walks : (b : Block) → BlockWalks (typed_block b).typing
block_walks =
    ind-Block (λ b. BlockWalks (typed_block b).typing) (λ r. BlockWalks (typed_routine r).typing)
    (λ x y is. subst (λ z. BlockWalks (typed_block (roll-Block z)).typing) is (block_of_layer y))
    (λ x y is. subst (λ z. BlockWalks (typed_routine (roll-Routine z)).typing) is (routine_of_layer y))

pub routine_walks : (r : Routine) → BlockWalks (typed_routine r).typing
routine_walks =
    ind-Routine (λ b. BlockWalks (typed_block b).typing) (λ r. BlockWalks (typed_routine r).typing)
    (λ x y is. subst (λ z. BlockWalks (typed_block (roll-Block z)).typing) is (block_of_layer y))
    (λ x y is. subst (λ z. BlockWalks (typed_routine (roll-Routine z)).typing) is (routine_of_layer y))

-- ---- a program

program_walks : (program : Program) (block : TypedBlock) → Walks (Way true Anyone 2 2) block.typing
    → Walks (Way true Anyone 0 2) (Typing.program_typing program block)
unfolding Typing.program_typing Typing.parameters_of_program
program_walks program block law =
    then_walks (then_walks open_required_walks λ _. then_walks (open_block_walks _) λ _. each_walks _ program.parameters.items
    (parameter_walks true Anyone tt 2)) λ _.
    then_walks law λ _.
    block_end_walks 2 0 program.name.place block.end _

-- whatever a program is typed as, a way is gone
pub typing_goes : (program : Program) → WayGoes (Way true Anyone 0 2) (begins program.name.place) (Typing.typing program)
unfolding Typing.typing
typing_goes program = (program_walks program (typed_block program.block) ((block_walks program.block).at 2)).walks (begins program.name.place)
