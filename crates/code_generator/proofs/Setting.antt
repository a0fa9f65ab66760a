-- One activation of a block, whose code runs: what stays as it is meanwhile, and what the machine does of what the
-- program does.
use Rattle.code_generator.proofs.Words.{◌≡◌, ℕ, suc, ◌+◌, ◌-◌, ◌<◌, ◌≤◌, ◌⊎◌, inl, inr, List, [], ◌∷◌, ◌++◌, length, Some, None, Ok, Err, refl, sym, ap, subst}
use Rattle.code_generator.proofs.Words.{arith, length-append, Bool, true, false, ◌∙◌, slice_get, ℤ, pos, if◌then◌else◌, Instr, Tree, Block, Variable}
use Rattle.code_generator.proofs.Words.{IsWellFormed, Option, TypeId, cells_of, Ending, Value, Place, stored, Gives, Action, ◌>>=◌, UsesTurnsExactly, Cell}
use Rattle.code_generator.proofs.Words.{Undefined, Number, deed_of, Frames, Attempt, is_true, State, moved, routines_of, block_depth, living_need, Scope}
use Rattle.code_generator.proofs.Words.{links_to, other_cells, parameter_cells, variable_home}
use Rattle.pcode_assembler.specs.declared.instr.Instr.TheVariants as instr
use Rattle.typed_tree.specs.Records.{OpenRecord}
use Rattle.typed_tree.specs.WellFormed.{Outline, is_visible, outline_of}
use Rattle.meaning.specs.declared.outcome.Ending.TheVariants as ending
use Rattle.meaning.specs.declared.value.Value.TheVariants as value
use Rattle.meaning.specs.Store as meant
use Rattle.meaning.specs.Store.{Environment}
use Rattle.meaning.specs.Kinds.{type_on}
use Rattle.meaning.specs.Effect as effect
use Rattle.meaning.specs.Laws.{AllGoRoundByRound, AllUseTurnsExactly}
use Rattle.meaning.specs.Meaning.{Surroundings, calls_of}
use Rattle.stack_machine.specs.declared.stop.Stop.{Stop}
use Rattle.stack_machine.specs.declared.stop.Stop.TheVariants as stop
use Rattle.stack_machine.specs.Deeds.{Acts, Tests, jumped_if_false}
use Rattle.stack_machine.specs.Machine.{Next, carried_out, and_then, checked, with_frames, with_place, error_of}
use Rattle.code_scheme.specs.Code.{program_code}
use Rattle.code_scheme.specs.Scopes.{block_level, home_of, record_home}
use Rattle.code_generator.specs.Follows.{StopsAs}
use Rattle.code_generator.specs.Known.{Known}
use Rattle.code_scheme.specs.Large.{is_too_large}
use Rattle.code_generator.specs.Tables.{in_plain_numbers, point_table, site_table}
use Rattle.code_generator.proofs.Reach.{Target, Stands, StandsAt, Comes, obeys, Stops, comes_on, comes_less, stays_here, comes_by, stops_on, stops_by}
use Rattle.code_generator.proofs.Acts.{framed, branches}
use Rattle.code_generator.proofs.Alike.{World, Lives, Fixed, IsApart, Alike, Keeps, Leads, Activation}
use Rattle.code_generator.proofs.Parts.{IsPart}
use Rattle.code_generator.proofs.Repeats.{repeats}
use Rattle.code_generator.proofs.Lists.{slice_map, slice_there}

-- how code reaches a variable: it lies in a frame, or its address does
pub data Way : Type 0 where
  Direct : Way
  ByAddress : ℕ → Way

-- a variable of this type lies in a cell, which is the one told, or the one whose address is fixed there
abbrev pub Reaches : Tree → World → Fixed → ℕ → Place → Variable → ℕ → Bool → Way → Type 0
Reaches tree world fixed end p variable cell refers Direct = (refers ≡ false) × IsPart (outline_of tree) world end p variable.type_id cell
Reaches tree world fixed end p variable cell refers (ByAddress address) =
    (refers ≡ true) × (slice_get fixed cell ≡ Some (Some (Number (pos address)))) × IsPart (outline_of tree) world end p variable.type_id address

-- a variable is visible, and code finds it, or its address, in a frame to which static links lead
pub record Shown (tree : Tree) (world : World) (fixed : Fixed) (end frame : ℕ) (scope : Scope) (env : Environment) (root : ℕ) (variable : Variable) : Type 0
  where
    pub place : Place
    pub place_is : env.variables root ≡ Some place
    pub owner : ℕ
    pub leads : Leads fixed (links_to scope (variable_home scope root).level) frame owner
    pub way : Way
    pub reaches : Reaches tree world fixed end place variable (owner + (variable_home scope root).start) (variable_home scope root).refers way

-- a record of a with is open in a slot: code finds its address in the running frame
pub record ShownRecord (tree : Tree) (world : World) (fixed : Fixed) (end frame : ℕ) (scope : Scope) (records : List (Option Place)) (slot : ℕ)
    (one : OpenRecord) : Type 0 where
  pub place : Place
  pub place_is : slice_get records slot ≡ Some (Some place)
  pub id : TypeId
  pub type_is : type_on (outline_of tree) one.root one.steps ≡ Some id
  pub level_is : (record_home scope slot).level ≡ scope.level
  pub refers : (record_home scope slot).refers ≡ true
  pub address : ℕ
  pub held : slice_get fixed (frame + (record_home scope slot).start) ≡ Some (Some (Number (pos address)))
  pub part : IsPart (outline_of tree) world end place id address

-- the cells below those that are held, as many as told and alike to a store, where so many activations have begun, these
-- blocks last, and so many turns are left
pub record Grounded (outline : Outline) (world : World) (fixed : Fixed) (below : ℕ) (blocks : List ℕ) (depth : ℕ)
    (store : meant.Store) (activations : ℕ) (living : List ℕ) (turns : ℕ) (base : List Cell) : Type 0 where
  pub full : length base ≡ below
  pub alike : Alike outline world store base
  pub keeps : Keeps fixed base
  -- the activations that live have begun, and those that haven't own nothing
  pub old : (a : Activation) → Lives world a → a.number < activations
  pub fresh : (p : Place) → activations ≤ p.activation → stored store p ≡ None
  pub lasting : living ≡ blocks
  pub deep : turns < depth

-- from a state the machine stops as the program ends
pub record HaltsAs (target : Target) (tree : Tree) (m : State) (end : Ending) (output : List ℕ) : Type 0 where
  pub why : Stop
  pub stops : Stops target m (record { output = output; stop = why })
  pub so : StopsAs tree end why

-- an activation of a block that runs on the machine
pub record Setting : Type 0 where
  pub known : Known
  pub tree : Tree
  pub well : IsWellFormed tree
  pub short : is_too_large tree ≡ false
  -- the machine's code, in which the program's code stands
  pub target : Target
  pub sites_are : target.tables.sites ≡ site_table tree.sites.items
  pub points_are : target.tables.points ≡ point_table tree.points.items
  pub stands : Stands target 0 (program_code tree)
  -- behind each call an instruction follows, whose index is a number
  pub comes_back : (place count routine : ℕ) → slice_get target.whole place ≡ Some (instr.CallProcedure count routine)
      → (target.to place + 1 < length target.code) × (target.to place + 1 ≤ 1000000)
  pub repeats_are_few : (number : ℕ) (block : Block) → slice_get tree.blocks.items number ≡ Some block → suc (repeats block.body) ≤ target.rate
  -- how many cells the machine has, and how far the frame's pushes go
  pub size : ℕ
  pub limit : ℕ
  -- an offset reaches each cell
  pub small : size ≤ 16777216
  pub inside : limit ≤ size
  -- the block that runs
  pub number : ℕ
  pub block : Block
  pub block_is : slice_get tree.blocks.items number ≡ Some block
  -- the activations that live, and what is fixed below the cells that are held above the variables of the running one
  pub world : World
  pub fixed : Fixed
  pub apart : IsApart world fixed
  -- how many cells these are, and where the running frame begins
  pub below : ℕ
  pub fixed_is : length fixed ≡ below
  pub frame : ℕ
  pub frame_within : frame + 4 ≤ below
  -- the frame fits into what its block may need, behind the need of the activations that lasted before it
  pub callers : List ℕ
  pub low : frame ≤ living_need tree callers
  pub limit_is : limit ≡ frame + (4 + parameter_cells tree number + other_cells tree number + block_depth block)
  -- how many turns at most have no instruction yet behind which they were used: a repeat uses one before its first
  pub slack : ℕ
  -- calls may be so many in one another
  pub depth : ℕ
  -- where the code finds the variables, and where they are
  pub scope : Scope
  pub homes_are : (root : ℕ) (variable : Variable) → slice_get tree.variables.items root ≡ Some variable
      → variable_home scope root ≡ home_of tree root variable
  pub routines_are : scope.routines ≡ routines_of tree
  pub level_is : scope.level ≡ block_level tree number
  -- an offset reaches all of a variable
  pub near : (root : ℕ) (variable : Variable) → slice_get tree.variables.items root ≡ Some variable → (variable_home scope root).refers ≡ false
      → (variable_home scope root).start + cells_of tree.types variable.type_id ≤ 16777215
  pub environment : Environment
  pub types_are : environment.types ≡ tree.types
  pub shows : (root : ℕ) (variable : Variable) → slice_get tree.variables.items root ≡ Some variable → is_visible (outline_of tree) number root ≡ true
      → Shown tree world fixed below frame scope environment root variable
  -- the static links lead to the program's frame, which has no return: the cell of that is undefined
  pub bottom : ℕ
  pub chain : Leads fixed (links_to scope 0) frame bottom
  pub blank : slice_get fixed (bottom + 2) ≡ Some (Some Undefined)
  -- the records of the with statements round it, by their slots: in which variables they lie, and where
  pub opened : List OpenRecord
  pub records : List (Option Place)
  pub as_many_homes : length scope.records ≡ length opened
  pub as_many_records : length records ≡ length opened
  pub opens : (slot : ℕ) (one : OpenRecord) → slice_get opened slot ≡ Some one
      → ShownRecord tree world fixed below frame scope records slot one

-- what gives a number, where a value is wanted
abbrev pub as_value : Action ℤ → Action Value
as_value action = action >>= λ n. effect.give (value.Number n)

module _ (g : Setting) where
  -- by what the program's forms are measured
  abbrev pub outline : Outline
  outline = outline_of g.tree

  -- what is visible in the running activation, and what calls do there
  abbrev pub around : Surroundings
  around = record { visible = g.environment; records = g.records; calls = calls_of g.tree g.depth }

  -- what is known of the pieces and of the loops that stand there
  pub exact_around : AllUseTurnsExactly around
  exact_around = g.known.pieces g.tree g.depth g.environment g.records

  pub goes_around : AllGoRoundByRound around
  goes_around = g.known.rounds g.tree g.depth g.environment g.records

  -- the state behind an entry
  abbrev pub entered : ℕ → effect.State → effect.State
  entered number s = record s { visited = s.visited ++ record { number = number; environment = g.environment; store = s.store } ∷ [] }

  -- the machine in the running frame, at an instruction of its code
  abbrev pub running_at : List Cell → ℕ → effect.State → State
  running_at cells index s =
      record { frames = framed g.frame g.limit g.size cells; place = index; input = s.input; fails = false; output = s.output }

  -- the machine in the running frame, where a place of the program's code goes
  abbrev pub on : List Cell → ℕ → effect.State → State
  on cells place s = running_at cells (g.target.to place) s

  -- the cells below those that are held, on which the code of a piece of the block stands
  abbrev pub Based : effect.State → List Cell → Type 0
  Based s base = Grounded (outline_of g.tree) g.world g.fixed g.below (g.number ∷ g.callers) g.depth s.store s.activations s.living s.turns base

  -- these are all the cells that are held: above them the next one lies where the code takes it to lie
  abbrev pub AllHeld : List Cell → Type 0
  AllHeld held = g.below + length held ≡ g.frame + g.scope.next

  -- behind some turns
  pub later : (left : ℕ) (s : effect.State) (base : List Cell) → left ≤ s.turns → Based s base → Based (record s { turns = left }) base
  later left s base le based =
      let deep = based.deep in
      record {
        full = based.full;
        alike = based.alike;
        keeps = based.keeps;
        old = based.old;
        fresh = based.fresh;
        lasting = based.lasting;
        deep = omega arith;
      }

  -- the links of the running frame are there, whatever is held
  pub linked : (s : effect.State) (base held : List Cell) → Based s base → g.frame + 4 ≤ length (base ++ held)
  linked s base held based =
      let h = g.frame_within in
      let full = based.full in
      omega (arith, length-append base held)

  pub limit_far : g.limit ≤ 16777216
  limit_far = let a = g.inside in let b = g.small in omega arith

  -- from here the machine stops as the program ends
  abbrev pub Halts : State → Ending → List ℕ → Type 0
  Halts m end output = HaltsAs g.target g.tree m end output

  -- What the machine does where the program ends, with so many turns left here: it stops as the program ends; or the
  -- turns were used up, and it goes on by as many instructions at least, but for those that have none yet; or the
  -- error's site isn't open, of which nothing is said.
  abbrev pub Ends : ℕ → State → Ending → List ℕ → Type 0
  Ends turns m ending.Finished output = Halts m ending.Finished output
  Ends turns m (ending.Error site) output = Halts m (ending.Error site) output ⊎ (g.target.is_open site ≡ false)
  Ends turns m (ending.Input point fault) output = Halts m (ending.Input point fault) output
  Ends turns m ending.More output = (there : State) × Comes g.target (turns - g.slack) m there × (there.output ≡ output)

  halts_on : (least : ℕ) (a b : State) (end : Ending) (output : List ℕ) → Comes g.target least a b → Halts b end output → Halts a end output
  halts_on least a b end output l h = record { why = h.why; stops = stops_on g.target least a b _ l h.stops; so = h.so }

  pub ends_on : (turns left : ℕ) (a b : State) (end : Ending) (output : List ℕ) → Comes g.target (turns - left) a b → Ends left b end output
      → Ends turns a end output
  ends_on turns left a b ending.Finished output l e = halts_on (turns - left) a b ending.Finished output l e
  ends_on turns left a b (ending.Error site) output l (inl e) = inl (halts_on (turns - left) a b (ending.Error site) output l e)
  ends_on turns left a b (ending.Error site) output l (inr closed) = inr closed
  ends_on turns left a b (ending.Input point fault) output l e = halts_on (turns - left) a b (ending.Input point fault) output l e
  ends_on turns left a b ending.More output l e = (
    e.0,
    comes_less g.target (turns - g.slack) (turns - left + (left - g.slack)) a e.0 (omega arith)
        (comes_on g.target (turns - left) (left - g.slack) a b e.0 l e.1),
    e.2,
  )

  -- ---- single instructions

  -- an instruction that is no check and no jump stands where its place goes
  abbrev pub Here : ℕ → Instr → Type 0
  Here place i = (slice_get g.target.code (g.target.to place) ≡ Some i) × (g.target.to (place + 1) ≡ g.target.to place + 1)

  -- an instruction that goes on with the next one
  pub goes_on : (i : Instr) (cells after : List Cell) (place : ℕ) (s t : effect.State) → Here place i
      → obeys g.target i (running_at cells (g.target.to place + 1) s) ≡ Ok (running_at after (g.target.to place + 1) t)
      → Comes g.target 1 (on cells place s) (on after (place + 1) t)
  goes_on i cells after place s t here does =
      subst (λ index. Comes g.target 1 (on cells place s) (running_at after index t)) (sym here.1)
      (comes_by g.target i (on cells place s) (running_at after (g.target.to place + 1) t) here.0 does)

  -- an instruction of the store alone
  pub acts : (i : Instr) (cells after : List Cell) (place : ℕ) (s : effect.State) (act : Frames → Attempt Frames) → Here place i → deed_of i ≡ Acts act
      → act (framed g.frame g.limit g.size cells) ≡ Ok (framed g.frame g.limit g.size after) → Comes g.target 1 (on cells place s)
      (on after (place + 1) s)
  acts i cells after place s act here rule e =
      let m = running_at cells (g.target.to place + 1) s in
      goes_on i cells after place s s here
      (ap (λ deed. carried_out g.target.tables (length g.target.code) deed m) rule ∙ ap (λ a. and_then a (with_frames m)) e)

  -- a jump goes where its target goes
  pub jumps : (target : ℕ) (cells : List Cell) (place : ℕ) (s : effect.State) → StandsAt g.target place (instr.Jump target) true
      → Comes g.target 1 (on cells place s) (on cells target s)
  jumps target cells place s stands = comes_by g.target (instr.Jump (g.target.to target)) (on cells place s) (on cells target s) stands.0 refl

  -- a conditional jump pops a number, and goes where its target goes if that is 0
  branches_by : (target : ℕ) (cells below : List Cell) (place : ℕ) (s : effect.State) (holds : Bool) → Here place (instr.JumpIfFalse (g.target.to target))
      → jumped_if_false (g.target.to target) (framed g.frame g.limit g.size cells) ≡ Ok
      (framed g.frame g.limit g.size below, if holds then None else Some (g.target.to target))
      → Comes g.target 1 (on cells place s) (on below (if holds then place + 1 else target) s)
  branches_by target cells below place s true here e =
      subst (λ index. Comes g.target 1 (on cells place s) (running_at below index s)) (sym here.1)
      (comes_by g.target (instr.JumpIfFalse (g.target.to target)) (on cells place s) (running_at below (g.target.to place + 1) s) here.0
      (ap (λ r. and_then r (with_place (running_at cells (g.target.to place + 1) s))) e))
  branches_by target cells below place s false here e =
      comes_by g.target (instr.JumpIfFalse (g.target.to target)) (on cells place s) (on below target s) here.0
      (ap (λ r. and_then r (with_place (running_at cells (g.target.to place + 1) s))) e)

  pub branches_on : (target : ℕ) (below : List Cell) (n : ℤ) (place : ℕ) (s : effect.State) → StandsAt g.target place (instr.JumpIfFalse target) true
      → g.frame + 4 ≤ length below
      → Comes g.target 1 (on (below ++ Number n ∷ []) place s) (on below (if is_true n then place + 1 else target) s)
  branches_on target below n place s stands in_frame =
      branches_by target (below ++ Number n ∷ []) below place s (is_true n) stands
      (branches g.frame g.limit g.size below in_frame (g.target.to target) n)

  -- what is so of either way
  pub branched : (IsSo : Bool → Type 0) (target : ℕ) (below : List Cell) (n : ℤ) (place : ℕ) (s : effect.State)
      → StandsAt g.target place (instr.JumpIfFalse target) true → g.frame + 4 ≤ length below
      → (Comes g.target 1 (on (below ++ Number n ∷ []) place s) (on below (place + 1) s) → IsSo true)
      → (Comes g.target 1 (on (below ++ Number n ∷ []) place s) (on below target s) → IsSo false) → IsSo (is_true n)
  branched IsSo target below n place s stands in_frame so not_so = by (is_true n) (branches_on target below n place s stands in_frame)
    where
      by : (b : Bool) → Comes g.target 1 (on (below ++ Number n ∷ []) place s) (on below (if b then place + 1 else target) s) → IsSo b
      by true came = so came
      by false came = not_so came

  -- a check, which stays or is left out, and what it tests
  module _ (check : Instr) (cells : List Cell) (place site : ℕ) (s : effect.State) (test : Frames → Attempt Bool) (same : moved g.target.to check ≡ check)
      (rule : deed_of check ≡ Tests site test) where
    abbrev tested_at : Attempt Bool → Next
    tested_at = checked (error_of (slice_get g.target.tables.sites site)) (running_at cells (g.target.to place + 1) s)

    tests_it : (holds : Attempt Bool) → test (framed g.frame g.limit g.size cells) ≡ holds
        → obeys g.target check (running_at cells (g.target.to place + 1) s) ≡ tested_at holds
    tests_it holds e =
        ap (λ deed. carried_out g.target.tables (length g.target.code) deed (running_at cells (g.target.to place + 1) s)) rule ∙ ap tested_at e

    passes_by : (stayed : Bool) → StandsAt g.target place check stayed → test (framed g.frame g.limit g.size cells) ≡ Ok true
        → Comes g.target 0 (on cells place s) (on cells (place + 1) s)
    passes_by true stands e =
        comes_less g.target 0 1 _ _ (omega arith)
        (goes_on check cells cells place s s (stands.0 ∙ ap Some same, stands.1) (tests_it (Ok true) e))
    passes_by false stands e =
        subst (λ index. Comes g.target 0 (on cells place s) (running_at cells index s)) (sym stands) (stays_here g.target (on cells place s))

    -- the test holds
    pub passes : StandsAt g.target place check (g.target.is_open site) → test (framed g.frame g.limit g.size cells) ≡ Ok true
        → Comes g.target 0 (on cells place s) (on cells (place + 1) s)
    passes stands e = passes_by (g.target.is_open site) stands e

    fails_by : (turns : ℕ) (stayed : Bool) → g.target.is_open site ≡ stayed → StandsAt g.target place check stayed → site < length g.tree.sites.items
        → test (framed g.frame g.limit g.size cells) ≡ Ok false → Ends turns (on cells place s) (ending.Error site) s.output
    fails_by turns true known stands within e =
        let found = slice_there g.tree.sites.items site within in
        let entry = ap (λ sites. slice_get sites site) g.sites_are ∙ slice_map in_plain_numbers g.tree.sites.items site found.0 found.1 in
        let does = tests_it (Ok false) e ∙ ap (λ o. Err (error_of o)) entry in
        inl (record {
          why = stop.Error (in_plain_numbers found.0);
          stops = stops_by g.target check (on cells place s) (stop.Error (in_plain_numbers found.0)) (stands.0 ∙ ap Some same) does;
          so = (found.0, found.1, refl);
        })
    fails_by turns false closed stands within e = inr closed

    -- the test doesn't hold
    pub fails : (turns : ℕ) → StandsAt g.target place check (g.target.is_open site) → site < length g.tree.sites.items
        → test (framed g.frame g.limit g.size cells) ≡ Ok false → Ends turns (on cells place s) (ending.Error site) s.output
    fails turns stands within e = fails_by turns (g.target.is_open site) refl stands within e

  -- ---- a full store

  -- The machine comes to the beginning of an activation whose frame doesn't fit: with as many turns as were used before
  -- it the piece stops for want of one, and those that last then need more cells than there are.
  abbrev pub Starves : {A : Type 0} → State → Action A → effect.State → Type 0
  Starves m action s =
      (used : ℕ) × (there : effect.State) × (action (record s { turns = used }) ≡ effect.Stops ending.More there)
      × Stops g.target m (record { output = there.output; stop = stop.StoreFull }) × (g.size < living_need g.tree there.starved) × (used ≤ s.turns)

  pub starves_on : {A : Type 0} (least : ℕ) (a b : State) (action : Action A) (s : effect.State) → Comes g.target least a b → Starves b action s
      → Starves a action s
  starves_on least a b action s l x = (x.0, x.1, x.2, stops_on g.target least a b _ l x.3, x.4, x.5)

  -- the same action
  pub starves_same : {A : Type 0} (m : State) (action other : Action A) (s : effect.State) → ((t : effect.State) → action t ≡ other t) → Starves m other s
      → Starves m action s
  starves_same m action other s same x = (x.0, x.1, same (record s { turns = x.0 }) ∙ x.2, x.3, x.4, x.5)

  -- the first of two pieces
  pub starves_first : {A B : Type 0} (m : State) (first : Action A) (next : A → Action B) (s : effect.State) → Starves m first s
      → Starves m (first >>= next) s
  starves_first m first next s x = (x.0, x.1, ap (λ r. effect.and_then r next) x.2, x.3, x.4, x.5)

  -- the second
  pub starves_behind : {A B : Type 0} (least : ℕ) (m there : State) (first : Action A) (next : A → Action B) (s t : effect.State) (v : A)
      → UsesTurnsExactly first → first s ≡ Gives v t → Comes g.target least m there → Starves there (next v) t → Starves m (first >>= next) s
  starves_behind least m there first next s t v exact is l x =
      let from = exact s t v is in (
        from.0 + x.0,
        x.1,
        ap (λ r. effect.and_then r next) (from.2 x.0) ∙ x.2,
        stops_on g.target least m there _ l x.3,
        x.4,
        omega (arith, from.1, x.5),
      )
