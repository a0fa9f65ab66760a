-- A routine ends: its result is pushed, and the machine is back in its caller's frame, where what the caller held is as it was,
-- over cells that are alike to the store.
use Rattle.code_generator.proofs.Words.{◌≡◌, ℕ, zero, suc, ◌+◌, ◌-◌, ◌<◌, ◌≤◌, inr, List, [], ◌∷◌, ◌++◌, length, map, take, drop, Option, Some, None, Ok, refl}
use Rattle.code_generator.proofs.Words.{sym, ap, ◌∙◌, subst, arith, Bool, true, false, length-append, append-nil, append_assoc, if◌then◌else◌, nat_eq, nat_lt}
use Rattle.code_generator.proofs.Words.{slice_get, ℤ, pos, ◌&&◌, option_and_then, drop-append_seam, and_parts, eqb-true, false≢true, ltb-true, same_Some}
use Rattle.code_generator.proofs.Words.{slice_get_within, is_ordinal, Block, Variable, VariableKind, is_variable_kind, roots_where, stored}
use Rattle.code_generator.proofs.Words.{Argument, Cell, Number, State, block_depth, called_routine, links_to, other_cells, parameter_cells, variable_home}
use Rattle.std.proofs.lemmas.List.{take-append-le}
use Rattle.pcode_assembler.specs.declared.instr.Instr.TheVariants as instr
use Rattle.typed_tree.specs.declared.tree.FunctionResult.{FunctionResult}
use Rattle.typed_tree.specs.declared.tree.VariableKind.TheVariants as kinds
use Rattle.typed_tree.specs.declared.tree.Scalar.TheVariants as scalar
use Rattle.typed_tree.specs.Accesses.{AtVariable, accessed, is_type}
use Rattle.typed_tree.specs.WellFormed.{is_kind_of, is_result_kind, is_result_or_none, result_roots}
use Rattle.meaning.specs.Effect as effect
use Rattle.meaning.specs.Effect.{fetch}
use Rattle.meaning.specs.Meaning.{home_of as home_in, own_place, result_of}
use Rattle.stack_machine.specs.Machine.{and_then, at_place}
use Rattle.code_scheme.specs.Code.{return_code}
use Rattle.code_scheme.specs.Depth.{result_depth}
use Rattle.code_generator.proofs.Acts.{framed, loads}
use Rattle.code_generator.proofs.Alike.{Fixed, Keeps, Leads, LiesIn, alike_above, cell_within}
use Rattle.code_generator.proofs.Scalars.{HasFit, cell_of, is_scalar_of, scalar_of, scalar_ordinal, scalar_there}
use Rattle.code_generator.proofs.Callee.{link_at, outer_fixed, own_part, seen}
use Rattle.code_generator.proofs.Calling.{leaves}
use Rattle.code_generator.proofs.Evaluating.{fetched_runs, sites}
use Rattle.code_generator.proofs.Laying.{Laid}
use Rattle.code_generator.proofs.Nesting.{Callable, well_block}
use Rattle.code_generator.proofs.Parts.{IsPart, scalar_part}
use Rattle.code_generator.proofs.Passing.{Returns, evaluated_returns, left_by}
use Rattle.code_generator.proofs.Reach.{Comes, Stands, StandsAt, comes_by, comes_less, stays_here}
use Rattle.code_generator.proofs.Setting.{Setting, Based, outline, on, running_at, acts}
use Rattle.code_generator.proofs.Starting.{h}
use Rattle.code_generator.proofs.Running.{runs_from, value_on}
use Rattle.code_generator.proofs.Lists.{slice_get-front, get_take}

-- ---- what a caller held is as it was

take_fixed : (held : List Cell) (more : Fixed) (cells : List Cell) → Keeps (map (λ c. Some c) held ++ more) cells → length held ≤ length cells
    → take (length held) cells ≡ held
take_fixed [] more cells keeps few = refl
take_fixed (x ∷ held) more [] keeps few = absurd (omega arith)
take_fixed (x ∷ held) more (c ∷ cells) keeps few =
    let same : c ≡ x = same_Some c x (keeps.each 0 x refl) in
    ap (λ d. d ∷ take (length held) cells) same
    ∙ ap (λ l. x ∷ l) (take_fixed held more cells (record { each = λ i cell at. keeps.each (suc i) cell at }) (omega arith))

pub take_kept : (f : Fixed) (held : List Cell) (more : Fixed) (cells : List Cell) → Keeps (f ++ (map (λ c. Some c) held ++ more)) cells
    → length f + length held ≤ length cells → take (length f + length held) cells ≡ take (length f) cells ++ held
take_kept [] held more cells keeps few =
    let e : zero + length held ≡ length held = omega arith in
    ap (λ n. take n cells) e ∙ take_fixed held more cells keeps (omega arith)
take_kept (y ∷ f) held more [] keeps few = absurd (omega arith)
take_kept (y ∷ f) held more (c ∷ cells) keeps few =
    let e : length (y ∷ f) + length held ≡ suc (length f + length held) = omega arith in
    ap (λ n. take n (c ∷ cells)) e
    ∙ ap (λ l. c ∷ l) (take_kept f held more cells (record { each = λ i cell at. keeps.each (suc i) cell at }) (omega arith))

-- how many cells a function leaves
abbrev pub count_of : Bool → ℕ
count_of true = 1
count_of false = 0

-- the only root of those of which a test holds
only_root : (test : Variable → Bool) (k : ℕ) (variables : List Variable) (root : ℕ) → root ∷ [] ≡ roots_where test k variables
    → (i : ℕ) × (v : Variable) × (root ≡ k + i) × (slice_get variables i ≡ Some v) × (test v ≡ true)
only_root test k [] root e = absurd cc
only_root test k (v ∷ variables) root e = by (only_root test (suc k) variables root) (test v) refl e
  where
    by : (root ∷ [] ≡ roots_where test (suc k) variables → (i : ℕ) × (w : Variable) × (root ≡ suc k + i) × (slice_get variables i ≡ Some w) × (test w ≡ true))
        → (b : Bool) → test v ≡ b → root ∷ [] ≡ (if test v then k ∷ roots_where test (suc k) variables else roots_where test (suc k) variables)
        → (i : ℕ) × (w : Variable) × (root ≡ k + i) × (slice_get (v ∷ variables) i ≡ Some w) × (test w ≡ true)
    by recur true is e =
        let e' = e ∙ ap (λ b. if b then k ∷ roots_where test (suc k) variables else roots_where test (suc k) variables) is in
        let same : root ≡ k = cc in
        (0, v, omega (arith, same), refl, is)
    by recur false is e =
        let e' = e ∙ ap (λ b. if b then k ∷ roots_where test (suc k) variables else roots_where test (suc k) variables) is in
        let r = recur e' in
        (suc r.0, r.1, omega (arith, r.2), r.3, r.4)

module _ (g : Setting) (number : ℕ) (block : Block) (block_is : slice_get g.tree.blocks.items number ≡ Some block)
    (callable : Callable g.tree g.well g.number g.block number block) (outer : ℕ)
    (way : Leads g.fixed (links_to g.scope (called_routine g.scope number).level) g.frame outer) (base held cells : List Cell) (arguments : List Argument)
    (s : effect.State) (based : Based g s base) (return depth : ℕ) (depth_is : g.depth ≡ suc depth)
    (room : g.below + length held + 4 + length cells ≤ g.limit) (laid : Laid g number g.tree.variables.items arguments cells)
    (fits : g.below + length held + (4 + parameter_cells g.tree number + other_cells g.tree number + block_depth block) ≤ g.size) where
  -- the setting of the routine
  abbrev its : Setting
  its = h g number block block_is callable outer way base held cells arguments s based return depth depth_is room laid fits

  -- ---- back in the caller's frame

  -- the cells below the caller's, after the routine
  module _ (t : effect.State) (last : List Cell) (after : Based its t last) where
    abbrev pub restored : List Cell
    restored = take g.below last

    inside : g.below + length held ≤ length last
    inside = let full = after.full in omega (arith, full)

    pub split : take its.frame last ≡ restored ++ held
    split =
        let same = g.fixed_is in
        let parts : its.frame ≡ length g.fixed + length held = omega (arith, same) in
        ap (λ n. take n last) parts
        ∙ take_kept g.fixed held _ last
        (subst (λ f. Keeps f last) (append_assoc g.fixed (map (λ c. Some c) held) _) after.keeps) (omega (arith, inside, same))
        ∙ ap (λ n. take n last ++ held) same

    restored_long : length restored ≡ g.below
    restored_long =
        let whole = ap length split ∙ length-append restored held in
        let long : length (take its.frame last) ≡ its.frame = length_take last its.frame inside in
        omega (arith, whole, long)
      where
        length_take : (xs : List Cell) (n : ℕ) → n ≤ length xs → length (take n xs) ≡ n
        length_take xs zero few = refl
        length_take [] (suc n) few = absurd (omega arith)
        length_take (x ∷ xs) (suc n) few = ap suc (length_take xs n (omega arith))

    pub back_based : Based g (record t { living = s.living }) restored
    back_based =
        let same = g.fixed_is in
        let deep = after.deep in
        record {
          full = restored_long;
          alike = record {
            scalars = λ p c l.
                let low = slice_get_within g.fixed c None (g.apart.free p c l) in
                get_take last g.below c (omega (arith, low, same))
                ∙ after.alike.scalars p c (record { owner = l.owner; lives = inr l.lives; lies = l.lies });
            fits = λ p c l. after.alike.fits p c (record { owner = l.owner; lives = inr l.lives; lies = l.lies });
          };
          keeps = record {
            each = λ i cell at.
                let low = slice_get_within g.fixed i (Some cell) at in
                get_take last g.below i (omega (arith, low, same))
                ∙ after.keeps.each i cell (outer_is i (Some cell) at);
          };
          old = λ a lives. after.old a (inr lives);
          fresh = after.fresh;
          lasting = based.lasting;
          deep = omega (arith, deep, depth_is);
        }
      where
        outer_is : (i : ℕ) (c : Option Cell) → slice_get g.fixed i ≡ Some c → slice_get its.fixed i ≡ Some c
        outer_is = outer_fixed g number block block_is callable outer way held cells arguments s.activations return depth based.old room laid fits

    -- a link of the frame
    link_there : (i : ℕ) (cell : Cell) (top : List Cell)
        → slice_get (Number (pos outer) ∷ Number (pos g.frame) ∷ Number (pos return) ∷ Number (pos g.limit) ∷ []) i ≡ Some cell
        → slice_get (last ++ top) (its.frame + i) ≡ Some cell
    link_there i cell top at =
        slice_get-front last top (its.frame + i) cell
        (after.keeps.each (its.frame + i) cell
        (link_at g number block block_is callable outer way held cells arguments s.activations return depth based.old room laid fits i cell at))

    -- the return to the caller's frame
    pub back_comes : (is_function : Bool) (n : ℤ) (place there : ℕ) → StandsAt g.target place (instr.Return (count_of is_function)) true
        → return ≡ g.target.to there → return < length g.target.code
        → Comes g.target 1 (on its (last ++ left_by g is_function n) place t) (on g ((restored ++ held) ++ left_by g is_function n) there t)
    back_comes is_function n place there stands is within =
        let top = left_by g is_function n in
        let cells' = last ++ top in
        let full = after.full in
        let many = top_long is_function n in
        let long = length-append last top in
        let frame_in = g.frame_within in
        let limit_in = g.inside in
        let low = inside in
        let at : length cells' - count_of is_function ≡ length last = omega (arith, long, many) in
        let does = leaves its.frame its.limit its.size cells' g.frame return g.limit (length g.target.code) (link_there 1 (Number (pos g.frame)) top refl)
        (link_there 2 (Number (pos return)) top refl) (link_there 3 (Number (pos g.limit)) top refl) (omega arith) within (omega arith)
        (count_of is_function) (omega (arith, long, many, full)) in
        let rows : take its.frame cells' ++ drop (length cells' - count_of is_function) cells' ≡ (restored ++ held) ++ top =
        ap (λ l. l ++ drop (length cells' - count_of is_function) cells') (take-append-le its.frame last top low ∙ split)
        ∙ ap (λ k. (restored ++ held) ++ drop k cells') at ∙ ap (λ l. (restored ++ held) ++ l) (drop-append_seam last top) in
        comes_by g.target (instr.Return (count_of is_function)) (on its cells' place t) (on g ((restored ++ held) ++ top) there t) stands.0
        (ap (λ r. and_then r (at_place (record (on its cells' place t) { place = g.target.to place + 1 })))
        (does ∙ ap (λ cs. Ok (framed g.frame g.limit its.size cs, return)) rows)
        ∙ ap (λ i. Ok (on_at ((restored ++ held) ++ top) i t)) is)
      where
        on_at : List Cell → ℕ → effect.State → State
        on_at = running_at g

        top_long : (is_function : Bool) (n : ℤ) → length (left_by g is_function n) ≡ count_of is_function
        top_long true n = refl
        top_long false n = refl

  -- ---- the result

  -- behind so many instructions the return stands
  abbrev pub back_place : Bool → ℕ → ℕ
  back_place true place = place + 1 + 1
  back_place false place = place

  module _ (result : FunctionResult) (is : block.heading.result ≡ Some result) where
    its_variable : (i : ℕ) × (v : Variable) × (result.root ≡ 0 + i) × (slice_get g.tree.variables.items i ≡ Some v)
        × ((nat_eq v.block number && is_result_kind v.kind) ≡ true)
    its_variable =
        only_root (λ variable. nat_eq variable.block number && is_result_kind variable.kind) 0 g.tree.variables.items result.root
        (ap result_roots (sym is) ∙ (well_block g.tree g.well number block block_is).result_is)

    abbrev variable : Variable
    variable = its_variable.1

    declared : slice_get g.tree.variables.items result.root ≡ Some variable
    declared = let same : result.root ≡ its_variable.0 = omega (arith, its_variable.2) in ap (slice_get g.tree.variables.items) same ∙ its_variable.3

    own : variable.block ≡ number
    own = eqb-true variable.block number (and_parts (nat_eq variable.block number) (is_result_kind variable.kind) its_variable.4).0

    kind_is : is_result_kind variable.kind ≡ true
    kind_is = (and_parts (nat_eq variable.block number) (is_result_kind variable.kind) its_variable.4).1

    plain : (kind : VariableKind) → is_result_kind kind ≡ true → is_variable_kind kind ≡ false
    plain kinds.Result e = refl
    plain kinds.Local e = refl
    plain kinds.ValueParameter e = refl
    plain kinds.VariableParameter e = absurd (false≢true e)

    home : (kind : VariableKind) → is_result_kind kind ≡ true
        → home_in (record {
          number = s.activations;
          block = number;
          heading = block.heading;
          arguments = arguments;
          caller = g.environment;
        }) result.root kind ≡ Some (own_place s.activations result.root)
    home kinds.Result e = refl
    home kinds.Local e = refl
    home kinds.ValueParameter e = refl
    home kinds.VariableParameter e = absurd (false≢true e)

    place_is : its.environment.variables result.root ≡ Some (own_place s.activations result.root)
    place_is =
        seen g number block block_is callable outer way held cells arguments s.activations return depth based.old room laid fits result.root variable declared
        own
        ∙ home variable.kind kind_is

    good : (nat_lt result.defined (sites g) ≡ true)
        × (is_type (is_ordinal g.tree.types) (accessed g.tree.variables.items g.tree.types (AtVariable result.root) []) ≡ true)
    good =
        and_parts (nat_lt result.defined (sites g))
        (is_type (is_ordinal g.tree.types) (accessed g.tree.variables.items g.tree.types (AtVariable result.root) []))
        (ap (is_result_or_none (outline g)) (sym is) ∙ (well_block g.tree g.well number block block_is).result_good)

    ordinal : is_ordinal g.tree.types variable.type_id ≡ true
    ordinal = ap (λ o. is_type (is_ordinal g.tree.types) (option_and_then (λ (v : Variable). Some v.type_id) o)) (sym declared) ∙ good.1

    scalar_is : scalar_of g.tree.types variable.type_id ≡ Some scalar.Ordinal
    scalar_is = scalar_ordinal g.tree.types variable.type_id ordinal

    part : IsPart (outline g) its.world its.below (own_place s.activations result.root) variable.type_id
        (its.frame + (variable_home its.scope result.root).start)
    part =
        own_part g number block block_is callable outer way held cells arguments s.activations return depth based.old room laid fits result.root variable
        declared own
        (plain variable.kind kind_is)

    lies : LiesIn its.world (own_place s.activations result.root) (its.frame + (variable_home its.scope result.root).start)
    lies =
        scalar_part (outline g) its.world its.below g.known (own_place s.activations result.root) variable.type_id
        (its.frame + (variable_home its.scope result.root).start) (is_scalar_of g.tree.types variable.type_id scalar.Ordinal scalar_is) part

    -- it is pushed, and has to be defined
    result_runs : (place : ℕ) (last : List Cell) (t : effect.State) → Based its t last
        → Stands its.target place (instr.Load 0 (variable_home its.scope result.root).start ∷ instr.CheckDefined result.defined 1 ∷ [])
        → length last < its.limit
        → Returns its (on its (last ++ []) place t) [] (place + 1 + 1) true (fetch (its.environment.variables result.root) result.defined) t
    result_runs place last t after stands space =
        let p = own_place s.activations result.root in
        let d = its.frame + (variable_home its.scope result.root).start in
        let start = (variable_home its.scope result.root).start in
        let stack = last ++ [] in
        let above = alike_above (outline g) its.world t.store last [] after.alike in
        let cell = cell_of (stored t.store p) in
        let full = after.full in
        let long = length-append last [] in
        let loaded = acts its (instr.Load 0 start) stack (stack ++ cell ∷ []) place t _ stands.0 refl
        (loads its.frame its.limit its.size stack 0 start its.frame cell (omega (arith, long, space)) refl
        (cell_within (outline g) its.world t.store stack p d above lies) (above.scalars p d lies)) in
        subst (λ o. Returns its (on its stack place t) [] (place + 1 + 1) true (fetch o result.defined) t) (sym place_is)
        (evaluated_returns its _ [] (place + 1 + 1) (fetch (Some p) result.defined) t
        (runs_from its (value_on its scalar.Ordinal [] (place + 1 + 1)) 1 _ _ (fetch (Some p) result.defined) t loaded
        (fetched_runs its scalar.Ordinal (place + 1) result.defined last [] t (stored t.store p) stands.1.0 (ltb-true result.defined (sites g) good.0) after
        (omega (arith, full, space))
        (subst (λ kind. HasFit kind (stored t.store p)) (scalar_there (outline g) p variable.type_id part.typed ∙ scalar_is) (above.fits p d lies)))))

  -- the code at the end, up to the return
  finishes : (result : Option FunctionResult) (is_function : Bool) → block.heading.result ≡ result → is_kind_of is_function result ≡ true → (place : ℕ)
      (last : List Cell) (t : effect.State) → Based its t last → Stands its.target place (return_code its.scope result)
      → its.below + result_depth result ≤ its.limit
      → Returns its (on its (last ++ []) place t) [] (back_place is_function place) is_function (result_of result its.environment) t
      × StandsAt its.target (back_place is_function place) (instr.Return (count_of is_function)) true
  finishes None false is kind place last t after stands deep =
      let none = comes_less g.target (t.turns - t.turns + 0) 0 _ _ (omega arith)
      (subst (λ cs. Comes g.target 0 (on its (last ++ []) place t) (on its cs place t)) (sym (append-nil (last ++ [])))
      (stays_here g.target _)) in
      (inr ((last, after, record { is = refl }), none, omega arith), stands.0)
  finishes None true is kind place last t after stands deep = absurd (false≢true kind)
  finishes (Some result) false is kind place last t after stands deep = absurd (false≢true kind)
  finishes (Some result) true is kind place last t after stands deep =
      let full = after.full in
      (result_runs result is place last t after (stands.0, (stands.1.0, tt, stands.1.2), stands.2) (omega (arith, full)), stands.1.1.0)

  pub finish : (is_function : Bool) → is_kind_of is_function block.heading.result ≡ true → (place : ℕ)
      (last : List Cell) (t : effect.State) → Based its t last → Stands its.target place (return_code its.scope block.heading.result)
      → its.below + result_depth block.heading.result ≤ its.limit
      → Returns its (on its (last ++ []) place t) [] (back_place is_function place) is_function
      (result_of block.heading.result its.environment) t
      × StandsAt its.target (back_place is_function place) (instr.Return (count_of is_function)) true
  finish is_function kind place last t after stands deep =
      finishes block.heading.result is_function refl kind place last t after stands deep
