-- The cells that are held above the variables, in a frame that runs: what is loaded from them and stored into them; and
-- what the instructions of a for statement do with the two bounds that are held.
use Rattle.code_generator.proofs.Words.{◌≡◌, ℕ, ◌+◌, ◌<◌, ◌≤◌, List, [], ◌∷◌, ◌++◌, length, Option, Some, None, Ok, refl, sym, ap, ◌∙◌, subst, arith}
use Rattle.code_generator.proofs.Words.{append-nil, append_assoc, length-append, Bool, true, false, and_parts, eqb-true, false≢true, nat_eq, slice_get}
use Rattle.code_generator.proofs.Words.{slice_set, ℤ, pos, not, ◌&&◌, ◌||◌, if◌then◌else◌, same_Some, slice_get_within, Instr, is_ordinal, Variable}
use Rattle.code_generator.proofs.Words.{VariableKind, is_variable_kind, Value, Place, stored, deed_of, Cell, Undefined}
use Rattle.code_generator.proofs.Words.{Number, is_true, Home, links_to, variable_home}
use Rattle.std.specs.Prelude.{◌-◌}
use Rattle.std.specs.Ordering.{int_eq}
use Rattle.std.proofs.lemmas.Int.{ints}
use Rattle.std.proofs.lemmas.List.{length-set}
use Rattle.pcode_assembler.specs.declared.instr.Instr.TheVariants as instr
use Rattle.typed_tree.specs.declared.tree.Direction.{Direction}
use Rattle.typed_tree.specs.declared.tree.Direction.TheVariants as direction
use Rattle.typed_tree.specs.declared.tree.VariableKind.TheVariants as kinds
use Rattle.typed_tree.specs.declared.tree.Scalar.TheVariants as scalar
use Rattle.typed_tree.specs.Accesses.{AtVariable}
use Rattle.typed_tree.specs.WellFormed.{is_control, is_declared, is_local_kind, leads_to_ordinal, of_one}
use Rattle.meaning.specs.declared.value.Value.TheVariants as value
use Rattle.meaning.specs.Store.{kept, forgotten}
use Rattle.meaning.specs.Counting.{has_values, next_value}
use Rattle.meaning.specs.Meaning.{is_among}
use Rattle.meaning.specs.Effect as effect
use Rattle.stack_machine.specs.Deeds.{Acts}
use Rattle.machine_arithmetic.specs.declared.arithmetic.Dyadic.TheVariants as dyadic
use Rattle.stack_machine.specs.Frames as frames
use Rattle.stack_machine.specs.Frames.{truth, on_two}
use Rattle.code_scheme.specs.Code.{control_offset, row_code}
use Rattle.code_scheme.specs.Scopes.{block_level, held_offset, links}
use Rattle.code_generator.proofs.Accesses.{LeadsTo, frame_found, leads}
use Rattle.code_generator.proofs.Reach.{Comes, Stands, StandsAt, comes_on, comes_less, stays_here}
use Rattle.code_generator.proofs.Numbers.{Fits}
use Rattle.code_generator.proofs.Setting.{AllHeld, Setting, Shown, Way, Direct, ByAddress, Reaches, outline, on, Based, linked, limit_far, Here, acts}
use Rattle.code_generator.proofs.Setting.{branches_on}
use Rattle.code_generator.proofs.Setting.{jumps}
use Rattle.code_generator.proofs.Acts.{framed, pushes, loads, stores, on_two_is}
use Rattle.code_generator.proofs.Alike.{LiesIn, Leads, alike_set, cell_within, keeps_set}
use Rattle.code_generator.proofs.Scalars.{HasFit, cell_of, is_scalar_of, scalar_at, scalar_of, scalar_ordinal, scalar_there, value_cell}
use Rattle.code_generator.proofs.Parts.{scalar_part}
use Rattle.code_generator.proofs.Places.{place_apart}
use Rattle.code_generator.proofs.Lists.{slice_behind, slice_get-front, set_twice, set_front, set_above, length_one}

true_truth : (b : Bool) → is_true (truth b) ≡ b
true_truth true = refl
true_truth false = refl

module _ (g : Setting) where
  abbrev frames_of : List Cell → frames.Frames
  frames_of = framed g.frame g.limit g.size

  -- ---- the cell of a scalar

  module _ (p : Place) (start : ℕ) (lies : LiesIn g.world p (g.frame + start)) where
    scalar_inside : (s : effect.State) (base : List Cell) → Based g s base → g.frame + start < length base
    scalar_inside s base based = cell_within (outline g) g.world s.store base p (g.frame + start) based.alike lies

    -- what is popped into it
    pub stores_scalar : (s : effect.State) (base held cells : List Cell) (cell : Cell) (place : ℕ) → Based g s base
        → cells ≡ (base ++ held) ++ cell ∷ [] → Here g place (instr.Store 0 start)
        → Comes g.target 1 (on g cells place s) (on g (slice_set base (g.frame + start) cell ++ held) (place + 1) s)
    stores_scalar s base held cells cell place based is here =
        let below = base ++ held in
        let low = scalar_inside s base based in
        let at = length-append base held in
        let does = stores g.frame g.limit g.size below (linked g s base held based) cell 0 start g.frame refl (omega arith)
        ∙ ap (λ cs. Ok (frames_of cs)) (set_front base held (g.frame + start) cell low) in
        acts g (instr.Store 0 start) cells (slice_set base (g.frame + start) cell ++ held) place s
        _ here refl (ap (λ cs. frames.store 0 start (frames_of cs)) is ∙ does)

  -- what is stored at a place of a scalar that lives is no later activation's
  still_fresh : (p : Place) (cell : ℕ) (new : Option Value) (s : effect.State) (base : List Cell) → LiesIn g.world p cell → Based g s base → (q : Place)
      → s.activations ≤ q.activation → stored ((p, new) ∷ s.store) q ≡ None
  still_fresh p cell new s base lies based q later =
      let young = based.old lies.owner lies.lives in
      let its = lies.lies.its in
      ap (λ same. if same then new else stored s.store q) (place_apart p q (λ e. let no : ⊥ = omega (arith, its, young, later, e) in no))
      ∙ based.fresh q later

  -- a scalar that gets a value or becomes undefined, wherever it lies
  scalar_set : (p : Place) (cell : ℕ) (new : Option Value) (s : effect.State) (base : List Cell) → HasFit (scalar_at (outline g) p) new
      → LiesIn g.world p cell → Based g s base → Based g (record s { store = (p, new) ∷ s.store }) (slice_set base cell (cell_of new))
  scalar_set p cell new s base fit lies based = record {
    full = length-set base cell (cell_of new) ∙ based.full;
    alike = alike_set (outline g) g.world s.store base g.fixed p cell new g.apart lies fit based.alike;
    keeps = keeps_set (outline g) g.world s.store base g.fixed p cell new g.apart lies based.keeps;
    old = based.old;
    fresh = still_fresh p cell new s base lies based;
    lasting = based.lasting;
    deep = based.deep;
  }

  pub scalar_kept : (p : Place) (cell : ℕ) (s : effect.State) (base : List Cell) (v : Value) → LiesIn g.world p cell → Based g s base
      → HasFit (scalar_at (outline g) p) (Some v)
      → Based g (record s { store = kept s.store (Some p) v }) (slice_set base cell (value_cell v))
  scalar_kept p cell s base v lies based fit = scalar_set p cell (Some v) s base fit lies based

  -- a variable that is an ordinal and lies where the code finds it
  pub record IsScalar (root : ℕ) : Type 0 where
    pub home : Place
    pub home_is : g.environment.variables root ≡ Some home
    pub lies : LiesIn g.world home (g.frame + control_offset g.scope root)
    pub ordinal : scalar_at (outline g) home ≡ Some scalar.Ordinal

  module _ (root : ℕ) (well : is_control (outline g) g.number root ≡ true) where
    abbrev parts : (is_declared (outline g) g.number is_local_kind root ≡ true) × (leads_to_ordinal (outline g) g.number (AtVariable root) [] 0 ≡ true)
    parts = and_parts (is_declared (outline g) g.number is_local_kind root) (leads_to_ordinal (outline g) g.number (AtVariable root) [] 0) well

    abbrev found : LeadsTo g (is_ordinal g.tree.types) (AtVariable root) [] 0
    found = leads g (is_ordinal g.tree.types) (AtVariable root) [] 0 parts.1

    -- the block itself declares it, and it is no variable parameter
    its_own : (nat_eq found.variable.block g.number ≡ true) × (is_local_kind found.variable.kind ≡ true)
    its_own =
        and_parts (nat_eq found.variable.block g.number) (is_local_kind found.variable.kind)
        (ap (of_one (λ (v : Variable). nat_eq v.block g.number && is_local_kind v.kind)) (sym found.declared) ∙ parts.0)

    plain : (kind : VariableKind) → is_local_kind kind ≡ true → is_variable_kind kind ≡ false
    plain kinds.Local e = refl
    plain kinds.ValueParameter e = refl
    plain kinds.VariableParameter e = absurd (false≢true e)
    plain kinds.Result e = refl

    abbrev home_here : Home
    home_here = variable_home g.scope root

    refers_not : home_here.refers ≡ false
    refers_not = ap (λ (h : Home). h.refers) (g.homes_are root found.variable found.declared) ∙ plain found.variable.kind its_own.1

    no_links : links_to g.scope home_here.level ≡ 0
    no_links =
        let level : home_here.level ≡ g.scope.level = ap (λ (h : Home). h.level) (g.homes_are root found.variable found.declared)
        ∙ ap (block_level g.tree) (eqb-true found.variable.block g.number its_own.0) ∙ sym g.level_is in
        let none : g.scope.level - g.scope.level ≡ 0 = omega arith in
        ap (links_to g.scope) level ∙ ap links none

    abbrev shown : Shown g.tree g.world g.fixed g.below g.frame g.scope g.environment root found.variable
    shown = g.shows root found.variable found.declared found.visible

    -- its type is an ordinal one
    kind_is : scalar_of g.tree.types found.variable.type_id ≡ Some scalar.Ordinal
    kind_is =
        let same = same_Some found.variable.type_id found.from found.from_is ∙ same_Some found.from found.last found.ends in
        scalar_ordinal g.tree.types found.variable.type_id (ap (is_ordinal g.tree.types) same ∙ found.is_wanted)

    lies_by : (way : Way) → Reaches g.tree g.world g.fixed g.below shown.place found.variable (shown.owner + home_here.start) home_here.refers way
        → IsScalar root
    lies_by Direct r =
        let here : g.frame ≡ shown.owner = subst (λ n. Leads g.fixed n g.frame shown.owner) no_links shown.leads in
        record {
          home = shown.place;
          home_is = shown.place_is;
          lies = subst (λ frame. LiesIn g.world shown.place (frame + control_offset g.scope root)) (sym here)
              (scalar_part (outline g) g.world g.below g.known shown.place found.variable.type_id (shown.owner + home_here.start)
              (is_scalar_of g.tree.types found.variable.type_id scalar.Ordinal kind_is) r.1);
          ordinal = scalar_there (outline g) shown.place found.variable.type_id r.1.typed ∙ kind_is;
        }
    lies_by (ByAddress address) r = absurd (false≢true (sym refers_not ∙ r.0))

    pub is_scalar : IsScalar root
    is_scalar = lies_by shown.way shown.reaches

  module _ (root : ℕ) (control : IsScalar root) where
    abbrev pub slot : ℕ
    slot = g.frame + control_offset g.scope root

    -- what is popped into it
    pub stores_variable : (s : effect.State) (base held cells : List Cell) (cell : Cell) (place : ℕ) → Based g s base
        → cells ≡ (base ++ held) ++ cell ∷ [] → Here g place (instr.Store 0 (control_offset g.scope root))
        → Comes g.target 1 (on g cells place s) (on g (slice_set base slot cell ++ held) (place + 1) s)
    stores_variable = stores_scalar control.home (control_offset g.scope root) control.lies

    pub inside : (s : effect.State) (base : List Cell) → Based g s base → slot < length base
    inside = scalar_inside control.home (control_offset g.scope root) control.lies

    pub variable_kept : (s : effect.State) (base : List Cell) (n : ℤ) → Based g s base → Fits n
        → Based g (record s { store = kept s.store (g.environment.variables root) (value.Number n) }) (slice_set base slot (Number n))
    variable_kept s base n based fit =
        subst (λ home. Based g (record s { store = kept s.store home (value.Number n) }) (slice_set base slot (Number n))) (sym control.home_is)
        (scalar_kept control.home slot s base (value.Number n) control.lies based
        (subst (λ kind. HasFit kind (Some (value.Number n))) (sym control.ordinal) fit))

    pub variable_forgotten : (s : effect.State) (base : List Cell) → Based g s base
        → Based g (record s { store = forgotten s.store (g.environment.variables root) }) (slice_set base slot Undefined)
    variable_forgotten s base based =
        subst (λ home. Based g (record s { store = forgotten s.store home }) (slice_set base slot Undefined)) (sym control.home_is)
        (scalar_set control.home slot None s base tt control.lies based)

  -- ---- held cells

  -- where they lie
  pub held_at : (held : List Cell) (n : ℕ) → AllHeld g held → g.below + (length held + n) < g.limit
      → g.frame + held_offset g.scope n ≡ g.below + (length held + n)
  held_at held n high room = let far = limit_far g in omega (arith, high)

  pub loads_held : (s : effect.State) (base held rest more cells : List Cell) (n : ℕ) (cell : Cell) (place : ℕ) → Based g s base
      → AllHeld g held → cells ≡ (base ++ (held ++ rest)) ++ more → slice_get rest n ≡ Some cell
      → g.below + length held + length rest + length more < g.limit → Here g place (instr.Load 0 (held_offset g.scope n))
      → Comes g.target 1 (on g cells place s) (on g (cells ++ cell ∷ []) (place + 1) s)
  loads_held s base held rest more cells n cell place based high is found room here =
      let full = based.full in
      let few = slice_get_within rest n cell found in
      let long = ap length is ∙ length-append (base ++ (held ++ rest)) more in
      let at : g.frame + held_offset g.scope n ≡ length base + (length held + n) = held_at held n high (omega arith)
      ∙ ap (λ m. m + (length held + n)) (sym full) in
      let there : slice_get cells (g.frame + held_offset g.scope n) ≡ Some cell =
      ap (slice_get cells) at ∙ ap (λ cs. slice_get cs (length base + (length held + n))) is
      ∙ slice_get-front (base ++ (held ++ rest)) more (length base + (length held + n)) cell
      (slice_behind base (held ++ rest) (length held + n) (length base + (length held + n)) refl ∙ slice_behind held rest n (length held + n) refl ∙ found) in
      let all : length cells ≡ length base + (length held + length rest) + length more =
      omega (arith, long, length-append base (held ++ rest), length-append held rest) in
      acts g (instr.Load 0 (held_offset g.scope n)) cells (cells ++ cell ∷ []) place s _ here refl
      (loads g.frame g.limit g.size cells 0 (held_offset g.scope n) g.frame cell (omega (arith, all, full)) refl (omega (arith, at, all, few))
      there)

  pub stores_held : (s : effect.State) (base held rest cells : List Cell) (n : ℕ) (cell : Cell) (place : ℕ) → Based g s base
      → AllHeld g held → cells ≡ (base ++ (held ++ rest)) ++ cell ∷ [] → n < length rest → g.below + length held + length rest ≤ g.limit
      → Here g place (instr.Store 0 (held_offset g.scope n))
      → Comes g.target 1 (on g cells place s) (on g (base ++ (held ++ slice_set rest n cell)) (place + 1) s)
  stores_held s base held rest cells n cell place based high is few room here =
      let below = base ++ (held ++ rest) in
      let full = based.full in
      let at : g.frame + held_offset g.scope n ≡ length base + (length held + n) = held_at held n high (omega arith)
      ∙ ap (λ m. m + (length held + n)) (sym full) in
      let all : length below ≡ length base + (length held + length rest) = omega (arith, length-append base (held ++ rest), length-append held rest) in
      let does = stores g.frame g.limit g.size below (linked g s base (held ++ rest) based) cell 0 (held_offset g.scope n) g.frame refl
      (omega (arith, at, all)) ∙ ap (λ i. Ok (frames_of (slice_set below i cell))) at
      ∙ ap (λ cs. Ok (frames_of cs)) (set_above base (held ++ rest) (length held + n) cell)
      ∙ ap (λ cs. Ok (frames_of (base ++ cs))) (set_above held rest n cell) in
      acts g (instr.Store 0 (held_offset g.scope n)) cells (base ++ (held ++ slice_set rest n cell)) place s
      _ here refl (ap (λ cs. frames.store 0 (held_offset g.scope n) (frames_of cs)) is ∙ does)

  -- two numbers on top give way to a third
  pub operates : (i : Instr) (f : ℤ → ℤ → ℤ) (cells : List Cell) (a b : ℤ) (place : ℕ) (s : effect.State) → Here g place i
      → deed_of i ≡ Acts (on_two f) → g.frame + 4 ≤ length cells → length cells < g.limit
      → Comes g.target 1 (on g ((cells ++ Number a ∷ []) ++ Number b ∷ []) place s) (on g (cells ++ Number (f a b) ∷ []) (place + 1) s)
  operates i f cells a b place s here rule in_frame room =
      acts g i ((cells ++ Number a ∷ []) ++ Number b ∷ []) (cells ++ Number (f a b) ∷ []) place s _ here rule
      (on_two_is g.frame g.limit g.size cells in_frame a b f room)

  pub pushes_number : (cells : List Cell) (n : ℤ) (place : ℕ) (s : effect.State) → Here g place (instr.LoadConstant n) → length cells < g.limit
      → Comes g.target 1 (on g cells place s) (on g (cells ++ Number n ∷ []) (place + 1) s)
  pushes_number cells n place s here room =
      acts g (instr.LoadConstant n) cells (cells ++ Number n ∷ []) place s _ here refl
      (pushes g.frame g.limit g.size cells n room)

  -- ---- the bounds of a for statement, which are held

  module _ (s : effect.State) (base held : List Cell) (n l : ℤ) (based : Based g s base) (high : AllHeld g held)
      (room : g.below + length held + 4 ≤ g.limit) where
    abbrev bounds : List Cell
    bounds = Number n ∷ Number l ∷ []

    abbrev here : List Cell
    here = base ++ (held ++ bounds)

    long : length here ≡ g.below + length held + 2
    long = let full = based.full in omega (arith, length-append base (held ++ bounds), length-append held bounds)

    in_frame : g.frame + 4 ≤ length here
    in_frame = linked g s base (held ++ bounds) based

    -- they are compared, and a jump is taken where the comparison is false
    pub decides : (i : Instr) (f : ℤ → ℤ → ℤ) (holds : Bool) (place out : ℕ)
        → Here g place (instr.Load 0 (held_offset g.scope 0)) → Here g (place + 1) (instr.Load 0 (held_offset g.scope 1)) → Here g (place + 1 + 1) i
        → StandsAt g.target (place + 1 + 1 + 1) (instr.JumpIfFalse out) true
        → deed_of i ≡ Acts (on_two f) → f n l ≡ truth holds
        → Comes g.target 4 (on g here place s) (on g here (if holds then place + 4 else out) s)
    decides i f holds place out at1 at2 at3 at4 rule is =
        let size = long in
        let a = loads_held s base held bounds [] here 0 (Number n) place based high (sym (append-nil here)) refl (omega arith) at1 in
        let b = loads_held s base held bounds (Number n ∷ []) (here ++ Number n ∷ []) 1 (Number l) (place + 1) based high refl refl (omega arith)
        at2 in
        let c = operates i f here n l (place + 1 + 1) s at3 rule in_frame (omega arith) in
        let d = branches_on g out here (f n l) (place + 1 + 1 + 1) s at4 in_frame in
        let whole = comes_on g.target 1 3 _ _ _ a (comes_on g.target 1 2 _ _ _ b (comes_on g.target 1 1 _ _ _ c d)) in
        let same : is_true (f n l) ≡ holds = ap is_true is ∙ true_truth holds in
        let p : place + 1 + 1 + 1 + 1 ≡ place + 4 = omega arith in
        subst (λ q. Comes g.target 4 (on g here place s) (on g here (if holds then q else out) s)) p
        (subst (λ b. Comes g.target 4 (on g here place s) (on g here (if b then place + 1 + 1 + 1 + 1 else out) s)) same whole)

    -- a value that is held becomes that of the control variable
    pub begins : (control place : ℕ) (scalar : IsScalar control) → Fits n → Here g place (instr.Load 0 (held_offset g.scope 0))
        → Here g (place + 1) (instr.Store 0 (control_offset g.scope control))
        → Comes g.target 2 (on g here place s) (on g (slice_set base (slot control scalar) (Number n) ++ (held ++ bounds)) (place + 2) s)
    begins control place scalar fit at1 at2 =
        let p : place + 1 + 1 ≡ place + 2 = omega arith in
        let after = slice_set base (slot control scalar) (Number n) ++ (held ++ bounds) in
        subst (λ q. Comes g.target 2 (on g here place s) (on g after q s)) p
        (comes_on g.target 1 1 _ _ _
        (loads_held s base held bounds [] here 0 (Number n) place based high (sym (append-nil here)) refl (omega arith) at1)
        (stores_variable control scalar s base (held ++ bounds) (here ++ Number n ∷ []) (Number n) (place + 1) based refl at2))

    -- the next value is held, and the next round begins
    pub steps : (i : Instr) (f : ℤ → ℤ → ℤ) (next : ℤ) (place head : ℕ) → Here g place (instr.Load 0 (held_offset g.scope 0))
        → Here g (place + 1) (instr.LoadConstant (pos 1)) → Here g (place + 1 + 1) i → Here g (place + 1 + 1 + 1) (instr.Store 0 (held_offset g.scope 0))
        → StandsAt g.target (place + 1 + 1 + 1 + 1) (instr.Jump head) true
        → deed_of i ≡ Acts (on_two f) → f n (pos 1) ≡ next
        → Comes g.target 1 (on g here place s) (on g (base ++ (held ++ Number next ∷ Number l ∷ [])) head s)
    steps i f next place head at1 at2 at3 at4 at5 rule is =
        let size = long in
        let a = loads_held s base held bounds [] here 0 (Number n) place based high (sym (append-nil here)) refl (omega arith) at1 in
        let b = pushes_number (here ++ Number n ∷ []) (pos 1) (place + 1) s at2 (omega (arith, length_one here (Number n))) in
        let c = operates i f here n (pos 1) (place + 1 + 1) s at3 rule in_frame (omega arith) in
        let d = stores_held s base held bounds (here ++ Number (f n (pos 1)) ∷ []) 0 (Number (f n (pos 1))) (place + 1 + 1 + 1) based high refl
        (omega arith) (omega arith) at4 in
        let e = jumps g head (base ++ (held ++ Number (f n (pos 1)) ∷ Number l ∷ [])) (place + 1 + 1 + 1 + 1) s at5 in
        let whole = comes_on g.target 1 4 _ _ _ a (comes_on g.target 1 3 _ _ _ b (comes_on g.target 1 2 _ _ _ c (comes_on g.target 1 1 _ _ _ d e))) in
        subst (λ m. Comes g.target 1 (on g here place s) (on g (base ++ (held ++ Number m ∷ Number l ∷ [])) head s)) is
        (comes_less g.target 1 5 _ _ (omega arith) whole)

    -- behind the loop nothing more is held, and the control variable is undefined
    pub leaves : (control place : ℕ) (scalar : IsScalar control) → Fits n → Fits l → Here g place (instr.Store 0 (control_offset g.scope control))
        → Here g (place + 1) (instr.Store 0 (control_offset g.scope control)) → Here g (place + 1 + 1) (instr.Load (links_to g.scope 0) 2)
        → Here g (place + 1 + 1 + 1) (instr.Store 0 (control_offset g.scope control))
        → Comes g.target 4 (on g here place s) (on g (slice_set base (slot control scalar) Undefined ++ held) (place + 4) s)
    leaves control place scalar fit fit' at1 at2 at3 at4 =
        let c = slot control scalar in
        let one = held ++ Number n ∷ [] in
        let base1 = slice_set base c (Number l) in
        let base2 = slice_set base1 c (Number n) in
        let based1 = variable_kept control scalar s base l based fit' in
        let s1 = record s { store = kept s.store (g.environment.variables control) (value.Number l) } in
        let based2 = variable_kept control scalar s1 base1 n based1 fit in
        let s2 = record s1 { store = kept s1.store (g.environment.variables control) (value.Number n) } in
        let is1 : here ≡ (base ++ one) ++ Number l ∷ [] = ap (λ cs. base ++ cs) (sym (append_assoc held (Number n ∷ []) (Number l ∷ [])))
        ∙ sym (append_assoc base one (Number l ∷ [])) in
        let a = stores_variable control scalar s base one here (Number l) place based is1 at1 in
        let b = stores_variable control scalar s1 base1 held (base1 ++ one) (Number n) (place + 1) based1
        (sym (append_assoc base1 held (Number n ∷ []))) at2 in
        let cells = base2 ++ held in
        let size = length-append base2 held in
        let full = based2.full in
        let links = linked g s2 base2 held based2 in
        let blank = slice_get-front base2 held (g.bottom + 2) Undefined (based2.keeps.each (g.bottom + 2) Undefined g.blank) in
        let up = links_to g.scope 0 in
        let d = acts g (instr.Load up 2) cells (cells ++ Undefined ∷ []) (place + 1 + 1) s _ at3 refl
        (loads g.frame g.limit g.size cells up 2 g.bottom Undefined (omega arith) (frame_found g up g.bottom base2 held s2 based2 g.chain)
        (slice_get_within cells (g.bottom + 2) Undefined blank) blank) in
        let e = stores_variable control scalar s2 base2 held (cells ++ Undefined ∷ []) Undefined (place + 1 + 1 + 1) based2 refl at4 in
        let whole = comes_on g.target 1 3 _ _ _ a (comes_on g.target 1 2 _ _ _ b (comes_on g.target 1 1 _ _ _ d e)) in
        let same : slice_set base2 c Undefined ≡ slice_set base c Undefined = set_twice base1 c (Number n) Undefined ∙ set_twice base c (Number l) Undefined in
        let p : place + 1 + 1 + 1 + 1 ≡ place + 4 = omega arith in
        subst (λ q. Comes g.target 4 (on g here place s) (on g (slice_set base c Undefined ++ held) q s)) p
        (subst (λ cs. Comes g.target 4 (on g here place s) (on g (cs ++ held) (place + 1 + 1 + 1 + 1) s)) same whole)

  -- ---- the index of a case statement, which is held

  module _ (s : effect.State) (base held : List Cell) (n : ℤ) (based : Based g s base) (high : AllHeld g held)
      (room : g.below + length held + 3 ≤ g.limit) where
    abbrev index : List Cell
    index = base ++ (held ++ Number n ∷ [])

    -- one constant
    compares : (constant : ℤ) (arm place : ℕ) → Here g place (instr.LoadConstant constant) → Here g (place + 1) (instr.Load 0 (held_offset g.scope 0))
        → Here g (place + 1 + 1) instr.NotEqual → StandsAt g.target (place + 1 + 1 + 1) (instr.JumpIfFalse arm) true
        → Comes g.target 0 (on g index place s) (on g index (if not (int_eq constant n) then place + 1 + 1 + 1 + 1 else arm) s)
    compares constant arm place at1 at2 at3 at4 =
        let full = based.full in
        let size : length index ≡ g.below + length held + 1 = omega (arith, length-append base (held ++ Number n ∷ []), length-append held (Number n ∷ [])) in
        let in_frame = linked g s base (held ++ Number n ∷ []) based in
        let differs = truth (not (int_eq constant n)) in
        let a = pushes_number index constant place s at1 (omega arith) in
        let b = loads_held s base held (Number n ∷ []) (Number constant ∷ []) (index ++ Number constant ∷ []) 0 (Number n) (place + 1) based high
        refl
        refl (omega arith) at2 in
        let c = operates instr.NotEqual (frames.of_two dyadic.NotEqual) index constant n (place + 1 + 1) s at3 refl in_frame (omega arith) in
        let d = branches_on g arm index differs (place + 1 + 1 + 1) s at4 in_frame in
        let whole = comes_on g.target 1 3 _ _ _ a (comes_on g.target 1 2 _ _ _ b (comes_on g.target 1 1 _ _ _ c d)) in
        comes_less g.target 0 4 _ _ (omega arith)
        (subst (λ b. Comes g.target 4 (on g index place s) (on g index (if b then place + 1 + 1 + 1 + 1 else arm) s))
        (true_truth (not (int_eq constant n))) whole)

    compares_by : (row : List ℤ) (arm place next : ℕ) (same : Bool)
        → Comes g.target 0 (on g index place s) (on g index (if not same then next else arm) s)
        → Comes g.target 0 (on g index next s) (on g index (if is_among row n then arm else next + length (row_code g.scope arm row)) s)
        → Comes g.target 0 (on g index place s)
        (on g index (if same || is_among row n then arm else next + length (row_code g.scope arm row)) s)
    compares_by row arm place next true first rest = first
    compares_by row arm place next false first rest = comes_on g.target 0 0 _ _ _ first rest

    -- a row of constants: to the arm with one that is the index, or behind the row
    pub compares_row : (row : List ℤ) (arm place : ℕ) → Stands g.target place (row_code g.scope arm row)
        → Comes g.target 0 (on g index place s)
        (on g index (if is_among row n then arm else place + length (row_code g.scope arm row)) s)
    compares_row [] arm place stands =
        let e : place ≡ place + 0 = omega arith in
        subst (λ p. Comes g.target 0 (on g index place s) (on g index p s)) e (stays_here g.target (on g index place s))
    compares_row (constant ∷ row) arm place stands =
        let rest = compares_row row arm (place + 1 + 1 + 1 + 1) stands.1.1.1.1 in
        let first = compares constant arm place stands.0 stands.1.0 stands.1.1.0 stands.1.1.1.0 in
        let e : place + 1 + 1 + 1 + 1 + length (row_code g.scope arm row) ≡ place + length (row_code g.scope arm (constant ∷ row)) = omega arith in
        subst (λ p. Comes g.target 0 (on g index place s) (on g index (if is_among (constant ∷ row) n then arm else p) s)) e
        (compares_by row arm place (place + 1 + 1 + 1 + 1) (int_eq constant n) first rest)

-- ---- the values of a control variable

-- the last one
pub last_is : (n l : ℤ) → int_eq n l ≡ true → n ≡ l
last_is n l e = grind (arith, ints)

-- one that isn't the last has a next one
pub record NextFits (way : Direction) (n l : ℤ) : Type 0 where
  pub fits : Fits (next_value way n)
  pub has : has_values way (next_value way n) l ≡ true

pub next_fits : (way : Direction) (n l : ℤ) → Fits n → Fits l → has_values way n l ≡ true → int_eq n l ≡ false → NextFits way n l
next_fits direction.To n l f h has other =
    let a = f.is in let b = h.is in
    record { fits = record { is = grind (arith, ints) }; has = grind (arith, ints) }
next_fits direction.DownTo n l f h has other =
    let a = f.is in let b = h.is in
    record { fits = record { is = grind (arith, ints) }; has = grind (arith, ints) }

pub one_fits : Fits (pos 1)
one_fits = record { is = refl }
