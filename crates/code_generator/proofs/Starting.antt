-- The block of a routine begins: its parameters get what was passed, its other variables are undefined, and the cells of its frame
-- are alike to that.
use Rattle.code_generator.proofs.Words.{◌≡◌, ℕ, zero, suc, ◌+◌, ◌-◌, ◌<◌, ◌≤◌, ◌⊎◌, inl, inr, ⊎_elim, List, [], ◌∷◌, ◌++◌, length, map, take, drop, Option}
use Rattle.code_generator.proofs.Words.{Some, None, refl, sym, ap, ◌∙◌, subst, arith, Bool, true, false, length-append, append_assoc, replicate, if◌then◌else◌}
use Rattle.code_generator.proofs.Words.{nat_eq, slice_get, pos, drop-append_seam, cases_lt, eqb-true, and_parts, false≢true, length-map, none-some, same_Some}
use Rattle.code_generator.proofs.Words.{components_of, Form, Block, Variable, VariableKind, is_parameter_kind, is_variable_kind, roots_where, Place, stored}
use Rattle.code_generator.proofs.Words.{Gives, Argument, OfValue, OfRow, OfPlace, Cell, Undefined, Number, block_depth}
use Rattle.code_generator.proofs.Words.{called_routine, cells_where, is_parameter_of, links_to, other_cells, parameter_cells, slot_cells, variable_home}
use Rattle.std.proofs.Math.Seq.{take-append_seam}
use Rattle.typed_tree.specs.declared.tree.VariableKind.TheVariants as kinds
use Rattle.typed_tree.specs.WellFormed.{is_value_kind}
use Rattle.meaning.specs.Store as meant
use Rattle.meaning.specs.Effect as effect
use Rattle.meaning.specs.Meaning.{assign, assign_all, home_of as home_in, own_place}
use Rattle.code_generator.proofs.Alike.{Activation, Lives, Fixed, Lies, LiesIn, Keeps, Leads}
use Rattle.code_generator.proofs.Scalars.{AllFit, HasFit, cell_of, scalar_at, scalar_there, value_cell}
use Rattle.code_generator.proofs.Callee.{callee, fixed_mark, new_activation, own_filled, own_part, seen, its_start}
use Rattle.code_generator.proofs.Cells.{starts_as_parameter, where_cons}
use Rattle.code_generator.proofs.Held.{scalar_kept}
use Rattle.code_generator.proofs.Laying.{Laid, Takes, fitted_length, marked, marked_by, marked_first, marked_long, no_reference}
use Rattle.code_generator.proofs.Nesting.{Callable}
use Rattle.code_generator.proofs.Parts.{IsPart, scalar_part}
use Rattle.code_generator.proofs.Passing.{Fitted}
use Rattle.code_generator.proofs.Rows.{cells_of as value_cells}
use Rattle.code_generator.proofs.Setting.{Setting, Based, outline}
use Rattle.code_generator.proofs.Wholes.{part_kinds, row_kept, set_row, set_row_is, store_all_is, stored_all}
use Rattle.code_generator.proofs.Lists.{slice_before, slice_behind, slice_get-front, set_middle}
use Rattle.std.proofs.lemmas.List.{length-replicate}

-- ---- what is fixed

pub keeps_join : (f more : Fixed) (cs others : List Cell) → length f ≡ length cs → Keeps f cs → Keeps more others → Keeps (f ++ more) (cs ++ others)
keeps_join f more cs others same first second = record {
  each = λ i cell at.
      ⊎_elim
      (λ (low : i < length f). slice_get-front cs others i cell (first.each i cell (sym (slice_before f more i low) ∙ at)))
      (λ (high : length f ≤ i).
      slice_behind cs others (i - length f) i (omega (arith, same, high))
      ∙ second.each (i - length f) cell (sym (slice_behind f more (i - length f) i (omega (arith, high))) ∙ at))
      (cases_lt i (length f));
}

some_at : (xs : List Cell) (i : ℕ) (cell : Cell) → slice_get (map (λ c. Some c) xs) i ≡ Some (Some cell) → slice_get xs i ≡ Some cell
some_at [] i cell at = absurd (none-some (Some cell) at)
some_at (x ∷ xs) zero cell at = same_Some (Some x) (Some cell) at
some_at (x ∷ xs) (suc i) cell at = some_at xs i cell at

pub keeps_some : (xs : List Cell) → Keeps (map (λ c. Some c) xs) xs
keeps_some xs = record { each = some_at xs }

abbrev nothing : Option Cell
nothing = None

none_at : (n i : ℕ) (cell : Cell) → slice_get (replicate n nothing) i ≡ Some (Some cell) → ⊥
none_at zero i cell at = none-some (Some cell) at
none_at (suc n) zero cell at = cc
none_at (suc n) (suc i) cell at = none_at n i cell at

pub keeps_none : (n : ℕ) (cs : List Cell) → Keeps (replicate n None) cs
keeps_none n cs = record { each = λ i cell at. absurd (none_at n i cell at) }

-- a parameter before it gets what is passed: the address in a variable parameter is there
abbrev pub blank_mark : Variable → Cell → Cell
blank_mark v cell = if is_variable_kind v.kind then cell else Undefined

marks_kept : (v : Variable) (first : List Cell) (i : ℕ) (cell : Cell) → slice_get (map (fixed_mark v) first) i ≡ Some (Some cell)
    → slice_get (map (blank_mark v) first) i ≡ Some cell
marks_kept v [] i cell at = absurd (none-some (Some cell) at)
marks_kept v (x ∷ first) zero cell at = by (is_variable_kind v.kind) (same_Some (fixed_mark v x) (Some cell) at)
  where
    by : (refers : Bool) → (if refers then Some x else None) ≡ Some cell → Some (if refers then x else Undefined) ≡ Some cell
    by true e = e
    by false e = absurd (none-some cell e)
marks_kept v (x ∷ first) (suc i) cell at = marks_kept v first i cell at

module _ (g : Setting) (number : ℕ) where
  abbrev KeepsMarked : List Variable → Type 0
  KeepsMarked variables =
      (arguments : List Argument) (cells : List Cell) → Laid g number variables arguments cells
      → Keeps (marked g number fixed_mark variables cells) (marked g number blank_mark variables cells)

  pub keeps_marked : (variables : List Variable) → KeepsMarked variables
  keeps_marked [] arguments cells l = record { each = λ i cell at. absurd (none-some (Some cell) at) }
  keeps_marked (v ∷ variables) arguments cells l = by (keeps_marked variables) (is_parameter_of number v) refl l
    where
      by : KeepsMarked variables → (b : Bool) → is_parameter_of number v ≡ b
          → Takes g number (is_parameter_of number v) v arguments cells (Laid g number variables)
          → Keeps (marked_by g number fixed_mark (is_parameter_of number v) v cells (marked g number fixed_mark variables))
          (marked_by g number blank_mark (is_parameter_of number v) v cells (marked g number blank_mark variables))
      by recur true is l =
          let t = subst (λ b. Takes g number b v arguments cells (Laid g number variables)) is l in
          let first = ap (λ b. marked_by g number fixed_mark b v cells (marked g number fixed_mark variables)) is
          ∙ ap (λ cs. marked_by g number fixed_mark true v cs (marked g number fixed_mark variables)) t.5
          ∙ marked_first g number fixed_mark v (marked g number fixed_mark variables) t.0 t.2 t.3 t.6 in
          let second = ap (λ b. marked_by g number blank_mark b v cells (marked g number blank_mark variables)) is
          ∙ ap (λ cs. marked_by g number blank_mark true v cs (marked g number blank_mark variables)) t.5
          ∙ marked_first g number blank_mark v (marked g number blank_mark variables) t.0 t.2 t.3 t.6 in
          let joined = keeps_join (map (fixed_mark v) t.2) (marked g number fixed_mark variables t.3) (map (blank_mark v) t.2)
          (marked g number blank_mark variables t.3) (length-map t.2 (fixed_mark v) ∙ sym (length-map t.2 (blank_mark v)))
          (record { each = marks_kept v t.2 }) (recur t.1 t.3 t.7) in
          subst (λ f. Keeps f (marked_by g number blank_mark (is_parameter_of number v) v cells (marked g number blank_mark variables))) (sym first)
          (subst (λ cs. Keeps (map (fixed_mark v) t.2 ++ marked g number fixed_mark variables t.3) cs) (sym second) joined)
      by recur false is l =
          let t = subst (λ b. Takes g number b v arguments cells (Laid g number variables)) is l in
          let first = ap (λ b. marked_by g number fixed_mark b v cells (marked g number fixed_mark variables)) is in
          let second = ap (λ b. marked_by g number blank_mark b v cells (marked g number blank_mark variables)) is in
          subst (λ f. Keeps f (marked_by g number blank_mark (is_parameter_of number v) v cells (marked g number blank_mark variables))) (sym first)
          (subst (λ cs. Keeps (marked g number fixed_mark variables cells) cs) (sym second) (recur arguments cells t))

-- ---- cells in the middle that are set

set_row_middle : (front before row behind : List Cell) → length before ≡ length row
    → set_row (front ++ (before ++ behind)) (length front) row ≡ front ++ (row ++ behind)
set_row_middle front before row behind same =
    let whole = front ++ (before ++ behind) in
    let long : length front + length row ≤ length whole = omega (arith, same, length-append front (before ++ behind), length-append before behind) in
    let both : length front + length row ≡ length (front ++ before) = omega (arith, same, length-append front before) in
    set_row_is whole (length front) row long
    ∙ ap (λ l. (l ++ row) ++ drop (length front + length row) whole) (take-append_seam front (before ++ behind))
    ∙ ap (λ n. (front ++ row) ++ drop n whole) both
    ∙ ap (λ l. (front ++ row) ++ drop (length (front ++ before)) l) (sym (append_assoc front before behind))
    ∙ ap (λ l. (front ++ row) ++ l) (drop-append_seam (front ++ before) behind)
    ∙ append_assoc front row behind

where_next : (number : ℕ) (types : List Form) (variables : List Variable) (k : ℕ) (v : Variable) → slice_get variables k ≡ Some v
    → cells_where types (is_parameter_of number) (take (suc k) variables)
    ≡ cells_where types (is_parameter_of number) (take k variables) + (if is_parameter_of number v then slot_cells types v else 0)
where_next number types [] k v at = absurd (none-some v at)
where_next number types (w ∷ variables) zero v at =
    let same = ap (λ (x : Variable). if is_parameter_of number x then slot_cells types x else 0) (same_Some w v at) in
    omega (arith, where_cons types (is_parameter_of number) w [], same)
where_next number types (w ∷ variables) (suc k) v at =
    omega (
      arith,
      where_next number types variables k v at,
      where_cons types (is_parameter_of number) w (take (suc k) variables),
      where_cons types (is_parameter_of number) w (take k variables),
    )

module _ (g : Setting) (number : ℕ) (block : Block) (block_is : slice_get g.tree.blocks.items number ≡ Some block)
    (callable : Callable g.tree g.well g.number g.block number block) (outer : ℕ)
    (way : Leads g.fixed (links_to g.scope (called_routine g.scope number).level) g.frame outer) (base held cells : List Cell) (arguments : List Argument)
    (s : effect.State) (based : Based g s base) (return depth : ℕ) (depth_is : g.depth ≡ suc depth)
    (room : g.below + length held + 4 + length cells ≤ g.limit) (laid : Laid g number g.tree.variables.items arguments cells)
    (fits : g.below + length held + (4 + parameter_cells g.tree number + other_cells g.tree number + block_depth block) ≤ g.size) where
  -- the setting of the routine
  abbrev pub h : Setting
  h = callee g number block block_is callable outer way held cells arguments s.activations return depth based.old room laid fits

  abbrev variables : List Variable
  variables = g.tree.variables.items

  abbrev others : ℕ
  others = other_cells g.tree number

  abbrev pub its_links : List Cell
  its_links = Number (pos outer) ∷ Number (pos g.frame) ∷ Number (pos return) ∷ Number (pos g.limit) ∷ []

  abbrev blanks : List Cell
  blanks = marked g number blank_mark variables cells

  abbrev pub unset : List Cell
  unset = replicate others Undefined

  -- behind the activation's begin
  abbrev pub begun_state : ℕ → effect.State
  begun_state left = record s { turns = left; activations = suc s.activations; living = number ∷ s.living }

  abbrev start_cells : List Cell
  start_cells = (base ++ held) ++ (its_links ++ (blanks ++ unset))

  under_long : length (base ++ held) ≡ h.frame
  under_long = let full = based.full in omega (arith, length-append base held)

  blanks_long : length blanks ≡ parameter_cells g.tree number
  blanks_long = let l = marked_long g number blank_mark variables arguments cells laid in l.0 ∙ l.1

  pub cells_are : length cells ≡ parameter_cells g.tree number
  cells_are = (marked_long g number blank_mark variables arguments cells laid).1

  start_long : length start_cells ≡ h.below
  start_long =
      omega (
        arith,
        under_long,
        length-append (base ++ held) (its_links ++ (blanks ++ unset)),
        length-append blanks unset,
        blanks_long,
        length-replicate {A = Cell} others Undefined,
      )

  -- before the parameters get what is passed, nothing of the routine's own is defined
  abbrev its_activation : Activation
  its_activation = new_activation g number block block_is callable outer way held cells arguments s.activations return depth based.old room laid fits

  scalar_begun : (p : Place) (c : ℕ) (l : LiesIn h.world p c) → (l.owner ≡ its_activation) ⊎ Lives g.world l.owner
      → (slice_get start_cells c ≡ Some (cell_of (stored s.store p))) × HasFit (scalar_at (outline g) p) (stored s.store p)
  scalar_begun p c l (inl mine) =
      let lies = subst (λ a. Lies a p c) mine l.lies in
      let its = lies.its in
      let none : stored s.store p ≡ None = based.fresh p (omega (arith, its)) in
      let front = (base ++ held) ++ its_links in
      let long : length front ≡ h.frame + 4 = omega (arith, under_long, length-append (base ++ held) its_links) in
      let cell : slice_get start_cells c ≡ Some Undefined =
      ap (λ cs. slice_get cs c) (sym (append_assoc (base ++ held) its_links (blanks ++ unset)))
      ∙ own_filled g number block block_is callable outer way held cells arguments s.activations return depth based.old room laid fits
      front long blank_mark Undefined (λ v cell plain. ap (λ b. if b then cell else Undefined) plain) p c lies in
      (cell ∙ ap (λ o. Some (cell_of o)) (sym none), subst (HasFit (scalar_at (outline g) p)) (sym none) tt)
  scalar_begun p c l (inr lives) =
      let lies : LiesIn g.world p c = record { owner = l.owner; lives = lives; lies = l.lies } in (
        slice_get-front (base ++ held) (its_links ++ (blanks ++ unset)) c _ (slice_get-front base held c _ (based.alike.scalars p c lies)),
        based.alike.fits p c lies,
      )

  pub started : (left : ℕ) → s.turns ≡ suc left → Based h (begun_state left) start_cells
  started left is =
      let full = based.full in
      let same = g.fixed_is in
      let deep = based.deep in
      record {
        full = start_long;
        alike = record {
          scalars = λ p c l. (scalar_begun p c l l.lives).0;
          fits = λ p c l. (scalar_begun p c l l.lives).1;
        };
        keeps = keeps_join (g.fixed ++ map (λ c. Some c) held) _ (base ++ held) (its_links ++ (blanks ++ unset))
            (omega (arith, full, same, length-append base held, length-append g.fixed (map (λ c. Some c) held), length-map held (λ c. Some c)))
            (keeps_join g.fixed (map (λ c. Some c) held) base held (same ∙ sym full) based.keeps (keeps_some held))
            (keeps_join (map (λ c. Some c) its_links) _ its_links (blanks ++ unset) refl (keeps_some its_links)
            (keeps_join (marked g number fixed_mark variables cells) (replicate others None) blanks unset
            ((marked_long g number fixed_mark variables arguments cells laid).0 ∙ sym (marked_long g number blank_mark variables arguments cells laid).0)
            (keeps_marked g number variables arguments cells laid) (keeps_none others unset)));
        old = λ a lives.
            ⊎_elim
            (λ (mine : a ≡ its_activation). let its : a.number ≡ s.activations = ap (λ (x : Activation). x.number) mine in omega (arith, its))
            (λ (older : Lives g.world a). let less = based.old a older in omega (arith, less))
            lives;
        fresh = λ p later. based.fresh p (omega (arith, later));
        lasting = ap (λ l. number ∷ l) based.lasting;
        deep = omega (arith, deep, is, depth_is);
      }

  -- ---- the parameters get what was passed

  abbrev test : Variable → Bool
  test = is_parameter_of number

  abbrev types : List Form
  types = g.tree.types

  module _ (k : ℕ) (v : Variable) (at : slice_get variables k ≡ Some v) (its : test v ≡ true) where
    own : v.block ≡ number
    own = eqb-true v.block number (and_parts (nat_eq v.block number) (is_parameter_kind v.kind) its).0

    is_kind : is_parameter_kind v.kind ≡ true
    is_kind = (and_parts (nat_eq v.block number) (is_parameter_kind v.kind) its).1

    abbrev own_home : Place
    own_home = own_place s.activations k

    -- a value parameter lies in the frame
    module _ (by_value : is_value_kind v.kind ≡ true) where
      value_home : (kind : VariableKind) → is_value_kind kind ≡ true
          → home_in (record {
            number = s.activations;
            block = number;
            heading = block.heading;
            arguments = arguments;
            caller = g.environment;
          }) k kind ≡ Some own_home
      value_home kinds.ValueParameter e = refl
      value_home kinds.Local e = absurd (false≢true e)
      value_home kinds.VariableParameter e = absurd (false≢true e)
      value_home kinds.Result e = absurd (false≢true e)

      home_is_own : h.environment.variables k ≡ Some own_home
      home_is_own =
          seen g number block block_is callable outer way held cells arguments s.activations return depth based.old room laid fits k v at own
          ∙ value_home v.kind by_value

      part_at : (d : ℕ) → d ≡ h.frame + 4 + cells_where types test (take k variables) → IsPart (outline g) h.world h.below own_home v.type_id d
      part_at d is =
          let start = its_start g number block block_is callable outer way held cells arguments s.activations return depth based.old room laid fits k v at
          own in
          let begins = starts_as_parameter g.tree k v is_kind in
          let mine = ap (λ n. cells_where types (is_parameter_of n) (take k variables)) own in
          let same : h.frame + (variable_home h.scope k).start ≡ d = omega (arith, is, start, begins, mine) in
          subst (IsPart (outline g) h.world h.below own_home v.type_id) same
          (own_part g number block block_is callable outer way held cells arguments s.activations return depth based.old room laid fits k v at own
          (no_reference v.kind by_value))

    -- the cells of a value parameter are undefined before
    blank_first : (first : List Cell) → is_variable_kind v.kind ≡ true → map (blank_mark v) first ≡ first
    blank_first [] refers = refl
    blank_first (x ∷ first) refers =
        ap (λ b. (if b then x else Undefined) ∷ map (blank_mark v) first) refers ∙ ap (λ l. x ∷ l) (blank_first first refers)

    abbrev OneAssigned : Argument → List Cell → List Cell → List Cell → effect.State → Type 0
    OneAssigned argument pre first post t =
        (store : meant.Store) × (assign types (h.environment.variables k) (Some v) argument t ≡ Gives tt (record t { store = store }))
        × Based h (record t { store = store }) (pre ++ (first ++ post))

    one_assigned : (argument : Argument) (pre first post : List Cell) (t : effect.State) → Fitted g v argument first
        → length pre ≡ h.frame + 4 + cells_where types test (take k variables) → Based h t (pre ++ (map (blank_mark v) first ++ post))
        → OneAssigned argument pre first post t
    one_assigned (OfValue w) pre first post t f long based' =
        let cell = value_cell w in
        let part = part_at f.0 (length pre) long in
        let lies = scalar_part (outline g) h.world h.below g.known own_home v.type_id (length pre) f.1 part in
        let fit = subst (λ kind. HasFit kind (Some w)) (sym (scalar_there (outline g) own_home v.type_id part.typed)) f.2 in
        let blank : map (blank_mark v) first ≡ Undefined ∷ [] =
        ap (map (blank_mark v)) f.3 ∙ ap (λ b. (if b then cell else Undefined) ∷ []) (no_reference v.kind f.0) in
        let before = subst (λ l. Based h t (pre ++ (l ++ post))) blank based' in
        let after = scalar_kept h own_home (length pre) t (pre ++ (Undefined ∷ post)) w lies before fit in (
          meant.kept t.store (Some own_home) w,
          ap (λ o. effect.store o w t) (home_is_own f.0),
          subst (λ l. Based h (record t { store = meant.kept t.store (Some own_home) w }) (pre ++ (l ++ post))) (sym f.3)
              (subst (Based h (record t { store = meant.kept t.store (Some own_home) w })) (set_middle pre Undefined cell post) after),
        )
    one_assigned (OfRow vs) pre first post t f long based' =
        let part = part_at f.0 (length pre) long in
        let components = components_of types v.type_id in
        let fit = subst (λ kinds. AllFit kinds vs) (sym (part_kinds h own_home v.type_id part.typed)) f.2 in
        let blank_long : length (map (blank_mark v) first) ≡ length (value_cells vs) = length-map first (blank_mark v) ∙ ap length f.3 in
        let after = row_kept h own_home components (length pre) vs t (pre ++ (map (blank_mark v) first ++ post)) part.from.each fit
        based' in (
          stored_all t.store own_home components vs,
          ap (λ o. effect.store_all o components vs t) (home_is_own f.0) ∙ store_all_is own_home components vs t,
          subst (λ l. Based h (record t { store = stored_all t.store own_home components vs }) (pre ++ (l ++ post))) (sym f.3)
              (subst (Based h (record t { store = stored_all t.store own_home components vs }))
              (set_row_middle pre (map (blank_mark v) first) (value_cells vs) post blank_long) after),
        )
    one_assigned (OfPlace None) pre first post t f long based' = absurd f
    one_assigned (OfPlace (Some p)) pre first post t f long based' =
        (t.store, refl, subst (λ l. Based h t (pre ++ (l ++ post))) (blank_first first f.1) based')

  abbrev Assigned : ℕ → List Variable → Type 0
  Assigned k vs =
      (given : List Argument) (cs pre : List Cell) (t : effect.State) → Laid g number vs given cs
      → length pre ≡ h.frame + 4 + cells_where types test (take k variables)
      → ((i : ℕ) (v : Variable) → slice_get vs i ≡ Some v → slice_get variables (k + i) ≡ Some v)
      → Based h t (pre ++ (marked g number blank_mark vs cs ++ unset))
      → (store : meant.Store) × (assign_all g.tree h.environment (roots_where test k vs) given t ≡ Gives tt (record t { store = store }))
      × Based h (record t { store = store }) (pre ++ (cs ++ unset))

  pub assigned : (k : ℕ) (vs : List Variable) → Assigned k vs
  assigned k [] given cs pre t l long there based' =
      (t.store, refl, subst (λ l. Based h t (pre ++ (l ++ unset))) (sym l.1) based')
  assigned k (v ∷ vs) given cs pre t l long there based' = by (assigned (suc k) vs) (test v) refl l
    where
      here : slice_get variables k ≡ Some v
      here = let z : k + 0 ≡ k = omega arith in ap (slice_get variables) (sym z) ∙ there 0 v refl

      next_there : (i : ℕ) (w : Variable) → slice_get vs i ≡ Some w → slice_get variables (suc k + i) ≡ Some w
      next_there i w at = let e : k + suc i ≡ suc k + i = omega arith in ap (slice_get variables) (sym e) ∙ there (suc i) w at

      by : Assigned (suc k) vs → (b : Bool) → test v ≡ b → Takes g number (test v) v given cs (Laid g number vs)
          → (store : meant.Store) × (assign_all g.tree h.environment (roots_where test k (v ∷ vs)) given t ≡ Gives tt (record t { store = store }))
          × Based h (record t { store = store }) (pre ++ (cs ++ unset))
      by recur true is l =
          let a = subst (λ b. Takes g number b v given cs (Laid g number vs)) is l in
          let post = marked g number blank_mark vs a.3 ++ unset in
          let shape : marked g number blank_mark (v ∷ vs) cs ≡ map (blank_mark v) a.2 ++ marked g number blank_mark vs a.3 =
          ap (λ b. marked_by g number blank_mark b v cs (marked g number blank_mark vs)) is
          ∙ ap (λ l'. marked_by g number blank_mark true v l' (marked g number blank_mark vs)) a.5
          ∙ marked_first g number blank_mark v (marked g number blank_mark vs) a.0 a.2 a.3 a.6 in
          let before = subst (λ l'. Based h t (pre ++ l')) (ap (λ l'. l' ++ unset) shape ∙ append_assoc (map (blank_mark v) a.2)
          (marked g number blank_mark vs a.3) unset)
          based' in
          let one = one_assigned k v here is a.0 pre a.2 post t a.6 long before in
          let further = where_next number types variables k v here in
          let slot : (if test v then slot_cells types v else 0) ≡ slot_cells types v = ap (λ b. if b then slot_cells types v else 0) is in
          let rest = recur a.1 a.3 (pre ++ a.2) (record t { store = one.0 }) a.7
          (omega (arith, long, further, slot, length-append pre a.2, fitted_length g number v a.0 a.2 a.6)) next_there
          (subst (Based h (record t { store = one.0 })) (sym (append_assoc pre a.2 post)) one.2) in
          let whole : (pre ++ a.2) ++ (a.3 ++ unset) ≡ pre ++ (cs ++ unset) =
          append_assoc pre a.2 (a.3 ++ unset) ∙ ap (λ l'. pre ++ l') (sym (append_assoc a.2 a.3 unset)) ∙ ap (λ l'. pre ++ (l' ++ unset)) (sym a.5) in (
            rest.0,
            ap (λ b. assign_all g.tree h.environment (if b then k ∷ roots_where test (suc k) vs else roots_where test (suc k) vs) given t) is
                ∙ ap (λ given'. assign_all g.tree h.environment (k ∷ roots_where test (suc k) vs) given' t) a.4
                ∙ ap (λ o. effect.and_then (assign types (h.environment.variables k) o a.0 t)
                (λ _. assign_all g.tree h.environment (roots_where test (suc k) vs) a.1))
                here
                ∙ ap (λ r. effect.and_then r (λ _. assign_all g.tree h.environment (roots_where test (suc k) vs) a.1)) one.1
                ∙ rest.1,
            subst (Based h (record t { store = rest.0 })) whole rest.2,
          )
      by recur false is l =
          let a = subst (λ b. Takes g number b v given cs (Laid g number vs)) is l in
          let shape : marked g number blank_mark (v ∷ vs) cs ≡ marked g number blank_mark vs cs =
          ap (λ b. marked_by g number blank_mark b v cs (marked g number blank_mark vs)) is in
          let further = where_next number types variables k v here in
          let slot : (if test v then slot_cells types v else 0) ≡ 0 = ap (λ b. if b then slot_cells types v else 0) is in
          let rest = recur given cs pre t a (omega (arith, long, further, slot)) next_there
          (subst (λ l'. Based h t (pre ++ (l' ++ unset))) shape based') in (
            rest.0,
            ap (λ b. assign_all g.tree h.environment (if b then k ∷ roots_where test (suc k) vs else roots_where test (suc k) vs) given t) is ∙ rest.1,
            rest.2,
          )
