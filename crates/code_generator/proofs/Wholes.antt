-- The code of a whole value leaves the row of its components on top, or stops as the value does; and a row of cells that is
-- stored from an address on is what the program writes to the components there.
use Rattle.code_generator.proofs.Words.{◌≡◌, ℕ, zero, suc, ◌+◌, ◌-◌, ◌<◌, ◌≤◌, ◌⊎◌, inl, inr, List, [], ◌∷◌, ◌++◌, length, map, take, drop, Option, Some, None}
use Rattle.code_generator.proofs.Words.{Ok, refl, sym, ap, ◌∙◌, subst, arith, length-append, append_assoc, append-nil, Bool, true, false, slice_get, slice_set}
use Rattle.code_generator.proofs.Words.{pos, nat_eq, nat_lt, ◌&&◌, ◌||◌, list_all, and_parts, eqb-true, ltb-true, length-map, all_hold, Instr, TypeId, Expr}
use Rattle.code_generator.proofs.Words.{is_well_formed_expr, option_and_then, ⊎_elim, false≢true}
use Rattle.code_generator.proofs.Words.{components_of, Form, cells_of, Value, Place, stored, UsesTurnsExactly, Gives, Action, ◌>>=◌}
use Rattle.code_generator.proofs.Words.{number_of, value_of, Cell, Number, State, row_length}
use Rattle.std.specs.Prelude.{is_some, nat_le}
use Rattle.std.proofs.lemmas.Bool.{leb-true}
use Rattle.std.proofs.lemmas.List.{length-set}
use Rattle.typed_tree.specs.declared.tree.Whole.{Whole}
use Rattle.typed_tree.specs.declared.tree.Whole.TheVariants.{Text, Variable as VariableOf}
use Rattle.typed_tree.specs.declared.tree.Scalar.{Scalar}
use Rattle.typed_tree.specs.declared.tree.Scalar.TheVariants as scalar
use Rattle.typed_tree.specs.Accesses.{origin_of}
use Rattle.typed_tree.specs.Kinds.{is_held_value}
use Rattle.typed_tree.specs.Records.{all_begin, begins as all_begins, is_there, value_begins}
use Rattle.code_generator.proofs.Texts.{is_text, value_compares}
use Rattle.typed_tree.specs.WellFormed.{is_character, is_value_of, is_well_formed_whole, leads_to_whole, is_alike, length_of, may_copy, source_of}
use Rattle.typed_tree.specs.WellFormed.{whole_indexes}
use Rattle.pcode_assembler.specs.declared.instr.Instr.TheVariants as instr
use Rattle.types.specs.Components.{Steps}
use Rattle.types.specs.Types.{have_one_length, is_same, is_string, is_structured, string_length}
use Rattle.meaning.specs.declared.outcome.Ending.TheVariants as ending
use Rattle.meaning.specs.declared.value.Value.TheVariants as value
use Rattle.meaning.specs.Store as meant
use Rattle.meaning.specs.Store.{written}
use Rattle.meaning.specs.Kinds.{type_at}
use Rattle.meaning.specs.Effect as effect
use Rattle.meaning.specs.Effect.{fetched, fetch_all, store_all}
use Rattle.meaning.specs.Meaning.{whole_of}
use Rattle.stack_machine.specs.Frames.{is_defined}
use Rattle.stack_machine.specs.Texts as texts
use Rattle.meaning.specs.Integers as integers
use Rattle.code_scheme.specs.Code.{address_code, whole_code}
use Rattle.code_scheme.specs.Depth.{whole_depth}
use Rattle.code_scheme.proofs.Depths.{address_takes_one}
use Rattle.code_generator.proofs.Accesses.{AreOrdinals, Indexes, expressions, codes, depths, PartAt, leads, begins, found as place_found, exact_found}
use Rattle.code_generator.proofs.Accesses.{address_runs}
use Rattle.code_generator.proofs.Accesses.{address_then}
use Rattle.code_generator.proofs.Acts.{framed}
use Rattle.code_generator.proofs.Addressing.{loads_many, all_defined, row_place_is, stores_at}
use Rattle.stack_machine.specs.Addresses.{store_many}
use Rattle.code_generator.proofs.Evaluating.{cell_defined, sites}
use Rattle.code_generator.proofs.Held.{pushes_number, scalar_kept}
use Rattle.code_generator.proofs.Reach.{Stands, StandsAt, Comes, comes_less, comes_on, stays_here}
use Rattle.code_generator.proofs.Setting.{Setting, outline, around, on, Based, linked, acts, passes, fails, entered}
use Rattle.code_generator.proofs.Alike.{LiesIn, alike_above}
use Rattle.code_generator.proofs.Scalars.{AllFit, HasFit, cell_of, fit_length, ordinal_fits, scalar_at, scalar_of, scalar_on, scalars_of, scalars_on}
use Rattle.code_generator.proofs.Scalars.{type_inside, value_cell}
use Rattle.code_generator.proofs.Strings.{AllOrdinal, AreNumbers, characters_ordinal, fit_numbers, numbers_fit, string_scalars}
use Rattle.code_generator.proofs.Numbers.{fits_by_abs}
use Rattle.code_generator.proofs.Parts.{inner}
use Rattle.code_generator.proofs.Rows.{cells_of as value_cells, numbers_of, same_byte}
use Rattle.code_generator.proofs.Running.{top_on, Aim, Arrives, Runs, runs_from, then_code}
use Rattle.code_generator.proofs.Lists.{set_front, take_drop, take_set, drop_set, row_at, length_one}

-- one of two tests holds
or_either : (a b : Bool) → (a || b) ≡ true → (a ≡ true) ⊎ (b ≡ true)
or_either true b e = inl refl
or_either false b e = inr e

-- the bytes of ordinals
pub fitting_bytes : (vs : List Value) → AreNumbers vs → map texts.byte_of (numbers_of vs) ≡ map (λ v. integers.byte_of (number_of v)) vs
fitting_bytes [] fit = refl
fitting_bytes (v ∷ vs) fit =
    ap (λ b. b ∷ map texts.byte_of (numbers_of vs)) (same_byte (number_of v) (ordinal_fits v fit.0))
    ∙ ap (λ bs. integers.byte_of (number_of v) ∷ bs) (fitting_bytes vs fit.1)

-- ---- rows in a list of cells

-- what a row of scalars gives, all of which are components of one place, of these kinds
module _ (store : meant.Store) (p : Place) (kind_of : Steps → Option Scalar) where
  abbrev pub cell_at : Steps → Cell
  cell_at steps = cell_of (stored store (inner p steps))

  -- all are defined
  pub record AreDefined (components : List Steps) (site : ℕ) : Type 0 where
    pub values : List Value
    pub gives : (s : effect.State) → s.store ≡ store → fetch_all (Some p) components site s ≡ Gives values s
    pub cells : map cell_at components ≡ value_cells values
    pub fit : AllFit (map kind_of components) values

  -- one is undefined
  pub record OneUndefined (components : List Steps) (site : ℕ) : Type 0 where
    pub stops : (s : effect.State) → s.store ≡ store → fetch_all (Some p) components site s ≡ effect.Stops (ending.Error site) s
    pub cells : list_all is_defined (map cell_at components) ≡ false

  abbrev pub Fetched : List Steps → ℕ → Type 0
  Fetched components site = AreDefined components site ⊎ OneUndefined components site

  module _ (steps : Steps) (components : List Steps) (site : ℕ) where
    -- the first component, by what it holds
    abbrev next : Value → Action (List Value)
    next v s = effect.and_then (fetch_all (Some p) components site s) (λ values. effect.give (v ∷ values))

    meant_by : (found : Option Value) → stored store (inner p steps) ≡ found → (s : effect.State) → s.store ≡ store
        → fetch_all (Some p) (steps ∷ components) site s ≡ effect.and_then (fetched found site s) next
    meant_by found is s same =
        ap (λ (t : meant.Store). effect.and_then (fetched (stored t (inner p steps)) site s) next) same
        ∙ ap (λ o. effect.and_then (fetched o site s) next) is

    first_fetched : (found : Option Value) → stored store (inner p steps) ≡ found → HasFit (kind_of steps) found → Fetched components site
        → Fetched (steps ∷ components) site
    first_fetched None is fit rest = inr (record {
      stops = λ s same. meant_by None is s same;
      cells = ap (λ o. list_all is_defined (cell_of o ∷ map cell_at components)) is;
    })
    first_fetched (Some v) is fit (inl rest) = inl (record {
      values = v ∷ rest.values;
      gives = λ s same. meant_by (Some v) is s same ∙ ap (λ r. effect.and_then r (λ values. effect.give (v ∷ values))) (rest.gives s same);
      cells = ap (λ o. cell_of o ∷ map cell_at components) is ∙ ap (λ l. value_cell v ∷ l) rest.cells;
      fit = (fit, rest.fit);
    })
    first_fetched (Some v) is fit (inr rest) = inr (record {
      stops = λ s same. meant_by (Some v) is s same ∙ ap (λ r. effect.and_then r (λ values. effect.give (v ∷ values))) (rest.stops s same);
      cells = ap (λ o. list_all is_defined (cell_of o ∷ map cell_at components)) is
          ∙ ap (λ b. b && list_all is_defined (map cell_at components)) (cell_defined v) ∙ rest.cells;
    })

  pub row_fetched : (components : List Steps) (site : ℕ)
      → ((k : ℕ) (steps : Steps) → slice_get components k ≡ Some steps → HasFit (kind_of steps) (stored store (inner p steps)))
      → Fetched components site
  row_fetched [] site fits = inl (record { values = []; gives = λ s same. refl; cells = refl; fit = tt })
  row_fetched (steps ∷ components) site fits =
      first_fetched steps components site (stored store (inner p steps)) refl (fits 0 steps refl)
      (row_fetched components site (λ k more at. fits (suc k) more at))

pub all_are_defined : (vs : List Value) → list_all is_defined (value_cells vs) ≡ true
all_are_defined [] = refl
all_are_defined (v ∷ vs) = ap (λ b. b && list_all is_defined (value_cells vs)) (cell_defined v) ∙ all_are_defined vs

-- ---- rows that are written

-- cells with a row from a place on
abbrev pub set_row : List Cell → ℕ → List Cell → List Cell
set_row cells d [] = cells
set_row cells d (c ∷ row) = set_row (slice_set cells d c) (d + 1) row

pub length-set_row : (cells : List Cell) (d : ℕ) (row : List Cell) → length (set_row cells d row) ≡ length cells
length-set_row cells d [] = refl
length-set_row cells d (c ∷ row) = length-set_row (slice_set cells d c) (d + 1) row ∙ length-set cells d c

-- a row in one piece
pub set_row_is : (cells : List Cell) (d : ℕ) (row : List Cell) → d + length row ≤ length cells
    → set_row cells d row ≡ (take d cells ++ row) ++ drop (d + length row) cells
set_row_is cells d [] h =
    let e : d ≡ d + 0 = omega arith in
    take_drop cells d ∙ ap (λ l. l ++ drop d cells) (sym (append-nil (take d cells))) ∙ ap (λ n. (take d cells ++ []) ++ drop n cells) e
set_row_is cells d (c ∷ row) h =
    let one : d + 1 ≡ suc d = omega arith in
    let set = slice_set cells d c in
    let long = length-set cells d c in
    let end : d + 1 + length row ≡ suc (d + length row) = omega arith in
    let end' : suc (d + length row) ≡ d + length (c ∷ row) = omega arith in
    set_row_is set (d + 1) row (omega arith)
    ∙ ap (λ n. (take n set ++ row) ++ drop (d + 1 + length row) set) one
    ∙ ap (λ n. (take (suc d) set ++ row) ++ drop n set) end
    ∙ ap (λ l. (l ++ row) ++ drop (suc (d + length row)) set) (take_set cells d c (omega arith))
    ∙ ap (λ l. ((take d cells ++ c ∷ []) ++ row) ++ l) (drop_set cells d (length row) c)
    ∙ ap (λ l. l ++ drop (suc (d + length row)) cells) (append_assoc (take d cells) (c ∷ []) row)
    ∙ ap (λ n. (take d cells ++ (c ∷ row)) ++ drop n cells) end'

-- a row that is set below others
pub set_row_front : (xs ys : List Cell) (d : ℕ) (row : List Cell) → d + length row ≤ length xs → set_row (xs ++ ys) d row ≡ set_row xs d row ++ ys
set_row_front xs ys d [] h = refl
set_row_front xs ys d (c ∷ row) h =
    let long = length-set xs d c in
    ap (λ cells. set_row cells (d + 1) row) (set_front xs ys d c (omega arith)) ∙ set_row_front (slice_set xs d c) ys (d + 1) row (omega arith)

-- a row and the address below it give way to the cells with that row
pub stores_many : (frame limit size : ℕ) (below : List Cell) (linked : frame + 4 ≤ length below) (new : List Cell) (n d : ℕ) → length new ≡ n
    → d + n ≤ length below
    → store_many n (framed frame limit size ((below ++ Number (pos d) ∷ []) ++ new)) ≡ Ok (framed frame limit size (set_row below d new))
stores_many frame limit size below linked [] zero d long h = stores_at frame limit size below linked [] zero d long 0 refl
stores_many frame limit size below linked (c ∷ new) zero d long h = absurd (omega arith)
stores_many frame limit size below linked new (suc more) d long h =
    stores_at frame limit size below linked new (suc more) d long d (row_place_is frame limit size below linked d more h)
    ∙ ap (λ cs. Ok (framed frame limit size cs)) (sym (set_row_is below d new (omega arith)))

-- the store after values were written to the components of a place
abbrev pub stored_all : meant.Store → Place → List Steps → List Value → meant.Store
stored_all store p [] vs = store
stored_all store p (steps ∷ components) [] = store
stored_all store p (steps ∷ components) (v ∷ vs) = stored_all (written store (inner p steps) v) p components vs

pub store_all_is : (p : Place) (components : List Steps) (vs : List Value) (s : effect.State)
    → store_all (Some p) components vs s ≡ Gives tt (record s { store = stored_all s.store p components vs })
store_all_is p [] vs s = refl
store_all_is p (steps ∷ components) [] s = refl
store_all_is p (steps ∷ components) (v ∷ vs) s = store_all_is p components vs (record s { store = written s.store (inner p steps) v })

module _ (g : Setting) where
  -- the kinds of components of a place
  abbrev pub kinds_at : Place → List Steps → List (Option Scalar)
  kinds_at p components = map (λ steps. scalar_at (outline g) (inner p steps)) components

  -- the components of a place get a row of values
  pub row_kept : (p : Place) (components : List Steps) (d : ℕ) (vs : List Value) (s : effect.State) (base : List Cell)
      → ((k : ℕ) (steps : Steps) → slice_get components k ≡ Some steps → LiesIn g.world (inner p steps) (d + k)) → AllFit (kinds_at p components) vs
      → Based g s base → Based g (record s { store = stored_all s.store p components vs }) (set_row base d (value_cells vs))
  row_kept p [] d [] s base each fit based = based
  row_kept p [] d (v ∷ vs) s base each fit based = absurd fit
  row_kept p (steps ∷ components) d [] s base each fit based = absurd fit
  row_kept p (steps ∷ components) d (v ∷ vs) s base each fit based =
      let here : d + 0 ≡ d = omega arith in
      let lies = subst (LiesIn g.world (inner p steps)) here (each 0 steps refl) in
      row_kept p components (d + 1) vs (record s { store = written s.store (inner p steps) v }) (slice_set base d (value_cell v))
      (λ k more at. let e : d + suc k ≡ d + 1 + k = omega arith in subst (LiesIn g.world (inner p more)) e (each (suc k) more at)) fit.1
      (scalar_kept g (inner p steps) d s base v lies based fit.0)

  -- those of the components of a part are those of its type
  same_kinds : (p : Place) (t : TypeId) (components : List Steps) → type_at (outline g) p ≡ Some t
      → kinds_at p components ≡ scalars_on g.tree.types t components
  same_kinds p t [] typed = refl
  same_kinds p t (steps ∷ components) typed =
      ap (λ o. option_and_then (scalar_of g.tree.types) o ∷ kinds_at p components) (type_inside (outline g) p t steps typed)
      ∙ ap (λ kinds. scalar_on g.tree.types t steps ∷ kinds) (same_kinds p t components typed)

  pub part_kinds : (p : Place) (t : TypeId) → type_at (outline g) p ≡ Some t → kinds_at p (components_of g.tree.types t) ≡ scalars_of g.tree.types t
  part_kinds p t typed = same_kinds p t (components_of g.tree.types t) typed

  -- ---- the code of a whole value

  -- the kinds of its components
  abbrev pub row_kinds : Whole → List (Option Scalar)
  row_kinds (Text number characters) = map (λ (c : ℕ). Some scalar.Ordinal) characters.items
  row_kinds (VariableOf access type_id cells defined) = scalars_of g.tree.types type_id

  abbrev pub row_on : List Cell → List (Option Scalar) → ℕ → Aim (List Value)
  row_on held kinds = top_on g (AllFit kinds) value_cells held

  abbrev pub Pushes : State → List Cell → ℕ → List (Option Scalar) → Action (List Value) → effect.State → Type 0
  Pushes m held place kinds action s = Runs g (row_on held kinds place) m action s

  -- a row that is there after some instructions
  pub pushes_row : (least : ℕ) (m : State) (base held : List Cell) (place : ℕ) (kinds : List (Option Scalar)) (vs : List Value) (s : effect.State)
      → Based g s base → Comes g.target least m (on g ((base ++ held) ++ value_cells vs) place s) → AllFit kinds vs
      → Arrives g (row_on held kinds place) s.turns m (Gives vs s)
  pushes_row least m base held place kinds vs s based l fit =
      ((base, based, fit), comes_less g.target (s.turns - s.turns + 0) least m _ (omega arith) l, omega arith)

  -- a row, and the code behind it
  pub row_then : {A : Type 0} (aim : ℕ → Aim A) (c c' : List Instr) (place : ℕ) (m : State) (held : List Cell) (kinds : List (Option Scalar))
      (first : Action (List Value)) (next : List Value → Action A) (s : effect.State) → UsesTurnsExactly first → Stands g.target place (c ++ c')
      → (Stands g.target place c → Pushes m held (place + length c) kinds first s)
      → ((base : List Cell) (vs : List Value) (u : effect.State) → Stands g.target (place + length c) c' → Based g u base → AllFit kinds vs
      → Runs g (aim (place + length c + length c')) (on g ((base ++ held) ++ value_cells vs) (place + length c) u) (next vs) u)
      → Runs g (aim (place + length (c ++ c'))) m (first >>= next) s
  row_then aim c c' place m held kinds first next s exact stands runs h =
      then_code g (row_on held kinds) aim c c' place m first next s exact stands runs (λ vs u x rest le. h x.0 vs u rest x.1 x.2)

  -- characters as values
  abbrev characters_of : List ℕ → List Value
  characters_of = map (λ c. value.Number (pos c))

  -- characters are pushed, the first one first
  pub characters_come : (characters : List ℕ) (place : ℕ) (cells : List Cell) (s : effect.State)
      → Stands g.target place (map (λ c. instr.LoadConstant (pos c)) characters) → length cells + length characters ≤ g.limit
      → Comes g.target 0 (on g cells place s) (on g (cells ++ value_cells (characters_of characters)) (place + length characters) s)
  characters_come [] place cells s stands room =
      let e : place ≡ place + 0 = omega arith in
      subst (λ p. Comes g.target 0 (on g cells place s) (on g (cells ++ []) p s)) e
      (subst (λ cs. Comes g.target 0 (on g cells place s) (on g cs place s)) (sym (append-nil cells)) (stays_here g.target _))
  characters_come (c ∷ characters) place cells s stands room =
      let one = cells ++ Number (pos c) ∷ [] in
      let long = length_one cells (Number (pos c)) in
      let rest = value_cells (characters_of characters) in
      let e : place + 1 + length characters ≡ place + length (c ∷ characters) = omega arith in
      let first = pushes_number g cells (pos c) place s stands.0 (omega arith) in
      let others = characters_come characters (place + 1) one s stands.1 (omega arith) in
      let all = comes_less g.target 0 (1 + 0) _ _ (omega arith) (comes_on g.target 1 0 _ _ _ first others) in
      subst (λ cs. Comes g.target 0 (on g cells place s) (on g cs (place + length (c ∷ characters)) s))
      (append_assoc cells (Number (pos c) ∷ []) rest)
      (subst (λ p. Comes g.target 0 (on g cells place s) (on g (one ++ rest) p s)) e all)

  characters_fit : (characters : List ℕ) → list_all is_character characters ≡ true
      → AllFit (map (λ (c : ℕ). Some scalar.Ordinal) characters) (characters_of characters)
  characters_fit [] well = tt
  characters_fit (c ∷ characters) well =
      let parts = and_parts (is_character c) (list_all is_character characters) well in
      let low = ltb-true c 128 parts.0 in
      (fits_by_abs (pos c) (omega arith), characters_fit characters parts.1)

  -- what is known of the type of a whole value
  pub same_type : (t type_id : TypeId) → is_same t type_id ≡ true → t ≡ type_id
  same_type t type_id e = ap (λ n. record { index = n }) (eqb-true t.index type_id.index e)

  -- the types of a whole value of a type: that one, if it is structured
  abbrev pub is_whole_type : TypeId → TypeId → Bool
  is_whole_type type_id id = is_same id type_id && is_structured g.tree.types id

  pub wanted_type : (t type_id : TypeId) → is_whole_type type_id t ≡ true → t ≡ type_id
  wanted_type t type_id e = same_type t type_id (and_parts (is_same t type_id) (is_structured g.tree.types t) e).0

  -- what may be copied to a type has as many cells
  pub copied_cells : (target : TypeId) (source : Option TypeId) (cells : ℕ) → may_copy (outline g) g.number target source cells ≡ true
      → cells_of g.tree.types target ≡ cells
  copied_cells target source cells e =
      let as_many = nat_eq (cells_of g.tree.types target) cells in
      let alike = is_alike g.tree.types target source cells in
      let sized = and_parts (is_structured g.tree.types target) (as_many && alike) e in
      eqb-true (cells_of g.tree.types target) cells (and_parts as_many alike sized.1).0

  -- the cells from the address of a part on, and their check
  checked_row : (p : Place) (type_id : TypeId) (count d defined place : ℕ) (base held : List Cell) (s : effect.State)
      → Fetched s.store p (scalar_on g.tree.types type_id) (components_of g.tree.types type_id) defined
      → StandsAt g.target place (instr.CheckDefined defined count) (g.target.is_open defined) → defined < sites g
      → length (components_of g.tree.types type_id) ≡ count → Based g s base
      → Pushes (on g ((base ++ held) ++ map (cell_at s.store p (scalar_on g.tree.types type_id)) (components_of g.tree.types type_id)) place s) held (place + 1)
      (scalars_of g.tree.types type_id)
      (fetch_all (Some p) (components_of g.tree.types type_id) defined) s
  checked_row p type_id count d defined place base held s (inl all) stands within long based =
      let components = components_of g.tree.types type_id in
      let cells = base ++ held in
      let row = map (cell_at s.store p (scalar_on g.tree.types type_id)) components in
      let as_long : length row ≡ count = length-map components (cell_at s.store p (scalar_on g.tree.types type_id)) ∙ long in
      let defined_all : list_all is_defined row ≡ true = ap (list_all is_defined) all.cells ∙ all_are_defined all.values in
      let passed = passes g (instr.CheckDefined defined count) (cells ++ row) place defined s _ refl refl stands
      (all_defined g.frame g.limit g.size cells (linked g s base held based) row count as_long ∙ ap Ok defined_all) in
      inr (subst (Arrives g (row_on held (scalars_of g.tree.types type_id) (place + 1)) s.turns (on g (cells ++ row) place s)) (sym (all.gives s refl))
      (pushes_row 0 _ base held (place + 1) (scalars_of g.tree.types type_id) all.values s based
      (subst (λ cs. Comes g.target 0 (on g (cells ++ row) place s) (on g (cells ++ cs) (place + 1) s)) all.cells passed) all.fit))
  checked_row p type_id count d defined place base held s (inr one) stands within long based =
      let components = components_of g.tree.types type_id in
      let cells = base ++ held in
      let row = map (cell_at s.store p (scalar_on g.tree.types type_id)) components in
      let as_long : length row ≡ count = length-map components (cell_at s.store p (scalar_on g.tree.types type_id)) ∙ long in
      inr (subst (Arrives g (row_on held (scalars_of g.tree.types type_id) (place + 1)) s.turns (on g (cells ++ row) place s)) (sym (one.stops s refl))
      (fails g (instr.CheckDefined defined count) (cells ++ row) place defined s _ refl refl s.turns stands within
      (all_defined g.frame g.limit g.size cells (linked g s base held based) row count as_long ∙ ap Ok one.cells)))

  -- an address gives way to the row there, which is checked
  loaded_row : (p : Place) (type_id : TypeId) (count d defined place : ℕ) (base held : List Cell) (s : effect.State) → PartAt g p type_id d
      → Stands g.target place (instr.LoadMany count ∷ instr.CheckDefined defined count ∷ []) → defined < sites g → cells_of g.tree.types type_id ≡ count
      → Based g s base → g.below + length held + count ≤ g.limit
      → Pushes (on g ((base ++ held) ++ Number (pos d) ∷ []) place s) held (place + 1 + 1) (scalars_of g.tree.types type_id)
      (fetch_all (Some p) (components_of g.tree.types type_id) defined) s
  loaded_row p type_id count d defined place base held s part stands within many based deep =
      let components = components_of g.tree.types type_id in
      let cells = base ++ held in
      let above = alike_above (outline g) g.world s.store base held based.alike in
      let fits : (k : ℕ) (steps : Steps) → slice_get components k ≡ Some steps
      → HasFit (scalar_on g.tree.types type_id steps) (stored s.store (inner p steps)) =
      λ k steps at. subst (λ o. HasFit (option_and_then (scalar_of g.tree.types) o) (stored s.store (inner p steps)))
      (type_inside (outline g) p type_id steps part.typed) (above.fits (inner p steps) (d + k) (part.from.each k steps at)) in
      let all : length components ≡ count = g.known.cells g.tree.types type_id ∙ many in
      let row : take count (drop d cells) ≡ map (cell_at s.store p (scalar_on g.tree.types type_id)) components =
      ap (λ n. take n (drop d cells)) (sym all) ∙ row_at (cell_at s.store p (scalar_on g.tree.types type_id)) components cells d
      (λ k steps at. above.scalars (inner p steps) (d + k) (part.from.each k steps at)) in
      let full = based.full in
      let long = length-append base held in
      let inside = part.within in
      let loaded = acts g (instr.LoadMany count) (cells ++ Number (pos d) ∷ []) (cells ++ take count (drop d cells)) place s _ stands.0 refl
      (loads_many g.frame g.limit g.size cells (linked g s base held based) count d (omega arith) (omega arith)) in
      let there = subst (λ cs. Comes g.target 1 (on g (cells ++ Number (pos d) ∷ []) place s) (on g (cells ++ cs) (place + 1) s)) row loaded in
      runs_from g (row_on held (scalars_of g.tree.types type_id) (place + 1 + 1)) 1 _ _ (fetch_all (Some p) components defined) s there
      (checked_row p type_id count d defined (place + 1) base held s
      (row_fetched s.store p (scalar_on g.tree.types type_id) components defined fits) stands.1.0 within all based)

  -- a row is no longer than the longest
  pub few_components : (v : Whole) (indexes : ℕ) → is_well_formed_whole (outline g) g.number v indexes ≡ true
      → length_of v ≡ row_length (length_of v)
  few_components (Text number characters) indexes well =
      let few = leb-true (length characters.items) 65536
      (and_parts (nat_le (length characters.items) 65536) (list_all is_character characters.items) well).0 in
      omega arith
  few_components (VariableOf access type_id cells defined) indexes well =
      let parts = and_parts (leads_to_whole (outline g) g.number type_id (origin_of access) access.selectors.items indexes)
      (is_value_of (outline g) g.number type_id cells && nat_lt defined (sites g)) well in
      let parts' = and_parts (is_value_of (outline g) g.number type_id cells) (nat_lt defined (sites g)) parts.1 in
      let few = leb-true cells 65536 (and_parts (nat_eq cells (cells_of g.tree.types type_id)) (nat_le cells 65536) parts'.0).1 in
      omega arith

  -- it has as many components as are told
  pub row_long : (v : Whole) (indexes : ℕ) → is_well_formed_whole (outline g) g.number v indexes ≡ true → length (row_kinds v) ≡ length_of v
  row_long (Text number characters) indexes well = length-map characters.items (λ (c : ℕ). Some scalar.Ordinal)
  row_long (VariableOf access type_id cells defined) indexes well =
      let parts = and_parts (leads_to_whole (outline g) g.number type_id (origin_of access) access.selectors.items indexes)
      (is_value_of (outline g) g.number type_id cells && nat_lt defined (sites g)) well in
      let parts' = and_parts (is_value_of (outline g) g.number type_id cells) (nat_lt defined (sites g)) parts.1 in
      let many = eqb-true cells (cells_of g.tree.types type_id) (and_parts (nat_eq cells (cells_of g.tree.types type_id)) (nat_le cells 65536) parts'.0).0 in
      length-map (components_of g.tree.types type_id) (scalar_on g.tree.types type_id) ∙ g.known.cells g.tree.types type_id ∙ sym many

  -- those of a string are ordinals
  pub text_ordinal : (v : Whole) → is_text g.tree.types v ≡ true → AllOrdinal (row_kinds v)
  text_ordinal (Text number characters) text = characters_ordinal characters.items
  text_ordinal (VariableOf access type_id cells defined) text = string_scalars g.tree.types g.well.required type_id text

  pub text_numbers : (v : Whole) (vs : List Value) → is_text g.tree.types v ≡ true → AllFit (row_kinds v) vs → AreNumbers vs
  text_numbers v vs text fit = fit_numbers (row_kinds v) vs (text_ordinal v text) fit

  -- what may be copied to a type is of its kinds
  pub copied_fit : (target : TypeId) (v : Whole) (indexes : ℕ) (vs : List Value) → is_well_formed_whole (outline g) g.number v indexes ≡ true
      → may_copy (outline g) g.number target (source_of v) (length_of v) ≡ true → AllFit (row_kinds v) vs → AllFit (scalars_of g.tree.types target) vs
  copied_fit target v indexes vs well may fit =
      let as_many = nat_eq (cells_of g.tree.types target) (length_of v) in
      let alike = is_alike g.tree.types target (source_of v) (length_of v) in
      let same = (and_parts as_many alike (and_parts (is_structured g.tree.types target) (as_many && alike) may).1).1 in
      by v same fit (fit_length (row_kinds v) vs fit ∙ row_long v indexes well ∙ sym (copied_cells target (source_of v) (length_of v) may)
      ∙ sym (g.known.cells g.tree.types target) ∙ sym (length-map (components_of g.tree.types target) (scalar_on g.tree.types target)))
    where
      is_some_of : {A : Type 0} (o : Option A) (x : A) → o ≡ Some x → is_some o ≡ true
      is_some_of o x e = ap is_some e

      strings_fit : (own other : Option ℕ) (kinds : List (Option Scalar)) → string_length g.tree.types target ≡ own → have_one_length own other ≡ true
          → AllOrdinal kinds → AllFit kinds vs → length vs ≡ length (scalars_of g.tree.types target) → AllFit (scalars_of g.tree.types target) vs
      strings_fit (Some n) (Some m) kinds is same ordinal fit long =
          numbers_fit (scalars_of g.tree.types target) vs (string_scalars g.tree.types g.well.required target (ap is_some is)) long
          (fit_numbers kinds vs ordinal fit)
      strings_fit (Some n) None kinds is same ordinal fit long = absurd (false≢true same)
      strings_fit None other kinds is same ordinal fit long = absurd (false≢true same)

      a_string : (own other : Option ℕ) (t : TypeId) → string_length g.tree.types t ≡ other → have_one_length own other ≡ true → is_string g.tree.types t ≡ true
      a_string (Some n) (Some m) t is same = ap is_some is
      a_string (Some n) None t is same = absurd (false≢true same)
      a_string None other t is same = absurd (false≢true same)

      by : (v : Whole) → is_alike g.tree.types target (source_of v) (length_of v) ≡ true → AllFit (row_kinds v) vs
          → length vs ≡ length (scalars_of g.tree.types target) → AllFit (scalars_of g.tree.types target) vs
      by (Text number characters) same fit long =
          strings_fit (string_length g.tree.types target) (Some (length characters.items)) (map (λ (c : ℕ). Some scalar.Ordinal) characters.items) refl
          same (characters_ordinal characters.items) fit long
      by (VariableOf access type_id cells defined) same fit long =
          ⊎_elim
          (λ (one : is_same target type_id ≡ true).
          subst (λ t. AllFit (scalars_of g.tree.types t) vs) (sym (same_type target type_id one)) fit)
          (λ (strings : have_one_length (string_length g.tree.types target) (string_length g.tree.types type_id) ≡ true).
          strings_fit (string_length g.tree.types target) (string_length g.tree.types type_id) (scalars_of g.tree.types type_id) refl strings
          (string_scalars g.tree.types g.well.required type_id
          (a_string (string_length g.tree.types target) (string_length g.tree.types type_id) type_id refl strings)) fit long)
          (or_either (is_same target type_id) (have_one_length (string_length g.tree.types target) (string_length g.tree.types type_id)) same)

  -- a whole value with these index expressions is in order
  abbrev pub IsInOrder : Whole → List Expr → Type 0
  IsInOrder v es =
      (all_hold (whole_indexes v (map (is_well_formed_expr (outline g) g.number) es)) ≡ true)
      × (is_well_formed_whole (outline g) g.number v (length es) ≡ true) × (is_held_value v es ≡ true) × (value_begins v es g.opened ≡ true)
      × (value_compares g.tree.types v es ≡ true)

  -- the code of a whole value pushes its components
  pub whole_runs : (v : Whole) (indexes : Indexes g) (place : ℕ) (base held : List Cell) (s : effect.State)
      → Stands g.target place (whole_code g.scope v (codes g indexes))
      → IsInOrder v (expressions g indexes) → Based g s base → g.below + length held + whole_depth v (depths g indexes) ≤ g.limit
      → Pushes (on g (base ++ held) place s) held (place + length (whole_code g.scope v (codes g indexes))) (row_kinds v)
      (whole_of v (map value_of (expressions g indexes)) (around g)) s
  whole_runs (Text number characters) indexes place base held s stands good based deep =
      let well = good.1 in
      let kinds = map (λ (c : ℕ). Some scalar.Ordinal) characters.items in
      let codes_long = length-map characters.items (λ x. instr.LoadConstant (pos x)) in
      let e : place + length characters.items ≡ place + length (map (λ x. instr.LoadConstant (pos x)) characters.items) = omega arith in
      let full = based.full in
      let pushed = characters_come characters.items place (base ++ held) s stands (omega (arith, length-append base held)) in
      let vs = characters_of characters.items in
      subst (λ q. Pushes (on g (base ++ held) place s) held q kinds (effect.give vs) (entered g number s)) e
      (inr (pushes_row 0 _ base held (place + length characters.items) kinds vs (entered g number s)
      based pushed
      (characters_fit characters.items (and_parts (nat_le (length characters.items) 65536) (list_all is_character characters.items) well).1)))
  whole_runs (VariableOf access type_id cells defined) indexes place base held s stands order based deep =
      let kinds = scalars_of g.tree.types type_id in
      let begun = and_parts (all_begin (map all_begins (expressions g indexes)) g.opened) (is_there g.opened (origin_of access)) order.3 in
      let good : AreOrdinals g (expressions g indexes) = (order.0, order.2, begun.0, order.4) in
      let parts = and_parts (leads_to_whole (outline g) g.number type_id (origin_of access) access.selectors.items
      (length (expressions g indexes))) (is_value_of (outline g) g.number type_id cells && nat_lt defined (sites g)) order.1 in
      let parts' = and_parts (is_value_of (outline g) g.number type_id cells) (nat_lt defined (sites g)) parts.1 in
      let sizes = and_parts (nat_eq cells (cells_of g.tree.types type_id)) (nat_le cells 65536) parts'.0 in
      let many : cells ≡ cells_of g.tree.types type_id = eqb-true cells (cells_of g.tree.types type_id) sizes.0 in
      let few = leb-true cells 65536 sizes.1 in
      let same : row_length cells ≡ cells = omega arith in
      let more = address_takes_one access.selectors.items (depths g indexes) in
      let led_to = leads g (is_whole_type type_id) (origin_of access) access.selectors.items (length (expressions g indexes)) parts.0 in
      let its = wanted_type led_to.last type_id led_to.is_wanted in
      let start = begins g access (is_whole_type type_id) (length (expressions g indexes)) (codes g indexes) led_to begun.1 in
      let counts = led_to.counts in
      let c = address_code g.scope access (codes g indexes) in
      let load = instr.LoadMany (row_length cells) ∷ instr.CheckDefined defined (row_length cells) ∷ [] in
      let next : List Form → Option Place → Action (List Value) = λ types q. fetch_all q (components_of types type_id) defined in
      let from = place_found g access indexes led_to.last start good counts in
      subst (λ action. Pushes (on g (base ++ held) place s) held (place + length (c ++ load)) kinds (action >>= next g.environment.types) s)
      (sym (start.meant (map value_of (expressions g indexes))))
      (subst (λ types. Pushes (on g (base ++ held) place s) held (place + length (c ++ load)) kinds (from >>= next types) (entered g access.number s))
      (sym g.types_are)
      (address_then g (row_on held kinds) c load place _ held led_to.last from (next g.tree.types) (entered g access.number s)
      (exact_found g access indexes led_to.last start good counts) stands
      (λ front. address_runs g access indexes led_to.last start good counts place base held (entered g access.number s) front based (omega arith))
      (λ base2 d p s2 rest based2 part2 room2.
      let there = place + length c in
      let e : there + 1 + 1 ≡ there + 2 = omega arith in
      subst (λ q. Pushes (on g ((base2 ++ held) ++ Number (pos d) ∷ []) there s2) held q kinds (next g.tree.types (Some p)) s2) e
      (loaded_row p type_id cells d defined there base2 held s2 (subst (λ t. PartAt g p t d) its part2)
      (subst (λ n. Stands g.target there (instr.LoadMany n ∷ instr.CheckDefined defined n ∷ [])) same rest)
      (ltb-true defined (sites g) parts'.1) (sym many) based2 (omega arith)))))
