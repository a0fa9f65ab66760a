-- The control variables of the for statements in a program are ones of ordinal types, so none of them has rows of components.
use Rattle.std.proofs.Common.{arith, ◌≡◌, ⊎_elim, ◌∙◌, sym, ap, subst, ℕ, ◌+◌, Bool, true, ◌&&◌, nat_eq, nat_lt, List, [], ◌∷◌, ◌++◌, length, map}
use Rattle.std.proofs.Common.{Option, Some, None}
use Rattle.std.specs.Prelude.{flat_map, is_some, option_map, slice_get, slice_index_or}
use Rattle.std.specs.List.{list_all}
use Rattle.std.specs.Option.{option_and_then}
use Rattle.std.proofs.lemmas.Bool.{and_parts, eqb-true, false≢true, false_from_ne_true, or_cases}
use Rattle.std.proofs.lemmas.List.Folds.{list_any-append}
use Rattle.types.specs.Forms.{Form}
use Rattle.types.specs.Forms.{Array, Record}
use Rattle.types.specs.Types.{form_kind, form_range, is_ordinal, is_structured_kind}
use Rattle.typed_tree.specs.Accesses.{AtVariable, is_type, led}
use Rattle.typed_tree.specs.Loops.{AreLoops, Inside, IsLoop, LoopControls, all_inside, inside_of, statement_inside}
use Rattle.typed_tree.specs.WellFormed.{all_hold, are_whole, is_control, is_declared, is_local_kind, is_visible, is_well_formed_expr, is_well_formed_stmt}
use Rattle.typed_tree.specs.WellFormed.{fits_target, is_well_formed_record, leads_to_ordinal, of_one, outline_of, stmt_is_well_formed}
use Rattle.typed_tree.specs.declared.tree.Expr.{Expr}
use Rattle.typed_tree.specs.declared.tree.Loop.{Loop}
use Rattle.typed_tree.specs.declared.tree.RangeTest.{RangeTest}
use Rattle.typed_tree.specs.declared.tree.Stmt.{Stmt}
use Rattle.typed_tree.specs.declared.tree.Stmt.TheOpen.{Stmt-F}
use Rattle.typed_tree.specs.declared.tree.Stmt.TheOpen.Stmt-F.{Empty, Assign, Copy, Write, Call, Compound, If, While, Repeat, For, Case, With, Read}
use Rattle.typed_tree.specs.declared.tree.Stmt.TheViews.{roll-Stmt}
use Rattle.typed_tree.specs.declared.tree.Stmt.TheFolds.{map-Stmt, fold-roll-Stmt, ind-Stmt}
use Rattle.typed_tree.specs.declared.tree.Tree.{Tree}
use Rattle.typed_tree.specs.declared.tree.Variable.{Variable}
use Rattle.checker_state.specs.Loops.{is_among}
use Rattle.checker_rows.specs.Rows.{Parts, all_parts, is_ordinal_variable, no_parts}
use Rattle.checker_rows.proofs.Accessed.{IsLeafRow, row-is}
use Rattle.checker_state.specs.Knows.{AreEntire}
use Rattle.checker_loops.specs.Loops.{controls_inside, controls_of, has_control, is_for_statement}
use Rattle.checker_calls.proofs.Headings.{one-there}
use Rattle.checker_expressions.proofs.SoundAccesses.{leads-seen, leads-type}

-- ---- the loops of parts

pub loops-parts : (rows : List Loop) (block : ℕ) (first second : List (ℕ × LoopControls)) → AreLoops rows block (first ++ second)
    → AreLoops rows block first × AreLoops rows block second
loops-parts rows block [] second are = (tt, are)
loops-parts rows block (one ∷ first) second are = let parts = loops-parts rows block first second are.1 in ((are.0, parts.0), parts.1)

-- ---- control variables

abbrev pub AreOrdinal : Tree → List ℕ → Type 0
AreOrdinal tree controls = (root : ℕ) → is_among root controls ≡ true → is_ordinal_variable tree root ≡ true

none-ordinal : (tree : Tree) → AreOrdinal tree []
none-ordinal tree root among = absurd (false≢true among)

pub one-ordinal : (tree : Tree) (control : ℕ) (controls : List ℕ) → is_ordinal_variable tree control ≡ true → AreOrdinal tree controls
    → AreOrdinal tree (control ∷ controls)
one-ordinal tree control controls one others root among =
    ⊎_elim (λ same. subst (λ (r : ℕ). is_ordinal_variable tree r ≡ true) (eqb-true control root same) one) (λ later. others root later)
    (or_cases (nat_eq control root) (is_among root controls) among)

both-ordinal : (tree : Tree) (first second : List ℕ) → AreOrdinal tree first → AreOrdinal tree second → AreOrdinal tree (first ++ second)
both-ordinal tree first second one other root among =
    ⊎_elim (λ here. one root here) (λ there. other root there)
    (or_cases (is_among root first) (is_among root second) (sym (list_any-append (λ (x : ℕ). nat_eq x root) first second) ∙ among))

-- ---- those of statements

pub ordinal-of : (types : List Form) (found : Option Variable)
    → is_type (is_ordinal types) (option_and_then (λ variable. led types [] variable.type_id) found) ≡ true
    → of_one (λ (variable : Variable). is_ordinal types variable.type_id) found ≡ true
ordinal-of types None is = absurd (false≢true is)
ordinal-of types (Some variable) is = is

-- the control variable of a well formed for statement
pub control-ordinal : (tree : Tree) (block control : ℕ) → is_control (outline_of tree) block control ≡ true → is_ordinal_variable tree control ≡ true
control-ordinal tree block control is =
    let leads = (and_parts (is_declared (outline_of tree) block is_local_kind control) (leads_to_ordinal (outline_of tree) block (AtVariable control) [] 0)
    is).1 in
    ordinal-of tree.types (slice_get tree.variables.items control)
    (leads-type (outline_of tree) block (is_ordinal tree.types) (AtVariable control) [] 0 leads)

-- it is one of the block's own
pub control-declared : (tree : Tree) (block control : ℕ) → is_control (outline_of tree) block control ≡ true
    → (variable : Variable) × (slice_get tree.variables.items control ≡ Some variable) × (variable.block ≡ block)
control-declared tree block control is =
    let local = (and_parts (is_declared (outline_of tree) block is_local_kind control) (leads_to_ordinal (outline_of tree) block (AtVariable control) [] 0)
    is).0 in
    let own = one-there (λ (v : Variable). nat_eq v.block block && is_local_kind v.kind) (slice_get tree.variables.items control) local in
    (own.0, own.1, eqb-true own.0.block block (and_parts (nat_eq own.0.block block) (is_local_kind own.0.kind) own.2).0)

-- and it is visible in the block
pub control-seen : (tree : Tree) (block control : ℕ) → is_control (outline_of tree) block control ≡ true → is_visible (outline_of tree) block control ≡ true
control-seen tree block control is =
    let leads = (and_parts (is_declared (outline_of tree) block is_local_kind control) (leads_to_ordinal (outline_of tree) block (AtVariable control) [] 0)
    is).1 in
    leads-seen (outline_of tree) block (is_ordinal tree.types) (AtVariable control) [] 0 leads

module _ (tree : Tree) (block : ℕ) where
  abbrev well_expr : Expr → Bool
  well_expr = is_well_formed_expr (outline_of tree) block

  abbrev well_stmt : Stmt → Bool
  well_stmt = is_well_formed_stmt (outline_of tree) block

  abbrev HasOrdinals : Bool → Inside → Type 0
  HasOrdinals well inside = well ≡ true → AreOrdinal tree inside.controls

  abbrev StatementHas : Stmt → Type 0
  StatementHas s = HasOrdinals (well_stmt s) (inside_of s)

  abbrev Proved : Type 0
  Proved = (s : Stmt) × StatementHas s

  all-proved : (statements : List Proved) → all_hold (map well_stmt (map (λ s. s.0) statements)) ≡ true
      → AreOrdinal tree (flat_map (λ part. part.controls) (map inside_of (map (λ s. s.0) statements)))
  all-proved [] well = none-ordinal tree
  all-proved (statement ∷ statements) well =
      let later = map (λ (s : Proved). s.0) statements in
      let parts = and_parts (well_stmt statement.0) (all_hold (map well_stmt later)) well in
      both-ordinal tree (inside_of statement.0).controls (flat_map (λ (part : Inside). part.controls) (map inside_of later)) (statement.1 parts.0)
      (all-proved statements parts.1)

  abbrev Layer : Stmt-F Stmt → Type 0
  Layer x =
      HasOrdinals (stmt_is_well_formed (outline_of tree) block (map-Stmt Stmt Bool well_stmt x))
      (statement_inside (map-Stmt Stmt Inside inside_of x))

  layer : (y : Stmt-F Proved) → Layer (map-Stmt Proved Stmt (λ s. s.0) y)
  layer (Empty number) well = none-ordinal tree
  layer (Assign assignment) well = none-ordinal tree
  layer (Copy copying) well = none-ordinal tree
  layer (Write writing) well = none-ordinal tree
  layer (Read reading) well = none-ordinal tree
  layer (Call calling) well = none-ordinal tree
  layer (Compound number statements) well = all-proved statements.items well
  layer (If number condition consequence None) well =
      let parts = and_parts (well_expr condition) (well_stmt consequence.value.0 && true) well in
      let each = and_parts (well_stmt consequence.value.0) true parts.1 in
      both-ordinal tree (inside_of consequence.value.0).controls [] (consequence.value.1 each.0) (none-ordinal tree)
  layer (If number condition consequence (Some alternative)) well =
      let parts = and_parts (well_expr condition) (well_stmt consequence.value.0 && well_stmt alternative.value.0) well in
      let each = and_parts (well_stmt consequence.value.0) (well_stmt alternative.value.0) parts.1 in
      both-ordinal tree (inside_of consequence.value.0).controls (inside_of alternative.value.0).controls (consequence.value.1 each.0)
      (alternative.value.1 each.1)
  layer (While head body) well = body.value.1 (and_parts (well_expr head.condition) (well_stmt body.value.0) well).1
  layer (Repeat head statements) well =
      all-proved statements.items
      (and_parts (all_hold (map well_stmt (map (λ (s : Proved). s.0) statements.items))) (well_expr head.condition) well).0
  layer (For head body) well =
      let is_test = λ (fits : RangeTest). fits_target (outline_of tree) block fits (AtVariable head.control) [] in
      let one = and_parts (is_control (outline_of tree) block head.control)
      (well_expr head.first.value && (is_test head.first.fits && (well_expr head.last.value && (is_test head.last.fits && well_stmt body.value.0)))) well in
      let two = and_parts (well_expr head.first.value)
      (is_test head.first.fits && (well_expr head.last.value && (is_test head.last.fits && well_stmt body.value.0))) one.1 in
      let three = and_parts (is_test head.first.fits) (well_expr head.last.value && (is_test head.last.fits && well_stmt body.value.0)) two.1 in
      let four = and_parts (well_expr head.last.value) (is_test head.last.fits && well_stmt body.value.0) three.1 in
      let five = and_parts (is_test head.last.fits) (well_stmt body.value.0) four.1 in
      one-ordinal tree head.control (inside_of body.value.0).controls (control-ordinal tree block head.control one.0) (body.value.1 five.1)
  layer (Case head arms) well =
      let inner = map (λ (s : Proved). s.0) arms.items in
      let one = and_parts (nat_lt head.site (length tree.sites.items))
      (well_expr head.index && (list_all are_whole head.constants.items && all_hold (map well_stmt inner))) well in
      let two = and_parts (well_expr head.index) (list_all are_whole head.constants.items && all_hold (map well_stmt inner)) one.1 in
      all-proved arms.items (and_parts (list_all are_whole head.constants.items) (all_hold (map well_stmt inner)) two.1).1
  layer (With head body) well =
      body.value.1
      (and_parts (all_hold (map (is_well_formed_record (outline_of tree) block) head.records.items)) (well_stmt body.value.0) well).1

  along : {a b : Bool} {inside other : Inside} → a ≡ b → inside ≡ other → HasOrdinals b other → HasOrdinals a inside
  along {a} {b} {inside} {other} zero one has =
      subst (λ (w : Bool). HasOrdinals w inside) (sym zero) (subst (λ (i : Inside). HasOrdinals b i) (sym one) has)

  rolled : (x : Stmt-F Stmt) → Layer x → StatementHas (roll-Stmt x)
  rolled x = along (fold-roll-Stmt Bool (stmt_is_well_formed (outline_of tree) block) x) (fold-roll-Stmt Inside statement_inside x)

  pub controls-ordinal : (s : Stmt) → StatementHas s
  controls-ordinal =
      ind-Stmt StatementHas (λ x y is. subst (λ (z : Stmt-F Stmt). StatementHas (roll-Stmt z)) is (rolled (map-Stmt Proved Stmt (λ s. s.0) y) (layer y)))

  -- those of several statements
  pub all-ordinal : (statements : List Stmt) → all_hold (map well_stmt statements) ≡ true
      → AreOrdinal tree (all_inside (map inside_of statements)).controls
  all-ordinal [] well = none-ordinal tree
  all-ordinal (statement ∷ statements) well =
      let parts = and_parts (well_stmt statement) (all_hold (map well_stmt statements)) well in
      both-ordinal tree (inside_of statement).controls (all_inside (map inside_of statements)).controls (controls-ordinal statement parts.0)
      (all-ordinal statements parts.1)

-- ---- they have no rows

ordinal-scalar : (form : Option Form) → is_some (option_and_then form_range form) ≡ true → is_structured_kind (option_map form_kind form) ≡ true → ⊥
ordinal-scalar (Some (Array packed index element)) is structured = false≢true is
ordinal-scalar (Some (Record packed fields)) is structured = false≢true is
ordinal-scalar form is structured = false≢true structured

pub ordinal-entire : (tree : Tree) (controls : List ℕ) → AreOrdinal tree controls → AreEntire (all_parts tree) (length tree.variables.items) controls
ordinal-entire tree controls ordinal row steps behind of_row =
    false_from_ne_true (is_among (slice_index_or (all_parts tree) row no_parts).root controls) (λ among.
    ⊎_elim (λ own. let within = own.within in omega (arith, behind, within)) (λ is. of-leaf is among) (row-is tree row steps of_row))
  where
    of-leaf : IsLeafRow tree row steps → is_among (slice_index_or (all_parts tree) row no_parts).root controls ≡ true → ⊥
    of-leaf is among =
        let leaf = is.leaf in
        let zero_root : 0 + leaf.root ≡ leaf.root = omega arith in
        let root : (slice_index_or (all_parts tree) row no_parts).root ≡ leaf.root =
        ap (λ (p : Parts). p.root) is.parts_are ∙ leaf.root_is ∙ zero_root in
        let of_type : of_one (λ (variable : Variable). is_ordinal tree.types variable.type_id) (slice_get tree.variables.items leaf.root) ≡ true =
        subst (λ (r : ℕ). is_ordinal_variable tree r ≡ true) root (ordinal (slice_index_or (all_parts tree) row no_parts).root among) in
        ordinal-scalar (slice_get tree.types leaf.variable.type_id.index)
        (sym (ap (of_one (λ (variable : Variable). is_ordinal tree.types variable.type_id)) leaf.variable_is) ∙ of_type) leaf.structured

-- inside a loop of the table
pub inside-told : (tree : Tree) (block number : ℕ) (told : LoopControls) → IsLoop tree.loops.items block (number, told)
    → controls_inside tree number ≡ told.inside
inside-told tree block number told (row, at, of_block, are) = ap controls_of at ∙ ap (λ (t : LoopControls). t.inside) are

pub inside-ordinal : (tree : Tree) (block number : ℕ) (told : LoopControls) → AreOrdinal tree told.inside → IsLoop tree.loops.items block (number, told)
    → AreOrdinal tree (controls_inside tree number)
inside-ordinal tree block number told ordinal is = subst (AreOrdinal tree) (sym (inside-told tree block number told is)) ordinal

-- by its row a loop is a for statement or not
pub kind-told : (tree : Tree) (block number : ℕ) (told : LoopControls) → IsLoop tree.loops.items block (number, told)
    → is_for_statement tree number ≡ is_some told.own
kind-told tree block number told (row, at, of_block, are) = ap has_control at ∙ ap (λ (t : LoopControls). is_some t.own) are
