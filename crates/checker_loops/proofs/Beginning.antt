-- Where a block begins: what is known of the rows of the variables that it declares; and the variables of each block.
use Rattle.std.proofs.Common.{arith, ◌≡◌, ◌≢◌, ⊎_elim, ◌⊎◌, inl, inr, ◌∙◌, sym, ap, ap₂, refl, subst, ℕ, zero, suc, ◌+◌, ◌<◌, ◌≤◌}
use Rattle.std.proofs.Common.{Bool, true, false, cond, nat_eq, not}
use Rattle.std.proofs.Common.{◌&&◌, ◌||◌, List, [], ◌∷◌, ◌++◌, append-nil, append_assoc, drop, get_or, length, map}
use Rattle.std.proofs.Common.{min, replicate, set}
use Rattle.std.proofs.Common.{Option, Some, None}
use Rattle.std.specs.List.{Contains, range_with_len}
use Rattle.std.specs.Prelude.{slice_get}
use Rattle.std.proofs.lemmas.Bool.{and_parts, both_ways, cases_lt, eq-eqb, eqb-true, or_left, or_right}
use Rattle.std.proofs.lemmas.List.{drop_more, ext_get_or, get_or-replicate, get_or-set_other, get_or-set_same, length-map, length-replicate}
use Rattle.std.proofs.lemmas.List.{length-set}
use Rattle.std.proofs.lemmas.List.FromFn.{get_or-map-range_with_len, length-map-range_with_len}
use Rattle.std.proofs.lemmas.Option.{none-some, same_Some, slice_get_past, slice_get_within}
use Rattle.domain.specs.Interval.{Interval, vacant}
use Rattle.types.specs.Types.{is_structured}
use Rattle.typed_tree.specs.declared.tree.Tree.{Tree}
use Rattle.typed_tree.specs.declared.tree.Variable.{Variable}
use Rattle.typed_tree.specs.declared.tree.VariableKind.{VariableKind}
use Rattle.typed_tree.specs.declared.tree.VariableKind.TheVariants as kind
use Rattle.typed_tree.specs.WellFormed.{is_local_kind, is_result_kind, is_value_kind, of_one}
use Rattle.checker_rows.specs.Limits.{limits_or_integer}
use Rattle.domain.specs.declared.versions.Version.{Version}
use Rattle.checker_rows.specs.Rows.{Row, is_structured_variable, is_whole_row, rows_of, rows_under}
use Rattle.checker_rows.proofs.Numbered.{number-under, own-row, root-of_row, some-at, under-root}
use Rattle.checker_state.specs.Loops.{is_among}
use Rattle.checker_state.specs.State.{RowState, State, no_row, of_types, with_defined, with_range}
use Rattle.checker_trail.specs.declared.state.State.{State as Kept}
use Rattle.checker_trail.specs.Trail.{Moves, seen}
use Rattle.checker_known.specs.View.{type_rows, type_state}
use Rattle.checker_trail.proofs.Ways.{moves-as}
use Rattle.checker_loops.specs.Starts.{all_declared, declared_by, is_own, is_passed_value, row_start, rows_start}
use Rattle.checker_loops.specs.BlockView.{all_begun, begun, own_roots, rows_defined, rows_vacant, with_root, with_roots}
use Rattle.checker_loops.proofs.VariableRows.{under-plain}
use Rattle.checker_loops.proofs.Lists.{among-contains, contains-among}

-- ---- rows that change one after another

abbrev undefined : RowState → RowState
undefined state = record state { range = vacant }

abbrev defined : RowState → RowState
defined state = record state { is_defined = true }

abbrev changed : (RowState → RowState) → List ℕ → List RowState → List RowState
changed change [] states = states
changed change (row ∷ rows) states = changed change rows (set states row (change (get_or states row no_row)))

vacant-changed : (rules : Version) (rows : List ℕ) (states : List RowState)
    → rows_vacant rows (of_types rules states) ≡ of_types rules (changed undefined rows states)
vacant-changed rules [] states = refl
vacant-changed rules (row ∷ rows) states = vacant-changed rules rows (set states row (undefined (get_or states row no_row)))

defined-changed : (rules : Version) (rows : List ℕ) (states : List RowState)
    → rows_defined rows (of_types rules states) ≡ of_types rules (changed defined rows states)
defined-changed rules [] states = refl
defined-changed rules (row ∷ rows) states = defined-changed rules rows (set states row (defined (get_or states row no_row)))

changed-many : (change : RowState → RowState) (rows : List ℕ) (states : List RowState) → length (changed change rows states) ≡ length states
changed-many change [] states = refl
changed-many change (row ∷ rows) states =
    changed-many change rows (set states row (change (get_or states row no_row))) ∙ length-set states row (change (get_or states row no_row))

-- a change that is made once and again is made once
abbrev IsOnce : (RowState → RowState) → Type 0
IsOnce change = (state : RowState) → change (change state) ≡ change state

once-more : (b : Bool) (change : RowState → RowState) (state : RowState) → IsOnce change
    → cond b (change (change state)) (change state) ≡ change state
once-more true change state once = once state
once-more false change state once = refl

abbrev ChangedAt : (RowState → RowState) → List ℕ → List RowState → ℕ → Type 0
ChangedAt change rows states row =
    get_or (changed change rows states) row no_row ≡ cond (is_among row rows) (change (get_or states row no_row)) (get_or states row no_row)

changed-more : (change : RowState → RowState) (first : ℕ) (rows : List ℕ) (states : List RowState) (row : ℕ) (same : Bool) → IsOnce change
    → row < length states → nat_eq first row ≡ same
    → ChangedAt change rows (set states first (change (get_or states first no_row))) row
    → get_or (changed change rows (set states first (change (get_or states first no_row)))) row no_row
    ≡ cond (same || is_among row rows) (change (get_or states row no_row)) (get_or states row no_row)
changed-more change first rows states row true once inside same behind =
    let known = get_or states row no_row in
    let here : get_or (set states first (change (get_or states first no_row))) row no_row ≡ change known =
    subst (λ n. get_or (set states n (change (get_or states n no_row))) row no_row ≡ change known) (sym (eqb-true first row same))
    (get_or-set_same states row (change known) no_row inside) in
    behind ∙ ap (λ (s : RowState). cond (is_among row rows) (change s) s) here ∙ once-more (is_among row rows) change known once
changed-more change first rows states row false once inside same behind =
    let apart : row ≢ first = λ is. both_ways (nat_eq first row) same (eq-eqb first row (sym is)) in
    behind
    ∙ ap (λ (s : RowState). cond (is_among row rows) (change s) s)
    (get_or-set_other states first row (change (get_or states first no_row)) no_row apart)

changed-at : (change : RowState → RowState) (rows : List ℕ) (states : List RowState) (row : ℕ) → IsOnce change → row < length states
    → ChangedAt change rows states row
changed-at change [] states row once inside = refl
changed-at change (first ∷ rows) states row once inside =
    let next = set states first (change (get_or states first no_row)) in
    let there : row < length next =
    subst (λ n. row < n) (sym (length-set states first (change (get_or states first no_row)))) inside in
    changed-more change first rows states row (nat_eq first row) once inside refl (changed-at change rows next row once there)

-- ---- the rows of a variable

module _ (tree : Tree) (number : ℕ) (row : Row) (is : slice_get (rows_of tree) number ≡ Some row) where
  -- that of a variable that is there has its number for its root
  own-there : number < length tree.variables.items → number ≡ row.root
  own-there within =
      let variable = some-at tree.variables.items number within in
      ap (λ (r : Row). r.root) (same_Some _ row (sym (own-row tree number variable.0 variable.1) ∙ is))

  under-there : (root : ℕ) → root < length tree.variables.items → Contains (rows_under tree root []) number → row.root ≡ root
  under-there root within inside = sym (root-of_row tree number row is) ∙ under-root tree root [] number within inside

  -- whether it is one of a variable's: as a whole, or among those under it
  of-variable : (root : ℕ) (b : Bool) → root < length tree.variables.items → nat_eq root row.root ≡ b
      → is_among number (root ∷ rows_under tree root []) ≡ b
  of-variable root true within same =
      by (is_structured_variable tree number) refl (cases_lt number (length tree.variables.items))
    where
      its-own : root ≡ row.root
      its-own = eqb-true root row.root same

      under : (number < length tree.variables.items → is_structured_variable tree number ≡ false)
          → is_among number (root ∷ rows_under tree root []) ≡ true
      under plain =
          or_right (nat_eq root number) (is_among number (rows_under tree root []))
          (contains-among (rows_under tree root []) number
          (subst (λ r. Contains (rows_under tree r []) number) (sym its-own) (number-under tree number row is plain)))

      by : (structured : Bool) → is_structured_variable tree number ≡ structured
          → (number < length tree.variables.items) ⊎ (length tree.variables.items ≤ number)
          → is_among number (root ∷ rows_under tree root []) ≡ true
      by structured is_structured (inr past) = under (λ inside. absurd (omega (arith, past, inside)))
      by false is_structured (inl inside) = under (λ _. is_structured)
      by true is_structured (inl inside) =
          or_left (nat_eq root number) (is_among number (rows_under tree root [])) (eq-eqb root number (its-own ∙ sym (own-there inside)))
  of-variable root false within same =
      neither (nat_eq root number) (is_among number (rows_under tree root [])) refl refl
    where
      neither : (own under : Bool) → nat_eq root number ≡ own → is_among number (rows_under tree root []) ≡ under → (own || under) ≡ false
      neither true under own_is under_is =
          let at = eqb-true root number own_is in
          absurd (both_ways (nat_eq root row.root) same (eq-eqb root row.root (at ∙ own-there (omega (arith, at, within)))))
      neither false true own_is under_is =
          absurd (both_ways (nat_eq root row.root) same
          (eq-eqb root row.root (sym (under-there root within (among-contains (rows_under tree root []) number under_is)))))
      neither false false own_is under_is = refl

  -- whether it is one of those under a variable
  under-variable : (root : ℕ) → root < length tree.variables.items
      → is_among number (rows_under tree root []) ≡ (nat_eq root row.root && not (is_whole_row tree number))
  under-variable root within =
      by (is_among number (rows_under tree root [])) (nat_eq root row.root) (is_whole_row tree number) refl refl refl
    where
      plain-past : length tree.variables.items ≤ number → is_structured_variable tree number ≡ false
      plain-past past =
          ap (of_one (λ (variable : Variable). is_structured tree.types variable.type_id)) (slice_get_past tree.variables.items number past)

      plain : Contains (rows_under tree root []) number → is_structured_variable tree number ≡ false
      plain inside =
          ⊎_elim (λ below. under-plain tree root [] number inside below) (λ past. plain-past past)
          (cases_lt number (length tree.variables.items))

      by : (among same whole : Bool) → is_among number (rows_under tree root []) ≡ among → nat_eq root row.root ≡ same
          → is_whole_row tree number ≡ whole → among ≡ (same && not whole)
      by true true true among_is same whole_is =
          absurd (both_ways (is_structured_variable tree number) (plain (among-contains (rows_under tree root []) number among_is)) whole_is)
      by true true false among_is same whole_is = refl
      by true false whole among_is same whole_is =
          absurd (both_ways (nat_eq root row.root) same
          (eq-eqb root row.root (sym (under-there root within (among-contains (rows_under tree root []) number among_is)))))
      by false true false among_is same whole_is =
          absurd (both_ways (is_among number (rows_under tree root [])) among_is
          (contains-among (rows_under tree root []) number
          (subst (λ r. Contains (rows_under tree r []) number) (sym (eqb-true root row.root same)) (number-under tree number row is (λ _. whole_is)))))
      by false true true among_is same whole_is = refl
      by false false whole among_is same whole_is = refl

-- ---- what a block makes of its variables

-- what it makes of a row of a variable, if that is there
abbrev acted : Tree → (block number : ℕ) → Option Variable → RowState → RowState
acted tree block number None state = state
acted tree block number (Some variable) state =
    cond (is_own block variable) (undefined state)
    (cond (is_passed_value block variable) (cond (is_whole_row tree number) state (defined state)) state)

by-whole : (whole : Bool) (state : RowState)
    → cond whole (cond whole state (defined state)) (defined (cond whole state (defined state))) ≡ cond whole state (defined state)
by-whole true state = refl
by-whole false state = refl

acted-once : (tree : Tree) (block number : ℕ) (variable : Option Variable) → IsOnce (acted tree block number variable)
acted-once tree block number None state = refl
acted-once tree block number (Some variable) state = by (is_own block variable) (is_passed_value block variable)
  where
    whole : Bool
    whole = is_whole_row tree number

    of : (own passed : Bool) → RowState → RowState
    of own passed known = cond own (undefined known) (cond passed (cond whole known (defined known)) known)

    by : (own passed : Bool) → of own passed (of own passed state) ≡ of own passed state
    by true passed = refl
    by false true = by-whole whole state
    by false false = refl

-- the rows of a variable change
abbrev begun_rows : Tree → (block root : ℕ) → Option Variable → List RowState → List RowState
begun_rows tree block root None states = states
begun_rows tree block root (Some variable) states =
    cond (is_own block variable) (changed undefined (root ∷ rows_under tree root []) states)
    (cond (is_passed_value block variable) (changed defined (rows_under tree root []) states) states)

begun-as : (rules : Version) (tree : Tree) (block root : ℕ) (variable : Option Variable) (states : List RowState)
    → begun tree block root variable (of_types rules states) ≡ of_types rules (begun_rows tree block root variable states)
begun-as rules tree block root None states = refl
begun-as rules tree block root (Some variable) states = by (is_own block variable) (is_passed_value block variable)
  where
    by : (own passed : Bool)
        → cond own (rows_vacant (rows_under tree root []) (with_range root vacant (of_types rules states)))
        (cond passed (rows_defined (rows_under tree root []) (of_types rules states)) (of_types rules states))
        ≡ of_types rules
        (cond own (changed undefined (root ∷ rows_under tree root []) states)
        (cond passed (changed defined (rows_under tree root []) states) states))
    by true passed = vacant-changed rules (root ∷ rows_under tree root []) states
    by false true = defined-changed rules (rows_under tree root []) states
    by false false = refl

begun-many : (tree : Tree) (block root : ℕ) (variable : Option Variable) (states : List RowState)
    → length (begun_rows tree block root variable states) ≡ length states
begun-many tree block root None states = refl
begun-many tree block root (Some variable) states = by (is_own block variable) (is_passed_value block variable)
  where
    by : (own passed : Bool)
        → length (cond own (changed undefined (root ∷ rows_under tree root []) states)
        (cond passed (changed defined (rows_under tree root []) states) states)) ≡ length states
    by true passed = changed-many undefined (root ∷ rows_under tree root []) states
    by false true = changed-many defined (rows_under tree root []) states
    by false false = refl

same-either : (b : Bool) (state : RowState) → state ≡ cond b state state
same-either true state = refl
same-either false state = refl

and-whole : (same whole : Bool) (state : RowState)
    → cond (same && not whole) (defined state) state ≡ cond same (cond whole state (defined state)) state
and-whole true true state = refl
and-whole true false state = refl
and-whole false whole state = refl

module _ (tree : Tree) (block number : ℕ) (row : Row) (is : slice_get (rows_of tree) number ≡ Some row) (states : List RowState) where
  abbrev known : RowState
  known = get_or states number no_row

  -- of each row of a variable, what the block makes of it
  begun-at : (root : ℕ) (variable : Option Variable) → number < length states → slice_get tree.variables.items root ≡ variable
      → get_or (begun_rows tree block root variable states) number no_row
      ≡ cond (nat_eq root row.root) (acted tree block number variable known) known
  begun-at root None inside found = same-either (nat_eq root row.root) known
  begun-at root (Some variable) inside found =
      let within = slice_get_within tree.variables.items root variable found in
      by within (is_own block variable) (is_passed_value block variable)
    where
      by : root < length tree.variables.items → (own passed : Bool)
          → get_or (cond own (changed undefined (root ∷ rows_under tree root []) states)
          (cond passed (changed defined (rows_under tree root []) states) states)) number no_row
          ≡ cond (nat_eq root row.root)
          (cond own (undefined known) (cond passed (cond (is_whole_row tree number) known (defined known)) known)) known
      by within true passed =
          changed-at undefined (root ∷ rows_under tree root []) states number (λ _. refl) inside
          ∙ ap (λ (b : Bool). cond b (undefined known) known) (of-variable tree number row is root (nat_eq root row.root) within refl)
      by within false true =
          changed-at defined (rows_under tree root []) states number (λ _. refl) inside
          ∙ ap (λ (b : Bool). cond b (defined known) known) (under-variable tree number row is root within)
          ∙ and-whole (nat_eq root row.root) (is_whole_row tree number) known
      by within false false = same-either (nat_eq root row.root) known

-- ---- all variables of a block

abbrev all_rows : Tree → ℕ → List ℕ → List RowState → List RowState
all_rows tree block [] states = states
all_rows tree block (root ∷ roots) states =
    all_rows tree block roots (begun_rows tree block root (slice_get tree.variables.items root) states)

all-as : (rules : Version) (tree : Tree) (block : ℕ) (roots : List ℕ) (states : List RowState)
    → all_begun tree block roots (of_types rules states) ≡ of_types rules (all_rows tree block roots states)
all-as rules tree block [] states = refl
all-as rules tree block (root ∷ roots) states =
    let variable = slice_get tree.variables.items root in
    ap (all_begun tree block roots) (begun-as rules tree block root variable states)
    ∙ all-as rules tree block roots (begun_rows tree block root variable states)

all-many : (tree : Tree) (block : ℕ) (roots : List ℕ) (states : List RowState) → length (all_rows tree block roots states) ≡ length states
all-many tree block [] states = refl
all-many tree block (root ∷ roots) states =
    let variable = slice_get tree.variables.items root in
    all-many tree block roots (begun_rows tree block root variable states) ∙ begun-many tree block root variable states

abbrev IsActed : Tree → (block number : ℕ) → Row → List ℕ → List RowState → Type 0
IsActed tree block number row roots states =
    get_or (all_rows tree block roots states) number no_row
    ≡ cond (is_among row.root roots) (acted tree block number (slice_get tree.variables.items row.root) (get_or states number no_row))
    (get_or states number no_row)

-- the variable of a row begins, or another
acted-more : (tree : Tree) (block number root : ℕ) (row : Row) (same among : Bool) (known next last : RowState) → nat_eq root row.root ≡ same
    → next ≡ cond same (acted tree block number (slice_get tree.variables.items root) known) known
    → last ≡ cond among (acted tree block number (slice_get tree.variables.items row.root) next) next
    → last ≡ cond (same || among) (acted tree block number (slice_get tree.variables.items row.root) known) known
acted-more tree block number root row true among now next last same next_is last_is =
    let act = acted tree block number (slice_get tree.variables.items row.root) in
    let here : next ≡ act now =
    next_is ∙ ap (λ r. acted tree block number (slice_get tree.variables.items r) now) (eqb-true root row.root same) in
    last_is ∙ ap (λ (s : RowState). cond among (act s) s) here
    ∙ once-more among act now (acted-once tree block number (slice_get tree.variables.items row.root))
acted-more tree block number root row false among now next last same next_is last_is =
    let act = acted tree block number (slice_get tree.variables.items row.root) in
    last_is ∙ ap (λ (s : RowState). cond among (act s) s) next_is

all-at : (tree : Tree) (block number : ℕ) (row : Row) (roots : List ℕ) (states : List RowState) → slice_get (rows_of tree) number ≡ Some row
    → number < length states → IsActed tree block number row roots states
all-at tree block number row [] states is inside = refl
all-at tree block number row (root ∷ roots) states is inside =
    let variable = slice_get tree.variables.items root in
    let next = begun_rows tree block root variable states in
    let there : number < length next = subst (λ n. number < n) (sym (begun-many tree block root variable states)) inside in
    acted-more tree block number root row (nat_eq root row.root) (is_among row.root roots) (get_or states number no_row) (get_or next number no_row)
    (get_or (all_rows tree block roots next) number no_row) refl (begun-at tree block number row is states root variable inside refl)
    (all-at tree block number row roots next is there)

-- each variable of the block is among those that it declares
declared-in : (blocks block from k : ℕ) (variables : List Variable) (variable : Variable) → slice_get variables k ≡ Some variable
    → nat_eq (min variable.block blocks) block ≡ true → is_among (from + k) (declared_by blocks block from variables) ≡ true
declared-in blocks block from k [] variable is of_block = absurd (none-some variable is)
declared-in blocks block from zero (first ∷ variables) variable is of_block =
    let e : from ≡ from + 0 = omega arith in
    let rest = declared_by blocks block (suc from) variables in
    ap (λ (b : Bool). is_among (from + 0) (cond b (from ∷ rest) rest))
    (ap (λ (v : Variable). nat_eq (min v.block blocks) block) (same_Some first variable is) ∙ of_block)
    ∙ or_left (nat_eq from (from + 0)) (is_among (from + 0) rest) (eq-eqb from (from + 0) e)
declared-in blocks block from (suc k) (first ∷ variables) variable is of_block =
    let e : suc from + k ≡ from + suc k = omega arith in
    let rest = declared_by blocks block (suc from) variables in
    more (nat_eq (min first.block blocks) block) from (from + suc k) rest
    (ap (λ (n : ℕ). is_among n rest) (sym e) ∙ declared-in blocks block (suc from) k variables variable is of_block)
  where
    more : (b : Bool) (root n : ℕ) (rest : List ℕ) → is_among n rest ≡ true → is_among n (cond b (root ∷ rest) rest) ≡ true
    more true root n rest inside = or_right (nat_eq root n) (is_among n rest) inside
    more false root n rest inside = inside

-- a block makes nothing of the variables of others
other-still : (tree : Tree) (block number : ℕ) (variable : Variable) (state : RowState) → nat_eq variable.block block ≡ false
    → acted tree block number (Some variable) state ≡ state
other-still tree block number variable state other =
    ap (λ (same : Bool). cond (same && (is_local_kind variable.kind || is_result_kind variable.kind)) (undefined state)
    (cond (same && is_value_kind variable.kind) (cond (is_whole_row tree number) state (defined state)) state)) other

own-no_value : (kind : VariableKind) → (is_local_kind kind || is_result_kind kind) ≡ true → is_value_kind kind ≡ false
own-no_value kind.Local is = refl
own-no_value kind.Result is = refl
own-no_value kind.ValueParameter is = absurd (cc)
own-no_value kind.VariableParameter is = absurd (cc)

-- it makes of the others what is known of their rows where it begins
acted-start : (tree : Tree) (block number : ℕ) (row : Row) (variable : Option Variable)
    → acted tree block number variable (type_state row) ≡ row_start tree block number row variable
acted-start tree block number row None = refl
acted-start tree block number row (Some variable) = by (is_own block variable) (is_passed_value block variable) refl refl
  where
    limits : Interval
    limits = limits_or_integer row.leaf.values

    passed : (whole : Bool) → cond whole (type_state row) (defined (type_state row)) ≡ record { range = limits; is_defined = not whole; growth = None }
    passed true = refl
    passed false = refl

    by : (own value : Bool) → is_own block variable ≡ own → is_passed_value block variable ≡ value
        → cond own (undefined (type_state row)) (cond value (cond (is_whole_row tree number) (type_state row) (defined (type_state row))) (type_state row))
        ≡ record { range = cond own vacant limits; is_defined = value && not (is_whole_row tree number); growth = None }
    by true true own_is value_is =
        let one = and_parts (nat_eq variable.block block) (is_local_kind variable.kind || is_result_kind variable.kind) own_is in
        let other = and_parts (nat_eq variable.block block) (is_value_kind variable.kind) value_is in
        absurd (both_ways (is_value_kind variable.kind) (own-no_value variable.kind one.1) other.1)
    by true false own_is value_is = refl
    by false true own_is value_is = passed (is_whole_row tree number)
    by false false own_is value_is = refl

start-at : (tree : Tree) (block from k : ℕ) (rows : List Row) (row : Row) → slice_get rows k ≡ Some row
    → get_or (rows_start tree block from rows) k no_row ≡ row_start tree block (from + k) row (slice_get tree.variables.items row.root)
start-at tree block from k [] row is = absurd (none-some row is)
start-at tree block from zero (first ∷ rows) row is =
    let e : from ≡ from + 0 = omega arith in
    ap₂ (λ (r : Row) (n : ℕ). row_start tree block n r (slice_get tree.variables.items r.root)) (same_Some first row is) e
start-at tree block from (suc k) (first ∷ rows) row is =
    let e : suc from + k ≡ from + suc k = omega arith in
    start-at tree block (suc from) k rows row is ∙ ap (λ (n : ℕ). row_start tree block n row (slice_get tree.variables.items row.root)) e

start-many : (tree : Tree) (block from : ℕ) (rows : List Row) → length (rows_start tree block from rows) ≡ length rows
start-many tree block from [] = refl
start-many tree block from (row ∷ rows) = ap suc (start-many tree block (suc from) rows)

types-at : (k : ℕ) (rows : List Row) (row : Row) → slice_get rows k ≡ Some row → get_or (map type_state rows) k no_row ≡ type_state row
types-at k [] row is = absurd (none-some row is)
types-at zero (first ∷ rows) row is = ap type_state (same_Some first row is)
types-at (suc k) (first ∷ rows) row is = types-at k rows row is

-- the variables of a block by the table
own-are : (tree : Tree) (block : ℕ)
    → own_roots tree (all_declared tree) block ≡ declared_by (length tree.blocks.items) (min block (length tree.blocks.items)) 0 tree.variables.items
own-are tree block =
    let count = length tree.blocks.items in
    let place = min block count in
    let below : place < suc count = omega arith in
    let e : 0 + place ≡ place = omega arith in
    get_or-map-range_with_len (λ k. declared_by count k 0 tree.variables.items) 0 (suc count) place place [] below e

module _ (tree : Tree) (block : ℕ) where
  abbrev count : ℕ
  count = length tree.blocks.items

  abbrev its_roots : List ℕ
  its_roots = declared_by count (min block count) 0 tree.variables.items

  -- what a block makes of a row of one of its variables is what it makes of each
  acted-all : (number : ℕ) (row : Row) (variable : Option Variable) (among : Bool) → slice_get tree.variables.items row.root ≡ variable
      → is_among row.root its_roots ≡ among
      → cond among (acted tree block number variable (type_state row)) (type_state row) ≡ acted tree block number variable (type_state row)
  acted-all number row variable true variable_is among = refl
  acted-all number row None false variable_is among = refl
  acted-all number row (Some variable) false variable_is among =
      sym (other-still tree block number variable (type_state row) (by (nat_eq variable.block block) refl))
    where
      by : (own : Bool) → nat_eq variable.block block ≡ own → own ≡ false
      by false own = refl
      by true own =
          let at = ap (λ (b : ℕ). min b count) (eqb-true variable.block block own) in
          let e : 0 + row.root ≡ row.root = omega arith in
          absurd (both_ways (is_among row.root its_roots) among
          (ap (λ (n : ℕ). is_among n its_roots) (sym e)
          ∙ declared-in count (min block count) 0 row.root tree.variables.items variable variable_is
          (eq-eqb (min variable.block count) (min block count) at)))

  rows-start : all_rows tree block its_roots (type_rows tree) ≡ rows_start tree block 0 (rows_of tree)
  rows-start =
      let rows = rows_of tree in
      let first : length (type_rows tree) ≡ length rows = length-map rows type_state in
      let long = all-many tree block its_roots (type_rows tree) ∙ first in
      ext_get_or no_row (all_rows tree block its_roots (type_rows tree)) (rows_start tree block 0 rows) (long ∙ sym (start-many tree block 0 rows))
      (λ number within.
      let inside : number < length rows = omega (arith, within, long) in
      let (row, is) = some-at rows number inside in
      let e : 0 + number ≡ number = omega arith in
      let variable = slice_get tree.variables.items row.root in
      all-at tree block number row its_roots (type_rows tree) is (omega (arith, inside, first))
      ∙ ap (λ (s : RowState). cond (is_among row.root its_roots) (acted tree block number variable s) s) (types-at number rows row is)
      ∙ acted-all number row variable (is_among row.root its_roots) refl refl ∙ acted-start tree block number row variable
      ∙ ap (λ (n : ℕ). row_start tree block n row variable) (sym e)
      ∙ sym (start-at tree block 0 number rows row is))

  -- a block begins
  pub start-is : (rules : Version) → all_begun tree block (own_roots tree (all_declared tree) block) (of_types rules (type_rows tree))
      ≡ of_types rules (rows_start tree block 0 (rows_of tree))
  start-is rules =
      ap (λ (roots : List ℕ). all_begun tree block roots (of_types rules (type_rows tree))) (own-are tree block)
      ∙ all-as rules tree block its_roots (type_rows tree) ∙ ap (of_types rules) rows-start

-- ---- one after another

pub vacant-over : (rows : List ℕ) (row : ℕ) (state : State) → with_range row vacant (rows_vacant rows state) ≡ rows_vacant (rows ++ row ∷ []) state
vacant-over [] row state = refl
vacant-over (first ∷ rows) row state = vacant-over rows row (with_range first vacant state)

pub defined-over : (rows : List ℕ) (row : ℕ) (state : State) → with_defined row (rows_defined rows state) ≡ rows_defined (rows ++ row ∷ []) state
defined-over [] row state = refl
defined-over (first ∷ rows) row state = defined-over rows row (with_defined first state)

pub begun-over : (tree : Tree) (block : ℕ) (roots : List ℕ) (root : ℕ) (state : State)
    → begun tree block root (slice_get tree.variables.items root) (all_begun tree block roots state) ≡ all_begun tree block (roots ++ root ∷ []) state
begun-over tree block [] root state = refl
begun-over tree block (first ∷ roots) root state =
    begun-over tree block roots root (begun tree block first (slice_get tree.variables.items first) state)

-- none of a variable's rows has a value
pub vacant-moves : {a b : Kept} (tree : Tree) (root : ℕ) (rows : List ℕ) → tree ≡ a.table.now → rows ≡ rows_under tree root []
    → Moves (rows_vacant rows) a b → Moves (rows_vacant (rows_under a.table.now root [])) a b
vacant-moves {a = a} tree root rows tree_is is moves =
    moves-as (rows_vacant (rows_under a.table.now root [])) moves
    (ap (λ (some : List ℕ). rows_vacant some (seen a)) (is ∙ ap (λ (t : Tree). rows_under t root []) tree_is))

-- ---- the table

abbrev put : List (List ℕ) → ℕ → ℕ → List (List ℕ)
put rows block root = with_root block root rows

put-cases : (rows : List (List ℕ)) (place root block : ℕ) (same : Bool) → nat_eq place block ≡ same → place < length rows
    → get_or (put rows place root) block [] ≡ get_or rows block [] ++ cond same (root ∷ []) []
put-cases rows place root block true same inside =
    subst (λ r. get_or (put rows place root) r [] ≡ get_or rows r [] ++ root ∷ []) (eqb-true place block same)
    (get_or-set_same rows place (get_or rows place [] ++ root ∷ []) [] inside)
put-cases rows place root block false same inside =
    let apart : block ≢ place = λ is. both_ways (nat_eq place block) same (eq-eqb place block (sym is)) in
    get_or-set_other rows place block (get_or rows place [] ++ root ∷ []) [] apart ∙ sym (append-nil (get_or rows block []))

first-joined : (same : Bool) (root : ℕ) (before rest : List ℕ) → (before ++ cond same (root ∷ []) []) ++ rest ≡ before ++ cond same (root ∷ rest) rest
first-joined true root before rest = append_assoc before (root ∷ []) rest
first-joined false root before rest = ap (λ all. all ++ rest) (append-nil before)

put-at : (blocks root : ℕ) (declared : List Variable) (rows : List (List ℕ)) (block : ℕ) → length rows ≡ suc blocks
    → get_or (with_roots blocks root declared rows) block [] ≡ get_or rows block [] ++ declared_by blocks block root declared
put-at blocks root [] rows block count = sym (append-nil (get_or rows block []))
put-at blocks root (variable ∷ declared) rows block count =
    let place = min variable.block blocks in
    let inside : place < length rows = omega (arith, count) in
    let more = declared_by blocks block (suc root) declared in
    put-at blocks (suc root) declared (put rows place root) block (length-set rows place (get_or rows place [] ++ root ∷ []) ∙ count)
    ∙ ap (λ row. row ++ more) (put-cases rows place root block (nat_eq place block) refl inside)
    ∙ first-joined (nat_eq place block) root (get_or rows block []) more

length-put : (blocks root : ℕ) (declared : List Variable) (rows : List (List ℕ)) → length (with_roots blocks root declared rows) ≡ length rows
length-put blocks root [] rows = refl
length-put blocks root (variable ∷ declared) rows =
    let place = min variable.block blocks in
    length-put blocks (suc root) declared (put rows place root) ∙ length-set rows place (get_or rows place [] ++ root ∷ [])

-- the variables of a program are put behind those of their blocks, where at first there are none
pub table-is : (tree : Tree)
    → with_roots (length tree.blocks.items) 0 tree.variables.items (replicate (suc (length tree.blocks.items)) []) ≡ all_declared tree
table-is tree =
    let count = length tree.blocks.items in
    let declared = tree.variables.items in
    let none : List (List ℕ) = replicate (suc count) [] in
    let table = with_roots count 0 declared none in
    let of = λ (block : ℕ). declared_by count block 0 declared in
    let first = length-replicate (suc count) [] in
    let long : length table ≡ suc count = length-put count 0 declared none ∙ first in
    ext_get_or [] table (map of (range_with_len 0 (suc count))) (long ∙ sym (length-map-range_with_len of 0 (suc count)))
    (λ i within.
    let inside : i < suc count = omega (arith, within, long) in
    put-at count 0 declared none i first
    ∙ ap (λ before. before ++ declared_by count i 0 declared) (get_or-replicate (suc count) i [] [] inside)
    ∙ sym (get_or-map-range_with_len of 0 (suc count) i i [] inside (let e : 0 + i ≡ i = omega arith in e)))

-- one variable more is put behind those of its block
pub roots-next : (blocks root place : ℕ) (declared : List Variable) (variable : Variable) (old new all : List (List ℕ)) → root < length declared
    → variable ≡ get_or declared root variable → place ≡ min variable.block blocks → new ≡ with_root place root old
    → with_roots blocks root (drop root declared) old ≡ all → with_roots blocks (root + 1) (drop (root + 1) declared) new ≡ all
roots-next blocks root place declared variable old new all inside variable_is place_is new_is is =
    let rest = drop (root + 1) declared in
    let next : root + 1 ≡ suc root = omega arith in
    let cut : drop root declared ≡ variable ∷ rest = drop_more declared root variable inside ∙ ap (λ one. one ∷ rest) (sym variable_is) in
    ap (λ k. with_roots blocks k rest new) next
    ∙ ap (with_roots blocks (suc root) rest) (new_is ∙ ap (λ k. with_root k root old) place_is)
    ∙ ap (λ some. with_roots blocks root some old) (sym cut) ∙ is
