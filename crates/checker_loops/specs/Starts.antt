-- What is known where an activation of a block begins (ISO 7185:1990, 6.2.3.2, 6.6.3.2): its own variables and its
-- result are undefined, its value parameters are defined, each other variable has a value of its type or none; and what
-- a certificate claims beside that. It does not say that calls keep to these claims.
use Rattle.std.specs.Prelude.{ℕ, suc, ◌&&◌, ◌||◌, Bool, not, List, [], ◌∷◌, Option, None, length}
use Rattle.std.specs.Prelude.{if◌then◌else◌}
use Rattle.std.specs.Prelude.{map, min, nat_eq, slice_get}
use Rattle.std.specs.List.{range_with_len}
use Rattle.domain.specs.Interval.{vacant}
use Rattle.domain.specs.Facts.{Fact}
use Rattle.domain.specs.declared.versions.Version.{Version}
use Rattle.typed_tree.specs.declared.tree.Tree.{Tree}
use Rattle.typed_tree.specs.declared.tree.Variable.{Variable}
use Rattle.typed_tree.specs.WellFormed.{is_local_kind, is_result_kind, is_value_kind, of_one}
use Rattle.checker_rows.specs.Limits.{limits_or_integer}
use Rattle.checker_rows.specs.Rows.{Row, is_whole_row, rows_of}
use Rattle.checker_state.specs.State.{RowState, State, of_types}
use Rattle.checker_state.specs.Loops.{with_claims}
use Rattle.checker_loops.specs.Loops.{all_said}

-- a block declares a variable as one of its own, or as its result
abbrev pub is_own : ℕ → Variable → Bool
is_own block variable =
    nat_eq variable.block block && (is_local_kind variable.kind || is_result_kind variable.kind)

-- as a value parameter
abbrev pub is_passed_value : ℕ → Variable → Bool
is_passed_value block variable = nat_eq variable.block block && is_value_kind variable.kind

-- what is known of a row where an activation of a block begins, by its variable: that of a structured variable as a
-- whole says nothing
abbrev pub row_start : Tree → ℕ → ℕ → Row → Option Variable → RowState
row_start tree block number row variable = record {
  range = if of_one (is_own block) variable then vacant else limits_or_integer row.leaf.values;
  is_defined = of_one (is_passed_value block) variable && not (is_whole_row tree number);
  growth = None;
}

-- those of the rows from a number on
abbrev pub rows_start : Tree → ℕ → ℕ → List Row → List RowState
rows_start tree block number [] = []
rows_start tree block number (row ∷ rows) =
    row_start tree block number row (slice_get tree.variables.items row.root)
    ∷ rows_start tree block (suc number) rows

-- what is known where an activation of a block begins, of which these facts are claimed, by the rules of a version
abbrev pub block_start : Version → Tree → ℕ → List Fact → State
block_start rules tree block facts =
    with_claims (all_said tree facts) (of_types rules (rows_start tree block 0 (rows_of tree)))

-- ---- the variables that blocks declare

-- of variables, the first of which has this root, those whose block has a number, or none of so many blocks
abbrev pub declared_by : (blocks block root : ℕ) → List Variable → List ℕ
declared_by blocks block root [] = []
declared_by blocks block root (variable ∷ declared) =
    if nat_eq (min variable.block blocks) block
    then root ∷ declared_by blocks block (suc root) declared
    else declared_by blocks block (suc root) declared

-- the variables of each block of a program by its number, and behind them those whose block isn't there
abbrev pub all_declared : Tree → List (List ℕ)
all_declared tree =
    map (λ block. declared_by (length tree.blocks.items) block 0 tree.variables.items)
    (range_with_len 0 (suc (length tree.blocks.items)))
