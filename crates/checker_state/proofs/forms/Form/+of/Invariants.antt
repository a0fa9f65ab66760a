use Rattle.std.proofs.Common.{◌≡◌, map, drop}
use Rattle.checker_state.specs.Conditions.{condition_of, conjunct_of, operand_of}
use Rattle.checker_state.specs.Forms.{chain_form}
use Rattle.checker_rows.specs.Rows.{is_ordinal_variable}
use Rattle.checker_state.proofs.forms.Form.+of.Given as goal

-- with the operators that are left, it is the form of the whole chain
abbrev pub invariant-loop-link : goal.invariant-loop-link
invariant-loop-link l =
    let ordinal = is_ordinal_variable l.rows in
    chain_form l.form (map operand_of (map (conjunct_of ordinal) (drop l.link-index l.link-items))) ≡ (condition_of ordinal l.expression).form
