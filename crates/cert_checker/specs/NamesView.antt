-- The variables that a claim may name, as the checker keeps which these are. It does not say what is claimed.
use Rattle.std.specs.Prelude.{ℕ, Bool, not, ◌&&◌}
use Rattle.typed_tree.specs.declared.tree.Tree.{Tree}
use Rattle.typed_tree.specs.WellFormed.{is_declared, is_value_kind, is_visible, outline_of}
use Rattle.checker_state.specs.Loops.{is_among}
use Rattle.checker_calls.specs.Names.{is_outward}
use Rattle.cert_checker.specs.declared.names.Nameable.{Nameable}
use Rattle.cert_checker.specs.declared.names.Nameable.TheVariants.{Visible, Outward, Lasting}

abbrev pub may_name : Tree → ℕ → Nameable → ℕ → Bool
may_name tree block Visible = λ root. is_visible (outline_of tree) block root
may_name tree block Outward = λ root. is_outward tree block root
may_name tree block (Lasting changes) =
    λ root. is_outward tree block root
    && not (is_declared (outline_of tree) block is_value_kind root && is_among root changes.now)
