use Rattle.std.proofs.Common.{◌∙◌, sym, ap, ℕ, Option}
use Rattle.std.specs.List.{list_any}
use Rattle.checker_state.specs.Bounds.{is_variable}
use Rattle.checker_loops.specs.Loops.{touched}
use Rattle.checker_loops.specs.View.{head_round}
use Rattle.checker_loops.proofs.Touched.{none-rests}
use Rattle.checker_ways.proofs.ways.rests_on_touched.Goals as goal

pub returns-in-None : goal.returns-in-None
returns-in-None c =
    let roots = touched (head_round c.args.round.now) in
    sym (ap (λ (variable : Option ℕ). list_any (λ root. is_variable root variable) roots) c.in-None.is ∙ none-rests roots)
