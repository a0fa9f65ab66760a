use Rattle.std.proofs.Common.{ap, ◌∙◌, [], ◌∷◌}
use Rattle.checker_expressions.specs.Walk.{give, text_range}
use Rattle.checker_expressions.proofs.Flows.{goes-as, goes-give, goes-short}
use Rattle.checker_expressions.proofs.flow.Flow.text.Goals as goal

pub returns-in-Ok : goal.returns-in-Ok
returns-in-Ok c =
    goes-as (ap give (c.in-Ok.ensures.items ∙ ap (λ range. range ∷ []) c.text_range.ensures)) (goes-give c.in-Ok.ranges.items c.args.self.now)

pub returns-in-Err : goal.returns-in-Err
returns-in-Err c = goes-short (give (text_range c.args.characters.now ∷ [])) c.args.self.now c.no_ranges.new.self c.no_ranges.result.items c.no_ranges.ensures
