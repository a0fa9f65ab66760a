use Rattle.std.proofs.Common.{◌∙◌, ap}
use Rattle.checker_trail.specs.Trail.{seen}
use Rattle.checker_calls.specs.Entry.{Limit, is_at_most}
use Rattle.checker_calls.specs.View.{said_limit}
use Rattle.checker_calls.proofs.Limited.{limit-still}
use Rattle.checker_calls.proofs.limits.Limit.is_at_most.Goals as goal

pub returns : goal.returns
returns c =
    c.is_at_most_by.ensures
    ∙ ap (λ (l : Limit). is_at_most (seen c.args.state.now) l (said_limit c.args.other.now)) (limit-still (said_limit c.args.self.now))
