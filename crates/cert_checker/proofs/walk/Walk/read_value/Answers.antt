use Rattle.std.proofs.Common.{◌∙◌}
use Rattle.checker_state.specs.View.{said_reach}
use Rattle.cert_checker.proofs.Assigned.{read-goes}
use Rattle.cert_checker.proofs.walk.Walk.read_value.Goals as goal

pub returns : goal.returns
returns c =
    read-goes c.args.name c.point_place-place.result c.args.one.now c.tree.result.now c.deref.result.now (said_reach c.args.reach)
    (said_reach c.reach_stored-reach.result) c.limits.result (c.tree.ensures ∙ c.table.ensures) c.point_place-place.ensures c.deref.ensures.value
    c.reach_stored-reach.ensures c.limits.ensures c.assign_to.ensures
