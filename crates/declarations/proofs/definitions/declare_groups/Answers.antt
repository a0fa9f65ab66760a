use Rattle.std.proofs.Common.{[]}
use Rattle.typing.specs.Routines.{group}
use Rattle.typing.proofs.Rows.{each_next}
use Rattle.declarations.proofs.Kept.{group_keeps, groups_stay}
use Rattle.declarations.proofs.definitions.declare_groups.Goals as goal

-- one group more is passed
pub loop-group-preserved : goal.loop-group-preserved
loop-group-preserved c =
    let groups = c.args.groups.now in
    let item = c.group-item.result in
    let now = c.loop-group.typer in
    let new = c.declare_group.new.typer in
    let passes = c.in_ok-declare_group.ensures in
    record {
      left =
          each_next group groups c.args.typer.now c.loop-group.group-index item [] [] now new c.loop-group-test.true c.group-item.is
          c.loop-group.invariant.left passes;
      known = groups_stay (group item) (group_keeps item) tt [] now new passes groups c.loop-group.invariant.known;
    }
