use Rattle.std.proofs.Common.{◌≡◌, length, is_ok, sym, subst, arith}
use Rattle.typed_tree.specs.Ids.{ArePointsInOrder}
use Rattle.typing.proofs.SiteIds.{point_ids_kept}
use Rattle.typing.proofs.typer.Typer.point.Goals as goal

-- the new point takes the next id; where no memory was left the points stay
pub invariant_of-self-inside-2 : goal.invariant_of-self-inside-2
invariant_of-self-inside-2 c =
    let before = c.self.inside.points.items in
    let next : c.len-id.result ≡ length before = omega (arith, c.self.inside.points.ok.0) in (
      c.self.inside.in_order,
      (
        c.self.inside.few_sites,
        (
          subst ArePointsInOrder (sym c.push.ensures.items)
              (point_ids_kept (is_ok c.push.result) before (record { id = c.len-id.result; place = c.args.place }) c.self.inside.points_in_order next),
          (omega arith, (c.self.inside.few_entries, (c.self.inside.few_loops, (c.self.inside.few_records, tt)))),
        ),
      ),
    )
