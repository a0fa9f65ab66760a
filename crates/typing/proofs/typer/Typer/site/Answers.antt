use Rattle.std.proofs.Common.{◌≡◌, length, is_ok, sym, subst, arith}
use Rattle.typed_tree.specs.Ids.{AreInOrder}
use Rattle.typing.proofs.SiteIds.{site_ids_kept}
use Rattle.typing.proofs.typer.Typer.site.Goals as goal

-- the new site takes the next id; where no memory was left the sites stay
pub invariant_of-self-inside-2 : goal.invariant_of-self-inside-2
invariant_of-self-inside-2 c =
    let before = c.self.inside.sites.items in
    let next : c.len-id.result ≡ length before = omega (arith, c.self.inside.sites.ok.0) in (
      subst AreInOrder (sym c.push.ensures.items)
          (site_ids_kept (is_ok c.push.result) before (record { id = c.len-id.result; kind = c.args.kind; place = c.args.place }) c.self.inside.in_order next),
      (
        omega arith,
        (
          c.self.inside.points_in_order,
          (c.self.inside.few_points, (c.self.inside.few_entries, (c.self.inside.few_loops, (c.self.inside.few_records, tt)))),
        ),
      ),
    )
