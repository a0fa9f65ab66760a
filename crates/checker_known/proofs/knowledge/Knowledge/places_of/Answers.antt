use Rattle.std.proofs.lemmas.List.Filters.{dedup_is}
use Rattle.checker_known.proofs.HeldLists.{said_all}
use Rattle.checker_known.proofs.Finds.{rising-found}
use Rattle.checker_known.proofs.knowledge.Knowledge.places_of.Goals as goal

pub returns : goal.returns
returns c =
    rising-found (said_all c.args.list.now) (said_all c.args.self.now.held.items) _ _ _ c.in_ok-places.ensures
    c.sort_unstable.ensures.permutation c.sort_unstable.ensures.sorted (dedup_is _ _ _ c.dedup.ensures.filtered)
