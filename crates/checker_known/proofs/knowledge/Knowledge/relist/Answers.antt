use Rattle.std.proofs.Common.{arith, refl}
use Rattle.checker_known.proofs.HeldLists.{said_all}
use Rattle.checker_known.proofs.Finds.{whole-relisted}
use Rattle.checker_known.proofs.knowledge.Knowledge.relist.Goals as goal

pub invariant_of-self-clause-all_listed : goal.invariant_of-self-clause-all_listed
invariant_of-self-clause-all_listed c = λ whole.
    whole-relisted c.args.self.now.resting.lists.items c.args.root (said_all c.args.self.now.held.items) c.args.places.now c.in_ok-list.list
    (omega (arith, c.in-Some.ensures.variant.0 refl)) (c.args.self.now.all_listed whole) c.requires c.in_ok-list.ensures
