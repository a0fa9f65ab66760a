use Rattle.std.proofs.Common.{arith}
use Rattle.cert_checker.proofs.StoresMade.{alike-at, alike-inside, own-at, paired-inside, ranged-inside}
use Rattle.cert_checker.proofs.stores.Stores.at.Goals as goal

pub overflow_add-result : goal.overflow_add-result
overflow_add-result c =
    let inside = alike-inside c.args.self.now c.in-Alike.rows c.in-Alike.range c.in-Alike.is c.args.place c.requires in
    omega arith

pub overflow_add-result-in-Paired : goal.overflow_add-result-in-Paired
overflow_add-result-in-Paired c =
    let inside = paired-inside c.args.self.now c.in-Paired.rows c.in-Paired.ranges c.in-Paired.is c.args.place c.requires in
    omega arith

pub range_at-requires : goal.range_at-requires
range_at-requires c = ranged-inside c.args.self.now c.in-Paired.rows c.in-Paired.ranges c.in-Paired.is c.args.place c.requires

pub returns-in-Alike : goal.returns-in-Alike
returns-in-Alike c = alike-at c.args.self.now c.in-Alike.rows c.in-Alike.range c.in-Alike.is c.args.place c.requires

pub returns-in-Paired : goal.returns-in-Paired
returns-in-Paired c =
    own-at c.args.self.now c.in-Paired.rows c.in-Paired.ranges c.in-Paired.is c.args.place c.range_at.result c.requires
    c.range_at.ensures
