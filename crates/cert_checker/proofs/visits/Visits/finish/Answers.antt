use Rattle.std.proofs.Common.{ap, arith}
use Rattle.typed_tree.specs.Entries.{entries_of}
use Rattle.cert_checker.specs.Visits.{Visits}
use Rattle.cert_checker.proofs.Counted.{all-most}
use Rattle.cert_checker.proofs.visits.Visits.finish.Goals as goal

pub returns-then-entries : goal.returns-then-entries
returns-then-entries c =
    let most = all-most (entries_of c.args.tree.now) c.args.self c.requires in
    let all = c.if-entries.true in
    let same = ap (λ (visits : Visits). visits.entries) c.self.view_is in
    omega (arith, most, all, same)
