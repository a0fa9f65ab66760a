use Rattle.std.proofs.Common.{arith, ◌≡◌}
use Rattle.std.specs.List.{Contains}
use Rattle.std.proofs.lemmas.Bool.{OnTrue_at, OnTrue_from}
use Rattle.checker_state.specs.View.{said_held}
use Rattle.checker_known.specs.Knowledge.{kept_by}
use Rattle.checker_known.proofs.HeldLists.{said_all}
use Rattle.checker_known.proofs.Kept.{stays-there}
use Rattle.checker_known.proofs.told.Asked.stays.Goals as goal

pub returns-then-kept-place-clause-there : goal.returns-then-kept-place-clause-there
returns-then-kept-place-clause-there c =
    let held = c.args.self.now.held.items in
    let one = c.args.one.now in
    let next = c.index.result.now in
    OnTrue_from c.is_same.result (Contains (kept_by c.args.kept.now (said_all held)) (said_held one))
    (λ same.
    let equal : said_held one ≡ said_held next = OnTrue_at same c.is_same.ensures in
    stays-there c.args.kept.now held c.args.place one next c.if-kept-place.true (omega (arith, c.if-place-len.false, c.len.ensures)) c.index.ensures equal)
