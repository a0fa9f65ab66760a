use Rattle.std.proofs.Common.{arith, rules, w32, SFits}
use Rattle.std.proofs.lemmas.Int.{ints}
use Rattle.checker_calls.proofs.Limited.{term-moved}
use Rattle.checker_calls.proofs.limits.Limit.term.Goals as goal

pub returns-in-Some : goal.returns-in-Some
returns-in-Some c =
    let bound = c.in-Some.bound in
    let number = c.args.self.now.number in
    let one : SFits w32 bound.number = search rules in
    let other : SFits w32 number = search rules in
    let by : SFits w32 c.args.by = search rules in
    term-moved c.args.self.now.form bound number c.args.by _ c.in-Some.is
    (omega (arith, ints, c.from.ensures, c.from-in-Some.ensures, c.from-in-Some-2.ensures))
