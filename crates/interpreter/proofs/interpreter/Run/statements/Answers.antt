use Rattle.std.proofs.Common.{◌≡◌, ◌∷◌, reverse, arith}
use Rattle.interpreter.specs.Pending.{operands_of}
use Rattle.interpreter.proofs.Resuming.{continues_as}
use Rattle.interpreter.proofs.Unrolling.{does-Statements}
use Rattle.interpreter.specs.Size.{size_of_statement}
use Rattle.interpreter.proofs.Sizes.{adds_within, row-first}
use Rattle.interpreter.proofs.interpreter.Run.statements.Goals as goal

pub returns-in-Some-clause-does : goal.returns-in-Some-clause-does
returns-in-Some-clause-does c = λ env outer s agrees.
    let old = c.args.self.now in
    let all : c.args.statements.now ≡ c.in-Some.first.now ∷ c.in-Some.rest.now = c.in-Some.ensures.cases.0 in
    continues_as env outer old c.plan.new.self _ _ c.plan.result
    (does-Statements c.in-Some.first c.in-Some.rest c.args.statements all env outer (reverse old.pending.items) (operands_of old) s)
    (c.plan.ensures.does env outer s agrees)

pub returns-in-Some-clause-fewer : goal.returns-in-Some-clause-fewer
returns-in-Some-clause-fewer c =
    let all = row-first 2 size_of_statement c.in-Some.first.now c.in-Some.rest.now c.args.statements.now c.in-Some.ensures.cases.0 in
    adds_within c.args.self.now c.plan.new.self c.plan.result _ _ c.plan.ensures.size (omega (arith, all))
