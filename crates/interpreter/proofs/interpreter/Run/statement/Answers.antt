use Rattle.std.proofs.Common.{reverse, refl}
use Rattle.interpreter.specs.Pending.{operands_of}
use Rattle.interpreter.proofs.Inputs.{does-Read}
use Rattle.interpreter.proofs.Resuming.{continues_as, goes_on_to}
use Rattle.interpreter.proofs.Unrolling.{entered, does-Empty, does-Assign, does-Copy, does-Write, does-Compound}
use Rattle.interpreter.proofs.Unrolling.{does-If, does-While, does-Repeat, does-For, does-Case, does-With, does-procedure}
use Rattle.interpreter.proofs.interpreter.Run.statement.Goals as goal

pub returns-in-Empty-clause-does : goal.returns-in-Empty-clause-does
returns-in-Empty-clause-does c = λ env outer s agrees.
    let old = c.args.self.now in
    goes_on_to env outer old old (entered c.in-Empty.number env s) (reverse old.pending.items) (operands_of old) _
    agrees refl refl
    (does-Empty c.in-Empty.number c.args.statement.now c.in-Empty.is env outer (reverse old.pending.items) (operands_of old) s)

pub returns-in-Assign-clause-does : goal.returns-in-Assign-clause-does
returns-in-Assign-clause-does c = λ env outer s agrees.
    let old = c.args.self.now in
    let given = c.in-Assign.assignment in
    continues_as env outer old c.assignment.new.self _ _ c.assignment.result
    (does-Assign given c.args.statement.now c.in-Assign.is env outer (reverse old.pending.items) (operands_of old) s)
    (c.assignment.ensures.does env outer (entered given.target.number env (entered given.number env s)) agrees)

pub returns-in-Copy-clause-does : goal.returns-in-Copy-clause-does
returns-in-Copy-clause-does c = λ env outer s agrees.
    let old = c.args.self.now in
    let given = c.in-Copy.copying in
    continues_as env outer old c.copying.new.self _ _ c.copying.result
    (does-Copy given c.args.statement.now c.in-Copy.is env outer (reverse old.pending.items) (operands_of old) s)
    (c.copying.ensures.does env outer (entered given.target.number env (entered given.number env s)) agrees)

pub returns-in-Write-clause-does : goal.returns-in-Write-clause-does
returns-in-Write-clause-does c = λ env outer s agrees.
    let old = c.args.self.now in
    let given = c.in-Write.writing in
    continues_as env outer old c.parameters.new.self _ _ c.parameters.result
    (does-Write given c.args.statement.now c.in-Write.is c.deref.result c.deref.ensures.value env outer (reverse old.pending.items)
    (operands_of old) s)
    (c.parameters.ensures.does env outer (entered given.number env s) agrees)

pub returns-in-Read-clause-does : goal.returns-in-Read-clause-does
returns-in-Read-clause-does c = λ env outer s agrees.
    let old = c.args.self.now in
    let given = c.in-Read.reading in
    continues_as env outer old c.variables.new.self _ _ c.variables.result
    (does-Read given c.args.statement.now c.in-Read.is c.deref-in-Read.result c.deref-in-Read.ensures.value env outer (reverse old.pending.items)
    (operands_of old) s)
    (c.variables.ensures.does env outer (entered given.number env s) agrees)

pub returns-in-Compound-clause-does : goal.returns-in-Compound-clause-does
returns-in-Compound-clause-does c = λ env outer s agrees.
    let old = c.args.self.now in
    continues_as env outer old c.statements.new.self _ _ c.statements.result
    (does-Compound c.in-Compound.number c.in-Compound.statements c.args.statement.now c.in-Compound.is c.deref-in-Compound.result
    c.deref-in-Compound.ensures.value env outer (reverse old.pending.items) (operands_of old) s)
    (c.statements.ensures.does env outer (entered c.in-Compound.number env s) agrees)

pub returns-in-If-clause-does : goal.returns-in-If-clause-does
returns-in-If-clause-does c = λ env outer s agrees.
    let old = c.args.self.now in
    let branches = c.in-If in
    continues_as env outer old c.plan.new.self _ _ c.plan.result
    (does-If branches.number branches.condition branches.consequence branches.alternative c.args.statement.now branches.is branches.consequence.value
    refl env outer (reverse old.pending.items) (operands_of old) s)
    (c.plan.ensures.does env outer (entered branches.number env s) agrees)

pub returns-in-While-clause-does : goal.returns-in-While-clause-does
returns-in-While-clause-does c = λ env outer s agrees.
    let old = c.args.self.now in
    let given = c.in-While in
    continues_as env outer old c.while_round.new.self _ _ c.while_round.result
    (does-While given.head given.body c.args.statement.now given.is c.deref-in-While.result.now c.deref-in-While.ensures env outer
    (reverse old.pending.items) (operands_of old) s)
    (c.while_round.ensures.does env outer (entered given.head.number env s) agrees)

pub returns-in-Repeat-clause-does : goal.returns-in-Repeat-clause-does
returns-in-Repeat-clause-does c = λ env outer s agrees.
    let old = c.args.self.now in
    let given = c.in-Repeat in
    continues_as env outer old c.repeat_round.new.self _ _ c.repeat_round.result
    (does-Repeat given.head given.statements c.args.statement.now given.is given.statements.items refl env outer
    (reverse old.pending.items) (operands_of old) s)
    (c.repeat_round.ensures.does env outer (entered given.head.number env s) agrees)

pub returns-in-For-clause-does : goal.returns-in-For-clause-does
returns-in-For-clause-does c = λ env outer s agrees.
    let old = c.args.self.now in
    let given = c.in-For in
    continues_as env outer old c.plan_values.new.self _ _ c.plan_values.result
    (does-For given.head given.body c.args.statement.now given.is c.deref-in-For.result.now c.deref-in-For.ensures env outer
    (reverse old.pending.items) (operands_of old) s)
    (c.plan_values.ensures.does env outer (entered given.head.number env s) agrees)

pub returns-in-Case-clause-does : goal.returns-in-Case-clause-does
returns-in-Case-clause-does c = λ env outer s agrees.
    let old = c.args.self.now in
    let given = c.in-Case in
    continues_as env outer old c.plan-in-Case.new.self _ _ c.plan-in-Case.result
    (does-Case given.head given.arms c.args.statement.now given.is given.arms.items refl env outer
    (reverse old.pending.items) (operands_of old) s)
    (c.plan-in-Case.ensures.does env outer (entered given.head.number env s) agrees)

pub returns-in-Call-clause-does : goal.returns-in-Call-clause-does
returns-in-Call-clause-does c = λ env outer s agrees.
    let old = c.args.self.now in
    let given = c.in-Call.procedure in
    continues_as env outer old c.procedure.new.self _ _ c.procedure.result
    (does-procedure given c.args.statement.now c.in-Call.is env outer (reverse old.pending.items) (operands_of old) s)
    (c.procedure.ensures.does env outer (entered given.call.number env s) agrees)

pub returns-in-With-clause-does : goal.returns-in-With-clause-does
returns-in-With-clause-does c = λ env outer s agrees.
    let old = c.args.self.now in
    let given = c.in-With in
    continues_as env outer old c.with.new.self _ _ c.with.result
    (does-With given.head given.body c.args.statement.now given.is c.deref-in-With.result.now c.deref-in-With.ensures.value given.body.value refl env outer
    (reverse old.pending.items) (operands_of old) s)
    (c.with.ensures.does env outer (entered given.head.number env s) agrees)
