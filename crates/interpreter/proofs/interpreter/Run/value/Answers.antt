use Rattle.std.proofs.Common.{reverse, refl}
use Rattle.interpreter.specs.Pending.{operands_of}
use Rattle.interpreter.proofs.Inputs.{does-Input}
use Rattle.interpreter.proofs.Resuming.{continues_as}
use Rattle.interpreter.proofs.Unrolling.{entered, does-Variable, does-Monadic, does-Chain, does-Compare, does-Call, does-Set}
use Rattle.interpreter.proofs.interpreter.Run.value.Goals as goal

pub returns-in-Variable-clause-does : goal.returns-in-Variable-clause-does
returns-in-Variable-clause-does c = λ env outer s agrees.
    let old = c.args.self.now in
    let given = c.in-Variable in
    continues_as env outer old c.access.new.self _ _ c.access.result
    (does-Variable given.access given.indexes given.holds given.defined c.args.expression.now given.is c.deref.result.now c.deref.ensures.value env outer
    (reverse old.pending.items) (operands_of old) s)
    (c.access.ensures.does env outer (entered given.access.number env s) agrees)

pub returns-in-Input-clause-does : goal.returns-in-Input-clause-does
returns-in-Input-clause-does c = λ env outer s agrees.
    let old = c.args.self.now in
    let given = c.in-Input in
    continues_as env outer old c.asked.new.self _ _ c.asked.result
    (does-Input given.number given.asks c.args.expression.now given.is env outer (reverse old.pending.items) (operands_of old) s)
    (c.asked.ensures.does env outer (entered given.number env s) agrees)

pub returns-in-Monadic-clause-does : goal.returns-in-Monadic-clause-does
returns-in-Monadic-clause-does c = λ env outer s agrees.
    let old = c.args.self.now in
    continues_as env outer old c.plan.new.self _ _ c.plan.result
    (does-Monadic c.in-Monadic.number c.in-Monadic.operation c.in-Monadic.operand c.args.expression.now c.in-Monadic.is c.deref-in-Monadic.result
    c.deref-in-Monadic.ensures env outer
    (reverse old.pending.items) (operands_of old) s)
    (c.plan.ensures.does env outer (entered c.in-Monadic.number env s) agrees)

pub returns-in-Chain-clause-does : goal.returns-in-Chain-clause-does
returns-in-Chain-clause-does c = λ env outer s agrees.
    let old = c.args.self.now in
    continues_as env outer old c.plan-in-Chain.new.self _ _ c.plan-in-Chain.result
    (does-Chain c.in-Chain.first c.in-Chain.rest c.args.expression.now c.in-Chain.is c.deref-in-Chain.result c.deref-in-Chain.ensures c.deref-in-Chain-2.result
    c.deref-in-Chain-2.ensures.value env outer (reverse old.pending.items) (operands_of old) s)
    (c.plan-in-Chain.ensures.does env outer s agrees)

pub returns-in-Compare-clause-does : goal.returns-in-Compare-clause-does
returns-in-Compare-clause-does c = λ env outer s agrees.
    let old = c.args.self.now in
    let given = c.in-Compare in
    continues_as env outer old c.plan-in-Compare.new.self _ _ c.plan-in-Compare.result
    (does-Compare given.number given.relation given.left given.left_indexes given.right given.right_indexes c.args.expression.now given.is
    c.deref-in-Compare.result.now c.deref-in-Compare-2.result.now c.deref-in-Compare.ensures.value c.deref-in-Compare-2.ensures.value env outer
    (reverse old.pending.items) (operands_of old) s)
    (c.plan-in-Compare.ensures.does env outer s agrees)

pub returns-in-Call-clause-does : goal.returns-in-Call-clause-does
returns-in-Call-clause-does c = λ env outer s agrees.
    let old = c.args.self.now in
    let given = c.in-Call in
    continues_as env outer old c.call.new.self _ _ c.call.result
    (does-Call given.call given.actuals c.args.expression.now given.is given.call refl c.deref-in-Call.result.now c.deref-in-Call.ensures.value env outer
    (reverse old.pending.items) (operands_of old) s)
    (c.call.ensures.does env outer (entered given.call.number env s) agrees)

pub returns-in-Set-clause-does : goal.returns-in-Set-clause-does
returns-in-Set-clause-does c = λ env outer s agrees.
    let old = c.args.self.now in
    let given = c.in-Set in
    continues_as env outer old c.constructor.new.self _ _ c.constructor.result
    (does-Set given.number given.designators given.members c.args.expression.now given.is c.deref-in-Set.result.now c.deref-in-Set.ensures.value
    c.deref-in-Set-2.result.now c.deref-in-Set-2.ensures.value env outer (reverse old.pending.items) (operands_of old) s)
    (c.constructor.ensures.does env outer (entered given.number env s) agrees)
