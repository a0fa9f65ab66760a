use Rattle.checker_state.specs.View.{said_held, said_span}
use Rattle.checker_known.proofs.Listed.{listed-ends, lists-span, lists-spans}
use Rattle.checker_known.proofs.resting.Resting.list.Goals as goal

pub returns-in-Some-clause-lists : goal.returns-in-Some-clause-lists
returns-in-Some-clause-lists c =
    listed-ends (said_held c.args.held.now) _ c.args.self.now c.list_span-in-Some.new.self c.if-not-is_settled.ensures c.ends-inner.ensures
    (lists-spans (said_span c.ends-inner.result.0) c.ends-inner.result.1 c.in-Some.inner (said_held c.args.held.now) c.args.self.now
    c.list_span.new.self c.list_span-in-Some.new.self c.in-Some.is c.list_span.ensures.lists c.list_span-in-Some.ensures.lists)

pub returns-in_default-clause-lists : goal.returns-in_default-clause-lists
returns-in_default-clause-lists c =
    listed-ends (said_held c.args.held.now) _ c.args.self.now c.list_span.new.self c.if-not-is_settled.ensures c.ends-inner.ensures
    (lists-span (said_span c.ends-inner.result.0) c.ends-inner.result.1 (said_held c.args.held.now) c.args.self.now c.list_span.new.self
    c.in_default.is c.list_span.ensures.lists)
