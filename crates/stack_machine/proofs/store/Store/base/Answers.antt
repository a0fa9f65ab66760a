use Rattle.std.proofs.Common.{sym, ◌∙◌, take, rules}
use Rattle.stack_machine.proofs.Used.{base-linked_ok, base-linked_err}
use Rattle.stack_machine.proofs.store.Store.base.Goals as goal

pub returns-in_err-base-clause-value : goal.returns-in_err-base-clause-value
returns-in_err-base-clause-value c =
    let cells = take c.args.used c.args.self.now.cells in
    let e = sym c.loop-link.invariant.1 ∙ base-linked_err c.args.level c.loop-link._link c.loop-link.base c.in_err-base.field-0.0 cells c.loop-link-test.true
    (sym c.in_err-base.ensures.value) in
    rw e (search rules)

pub loop-link-preserved : goal.loop-link-preserved
loop-link-preserved c =
    let cells = take c.args.used c.args.self.now.cells in (
      c.in_ok-base.ensures.within,
      sym (base-linked_ok c.args.level c.loop-link._link c.loop-link.base c.in_ok-base.base cells c.loop-link-test.true (sym
          c.in_ok-base.ensures.value)) ∙ c.loop-link.invariant.1,
    )
