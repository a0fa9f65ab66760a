use Rattle.std.proofs.Common.{Some, None, map, sym, ap, subst, ◌∙◌}
use Rattle.typed_tree.specs.Loops.{looped, all_inside, inside_of}
use Rattle.typed_tree.proofs.Insides.{inside_while, inside_repeat, inside_for}
use Rattle.resolver.specs.Table.{Meets, meets, controlled}
use Rattle.resolver.proofs.Tables.{loop_met, meets_controlled, next_met, all_met, then_meets}
use Rattle.resolver.proofs.table.+meet.Goals as goal

pub meet-returns-in-While : goal.meet-returns-in-While
meet-returns-in-While t c =
    let w = c.in-While in
    subst (λ i. Meets (meets i) c.args.met.now c.close.new.met)
    (sym (ap inside_of w.is ∙ inside_while w.head w.body))
    (loop_met None w.head.loop_number (inside_of w.body.value) c.args.met.now c.open-row.new.met c.meet-in-While.new.met c.close.new.met _ _
    c.open-row.ensures.begun c.open-row.ensures.row c.open-row.ensures.start
    (subst (λ s. Meets (meets (inside_of s)) c.open-row.new.met c.meet-in-While.new.met) c.deref-in-While.ensures c.meet-in-While.ensures)
    c.close.ensures)

pub meet-returns-in-Repeat : goal.meet-returns-in-Repeat
meet-returns-in-Repeat t c =
    let w = c.in-Repeat in
    let begun = c.open-row-in-Repeat in
    subst (λ i. Meets (meets i) c.args.met.now c.close-in-Repeat.new.met)
    (sym (ap inside_of w.is ∙ inside_repeat w.head w.statements))
    (loop_met None w.head.loop_number (all_inside (map inside_of w.statements.items)) c.args.met.now begun.new.met c.meet_all-in-Repeat.new.met
    c.close-in-Repeat.new.met _ _ begun.ensures.begun begun.ensures.row begun.ensures.start
    (subst (λ l. Meets (meets (all_inside (map inside_of l))) begun.new.met c.meet_all-in-Repeat.new.met) c.deref-in-Repeat.ensures.value
    c.meet_all-in-Repeat.ensures)
    c.close-in-Repeat.ensures)

pub meet-returns-in-For : goal.meet-returns-in-For
meet-returns-in-For t c =
    let w = c.in-For in
    let head = w.head in
    let begun = c.open-row-in-For in
    let inside = looped (Some head.control) head.loop_number (inside_of w.body.value) in
    subst (λ i. Meets (meets i) c.args.met.now c.close-in-For.new.met)
    (sym (ap inside_of w.is ∙ inside_for head w.body))
    (then_meets (controlled head.control) (meets inside) _ (meets_controlled head.control inside) c.args.met.now c.meet_control.new.met
    c.close-in-For.new.met c.meet_control.ensures
    (loop_met (Some head.control) head.loop_number (inside_of w.body.value) c.meet_control.new.met begun.new.met c.meet-in-For.new.met
    c.close-in-For.new.met _ _ begun.ensures.begun begun.ensures.row begun.ensures.start
    (subst (λ s. Meets (meets (inside_of s)) begun.new.met c.meet-in-For.new.met) c.deref-in-For.ensures c.meet-in-For.ensures)
    c.close-in-For.ensures))

-- ---- statements, one after another

pub meet_all-returns : goal.meet_all-returns
meet_all-returns t c =
    all_met c.args.statements.now c.args.met.now c.loop-statement.statement-index c.loop-statement.met c.loop-statement-test.false
    c.loop-statement.invariant

pub meet_all-loop-statement-preserved : goal.meet_all-loop-statement-preserved
meet_all-loop-statement-preserved t c =
    next_met c.args.statements.now c.args.met.now c.loop-statement.statement-index c.statement-item.result c.loop-statement.met c.meet.new.met
    c.loop-statement-test.true c.statement-item.is c.loop-statement.invariant c.meet.ensures
