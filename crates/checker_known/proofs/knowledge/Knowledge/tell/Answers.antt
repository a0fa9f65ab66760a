use Rattle.std.proofs.Common.{◌≡◌, ◌∙◌, Bool, List, ap, map, subst}
use Rattle.checker_state.specs.declared.held.Held.{Held as KeptHeld}
use Rattle.checker_state.specs.State.{Held, gives, table_of}
use Rattle.checker_known.specs.Told.{ToldLeaves}
use Rattle.checker_known.specs.Knowledge.{core, kept_by, viewed}
use Rattle.checker_known.proofs.Arrivals.{both-arrived}
use Rattle.checker_known.proofs.HeldLists.{kept-filter, said_all}
use Rattle.checker_known.proofs.knowledge.Knowledge.tell.Goals as goal

pub returns : goal.returns
returns c =
    let table = table_of c.args.table.now in
    let there = core c.args.self.now in
    let asked = c.args.asked.now.held.items in
    let test = gives table (viewed there) in
    let kept_are : c.in_ok-kept.kept.items ≡ map test (said_all asked) =
    c.in_ok-kept.ensures ∙ ap (λ (held : List KeptHeld). map test (said_all held)) c.deref.ensures.value in
    record {
      kept_are = kept_are;
      held_are =
          subst (λ (stay : List Held). ToldLeaves (said_all c.in_ok-held.held.items) (said_all there.held) stay)
          (ap (λ (kept : List Bool). kept_by kept (said_all asked)) (c.deref-2.ensures.value ∙ kept_are) ∙ kept-filter test (said_all asked))
          c.in_ok-held.ensures;
      rows_are =
          both-arrived table there c.args.one.now.changes.items c.args.other.now.changes.items c.deref-3.result.now c.deref-4.result.now
          c.new-rows.result.items c.arrive.new.rows.items c.arrive-2.new.rows.items c.new-rows.ensures.items c.in_ok-arrive.ensures
          c.in_ok-arrive-2.ensures c.deref-3.ensures.value c.deref-4.ensures.value;
    }
