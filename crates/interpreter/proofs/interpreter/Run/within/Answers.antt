use Rattle.std.proofs.Common.{◌≡◌, ◌+◌, List, [], ◌∷◌, ◌++◌, Option, reverse, arith, refl, sym, ◌∙◌, ap}
use Rattle.interpreter_state.specs.declared.work.Work.{Work}
use Rattle.interpreter_state.specs.Views.{records_in}
use Rattle.meaning.specs.Store.{Place}
use Rattle.meaning.specs.Meaning.{Argument, with_record}
use Rattle.interpreter.specs.declared.interpreter.Run.{Run}
use Rattle.interpreter.specs.Pending.{below_top, opening, operands_of, pending_of, top_place}
use Rattle.interpreter.proofs.Activating.{agrees_opened}
use Rattle.interpreter.proofs.Resuming.{agreed_below, continues_as}
use Rattle.interpreter.proofs.Sizes.{adds_after, waits-size}
use Rattle.interpreter.specs.Size.{pending_size, size_of_with}
use Rattle.interpreter.proofs.interpreter.Run.within.Goals as goal

pub returns-clause-does : goal.returns-clause-does
returns-clause-does c = λ env outer s agrees.
    let old = c.args.self.now in
    let taken = c.popped_place-place.new.self in
    let top = c.popped_place-place.ensures in
    let place = top_place (operands_of old) in
    let there = with_record env place in
    let next = pending_of env outer (reverse taken.pending.items) in
    let mid : Run = record taken { activation = c.open.new.self; callers = c.push.new.self; pending = c.replace-pending.new.dest } in
    let opened = agrees_opened taken mid c.open.new.self c.replace-pending.result place env outer s (agreed_below old taken env outer s top.same agrees)
    c.open.ensures.same (c.in_ok-open.ensures.records ∙ ap (λ (p : Option Place). records_in taken.activation ++ p ∷ []) top.top)
    (ap (λ v. v.items) c.replace-pending.ensures.value) c.in_ok-push.ensures.items refl in
    let records = c.args.records.now in
    let body = c.args.body.now.value in
    let none : mid.pending.items ≡ [] = ap (λ v. v.items) c.replace-pending.ensures.after ∙ c.new.ensures.items in
    continues_as there next old c.do_next.new.self _ _ c.do_next.result
    (ap (λ (r : Run). opening there records body (pending_of env outer (reverse r.pending.items)) (below_top (operands_of old)) s) (sym top.same)
    ∙ ap (λ (l : List Argument). opening there records body next l s) (sym top.below)
    ∙ ap (λ (works : List Work). opening there records body (pending_of there next (reverse works)) (operands_of taken) s) (sym none))
    (c.do_next.ensures.does there next s opened)

pub returns-clause-fewer : goal.returns-clause-fewer
returns-clause-fewer c =
    let old = c.args.self.now in
    let taken = c.popped_place-place.new.self in
    let same = c.popped_place-place.ensures.same in
    let mid : Run = record taken { activation = c.open.new.self; callers = c.push.new.self; pending = c.replace-pending.new.dest } in
    let inner = size_of_with c.args.records.now c.args.body.now.value in
    let none : mid.pending.items ≡ [] = ap (λ v. v.items) c.replace-pending.ensures.after ∙ c.new.ensures.items in
    let waits : pending_size mid ≡ pending_size taken + 1 =
    waits-size taken mid c.replace-pending.result none (ap (λ v. v.items) c.replace-pending.ensures.value) c.in_ok-push.ensures.items in
    let before : pending_size taken ≡ pending_size old = ap pending_size same in
    adds_after old mid c.do_next.new.self c.do_next.result (1 + inner) (2 + inner) (ap (λ (r : Run). r.turns) same) (omega (arith, waits, before))
    c.do_next.ensures.size
