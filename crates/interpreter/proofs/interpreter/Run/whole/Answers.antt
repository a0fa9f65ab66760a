use Rattle.std.proofs.Common.{◌∷◌, map, pos, reverse, ap, ◌∙◌}
use Rattle.interpreter.specs.declared.interpreter.Run.{Run}
use Rattle.meaning.specs.declared.value.Value.TheVariants.{Number}
use Rattle.meaning.specs.Meaning.{OfRow}
use Rattle.interpreter.specs.Pending.{operands_of}
use Rattle.interpreter.proofs.Resuming.{agreed_below, continues_as, goes_on_to}
use Rattle.interpreter.proofs.Unrolling.{entered, does-Text, does-whole-Variable}
use Rattle.interpreter.proofs.interpreter.Run.whole.Goals as goal

pub returns-in_ok-push-in-Text-clause-does : goal.returns-in_ok-push-in-Text-clause-does
returns-in_ok-push-in-Text-clause-does c = λ env outer s agrees.
    let old = c.args.self.now in
    let new = c.push.new.self in
    let text = c.in-Text in
    let row = c.in_ok-row-in-Text.row.items in
    let there = entered text.number env s in
    goes_on_to env outer old new there (reverse old.pending.items) (OfRow row ∷ operands_of old) _
    (agreed_below old new env outer there c.push.ensures.same agrees)
    (ap (λ (r : Run). reverse r.pending.items) c.push.ensures.same) c.in_ok-push-in-Text.ensures.top
    (does-Text text.number text.characters c.args.value.now text.is c.args.indexes.now row
    (c.in_ok-row-in-Text.ensures ∙ ap (map (λ c. Number (pos c))) c.deref.ensures.value) env outer (reverse old.pending.items) (operands_of old) s)

pub returns-in-Variable-clause-does : goal.returns-in-Variable-clause-does
returns-in-Variable-clause-does c = λ env outer s agrees.
    let old = c.args.self.now in
    let given = c.in-Variable in
    continues_as env outer old c.access.new.self _ _ c.access.result
    (does-whole-Variable given.access given.type_id given.cells given.defined c.args.value.now given.is c.args.indexes.now env outer (reverse old.pending.items)
    (operands_of old) s)
    (c.access.ensures.does env outer (entered given.access.number env s) agrees)
