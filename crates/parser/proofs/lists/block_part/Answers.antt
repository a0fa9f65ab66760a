use Rattle.std.proofs.Common.{◌≡◌, rules, Err, sym, ◌∙◌}
use Rattle.memory.specs.Refused.{the_refusal}
use Rattle.lexer.specs.declared.token.Kind.TheVariants as kind
use Rattle.reading.specs.declared.refusal.Refusal.TheVariants.{Memory}
use Rattle.reading.specs.Declarations as spec
use Rattle.reading.specs.Reading.{is_kind}
use Rattle.parser.proofs.Items.{part_begins, part_left_out, some_go, some_end, some_stop, items_fewer, takes_one}
use Rattle.parser.proofs.lists.block_part.Goals as goal

pub returns-in_default : goal.returns-in_default
returns-in_default g c =
    part_left_out g.I.Item.look c.args.word (g.I.Item.rule c.args.levels) c.args.cursor.now.rest.now c.take_word.new.self.rest.now c.in_default.ensures
    c.new-found.result.items c.new-found.ensures.items

pub loop-found-init : goal.loop-found-init
loop-found-init g c =
    part_begins g.I.Item.look c.args.word (g.I.Item.rule c.args.levels) c.args.cursor.now.rest.now c.take_word.new.self.rest.now c.in-Some.field-0
    c.in-Some.ensures c.new-found.result.items c.new-found.ensures.items

pub returns-in_err-put : goal.returns-in_err-put
returns-in_err-put g c =
    let why = c.in_err-put.field-0.0 in
    let left = c.read.new.cursor in
    let stops : (¬ (why ≡ Memory the_refusal)) → spec.part c.args.word (g.I.Item.rule c.args.levels) c.args.cursor.now.rest.now ≡ Err (why, left.rest.now) =
    some_stop (is_kind kind.Identifier) (g.I.Item.rule c.args.levels) g.I.Item.look c.loop-found.cursor.rest.now c.read.result left c.loop-found.found.items
    c.put.new.list.items c.read.ensures c.loop-found.invariant why c.in_err-put.ensures in
    search rules

pub loop-found-smaller : goal.loop-found-smaller
loop-found-smaller g c =
    items_fewer (is_kind kind.Identifier) (g.I.Item.rule c.args.levels) g.I.Item.look c.loop-found.cursor.rest.now c.read.result c.read.new.cursor
    c.loop-found.found.items c.put.new.list.items c.read.ensures (takes_one c.requires) c.in_ok-put.ensures

pub loop-found-preserved : goal.loop-found-preserved
loop-found-preserved g c =
    some_go (is_kind kind.Identifier) (g.I.Item.rule c.args.levels) g.I.Item.look c.loop-found.cursor.rest.now c.read.result c.read.new.cursor
    c.loop-found.found.items c.put.new.list.items c.read.ensures (takes_one c.requires) c.loop-found.invariant c.in_ok-put.ensures
    (sym c.is_next.ensures ∙ c.if-not-is_next.false)

pub returns-then-not-is_next : goal.returns-then-not-is_next
returns-then-not-is_next g c =
    some_end (is_kind kind.Identifier) (g.I.Item.rule c.args.levels) g.I.Item.look c.loop-found.cursor.rest.now c.read.result c.read.new.cursor
    c.loop-found.found.items c.put.new.list.items c.read.ensures c.loop-found.invariant c.in_ok-put.ensures
    (sym c.is_next.ensures ∙ c.if-not-is_next.true)
