use Rattle.std.proofs.Common.{◌≡◌, rules, Err}
use Rattle.memory.specs.Refused.{the_refusal}
use Rattle.reading.specs.declared.refusal.Refusal.TheVariants.{Memory}
use Rattle.reading.specs.Reading as spec
use Rattle.parser.proofs.Listed.{listed_begins, listed_goes, listed_fewer, listed_ends, listed_stops, never_more}
use Rattle.parser.proofs.lists.separated.Goals as goal

pub loop-found-init : goal.loop-found-init
loop-found-init g c = listed_begins g.P.Part.look _ c.in_ok-found.found.items c.in_ok-found.ensures.items

pub returns-in_err-put : goal.returns-in_err-put
returns-in_err-put g c =
    let why = c.in_err-put.field-0.0 in
    let left = c.read.new.cursor in
    let stops : (¬ (why ≡ Memory the_refusal)) → spec.separated c.args.symbol g.P.Part.rule c.args.cursor.now.rest.now ≡ Err (why, left.rest.now) =
    listed_stops g.P.Part.look c.args.symbol g.P.Part.rule c.loop-found.cursor.rest.now c.read.result left c.loop-found.found.items
    c.put.new.list.items c.read.ensures c.loop-found.invariant why c.in_err-put.ensures in
    search rules

pub loop-found-smaller : goal.loop-found-smaller
loop-found-smaller g c =
    listed_fewer g.P.Part.look c.args.symbol g.P.Part.rule c.loop-found.cursor.rest.now c.read.result c.read.new.cursor c.loop-found.found.items
    c.put.new.list.items c.read.ensures (never_more c.requires) c.in_ok-put.ensures c.in-Some.field-0 c.take_symbol.new.self.rest.now c.in-Some.ensures

pub loop-found-preserved : goal.loop-found-preserved
loop-found-preserved g c =
    listed_goes g.P.Part.look c.args.symbol g.P.Part.rule c.loop-found.cursor.rest.now c.read.result c.read.new.cursor c.loop-found.found.items
    c.put.new.list.items c.read.ensures (never_more c.requires) c.loop-found.invariant c.in_ok-put.ensures c.in-Some.field-0
    c.take_symbol.new.self.rest.now c.in-Some.ensures

pub returns-in_default : goal.returns-in_default
returns-in_default g c =
    listed_ends g.P.Part.look c.args.symbol g.P.Part.rule c.loop-found.cursor.rest.now c.read.result c.read.new.cursor c.loop-found.found.items
    c.put.new.list.items c.read.ensures c.loop-found.invariant c.in_ok-put.ensures c.take_symbol.new.self.rest.now c.in_default.ensures
