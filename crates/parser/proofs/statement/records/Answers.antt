use Rattle.std.proofs.Common.{rules, ◌≡◌, Err}
use Rattle.memory.specs.Refused.{the_refusal}
use Rattle.lexer.specs.declared.token.Symbol.TheVariants as symbol
use Rattle.reading.specs.declared.refusal.Refusal.TheVariants.{Memory}
use Rattle.reading.specs.Reading.{separated}
use Rattle.reading.specs.Statements.{record_variable}
use Rattle.reading.specs.Trees.{record_outline}
use Rattle.reading.proofs.Uses.{record_variable_no_more}
use Rattle.parser.proofs.Listed.{listed_goes, listed_fewer, listed_ends, listed_stops}
use Rattle.parser.proofs.statement.records.Goals as goal

pub returns-in_err-put : goal.returns-in_err-put
returns-in_err-put c =
    let why = c.in_err-put.field-0.0 in
    let left = c.record_variable.new.cursor in
    let stops : (¬ (why ≡ Memory the_refusal)) → separated symbol.Comma (record_variable c.args.levels) c.args.cursor.now.rest.now ≡ Err (why, left.rest.now) =
    listed_stops record_outline symbol.Comma (record_variable c.args.levels) c.loop-records.cursor.rest.now c.record_variable.result left
    c.loop-records.records.items c.put.new.list.items c.record_variable.ensures c.loop-records.invariant why c.in_err-put.ensures in
    search rules

pub loop-records-smaller : goal.loop-records-smaller
loop-records-smaller c =
    listed_fewer record_outline symbol.Comma (record_variable c.args.levels) c.loop-records.cursor.rest.now c.record_variable.result
    c.record_variable.new.cursor c.loop-records.records.items c.put.new.list.items c.record_variable.ensures (record_variable_no_more c.args.levels)
    c.in_ok-put.ensures c.in-Some.field-0 c.take_symbol.new.self.rest.now c.in-Some.ensures

pub loop-records-preserved : goal.loop-records-preserved
loop-records-preserved c =
    listed_goes record_outline symbol.Comma (record_variable c.args.levels) c.loop-records.cursor.rest.now c.record_variable.result
    c.record_variable.new.cursor c.loop-records.records.items c.put.new.list.items c.record_variable.ensures (record_variable_no_more c.args.levels)
    c.loop-records.invariant c.in_ok-put.ensures c.in-Some.field-0 c.take_symbol.new.self.rest.now c.in-Some.ensures

pub returns-in_default : goal.returns-in_default
returns-in_default c =
    listed_ends record_outline symbol.Comma (record_variable c.args.levels) c.loop-records.cursor.rest.now c.record_variable.result
    c.record_variable.new.cursor c.loop-records.records.items c.put.new.list.items c.record_variable.ensures c.loop-records.invariant c.in_ok-put.ensures
    c.take_symbol.new.self.rest.now c.in_default.ensures
