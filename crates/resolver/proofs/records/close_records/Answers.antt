use Rattle.resolver.proofs.OpenedRecords.{all_closed, one_closed}
use Rattle.resolver.proofs.records.close_records.Goals as goal

-- the next one is closed
pub loop-preserved : goal.loop-preserved
loop-preserved c =
    one_closed c.args.written.now c.args.typer.now c.loop.index c.loop.typer c.close_record.new.self c.loop-test.true c.loop.invariant
    c.close_record.ensures

-- all are closed
pub returns : goal.returns
returns c = all_closed c.args.written.now c.args.typer.now c.loop.index c.loop.typer c.loop-test.false c.loop.invariant
