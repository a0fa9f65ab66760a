use Rattle.std.proofs.Common.{rules}
use Rattle.typing.proofs.DenoterRows.{arrays_stop}
use Rattle.typing.proofs.typer.Typer.arrays.Goals as goal

-- the next one is refused
pub returns-in_err-element : goal.returns-in_err-element
returns-in_err-element c =
    let here = c.loop-index in
    let stops = arrays_stop c.args.packed c.args.place c.args.indexes.now here.left.now c.in-Some.before.now c.args.element c.in-Some.index.now here.element
    c.args.self.now here.self c.in_err-element.field-0.0 here.invariant in
    search (rules, stops)
