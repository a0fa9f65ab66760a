use Rattle.std.proofs.Common.{refl, arith}
use Rattle.interpreter.specs.declared.interpreter.Run.{Run}
use Rattle.meaning.specs.Meaning.{first_state}
use Rattle.interpreter.specs.Pending.{IsFresh}
use Rattle.interpreter.proofs.Starting.{holds_nothing, ends_as_meant}
use Rattle.interpreter.proofs.interpreter.interpret.Goals as goal

pub returns : goal.returns
returns c =
    let run : Run = record {
      alloc = c.args.alloc;
      tree = c.args.tree;
      store = c.new.result;
      input = c.new-2.result;
      output = c.new-3.result;
      turns = c.args.turns;
      called = 0;
      activation = c.outside.result;
      callers = c.new-4.result;
      operands = c.new-5.result;
      pending = c.new-6.result;
    } in
    let start = first_state c.args.input.now c.args.turns in
    let fresh : IsFresh run start = record {
      visible = c.outside.ensures.visible;
      callers = c.new-4.ensures.items;
      pending = c.new-6.ensures.items;
      called = refl;
      few = omega (arith, c.ranges.turns.fits);
      store = holds_nothing c.new.result c.new.ensures.empty;
      input = c.new-2.ensures;
      output = c.new-3.ensures.items;
      turns = refl;
      activations = refl;
    } in
    ends_as_meant c.args.tree.now c.args.input.now c.args.turns c.execute.new.self c.in_ok-ending.ending (c.in_ok-ending.ensures start fresh)
