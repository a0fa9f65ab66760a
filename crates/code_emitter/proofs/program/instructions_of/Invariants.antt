use Rattle.std.proofs.Common.{◌≡◌, drop}
use Rattle.code_emitter.proofs.Blocks.{BlocksLeft}
use Rattle.code_emitter.proofs.program.instructions_of.Given as goal

abbrev pub invariant-loop-block : goal.invariant-loop-block
invariant-loop-block l = record {
  number : l.number ≡ l.block-index;
  left : BlocksLeft l.fn.tree l.code l.places.items l.number (drop l.block-index l.block-items);
}
