use Rattle.std.proofs.Common.{◌≡◌, drop, map, take}
use Rattle.std.specs.List.{flat_map}
use Rattle.code_scheme.specs.Code.{variable_read_code}
use Rattle.code_scheme.specs.Depth.{greatest, read_depth}
use Rattle.code_scheme.specs.Sizes.{capped}
use Rattle.code_emitter.proofs.Emitted.{Left}
use Rattle.code_emitter.proofs.read.emit_read.Given as goal

abbrev pub invariant-loop-one : goal.invariant-loop-one
invariant-loop-one l = record {
  emits : Left l.initial.code l.code (flat_map (variable_read_code l.scope) (drop l.one-index l.one-items))
      (flat_map (variable_read_code l.scope) l.one-items);
  needs : l.depth ≡ capped (greatest (map read_depth (take l.one-index l.one-items)));
}
