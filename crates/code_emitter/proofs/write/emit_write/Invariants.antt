use Rattle.std.proofs.Common.{◌≡◌, drop, map, take}
use Rattle.std.specs.List.{flat_map}
use Rattle.code_scheme.specs.Code.{parameter_code}
use Rattle.code_scheme.specs.Depth.{greatest, parameter_depth}
use Rattle.code_scheme.specs.Sizes.{capped}
use Rattle.code_emitter.proofs.Emitted.{Left}
use Rattle.code_emitter.proofs.write.emit_write.Given as goal

abbrev pub invariant-loop-parameter : goal.invariant-loop-parameter
invariant-loop-parameter l = record {
  emits : Left l.initial.code l.code (flat_map (parameter_code l.scope) (drop l.parameter-index l.parameter-items))
      (flat_map (parameter_code l.scope) l.parameter-items);
  needs : l.depth ≡ capped (greatest (map parameter_depth (take l.parameter-index l.parameter-items)));
}
