use Rattle.std.proofs.Common.{◌≡◌, ◌≤◌, ◌++◌, drop, map, max, take}
use Rattle.code_scheme.specs.Code.{arms_code, statements_code, stmt_code}
use Rattle.code_scheme.specs.Depth.{arms_depth, greatest, stmt_depth}
use Rattle.code_scheme.specs.Sizes.{capped}
use Rattle.code_emitter.specs.Emitted.{place_of, IsKept}
use Rattle.code_emitter.specs.Pieces.{jumps_out}
use Rattle.code_emitter.proofs.Emitted.{Left}
use Rattle.code_emitter.proofs.+emit_stmt.Given as goal

abbrev pub invariant-case::emit_arms-loop-arm : goal.invariant-case::emit_arms-loop-arm
invariant-case::emit_arms-loop-arm l =
    let arms = drop l.arm-index l.arm-items in
    record {
      emits : Left l.initial.code l.code (arms_code l.scope 0 l.rows (map stmt_code arms) (place_of l.code))
          (arms_code l.scope 0 l.initial.rows (map stmt_code l.arm-items) (place_of l.initial.code));
      outs : IsKept l.code → l.outs.items ++ jumps_out l.scope l.rows (map stmt_code arms) (place_of l.code) ≡ l.initial.outs.items ++ jumps_out l.scope
          l.initial.rows (map stmt_code l.arm-items) (place_of l.initial.code);
      most : l.depth ≤ 4294967295;
      needs : capped (max l.depth (arms_depth l.rows (map stmt_depth arms))) ≡ capped (arms_depth l.initial.rows (map stmt_depth l.arm-items));
    }

abbrev pub invariant-emit::emit_statements-loop-statement : goal.invariant-emit::emit_statements-loop-statement
invariant-emit::emit_statements-loop-statement l = record {
  emits : Left l.initial.code l.code (statements_code l.scope (drop l.statement-index l.statement-items) (place_of l.code))
      (statements_code l.scope l.statement-items (place_of l.initial.code));
  needs : l.depth ≡ capped (greatest (map stmt_depth (take l.statement-index l.statement-items)));
}
