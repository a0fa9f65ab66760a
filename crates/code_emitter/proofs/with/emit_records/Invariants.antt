use Rattle.std.proofs.Common.{◌≡◌, ◌+◌, ◌≤◌, drop, max}
use Rattle.code_scheme.specs.Code.{records_code}
use Rattle.code_scheme.specs.Depth.{records_depth}
use Rattle.code_scheme.specs.Scopes.{with_records}
use Rattle.code_scheme.specs.Sizes.{capped}
use Rattle.code_emitter.specs.Emitted.{IsKept}
use Rattle.code_emitter.proofs.Emitted.{Left}
use Rattle.code_emitter.proofs.with.emit_records.Given as goal

abbrev pub invariant-loop-one : goal.invariant-loop-one
invariant-loop-one l =
    let i = l.one-index in
    record {
      emits : (IsKept l.initial.code → l.initial.held.items ≡ l.scope.records)
          → Left l.initial.code l.code (records_code (with_records i l.scope) (drop i l.records)) (records_code l.scope l.records);
      held : (IsKept l.initial.code → l.initial.held.items ≡ l.scope.records) → IsKept l.code → l.held.items ≡ (with_records i l.scope).records;
      cells : l.cells ≡ capped i;
      least : capped i ≤ l.depth;
      most : l.depth ≤ 4294967295;
      needs : capped (max l.depth (records_depth (drop i l.records) + i)) ≡ capped (records_depth l.records);
    }
