use Rattle.std.proofs.Common.{◌≡◌, ◌≤◌, ℕ, drop, map, max, take}
use Rattle.std.specs.Prelude.{fold}
use Rattle.std.specs.List.{flat_map}
use Rattle.code_scheme.specs.Code.{link_code, passed_code}
use Rattle.code_scheme.specs.Depth.{actuals_depth, call_depth, link_depth, passed_depth}
use Rattle.code_scheme.specs.Sizes.{capped}
use Rattle.code_emitter.proofs.Emitted.{Left}
use Rattle.code_emitter.proofs.Gathering.{Gathered}
use Rattle.code_emitter.proofs.Walking.{Walked}
use Rattle.code_emitter.proofs.expression.+emit_expr.Given as goal

abbrev pub invariant-emit_expr-loop-link : goal.invariant-emit_expr-loop-link
invariant-emit_expr-loop-link l = record {
  emits : Left l.initial.code l.code (flat_map (link_code l.scope) (drop l.link-index l.link-items)) (flat_map (link_code l.scope) l.link-items);
  needs : (first : ℕ) → l.initial.depth ≡ capped first → l.depth ≡ capped (fold max first (map link_depth (take l.link-index l.link-items)));
}

abbrev pub invariant-emit_selectors-loop-selector : goal.invariant-emit_selectors-loop-selector
invariant-emit_selectors-loop-selector l =
    Walked l.scope l.initial.code l.selectors l.indexes l.code (drop l.selector-index l.selectors) l.next l.depth

abbrev pub invariant-emit_designators-loop-designator : goal.invariant-emit_designators-loop-designator
invariant-emit_designators-loop-designator l =
    Gathered l.scope l.initial.code l.designators l.members l.code (drop l.designator-index l.designators) l.next l.some l.depth

abbrev pub invariant-emit_call-loop-actual : goal.invariant-emit_call-loop-actual
invariant-emit_call-loop-actual l =
    let actuals = drop l.actual-index l.actuals in
    record {
      emits : Left l.initial.code l.code (flat_map (passed_code l.scope) actuals) (flat_map (passed_code l.scope) l.actuals);
      deep : l.depth ≤ 4294967295;
      held : l.held ≤ 4294967295;
      needs : capped (max l.depth (actuals_depth l.held (map passed_depth actuals))) ≡ capped (call_depth (map passed_depth l.actuals));
    }
