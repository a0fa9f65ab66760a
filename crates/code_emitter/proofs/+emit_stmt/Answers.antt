use Rattle.std.proofs.Common.{◌≡◌, ◌+◌, [], ◌∷◌, ◌++◌, drop, map, max, ap, sym, ◌∙◌, append_assoc, append-nil, arith}
use Rattle.std.proofs.lemmas.List.{drop_all}
use Rattle.pcode_assembler.specs.declared.instr.Instr.TheVariants as instr
use Rattle.typed_tree.specs.declared.tree.Stmt.TheVariants.{If}
use Rattle.code_scheme.specs.Code.{arms_code, expr_code, for_code, for_next, stmt_code}
use Rattle.code_scheme.specs.Depth.{arms_depth, stmt_depth}
use Rattle.code_scheme.specs.Sizes.{capped}
use Rattle.code_scheme.proofs.Pieces.{arms_depth-none, stmt_code-Compound, stmt_code-For, stmt_code-If-else, stmt_code-Repeat, stmt_code-While}
use Rattle.code_emitter.specs.Emitted.{IsKept, place_of, with_each, with_instr}
use Rattle.code_emitter.specs.Pieces.{arm_code, arm_end, guarded_code, jumps_out}
use Rattle.code_emitter.proofs.Emitted.{gets_is, kept_before, left_is, left_none, left_placed, next_of, place_behind}
use Rattle.code_emitter.proofs.Statements.{arm_ends, arm_gets, arms_none, arms_split, case_gets, for_gets, guarded_gets, if_else_gets, jumps_none}
use Rattle.code_emitter.proofs.Statements.{jumps_split, while_gets}
use Rattle.std.proofs.Common.{rules, length}
use Rattle.code_scheme.specs.Code.{with_code}
use Rattle.code_emitter.specs.Pieces.{among}
use Rattle.code_emitter.proofs.Records.{with_gets}
use Rattle.code_emitter.proofs.+emit_stmt.Goals as goal

pub case::emit_arm-returns-clause-emits : goal.case::emit_arm-returns-clause-emits
case::emit_arm-returns-clause-emits t c =
    let arm = stmt_code c.args.arm.now in
    let last = c.keep_out.new.code in
    let inside = gets_is c.emit_stmt-depth.ensures.emits (ap (λ s. arm s (place_of c.hole-over.new.self)) c.holding.ensures) in
    let set = c.set.ensures
    ∙ ap (λ n. with_instr n (instr.Jump c.place-target.result) last) c.hole-over.ensures.place
    ∙ ap (λ n. with_instr (place_of c.emit_row.new.code) (instr.Jump n) last) c.place-target.ensures.place in
    arm_gets c.args.scope.now c.args.row.now arm c.emit_row.ensures (omega (arith, c.hole-over.ensures.place, c.hole-over.ensures.small))
    c.hole-over.ensures.emits inside c.hole-out.ensures.emits c.keep_out.ensures.emits set

pub case::emit_arm-returns-clause-outs : goal.case::emit_arm-returns-clause-outs
case::emit_arm-returns-clause-outs t c =
    let arm = stmt_code c.args.arm.now in
    let last = c.keep_out.new.code in
    let before = c.args.outs.now.items in
    let inside = gets_is c.emit_stmt-depth.ensures.emits (ap (λ s. arm s (place_of c.hole-over.new.self)) c.holding.ensures) in
    let set = c.set.ensures
    ∙ ap (λ n. with_instr n (instr.Jump c.place-target.result) last) c.hole-over.ensures.place
    ∙ ap (λ n. with_instr (place_of c.emit_row.new.code) (instr.Jump n) last) c.place-target.ensures.place in
    arm_ends c.args.scope.now c.args.row.now arm c.emit_row.ensures (omega (arith, c.hole-over.ensures.place, c.hole-over.ensures.small))
    c.hole-over.ensures.emits inside c.hole-out.ensures.emits c.keep_out.ensures.emits set c.keep_out.new.outs.items before
    (λ kept. c.keep_out.ensures.outs kept ∙ ap (λ n. before ++ (n ∷ [])) c.hole-out.ensures.place)

pub case::emit_arms-loop-arm-preserved : goal.case::emit_arms-loop-arm-preserved
case::emit_arms-loop-arm-preserved t c =
    let scope = c.args.scope.now in
    let items = c.deref-arm-items.result.now in
    let i = c.loop-arm.arm-index in
    let arm = c.arm-item.result in
    let rows = c.loop-arm.rows.now in
    let row = c.in-Some.row.now in
    let others = c.in-Some.others.now in
    let outs = c.loop-arm.outs.items in
    let place = place_of c.loop-arm.code in
    let rest = drop (i + 1) items in
    let next = next_of items i arm c.loop-arm-test.true c.arm-item.is in
    let row_is = c.in-Some.ensures.cases.0 in
    let end = arm_end scope row.items (stmt_code arm) place in
    let jumps = jumps_out scope others (map stmt_code rest) in
    let emitted = gets_is c.emit_arm.ensures.emits (ap (λ r. arm_code scope r (stmt_code arm) place) c.as_slice.ensures.value) in
    let code_split = ap (λ rs. arms_code scope 0 rs (map stmt_code (drop i items)) place) row_is
    ∙ ap (λ ss. arms_code scope 0 (row ∷ others) (map stmt_code ss) place) next
    ∙ arms_split scope row others (stmt_code arm) (map stmt_code rest) place in
    let outs_split = ap (λ rs. jumps_out scope rs (map stmt_code (drop i items)) place) row_is
    ∙ ap (λ ss. jumps_out scope (row ∷ others) (map stmt_code ss) place) next
    ∙ jumps_split scope row others (stmt_code arm) (map stmt_code rest) place in
    let deep : arms_depth rows (map stmt_depth (drop i items)) ≡ max (stmt_depth arm) (arms_depth others (map stmt_depth rest)) =
    ap (λ rs. arms_depth rs (map stmt_depth (drop i items))) row_is ∙ ap (λ ss. arms_depth (row ∷ others) (map stmt_depth ss)) next in
    record {
      emits = left_placed (arms_code scope 0 others (map stmt_code rest)) (left_is c.loop-arm.invariant.emits code_split) emitted;
      outs = λ kept. ap (λ o. o ++ jumps (place_of c.emit_arm.new.code))
          (c.emit_arm.ensures.outs kept ∙ ap (λ r. outs ++ (arm_end scope r (stmt_code arm) place ∷ [])) c.as_slice.ensures.value)
          ∙ append_assoc outs (end ∷ []) (jumps (place_of c.emit_arm.new.code))
          ∙ ap (λ n. outs ++ (end ∷ jumps n)) (place_behind emitted kept)
          ∙ sym (ap (λ js. outs ++ js) outs_split)
          ∙ c.loop-arm.invariant.outs (kept_before emitted kept);
      most = omega (arith, c.loop-arm.invariant.most, c.max-depth.ensures, c.emit_arm.ensures.needs);
      needs = omega (arith, deep, c.loop-arm.invariant.needs, c.loop-arm.invariant.most, c.max-depth.ensures, c.emit_arm.ensures.needs);
    }

pub case::emit_arms-returns-clause-emits : goal.case::emit_arms-returns-clause-emits
case::emit_arms-returns-clause-emits t c =
    let scope = c.args.scope.now in
    let items = c.deref-arm-items.result.now in
    let rows = c.loop-arm.rows.now in
    let place = place_of c.loop-arm.code in
    let none = ap (λ ss. arms_code scope 0 rows (map stmt_code ss) place) (drop_all c.loop-arm.arm-index items c.loop-arm-test.false)
    ∙ arms_none scope 0 rows place in
    gets_is (left_none c.loop-arm.invariant.emits none)
    (ap (λ rs. arms_code scope 0 rs (map stmt_code items) (place_of c.args.code.now)) c.as_slice-rows.ensures.value
    ∙ ap (λ ss. arms_code scope 0 c.args.constants.now.items (map stmt_code ss) (place_of c.args.code.now)) c.deref-arm-items.ensures.value)

pub case::emit_arms-returns-clause-outs : goal.case::emit_arms-returns-clause-outs
case::emit_arms-returns-clause-outs t c = λ kept.
    let scope = c.args.scope.now in
    let items = c.deref-arm-items.result.now in
    let rows = c.loop-arm.rows.now in
    let outs = c.loop-arm.outs.items in
    let before = c.args.outs.now.items in
    let place = place_of c.loop-arm.code in
    let none = ap (λ ss. jumps_out scope rows (map stmt_code ss) place) (drop_all c.loop-arm.arm-index items c.loop-arm-test.false)
    ∙ jumps_none scope rows place in
    sym (append-nil outs)
    ∙ sym (ap (λ js. outs ++ js) none)
    ∙ c.loop-arm.invariant.outs kept
    ∙ ap (λ rs. before ++ jumps_out scope rs (map stmt_code items) (place_of c.args.code.now)) c.as_slice-rows.ensures.value
    ∙ ap (λ ss. before ++ jumps_out scope c.args.constants.now.items (map stmt_code ss) (place_of c.args.code.now)) c.deref-arm-items.ensures.value

pub case::emit_arms-returns-clause-needs : goal.case::emit_arms-returns-clause-needs
case::emit_arms-returns-clause-needs t c =
    let rows = c.loop-arm.rows.now in
    let items = c.deref-arm-items.result.now in
    let none = ap (λ ss. arms_depth rows (map stmt_depth ss)) (drop_all c.loop-arm.arm-index items c.loop-arm-test.false) ∙ arms_depth-none rows in
    let all = c.loop-arm.invariant.needs
    ∙ ap (λ rs. capped (arms_depth rs (map stmt_depth items))) c.as_slice-rows.ensures.value
    ∙ ap (λ ss. capped (arms_depth c.args.constants.now.items (map stmt_depth ss))) c.deref-arm-items.ensures.value in
    omega (arith, all, none, c.loop-arm.invariant.most)

pub case::emit_case-returns-clause-emits : goal.case::emit_case-returns-clause-emits
case::emit_case-returns-clause-emits t c =
    let scope = c.args.scope.now in
    let head = c.args.head.now in
    let arms = map stmt_code c.args.arms.now.items in
    let outs = c.emit_arms-inside.new.outs.items in
    let last = c.put-2.new.self in
    let end = place_of c.put.new.self in
    let places = λ (kept : IsKept c.emit_arms-inside.new.code). c.emit_arms-inside.ensures.outs kept
    ∙ ap (λ o. o ++ jumps_out scope head.constants.items arms (place_of c.emit_expr-index.new.code)) c.new-outs.ensures.items in
    let set = c.set_jumps.ensures
    ∙ ap (λ ps. with_each ps (instr.Jump c.place-target.result) last) c.as_slice.ensures.value
    ∙ ap (λ n. with_each outs (instr.Jump n) last) c.place-target.ensures.place in
    case_gets scope head arms outs c.emit_expr-index.ensures.emits c.emit_arms-inside.ensures.emits places c.put.ensures
    (gets_is c.put-2.ensures (ap (λ n. instr.JumpIfFalse (n + 1) ∷ []) c.place-target.ensures.place)) set

pub emit::emit_for-returns-clause-emits : goal.emit::emit_for-returns-clause-emits
emit::emit_for-returns-clause-emits t c =
    let scope = c.args.scope.now in
    let head = c.args.head.now in
    let body = stmt_code c.args.body.now in
    let way = head.direction in
    let round = place_of c.emit_tests.new.code in
    let done = c.emit_next.new.code in
    let inner = gets_is c.emit_stmt-inside.ensures.emits (ap (λ s. body s (place_of c.emit_begin.new.code)) c.holding.ensures) in
    let next = gets_is c.emit_next.ensures
    (ap (λ n. for_next scope way n (c.place-target.result + 9)) c.place-round.ensures.place
    ∙ ap (λ n. for_next scope way round (n + 9)) c.place-target.ensures.place) in
    let set = c.set.ensures
    ∙ ap (λ n. with_instr n (instr.JumpIfFalse (c.place-target.result + 9)) done) c.hole-jump.ensures.place
    ∙ ap (λ n. with_instr (place_of c.emit_order.new.code) (instr.JumpIfFalse (n + 9)) done) c.place-target.ensures.place in
    for_gets scope head body c.emit_expr-first.ensures.emits c.emit_expr-last.ensures.emits c.emit_order.ensures c.hole-jump.ensures.emits
    c.emit_tests.ensures c.emit_begin.ensures inner next set c.emit_end.ensures

pub emit::emit_guarded-returns-clause-emits : goal.emit::emit_guarded-returns-clause-emits
emit::emit_guarded-returns-clause-emits t c =
    let done = c.emit_stmt-depth.new.code in
    let past = c.args.past in
    let set = c.set.ensures
    ∙ ap (λ n. with_instr n (instr.JumpIfFalse (c.place.result + past)) done) c.hole-jump.ensures.place
    ∙ ap (λ n. with_instr (place_of c.emit_expr-test.new.code) (instr.JumpIfFalse (n + past)) done) c.place.ensures.place in
    guarded_gets past c.args.scope.now (expr_code c.args.scope.now c.args.condition.now) (stmt_code c.args.inside.now) c.emit_expr-test.ensures.emits
    c.hole-jump.ensures.emits c.emit_stmt-depth.ensures.emits set

pub emit::emit_stmt-returns-in-Compound-clause-emits : goal.emit::emit_stmt-returns-in-Compound-clause-emits
emit::emit_stmt-returns-in-Compound-clause-emits t c =
    let scope = c.args.scope.now in
    let place = place_of c.args.code.now in
    gets_is c.emit_statements.ensures.emits
    (sym (ap (λ s. stmt_code s scope place) c.in-Compound.is ∙ stmt_code-Compound scope place c.in-Compound.number c.in-Compound.statements))

pub emit::emit_stmt-returns-in-Some-clause-emits : goal.emit::emit_stmt-returns-in-Some-clause-emits
emit::emit_stmt-returns-in-Some-clause-emits t c =
    let scope = c.args.scope.now in
    let place = place_of c.args.code.now in
    let test = expr_code scope c.in-If.condition in
    let consequence = c.in-If.consequence in
    let alternative = c.in-Some.alternative in
    let last = c.emit_stmt-no.new.code in
    let is = c.in-If.is ∙ ap (λ o. If c.in-If.number c.in-If.condition consequence o) c.in-Some.is in
    let first = gets_is c.emit_guarded-yes.ensures.emits (ap (λ s. guarded_code 1 test (stmt_code s) scope place) c.deref-in-Some.ensures) in
    let other = gets_is c.emit_stmt-no.ensures.emits (ap (λ s. stmt_code s scope (place_of c.hole-over.new.self)) c.deref-in-Some-2.ensures) in
    let set = c.set.ensures
    ∙ ap (λ n. with_instr n (instr.Jump c.place-target.result) last) c.hole-over.ensures.place
    ∙ ap (λ n. with_instr (place_of c.emit_guarded-yes.new.code) (instr.Jump n) last) c.place-target.ensures.place in
    gets_is (if_else_gets scope test (stmt_code consequence.value) (stmt_code alternative.value) first c.hole-over.ensures.emits other set)
    (sym (ap (λ s. stmt_code s scope place) is ∙ stmt_code-If-else scope place c.in-If.number c.in-If.condition consequence alternative))

pub emit::emit_stmt-returns-in-While-clause-emits : goal.emit::emit_stmt-returns-in-While-clause-emits
emit::emit_stmt-returns-in-While-clause-emits t c =
    let scope = c.args.scope.now in
    let place = place_of c.args.code.now in
    let head = c.in-While.head in
    let body = c.in-While.body in
    let test = expr_code scope head.condition in
    let first = gets_is c.emit_guarded-depth.ensures.emits (ap (λ s. guarded_code 1 test (stmt_code s) scope place) c.deref-in-While.ensures) in
    let back = gets_is c.put.ensures (ap (λ n. instr.Jump n ∷ []) c.place-round.ensures.place) in
    gets_is (while_gets scope test (stmt_code body.value) first back)
    (sym (ap (λ s. stmt_code s scope place) c.in-While.is ∙ stmt_code-While scope place head body))

pub emit::emit_stmt-returns-in-Repeat-clause-emits : goal.emit::emit_stmt-returns-in-Repeat-clause-emits
emit::emit_stmt-returns-in-Repeat-clause-emits t c =
    let scope = c.args.scope.now in
    let place = place_of c.args.code.now in
    gets_is c.emit_repeat.ensures.emits
    (sym (ap (λ s. stmt_code s scope place) c.in-Repeat.is ∙ stmt_code-Repeat scope place c.in-Repeat.head c.in-Repeat.statements))

pub emit::emit_stmt-returns-in-For-clause-emits : goal.emit::emit_stmt-returns-in-For-clause-emits
emit::emit_stmt-returns-in-For-clause-emits t c =
    let scope = c.args.scope.now in
    let place = place_of c.args.code.now in
    let head = c.in-For.head in
    gets_is c.emit_for.ensures.emits
    (ap (λ s. for_code head (stmt_code s) scope place) c.deref-in-For.ensures
    ∙ sym (ap (λ s. stmt_code s scope place) c.in-For.is ∙ stmt_code-For scope place head c.in-For.body))

pub with::emit_with-returns-clause-emits : goal.with::emit_with-returns-clause-emits
with::emit_with-returns-clause-emits t c =
    let scope = c.args.scope.now in
    let records = c.as_slice-records.result.now in
    let body = stmt_code c.args.body.now in
    let held = c.emit_records-depth.new.held.items in
    let cells = c.unwrap_or-cells.result in
    let tells = c.held_records-held.ensures.held in
    let many : cells ≡ capped (length records) = search rules in
    let inside = gets_is c.emit_within-inside.ensures.emits
    (ap (λ h. body (among scope h cells) (place_of c.emit_records-depth.new.code)) c.as_slice.ensures.value) in
    gets_is (with_gets scope records body held cells c.held_records-held.ensures.few many c.held_records-held.ensures.emits
    (c.emit_records-depth.ensures.emits tells) (c.emit_records-depth.ensures.held tells) inside c.emit_release.ensures)
    (ap (λ rs. with_code rs body scope (place_of c.args.code.now)) c.as_slice-records.ensures.value)
