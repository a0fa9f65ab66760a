use Rattle.std.proofs.Common.{rules, ◌≡◌, ◌+◌, ◌*◌, get_or, length, ap, ◌∙◌, arith}
use Rattle.std.specs.Prelude.{pos}
use Rattle.std.proofs.lemmas.List.{drop_more}
use Rattle.pcode_assembler.specs.declared.instr.Instr.TheVariants as instr
use Rattle.code_scheme.specs.Code.{comparison, row_code}
use Rattle.code_scheme.specs.Scopes.{held_offset}
use Rattle.code_scheme.specs.Sizes.{capped}
use Rattle.code_emitter.specs.Emitted.{Gets, place_of}
use Rattle.code_emitter.proofs.Emitted.{gets_is, left_is, left_more}
use Rattle.code_emitter.proofs.case.emit_row.Goals as goal

pub loop-constant-preserved : goal.loop-constant-preserved
loop-constant-preserved c =
    let scope = c.args.scope.now in
    let row = c.args.row.now in
    let i = c.loop-constant.constant-index in
    let arm = capped (place_of c.args.code.now + 4 * length row + 1) in
    let next = drop_more row i (pos 0) c.loop-constant-test.true in
    let held : c.load.result ≡ instr.Load 0 (held_offset scope 0) = c.load.ensures ∙ ap (instr.Load 0) c.held_offset-value.ensures in
    let many : c.unwrap_or-constants.result ≡ capped (length row) = search rules in
    let target : c.saturating_add-target.result ≡ arm = omega (arith, many) in
    let piece : Gets c.loop-constant.code c.put_all.new.self (comparison scope arm (get_or row i (pos 0))) = gets_is c.put_all.ensures (search rules) in
    left_more (left_is c.loop-constant.invariant (ap (row_code scope arm) next)) piece
