use Rattle.std.proofs.Common.{◌+◌, ◌*◌, drop, length}
use Rattle.code_scheme.specs.Code.{row_code}
use Rattle.code_scheme.specs.Sizes.{capped}
use Rattle.code_emitter.specs.Emitted.{place_of}
use Rattle.code_emitter.proofs.Emitted.{Left}
use Rattle.code_emitter.proofs.case.emit_row.Given as goal

abbrev pub invariant-loop-constant : goal.invariant-loop-constant
invariant-loop-constant l =
    let arm = capped (place_of l.fn.code + 4 * length l.row + 1) in
    Left l.initial.code l.code (row_code l.scope arm (drop l.constant-index l.row)) (row_code l.scope arm l.row)
