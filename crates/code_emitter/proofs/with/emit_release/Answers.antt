use Rattle.std.proofs.Common.{◌≡◌, ◌+◌, ◌-◌, [], ◌∷◌, ap, arith}
use Rattle.std.specs.Prelude.{suc}
use Rattle.pcode_assembler.specs.declared.instr.Instr.TheVariants as instr
use Rattle.code_scheme.specs.Code.{release_code}
use Rattle.code_emitter.specs.Emitted.{place_of}
use Rattle.code_emitter.proofs.Emitted.{gets_is, left_is, left_none, left_placed}
use Rattle.code_emitter.proofs.with.emit_release.Goals as goal

pub loop-preserved : goal.loop-preserved
loop-preserved c =
    let left = c.args.records - (c.loop.counter + 1) in
    let now = c.loop.code in
    let split : c.args.records - c.loop.counter ≡ suc left = omega (arith, c.loop-test.true) in
    left_placed (release_code left) (left_is c.loop.invariant (ap (λ n. release_code n (place_of now)) split))
    (gets_is c.put.ensures (ap (λ n. instr.JumpIfFalse (n + 1) ∷ []) c.place-target.ensures.place))

pub returns : goal.returns
returns c =
    let none : c.args.records - c.loop.counter ≡ 0 = omega (arith, c.loop-test.false) in
    left_none c.loop.invariant (ap (λ n. release_code n (place_of c.loop.code)) none)
