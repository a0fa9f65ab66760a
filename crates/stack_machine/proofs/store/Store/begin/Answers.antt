use Rattle.std.proofs.Common.{◌∙◌, ◌≤◌, ◌++◌, ap, arith, length, pos, replicate, rules, take}
use Rattle.std.specs.Prelude.{slice_set}
use Rattle.std.proofs.lemmas.List.{length-set}
use Rattle.stack_machine.specs.declared.cell.Cell.TheVariants.{Number, Undefined}
use Rattle.stack_machine.specs.Frames.{Frames}
use Rattle.stack_machine.proofs.Used.{take-two, take-undefined}
use Rattle.stack_machine.proofs.store.Store.begin.Goals as goal

pub returns-clause-fits : goal.returns-clause-fits
returns-clause-fits c = search rules

pub returns-clause-frames : goal.returns-clause-frames
returns-clause-frames c =
    let s = c.args.self.now in
    let zero = Number (pos 0) in
    let two = c.put_number-2.new.self in
    let some : 4 ≤ length s.cells = omega arith in
    let written = c.put_number-2.ensures ∙ ap (λ cs. slice_set cs 1 zero) c.put_number.ensures in
    let long = ap length written ∙ length-set (slice_set s.cells 0 zero) 1 zero ∙ length-set s.cells 0 zero in
    ap (λ cs. let f : Frames = record { cells = cs; frame = 0; limit = 4; size = s.size } in f)
    (ap (take 4) c.undefine.ensures ∙ take-undefined two 2 4 (omega arith) (omega (arith, long, some))
    ∙ ap (λ cs. cs ++ replicate 2 Undefined) (ap (take 2) written ∙ take-two s.cells zero zero (omega (arith, some))))
