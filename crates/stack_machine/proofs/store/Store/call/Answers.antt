use Rattle.std.proofs.Common.{arith, ap, rules, sym, ◌∙◌, ◌+◌, ◌-◌, ◌≤◌, length, take, Ok}
use Rattle.std.specs.Prelude.{slice_set}
use Rattle.std.proofs.lemmas.Int.{to_z-of_z}
use Rattle.std.specs.Int.{w32}
use mir.Val.{SFits}
use Rattle.stack_machine.specs.declared.cell.Cell.TheVariants.{Number}
use Rattle.stack_machine.specs.Frames.{Frames}
use Rattle.stack_machine.proofs.Called.{called-used}
use Rattle.stack_machine.proofs.store.Store.call.Goals as goal

pub returns-clause-value : goal.returns-clause-value
returns-clause-value c = λ target.
    let s = c.args.self.now in
    let begins = s.used - (c.args.count + 4) in
    let in_row : s.used ≤ length s.cells = omega arith in
    let few : c.args.count + 4 ≤ s.used = omega (arith, c.in_ok-has.ensures.within) in
    let fits : SFits w32 c.index_number.result = search rules in
    called-used s.cells s.used s.frame s.limit s.size c.args.count target c.args.next in_row few c.in_ok-has.ensures.value
    ∙ ap (λ n. let f : Frames = record { cells = take s.used (slice_set s.cells (begins + 2) (Number n)); frame = begins; limit = s.limit; size = s.size }
    in Ok (f, target)) (sym c.index_number.ensures ∙ sym (to_z-of_z w32 c.index_number.result fits))
    ∙ ap (λ cs. let f : Frames = record { cells = take s.used cs; frame = begins; limit = s.limit; size = s.size } in Ok (f, target)) (sym c.put_number.ensures)
