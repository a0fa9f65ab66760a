use Rattle.std.proofs.Common.{arith, get_or, refl, ◌<◌, ◌≤◌, length, ◌∙◌, ◌-◌, ap, sym, take, Ok}
use Rattle.std.proofs.lemmas.Option.{slice_get-get_or}
use Rattle.stack_machine.specs.declared.cell.Cell.TheVariants.{Undefined}
use Rattle.stack_machine.specs.View.{view}
use Rattle.stack_machine.proofs.Used.{store-used}
use Rattle.stack_machine.proofs.store.Store.store.Goals as goal

pub returns : goal.returns
returns c =
    let s = c.args.self.now in
    let top = s.used - 1 in
    let in_row : s.used ≤ length s.cells = omega arith in
    let some : 1 ≤ s.used = omega arith in
    let there : top < length s.cells = omega arith in (
      store-used s.cells s.used s.frame s.limit s.size c.args.level c.args.offset c.in_ok-address.address (get_or s.cells top Undefined) in_row some
          c.in_ok-address.ensures.within c.in_ok-has.ensures.value c.in_ok-address.ensures.value (slice_get-get_or s.cells top Undefined there)
          ∙ ap (λ cs. Ok (record (view s) { cells = take (s.used - 1) cs })) (sym c.copy.ensures),
      refl,
    )
