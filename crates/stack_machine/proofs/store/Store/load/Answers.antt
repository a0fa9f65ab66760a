use Rattle.std.proofs.Common.{arith, ap, get_or, sym, ◌∙◌, ◌<◌, ◌≤◌, length, Ok}
use Rattle.std.proofs.lemmas.Option.{slice_get-get_or}
use Rattle.stack_machine.specs.declared.cell.Cell.TheVariants.{Undefined}
use Rattle.stack_machine.proofs.Used.{load-used}
use Rattle.stack_machine.proofs.store.Store.load.Goals as goal

pub returns : goal.returns
returns c =
    let s = c.args.self.now in
    let address = c.in_ok-address.address in
    let in_row : s.used ≤ length s.cells = omega arith in
    let there : address < length s.cells = omega (arith, c.in_ok-address.ensures.within) in (
      load-used s.cells s.used s.frame s.limit s.size c.args.level c.args.offset address (get_or s.cells address Undefined) in_row
          c.in_ok-address.ensures.within c.in_ok-has_room_after.ensures.value c.in_ok-address.ensures.value (slice_get-get_or s.cells address Undefined there)
          ∙ ap Ok (sym c.replace_by_copy.ensures.value),
      c.replace_by_copy.ensures.size,
    )
