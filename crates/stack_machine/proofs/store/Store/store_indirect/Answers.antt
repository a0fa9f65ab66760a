use Rattle.std.proofs.Common.{arith, get_or, refl, rules, ◌<◌, ◌≤◌, length, ◌∙◌, ◌+◌, ◌-◌, ap, sym, take, Ok}
use Rattle.std.proofs.lemmas.Int.{to_z-of_z}
use Rattle.std.proofs.lemmas.Option.{slice_get-get_or}
use Rattle.std.specs.Int.{w32}
use mir.Val.{SFits}
use Rattle.stack_machine.specs.declared.cell.Cell.TheVariants.{Undefined}
use Rattle.stack_machine.specs.View.{view}
use Rattle.stack_machine.proofs.Addressed.{store_indirect-used}
use Rattle.stack_machine.proofs.store.Store.store_indirect.Goals as goal

pub returns : goal.returns
returns c =
    let s = c.args.self.now in
    let address = c.in_ok-address.address in
    let fits : SFits w32 address = search rules in
    let in_row : s.used ≤ length s.cells = omega arith in
    let some : 2 ≤ s.used = omega (arith, c.in_ok-has.ensures.within) in
    let top = s.used - 2 + 1 in
    let there : top < length s.cells = omega (arith, some) in (
      store_indirect-used s.cells s.used s.frame s.limit s.size c.in_ok-place.place address (get_or s.cells top Undefined) in_row some
          c.in_ok-place.ensures.within c.in_ok-has.ensures.value c.in_ok-address.ensures (simp to_z-of_z at c.in_ok-place.ensures.value)
          (slice_get-get_or s.cells top Undefined there)
          ∙ ap (λ cs. Ok (record (view s) { cells = take (s.used - 2) cs })) (sym c.copy.ensures),
      refl,
    )
