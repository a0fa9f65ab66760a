use Rattle.std.proofs.Common.{arith, ap, refl, rules, sym, ◌∙◌, ◌+◌, ◌-◌, ◌≤◌, length, take, Ok}
use Rattle.std.proofs.lemmas.Int.{to_z-of_z}
use Rattle.std.specs.Int.{w32}
use mir.Val.{SFits}
use Rattle.stack_machine.specs.View.{view}
use Rattle.stack_machine.proofs.Addressed.{store_many-used}
use Rattle.stack_machine.proofs.store.Store.store_many.Goals as goal

pub returns : goal.returns
returns c =
    let s = c.args.self.now in
    let count = c.args.count in
    let address = c.in_ok-address.address in
    let fits : SFits w32 address = search rules in
    let in_row : s.used ≤ length s.cells = omega arith in
    let first = s.used - count in
    let some : count + 1 ≤ s.used = omega (arith, c.in_ok-has.ensures.within) in (
      store_many-used s.cells s.used s.frame s.limit s.size count c.in_ok-place.place address in_row some
          c.in_ok-place.ensures.within c.in_ok-has.ensures.value c.in_ok-address.ensures (simp to_z-of_z at c.in_ok-place.ensures.value)
          ∙ ap (λ cs. Ok (record (view s) { cells = take (s.used - count - 1) cs })) (sym c.copy_row.ensures),
      refl,
    )
