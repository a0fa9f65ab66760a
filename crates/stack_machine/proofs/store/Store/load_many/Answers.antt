use Rattle.std.proofs.Common.{arith, ap, refl, rules, sym, ◌∙◌, ◌+◌, ◌-◌, ◌<◌, ◌≤◌, length, take, Ok}
use Rattle.std.proofs.lemmas.Int.{to_z-of_z}
use Rattle.std.specs.Int.{w32}
use mir.Val.{SFits}
use Rattle.stack_machine.specs.View.{view}
use Rattle.stack_machine.proofs.Addressed.{load_many-used, room_for}
use Rattle.stack_machine.proofs.Used.{length_used}
use Rattle.stack_machine.proofs.store.Store.load_many.Goals as goal
use Rattle.stack_machine.proofs.store.Store.load_many.Goals.{else-count-gt0-via-then-count-gt0+else-used-count, else-count-gt0-via-else-count-gt0}

pub returns : goal.returns
returns c =
    let s = c.args.self.now in
    let count = c.args.count in
    let address = c.in_ok-address.address in
    let fits : SFits w32 address = search rules in
    let in_row : s.used ≤ length s.cells = omega arith in
    let some : 1 ≤ s.used = omega (arith, c.in_ok-has.ensures.within) in
    let place = c.in_ok-place.place in
    let len = length_used s.cells s.used in_row in
    let used = length (take s.used s.cells) in
    let room : 0 < count → used - 1 + count ≤ s.limit = λ more. elim c.else-count-gt0.branch as (λ _. used - 1 + count ≤ s.limit) [
      | else-count-gt0-via-then-count-gt0+else-used-count w ↦ omega (arith, len, w.if-used-count.false)
      | else-count-gt0-via-else-count-gt0 w ↦ absurd (omega (arith, more, w.if-count-gt0.false))
    ] in (
      load_many-used s.cells s.used s.frame s.limit s.size count c.in_ok-place.place address in_row some
          c.in_ok-place.ensures.within c.in_ok-has.ensures.value (room_for count (view s) room) c.in_ok-address.ensures
          (simp to_z-of_z at c.in_ok-place.ensures.value)
          ∙ ap (λ cs. Ok (record (view s) { cells = take (s.used - 1 + count) cs })) (sym c.copy_row.ensures),
      refl,
    )
