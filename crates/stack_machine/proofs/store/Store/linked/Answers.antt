use Rattle.std.proofs.Common.{arith, rules, ap, sym, ◌∙◌, ◌≤◌, length}
use Rattle.std.proofs.lemmas.Int.{to_z-of_z}
use Rattle.std.specs.Int.{w32}
use mir.Val.{SFits}
use Rattle.stack_machine.specs.Frames.{◌>>=◌, address_of}
use Rattle.stack_machine.proofs.Used.{linked-number}
use Rattle.stack_machine.proofs.store.Store.linked.Goals as goal

pub returns-in_err-link-clause-value : goal.returns-in_err-link-clause-value
returns-in_err-link-clause-value c =
    let s = c.args.self.now in
    let in_row : c.args.used ≤ length s.cells = omega arith in
    let e = linked-number s.cells c.args.used c.args.frame in_row c.requires.in_frame
    ∙ sym (ap (λ r. r >>= λ link. address_of link c.args.used) c.in_err-link.ensures) in
    rw e (search rules)

pub returns-clause-value : goal.returns-clause-value
returns-clause-value c =
    let s = c.args.self.now in
    let in_row : c.args.used ≤ length s.cells = omega arith in
    let fits : SFits w32 c.in_ok-link.link = search rules in
    (simp to_z-of_z at c.address_of.ensures.value) ∙ ap (λ r. r >>= λ link. address_of link c.args.used) c.in_ok-link.ensures
    ∙ sym (linked-number s.cells c.args.used c.args.frame in_row c.requires.in_frame)
