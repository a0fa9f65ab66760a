use Rattle.std.proofs.Common.{◌≡◌, ◌∙◌, ◌||◌, sym, ap, Bool}
use Rattle.checker_state.specs.State.{is_dead}
use Rattle.checker_expressions.specs.View.{context_of, opened, state_of}
use Rattle.checker_expressions.specs.Walk.{checked}
use Rattle.checker_expressions.proofs.Flows.{goes-alike}
use Rattle.checker_expressions.proofs.flow.Flow.check.Goals as goal
use Rattle.checker_expressions.proofs.flow.Flow.check.Goals.{then-is_dead, else-is_dead}

pub returns : goal.returns
returns c =
    let old = c.args.self.now in
    let dead = is_dead (state_of old) in
    let closed = c.args.closed in
    let site = c.args.site in
    let is : c.if-is_dead.is_closed ≡ (dead || closed) =
    elim c.if-is_dead.branch [
      | then-is_dead w ↦ w.is_closed-is ∙ w.if-is_dead.true ∙ sym (ap (λ (b : Bool). b || closed) (sym c.is_dead.ensures ∙ w.if-is_dead.true))
      | else-is_dead w ↦ w.is_closed-is ∙ sym (ap (λ (b : Bool). b || closed) (sym c.is_dead.ensures ∙ w.if-is_dead.false))
    ] in
    goes-alike (opened c.if-is_dead.is_closed site) (checked closed site)
    (λ claims. ap (λ (b : Bool). opened b site (context_of old claims) (state_of old)) is) c.open_unless.ensures
