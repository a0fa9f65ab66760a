use Rattle.std.proofs.Common.{◌∙◌, sym, ap, not, ◌||◌}
use Rattle.std.specs.List.{list_any}
use Rattle.std.specs.Option.{is_some}
use Rattle.checker_calls.specs.Exit.{Touches, is_row}
use Rattle.checker_calls.specs.ExitView.{common_of, just}
use Rattle.checker_calls.proofs.KnownRanges.{any-just}
use Rattle.checker_calls.proofs.touches.Touches.is_steady.Goals as goal

pub returns-else-not-has : goal.returns-else-not-has
returns-else-not-has c =
    let touches = c.args.self.now in
    let root = c.args.root in
    let changed = list_any (λ change. is_row root change.bearer) touches.changes in
    c.is_some.ensures
    ∙ ap is_some (c.at.ensures ∙ c.self.invariant.1.0 root ∙ ap (λ (kept : Touches). common_of (just root kept.changes)) c.self.view_is)
    ∙ any-just root touches.changes
    ∙ ap (λ b. not b || changed) (sym (sym c.has.ensures ∙ c.if-not-has.false))
