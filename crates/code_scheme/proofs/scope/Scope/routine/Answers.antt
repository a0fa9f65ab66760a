use Rattle.std.proofs.Common.{◌≡◌, ◌-◌, ap, sym, ◌∙◌, arith}
use Rattle.std.specs.Prelude.{slice_get}
use Rattle.code_scheme.specs.Scopes.{Scope, called_routine, count, level_of, routine_or_none}
use Rattle.code_scheme.specs.Frames.{frame_at}
use Rattle.code_scheme.proofs.Routines.{known_routine, no_routine_known}
use Rattle.code_scheme.proofs.scope.Scope.routine.Goals as goal

pub returns-then-number-self : goal.returns-then-number-self
returns-then-number-self c =
    let blocks = c.self.inside.blocks.now in
    sym (ap routine_or_none (no_routine_known blocks blocks c.self.inside.frames.now 0 c.args.block c.if-number-self.true))
    ∙ ap (λ (s : Scope). called_routine s c.args.block) c.self.view_is

pub returns : goal.returns
returns c =
    let blocks = c.self.inside.blocks.now in
    let frames = c.self.inside.frames.now in
    let level : c.saturating_sub.result ≡ level_of (slice_get blocks c.args.block) - 1 = omega arith in
    let cells : c.min.result ≡ count (frame_at frames c.args.block).parameters = cc in
    ap (λ n. record { level = n; cells = c.min.result; place = c.args.block }) level
    ∙ ap (λ n. record { level = level_of (slice_get blocks c.args.block) - 1; cells = n; place = c.args.block }) cells
    ∙ sym (ap routine_or_none (known_routine blocks blocks frames 0 c.args.block c.args.block (omega arith) c.if-number-self.false))
    ∙ ap (λ (s : Scope). called_routine s c.args.block) c.self.view_is
