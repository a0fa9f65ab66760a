use Rattle.std.proofs.Common.{refl, rules, sym, subst, ◌∙◌, ◌≡◌}
use Rattle.cert_checker.specs.Promise.{ClosedNeverErr, Valid}
use Rattle.typed_tree.specs.Ids.{AreInOrder}
use Rattle.typed_tree.specs.WellFormed.{IsWellFormed}
use Rattle.analyser.proofs.trimming.reduced.Goals as goal

-- what the checker promises of the verdict that it told holds of the one that is the same
pub returns-in-Ok : goal.returns-in-Ok
returns-in-Ok c =
    let tree = c.args.tree.now in
    let visits : c.in-Ok.told.visits ≡ c.args.verdict.now.visits = c.if-is_same.ensures.visits refl in
    let sites : c.in-Ok.told.open_sites.items ≡ c.args.verdict.now.open_sites.items = c.if-is_same.ensures.sites refl in
    let told = c.in-Ok.ensures in
    record {
      in_order = search rules;
      judged = record {
        valid = subst (Valid tree c.in-Some-2.less) sites told.valid;
        entered = sym visits ∙ told.visits;
        closed_never_err =
            subst (λ sites. IsWellFormed tree → AreInOrder tree.sites.items → ClosedNeverErr tree sites) sites told.closed_never_err;
        states_hold = told.states_hold;
        calls_change = told.calls_change;
      };
    }
