use Rattle.std.proofs.Common.{arith, ◌∙◌, ◌≡◌, ◌+◌, ◌++◌, ℕ, ap, ap₂, map, min, Option}
use Rattle.std.proofs.lemmas.List.{map-append}
use Rattle.types.specs.declared.form.TypeId.{TypeId}
use Rattle.domain.specs.Interval.{Interval}
use Rattle.checker_rows.specs.Rows.{rows_of, type_at}
use Rattle.checker_state.specs.View.{said_reach}
use Rattle.checker_calls.specs.Actuals.{Bearer, Reached}
use Rattle.checker_calls.specs.Exit.{Change, row_change}
use Rattle.checker_calls.specs.ExitView.{said_change}
use Rattle.checker_calls.proofs.LeavesChanged.{leaves-push, leaves-whole}
use Rattle.checker_calls.proofs.changes.add_leaves.Goals as goal

pub loop-place-preserved : goal.loop-place-preserved
loop-place-preserved c =
    let claims = c.args.claims.now in
    let own = c.args.own.first in
    let borne = c.args.borne.first in
    let bear : ℕ → Bearer = λ row. Reached row (said_reach c.args.reach.now) in
    let place = c.loop-place.place in
    let found = c.loop-place.found.items in
    let leaf : Option TypeId → Interval → Change = λ type_id range.
    record { bearer = bear (borne + place); type_id = type_id; range = range } in
    let leaf_is : leaf c.type_id.result c.range.result ≡ row_change claims.tree claims.facts (own + place) (bear (borne + place)) =
    ap₂ leaf (c.type_id.ensures ∙ ap (λ tree. type_at (rows_of tree) (own + place)) c.rows.ensures) c.range.ensures in
    ap (map said_change) c.in_ok-push.ensures.items ∙ map-append said_change found _
    ∙ leaves-push claims.tree claims.facts bear own borne place (map said_change c.args.found.now.items) (map said_change found)
    (leaf c.type_id.result c.range.result) c.loop-place.invariant leaf_is

pub returns : goal.returns
returns c =
    let claims = c.args.claims.now in
    let before = map said_change c.args.found.now.items in
    let bear : ℕ → Bearer = λ row. Reached row (said_reach c.args.reach.now) in
    let place = c.loop-place.place in
    let own = c.args.own in
    let borne = c.args.borne in
    let count : place ≡ min own.count borne.count = omega (arith, c.min-place-end.ensures, c.loop-place.auto.place-end, c.loop-place-test.false) in
    c.loop-place.invariant
    ∙ ap (λ more. before ++ more) (leaves-whole claims.tree claims.facts bear own.first own.count borne.first borne.count place count)
