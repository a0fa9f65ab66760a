use Rattle.std.proofs.Common.{◌∙◌, ap, sym, map}
use Rattle.typed_tree.specs.declared.tree.Tree.{Tree}
use Rattle.certificate.specs.Contents.{said_fact}
use Rattle.checker_state.specs.Loops.{gives_all}
use Rattle.checker_state.specs.State.{state_gives, table_of}
use Rattle.checker_state.specs.View.{said_claim}
use Rattle.checker_trail.specs.Trail.{seen}
use Rattle.checker_loops.specs.Loops.{asked, asked_of}
use Rattle.checker_loops.specs.View.{asked_at}
use Rattle.checker_loops.proofs.Stepped.{given-row, not-given, rows-whole, said-by-rows}
use Rattle.checker_loops.proofs.claims.gives_fact.Goals as goal

pub loop-row-preserved : goal.loop-row-preserved
loop-row-preserved c =
    let tree = c.table-rows.result.now in
    let state = seen c.args.state.now in
    given-row (state_gives (table_of tree) state) (asked_at tree (said_fact c.args.fact.now)) c.rows_said-span.result.first c.loop-row.row
    c.loop-row.auto.row c.loop-row.invariant
    (ap (state_gives (table_of tree) state) (sym c.asked_at.ensures)
    ∙ ap (λ (t : Tree). state_gives (table_of t) state (said_claim c.asked_at.result)) c.table-rows.ensures ∙ sym c.gives.ensures ∙ c.if-not-gives.false)

pub returns : goal.returns
returns c =
    let tree = c.table-rows.result.now in
    let fact = said_fact c.args.fact.now in
    let state = seen c.args.state.now in
    let span = c.rows_said-span.result in
    sym (ap (λ (t : Tree). gives_all (table_of t) state (asked t fact)) (sym c.table-rows.ensures)
    ∙ ap (gives_all (table_of tree) state)
    (sym (said-by-rows (asked_of tree) tree fact)
    ∙ ap (map (asked_at tree fact))
    (sym (rows-whole span.first span.count c.loop-row.row c.end-row-end.result c.end-row-end.ensures c.loop-row.auto.row-end c.loop-row-test.false
    ∙ c.rows_said-span.ensures)))
    ∙ c.loop-row.invariant)

pub returns-then-not-gives : goal.returns-then-not-gives
returns-then-not-gives c =
    let tree = c.table-rows.result.now in
    let fact = said_fact c.args.fact.now in
    let state = seen c.args.state.now in
    let span = c.rows_said-span.result in
    sym (ap (λ (t : Tree). gives_all (table_of t) state (asked t fact)) (sym c.table-rows.ensures)
    ∙ ap (gives_all (table_of tree) state) (sym (said-by-rows (asked_of tree) tree fact) ∙ ap (map (asked_at tree fact)) (sym c.rows_said-span.ensures))
    ∙ not-given (state_gives (table_of tree) state) (asked_at tree fact) span.first span.count c.loop-row.row c.end-row-end.result c.end-row-end.ensures
    c.loop-row.auto.row c.loop-row-test.true
    (ap (state_gives (table_of tree) state) (sym c.asked_at.ensures)
    ∙ ap (λ (t : Tree). state_gives (table_of t) state (said_claim c.asked_at.result)) c.table-rows.ensures ∙ sym c.gives.ensures ∙ c.if-not-gives.true))
