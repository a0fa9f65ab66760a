use Rattle.std.proofs.Common.{ap, ap₂, Option, [], ◌∷◌, ◌∙◌}
use Rattle.types.specs.declared.form.TypeId.{TypeId}
use Rattle.typed_tree.specs.declared.tree.Tree.{Tree}
use Rattle.checker_rows.specs.Rows.{rows_of, type_at}
use Rattle.checker_state.specs.Bounds.{Bound}
use Rattle.checker_state.specs.Changes.{assigned}
use Rattle.checker_state.specs.View.{said_form}
use Rattle.checker_loops.specs.Aliases.{Stored, unless_alias, with_aliases_stored}
use Rattle.checker_trail.proofs.Ways.{moves-as, moves-then}
use Rattle.checker_trail.specs.Trail.{seen}
use Rattle.cert_checker.specs.View.{row_stored}
use Rattle.cert_checker.proofs.stores.assign.Goals as goal

pub returns : goal.returns
returns c =
    let state = c.args.state.now in
    let tree = state.table.now in
    let aliases = c.args.aliases.now in
    let root = c.args.root in
    let range = c.args.range in
    moves-as (λ known. assigned root range (unless_alias aliases (said_form c.args.form)) c.args.step
    (with_aliases_stored tree aliases (row_stored tree (root, range) ∷ []) known)) (moves-then c.store.ensures c.assign.ensures)
    (ap₂ (λ (form : Option Bound) (id : Option TypeId). assigned root range form c.args.step
    (with_aliases_stored tree aliases ((let stored : Stored = record { type_id = id; range = range } in stored) ∷ []) (seen state)))
    c.form_unless_alias.ensures (c.type_id.ensures ∙ ap (λ (t : Tree). type_at (rows_of t) root) c.table.ensures))
