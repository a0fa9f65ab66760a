use Rattle.std.proofs.Common.{◌≡◌, ◌∙◌, sym, ap, List, [], ℕ}
use Rattle.typed_tree.specs.declared.tree.Tree.{Tree}
use Rattle.typed_tree.specs.Accesses.{origin_of}
use Rattle.checker_rows.specs.Rows.{rows_accessed}
use Rattle.checker_rows.specs.View.{numbers}
use Rattle.checker_state.specs.Values.{unless_none}
use Rattle.checker_state.specs.View.{said_reach}
use Rattle.checker_state.specs.declared.value.Known.{Known}
use Rattle.checker_trail.proofs.Ways.{moves-then}
use Rattle.checker_expressions.specs.View.{context_of, state_of}
use Rattle.checker_expressions.specs.Walk.{Walked, held_in, is_covered, left_open, rows_use, rows_value, value_use, with_used}
use Rattle.checker_expressions.proofs.Flows.{goes-used}
use Rattle.checker_expressions.proofs.flow.Flow.used.Goals as goal

pub returns : goal.returns
returns c =
    let old = c.args.self.now in
    let holds = c.args.holds in
    let origin = origin_of c.args.access.now in
    let selectors = c.args.access.now.selectors.items in
    let reach = said_reach c.args.reach.now in
    let site = c.args.defined in
    let tree = old.state.table.now in
    let state = state_of old in
    let rows = numbers c.accessed-span.result in
    let known = c.held_in-known.result in
    let rows_are : rows ≡ rows_accessed tree origin selectors =
    c.accessed-span.ensures ∙ ap (λ (t : Tree). rows_accessed t origin selectors) c.table.ensures in
    let known_is : known ≡ rows_value holds state rows = c.held_in-known.ensures ∙ ap (held_in holds) c.joined_ranges.ensures in
    goes-used (value_use holds origin selectors reach site) (is_covered tree state reach rows) site
    (λ before. unless_none known (with_used reach rows before)) known
    (λ claims.
    ap (λ (some : List ℕ). rows_use holds some reach site (context_of old claims) state) (sym rows_are)
    ∙ ap (λ (k : Known). let walked : Walked Known = record {
      value = k;
      after = unless_none k (with_used reach rows state);
      open_ids = left_open (is_covered tree state reach rows) site;
      broken = [];
      linked = [];
    } in walked) (sym known_is))
    c.covers-is_closed.ensures c.open_unless.ensures (moves-then c.define_used.ensures c.unless_none.ensures)
