use Rattle.std.proofs.Common.{◌≡◌, ◌∙◌, ap, refl, List, [], ℕ, ◌||◌, ◌&&◌}
use Rattle.types.specs.Types.{is_structured}
use Rattle.typed_tree.specs.declared.tree.Tree.{Tree}
use Rattle.typed_tree.specs.Accesses.{origin_of}
use Rattle.domain.specs.Interval.{Interval}
use Rattle.checker_rows.specs.Rows.{rows_accessed}
use Rattle.checker_rows.specs.View.{numbers}
use Rattle.checker_state.specs.State.{State, is_dead}
use Rattle.checker_state.specs.View.{said_reach}
use Rattle.checker_expressions.specs.View.{context_of, state_of}
use Rattle.checker_expressions.specs.Walk.{Context, Walking, ◌>>=◌, give, is_covered, left_open, ranges_of, whole_rows_use, whole_use, with_used}
use Rattle.checker_expressions.proofs.Flows.{goes-alike, goes-then, goes-used}
use Rattle.checker_expressions.proofs.flow.Flow.used_whole.Goals as goal

pub returns : goal.returns
returns c =
    let old = c.args.self.now in
    let mid = c.ranges-ranges.new.self in
    let origin = origin_of c.args.access.now in
    let selectors = c.args.access.now.selectors.items in
    let reach = said_reach c.args.reach.now in
    let site = c.args.defined in
    let tree = old.state.table.now in
    let rows = numbers c.accessed-span.result in
    let rows_are : rows ≡ rows_accessed tree origin selectors =
    c.accessed-span.ensures ∙ ap (λ (t : Tree). rows_accessed t origin selectors) c.table.ensures in
    let given : Walking (List Interval) = λ context state. give (ranges_of state rows) context state in
    let covered : Context → State → _ = λ context state.
    is_dead state || (is_structured context.tree.types c.args.type_id && is_covered context.tree state reach rows) in
    let behind : List Interval → Walking (List Interval) = λ ranges context state. record {
      value = ranges;
      after = with_used reach rows state;
      open_ids = left_open (covered context state) site;
      broken = [];
      linked = [];
    } in
    goes-alike (given >>= behind) (whole_use c.args.type_id origin selectors reach site)
    (λ claims. ap (λ (some : List ℕ). whole_rows_use c.args.type_id some reach site (context_of old claims) (state_of old)) rows_are)
    (goes-then given behind c.ranges-ranges.ensures
    (goes-used (behind c.ranges-ranges.result.items) (covered (context_of mid []) (state_of mid)) site (with_used reach rows) c.ranges-ranges.result.items
    (λ claims. refl) c.covers_whole-is_closed.ensures c.open_unless.ensures c.define_used.ensures))
