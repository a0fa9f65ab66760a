use Rattle.std.proofs.Common.{◌≡◌, ◌∙◌, ap, ap₂, sym, Bool, List, ◌++◌, map}
use Rattle.std.specs.List.{list_all}
use Rattle.typed_tree.specs.declared.tree.Expr.{Expr}
use Rattle.typed_tree.specs.declared.tree.Link.{Link}
use Rattle.typed_tree.specs.Entries.{entries_of_expression, joined}
use Rattle.checker_state.specs.declared.value.Known.{Known}
use Rattle.checker_expressions.specs.View.{entries_of_link}
use Rattle.checker_expressions.specs.Walk.{Noting, Walking, ◌>>=◌, chain_noted, combined, enter, first_noted, in_turn, joint_of, joins}
use Rattle.checker_expressions.specs.Walk.{link_walk}
use Rattle.checker_expressions.specs.Walk.{noting_walk, operand_noted, operated, piece_of, turns_noted, value_walk, with_noted}
use Rattle.checker_expressions.proofs.Counted.{counts-then}
use Rattle.checker_expressions.proofs.Flows.{goes-as}
use Rattle.checker_expressions.proofs.InTurn.{entries-cut}
use Rattle.checker_expressions.proofs.Notes.{noted-end, noted-entered, noted-last, noted-none, noted-operands, noted-plain, noted-then}
use Rattle.checker_expressions.proofs.Notes.{noted-turn}
use Rattle.checker_expressions.proofs.Unrolled.{entries-Chain, link-walks, noted-Call, noted-Chain, noted-Compare, noted-Constant, noted-Input}
use Rattle.checker_expressions.proofs.Unrolled.{noted-Monadic, noted-Set, noted-Variable, value-Chain, value-Monadic}
use Rattle.checker_expressions.proofs.flow.Flow.+noting.Goals as goal

-- what is noted in an expression
abbrev notes : Expr → Noting
notes e = (piece_of e).noted

pub noting-returns-in-Monadic-clause-goes : goal.noting-returns-in-Monadic-clause-goes
noting-returns-in-Monadic-clause-goes g t c =
    let it = c.in-Monadic in
    let inner = c.deref.result.now in
    let before = c.args.noted.now.items in
    let noting = notes inner in
    let own = λ (e : Expr). with_noted before (piece_of e).noted (enter it.number >>= λ _. (value_walk e >>= operated it.operation)) in
    goes-as
    (sym (ap (noting_walk before) it.is
    ∙ ap₂ (with_noted before) (noted-Monadic it.number it.operation it.operand) (value-Monadic it.number it.operation it.operand)
    ∙ ap own (sym c.deref.ensures)))
    (noted-entered it.number before noting (value_walk inner >>= operated it.operation)
    (noted-last before noting (value_walk inner) (operated it.operation) c.noting-known.ensures.goes c.operated.ensures))

pub noting-returns-in-Chain-clause-goes : goal.noting-returns-in-Chain-clause-goes
noting-returns-in-Chain-clause-goes g t c =
    let it = c.in-Chain in
    let before = c.args.noted.now.items in
    let inside = c.join-inside.result in
    let first = c.deref-in-Chain-2.result.now in
    let links = c.deref-in-Chain-3.result.now in
    let own = λ (b : Bool) (e : Expr) (items : List Link).
    with_noted before (chain_noted b (piece_of e) (map joint_of items)) (value_walk e >>= in_turn (map link_walk items)) in
    let inside_is : inside ≡ list_all (λ link. joins link.operation) it.rest.items =
    c.join-inside.ensures ∙ ap (λ (items : List Link). list_all (λ link. joins link.operation) items) c.deref-in-Chain.ensures.value in
    goes-as
    (sym (ap (noting_walk before) it.is ∙ ap₂ (with_noted before) (noted-Chain it.first it.rest) (value-Chain it.first it.rest)
    ∙ ap (λ (b : Bool). own b it.first.value it.rest.items) (sym inside_is)
    ∙ ap (λ (e : Expr). own inside e it.rest.items) (sym c.deref-in-Chain-2.ensures) ∙ ap (own inside first) (sym c.deref-in-Chain-3.ensures.value)))
    (noted-then before (first_noted inside (piece_of first)) (value_walk first) (turns_noted inside (map joint_of links)) (in_turn (map link_walk links))
    c.noting_first-known.ensures.goes c.noting_in_turn.ensures.goes)

pub noting-returns-in-Chain-clause-counts : goal.noting-returns-in-Chain-clause-counts
noting-returns-in-Chain-clause-counts g t c =
    let it = c.in-Chain in
    counts-then g.C.Count.counted c.args.visits.now (entries_of_expression c.deref-in-Chain-2.result.now)
    (joined (map entries_of_link c.deref-in-Chain-3.result.now))
    (ap entries_of_expression it.is ∙ entries-Chain it.first it.rest
    ∙ ap₂ (λ (e : Expr) (links : List Link). entries_of_expression e ++ joined (map entries_of_link links)) (sym c.deref-in-Chain-2.ensures)
    (sym c.deref-in-Chain-3.ensures.value)) c.noting_first-known.ensures.counts c.noting_in_turn.ensures.counts

pub noting-returns-in-Constant-clause-goes : goal.noting-returns-in-Constant-clause-goes
noting-returns-in-Constant-clause-goes g t c =
    let it = c.in-Constant in
    noted-plain c.args.noted.now.items c.args.expression.now (ap notes it.is ∙ noted-Constant it.number it.value) c.expression.ensures.goes

pub noting-returns-in-Variable-clause-goes : goal.noting-returns-in-Variable-clause-goes
noting-returns-in-Variable-clause-goes g t c =
    let it = c.in-Variable in
    noted-plain c.args.noted.now.items c.args.expression.now (ap notes it.is ∙ noted-Variable it.access it.indexes it.holds it.defined)
    c.expression-in-Variable.ensures.goes

pub noting-returns-in-Set-clause-goes : goal.noting-returns-in-Set-clause-goes
noting-returns-in-Set-clause-goes g t c =
    let it = c.in-Set in
    noted-plain c.args.noted.now.items c.args.expression.now (ap notes it.is ∙ noted-Set it.number it.designators it.members) c.expression-in-Set.ensures.goes

pub noting-returns-in-Compare-clause-goes : goal.noting-returns-in-Compare-clause-goes
noting-returns-in-Compare-clause-goes g t c =
    let it = c.in-Compare in
    noted-plain c.args.noted.now.items c.args.expression.now
    (ap notes it.is ∙ noted-Compare it.number it.relation it.left it.left_indexes it.right it.right_indexes) c.expression-in-Compare.ensures.goes

pub noting-returns-in-Call-clause-goes : goal.noting-returns-in-Call-clause-goes
noting-returns-in-Call-clause-goes g t c =
    let it = c.in-Call in
    noted-plain c.args.noted.now.items c.args.expression.now (ap notes it.is ∙ noted-Call it.call it.actuals) c.expression-in-Call.ensures.goes

pub noting-returns-in-Input-clause-goes : goal.noting-returns-in-Input-clause-goes
noting-returns-in-Input-clause-goes g t c =
    let it = c.in-Input in
    noted-plain c.args.noted.now.items c.args.expression.now (ap notes it.is ∙ noted-Input it.number it.asks) c.expression-in-Input.ensures.goes

-- ---- operators

pub noting_first-returns-then-inside-clause-goes : goal.noting_first-returns-then-inside-clause-goes
noting_first-returns-then-inside-clause-goes g t c =
    let e = c.args.first.now in
    goes-as (sym (ap (λ (b : Bool). with_noted c.args.noted.now.items (first_noted b (piece_of e)) (value_walk e)) c.if-inside.true)) c.noting.ensures.goes

pub noting_first-returns-else-inside-clause-goes : goal.noting_first-returns-else-inside-clause-goes
noting_first-returns-else-inside-clause-goes g t c =
    let e = c.args.first.now in
    let before = c.args.noted.now.items in
    goes-as (sym (ap (λ (b : Bool). with_noted before (first_noted b (piece_of e)) (value_walk e)) c.if-inside.false))
    (noted-none before (value_walk e) c.expression.ensures.goes)

pub noting_in_turn-loop-link-preserved : goal.noting_in_turn-loop-link-preserved
noting_in_turn-loop-link-preserved g t c =
    let here = c.loop-link in
    let items = c.args.links.now in
    let link = c.link-item.result in
    record {
      goes = λ result new goes.
          here.invariant.goes result new
          (noted-turn here.noted.items c.args.inside items here.link-index link here.known c.loop-link-test.true c.link-item.is
          c.noting_link-known.ensures.goes goes);
      counts =
          entries-cut g.C.Count.counted entries_of_link items here.link-index link here.visits c.loop-link-test.true c.link-item.is
          c.noting_link-known.ensures.counts
          ∙ here.invariant.counts;
    }

pub noting_in_turn-returns-clause-goes : goal.noting_in_turn-returns-clause-goes
noting_in_turn-returns-clause-goes g t c =
    let here = c.loop-link in
    here.invariant.goes (record { known = here.known; noted = here.noted.items }) here.self
    (noted-end here.noted.items c.args.inside c.args.links.now here.link-index here.known here.self c.loop-link-test.false)

pub noting_link-returns-clause-goes : goal.noting_link-returns-clause-goes
noting_link-returns-clause-goes g t c =
    let link = c.args.link.now in
    let left = c.args.left in
    let before = c.args.noted.now.items in
    let noting = operand_noted c.args.inside left (piece_of link.operand) in
    goes-as (sym (ap (λ (walk : Known → Walking Known). with_noted before noting (walk left)) (link-walks link)))
    (noted-entered link.number before noting (value_walk link.operand >>= combined link.operation left)
    (noted-last before noting (value_walk link.operand) (combined link.operation left) c.noting_operand-right.ensures.goes c.combined.ensures))

pub noting_operand-returns-then-inside-clause-goes : goal.noting_operand-returns-then-inside-clause-goes
noting_operand-returns-then-inside-clause-goes g t c =
    let e = c.args.operand.now in
    goes-as
    (sym (ap (λ (b : Bool). with_noted c.args.noted.now.items (operand_noted b c.args.left.now (piece_of e)) (value_walk e)) c.if-inside.true))
    c.noting.ensures.goes

pub noting_operand-returns-clause-goes : goal.noting_operand-returns-clause-goes
noting_operand-returns-clause-goes g t c =
    let e = c.args.operand.now in
    let before = c.args.noted.now.items in
    let left = c.args.left.now in
    goes-as (sym (ap (λ (b : Bool). with_noted before (operand_noted b left (piece_of e)) (value_walk e)) c.if-inside.false))
    (noted-operands before left c.expression-right.result (piece_of e) c.expression-right.ensures.goes c.note.ensures)
