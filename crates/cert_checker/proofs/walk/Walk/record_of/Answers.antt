use Rattle.std.proofs.Common.{◌∙◌, List, ap}
use Rattle.typed_tree.specs.declared.tree.Expr.{Expr}
use Rattle.typed_tree.specs.Entries.{access_entries, index_entries}
use Rattle.checker_expressions.specs.View.{state_of}
use Rattle.checker_expressions.specs.Visits.{all_counted}
use Rattle.checker_expressions.specs.Walk.{Walking, ◌>>=◌, access_walk, give, index_pieces}
use Rattle.cert_checker.specs.View.{context_of}
use Rattle.cert_checker.specs.Walk.{record_walk}
use Rattle.cert_checker.proofs.Steps.{goes-give, goes-here, goes-then}
use Rattle.cert_checker.proofs.walk.Walk.record_of.Goals as goal

pub returns-clause-goes : goal.returns-clause-goes
returns-clause-goes g c =
    let one = c.args.one.now in
    let form : List Expr → Walking (Unit {0}) = λ indexes. access_walk one.access (index_pieces indexes) >>= λ _. give tt in
    goes-here (form c.deref.result.now) (record_walk one)
    (ap (λ (indexes : List Expr). form indexes (context_of c.args.self.now) (state_of c.args.self.now.flow)) c.deref.ensures.value)
    (goes-then (access_walk one.access (index_pieces c.deref.result.now)) (λ _. give tt) c.access-reach.ensures.goes (goes-give tt c.access-reach.new.self))

pub returns-clause-counts : goal.returns-clause-counts
returns-clause-counts g c =
    c.access-reach.ensures.counts
    ∙ ap (λ (indexes : List Expr). all_counted g.C.Count.counted (access_entries c.args.one.now.access (index_entries indexes)) c.args.visits.now)
    c.deref.ensures.value
