use Rattle.std.proofs.Common.{◌∙◌, sym, ap, ap₂, List, Option, None, drop}
use Rattle.std.proofs.lemmas.List.{take_rest}
use Rattle.typed_tree.specs.declared.tree.Designator.{Designator}
use Rattle.typed_tree.specs.declared.tree.Designator.TheVariants.{Single, Range}
use Rattle.domain.specs.Interval.{Interval}
use Rattle.checker_expressions.specs.Walk.{Gathering, between_walk, gathered_by, member_walk}
use Rattle.checker_expressions.proofs.Flows.{goes-as, goes-mapped}
use Rattle.checker_expressions.proofs.InTurn.{designators-cut}
use Rattle.checker_expressions.proofs.flow.Flow.gathered.Goals as goal

pub returns-in-Single : goal.returns-in-Single
returns-in-Single c =
    let it = c.args.gathering in
    let left = it.left.now in
    let site = c.in-Single.site in
    let behind = λ (more : Interval). (let one : Gathering = record { hull = more; left = drop 1 left; first = None } in one) in
    let cut = designators-cut left (Single site) (sym c.is_empty.ensures ∙ c.if-is_empty.false) c.in-Single.is in
    goes-as (sym (ap (λ (d : List Designator). gathered_by d it.first c.args.range it.hull) cut))
    (goes-mapped (member_walk site c.args.range it.hull) behind c.member.ensures
    (ap (λ (d : List Designator). let one : Gathering = record { hull = c.member.result; left = d; first = None } in one) (take_rest left 1)))

pub returns-in-Some : goal.returns-in-Some
returns-in-Some c =
    let it = c.args.gathering in
    let left = it.left.now in
    let site = c.in-Range.site in
    let first = c.in-Some.first in
    let behind = λ (more : Interval). (let one : Gathering = record { hull = more; left = drop 1 left; first = None } in one) in
    let cut = designators-cut left (Range site) (sym c.is_empty.ensures ∙ c.if-is_empty.false) c.in-Range.is in
    goes-as (sym (ap₂ (λ (d : List Designator) (f : Option Interval). gathered_by d f c.args.range it.hull) cut c.in-Some.is))
    (goes-mapped (between_walk site first c.args.range it.hull) behind c.members_between.ensures
    (ap (λ (d : List Designator). let one : Gathering = record { hull = c.members_between.result; left = d; first = None } in one) (take_rest left 1)))
