use Rattle.std.proofs.Common.{◌≡◌, ◌∙◌, ap, ap₂, map, of_z, rules, to_z, w64, ℕ, List, Option}
use Rattle.std.proofs.lemmas.Int.{to_z-of_z}
use Rattle.checker_loops.specs.Growths.{depth_of}
use Rattle.checker_loops.specs.Loops.{Round, touched, with_own}
use Rattle.checker_loops.specs.View.{loop_of_round}
use Rattle.checker_loops.specs.declared.rounds.Round.{Round as KeptRound}
use Rattle.cert_checker.proofs.walk.Walk.turns_in.Goals as goal

pub returns-clause-turns_are : goal.returns-clause-turns_are
returns-clause-turns_are c = λ ready.
    let loop = c.round.ensures ready in
    let depth = c.depth_of.ensures ∙ ap (λ (rounds : List KeptRound). depth_of (map loop_of_round rounds)) c.deref.ensures.value in
    let kept : to_z w64 (of_z w64 c.most.result) ≡ c.most.result = search (rules, to_z-of_z) in
    let most = kept ∙ c.most.ensures in
    let own = ap₂ (λ (own : Option ℕ) (round : Round). touched (with_own own round)) loop.own_is loop.loop_is in
    λ i. record { depth = depth i; most = most i; touched = own i }

pub returns-clause-claims_are : goal.returns-clause-claims_are
returns-clause-claims_are c = λ ready. (c.round.ensures ready).claims_are
