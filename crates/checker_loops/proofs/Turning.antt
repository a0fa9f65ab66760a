-- Growths where turns begin, one after another, and how deep a for statement stands.
use Rattle.std.proofs.Common.{arith, ◌≡◌, refl, ℕ, suc, ◌<◌, ◌≤◌, Bool, true, false, cond, List, [], ◌∷◌, ◌++◌, filter, length, map, take}
use Rattle.std.proofs.lemmas.List.{length-map, length-take-le}
use Rattle.typed_tree.specs.declared.tree.Tree.{Tree}
use Rattle.certificate.specs.declared.facts.Fact.{Fact as KeptFact}
use Rattle.certificate.specs.Contents.{said_fact}
use Rattle.checker_state.specs.State.{State}
use Rattle.checker_loops.specs.Growths.{Turns, depth_of, growth_begun, growths_begun}
use Rattle.checker_loops.specs.Loops.{Round}
use Rattle.checker_loops.specs.View.{loop_of_round}
use Rattle.checker_loops.specs.declared.rounds.Round.{Round as KeptRound}

pub begun-append : (tree : Tree) (turns : Turns) (facts : List KeptFact) (fact : KeptFact) (state : State)
    → growth_begun tree turns (said_fact fact) (growths_begun tree turns (map said_fact facts) state)
    ≡ growths_begun tree turns (map said_fact (facts ++ fact ∷ [])) state
begun-append tree turns [] fact state = refl
begun-append tree turns (first ∷ facts) fact state = begun-append tree turns facts fact (growth_begun tree turns (said_fact first) state)

-- as many for statements as loops at most
deep-most : (rounds : List Round) → depth_of rounds ≤ length rounds
deep-most [] = omega arith
deep-most (round ∷ rounds) = by round.is_for (filter (λ (round : Round). round.is_for) rounds) (deep-most rounds)
  where
    by : (test : Bool) (rest : List Round) → length rest ≤ length rounds → length (cond test (round ∷ rest) rest) ≤ suc (length rounds)
    by true rest most = omega (arith, most)
    by false rest most = omega (arith, most)

pub depth-most : (rounds : List KeptRound) (i depth : ℕ) → i < length rounds → depth ≡ depth_of (map loop_of_round (take i rounds)) → depth ≤ i
depth-most rounds i depth inside is =
    let most = deep-most (map loop_of_round (take i rounds)) in
    let many = length-map (take i rounds) loop_of_round in
    let count = length-take-le i rounds (omega (arith, inside)) in
    omega (arith, is, most, many, count)
