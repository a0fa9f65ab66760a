-- What the checker did where it came to the head of a loop, and where it left the loop.
use Rattle.std.proofs.Common.{arith, ◌≡◌, ◌∙◌, refl, sym, ap, ap₂, ℕ, ◌-◌, Bool, Option, None, List, [], ◌∷◌, ◌++◌, append-nil, length, map, take}
use Rattle.std.specs.Global.{Vec}
use Rattle.std.proofs.lemmas.List.{length-append, length-map, map-append, take-map, take_at}
use Rattle.place.specs.declared.Place.{Place as SourcePlace}
use Rattle.typed_tree.specs.declared.tree.Tree.{Tree}
use Rattle.domain.specs.Facts.{Fact}
use Rattle.checker_state.specs.State.{State}
use Rattle.checker_trail.specs.declared.state.State.{State as Kept}
use Rattle.checker_trail.specs.Trail.{Moves, seen}
use Rattle.checker_trail.proofs.Ways as ways
use Rattle.checker_loops.specs.declared.rounds.Round.{Round as KeptRound}
use Rattle.checker_loops.specs.Loops.{Claims, Round, gives_claims, head_of, with_own}
use Rattle.checker_loops.specs.View.{claims_of_round, head_round, loop_of_round}
use Rattle.checker_expressions.specs.declared.fault.Rule.TheVariants.{LoopEntry, LoopTurn}
use Rattle.checker_expressions.specs.declared.flow.Flow.{Flow}
use Rattle.checker_expressions.specs.declared.grounds.Grounds.{Grounds}
use Rattle.checker_expressions.specs.View as expressions
use Rattle.checker_expressions.specs.View.{first_of}
use Rattle.checker_expressions.specs.Walk.{Context, asked, breach_unless, first_breach}
use Rattle.cert_checker.specs.declared.walk.Walk.{Walk}
use Rattle.cert_checker.specs.View.{AreLoops, EntersLoop, IsLoop, LeavesLoop, claims_in, context_of, loop_in}

-- ---- contexts

-- the checker with other grounds and another state, and other loops round it
abbrev by : Walk → Grounds → Tree → List Round → Context
by walk grounds tree rounds =
    record (context_of (record walk { flow = record (walk.flow) { grounds = grounds } })) { tree = tree; rounds = rounds }

-- ---- the head of a loop

module _ (number : ℕ) (place : SourcePlace) (control : Option ℕ) {old : Walk} {flow : Flow} {state : Kept} (round : KeptRound) (rounds : Vec KeptRound)
    (given : Bool) (is_loop : AreLoops (context_of old) old.aliases.now → IsLoop number control old round)
    (given_is : given ≡ gives_claims old.flow.state.table.now (seen old.flow.state) (claims_of_round round).facts) where
  pub head-reached : expressions.FlowGoes (asked given LoopEntry place) old.flow flow tt
      → Moves (head_of flow.state.table.now (head_round round) (claims_of_round round).facts) flow.state state
      → rounds.items ≡ flow.grounds.rounds.items ++ round ∷ []
      → EntersLoop number place control old (record old { flow = record flow { grounds = record (flow.grounds) { rounds = rounds }; state = state } })
  head-reached ask moves rounds_are = record {
    unless_short = λ long.
        let head = moves.unless_short long in
        let asks = ask.unless_short head.was_long in
        record {
          was_long = asks.was_long;
          has_done = λ ready.
              let loop = is_loop ready in
              let told = asks.flowed (context_of old).claims in
              let tree = old.flow.state.table.now in
              let goes = ways.goes-then told.goes head.goes in
              let facts_are : (claims_of_round round).facts ≡ (claims_in number old).facts = ap (λ (c : Claims). c.facts) loop.claims_are in
              let round_is : head_round round ≡ with_own control (loop_in number old) =
              ap₂ (λ (own : Option ℕ) (r : Round). with_own own r) loop.own_is loop.loop_is in
              let all_are : map loop_of_round rounds.items ≡ (context_of old).rounds ++ loop_in number old ∷ [] =
              ap (map loop_of_round) rounds_are ∙ map-append loop_of_round flow.grounds.rounds.items (round ∷ [])
              ∙ ap₂ (λ (first : List Round) (last : Round). first ++ last ∷ [])
              (ap (λ (g : Grounds). map loop_of_round g.rounds.items) told.grounds_are) loop.loop_is in
              record {
                goes = goes;
                context_is = ap₂ (by old flow.grounds) goes.same_table all_are
                    ∙ ap (λ (g : Grounds). by old g tree ((context_of old).rounds ++ loop_in number old ∷ [])) told.grounds_are;
                aliases_are = refl;
                state_is = head.seen_is
                    ∙ ap₂ (λ (t : Tree) (r : Round). head_of t r (claims_of_round round).facts (seen flow.state)) told.goes.same_table round_is
                    ∙ ap₂ (λ (facts : List Fact) (known : State). head_of tree (with_own control (loop_in number old)) facts known) facts_are told.state_is;
                open_is = told.open_is ∙ append-nil old.flow.open_ids.items;
                broken_is = told.broken_is
                    ∙ ap (λ (kept : Bool). first_of old.flow.broken (first_breach (breach_unless kept LoopEntry place)))
                    (given_is ∙ ap (gives_claims tree (seen old.flow.state)) facts_are);
              };
        };
  }

-- ---- outside a loop

-- the last of some is taken away
without-last : {X Y : Type 0} (view : X → Y) (items left : List X) (rounds : List Y) (own : Y) → left ≡ take (length items - 1) items
    → map view items ≡ rounds ++ own ∷ [] → map view left ≡ rounds
without-last {Y = Y} view items left rounds own left_is are =
    let count : length items - 1 ≡ length rounds = omega (arith, length-map items view, ap length are, length-append rounds (own ∷ [])) in
    ap (map view) left_is ∙ sym (take-map view (length items - 1) items) ∙ ap₂ (λ (n : ℕ) (all : List Y). take n all) count are
    ∙ take_at rounds (own ∷ []) (length rounds) refl

module _ (number : ℕ) (place : SourcePlace) {old : Walk} {flow : Flow} (round : KeptRound) (rounds : Vec KeptRound) (given : Bool)
    (is_loop : AreLoops (context_of old) old.aliases.now → IsLoop number None old round)
    (given_is : given ≡ gives_claims old.flow.state.table.now (seen old.flow.state) (claims_of_round round).facts) where
  pub outside-reached : expressions.FlowGoes (asked given LoopTurn place) old.flow flow tt
      → rounds.items ≡ take (length flow.grounds.rounds.items - 1) flow.grounds.rounds.items
      → LeavesLoop number place old (record old { flow = record flow { grounds = record (flow.grounds) { rounds = rounds } } })
  outside-reached ask rounds_are = record {
    unless_short = λ long.
        let asks = ask.unless_short long in
        record {
          was_long = asks.was_long;
          has_done = λ ready outer own are.
              let loop = is_loop ready in
              let told = asks.flowed (context_of old).claims in
              let tree = old.flow.state.table.now in
              let left_are : map loop_of_round rounds.items ≡ outer =
              without-last loop_of_round flow.grounds.rounds.items rounds.items outer own rounds_are
              (ap (λ (g : Grounds). map loop_of_round g.rounds.items) told.grounds_are ∙ are) in
              record {
                goes = told.goes;
                context_is = ap₂ (by old flow.grounds) told.goes.same_table left_are ∙ ap (λ (g : Grounds). by old g tree outer) told.grounds_are;
                aliases_are = refl;
                open_is = told.open_is ∙ append-nil old.flow.open_ids.items;
                broken_is = told.broken_is
                    ∙ ap (λ (kept : Bool). first_of old.flow.broken (first_breach (breach_unless kept LoopTurn place)))
                    (given_is ∙ ap (λ (c : Claims). gives_claims tree (seen old.flow.state) c.facts) loop.claims_are);
              };
        };
  }
