-- What the checker did over two ways from a point, and over a loop.
use Rattle.std.proofs.Common.{None, ◌≡◌, ◌∙◌, refl, sym, ap, ap₂, subst, Option, ℕ, List, [], ◌∷◌, ◌++◌, length}
use Rattle.std.proofs.Common.{append_assoc, append-nil}
use Rattle.place.specs.declared.Place.{Place}
use Rattle.typed_tree.specs.declared.tree.Tree.{Tree}
use Rattle.typed_tree.specs.declared.tree.ForHead.{ForHead}
use Rattle.checker_state.specs.State.{State, table_of}
use Rattle.checker_state.specs.Joins.{joined_states}
use Rattle.checker_trail.specs.declared.state.State.{State as Kept}
use Rattle.checker_known.specs.declared.change.Branch.{Branch}
use Rattle.checker_trail.specs.Meets.{JoinsBehind}
use Rattle.checker_trail.specs.Trail as trail
use Rattle.checker_known.specs.Knowledge.{Core, core}
use Rattle.checker_trail.specs.Trail.{EndsAt, TrailLeaves, Left, seen}
use Rattle.checker_trail.proofs.Ways as ways
use Rattle.domain.specs.Facts.{Fact}
use Rattle.checker_loops.specs.Growths.{Turns}
use Rattle.checker_loops.specs.Loops.{Claims, Round, claims_at, gives_claims, head_of, round_of, with_own}
use Rattle.checker_loops.specs.Ways.{Way}
use Rattle.checker_expressions.specs.declared.fault.Breach.{Breach}
use Rattle.checker_expressions.specs.declared.fault.Rule.TheVariants.{LoopEntry, LoopTurn}
use Rattle.checker_expressions.specs.View.{first_of, state_of}
use Rattle.checker_expressions.specs.Walk.{Context, Walked, Walking, ◌>>=◌, breach_unless, changed_by, first_breach, followed, give, with_state}
use Rattle.cert_checker.specs.declared.walk.Walk.{Walk}
use Rattle.cert_checker.specs.Walk.{either_of, facts_given, here, loop_walk, parted, rounds_by, rounds_of, steady_in, turns_in}
use Rattle.cert_checker.specs.View.{AreLoops, AtHead, Came, EntersLoop, WalkGoes, IsOutside, LeavesLoop, Noted, at_state, claims_in, context_of}
use Rattle.cert_checker.specs.View.{loop_in}
use Rattle.cert_checker.proofs.Steps.{came-give, came-then, first-both, goes-here, goes-then, loops-noted, loops-same, noted-as}
use Rattle.cert_checker.proofs.Steps.{noted-then}

-- ---- back at a mark

-- what a state that is short had to be before
abbrev pub StaysLong : (old new : Kept) → Type 0
StaysLong old new = new.refused ≡ None → old.refused ≡ None

-- a state was taken back to a mark
abbrev pub IsBack : ℕ → (old new : Kept) → Branch → Type 0
IsBack mark old new branch = (start : Kept) → mark ≡ length start.trail.items → trail.TrailGoes start old → TrailLeaves start old new branch

-- a state met a branch from a mark that was walked before
abbrev pub MeetsFirst : ℕ → (old new : Kept) → Branch → Type 0
MeetsFirst mark old new branch = (start : Kept) (end : Core) → mark ≡ length start.trail.items → trail.TrailGoes start old
    → EndsAt (core start.known) branch end → JoinsBehind start end old new

-- the checker whose state was taken back goes by what it went by
pub context-back : (old mid : Walk) (back : Kept) → context_of mid ≡ context_of old → back.table.now ≡ old.flow.state.table.now
    → context_of (at_state back mid) ≡ context_of old
context-back old mid back same same_table =
    ap₂ (λ (tree : Tree) (context : Context). record context { tree = tree }) same_table same

-- ---- two ways

module _ (one other : Walking (Unit {0})) (mark : ℕ) {old mid done : Walk} {back new : Kept} {first : Branch} where
  pub ways-done : mark ≡ length old.flow.state.trail.items → WalkGoes one old mid tt → StaysLong mid.flow.state back
      → IsBack mark mid.flow.state back first → WalkGoes other (at_state back mid) done tt → StaysLong done.flow.state new
      → MeetsFirst mark done.flow.state new first
      → WalkGoes (λ context state. either_of context (one context state) (other context state)) old (at_state new done) tt
  ways-done mark_is one_goes back_long is_back other_goes new_long meets = record {
    unless_short = λ long.
        let second = other_goes.unless_short (new_long long) in
        let begun = one_goes.unless_short (back_long second.was_long) in
        record {
          was_long = begun.was_long;
          has_done = λ ready.
              let context = context_of old in
              let state = state_of old.flow in
              let came = begun.has_done ready in
              let left = ways.took-back mark mark_is came.goes is_back second.was_long in
              let context_is = context-back old mid back came.noted.context_is left.same_table in
              let same : other (context_of (at_state back mid)) (seen back) ≡ other context state =
              ap₂ (λ (c : Context) (s : State). other c s) context_is (ways.left-seen left) in
              let then = subst (λ w. Came w (at_state back mid) done tt) same
              (second.has_done (loops-same old (at_state back mid) context_is came.noted.aliases_are ready)) in
              let met = ways.ways-meet mark mark_is left then.goes meets long in
              let at_back : Noted (one context state) old (at_state back mid) = record {
                context_is = context_is;
                aliases_are = came.noted.aliases_are;
                open_is = came.noted.open_is;
                broken_is = came.noted.broken_is;
              } in
              let noted = noted-then at_back then.noted in
              record {
                goes = met.goes;
                noted = record {
                  context_is = ap (λ (tree : Tree). record (context_of done) { tree = tree })
                      (met.goes.same_table ∙ sym (ap (λ (c : Context). c.tree) noted.context_is)) ∙ noted.context_is;
                  aliases_are = noted.aliases_are;
                  open_is = noted.open_is;
                  broken_is = noted.broken_is;
                };
                value_is = refl;
                state_is = met.seen_is
                    ∙ ap₂ (λ (a b : State). joined_states (table_of context.tree) a b) came.state_is then.state_is;
              };
        };
  }

-- each way from what is known there
pub parted-done : (one_state other_state : State → State) (one other : Walking (Unit {0})) (mark : ℕ) {old taken mid start done : Walk} {back new : Kept}
    {first : Branch} → mark ≡ length old.flow.state.trail.items → WalkGoes (changed_by one_state) old taken tt → WalkGoes one taken mid tt
    → StaysLong mid.flow.state back → IsBack mark mid.flow.state back first
    → WalkGoes (changed_by other_state) (at_state back mid) start tt → WalkGoes other start done tt → StaysLong done.flow.state new
    → MeetsFirst mark done.flow.state new first → WalkGoes (parted one_state other_state one other) old (at_state new done) tt
parted-done one_state other_state one other mark {old = old} {done = done} {new = new} is to_one walked back_long is_back to_other walked_too new_long meets =
    goes-here
    (λ context state. either_of context ((changed_by one_state >>= λ _. one) context state) ((changed_by other_state >>= λ _. other) context state))
    (parted one_state other_state one other) refl
    (ways-done (changed_by one_state >>= λ _. one) (changed_by other_state >>= λ _. other) mark is
    (goes-then (changed_by one_state) (λ _. one) to_one walked) back_long is_back
    (goes-then (changed_by other_state) (λ _. other) to_other walked_too) new_long meets)

-- ---- loops

-- a round of a loop: a piece that ends where it is told whether another turn follows, and what is known where one does
-- and where none does, which may go by the program
abbrev pub round_of_parts : {X : Type 0} → Walking X → (X → State → Walking (Unit {0})) → (Tree → X → State → State) → Walking State
round_of_parts first again out =
    first >>= λ x. (here >>= λ tested. (again x tested >>= λ _ context. give (out context.tree x tested) context))

module _ {X : Type 0} (number : ℕ) (place : Place) (control : Option ℕ) (first : Walking X) (again : X → State → Walking (Unit {0}))
    (out : Tree → X → State → State) (old : Walk) where
  abbrev round : Walking State
  round = round_of_parts first again out

  abbrev inner : Context
  inner = record (context_of old) { rounds = (context_of old).rounds ++ loop_in number old ∷ [] }

  abbrev facts : List Fact
  facts = (claims_in number old).facts

  -- the round from the head of the loop
  abbrev turn : Walked State
  turn = round inner (head_of (context_of old).tree (with_own control (loop_in number old)) facts (state_of old.flow))

  abbrev whole : Walked (Unit {0})
  whole = loop_walk number place control round (context_of old) (state_of old.flow)

  module _ (head : Walk) (at_head : AtHead number place control old head) where
    -- the checker has the aliases of the loops inside it too
    head-ready : AreLoops (context_of old) old.aliases.now → AreLoops (context_of head) head.aliases.now
    head-ready ready =
        subst (λ (context : Context). AreLoops context head.aliases.now) (sym at_head.context_is)
        (subst (AreLoops (context_of old)) (sym at_head.aliases_are) ready)

    module _ (tested turned : Walk) (x : X) (one : Came (first (context_of head) (state_of head.flow)) head tested x)
        (two : Came (again x (state_of tested.flow) (context_of tested) (state_of tested.flow)) tested turned tt) where
      abbrev ended : State
      ended = out turned.flow.state.table.now x (state_of tested.flow)

      round-done : Came turn head turned ended
      round-done =
          subst (λ w. Came w head turned ended)
          (ap₂ (λ (c : Context) (s : State). round c s) at_head.context_is at_head.state_is)
          (came-then first (λ x. (here >>= λ tested. (again x tested >>= λ _ context. give (out context.tree x tested) context))) one
          (came-then (again x (state_of tested.flow)) (λ _ context. give (out context.tree x (state_of tested.flow)) context) two
          (came-give ended turned)))

      module _ (outside : Walk) (is_out : IsOutside number place (context_of old).rounds turned outside) where
        -- what was noted from before the loop to behind it
        loop-noted : Noted whole old outside
        loop-noted =
            let broken = old.flow.broken in
            let came = round-done in
            let entry = breach_unless (gives_claims (context_of old).tree (state_of old.flow) facts) LoopEntry place in
            let end = breach_unless (gives_claims (context_of old).tree turn.after facts) LoopTurn place in
            let within : context_of turned ≡ inner = came.noted.context_is ∙ at_head.context_is in
            record {
              context_is = is_out.context_is ∙ ap (λ (c : Context). record c { rounds = (context_of old).rounds }) within;
              aliases_are = is_out.aliases_are ∙ came.noted.aliases_are ∙ at_head.aliases_are;
              open_is = is_out.open_is ∙ came.noted.open_is ∙ ap (λ ids. ids ++ turn.open_ids) at_head.open_is
                  ∙ ap (λ ids. old.flow.open_ids.items ++ ids) (sym (append-nil turn.open_ids));
              broken_is = is_out.broken_is
                  ∙ ap₂ (λ (c : Context) (s : State).
                  first_of turned.flow.broken (first_breach (breach_unless (gives_claims c.tree s (claims_at c.claims number).facts) LoopTurn place)))
                  within came.state_is
                  ∙ ap (λ (b : Option Breach). first_of b (first_breach end))
                  (came.noted.broken_is ∙ ap (λ (b : Option Breach). first_of b (first_breach turn.broken)) at_head.broken_is
                  ∙ first-both entry turn.broken broken)
                  ∙ first-both (entry ++ turn.broken) end broken
                  ∙ ap (λ b. first_of broken (first_breach b))
                  (append_assoc entry turn.broken end ∙ ap (λ b. entry ++ (turn.broken ++ b)) (sym (append-nil end)));
            }

        -- from where the facts are given, once a turn ended, the state goes back to where it was told whether another follows
        module _ (mark : ℕ) (back : Kept) (branch : Branch) (is : mark ≡ length tested.flow.state.trail.items) (long : back.refused ≡ None)
            (is_back : IsBack mark outside.flow.state back branch) where
          returned : Left tested.flow.state outside.flow.state back branch
          returned =
              ways.took-back mark is (ways.goes-then two.goes is_out.goes) is_back long

          to_back : trail.TrailGoes old.flow.state back
          to_back = ways.goes-then at_head.goes (ways.goes-then one.goes (ways.goes-back returned))

          back-noted : Noted whole old (at_state back outside)
          back-noted =
              let noted = loop-noted in
              record {
                context_is = ap₂ (λ (tree : Tree) (context : Context). record context { tree = tree }) to_back.same_table noted.context_is;
                aliases_are = noted.aliases_are;
                open_is = noted.open_is;
                broken_is = noted.broken_is;
              }

          -- the program is the same behind the turn
          same-program : back.table.now ≡ turned.flow.state.table.now
          same-program = to_back.same_table ∙ sym (ways.goes-then at_head.goes (ways.goes-then one.goes two.goes)).same_table

          loop-came : (new : Walk) → Came (changed_by (out back.table.now x) (context_of (at_state back outside)) (seen back)) (at_state back outside) new tt
              → Came whole old new tt
          loop-came new last = record {
            goes = ways.goes-then to_back last.goes;
            noted = noted-as whole (append-nil whole.open_ids) (append-nil whole.broken) (noted-then back-noted last.noted);
            value_is = refl;
            state_is = last.state_is
                ∙ ap₂ (λ (tree : Tree) (s : State). out tree x s) same-program (ways.left-seen returned) ∙ round-done.value_is;
          }

-- a loop: it is entered, and a turn of it is walked, behind which its facts are given; then the state goes back to where
-- it was told whether another turn follows, and on from there where none does
pub loop-done : {X : Type 0} (number : ℕ) (place : Place) (control : Option ℕ) (first : Walking X) (again : X → State → Walking (Unit {0}))
    (out : Tree → X → State → State) (mark : ℕ) {old head tested turned outside new : Walk} {x : X} {back : Kept} {branch : Branch}
    → EntersLoop number place control old head → WalkGoes first head tested x → mark ≡ length tested.flow.state.trail.items
    → WalkGoes (again x (state_of tested.flow)) tested turned tt → LeavesLoop number place turned outside
    → StaysLong outside.flow.state back → IsBack mark outside.flow.state back branch
    → WalkGoes (changed_by (out back.table.now x)) (at_state back outside) new tt
    → WalkGoes (loop_walk number place control (round_of_parts first again out)) old new tt
loop-done number place control first again out mark {old = old} {head = head} {tested = tested} {turned = turned} {outside = outside} {new = new} {x = x}
    {back = back} {branch = branch} enters first_goes is turn_goes leaves back_long is_back out_goes = record {
      unless_short = λ long.
          let last = out_goes.unless_short long in
          let left = leaves.unless_short (back_long last.was_long) in
          let ended = turn_goes.unless_short left.was_long in
          let told = first_goes.unless_short ended.was_long in
          let entered = enters.unless_short told.was_long in
          record {
            was_long = entered.was_long;
            has_done = λ ready.
                let at_head = entered.has_done ready in
                let ready_inside = head-ready number place control first again out old head at_head ready in
                let one = told.has_done ready_inside in
                let ready_there = loops-noted one.noted ready_inside in
                let two = ended.has_done ready_there in
                let rounds_are = ap (λ (c : Context). c.rounds) (two.noted.context_is ∙ one.noted.context_is ∙ at_head.context_is) in
                let is_out = left.has_done (loops-noted two.noted ready_there) (context_of old).rounds (loop_in number old) rounds_are in
                let noted = back-noted number place control first again out old head at_head tested turned x one two outside is_out mark back branch is
                last.was_long is_back in
                loop-came number place control first again out old head at_head tested turned x one two outside is_out mark back branch is
                last.was_long is_back new (last.has_done (loops-noted noted ready));
          };
    }

-- ---- pieces that are told otherwise

-- three pieces, one after another
pub then-assoc : {A B C : Type 0} (one : Walking A) (two : A → Walking B) (three : B → Walking C) (context : Context) (state : State)
    → ((one >>= two) >>= three) context state ≡ (one >>= λ a. (two a >>= three)) context state
then-assoc one two three context state =
    let first = one context state in
    let second = two first.value context first.after in
    let third = three second.value context second.after in
    ap₂ (λ ids breaches. record third {
      open_ids = ids;
      broken = breaches;
      linked = (first.linked ++ second.linked) ++ third.linked;
    })
    (append_assoc first.open_ids second.open_ids third.open_ids) (append_assoc first.broken second.broken third.broken)
    ∙ ap (λ linked. record third {
      open_ids = first.open_ids ++ (second.open_ids ++ third.open_ids);
      broken = first.broken ++ (second.broken ++ third.broken);
      linked = linked;
    }) (append_assoc first.linked second.linked third.linked)

-- a loop by a round that does the same inside it
pub loop-alike : (number : ℕ) (place : Place) (control : Option ℕ) (one other : Walking State) (context : Context)
    → ((rounds : List Round) (state : State) → one (record context { rounds = rounds }) state ≡ other (record context { rounds = rounds }) state)
    → (state : State) → loop_walk number place control one context state ≡ loop_walk number place control other context state
loop-alike number place control one other context alike state =
    let facts = (claims_at context.claims number).facts in
    let loop = round_of context.tree context.pairs context.claims number in
    let head = head_of context.tree (with_own control loop) facts state in
    ap (λ (w : Walked State). followed (facts_given LoopEntry place facts context state)
    (followed (with_state head context state)
    (followed w (followed (facts_given LoopTurn place facts context w.after) (with_state w.value context w.after)))))
    (alike (context.rounds ++ loop ∷ []) head)

-- the rounds of a for, by what its turns go by
pub rounds-go : (head : ForHead) (body : Walking (Unit {0})) (way steady : Way) (turns : Turns) (claims : Claims) {old new : Walk}
    → (AreLoops (context_of old) old.aliases.now → steady ≡ steady_in (context_of old) head.loop_number way)
    → (AreLoops (context_of old) old.aliases.now → turns ≡ turns_in (context_of old) head.loop_number way)
    → (AreLoops (context_of old) old.aliases.now → claims ≡ claims_in head.loop_number old) → WalkGoes (rounds_by head turns claims.facts steady body) old new
    tt
    → WalkGoes (rounds_of head body way) old new tt
rounds-go head body way steady turns claims {old = old} {new = new} is turns_are claims_are goes = record {
  unless_short = λ long.
      let one = goes.unless_short long in
      record {
        was_long = one.was_long;
        has_done = λ ready.
            let context = context_of old in
            subst (λ (s : Way).
            Came (rounds_by head (turns_in context head.loop_number way) (claims_in head.loop_number old).facts s body context (state_of old.flow)) old new tt)
            (is ready)
            (subst (λ (t : Turns). Came (rounds_by head t (claims_in head.loop_number old).facts steady body context (state_of old.flow)) old new tt)
            (turns_are ready)
            (subst (λ (c : Claims). Came (rounds_by head turns c.facts steady body context (state_of old.flow)) old new tt) (claims_are ready)
            (one.has_done ready)));
      };
}
