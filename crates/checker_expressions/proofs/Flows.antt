-- What the checker did over a piece of a program, from what it did over the parts of it.
use Rattle.std.proofs.Common.{◌≡◌, ◌∙◌, sym, ap, ap₂, refl, Bool, ◌||◌, ℕ, List, [], ◌∷◌, ◌++◌, Option, Some, None, map, append_assoc, append-nil}
use Rattle.memory.specs.declared.Refused.{Refused}
use Rattle.typed_tree.specs.declared.tree.Tree.{Tree}
use Rattle.checker_state.specs.State.{State, is_dead}
use Rattle.checker_trail.specs.declared.state.State.{State as Kept}
use Rattle.checker_trail.specs.Trail.{Moves}
use Rattle.checker_trail.proofs.Ways as ways
use Rattle.checker_loops.specs.Loops.{Claims}
use Rattle.checker_loops.specs.View.{loop_of_round}
use Rattle.checker_loops.specs.BlockView.{said_section}
use Rattle.checker_expressions.specs.declared.fault.Breach.{Breach}
use Rattle.checker_expressions.specs.declared.flow.Flow.{Flow}
use Rattle.checker_expressions.specs.declared.grounds.Grounds.{Grounds}
use Rattle.checker_expressions.specs.View.{Flowed, FlowGoes, context_of, first_of, opened, state_of}
use Rattle.checker_expressions.specs.Walk.{Context, Walked, Walking, ◌>>=◌, changed_by, checked, enter, first_breach, give, left_open}

-- ---- breaches

pub first-none : (broken : Option Breach) → first_of broken None ≡ broken
first-none None = refl
first-none (Some breach) = refl

-- the first of two, and then of a third
pub first-both : (old : Option Breach) (one two : List Breach)
    → first_of (first_of old (first_breach one)) (first_breach two) ≡ first_of old (first_breach (one ++ two))
first-both None [] two = refl
first-both None (breach ∷ one) two = refl
first-both (Some first) one two = refl

-- ---- contexts

abbrev context_by : Grounds → Tree → List Claims → Context
context_by grounds tree claims = record {
  version = grounds.version;
  tree = tree;
  claims = claims;
  blocks = map said_section grounds.sections.items;
  pairs = grounds.pairs;
  block = grounds.block;
  rounds = map loop_of_round grounds.rounds.items;
}

-- the same grounds and the same program make the same context
pub context-same : (old new : Flow) (claims : List Claims) → new.grounds ≡ old.grounds → new.state.table.now ≡ old.state.table.now
    → context_of new claims ≡ context_of old claims
context-same old new claims grounds_are table_is =
    ap₂ (λ (grounds : Grounds) (tree : Tree). context_by grounds tree claims) grounds_are table_is

-- ---- one piece behind another

pub goes-then : {A B : Type 0} (first : Walking A) (next : A → Walking B) {old mid new : Flow} {a : A} {b : B}
    → FlowGoes first old mid a → FlowGoes (next a) mid new b → FlowGoes (first >>= next) old new b
goes-then {A = A} {B = B} first next {old = old} {mid = mid} {new = new} {a = a} {b = b} one two = record {
  unless_short = λ long.
      let rest = two.unless_short long in
      let begin = one.unless_short rest.was_long in
      record { was_long = begin.was_long; flowed = λ claims. both claims (begin.flowed claims) (rest.flowed claims) };
}
  where
    both : (claims : List Claims) → Flowed (context_of old claims) first old mid a → Flowed (context_of mid claims) (next a) mid new b
        → Flowed (context_of old claims) (first >>= next) old new b
    both claims one two =
        let context = context_of old claims in
        let was : Walked A = first context (state_of old) in
        let then : Walked B = next was.value context was.after in
        let same : next a (context_of mid claims) (state_of mid) ≡ then =
        ap (λ (c : Context). next a c (state_of mid)) (context-same old mid claims one.grounds_are one.goes.same_table)
        ∙ ap (λ (x : A). next x context (state_of mid)) one.value_is
        ∙ ap (next was.value context) one.state_is in
        record {
          grounds_are = two.grounds_are ∙ one.grounds_are;
          goes = ways.goes-then one.goes two.goes;
          value_is = two.value_is ∙ ap (λ (w : Walked B). w.value) same;
          state_is = two.state_is ∙ ap (λ (w : Walked B). w.after) same;
          open_is =
              two.open_is
              ∙ ap₂ (λ (ids : List ℕ) (w : Walked B). ids ++ w.open_ids) one.open_is same
              ∙ append_assoc old.open_ids.items was.open_ids then.open_ids;
          broken_is =
              two.broken_is
              ∙ ap₂ (λ (broken : Option Breach) (w : Walked B). first_of broken (first_breach w.broken)) one.broken_is same
              ∙ first-both old.broken was.broken then.broken;
        }

-- ---- a piece that is told otherwise

-- a piece that does the same here as another
pub goes-alike : {A : Type 0} (one other : Walking A) {old new : Flow} {a : A}
    → ((claims : List Claims) → one (context_of old claims) (state_of old) ≡ other (context_of old claims) (state_of old))
    → FlowGoes one old new a → FlowGoes other old new a
goes-alike {A = A} one other {old = old} {new = new} {a = a} alike goes = record {
  unless_short = λ long.
      let flows = goes.unless_short long in
      record { was_long = flows.was_long; flowed = λ claims. same claims (flows.flowed claims) };
}
  where
    same : (claims : List Claims) → Flowed (context_of old claims) one old new a → Flowed (context_of old claims) other old new a
    same claims flowed =
        let is = alike claims in
        record {
          grounds_are = flowed.grounds_are;
          goes = flowed.goes;
          value_is = flowed.value_is ∙ ap (λ (w : Walked A). w.value) is;
          state_is = flowed.state_is ∙ ap (λ (w : Walked A). w.after) is;
          open_is = flowed.open_is ∙ ap (λ (w : Walked A). old.open_ids.items ++ w.open_ids) is;
          broken_is = flowed.broken_is ∙ ap (λ (w : Walked A). first_of old.broken (first_breach w.broken)) is;
        }

pub goes-as : {A : Type 0} {one other : Walking A} {old new : Flow} {a : A} → one ≡ other → FlowGoes one old new a → FlowGoes other old new a
goes-as {one = one} {other = other} {old = old} is goes =
    goes-alike one other (λ claims. ap (λ walking. walking (context_of old claims) (state_of old)) is) goes

-- ---- pieces of one step

-- a piece that does this here: it comes to the state to which a step leads
pub goes-by : {A : Type 0} (walking : Walking A) (walked : Walked A) (step : State → State) {old new : Flow} {a : A}
    → ((claims : List Claims) → walking (context_of old claims) (state_of old) ≡ walked) → new.grounds ≡ old.grounds
    → Moves step old.state new.state → a ≡ walked.value → step (state_of old) ≡ walked.after
    → new.open_ids.items ≡ old.open_ids.items ++ walked.open_ids → new.broken ≡ first_of old.broken (first_breach walked.broken)
    → FlowGoes walking old new a
goes-by {A = A} walking walked step {old = old} {new = new} {a = a} is grounds_are moves value_is after_is open_is broken_is = record {
  unless_short = λ long.
      let moved = moves.unless_short long in
      record {
        was_long = moved.was_long;
        flowed = λ claims. record {
          grounds_are = grounds_are;
          goes = moved.goes;
          value_is = value_is ∙ sym (ap (λ (w : Walked A). w.value) (is claims));
          state_is = moved.seen_is ∙ after_is ∙ sym (ap (λ (w : Walked A). w.after) (is claims));
          open_is = open_is ∙ sym (ap (λ (w : Walked A). old.open_ids.items ++ w.open_ids) (is claims));
          broken_is = broken_is ∙ sym (ap (λ (w : Walked A). first_of old.broken (first_breach w.broken)) (is claims));
        };
      };
}

-- nothing changes
stays : (state : Kept) → Moves (λ same. same) state state
stays state = ways.moves-stay (λ same. same) state refl

-- a value alone
pub goes-give : {A : Type 0} (value : A) (flow : Flow) → FlowGoes (give value) flow flow value
goes-give value flow =
    goes-by (give value) (give value (context_of flow []) (state_of flow)) (λ same. same) (λ claims. refl) refl (stays flow.state) refl refl
    (sym (append-nil flow.open_ids.items)) (sym (first-none flow.broken))

-- an entry, which the flow doesn't see
pub goes-entered : (number : ℕ) (flow : Flow) → FlowGoes (enter number) flow flow tt
goes-entered number flow =
    goes-by (enter number) (enter number (context_of flow []) (state_of flow)) (λ same. same) (λ claims. refl) refl (stays flow.state) refl refl
    (sym (append-nil flow.open_ids.items)) (sym (first-none flow.broken))

-- an entry, and then a piece
pub goes-behind : {A : Type 0} (number : ℕ) (next : Walking A) {old new : Flow} {a : A} → FlowGoes next old new a → FlowGoes (enter number >>= λ _. next) old
    new a
goes-behind number next {old = old} goes = goes-then (enter number) (λ _. next) (goes-entered number old) goes

-- what is known changes alone
pub goes-moved : (step : State → State) (old : Flow) {state : Kept} → Moves step old.state state → FlowGoes (changed_by step) old (record old { state = state })
    tt
goes-moved step old moves =
    goes-by (changed_by step) (changed_by step (context_of old []) (state_of old)) step (λ claims. refl) refl moves refl refl
    (sym (append-nil old.open_ids.items)) (sym (first-none old.broken))

-- memory ran out
pub goes-short : {A : Type 0} {refused : Refused} (walking : Walking A) (old new : Flow) (a : A) → new.state.refused ≡ Some refused
    → FlowGoes walking old new a
goes-short {refused = refused} walking old new a short = record {
  unless_short = λ long. absurd (let never : Some refused ≡ None = sym short ∙ long in cc);
}

-- ---- values

-- a piece, and then a value that is made of its own
pub goes-mapped : {A B : Type 0} (first : Walking A) (next : A → B) {old new : Flow} {a : A} {b : B}
    → FlowGoes first old new a → b ≡ next a → FlowGoes (first >>= λ x. give (next x)) old new b
goes-mapped first next {new = new} {b = b} goes is =
    goes-then first (λ x. give (next x)) goes (goes-as (ap give is) (goes-give b new))

-- the same where the value is known
pub goes-known : {A B : Type 0} (first : Walking A) (next : A → B) (known : A) {old new : Flow} {a : A} {b : B}
    → FlowGoes first old new a → ((context : Context) → (first context (state_of old)).value ≡ known) → (a ≡ known → b ≡ next a)
    → FlowGoes (first >>= λ x. give (next x)) old new b
goes-known first next known {old = old} goes known_is is = record {
  unless_short = λ long.
      let one = (goes.unless_short long).flowed [] in
      (goes-mapped first next goes (is (one.value_is ∙ known_is (context_of old [])))).unless_short long;
}

-- a site that is left open, unless it is closed, and then a step
pub goes-used : {A : Type 0} (walking : Walking A) {closed : Bool} (covered : Bool) (site : ℕ) (step : State → State) (a : A) {old mid : Flow}
    {state : Kept} → ((claims : List Claims) → walking (context_of old claims) (state_of old)
    ≡ record { value = a; after = step (state_of old); open_ids = left_open covered site; broken = []; linked = [] })
    → closed ≡ covered → FlowGoes (opened closed site) old mid tt → Moves step mid.state state → FlowGoes walking old (record mid { state = state }) a
goes-used {A = A} walking {closed = closed} covered site step a {old = old} {mid = mid} is closed_is opens moves =
    goes-alike (opened closed site >>= λ _. (changed_by step >>= λ _. give a)) walking
    (λ claims.
    ap (λ (ids : List ℕ). let walked : Walked A = record { value = a; after = step (state_of old); open_ids = ids; broken = []; linked = [] } in walked)
    (append-nil (left_open closed site) ∙ ap (λ (b : Bool). left_open b site) closed_is) ∙ sym (is claims))
    (goes-then (opened closed site) (λ _. (changed_by step >>= λ _. give a)) opens
    (goes-mapped (changed_by step) (λ _. a) (goes-moved step mid moves) refl))

-- a test at a site, and then a step
pub goes-checked : {A : Type 0} (walking : Walking A) (closed : Bool) (site : ℕ) (step : State → State) (a : A) {old mid : Flow}
    {state : Kept} → ((claims : List Claims) → walking (context_of old claims) (state_of old)
    ≡ record { value = a; after = step (state_of old); open_ids = left_open (is_dead (state_of old) || closed) site; broken = []; linked = [] })
    → FlowGoes (checked closed site) old mid tt → Moves step mid.state state → FlowGoes walking old (record mid { state = state }) a
goes-checked {A = A} walking closed site step a {old = old} {mid = mid} is tests moves =
    goes-alike (checked closed site >>= λ _. (changed_by step >>= λ _. give a)) walking
    (λ claims.
    ap (λ (ids : List ℕ). let walked : Walked A = record { value = a; after = step (state_of old); open_ids = ids; broken = []; linked = [] } in walked)
    (append-nil (left_open (is_dead (state_of old) || closed) site)) ∙ sym (is claims))
    (goes-then (checked closed site) (λ _. (changed_by step >>= λ _. give a)) tests
    (goes-mapped (changed_by step) (λ _. a) (goes-moved step mid moves) refl))
