-- What the checker did over a piece of a program, from what it did over the parts of the piece.
use Rattle.std.proofs.Common.{◌≡◌, ◌≤◌, ◌<◌, ◌∙◌, refl, sym, ap, ap₂, subst, Bool, Option, Some, None, ℕ, ◌+◌, List, [], ◌∷◌, ◌++◌, length, map, drop}
use Rattle.std.proofs.Common.{get_or}
use Rattle.std.proofs.Common.{append_assoc, append-nil, drop-cons, add-one, suc}
use Rattle.std.proofs.lemmas.List.{drop_all}
use Rattle.domain.specs.Interval.{Interval}
use Rattle.typed_tree.specs.declared.tree.Tree.{Tree}
use Rattle.checker_state.specs.State.{State}
use Rattle.checker_trail.specs.declared.state.State.{State as Kept}
use Rattle.checker_trail.specs.Trail as trail
use Rattle.checker_trail.specs.Trail.{EndsAt, TrailLeaves, Left, seen}
use Rattle.checker_trail.proofs.Ways as ways
use Rattle.checker_expressions.specs.declared.fault.Breach.{Breach}
use Rattle.checker_expressions.specs.declared.flow.Flow.{Flow}
use Rattle.checker_expressions.specs.declared.grounds.Grounds.{Grounds}
use Rattle.checker_expressions.specs.View as expressions
use Rattle.checker_expressions.specs.View.{first_of, state_of}
use Rattle.checker_expressions.specs.Visits.{all_counted}
use Rattle.checker_expressions.proofs.Counted.{counted-both}
use Rattle.checker_expressions.specs.Walk.{Context, Walked, Walking, ◌>>=◌, changed_by, enter, first_breach, followed, give, tested}
use Rattle.cert_checker.specs.declared.walk.Walk.{Walk}
use Rattle.cert_checker.specs.Walk.{all_of, from_entry}
use Rattle.cert_checker.specs.View.{AreLoops, Came, WalkGoes, Noted, at_state, context_of}

-- ---- what was noted

-- the first breach of some behind others
pub first-both : (one other : List Breach) (broken : Option Breach)
    → first_of (first_of broken (first_breach one)) (first_breach other) ≡ first_of broken (first_breach (one ++ other))
first-both one other (Some breach) = refl
first-both [] other None = refl
first-both (breach ∷ one) other None = refl

none-more : (broken : Option Breach) → first_of broken None ≡ broken
none-more None = refl
none-more (Some breach) = refl

pub noted-nothing : {A : Type 0} {walked : Walked A} (old new : Walk) → context_of new ≡ context_of old → new.aliases.now ≡ old.aliases.now
    → new.flow.open_ids.items ≡ old.flow.open_ids.items → new.flow.broken ≡ old.flow.broken → walked.open_ids ≡ [] → walked.broken ≡ []
    → Noted walked old new
noted-nothing {walked = walked} old new context aliases ids broken no_ids no_breach = record {
  context_is = context;
  aliases_are = aliases;
  open_is = ids ∙ sym (append-nil old.flow.open_ids.items) ∙ ap (λ ids. old.flow.open_ids.items ++ ids) (sym no_ids);
  broken_is = broken ∙ sym (none-more old.flow.broken) ∙ ap (λ b. first_of old.flow.broken (first_breach b)) (sym no_breach);
}

pub noted-then : {A B : Type 0} {one : Walked A} {other : Walked B} {old mid new : Walk} → Noted one old mid → Noted other mid new
    → Noted (followed one other) old new
noted-then {one = one} {other = other} {old = old} {mid = mid} {new = new} first rest = record {
  context_is = rest.context_is ∙ first.context_is;
  aliases_are = rest.aliases_are ∙ first.aliases_are;
  open_is =
      rest.open_is ∙ ap (λ ids. ids ++ other.open_ids) first.open_is
      ∙ append_assoc old.flow.open_ids.items one.open_ids other.open_ids;
  broken_is =
      rest.broken_is ∙ ap (λ (b : Option Breach). first_of b (first_breach other.broken)) first.broken_is
      ∙ first-both one.broken other.broken old.flow.broken;
}

-- by what was noted alone
pub noted-as : {A B : Type 0} {one : Walked A} (other : Walked B) {old new : Walk} → one.open_ids ≡ other.open_ids → one.broken ≡ other.broken
    → Noted one old new → Noted other old new
noted-as other {old = old} same_ids broken noted = record {
  context_is = noted.context_is;
  aliases_are = noted.aliases_are;
  open_is = noted.open_is ∙ ap (λ ids. old.flow.open_ids.items ++ ids) same_ids;
  broken_is = noted.broken_is ∙ ap (λ b. first_of old.flow.broken (first_breach b)) broken;
}

-- ---- one piece of a walk after another

-- the checker has the aliases of the loops where it goes by the same
pub loops-same : (old new : Walk) → context_of new ≡ context_of old → new.aliases.now ≡ old.aliases.now
    → AreLoops (context_of old) old.aliases.now → AreLoops (context_of new) new.aliases.now
loops-same old new same aliases ready =
    subst (λ (context : Context). AreLoops context new.aliases.now) (sym same) (subst (AreLoops (context_of old)) (sym aliases) ready)

-- and so where it came to
pub loops-noted : {A : Type 0} {walked : Walked A} {old new : Walk} → Noted walked old new → AreLoops (context_of old) old.aliases.now
    → AreLoops (context_of new) new.aliases.now
loops-noted {old = old} {new = new} noted ready = loops-same old new noted.context_is noted.aliases_are ready

pub came-followed : {A B : Type 0} {one : Walked A} {other : Walked B} {old mid new : Walk} {a : A} {b : B} → Came one old mid a
    → Came other mid new b → Came (followed one other) old new b
came-followed first rest = record {
  goes = ways.goes-then first.goes rest.goes;
  noted = noted-then first.noted rest.noted;
  value_is = rest.value_is;
  state_is = rest.state_is;
}

pub came-then : {A B : Type 0} (first : Walking A) (next : A → Walking B) {old mid new : Walk} {a : A} {b : B}
    → Came (first (context_of old) (state_of old.flow)) old mid a → Came (next a (context_of mid) (state_of mid.flow)) mid new b
    → Came ((first >>= next) (context_of old) (state_of old.flow)) old new b
came-then first next {old = old} {mid = mid} {new = new} {a = a} {b = b} one two =
    let begun = first (context_of old) (state_of old.flow) in
    let same : next a (context_of mid) (state_of mid.flow) ≡ next begun.value (context_of old) begun.after =
    ap (λ (context : Context). next a context (state_of mid.flow)) one.noted.context_is
    ∙ ap (λ x. next x (context_of old) (state_of mid.flow)) one.value_is ∙ ap (next begun.value (context_of old)) one.state_is in
    came-followed one (subst (λ w. Came w mid new b) same two)

-- a piece that changes nothing
pub came-give : {A : Type 0} (value : A) (walk : Walk) → Came (give value (context_of walk) (state_of walk.flow)) walk walk value
came-give value walk = record {
  goes = ways.goes-stay walk.flow.state;
  noted = noted-nothing walk walk refl refl refl refl refl refl;
  value_is = refl;
  state_is = refl;
}

pub goes-give : {A : Type 0} (value : A) (walk : Walk) → WalkGoes (give value) walk walk value
goes-give value walk =
    record { unless_short = λ long. record { was_long = long; has_done = λ ready. came-give value walk } }

pub goes-then : {A B : Type 0} (first : Walking A) (next : A → Walking B) {old mid new : Walk} {a : A} {b : B} → WalkGoes first old mid a
    → WalkGoes (next a) mid new b → WalkGoes (first >>= next) old new b
goes-then first next one two = record {
  unless_short = λ long.
      let rest = two.unless_short long in
      let begun = one.unless_short rest.was_long in
      record {
        was_long = begun.was_long;
        has_done = λ ready.
            let came = begun.has_done ready in
            came-then first next came (rest.has_done (loops-noted came.noted ready));
      };
}

-- the same walk from here, told otherwise
pub goes-here : {A : Type 0} (form walk : Walking A) {old new : Walk} {a : A}
    → form (context_of old) (state_of old.flow) ≡ walk (context_of old) (state_of old.flow) → WalkGoes form old new a → WalkGoes walk old new a
goes-here form walk {old = old} {new = new} {a = a} same goes = record {
  unless_short = λ long.
      let one = goes.unless_short long in
      record { was_long = one.was_long; has_done = λ ready. subst (λ w. Came w old new a) same (one.has_done ready) };
}

-- with a value that is the same
pub goes-valued : {A : Type 0} (walk : Walking A) {old new : Walk} {a : A} (b : A) → b ≡ a → WalkGoes walk old new a → WalkGoes walk old new b
goes-valued walk {old = old} {new = new} b same goes = subst (λ x. WalkGoes walk old new x) (sym same) goes

-- an entry, which the checker only counts
pub goes-entered : (number : ℕ) (walk : Walk) → WalkGoes (enter number) walk walk tt
goes-entered number walk = record {
  unless_short = λ long. record {
    was_long = long;
    has_done = λ ready. record {
      goes = ways.goes-stay walk.flow.state;
      noted = noted-nothing walk walk refl refl refl refl refl refl;
      value_is = refl;
      state_is = refl;
    };
  };
}

-- a piece from its entry on
pub goes-from_entry : (number : ℕ) (walk : Walking (Unit {0})) {old new : Walk} → WalkGoes walk old new tt → WalkGoes (from_entry number walk) old new tt
goes-from_entry number walk {old = old} goes = goes-then (enter number) (λ _. walk) (goes-entered number old) goes

-- ---- what the flow and the state did

-- the checker with another flow goes by the same, where that has the same grounds and rows
context-flow : (old : Walk) (flow : Flow) → flow.grounds ≡ old.flow.grounds → flow.state.table.now ≡ old.flow.state.table.now
    → context_of (record old { flow = flow }) ≡ context_of old
context-flow old flow grounds table =
    ap₂ (λ (g : Grounds) (tree : Tree). record (context_of (record old { flow = record flow { grounds = g } })) { tree = tree }) grounds table

-- what the flow did over an expression, whatever is claimed of loops
pub lifted : {A : Type 0} {walking : Walking A} {old : Walk} {flow : Flow} {value : A} → expressions.FlowGoes walking old.flow flow value
    → WalkGoes walking old (record old { flow = flow }) value
lifted {walking = walking} {old = old} {flow = flow} {value = value} goes = record {
  unless_short = λ long.
      let one = goes.unless_short long in
      record {
        was_long = one.was_long;
        has_done = λ ready.
            let did = one.flowed (context_of old).claims in
            record {
              goes = did.goes;
              noted = record {
                context_is = context-flow old flow did.grounds_are did.goes.same_table;
                aliases_are = refl;
                open_is = did.open_is;
                broken_is = did.broken_is;
              };
              value_is = did.value_is;
              state_is = did.state_is;
            };
      };
}

-- a test, with what passes
pub goes-tested : (closed is_closed : Bool) (site : ℕ) (passed range : Interval) {old : Walk} {flow : Flow} {value : Interval} → is_closed ≡ closed
    → range ≡ passed → expressions.FlowGoes (tested is_closed site range) old.flow flow value
    → WalkGoes (tested closed site passed) old (record old { flow = flow }) passed
goes-tested closed is_closed site passed range {old = old} {flow = flow} {value = value} closed_is passed_is goes =
    let same = subst (λ (c : Bool). expressions.FlowGoes (tested c site passed) old.flow flow value) closed_is
    (subst (λ (p : Interval). expressions.FlowGoes (tested is_closed site p) old.flow flow value) passed_is goes) in
    let moves = lifted same in
    record {
      unless_short = λ long.
          let one = moves.unless_short long in
          record {
            was_long = one.was_long;
            has_done = λ ready.
                let came = one.has_done ready in
                record { goes = came.goes; noted = came.noted; value_is = refl; state_is = came.state_is };
          };
    }

-- a step of the state
pub moved : {step : State → State} {old : Walk} {state : Kept} → trail.Moves step old.flow.state state
    → WalkGoes (changed_by step) old (at_state state old) tt
moved {step = step} {old = old} {state = state} moves = record {
  unless_short = λ long.
      let one = moves.unless_short long in
      record {
        was_long = one.was_long;
        has_done = λ ready. record {
          goes = one.goes;
          noted = noted-nothing old (at_state state old) (ap (λ (tree : Tree). record (context_of old) { tree = tree }) one.goes.same_table) refl
              refl refl refl refl;
          value_is = refl;
          state_is = one.seen_is;
        };
      };
}

-- ---- entries that were counted

pub counted-then : {Counter : Type 0} (counted : ℕ → Counter → Counter) (one two : List ℕ) (before : Counter) {between after : Counter}
    → between ≡ all_counted counted one before → after ≡ all_counted counted two between → after ≡ all_counted counted (one ++ two) before
counted-then counted one two before first rest = rest ∙ ap (all_counted counted two) first ∙ sym (counted-both counted one two before)

-- ---- a list of pieces, from one of them on

pub item-cut : {X : Type 0} (items : List X) (i : ℕ) (x : X) → i < length items → x ≡ get_or items i x → drop i items ≡ x ∷ drop (i + 1) items
item-cut items i x inside is = rw add-one (drop-cons items i x inside ∙ ap (λ y. y ∷ drop (suc i) items) (sym is))

pub drop-past : {X : Type 0} (items : List X) (i : ℕ) → length items ≤ i → drop i items ≡ []
drop-past items i past = drop_all i items past

module _ {X : Type 0} (walk : X → Walking (Unit {0})) (items : List X) where
  pub all-step : (i : ℕ) (x : X) {old mid new : Walk} → i < length items → x ≡ get_or items i x → WalkGoes (walk x) old mid tt
      → WalkGoes (all_of (map walk (drop (i + 1) items))) mid new tt → WalkGoes (all_of (map walk (drop i items))) old new tt
  all-step i x {old = old} {new = new} inside is one rest =
      subst (λ (left : List X). WalkGoes (all_of (map walk left)) old new tt) (sym (item-cut items i x inside is))
      (goes-then (walk x) (λ _. all_of (map walk (drop (i + 1) items))) one rest)

  pub all-end : (i : ℕ) (old : Walk) → length items ≤ i → WalkGoes (all_of (map walk (drop i items))) old old tt
  all-end i old past =
      subst (λ (left : List X). WalkGoes (all_of (map walk left)) old old tt) (sym (drop-past items i past)) (goes-give tt old)

-- their entries
module _ {X Counter : Type 0} (counted : ℕ → Counter → Counter) (total : List X → List ℕ) (entries : X → List ℕ)
    (of_more : (x : X) (xs : List X) → total (x ∷ xs) ≡ entries x ++ total xs) (items : List X) where
  pub counted-step : (i : ℕ) (x : X) (before : Counter) {between all : Counter} → i < length items → x ≡ get_or items i x
      → between ≡ all_counted counted (entries x) before
      → all_counted counted (total (drop i items)) before ≡ all → all_counted counted (total (drop (i + 1) items)) between ≡ all
  counted-step i x before {between = between} inside is one whole =
      ap (all_counted counted (total (drop (i + 1) items))) one
      ∙ sym (counted-both counted (entries x) (total (drop (i + 1) items)) before)
      ∙ ap (λ numbers. all_counted counted numbers before) (sym (of_more x (drop (i + 1) items)))
      ∙ ap (λ (left : List X). all_counted counted (total left) before) (sym (item-cut items i x inside is)) ∙ whole

  pub counted-end : (i : ℕ) (before : Counter) {all : Counter} → length items ≤ i → total [] ≡ [] → all_counted counted (total (drop i items)) before ≡ all
      → before ≡ all
  counted-end i before past none whole =
      ap (λ numbers. all_counted counted numbers before) (sym none)
      ∙ ap (λ (left : List X). all_counted counted (total left) before) (sym (drop-past items i past)) ∙ whole
