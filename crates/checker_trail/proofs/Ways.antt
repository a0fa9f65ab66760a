-- Ways of the state of the program: one behind another, and each change forth and back.
use Rattle.std.proofs.Common.{None, ◌≡◌, ◌∙◌, sym, ap, ap₂, refl, Bool, true, false, cond, List, [], ◌∷◌, ◌++◌, append_assoc, append-nil, take, drop, length}
use Rattle.std.proofs.Common.{ℕ, ◌+◌, ◌<◌, get_or, subst}
use Rattle.std.proofs.lemmas.List.{drop_at, take_at, take_more}
use Rattle.typed_tree.specs.declared.tree.Tree.{Tree}
use Rattle.checker_trail.specs.declared.state.State.{State as Kept}
use Rattle.checker_known.specs.declared.change.Change.{Change}
use Rattle.checker_known.specs.declared.change.Branch.{Branch}
use Rattle.checker_state.specs.State.{Dead, Live, State}
use Rattle.checker_state.specs.Joins.{joined_states}
use Rattle.checker_state.specs.State.{table_of}
use Rattle.checker_trail.specs.Meets.{JoinsBehind}
use Rattle.checker_known.specs.Knowledge.{Core, core, inverse}
use Rattle.checker_trail.specs.Trail.{Come, Comes, EndsAt, TrailGoes, IsCut, TrailLeaves, Left, Made, Makes, Moves, TakesBack}
use Rattle.checker_known.specs.Knowledge.{made, redone, seen_core, undone, viewed}
use Rattle.checker_trail.specs.Trail.{seen}

-- ---- changes, some behind others

pub redone-append : (first rest : List Change) (from : Core) → redone (first ++ rest) from ≡ redone rest (redone first from)
redone-append [] rest from = refl
redone-append (one ∷ first) rest from = redone-append first rest (made one from)

pub undone-append : (first rest : List Change) (from : Core) → undone (first ++ rest) from ≡ undone first (undone rest from)
undone-append [] rest from = refl
undone-append (one ∷ first) rest from = ap (made (inverse one)) (undone-append first rest from)

-- ---- ways

pub goes-stay : (state : Kept) → TrailGoes state state
goes-stay state =
    record { same_table = refl; more = []; trail_is = sym (append-nil state.trail.items); forth = refl; back = refl }

pub goes-then : {a b c : Kept} → TrailGoes a b → TrailGoes b c → TrailGoes a c
goes-then {a = a} {b = b} {c = c} first rest = record {
  same_table = rest.same_table ∙ first.same_table;
  more = first.more ++ rest.more;
  trail_is =
      rest.trail_is ∙ ap (λ (trail : List Change). trail ++ rest.more) first.trail_is
      ∙ append_assoc a.trail.items first.more rest.more;
  forth =
      redone-append first.more rest.more (core a.known) ∙ ap (redone rest.more) first.forth ∙ rest.forth;
  back =
      undone-append first.more rest.more (core c.known) ∙ ap (undone first.more) rest.back ∙ first.back;
}

-- a change is taken back by its inverse
abbrev pub Returns : Change → Core → Type 0
Returns one from = made (inverse one) (made one from) ≡ from

pub goes-made : {one : Change} {old new : Kept} → Made one old new → Returns one (core old.known) → TrailGoes old new
goes-made {one = one} {old = old} {new = new} is returns = record {
  same_table = is.same_table;
  more = one ∷ [];
  trail_is = is.trail_is;
  forth = sym is.core_is;
  back = ap (made (inverse one)) is.core_is ∙ returns;
}

-- ---- steps

pub moves-stay : (step : State → State) (state : Kept) → seen state ≡ step (seen state) → Moves step state state
moves-stay step state is =
    record { unless_short = λ long. record { was_long = long; seen_is = is; goes = goes-stay state } }

pub moves-then : {f g : State → State} {a b c : Kept} → Moves f a b → Moves g b c → Moves (λ state. g (f state)) a c
moves-then {f = f} {g = g} {a = a} {b = b} {c = c} first rest = record {
  unless_short = λ long.
      let two = rest.unless_short long in
      let one = first.unless_short two.was_long in
      record {
        was_long = one.was_long;
        seen_is = two.seen_is ∙ ap g one.seen_is;
        goes = goes-then one.goes two.goes;
      };
}

-- the same step, told otherwise
pub moves-as : {f : State → State} (g : State → State) {a b : Kept} → Moves f a b → f (seen a) ≡ g (seen a) → Moves g a b
moves-as {f = f} g {a = a} {b = b} moves same = record {
  unless_short = λ long.
      let one = moves.unless_short long in
      record { was_long = one.was_long; seen_is = one.seen_is ∙ same; goes = one.goes };
}

pub moves-made : {one : Change} {old new : Kept} (step : State → State) → Makes one old new → Returns one (core old.known)
    → seen_core (made one (core old.known)) ≡ step (seen old) → Moves step old new
moves-made {one = one} {old = old} {new = new} step makes returns is = record {
  unless_short = λ long.
      let way = makes.unless_short long in
      record {
        was_long = way.was_long;
        seen_is = ap seen_core way.core_is ∙ is;
        goes = goes-made way returns;
      };
}

-- a step for each of a list
pub moves-more : {A : Type 0} {a b c : Kept} (steps : List A → State → State) (step : State → State) (list : List A) (i : ℕ) (one : A)
    → i < length list → one ≡ get_or list i one → Moves (steps (take i list)) a b → Moves step b c
    → ((state : State) → step (steps (take i list) state) ≡ steps (take i list ++ one ∷ []) state)
    → Moves (steps (take (i + 1) list)) a c
moves-more {A = A} {a = a} steps step list i one inside is first rest same =
    moves-as (steps (take (i + 1) list)) (moves-then first rest)
    (same (seen a) ∙ ap (λ (last : A). steps (take i list ++ last ∷ []) (seen a)) is
    ∙ sym (ap (λ (some : List A). steps some (seen a)) (take_more list i one inside)))

-- a step that is told by the rows of the program
pub moves-told : {f : State → State} {a b c : Kept} (g : Tree → State → State) → Moves f a b → Moves (g b.table.now) b c
    → Moves (λ state. g a.table.now (f state)) a c
moves-told {a = a} {b = b} g first rest = record {
  unless_short = λ long.
      let two = rest.unless_short long in
      let one = first.unless_short two.was_long in
      record {
        was_long = one.was_long;
        seen_is = two.seen_is ∙ ap (λ (tree : Tree). g tree (seen b)) one.goes.same_table ∙ ap (g a.table.now) one.seen_is;
        goes = goes-then one.goes two.goes;
      };
}

-- nothing is known where no run comes
pub seen-dead : (state : Kept) → state.known.is_dead ≡ true → seen state ≡ Dead
seen-dead state is = ap (λ (dead : Bool). cond dead Dead (Live (viewed (core state.known)))) is

pub seen-live : (state : Kept) → state.known.is_dead ≡ false → seen state ≡ Live (viewed (core state.known))
seen-live state is = ap (λ (dead : Bool). cond dead Dead (Live (viewed (core state.known)))) is

pub moves-dead : (step : State → State) (state : Kept) → step Dead ≡ Dead → state.known.is_dead ≡ true → Moves step state state
moves-dead step state stays is =
    moves-stay step state (seen-dead state is ∙ sym stays ∙ ap step (sym (seen-dead state is)))

pub moves-live : (step : State → State) (state : Kept) → state.known.is_dead ≡ false
    → Live (viewed (core state.known)) ≡ step (Live (viewed (core state.known))) → Moves step state state
moves-live step state is same =
    moves-stay step state (seen-live state is ∙ same ∙ ap step (sym (seen-live state is)))

-- ---- on a branch, and back

-- changes were made, one after another
pub record MadeAll (changes : List Change) (old new : Kept) : Type 0 where
  pub was_long : old.refused ≡ None
  pub same_table : new.table.now ≡ old.table.now
  pub trail_is : new.trail.items ≡ old.trail.items ++ changes
  pub core_is : core new.known ≡ redone changes (core old.known)

pub record HasMade (changes : List Change) (old new : Kept) : Type 0 where
  pub unless_short : new.refused ≡ None → MadeAll changes old new

pub made-none : (state : Kept) → HasMade [] state state
made-none state = record {
  unless_short = λ long.
      record { was_long = long; same_table = refl; trail_is = sym (append-nil state.trail.items); core_is = refl };
}

pub made-more : {changes : List Change} {one : Change} {a b c : Kept} → HasMade changes a b → Makes one b c → HasMade (changes ++ one ∷ []) a c
made-more {changes = changes} {one = one} {a = a} {b = b} {c = c} first makes = record {
  unless_short = λ long.
      let two = makes.unless_short long in
      let done = first.unless_short two.was_long in
      record {
        was_long = done.was_long;
        same_table = two.same_table ∙ done.same_table;
        trail_is =
            two.trail_is ∙ ap (λ (trail : List Change). trail ++ one ∷ []) done.trail_is
            ∙ append_assoc a.trail.items changes (one ∷ []);
        core_is = two.core_is ∙ ap (made one) done.core_is ∙ sym (redone-append changes (one ∷ []) (core a.known));
      };
}

pub made-next : {a b c : Kept} (changes there : List Change) (i : ℕ) (one : Change) → there ≡ changes → i < length there → one ≡ get_or there i one
    → HasMade (take i changes) a b → Makes one b c → HasMade (take (i + 1) changes) a c
made-next {a = a} {b = b} {c = c} changes there i one same inside is first makes =
    subst (λ (some : List Change). HasMade (take i some) a b → HasMade (take (i + 1) some) a c) same
    (λ done. subst (λ (some : List Change). HasMade some a c)
    (ap (λ (last : Change). take i there ++ last ∷ []) is ∙ sym (take_more there i one inside)) (made-more done makes))
    first

-- changes were taken back, the last one first
pub record TookAll (changes : List Change) (old new : Kept) : Type 0 where
  pub was_long : old.refused ≡ None
  pub same_table : new.table.now ≡ old.table.now
  pub same_trail : new.trail.items ≡ old.trail.items
  pub core_is : core new.known ≡ undone changes (core old.known)

pub record HasTaken (changes : List Change) (old new : Kept) : Type 0 where
  pub unless_short : new.refused ≡ None → TookAll changes old new

pub took-none : (state : Kept) → HasTaken [] state state
took-none state = record {
  unless_short = λ long. record { was_long = long; same_table = refl; same_trail = refl; core_is = refl };
}

pub took-more : {changes : List Change} {one : Change} {a b c : Kept} → HasTaken changes a b → TakesBack one b c → HasTaken (one ∷ changes) a c
took-more {changes = changes} {one = one} {a = a} {b = b} {c = c} first takes = record {
  unless_short = λ long.
      let two = takes.unless_short long in
      let done = first.unless_short two.was_long in
      record {
        was_long = done.was_long;
        same_table = two.same_table ∙ done.same_table;
        same_trail = two.same_trail ∙ done.same_trail;
        core_is = two.core_is ∙ ap (made (inverse one)) done.core_is;
      };
}

-- a state that made the changes of a branch came to its end
pub come-made : {old new : Kept} (branch : Branch) (end : Core) → HasMade branch.changes.items old new → EndsAt (core old.known) branch end
    → Comes end old new
come-made {old = old} {new = new} branch end has ends = record {
  unless_short = λ long.
      let done = has.unless_short long in
      let core_is : core new.known ≡ end = done.core_is ∙ ends.forth in
      record {
        was_long = done.was_long;
        core_is = core_is;
        goes = record {
          same_table = done.same_table;
          more = branch.changes.items;
          trail_is = done.trail_is;
          forth = sym done.core_is;
          back = ap (undone branch.changes.items) core_is ∙ ends.back;
        };
      };
}

-- a state whose changes since its start were cut off and taken back is at its start
pub left-back : {start old cut new : Kept} (changes : List Change) (branch : Branch) → TrailGoes start old
    → IsCut (length start.trail.items) old cut changes → HasTaken changes cut new → branch.changes.items ≡ changes
    → branch.is_dead ≡ old.known.is_dead → TrailLeaves start old new branch
left-back {start = start} {old = old} {cut = cut} {new = new} changes branch way is_cut has same dead_is = record {
  unless_short = λ long.
      let taken = has.unless_short long in
      let cut_off = is_cut.unless_short taken.was_long in
      let more_are : changes ≡ way.more =
      cut_off.changes_are ∙ ap (drop (length start.trail.items)) way.trail_is ∙ drop_at start.trail.items way.more (length start.trail.items) refl in
      record {
        was_long = cut_off.was_long;
        same_table = taken.same_table ∙ cut_off.same_table ∙ way.same_table;
        trail_is =
            taken.same_trail ∙ cut_off.trail_is ∙ ap (take (length start.trail.items)) way.trail_is
            ∙ take_at start.trail.items way.more (length start.trail.items) refl;
        core_is =
            taken.core_is ∙ ap₂ (λ (some : List Change) (from : Core). undone some from) more_are cut_off.same_core ∙ way.back;
        ends = record {
          forth = ap (λ (some : List Change). redone some (core start.known)) (same ∙ more_are) ∙ way.forth;
          back = ap (λ (some : List Change). undone some (core old.known)) (same ∙ more_are) ∙ way.back;
          dead_is = dead_is;
        };
      };
}

-- ---- back at a start, and on from there

-- a state that is again at its start can be taken back no further
pub goes-back : {start old new : Kept} {branch : Branch} → Left start old new branch → TrailGoes start new
goes-back {start = start} {new = new} left = record {
  same_table = left.same_table;
  more = [];
  trail_is = left.trail_is ∙ sym (append-nil start.trail.items);
  forth = sym left.core_is;
  back = left.core_is;
}

pub ends-from : {branch : Branch} {end : Core} (from other : Core) → from ≡ other → EndsAt other branch end → EndsAt from branch end
ends-from {branch = branch} {end = end} from other same ends = subst (λ (c : Core). EndsAt c branch end) (sym same) ends

-- what is seen there is what was seen at the start
pub left-seen : {start old new : Kept} {branch : Branch} → Left start old new branch → seen new ≡ seen start
left-seen left = ap seen_core left.core_is

-- a way was taken back to its mark
pub took-back : {start old new : Kept} {branch : Branch} (mark : ℕ) → mark ≡ length start.trail.items → TrailGoes start old
    → ((start : Kept) → mark ≡ length start.trail.items → TrailGoes start old → TrailLeaves start old new branch)
    → new.refused ≡ None → Left start old new branch
took-back {start = start} mark is way back long = (back start is way).unless_short long

-- on from there as a branch ended
pub went-on : {start old new : Kept} {branch : Branch} {end : Core} → TrailGoes start old → core old.known ≡ core start.known
    → EndsAt (core start.known) branch end → ((end : Core) → EndsAt (core old.known) branch end → Comes end old new)
    → new.refused ≡ None → Come end old new
went-on {start = start} {old = old} {end = end} way same ends comes long =
    (comes end (ends-from (core old.known) (core start.known) same ends)).unless_short long

-- ---- where two ways from a mark meet

-- what is known there, and that it can be taken back
pub record Met (table : Tree) (start : Kept) (first second : State) (new : Kept) : Type 0 where
  pub seen_is : seen new ≡ joined_states (table_of table) first second
  pub goes : TrailGoes start new

-- one way was left, the other walked behind it; both began at a mark
pub ways-meet : {start one two other new : Kept} {branch : Branch} (mark : ℕ) → mark ≡ length start.trail.items → Left start one two branch
    → TrailGoes two other
    → ((start : Kept) (end : Core) → mark ≡ length start.trail.items → TrailGoes start other → EndsAt (core start.known) branch end
    → JoinsBehind start end other new)
    → new.refused ≡ None → Met start.table.now start (seen one) (seen other) new
ways-meet {start = start} {one = one} {two = two} {other = other} mark is left rest meets long =
    let way = goes-then (goes-back left) rest in
    let met = (meets start (core one.known) is way left.ends).unless_short long in
    record {
      seen_is = met.seen_is ∙ ap (λ (t : Tree). joined_states (table_of t) (seen one) (seen other)) way.same_table;
      goes = met.goes;
    }

-- the same of two steps
pub moves-meet : {f g : State → State} {start one two other new : Kept} {branch : Branch} (mark : ℕ) → mark ≡ length start.trail.items
    → Moves f start one
    → ((start : Kept) → mark ≡ length start.trail.items → TrailGoes start one → TrailLeaves start one two branch)
    → (two.refused ≡ None → one.refused ≡ None) → Moves g two other
    → ((start : Kept) (end : Core) → mark ≡ length start.trail.items → TrailGoes start other → EndsAt (core start.known) branch end
    → JoinsBehind start end other new)
    → (new.refused ≡ None → other.refused ≡ None)
    → Moves (λ state. joined_states (table_of start.table.now) (f state) (g state)) start new
moves-meet {f = f} {g = g} {start = start} {other = other} mark is first back long1 rest meets long2 = record {
  unless_short = λ long.
      let second = rest.unless_short (long2 long) in
      let way = first.unless_short (long1 second.was_long) in
      let left = took-back mark is way.goes back second.was_long in
      let met = ways-meet mark is left second.goes meets long in
      record {
        was_long = way.was_long;
        seen_is =
            met.seen_is
            ∙ ap₂ (λ (x y : State). joined_states (table_of start.table.now) x y) way.seen_is (second.seen_is ∙ ap g (left-seen left));
        goes = met.goes;
      };
}
