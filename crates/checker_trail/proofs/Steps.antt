-- Single changes of the state of the program: each is taken back, and makes of what is seen what a definition does.
use Rattle.std.proofs.Common.{arith, ◌≡◌, ◌∙◌, sym, ap, ap₂, refl, ℕ, suc, ◌+◌, ◌<◌, ◌≤◌, Bool, true, false, cond, List, [], ◌∷◌, ◌++◌}
use Rattle.std.proofs.Common.{append_assoc, append-nil}
use Rattle.std.proofs.Common.{get_or, set, take, drop, drop-cons, length, map, Option, Some, None, ℤ, neg_ℤ}
use Rattle.std.proofs.Math.ListN.{get_or-map}
use Rattle.std.specs.List.{filter_map, insert, remove}
use Rattle.std.proofs.lemmas.Bool.{cond_both, ne_eqb}
use Rattle.std.proofs.lemmas.List.{drop_all, drop_at, length-map, length-take-le, length_push, map-append, map-set, set-set, set-get_or}
use Rattle.std.proofs.lemmas.List.{take-append-drop, take_all}
use Rattle.std.proofs.lemmas.List.{take_at, take_more}
use Rattle.domain.specs.Interval.{vacant}
use Rattle.checker_state.specs.declared.held.Held.{Held as KeptHeld}
use Rattle.checker_known.specs.declared.knowledge.Row.{Row}
use Rattle.checker_trail.specs.declared.state.State.{State as Kept}
use Rattle.checker_state.specs.declared.bound.Rebinding.{Rebinding}
use Rattle.checker_known.specs.declared.knowledge.Knowledge.{Knowledge}
use Rattle.checker_known.specs.Resting.{AreChanging}
use Rattle.checker_known.specs.declared.change.Change.TheVariants as change
use Rattle.checker_state.specs.Changes.{all_changed, ordered, with_change, with_equal_to, with_some}
use Rattle.checker_state.specs.State.{Dead, Facts, Held, Live, RowState, State, no_row, row_at, with_more, with_one, with_row}
use Rattle.checker_known.specs.Longer.{without}
use Rattle.checker_known.specs.Knowledge.{Core, IsPlace, changed_at, core, seen_core, viewed}
use Rattle.checker_trail.specs.Trail.{Makes, Moves, over_held, seen, with_state}
use Rattle.checker_state.specs.View.{held_by, said_held}
use Rattle.checker_known.specs.View.{said_row}
use Rattle.checker_known.proofs.HeldLists.{changed-end, changed-step, changed_each, changed_from, each-from, dropped-step, insert-said, kept-end}
use Rattle.checker_known.proofs.HeldLists.{kept-step, kept_from, more-append}
use Rattle.checker_known.proofs.HeldLists.{none-there, one-became, one-gone, remove-said, said-inside, said-there, said_all, taken-step}
use Rattle.checker_state.proofs.HeldOrders.{no_held}
use Rattle.checker_trail.proofs.Ways.{Returns, moves-as, moves-dead, moves-live, moves-made, moves-stay, moves-then, seen-live}

-- ---- rows

-- what stands for a row that isn't there
abbrev pub none : Row
none = record { range = vacant; is_defined = false; growth = None }

-- a row that is said to be what is known of a number is the one that stands there
pub row-said : (from : Core) (row : ℕ) (was : Row) → said_row was ≡ row_at (viewed from) row → was ≡ get_or from.rows row none
row-said from row was is =
    ap (λ (s : RowState). let one : Row = record { range = s.range; is_defined = s.is_defined; growth = s.growth } in one)
    (is ∙ get_or-map said_row from.rows row none)

row-returns : (from : Core) (row : ℕ) (was now : Row) → was ≡ get_or from.rows row none → Returns (change.Row row was now) from
row-returns from row was now is =
    ap (λ (rows : List Row). let one : Core = record from { rows = rows } in one)
    (set-set from.rows row now was ∙ ap (set from.rows row) is ∙ set-get_or from.rows row none)

rows-seen : (from : Core) (row : ℕ) (now : Row) → viewed (record from { rows = set from.rows row now }) ≡ with_row row (said_row now) (viewed from)
rows-seen from row now =
    ap (λ (rows : List RowState). let one : Facts = record { rows = rows; held = map said_held from.held; rules = from.rules } in one)
    (map-set said_row from.rows row now)

pub row-moves : {old new : Kept} (row : ℕ) (was now : Row) → old.known.is_dead ≡ false → said_row was ≡ row_at (viewed (core old.known)) row
    → Makes (change.Row row was now) old new → Moves (with_state row (said_row now)) old new
row-moves {old = old} row was now live is makes =
    let from = core old.known in
    moves-made (with_state row (said_row now)) makes (row-returns from row was now (row-said from row was is))
    (ap (λ (dead : Bool). cond dead Dead (Live (viewed (record from { rows = set from.rows row now })))) live
    ∙ ap Live (rows-seen from row now) ∙ ap (with_state row (said_row now)) (sym (seen-live old live)))

-- nothing changes where the same is known, or the row isn't there
pub row-stays : (state : Kept) (row : ℕ) (now : Row) → state.known.is_dead ≡ false → said_row now ≡ row_at (viewed (core state.known)) row
    → Moves (with_state row (said_row now)) state state
row-stays state row now live is =
    let from = core state.known in
    moves-live (with_state row (said_row now)) state live
    (ap (λ (rows : List RowState). Live (record (viewed from) { rows = rows }))
    (sym (ap (set (map said_row from.rows) row) is ∙ set-get_or (map said_row from.rows) row no_row)))

-- ---- what is held

inserted-removed : (held : List KeptHeld) (place : ℕ) (one : KeptHeld) → place ≤ length held → remove (insert held place one) place ≡ held
inserted-removed held place one inside =
    let first = take place held in
    let rest = drop place held in
    let count : length first ≡ place = length-take-le place held inside in
    ap₂ (λ (front back : List KeptHeld). front ++ back) (take_at first (one ∷ rest) place count)
    (ap (drop (suc place)) (sym (append_assoc first (one ∷ []) rest))
    ∙ drop_at (first ++ one ∷ []) rest (suc place) (length_push first one ∙ (let same : length first + 1 ≡ suc place = omega (arith, count) in same)))
    ∙ take-append-drop place held

removed-inserted : (held : List KeptHeld) (place : ℕ) (one : KeptHeld) → place < length held → one ≡ get_or held place one
    → insert (remove held place) place one ≡ held
removed-inserted held place one inside is =
    let first = take place held in
    let rest = drop (suc place) held in
    let count : length first ≡ place = length-take-le place held (omega (arith, inside)) in
    ap₂ (λ (front back : List KeptHeld). front ++ one ∷ back) (take_at first rest place count) (drop_at first rest place count)
    ∙ ap (λ (h : KeptHeld). first ++ h ∷ rest) is
    ∙ ap (λ (back : List KeptHeld). first ++ back) (sym (drop-cons held place one inside)) ∙ take-append-drop place held

-- what becomes of what is seen, where something else is held
over-seen : (change : List Held → List Held) (from : Core) (held : List KeptHeld) → from.is_dead ≡ false → said_all held ≡ change (said_all from.held)
    → seen_core (record from { held = held }) ≡ over_held change (seen_core from)
over-seen change from held live is =
    ap (λ (dead : Bool). cond dead Dead (Live (viewed (record from { held = held })))) live
    ∙ ap (λ (all : List Held). Live (record (viewed from) { held = all })) is
    ∙ ap (over_held change) (sym (ap (λ (dead : Bool). cond dead Dead (Live (viewed from))) live))

pub insert-moves : {old new : Kept} (place : ℕ) (one : KeptHeld) → old.known.is_dead ≡ false → place ≤ length old.known.held.items
    → Makes (change.Inserted place one) old new → Moves (over_held (λ held. insert held place (said_held one))) old new
insert-moves {old = old} place one live inside makes =
    let from = core old.known in
    moves-made (over_held (λ held. insert held place (said_held one))) makes
    (ap (λ (held : List KeptHeld). let same : Core = record from { held = held } in same) (inserted-removed from.held place one inside))
    (over-seen (λ held. insert held place (said_held one)) from (insert from.held place one) live (insert-said from.held place one))

pub remove-moves : {old new : Kept} (place : ℕ) (one : KeptHeld) → old.known.is_dead ≡ false → place < length old.known.held.items
    → one ≡ get_or old.known.held.items place one
    → Makes (change.Removed place one) old new → Moves (over_held (λ held. remove held place)) old new
remove-moves {old = old} place one live inside is makes =
    let from = core old.known in
    moves-made (over_held (λ held. remove held place)) makes
    (ap (λ (held : List KeptHeld). let same : Core = record from { held = held } in same) (removed-inserted from.held place one inside is))
    (over-seen (λ held. remove held place) from (remove from.held place) live (remove-said from.held place))

pub replace-moves : {old new : Kept} (place : ℕ) (was now : KeptHeld) → old.known.is_dead ≡ false
    → was ≡ get_or old.known.held.items place was
    → Makes (change.Replaced place was now) old new → Moves (over_held (λ held. set held place (said_held now))) old new
replace-moves {old = old} place was now live is makes =
    let from = core old.known in
    moves-made (over_held (λ held. set held place (said_held now))) makes
    (ap (λ (held : List KeptHeld). let same : Core = record from { held = held } in same)
    (set-set from.held place now was ∙ ap (set from.held place) is ∙ set-get_or from.held place was))
    (over-seen (λ held. set held place (said_held now)) from (set from.held place now) live (map-set said_held from.held place now))

-- where that makes no difference, nothing is done
pub held-stays : (change : List Held → List Held) (state : Kept) → change (said_all state.known.held.items) ≡ said_all state.known.held.items
    → Moves (over_held change) state state
held-stays change state same =
    let facts = viewed (core state.known) in
    moves-stay (over_held change) state
    (cond_both state.known.is_dead Dead (Live facts) (λ (seen : State). seen ≡ over_held change seen) (λ dead. refl)
    (λ live. ap (λ (held : List Held). Live (record facts { held = held })) (sym same)))

pub held-dead : (change : List Held → List Held) (state : Kept) → state.known.is_dead ≡ true → Moves (over_held change) state state
held-dead change state dead = moves-dead (over_held change) state refl dead

over-over : (f g h : List Held → List Held) (state : State) → ((held : List Held) → g (f held) ≡ h held) → over_held g (over_held f state) ≡ over_held h state
over-over f g h Dead same = refl
over-over f g h (Live facts) same = ap (λ (held : List Held). Live (record facts { held = held })) (same facts.held)

-- one such step behind another
pub held-then : (f g h : List Held → List Held) {a b c : Kept} → Moves (over_held f) a b → Moves (over_held g) b c
    → ((held : List Held) → g (f held) ≡ h held) → Moves (over_held h) a c
held-then f g h {a = a} first rest same = moves-as (over_held h) (moves-then first rest) (over-over f g h (seen a) same)

-- the same step, told otherwise of what is held there
pub held-as : (f g : List Held → List Held) {a b : Kept} → Moves (over_held f) a b
    → f (said_all a.known.held.items) ≡ g (said_all a.known.held.items) → Moves (over_held g) a b
held-as f g {a = a} moves same =
    let facts = viewed (core a.known) in
    moves-as (over_held g) moves
    (cond_both a.known.is_dead Dead (Live facts) (λ (seen : State). over_held f seen ≡ over_held g seen) (λ dead. refl)
    (λ live. ap (λ (held : List Held). Live (record facts { held = held })) same))

-- one more is held
more-over : (one : Held) (state : State) → over_held (with_one one) state ≡ with_some (Some one) state
more-over one Dead = refl
more-over one (Live facts) = refl

pub hold-moves : {old new : Kept} (place : ℕ) (one : KeptHeld) → old.known.is_dead ≡ false
    → IsPlace (said_held one) (said_all old.known.held.items) (Some place)
    → Makes (change.Inserted place one) old new → Moves (with_some (Some (said_held one))) old new
hold-moves {old = old} place one live is makes =
    let inside : place ≤ length old.known.held.items = rw length-map at is.0 in
    moves-as (with_some (Some (said_held one)))
    (held-as (λ held. insert held place (said_held one)) (with_one (said_held one)) (insert-moves place one live inside makes) (sym is.1))
    (more-over (said_held one) (seen old))

pub hold-more : {a b c : Kept} (more : List KeptHeld) (i : ℕ) → i < length more → Moves (over_held (with_more (said_all (take i more)))) a b
    → Moves (with_some (Some (said_held (get_or more i no_held)))) b c → Moves (over_held (with_more (said_all (take (i + 1) more)))) a c
hold-more {b = b} more i inside first rest =
    let one = get_or more i no_held in
    held-then (with_more (said_all (take i more))) (with_one (said_held one)) (with_more (said_all (take (i + 1) more))) first
    (moves-as (over_held (with_one (said_held one))) rest (sym (more-over (said_held one) (seen b))))
    (λ held.
    sym (ap (λ (some : List KeptHeld). with_more (said_all some) held) (take_more more i no_held inside)
    ∙ ap (λ (some : List Held). with_more some held) (map-append said_held (take i more) (one ∷ []))
    ∙ more-append (said_all (take i more)) (said_held one ∷ []) held))

-- ---- what becomes of what is held

pub gone-moves : {a b : Kept} (change : Held → Option Held) (place : ℕ) (one : KeptHeld) → place < length a.known.held.items
    → one ≡ get_or a.known.held.items place one → None ≡ change (said_held one)
    → Moves (over_held (λ held. remove held place)) a b → Moves (over_held (changed_at change place)) a b
gone-moves {a = a} change place one inside is gone moves =
    let held = a.known.held.items in
    held-as (λ held. remove held place) (changed_at change place) moves
    (one-gone change (said_all held) place (said_held one) (said-inside held place inside) (said-there held place one inside is) (sym gone))

pub became-moves : {a b : Kept} (change : Held → Option Held) (place : ℕ) (one now : KeptHeld) → place < length a.known.held.items
    → one ≡ get_or a.known.held.items place one → Some (said_held now) ≡ change (said_held one)
    → Moves (over_held (λ held. set held place (said_held now))) a b → Moves (over_held (changed_at change place)) a b
became-moves {a = a} change place one now inside is became moves =
    let held = a.known.held.items in
    held-as (λ held. set held place (said_held now)) (changed_at change place) moves
    (one-became change (said_all held) place (said_held one) (said_held now) (said-inside held place inside) (said-there held place one inside is)
    (sym became))

pub past-moves : (change : Held → Option Held) (place : ℕ) (state : Kept) → length state.known.held.items ≤ place
    → Moves (over_held (changed_at change place)) state state
past-moves change place state past =
    let held = state.known.held.items in
    held-stays (changed_at change place) state
    (none-there change (said_all held) place (rw length-map past))

pub changed-more : {a b c : Kept} (change : Held → Option Held) (place left : ℕ) → left ≡ suc place → Moves (over_held (changed_from change left)) a b
    → Moves (over_held (changed_at change place)) b c → Moves (over_held (changed_from change place)) a c
changed-more change place left is first rest =
    held-then (changed_from change left) (changed_at change place) (changed_from change place) first rest
    (λ held. ap (λ (n : ℕ). changed_at change place (changed_from change n held)) is ∙ changed-step change place held)

pub changed-begin : (change : Held → Option Held) (n : ℕ) (state : Kept) → n ≡ length state.known.held.items
    → Moves (over_held (changed_from change n)) state state
changed-begin change n state is =
    let held = state.known.held.items in
    let past : length (said_all held) ≤ n = rw length-map (omega (arith, is)) in
    held-stays (changed_from change n) state (changed-end change (said_all held) n past)

-- the same at places, the last one first
pub each-begin : (change : Held → Option Held) (places : List ℕ) (state : Kept)
    → Moves (over_held (changed_each change (drop (length places) places))) state state
each-begin change places state =
    held-stays (changed_each change (drop (length places) places)) state
    (ap (λ (some : List ℕ). changed_each change some (said_all state.known.held.items)) (drop_all (length places) places (omega arith)))

pub each-more : {a b c : Kept} (change : Held → Option Held) (places : List ℕ) (i left : ℕ) → left ≡ suc i → i < length places
    → Moves (over_held (changed_each change (drop left places))) a b → Moves (over_held (changed_at change (get_or places i 0))) b c
    → Moves (over_held (changed_each change (drop i places))) a c
each-more change places i left is inside first rest =
    held-then (changed_each change (drop left places)) (changed_at change (get_or places i 0)) (changed_each change (drop i places)) first rest
    (λ held.
    ap (λ (n : ℕ). changed_at change (get_or places i 0) (changed_each change (drop n places) held)) is
    ∙ ap (λ (some : List ℕ). changed_each change some held) (sym (drop-cons places i 0 inside)))

-- all has become another, or gone, if the others stay
pub each-moves : {a b : Kept} (how : Rebinding) (places : List ℕ) → AreChanging how (said_all a.known.held.items) places
    → Moves (over_held (changed_each (held_by how) places)) a b → Moves (over_held (filter_map (held_by how))) a b
each-moves {a = a} how places changing moves =
    let held = said_all a.known.held.items in
    held-as (changed_each (held_by how) places) (filter_map (held_by how)) moves
    (each-from (held_by how) held 0 places changing.rising (λ one i past at. changing.others one i at))

-- only what isn't seen became another
pub unseen-moves : (step : State → State) (a b : Kept) (known : Knowledge) → core known ≡ core a.known → Moves step (record a { known = known }) b
    → Moves step a b
unseen-moves step a b known same moves =
    let here : Kept = record a { known = known } in
    let before : Moves (λ state. state) a here = record {
      unless_short = λ long.
          record {
            was_long = long;
            seen_is = ap seen_core same;
            goes = record { same_table = refl; more = []; trail_is = sym (append-nil a.trail.items); forth = sym same; back = same };
          };
    } in
    moves-then before moves

-- ---- those that are kept

pub kept-begin : (kept : List Bool) (state : Kept) → Moves (over_held (kept_from kept (length kept))) state state
kept-begin kept state = held-stays (kept_from kept (length kept)) state (kept-end kept (said_all state.known.held.items))

pub kept-more : {a b : Kept} (kept : List Bool) (place left : ℕ) → left ≡ suc place → place < length kept → get_or kept place false ≡ true
    → Moves (over_held (kept_from kept left)) a b → Moves (over_held (kept_from kept place)) a b
kept-more {a = a} kept place left is inside keeps moves =
    held-as (kept_from kept left) (kept_from kept place) moves
    (ap (λ (n : ℕ). kept_from kept n (said_all a.known.held.items)) is ∙ kept-step kept place (said_all a.known.held.items) inside keeps)

pub dropped-more : {a b c : Kept} (kept : List Bool) (place left : ℕ) → left ≡ suc place → place < length kept → get_or kept place false ≡ false
    → Moves (over_held (kept_from kept left)) a b → Moves (over_held (λ held. remove held place)) b c
    → Moves (over_held (kept_from kept place)) a c
dropped-more kept place left is inside drops first rest =
    held-then (kept_from kept left) (λ held. remove held place) (kept_from kept place) first rest
    (λ held. ap (λ (n : ℕ). remove (kept_from kept n held) place) is ∙ dropped-step kept place held inside drops)

-- ---- those at places go, the last one first

pub without-begin : (places : List ℕ) (state : Kept) → Moves (over_held (without (drop (length places) places))) state state
without-begin places state =
    held-stays (without (drop (length places) places)) state
    (ap (λ (some : List ℕ). without some (said_all state.known.held.items)) (drop_all (length places) places (omega arith)))

pub without-more : {a b c : Kept} (places : List ℕ) (i left : ℕ) → left ≡ suc i → i < length places → Moves (over_held (without (drop left places))) a b
    → Moves (over_held (λ held. remove held (get_or places i 0))) b c → Moves (over_held (without (drop i places))) a c
without-more places i left is inside first rest =
    held-then (without (drop left places)) (λ held. remove held (get_or places i 0)) (without (drop i places)) first rest
    (λ held.
    ap (λ (n : ℕ). remove (without (drop n places) held) (get_or places i 0)) is
    ∙ ap (λ (some : List ℕ). without some held) (sym (drop-cons places i 0 inside)))

-- ---- several variables

pub changed-append : (roots : List ℕ) (root : ℕ) (state : State)
    → with_change root None (all_changed roots state) ≡ all_changed (roots ++ root ∷ []) state
changed-append [] root state = refl
changed-append (first ∷ roots) root state = changed-append roots root (with_change first None state)

-- a variable is another plus a number
pub equal-moves : {a b c : Kept} (root other : ℕ) (n : ℤ) (form : Option ℕ) (first second : Option Held) → form ≡ Some other → (root ≡ other → ⊥)
    → first ≡ ordered root other n → second ≡ ordered other root (neg_ℤ n) → Moves (with_some first) a b → Moves (with_some second) b c
    → Moves (with_equal_to root form n) a c
equal-moves {a = a} root other n form first second form_is differ first_is second_is one two =
    moves-as (with_equal_to root form n) (moves-then one two)
    (ap₂ (λ (x y : Option Held). with_some y (with_some x (seen a))) first_is second_is
    ∙ sym (ap (λ (same : Bool). cond same (seen a) (with_some (ordered other root (neg_ℤ n)) (with_some (ordered root other n) (seen a))))
    (ne_eqb root other differ))
    ∙ ap (λ (of : Option ℕ). with_equal_to root of n (seen a)) (sym form_is))

-- the same is held at a place as before
pub same-stays : (place : ℕ) (was now : KeptHeld) (state : Kept) → said_held now ≡ said_held was → was ≡ get_or state.known.held.items place was
    → Moves (over_held (λ held. set held place (said_held now))) state state
same-stays place was now state same is =
    let held = state.known.held.items in
    held-stays (λ held. set held place (said_held now)) state
    (ap (set (said_all held) place) same ∙ sym (map-set said_held held place was)
    ∙ ap said_all (ap (set held place) is ∙ set-get_or held place was))

-- ---- the last one goes

pub taken-begin : (n : ℕ) (state : Kept) → n ≡ length state.known.held.items → Moves (over_held (take n)) state state
taken-begin n state is =
    held-stays (take n) state (take_all n (said_all state.known.held.items) (rw length-map (omega (arith, is))))

pub taken-more : {a b c : Kept} (place left : ℕ) → left ≡ suc place → Moves (over_held (take left)) a b
    → Moves (over_held (λ held. remove held place)) b c → Moves (over_held (take place)) a c
taken-more place left is first rest =
    held-then (take left) (λ held. remove held place) (take place) first rest
    (λ held. ap (λ (n : ℕ). remove (take n held) place) is ∙ taken-step place held)
