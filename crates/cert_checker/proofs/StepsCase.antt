-- What the checker did over the arms of a case, from what it did over each.
use Rattle.std.proofs.Common.{◌≡◌, ◌≤◌, ◌<◌, ◌∙◌, refl, sym, ap, ap₂, subst, Option, ℕ, zero, suc, ◌+◌, ℤ, List, [], ◌∷◌, ◌++◌, length, map, drop}
use Rattle.std.proofs.Common.{get_or}
use Rattle.std.proofs.Common.{append-nil, add-one, slice_get}
use Rattle.std.specs.declared.alloc.Global.{Global}
use Rattle.std.specs.declared.vec.Vec.{Vec}
use Rattle.std.proofs.lemmas.List.{length-map}
use Rattle.domain.specs.Interval.{Interval, common}
use Rattle.domain.specs.Numbers.{hull, is_covered}
use Rattle.typed_tree.specs.declared.tree.CaseHead.{CaseHead}
use Rattle.typed_tree.specs.declared.tree.Stmt.{Stmt}
use Rattle.typed_tree.specs.declared.tree.Tree.{Tree}
use Rattle.checker_state.specs.declared.value.Known.{Known}
use Rattle.checker_state.specs.Values.{known_range}
use Rattle.checker_state.specs.Joins.{joined_states}
use Rattle.checker_state.specs.State.{Dead, State, table_of}
use Rattle.checker_trail.specs.declared.state.State.{State as Kept}
use Rattle.checker_known.specs.declared.change.Branch.{Branch}
use Rattle.checker_trail.specs.Trail as trail
use Rattle.checker_trail.specs.Trail.{Comes, EndsAt, seen}
use Rattle.checker_known.specs.Knowledge.{Core, core, seen_core}
use Rattle.checker_trail.proofs.Ways as ways
use Rattle.checker_loops.specs.Cases.{arm_start, constants_before}
use Rattle.checker_expressions.specs.View.{state_of}
use Rattle.checker_expressions.specs.declared.fault.Breach.{Breach}
use Rattle.checker_expressions.specs.Walk.{Context, Linked, Walking, ◌>>=◌, followed, tested}
use Rattle.cert_checker.specs.declared.walk.Walk.{Walk}
use Rattle.cert_checker.specs.Walk.{arm_walk, arms_walk, case_walk, index_root, statement_walk}
use Rattle.cert_checker.specs.View.{Came, WalkDoes, WalkGoes, Noted, arms_from_here, at_state, context_of}
use Rattle.cert_checker.proofs.Steps.{drop-past, goes-here, goes-then, item-cut, loops-same, noted-nothing, noted-then}
use Rattle.cert_checker.proofs.StepsWays.{IsBack, MeetsFirst, StaysLong, context-back}

get-drop : {X : Type 0} (xs : List X) (i : ℕ) → slice_get (drop i xs) 0 ≡ slice_get xs i
get-drop [] zero = refl
get-drop [] (suc i) = refl
get-drop (x ∷ xs) zero = refl
get-drop (x ∷ xs) (suc i) = get-drop xs i

drop-more : {X : Type 0} (xs : List X) (i : ℕ) → drop 1 (drop i xs) ≡ drop (suc i) xs
drop-more [] zero = refl
drop-more [] (suc i) = refl
drop-more (x ∷ xs) zero = refl
drop-more (x ∷ xs) (suc i) = drop-more xs i

module _ (index : Option ℕ) (rows : List (Vec ℤ Global)) (arms : List Stmt) where
  -- the arms that are left, from one of them on
  abbrev pub arms_left : ℕ → State → Walking (Unit {0})
  arms_left i base = arms_walk base index (drop i rows) (map statement_walk (drop i arms))

  -- the next of them
  abbrev next_arm : ℕ → Stmt → State → Walking (Unit {0})
  next_arm i arm base = arm_walk (arm_start index (slice_get rows i) base) (statement_walk arm)

  left-cut : (i : ℕ) (arm : Stmt) → i < length arms → arm ≡ get_or arms i arm → (base : State)
      → (next_arm i arm base >>= λ _. arms_left (i + 1) base) ≡ arms_left i base
  left-cut i arm inside is base =
      sym (ap (λ (left : List Stmt). arms_walk base index (drop i rows) (map statement_walk left)) (item-cut arms i arm inside is)
      ∙ ap (λ row. arm_walk (arm_start index row base) (statement_walk arm) >>= λ _.
      arms_walk base index (drop 1 (drop i rows)) (map statement_walk (drop (i + 1) arms))) (get-drop rows i)
      ∙ ap (λ more. next_arm i arm base >>= λ _. arms_walk base index more (map statement_walk (drop (i + 1) arms))) (rw add-one (drop-more rows i)))

  -- the checker went over those that are left, from a mark on, where a branch leads behind those before
  abbrev pub GoesLeft : ℕ → ℕ → Walk → Branch → Walk → Type 0
  GoesLeft mark i here behind new = WalkDoes here new
      ((end : Core) → mark ≡ length here.flow.state.trail.items → EndsAt (core here.flow.state.known) behind end
      → Came (arms_left i (state_of here.flow) (context_of here) (seen_core end)) here new tt)

  -- before the first of them no way behind them is known
  pub arms-begin : (mark : ℕ) (old : Walk) {dead back : Kept} {behind : Branch} {new : Walk} → mark ≡ length old.flow.state.trail.items
      → trail.Moves (λ _. Dead) old.flow.state dead → StaysLong dead back → IsBack mark dead back behind
      → GoesLeft mark 0 (at_state back old) behind new → WalkGoes (arms_from_here index rows (map statement_walk arms)) old new tt
  arms-begin mark old {dead = dead} {back = back} {behind = behind} {new = new} is dies back_long is_back left_goes = record {
    unless_short = λ long.
        let rest = left_goes.unless_short long in
        let died = dies.unless_short (back_long rest.was_long) in
        record {
          was_long = died.was_long;
          has_done = λ ready.
              let left = ways.took-back mark is died.goes is_back rest.was_long in
              let same : context_of (at_state back old) ≡ context_of old = context-back old old back refl left.same_table in
              let came = rest.has_done (loops-same old (at_state back old) same refl ready) (core dead.known)
              (is ∙ sym (ap length left.trail_is)) (ways.ends-from (core back.known) (core old.flow.state.known) left.core_is left.ends) in
              let walked_is : arms_left 0 (seen back) (context_of (at_state back old)) (seen dead) ≡ arms_left 0 (state_of old.flow) (context_of old) Dead =
              ap₂ (λ (s : State) (c : Context). arms_left 0 s c (seen dead)) (ways.left-seen left) same
              ∙ ap (arms_left 0 (state_of old.flow) (context_of old)) died.seen_is in
              let told = subst (λ w. Came w (at_state back old) new tt) walked_is came in
              record {
                goes = ways.goes-then (ways.goes-back left) told.goes;
                noted = record {
                  context_is = told.noted.context_is ∙ same;
                  aliases_are = told.noted.aliases_are;
                  open_is = told.noted.open_is;
                  broken_is = told.noted.broken_is;
                };
                value_is = refl;
                state_is = told.state_is;
              };
        };
  }

  -- the next of them: it is walked from the mark, and meets what is known behind those before
  pub arms-step : (mark i : ℕ) (arm : Stmt) (at : Walk) {begun met back : Kept} {walked : Walk} {behind next : Branch} {new : Walk}
      → i < length arms → arm ≡ get_or arms i arm → trail.Moves (arm_start index (slice_get rows i)) at.flow.state begun
      → WalkGoes (statement_walk arm) (at_state begun at) walked tt → StaysLong walked.flow.state met
      → MeetsFirst mark walked.flow.state met behind → StaysLong met back → IsBack mark met back next
      → GoesLeft mark (i + 1) (at_state back walked) next new → GoesLeft mark i at behind new
  arms-step mark i arm at {begun = begun} {met = met} {back = back} {walked = walked} {behind = behind} {next = next} {new = new} inside is begins
      walk_goes met_long meets back_long is_back left_goes = record {
        unless_short = λ long.
            let rest = left_goes.unless_short long in
            let one = walk_goes.unless_short (met_long (back_long rest.was_long)) in
            let start = begins.unless_short one.was_long in
            record {
              was_long = start.was_long;
              has_done = λ ready end marks ends.
                  let context = context_of at in
                  let base = state_of at.flow in
                  let at_start : context_of (at_state begun at) ≡ context =
                  ap (λ (tree : Tree). record context { tree = tree }) start.goes.same_table in
                  let came = one.has_done (loops-same at (at_state begun at) at_start refl ready) in
                  let armed = statement_walk arm context (arm_start index (slice_get rows i) base) in
                  let armed_is : statement_walk arm (context_of (at_state begun at)) (seen begun) ≡ armed =
                  ap₂ (λ (c : Context) (s : State). statement_walk arm c s) at_start start.seen_is in
                  let did = subst (λ w. Came w (at_state begun at) walked tt) armed_is came in
                  let meeting = (meets at.flow.state end marks (ways.goes-then start.goes did.goes) ends).unless_short (back_long rest.was_long) in
                  let left = ways.took-back mark marks meeting.goes is_back rest.was_long in
                  let same : context_of (at_state back walked) ≡ context =
                  context-back at walked back (did.noted.context_is ∙ at_start) left.same_table in
                  let joined = joined_states (table_of context.tree) (seen_core end) armed.after in
                  let met_is : seen met ≡ joined =
                  meeting.seen_is
                  ∙ ap₂ (λ (c : Context) (s : State). joined_states (table_of c.tree) (seen_core end) s) (did.noted.context_is ∙ at_start) did.state_is in
                  let more = rest.has_done (loops-same at (at_state back walked) same did.noted.aliases_are ready) (core met.known)
                  (marks ∙ sym (ap length left.trail_is)) (ways.ends-from (core back.known) (core at.flow.state.known) left.core_is left.ends) in
                  let left_is : arms_left (i + 1) (seen back) (context_of (at_state back walked)) (seen met) ≡ arms_left (i + 1) base context joined =
                  ap₂ (λ (s : State) (c : Context). arms_left (i + 1) s c (seen met)) (ways.left-seen left) same
                  ∙ ap (arms_left (i + 1) base context) met_is in
                  let told = subst (λ w. Came w (at_state back walked) new tt) left_is more in
                  let at_back : Noted (next_arm i arm base context (seen_core end)) at (at_state back walked) = record {
                    context_is = same;
                    aliases_are = did.noted.aliases_are;
                    open_is = did.noted.open_is;
                    broken_is = did.noted.broken_is;
                  } in
                  let both : Came ((next_arm i arm base >>= λ _. arms_left (i + 1) base) context (seen_core end)) at new tt = record {
                    goes = ways.goes-then (ways.goes-back left) told.goes;
                    noted = noted-then at_back told.noted;
                    value_is = refl;
                    state_is = told.state_is;
                  } in
                  subst (λ walking. Came (walking context (seen_core end)) at new tt) (left-cut i arm inside is base) both;
            };
      }

  -- none is left
  pub arms-end : (mark i : ℕ) (at : Walk) {last : Kept} {behind : Branch} → length arms ≤ i → StaysLong at.flow.state last
      → ((end : Core) → EndsAt (core at.flow.state.known) behind end → Comes end at.flow.state last)
      → GoesLeft mark i at behind (at_state last at)
  arms-end mark i at {last = last} {behind = behind} past last_long comes = record {
    unless_short = λ long. record {
      was_long = last_long long;
      has_done = λ ready end marks ends.
          let come = (comes end ends).unless_short long in
          subst (λ (left : List Stmt).
          Came (arms_walk (state_of at.flow) index (drop i rows) (map statement_walk left) (context_of at) (seen_core end)) at (at_state last at) tt)
          (sym (drop-past arms i past)) (record {
            goes = come.goes;
            noted = noted-nothing at (at_state last at) (ap (λ (tree : Tree). record (context_of at) { tree = tree }) come.goes.same_table) refl
                refl refl refl refl;
            value_is = refl;
            state_is = ap seen_core come.core_is;
          });
    };
  }

-- ---- the index

-- what comes behind a test of an index
pub case-tested : (head : CaseHead) (arms : List Stmt) (count : ℕ) (tree : Tree) (index : Option ℕ) (rows : List (Vec ℤ Global)) (range : Interval)
    (known : Known) {old mid new : Walk} {passed : Interval} → count ≡ length arms → tree ≡ mid.flow.state.table.now → index ≡ index_root tree head
    → rows ≡ head.constants.items → range ≡ known_range known
    → WalkGoes (tested (is_covered range (constants_before count head.constants.items)) head.site
    (common range (hull (constants_before count head.constants.items)))) old mid passed
    → WalkGoes (arms_from_here index rows (map statement_walk arms)) mid new tt
    → WalkGoes (λ context. case_walk context.tree head (map statement_walk arms) known context) old new tt
case-tested head arms count tree index rows range known {old = old} {mid = mid} {new = new} {passed = passed} count_is tree_is index_is rows_are range_is test
    rest =
    let walks = map statement_walk arms in
    let own = known_range known in
    let many : count ≡ length walks = count_is ∙ sym (length-map arms statement_walk) in
    let test_of = λ (r : Interval) (n : ℕ). tested (is_covered r (constants_before n head.constants.items)) head.site
    (common r (hull (constants_before n head.constants.items))) in
    let tests : WalkGoes (test_of own (length walks)) old mid passed =
    subst (λ (n : ℕ). WalkGoes (test_of own n) old mid passed) many (subst (λ (r : Interval). WalkGoes (test_of r count) old mid passed) range_is test) in
    let behind = λ (t : Tree). arms_from_here (index_root t head) head.constants.items walks in
    let arms_go : WalkGoes (λ context. behind context.tree context) mid new tt =
    subst (λ (i : Option ℕ). WalkGoes (arms_from_here i head.constants.items walks) mid new tt)
    (index_is ∙ ap (λ (t : Tree). index_root t head) tree_is)
    (subst (λ (l : List (Vec ℤ Global)). WalkGoes (arms_from_here index l walks) mid new tt) rows_are rest) in
    let first = test_of own (length walks) (context_of old) (state_of old.flow) in
    let last = λ (ids : List ℕ) (breaches : List Breach) (linked : List Linked).
    followed (record first { open_ids = ids; broken = breaches; linked = linked })
    (arms_walk first.after (index_root old.flow.state.table.now head) head.constants.items walks (context_of old) Dead) in
    goes-here (test_of own (length walks) >>= λ _ context. behind context.tree context)
    (λ context. case_walk context.tree head walks known context)
    (ap₂ (λ ids breaches. last ids breaches first.linked) (sym (append-nil first.open_ids)) (sym (append-nil first.broken))
    ∙ ap (last (first.open_ids ++ []) (first.broken ++ [])) (sym (append-nil first.linked)))
    (goes-then (test_of own (length walks)) (λ _ context. behind context.tree context) tests arms_go)
