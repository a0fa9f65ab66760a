-- What the checker did over operators, index expressions and actual parameters, from one of them on.
use Rattle.std.proofs.Common.{◌≡◌, ◌∙◌, ap, sym, refl, ℕ, suc, ◌+◌, ◌<◌, ◌≤◌, Bool, false, List, [], ◌∷◌, ◌++◌, drop, get_or, length, map, append_assoc}
use Rattle.std.proofs.Common.{add-one, append-nil, drop-cons}
use Rattle.std.proofs.Math.ListN.{drop_of_length-le}
use Rattle.std.proofs.lemmas.Bool.{false≢true}
use Rattle.std.specs.Prelude.{◌==◌}
use Rattle.typed_tree.specs.declared.tree.Designator.{Designator}
use Rattle.typed_tree.specs.declared.tree.Designator.TheVariants.{Single}
use Rattle.typed_tree.specs.declared.tree.Expr.{Expr}
use Rattle.typed_tree.specs.declared.tree.Link.{Link}
use Rattle.typed_tree.specs.declared.tree.Passed.{Passed}
use Rattle.typed_tree.specs.declared.tree.Selector.{Selector}
use Rattle.typed_tree.specs.Entries.{joined}
use Rattle.domain.specs.Interval.{Interval}
use Rattle.domain.specs.declared.versions.Version.{Version}
use Rattle.checker_rows.specs.Rows.{is_ordinal_variable}
use Rattle.checker_state.specs.State.{State}
use Rattle.checker_state.specs.Stores.{Index, Reach}
use Rattle.checker_state.specs.declared.value.Known.{Known}
use Rattle.checker_state.specs.Values.{known_range}
use Rattle.checker_calls.specs.Actuals.{Actual}
use Rattle.checker_expressions.specs.declared.fault.Breach.{Breach}
use Rattle.checker_expressions.specs.declared.flow.Flow.{Flow}
use Rattle.checker_expressions.specs.View.{FlowGoes, context_of, state_of}
use Rattle.checker_expressions.specs.Walk.{Gathering, Linked, Walked, Walking, ◌>>=◌, actuals_walk, behind_next, deeper, form_before_by, gathered, give}
use Rattle.checker_expressions.specs.Walk.{in_turn, index_pieces, index_test, indexes_walk, is_kept, link_walk, members_walk, next_test, passed_piece_of}
use Rattle.checker_expressions.specs.Walk.{piece_of, value_walk}
use Rattle.checker_expressions.specs.Visits.{all_counted}
use Rattle.checker_expressions.proofs.Counted.{counted-both}
use Rattle.checker_expressions.proofs.Flows.{goes-alike, goes-as, goes-give, goes-then}

-- ---- lists from a place on

pub item-cut : {X : Type 0} (items : List X) (i : ℕ) (x : X) → i < length items → x ≡ get_or items i x → drop i items ≡ x ∷ drop (i + 1) items
item-cut items i x inside is = rw add-one (drop-cons items i x inside ∙ ap (λ y. y ∷ drop (suc i) items) (sym is))

-- the entries of the first, and then those of the others
pub entries-cut : {X Counter : Type 0} (counted : ℕ → Counter → Counter) (entries : X → List ℕ) (items : List X) (i : ℕ) (x : X) (before : Counter)
    {after : Counter} → i < length items → x ≡ get_or items i x → after ≡ all_counted counted (entries x) before
    → all_counted counted (joined (map entries (drop (i + 1) items))) after ≡ all_counted counted (joined (map entries (drop i items))) before
entries-cut {X = X} counted entries items i x before inside is counts =
    ap (all_counted counted (joined (map entries (drop (i + 1) items)))) counts
    ∙ sym (counted-both counted (entries x) (joined (map entries (drop (i + 1) items))) before)
    ∙ ap (λ (list : List X). all_counted counted (joined (map entries list)) before) (sym (item-cut items i x inside is))

-- ---- operators

pub turn-step : (items : List Link) (i : ℕ) (link : Link) (left : Known) {value : Known} {old mid new : Flow} {result : Known}
    → i < length items → link ≡ get_or items i link → FlowGoes (link_walk link left) old mid value
    → FlowGoes (in_turn (map link_walk (drop (i + 1) items)) value) mid new result
    → FlowGoes (in_turn (map link_walk (drop i items)) left) old new result
turn-step items i link left {value = value} inside is one two =
    goes-as (sym (ap (λ links. in_turn (map link_walk links) left) (item-cut items i link inside is)))
    (goes-then (link_walk link left) (in_turn (map link_walk (drop (i + 1) items))) one two)

pub turn-end : (items : List Link) (i : ℕ) (left : Known) (flow : Flow) → length items ≤ i
    → FlowGoes (in_turn (map link_walk (drop i items)) left) flow flow left
turn-end items i left flow past =
    goes-as (sym (ap (λ links. in_turn (map link_walk links) left) (drop_of_length-le items past))) (goes-give left flow)

-- ---- index expressions

-- an index, by the form of its expression, if none of those behind it holds a call, and by where it lies
abbrev pub index_at : (ordinal : ℕ → Bool) → Version → Expr → List Expr → Interval → Index
index_at ordinal version index more range = record { form = form_before_by ordinal version (piece_of index) (index_pieces more); range = range }

-- the index expressions behind one of them, by where that lies
abbrev behind_walk : List Selector → Expr → List Expr → Reach → Interval → Walking Reach
behind_walk selectors index more reach range context =
    indexes_walk (behind_next selectors) (index_pieces more)
    (deeper (is_kept context.version selectors) (index_at (is_ordinal_variable context.tree) context.version index more range) reach) context

-- which variables are ordinals where a flow is
abbrev pub ordinal_in : Flow → ℕ → Bool
ordinal_in flow = is_ordinal_variable flow.state.table.now

pub index-step : (selectors : List Selector) (items : List Expr) (i : ℕ) (index : Expr) (reach : Reach) {known : Known} {range : Interval}
    {old mid tested new : Flow} {result : Reach} → i < length items → index ≡ get_or items i index → FlowGoes (value_walk index) old mid known
    → FlowGoes (index_test (next_test selectors) known) mid tested range
    → FlowGoes (indexes_walk (behind_next selectors) (index_pieces (drop (i + 1) items))
    (deeper (is_kept tested.grounds.version selectors) (index_at (ordinal_in tested) tested.grounds.version index (drop (i + 1) items) range) reach)) tested new
    result
    → FlowGoes (indexes_walk selectors (index_pieces (drop i items)) reach) old new result
index-step selectors items i index reach {known = known} {range = range} {tested = tested} inside is one two three =
    let more = drop (i + 1) items in
    let behind = behind_walk selectors index more reach in
    goes-as (sym (ap (λ indexes. indexes_walk selectors (index_pieces indexes) reach) (item-cut items i index inside is)))
    (goes-then (value_walk index) (λ known. index_test (next_test selectors) known >>= behind) one
    (goes-then (index_test (next_test selectors) known) behind two
    (goes-alike (indexes_walk (behind_next selectors) (index_pieces more)
    (deeper (is_kept tested.grounds.version selectors) (index_at (ordinal_in tested) tested.grounds.version index more range) reach)) (behind range)
    (λ claims. refl) three)))

pub index-end : (selectors : List Selector) (items : List Expr) (i : ℕ) (reach : Reach) (flow : Flow) → length items ≤ i
    → FlowGoes (indexes_walk selectors (index_pieces (drop i items)) reach) flow flow reach
index-end selectors items i reach flow past =
    goes-as (sym (ap (λ indexes. indexes_walk selectors (index_pieces indexes) reach) (drop_of_length-le items past))) (goes-give reach flow)

-- ---- member expressions

-- the first of some designators, and those behind it
pub designators-cut : (items : List Designator) (one : Designator) → (length items == 0) ≡ false → get_or items 0 (Single 0) ≡ one
    → items ≡ one ∷ drop 1 items
designators-cut [] one some is = absurd (false≢true (sym some))
designators-cut (item ∷ items) one some is = ap (λ (first : Designator). first ∷ items) is

pub member-step : (items : List Expr) (i : ℕ) (member : Expr) (gathering : Gathering) {known : Known} {more : Gathering} {old mid gathers new : Flow}
    {result : Interval} → i < length items → member ≡ get_or items i member → FlowGoes (value_walk member) old mid known
    → FlowGoes (gathered gathering (known_range known)) mid gathers more
    → FlowGoes (members_walk (index_pieces (drop (i + 1) items)) more) gathers new result
    → FlowGoes (members_walk (index_pieces (drop i items)) gathering) old new result
member-step items i member gathering {known = known} inside is one two three =
    let rest = members_walk (index_pieces (drop (i + 1) items)) in
    goes-as (sym (ap (λ members. members_walk (index_pieces members) gathering) (item-cut items i member inside is)))
    (goes-then (value_walk member) (λ known. gathered gathering (known_range known) >>= rest) one
    (goes-then (gathered gathering (known_range known)) rest two three))

pub member-end : (items : List Expr) (i : ℕ) (gathering : Gathering) (flow : Flow) → length items ≤ i
    → FlowGoes (members_walk (index_pieces (drop i items)) gathering) flow flow gathering.hull
member-end items i gathering flow past =
    goes-as (sym (ap (λ members. members_walk (index_pieces members) gathering) (drop_of_length-le items past))) (goes-give gathering.hull flow)

-- ---- actual parameters

-- the actual parameters from one of them on
abbrev actuals_from : List Passed → ℕ → Walking (List Actual)
actuals_from items i = actuals_walk (map passed_piece_of (drop i items))

-- a walk with values before its own
abbrev pub prefixed : List Actual → Walking (List Actual) → Walking (List Actual)
prefixed before walk context state = record (walk context state) { value = before ++ (walk context state).value }

pub passed-begun : {walk : Walking (List Actual)} {old new : Flow} {result : List Actual} → FlowGoes (prefixed [] walk) old new result → FlowGoes walk old new
    result
passed-begun {walk = walk} goes = goes-alike (prefixed [] walk) walk (λ claims. refl) goes

passed-joined : (passed : List Actual) (value : Actual) (more : List Actual) (after : State) (ids rest : List ℕ) (broken others : List Breach)
    (linked behind : List Linked)
    → ◌≡◌ {A = Walked (List Actual)}
    (record { value = (passed ++ value ∷ []) ++ more; after = after; open_ids = ids ++ rest; broken = broken ++ others; linked = linked ++ behind })
    (record {
      value = passed ++ (value ∷ more);
      after = after;
      open_ids = ids ++ (rest ++ []);
      broken = broken ++ (others ++ []);
      linked = linked ++ (behind ++ []);
    })
passed-joined passed value more after ids rest broken others linked behind =
    ap (λ v. record { value = v; after = after; open_ids = ids ++ rest; broken = broken ++ others; linked = linked ++ behind })
    (append_assoc passed (value ∷ []) more)
    ∙ ap (λ o. record { value = passed ++ (value ∷ more); after = after; open_ids = ids ++ o; broken = broken ++ others; linked = linked ++ behind })
    (sym (append-nil rest))
    ∙ ap (λ b. record { value = passed ++ (value ∷ more); after = after; open_ids = ids ++ (rest ++ []); broken = broken ++ b; linked = linked ++ behind })
    (sym (append-nil others))
    ∙ ap (λ l. record {
      value = passed ++ (value ∷ more);
      after = after;
      open_ids = ids ++ (rest ++ []);
      broken = broken ++ (others ++ []);
      linked = linked ++ l;
    })
    (sym (append-nil behind))

pub passed-step : (items : List Passed) (i : ℕ) (one : Passed) (passed : List Actual) {actual : Actual} {old mid new : Flow} {result : List Actual}
    → i < length items → one ≡ get_or items i one → FlowGoes (passed_piece_of one).walk old mid actual
    → FlowGoes (prefixed (passed ++ actual ∷ []) (actuals_from items (i + 1))) mid new result
    → FlowGoes (prefixed passed (actuals_from items i)) old new result
passed-step items i one passed {old = old} inside is first rest =
    let walk = (passed_piece_of one).walk in
    let more = actuals_from items (i + 1) in
    goes-alike (walk >>= λ actual. prefixed (passed ++ actual ∷ []) more) (prefixed passed (actuals_from items i))
    (λ claims.
    let context = context_of old claims in
    let w = walk context (state_of old) in
    let r = more context w.after in
    passed-joined passed w.value r.value r.after w.open_ids r.open_ids w.broken r.broken w.linked r.linked
    ∙ ap (λ (list : List Passed). prefixed passed (actuals_walk (map passed_piece_of list)) context (state_of old)) (sym (item-cut items i one inside is)))
    (goes-then walk (λ actual. prefixed (passed ++ actual ∷ []) more) first rest)

-- none is left
pub passed-end : (items : List Passed) (i : ℕ) (passed : List Actual) (flow : Flow) → length items ≤ i
    → FlowGoes (prefixed passed (actuals_from items i)) flow flow passed
passed-end items i passed flow past =
    goes-alike (give passed) (prefixed passed (actuals_from items i))
    (λ claims.
    ap (λ (value : List Actual). give value (context_of flow claims) (state_of flow)) (sym (append-nil passed))
    ∙ ap (λ (list : List Passed). prefixed passed (actuals_walk (map passed_piece_of list)) (context_of flow claims) (state_of flow))
    (sym (drop_of_length-le items past)))
    (goes-give passed flow)

-- what was passed before was put into a list, of which this is known
pub passed-pushed : (walk : Walking (List Actual)) (passed kept : List Actual) {old mid new : Flow} {result : List Actual} → FlowGoes (give passed) old mid kept
    → FlowGoes (prefixed kept walk) mid new result → FlowGoes (prefixed passed walk) old new result
passed-pushed walk passed kept pushed goes =
    goes-alike (give passed >>= λ before. prefixed before walk) (prefixed passed walk) (λ claims. refl)
    (goes-then (give passed) (λ before. prefixed before walk) pushed goes)
