-- What the checker did over blocks, from what it did over their parts.
use Rattle.std.proofs.Common.{arith, ◌≡◌, ◌∙◌, refl, sym, ap, ap₂, ℕ, suc, ◌+◌, ◌<◌, ◌≤◌, List, [], ◌∷◌, drop, get_or, length, map, subst}
use Rattle.std.proofs.Common.{Bool, Some, append-nil}
use Rattle.std.specs.Global.{Vec}
use Rattle.place.specs.declared.Place.{Place}
use Rattle.domain.specs.Interval.{Interval}
use Rattle.typed_tree.specs.declared.tree.Block.{Block}
use Rattle.typed_tree.specs.declared.tree.FunctionResult.{FunctionResult}
use Rattle.typed_tree.specs.declared.tree.Tree.{Tree}
use Rattle.checker_state.specs.State.{State, has_number, of_types, range_of, table_of, unless_empty}
use Rattle.checker_trail.specs.declared.state.State.{State as Kept}
use Rattle.checker_known.specs.declared.change.Branch.{Branch}
use Rattle.checker_trail.specs.Trail as trail
use Rattle.checker_known.specs.Knowledge.{seen_core}
use Rattle.checker_known.specs.View.{type_rows}
use Rattle.checker_trail.proofs.Ways as ways
use Rattle.checker_loops.specs.Loops.{gives_claims}
use Rattle.checker_loops.specs.Sections.{block_claims_at}
use Rattle.checker_loops.specs.BlockView.{said_section}
use Rattle.checker_loops.specs.Starts.{all_declared}
use Rattle.checker_expressions.specs.declared.flow.Flow.{Flow}
use Rattle.checker_expressions.specs.declared.fault.Rule.TheVariants.{Exit}
use Rattle.checker_expressions.specs.View as expressions
use Rattle.checker_expressions.specs.View.{opened, state_of}
use Rattle.checker_expressions.proofs.Flows as flows
use Rattle.checker_expressions.specs.Walk.{Context, Walking, ◌>>=◌, asked, changed_by, left_open}
use Rattle.cert_checker.specs.declared.walk.Walk.{Walk}
use Rattle.cert_checker.specs.Walk.{block_walk, blocks_walk, result_use, statement_walk}
use Rattle.cert_checker.specs.View.{AreDeclared, Begins, Came, WalkGoes, KnowsTypes, Noted, Passes, at_state, begin_here, block_walk_here, context_of}
use Rattle.cert_checker.specs.View.{exit_here, start_of}
use Rattle.cert_checker.proofs.Steps.{came-then, drop-past, goes-here, goes-then, item-cut, lifted, loops-noted, moved, noted-as, noted-nothing, noted-then}
use Rattle.cert_checker.proofs.StepsWays.{IsBack, StaysLong}

-- ---- from the start of a block to its end

-- the block begins
pub begun : (number : ℕ) (declared : List (Vec ℕ)) (old : Walk) {flow : Flow} → flow ≡ record (old.flow) { state = flow.state }
    → StaysLong old.flow.state flow.state
    → (AreDeclared declared old → KnowsTypes old → trail.Moves (λ _. start_of number old.flow) old.flow.state flow.state)
    → Begins (begin_here number) declared old (record old { flow = flow })
begun number declared old {flow = flow} only long begins =
    subst (λ (f : Flow). Begins (begin_here number) declared old (record old { flow = f })) (sym only) (record {
      unless_short = λ is_long. record {
        was_long = long is_long;
        has_done = λ ready are types.
            let one = (begins are types).unless_short is_long in
            record {
              goes = one.goes;
              noted = noted-nothing old (at_state flow.state old) (ap (λ (tree : Tree). record (context_of old) { tree = tree }) one.goes.same_table)
                  refl refl refl refl refl;
              value_is = refl;
              state_is = one.seen_is;
            };
      };
    })

-- and goes on
pub begins-then : (first next : Walking (Unit {0})) (declared : List (Vec ℕ)) {old mid new : Walk} → Begins first declared old mid
    → WalkGoes next mid new tt → Begins (first >>= λ _. next) declared old new
begins-then first next declared begins goes = record {
  unless_short = λ long.
      let rest = goes.unless_short long in
      let one = begins.unless_short rest.was_long in
      record {
        was_long = one.was_long;
        has_done = λ ready are types.
            let came = one.has_done ready are types in
            came-then first (λ _. next) came (rest.has_done (loops-noted came.noted ready));
      };
}

-- from its start to its end
pub block-inside : (number : ℕ) (block : Block) (declared : List (Vec ℕ)) {old started walked used new : Walk}
    → Begins (begin_here number) declared old started → WalkGoes (statement_walk block.body) started walked tt
    → WalkGoes (result_use block.heading.result) walked used tt → WalkGoes (exit_here number block.end) used new tt
    → Begins (block_walk_here number block) declared old new
block-inside number block declared begins one two three =
    begins-then (begin_here number) (statement_walk block.body >>= λ _. (result_use block.heading.result >>= λ _. exit_here number block.end)) declared
    begins
    (goes-then (statement_walk block.body) (λ _. (result_use block.heading.result >>= λ _. exit_here number block.end)) one
    (goes-then (result_use block.heading.result) (λ _. exit_here number block.end) two three))

-- ---- its end

-- a function has a result where it ends
pub result-used : (own : FunctionResult) (closed : Bool) (range : Interval) {old : Walk} {flow : Flow} {state : Kept}
    → closed ≡ has_number (table_of (context_of old).tree) (state_of old.flow) own.root → expressions.FlowGoes (opened closed own.defined) old.flow flow tt
    → range ≡ range_of (state_of flow) own.root → trail.Moves (unless_empty range) flow.state state
    → WalkGoes (result_use (Some own)) old (record old { flow = record flow { state = state } }) tt
result-used own closed range {old = old} {flow = flow} closed_is opens range_is moves =
    let step = λ (s : State). unless_empty (range_of s own.root) s in
    let has = has_number (table_of (context_of old).tree) (state_of old.flow) own.root in
    let site = opened has own.defined in
    goes-here (site >>= λ _. changed_by step) (result_use (Some own))
    (ap (λ ids. record (result_use (Some own) (context_of old) (state_of old.flow)) { open_ids = ids }) (append-nil (left_open has own.defined)))
    (goes-then site (λ _. changed_by step)
    (lifted (subst (λ (b : Bool). expressions.FlowGoes (opened b own.defined) old.flow flow tt) closed_is opens))
    (moved (ways.moves-as step moves (ap (λ r. unless_empty r (state_of flow)) range_is))))

-- its exit facts are asked for
pub exit-asked : (number : ℕ) (place : Place) (given : Bool) {old new : Flow}
    → given ≡ gives_claims old.state.table.now (state_of old) (block_claims_at (map said_section old.grounds.sections.items) number).exit
    → expressions.FlowGoes (asked given Exit place) old new tt → expressions.FlowGoes (exit_here number place) old new tt
exit-asked number place given {old = old} is goes =
    flows.goes-alike (asked given Exit place) (exit_here number place)
    (λ claims. ap (λ (b : Bool). asked b Exit place (expressions.context_of old claims) (state_of old)) is) goes

-- ---- a block

-- the checker in a block of a number
abbrev pub in_block : ℕ → Walk → Walk
in_block number walk = record walk { flow = record (walk.flow) { grounds = record (walk.flow.grounds) { block = number } } }

pub block-done : (number : ℕ) (block : Block) (declared : List (Vec ℕ)) (mark inner outer : ℕ) (old : Walk) {mid : Walk} {back : Kept} {end : Branch}
    → inner ≡ number → outer ≡ old.flow.grounds.block → mark ≡ length old.flow.state.trail.items
    → Begins (block_walk_here number block) declared (in_block inner old) mid → StaysLong mid.flow.state back → IsBack mark mid.flow.state back end
    → Passes (block_walk number block) declared old (in_block outer (at_state back mid))
block-done number block declared mark inner outer old {mid = mid} {back = back} inner_is outer_is marks begins back_long is_back = record {
  unless_short = λ long.
      let one = begins.unless_short (back_long long) in
      record {
        was_long = one.was_long;
        has_done = λ ready are types.
            let came = one.has_done ready are types in
            let left = ways.took-back mark marks came.goes is_back long in
            let context = context_of old in
            let walked_is : block_walk_here number block (record context { block = inner }) (state_of old.flow)
            ≡ block_walk number block context (state_of old.flow) =
            ap (λ (n : ℕ). block_walk_here number block (record context { block = n }) (state_of old.flow)) inner_is in
            let told = subst (λ w. Came w (in_block inner old) mid tt) walked_is came in
            record {
              core_is = left.core_is;
              noted = record {
                context_is = ap₂ (λ (tree : Tree) (c : Context). record c { tree = tree; block = outer }) left.same_table told.noted.context_is
                    ∙ ap (λ (n : ℕ). record context { block = n }) outer_is;
                aliases_are = told.noted.aliases_are;
                open_is = told.noted.open_is;
                broken_is = told.noted.broken_is;
              };
            };
      };
}

-- ---- blocks, from one of them on

-- what is noted of blocks does not depend on what is known before them
pub open-alike : (number : ℕ) (blocks : List Block) (context : Context) (one other : State)
    → (blocks_walk number blocks context one).open_ids ≡ (blocks_walk number blocks context other).open_ids
open-alike number [] context one other = refl
open-alike number (block ∷ blocks) context one other = refl

pub broken-alike : (number : ℕ) (blocks : List Block) (context : Context) (one other : State)
    → (blocks_walk number blocks context one).broken ≡ (blocks_walk number blocks context other).broken
broken-alike number [] context one other = refl
broken-alike number (block ∷ blocks) context one other = refl

blocks-cut : (blocks : List Block) (i : ℕ) (block : Block) → i < length blocks → block ≡ get_or blocks i block
    → (block_walk i block >>= λ _. blocks_walk (i + 1) (drop (i + 1) blocks)) ≡ blocks_walk i (drop i blocks)
blocks-cut blocks i block inside is =
    let next : suc i ≡ i + 1 = omega arith in
    sym (ap (blocks_walk i) (item-cut blocks i block inside is)
    ∙ ap (λ n. block_walk i block >>= λ _. blocks_walk n (drop (i + 1) blocks)) next)

pub blocks-step : (blocks : List Block) (i : ℕ) (block : Block) (declared : List (Vec ℕ)) {old mid new : Walk}
    → i < length blocks → block ≡ get_or blocks i block → Passes (block_walk i block) declared old mid
    → Passes (blocks_walk (i + 1) (drop (i + 1) blocks)) declared mid new → Passes (blocks_walk i (drop i blocks)) declared old new
blocks-step blocks i block declared {old = old} {mid = mid} {new = new} inside is first_passes rest_passes = record {
  unless_short = λ long.
      let rest = rest_passes.unless_short long in
      let first = first_passes.unless_short rest.was_long in
      record {
        was_long = first.was_long;
        has_done = λ ready are types.
            let context = context_of old in
            let state = state_of old.flow in
            let one = first.has_done ready are types in
            let same = one.noted.context_is in
            let types_behind : KnowsTypes mid =
            subst (λ (c : Context). state_of mid.flow ≡ of_types c.version (type_rows c.tree)) (sym same) (ap seen_core one.core_is ∙ types) in
            let two = rest.has_done (loops-noted one.noted ready)
            (are ∙ ap (λ (c : Context). all_declared c.tree) (sym same)) types_behind in
            let then = (block_walk i block context state).after in
            let left = blocks_walk (i + 1) (drop (i + 1) blocks) in
            let more : Noted (left context then) mid new =
            noted-as (left context then)
            (ap (λ (c : Context). (left c (state_of mid.flow)).open_ids) same ∙ open-alike (i + 1) (drop (i + 1) blocks) context (state_of mid.flow) then)
            (ap (λ (c : Context). (left c (state_of mid.flow)).broken) same ∙ broken-alike (i + 1) (drop (i + 1) blocks) context (state_of mid.flow) then)
            two.noted in
            record {
              core_is = two.core_is ∙ one.core_is;
              noted = subst (λ walking. Noted (walking context state) old new) (blocks-cut blocks i block inside is) (noted-then one.noted more);
            };
      };
}

-- no block is left
pub blocks-end : (blocks : List Block) (i : ℕ) (declared : List (Vec ℕ)) (old : Walk) → length blocks ≤ i
    → Passes (blocks_walk i (drop i blocks)) declared old old
blocks-end blocks i declared old past =
    subst (λ (left : List Block). Passes (blocks_walk i left) declared old old) (sym (drop-past blocks i past)) (record {
      unless_short = λ long. record {
        was_long = long;
        has_done = λ ready are types. record { core_is = refl; noted = noted-nothing old old refl refl refl refl refl refl };
      };
    })
