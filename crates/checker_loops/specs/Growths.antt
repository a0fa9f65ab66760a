-- Growths that are claimed of a for statement (ISO 7185:1990, 6.8.3.9): when they are given before its first turn and
-- behind each, and what is known of them where one begins. It does not say that turns keep to them.
use Rattle.std.specs.Prelude.{ℕ, ℤ, ◌-ℤ◌, Bool, true, ◌&&◌, ◌||◌, List, [], ◌∷◌, if◌then◌else◌, filter, length}
use Rattle.std.specs.List.{list_all}
use Rattle.typed_tree.specs.declared.tree.Direction.{Direction}
use Rattle.typed_tree.specs.declared.tree.Direction.TheVariants.{To, DownTo}
use Rattle.typed_tree.specs.declared.tree.Tree.{Tree}
use Rattle.domain.specs.declared.growth.Growth.{Growth}
use Rattle.domain.specs.Facts.{Fact, Range, Defined, Order, Grows}
use Rattle.domain.specs.Growths.{is_within, next}
use Rattle.domain.specs.Interval.{Interval}
use Rattle.checker_rows.specs.Rows.{is_ordinal_variable}
use Rattle.checker_state.specs.declared.growing.Growing.{Growing}
use Rattle.checker_state.specs.Growths.{can_grow, has_grown, with_growing}
use Rattle.checker_state.specs.Loops.{is_among}
use Rattle.checker_state.specs.State.{State, is_dead}
use Rattle.checker_loops.specs.Loops.{Round, touched}
use Rattle.checker_loops.specs.Ways.{Way}

-- ---- how turns count

-- how many for statements are among loops
abbrev pub depth_of : List Round → ℕ
depth_of rounds = length (filter (λ round. round.is_for) rounds)

-- how many turns there are at most behind the first, from a value of one range to one of another
abbrev pub most_between : Direction → (first last : Interval) → ℤ
most_between To first last = last.last -ℤ first.first
most_between DownTo first last = first.last -ℤ last.first

-- what turns of a for statement go by: how many for statements stand round it, how many turns it finishes at most, and
-- which variables it touches
pub record Turns : Type 0 where
  pub depth : ℕ
  pub most : ℤ
  pub touched : List ℕ

-- the turns of a way, of a loop in others
abbrev pub turns_of : (rounds : List Round) → (own : Round) → Way → Turns
turns_of rounds own way = record {
  depth = depth_of rounds;
  most = most_between way.direction way.first.values way.last.values;
  touched = touched own;
}

abbrev pub growing_in : Turns → Growth → Growing
growing_in turns growth = record { depth = turns.depth; most = turns.most; growth = growth }

-- ---- what is asked, and what is known

-- before the first turn a growth is given where the values lie between the numbers with which it begins
abbrev pub can_begin : State → Fact → Bool
can_begin state (Range path range) = true
can_begin state (Defined path spans) = true
can_begin state (Order root other number) = true
can_begin state (Grows root growth) = can_grow state root growth

abbrev pub all_can_begin : State → List Fact → Bool
all_can_begin state facts = list_all (can_begin state) facts

-- where a turn begins an ordinal variable that turns touch grows as is claimed; another has the value that it had
abbrev pub growth_begun : Tree → Turns → Fact → State → State
growth_begun tree turns (Range path range) state = state
growth_begun tree turns (Defined path spans) state = state
growth_begun tree turns (Order root other number) state = state
growth_begun tree turns (Grows root growth) state =
    if is_ordinal_variable tree root && is_among root turns.touched
    then with_growing root (growing_in turns growth) state else state

abbrev pub growths_begun : Tree → Turns → List Fact → State → State
growths_begun tree turns [] state = state
growths_begun tree turns (fact ∷ facts) state = growths_begun tree turns facts (growth_begun tree turns fact state)

-- behind a turn a growth is given that is the one of the next; of a variable that turns don't touch, if it is so itself
abbrev pub has_turned : Turns → State → Fact → Bool
has_turned turns state (Range path range) = true
has_turned turns state (Defined path spans) = true
has_turned turns state (Order root other number) = true
has_turned turns state (Grows root growth) =
    if is_among root turns.touched then has_grown state root turns.depth growth
    else is_dead state || is_within growth (next growth)

abbrev pub all_have_turned : Turns → State → List Fact → Bool
all_have_turned turns state facts = list_all (has_turned turns state) facts
