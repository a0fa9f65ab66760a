-- What the checker did over an expression, as the definitions see it. It does not say what a walk is.
use Rattle.std.specs.Prelude.{◌≡◌, ℕ, Bool, List, [], ◌∷◌, ◌++◌, Option, Some, None, map, slice_get}
use Rattle.std.specs.List.{list_any}
use denote.Ref.{Bor}
use Rattle.checker_expressions.specs.declared.gathering.Gathering.{Gathering as KeptGathering}
use Rattle.typed_tree.specs.declared.tree.Block.{Block}
use Rattle.typed_tree.specs.declared.tree.Call.{Call}
use Rattle.typed_tree.specs.declared.tree.FunctionResult.{FunctionResult}
use Rattle.typed_tree.specs.declared.tree.Link.{Link}
use Rattle.typed_tree.specs.declared.tree.Tree.{Tree}
use Rattle.typed_tree.specs.Entries.{entries_of_expression}
use Rattle.domain.specs.Interval.{Interval, held}
use Rattle.checker_rows.specs.Limits.{integer}
use Rattle.checker_state.specs.State.{State}
use Rattle.checker_trail.specs.Trail.{TrailGoes as WayGoes, seen}
use Rattle.checker_loops.specs.Loops.{Claims}
use Rattle.checker_loops.specs.View.{loop_of_round}
use Rattle.checker_loops.specs.Sections.{BlockClaims, block_claims_at}
use Rattle.checker_loops.specs.BlockView.{said_section}
use Rattle.checker_calls.specs.Exit.{result_range}
use Rattle.checker_expressions.specs.declared.fault.Breach.{Breach}
use Rattle.checker_expressions.specs.declared.flow.Flow.{Flow}
use Rattle.checker_expressions.specs.Walk.{Callees, Calling, Context, Gathering, Walking, called_block, callees_of}
use Rattle.checker_expressions.specs.Walk.{first_breach, left_open, result_of, touches}

-- what a walk goes by where a flow is, with these claims on loops
abbrev pub context_of : Flow → List Claims → Context
context_of flow claims = record {
  version = flow.grounds.version;
  tree = flow.state.table.now;
  claims = claims;
  blocks = map said_section flow.grounds.sections.items;
  pairs = flow.grounds.pairs;
  block = flow.grounds.block;
  rounds = map loop_of_round flow.grounds.rounds.items;
}

-- what is claimed of the block that a call calls
abbrev pub claims_called : Context → Call → BlockClaims
claims_called context call = block_claims_at context.blocks call.block

-- the block that a call calls, if it is there
abbrev pub block_called : Tree → Call → Option Block
block_called tree call = slice_get tree.blocks.items call.block

-- a block that the checker has found
abbrev pub found_block : Option (Bor Block) → Option Block
found_block None = None
found_block (Some block) = Some block.now

-- where the value of a routine lies that is called
abbrev pub range_of_result : Context → Call → Option FunctionResult → Interval
range_of_result context call None = integer
range_of_result context call (Some result) =
    result_range context.tree (claims_called context call) result.root

abbrev pub call_range : Context → Call → Interval
call_range context call = range_of_result context call (result_of (called_block context call))

-- by what a flow tells what calls touch, and whether one of some touches a variable
abbrev pub callees_at : Flow → Callees
callees_at flow = callees_of (context_of flow [])

abbrev pub any_touches : Flow → ℕ → List Calling → Bool
any_touches flow root calls = list_any (touches (callees_at flow) root) calls

-- what is known where the flow is
abbrev pub state_of : Flow → State
state_of flow = seen flow.state

-- the first of two breaches, as far as there are any
abbrev pub first_of : Option Breach → Option Breach → Option Breach
first_of None other = other
first_of (Some one) other = Some one

-- the flow came from an old to a new point as the walk of a piece does in a context, and has its value
pub record Flowed {A : Type 0} (context : Context) (walking : Walking A) (old new : Flow) (value : A) : Type 0 where
  pub grounds_are : new.grounds ≡ old.grounds
  pub goes : WayGoes old.state new.state
  pub value_is : value ≡ (walking context (state_of old)).value
  pub state_is : state_of new ≡ (walking context (state_of old)).after
  pub open_is : new.open_ids.items ≡ old.open_ids.items ++ (walking context (state_of old)).open_ids
  pub broken_is : new.broken ≡ first_of old.broken (first_breach (walking context (state_of old)).broken)

-- the same by its grounds, whatever is claimed of loops; it was not short of memory
pub record Flows {A : Type 0} (walking : Walking A) (old new : Flow) (value : A) : Type 0 where
  pub was_long : old.state.refused ≡ None
  pub flowed : (claims : List Claims) → Flowed (context_of old claims) walking old new value

-- the same unless memory ran out
pub record FlowGoes {A : Type 0} (walking : Walking A) (old new : Flow) (value : A) : Type 0 where
  pub unless_short : new.state.refused ≡ None → Flows walking old new value

-- a range of the program is that of some results; where it is tested whether these are integers, its ends may be held
abbrev pub IsRangeOf : Option ℕ → (kept range : Interval) → Type 0
IsRangeOf None kept range = kept ≡ range
IsRangeOf (Some overflow) kept range = kept ≡ held range

-- what was gathered of a set constructor
abbrev pub said_gathering : KeptGathering → Gathering
said_gathering gathering = record { hull = gathering.hull; left = gathering.left.now; first = gathering.first }

-- a site is left open unless it is closed, and nothing else happens
abbrev pub opened : Bool → ℕ → Walking (Unit {0})
opened closed site context state =
    record { value = tt; after = state; open_ids = left_open closed site; broken = []; linked = [] }

-- the entries of an operator and its right operand
abbrev pub entries_of_link : Link → List ℕ
entries_of_link link = link.number ∷ entries_of_expression link.operand
