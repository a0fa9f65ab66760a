-- What is known at the head of a loop and behind it (ISO 7185:1990, 6.8.3.7 to 6.8.3.9), from what is known where it is
-- entered and what its turns may change. It does not say which variables a loop changes, nor that its claims hold.
use Rattle.std.specs.Prelude.{ℕ, Bool, false, List, [], ◌∷◌, Option, Some, None, nat_eq}
use Rattle.std.specs.List.{filter_map, list_all, list_any}
use Rattle.domain.specs.Interval.{Interval, common, vacant}
use Rattle.checker_state.specs.Bounds.{Bound}
use Rattle.checker_state.specs.State.{Claim, Dead, Defined, Holds, Live, Range, State, Table, range_of, row_at}
use Rattle.checker_state.specs.State.{state_gives, with_defined, with_more, with_range, with_row}
use Rattle.checker_state.specs.Changes.{all_changed, in_place, with_change, with_some}

-- a number is among some
abbrev pub is_among : ℕ → List ℕ → Bool
is_among root roots = list_any (λ other. nat_eq other root) roots

-- ---- what a loop leaves

-- the components of each of some rows may have other values of their types
abbrev pub with_limits : (limits : ℕ → Interval) → List ℕ → State → State
with_limits limits [] state = state
with_limits limits (row ∷ rows) state = with_limits limits rows (with_range row (limits row) state)

-- a variable may be undefined
abbrev pub with_forgotten : ℕ → State → State
with_forgotten root Dead = Dead
with_forgotten root (Live known) = Live (with_row root (record (row_at known root) { is_defined = false }) known)

abbrev pub all_forgotten : List ℕ → State → State
all_forgotten [] state = state
all_forgotten (root ∷ roots) state = all_forgotten roots (with_forgotten root state)

-- what is known after turns that give some variables other values, which have these rows, and that leave control
-- variables undefined
abbrev pub after_turns : (limits : ℕ → Interval) → (roots rows controls : List ℕ) → State → State
after_turns limits roots rows controls state =
    all_forgotten controls (with_limits limits rows (all_changed roots state))

-- ---- the claims of a certificate

-- a claim is known: a range beside that which is known
abbrev pub with_claim : Claim → State → State
with_claim (Range row range) state = with_range row (common (range_of state row) range) state
with_claim (Defined row) state = with_defined row state
with_claim (Holds held) state = with_some (Some held) state

abbrev pub with_claims : List Claim → State → State
with_claims [] state = state
with_claims (claim ∷ claims) state = with_claims claims (with_claim claim state)

-- what is known at the head of a loop: what turns leave, and the claims
abbrev pub head : (limits : ℕ → Interval) → (roots rows controls : List ℕ) → List Claim → State → State
head limits roots rows controls claims state = with_claims claims (after_turns limits roots rows controls state)

-- a state gives each claim
abbrev pub gives_all : Table → State → List Claim → Bool
gives_all table state claims = list_all (state_gives table state) claims

-- ---- behind a loop

-- what is known with a bound in the place of a variable, if there is one
abbrev pub replaced : ℕ → Option Bound → State → State
replaced root None state = state
replaced root (Some own) Dead = Dead
replaced root (Some own) (Live known) =
    Live (record known { held = with_more (filter_map (in_place root own) known.held) [] })

-- a variable is undefined from here on
abbrev pub with_undefined : ℕ → State → State
with_undefined root state = with_forgotten root (with_range root vacant (with_change root None state))
