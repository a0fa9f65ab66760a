-- The checker's own values as the definitions see them, and that the checker has walked over a piece of a program.
-- It does not say what a walk is.
use Rattle.std.specs.Prelude.{◌≡◌, ℕ, ℤ, List, [], ◌∷◌, ◌++◌, Option, Some, None, map}
use Rattle.std.specs.Global.{Vec}
use Rattle.std.specs.declared.alloc.Global.{Global}
use Rattle.std.specs.declared.boxed.Box.{Box}
use Rattle.std.specs.declared.vec.Vec.{Vec as VecIn}
use Rattle.place.specs.declared.Place.{Place}
use Rattle.certificate.specs.declared.Certificate.{Certificate}
use Rattle.typed_tree.specs.declared.tree.Tree.{Tree}
use Rattle.typed_tree.specs.declared.tree.Block.{Block}
use Rattle.typed_tree.specs.declared.tree.Stmt.{Stmt}
use Rattle.typed_tree.specs.Entries.{entries_of_statement, joined}
use Rattle.domain.specs.Interval.{Interval}
use Rattle.checker_rows.specs.Rows.{rows_of, type_at}
use Rattle.checker_state.specs.State.{State, of_types}
use Rattle.checker_trail.specs.declared.state.State.{State as Kept}
use Rattle.checker_trail.specs.Trail as trail
use Rattle.checker_known.specs.Knowledge.{core}
use Rattle.checker_trail.specs.Trail.{seen}
use Rattle.checker_known.specs.View.{type_rows}
use Rattle.checker_loops.specs.declared.loops.Claims.{Claims as KeptClaims}
use Rattle.checker_loops.specs.declared.rounds.Round.{Round as KeptRound}
use Rattle.checker_loops.specs.Loops.{Claims, Round, claims_at, head_of, round_of, with_own}
use Rattle.checker_loops.specs.View.{all_loop_aliases, claims_of_round, loop_of_round, said_claims}
use Rattle.checker_loops.specs.Aliases.{Stored}
use Rattle.checker_loops.specs.Sections.{all_block_claims, all_pairs, block_claims_at}
use Rattle.checker_loops.specs.Starts.{all_declared, block_start}
use Rattle.checker_loops.specs.BlockView.{said_section}
use Rattle.checker_expressions.specs.declared.fault.CheckFault.{CheckFault}
use Rattle.checker_expressions.specs.declared.fault.CheckFault.TheVariants.{Memory, TooLarge, Foreign, Broken}
use Rattle.checker_expressions.specs.declared.flow.Flow.{Flow}
use Rattle.checker_expressions.specs.declared.grounds.Grounds.{Grounds}
use Rattle.checker_expressions.specs.declared.fault.Rule.TheVariants.{Exit, LoopEntry, LoopTurn}
use Rattle.checker_expressions.specs.View as expressions
use Rattle.checker_expressions.specs.View.{first_of, state_of}
use Rattle.checker_expressions.specs.Walk.{Context, Walked, Walking, ◌>>=◌, first_breach, give}
use Rattle.cert_checker.specs.declared.walk.Walk.{Walk}
use Rattle.cert_checker.specs.Walk.{arms_walk, begin, block_walk_by, facts_given, here, no_more, statement_walk}

-- what a walk of the checker goes by
abbrev pub context_of : Walk → Context
context_of walk = expressions.context_of walk.flow (map said_claims walk.claims.now)

-- the checker with another state
abbrev pub at_state : Kept → Walk → Walk
at_state state walk = record walk { flow = record (walk.flow) { state = state } }

-- these are the aliases of what each loop of a program changes
abbrev pub AreLoops : Context → List (Vec ℕ) → Type 0
AreLoops context aliases =
    map (λ row. row.items) aliases ≡ all_loop_aliases context.tree context.pairs context.claims

-- ---- what the checker did

-- memory hadn't run out before, and this was done, if the checker has the aliases of the loops
pub record Did (old : Walk) (done : Type 0) : Type 0 where
  pub was_long : old.flow.state.refused ≡ None
  pub has_done : AreLoops (context_of old) old.aliases.now → done

-- the same unless memory ran out
pub record WalkDoes (old new : Walk) (done : Type 0) : Type 0 where
  pub unless_short : new.flow.state.refused ≡ None → Did old done

-- what the checker noted from an old to a new point is what was walked: the sites that are left open, and the first
-- rule that is broken; it goes by what it went by before
pub record Noted {A : Type 0} (walked : Walked A) (old new : Walk) : Type 0 where
  pub context_is : context_of new ≡ context_of old
  pub aliases_are : new.aliases.now ≡ old.aliases.now
  pub open_is : new.flow.open_ids.items ≡ old.flow.open_ids.items ++ walked.open_ids
  pub broken_is : new.flow.broken ≡ first_of old.flow.broken (first_breach walked.broken)

-- the checker came from an old to a new point as was walked, and has the value; what it did to its state can be taken
-- back
pub record Came {A : Type 0} (walked : Walked A) (old new : Walk) (value : A) : Type 0 where
  pub goes : trail.TrailGoes old.flow.state new.flow.state
  pub noted : Noted walked old new
  pub value_is : value ≡ walked.value
  pub state_is : state_of new.flow ≡ walked.after

-- the checker went over a piece of a program
abbrev pub WalkGoes : {A : Type 0} → Walking A → Walk → Walk → A → Type 0
WalkGoes walking old new value = WalkDoes old new (Came (walking (context_of old) (state_of old.flow)) old new value)

-- ---- statements

-- the walk over the statement behind `else`, if there is one, and its entries
abbrev pub else_walk : Option (Box Stmt Global) → Walking (Unit {0})
else_walk None = give tt
else_walk (Some statement) = statement_walk statement.value

abbrev pub else_entries : Option (Box Stmt Global) → List ℕ
else_entries None = []
else_entries (Some statement) = entries_of_statement statement.value

-- the entries of statements
abbrev pub statements_entries : List Stmt → List ℕ
statements_entries statements = joined (map entries_of_statement statements)

-- the arms of a case from what is known here; before the first, no way behind it is known
abbrev pub arms_from_here : Option ℕ → List (VecIn ℤ Global) → List (Walking (Unit {0})) → Walking (Unit {0})
arms_from_here index rows arms = do
  base ← here
  _ ← no_more
  arms_walk base index rows arms

-- an ordinal or a set of the type of a row
abbrev pub row_stored : Tree → ℕ × Interval → Stored
row_stored tree one = record { type_id = type_at (rows_of tree) one.0; range = one.1 }

-- ---- loops

-- what is claimed of the loop of a number in the program of the checker
abbrev pub claims_in : ℕ → Walk → Claims
claims_in number walk = claims_at (context_of walk).claims number

-- the loop of a number in the program of the checker
abbrev pub loop_in : ℕ → Walk → Round
loop_in number walk = round_of (context_of walk).tree (context_of walk).pairs (context_of walk).claims number

-- a loop of the checker is that of a number, perhaps of a for statement with a control variable
pub record IsLoop (number : ℕ) (control : Option ℕ) (walk : Walk) (round : KeptRound) : Type 0 where
  pub own_is : round.own ≡ control
  pub claims_are : claims_of_round round ≡ claims_in number walk
  pub loop_is : loop_of_round round ≡ loop_in number walk

-- the checker came to the head of a loop of a number and a place, where its facts are asked for
pub record AtHead (number : ℕ) (place : Place) (control : Option ℕ) (old new : Walk) : Type 0 where
  pub goes : trail.TrailGoes old.flow.state new.flow.state
  pub context_is : context_of new
      ≡ record (context_of old) {
        rounds = (context_of old).rounds ++ loop_in number old ∷ [];
      }
  pub aliases_are : new.aliases.now ≡ old.aliases.now
  pub state_is : state_of new.flow
      ≡ head_of (context_of old).tree (with_own control (loop_in number old)) (claims_in number old).facts
      (state_of old.flow)
  pub open_is : new.flow.open_ids.items ≡ old.flow.open_ids.items
  pub broken_is : new.flow.broken
      ≡ first_of old.flow.broken
      (first_breach
      (facts_given LoopEntry place (claims_in number old).facts (context_of old) (state_of old.flow)).broken)

abbrev pub EntersLoop : ℕ → Place → Option ℕ → Walk → Walk → Type 0
EntersLoop number place control old new = WalkDoes old new (AtHead number place control old new)

-- the checker is in a loop of a number and a place no longer, where its facts are asked for
pub record IsOutside (number : ℕ) (place : Place) (rounds : List Round) (old new : Walk) : Type 0 where
  pub goes : trail.TrailGoes old.flow.state new.flow.state
  pub context_is : context_of new ≡ record (context_of old) { rounds = rounds }
  pub aliases_are : new.aliases.now ≡ old.aliases.now
  pub open_is : new.flow.open_ids.items ≡ old.flow.open_ids.items
  pub broken_is : new.flow.broken
      ≡ first_of old.flow.broken
      (first_breach
      (facts_given LoopTurn place (claims_in number old).facts (context_of old) (state_of old.flow)).broken)

-- that of the loop round it which it entered last
abbrev pub LeavesLoop : ℕ → Place → Walk → Walk → Type 0
LeavesLoop number place old new = WalkDoes old new
    ((rounds : List Round) (own : Round) → (context_of old).rounds ≡ rounds ++ own ∷ []
    → IsOutside number place rounds old new)

-- ---- blocks

-- these are the variables that each block of the checker's program declares
abbrev pub AreDeclared : List (Vec ℕ) → Walk → Type 0
AreDeclared declared walk = map (λ row. row.items) declared ≡ all_declared (context_of walk).tree

-- the checker knows what types tell alone, as before each block and behind it
abbrev pub KnowsTypes : Walk → Type 0
KnowsTypes walk =
    state_of walk.flow ≡ of_types (context_of walk).version (type_rows (context_of walk).tree)

-- what is known where a block of a number begins, by what is claimed of it
abbrev pub start_of : ℕ → Flow → State
start_of number flow =
    block_start flow.grounds.version flow.state.table.now number
    (block_claims_at (map said_section flow.grounds.sections.items) number).entry

-- a block of a number from its start to its end, by what is claimed of it
abbrev pub begin_here : ℕ → Walking (Unit {0})
begin_here number context = begin number (block_claims_at context.blocks number).entry context

abbrev pub exit_here : ℕ → Place → Walking (Unit {0})
exit_here number end context = facts_given Exit end (block_claims_at context.blocks number).exit context

abbrev pub block_walk_here : ℕ → Block → Walking (Unit {0})
block_walk_here number block context = block_walk_by number block (block_claims_at context.blocks number) context

-- the checker walked from the start of a block
abbrev pub Begins : Walking (Unit {0}) → List (Vec ℕ) → Walk → Walk → Type 0
Begins walking declared old new = WalkDoes old new
    (AreDeclared declared old → KnowsTypes old
    → Came (walking (context_of old) (state_of old.flow)) old new tt)

-- the checker walked over blocks, and knows what it knew before
pub record Passed (walked : Walked (Unit {0})) (old new : Walk) : Type 0 where
  pub core_is : core new.flow.state.known ≡ core old.flow.state.known
  pub noted : Noted walked old new

abbrev pub Passes : Walking (Unit {0}) → List (Vec ℕ) → Walk → Walk → Type 0
Passes walking declared old new = WalkDoes old new
    (AreDeclared declared old → KnowsTypes old
    → Passed (walking (context_of old) (state_of old.flow)) old new)

-- ---- the program

-- what the checker goes by before the first block of a program, by a certificate
pub record AreGrounds (tree : Tree) (certificate : Certificate) (grounds : Grounds) : Type 0 where
  pub version_is : grounds.version ≡ certificate.version
  pub sections_are : map said_section grounds.sections.items ≡ all_block_claims tree certificate
  pub pairs_are : grounds.pairs ≡ record { tree = tree; pairs = all_pairs certificate }
  pub block_is : grounds.block ≡ 0
  pub rounds_are : grounds.rounds.items ≡ []

-- the checker before the first block, with this state, by these grounds and claims, and with these aliases of the loops
pub record IsBegun (state : Kept) (grounds : Grounds) (claims : List KeptClaims) (aliases : List (Vec ℕ)) (walk : Walk)
    : Type 0 where
  pub state_is : walk.flow.state ≡ state
  pub grounds_are : walk.flow.grounds ≡ grounds
  pub claims_are : walk.claims.now ≡ claims
  pub aliases_are : walk.aliases.now ≡ aliases
  pub open_is : walk.flow.open_ids.items ≡ []
  pub broken_is : walk.flow.broken ≡ None

-- memory didn't run out, no rule is broken, and these are the ids of the sites that are left open
pub record IsUnbroken (walk : Walk) (ids : List ℕ) : Type 0 where
  pub is_long : walk.flow.state.refused ≡ None
  pub unbroken : walk.flow.broken ≡ None
  pub ids_are : ids ≡ walk.flow.open_ids.items

-- why the checker gives no verdict
abbrev pub IsFaultOf : Walk → CheckFault → Type 0
IsFaultOf walk (Memory _) = Unit {0}
IsFaultOf walk TooLarge = ⊥
IsFaultOf walk Foreign = ⊥
IsFaultOf walk (Broken rule place) =
    (walk.flow.state.refused ≡ None) × (walk.flow.broken ≡ Some (record { rule = rule; place = place }))
