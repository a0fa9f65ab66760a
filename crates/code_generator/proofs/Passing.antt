-- Actual parameters, and calls: what is shown of the code of an actual parameter, that it leaves the cells of what is passed;
-- and of a call, that the machine comes back with the result on top of what was held.
use Rattle.code_generator.proofs.Words.{◌≡◌, ℕ, suc, ◌+◌, ◌-◌, ◌<◌, ◌≤◌, inr, List, [], ◌∷◌, ◌++◌, length, Some, None, refl, subst, arith, append-nil, Bool}
use Rattle.code_generator.proofs.Words.{true, false, slice_get, ℤ, pos, Instr, cells_of, Block, Variable, heading_of, is_variable_kind, Value}
use Rattle.code_generator.proofs.Words.{Gives, Action, ◌>>=◌, number_of, UsesTurnsExactly, Argument, OfValue, OfRow, OfPlace, Cell, Undefined, Number}
use Rattle.code_generator.proofs.Words.{State, called_routine, links_to, row_length}
use Rattle.pcode_assembler.specs.declared.instr.Instr.TheVariants as instr
use Rattle.types.specs.Types.{is_scalar}
use Rattle.typed_tree.specs.declared.tree.Passed.{Passed}
use Rattle.typed_tree.specs.declared.tree.Scalar.TheVariants as scalar
use Rattle.typed_tree.specs.Kinds.{is_held_passed}
use Rattle.typed_tree.specs.Records.{passed_begin}
use Rattle.code_generator.proofs.Texts.{passes_strings}
use Rattle.typed_tree.specs.WellFormed.{formal_of, is_callable, is_value_kind, is_well_formed_passed}
use Rattle.meaning.specs.Effect as effect
use Rattle.meaning.specs.Meaning.{Passing, calls_of, passing_of}
use Rattle.code_scheme.specs.Code.{passed_code}
use Rattle.code_scheme.specs.Depth.{PassedDepth, passed_depth}
use Rattle.code_generator.proofs.Accesses.{PartAt}
use Rattle.code_generator.proofs.Alike.{Leads}
use Rattle.code_generator.proofs.Evaluating.{Shape}
use Rattle.code_generator.proofs.Scalars.{AllFit, HasFit, HasKind, ordinal_cell, scalar_of, scalars_of, value_cell}
use Rattle.code_generator.proofs.Reach.{Stands, StandsAt, Comes, comes_less, stays_here}
use Rattle.code_generator.proofs.Rows.{cells_of as value_cells}
use Rattle.code_generator.proofs.Setting.{Setting, outline, around, on, Based}
use Rattle.code_generator.proofs.Running.{Aim, Arrives, Evaluates, Executes, Runs, done, kept_on, runs_to, then_runs, value_on}

module _ (g : Setting) where
  -- ---- what is passed

  -- cells hold what is passed to a formal parameter, as it takes it
  abbrev pub Fitted : Variable → Argument → List Cell → Type 0
  Fitted formal (OfValue v) cells =
      (is_value_kind formal.kind ≡ true) × (is_scalar g.tree.types formal.type_id ≡ true) × HasFit (scalar_of g.tree.types formal.type_id) (Some v)
      × (cells ≡ value_cell v ∷ [])
  Fitted formal (OfRow vs) cells =
      (is_value_kind formal.kind ≡ true) × (length vs ≡ cells_of g.tree.types formal.type_id) × AllFit (scalars_of g.tree.types formal.type_id) vs
      × (cells ≡ value_cells vs)
  Fitted formal (OfPlace None) cells = ⊥
  Fitted formal (OfPlace (Some p)) cells =
      (address : ℕ) × (is_variable_kind formal.kind ≡ true) × PartAt g p formal.type_id address × (cells ≡ Number (pos address) ∷ [])

  -- the same of what is passed to a callee, from a formal parameter on
  abbrev pub AllFitted : ℕ → ℕ → List Argument → List Cell → Type 0
  AllFitted callee position [] cells = cells ≡ []
  AllFitted callee position (argument ∷ arguments) cells =
      (formal : Variable) × (formal_of (outline g) callee position ≡ Some formal) × (first : List Cell) × (rest : List Cell)
      × (cells ≡ first ++ rest) × Fitted formal argument first × AllFitted callee (suc position) arguments rest

  -- ---- an actual parameter

  -- the cells of what is passed come on top of what is held
  abbrev pub passed_on : List Cell → ℕ → ℕ → ℕ → ℕ → Aim Argument
  passed_on held count callee position place = record {
    Holds = λ argument s. (base : List Cell) × Based g s base × (cells : List Cell) × (formal : Variable)
        × (formal_of (outline g) callee position ≡ Some formal) × Fitted formal argument cells × (length cells ≡ count);
    there = λ argument s h. on g ((h.0 ++ held) ++ h.2) place s;
    gain = 0;
  }

  abbrev pub Passes : State → List Cell → ℕ → ℕ → ℕ → ℕ → Action Argument → effect.State → Type 0
  Passes m held place count callee position action s = Runs g (passed_on held count callee position place) m action s

  -- what is passed is there
  pub passes_it : (least : ℕ) (m : State) (base held cells : List Cell) (place callee position : ℕ) (argument : Argument) (formal : Variable)
      (s : effect.State) → Based g s base → formal_of (outline g) callee position ≡ Some formal → Fitted formal argument cells
      → Comes g.target least m (on g ((base ++ held) ++ cells) place s)
      → Arrives g (passed_on held (length cells) callee position place) s.turns m (Gives argument s)
  passes_it least m base held cells place callee position argument formal s based is fitted l =
      ((base, based, cells, formal, is, fitted, refl), comes_less g.target (s.turns - s.turns + 0) least m _ (omega arith) l, omega arith)

  -- the code c of an actual parameter
  abbrev pub PassesAs : List Instr → PassedDepth → Shape (ℕ → ℕ → Bool) Bool → Passing → Type 0
  PassesAs c depth shape passing =
      (callee position place : ℕ) (base held : List Cell) (s : effect.State) → Stands g.target place c → shape.well callee position ≡ true
      → shape.held ≡ true → shape.there ≡ true → shape.strings ≡ true → Based g s base → g.below + length held + depth.depth ≤ g.limit
      → Passes (on g (base ++ held) place s) held (place + length c) depth.cells callee position (passing (around g)) s

  -- what is known of one
  abbrev pub passed_shape : Passed → Shape (ℕ → ℕ → Bool) Bool
  passed_shape p = record {
    well = is_well_formed_passed (outline g) g.number p;
    held = is_held_passed p;
    there = passed_begin p g.opened;
    strings = passes_strings g.tree.types p;
  }

  -- what is shown of an actual parameter
  abbrev pub PassedRuns : Passed → Type 0
  PassedRuns p = PassesAs (passed_code g.scope p) (passed_depth p) (passed_shape p) (passing_of p)

  -- ---- actual parameters, one after another

  abbrev pub all_on : List Cell → ℕ → ℕ → ℕ → ℕ → Aim (List Argument)
  all_on held callee position total place = record {
    Holds = λ arguments s. (base : List Cell) × Based g s base × (cells : List Cell) × AllFitted callee position arguments cells
        × (g.below + length held + length cells ≤ g.limit) × (length arguments ≡ total);
    there = λ arguments s h. on g ((h.0 ++ held) ++ h.2) place s;
    gain = 0;
  }

  abbrev pub AllPass : State → List Cell → ℕ → ℕ → ℕ → ℕ → Action (List Argument) → effect.State → Type 0
  AllPass m held place callee position total action s = Runs g (all_on held callee position total place) m action s

  -- ---- a call

  -- the cell that a function leaves
  abbrev pub left_by : Bool → ℤ → List Cell
  left_by true n = Number n ∷ []
  left_by false n = []

  -- what is held stays, and the value of a call is on top if it is that of a function
  abbrev pub return_on : List Cell → Bool → ℕ → Aim Value
  return_on held is_function place = record {
    Holds = λ v s. (base : List Cell) × Based g s base × HasKind scalar.Ordinal v;
    there = λ v s h. on g ((h.0 ++ held) ++ left_by is_function (number_of v)) place s;
    gain = 0;
  }

  abbrev pub Returns : State → List Cell → ℕ → Bool → Action Value → effect.State → Type 0
  Returns m held place is_function action s = Runs g (return_on held is_function place) m action s

  -- a value is what a function leaves
  pub evaluated_returns : (m : State) (held : List Cell) (place : ℕ) (action : Action Value) (s : effect.State)
      → Evaluates g scalar.Ordinal m held place action s → Returns m held place true action s
  evaluated_returns m held place action s e =
      runs_to g (value_on g scalar.Ordinal held place) (return_on held true place) m action s (omega arith) e
      (λ v t x. (
        (x.0, x.1, x.2.0),
        subst (λ cell. Comes g.target 0 (on g ((x.0 ++ held) ++ value_cell v ∷ []) place t) (on g ((x.0 ++ held) ++ cell ∷ []) place t))
            (ordinal_cell v x.2.0) (stays_here g.target _),
      ))

  -- the call of a function is a value
  pub function_evaluates : (m : State) (held : List Cell) (place : ℕ) (action : Action Value) (s : effect.State) → g.below + length held < g.limit
      → Returns m held place true action s → Evaluates g scalar.Ordinal m held place action s
  function_evaluates m held place action s room e =
      runs_to g (return_on held true place) (value_on g scalar.Ordinal held place) m action s (omega arith) e
      (λ v t x. (
        (x.0, x.1, (x.2, room)),
        subst (λ cell. Comes g.target 0 (on g ((x.0 ++ held) ++ cell ∷ []) place t) (on g ((x.0 ++ held) ++ value_cell v ∷ []) place t))
            (ordinal_cell v x.2) (stays_here g.target _),
      ))

  -- the call of a procedure is a statement
  pub returns_executes : (m : State) (held : List Cell) (place : ℕ) (action : Action Value) (s : effect.State) → UsesTurnsExactly action
      → Returns m held place false action s → Executes g m held place (action >>= λ _. effect.give tt) s
  returns_executes m held place action s exact e =
      then_runs g (return_on held false place) (kept_on g held place) m action (λ _. effect.give tt) s exact e
      (λ v t x le.
      let cells = x.0 ++ held in
      inr (done g 0 _ x.0 held place t x.1 (subst (λ l. Comes g.target 0 (on g (cells ++ []) place t) (on g l place t)) (append-nil cells)
      (stays_here g.target _))))

  -- the links of a new frame, whose static link leads to this frame
  abbrev pub links_of : ℕ → List Cell
  links_of outer = Number (pos outer) ∷ Number (pos g.frame) ∷ Undefined ∷ Number (pos g.limit) ∷ []

  -- what is shown of calls: from the jump to a routine's code on, above the links of a new frame and the cells of what is
  -- passed
  abbrev pub CallsAt : Type 0
  CallsAt =
      (is_function : Bool) (callee : ℕ) (block : Block) (outer place : ℕ) (base held cells : List Cell) (arguments : List Argument) (s : effect.State)
      → slice_get g.tree.blocks.items callee ≡ Some block
      → is_callable (outline g) g.number is_function (length arguments) (heading_of block) ≡ true
      → Leads g.fixed (links_to g.scope (called_routine g.scope callee).level) g.frame outer
      → StandsAt g.target place (instr.CallProcedure (row_length (called_routine g.scope callee).cells) (called_routine g.scope callee).place) true
      → slice_get g.target.whole place
      ≡ Some (instr.CallProcedure (row_length (called_routine g.scope callee).cells) (called_routine g.scope callee).place)
      → Based g s base → AllFitted callee 0 arguments cells → g.below + length held + 4 + length cells ≤ g.limit
      → Returns (on g ((base ++ (held ++ links_of outer)) ++ cells) place s) held (place + 1) is_function
      (calls_of g.tree g.depth callee arguments g.environment) s

-- the same in each setting where calls may be so many in one another
abbrev pub CallsRun : ℕ → Type 0
CallsRun depth = (g : Setting) → g.depth ≡ depth → CallsAt g
