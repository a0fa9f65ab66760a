-- The frames of the blocks of a program as the compiler counts them, in 32 bits. It does not say where in them the
-- variables lie.
use Rattle.std.specs.Prelude.{◌≡◌, ℕ, suc, ◌+◌, ◌-◌, List, [], ◌∷◌, Option, Some, None, if◌then◌else◌, slice_get}
use Rattle.types.specs.Forms.{Form}
use Rattle.typed_tree.specs.declared.tree.Block.{Block}
use Rattle.typed_tree.specs.declared.tree.Variable.{Variable}
use Rattle.typed_tree.specs.WellFormed.{is_parameter_kind}
use Rattle.code_scheme.specs.declared.frame.Frame.{Frame}
use Rattle.code_scheme.specs.declared.routine.Routine.{Routine}
use Rattle.code_scheme.specs.Scopes.{cells_where, count, is_other_of, is_parameter_of, level_of, offset}
use Rattle.code_scheme.specs.Sizes.{capped}

-- a frame without variables
abbrev pub no_frame : Frame
no_frame = record { parameters = 0; others = 0 }

abbrev pub frame_or_none : Option Frame → Frame
frame_or_none None = no_frame
frame_or_none (Some frame) = frame

-- the frame of the block with this number
abbrev pub frame_at : List Frame → ℕ → Frame
frame_at frames block = frame_or_none (slice_get frames block)

-- the frame of a block with those of these variables that it declares
abbrev pub frame_of : List Form → List Variable → ℕ → Frame
frame_of types variables block = record {
  parameters = capped (cells_where types (is_parameter_of block) variables);
  others = capped (cells_where types (is_other_of block) variables);
}

-- these are the frames of the blocks with these variables, each by the number of its block
abbrev pub AreCounted : List Form → List Variable → List Frame → Type 0
AreCounted types variables frames = (block : ℕ) → frame_at frames block ≡ frame_of types variables block

-- where a variable begins in the frame of its block, where those before it take this much of the frames, and all this
abbrev pub start_with : List Frame → List Frame → Variable → ℕ
start_with before all variable =
    offset (4 + (if is_parameter_kind variable.kind then (frame_at before variable.block).parameters
    else (frame_at all variable.block).parameters + (frame_at before variable.block).others))

-- blocks with these frames as routines, of which the first has this number, each with its number for its place
abbrev pub routines_by : List Block → List Frame → ℕ → List Block → List Routine
routines_by all frames number [] = []
routines_by all frames number (block ∷ blocks) =
    record {
      level = level_of (slice_get all number) - 1;
      cells = count (frame_at frames number).parameters;
      place = number;
    } ∷ routines_by all frames (suc number) blocks
