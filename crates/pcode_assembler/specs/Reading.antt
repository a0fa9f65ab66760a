-- How a reader of code comes from line to line: words of private functions alone. It does not say which texts are
-- code's.
use Rattle.std.specs.Prelude.{◌≡◌, ◌≢◌, ℕ, ◌+◌, ◌≤◌, nat_eq, ◌==◌, Bool, true, false, if◌then◌else◌, List, ◌∷◌, ◌++◌}
use Rattle.std.specs.Prelude.{map}
use Rattle.std.specs.Prelude.{Option, Some, None, Result, Ok, Err}
use Rattle.std.specs.List.{list_all}
use Rattle.std.specs.HashMap.{get}
use Rattle.memory.specs.Refused.{the_refusal}
use Rattle.pcode_assembler.specs.declared.above.Above.{Above}
use Rattle.pcode_assembler.specs.declared.code.Code.{Code}
use Rattle.pcode_assembler.specs.declared.content.Content.{Content}
use Rattle.pcode_assembler.specs.declared.labels.Label.{Label}
use Rattle.pcode_assembler.specs.declared.labels.Labels.{Labels}
use Rattle.pcode_assembler.specs.declared.fault.AsmFault.{AsmFault}
use Rattle.pcode_assembler.specs.declared.fault.AsmFault.TheVariants.{Memory}
use Rattle.pcode_assembler.specs.Lines.{fits, line_of}
use Rattle.pcode_assembler.specs.Text.{Seen, fault_from, heading, heading_fault, is_label, most, start, weight}
use Rattle.pcode_assembler.specs.Contents.{are_right, instruction_rows, point_rows, rows, site_rows}

-- there are no more sites, points and instructions than a text may have
pub record IsSmall (above : Above) : Type 0 where
  pub sites : above.sites ≤ most
  pub points : above.points ≤ most
  pub instructions : above.instructions ≤ most

-- what a reader knows of all labels
abbrev pub seen_by : Labels → Seen
seen_by labels = record { first = λ number. get nat_eq labels.first number; instructions = labels.instructions }

-- a label that isn't known yet, or else one that is
abbrev pub or_label : Option Label → Option Label → Option Label
or_label None other = other
or_label (Some known) other = Some known

-- a label is this one, if there is one
abbrev pub is_this : ℕ → Option ℕ → Bool
is_this q None = false
is_this q (Some label) = q == label

-- a label is noted at its line's number, if there is one that isn't known
pub record NotesLabel (label : Option ℕ) (number : ℕ) (old new : Labels) : Type 0 where
  pub first : (q : ℕ) → (seen_by new).first q
      ≡ or_label ((seen_by old).first q)
      (if is_this q label then Some (record { line = number; place = old.instructions }) else None)
  pub instructions : new.instructions ≡ old.instructions

-- a line is noted
pub record Notes (number : ℕ) (line : List ℕ) (old new : Labels) : Type 0 where
  pub first : (q : ℕ) → (seen_by new).first q
      ≡ or_label ((seen_by old).first q)
      (if is_label q line then Some (record { line = number; place = old.instructions }) else None)
  pub instructions : new.instructions ≡ old.instructions + weight line

-- what a line says is put into the tables of a code
pub record Adds (above : Above) (said : Content) (old new : Code) : Type 0 where
  pub sites : new.sites.items ≡ old.sites.items ++ site_rows above said
  pub points : new.points.items ≡ old.points.items ++ point_rows above said
  pub instructions : new.instructions.items ≡ old.instructions.items ++ instruction_rows above said

-- a code has what lines say, its jumps still to labels
pub record Holds (said : List Content) (code : Code) : Type 0 where
  pub sites : code.sites.items ≡ rows site_rows start said
  pub points : code.points.items ≡ rows point_rows start said
  pub instructions : code.instructions.items ≡ rows instruction_rows start said

-- lines below the first say something, none has a fault, and a code has it
pub record AreRead (seen : Seen) (lines : List (List ℕ)) (code : Code) : Type 0 where
  pub said : List Content
  pub lines_are : lines ≡ map line_of said
  pub fit : list_all fits said ≡ true
  pub right : are_right seen start 2 said ≡ true
  pub holds : Holds said code

-- what is read of lines below the first, or the first fault, or want of memory
abbrev pub IsRead : Seen → List (List ℕ) → Result Code AsmFault → Type 0
IsRead seen lines (Ok code) = AreRead seen lines code × (fault_from seen start 2 lines ≡ None)
IsRead seen lines (Err fault) = fault ≢ Memory the_refusal → fault_from seen start 2 lines ≡ Some fault

-- the lines below the first, which is the heading, or the fault of a first line that isn't
abbrev pub IsBelow : List (List ℕ) → Result (List (List ℕ)) AsmFault → Type 0
IsBelow lines (Ok below) = lines ≡ heading ∷ below
IsBelow lines (Err fault) = heading_fault lines ≡ Some fault
