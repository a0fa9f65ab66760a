-- What a name denotes, where a certain thing is needed (ISO 7185:1990, 6.6.3, 6.7.3, 6.8.2.3, 6.8.3.9, 6.9).
use Rattle.std.specs.Prelude.{Ok, Err, ℕ, Bool, Option, Some, None, true, false}
use Rattle.place.specs.declared.Place.{Place}
use Rattle.types.specs.declared.form.TypeId.{TypeId}
use Rattle.scopes.specs.declared.denotation.Denotation.{Denotation}
use Rattle.scopes.specs.declared.denotation.File.{File}
use Rattle.scopes.specs.declared.denotation.RequiredFunction.{RequiredFunction}
use Rattle.scopes.specs.declared.denotation.RequiredProcedure.{RequiredProcedure}
use Rattle.scopes.specs.declared.denotation.Denotation.TheVariants as denotes
use Rattle.typed_tree.specs.declared.fault.TypeFault.TheVariants as fault
use Rattle.typing_rules.specs.Checked.{Checked}

-- the function that a name denotes
abbrev pub as_function : Place → Denotation → Checked RequiredFunction
as_function place (denotes.Function function) = Ok function
as_function place (denotes.Procedure procedure) = Err (fault.WrongParameters place)
as_function place (denotes.Routine block is_function) = Err (fault.WrongParameters place)
as_function place (denotes.Constant value type_id) = Err (fault.Mismatch place)
as_function place (denotes.Text number type_id) = Err (fault.Mismatch place)
as_function place (denotes.Variable root type_id) = Err (fault.Mismatch place)
as_function place (denotes.Field slot position offset type_id) = Err (fault.Mismatch place)
as_function place (denotes.TypeName type_id) = Err (fault.Mismatch place)
as_function place (denotes.InputFunction function) = Err (fault.Mismatch place)
as_function place (denotes.File file) = Err (fault.Mismatch place)

-- the routine that a name denotes, if a program declares it: its block, and whether it is a function
abbrev pub as_routine : Denotation → Option (ℕ × Bool)
as_routine (denotes.Routine block is_function) = Some (block, is_function)
as_routine d = None

-- the procedure that a name denotes
abbrev pub as_procedure : Place → Denotation → Checked RequiredProcedure
as_procedure place (denotes.Procedure procedure) = Ok procedure
as_procedure place (denotes.Function function) = Err (fault.WrongParameters place)
as_procedure place (denotes.Routine block is_function) = Err (fault.WrongParameters place)
as_procedure place (denotes.Constant value type_id) = Err (fault.Mismatch place)
as_procedure place (denotes.Text number type_id) = Err (fault.Mismatch place)
as_procedure place (denotes.Variable root type_id) = Err (fault.Mismatch place)
as_procedure place (denotes.Field slot position offset type_id) = Err (fault.Mismatch place)
as_procedure place (denotes.TypeName type_id) = Err (fault.Mismatch place)
as_procedure place (denotes.InputFunction function) = Err (fault.WrongParameters place)
as_procedure place (denotes.File file) = Err (fault.Mismatch place)

-- the file that a name denotes, if it denotes one
abbrev pub as_file : Denotation → Option File
as_file (denotes.File file) = Some file
as_file other = None

-- the variable that a name denotes as a control variable, by its root and its type; K5 at a field, which is none that a
-- block declares, and K2 where it denotes no variable
abbrev pub as_control : Place → Denotation → Checked (ℕ × TypeId)
as_control place (denotes.Variable root type_id) = Ok (root, type_id)
as_control place (denotes.Field slot position offset type_id) = Err (fault.Threatened place)
as_control place (denotes.Constant value type_id) = Err (fault.NotVariable place)
as_control place (denotes.Text number type_id) = Err (fault.NotVariable place)
as_control place (denotes.TypeName type_id) = Err (fault.NotVariable place)
as_control place (denotes.Procedure procedure) = Err (fault.NotVariable place)
as_control place (denotes.Function function) = Err (fault.NotVariable place)
as_control place (denotes.Routine block is_function) = Err (fault.NotVariable place)
as_control place (denotes.InputFunction function) = Err (fault.NotVariable place)
as_control place (denotes.File file) = Err (fault.NotVariable place)
