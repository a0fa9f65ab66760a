-- The rules of what takes a value (ISO 7185:1990, 6.4.6, 6.8.3.5, 6.9.3): a variable to which it is assigned, a formal
-- parameter, a case, what is written.
use Rattle.std.specs.Prelude.{Option, Some, None, if◌then◌else◌, List, ℕ, ◌&&◌, nat_eq, Ok, Err}
use Rattle.place.specs.declared.Place.{Place}
use Rattle.syntax_tree.specs.declared.Direction.{Direction as SyntaxDirection}
use Rattle.syntax_tree.specs.declared.Direction.TheVariants as written
use Rattle.types.specs.declared.form.TypeKind.{TypeKind}
use Rattle.types.specs.declared.form.OrdinalRange.{OrdinalRange}
use Rattle.types.specs.declared.sets.SetBase.{SetBase}
use Rattle.types.specs.Types.{char, host_of, integer, is_same}
use Rattle.types.specs.Types.{are_compatible_sets, is_assignable, kind_of, range_of, cells_of, form_at, is_ordinal}
use Rattle.types.specs.Forms.{Form}
use Rattle.types.specs.declared.form.TypeId.{TypeId}
use Rattle.types.specs.declared.form.TypeKind.TheVariants as kind_of_type
use Rattle.types.specs.Forms as form
use Rattle.typed_tree.specs.declared.tree.Direction.{Direction}
use Rattle.typed_tree.specs.declared.site.SiteKind.{SiteKind}
use Rattle.typed_tree.specs.declared.tree.Scalar.{Scalar}
use Rattle.typed_tree.specs.declared.tree.RangeTest.{RangeTest}
use Rattle.typed_tree.specs.declared.tree.Readable.{Readable}
use Rattle.typed_tree.specs.declared.tree.Readable.TheVariants as readable
use Rattle.typed_tree.specs.declared.tree.Representation.{Representation}
use Rattle.typed_tree.specs.declared.tree.Direction.TheVariants as direction
use Rattle.typed_tree.specs.declared.site.SiteKind.TheVariants as kind
use Rattle.typed_tree.specs.declared.tree.Scalar.TheVariants as scalar
use Rattle.typed_tree.specs.declared.tree.Representation.TheVariants as representation
use Rattle.typed_tree.specs.declared.fault.TypeFault.TheVariants as fault
use Rattle.typing_rules.specs.declared.typed.TypedValue.{TypedValue}
use Rattle.typing_rules.specs.declared.typed.Typed.{Typed}
use Rattle.typing_rules.specs.Checked.{Checked, and_then, fits, or_mismatch}
use Rattle.typing_rules.specs.declared.typed.TypedValue.TheVariants as value

abbrev pub way : SyntaxDirection → Direction
way written.To = direction.To
way written.DownTo = direction.DownTo

-- the kind of the site of a test, by what is tested
abbrev pub test_kind : Scalar → SiteKind
test_kind scalar.Ordinal = kind.Subrange
test_kind scalar.Set = kind.SetMember

-- the values that members of a set may have, if sets of these may be assigned to a target of a kind
abbrev pub fitting_members : SetBase → Option TypeKind → Option OrdinalRange
fitting_members base (Some (kind_of_type.Set target members)) =
    if are_compatible_sets target base then Some members else None
fitting_members base (Some (kind_of_type.Ordinal range)) = None
fitting_members base (Some kind_of_type.Structured) = None
fitting_members base None = None

-- the values of a type, or those that its members may have, if a scalar value may be assigned to it (6.4.6)
abbrev pub fitting_value : List Form → TypeId → TypedValue → Option OrdinalRange
fitting_value types target (value.Ordinal type_id) =
    if is_assignable types target type_id then range_of types target else None
fitting_value types target (value.Set base) = fitting_members base (kind_of types target)
fitting_value types target (value.Text type_id length) = None
fitting_value types target (value.Whole type_id cells) = None

abbrev pub fitting : List Form → TypeId → Typed → Option OrdinalRange
fitting types target t = fitting_value types target t.value

-- a structured value that is copied or compared: the type of the variable whose value it is, which a string has none
-- of, and its cells
pub record Copy : Type 0 where
  pub source : Option TypeId
  pub cells : ℕ

-- a structured value as it is copied or compared
abbrev pub whole_copy : TypedValue → Option Copy
whole_copy (value.Ordinal type_id) = None
whole_copy (value.Set base) = None
whole_copy (value.Text type_id length) = Some (record { source = None; cells = length })
whole_copy (value.Whole type_id cells) = Some (record { source = Some type_id; cells = cells })

-- it may be assigned to a target of a type, which has as many cells (6.4.6)
abbrev pub copy_of : List Form → TypeId → TypeId → Copy → Option Copy
copy_of types target type_id copy =
    if is_assignable types target type_id && nat_eq (cells_of types target) copy.cells then Some copy else None

abbrev pub copying_value : List Form → TypeId → TypedValue → Option Copy
copying_value types target (value.Ordinal type_id) = None
copying_value types target (value.Set base) = None
copying_value types target (value.Text type_id length) =
    copy_of types target type_id (record { source = None; cells = length })
copying_value types target (value.Whole type_id cells) =
    copy_of types target type_id (record { source = Some type_id; cells = cells })

abbrev pub copying : List Form → TypeId → Typed → Option Copy
copying types target t = copying_value types target t.value

-- the test of a set for a target of a type, at its leading site
abbrev pub members_test : List Form → TypeId → Place → Typed → Checked RangeTest
members_test types target place t =
    and_then (or_mismatch place (fitting types target t)) λ range.
    and_then (or_mismatch place t.site) λ id.
    Ok (record { site = id; tests = scalar.Set; range = range })

abbrev pub form_representation : Option Form → Option Representation
form_representation (Some form.Integer) = Some representation.Integer
form_representation (Some form.Boolean) = Some representation.Boolean
form_representation (Some form.Char) = Some representation.Char
form_representation other = None

-- how an ordinal of a type is written (6.9.3)
abbrev pub representation_of : List Form → TypeId → Option Representation
representation_of types id = form_representation (form_at types id)

-- the type of an ordinal; K1 at the place where it is none
abbrev pub ordinal_of : List Form → Place → Option TypeId → Checked TypeId
ordinal_of types place None = Err (fault.Mismatch place)
ordinal_of types place (Some type_id) = fits (is_ordinal types type_id) place type_id

-- what is read into a variable of a type: an integer or a character, and the values that it may have; K1 at the place
-- where the host type is neither integer nor char (6.9.1)
abbrev pub readable_host : TypeId → Option Readable
readable_host host =
    if is_same host integer then Some readable.Integer
    else if is_same host char then Some readable.Char
    else None

abbrev pub read_as : List Form → Place → TypeId → Checked (Readable × OrdinalRange)
read_as types place type_id =
    and_then (or_mismatch place (readable_host (host_of types type_id))) λ reads.
    and_then (or_mismatch place (range_of types type_id)) λ range.
    Ok (reads, range)
