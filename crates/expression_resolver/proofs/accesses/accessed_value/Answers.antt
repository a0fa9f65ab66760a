use Rattle.std.proofs.Common.{rules, length, map}
use Rattle.std.proofs.lemmas.List.{length-map}
use Rattle.typed_tree.specs.declared.tree.Access.{Access}
use Rattle.typed_tree.specs.declared.tree.Scalar.TheVariants as scalar
use Rattle.typed_tree.specs.Accesses.{origin_of}
use Rattle.typed_tree.specs.Look.{Value, WholeValue, look_expr}
use Rattle.typing.specs.Expressions.{kind_now, ordinal_value, set_value, whole_value}
use Rattle.typing.specs.Steps.{host_type}
use Rattle.expression_resolver.specs.Accesses.{value}
use Rattle.expression_resolver.proofs.Selecting.{look_made}
use Rattle.expression_resolver.proofs.accesses.accessed_value.Goals as goal

-- a structured value
pub returns-in-Some-Structured : goal.returns-in-Some-Structured
unfolding value kind_now whole_value
returns-in-Some-Structured c =
    let e = c.args.entered in
    let made = c.args.selection in
    let access : Access = record { number = e.number; root = e.root; base = e.base; selectors = made.selectors } in
    let looks = look_made access made.indexes
    (WholeValue (origin_of access) made.selectors.items (length (map look_expr made.indexes.items)) made.type_id c.cells-cells.result e.defined) in
    search (rules, looks, length-map)

-- a set
pub returns-in-Some-Set : goal.returns-in-Some-Set
unfolding value kind_now set_value
returns-in-Some-Set c =
    let e = c.args.entered in
    let made = c.args.selection in
    let access : Access = record { number = e.number; root = e.root; base = e.base; selectors = made.selectors } in
    let looks = look_made access made.indexes (Value (origin_of access) made.selectors.items (length made.indexes.items) scalar.Set e.defined) in
    search (rules, looks)

-- an ordinal
pub returns : goal.returns
unfolding value kind_now ordinal_value host_type
returns c =
    let e = c.args.entered in
    let made = c.args.selection in
    let access : Access = record { number = e.number; root = e.root; base = e.base; selectors = made.selectors } in
    let looks = look_made access made.indexes (Value (origin_of access) made.selectors.items (length made.indexes.items) scalar.Ordinal e.defined) in
    search (rules, looks)
