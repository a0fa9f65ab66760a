use Rattle.syntax_tree.specs.declared.Block.TheViews.{out-Block}
use Rattle.std.proofs.Common.{[], subst, sym}
use Rattle.typing.specs.Passing.{each}
use Rattle.typing.specs.Routines.{definition, type_definition}
use Rattle.declarations.specs.Known.{AreKnownDefinitions, AreKnownTypes, AreKnownGroups}
use Rattle.declarations.proofs.Kept.{each_keeps, definition_keeps, type_definition_keeps, types_stay, groups_stay}
use Rattle.declarations.proofs.Opened.{constants_known, types_known, variables_known}
use Rattle.declarations.proofs.definitions.declare.Goals as goal

-- its constants are known
pub declare_constants-requires : goal.declare_constants-requires
declare_constants-requires c =
    let old = c.args.typer.now in
    record {
      known = subst (λ l. AreKnownDefinitions l old.regions) (sym c.deref.ensures.value)
          (constants_known old.regions c.args.block.now c.requires.known);
    }

-- its types still are behind the constants
pub declare_types-requires : goal.declare_types-requires
declare_types-requires c =
    let constants = c.deref.result.now in
    let old = c.args.typer.now in
    let new = c.declare_constants.new.typer in
    let types = (out-Block c.args.block.now).types.items in
    let still = types_stay (each definition constants) (each_keeps definition constants definition_keeps) tt [] old new
    c.in_ok-declare_constants.ensures types (types_known old.regions c.args.block.now c.requires.known) in
    record { known = subst (λ l. AreKnownTypes l new.regions) (sym c.deref-2.ensures.value) still }

-- and its variables behind the types
pub declare_groups-requires : goal.declare_groups-requires
declare_groups-requires c =
    let constants = c.deref.result.now in
    let types = c.deref-2.result.now in
    let old = c.args.typer.now in
    let between = c.declare_constants.new.typer in
    let new = c.declare_types.new.typer in
    let groups = (out-Block c.args.block.now).variables.items in
    let still = groups_stay (each definition constants) (each_keeps definition constants definition_keeps) tt [] old between
    c.in_ok-declare_constants.ensures groups (variables_known old.regions c.args.block.now c.requires.known) in
    let last = groups_stay (each type_definition types) (each_keeps type_definition types type_definition_keeps) tt [] between new
    c.in_ok-declare_types.ensures groups still in
    record { known = subst (λ l. AreKnownGroups l new.regions) (sym c.deref-3.ensures.value) last }
