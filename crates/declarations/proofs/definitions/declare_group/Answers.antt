use Rattle.std.proofs.Common.{[], subst, sym}
use Rattle.typing.specs.Denoters.{denoted_type}
use Rattle.typing.specs.Names.{denoter_names}
use Rattle.declarations.specs.Known.{AreKnown}
use Rattle.declarations.proofs.Kept.{denoted_type_keeps, names_stay}
use Rattle.declarations.proofs.Parts.{first_known, others_known}
use Rattle.declarations.proofs.definitions.declare_group.Goals as goal

-- the names of the denoter are among those of the group
pub denoted_type-requires : goal.denoted_type-requires
denoted_type-requires c =
    let group = c.args.group.now in
    record { known = first_known c.args.typer.now.regions (denoter_names group.denoter) group.names.items c.requires.known }

-- the names of the variables stay known while their type is passed
pub declare_variables-requires : goal.declare_variables-requires
declare_variables-requires c =
    let group = c.args.group.now in
    let new = c.denoted_type.new.typer in
    let known = others_known c.args.typer.now.regions (denoter_names group.denoter) group.names.items c.requires.known in
    let stay = names_stay (denoted_type group.denoter) (denoted_type_keeps group.denoter)
    c.in_ok-type_id.type_id [] c.args.typer.now new c.in_ok-type_id.ensures group.names.items known in
    record { known = subst (λ names. AreKnown names new.regions) (sym c.deref.ensures.value) stay }
