use Rattle.std.proofs.Common.{[]}
use Rattle.typing.specs.Denoters.{denoted_type}
use Rattle.typing.specs.Names.{folded, denoter_names}
use Rattle.declarations.proofs.Kept.{denoted_type_keeps, still_known}
use Rattle.declarations.proofs.Parts.{first_known, last_known}
use Rattle.declarations.proofs.definitions.declare_type.Goals as goal

-- the names of the denoter are among those of the definition
pub denoted_type-requires : goal.denoted_type-requires
denoted_type-requires c =
    let d = c.args.definition.now in
    record { known = first_known c.args.typer.now.regions (denoter_names d.denoter) _ c.requires.known }

-- the name of the type stays known while its denoter is passed
pub declare-requires : goal.declare-requires
declare-requires c =
    let d = c.args.definition.now in
    let new = c.denoted_type.new.typer in
    record {
      known = still_known (denoted_type d.denoter) (denoted_type_keeps d.denoter) c.in_ok-type_id.type_id [] c.args.typer.now new
          c.in_ok-type_id.ensures (folded d.name.text.now) (last_known c.args.typer.now.regions (denoter_names d.denoter) d.name c.requires.known);
    }
