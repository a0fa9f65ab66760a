use Rattle.std.proofs.Common.{[]}
use Rattle.declarations.proofs.Kept.{add_type_keeps, names_stay}
use Rattle.declarations.proofs.denoters.enumeration.Goals as goal

-- the constants stay known while their type is added
pub declare_constants-requires : goal.declare_constants-requires
declare_constants-requires c =
    record {
      known = names_stay _ (add_type_keeps c.latest-place.result _) c.in_ok-type_id.type_id [] c.args.typer.now c.add_type.new.self
          c.in_ok-type_id.ensures.taken c.args.names.now c.requires.known;
    }
