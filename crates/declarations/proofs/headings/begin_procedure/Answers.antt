use Rattle.std.proofs.Common.{[], ◌∷◌, false}
use Rattle.typing.specs.Routines.{waiting_for}
use Rattle.declarations.proofs.Kept.{waiting_for_keeps, names_stay}
use Rattle.declarations.proofs.headings.begin_procedure.Goals as goal

-- the name stays known
pub begin-requires-in-None : goal.begin-requires-in-None
begin-requires-in-None c =
    record {
      known =
          names_stay (waiting_for false c.args.name.now)
          (waiting_for_keeps false c.args.name.now) c.in_ok-number.field-0 [] c.args.typer.now c.waiting_for.new.self
          c.in_ok-number.ensures (c.args.name.now ∷ []) c.requires.known;
    }
