use Rattle.std.proofs.Common.{[]}
use Rattle.typing.specs.Names.{folded}
use Rattle.typing.specs.Constants.{constant}
use Rattle.declarations.proofs.Kept.{constant_keeps, still_known}
use Rattle.declarations.proofs.definitions.declare_constant.Goals as goal

-- the name stays known while the value is passed
pub declare-requires : goal.declare-requires
declare-requires c =
    let d = c.args.definition.now in
    let new = c.constant.new.self in
    record {
      known = still_known (constant d.value) (constant_keeps d.value) c.in_ok-denotation.denotation [] c.args.typer.now new
          c.in_ok-denotation.ensures (folded d.name.text.now) c.requires.known;
    }
