use Rattle.std.proofs.Common.{◌∙◌, sym}
use Rattle.std.proofs.lemmas.Bool.{le-ltb}
use Rattle.members.proofs.Memberships.{no_place}
use Rattle.members.proofs.sets.has_place.Goals as goal

pub returns-else-place-lt-MEMBERS : goal.returns-else-place-lt-MEMBERS
returns-else-place-lt-MEMBERS c =
    let above = c.if-place-lt-MEMBERS.false in
    le-ltb c.args.place 128 above ∙ sym (no_place c.args.set c.args.place c.ranges.set.fits above)
