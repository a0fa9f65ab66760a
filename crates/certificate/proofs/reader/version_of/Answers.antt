use Rattle.std.proofs.Common.{rules, refl}
use Rattle.certificate.proofs.reader.version_of.Goals as goal

pub returns-then-not-line : goal.returns-then-not-line
returns-then-not-line c = rw c.if-not-line.true refl

pub returns : goal.returns
returns c = search rules
