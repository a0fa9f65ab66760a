use Rattle.std.proofs.Common.{ap, sym}
use Rattle.test_words.specs.Runs.{word_of}
use Rattle.test_words.proofs.machines.word_of.Goals as goal

pub returns-in-StoreFull : goal.returns-in-StoreFull
returns-in-StoreFull c = ap word_of (sym c.in-StoreFull.is)
