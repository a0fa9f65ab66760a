use Rattle.lexer.specs.Spelling.{word_of}
use Rattle.lexer.proofs.word.word_of.Goals as goal

pub returns : goal.returns
unfolding word_of
returns c = c.look_up.ensures
