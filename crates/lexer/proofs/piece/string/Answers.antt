use Rattle.std.proofs.Common.{sym, ◌∙◌}
use Rattle.lexer.proofs.Strings.{string_bad, string_good}
use Rattle.lexer.proofs.piece.string.Goals as goal

pub returns-in-Some-bad_byte : goal.returns-in-Some-bad_byte
returns-in-Some-bad_byte c =
    sym (string_bad c.args.text.now c.in-Some.length c.in-Some-bad_byte.offset c.in-Some.ensures.within c.if-length-eq2.false
    (sym c.in-Some-bad_byte.ensures)) ∙ c.in-Some.ensures.exact

pub returns-in-None : goal.returns-in-None
returns-in-None c =
    sym (string_good c.args.text.now c.in-Some.length c.in-Some.ensures.within c.if-length-eq2.false (sym c.in-None.ensures)) ∙ c.in-Some.ensures.exact
