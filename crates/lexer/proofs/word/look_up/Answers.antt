use Rattle.std.proofs.Common.{sym, refl, ◌∙◌}
use Rattle.std.proofs.lemmas.Bool.{false≢true}
use Rattle.lexer.proofs.Entries.{entry_passes, entry_found}
use Rattle.lexer.proofs.word.look_up.Goals as goal

pub loop-spelling-preserved : goal.loop-spelling-preserved
loop-spelling-preserved c =
    entry_passes c.args.table.now c.loop-spelling.spelling-index _ c.args.letters.now c.loop-spelling-test.true
    (λ h. false≢true (c.if-eq_ignore_ascii_case.ensures.test.1 h)) ∙ c.loop-spelling.invariant

pub returns-then-eq_ignore_ascii_case : goal.returns-then-eq_ignore_ascii_case
returns-then-eq_ignore_ascii_case c =
    sym (entry_found c.args.table.now c.loop-spelling.spelling-index _ c.args.letters.now c.loop-spelling-test.true
    (c.if-eq_ignore_ascii_case.ensures.test.0 refl)) ∙ c.loop-spelling.invariant
