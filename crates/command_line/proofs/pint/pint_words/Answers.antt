use Rattle.std.proofs.Common.{codes, map, ◌∙◌, sym}
use Rattle.std.proofs.lemmas.Result.{err_from_is_err_and}
use Rattle.std.specs.Str.Parse.{ExplainsUnsignedError, HasUnsignedDigitsIfOk, ParsesUnsigned}
use Rattle.clap.specs.Words.{app_of, found_of}
use Rattle.command_line.specs.Pint.{cells_in, pint}
use Rattle.command_line.proofs.PintLemmas.{counted, pint_is_free, pint_is_simple}
use Rattle.command_line.proofs.WordsLemmas.{refused, taken, there}
use Rattle.command_line.proofs.pint.pint_words.Goals as goal

pub returns-in_err-matches : goal.returns-in_err-matches
returns-in_err-matches c =
    let words = map (λ w. w.now) c.args.words.now in
    let sent = err_from_is_err_and c.from_residual-in_err-matches.result c.from_residual-in_err-matches.ensures.1 in
    rw (sent.1) (rw sent.2 (refused (app_of c.in_ok-command.field-0) pint words c.in_err-matches.field-0.0 c.in_ok-command.ensures.app pint_is_free
    c.in_err-matches.ensures.kinds))

pub returns : goal.returns
returns c =
    let m = c.in_ok-matches.matches in
    let words = map (λ w. w.now) c.args.words.now in
    let said = taken (app_of c.in_ok-command.field-0) pint words m c.in_ok-command.ensures.app pint_is_simple pint_is_free
    c.in_ok-matches.ensures.matches c.in_ok-matches.ensures.kinds in
    let f = found_of m in
    let parsed = c.in_ok-matches.ensures.parsed in
    let number = counted (λ bs r. ParsesUnsigned 32 10 bs r × ExplainsUnsignedError 10 bs r × HasUnsignedDigitsIfOk bs r) f
    (cells_in words) c.get_one.result c.unwrap_or.result (λ u x h. h.0) (said.first (codes "cells")) (c.in_ok-command.ensures.cells m parsed)
    c.get_one.ensures.none c.get_one.ensures.value c.unwrap_or.ensures in
    let given = c.in_ok-command.ensures.code m parsed in
    record {
      faultless = said.faultless;
      code = sym (said.first (codes "code"))
          ∙ (sym c.get_str.ensures ∙ there c.unwrap_or-2.result c.get_str.result _ c.unwrap_or-2.ensures (rw c.get_str.ensures given));
      cells = number.0;
      least = number.1;
      most = number.2;
    }
