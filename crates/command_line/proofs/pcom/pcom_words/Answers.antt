use Rattle.std.proofs.Common.{codes, map, ◌∙◌, sym}
use Rattle.std.proofs.lemmas.Result.{err_from_is_err_and}
use Rattle.clap.specs.Words.{app_of}
use Rattle.command_line.specs.Pcom.{pcom}
use Rattle.command_line.proofs.PcomLemmas.{pcom_is_free, pcom_is_simple}
use Rattle.command_line.proofs.WordsLemmas.{refused, taken, there}
use Rattle.command_line.proofs.pcom.pcom_words.Goals as goal

pub returns-in_err-matches : goal.returns-in_err-matches
returns-in_err-matches c =
    let words = map (λ w. w.now) c.args.words.now in
    let sent = err_from_is_err_and c.from_residual-in_err-matches.result c.from_residual-in_err-matches.ensures.1 in
    rw (sent.1) (rw sent.2 (refused (app_of c.in_ok-command.field-0) pcom words c.in_err-matches.field-0.0 c.in_ok-command.ensures.app pcom_is_free
    c.in_err-matches.ensures.kinds))

pub returns : goal.returns
returns c =
    let m = c.in_ok-matches.matches in
    let said = taken (app_of c.in_ok-command.field-0) pcom (map (λ w. w.now) c.args.words.now) m c.in_ok-command.ensures.app pcom_is_simple pcom_is_free
    c.in_ok-matches.ensures.matches c.in_ok-matches.ensures.kinds in
    let given = c.in_ok-command.ensures.source m c.in_ok-matches.ensures.parsed in
    record {
      faultless = said.faultless;
      source = sym (said.first (codes "source"))
          ∙ (sym c.get_str.ensures ∙ there c.unwrap_or.result c.get_str.result _ c.unwrap_or.ensures (rw c.get_str.ensures given));
      code = sym (said.first (codes "code")) ∙ sym c.get_str-2.ensures;
      cert = sym (said.first (codes "cert")) ∙ sym c.get_str-3.ensures;
      write_cert = sym (said.first (codes "write-cert")) ∙ sym c.get_str-4.ensures;
      keep_checks = record {
        given = λ h. c.get_flag.ensures.value (said.one (codes "keep-checks") ∙ h);
        left_out = λ h. c.get_flag.ensures.other (said.one (codes "keep-checks") ∙ h);
        unknown = λ h. c.get_flag.ensures.none (said.one (codes "keep-checks") ∙ h);
      };
      go = record {
        given = λ h. c.get_flag-2.ensures.value (said.one (codes "go") ∙ h);
        left_out = λ h. c.get_flag-2.ensures.other (said.one (codes "go") ∙ h);
        unknown = λ h. c.get_flag-2.ensures.none (said.one (codes "go") ∙ h);
      };
    }
