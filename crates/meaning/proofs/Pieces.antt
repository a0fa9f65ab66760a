-- Laws of every piece of a program, wherever it stands.
use Rattle.meaning.specs.Laws.{PiecesUseTurnsExactly, LoopsGoRoundByRound, standing}
use Rattle.meaning.specs.Meaning.{effect_of, value_of, all_of, for_turn}
use Rattle.meaning.proofs.Loops.{looped-rounds, for_uses, repeat_uses, while_uses}
use Rattle.meaning.proofs.Used.{Exact, exact_calls, exact_closed, exact_turn}
use Rattle.meaning.proofs.Walks.{of_assign_all, of_called, of_combined, of_effect, of_for_rounds, of_passing, of_require, of_statements, of_value}
use Rattle.meaning.proofs.Walks.{of_designated, of_opened, of_operated_both}
use Rattle.meaning.proofs.Walks.{of_whole_value, of_width, of_written}
use Rattle.std.proofs.Common.{map}

pub pieces_use_turns : PiecesUseTurnsExactly
pieces_use_turns tree depth visible records =
    let env = standing tree depth visible records in
    let calls = env.calls in
    let exact = exact_calls tree depth in
    record {
      turn = exact_turn;
      entries = λ number. (exact_closed.enters number visible).1;
      tests = λ holds site. (of_require Exact exact_closed holds site).1;
      stores = λ place v. (exact_closed.stores place v).1;
      operators = λ operation left right. (of_combined Exact exact_closed operation left right).1;
      operations = λ operation left right. (of_operated_both Exact exact_closed operation left right).1;
      values = λ e. (of_value Exact exact_closed visible calls calls exact e records).1;
      gathering = λ designators members set. (of_designated Exact exact_closed visible calls calls exact designators members records set).1;
      wholes = λ value indexes. (of_whole_value Exact exact_closed visible calls calls exact value indexes records).1;
      actuals = λ actual. (of_passing Exact exact_closed visible calls calls exact actual records).1;
      assigned = λ other roots arguments. (of_assign_all Exact exact_closed other visible roots arguments).1;
      calls = λ call actuals. (of_called Exact exact_closed visible calls calls exact call actuals records).1;
      widths = λ width default. (of_width Exact exact_closed visible calls calls exact width default records).1;
      written = λ parameter. (of_written Exact exact_closed visible calls calls exact parameter.value parameter.width records).1;
      records = λ with. (of_opened Exact exact_closed visible calls calls exact with records).1;
      statements = λ statement. (of_effect Exact exact_closed visible calls calls exact statement records).1;
      counted = λ head body first last.
          (of_for_rounds Exact exact_closed visible calls calls exact head body records first last).1;
    }

pub loops_go_round : LoopsGoRoundByRound
loops_go_round tree depth visible records =
    let env = standing tree depth visible records in
    let calls = env.calls in
    let exact = exact_calls tree depth in
    record {
      whiles = λ condition body. looped-rounds _ (while_uses (value_of condition) (effect_of body) env
          (of_value Exact exact_closed visible calls calls exact condition records).0 (of_effect Exact exact_closed visible calls calls exact body records).0);
      repeats = λ statements condition. looped-rounds _ (repeat_uses (all_of (map effect_of statements)) (value_of condition) env
          (of_statements Exact exact_closed visible calls calls exact statements records).0
          (of_value Exact exact_closed visible calls calls exact condition records).0);
      fors = λ head first last body. looped-rounds _ (for_uses head first last (effect_of body) env
          (λ n. (of_effect Exact exact_closed (for_turn head first env n).visible calls calls exact body records).0));
    }
