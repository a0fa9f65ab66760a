use Rattle.std.proofs.Common.{ap}
use Rattle.report.specs.Refusals.{given}
use Rattle.report.proofs.StepLemmas.{if_whole, if_refused, if_guessed}
use Rattle.report.proofs.compile.compile.Goals as goal

pub returns-clause-typed : goal.returns-clause-typed
returns-clause-typed c = if_whole _ c.args.source.now (given c.args.certificate) c.whole.result c.whole.ensures (λ compiled h. h.tree.typed)

pub returns-clause-certificate : goal.returns-clause-certificate
returns-clause-certificate c = if_whole _ c.args.source.now (given c.args.certificate) c.whole.result c.whole.ensures (λ compiled h. h.judgement.serves)

pub returns-clause-by_place : goal.returns-clause-by_place
returns-clause-by_place c = if_whole _ c.args.source.now (given c.args.certificate) c.whole.result c.whole.ensures (λ compiled h. h.tree.by_place)

pub returns-clause-checked : goal.returns-clause-checked
returns-clause-checked c = if_whole _ c.args.source.now (given c.args.certificate) c.whole.result c.whole.ensures (λ compiled h. h.judgement.valid)

pub returns-clause-visits : goal.returns-clause-visits
returns-clause-visits c = if_whole _ c.args.source.now (given c.args.certificate) c.whole.result c.whole.ensures (λ compiled h. h.judgement.entered)

pub returns-clause-headline : goal.returns-clause-headline
returns-clause-headline c = if_whole _ c.args.source.now (given c.args.certificate) c.whole.result c.whole.ensures (λ compiled h. h.codes.headline)

pub returns-clause-states_hold : goal.returns-clause-states_hold
returns-clause-states_hold c = if_whole _ c.args.source.now (given c.args.certificate) c.whole.result c.whole.ensures (λ compiled h. h.judgement.states_hold)

pub returns-clause-calls_change : goal.returns-clause-calls_change
returns-clause-calls_change c =
    if_whole _ c.args.source.now (given c.args.certificate) c.whole.result c.whole.ensures (λ compiled h. h.judgement.calls_change)

pub returns-clause-follows : goal.returns-clause-follows
returns-clause-follows c = if_whole _ c.args.source.now (given c.args.certificate) c.whole.result c.whole.ensures (λ compiled h. h.codes.follows)

pub returns-clause-text : goal.returns-clause-text
returns-clause-text c = if_whole _ c.args.source.now (given c.args.certificate) c.whole.result c.whole.ensures (λ compiled h. h.codes.text)

pub returns-clause-stripped_text : goal.returns-clause-stripped_text
returns-clause-stripped_text c = if_whole _ c.args.source.now (given c.args.certificate) c.whole.result c.whole.ensures (λ compiled h. h.codes.less_text)

pub returns-clause-full : goal.returns-clause-full
returns-clause-full c = if_whole _ c.args.source.now (given c.args.certificate) c.whole.result c.whole.ensures (λ compiled h. h.codes.instructions)

pub returns-clause-sites : goal.returns-clause-sites
returns-clause-sites c = if_whole _ c.args.source.now (given c.args.certificate) c.whole.result c.whole.ensures (λ compiled h. h.codes.sites)

pub returns-clause-points : goal.returns-clause-points
returns-clause-points c = if_whole _ c.args.source.now (given c.args.certificate) c.whole.result c.whole.ensures (λ compiled h. h.codes.points)

pub returns-clause-stripped : goal.returns-clause-stripped
returns-clause-stripped c = if_whole _ c.args.source.now (given c.args.certificate) c.whole.result c.whole.ensures (λ compiled h. h.codes.less)

pub returns-clause-refused : goal.returns-clause-refused
returns-clause-refused c = if_refused c.args.source.now (given c.args.certificate) c.whole.result c.whole.ensures

pub returns-clause-guessed : goal.returns-clause-guessed
returns-clause-guessed c = λ none. if_guessed c.args.source.now (given c.args.certificate) c.whole.result (ap given none) c.whole.ensures
