use Rattle.std.proofs.Common.{◌∙◌, ap, [], ◌∷◌, sym, append-nil, Some, None}
use Rattle.std.proofs.lemmas.List.{map-append}
use Rattle.checker_state.specs.View.{said_held}
use Rattle.checker_known.proofs.Longer.{longer-more}
use Rattle.checker_known.proofs.HeldLists.{said_all}
use Rattle.checker_known.proofs.knowledge.Knowledge.add_longer.Goals as goal

pub returns-in-None : goal.returns-in-None
returns-in-None c = λ so_far.
    longer-more c.args.self.now.held.items c.args.place c.index.result.now None c.requires c.index.ensures c.in-None.ensures so_far
    (sym (append-nil c.args.beside.now.places.items)) (sym (append-nil (said_all c.args.beside.now.longer.items)))

pub returns-in_ok-push-in-Some-2 : goal.returns-in_ok-push-in-Some-2
returns-in_ok-push-in-Some-2 c = λ so_far.
    longer-more c.args.self.now.held.items c.args.place c.index.result.now (Some (said_held c.in-Some.longer)) c.requires c.index.ensures c.in-Some.ensures
    so_far
    c.in_ok-push-in-Some.ensures.items
    (ap said_all c.in_ok-push-in-Some-2.ensures.items ∙ map-append said_held c.args.beside.now.longer.items (c.in-Some.longer ∷ []))
