use Rattle.std.proofs.Common.{rules, ◌≡◌, ◌∙◌, ap, length, List, [], true}
use Rattle.typed_tree.specs.declared.tree.Tree.{Tree}
use Rattle.typed_tree.specs.declared.site.Site.{Site}
use Rattle.typed_tree.specs.Entries.{entries_of}
use Rattle.certificate.specs.declared.Certificate.{Certificate}
use Rattle.checker_calls.specs.Names.{is_known}
use Rattle.cert_checker.specs.Promise.{open_in}
use Rattle.cert_checker.specs.Walk.{program_walk}
use Rattle.cert_checker.proofs.EffectsRoutines.{calls-change-what-they-list}
use Rattle.cert_checker.proofs.Entered.{links_entries, program-entered}
use Rattle.cert_checker.proofs.SoundProgram.{closed-never_err, states-hold}
use Rattle.cert_checker.proofs.check.Goals as goal

pub returns-clause-visits : goal.returns-clause-visits
returns-clause-visits c = c.in_ok-found.ensures.visits ∙ ap (λ (t : Tree). length (entries_of t)) c.in_ok-rows.ensures

pub returns-clause-closed_never_err : goal.returns-clause-closed_never_err
returns-clause-closed_never_err c =
    let tree : Tree = c.args.tree.now in
    let certificate : Certificate = c.args.certificate.now in
    let unbroken : (program_walk tree certificate).broken ≡ [] = search rules in
    let known : is_known tree certificate ≡ true = search rules in
    let open_sites : List Site = c.in_ok-open_sites.field-0.items in
    let ids_are : c.in_ok-found.found.open_ids.items ≡ (program_walk tree certificate).open_ids = search rules in
    let open_are : open_sites ≡ open_in (program_walk tree certificate).open_ids tree.sites.items =
    c.in_ok-open_sites.ensures ∙ ap (λ ids. open_in ids c.deref.result.now) ids_are
    ∙ ap (open_in (program_walk tree certificate).open_ids) c.deref.ensures.value in
    closed-never_err tree certificate open_sites unbroken known open_are

pub returns-clause-states_hold : goal.returns-clause-states_hold
returns-clause-states_hold c =
    let tree : Tree = c.args.tree.now in
    let certificate : Certificate = c.args.certificate.now in
    let unbroken : (program_walk tree certificate).broken ≡ [] = search rules in
    let known : is_known tree certificate ≡ true = search rules in
    states-hold tree certificate unbroken known (program-entered tree certificate)

pub returns-clause-calls_change : goal.returns-clause-calls_change
returns-clause-calls_change c =
    let tree : Tree = c.args.tree.now in
    let certificate : Certificate = c.args.certificate.now in
    let unbroken : (program_walk tree certificate).broken ≡ [] = search rules in
    λ well. calls-change-what-they-list tree well certificate unbroken

pub returns-clause-entries : goal.returns-clause-entries
returns-clause-entries c = links_entries c.args.tree.now c.args.certificate.now

pub returns-in_err-found-clause-entries : goal.returns-in_err-found-clause-entries
returns-in_err-found-clause-entries c = links_entries c.args.tree.now c.args.certificate.now

pub returns-in_err-open_sites-clause-entries : goal.returns-in_err-open_sites-clause-entries
returns-in_err-open_sites-clause-entries c = links_entries c.args.tree.now c.args.certificate.now

pub returns-then-not-is_known-clause-entries : goal.returns-then-not-is_known-clause-entries
returns-then-not-is_known-clause-entries c = links_entries c.args.tree.now c.args.certificate.now

pub returns-in_err-rows-clause-entries : goal.returns-in_err-rows-clause-entries
returns-in_err-rows-clause-entries c = links_entries c.args.tree.now c.args.certificate.now
