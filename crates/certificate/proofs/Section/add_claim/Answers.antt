use Rattle.std.proofs.Common.{◌<◌, rules, vec_len}
use Rattle.std.proofs.lemmas.Result.{on_ok_weaker}
use Rattle.certificate.specs.Building.{in_loop, word_claim}
use Rattle.certificate.specs.Contents.{loop_of, section_of}
use Rattle.certificate.proofs.LastChanged.{in_last_loop, last_changed, some_loops}
use Rattle.certificate.proofs.Section.add_claim.Goals as goal

pub returns-in-Some : goal.returns-in-Some
returns-in-Some c =
    let loops = c.args.self.now.loops in
    let claim = word_claim c.args.claim.now in
    let some : 0 < vec_len loops = c.last_mut.ensures.variant.0 (search rules) in
    on_ok_weaker c.add.result
    (λ told. in_last_loop claim (section_of c.args.self.now) _ (some_loops loops.items (vec_len loops) loops.ok.0 some)
    (last_changed loop_of (in_loop claim) loops.items (vec_len loops) c.in-Some.claims.now c.add.new.self loops.ok.0 some
    c.in-Some.ensures.value told))
    c.add.ensures
