use Rattle.std.proofs.Common.{◌-◌, arith, sym, ◌∙◌, length, take, drop, rules}
use Rattle.std.proofs.lemmas.Grind.{common_steps}
use Rattle.certificate.specs.Building.{word_path}
use Rattle.certificate.proofs.Pieces.{path_fault, path_found, path_wrong}
use Rattle.certificate.proofs.Seen.{fault_seen}
use Rattle.certificate.proofs.paths.path_of.Goals as goal

pub returns-then-not-are_steps : goal.returns-then-not-are_steps
returns-then-not-are_steps c =
    let word = c.args.word.now in
    let end = c.step_place-end.result in
    path_wrong c.args.elements word (take (length word - end) (drop end word)) end c.step_place-end.ensures.place (grind (arith, common_steps))
    (search rules)

pub returns-in_err-root : goal.returns-in_err-root
returns-in_err-root c =
    let word = c.args.word.now in
    let end = c.step_place-end.result in
    fault_seen word_path c.from_residual.result c.in_err-root.field-0.0 c.from_residual.ensures.1
    ∙ path_fault c.args.elements word (take (length word - end) (drop end word)) end c.in_err-root.field-0.0 c.step_place-end.ensures.place
    (grind (arith, common_steps)) (search rules) (sym c.variable_of.ensures ∙ c.in_err-root.was)

pub returns : goal.returns
returns c =
    let word = c.args.word.now in
    let end = c.step_place-end.result in
    path_found c.args.elements word (take (length word - end) (drop end word)) end c.in_ok-root.root c.step_place-end.ensures.place
    (grind (arith, common_steps)) (search rules) (search rules)
