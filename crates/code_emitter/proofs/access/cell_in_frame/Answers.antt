use Rattle.std.proofs.Common.{◌≡◌, length, ap, sym, ◌∙◌, arith}
use Rattle.std.proofs.lemmas.Bool.Decides.{nat_tests}
use Rattle.std.proofs.lemmas.List.{nil_from_length}
use Rattle.code_scheme.specs.Scopes.{behind_fields}
use Rattle.code_emitter.proofs.Reaching.{fields_need_one}
use Rattle.code_emitter.proofs.access.cell_in_frame.Goals as goal

pub returns-clause-needs : goal.returns-clause-needs
returns-clause-needs c = λ indexes some.
    let empty : length c.behind_fields.result.now ≡ 0 = grind (arith, nat_tests) in
    let none = ap behind_fields (sym c.as_slice.ensures.value) ∙ sym c.behind_fields.ensures ∙ nil_from_length c.behind_fields.result.now empty in
    fields_need_one c.args.access.now.selectors.items indexes none
