use Rattle.std.proofs.Common.{◌≡◌, ap, ◌∙◌, append-nil}
use Rattle.code_scheme.specs.Code.{address_code, index_codes}
use Rattle.code_emitter.specs.Pieces.{among, record_code}
use Rattle.code_emitter.proofs.Emitted.{gets_is, gets_then}
use Rattle.code_emitter.proofs.with.emit_record.Goals as goal

pub returns-clause-emits : goal.returns-clause-emits
returns-clause-emits c =
    let one = c.args.one.now in
    let inside = c.among-inside.result in
    let is : inside ≡ among c.args.scope.now c.args.held.now.items c.args.cells =
    c.among-inside.ensures.scope ∙ ap (λ h. among c.args.scope.now h c.args.cells) c.as_slice.ensures.value in
    gets_is (gets_then c.emit_address-depth.ensures.emits c.keep_record.ensures.emits)
    (append-nil (address_code inside one.access (index_codes inside c.as_slice-2.result.now))
    ∙ ap (λ es. address_code inside one.access (index_codes inside es)) c.as_slice-2.ensures.value
    ∙ ap (λ s. record_code s one) is)
