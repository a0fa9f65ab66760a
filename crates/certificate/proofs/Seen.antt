-- Results as the definitions see them.
use Rattle.std.proofs.Common.{◌≡◌, Result, Ok, Err, ap}
use Rattle.std.specs.Result.{IsErrAnd, result_map_both}
use Rattle.certificate.specs.declared.words.LineFault.{LineFault}

abbrev pub seen : {A B : Type 0} → (A → B) → Result A LineFault → Result B LineFault
seen f r = result_map_both f (λ fault. fault) r

pub fault_seen : {A B : Type 0} (f : A → B) (answer : Result A LineFault) (fault : LineFault) → IsErrAnd answer (λ given. given ≡ fault)
    → seen f answer ≡ Err fault
fault_seen f (Ok a) fault is = absurd is
fault_seen f (Err given) fault is = ap Err is
