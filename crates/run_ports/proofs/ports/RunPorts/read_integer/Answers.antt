use Rattle.std.proofs.Common.{refl, sym, inl}
use Rattle.std.proofs.lemmas.Result.{err_from_is_err_and}
use Rattle.text_input.specs.Input.{digits, unsigned_at}
use Rattle.run_ports.proofs.Taken.{Looked-as, Looked-on, Looked-stops, Sign-stops, Sign-then, first_digit, no_number}
use Rattle.run_ports.proofs.ports.RunPorts.read_integer.Goals as goal

pub returns-in_err-is_negative-clause-reads : goal.returns-in_err-is_negative-clause-reads
returns-in_err-is_negative-clause-reads g c =
    let p = err_from_is_err_and c.from_residual.result c.from_residual.ensures.1 in
    rw (p.1, p.2) (Sign-stops _ _ _ _ _ _ _ c.in_err-is_negative.ensures.reads)

pub returns-in_err-look-clause-reads : goal.returns-in_err-look-clause-reads
returns-in_err-look-clause-reads g c =
    let p = err_from_is_err_and c.from_residual-in_err-look.result c.from_residual-in_err-look.ensures.1 in
    let is_negative = c.in_ok-is_negative.is_negative in
    rw (p.1, p.2)
    (Sign-then is_negative _ _ _ _ _ _ _ _ _ _ c.in_ok-is_negative.ensures.reads
    (Looked-stops (unsigned_at is_negative) _ _ _ _ _ _ _ refl c.in_err-look.ensures.reads))

pub returns-then-not-is_ascii_digit-clause-reads : goal.returns-then-not-is_ascii_digit-clause-reads
returns-then-not-is_ascii_digit-clause-reads g c =
    let is_negative = c.in_ok-is_negative.is_negative in
    let byte = c.in_ok-look.field-0 in
    let test = sym c.if-not-is_ascii_digit.ensures.value in
    Sign-then is_negative _ _ _ _ _ _ _ _ _ _ c.in_ok-is_negative.ensures.reads
    (Looked-as (unsigned_at is_negative) byte _ _ _ _ _ _ _ refl refl refl (λ fails xs. inl (no_number is_negative byte xs test)) c.in_ok-look.ensures.reads)

pub returns-clause-reads : goal.returns-clause-reads
returns-clause-reads g c =
    let is_negative = c.in_ok-is_negative.is_negative in
    let byte = c.in_ok-look.field-0 in
    let test = sym c.if-not-is_ascii_digit.ensures.value in
    Sign-then is_negative _ _ _ _ _ _ _ _ _ _ c.in_ok-is_negative.ensures.reads
    (Looked-on (digits is_negative 0) (unsigned_at is_negative) byte _ _ _ _ _ _ _ _ _ _ refl (λ xs. first_digit is_negative byte xs test)
    c.in_ok-look.ensures.reads c.digits.ensures.reads)
