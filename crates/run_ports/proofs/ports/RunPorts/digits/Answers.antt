use Rattle.std.proofs.Common.{◌+◌, ◌-◌, ◌*◌, ◌∷◌, refl, sym, subst, arith}
use Rattle.std.proofs.lemmas.Result.{err_from_is_err_and}
use Rattle.text_input.specs.Input.{digits}
use Rattle.run_ports.specs.Reads.{Answers}
use Rattle.run_ports.proofs.Taken.{Looked-as, Looked-stops, Taken-is, Taken-on, digit_taken, no_digit}
use Rattle.run_ports.proofs.ports.RunPorts.digits.Goals as goal

pub loop-byte-init : goal.loop-byte-init
loop-byte-init g c = (0, refl, refl, refl, λ y new f p h. h)

pub returns-in_err-byte-clause-reads : goal.returns-in_err-byte-clause-reads
returns-in_err-byte-clause-reads g c =
    let p = err_from_is_err_and c.from_residual.result c.from_residual.ensures.1 in
    let kept = c.loop-byte.invariant in
    rw (p.1, p.2) (kept.4 _ _ _ _ (Looked-stops (digits c.args.is_negative kept.0) _ _ _ _ _ _ _ refl c.in_err-byte.ensures.reads))

pub returns-then-not-is_ascii_digit-clause-reads : goal.returns-then-not-is_ascii_digit-clause-reads
returns-then-not-is_ascii_digit-clause-reads g c =
    let kept = c.loop-byte.invariant in
    let byte = c.in_ok-byte.byte in
    let none = c.number_of.ensures.no_failure in
    let test = sym c.if-not-is_ascii_digit.ensures.value in
    kept.4 _ _ _ _
    (Looked-as (digits c.args.is_negative kept.0) byte c.number_of.result _ _ _ _ _ _ refl none.0 none.1
    (λ fails xs. subst (λ r. Answers c.number_of.result r fails (byte ∷ xs)) (sym (no_digit c.args.is_negative kept.0 byte xs test))
    (c.number_of.ensures.value kept.0 fails (byte ∷ xs) kept.1)) c.in_ok-byte.ensures.reads)

pub overflow_mul-magnitude : goal.overflow_mul-magnitude
overflow_mul-magnitude g c = omega (arith, c.loop-byte.invariant.1)

pub overflow_add-magnitude : goal.overflow_add-magnitude
overflow_add-magnitude g c = omega (arith, c.loop-byte.invariant.1, c.from.ensures, c.if-not-is_ascii_digit.ensures.cases)

pub loop-byte-preserved : goal.loop-byte-preserved
loop-byte-preserved g c =
    let kept = c.loop-byte.invariant in
    let byte = c.in_ok-byte.byte in
    let n = kept.0 * 10 + (byte - 48) in
    let test = sym c.if-not-is_ascii_digit.ensures.value in
    let taken = Taken-is byte _ c.look.new.self _ _ _ _ _ c.take.ensures.takes c.in_ok-byte.ensures.reads in (
      n,
      omega (arith, kept.1, c.from.ensures, c.min-magnitude.ensures),
      omega (arith, kept.2, c.in_ok-byte.ensures.read_failures),
      omega (arith, kept.3, c.in_ok-byte.ensures.write_failures),
      λ y new f p h. kept.4 y new f p
          (Taken-on (digits c.args.is_negative n) (digits c.args.is_negative kept.0) byte y _ _ _ _ _ _ _ _ _ refl
          (λ xs. digit_taken c.args.is_negative kept.0 byte xs test) taken h),
    )
