use Rattle.std.proofs.Common.{◌≡◌, refl, arith}
use Rattle.std.proofs.lemmas.Result.{err_from_is_err_and}
use Rattle.run_ports.specs.Steps.{sign_taken}
use Rattle.run_ports.proofs.Taken.{Looked-as, Looked-stops, Taken-as, Taken-is, Taken-on, blank_is, blank_taken, minus_taken, no_sign, plus_taken}
use Rattle.run_ports.proofs.ports.RunPorts.pass_sign.Goals as goal

pub loop-self-init : goal.loop-self-init
loop-self-init g c = (refl, refl, λ y new f p h. h)

pub returns-in_err-look-clause-reads : goal.returns-in_err-look-clause-reads
returns-in_err-look-clause-reads g c =
    let p = err_from_is_err_and c.from_residual.result c.from_residual.ensures.1 in
    rw (p.1, p.2) (c.loop-self.invariant.2 _ _ _ _ (Looked-stops sign_taken _ _ _ _ _ _ _ refl c.in_err-look.ensures.reads))

pub loop-self-preserved : goal.loop-self-preserved
loop-self-preserved g c =
    let kept = c.loop-self.invariant in
    let byte = c.in_ok-look.field-0 in
    let taken = Taken-is byte _ c.look.new.self _ _ _ _ _ c.take.ensures.takes c.in_ok-look.ensures.reads in (
      omega (arith, kept.0, c.in_ok-look.ensures.read_failures),
      omega (arith, kept.1, c.in_ok-look.ensures.write_failures),
      λ y new f p h. kept.2 y new f p
          (Taken-on sign_taken sign_taken byte y _ _ _ _ _ _ _ _ _ refl (λ xs. blank_taken byte xs (blank_is byte c.in-32.is)) taken h),
    )

pub returns-in-45-clause-reads : goal.returns-in-45-clause-reads
returns-in-45-clause-reads g c =
    let byte = c.in_ok-look.field-0 in
    let taken = Taken-is byte _ c.look.new.self _ _ _ _ _ c.take-in-45.ensures.takes c.in_ok-look.ensures.reads in
    c.loop-self.invariant.2 _ _ _ _ (Taken-as sign_taken byte _ _ _ _ _ _ _ refl refl refl (λ fails xs. minus_taken byte xs c.in-45.is) taken)

pub returns-in-43-clause-reads : goal.returns-in-43-clause-reads
returns-in-43-clause-reads g c =
    let byte = c.in_ok-look.field-0 in
    let taken = Taken-is byte _ c.look.new.self _ _ _ _ _ c.take-in-43.ensures.takes c.in_ok-look.ensures.reads in
    c.loop-self.invariant.2 _ _ _ _ (Taken-as sign_taken byte _ _ _ _ _ _ _ refl refl refl (λ fails xs. plus_taken byte xs c.in-43.is) taken)

pub returns-in_default-clause-reads : goal.returns-in_default-clause-reads
returns-in_default-clause-reads g c =
    let byte = c.in_ok-look.field-0 in
    let space : byte ≡ 32 → ⊥ = λ e. grind arith in
    let end : byte ≡ 10 → ⊥ = λ e. grind arith in
    let minus : byte ≡ 45 → ⊥ = omega arith in
    let plus : byte ≡ 43 → ⊥ = omega arith in
    c.loop-self.invariant.2 _ _ _ _
    (Looked-as sign_taken byte _ _ _ _ _ _ _ refl refl refl (λ fails xs. no_sign byte xs space end minus plus) c.in_ok-look.ensures.reads)
