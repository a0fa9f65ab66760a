use Rattle.std.proofs.Common.{◌≡◌, ◌+◌, ℤ, pos, ◌+ℤ◌, List, w32, w64, to_z, of_z, SFits, get_or, take, arith, rules, ap, subst, sym, ◌∙◌}
use Rattle.std.proofs.lemmas.Int.{ints, to_z-of_z, of_z-to_z}
use Rattle.std.proofs.lemmas.List.{take_all}
use Rattle.domain.specs.Numbers.{IsFirstOther}
use Rattle.domain.proofs.Numbers.{other-next, other-stays}
use Rattle.domain.proofs.interval.numbers.first_other.Goals as goal
use Rattle.domain.proofs.interval.numbers.first_other.Goals.{then-from-other, else-from-other}

pub loop-number-preserved : goal.loop-number-preserved
loop-number-preserved c =
    let first = to_z w64 (of_z w64 c.args.first) in
    let numbers = c.args.numbers.now in
    let i = c.loop-number.number-index in
    let number = get_or numbers i (pos 0) in
    let other = to_z w64 c.loop-number.other-bits in
    let fits : SFits w32 number = search rules in
    let read : c.from.result ≡ number = c.from.ensures ∙ to_z-of_z w32 number fits in
    let kept = to_z-of_z w64 c.from.result (record { sfits = c.from.type_inv }) in
    elim c.if-from-other.branch [
      | then-from-other w ↦
          let same : number ≡ other = sym read ∙ sym kept ∙ ap (to_z w64) w.if-from-other.true in
          let next : to_z w64 c.if-from-other.other-bits ≡ other +ℤ pos 1 = omega (arith, ints, w.other-is, same, fits) in
          subst (λ (n : ℤ). IsFirstOther first (take (i + 1) numbers) n) (sym next)
          (other-next first numbers i (pos 0) other c.requires c.loop-number-test.true c.loop-number.invariant same)
      | else-from-other w ↦
          let apart : number ≡ other → ⊥ =
          λ same. w.if-from-other.false (ap (of_z w64) (read ∙ same) ∙ of_z-to_z w64 c.loop-number.other-bits c.loop-number.auto.other.fits) in
          subst (λ (n : ℤ). IsFirstOther first (take (i + 1) numbers) n) (sym w.other-is)
          (other-stays first numbers i (pos 0) other c.loop-number-test.true c.loop-number.invariant apart)
    ]

pub returns : goal.returns
returns c =
    let other = to_z w64 c.loop-number.other-bits in
    let whole = take_all c.loop-number.number-index c.args.numbers.now c.loop-number-test.false in
    subst (λ (n : ℤ). IsFirstOther n c.args.numbers.now other) (to_z-of_z w64 c.args.first c.ranges.first)
    (subst (λ (xs : List ℤ). IsFirstOther (to_z w64 (of_z w64 c.args.first)) xs other) whole c.loop-number.invariant)
