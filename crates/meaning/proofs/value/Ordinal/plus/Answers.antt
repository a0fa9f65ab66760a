use Rattle.std.proofs.Common.{◌≡◌, ℤ, arith, rules, ap, ◌∙◌, ◌+ℤ◌}
use Rattle.std.proofs.lemmas.Int.{ints}
use mir.Syntax.{w64}
use mir.Val.{SFits, to_z, of_z}
use Rattle.meaning.specs.Integers.{integer_or_none}
use Rattle.meaning.proofs.value.Ordinal.plus.Goals as goal

pub returns : goal.returns
returns c =
    let left : to_z w64 (of_z w64 c.self.inside.number) ≡ c.args.self = omega (arith, ints) in
    let right : to_z w64 (of_z w64 c.other.inside.number) ≡ c.args.other = omega (arith, ints) in
    let fits : SFits w64 (c.args.self +ℤ c.args.other) = search rules in
    c.integer.ensures ∙ ap (λ (z : ℤ). integer_or_none (to_z w64 (of_z w64 (z +ℤ to_z w64 (of_z w64 c.other.inside.number))))) left
    ∙ ap (λ (z : ℤ). integer_or_none (to_z w64 (of_z w64 (c.args.self +ℤ z)))) right
    ∙ ap integer_or_none {x = to_z w64 (of_z w64 (c.args.self +ℤ c.args.other))} {y = c.args.self +ℤ c.args.other} (omega (arith, ints))
