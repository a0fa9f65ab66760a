use Rattle.std.proofs.Common.{rules, arith}
use Rattle.std.proofs.lemmas.Int.{ints, fits_signed_mul}
use mir.Syntax.{w64}
use mir.Val.{to_z, of_z}
use Rattle.meaning.proofs.value.Ordinal.times.Goals as goal

pub returns : goal.returns
returns c = search rules

pub overflow_mul-self-inside : goal.overflow_mul-self-inside
overflow_mul-self-inside c =
    fits_signed_mul w64 (to_z w64 (of_z w64 c.self.inside.number)) (to_z w64 (of_z w64 c.other.inside.number)) 2147483648 2147483648 (omega (arith, ints))
    (omega (arith, ints)) (omega arith)
