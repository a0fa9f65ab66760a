-- Tests one after another.
use Rattle.std.proofs.Common.{◌≡◌, Bool, true, ◌&&◌, ap, sym}

-- the second decides, where the first passes
pub and-rest : (first rest : Bool) → first ≡ true → rest ≡ (first && rest)
and-rest first rest passes = sym (ap (λ (b : Bool). b && rest) passes)
