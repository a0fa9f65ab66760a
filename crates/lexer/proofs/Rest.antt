-- The rest of a text.
use Rattle.std.proofs.Common.{◌≡◌, ℕ, ◌-◌, List, length, take, drop, Bool, sym, subst, ◌∙◌, ap}
use Rattle.std.proofs.lemmas.List.{length-drop}
use Rattle.std.proofs.Math.Seq.{take-length}
use Rattle.lexer.specs.Shape.{begins}

pub rest_is : (text : List ℕ) (at : ℕ) → take (length text - at) (drop at text) ≡ drop at text
rest_is text at = ap (λ n. take n (drop at text)) (sym (length-drop at text)) ∙ take-length (drop at text)

-- what the rest begins with
pub begins_rest : (mark text : List ℕ) (at : ℕ) (t : Bool) → t ≡ begins mark (take (length text - at) (drop at text)) → begins mark (drop at text) ≡ t
begins_rest mark text at t h = subst (λ rest. begins mark rest ≡ t) (rest_is text at) (sym h)
