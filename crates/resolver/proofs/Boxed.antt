-- What was made, in a box: it is as it was made, and where it isn't there it was refused or memory ran out.
use Rattle.std.proofs.Common.{◌≡◌, Box, Result, Ok, Err, inl, inr, sym, ap, subst, ◌∙◌}
use Rattle.std.specs.Prelude.{IfOk}
use Rattle.std.specs.declared.alloc.Global.{Global}
use Rattle.typed_tree.specs.declared.fault.TypeFault.{TypeFault}
use Rattle.typed_tree.specs.Look.{Look}
use Rattle.typing.specs.Outcomes.{IsFault, Makes}
use Rattle.typing.specs.Passing.{After, Passed, after}
use Rattle.typing_rules.specs.Checked.{Checked}
use Rattle.resolver.specs.Made.{Boxes}

pub boxed_makes : {T : Type 0} (look : T → Look) (outcome : Checked (After (Unit {0}))) (found : Result T TypeFault) (new : Passed)
    (result : Result (Box T Global) TypeFault) → Makes (λ made. tt) look outcome found new → Boxes found result
    → Makes (λ made. tt) (λ made. look made.value) outcome result new
boxed_makes look outcome (Ok made) new (Ok box) is put = is ∙ ap (λ one. Ok (after tt (look one) new)) (sym put)
boxed_makes look outcome (Err why) new (Ok box) is put = absurd put
boxed_makes look outcome (Ok made) new (Err why) is (inl memory) = inl memory
boxed_makes {T} look outcome (Ok made) new (Err why) is (inr other) = let e : ◌≡◌ {A = Result T TypeFault} (Ok made) (Err why) = other in absurd cc
boxed_makes look outcome (Err first) new (Err why) is (inl memory) = inl memory
boxed_makes {T} look outcome (Err first) new (Err why) is (inr other) =
    let e : ◌≡◌ {A = Result T TypeFault} (Err first) (Err why) = other in let same : first ≡ why = cc in subst (IsFault outcome) same is

pub boxed_held : {T : Type 0} (held : T → Type 0) (found : Result T TypeFault) (result : Result (Box T Global) TypeFault) → IfOk found held
    → Boxes found result → IfOk result (λ made. held made.value)
boxed_held held (Ok made) (Ok box) so put = subst held (sym put) so
boxed_held held (Err why) (Ok box) so put = absurd put
boxed_held held found (Err why) so put = tt
