-- What goes on from a reply.
use Rattle.std.proofs.Common.{◌≡◌, refl}
use Rattle.meaning.specs.Effect.{State, Reply, Gives, Stops, and_then}

-- three actions one after another, however they are grouped
pub and_then-and_then : {A B C : Type 0} (r : Reply A) (f : A → State → Reply B) (g : B → State → Reply C) →
    and_then (and_then r f) g ≡ and_then r (λ a s. and_then (f a s) g)
and_then-and_then (Gives a s) f g = refl
and_then-and_then (Stops e s) f g = refl

-- the same action, and then actions that do the same
pub and_then-same : {A B : Type 0} (r : Reply A) (f g : A → State → Reply B) → ((a : A) (s : State) → f a s ≡ g a s) → and_then r f ≡ and_then r g
and_then-same (Gives a s) f g same = same a s
and_then-same (Stops e s) f g same = refl
