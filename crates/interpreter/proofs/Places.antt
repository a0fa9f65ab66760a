-- Places as the interpreter keeps them, in order, and as the store has them.
use Rattle.std.proofs.Common.{◌≡◌, ℕ, Bool, true, false, ◌&&◌, nat_eq, List, [], ◌∷◌, Option, if◌then◌else◌, ◌<◌, arith, refl, sym, ap, ap₂, ◌∙◌}
use Rattle.std.specs.declared.cmp.Ordering.{Ordering}
use Rattle.std.specs.declared.cmp.Ordering.TheVariants.{Less, Equal, Greater}
use Rattle.std.specs.Ordering.{is_eq, nat_cmp, ordering_then}
use Rattle.std.proofs.lemmas.Cmp.{by_ranked, ranked}
use Rattle.std.proofs.lemmas.Int.{ints}
use Rattle.std.specs.Cmp.Lexicographic.{slice_cmp, pointwise}
use Rattle.types.specs.declared.form.Step.{Step}
use Rattle.types.specs.declared.form.Step.TheVariants.{Element, Field}
use Rattle.interpreter_state.specs.declared.store.Place.{Place as KeptPlace}
use Rattle.types.specs.contracts.form.StepOrd.TheImpl.{ghosts as steps_in_order}
use Rattle.interpreter_state.specs.contracts.store.PlaceOrd.TheImpl.{ghosts as places}
use Rattle.meaning.specs.Store.{Store, step_eq, place_eq, stored}
use Rattle.std.specs.BTreeMap.{BTreeMap, get, is_at}
use Rattle.std.proofs.Math.Bool.{cond}
use Rattle.meaning.specs.declared.value.Value.{Value}
use Rattle.interpreter_state.specs.Views.{place_seen}
use Rattle.interpreter.specs.Pending.{StoreAgrees}

both_equal : (first second : Ordering) → is_eq (ordering_then first second) ≡ (is_eq first && is_eq second)
both_equal Less second = refl
both_equal Equal second = refl
both_equal Greater second = refl

same_number : (a b : ℕ) → is_eq (nat_cmp a b) ≡ nat_eq a b
same_number a b =
    by_ranked (a < b) (a ≡ b) (b < a) (nat_cmp a b) (ranked a b (nat_cmp a b) refl)
    (λ is less. let no : nat_eq a b ≡ false = grind (arith, ints) in ap is_eq is ∙ sym no)
    (λ is same. let yes : nat_eq a b ≡ true = grind (arith, ints) in ap is_eq is ∙ sym yes)
    (λ is greater. let no : nat_eq a b ≡ false = grind (arith, ints) in ap is_eq is ∙ sym no)

same_step : (a b : Step) → is_eq (steps_in_order.cmp a b) ≡ step_eq a b
same_step (Element i) (Element j) = refl
same_step (Element i) (Field b) = refl
same_step (Field a) (Element j) = refl
same_step (Field a) (Field b) = same_number a b

same_steps : (first second : List Step) → is_eq (slice_cmp (λ a b. steps_in_order.cmp a b) first second) ≡ pointwise step_eq first second
same_steps [] [] = refl
same_steps [] (b ∷ second) = refl
same_steps (a ∷ first) [] = refl
same_steps (a ∷ first) (b ∷ second) =
    both_equal (steps_in_order.cmp a b) (slice_cmp (λ a b. steps_in_order.cmp a b) first second)
    ∙ ap₂ (λ one other. one && other) (same_step a b) (same_steps first second)

pub same_place : (k p : KeptPlace) → is_eq (places.cmp k p) ≡ place_eq (place_seen k) (place_seen p)
same_place k p =
    both_equal (nat_cmp k.activation p.activation) _
    ∙ ap₂ (λ one other. one && other) (same_number k.activation p.activation)
    (both_equal (nat_cmp k.variable p.variable) _
    ∙ ap₂ (λ one other. one && other) (same_number k.variable p.variable) (same_steps k.steps.items p.steps.items))

chosen_same : (here there : Bool) (o old new : Option Value) → here ≡ there → old ≡ new →
    cond here o old ≡ (if there then o else new)
chosen_same true true o old new is same = refl
chosen_same true false o old new is same = let never : ⊥ = cc in absurd never
chosen_same false true o old new is same = let never : ⊥ = cc in absurd never
chosen_same false false o old new is same = same

-- what was put at a place, or taken from it, is so in the store too
pub agrees_behind : (old new : BTreeMap KeptPlace Value) (k : KeptPlace) (o : Option Value) (s : Store) →
    ((p : KeptPlace) → get places.cmp new p ≡ cond (is_at (places.cmp k) p) o (get places.cmp old p)) → StoreAgrees old s →
    StoreAgrees new ((place_seen k, o) ∷ s)
agrees_behind old new k o s updated agrees p =
    updated p
    ∙ chosen_same (is_at (places.cmp k) p) (place_eq (place_seen k) (place_seen p)) o (get places.cmp old p) (stored s (place_seen p)) (same_place k p)
    (agrees p)
