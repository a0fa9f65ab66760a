-- Forms that are made one after another: the next one, or the first that is refused.
use Rattle.std.proofs.Common.{◌≡◌, ℕ, ◌+◌, ◌<◌, List, [], ◌∷◌, ◌++◌, length, map, get_or, Ok, sym, ap, subst, ◌∙◌, append-nil}
use Rattle.std.specs.Prelude.{flat_map}
use Rattle.std.proofs.lemmas.List.{length-map, get_or-map}
use Rattle.std.proofs.lemmas.Grind.{flat_map-append}
use Rattle.typed_tree.specs.declared.fault.TypeFault.{TypeFault}
use Rattle.typed_tree.specs.Look.{Look}
use Rattle.typing.specs.Passing.{Passed, Passing, after, each}
use Rattle.typing.specs.Outcomes.{IsFault}
use Rattle.typing.proofs.Rows.{IsLeftFrom, each_next, each_stops}

module _ {A B T : Type 0} (read : A → B) (step : B → Passing (Unit {0})) (look : T → Look) (written : List A) (old : Passed)
    (i : ℕ) (next : A) (made : List T) (now : Passed) (within : i < length written) (is : next ≡ get_or written i next)
    (left : IsLeftFrom step (map read written) old i (flat_map look made) now) where
  within_all : i < length (map read written)
  within_all = subst (λ n. i < n) (sym (length-map written read)) within

  is_read : read next ≡ get_or (map read written) i (read next)
  is_read = ap read is ∙ sym (get_or-map read written i next (read next) within)

  -- the next one is made
  pub row_goes_on : (one : T) (more : List T) (new : Passed) → more ≡ made ++ one ∷ [] → step (read next) now ≡ Ok (after tt (look one) new)
      → IsLeftFrom step (map read written) old (i + 1) (flat_map look more) new
  row_goes_on one more new grown passes =
      subst (λ done. IsLeftFrom step (map read written) old (i + 1) done new)
      (ap (λ l. flat_map look made ++ l) (sym (append-nil (look one))) ∙ sym (flat_map-append look made (one ∷ [])) ∙ sym (ap (flat_map look) grown))
      (each_next step (map read written) old i (read next) (flat_map look made) (look one) now new within_all is_read left passes)

  -- the next one is refused
  pub row_stops : (why : TypeFault) → IsFault (step (read next) now) why → IsFault (each step (map read written) old) why
  row_stops why stops = each_stops step (map read written) old i (read next) (flat_map look made) now why within_all is_read left stops
