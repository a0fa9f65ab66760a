-- An instruction that stays is found where a jump to it goes.
use Rattle.std.proofs.Common.{◌≡◌, ℕ, zero, suc, ◌+◌, Bool, true, false, cond, List, [], ◌∷◌, Some, take, ap, ◌∙◌, arith}
use Rattle.std.specs.Prelude.{slice_get, filter, count_by}
use Rattle.std.specs.Option.{option_map}
use Rattle.std.proofs.lemmas.List.Sums.{sum_by-cons}
use Rattle.std.proofs.lemmas.Option.{slice_get-map}
use Rattle.pcode_assembler.specs.declared.code.Site.{Site}
use Rattle.pcode_assembler.specs.declared.instr.Instr.{Instr}
use Rattle.check_remover.specs.Strip.{is_among, stays, moved, moved_place, strip, KeepsInstructions}

-- one more instruction before it
shifted : (b : Bool) (x : Instr) (rest : List Instr) (n : ℕ) (i : Instr) → slice_get rest n ≡ Some i
    → slice_get (cond b (x ∷ rest) rest) (cond b 1 0 + n) ≡ Some i
shifted true x rest n i h =
    let e : 1 + n ≡ suc n = omega arith in
    ap (λ m. slice_get (x ∷ rest) m) e ∙ h
shifted false x rest n i h =
    let e : 0 + n ≡ n = omega arith in
    ap (λ m. slice_get rest m) e ∙ h

-- as many pass before it as stand before it in the filtered list
slice_get-filter : (p : Instr → Bool) (code : List Instr) (place : ℕ) (i : Instr) → slice_get code place ≡ Some i → p i ≡ true
    → slice_get (filter p code) (count_by p (take place code)) ≡ Some i
slice_get-filter p [] place i e h = cc
slice_get-filter p (x ∷ code) zero i e h =
    let same : x ≡ i = cc in
    rw (ap p same ∙ h) e
slice_get-filter p (x ∷ code) (suc place) i e h =
    ap (λ n. slice_get (filter p (x ∷ code)) n) (sum_by-cons (λ y. cond (p y) 1 0) x (take place code))
    ∙ shifted (p x) x (filter p code) (count_by p (take place code)) i (slice_get-filter p code place i e h)

pub strip-keeps : (open_sites : List Site) (code : List Instr) → KeepsInstructions open_sites code (strip open_sites code)
strip-keeps open_sites code place i e h =
    let is_open = is_among open_sites in
    slice_get-map (moved (moved_place is_open code)) (filter (stays is_open) code) (moved_place is_open code place)
    ∙ ap (option_map (moved (moved_place is_open code))) (slice_get-filter (stays is_open) code place i e h)
