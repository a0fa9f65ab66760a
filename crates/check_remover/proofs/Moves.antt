-- The new places of a list are those of the definition.
use Rattle.std.proofs.Common.{◌≡◌, ℕ, ◌+◌, ◌-◌, ◌<◌, ◌≤◌, Bool, true, false, cond, List, [], ◌∷◌, ◌++◌, length, take, get_or, min, ap, sym, ◌∙◌, ⊎_elim}
use Rattle.std.proofs.Common.{length-append, arith, slice_index}
use Rattle.std.specs.Prelude.{count_by, map, filter}
use Rattle.std.proofs.Math.Path.{fun_ext}
use Rattle.std.proofs.lemmas.Bool.{cases_lt}
use Rattle.std.proofs.Math.ListN.{get_or-append}
use Rattle.std.proofs.lemmas.List.{get_or_push, take_min, length-take, map-append, append-nil}
use Rattle.std.proofs.lemmas.List.Elements.{filter_more}
use Rattle.std.proofs.lemmas.List.Sums.{count_by-le-length}
use Rattle.pcode_assembler.specs.declared.instr.Instr.{Instr}
use Rattle.check_remover.specs.Strip.{stays, moved_place, moved, strip_by}
use Rattle.check_remover.specs.Places.{IsPlaces, new_place}

-- a place past the end goes where the end goes
moved_place-min : (is_open : ℕ → Bool) (code : List Instr) (place : ℕ) → moved_place is_open code (min (length code) place) ≡ moved_place is_open code place
moved_place-min is_open code place =
    let flip : min (length code) place ≡ min place (length code) = omega arith in
    ap (λ n. count_by (stays is_open) (take n code)) flip ∙ ap (count_by (stays is_open)) (take_min place code)

-- a list of new places gives each place its new one
pub new_place-moved : (is_open : ℕ → Bool) (code : List Instr) (places : List ℕ) → IsPlaces (moved_place is_open code) (length code) places → (place : ℕ)
    → new_place places place ≡ moved_place is_open code place
new_place-moved is_open code places h place =
    let last : length places - 1 ≡ length code = omega (arith, h.count) in
    let within : min (length code) place ≤ length code = omega arith in
    ap (λ n. slice_index places (min n place)) last ∙ h.each (min (length code) place) within ∙ moved_place-min is_open code place

-- no place moves up
pub moved_place-le : (is_open : ℕ → Bool) (code : List Instr) (place : ℕ) → moved_place is_open code place ≤ place
moved_place-le is_open code place =
    let a = count_by-le-length (stays is_open) (take place code) in
    let b = length-take place code in
    omega arith

pub new_place-le : (is_open : ℕ → Bool) (code : List Instr) (places : List ℕ) → IsPlaces (moved_place is_open code) (length code) places → (place : ℕ)
    → new_place places place ≤ place
new_place-le is_open code places h place = rw (new_place-moved is_open code places h place) (moved_place-le is_open code place)

-- new places of the first places, and of one more
pub one_place_more : (to : ℕ → ℕ) (places more : List ℕ) (kept n : ℕ) → more ≡ places ++ kept ∷ [] → length places ≡ n
    → ((place : ℕ) → place < n → slice_index places place ≡ to place) → kept ≡ to n → (place : ℕ) → place < n + 1 → slice_index more place ≡ to place
one_place_more to places more kept n next long each last place within =
    ap (λ l. slice_index l place) next
    ∙ ⊎_elim
    (λ (less : place < n). get_or-append places (kept ∷ []) 0 place (omega arith) ∙ each place less)
    (λ (least : n ≤ place).
    let same : n ≡ place = omega arith in
    get_or_push places kept 0 place (long ∙ same) ∙ last ∙ ap to same)
    (cases_lt place n)

-- and their number
pub one_longer : (places more : List ℕ) (kept n : ℕ) → more ≡ places ++ kept ∷ [] → length places ≡ n → length more ≡ n + 1
one_longer places more kept n next long = ap length next ∙ length-append places (kept ∷ []) ∙ ap (λ m. m + 1) long

-- what is kept by a list of new places is the stripped code
pub kept-strip_by : (is_open : ℕ → Bool) (code rest : List Instr) (places : List ℕ) → IsPlaces (moved_place is_open code) (length code) places
    → rest ≡ map (moved (new_place places)) (filter (stays is_open) code) → rest ≡ strip_by is_open code
kept-strip_by is_open code rest places h e =
    let to : new_place places ≡ moved_place is_open code = fun_ext (new_place-moved is_open code places h) in
    e ∙ ap (λ f. map (moved f) (filter (stays is_open) code)) to

-- one instruction more is kept
pub kept_more : (test : Instr → Bool) (to : Instr → Instr) (code before after : List Instr) (i : ℕ) (d : Instr) → i < length code
    → before ≡ map to (filter test (take i code)) → test (get_or code i d) ≡ true → after ≡ before ++ to (get_or code i d) ∷ []
    → after ≡ map to (filter test (take (i + 1) code))
kept_more test to code before after i d within so_far stays more =
    let front = filter test (take i code) in
    let x = get_or code i d in
    more ∙ ap (λ l. l ++ to x ∷ []) so_far ∙ sym (map-append to front (x ∷ []))
    ∙ ap (λ b. map to (front ++ cond b (x ∷ []) [])) (sym stays) ∙ ap (map to) (sym (filter_more test code i d within))

-- one instruction more is left out
pub left_out : (test : Instr → Bool) (to : Instr → Instr) (code before after : List Instr) (i : ℕ) (d : Instr) → i < length code
    → before ≡ map to (filter test (take i code)) → test (get_or code i d) ≡ false → after ≡ before → after ≡ map to (filter test (take (i + 1) code))
left_out test to code before after i d within so_far goes same =
    let front = filter test (take i code) in
    let x = get_or code i d in
    same ∙ so_far ∙ sym (ap (map to) (append-nil front))
    ∙ ap (λ b. map to (front ++ cond b (x ∷ []) [])) (sym goes) ∙ ap (map to) (sym (filter_more test code i d within))
