-- What the instructions of calls do to a store: the mark of a new frame, the jump to a routine, the beginning of its frame, and
-- the return.
use Rattle.code_generator.proofs.Words.{◌≡◌, ℕ, ◌+◌, ◌-◌, ◌<◌, ◌≤◌, List, [], ◌∷◌, ◌++◌, length, take, drop, replicate, Option, Some, None, Ok, Err, ap, ◌∙◌}
use Rattle.code_generator.proofs.Words.{arith, length-append, if◌then◌else◌, pos, slice_get, w32, lt-ltb, Cell, Undefined, Number, Attempt}
use Rattle.std.specs.Int.{cast_signed}
use Rattle.std.proofs.Math.Nat.{mod-eq_of_lt}
use Rattle.std.proofs.lemmas.Bool.{le-leb, lt-leb}
use Rattle.std.proofs.lemmas.Int.{to_z_pos}
use Rattle.stack_machine.specs.declared.stop.MachineFault.TheVariants.{OutOfBounds}
use Rattle.stack_machine.specs.declared.store.calls.Caller.{Caller}
use Rattle.stack_machine.specs.Calls.{back_in, begun_at, called, caller, index_number, left, link_below, links, marked, not_outside}
use Rattle.stack_machine.specs.Frames.{◌>>=◌, base, entered, unless_fault}
use Rattle.code_generator.proofs.Acts.{framed, has_some}
use Rattle.code_generator.proofs.Lists.{set_third}

-- an index of an instruction is a number of 32 bits
pub index_is : (place : ℕ) → place ≤ 1000000 → index_number place ≡ pos place
index_is place few =
    ap (cast_signed w32) (mod-eq_of_lt (omega (arith, few)))
    ∙ to_z_pos w32 place (omega (arith, few))

module _ (frame limit size : ℕ) where
  -- the links of a new frame
  pub marks : (cells : List Cell) (level outer : ℕ) → length cells + 4 ≤ limit → base level frame cells ≡ Ok outer
      → marked level (framed frame limit size cells)
      ≡ Ok (framed frame limit size (cells ++ (Number (pos outer) ∷ Number (pos frame) ∷ Undefined ∷ Number (pos limit) ∷ [])))
  marks cells level outer room leads =
      let s = framed frame limit size cells in
      let long : length cells - 0 + 3 < limit = omega arith in
      ap (λ b. unless_fault b OutOfBounds >>= λ _. base level frame cells >>= λ o. Ok (record s { cells = cells ++ links o s }))
      (lt-ltb (length cells - 0 + 3) limit long)
      ∙ ap (λ r. r >>= λ o. Ok (record s { cells = cells ++ links o s })) leads

  -- the jump to a routine: a frame begins at the links below what was passed
  pub begins_frame : (front behind : List Cell) (a b c d : Cell) (count target next : ℕ) → length behind ≡ count → frame + 4 ≤ length front
      → called count target next (framed frame limit size (front ++ (a ∷ b ∷ c ∷ d ∷ behind)))
      ≡ Ok (framed (length front) limit size (front ++ (a ∷ b ∷ Number (index_number next) ∷ d ∷ behind)), target)
  begins_frame front behind a b c d count target next many linked =
      let cells = front ++ (a ∷ b ∷ c ∷ d ∷ behind) in
      let s = framed frame limit size cells in
      let long : length cells ≡ length front + (4 + length behind) = length-append front (a ∷ b ∷ c ∷ d ∷ behind) ∙ omega arith in
      let at : length cells - (count + 4) ≡ length front = omega (arith, long, many) in
      ap (λ r. r >>= λ _. Ok (begun_at (length cells - (count + 4)) next s, target))
      (has_some frame limit size (count + 4) cells (omega (arith, long, many, linked)))
      ∙ ap (λ f. Ok (begun_at f next s, target)) at
      ∙ ap (λ cs. Ok (framed (length front) limit size cs, target)) (set_third front a b c (Number (index_number next)) (d ∷ behind))

  -- room for a block's variables and its evaluations, or a full store
  pub enters : (cells : List Cell) (variables evaluation : ℕ) → length cells + variables + evaluation ≤ size
      → entered variables evaluation (framed frame limit size cells)
      ≡ Some (framed frame (length cells + variables + evaluation) size (cells ++ replicate variables Undefined))
  enters cells variables evaluation fits =
      ap (λ b. if b then Some (framed frame (length cells + variables + evaluation) size (cells ++ replicate variables Undefined)) else None)
      (le-leb (length cells + variables + evaluation) size fits)

  pub full : (cells : List Cell) (variables evaluation : ℕ) → size < length cells + variables + evaluation
      → entered variables evaluation (framed frame limit size cells) ≡ None
  full cells variables evaluation large =
      ap (λ b. if b then Some (framed frame (length cells + variables + evaluation) size (cells ++ replicate variables Undefined)) else None)
      (lt-leb (length cells + variables + evaluation) size large)

  -- the caller by the links of the frame
  module _ (cells : List Cell) (back place before count : ℕ) (first : slice_get cells (frame + 1) ≡ Some (Number (pos back)))
      (second : slice_get cells (frame + 2) ≡ Some (Number (pos place))) (third : slice_get cells (frame + 3) ≡ Some (Number (pos before)))
      (below : back < frame - 3) (inside : place < count) (limited : before < size + 1) where
    abbrev found : Caller
    found = record { frame = back; place = place; limit = before }

    abbrev caller_of : Option Cell → Option Cell → Option Cell → Attempt Caller
    caller_of o p q =
        not_outside (frame - 3) o >>= λ _. not_outside count p >>= λ _. not_outside (size + 1) q >>= λ _. link_below (frame - 3) o >>= λ f.
        link_below count p >>= λ i. link_below (size + 1) q >>= λ l. Ok (record { frame = f; place = i; limit = l })

    pub caller_is : caller count size frame cells ≡ Ok found
    caller_is =
        ap (λ o. caller_of o (slice_get cells (frame + 2)) (slice_get cells (frame + 3))) first
        ∙ ap (λ o. caller_of (Some (Number (pos back))) o (slice_get cells (frame + 3))) second
        ∙ ap (λ o. caller_of (Some (Number (pos back))) (Some (Number (pos place))) o) third
        ∙ ap (λ b. ((if b then Ok back else Err OutOfBounds) >>= λ _. Ok tt) >>= λ _. not_outside count (Some (Number (pos place))) >>= λ _.
        not_outside (size + 1) (Some (Number (pos before))) >>= λ _. (if b then Ok back else Err OutOfBounds) >>= λ f.
        link_below count (Some (Number (pos place))) >>= λ i. link_below (size + 1) (Some (Number (pos before))) >>= λ l.
        Ok (record { frame = f; place = i; limit = l })) (lt-ltb back (frame - 3) below)
        ∙ ap (λ b. ((if b then Ok place else Err OutOfBounds) >>= λ _. Ok tt) >>= λ _. not_outside (size + 1) (Some (Number (pos before))) >>= λ _.
        (if b then Ok place else Err OutOfBounds) >>= λ i. link_below (size + 1) (Some (Number (pos before))) >>= λ l.
        Ok (record { frame = back; place = i; limit = l })) (lt-ltb place count inside)
        ∙ ap (λ b. ((if b then Ok before else Err OutOfBounds) >>= λ _. Ok tt) >>= λ _. (if b then Ok before else Err OutOfBounds) >>= λ l.
        Ok (record { frame = back; place = place; limit = l })) (lt-ltb before (size + 1) limited)

    -- the return: so many of the topmost cells are taken along
    pub leaves : (results : ℕ) → frame + 4 + results ≤ length cells
        → left results count (framed frame limit size cells)
        ≡ Ok (framed back before size (take frame cells ++ drop (length cells - results) cells), place)
    leaves results high =
        let s = framed frame limit size cells in
        ap (λ r. r >>= λ _. caller count size frame cells >>= λ c. Ok (back_in c results s, c.place)) (has_some frame limit size results cells high)
        ∙ ap (λ r. r >>= λ (c : Caller). Ok (back_in c results s, c.place)) caller_is
