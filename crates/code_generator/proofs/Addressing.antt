-- What the instructions for addresses do to a store on top of which they are known: the address of a variable, of an
-- element and of a field, the cell at an address, and the row of cells from one on.
use Rattle.code_generator.proofs.Words.{◌≡◌, ℕ, zero, suc, ◌+◌, ◌-◌, ◌*◌, ◌<◌, ◌≤◌, List, [], ◌∷◌, ◌++◌, length, take, drop, Some, None, Ok, sym, ap, ◌∙◌}
use Rattle.code_generator.proofs.Words.{arith, length-append, append_assoc, slice_get, slice_set, ℤ, pos, ◌-ℤ◌, w32, list_all, lt-ltb, drop-append_seam, Cell}
use Rattle.code_generator.proofs.Words.{Undefined, Number, Frames, Attempt}
use Rattle.std.specs.Int.{cast_signed, int_wrap, int_wrapping_add, int_wrapping_sub, int_wrapping_mul}
use Rattle.std.proofs.lemmas.Int.{int_wrap_fits, to_z_pos, wrapping_sub_is, wrapping_mul_is, int_wrap-mul_left, SFits-int_wrap}
use Rattle.stack_machine.specs.declared.stop.MachineFault.TheVariants.{OutOfBounds}
use Rattle.stack_machine.specs.Addresses.{further, element, row_place, has_room_for, with_row, load_address, load_indirect, store_indirect, load_many}
use Rattle.stack_machine.specs.Addresses.{store_many}
use Rattle.stack_machine.specs.Frames.{◌>>=◌, unless_fault, has, has_room_after, number, number_at, base, address_of, in_use, cell_at, popped, pushed}
use Rattle.stack_machine.specs.Frames.{is_defined, top_is_defined, on_one, on_two}
use Rattle.stack_machine.specs.Rows.{row}
use Rattle.code_generator.proofs.Acts.{framed, has_some, has_room, in_use_is, top_at, one_popped, has_one, on_one_is, on_two_is, left_at, has_two, two_popped}
use Rattle.code_generator.proofs.Acts.{right_at}
use Rattle.code_generator.proofs.Rows.{popped_is, top_row_is}
use Rattle.code_generator.proofs.Numbers.{Fits, fits_by_abs, sum_is, fits_signed}
use Rattle.code_generator.proofs.Lists.{slice_get_seam, slice_get-front, length_one}

-- an address is a number of type integer
pub address_fits : (n : ℕ) → n ≤ 2147483647 → Fits (pos n)
address_fits n h = fits_by_abs (pos n) h

pub further_is : (offset address : ℕ) → address + offset ≤ 2147483647 → further offset (pos address) ≡ pos (address + offset)
further_is offset address h =
    ap (int_wrapping_add w32 (pos address)) (to_z_pos w32 offset (omega arith))
    ∙ sum_is (pos address) (pos offset) (address_fits address (omega arith)) (address_fits offset (omega arith)) (address_fits (address + offset) h)

-- the address of an element, so many behind the first
pub element_is : (low index : ℤ) (size address n : ℕ) → Fits low → Fits index → pos n ≡ index -ℤ low → size ≤ 65536 → address + n * size ≤ 2147483647
    → element low size (pos address) index ≡ pos (address + n * size)
element_is low index size address n fit fit' counts small h =
    let sized : cast_signed w32 size ≡ pos size = to_z_pos w32 size (omega arith) in
    let size_fits = fits_signed (pos size) (address_fits size (omega arith)) in
    let behind : int_wrapping_sub w32 index low ≡ int_wrap w32 (pos n) =
    wrapping_sub_is w32 index low (fits_signed index fit') (fits_signed low fit) ∙ ap (int_wrap w32) (sym counts) in
    let all : int_wrapping_mul w32 (int_wrapping_sub w32 index low) (cast_signed w32 size) ≡ pos (n * size) =
    ap (λ z. int_wrapping_mul w32 z (cast_signed w32 size)) behind ∙ ap (int_wrapping_mul w32 (int_wrap w32 (pos n))) sized
    ∙ wrapping_mul_is w32 (int_wrap w32 (pos n)) (pos size) (SFits-int_wrap w32 (pos n)) size_fits
    ∙ int_wrap-mul_left w32 (pos n) (pos size) ∙ int_wrap_fits w32 (pos (n * size)) (fits_signed (pos (n * size)) (address_fits (n * size) (omega arith))) in
    ap (int_wrapping_add w32 (pos address)) all
    ∙ sum_is (pos address) (pos (n * size)) (address_fits address (omega arith)) (address_fits (n * size) (omega arith)) (address_fits (address + n * size) h)

cell_there : (cells : List Cell) (address : ℕ) (cell : Cell) (frame limit size : ℕ) → slice_get cells address ≡ Some cell
    → cell_at address (framed frame limit size cells) ≡ cell
cell_there cells address cell frame limit size e = ap (λ o. elim o as (λ _. Cell) [ Some there ↦ there | None ↦ Undefined ]) e

module _ (frame limit size : ℕ) where
  -- the address of a variable, whose frame so many static links lead to
  pub loads_address : (cells : List Cell) (level offset owner : ℕ) → length cells < limit → base level frame cells ≡ Ok owner → owner + offset ≤ 2147483647
      → load_address level offset (framed frame limit size cells) ≡ Ok (framed frame limit size (cells ++ Number (pos (owner + offset)) ∷ []))
  loads_address cells level offset owner room leads h =
      let s = framed frame limit size cells in
      ap (λ r. r >>= λ _. base level frame cells >>= λ f. Ok (pushed (Number (further offset (pos f))) s)) (has_room frame limit size 0 cells (omega arith))
      ∙ ap (λ r. r >>= λ f. Ok (pushed (Number (further offset (pos f))) s)) leads
      ∙ ap (λ n. Ok (framed frame limit size (cells ++ Number n ∷ []))) (further_is offset owner h)

  module _ (below : List Cell) (linked : frame + 4 ≤ length below) where
    -- an address gives way to one that is so many cells further
    pub increases : (offset address : ℕ) → length below < limit → address + offset ≤ 2147483647
        → on_one (further offset) (framed frame limit size (below ++ Number (pos address) ∷ [])) ≡ Ok
        (framed frame limit size (below ++ Number (pos (address + offset)) ∷ []))
    increases offset address room h =
        on_one_is frame limit size below linked (further offset) (pos address) room
        ∙ ap (λ n. Ok (framed frame limit size (below ++ Number n ∷ []))) (further_is offset address h)

    -- an address and an index give way to the address of an element
    pub indexes : (low index : ℤ) (cells address n : ℕ) → length below < limit → Fits low → Fits index → pos n ≡ index -ℤ low → cells ≤ 65536
        → address + n * cells ≤ 2147483647
        → on_two (element low cells) (framed frame limit size ((below ++ Number (pos address) ∷ []) ++ Number index ∷ [])) ≡ Ok
        (framed frame limit size (below ++ Number (pos (address + n * cells)) ∷ []))
    indexes low index cells address n room fit fit' counts small h =
        on_two_is frame limit size below linked (pos address) index (element low cells) room
        ∙ ap (λ a. Ok (framed frame limit size (below ++ Number a ∷ []))) (element_is low index cells address n fit fit' counts small h)

    -- an address gives way to the cell there
    pub loads_indirect : (address : ℕ) (cell : Cell) → length below < limit → address ≤ 2147483647 → address < length below
        → slice_get below address ≡ Some cell
        → load_indirect 0 (framed frame limit size (below ++ Number (pos address) ∷ [])) ≡ Ok (framed frame limit size (below ++ cell ∷ []))
    loads_indirect address cell room small h e =
        let cells = below ++ Number (pos address) ∷ [] in
        let s = framed frame limit size cells in
        let here : address + 0 ≡ address = omega arith in
        ap (λ r. r >>= λ _. has_room_after 1 s >>= λ _. number_at 1 s >>= λ a. address_of (further 0 a) (length (popped 1 s).cells) >>= λ place. Ok
        (pushed (cell_at place s) (popped 1 s))) (has_one frame limit size below linked (Number (pos address)))
        ∙ ap (λ r. r >>= λ _. number_at 1 s >>= λ a. address_of (further 0 a) (length (popped 1 s).cells) >>= λ place. Ok
        (pushed (cell_at place s) (popped 1 s))) (has_room frame limit size 1 cells (omega (arith, length_one below (Number (pos address)))))
        ∙ ap (λ o. number o >>= λ a. address_of (further 0 a) (length (popped 1 s).cells) >>= λ place. Ok (pushed (cell_at place s) (popped 1 s)))
        (top_at frame limit size below linked (Number (pos address)))
        ∙ ap (λ a. address_of a (length (popped 1 s).cells) >>= λ place. Ok (pushed (cell_at place s) (popped 1 s)))
        (further_is 0 address (omega arith) ∙ ap pos here)
        ∙ ap (λ cs. in_use address (length cs) >>= λ place. Ok (framed frame limit size (cs ++ cell_at place s ∷ [])))
        (one_popped frame limit size below linked (Number (pos address)))
        ∙ ap (λ r. r >>= λ place. Ok (framed frame limit size (below ++ cell_at place s ∷ []))) (in_use_is frame limit size address (length below) h)
        ∙ ap (λ c. Ok (framed frame limit size (below ++ c ∷ [])))
        (cell_there cells address cell frame limit size (slice_get-front below (Number (pos address) ∷ []) address cell e))

    -- a cell and the address below it are popped, and the cell is stored there
    pub stores_indirect : (address : ℕ) (cell : Cell) → address < length below
        → store_indirect (framed frame limit size ((below ++ Number (pos address) ∷ []) ++ cell ∷ [])) ≡ Ok
        (framed frame limit size (slice_set below address cell))
    stores_indirect address cell h =
        let s = framed frame limit size ((below ++ Number (pos address) ∷ []) ++ cell ∷ []) in
        ap (λ r. r >>= λ _. number_at 2 s >>= λ a. address_of a (length (popped 2 s).cells) >>= λ place. Ok
        (record (popped 2 s) { cells = slice_set (popped 2 s).cells place (cell_at (length s.cells - 1) s) }))
        (has_two frame limit size below linked (Number (pos address)) cell)
        ∙ ap (λ o. number o >>= λ a. address_of a (length (popped 2 s).cells) >>= λ place. Ok
        (record (popped 2 s) { cells = slice_set (popped 2 s).cells place (cell_at (length s.cells - 1) s) })) (left_at frame limit size below linked
        (Number (pos address)) cell)
        ∙ ap (λ cs. in_use address (length cs) >>= λ place. Ok (framed frame limit size (slice_set cs place (cell_at (length s.cells - 1) s))))
        (two_popped frame limit size below linked (Number (pos address)) cell)
        ∙ ap (λ r. r >>= λ place. Ok (framed frame limit size (slice_set below place (cell_at (length s.cells - 1) s))))
        (in_use_is frame limit size address (length below) h)
        ∙ ap (λ c. Ok (framed frame limit size (slice_set below address c)))
        (cell_there s.cells (length s.cells - 1) cell frame limit size (right_at frame limit size below linked (Number (pos address)) cell))

    -- ---- rows

    -- so many cells from an address on
    pub row_place_is : (address more : ℕ) → address + suc more ≤ length below → row_place (pos address) (suc more) (length below) ≡ Ok address
    row_place_is address more h =
        ap (λ r. r >>= λ place. in_use (place + more) (length below) >>= λ _. Ok place) (in_use_is frame limit size address (length below) (omega arith))
        ∙ ap (λ r. r >>= λ _. Ok address) (in_use_is frame limit size (address + more) (length below) (omega arith))

    -- an address gives way to the row of cells there
    pub loads_many : (count address : ℕ) → length below + count ≤ limit → address + count ≤ length below
        → load_many count (framed frame limit size (below ++ Number (pos address) ∷ [])) ≡ Ok
        (framed frame limit size (below ++ take count (drop address below)))
    loads_many zero address room h =
        let s = framed frame limit size (below ++ Number (pos address) ∷ []) in
        ap (λ r. r >>= λ _. number_at 1 s >>= λ a. Ok (record (popped 1 s) { cells = (popped 1 s).cells ++ [] }))
        (has_one frame limit size below linked (Number (pos address)))
        ∙ ap (λ o. number o >>= λ a. Ok (record (popped 1 s) { cells = (popped 1 s).cells ++ [] })) (top_at frame limit size below linked (Number
        (pos address)))
        ∙ ap (λ cs. Ok (framed frame limit size (cs ++ []))) (one_popped frame limit size below linked (Number (pos address)))
    loads_many (suc more) address room h =
        let cells = below ++ Number (pos address) ∷ [] in
        let s = framed frame limit size cells in
        let long = length_one below (Number (pos address)) in
        let fits = lt-ltb (length cells - 1 + more) limit (omega arith) in
        ap (λ r. r >>= λ _. has_room_for (suc more) 1 s >>= λ _. number_at 1 s >>= λ a. row_place a (suc more) (length (popped 1 s).cells) >>= λ place. Ok
        (record (popped 1 s) { cells = (popped 1 s).cells ++ take (suc more) (drop place (popped 1 s).cells) }))
        (has_one frame limit size below linked (Number (pos address)))
        ∙ ap (λ b. unless_fault b OutOfBounds >>= λ _. number_at 1 s >>= λ a. row_place a (suc more) (length (popped 1 s).cells) >>= λ place. Ok
        (record (popped 1 s) { cells = (popped 1 s).cells ++ take (suc more) (drop place (popped 1 s).cells) })) fits
        ∙ ap (λ o. number o >>= λ a. row_place a (suc more) (length (popped 1 s).cells) >>= λ place. Ok
        (record (popped 1 s) { cells = (popped 1 s).cells ++ take (suc more) (drop place (popped 1 s).cells) }))
        (top_at frame limit size below linked (Number (pos address)))
        ∙ ap (λ cs. row_place (pos address) (suc more) (length cs) >>= λ place. Ok (framed frame limit size (cs ++ take (suc more) (drop place cs))))
        (one_popped frame limit size below linked (Number (pos address)))
        ∙ ap (λ r. r >>= λ place. Ok (framed frame limit size (below ++ take (suc more) (drop place below)))) (row_place_is address more h)

    -- whether all the cells of a row are defined
    pub all_defined : (row : List Cell) (n : ℕ) → length row ≡ n → top_is_defined n (framed frame limit size (below ++ row)) ≡ Ok (list_all is_defined row)
    all_defined row n e =
        let cells = below ++ row in
        let long = length-append below row in
        let start : length cells - n ≡ length below = omega arith in
        ap (λ r. r >>= λ _. Ok (list_all is_defined (drop (length cells - n) cells))) (has_some frame limit size n cells (omega arith))
        ∙ ap (λ m. Ok (list_all is_defined (drop m cells))) start ∙ ap (λ cs. Ok (list_all is_defined cs)) (drop-append_seam below row)

    -- a row and the address below it are popped, and the row is stored from a place on
    module _ (new : List Cell) (n address : ℕ) (long : length new ≡ n) where
      abbrev above : List Cell
      above = (below ++ Number (pos address) ∷ []) ++ new

      address_at : slice_get above (length above - (n + 1)) ≡ Some (Number (pos address))
      address_at =
          let all = length-append (below ++ Number (pos address) ∷ []) new in
          let one = length_one below (Number (pos address)) in
          let e : length above - (n + 1) ≡ length below = omega arith in
          ap (slice_get above) e ∙ ap (λ cs. slice_get cs (length below)) (append_assoc below (Number (pos address) ∷ []) new)
          ∙ slice_get_seam below (Number (pos address)) new

      has_all : has (n + 1) (framed frame limit size above) ≡ Ok tt
      has_all =
          has_some frame limit size (n + 1) above (omega (
            arith,
            length-append (below ++ Number (pos address) ∷ []) new,
            length_one below (Number
                (pos address)),
          ))

      abbrev then_stored : ℤ → Attempt Frames
      then_stored a =
          row_place a n (length (popped (n + 1) (framed frame limit size above)).cells) >>= λ place. Ok
          (with_row place (row n n (framed frame limit size above)) (popped (n + 1) (framed frame limit size above)))

      pub stores_at : (place : ℕ) → row_place (pos address) n (length below) ≡ Ok place
          → store_many n (framed frame limit size above) ≡ Ok (framed frame limit size (take place below ++ new ++ drop (place + length new) below))
      stores_at place at =
          let s = framed frame limit size above in
          ap (λ r. r >>= λ _. number_at (n + 1) s >>= then_stored) has_all ∙ ap (λ o. number o >>= then_stored) address_at
          ∙ ap (λ cs. row_place (pos address) n (length cs) >>= λ place. Ok (with_row place (row n n s) (framed frame limit size cs)))
          (popped_is frame limit size below (Number (pos address) ∷ []) new (n + 1) (omega arith))
          ∙ ap (λ r. r >>= λ place. Ok (with_row place (row n n s) (framed frame limit size below))) at
          ∙ ap (λ cs. Ok (with_row place cs (framed frame limit size below))) (top_row_is frame limit size (below ++ Number (pos address) ∷ []) new n long)
