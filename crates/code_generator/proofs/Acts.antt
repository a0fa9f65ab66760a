-- What each instruction does to a store whose topmost cells are known, in a frame that begins anywhere.
use Rattle.code_generator.proofs.Words.{◌≡◌, ℕ, ◌+◌, ◌-◌, ◌<◌, ◌≤◌, List, [], ◌∷◌, ◌++◌, length, take, drop, Some, None, Ok, Err, ap, ◌∙◌, arith, append_assoc}
use Rattle.code_generator.proofs.Words.{Bool, true, slice_get, slice_set, ℤ, pos, ◌-ℤ◌, int_le, ◌&&◌, if◌then◌else◌, w32, list_all, lt-ltb, drop-append_seam}
use Rattle.code_generator.proofs.Words.{Cell, Undefined, Number, Frames, Attempt, is_true}
use Rattle.std.specs.Prelude.{◌+ℤ◌, ◌*ℤ◌}
use Rattle.std.specs.Int.{int_wrapping_div, int_rem_euclid}
use Rattle.std.proofs.lemmas.Bool.{le-leb}
use Rattle.std.proofs.Math.Seq.{take-append_seam}
use Rattle.stack_machine.specs.declared.stop.MachineFault.TheVariants.{Underflow, OutOfBounds, WrongDivisor}
use Rattle.text_input.specs.Input.{Reading}
use Rattle.stack_machine.specs.Deeds.{end_asked, jumped_if_false, pushes as pushes_read, read_with}
use Rattle.stack_machine.specs.Frames.{◌>>=◌, unless_fault, has, has_room_after, number, number_at, base, popped, pushed, in_use, variable, cell_at}
use Rattle.stack_machine.specs.Frames.{load_constant, load, store, two_numbers, on_one, operands, on_two, divide, modulo, top_two, is_integer, is_defined}
use Rattle.stack_machine.specs.Frames.{top_is_in_range, top_is_not_zero, top_is_defined, sum_is_integer, difference_is_integer, product_is_integer}
use Rattle.stack_machine.specs.Frames.{square_is_integer, truth}
use Rattle.code_generator.proofs.Lists.{slice_get_seam, length_two, length_one}

module _ (frame limit size : ℕ) where
  -- the store in this frame with these cells
  abbrev pub framed : List Cell → Frames
  framed cells = record { cells = cells; frame = frame; limit = limit; size = size }

  pub has_some : (count : ℕ) (cells : List Cell) → frame + 4 + count ≤ length cells → has count (framed cells) ≡ Ok tt
  has_some count cells h = ap (λ b. unless_fault b Underflow) (le-leb (frame + 4 + count) (length cells) h)

  pub has_room : (count : ℕ) (cells : List Cell) → length cells - count < limit → has_room_after count (framed cells) ≡ Ok tt
  has_room count cells h = ap (λ b. unless_fault b OutOfBounds) (lt-ltb (length cells - count) limit h)

  pub in_use_is : (address used : ℕ) → address < used → in_use address used ≡ Ok address
  in_use_is address used h = ap (λ b. if b then Ok address else Err OutOfBounds) (lt-ltb address used h)

  -- a push
  pub pushes : (cells : List Cell) (value : ℤ) → length cells < limit → load_constant value (framed cells) ≡ Ok (framed (cells ++ Number value ∷ []))
  pushes cells value h = ap (λ r. r >>= λ _. Ok (pushed (Number value) (framed cells))) (has_room 0 cells (omega arith))

  -- the push of what is read, or of whether nothing is left
  pub pushes_reading : {A : Type 0} (value : A → ℤ) (reading : List ℕ → Reading A) (cells : List Cell) → length cells < limit
      → pushes_read value reading (framed cells) ≡ Ok (λ input. read_with (λ a. framed (cells ++ Number (value a) ∷ [])) (reading input))
  pushes_reading value reading cells h =
      ap (λ r. r >>= λ _. Ok (λ input. read_with (λ a. pushed (Number (value a)) (framed cells)) (reading input))) (has_room 0 cells (omega arith))

  pub pushes_end : (cells : List Cell) → length cells < limit → end_asked (framed cells) ≡ Ok (λ b. framed (cells ++ Number (truth b) ∷ []))
  pushes_end cells h = ap (λ r. r >>= λ _. Ok (λ b. pushed (Number (truth b)) (framed cells))) (has_room 0 cells (omega arith))

  -- the value of a variable, whose frame so many static links lead to
  pub loads : (cells : List Cell) (level offset owner : ℕ) (cell : Cell) → length cells < limit → base level frame cells ≡ Ok owner
      → owner + offset < length cells → slice_get cells (owner + offset) ≡ Some cell → load level offset (framed cells) ≡ Ok (framed (cells ++ cell ∷ []))
  loads cells level offset owner cell room leads h e =
      ap (λ r. r >>= λ _. variable level offset (framed cells) >>= λ a. Ok (pushed (cell_at a (framed cells)) (framed cells))) (has_room 0 cells (omega arith))
      ∙ ap (λ r. (r >>= λ f. in_use (f + offset) (length cells)) >>= λ a. Ok (pushed (cell_at a (framed cells)) (framed cells))) leads
      ∙ ap (λ r. r >>= λ a. Ok (pushed (cell_at a (framed cells)) (framed cells))) (in_use_is (owner + offset) (length cells) h)
      ∙ ap (λ o. Ok (framed (cells ++ (elim o as (λ _. Cell) [ Some there ↦ there | None ↦ Undefined ]) ∷ []))) e

  module _ (below : List Cell) (linked : frame + 4 ≤ length below) where
    -- the topmost cell
    pub top_at : (cell : Cell) → slice_get (below ++ cell ∷ []) (length (below ++ cell ∷ []) - 1) ≡ Some cell
    top_at cell =
        let e : length (below ++ cell ∷ []) - 1 ≡ length below = omega (arith, length_one below cell) in
        ap (slice_get (below ++ cell ∷ [])) e ∙ slice_get_seam below cell []

    pub one_popped : (cell : Cell) → take (length (below ++ cell ∷ []) - 1) (below ++ cell ∷ []) ≡ below
    one_popped cell =
        let e : length (below ++ cell ∷ []) - 1 ≡ length below = omega (arith, length_one below cell) in
        ap (λ n. take n (below ++ cell ∷ [])) e ∙ take-append_seam below (cell ∷ [])

    pub has_one : (cell : Cell) → has 1 (framed (below ++ cell ∷ [])) ≡ Ok tt
    has_one cell = has_some 1 (below ++ cell ∷ []) (omega (arith, length_one below cell))

    pub defines : (cell : Cell) → top_is_defined 1 (framed (below ++ cell ∷ [])) ≡ Ok (list_all is_defined (cell ∷ []))
    defines cell =
        let cells = below ++ cell ∷ [] in
        let e : length cells - 1 ≡ length below = omega (arith, length_one below cell) in
        ap (λ r. r >>= λ _. Ok (list_all is_defined (drop (length cells - 1) cells))) (has_one cell)
        ∙ ap (λ n. Ok (list_all is_defined (drop n cells))) e
        ∙ ap (λ cs. Ok (list_all is_defined cs)) (drop-append_seam below (cell ∷ []))

    -- a number gives way to another
    pub on_one_is : (f : ℤ → ℤ) (n : ℤ) → length below < limit → on_one f (framed (below ++ Number n ∷ [])) ≡ Ok (framed (below ++ Number (f n) ∷ []))
    on_one_is f n room =
        let s = framed (below ++ Number n ∷ []) in
        ap (λ r. r >>= λ _. has_room_after 1 s >>= λ _. number_at 1 s >>= λ v. Ok (pushed (Number (f v)) (popped 1 s))) (has_one (Number n))
        ∙ ap (λ r. r >>= λ _. number_at 1 s >>= λ v. Ok (pushed (Number (f v)) (popped 1 s)))
        (has_room 1 (below ++ Number n ∷ []) (omega (arith, length_one below (Number n))))
        ∙ ap (λ o. number o >>= λ v. Ok (pushed (Number (f v)) (popped 1 s))) (top_at (Number n))
        ∙ ap (λ cs. Ok (framed (cs ++ Number (f n) ∷ []))) (one_popped (Number n))

    -- a test of the number at the top
    top_tests : (test : ℤ → Bool) (n : ℤ) → (has 1 (framed (below ++ Number n ∷ [])) >>= λ _. number_at 1 (framed (below ++ Number n ∷ [])) >>= λ v. Ok (test
        v)) ≡ Ok (test n)
    top_tests test n =
        let s = framed (below ++ Number n ∷ []) in
        ap (λ r. r >>= λ _. number_at 1 s >>= λ v. Ok (test v)) (has_one (Number n))
        ∙ ap (λ o. number o >>= λ v. Ok (test v)) (top_at (Number n))

    pub is_in_range : (low high n : ℤ) → top_is_in_range low high (framed (below ++ Number n ∷ [])) ≡ Ok (int_le low n && int_le n high)
    is_in_range low high n = top_tests (λ v. int_le low v && int_le v high) n

    pub is_not_zero : (n : ℤ) → top_is_not_zero (framed (below ++ Number n ∷ [])) ≡ Ok (is_true n)
    is_not_zero n = top_tests is_true n

    -- what a conditional jump makes of it
    pub branches : (target : ℕ) (n : ℤ) → jumped_if_false target (framed (below ++ Number n ∷ [])) ≡ Ok
        (framed below, if is_true n then None else Some target)
    branches target n =
        let s = framed (below ++ Number n ∷ []) in
        ap (λ r. r >>= λ holds. Ok (popped 1 s, if holds then None else Some target)) (is_not_zero n)
        ∙ ap (λ cs. Ok (framed cs, if is_true n then None else Some target)) (one_popped (Number n))

    pub squares : (n : ℤ) → square_is_integer (framed (below ++ Number n ∷ [])) ≡ Ok (is_integer (n *ℤ n))
    squares n = top_tests (λ v. is_integer (v *ℤ v)) n

    pub stores : (cell : Cell) (level offset owner : ℕ) → base level frame below ≡ Ok owner → owner + offset < length below
        → store level offset (framed (below ++ cell ∷ [])) ≡ Ok (framed (slice_set below (owner + offset) cell))
    stores cell level offset owner leads h =
        let s = framed (below ++ cell ∷ []) in
        ap (λ r. r >>= λ _. variable level offset (popped 1 s) >>= λ a. Ok
        (record (popped 1 s) { cells = slice_set (popped 1 s).cells a (cell_at (length s.cells - 1) s) })) (has_one cell)
        ∙ ap (λ cs. variable level offset (framed cs) >>= λ a. Ok (framed (slice_set cs a (cell_at (length s.cells - 1) s)))) (one_popped cell)
        ∙ ap (λ r. (r >>= λ f. in_use (f + offset) (length below)) >>= λ a. Ok (framed (slice_set below a (cell_at (length s.cells - 1) s)))) leads
        ∙ ap (λ r. r >>= λ a. Ok (framed (slice_set below a (cell_at (length s.cells - 1) s)))) (in_use_is (owner + offset) (length below) h)
        ∙ ap (λ o. Ok (framed (slice_set below (owner + offset) (elim o as (λ _. Cell) [ Some there ↦ there | None ↦ Undefined ])))) (top_at cell)

    -- two cells at the top
    module _ (a b : Cell) where
      abbrev pub both : List Cell
      both = (below ++ a ∷ []) ++ b ∷ []

      pub right_at : slice_get both (length both - 1) ≡ Some b
      right_at =
          let e : length both - 1 ≡ length (below ++ a ∷ []) = omega (arith, length_two below a b, length_one below a) in
          ap (slice_get both) e ∙ slice_get_seam (below ++ a ∷ []) b []

      pub left_at : slice_get both (length both - 2) ≡ Some a
      left_at =
          let e : length both - 2 ≡ length below = omega (arith, length_two below a b) in
          ap (slice_get both) e ∙ ap (λ cs. slice_get cs (length below)) (append_assoc below (a ∷ []) (b ∷ []))
          ∙ slice_get_seam below a (b ∷ [])

      pub two_popped : take (length both - 2) both ≡ below
      two_popped =
          let e : length both - 2 ≡ length below = omega (arith, length_two below a b) in
          ap (λ n. take n both) e ∙ ap (take (length below)) (append_assoc below (a ∷ []) (b ∷ []))
          ∙ take-append_seam below (a ∷ b ∷ [])

      pub has_two : has 2 (framed both) ≡ Ok tt
      has_two = has_some 2 both (omega (arith, length_two below a b))

      pub room_for_third : length below < limit → has_room_after 2 (framed both) ≡ Ok tt
      room_for_third room = has_room 2 both (omega (arith, length_two below a b))

    -- two numbers at the top
    module _ (a b : ℤ) where
      abbrev pub two : List Cell
      two = (below ++ Number a ∷ []) ++ Number b ∷ []

      numbers_are : two_numbers (framed two) ≡ Ok (a, b)
      numbers_are =
          ap (λ o. number o >>= λ l. number_at 1 (framed two) >>= λ r. Ok (l, r)) (left_at (Number a) (Number b))
          ∙ ap (λ o. number o >>= λ r. Ok (a, r)) (right_at (Number a) (Number b))

      pub top_is : top_two (framed two) ≡ Ok (a, b)
      top_is = ap (λ r. r >>= λ _. two_numbers (framed two)) (has_two (Number a) (Number b)) ∙ numbers_are

      -- they give way to a text
      abbrev pub text_written : (ℤ → ℤ → List ℕ) → ℤ × ℤ → Attempt (Frames × List ℕ)
      text_written text numbers = Ok (popped 2 (framed two), text numbers.0 numbers.1)

      pub writes : (text : ℤ → ℤ → List ℕ) → (top_two (framed two) >>= text_written text) ≡ Ok (framed below, text a b)
      writes text = ap (λ r. r >>= text_written text) top_is ∙ ap (λ cs. Ok (framed cs, text a b)) (two_popped (Number a) (Number b))

      pub sums : sum_is_integer (framed two) ≡ Ok (is_integer (a +ℤ b))
      sums = ap (λ r. r >>= λ ns. Ok (is_integer (ns.0 +ℤ ns.1))) top_is

      pub differs : difference_is_integer (framed two) ≡ Ok (is_integer (a -ℤ b))
      differs = ap (λ r. r >>= λ ns. Ok (is_integer (ns.0 -ℤ ns.1))) top_is

      pub multiplies : product_is_integer (framed two) ≡ Ok (is_integer (a *ℤ b))
      multiplies = ap (λ r. r >>= λ ns. Ok (is_integer (ns.0 *ℤ ns.1))) top_is

      -- the topmost two numbers are there, and there is room for a third
      pub operands_are : length below < limit → operands (framed two) ≡ Ok (a, b)
      operands_are room =
          let s = framed two in
          ap (λ r. r >>= λ _. has_room_after 2 s >>= λ _. two_numbers s) (has_two (Number a) (Number b))
          ∙ ap (λ r. r >>= λ _. two_numbers s) (room_for_third (Number a) (Number b) room)
          ∙ numbers_are

      pub on_two_is : (f : ℤ → ℤ → ℤ) → length below < limit → on_two f (framed two) ≡ Ok (framed (below ++ Number (f a b) ∷ []))
      on_two_is f room =
          ap (λ r. r >>= λ ns. Ok (pushed (Number (f ns.0 ns.1)) (popped 2 (framed two)))) (operands_are room)
          ∙ ap (λ cs. Ok (framed (cs ++ Number (f a b) ∷ []))) (two_popped (Number a) (Number b))

      -- two numbers give way to a third, unless the divisor is wrong
      divisor_is : (test : ℤ → Bool) (f : ℤ → ℤ → ℤ) → length below < limit → test b ≡ true
          → (operands (framed two) >>= λ ns. unless_fault (test ns.1) WrongDivisor >>= λ _. Ok (pushed (Number (f ns.0 ns.1)) (popped 2 (framed two)))) ≡ Ok
          (framed (below ++ Number (f a b) ∷ []))
      divisor_is test f room good =
          ap (λ r. r >>= λ ns. unless_fault (test ns.1) WrongDivisor >>= λ _. Ok (pushed (Number (f ns.0 ns.1)) (popped 2 (framed two)))) (operands_are room)
          ∙ ap (λ t. unless_fault t WrongDivisor >>= λ _. Ok (pushed (Number (f a b)) (popped 2 (framed two)))) good
          ∙ ap (λ cs. Ok (framed (cs ++ Number (f a b) ∷ []))) (two_popped (Number a) (Number b))

      pub divides : length below < limit → is_true b ≡ true → divide (framed two) ≡ Ok (framed (below ++ Number (int_wrapping_div w32 a b) ∷ []))
      divides room good = divisor_is is_true (int_wrapping_div w32) room good

      pub leaves : length below < limit → int_le (pos 1) b ≡ true → modulo (framed two) ≡ Ok (framed (below ++ Number (int_rem_euclid a b) ∷ []))
      leaves room good = divisor_is (int_le (pos 1)) int_rem_euclid room good
