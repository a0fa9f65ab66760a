-- Rows of values in cells: what the instructions that take them do to a store on top of which they are known, and that
-- they compare and write them as the program does.
use Rattle.code_generator.proofs.Words.{◌≡◌, ℕ, ◌+◌, ◌-◌, ◌*◌, ◌<◌, ◌≤◌, List, [], ◌∷◌, ◌++◌, length, map, take, drop, Ok, refl, sym, ap, ◌∙◌, arith}
use Rattle.code_generator.proofs.Words.{append_assoc, append-nil, length-append, Bool, true, false, ℤ, pos, if◌then◌else◌, drop-append_seam, length-map, Value}
use Rattle.code_generator.proofs.Words.{number_of, Cell, Number, Frames, Attempt}
use Rattle.std.specs.Prelude.{negsuc, int_lt}
use Rattle.std.proofs.Math.Seq.{take-append_seam}
use Rattle.std.proofs.lemmas.Int.{ints}
use Rattle.meaning.specs.declared.value.Value.TheVariants as value
use Rattle.meaning.specs.Meaning.{order_of}
use Rattle.meaning.specs.Integers as meant
use Rattle.stack_machine.specs.Deeds.{string_written}
use Rattle.stack_machine.specs.Frames.{has_room_after, ◌>>=◌, number, number_at, popped, pushed}
use Rattle.stack_machine.specs.Rows as rows
use Rattle.stack_machine.specs.Texts as texts
use Rattle.code_generator.proofs.Acts.{framed, has_some, has_room, top_at}
use Rattle.code_generator.proofs.Numbers.{Fits}
use Rattle.code_generator.proofs.Scalars.{value_cell}
use Rattle.code_generator.proofs.Strings.{AreNumbers}

-- the cells of a row of values
abbrev pub cells_of : List Value → List Cell
cells_of vs = map value_cell vs

pub length-cells_of : (vs : List Value) → length (cells_of vs) ≡ length vs
length-cells_of vs = length-map vs value_cell

-- and their numbers
abbrev pub numbers_of : List Value → List ℤ
numbers_of vs = map number_of vs

numbers_are : (vs : List Value) → AreNumbers vs → rows.numbers (cells_of vs) ≡ Ok (numbers_of vs)
numbers_are [] are = refl
numbers_are (value.Number n ∷ vs) are = ap (λ r. r >>= λ others. Ok (n ∷ others)) (numbers_are vs are.1)
numbers_are (value.Members set ∷ vs) are = absurd are.0

module _ (frame limit size : ℕ) where
  -- a row below others, and below nothing
  pub row_is : (below row above : List Cell) (n count : ℕ) → length row + length above ≡ n → length row ≡ count
      → rows.row n count (framed frame limit size ((below ++ row) ++ above)) ≡ row
  row_is below row above n count e f =
      let cells = (below ++ row) ++ above in
      let start : length cells - n ≡ length below = omega (arith, length-append (below ++ row) above, length-append below row) in
      ap (λ m. take count (drop m cells)) start ∙ ap (λ cs. take count (drop (length below) cs)) (append_assoc below row above)
      ∙ ap (take count) (drop-append_seam below (row ++ above)) ∙ ap (λ m. take m (row ++ above)) (sym f) ∙ take-append_seam row above

  pub top_row_is : (below row : List Cell) (n : ℕ) → length row ≡ n → rows.row n n (framed frame limit size (below ++ row)) ≡ row
  top_row_is below row n e =
      ap (λ cs. rows.row n n (framed frame limit size cs)) (sym (append-nil (below ++ row))) ∙ row_is below row [] n n (omega arith) e

  -- the cells below two pieces, of so many cells together
  pub popped_is : (below row above : List Cell) (n : ℕ) → length row + length above ≡ n
      → take (length ((below ++ row) ++ above) - n) ((below ++ row) ++ above) ≡ below
  popped_is below row above n e =
      let cells = (below ++ row) ++ above in
      let start : length cells - n ≡ length below = omega (arith, length-append (below ++ row) above, length-append below row) in
      ap (λ m. take m cells) start ∙ ap (take (length below)) (append_assoc below row above) ∙ take-append_seam below (row ++ above)

  -- two rows give way to their order
  module _ (below : List Cell) (linked : frame + 4 ≤ length below) (left right : List Value) (n : ℕ) (long : length left ≡ n) (as_long : length right ≡ n)
      (left_are : AreNumbers left) (right_are : AreNumbers right) where
    abbrev both : List Cell
    both = (below ++ cells_of left) ++ cells_of right

    abbrev store : Frames
    store = framed frame limit size both

    abbrev order_pushed : List ℤ → List ℤ → Attempt Frames
    order_pushed a b = Ok (pushed (Number (rows.order a b)) (popped (2 * n) store))

    abbrev right_read : List ℤ → Attempt Frames
    right_read a = rows.numbers (rows.row n n store) >>= order_pushed a

    abbrev left_read : Attempt Frames
    left_read = rows.numbers (rows.row (2 * n) n store) >>= right_read

    abbrev order : ℤ
    order = rows.order (numbers_of left) (numbers_of right)

    pub compares : length below < limit → rows.compared n store ≡ Ok (framed frame limit size (below ++ Number order ∷ []))
    compares room =
        let l = length-cells_of left in
        let r = length-cells_of right in
        let all : length both ≡ length below + 2 * n =
        omega (arith, length-append (below ++ cells_of left) (cells_of right), length-append below (cells_of left)) in
        let two : length (cells_of left) + length (cells_of right) ≡ 2 * n = omega arith in
        ap (λ x. x >>= λ _. has_room_after (2 * n) store >>= λ _. left_read) (has_some frame limit size (2 * n) both (omega arith))
        ∙ ap (λ x. x >>= λ _. left_read) (has_room frame limit size (2 * n) both (omega arith))
        ∙ ap (λ cs. rows.numbers cs >>= right_read) (row_is below (cells_of left) (cells_of right) (2 * n) n two (l ∙ long))
        ∙ ap (λ x. x >>= right_read) (numbers_are left left_are)
        ∙ ap (λ cs. rows.numbers cs >>= order_pushed (numbers_of left)) (top_row_is (below ++ cells_of left) (cells_of right) n (r ∙ as_long))
        ∙ ap (λ x. x >>= order_pushed (numbers_of left)) (numbers_are right right_are)
        ∙ ap (λ cs. Ok (framed frame limit size (cs ++ Number order ∷ [])))
        (popped_is below (cells_of left) (cells_of right) (2 * n) two)

  -- a row and a width give way to a text
  module _ (below : List Cell) (linked : frame + 4 ≤ length below) (row : List Value) (width : ℤ) (n : ℕ) (long : length row ≡ n)
      (row_are : AreNumbers row) where
    abbrev string : List Cell
    string = (below ++ cells_of row) ++ Number width ∷ []

    abbrev string_store : Frames
    string_store = framed frame limit size string

    abbrev width_read : List ℤ → Attempt (List ℤ × ℤ)
    width_read ns = number_at 1 string_store >>= λ w. Ok (ns, w)

    string_is : rows.string n string_store ≡ Ok (numbers_of row, width)
    string_is =
        let l = length-cells_of row in
        let all : length string ≡ length below + n + 1 = omega (
          arith,
          length-append (below ++ cells_of row) (Number width ∷ []),
          length-append below
              (cells_of row),
        ) in
        ap (λ x. x >>= λ _. rows.numbers (rows.row (n + 1) n string_store) >>= width_read) (has_some frame limit size (n + 1) string (omega arith))
        ∙ ap (λ cs. rows.numbers cs >>= width_read) (row_is below (cells_of row) (Number width ∷ []) (n + 1) n (omega arith) (l ∙ long))
        ∙ ap (λ x. x >>= width_read) (numbers_are row row_are)
        ∙ ap (λ o. number o >>= λ w. Ok (numbers_of row, w))
        (top_at frame limit size (below ++ cells_of row) (omega (arith, length-append below (cells_of row))) (Number width))

    abbrev text : List ℕ
    text = texts.string_text (map texts.byte_of (numbers_of row)) width

    pub writes_string : string_written n string_store ≡ Ok (framed frame limit size below, text)
    writes_string =
        let l = length-cells_of row in
        ap (λ x. x >>= λ s. Ok (popped (n + 1) string_store, texts.string_text (map texts.byte_of s.0) s.1)) string_is
        ∙ ap (λ cs. Ok (framed frame limit size cs, text))
        (popped_is below (cells_of row) (Number width ∷ []) (n + 1) (omega arith))

-- ---- what is meant of them

-- two rows of one length are in the same order
pub same_order : (left right : List ℤ) → length left ≡ length right → rows.order left right ≡ order_of left right
same_order [] [] e = refl
same_order [] (b ∷ right) e = absurd (omega arith)
same_order (a ∷ left) [] e = absurd (omega arith)
same_order (a ∷ left) (b ∷ right) e =
    ap (λ n. if int_lt a b then negsuc 0 else (if int_lt b a then pos 1 else n)) (same_order left right (omega arith))

order_fits_by : (less more : Bool) (n : ℤ) → Fits n → Fits (if less then negsuc 0 else (if more then pos 1 else n))
order_fits_by true more n h = record { is = refl }
order_fits_by false true n h = record { is = refl }
order_fits_by false false n h = h

pub order_fits : (left right : List ℤ) → Fits (order_of left right)
order_fits [] [] = record { is = refl }
order_fits [] (b ∷ right) = record { is = refl }
order_fits (a ∷ left) [] = record { is = refl }
order_fits (a ∷ left) (b ∷ right) = order_fits_by (int_lt a b) (int_lt b a) (order_of left right) (order_fits left right)

-- the byte of a number
pub same_byte : (n : ℤ) → Fits n → texts.byte_of n ≡ meant.byte_of n
same_byte (pos n) h = refl
same_byte (negsuc n) h = let e = h.is in let f : n < 2147483648 = grind (arith, ints) in omega arith
