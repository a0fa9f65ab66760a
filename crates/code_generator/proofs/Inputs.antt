-- What code does that reads: it takes from the input what the program takes, or stops for the same fault at the same point.
-- What is read is of type integer.
use Rattle.code_generator.proofs.Words.{◌≡◌, ℕ, zero, suc, ◌+◌, ◌*◌, ◌<◌, ◌≤◌, List, [], ◌∷◌, ◌++◌, length, Ok, Err, inr, refl, sym, ap, ◌∙◌, subst, arith}
use Rattle.code_generator.proofs.Words.{length-append, Bool, true, false, ℤ, pos, ◌&&◌, if◌then◌else◌, slice_get, ltb-true, Instr, Value}
use Rattle.code_generator.proofs.Words.{Action, Gives, Option, Reply, Some, None, ◌>>=◌, give, Cell, Number, Attempt, Frames, deed_of}
use Rattle.std.specs.Prelude.{negsuc, nat_eq, nat_le, ◌-◌}
use Rattle.std.proofs.lemmas.Bool.{leb-true}
use Rattle.text_input.specs.declared.InputFault.{InputFault}
use Rattle.text_input.specs.declared.InputFault.TheVariants as fault
use Rattle.text_input.specs.Input.{Reading, Reads, Fails, Ends, digits, is_at_end, is_blank, is_digit, number, read_character, read_eoln}
use Rattle.text_input.specs.Input.{read_integer, read_line, signed, signed_at, unsigned_at}
use Rattle.pcode_assembler.specs.declared.instr.Instr.TheVariants as instr
use Rattle.types.specs.declared.form.OrdinalRange.{OrdinalRange}
use Rattle.typed_tree.specs.declared.tree.InputTest.{InputTest}
use Rattle.typed_tree.specs.declared.tree.InputTest.TheVariants as input_test
use Rattle.typed_tree.specs.declared.tree.Readable.{Readable}
use Rattle.typed_tree.specs.declared.tree.Readable.TheVariants as readable
use Rattle.typed_tree.specs.declared.tree.Scalar.TheVariants as scalar
use Rattle.typed_tree.specs.WellFormed.{is_well_formed_input, is_well_formed_line}
use Rattle.meaning.specs.declared.outcome.Ending.TheVariants as ending
use Rattle.meaning.specs.declared.value.Value.TheVariants as value
use Rattle.meaning.specs.Effect as effect
use Rattle.meaning.specs.Integers as meant
use Rattle.meaning.specs.Meaning.{asked, line_passed, read_as, unless_outside}
use Rattle.meaning.proofs.Replies.{and_then-and_then}
use Rattle.check_remover.specs.Strip.{stays}
use Rattle.stack_machine.specs.declared.stop.Stop.TheVariants as stop
use Rattle.stack_machine.specs.Deeds.{Takes, read_with}
use Rattle.stack_machine.specs.Frames as frames
use Rattle.stack_machine.specs.Frames.{top_is_in_range}
use Rattle.stack_machine.specs.Machine as machine
use Rattle.code_scheme.specs.Code.{asked_instr, line_passed_code, read_instr}
use Rattle.code_generator.specs.Tables.{point_in_plain_numbers}
use Rattle.code_generator.proofs.Acts.{is_in_range, pushes_end, pushes_reading}
use Rattle.code_generator.proofs.Evaluating.{fetched_at, frames_of}
use Rattle.code_generator.proofs.Exact.{exact_take}
use Rattle.code_generator.proofs.Lists.{slice_map, slice_there}
use Rattle.code_generator.proofs.Numbers.{Fits, fits_by_abs, fits_truth, same_range, same_truth}
use Rattle.code_generator.proofs.Reach.{Comes, Stands, StandsAt, obeys, stays_here, stops_by}
use Rattle.code_generator.proofs.Running.{Aim, Arrives, Evaluates, Executes, Runs, done, gives, gives_then, kept_on, runs_from, runs_same, value_on}
use Rattle.code_generator.proofs.Setting.{Based, Ends as EndsSo, Here, Setting, goes_on, on, outline}

-- ---- what is read

-- what a reading gives
abbrev GivesSo : {A : Type 0} → (A → Type 0) → Reading A → Type 0
GivesSo IsSo (Reads a rest) = IsSo a
GivesSo IsSo (Fails why) = Unit {0}
GivesSo IsSo Ends = Unit {0}

either : {A : Type 0} (IsSo : A → Type 0) (test : Bool) (a b : A) → IsSo a → IsSo b → IsSo (if test then a else b)
either IsSo true a b first second = first
either IsSo false a b first second = second

signed_fits : (is_negative : Bool) (n : ℕ) → n ≤ 2147483647 → Fits (signed is_negative n)
signed_fits false n h = fits_by_abs (pos n) h
signed_fits true zero h = fits_by_abs (pos 0) h
signed_fits true (suc n) h = fits_by_abs (negsuc n) h

number_fits : (is_negative : Bool) (n : ℕ) (rest : List ℕ) → GivesSo Fits (number is_negative n rest)
number_fits is_negative n rest = by (nat_le n 2147483647) refl
  where
    by : (few : Bool) → nat_le n 2147483647 ≡ few → GivesSo Fits (if few then Reads (signed is_negative n) rest else Fails fault.NumberTooLarge)
    by true is = signed_fits is_negative n (leb-true n 2147483647 is)
    by false is = tt

digits_fit : (is_negative : Bool) (n : ℕ) (bytes : List ℕ) → GivesSo Fits (digits is_negative n bytes)
digits_fit is_negative n [] = tt
digits_fit is_negative n (byte ∷ bytes) =
    either (GivesSo Fits) (is_digit byte) (digits is_negative (n * 10 + (byte - 48)) bytes) (number is_negative n (byte ∷ bytes))
    (digits_fit is_negative (n * 10 + (byte - 48)) bytes) (number_fits is_negative n (byte ∷ bytes))

unsigned_fits : (is_negative : Bool) (bytes : List ℕ) → GivesSo Fits (unsigned_at is_negative bytes)
unsigned_fits is_negative [] = tt
unsigned_fits is_negative (byte ∷ bytes) =
    either (GivesSo Fits) (is_digit byte) (digits is_negative (byte - 48) bytes) (Fails fault.NotANumber) (digits_fit is_negative (byte - 48) bytes) tt

signed_at_fits : (byte : ℕ) (bytes : List ℕ) → GivesSo Fits (signed_at byte bytes)
signed_at_fits byte bytes =
    either (GivesSo Fits) (nat_eq byte 45) (unsigned_at true bytes) (if nat_eq byte 43 then unsigned_at false bytes else unsigned_at false (byte ∷ bytes))
    (unsigned_fits true bytes)
    (either (GivesSo Fits) (nat_eq byte 43) (unsigned_at false bytes) (unsigned_at false (byte ∷ bytes)) (unsigned_fits false bytes)
    (unsigned_fits false (byte ∷ bytes)))

integer_fits : (input : List ℕ) → GivesSo Fits (read_integer input)
integer_fits [] = tt
integer_fits (byte ∷ bytes) =
    either (GivesSo Fits) (is_blank byte) (read_integer bytes) (signed_at byte bytes) (integer_fits bytes) (signed_at_fits byte bytes)

abbrev IsCharacter : ℕ → Type 0
IsCharacter c = Fits (pos c)

character_fits : (input : List ℕ) → GivesSo IsCharacter (read_character input)
character_fits [] = tt
character_fits (byte ∷ bytes) =
    either (GivesSo IsCharacter) (nat_eq byte 10) (Reads 32 bytes) (if nat_le byte 127 then Reads byte bytes else Fails fault.NotACharacter)
    (fits_by_abs (pos 32) (omega arith)) (by (nat_le byte 127) refl)
  where
    by : (few : Bool) → nat_le byte 127 ≡ few → GivesSo IsCharacter (if few then Reads byte bytes else Fails fault.NotACharacter)
    by true is = let low = leb-true byte 127 is in fits_by_abs (pos byte) (omega (arith, low))
    by false is = tt

-- ---- instructions that read

-- what gives a truth value, where a value is wanted
abbrev pub as_truth : Action Bool → Action Value
as_truth action = action >>= λ b. give (value.Number (meant.truth b))

-- nothing is done with what is given
only_given : {A : Type 0} (r : Reply A) → r ≡ effect.and_then r give
only_given (Gives a s) = refl
only_given (effect.Stops end s) = refl

module _ (g : Setting) where
  abbrev pub points : ℕ
  points = length g.tree.points.items

  -- the stop of a fault
  faults : (i : Instr) (point place : ℕ) (cells : List Cell) (s : effect.State) (turns : ℕ) (why : InputFault) → Here g place i → point < points
      → obeys g.target i (fetched_at g cells place s) ≡ Err (machine.fault_of g.target.tables point why)
      → EndsSo g turns (on g cells place s) (ending.Input point why) s.output
  faults i point place cells s turns why here within does =
      let found = slice_there g.tree.points.items point within in
      let entry = ap (λ table. slice_get table point) g.points_are ∙ slice_map point_in_plain_numbers g.tree.points.items point found.0 found.1 in
      record {
        why = stop.Input (point_in_plain_numbers found.0) why;
        stops = stops_by g.target i (on g cells place s) (stop.Input (point_in_plain_numbers found.0) why) here.0
            (does ∙ ap (λ o. Err (machine.at_point o why)) entry);
        so = (found.0, found.1, refl);
      }

  -- what is taken of the input, and what comes behind it
  pub take_then : {A B : Type 0} (aim : Aim B) (i : Instr) (point place : ℕ) (cells : List Cell) (after : A → List Cell) (s : effect.State)
      (reading : List ℕ → Reading A) (next : A → Action B) (take : Frames → Attempt (List ℕ → Reading Frames)) → Here g place i
      → deed_of i ≡ Takes point take → take (frames_of g cells) ≡ Ok (λ input. read_with (λ a. frames_of g (after a)) (reading input)) → point < points
      → ((a : A) (rest : List ℕ) → reading s.input ≡ Reads a rest
      → Runs g aim (on g (after a) (place + 1) (record s { input = rest })) (next a) (record s { input = rest }))
      → Runs g aim (on g cells place s) (effect.take_in point reading >>= next) s
  take_then {A} {B} aim i point place cells after s reading next take here rule does within rest = by (reading s.input) refl
    where
      obeyed_so : (r : Reading A) → reading s.input ≡ r
          → obeys g.target i (fetched_at g cells place s)
          ≡ machine.with_reading g.target.tables point (fetched_at g cells place s) (read_with (λ a. frames_of g (after a)) r)
      obeyed_so r is =
          ap (λ deed. machine.carried_out g.target.tables (length g.target.code) deed (fetched_at g cells place s)) rule
          ∙ ap (λ t. machine.and_then t (λ read. machine.with_reading g.target.tables point (fetched_at g cells place s) (read s.input))) does
          ∙ ap (λ x. machine.with_reading g.target.tables point (fetched_at g cells place s) (read_with (λ a. frames_of g (after a)) x)) is

      by : (r : Reading A) → reading s.input ≡ r → Runs g aim (on g cells place s) (effect.take_in point reading >>= next) s
      by (Reads a left) is =
          gives_then g aim (on g cells place s) (effect.take_in point reading) next s (record s { input = left }) a (exact_take point reading)
          (ap (λ r. effect.taken point r s) is) refl
          (runs_from g aim 1 _ _ (next a) (record s { input = left })
          (goes_on g i cells (after a) place s (record s { input = left }) here (obeyed_so (Reads a left) is)) (rest a left is))
      by (Fails why) is =
          inr (subst (Arrives g aim s.turns (on g cells place s)) (sym (ap (λ r. effect.and_then (effect.taken point r s) next) is))
          (faults i point place cells s s.turns why here within (obeyed_so (Fails why) is)))
      by Ends is =
          inr (subst (Arrives g aim s.turns (on g cells place s)) (sym (ap (λ r. effect.and_then (effect.taken point r s) next) is))
          (faults i point place cells s s.turns fault.EndOfInput here within (obeyed_so Ends is)))

  -- a value is read, and comes on top
  pub read_then : {A : Type 0} (aim : Aim A) (reads : Readable) (point place : ℕ) (base held : List Cell) (s : effect.State) (next : ℤ → Action A)
      → StandsAt g.target place (read_instr reads point) (stays g.target.is_open (read_instr reads point)) → point < points → Based g s base
      → g.below + length held < g.limit
      → ((n : ℤ) (t : effect.State) → Fits n → Based g t base → Runs g aim (on g ((base ++ held) ++ Number n ∷ []) (place + 1) t) (next n) t)
      → Runs g aim (on g (base ++ held) place s) (read_as reads point >>= next) s
  read_then aim readable.Integer point place base held s next stands within based room rest =
      let full = based.full in
      let cells = base ++ held in
      take_then aim (instr.ReadInteger point) point place cells (λ n. cells ++ Number n ∷ []) s read_integer next _ stands refl
      (pushes_reading g.frame g.limit g.size (λ n. n) read_integer cells (omega (arith, length-append base held))) within
      (λ n left is. rest n (record s { input = left }) (subst (GivesSo Fits) is (integer_fits s.input)) based)
  read_then aim readable.Char point place base held s next stands within based room rest =
      let full = based.full in
      let cells = base ++ held in
      let to_number : ℕ → Action ℤ = λ c. give (pos c) in
      runs_same g aim (on g cells place s) (read_as readable.Char point >>= next) (effect.take_in point read_character >>= λ c. next (pos c)) s
      (λ t. and_then-and_then (effect.take_in point read_character t) to_number next)
      (take_then aim (instr.ReadChar point) point place cells (λ c. cells ++ Number (pos c) ∷ []) s read_character (λ c. next (pos c)) _ stands refl
      (pushes_reading g.frame g.limit g.size pos read_character cells (omega (arith, length-append base held))) within
      (λ c left is. rest (pos c) (record s { input = left }) (subst (GivesSo IsCharacter) is (character_fits s.input)) based))

  -- what was read is tested
  pub admit_then : {A : Type 0} (aim : Aim A) (range : OrdinalRange) (point : ℕ) (n : ℤ) (below : List Cell) (place : ℕ) (s : effect.State)
      (next : Action A) → Here g place (instr.CheckInput point range.first range.last) → point < points → g.frame + 4 ≤ length below → Fits n
      → Runs g aim (on g (below ++ Number n ∷ []) (place + 1) s) next s
      → Runs g aim (on g (below ++ Number n ∷ []) place s) (unless_outside range point n >>= (λ _. next)) s
  admit_then {A} aim range point n below place s next here within in_frame fit rest =
      by (effect.is_in range (value.Number n))
      (is_in_range g.frame g.limit g.size below in_frame range.first range.last n ∙ ap Ok (sym (same_range range n fit)))
    where
      tests : (good : Bool) → top_is_in_range range.first range.last (frames_of g (below ++ Number n ∷ [])) ≡ Ok good
          → obeys g.target (instr.CheckInput point range.first range.last) (fetched_at g (below ++ Number n ∷ []) place s)
          ≡ (if good then Ok (fetched_at g (below ++ Number n ∷ []) place s) else Err (machine.fault_of g.target.tables point fault.OutsideType))
      tests good e =
          ap (machine.checked (machine.fault_of g.target.tables point fault.OutsideType) (fetched_at g (below ++ Number n ∷ []) place s)) e

      by : (good : Bool) → top_is_in_range range.first range.last (frames_of g (below ++ Number n ∷ [])) ≡ Ok good
          → Runs g aim (on g (below ++ Number n ∷ []) place s)
          ((if good then give {A = Unit {0}} tt else effect.stop (ending.Input point fault.OutsideType)) >>= (λ _. next)) s
      by true e =
          let cells = below ++ Number n ∷ [] in
          runs_from g aim 1 _ _ next s
          (goes_on g (instr.CheckInput point range.first range.last) cells cells place s s here (tests true e)) rest
      by false e =
          inr (faults (instr.CheckInput point range.first range.last) point place (below ++ Number n ∷ []) s s.turns fault.OutsideType here within
          (tests false e))

  -- the next line end is passed behind a readln
  pub line_runs : (line : Option ℕ) (place : ℕ) (base held : List Cell) (s : effect.State) → Stands g.target place (line_passed_code line)
      → is_well_formed_line (outline g) g.number line ≡ true → Based g s base
      → Executes g (on g (base ++ held) place s) held (place + length (line_passed_code line)) (line_passed line) s
  line_runs None place base held s stands well based =
      let e : place ≡ place + 0 = omega arith in
      inr (done g 0 _ base held (place + 0) s based (subst (λ p. Comes g.target 0 (on g (base ++ held) place s) (on g (base ++ held) p s)) e
      (stays_here g.target _)))
  line_runs (Some point) place base held s stands well based =
      let cells = base ++ held in
      let aim = kept_on g held (place + 1) in
      runs_same g aim (on g cells place s) (line_passed (Some point)) (effect.take_in point read_line >>= give) s
      (λ t. only_given (effect.take_in point read_line t))
      (take_then aim (instr.ReadLine point) point place cells (λ _. cells) s read_line give _ stands.0 refl refl (ltb-true point points well)
      (λ passed left is. inr (done g 0 _ base held (place + 1) (record s { input = left }) based (stays_here g.target _))))

  end_runs : (place : ℕ) (base held : List Cell) (s : effect.State) → Here g place instr.EndOfFile → Based g s base → g.below + length held < g.limit
      → Evaluates g scalar.Ordinal (on g (base ++ held) place s) held (place + 1) (as_truth effect.at_end) s
  end_runs place base held s here based room =
      let full = based.full in
      let cells = base ++ held in
      let m = fetched_at g cells place s in
      let truth = meant.truth (is_at_end s.input) in
      let does = ap (λ r. machine.and_then r (machine.with_end m)) (pushes_end g.frame g.limit g.size cells (omega (arith, length-append base held)))
      ∙ told (is_at_end s.input) in
      inr (gives g scalar.Ordinal 1 _ base held (place + 1) (value.Number truth) s based
      (goes_on g instr.EndOfFile cells (cells ++ Number truth ∷ []) place s s here does)
      (subst Fits (same_truth (is_at_end s.input)) (fits_truth (is_at_end s.input))) room)
    where
      -- the reader never fails
      told : (b : Bool)
          → (if b && false then Err stop.ReadFailed else Ok (record (fetched_at g (base ++ held) place s) {
            frames = frames_of g ((base ++ held) ++ Number (frames.truth b) ∷ []);
          }))
          ≡ Ok (record (fetched_at g (base ++ held) place s) { frames = frames_of g ((base ++ held) ++ Number (meant.truth b) ∷ []) })
      told true = refl
      told false = refl

  pub asked_runs : (asks : InputTest) (place : ℕ) (base held : List Cell) (s : effect.State)
      → StandsAt g.target place (asked_instr asks) (stays g.target.is_open (asked_instr asks)) → is_well_formed_input (outline g) g.number asks ≡ true
      → Based g s base → g.below + length held < g.limit
      → Evaluates g scalar.Ordinal (on g (base ++ held) place s) held (place + 1) (as_truth (asked asks)) s
  asked_runs input_test.End place base held s stands well based room = end_runs place base held s stands based room
  asked_runs (input_test.LineEnd point) place base held s stands well based room =
      let full = based.full in
      let cells = base ++ held in
      take_then (value_on g scalar.Ordinal held (place + 1)) (instr.EndOfLine point) point place cells (λ b. cells ++ Number (frames.truth b) ∷ []) s
      read_eoln (λ b. give (value.Number (meant.truth b))) _ stands refl
      (pushes_reading g.frame g.limit g.size frames.truth read_eoln cells (omega (arith, length-append base held))) (ltb-true point points well)
      (λ b left is.
      let t : effect.State = record s { input = left } in
      inr (gives g scalar.Ordinal 0 _ base held (place + 1) (value.Number (meant.truth b)) t based
      (subst (λ n. Comes g.target 0 (on g (cells ++ Number (frames.truth b) ∷ []) (place + 1) t) (on g (cells ++ Number n ∷ []) (place + 1) t)) (same_truth b)
      (stays_here g.target _)) (subst Fits (same_truth b) (fits_truth b)) room))
