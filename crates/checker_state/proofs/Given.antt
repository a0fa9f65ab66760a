-- Claims that a state gives hold where it holds.
use Rattle.std.proofs.Common.{arith, if◌then◌else◌, ◌≡◌, ⊎_elim, ◌∙◌, sym, ap, refl, subst, ℕ, ℤ, pos, ◌+ℤ◌, ◌≤ℤ◌, Bool, true, false, ◌&&◌, ◌||◌, nat_eq}
use Rattle.std.proofs.Common.{nat_lt}
use Rattle.std.proofs.Common.{List, [], ◌∷◌, ◌⊎◌, inl, inr, drop, map, take, Option, Some, None}
use Rattle.std.specs.List.{list_any}
use Rattle.std.proofs.lemmas.Int.{by_lt_z, ints}
use Rattle.std.proofs.lemmas.Bool.{and_parts, eqb-true, ltb-true, or_cases}
use Rattle.types.specs.declared.form.OrdinalRange.{OrdinalRange}
use Rattle.types.specs.declared.form.Step.{Step}
use Rattle.types.specs.declared.form.Step.TheVariants as step
use Rattle.meaning.specs.Store.{Environment, Store}
use Rattle.checker_rows.specs.Rows.{LieIn, Parts, first_index, indexes_of}
use Rattle.domain.specs.Versions.{has}
use Rattle.domain.specs.declared.versions.Extension.TheVariants.{Blocks, Boxes}
use Rattle.checker_state.specs.Bounds.{Bound, constant, plus, raised_bound}
use Rattle.checker_state.specs.State.{Claim, Dead, Defined, Facts, Held, Holds as Holding, Live, Ordered, Range, Span, State, Stretch, Stretched, Table}
use Rattle.checker_state.specs.State.{Wanted, all_indexes, begin_in_time, begins, covers, gives, gives_claim, gives_stretch, go_on, has_number, has_span}
use Rattle.checker_state.specs.State.{has_value, has_values, have_spans, have_values, is_covered, is_empty, is_had, is_joined, joins}
use Rattle.checker_state.specs.State.{is_joined_inside, is_spanned, is_whole, le, row_at, state_gives, wanted_of}
use Rattle.checker_state.specs.Holds.{AreBounds, AreDefined, FactsHold, HasNumber, HasValue, HeldHolds, Holds, IsBound, IsBoundBy, IsWhole, LieBetween, Moment}
use Rattle.checker_state.specs.Holds.{HoldNumbers, IndexesLie, IsOfRow, HasComponent, Numbers, StateHolds, StretchHolds, moment}
use Rattle.checker_state.specs.Knows.{AreRows, Shows}
use Rattle.checker_state.specs.Laws.{GivenHolds}
use Rattle.checker_state.specs.Stores.{all_of_row}
use Rattle.checker_state.proofs.Bounds.{IsTold, le-is, lies_below-is, raised-is, told-of}
use Rattle.checker_state.proofs.Lists.{any-in}
use Rattle.checker_state.proofs.Ranged.{included-in}
use Rattle.checker_state.proofs.Rows.{whole-own}

-- ---- stretches that others cover

-- the first index is the first of the indexes
pub first-of : (steps : List Step) (index : ℤ) → first_index steps ≡ Some index → (rest : List ℤ) × (indexes_of steps ≡ index ∷ rest)
first-of [] index is = absurd (cc)
first-of (step.Element i ∷ steps) index is = (indexes_of steps, ap (λ (n : ℤ). n ∷ indexes_of steps) (let same : i ≡ index = cc in same))
first-of (step.Field position ∷ steps) index is = first-of steps index is

-- the first index is of the first values
pub first-lies : (range : OrdinalRange) (ranges : List OrdinalRange) (steps : List Step) → LieIn (range ∷ ranges) (indexes_of steps)
    → (index : ℤ) × (first_index steps ≡ Some index) × (range.first ≤ℤ index) × (index ≤ℤ range.last)
first-lies range ranges [] lie = absurd lie
first-lies range ranges (step.Element index ∷ steps) lie = (index, refl, lie.0, lie.1)
first-lies range ranges (step.Field position ∷ steps) lie = first-lies range ranges steps lie

-- those behind the first
lie-behind : (ranges : List OrdinalRange) (index : ℤ) (indexes : List ℤ) → LieIn ranges (index ∷ indexes) → LieIn (drop 1 ranges) indexes
lie-behind [] index indexes lie = tt
lie-behind (range ∷ ranges) index indexes lie = lie.2

-- bounds that are known to be at most a first number, and at least a last one, are
pub record IsWanted (m : Moment) (wanted : Wanted) (numbers : Numbers) : Type 0 where
  pub from : (bound : Bound) (n : ℤ) → IsBound m bound n → wanted.begins bound ≡ true → n ≤ℤ numbers.first
  pub to : (bound : Bound) (n : ℤ) → IsBound m bound n → wanted.ends bound ≡ true → numbers.last ≤ℤ n

abbrev pub AreWanted : Moment → List Wanted → List Numbers → Type 0
AreWanted m [] [] = Unit {0}
AreWanted m [] (one ∷ numbers) = ⊥
AreWanted m (want ∷ wanted) [] = ⊥
AreWanted m (want ∷ wanted) (one ∷ numbers) = IsWanted m want one × AreWanted m wanted numbers

-- those of the first of some
first-wanted : (m : Moment) (wanted : List Wanted) (numbers : List Numbers) → AreWanted m wanted numbers → AreWanted m (take 1 wanted) (take 1 numbers)
first-wanted m [] [] are = tt
first-wanted m [] (one ∷ numbers) are = absurd are
first-wanted m (want ∷ wanted) [] are = absurd are
first-wanted m (want ∷ wanted) (one ∷ numbers) are = (are.0, tt)

first-between : (numbers : List Numbers) (indexes : List ℤ) → LieBetween numbers indexes → LieBetween (take 1 numbers) indexes
first-between [] indexes lie = tt
first-between (one ∷ numbers) [] lie = absurd lie
first-between (one ∷ numbers) (index ∷ indexes) lie = (lie.0, lie.1, tt)

-- an index of a second one of some values lies between the first and the last of these
second-between : (first second : OrdinalRange) (ranges : List OrdinalRange) (own : Numbers) (indexes : List ℤ) → LieIn (first ∷ second ∷ ranges) indexes
    → LieBetween (own ∷ []) indexes → LieBetween (own ∷ record { first = second.first; last = second.last } ∷ []) indexes
second-between first second ranges own [] inside lie = absurd lie
second-between first second ranges own (index ∷ []) inside lie = absurd inside.2
second-between first second ranges own (index ∷ other ∷ indexes) inside lie = (lie.0, lie.1, (inside.2.0, inside.2.1, tt))

module _ (rows : List Parts) (m : Moment) (known : Facts) (told : IsTold rows m known) where
  -- what is asked of spans between bounds is so of their numbers
  pub wanted-is : (span : Span) (numbers : Numbers) → IsBound m span.first numbers.first → IsBound m span.last numbers.last
      → IsWanted m (wanted_of known span) numbers
  wanted-is span numbers first last = record {
    from = λ bound n at is. le-is rows m known told bound span.first n numbers.first at first is;
    to = λ bound n at is. le-is rows m known told span.last bound numbers.last n last at is;
  }

  pub wanted-are : (spans : List Span) (numbers : List Numbers) → AreBounds m spans numbers → AreWanted m (map (wanted_of known) spans) numbers
  wanted-are [] [] are = tt
  wanted-are [] (one ∷ numbers) are = are
  wanted-are (span ∷ spans) [] are = are
  wanted-are (span ∷ spans) (one ∷ numbers) are = (wanted-is span one are.0 are.1, wanted-are spans numbers are.2)

  -- indexes of some values that lie between wanted numbers lie between those of spans that have what is wanted
  spans-have : (ranges : List OrdinalRange) (wanted : List Wanted) (held : List Span) (between around : List Numbers) (indexes : List ℤ)
      → have_spans known ranges wanted held ≡ true → AreWanted m wanted between → AreBounds m held around → LieIn ranges indexes
      → LieBetween between indexes → LieBetween around indexes
  spans-have ranges wanted [] between [] indexes is inner outer inside lie = tt
  spans-have ranges wanted [] between (one ∷ around) indexes is inner outer inside lie = absurd outer
  spans-have ranges wanted (span ∷ held) between [] indexes is inner outer inside lie = absurd outer
  spans-have [] [] (span ∷ held) between (own ∷ around) indexes is inner outer inside lie = absurd (cc)
  spans-have (range ∷ ranges) [] (span ∷ held) between (own ∷ around) [] is inner outer inside lie = absurd inside
  spans-have (range ∷ ranges) [] (span ∷ held) between (own ∷ around) (index ∷ indexes) is inner outer inside lie =
      let all : Numbers = record { first = range.first; last = range.last } in
      let want = wanted-is (all_indexes range) all refl refl in
      let parts = and_parts (has_span (wanted_of known (all_indexes range)) span) (have_spans known ranges [] held) is in
      let both = and_parts (le known span.first (constant range.first)) (le known (constant range.last) span.last) parts.0 in
      let below : own.first ≤ℤ range.first = want.from span.first own.first outer.0 both.0 in
      let above : range.last ≤ℤ own.last = want.to span.last own.last outer.1 both.1 in
      let low = inside.0 in
      let high = inside.1 in
      (omega (arith, ints), omega (arith, ints), spans-have ranges [] held [] around indexes parts.1 tt outer.2 inside.2 tt)
  spans-have ranges (want ∷ wanted) (span ∷ held) [] (own ∷ around) indexes is inner outer inside lie = absurd inner
  spans-have ranges (want ∷ wanted) (span ∷ held) (first ∷ between) (own ∷ around) [] is inner outer inside lie = absurd lie
  spans-have ranges (want ∷ wanted) (span ∷ held) (first ∷ between) (own ∷ around) (index ∷ indexes) is inner outer inside lie =
      let parts = and_parts (has_span want span) (have_spans known (drop 1 ranges) wanted held) is in
      let both = and_parts (want.begins span.first) (want.ends span.last) parts.0 in
      let below : own.first ≤ℤ first.first = inner.0.from span.first own.first outer.0 both.0 in
      let above : first.last ≤ℤ own.last = inner.0.to span.last own.last outer.1 both.1 in
      let low = lie.0 in
      let high = lie.1 in (
        omega (arith, ints),
        omega (arith, ints),
        spans-have (drop 1 ranges) wanted held between around indexes parts.1 inner.1 outer.2 (lie-behind ranges index indexes inside) lie.2,
      )

  -- an index between wanted numbers lies between those of a span that has what is wanted
  between-held : (want : Wanted) (span : Span) (own around : Numbers) (index : ℤ) → IsWanted m want own → IsBound m span.first around.first
      → IsBound m span.last around.last → has_span want span ≡ true → own.first ≤ℤ index → index ≤ℤ own.last
      → (around.first ≤ℤ index) × (index ≤ℤ around.last)
  between-held want span own around index wanted first last is low high =
      let both = and_parts (want.begins span.first) (want.ends span.last) is in
      let below : around.first ≤ℤ own.first = wanted.from span.first around.first first both.0 in
      let above : own.last ≤ℤ around.last = wanted.to span.last around.last last both.1 in
      (omega (arith, ints), omega (arith, ints))

  -- they lie between those of one of two lists of spans, of which the one begins in time and the other goes on from it
  spans-join : (ranges : List OrdinalRange) (wanted : List Wanted) (one other : List Span) (between around beyond : List Numbers) (indexes : List ℤ)
      → begin_in_time false known ranges wanted one ≡ true → go_on false known ranges wanted one other ≡ true → AreWanted m wanted between → AreBounds m one
      around
      → AreBounds m other beyond → LieIn ranges indexes → LieBetween between indexes → LieBetween around indexes ⊎ LieBetween beyond indexes
  spans-join ranges [] one other between around beyond indexes begin goes inner first next inside lie = absurd (cc)
  spans-join ranges (want ∷ wanted) [] other between around beyond indexes begin goes inner first next inside lie = absurd (cc)
  spans-join ranges (want ∷ wanted) (span ∷ one) [] between around beyond indexes begin goes inner first next inside lie = absurd (cc)
  spans-join ranges (want ∷ wanted) (span ∷ one) (more ∷ other) [] around beyond indexes begin goes inner first next inside lie = absurd inner
  spans-join ranges (want ∷ wanted) (span ∷ one) (more ∷ other) (own ∷ between) [] beyond indexes begin goes inner first next inside lie = absurd first
  spans-join ranges (want ∷ wanted) (span ∷ one) (more ∷ other) (own ∷ between) (low ∷ around) [] indexes begin goes inner first next inside lie =
      absurd next
  spans-join ranges (want ∷ wanted) (span ∷ one) (more ∷ other) (own ∷ between) (low ∷ around) (high ∷ beyond) [] begin goes inner first next inside lie =
      absurd lie
  spans-join ranges (want ∷ wanted) (span ∷ one) (more ∷ other) (own ∷ between) (low ∷ around) (high ∷ beyond) (index ∷ indexes) begin goes inner first next
      inside lie =
      let beginning = and_parts (want.begins span.first) (have_spans known (drop 1 ranges) wanted one) begin in
      let near = le known more.first (raised_bound (pos 1) span.last) in
      let going = and_parts near (want.ends more.last && have_spans known (drop 1 ranges) wanted other) goes in
      let ending = and_parts (want.ends more.last) (have_spans known (drop 1 ranges) wanted other) going.1 in
      let behind = lie-behind ranges index indexes inside in
      let from : low.first ≤ℤ own.first = inner.0.from span.first low.first first.0 beginning.0 in
      let to : own.last ≤ℤ high.last = inner.0.to more.last high.last next.1 ending.0 in
      let joint : high.first ≤ℤ (low.last +ℤ pos 1) =
      le-is rows m known told more.first (raised_bound (pos 1) span.last) high.first (low.last +ℤ pos 1) next.0 (raised-is m (pos 1) span.last low.last first.1)
      going.0 in
      let above = lie.0 in
      let below = lie.1 in
      by_lt_z low.last index
      (λ beyond_it.
      inr (omega (arith, ints), omega (arith, ints), spans-have (drop 1 ranges) wanted other between beyond indexes ending.1 inner.1 next.2 behind lie.2))
      (λ within_it.
      inl (omega (arith, ints), omega (arith, ints), spans-have (drop 1 ranges) wanted one between around indexes beginning.1 inner.1 first.2 behind lie.2))

  -- the same where they do so behind the first span
  spans-join-behind : (ranges : List OrdinalRange) (wanted : List Wanted) (one other : List Span) (between around beyond : List Numbers) (indexes : List ℤ)
      → begin_in_time true known ranges wanted one ≡ true → go_on true known ranges wanted one other ≡ true → AreWanted m wanted between
      → AreBounds m one around → AreBounds m other beyond → LieIn ranges indexes → LieBetween between indexes
      → LieBetween around indexes ⊎ LieBetween beyond indexes
  spans-join-behind ranges [] one other between around beyond indexes begin goes inner first next inside lie = absurd (cc)
  spans-join-behind ranges (want ∷ wanted) [] other between around beyond indexes begin goes inner first next inside lie = absurd (cc)
  spans-join-behind ranges (want ∷ wanted) (span ∷ one) [] between around beyond indexes begin goes inner first next inside lie = absurd (cc)
  spans-join-behind ranges (want ∷ wanted) (span ∷ one) (more ∷ other) [] around beyond indexes begin goes inner first next inside lie = absurd inner
  spans-join-behind ranges (want ∷ wanted) (span ∷ one) (more ∷ other) (own ∷ between) [] beyond indexes begin goes inner first next inside lie = absurd first
  spans-join-behind ranges (want ∷ wanted) (span ∷ one) (more ∷ other) (own ∷ between) (low ∷ around) [] indexes begin goes inner first next inside lie =
      absurd next
  spans-join-behind ranges (want ∷ wanted) (span ∷ one) (more ∷ other) (own ∷ between) (low ∷ around) (high ∷ beyond) [] begin goes inner first next inside lie
      = absurd lie
  spans-join-behind ranges (want ∷ wanted) (span ∷ one) (more ∷ other) (own ∷ between) (low ∷ around) (high ∷ beyond) (index ∷ indexes) begin goes inner first
      next inside lie =
      let beginning = and_parts (has_span want span) (begin_in_time false known (drop 1 ranges) wanted one) begin in
      let going = and_parts (has_span want more) (go_on false known (drop 1 ranges) wanted one other) goes in
      let here = between-held want span own low index inner.0 first.0 first.1 beginning.0 lie.0 lie.1 in
      let there = between-held want more own high index inner.0 next.0 next.1 going.0 lie.0 lie.1 in
      ⊎_elim (λ by_one. inl (here.0, here.1, by_one)) (λ by_other. inr (there.0, there.1, by_other))
      (spans-join (drop 1 ranges) wanted one other between around beyond indexes beginning.1 going.1 inner.1 first.2 next.2
      (lie-behind ranges index indexes inside) lie.2)

  -- by the first of the spans, or by the second
  spans-join-by : (behind : Bool) (ranges : List OrdinalRange) (wanted : List Wanted) (one other : List Span) (between around beyond : List Numbers)
      (indexes : List ℤ) → begin_in_time behind known ranges wanted one ≡ true → go_on behind known ranges wanted one other ≡ true → AreWanted m wanted between
      → AreBounds m one around → AreBounds m other beyond → LieIn ranges indexes → LieBetween between indexes
      → LieBetween around indexes ⊎ LieBetween beyond indexes
  spans-join-by false = spans-join
  spans-join-by true = spans-join-behind

  -- no index lies in spans of which one is empty
  none-between : (spans : List Span) (numbers : List Numbers) (indexes : List ℤ) → list_any (is_empty known) spans ≡ true → AreBounds m spans numbers
      → LieBetween numbers indexes → ⊥
  none-between [] numbers indexes is are lie = cc
  none-between (span ∷ spans) [] indexes is are lie = are
  none-between (span ∷ spans) (one ∷ numbers) [] is are lie = lie
  none-between (span ∷ spans) (one ∷ numbers) (index ∷ indexes) is are lie =
      let low = lie.0 in
      let high = lie.1 in
      ⊎_elim
      (λ empty.
      let below = lies_below-is rows m known told span.last span.first one.last one.first are.1 are.0 empty in
      omega (arith, ints))
      (λ later. none-between spans numbers indexes later are.2 lie.2) (or_cases (is_empty known span) (list_any (is_empty known) spans) is)

  module _ (ranges : List OrdinalRange) (row : ℕ) (lies : IndexesLie rows row ranges) (wanted : List Wanted) (numbers : List Numbers)
      (are : AreWanted m wanted numbers) where
    -- the components that are wanted, where one that is held has them all
    covered-by : (one : Held) → HeldHolds rows one m → covers known ranges row wanted one ≡ true → AreDefined rows row numbers m
    covered-by (Ordered root other number) holds is = absurd (cc)
    covered-by (Stretched stretch) (around, around_are, each) is =
        let parts = and_parts (nat_eq row stretch.row) (have_spans known ranges wanted stretch.spans) is in
        let same : row ≡ stretch.row = eqb-true row stretch.row parts.0 in
        λ steps index of_row first lie.
        subst (λ (r : ℕ). HasComponent rows m r steps) (sym same)
        (each steps index (subst (λ (r : ℕ). IsOfRow rows r steps) same of_row) first
        (spans-have ranges wanted stretch.spans numbers around (indexes_of steps) parts.1 are around_are (lies steps of_row) lie))

    pub covered : is_covered known ranges row wanted ≡ true → AreDefined rows row numbers m
    covered is =
        let found = any-in (covers known ranges row wanted) known.held is in covered-by found.0 (told.held found.0 found.1) found.2

    -- where two have them together
    joined-by : (behind : Bool) (one other : Held) → HeldHolds rows one m → HeldHolds rows other m → begins known ranges row wanted behind one ≡ true
        → joins known ranges row wanted behind one other ≡ true → AreDefined rows row numbers m
    joined-by behind (Ordered root by number) other holds also begin goes = absurd (cc)
    joined-by behind (Stretched one) (Ordered root by number) holds also begin goes = absurd (cc)
    joined-by behind (Stretched one) (Stretched other) (around, around_are, each) (beyond, beyond_are, more) begin goes =
        let first = and_parts (nat_eq row one.row) (begin_in_time behind known ranges wanted one.spans) begin in
        let next = and_parts (nat_eq row other.row) (go_on behind known ranges wanted one.spans other.spans) goes in
        let same : row ≡ one.row = eqb-true row one.row first.0 in
        let also : row ≡ other.row = eqb-true row other.row next.0 in
        λ steps index of_row at lie.
        ⊎_elim
        (λ inside. subst (λ (r : ℕ). HasComponent rows m r steps) (sym same) (each steps index (subst (λ (r : ℕ). IsOfRow rows r steps) same of_row) at inside))
        (λ inside. subst (λ (r : ℕ). HasComponent rows m r steps) (sym also) (more steps index (subst (λ (r : ℕ). IsOfRow rows r steps) also of_row) at inside))
        (spans-join-by behind ranges wanted one.spans other.spans numbers around beyond (indexes_of steps) first.1 next.1 are around_are beyond_are
        (lies steps of_row) lie)

    pub joined : (behind : Bool) → is_joined known ranges row wanted behind ≡ true → AreDefined rows row numbers m
    joined behind is =
        let begin = begins known ranges row wanted behind in
        let join = joins known ranges row wanted behind in
        let first = any-in (λ one. begin one && list_any (join one) known.held) known.held is in
        let parts = and_parts (begin first.0) (list_any (join first.0) known.held) first.2 in
        let next = any-in (join first.0) known.held parts.1 in
        joined-by behind first.0 next.0 (told.held first.0 first.1) (told.held next.0 next.1) parts.0 next.2

  -- where two have them together by their second spans
  joined-inside : (ranges : List OrdinalRange) (row : ℕ) → IndexesLie rows row ranges → (wanted : List Wanted) (numbers : List Numbers)
      → AreWanted m wanted numbers → is_joined_inside known ranges row wanted ≡ true → AreDefined rows row numbers m
  joined-inside ranges row lies [] numbers are is = absurd (cc)
  joined-inside [] row lies (one ∷ []) numbers are is = absurd (cc)
  joined-inside (first ∷ []) row lies (one ∷ []) numbers are is = absurd (cc)
  joined-inside (first ∷ second ∷ ranges) row lies (one ∷ []) [] are is = absurd are
  joined-inside (first ∷ second ∷ ranges) row lies (one ∷ []) (own ∷ more ∷ numbers) are is = absurd are.1
  joined-inside (first ∷ second ∷ ranges) row lies (one ∷ []) (own ∷ []) are is =
      let all : Numbers = record { first = second.first; last = second.last } in
      let inner = wanted-is (all_indexes second) all refl refl in
      λ steps index of_row at lie.
      joined (first ∷ second ∷ ranges) row lies (one ∷ wanted_of known (all_indexes second) ∷ []) (own ∷ all ∷ []) (are.0, (inner, tt)) true is steps index
      of_row at
      (second-between first second ranges own (indexes_of steps) (lies steps of_row) lie)
  joined-inside ranges row lies (one ∷ two ∷ wanted) numbers are is =
      ⊎_elim (joined ranges row lies (one ∷ two ∷ wanted) numbers are true) (joined ranges row lies (one ∷ two ∷ wanted) numbers are false)
      (or_cases (is_joined known ranges row (one ∷ two ∷ wanted) true) (is_joined known ranges row (one ∷ two ∷ wanted) false) is)

  -- the components that are wanted, where they are had
  pub had : (ranges : List OrdinalRange) (row : ℕ) → IndexesLie rows row ranges → (wanted : List Wanted) (numbers : List Numbers)
      → AreWanted m wanted numbers → is_had known ranges row wanted ≡ true → AreDefined rows row numbers m
  had ranges row lies wanted numbers are is =
      let one = is_covered known ranges row (take 1 wanted) in
      let two = is_joined known ranges row (take 1 wanted) false in
      let blocks = has known.rules Blocks && (one || two) in
      let boxes = has known.rules Boxes && is_joined_inside known ranges row wanted in
      let first = first-wanted m wanted numbers are in
      ⊎_elim (covered ranges row lies wanted numbers are)
      (λ more. ⊎_elim
      (λ by_blocks steps index of_row at lie.
      ⊎_elim (λ by_one. covered ranges row lies (take 1 wanted) (take 1 numbers) first by_one steps index of_row at
      (first-between numbers (indexes_of steps) lie))
      (λ by_two. joined ranges row lies (take 1 wanted) (take 1 numbers) first false by_two steps index of_row at
      (first-between numbers (indexes_of steps) lie))
      (or_cases one two (and_parts (has known.rules Blocks) (one || two) by_blocks).1))
      (λ by_boxes.
      joined-inside ranges row lies wanted numbers are (and_parts (has known.rules Boxes) (is_joined_inside known ranges row wanted) by_boxes).1)
      (or_cases blocks boxes more))
      (or_cases (is_covered known ranges row wanted) (blocks || boxes) is)

-- ---- what is given

-- of two tests one is asked, and what follows from each is so
spanned-by : {A : Type 0} (boxes one other : Bool) → (one ≡ true → A) → (other ≡ true → A) → (if boxes then one else other) ≡ true → A
spanned-by true one other by_one by_other is = by_one is
spanned-by false one other by_one by_other is = by_other is

module _ (rows : List Parts) (table : Table) (are : AreRows rows table) (env : Environment) (shows : Shows table.variables env) (store : Store)
    (numbers : HoldNumbers table.ordinal (moment env store)) (known : Facts)
    (holds : FactsHold rows known (moment env store)) where
  abbrev m : Moment
  m = moment env store

  told : IsTold rows m known
  told = told-of rows table are env shows store known holds

  -- an ordinal variable that has a value has a number
  number-of : (root : ℕ) → table.ordinal root ≡ true → HasValue m root [] → (n : ℤ) × HasNumber m root n
  number-of root told (v, is) = let number = numbers root v told is in (number.0, is ∙ ap Some number.1)

  -- a variable that has a number
  pub number-is : (root : ℕ) → has_number table (Live known) root ≡ true → (n : ℤ) × HasNumber m root n
  number-is root is =
      let parts = and_parts (nat_lt root table.variables) (table.ordinal root && (row_at known root).is_defined) is in
      let both = and_parts (table.ordinal root) (row_at known root).is_defined parts.1 in
      number-of root both.0 (whole-own rows table are m root (ltb-true root table.variables parts.0) (holds.defined root both.1))

  value-by : (root : Option ℕ) (k : ℤ) → (bound : Bound) → bound.root ≡ root → has_value table (Live known) bound ≡ true → (n : ℤ) × IsBoundBy m root k n
  value-by None k bound root_is is = (k, refl)
  value-by (Some root) k bound root_is is =
      let has = number-is root (sym (ap (λ (r : Option ℕ). has_value table (Live known) (record { root = r; number = k })) root_is) ∙ is) in
      (has.0 +ℤ k, (has.0, has.1, refl))

  -- a bound that has a value is a number
  pub value-is : (bound : Bound) → has_value table (Live known) bound ≡ true → (n : ℤ) × IsBound m bound n
  value-is bound is = value-by bound.root bound.number bound refl is

  values-are : (spans : List Span) → have_values table (Live known) spans ≡ true → (numbers : List Numbers) × AreBounds m spans numbers
  values-are [] is = ([], tt)
  values-are (span ∷ spans) is =
      let parts = and_parts (has_values table (Live known) span) (have_values table (Live known) spans) is in
      let both = and_parts (has_value table (Live known) span.first) (has_value table (Live known) span.last) parts.0 in
      let first = value-is span.first both.0 in
      let last = value-is span.last both.1 in
      let rest = values-are spans parts.1 in
      (record { first = first.0; last = last.0 } ∷ rest.0, (first.1, last.1, rest.1))

  spanned-whole : (row : ℕ) (ranges : List OrdinalRange) → IndexesLie rows row ranges → is_spanned known row ranges ≡ true → IsWhole rows row m
  spanned-whole row [] lies is = absurd (cc)
  spanned-whole row (range ∷ ranges) lies is = λ steps of_row.
      let (index, first, low, high) = first-lies range ranges steps (lies steps of_row) in
      let all = first-of steps index first in
      let values : Numbers = record { first = range.first; last = range.last } in
      let wanted = wanted_of known (all_indexes range) ∷ [] in
      let asked : AreWanted m wanted (values ∷ []) = (wanted-is rows m known told (all_indexes range) values refl refl, tt) in
      spanned-by (has known.rules Boxes) (is_had known (range ∷ ranges) row wanted) (is_covered known (range ∷ ranges) row wanted)
      (had rows m known told (range ∷ ranges) row lies wanted (values ∷ []) asked)
      (covered rows m known told (range ∷ ranges) row lies wanted (values ∷ []) asked)
      is steps index of_row first (subst (LieBetween (values ∷ [])) (sym all.1) (low, high, tt))

  -- each component of a row
  pub whole-holds : (row : ℕ) → is_whole table known row ≡ true → IsWhole rows row m
  whole-holds row is =
      ⊎_elim (λ own. holds.defined row own) (λ spanned. spanned-whole row (table.indexes row) (are.indexes row) spanned)
      (or_cases (row_at known row).is_defined (is_spanned known row (table.indexes row)) is)

  stretch-given : (stretch : Stretch) → gives_stretch table known stretch ≡ true → StretchHolds rows stretch m
  stretch-given stretch is =
      let empty = list_any (is_empty known) stretch.spans in
      let whole = is_whole table known stretch.row in
      let any = is_had known (table.indexes stretch.row) stretch.row (map (wanted_of known) stretch.spans) in
      let parts = and_parts (have_values table (Live known) stretch.spans) (empty || (whole || any)) is in
      let values = values-are stretch.spans parts.0 in (
        values.0,
        values.1,
        λ steps index of_row first lie.
            ⊎_elim (λ none. absurd (none-between rows m known told stretch.spans values.0 (indexes_of steps) none values.1 lie))
            (λ rest. ⊎_elim (λ all. whole-holds stretch.row all steps of_row)
            (λ some.
            had rows m known told (table.indexes stretch.row) stretch.row (are.indexes stretch.row) (map (wanted_of known) stretch.spans) values.0
            (wanted-are rows m known told stretch.spans values.0 values.1) some steps index of_row first lie)
            (or_cases whole any rest))
            (or_cases empty (whole || any) parts.1),
      )

  pub held-given : (one : Held) → gives table known one ≡ true → HeldHolds rows one m
  held-given (Stretched stretch) is = stretch-given stretch is
  held-given (Ordered root other number) is =
      let below = le known (plus root (pos 0)) (plus other number) in
      let one = and_parts (has_number table (Live known) root) (has_number table (Live known) other && below) is in
      let two = and_parts (has_number table (Live known) other) below one.1 in
      let x = number-is root one.0 in
      let y = number-is other two.0 in
      let less = le-is rows m known told (plus root (pos 0)) (plus other number) (x.0 +ℤ pos 0) (y.0 +ℤ number) (x.0, x.1, refl) (y.0, y.1, refl) two.1 in
      (x.0, y.0, x.1, y.1, omega (arith, ints, less))

  pub claim-given : (claim : Claim) → gives_claim table known claim ≡ true → Holds rows claim m
  claim-given (Range row range) is = λ steps v of_row there. included-in (row_at known row).range range v is (holds.ranges row steps v of_row there)
  claim-given (Defined row) is = whole-holds row is
  claim-given (Holding one) is = held-given one is

state-given : (rows : List Parts) (table : Table) → AreRows rows table → (env : Environment) → Shows table.variables env → (store : Store)
    → HoldNumbers table.ordinal (moment env store) → (state : State) (claim : Claim)
    → StateHolds rows state (moment env store) → state_gives table state claim ≡ true → Holds rows claim (moment env store)
state-given rows table are env shows store numbers Dead claim holds is = absurd holds
state-given rows table are env shows store numbers (Live known) claim holds is =
    claim-given rows table are env shows store numbers known holds claim is

-- where each component of a row is defined, what may be held of that is so
pub whole-told : (rows : List Parts) (m : Moment) (row : ℕ) (index : Option OrdinalRange) → IsWhole rows row m → Holds rows (all_of_row index row) m
whole-told rows m row None whole = whole
whole-told rows m row (Some range) whole =
    (record { first = range.first; last = range.last } ∷ [], (refl, refl, tt), λ steps index of_row at lie. whole steps of_row)

pub given-holds : GivenHolds
given-holds rows table are env state store claim numbers known is =
    state-given rows table are env known.shows store numbers state claim known.holds is
