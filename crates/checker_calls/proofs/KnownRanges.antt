-- Ranges by numbers: where values lie by the facts at the end of a block, and what calls change of rows and types.
use Rattle.std.proofs.Common.{arith, ◌≡◌, ◌∙◌, sym, ap, refl, ℕ, ◌+◌, ◌-◌, ◌<◌, ◌≤◌, Bool, true, false, cond, ◌&&◌, ◌||◌, nat_eq, List, [], ◌∷◌, ◌++◌}
use Rattle.std.proofs.Common.{get_or, length, map, take, Option, Some, None}
use Rattle.std.specs.HashSet.{HashSet, contains}
use Rattle.std.specs.List.{list_any, range_with_len}
use Rattle.std.specs.Option.{is_some}
use Rattle.std.proofs.lemmas.Bool.{eqb-true}
use Rattle.std.proofs.lemmas.Bool.Decides.{nat_tests}
use Rattle.std.proofs.lemmas.Int.{clamps, ints}
use Rattle.std.proofs.lemmas.List.{take_more}
use Rattle.std.proofs.lemmas.List.Folds.{list_any-append}
use Rattle.types.specs.declared.form.TypeId.{TypeId}
use Rattle.typed_tree.specs.declared.tree.Tree.{Tree}
use Rattle.domain.specs.Interval.{Interval, common, is_vacant, joined}
use Rattle.domain.specs.Facts.{Fact}
use Rattle.certificate.specs.declared.facts.Fact.{Fact as KeptFact}
use Rattle.certificate.specs.Contents.{said_fact}
use Rattle.checker_state.specs.Loops.{is_among}
use Rattle.checker_state.specs.Stores.{Reach, is_entire}
use Rattle.checker_state.specs.View.{said_reach}
use Rattle.checker_loops.proofs.Claimed.{mapped-more}
use Rattle.checker_loops.proofs.Stepped.{rows-more, rows_to}
use Rattle.checker_loops.specs.Aliases.{same_types}
use Rattle.checker_calls.specs.declared.changes.Change.{Change as KeptChange}
use Rattle.checker_calls.specs.declared.ranges.Ranges.{Ranges}
use Rattle.checker_calls.specs.Actuals.{Reached}
use Rattle.checker_calls.specs.Exit.{Change, all_joined, claimed_of_row, exit_range, is_row}
use Rattle.checker_calls.specs.ExitView.{AreRoots, AreRows, AreTypes, HasRange, added, common_of, joined_with, just, known_at, known_of, met}
use Rattle.checker_calls.specs.ExitView.{range_at, said_change}
use Rattle.checker_calls.proofs.RowsBehind.{all-common, just-more}
use Rattle.checker_calls.proofs.Spans.{among-past}

or-some : (a : Bool) → (a || true) ≡ true
or-some true = refl
or-some false = refl

or-none : (a : Bool) → (a || false) ≡ a
or-none true = refl
or-none false = refl

and-none : (a : Bool) → (a && false) ≡ false
and-none true = refl
and-none false = refl

same-numbers : (a b : ℕ) → nat_eq a b ≡ nat_eq b a
same-numbers a b = grind (arith, nat_tests)

-- one more is among some
among-more : (numbers : List ℕ) (number other : ℕ) → is_among other (numbers ++ number ∷ []) ≡ (is_among other numbers || (nat_eq number other || false))
among-more numbers number other = list_any-append (λ one. nat_eq one other) numbers (number ∷ [])

-- ---- the facts at the end of a block

known-set : (tree : Tree) (mid new : Ranges) (row : ℕ) (both : Interval) (other : ℕ) (same : Bool) → nat_eq row other ≡ same → HasRange row both mid new
    → known_at tree new other ≡ cond same both (known_at tree mid other)
known-set tree mid new row both other true is has =
    ap (known_of tree other) (has other ∙ ap (λ b. cond b (Some both) (range_at mid other)) is)
known-set tree mid new row both other false is has =
    ap (known_of tree other) (has other ∙ ap (λ b. cond b (Some both) (range_at mid other)) is)

-- the values of some rows lie in a range
abbrev pub AreMet : Tree → Interval → (old new : Ranges) → List ℕ → Type 0
AreMet tree range old new rows = (row : ℕ)
    → known_at tree new row ≡ cond (is_among row rows) (common (known_at tree old row) range) (known_at tree old row)

met-row : (tree : Tree) (first row other : ℕ) (range both : Interval) (old mid new : Ranges) (same : Bool) → nat_eq row other ≡ same → first ≤ row
    → AreMet tree range old mid (rows_to first row) → both ≡ common (known_at tree mid row) range → HasRange row both mid new
    → known_at tree new other
    ≡ cond (is_among other (rows_to first row) || (same || false)) (common (known_at tree old other) range) (known_at tree old other)
met-row tree first row other range both old mid new true is from known both_is has =
    let before : is_among row (rows_to first row) ≡ false = among-past (row - first) first row (omega (arith, from)) in
    known-set tree mid new row both other true is has ∙ both_is
    ∙ ap (λ r. common r range) (known row ∙ ap (λ b. cond b (common (known_at tree old row) range) (known_at tree old row)) before)
    ∙ ap (λ n. common (known_at tree old n) range) (eqb-true row other is)
    ∙ sym (ap (λ b. cond b (common (known_at tree old other) range) (known_at tree old other)) (or-some (is_among other (rows_to first row))))
met-row tree first row other range both old mid new false is from known both_is has =
    known-set tree mid new row both other false is has ∙ known other
    ∙ sym (ap (λ b. cond b (common (known_at tree old other) range) (known_at tree old other)) (or-none (is_among other (rows_to first row))))

-- those of none
pub none-met : (tree : Tree) (range : Interval) (known : Ranges) (first : ℕ) → AreMet tree range known known (rows_to first first)
none-met tree range known first = λ row.
    sym (ap (λ b. cond b (common (known_at tree known row) range) (known_at tree known row)) (none row))
  where
    none : (row : ℕ) → is_among row (rows_to first first) ≡ false
    none row = let e : first - first ≡ 0 = omega arith in ap (λ n. is_among row (range_with_len first n)) e

-- and of one more
pub more-met : (tree : Tree) (first row : ℕ) (range both : Interval) (old mid new : Ranges) → first ≤ row → AreMet tree range old mid (rows_to first row)
    → both ≡ common (known_at tree mid row) range → HasRange row both mid new → AreMet tree range old new (rows_to first (row + 1))
more-met tree first row range both old mid new from known both_is has = λ other.
    met-row tree first row other range both old mid new (nat_eq row other) refl from known both_is has
    ∙ sym (ap (λ b. cond b (common (known_at tree old other) range) (known_at tree old other))
    (ap (is_among other) (rows-more first row from) ∙ among-more (rows_to first row) row other))

-- a fact more
exit-push : (tree : Tree) (row : ℕ) (facts : List Fact) (fact : Fact) (known : Interval)
    → exit_range tree row (facts ++ fact ∷ []) known ≡ claimed_of_row tree row fact (exit_range tree row facts known)
exit-push tree row [] fact known = refl
exit-push tree row (one ∷ facts) fact known = exit-push tree row facts fact (claimed_of_row tree row one known)

pub exit-more : (tree : Tree) (row : ℕ) (facts : List KeptFact) (i : ℕ) (fact : KeptFact) (limits known now : Interval) → i < length facts
    → fact ≡ get_or facts i fact → known ≡ exit_range tree row (map said_fact (take i facts)) limits
    → now ≡ claimed_of_row tree row (said_fact fact) known → now ≡ exit_range tree row (map said_fact (take (i + 1) facts)) limits
exit-more tree row facts i fact limits known now inside is so_far here =
    here ∙ ap (claimed_of_row tree row (said_fact fact)) so_far
    ∙ sym (exit-push tree row (map said_fact (take i facts)) (said_fact fact) limits)
    ∙ ap (λ all. exit_range tree row all limits) (mapped-more said_fact facts i fact inside is)

-- ---- variables

root-cases : (a b : Bool) → cond b true a ≡ (a || (b || false))
root-cases a true = sym (or-some a)
root-cases a false = sym (or-none a)

pub roots-more : {S : Type 0} (roots : List ℕ) (i root : ℕ) (old new : HashSet ℕ S) → i < length roots → root ≡ get_or roots i root
    → AreRoots (take i roots) old → ((other : ℕ) → contains nat_eq new other ≡ cond (nat_eq root other) true (contains nat_eq old other))
    → AreRoots (take (i + 1) roots) new
roots-more roots i root old new inside is so_far has = λ other.
    has other ∙ root-cases (contains nat_eq old other) (nat_eq root other) ∙ ap (λ a. a || (nat_eq root other || false)) (so_far other)
    ∙ sym (among-more (take i roots) root other)
    ∙ ap (λ last. is_among other (take i roots ++ last ∷ [])) is
    ∙ ap (is_among other) (sym (take_more roots i root inside))

-- ---- rows

common-push : (changes : List Change) (change : Change) → common_of (changes ++ change ∷ []) ≡ Some (met (common_of changes) change.range)
common-push [] change = refl
common-push (one ∷ changes) change = ap Some (all-common changes change one.range)

just-row : (row other : ℕ) (reach : Reach) (same : Bool) → is_entire reach ≡ true → nat_eq row other ≡ same → is_row other (Reached row reach) ≡ same
just-row row other reach true entire is =
    ap (λ b. nat_eq other row && b) entire ∙ ap (λ b. b && true) (same-numbers other row ∙ is)
just-row row other reach false entire is =
    ap (λ b. nat_eq other row && b) entire ∙ ap (λ b. b && true) (same-numbers other row ∙ is)

row-here : (changes : List Change) (change : Change) (row other : ℕ) (reach : Reach) (all : Interval) (old new : Ranges) (same : Bool)
    → nat_eq row other ≡ same → change.bearer ≡ Reached row reach → is_entire reach ≡ true → AreRows changes old
    → all ≡ met (range_at old row) change.range → HasRange row all old new
    → range_at new other ≡ common_of (just other (changes ++ change ∷ []))
row-here changes change row other reach all old new true is shape entire so_far all_is has =
    has other ∙ ap (λ b. cond b (Some all) (range_at old other)) is ∙ ap Some all_is
    ∙ ap (λ known. Some (met known change.range)) (ap (range_at old) (eqb-true row other is) ∙ so_far other)
    ∙ sym (common-push (just other changes) change)
    ∙ ap common_of (sym (just-more other changes change true (ap (is_row other) shape ∙ just-row row other reach true entire is)))
row-here changes change row other reach all old new false is shape entire so_far all_is has =
    has other ∙ ap (λ b. cond b (Some all) (range_at old other)) is ∙ so_far other
    ∙ ap common_of (sym (just-more other changes change false (ap (is_row other) shape ∙ just-row row other reach false entire is)))

-- all of a row is changed
pub rows-set : (changes : List KeptChange) (i : ℕ) (change : KeptChange) (all : Interval) (old new : Ranges) → i < length changes
    → change ≡ get_or changes i change → is_entire (said_reach change.reach) ≡ true → AreRows (map said_change (take i changes)) old
    → all ≡ met (range_at old change.row) change.range → HasRange change.row all old new → AreRows (map said_change (take (i + 1) changes)) new
rows-set changes i change all old new inside is entire so_far all_is has = λ other.
    row-here (map said_change (take i changes)) (said_change change) change.row other (said_reach change.reach) all old new (nat_eq change.row other) refl
    refl entire so_far all_is has
    ∙ ap (λ some. common_of (just other some)) (mapped-more said_change changes i change inside is)

-- a part of one is
pub rows-kept : (changes : List KeptChange) (i : ℕ) (change : KeptChange) (rows : Ranges) → i < length changes
    → change ≡ get_or changes i change → is_entire (said_reach change.reach) ≡ false → AreRows (map said_change (take i changes)) rows
    → AreRows (map said_change (take (i + 1) changes)) rows
rows-kept changes i change rows inside is part so_far = λ other.
    so_far other
    ∙ ap common_of
    (sym (just-more other (map said_change (take i changes)) (said_change change) false
    (ap (λ b. nat_eq other change.row && b) part ∙ and-none (nat_eq other change.row))))
    ∙ ap (λ some. common_of (just other some)) (mapped-more said_change changes i change inside is)

any-cases : (b : Bool) (change : Change) (rest : List Change) (any : Bool) → is_some (common_of rest) ≡ any
    → is_some (common_of (cond b (change ∷ rest) rest)) ≡ (b || any)
any-cases true change rest any is = refl
any-cases false change rest any is = is

-- there are changes of all of a row, or there is none
pub any-just : (row : ℕ) (changes : List Change) → is_some (common_of (just row changes)) ≡ list_any (λ change. is_row row change.bearer) changes
any-just row [] = refl
any-just row (change ∷ changes) =
    any-cases (is_row row change.bearer) change (just row changes) (list_any (λ one. is_row row one.bearer) changes) (any-just row changes)

-- ---- types

joined-push : (type_id : Option TypeId) (changes : List Change) (change : Change) (range : Interval)
    → all_joined type_id (changes ++ change ∷ []) range
    ≡ cond (same_types type_id change.type_id) (joined (all_joined type_id changes range) change.range) (all_joined type_id changes range)
joined-push type_id [] change range = refl
joined-push type_id (one ∷ changes) change range =
    joined-push type_id changes change (cond (same_types type_id one.type_id) (joined range one.range) range)

joined-both : (a b c : Interval) → joined a (joined b c) ≡ joined (joined a b) c
joined-both a b c = by (is_vacant a) (is_vacant b) (is_vacant c) refl refl refl
  where
    by : (p q r : Bool) → is_vacant a ≡ p → is_vacant b ≡ q → is_vacant c ≡ r → joined a (joined b c) ≡ joined (joined a b) c
    by p q r first second third = grind (arith, ints, clamps)

-- values beside those of some changes
joined-added : (known : Option Interval) (range more : Interval) → joined (joined_with known range) more ≡ joined_with (Some (added known more)) range
joined-added None range more = refl
joined-added (Some known) range more = sym (joined-both range known more)

no-type : (type_id : Option TypeId) → same_types type_id None ≡ false
no-type None = refl
no-type (Some id) = refl

type-here : (changes : List Change) (change : Change) (id one : TypeId) (range all : Interval) (old new : Ranges) (same : Bool)
    → nat_eq id.index one.index ≡ same → change.type_id ≡ Some id → AreTypes changes old
    → all ≡ added (range_at old id.index) change.range → HasRange id.index all old new
    → joined_with (range_at new one.index) range ≡ all_joined (Some one) (changes ++ change ∷ []) range
type-here changes change id one range all old new true is type_is so_far all_is has =
    let known = range_at old id.index in
    ap (λ found. joined_with found range) (has one.index ∙ ap (λ b. cond b (Some all) (range_at old one.index)) is ∙ ap Some all_is)
    ∙ sym (joined-added known range change.range)
    ∙ ap (λ found. joined (joined_with (range_at old found) range) change.range) (eqb-true id.index one.index is)
    ∙ ap (λ r. joined r change.range) (so_far (Some one) range)
    ∙ sym (joined-push (Some one) changes change range
    ∙ ap (λ b. cond b (joined (all_joined (Some one) changes range) change.range) (all_joined (Some one) changes range))
    (ap (same_types (Some one)) type_is ∙ same-numbers one.index id.index ∙ is))
type-here changes change id one range all old new false is type_is so_far all_is has =
    ap (λ found. joined_with found range) (has one.index ∙ ap (λ b. cond b (Some all) (range_at old one.index)) is)
    ∙ so_far (Some one) range
    ∙ sym (joined-push (Some one) changes change range
    ∙ ap (λ b. cond b (joined (all_joined (Some one) changes range) change.range) (all_joined (Some one) changes range))
    (ap (same_types (Some one)) type_is ∙ same-numbers one.index id.index ∙ is))

types-push : (changes : List Change) (change : Change) (id : TypeId) (all : Interval) (old new : Ranges) → change.type_id ≡ Some id → AreTypes changes old
    → all ≡ added (range_at old id.index) change.range → HasRange id.index all old new → AreTypes (changes ++ change ∷ []) new
types-push changes change id all old new type_is so_far all_is has None range =
    so_far None range ∙ sym (joined-push None changes change range)
types-push changes change id all old new type_is so_far all_is has (Some one) range =
    type-here changes change id one range all old new (nat_eq id.index one.index) refl type_is so_far all_is has

-- one of a type is changed
pub types-set : (changes : List KeptChange) (i : ℕ) (change : KeptChange) (id : TypeId) (all : Interval) (old new : Ranges) → i < length changes
    → change ≡ get_or changes i change → change.type_id ≡ Some id → AreTypes (map said_change (take i changes)) old
    → all ≡ added (range_at old id.index) change.range → HasRange id.index all old new → AreTypes (map said_change (take (i + 1) changes)) new
types-set changes i change id all old new inside is type_is so_far all_is has = λ type_id range.
    types-push (map said_change (take i changes)) (said_change change) id all old new type_is so_far all_is has type_id range
    ∙ ap (λ some. all_joined type_id some range) (mapped-more said_change changes i change inside is)

-- one of none is
pub types-kept : (changes : List KeptChange) (i : ℕ) (change : KeptChange) (types : Ranges) → i < length changes
    → change ≡ get_or changes i change → change.type_id ≡ None → AreTypes (map said_change (take i changes)) types
    → AreTypes (map said_change (take (i + 1) changes)) types
types-kept changes i change types inside is type_is so_far = λ type_id range.
    let before = map said_change (take i changes) in
    so_far type_id range
    ∙ sym (joined-push type_id before (said_change change) range
    ∙ ap (λ b. cond b (joined (all_joined type_id before range) change.range) (all_joined type_id before range))
    (ap (same_types type_id) type_is ∙ no-type type_id))
    ∙ ap (λ some. all_joined type_id some range) (mapped-more said_change changes i change inside is)
