-- The widest certificate names what the program has, has no facts, and lists all that it may.
use Rattle.std.proofs.Common.{arith, ◌≡◌, ◌⊎◌, ⊎_elim, ◌∙◌, sym, ap, ap₂, refl, subst, ℕ, zero}
use Rattle.std.proofs.Common.{suc, ◌+◌, ◌<◌, ◌≤◌, Bool, true, false, cond, not, ◌&&◌, inl, inr}
use Rattle.std.proofs.Common.{nat_eq, List, [], ◌∷◌, length, map, filter, Option, Some, None}
use Rattle.std.specs.List.{Contains, list_all, range_with_len}
use Rattle.std.specs.Prelude.{flat_map, nat_lt, slice_get}
use Rattle.std.proofs.lemmas.Bool.{and_from, and_parts, eq-eqb, cases_lt, eqb-true, false≢true, or_cases, or_left, or_right}
use Rattle.std.proofs.lemmas.List.{get_or_read, length-map}
use Rattle.std.proofs.lemmas.List.FromFn.{get_or-range_with_len, length-range_with_len}
use Rattle.std.proofs.lemmas.Option.{none-some, slice_get_within}
use Rattle.typed_tree.specs.declared.tree.Loop.{Loop}
use Rattle.typed_tree.specs.declared.tree.Tree.{Tree}
use Rattle.typed_tree.specs.declared.tree.Variable.{Variable}
use Rattle.typed_tree.specs.WellFormed.{encloses, heading_of, is_round, is_variable_kind, is_visible, of_one, outline_of}
use Rattle.certificate.specs.declared.AliasPair.{AliasPair}
use Rattle.certificate.specs.declared.Certificate.{Certificate}
use Rattle.certificate.specs.declared.LoopClaims.{LoopClaims as KeptLoop}
use Rattle.certificate.specs.declared.Section.{Section as KeptSection}
use Rattle.certificate.specs.Contents.{LoopClaims, Section, contents, is_empty, loop_of, said_fact, section_of as contents_of}
use Rattle.checker_loops.specs.Loops.{claims_of, found_among, found_in, or_else}
use Rattle.checker_loops.specs.Sections.{all_pairs, block_claims_in, pair_of}
use Rattle.checker_loops.proofs.Lists.{contains-more, filtered, in-flat, in-map, of-flat, of-map}
use Rattle.checker_calls.specs.Names.{block_is_known, claims_are_known, exit_is_known, fact_is_on, has_parameter, is_known, is_of_loops, is_outward}
use Rattle.checker_calls.specs.Names.{is_round_about, is_variable_parameter, loop_fact_is_known, pair_is_known, section_is_known, stands_in}
use Rattle.checker_calls.specs.Plain.{HasNoFacts, IsOfRoutine, ListsAll, is_plain, is_plain_loop}
use Rattle.plain_certificate.specs.Widest.{block_loops, block_pairs, is_vacant, loop_with, loops_of, loops_with, may_pair, outward_roots, paired_roots}
use Rattle.plain_certificate.specs.Widest.{pairs_of, parameters_of, roots_where, section_of, visible_roots, widest}
use Rattle.plain_certificate.proofs.Items.{all-from, in-filter, in-range, is-less}

-- ---- lists

none-in : {A : Type 0} (item : A) → Contains [] item → ⊥
none-in item inside = omega (arith, inside.1)

not-empty : {A : Type 0} (items : List A) (item : A) → Contains items item → is_empty items ≡ false
not-empty [] item inside = absurd (none-in item inside)
not-empty (first ∷ items) item inside = refl

-- one that is at least another, and not that one, is greater
next : (start block : ℕ) → nat_eq start block ≡ false → start ≤ block → start + 1 ≤ block
next start block other least =
    ⊎_elim (λ less. omega (arith, less))
    (λ most. absurd (false≢true (sym other ∙ eq-eqb start block (omega (arith, least, most))))) (cases_lt start block)

next-back : (start block : ℕ) → nat_eq block start ≡ false → start ≤ block → start + 1 ≤ block
next-back start block other least =
    ⊎_elim (λ less. omega (arith, less))
    (λ most. absurd (false≢true (sym other ∙ eq-eqb block start (omega (arith, least, most))))) (cases_lt start block)

-- of nothing nothing is made
none-mapped : {A B : Type 0} (f : A → B) (items : List A) → map f items ≡ [] → items ≡ []
none-mapped f [] is = refl
none-mapped f (first ∷ items) is = absurd (cc)

-- what is made of something is made of items that are there
mapped-from : {A B : Type 0} (f : A → B) (items : List A) (made : List B) (item : A) → map f items ≡ made → Contains items item → Contains made (f item)
mapped-from f items made item is inside = subst (λ (all : List _). Contains all (f item)) is (in-map f items item inside)

passing : {A : Type 0} (test : A → Bool) (items : List A) → list_all test (filter test items) ≡ true
passing test items = all-from test (filter test items) (λ item inside. (filtered test items item inside).1)

either-item : {A : Type 0} (x : A) (test : Bool) (one other : List A) → Contains (cond test one other) x
    → ((test ≡ true) × Contains one x) ⊎ ((test ≡ false) × Contains other x)
either-item x true one other inside = inl (refl, inside)
either-item x false one other inside = inr (refl, inside)

module _ (tree : Tree) where
  -- ---- variables

  in-roots : (test : ℕ → Bool) (root : ℕ) (variable : Variable) → slice_get tree.variables.items root ≡ Some variable → test root ≡ true
      → Contains (roots_where tree test) root
  in-roots test root variable is passes =
      let within = slice_get_within tree.variables.items root variable is in
      in-filter test (range_with_len 0 (length tree.variables.items)) root
      (in-range 0 (length tree.variables.items) root (omega arith) (omega (arith, within))) passes

  there : (test : Variable → Bool) (root : ℕ) → of_one test (slice_get tree.variables.items root) ≡ true
      → (variable : Variable) × (slice_get tree.variables.items root ≡ Some variable)
  there test root is = by (slice_get tree.variables.items root) refl
    where
      by : (found : Option Variable) → slice_get tree.variables.items root ≡ found
          → (variable : Variable) × (slice_get tree.variables.items root ≡ Some variable)
      by (Some variable) found_is = (variable, found_is)
      by None found_is = absurd (false≢true (sym (ap (of_one test) found_is) ∙ is))

  visible-there : (block root : ℕ) → is_visible (outline_of tree) block root ≡ true → Contains (visible_roots tree block) root
  visible-there block root is =
      let found = there (λ v. is_round (outline_of tree) block v.block) root is in
      in-roots (is_visible (outline_of tree) block) root found.0 found.1 is

  outward-there : (block root : ℕ) → is_outward tree block root ≡ true → Contains (outward_roots tree block) root
  outward-there block root is =
      let seen = (and_parts (is_visible (outline_of tree) block root) _ is).0 in
      let found = there (λ v. is_round (outline_of tree) block v.block) root seen in
      in-roots (is_outward tree block) root found.0 found.1 is

  parameter-there : (block root : ℕ) → is_variable_parameter tree block root ≡ true → Contains (parameters_of tree block) root
  parameter-there block root is =
      let found = there (λ v. nat_eq v.block block && is_variable_kind v.kind) root is in
      in-roots (is_variable_parameter tree block) root found.0 found.1 is

  paired-there : (block root : ℕ) → may_pair tree block root ≡ true → Contains (paired_roots tree block) root
  paired-there block root is =
      ⊎_elim
      (λ parameter.
      let found = there (λ v. nat_eq v.block block && is_variable_kind v.kind) root parameter in
      in-roots (may_pair tree block) root found.0 found.1 is)
      (λ round.
      let outward = (and_parts (is_outward tree block root) _ round).0 in
      let seen = (and_parts (is_visible (outline_of tree) block root) _ outward).0 in
      let found = there (λ v. is_round (outline_of tree) block v.block) root seen in
      in-roots (may_pair tree block) root found.0 found.1 is)
      (or_cases (is_variable_parameter tree block root) (is_round_about tree block root) is)

  -- ---- pairs

  abbrev pair : ℕ → ℕ → AliasPair
  pair first second = record { first = first; second = second }

  pair-with : (block first second : ℕ) → first < second → may_pair tree block first ≡ true
      → Contains (cond (is_variable_parameter tree block first) (paired_roots tree block) (parameters_of tree block)) second
      → Contains (block_pairs tree block) (pair first second)
  pair-with block first second less may other =
      let others = cond (is_variable_parameter tree block first) (paired_roots tree block) (parameters_of tree block) in
      in-flat (pairs_of tree block) (paired_roots tree block) first (pair first second) (paired-there block first may)
      (in-map (pair first) (filter (nat_lt first) others) second (in-filter (nat_lt first) others second other (is-less first second less)))

  pair-there : (block : ℕ) (pair : AliasPair) → pair.first < pair.second → pair_is_known tree block pair ≡ true → Contains (block_pairs tree block) pair
  pair-there block one less is =
      let first = one.first in
      let second = one.second in
      let others = λ (b : Bool). cond b (paired_roots tree block) (parameters_of tree block) in
      ⊎_elim
      (λ (before : has_parameter tree block first second ≡ true).
      let parts = and_parts (is_variable_parameter tree block first) (may_pair tree block second) before in
      pair-with block first second less (or_left (is_variable_parameter tree block first) (is_round_about tree block first) parts.0)
      (subst (λ (b : Bool). Contains (others b) second) (sym parts.0) (paired-there block second parts.1)))
      (λ (other : has_parameter tree block second first ≡ true).
      let parts = and_parts (is_variable_parameter tree block second) (may_pair tree block first) other in
      pair-with block first second less parts.1 (by (is_variable_parameter tree block first) second parts.0))
      (or_cases (has_parameter tree block first second) (has_parameter tree block second first) is)
    where
      by : (b : Bool) (second : ℕ) → is_variable_parameter tree block second ≡ true
          → Contains (cond b (paired_roots tree block) (parameters_of tree block)) second
      by true second parameter =
          paired-there block second (or_left (is_variable_parameter tree block second) (is_round_about tree block second) parameter)
      by false second parameter = parameter-there block second parameter

  pair-known : (block : ℕ) (pair : AliasPair) → Contains (block_pairs tree block) pair → pair_is_known tree block pair ≡ true
  pair-known block one inside =
      let of = of-flat (pairs_of tree block) (paired_roots tree block) one inside in
      let first = of.0 in
      let may = (filtered (may_pair tree block) _ first of.1).1 in
      let others = cond (is_variable_parameter tree block first) (paired_roots tree block) (parameters_of tree block) in
      let made = of-map (pair first) (filter (nat_lt first) others) one of.2 in
      let second = made.0 in
      let among = (filtered (nat_lt first) others second made.1).0 in
      subst (λ (one : AliasPair). pair_is_known tree block one ≡ true) made.2
      (⊎_elim
      (λ both.
      or_left (has_parameter tree block first second) (has_parameter tree block second first)
      (and_from (is_variable_parameter tree block first) (may_pair tree block second) both.0
      (filtered (may_pair tree block) _ second both.1).1))
      (λ both.
      or_right (has_parameter tree block first second) (has_parameter tree block second first)
      (and_from (is_variable_parameter tree block second) (may_pair tree block first)
      (filtered (is_variable_parameter tree block) _ second both.1).1 may))
      (either-item second (is_variable_parameter tree block first) (paired_roots tree block) (parameters_of tree block) among))

  -- ---- loops

  in-with : (roots numbers : List ℕ) (number root : ℕ) → Contains roots root → Contains numbers number
      → Contains (loops_with roots numbers) (loop_with roots number)
  in-with [] numbers number root inside one = absurd (none-in root inside)
  in-with (first ∷ roots) numbers number root inside one = in-map (loop_with (first ∷ roots)) numbers number one

  of-with : (roots numbers : List ℕ) (claims : LoopClaims) → Contains (loops_with roots numbers) claims
      → (number : ℕ) × Contains numbers number × (loop_with roots number ≡ claims)
  of-with [] numbers claims inside = absurd (none-in claims inside)
  of-with (first ∷ roots) numbers claims inside = of-map (loop_with (first ∷ roots)) numbers claims inside

  -- the first of several claims on loops that change the same
  found-with : (changes : List ℕ) (numbers : List ℕ) (number : ℕ) → Contains numbers number
      → found_among number (map (loop_with changes) numbers) ≡ Some (loop_with changes number)
  found-with changes [] number inside = absurd (none-in number inside)
  found-with changes (one ∷ numbers) number (zero, within, at) = by (nat_eq one number) (eq-eqb one number at)
    where
      by : (b : Bool) → b ≡ true
          → cond b (Some (loop_with changes one)) (found_among number (map (loop_with changes) numbers)) ≡ Some (loop_with changes number)
      by true is = ap (λ (n : ℕ). Some (loop_with changes n)) at
      by false is = absurd (false≢true is)
  found-with changes (one ∷ numbers) number (suc k, within, at) =
      by (nat_eq one number) refl (found-with changes numbers number (k, omega (arith, within), at))
    where
      by : (b : Bool) → nat_eq one number ≡ b → found_among number (map (loop_with changes) numbers) ≡ Some (loop_with changes number)
          → cond b (Some (loop_with changes one)) (found_among number (map (loop_with changes) numbers)) ≡ Some (loop_with changes number)
      by true is later = ap (λ (n : ℕ). Some (loop_with changes n)) (eqb-true one number is)
      by false is later = later

  none-found : (claims : List LoopClaims) (number : ℕ) → ((one : LoopClaims) → Contains claims one → one.number ≡ number → ⊥) → found_among number claims ≡ None
  none-found [] number none = refl
  none-found (one ∷ claims) number none =
      by (nat_eq one.number number) refl (none-found claims number (λ other inside. none other (contains-more one claims other inside)))
    where
      by : (b : Bool) → nat_eq one.number number ≡ b → found_among number claims ≡ None → cond b (Some one) (found_among number claims) ≡ None
      by true is later = absurd (none one (0, omega arith, refl) (eqb-true one.number number is))
      by false is later = later

  -- the claims on a loop are in the section of its block, and no other
  in-own : (block number : ℕ) (loop : Loop) → slice_get tree.loops.items number ≡ Some loop → nat_eq loop.block block ≡ true → (root : ℕ)
      → Contains (visible_roots tree block) root → found_among number (block_loops tree block) ≡ Some (loop_with (visible_roots tree block) number)
  in-own block number loop is own root inside =
      let numbers = loops_of tree block in
      let within = slice_get_within tree.loops.items number loop is in
      let among : Contains numbers number =
      in-filter (λ n. stands_in block (slice_get tree.loops.items n)) (range_with_len 0 (length tree.loops.items)) number
      (in-range 0 (length tree.loops.items) number (omega arith) (omega (arith, within))) (ap (stands_in block) is ∙ own) in
      by (visible_roots tree block) inside numbers among
    where
      by : (roots : List ℕ) → Contains roots root → (numbers : List ℕ) → Contains numbers number
          → found_among number (loops_with roots numbers) ≡ Some (loop_with roots number)
      by [] none numbers among = absurd (none-in root none)
      by (first ∷ roots) some numbers among = found-with (first ∷ roots) numbers number among

  in-other : (block number : ℕ) (loop : Loop) → slice_get tree.loops.items number ≡ Some loop → nat_eq loop.block block ≡ false
      → found_among number (block_loops tree block) ≡ None
  in-other block number loop is other =
      none-found (block_loops tree block) number
      (λ one inside same.
      let of = of-with (visible_roots tree block) (loops_of tree block) one inside in
      let stands = (filtered (λ n. stands_in block (slice_get tree.loops.items n)) _ of.0 of.1).1 in
      let number_is : of.0 ≡ number = ap (λ (c : LoopClaims). c.number) of.2 ∙ same in
      let here : nat_eq loop.block block ≡ true =
      sym (ap (stands_in block) (ap (slice_get tree.loops.items) number_is ∙ is)) ∙ stands in
      false≢true (sym other ∙ here))

  -- ---- sections

  abbrev lists : Section → Bool
  lists section = not (is_vacant section)

  abbrev from : ℕ → ℕ → List Section
  from start count = filter lists (map (section_of tree) (range_with_len start count))

  -- a section with pairs, changes or loops is there
  not-vacant : (a b c : Bool) → (a ≡ false) ⊎ ((b ≡ false) ⊎ (c ≡ false)) → not (a && (b && c)) ≡ true
  not-vacant false b c some = refl
  not-vacant true false c some = refl
  not-vacant true true false some = refl
  not-vacant true true true (inl is) = absurd (false≢true (sym is))
  not-vacant true true true (inr (inl is)) = absurd (false≢true (sym is))
  not-vacant true true true (inr (inr is)) = absurd (false≢true (sym is))

  nothing-else : (block : ℕ) → 0 < block → nat_eq block 0 ≡ false
  nothing-else block less = by (nat_eq block 0) refl
    where
      by : (same : Bool) → nat_eq block 0 ≡ same → same ≡ false
      by false same_is = refl
      by true same_is = let none = eqb-true block 0 same_is in absurd (omega (arith, less, none))

  later-changes : (block : ℕ) → 0 < block → (section_of tree block).changes ≡ outward_roots tree block
  later-changes block less = ap (λ (b : Bool). cond b [] (outward_roots tree block)) (nothing-else block less)

  later-pairs : (block : ℕ) → 0 < block → (section_of tree block).aliases ≡ block_pairs tree block
  later-pairs block less = ap (λ (b : Bool). cond b [] (block_pairs tree block)) (nothing-else block less)

  -- the claims on a block are those of its section
  claims-there : (block root : ℕ) → Contains (section_of tree block).changes root → (start count : ℕ) → start ≤ block → block < start + count
      → Contains (block_claims_in block (from start count)).changes root
  claims-there block root inside start zero least most = absurd (omega (arith, least, most))
  claims-there block root inside start (suc count) least most =
      by (nat_eq start block) refl (lists (section_of tree start)) refl
      (λ more. claims-there block root inside (start + 1) count more (omega (arith, most)))
    where
      by : (own : Bool) → nat_eq start block ≡ own → (kept : Bool) → lists (section_of tree start) ≡ kept
          → (start + 1 ≤ block → Contains (block_claims_in block (from (start + 1) count)).changes root)
          → Contains (block_claims_in block (cond kept (section_of tree start ∷ from (start + 1) count) (from (start + 1) count))).changes root
      by true own true kept rest =
          let same = eqb-true start block own in
          subst
          (λ (b : Bool).
          Contains
          (cond b (record { changes = (section_of tree start).changes; entry = []; exit = [] }) (block_claims_in block (from (start + 1) count))).changes
          root) (sym own)
          (subst (λ (n : ℕ). Contains (section_of tree n).changes root) (sym same) inside)
      by true own false kept rest =
          let same = eqb-true start block own in
          let here : Contains (section_of tree start).changes root = subst (λ (n : ℕ). Contains (section_of tree n).changes root) (sym same) inside in
          let some = not-vacant (is_empty (section_of tree start).aliases) (is_empty (section_of tree start).changes) (is_empty (section_of tree start).loops)
          (inr (inl (not-empty (section_of tree start).changes root here))) in
          absurd (false≢true (sym kept ∙ some))
      by false own true kept rest =
          subst
          (λ (b : Bool).
          Contains
          (cond b (record { changes = (section_of tree start).changes; entry = []; exit = [] }) (block_claims_in block (from (start + 1) count))).changes
          root) (sym own)
          (rest (next start block own least))
      by false own false kept rest = rest (next start block own least)

  -- the claims on a loop are those of its block's section
  loop-there : (number root : ℕ) (loop : Loop) → slice_get tree.loops.items number ≡ Some loop → Contains (visible_roots tree loop.block) root
      → (start count : ℕ) → start ≤ loop.block → loop.block < start + count → Contains (claims_of (found_in number (from start count))).changes root
  loop-there number root loop is inside start zero least most = absurd (omega (arith, least, most))
  loop-there number root loop is inside start (suc count) least most =
      by (nat_eq loop.block start) refl (lists (section_of tree start)) refl
      (λ more. loop-there number root loop is inside (start + 1) count more (omega (arith, most)))
    where
      own-found : nat_eq loop.block start ≡ true → found_among number (section_of tree start).loops ≡ Some (loop_with (visible_roots tree start) number)
      own-found own =
          in-own start number loop is own root (subst (λ (n : ℕ). Contains (visible_roots tree n) root) (eqb-true loop.block start own) inside)

      some-loops : (loops : List LoopClaims) (claims : LoopClaims) → found_among number loops ≡ Some claims → is_empty loops ≡ false
      some-loops [] claims found = absurd (none-some claims found)
      some-loops (one ∷ loops) claims found = refl

      by : (own : Bool) → nat_eq loop.block start ≡ own → (kept : Bool) → lists (section_of tree start) ≡ kept
          → (start + 1 ≤ loop.block → Contains (claims_of (found_in number (from (start + 1) count))).changes root)
          → Contains (claims_of (found_in number (cond kept (section_of tree start ∷ from (start + 1) count) (from (start + 1) count)))).changes root
      by true own true kept rest =
          subst (λ (found : Option LoopClaims). Contains (claims_of (or_else found (found_in number (from (start + 1) count)))).changes root)
          (sym (own-found own)) (subst (λ (n : ℕ). Contains (visible_roots tree n) root) (eqb-true loop.block start own) inside)
      by true own false kept rest =
          let some = not-vacant (is_empty (section_of tree start).aliases) (is_empty (section_of tree start).changes) (is_empty (section_of tree start).loops)
          (inr (inr (some-loops (section_of tree start).loops (loop_with (visible_roots tree start) number) (own-found own)))) in
          absurd (false≢true (sym kept ∙ some))
      by false own true kept rest =
          subst (λ (found : Option LoopClaims). Contains (claims_of (or_else found (found_in number (from (start + 1) count)))).changes root)
          (sym (in-other start number loop is own)) (rest (next-back start loop.block own least))
      by false own false kept rest = rest (next-back start loop.block own least)

  -- a block in which a variable is visible is there
  round-there : (block own : ℕ) → is_round (outline_of tree) block own ≡ true → block < length tree.blocks.items
  round-there block own round = by (slice_get (outline_of tree).headings block) refl
    where
      by : (found : Option _) → slice_get (outline_of tree).headings block ≡ found → block < length tree.blocks.items
      by (Some heading) is =
          let within = slice_get_within (outline_of tree).headings block heading is in
          omega (arith, within, length-map tree.blocks.items heading_of)
      by None is = absurd (false≢true (sym (ap (of_one (encloses own block)) is) ∙ round))

  visible-block : (block root : ℕ) → is_visible (outline_of tree) block root ≡ true → block < length tree.blocks.items
  visible-block block root seen =
      let found = there (λ v. is_round (outline_of tree) block v.block) root seen in
      round-there block found.0.block (sym (ap (of_one (λ v. is_round (outline_of tree) block v.block)) found.1) ∙ seen)

  range-less : (count n : ℕ) → Contains (range_with_len 0 count) n → n < count
  range-less count n (k, within, at) =
      let short : k < count = omega (arith, within, length-range_with_len 0 count) in
      let is = get_or_read (range_with_len 0 count) k n within (sym at) 0 in
      let number = get_or-range_with_len 0 count k 0 short in
      omega (arith, short, is, number)

  -- nothing else is in a section
  section-from : (sections : List KeptSection) → map contents_of sections ≡ widest tree → (section : KeptSection) → Contains sections section
      → (block : ℕ) × (block < length tree.blocks.items) × (section_of tree block ≡ contents_of section)
  section-from sections is section inside =
      let there = filtered lists (map (section_of tree) (range_with_len 0 (length tree.blocks.items))) (contents_of section)
      (mapped-from contents_of sections (widest tree) section is inside) in
      let of = of-map (section_of tree) (range_with_len 0 (length tree.blocks.items)) (contents_of section) there.0 in
      (of.0, range-less (length tree.blocks.items) of.0 of.1, of.2)

  known-loop : (block : ℕ) (claims : KeptLoop) → Contains (block_loops tree block) (loop_of claims) → claims_are_known tree block claims ≡ true
  known-loop block claims inside =
      let of = of-with (visible_roots tree block) (loops_of tree block) (loop_of claims) inside in
      let stands = (filtered (λ n. stands_in block (slice_get tree.loops.items n)) _ of.0 of.1).1 in
      let number_is : of.0 ≡ claims.number = ap (λ (c : LoopClaims). c.number) of.2 in
      let changes_are : visible_roots tree block ≡ claims.changes.items = ap (λ (c : LoopClaims). c.changes) of.2 in
      let none : [] ≡ map said_fact claims.facts.items = ap (λ (c : LoopClaims). c.facts) of.2 in
      let seen = is_visible (outline_of tree) block in
      let may_stand = loop_fact_is_known tree block (slice_get tree.loops.items claims.number) in
      and_from (stands_in block (slice_get tree.loops.items claims.number)) _
      (ap (λ (n : ℕ). stands_in block (slice_get tree.loops.items n)) (sym number_is) ∙ stands)
      (and_from (list_all seen claims.changes.items) (list_all may_stand claims.facts.items)
      (ap (list_all seen) (sym changes_are) ∙ passing seen (range_with_len 0 (length tree.variables.items)))
      (ap (list_all may_stand) (none-mapped said_fact claims.facts.items (sym none))))

  known-itself : (block : ℕ) (section : KeptSection) → section_of tree block ≡ contents_of section → section.block ≡ block
      → cond (nat_eq section.block 0) (is_of_loops section) (block_is_known tree section) ≡ true
  known-itself block section is own =
      ap (λ (n : ℕ). cond (nat_eq n 0) (is_of_loops section) (block_is_known tree section)) own ∙ by (nat_eq block 0) refl
    where
      aliases_are : section.aliases.items ≡ (section_of tree block).aliases
      aliases_are = sym (ap (λ (s : Section). s.aliases) is)

      changes_are : section.changes.items ≡ (section_of tree block).changes
      changes_are = sym (ap (λ (s : Section). s.changes) is)

      entry_is : section.entry.items ≡ []
      entry_is = none-mapped said_fact section.entry.items (sym (ap (λ (s : Section). s.entry) is))

      exit_is : section.exit.items ≡ []
      exit_is = none-mapped said_fact section.exit.items (sym (ap (λ (s : Section). s.exit) is))

      by : (main : Bool) → nat_eq block 0 ≡ main → cond main (is_of_loops section) (block_is_known tree section) ≡ true
      by true main =
          and_from (is_empty section.aliases.items) _ (ap is_empty (aliases_are ∙ ap (λ (b : Bool). cond b [] (block_pairs tree block)) main))
          (and_from (is_empty section.changes.items) _ (ap is_empty (changes_are ∙ ap (λ (b : Bool). cond b [] (outward_roots tree block)) main))
          (and_from (is_empty section.entry.items) (is_empty section.exit.items) (ap is_empty entry_is) (ap is_empty exit_is)))
      by false main =
          let pairs_are : section.aliases.items ≡ block_pairs tree block = aliases_are ∙ ap (λ (b : Bool). cond b [] (block_pairs tree block)) main in
          let roots_are : section.changes.items ≡ outward_roots tree block = changes_are ∙ ap (λ (b : Bool). cond b [] (outward_roots tree block)) main in
          and_from (list_all (pair_is_known tree section.block) section.aliases.items) _
          (ap₂ (λ (n : ℕ) (all : List AliasPair). list_all (pair_is_known tree n) all) own pairs_are
          ∙ all-from (pair_is_known tree block) (block_pairs tree block) (pair-known block))
          (and_from (list_all (is_outward tree section.block) section.changes.items) _
          (ap₂ (λ (n : ℕ) (all : List ℕ). list_all (is_outward tree n) all) own roots_are
          ∙ passing (is_outward tree block) (range_with_len 0 (length tree.variables.items)))
          (and_from (list_all (fact_is_on tree (is_outward tree section.block)) section.entry.items) (list_all (exit_is_known tree section) section.exit.items)
          (ap (list_all (fact_is_on tree (is_outward tree section.block))) entry_is) (ap (list_all (exit_is_known tree section)) exit_is)))

  known-section : (section : KeptSection) (block : ℕ) → block < length tree.blocks.items → section_of tree block ≡ contents_of section
      → section_is_known tree section ≡ true
  known-section section block within is =
      let own : section.block ≡ block = sym (ap (λ (s : Section). s.block) is) in
      let loops_are : map loop_of section.loops.items ≡ block_loops tree block = sym (ap (λ (s : Section). s.loops) is) in
      and_from (nat_lt section.block (length tree.blocks.items)) _
      (ap (λ (n : ℕ). nat_lt n (length tree.blocks.items)) own ∙ is-less block (length tree.blocks.items) within)
      (and_from (cond (nat_eq section.block 0) (is_of_loops section) (block_is_known tree section))
      (list_all (claims_are_known tree section.block) section.loops.items) (known-itself block section is own)
      (all-from (claims_are_known tree section.block) section.loops.items
      (λ claims inside.
      ap (λ (n : ℕ). claims_are_known tree n claims) own
      ∙ known-loop block claims (mapped-from loop_of section.loops.items (block_loops tree block) claims loops_are inside))))

  plain-loop : (block : ℕ) (claims : KeptLoop) → Contains (block_loops tree block) (loop_of claims) → is_plain_loop claims ≡ true
  plain-loop block claims inside =
      let of = of-with (visible_roots tree block) (loops_of tree block) (loop_of claims) inside in
      ap is_empty (none-mapped said_fact claims.facts.items (sym (ap (λ (c : LoopClaims). c.facts) of.2)))

  plain-section : (section : KeptSection) (block : ℕ) → section_of tree block ≡ contents_of section → is_plain section ≡ true
  plain-section section block is =
      let loops_are : map loop_of section.loops.items ≡ block_loops tree block = sym (ap (λ (s : Section). s.loops) is) in
      and_from (is_empty section.entry.items) _ (ap is_empty (none-mapped said_fact section.entry.items (sym (ap (λ (s : Section). s.entry) is))))
      (and_from (is_empty section.exit.items) (list_all is_plain_loop section.loops.items)
      (ap is_empty (none-mapped said_fact section.exit.items (sym (ap (λ (s : Section). s.exit) is))))
      (all-from is_plain_loop section.loops.items
      (λ claims inside. plain-loop block claims (mapped-from loop_of section.loops.items (block_loops tree block) claims loops_are inside))))

  module _ (certificate : Certificate) (is : contents certificate ≡ widest tree) where
    -- it names what the program has
    pub names-known : is_known tree certificate ≡ true
    names-known =
        all-from (section_is_known tree) certificate.sections.items
        (λ section inside.
        let of = section-from certificate.sections.items is section inside in
        known-section section of.0 of.1 of.2)

    -- it has no facts
    pub no-facts : HasNoFacts certificate
    no-facts =
        all-from is_plain certificate.sections.items
        (λ section inside.
        let of = section-from certificate.sections.items is section inside in
        plain-section section of.0 of.2)

    pair-listed : (block : ℕ) (pair : AliasPair) → IsOfRoutine tree block → pair.first < pair.second → pair_is_known tree block pair ≡ true
        → Contains (all_pairs certificate) (pair_of pair)
    pair-listed block pair of less known =
        let inside : Contains (section_of tree block).aliases pair =
        subst (λ (all : List AliasPair). Contains all pair) (sym (later-pairs block of.0)) (pair-there block pair less known) in
        let some = not-vacant (is_empty (section_of tree block).aliases) (is_empty (section_of tree block).changes) (is_empty (section_of tree block).loops)
        (inl (not-empty (section_of tree block).aliases pair inside)) in
        let among : Contains (widest tree) (section_of tree block) =
        in-filter lists (map (section_of tree) (range_with_len 0 (length tree.blocks.items))) (section_of tree block)
        (in-map (section_of tree) (range_with_len 0 (length tree.blocks.items)) block
        (in-range 0 (length tree.blocks.items) block (omega arith) (omega (arith, of.1)))) some in
        subst (λ (sections : List Section). Contains (flat_map (λ (s : Section). map pair_of s.aliases) sections) (pair_of pair)) (sym is)
        (in-flat (λ (s : Section). map pair_of s.aliases) (widest tree) (section_of tree block) (pair_of pair) among
        (in-map pair_of (section_of tree block).aliases pair inside))

    -- it lists all
    pub lists-all : ListsAll tree certificate
    lists-all = record {
      changes = λ block root of outward.
          let inside : Contains (section_of tree block).changes root =
          subst (λ (all : List ℕ). Contains all root) (sym (later-changes block of.0)) (outward-there block root outward) in
          subst (λ (sections : List Section). Contains (block_claims_in block sections).changes root) (sym is)
          (claims-there block root inside 0 (length tree.blocks.items) (omega arith) (omega (arith, of.1)));
      loops = λ number root loop there seen.
          let within = visible-block loop.block root seen in
          subst (λ (sections : List Section). Contains (claims_of (found_in number sections)).changes root) (sym is)
          (loop-there number root loop there (visible-there loop.block root seen) 0 (length tree.blocks.items) (omega arith) (omega (arith, within)));
      pairs = pair-listed;
    }
