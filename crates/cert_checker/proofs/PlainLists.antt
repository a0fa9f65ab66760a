-- What a plain certificate lists is all that the walk by it asks for: what is visible in a block may be changed there, what a call passes makes
-- listed pairs, and what the callee lists is visible where it is called.
use Rattle.std.proofs.Common.{arith, ◌≡◌, ⊎_elim, ◌∙◌, sym, ap, refl, subst, ℕ, zero, suc, ◌<◌, ◌≤◌, Bool, true, false, cond, not, ◌&&◌, ◌||◌, nat_eq}
use Rattle.std.proofs.Common.{List, [], ◌∷◌, ◌++◌, length, map, Option, Some, None, inl, inr}
use Rattle.std.specs.List.{Contains, list_all, range_with_len}
use Rattle.std.specs.Option.{option_map}
use Rattle.std.specs.Prelude.{slice_get}
use Rattle.std.specs.Cmp.Lexicographic.{pointwise}
use Rattle.std.proofs.lemmas.Bool.{and_from, and_parts, cases_lt, eq-eqb, eqb-true, false≢true, or_cases, or_left, or_right}
use Rattle.std.proofs.lemmas.List.{get_or_past, length-map}
use Rattle.std.proofs.lemmas.List.FromFn.{get_or-map-range_with_len, length-range_with_len}
use Rattle.std.proofs.lemmas.List.Folds.{list_all-append}
use Rattle.std.proofs.lemmas.Option.{none-some, same_Some, slice_get-map, slice_get_within}
use Rattle.typed_tree.specs.declared.tree.Block.{Block}
use Rattle.typed_tree.specs.declared.tree.Loop.{Loop}
use Rattle.typed_tree.specs.declared.tree.Selector.{Selector}
use Rattle.typed_tree.specs.declared.tree.Tree.{Tree}
use Rattle.typed_tree.specs.declared.tree.Variable.{Variable}
use Rattle.typed_tree.specs.declared.tree.VariableKind.{VariableKind}
use Rattle.typed_tree.specs.declared.tree.VariableKind.TheVariants as kind
use Rattle.typed_tree.specs.Accesses.{Origin, root_of}
use Rattle.typed_tree.specs.WellFormed.{IsWellFormed, Outline, declarer, encloses, heading_of, is_declared, is_local_kind, is_one_of, is_parameter_kind}
use Rattle.typed_tree.specs.WellFormed.{is_result_kind, is_round, is_value_kind, is_variable_kind, is_visible, of_one, outline_of}
use Rattle.certificate.specs.declared.Certificate.{Certificate}
use Rattle.certificate.specs.declared.LoopClaims.{LoopClaims as KeptLoop}
use Rattle.certificate.specs.declared.Section.{Section as KeptSection}
use Rattle.certificate.specs.Contents.{LoopClaims, contents, is_empty, loop_of, said_fact, section_of}
use Rattle.checker_state.specs.Loops.{is_among}
use Rattle.checker_state.specs.Stores.{Reach}
use Rattle.checker_loops.specs.Loops.{Claims, Round, all_claims, all_list, claims_at, claims_of, claims_on, found_among, found_in, no_claims, or_else, round_of}
use Rattle.checker_loops.specs.Pairs.{Listed, aliases_in}
use Rattle.checker_loops.specs.Sections.{BlockClaims, all_block_claims, all_pairs, block_claims_at, block_claims_in, no_block_claims}
use Rattle.checker_loops.specs.Starts.{is_own}
use Rattle.checker_loops.proofs.AliasedStores.{all-pass}
use Rattle.checker_loops.proofs.Lists.{contains-among, contains-more}
use Rattle.checker_calls.specs.Actuals.{Actual, OfRows, OfValue, OfVariable, Binding, actual_of, bound_to}
use Rattle.checker_calls.specs.Exit.{root_changed, roots_changed}
use Rattle.checker_calls.specs.Overlaps.{are_separate, is_actual_separate, is_declared_in, is_listed, is_listed_round, is_listed_with, may_overlap}
use Rattle.checker_calls.proofs.Assigned.{Distinct}
use Rattle.checker_calls.proofs.Callee.{parameter-listed}
use Rattle.checker_calls.proofs.Headings.{callable-round, heading-at, is-declared, one-there, same-numbers, well-placed}
use Rattle.checker_calls.proofs.Places.{pair-listed}
use Rattle.checker_expressions.specs.Walk.{Context, may_change}
use Rattle.checker_calls.specs.Names.{has_parameter, is_known, is_outward, is_round_about, is_variable_parameter, pair_is_known, section_is_known}
use Rattle.checker_calls.specs.Plain.{HasNoFacts, IsOfRoutine, ListsAll, is_plain, is_plain_loop}
use Rattle.cert_checker.specs.Walk.{first_context}
use Rattle.cert_checker.proofs.ClaimsKnown.{ComesFrom, From, Nothing, comes-from, known-section}

-- ---- no facts

is-nil : {A : Type 0} (items : List A) → is_empty items ≡ true → items ≡ []
is-nil [] empty = refl
is-nil (item ∷ items) empty = absurd (false≢true empty)

-- of a loop without facts, if it is there
abbrev AreNone : Option LoopClaims → Type 0
AreNone None = Unit {0}
AreNone (Some one) = one.facts ≡ []

among-none : (number : ℕ) (loops : List KeptLoop) → list_all is_plain_loop loops ≡ true → AreNone (found_among number (map loop_of loops))
among-none number [] plain = tt
among-none number (one ∷ loops) plain =
    let parts = and_parts (is_plain_loop one) (list_all is_plain_loop loops) plain in
    by (nat_eq one.number number) (ap (map said_fact) (is-nil one.facts.items parts.0)) (among-none number loops parts.1)
  where
    by : (own : Bool) → map said_fact one.facts.items ≡ [] → AreNone (found_among number (map loop_of loops))
        → AreNone (cond own (Some (loop_of one)) (found_among number (map loop_of loops)))
    by true here later = here
    by false here later = later

in-none : (number : ℕ) (sections : List KeptSection) → list_all is_plain sections ≡ true → AreNone (found_in number (map section_of sections))
in-none number [] plain = tt
in-none number (section ∷ sections) plain =
    let parts = and_parts (is_plain section) (list_all is_plain sections) plain in
    let one = and_parts (is_empty section.entry.items) (is_empty section.exit.items && list_all is_plain_loop section.loops.items) parts.0 in
    let two = and_parts (is_empty section.exit.items) (list_all is_plain_loop section.loops.items) one.1 in
    by (found_among number (map loop_of section.loops.items)) (found_in number (map section_of sections))
    (among-none number section.loops.items two.1) (in-none number sections parts.1)
  where
    by : (first more : Option LoopClaims) → AreNone first → AreNone more → AreNone (or_else first more)
    by None more here later = later
    by (Some one) more here later = here

claims-none : (found : Option LoopClaims) → AreNone found → (claims_of found).facts ≡ []
claims-none None none = refl
claims-none (Some one) none = none

-- ---- kinds

not-parameter : (one : VariableKind) → (is_parameter_kind one ≡ true → ⊥) → (is_local_kind one || is_result_kind one) ≡ true
not-parameter kind.Local none = refl
not-parameter kind.Result none = refl
not-parameter kind.ValueParameter none = absurd (none refl)
not-parameter kind.VariableParameter none = absurd (none refl)

a-parameter : (one : VariableKind) → (is_local_kind one || is_result_kind one) ≡ false → is_parameter_kind one ≡ true
a-parameter kind.Local none = absurd (false≢true (sym none))
a-parameter kind.Result none = absurd (false≢true (sym none))
a-parameter kind.ValueParameter none = refl
a-parameter kind.VariableParameter none = refl

-- neither of two, where not both together
not-either : (own a b : Bool) → (own && (a || b)) ≡ false → not ((own && a) || (own && b)) ≡ true
not-either true true b none = absurd (false≢true (sym none))
not-either true false true none = absurd (false≢true (sym none))
not-either true false false none = refl
not-either false a b none = refl

either-not : (own a b : Bool) → not ((own && a) || (own && b)) ≡ true → (own && (a || b)) ≡ false
either-not true true b none = absurd (false≢true none)
either-not true false true none = absurd (false≢true none)
either-not true false false none = refl
either-not false a b none = refl

-- ---- a plain certificate

pub record IsPlain (tree : Tree) (certificate : Certificate) : Type 0 where
  pub well : IsWellFormed tree
  pub known : is_known tree certificate ≡ true
  pub none : HasNoFacts certificate
  pub lists : ListsAll tree certificate

module _ (tree : Tree) (certificate : Certificate) (plain : IsPlain tree certificate) where
  abbrev outline : Outline
  outline = outline_of tree

  abbrev variables : List Variable
  variables = tree.variables.items

  abbrev pairs : List (ℕ × ℕ)
  pairs = all_pairs certificate

  abbrev pub listed : Listed
  listed = record { tree = tree; pairs = pairs }

  -- what is claimed of the block of a number
  abbrev pub of_block : ℕ → BlockClaims
  of_block number = block_claims_at (all_block_claims tree certificate) number

  -- where the walk stands: in a block, inside loops
  abbrev pub at : ℕ → List Round → Context
  at block rounds = record (first_context tree certificate) { block = block; rounds = rounds }

  -- each of these loops lists what is visible in a block
  abbrev pub AreWide : ℕ → List Round → Type 0
  AreWide block rounds = (root : ℕ) → is_visible outline block root ≡ true → all_list root rounds ≡ true

  -- ---- no facts

  plain-section : (section : KeptSection) → Contains certificate.sections.items section → (section.entry.items ≡ []) × (section.exit.items ≡ [])
  plain-section section inside =
      let one = and_parts (is_empty section.entry.items) (is_empty section.exit.items && list_all is_plain_loop section.loops.items)
      (all-pass is_plain certificate.sections.items section inside plain.none) in
      let two = and_parts (is_empty section.exit.items) (list_all is_plain_loop section.loops.items) one.1 in
      (is-nil section.entry.items one.0, is-nil section.exit.items two.0)

  pub entry-none : (number : ℕ) → (of_block number).entry ≡ []
  entry-none number = by (of_block number) (comes-from tree certificate number)
    where
      by : (claims : BlockClaims) → ComesFrom certificate.sections.items number claims → claims.entry ≡ []
      by claims (Nothing none) = ap (λ (c : BlockClaims). c.entry) none
      by claims (From section inside own is) = ap (λ (c : BlockClaims). c.entry) is ∙ ap (map said_fact) (plain-section section inside).0

  pub exit-none : (number : ℕ) → (of_block number).exit ≡ []
  exit-none number = by (of_block number) (comes-from tree certificate number)
    where
      by : (claims : BlockClaims) → ComesFrom certificate.sections.items number claims → claims.exit ≡ []
      by claims (Nothing none) = ap (λ (c : BlockClaims). c.exit) none
      by claims (From section inside own is) = ap (λ (c : BlockClaims). c.exit) is ∙ ap (map said_fact) (plain-section section inside).1

  loop-claims : (number : ℕ) → number < length tree.loops.items → claims_at (all_claims tree certificate) number ≡ claims_on certificate number
  loop-claims number within = get_or-map-range_with_len (claims_on certificate) 0 (length tree.loops.items) number number no_claims within (omega arith)

  pub facts-none : (number : ℕ) → (claims_at (all_claims tree certificate) number).facts ≡ []
  facts-none number =
      ⊎_elim
      (λ within.
      ap (λ (c : Claims). c.facts) (loop-claims number within)
      ∙ claims-none (found_in number (contents certificate)) (in-none number certificate.sections.items plain.none))
      (λ beyond.
      let one = length-map (range_with_len 0 (length tree.loops.items)) (claims_on certificate) in
      let two = length-range_with_len 0 (length tree.loops.items) in
      ap (λ (c : Claims). c.facts) (get_or_past (all_claims tree certificate) number no_claims (omega (arith, one, two, beyond))))
      (cases_lt number (length tree.loops.items))

  -- ---- what may be changed

  block-there : (block own : ℕ) → is_round outline block own ≡ true → (b : Block) × (slice_get tree.blocks.items block ≡ Some b)
  block-there block own round = by (slice_get tree.blocks.items block) refl
    where
      by : (found : Option Block) → slice_get tree.blocks.items block ≡ found → (b : Block) × (slice_get tree.blocks.items block ≡ Some b)
      by (Some b) is = (b, is)
      by None is =
          absurd (false≢true
          (sym (ap (of_one (encloses own block)) (slice_get-map heading_of tree.blocks.items block ∙ ap (option_map heading_of) is)) ∙ round))

  claims-are : (block : ℕ) → block < length tree.blocks.items → of_block block ≡ block_claims_in block (contents certificate)
  claims-are block within =
      get_or-map-range_with_len (λ (n : ℕ). block_claims_in n (contents certificate)) 0 (length tree.blocks.items) block block no_block_claims within
      (omega arith)

  -- what is visible in the program's block is its own
  main-own : (v : Variable) (root : ℕ) → slice_get variables root ≡ Some v → is_round outline 0 v.block ≡ true → is_own 0 v ≡ true
  main-own v root is round =
      let found = block-there 0 v.block round in
      let heading = found.0.heading in
      let one = and_parts (pointwise nat_eq heading.around.items []) _ (well-placed tree plain.well 0 heading (heading-at tree 0 found.0 found.1)) in
      let two = and_parts (pointwise nat_eq heading.parameters.items []) _ one.1 in
      let encloses_it : (nat_eq v.block 0 || is_one_of heading.around.items v.block) ≡ true =
      sym (ap (of_one (encloses v.block 0)) (heading-at tree 0 found.0 found.1)) ∙ round in
      let own : nat_eq v.block 0 ≡ true =
      ⊎_elim (λ same. same)
      (λ among. absurd (false≢true (sym (ap (λ (all : List ℕ). is_one_of all v.block) (same-numbers heading.around.items [] one.0)) ∙ among)))
      (or_cases (nat_eq v.block 0) (is_one_of heading.around.items v.block) encloses_it) in
      and_from (nat_eq v.block 0) (is_local_kind v.kind || is_result_kind v.kind) own
      (not-parameter v.kind
      (λ parameter.
      let inside = parameter-listed tree plain.well 0 found.0 found.1 root v is (eqb-true v.block 0 own) parameter in
      let empty = ap length (same-numbers heading.parameters.items [] two.0) in
      omega (arith, inside.1, empty)))

  -- a variable that is visible in a block is its own, or listed
  own-or_listed : (block root : ℕ) (v : Variable) → slice_get variables root ≡ Some v → is_visible outline block root ≡ true
      → is_round outline block v.block ≡ true → (own : Bool) → is_own block v ≡ own → (own || is_among root (of_block block).changes) ≡ true
  own-or_listed block root v is seen round true own_is = refl
  own-or_listed zero root v is seen round false own_is = absurd (false≢true (sym own_is ∙ main-own v root is round))
  own-or_listed (suc before) root v is seen round false own_is =
      let block = suc before in
      let found = block-there block v.block round in
      let kinds : not (is_declared outline block is_local_kind root || is_declared outline block is_result_kind root) ≡ true =
      ap
      (λ (one : Option Variable).
      not (of_one (λ (x : Variable). nat_eq x.block block && is_local_kind x.kind) one
      || of_one (λ (x : Variable). nat_eq x.block block && is_result_kind x.kind) one)) is
      ∙ not-either (nat_eq v.block block) (is_local_kind v.kind) (is_result_kind v.kind) own_is in
      let outward : is_outward tree block root ≡ true = and_from (is_visible outline block root) _ seen kinds in
      let inside = plain.lists.changes block root (omega arith, slice_get_within tree.blocks.items block found.0 found.1) outward in
      ap (λ (c : BlockClaims). is_among root c.changes) (claims-are block (slice_get_within tree.blocks.items block found.0 found.1))
      ∙ contains-among (block_claims_in block (contents certificate)).changes root inside

  pub may-change : (block : ℕ) (rounds : List Round) → AreWide block rounds → (root : ℕ) → is_visible outline block root ≡ true
      → may_change (at block rounds) root ≡ true
  may-change block rounds wide root seen =
      let found = one-there (λ (v : Variable). is_round outline block v.block) (slice_get variables root) seen in
      and_from (all_list root rounds) (of_one (is_own block) (slice_get variables root) || is_among root (of_block block).changes) (wide root seen)
      (ap (λ (one : Option Variable). of_one (is_own block) one || is_among root (of_block block).changes) found.1
      ∙ own-or_listed block root found.0 found.1 seen found.2 (is_own block found.0) refl)

  -- a loop of a block lists what is visible there
  pub wider : (number : ℕ) (loop : Loop) (rounds : List Round) → slice_get tree.loops.items number ≡ Some loop → AreWide loop.block rounds
      → AreWide loop.block (rounds ++ round_of tree listed (all_claims tree certificate) number ∷ [])
  wider number loop rounds is wide root seen =
      let round = round_of tree listed (all_claims tree certificate) number in
      let inside = plain.lists.loops number root loop is seen in
      let among : is_among root round.changes ≡ true =
      ap (λ (c : Claims). is_among root c.changes) (loop-claims number (slice_get_within tree.loops.items number loop is))
      ∙ contains-among (claims_on certificate number).changes root inside in
      list_all-append (λ (one : Round). is_among root one.changes) rounds (round ∷ [])
      ∙ and_from (all_list root rounds) (all_list root (round ∷ [])) (wide root seen) (and_from (is_among root round.changes) true among refl)

  -- ---- pairs

  -- two different variables are listed as a pair, if they may be in a block
  listed-of : (block one other : ℕ) → IsOfRoutine tree block → one < other → pair_is_known tree block (record { first = one; second = other }) ≡ true
      → Contains pairs (one, other)
  listed-of block one other of less is = plain.lists.pairs block (record { first = one; second = other }) of less is

  pair-both : (block one other : ℕ) → IsOfRoutine tree block → (one ≡ other → ⊥) → has_parameter tree block one other ≡ true → is_listed pairs one other ≡ true
  pair-both block one other of apart is =
      pair-listed pairs one other
      (⊎_elim
      (λ less. inl (listed-of block one other of less (or_left (has_parameter tree block one other) (has_parameter tree block other one) is)))
      (λ most.
      ⊎_elim (λ less. inr (listed-of block other one of less (or_right (has_parameter tree block other one) (has_parameter tree block one other) is)))
      (λ least. absurd (apart (omega (arith, most, least)))) (cases_lt other one))
      (cases_lt one other))

  -- ---- where a block is called

  -- what stands round a block comes before it
  none-later : (bound number own : ℕ) → number < bound → is_round outline number own ≡ true → own ≤ number
  none-later zero number own small round = absurd (omega (arith, small))
  none-later (suc bound) number own small round =
      let found = one-there (encloses own number) (slice_get outline.headings number) round in
      let heading = found.0 in
      ⊎_elim (λ same. let is = eqb-true own number same in omega (arith, is))
      (λ among.
      let declared = is-declared outline number heading own (well-placed tree plain.well number heading found.1) among in
      let less = declared.before in
      let most = none-later bound declared.last own (omega (arith, less, small)) (declared.inside own among) in
      omega (arith, less, most))
      (or_cases (nat_eq own number) (is_one_of heading.around.items own) found.2)

  -- the program's block has no parameters
  has-parameters : (block root : ℕ) (b : Block) → slice_get tree.blocks.items block ≡ Some b → is_variable_parameter tree block root ≡ true → 0 < block
  has-parameters zero root b is parameter =
      let found = one-there (λ (v : Variable). nat_eq v.block 0 && is_variable_kind v.kind) (slice_get variables root) parameter in
      let v = found.0 in
      let parts = and_parts (nat_eq v.block 0) (is_variable_kind v.kind) found.2 in
      let heading = b.heading in
      let one = and_parts (pointwise nat_eq heading.around.items []) _ (well-placed tree plain.well 0 heading (heading-at tree 0 b is)) in
      let two = and_parts (pointwise nat_eq heading.parameters.items []) _ one.1 in
      let inside = parameter-listed tree plain.well 0 b is root v found.1 (eqb-true v.block 0 parts.0)
      (or_right (is_value_kind v.kind) (is_variable_kind v.kind) parts.1) in
      let empty = ap length (same-numbers heading.parameters.items [] two.0) in
      absurd (omega (arith, inside.1, empty))
  has-parameters (suc before) root b is parameter = omega arith

  module _ (callee : ℕ) (b : Block) (block_is : slice_get tree.blocks.items callee ≡ Some b) where
    abbrev around : List ℕ
    around = b.heading.around.items

    heading-is : slice_get outline.headings callee ≡ Some b.heading
    heading-is = heading-at tree callee b block_is

    within : callee < length tree.blocks.items
    within = slice_get_within tree.blocks.items callee b block_is

    later : (root : ℕ) → is_variable_parameter tree callee root ≡ true → 0 < callee
    later root parameter = has-parameters callee root b block_is parameter

    round-before : (own : ℕ) → is_one_of around own ≡ true → own < callee
    round-before own among =
        let declared = is-declared outline callee b.heading own (well-placed tree plain.well callee b.heading heading-is) among in
        let less = declared.before in
        let most = none-later (suc declared.last) declared.last own (omega arith) (declared.inside own among) in
        omega (arith, less, most)

    -- a variable round the block may be listed with a parameter
    round-about : (root : ℕ) (v : Variable) → slice_get variables root ≡ Some v → is_one_of around v.block ≡ true
        → is_round_about tree callee root ≡ true
    round-about root v is among =
        let less = round-before v.block among in
        let other : nat_eq v.block callee ≡ false = differ (λ same. omega (arith, less, same)) in
        let seen : is_visible outline callee root ≡ true =
        ap (of_one (λ (x : Variable). is_round outline callee x.block)) is ∙ ap (of_one (encloses v.block callee)) heading-is
        ∙ or_right (nat_eq v.block callee) (is_one_of around v.block) among in
        let declares = λ (is_kind : VariableKind → Bool). none-own is_kind other in
        and_from (is_outward tree callee root) _
        (and_from (is_visible outline callee root) _ seen (neither-so (declares is_local_kind) (declares is_result_kind)))
        (neither-so (declares is_value_kind) (declares is_variable_kind))
      where
        differ : (v.block ≡ callee → ⊥) → nat_eq v.block callee ≡ false
        differ apart = by (nat_eq v.block callee) refl
          where
            by : (same : Bool) → nat_eq v.block callee ≡ same → same ≡ false
            by false same_is = refl
            by true same_is = absurd (apart (eqb-true v.block callee same_is))

        none-own : (is_kind : VariableKind → Bool) → nat_eq v.block callee ≡ false → is_declared outline callee is_kind root ≡ false
        none-own is_kind other =
            ap (of_one (λ (x : Variable). nat_eq x.block callee && is_kind x.kind)) is ∙ ap (λ (same : Bool). same && is_kind v.kind) other

        neither-so : {x y : Bool} → x ≡ false → y ≡ false → not (x || y) ≡ true
        neither-so {x = x} {y = y} first second = ap (λ (a : Bool). not (a || y)) first ∙ ap not second

    -- a parameter and a variable round the block are a pair, if it is one
    listed-round : (formal root : ℕ) → is_variable_parameter tree callee formal ≡ true → is_listed_round pairs tree around formal root ≡ true
    listed-round formal root parameter = by (slice_get variables root) refl
      where
        inner : (v : Variable) → slice_get variables root ≡ Some v → (among : Bool) → is_one_of around v.block ≡ among
            → (not among || is_listed pairs formal root) ≡ true
        inner v is false among = refl
        inner v is true among =
            let found = one-there (λ (x : Variable). nat_eq x.block callee && is_variable_kind x.kind) (slice_get variables formal) parameter in
            let own = eqb-true found.0.block callee (and_parts (nat_eq found.0.block callee) (is_variable_kind found.0.kind) found.2).0 in
            let less = round-before v.block among in
            pair-both callee formal root (omega (arith, less), within)
            (λ same.
            let one : found.0 ≡ v = same_Some found.0 v (sym found.1 ∙ ap (slice_get variables) same ∙ is) in
            let at_one = ap (λ (x : Variable). x.block) one in
            omega (arith, own, less, at_one))
            (and_from (is_variable_parameter tree callee formal) _ parameter
            (or_right (is_variable_parameter tree callee root) (is_round_about tree callee root) (round-about root v is among)))

        by : (found : Option Variable) → slice_get variables root ≡ found
            → (not (is_declared_in pairs around (slice_get variables root)) || is_listed pairs formal root) ≡ true
        by None is = ap (λ (found : Option Variable). not (is_declared_in pairs around found) || is_listed pairs formal root) is
        by (Some v) is =
            ap (λ (found : Option Variable). not (is_declared_in pairs around found) || is_listed pairs formal root) is
            ∙ inner v is (is_one_of around v.block) refl

    module _ (caller : ℕ) where
      -- what is passed in the caller to the formal parameter of a root
      abbrev pub IsPassedTo : ℕ → Actual → Type 0
      IsPassedTo root (OfValue range form) = Unit {0}
      IsPassedTo root (OfRows ranges) = Unit {0}
      IsPassedTo root (OfVariable origin selectors reach) =
          (is_visible outline caller (root_of origin) ≡ true) × (is_variable_parameter tree callee root ≡ true)

      abbrev pub ArePassedTo : List ℕ → List Actual → Type 0
      ArePassedTo [] [] = Unit {0}
      ArePassedTo (root ∷ roots) (actual ∷ actuals) = IsPassedTo root actual × ArePassedTo roots actuals
      ArePassedTo roots actuals = ⊥

      -- two variable parameters are a pair
      listed-with : (formal : ℕ) (origin : Origin) (selectors : List Selector) → is_variable_parameter tree callee formal ≡ true → (roots : List ℕ)
          (actuals : List Actual) → ArePassedTo roots actuals → (Contains roots formal → ⊥)
          → list_all (is_listed_with pairs formal origin selectors) (bound_to roots actuals) ≡ true
      listed-with formal origin selectors parameter [] [] passed apart = refl
      listed-with formal origin selectors parameter [] (actual ∷ actuals) passed apart = absurd passed
      listed-with formal origin selectors parameter (root ∷ roots) [] passed apart = absurd passed
      listed-with formal origin selectors parameter (root ∷ roots) (OfValue range form ∷ actuals) passed apart =
          listed-with formal origin selectors parameter roots actuals passed.1 (λ inside. apart (contains-more root roots formal inside))
      listed-with formal origin selectors parameter (root ∷ roots) (OfRows ranges ∷ actuals) passed apart =
          listed-with formal origin selectors parameter roots actuals passed.1 (λ inside. apart (contains-more root roots formal inside))
      listed-with formal origin selectors parameter (root ∷ roots) (OfVariable other others reach ∷ actuals) passed apart =
          and_from (not (may_overlap pairs origin selectors other others) || is_listed pairs formal root)
          (list_all (is_listed_with pairs formal origin selectors) (bound_to roots actuals))
          (or_right (not (may_overlap pairs origin selectors other others)) (is_listed pairs formal root)
          (pair-both callee formal root (later root passed.0.1, within) (λ same. apart (0, omega arith, sym same))
          (and_from (is_variable_parameter tree callee formal) _ parameter
          (or_left (is_variable_parameter tree callee root) (is_round_about tree callee root) passed.0.1))))
          (listed-with formal origin selectors parameter roots actuals passed.1 (λ inside. apart (contains-more root roots formal inside)))

      one-separate : (root : ℕ) (actual : Actual) (roots : List ℕ) (actuals : List Actual) → IsPassedTo root actual → ArePassedTo roots actuals
          → (Contains roots root → ⊥) → is_actual_separate listed caller around (bound_to roots actuals) root actual ≡ true
      one-separate root (OfValue range form) roots actuals one passed apart = refl
      one-separate root (OfRows ranges) roots actuals one passed apart = refl
      one-separate root (OfVariable origin selectors reach) roots actuals one passed apart =
          and_from (list_all (is_listed_round pairs tree around root) (root_of origin ∷ aliases_in listed caller (root_of origin)))
          (list_all (is_listed_with pairs root origin selectors) (bound_to roots actuals))
          (each (root_of origin ∷ aliases_in listed caller (root_of origin))) (listed-with root origin selectors one.1 roots actuals passed apart)
        where
          each : (others : List ℕ) → list_all (is_listed_round pairs tree around root) others ≡ true
          each [] = refl
          each (other ∷ others) =
              and_from (is_listed_round pairs tree around root other) (list_all (is_listed_round pairs tree around root) others)
              (listed-round root other one.1) (each others)

      pub separate : (roots : List ℕ) (actuals : List Actual) → Distinct roots → ArePassedTo roots actuals
          → are_separate listed caller around (bound_to roots actuals) ≡ true
      separate [] [] distinct passed = refl
      separate [] (actual ∷ actuals) distinct passed = absurd passed
      separate (root ∷ roots) [] distinct passed = absurd passed
      separate (root ∷ roots) (actual ∷ actuals) distinct passed =
          and_from (is_actual_separate listed caller around (bound_to roots actuals) root actual) (are_separate listed caller around (bound_to roots actuals))
          (one-separate root actual roots actuals passed.0 passed.1 distinct.0) (separate roots actuals distinct.1 passed.1)

      -- ---- what a call changes

      -- a variable that is passed is visible
      passed-seen : (roots : List ℕ) (actuals : List Actual) → ArePassedTo roots actuals → (root : ℕ) (origin : Origin) (selectors : List Selector)
          (reach : Reach) → actual_of (bound_to roots actuals) root ≡ Some (OfVariable origin selectors reach)
          → is_visible outline caller (root_of origin) ≡ true
      passed-seen [] actuals passed root origin selectors reach is = absurd (none-some (OfVariable origin selectors reach) is)
      passed-seen (first ∷ roots) [] passed root origin selectors reach is = absurd passed
      passed-seen (first ∷ roots) (actual ∷ actuals) passed root origin selectors reach is =
          by (nat_eq first root) is (λ later. passed-seen roots actuals passed.1 root origin selectors reach later)
        where
          by : (own : Bool) → cond own (Some actual) (actual_of (bound_to roots actuals) root) ≡ Some (OfVariable origin selectors reach)
              → (actual_of (bound_to roots actuals) root ≡ Some (OfVariable origin selectors reach) → is_visible outline caller (root_of origin) ≡ true)
              → is_visible outline caller (root_of origin) ≡ true
          by true here rest =
              (subst (IsPassedTo first) (same_Some actual (OfVariable origin selectors reach) here) passed.0).0
          by false here rest = rest here

      -- each formal parameter has its actual one
      none-passed : (roots : List ℕ) (actuals : List Actual) → ArePassedTo roots actuals → (root : ℕ) → actual_of (bound_to roots actuals) root ≡ None
          → Contains roots root → ⊥
      none-passed [] actuals passed root is inside = omega (arith, inside.1)
      none-passed (first ∷ roots) [] passed root is inside = passed
      none-passed (first ∷ roots) (actual ∷ actuals) passed root is inside =
          by (nat_eq first root) refl is inside (λ later. none-passed roots actuals passed.1 root later)
        where
          by : (own : Bool) → nat_eq first root ≡ own → cond own (Some actual) (actual_of (bound_to roots actuals) root) ≡ None
              → Contains (first ∷ roots) root
              → (actual_of (bound_to roots actuals) root ≡ None → Contains roots root → ⊥) → ⊥
          by true own none inside rest = none-some actual (sym none)
          by false own none (zero, within, here) rest = false≢true (sym own ∙ eq-eqb first root here)
          by false own none (suc k, within, here) rest = rest none (k, omega (arith, within), here)

      changes-known : (root : ℕ) → Contains (of_block callee).changes root → is_outward tree callee root ≡ true
      changes-known root = by (of_block callee) (comes-from tree certificate callee)
        where
          by : (claims : BlockClaims) → ComesFrom certificate.sections.items callee claims → Contains claims.changes root
              → is_outward tree callee root ≡ true
          by claims (Nothing none) inside =
              let empty : Contains [] root = subst (λ (c : BlockClaims). Contains c.changes root) none inside in
              absurd (omega (arith, empty.1))
          by claims (From section there own is) inside =
              let section_known = known-section tree section (all-pass (section_is_known tree) certificate.sections.items section there plain.known) in
              subst (λ (n : ℕ). is_outward tree n root ≡ true) own
              (section_known.changes root (subst (λ (c : BlockClaims). Contains c.changes root) is inside))

      module _ (callable : of_one (is_round outline caller) (declarer around) ≡ true) where
        -- what the callee lists and is no parameter is visible in the caller
        listed-seen : (root : ℕ) → is_outward tree callee root ≡ true → (Contains b.heading.parameters.items root → ⊥)
            → is_visible outline caller root ≡ true
        listed-seen root outward other =
            let parts = and_parts (is_visible outline callee root)
            (not (is_declared outline callee is_local_kind root || is_declared outline callee is_result_kind root)) outward in
            let found = one-there (λ (v : Variable). is_round outline callee v.block) (slice_get variables root) parts.0 in
            let v = found.0 in
            let kinds : not ((nat_eq v.block callee && is_local_kind v.kind) || (nat_eq v.block callee && is_result_kind v.kind)) ≡ true =
            sym
            (ap
            (λ (one : Option Variable).
            not (of_one (λ (x : Variable). nat_eq x.block callee && is_local_kind x.kind) one
            || of_one (λ (x : Variable). nat_eq x.block callee && is_result_kind x.kind) one)) found.1)
            ∙ parts.1 in
            let round : (nat_eq v.block callee || is_one_of around v.block) ≡ true = sym (ap (of_one (encloses v.block callee)) heading-is) ∙ found.2 in
            ap (of_one (λ (x : Variable). is_round outline caller x.block)) found.1
            ∙ ⊎_elim
            (λ own.
            let no_own : (is_local_kind v.kind || is_result_kind v.kind) ≡ false =
            sym (ap (λ (same : Bool). same && (is_local_kind v.kind || is_result_kind v.kind)) own)
            ∙ either-not (nat_eq v.block callee) (is_local_kind v.kind) (is_result_kind v.kind) kinds in
            absurd (other
            (parameter-listed tree plain.well callee b block_is root v found.1 (eqb-true v.block callee own) (a-parameter v.kind no_own))))
            (λ among. callable-round outline (well-placed tree plain.well) caller callee v.block b.heading heading-is callable among)
            (or_cases (nat_eq v.block callee) (is_one_of around v.block) round)

        module _ (rounds : List Round) (wide : AreWide caller rounds) (actuals : List Actual) (passed : ArePassedTo b.heading.parameters.items actuals) where
          abbrev bindings : List Binding
          bindings = bound_to b.heading.parameters.items actuals

          abbrev may : ℕ → Bool
          may root = may_change (at caller rounds) root

          one-may : (root : ℕ) → is_outward tree callee root ≡ true → list_all may (root_changed root (actual_of bindings root)) ≡ true
          one-may root outward = by (actual_of bindings root) refl
            where
              by : (actual : Option Actual) → actual_of bindings root ≡ actual → list_all may (root_changed root actual) ≡ true
              by None is =
                  and_from (may root) true
                  (may-change caller rounds wide root
                  (listed-seen root outward (none-passed b.heading.parameters.items actuals passed root is))) refl
              by (Some (OfValue range form)) is = refl
              by (Some (OfRows ranges)) is = refl
              by (Some (OfVariable origin selectors reach)) is =
                  and_from (may (root_of origin)) true
                  (may-change caller rounds wide (root_of origin)
                  (passed-seen b.heading.parameters.items actuals passed root origin selectors reach is)) refl

          all-may : (roots : List ℕ) → ((root : ℕ) → Contains roots root → is_outward tree callee root ≡ true)
              → list_all may (roots_changed bindings roots) ≡ true
          all-may [] outward = refl
          all-may (root ∷ roots) outward =
              let first = root_changed root (actual_of bindings root) in
              list_all-append may first (roots_changed bindings roots)
              ∙ and_from (list_all may first) (list_all may (roots_changed bindings roots)) (one-may root (outward root (0, omega arith, refl)))
              (all-may roots (λ other inside. outward other (contains-more root roots other inside)))

          -- what a call may change, may be changed in the caller
          pub call-may : list_all may (roots_changed bindings (of_block callee).changes) ≡ true
          call-may = all-may (of_block callee).changes changes-known
