-- The claims of a certificate that names what the program has name what they may: what a caller may know, and at the end of a block its own result.
use Rattle.std.proofs.Common.{arith, ◌≡◌, ⊎_elim, inl, inr, ◌∙◌, sym, ap, ap₂, refl, subst, ℕ, suc, Bool, true, false, cond, not}
use Rattle.std.proofs.Common.{◌&&◌, ◌||◌, nat_eq, List, [], ◌∷◌, ◌++◌, length, map}
use Rattle.std.specs.List.{Contains, list_all, range_with_len}
use Rattle.std.specs.Prelude.{nat_lt, slice_get}
use Rattle.std.proofs.lemmas.Bool.{and_parts, cases_lt, eqb-true, false≢true, not-true, or_cases, or_parts}
use Rattle.std.proofs.lemmas.List.{append-nil, get_or_past, length-map}
use Rattle.std.proofs.lemmas.List.FromFn.{get_or-map-range_with_len, length-range_with_len}
use Rattle.typed_tree.specs.WellFormed.{is_declared, is_local_kind, is_result_kind, is_round, is_value_kind, is_visible, of_one, outline_of}
use Rattle.typed_tree.specs.declared.tree.Tree.{Tree}
use Rattle.typed_tree.specs.declared.tree.Variable.{Variable}
use Rattle.certificate.specs.declared.Certificate.{Certificate}
use Rattle.certificate.specs.declared.Section.{Section as KeptSection}
use Rattle.certificate.specs.declared.facts.Fact.{Fact as KeptFact}
use Rattle.certificate.specs.declared.facts.Fact.TheVariants as kept
use Rattle.certificate.specs.Contents.{contents, is_empty, said_fact, section_of}
use Rattle.domain.specs.declared.facts.Bound.{Bound as KeptBound}
use Rattle.domain.specs.declared.facts.Bound.TheVariants as kept_bound
use Rattle.domain.specs.declared.facts.Span.{Span as KeptSpan}
use Rattle.domain.specs.declared.facts.Spans.TheVariants as kept_spans
use Rattle.domain.specs.Facts.{Fact, said_bound, said_span}
use Rattle.checker_state.specs.Loops.{is_among}
use Rattle.certificate.specs.declared.AliasPair.{AliasPair}
use Rattle.certificate.specs.Contents.{Section}
use Rattle.cert_checker.proofs.HiddenControls.{IsKnownPair}
use Rattle.checker_loops.specs.Sections.{BlockClaims, all_block_claims, all_pairs, block_claims_at, block_claims_in, no_block_claims, pair_of}
use Rattle.checker_loops.proofs.AliasedStores.{all-pass}
use Rattle.checker_loops.proofs.Lists.{of-flat, of-map}
use Rattle.checker_calls.proofs.BehindExits.{IsOwnResult, IsResultOf, MayEnd}
use Rattle.checker_calls.proofs.Given.{AreOutward}
use Rattle.checker_calls.proofs.Given as given
use Rattle.checker_calls.proofs.Headings.{one-there}
use Rattle.checker_calls.proofs.Parameters.{IsOutward}
use Rattle.checker_calls.specs.Names.{block_is_known, bound_roots, exit_is_known, fact_is_known, fact_is_on, fact_roots}
use Rattle.checker_calls.specs.Names.{has_parameter, is_changed_value, pair_is_known}
use Rattle.checker_calls.specs.Names.{is_known, is_lasting, is_of_loops, is_outward, is_own_result, section_is_known, span_roots}
use Rattle.checker_expressions.proofs.Sound.{World}
use Rattle.checker_expressions.proofs.CallLaws.{AreClaims}

pub nothing-in : {A : Type 0} (items : List A) (item : A) → is_empty items ≡ true → Contains items item → ⊥
nothing-in [] item none inside = omega (arith, inside.1)
nothing-in (first ∷ items) item none inside = false≢true none

-- ---- variables

neither : (own a b : Bool) → (own && a) ≡ false → (own && b) ≡ false → (own && (a || b)) ≡ false
neither true true b one other = absurd (false≢true (sym one))
neither true false b one other = other
neither false a b one other = refl

-- a variable that the caller may know
outward-known : (tree : Tree) (block root : ℕ) → is_outward tree block root ≡ true → IsOutward tree block root
outward-known tree block root is =
    let outline = outline_of tree in
    let parts = and_parts (is_visible outline block root)
    (not (is_declared outline block is_local_kind root || is_declared outline block is_result_kind root)) is in
    let found = one-there (λ (v : Variable). is_round outline block v.block) (slice_get tree.variables.items root) parts.0 in
    let v = found.0 in
    let none = or_parts (is_declared outline block is_local_kind root) (is_declared outline block is_result_kind root)
    (not-true (is_declared outline block is_local_kind root || is_declared outline block is_result_kind root) parts.1) in (
      v,
      found.1,
      found.2,
      neither (nat_eq v.block block) (is_local_kind v.kind) (is_result_kind v.kind)
          (sym (ap (of_one (λ (x : Variable). nat_eq x.block block && is_local_kind x.kind)) found.1) ∙ none.0)
          (sym (ap (of_one (λ (x : Variable). nat_eq x.block block && is_result_kind x.kind)) found.1) ∙ none.1),
    )

-- ---- facts

bounds-same : (bound : KeptBound) → given.bound_roots (said_bound bound) ≡ bound_roots bound
bounds-same (kept_bound.Number n) = refl
bounds-same (kept_bound.Plus root n) = refl

span-same : (span : KeptSpan) → given.span_roots (said_span span) ≡ span_roots span
span-same span = ap₂ (λ (first last : List ℕ). first ++ last) (bounds-same span.first) (bounds-same span.last)

roots-same : (one : KeptFact) → given.fact_roots (said_fact one) ≡ fact_roots one
roots-same (kept.Range path range) = refl
roots-same (kept.Defined path kept_spans.None) = refl
roots-same (kept.Defined path (kept_spans.One span)) =
    ap (λ (roots : List ℕ). path.root ∷ roots) (append-nil (given.span_roots (said_span span)) ∙ span-same span)
roots-same (kept.Defined path (kept_spans.Two span inner)) =
    ap (λ (roots : List ℕ). path.root ∷ roots)
    (ap₂ (λ (first next : List ℕ). first ++ next) (span-same span) (append-nil (given.span_roots (said_span inner)) ∙ span-same inner))
roots-same (kept.Order root other n) = refl
roots-same (kept.Grows root growth) = refl

-- the variables that a fact names pass a test
each-root : (test : ℕ → Bool) (one : KeptFact) (root : ℕ) → list_all test (fact_roots one) ≡ true → Contains (given.fact_roots (said_fact one)) root
    → test root ≡ true
each-root test one root all inside = all-pass test (fact_roots one) root (subst (λ (roots : List ℕ). Contains roots root) (roots-same one) inside) all

-- what is known where a block begins
entry-outward : (tree : Tree) (block : ℕ) (one : KeptFact) → fact_is_on tree (is_outward tree block) one ≡ true → AreOutward tree block (said_fact one)
entry-outward tree block one is root inside =
    let parts = and_parts (fact_is_known tree one) (list_all (is_outward tree block) (fact_roots one)) is in
    outward-known tree block root (each-root (is_outward tree block) one root parts.1 inside)

-- the result of a block
result-known : (tree : Tree) (block root : ℕ) → is_declared (outline_of tree) block is_result_kind root ≡ true → IsResultOf tree block root
result-known tree block root is =
    let found = one-there (λ (v : Variable). nat_eq v.block block && is_result_kind v.kind) (slice_get tree.variables.items root) is in
    let parts = and_parts (nat_eq found.0.block block) (is_result_kind found.0.kind) found.2 in
    (found.0, found.1, eqb-true found.0.block block parts.0, parts.1)

own-known : (tree : Tree) (block : ℕ) (one : KeptFact) → is_own_result tree block one ≡ true → IsOwnResult tree block (said_fact one)
own-known tree block (kept.Range path range) is = result-known tree block path.root is
own-known tree block (kept.Defined path kept_spans.None) is = result-known tree block path.root is
own-known tree block (kept.Defined path (kept_spans.One span)) is = absurd (false≢true is)
own-known tree block (kept.Defined path (kept_spans.Two span inner)) is = absurd (false≢true is)
own-known tree block (kept.Order root other n) is = absurd (false≢true is)
own-known tree block (kept.Grows root growth) is = absurd (false≢true is)

-- what is known where it ends
exit-may : (tree : Tree) (section : KeptSection) (one : KeptFact) → exit_is_known tree section one ≡ true
    → MayEnd tree section.block section.changes.items (said_fact one)
exit-may tree section one is =
    ⊎_elim (λ own. inl (own-known tree section.block one (and_parts (fact_is_known tree one) (is_own_result tree section.block one) own).1))
    (λ lasts.
    let parts = and_parts (fact_is_known tree one) (list_all (is_lasting tree section) (fact_roots one)) lasts in
    let each = λ (root : ℕ) (inside : Contains (given.fact_roots (said_fact one)) root).
    and_parts (is_outward tree section.block root) (not (is_changed_value tree section root)) (each-root (is_lasting tree section) one root parts.1 inside) in
    inr (record {
      outward = λ root inside. outward-known tree section.block root (each root inside).0;
      lasting = λ root variable inside variable_is value.
          let declared : is_declared (outline_of tree) section.block is_value_kind root ≡ true =
          ap (of_one (λ (v : Variable). nat_eq v.block section.block && is_value_kind v.kind)) variable_is ∙ value in
          let none = not-true (is_changed_value tree section root) (each root inside).1 in
          sym (ap (λ (b : Bool). b && is_among root section.changes.items) declared) ∙ none;
    }))
    (or_cases (fact_is_known tree one && is_own_result tree section.block one) (fact_is_on tree (is_lasting tree section) one) is)

-- ---- the claims on a block

-- the claims on a block are those of a section on it, or nothing
pub data ComesFrom (sections : List KeptSection) (number : ℕ) (claims : BlockClaims) : Type 0 where
  Nothing : claims ≡ no_block_claims → ComesFrom sections number claims
  From : (section : KeptSection) → Contains sections section → section.block ≡ number
      → claims ≡ record { changes = (section_of section).changes; entry = (section_of section).entry; exit = (section_of section).exit }
      → ComesFrom sections number claims

comes-later : (first : KeptSection) (sections : List KeptSection) (number : ℕ) (claims : BlockClaims) → ComesFrom sections number claims
    → ComesFrom (first ∷ sections) number claims
comes-later first sections number claims (Nothing none) = Nothing none
comes-later first sections number claims (From section (k, within, at) own is) = From section (suc k, omega (arith, within), at) own is

comes-in : (sections : List KeptSection) (number : ℕ) → ComesFrom sections number (block_claims_in number (map section_of sections))
comes-in [] number = Nothing refl
comes-in (section ∷ sections) number = by (nat_eq section.block number) refl (comes-in sections number)
  where
    by : (own : Bool) → nat_eq section.block number ≡ own → ComesFrom sections number (block_claims_in number (map section_of sections))
        → ComesFrom (section ∷ sections) number
        (cond own (record { changes = (section_of section).changes; entry = (section_of section).entry; exit = (section_of section).exit })
        (block_claims_in number (map section_of sections)))
    by true own later = From section (0, omega arith, refl) (eqb-true section.block number own) refl
    by false own later = comes-later section sections number (block_claims_in number (map section_of sections)) later

pub comes-from : (tree : Tree) (certificate : Certificate) (number : ℕ)
    → ComesFrom certificate.sections.items number (block_claims_at (all_block_claims tree certificate) number)
comes-from tree certificate number =
    ⊎_elim
    (λ within.
    subst (λ (claims : BlockClaims). ComesFrom certificate.sections.items number claims)
    (sym (get_or-map-range_with_len (λ (n : ℕ). block_claims_in n (contents certificate)) 0 (length tree.blocks.items) number number no_block_claims within
    (omega arith)))
    (comes-in certificate.sections.items number))
    (λ beyond.
    let numbers = range_with_len 0 (length tree.blocks.items) in
    let one = length-map numbers (λ (n : ℕ). block_claims_in n (contents certificate)) in
    let two = length-range_with_len 0 (length tree.blocks.items) in
    Nothing (get_or_past (all_block_claims tree certificate) number no_block_claims (omega (arith, one, two, beyond))))
    (cases_lt number (length tree.blocks.items))

-- a section that is known claims nothing of a block but what that may
pub record IsKnownSection (tree : Tree) (section : KeptSection) : Type 0 where
  pub changes : (root : ℕ) → Contains section.changes.items root → is_outward tree section.block root ≡ true
  pub entry : (one : KeptFact) → Contains section.entry.items one → fact_is_on tree (is_outward tree section.block) one ≡ true
  pub exit : (one : KeptFact) → Contains section.exit.items one → exit_is_known tree section one ≡ true
  pub aliases : (pair : AliasPair) → Contains section.aliases.items pair → pair_is_known tree section.block pair ≡ true

pub known-section : (tree : Tree) (section : KeptSection) → section_is_known tree section ≡ true → IsKnownSection tree section
known-section tree section is =
    let one = and_parts (nat_lt section.block (length tree.blocks.items)) _ is in
    let two = and_parts (cond (nat_eq section.block 0) (is_of_loops section) (block_is_known tree section)) _ one.1 in
    by (nat_eq section.block 0) two.0
  where
    by : (main : Bool) → cond main (is_of_loops section) (block_is_known tree section) ≡ true → IsKnownSection tree section
    by true none =
        let a = and_parts (is_empty section.aliases.items) _ none in
        let b = and_parts (is_empty section.changes.items) _ a.1 in
        let c = and_parts (is_empty section.entry.items) (is_empty section.exit.items) b.1 in
        record {
          changes = λ root inside. absurd (nothing-in section.changes.items root b.0 inside);
          entry = λ fact inside. absurd (nothing-in section.entry.items fact c.0 inside);
          exit = λ fact inside. absurd (nothing-in section.exit.items fact c.1 inside);
          aliases = λ pair inside. absurd (nothing-in section.aliases.items pair a.0 inside);
        }
    by false all =
        let a = and_parts (list_all (pair_is_known tree section.block) section.aliases.items) (list_all (is_outward tree section.block) section.changes.items
        && (list_all (fact_is_on tree (is_outward tree section.block)) section.entry.items && list_all (exit_is_known tree section) section.exit.items)) all in
        let b = and_parts (list_all (is_outward tree section.block) section.changes.items) _ a.1 in
        let c = and_parts (list_all (fact_is_on tree (is_outward tree section.block)) section.entry.items)
        (list_all (exit_is_known tree section) section.exit.items) b.1 in
        record {
          changes = λ root inside. all-pass (is_outward tree section.block) section.changes.items root inside b.0;
          entry = λ fact inside. all-pass (fact_is_on tree (is_outward tree section.block)) section.entry.items fact inside c.0;
          exit = λ fact inside. all-pass (exit_is_known tree section) section.exit.items fact inside c.1;
          aliases = λ pair inside. all-pass (pair_is_known tree section.block) section.aliases.items pair inside a.0;
        }

module _ (world : World) (certificate : Certificate) (blocks_are : world.blocks ≡ all_block_claims world.tree certificate)
    (names_known : is_known world.tree certificate ≡ true) where
  abbrev tree : Tree
  tree = world.tree

  abbrev claims_on : ℕ → BlockClaims
  claims_on number = block_claims_at world.blocks number

  from : (number : ℕ) → ComesFrom certificate.sections.items number (claims_on number)
  from number =
      subst (λ (blocks : List BlockClaims). ComesFrom certificate.sections.items number (block_claims_at blocks number)) (sym blocks_are)
      (comes-from tree certificate number)

  known-here : (section : KeptSection) → Contains certificate.sections.items section → IsKnownSection tree section
  known-here section inside = known-section tree section (all-pass (section_is_known tree) certificate.sections.items section inside names_known)

  no-one : {A : Type 0} (items : List A) (item : A) → items ≡ [] → Contains items item → ⊥
  no-one items item none inside =
      let empty : Contains [] item = subst (λ (all : List _). Contains all item) none inside in
      omega (arith, empty.1)

  changes-outward : (number : ℕ) (claims : BlockClaims) → ComesFrom certificate.sections.items number claims → (root : ℕ) → Contains claims.changes root
      → IsOutward tree number root
  changes-outward number claims (Nothing none) root inside = absurd (no-one claims.changes root (ap (λ (c : BlockClaims). c.changes) none) inside)
  changes-outward number claims (From section there own is) root inside =
      subst (λ (n : ℕ). IsOutward tree n root) own
      (outward-known tree section.block root
      ((known-here section there).changes root (subst (λ (all : List ℕ). Contains all root) (ap (λ (c : BlockClaims). c.changes) is) inside)))

  entry-known : (number : ℕ) (claims : BlockClaims) → ComesFrom certificate.sections.items number claims → (one : Fact) → Contains claims.entry one
      → AreOutward tree number one
  entry-known number claims (Nothing none) one inside = absurd (no-one claims.entry one (ap (λ (c : BlockClaims). c.entry) none) inside)
  entry-known number claims (From section there own is) one inside =
      let found = of-map said_fact section.entry.items one (subst (λ (all : List Fact). Contains all one) (ap (λ (c : BlockClaims). c.entry) is) inside) in
      subst (λ (n : ℕ). AreOutward tree n one) own
      (subst (AreOutward tree section.block) found.2 (entry-outward tree section.block found.0 ((known-here section there).entry found.0 found.1)))

  exit-known : (number : ℕ) (claims : BlockClaims) → ComesFrom certificate.sections.items number claims → (one : Fact) → Contains claims.exit one
      → MayEnd tree number claims.changes one
  exit-known number claims (Nothing none) one inside = absurd (no-one claims.exit one (ap (λ (c : BlockClaims). c.exit) none) inside)
  exit-known number claims (From section there own is) one inside =
      let found = of-map said_fact section.exit.items one (subst (λ (all : List Fact). Contains all one) (ap (λ (c : BlockClaims). c.exit) is) inside) in
      subst (λ (changes : List ℕ). MayEnd tree number changes one) (sym (ap (λ (c : BlockClaims). c.changes) is))
      (subst (λ (n : ℕ). MayEnd tree n section.changes.items one) own
      (subst (MayEnd tree section.block section.changes.items) found.2 (exit-may tree section found.0 ((known-here section there).exit found.0 found.1))))

  -- each pair is one of a block
  pub pairs-known : (first second : ℕ) → Contains (all_pairs certificate) (first, second) → IsKnownPair tree first second
  pairs-known first second inside =
      let section = of-flat (λ (s : Section). map pair_of s.aliases) (contents certificate) (first, second) inside in
      let own = of-map section_of certificate.sections.items section.0 section.1 in
      let pair = of-map pair_of own.0.aliases.items (first, second)
      (subst (λ (s : Section). Contains (map pair_of s.aliases) (first, second)) (sym own.2) section.2) in
      let known = (known-here own.0 own.1).aliases pair.0 pair.1 in
      let first_is : pair.0.first ≡ first = ap (λ (one : ℕ × ℕ). one.0) pair.2 in
      let second_is : pair.0.second ≡ second = ap (λ (one : ℕ × ℕ). one.1) pair.2 in
      subst (λ (a : ℕ). IsKnownPair tree a second) first_is
      (subst (λ (b : ℕ). IsKnownPair tree pair.0.first b) second_is (
        own.0.block,
        ⊎_elim (λ one. inl one) (λ other. inr other)
            (or_cases (has_parameter tree own.0.block pair.0.first pair.0.second) (has_parameter tree own.0.block pair.0.second pair.0.first) known),
      ))

  -- the claims of a certificate that names what the program has are such
  pub are-claims : AreClaims world
  are-claims = record {
    changes = λ number root inside. changes-outward number (claims_on number) (from number) root inside;
    entry = λ number one inside. entry-known number (claims_on number) (from number) one inside;
    exit = λ number one inside. exit-known number (claims_on number) (from number) one inside;
  }
