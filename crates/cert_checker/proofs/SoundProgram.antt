-- The walk over a program is sound for each of its runs: closed sites never err, and states hold.
use Rattle.std.proofs.Common.{arith, ◌≡◌, ⊎_elim, inl, ◌∙◌, sym, ap, refl, subst, ℕ, zero, suc, ◌<◌, get_or, ◌==◌, Bool, true, false, ◌&&◌, cond, nat_eq}
use Rattle.std.proofs.Common.{zero-add, List, [], ◌∷◌, ◌++◌, map, filter, Option, Some, None, length}
use Rattle.std.specs.Prelude.{◌+◌, ◌≤◌, nat_lt, slice_get}
use Rattle.std.specs.List.{Contains, flat_map, list_any, list_all, range_with_len, sum_by}
use Rattle.std.proofs.lemmas.Bool.{and_parts, eq-eqb, eqb-true}
use Rattle.std.proofs.lemmas.List.{length-map, get_or-map}
use Rattle.std.proofs.lemmas.Option.{none-some}
use Rattle.std.proofs.lemmas.List.Folds.{list_any_at}
use Rattle.std.proofs.lemmas.List.Sorted.{sum_by-IsPermutation}
use Rattle.std.proofs.lemmas.List.Sums.{sum_by-cons}
use Rattle.std.proofs.lemmas.List.Concat.{flat_map-cons}
use Rattle.std.proofs.lemmas.List.FromFn.{length-range_with_len, get_or-range_with_len}
use Rattle.certificate.specs.declared.Certificate.{Certificate}
use Rattle.certificate.specs.declared.Section.{Section as KeptSection}
use Rattle.certificate.specs.Contents.{is_empty, said_fact, section_of}
use Rattle.typed_tree.specs.declared.tree.Tree.{Tree}
use Rattle.typed_tree.specs.declared.tree.Block.{Block}
use Rattle.typed_tree.specs.declared.site.Site.{Site}
use Rattle.typed_tree.specs.Entries.{AreNumbered, entries_in_text, entries_of, entries_of_block, of_block}
use Rattle.typed_tree.specs.Ids.{AreInOrder}
use Rattle.typed_tree.specs.WellFormed.{IsWellFormed}
use Rattle.domain.specs.Facts.{Fact}
use Rattle.meaning.specs.declared.outcome.Ending.TheVariants.{Error}
use Rattle.meaning.specs.Effect as effect
use Rattle.meaning.specs.Effect.{Reply, Visit}
use Rattle.meaning.specs.Meaning.{calls_of, ended, environment_of, first_state, program_activation, run, run_of}
use Rattle.checker_rows.proofs.Numbered.{contains-has, has-contains, in-filter}
use Rattle.checker_loops.specs.Sections.{BlockClaims, all_pairs, block_claims_at, block_claims_in}
use Rattle.checker_loops.proofs.AliasedStores.{head-or_tail}
use Rattle.checker_calls.specs.Environments.{Fine}
use Rattle.checker_calls.proofs.Claimed.{AllHold}
use Rattle.checker_calls.proofs.Started.{no-claims, program-proper, program-start}
use Rattle.checker_expressions.specs.Walk.{Linked, numbers_of}
use Rattle.checker_expressions.specs.Visits.{moment_of, visits_of}
use Rattle.checker_state.specs.Holds.{StateHolds}
use Rattle.checker_expressions.proofs.Sound.{ErrsWithin, Meets, New, World, parts_in, sites_in}
use Rattle.checker_expressions.proofs.CallLaws.{call-laws}
use Rattle.checker_expressions.proofs.SoundCalls.{CallLaws}
use Rattle.checker_calls.specs.Names.{block_is_known, claims_are_known, is_known, is_of_loops, section_is_known}
use Rattle.cert_checker.specs.Promise.{open_in, ClosedNeverErr, HoldsAt, StatesHold}
use Rattle.cert_checker.specs.Walk.{program_walk}
use Rattle.cert_checker.proofs.ClaimsKnown.{are-claims, pairs-known}
use Rattle.cert_checker.proofs.HiddenControls.{IsKnownPair}
use Rattle.cert_checker.proofs.SparedCalls.{spared-calls}
use Rattle.cert_checker.proofs.EffectsRoutines.{claims-are}
use Rattle.cert_checker.proofs.SoundBlocks.{body-good, program_world, sound-calls}

-- ---- what is claimed of the program's block

empty-list : {A : Type 0} (list : List A) → is_empty list ≡ true → list ≡ []
empty-list [] is = refl
empty-list (x ∷ list) is = absurd (cc)

-- nothing of its begin
section-known : (tree : Tree) (section : KeptSection) → section_is_known tree section ≡ true → nat_eq section.block 0 ≡ true
    → section.entry.items ≡ []
section-known tree section known own =
    let inner = cond (nat_eq section.block 0) (is_of_loops section) (block_is_known tree section) in
    let loops = list_all (claims_are_known tree section.block) section.loops.items in
    let one = and_parts (nat_lt section.block (length tree.blocks.items)) (inner && loops) known in
    let two = and_parts inner loops one.1 in
    let of_loops : is_of_loops section ≡ true =
    subst (λ (b : Bool). cond b (is_of_loops section) (block_is_known tree section) ≡ true) own two.0 in
    let rest = is_empty section.changes.items && (is_empty section.entry.items && is_empty section.exit.items) in
    let three = and_parts (is_empty section.aliases.items) rest of_loops in
    let four = and_parts (is_empty section.changes.items) (is_empty section.entry.items && is_empty section.exit.items) three.1 in
    empty-list section.entry.items (and_parts (is_empty section.entry.items) (is_empty section.exit.items) four.1).0

none-entered : (tree : Tree) (sections : List KeptSection) → list_all (section_is_known tree) sections ≡ true
    → (block_claims_in 0 (map section_of sections)).entry ≡ []
none-entered tree [] known = refl
none-entered tree (section ∷ sections) known =
    let parts = and_parts (section_is_known tree section) (list_all (section_is_known tree) sections) known in
    by (nat_eq section.block 0) refl (none-entered tree sections parts.1) parts.0
  where
    by : (own : Bool) → nat_eq section.block 0 ≡ own → (block_claims_in 0 (map section_of sections)).entry ≡ []
        → section_is_known tree section ≡ true
        → (cond {A = BlockClaims} own
        (record { changes = section.changes.items; entry = map said_fact section.entry.items; exit = map said_fact section.exit.items })
        (block_claims_in 0 (map section_of sections))).entry ≡ []
    by false own rest is = rest
    by true own rest is = ap (map said_fact) (section-known tree section is own)

-- ---- a run and the walk over its blocks

-- what the walk over a program foretells of a run
pub record Foretold (world : World) (reply : Reply (Unit {0})) : Type 0 where
  pub errs : ErrsWithin world reply
  pub new : New world [] (visits_of reply)

-- nothing is stored at first
first-fine : (tree : Tree) (input : List ℕ) (turns : ℕ) → Fine tree (first_state input turns)
first-fine tree input turns = record { typed = λ place v is. absurd (none-some v is); begun = λ place v is. absurd (none-some v is) }

module _ (tree : Tree) (certificate : Certificate) (unbroken : (program_walk tree certificate).broken ≡ []) (known : is_known tree certificate ≡ true)
    (well : IsWellFormed tree) (input : List ℕ) (turns : ℕ) where
  abbrev world : World
  world = program_world tree certificate

  laws : CallLaws world
  laws = call-laws world well (are-claims world certificate refl known)

  known_pairs : (first second : ℕ) → Contains (all_pairs certificate) (first, second) → IsKnownPair tree first second
  known_pairs = pairs-known world certificate refl known

  block-foretold : (block : Block) → slice_get tree.blocks.items 0 ≡ Some block
      → Foretold world (run_of tree (suc turns) (Some block) (first_state input turns))
  block-foretold block is =
      let visible = environment_of tree (program_activation tree block.heading) in
      let entry = (block_claims_at world.blocks 0).entry in
      let none : entry ≡ [] = ap (λ (claims : BlockClaims). claims.entry) (claims-are tree well certificate unbroken 0 block is)
      ∙ none-entered tree certificate.sections.items known in
      let hold : AllHold tree entry visible [] = subst (λ (facts : List Fact). AllHold tree facts visible []) (sym none) (no-claims tree visible []) in
      let good = body-good tree certificate unbroken well laws known_pairs (calls_of tree (suc turns))
      (sound-calls tree certificate unbroken well laws known_pairs (suc turns)) 0 block is visible refl (spared-calls tree well (suc turns))
      (first_state input turns) (first-fine tree input turns) (program-proper tree world.pairs well block is)
      (program-start tree world.pairs well block is certificate.version entry hold) in
      record { errs = good.errs; new = good.new }

  pub program-foretold : Foretold world (run tree input turns)
  program-foretold = by (slice_get tree.blocks.items 0) refl
    where
      by : (found : Option Block) → slice_get tree.blocks.items 0 ≡ found → Foretold world (run_of tree (suc turns) found (first_state input turns))
      by None is = record { errs = tt; new = λ visit inside. inl inside }
      by (Some block) is = block-foretold block is

-- ---- numbers that are places

-- where the numbers of a list go from 0 on, each is the place of its element
number-at : {X : Type 0} (number : X → ℕ) (xs : List X) (n : ℕ) → map number xs ≡ range_with_len 0 n → (k : ℕ) (x : X) → k < length xs → get_or xs k x ≡ x
    → number x ≡ k
number-at number xs n are k x within is =
    let long : length xs ≡ n = sym (length-map xs number) ∙ ap length are ∙ length-range_with_len 0 n in
    ap number (sym is) ∙ sym (get_or-map number xs k x (number x) within) ∙ ap (λ l. get_or l k (number x)) are
    ∙ get_or-range_with_len 0 n k (number x) (omega (arith, long, within)) ∙ zero-add k

-- ---- closed sites never err

errs-within : (world : World) (reply : Reply (Unit {0})) (id : ℕ) → ErrsWithin world reply → (ended reply).ending ≡ Error id
    → Contains world.ids id × (id < sites_in world)
errs-within world (effect.Gives done s) id told is = absurd (cc)
errs-within world (effect.Stops e s) id told is = told id is

among-open : (ids : List ℕ) (sites : List Site) (site : Site) → Contains ids site.id → Contains sites site → Contains (open_in ids sites) site
among-open ids sites site listed inside =
    let test = λ (other : Site). list_any (λ id. id == other.id) ids in
    let passes = list_any_at (λ id. id == site.id) ids listed.0 site.id listed.1 (eq-eqb (get_or ids listed.0 site.id) site.id listed.2) in
    has-contains (filter test sites) site (in-filter test sites site (contains-has sites site inside) passes)

element-at : {X : Type 0} (xs : List X) (k : ℕ) → k < length xs → (x : X) × (get_or xs k x ≡ x)
element-at [] k within = absurd (omega arith)
element-at (x ∷ xs) zero within = (x, refl)
element-at (x ∷ xs) (suc k) within = element-at xs k (omega arith)

-- each error of a run is at a site that the walk leaves open
pub closed-never_err : (tree : Tree) (certificate : Certificate) (open_sites : List Site) → (program_walk tree certificate).broken ≡ []
    → is_known tree certificate ≡ true
    → open_sites ≡ open_in (program_walk tree certificate).open_ids tree.sites.items → IsWellFormed tree → AreInOrder tree.sites.items
    → ClosedNeverErr tree open_sites
closed-never_err tree certificate open_sites unbroken known open_are well in_order input turns id errs =
    let ids = (program_walk tree certificate).open_ids in
    let sites = tree.sites.items in
    let told = program-foretold tree certificate unbroken known well input turns in
    let at = errs-within (program_world tree certificate) (run tree input turns) id told.errs errs in
    let found = element-at sites id at.1 in
    let id_is : found.0.id ≡ id = number-at (λ site. site.id) sites (length sites) in_order id found.0 at.1 found.1 in
    let inside : Contains sites found.0 = (id, at.1, found.1) in
    let listed : Contains ids found.0.id = subst (Contains ids) (sym id_is) at.0 in
    (found.0, inside, subst (λ open_ones. Contains open_ones found.0) (sym open_are) (among-open ids sites found.0 listed inside), id_is)

-- ---- states hold

-- how often a number stands in a list
abbrev times : ℕ → List ℕ → ℕ
times n [] = 0
times n (x ∷ xs) = cond (nat_eq x n) 1 0 + times n xs

times-append : (n : ℕ) (xs ys : List ℕ) → times n (xs ++ ys) ≡ times n xs + times n ys
times-append n [] ys = omega arith
times-append n (x ∷ xs) ys = let more = times-append n xs ys in omega (arith, more)

times-joined : (n : ℕ) {A : Type 0} (part : A → List ℕ) (xs : List A) → times n (flat_map part xs) ≡ sum_by (λ x. times n (part x)) xs
times-joined n part [] = refl
times-joined n part (x ∷ xs) =
    let first = times-append n (part x) (flat_map part xs) in
    let rest = times-joined n part xs in
    let all = sum_by-cons (λ y. times n (part y)) x xs in
    ap (times n) (flat_map-cons part x xs) ∙ omega (arith, first, rest, all)

range-more : (a n : ℕ) → range_with_len a (suc n) ≡ a ∷ range_with_len (suc a) n
range-more a n = let next : a + 1 ≡ suc a = omega arith in ap (λ (b : ℕ). a ∷ range_with_len b n) next

shifted : (f : ℕ → ℕ) (a n : ℕ) → sum_by f (range_with_len (suc a) n) ≡ sum_by (λ k. f (suc k)) (range_with_len a n)
shifted f a zero = refl
shifted f a (suc n) =
    let g = λ (k : ℕ). f (suc k) in
    ap (sum_by f) (range-more (suc a) n) ∙ sum_by-cons f (suc a) (range_with_len (suc (suc a)) n) ∙ ap (λ (m : ℕ). f (suc a) + m) (shifted f (suc a) n)
    ∙ sym (sum_by-cons g a (range_with_len (suc a) n)) ∙ sym (ap (sum_by g) (range-more a n))

-- over all blocks by their numbers
pub over-blocks : (of_number : ℕ → Option Block → ℕ) (own : Block → ℕ) → ((k : ℕ) (block : Block) → of_number k (Some block) ≡ own block)
    → (blocks : List Block)
    → sum_by (λ k. of_number k (slice_get blocks k)) (range_with_len 0 (length blocks)) ≡ sum_by own blocks
over-blocks of_number own same [] = refl
over-blocks of_number own same (block ∷ blocks) =
    let here = same 0 block in
    let at = λ (k : ℕ). of_number k (slice_get (block ∷ blocks) k) in
    let one = sum_by-cons at 0 (range_with_len 1 (length blocks)) in
    let next = shifted at 0 (length blocks) in
    let rest = over-blocks (λ k. of_number (suc k)) own (λ k. same (suc k)) blocks in
    let all = sum_by-cons own block blocks in
    ap (sum_by at) (range-more 0 (length blocks)) ∙ one ∙ ap (λ (m : ℕ). at 0 + m) (next ∙ rest) ∙ ap (λ (m : ℕ). m + sum_by own blocks) here ∙ sym all

-- each entry stands as often in the order of the text
times-in_text : (tree : Tree) → IsWellFormed tree → (n : ℕ) → times n (entries_of tree) ≡ times n (entries_in_text tree)
times-in_text tree well n =
    let blocks = tree.blocks.items in
    let part = λ (number : ℕ). of_block (λ number. entries_of_block) number (slice_get blocks number) in
    let of_number = λ (number : ℕ) (found : Option Block). times n (of_block (λ number. entries_of_block) number found) in
    times-joined n entries_of_block blocks
    ∙ sym (over-blocks of_number (λ block. times n (entries_of_block block)) (λ k block. refl) blocks)
    ∙ sym (sum_by-IsPermutation (λ k. times n (part k)) (range_with_len 0 (length blocks)) tree.bodies.items well.bodies)
    ∙ sym (times-joined n part tree.bodies.items)

-- a number stands once among those from one on
neither : (n a m : ℕ) (same : Bool) → nat_eq a n ≡ same → n < a → times n (range_with_len (suc a) m) ≡ 0
    → cond same 1 0 + times n (range_with_len (suc a) m) ≡ 0
neither n a m true is later none = absurd (let same = eqb-true a n is in omega (arith, same, later))
neither n a m false is later none = omega (arith, none)

none-later : (n a m : ℕ) → n < a → times n (range_with_len a m) ≡ 0
none-later n a zero later = refl
none-later n a (suc m) later =
    ap (times n) (range-more a m) ∙ neither n a m (nat_eq a n) refl later (none-later n (suc a) m (omega (arith, later)))

one-or : (n a m : ℕ) (same : Bool) → nat_eq a n ≡ same → times n (range_with_len (suc a) m) ≤ 1
    → (cond same 1 0 + times n (range_with_len (suc a) m)) ≤ 1
one-or n a m true is few =
    let same = eqb-true a n is in
    let none = none-later n (suc a) m (omega (arith, same)) in
    omega (arith, none)
one-or n a m false is few = omega (arith, few)

once-from : (n a m : ℕ) → times n (range_with_len a m) ≤ 1
once-from n a zero = omega arith
once-from n a (suc m) =
    subst (λ (list : List ℕ). times n list ≤ 1) (sym (range-more a m)) (one-or n a m (nat_eq a n) refl (once-from n (suc a) m))

times-listed : (linked : List Linked) (one : Linked) → Contains linked one → 1 ≤ times one.number (numbers_of linked)
times-listed [] one inside = absurd (omega (arith, inside.1))
times-listed (first ∷ linked) one inside =
    ⊎_elim
    (λ (same : first ≡ one).
    let here : nat_eq first.number one.number ≡ true = eq-eqb first.number one.number (ap (λ (l : Linked). l.number) same) in
    subst (λ (b : Bool). 1 ≤ (cond b 1 0 + times one.number (numbers_of linked))) (sym here) (omega arith))
    (λ later. let more = times-listed linked one later in omega (arith, more))
    (head-or_tail first one linked inside)

-- states that are linked to different numbers: a number tells the state
linked-once : (linked : List Linked) → ((n : ℕ) → times n (numbers_of linked) ≤ 1) → (a b : Linked) → Contains linked a → Contains linked b
    → a.number ≡ b.number → a ≡ b
linked-once [] once a b in_a in_b same = absurd (omega (arith, in_a.1))
linked-once (first ∷ linked) once a b in_a in_b same =
    ⊎_elim
    (λ (here : first ≡ a).
    ⊎_elim (λ (there : first ≡ b). sym here ∙ there)
    (λ later. absurd (twice b later (ap (λ (l : Linked). l.number) here ∙ same)))
    (head-or_tail first b linked in_b))
    (λ more.
    ⊎_elim (λ (there : first ≡ b). absurd (twice a more (ap (λ (l : Linked). l.number) there ∙ sym same)))
    (λ later. linked-once linked (λ n. let all = once n in omega (arith, all)) a b more later same)
    (head-or_tail first b linked in_b))
    (head-or_tail first a linked in_a)
  where
    twice : (other : Linked) → Contains linked other → first.number ≡ other.number → ⊥
    twice other inside is =
        let one = times-listed linked other inside in
        let here : nat_eq first.number other.number ≡ true = eq-eqb first.number other.number is in
        let all : (cond true 1 0 + times other.number (numbers_of linked)) ≤ 1 =
        subst (λ (b : Bool). (cond b 1 0 + times other.number (numbers_of linked)) ≤ 1) here (once other.number) in
        omega (arith, one, all)

-- a visit meets one state that is linked to it, and so each
holds-at : (world : World) → ((a b : Linked) → Contains world.linked a → Contains world.linked b → a.number ≡ b.number → a ≡ b) → (visit : Visit)
    → Meets world visit
    → HoldsAt (parts_in world) world.linked visit
holds-at world once visit meets = record {
  is_linked = (meets.0, meets.1, meets.2);
  holds = λ one listed numbered.
      subst (λ (l : Linked). StateHolds (parts_in world) l.state (moment_of visit)) (once meets.0 one meets.1 listed (meets.2 ∙ sym numbered)) meets.3;
}

-- at each entry of a run the states that are linked to it hold
pub states-hold : (tree : Tree) (certificate : Certificate) → (program_walk tree certificate).broken ≡ []
    → is_known tree certificate ≡ true → numbers_of (program_walk tree certificate).linked ≡ entries_of tree
    → IsWellFormed tree → AreNumbered tree → StatesHold tree certificate
states-hold tree certificate unbroken known numbers_are well numbered input turns visit inside =
    let world = program_world tree certificate in
    let once = linked-once world.linked
    (λ n.
    let same : times n (numbers_of world.linked) ≡ times n (range_with_len 0 (length (entries_in_text tree))) =
    ap (times n) numbers_are ∙ times-in_text tree well n ∙ ap (times n) numbered in
    let few = once-from n 0 (length (entries_in_text tree)) in
    omega (arith, same, few)) in
    ⊎_elim (λ none. absurd (omega (arith, none.1))) (λ new. (holds-at world once visit new.0, new.1))
    ((program-foretold tree certificate unbroken known well input turns).new visit inside)
