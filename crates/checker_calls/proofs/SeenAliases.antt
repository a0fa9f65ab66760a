-- The aliases of a variable that are visible in a block: a variable that is listed in a pair with it, and is visible there, is one of them.
use Rattle.std.proofs.Common.{◌≡◌, ◌∙◌, ◌⊎◌, inl, inr, sym, ap, refl, ℕ, Bool, true, false, cond, nat_eq, List, [], ◌∷◌, filter, Option, Some, None}
use Rattle.std.specs.Prelude.{slice_get}
use Rattle.std.proofs.lemmas.Bool.{both_ways, eq-eqb, eqb-true, false_from_ne_true, false≢true, or_cases, or_left, or_right}
use Rattle.std.proofs.lemmas.List.Folds.{list_any-append}
use Rattle.typed_tree.specs.WellFormed.{encloses, is_one_of, is_round, is_visible, of_one, outline_of}
use Rattle.typed_tree.specs.declared.tree.Block.{Block}
use Rattle.typed_tree.specs.declared.tree.Tree.{Tree}
use Rattle.typed_tree.specs.declared.tree.Variable.{Variable}
use Rattle.meaning.specs.Store.{Environment, Place}
use Rattle.checker_state.specs.Loops.{is_among}
use Rattle.checker_loops.specs.Pairs.{Listed, aliases_in, aliases_of, all_aliases_in, blocks_round, blocks_seen, declared_aliases, declares}
use Rattle.checker_loops.proofs.AliasedStores.{IsApart, aliases-apart}
use Rattle.checker_loops.proofs.Lists.{among-contains, among-flat}
use Rattle.checker_calls.specs.Environments.{Proper}
use Rattle.checker_calls.proofs.AliasedTypes.{seen}
use Rattle.checker_calls.proofs.Headings.{round-cases}

abbrev pub listed_pairs : Tree → List (ℕ × ℕ) → Listed
listed_pairs tree pairs = record { tree = tree; pairs = pairs }

among-filter : (test : ℕ → Bool) (items : List ℕ) (item : ℕ) → is_among item items ≡ true → test item ≡ true → is_among item (filter test items) ≡ true
among-filter test [] item among passes = absurd (false≢true among)
among-filter test (first ∷ items) item among passes =
    by (test first) refl (or_cases (nat_eq first item) (is_among item items) among) (λ there. among-filter test items item there passes)
  where
    by : (own : Bool) → test first ≡ own → (nat_eq first item ≡ true) ⊎ (is_among item items ≡ true)
        → (is_among item items ≡ true → is_among item (filter test items) ≡ true)
        → is_among item (cond own (first ∷ filter test items) (filter test items)) ≡ true
    by true is (inl here) rest = or_left (nat_eq first item) (is_among item (filter test items)) here
    by true is (inr there) rest = or_right (nat_eq first item) (is_among item (filter test items)) (rest there)
    by false is (inl here) rest = absurd (false≢true (sym is ∙ ap test (eqb-true first item here) ∙ passes))
    by false is (inr there) rest = rest there

-- a block that encloses another is one of those that it sees
in-blocks : (block own : ℕ) (found : Option Block) → of_one (λ (b : Block). encloses own block b.heading) found ≡ true
    → is_among own (blocks_round block found) ≡ true
in-blocks block own None round = absurd (false≢true round)
in-blocks block own (Some found) round =
    let around = found.heading.around.items in
    list_any-append (λ (other : ℕ). nat_eq other own) around (block ∷ [])
    ∙ elim (or_cases (nat_eq own block) (is_one_of around own) round) [
      | inl here ↦
          or_right (is_among own around) (is_among own (block ∷ []))
          (or_left (nat_eq block own) false (eq-eqb block own (sym (eqb-true own block here))))
      | inr outer ↦ or_left (is_among own around) (is_among own (block ∷ [])) outer
    ]

module _ (tree : Tree) (pairs : List (ℕ × ℕ)) (block : ℕ) where
  abbrev listed : Listed
  listed = listed_pairs tree pairs

  pub alias-seen : (root alias : ℕ) → is_among alias (aliases_of pairs root) ≡ true → is_visible (outline_of tree) block alias ≡ true
      → is_among alias (aliases_in listed block root) ≡ true
  alias-seen root alias among shown = by (slice_get tree.variables.items alias) refl shown
    where
      by : (found : Option Variable) → slice_get tree.variables.items alias ≡ found
          → of_one (λ (v : Variable). is_round (outline_of tree) block v.block) found ≡ true → is_among alias (aliases_in listed block root) ≡ true
      by None is round = absurd (false≢true round)
      by (Some variable) is round =
          let own = variable.block in
          let around = round-cases tree block own (slice_get tree.blocks.items block) round refl in
          among-flat (declared_aliases listed root) (blocks_seen tree block) own alias
          (among-contains (blocks_seen tree block) own (in-blocks block own (slice_get tree.blocks.items block) around))
          (among-filter (declares tree own) (aliases_of pairs root) alias among
          (ap (of_one (λ (v : Variable). nat_eq v.block own)) is ∙ eq-eqb own own refl))

  -- and one of those of several variables
  pub all-alias-seen : (roots : List ℕ) (root alias : ℕ) → is_among root roots ≡ true → is_among alias (aliases_of pairs root) ≡ true
      → is_visible (outline_of tree) block alias ≡ true → is_among alias (all_aliases_in listed block roots) ≡ true
  all-alias-seen roots root alias inside among shown =
      among-flat (aliases_in listed block) roots root alias (among-contains roots root inside) (alias-seen root alias among shown)

  -- what may share a place with a variable is one of its aliases
  pub apart-seen : (activations : ℕ) (env : Environment) → Proper tree pairs block activations env → (root : ℕ) (home : Place)
      → env.variables root ≡ Some home → IsApart env root home (aliases_in listed block root)
  apart-seen activations env proper root home at other q differ free at_other shared =
      aliases-apart env pairs proper.separate root home at other q differ
      (false_from_ne_true (is_among other (aliases_of pairs root))
      (λ alias.
      both_ways (is_among other (aliases_in listed block root)) free
      (alias-seen root other alias (seen tree pairs block activations env proper other q at_other))))
      at_other shared
