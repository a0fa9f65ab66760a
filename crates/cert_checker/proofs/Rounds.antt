-- What the turns of a loop change, the loop touches, and the aliases of that: at its head, and inside it as far as they are visible.
use Rattle.std.proofs.Common.{◌≡◌, ⊎_elim, ◌∙◌, ap, subst, ℕ, true, false, ◌||◌, nat_eq, List, [], ◌∷◌, ◌++◌, Some}
use Rattle.std.proofs.Common.{None}
use Rattle.std.specs.Prelude.{slice_get}
use Rattle.std.proofs.lemmas.Bool.{both_ways, false_from_ne_true, or_cases, or_left, or_right}
use Rattle.std.proofs.lemmas.List.Elements.{Contains-push_cases}
use Rattle.typed_tree.specs.declared.tree.Loop.{Loop}
use Rattle.typed_tree.specs.declared.tree.Tree.{Tree}
use Rattle.meaning.specs.Store.{Environment, Store}
use Rattle.checker_state.specs.Knows.{IsKept}
use Rattle.checker_state.specs.Loops.{is_among}
use Rattle.checker_loops.specs.Loops.{Round, aliases_there, round_of}
use Rattle.checker_loops.specs.Pairs.{Listed, aliases_in, aliases_of, all_aliases_in, blocks_seen, declared_aliases, declares}
use Rattle.checker_loops.proofs.Touched.{touched_parts}
use Rattle.checker_loops.proofs.Lists.{among-contains, contains-among, filtered, of-flat}
use Rattle.checker_calls.proofs.SeenAliases.{all-alias-seen}
use Rattle.checker_expressions.specs.Walk.{Context}
use Rattle.checker_expressions.proofs.Sound.{SoundGoes, IsClosed, World, is_seen, listed_in}

-- an alias that is visible in a block is listed
alias-listed : (world : World) (block root alias : ℕ) → is_among alias (aliases_in (listed_in world) block root) ≡ true
    → is_among alias (aliases_of world.pairs root) ≡ true
alias-listed world block root alias is =
    let listed = listed_in world in
    let blocks = blocks_seen world.tree block in
    let found = of-flat (declared_aliases listed root) blocks alias (among-contains (aliases_in listed block root) alias is) in
    contains-among (aliases_of world.pairs root) alias (filtered (declares world.tree found.0) (aliases_of world.pairs root) alias found.2).0

-- what is kept but for a variable and its aliases there, is kept but for all that are listed
pub kept-wider : (world : World) (block : ℕ) (env : Environment) (root : ℕ) (before after : Store)
    → IsKept env (root ∷ aliases_in (listed_in world) block root) [] before after → IsKept env (root ∷ aliases_of world.pairs root) [] before after
kept-wider world block env root before after kept = record {
  values = λ other apart steps. kept.values other (narrow other apart) steps;
  defined = λ other none steps has. kept.defined other none steps has;
}
  where
    narrow : (other : ℕ) → is_among other (root ∷ aliases_of world.pairs root) ≡ false
        → is_among other (root ∷ aliases_in (listed_in world) block root) ≡ false
    narrow other apart =
        false_from_ne_true (is_among other (root ∷ aliases_in (listed_in world) block root))
        (λ is.
        both_ways (is_among other (root ∷ aliases_of world.pairs root)) apart
        (⊎_elim (λ same. or_left (nat_eq root other) (is_among other (aliases_of world.pairs root)) same)
        (λ alias. or_right (nat_eq root other) (is_among other (aliases_of world.pairs root)) (alias-listed world block root other alias))
        (or_cases (nat_eq root other) (is_among other (aliases_in (listed_in world) block root)) is)))

-- ---- a loop

-- a loop of a number has a row in the table, with this block
abbrev pub StandsIn : World → (block number : ℕ) → Type 0
StandsIn world block number = (row : Loop) × (slice_get world.tree.loops.items number ≡ Some row) × (row.block ≡ block)

module _ (world : World) (block : ℕ) (context : Context) (number : ℕ) (tree_is : context.tree ≡ world.tree) (pairs_are : context.pairs ≡ listed_in world)
    (stands : StandsIn world block number) where
  abbrev loop : Round
  loop = round_of context.tree context.pairs context.claims number

  abbrev roots : List ℕ
  roots = loop.controls ++ loop.changes

  -- its aliases are those in its block
  aliases-are : loop.aliases ≡ all_aliases_in (listed_in world) block roots
  aliases-are =
      ap (λ (listed : Listed). aliases_there listed roots (slice_get context.tree.loops.items number)) pairs_are
      ∙ ap (λ (tree : Tree). aliases_there (listed_in world) roots (slice_get tree.loops.items number)) tree_is
      ∙ ap (aliases_there (listed_in world) roots) stands.1 ∙ ap (λ (b : ℕ). all_aliases_in (listed_in world) b roots) stands.2

  among-aliases : (root alias : ℕ) → is_among root roots ≡ true → is_among alias (aliases_of world.pairs root) ≡ true → is_seen world block alias ≡ true
      → is_among alias loop.aliases ≡ true
  among-aliases root alias among is shown =
      ap (is_among alias) aliases-are ∙ all-alias-seen world.tree world.pairs block roots root alias among is shown

  -- round its body
  pub loop-closed : IsClosed world block loop
  loop-closed root alias shown other among is =
      touched_parts None loop alias
      ∙ or_right (is_among alias loop.controls) (is_among alias loop.changes || is_among alias loop.aliases)
      (or_right (is_among alias loop.changes) (is_among alias loop.aliases) (among-aliases root alias among is other))

-- with a loop more round a piece
pub goes-inside : (world : World) (context : Context) (round : Round) → IsClosed world context.block round → SoundGoes world context
    → SoundGoes world (record context { rounds = context.rounds ++ round ∷ [] })
goes-inside world context round closed goes = record {
  tree_is = goes.tree_is;
  pairs_are = goes.pairs_are;
  blocks_are = goes.blocks_are;
  closed = λ other inside. ⊎_elim (λ old. goes.closed other old) (λ same. subst (λ (r : Round). IsClosed world context.block r) same closed)
      (Contains-push_cases context.rounds round other inside);
}
