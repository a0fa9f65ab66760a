-- What is visible, what is kept and which records are open rest on no finished turns: each of these relations reads the variables and the types alone, so
-- it holds whatever turns are finished there.
use Rattle.std.proofs.Common.{ℕ, List, [], ◌∷◌, Option}
use Rattle.typed_tree.specs.Records.{OpenRecord}
use Rattle.typed_tree.specs.declared.tree.Tree.{Tree}
use Rattle.meaning.specs.Store.{Environment, Place, Store}
use Rattle.checker_loops.specs.Loops.{Round}
use Rattle.checker_calls.specs.Environments.{Proper}
use Rattle.checker_expressions.proofs.Keeping.{Keeps}
use Rattle.checker_expressions.proofs.Opened.{AreOpen}
use Rattle.checker_expressions.proofs.Sound.{World}

-- the same environment after other finished turns
abbrev pub after_turns : Environment → List ℕ → Environment
after_turns env turns = record env { turns = turns }

module _ (env : Environment) (turns others : List ℕ) where
  abbrev one : Environment
  one = after_turns env turns

  abbrev other : Environment
  other = after_turns env others

  abbrev pub proper-turned : (tree : Tree) (pairs : List (ℕ × ℕ)) (block activations : ℕ) → Proper tree pairs block activations one
      → Proper tree pairs block activations other
  proper-turned tree pairs block activations proper = record {
    types_are = proper.types_are;
    visible = proper.visible;
    only = proper.only;
    typed = proper.typed;
    begun = proper.begun;
    separate = proper.separate;
  }

  pub keeps-turned : (rounds : List Round) (before after : Store) → Keeps one rounds before after → Keeps other rounds before after
  keeps-turned rounds before after kept round inside =
      let own = kept round inside in
      record { values = own.values; defined = own.defined }

  pub open-turned : (world : World) (block : ℕ) (records : List OpenRecord) (places : List (Option Place)) → AreOpen world block one records places
      → AreOpen world block other records places
  open-turned world block [] [] are = tt
  open-turned world block [] (place ∷ places) are = absurd are
  open-turned world block (first ∷ records) [] are = absurd are
  open-turned world block (first ∷ records) (place ∷ places) are = (
    record {
      all = are.0.all;
      steps_are = are.0.steps_are;
      tests = are.0.tests;
      type_id = are.0.type_id;
      typed = are.0.typed;
      way = are.0.way;
      place_is = are.0.place_is;
      matches = are.0.matches;
    },
    open-turned world block records places are.1,
  )
