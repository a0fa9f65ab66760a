-- A variable becomes undefined: no other changes, and values lie in their types as before.
use Rattle.std.proofs.Common.{◌≡◌, ◌≢◌, ◌∙◌, sym, ap, refl, subst, ℕ, Bool, true, false, cond, ◌||◌, nat_eq, List, [], Option, Some, None}
use Rattle.std.proofs.Common.{append-nil, inl, inr, ◌⊎◌, ◌++◌}
use Rattle.std.proofs.lemmas.Bool.{both_ways, cases_eq, false_from_ne_true}
use Rattle.std.proofs.lemmas.List.Folds.{list_any-append}
use Rattle.std.proofs.lemmas.Option.{none-some}
use Rattle.types.specs.declared.form.Step.{Step}
use Rattle.typed_tree.specs.declared.tree.Tree.{Tree}
use Rattle.meaning.specs.declared.value.Value.{Value}
use Rattle.meaning.specs.Store.{Environment, Place, Store, place_eq, stored, undefined}
use Rattle.checker_state.specs.Holds.{part_of, value_at, moment}
use Rattle.checker_state.specs.Knows.{IsKept, OneChanges}
use Rattle.checker_state.specs.Loops.{is_among}
use Rattle.checker_state.proofs.Apart.{entire-stored, entry-kept, part, parts-same, place-itself}
use Rattle.checker_loops.proofs.Touched.{all_control}
use Rattle.checker_loops.specs.Loops.{Round, touched}
use Rattle.checker_expressions.proofs.Keeping.{Keeps}
use Rattle.checker_loops.proofs.AliasedStores.{IsApart, all-pass}
use Rattle.checker_calls.specs.Environments.{Begun, Typed}

-- ---- a variable becomes undefined

unless-gone : (same : Bool) (v : Value) (before : Option Value) → cond same None before ≡ Some v → before ≡ Some v
unless-gone true v before is = absurd (none-some v is)
unless-gone false v before is = is

-- what there is was there
gone-came : (store : Store) (home place : Place) (v : Value) → stored (undefined store home) place ≡ Some v → stored store place ≡ Some v
gone-came store home place v is = unless-gone (place_eq home place) v (stored store place) is

pub gone-typed : (tree : Tree) (store : Store) (home : Place) → Typed tree store → Typed tree (undefined store home)
gone-typed tree store home typed place v is = typed place v (gone-came store home place v is)

pub gone-begun : (activations : ℕ) (store : Store) (home : Place) → Begun activations store → Begun activations (undefined store home)
gone-begun activations store home begun place v is = begun place v (gone-came store home place v is)

module _ (env : Environment) (store : Store) (root : ℕ) (home : Place) (at : env.variables root ≡ Some home) (apart : IsApart env root home []) where
  abbrev gone : Store
  gone = undefined store home

  gone-others : (other : ℕ) → root ≢ other → (steps : List Step) → value_at (moment env gone) other steps ≡ value_at (moment env store) other steps
  gone-others other differ steps = by (env.variables other) refl
    where
      by : (found : Option Place) → env.variables other ≡ found → part_of gone found steps ≡ part_of store found steps
      by None there = refl
      by (Some q) there = entry-kept store None home q steps (apart other q differ refl there)

  -- its components stay as they are
  gone-above : (steps : List Step) → (steps ≡ [] → ⊥) → value_at (moment env gone) root steps ≡ value_at (moment env store) root steps
  gone-above steps inner =
      ap (λ (found : Option Place). part_of gone found steps) at
      ∙ ap (λ (same : Bool). cond same None (stored store (part home steps)))
      (false_from_ne_true (place_eq home (part home steps)) (λ same. inner (sym (parts-same home [] steps
      (ap (λ (own : List Step). place_eq (record home { steps = own }) (part home steps)) (append-nil home.steps) ∙ same)))))
      ∙ sym (ap (λ (found : Option Place). part_of store found steps) at)

  pub gone-none : (v : Value) → value_at (moment env gone) root [] ≡ Some v → ⊥
  gone-none v is =
      none-some v
      (sym (ap (λ (found : Option Place). part_of gone found []) at ∙ entire-stored gone home
      ∙ ap (λ (same : Bool). cond same None (stored store home)) (place-itself home)) ∙ is)

  apart-among : (other : ℕ) (roots : List ℕ) → is_among root roots ≡ true → is_among other roots ≡ false → root ≢ other
  apart-among other roots is isnt same =
      both_ways (is_among other roots) isnt (subst (λ (r : ℕ). is_among r roots ≡ true) same is)

  gone-kept : (touched controls : List ℕ) → is_among root touched ≡ true → is_among root controls ≡ true → IsKept env touched controls store gone
  gone-kept touched controls is_touched is_control = record {
    values = λ other among steps. gone-others other (apart-among other touched is_touched among) steps;
    defined = λ other among steps has. (has.0, gone-others other (apart-among other controls is_control among) steps ∙ has.1);
  }

  -- in each loop is a for statement that it controls
  pub gone-keeps : (rounds : List Round) → all_control root rounds ≡ true → Keeps env rounds store gone
  gone-keeps rounds controls round inside =
      let own = all-pass (λ (one : Round). is_among root one.controls) rounds round inside controls in
      gone-kept (touched round) round.controls
      (list_any-append (λ other. nat_eq other root) round.controls (round.changes ++ round.aliases)
      ∙ ap (λ (b : Bool). b || is_among root (round.changes ++ round.aliases)) own) own

  pub gone-changes : OneChanges env root [] store gone
  gone-changes = record {
    others = λ other steps inner free. by other steps inner (cases_eq root other);
    defined = λ other steps inner has. (has.0, by other steps inner (cases_eq root other) ∙ has.1);
  }
    where
      by : (other : ℕ) (steps : List Step) → (other ≡ root → steps ≡ [] → ⊥) → (root ≡ other) ⊎ (root ≢ other)
          → value_at (moment env gone) other steps ≡ value_at (moment env store) other steps
      by other steps inner (inl same) =
          subst (λ (r : ℕ). value_at (moment env gone) r steps ≡ value_at (moment env store) r steps) same
          (gone-above steps (λ none. inner (sym same) none))
      by other steps inner (inr differ) = gone-others other differ steps
