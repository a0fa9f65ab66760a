-- A search by halves: those before a place pass a test, those from another on don't.
use Rattle.std.proofs.Common.{arith, ◌≡◌, ◌∙◌, ap, subst, ⊎_elim, sym, true≢false, ℕ, ◌+◌, ◌<◌, ◌≤◌, Bool, true, false, List, get_or, length}
use Rattle.std.proofs.lemmas.Bool.{cases_Bool, cases_lt}
use Rattle.std.proofs.Math.ListN.{get_or-map}
use Rattle.std.proofs.lemmas.List.{get_or_default}
use Rattle.checker_state.specs.declared.held.Held.{Held as KeptHeld}
use Rattle.checker_state.specs.View.{said_held}
use Rattle.checker_state.specs.State.{Held}
use Rattle.checker_known.specs.Halves.{Falls, IsEdge}
use Rattle.checker_known.proofs.HeldLists.{said-inside, said_all}

-- between two places, so far
pub record Halved (test : Held → Bool) (held : List Held) (first end from to : ℕ) : Type 0 where
  pub begins : first ≤ from
  pub narrow : from ≤ to
  pub ends : to ≤ end
  pub before : Falls test held first end → (i : ℕ) (none : Held) → first ≤ i → i < from → test (get_or held i none) ≡ true
  pub behind : Falls test held first end → (i : ℕ) (none : Held) → to ≤ i → i < end → test (get_or held i none) ≡ false

module _ (test : Held → Bool) (held : List Held) (first end : ℕ) where
  pub halved-begin : first ≤ end → Halved test held first end first end
  halved-begin narrow = record {
    begins = omega arith;
    narrow = narrow;
    ends = omega arith;
    before = λ falls i none past below. absurd (omega (arith, past, below));
    behind = λ falls i none past below. absurd (omega (arith, past, below));
  }

  module _ (from to middle : ℕ) (so_far : Halved test held first end from to) (past : from ≤ middle) (up_to : middle < to) where
    pub halved-from : ((none : Held) → test (get_or held middle none) ≡ true) → Halved test held first end (middle + 1) to
    halved-from passes =
        let begins = so_far.begins in
        let ends = so_far.ends in
        record {
          begins = omega (arith, begins, past);
          narrow = omega (arith, up_to);
          ends = ends;
          before = λ falls i none behind below.
              ⊎_elim (λ (less : i < middle). falls.falls i middle none behind less (omega (arith, up_to, ends)) (passes none))
              (λ (more : middle ≤ i).
              ap (λ (n : ℕ). test (get_or held n none)) (let same : i ≡ middle = omega (arith, more, below) in same) ∙ passes none)
              (cases_lt i middle);
          behind = so_far.behind;
        }

    pub halved-to : ((none : Held) → test (get_or held middle none) ≡ false) → Halved test held first end from middle
    halved-to fails =
        let begins = so_far.begins in
        let ends = so_far.ends in
        record {
          begins = begins;
          narrow = past;
          ends = omega (arith, up_to, ends);
          before = so_far.before;
          behind = λ falls i none more below.
              ⊎_elim (λ (above : middle < i).
              ⊎_elim (λ (passes : test (get_or held i none) ≡ true).
              absurd (true≢false (sym (falls.falls middle i none (omega (arith, begins, past)) above below passes) ∙ fails none)))
              (λ (is : test (get_or held i none) ≡ false). is)
              (cases_Bool (test (get_or held i none))))
              (λ (not_above : i ≤ middle).
              ap (λ (n : ℕ). test (get_or held n none)) (let same : i ≡ middle = omega (arith, more, not_above) in same) ∙ fails none)
              (cases_lt middle i);
        }

  pub halved-edge : (from to : ℕ) → Halved test held first end from to → to ≤ from → Falls test held first end → IsEdge test held first end from
  halved-edge from to so_far done falls =
      let narrow = so_far.narrow in
      let ends = so_far.ends in
      record {
        begins = so_far.begins;
        ends = omega (arith, narrow, ends, done);
        before = so_far.before falls;
        behind = λ i none past below. so_far.behind falls i none (omega (arith, past, narrow, done)) below;
      }

-- what a test says of one that is kept at a place
pub said-test : (test : Held → Bool) (held : List KeptHeld) (place : ℕ) (none : Held) (one : KeptHeld) → place < length held
    → test (get_or (said_all held) place none) ≡ test (said_held (get_or held place one))
said-test test held place none one inside =
    ap test (get_or_default (said_all held) place none (said_held one) (said-inside held place inside) ∙ get_or-map said_held held place one)

-- the same of the list that is lent
pub edge-there : (test : Held → Bool) (held there : List KeptHeld) (first end place : ℕ) → there ≡ held
    → (Falls test (said_all there) first end → IsEdge test (said_all there) first end place) → Falls test (said_all held) first end
    → IsEdge test (said_all held) first end place
edge-there test held there first end place same found =
    subst (λ (some : List KeptHeld). Falls test (said_all some) first end → IsEdge test (said_all some) first end place) same found
