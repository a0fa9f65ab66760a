-- The growths that are claimed of a for statement hold before its first turn and behind each, and so where a turn begins.
use Rattle.std.proofs.Common.{arith, ◌≡◌, ◌∙◌, sym, ap, refl, subst, ℕ, zero, suc, ◌+◌, ◌<◌, ℤ, pos, ◌≤ℤ◌, Bool, true, false, ◌&&◌, ◌||◌, List, [], ◌∷◌, ◌++◌}
use Rattle.std.proofs.Common.{Some, length, cond}
use Rattle.std.specs.List.{Contains, list_all, slice_get}
use Rattle.std.proofs.lemmas.Bool.{and_parts}
use Rattle.typed_tree.specs.declared.tree.Tree.{Tree}
use Rattle.domain.specs.Facts.{Fact, Range, Defined, Order, Grows}
use Rattle.domain.specs.Growths.{HasPair, is_within, next}
use Rattle.domain.specs.declared.growth.Growth.{Growth}
use Rattle.meaning.specs.declared.value.Value.{Value}
use Rattle.meaning.specs.Store.{Environment, Store, inside_for}
use Rattle.checker_rows.specs.Rows.{Parts, is_ordinal_variable}
use Rattle.checker_state.specs.declared.growing.Growing.{Growing}
use Rattle.checker_state.specs.Growths.{has_grown, with_growing}
use Rattle.checker_state.specs.Holds.{HasNumber, moment, value_at}
use Rattle.checker_state.specs.Knows.{AreRows, IsBegun, IsInteger, Knows}
use Rattle.checker_state.specs.Loops.{is_among}
use Rattle.checker_state.specs.State.{State, Table, is_dead}
use Rattle.checker_state.proofs.Grown.{growths-hold}
use Rattle.checker_loops.specs.Growths.{Turns, all_can_begin, all_have_turned, can_begin, growing_in, growth_begun, growths_begun, has_turned}

-- a variable has no value but integers behind so many turns
abbrev pub IsGrown : Environment → Store → ℕ → ℕ → Growth → Type 0
IsGrown env store finished root growth = (n : ℤ) → HasNumber (moment env store) root n → HasPair growth (finished, n)

-- so has each ordinal variable that turns touch and that is claimed to grow
abbrev pub AreGrown : Tree → Environment → Store → ℕ → Turns → List Fact → Type 0
AreGrown tree env store finished turns facts =
    (root : ℕ) (growth : Growth) → Contains facts (Grows root growth) → is_ordinal_variable tree root ≡ true → is_among root turns.touched ≡ true
    → IsGrown env store finished root growth

-- ordinal variables are variables of a program, and their values are integers alone
abbrev pub AreIntegers : Tree → (variables : ℕ) → Environment → Store → Type 0
AreIntegers tree variables env store =
    (root : ℕ) → is_ordinal_variable tree root ≡ true
    → (root < variables) × ((v : Value) → value_at (moment env store) root [] ≡ Some v → IsInteger v)

-- a test of all holds of each
each-so : {A : Type 0} (test : A → Bool) (list : List A) (x : A) → list_all test list ≡ true → Contains list x → test x ≡ true
each-so test [] x all (k, within, is) = absurd (omega (arith, within))
each-so test (first ∷ list) x all (zero, within, is) =
    subst (λ one. test one ≡ true) is (and_parts (test first) (list_all test list) all).0
each-so test (first ∷ list) x all (suc k, within, is) =
    each-so test list x (and_parts (test first) (list_all test list) all).1 (k, omega (arith, within), is)

turns-own : (turns : List ℕ) (more : ℕ) → slice_get (turns ++ more ∷ []) (length turns) ≡ Some more
turns-own [] more = refl
turns-own (first ∷ turns) more = turns-own turns more

module _ (tree : Tree) (rows : List Parts) (table : Table) (are : AreRows rows table) (env : Environment) (turns : Turns) where
  -- before the first turn
  pub begins-grown : (facts : List Fact) (state : State) (store : Store) → AreIntegers tree table.variables env store
      → Knows rows table.variables env state store → all_can_begin state facts ≡ true → AreGrown tree env store 0 turns facts
  begins-grown facts state store integers known given root growth inside ordinal among n has =
      growths-hold.begins rows table are env state store root growth n (integers root ordinal).0 has known
      (each-so (can_begin state) facts (Grows root growth) given inside)

  module _ (finished : ℕ) (deep : turns.depth ≡ length env.turns) where
    abbrev inner : Environment
    inner = inside_for env finished

    -- behind a turn
    pub turned-grown : (facts : List Fact) (state : State) (store : Store) → Knows rows table.variables inner state store
        → all_have_turned turns state facts ≡ true → AreGrown tree env store (finished + 1) turns facts
    turned-grown facts state store known given root growth inside ordinal among n has =
        let one = each-so (has_turned turns state) facts (Grows root growth) given inside in
        growths-hold.grown rows table.variables env state store root finished growth n has known
        (subst (λ (depth : ℕ). has_grown state root depth growth ≡ true) deep
        (subst (λ (b : Bool). cond b (has_grown state root turns.depth growth) (is_dead state || is_within growth (next growth)) ≡ true) among one))

    -- where a turn begins, one after another
    pub begun-grown : pos finished ≤ℤ turns.most → (facts : List Fact) (state : State) (store : Store) → AreIntegers tree table.variables env store
        → AreGrown tree env store finished turns facts → Knows rows table.variables inner state store
        → Knows rows table.variables inner (growths_begun tree turns facts state) store
    begun-grown below [] state store integers grown known = known
    begun-grown below (fact ∷ facts) state store integers grown known =
        begun-grown below facts (growth_begun tree turns fact state) store integers
        (λ root growth (k, within, is). grown root growth (suc k, omega (arith, within), is)) (one fact refl)
      where
        one : (first : Fact) → fact ≡ first → Knows rows table.variables inner (growth_begun tree turns first state) store
        one (Range path range) is = known
        one (Defined path spans) is = known
        one (Order root other number) is = known
        one (Grows root growth) is = by (is_ordinal_variable tree root) (is_among root turns.touched) refl refl
          where
            growing : Growing
            growing = growing_in turns growth

            by : (ordinal touched : Bool) → is_ordinal_variable tree root ≡ ordinal → is_among root turns.touched ≡ touched
                → Knows rows table.variables inner (cond (ordinal && touched) (with_growing root growing state) state) store
            by true true ordinal among =
                let own = integers root ordinal in
                growths-hold.begun rows table are inner state store root growing (
                  own.0,
                  (
                    finished,
                    ap (λ (depth : ℕ). slice_get (env.turns ++ finished ∷ []) depth) deep ∙ turns-own env.turns finished,
                    below,
                    grown root growth (0, omega arith, is) ordinal among,
                  ),
                  own.1,
                ) known
            by true false ordinal among = known
            by false touched ordinal among = known
