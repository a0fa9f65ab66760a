-- What the operators of a condition tell, from what those of its parts tell.
use Rattle.std.proofs.Common.{arith, ◌≡◌, ◌∙◌, sym, ap, ap₂, refl, ℕ, zero, suc, ◌+◌, ◌<◌, Bool, true, false, ◌&&◌, cond, Option, Some, None}
use Rattle.std.proofs.Common.{List, [], ◌∷◌, ◌++◌, map, length, get_or, drop, drop-cons, take, min, ◌-◌, length-drop}
use Rattle.std.proofs.lemmas.List.{drop_min, take_all}
use Rattle.std.proofs.Common.{◌==◌}
use Rattle.std.specs.List.{list_all, range_with_len}
use Rattle.std.specs.declared.boxed.Box.{Box}
use Rattle.std.specs.declared.vec.Vec.{Vec}
use Rattle.std.specs.declared.alloc.Global.{Global}
use Rattle.typed_tree.specs.declared.tree.Expr.{Expr}
use Rattle.typed_tree.specs.declared.tree.Link.{Link}
use Rattle.typed_tree.specs.declared.tree.Expr.TheVariants as expr
use Rattle.typed_tree.specs.declared.tree.Tree.{Tree}
use Rattle.checker_rows.specs.Rows.{is_ordinal_variable}
use Rattle.checker_trail.specs.declared.state.State.{State as Kept}
use Rattle.checker_state.specs.State.{State}
use Rattle.checker_state.specs.Conditions.{Condition, Conjunct, Subject, Telling, all_tellings, chain_tellings, condition_of, conjunct_of, joins, subject_of}
use Rattle.checker_state.specs.Conditions.{taken}
use Rattle.checker_state.specs.Conditions.{takes_both}
use Rattle.checker_state.specs.Conditions.{turn_tellings}
use Rattle.checker_state.proofs.FormsOf.{condition-Chain, conjunct-is}
use Rattle.checker_trail.specs.Trail.{Moves, seen}
use Rattle.checker_trail.proofs.ConditionsOf.{all-take, ordinals_of}
use Rattle.checker_trail.proofs.Ways.{moves-as, moves-told}
use Rattle.checker_expressions.specs.declared.noting.Noted.{Noted}
use Rattle.checker_sides.specs.Sides.{all_met, expression_side, only_row, operation_met, side_of}

-- ---- lists

met-none : (tree : Tree) (tellings : List Telling) (state : State) → all_met tree tellings [] state ≡ state
met-none tree [] state = refl
met-none tree (telling ∷ tellings) state = refl

drop-none : (n : ℕ) → drop {A = Noted} n [] ≡ []
drop-none zero = refl
drop-none (suc n) = refl

pub met-both : (tree : Tree) (one two : List Telling) (notes : List Noted) (state : State)
    → all_met tree two (drop (length one) notes) (all_met tree one notes state) ≡ all_met tree (one ++ two) notes state
met-both tree [] two notes state = refl
met-both tree (telling ∷ one) two [] state =
    ap (λ (notes : List Noted). all_met tree two notes state) (drop-none (length (telling ∷ one))) ∙ met-none tree two state
met-both tree (telling ∷ one) two (note ∷ notes) state = met-both tree one two notes _

pub left-both : (one two : List Telling) (notes : List Noted) → drop (length two) (drop (length one) notes) ≡ drop (length (one ++ two)) notes
left-both [] two notes = refl
left-both (telling ∷ one) two [] =
    ap (drop (length two)) (drop-none (length (telling ∷ one))) ∙ drop-none (length two) ∙ sym (drop-none (length ((telling ∷ one) ++ two)))
left-both (telling ∷ one) two (note ∷ notes) = left-both one two notes

-- the notes behind so many
pub rest-left : (notes : List Noted) (n m : ℕ) → m ≡ min n (length notes) → take (length notes - m) (drop m notes) ≡ drop n notes
rest-left notes n m is =
    take_all (length notes - m) (drop m notes) (omega (arith, length-drop m notes)) ∙ ap (λ (k : ℕ). drop k notes) is ∙ drop_min n notes

-- ---- chains

pub joined-by : (ordinal : ℕ → Bool) (links : List Link)
    → list_all (λ conjunct. joins conjunct.operation) (map (conjunct_of ordinal) links) ≡ list_all (λ link. joins link.operation) links
joined-by ordinal [] = refl
joined-by ordinal (link ∷ links) =
    ap₂ (λ (first rest : Bool). first && rest) (ap (λ (conjunct : Conjunct). joins conjunct.operation) (conjunct-is ordinal link)) (joined-by ordinal links)

pub taken-is : (ordinal : ℕ → Bool) (links : List Link) (truth all : Bool) → list_all (λ link. takes_both truth link.operation) links ≡ all
    → cond all (Some truth) None ≡ taken (map (conjunct_of ordinal) links) (Some truth)
taken-is ordinal links truth all is = ap (λ (b : Bool). cond b (Some truth) None) (sym is ∙ all-take ordinal truth links)

module _ (ordinal : ℕ → Bool) (e : Expr) (first : Box Expr Global) (rest : Vec Link Global) (truth : Option Bool) (is : e ≡ expr.Chain first rest) where
  abbrev own : Condition
  own = condition_of ordinal first.value

  abbrev others : List Conjunct
  others = map (conjunct_of ordinal) rest.items

  abbrev by : Bool → List Telling
  by inside = cond inside (own.tellings (taken others truth) ++ all_tellings others (taken others truth)) (turn_tellings (subject_of own) others truth)

  chain-is : (condition_of ordinal e).tellings truth ≡ chain_tellings own others truth
  chain-is =
      ap (λ (f : Expr). (condition_of ordinal f).tellings truth) is ∙ ap (λ (c : Condition). c.tellings truth) (condition-Chain ordinal first rest)

  pub tellings-inside : list_all (λ link. joins link.operation) rest.items ≡ true
      → own.tellings (taken others truth) ++ all_tellings others (taken others truth) ≡ (condition_of ordinal e).tellings truth
  tellings-inside all = sym (chain-is ∙ ap by (joined-by ordinal rest.items ∙ all))

  pub tellings-apart : list_all (λ link. joins link.operation) rest.items ≡ false
      → turn_tellings (subject_of own) others truth ≡ (condition_of ordinal e).tellings truth
  tellings-apart none = sym (chain-is ∙ ap by (joined-by ordinal rest.items ∙ none))

-- the operators that are left behind one
pub tellings-more : (ordinal : ℕ → Bool) (links : List Link) (i : ℕ) (link : Link) (truth : Option Bool) → i < length links → link ≡ get_or links i link
    → (condition_of ordinal link.operand).tellings truth ++ all_tellings (map (conjunct_of ordinal) (drop (i + 1) links)) truth
    ≡ all_tellings (map (conjunct_of ordinal) (drop i links)) truth
tellings-more ordinal links i link truth inside link_is =
    ap (λ (k : ℕ). (condition_of ordinal link.operand).tellings truth ++ all_tellings (map (conjunct_of ordinal) (drop k links)) truth)
    (let same : i + 1 ≡ suc i = omega arith in same)
    ∙ ap (λ (conjunct : Conjunct). conjunct.right.tellings truth ++ all_tellings (map (conjunct_of ordinal) (drop (suc i) links)) truth)
    (sym (conjunct-is ordinal link))
    ∙ ap (λ (l : Link). all_tellings (map (conjunct_of ordinal) (l ∷ drop (suc i) links)) truth) link_is
    ∙ ap (λ (some : List Link). all_tellings (map (conjunct_of ordinal) some) truth) (sym (drop-cons links i link inside))

pub turns-many : (ordinal : ℕ → Bool) (left : Subject) (links : List Link) (truth : Option Bool)
    → length (turn_tellings left (map (conjunct_of ordinal) links) truth) ≡ length links
turns-many ordinal left [] truth = refl
turns-many ordinal left (link ∷ []) truth = refl
turns-many ordinal left (link ∷ next ∷ links) truth = ap suc (turns-many ordinal left (next ∷ links) None)

-- nothing is told where the truth value isn't known, nor by several operators
pub turns-none : (tree : Tree) (ordinal : ℕ → Bool) (left : Subject) (links : List Link) (notes : List Noted) (state : State)
    → state ≡ all_met tree (turn_tellings left (map (conjunct_of ordinal) links) None) notes state
turns-none tree ordinal left [] notes state = refl
turns-none tree ordinal left (link ∷ []) [] state = refl
turns-none tree ordinal left (link ∷ []) (note ∷ notes) state = refl
turns-none tree ordinal left (link ∷ next ∷ links) [] state = refl
turns-none tree ordinal left (link ∷ next ∷ links) (note ∷ notes) state = turns-none tree ordinal left (next ∷ links) notes state

pub turns-untold : (tree : Tree) (ordinal : ℕ → Bool) (left : Subject) (links : List Link) (truth : Option Bool) (notes : List Noted) (state : State)
    → ((b : Bool) → truth ≡ Some b → ⊥) → state ≡ all_met tree (turn_tellings left (map (conjunct_of ordinal) links) truth) notes state
turns-untold tree ordinal left links None notes state none = turns-none tree ordinal left links notes state
turns-untold tree ordinal left links (Some b) notes state none = absurd (none b refl)

pub turns-not_one : (tree : Tree) (ordinal : ℕ → Bool) (left : Subject) (links : List Link) (truth : Option Bool) (notes : List Noted) (state : State)
    → (length links ≡ 1 → ⊥) → state ≡ all_met tree (turn_tellings left (map (conjunct_of ordinal) links) truth) notes state
turns-not_one tree ordinal left [] truth notes state several = refl
turns-not_one tree ordinal left (link ∷ []) truth notes state several = absurd (several refl)
turns-not_one tree ordinal left (link ∷ next ∷ links) truth [] state several = refl
turns-not_one tree ordinal left (link ∷ next ∷ links) truth (note ∷ notes) state several = turns-none tree ordinal left (next ∷ links) notes state

pub met-empty : (tree : Tree) (tellings : List Telling) (notes : List Noted) (state : State) → length notes ≡ 0 → state ≡ all_met tree tellings notes state
met-empty tree tellings [] state none = sym (met-none tree tellings state)
met-empty tree tellings (note ∷ notes) state none = absurd (omega (arith, none))

-- a single operator
pub turns-one : (tree : Tree) (first : Expr) (links : List Link) (truth : Bool) (notes : List Noted) (state : State) (link : Link) (note : Noted)
    → length links ≡ 1 → get_or links 0 link ≡ link → 0 < length notes → get_or notes 0 note ≡ note
    → operation_met (Some truth) link.operation (expression_side tree first) (expression_side tree link.operand) (note.left, note.right) state
    ≡ all_met tree (turn_tellings (subject_of (condition_of (is_ordinal_variable tree) first)) (map (conjunct_of (is_ordinal_variable tree)) links)
    (Some truth))
    notes state
turns-one tree first [] truth notes state link note one link_is some note_is = absurd (omega (arith, one))
turns-one tree first (own ∷ next ∷ links) truth notes state link note one link_is some note_is = absurd (omega (arith, one))
turns-one tree first (own ∷ []) truth [] state link note one link_is some note_is = absurd (omega (arith, some))
turns-one tree first (own ∷ []) truth (noted ∷ notes) state link note one link_is some note_is =
    let left = expression_side tree first in
    ap₂ (λ (l : Link) (n : Noted). operation_met (Some truth) l.operation left (expression_side tree l.operand) (n.left, n.right) state) (sym link_is)
    (sym note_is)
    ∙ ap (λ (c : Conjunct). operation_met (Some truth) c.operation left (side_of tree (subject_of c.right)) (noted.left, noted.right) state)
    (sym (conjunct-is (is_ordinal_variable tree) own))

-- ---- rows

pub only-other : (first count : ℕ) → (count ≡ 1 → ⊥) → None ≡ only_row (range_with_len first count)
only-other first zero none = refl
only-other first (suc zero) none = absurd (none refl)
only-other first (suc (suc count)) none = refl

pub some-there : (n : ℕ) → (n == 0) ≡ false → 0 < n
some-there zero is = absurd (cc)
some-there (suc n) is = omega arith

-- ---- the operators of a chain, one after another

-- what comes behind a first part, by what the operators there tell
pub met-then : {a b c : Kept} (one : List Telling) (notes left : List Noted) (two : (ordinal : ℕ → Bool) → List Telling)
    → left ≡ drop (length one) notes → Moves (all_met a.table.now one notes) a b → Moves (all_met b.table.now (two (ordinals_of b)) left) b c
    → Moves (all_met a.table.now (one ++ two (ordinals_of a)) notes) a c
met-then {a = a} one notes left two left_is first rest =
    let tree = a.table.now in
    moves-as (all_met tree (one ++ two (ordinals_of a)) notes)
    (moves-told (λ (tree : Tree) (state : State). all_met tree (two (is_ordinal_variable tree)) left state) first rest)
    (ap (λ (some : List Noted). all_met tree (two (ordinals_of a)) some (all_met tree one notes (seen a))) left_is
    ∙ met-both tree one (two (ordinals_of a)) notes (seen a))
