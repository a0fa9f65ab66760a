-- Conditions that are chains of operators: what they tell, operator by operator.
use Rattle.std.proofs.Common.{arith, ◌≡◌, ◌∙◌, sym, ap, ap₂, refl, ℕ, suc, ◌+◌, ◌<◌, Bool, true, false, ◌&&◌, cond}
use Rattle.std.proofs.Common.{List, [], ◌∷◌, map, length, get_or, drop, drop-cons}
use Rattle.std.specs.List.{list_all}
use Rattle.std.specs.declared.boxed.Box.{Box}
use Rattle.std.specs.declared.vec.Vec.{Vec}
use Rattle.std.specs.declared.alloc.Global.{Global}
use Rattle.typed_tree.specs.declared.tree.Expr.{Expr}
use Rattle.typed_tree.specs.declared.tree.Link.{Link}
use Rattle.typed_tree.specs.declared.tree.Expr.TheVariants as expr
use Rattle.typed_tree.specs.declared.tree.Tree.{Tree}
use Rattle.checker_rows.specs.Rows.{is_ordinal_variable}
use Rattle.checker_trail.specs.declared.state.State.{State as Kept}
use Rattle.checker_state.specs.State.{Dead, Facts, Live, State}
use Rattle.checker_state.specs.declared.forms.Form.{Form}
use Rattle.checker_state.specs.Forms.{bound_of}
use Rattle.checker_known.specs.Knowledge.{core, viewed}
use Rattle.checker_state.specs.Conditions.{Condition, Conjunct, all_refined, bound_form}
use Rattle.checker_state.specs.Conditions.{chain_refined, condition_of, conjunct_of, operation_refined, single_refined}
use Rattle.checker_state.specs.Conditions.{takes_both}
use Rattle.checker_trail.specs.Trail.{Moves, seen}
use Rattle.checker_state.proofs.FormsOf.{condition-Chain, conjunct-is}
use Rattle.checker_trail.proofs.Ways.{moves-as, moves-told}

-- ---- the operators of a chain

pub all-take : (ordinal : ℕ → Bool) (truth : Bool) (links : List Link)
    → list_all (λ link. takes_both truth link.operation) links
    ≡ list_all (λ conjunct. takes_both truth conjunct.operation) (map (conjunct_of ordinal) links)
all-take ordinal truth [] = refl
all-take ordinal truth (link ∷ links) =
    ap₂ (λ (first rest : Bool). first && rest) (sym (ap (λ (conjunct : Conjunct). takes_both truth conjunct.operation) (conjunct-is ordinal link)))
    (all-take ordinal truth links)

-- ---- a chain had a truth value

module _ (ordinal : ℕ → Bool) (e : Expr) (first : Box Expr Global) (rest : Vec Link Global) (truth : Bool) (state : State)
    (is : e ≡ expr.Chain first rest) where
  abbrev left : Condition
  left = condition_of ordinal first.value

  abbrev others : List Conjunct
  others = map (conjunct_of ordinal) rest.items

  abbrev by : Bool → State
  by both = cond both (all_refined truth others (left.refined truth state)) (single_refined truth left.form others state)

  chain-is : (condition_of ordinal e).refined truth state ≡ chain_refined left others truth state
  chain-is =
      ap (λ (f : Expr). (condition_of ordinal f).refined truth state) is
      ∙ ap (λ (c : Condition). c.refined truth state) (condition-Chain ordinal first rest)

  pub chain-single : list_all (λ link. takes_both truth link.operation) rest.items ≡ false
      → single_refined truth left.form others state ≡ (condition_of ordinal e).refined truth state
  chain-single none = sym (chain-is ∙ ap by (sym (all-take ordinal truth rest.items) ∙ none))

  pub chain-both : list_all (λ link. takes_both truth link.operation) rest.items ≡ true
      → all_refined truth others (left.refined truth state) ≡ (condition_of ordinal e).refined truth state
  chain-both all = sym (chain-is ∙ ap by (sym (all-take ordinal truth rest.items) ∙ all))

-- ---- a single operator

pub single-none : (ordinal : ℕ → Bool) (links : List Link) (truth : Bool) (form : Form) (state : State) → (length links ≡ 1 → ⊥)
    → state ≡ single_refined truth form (map (conjunct_of ordinal) links) state
single-none ordinal [] truth form state several = refl
single-none ordinal (link ∷ []) truth form state several = absurd (several refl)
single-none ordinal (link ∷ next ∷ links) truth form state several = refl

-- no run comes here, or these facts are known
pub single-dead : (conjuncts : List Conjunct) (truth : Bool) (form : Form) → Dead ≡ single_refined truth form conjuncts Dead
single-dead [] truth form = refl
single-dead (conjunct ∷ []) truth form = refl
single-dead (conjunct ∷ next ∷ conjuncts) truth form = refl

pub seen-dead : (state : Kept) → state.known.is_dead ≡ true → seen state ≡ Dead
seen-dead state is = ap (λ (dead : Bool). cond dead Dead (Live (viewed (core state.known)))) is

pub seen-live : (state : Kept) → state.known.is_dead ≡ false → seen state ≡ Live (viewed (core state.known))
seen-live state is = ap (λ (dead : Bool). cond dead Dead (Live (viewed (core state.known)))) is

pub single-one : (ordinal : ℕ → Bool) (links : List Link) (truth : Bool) (form : Form) (facts : Facts) (link : Link) → length links ≡ 1
    → get_or links 0 link ≡ link
    → operation_refined link.operation truth (bound_of facts.rules form) (bound_form ordinal facts.rules link.operand) (Live facts)
    ≡ single_refined truth form (map (conjunct_of ordinal) links) (Live facts)
single-one ordinal [] truth form facts link one link_is = absurd (omega (arith, one))
single-one ordinal (own ∷ next ∷ links) truth form facts link one link_is = absurd (omega (arith, one))
single-one ordinal (own ∷ []) truth form facts link one link_is =
    let rules = facts.rules in
    ap (λ (l : Link). operation_refined l.operation truth (bound_of rules form) (bound_form ordinal rules l.operand) (Live facts)) (sym link_is)
    ∙ ap (λ (c : Conjunct). operation_refined c.operation truth (bound_of rules form) (bound_of rules c.right.form) (Live facts))
    (sym (conjunct-is ordinal own))

-- ---- the operators that are left

-- the variables of its program that are ordinals
abbrev pub ordinals_of : Kept → ℕ → Bool
ordinals_of state = is_ordinal_variable state.table.now

-- what a chain tells is told by its first operand and its operators
pub chain-moves : {a b c : Kept} (e : Expr) (first : Box Expr Global) (rest : Vec Link Global) (truth : Bool) → e ≡ expr.Chain first rest
    → list_all (λ link. takes_both truth link.operation) rest.items ≡ true
    → Moves ((condition_of (ordinals_of a) first.value).refined truth) a b
    → Moves (all_refined truth (map (conjunct_of (ordinals_of b)) rest.items)) b c
    → Moves ((condition_of (ordinals_of a) e).refined truth) a c
chain-moves {a = a} e first rest truth is all one more =
    moves-as ((condition_of (ordinals_of a) e).refined truth)
    (moves-told (λ (tree : Tree) (state : State). all_refined truth (map (conjunct_of (is_ordinal_variable tree)) rest.items) state) one more)
    (chain-both (ordinals_of a) e first rest truth (seen a) is all)

-- an operator more
pub refined-more : {a b c : Kept} (truth : Bool) (links : List Link) (i : ℕ) (link : Link) → i < length links → link ≡ get_or links i link
    → Moves ((condition_of (ordinals_of a) link.operand).refined truth) a b
    → Moves (all_refined truth (map (conjunct_of (ordinals_of b)) (drop (i + 1) links))) b c
    → Moves (all_refined truth (map (conjunct_of (ordinals_of a)) (drop i links))) a c
refined-more {a = a} truth links i link inside link_is one more =
    let ordinal = ordinals_of a in
    moves-as (all_refined truth (map (conjunct_of ordinal) (drop i links)))
    (moves-told (λ (tree : Tree) (state : State). all_refined truth (map (conjunct_of (is_ordinal_variable tree)) (drop (i + 1) links)) state) one more)
    (ap (λ (k : ℕ). all_refined truth (map (conjunct_of ordinal) (drop k links)) ((condition_of ordinal link.operand).refined truth (seen a)))
    (let same : i + 1 ≡ suc i = omega arith in same)
    ∙ ap (λ (conjunct : Conjunct). all_refined truth (map (conjunct_of ordinal) (drop (suc i) links)) (conjunct.right.refined truth (seen a)))
    (sym (conjunct-is ordinal link))
    ∙ ap (λ (l : Link). all_refined truth (map (conjunct_of ordinal) (l ∷ drop (suc i) links)) (seen a)) link_is
    ∙ ap (λ (some : List Link). all_refined truth (map (conjunct_of ordinal) some) (seen a)) (sym (drop-cons links i link inside)))
