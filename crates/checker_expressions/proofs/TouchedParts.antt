-- What the calls in an expression touch, part by part, and from one of several on.
use Rattle.std.proofs.Common.{arith, rules, ◌≡◌, ◌∙◌, ap, ap₂, sym, refl, ℕ, ◌+◌, ◌<◌, ◌≤◌, Bool, true, false, ◌||◌}
use Rattle.std.proofs.Common.{cond, nat_eq, List, [], ◌∷◌, ◌++◌, drop, get_or}
use Rattle.std.proofs.Common.{inl, inr, length, map, Option, Some, None}
use Rattle.std.specs.Prelude.{flat_map}
use Rattle.std.specs.List.{list_any}
use Rattle.std.specs.declared.alloc.Global.{Global}
use Rattle.std.specs.declared.boxed.Box.{Box}
use Rattle.std.specs.declared.vec.Vec.{Vec}
use Rattle.std.proofs.lemmas.List.{drop_all, drop_more}
use Rattle.std.proofs.lemmas.List.Folds.{list_any-append}
use Rattle.std.proofs.lemmas.Option.{slice_get_cases}
use Rattle.typed_tree.specs.declared.tree.Call.{Call}
use Rattle.typed_tree.specs.declared.tree.Expr.{Expr}
use Rattle.typed_tree.specs.declared.tree.Expr.TheVariants as expr
use Rattle.typed_tree.specs.declared.tree.Expr.TheFolds.{the_lemmas}
use Rattle.typed_tree.specs.declared.tree.Link.{Link}
use Rattle.typed_tree.specs.declared.tree.Passed.{Passed}
use Rattle.typed_tree.specs.declared.tree.Relation.{Relation}
use Rattle.typed_tree.specs.declared.tree.Whole.{Whole}
use Rattle.checker_calls.specs.Actuals.{Actual, Binding, actual_of, bound_to}
use Rattle.checker_expressions.specs.Walk.{Calling, Joint, PassedPiece, calls_in, index_pieces, joint_of, passed_piece_of, piece_of}
use Rattle.checker_expressions.proofs.InTurn.{item-cut}

-- the calls in operands, in actual parameters, and what the text tells of these
abbrev pub link_calls : List Link → List Calling
link_calls links = flat_map (λ (joint : Joint). joint.right.calls) (map joint_of links)

abbrev pub actual_calls : List Passed → List Calling
actual_calls actuals = flat_map (λ (piece : PassedPiece). piece.calls) (map passed_piece_of actuals)

abbrev pub all_told : List Passed → List Actual
all_told actuals = map (λ (piece : PassedPiece). piece.told) (map passed_piece_of actuals)

-- ---- forms

pub calls-Chain : (first : Box Expr Global) (rest : Vec Link Global)
    → (piece_of (expr.Chain first rest)).calls ≡ (piece_of first.value).calls ++ link_calls rest.items
calls-Chain first rest = search (rules, the_lemmas)

pub calls-Compare : (number : ℕ) (relation : Relation) (left : Whole) (left_indexes : Vec Expr Global) (right : Whole) (right_indexes : Vec Expr Global)
    → (piece_of (expr.Compare number relation left left_indexes right right_indexes)).calls
    ≡ calls_in (index_pieces left_indexes.items) ++ calls_in (index_pieces right_indexes.items)
calls-Compare number relation left left_indexes right right_indexes = search (rules, the_lemmas)

pub calls-Call : (call : Call) (actuals : Vec Passed Global)
    → (piece_of (expr.Call call actuals)).calls ≡ record { call = call; actuals = all_told actuals.items } ∷ actual_calls actuals.items
calls-Call call actuals = search (rules, the_lemmas)

-- ---- lists from a place on

module _ {X Y : Type 0} (test : Calling → Bool) (part : X → Y) (calls : Y → List Calling) (items : List X) (i : ℕ) (x : X) (inside : i < length items)
    (is : x ≡ get_or items i x) where
  abbrev from : ℕ → Bool
  from j = list_any test (flat_map calls (map part (drop j items)))

  touched-next : from i ≡ (list_any test (calls (part x)) || from (i + 1))
  touched-next =
      ap (λ (list : List X). list_any test (flat_map calls (map part list))) (item-cut items i x inside is)
      ∙ list_any-append test (calls (part x)) (flat_map calls (map part (drop (i + 1) items)))

  pub touched-found : list_any test (calls (part x)) ≡ true → true ≡ from i
  touched-found found = sym (touched-next ∙ ap (λ b. b || from (i + 1)) found)

  pub touched-on : list_any test (calls (part x)) ≡ false → from (i + 1) ≡ from i
  touched-on not_found = sym (touched-next ∙ ap (λ b. b || from (i + 1)) not_found)

-- some of the lists of some have it where some of all that they list has
pub any-listed : {A B : Type 0} (test : B → Bool) (list : A → List B) (xs : List A)
    → list_any (λ x. list_any test (list x)) xs ≡ list_any test (flat_map list xs)
any-listed test list [] = refl
any-listed test list (x ∷ xs) =
    ap (λ b. list_any test (list x) || b) (any-listed test list xs) ∙ sym (list_any-append test (list x) (flat_map list xs))

-- ---- actual parameters

abbrev told_from : List ℕ → List Passed → ℕ → List Binding
told_from roots actuals i = bound_to (drop i roots) (all_told (drop i actuals))

none-bound : (roots : List ℕ) → bound_to roots [] ≡ []
none-bound [] = refl
none-bound (root ∷ roots) = refl

told-past : (roots : List ℕ) (actuals : List Passed) (i : ℕ) → length actuals ≤ i → told_from roots actuals i ≡ []
told-past roots actuals i past = ap (λ some. bound_to (drop i roots) (all_told some)) (drop_all i actuals past) ∙ none-bound (drop i roots)

told-next : (roots : List ℕ) (actuals : List Passed) (i : ℕ) (actual : Passed) → i < length roots → i < length actuals → actual ≡ get_or actuals i actual
    → told_from roots actuals i ≡ record { root = get_or roots i 0; actual = (passed_piece_of actual).told } ∷ told_from roots actuals (i + 1)
told-next roots actuals i actual inside within is =
    ap₂ (λ some others. bound_to some (all_told others)) (drop_more roots i 0 inside) (item-cut actuals i actual within is)

unless-first : (same : Bool) (first rest : Option Actual) → same ≡ false → cond same first rest ≡ rest
unless-first false first rest is = refl
unless-first true first rest is = absurd (cc)

-- a formal parameter that isn't the next one is one of those behind it
pub told-other : (roots : List ℕ) (actuals : List Passed) (i root : ℕ) → i < length roots → nat_eq (get_or roots i 0) root ≡ false
    → actual_of (told_from roots actuals (i + 1)) root ≡ actual_of (told_from roots actuals i) root
told-other roots actuals i root inside other =
    elim (slice_get_cases actuals i).1 [
      | inl found ↦
          sym (ap (λ some. actual_of some root) (told-next roots actuals i found.0 inside found.1 (sym found.3))
          ∙ unless-first (nat_eq (get_or roots i 0) root) _ (actual_of (told_from roots actuals (i + 1)) root) other)
      | inr past ↦
          ap (λ some. actual_of some root)
          (told-past roots actuals (i + 1) (omega (arith, past.0)) ∙ sym (told-past roots actuals i past.0))
    ]
