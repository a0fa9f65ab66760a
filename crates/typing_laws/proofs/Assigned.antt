-- What is assigned on a way is a target that is told, and so is the result of each function whose block ends on it.
use Rattle.std.proofs.Common.{◌≡◌, ℕ, ◌||◌, Bool, true, false, nat_eq, if◌then◌else◌, List, [], ◌∷◌, ◌++◌, refl, sym, ap, subst, ◌∙◌, append-nil, inl, inr, ◌⊎◌}
use Rattle.std.specs.List.{flat_map, list_all, list_any}
use Rattle.std.proofs.lemmas.Bool.{eqb-true}
use Rattle.std.proofs.lemmas.Grind.{flat_map-append}
use Rattle.std.proofs.lemmas.List.Folds.{list_all-append}
use Rattle.typed_tree.specs.Look.{Look, Mark, BlockEnds, ForEnds, mark_blocks}
use Rattle.typing.specs.Passing.{Passed}
use Rattle.typing.specs.Steps.{with_one}
use Rattle.typing.proofs.Ways.{Owner, Step, Token, Entry, Loop, Marked, Ended, Way, Stay, One, Then, Controlled, Assigned}
use Rattle.typing_laws.specs.Results.{are_assigned, is_target, mark_results, mark_targets}
use Rattle.typing_laws.proofs.Grown.{both_true}
use Rattle.typing_laws.proofs.Sound.{or_right}
use Rattle.typing_laws.proofs.Strings.{both_and}
use Rattle.typing_laws.proofs.Went.{kept_with}

-- ---- targets

-- a target is one among more
any_first : (xs ys : List ℕ) (root : ℕ) → list_any (nat_eq root) xs ≡ true → list_any (nat_eq root) (xs ++ ys) ≡ true
any_first [] ys root is = absurd cc
any_first (x ∷ xs) ys root is = by (nat_eq root x) (any_first xs ys root) is
  where
    by : (test : Bool) → (list_any (nat_eq root) xs ≡ true → list_any (nat_eq root) (xs ++ ys) ≡ true) → (test || list_any (nat_eq root) xs) ≡ true
        → (test || list_any (nat_eq root) (xs ++ ys)) ≡ true
    by true more h = refl
    by false more h = more h

any_second : (xs ys : List ℕ) (root : ℕ) → list_any (nat_eq root) ys ≡ true → list_any (nat_eq root) (xs ++ ys) ≡ true
any_second [] ys root is = is
any_second (x ∷ xs) ys root is = or_right (nat_eq root x) (list_any (nat_eq root) (xs ++ ys)) (any_second xs ys root is)

target_first : (look more : Look) (root : ℕ) → is_target look root ≡ true → is_target (look ++ more) root ≡ true
target_first look more root is =
    subst (λ l. list_any (nat_eq root) l ≡ true) (sym (flat_map-append mark_targets look more))
    (any_first (flat_map mark_targets look) (flat_map mark_targets more) root is)

target_second : (look more : Look) (root : ℕ) → is_target more root ≡ true → is_target (look ++ more) root ≡ true
target_second look more root is =
    subst (λ l. list_any (nat_eq root) l ≡ true) (sym (flat_map-append mark_targets look more))
    (any_second (flat_map mark_targets look) (flat_map mark_targets more) root is)

-- what is assigned, was assigned before, or is a target
abbrev Comes : Look → List ℕ → List ℕ → Type 0
Comes look old new = (root : ℕ) → list_any (nat_eq root) new ≡ true → (list_any (nat_eq root) old ≡ true) ⊎ (is_target look root ≡ true)

-- with one more
with_one_is : (roots : List ℕ) (root other : ℕ) → list_any (nat_eq other) (with_one roots root) ≡ true
    → (list_any (nat_eq other) roots ≡ true) ⊎ (other ≡ root)
with_one_is roots root other = by (list_any (nat_eq root) roots)
  where
    at_end : (all : List ℕ) → list_any (nat_eq other) (all ++ root ∷ []) ≡ true → (list_any (nat_eq other) all ≡ true) ⊎ (other ≡ root)
    at_end [] h = one (nat_eq other root) refl h
      where
        one : (test : Bool) → nat_eq other root ≡ test → (test || false) ≡ true → (false ≡ true) ⊎ (other ≡ root)
        one true same g = inr (eqb-true other root same)
        one false same g = absurd cc
    at_end (first ∷ all) h = one (nat_eq other first) (at_end all) h
      where
        one : (test : Bool) → (list_any (nat_eq other) (all ++ root ∷ []) ≡ true → (list_any (nat_eq other) all ≡ true) ⊎ (other ≡ root))
            → (test || list_any (nat_eq other) (all ++ root ∷ [])) ≡ true → ((test || list_any (nat_eq other) all) ≡ true) ⊎ (other ≡ root)
        one true more g = inl refl
        one false more g = more g

    by : (test : Bool) → list_any (nat_eq other) (if test then roots else roots ++ root ∷ []) ≡ true → (list_any (nat_eq other) roots ≡ true) ⊎ (other ≡ root)
    by true h = inl h
    by false h = at_end roots h

step_comes : {acts : Bool} {owner : Owner} {from to : ℕ} {look : Look} {old new : Passed} → Step acts owner from to look old new
    → Comes look old.assigned new.assigned
step_comes (Token place) root is = inl is
step_comes other root is = inl is

way_comes : {acts : Bool} {owner : Owner} {from to : ℕ} {look : Look} {old new : Passed} → Way acts owner from to look old new
    → Comes look old.assigned new.assigned
way_comes Stay root is = inl is
way_comes (One step) root is = step_comes step root is
way_comes (Then {look = look} {more = more} first second) root is = by (way_comes first root) (way_comes second root is)
  where
    by : {old now : Bool} → (now ≡ true → (old ≡ true) ⊎ (is_target look root ≡ true)) → (now ≡ true) ⊎ (is_target more root ≡ true)
        → (old ≡ true) ⊎ (is_target (look ++ more) root ≡ true)
    by {old} before (inl there) = either (before there)
      where
        either : (old ≡ true) ⊎ (is_target look root ≡ true) → (old ≡ true) ⊎ (is_target (look ++ more) root ≡ true)
        either (inl early) = inl early
        either (inr target) = inr (target_first look more root target)
    by before (inr target) = inr (target_second look more root target)
way_comes (Controlled {look = look} one way) root is = by (way_comes way root is)
  where
    by : {old : Bool} → (old ≡ true) ⊎ (is_target look root ≡ true) → (old ≡ true) ⊎ (is_target (look ++ (ForEnds ∷ [])) root ≡ true)
    by (inl there) = inl there
    by (inr target) = inr (target_first look (ForEnds ∷ []) root target)
way_comes {look = look} {old = old} (Assigned one way told) root is = by (way_comes way root is)
  where
    own : (list_any (nat_eq root) old.assigned ≡ true) ⊎ (root ≡ one) → (list_any (nat_eq root) old.assigned ≡ true) ⊎ (is_target look root ≡ true)
    own (inl there) = inl there
    own (inr same) = inr (subst (λ n. is_target look n ≡ true) (sym same) told)

    by : (list_any (nat_eq root) (with_one old.assigned one) ≡ true) ⊎ (is_target look root ≡ true)
        → (list_any (nat_eq root) old.assigned ≡ true) ⊎ (is_target look root ≡ true)
    by (inl there) = own (with_one_is old.assigned one root there)
    by (inr target) = inr target

-- ---- results

abbrev Stays : List ℕ → List ℕ → Type 0
Stays old new = (root : ℕ) → list_any (nat_eq root) old ≡ true → list_any (nat_eq root) new ≡ true

step_leaves : {acts : Bool} {owner : Owner} {from to : ℕ} {look : Look} {old new : Passed} → Step acts owner from to look old new
    → Stays old.assigned new.assigned
step_leaves (Token place) root is = is
step_leaves other root is = is

-- what is assigned stays so
way_leaves : {acts : Bool} {owner : Owner} {from to : ℕ} {look : Look} {old new : Passed} → Way acts owner from to look old new
    → Stays old.assigned new.assigned
way_leaves Stay root is = is
way_leaves (One step) root is = step_leaves step root is
way_leaves (Then first second) root is = way_leaves second root (way_leaves first root is)
way_leaves (Controlled one way) root is = way_leaves way root is
way_leaves {old = old} (Assigned one way told) root is = way_leaves way root (kept_with old.assigned one root is)

-- all of these are
abbrev AreIn : List ℕ → List ℕ → Type 0
AreIn assigned roots = list_all (λ root. list_any (nat_eq root) assigned) roots ≡ true

all_later : (old new : List ℕ) → Stays old new → (roots : List ℕ) → AreIn old roots → AreIn new roots
all_later old new more [] all = refl
all_later old new more (root ∷ roots) all =
    let parts = both_and (list_any (nat_eq root) old) (list_all (λ r. list_any (nat_eq r) old) roots) all in
    both_true _ _ (more root parts.0) (all_later old new more roots parts.1)

no_result : (one : Mark) → mark_blocks one ≡ [] → mark_results one ≡ []
no_result (BlockEnds number around parameters result end) none = absurd cc
no_result other none = refl

plain_result : (one : Mark) (assigned : List ℕ) → mark_blocks one ≡ [] → AreIn assigned (flat_map mark_results (one ∷ []))
plain_result one assigned none = subst (λ (l : List ℕ). AreIn assigned (l ++ [])) (sym (no_result one none)) refl

step_results : {acts : Bool} {owner : Owner} {from to : ℕ} {look : Look} {old new : Passed} → Step acts owner from to look old new
    → AreIn new.assigned (flat_map mark_results look)
step_results {new = new} (Entry one few is) = plain_result one new.assigned (ap (λ n. n.2) is)
step_results {new = new} (Loop one few room is) = plain_result one new.assigned (ap (λ n. n.2) is)
step_results {new = new} (Marked one none) = plain_result one new.assigned (ap (λ n. n.2) none)
step_results {new = new} (Ended one no_entry no_loop all) = subst (AreIn new.assigned) (sym (append-nil (mark_results one))) all
step_results other = refl

way_results : {acts : Bool} {owner : Owner} {from to : ℕ} {look : Look} {old new : Passed} → Way acts owner from to look old new
    → AreIn new.assigned (flat_map mark_results look)
way_results Stay = refl
way_results (One step) = step_results step
way_results {new = new} (Then {look = look} {more = more} {now = now} first second) =
    let Holds : ℕ → Bool = λ root. list_any (nat_eq root) new.assigned in
    ap (list_all Holds) (flat_map-append mark_results look more) ∙ list_all-append Holds (flat_map mark_results look) (flat_map mark_results more)
    ∙ both_true _ _ (all_later now.assigned new.assigned (way_leaves second) (flat_map mark_results look) (way_results first)) (way_results second)
way_results {new = new} (Controlled {look = look} one way) =
    subst (AreIn new.assigned) (sym (flat_map-append mark_results look (ForEnds ∷ []) ∙ append-nil (flat_map mark_results look))) (way_results way)
way_results (Assigned one way told) = way_results way

-- where nothing was assigned before
pub results_assigned : {acts : Bool} {owner : Owner} {from to : ℕ} {look : Look} {old new : Passed} → Way acts owner from to look old new
    → old.assigned ≡ [] → are_assigned look ≡ true
results_assigned {look = look} {old = old} {new = new} way none = targets (flat_map mark_results look) (way_results way)
  where
    told : (root : ℕ) → (list_any (nat_eq root) old.assigned ≡ true) ⊎ (is_target look root ≡ true) → is_target look root ≡ true
    told root (inl there) = let no : false ≡ true = sym (ap (list_any (nat_eq root)) none) ∙ there in absurd cc
    told root (inr target) = target

    targets : (roots : List ℕ) → AreIn new.assigned roots → list_all (is_target look) roots ≡ true
    targets [] all = refl
    targets (root ∷ roots) all =
        let parts = both_and (list_any (nat_eq root) new.assigned) (list_all (λ r. list_any (nat_eq r) new.assigned) roots) all in
        both_true _ _ (told root (way_comes way root parts.0)) (targets roots parts.1)
