-- Actual parameters: how their typing goes on from those that are made, and how they look.
use Rattle.std.proofs.Common.{◌≡◌, ℕ, suc, ◌+◌, ◌<◌, ◌≤◌, List, [], ◌∷◌, ◌++◌, map, length, drop, get_or, Ok, inl, inr, refl, sym, ap, ◌∙◌, append-nil}
use Rattle.std.proofs.Common.{◌&&◌, true, ap₂, length-append, arith}
use Rattle.std.proofs.lemmas.List.{drop_more, at_drop_all, length-map, map-append}
use Rattle.std.proofs.lemmas.Grind.{flat_map-append}
use Rattle.syntax_tree.specs.declared.Actual.{Actual}
use Rattle.typed_tree.specs.declared.fault.TypeFault.{TypeFault}
use Rattle.typed_tree.specs.declared.tree.Passed.{Passed as PassedOne}
use Rattle.std.proofs.lemmas.List.Folds.{list_all-append}
use Rattle.typed_tree.specs.Entries.{joined}
use Rattle.typed_tree.specs.Kinds.{is_held_passed}
use Rattle.typed_tree.specs.Tests.{all_hold}
use Rattle.typed_tree.specs.Look.{Look, look_passed}
use Rattle.typed_tree.specs.WellFormed.{placed}
use Rattle.typing.specs.Passing.{Passed, After, after, behind_marks}
use Rattle.typing_rules.specs.Checked.{Checked, and_then}
use Rattle.typing.specs.Expressions.{actual, actuals_for, written_actual}
use Rattle.typing.specs.Outcomes.{IsFault}
use Rattle.typing.proofs.Rows.{behind_nothing, behind_both}
use Rattle.expression_resolver.specs.Made.{look_actuals}
use Rattle.expression_resolver.specs.Values.{are_held_actuals}

-- ---- how they look

-- one more stands at the place behind the others
placed_more : (callee position : ℕ) (looks : List (ℕ → ℕ → Look)) (one : ℕ → ℕ → Look)
    → placed callee position (looks ++ one ∷ []) ≡ placed callee position looks ++ one callee (position + length looks) ∷ []
placed_more callee position [] one = ap (λ n. one callee n ∷ []) (omega arith)
placed_more callee position (other ∷ looks) one =
    ap (λ rest. other callee position ∷ rest)
    (placed_more callee (suc position) looks one
    ∙ ap (λ n. placed callee (suc position) looks ++ one callee n ∷ []) (omega arith))

look_more : (callee : ℕ) (made : List PassedOne) (one : PassedOne)
    → look_actuals callee (made ++ one ∷ []) ≡ look_actuals callee made ++ look_passed one callee (length made)
look_more callee made one =
    ap (λ looks. joined (placed callee 0 looks)) (map-append look_passed made (one ∷ []))
    ∙ ap joined (placed_more callee 0 (map look_passed made) (look_passed one))
    ∙ ap (λ n. joined (placed callee 0 (map look_passed made) ++ look_passed one callee n ∷ [])) (omega (arith, length-map made look_passed))
    ∙ flat_map-append (λ (row : Look). row) (placed callee 0 (map look_passed made)) (look_passed one callee (length made) ∷ [])
    ∙ ap (λ look. look_actuals callee made ++ look) (append-nil (look_passed one callee (length made)))

-- ---- actual parameters of which the first ones are made

module _ (roots : List ℕ) (actuals : List Actual) (old : Passed) where
  -- those that are left for a callee, from a place on
  abbrev left : ℕ → ℕ → Passed → Checked (After (Unit {0}))
  left callee i now = actuals_for (drop i roots) (map written_actual (drop i actuals)) callee i now

  abbrev pub ArePassedFrom : ℕ → List PassedOne → Passed → Type 0
  ArePassedFrom i made now =
      (length made ≡ i)
      × ((callee : ℕ) → actuals_for roots (map written_actual actuals) callee 0 old ≡ behind_marks (look_actuals callee made) (left callee i now))

  -- none is made yet
  pub none_passed : ArePassedFrom 0 [] old
  none_passed = (refl, λ callee. sym (behind_nothing (left callee 0 old)))

  module _ (i : ℕ) (made : List PassedOne) (now : Passed) (so_far : ArePassedFrom i made now) (root : ℕ) (one : Actual)
      (rooted : i < length roots) (within : i < length actuals) (root_is : root ≡ get_or roots i root) (one_is : one ≡ get_or actuals i one) where
    abbrev next : ℕ → Checked (After (Unit {0})) → Checked (After (Unit {0}))
    next callee outcome =
        and_then outcome (λ a. behind_marks a.look (actuals_for (drop (i + 1) roots) (map written_actual (drop (i + 1) actuals)) callee (i + 1) a.passed))

    goes : (callee : ℕ) → left callee i now ≡ next callee (actual (written_actual one) root callee i now)
    goes callee =
        ap (λ rs. actuals_for rs (map written_actual (drop i actuals)) callee i now) (drop_more roots i root rooted)
        ∙ ap (λ ones. actuals_for (get_or roots i root ∷ drop (i + 1) roots) (map written_actual ones) callee i now) (drop_more actuals i one within)
        ∙ ap (λ r. actuals_for (r ∷ drop (i + 1) roots) (map written_actual (get_or actuals i one ∷ drop (i + 1) actuals)) callee i now) (sym root_is)
        ∙ ap (λ a. actuals_for (root ∷ drop (i + 1) roots) (map written_actual (a ∷ drop (i + 1) actuals)) callee i now) (sym one_is)

    -- the next one is made
    pub one_passed : (new : PassedOne) (there : Passed)
        → ((callee position : ℕ) → actual (written_actual one) root callee position now ≡ Ok (after tt (look_passed new callee position) there))
        → ArePassedFrom (i + 1) (made ++ new ∷ []) there
    one_passed new there passes = (
      length-append made (new ∷ []) ∙ ap (λ n. n + 1) so_far.0,
      λ callee.
          so_far.1 callee ∙ ap (behind_marks (look_actuals callee made)) (goes callee ∙ ap (next callee) (passes callee i))
          ∙ behind_both (look_actuals callee made) (look_passed new callee i) (left callee (i + 1) there)
          ∙ ap (λ n. behind_marks (look_actuals callee made ++ look_passed new callee n) (left callee (i + 1) there)) (sym so_far.0)
          ∙ ap (λ look. behind_marks look (left callee (i + 1) there)) (sym (look_more callee made new)),
    )

    fault_of : (why : TypeFault) (callee : ℕ) → IsFault (actual (written_actual one) root callee i now) why
        → IsFault (actuals_for roots (map written_actual actuals) callee 0 old) why
    fault_of why callee (inl memory) = inl memory
    fault_of why callee (inr is) = inr (
        so_far.1 callee ∙ ap (behind_marks (look_actuals callee made)) (goes callee ∙ ap (next callee) is))

    -- it is refused
    pub one_stops : (why : TypeFault) → ((callee position : ℕ) → IsFault (actual (written_actual one) root callee position now) why)
        → (callee : ℕ) → IsFault (actuals_for roots (map written_actual actuals) callee 0 old) why
    one_stops why stops callee = fault_of why callee (stops callee i)

  -- all are made
  pub all_passed : (i : ℕ) (made : List PassedOne) (now : Passed) → ArePassedFrom i made now → length actuals ≤ i → length actuals ≡ length roots
      → (callee : ℕ) → actuals_for roots (map written_actual actuals) callee 0 old ≡ Ok (after tt (look_actuals callee made) now)
  all_passed i made now so_far all as_many callee =
      so_far.1 callee
      ∙ at_drop_all (λ rs. behind_marks (look_actuals callee made) (actuals_for rs (map written_actual (drop i actuals)) callee i now)) roots i
      (omega (arith, all, as_many))
      ∙ ap (λ look. Ok (after tt look now)) (append-nil (look_actuals callee made))

-- one more is as it is taken
pub one_held : (made : List PassedOne) (one : PassedOne) (new : List PassedOne) → new ≡ made ++ one ∷ [] → are_held_actuals made ≡ true
    → is_held_passed one ≡ true → are_held_actuals new ≡ true
one_held made one new is so also =
    ap are_held_actuals is
    ∙ ap all_hold (map-append is_held_passed made (one ∷ []))
    ∙ list_all-append (λ b. b) (map is_held_passed made) (is_held_passed one ∷ [])
    ∙ ap₂ (λ a b. a && b) so (ap (λ b. b && true) also)
