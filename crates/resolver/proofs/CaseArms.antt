-- Cases: how their typing goes on from that of their arms.
use Rattle.std.proofs.Common.{◌≡◌, ℕ, ℤ, zero, suc, ◌+◌, ◌<◌, ◌≤◌, List, [], ◌∷◌, ◌++◌, length, map, drop, get_or, Some, slice_get}
use Rattle.std.proofs.Common.{Ok, Vec, inl, inr}
use Rattle.std.proofs.Common.{refl, sym, ap, ap₂, subst, ◌∙◌, append-nil, append_assoc, length-append, arith}
use Rattle.std.proofs.Math.Seq.{drop-nil}
use Rattle.std.proofs.lemmas.List.{map-append, length-map, drop_more, at_drop_all}
use Rattle.std.specs.declared.alloc.Global.{Global}
use Rattle.syntax_tree.specs.declared.Constant.{Constant}
use Rattle.syntax_tree.specs.declared.Stmt.{Stmt as SyntaxStmt}
use Rattle.syntax_tree.specs.Places.{arms_of}
use Rattle.types.specs.declared.form.TypeId.{TypeId}
use Rattle.typed_tree.specs.declared.fault.TypeFault.{TypeFault}
use Rattle.typed_tree.specs.declared.tree.Stmt.{Stmt}
use Rattle.typed_tree.specs.Look.{Look, Arm, look_stmt, arms_look}
use Rattle.typing.specs.Passing.{Passed, Passing, After, after, behind_marks, mark, ◌>>◌}
use Rattle.typing_rules.specs.Checked.{Checked, and_then}
use Rattle.typing.specs.Outcomes.{IsFault}
use Rattle.typing.specs.Statements.{statement, case_constant, constant_row, case_arms}
use Rattle.typing.proofs.Rows.{behind_nothing, behind_both}

-- ---- the constants before an arm

module _ (type_id : TypeId) (before : List ℤ) (written : List Constant) (old : Passed) where
  -- what is left, once some are met
  abbrev pub IsRowFrom : ℕ → List ℤ → Passed → Type 0
  IsRowFrom i row now = constant_row type_id before [] written old ≡ constant_row type_id before row (drop i written) now

  module _ (i : ℕ) (row : List ℤ) (now : Passed) (within : i < length written) (other : Constant) (left : IsRowFrom i row now) where
    row_goes : constant_row type_id before [] written old
        ≡ and_then (case_constant type_id (before ++ row) (get_or written i other) now)
        (λ a. behind_marks a.look (constant_row type_id before (row ++ a.answer ∷ []) (drop (i + 1) written) a.passed))
    row_goes = left ∙ ap (λ cs. constant_row type_id before row cs now) (drop_more written i other within)

    -- the next one is met
    pub row_next : (value : ℤ) (new : Passed) → case_constant type_id (before ++ row) (get_or written i other) now ≡ Ok (after value [] new)
        → IsRowFrom (i + 1) (row ++ value ∷ []) new
    row_next value new passes =
        row_goes
        ∙ ap (λ r. and_then r (λ a. behind_marks a.look (constant_row type_id before (row ++ a.answer ∷ []) (drop (i + 1) written) a.passed))) passes
        ∙ behind_nothing (constant_row type_id before (row ++ value ∷ []) (drop (i + 1) written) new)

    -- it is refused
    pub row_stops : (why : TypeFault) → IsFault (case_constant type_id (before ++ row) (get_or written i other) now) why
        → IsFault (constant_row type_id before [] written old) why
    row_stops why (inl memory) = inl memory
    row_stops why (inr stops) = inr (
        row_goes
        ∙ ap (λ r. and_then r (λ a. behind_marks a.look (constant_row type_id before (row ++ a.answer ∷ []) (drop (i + 1) written) a.passed))) stops)

  -- all are met
  pub row_ends : (i : ℕ) (row : List ℤ) (now : Passed) → length written ≤ i → IsRowFrom i row now
      → constant_row type_id before [] written old ≡ Ok (after row [] now)
  row_ends i row now all left = left ∙ at_drop_all (λ cs. constant_row type_id before row cs now) written i all

-- ---- rows and arms

drop_later : {A : Type 0} (x : A) (xs : List A) (i : ℕ) → drop (suc i + 1) (x ∷ xs) ≡ drop (i + 1) xs
drop_later x xs i = let later : suc i + 1 ≡ suc (i + 1) = omega arith in ap (λ n. drop n (x ∷ xs)) later

-- what stands at an index
pub stands_at : {A : Type 0} (xs : List A) (i : ℕ) (other x : A) → i < length xs → x ≡ get_or xs i other → slice_get xs i ≡ Some x
stands_at [] i other x within is = absurd (omega (arith, within))
stands_at (y ∷ ys) zero other x within is = ap Some (sym is)
stands_at (y ∷ ys) (suc i) other x within is = stands_at ys i other x (omega (arith, within)) is

-- the next arm with its constants
next_arm : {A : Type 0} (rows : List (Vec Constant Global)) (arms : List A) (i : ℕ) (row : Vec Constant Global) (arm : A)
    → slice_get rows i ≡ Some row → slice_get arms i ≡ Some arm → drop i (arms_of rows arms) ≡ (row.items, arm) ∷ drop (i + 1) (arms_of rows arms)
next_arm [] arms i row arm one two = absurd cc
next_arm (r ∷ rows) [] i row arm one two = absurd cc
next_arm (r ∷ rows) (a ∷ arms) zero row arm one two =
    let same : r ≡ row = cc in
    let also : a ≡ arm = cc in
    ap₂ (λ x y. (x.items, y) ∷ arms_of rows arms) same also
next_arm (r ∷ rows) (a ∷ arms) (suc i) row arm one two =
    next_arm rows arms i row arm one two ∙ ap (λ l. (row.items, arm) ∷ l) (sym (drop_later (r.items, a) (arms_of rows arms) i))

no_row : {A : Type 0} (rows : List (Vec Constant Global)) (arms : List A) (i : ℕ) → length rows ≤ i → drop i (arms_of rows arms) ≡ []
no_row [] arms i all = drop-nil i
no_row (r ∷ rows) [] i all = drop-nil i
no_row (r ∷ rows) (a ∷ arms) zero all = absurd (omega (arith, all))
no_row (r ∷ rows) (a ∷ arms) (suc i) all = no_row rows arms i (omega (arith, all))

no_arm : {A : Type 0} (rows : List (Vec Constant Global)) (arms : List A) (i : ℕ) → length arms ≤ i → drop i (arms_of rows arms) ≡ []
no_arm [] arms i all = drop-nil i
no_arm (r ∷ rows) [] i all = drop-nil i
no_arm (r ∷ rows) (a ∷ arms) zero all = absurd (omega (arith, all))
no_arm (r ∷ rows) (a ∷ arms) (suc i) all = no_arm rows arms i (omega (arith, all))

-- one more looks so
arm_more : (rows : List (Vec ℤ Global)) (looks : List Look) (row : Vec ℤ Global) (look : Look) → length rows ≡ length looks
    → arms_look (rows ++ row ∷ []) (looks ++ look ∷ []) ≡ arms_look rows looks ++ (Arm row.items ∷ (look ++ []))
arm_more [] [] row look even = refl
arm_more [] (l ∷ looks) row look even = absurd (omega (arith, even))
arm_more (r ∷ rows) [] row look even = absurd (omega (arith, even))
arm_more (r ∷ rows) (l ∷ looks) row look even =
    ap (λ x. Arm r.items ∷ (l ++ x)) (arm_more rows looks row look (omega (arith, even)))
    ∙ ap (λ x. Arm r.items ∷ x) (sym (append_assoc l (arms_look rows looks) (Arm row.items ∷ (look ++ []))))

-- ---- the arms of a case

-- an arm, and then others
module _ (type_id : TypeId) (seen : List ℤ) (constants : List Constant) (arm : Passing (Unit {0}))
    (more : List (List Constant × Passing (Unit {0}))) (now : Passed) where
  abbrev this_arm : Checked (After (Unit {0}))
  this_arm = case_arms type_id seen ((constants, arm) ∷ more) now

  abbrev behind_row : List ℤ → Passing (Unit {0})
  behind_row row = do
    mark (Arm row)
    arm
    case_arms type_id (seen ++ row) more

  module _ (row : List ℤ) (there : Passed) (passes : constant_row type_id seen [] constants now ≡ Ok (after row [] there)) where
    row_passes : this_arm ≡ behind_marks [] (behind_row row there)
    row_passes = ap (λ r. and_then r (λ a. behind_marks a.look (behind_row a.answer a.passed))) passes

    arm_passes : (look : Look) (new : Passed) → arm there ≡ Ok (after tt look new)
        → this_arm ≡ behind_marks (Arm row ∷ look) (case_arms type_id (seen ++ row) more new)
    arm_passes look new made =
        row_passes ∙ behind_nothing (behind_row row there)
        ∙ ap (λ r. behind_marks (Arm row ∷ []) (and_then r (λ a. behind_marks a.look (case_arms type_id (seen ++ row) more a.passed)))) made
        ∙ behind_both (Arm row ∷ []) look (case_arms type_id (seen ++ row) more new)

arm_at : (written : List SyntaxStmt) (i : ℕ) (arm : SyntaxStmt) → i < length written → arm ≡ get_or written i arm
    → slice_get (map statement written) i ≡ Some (statement arm)
arm_at [] i arm within is = absurd (omega (arith, within))
arm_at (w ∷ ws) zero arm within is = ap (λ s. Some (statement s)) (sym is)
arm_at (w ∷ ws) (suc i) arm within is = arm_at ws i arm (omega (arith, within)) is

module _ (type_id : TypeId) (constants : List (Vec Constant Global)) (written : List SyntaxStmt) (old : Passed) where
  abbrev written_arms : List (List Constant × Passing (Unit {0}))
  written_arms = arms_of constants (map statement written)

  -- what is left, once some are made
  pub record AreLeftFrom (i : ℕ) (rows : List (Vec ℤ Global)) (seen : List ℤ) (arms : List Stmt) (now : Passed) : Type 0 where
    pub goes_on : case_arms type_id [] written_arms old
        ≡ behind_marks (arms_look rows (map look_stmt arms)) (case_arms type_id seen (drop i written_arms) now)
    pub even : length rows ≡ length arms

  -- none is made yet
  pub arms_begin : (rows : List (Vec ℤ Global)) (seen : List ℤ) (arms : List Stmt) → rows ≡ [] → seen ≡ [] → arms ≡ [] → AreLeftFrom 0 rows seen arms old
  arms_begin rows seen arms no_rows none no_arms =
      subst (λ r. AreLeftFrom 0 r seen arms old) (sym no_rows)
      (subst (λ s. AreLeftFrom 0 [] s arms old) (sym none)
      (subst (λ a. AreLeftFrom 0 [] [] a old) (sym no_arms)
      (record { goes_on = sym (behind_nothing (case_arms type_id [] written_arms old)); even = refl })))

  module _ (i : ℕ) (rows : List (Vec ℤ Global)) (seen : List ℤ) (arms : List Stmt) (now : Passed) (left : AreLeftFrom i rows seen arms now) where
    abbrev done : Look
    done = arms_look rows (map look_stmt arms)

    -- where no constants are left, no arm is
    pub arm_left_out : (same_rows : List (Vec ℤ Global)) (same_seen : List ℤ) (same_arms : List Stmt) (same : Passed) → length constants ≤ i
        → same_rows ≡ rows → same_seen ≡ seen → same_arms ≡ arms → same ≡ now → AreLeftFrom (i + 1) same_rows same_seen same_arms same
    arm_left_out same_rows same_seen same_arms same all one two three four =
        subst (λ r. AreLeftFrom (i + 1) r same_seen same_arms same) (sym one)
        (subst (λ s. AreLeftFrom (i + 1) rows s same_arms same) (sym two)
        (subst (λ a. AreLeftFrom (i + 1) rows seen a same) (sym three)
        (subst (AreLeftFrom (i + 1) rows seen arms) (sym four) (record {
          goes_on =
              left.goes_on
              ∙ ap (λ l. behind_marks done (case_arms type_id seen l now))
              (no_row constants (map statement written) i all ∙ sym (no_row constants (map statement written) (i + 1) (omega (arith, all))));
          even = left.even;
        }))))

    -- all are made
    pub arms_end : length written ≤ i → case_arms type_id [] written_arms old ≡ Ok (after tt done now)
    arms_end all =
        left.goes_on
        ∙ ap (λ l. behind_marks done (case_arms type_id seen l now))
        (no_arm constants (map statement written) i (omega (arith, all, length-map written statement)))
        ∙ ap (λ look. Ok (after tt look now)) (append-nil done)

    -- the next one
    module _ (constants_row : Vec Constant Global) (arm : SyntaxStmt) (row_is : slice_get constants i ≡ Some constants_row) (within : i < length written)
        (arm_is : arm ≡ get_or written i arm) where
      pub arm_goes : case_arms type_id [] written_arms old
          ≡ behind_marks done (case_arms type_id seen ((constants_row.items, statement arm) ∷ drop (i + 1) written_arms) now)
      arm_goes =
          left.goes_on
          ∙ ap (λ l. behind_marks done (case_arms type_id seen l now))
          (next_arm constants (map statement written) i constants_row (statement arm) row_is (arm_at written i arm within arm_is))

      module _ (row : Vec ℤ Global) (there : Passed) (passes : constant_row type_id seen [] constants_row.items now ≡ Ok (after row.items [] there)) where
        pub arm_made : (made : Stmt) (new : Passed) (all_rows : List (Vec ℤ Global)) (all_seen : List ℤ) (all_arms : List Stmt)
            → all_rows ≡ rows ++ row ∷ [] → all_seen ≡ seen ++ row.items → all_arms ≡ arms ++ made ∷ []
            → statement arm there ≡ Ok (after tt (look_stmt made) new) → AreLeftFrom (i + 1) all_rows all_seen all_arms new
        arm_made made new all_rows all_seen all_arms grown met longer is =
            subst (λ r. AreLeftFrom (i + 1) r all_seen all_arms new) (sym grown)
            (subst (λ s. AreLeftFrom (i + 1) (rows ++ row ∷ []) s all_arms new) (sym met)
            (subst (λ a. AreLeftFrom (i + 1) (rows ++ row ∷ []) (seen ++ row.items) a new) (sym longer)
            (record { goes_on = goes_further; even = as_many })))
          where
            looks_so : arms_look (rows ++ row ∷ []) (map look_stmt (arms ++ made ∷ [])) ≡ done ++ (Arm row.items ∷ look_stmt made)
            looks_so =
                ap (arms_look (rows ++ row ∷ [])) (map-append look_stmt arms (made ∷ []))
                ∙ arm_more rows (map look_stmt arms) row (look_stmt made) (left.even ∙ sym (length-map arms look_stmt))
                ∙ ap (λ l. done ++ (Arm row.items ∷ l)) (append-nil (look_stmt made))

            goes_further : case_arms type_id [] written_arms old
                ≡ behind_marks (arms_look (rows ++ row ∷ []) (map look_stmt (arms ++ made ∷ [])))
                (case_arms type_id (seen ++ row.items) (drop (i + 1) written_arms) new)
            goes_further =
                arm_goes
                ∙ ap (behind_marks done)
                (arm_passes type_id seen constants_row.items (statement arm) (drop (i + 1) written_arms) now row.items there passes (look_stmt made) new is)
                ∙ behind_both done (Arm row.items ∷ look_stmt made) (case_arms type_id (seen ++ row.items) (drop (i + 1) written_arms) new)
                ∙ ap (λ l. behind_marks l (case_arms type_id (seen ++ row.items) (drop (i + 1) written_arms) new)) (sym looks_so)

            as_many : length (rows ++ row ∷ []) ≡ length (arms ++ made ∷ [])
            as_many = length-append rows (row ∷ []) ∙ ap (λ n. n + 1) left.even ∙ sym (length-append arms (made ∷ []))
