-- A loop over selectors: what it has emitted, and how many cells the indexes need so far.
use Rattle.std.proofs.Common.{◌≡◌, ℕ, ◌+◌, ◌<◌, ◌≤◌, List, [], ◌∷◌, drop, get_or, length, max, ap, sym, subst, ◌∙◌, arith}
use Rattle.std.proofs.lemmas.List.{drop_all, drop_more}
use Rattle.pcode_assembler.specs.declared.instr.Instr.TheVariants as instr
use Rattle.typed_tree.specs.declared.tree.RangeTest.{RangeTest}
use Rattle.typed_tree.specs.declared.tree.Selector.{Selector}
use Rattle.typed_tree.specs.declared.tree.Selector.TheVariants.{Element, Field}
use Rattle.typed_tree.specs.declared.tree.Expr.{Expr}
use Rattle.code_scheme.specs.Code.{expr_code, field_code, index_codes, range_check, selectors_code}
use Rattle.code_scheme.specs.Depth.{access_depth, expr_depth, index_depths}
use Rattle.code_scheme.specs.Scopes.{Scope, row_length}
use Rattle.code_scheme.specs.Sizes.{capped}
use Rattle.code_emitter.specs.Emitted.{Gets, Seen}
use Rattle.code_emitter.proofs.Emitted.{Left, left_is, left_more}

-- the element at a place of a list, and those behind it
pub at_place : {X : Type 0} (xs : List X) (i : ℕ) (d x : X) → i < length xs → get_or xs i d ≡ x → drop i xs ≡ x ∷ drop (i + 1) xs
at_place xs i d x inside is = drop_more xs i d inside ∙ ap (λ y. y ∷ drop (i + 1) xs) is

module _ (scope : Scope) (before : Seen) (selectors : List Selector) (indexes : List Expr) where
  pub record Walked (now : Seen) (left : List Selector) (next depth : ℕ) : Type 0 where
    pub in_range : next ≤ length indexes
    pub emits : Left before now (selectors_code left (index_codes scope (drop next indexes))) (selectors_code selectors (index_codes scope indexes))
    pub least : 1 ≤ depth
    pub most : depth ≤ 4294967295
    pub needs : capped (max depth (access_depth left (index_depths (drop next indexes)))) ≡ capped (access_depth selectors (index_depths indexes))

  -- at other names for the same
  pub walked_as : (now now' : Seen) (left left' : List Selector) (next next' depth depth' : ℕ) → now' ≡ now → left' ≡ left → next' ≡ next → depth' ≡ depth
      → Walked now left next depth → Walked now' left' next' depth'
  walked_as now now' left left' next next' depth depth' p q r s w =
      subst (λ a. Walked a left' next' depth') (sym p) (subst (λ a. Walked now a next' depth') (sym q)
      (subst (λ a. Walked now left a depth') (sym r) (subst (λ a. Walked now left next a) (sym s) w)))

  -- a field
  pub walked_field : (now after : Seen) (left : List Selector) (position offset next depth : ℕ) → Walked now (Field position offset ∷ left) next depth
      → Gets now after (field_code offset) → Walked after left next depth
  walked_field now after left position offset next depth w g = record {
    in_range = w.in_range;
    emits = left_more w.emits g;
    least = w.least;
    most = w.most;
    needs = w.needs;
  }

  -- an element, with its index
  pub walked_element : (now valued after : Seen) (left : List Selector) (fits : RangeTest) (cells next depth value more : ℕ) (index : Expr)
      → Walked now (Element fits cells ∷ left) next depth → next < length indexes → drop next indexes ≡ index ∷ drop (next + 1) indexes
      → Gets now valued (expr_code scope index)
      → Gets valued after (range_check fits ∷ instr.IndexAddress fits.range.first (row_length cells) ∷ []) → value ≡ capped (expr_depth index)
      → more ≡ max depth (capped (value + 1)) → Walked after left (next + 1) more
  walked_element now valued after left fits cells next depth value more index w inside there g h deep most =
      let all = ap (λ es. capped (max depth (access_depth (Element fits cells ∷ left) (index_depths es)))) there in
      record {
        in_range = omega arith;
        emits = left_more (left_more (left_is w.emits (ap (λ es. selectors_code (Element fits cells ∷ left) (index_codes scope es)) there)) g) h;
        least = omega (arith, w.least, most);
        most = omega (arith, w.most, most);
        needs = omega (arith, all, w.needs, deep, most, w.most);
      }

  -- one whose index isn't there
  pub walked_without : (now : Seen) (left : List Selector) (fits : RangeTest) (cells next depth : ℕ) → Walked now (Element fits cells ∷ left) next depth
      → length indexes ≤ next → Walked now left next depth
  walked_without now left fits cells next depth w none =
      let there = drop_all next indexes none in
      record {
        in_range = w.in_range;
        emits = left_is w.emits (ap (λ es. selectors_code (Element fits cells ∷ left) (index_codes scope es)) there ∙ ap (λ es. selectors_code left
            (index_codes scope es)) (sym there));
        least = w.least;
        most = w.most;
        needs = ap (λ es. capped (max depth (access_depth left (index_depths es)))) there
            ∙ ap (λ es. capped (max depth (access_depth (Element fits cells ∷ left) (index_depths es)))) (sym there)
            ∙ w.needs;
      }
