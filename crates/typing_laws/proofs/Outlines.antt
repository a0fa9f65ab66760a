-- The headings of the blocks that end in a look, and those that were passed: where the blocks end as their headings tell,
-- the headings of a tree that looks so are these.
use Rattle.std.proofs.Common.{◌≡◌, ℕ, zero, suc, ◌+◌, ◌<◌, Bool, true, false, nat_eq, nat_lt, List, [], ◌∷◌, ◌++◌, length, map, Option, Some, None, option_map}
use Rattle.std.proofs.Common.{slice_get, refl, sym, ap, ap₂, subst, ◌∙◌, arith}
use Rattle.std.specs.Cmp.Lexicographic.{pointwise}
use Rattle.std.specs.Option.{option_and_then}
use Rattle.std.proofs.lemmas.Bool.{eq-eqb, eqb-true}
use Rattle.std.proofs.lemmas.Bool.Decides.{nat_tests}
use Rattle.types.specs.Types.{is_ordinal}
use Rattle.typed_tree.specs.declared.tree.FunctionResult.{FunctionResult}
use Rattle.typed_tree.specs.declared.tree.Heading.{Heading as TreeHeading}
use Rattle.typed_tree.specs.declared.tree.Variable.{Variable}
use Rattle.typed_tree.specs.Accesses.{is_type, led}
use Rattle.typed_tree.specs.Look.{Look, BlockEnds, blocks_of_look}
use Rattle.typed_tree.specs.WellFormed.{Outline, declarer, is_declared_by, is_heading, is_placed, is_result_or_none, most_blocks, of_one, result_roots}
use Rattle.typing.specs.Passing.{Headed}
use Rattle.typing_laws.specs.Lawful.{HasHeading, TellsHeadings}
use Rattle.typing_laws.proofs.Built.{AreEnds, EndsSo, HasSite}
use Rattle.typing_laws.proofs.Grown.{both_true}
use Rattle.typing_laws.proofs.Owned.{parameters_of, results_of, roots_of}
use Rattle.typing_laws.proofs.Reached.{Signature, signature_of, signature_passed, Reached, get_mapped, mapped_get}
use Rattle.typing_laws.proofs.Ready.{IsHeaded, IsPlacedAt}
use Rattle.typing_laws.proofs.Waiting.{count_of, one_if}

-- ---- headings that agree

-- a heading of a tree, and what was passed of its block
pub record Agrees (now : Reached) (headings : List TreeHeading) (block : ℕ) : Type 0 where
  pub heading : TreeHeading
  pub is_there : slice_get headings block ≡ Some heading
  pub passed : slice_get now.headings block ≡ Some (signature_of heading)
  pub site : HasSite now.sites heading.result

-- at a block's end
agrees_at : (now : Reached) (headings : List TreeHeading) (block : ℕ) (around parameters : List ℕ) (result : Option FunctionResult)
    → EndsSo now block around parameters result → HasHeading headings block around parameters result → Agrees now headings block
agrees_at now headings block around parameters result ends told =
    let signature : ends.signature ≡ signature_of told.0 =
    (λ i. record {
      around = (ends.around_it ∙ sym told.2) i;
      parameters = (ends.parameters_are ∙ sym told.3) i;
      result = (ends.result_is ∙ ap (option_map (λ (r : FunctionResult). r.root)) (sym told.4)) i;
    }) in
    record {
      heading = told.0;
      is_there = told.1;
      passed = ends.is_there ∙ ap Some signature;
      site = subst (HasSite now.sites) (sym told.4) ends.site;
    }

-- of each block that ends
pub agrees_in : (now : Reached) (headings : List TreeHeading) (look : Look) (block : ℕ) → 0 < count_of block (blocks_of_look look) → AreEnds now look
    → TellsHeadings headings look → Agrees now headings block
agrees_in now headings [] block there ends tells = absurd (omega (arith, there))
agrees_in now headings (BlockEnds number around parameters result end ∷ look) block there ends tells =
    by (nat_eq block number) refl there (λ h. agrees_in now headings look block h ends.1 tells.1)
  where
    by : (test : Bool) → nat_eq block number ≡ test → 0 < one_if test + count_of block (blocks_of_look look)
        → (0 < count_of block (blocks_of_look look) → Agrees now headings block) → Agrees now headings block
    by true same h more =
        subst (Agrees now headings) (sym (eqb-true block number same)) (agrees_at now headings number around parameters result ends.0 tells.0)
    by false same h more = more (omega (arith, h))
agrees_in now headings (other ∷ look) block there ends tells = agrees_in now headings look block there ends.1 tells.1

-- ---- lists by their parts

pub same_parts : {A : Type 0} (xs ys : List A) → length xs ≡ length ys
    → ((k : ℕ) → k < length xs → slice_get xs k ≡ slice_get ys k) → xs ≡ ys
same_parts [] [] counts each = refl
same_parts [] (y ∷ ys) counts each = absurd (omega (arith, counts))
same_parts (x ∷ xs) [] counts each = absurd (omega (arith, counts))
same_parts (x ∷ xs) (y ∷ ys) counts each =
    let first : x ≡ y = some_same (each 0 (omega arith)) in
    let rest = same_parts xs ys (omega (arith, counts)) (λ k h. each (suc k) (omega (arith, h))) in
    ap₂ (λ a b. a ∷ b) first rest
  where
    some_same : Some x ≡ Some y → x ≡ y
    some_same is = cc

pub pointwise_same : (xs ys : List ℕ) → xs ≡ ys → pointwise nat_eq xs ys ≡ true
pointwise_same xs ys same = subst (λ l. pointwise nat_eq xs l ≡ true) same (by xs)
  where
    by : (l : List ℕ) → pointwise nat_eq l l ≡ true
    by [] = refl
    by (x ∷ l) = both_true _ _ (eq-eqb x x refl) (by l)

-- ---- headings of a tree

roots_told : (result : Option FunctionResult) → roots_of (option_map (λ (r : FunctionResult). r.root) result) ≡ result_roots result
roots_told None = refl
roots_told (Some r) = refl

lt_is : (a b : ℕ) → a < b → nat_lt a b ≡ true
lt_is a b h = grind (arith, nat_tests)

module _ (o : Outline) (headings : List Headed) (same : map signature_of o.headings ≡ map signature_passed headings) where
  -- the one at the same place
  heading_at : (block : ℕ) (headed : Headed) → slice_get headings block ≡ Some headed
      → (heading : TreeHeading) × (slice_get o.headings block ≡ Some heading) × (signature_of heading ≡ signature_passed headed)
  heading_at block headed is =
      get_mapped signature_of o.headings block (signature_passed headed)
      (ap (λ l. slice_get l block) same ∙ mapped_get signature_passed headings block headed is)

  pub headed_at : (block : ℕ) (heading : TreeHeading) → slice_get o.headings block ≡ Some heading
      → (headed : Headed) × (slice_get headings block ≡ Some headed) × (signature_passed headed ≡ signature_of heading)
  headed_at block heading is =
      get_mapped signature_passed headings block (signature_of heading)
      (ap (λ l. slice_get l block) (sym same) ∙ mapped_get signature_of o.headings block heading is)

  placed_formed : (block : ℕ) (heading : TreeHeading) (headed : Headed) → signature_passed headed ≡ signature_of heading → IsPlacedAt headings block headed
      → is_placed o block heading ≡ true
  placed_formed zero heading headed is p =
      let around = ap (λ (s : Signature). s.around) (sym is) ∙ p.0 in
      let parameters = ap (λ (s : Signature). s.parameters) (sym is) ∙ p.1 in
      let result = ap (λ (s : Signature). s.result) (sym is) ∙ p.2 in
      both_true _ _ (pointwise_same heading.around.items [] around)
      (both_true _ _ (pointwise_same heading.parameters.items [] parameters)
      (pointwise_same (result_roots heading.result) [] (sym (roots_told heading.result) ∙ ap roots_of result)))
  placed_formed (suc block) heading headed is p =
      let around = ap (λ (s : Signature). s.around) (sym is) in
      let few = lt_is (length heading.around.items) most_blocks (omega (arith, ap length around, p.0)) in
      let outer = heading_at p.1 p.4 p.5 in
      let outer_around = ap (λ (s : Signature). s.around) outer.2 in
      let stands = around ∙ p.6 ∙ ap (λ l. l ++ p.1 ∷ []) (sym outer_around) in
      both_true _ _ few
      (ap (of_one (is_declared_by o (suc block) heading.around.items)) (ap declarer around ∙ p.2)
      ∙ both_true _ _ (lt_is p.1 (suc block) p.3)
      (ap (of_one (λ (h : TreeHeading). pointwise nat_eq heading.around.items (h.around.items ++ p.1 ∷ []))) outer.1
      ∙ pointwise_same heading.around.items (outer.0.around.items ++ p.1 ∷ []) stands))

  result_formed : (block : ℕ) (heading : TreeHeading) (headed : Headed) → signature_passed headed ≡ signature_of heading
      → IsHeaded o.types o.variables headings block headed → HasSite o.sites heading.result → is_result_or_none o heading.result ≡ true
  result_formed block heading headed is h site = by heading.result refl site
    where
      by : (result : Option FunctionResult) → heading.result ≡ result → HasSite o.sites result → is_result_or_none o result ≡ true
      by None there has = refl
      by (Some r) there has =
          let told = ap (λ (s : Signature). s.result) is ∙ ap (option_map (λ (z : FunctionResult). z.root)) there in
          let v = h.ordinal r.root told in
          both_true _ _ (lt_is r.defined o.sites has)
          (ap (λ found. is_type (is_ordinal o.types) (option_and_then (λ (z : Variable). led o.types [] z.type_id) found)) v.1 ∙ v.2)

  -- a heading that stands where its block does
  pub heading_formed : (block : ℕ) (heading : TreeHeading) (headed : Headed) → signature_passed headed ≡ signature_of heading
      → IsHeaded o.types o.variables headings block headed → HasSite o.sites heading.result → is_heading o block heading ≡ true
  heading_formed block heading headed is h site =
      let parameters = ap (λ (s : Signature). s.parameters) (sym is) ∙ h.parameters in
      let results = sym (roots_told heading.result) ∙ ap (λ (s : Signature). roots_of s.result) (sym is) ∙ h.results in
      both_true _ _ (placed_formed block heading headed is h.placed)
      (both_true _ _ (pointwise_same heading.parameters.items (parameters_of block o.variables) parameters)
      (both_true _ _ (pointwise_same (result_roots heading.result) (results_of block o.variables) results)
      (result_formed block heading headed is h site)))
