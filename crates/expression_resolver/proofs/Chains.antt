-- Chains and relations, as they begin with their first operands, and behind these.
use Rattle.std.proofs.Common.{◌≡◌, ℕ, ◌+◌, ◌<◌, true, List, [], ◌∷◌, ◌++◌, map, length, drop, get_or, Option, Result, Ok, Err, IfOk}
use Rattle.std.proofs.Common.{append-nil, inl, inr, sym, ap, ap₂, ◌∙◌, Box, Vec}
use Rattle.std.specs.Prelude.{flat_map}
use Rattle.std.proofs.lemmas.List.{drop_more}
use Rattle.std.proofs.lemmas.Grind.{flat_map-append}
use Rattle.std.specs.declared.alloc.Global.{Global}
use Rattle.place.specs.declared.Place.{Place}
use Rattle.syntax_tree.specs.declared.Expr.{Expr as SyntaxExpr}
use Rattle.syntax_tree.specs.declared.Link.{Link}
use Rattle.syntax_tree.specs.declared.RelationalOperator.{RelationalOperator}
use Rattle.syntax_tree.specs.declared.Expr.TheVariants as syntax
use Rattle.typed_tree.specs.declared.fault.TypeFault.{TypeFault}
use Rattle.typed_tree.specs.declared.site.SiteKind.{SiteKind}
use Rattle.typed_tree.specs.declared.tree.Link.{Link as TreeLink}
use Rattle.typed_tree.specs.Look.{Begins, look_link}
use Rattle.typing_rules.specs.declared.typed.Typed.{Typed}
use Rattle.typing_rules.specs.declared.typed.TypedValue.{TypedValue}
use Rattle.typing.specs.Passing.{Passed, After, after, behind_marks}
use Rattle.typing_rules.specs.Checked.{Checked, and_then}
use Rattle.typing.specs.Expressions.{WrittenLink, expression, written_link, begun_by, chain, chain_behind, links, relation, relation_behind}
use Rattle.typing.proofs.Rows.{behind_both}
use Rattle.typing.proofs.Written.{typing_chain, typing_relation}
use Rattle.expression_resolver.specs.declared.typed.RightOperand.{RightOperand}
use Rattle.expression_resolver.specs.declared.typed.TypedExpr.{TypedExpr}
use Rattle.expression_resolver.specs.declared.typed.TypedLinks.{TypedLinks}
use Rattle.expression_resolver.specs.Made.{AreHeldLinks, AreLinksOf, IsRightOf, MakesChain, MakesLinks, MakesRelation, MakesRight, MakesTyped}
use Rattle.expression_resolver.specs.Made.{relates, typed_of}
use Rattle.expression_resolver.specs.Values.{look_value, value_of}

module _ (w : SyntaxExpr) (lead : Option SiteKind) (old : Passed) where
  pub chain_begun : (first : Box SyntaxExpr Global) (rest : Vec Link Global) (operand : SyntaxExpr) → w ≡ syntax.Chain first rest
      → operand ≡ first.value
      → (expression w).typing lead old
      ≡ begun_by (expression operand) (chain_behind (expression operand).first (map written_link rest.items)) lead old
  unfolding chain
  chain_begun first rest operand is same =
      ap (λ e. e.typing lead old) (ap expression is ∙ typing_chain first rest)
      ∙ ap (λ e. chain (expression e) (map written_link rest.items) lead old) (sym same)

  pub relation_begun : (left : Box SyntaxExpr Global) (operator : RelationalOperator) (place : Place) (right : Box SyntaxExpr Global)
      (operand other : SyntaxExpr) → w ≡ syntax.Relation left operator place right → operand ≡ left.value → other ≡ right.value
      → (expression w).typing lead old ≡ begun_by (expression operand) (relation_behind operator place (expression other)) lead old
  unfolding relation
  relation_begun left operator place right operand other is same also =
      ap (λ e. e.typing lead old) (ap expression is ∙ typing_relation left operator place right)
      ∙ ap₂ (λ e f. relation (expression e) operator place (expression f) lead old) (sym same) (sym also)

module _ (left : TypedExpr) where
  -- a chain, by the operators behind its first operand
  pub chain_joined : (place : Place) (rest : List WrittenLink) (old new : Passed) (made : Result TypedLinks TypeFault) (result : Result TypedExpr TypeFault)
      → MakesLinks (links (typed_of left) rest old) made new → MakesChain place left made result
      → MakesTyped (behind_marks (Begins ∷ look_value left.value) (chain_behind place rest (typed_of left) old)) result new
  chain_joined place rest old new (Ok made) (Ok one) is so =
      rw (is, so.scalar) (ap₂ (λ t look. Ok (after t look new)) (sym so.is) (sym so.looks))
  chain_joined place rest old new (Ok made) (Err why) is (inl memory) = inl memory
  chain_joined place rest old new (Ok made) (Err why) is (inr so) = inr (rw (is, so.0) (ap Err (sym so.1)))
  chain_joined place rest old new (Err why) (Ok one) stops so = absurd cc
  chain_joined place rest old new (Err why) (Err other) (inl memory) so = let same : other ≡ why = cc in inl (same ∙ memory)
  chain_joined place rest old new (Err why) (Err other) (inr is) so = let same : other ≡ why = cc in inr (rw is (ap Err (sym same)))

  -- a relation, by its right operand
  pub relation_joined : (outcome : Checked (After Typed)) (right : Result RightOperand TypeFault) (result : Result TypedExpr TypeFault) (new : Passed)
      → MakesRight (typed_of left) outcome right new → MakesRelation left right result
      → MakesTyped (behind_marks (Begins ∷ look_value left.value) outcome) result new
  relation_joined outcome (Ok right) (Ok made) new is so =
      ap (behind_marks (Begins ∷ look_value left.value)) is ∙ ap₂ (λ t look. Ok (after t look new)) (sym so.is) (sym so.looks)
  relation_joined outcome (Ok right) (Err why) new is memory = inl memory
  relation_joined outcome (Err why) (Ok made) new stops so = absurd cc
  relation_joined outcome (Err why) (Err other) new (inl memory) so = let same : other ≡ why = cc in inl (same ∙ memory)
  relation_joined outcome (Err why) (Err other) new (inr is) so =
      let same : other ≡ why = cc in inr (ap (behind_marks (Begins ∷ look_value left.value)) is ∙ ap Err (sym same))

-- they are refused, or are as they are held
pub links_are : (left : TypedValue) (rest : Result TypedLinks TypeFault) → IfOk rest (λ made. AreHeldLinks left made.typed.value made.links.items)
    → AreLinksOf left rest
links_are left (Ok rest) held = held
links_are left (Err why) held = tt

pub right_is : (left : TypedValue) (right : Result RightOperand TypeFault)
    → IfOk right (λ made. relates made.operation left (value_of made.operand.value) ≡ true) → IsRightOf left right
right_is left (Ok right) related = related
right_is left (Err why) related = tt

-- ---- operators, one after another

module _ (rest : List Link) (left : Typed) (old : Passed) where
  -- those so far are made, and those behind them are left
  abbrev pub AreLinksFrom : ℕ → List TreeLink → Typed → Passed → Type 0
  AreLinksFrom i made typed now =
      links left (map written_link rest) old ≡ behind_marks (flat_map look_link made) (links typed (map written_link (drop i rest)) now)

  -- the next one is made
  pub link_made : (i : ℕ) (made : List TreeLink) (typed : Typed) (now : Passed) → AreLinksFrom i made typed now → (written : Link) → i < length rest
      → written ≡ get_or rest i written → (one : TreeLink) (next : Typed) (new : Passed) (all : List TreeLink) → all ≡ made ++ one ∷ []
      → written_link written typed now ≡ Ok (after next (look_link one) new) → AreLinksFrom (i + 1) all next new
  link_made i made typed now so_far written within is one next new all are passes =
      let others = map written_link (drop (i + 1) rest) in
      so_far
      ∙ ap (λ ls. behind_marks (flat_map look_link made) (links typed (map written_link ls) now))
      (drop_more rest i written within ∙ ap (λ l. l ∷ drop (i + 1) rest) (sym is))
      ∙ ap (λ r. behind_marks (flat_map look_link made) (and_then r (λ a. behind_marks a.look (links a.answer others a.passed)))) passes
      ∙ behind_both (flat_map look_link made) (look_link one) (links next others new)
      ∙ ap (λ look. behind_marks look (links next others new))
      (ap (λ look. flat_map look_link made ++ look) (sym (append-nil (look_link one)))
      ∙ sym (ap (flat_map look_link) are ∙ flat_map-append look_link made (one ∷ [])))
