-- The law of every expression, by induction over its form.
use Rattle.std.proofs.Common.{◌≡◌, List, [], ◌∷◌, ◌++◌, map, Option, Some, None, Ok, refl, sym, ap, subst, ◌∙◌, append_assoc}
use Rattle.place.specs.declared.Place.{Place}
use Rattle.syntax_tree.specs.declared.Expr.{Expr}
use Rattle.syntax_tree.specs.declared.Link.{Link}
use Rattle.syntax_tree.specs.declared.Actual.{Actual}
use Rattle.syntax_tree.specs.declared.Expr.TheOpen as layer
use Rattle.syntax_tree.specs.declared.Expr.TheViews.{roll-Expr, roll-Link, roll-Actual}
use Rattle.syntax_tree.specs.declared.Expr.TheFolds.{map-Expr, map-Link, map-Actual, fold-roll-Expr, fold-roll-Link, fold-roll-Actual, ind-Expr, ind-Actual}
use Rattle.syntax_tree.specs.Places.{Places, joined_places, width_places, expr_places, actual_places, link_places, expression_step as expression_row}
use Rattle.syntax_tree.specs.Places.{actual_step as actual_row, link_step as link_row, members_of}
use Rattle.syntax_tree.specs.declared.Designator.{Designator}
use Rattle.syntax_tree.specs.declared.Designator.TheVariants as designator
use Rattle.typing_rules.specs.declared.typed.Typed.{Typed}
use Rattle.typing.specs.Expressions.{Written, WrittenActual, WrittenLink, expression, written_actual, written_link, expression_step, actual_step, link_step}
use Rattle.typing.specs.Expressions.{links, only, without_width}
use Rattle.typing_laws.proofs.Covers.{Covers, covers_more}
use Rattle.typing_laws.proofs.Steps.{PassingDoes, Anything, Nothing, sited}
use Rattle.typing_laws.proofs.Reached.{Here, Reached}
use Rattle.typing_laws.proofs.Leading.{LawfulWritten, LawfulLink, Types}
use Rattle.typing_laws.proofs.Accesses.{AreLawfulRows}
use Rattle.typing_laws.proofs.Calls.{IsLawfulWidth, LawfulActual, AreLawfulActuals}
use Rattle.typing_laws.proofs.Expressions.{number_does, string_does, named_does, component_does, parenthesized_does, negation_does, signed_does}
use Rattle.typing_laws.proofs.Operators.{AreLawfulMembers, link_does, links_none, links_more, chain_does, constructed_does, relation_does, call_does}

module _ (here : Here) where
  abbrev pub LawfulExpr : Expr → Type 0
  LawfulExpr w = LawfulWritten here (expr_places w) (expression w)

  abbrev pub LawfulActualOf : Actual → Type 0
  LawfulActualOf w = LawfulActual here (actual_places w) (written_actual w)

  abbrev LawfulLinkOf : Link → Type 0
  LawfulLinkOf w = LawfulLink here (link_places w) (written_link w)

  abbrev WithExpr : Type 0
  WithExpr = (w : Expr) × LawfulExpr w

  abbrev WithActual : Type 0
  WithActual = (w : Actual) × LawfulActualOf w

  abbrev WithLink : Type 0
  WithLink = (w : Link) × LawfulLinkOf w

  abbrev bare : layer.Expr-F WithExpr WithActual WithLink → layer.Expr-F Expr Actual Link
  bare y = map-Expr WithExpr WithActual WithLink Expr Actual Link (λ w. w.0) (λ w. w.0) (λ w. w.0) y

  abbrev bare_actual : layer.Actual-F WithExpr WithActual WithLink → layer.Actual-F Expr Actual Link
  bare_actual y = map-Actual WithExpr WithActual WithLink Expr Actual Link (λ w. w.0) (λ w. w.0) (λ w. w.0) y

  abbrev bare_link : layer.Link-F WithExpr WithActual WithLink → layer.Link-F Expr Actual Link
  bare_link y = map-Link WithExpr WithActual WithLink Expr Actual Link (λ w. w.0) (λ w. w.0) (λ w. w.0) y

  from_layer : (d : layer.Expr-F Expr Actual Link)
      → LawfulWritten here (expression_row (map-Expr Expr Actual Link Places Places Places expr_places actual_places link_places d))
      (expression_step (map-Expr Expr Actual Link Written WrittenActual WrittenLink expression written_actual written_link d))
      → LawfulExpr (roll-Expr d)
  from_layer d law =
      let places = fold-roll-Expr Places Places Places expression_row actual_row link_row d in
      let forms = fold-roll-Expr Written WrittenActual WrittenLink expression_step actual_step link_step d in
      subst (λ p. LawfulWritten here p (expression (roll-Expr d))) (sym places) (subst (LawfulWritten here _) (sym forms) law)

  -- the one actual of a function
  one_lawful : (place : Place) (places : List Place) (a : WrittenActual) (w : Written) → LawfulActual here places a → without_width place a.value a.width ≡ Ok w
      → LawfulWritten here (places ++ []) w
  one_lawful place places a w law is =
      let same = by a.value a.width is in
      record {
        begins = (
          law.value.begins.0 ++ (law.of_width ++ []),
          ap (λ l. l ++ []) law.places_are ∙ append_assoc law.of_value law.of_width []
              ∙ ap (λ l. l ++ (law.of_width ++ [])) law.value.begins.1
              ∙ ap (λ (z : Written). z.first ∷ (law.value.begins.0 ++ (law.of_width ++ []))) same,
        );
        types = λ least lead led.
            sited (λ sites has.
            covers_more 2 places [] sites (subst (λ p. Covers 2 p sites) (sym law.places_are) (covers_more 2 law.of_value law.of_width sites has)))
            (subst (λ (z : Written). PassingDoes here least (Covers 2 law.of_value) (z.typing lead) Types) same (law.value.types least lead led));
        passes = λ least callee position formal at is.
            sited (λ sites has.
            covers_more 2 places [] sites (subst (λ p. Covers 2 p sites) (sym law.places_are) (covers_more 2 law.of_value law.of_width sites has)))
            (subst (λ (z : Written). PassingDoes here least (Covers 2 law.of_value) (z.passing formal.type_id callee position) Anything) same
            (law.value.passes least callee position formal at is));
        reads = λ least.
            sited (λ sites has.
            covers_more 2 places [] sites (subst (λ p. Covers 2 p sites) (sym law.places_are) (covers_more 2 law.of_value law.of_width sites has)))
            (subst (λ (z : Written). PassingDoes here least (Covers 2 law.of_value) z.reading Anything) same (law.value.reads least));
        names = λ least. subst (λ (z : Written). PassingDoes here least Nothing z.file Anything) same (law.value.names least);
      }
    where
      by : (value : Written) (width : Option Written) → without_width place value width ≡ Ok w → value ≡ w
      by value None h = cc
      by value (Some width) h = absurd cc

  only_lawful : (place : Place) (ys : List WithActual) (w : Written) → only place (map written_actual (map (λ (y : WithActual). y.0) ys)) ≡ Ok w
      → LawfulWritten here (joined_places (map actual_places (map (λ (y : WithActual). y.0) ys))) w
  only_lawful place [] w is = absurd cc
  only_lawful place (y ∷ z ∷ ys) w is = absurd cc
  only_lawful place (y ∷ []) w is = one_lawful place (actual_places y.0) (written_actual y.0) w y.1 is

  actuals_lawful : (ys : List WithActual)
      → AreLawfulActuals here (map actual_places (map (λ (y : WithActual). y.0) ys)) (map written_actual (map (λ (y : WithActual). y.0) ys))
  actuals_lawful [] = tt
  actuals_lawful (y ∷ ys) = (y.1, actuals_lawful ys)

  abbrev bare_links : List WithLink → List Link
  bare_links ys = map (λ (y : WithLink). y.0) ys

  links_lawful : (ys : List WithLink) (now : Reached) (t : Typed) → Types t now
      → PassingDoes here now (Covers 2 (joined_places (map link_places (bare_links ys)))) (links t (map written_link (bare_links ys))) Types
  links_lawful [] now t known = links_none here t known
  links_lawful (y ∷ ys) now t known =
      links_more here t (written_link y.0) (map written_link (bare_links ys)) (link_places y.0) (joined_places (map link_places (bare_links ys))) known y.1
      (links_lawful ys)

  abbrev bare_exprs : List WithExpr → List Expr
  bare_exprs ys = map (λ (y : WithExpr). y.0) ys

  rows_lawful : (ys : List WithExpr) → AreLawfulRows here (map expr_places (bare_exprs ys)) (map expression (bare_exprs ys))
  rows_lawful [] = tt
  rows_lawful (y ∷ ys) = (y.1, rows_lawful ys)

  members_lawful : (designators : List Designator) (ys : List WithExpr)
      → AreLawfulMembers here (members_of designators (map expr_places (bare_exprs ys))) (members_of designators (map expression (bare_exprs ys)))
  members_lawful [] ys = tt
  members_lawful (designator.Single ∷ designators) [] = tt
  members_lawful (designator.Single ∷ designators) (y ∷ ys) = (y.1, tt, members_lawful designators ys)
  members_lawful (designator.Range ∷ designators) [] = tt
  members_lawful (designator.Range ∷ designators) (y ∷ []) = tt
  members_lawful (designator.Range ∷ designators) (y ∷ z ∷ ys) = (y.1, z.1, members_lawful designators ys)

  expression_layer : (y : layer.Expr-F WithExpr WithActual WithLink) → LawfulExpr (roll-Expr (bare y))
  expression_layer (layer.Number value place) = from_layer (layer.Number value place) (number_does here value place)
  expression_layer (layer.Name name) = from_layer (layer.Name name) (named_does here name)
  expression_layer (layer.Component name selectors indexes) =
      from_layer (bare (layer.Component name selectors indexes))
      (component_does here name selectors.items _ _ (rows_lawful indexes.items))
  expression_layer (layer.String text place) = from_layer (layer.String text place) (string_does here text.now place)
  expression_layer (layer.Call name actuals) = from_layer (bare (layer.Call name actuals)) (call_does here name _ _ (only_lawful name.place actuals.items)
      (actuals_lawful actuals.items))
  expression_layer (layer.Parenthesized place inner) =
      from_layer (bare (layer.Parenthesized place inner)) (parenthesized_does here place _ _ inner.value.1)
  expression_layer (layer.Not place operand) = from_layer (bare (layer.Not place operand)) (negation_does here place _ _ operand.value.1)
  expression_layer (layer.Signed s place term) = from_layer (bare (layer.Signed s place term)) (signed_does here s place _ _ term.value.1)
  expression_layer (layer.Chain first rest) = from_layer (bare (layer.Chain first rest)) (chain_does here _ _ _ _ first.value.1 (links_lawful rest.items))
  expression_layer (layer.Relation left operator place right) =
      from_layer (bare (layer.Relation left operator place right)) (relation_does here _ operator place _ _ _ left.value.1 right.value.1)
  expression_layer (layer.Set place designators values) =
      from_layer (bare (layer.Set place designators values)) (constructed_does here place _ _ (members_lawful designators.items values.items))

  abbrev width_row : WithExpr → Option WithExpr → Option Places
  width_row value width =
      (map-Actual Expr Actual Link Places Places Places expr_places actual_places link_places (bare_actual (record { value = value; width = width }))).width

  abbrev width_form : WithExpr → Option WithExpr → Option Written
  width_form value width =
      let d = bare_actual (record { value = value; width = width }) in
      (map-Actual Expr Actual Link Written WrittenActual WrittenLink expression written_actual written_link d).width

  width_lawful : (value : WithExpr) (width : Option WithExpr) → IsLawfulWidth here (width_places (width_row value width)) (width_form value width)
  width_lawful value None = tt
  width_lawful value (Some w) = w.1

  actual_layer : (y : layer.Actual-F WithExpr WithActual WithLink) → LawfulActualOf (roll-Actual (bare_actual y))
  actual_layer y =
      let d = bare_actual y in
      let places = fold-roll-Actual Places Places Places expression_row actual_row link_row d in
      let forms = fold-roll-Actual Written WrittenActual WrittenLink expression_step actual_step link_step d in
      subst (λ p. LawfulActual here p (written_actual (roll-Actual d))) (sym places)
      (subst (LawfulActual here _) (sym forms) (record {
        of_value = expr_places y.value.0;
        of_width = width_places (width_row y.value y.width);
        places_are = refl;
        value = y.value.1;
        width = width_lawful y.value y.width;
      }))

  link_layer : (y : layer.Link-F WithExpr WithActual WithLink) → LawfulLinkOf (roll-Link (bare_link y))
  link_layer y =
      let d = bare_link y in
      let places = fold-roll-Link Places Places Places expression_row actual_row link_row d in
      let forms = fold-roll-Link Written WrittenActual WrittenLink expression_step actual_step link_step d in
      subst (λ p. LawfulLink here p (written_link (roll-Link d))) (sym places)
      (subst (LawfulLink here _) (sym forms) (link_does here y.operator y.place _ _ y.operand.1))

  -- every expression
  pub expression_lawful : (w : Expr) → LawfulExpr w
  expression_lawful =
      ind-Expr LawfulExpr LawfulActualOf LawfulLinkOf
      (λ x y is. subst (λ z. LawfulExpr (roll-Expr z)) is (expression_layer y))
      (λ x y is. subst (λ z. LawfulActualOf (roll-Actual z)) is (actual_layer y))
      (λ x y is. subst (λ z. LawfulLinkOf (roll-Link z)) is (link_layer y))

  -- every actual
  pub actual_lawful : (w : Actual) → LawfulActualOf w
  actual_lawful =
      ind-Actual LawfulExpr LawfulActualOf LawfulLinkOf
      (λ x y is. subst (λ z. LawfulExpr (roll-Expr z)) is (expression_layer y))
      (λ x y is. subst (λ z. LawfulActualOf (roll-Actual z)) is (actual_layer y))
      (λ x y is. subst (λ z. LawfulLinkOf (roll-Link z)) is (link_layer y))

  -- the index expressions of an access
  pub indexes_lawful : (ws : List Expr) → AreLawfulRows here (map expr_places ws) (map expression ws)
  indexes_lawful [] = tt
  indexes_lawful (w ∷ ws) = (expression_lawful w, indexes_lawful ws)

  -- the actual parameters of a call
  pub every_actual_lawful : (ws : List Actual) → AreLawfulActuals here (map actual_places ws) (map written_actual ws)
  every_actual_lawful [] = tt
  every_actual_lawful (w ∷ ws) = (actual_lawful w, every_actual_lawful ws)
