-- What well formed expressions spell is read so.
use Rattle.std.proofs.Common.{◌≡◌, ℕ, zero, suc, ◌+◌, ◌≤◌, max, Bool, true, false, ◌&&◌, not, nat_eq, nat_le, if◌then◌else◌, List, [], ◌∷◌}
use Rattle.std.proofs.Common.{◌++◌, length, map}
use Rattle.std.proofs.Common.{Option, Some, None, Ok, refl, sym, ap, subst, ◌∙◌, arith}
use Rattle.std.proofs.lemmas.List.{append-nil}
use Rattle.std.specs.Option.{option_map}
use Rattle.std.proofs.lemmas.Bool.{eq-eqb, eqb-true}
use Rattle.place.specs.declared.Place.{Place}
use Rattle.lexer.specs.declared.token.Kind.{Kind}
use Rattle.lexer.specs.declared.token.Kind.TheVariants as kind
use Rattle.lexer.specs.declared.token.Symbol.{Symbol}
use Rattle.lexer.specs.declared.token.Symbol.TheVariants as symbol
use Rattle.lexer.specs.declared.token.Word.TheVariants as word
use Rattle.lexer.specs.declared.token.Token.{Token}
use Rattle.syntax_tree.specs.Places.{members_of}
use Rattle.syntax_tree.specs.declared.Name.{Name}
use Rattle.syntax_tree.specs.declared.Designator.{Designator}
use Rattle.syntax_tree.specs.declared.Designator.TheVariants as designate
use Rattle.syntax_tree.specs.declared.Selector.{Selector}
use Rattle.syntax_tree.specs.declared.Selector.TheVariants as select
use Rattle.syntax_tree.specs.declared.Operator.{Operator}
use Rattle.syntax_tree.specs.declared.Operator.TheVariants as op
use Rattle.syntax_tree.specs.declared.RelationalOperator.{RelationalOperator}
use Rattle.syntax_tree.specs.declared.Sign.{Sign}
use Rattle.syntax_tree.specs.declared.Sign.TheVariants as sign
use Rattle.syntax_tree.specs.declared.Expr.{Expr}
use Rattle.syntax_tree.specs.declared.Link.{Link}
use Rattle.syntax_tree.specs.declared.Actual.{Actual}
use Rattle.syntax_tree.specs.declared.Expr.TheOpen as expr
use Rattle.syntax_tree.specs.declared.Expr.TheViews.{roll-Expr, out-Expr, roll-out-Expr, out-Link, out-Actual}
use Rattle.syntax_tree.specs.declared.Expr.TheFolds.{map-Expr, ind-Expr}
use Rattle.reading.specs.Lexemes.{Spelling, Reads, character_string, of_kind, of_kind_at, identifier, sign_kind, operator_kind, relational_kind}
use Rattle.reading.specs.Outline as form
use Rattle.reading.specs.Outline.{Outline, ◌⧺◌, nothing, kept, mark, nested, only_if, binds, has_items, row_then, row, led, in_parentheses, are_of_level}
use Rattle.reading.specs.Outline.{operator_level}
use Rattle.reading.specs.Outline.{relation_level, sum_level, signed_level, product_level, factor_level, first_level, operand_level}
use Rattle.reading.specs.Trees.{expr_outline, link_outline, actual_outline, actual_of, selector_rows, member_of, member_outline, values_of}
use Rattle.reading.specs.Reading.{Reading, and_then, ◌>>=◌, ◌>>◌, pure, too_deep, here, next_kind, next_place, on, choose, taken}
use Rattle.reading.specs.Reading.{Turn, more, ends, loop, led_turn, separated, expect, expect_name, or_refuse, number_taken, text_taken, sign_in, sign_taken}
use Rattle.reading.specs.Reading.{operator_taken, relational_taken, take_if, same_kind}
use Rattle.reading.specs.Expressions.{Below, index, unjoined, selector, selectors, actual, actuals, named, parenthesized, negated, any_factor, link_turn, chain}
use Rattle.reading.specs.Expressions.{member, members, set}
use Rattle.reading.specs.Expressions.{term_of, signed, simple_of, relation_of, expression_of, factor, expression, expression_below, factor_below}
use Rattle.reading.proofs.Loops.{Uses, loop_ends, loop_stops, loop_goes, behind}
use Rattle.reading.proofs.Tests.{and_left, and_right, at_least, is_at_least}
use Rattle.reading.proofs.Uses.{NeverMore, actual_no_more, member_no_more, led_uses, selector_uses, link_uses, below_no_more, factor_no_more, term_no_more}
use Rattle.reading.proofs.Outlines.{expr_is, expr_layer, link_is, actual_is}
use Rattle.reading.proofs.Answers.{Answers, reads, stops, answered, says, done, answers_same, of_depth, deeper, parted}
use Rattle.reading.proofs.Answers.{takes_at, takes_of, expects_at, expects_of, misses, expects_name, takes_operator, takes_sign}
use Rattle.reading.proofs.Answers.{misses_operator, follows, no_more_name, follows_first, follows_operator, next_first}
use Rattle.reading.proofs.Answers.{takes_relational, misses_relational, follows_relational}

-- ---- how expressions begin

-- a spelling that begins with another token than a closing bracket
abbrev begins : Spelling → Bool
begins [] = false
begins (l ∷ s) = not (same_kind l.kind (kind.Symbol symbol.CloseBracket))

begins_before : (s t : Spelling) → begins s ≡ true → begins (s ++ t) ≡ true
begins_before [] t h = absurd cc
begins_before (l ∷ s) t h = h

not_closing : (s : Spelling) (tokens others : List Token) → begins s ≡ true → Reads tokens s others
    → ¬ (next_kind tokens ≡ Some (kind.Symbol symbol.CloseBracket))
not_closing [] tokens others b h e = absurd cc
not_closing (l ∷ s) tokens others b h e =
    let f : Some l.kind ≡ Some (kind.Symbol symbol.CloseBracket) = sym (next_first l.kind h.2 h.3.kind) ∙ e in
    let is : l.kind ≡ kind.Symbol symbol.CloseBracket = cc in
    let clash : true ≡ false = sym b ∙ ap (λ k. not (same_kind k (kind.Symbol symbol.CloseBracket))) is in
    absurd cc

abbrev Begins : Expr → Type 0
Begins e = begins (expr_outline e).spelling ≡ true

abbrev Begun : Type 0
Begun = (e : Expr) × Begins e

abbrev SomeActual : Type 0
SomeActual = Actual × Unit {0}

abbrev SomeLink : Type 0
SomeLink = Link × Unit {0}

abbrev begun_parts : expr.Expr-F Begun SomeActual SomeLink → expr.Expr-F Expr Actual Link
begun_parts = map-Expr Begun SomeActual SomeLink Expr Actual Link (λ e. e.0) (λ a. a.0) (λ l. l.0)

begun_layer : (y : expr.Expr-F Begun SomeActual SomeLink) → begins (expr_layer (begun_parts y)).spelling ≡ true
begun_layer (expr.Number v p) = refl
begun_layer (expr.Name n) = refl
begun_layer (expr.Component n ss es) = refl
begun_layer (expr.String t p) = refl
begun_layer (expr.Call n xs) = refl
begun_layer (expr.Parenthesized p e) = refl
begun_layer (expr.Set p ds es) = refl
begun_layer (expr.Not p e) = refl
begun_layer (expr.Signed s p e) = by s
  where
    by : (s : Sign) → not (same_kind (sign_kind s) (kind.Symbol symbol.CloseBracket)) ≡ true
    by sign.Plus = refl
    by sign.Minus = refl
begun_layer (expr.Chain f ls) = by (map link_outline (map (λ (l : SomeLink). l.0) ls.items))
  where
    by : (links : List Outline) → begins (form.chain (expr_outline f.value.0) links).spelling ≡ true
    by [] = f.value.1
    by (l ∷ links) = begins_before (expr_outline f.value.0).spelling (row (l ∷ links)).spelling f.value.1
begun_layer (expr.Relation l o p r) =
    begins_before (expr_outline l.value.0).spelling (of_kind_at (relational_kind o) p ∷ (expr_outline r.value.0).spelling) l.value.1

begun_rolled : (y : expr.Expr-F Begun SomeActual SomeLink) → Begins (roll-Expr (begun_parts y))
begun_rolled y = ap (λ (o : Outline). begins o.spelling) (expr_is (begun_parts y)) ∙ begun_layer y

expr_begins : (e : Expr) → Begins e
expr_begins = ind-Expr Begins (λ a. Unit {0}) (λ l. Unit {0})
    (λ x y is. subst (λ z. Begins (roll-Expr z)) is (begun_rolled y)) (λ x y is. tt) (λ x y is. tt)

-- a rule reads an outline, where what comes next can't go on with it
abbrev pub ReadsAs : {A : Type 0} → (Option Kind → Type 0) → ℕ → Reading A → A → ℕ → Spelling → Bool → Type 0
ReadsAs F limit p a depth s well =
    (tokens others : List Token) → Reads tokens s others → well ≡ true → F (next_kind others) → Answers limit depth p tokens a others

abbrev pub ReadsForm : (Option Kind → Type 0) → ℕ → Reading Outline → Outline → Type 0
ReadsForm F limit p o = ReadsAs F limit p o o.depth o.spelling o.well

-- what comes next lets an expression of a level end
abbrev pub Looser : ℕ → Option Kind → Type 0
Looser level next = follows next ≤ level

-- ---- loops

module _ {S A B : Type 0} {turn : S → Reading (Turn S A B)} (uses : Uses turn) where
  pub turn_says : {limit d : ℕ} {state next : S} {a : A} {r : List A × B} {tokens mid others : List Token} → turn state tokens ≡ Ok (more next a, mid)
      → Answers limit d (loop turn next) mid r others → Answers limit d (loop turn state) tokens (a ∷ r.0, r.1) others
  turn_says {state = state} {next} {a} {r} {tokens} {mid} e (reads h i) =
      reads h (loop_goes turn uses state next a tokens mid e ∙ ap (λ o. and_then o (behind turn a)) i)
  turn_says {state = state} {next} {a} {r} {tokens} {mid} e (stops h at left i) =
      stops h at left (loop_goes turn uses state next a tokens mid e ∙ ap (λ o. and_then o (behind turn a)) i)

  pub turn_answers : {limit d e : ℕ} {state next : S} {a : A} {r : List A × B} {tokens mid others : List Token} → Answers limit d (turn state) tokens (more
      next a) mid
      → Answers limit e (loop turn next) mid r others → Answers limit (max d e) (loop turn state) tokens (a ∷ r.0, r.1) others
  turn_answers {limit} {d} {e} {state} {next} {a} {r} {tokens} {mid} {others} (reads h i) second = widened (turn_says i second)
    where
      widened : Answers limit e (loop turn state) tokens (a ∷ r.0, r.1) others → Answers limit (max d e) (loop turn state) tokens (a ∷ r.0, r.1) others
      widened (reads k j) = reads (omega arith) j
      widened (stops k at left j) = stops (omega arith) at left j
  turn_answers {state = state} {tokens = tokens} (stops h at left i) second = stops (omega arith) at left (loop_stops turn state tokens _ i)

  pub turn_ends : {limit : ℕ} {state : S} {b : B} {tokens others : List Token} → turn state tokens ≡ Ok (ends b, others)
      → Answers limit 0 (loop turn state) tokens ([], b) others
  turn_ends {state = state} {b} {tokens} {others} e = reads (omega arith) (loop_ends turn state tokens others b e)

-- ---- lists

module _ (F : Option Kind → Type 0) (s : Symbol) (limit : ℕ) (part : Reading Outline) (fewer : NeverMore part) (parts_end : F (Some (kind.Symbol s)))
    {T : Type 0} (f : T → Outline) (part_reads : (x : T) → ReadsForm F limit part (f x)) where
  -- what comes behind a part: the next one's symbol, or what comes behind all
  first_of_led : (xs : List T) (tokens others : List Token) → Reads tokens (led s (map f xs)).spelling others → F (next_kind others) → F (next_kind tokens)
  first_of_led [] tokens others h end = subst (λ t. F (next_kind t)) (sym h) end
  first_of_led (x ∷ xs) tokens others h end = subst F (sym (next_first (kind.Symbol s) h.2 h.3.kind)) parts_end

  pub led_reads : (xs : List T) (tokens others : List Token) → Reads tokens (led s (map f xs)).spelling others → (led s (map f xs)).well ≡ true
      → F (next_kind others) → ¬ (next_kind others ≡ Some (kind.Symbol s))
      → Answers limit (led s (map f xs)).depth (loop (led_turn s part) tt) tokens (map f xs, tt) others
  unfolding led_turn
  led_reads [] tokens others h w end other =
      subst (λ t. Answers limit 0 (loop (led_turn s part) tt) tokens ([], tt) t) h
      (turn_ends (led_uses s part fewer) (ap (λ o. and_then o (λ found. choose found (λ _. part >>= (λ a. pure (more tt a))) (pure (ends tt))))
      (misses (kind.Symbol s) tokens (λ e. other (ap next_kind (sym h) ∙ e)))))
  led_reads (x ∷ xs) tokens others h w end other =
      let p = parted (f x).spelling (led s (map f xs)).spelling h.1 others h.4 in
      let one = part_reads x h.1 p.0 p.1 (and_left (f x).well (led s (map f xs)).well w) (first_of_led xs p.0 others p.2 end) in
      let others_read = led_reads xs p.0 others p.2 (and_right (f x).well (led s (map f xs)).well w) end other in
      of_depth _ (omega arith)
      (turn_answers (led_uses s part fewer) (says (taken (kind.Symbol s)) _ (takes_of (kind.Symbol s) h.2 h.3) (answered _ one done)) others_read)

  pub listed_reads : (x : T) (xs : List T) (tokens others : List Token) → Reads tokens (form.separated s (map f (x ∷ xs))).spelling others
      → (form.separated s (map f (x ∷ xs))).well ≡ true → F (next_kind others) → ¬ (next_kind others ≡ Some (kind.Symbol s))
      → Answers limit (form.separated s (map f (x ∷ xs))).depth (separated s part) tokens (map f (x ∷ xs)) others
  unfolding separated
  listed_reads x xs tokens others h w end other =
      let p = parted (f x).spelling (led s (map f xs)).spelling tokens others h in
      of_depth _ (omega arith)
      (answered _ (part_reads x tokens p.0 p.1 (and_left (f x).well (led s (map f xs)).well w) (first_of_led xs p.0 others p.2 end))
      (answered _ (led_reads xs p.0 others p.2 (and_right (f x).well (led s (map f xs)).well w) end other) done))

pub other_first : {token : Token} {behind tokens : List Token} (k j : Kind) → tokens ≡ token ∷ behind → token.kind ≡ k → ¬ (k ≡ j) → ¬ (next_kind tokens ≡
    Some j)
other_first k j are is other e = other (let f : Some k ≡ Some j = sym (next_first k are is) ∙ e in cc)

-- ---- what nests in an expression

abbrev pub InnerReads : ℕ → Below → Outline → Type 0
InnerReads limit inner o = (at : Option Place) → ReadsAs (Looser relation_level) limit (inner at) o (1 + o.depth) o.spelling o.well

abbrev pub NoSelector : Option Kind → Type 0
NoSelector next = ¬ (next ≡ Some (kind.Symbol symbol.OpenBracket)) × ¬ (next ≡ Some (kind.Symbol symbol.Period))

-- what comes next behind an actual
abbrev pub EndsActual : Option Kind → Type 0
EndsActual next = (follows next ≤ 0) × ¬ (next ≡ Some (kind.Symbol symbol.Colon))

-- what comes next behind a member of a set
abbrev pub EndsMember : Option Kind → Type 0
EndsMember next = (follows next ≤ 0) × ¬ (next ≡ Some (kind.Symbol symbol.Range))

-- a member of a set: its value, or its first and its last
abbrev pub Member : Type 0
Member = Expr × Option Expr

abbrev pub member_form : Member → Outline
member_form m = member_of (expr_outline m.0) (option_map expr_outline m.1)

member_begins : (m : Member) → begins (member_form m).spelling ≡ true
member_begins (a, None) = expr_begins a
member_begins (a, Some b) = begins_before (expr_outline a).spelling (of_kind (kind.Symbol symbol.Range) ∷ (expr_outline b).spelling) (expr_begins a)

module _ (limit : ℕ) (inner : Below) (fewer : (at : Option Place) → NeverMore (inner at)) (nests : (e : Expr) → InnerReads limit inner (expr_outline e)) where
  index_reads : (e : Expr) → ReadsAs (Looser 0) limit (index inner) (expr_outline e) (1 + (expr_outline e).depth) (expr_outline e).spelling (expr_outline
      e).well
  unfolding index
  index_reads e tokens others h w f = says here inner refl (nests e (next_place tokens) tokens others h w f)

  abbrev rows : Bool → List Selector → List Expr → List Outline × Outline
  rows within ss es = selector_rows within ss (map expr_outline es)

  abbrev joined_rows : Bool → List Selector → List Expr → Outline
  joined_rows within ss es = row_then (rows within ss es).0 (rows within ss es).1

  -- where brackets are open a comma or the closing bracket comes
  in_brackets : (ss : List Selector) (es : List Expr) (tokens others : List Token) → Reads tokens (joined_rows true ss es).spelling others
      → (joined_rows true ss es).well ≡ true → follows (next_kind tokens) ≡ 0
  in_brackets [] [] tokens others h w = follows_first (kind.Symbol symbol.CloseBracket) h.2 h.3.kind
  in_brackets [] (e ∷ es) tokens others h w = absurd cc
  in_brackets (select.Field n ∷ ss) es tokens others h w = follows_first (kind.Symbol symbol.CloseBracket) h.2 h.3.kind
  in_brackets (select.Index p joined ∷ ss) [] tokens others h w = absurd cc
  in_brackets (select.Index p true ∷ ss) (e ∷ es) tokens others h w = follows_first (kind.Symbol symbol.Comma) h.2 h.3.kind
  in_brackets (select.Index p false ∷ ss) (e ∷ es) tokens others h w = follows_first (kind.Symbol symbol.CloseBracket) h.2 h.3.kind

  -- where none are open no selector comes behind the last
  none_unjoined : (within : Bool) (tokens : List Token) → NoSelector (next_kind tokens) → unjoined inner within tokens ≡ Ok (ends (form.closing within), tokens)
  unfolding unjoined
  none_unjoined within tokens none =
      ap (λ o. and_then o (λ found. choose found (λ place. index inner >>= (λ i. pure (more true (form.index within place i))))
      (on (taken (kind.Symbol symbol.Period)) (λ _. expect_name >>= (λ name. pure (more false (form.field within name))))
      (pure (ends (form.closing within)))))) (misses (kind.Symbol symbol.OpenBracket) tokens none.0)
      ∙ ap (λ o. and_then o (λ found. choose found (λ _. expect_name >>= (λ name. pure (more false (form.field within name))))
      (pure (ends (form.closing within))))) (misses (kind.Symbol symbol.Period) tokens none.1)

  closes : (tokens : List Token) {mid : List Token} {place : Place} → taken (kind.Symbol symbol.CloseBracket) tokens ≡ Ok (Some place, mid) → ¬ (next_kind
      tokens ≡ Some (kind.Symbol symbol.Comma))
      → selector inner true tokens ≡ unjoined inner true mid
  closes tokens {mid} e other =
      ap (λ o. and_then o (λ found. choose found (λ place. index inner >>= (λ i. pure (more true (form.joined_index true place i))))
      (expect (kind.Symbol symbol.CloseBracket) >> unjoined inner true))) (misses (kind.Symbol symbol.Comma) tokens other)
      ∙ ap (λ o. and_then (and_then o or_refuse) (λ _. unjoined inner true)) e

  field_turn : (within : Bool) (n : Name) (tokens a b : List Token) (p : Place) → taken (kind.Symbol symbol.Period) tokens ≡ Ok (Some p, a)
      → ¬ (next_kind tokens ≡ Some (kind.Symbol symbol.OpenBracket)) → expect_name a ≡ Ok (identifier n, b)
      → unjoined inner within tokens ≡ Ok (more false (form.field within (identifier n)), b)
  unfolding unjoined
  field_turn within n tokens a b p e other f =
      ap (λ o. and_then o (λ found. choose found (λ place. index inner >>= (λ i. pure (more true (form.index within place i))))
      (on (taken (kind.Symbol symbol.Period)) (λ _. expect_name >>= (λ name. pure (more false (form.field within name))))
      (pure (ends (form.closing within)))))) (misses (kind.Symbol symbol.OpenBracket) tokens other)
      ∙ ap (λ o. and_then o (λ found. choose found (λ _. expect_name >>= (λ name. pure (more false (form.field within name))))
      (pure (ends (form.closing within))))) e
      ∙ ap (λ o. and_then o (λ name. pure (more false (form.field within name)))) f

  index_turn : (within : Bool) (e : Expr) (place : Place) (tokens a b : List Token) → taken (kind.Symbol symbol.OpenBracket) tokens ≡ Ok (Some place, a)
      → Answers limit (1 + (expr_outline e).depth) (index inner) a (expr_outline e) b
      → Answers limit (1 + (expr_outline e).depth) (unjoined inner within) tokens (more true (form.index within place (expr_outline e))) b
  unfolding unjoined
  index_turn within e place tokens a b t i = says (taken (kind.Symbol symbol.OpenBracket)) _ t (of_depth _ (omega arith) (answered _ i done))

  comma_turn : (e : Expr) (place : Place) (tokens a b : List Token) → taken (kind.Symbol symbol.Comma) tokens ≡ Ok (Some place, a)
      → Answers limit (1 + (expr_outline e).depth) (index inner) a (expr_outline e) b
      → Answers limit (1 + (expr_outline e).depth) (selector inner true) tokens (more true (form.joined_index true place (expr_outline e))) b
  comma_turn e place tokens a b t i = says (taken (kind.Symbol symbol.Comma)) _ t (of_depth _ (omega arith) (answered _ i done))

  pub selectors_read : (within : Bool) (ss : List Selector) (es : List Expr) (tokens others : List Token) → Reads tokens (joined_rows within ss es).spelling
      others
      → (joined_rows within ss es).well ≡ true → NoSelector (next_kind others)
      → Answers limit (joined_rows within ss es).depth (loop (selector inner) within) tokens (rows within ss es) others
  selectors_read false [] [] tokens others h w f =
      subst (λ t. Answers limit 0 (loop (selector inner) false) t ([], nothing) others) (sym h) (turn_ends (selector_uses inner fewer) (none_unjoined false
      others f))
  selectors_read true [] [] tokens others h w f =
      let t = closes tokens (takes_of (kind.Symbol symbol.CloseBracket) h.2 h.3)
      (other_first (kind.Symbol symbol.CloseBracket) (kind.Symbol symbol.Comma) h.2 h.3.kind (λ e. absurd cc)) in
      turn_ends (selector_uses inner fewer)
      (t ∙ subst (λ m. unjoined inner true h.1 ≡ Ok (ends (form.closing true), m)) h.4 (none_unjoined true h.1 (subst (λ m. NoSelector (next_kind m)) (sym
      h.4) f)))
  selectors_read within [] (e ∷ es) tokens others h w f = absurd cc
  selectors_read within (select.Index p joined ∷ ss) [] tokens others h w f = absurd cc
  selectors_read false (select.Field n ∷ ss) es tokens others h w f =
      let b = h.4 in
      of_depth _ (omega arith)
      (turn_says (selector_uses inner fewer)
      (field_turn false n tokens h.1 b.1 h.0.place (takes_of (kind.Symbol symbol.Period) h.2 h.3)
      (other_first (kind.Symbol symbol.Period) (kind.Symbol symbol.OpenBracket) h.2 h.3.kind (λ e. absurd cc)) (expects_name n.text.now n.place b.2 b.3))
      (selectors_read false ss es b.1 others b.4 w f))
  selectors_read true (select.Field n ∷ ss) es tokens others h w f =
      let a = h.4 in
      let b = a.4 in
      of_depth _ (omega arith)
      (turn_says (selector_uses inner fewer)
      (closes tokens (takes_of (kind.Symbol symbol.CloseBracket) h.2 h.3)
      (other_first (kind.Symbol symbol.CloseBracket) (kind.Symbol symbol.Comma) h.2 h.3.kind (λ e. absurd cc))
      ∙ field_turn true n h.1 a.1 b.1 a.0.place (takes_of (kind.Symbol symbol.Period) a.2 a.3)
      (other_first (kind.Symbol symbol.Period) (kind.Symbol symbol.OpenBracket) a.2 a.3.kind (λ e. absurd cc)) (expects_name n.text.now n.place b.2 b.3))
      (selectors_read false ss es b.1 others b.4 w f))
  selectors_read false (select.Index p true ∷ ss) (e ∷ es) tokens others h w f = absurd cc
  selectors_read true (select.Index p true ∷ ss) (e ∷ es) tokens others h w f =
      let r = joined_rows true ss es in
      let x = parted (expr_outline e).spelling r.spelling h.1 others h.4 in
      let wr = and_right (expr_outline e).well r.well w in
      of_depth _ (omega arith)
      (turn_answers (selector_uses inner fewer)
      (comma_turn e p tokens h.1 x.0 (takes_at (kind.Symbol symbol.Comma) p h.2 h.3)
      (index_reads e h.1 x.0 x.1 (and_left (expr_outline e).well r.well w) (let z = in_brackets ss es x.0 others x.2 wr in omega arith)))
      (selectors_read true ss es x.0 others x.2 wr f))
  selectors_read false (select.Index p false ∷ ss) (e ∷ es) tokens others h w f =
      let r = joined_rows true ss es in
      let x = parted (expr_outline e).spelling r.spelling h.1 others h.4 in
      let wr = and_right (expr_outline e).well r.well w in
      of_depth _ (omega arith)
      (turn_answers (selector_uses inner fewer)
      (index_turn false e p tokens h.1 x.0 (takes_at (kind.Symbol symbol.OpenBracket) p h.2 h.3)
      (index_reads e h.1 x.0 x.1 (and_left (expr_outline e).well r.well w) (let z = in_brackets ss es x.0 others x.2 wr in omega arith)))
      (selectors_read true ss es x.0 others x.2 wr f))
  selectors_read true (select.Index p false ∷ ss) (e ∷ es) tokens others h w f =
      let a = h.4 in
      let r = joined_rows true ss es in
      let x = parted (expr_outline e).spelling r.spelling a.1 others a.4 in
      let wr = and_right (expr_outline e).well r.well w in
      of_depth _ (omega arith)
      (turn_answers (selector_uses inner fewer)
      (answers_same (closes tokens (takes_of (kind.Symbol symbol.CloseBracket) h.2 h.3)
      (other_first (kind.Symbol symbol.CloseBracket) (kind.Symbol symbol.Comma) h.2 h.3.kind (λ e. absurd cc)))
      (index_turn true e p h.1 a.1 x.0 (takes_at (kind.Symbol symbol.OpenBracket) p a.2 a.3)
      (index_reads e a.1 x.0 x.1 (and_left (expr_outline e).well r.well w) (let z = in_brackets ss es x.0 others x.2 wr in omega arith))))
      (selectors_read true ss es x.0 others x.2 wr f))

  -- where no selector comes there are none
  pub none_selected : (tokens : List Token) → NoSelector (next_kind tokens) → selectors inner tokens ≡ Ok (([], nothing), tokens)
  unfolding selectors
  none_selected tokens f = loop_ends (selector inner) false tokens tokens nothing (none_unjoined false tokens f)

  -- ---- actuals

  actual_by : (value : Expr) (width : Option Expr)
      → ReadsForm EndsActual limit (actual inner) (actual_of (expr_outline value) (option_map expr_outline width))
  unfolding actual
  actual_by value None tokens others h w f =
      of_depth _ (omega arith)
      (answered _ (index_reads value tokens others h w f.0) (says (taken (kind.Symbol symbol.Colon)) _ (misses (kind.Symbol symbol.Colon) others f.1) done))
  actual_by value (Some width) tokens others h w f =
      let v = expr_outline value in
      let u = expr_outline width in
      let x = parted v.spelling (of_kind (kind.Symbol symbol.Colon) ∷ u.spelling) tokens others h in
      let c = x.2 in
      of_depth _ (omega arith)
      (answered _ (index_reads value tokens x.0 x.1 (and_left v.well u.well w) (let z = follows_first (kind.Symbol symbol.Colon) c.2 c.3.kind in omega arith))
      (says (taken (kind.Symbol symbol.Colon)) _ (takes_of (kind.Symbol symbol.Colon) c.2 c.3) (answered _ (index_reads width c.1 others c.4 (and_right
      v.well u.well w) f.0) done)))

  actual_reads : (a : Actual) → ReadsForm EndsActual limit (actual inner) (actual_outline a)
  actual_reads a = subst (λ o. ReadsForm EndsActual limit (actual inner) o) (sym (actual_is a)) (actual_by (out-Actual a).value (out-Actual a).width)

  pub actuals_read : (xs : List Actual) (tokens others : List Token) → Reads tokens (in_parentheses symbol.Comma (map actual_outline xs)).spelling others
      → (in_parentheses symbol.Comma (map actual_outline xs)).well ≡ true → ¬ (next_kind others ≡ Some (kind.Symbol symbol.OpenParenthesis))
      → Answers limit (in_parentheses symbol.Comma (map actual_outline xs)).depth (actuals inner) tokens (map actual_outline xs) others
  unfolding actuals
  actuals_read [] tokens others h w f =
      subst (λ t. Answers limit 0 (actuals inner) t [] others) (sym h) (says (taken (kind.Symbol symbol.OpenParenthesis)) _ (misses (kind.Symbol
      symbol.OpenParenthesis) others f) done)
  actuals_read (a ∷ xs) tokens others h w f =
      let o = form.separated symbol.Comma (map actual_outline (a ∷ xs)) in
      let x = parted o.spelling (of_kind (kind.Symbol symbol.CloseParenthesis) ∷ []) h.1 others h.4 in
      let c = x.2 in
      of_depth _ (omega arith)
      (says (taken (kind.Symbol symbol.OpenParenthesis)) _ (takes_of (kind.Symbol symbol.OpenParenthesis) h.2 h.3)
      (answered _ (listed_reads EndsActual symbol.Comma limit (actual inner) (actual_no_more inner fewer) (omega arith, λ e. absurd cc) actual_outline
      actual_reads a xs h.1 x.0 x.1
      (and_left o.well true w) (
        let z = follows_first (kind.Symbol symbol.CloseParenthesis) c.2 c.3.kind in omega arith,
        other_first (kind.Symbol symbol.CloseParenthesis) (kind.Symbol symbol.Colon) c.2 c.3.kind (λ e. absurd cc),
      )
      (other_first (kind.Symbol symbol.CloseParenthesis) (kind.Symbol symbol.Comma) c.2 c.3.kind (λ e. absurd cc)))
      (says (expect (kind.Symbol symbol.CloseParenthesis)) _ (expects_of (kind.Symbol symbol.CloseParenthesis) c.2 c.3)
      (subst (λ t. Answers limit 0 (pure (map actual_outline (a ∷ xs))) c.1 (map actual_outline (a ∷ xs)) t) c.4 done))))

  -- ---- sets

  member_by : (first : Expr) (last : Option Expr)
      → ReadsForm EndsMember limit (member inner) (member_of (expr_outline first) (option_map expr_outline last))
  unfolding member
  member_by first None tokens others h w f =
      of_depth _ (omega arith)
      (answered _ (index_reads first tokens others h w f.0) (says (taken (kind.Symbol symbol.Range)) _ (misses (kind.Symbol symbol.Range) others f.1) done))
  member_by first (Some last) tokens others h w f =
      let v = expr_outline first in
      let u = expr_outline last in
      let x = parted v.spelling (of_kind (kind.Symbol symbol.Range) ∷ u.spelling) tokens others h in
      let c = x.2 in
      of_depth _ (omega arith)
      (answered _ (index_reads first tokens x.0 x.1 (and_left v.well u.well w) (let z = follows_first (kind.Symbol symbol.Range) c.2 c.3.kind in omega arith))
      (says (taken (kind.Symbol symbol.Range)) _ (takes_of (kind.Symbol symbol.Range) c.2 c.3) (answered _ (index_reads last c.1 others c.4 (and_right
      v.well u.well w) f.0) done)))

  pub members_read : (ms : List Member) (tokens others : List Token)
      → Reads tokens (form.perhaps symbol.Comma (map member_form ms) ⧺ mark symbol.CloseBracket).spelling others
      → (form.perhaps symbol.Comma (map member_form ms)).well ≡ true
      → Answers limit (form.perhaps symbol.Comma (map member_form ms)).depth (members inner) tokens (map member_form ms) others
  unfolding members
  members_read [] tokens others h w =
      says (taken (kind.Symbol symbol.CloseBracket)) _ (takes_of (kind.Symbol symbol.CloseBracket) h.2 h.3)
      (subst (λ t. Answers {A = List Outline} limit 0 (pure []) h.1 [] t) h.4 done)
  members_read (m ∷ ms) tokens others h w =
      let l = led symbol.Comma (map member_form ms) in
      let o = form.separated symbol.Comma (map member_form (m ∷ ms)) in
      let x = parted o.spelling (of_kind (kind.Symbol symbol.CloseBracket) ∷ []) tokens others h in
      let c = x.2 in
      says (taken (kind.Symbol symbol.CloseBracket)) _
      (misses (kind.Symbol symbol.CloseBracket) tokens
      (not_closing o.spelling tokens x.0 (begins_before (member_form m).spelling l.spelling (member_begins m)) x.1))
      (of_depth _ (omega arith)
      (answered _ (listed_reads EndsMember symbol.Comma limit (member inner) (member_no_more inner fewer) (omega arith, λ e. absurd cc) member_form
      (λ a. member_by a.0 a.1) m ms tokens x.0 x.1 w (
        let z = follows_first (kind.Symbol symbol.CloseBracket) c.2 c.3.kind in omega arith,
        other_first (kind.Symbol symbol.CloseBracket) (kind.Symbol symbol.Range) c.2 c.3.kind (λ e. absurd cc),
      )
      (other_first (kind.Symbol symbol.CloseBracket) (kind.Symbol symbol.Comma) c.2 c.3.kind (λ e. absurd cc)))
      (says (expect (kind.Symbol symbol.CloseBracket)) _ (expects_of (kind.Symbol symbol.CloseBracket) c.2 c.3)
      (subst (λ t. Answers limit 0 (pure (map member_form (m ∷ ms))) c.1 (map member_form (m ∷ ms)) t) c.4 done))))

-- ---- factors

pub first_is : {token : Token} {behind tokens : List Token} (k : Kind) → tokens ≡ token ∷ behind → token.kind ≡ k
    → tokens ≡ record { kind = k; text = token.text; place = token.place } ∷ behind
first_is {token} {behind} k are is = are ∙ ap (λ j. record { kind = j; text = token.text; place = token.place } ∷ behind) is

-- no term begins with a sign
pub unsigned : {token : Token} {behind tokens : List Token} (k : Kind) → tokens ≡ token ∷ behind → token.kind ≡ k → ((p : Place) → sign_in k p ≡ None)
    → sign_taken tokens ≡ Ok (None, tokens)
unfolding sign_taken
unsigned {token} {behind} {tokens} k are is none =
    ap sign_taken are ∙ ap (λ j. take_if (sign_in j token.place) token behind) is
    ∙ ap (λ o. take_if o token behind) (none token.place) ∙ ap (λ t. Ok (None, t)) (sym are)

pub if_reads : {A : Type 0} {limit d : ℕ} {p : Reading A} (q : Reading A) {tokens others : List Token} {a : A} (b : Bool) → b ≡ true → Answers limit d p
    tokens a others
    → Answers limit d (if b then p else q) tokens a others
if_reads q true e h = h
if_reads q false e h = absurd cc

-- what an expression is made of
pub data IsExpr : Outline → Type 0 where
  is_number : (v : ℕ) (p : Place) → IsExpr (form.number v p)
  is_name : (n : Name) → IsExpr (form.named (identifier n))
  is_component : (n : Name) (ss : List Selector) (es : List Expr) → IsExpr (form.component (identifier n) (selector_rows false ss (map expr_outline es)))
  is_string : (t : List ℕ) (p : Place) → IsExpr (form.string (character_string t p))
  is_call : (n : Name) (xs : List Actual) → IsExpr (form.call (identifier n) (map actual_outline xs))
  is_parenthesized : (p : Place) (e : Expr) → IsExpr (form.parenthesized p (expr_outline e))
  is_set : (p : Place) (ms : List Member) → IsExpr (form.set p (map member_form ms))
  is_negated : (p : Place) (e : Expr) → IsExpr (form.negated p (expr_outline e))
  is_signed : (s : Sign) (p : Place) (e : Expr) → IsExpr (form.signed s p (expr_outline e))
  is_chain : (f : Expr) (o : Operator) (p : Place) (e : Expr) (ls : List Link)
      → IsExpr (form.chain (expr_outline f) (form.link o p (expr_outline e) ∷ map link_outline ls))
  is_relation : (l : Expr) (o : RelationalOperator) (p : Place) (r : Expr) → IsExpr (form.relation (expr_outline l) o p (expr_outline r))

chain_class : (f : Expr) (ls : List Link) → (only_if (has_items (map link_outline ls)) (form.chain (expr_outline f) (map link_outline ls))).well ≡ true
    → IsExpr (only_if (has_items (map link_outline ls)) (form.chain (expr_outline f) (map link_outline ls)))
chain_class f [] w = absurd cc
chain_class f (l ∷ ls) w =
    subst (λ k. IsExpr (form.chain (expr_outline f) (k ∷ map link_outline ls))) (sym (link_is l))
    (is_chain f (out-Link l).operator (out-Link l).place (out-Link l).operand ls)

members_are : (ds : List Designator) (es : List Expr)
    → map member_outline (members_of ds (map expr_outline es)) ≡ map member_form (members_of ds es)
members_are [] es = refl
members_are (designate.Single ∷ ds) [] = refl
members_are (designate.Single ∷ ds) (a ∷ es) = ap (λ xs. form.single (expr_outline a) ∷ xs) (members_are ds es)
members_are (designate.Range ∷ ds) [] = refl
members_are (designate.Range ∷ ds) (a ∷ []) = refl
members_are (designate.Range ∷ ds) (a ∷ b ∷ es) = ap (λ xs. form.range (expr_outline a) (expr_outline b) ∷ xs) (members_are ds es)

set_class : (p : Place) (test : Bool) (os : List Outline) (ms : List Member) → os ≡ map member_form ms → (only_if test (form.set p os)).well ≡ true
    → IsExpr (only_if test (form.set p os))
set_class p true os ms e w = subst (λ xs. IsExpr (form.set p xs)) (sym e) (is_set p ms)
set_class p false os ms e w = absurd cc

layer_class : (d : expr.Expr-F Expr Actual Link) → (expr_layer d).well ≡ true → IsExpr (expr_layer d)
layer_class (expr.Number v p) w = is_number v p
layer_class (expr.Name n) w = is_name n
layer_class (expr.Component n ss es) w = is_component n ss.items es.items
layer_class (expr.String t p) w = is_string t.now p
layer_class (expr.Call n xs) w = is_call n xs.items
layer_class (expr.Parenthesized p e) w = is_parenthesized p e.value
layer_class (expr.Set p ds es) w =
    set_class p (nat_eq (values_of ds.items) (length (map expr_outline es.items))) (map member_outline (members_of ds.items (map expr_outline es.items)))
    (members_of ds.items es.items) (members_are ds.items es.items) w
layer_class (expr.Not p e) w = is_negated p e.value
layer_class (expr.Signed s p e) w = is_signed s p e.value
layer_class (expr.Chain f ls) w = chain_class f.value ls.items w
layer_class (expr.Relation l o p r) w = is_relation l.value o p r.value

outline_out : (e : Expr) → expr_outline e ≡ expr_layer (out-Expr e)
outline_out e = ap expr_outline (sym (roll-out-Expr e)) ∙ expr_is (out-Expr e)

pub class_of : (e : Expr) → (expr_outline e).well ≡ true → IsExpr (expr_outline e)
class_of e w = subst IsExpr (sym (outline_out e)) (layer_class (out-Expr e) (sym (ap (λ (o : Outline). o.well) (outline_out e)) ∙ w))

operator_at_most : (o : Operator) → operator_level o ≤ 3
operator_at_most op.Plus = omega arith
operator_at_most op.Minus = omega arith
operator_at_most op.Or = omega arith
operator_at_most op.Times = omega arith
operator_at_most op.Div = omega arith
operator_at_most op.Mod = omega arith
operator_at_most op.And = omega arith

pub data IsLevel (o : Operator) : Type 0 where
  adds : operator_level o ≡ sum_level → IsLevel o
  multiplies : operator_level o ≡ product_level → IsLevel o

pub level_of : (o : Operator) → IsLevel o
level_of op.Plus = adds refl
level_of op.Minus = adds refl
level_of op.Or = adds refl
level_of op.Times = multiplies refl
level_of op.Div = multiplies refl
level_of op.Mod = multiplies refl
level_of op.And = multiplies refl

module _ (limit : ℕ) (inner operand : Below) (fewer : (at : Option Place) → NeverMore (inner at)) (nests : (e : Expr) → InnerReads limit inner (expr_outline e))
    (shrinks : NeverMore (any_factor inner operand)) (terms_shrink : NeverMore (term_of (any_factor inner operand)))
    (operands : (e : Expr) → binds factor_level (expr_outline e) ≡ true → (at : Option Place)
    → ReadsAs (Looser factor_level) limit (operand at) (expr_outline e) (1 + (expr_outline e).depth) (expr_outline e).spelling (expr_outline e).well) where
  no_actuals : (tokens : List Token) → ¬ (next_kind tokens ≡ Some (kind.Symbol symbol.OpenParenthesis)) → actuals inner tokens ≡ Ok ([], tokens)
  unfolding actuals
  no_actuals tokens f =
      ap (λ o. and_then o (λ found. choose found (λ _. separated symbol.Comma (actual inner) >>= (λ found. expect (kind.Symbol symbol.CloseParenthesis) >>
      pure found)) (pure [])))
      (misses (kind.Symbol symbol.OpenParenthesis) tokens f)

  factor_named : {token : Token} {behind tokens : List Token} → tokens ≡ token ∷ behind → token.kind ≡ kind.Identifier → any_factor inner operand tokens ≡
      named inner tokens
  unfolding any_factor number_taken text_taken
  factor_named are is = let e = first_is kind.Identifier are is in ap (any_factor inner operand) e ∙ ap (named inner) (sym e)

  factor_open : {token : Token} {behind tokens : List Token} → tokens ≡ token ∷ behind → token.kind ≡ kind.Symbol symbol.OpenParenthesis
      → any_factor inner operand tokens ≡ parenthesized inner tokens
  unfolding any_factor number_taken text_taken taken
  factor_open are is = let e = first_is (kind.Symbol symbol.OpenParenthesis) are is in ap (any_factor inner operand) e ∙ ap (parenthesized inner) (sym e)

  factor_set : {token : Token} {behind tokens : List Token} (p : Place) → tokens ≡ token ∷ behind → token.kind ≡ kind.Symbol symbol.OpenBracket
      → token.place ≡ p → any_factor inner operand tokens ≡ set inner p behind
  unfolding any_factor number_taken text_taken taken
  factor_set {token} {behind} p are is at =
      ap (any_factor inner operand) (first_is (kind.Symbol symbol.OpenBracket) are is) ∙ ap (λ q. set inner q behind) at

  factor_not : {token : Token} {behind tokens : List Token} (p : Place) → tokens ≡ token ∷ behind → token.kind ≡ kind.Word word.Not → token.place ≡ p
      → any_factor inner operand tokens ≡ negated inner operand p behind
  unfolding any_factor number_taken text_taken taken
  factor_not {token} {behind} p are is at = ap (any_factor inner operand) (first_is (kind.Word word.Not) are is) ∙ ap (λ q. negated inner operand q behind) at

  no_selector : (tokens : List Token) → Looser factor_level (next_kind tokens) → NoSelector (next_kind tokens)
  no_selector tokens f = (
    no_more_name (kind.Symbol symbol.OpenBracket) factor_level tokens f (omega arith) (omega arith),
    no_more_name (kind.Symbol symbol.Period) factor_level tokens f (omega arith) (omega arith),
  )

  factor_reads : (o : Outline) → IsExpr o → binds factor_level o ≡ true → ReadsForm (Looser factor_level) limit (any_factor inner operand) o
  unfolding any_factor named parenthesized set negated number_taken text_taken selectors
  factor_reads _ (is_number v p) b tokens others h w f =
      reads (omega arith) (ap (any_factor inner operand) (first_is (kind.Number v) h.2 h.3.kind)
      ∙ ap (λ q. Ok (form.number v q, h.1)) h.3.place ∙ ap (λ t. Ok (form.number v p, t)) h.4)
  factor_reads _ (is_string t p) b tokens others h w f =
      reads (omega arith) (ap (any_factor inner operand) (first_is kind.Text h.2 h.3.kind)
      ∙ ap (λ q. Ok (form.string (character_string q h.0.place), h.1)) h.3.text
      ∙ ap (λ q. Ok (form.string (character_string t q), h.1)) h.3.place
      ∙ ap (λ u. Ok (form.string (character_string t p), u)) h.4)
  factor_reads _ (is_name n) b tokens others h w f =
      let g : Looser factor_level (next_kind h.1) = subst (λ t. Looser factor_level (next_kind t)) (sym h.4) f in
      answers_same (factor_named h.2 h.3.kind)
      (says expect_name _ (expects_name n.text.now n.place h.2 h.3)
      (says (selectors inner) _ (none_selected limit inner fewer nests h.1 (no_selector h.1 g))
      (says (actuals inner) _ (no_actuals h.1 (no_more_name (kind.Symbol symbol.OpenParenthesis) factor_level h.1 g (omega arith) (omega arith)))
      (subst (λ t. Answers limit 0 (pure (form.named (identifier n))) h.1 (form.named (identifier n)) t) h.4 done))))
  factor_reads _ (is_component n ss es) b tokens others h w f =
      let r = selector_rows false ss (map expr_outline es) in
      answers_same (factor_named h.2 h.3.kind)
      (says expect_name _ (expects_name n.text.now n.place h.2 h.3)
      (of_depth _ (omega arith)
      (answered _ (selectors_read limit inner fewer nests false ss es h.1 others h.4 (and_right (has_items r.0) (row_then r.0 r.1).well w) (no_selector
      others f))
      (if_reads _ (has_items r.0) (and_left (has_items r.0) (row_then r.0 r.1).well w) done))))
  factor_reads _ (is_call n []) b tokens others h w f = absurd cc
  factor_reads _ (is_call n (a ∷ xs)) b tokens others h w f =
      let c = h.4 in
      answers_same (factor_named h.2 h.3.kind)
      (says expect_name _ (expects_name n.text.now n.place h.2 h.3)
      (says (selectors inner) _ (none_selected limit inner fewer nests h.1 (
        other_first (kind.Symbol symbol.OpenParenthesis) (kind.Symbol symbol.OpenBracket) c.2 c.3.kind (λ e. absurd cc),
        other_first (kind.Symbol symbol.OpenParenthesis) (kind.Symbol symbol.Period) c.2 c.3.kind (λ e. absurd cc),
      ))
      (of_depth _ (omega arith)
      (answered _ (actuals_read limit inner fewer nests (a ∷ xs) h.1 others h.4 w
      (no_more_name (kind.Symbol symbol.OpenParenthesis) factor_level others f (omega arith) (omega arith))) done))))
  factor_reads _ (is_parenthesized p e) b tokens others h w f =
      let o = expr_outline e in
      let x = parted o.spelling (of_kind (kind.Symbol symbol.CloseParenthesis) ∷ []) h.1 others h.4 in
      let c = x.2 in
      answers_same (factor_open h.2 h.3.kind)
      (says (expect (kind.Symbol symbol.OpenParenthesis)) _ (expects_at (kind.Symbol symbol.OpenParenthesis) p h.2 h.3)
      (of_depth _ (omega arith)
      (answered _ (nests e (Some p) h.1 x.0 x.1 (and_left o.well true w) (let z = follows_first (kind.Symbol symbol.CloseParenthesis) c.2 c.3.kind in omega
      arith))
      (says (expect (kind.Symbol symbol.CloseParenthesis)) _ (expects_of (kind.Symbol symbol.CloseParenthesis) c.2 c.3)
      (subst (λ t. Answers limit 0 (pure (form.parenthesized p o)) c.1 (form.parenthesized p o) t) c.4 done)))))
  factor_reads _ (is_set p ms) b tokens others h w f =
      let o = form.perhaps symbol.Comma (map member_form ms) in
      answers_same (factor_set p h.2 h.3.kind h.3.place)
      (of_depth _ (omega arith) (answered _ (members_read limit inner fewer nests ms h.1 others h.4 (and_left o.well true w)) done))
  factor_reads _ (is_negated p e) b tokens others h w f =
      let o = expr_outline e in
      answers_same (factor_not p h.2 h.3.kind h.3.place)
      (of_depth _ (omega arith)
      (answered _ (says here operand refl (operands e (and_left (binds factor_level o) o.well w) (next_place h.1) h.1 others h.4 (and_right (binds
      factor_level o) o.well w) f)) done))
  factor_reads _ (is_signed s p e) b tokens others h w f = absurd cc
  factor_reads _ (is_chain g o p e ls) b tokens others h w f = absurd (let z = operator_at_most o in let k = at_least factor_level (operator_level o) b in
      omega arith)
  factor_reads _ (is_relation l o p r) b tokens others h w f = absurd cc

  -- ---- chains

  abbrev any : Reading Outline
  any = any_factor inner operand

  no_link : (level : ℕ) (p : Reading Outline) (tokens : List Token) → Looser level (next_kind tokens) → level ≤ 4 → link_turn level p tt tokens ≡ Ok (
    ends
        tt,
    tokens,
  )
  unfolding link_turn
  no_link level p tokens f most =
      ap (λ o. and_then o (λ found. choose found (λ o. p >>= (λ x. pure (more tt (form.link o.0 o.1 x)))) (pure (ends tt)))) (misses_operator level tokens f
      most)

  -- an operand alone
  alone : (level : ℕ) (first p : Reading Outline) (o : Outline) → level ≤ 3 → ReadsForm (Looser (first_level level)) limit first o
      → ReadsForm (Looser level) limit (chain level first p) o
  unfolding chain
  alone level first p o most law tokens others h w f =
      of_depth _ (omega arith)
      (answered _ (law tokens others h w (omega arith))
      (says (loop (link_turn level p) tt) _ (loop_ends (link_turn level p) tt others others tt (no_link level p others f (omega arith))) done))

  -- what operators of a level have behind them
  abbrev Operands : ℕ → Reading Outline → Type 0
  Operands level p =
      (e : Expr) → (expr_outline e).well ≡ true → binds level (expr_outline e) ≡ true → ReadsForm (Looser level) limit p (expr_outline e)

  abbrev ReadsLinks : ℕ → Reading Outline → List Outline → Type 0
  ReadsLinks level p links =
      (tokens others : List Token) → Reads tokens (row links).spelling others → (row links).well ≡ true → are_of_level level links ≡ true
      → Looser level (next_kind others) → Answers limit (row links).depth (loop (link_turn level p) tt) tokens (links, tt) others

  first_link : (level : ℕ) (o : Operator) (p : Place) (x r : Outline) (tokens others : List Token) → Reads tokens (form.link o p x ⧺ r).spelling others
      → nat_eq (operator_level o) level ≡ true → follows (next_kind tokens) ≡ level + 1
  first_link level o p x r tokens others h at =
      follows_first (operator_kind o) h.2 h.3.kind ∙ follows_operator o ∙ ap (λ n. n + 1) (eqb-true (operator_level o) level at)

  links_first : (level : ℕ) (ls : List Link) (tokens others : List Token) → Reads tokens (row (map link_outline ls)).spelling others
      → are_of_level level (map link_outline ls) ≡ true → Looser level (next_kind others) → follows (next_kind tokens) ≤ level + 1
  links_first level [] tokens others h all f = let e : follows (next_kind tokens) ≡ follows (next_kind others) = ap (λ t. follows (next_kind t)) h in omega
      arith
  links_first level (l ∷ ls) tokens others h all f =
      let r = row (map link_outline ls) in
      let is = link_is l in
      let e = first_link level (out-Link l).operator (out-Link l).place (expr_outline (out-Link l).operand) r tokens others
      (subst (λ (k : Outline). Reads tokens (k ⧺ r).spelling others) is h)
      (subst (λ (k : Outline). nat_eq k.level level ≡ true) is
      (and_left (nat_eq (link_outline l).level level) (are_of_level level (map link_outline ls)) all)) in
      omega arith

  one_link : (level : ℕ) (p : Reading Outline) → NeverMore p → level + 1 ≤ operand_level level → Operands (operand_level level) p
      → (o : Operator) (pl : Place) (e : Expr) (ls : List Link) → ReadsLinks level p (map link_outline ls)
      → ReadsLinks level p (form.link o pl (expr_outline e) ∷ map link_outline ls)
  unfolding link_turn
  one_link level p shrinks up law o pl e ls rest tokens others h w all f =
      let x = expr_outline e in
      let r = row (map link_outline ls) in
      let b = binds (operand_level (operator_level o)) x in
      let q = parted x.spelling r.spelling h.1 others h.4 in
      let wl = and_left (b && x.well) r.well w in
      let same = and_left (nat_eq (operator_level o) level) (are_of_level level (map link_outline ls)) all in
      let at : operator_level o ≡ level = eqb-true (operator_level o) level same in
      let others_all = and_right (nat_eq (operator_level o) level) (are_of_level level (map link_outline ls)) all in
      let next = links_first level ls q.0 others q.2 others_all f in
      of_depth _ (omega arith)
      (turn_answers (link_uses level p shrinks)
      (says (operator_taken level) _ (takes_operator level o pl h.2 h.3 at)
      (answered _ (law e (and_right b x.well wl) (subst (λ l. binds (operand_level l) x ≡ true) at (and_left b x.well wl)) h.1 q.0 q.1 (and_right b x.well
      wl) (omega arith)) done))
      (rest q.0 others q.2 (and_right (b && x.well) r.well w) others_all f))

  links_read : (level : ℕ) (p : Reading Outline) → NeverMore p → level + 1 ≤ operand_level level → level ≤ 3 → Operands (operand_level level) p
      → (ls : List Link) → ReadsLinks level p (map link_outline ls)
  links_read level p shrinks up most law [] tokens others h w all f =
      subst (λ t. Answers limit 0 (loop (link_turn level p) tt) t ([], tt) others) (sym h)
      (turn_ends (link_uses level p shrinks) (no_link level p others f (omega arith)))
  links_read level p shrinks up most law (l ∷ ls) tokens others h w all f =
      let law_of : ReadsLinks level p (link_outline l ∷ map link_outline ls) = subst (λ k. ReadsLinks level p (k ∷ map link_outline ls)) (sym (link_is l))
      (one_link level p shrinks up law (out-Link l).operator (out-Link l).place (out-Link l).operand ls (links_read level p shrinks up most law ls)) in
      law_of tokens others h w all f

  -- a chain of a level
  chain_reads : (level : ℕ) (first p : Reading Outline) → NeverMore p → level + 1 ≤ operand_level level → level ≤ 3 → Operands (first_level level) first
      → Operands (operand_level level) p → (f : Expr) (o : Operator) (pl : Place) (e : Expr) (ls : List Link) → operator_level o ≡ level
      → ReadsForm (Looser level) limit (chain level first p) (form.chain (expr_outline f) (form.link o pl (expr_outline e) ∷ map link_outline ls))
  unfolding chain
  chain_reads level first p shrinks up most firsts law f o pl e ls at tokens others h w g =
      let x = expr_outline f in
      let k = form.link o pl (expr_outline e) in
      let links = k ∷ map link_outline ls in
      let may = binds (first_level k.level) x && are_of_level k.level links in
      let may_chain = and_left may (x.well && (row links).well) w in
      let inside = and_right may (x.well && (row links).well) w in
      let xw = and_left x.well (row links).well inside in
      let rw_ = and_right x.well (row links).well inside in
      let all = subst (λ n. are_of_level n links ≡ true) at (and_right (binds (first_level k.level) x) (are_of_level k.level links) may_chain) in
      let b = subst (λ n. binds (first_level n) x ≡ true) at (and_left (binds (first_level k.level) x) (are_of_level k.level links) may_chain) in
      let q = parted x.spelling (row links).spelling tokens others h in
      let next = first_link level o pl (expr_outline e) (row (map link_outline ls)) q.0 others q.2 (eq-eqb (operator_level o) level at) in
      of_depth _ (omega arith)
      (answered _ (firsts f xw b tokens q.0 q.1 xw (omega arith))
      (answered _ (one_link level p shrinks up law o pl e ls (links_read level p shrinks up most law ls) q.0 others q.2 rw_ all g) done))

  -- ---- the levels

  factors : Operands factor_level any
  factors e w b = factor_reads (expr_outline e) (class_of e w) b

  term_by : (o : Outline) → IsExpr o → o.well ≡ true → binds product_level o ≡ true → ReadsForm (Looser product_level) limit (term_of any) o
  term_by _ (is_number v p) w b = alone product_level any any _ (omega arith) (factor_reads _ (is_number v p) refl)
  term_by _ (is_name n) w b = alone product_level any any _ (omega arith) (factor_reads _ (is_name n) refl)
  term_by _ (is_component n ss es) w b = alone product_level any any _ (omega arith) (factor_reads _ (is_component n ss es) refl)
  term_by _ (is_string t p) w b = alone product_level any any _ (omega arith) (factor_reads _ (is_string t p) refl)
  term_by _ (is_call n xs) w b = alone product_level any any _ (omega arith) (factor_reads _ (is_call n xs) refl)
  term_by _ (is_parenthesized p e) w b = alone product_level any any _ (omega arith) (factor_reads _ (is_parenthesized p e) refl)
  term_by _ (is_set p ms) w b = alone product_level any any _ (omega arith) (factor_reads _ (is_set p ms) refl)
  term_by _ (is_negated p e) w b = alone product_level any any _ (omega arith) (factor_reads _ (is_negated p e) refl)
  term_by _ (is_signed s p e) w b = absurd cc
  term_by _ (is_chain f o p e ls) w b =
      chain_reads product_level any any shrinks (omega arith) (omega arith) factors factors f o p e ls
      (let k = at_least product_level (operator_level o) b in let m = operator_at_most o in omega arith)
  term_by _ (is_relation l o p r) w b = absurd cc

  terms : Operands product_level (term_of any)
  terms e w b = term_by (expr_outline e) (class_of e w) w b

  -- no term begins with a sign
  factor_unsigned : (o : Outline) → IsExpr o → binds factor_level o ≡ true → (s : Spelling) (tokens others : List Token) → Reads tokens (o.spelling ++ s) others
      → sign_taken tokens ≡ Ok (None, tokens)
  factor_unsigned _ (is_number v p) b s tokens others h = unsigned (kind.Number v) h.2 h.3.kind (λ p. refl)
  factor_unsigned _ (is_name n) b s tokens others h = unsigned kind.Identifier h.2 h.3.kind (λ p. refl)
  factor_unsigned _ (is_component n ss es) b s tokens others h = unsigned kind.Identifier h.2 h.3.kind (λ p. refl)
  factor_unsigned _ (is_string t p) b s tokens others h = unsigned kind.Text h.2 h.3.kind (λ p. refl)
  factor_unsigned _ (is_call n xs) b s tokens others h = unsigned kind.Identifier h.2 h.3.kind (λ p. refl)
  factor_unsigned _ (is_parenthesized p e) b s tokens others h = unsigned (kind.Symbol symbol.OpenParenthesis) h.2 h.3.kind (λ p. refl)
  factor_unsigned _ (is_set p ms) b s tokens others h = unsigned (kind.Symbol symbol.OpenBracket) h.2 h.3.kind (λ p. refl)
  factor_unsigned _ (is_negated p e) b s tokens others h = unsigned (kind.Word word.Not) h.2 h.3.kind (λ p. refl)
  factor_unsigned _ (is_signed g p e) b s tokens others h = absurd cc
  factor_unsigned _ (is_chain f o p e ls) b s tokens others h = absurd (let z = operator_at_most o in let k = at_least factor_level (operator_level o) b in
      omega arith)
  factor_unsigned _ (is_relation l o p r) b s tokens others h = absurd cc

  plain_unsigned : (o : Outline) → IsExpr o → binds factor_level o ≡ true → (tokens others : List Token) → Reads tokens o.spelling others
      → sign_taken tokens ≡ Ok (None, tokens)
  plain_unsigned o is b tokens others h =
      factor_unsigned o is b [] tokens others (subst (λ s. Reads tokens s others) (sym (append-nil o.spelling)) h)

  chain_unsigned : (f : Expr) (o : Operator) (p : Place) (e : Expr) (ls : List Link) → (form.chain (expr_outline f) (form.link o p (expr_outline e) ∷ map
      link_outline ls)).well ≡ true
      → operator_level o ≡ product_level → (tokens others : List Token)
      → Reads tokens (form.chain (expr_outline f) (form.link o p (expr_outline e) ∷ map link_outline ls)).spelling others → sign_taken tokens ≡ Ok (
        None,
        tokens,
      )
  chain_unsigned f o p e ls w at tokens others h =
      let x = expr_outline f in
      let k = form.link o p (expr_outline e) in
      let links = k ∷ map link_outline ls in
      let may = binds (first_level k.level) x && are_of_level k.level links in
      let b = subst (λ n. binds (first_level n) x ≡ true) at (and_left (binds (first_level k.level) x) (are_of_level k.level links) (and_left may (x.well &&
      (row links).well) w)) in
      let xw = and_left x.well (row links).well (and_right may (x.well && (row links).well) w) in
      factor_unsigned x (class_of f xw) b (row links).spelling tokens others h

  -- a term without a sign
  without_sign : (o : Outline) → ReadsForm (Looser product_level) limit (term_of any) o
      → ((tokens others : List Token) → Reads tokens o.spelling others → sign_taken tokens ≡ Ok (None, tokens))
      → ReadsForm (Looser signed_level) limit (signed (term_of any)) o
  unfolding signed
  without_sign o law none tokens others h w f = says sign_taken _ (none tokens others h) (law tokens others h w (omega arith))

  lone_signed : (o : Outline) → IsExpr o → binds factor_level o ≡ true → o.well ≡ true → ReadsForm (Looser signed_level) limit (signed (term_of any)) o
  lone_signed o is b w = without_sign o (alone product_level any any o (omega arith) (factor_reads o is b)) (plain_unsigned o is b)

  one_signed : (s : Sign) (p : Place) (e : Expr) → ReadsForm (Looser signed_level) limit (signed (term_of any)) (form.signed s p (expr_outline e))
  unfolding signed
  one_signed s p e tokens others h w f =
      let x = expr_outline e in
      let xw = and_right (binds product_level x) x.well w in
      of_depth _ (omega arith)
      (says sign_taken _ (takes_sign s p h.2 h.3) (answered _ (terms e xw (and_left (binds product_level x) x.well w) h.1 others h.4 xw (omega arith)) done))

  signed_by : (o : Outline) → IsExpr o → o.well ≡ true → binds signed_level o ≡ true → ReadsForm (Looser signed_level) limit (signed (term_of any)) o
  signed_by _ (is_number v p) w b = lone_signed _ (is_number v p) refl w
  signed_by _ (is_name n) w b = lone_signed _ (is_name n) refl w
  signed_by _ (is_component n ss es) w b = lone_signed _ (is_component n ss es) refl w
  signed_by _ (is_string t p) w b = lone_signed _ (is_string t p) refl w
  signed_by _ (is_call n xs) w b = lone_signed _ (is_call n xs) refl w
  signed_by _ (is_parenthesized p e) w b = lone_signed _ (is_parenthesized p e) refl w
  signed_by _ (is_set p ms) w b = lone_signed _ (is_set p ms) refl w
  signed_by _ (is_negated p e) w b = lone_signed _ (is_negated p e) refl w
  signed_by _ (is_signed s p e) w b = one_signed s p e
  signed_by _ (is_relation l o p r) w b = absurd cc
  signed_by _ (is_chain f o p e ls) w b =
      let at : operator_level o ≡ product_level = multiplied o (level_of o) b in
      without_sign _ (chain_reads product_level any any shrinks (omega arith) (omega arith) factors factors f o p e ls at) (chain_unsigned f o p e ls w at)
    where
      multiplied : (o : Operator) → IsLevel o → nat_le signed_level (operator_level o) ≡ true → operator_level o ≡ product_level
      multiplied o (adds at) h = absurd (let k = at_least signed_level (operator_level o) h in omega arith)
      multiplied o (multiplies at) h = at

  signeds : Operands signed_level (signed (term_of any))
  signeds e w b = signed_by (expr_outline e) (class_of e w) w b

  simple_by : (o : Outline) → IsExpr o → o.well ≡ true → binds sum_level o ≡ true → ReadsForm (Looser sum_level) limit (simple_of (term_of any)) o
  simple_by _ (is_chain f o p e ls) w b = by (level_of o)
    where
      by : IsLevel o → ReadsForm (Looser sum_level) limit (simple_of (term_of any)) (form.chain (expr_outline f) (form.link o p (expr_outline e) ∷ map
          link_outline ls))
      by (adds at) = chain_reads sum_level (signed (term_of any)) (term_of any) terms_shrink (omega arith) (omega arith) signeds terms f o p e ls at
      by (multiplies at) =
          alone sum_level (signed (term_of any)) (term_of any) _ (omega arith)
          (signed_by _ (is_chain f o p e ls) w (is_at_least signed_level (operator_level o) (omega arith)))
  simple_by _ (is_number v p) w b = alone sum_level (signed (term_of any)) (term_of any) _ (omega arith) (signed_by _ (is_number v p) w refl)
  simple_by _ (is_name n) w b = alone sum_level (signed (term_of any)) (term_of any) _ (omega arith) (signed_by _ (is_name n) w refl)
  simple_by _ (is_component n ss es) w b = alone sum_level (signed (term_of any)) (term_of any) _ (omega arith) (signed_by _ (is_component n ss es) w refl)
  simple_by _ (is_string t p) w b = alone sum_level (signed (term_of any)) (term_of any) _ (omega arith) (signed_by _ (is_string t p) w refl)
  simple_by _ (is_call n xs) w b = alone sum_level (signed (term_of any)) (term_of any) _ (omega arith) (signed_by _ (is_call n xs) w refl)
  simple_by _ (is_parenthesized p e) w b = alone sum_level (signed (term_of any)) (term_of any) _ (omega arith) (signed_by _ (is_parenthesized p e) w refl)
  simple_by _ (is_set p ms) w b = alone sum_level (signed (term_of any)) (term_of any) _ (omega arith) (signed_by _ (is_set p ms) w refl)
  simple_by _ (is_negated p e) w b = alone sum_level (signed (term_of any)) (term_of any) _ (omega arith) (signed_by _ (is_negated p e) w refl)
  simple_by _ (is_signed s p e) w b = alone sum_level (signed (term_of any)) (term_of any) _ (omega arith) (signed_by _ (is_signed s p e) w refl)
  simple_by _ (is_relation l o p r) w b = absurd cc

  simples : Operands sum_level (simple_of (term_of any))
  simples e w b = simple_by (expr_outline e) (class_of e w) w b

  -- a simple expression, behind which no relation comes
  unrelated : (o : Outline) → ReadsForm (Looser sum_level) limit (simple_of (term_of any)) o → ReadsForm (Looser relation_level) limit (expression_of any) o
  unfolding relation_of
  unrelated o law tokens others h w f =
      of_depth _ (omega arith) (answered _ (law tokens others h w (omega arith)) (says relational_taken _ (misses_relational others f) done))

  related : (f : Expr) (o : RelationalOperator) (pl : Place) (e : Expr)
      → ReadsForm (Looser relation_level) limit (expression_of any) (form.relation (expr_outline f) o pl (expr_outline e))
  unfolding relation_of
  related f o pl e tokens others h w g =
      let x = expr_outline f in
      let y = expr_outline e in
      let bound = and_left (binds sum_level x && binds sum_level y) (x.well && y.well) w in
      let well = and_right (binds sum_level x && binds sum_level y) (x.well && y.well) w in
      let xw = and_left x.well y.well well in
      let yw = and_right x.well y.well well in
      let q = parted x.spelling (of_kind_at (relational_kind o) pl ∷ y.spelling) tokens others h in
      let c = q.2 in
      let next : follows (next_kind q.0) ≡ 1 = follows_first (relational_kind o) c.2 c.3.kind ∙ follows_relational o in
      of_depth _ (omega arith)
      (answered _ (simples f xw (and_left (binds sum_level x) (binds sum_level y) bound) tokens q.0 q.1 xw (omega arith))
      (says relational_taken _ (takes_relational o pl c.2 c.3)
      (answered _ (simples e yw (and_right (binds sum_level x) (binds sum_level y) bound) c.1 others c.4 yw (omega arith)) done)))

  expression_by : (o : Outline) → IsExpr o → o.well ≡ true → ReadsForm (Looser relation_level) limit (expression_of any) o
  expression_by _ (is_chain f o p e ls) w = by (level_of o)
    where
      by : IsLevel o → ReadsForm (Looser relation_level) limit (expression_of any) (form.chain (expr_outline f) (form.link o p (expr_outline e) ∷ map
          link_outline ls))
      by (adds at) = unrelated _ (simple_by _ (is_chain f o p e ls) w (is_at_least sum_level (operator_level o) (omega arith)))
      by (multiplies at) = unrelated _ (simple_by _ (is_chain f o p e ls) w (is_at_least sum_level (operator_level o) (omega arith)))
  expression_by _ (is_number v p) w = unrelated _ (simple_by _ (is_number v p) w refl)
  expression_by _ (is_name n) w = unrelated _ (simple_by _ (is_name n) w refl)
  expression_by _ (is_component n ss es) w = unrelated _ (simple_by _ (is_component n ss es) w refl)
  expression_by _ (is_string t p) w = unrelated _ (simple_by _ (is_string t p) w refl)
  expression_by _ (is_call n xs) w = unrelated _ (simple_by _ (is_call n xs) w refl)
  expression_by _ (is_parenthesized p e) w = unrelated _ (simple_by _ (is_parenthesized p e) w refl)
  expression_by _ (is_set p ms) w = unrelated _ (simple_by _ (is_set p ms) w refl)
  expression_by _ (is_negated p e) w = unrelated _ (simple_by _ (is_negated p e) w refl)
  expression_by _ (is_signed s p e) w = unrelated _ (simple_by _ (is_signed s p e) w refl)
  expression_by _ (is_relation l o p r) w = related l o p r

  pub expressions : (e : Expr) → (expr_outline e).well ≡ true → ReadsForm (Looser relation_level) limit (expression_of any) (expr_outline e)
  expressions e w = expression_by (expr_outline e) (class_of e w) w

  pub factors_read : Operands factor_level any
  factors_read = factors

-- ---- below so many levels

too_deep_reads : (e : Expr) → InnerReads zero too_deep (expr_outline e)
too_deep_reads e at tokens others h w f = stops (omega arith) at tokens refl

abbrev Factors : ℕ → Type 0
Factors levels =
    (e : Expr) → (expr_outline e).well ≡ true → binds factor_level (expr_outline e) ≡ true → ReadsForm (Looser factor_level) levels (factor levels)
    (expr_outline e)

abbrev Expressions : ℕ → Type 0
Expressions levels = (e : Expr) → (expr_outline e).well ≡ true → ReadsForm (Looser relation_level) levels (expression levels) (expr_outline e)

all_read : (levels : ℕ) → Factors levels × Expressions levels
all_read zero = (
  factors_read zero too_deep too_deep (below_no_more zero) too_deep_reads (factor_no_more zero) (term_no_more zero)
      (λ e b at tokens others h w f. stops (omega arith) at tokens refl),
  expressions zero too_deep too_deep (below_no_more zero) too_deep_reads (factor_no_more zero) (term_no_more zero)
      (λ e b at tokens others h w f. stops (omega arith) at tokens refl),
)
all_read (suc levels) =
    let below = all_read levels in
    let nested_reads : (e : Expr) → InnerReads (suc levels) (expression_below (suc levels)) (expr_outline e) =
    λ e at tokens others h w f. deeper (below.1 e w tokens others h w f) in
    let operand_reads : (e : Expr) → binds factor_level (expr_outline e) ≡ true → (at : Option Place)
    → ReadsAs (Looser factor_level) (suc levels) (factor_below (suc levels) at) (expr_outline e) (1 + (expr_outline e).depth) (expr_outline e).spelling
    (expr_outline e).well =
    λ e b at tokens others h w f. deeper (below.0 e w b tokens others h w f) in (
      factors_read (suc levels) (expression_below (suc levels)) (factor_below (suc levels)) (below_no_more (suc levels)) nested_reads (factor_no_more (suc
          levels))
          (term_no_more (suc levels)) operand_reads,
      expressions (suc levels) (expression_below (suc levels)) (factor_below (suc levels)) (below_no_more (suc levels)) nested_reads
          (factor_no_more (suc levels)) (term_no_more (suc levels)) operand_reads,
    )

pub expression_read : (levels : ℕ) (e : Expr) → ReadsForm (Looser relation_level) levels (expression levels) (expr_outline e)
expression_read levels e tokens others h w f = (all_read levels).1 e w tokens others h w f

pub below_read : (levels : ℕ) (e : Expr) → InnerReads levels (expression_below levels) (expr_outline e)
below_read zero e at tokens others h w f = too_deep_reads e at tokens others h w f
below_read (suc levels) e at tokens others h w f = deeper (expression_read levels e tokens others h w f)
