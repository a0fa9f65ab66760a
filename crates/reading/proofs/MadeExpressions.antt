-- The rules of expressions make what is spelled by the tokens that they take, well formed and no deeper than allowed.
use Rattle.std.proofs.Common.{◌≡◌, ℕ, zero, suc, ◌≤◌, Bool, true, false, ◌&&◌, nat_eq, if◌then◌else◌, List, [], ◌∷◌}
use Rattle.std.proofs.Common.{Option, Some, refl, sym, subst, arith}
use Rattle.std.proofs.lemmas.Bool.{eq-eqb, eqb-true}
use Rattle.place.specs.declared.Place.{Place}
use Rattle.lexer.specs.declared.token.Kind.TheVariants as kind
use Rattle.lexer.specs.declared.token.Symbol.TheVariants as symbol
use Rattle.lexer.specs.declared.token.Word.TheVariants as word
use Rattle.lexer.specs.declared.token.Token.{Token}
use Rattle.syntax_tree.specs.declared.Operator.{Operator}
use Rattle.reading.specs.Lexemes.{Lexeme, Reads, symbol_at, word_at, of_kind_at, sign_kind, operator_kind, relational_kind}
use Rattle.reading.specs.Notation as shape
use Rattle.reading.specs.Outline as form
use Rattle.reading.specs.Outline.{Outline, ◌⧺◌, kept, nested, only_if, binding, binds, has_items, row_then, row, in_parentheses, are_of_level, operator_level}
use Rattle.reading.specs.Outline.{relation_level, sum_level, signed_level, product_level, factor_level, first_level, operand_level}
use Rattle.reading.specs.Reading.{Reading, too_deep, is_kind}
use Rattle.reading.specs.Expressions.{Below, index, unjoined, selector, selectors, actual, actuals, named, parenthesized, negated, any_factor, link_turn, chain}
use Rattle.reading.specs.Expressions.{member, members, set}
use Rattle.reading.specs.Expressions.{term_of, signed, simple_of, relation_of, expression_of, factor, expression, expression_below}
use Rattle.reading.proofs.Makes.{Makes, thence, gives, deep_makes, weaker, expect_makes, name_makes, number_makes, text_makes, sign_makes, operator_makes}
use Rattle.reading.proofs.Makes.{relational_makes}
use Rattle.reading.proofs.Loops.{Turned, loop_makes}
use Rattle.reading.proofs.Tests.{and_true, at_least, is_at_least}
use Rattle.reading.proofs.Good.{Good, ◌⊕◌, none_good, kept_good, mark_good, form_good, nested_form, nested_good, if_good, binding_good}
use Rattle.reading.proofs.Good.{nested_before, nested_behind, nested_both, looks_here, looks_ahead, either_here, either_kind, if_makes, listed_makes}
use Rattle.reading.proofs.Good.{parenthesized_good, perhaps_good}

-- an operand of at least this level
pub record Operand (level limit : ℕ) (tokens : List Token) (o : Outline) (others : List Token) : Type 0 where
  pub good : Good limit tokens o others
  pub binding : binds level o ≡ true

pub looser : {limit level : ℕ} {a b : List Token} {o : Outline} (less : ℕ) → less ≤ level → Operand level limit a o b → Operand less limit a o b
looser {limit} {level} {a} {b} {o} less h x = record {
  good = x.good;
  binding = let m = at_least level o.level x.binding in is_at_least less o.level (omega arith);
}

abbrev pub NestsIn : ℕ → Below → Type 0
NestsIn limit inner = (at : Option Place) (tokens : List Token) → Makes (inner at) tokens (λ o others. Good limit tokens (nested o) others)

module _ (limit : ℕ) (inner : Below) (nests : NestsIn limit inner) where
  index_makes : (tokens : List Token) → Makes (index inner) tokens (λ o others. Good limit tokens (nested o) others)
  unfolding index
  index_makes tokens = looks_here (λ at. nests at tokens)

  -- selectors up to what ends them
  pub record Selected (within : Bool) (tokens : List Token) (found : List Outline × Outline) (others : List Token) : Type 0 where
    pub good : Good limit tokens (row_then found.0 found.1) others
    pub last : has_items found.0 ≡ false → found.1 ≡ form.closing within

  selected_more : {within : Bool} {a b c : List Token} {next : Bool} {found : List Outline × Outline} (one : Outline) → Good limit a one b → Selected next b
      found c
      → Selected within a (one ∷ found.0, found.1) c
  selected_more one g h = record { good = g ⊕ h.good; last = λ e. absurd cc }

  unjoined_makes : (within : Bool) (start tokens : List Token) → Good limit start (form.closing within) tokens
      → Makes (unjoined inner within) tokens (Turned (selector inner) Selected within start)
  unfolding unjoined
  unjoined_makes within start tokens c =
      either_kind (kind.Symbol symbol.OpenBracket) tokens
      (λ place a r. thence (index_makes a) λ i b g.
      gives (λ (found : List Outline × Outline) rest others. selected_more (form.index within place i)
      (c ⊕ form_good shape.index_selector (kept_good (symbol_at symbol.OpenBracket place) r ⊕ g)) others))
      (λ _. either_kind (kind.Symbol symbol.Period) tokens
      (λ place a r. thence (name_makes a) λ name b n.
      gives (λ (found : List Outline × Outline) rest others. selected_more (form.field within name)
      (c ⊕ (mark_good symbol.Period place r ⊕ form_good shape.field_selector (kept_good name n))) others))
      (λ _. gives (record { good = c; last = λ e. refl })))

  selector_makes : (within : Bool) (tokens : List Token) → Makes (selector inner within) tokens (Turned (selector inner) Selected within tokens)
  selector_makes false tokens = unjoined_makes false tokens tokens none_good
  selector_makes true tokens =
      either_kind (kind.Symbol symbol.Comma) tokens
      (λ place a r. thence (index_makes a) λ i b g.
      gives (λ (found : List Outline × Outline) rest others. selected_more (form.joined_index true place i)
      (if_good true refl (form_good shape.index_selector (kept_good (symbol_at symbol.Comma place) r ⊕ g))) others))
      (λ _. thence (expect_makes (kind.Symbol symbol.CloseBracket) tokens) λ place a r.
      unjoined_makes true tokens a (mark_good symbol.CloseBracket place r))

  pub selectors_makes : (tokens : List Token) → Makes (selectors inner) tokens (Selected false tokens)
  unfolding selectors
  selectors_makes tokens = loop_makes (selector inner) Selected selector_makes false tokens

  actual_makes : (tokens : List Token) → Makes (actual inner) tokens (Good limit tokens)
  unfolding actual
  actual_makes tokens =
      thence (index_makes tokens) λ value a g.
      either_kind (kind.Symbol symbol.Colon) a
      (λ place b r. thence (index_makes b) λ width c h.
      gives (nested_form (value ⧺ form.mark symbol.Colon ⧺ width) shape.actual
      (nested_both value (form.mark symbol.Colon ⧺ width) g (nested_before width (mark_good symbol.Colon place r) refl h))))
      (λ _. gives (nested_form value shape.actual g))

  pub actuals_makes : (tokens : List Token) → Makes (actuals inner) tokens (λ found others. Good limit tokens (in_parentheses symbol.Comma found) others)
  unfolding actuals
  actuals_makes tokens =
      either_kind (kind.Symbol symbol.OpenParenthesis) tokens
      (λ place a r. thence (listed_makes symbol.Comma limit (actual inner) actual_makes a) λ found b g.
      thence (expect_makes (kind.Symbol symbol.CloseParenthesis) b) λ end c e.
      gives (parenthesized_good symbol.Comma found g.1
      (mark_good symbol.OpenParenthesis place r ⊕ (g.0 ⊕ mark_good symbol.CloseParenthesis end e))))
      (λ _. gives none_good)

  pub member_makes : (tokens : List Token) → Makes (member inner) tokens (Good limit tokens)
  unfolding member
  member_makes tokens =
      thence (index_makes tokens) λ first a g.
      either_kind (kind.Symbol symbol.Range) a
      (λ place b r. thence (index_makes b) λ last c h.
      gives (nested_form (first ⧺ form.mark symbol.Range ⧺ last) shape.member
      (nested_both first (form.mark symbol.Range ⧺ last) g (nested_before last (mark_good symbol.Range place r) refl h))))
      (λ _. gives (nested_form first shape.member g))

  members_makes : (tokens : List Token) → Makes (members inner) tokens
      (λ found others. Good limit tokens (form.perhaps symbol.Comma found ⧺ form.mark symbol.CloseBracket) others)
  unfolding members
  members_makes tokens =
      either_kind (kind.Symbol symbol.CloseBracket) tokens
      (λ place a r. gives (none_good ⊕ mark_good symbol.CloseBracket place r))
      (λ _. thence (listed_makes symbol.Comma limit (member inner) member_makes tokens) λ found a g.
      thence (expect_makes (kind.Symbol symbol.CloseBracket) a) λ end b e.
      gives (perhaps_good symbol.Comma found g.1 g.0 ⊕ mark_good symbol.CloseBracket end e))

  -- a factor, by how it is made
  pub is_factor : {a b : List Token} {o : Outline} → Good limit a o b → binds factor_level o ≡ true → Operand factor_level limit a o b
  is_factor g h = record { good = g; binding = h }

  -- where no selectors stand
  pub none_selected : {a b : List Token} (found : List Outline × Outline) → Selected false a found b → has_items found.0 ≡ false → a ≡ b
  none_selected {a} {b} ([], last) h e = let none : last ≡ form.nothing = h.last refl in subst (λ (o : Outline). Reads a o.spelling b) none h.good.spelled
  none_selected (one ∷ others, last) h e = absurd cc

  called : {a b c : List Token} (name : Lexeme) (found : List Outline) → Reads a (name ∷ []) b → Good limit b (in_parentheses symbol.Comma found) c
      → Operand factor_level limit a (if has_items found then form.call name found else form.named name) c
  called {a} {b} {c} name [] r g =
      is_factor (form_good shape.name (kept_good name (subst (λ t. Reads a (name ∷ []) t) (let e : b ≡ c = g.spelled in e) r))) refl
  called name (one ∷ others) r g = is_factor (if_good true refl (form_good shape.function_call (kept_good name r ⊕ g))) refl

  pub named_makes : (tokens : List Token) → Makes (named inner) tokens (Operand factor_level limit tokens)
  unfolding named
  named_makes tokens =
      thence (name_makes tokens) λ name a r.
      thence (selectors_makes a) λ found b s.
      if_makes (has_items found.0)
      (λ some. gives (is_factor (if_good (has_items found.0) some (form_good shape.component (kept_good name r ⊕ s.good))) refl))
      (λ none. thence (actuals_makes b) λ given c g.
      gives (called name given (subst (λ t. Reads tokens (name ∷ []) t) (none_selected found s none) r) g))

  parenthesized_makes : (tokens : List Token) → Makes (parenthesized inner) tokens (Operand factor_level limit tokens)
  unfolding parenthesized
  parenthesized_makes tokens =
      thence (expect_makes (kind.Symbol symbol.OpenParenthesis) tokens) λ place a r.
      thence (nests (Some place) a) λ e b g.
      thence (expect_makes (kind.Symbol symbol.CloseParenthesis) b) λ end c s.
      gives (is_factor (nested_form (kept (symbol_at symbol.OpenParenthesis place) ⧺ e ⧺ form.mark symbol.CloseParenthesis) shape.parenthesized
      (nested_before (e ⧺ form.mark symbol.CloseParenthesis) (kept_good (symbol_at symbol.OpenParenthesis place) r) refl
      (nested_behind e g refl (mark_good symbol.CloseParenthesis end s)))) refl)

  set_makes : (start tokens : List Token) (place : Place) → Reads start (symbol_at symbol.OpenBracket place ∷ []) tokens
      → Makes (set inner place) tokens (Operand factor_level limit start)
  unfolding set
  set_makes start tokens place r =
      thence (members_makes tokens) λ found a g.
      gives (is_factor (form_good shape.set (kept_good (symbol_at symbol.OpenBracket place) r ⊕ g)) refl)

  module _ (operand : Below)
      (below : (at : Option Place) (tokens : List Token) → Makes (operand at) tokens (λ o others. Good limit tokens (nested o) others × (binds factor_level
      o ≡ true))) where
    negated_if : {a b : List Token} (o : Outline) (test : Bool) → test ≡ true → Good limit a (nested o) b → Good limit a (nested (only_if test o)) b
    negated_if {a} {b} o test is g = record { spelled = g.spelled; well = and_true test o.well is g.well; nests = g.nests }

    negated_makes : (start tokens : List Token) (place : Place) → Reads start (of_kind_at (kind.Word word.Not) place ∷ []) tokens
        → Makes (negated inner operand place) tokens (Operand factor_level limit start)
    unfolding negated
    negated_makes start tokens place r =
        thence (looks_here (λ at. below at tokens)) λ o a g.
        gives (is_factor (negated_if (form.form shape.negated (kept (word_at word.Not place) ⧺ o)) (binds factor_level o) g.1
        (nested_form (kept (word_at word.Not place) ⧺ o) shape.negated (nested_before o (kept_good (word_at word.Not place) r) refl g.0))) refl)

    pub factor_makes : (tokens : List Token) → Makes (any_factor inner operand) tokens (Operand factor_level limit tokens)
    unfolding any_factor
    factor_makes tokens =
        either_here (number_makes tokens) (λ mid q. q)
        (λ n a r. gives (is_factor (form_good shape.number (kept_good (of_kind_at (kind.Number n.0) n.1) r)) refl))
        (λ _. either_here (text_makes kind.Text tokens) (λ mid q. q)
        (λ l a r. gives (is_factor (form_good shape.string (kept_good l r)) refl))
        (λ _. looks_ahead (λ next. if_makes (is_kind kind.Identifier next) (λ _. named_makes tokens)
        (λ _. either_kind (kind.Word word.Not) tokens (λ place a r. negated_makes tokens a place r)
        (λ _. either_kind (kind.Symbol symbol.OpenBracket) tokens (λ place a r. set_makes tokens a place r) (λ _. parenthesized_makes tokens))))))

-- ---- chains

module _ (limit : ℕ) where
  abbrev AreLinks : ℕ → Unit {0} → List Token → List Outline × Unit {0} → List Token → Type 0
  AreLinks level state tokens r others = Good limit tokens (row r.0) others × (are_of_level level r.0 ≡ true)

  link_good : (level : ℕ) {a b c : List Token} (o : Operator × Place) {x : Outline} → operator_level o.0 ≡ level
      → Reads a (of_kind_at (operator_kind o.0) o.1 ∷ []) b → Operand (operand_level level) limit b x c
      → Good limit a (form.link o.0 o.1 x) c
  link_good level o {x} is r g =
      binding_good (operator_level o.0)
      (if_good (binds (operand_level (operator_level o.0)) x) (subst (λ l. binds (operand_level l) x ≡ true) (sym is) g.binding)
      (kept_good (of_kind_at (operator_kind o.0) o.1) r ⊕ g.good))

  links_make : (level : ℕ) (operand : Reading Outline) → ((tokens : List Token) → Makes operand tokens (Operand (operand_level level) limit tokens))
      → (state : Unit {0}) (tokens : List Token) → Makes (link_turn level operand state) tokens (Turned (link_turn level operand) (AreLinks level) state tokens)
  unfolding link_turn
  links_make level operand makes state tokens =
      either_here (operator_makes level tokens) (λ mid q. q)
      (λ o a r. thence (makes a) λ x b g.
      gives (λ (found : List Outline × Unit {0}) rest others. (
        link_good level o r.0 r.1 g ⊕ others.0,
        and_true (nat_eq (operator_level o.0) level) (are_of_level level found.0) (eq-eqb (operator_level o.0) level r.0) others.1,
      )))
      (λ _. gives (none_good, refl))

  chain_good : (level : ℕ) {a b c : List Token} {f : Outline} (l : Outline) (ls : List Outline) → Operand (first_level level) limit a f b
      → Good limit b (row (l ∷ ls)) c → are_of_level level (l ∷ ls) ≡ true → Operand level limit a (form.chain f (l ∷ ls)) c
  chain_good level {f = f} l ls first g all =
      let at : level ≡ l.level = sym (eqb-true l.level level (first_of_all (nat_eq l.level level) _ all)) in
      record {
        good = binding_good l.level (if_good (binds (first_level l.level) f && are_of_level l.level (l ∷ ls))
            (subst (λ m. binds (first_level m) f && are_of_level m (l ∷ ls) ≡ true) at
            (and_true (binds (first_level level) f) (are_of_level level (l ∷ ls)) first.binding all))
            (form_good shape.chain (first.good ⊕ g)));
        binding = is_at_least level l.level (let e = at in omega arith);
      }
    where
      first_of_all : (x y : Bool) → x && y ≡ true → x ≡ true
      first_of_all true y h = refl
      first_of_all false y h = absurd cc

  chained : (level : ℕ) {a b c : List Token} {f : Outline} (links : List Outline) → Operand (first_level level) limit a f b
      → Good limit b (row links) c → are_of_level level links ≡ true → Operand level limit a (form.chain f links) c
  chained level {a} {b} {c} {f} [] first g all =
      looser level (omega arith) (subst (λ t. Operand (first_level level) limit a f t) (let e : b ≡ c = g.spelled in e) first)
  chained level (l ∷ ls) first g all = chain_good level l ls first g all

  pub chain_makes : (level : ℕ) (first operand : Reading Outline)
      → ((tokens : List Token) → Makes first tokens (Operand (first_level level) limit tokens))
      → ((tokens : List Token) → Makes operand tokens (Operand (operand_level level) limit tokens))
      → (tokens : List Token) → Makes (chain level first operand) tokens (Operand level limit tokens)
  unfolding chain
  chain_makes level first operand makes each tokens =
      thence (makes tokens) λ f a g.
      thence (loop_makes (link_turn level operand) (AreLinks level) (links_make level operand each) tt a) λ links b h.
      gives (chained level links.0 g h.0 h.1)

  module _ (any : Reading Outline) (any_makes : (tokens : List Token) → Makes any tokens (Operand factor_level limit tokens)) where
    pub term_makes : (tokens : List Token) → Makes (term_of any) tokens (Operand product_level limit tokens)
    term_makes tokens = chain_makes product_level any any any_makes any_makes tokens

    signed_makes : (tokens : List Token) → Makes (signed (term_of any)) tokens (Operand signed_level limit tokens)
    unfolding signed
    signed_makes tokens =
        either_here (sign_makes tokens) (λ mid q. q)
        (λ s a r. thence (term_makes a) λ t b g.
        gives (record {
          good = binding_good signed_level (if_good (binds product_level t) g.binding
              (form_good shape.signed (kept_good (of_kind_at (sign_kind s.0) s.1) r ⊕ g.good)));
          binding = refl;
        }))
        (λ _. weaker (λ o others. looser signed_level (omega arith)) (term_makes tokens))

    simple_makes : (tokens : List Token) → Makes (simple_of (term_of any)) tokens (Operand sum_level limit tokens)
    simple_makes tokens = chain_makes sum_level (signed (term_of any)) (term_of any) signed_makes term_makes tokens

    pub expression_makes : (tokens : List Token) → Makes (expression_of any) tokens (Operand relation_level limit tokens)
    unfolding relation_of
    expression_makes tokens =
        thence (simple_makes tokens) λ left a g.
        either_here (relational_makes a) (λ mid q. q)
        (λ o b r. thence (simple_makes b) λ right c h.
        gives (record {
          good = binding_good relation_level (if_good (binds sum_level left && binds sum_level right)
              (and_true (binds sum_level left) (binds sum_level right) g.binding h.binding)
              (form_good shape.relation (g.good ⊕ (kept_good (of_kind_at (relational_kind o.0) o.1) r ⊕ h.good))));
          binding = refl;
        }))
        (λ _. gives (looser relation_level (omega arith) g))

-- ---- what is made below so many levels

too_deep_nests : (limit : ℕ) → NestsIn limit too_deep
too_deep_nests limit at tokens = deep_makes

pub factor_made : (levels : ℕ) (tokens : List Token) → Makes (factor levels) tokens (Operand factor_level levels tokens)
factor_made zero tokens = factor_makes zero too_deep (too_deep_nests zero) too_deep (λ at t. deep_makes) tokens
factor_made (suc levels) tokens =
    factor_makes (suc levels) (λ at. expression_of (factor levels))
    (λ at t. weaker (λ o others g. nested_good g.good) (expression_makes levels (factor levels) (factor_made levels) t)) (λ at. factor levels)
    (λ at t. weaker (λ o others g. (nested_good g.good, g.binding)) (factor_made levels t)) tokens

pub expression_made : (levels : ℕ) (tokens : List Token) → Makes (expression levels) tokens (Good levels tokens)
expression_made levels tokens = weaker (λ o others g. g.good) (expression_makes levels (factor levels) (factor_made levels) tokens)

pub below_made : (levels : ℕ) → NestsIn levels (expression_below levels)
below_made zero = too_deep_nests zero
below_made (suc levels) = λ at t. weaker (λ o others g. nested_good g) (expression_made levels t)
