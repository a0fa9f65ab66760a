-- What begins with a name: a component of a variable, a call, or a name alone.
use Rattle.std.proofs.Common.{◌≡◌, ℕ, zero, suc, Bool, true, false, if◌then◌else◌, List, [], ◌∷◌, length, map, Option, Some, None, Ok, refl, sym, ap}
use Rattle.std.proofs.Common.{arith, not, Vec, vec_len, ◌∙◌}
use Rattle.std.specs.Bool.{◌==◌}
use Rattle.std.proofs.lemmas.Bool.Decides.{nat_tests}
use Rattle.std.proofs.lemmas.Grind.{common_steps}
use Rattle.std.specs.declared.alloc.Global.{Global}
use Rattle.lexer.specs.declared.token.Token.{Token}
use Rattle.lexer.specs.declared.token.Kind.{Kind}
use Rattle.lexer.specs.declared.token.Kind.TheVariants as kind
use Rattle.lexer.specs.declared.token.Symbol.TheVariants as symbol
use Rattle.lexer.specs.declared.token.Word.TheVariants as word
use Rattle.syntax_tree.specs.declared.Selector.{Selector}
use Rattle.syntax_tree.specs.declared.Selector.TheVariants.{Index, Field}
use Rattle.reading.specs.Lexemes.{Lexeme}
use Rattle.reading.specs.Outline as form
use Rattle.reading.specs.Outline.{Outline, has_items}
use Rattle.reading.specs.Reading.{Reading, and_then, choose, pure, ◌>>=◌, peek, next_kind, is_kind, on, expect_name, number_taken, text_taken}
use Rattle.reading.specs.Reading.{symbol_taken, word_taken}
use Rattle.reading.specs.Trees.{selector_rows}
use Rattle.reading.specs.Expressions.{Below, actuals, any_factor, expression_below, factor, factor_below, named, negated, parenthesized, selectors, set}

-- ---- selectors, or none

pub has_rows : (within : Bool) (chosen : List Selector) (indexes : List Outline) → has_items chosen ≡ true
    → has_items (selector_rows within chosen indexes).0 ≡ true
has_rows within [] indexes some = absurd cc
has_rows within (Field name ∷ chosen) indexes some = refl
has_rows within (Index place joined ∷ chosen) [] some = refl
has_rows within (Index place true ∷ chosen) (i ∷ indexes) some = refl
has_rows within (Index place false ∷ chosen) (i ∷ indexes) some = refl

pub no_rows : (within : Bool) (chosen : List Selector) (indexes : List Outline) → has_items chosen ≡ false
    → has_items (selector_rows within chosen indexes).0 ≡ false
no_rows within [] [] none = refl
no_rows within [] (i ∷ indexes) none = refl
no_rows within (one ∷ chosen) indexes none = absurd cc

-- ---- lists that are empty or aren't

pub has_mapped : {A B : Type 0} (f : A → B) (xs : List A) {b : Bool} → has_items xs ≡ b → has_items (map f xs) ≡ b
has_mapped f [] e = e
has_mapped f (x ∷ xs) e = e

items_by : {A : Type 0} (xs : List A) (empty : Bool) → empty ≡ (length xs == 0) → has_items xs ≡ not empty
items_by [] empty e = ap not (sym e)
items_by (x ∷ xs) empty e = grind (arith, common_steps, nat_tests)

pub empty_items : {A : Type 0} (v : Vec A Global) {empty : Bool} → empty ≡ (vec_len v == 0) → empty ≡ true → has_items v.items ≡ false
empty_items v {empty} e is = items_by v.items empty (e ∙ ap (λ n. n == 0) v.ok.0) ∙ ap not is

pub filled_items : {A : Type 0} (v : Vec A Global) {empty : Bool} → empty ≡ (vec_len v == 0) → empty ≡ false → has_items v.items ≡ true
filled_items v {empty} e is = items_by v.items empty (e ∙ ap (λ n. n == 0) v.ok.0) ∙ ap not is

-- ---- a name and what stands behind it

module _ (inner : Below) (tokens behind others : List Token) (name : Lexeme) (begins : expect_name tokens ≡ Ok (name, behind))
    (found : List Outline × Outline) (selected : selectors inner behind ≡ Ok (found, others)) where
  -- what is made where there are no selectors
  abbrev without : Reading Outline
  without = actuals inner >>= (λ given. pure (if has_items given then form.call name given else form.named name))

  by_rows : Bool → Reading Outline
  by_rows b = if b then pure (form.component name found) else without

  named_is : (b : Bool) → has_items found.0 ≡ b → named inner tokens ≡ by_rows b others
  unfolding named by_rows
  named_is b e =
      ap (λ o. and_then o (λ n. selectors inner >>= (λ rows. if has_items rows.0 then pure (form.component n rows) else (actuals inner >>= (λ given. pure (if
      has_items given then form.call n given else form.named n)))))) begins
      ∙ ap (λ o. and_then o (λ rows. if has_items rows.0 then pure (form.component name rows) else without)) selected
      ∙ ap (λ c. by_rows c others) e

  pub component_named : has_items found.0 ≡ true → named inner tokens ≡ Ok (form.component name found, others)
  unfolding by_rows
  component_named some = named_is true some

  pub call_named : has_items found.0 ≡ false → (given : List Outline) (rest : List Token) → actuals inner others ≡ Ok (given, rest) → has_items given ≡ true
      → named inner tokens ≡ Ok (form.call name given, rest)
  unfolding by_rows
  call_named none given rest e some =
      named_is false none
      ∙ ap (λ o. and_then o (λ given. pure (if has_items given then form.call name given else form.named name))) e
      ∙ ap (λ b. Ok (if b then form.call name given else form.named name, rest)) some

  pub alone_named : has_items found.0 ≡ false → (given : List Outline) (rest : List Token) → actuals inner others ≡ Ok (given, rest) → has_items given ≡ false
      → named inner tokens ≡ Ok (form.named name, rest)
  unfolding by_rows
  alone_named none given rest e empty =
      named_is false none
      ∙ ap (λ o. and_then o (λ given. pure (if has_items given then form.call name given else form.named name))) e
      ∙ ap (λ b. Ok (if b then form.call name given else form.named name, rest)) empty

-- ---- a factor that begins with a name

pub factor_is : (levels : ℕ) → factor levels ≡ any_factor (expression_below levels) (factor_below levels)
factor_is zero = refl
factor_is (suc levels) = refl

module _ (inner operand : Below) where
  by_next : Option Kind → Reading Outline
  by_next next = if is_kind kind.Identifier next then named inner
      else on (word_taken word.Not) (negated inner operand) (on (symbol_taken symbol.OpenBracket) (set inner) (parenthesized inner))

  by_text : Option Lexeme → Reading Outline
  by_text found = choose found (λ text. pure (form.string text)) (peek >>= by_next)

  any_named : (tokens a b : List Token) → number_taken tokens ≡ Ok (None, a) → text_taken kind.Text a ≡ Ok (None, b) → next_kind b ≡ Some kind.Identifier
      → any_factor inner operand tokens ≡ named inner b
  unfolding any_factor by_next by_text
  any_named tokens a b no_number no_text name =
      ap (λ o. and_then o (λ found. choose found (λ n. pure (form.number n.0 n.1)) (text_taken kind.Text >>= by_text))) no_number
      ∙ ap (λ o. and_then o by_text) no_text
      ∙ ap (λ next. by_next next b) name

pub factor_named : (levels : ℕ) (tokens a b : List Token) → number_taken tokens ≡ Ok (None, a) → text_taken kind.Text a ≡ Ok (None, b)
    → next_kind b ≡ Some kind.Identifier → factor levels tokens ≡ named (expression_below levels) b
factor_named levels tokens a b no_number no_text name =
    ap (λ f. f tokens) (factor_is levels) ∙ any_named (expression_below levels) (factor_below levels) tokens a b no_number no_text name
