-- Worked rows: what a few lists of tokens are read as, and where the reading of others stops. Each token stands at a
-- place of its own.
use Rattle.std.proofs.Common.{◌≡◌, ℕ, List, [], ◌∷◌, Some, Ok, Err, refl}
use Rattle.std.specs.Borrow.{Bor}
use Rattle.place.specs.declared.Place.{Place}
use Rattle.lexer.specs.declared.token.Kind.{Kind}
use Rattle.lexer.specs.declared.token.Kind.TheVariants as kind
use Rattle.lexer.specs.declared.token.Word.{Word}
use Rattle.lexer.specs.declared.token.Word.TheVariants as word
use Rattle.lexer.specs.declared.token.Symbol.{Symbol}
use Rattle.lexer.specs.declared.token.Symbol.TheVariants as symbol
use Rattle.lexer.specs.declared.token.Token.{Token}
use Rattle.syntax_tree.specs.declared.RelationalOperator.TheVariants as relational
use Rattle.reading.specs.declared.refusal.Refusal.TheVariants.{NoProgram, TooDeep}
use Rattle.reading.specs.Lexemes.{of_text}
use Rattle.reading.specs.Outline.{Outline}
use Rattle.reading.specs.Outline as form
use Rattle.reading.specs.Reading.{taken, text_taken, number_taken, sign_taken, operator_taken, relational_taken, loop}
use Rattle.reading.specs.Reading.{separated, led_turn}
use Rattle.reading.specs.Expressions.{expression, index, unjoined, selectors, actuals, named, parenthesized, any_factor, link_turn, chain, signed, relation_of}
use Rattle.reading.specs.Expressions.{member, members, set}
use Rattle.reading.specs.Statements.{statement, guard, alternative, conditional}

module _ (a b c d e f g : Place) (t : Bor (List ℕ)) where
  at : Kind → Place → Token
  at k p = record { kind = k; text = t; place = p }

  word_at : Word → Place → Token
  word_at w = at (kind.Word w)

  symbol_at : Symbol → Place → Token
  symbol_at s = at (kind.Symbol s)

  x_at : Place → Token
  x_at = at kind.Identifier

  x : Place → Outline
  x p = form.named (of_text kind.Identifier t.now p)

  -- an `else` belongs to the nearest `if`
  inner_takes_else : statement 3 (word_at word.If a ∷ x_at b ∷ word_at word.Then c ∷ word_at word.If d ∷ x_at e ∷ word_at word.Then f ∷ word_at word.Else g
      ∷ [])
      ≡ Ok (form.conditional a (x b) (form.with_else d (x e) form.empty form.empty), [])
  unfolding at word_at x_at x taken text_taken number_taken sign_taken operator_taken
      relational_taken loop index unjoined selectors actuals named any_factor link_turn chain
      signed relation_of
      guard alternative conditional
  inner_takes_else = refl

  -- a relation has one operator
  one_relation : expression 0 (x_at a ∷ symbol_at symbol.Less b ∷ x_at c ∷ symbol_at symbol.Less d ∷ [])
      ≡ Ok (form.relation (x a) relational.Less b (x c), symbol_at symbol.Less d ∷ [])
  unfolding at symbol_at x_at x taken text_taken number_taken sign_taken operator_taken
      relational_taken loop index unjoined selectors actuals named any_factor link_turn
      chain signed relation_of
  one_relation = refl

  -- a fault stands at the token with which nothing goes on, and not at the one before it
  stops_there : expression 1 (symbol_at symbol.OpenParenthesis a ∷ x_at b ∷ symbol_at symbol.Semicolon c ∷ [])
      ≡ Err (NoProgram, symbol_at symbol.Semicolon c ∷ [])
  unfolding at symbol_at x_at x taken text_taken number_taken sign_taken operator_taken
      relational_taken loop index unjoined selectors actuals named parenthesized any_factor
      link_turn chain
      signed relation_of
  stops_there = refl

  -- parentheses are one level, which is told at the opening one where none is left
  one_level : expression 1 (symbol_at symbol.OpenParenthesis a ∷ x_at b ∷ symbol_at symbol.CloseParenthesis c ∷ []) ≡ Ok (form.parenthesized a (x b), [])
  unfolding at symbol_at x_at x taken text_taken number_taken sign_taken operator_taken
      relational_taken loop index unjoined selectors actuals named parenthesized any_factor
      link_turn chain
      signed relation_of
  one_level = refl

  no_level : expression 0 (symbol_at symbol.OpenParenthesis a ∷ x_at b ∷ symbol_at symbol.CloseParenthesis c ∷ [])
      ≡ Err (TooDeep (Some a), x_at b ∷ symbol_at symbol.CloseParenthesis c ∷ [])
  unfolding at symbol_at x_at x taken text_taken number_taken sign_taken operator_taken
      relational_taken loop index unjoined selectors actuals named parenthesized any_factor
      link_turn chain
      signed relation_of
  no_level = refl

  -- a set of one member and of a range; each of its members is a level, which is told at its first token
  set_of_two : expression 1
      (symbol_at symbol.OpenBracket a ∷ x_at b ∷ symbol_at symbol.Comma c ∷ x_at d ∷ symbol_at symbol.Range e ∷ x_at f ∷ symbol_at symbol.CloseBracket g ∷ [])
      ≡ Ok (form.set a (form.single (x b) ∷ form.range (x d) (x f) ∷ []), [])
  unfolding at symbol_at x_at x taken text_taken number_taken sign_taken operator_taken
      relational_taken loop separated led_turn index unjoined selectors actuals named member members set parenthesized any_factor
      link_turn chain
      signed relation_of
  set_of_two = refl

  empty_set : expression 0 (symbol_at symbol.OpenBracket a ∷ symbol_at symbol.CloseBracket b ∷ []) ≡ Ok (form.set a [], [])
  unfolding at symbol_at x_at x taken text_taken number_taken sign_taken operator_taken
      relational_taken loop separated led_turn index unjoined selectors actuals named member members set parenthesized any_factor
      link_turn chain
      signed relation_of
  empty_set = refl

  no_level_in_set : expression 0 (symbol_at symbol.OpenBracket a ∷ x_at b ∷ symbol_at symbol.CloseBracket c ∷ [])
      ≡ Err (TooDeep (Some b), x_at b ∷ symbol_at symbol.CloseBracket c ∷ [])
  unfolding at symbol_at x_at x taken text_taken number_taken sign_taken operator_taken
      relational_taken loop separated led_turn index unjoined selectors actuals named member members set parenthesized any_factor
      link_turn chain
      signed relation_of
  no_level_in_set = refl
