-- What a program makes, by its parts: the list behind its name up to the semicolon, and its block up to the period.
use Rattle.std.proofs.Common.{◌≡◌, ℕ, List, Result, Ok, Err, sym, ap, subst, ◌∙◌}
use Rattle.place.specs.declared.Place.{Place}
use Rattle.lexer.specs.declared.token.Kind.{Kind}
use Rattle.lexer.specs.declared.token.Kind.TheVariants as kind
use Rattle.lexer.specs.declared.token.Symbol.TheVariants as symbol
use Rattle.lexer.specs.declared.token.Token.{Token}
use Rattle.lexer.specs.declared.token.Word.TheVariants as word
use Rattle.reading.specs.declared.refusal.Refusal.{Refusal}
use Rattle.reading.specs.Declarations as read
use Rattle.reading.specs.Lexemes.{Lexeme}
use Rattle.reading.specs.Outline as form
use Rattle.reading.specs.Outline.{Outline}
use Rattle.reading.specs.Reading.{Outcome, Reading, and_then, pure, ◌>>=◌, ◌>>◌, expect, expect_name, expect_symbol, expect_word}
use Rattle.token_cursor.specs.declared.cursor.Cursor.{Cursor}
use Rattle.token_cursor.specs.Cursor.{Makes}
use Rattle.parser.specs.Ended.{IsEnded}

-- what is read behind a token, by what stands before it
module _ {A B : Type 0} (k : Kind) (next : A → Reading B) (x : A) (rest : List Token) where
  behind_token : (a : A) (o : Outcome Place) → and_then o (λ _. pure a) ≡ Ok (x, rest) → and_then o (λ _. next a) ≡ next x rest
  behind_token a (Ok place) e = let is : (a, place.1) ≡ (x, rest) = cc in ap (λ (m : A × List Token). next m.0 m.1) is
  behind_token a (Err stop) e = absurd cc

  token_behind : (o : Outcome A) → and_then o (λ a. expect k >> pure a) ≡ Ok (x, rest) → and_then o (λ a. expect k >> next a) ≡ next x rest
  token_behind (Ok made) e = behind_token made.0 (expect k made.1) e
  token_behind (Err stop) e = absurd cc

-- a program by its block and what stands behind that
abbrev pub to_period : (Outline → Outline) → Outline → Reading Outline
to_period build block = expect_symbol symbol.Period >> (read.finish >> pure (build block))

pub program_is : (levels : ℕ) (tokens a b behind : List Token) (place : Place) (name : Lexeme) (found : List Outline)
    → expect_word word.Program tokens ≡ Ok (place, a) → expect_name a ≡ Ok (name, b)
    → and_then (read.parameters b) (λ names. expect (kind.Symbol symbol.Semicolon) >> pure names) ≡ Ok (found, behind)
    → read.program levels tokens ≡ and_then (read.block levels behind) (to_period (form.program name found))
unfolding read.program
program_is levels tokens a b behind place name found e f g =
    ap (λ o. and_then o (λ _. expect_name >>= (λ n. read.parameters >>= (λ names. expect_symbol symbol.Semicolon >> (read.block levels >>= to_period
    (form.program n names)))))) e
    ∙ ap (λ o. and_then o (λ n. read.parameters >>= (λ names. expect_symbol symbol.Semicolon >> (read.block levels >>= to_period (form.program n names))))) f
    ∙ token_behind (kind.Symbol symbol.Semicolon) (λ names. read.block levels >>= to_period (form.program name names)) found behind (read.parameters b) g

-- what stands before the period was read, and then the period
module _ {T : Type 0} (look : T → Outline) (build : Outline → Outline) (new : Cursor) where
  abbrev built : T → Outline
  built made = build (look made)

  finished : (made : T) (o : Outcome (Unit {0})) (result : Result T Refusal) → Makes (λ same. same) (and_then o (λ _. pure made)) result new
      → Makes built (and_then o (λ _. pure (built made))) result new
  finished made (Ok done) (Ok one) f = let is : (made, done.1) ≡ (one, new.rest.now) = cc in ap (λ (m : T × List Token). Ok (built m.0, m.1)) is
  finished made (Err stop) (Ok one) f = absurd cc
  finished made (Ok done) (Err why) f = λ m. let e : ◌≡◌ {A = Outcome T} (Ok (made, done.1)) (Err (why, new.rest.now)) = f m in absurd cc
  finished made (Err stop) (Err why) f = λ m.
      let e : ◌≡◌ {A = Outcome T} (Err stop) (Err (why, new.rest.now)) = f m in let is : stop ≡ (why, new.rest.now) = cc in ap Err is

  period_read : (made : T) (o : Outcome Place) (result : Result T Refusal)
      → Makes (λ same. same) (and_then (and_then o (λ _. read.finish)) (λ _. pure made)) result new
      → Makes built (and_then o (λ _. read.finish >> pure (built made))) result new
  period_read made (Ok place) result f = finished made (read.finish place.1) result f
  period_read made (Err stop) (Ok one) f = absurd cc
  period_read made (Err stop) (Err why) f = λ m.
      let e : ◌≡◌ {A = Outcome T} (Err stop) (Err (why, new.rest.now)) = f m in let is : stop ≡ (why, new.rest.now) = cc in ap Err is

  pub ended_makes : (outcome : Outcome Outline) (found result : Result T Refusal) (old : Cursor) → Makes look outcome found old
      → IsEnded found old result new → Makes built (and_then outcome (to_period build)) result new
  ended_makes outcome (Ok made) result old h f =
      subst (λ o. Makes built (and_then o (to_period build)) result new) (sym h)
      (period_read made (expect_symbol symbol.Period old.rest.now) result f)
  ended_makes outcome (Err why) result old h (is, same) =
      subst (λ r. Makes built (and_then outcome (to_period build)) r new) (sym is)
      (λ m. ap (λ o. and_then o (to_period build)) (h m) ∙ ap (λ (c : Cursor). Err (why, c.rest.now)) (sym same))
