-- The forms that the language leaves out, by their tokens: labels and goto, nil and pointers, files.
use Rattle.std.specs.Prelude.{List, Bool, true, false, Option, find}
use Rattle.std.specs.Option.{option_map}
use Rattle.place.specs.declared.Place.{Place}
use Rattle.lexer.specs.declared.token.Kind.{Kind}
use Rattle.lexer.specs.declared.token.Kind.TheVariants as kind
use Rattle.lexer.specs.declared.token.Word.TheVariants as word
use Rattle.lexer.specs.declared.token.Symbol.TheVariants as symbol
use Rattle.lexer.specs.declared.token.Token.{Token}

-- the tokens of forms that the language leaves out
abbrev pub is_left_out : Kind → Bool
is_left_out (kind.Word word.Label) = true
is_left_out (kind.Word word.Goto) = true
is_left_out (kind.Word word.Nil) = true
is_left_out (kind.Word word.File) = true
is_left_out (kind.Symbol symbol.Arrow) = true
is_left_out _ = false

-- where the first of these stands
abbrev pub first_left_out : List Token → Option Place
first_left_out tokens = option_map (λ token. token.place) (find (λ token. is_left_out token.kind) tokens)
