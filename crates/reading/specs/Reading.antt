-- Reading as a computation: from the tokens that are left, a rule makes something of the first of them, and leaves the
-- others; or it stops, and leaves those from the one on with which no program goes on.
-- It says nothing of what the rules are.
use Rattle.std.specs.Prelude.{ℕ, zero, suc, Bool, true, false, ◌&&◌, if◌then◌else◌, nat_eq, List, [], ◌∷◌, length, map}
use Rattle.std.specs.Prelude.{Option, Some, None, Result, Ok, Err, codes}
use Rattle.std.specs.Char.{to_ascii_lowercase}
use Rattle.std.specs.Cmp.Lexicographic.{pointwise}
use denote.Enum.Bare.{sameb}
use Rattle.place.specs.declared.Place.{Place}
use Rattle.lexer.specs.contracts.token.Word as of_word
use Rattle.lexer.specs.contracts.token.Symbol as of_symbol
use Rattle.lexer.specs.declared.token.Kind.{Kind}
use Rattle.lexer.specs.declared.token.Kind.TheVariants as kind
use Rattle.lexer.specs.declared.token.Word.{Word}
use Rattle.lexer.specs.declared.token.Word.TheVariants as word
use Rattle.lexer.specs.declared.token.Symbol.{Symbol}
use Rattle.lexer.specs.declared.token.Symbol.TheVariants as symbol
use Rattle.lexer.specs.declared.token.Token.{Token}
use Rattle.syntax_tree.specs.declared.Sign.{Sign}
use Rattle.syntax_tree.specs.declared.Sign.TheVariants as sign
use Rattle.syntax_tree.specs.declared.Direction.{Direction}
use Rattle.syntax_tree.specs.declared.Direction.TheVariants as direction
use Rattle.syntax_tree.specs.declared.Operator.{Operator}
use Rattle.syntax_tree.specs.declared.Operator.TheVariants as op
use Rattle.syntax_tree.specs.declared.RelationalOperator.{RelationalOperator}
use Rattle.syntax_tree.specs.declared.RelationalOperator.TheVariants as relational
use Rattle.reading.specs.declared.refusal.Refusal.{Refusal}
use Rattle.reading.specs.declared.refusal.Refusal.TheVariants.{NoProgram, TooDeep}
use Rattle.reading.specs.Lexemes.{Lexeme, of_text}
use Rattle.reading.specs.Outline.{operator_level}

-- what was made and what is left, or why a rule stops and what was left there
abbrev pub Outcome : Type 0 → Type 0
Outcome A = Result (A × List Token) (Refusal × List Token)

abbrev pub Reading : Type 0 → Type 0
Reading A = List Token → Outcome A

abbrev pub and_then : {A B : Type 0} → Outcome A → (A → Reading B) → Outcome B
and_then (Ok made) f = f made.0 made.1
and_then (Err stop) f = Err stop

infixl 10 ◌>>=◌
abbrev pub ◌>>=◌ : {A B : Type 0} → Reading A → (A → Reading B) → Reading B
p >>= f = λ tokens. and_then (p tokens) f

infixl 10 ◌>>◌
abbrev pub ◌>>◌ : {A B : Type 0} → Reading A → Reading B → Reading B
p >> q = p >>= (λ _. q)

abbrev pub pure : {A : Type 0} → A → Reading A
pure a = λ tokens. Ok (a, tokens)

-- no program goes on
abbrev pub refuse : {A : Type 0} → Reading A
refuse = λ tokens. Err (NoProgram, tokens)

-- the nesting passes the limit at a place
abbrev pub too_deep : {A : Type 0} → Option Place → Reading A
too_deep at = λ tokens. Err (TooDeep at, tokens)

-- ---- the next token

abbrev pub next_kind : List Token → Option Kind
next_kind [] = None
next_kind (token ∷ others) = Some token.kind

abbrev pub next_place : List Token → Option Place
next_place [] = None
next_place (token ∷ others) = Some token.place

abbrev pub peek : Reading (Option Kind)
peek = λ tokens. Ok (next_kind tokens, tokens)

-- the place of the next token
abbrev pub here : Reading (Option Place)
here = λ tokens. Ok (next_place tokens, tokens)

abbrev pub take_if : {A : Type 0} → Option A → Token → List Token → Outcome (Option A)
take_if (Some a) token others = Ok (Some a, others)
take_if None token others = Ok (None, token ∷ others)

-- the next token, if it is one of which a test makes something
abbrev pub token_by : {A : Type 0} → (Token → Option A) → Reading (Option A)
token_by test [] = Ok (None, [])
token_by test (token ∷ others) = take_if (test token) token others

abbrev pub same_kind : Kind → Kind → Bool
same_kind (kind.Word a) (kind.Word b) = sameb of_word.the_type a b
same_kind (kind.Symbol a) (kind.Symbol b) = sameb of_symbol.the_type a b
same_kind (kind.Number a) (kind.Number b) = nat_eq a b
same_kind kind.Identifier kind.Identifier = true
same_kind kind.Text kind.Text = true
same_kind a b = false

-- the place of the next token, if it is of a kind, which is taken
unfoldable pub taken : Kind → Reading (Option Place)
taken k = token_by (λ token. if same_kind token.kind k then Some token.place else None)

abbrev pub word_taken : Word → Reading (Option Place)
word_taken w = taken (kind.Word w)

abbrev pub symbol_taken : Symbol → Reading (Option Place)
symbol_taken s = taken (kind.Symbol s)

-- the next token with its text, if it is an identifier or a string
unfoldable pub text_taken : Kind → Reading (Option Lexeme)
text_taken k =
    token_by (λ token. if same_kind token.kind k then Some (of_text k token.text.now token.place) else None)

abbrev pub number_in : Kind → Place → Option (ℕ × Place)
number_in (kind.Number value) place = Some (value, place)
number_in _ place = None

unfoldable pub number_taken : Reading (Option (ℕ × Place))
number_taken = token_by (λ token. number_in token.kind token.place)

abbrev pub sign_in : Kind → Place → Option (Sign × Place)
sign_in (kind.Symbol symbol.Plus) place = Some (sign.Plus, place)
sign_in (kind.Symbol symbol.Minus) place = Some (sign.Minus, place)
sign_in _ place = None

unfoldable pub sign_taken : Reading (Option (Sign × Place))
sign_taken = token_by (λ token. sign_in token.kind token.place)

abbrev pub direction_in : Kind → Option Direction
direction_in (kind.Word word.To) = Some direction.To
direction_in (kind.Word word.Downto) = Some direction.DownTo
direction_in _ = None

unfoldable pub direction_taken : Reading (Option Direction)
direction_taken = token_by (λ token. direction_in token.kind)

abbrev pub operator_in : Kind → Option Operator
operator_in (kind.Symbol symbol.Plus) = Some op.Plus
operator_in (kind.Symbol symbol.Minus) = Some op.Minus
operator_in (kind.Word word.Or) = Some op.Or
operator_in (kind.Symbol symbol.Times) = Some op.Times
operator_in (kind.Word word.Div) = Some op.Div
operator_in (kind.Word word.Mod) = Some op.Mod
operator_in (kind.Word word.And) = Some op.And
operator_in _ = None

abbrev pub of_level : ℕ → Option Operator → Place → Option (Operator × Place)
of_level level None place = None
of_level level (Some o) place = if nat_eq (operator_level o) level then Some (o, place) else None

-- an adding or multiplying operator, of a level
unfoldable pub operator_taken : ℕ → Reading (Option (Operator × Place))
operator_taken level = token_by (λ token. of_level level (operator_in token.kind) token.place)

abbrev pub relational_in : Kind → Place → Option (RelationalOperator × Place)
relational_in (kind.Symbol symbol.Equal) place = Some (relational.Equal, place)
relational_in (kind.Symbol symbol.NotEqual) place = Some (relational.NotEqual, place)
relational_in (kind.Symbol symbol.Less) place = Some (relational.Less, place)
relational_in (kind.Symbol symbol.Greater) place = Some (relational.Greater, place)
relational_in (kind.Symbol symbol.LessOrEqual) place = Some (relational.LessOrEqual, place)
relational_in (kind.Symbol symbol.GreaterOrEqual) place = Some (relational.GreaterOrEqual, place)
relational_in (kind.Word word.In) place = Some (relational.In, place)
relational_in _ place = None

unfoldable pub relational_taken : Reading (Option (RelationalOperator × Place))
relational_taken = token_by (λ token. relational_in token.kind token.place)

-- the directive `forward`, in small or capital letters (6.1.4)
abbrev pub is_forward : Token → Bool
is_forward token =
    same_kind token.kind kind.Identifier
    && pointwise nat_eq (map to_ascii_lowercase token.text.now) (codes "forward")

unfoldable pub forward_taken : Reading (Option (Unit {0}))
forward_taken = token_by (λ token. if is_forward token then Some tt else None)

-- ---- rules

abbrev pub or_refuse : {A : Type 0} → Option A → Reading A
or_refuse (Some a) = pure a
or_refuse None = refuse

abbrev pub expect : Kind → Reading Place
expect k = taken k >>= or_refuse

abbrev pub expect_word : Word → Reading Place
expect_word w = expect (kind.Word w)

abbrev pub expect_symbol : Symbol → Reading Place
expect_symbol s = expect (kind.Symbol s)

abbrev pub expect_name : Reading Lexeme
expect_name = text_taken kind.Identifier >>= or_refuse

abbrev pub expect_direction : Reading Direction
expect_direction = direction_taken >>= or_refuse

abbrev pub choose : {A B : Type 0} → Option A → (A → Reading B) → Reading B → Reading B
choose (Some a) goes_on otherwise = goes_on a
choose None goes_on otherwise = otherwise

-- one rule where there is something, and another where there is nothing
abbrev pub on : {A B : Type 0} → Reading (Option A) → (A → Reading B) → Reading B → Reading B
on p goes_on otherwise = p >>= (λ found. choose found goes_on otherwise)

-- a turn of a loop: one more was made, and the state before the next turn; or it ends
pub data Turn (S A B : Type 0) : Type 0 where
  more : S → A → Turn S A B
  ends : B → Turn S A B

abbrev pub turned : {S A B : Type 0} → (S → Reading (List A × B)) → Turn S A B → Reading (List A × B)
turned again (more state a) = again state >>= (λ r. pure (a ∷ r.0, r.1))
turned again (ends b) = pure ([], b)

-- what the turns made, and how they ended; each but the last takes a token, so there are no more than tokens
abbrev pub loop_from : {S A B : Type 0} → ℕ → (S → Reading (Turn S A B)) → S → Reading (List A × B)
loop_from zero turn state = refuse
loop_from (suc n) turn state = turn state >>= turned (loop_from n turn)

unfoldable pub loop : {S A B : Type 0} → (S → Reading (Turn S A B)) → S → Reading (List A × B)
loop turn state = λ tokens. loop_from (suc (length tokens)) turn state tokens

-- one part more behind a symbol, if that comes next
unfoldable pub led_turn : {A : Type 0} → Symbol → Reading A → Unit {0} → Reading (Turn (Unit {0}) A (Unit {0}))
led_turn s part state = on (symbol_taken s) (λ _. part >>= (λ a. pure (more tt a))) (pure (ends tt))

-- one part or more with a symbol between each two
unfoldable pub separated : {A : Type 0} → Symbol → Reading A → Reading (List A)
separated s part = do
  one ← part
  others ← loop (led_turn s part) tt
  pure (one ∷ others.0)

-- one part more, if what comes next passes a test
unfoldable pub next_turn : {A : Type 0} → (Option Kind → Bool) → Reading A → Unit {0}
    → Reading (Turn (Unit {0}) A (Unit {0}))
next_turn test part state =
    peek >>= (λ next. if test next then part >>= (λ a. pure (more tt a)) else pure (ends tt))

-- parts one behind another, none or more
unfoldable pub many : {A : Type 0} → (Option Kind → Bool) → Reading A → Reading (List A)
many test part = loop (next_turn test part) tt >>= (λ r. pure r.0)

abbrev pub is_kind : Kind → Option Kind → Bool
is_kind k None = false
is_kind k (Some next) = same_kind next k
