-- What rules make, one behind another.
use Rattle.std.proofs.Common.{◌≡◌, ℕ, Bool, true, false, nat_eq, if◌then◌else◌, List, [], ◌∷◌}
use Rattle.std.proofs.Common.{Option, Some, None, Ok, Err, refl, sym, ap, subst, ◌∙◌}
use Rattle.std.proofs.lemmas.Bool.{eq-eqb, eqb-true}
use denote.Enum.Bare.{same_true, true_same}
use Rattle.place.specs.declared.Place.{Place}
use Rattle.lexer.specs.contracts.token.Word as of_word
use Rattle.lexer.specs.contracts.token.Symbol as of_symbol
use Rattle.lexer.specs.declared.token.Kind.{Kind}
use Rattle.lexer.specs.declared.token.Kind.TheVariants as kind
use Rattle.lexer.specs.declared.token.Word.TheVariants as word
use Rattle.lexer.specs.declared.token.Symbol.TheVariants as symbol
use Rattle.lexer.specs.declared.token.Token.{Token}
use Rattle.syntax_tree.specs.declared.Sign.{Sign}
use Rattle.syntax_tree.specs.declared.Sign.TheVariants as sign
use Rattle.syntax_tree.specs.declared.Direction.{Direction}
use Rattle.syntax_tree.specs.declared.Direction.TheVariants as direction
use Rattle.syntax_tree.specs.declared.Operator.{Operator}
use Rattle.syntax_tree.specs.declared.Operator.TheVariants as op
use Rattle.syntax_tree.specs.declared.RelationalOperator.{RelationalOperator}
use Rattle.syntax_tree.specs.declared.RelationalOperator.TheVariants as relational
use Rattle.reading.specs.Lexemes.{Lexeme, IsSpelledBy, Reads, of_kind, of_kind_at, of_text, sign_kind, operator_kind, relational_kind, direction_kind}
use Rattle.reading.specs.Outline.{operator_level}
use Rattle.reading.specs.Reading.{Outcome, Reading, and_then, ◌>>=◌, pure, refuse, too_deep, next_kind, take_if, token_by, same_kind, taken, text_taken}
use Rattle.reading.specs.Reading.{number_in, number_taken, sign_in, sign_taken, direction_in, direction_taken, operator_in, of_level, operator_taken}
use Rattle.reading.specs.Reading.{relational_in, relational_taken, or_refuse, expect, expect_name, choose, on}

-- what a rule makes of tokens has this, with what is left
pub record Makes {A : Type 0} (p : Reading A) (tokens : List Token) (Q : A → List Token → Type 0) : Type 0 where
  pub makes : (made : A × List Token) → p tokens ≡ Ok made → Q made.0 made.1

pub split : {A B : Type 0} (o : Outcome A) (f : A → Reading B) (b : B × List Token) → and_then o f ≡ Ok b
    → (a : A × List Token) × (o ≡ Ok a) × (f a.0 a.1 ≡ Ok b)
split (Ok a) f b h = (a, refl, h)
split (Err stop) f b h = absurd cc

pub thence : {A B : Type 0} {p : Reading A} {f : A → Reading B} {tokens : List Token} {Q : A → List Token → Type 0} {R : B → List Token → Type 0}
    → Makes p tokens Q → ((a : A) (mid : List Token) → Q a mid → Makes (f a) mid R) → Makes (p >>= f) tokens R
thence {A} {B} {p} {f} {tokens} {Q} {R} first rest = record {
  makes = λ b h. let x = split (p tokens) f b h in (rest x.0.0 x.0.1 (first.makes x.0 x.1)).makes b x.2;
}

pub gives : {A : Type 0} {a : A} {tokens : List Token} {Q : A → List Token → Type 0} → Q a tokens → Makes (pure a) tokens Q
gives {A} {a} {tokens} {Q} q = record {
  makes = λ b h. let e : (a, tokens) ≡ b = cc in subst (λ (m : A × List Token). Q m.0 m.1) e q;
}

pub refused : {A : Type 0} {tokens : List Token} {Q : A → List Token → Type 0} → Makes refuse tokens Q
refused = record { makes = λ b h. absurd cc }

pub deep_makes : {A : Type 0} {at : Option Place} {tokens : List Token} {Q : A → List Token → Type 0} → Makes (too_deep at) tokens Q
deep_makes = record { makes = λ b h. absurd cc }

pub weaker : {A : Type 0} {p : Reading A} {tokens : List Token} {Q R : A → List Token → Type 0} → ((a : A) (others : List Token) → Q a others → R a others)
    → Makes p tokens Q → Makes p tokens R
weaker f h = record { makes = λ b e. f b.0 b.1 (h.makes b e) }

pub chosen : {A B : Type 0} {some : A → Reading B} {none : Reading B} (found : Option A) {mid : List Token} (Q : Option A → List Token → Type 0)
    {R : B → List Token → Type 0}
    → ((a : A) → Q (Some a) mid → Makes (some a) mid R) → (Q None mid → Makes none mid R) → Q found mid → Makes (choose found some none) mid R
chosen (Some a) Q f g q = f a q
chosen None Q f g q = g q

pub either : {A B : Type 0} {p : Reading (Option A)} {some : A → Reading B} {none : Reading B} {tokens : List Token} {Q : Option A → List Token → Type 0}
    {R : B → List Token → Type 0}
    → Makes p tokens Q → ((a : A) (mid : List Token) → Q (Some a) mid → Makes (some a) mid R) → ((mid : List Token) → Q None mid → Makes none mid R)
    → Makes (on p some none) tokens R
either {A} {B} {p} {some} {none} {tokens} {Q} {R} first f g =
    thence {p = p} {f = λ found. choose found some none} first (λ found mid q. chosen {some = some} {none = none} found Q (λ a. f a mid) (g mid) q)

-- ---- the next token

abbrev pub Misses : {A : Type 0} → (Token → Option A) → List Token → Type 0
Misses test [] = Unit {0}
Misses test (token ∷ others) = test token ≡ None

abbrev pub Took : {A : Type 0} → (Token → Option A) → List Token → Option A → List Token → Type 0
Took test tokens (Some a) others = (token : Token) × (tokens ≡ token ∷ others) × (test token ≡ Some a)
Took test tokens None others = (tokens ≡ others) × Misses test others

take_one : {A : Type 0} (test : Token → Option A) (token : Token) (others : List Token) (o : Option A) → test token ≡ o
    → (made : Option A × List Token) → take_if o token others ≡ Ok made → Took test (token ∷ others) made.0 made.1
take_one test token others (Some a) e made h =
    let same : (Some a, others) ≡ made = cc in subst (λ (m : _ × List Token). Took test (token ∷ others) m.0 m.1) same (token, refl, e)
take_one test token others None e made h =
    let same : (None, token ∷ others) ≡ made = cc in subst (λ (m : _ × List Token). Took test (token ∷ others) m.0 m.1) same (refl, e)

pub token_makes : {A : Type 0} (test : Token → Option A) (tokens : List Token) → Makes (token_by test) tokens (Took test tokens)
token_makes {A} test [] = record {
  makes = λ made h. let same : ◌≡◌ {A = Option A × List Token} (None, []) made = cc in subst (λ (m : Option A × List Token). Took test [] m.0 m.1) same
      (refl, tt);
}
token_makes test (token ∷ others) = record { makes = take_one test token others (test token) refl }

pub same_kind_true : (a b : Kind) → same_kind a b ≡ true → a ≡ b
same_kind_true (kind.Word a) (kind.Word b) h = ap kind.Word (same_true of_word.the_type tt a b h)
same_kind_true (kind.Symbol a) (kind.Symbol b) h = ap kind.Symbol (same_true of_symbol.the_type tt a b h)
same_kind_true (kind.Number a) (kind.Number b) h = ap kind.Number (eqb-true a b h)
same_kind_true kind.Identifier kind.Identifier h = refl
same_kind_true kind.Text kind.Text h = refl
same_kind_true a b h = absurd cc

pub true_same_kind : (a : Kind) → same_kind a a ≡ true
true_same_kind (kind.Word a) = true_same of_word.the_type a a refl
true_same_kind (kind.Symbol a) = true_same of_symbol.the_type a a refl
true_same_kind (kind.Number a) = eq-eqb a a refl
true_same_kind kind.Identifier = refl
true_same_kind kind.Text = refl

-- one token that is read
pub one_read : (l : Lexeme) (token : Token) (tokens others : List Token) → tokens ≡ token ∷ others → IsSpelledBy l token → Reads tokens (l ∷ []) others
one_read l token tokens others e h = (token, others, e, h, refl)

pub placed : (k : Kind) (token : Token) → token.kind ≡ k → IsSpelledBy (of_kind_at k token.place) token
placed k token e = record { kind = e; text = tt; letters = tt; place = refl }

pub written : (k : Kind) (token : Token) → token.kind ≡ k → IsSpelledBy (of_text k token.text.now token.place) token
written k token e = record { kind = e; text = refl; letters = tt; place = refl }

pub if_some : {A : Type 0} (b : Bool) (a c : A) → (if b then Some a else None) ≡ Some c → (b ≡ true) × (a ≡ c)
if_some true a c h = (refl, cc)
if_some false a c h = absurd cc

pub if_none : {A : Type 0} (b : Bool) (a : A) → (if b then Some a else None) ≡ None → b ≡ false
if_none true a h = absurd cc
if_none false a h = refl

abbrev pub ReadingTakes : Kind → List Token → Option Place → List Token → Type 0
ReadingTakes k tokens (Some place) others = Reads tokens (of_kind_at k place ∷ []) others
ReadingTakes k tokens None others = (tokens ≡ others) × ¬ (next_kind others ≡ Some k)

missed : (k : Kind) (others : List Token) → Misses (λ token. if same_kind token.kind k then Some token.place else None) others
    → ¬ (next_kind others ≡ Some k)
missed k [] m h = absurd cc
missed k (token ∷ others) m h =
    let is : token.kind ≡ k = cc in
    let no : same_kind token.kind k ≡ false = if_none (same_kind token.kind k) token.place m in
    let yes : same_kind token.kind k ≡ true = subst (λ j. same_kind token.kind j ≡ true) is (true_same_kind token.kind) in
    let clash : true ≡ false = sym yes ∙ no in cc

takes : (k : Kind) (tokens : List Token) (found : Option Place) (others : List Token)
    → Took (λ token. if same_kind token.kind k then Some token.place else None) tokens found others → ReadingTakes k tokens found others
takes k tokens (Some place) others (token, e, test) =
    let is = if_some (same_kind token.kind k) token.place place test in
    subst (λ p. Reads tokens (of_kind_at k p ∷ []) others) is.1
    (one_read (of_kind_at k token.place) token tokens others e (placed k token (same_kind_true token.kind k is.0)))
takes k tokens None others (e, m) = (e, missed k others m)

pub taken_makes : (k : Kind) (tokens : List Token) → Makes (taken k) tokens (ReadingTakes k tokens)
unfolding taken
taken_makes k tokens = weaker (takes k tokens) (token_makes (λ token. if same_kind token.kind k then Some token.place else None) tokens)

-- one that is wanted
pub wanted : {A : Type 0} {p : Reading (Option A)} {tokens : List Token} {Q : Option A → List Token → Type 0} → Makes p tokens Q
    → Makes (p >>= or_refuse) tokens (λ a others. Q (Some a) others)
wanted {A} {p} {tokens} {Q} first = thence first (λ found mid q. by found mid q)
  where
    by : (found : Option A) (mid : List Token) → Q found mid → Makes (or_refuse found) mid (λ a others. Q (Some a) others)
    by (Some a) mid q = gives q
    by None mid q = refused

pub expect_makes : (k : Kind) (tokens : List Token) → Makes (expect k) tokens (λ place others. Reads tokens (of_kind_at k place ∷ []) others)
expect_makes k tokens = wanted (taken_makes k tokens)

-- a token of which something is made that spells it, or none
abbrev pub Spelled : {A : Type 0} → (A → Lexeme) → List Token → Option A → List Token → Type 0
Spelled of tokens (Some a) others = Reads tokens (of a ∷ []) others
Spelled of tokens None others = tokens ≡ others

pub spelled_by : {A : Type 0} (of : A → Lexeme) (test : Token → Option A) → ((token : Token) (a : A) → test token ≡ Some a → IsSpelledBy (of a) token)
    → (tokens : List Token) (found : Option A) (others : List Token) → Took test tokens found others → Spelled of tokens found others
spelled_by of test is tokens (Some a) others (token, e, h) = one_read (of a) token tokens others e (is token a h)
spelled_by of test is tokens None others (e, m) = e

abbrev text_test : Kind → Token → Option Lexeme
text_test k token = if same_kind token.kind k then Some (of_text k token.text.now token.place) else None

pub text_makes : (k : Kind) (tokens : List Token) → Makes (text_taken k) tokens (Spelled (λ l. l) tokens)
unfolding text_taken
text_makes k tokens =
    weaker (spelled_by (λ l. l) (text_test k) is tokens) (token_makes (text_test k) tokens)
  where
    is : (token : Token) (l : Lexeme) → text_test k token ≡ Some l → IsSpelledBy l token
    is token l h =
        let x = if_some (same_kind token.kind k) (of_text k token.text.now token.place) l h in
        subst (λ m. IsSpelledBy m token) x.1 (written k token (same_kind_true token.kind k x.0))

pub name_makes : (tokens : List Token) → Makes expect_name tokens (λ l others. Reads tokens (l ∷ []) others)
name_makes tokens = wanted (text_makes kind.Identifier tokens)

number_is : (k : Kind) (place : Place) (n : ℕ × Place) → number_in k place ≡ Some n → (k ≡ kind.Number n.0) × (place ≡ n.1)
number_is (kind.Number v) place n h = let e : (v, place) ≡ n = cc in (ap (λ (m : ℕ × Place). kind.Number m.0) e, ap (λ (m : ℕ × Place). m.1) e)
number_is k place n h = absurd cc

pub number_makes : (tokens : List Token) → Makes number_taken tokens (Spelled (λ n. of_kind_at (kind.Number n.0) n.1) tokens)
unfolding number_taken
number_makes tokens =
    weaker (spelled_by (λ n. of_kind_at (kind.Number n.0) n.1) (λ token. number_in token.kind token.place) is tokens)
    (token_makes (λ token. number_in token.kind token.place) tokens)
  where
    is : (token : Token) (n : ℕ × Place) → number_in token.kind token.place ≡ Some n → IsSpelledBy (of_kind_at (kind.Number n.0) n.1) token
    is token n h = let x = number_is token.kind token.place n h in record { kind = x.0; text = tt; letters = tt; place = x.1 }

sign_is : (k : Kind) (place : Place) (s : Sign × Place) → sign_in k place ≡ Some s → (k ≡ sign_kind s.0) × (place ≡ s.1)
sign_is (kind.Symbol symbol.Plus) place s h = let e : (sign.Plus, place) ≡ s = cc in (
  ap (λ (m : Sign × Place). sign_kind m.0) e,
  ap (λ (m : Sign × Place).
      m.1) e,
)
sign_is (kind.Symbol symbol.Minus) place s h = let e : (sign.Minus, place) ≡ s = cc in (
  ap (λ (m : Sign × Place). sign_kind m.0) e,
  ap (λ (m : Sign ×
      Place). m.1) e,
)
sign_is k place s h = absurd cc

pub sign_makes : (tokens : List Token) → Makes sign_taken tokens (Spelled (λ s. of_kind_at (sign_kind s.0) s.1) tokens)
unfolding sign_taken
sign_makes tokens =
    weaker (spelled_by (λ s. of_kind_at (sign_kind s.0) s.1) (λ token. sign_in token.kind token.place) is tokens)
    (token_makes (λ token. sign_in token.kind token.place) tokens)
  where
    is : (token : Token) (s : Sign × Place) → sign_in token.kind token.place ≡ Some s → IsSpelledBy (of_kind_at (sign_kind s.0) s.1) token
    is token s h = let x = sign_is token.kind token.place s h in record { kind = x.0; text = tt; letters = tt; place = x.1 }

direction_is : (k : Kind) (d : Direction) → direction_in k ≡ Some d → k ≡ direction_kind d
direction_is (kind.Word word.To) d h = let e : direction.To ≡ d = cc in ap direction_kind e
direction_is (kind.Word word.Downto) d h = let e : direction.DownTo ≡ d = cc in ap direction_kind e
direction_is k d h = absurd cc

pub direction_makes : (tokens : List Token) → Makes direction_taken tokens (Spelled (λ d. of_kind (direction_kind d)) tokens)
unfolding direction_taken
direction_makes tokens =
    weaker (spelled_by (λ d. of_kind (direction_kind d)) (λ token. direction_in token.kind) is tokens)
    (token_makes (λ token. direction_in token.kind) tokens)
  where
    is : (token : Token) (d : Direction) → direction_in token.kind ≡ Some d → IsSpelledBy (of_kind (direction_kind d)) token
    is token d h = record { kind = direction_is token.kind d h; text = tt; letters = tt; place = tt }

operator_is : (k : Kind) (o : Operator) → operator_in k ≡ Some o → k ≡ operator_kind o
operator_is (kind.Symbol symbol.Plus) o h = let e : op.Plus ≡ o = cc in ap operator_kind e
operator_is (kind.Symbol symbol.Minus) o h = let e : op.Minus ≡ o = cc in ap operator_kind e
operator_is (kind.Word word.Or) o h = let e : op.Or ≡ o = cc in ap operator_kind e
operator_is (kind.Symbol symbol.Times) o h = let e : op.Times ≡ o = cc in ap operator_kind e
operator_is (kind.Word word.Div) o h = let e : op.Div ≡ o = cc in ap operator_kind e
operator_is (kind.Word word.Mod) o h = let e : op.Mod ≡ o = cc in ap operator_kind e
operator_is (kind.Word word.And) o h = let e : op.And ≡ o = cc in ap operator_kind e
operator_is k o h = absurd cc

of_both : (x : RelationalOperator) (place : Place) (o : RelationalOperator × Place) → ◌≡◌ {A = Option (RelationalOperator × Place)} (Some (x, place)) (Some o)
    → (relational_kind x ≡ relational_kind o.0) × (place ≡ o.1)
of_both x place o h =
    let e : (x, place) ≡ o = cc in
    (ap (λ (m : RelationalOperator × Place). relational_kind m.0) e, ap (λ (m : RelationalOperator × Place). m.1) e)

relational_is : (k : Kind) (place : Place) (o : RelationalOperator × Place) → relational_in k place ≡ Some o → (k ≡ relational_kind o.0) × (place ≡ o.1)
relational_is (kind.Symbol symbol.Equal) place o h = of_both relational.Equal place o h
relational_is (kind.Symbol symbol.NotEqual) place o h = of_both relational.NotEqual place o h
relational_is (kind.Symbol symbol.Less) place o h = of_both relational.Less place o h
relational_is (kind.Symbol symbol.Greater) place o h = of_both relational.Greater place o h
relational_is (kind.Symbol symbol.LessOrEqual) place o h = of_both relational.LessOrEqual place o h
relational_is (kind.Symbol symbol.GreaterOrEqual) place o h = of_both relational.GreaterOrEqual place o h
relational_is (kind.Word word.In) place o h = of_both relational.In place o h
relational_is k place o h = absurd cc

pub relational_makes : (tokens : List Token) → Makes relational_taken tokens (Spelled (λ o. of_kind_at (relational_kind o.0) o.1) tokens)
unfolding relational_taken
relational_makes tokens =
    weaker (spelled_by (λ o. of_kind_at (relational_kind o.0) o.1) (λ token. relational_in token.kind token.place) is tokens)
    (token_makes (λ token. relational_in token.kind token.place) tokens)
  where
    is : (token : Token) (o : RelationalOperator × Place) → relational_in token.kind token.place ≡ Some o → IsSpelledBy (of_kind_at (relational_kind o.0) o.1)
        token
    is token o h = let x = relational_is token.kind token.place o h in record { kind = x.0; text = tt; letters = tt; place = x.1 }

-- an operator of a level
abbrev pub Operates : ℕ → List Token → Option (Operator × Place) → List Token → Type 0
Operates level tokens (Some o) others = (operator_level o.0 ≡ level) × Reads tokens (of_kind_at (operator_kind o.0) o.1 ∷ []) others
Operates level tokens None others = tokens ≡ others

level_is : (level : ℕ) (k : Kind) (found : Option Operator) (place : Place) (o : Operator × Place) → operator_in k ≡ found → of_level level found place ≡ Some o
    → (operator_level o.0 ≡ level) × (k ≡ operator_kind o.0) × (place ≡ o.1)
level_is level k None place o e h = absurd cc
level_is level k (Some x) place o e h =
    let t = if_some (nat_eq (operator_level x) level) (x, place) o h in
    let at : operator_level x ≡ level = eqb-true (operator_level x) level t.0 in (
      subst (λ (m : Operator × Place). operator_level m.0 ≡ level) t.1 at,
      subst (λ (m : Operator × Place). k ≡ operator_kind m.0) t.1 (operator_is k x e),
      ap (λ (m : Operator × Place). m.1) t.1,
    )

operates : (level : ℕ) (tokens : List Token) (found : Option (Operator × Place)) (others : List Token)
    → Took (λ token. of_level level (operator_in token.kind) token.place) tokens found others → Operates level tokens found others
operates level tokens (Some o) others (token, e, h) =
    let x = level_is level token.kind (operator_in token.kind) token.place o refl h in
    (x.0, one_read (of_kind_at (operator_kind o.0) o.1) token tokens others e (record { kind = x.1; text = tt; letters = tt; place = x.2 }))
operates level tokens None others (e, m) = e

pub operator_makes : (level : ℕ) (tokens : List Token) → Makes (operator_taken level) tokens (Operates level tokens)
unfolding operator_taken
operator_makes level tokens =
    weaker (operates level tokens) (token_makes (λ token. of_level level (operator_in token.kind) token.place) tokens)
