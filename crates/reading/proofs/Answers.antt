-- What a rule answers where its tokens begin with a spelling: it makes the form of it, if that is no deeper than the
-- limit, and otherwise it stops for its depth.
use Rattle.std.proofs.Common.{◌≡◌, ℕ, suc, ◌+◌, ◌<◌, ◌≤◌, max, Bool, true, false, nat_eq, if◌then◌else◌, List, [], ◌∷◌, ◌++◌}
use Rattle.std.proofs.Common.{Option, Some, None, Ok, Err, refl, ap, subst, ◌∙◌, arith}
use Rattle.std.proofs.lemmas.Bool.{eq-eqb}
use Rattle.std.proofs.lemmas.Bool.Decides.{nat_tests}
use Rattle.place.specs.declared.Place.{Place}
use Rattle.lexer.specs.declared.token.Kind.{Kind}
use Rattle.lexer.specs.declared.token.Kind.TheVariants as kind
use Rattle.lexer.specs.declared.token.Word.TheVariants as word
use Rattle.lexer.specs.declared.token.Symbol.TheVariants as symbol
use Rattle.lexer.specs.declared.token.Token.{Token}
use Rattle.syntax_tree.specs.declared.Operator.{Operator}
use Rattle.syntax_tree.specs.declared.Operator.TheVariants as op
use Rattle.syntax_tree.specs.declared.RelationalOperator.{RelationalOperator}
use Rattle.syntax_tree.specs.declared.RelationalOperator.TheVariants as relational
use Rattle.syntax_tree.specs.declared.Sign.{Sign}
use Rattle.syntax_tree.specs.declared.Sign.TheVariants as sign
use Rattle.reading.specs.declared.refusal.Refusal.TheVariants.{TooDeep}
use Rattle.reading.specs.Lexemes.{Spelling, IsSpelledBy, Reads, of_kind, of_kind_at, of_text, sign_kind, operator_kind, relational_kind}
use Rattle.reading.specs.Outline.{operator_level}
use Rattle.reading.specs.Reading.{Reading, and_then, ◌>>=◌, pure, next_kind, token_by, same_kind, taken, text_taken, or_refuse, expect, expect_name}
use Rattle.reading.specs.Reading.{operator_in, of_level, operator_taken, relational_in, relational_taken, take_if, sign_in, sign_taken}
use Rattle.reading.proofs.Makes.{same_kind_true, true_same_kind}

pub data Answers {A : Type 0} (limit depth : ℕ) (p : Reading A) (tokens : List Token) (a : A) (others : List Token) : Type 0 where
  reads : depth ≤ limit → p tokens ≡ Ok (a, others) → Answers limit depth p tokens a others
  stops : limit < depth → (at : Option Place) (left : List Token) → p tokens ≡ Err (TooDeep at, left) → Answers limit depth p tokens a others

-- ---- one answer behind another

pub answered : {A B : Type 0} {limit d e : ℕ} {p : Reading A} (f : A → Reading B) {tokens mid others : List Token} {a : A} {b : B}
    → Answers limit d p tokens a mid → Answers limit e (f a) mid b others → Answers limit (max d e) (p >>= f) tokens b others
answered f (reads h i) (reads k j) = reads (omega arith) (ap (λ o. and_then o f) i ∙ j)
answered f (reads h i) (stops k at left j) = stops (omega arith) at left (ap (λ o. and_then o f) i ∙ j)
answered f (stops h at left i) second = stops (omega arith) at left (ap (λ o. and_then o f) i)

-- what nests nothing
pub says : {A B : Type 0} {limit e : ℕ} (p : Reading A) (f : A → Reading B) {tokens mid others : List Token} {a : A} {b : B}
    → p tokens ≡ Ok (a, mid) → Answers limit e (f a) mid b others → Answers limit e (p >>= f) tokens b others
says p f i (reads k j) = reads k (ap (λ o. and_then o f) i ∙ j)
says p f i (stops k at left j) = stops k at left (ap (λ o. and_then o f) i ∙ j)

pub done : {A : Type 0} {limit : ℕ} {a : A} {tokens : List Token} → Answers limit 0 (pure a) tokens a tokens
done = reads (omega arith) refl

pub answers_same : {A : Type 0} {limit d : ℕ} {p q : Reading A} {tokens start others : List Token} {a : A} → p start ≡ q tokens → Answers limit d q tokens a
    others
    → Answers limit d p start a others
answers_same i (reads k j) = reads k (i ∙ j)
answers_same i (stops k at left j) = stops k at left (i ∙ j)

pub of_depth : {A : Type 0} {limit d : ℕ} {p : Reading A} {tokens others : List Token} {a : A} (e : ℕ) → d ≡ e → Answers limit d p tokens a others
    → Answers limit e p tokens a others
of_depth {limit = limit} {p = p} {tokens} {others} {a} e same h = subst (λ n. Answers limit n p tokens a others) same h

pub made_so : {A : Type 0} {limit d : ℕ} {p : Reading A} {tokens others : List Token} {a : A} (b : A) → a ≡ b → Answers limit d p tokens a others
    → Answers limit d p tokens b others
made_so {limit = limit} {d} {p} {tokens} {others} b same h = subst (λ x. Answers limit d p tokens x others) same h

-- one level more
pub deeper : {A : Type 0} {limit d : ℕ} {p : Reading A} {tokens others : List Token} {a : A} → Answers limit d p tokens a others
    → Answers (suc limit) (1 + d) p tokens a others
deeper (reads k j) = reads (omega arith) j
deeper (stops k at left j) = stops (omega arith) at left j

-- ---- the next token

-- where spellings meet
pub parted : (s t : Spelling) (a c : List Token) → Reads a (s ++ t) c → (b : List Token) × Reads a s b × Reads b t c
parted [] t a c h = (a, refl, h)
parted (l ∷ s) t a c h = let r = parted s t h.1 c h.4 in (r.0, (h.0, h.1, h.2, h.3, r.1), r.2)

-- ---- what is taken

if_same : (k : Kind) (place : Place) (token : Token) (others : List Token) → token.kind ≡ k → token.place ≡ place
    → take_if (if same_kind token.kind k then Some token.place else None) token others ≡ Ok (Some place, others)
if_same k place token others e p =
    ap (λ b. take_if (if b then Some token.place else None) token others) (subst (λ j. same_kind token.kind j ≡ true) e (true_same_kind token.kind))
    ∙ ap (λ q. Ok (Some q, others)) p

pub takes_at : {token : Token} {behind tokens : List Token} (k : Kind) (place : Place) → tokens ≡ token ∷ behind → IsSpelledBy (of_kind_at k place) token
    → taken k tokens ≡ Ok (Some place, behind)
unfolding taken
takes_at {token} {behind} {tokens} k place are is =
    ap (λ ts. token_by (λ t. if same_kind t.kind k then Some t.place else None) ts) are ∙ if_same k place token behind is.kind is.place

pub takes_of : {token : Token} {behind tokens : List Token} (k : Kind) → tokens ≡ token ∷ behind → IsSpelledBy (of_kind k) token
    → taken k tokens ≡ Ok (Some token.place, behind)
unfolding taken
takes_of {token} {behind} {tokens} k are is =
    ap (λ ts. token_by (λ t. if same_kind t.kind k then Some t.place else None) ts) are ∙ if_same k token.place token behind is.kind refl

pub expects_at : {token : Token} {behind tokens : List Token} (k : Kind) (place : Place) → tokens ≡ token ∷ behind → IsSpelledBy (of_kind_at k place) token
    → expect k tokens ≡ Ok (place, behind)
expects_at k place are is = ap (λ o. and_then o or_refuse) (takes_at k place are is)

pub expects_of : {token : Token} {behind tokens : List Token} (k : Kind) → tokens ≡ token ∷ behind → IsSpelledBy (of_kind k) token
    → expect k tokens ≡ Ok (token.place, behind)
expects_of k are is = ap (λ o. and_then o or_refuse) (takes_of k are is)

other_kind : (b : Bool) (a k : Kind) → same_kind a k ≡ b → ¬ (a ≡ k) → b ≡ false
other_kind true a k e other = absurd (other (same_kind_true a k e))
other_kind false a k e other = refl

-- another token comes
pub misses : (k : Kind) (tokens : List Token) → ¬ (next_kind tokens ≡ Some k) → taken k tokens ≡ Ok (None, tokens)
unfolding taken
misses k [] other = refl
misses k (token ∷ others) other =
    ap (λ b. take_if (if b then Some token.place else None) token others)
    (other_kind (same_kind token.kind k) token.kind k refl (λ e. other (ap Some e)))

pub takes_text : {token : Token} {behind tokens : List Token} (k : Kind) (letters : List ℕ) (place : Place) → tokens ≡ token ∷ behind
    → IsSpelledBy (of_text k letters place) token → text_taken k tokens ≡ Ok (Some (of_text k letters place), behind)
unfolding text_taken
takes_text {token} {behind} {tokens} k letters place are is =
    ap (λ ts. token_by (λ t. if same_kind t.kind k then Some (of_text k t.text.now t.place) else None) ts) are
    ∙ ap (λ b. take_if (if b then Some (of_text k token.text.now token.place) else None) token behind)
    (subst (λ j. same_kind token.kind j ≡ true) is.kind (true_same_kind token.kind))
    ∙ ap (λ t. Ok (Some (of_text k t token.place), behind)) is.text ∙ ap (λ p. Ok (Some (of_text k letters p), behind)) is.place

pub expects_name : {token : Token} {behind tokens : List Token} (letters : List ℕ) (place : Place) → tokens ≡ token ∷ behind
    → IsSpelledBy (of_text kind.Identifier letters place) token → expect_name tokens ≡ Ok (of_text kind.Identifier letters place, behind)
expects_name letters place are is = ap (λ o. and_then o or_refuse) (takes_text kind.Identifier letters place are is)

-- an operator
kind_operates : (o : Operator) → operator_in (operator_kind o) ≡ Some o
kind_operates op.Plus = refl
kind_operates op.Minus = refl
kind_operates op.Or = refl
kind_operates op.Times = refl
kind_operates op.Div = refl
kind_operates op.Mod = refl
kind_operates op.And = refl

pub takes_operator : {token : Token} {behind tokens : List Token} (level : ℕ) (o : Operator) (place : Place) → tokens ≡ token ∷ behind
    → IsSpelledBy (of_kind_at (operator_kind o) place) token → operator_level o ≡ level → operator_taken level tokens ≡ Ok (Some (o, place), behind)
unfolding operator_taken
takes_operator {token} {behind} {tokens} level o place are is at =
    ap (λ ts. token_by (λ t. of_level level (operator_in t.kind) t.place) ts) are
    ∙ ap (λ k. take_if (of_level level (operator_in k) token.place) token behind) is.kind
    ∙ ap (λ x. take_if (of_level level x token.place) token behind) (kind_operates o)
    ∙ ap (λ b. take_if (if b then Some (o, token.place) else None) token behind) (eq-eqb (operator_level o) level at)
    ∙ ap (λ p. Ok (Some (o, p), behind)) is.place

relational_operates : (o : RelationalOperator) (place : Place) → relational_in (relational_kind o) place ≡ Some (o, place)
relational_operates relational.Equal place = refl
relational_operates relational.NotEqual place = refl
relational_operates relational.Less place = refl
relational_operates relational.Greater place = refl
relational_operates relational.LessOrEqual place = refl
relational_operates relational.GreaterOrEqual place = refl
relational_operates relational.In place = refl

pub takes_relational : {token : Token} {behind tokens : List Token} (o : RelationalOperator) (place : Place) → tokens ≡ token ∷ behind
    → IsSpelledBy (of_kind_at (relational_kind o) place) token → relational_taken tokens ≡ Ok (Some (o, place), behind)
unfolding relational_taken
takes_relational {token} {behind} {tokens} o place are is =
    ap (λ ts. token_by (λ t. relational_in t.kind t.place) ts) are
    ∙ ap (λ k. take_if (relational_in k token.place) token behind) is.kind
    ∙ ap (λ x. take_if x token behind) (relational_operates o token.place)
    ∙ ap (λ p. Ok (Some (o, p), behind)) is.place

sign_operates : (s : Sign) (place : Place) → sign_in (sign_kind s) place ≡ Some (s, place)
sign_operates sign.Plus place = refl
sign_operates sign.Minus place = refl

pub takes_sign : {token : Token} {behind tokens : List Token} (s : Sign) (place : Place) → tokens ≡ token ∷ behind
    → IsSpelledBy (of_kind_at (sign_kind s) place) token → sign_taken tokens ≡ Ok (Some (s, place), behind)
unfolding sign_taken
takes_sign {token} {behind} {tokens} s place are is =
    ap (λ ts. token_by (λ t. sign_in t.kind t.place) ts) are
    ∙ ap (λ k. take_if (sign_in k token.place) token behind) is.kind
    ∙ ap (λ x. take_if x token behind) (sign_operates s token.place)
    ∙ ap (λ p. Ok (Some (s, p), behind)) is.place

-- how tightly an expression has to bind so that it ends before a token: more than an operator does; where a name would go
-- on none does
abbrev pub tightness : Option Operator → ℕ
tightness None = 0
tightness (Some o) = operator_level o + 1

abbrev pub follows : Option Kind → ℕ
follows None = 0
follows (Some (kind.Symbol symbol.OpenParenthesis)) = 9
follows (Some (kind.Symbol symbol.OpenBracket)) = 9
follows (Some (kind.Symbol symbol.Period)) = 9
follows (Some (kind.Symbol symbol.Equal)) = 1
follows (Some (kind.Symbol symbol.NotEqual)) = 1
follows (Some (kind.Symbol symbol.Less)) = 1
follows (Some (kind.Symbol symbol.Greater)) = 1
follows (Some (kind.Symbol symbol.LessOrEqual)) = 1
follows (Some (kind.Symbol symbol.GreaterOrEqual)) = 1
follows (Some (kind.Word word.In)) = 1
follows (Some k) = tightness (operator_in k)

in_tightness : (k : Kind) (level : ℕ) → follows (Some k) ≤ level → level ≤ 4 → tightness (operator_in k) ≤ level
in_tightness (kind.Symbol symbol.OpenParenthesis) level h f = absurd (omega arith)
in_tightness (kind.Symbol symbol.OpenBracket) level h f = absurd (omega arith)
in_tightness (kind.Symbol symbol.Period) level h f = absurd (omega arith)
in_tightness (kind.Symbol symbol.Equal) level h f = omega arith
in_tightness (kind.Symbol symbol.NotEqual) level h f = omega arith
in_tightness (kind.Symbol symbol.Less) level h f = omega arith
in_tightness (kind.Symbol symbol.Greater) level h f = omega arith
in_tightness (kind.Symbol symbol.LessOrEqual) level h f = omega arith
in_tightness (kind.Symbol symbol.GreaterOrEqual) level h f = omega arith
in_tightness (kind.Word word.In) level h f = omega arith
in_tightness k level h f = h

no_operator : (level : ℕ) (found : Option Operator) (place : Place) → tightness found ≤ level → of_level level found place ≡ None
no_operator level None place h = refl
no_operator level (Some o) place h = ap (λ b. if b then Some (o, place) else None) (eq-false (operator_level o) level (omega arith))
  where
    eq-false : (a b : ℕ) → a < b → nat_eq a b ≡ false
    eq-false a b h = grind (arith, nat_tests)

pub misses_operator : (level : ℕ) (tokens : List Token) → follows (next_kind tokens) ≤ level → level ≤ 4 → operator_taken level tokens ≡ Ok (None, tokens)
unfolding operator_taken
misses_operator level [] h f = refl
misses_operator level (token ∷ others) h f =
    ap (λ o. take_if o token others) (no_operator level (operator_in token.kind) token.place (in_tightness token.kind level h f))

no_relational : (k : Kind) (place : Place) → follows (Some k) ≤ 0 → relational_in k place ≡ None
no_relational (kind.Symbol symbol.Equal) place h = absurd (omega arith)
no_relational (kind.Symbol symbol.NotEqual) place h = absurd (omega arith)
no_relational (kind.Symbol symbol.Less) place h = absurd (omega arith)
no_relational (kind.Symbol symbol.Greater) place h = absurd (omega arith)
no_relational (kind.Symbol symbol.LessOrEqual) place h = absurd (omega arith)
no_relational (kind.Symbol symbol.GreaterOrEqual) place h = absurd (omega arith)
no_relational (kind.Word word.In) place h = absurd (omega arith)
no_relational k place h = refl

pub misses_relational : (tokens : List Token) → follows (next_kind tokens) ≤ 0 → relational_taken tokens ≡ Ok (None, tokens)
unfolding relational_taken
misses_relational [] h = refl
misses_relational (token ∷ others) h = ap (λ o. take_if o token others) (no_relational token.kind token.place h)

-- a token that would go on with a name doesn't come
pub no_more_name : (k : Kind) (level : ℕ) (tokens : List Token) → follows (next_kind tokens) ≤ level → level ≤ 4 → 4 < follows (Some k) → ¬ (next_kind
    tokens ≡ Some k)
no_more_name k level tokens h f g e = let x : follows (next_kind tokens) ≡ follows (Some k) = ap follows e in absurd (omega arith)

pub next_first : {token : Token} {behind tokens : List Token} (k : Kind) → tokens ≡ token ∷ behind → token.kind ≡ k → next_kind tokens ≡ Some k
next_first k are is = ap next_kind are ∙ ap Some is

pub follows_first : {token : Token} {behind tokens : List Token} (k : Kind) → tokens ≡ token ∷ behind → token.kind ≡ k
    → follows (next_kind tokens) ≡ follows (Some k)
follows_first k are is = ap follows (next_first k are is)

pub follows_operator : (o : Operator) → follows (Some (operator_kind o)) ≡ operator_level o + 1
follows_operator op.Plus = refl
follows_operator op.Minus = refl
follows_operator op.Or = refl
follows_operator op.Times = refl
follows_operator op.Div = refl
follows_operator op.Mod = refl
follows_operator op.And = refl

pub follows_relational : (o : RelationalOperator) → follows (Some (relational_kind o)) ≡ 1
follows_relational relational.Equal = refl
follows_relational relational.NotEqual = refl
follows_relational relational.Less = refl
follows_relational relational.Greater = refl
follows_relational relational.LessOrEqual = refl
follows_relational relational.GreaterOrEqual = refl
follows_relational relational.In = refl
