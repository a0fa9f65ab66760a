-- What is read is spelled so, well formed, and no deeper than a limit: of forms by their parts.
use Rattle.std.proofs.Common.{◌≡◌, ℕ, suc, ◌≤◌, Bool, true, false, if◌then◌else◌}
use Rattle.std.proofs.Common.{List, [], ◌∷◌, ◌++◌, Option, Some, None, refl, sym, subst, arith}
use Rattle.lexer.specs.declared.token.Kind.{Kind}
use Rattle.lexer.specs.declared.token.Kind.TheVariants as kind
use Rattle.lexer.specs.declared.token.Symbol.{Symbol}
use Rattle.lexer.specs.declared.token.Symbol.TheVariants as symbol
use Rattle.lexer.specs.declared.token.Word.{Word}
use Rattle.lexer.specs.declared.token.Token.{Token}
use Rattle.place.specs.declared.Place.{Place}
use Rattle.reading.specs.Lexemes.{Lexeme, Spelling, Reads, of_kind, of_kind_at}
use Rattle.reading.specs.Notation.{Shape}
use Rattle.reading.specs.Outline as form
use Rattle.reading.specs.Outline.{Outline, nothing, kept, word_symbol, mark, ◌⧺◌, nested, closed, only_if, binding, binds, has_items, row_then, row, led}
use Rattle.reading.specs.Outline.{in_parentheses}
use Rattle.reading.specs.Reading.{Reading, ◌>>=◌, pure, here, peek, next_kind, next_place, on, taken}
use Rattle.reading.specs.Reading.{more, ends, led_turn, separated, next_turn, many}
use Rattle.reading.proofs.Makes.{Makes, thence, gives, either, taken_makes}
use Rattle.reading.proofs.Loops.{Turned, loop_makes}
use Rattle.reading.proofs.Tests.{and_true}

pub record Good (limit : ℕ) (tokens : List Token) (o : Outline) (others : List Token) : Type 0 where
  pub spelled : Reads tokens o.spelling others
  pub well : o.well ≡ true
  pub nests : o.depth ≤ limit

-- two spellings
pub both : (s t : Spelling) (a b c : List Token) → Reads a s b → Reads b t c → Reads a (s ++ t) c
both [] t a b c h k = subst (λ x. Reads x t c) (sym h) k
both (l ∷ s) t a b c h k = (h.0, h.1, h.2, h.3, both s t h.1 b c h.4 k)

infixr 10 ◌⊕◌
pub ◌⊕◌ : {limit : ℕ} {a b c : List Token} {x y : Outline} → Good limit a x b → Good limit b y c → Good limit a (x ⧺ y) c
◌⊕◌ {limit} {a} {b} {c} {x} {y} g h = record {
  spelled = both x.spelling y.spelling a b c g.spelled h.spelled;
  well = and_true x.well y.well g.well h.well;
  nests = let m = g.nests in let n = h.nests in omega arith;
}

pub none_good : {limit : ℕ} {a : List Token} → Good limit a nothing a
none_good = record { spelled = refl; well = refl; nests = omega arith }

pub kept_good : {limit : ℕ} {a b : List Token} (l : Lexeme) → Reads a (l ∷ []) b → Good limit a (kept l) b
kept_good l h = record { spelled = h; well = refl; nests = omega arith }

-- a token whose place isn't kept
pub unplaced : (k : Kind) (p : Place) (a b : List Token) → Reads a (of_kind_at k p ∷ []) b → Reads a (of_kind k ∷ []) b
unplaced k p a b h = (h.0, h.1, h.2, record { kind = h.3.kind; text = tt; letters = tt; place = tt }, h.4)

pub mark_good : {limit : ℕ} {a b : List Token} (s : Symbol) (p : Place) → Reads a (of_kind_at (kind.Symbol s) p ∷ []) b → Good limit a (mark s) b
mark_good {limit} {a} {b} s p h = record { spelled = unplaced (kind.Symbol s) p a b h; well = refl; nests = omega arith }

pub word_good : {limit : ℕ} {a b : List Token} (w : Word) (p : Place) → Reads a (of_kind_at (kind.Word w) p ∷ []) b → Good limit a (word_symbol w) b
word_good {limit} {a} {b} w p h = record { spelled = unplaced (kind.Word w) p a b h; well = refl; nests = omega arith }

pub form_good : {limit : ℕ} {a b : List Token} {o : Outline} (s : Shape) → Good limit a o b → Good limit a (form.form s o) b
form_good s g = record { spelled = g.spelled; well = g.well; nests = g.nests }

pub nested_form : {limit : ℕ} {a b : List Token} (o : Outline) (s : Shape) → Good limit a (nested o) b → Good limit a (nested (form.form s o)) b
nested_form o s g = record { spelled = g.spelled; well = g.well; nests = g.nests }

pub nested_good : {limit : ℕ} {a b : List Token} {o : Outline} → Good limit a o b → Good (suc limit) a (nested o) b
nested_good g = record { spelled = g.spelled; well = g.well; nests = let n = g.nests in omega arith }

pub closed_good : {limit : ℕ} {a b : List Token} {o : Outline} → Good limit a o b → Good limit a (closed o) b
closed_good g = record { spelled = g.spelled; well = g.well; nests = g.nests }

pub if_good : {limit : ℕ} {a b : List Token} {o : Outline} (test : Bool) → test ≡ true → Good limit a o b → Good limit a (only_if test o) b
if_good {limit} {a} {b} {o} test is g = record { spelled = g.spelled; well = and_true test o.well is g.well; nests = g.nests }

pub binding_good : {limit : ℕ} {a b : List Token} {o : Outline} (level : ℕ) → Good limit a o b → Good limit a (binding level o) b
binding_good level g = record { spelled = g.spelled; well = g.well; nests = g.nests }

-- in what is nested
pub nested_before : {limit : ℕ} {a b c : List Token} {x : Outline} (y : Outline) → Good limit a x b → x.depth ≡ 0 → Good limit b (nested y) c → Good limit a
    (nested (x ⧺ y)) c
nested_before {limit} {a} {b} {c} {x} y g flat h = record {
  spelled = both x.spelling y.spelling a b c g.spelled h.spelled;
  well = and_true x.well y.well g.well h.well;
  nests = let n = h.nests in omega arith;
}

pub nested_behind : {limit : ℕ} {a b c : List Token} (x : Outline) {y : Outline} → Good limit a (nested x) b → y.depth ≡ 0 → Good limit b y c → Good limit a
    (nested (x ⧺ y)) c
nested_behind {limit} {a} {b} {c} x {y} g flat h = record {
  spelled = both x.spelling y.spelling a b c g.spelled h.spelled;
  well = and_true x.well y.well g.well h.well;
  nests = let n = g.nests in omega arith;
}

pub nested_both : {limit : ℕ} {a b c : List Token} (x y : Outline) → Good limit a (nested x) b → Good limit b (nested y) c → Good limit a (nested (x ⧺ y)) c
nested_both {limit} {a} {b} {c} x y g h = record {
  spelled = both x.spelling y.spelling a b c g.spelled h.spelled;
  well = and_true x.well y.well g.well h.well;
  nests = let m = g.nests in let n = h.nests in omega arith;
}

-- ---- steps of rules

pub looks_here : {B : Type 0} {f : Option Place → Reading B} {tokens : List Token} {R : B → List Token → Type 0}
    → ((at : Option Place) → Makes (f at) tokens R) → Makes (here >>= f) tokens R
looks_here {tokens = tokens} h = record { makes = λ b e. (h (next_place tokens)).makes b e }

pub looks_ahead : {B : Type 0} {f : Option Kind → Reading B} {tokens : List Token} {R : B → List Token → Type 0}
    → ((next : Option Kind) → Makes (f next) tokens R) → Makes (peek >>= f) tokens R
looks_ahead {tokens = tokens} h = record { makes = λ b e. (h (next_kind tokens)).makes b e }

-- something is taken, or nothing, and then no token
pub either_here : {A B : Type 0} {p : Reading (Option A)} {some : A → Reading B} {none : Reading B} {tokens : List Token} {Q : Option A → List Token → Type 0}
    {R : B → List Token → Type 0}
    → Makes p tokens Q → ((mid : List Token) → Q None mid → tokens ≡ mid) → ((a : A) (mid : List Token) → Q (Some a) mid → Makes (some a) mid R)
    → (Q None tokens → Makes none tokens R) → Makes (on p some none) tokens R
either_here {A} {B} {p} {some} {none} {tokens} {Q} {R} first same f g =
    either {some = some} {none = none} first f
    (λ mid q. subst (λ t. Makes none t R) (same mid q) (g (subst (λ t. Q None t) (sym (same mid q)) q)))

-- a token of a kind is taken, or another comes
pub either_kind : {B : Type 0} {some : Place → Reading B} {none : Reading B} {R : B → List Token → Type 0} (k : Kind) (tokens : List Token)
    → ((place : Place) (mid : List Token) → Reads tokens (of_kind_at k place ∷ []) mid → Makes (some place) mid R)
    → (¬ (next_kind tokens ≡ Some k) → Makes none tokens R) → Makes (on (taken k) some none) tokens R
either_kind {B} {some} {none} {R} k tokens f g =
    either_here {some = some} {none = none} (taken_makes k tokens) (λ mid q. q.0) f (λ q. g q.1)

pub if_makes : {B : Type 0} {p q : Reading B} {tokens : List Token} {R : B → List Token → Type 0} (b : Bool) → (b ≡ true → Makes p tokens R)
    → (b ≡ false → Makes q tokens R) → Makes (if b then p else q) tokens R
if_makes true f g = f refl
if_makes false f g = g refl

-- ---- lists

abbrev pub IsListed : Symbol → ℕ → List Token → List Outline → List Token → Type 0
IsListed s limit tokens parts others = Good limit tokens (form.separated s parts) others × (has_items parts ≡ true)

module _ (s : Symbol) (limit : ℕ) (part : Reading Outline) (part_makes : (tokens : List Token) → Makes part tokens (Good limit tokens)) where
  abbrev Led : Unit {0} → List Token → List Outline × Unit {0} → List Token → Type 0
  Led state tokens r others = Good limit tokens (led s r.0) others

  led_makes : (state : Unit {0}) (tokens : List Token) → Makes (led_turn s part state) tokens (Turned (led_turn s part) Led state tokens)
  unfolding led_turn
  led_makes state tokens =
      either_kind (kind.Symbol s) tokens
      (λ place a r. thence (part_makes a) λ one b g. gives (λ (found : List Outline × Unit {0}) rest others. mark_good s place r ⊕ (g ⊕ others)))
      (λ _. gives none_good)

  pub listed_makes : (tokens : List Token) → Makes (separated s part) tokens (IsListed s limit tokens)
  unfolding separated
  listed_makes tokens =
      thence (part_makes tokens) λ one a g.
      thence (loop_makes (led_turn s part) Led led_makes tt a) λ others b h.
      gives (g ⊕ h, refl)

pub parenthesized_good : {limit : ℕ} {a b : List Token} (s : Symbol) (parts : List Outline) → has_items parts ≡ true
    → Good limit a (mark symbol.OpenParenthesis ⧺ (form.separated s parts ⧺ mark symbol.CloseParenthesis)) b → Good limit a (in_parentheses s parts) b
parenthesized_good s [] is g = absurd cc
parenthesized_good s (one ∷ others) is g = g

pub perhaps_good : {limit : ℕ} {a b : List Token} (s : Symbol) (parts : List Outline) → has_items parts ≡ true → Good limit a (form.separated s parts) b
    → Good limit a (form.perhaps s parts) b
perhaps_good s [] is g = absurd cc
perhaps_good s (one ∷ others) is g = g

module _ (test : Option Kind → Bool) (limit : ℕ) (part : Reading Outline) (part_makes : (tokens : List Token) → Makes part tokens (Good limit tokens)) where
  abbrev InRow : Unit {0} → List Token → List Outline × Unit {0} → List Token → Type 0
  InRow state tokens r others = Good limit tokens (row r.0) others

  next_makes : (state : Unit {0}) (tokens : List Token) → Makes (next_turn test part state) tokens (Turned (next_turn test part) InRow state tokens)
  unfolding next_turn
  next_makes state tokens =
      looks_ahead (λ next. if_makes {p = part >>= (λ a. pure (more tt a))} {q = pure (ends tt)} (test next)
      (λ _. thence (part_makes tokens) λ one a g. gives (λ (found : List Outline × Unit {0}) rest others. g ⊕ others))
      (λ _. gives none_good))

  pub many_makes : (tokens : List Token) → Makes (many test part) tokens (λ parts others. Good limit tokens (row parts) others)
  unfolding many
  many_makes tokens = thence (loop_makes (next_turn test part) InRow next_makes tt tokens) λ r a g. gives g
