-- No rule leaves more tokens than it was given, and each turn of a loop but the last takes one.
use Rattle.std.proofs.Common.{◌≡◌, ℕ, suc, ◌<◌, ◌≤◌, Bool, true, false, List, [], ◌∷◌, length, Option, Some, None}
use Rattle.std.proofs.Common.{refl, ap, arith}
use Rattle.place.specs.declared.Place.{Place}
use Rattle.lexer.specs.declared.token.Kind.{Kind}
use Rattle.lexer.specs.declared.token.Kind.TheVariants as kind
use Rattle.lexer.specs.declared.token.Symbol.{Symbol}
use Rattle.lexer.specs.declared.token.Symbol.TheVariants as symbol
use Rattle.lexer.specs.declared.token.Word.TheVariants as word
use Rattle.lexer.specs.declared.token.Token.{Token}
use Rattle.reading.specs.Lexemes.{Lexeme, Spelling, Reads, of_kind_at, operator_kind}
use Rattle.reading.specs.Outline as form
use Rattle.reading.specs.Outline.{Outline, nested}
use Rattle.reading.specs.Reading.{Reading, ◌>>=◌, pure, choose, Turn, more, ends, led_turn, next_turn}
use Rattle.reading.specs.Expressions.{Below, index, unjoined, selector, actual, member, link_turn, expression, expression_below, factor, term}
use Rattle.reading.specs.Statements.{arm, behind_arm, arm_turn, constant, record_variable, statement}
use Rattle.reading.specs.Declarations as read
use Rattle.reading.proofs.Makes.{Makes, thence, gives, weaker, expect_makes, name_makes, operator_makes}
use Rattle.reading.proofs.Loops.{Uses}
use Rattle.reading.proofs.Good.{Good, nested_good, looks_here, looks_ahead, either_here, either_kind, if_makes}
use Rattle.reading.proofs.MadeExpressions.{expression_made, factor_made, term_makes, below_made}
use Rattle.reading.proofs.MadeStatements.{arm_made, statement_made, constant_made, record_variable_made}
use Rattle.reading.proofs.MadePrograms.{fields_made, formal_made, denoter_made, field_names_made, body_made, heading_made, block_made, BlockIn}

-- what is left is no more than before, and less behind a token
pub reads_no_more : (s : Spelling) (a b : List Token) → Reads a s b → length b ≤ length a
reads_no_more [] a b h = let e = ap length h in omega arith
reads_no_more (l ∷ s) a b h = let e = ap length h.2 in let m = reads_no_more s h.1 b h.4 in omega arith

pub reads_fewer : (l : Lexeme) (s : Spelling) (a b : List Token) → Reads a (l ∷ s) b → length b < length a
reads_fewer l s a b h = let e = ap length h.2 in let m = reads_no_more s h.1 b h.4 in omega arith

pub record NoMore {A : Type 0} (tokens : List Token) (made : A) (others : List Token) : Type 0 where
  pub most : length others ≤ length tokens

pub record Fewer {A : Type 0} (tokens : List Token) (made : A) (others : List Token) : Type 0 where
  pub fewer : length others < length tokens

abbrev pub NeverMore : {A : Type 0} → Reading A → Type 0
NeverMore {A} p = (tokens : List Token) → Makes p tokens (NoMore tokens)

abbrev pub TakesOne : {A : Type 0} → Reading A → Type 0
TakesOne {A} p = (tokens : List Token) → Makes p tokens (Fewer tokens)

good_no_more : {limit : ℕ} {tokens : List Token} (o : Outline) (others : List Token) → Good limit tokens o others → NoMore tokens o others
good_no_more {limit} {tokens} o others g = record { most = reads_no_more o.spelling tokens others g.spelled }

pub expression_no_more : (levels : ℕ) → NeverMore (expression levels)
expression_no_more levels tokens = weaker (λ o others. good_no_more o others) (expression_made levels tokens)

pub factor_no_more : (levels : ℕ) → NeverMore (factor levels)
factor_no_more levels tokens = weaker (λ o others g. good_no_more o others g.good) (factor_made levels tokens)

pub term_no_more : (levels : ℕ) → NeverMore (term levels)
term_no_more levels tokens = weaker (λ o others g. good_no_more o others g.good) (term_makes levels (factor levels) (factor_made levels) tokens)

pub below_no_more : (levels : ℕ) (at : Option Place) → NeverMore (expression_below levels at)
below_no_more levels at tokens = weaker (λ o others g. record { most = reads_no_more o.spelling tokens others g.spelled }) (below_made levels at tokens)

pub statement_no_more : (levels : ℕ) → NeverMore (statement levels)
statement_no_more levels tokens = weaker (λ o others g. good_no_more o others g.good) (statement_made levels tokens)

pub arm_no_more : (levels : ℕ) → NeverMore (arm levels (statement levels))
arm_no_more levels tokens = weaker (λ o others. good_no_more o others) (arm_made levels (statement levels) (statement_made levels) tokens)

pub record_variable_no_more : (levels : ℕ) → NeverMore (record_variable levels)
record_variable_no_more levels tokens = weaker (λ o others. good_no_more o others) (record_variable_made levels tokens)

pub constant_no_more : NeverMore constant
constant_no_more tokens = weaker (λ o others. good_no_more o others) (constant_made 0 tokens)

pub denoter_no_more : (levels : ℕ) → NeverMore (read.denoter levels)
denoter_no_more levels tokens = weaker (λ o others. good_no_more o others) (denoter_made levels tokens)

pub name_no_more : NeverMore read.name
unfolding read.name
name_no_more tokens = thence (name_makes tokens) λ n a r. gives (record { most = reads_no_more (n ∷ []) tokens a r })

pub fields_no_more : (levels : ℕ) → NeverMore (read.fields (read.denoter levels))
fields_no_more levels tokens = weaker (λ o others. good_no_more o others) (fields_made levels (read.denoter levels) (denoter_made levels) tokens)

pub formal_no_more : NeverMore read.formal
formal_no_more tokens = weaker (λ o others. good_no_more o others) (formal_made 0 tokens)

-- ---- the turns of loops

-- a turn that goes on took a token
abbrev pub TurnTakes : {S A B : Type 0} → List Token → Turn S A B → List Token → Type 0
TurnTakes tokens (more next a) others = length others < length tokens
TurnTakes tokens (ends b) others = Unit {0}

pub uses_of : {S A B : Type 0} (turn : S → Reading (Turn S A B)) → ((state : S) (tokens : List Token) → Makes (turn state) tokens (TurnTakes tokens)) → Uses
    turn
uses_of turn each state next a tokens others e = (each state tokens).makes (more next a, others) e

pub led_uses : {A : Type 0} (s : Symbol) (part : Reading A) → NeverMore part → Uses (led_turn s part)
unfolding led_turn
led_uses {A} s part fewer = uses_of (led_turn s part) each
  where
    each : (state : Unit {0}) (tokens : List Token) → Makes (led_turn s part state) tokens (TurnTakes tokens)
    each state tokens =
        either_kind (kind.Symbol s) tokens
        (λ place a r. thence (fewer a) λ x b n.
        gives (let m = n.most in let k = reads_fewer (of_kind_at (kind.Symbol s) place) [] tokens a r in omega arith))
        (λ _. gives tt)

pub next_uses : {A : Type 0} (test : Option Kind → Bool) (part : Reading A) → TakesOne part → Uses (next_turn test part)
unfolding next_turn
next_uses {A} test part fewer = uses_of (next_turn test part) each
  where
    each : (state : Unit {0}) (tokens : List Token) → Makes (next_turn test part state) tokens (TurnTakes tokens)
    each state tokens =
        looks_ahead (λ next. if_makes {p = part >>= (λ a. pure (more tt a))} {q = pure (ends tt)} (test next) (λ _. thence (fewer tokens) λ x a n. gives
        n.fewer) (λ _. gives tt))

pub link_uses : (level : ℕ) (operand : Reading Outline) → NeverMore operand → Uses (link_turn level operand)
unfolding link_turn
link_uses level operand fewer = uses_of (link_turn level operand) each
  where
    each : (state : Unit {0}) (tokens : List Token) → Makes (link_turn level operand state) tokens (TurnTakes tokens)
    each state tokens =
        either_here (operator_makes level tokens) (λ mid q. q)
        (λ o a r. thence (fewer a) λ x b n.
        gives (let m = n.most in let k = reads_fewer (of_kind_at (operator_kind o.0) o.1) [] tokens a r.1 in omega arith))
        (λ _. gives tt)

pub arm_uses : (part : Reading Outline) → NeverMore part → Uses (arm_turn part)
unfolding arm_turn behind_arm
arm_uses part fewer = uses_of (arm_turn part) each
  where
    behind : (tokens : List Token) (found : Option Bool) (mid : List Token) → (found ≡ None → length mid < length tokens)
        → Makes (choose found (λ semicolon. pure (ends semicolon)) (part >>= (λ a. pure (more (tt {0}) a)))) mid (TurnTakes tokens)
    behind tokens (Some semicolon) mid h = gives tt
    behind tokens None mid h = thence (fewer mid) λ x b n. gives (let m = n.most in let k = h refl in omega arith)

    ended : (tokens : List Token) → Makes behind_arm tokens (λ found mid. found ≡ None → length mid < length tokens)
    ended tokens =
        either_kind (kind.Symbol symbol.Semicolon) tokens
        (λ place a r. either_kind (kind.Word word.End) a (λ end b s. gives (λ none. absurd cc))
        (λ _. gives (λ _. reads_fewer (of_kind_at (kind.Symbol symbol.Semicolon) place) [] tokens a r)))
        (λ _. thence (expect_makes (kind.Word word.End) tokens) λ end a s. gives (λ none. absurd cc))

    each : (state : Unit {0}) (tokens : List Token) → Makes (arm_turn part state) tokens (TurnTakes tokens)
    each state tokens = thence (ended tokens) λ found mid h. behind tokens found mid h

module _ (inner : Below) (fewer : (at : Option Place) → NeverMore (inner at)) where
  index_no_more : NeverMore (index inner)
  unfolding index
  index_no_more tokens = looks_here (λ at. fewer at tokens)

  pub actual_no_more : NeverMore (actual inner)
  unfolding actual
  actual_no_more tokens =
      thence (index_no_more tokens) λ value a n.
      either_kind (kind.Symbol symbol.Colon) a
      (λ place b r. thence (index_no_more b) λ width c m.
      gives (record {
        most = let i = n.most in let j = m.most in let k = reads_fewer (of_kind_at (kind.Symbol symbol.Colon) place) [] a b r in omega arith;
      }))
      (λ _. gives (record { most = n.most }))

  pub member_no_more : NeverMore (member inner)
  unfolding member
  member_no_more tokens =
      thence (index_no_more tokens) λ first a n.
      either_kind (kind.Symbol symbol.Range) a
      (λ place b r. thence (index_no_more b) λ last c m.
      gives (record {
        most = let i = n.most in let j = m.most in let k = reads_fewer (of_kind_at (kind.Symbol symbol.Range) place) [] a b r in omega arith;
      }))
      (λ _. gives (record { most = n.most }))

  unjoined_takes : (within : Bool) (start tokens : List Token) → length tokens ≤ length start → Makes (unjoined inner within) tokens (TurnTakes start)
  unfolding unjoined
  unjoined_takes within start tokens h =
      either_kind (kind.Symbol symbol.OpenBracket) tokens
      (λ place a r. thence (index_no_more a) λ i b n.
      gives (let m = n.most in let k = reads_fewer (of_kind_at (kind.Symbol symbol.OpenBracket) place) [] tokens a r in omega arith))
      (λ _. either_kind (kind.Symbol symbol.Period) tokens
      (λ place a r. thence (name_makes a) λ name b n.
      gives (let m = reads_fewer name [] a b n in let k = reads_fewer (of_kind_at (kind.Symbol symbol.Period) place) [] tokens a r in omega arith))
      (λ _. gives tt))

  selector_takes : (within : Bool) (tokens : List Token) → Makes (selector inner within) tokens (TurnTakes tokens)
  selector_takes false tokens = unjoined_takes false tokens tokens (omega arith)
  selector_takes true tokens =
      either_kind (kind.Symbol symbol.Comma) tokens
      (λ place a r. thence (index_no_more a) λ i b n.
      gives (let m = n.most in let k = reads_fewer (of_kind_at (kind.Symbol symbol.Comma) place) [] tokens a r in omega arith))
      (λ _. thence (expect_makes (kind.Symbol symbol.CloseBracket) tokens) λ place a r.
      unjoined_takes true tokens a (let k = reads_fewer (of_kind_at (kind.Symbol symbol.CloseBracket) place) [] tokens a r in omega arith))

  pub selector_uses : Uses (selector inner)
  selector_uses = uses_of (selector inner) selector_takes

-- ---- what begins with a token of its own

pub definition_takes : TakesOne read.definition
unfolding read.definition
definition_takes tokens =
    thence (name_makes tokens) λ n a r.
    thence (expect_makes (kind.Symbol symbol.Equal) a) λ equal b e.
    thence (constant_no_more b) λ value c g.
    thence (expect_makes (kind.Symbol symbol.Semicolon) c) λ semicolon d s.
    gives (record {
      fewer =
          let h = reads_fewer n [] tokens a r in let i = reads_fewer (of_kind_at (kind.Symbol symbol.Equal) equal) [] a b e in let j = g.most in
          let k = reads_fewer (of_kind_at (kind.Symbol symbol.Semicolon) semicolon) [] c d s in omega arith;
    })

pub type_takes : (levels : ℕ) → TakesOne (read.type_definition levels)
unfolding read.type_definition
type_takes levels tokens =
    thence (name_makes tokens) λ n a r.
    thence (expect_makes (kind.Symbol symbol.Equal) a) λ equal b e.
    thence (denoter_no_more levels b) λ d c g.
    thence (expect_makes (kind.Symbol symbol.Semicolon) c) λ semicolon f s.
    gives (record {
      fewer =
          let h = reads_fewer n [] tokens a r in let i = reads_fewer (of_kind_at (kind.Symbol symbol.Equal) equal) [] a b e in let j = g.most in
          let k = reads_fewer (of_kind_at (kind.Symbol symbol.Semicolon) semicolon) [] c f s in omega arith;
    })

pub group_takes : (levels : ℕ) → TakesOne (read.group levels)
unfolding read.group
group_takes levels tokens =
    thence (field_names_made 0 tokens) λ found a g.
    thence (denoter_no_more levels a) λ d b h.
    thence (expect_makes (kind.Symbol symbol.Semicolon) b) λ semicolon c s.
    gives (record {
      fewer =
          let m = reads_no_more (form.separated symbol.Comma found).spelling tokens g.middle g.good.spelled in
          let i = reads_fewer (of_kind_at (kind.Symbol symbol.Colon) g.place) [] g.middle a g.colon in let j = h.most in
          let k = reads_fewer (of_kind_at (kind.Symbol symbol.Semicolon) semicolon) [] b c s in omega arith;
    })

pub routine_takes : (limit : ℕ) (inner : Below) → BlockIn limit inner → TakesOne (read.routine inner)
unfolding read.routine
routine_takes limit inner nests tokens =
    thence (heading_made limit tokens) λ h a g.
    thence (body_made limit inner nests h.1 a) λ b c x.
    thence (expect_makes (kind.Symbol symbol.Semicolon) c) λ semicolon d s.
    gives (record {
      fewer =
          let i = reads_no_more h.0.spelling tokens a g.spelled in let j = reads_no_more b.spelling a c x.spelled in
          let k = reads_fewer (of_kind_at (kind.Symbol symbol.Semicolon) semicolon) [] c d s in omega arith;
    })

pub block_nests : (levels : ℕ) → BlockIn (suc levels) (λ at. read.block levels)
block_nests levels at tokens = weaker (λ o others g. nested_good g) (block_made levels tokens)
