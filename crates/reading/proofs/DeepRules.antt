-- Each rule stops for nesting only where the tokens up to the place open as many levels as are left below it.
use Rattle.std.proofs.Common.{◌≡◌, ℕ, zero, suc, ◌+◌, ◌≤◌, Bool, true, false, if◌then◌else◌, List, [], ◌∷◌, Option, Some, None, is_some, Ok, Err}
use Rattle.std.proofs.Common.{refl, ap, ◌∙◌, arith}
use Rattle.place.specs.declared.Place.{Place}
use Rattle.lexer.specs.declared.token.Kind.{Kind}
use Rattle.lexer.specs.declared.token.Kind.TheVariants as kind
use Rattle.lexer.specs.declared.token.Symbol.{Symbol}
use Rattle.lexer.specs.declared.token.Symbol.TheVariants as symbol
use Rattle.lexer.specs.declared.token.Word.{Word}
use Rattle.lexer.specs.declared.token.Word.TheVariants as word
use Rattle.lexer.specs.declared.token.Token.{Token}
use Rattle.reading.specs.declared.refusal.Refusal.TheVariants.{NoProgram, TooDeep}
use Rattle.reading.specs.Deep.{opens, last, OpensUpTo}
use Rattle.reading.specs.Lexemes.{Lexeme, Reads, of_kind_at, sign_kind}
use Rattle.reading.specs.Outline as form
use Rattle.reading.specs.Outline.{Outline, has_items, nothing, kept, sum_level, product_level}
use Rattle.reading.specs.Reading.{Outcome, Reading, and_then, expect, ◌>>=◌, pure, too_deep, here, next_kind, is_kind, more}
use Rattle.reading.specs.Reading.{ends}
use Rattle.reading.specs.Expressions as read
use Rattle.reading.specs.Expressions.{Below, term_of, simple_of, expression_of, factor, expression, expression_below, factor_below}
use Rattle.reading.specs.Statements as state
use Rattle.reading.specs.Statements.{statement_by, statement}
use Rattle.reading.specs.Declarations as declare
use Rattle.reading.specs.Declarations.{name_of, lone_name, denoter_by, begins_routine, finish}
use Rattle.reading.proofs.Makes.{Makes, split, thence, gives, expect_makes}
use Rattle.reading.proofs.Good.{either_kind}
use Rattle.reading.proofs.MadeStatements.{control_made}
use Rattle.reading.proofs.Nests.{Front, at_start, front_of, further, Nests, fewer_levels, nests_then, nests_pure, nests_refuse, nests_choose}
use Rattle.reading.proofs.Nests.{nests_on}
use Rattle.reading.proofs.Nests.{nests_if, nests_peek, nests_here, nests_nowhere, nests_taken, nests_text, nests_number, nests_sign, nests_direction}
use Rattle.reading.proofs.Nests.{nests_operator, nests_relational}
use Rattle.reading.proofs.Nests.{same_place, then_opened, same_stop, other_refusal, leaves_make, nests_forward, nests_wanted, nests_expect, nests_name}
use Rattle.reading.proofs.Nests.{opening, on_opening, Steps, loop_nests, nests_loop, nests_separated, nests_many}

-- ---- expressions

module _ (limit : ℕ) (inner : Below) (index_nests : Nests limit (here >>= inner)) where
  indexed : Nests limit (read.index inner)
  unfolding read.index
  indexed = index_nests

  actual_nests : Nests limit (read.actual inner)
  unfolding read.actual
  actual_nests =
      nests_then indexed (λ value. nests_on (nests_taken (kind.Symbol symbol.Colon)) (λ p. nests_then indexed (λ width. nests_pure (form.wide_actual value
      width)))
      (nests_pure (form.actual value)))

  pub actuals_nest : Nests (suc limit) (read.actuals inner)
  unfolding read.actuals
  actuals_nest =
      on_opening (kind.Symbol symbol.OpenParenthesis) refl
      (λ p. nests_then (nests_separated symbol.Comma actual_nests) (λ found. nests_then (nests_expect (kind.Symbol symbol.CloseParenthesis)) (λ end.
      nests_pure found)))
      (nests_pure [])

  member_nests : Nests limit (read.member inner)
  unfolding read.member
  member_nests =
      nests_then indexed (λ first. nests_on (nests_taken (kind.Symbol symbol.Range)) (λ p. nests_then indexed (λ last. nests_pure (form.range first last)))
      (nests_pure (form.single first)))

  set_nests : (place : Place) → Nests limit (read.set inner place)
  unfolding read.set read.members
  set_nests place =
      nests_then (nests_on (nests_taken (kind.Symbol symbol.CloseBracket)) (λ p. nests_pure []) (nests_then (nests_separated symbol.Comma member_nests)
      (λ found. nests_then (nests_expect (kind.Symbol symbol.CloseBracket)) (λ end. nests_pure found)))) (λ found. nests_pure (form.set place found))

  -- where brackets are open the first of them opened a level
  abbrev left_in : Bool → ℕ
  left_in false = suc limit
  left_in true = limit

  closed_nests : (within : Bool) → Nests (suc limit) (read.unjoined inner within)
  unfolding read.unjoined
  closed_nests within =
      on_opening (kind.Symbol symbol.OpenBracket) refl (λ place. nests_then indexed (λ i. nests_pure (more true (form.index within place i))))
      (nests_on (nests_taken (kind.Symbol symbol.Period)) (λ p. nests_then nests_name (λ name. nests_pure (more false (form.field within name))))
      (nests_pure (ends (form.closing within))))

  selector_true : Nests limit (read.selector inner true)
  selector_true =
      nests_on (nests_taken (kind.Symbol symbol.Comma)) (λ place. nests_then indexed (λ i. nests_pure (more true (form.joined_index true place i))))
      (nests_then (nests_expect (kind.Symbol symbol.CloseBracket)) (λ p. fewer_levels limit (omega arith) (closed_nests true)))

  selector_deep : (within : Bool) → Nests (left_in within) (read.selector inner within)
  selector_deep false = closed_nests false
  selector_deep true = selector_true

  index_front : {n : ℕ} {start tokens mid last : List Token} (place : Place) (k : Kind) → Front n start tokens → Reads tokens (of_kind_at k place ∷ []) mid
      → Front 0 mid last → Front (n + opens k) start last
  index_front {n} place k f r g =
      let h = further (further f (front_of (of_kind_at k place ∷ []) _ _ r)) g in
      record { front = h.front; are = h.are; many = let m = h.many in omega arith }

  unjoined_steps : (within : Bool) (start tokens : List Token) → Front 0 start tokens → left_in within ≤ limit + 1
      → Makes (read.unjoined inner within) tokens (Steps (read.selector inner) left_in within start)
  unfolding read.unjoined
  unjoined_steps within start tokens f less =
      either_kind (kind.Symbol symbol.OpenBracket) tokens
      (λ place a r. thence (leaves_make indexed a) λ i b g. gives (1, index_front place (kind.Symbol symbol.OpenBracket) f r g, less))
      (λ _. either_kind (kind.Symbol symbol.Period) tokens
      (λ place a r. thence (leaves_make {n = 0} nests_name a) λ name b g. gives (0, index_front place (kind.Symbol symbol.Period) f r g, omega arith))
      (λ _. gives f))

  selector_steps : (within : Bool) (tokens : List Token) → Makes (read.selector inner within) tokens (Steps (read.selector inner) left_in within tokens)
  selector_steps false tokens = unjoined_steps false tokens tokens at_start (omega arith)
  selector_steps true tokens =
      either_kind (kind.Symbol symbol.Comma) tokens
      (λ place a r. thence (leaves_make indexed a) λ i b g. gives (0, index_front place (kind.Symbol symbol.Comma) at_start r g, omega arith))
      (λ _. thence (expect_makes (kind.Symbol symbol.CloseBracket) tokens) λ place a r.
      unjoined_steps true tokens a (index_front place (kind.Symbol symbol.CloseBracket) at_start r at_start) (omega arith))

  pub selectors_nest : Nests (suc limit) (read.selectors inner)
  unfolding read.selectors
  selectors_nest =
      loop_nests (read.selector inner) left_in (record { steps = selector_steps; deep = λ s. (selector_deep s).deep }) false

  pub named_nests : Nests (suc limit) (read.named inner)
  unfolding read.named
  named_nests =
      nests_then nests_name (λ name. nests_then selectors_nest (λ found. nests_if (has_items found.0) (nests_pure (form.component name found))
      (nests_then actuals_nest (λ given. nests_pure (if has_items given then form.call name given else form.named name)))))

  pub factor_nests : (operand : Below) → Nests limit (here >>= operand) → Nests (suc limit) (read.parenthesized inner) → Nests (suc limit) (read.any_factor
      inner operand)
  unfolding read.any_factor read.negated
  factor_nests operand below parenthesized =
      nests_on nests_number (λ n. nests_pure (form.number n.0 n.1)) (nests_on (nests_text kind.Text) (λ text. nests_pure (form.string text))
      (nests_then nests_peek (λ next. nests_if (is_kind kind.Identifier next) named_nests
      (on_opening (kind.Word word.Not) refl (λ place. nests_then below (λ o. nests_pure (form.negated place o)))
      (on_opening (kind.Symbol symbol.OpenBracket) refl set_nests parenthesized)))))

-- a parenthesis below which no level is left
parenthesized_zero : Nests 1 (read.parenthesized too_deep)
unfolding read.parenthesized
parenthesized_zero = record {
  leaves = λ tokens a mid e. absurd (never tokens (expect (kind.Symbol symbol.OpenParenthesis) tokens) (a, mid) e);
  deep = λ tokens at left e. by tokens (expect (kind.Symbol symbol.OpenParenthesis) tokens) refl at left e;
}
  where
    never : (tokens : List Token) (o : Outcome Place) (made : Outline × List Token)
        → and_then o (λ place. too_deep (Some place) >>= (λ e. expect (kind.Symbol symbol.CloseParenthesis) >>= (λ end. pure (form.parenthesized place e))))
        ≡ Ok made → ⊥
    never tokens (Ok place) made e = absurd cc
    never tokens (Err stop) made e = absurd cc

    by : (tokens : List Token) (o : Outcome Place) → expect (kind.Symbol symbol.OpenParenthesis) tokens ≡ o → (at : Option Place) (left : List Token)
        → and_then o (λ place. too_deep (Some place) >>= (λ e. expect (kind.Symbol symbol.CloseParenthesis) >>= (λ end. pure (form.parenthesized place e))))
        ≡ Err (TooDeep at, left)
        → OpensUpTo 1 at tokens
    by tokens (Ok made) is at left e =
        let r = (expect_makes (kind.Symbol symbol.OpenParenthesis) tokens).makes made is in
        let same : Some made.0 ≡ at = same_place (Some made.0) at made.1 left
        (same_stop {A = Outline} (TooDeep (Some made.0), made.1) (TooDeep at, left) e) in
        record {
          before = r.0 ∷ [];
          behind = made.1;
          are = r.2 ∙ ap (λ ts. r.0 ∷ ts) r.4;
          many = let one : opens r.0.kind ≡ 1 = ap opens r.3.kind in omega arith;
          stands = last [] r.0 refl (ap Some r.3.place ∙ same);
        }
    by tokens (Err stop) is at left e =
        (nests_expect {n = 1} (kind.Symbol symbol.OpenParenthesis)).deep tokens at left (is ∙ ap Err (same_stop {A = Outline} stop (TooDeep at, left) e))

chain_nests : {n : ℕ} (level : ℕ) {first operand : Reading Outline} → Nests n first → Nests n operand → Nests n (read.chain level first operand)
unfolding read.chain read.link_turn
chain_nests level {first} {operand} f g =
    nests_then f (λ x. nests_then (nests_loop (read.link_turn level operand)
    (λ state. nests_on (nests_operator level) (λ o. nests_then g (λ y. nests_pure (more tt (form.link o.0 o.1 y)))) (nests_pure (ends tt))) tt) (λ links.
    nests_pure (form.chain x links.0)))

expressions_nest : {n : ℕ} {any : Reading Outline} → Nests n any → Nests n (expression_of any)
unfolding read.relation_of read.signed
expressions_nest {n} {any} h =
    let term = chain_nests product_level h h in
    let signed : Nests n (read.signed (term_of any)) = nests_on nests_sign (λ s. nests_then term (λ t. nests_pure (form.signed s.0 s.1 t))) term in
    let simple = chain_nests sum_level signed term in
    nests_then simple (λ left. nests_on nests_relational (λ o. nests_then simple (λ right. nests_pure (form.relation left o.0 o.1 right)))
    (nests_pure left))

below_is : (levels : ℕ) → Nests (suc levels) (factor levels) → Nests (suc (suc levels)) (read.parenthesized (λ at. expression levels))
unfolding read.parenthesized
below_is levels h =
    opening (kind.Symbol symbol.OpenParenthesis) refl (λ place. nests_then (expressions_nest h)
    (λ e. nests_then (nests_expect (kind.Symbol symbol.CloseParenthesis)) (λ end. nests_pure (form.parenthesized place e))))

pub factor_deep : (levels : ℕ) → Nests (suc levels) (factor levels)
factor_deep zero = factor_nests zero too_deep nests_nowhere too_deep nests_nowhere parenthesized_zero
factor_deep (suc levels) =
    let h = factor_deep levels in
    factor_nests (suc levels) (λ at. expression levels) (nests_then nests_here (λ at. expressions_nest h)) (λ at. factor levels) (nests_then nests_here (λ
    at. h)) (below_is levels h)

pub expression_deep : (levels : ℕ) → Nests (suc levels) (expression levels)
expression_deep levels = expressions_nest (factor_deep levels)

below_deep : (levels : ℕ) → Nests levels (here >>= expression_below levels)
below_deep zero = nests_nowhere
below_deep (suc levels) = nests_then nests_here (λ at. expression_deep levels)

-- ---- constants and statements

constant_nests : {n : ℕ} → Nests n state.constant
unfolding state.constant state.sign state.value
constant_nests =
    nests_on (nests_text kind.Text) (λ text. nests_pure (form.constant nothing text))
    (nests_then (nests_on nests_sign (λ s. nests_pure (kept (of_kind_at (sign_kind s.0) s.1))) (nests_pure nothing))
    (λ s. nests_then (nests_on nests_number (λ n. nests_pure (of_kind_at (kind.Number n.0) n.1)) nests_name) (λ v. nests_pure (form.constant s v))))

row_nests : {n : ℕ} → Nests n state.row
unfolding state.row
row_nests = nests_then (nests_separated symbol.Comma constant_nests) (λ found. nests_then (nests_expect (kind.Symbol symbol.Colon)) (λ p. nests_pure found))

behind_arm_nests : {n : ℕ} → Nests n state.behind_arm
unfolding state.behind_arm
behind_arm_nests =
    nests_on (nests_taken (kind.Symbol symbol.Semicolon)) (λ p. nests_on (nests_taken (kind.Word word.End)) (λ q. nests_pure (Some true)) (nests_pure None))
    (nests_then (nests_expect (kind.Word word.End)) (λ p. nests_pure (Some false)))

parts_nest : {n : ℕ} {part : Reading Outline} → Nests n part → Nests n (state.parts_to_end part)
unfolding state.parts_to_end state.arm_turn
parts_nest {n} {part} h =
    nests_then h (λ one. nests_then (nests_loop (state.arm_turn part)
    (λ s. nests_then behind_arm_nests (λ end. nests_choose {some = λ semicolon. pure (ends semicolon)} {none = part >>= (λ a. pure (more tt a))} end
    (λ semicolon. nests_pure (ends semicolon)) (nests_then h (λ a. nests_pure (more tt a))))) tt) (λ others. nests_pure (one ∷ others.0, others.1)))

guard_nests : (levels : ℕ) (w : Word) → Nests (suc levels) (state.guard levels w)
unfolding state.guard
guard_nests levels w = nests_then (expression_deep levels) (λ e. nests_then (nests_expect (kind.Word w)) (λ p. nests_pure e))

simple_nests : (levels : ℕ) → Nests (suc levels) (state.simple levels)
unfolding state.simple
simple_nests levels =
    let below = below_deep levels in
    nests_then nests_name (λ name. nests_then (selectors_nest levels (expression_below levels) below) (λ found.
    nests_on (nests_taken (kind.Symbol symbol.Becomes)) (λ place. nests_then (expression_deep levels) (λ v. nests_pure (form.assignment name found place v)))
    (nests_if (has_items found.0) nests_refuse (nests_then (actuals_nest levels (expression_below levels) below) (λ given. nests_pure (form.procedure_call
    name given))))))

-- a variable of a record, whose indexes are below it
record_nests : (levels : ℕ) → Nests levels (state.record_variable levels)
unfolding state.record_variable
record_nests levels =
    nests_then nests_name (λ name. nests_then (fewer_levels levels (omega arith) (selectors_nest levels (expression_below levels) (below_deep levels)))
    (λ found. nests_pure (form.record_variable name found)))

module _ (levels : ℕ) (inner : Reading Outline) (h : Nests levels inner) where
  guarded : (w : Word) → Nests levels (state.guard levels w)
  guarded w = fewer_levels levels (omega arith) (guard_nests levels w)

  expressed : Nests levels (expression levels)
  expressed = fewer_levels levels (omega arith) (expression_deep levels)

  pub compound_nests : Nests (suc levels) (state.compound inner)
  unfolding state.compound
  compound_nests =
      opening (kind.Word word.Begin) refl (λ p. nests_then (nests_separated symbol.Semicolon h)
      (λ found. nests_then (nests_expect (kind.Word word.End)) (λ end. nests_pure (found, end))))

  conditional_nests : Nests (suc levels) (state.conditional levels inner)
  unfolding state.conditional state.alternative
  conditional_nests =
      opening (kind.Word word.If) refl (λ place. nests_then (guarded word.Then) (λ c. nests_then h (λ s.
      nests_then (nests_on (nests_taken (kind.Word word.Else)) (λ p. nests_then h (λ a. nests_pure (Some a))) (nests_pure None)) (λ other.
      nests_choose {some = λ a. pure (form.with_else place c s a)} {none = pure (form.conditional place c s)} other (λ a. nests_pure (form.with_else place c
      s a))
      (nests_pure (form.conditional place c s))))))

  while_nests : Nests (suc levels) (state.while_loop levels inner)
  unfolding state.while_loop
  while_nests = opening (kind.Word word.While) refl (λ place. nests_then (guarded word.Do) (λ c. nests_then h (λ s. nests_pure (form.while_loop place c s))))

  with_nests : Nests (suc levels) (state.with_fields levels inner)
  unfolding state.with_fields
  with_nests =
      opening (kind.Word word.With) refl (λ place. nests_then (nests_separated symbol.Comma (record_nests levels)) (λ records.
      nests_then (nests_expect (kind.Word word.Do)) (λ p. nests_then h (λ s. nests_pure (form.with_fields place records s)))))

  repeat_nests : Nests (suc levels) (state.repeat_loop levels inner)
  unfolding state.repeat_loop
  repeat_nests =
      opening (kind.Word word.Repeat) refl (λ place. nests_then (nests_separated symbol.Semicolon h) (λ ss. nests_then (nests_expect (kind.Word word.Until))
      (λ p. nests_then expressed (λ c. nests_pure (form.repeat_loop place ss c)))))

  control_nests : Nests (suc levels) state.control
  unfolding state.control
  control_nests =
      nests_then (nests_expect (kind.Word word.For)) (λ place. nests_then nests_name (λ n. nests_then (nests_expect (kind.Symbol symbol.Becomes)) (λ p.
      nests_pure (place, n))))

  for_nests : Nests (suc levels) (state.for_loop levels inner)
  unfolding state.for_loop state.initial
  for_nests =
      then_opened {n = levels} {m = 1} control_front control_nests.deep (omega arith) (λ head.
      nests_then (nests_then expressed (λ x. nests_then (nests_then nests_direction nests_wanted) (λ d. nests_pure (x, d)))) (λ first.
      nests_then (guarded word.Do) (λ last. nests_then h (λ body. nests_pure (form.for_loop head.0 head.1 first.0 first.1 last body)))))
    where
      control_front : (tokens : List Token) (c : Place × Lexeme) (mid : List Token) → state.control tokens ≡ Ok (c, mid) → Front 1 tokens mid
      control_front tokens c mid e =
          let m = (control_made tokens).makes (c, mid) e in
          let f = further (front_of (of_kind_at (kind.Word word.For) c.0 ∷ []) tokens m.0 m.3)
          (further (front_of (c.1 ∷ []) m.0 m.1 m.4) (front_of (of_kind_at (kind.Symbol symbol.Becomes) m.2 ∷ []) m.1 mid m.5)) in
          record { front = f.front; are = f.are; many = let n = f.many in omega arith }

  case_nests : Nests (suc levels) (state.case_of levels inner)
  unfolding state.case_of state.arm
  case_nests =
      opening (kind.Word word.Case) refl (λ place. nests_then (guarded word.Of) (λ i. nests_then
      (parts_nest (nests_then row_nests (λ cs. nests_then h (λ s. nests_pure (form.arm cs s))))) (λ found. nests_pure (form.case place i found.0 found.1))))

  begin_nests : Nests (suc levels) (state.compound inner >>= (λ c. pure (form.compound c.0)))
  begin_nests = nests_then compound_nests (λ c. nests_pure (form.compound c.0))

  word_nests : (w : Word) → Nests (suc levels) (statement_by levels inner (Some (kind.Word w)))
  word_nests word.Begin = begin_nests
  word_nests word.If = conditional_nests
  word_nests word.While = while_nests
  word_nests word.Repeat = repeat_nests
  word_nests word.For = for_nests
  word_nests word.Case = case_nests
  word_nests word.With = with_nests
  word_nests _ = nests_pure form.empty

  statement_nests : (next : Option Kind) → Nests (suc levels) (statement_by levels inner next)
  statement_nests None = nests_pure form.empty
  statement_nests (Some kind.Identifier) = simple_nests levels
  statement_nests (Some (kind.Word w)) = word_nests w
  statement_nests (Some (kind.Number v)) = nests_pure form.empty
  statement_nests (Some kind.Text) = nests_pure form.empty
  statement_nests (Some (kind.Symbol s)) = nests_pure form.empty

pub statement_deep : (levels : ℕ) → Nests levels (statement levels)
statement_deep zero = nests_nowhere
statement_deep (suc levels) = nests_then nests_peek (statement_nests levels (statement levels) (statement_deep levels))

-- ---- types

name_nests : {n : ℕ} → Nests n declare.name
unfolding declare.name
name_nests = nests_then nests_name (λ l. nests_pure (kept l))

names_nest : {n : ℕ} → Nests n declare.names
unfolding declare.names
names_nest = nests_separated symbol.Comma name_nests

field_names_nest : {n : ℕ} → Nests n declare.field_names
unfolding declare.field_names
field_names_nest = nests_then names_nest (λ found. nests_then (nests_expect (kind.Symbol symbol.Colon)) (λ p. nests_pure found))

part_nests : {n : ℕ} (w : Word) {item : Reading Outline} → Nests n item → Nests n (declare.part w item)
unfolding declare.part
part_nests w h =
    nests_on (nests_taken (kind.Word w)) (λ p. nests_then h (λ one. nests_then (nests_many (is_kind kind.Identifier) h) (λ others. nests_pure (one ∷
    others)))) (nests_pure [])

definition_nests : {n : ℕ} → Nests n declare.definition
unfolding declare.definition
definition_nests =
    nests_then nests_name (λ n. nests_then (nests_expect (kind.Symbol symbol.Equal)) (λ p. nests_then constant_nests (λ v.
    nests_then (nests_expect (kind.Symbol symbol.Semicolon)) (λ q. nests_pure (form.definition n v)))))

enumerated_nests : {n : ℕ} → Nests n declare.enumerated
unfolding declare.enumerated
enumerated_nests =
    nests_then (nests_expect (kind.Symbol symbol.OpenParenthesis)) (λ p. nests_then names_nest (λ found.
    nests_then (nests_expect (kind.Symbol symbol.CloseParenthesis)) (λ q. nests_pure (form.enumerated found))))

lone_nests : {n : ℕ} (found : Option Lexeme) → Nests n (lone_name found)
lone_nests (Some l) = nests_pure (form.named_type l)
lone_nests None = nests_refuse

subrange_nests : {n : ℕ} → Nests n declare.name_or_subrange
unfolding declare.name_or_subrange
subrange_nests =
    nests_then constant_nests (λ first. nests_on (nests_taken (kind.Symbol symbol.Range)) (λ place. nests_then constant_nests (λ last. nests_pure
    (form.subrange first place last)))
    (lone_nests (name_of first.spelling)))

module _ (levels : ℕ) (inner : Reading Outline) (h : Nests levels inner) where
  array_nests : Nests (suc levels) (declare.array inner)
  unfolding declare.array
  array_nests =
      opening (kind.Word word.Array) refl (λ place. nests_then (nests_expect (kind.Symbol symbol.OpenBracket)) (λ p. nests_then (nests_separated
      symbol.Comma h) (λ found.
      nests_then (nests_expect (kind.Symbol symbol.CloseBracket)) (λ q. nests_then (nests_expect (kind.Word word.Of)) (λ r. nests_then h (λ d. nests_pure
      (place, found, d)))))))

  record_type_nests : Nests (suc levels) (declare.record_type inner)
  unfolding declare.record_type declare.fields
  record_type_nests =
      opening (kind.Word word.Record) refl (λ place. nests_on (nests_taken (kind.Word word.End)) (λ p. nests_pure (place, [], false))
      (nests_then (parts_nest (nests_then field_names_nest (λ found. nests_then h (λ d. nests_pure (form.fields found d))))) (λ found. nests_pure (
        place,
        found.0,
        found.1,
      ))))

  set_type_nests : Nests (suc levels) (declare.set_type inner)
  unfolding declare.set_type
  set_type_nests =
      opening (kind.Word word.Set) refl (λ place. nests_then (nests_expect (kind.Word word.Of)) (λ p. nests_then h (λ d. nests_pure (place, d))))

  structured_nests : Nests (suc levels) (declare.structured inner)
  unfolding declare.structured declare.packed
  structured_nests =
      nests_then (nests_then (nests_taken (kind.Word word.Packed)) (λ place. nests_pure (is_some place))) (λ p. nests_then nests_peek (λ next.
      nests_if (is_kind (kind.Word word.Array) next) (nests_then array_nests (λ a. nests_pure (form.array p a.0 a.1 a.2)))
      (nests_if (is_kind (kind.Word word.Set) next) (nests_then set_type_nests (λ s. nests_pure (form.set_type p s.0 s.1)))
      (nests_then record_type_nests (λ r. nests_pure (form.record_type p r.0 r.1 r.2))))))

  symbol_nests : (s : Symbol) → Nests (suc levels) (denoter_by inner (Some (kind.Symbol s)))
  symbol_nests symbol.OpenParenthesis = enumerated_nests
  symbol_nests _ = subrange_nests

  denoter_nests : (next : Option Kind) → Nests (suc levels) (denoter_by inner next)
  denoter_nests None = subrange_nests
  denoter_nests (Some kind.Identifier) = subrange_nests
  denoter_nests (Some (kind.Word w)) = structured_nests
  denoter_nests (Some (kind.Number v)) = subrange_nests
  denoter_nests (Some kind.Text) = subrange_nests
  denoter_nests (Some (kind.Symbol s)) = symbol_nests s

pub denoter_deep : (levels : ℕ) → Nests levels (declare.denoter levels)
denoter_deep zero = nests_nowhere
denoter_deep (suc levels) = nests_then nests_peek (denoter_nests levels (declare.denoter levels) (denoter_deep levels))

type_nests : (levels : ℕ) → Nests levels (declare.type_definition levels)
unfolding declare.type_definition
type_nests levels =
    nests_then nests_name (λ n. nests_then (nests_expect (kind.Symbol symbol.Equal)) (λ p. nests_then (denoter_deep levels) (λ d.
    nests_then (nests_expect (kind.Symbol symbol.Semicolon)) (λ q. nests_pure (form.type_definition n d)))))

group_nests : (levels : ℕ) → Nests levels (declare.group levels)
unfolding declare.group
group_nests levels =
    nests_then field_names_nest (λ found. nests_then (denoter_deep levels) (λ d. nests_then (nests_expect (kind.Symbol symbol.Semicolon)) (λ q. nests_pure
    (form.group found d))))

-- ---- procedures and functions, blocks and programs

formals_nest : {n : ℕ} → Nests n declare.formals
unfolding declare.formals declare.formal declare.passing
formals_nest =
    nests_on (nests_taken (kind.Symbol symbol.OpenParenthesis)) (λ p. nests_then (nests_separated symbol.Semicolon
    (nests_then (nests_then (nests_taken (kind.Word word.Var)) (λ place. nests_pure (is_some place))) (λ by. nests_then field_names_nest (λ found.
    nests_then nests_name (λ t. nests_pure (form.formal by found t)))))) (λ found. nests_then (nests_expect (kind.Symbol symbol.CloseParenthesis)) (λ q.
    nests_pure found)))
    (nests_pure [])

signature_nests : {n : ℕ} → Nests n declare.signature
unfolding declare.signature
signature_nests =
    nests_then formals_nest (λ found. nests_then (nests_expect (kind.Symbol symbol.Colon)) (λ q. nests_then nests_name (λ r.
    nests_then (nests_expect (kind.Symbol symbol.Semicolon)) (λ u. nests_pure (found, r)))))

heading_nests : {n : ℕ} → Nests n declare.heading
unfolding declare.heading declare.procedure declare.function
heading_nests =
    nests_then nests_peek (λ next. nests_if (is_kind (kind.Word word.Procedure) next)
    (nests_then (nests_expect (kind.Word word.Procedure)) (λ p. nests_then nests_name (λ n. nests_then formals_nest (λ found.
    nests_then (nests_expect (kind.Symbol symbol.Semicolon)) (λ q. nests_pure (form.procedure_heading n found, true))))))
    (nests_then (nests_expect (kind.Word word.Function)) (λ p. nests_then nests_name (λ n. nests_on (nests_taken (kind.Symbol symbol.Semicolon))
    (λ q. nests_pure (form.resumed_heading n, false))
    (nests_then signature_nests (λ s. nests_pure (form.function_heading n s.0 s.1, true)))))))

-- the tokens of a heading open a level
abbrev Opens : {A : Type 0} → Reading A → Type 0
Opens {A} p = (tokens : List Token) (a : A) (mid : List Token) → p tokens ≡ Ok (a, mid) → Front 1 tokens mid

opens_first : {B : Type 0} {f : Place → Reading B} (k : Kind) → opens k ≡ 1 → ((place : Place) → Nests 0 (f place)) → Opens (expect k >>= f)
opens_first {B} {f} k one rest tokens b mid e =
    let x = split (expect k tokens) f (b, mid) e in
    let g = further (front_of (of_kind_at k x.0.0 ∷ []) tokens x.0.1 ((expect_makes k tokens).makes x.0 x.1)) ((rest x.0.0).leaves x.0.1 b mid x.2) in
    record { front = g.front; are = g.are; many = let m = g.many in omega arith }

heading_opens : Opens declare.heading
unfolding declare.heading declare.procedure declare.function
heading_opens tokens = by (is_kind (kind.Word word.Procedure) (next_kind tokens)) tokens
  where
    by : (b : Bool) → Opens (if b then declare.procedure else declare.function)
    by true = opens_first (kind.Word word.Procedure) refl (λ p. nests_then nests_name (λ n. nests_then formals_nest (λ found.
        nests_then (nests_expect (kind.Symbol symbol.Semicolon)) (λ q. nests_pure (form.procedure_heading n found, true)))))
    by false = opens_first (kind.Word word.Function) refl (λ p. nests_then nests_name (λ n. nests_on (nests_taken (kind.Symbol symbol.Semicolon))
        (λ q. nests_pure (form.resumed_heading n, false))
        (nests_then signature_nests (λ s. nests_pure (form.function_heading n s.0 s.1, true)))))

module _ (levels least : ℕ) (inner : Below) (h : Nests levels (here >>= inner)) (less : least ≤ levels + 1) where
  body_nests : (may : Bool) → Nests levels (declare.body inner may)
  unfolding declare.body
  body_nests may =
      nests_on (nests_if may nests_forward (nests_pure None)) (λ u. nests_pure (form.directive may)) (nests_then h (λ b. nests_pure (form.body b)))

  pub routine_nests : Nests least (declare.routine inner)
  unfolding declare.routine
  routine_nests =
      then_opened {n = levels} {m = 1} heading_opens heading_nests.deep less (λ x. nests_then (body_nests x.1) (λ b.
      nests_then (nests_expect (kind.Symbol symbol.Semicolon)) (λ p. nests_pure (form.routine x.0 b))))

statements_nest : (levels : ℕ) → Nests levels (declare.statement_part levels)
statements_nest zero = nests_nowhere
statements_nest (suc levels) = compound_nests levels (statement levels) (statement_deep levels)

block_nests : (levels : ℕ) (inner : Below) → Nests levels (declare.routine inner) → Nests levels (declare.block_of levels inner)
unfolding declare.block_of
block_nests levels inner h =
    nests_then (part_nests word.Const definition_nests) (λ c. nests_then (part_nests word.Type (type_nests levels)) (λ t. nests_then (part_nests word.Var
    (group_nests levels)) (λ v.
    nests_then (nests_many begins_routine h) (λ r. nests_then (statements_nest levels) (λ s. nests_pure (form.block c t v r (form.statement_part s.0 s.1)))))))

pub block_deep : (levels : ℕ) → Nests levels (declare.block levels)
block_deep zero = block_nests zero too_deep (routine_nests zero zero too_deep nests_nowhere (omega arith))
block_deep (suc levels) =
    block_nests (suc levels) (λ at. declare.block levels)
    (routine_nests levels (suc levels) (λ at. declare.block levels) (nests_then nests_here (λ at. block_deep levels)) (omega arith))

finish_nests : {n : ℕ} → Nests n finish
finish_nests {n} = record { leaves = front; deep = never }
  where
    front : (tokens : List Token) (a : Unit {0}) (mid : List Token) → finish tokens ≡ Ok (a, mid) → Front 0 tokens mid
    front [] a mid e = record { front = []; are = (let x : (tt {0}, []) ≡ (a, mid) = cc in ap (λ (m : Unit {0} × List Token). m.1) x); many = omega arith }
    front (token ∷ others) a mid e = absurd cc

    never : (tokens : List Token) (at : Option Place) (left : List Token) → finish tokens ≡ Err (TooDeep at, left) → OpensUpTo n at tokens
    never [] at left e = absurd cc
    never (token ∷ others) at left e =
        absurd (other_refusal (token ∷ others) at left (same_stop {A = Unit {0}} (NoProgram, token ∷ others) (TooDeep at, left) e))

pub program_deep : (levels : ℕ) → Nests levels (declare.program levels)
unfolding declare.program declare.parameters
program_deep levels =
    nests_then (nests_expect (kind.Word word.Program)) (λ p. nests_then nests_name (λ n.
    nests_then (nests_on (nests_taken (kind.Symbol symbol.OpenParenthesis)) (λ q. nests_then names_nest (λ found.
    nests_then (nests_expect (kind.Symbol symbol.CloseParenthesis)) (λ r. nests_pure found))) (nests_pure [])) (λ found.
    nests_then (nests_expect (kind.Symbol symbol.Semicolon)) (λ q. nests_then (block_deep levels) (λ b.
    nests_then (nests_expect (kind.Symbol symbol.Period)) (λ r. nests_then finish_nests (λ u. nests_pure (form.program n found b))))))))
