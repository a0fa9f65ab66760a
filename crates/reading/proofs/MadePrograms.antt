-- The rules of types, of declarations and of programs make what is spelled by the tokens that they take, well formed and
-- no deeper than allowed.
use Rattle.std.proofs.Common.{◌≡◌, ℕ, zero, suc, Bool, true, false, if◌then◌else◌, List, [], ◌∷◌, Option, Some, None, is_some}
use Rattle.std.proofs.Common.{nat_eq, map, codes, refl, sym, ap, subst}
use Rattle.std.specs.Char.{to_ascii_lowercase}
use Rattle.std.specs.Cmp.Lexicographic.{pointwise}
use Rattle.place.specs.declared.Place.{Place}
use Rattle.lexer.specs.declared.token.Kind.{Kind}
use Rattle.lexer.specs.declared.token.Kind.TheVariants as kind
use Rattle.lexer.specs.declared.token.Symbol.{Symbol}
use Rattle.lexer.specs.declared.token.Symbol.TheVariants as symbol
use Rattle.lexer.specs.declared.token.Word.{Word}
use Rattle.lexer.specs.declared.token.Word.TheVariants as word
use Rattle.lexer.specs.declared.token.Token.{Token}
use Rattle.reading.specs.Lexemes.{Spelling, IsSpelledBy, Reads, symbol_at, word_at, of_kind, of_kind_at, forward}
use Rattle.reading.specs.Notation as shape
use Rattle.reading.specs.Outline as form
use Rattle.reading.specs.Outline.{Outline, ◌⧺◌, kept, nothing, nested, has_items, row, in_parentheses, packing, passing}
use Rattle.reading.specs.Reading.{Reading, ◌>>=◌, pure, too_deep, here, same_kind, is_kind, is_forward, forward_taken}
use Rattle.reading.specs.Reading.{word_taken}
use Rattle.reading.specs.Expressions.{Below}
use Rattle.reading.specs.Statements.{statement}
use Rattle.reading.specs.Declarations as read
use Rattle.reading.specs.Declarations.{name_of, lone_name, denoter_by, begins_routine, finish}
use Rattle.reading.proofs.Makes.{Makes, thence, gives, deep_makes, refused, weaker, taken_makes, token_makes, expect_makes, name_makes}
use Rattle.reading.proofs.Makes.{same_kind_true}
use Rattle.reading.proofs.Makes.{ReadingTakes, if_some, Spelled, spelled_by}
use Rattle.reading.proofs.Tests.{and_left, and_right, same_letters}
use Rattle.reading.proofs.Good.{Good, ◌⊕◌, none_good, kept_good, mark_good, word_good, form_good, nested_good, if_good, IsListed, unplaced}
use Rattle.reading.proofs.Good.{looks_here, looks_ahead, either_here, either_kind, if_makes, listed_makes, many_makes, parenthesized_good}
use Rattle.reading.proofs.MadeStatements.{constant_made, parts_made, Ending, compound_made, statement_made}

-- ---- names and constants

name_made : (limit : ℕ) (tokens : List Token) → Makes read.name tokens (Good limit tokens)
unfolding read.name
name_made limit tokens = thence (name_makes tokens) λ n a r. gives (kept_good n r)

names_made : (limit : ℕ) (tokens : List Token) → Makes read.names tokens (IsListed symbol.Comma limit tokens)
unfolding read.names
names_made limit tokens = listed_makes symbol.Comma limit read.name (name_made limit) tokens

-- names, and the colon behind them
pub record WithColon (limit : ℕ) (tokens : List Token) (names : List Outline) (others : List Token) : Type 0 where
  pub middle : List Token
  pub place : Place
  pub good : Good limit tokens (form.separated symbol.Comma names) middle
  pub colon : Reads middle (of_kind_at (kind.Symbol symbol.Colon) place ∷ []) others

pub field_names_made : (limit : ℕ) (tokens : List Token) → Makes read.field_names tokens (WithColon limit tokens)
unfolding read.field_names
field_names_made limit tokens =
    thence (names_made limit tokens) λ found a g.
    thence (expect_makes (kind.Symbol symbol.Colon) a) λ place b r.
    gives (record { middle = a; place = place; good = g.0; colon = r })

part_made : (limit : ℕ) (w : Word) (item : Reading Outline) → ((tokens : List Token) → Makes item tokens (Good limit tokens)) → (tokens : List Token)
    → Makes (read.part w item) tokens (λ parts others. Good limit tokens (form.part w parts) others)
unfolding read.part
part_made limit w item makes tokens =
    either_kind (kind.Word w) tokens
    (λ place a r. thence (makes a) λ one b g.
    thence (many_makes (is_kind kind.Identifier) limit item makes b) λ others c h.
    gives (word_good w place r ⊕ (g ⊕ h)))
    (λ _. gives none_good)

definition_made : (limit : ℕ) (tokens : List Token) → Makes read.definition tokens (Good limit tokens)
unfolding read.definition
definition_made limit tokens =
    thence (name_makes tokens) λ n a r.
    thence (expect_makes (kind.Symbol symbol.Equal) a) λ equal b e.
    thence (constant_made limit b) λ value c g.
    thence (expect_makes (kind.Symbol symbol.Semicolon) c) λ semicolon d s.
    gives (form_good shape.definition (kept_good n r ⊕ (mark_good symbol.Equal equal e ⊕ (g ⊕ mark_good symbol.Semicolon semicolon s))))

-- ---- types

enumerated_made : (limit : ℕ) (tokens : List Token) → Makes read.enumerated tokens (Good (suc limit) tokens)
unfolding read.enumerated
enumerated_made limit tokens =
    thence (expect_makes (kind.Symbol symbol.OpenParenthesis) tokens) λ left a r.
    thence (names_made limit a) λ found b g.
    thence (expect_makes (kind.Symbol symbol.CloseParenthesis) b) λ close c s.
    gives (nested_good (form_good shape.enumeration
    (mark_good symbol.OpenParenthesis left r ⊕ (g.0 ⊕ mark_good symbol.CloseParenthesis close s))))

lone_made : (limit : ℕ) (tokens others : List Token) (s : Spelling) → Reads tokens s others
    → Makes (lone_name (name_of s)) others (Good (suc limit) tokens)
lone_made limit tokens others [] r = refused
lone_made limit tokens others (l ∷ []) r = by (is_kind kind.Identifier (Some l.kind))
  where
    by : (b : Bool) → Makes (lone_name (if b then Some l else None)) others (Good (suc limit) tokens)
    by true = gives (nested_good (kept_good l r))
    by false = refused
lone_made limit tokens others (l ∷ m ∷ s) r = refused

subrange_made : (limit : ℕ) (tokens : List Token) → Makes read.name_or_subrange tokens (Good (suc limit) tokens)
unfolding read.name_or_subrange
subrange_made limit tokens =
    thence (constant_made limit tokens) λ first a g.
    either_kind (kind.Symbol symbol.Range) a
    (λ place b r. thence (constant_made limit b) λ last c h.
    gives (nested_good (form_good shape.subrange (g ⊕ (kept_good (symbol_at symbol.Range place) r ⊕ h)))))
    (λ _. lone_made limit tokens a first.spelling g.spelled)

-- a word symbol, or nothing
optional_word : (w : Word) (of : Bool → Outline) (limit : ℕ) → (of false ≡ nothing) → (of true ≡ kept (of_kind (kind.Word w)))
    → (tokens : List Token) → Makes (word_taken w >>= (λ place. pure (is_some place))) tokens (λ b others. Good limit tokens (of b) others)
optional_word w of limit none some tokens = thence (taken_makes (kind.Word w) tokens) λ found a q. by found a q
  where
    by : (found : Option Place) (a : List Token) → ReadingTakes (kind.Word w) tokens found a
        → Makes (pure (is_some found)) a (λ b others. Good limit tokens (of b) others)
    by (Some place) a r = gives (subst (λ o. Good limit tokens o a) (sym some) (kept_good (of_kind (kind.Word w)) (unplaced (kind.Word w) place tokens a r)))
    by None a q = gives (subst (λ o. Good limit tokens o a) (sym none) (subst (λ t. Good limit tokens nothing t) q.0 none_good))

packed_made : (limit : ℕ) (tokens : List Token) → Makes read.packed tokens (λ p others. Good limit tokens (packing p) others)
unfolding read.packed
packed_made limit tokens = optional_word word.Packed packing limit refl refl tokens

module _ (limit : ℕ) (denoter : Reading Outline) (makes : (tokens : List Token) → Makes denoter tokens (Good limit tokens)) where
  array_made : (start tokens : List Token) (p : Bool) → Good limit start (packing p) tokens
      → Makes (read.array denoter) tokens (λ a others. Good (suc limit) start (form.array p a.0 a.1 a.2) others)
  unfolding read.array
  array_made start tokens p packed =
      thence (expect_makes (kind.Word word.Array) tokens) λ place a r.
      thence (expect_makes (kind.Symbol symbol.OpenBracket) a) λ left b o.
      thence (listed_makes symbol.Comma limit denoter makes b) λ indexes c g.
      thence (expect_makes (kind.Symbol symbol.CloseBracket) c) λ close d e.
      thence (expect_makes (kind.Word word.Of) d) λ of f w.
      thence (makes f) λ element h x.
      gives (nested_good (form_good shape.array (packed ⊕ (kept_good (word_at word.Array place) r ⊕ (mark_good symbol.OpenBracket left o
      ⊕ (g.0 ⊕ (mark_good symbol.CloseBracket close e ⊕ (word_good word.Of of w ⊕ x))))))))

  pub fields_made : (tokens : List Token) → Makes (read.fields denoter) tokens (Good limit tokens)
  unfolding read.fields
  fields_made tokens =
      thence (field_names_made limit tokens) λ found a g.
      thence (makes a) λ d b h.
      gives (form_good shape.field (g.good ⊕ (mark_good symbol.Colon g.place g.colon ⊕ h)))

  listed_fields : {a c : List Token} (found : List Outline) (semicolon : Bool) → has_items found ≡ true
      → Ending limit a (form.separated symbol.Semicolon found) semicolon c → Good limit a (form.field_list found semicolon) c
  listed_fields [] semicolon some e = absurd cc
  listed_fields (one ∷ others) semicolon some e = e.listed ⊕ e.ended

  record_made : (start tokens : List Token) (p : Bool) → Good limit start (packing p) tokens
      → Makes (read.record_type denoter) tokens (λ r others. Good (suc limit) start (form.record_type p r.0 r.1 r.2) others)
  unfolding read.record_type
  record_made start tokens p packed =
      thence (expect_makes (kind.Word word.Record) tokens) λ place a r.
      either_kind (kind.Word word.End) a
      (λ end b e. gives (nested_good (form_good shape.fields (packed ⊕ (kept_good (word_at word.Record place) r
      ⊕ if_good true refl (kept_good (of_kind (kind.Word word.End)) (unplaced (kind.Word word.End) end a b e)))))))
      (λ _. thence (parts_made limit (read.fields denoter) fields_made a) λ found b g.
      gives (nested_good (form_good shape.fields (packed ⊕ (kept_good (word_at word.Record place) r ⊕ listed_fields found.0 found.1 g.1 g.0)))))

  set_made : (start tokens : List Token) (p : Bool) → Good limit start (packing p) tokens
      → Makes (read.set_type denoter) tokens (λ s others. Good (suc limit) start (form.set_type p s.0 s.1) others)
  unfolding read.set_type
  set_made start tokens p packed =
      thence (expect_makes (kind.Word word.Set) tokens) λ place a r.
      thence (expect_makes (kind.Word word.Of) a) λ of b w.
      thence (makes b) λ base c x.
      gives (nested_good (form_good shape.set_type (packed ⊕ (kept_good (word_at word.Set place) r ⊕ (word_good word.Of of w ⊕ x)))))

  structured_made : (tokens : List Token) → Makes (read.structured denoter) tokens (Good (suc limit) tokens)
  unfolding read.structured
  structured_made tokens =
      thence (packed_made limit tokens) λ p a g.
      looks_ahead (λ next. if_makes (is_kind (kind.Word word.Array) next) (λ _. thence (array_made tokens a p g) λ x b h. gives h)
      (λ _. if_makes (is_kind (kind.Word word.Set) next) (λ _. thence (set_made tokens a p g) λ x b h. gives h)
      (λ _. thence (record_made tokens a p g) λ x b h. gives h)))

  by_symbol : (s : Symbol) (tokens : List Token) → Makes (denoter_by denoter (Some (kind.Symbol s))) tokens (Good (suc limit) tokens)
  by_symbol symbol.OpenParenthesis tokens = enumerated_made limit tokens
  by_symbol _ tokens = subrange_made limit tokens

  by_next : (next : Option Kind) (tokens : List Token) → Makes (denoter_by denoter next) tokens (Good (suc limit) tokens)
  by_next None tokens = subrange_made limit tokens
  by_next (Some kind.Identifier) tokens = subrange_made limit tokens
  by_next (Some (kind.Word w)) tokens = structured_made tokens
  by_next (Some (kind.Number v)) tokens = subrange_made limit tokens
  by_next (Some kind.Text) tokens = subrange_made limit tokens
  by_next (Some (kind.Symbol s)) tokens = by_symbol s tokens

pub denoter_made : (levels : ℕ) (tokens : List Token) → Makes (read.denoter levels) tokens (Good levels tokens)
denoter_made zero tokens = looks_here (λ at. deep_makes {at = at})
denoter_made (suc levels) tokens = looks_ahead (λ next. by_next levels (read.denoter levels) (denoter_made levels) next tokens)

type_made : (levels : ℕ) (tokens : List Token) → Makes (read.type_definition levels) tokens (Good levels tokens)
unfolding read.type_definition
type_made levels tokens =
    thence (name_makes tokens) λ n a r.
    thence (expect_makes (kind.Symbol symbol.Equal) a) λ equal b e.
    thence (denoter_made levels b) λ d c g.
    thence (expect_makes (kind.Symbol symbol.Semicolon) c) λ semicolon f s.
    gives (form_good shape.type_definition (kept_good n r ⊕ (mark_good symbol.Equal equal e ⊕ (g ⊕ mark_good symbol.Semicolon semicolon s))))

group_made : (levels : ℕ) (tokens : List Token) → Makes (read.group levels) tokens (Good levels tokens)
unfolding read.group
group_made levels tokens =
    thence (field_names_made levels tokens) λ found a g.
    thence (denoter_made levels a) λ d b h.
    thence (expect_makes (kind.Symbol symbol.Semicolon) b) λ semicolon c s.
    gives (form_good shape.group (g.good ⊕ (mark_good symbol.Colon g.place g.colon ⊕ (h ⊕ mark_good symbol.Semicolon semicolon s))))

-- ---- procedures and functions

passing_made : (limit : ℕ) (tokens : List Token) → Makes read.passing tokens (λ by others. Good limit tokens (passing by) others)
unfolding read.passing
passing_made limit tokens = optional_word word.Var passing limit refl refl tokens

pub formal_made : (limit : ℕ) (tokens : List Token) → Makes read.formal tokens (Good limit tokens)
unfolding read.formal
formal_made limit tokens =
    thence (passing_made limit tokens) λ by a p.
    thence (field_names_made limit a) λ found b g.
    thence (name_makes b) λ n c r.
    gives (form_good shape.formal (p ⊕ (g.good ⊕ (mark_good symbol.Colon g.place g.colon ⊕ kept_good n r))))

formals_made : (limit : ℕ) (tokens : List Token) → Makes read.formals tokens (λ found others. Good limit tokens (in_parentheses symbol.Semicolon found) others)
unfolding read.formals
formals_made limit tokens =
    either_kind (kind.Symbol symbol.OpenParenthesis) tokens
    (λ left a r. thence (listed_makes symbol.Semicolon limit read.formal (formal_made limit) a) λ found b g.
    thence (expect_makes (kind.Symbol symbol.CloseParenthesis) b) λ close c s.
    gives (parenthesized_good symbol.Semicolon found g.1
    (mark_good symbol.OpenParenthesis left r ⊕ (g.0 ⊕ mark_good symbol.CloseParenthesis close s))))
    (λ _. gives none_good)

procedure_made : (limit : ℕ) (tokens : List Token) → Makes read.procedure tokens (λ h others. Good limit tokens h.0 others)
unfolding read.procedure
procedure_made limit tokens =
    thence (expect_makes (kind.Word word.Procedure) tokens) λ place a r.
    thence (name_makes a) λ n b m.
    thence (formals_made limit b) λ found c g.
    thence (expect_makes (kind.Symbol symbol.Semicolon) c) λ semicolon d s.
    gives (form_good shape.procedure_heading (word_good word.Procedure place r ⊕ (kept_good n m ⊕ (g ⊕ mark_good symbol.Semicolon semicolon s))))

signature_made : (limit : ℕ) (tokens : List Token) → Makes read.signature tokens
    (λ s others. Good limit tokens (in_parentheses symbol.Semicolon s.0 ⧺ form.mark symbol.Colon ⧺ kept s.1 ⧺ form.mark symbol.Semicolon) others)
unfolding read.signature
signature_made limit tokens =
    thence (formals_made limit tokens) λ found a g.
    thence (expect_makes (kind.Symbol symbol.Colon) a) λ colon b c.
    thence (name_makes b) λ result d n.
    thence (expect_makes (kind.Symbol symbol.Semicolon) d) λ semicolon e s.
    gives (g ⊕ (mark_good symbol.Colon colon c ⊕ (kept_good result n ⊕ mark_good symbol.Semicolon semicolon s)))

function_made : (limit : ℕ) (tokens : List Token) → Makes read.function tokens (λ h others. Good limit tokens h.0 others)
unfolding read.function
function_made limit tokens =
    thence (expect_makes (kind.Word word.Function) tokens) λ place a r.
    thence (name_makes a) λ n b m.
    either_kind (kind.Symbol symbol.Semicolon) b
    (λ semicolon c s. gives (form_good shape.resumed_heading (word_good word.Function place r ⊕ (kept_good n m ⊕ mark_good symbol.Semicolon semicolon s))))
    (λ _. thence (signature_made limit b) λ s c g.
    gives (form_good shape.function_heading (word_good word.Function place r ⊕ (kept_good n m ⊕ g))))

pub heading_made : (limit : ℕ) (tokens : List Token) → Makes read.heading tokens (λ h others. Good limit tokens h.0 others)
unfolding read.heading
heading_made limit tokens =
    looks_ahead (λ next. if_makes (is_kind (kind.Word word.Procedure) next) (λ _. procedure_made limit tokens) (λ _. function_made limit tokens))

forward_made : (tokens : List Token) → Makes forward_taken tokens (Spelled (λ (u : Unit {0}). forward) tokens)
unfolding forward_taken
forward_made tokens =
    weaker (spelled_by (λ (u : Unit {0}). forward) (λ token. if is_forward token then Some tt else None) is tokens)
    (token_makes (λ token. if is_forward token then Some (tt {0}) else None) tokens)
  where
    is : (token : Token) (u : Unit {0}) → (if is_forward token then Some tt else None) ≡ Some u → IsSpelledBy forward token
    is token u h =
        let yes = (if_some (is_forward token) tt u h).0 in
        record {
          kind = same_kind_true token.kind kind.Identifier
              (and_left (same_kind token.kind kind.Identifier) (pointwise nat_eq (map to_ascii_lowercase token.text.now) (codes "forward")) yes);
          text = tt;
          letters = same_letters (map to_ascii_lowercase token.text.now) (codes "forward")
              (and_right (same_kind token.kind kind.Identifier) (pointwise nat_eq (map to_ascii_lowercase token.text.now) (codes "forward")) yes);
          place = tt;
        }

abbrev pub BlockIn : ℕ → Below → Type 0
BlockIn limit inner = (at : Option Place) (tokens : List Token) → Makes (inner at) tokens (λ o others. Good limit tokens (nested o) others)

module _ (limit : ℕ) (inner : Below) (nests : BlockIn limit inner) where
  block_in : (tokens : List Token) → Makes (here >>= inner >>= (λ b. pure (form.body b))) tokens (Good limit tokens)
  block_in tokens = thence (looks_here (λ at. nests at tokens)) λ b a g. gives g

  pub body_made : (may : Bool) (tokens : List Token) → Makes (read.body inner may) tokens (Good limit tokens)
  unfolding read.body
  body_made true tokens = either_here (forward_made tokens) (λ mid q. q) (λ u a r. gives (if_good true refl (kept_good forward r))) (λ _. block_in tokens)
  body_made false tokens = block_in tokens

  routine_made : (tokens : List Token) → Makes (read.routine inner) tokens (Good limit tokens)
  unfolding read.routine
  routine_made tokens =
      thence (heading_made limit tokens) λ h a g.
      thence (body_made h.1 a) λ b c x.
      thence (expect_makes (kind.Symbol symbol.Semicolon) c) λ semicolon d s.
      gives (form_good shape.routine (g ⊕ (x ⊕ mark_good symbol.Semicolon semicolon s)))

-- ---- blocks and programs

statement_part_made : (levels : ℕ) (tokens : List Token) → Makes (read.statement_part levels) tokens
    (λ s others. Good levels tokens (form.statement_part s.0 s.1) others)
statement_part_made zero tokens = looks_here (λ at. deep_makes {at = at})
statement_part_made (suc levels) tokens =
    weaker (λ c others g. nested_good (word_good word.Begin g.2 g.3 ⊕ (g.4 ⊕ kept_good (word_at word.End c.1) g.5)))
    (compound_made levels (statement levels) (statement_made levels) tokens)

block_makes : (levels : ℕ) (inner : Below) → BlockIn levels inner → (tokens : List Token) → Makes (read.block_of levels inner) tokens (Good levels tokens)
unfolding read.block_of
block_makes levels inner nests tokens =
    thence (part_made levels word.Const read.definition (definition_made levels) tokens) λ c a g.
    thence (part_made levels word.Type (read.type_definition levels) (type_made levels) a) λ t b h.
    thence (part_made levels word.Var (read.group levels) (group_made levels) b) λ v d i.
    thence (many_makes begins_routine levels (read.routine inner) (routine_made levels inner nests) d) λ r e j.
    thence (statement_part_made levels e) λ s f k.
    gives (form_good shape.block (g ⊕ (h ⊕ (i ⊕ (j ⊕ k)))))

pub block_made : (levels : ℕ) (tokens : List Token) → Makes (read.block levels) tokens (Good levels tokens)
block_made zero tokens = block_makes zero too_deep (λ at t. deep_makes) tokens
block_made (suc levels) tokens =
    block_makes (suc levels) (λ at. read.block levels) (λ at t. weaker (λ o others g. nested_good g) (block_made levels t)) tokens

parameters_made : (limit : ℕ) (tokens : List Token) → Makes read.parameters tokens (λ found others. Good limit tokens (in_parentheses symbol.Comma found)
    others)
unfolding read.parameters
parameters_made limit tokens =
    either_kind (kind.Symbol symbol.OpenParenthesis) tokens
    (λ left a r. thence (names_made limit a) λ found b g.
    thence (expect_makes (kind.Symbol symbol.CloseParenthesis) b) λ close c s.
    gives (parenthesized_good symbol.Comma found g.1 (mark_good symbol.OpenParenthesis left r ⊕ (g.0 ⊕ mark_good symbol.CloseParenthesis close s))))
    (λ _. gives none_good)

finish_made : (tokens : List Token) → Makes finish tokens (λ u others. (tokens ≡ []) × (others ≡ []))
finish_made [] = record { makes = λ made h. let same : (tt, []) ≡ made = cc in (refl, ap (λ (m : Unit {0} × List Token). m.1) (sym same)) }
finish_made (token ∷ others) = record { makes = λ made h. absurd cc }

-- a program is spelled by all of the tokens
pub program_made : (limit : ℕ) (tokens : List Token) → Makes (read.program limit) tokens (λ o others. Good limit tokens o [] × (others ≡ []))
unfolding read.program
program_made limit tokens =
    thence (expect_makes (kind.Word word.Program) tokens) λ place a r.
    thence (name_makes a) λ n b m.
    thence (parameters_made limit b) λ found c g.
    thence (expect_makes (kind.Symbol symbol.Semicolon) c) λ semicolon d s.
    thence (block_made limit d) λ block e h.
    thence (expect_makes (kind.Symbol symbol.Period) e) λ period f p.
    thence (finish_made f) λ u others q.
    gives (
      form_good shape.program (word_good word.Program place r ⊕ (kept_good n m ⊕ (form_good shape.parameters g
          ⊕ (mark_good symbol.Semicolon semicolon s ⊕ (h ⊕ mark_good symbol.Period period (subst (λ t. Reads e (of_kind_at (kind.Symbol symbol.Period) period ∷
          []) t) q.0 p)))))),
      q.1,
    )
