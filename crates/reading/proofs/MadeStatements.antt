-- The rules of constants and of statements make what is spelled by the tokens that they take, well formed and no deeper
-- than allowed.
use Rattle.std.proofs.Common.{◌≡◌, ℕ, zero, suc, Bool, true, false, not, List, [], ◌∷◌, Option, Some, None}
use Rattle.std.proofs.Common.{refl, sym, ap, subst, ◌∙◌}
use Rattle.place.specs.declared.Place.{Place}
use Rattle.lexer.specs.declared.token.Kind.{Kind}
use Rattle.lexer.specs.declared.token.Kind.TheVariants as kind
use Rattle.lexer.specs.declared.token.Symbol.TheVariants as symbol
use Rattle.lexer.specs.declared.token.Word.{Word}
use Rattle.lexer.specs.declared.token.Word.TheVariants as word
use Rattle.lexer.specs.declared.token.Token.{Token}
use Rattle.reading.specs.Lexemes.{Reads, symbol_at, word_at, of_kind, of_kind_at, sign_kind, direction_kind}
use Rattle.reading.specs.Notation as shape
use Rattle.reading.specs.Outline as form
use Rattle.reading.specs.Outline.{Outline, ◌⧺◌, kept, nothing, nested, has_items, ending}
use Rattle.reading.specs.Reading.{Reading, ◌>>=◌, pure, next_kind, more, ends, choose}
use Rattle.reading.specs.Expressions.{expression_below}
use Rattle.reading.specs.Statements.{sign, value, constant, row, behind_arm, arm_turn, parts_to_end, guard, control, initial, simple, compound, alternative}
use Rattle.reading.specs.Statements.{conditional, while_loop, repeat_loop, for_loop, arm, case_of, record_variable, with_fields, statement_by, statement}
use Rattle.reading.proofs.Makes.{Makes, thence, gives, deep_makes, refused, weaker, wanted, expect_makes, name_makes, number_makes, text_makes}
use Rattle.reading.proofs.Makes.{sign_makes, direction_makes}
use Rattle.reading.proofs.Loops.{Turned, loop_makes}
use Rattle.reading.proofs.Good.{Good, ◌⊕◌, none_good, kept_good, mark_good, word_good, form_good, nested_good, closed_good, if_good, unplaced}
use Rattle.reading.proofs.Good.{looks_here, looks_ahead, either_here, either_kind, if_makes, listed_makes}
use Rattle.reading.proofs.MadeExpressions.{selectors_makes, actuals_makes, none_selected, expression_made, below_made}

-- ---- constants

sign_made : (limit : ℕ) (tokens : List Token) → Makes sign tokens (Good limit tokens)
unfolding sign
sign_made limit tokens =
    either_here (sign_makes tokens) (λ mid q. q) (λ s a r. gives (kept_good (of_kind_at (sign_kind s.0) s.1) r)) (λ _. gives none_good)

value_made : (tokens : List Token) → Makes value tokens (λ l others. Reads tokens (l ∷ []) others)
unfolding value
value_made tokens = either_here (number_makes tokens) (λ mid q. q) (λ n a r. gives r) (λ _. name_makes tokens)

pub constant_made : (limit : ℕ) (tokens : List Token) → Makes constant tokens (Good limit tokens)
unfolding constant
constant_made limit tokens =
    either_here (text_makes kind.Text tokens) (λ mid q. q) (λ l a r. gives (none_good ⊕ kept_good l r))
    (λ _. thence (sign_made limit tokens) λ s a g. thence (value_made a) λ l b r. gives (g ⊕ kept_good l r))

row_made : (limit : ℕ) (tokens : List Token) → Makes row tokens
    (λ found others. (mid : List Token) × (place : Place) × Good limit tokens (form.separated symbol.Comma found) mid
    × Reads mid (of_kind_at (kind.Symbol symbol.Colon) place ∷ []) others)
unfolding row
row_made limit tokens =
    thence (listed_makes symbol.Comma limit constant (constant_made limit) tokens) λ found a g.
    thence (expect_makes (kind.Symbol symbol.Colon) a) λ place b r.
    gives (a, place, g.0, r)

-- ---- the parts of a case or a record, up to its `end`

abbrev pub Ended : ℕ → List Token → Option Bool → List Token → Type 0
Ended limit tokens (Some semicolon) others = Good limit tokens (ending semicolon) others
Ended limit tokens None others = (place : Place) × Reads tokens (of_kind_at (kind.Symbol symbol.Semicolon) place ∷ []) others

behind_arm_made : (limit : ℕ) (tokens : List Token) → Makes behind_arm tokens (Ended limit tokens)
unfolding behind_arm
behind_arm_made limit tokens =
    either_kind (kind.Symbol symbol.Semicolon) tokens
    (λ place a r. either_kind (kind.Word word.End) a
    (λ end b s. gives (kept_good (of_kind (kind.Symbol symbol.Semicolon)) (unplaced (kind.Symbol symbol.Semicolon) place tokens a r)
    ⊕ kept_good (of_kind (kind.Word word.End)) (unplaced (kind.Word word.End) end a b s)))
    (λ _. gives (place, r)))
    (λ _. thence (expect_makes (kind.Word word.End) tokens) λ end a s.
    gives (kept_good (of_kind (kind.Word word.End)) (unplaced (kind.Word word.End) end tokens a s)))

-- parts, and what ends them
pub record Ending (limit : ℕ) (tokens : List Token) (parts : Outline) (semicolon : Bool) (others : List Token) : Type 0 where
  pub middle : List Token
  pub listed : Good limit tokens parts middle
  pub ended : Good limit middle (ending semicolon) others

module _ (limit : ℕ) (part : Reading Outline) (part_makes : (tokens : List Token) → Makes part tokens (Good limit tokens)) where
  abbrev ToEnd : Unit {0} → List Token → List Outline × Bool → List Token → Type 0
  ToEnd state tokens r others = Ending limit tokens (form.led symbol.Semicolon r.0) r.1 others

  arm_ends : (tokens : List Token) (found : Option Bool) (mid : List Token) → Ended limit tokens found mid
      → Makes (choose found (λ semicolon. pure (ends semicolon)) (part >>= (λ a. pure (more tt a)))) mid (Turned (arm_turn part) ToEnd tt tokens)
  arm_ends tokens (Some semicolon) mid g = gives (record { middle = tokens; listed = none_good; ended = g })
  arm_ends tokens None mid g =
      thence (part_makes mid) λ a b h.
      gives (λ (found : List Outline × Bool) rest others.
      record { middle = others.middle; listed = mark_good symbol.Semicolon g.0 g.1 ⊕ (h ⊕ others.listed); ended = others.ended })

  arm_turn_made : (state : Unit {0}) (tokens : List Token) → Makes (arm_turn part state) tokens (Turned (arm_turn part) ToEnd state tokens)
  unfolding arm_turn
  arm_turn_made state tokens = thence (behind_arm_made limit tokens) λ found mid g. arm_ends tokens found mid g

  pub parts_made : (tokens : List Token) → Makes (parts_to_end part) tokens
      (λ r others. Ending limit tokens (form.separated symbol.Semicolon r.0) r.1 others × (has_items r.0 ≡ true))
  unfolding parts_to_end
  parts_made tokens =
      thence (part_makes tokens) λ one a g.
      thence (loop_makes (arm_turn part) ToEnd arm_turn_made tt a) λ others b h.
      gives (record { middle = h.middle; listed = g ⊕ h.listed; ended = h.ended }, refl)

-- ---- statements

-- a statement, behind which no `else` comes that it might take
pub record Stated (limit : ℕ) (tokens : List Token) (o : Outline) (others : List Token) : Type 0 where
  pub good : Good limit tokens o others
  pub whole : o.ends_open ≡ true → ¬ (next_kind others ≡ Some (kind.Word word.Else))

pub ended_so : {limit : ℕ} {a b : List Token} {o : Outline} → o.ends_open ≡ false → Good limit a o b → Stated limit a o b
ended_so e g = record { good = g; whole = λ is. absurd (let no : true ≡ false = sym is ∙ e in cc) }

guard_made : (levels : ℕ) (w : Word) (tokens : List Token) → Makes (guard levels w) tokens
    (λ e others. (mid : List Token) × (place : Place) × Good levels tokens e mid × Reads mid (of_kind_at (kind.Word w) place ∷ []) others)
unfolding guard
guard_made levels w tokens = thence (expression_made levels tokens) λ e a g. thence (expect_makes (kind.Word w) a) λ place b r. gives (a, place, g, r)

pub control_made : (tokens : List Token) → Makes control tokens
    (λ c others. (a b : List Token) × (place : Place) × Reads tokens (word_at word.For c.0 ∷ []) a × Reads a (c.1 ∷ []) b
    × Reads b (of_kind_at (kind.Symbol symbol.Becomes) place ∷ []) others)
unfolding control
control_made tokens =
    thence (expect_makes (kind.Word word.For) tokens) λ place a r.
    thence (name_makes a) λ name b n.
    thence (expect_makes (kind.Symbol symbol.Becomes) b) λ becomes c m.
    gives (a, b, becomes, r, n, m)

initial_made : (levels : ℕ) (tokens : List Token) → Makes (initial levels) tokens
    (λ i others. (mid : List Token) × Good levels tokens i.0 mid × Reads mid (of_kind (direction_kind i.1) ∷ []) others)
unfolding initial
initial_made levels tokens =
    thence (expression_made levels tokens) λ first a g.
    thence (wanted (direction_makes a)) λ direction b r.
    gives (a, g, r)

simple_made : (levels : ℕ) (tokens : List Token) → Makes (simple levels) tokens (Stated (suc levels) tokens)
unfolding simple
simple_made levels tokens =
    thence (name_makes tokens) λ name a r.
    thence (selectors_makes levels (expression_below levels) (below_made levels) a) λ found b s.
    either_kind (kind.Symbol symbol.Becomes) b
    (λ place c m. thence (expression_made levels c) λ value d g.
    gives (ended_so refl (closed_good (nested_good (form_good shape.assignment
    (kept_good name r ⊕ (s.good ⊕ (kept_good (symbol_at symbol.Becomes place) m ⊕ g))))))))
    (λ _. if_makes (has_items found.0) (λ _. refused) (λ none.
    thence (actuals_makes levels (expression_below levels) (below_made levels) b) λ given c g.
    gives (ended_so refl (closed_good (nested_good (form_good shape.procedure_call
    (kept_good name (subst (λ t. Reads tokens (name ∷ []) t) (none_selected levels (expression_below levels) (below_made levels) found s none) r) ⊕ g)))))))

pub record_variable_made : (levels : ℕ) (tokens : List Token) → Makes (record_variable levels) tokens (Good levels tokens)
unfolding record_variable
record_variable_made levels tokens =
    thence (name_makes tokens) λ name a r.
    thence (selectors_makes levels (expression_below levels) (below_made levels) a) λ found b s.
    gives (form_good shape.record_variable (kept_good name r ⊕ s.good))

module _ (levels : ℕ) (inner : Reading Outline) (makes : (tokens : List Token) → Makes inner tokens (Stated levels tokens)) where
  good_makes : (tokens : List Token) → Makes inner tokens (Good levels tokens)
  good_makes tokens = weaker (λ o others g. g.good) (makes tokens)

  pub compound_made : (tokens : List Token) → Makes (compound inner) tokens
      (λ c others. (a b : List Token) × (place : Place) × Reads tokens (of_kind_at (kind.Word word.Begin) place ∷ []) a
      × Good levels a (form.separated symbol.Semicolon c.0) b × Reads b (of_kind_at (kind.Word word.End) c.1 ∷ []) others)
  unfolding compound
  compound_made tokens =
      thence (expect_makes (kind.Word word.Begin) tokens) λ place a r.
      thence (listed_makes symbol.Semicolon levels inner good_makes a) λ found b g.
      thence (expect_makes (kind.Word word.End) b) λ end c e.
      gives (a, b, place, r, g.0, e)

  -- an alternative behind its `else`, or none where no `else` comes
  abbrev Other : List Token → Option Outline → List Token → Type 0
  Other tokens (Some o) others = (place : Place) × (mid : List Token) × Reads tokens (of_kind_at (kind.Word word.Else) place ∷ []) mid × Stated levels mid o
      others
  Other tokens None others = (tokens ≡ others) × ¬ (next_kind others ≡ Some (kind.Word word.Else))

  alternative_made : (tokens : List Token) → Makes (alternative levels inner) tokens (Other tokens)
  unfolding alternative
  alternative_made tokens =
      either_kind (kind.Word word.Else) tokens (λ place a r. thence (makes a) λ o b g. gives (place, a, r, g)) (λ other. gives (refl, other))

  conditional_ends : (tokens a b c : List Token) (place then_place : Place) (condition consequence : Outline) (found : Option Outline) (others : List Token)
      → Reads tokens (of_kind_at (kind.Word word.If) place ∷ []) a → Good levels a condition b → Reads b (of_kind_at (kind.Word word.Then) then_place ∷ []) c
      → (d : List Token) → Stated levels c consequence d → Other d found others
      → Makes (choose found (λ o. pure (form.with_else place condition consequence o)) (pure (form.conditional place condition consequence))) others
      (Stated (suc levels) tokens)
  conditional_ends tokens a b c place then_place condition consequence (Some o) others r g s d x (at, mid, e, y) =
      gives (record {
        good = nested_good (if_good (not consequence.ends_open) (closed_before consequence.ends_open refl) (form_good shape.conditional
            (kept_good (word_at word.If place) r ⊕ (g ⊕ (word_good word.Then then_place s ⊕ (x.good ⊕ (word_good word.Else at e ⊕ y.good)))))));
        whole = y.whole;
      })
    where
      closed_before : (b : Bool) → consequence.ends_open ≡ b → not b ≡ true
      closed_before false h = refl
      closed_before true h = absurd (x.whole h (ap next_kind e.2 ∙ ap Some e.3.kind))
  conditional_ends tokens a b c place then_place condition consequence None others r g s d x (same, other) =
      gives (record {
        good = opened (nested_good (form_good shape.conditional (kept_good (word_at word.If place) r ⊕ (g ⊕ (word_good word.Then then_place s ⊕
            ending_at x.good)))));
        whole = λ _. other;
      })
    where
      ending_at : Good levels c consequence d → Good levels c consequence others
      ending_at h = subst (λ t. Good levels c consequence t) same h

      opened : {limit : ℕ} {o : Outline} → Good limit tokens o others → Good limit tokens (record o { ends_open = true }) others
      opened h = record { spelled = h.spelled; well = h.well; nests = h.nests }

  conditional_made : (tokens : List Token) → Makes (conditional levels inner) tokens (Stated (suc levels) tokens)
  unfolding conditional
  conditional_made tokens =
      thence (expect_makes (kind.Word word.If) tokens) λ place a r.
      thence (guard_made levels word.Then a) λ condition c g.
      thence (makes c) λ consequence d x.
      thence (alternative_made d) λ found others y.
      conditional_ends tokens a g.0 c place g.1 condition consequence found others r g.2 g.3 d x y

  while_made : (tokens : List Token) → Makes (while_loop levels inner) tokens (Stated (suc levels) tokens)
  unfolding while_loop
  while_made tokens =
      thence (expect_makes (kind.Word word.While) tokens) λ place a r.
      thence (guard_made levels word.Do a) λ condition c g.
      thence (makes c) λ body d x.
      gives (record {
        good = nested_good (form_good shape.while_loop (kept_good (word_at word.While place) r ⊕ (g.2 ⊕ (word_good word.Do g.1 g.3 ⊕ x.good))));
        whole = x.whole;
      })

  with_made : (tokens : List Token) → Makes (with_fields levels inner) tokens (Stated (suc levels) tokens)
  unfolding with_fields
  with_made tokens =
      thence (expect_makes (kind.Word word.With) tokens) λ place a r.
      thence (listed_makes symbol.Comma levels (record_variable levels) (record_variable_made levels) a) λ records b g.
      thence (expect_makes (kind.Word word.Do) b) λ at c d.
      thence (makes c) λ body e x.
      gives (record {
        good = nested_good (form_good shape.with_fields (kept_good (word_at word.With place) r ⊕ (g.0 ⊕ (word_good word.Do at d ⊕ x.good))));
        whole = x.whole;
      })

  repeat_made : (tokens : List Token) → Makes (repeat_loop levels inner) tokens (Stated (suc levels) tokens)
  unfolding repeat_loop
  repeat_made tokens =
      thence (expect_makes (kind.Word word.Repeat) tokens) λ place a r.
      thence (listed_makes symbol.Semicolon levels inner good_makes a) λ statements b g.
      thence (expect_makes (kind.Word word.Until) b) λ until c u.
      thence (expression_made levels c) λ condition d e.
      gives (ended_so refl (closed_good (nested_good (form_good shape.repeat_loop
      (kept_good (word_at word.Repeat place) r ⊕ (g.0 ⊕ (word_good word.Until until u ⊕ e)))))))

  for_made : (tokens : List Token) → Makes (for_loop levels inner) tokens (Stated (suc levels) tokens)
  unfolding for_loop
  for_made tokens =
      thence (control_made tokens) λ head a c.
      thence (initial_made levels a) λ first b i.
      thence (guard_made levels word.Do b) λ last d g.
      thence (makes d) λ body e x.
      gives (record {
        good = nested_good (form_good shape.for_loop (kept_good (word_at word.For head.0) c.3 ⊕ (kept_good head.1 c.4
            ⊕ (mark_good symbol.Becomes c.2 c.5 ⊕ (i.1 ⊕ (kept_good (of_kind (direction_kind first.1)) i.2
            ⊕ (g.2 ⊕ (word_good word.Do g.1 g.3 ⊕ x.good))))))));
        whole = x.whole;
      })

  pub arm_made : (tokens : List Token) → Makes (arm levels inner) tokens (Good levels tokens)
  unfolding arm
  arm_made tokens =
      thence (row_made levels tokens) λ constants a g.
      thence (makes a) λ s b x.
      gives (form_good shape.arm (g.2 ⊕ (mark_good symbol.Colon g.1 g.3 ⊕ x.good)))

  case_made : (tokens : List Token) → Makes (case_of levels inner) tokens (Stated (suc levels) tokens)
  unfolding case_of
  case_made tokens =
      thence (expect_makes (kind.Word word.Case) tokens) λ place a r.
      thence (guard_made levels word.Of a) λ index c g.
      thence (parts_made levels (arm levels inner) arm_made c) λ found d x.
      gives (ended_so refl (closed_good (nested_good (form_good shape.case
      (kept_good (word_at word.Case place) r ⊕ (g.2 ⊕ (word_good word.Of g.1 g.3 ⊕ (x.0.listed ⊕ x.0.ended))))))))

  begin_made : (tokens : List Token) → Makes (compound inner >>= (λ c. pure (form.compound c.0))) tokens (Stated (suc levels) tokens)
  begin_made tokens =
      thence (compound_made tokens) λ c others g.
      gives (ended_so refl (nested_good (form_good shape.compound (word_good word.Begin g.2 g.3 ⊕ (g.4 ⊕ word_good word.End c.1 g.5)))))

  empty_made : (tokens : List Token) → Makes (pure form.empty) tokens (Stated (suc levels) tokens)
  empty_made tokens = gives (ended_so refl (nested_good (form_good shape.empty none_good)))

  by_word : (w : Word) (tokens : List Token) → Makes (statement_by levels inner (Some (kind.Word w))) tokens (Stated (suc levels) tokens)
  by_word word.Begin tokens = begin_made tokens
  by_word word.If tokens = conditional_made tokens
  by_word word.While tokens = while_made tokens
  by_word word.Repeat tokens = repeat_made tokens
  by_word word.For tokens = for_made tokens
  by_word word.Case tokens = case_made tokens
  by_word word.With tokens = with_made tokens
  by_word _ tokens = empty_made tokens

  pub by_next : (next : Option Kind) (tokens : List Token) → Makes (statement_by levels inner next) tokens (Stated (suc levels) tokens)
  by_next None tokens = empty_made tokens
  by_next (Some kind.Identifier) tokens = simple_made levels tokens
  by_next (Some (kind.Word w)) tokens = by_word w tokens
  by_next (Some (kind.Number v)) tokens = empty_made tokens
  by_next (Some kind.Text) tokens = empty_made tokens
  by_next (Some (kind.Symbol s)) tokens = empty_made tokens

pub statement_made : (levels : ℕ) (tokens : List Token) → Makes (statement levels) tokens (Stated levels tokens)
statement_made zero tokens = looks_here (λ at. deep_makes {at = at})
statement_made (suc levels) tokens = looks_ahead (λ next. by_next levels (statement levels) (statement_made levels) next tokens)
