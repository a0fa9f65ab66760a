-- What well formed constants and statements spell is read so.
use Rattle.std.proofs.Common.{◌≡◌, ℕ, zero, suc, ◌+◌, ◌≤◌, max, Bool, true, false, not, ◌&&◌, nat_eq, List, [], ◌∷◌, ◌++◌, length, map}
use Rattle.std.proofs.Common.{Option, Some, None, Ok, IfSome, refl, sym, ap, subst, ◌∙◌, arith}
use Rattle.std.specs.declared.alloc.Global.{Global}
use Rattle.std.specs.declared.vec.Vec.{Vec}
use Rattle.place.specs.declared.Place.{Place}
use Rattle.lexer.specs.declared.token.Kind.{Kind}
use Rattle.lexer.specs.declared.token.Kind.TheVariants as kind
use Rattle.lexer.specs.declared.token.Symbol.TheVariants as symbol
use Rattle.lexer.specs.declared.token.Word.{Word}
use Rattle.lexer.specs.declared.token.Word.TheVariants as word
use Rattle.lexer.specs.declared.token.Token.{Token}
use Rattle.syntax_tree.specs.Places.{arms_of}
use Rattle.syntax_tree.specs.declared.Name.{Name}
use Rattle.syntax_tree.specs.declared.Selector.{Selector}
use Rattle.syntax_tree.specs.declared.Sign.{Sign}
use Rattle.syntax_tree.specs.declared.Sign.TheVariants as sign
use Rattle.syntax_tree.specs.declared.SignAt.{SignAt}
use Rattle.syntax_tree.specs.declared.Constant.{Constant}
use Rattle.syntax_tree.specs.declared.ConstantValue.{ConstantValue}
use Rattle.syntax_tree.specs.declared.ConstantValue.TheVariants as value
use Rattle.syntax_tree.specs.declared.Direction.{Direction}
use Rattle.syntax_tree.specs.declared.Direction.TheVariants as direction
use Rattle.syntax_tree.specs.declared.Expr.{Expr}
use Rattle.syntax_tree.specs.declared.Actual.{Actual}
use Rattle.syntax_tree.specs.declared.RecordVariable.{RecordVariable}
use Rattle.syntax_tree.specs.declared.Stmt.{Stmt}
use Rattle.syntax_tree.specs.declared.Stmt.TheOpen as stmt
use Rattle.syntax_tree.specs.declared.Stmt.TheViews.{out-Stmt, roll-out-Stmt}
use Rattle.reading.specs.Lexemes.{Lexeme, Spelling, Reads, character_string, of_kind, of_kind_at, of_text, identifier, sign_kind, direction_kind, symbol_at}
use Rattle.reading.specs.Outline as form
use Rattle.reading.specs.Outline.{Outline, ◌⧺◌, nothing, kept, mark, nested, only_if, has_items, row_then, led, in_parentheses, ending}
use Rattle.reading.specs.Trees.{expr_outline, actual_outline, constant_outline, sign_outline, value_lexeme, may_stand, stmt_outline, arm_outline, selector_rows}
use Rattle.reading.specs.Trees.{record_outline}
use Rattle.reading.specs.Reading.{Reading, and_then, ◌>>=◌, ◌>>◌, pure, peek, next_kind, next_place, on, choose, taken, text_taken}
use Rattle.reading.specs.Reading.{number_taken, sign_taken, direction_taken, token_by, take_if, direction_in, or_refuse, more, ends, loop, separated}
use Rattle.reading.specs.Reading.{expect, expect_name}
use Rattle.reading.specs.Expressions.{expression_below, selectors}
use Rattle.reading.specs.Statements as read
use Rattle.reading.specs.Statements.{constant, behind_arm, arm_turn, parts_to_end, guard, control, initial, simple, compound, statement, statement_by}
use Rattle.reading.proofs.Tests.{and_left, and_right}
use Rattle.reading.proofs.Uses.{NeverMore, arm_uses, arm_no_more, below_no_more, statement_no_more, constant_no_more, record_variable_no_more}
use Rattle.reading.proofs.Outlines.{stmt_is, stmt_layer}
use Rattle.reading.proofs.Answers.{Answers, reads, stops, answered, says, done, answers_same, of_depth, deeper, parted}
use Rattle.reading.proofs.Answers.{takes_at, takes_of, expects_at, expects_of, misses, expects_name, follows, follows_first, next_first}
use Rattle.reading.proofs.ReadExpressions.{ReadsForm, NoSelector, turn_answers, turn_ends, listed_reads, other_first, first_is}
use Rattle.reading.proofs.ReadExpressions.{selectors_read, none_selected, actuals_read, expression_read, below_read}

-- ---- constants

abbrev pub Anything : Option Kind → Type 0
Anything next = Unit {0}

-- behind its sign
signed_constant : (g : Sign) (token : Token) (behind : List Token) → token.kind ≡ sign_kind g → (l : Lexeme) (others : List Token) → read.value behind ≡ Ok
    (l, others)
    → constant (token ∷ behind) ≡ Ok (form.constant (kept (of_kind_at (sign_kind g) token.place)) l, others)
unfolding constant read.sign text_taken sign_taken
signed_constant sign.Plus token behind is l others e =
    ap (λ j. constant (record { kind = j; text = token.text; place = token.place } ∷ behind)) is
    ∙ ap (λ o. and_then o (λ v. pure (form.constant (kept (of_kind_at (kind.Symbol symbol.Plus) token.place)) v))) e
signed_constant sign.Minus token behind is l others e =
    ap (λ j. constant (record { kind = j; text = token.text; place = token.place } ∷ behind)) is
    ∙ ap (λ o. and_then o (λ v. pure (form.constant (kept (of_kind_at (kind.Symbol symbol.Minus) token.place)) v))) e

pub constant_by : (limit : ℕ) (s : Option SignAt) (v : ConstantValue)
    → ReadsForm Anything limit constant (only_if (may_stand s v) (form.constant (sign_outline s) (value_lexeme v)))
unfolding constant read.sign read.value text_taken number_taken sign_taken
constant_by limit None (value.String t p) tokens others h w f =
    reads (omega arith) (ap constant (first_is kind.Text h.2 h.3.kind)
    ∙ ap (λ q. Ok (form.constant nothing (character_string q h.0.place), h.1)) h.3.text
    ∙ ap (λ q. Ok (form.constant nothing (character_string t.now q), h.1)) h.3.place
    ∙ ap (λ u. Ok (form.constant nothing (character_string t.now p), u)) h.4)
constant_by limit None (value.Number v p) tokens others h w f =
    reads (omega arith) (ap constant (first_is (kind.Number v) h.2 h.3.kind)
    ∙ ap (λ q. Ok (form.constant nothing (of_kind_at (kind.Number v) q), h.1)) h.3.place
    ∙ ap (λ u. Ok (form.constant nothing (of_kind_at (kind.Number v) p), u)) h.4)
constant_by limit None (value.Name n) tokens others h w f =
    reads (omega arith) (ap constant (first_is kind.Identifier h.2 h.3.kind)
    ∙ ap (λ q. Ok (form.constant nothing (of_text kind.Identifier q h.0.place), h.1)) h.3.text
    ∙ ap (λ q. Ok (form.constant nothing (of_text kind.Identifier n.text.now q), h.1)) h.3.place
    ∙ ap (λ u. Ok (form.constant nothing (identifier n), u)) h.4)
constant_by limit (Some s) (value.String t p) tokens others h w f = absurd cc
constant_by limit (Some s) (value.Number v p) tokens others h w f =
    let b = h.4 in
    reads (omega arith) (ap constant h.2 ∙ signed_constant s.sign h.0 h.1 h.3.kind (of_kind_at (kind.Number v) p)
    others (ap read.value (first_is (kind.Number v) b.2 b.3.kind) ∙ ap (λ q. Ok (of_kind_at (kind.Number v) q, b.1)) b.3.place
    ∙ ap (λ u. Ok (of_kind_at (kind.Number v) p, u)) b.4)
    ∙ ap (λ q. Ok (form.constant (kept (of_kind_at (sign_kind s.sign) q)) (of_kind_at (kind.Number v) p), others)) h.3.place)
constant_by limit (Some s) (value.Name n) tokens others h w f =
    let b = h.4 in
    reads (omega arith) (ap constant h.2 ∙ signed_constant s.sign h.0 h.1 h.3.kind (identifier n)
    others (ap read.value (first_is kind.Identifier b.2 b.3.kind) ∙ ap (λ q. Ok (of_text kind.Identifier q b.0.place, b.1)) b.3.text
    ∙ ap (λ q. Ok (of_text kind.Identifier n.text.now q, b.1)) b.3.place
    ∙ ap (λ u. Ok (identifier n, u)) b.4)
    ∙ ap (λ q. Ok (form.constant (kept (of_kind_at (sign_kind s.sign) q)) (identifier n), others)) h.3.place)

pub constant_reads : (limit : ℕ) (c : Constant) → ReadsForm Anything limit constant (constant_outline c)
constant_reads limit c = constant_by limit c.sign c.value

-- no constant begins with `end`
constant_no_end : (c : Constant) (s : Spelling) (tokens others : List Token) → Reads tokens ((constant_outline c).spelling ++ s) others
    → ¬ (next_kind tokens ≡ Some (kind.Word word.End))
constant_no_end c s tokens others h = by c.sign c.value h
  where
    signs : (g : Sign) → ¬ (sign_kind g ≡ kind.Word word.End)
    signs sign.Plus e = absurd cc
    signs sign.Minus e = absurd cc

    by : (g : Option SignAt) (v : ConstantValue) → Reads tokens (((sign_outline g).spelling ++ value_lexeme v ∷ []) ++ s) others → ¬ (next_kind tokens ≡
        Some (kind.Word word.End))
    by None (value.String t p) h = other_first kind.Text (kind.Word word.End) h.2 h.3.kind (λ e. absurd cc)
    by None (value.Number v p) h = other_first (kind.Number v) (kind.Word word.End) h.2 h.3.kind (λ e. absurd cc)
    by None (value.Name n) h = other_first kind.Identifier (kind.Word word.End) h.2 h.3.kind (λ e. absurd cc)
    by (Some g) v h = other_first (sign_kind g.sign) (kind.Word word.End) h.2 h.3.kind (signs g.sign)

-- ---- the parts of a case or a record, up to its `end`

module _ (F : Option Kind → Type 0) (limit : ℕ) (part : Reading Outline) (fewer : NeverMore part) (semicolon_ends : F (Some (kind.Symbol symbol.Semicolon)))
    (end_ends : F (Some (kind.Word word.End))) {T : Type 0} (f : T → Outline) (part_reads : (x : T) → ReadsForm F limit part (f x))
    (no_end : (x : T) (s : Spelling) (tokens others : List Token) → Reads tokens ((f x).spelling ++ s) others → ¬ (next_kind tokens ≡ Some (kind.Word
    word.End))) where
  ending_next : (semicolon : Bool) (tokens others : List Token) → Reads tokens (ending semicolon).spelling others → F (next_kind tokens)
  ending_next false tokens others h = subst F (sym (next_first (kind.Word word.End) h.2 h.3.kind)) end_ends
  ending_next true tokens others h = subst F (sym (next_first (kind.Symbol symbol.Semicolon) h.2 h.3.kind)) semicolon_ends

  led_next : (xs : List T) (semicolon : Bool) (a b others : List Token) → Reads a (led symbol.Semicolon (map f xs)).spelling b → Reads b (ending
      semicolon).spelling others
      → F (next_kind a)
  led_next [] semicolon a b others h e = subst (λ t. F (next_kind t)) (sym h) (ending_next semicolon b others e)
  led_next (x ∷ xs) semicolon a b others h e = subst F (sym (next_first (kind.Symbol symbol.Semicolon) h.2 h.3.kind)) semicolon_ends

  ends_here : (semicolon : Bool) (tokens others : List Token) → Reads tokens (ending semicolon).spelling others → arm_turn part tt tokens ≡ Ok (
    ends
        semicolon,
    others,
  )
  unfolding arm_turn behind_arm
  ends_here false tokens others h =
      ap (λ o. and_then (and_then o (λ found. choose found (λ _. on (taken (kind.Word word.End)) (λ _. pure (Some true)) (pure None)) (expect (kind.Word
      word.End) >> pure (Some false))))
      (λ end. choose end (λ semicolon. pure (ends semicolon)) (part >>= (λ a. pure (more tt a)))))
      (misses (kind.Symbol symbol.Semicolon) tokens (other_first (kind.Word word.End) (kind.Symbol symbol.Semicolon) h.2 h.3.kind (λ e. absurd cc)))
      ∙ ap (λ o. and_then (and_then o (λ _. pure (Some false))) (λ end. choose end (λ semicolon. pure (ends semicolon)) (part >>= (λ a. pure (more tt a)))))
      (expects_of (kind.Word word.End) h.2 h.3) ∙ ap (λ t. Ok (ends false, t)) h.4
  ends_here true tokens others h =
      let b = h.4 in
      ap (λ o. and_then (and_then o (λ found. choose found (λ _. on (taken (kind.Word word.End)) (λ _. pure (Some true)) (pure None)) (expect (kind.Word
      word.End) >> pure (Some false))))
      (λ end. choose end (λ semicolon. pure (ends semicolon)) (part >>= (λ a. pure (more tt a))))) (takes_of (kind.Symbol symbol.Semicolon) h.2 h.3)
      ∙ ap (λ o. and_then (and_then o (λ found. choose found (λ _. pure (Some true)) (pure None)))
      (λ end. choose end (λ semicolon. pure (ends semicolon)) (part >>= (λ a. pure (more tt a))))) (takes_of (kind.Word word.End) b.2 b.3)
      ∙ ap (λ t. Ok (ends true, t)) b.4

  goes_here : (tokens mid : List Token) (place : Place) → taken (kind.Symbol symbol.Semicolon) tokens ≡ Ok (Some place, mid) → ¬ (next_kind mid ≡ Some
      (kind.Word word.End))
      → behind_arm tokens ≡ Ok (None, mid)
  unfolding behind_arm
  goes_here tokens mid place e other =
      ap (λ o. and_then o (λ found. choose found (λ _. on (taken (kind.Word word.End)) (λ _. pure (Some true)) (pure None)) (expect (kind.Word word.End) >>
      pure (Some false)))) e
      ∙ ap (λ o. and_then o (λ found. choose found (λ _. pure (Some true)) (pure None))) (misses (kind.Word word.End) mid other)

  led_to_end : (xs : List T) (semicolon : Bool) (a b others : List Token) → Reads a (led symbol.Semicolon (map f xs)).spelling b
      → (led symbol.Semicolon (map f xs)).well ≡ true → Reads b (ending semicolon).spelling others
      → Answers limit (led symbol.Semicolon (map f xs)).depth (loop (arm_turn part) tt) a (map f xs, semicolon) others
  unfolding arm_turn
  led_to_end [] semicolon a b others h w e =
      turn_ends (arm_uses part fewer) (ends_here semicolon a others (subst (λ t. Reads t (ending semicolon).spelling others) (sym h) e))
  led_to_end (x ∷ xs) semicolon a b others h w e =
      let r = led symbol.Semicolon (map f xs) in
      let q = parted (f x).spelling r.spelling h.1 b h.4 in
      of_depth _ (omega arith)
      (turn_answers (arm_uses part fewer)
      (says behind_arm _ (goes_here a h.1 h.0.place (takes_of (kind.Symbol symbol.Semicolon) h.2 h.3) (no_end x r.spelling h.1 b h.4))
      (answered _ (part_reads x h.1 q.0 q.1 (and_left (f x).well r.well w) (led_next xs semicolon q.0 b others q.2 e)) done))
      (led_to_end xs semicolon q.0 b others q.2 (and_right (f x).well r.well w) e))

  pub parts_read : (x : T) (xs : List T) (semicolon : Bool) (tokens mid others : List Token) → Reads tokens (form.separated symbol.Semicolon (map f (x ∷
      xs))).spelling mid
      → (form.separated symbol.Semicolon (map f (x ∷ xs))).well ≡ true → Reads mid (ending semicolon).spelling others
      → Answers limit (form.separated symbol.Semicolon (map f (x ∷ xs))).depth (parts_to_end part) tokens (map f (x ∷ xs), semicolon) others
  unfolding parts_to_end
  parts_read x xs semicolon tokens mid others h w e =
      let r = led symbol.Semicolon (map f xs) in
      let q = parted (f x).spelling r.spelling tokens mid h in
      of_depth _ (omega arith)
      (answered _ (part_reads x tokens q.0 q.1 (and_left (f x).well r.well w) (led_next xs semicolon q.0 mid others q.2 e))
      (answered _ (led_to_end xs semicolon q.0 mid others q.2 (and_right (f x).well r.well w) e) done))

-- ---- statements

-- what comes next behind a statement: a semicolon, `end`, `until` or `else`
abbrev pub ends_statement : Option Kind → Bool
ends_statement (Some (kind.Symbol symbol.Semicolon)) = true
ends_statement (Some (kind.Word word.End)) = true
ends_statement (Some (kind.Word word.Until)) = true
ends_statement (Some (kind.Word word.Else)) = true
ends_statement _ = false

pub not_ending : (k : Kind) (next : Option Kind) → ends_statement (Some k) ≡ false → ends_statement next ≡ true → ¬ (next ≡ Some k)
not_ending k next e f is = absurd (let g : true ≡ false = sym f ∙ ap ends_statement is ∙ e in cc)

pub ending_follows : (next : Option Kind) → ends_statement next ≡ true → follows next ≡ 0
ending_follows (Some (kind.Symbol symbol.Semicolon)) h = refl
ending_follows (Some (kind.Word word.End)) h = refl
ending_follows (Some (kind.Word word.Until)) h = refl
ending_follows (Some (kind.Word word.Else)) h = refl
ending_follows _ h = absurd cc

abbrev pub ReadsStatement : ℕ → Reading Outline → Outline → Type 0
ReadsStatement limit p o =
    (tokens others : List Token) → Reads tokens o.spelling others → o.well ≡ true → ends_statement (next_kind others) ≡ true
    → (o.ends_open ≡ true → ¬ (next_kind others ≡ Some (kind.Word word.Else))) → Answers limit o.depth p tokens o others

-- behind a statement of a list no `else` comes
abbrev pub Listed : Option Kind → Type 0
Listed next = (ends_statement next ≡ true) × ¬ (next ≡ Some (kind.Word word.Else))

-- an expression with a word symbol behind it
guard_reads : (levels : ℕ) (e : Expr) (w : Word) (s : Spelling) (tokens others : List Token) → Reads tokens ((expr_outline e).spelling ++ of_kind (kind.Word
    w) ∷ s) others
    → (expr_outline e).well ≡ true → follows (Some (kind.Word w)) ≡ 0
    → (mid : List Token) × Answers levels (expr_outline e).depth (guard levels w) tokens (expr_outline e) mid × Reads mid s others
unfolding guard
guard_reads levels e w s tokens others h ew f =
    let q = parted (expr_outline e).spelling (of_kind (kind.Word w) ∷ s) tokens others h in
    let c = q.2 in (
      c.1,
      of_depth _ (omega arith)
          (answered _ (expression_read levels e tokens q.0 q.1 ew (let z = follows_first (kind.Word w) c.2 c.3.kind in omega arith))
          (says (expect (kind.Word w)) _ (expects_of (kind.Word w) c.2 c.3) done)),
      c.4,
    )

record_reads : (levels : ℕ) (r : RecordVariable) → ReadsForm NoSelector levels (read.record_variable levels) (record_outline r)
unfolding read.record_variable selectors
record_reads levels r tokens others h w f =
    says expect_name _ (expects_name r.name.text.now r.name.place h.2 h.3)
    (of_depth _ (omega arith)
    (answered _ (selectors_read levels (expression_below levels) (below_no_more levels) (below_read levels) false r.selectors.items r.indexes.items h.1
    others h.4 w f) done))

direction_takes : {token : Token} {behind tokens : List Token} (d : Direction) → tokens ≡ token ∷ behind → token.kind ≡ direction_kind d
    → direction_taken tokens ≡ Ok (Some d, behind)
unfolding direction_taken
direction_takes {token} {behind} direction.To are is =
    ap (λ ts. token_by (λ t. direction_in t.kind) ts) are ∙ ap (λ k. take_if (direction_in k) token behind) is
direction_takes {token} {behind} direction.DownTo are is =
    ap (λ ts. token_by (λ t. direction_in t.kind) ts) are ∙ ap (λ k. take_if (direction_in k) token behind) is

direction_follows : (d : Direction) → follows (Some (direction_kind d)) ≡ 0
direction_follows direction.To = refl
direction_follows direction.DownTo = refl

module _ (levels : ℕ) (inner : Reading Outline) (fewer : NeverMore inner) (all : (s : Stmt) → ReadsStatement levels inner (stmt_outline s)) where
  abbrev by_next : Option Kind → Reading Outline
  by_next = statement_by levels inner

  abbrev ReadsHere : Outline → Type 0
  ReadsHere o = ReadsStatement (suc levels) (peek >>= by_next) o

  -- a statement that begins with a token of this kind
  begun : {p : Reading Outline} {tokens others : List Token} {d : ℕ} {o : Outline} (k : Kind) → next_kind tokens ≡ Some k → by_next (Some k) tokens ≡ p tokens
      → Answers levels d p tokens o others → Answers (suc levels) (1 + d) (peek >>= by_next) tokens o others
  begun {p} {tokens} k next is h = deeper (answers_same (ap (λ n. by_next n tokens) next ∙ is) h)

  statements_read : (w : Word) → Listed (Some (kind.Word w)) → (s : Stmt) (ss : List Stmt) (t : Spelling) (tokens others : List Token)
      → Reads tokens ((form.separated symbol.Semicolon (map stmt_outline (s ∷ ss))).spelling ++ of_kind (kind.Word w) ∷ t) others
      → (form.separated symbol.Semicolon (map stmt_outline (s ∷ ss))).well ≡ true
      → (mid : List Token) × Answers levels (form.separated symbol.Semicolon (map stmt_outline (s ∷ ss))).depth (separated symbol.Semicolon inner) tokens
      (map stmt_outline (s ∷ ss)) mid
      × Reads mid (of_kind (kind.Word w) ∷ t) others
  statements_read w ok s ss t tokens others h well =
      let o = form.separated symbol.Semicolon (map stmt_outline (s ∷ ss)) in
      let q = parted o.spelling (of_kind (kind.Word w) ∷ t) tokens others h in
      let c = q.2 in
      let next = next_first (kind.Word w) c.2 c.3.kind in (
        q.0,
        listed_reads Listed symbol.Semicolon levels inner fewer (refl, λ e. absurd cc) stmt_outline
            (λ x a b r v f. all x a b r v f.0 (λ _. f.1)) s ss tokens q.0 q.1 well (subst Listed (sym next) ok)
            (other_first (kind.Word w) (kind.Symbol symbol.Semicolon) c.2 c.3.kind (λ e. absurd cc)),
        c,
      )

  -- ---- assignments and calls

  assign_reads : (n : Name) (ss : List Selector) (es : List Expr) (place : Place) (v : Expr)
      → ReadsHere (form.assignment (identifier n) (selector_rows false ss (map expr_outline es)) place (expr_outline v))
  unfolding simple selectors
  assign_reads n ss es place v tokens others h w f e =
      let r = row_then (selector_rows false ss (map expr_outline es)).0 (selector_rows false ss (map expr_outline es)).1 in
      let x = expr_outline v in
      let q = parted r.spelling (symbol_at symbol.Becomes place ∷ x.spelling) h.1 others h.4 in
      let c = q.2 in
      let xw = and_right r.well x.well w in
      of_depth _ (omega arith)
      (begun {p = simple levels} kind.Identifier (next_first kind.Identifier h.2 h.3.kind) refl
      (says expect_name _ (expects_name n.text.now n.place h.2 h.3)
      (answered _ (selectors_read levels (expression_below levels) (below_no_more levels) (below_read levels) false ss es h.1 q.0 q.1
      (and_left r.well x.well w) (
        other_first (kind.Symbol symbol.Becomes) (kind.Symbol symbol.OpenBracket) c.2 c.3.kind (λ e. absurd cc),
        other_first (kind.Symbol symbol.Becomes) (kind.Symbol symbol.Period) c.2 c.3.kind (λ e. absurd cc),
      ))
      (says (taken (kind.Symbol symbol.Becomes)) _ (takes_at (kind.Symbol symbol.Becomes) place c.2 c.3)
      (answered _ (expression_read levels v c.1 others c.4 xw (let z = ending_follows (next_kind others) f in omega arith)) done)))))

  -- behind the name of a procedure
  called : (xs : List Actual) (tokens others : List Token) → Reads tokens (in_parentheses symbol.Comma (map actual_outline xs)).spelling others
      → ends_statement (next_kind others) ≡ true
      → NoSelector (next_kind tokens) × ¬ (next_kind tokens ≡ Some (kind.Symbol symbol.Becomes))
  called [] tokens others h f =
      let g : ends_statement (next_kind tokens) ≡ true = subst (λ t. ends_statement (next_kind t) ≡ true) (sym h) f in (
        (not_ending (kind.Symbol symbol.OpenBracket) (next_kind tokens) refl g, not_ending (kind.Symbol symbol.Period) (next_kind tokens) refl g),
        not_ending (kind.Symbol symbol.Becomes) (next_kind tokens) refl g,
      )
  called (x ∷ xs) tokens others h f = (
    (
      other_first (kind.Symbol symbol.OpenParenthesis) (kind.Symbol symbol.OpenBracket) h.2 h.3.kind (λ e. absurd cc),
      other_first (kind.Symbol symbol.OpenParenthesis) (kind.Symbol symbol.Period) h.2 h.3.kind (λ e. absurd cc),
    ),
    other_first (kind.Symbol symbol.OpenParenthesis) (kind.Symbol symbol.Becomes) h.2 h.3.kind (λ e. absurd cc),
  )

  call_reads : (n : Name) (xs : List Actual) → ReadsHere (form.procedure_call (identifier n) (map actual_outline xs))
  unfolding simple
  call_reads n xs tokens others h w f e =
      let c = called xs h.1 others h.4 f in
      of_depth _ (omega arith)
      (begun {p = simple levels} kind.Identifier (next_first kind.Identifier h.2 h.3.kind) refl
      (says expect_name _ (expects_name n.text.now n.place h.2 h.3)
      (says (selectors (expression_below levels)) _ (none_selected levels (expression_below levels) (below_no_more levels) (below_read levels) h.1 c.0)
      (says (taken (kind.Symbol symbol.Becomes)) _ (misses (kind.Symbol symbol.Becomes) h.1 c.1)
      (answered _ (actuals_read levels (expression_below levels) (below_no_more levels) (below_read levels) xs h.1 others h.4 w
      (not_ending (kind.Symbol symbol.OpenParenthesis) (next_kind others) refl f)) done)))))

  -- ---- structured statements

  pub compound_reads : (s : Stmt) (ss : List Stmt) (tokens others : List Token) (end : Lexeme) → end.kind ≡ kind.Word word.End
      → Reads tokens (of_kind (kind.Word word.Begin) ∷ (form.separated symbol.Semicolon (map stmt_outline (s ∷ ss))).spelling ++ end ∷ []) others
      → (form.separated symbol.Semicolon (map stmt_outline (s ∷ ss))).well ≡ true
      → (place : Place) × (IfSome end.place (λ p. place ≡ p))
      × Answers levels (form.separated symbol.Semicolon (map stmt_outline (s ∷ ss))).depth (compound inner) tokens (map stmt_outline (s ∷ ss), place) others
  unfolding compound
  compound_reads s ss tokens others end is h w =
      let o = form.separated symbol.Semicolon (map stmt_outline (s ∷ ss)) in
      let x = parted o.spelling (end ∷ []) h.1 others h.4 in
      let c = x.2 in
      let kind_is = c.3.kind ∙ is in
      let next = next_first (kind.Word word.End) c.2 kind_is in (
        c.0.place,
        c.3.place,
        of_depth {d = max o.depth 0} o.depth (omega arith)
            (says (expect (kind.Word word.Begin)) _ (expects_of (kind.Word word.Begin) h.2 h.3)
            (answered _ (listed_reads Listed symbol.Semicolon levels inner fewer (refl, λ e. absurd cc) stmt_outline
            (λ y a b r v f. all y a b r v f.0 (λ _. f.1)) s ss h.1 x.0 x.1 w
            (subst Listed (sym next) (refl, λ e. absurd cc)) (other_first (kind.Word word.End) (kind.Symbol symbol.Semicolon) c.2 kind_is (λ e. absurd cc)))
            (says (expect (kind.Word word.End)) _ (expects_of (kind.Word word.End) c.2 (record { kind = kind_is; text = tt; letters = tt; place = tt }))
            (subst (λ t. Answers {A = List Outline × Place} levels 0 (pure (map stmt_outline (s ∷ ss), c.0.place)) c.1 (map stmt_outline (s ∷ ss), c.0.place) t)
            c.4 done)))),
      )

  begin_reads : (ss : List Stmt) → ReadsHere (form.compound (map stmt_outline ss))
  begin_reads [] tokens others h w f e = absurd cc
  begin_reads (s ∷ ss) tokens others h w f e =
      let o = form.separated symbol.Semicolon (map stmt_outline (s ∷ ss)) in
      let c = compound_reads s ss tokens others (of_kind (kind.Word word.End)) refl h (and_left o.well true w) in
      of_depth _ (omega arith)
      (begun {p = compound inner >>= (λ c. pure (form.compound c.0))} (kind.Word word.Begin) (next_first (kind.Word word.Begin) h.2 h.3.kind) refl (answered
      _ c.2 done))

  if_reads_alone : (place : Place) (c : Expr) (s : Stmt) → ReadsHere (form.conditional place (expr_outline c) (stmt_outline s))
  unfolding read.conditional read.alternative
  if_reads_alone place c s tokens others h w f e =
      let x = expr_outline c in
      let y = stmt_outline s in
      let g = guard_reads levels c word.Then y.spelling h.1 others h.4 (and_left x.well y.well w) refl in
      of_depth _ (omega arith)
      (begun {p = read.conditional levels inner} (kind.Word word.If) (next_first (kind.Word word.If) h.2 h.3.kind) refl
      (says (expect (kind.Word word.If)) _ (expects_at (kind.Word word.If) place h.2 h.3)
      (answered _ g.1 (answered _ (all s g.0 others g.2 (and_right x.well y.well w) f (λ _. e refl))
      (says (read.alternative levels inner) _ (ap (λ o. and_then o (λ found. choose found (λ _. inner >>= (λ a. pure (Some a))) (pure None))) (misses
      (kind.Word word.Else) others (e refl))) done)))))

  if_reads_both : (place : Place) (c : Expr) (s a : Stmt) → ReadsHere (form.with_else place (expr_outline c) (stmt_outline s) (stmt_outline a))
  unfolding read.conditional read.alternative
  if_reads_both place c s a tokens others h w f e =
      let x = expr_outline c in
      let y = stmt_outline s in
      let z = stmt_outline a in
      let inside = and_right (not y.ends_open) (x.well && (y.well && z.well)) w in
      let both = and_right x.well (y.well && z.well) inside in
      let g = guard_reads levels c word.Then (y.spelling ++ of_kind (kind.Word word.Else) ∷ z.spelling) h.1 others h.4 (and_left x.well (y.well && z.well)
      inside) refl in
      let q = parted y.spelling (of_kind (kind.Word word.Else) ∷ z.spelling) g.0 others g.2 in
      let d = q.2 in
      let next = next_first (kind.Word word.Else) d.2 d.3.kind in
      of_depth _ (omega arith)
      (begun {p = read.conditional levels inner} (kind.Word word.If) (next_first (kind.Word word.If) h.2 h.3.kind) refl
      (says (expect (kind.Word word.If)) _ (expects_at (kind.Word word.If) place h.2 h.3)
      (answered _ g.1 (answered _ (all s g.0 q.0 q.1 (and_left y.well z.well both) (subst (λ n. ends_statement n ≡ true) (sym next) refl)
      (λ o. absurd (closed_is y.ends_open o (and_left (not y.ends_open) (x.well && (y.well && z.well)) w))))
      (answered _ (says (taken (kind.Word word.Else)) _ (takes_of (kind.Word word.Else) d.2 d.3) (answered _ (all a d.1 others d.4 (and_right y.well z.well
      both) f e) done)) done)))))
    where
      closed_is : (b : Bool) → b ≡ true → not b ≡ true → ⊥
      closed_is true h k = absurd cc
      closed_is false h k = absurd cc

  while_reads : (place : Place) (c : Expr) (s : Stmt) → ReadsHere (form.while_loop place (expr_outline c) (stmt_outline s))
  unfolding read.while_loop
  while_reads place c s tokens others h w f e =
      let x = expr_outline c in
      let y = stmt_outline s in
      let g = guard_reads levels c word.Do y.spelling h.1 others h.4 (and_left x.well y.well w) refl in
      of_depth _ (omega arith)
      (begun {p = read.while_loop levels inner} (kind.Word word.While) (next_first (kind.Word word.While) h.2 h.3.kind) refl
      (says (expect (kind.Word word.While)) _ (expects_at (kind.Word word.While) place h.2 h.3) (answered _ g.1 (answered _ (all s g.0 others g.2 (and_right
      x.well y.well w) f e) done))))

  with_reads : (place : Place) (rs : List RecordVariable) (s : Stmt) → ReadsHere (form.with_fields place (map record_outline rs) (stmt_outline s))
  unfolding read.with_fields
  with_reads place [] s tokens others h w f e = absurd cc
  with_reads place (r ∷ rs) s tokens others h w f e =
      let o = form.separated symbol.Comma (map record_outline (r ∷ rs)) in
      let y = stmt_outline s in
      let q = parted o.spelling (of_kind (kind.Word word.Do) ∷ y.spelling) h.1 others h.4 in
      let c = q.2 in
      of_depth _ (omega arith)
      (begun {p = read.with_fields levels inner} (kind.Word word.With) (next_first (kind.Word word.With) h.2 h.3.kind) refl
      (says (expect (kind.Word word.With)) _ (expects_at (kind.Word word.With) place h.2 h.3)
      (answered _ (listed_reads NoSelector symbol.Comma levels (read.record_variable levels) (record_variable_no_more levels) (
        λ e. absurd cc,
        λ e. absurd cc,
      ) record_outline (record_reads levels) r rs h.1 q.0 q.1 (and_left o.well y.well w) (
        other_first (kind.Word word.Do) (kind.Symbol symbol.OpenBracket) c.2 c.3.kind (λ e. absurd cc),
        other_first (kind.Word word.Do) (kind.Symbol symbol.Period) c.2 c.3.kind (λ e. absurd cc),
      )
      (other_first (kind.Word word.Do) (kind.Symbol symbol.Comma) c.2 c.3.kind (λ e. absurd cc)))
      (says (expect (kind.Word word.Do)) _ (expects_of (kind.Word word.Do) c.2 c.3)
      (answered _ (all s c.1 others c.4 (and_right o.well y.well w) f e) done)))))

  repeat_reads : (place : Place) (ss : List Stmt) (c : Expr) → ReadsHere (form.repeat_loop place (map stmt_outline ss) (expr_outline c))
  unfolding read.repeat_loop
  repeat_reads place [] c tokens others h w f e = absurd cc
  repeat_reads place (s ∷ ss) c tokens others h w f e =
      let o = form.separated symbol.Semicolon (map stmt_outline (s ∷ ss)) in
      let x = expr_outline c in
      let g = statements_read word.Until (refl, λ e. absurd cc) s ss x.spelling h.1 others h.4 (and_left o.well x.well w) in
      let u = g.2 in
      of_depth _ (omega arith)
      (begun {p = read.repeat_loop levels inner} (kind.Word word.Repeat) (next_first (kind.Word word.Repeat) h.2 h.3.kind) refl
      (says (expect (kind.Word word.Repeat)) _ (expects_at (kind.Word word.Repeat) place h.2 h.3) (answered _ g.1
      (says (expect (kind.Word word.Until)) _ (expects_of (kind.Word word.Until) u.2 u.3)
      (answered _ (expression_read levels c u.1 others u.4 (and_right o.well x.well w) (let z = ending_follows (next_kind others) f in omega arith)) done)))))

  for_reads : (place : Place) (n : Name) (a : Expr) (d : Direction) (b : Expr) (s : Stmt)
      → ReadsHere (form.for_loop place (identifier n) (expr_outline a) d (expr_outline b) (stmt_outline s))
  unfolding read.for_loop control initial
  for_reads place n a d b s tokens others h w f e =
      let x = expr_outline a in
      let y = expr_outline b in
      let z = stmt_outline s in
      let i = h.4 in
      let m = i.4 in
      let q = parted x.spelling (of_kind (direction_kind d) ∷ y.spelling ++ of_kind (kind.Word word.Do) ∷ z.spelling) m.1 others m.4 in
      let c = q.2 in
      let inside = and_right x.well (y.well && z.well) w in
      let g = guard_reads levels b word.Do z.spelling c.1 others c.4 (and_left y.well z.well inside) refl in
      of_depth _ (omega arith)
      (begun {p = read.for_loop levels inner} (kind.Word word.For) (next_first (kind.Word word.For) h.2 h.3.kind) refl
      (answered _ (says (expect (kind.Word word.For)) _ (expects_at (kind.Word word.For) place h.2 h.3) (says expect_name _ (expects_name n.text.now n.place
      i.2 i.3)
      (says (expect (kind.Symbol symbol.Becomes)) _ (expects_of (kind.Symbol symbol.Becomes) m.2 m.3) done)))
      (answered _ (answered _ (expression_read levels a m.1 q.0 q.1 (and_left x.well (y.well && z.well) w)
      (let u = follows_first (direction_kind d) c.2 c.3.kind in let v = direction_follows d in omega arith))
      (says (direction_taken >>= or_refuse) _ (ap (λ o. and_then o or_refuse) (direction_takes d c.2 c.3.kind)) done))
      (answered _ g.1 (answered _ (all s g.0 others g.2 (and_right y.well z.well inside) f e) done)))))

  -- ---- cases

  abbrev Arm : Type 0
  Arm = List Constant × Stmt

  abbrev arm_of : Arm → Outline
  arm_of x = arm_outline (x.0, stmt_outline x.1)

  arms_are : (rows : List (Vec Constant Global)) (ss : List Stmt) → map arm_outline (arms_of rows (map stmt_outline ss)) ≡ map arm_of (arms_of rows ss)
  arms_are [] ss = refl
  arms_are (row ∷ rows) [] = refl
  arms_are (row ∷ rows) (s ∷ ss) = ap (λ xs. arm_outline (row.items, stmt_outline s) ∷ xs) (arms_are rows ss)

  arm_by : (cs : List Constant) (s : Stmt) → ReadsForm Listed levels (read.arm levels inner) (arm_of (cs, s))
  unfolding read.arm read.row
  arm_by [] s tokens others h w f = absurd cc
  arm_by (c ∷ cs) s tokens others h w f =
      let o = form.separated symbol.Comma (map constant_outline (c ∷ cs)) in
      let y = stmt_outline s in
      let q = parted o.spelling (of_kind (kind.Symbol symbol.Colon) ∷ y.spelling) tokens others h in
      let d = q.2 in
      of_depth _ (omega arith)
      (answered _ (answered _ (listed_reads Anything symbol.Comma levels constant constant_no_more tt constant_outline (constant_reads levels) c cs tokens
      q.0 q.1
      (and_left o.well y.well w) tt (other_first (kind.Symbol symbol.Colon) (kind.Symbol symbol.Comma) d.2 d.3.kind (λ e. absurd cc)))
      (says (expect (kind.Symbol symbol.Colon)) _ (expects_of (kind.Symbol symbol.Colon) d.2 d.3) done))
      (answered _ (all s d.1 others d.4 (and_right o.well y.well w) f.0 (λ _. f.1)) done))

  arm_no_end : (x : Arm) (t : Spelling) (tokens others : List Token) → Reads tokens ((arm_of x).spelling ++ t) others → ¬ (next_kind tokens ≡ Some
      (kind.Word word.End))
  arm_no_end ([], s) t tokens others h = other_first (kind.Symbol symbol.Colon) (kind.Word word.End) h.2 h.3.kind (λ e. absurd cc)
  arm_no_end (c ∷ cs, s) t tokens others h =
      let o = constant_outline c in
      let l = led symbol.Comma (map constant_outline cs) in
      let x = parted ((o.spelling ++ l.spelling) ++ of_kind (kind.Symbol symbol.Colon) ∷ (stmt_outline s).spelling) t tokens others h in
      let y = parted (o.spelling ++ l.spelling) (of_kind (kind.Symbol symbol.Colon) ∷ (stmt_outline s).spelling) tokens x.0 x.1 in
      constant_no_end c l.spelling tokens y.0 y.1

  case_reads : NeverMore (read.arm levels inner) → (place : Place) (i : Expr) (xs : List Arm) (semicolon : Bool)
      → ReadsHere (form.case place (expr_outline i) (map arm_of xs) semicolon)
  unfolding read.case_of
  case_reads shrinks place i [] semicolon tokens others h w f e = absurd (let z = and_right (expr_outline i).well (false && (ending semicolon).well) w in cc)
  case_reads shrinks place i (x ∷ xs) semicolon tokens others h w f e =
      let o = form.separated symbol.Semicolon (map arm_of (x ∷ xs)) in
      let y = expr_outline i in
      let inside = and_right y.well (o.well && (ending semicolon).well) w in
      let g = guard_reads levels i word.Of (o.spelling ++ (ending semicolon).spelling) h.1 others h.4 (and_left y.well (o.well && (ending semicolon).well)
      w) refl in
      let q = parted o.spelling (ending semicolon).spelling g.0 others g.2 in
      let d = flat semicolon in
      of_depth _ (omega arith)
      (begun {p = read.case_of levels inner} (kind.Word word.Case) (next_first (kind.Word word.Case) h.2 h.3.kind) refl
      (says (expect (kind.Word word.Case)) _ (expects_at (kind.Word word.Case) place h.2 h.3) (answered _ g.1
      (answered _ (parts_read Listed levels (read.arm levels inner) shrinks (refl, λ e. absurd cc) (refl, λ e. absurd cc) arm_of (λ a. arm_by a.0 a.1)
      arm_no_end x xs semicolon
      g.0 q.0 others q.1 (and_left o.well (ending semicolon).well inside) q.2) done))))
    where
      flat : (b : Bool) → (ending b).depth ≡ 0
      flat true = refl
      flat false = refl

  empty_reads : ReadsHere form.empty
  empty_reads tokens others h w f e =
      of_depth _ refl (deeper (answers_same (nothing_begins (next_kind tokens) (subst (λ t. ends_statement (next_kind t) ≡ true) (sym h) f))
      (subst (λ t. Answers levels 0 (pure form.empty) tokens form.empty t) h done)))
    where
      nothing_begins : (next : Option Kind) → ends_statement next ≡ true → by_next next tokens ≡ Ok (form.empty, tokens)
      nothing_begins (Some (kind.Symbol symbol.Semicolon)) g = refl
      nothing_begins (Some (kind.Word word.End)) g = refl
      nothing_begins (Some (kind.Word word.Until)) g = refl
      nothing_begins (Some (kind.Word word.Else)) g = refl
      nothing_begins _ g = absurd cc

  layer_reads : NeverMore (read.arm levels inner) → (d : stmt.Stmt-F Stmt) → ReadsHere (stmt_layer d)
  layer_reads shrinks stmt.Empty = empty_reads
  layer_reads shrinks (stmt.Assign n ss es place v) = assign_reads n ss.items es.items place v
  layer_reads shrinks (stmt.Call n xs) = call_reads n xs.items
  layer_reads shrinks (stmt.Compound ss) = begin_reads ss.items
  layer_reads shrinks (stmt.If place c s None) = if_reads_alone place c s.value
  layer_reads shrinks (stmt.If place c s (Some a)) = if_reads_both place c s.value a.value
  layer_reads shrinks (stmt.While place c s) = while_reads place c s.value
  layer_reads shrinks (stmt.Repeat place ss c) = repeat_reads place ss.items c
  layer_reads shrinks (stmt.For place n a d b s) = for_reads place n a d b s.value
  layer_reads shrinks (stmt.With place rs s) = with_reads place rs.items s.value
  layer_reads shrinks (stmt.Case place i rows ss semicolon) =
      tested (nat_eq (length rows.items) (length (map stmt_outline ss.items)))
      (form.case place (expr_outline i) (map arm_outline (arms_of rows.items (map stmt_outline ss.items))) semicolon)
      (subst (λ xs. ReadsHere (form.case place (expr_outline i) xs semicolon)) (sym (arms_are rows.items ss.items))
      (case_reads shrinks place i (arms_of rows.items ss.items) semicolon))
    where
      tested : (test : Bool) (o : Outline) → ReadsHere o → ReadsHere (only_if test o)
      tested true o law tokens others h w f e = law tokens others h w f e
      tested false o law tokens others h w f e = absurd cc

stmt_out : (s : Stmt) → stmt_outline s ≡ stmt_layer (out-Stmt s)
stmt_out s = ap stmt_outline (sym (roll-out-Stmt s)) ∙ stmt_is (out-Stmt s)

layer_depth : (d : stmt.Stmt-F Stmt) → 1 ≤ (stmt_layer d).depth
layer_depth stmt.Empty = omega arith
layer_depth (stmt.Assign n ss es place v) = omega arith
layer_depth (stmt.Call n xs) = omega arith
layer_depth (stmt.Compound ss) = omega arith
layer_depth (stmt.If place c s None) = omega arith
layer_depth (stmt.If place c s (Some a)) = omega arith
layer_depth (stmt.While place c s) = omega arith
layer_depth (stmt.Repeat place ss c) = omega arith
layer_depth (stmt.For place n a d b s) = omega arith
layer_depth (stmt.Case place i rows ss semicolon) = omega arith
layer_depth (stmt.With place rs s) = omega arith

pub statement_read : (levels : ℕ) (s : Stmt) → ReadsStatement levels (statement levels) (stmt_outline s)
statement_read zero s tokens others h w f e =
    stops (let d = subst (λ (o : Outline). 1 ≤ o.depth) (sym (stmt_out s)) (layer_depth (out-Stmt s)) in omega arith) (next_place tokens) tokens refl
statement_read (suc levels) s tokens others h w f e =
    let law : ReadsStatement (suc levels) (statement (suc levels)) (stmt_outline s) = subst (λ o. ReadsStatement (suc levels) (statement (suc levels)) o)
    (sym (stmt_out s))
    (layer_reads levels (statement levels) (statement_no_more levels) (statement_read levels) (arm_no_more levels) (out-Stmt s)) in
    law tokens others h w f e
