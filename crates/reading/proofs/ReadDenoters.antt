-- What well formed names, definitions and types spell is read so.
use Rattle.std.proofs.Common.{◌≡◌, ℕ, zero, suc, ◌+◌, ◌≤◌, max, Bool, true, false, ◌&&◌, nat_eq, if◌then◌else◌, List, [], ◌∷◌, ◌++◌, length, map}
use Rattle.std.proofs.Common.{Option, Some, None, is_some, Ok, refl, sym, ap, subst, ◌∙◌, arith}
use Rattle.std.specs.declared.alloc.Global.{Global}
use Rattle.std.specs.declared.vec.Vec.{Vec}
use Rattle.place.specs.declared.Place.{Place}
use Rattle.lexer.specs.declared.token.Kind.{Kind}
use Rattle.lexer.specs.declared.token.Kind.TheVariants as kind
use Rattle.lexer.specs.declared.token.Symbol.TheVariants as symbol
use Rattle.lexer.specs.declared.token.Word.{Word}
use Rattle.lexer.specs.declared.token.Word.TheVariants as word
use Rattle.lexer.specs.declared.token.Token.{Token}
use Rattle.syntax_tree.specs.Places.{fields_of}
use Rattle.syntax_tree.specs.declared.Name.{Name}
use Rattle.syntax_tree.specs.declared.Sign.{Sign}
use Rattle.syntax_tree.specs.declared.Sign.TheVariants as sign
use Rattle.syntax_tree.specs.declared.SignAt.{SignAt}
use Rattle.syntax_tree.specs.declared.Constant.{Constant}
use Rattle.syntax_tree.specs.declared.ConstantValue.{ConstantValue}
use Rattle.syntax_tree.specs.declared.ConstantValue.TheVariants as value
use Rattle.syntax_tree.specs.declared.ConstantDefinition.{ConstantDefinition}
use Rattle.syntax_tree.specs.declared.TypeDenoter.{TypeDenoter}
use Rattle.syntax_tree.specs.declared.TypeDenoter.TheOpen as denoter
use Rattle.syntax_tree.specs.declared.TypeDenoter.TheViews.{out-TypeDenoter, roll-out-TypeDenoter}
use Rattle.syntax_tree.specs.declared.TypeDefinition.{TypeDefinition}
use Rattle.syntax_tree.specs.declared.VariableGroup.{VariableGroup}
use Rattle.reading.specs.Lexemes.{Spelling, Reads, of_kind, identifier, sign_kind, symbol_at, word_at}
use Rattle.reading.specs.Outline as form
use Rattle.reading.specs.Outline.{Outline, ◌⧺◌, nothing, kept, only_if, has_items, row, led, ending}
use Rattle.reading.specs.Trees.{name_outline, constant_outline, sign_outline, value_lexeme, definition_outline, denoter_outline, fields_outline, type_outline}
use Rattle.reading.specs.Trees.{group_outline}
use Rattle.reading.specs.Reading.{Reading, and_then, ◌>>=◌, pure, peek, next_kind, next_place, taken, is_kind}
use Rattle.reading.specs.Reading.{more, ends, loop, next_turn, many, expect, expect_name}
use Rattle.reading.specs.Declarations as read
use Rattle.reading.specs.Declarations.{denoter_by, name_or_subrange}
use Rattle.reading.proofs.Tests.{and_left, and_right}
use Rattle.reading.proofs.Uses.{NeverMore, TakesOne, next_uses, name_no_more, fields_no_more, denoter_no_more, definition_takes, type_takes, group_takes}
use Rattle.reading.proofs.Outlines.{denoter_is, denoter_layer}
use Rattle.reading.proofs.Answers.{Answers, stops, answered, says, done, answers_same, of_depth, deeper, parted}
use Rattle.reading.proofs.Answers.{takes_at, takes_of, expects_at, expects_of, misses, expects_name, next_first}
use Rattle.reading.proofs.ReadExpressions.{ReadsForm, turn_answers, turn_ends, listed_reads, other_first}
use Rattle.reading.proofs.ReadStatements.{Anything, constant_by, constant_reads, parts_read}

-- ---- rows

module _ (test : Option Kind → Bool) (limit : ℕ) (item : Reading Outline) (takes : TakesOne item) {T : Type 0} (f : T → Outline)
    (item_reads : (x : T) → ReadsForm Anything limit item (f x))
    (starts : (x : T) (s : Spelling) (tokens others : List Token) → Reads tokens ((f x).spelling ++ s) others → (f x).well ≡ true
    → test (next_kind tokens) ≡ true) where
  turn_here : (b : Bool) (tokens : List Token) → test (next_kind tokens) ≡ b
      → next_turn test item tt tokens ≡ (if b then item >>= (λ a. pure (more (tt {0}) a)) else pure (ends (tt {0}))) tokens
  unfolding next_turn
  turn_here b tokens e = ap (λ c. (if c then item >>= (λ a. pure (more (tt {0}) a)) else pure (ends (tt {0}))) tokens) e

  row_reads : (xs : List T) (tokens others : List Token) → Reads tokens (row (map f xs)).spelling others → (row (map f xs)).well ≡ true
      → test (next_kind others) ≡ false → Answers limit (row (map f xs)).depth (loop (next_turn test item) tt) tokens (map f xs, tt) others
  row_reads [] tokens others h w e =
      subst (λ t. Answers limit 0 (loop (next_turn test item) tt) t ([], tt) others) (sym h) (turn_ends (next_uses test item takes) (turn_here false others e))
  row_reads (x ∷ xs) tokens others h w e =
      let r = row (map f xs) in
      let q = parted (f x).spelling r.spelling tokens others h in
      of_depth _ (omega arith)
      (turn_answers (next_uses test item takes)
      (answers_same {q = item >>= (λ a. pure (more (tt {0}) a))} (turn_here true tokens (starts x r.spelling tokens others h (and_left (f x).well r.well w)))
      (answered _ (item_reads x tokens q.0 q.1 (and_left (f x).well r.well w) tt) done))
      (row_reads xs q.0 others q.2 (and_right (f x).well r.well w) e))

  pub many_reads : (xs : List T) (tokens others : List Token) → Reads tokens (row (map f xs)).spelling others → (row (map f xs)).well ≡ true
      → test (next_kind others) ≡ false → Answers limit (row (map f xs)).depth (many test item) tokens (map f xs) others
  unfolding many
  many_reads xs tokens others h w e = of_depth _ (omega arith) (answered _ (row_reads xs tokens others h w e) done)

-- a part of a block behind its word symbol, or none
module _ (w : Word) (limit : ℕ) (item : Reading Outline) (takes : TakesOne item) {T : Type 0} (f : T → Outline)
    (item_reads : (x : T) → ReadsForm Anything limit item (f x))
    (starts : (x : T) (s : Spelling) (tokens others : List Token) → Reads tokens ((f x).spelling ++ s) others → (f x).well ≡ true
    → is_kind kind.Identifier (next_kind tokens) ≡ true) where
  pub part_reads : (xs : List T) (tokens others : List Token) → Reads tokens (form.part w (map f xs)).spelling others → (form.part w (map f xs)).well ≡ true
      → ¬ (next_kind others ≡ Some (kind.Word w)) → is_kind kind.Identifier (next_kind others) ≡ false
      → Answers limit (form.part w (map f xs)).depth (read.part w item) tokens (map f xs) others
  unfolding read.part
  part_reads [] tokens others h well other e =
      subst (λ t. Answers limit 0 (read.part w item) t [] others) (sym h) (says (taken (kind.Word w)) _ (misses (kind.Word w) others other) done)
  part_reads (x ∷ xs) tokens others h well other e =
      let r = row (map f xs) in
      let q = parted (f x).spelling r.spelling h.1 others h.4 in
      of_depth _ (omega arith)
      (says (taken (kind.Word w)) _ (takes_of (kind.Word w) h.2 h.3)
      (answered _ (item_reads x h.1 q.0 q.1 (and_left (f x).well r.well well) tt)
      (answered _ (many_reads (is_kind kind.Identifier) limit item takes f item_reads starts xs q.0 others q.2 (and_right (f x).well r.well well) e) done)))

-- ---- names and constants

pub name_reads : (limit : ℕ) (n : Name) → ReadsForm Anything limit read.name (name_outline n)
unfolding read.name
name_reads limit n tokens others h w f =
    says expect_name _ (expects_name n.text.now n.place h.2 h.3) (subst (λ t. Answers limit 0 (pure (name_outline n)) h.1 (name_outline n) t) h.4 done)

pub names_read : (limit : ℕ) (n : Name) (ns : List Name) (tokens others : List Token) → Reads tokens (form.separated symbol.Comma (map name_outline (n ∷
    ns))).spelling others
    → (form.separated symbol.Comma (map name_outline (n ∷ ns))).well ≡ true → ¬ (next_kind others ≡ Some (kind.Symbol symbol.Comma))
    → Answers limit (form.separated symbol.Comma (map name_outline (n ∷ ns))).depth read.names tokens (map name_outline (n ∷ ns)) others
unfolding read.names
names_read limit n ns tokens others h w other =
    listed_reads Anything symbol.Comma limit read.name name_no_more tt name_outline (name_reads limit) n ns tokens others h w tt other

-- names, and their colon
pub colon_read : (limit : ℕ) (ns : List Name) (s : Spelling) (tokens others : List Token)
    → Reads tokens ((form.separated symbol.Comma (map name_outline ns)).spelling ++ of_kind (kind.Symbol symbol.Colon) ∷ s) others
    → (form.separated symbol.Comma (map name_outline ns)).well ≡ true
    → (mid : List Token) × Answers limit (form.separated symbol.Comma (map name_outline ns)).depth read.field_names tokens (map name_outline ns) mid × Reads
    mid s others
unfolding read.field_names
colon_read limit [] s tokens others h w = absurd cc
colon_read limit (n ∷ ns) s tokens others h w =
    let o = form.separated symbol.Comma (map name_outline (n ∷ ns)) in
    let q = parted o.spelling (of_kind (kind.Symbol symbol.Colon) ∷ s) tokens others h in
    let c = q.2 in (
      c.1,
      of_depth _ (omega arith)
          (answered _ (names_read limit n ns tokens q.0 q.1 w (other_first (kind.Symbol symbol.Colon) (kind.Symbol symbol.Comma) c.2 c.3.kind (λ e. absurd cc)))
          (says (expect (kind.Symbol symbol.Colon)) _ (expects_of (kind.Symbol symbol.Colon) c.2 c.3) done)),
      c.4,
    )

definition_reads : (limit : ℕ) (d : ConstantDefinition) → ReadsForm Anything limit read.definition (definition_outline d)
unfolding read.definition
definition_reads limit d tokens others h w f =
    let o = constant_outline d.value in
    let e = h.4 in
    let q = parted o.spelling (of_kind (kind.Symbol symbol.Semicolon) ∷ []) e.1 others e.4 in
    let c = q.2 in
    of_depth _ (omega arith)
    (says expect_name _ (expects_name d.name.text.now d.name.place h.2 h.3)
    (says (expect (kind.Symbol symbol.Equal)) _ (expects_of (kind.Symbol symbol.Equal) e.2 e.3)
    (answered _ (constant_reads limit d.value e.1 q.0 q.1 (and_left o.well true w) tt)
    (says (expect (kind.Symbol symbol.Semicolon)) _ (expects_of (kind.Symbol symbol.Semicolon) c.2 c.3)
    (subst (λ t. Answers limit 0 (pure (definition_outline d)) c.1 (definition_outline d) t) c.4 done)))))

begins_name : {token : Token} {behind tokens : List Token} → tokens ≡ token ∷ behind → token.kind ≡ kind.Identifier → is_kind kind.Identifier (next_kind
    tokens) ≡ true
begins_name are is = ap (is_kind kind.Identifier) (next_first kind.Identifier are is)

pub constants_read : (limit : ℕ) (ds : List ConstantDefinition) (tokens others : List Token) → Reads tokens (form.part word.Const (map definition_outline
    ds)).spelling others
    → (form.part word.Const (map definition_outline ds)).well ≡ true → ¬ (next_kind others ≡ Some (kind.Word word.Const)) → is_kind kind.Identifier
    (next_kind others) ≡ false
    → Answers limit (form.part word.Const (map definition_outline ds)).depth read.constants tokens (map definition_outline ds) others
constants_read limit = part_reads word.Const limit read.definition definition_takes definition_outline (definition_reads limit) (λ d s tokens others h w.
    begins_name h.2 h.3.kind)

-- ---- types

-- no `..` comes, with which a name would go on
abbrev pub NoRange : Option Kind → Type 0
NoRange next = ¬ (next ≡ Some (kind.Symbol symbol.Range))

module _ (levels : ℕ) (inner : Reading Outline) (fewer : NeverMore inner) (fields_fewer : NeverMore (read.fields inner))
    (all : (d : TypeDenoter) → ReadsForm NoRange levels inner (denoter_outline d)) where
  abbrev by_next : Option Kind → Reading Outline
  by_next = denoter_by inner

  abbrev ReadsHere : Outline → Type 0
  ReadsHere o = ReadsForm NoRange (suc levels) (peek >>= by_next) o

  begun : {p : Reading Outline} {tokens others : List Token} {d : ℕ} {o : Outline} (k : Kind) → next_kind tokens ≡ Some k → by_next (Some k) tokens ≡ p tokens
      → Answers levels d p tokens o others → Answers (suc levels) (1 + d) (peek >>= by_next) tokens o others
  begun {p} {tokens} k next is h = deeper (answers_same (ap (λ n. by_next n tokens) next ∙ is) h)

  named_reads : (n : Name) → ReadsHere (form.named_type (identifier n))
  unfolding name_or_subrange
  named_reads n tokens others h w f =
      begun {p = name_or_subrange} kind.Identifier (next_first kind.Identifier h.2 h.3.kind) refl
      (of_depth 0 (omega arith)
      (answered _ (constant_by levels None (value.Name n) tokens others h refl tt)
      (says (taken (kind.Symbol symbol.Range)) _ (misses (kind.Symbol symbol.Range) others f) done)))

  enumerated_reads : (ns : List Name) → ReadsHere (form.enumerated (map name_outline ns))
  unfolding read.enumerated
  enumerated_reads [] tokens others h w f = absurd cc
  enumerated_reads (n ∷ ns) tokens others h w f =
      let o = form.separated symbol.Comma (map name_outline (n ∷ ns)) in
      let q = parted o.spelling (of_kind (kind.Symbol symbol.CloseParenthesis) ∷ []) h.1 others h.4 in
      let c = q.2 in
      of_depth _ (omega arith)
      (begun {p = read.enumerated} (kind.Symbol symbol.OpenParenthesis) (next_first (kind.Symbol symbol.OpenParenthesis) h.2 h.3.kind) refl
      (says (expect (kind.Symbol symbol.OpenParenthesis)) _ (expects_of (kind.Symbol symbol.OpenParenthesis) h.2 h.3)
      (answered _ (names_read levels n ns h.1 q.0 q.1 (and_left o.well true w)
      (other_first (kind.Symbol symbol.CloseParenthesis) (kind.Symbol symbol.Comma) c.2 c.3.kind (λ e. absurd cc)))
      (says (expect (kind.Symbol symbol.CloseParenthesis)) _ (expects_of (kind.Symbol symbol.CloseParenthesis) c.2 c.3)
      (subst (λ t. Answers levels 0 (pure (form.enumerated (map name_outline (n ∷ ns)))) c.1 (form.enumerated (map name_outline (n ∷ ns))) t) c.4 done)))))

  -- a constant begins no other denoter
  constant_begins : (c : Constant) (s : Spelling) (tokens others : List Token) → Reads tokens ((constant_outline c).spelling ++ s) others
      → by_next (next_kind tokens) tokens ≡ name_or_subrange tokens
  constant_begins c s tokens others h = by c.sign c.value h
    where
      signs : (g : Sign) → by_next (Some (sign_kind g)) tokens ≡ name_or_subrange tokens
      signs sign.Plus = refl
      signs sign.Minus = refl

      by : (g : Option SignAt) (v : ConstantValue) → Reads tokens (((sign_outline g).spelling ++ value_lexeme v ∷ []) ++ s) others
          → by_next (next_kind tokens) tokens ≡ name_or_subrange tokens
      by None (value.String t p) h = ap (λ k. by_next k tokens) (next_first kind.Text h.2 h.3.kind)
      by None (value.Number v p) h = ap (λ k. by_next k tokens) (next_first (kind.Number v) h.2 h.3.kind)
      by None (value.Name n) h = ap (λ k. by_next k tokens) (next_first kind.Identifier h.2 h.3.kind)
      by (Some g) v h = ap (λ k. by_next k tokens) (next_first (sign_kind g.sign) h.2 h.3.kind) ∙ signs g.sign

  subrange_reads : (a : Constant) (p : Place) (b : Constant) → ReadsHere (form.subrange (constant_outline a) p (constant_outline b))
  unfolding name_or_subrange
  subrange_reads a p b tokens others h w f =
      let x = constant_outline a in
      let y = constant_outline b in
      let q = parted x.spelling (symbol_at symbol.Range p ∷ y.spelling) tokens others h in
      let c = q.2 in
      of_depth _ (omega arith)
      (deeper (answers_same {q = name_or_subrange} (constant_begins a (symbol_at symbol.Range p ∷ y.spelling) tokens others h)
      (answered _ (constant_reads levels a tokens q.0 q.1 (and_left x.well y.well w) tt)
      (says (taken (kind.Symbol symbol.Range)) _ (takes_at (kind.Symbol symbol.Range) p c.2 c.3)
      (answered _ (constant_reads levels b c.1 others c.4 (and_right x.well y.well w) tt) done)))))

  -- ---- structured types

  array_behind : (p : Bool) (place : Place) (ds : List TypeDenoter) (d : TypeDenoter) (tokens others : List Token)
      → Reads tokens (kept (word_at word.Array place) ⧺ form.mark symbol.OpenBracket ⧺ form.separated symbol.Comma (map denoter_outline ds)
      ⧺ form.mark symbol.CloseBracket ⧺ form.word_symbol word.Of ⧺ denoter_outline d).spelling others
      → (form.separated symbol.Comma (map denoter_outline ds)).well && (denoter_outline d).well ≡ true → NoRange (next_kind others)
      → Answers levels (max (form.separated symbol.Comma (map denoter_outline ds)).depth (denoter_outline d).depth) (read.array inner) tokens
      (place, map denoter_outline ds, denoter_outline d) others
  unfolding read.array
  array_behind p place [] d tokens others h w f = absurd cc
  array_behind p place (x ∷ xs) d tokens others h w f =
      let o = form.separated symbol.Comma (map denoter_outline (x ∷ xs)) in
      let y = denoter_outline d in
      let b = h.4 in
      let q = parted o.spelling (of_kind (kind.Symbol symbol.CloseBracket) ∷ of_kind (kind.Word word.Of) ∷ y.spelling) b.1 others b.4 in
      let c = q.2 in
      let u = c.4 in
      let next = next_first (kind.Symbol symbol.CloseBracket) c.2 c.3.kind in
      of_depth _ (omega arith)
      (says (expect (kind.Word word.Array)) _ (expects_at (kind.Word word.Array) place h.2 h.3)
      (says (expect (kind.Symbol symbol.OpenBracket)) _ (expects_of (kind.Symbol symbol.OpenBracket) b.2 b.3)
      (answered _ (listed_reads NoRange symbol.Comma levels inner fewer (λ e. absurd cc) denoter_outline all x xs b.1 q.0 q.1 (and_left o.well y.well w)
      (other_first (kind.Symbol symbol.CloseBracket) (kind.Symbol symbol.Range) c.2 c.3.kind (λ e. absurd cc))
      (other_first (kind.Symbol symbol.CloseBracket) (kind.Symbol symbol.Comma) c.2 c.3.kind (λ e. absurd cc)))
      (says (expect (kind.Symbol symbol.CloseBracket)) _ (expects_of (kind.Symbol symbol.CloseBracket) c.2 c.3)
      (says (expect (kind.Word word.Of)) _ (expects_of (kind.Word word.Of) u.2 u.3)
      (answered _ (all d u.1 others u.4 (and_right o.well y.well w) f) done))))))

  abbrev Field : Type 0
  Field = List Name × TypeDenoter

  abbrev fields_of_one : Field → Outline
  fields_of_one x = fields_outline (x.0, denoter_outline x.1)

  fields_are : (rows : List (Vec Name Global)) (ds : List TypeDenoter)
      → map fields_outline (fields_of rows (map denoter_outline ds)) ≡ map fields_of_one (fields_of rows ds)
  fields_are [] ds = refl
  fields_are (r ∷ rows) [] = refl
  fields_are (r ∷ rows) (d ∷ ds) = ap (λ xs. fields_outline (r.items, denoter_outline d) ∷ xs) (fields_are rows ds)

  field_reads : (x : Field) → ReadsForm NoRange levels (read.fields inner) (fields_of_one x)
  unfolding read.fields
  field_reads (ns, d) tokens others h w f =
      let o = form.separated symbol.Comma (map name_outline ns) in
      let y = denoter_outline d in
      let q = colon_read levels ns y.spelling tokens others h (and_left o.well y.well w) in
      of_depth _ (omega arith) (answered _ q.1 (answered _ (all d q.0 others q.2 (and_right o.well y.well w) f) done))

  field_no_end : (x : Field) (t : Spelling) (tokens others : List Token) → Reads tokens ((fields_of_one x).spelling ++ t) others
      → ¬ (next_kind tokens ≡ Some (kind.Word word.End))
  field_no_end ([], d) t tokens others h = other_first (kind.Symbol symbol.Colon) (kind.Word word.End) h.2 h.3.kind (λ e. absurd cc)
  field_no_end (n ∷ ns, d) t tokens others h = other_first kind.Identifier (kind.Word word.End) h.2 h.3.kind (λ e. absurd cc)

  record_behind : (place : Place) (xs : List Field) (semicolon : Bool) (tokens others : List Token)
      → Reads tokens (kept (word_at word.Record place) ⧺ form.field_list (map fields_of_one xs) semicolon).spelling others
      → (form.field_list (map fields_of_one xs) semicolon).well ≡ true
      → Answers levels (form.field_list (map fields_of_one xs) semicolon).depth (read.record_type inner) tokens (place, map fields_of_one xs, semicolon) others
  unfolding read.record_type
  record_behind place [] true tokens others h w = absurd cc
  record_behind place [] false tokens others h w =
      let e = h.4 in
      says (expect (kind.Word word.Record)) _ (expects_at (kind.Word word.Record) place h.2 h.3)
      (says (taken (kind.Word word.End)) _ (takes_of (kind.Word word.End) e.2 e.3)
      (subst (λ t. Answers {A = Place × List Outline × Bool} levels 0 (pure (place, [], false)) e.1 (place, [], false) t) e.4 done))
  record_behind place (x ∷ xs) semicolon tokens others h w =
      let o = form.separated symbol.Semicolon (map fields_of_one (x ∷ xs)) in
      let e = ending semicolon in
      let q = parted o.spelling e.spelling h.1 others h.4 in
      let d = flat semicolon in
      of_depth _ (omega arith)
      (says (expect (kind.Word word.Record)) _ (expects_at (kind.Word word.Record) place h.2 h.3)
      (says (taken (kind.Word word.End)) _ (misses (kind.Word word.End) h.1 (field_no_end x ((led symbol.Semicolon (map fields_of_one xs)).spelling) h.1 q.0
      q.1))
      (answered _ (parts_read NoRange levels (read.fields inner) fields_fewer (λ e. absurd cc) (λ e. absurd cc) fields_of_one field_reads field_no_end x xs
      semicolon
      h.1 q.0 others q.1 (and_left o.well e.well w) q.2) done)))
    where
      flat : (b : Bool) → (ending b).depth ≡ 0
      flat true = refl
      flat false = refl

  packing_flat : (b : Bool) → (form.packing b).depth ≡ 0
  packing_flat true = refl
  packing_flat false = refl

  packs : (p : Bool) (k : Word) (place : Place) (s : Spelling) (tokens others : List Token) → ¬ (k ≡ word.Packed)
      → Reads tokens ((form.packing p).spelling ++ word_at k place ∷ s) others
      → (mid : List Token) × (read.packed tokens ≡ Ok (p, mid)) × (next_kind mid ≡ Some (kind.Word k)) × Reads mid (word_at k place ∷ s) others
      × (w : Word) × (next_kind tokens ≡ Some (kind.Word w))
  unfolding read.packed
  packs false k place s tokens others other h = (
    tokens,
    ap (λ o. and_then o (λ place. pure (is_some place)))
        (misses (kind.Word word.Packed) tokens (other_first (kind.Word k) (kind.Word word.Packed) h.2 h.3.kind (λ e. other (let f : kind.Word k ≡ kind.Word
        word.Packed = e in cc)))),
    next_first (kind.Word k) h.2 h.3.kind,
    h,
    k,
    next_first (kind.Word k) h.2 h.3.kind,
  )
  packs true k place s tokens others other h =
      let a = h.4 in (
        h.1,
        ap (λ o. and_then o (λ place. pure (is_some place))) (takes_of (kind.Word word.Packed) h.2 h.3),
        next_first (kind.Word k) a.2 a.3.kind,
        a,
        word.Packed,
        next_first (kind.Word word.Packed) h.2 h.3.kind,
      )

  -- what stands behind `packed` or none, by what comes next
  abbrev structured_by : Bool → Option Kind → Reading Outline
  structured_by p next =
      if is_kind (kind.Word word.Array) next then (read.array inner >>= (λ a. pure (form.array p a.0 a.1 a.2)))
      else (if is_kind (kind.Word word.Set) next then (read.set_type inner >>= (λ s. pure (form.set_type p s.0 s.1)))
      else (read.record_type inner >>= (λ r. pure (form.record_type p r.0 r.1 r.2))))

  array_reads : (p : Bool) (place : Place) (ds : List TypeDenoter) (d : TypeDenoter)
      → ReadsHere (form.array p place (map denoter_outline ds) (denoter_outline d))
  unfolding read.structured
  array_reads p place ds d tokens others h w f =
      let o = form.separated symbol.Comma (map denoter_outline ds) in
      let y = denoter_outline d in
      let s = of_kind (kind.Symbol symbol.OpenBracket) ∷ o.spelling ++ of_kind (kind.Symbol symbol.CloseBracket) ∷ of_kind (kind.Word word.Of) ∷ y.spelling in
      let x = packs p word.Array place s tokens others (λ e. absurd cc) h in
      let wp = and_right (form.packing p).well (o.well && y.well) w in
      let flat = packing_flat p in
      of_depth _ (omega arith)
      (begun {p = read.structured inner} (kind.Word x.4) x.5 refl
      (says read.packed _ x.1 (answers_same {q = read.array inner >>= (λ a. pure (form.array p a.0 a.1 a.2))}
      (ap (λ k. structured_by p k x.0) x.2)
      (answered _ (array_behind p place ds d x.0 others x.3 wp f) done))))

  record_reads : (p : Bool) (place : Place) (xs : List Field) (semicolon : Bool) → ReadsHere (form.record_type p place (map fields_of_one xs) semicolon)
  unfolding read.structured
  record_reads p place xs semicolon tokens others h w f =
      let l = form.field_list (map fields_of_one xs) semicolon in
      let x = packs p word.Record place l.spelling tokens others (λ e. absurd cc) h in
      let wp = and_right (form.packing p).well l.well w in
      let flat = packing_flat p in
      of_depth _ (omega arith)
      (begun {p = read.structured inner} (kind.Word x.4) x.5 refl
      (says read.packed _ x.1 (answers_same {q = read.record_type inner >>= (λ r. pure (form.record_type p r.0 r.1 r.2))}
      (ap (λ k. structured_by p k x.0) x.2)
      (answered _ (record_behind place xs semicolon x.0 others x.3 wp) done))))

  set_behind : (place : Place) (d : TypeDenoter) (tokens others : List Token)
      → Reads tokens (kept (word_at word.Set place) ⧺ form.word_symbol word.Of ⧺ denoter_outline d).spelling others → (denoter_outline d).well ≡ true
      → NoRange (next_kind others) → Answers levels (denoter_outline d).depth (read.set_type inner) tokens (place, denoter_outline d) others
  unfolding read.set_type
  set_behind place d tokens others h w f =
      let u = h.4 in
      says (expect (kind.Word word.Set)) _ (expects_at (kind.Word word.Set) place h.2 h.3)
      (says (expect (kind.Word word.Of)) _ (expects_of (kind.Word word.Of) u.2 u.3)
      (of_depth _ (omega arith) (answered _ (all d u.1 others u.4 w f) done)))

  set_reads : (p : Bool) (place : Place) (d : TypeDenoter) → ReadsHere (form.set_type p place (denoter_outline d))
  unfolding read.structured
  set_reads p place d tokens others h w f =
      let y = denoter_outline d in
      let x = packs p word.Set place (of_kind (kind.Word word.Of) ∷ y.spelling) tokens others (λ e. absurd cc) h in
      let wp = and_right (form.packing p).well y.well w in
      let flat = packing_flat p in
      of_depth _ (omega arith)
      (begun {p = read.structured inner} (kind.Word x.4) x.5 refl
      (says read.packed _ x.1 (answers_same {q = read.set_type inner >>= (λ s. pure (form.set_type p s.0 s.1))}
      (ap (λ k. structured_by p k x.0) x.2)
      (answered _ (set_behind place d x.0 others x.3 wp f) done))))

  layer_reads : (d : denoter.TypeDenoter-F TypeDenoter) → ReadsHere (denoter_layer d)
  layer_reads (denoter.Name n) = named_reads n
  layer_reads (denoter.Enumerated ns) = enumerated_reads ns.items
  layer_reads (denoter.Subrange a p b) = subrange_reads a p b
  layer_reads (denoter.Array p place ds d) = array_reads p place ds.items d.value
  layer_reads (denoter.Set p place d) = set_reads p place d.value
  layer_reads (denoter.Record p place rows ds semicolon) =
      tested (nat_eq (length rows.items) (length (map denoter_outline ds.items)))
      (form.record_type p place (map fields_outline (fields_of rows.items (map denoter_outline ds.items))) semicolon)
      (subst (λ xs. ReadsHere (form.record_type p place xs semicolon)) (sym (fields_are rows.items ds.items)) (record_reads p place (fields_of rows.items
      ds.items) semicolon))
    where
      tested : (test : Bool) (o : Outline) → ReadsHere o → ReadsHere (only_if test o)
      tested true o law tokens others h w f = law tokens others h w f
      tested false o law tokens others h w f = absurd cc

denoter_out : (d : TypeDenoter) → denoter_outline d ≡ denoter_layer (out-TypeDenoter d)
denoter_out d = ap denoter_outline (sym (roll-out-TypeDenoter d)) ∙ denoter_is (out-TypeDenoter d)

layer_depth : (d : denoter.TypeDenoter-F TypeDenoter) → 1 ≤ (denoter_layer d).depth
layer_depth (denoter.Name n) = omega arith
layer_depth (denoter.Enumerated ns) = omega arith
layer_depth (denoter.Subrange a p b) = omega arith
layer_depth (denoter.Array p place ds d) = omega arith
layer_depth (denoter.Record p place rows ds semicolon) = omega arith
layer_depth (denoter.Set p place d) = omega arith

pub denoter_read : (levels : ℕ) (d : TypeDenoter) → ReadsForm NoRange levels (read.denoter levels) (denoter_outline d)
denoter_read zero d tokens others h w f =
    stops (let e = subst (λ (o : Outline). 1 ≤ o.depth) (sym (denoter_out d)) (layer_depth (out-TypeDenoter d)) in omega arith) (next_place tokens) tokens refl
denoter_read (suc levels) d tokens others h w f =
    let law : ReadsForm NoRange (suc levels) (read.denoter (suc levels)) (denoter_outline d) =
    subst (λ o. ReadsForm NoRange (suc levels) (read.denoter (suc levels)) o) (sym (denoter_out d))
    (layer_reads levels (read.denoter levels) (denoter_no_more levels) (fields_no_more levels) (denoter_read levels) (out-TypeDenoter d)) in
    law tokens others h w f

type_reads : (levels : ℕ) (d : TypeDefinition) → ReadsForm Anything levels (read.type_definition levels) (type_outline d)
unfolding read.type_definition
type_reads levels d tokens others h w f =
    let o = denoter_outline d.denoter in
    let e = h.4 in
    let q = parted o.spelling (of_kind (kind.Symbol symbol.Semicolon) ∷ []) e.1 others e.4 in
    let c = q.2 in
    of_depth _ (omega arith)
    (says expect_name _ (expects_name d.name.text.now d.name.place h.2 h.3)
    (says (expect (kind.Symbol symbol.Equal)) _ (expects_of (kind.Symbol symbol.Equal) e.2 e.3)
    (answered _ (denoter_read levels d.denoter e.1 q.0 q.1 (and_left o.well true w)
    (other_first (kind.Symbol symbol.Semicolon) (kind.Symbol symbol.Range) c.2 c.3.kind (λ e. absurd cc)))
    (says (expect (kind.Symbol symbol.Semicolon)) _ (expects_of (kind.Symbol symbol.Semicolon) c.2 c.3)
    (subst (λ t. Answers levels 0 (pure (type_outline d)) c.1 (type_outline d) t) c.4 done)))))

pub types_read : (levels : ℕ) (ds : List TypeDefinition) (tokens others : List Token) → Reads tokens (form.part word.Type (map type_outline ds)).spelling others
    → (form.part word.Type (map type_outline ds)).well ≡ true → ¬ (next_kind others ≡ Some (kind.Word word.Type)) → is_kind kind.Identifier (next_kind
    others) ≡ false
    → Answers levels (form.part word.Type (map type_outline ds)).depth (read.types levels) tokens (map type_outline ds) others
types_read levels =
    part_reads word.Type levels (read.type_definition levels) (type_takes levels) type_outline (type_reads levels) (λ d s tokens others h w. begins_name h.2
    h.3.kind)

group_reads : (levels : ℕ) (g : VariableGroup) → ReadsForm Anything levels (read.group levels) (group_outline g)
unfolding read.group
group_reads levels g tokens others h w f =
    let n = form.separated symbol.Comma (map name_outline g.names.items) in
    let o = denoter_outline g.denoter in
    let x = colon_read levels g.names.items (o.spelling ++ of_kind (kind.Symbol symbol.Semicolon) ∷ []) tokens others h (and_left n.well (o.well && true) w) in
    let q = parted o.spelling (of_kind (kind.Symbol symbol.Semicolon) ∷ []) x.0 others x.2 in
    let c = q.2 in
    of_depth _ (omega arith)
    (answered _ x.1
    (answered _ (denoter_read levels g.denoter x.0 q.0 q.1 (and_left o.well true (and_right n.well (o.well && true) w))
    (other_first (kind.Symbol symbol.Semicolon) (kind.Symbol symbol.Range) c.2 c.3.kind (λ e. absurd cc)))
    (says (expect (kind.Symbol symbol.Semicolon)) _ (expects_of (kind.Symbol symbol.Semicolon) c.2 c.3)
    (subst (λ t. Answers levels 0 (pure (group_outline g)) c.1 (group_outline g) t) c.4 done))))

group_begins : (g : VariableGroup) (s : Spelling) (tokens others : List Token) → Reads tokens ((group_outline g).spelling ++ s) others → (group_outline
    g).well ≡ true
    → is_kind kind.Identifier (next_kind tokens) ≡ true
group_begins g s tokens others h w = by g.names.items h w
  where
    by : (ns : List Name) → Reads tokens ((form.group (map name_outline ns) (denoter_outline g.denoter)).spelling ++ s) others
        → (form.group (map name_outline ns) (denoter_outline g.denoter)).well ≡ true → is_kind kind.Identifier (next_kind tokens) ≡ true
    by [] h w = absurd cc
    by (n ∷ ns) h w = begins_name h.2 h.3.kind

pub variables_read : (levels : ℕ) (gs : List VariableGroup) (tokens others : List Token) → Reads tokens (form.part word.Var (map group_outline gs)).spelling
    others
    → (form.part word.Var (map group_outline gs)).well ≡ true → ¬ (next_kind others ≡ Some (kind.Word word.Var)) → is_kind kind.Identifier (next_kind
    others) ≡ false
    → Answers levels (form.part word.Var (map group_outline gs)).depth (read.variables levels) tokens (map group_outline gs) others
variables_read levels = part_reads word.Var levels (read.group levels) (group_takes levels) group_outline (group_reads levels) group_begins
