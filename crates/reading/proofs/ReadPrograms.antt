-- What well formed declarations, blocks and programs spell is read so.
use Rattle.std.proofs.Common.{◌≡◌, ℕ, zero, suc, ◌+◌, ◌<◌, ◌≤◌, max, Bool, true, false, ◌&&◌, nat_eq, if◌then◌else◌, List, [], ◌∷◌, ◌++◌}
use Rattle.std.proofs.Common.{map}
use Rattle.std.proofs.Common.{Option, Some, None, is_some, codes, Ok, refl, sym, ap, subst, ◌∙◌, arith}
use Rattle.std.specs.Char.{to_ascii_lowercase}
use Rattle.std.specs.Cmp.Lexicographic.{pointwise}
use Rattle.std.specs.Option.{option_map}
use Rattle.place.specs.declared.Place.{Place}
use Rattle.lexer.specs.declared.token.Kind.{Kind}
use Rattle.lexer.specs.declared.token.Kind.TheVariants as kind
use Rattle.lexer.specs.declared.token.Symbol.TheVariants as symbol
use Rattle.lexer.specs.declared.token.Word.{Word}
use Rattle.lexer.specs.declared.token.Word.TheVariants as word
use Rattle.lexer.specs.declared.token.Token.{Token}
use Rattle.syntax_tree.specs.declared.Name.{Name}
use Rattle.syntax_tree.specs.declared.Passing.{Passing}
use Rattle.syntax_tree.specs.declared.Passing.TheVariants as pass
use Rattle.syntax_tree.specs.declared.FormalGroup.{FormalGroup}
use Rattle.syntax_tree.specs.declared.Heading.{Heading}
use Rattle.syntax_tree.specs.declared.Heading.TheVariants.{Procedure, Function, Resumed}
use Rattle.syntax_tree.specs.declared.Stmt.{Stmt}
use Rattle.syntax_tree.specs.declared.ConstantDefinition.{ConstantDefinition}
use Rattle.syntax_tree.specs.declared.TypeDefinition.{TypeDefinition}
use Rattle.syntax_tree.specs.declared.VariableGroup.{VariableGroup}
use Rattle.syntax_tree.specs.declared.Block.{Block}
use Rattle.syntax_tree.specs.declared.Block.TheViews.{out-Block, out-Routine}
use Rattle.syntax_tree.specs.declared.Routine.{Routine}
use Rattle.syntax_tree.specs.declared.Program.{Program}
use Rattle.reading.specs.Lexemes.{Lexeme, Spelling, IsSpelledBy, Reads, of_kind, identifier, forward, word_at}
use Rattle.reading.specs.Outline as form
use Rattle.reading.specs.Outline.{Outline, ◌⧺◌, nothing, kept, only_if, has_items, row, led, in_parentheses, passing}
use Rattle.reading.specs.Trees.{name_outline, definition_outline, type_outline, group_outline, stmt_outline, is_variable, formal_outline, heading_outline}
use Rattle.reading.specs.Trees.{takes_directive}
use Rattle.reading.specs.Trees.{body_outline, block_outline, routine_outline, program_outline}
use Rattle.reading.specs.Reading.{and_then, ◌>>=◌, pure, too_deep, here, next_kind, next_place, taken, word_taken}
use Rattle.reading.specs.Reading.{is_kind}
use Rattle.reading.specs.Reading.{token_by, take_if, same_kind, is_forward, forward_taken, expect, expect_name}
use Rattle.reading.specs.Statements.{statement}
use Rattle.reading.specs.Declarations as read
use Rattle.reading.specs.Declarations.{begins_routine, finish}
use Rattle.reading.specs.Expressions.{Below}
use Rattle.reading.proofs.Tests.{and_left, and_right, letters_same, and_true}
use Rattle.reading.proofs.Makes.{deep_makes, same_kind_true, true_same_kind}
use Rattle.reading.proofs.MadePrograms.{BlockIn}
use Rattle.reading.proofs.Uses.{formal_no_more, routine_takes, statement_no_more, block_nests}
use Rattle.reading.proofs.Good.{both}
use Rattle.reading.proofs.Outlines.{block_is, routine_is}
use Rattle.reading.proofs.Answers.{Answers, stops, answered, says, done, answers_same, of_depth, made_so, deeper, parted}
use Rattle.reading.proofs.Answers.{takes_of, expects_of, misses, expects_name, next_first}
use Rattle.reading.proofs.ReadExpressions.{ReadsAs, ReadsForm, listed_reads, other_first}
use Rattle.reading.proofs.ReadStatements.{Anything, compound_reads, statement_read}
use Rattle.reading.proofs.ReadDenoters.{many_reads, names_read, colon_read, constants_read, types_read, variables_read}

-- ---- formal parameters and headings

formal_by : (limit : ℕ) (by : Passing) (ns : List Name) (t : Name)
    → ReadsForm Anything limit read.formal (form.formal (is_variable by) (map name_outline ns) (identifier t))
unfolding read.formal read.passing
formal_by limit by [] t tokens others h w f = absurd (passing_well by w)
  where
    passing_well : (by : Passing) → (passing (is_variable by)).well && false ≡ true → ⊥
    passing_well pass.Value e = absurd cc
    passing_well pass.Variable e = absurd cc
formal_by limit pass.Value (n ∷ ns) t tokens others h w f =
    let o = form.separated symbol.Comma (map name_outline (n ∷ ns)) in
    let x = colon_read limit (n ∷ ns) (identifier t ∷ []) tokens others h (and_left o.well true w) in
    let c = x.2 in
    of_depth _ (omega arith)
    (says (word_taken word.Var >>= (λ place. pure (is_some place))) _
    (ap (λ o. and_then o (λ place. pure (is_some place))) (misses (kind.Word word.Var) tokens (other_first kind.Identifier (kind.Word word.Var) h.2 h.3.kind
    (λ e. absurd cc))))
    (answered _ x.1 (says expect_name _ (expects_name t.text.now t.place c.2 c.3)
    (subst (λ u. Answers limit 0 (pure (form.formal false (map name_outline (n ∷ ns)) (identifier t))) c.1 (form.formal false (map name_outline (n ∷ ns))
    (identifier t)) u) c.4
    done))))
formal_by limit pass.Variable (n ∷ ns) t tokens others h w f =
    let o = form.separated symbol.Comma (map name_outline (n ∷ ns)) in
    let x = colon_read limit (n ∷ ns) (identifier t ∷ []) h.1 others h.4 (and_left o.well true w) in
    let c = x.2 in
    of_depth _ (omega arith)
    (says (word_taken word.Var >>= (λ place. pure (is_some place))) _
    (ap (λ o. and_then o (λ place. pure (is_some place))) (takes_of (kind.Word word.Var) h.2 h.3))
    (answered _ x.1 (says expect_name _ (expects_name t.text.now t.place c.2 c.3)
    (subst (λ u. Answers limit 0 (pure (form.formal true (map name_outline (n ∷ ns)) (identifier t))) c.1 (form.formal true (map name_outline (n ∷ ns))
    (identifier t)) u) c.4
    done))))

formals_read : (limit : ℕ) (gs : List FormalGroup) (tokens others : List Token) → Reads tokens (in_parentheses symbol.Semicolon (map formal_outline
    gs)).spelling others
    → (in_parentheses symbol.Semicolon (map formal_outline gs)).well ≡ true → ¬ (next_kind others ≡ Some (kind.Symbol symbol.OpenParenthesis))
    → Answers limit (in_parentheses symbol.Semicolon (map formal_outline gs)).depth read.formals tokens (map formal_outline gs) others
unfolding read.formals
formals_read limit [] tokens others h w other =
    subst (λ t. Answers limit 0 read.formals t [] others) (sym h)
    (says (taken (kind.Symbol symbol.OpenParenthesis)) _ (misses (kind.Symbol symbol.OpenParenthesis) others other) done)
formals_read limit (g ∷ gs) tokens others h w other =
    let o = form.separated symbol.Semicolon (map formal_outline (g ∷ gs)) in
    let q = parted o.spelling (of_kind (kind.Symbol symbol.CloseParenthesis) ∷ []) h.1 others h.4 in
    let c = q.2 in
    of_depth _ (omega arith)
    (says (taken (kind.Symbol symbol.OpenParenthesis)) _ (takes_of (kind.Symbol symbol.OpenParenthesis) h.2 h.3)
    (answered _ (listed_reads Anything symbol.Semicolon limit read.formal formal_no_more tt formal_outline (λ x. formal_by limit x.by x.names.items
    x.type_name) g gs h.1 q.0 q.1
    (and_left o.well true w) tt (other_first (kind.Symbol symbol.CloseParenthesis) (kind.Symbol symbol.Semicolon) c.2 c.3.kind (λ e. absurd cc)))
    (says (expect (kind.Symbol symbol.CloseParenthesis)) _ (expects_of (kind.Symbol symbol.CloseParenthesis) c.2 c.3)
    (subst (λ t. Answers limit 0 (pure (map formal_outline (g ∷ gs))) c.1 (map formal_outline (g ∷ gs)) t) c.4 done))))

signature_read : (limit : ℕ) (gs : List FormalGroup) (result : Name) (tokens others : List Token)
    → Reads tokens ((in_parentheses symbol.Semicolon (map formal_outline gs)).spelling ++ of_kind (kind.Symbol symbol.Colon) ∷ identifier result
    ∷ of_kind (kind.Symbol symbol.Semicolon) ∷ []) others
    → (in_parentheses symbol.Semicolon (map formal_outline gs)).well ≡ true
    → Answers limit (in_parentheses symbol.Semicolon (map formal_outline gs)).depth read.signature tokens (map formal_outline gs, identifier result) others
unfolding read.signature
signature_read limit gs result tokens others h w =
    let o = in_parentheses symbol.Semicolon (map formal_outline gs) in
    let q = parted o.spelling (of_kind (kind.Symbol symbol.Colon) ∷ identifier result ∷ of_kind (kind.Symbol symbol.Semicolon) ∷ []) tokens others h in
    let c = q.2 in
    let n = c.4 in
    let s = n.4 in
    of_depth {d = max o.depth 0} o.depth (omega arith)
    (answered _ (formals_read limit gs tokens q.0 q.1 w (other_first (kind.Symbol symbol.Colon) (kind.Symbol symbol.OpenParenthesis) c.2 c.3.kind (λ e.
    absurd cc)))
    (says (expect (kind.Symbol symbol.Colon)) _ (expects_of (kind.Symbol symbol.Colon) c.2 c.3)
    (says expect_name _ (expects_name result.text.now result.place n.2 n.3)
    (says (expect (kind.Symbol symbol.Semicolon)) _ (expects_of (kind.Symbol symbol.Semicolon) s.2 s.3)
    (subst (λ t. Answers {A = List Outline × Lexeme} limit 0 (pure (map formal_outline gs, identifier result)) s.1 (
      map formal_outline gs,
      identifier
          result,
    ) t) s.4 done)))))

-- behind the name of a function a semicolon comes only where it is resumed
signature_first : (gs : List FormalGroup) (s : Spelling) (tokens others : List Token)
    → Reads tokens ((in_parentheses symbol.Semicolon (map formal_outline gs)).spelling ++ of_kind (kind.Symbol symbol.Colon) ∷ s) others
    → ¬ (next_kind tokens ≡ Some (kind.Symbol symbol.Semicolon))
signature_first [] s tokens others h = other_first (kind.Symbol symbol.Colon) (kind.Symbol symbol.Semicolon) h.2 h.3.kind (λ e. absurd cc)
signature_first (g ∷ gs) s tokens others h = other_first (kind.Symbol symbol.OpenParenthesis) (kind.Symbol symbol.Semicolon) h.2 h.3.kind (λ e. absurd cc)

heading_read : (limit : ℕ) (x : Heading) (tokens others : List Token) → Reads tokens (heading_outline x).spelling others → (heading_outline x).well ≡ true
    → Answers limit (heading_outline x).depth read.heading tokens (heading_outline x, takes_directive x) others
unfolding read.heading read.procedure read.function
heading_read limit (Procedure n gs) tokens others h w =
    let o = in_parentheses symbol.Semicolon (map formal_outline gs.items) in
    let m = h.4 in
    let q = parted o.spelling (of_kind (kind.Symbol symbol.Semicolon) ∷ []) m.1 others m.4 in
    let c = q.2 in
    answers_same {q = read.procedure} (ap (λ k. (if is_kind (kind.Word word.Procedure) k then read.procedure else read.function) tokens)
    (next_first (kind.Word word.Procedure) h.2 h.3.kind))
    (of_depth {d = max o.depth 0} _ (omega arith)
    (says (expect (kind.Word word.Procedure)) _ (expects_of (kind.Word word.Procedure) h.2 h.3)
    (says expect_name _ (expects_name n.text.now n.place m.2 m.3)
    (answered _ (formals_read limit gs.items m.1 q.0 q.1 (and_left o.well true w)
    (other_first (kind.Symbol symbol.Semicolon) (kind.Symbol symbol.OpenParenthesis) c.2 c.3.kind (λ e. absurd cc)))
    (says (expect (kind.Symbol symbol.Semicolon)) _ (expects_of (kind.Symbol symbol.Semicolon) c.2 c.3)
    (subst (λ t. Answers {A = Outline × Bool} limit 0 (pure (form.procedure_heading (identifier n) (map formal_outline gs.items), true)) c.1
    (form.procedure_heading (identifier n) (map formal_outline gs.items), true) t) c.4 done))))))
heading_read limit (Function n gs result) tokens others h w =
    let o = in_parentheses symbol.Semicolon (map formal_outline gs.items) in
    let m = h.4 in
    answers_same {q = read.function} (ap (λ k. (if is_kind (kind.Word word.Procedure) k then read.procedure else read.function) tokens)
    (next_first (kind.Word word.Function) h.2 h.3.kind))
    (of_depth {d = max o.depth 0} _ (omega arith)
    (says (expect (kind.Word word.Function)) _ (expects_of (kind.Word word.Function) h.2 h.3)
    (says expect_name _ (expects_name n.text.now n.place m.2 m.3)
    (says (taken (kind.Symbol symbol.Semicolon)) _ (misses (kind.Symbol symbol.Semicolon) m.1
    (signature_first gs.items (identifier result ∷ of_kind (kind.Symbol symbol.Semicolon) ∷ []) m.1 others m.4))
    (answered _ (signature_read limit gs.items result m.1 others m.4 (and_left o.well true w)) done)))))
heading_read limit (Resumed n) tokens others h w =
    let m = h.4 in
    let c = m.4 in
    answers_same {q = read.function} (ap (λ k. (if is_kind (kind.Word word.Procedure) k then read.procedure else read.function) tokens)
    (next_first (kind.Word word.Function) h.2 h.3.kind))
    (says (expect (kind.Word word.Function)) _ (expects_of (kind.Word word.Function) h.2 h.3)
    (says expect_name _ (expects_name n.text.now n.place m.2 m.3)
    (says (taken (kind.Symbol symbol.Semicolon)) _ (takes_of (kind.Symbol symbol.Semicolon) c.2 c.3)
    (subst (λ t. Answers {A = Outline × Bool} limit 0 (pure (form.resumed_heading (identifier n), false)) c.1 (form.resumed_heading (identifier n), false)
    t) c.4 done))))

-- a procedure or function begins with its word symbol
heading_begins : (x : Heading) (s : Spelling) (tokens others : List Token) → Reads tokens ((heading_outline x).spelling ++ s) others → begins_routine
    (next_kind tokens) ≡ true
heading_begins (Procedure n gs) s tokens others h = ap begins_routine (next_first (kind.Word word.Procedure) h.2 h.3.kind)
heading_begins (Function n gs result) s tokens others h = ap begins_routine (next_first (kind.Word word.Function) h.2 h.3.kind)
heading_begins (Resumed n) s tokens others h = ap begins_routine (next_first (kind.Word word.Function) h.2 h.3.kind)

-- ---- bodies

takes_forward : {token : Token} {behind tokens : List Token} → tokens ≡ token ∷ behind → IsSpelledBy forward token → forward_taken tokens ≡ Ok (Some tt, behind)
unfolding forward_taken
takes_forward {token} {behind} {tokens} are is =
    ap (λ ts. token_by (λ t. if is_forward t then Some (tt {0}) else None) ts) are
    ∙ ap (λ b. take_if (if b then Some (tt {0}) else None) token behind)
    (and_true (same_kind token.kind kind.Identifier) (pointwise nat_eq (map to_ascii_lowercase token.text.now) (codes "forward"))
    (subst (λ k. same_kind token.kind k ≡ true) is.kind (true_same_kind token.kind))
    (subst (λ l. pointwise nat_eq (map to_ascii_lowercase token.text.now) l ≡ true) is.letters (letters_same (map to_ascii_lowercase token.text.now))))

misses_forward : (tokens : List Token) → ¬ (next_kind tokens ≡ Some kind.Identifier) → forward_taken tokens ≡ Ok (None, tokens)
unfolding forward_taken
misses_forward [] other = refl
misses_forward (token ∷ others) other = by (same_kind token.kind kind.Identifier) refl
  where
    by : (b : Bool) → same_kind token.kind kind.Identifier ≡ b
        → take_if (if is_forward token then Some (tt {0}) else None) token others ≡ Ok (None, token ∷ others)
    by true e = absurd (other (ap Some (same_kind_true token.kind kind.Identifier e)))
    by false e =
        ap (λ b. take_if (if b && pointwise nat_eq (map to_ascii_lowercase token.text.now) (codes "forward") then Some (tt {0}) else None) token others) e

module _ (limit : ℕ) (inner : Below) (nests : BlockIn limit inner)
    (blocks : (b : Block) (at : Option Place) → ReadsAs Anything limit (inner at) (block_outline b) (1 + (block_outline b).depth) (block_outline b).spelling
    (block_outline b).well)
    (begins : (b : Block) (s : Spelling) (tokens others : List Token) → Reads tokens ((block_outline b).spelling ++ s) others → (block_outline b).well ≡ true
    → ¬ (next_kind tokens ≡ Some kind.Identifier)) where
  body_read : (may : Bool) (b : Option Block) (s : Spelling) (tokens mid others : List Token) → Reads tokens (body_outline may (option_map block_outline
      b)).spelling mid
      → Reads mid s others → (body_outline may (option_map block_outline b)).well ≡ true
      → Answers limit (body_outline may (option_map block_outline b)).depth (read.body inner may) tokens (body_outline may (option_map block_outline b)) mid
  unfolding read.body
  body_read true None s tokens mid others h r w =
      says forward_taken _ (takes_forward h.2 h.3) (subst (λ t. Answers limit 0 (pure (form.directive true)) h.1 (form.directive true) t) h.4 done)
  body_read false None s tokens mid others h r w = absurd cc
  body_read true (Some b) s tokens mid others h r w =
      of_depth _ (omega arith)
      (says forward_taken _ (misses_forward tokens (begins b s tokens others (both (block_outline b).spelling s tokens mid others h r) w))
      (answered _ (says here inner refl (blocks b (next_place tokens) tokens mid h w tt)) done))
  body_read false (Some b) s tokens mid others h r w =
      of_depth _ (omega arith) (answered _ (says here inner refl (blocks b (next_place tokens) tokens mid h w tt)) done)

  routine_by : (x : Heading) (b : Option Block)
      → ReadsForm Anything limit (read.routine inner) (form.routine (heading_outline x) (body_outline (takes_directive x) (option_map block_outline b)))
  unfolding read.routine
  routine_by x b tokens others h w f =
      let o = heading_outline x in
      let y = body_outline (takes_directive x) (option_map block_outline b) in
      let p = parted o.spelling (y.spelling ++ of_kind (kind.Symbol symbol.Semicolon) ∷ []) tokens others h in
      let q = parted y.spelling (of_kind (kind.Symbol symbol.Semicolon) ∷ []) p.0 others p.2 in
      let c = q.2 in
      let yw = and_left y.well true (and_right o.well (y.well && true) w) in
      of_depth _ (omega arith)
      (answered _ (heading_read limit x tokens p.0 p.1 (and_left o.well (y.well && true) w))
      (answered _ (body_read (takes_directive x) b (of_kind (kind.Symbol symbol.Semicolon) ∷ []) p.0 q.0 others q.1 q.2 yw)
      (says (expect (kind.Symbol symbol.Semicolon)) _ (expects_of (kind.Symbol symbol.Semicolon) c.2 c.3)
      (subst (λ t. Answers limit 0 (pure (form.routine o y)) c.1 (form.routine o y) t) c.4 done))))

  routine_read : (r : Routine) → ReadsForm Anything limit (read.routine inner) (routine_outline r)
  routine_read r = subst (λ o. ReadsForm Anything limit (read.routine inner) o) (sym (routine_is r)) (routine_by (out-Routine r).heading (out-Routine r).block)

  routine_begins : (r : Routine) (s : Spelling) (tokens others : List Token) → Reads tokens ((routine_outline r).spelling ++ s) others → (routine_outline
      r).well ≡ true
      → begins_routine (next_kind tokens) ≡ true
  routine_begins r s tokens others h w =
      let x = (out-Routine r).heading in
      let y = body_outline (takes_directive x) (option_map block_outline (out-Routine r).block) in
      let t = y.spelling ++ of_kind (kind.Symbol symbol.Semicolon) ∷ [] in
      let g : Reads tokens (((heading_outline x).spelling ++ t) ++ s) others = subst (λ (o : Outline). Reads tokens (o.spelling ++ s) others) (routine_is r)
      h in
      let p = parted ((heading_outline x).spelling ++ t) s tokens others g in
      heading_begins x t tokens p.0 p.1

  routines_read : (rs : List Routine) (tokens others : List Token) → Reads tokens (row (map routine_outline rs)).spelling others → (row (map routine_outline
      rs)).well ≡ true
      → begins_routine (next_kind others) ≡ false
      → Answers limit (row (map routine_outline rs)).depth (read.routines inner) tokens (map routine_outline rs) others
  routines_read = many_reads begins_routine limit (read.routine inner) (routine_takes limit inner nests) routine_outline routine_read routine_begins

-- ---- blocks

-- the parts of a block stand in an order: how early the part may stand that a token begins
abbrev stage : Option Kind → ℕ
stage (Some kind.Identifier) = 9
stage (Some (kind.Word word.Const)) = 4
stage (Some (kind.Word word.Type)) = 3
stage (Some (kind.Word word.Var)) = 2
stage _ = 0

no_kind : (k : Kind) (n : ℕ) (next : Option Kind) → stage next ≤ n → n < stage (Some k) → ¬ (next ≡ Some k)
no_kind k n next h g e = let f : stage next ≡ stage (Some k) = ap stage e in absurd (omega arith)

no_name : (next : Option Kind) → stage next ≤ 8 → is_kind kind.Identifier next ≡ false
no_name None h = refl
no_name (Some kind.Identifier) h = absurd (omega arith)
no_name (Some (kind.Word w)) h = refl
no_name (Some (kind.Number v)) h = refl
no_name (Some kind.Text) h = refl
no_name (Some (kind.Symbol s)) h = refl

part_stage : (w : Word) (xs : List Outline) (n : ℕ) (tokens others : List Token) → Reads tokens (form.part w xs).spelling others → stage (Some (kind.Word
    w)) ≤ n
    → stage (next_kind others) ≤ n → stage (next_kind tokens) ≤ n
part_stage w [] n tokens others h own rest = subst (λ t. stage (next_kind t) ≤ n) (sym h) rest
part_stage w (x ∷ xs) n tokens others h own rest = subst (λ k. stage k ≤ n) (sym (next_first (kind.Word w) h.2 h.3.kind)) own

routine_stage : (next : Option Kind) → begins_routine next ≡ true → stage next ≡ 0
routine_stage (Some (kind.Word word.Procedure)) h = refl
routine_stage (Some (kind.Word word.Function)) h = refl
routine_stage _ h = absurd cc

heading_stage : (r : Routine) (s : Spelling) (tokens others : List Token) → Reads tokens ((routine_outline r).spelling ++ s) others → stage (next_kind
    tokens) ≡ 0
heading_stage r s tokens others h =
    let x = (out-Routine r).heading in
    let y = body_outline (takes_directive x) (option_map block_outline (out-Routine r).block) in
    let t = y.spelling ++ of_kind (kind.Symbol symbol.Semicolon) ∷ [] in
    let g : Reads tokens (((heading_outline x).spelling ++ t) ++ s) others = subst (λ (o : Outline). Reads tokens (o.spelling ++ s) others) (routine_is r) h in
    let p = parted ((heading_outline x).spelling ++ t) s tokens others g in
    routine_stage (next_kind tokens) (heading_begins x t tokens p.0 p.1)

routines_stage : (rs : List Routine) (tokens others : List Token) → Reads tokens (row (map routine_outline rs)).spelling others → stage (next_kind others) ≡ 0
    → stage (next_kind tokens) ≡ 0
routines_stage [] tokens others h rest = subst (λ t. stage (next_kind t) ≡ 0) (sym h) rest
routines_stage (r ∷ rs) tokens others h rest = heading_stage r (row (map routine_outline rs)).spelling tokens others h

-- the compound statement of a block
statements_read : (levels : ℕ) (ss : List Stmt) (end : Place) (tokens others : List Token) → Reads tokens (form.statement_part (map stmt_outline ss)
    end).spelling others
    → (form.statement_part (map stmt_outline ss) end).well ≡ true
    → Answers levels (form.statement_part (map stmt_outline ss) end).depth (read.statement_part levels) tokens (map stmt_outline ss, end) others
statements_read levels [] end tokens others h w = absurd cc
statements_read zero (s ∷ ss) end tokens others h w = stops (omega arith) (next_place tokens) tokens refl
statements_read (suc n) (s ∷ ss) end tokens others h w =
    let o = form.separated symbol.Semicolon (map stmt_outline (s ∷ ss)) in
    let c = compound_reads n (statement n) (statement_no_more n) (statement_read n) s ss tokens others (word_at word.End end) refl h (and_left o.well true w) in
    of_depth _ (omega arith) (deeper (made_so (map stmt_outline (s ∷ ss), end) (ap (λ p. (map stmt_outline (s ∷ ss), p)) c.1) c.2))

module _ (levels : ℕ) (inner : Below) (nests : BlockIn levels inner)
    (blocks : (b : Block) (at : Option Place) → ReadsAs Anything levels (inner at) (block_outline b) (1 + (block_outline b).depth) (block_outline
    b).spelling (block_outline b).well)
    (begins : (b : Block) (s : Spelling) (tokens others : List Token) → Reads tokens ((block_outline b).spelling ++ s) others → (block_outline b).well ≡ true
    → ¬ (next_kind tokens ≡ Some kind.Identifier)) where
  block_by : (cs : List ConstantDefinition) (ts : List TypeDefinition) (vs : List VariableGroup) (rs : List Routine) (ss : List Stmt) (end : Place)
      → ReadsForm Anything levels (read.block_of levels inner)
      (form.block (map definition_outline cs) (map type_outline ts) (map group_outline vs) (map routine_outline rs) (form.statement_part (map stmt_outline
      ss) end))
  unfolding read.block_of
  block_by cs ts vs rs ss end tokens others h w f =
      let c = form.part word.Const (map definition_outline cs) in
      let t = form.part word.Type (map type_outline ts) in
      let v = form.part word.Var (map group_outline vs) in
      let r = row (map routine_outline rs) in
      let s = form.statement_part (map stmt_outline ss) end in
      let a = parted c.spelling (t.spelling ++ (v.spelling ++ (r.spelling ++ s.spelling))) tokens others h in
      let b = parted t.spelling (v.spelling ++ (r.spelling ++ s.spelling)) a.0 others a.2 in
      let d = parted v.spelling (r.spelling ++ s.spelling) b.0 others b.2 in
      let e = parted r.spelling s.spelling d.0 others d.2 in
      let first = e.2 in
      let begin = next_first (kind.Word word.Begin) first.2 first.3.kind in
      let at_e : stage (next_kind e.0) ≡ 0 = ap stage begin in
      let at_d = routines_stage rs d.0 e.0 e.1 at_e in
      let at_b = part_stage word.Var (map group_outline vs) 2 b.0 d.0 d.1 (omega arith) (omega arith) in
      let at_a = part_stage word.Type (map type_outline ts) 3 a.0 b.0 b.1 (omega arith) (omega arith) in
      let wt = and_right c.well (t.well && (v.well && (r.well && s.well))) w in
      let wv = and_right t.well (v.well && (r.well && s.well)) wt in
      let wr = and_right v.well (r.well && s.well) wv in
      of_depth _ (omega arith)
      (answered _ (constants_read levels cs tokens a.0 a.1 (and_left c.well (t.well && (v.well && (r.well && s.well))) w)
      (no_kind (kind.Word word.Const) 3 (next_kind a.0) at_a (omega arith)) (no_name (next_kind a.0) (omega arith)))
      (answered _ (types_read levels ts a.0 b.0 b.1 (and_left t.well (v.well && (r.well && s.well)) wt)
      (no_kind (kind.Word word.Type) 2 (next_kind b.0) at_b (omega arith)) (no_name (next_kind b.0) (omega arith)))
      (answered _ (variables_read levels vs b.0 d.0 d.1 (and_left v.well (r.well && s.well) wv)
      (no_kind (kind.Word word.Var) 0 (next_kind d.0) (omega arith) (omega arith)) (no_name (next_kind d.0) (omega arith)))
      (answered _ (routines_read levels inner nests blocks begins rs d.0 e.0 e.1 (and_left r.well s.well wr) (ap begins_routine begin))
      (answered _ (statements_read levels ss end e.0 others e.2 (and_right r.well s.well wr)) done)))))

  block_in : (b : Block) → ReadsForm Anything levels (read.block_of levels inner) (block_outline b)
  block_in b =
      subst (λ o. ReadsForm Anything levels (read.block_of levels inner) o) (sym (block_is b))
      (block_by (out-Block b).constants.items (out-Block b).types.items (out-Block b).variables.items (out-Block b).routines.items (out-Block
      b).statements.items (out-Block b).end)

-- no block begins with an identifier
block_begins : (b : Block) (s : Spelling) (tokens others : List Token) → Reads tokens ((block_outline b).spelling ++ s) others → (block_outline b).well ≡ true
    → ¬ (next_kind tokens ≡ Some kind.Identifier)
block_begins b s tokens others h w =
    let o = out-Block b in
    let c = form.part word.Const (map definition_outline o.constants.items) in
    let t = form.part word.Type (map type_outline o.types.items) in
    let v = form.part word.Var (map group_outline o.variables.items) in
    let r = row (map routine_outline o.routines.items) in
    let z = form.statement_part (map stmt_outline o.statements.items) o.end in
    let g : Reads tokens ((c.spelling ++ (t.spelling ++ (v.spelling ++ (r.spelling ++ z.spelling)))) ++ s) others =
    subst (λ (o : Outline). Reads tokens (o.spelling ++ s) others) (block_is b) h in
    let q = parted (c.spelling ++ (t.spelling ++ (v.spelling ++ (r.spelling ++ z.spelling)))) s tokens others g in
    let a = parted c.spelling (t.spelling ++ (v.spelling ++ (r.spelling ++ z.spelling))) tokens q.0 q.1 in
    let b = parted t.spelling (v.spelling ++ (r.spelling ++ z.spelling)) a.0 q.0 a.2 in
    let d = parted v.spelling (r.spelling ++ z.spelling) b.0 q.0 b.2 in
    let e = parted r.spelling z.spelling d.0 q.0 d.2 in
    let first = e.2 in
    let at_e : stage (next_kind e.0) ≡ 0 = ap stage (next_first (kind.Word word.Begin) first.2 first.3.kind) in
    let at_d = routines_stage o.routines.items d.0 e.0 e.1 at_e in
    let at_b = part_stage word.Var (map group_outline o.variables.items) 2 b.0 d.0 d.1 (omega arith) (omega arith) in
    let at_a = part_stage word.Type (map type_outline o.types.items) 3 a.0 b.0 b.1 (omega arith) (omega arith) in
    let at = part_stage word.Const (map definition_outline o.constants.items) 4 tokens a.0 a.1 (omega arith) (omega arith) in
    no_kind kind.Identifier 4 (next_kind tokens) at (omega arith)

pub block_read : (levels : ℕ) (b : Block) → ReadsForm Anything levels (read.block levels) (block_outline b)
block_read zero b tokens others h w f =
    block_in zero too_deep (λ at t. deep_makes) (λ c at t u g v e. stops (omega arith) at t refl) block_begins b tokens others h w f
block_read (suc levels) b tokens others h w f =
    block_in (suc levels) (λ at. read.block levels) (block_nests levels) (λ c at t u g v e. deeper (block_read levels c t u g v e)) block_begins b tokens
    others h w f

-- ---- programs

parameters_read : (limit : ℕ) (ns : List Name) (tokens others : List Token) → Reads tokens (in_parentheses symbol.Comma (map name_outline ns)).spelling others
    → (in_parentheses symbol.Comma (map name_outline ns)).well ≡ true → ¬ (next_kind others ≡ Some (kind.Symbol symbol.OpenParenthesis))
    → Answers limit (in_parentheses symbol.Comma (map name_outline ns)).depth read.parameters tokens (map name_outline ns) others
unfolding read.parameters
parameters_read limit [] tokens others h w other =
    subst (λ t. Answers limit 0 read.parameters t [] others) (sym h)
    (says (taken (kind.Symbol symbol.OpenParenthesis)) _ (misses (kind.Symbol symbol.OpenParenthesis) others other) done)
parameters_read limit (n ∷ ns) tokens others h w other =
    let o = form.separated symbol.Comma (map name_outline (n ∷ ns)) in
    let q = parted o.spelling (of_kind (kind.Symbol symbol.CloseParenthesis) ∷ []) h.1 others h.4 in
    let c = q.2 in
    of_depth _ (omega arith)
    (says (taken (kind.Symbol symbol.OpenParenthesis)) _ (takes_of (kind.Symbol symbol.OpenParenthesis) h.2 h.3)
    (answered _ (names_read limit n ns h.1 q.0 q.1 (and_left o.well true w)
    (other_first (kind.Symbol symbol.CloseParenthesis) (kind.Symbol symbol.Comma) c.2 c.3.kind (λ e. absurd cc)))
    (says (expect (kind.Symbol symbol.CloseParenthesis)) _ (expects_of (kind.Symbol symbol.CloseParenthesis) c.2 c.3)
    (subst (λ t. Answers limit 0 (pure (map name_outline (n ∷ ns))) c.1 (map name_outline (n ∷ ns)) t) c.4 done))))

-- a well formed program's tokens
pub program_read : (levels : ℕ) (p : Program) (tokens : List Token) → Reads tokens (program_outline p).spelling [] → (program_outline p).well ≡ true
    → Answers levels (program_outline p).depth (read.program levels) tokens (program_outline p) []
unfolding read.program
program_read levels p tokens h w =
    let o = in_parentheses symbol.Comma (map name_outline p.parameters.items) in
    let b = block_outline p.block in
    let n = h.4 in
    let q = parted o.spelling (of_kind (kind.Symbol symbol.Semicolon) ∷ b.spelling ++ of_kind (kind.Symbol symbol.Period) ∷ []) n.1 [] n.4 in
    let s = q.2 in
    let x = parted b.spelling (of_kind (kind.Symbol symbol.Period) ∷ []) s.1 [] s.4 in
    let d = x.2 in
    of_depth _ (omega arith)
    (says (expect (kind.Word word.Program)) _ (expects_of (kind.Word word.Program) h.2 h.3)
    (says expect_name _ (expects_name p.name.text.now p.name.place n.2 n.3)
    (answered _ (parameters_read levels p.parameters.items n.1 q.0 q.1 (and_left o.well (b.well && true) w)
    (other_first (kind.Symbol symbol.Semicolon) (kind.Symbol symbol.OpenParenthesis) s.2 s.3.kind (λ e. absurd cc)))
    (says (expect (kind.Symbol symbol.Semicolon)) _ (expects_of (kind.Symbol symbol.Semicolon) s.2 s.3)
    (answered _ (block_read levels p.block s.1 x.0 x.1 (and_left b.well true (and_right o.well (b.well && true) w)) tt)
    (says (expect (kind.Symbol symbol.Period)) _ (expects_of (kind.Symbol symbol.Period) d.2 d.3)
    (says finish _ (ap finish d.4) done)))))))
