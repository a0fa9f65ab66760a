-- Members of a set that were read so far, by the designators and the values that a tree keeps of them.
use Rattle.std.proofs.Common.{◌≡◌, ◌+◌, ◌<◌, List, [], ◌∷◌, ◌++◌, length, Result, Some, None, Ok, Err, refl, sym, ap, subst, ◌∙◌, arith}
use Rattle.std.proofs.Common.{length-append}
use Rattle.memory.specs.Refused.{the_refusal}
use Rattle.place.specs.declared.Place.{Place}
use Rattle.lexer.specs.declared.token.Symbol.TheVariants as symbol
use Rattle.lexer.specs.declared.token.Token.{Token}
use Rattle.syntax_tree.specs.declared.Designator.{Designator}
use Rattle.syntax_tree.specs.declared.Designator.TheVariants.{Single, Range}
use Rattle.syntax_tree.specs.declared.Expr.{Expr}
use Rattle.reading.specs.declared.refusal.Refusal.{Refusal}
use Rattle.reading.specs.declared.refusal.Refusal.TheVariants.{Memory}
use Rattle.reading.specs.Outline as form
use Rattle.reading.specs.Outline.{Outline}
use Rattle.reading.specs.Reading.{Outcome, Reading, separated, symbol_taken}
use Rattle.reading.specs.Trees.{expr_outline, values_of}
use Rattle.reading.proofs.Uses.{NeverMore}
use Rattle.token_cursor.specs.declared.cursor.Cursor.{Cursor}
use Rattle.token_cursor.specs.Kept.{Puts}
use Rattle.token_cursor.proofs.Turns.{Parts, parts_begin, parts_go, parts_end, parts_stop, parts_fewer}
use Rattle.expression_parser.specs.Members.{members_look, MakesMember}

-- ---- rows

values_more : (ds : List Designator) (d : Designator) → values_of (ds ++ d ∷ []) ≡ values_of ds + values_of (d ∷ [])
values_more [] d = omega arith
values_more (Single ∷ ds) d = let e = values_more ds d in omega arith
values_more (Range ∷ ds) d = let e = values_more ds d in omega arith

-- a member behind others that have as many values as their designators want
look_more : (ds : List Designator) (es : List Expr) (d : Designator) (vs : List Expr) → values_of ds ≡ length es
    → members_look (ds ++ d ∷ []) (es ++ vs) ≡ members_look ds es ++ members_look (d ∷ []) vs
look_more [] [] d vs h = refl
look_more [] (b ∷ es) d vs h = absurd (omega arith)
look_more (Single ∷ ds) [] d vs h = absurd (omega arith)
look_more (Single ∷ ds) (b ∷ es) d vs h = ap (λ l. form.single (expr_outline b) ∷ l) (look_more ds es d vs (omega arith))
look_more (Range ∷ ds) [] d vs h = absurd (omega arith)
look_more (Range ∷ ds) (b ∷ []) d vs h = absurd (omega arith)
look_more (Range ∷ ds) (b ∷ c ∷ es) d vs h =
    ap (λ l. form.range (expr_outline b) (expr_outline c) ∷ l) (look_more ds es d vs (omega arith))

-- ---- one member

-- a member that was read, its values put behind others
pub record WasMember (outcome : Outcome Outline) (new : Cursor) (before after : List Expr) (ds ds' : List Designator) : Type 0 where
  pub designator : Designator
  pub put : ds' ≡ ds ++ designator ∷ []
  pub values : List Expr
  pub behind : after ≡ before ++ values
  pub enough : values_of (designator ∷ []) ≡ length values
  pub one : Outline
  pub looks : members_look (designator ∷ []) values ≡ one ∷ []
  pub read : outcome ≡ Ok (one, new.rest.now)

module _ (outcome : Outcome Outline) (new : Cursor) (before after : List Expr) (ds ds' : List Designator) where
  pub was_member : (found : Result Designator Refusal) → MakesMember outcome found new before after → Puts ds found (Ok tt) ds'
      → WasMember outcome new before after ds ds'
  was_member (Ok Single) (value, behind, read) p = record {
    designator = Single;
    put = p;
    values = value ∷ [];
    behind = behind;
    enough = refl;
    one = form.single (expr_outline value);
    looks = refl;
    read = read;
  }
  was_member (Ok Range) (first, last, behind, read) p = record {
    designator = Range;
    put = p;
    values = first ∷ last ∷ [];
    behind = behind;
    enough = refl;
    one = form.range (expr_outline first) (expr_outline last);
    looks = refl;
    read = read;
  }
  was_member (Err why) h p = absurd p

  pub no_member : (found : Result Designator Refusal) (why : Refusal) → MakesMember outcome found new before after → Puts ds found (Err why) ds'
      → (¬ (why ≡ Memory the_refusal)) → outcome ≡ Err (why, new.rest.now)
  no_member (Ok d) why h p m = let e : ◌≡◌ {A = Result Designator Refusal} (Ok d) (Err why) = p m in absurd cc
  no_member (Err other) why h p m =
      let e : ◌≡◌ {A = Result Designator Refusal} (Err other) (Err why) = p m in let is : other ≡ why = cc in
      h (λ o. m (sym is ∙ o)) ∙ ap (λ w. Err (w, new.rest.now)) is

-- ---- the loop of members

pub record MembersSoFar (whole : Outcome (List Outline)) (ds : List Designator) (es : List Expr) (rest : Outcome (List Outline)) : Type 0 where
  pub even : values_of ds ≡ length es
  pub parts : Parts whole (members_look ds es) rest

pub members_begin : (whole : Outcome (List Outline)) (ds : List Designator) (es : List Expr) → ds ≡ [] → es ≡ [] → MembersSoFar whole ds es whole
members_begin whole ds es none empty =
    subst (λ l. MembersSoFar whole l es whole) (sym none) (subst (λ l. MembersSoFar whole [] l whole) (sym empty)
    (record { even = refl; parts = parts_begin whole }))

pub members_stop : (part : Reading Outline) {whole : Outcome (List Outline)} {tokens : List Token} (es : List Expr) (ds : List Designator)
    → MembersSoFar whole ds es (separated symbol.Comma part tokens) → (why : Refusal × List Token) → part tokens ≡ Err why → whole ≡ Err why
members_stop part es ds so_far why e = parts_stop symbol.Comma part so_far.parts why e

module _ (part : Reading Outline) {whole : Outcome (List Outline)} {tokens : List Token} (new : Cursor) (es es' : List Expr) (ds ds' : List Designator)
    (so_far : MembersSoFar whole ds es (separated symbol.Comma part tokens)) (was : WasMember (part tokens) new es es' ds ds') where
  even_after : values_of ds' ≡ length es'
  even_after =
      let e = so_far.even in let f = was.enough in
      let g = ap values_of was.put ∙ values_more ds was.designator in
      let h = ap length was.behind in
      omega (arith, length-append es was.values)

  longer : members_look ds es ++ was.one ∷ [] ≡ members_look ds' es'
  longer =
      sym (ap (λ l. members_look l es') was.put ∙ ap (λ l. members_look (ds ++ was.designator ∷ []) l) was.behind
      ∙ look_more ds es was.designator was.values so_far.even ∙ ap (λ l. members_look ds es ++ l) was.looks)

  -- a comma comes
  pub members_go : NeverMore part → (place : Place) (next : List Token) → symbol_taken symbol.Comma new.rest.now ≡ Ok (Some place, next)
      → MembersSoFar whole ds' es' (separated symbol.Comma part next)
  members_go fewer place next e = record {
    even = even_after;
    parts =
        subst (λ l. Parts whole l (separated symbol.Comma part next)) longer
        (parts_go symbol.Comma part so_far.parts fewer was.one new.rest.now place next was.read e);
  }

  pub members_fewer : NeverMore part → (place : Place) (next : List Token) → symbol_taken symbol.Comma new.rest.now ≡ Ok (Some place, next)
      → length next < length tokens
  members_fewer fewer place next e = parts_fewer symbol.Comma part fewer tokens new.rest.now next was.one place was.read e

  -- none comes
  pub members_end : (others : List Token) → symbol_taken symbol.Comma new.rest.now ≡ Ok (None, others)
      → (values_of ds' ≡ length es') × (whole ≡ Ok (members_look ds' es', others))
  members_end others e = (
    even_after,
    parts_end symbol.Comma part so_far.parts was.one new.rest.now others was.read e ∙ ap (λ l. Ok (l, others)) longer,
  )
