-- The places that a tree keeps are those that its spelling keeps, in its order; and they are in order where those of its
-- tokens are.
use Rattle.std.proofs.Common.{◌≡◌, Bool, true, false, List, [], ◌∷◌, ◌++◌, map, Option, Some, None, IfSome, refl, sym, ap, subst, ◌∙◌}
use Rattle.std.proofs.Common.{append-nil}
use Rattle.std.specs.List.{flat_map}
use Rattle.std.specs.declared.alloc.Global.{Global}
use Rattle.std.specs.declared.vec.Vec.{Vec}
use Rattle.place.specs.declared.Place.{Place}
use Rattle.place.specs.Place.{ArePlacesInOrder}
use Rattle.place.proofs.Order.{without_first, without_second}
use Rattle.lexer.specs.declared.token.Symbol.{Symbol}
use Rattle.lexer.specs.declared.token.Symbol.TheVariants as symbol
use Rattle.lexer.specs.declared.token.Word.{Word}
use Rattle.lexer.specs.declared.token.Word.TheVariants as word
use Rattle.lexer.specs.declared.token.Token.{Token}
use Rattle.syntax_tree.specs.Places.{members_of}
use Rattle.syntax_tree.specs.Places.{Places, arms_of, fields_of, expr_places, actual_places, link_places, stmt_places, name_places, denoter_places}
use Rattle.syntax_tree.specs.Places.{group_places, block_places}
use Rattle.syntax_tree.specs.Places.{program_places}
use Rattle.syntax_tree.specs.Places as place
use Rattle.syntax_tree.specs.declared.Name.{Name}
use Rattle.syntax_tree.specs.declared.Sign.{Sign}
use Rattle.syntax_tree.specs.declared.Sign.TheVariants.{Plus, Minus}
use Rattle.syntax_tree.specs.declared.SignAt.{SignAt}
use Rattle.syntax_tree.specs.declared.Selector.{Selector}
use Rattle.syntax_tree.specs.declared.Selector.TheVariants.{Index, Field}
use Rattle.syntax_tree.specs.declared.Designator.{Designator}
use Rattle.syntax_tree.specs.declared.Designator.TheVariants.{Single, Range}
use Rattle.syntax_tree.specs.declared.Constant.{Constant}
use Rattle.syntax_tree.specs.declared.ConstantValue.{ConstantValue}
use Rattle.syntax_tree.specs.declared.ConstantValue.TheVariants as constant
use Rattle.syntax_tree.specs.declared.ConstantDefinition.{ConstantDefinition}
use Rattle.syntax_tree.specs.declared.Expr.{Expr}
use Rattle.syntax_tree.specs.declared.Link.{Link}
use Rattle.syntax_tree.specs.declared.Actual.{Actual}
use Rattle.syntax_tree.specs.declared.Expr.TheOpen as expr
use Rattle.syntax_tree.specs.declared.Expr.TheViews.{roll-Expr, roll-Link, roll-Actual}
use Rattle.syntax_tree.specs.declared.Expr.TheFolds.{map-Expr, map-Actual, map-Link, fold-roll-Expr, fold-roll-Link, fold-roll-Actual, ind-Expr, ind-Actual}
use Rattle.syntax_tree.specs.declared.RecordVariable.{RecordVariable}
use Rattle.syntax_tree.specs.declared.Stmt.{Stmt}
use Rattle.syntax_tree.specs.declared.Stmt.TheOpen as stmt
use Rattle.syntax_tree.specs.declared.Stmt.TheViews.{roll-Stmt}
use Rattle.syntax_tree.specs.declared.Stmt.TheFolds.{map-Stmt, fold-roll-Stmt, ind-Stmt}
use Rattle.syntax_tree.specs.declared.TypeDenoter.{TypeDenoter}
use Rattle.syntax_tree.specs.declared.TypeDenoter.TheOpen as denoter
use Rattle.syntax_tree.specs.declared.TypeDenoter.TheViews.{roll-TypeDenoter}
use Rattle.syntax_tree.specs.declared.TypeDenoter.TheFolds.{map-TypeDenoter, fold-roll-TypeDenoter, ind-TypeDenoter}
use Rattle.syntax_tree.specs.declared.TypeDefinition.{TypeDefinition}
use Rattle.syntax_tree.specs.declared.VariableGroup.{VariableGroup}
use Rattle.syntax_tree.specs.declared.Passing.{Passing}
use Rattle.syntax_tree.specs.declared.Passing.TheVariants.{Value, Variable}
use Rattle.syntax_tree.specs.declared.FormalGroup.{FormalGroup}
use Rattle.syntax_tree.specs.declared.Heading.{Heading}
use Rattle.syntax_tree.specs.declared.Heading.TheVariants.{Procedure, Function, Resumed}
use Rattle.syntax_tree.specs.declared.Block.{Block}
use Rattle.syntax_tree.specs.declared.Block.TheOpen.{Block-F, Routine-F}
use Rattle.syntax_tree.specs.declared.Block.TheViews.{roll-Block, roll-Routine}
use Rattle.syntax_tree.specs.declared.Block.TheFolds.{map-Block, map-Routine, fold-roll-Block, fold-roll-Routine, ind-Block}
use Rattle.syntax_tree.specs.declared.Routine.{Routine}
use Rattle.syntax_tree.specs.declared.Program.{Program}
use Rattle.reading.specs.Lexemes.{Spelling, Spells, direction_kind, identifier, of_kind, of_kind_at, relational_kind, sign_kind, symbol_at, word_at}
use Rattle.reading.specs.Outline.{Outline, ◌⧺◌, nothing, row, row_then, led, in_parentheses, has_items, only_if, ending, packing, passing}
use Rattle.reading.specs.Outline as form
use Rattle.reading.specs.Trees as tree
use Rattle.reading.specs.Trees.{name_outline, selector_rows, expr_outline, link_outline, actual_outline, sign_outline, value_lexeme, constant_outline}
use Rattle.reading.specs.Trees.{arm_outline, stmt_outline, member_outline, record_outline}
use Rattle.reading.specs.Trees.{definition_outline, fields_outline, denoter_outline, type_outline, group_outline, is_variable, formal_outline}
use Rattle.reading.specs.Trees.{heading_outline, takes_directive}
use Rattle.reading.specs.Trees.{body_outline, block_outline, routine_outline, program_outline, program_spelling}
use Rattle.reading.proofs.Outlines.{expr_is, stmt_is, denoter_is}

-- a place that is kept, before others
abbrev pub kept : Option Place → Places → Places
kept None others = others
kept (Some p) others = p ∷ others

-- the places that a spelling keeps
abbrev pub kept_places : Spelling → Places
kept_places [] = []
kept_places (l ∷ ls) = kept l.place (kept_places ls)

-- those of an outline
abbrev pub places_in : Outline → Places
places_in o = kept_places o.spelling

kept_before : (o : Option Place) (a b : Places) → kept o (a ++ b) ≡ kept o a ++ b
kept_before None a b = refl
kept_before (Some p) a b = refl

kept_both : (s t : Spelling) → kept_places (s ++ t) ≡ kept_places s ++ kept_places t
kept_both [] t = refl
kept_both (l ∷ s) t = ap (kept l.place) (kept_both s t) ∙ kept_before l.place (kept_places s) (kept_places t)

-- two parts, and the places of each
both : (x y : Outline) {a b : Places} → a ≡ places_in x → b ≡ places_in y → a ++ b ≡ places_in (x ⧺ y)
both x y f g = (λ i. f i ++ g i) ∙ sym (kept_both x.spelling y.spelling)

-- a part, and others that keep no places
alone : (x y : Outline) {a : Places} → a ≡ places_in x → places_in y ≡ [] → a ≡ places_in (x ⧺ y)
alone x y {a} f none = sym (append-nil a) ∙ both x y f (sym none)

-- the places of each of a list are those of its outline
abbrev AllKept : (A : Type 0) → (A → Outline) → (A → Places) → List A → Type 0
AllKept A f places [] = Unit {0}
AllKept A f places (x ∷ xs) = (places x ≡ places_in (f x)) × AllKept A f places xs

each_kept : (A : Type 0) (f : A → Outline) (places : A → Places) (xs : List A) → ((x : A) → places x ≡ places_in (f x)) → AllKept A f places xs
each_kept A f places [] h = tt
each_kept A f places (x ∷ xs) h = (h x, each_kept A f places xs h)

all_kept : (A : Type 0) (f : A → Outline) (places : A → Places) (xs : List ((x : A) × (places x ≡ places_in (f x)))) → AllKept A f places (map (λ x. x.0) xs)
all_kept A f places [] = tt
all_kept A f places (x ∷ xs) = (x.1, all_kept A f places xs)

row_kept : (A : Type 0) (f : A → Outline) (places : A → Places) (xs : List A) → AllKept A f places xs → flat_map places xs ≡ places_in (row (map f xs))
row_kept A f places [] h = refl
row_kept A f places (x ∷ xs) h = both (f x) (row (map f xs)) h.0 (row_kept A f places xs h.1)

led_kept : (A : Type 0) (s : Symbol) (f : A → Outline) (places : A → Places) (xs : List A) → AllKept A f places xs → flat_map places xs ≡ places_in (led s
    (map f xs))
led_kept A s f places [] h = refl
led_kept A s f places (x ∷ xs) h = both (f x) (led s (map f xs)) h.0 (led_kept A s f places xs h.1)

separated_kept : (A : Type 0) (s : Symbol) (f : A → Outline) (places : A → Places) (xs : List A) → AllKept A f places xs
    → flat_map places xs ≡ places_in (form.separated s (map f xs))
separated_kept A s f places [] h = refl
separated_kept A s f places (x ∷ xs) h = both (f x) (led s (map f xs)) h.0 (led_kept A s f places xs h.1)

parenthesized_kept : (A : Type 0) (s : Symbol) (f : A → Outline) (places : A → Places) (xs : List A) → AllKept A f places xs
    → flat_map places xs ≡ places_in (in_parentheses s (map f xs))
parenthesized_kept A s f places [] h = refl
parenthesized_kept A s f places (x ∷ xs) h =
    alone (form.separated s (map f (x ∷ xs))) (form.mark symbol.CloseParenthesis) (separated_kept A s f places (x ∷ xs) h) refl

perhaps_kept : (A : Type 0) (s : Symbol) (f : A → Outline) (places : A → Places) (xs : List A) → AllKept A f places xs
    → flat_map places xs ≡ places_in (form.perhaps s (map f xs))
perhaps_kept A s f places [] h = refl
perhaps_kept A s f places (x ∷ xs) h = separated_kept A s f places (x ∷ xs) h

part_kept : (A : Type 0) (w : Word) (f : A → Outline) (places : A → Places) (xs : List A) → AllKept A f places xs
    → flat_map places xs ≡ places_in (form.part w (map f xs))
part_kept A w f places [] h = refl
part_kept A w f places (x ∷ xs) h = row_kept A f places (x ∷ xs) h

-- ---- selectors

abbrev selected : Bool → List Selector → List Outline → Outline
selected within ss is = row_then (selector_rows within ss is).0 (selector_rows within ss is).1

closing_kept : (b : Bool) → places_in (form.closing b) ≡ []
closing_kept false = refl
closing_kept true = refl

left_over : (A : Type 0) (b : Bool) (f : A → Outline) (places : A → Places) (xs : List A) → AllKept A f places xs
    → flat_map places xs ≡ places_in (row_then (map f xs) (form.closing b))
left_over A b f places [] h = sym (closing_kept b)
left_over A b f places (x ∷ xs) h = both (f x) (row_then (map f xs) (form.closing b)) h.0 (left_over A b f places xs h.1)

joined_rows : (A : Type 0) (places : A → Places) (xs : List A) → place.joined_places (map places xs) ≡ flat_map places xs
joined_rows A places [] = refl
joined_rows A places (x ∷ xs) = ap (λ ps. places x ++ ps) (joined_rows A places xs)

selectors_kept : (A : Type 0) (f : A → Outline) (places : A → Places) (b : Bool) (ss : List Selector) (xs : List A) → AllKept A f places xs
    → place.selector_places ss (map places xs) ≡ places_in (selected b ss (map f xs))
selectors_kept A f places b [] [] h = sym (closing_kept b)
selectors_kept A f places b [] (x ∷ xs) h = joined_rows A places (x ∷ xs) ∙ left_over A b f places (x ∷ xs) h
selectors_kept A f places false (Field n ∷ ss) xs h = ap (λ ps. n.place ∷ ps) (selectors_kept A f places false ss xs h)
selectors_kept A f places true (Field n ∷ ss) xs h = ap (λ ps. n.place ∷ ps) (selectors_kept A f places false ss xs h)
selectors_kept A f places b (Index p j ∷ ss) [] h = ap (λ ps. p ∷ ps) (selectors_kept A f places true ss [] h)
selectors_kept A f places b (Index p true ∷ ss) (x ∷ xs) h = ap (λ ps. p ∷ ps) (both (f x) (selected true ss (map f xs)) h.0 (selectors_kept A f places true
    ss xs h.1))
selectors_kept A f places false (Index p false ∷ ss) (x ∷ xs) h = ap (λ ps. p ∷ ps) (both (f x) (selected true ss (map f xs)) h.0 (selectors_kept A f places
    true ss xs h.1))
selectors_kept A f places true (Index p false ∷ ss) (x ∷ xs) h = ap (λ ps. p ∷ ps) (both (f x) (selected true ss (map f xs)) h.0 (selectors_kept A f places
    true ss xs h.1))

-- ---- expressions

abbrev ExprKept : Expr → Type 0
ExprKept e = expr_places e ≡ places_in (expr_outline e)

abbrev ActualKept : Actual → Type 0
ActualKept a = actual_places a ≡ places_in (actual_outline a)

abbrev LinkKept : Link → Type 0
LinkKept l = link_places l ≡ places_in (link_outline l)

abbrev KeptExpr : Type 0
KeptExpr = (e : Expr) × ExprKept e

abbrev KeptActual : Type 0
KeptActual = (a : Actual) × ActualKept a

abbrev KeptLink : Type 0
KeptLink = (l : Link) × LinkKept l

-- one layer of each, its parts without what is known of them
abbrev expr_parts : expr.Expr-F KeptExpr KeptActual KeptLink → expr.Expr-F Expr Actual Link
expr_parts = map-Expr KeptExpr KeptActual KeptLink Expr Actual Link (λ e. e.0) (λ a. a.0) (λ l. l.0)

abbrev actual_parts : expr.Actual-F KeptExpr KeptActual KeptLink → expr.Actual-F Expr Actual Link
actual_parts = map-Actual KeptExpr KeptActual KeptLink Expr Actual Link (λ e. e.0) (λ a. a.0) (λ l. l.0)

abbrev link_parts : expr.Link-F KeptExpr KeptActual KeptLink → expr.Link-F Expr Actual Link
link_parts = map-Link KeptExpr KeptActual KeptLink Expr Actual Link (λ e. e.0) (λ a. a.0) (λ l. l.0)

chain_kept : (f : Outline) {a : Places} (links : List Link) → a ≡ places_in f → AllKept Link link_outline link_places links
    → a ++ flat_map link_places links ≡ places_in (form.chain f (map link_outline links))
chain_kept f {a} [] e h = append-nil a ∙ e
chain_kept f (l ∷ ls) e h = both f (row (map link_outline (l ∷ ls))) e (row_kept Link link_outline link_places (l ∷ ls) h)

signed_kept : (s : Sign) (p : Place) (o : Outline) {a : Places} → a ≡ places_in o → p ∷ a ≡ places_in (form.signed s p o)
signed_kept Plus p o e = ap (λ ps. p ∷ ps) e
signed_kept Minus p o e = ap (λ ps. p ∷ ps) e

-- a member of a set: its value, or its first and its last
abbrev KeptMember : Type 0
KeptMember = KeptExpr × Option KeptExpr

abbrev member_look : KeptMember → Outline
member_look (a, None) = form.single (expr_outline a.0)
member_look (a, Some b) = form.range (expr_outline a.0) (expr_outline b.0)

abbrev places_of_member : KeptMember → Places
places_of_member (a, None) = expr_places a.0 ++ []
places_of_member (a, Some b) = expr_places a.0 ++ expr_places b.0

member_kept : (m : KeptMember) → places_of_member m ≡ places_in (member_look m)
member_kept (a, None) = append-nil (expr_places a.0) ∙ a.1
member_kept (a, Some b) = both (expr_outline a.0) (form.mark symbol.Range ⧺ expr_outline b.0) a.1 b.1

members_outlined : (ds : List Designator) (v : List KeptExpr)
    → map member_outline (members_of ds (map expr_outline (map (λ e. e.0) v))) ≡ map member_look (members_of ds v)
members_outlined [] v = refl
members_outlined (Single ∷ ds) [] = refl
members_outlined (Single ∷ ds) (a ∷ v) = ap (λ x. form.single (expr_outline a.0) ∷ x) (members_outlined ds v)
members_outlined (Range ∷ ds) [] = refl
members_outlined (Range ∷ ds) (a ∷ []) = refl
members_outlined (Range ∷ ds) (a ∷ b ∷ v) = ap (λ x. form.range (expr_outline a.0) (expr_outline b.0) ∷ x) (members_outlined ds v)

members_placed : (ds : List Designator) (v : List KeptExpr)
    → flat_map place.member_places (members_of ds (map expr_places (map (λ e. e.0) v))) ≡ flat_map places_of_member (members_of ds v)
members_placed [] v = refl
members_placed (Single ∷ ds) [] = refl
members_placed (Single ∷ ds) (a ∷ v) = ap (λ x. (expr_places a.0 ++ []) ++ x) (members_placed ds v)
members_placed (Range ∷ ds) [] = refl
members_placed (Range ∷ ds) (a ∷ []) = refl
members_placed (Range ∷ ds) (a ∷ b ∷ v) = ap (λ x. (expr_places a.0 ++ expr_places b.0) ++ x) (members_placed ds v)

members_kept : (ds : List Designator) (v : List KeptExpr)
    → flat_map place.member_places (members_of ds (map expr_places (map (λ e. e.0) v)))
    ≡ places_in (form.perhaps symbol.Comma (map member_outline (members_of ds (map expr_outline (map (λ e. e.0) v)))))
members_kept ds v =
    members_placed ds v
    ∙ perhaps_kept KeptMember symbol.Comma member_look places_of_member (members_of ds v)
    (each_kept KeptMember member_look places_of_member (members_of ds v) member_kept)
    ∙ ap (λ x. places_in (form.perhaps symbol.Comma x)) (sym (members_outlined ds v))

expr_layer : (y : expr.Expr-F KeptExpr KeptActual KeptLink)
    → place.expression_step (map-Expr Expr Actual Link Places Places Places expr_places actual_places link_places (expr_parts y))
    ≡ places_in (tree.expr_step (map-Expr Expr Actual Link Outline Outline Outline expr_outline actual_outline link_outline (expr_parts y)))
expr_layer (expr.Number v p) = refl
expr_layer (expr.Name n) = refl
expr_layer (expr.Component n ss v) =
    ap (λ ps. n.place ∷ ps)
    (selectors_kept Expr expr_outline expr_places false ss.items (map (λ e. e.0) v.items) (all_kept Expr expr_outline expr_places v.items))
expr_layer (expr.String t p) = refl
expr_layer (expr.Call n v) =
    let actuals = map (λ (a : KeptActual). a.0) v.items in
    ap (λ ps. n.place ∷ ps)
    (joined_rows Actual actual_places actuals
    ∙ parenthesized_kept Actual symbol.Comma actual_outline actual_places actuals (all_kept Actual actual_outline actual_places v.items))
expr_layer (expr.Parenthesized p b) = ap (λ ps. p ∷ ps) (alone (expr_outline b.value.0) (form.mark symbol.CloseParenthesis) b.value.1 refl)
expr_layer (expr.Set p ds v) =
    ap (λ ps. p ∷ ps)
    (alone (form.perhaps symbol.Comma (map member_outline (members_of ds.items (map expr_outline (map (λ (e : KeptExpr). e.0) v.items)))))
    (form.mark symbol.CloseBracket) (members_kept ds.items v.items) refl)
expr_layer (expr.Not p b) = ap (λ ps. p ∷ ps) b.value.1
expr_layer (expr.Signed s p b) = signed_kept s p (expr_outline b.value.0) b.value.1
expr_layer (expr.Chain b v) =
    let links = map (λ (l : KeptLink). l.0) v.items in
    ap (λ ps. expr_places b.value.0 ++ ps) (joined_rows Link link_places links)
    ∙ chain_kept (expr_outline b.value.0) links b.value.1 (all_kept Link link_outline link_places v.items)
expr_layer (expr.Relation b o p c) =
    both (expr_outline b.value.0) (form.kept (of_kind_at (relational_kind o) p) ⧺ expr_outline c.value.0) b.value.1 (ap (λ ps. p ∷ ps) c.value.1)

expr_rolled : (y : expr.Expr-F KeptExpr KeptActual KeptLink) → ExprKept (roll-Expr (expr_parts y))
expr_rolled y =
    fold-roll-Expr Places Places Places place.expression_step place.actual_step place.link_step (expr_parts y) ∙ expr_layer y
    ∙ sym (ap places_in (expr_is (expr_parts y)))

with_width : (v : KeptExpr) (w : Option KeptExpr)
    → place.actual_step (map-Actual Expr Actual Link Places Places Places expr_places actual_places link_places (actual_parts (record {
      value = v;
      width = w;
    })))
    ≡ places_in (tree.actual_step (map-Actual Expr Actual Link Outline Outline Outline expr_outline actual_outline link_outline
    (actual_parts (record { value = v; width = w }))))
with_width v None = append-nil (expr_places v.0) ∙ v.1
with_width v (Some w) = both (expr_outline v.0) (form.mark symbol.Colon ⧺ expr_outline w.0) v.1 w.1

actual_rolled : (y : expr.Actual-F KeptExpr KeptActual KeptLink) → ActualKept (roll-Actual (actual_parts y))
actual_rolled y =
    fold-roll-Actual Places Places Places place.expression_step place.actual_step place.link_step (actual_parts y) ∙ with_width y.value y.width
    ∙ sym (ap places_in (fold-roll-Actual Outline Outline Outline tree.expr_step tree.actual_step tree.link_step (actual_parts y)))

link_rolled : (y : expr.Link-F KeptExpr KeptActual KeptLink) → LinkKept (roll-Link (link_parts y))
link_rolled y =
    fold-roll-Link Places Places Places place.expression_step place.actual_step place.link_step (link_parts y)
    ∙ ap (λ ps. y.place ∷ ps) y.operand.1
    ∙ sym (ap places_in (fold-roll-Link Outline Outline Outline tree.expr_step tree.actual_step tree.link_step (link_parts y)))

expr_kept : (e : Expr) → ExprKept e
expr_kept = ind-Expr ExprKept ActualKept LinkKept
    (λ x y is. subst (λ z. ExprKept (roll-Expr z)) is (expr_rolled y))
    (λ x y is. subst (λ z. ActualKept (roll-Actual z)) is (actual_rolled y))
    (λ x y is. subst (λ z. LinkKept (roll-Link z)) is (link_rolled y))

actual_kept : (a : Actual) → ActualKept a
actual_kept = ind-Actual ExprKept ActualKept LinkKept
    (λ x y is. subst (λ z. ExprKept (roll-Expr z)) is (expr_rolled y))
    (λ x y is. subst (λ z. ActualKept (roll-Actual z)) is (actual_rolled y))
    (λ x y is. subst (λ z. LinkKept (roll-Link z)) is (link_rolled y))

-- ---- constants and statements

sign_kept : (o : Option SignAt) → place.sign_places o ≡ places_in (sign_outline o)
sign_kept None = refl
sign_kept (Some s) = by s.sign
  where
    by : (g : Sign) → s.place ∷ [] ≡ places_in (form.kept (of_kind_at (sign_kind g) s.place))
    by Plus = refl
    by Minus = refl

value_kept : (v : ConstantValue) → place.value_place v ∷ [] ≡ places_in (form.kept (value_lexeme v))
value_kept (constant.Number n p) = refl
value_kept (constant.Name n) = refl
value_kept (constant.String t p) = refl

constant_kept : (c : Constant) → place.constant_places c ≡ places_in (constant_outline c)
constant_kept c = both (sign_outline c.sign) (form.kept (value_lexeme c.value)) (sign_kept c.sign) (value_kept c.value)

abbrev StmtKept : Stmt → Type 0
StmtKept s = stmt_places s ≡ places_in (stmt_outline s)

abbrev KeptStmt : Type 0
KeptStmt = (s : Stmt) × StmtKept s

abbrev stmt_parts : stmt.Stmt-F KeptStmt → stmt.Stmt-F Stmt
stmt_parts = map-Stmt KeptStmt Stmt (λ s. s.0)

arm_kept : (cs : List Constant) (s : KeptStmt) → place.arm_places (cs, stmt_places s.0) ≡ places_in (arm_outline (cs, stmt_outline s.0))
arm_kept cs s =
    both (form.separated symbol.Comma (map constant_outline cs)) (form.mark symbol.Colon ⧺ stmt_outline s.0)
    (separated_kept Constant symbol.Comma constant_outline place.constant_places cs (each_kept Constant constant_outline place.constant_places cs
    constant_kept)) s.1

abbrev KeptArm : Type 0
KeptArm = List Constant × KeptStmt

arms_all_kept : (rows : List (Vec Constant Global)) (v : List KeptStmt)
    → AllKept KeptArm (λ a. arm_outline (a.0, stmt_outline a.1.0)) (λ a. place.arm_places (a.0, stmt_places a.1.0)) (arms_of rows v)
arms_all_kept [] v = tt
arms_all_kept (r ∷ rows) [] = tt
arms_all_kept (r ∷ rows) (s ∷ v) = (arm_kept r.items s, arms_all_kept rows v)

arms_outlined : (rows : List (Vec Constant Global)) (v : List KeptStmt)
    → map arm_outline (arms_of rows (map stmt_outline (map (λ s. s.0) v))) ≡ map (λ (a : KeptArm). arm_outline (a.0, stmt_outline a.1.0)) (arms_of rows v)
arms_outlined [] v = refl
arms_outlined (r ∷ rows) [] = refl
arms_outlined (r ∷ rows) (s ∷ v) = ap (λ x. arm_outline (r.items, stmt_outline s.0) ∷ x) (arms_outlined rows v)

arms_placed : (rows : List (Vec Constant Global)) (v : List KeptStmt)
    → flat_map place.arm_places (arms_of rows (map stmt_places (map (λ s. s.0) v))) ≡ flat_map (λ (a : KeptArm). place.arm_places (a.0, stmt_places a.1.0))
    (arms_of rows v)
arms_placed [] v = refl
arms_placed (r ∷ rows) [] = refl
arms_placed (r ∷ rows) (s ∷ v) = ap (λ x. place.arm_places (r.items, stmt_places s.0) ++ x) (arms_placed rows v)

arms_kept : (rows : List (Vec Constant Global)) (v : List KeptStmt)
    → flat_map place.arm_places (arms_of rows (map stmt_places (map (λ s. s.0) v)))
    ≡ places_in (form.separated symbol.Semicolon (map arm_outline (arms_of rows (map stmt_outline (map (λ s. s.0) v)))))
arms_kept rows v =
    arms_placed rows v
    ∙ separated_kept KeptArm symbol.Semicolon (λ a. arm_outline (a.0, stmt_outline a.1.0)) (λ a. place.arm_places (a.0, stmt_places a.1.0)) (arms_of rows v)
    (arms_all_kept rows v)
    ∙ ap (λ x. places_in (form.separated symbol.Semicolon x)) (sym (arms_outlined rows v))

end_kept : (b : Bool) → places_in (ending b) ≡ []
end_kept false = refl
end_kept true = refl

record_kept : (r : RecordVariable) → place.record_places r ≡ places_in (record_outline r)
record_kept r =
    ap (λ ps. r.name.place ∷ ps)
    (selectors_kept Expr expr_outline expr_places false r.selectors.items r.indexes.items (each_kept Expr expr_outline expr_places r.indexes.items expr_kept))

stmt_layer : (y : stmt.Stmt-F KeptStmt)
    → place.statement_step (map-Stmt Stmt Places stmt_places (stmt_parts y)) ≡ places_in (tree.stmt_step (map-Stmt Stmt Outline stmt_outline (stmt_parts y)))
stmt_layer stmt.Empty = refl
stmt_layer (stmt.Assign n ss v p e) =
    ap (λ ps. n.place ∷ ps)
    (both (selected false ss.items (map expr_outline v.items)) (form.kept (symbol_at symbol.Becomes p) ⧺ expr_outline e)
    (selectors_kept Expr expr_outline expr_places false ss.items v.items (each_kept Expr expr_outline expr_places v.items expr_kept))
    (ap (λ ps. p ∷ ps) (expr_kept e)))
stmt_layer (stmt.Call n v) =
    ap (λ ps. n.place ∷ ps)
    (parenthesized_kept Actual symbol.Comma actual_outline actual_places v.items (each_kept Actual actual_outline actual_places v.items actual_kept))
stmt_layer (stmt.Compound v) =
    let parts = map (λ (s : KeptStmt). s.0) v.items in
    joined_rows Stmt stmt_places parts
    ∙ alone (form.separated symbol.Semicolon (map stmt_outline parts)) (form.word_symbol word.End)
    (separated_kept Stmt symbol.Semicolon stmt_outline stmt_places parts (all_kept Stmt stmt_outline stmt_places v.items)) refl
stmt_layer (stmt.If p e b None) =
    ap (λ ps. p ∷ ps) (both (expr_outline e) (form.word_symbol word.Then ⧺ stmt_outline b.value.0) (expr_kept e) (append-nil (stmt_places b.value.0) ∙
    b.value.1))
stmt_layer (stmt.If p e b (Some c)) =
    ap (λ ps. p ∷ ps)
    (both (expr_outline e) (form.word_symbol word.Then ⧺ stmt_outline b.value.0 ⧺ form.word_symbol word.Else ⧺ stmt_outline c.value.0) (expr_kept e)
    (both (stmt_outline b.value.0) (form.word_symbol word.Else ⧺ stmt_outline c.value.0) b.value.1 c.value.1))
stmt_layer (stmt.While p e b) = ap (λ ps. p ∷ ps) (both (expr_outline e) (form.word_symbol word.Do ⧺ stmt_outline b.value.0) (expr_kept e) b.value.1)
stmt_layer (stmt.Repeat p v e) =
    let parts = map (λ (s : KeptStmt). s.0) v.items in
    ap (λ ps. p ∷ ps)
    (both (form.separated symbol.Semicolon (map stmt_outline parts)) (form.word_symbol word.Until ⧺ expr_outline e)
    (joined_rows Stmt stmt_places parts ∙ separated_kept Stmt symbol.Semicolon stmt_outline stmt_places parts (all_kept Stmt stmt_outline stmt_places
    v.items)) (expr_kept e))
stmt_layer (stmt.For p n e d f b) =
    ap (λ ps. p ∷ n.place ∷ ps)
    (both (expr_outline e) (form.kept (of_kind (direction_kind d)) ⧺ expr_outline f ⧺ form.word_symbol word.Do ⧺ stmt_outline b.value.0)
    (expr_kept e) (both (expr_outline f) (form.word_symbol word.Do ⧺ stmt_outline b.value.0) (expr_kept f) b.value.1))
stmt_layer (stmt.Case p e rows v b) =
    let arms = form.separated symbol.Semicolon (map arm_outline (arms_of rows.items (map stmt_outline (map (λ (s : KeptStmt). s.0) v.items)))) in
    ap (λ ps. p ∷ ps)
    (both (expr_outline e) (form.word_symbol word.Of ⧺ arms ⧺ ending b) (expr_kept e) (alone arms (ending b) (arms_kept rows.items v.items) (end_kept b)))
stmt_layer (stmt.With p rs b) =
    ap (λ ps. p ∷ ps)
    (both (form.separated symbol.Comma (map record_outline rs.items)) (form.word_symbol word.Do ⧺ stmt_outline b.value.0)
    (separated_kept RecordVariable symbol.Comma record_outline place.record_places rs.items
    (each_kept RecordVariable record_outline place.record_places rs.items record_kept)) b.value.1)

stmt_rolled : (y : stmt.Stmt-F KeptStmt) → StmtKept (roll-Stmt (stmt_parts y))
stmt_rolled y = fold-roll-Stmt Places place.statement_step (stmt_parts y) ∙ stmt_layer y ∙ sym (ap places_in (stmt_is (stmt_parts y)))

stmt_kept : (s : Stmt) → StmtKept s
stmt_kept = ind-Stmt StmtKept (λ x y is. subst (λ z. StmtKept (roll-Stmt z)) is (stmt_rolled y))

-- ---- definitions and types

abbrev one_place : Name → Places
one_place name = name.place ∷ []

names_in_turn : (names : List Name) → name_places names ≡ flat_map one_place names
names_in_turn [] = refl
names_in_turn (n ∷ ns) = ap (λ ps. n.place ∷ ps) (names_in_turn ns)

names_kept : (names : List Name) → name_places names ≡ places_in (form.separated symbol.Comma (map name_outline names))
names_kept names =
    names_in_turn names ∙ separated_kept Name symbol.Comma name_outline one_place names (each_kept Name name_outline one_place names (λ _. refl))

definition_kept : (d : ConstantDefinition) → place.definition_places d ≡ places_in (definition_outline d)
definition_kept d = ap (λ ps. d.name.place ∷ ps) (alone (constant_outline d.value) (form.mark symbol.Semicolon) (constant_kept d.value) refl)

abbrev DenoterKept : TypeDenoter → Type 0
DenoterKept d = denoter_places d ≡ places_in (denoter_outline d)

abbrev KeptDenoter : Type 0
KeptDenoter = (d : TypeDenoter) × DenoterKept d

abbrev denoter_parts : denoter.TypeDenoter-F KeptDenoter → denoter.TypeDenoter-F TypeDenoter
denoter_parts = map-TypeDenoter KeptDenoter TypeDenoter (λ d. d.0)

field_kept : (ns : List Name) (d : KeptDenoter) → place.field_places (ns, denoter_places d.0) ≡ places_in (fields_outline (ns, denoter_outline d.0))
field_kept ns d = both (form.separated symbol.Comma (map name_outline ns)) (form.mark symbol.Colon ⧺ denoter_outline d.0) (names_kept ns) d.1

abbrev KeptField : Type 0
KeptField = List Name × KeptDenoter

fields_all_kept : (rows : List (Vec Name Global)) (v : List KeptDenoter)
    → AllKept KeptField (λ f. fields_outline (f.0, denoter_outline f.1.0)) (λ f. place.field_places (f.0, denoter_places f.1.0)) (fields_of rows v)
fields_all_kept [] v = tt
fields_all_kept (r ∷ rows) [] = tt
fields_all_kept (r ∷ rows) (d ∷ v) = (field_kept r.items d, fields_all_kept rows v)

fields_outlined : (rows : List (Vec Name Global)) (v : List KeptDenoter)
    → map fields_outline (fields_of rows (map denoter_outline (map (λ d. d.0) v))) ≡ map (λ (f : KeptField). fields_outline (f.0, denoter_outline f.1.0))
    (fields_of rows v)
fields_outlined [] v = refl
fields_outlined (r ∷ rows) [] = refl
fields_outlined (r ∷ rows) (d ∷ v) = ap (λ x. fields_outline (r.items, denoter_outline d.0) ∷ x) (fields_outlined rows v)

fields_placed : (rows : List (Vec Name Global)) (v : List KeptDenoter)
    → flat_map place.field_places (fields_of rows (map denoter_places (map (λ d. d.0) v)))
    ≡ flat_map (λ (f : KeptField). place.field_places (f.0, denoter_places f.1.0)) (fields_of rows v)
fields_placed [] v = refl
fields_placed (r ∷ rows) [] = refl
fields_placed (r ∷ rows) (d ∷ v) = ap (λ x. place.field_places (r.items, denoter_places d.0) ++ x) (fields_placed rows v)

list_kept : (xs : List Outline) (b : Bool) {a : Places} → a ≡ places_in (form.separated symbol.Semicolon xs) → a ≡ places_in (form.field_list xs b)
list_kept [] b e = e ∙ sym (end_kept b)
list_kept (x ∷ xs) b e = alone (form.separated symbol.Semicolon (x ∷ xs)) (ending b) e (end_kept b)

packed_kept : (p : Bool) (x : Outline) {a : Places} → a ≡ places_in x → a ≡ places_in (packing p ⧺ x)
packed_kept false x e = e
packed_kept true x e = e

denoter_layer : (y : denoter.TypeDenoter-F KeptDenoter)
    → place.denoter_step (map-TypeDenoter TypeDenoter Places denoter_places (denoter_parts y))
    ≡ places_in (tree.denoter_step (map-TypeDenoter TypeDenoter Outline denoter_outline (denoter_parts y)))
denoter_layer (denoter.Name n) = refl
denoter_layer (denoter.Enumerated ns) = alone (form.separated symbol.Comma (map name_outline ns.items)) (form.mark symbol.CloseParenthesis) (names_kept
    ns.items) refl
denoter_layer (denoter.Subrange first p last) =
    both (constant_outline first) (form.kept (symbol_at symbol.Range p) ⧺ constant_outline last) (constant_kept first)
    (ap (λ ps. p ∷ ps) (constant_kept last))
denoter_layer (denoter.Array b p v e) =
    let parts = map (λ (d : KeptDenoter). d.0) v.items in
    let indexes = form.separated symbol.Comma (map denoter_outline parts) in
    packed_kept b (form.kept (word_at word.Array p) ⧺ form.mark symbol.OpenBracket ⧺ indexes ⧺ form.mark symbol.CloseBracket
    ⧺ form.word_symbol word.Of ⧺ denoter_outline e.value.0)
    (ap (λ ps. p ∷ ps) (both indexes (form.mark symbol.CloseBracket ⧺ form.word_symbol word.Of ⧺ denoter_outline e.value.0)
    (joined_rows TypeDenoter denoter_places parts
    ∙ separated_kept TypeDenoter symbol.Comma denoter_outline denoter_places parts (all_kept TypeDenoter denoter_outline denoter_places v.items)) e.value.1))
denoter_layer (denoter.Record b p rows v last) =
    let xs = map fields_outline (fields_of rows.items (map denoter_outline (map (λ (d : KeptDenoter). d.0) v.items))) in
    packed_kept b (form.kept (word_at word.Record p) ⧺ form.field_list xs last)
    (ap (λ ps. p ∷ ps) (list_kept xs last (fields_placed rows.items v.items
    ∙ separated_kept KeptField symbol.Semicolon (λ f. fields_outline (f.0, denoter_outline f.1.0)) (λ f. place.field_places (f.0, denoter_places f.1.0))
    (fields_of rows.items v.items)
    (fields_all_kept rows.items v.items)
    ∙ ap (λ x. places_in (form.separated symbol.Semicolon x)) (sym (fields_outlined rows.items v.items)))))
denoter_layer (denoter.Set b p e) =
    packed_kept b (form.kept (word_at word.Set p) ⧺ form.word_symbol word.Of ⧺ denoter_outline e.value.0) (ap (λ ps. p ∷ ps) e.value.1)

denoter_rolled : (y : denoter.TypeDenoter-F KeptDenoter) → DenoterKept (roll-TypeDenoter (denoter_parts y))
denoter_rolled y = fold-roll-TypeDenoter Places place.denoter_step (denoter_parts y) ∙ denoter_layer y ∙ sym (ap places_in (denoter_is (denoter_parts y)))

denoter_kept : (d : TypeDenoter) → DenoterKept d
denoter_kept = ind-TypeDenoter DenoterKept (λ x y is. subst (λ z. DenoterKept (roll-TypeDenoter z)) is (denoter_rolled y))

type_kept : (d : TypeDefinition) → place.type_definition_places d ≡ places_in (type_outline d)
type_kept d = ap (λ ps. d.name.place ∷ ps) (alone (denoter_outline d.denoter) (form.mark symbol.Semicolon) (denoter_kept d.denoter) refl)

group_kept : (g : VariableGroup) → group_places g ≡ places_in (group_outline g)
group_kept g =
    both (form.separated symbol.Comma (map name_outline g.names.items)) (form.mark symbol.Colon ⧺ denoter_outline g.denoter ⧺ form.mark symbol.Semicolon)
    (names_kept g.names.items)
    (alone (denoter_outline g.denoter) (form.mark symbol.Semicolon) (denoter_kept g.denoter) refl)

-- ---- procedures and functions, blocks and programs

formal_kept : (g : FormalGroup) → place.formal_places g ≡ places_in (formal_outline g)
formal_kept g =
    let names = form.separated symbol.Comma (map name_outline g.names.items) in
    let type = form.mark symbol.Colon ⧺ form.kept (identifier g.type_name) in
    by g.by (names ⧺ type) (both names type (names_kept g.names.items) refl)
  where
    by : (by : Passing) (x : Outline) {a : Places} → a ≡ places_in x → a ≡ places_in (passing (is_variable by) ⧺ x)
    by Value x e = e
    by Variable x e = e

formals_kept : (gs : List FormalGroup) → flat_map place.formal_places gs ≡ places_in (in_parentheses symbol.Semicolon (map formal_outline gs))
formals_kept gs =
    parenthesized_kept FormalGroup symbol.Semicolon formal_outline place.formal_places gs (each_kept FormalGroup formal_outline place.formal_places gs
    formal_kept)

heading_kept : (h : Heading) → place.heading_places h ≡ places_in (heading_outline h)
heading_kept (Procedure name formals) =
    ap (λ ps. name.place ∷ ps) (alone (in_parentheses symbol.Semicolon (map formal_outline formals.items)) (form.mark symbol.Semicolon) (formals_kept
    formals.items) refl)
heading_kept (Function name formals result) =
    ap (λ ps. name.place ∷ ps)
    (both (in_parentheses symbol.Semicolon (map formal_outline formals.items))
    (form.mark symbol.Colon ⧺ form.kept (identifier result) ⧺ form.mark symbol.Semicolon) (formals_kept formals.items) refl)
heading_kept (Resumed name) = refl

abbrev BlockKept : Block → Type 0
BlockKept b = block_places b ≡ places_in (block_outline b)

abbrev RoutineKept : Routine → Type 0
RoutineKept r = place.routine_places r ≡ places_in (routine_outline r)

abbrev KeptBlock : Type 0
KeptBlock = (b : Block) × BlockKept b

abbrev KeptRoutine : Type 0
KeptRoutine = (r : Routine) × RoutineKept r

abbrev block_parts : Block-F KeptBlock KeptRoutine → Block-F Block Routine
block_parts = map-Block KeptBlock KeptRoutine Block Routine (λ b. b.0) (λ r. r.0)

abbrev routine_parts : Routine-F KeptBlock KeptRoutine → Routine-F Block Routine
routine_parts = map-Routine KeptBlock KeptRoutine Block Routine (λ b. b.0) (λ r. r.0)

block_layer : (y : Block-F KeptBlock KeptRoutine)
    → place.block_step (map-Block Block Routine Places Places block_places place.routine_places (block_parts y))
    ≡ places_in (tree.block_step (map-Block Block Routine Outline Outline block_outline routine_outline (block_parts y)))
block_layer y =
    let d = block_parts y in
    let parts = map (λ (r : KeptRoutine). r.0) y.routines.items in
    let c = form.part word.Const (map definition_outline d.constants.items) in
    let t = form.part word.Type (map type_outline d.types.items) in
    let v = form.part word.Var (map group_outline d.variables.items) in
    let r = row (map routine_outline parts) in
    let ss = form.separated symbol.Semicolon (map stmt_outline d.statements.items) in
    let s = form.statement_part (map stmt_outline d.statements.items) d.end in
    both c (t ⧺ v ⧺ r ⧺ s)
    (part_kept ConstantDefinition word.Const definition_outline place.definition_places d.constants.items
    (each_kept ConstantDefinition definition_outline place.definition_places d.constants.items definition_kept))
    (both t (v ⧺ r ⧺ s)
    (part_kept TypeDefinition word.Type type_outline place.type_definition_places d.types.items
    (each_kept TypeDefinition type_outline place.type_definition_places d.types.items type_kept))
    (both v (r ⧺ s)
    (part_kept VariableGroup word.Var group_outline group_places d.variables.items (each_kept VariableGroup group_outline group_places d.variables.items
    group_kept))
    (both r s (joined_rows Routine place.routine_places parts
    ∙ row_kept Routine routine_outline place.routine_places parts (all_kept Routine routine_outline place.routine_places y.routines.items))
    (both ss (form.kept (word_at word.End d.end))
    (separated_kept Stmt symbol.Semicolon stmt_outline stmt_places d.statements.items (each_kept Stmt stmt_outline stmt_places d.statements.items
    stmt_kept)) refl))))

block_rolled : (y : Block-F KeptBlock KeptRoutine) → BlockKept (roll-Block (block_parts y))
block_rolled y =
    fold-roll-Block Places Places place.block_step place.routine_step (block_parts y) ∙ block_layer y
    ∙ sym (ap places_in (fold-roll-Block Outline Outline tree.block_step tree.routine_step (block_parts y)))

with_body : (h : Heading) (body : Option KeptBlock)
    → place.routine_step (map-Routine Block Routine Places Places block_places place.routine_places (routine_parts (record { heading = h; block = body })))
    ≡ places_in (tree.routine_step (map-Routine Block Routine Outline Outline block_outline routine_outline (routine_parts (record {
      heading = h;
      block =
          body;
    }))))
with_body h None =
    both (heading_outline h) (form.directive (takes_directive h) ⧺ form.mark symbol.Semicolon) (heading_kept h) refl
with_body h (Some b) =
    both (heading_outline h) (form.body (block_outline b.0) ⧺ form.mark symbol.Semicolon) (heading_kept h)
    (alone (form.body (block_outline b.0)) (form.mark symbol.Semicolon) b.1 refl)

routine_rolled : (y : Routine-F KeptBlock KeptRoutine) → RoutineKept (roll-Routine (routine_parts y))
routine_rolled y =
    fold-roll-Routine Places Places place.block_step place.routine_step (routine_parts y) ∙ with_body y.heading y.block
    ∙ sym (ap places_in (fold-roll-Routine Outline Outline tree.block_step tree.routine_step (routine_parts y)))

block_kept : (b : Block) → BlockKept b
block_kept = ind-Block BlockKept RoutineKept
    (λ x y is. subst (λ z. BlockKept (roll-Block z)) is (block_rolled y))
    (λ x y is. subst (λ z. RoutineKept (roll-Routine z)) is (routine_rolled y))

pub program_kept : (p : Program) → program_places p ≡ kept_places (program_spelling p)
program_kept p =
    let names = in_parentheses symbol.Comma (map name_outline p.parameters.items) in
    let block = block_outline p.block in
    ap (λ ps. p.name.place ∷ ps)
    (both names (form.mark symbol.Semicolon ⧺ block ⧺ form.mark symbol.Period)
    (names_in_turn p.parameters.items
    ∙ parenthesized_kept Name symbol.Comma name_outline one_place p.parameters.items (each_kept Name name_outline one_place p.parameters.items (λ _. refl)))
    (alone block (form.mark symbol.Period) (block_kept p.block) refl))

-- ---- the order

abbrev token_places : List Token → Places
token_places = map (λ token. token.place)

-- the place of a token, kept or not, before others
order_at : (p : Place) (token : Token) (behind : List Token) (o : Option Place) (others : Places) → IfSome o (λ place. token.place ≡ place)
    → ((q : Place) → ArePlacesInOrder (q ∷ token_places behind) → ArePlacesInOrder (q ∷ others))
    → ArePlacesInOrder (p ∷ token.place ∷ token_places behind) → ArePlacesInOrder (p ∷ kept o others)
order_at p token behind None others is more h = more p (without_second p token.place (token_places behind) h)
order_at p token behind (Some q) others is more h =
    subst (λ x. ArePlacesInOrder (p ∷ x ∷ others)) is (h.0, more token.place h.1)

-- behind a place the places that a spelling keeps are in order where those of its tokens are
order_behind : (s : Spelling) (p : Place) (tokens : List Token) → Spells tokens s → ArePlacesInOrder (p ∷ token_places tokens)
    → ArePlacesInOrder (p ∷ kept_places s)
order_behind [] p tokens h k = tt
order_behind (l ∷ s) p tokens h k =
    order_at p h.0 h.1 l.place (kept_places s) h.3.place (λ q m. order_behind s q h.1 h.4 m)
    (subst (λ ts. ArePlacesInOrder (p ∷ token_places ts)) h.2 k)

order_first : (token : Token) (behind : List Token) (o : Option Place) (others : Places) → IfSome o (λ place. token.place ≡ place)
    → ((q : Place) → ArePlacesInOrder (q ∷ token_places behind) → ArePlacesInOrder (q ∷ others))
    → (ArePlacesInOrder (token_places behind) → ArePlacesInOrder others)
    → ArePlacesInOrder (token.place ∷ token_places behind) → ArePlacesInOrder (kept o others)
order_first token behind None others is more rest h = rest (without_first token.place (token_places behind) h)
order_first token behind (Some q) others is more rest h = subst (λ x. ArePlacesInOrder (x ∷ others)) is (more token.place h)

spelled_in_order : (s : Spelling) (tokens : List Token) → Spells tokens s → ArePlacesInOrder (token_places tokens) → ArePlacesInOrder (kept_places s)
spelled_in_order [] tokens h k = tt
spelled_in_order (l ∷ s) tokens h k =
    order_first h.0 h.1 l.place (kept_places s) h.3.place (λ q m. order_behind s q h.1 h.4 m) (λ m. spelled_in_order s h.1 h.4 m)
    (subst (λ ts. ArePlacesInOrder (token_places ts)) h.2 k)

-- where the tokens are in order, so is the program that they spell
pub program_in_order : (tokens : List Token) (p : Program) → Spells tokens (program_spelling p) → ArePlacesInOrder (map (λ token. token.place) tokens)
    → ArePlacesInOrder (program_places p)
program_in_order tokens p h k = subst ArePlacesInOrder (sym (program_kept p)) (spelled_in_order (program_spelling p) tokens h k)
