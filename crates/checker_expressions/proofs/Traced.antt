-- The values of the operands of operators in the evaluation of an expression, in the order in which a walk notes them.
use Rattle.std.proofs.Common.{rules, ◌&&◌, ◌≡◌, ◌∙◌, sym, ap, ap₂, refl, subst, ℕ, Bool, true, false, List, [], ◌∷◌, ◌++◌, map}
use Rattle.std.specs.List.{list_all}
use Rattle.std.specs.declared.alloc.Global.{Global}
use Rattle.std.specs.declared.boxed.Box.{Box}
use Rattle.std.specs.declared.vec.Vec.{Vec}
use Rattle.typed_tree.specs.declared.tree.Dyadic.{Dyadic}
use Rattle.typed_tree.specs.declared.tree.Expr.{Expr}
use Rattle.typed_tree.specs.declared.tree.Expr.TheVariants as expr
use Rattle.typed_tree.specs.declared.tree.Link.{Link}
use Rattle.typed_tree.specs.declared.tree.Passed.{Passed}
use Rattle.typed_tree.specs.declared.tree.Relation.{Relation}
use Rattle.typed_tree.specs.declared.tree.Whole.{Whole}
use Rattle.typed_tree.specs.declared.tree.Expr.TheOpen.{Expr-F, Link-F, Passed-F}
use Rattle.typed_tree.specs.declared.tree.Expr.TheOpen.Expr-F.{Constant, Variable, Monadic as MonadicOf, Chain, Compare, Call as CallOf, Set, Input}
use Rattle.typed_tree.specs.declared.tree.Expr.TheOpen.Passed-F.{Value as PassedValue, Whole as PassedWhole, Reference}
use Rattle.typed_tree.specs.declared.tree.Expr.TheViews.{roll-Expr, roll-Link, roll-Passed}
use Rattle.typed_tree.specs.declared.tree.Expr.TheFolds.{fold-Expr, fold-Link, fold-Passed, fold-roll-Expr, fold-roll-Link, fold-roll-Passed, ind-Expr}
use Rattle.typed_tree.specs.declared.tree.Expr.TheFolds.{ind-Link, the_lemmas}
use Rattle.typed_tree.specs.declared.tree.Expr.TheFolds.{map-Expr, map-Link, map-Passed}
use Rattle.members.specs.Members as sets
use Rattle.meaning.specs.declared.value.Value.{Value}
use Rattle.meaning.specs.declared.value.Value.TheVariants.{Members, Number}
use Rattle.meaning.specs.Effect as effect
use Rattle.meaning.specs.Meaning as meaning
use Rattle.meaning.specs.Meaning.{Evaluation, Passing, Surroundings, link_of, passing_of, value_of}
use Rattle.checker_expressions.specs.Walk.{joins}

-- the values of both operands of an operator
pub record Operands : Type 0 where
  pub left : Value
  pub right : Value

-- the values of operands in what is done in some surroundings from a state
abbrev pub Tracing : Type 0
Tracing = Surroundings → effect.State → List Operands

-- an expression: how it is evaluated, and the values of operands in that
pub record Traced : Type 0 where
  pub evaluation : Evaluation
  pub values : Tracing

-- an operator, with its right operand
pub record TracedLink : Type 0 where
  pub combination : meaning.Combination
  pub number : ℕ
  pub operation : Dyadic
  pub right : Traced

-- what comes behind a value, if there is one
abbrev pub traced_behind : {A : Type 0} → effect.Reply A → (A → effect.State → List Operands) → List Operands
traced_behind (effect.Gives a s) next = next a s
traced_behind (effect.Stops e s) next = []

-- at an operator, by the value to its left: both operands, or those inside the right one
abbrev pub operand_values : (inside : Bool) → Value → Traced → Tracing
operand_values true v right env s = right.values env s
operand_values false v right env s = traced_behind (right.evaluation env s) (λ w t. record { left = v; right = w } ∷ [])

abbrev pub link_values : (inside : Bool) → Value → TracedLink → Tracing
link_values inside v link env s = traced_behind (effect.enter link.number env.visible s) (λ done t. operand_values inside v link.right env t)

-- at the operators of a chain, from left to right
abbrev pub turns_values : (inside : Bool) → List TracedLink → Value → Tracing
turns_values inside [] v env s = []
turns_values inside (link ∷ links) v env s =
    link_values inside v link env s ++ traced_behind (link.combination env v s) (λ w t. turns_values inside links w env t)

-- in a chain: the operands of each operator, or those inside all operands
abbrev pub first_values : (inside : Bool) → Traced → Tracing
first_values true first env s = first.values env s
first_values false first env s = []

abbrev pub chain_values : (inside : Bool) → Traced → List TracedLink → Tracing
chain_values inside first links env s =
    first_values inside first env s ++ traced_behind (first.evaluation env s) (λ v t. turns_values inside links v env t)

-- one layer of an expression
abbrev pub trace_values : Expr-F Traced Passing TracedLink → Tracing
trace_values (MonadicOf number operation operand) env s =
    traced_behind (effect.enter number env.visible s) (λ done t. operand.value.values env t)
trace_values (Chain first rest) env s =
    chain_values (list_all (λ link. joins link.operation) rest.items) first.value rest.items env s
trace_values other env s = []

abbrev evaluated : Expr-F Traced Passing TracedLink → Expr-F Evaluation Passing meaning.Combination
evaluated = map-Expr Traced Passing TracedLink Evaluation Passing meaning.Combination (λ one. one.evaluation) (λ p. p) (λ link. link.combination)

abbrev pub trace_step : Expr-F Traced Passing TracedLink → Traced
trace_step x = record { evaluation = meaning.value_step (evaluated x); values = trace_values x }

abbrev pub trace_passed : Passed-F Traced Passing TracedLink → Passing
trace_passed x =
    meaning.passed_step
    (map-Passed Traced Passing TracedLink Evaluation Passing meaning.Combination (λ one. one.evaluation) (λ p. p) (λ link. link.combination) x)

abbrev pub trace_link : Link-F Traced Passing TracedLink → TracedLink
trace_link x = record {
  combination =
      meaning.link_step
      (map-Link Traced Passing TracedLink Evaluation Passing meaning.Combination (λ one. one.evaluation) (λ p. p) (λ link. link.combination) x);
  number = x.number;
  operation = x.operation;
  right = x.operand;
}

abbrev pub traced_of : Expr → Traced
traced_of = fold-Expr Traced Passing TracedLink trace_step trace_passed trace_link

abbrev pub traced_passed : Passed → Passing
traced_passed = fold-Passed Traced Passing TracedLink trace_step trace_passed trace_link

abbrev pub traced_link : Link → TracedLink
traced_link = fold-Link Traced Passing TracedLink trace_step trace_passed trace_link

-- ---- it is traced as it is evaluated

abbrev IsTraced : Expr → Type 0
IsTraced e = (traced_of e).evaluation ≡ value_of e

abbrev IsTracedPassed : Passed → Type 0
IsTracedPassed p = traced_passed p ≡ passing_of p

abbrev IsTracedLink : Link → Type 0
IsTracedLink l = (traced_link l).combination ≡ link_of l

abbrev TracedExpr : Type 0
TracedExpr = (e : Expr) × IsTraced e

abbrev TracedPassed : Type 0
TracedPassed = (p : Passed) × IsTracedPassed p

abbrev LinkTraced : Type 0
LinkTraced = (l : Link) × IsTracedLink l

abbrev bare_expr : Expr-F TracedExpr TracedPassed LinkTraced → Expr-F Expr Passed Link
bare_expr = map-Expr TracedExpr TracedPassed LinkTraced Expr Passed Link (λ e. e.0) (λ p. p.0) (λ l. l.0)

abbrev bare_passed : Passed-F TracedExpr TracedPassed LinkTraced → Passed-F Expr Passed Link
bare_passed = map-Passed TracedExpr TracedPassed LinkTraced Expr Passed Link (λ e. e.0) (λ p. p.0) (λ l. l.0)

abbrev bare_link : Link-F TracedExpr TracedPassed LinkTraced → Link-F Expr Passed Link
bare_link = map-Link TracedExpr TracedPassed LinkTraced Expr Passed Link (λ e. e.0) (λ p. p.0) (λ l. l.0)

same-values : (parts : List TracedExpr)
    → map (λ one. one.evaluation) (map traced_of (map (λ e. e.0) parts)) ≡ map value_of (map (λ e. e.0) parts)
same-values [] = refl
same-values (one ∷ parts) = ap₂ (λ (first : Evaluation) (more : List Evaluation). first ∷ more) one.1 (same-values parts)

same-passed : (parts : List TracedPassed) → map (λ p. p) (map traced_passed (map (λ p. p.0) parts)) ≡ map passing_of (map (λ p. p.0) parts)
same-passed [] = refl
same-passed (one ∷ parts) = ap₂ (λ (first : Passing) (more : List Passing). first ∷ more) one.1 (same-passed parts)

same-links : (parts : List LinkTraced)
    → map (λ link. link.combination) (map traced_link (map (λ l. l.0) parts)) ≡ map link_of (map (λ l. l.0) parts)
same-links [] = refl
same-links (one ∷ parts) =
    ap₂ (λ (first : meaning.Combination) (more : List meaning.Combination). first ∷ more) one.1 (same-links parts)

-- a chain, and a relation of whole values, by how their parts are evaluated
abbrev chained : Evaluation → List meaning.Combination → Evaluation
chained value links env = effect.◌>>=◌ (value env) (λ v. meaning.in_turn links env v)

abbrev compares : ℕ → Relation → (left right : Whole) → (left_indexes right_indexes : List Evaluation) → Evaluation
compares number relation left right left_indexes right_indexes env =
    effect.◌>>=◌ (meaning.whole_of left left_indexes env) (λ a.
    effect.◌>>=◌ (effect.enter number env.visible) (λ done.
    effect.◌>>=◌ (meaning.whole_of right right_indexes env) (λ b. effect.give (Number (meaning.compared relation a b)))))

expr-layer : (y : Expr-F TracedExpr TracedPassed LinkTraced)
    → meaning.value_step (evaluated (map-Expr Expr Passed Link Traced Passing TracedLink traced_of traced_passed traced_link (bare_expr y)))
    ≡ meaning.value_step (map-Expr Expr Passed Link Evaluation Passing meaning.Combination value_of passing_of link_of (bare_expr y))
expr-layer (Constant number value) = refl
expr-layer (Variable access indexes holds defined) =
    ap {B = Evaluation} (λ values env. effect.◌>>=◌ (meaning.accessed access values env) (λ place. effect.fetch place defined))
    (same-values indexes.items)
expr-layer (Set number designators members) =
    ap {B = Evaluation} (λ values env.
    effect.◌>>=◌ (effect.enter number env.visible) (λ done.
    effect.◌>>=◌ (meaning.gathered designators.items values env sets.empty) (λ set. effect.give (Members set)))) (same-values members.items)
expr-layer (MonadicOf number operation operand) =
    ap {B = Evaluation} (λ value env.
    effect.◌>>=◌ (effect.enter number env.visible) (λ done.
    effect.◌>>=◌ (value env) (λ v. effect.◌>>=◌ (meaning.operated operation (effect.number_of v)) (λ n. effect.give (Number n))))) operand.value.1
expr-layer (Chain first rest) = ap₂ chained first.value.1 (same-links rest.items)
expr-layer (Compare number relation left left_indexes right right_indexes) =
    ap₂ (compares number relation left right) (same-values left_indexes.items) (same-values right_indexes.items)
expr-layer (CallOf call actuals) = ap (λ (passings : List Passing). meaning.call_of call passings) (same-passed actuals.items)
expr-layer (Input number asks) = refl

passed-layer : (y : Passed-F TracedExpr TracedPassed LinkTraced)
    → trace_passed (map-Passed Expr Passed Link Traced Passing TracedLink traced_of traced_passed traced_link (bare_passed y))
    ≡ meaning.passed_step (map-Passed Expr Passed Link Evaluation Passing meaning.Combination value_of passing_of link_of (bare_passed y))
passed-layer (PassedValue value fits) = ap (λ (one : Evaluation). meaning.passed_step (PassedValue one fits)) value.1
passed-layer (PassedWhole type_id value indexes) =
    ap {B = Passing} (λ values env.
    effect.◌>>=◌ (meaning.whole_of value values env) (λ row. effect.give (meaning.OfRow row))) (same-values indexes.items)
passed-layer (Reference type_id access indexes) =
    ap {B = Passing} (λ values env.
    effect.◌>>=◌ (meaning.accessed access values env) (λ place. effect.give (meaning.OfPlace place))) (same-values indexes.items)

link-layer : (y : Link-F TracedExpr TracedPassed LinkTraced)
    → (trace_link (map-Link Expr Passed Link Traced Passing TracedLink traced_of traced_passed traced_link (bare_link y))).combination
    ≡ meaning.link_step (map-Link Expr Passed Link Evaluation Passing meaning.Combination value_of passing_of link_of (bare_link y))
link-layer y =
    ap (λ (value : Evaluation). meaning.link_step (record { number = y.number; operation = y.operation; operand = value })) y.operand.1

rolled-expr : (x : Expr-F Expr Passed Link) (y : Expr-F TracedExpr TracedPassed LinkTraced) → bare_expr y ≡ x → IsTraced (roll-Expr x)
rolled-expr x y is =
    subst (λ (z : Expr-F Expr Passed Link). IsTraced (roll-Expr z)) is
    (ap (λ (one : Traced). one.evaluation) (fold-roll-Expr Traced Passing TracedLink trace_step trace_passed trace_link (bare_expr y)) ∙ expr-layer y
    ∙ sym (fold-roll-Expr Evaluation Passing meaning.Combination meaning.value_step meaning.passed_step meaning.link_step (bare_expr y)))

rolled-passed : (x : Passed-F Expr Passed Link) (y : Passed-F TracedExpr TracedPassed LinkTraced) → bare_passed y ≡ x → IsTracedPassed (roll-Passed x)
rolled-passed x y is =
    subst (λ (z : Passed-F Expr Passed Link). IsTracedPassed (roll-Passed z)) is
    (fold-roll-Passed Traced Passing TracedLink trace_step trace_passed trace_link (bare_passed y) ∙ passed-layer y
    ∙ sym (fold-roll-Passed Evaluation Passing meaning.Combination meaning.value_step meaning.passed_step meaning.link_step (bare_passed y)))

rolled-link : (x : Link-F Expr Passed Link) (y : Link-F TracedExpr TracedPassed LinkTraced) → bare_link y ≡ x → IsTracedLink (roll-Link x)
rolled-link x y is =
    subst (λ (z : Link-F Expr Passed Link). IsTracedLink (roll-Link z)) is
    (ap (λ (one : TracedLink). one.combination) (fold-roll-Link Traced Passing TracedLink trace_step trace_passed trace_link (bare_link y)) ∙ link-layer y
    ∙ sym (fold-roll-Link Evaluation Passing meaning.Combination meaning.value_step meaning.passed_step meaning.link_step (bare_link y)))

pub traced-evaluates : (e : Expr) → (traced_of e).evaluation ≡ value_of e
traced-evaluates = ind-Expr IsTraced IsTracedPassed IsTracedLink rolled-expr rolled-passed rolled-link

pub traced-combines : (l : Link) → (traced_link l).combination ≡ link_of l
traced-combines = ind-Link IsTraced IsTracedPassed IsTracedLink rolled-expr rolled-passed rolled-link

-- ---- a chain

pub chain-evaluates : (first : Box Expr Global) (rest : Vec Link Global)
    → value_of (expr.Chain first rest) ≡ (λ (env : Surroundings). effect.◌>>=◌ (value_of first.value env) (meaning.in_turn (map link_of rest.items) env))
chain-evaluates first rest = search (rules, the_lemmas)

pub link-evaluates : (link : Link)
    → link_of link
    ≡ (λ (env : Surroundings) (v : Value).
    effect.◌>>=◌ (effect.enter link.number env.visible) (λ done. effect.◌>>=◌ (value_of link.operand env) (meaning.operated_both link.operation v)))
link-evaluates link = search (rules, the_lemmas)

link-operation : (link : Link) → (traced_link link).operation ≡ link.operation
link-operation link = search (rules, the_lemmas)

link-number : (link : Link) → (traced_link link).number ≡ link.number
link-number link = search (rules, the_lemmas)

link-right : (link : Link) → (traced_link link).right ≡ traced_of link.operand
link-right link = search (rules, the_lemmas)

-- at an operator of a number
abbrev entered_values : Value → ℕ → Traced → Tracing
entered_values v number right env s = traced_behind (effect.enter number env.visible s) (λ done t. operand_values false v right env t)

pub link-traces : (link : Link) (v : Value)
    → link_values false v (traced_link link)
    ≡ (λ (env : Surroundings) (s : effect.State).
    traced_behind (effect.enter link.number env.visible s) (λ done t. operand_values false v (traced_of link.operand) env t))
link-traces link v = ap₂ (entered_values v) (link-number link) (link-right link)

links-join : (links : List Link) → list_all (λ link. joins link.operation) (map traced_link links) ≡ list_all (λ link. joins link.operation) links
links-join [] = refl
links-join (link ∷ links) = ap₂ (λ (one more : Bool). one && more) (ap joins (link-operation link)) (links-join links)

chain-rolls : (first : Box Expr Global) (rest : Vec Link Global)
    → (traced_of (expr.Chain first rest)).values
    ≡ chain_values (list_all (λ link. joins link.operation) (map traced_link rest.items)) (traced_of first.value) (map traced_link rest.items)
chain-rolls first rest = search (rules, the_lemmas)

pub chain-traces : (first : Box Expr Global) (rest : Vec Link Global)
    → (traced_of (expr.Chain first rest)).values
    ≡ chain_values (list_all (λ link. joins link.operation) rest.items) (traced_of first.value) (map traced_link rest.items)
chain-traces first rest =
    chain-rolls first rest ∙ ap (λ (inside : Bool). chain_values inside (traced_of first.value) (map traced_link rest.items)) (links-join rest.items)
