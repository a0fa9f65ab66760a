-- Each form of an expression, by its own equation.
use Rattle.std.proofs.Common.{◌≡◌, ℕ, Box, Vec, Global, map, sym, ◌∙◌, ap}
use Rattle.members.specs.Members as sets
use Rattle.typed_tree.specs.declared.tree.Access.{Access}
use Rattle.typed_tree.specs.declared.tree.Monadic.{Monadic}
use Rattle.typed_tree.specs.declared.tree.Relation.{Relation}
use Rattle.typed_tree.specs.declared.tree.Whole.{Whole}
use Rattle.typed_tree.specs.declared.tree.Expr.{Expr}
use Rattle.typed_tree.specs.declared.tree.Link.{Link}
use Rattle.typed_tree.specs.declared.tree.Passed.{Passed}
use Rattle.typed_tree.specs.declared.tree.Call.{Call}
use Rattle.typed_tree.specs.declared.tree.Designator.{Designator}
use Rattle.typed_tree.specs.declared.tree.RangeTest.{RangeTest}
use Rattle.types.specs.declared.form.TypeId.{TypeId}
use Rattle.typed_tree.specs.declared.tree.Scalar.{Scalar}
use Rattle.typed_tree.specs.declared.tree.Expr.TheVariants as expr
use Rattle.typed_tree.specs.declared.tree.Passed.TheVariants as actual
use Rattle.typed_tree.specs.declared.tree.Expr.TheOpen.Expr-F.{Variable as Variable-F, Monadic as Monadic-F, Chain as Chain-F, Compare as Compare-F}
use Rattle.typed_tree.specs.declared.tree.Expr.TheOpen.Expr-F.{Call as Call-F, Set as Set-F}
use Rattle.typed_tree.specs.declared.tree.Expr.TheOpen.Passed-F.{Value as Value-F, Whole as Whole-F, Reference as Reference-F}
use Rattle.typed_tree.specs.declared.tree.Expr.TheFolds.{fold-roll-Expr, fold-roll-Passed, fold_out-Link}
use Rattle.meaning.specs.declared.value.Value.{Value}
use Rattle.meaning.specs.declared.value.Value.TheVariants.{Number, Members}
use Rattle.meaning.specs.Effect.{◌>>=◌, give, enter, fetch, is_in, number_of, require}
use Rattle.meaning.specs.Meaning.{Surroundings, Evaluation, Passing, Combination, OfValue, OfRow, OfPlace, value_step, passed_step, link_step, operated}
use Rattle.meaning.specs.Meaning.{compared, gathered, in_turn, accessed, operated_both, whole_of}
use Rattle.meaning.specs.Meaning.{value_of, values_of, passing_of, link_of, call_of}

pub value-Variable : (a : Access) (indexes : Vec Expr Global) (holds : Scalar) (defined : ℕ) (env : Surroundings) →
    value_of (expr.Variable a indexes holds defined) env ≡ (accessed a (values_of indexes.items) env >>= λ place. fetch place defined)
value-Variable a indexes holds defined env = ap (λ (e : Expr). value_of e env) (sym (expr.rolls-Variable a indexes holds defined))
    ∙ ap (λ (f : Evaluation). f env) (fold-roll-Expr Evaluation Passing Combination value_step passed_step link_step (Variable-F a indexes holds defined))

pub value-Monadic : (n : ℕ) (operation : Monadic) (operand : Box Expr Global) (env : Surroundings) →
    value_of (expr.Monadic n operation operand) env ≡ (enter n env.visible >>= λ _. value_of operand.value env >>= λ v. operated operation (number_of v)
    >>= λ result. give (Number result))
value-Monadic n operation operand env = ap (λ (e : Expr). value_of e env) (sym (expr.rolls-Monadic n operation operand))
    ∙ ap (λ (f : Evaluation). f env) (fold-roll-Expr Evaluation Passing Combination value_step passed_step link_step (Monadic-F n operation operand))

pub value-Compare : (n : ℕ) (r : Relation) (left : Whole) (left_indexes : Vec Expr Global) (right : Whole) (right_indexes : Vec Expr Global)
    (env : Surroundings) → value_of (expr.Compare n r left left_indexes right right_indexes) env ≡
    (whole_of left (values_of left_indexes.items) env >>= λ a. enter n env.visible >>= λ _. whole_of right (values_of right_indexes.items) env
    >>= λ b. give (Number (compared r a b)))
value-Compare n r left left_indexes right right_indexes env =
    ap (λ (e : Expr). value_of e env) (sym (expr.rolls-Compare n r left left_indexes right right_indexes))
    ∙ ap (λ (f : Evaluation). f env)
    (fold-roll-Expr Evaluation Passing Combination value_step passed_step link_step (Compare-F n r left left_indexes right right_indexes))

pub value-Chain : (first : Box Expr Global) (rest : Vec Link Global) (env : Surroundings) →
    value_of (expr.Chain first rest) env ≡ (value_of first.value env >>= λ v. in_turn (map link_of rest.items) env v)
value-Chain first rest env = ap (λ (e : Expr). value_of e env) (sym (expr.rolls-Chain first rest))
    ∙ ap (λ (f : Evaluation). f env) (fold-roll-Expr Evaluation Passing Combination value_step passed_step link_step (Chain-F first rest))

pub value-Set : (n : ℕ) (designators : Vec Designator Global) (members : Vec Expr Global) (env : Surroundings) →
    value_of (expr.Set n designators members) env ≡ (enter n env.visible >>= λ _.
    gathered designators.items (values_of members.items) env sets.empty >>= λ set. give (Members set))
value-Set n designators members env = ap (λ (e : Expr). value_of e env) (sym (expr.rolls-Set n designators members))
    ∙ ap (λ (f : Evaluation). f env) (fold-roll-Expr Evaluation Passing Combination value_step passed_step link_step (Set-F n designators members))

pub combination-Link : (link : Link) (env : Surroundings) (left : Value) →
    link_of link env left ≡ (enter link.number env.visible >>= λ _. value_of link.operand env >>= λ right. operated_both link.operation left right)
combination-Link link env left = ap (λ (f : Combination). f env left) (fold_out-Link Evaluation Passing Combination value_step passed_step link_step link)

pub value-Call : (call : Call) (actuals : Vec Passed Global) (env : Surroundings) →
    value_of (expr.Call call actuals) env ≡ call_of call (map passing_of actuals.items) env
value-Call call actuals env = ap (λ (e : Expr). value_of e env) (sym (expr.rolls-Call call actuals))
    ∙ ap (λ (f : Evaluation). f env) (fold-roll-Expr Evaluation Passing Combination value_step passed_step link_step (Call-F call actuals))

pub passing-Value : (value : Expr) (fits : RangeTest) (env : Surroundings) →
    passing_of (actual.Value value fits) env ≡ (value_of value env >>= λ v. require (is_in fits.range v) fits.site >>= λ _. give (OfValue v))
passing-Value value fits env = ap (λ (p : Passed). passing_of p env) (sym (actual.rolls-Value value fits))
    ∙ ap (λ (f : Passing). f env) (fold-roll-Passed Evaluation Passing Combination value_step passed_step link_step (Value-F value fits))

pub passing-Whole : (type_id : TypeId) (value : Whole) (indexes : Vec Expr Global) (env : Surroundings) →
    passing_of (actual.Whole type_id value indexes) env ≡ (whole_of value (values_of indexes.items) env >>= λ values. give (OfRow values))
passing-Whole type_id value indexes env = ap (λ (p : Passed). passing_of p env) (sym (actual.rolls-Whole type_id value indexes))
    ∙ ap (λ (f : Passing). f env) (fold-roll-Passed Evaluation Passing Combination value_step passed_step link_step (Whole-F type_id value indexes))

pub passing-Reference : (type_id : TypeId) (access : Access) (indexes : Vec Expr Global) (env : Surroundings) →
    passing_of (actual.Reference type_id access indexes) env ≡ (accessed access (values_of indexes.items) env >>= λ place. give (OfPlace place))
passing-Reference type_id access indexes env = ap (λ (p : Passed). passing_of p env) (sym (actual.rolls-Reference type_id access indexes))
    ∙ ap (λ (f : Passing). f env)
    (fold-roll-Passed Evaluation Passing Combination value_step passed_step link_step (Reference-F type_id access indexes))
