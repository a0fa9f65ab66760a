-- Each form of an expression and of a statement, as the work that an interpreter has to do for it.
use Rattle.std.proofs.Common.{◌≡◌, ℕ, ℤ, pos, List, [], ◌∷◌, ◌++◌, Bool, true, false, Option, Some, None, Result, Bor}
use Rattle.std.proofs.Common.{if◌then◌else◌, Box, Vec, Global, map, length, zero, suc, arith}
use Rattle.std.proofs.Common.{sym}
use Rattle.std.proofs.Common.{◌∙◌, ap, refl}
use Rattle.std.proofs.lemmas.List.{length-map}
use Rattle.typed_tree.specs.declared.tree.Scalar.{Scalar}
use Rattle.typed_tree.specs.declared.tree.Access.{Access}
use Rattle.typed_tree.specs.declared.tree.Assignment.{Assignment}
use Rattle.typed_tree.specs.declared.tree.CaseHead.{CaseHead}
use Rattle.typed_tree.specs.declared.tree.Copying.{Copying}
use Rattle.typed_tree.specs.declared.tree.ForHead.{ForHead}
use Rattle.typed_tree.specs.declared.tree.LoopHead.{LoopHead}
use Rattle.typed_tree.specs.declared.tree.ProcedureCall.{ProcedureCall}
use Rattle.typed_tree.specs.declared.tree.Writing.{Writing}
use Rattle.typed_tree.specs.declared.tree.Monadic.{Monadic}
use Rattle.typed_tree.specs.declared.tree.RangeTest.{RangeTest}
use Rattle.typed_tree.specs.declared.tree.Width.{Width}
use Rattle.typed_tree.specs.declared.tree.WriteParameter.{WriteParameter}
use Rattle.typed_tree.specs.declared.tree.Written.{Written}
use Rattle.typed_tree.specs.declared.tree.Written.TheVariants.{Ordinal, String}
use Rattle.typed_tree.specs.declared.tree.Whole.{Whole}
use Rattle.typed_tree.specs.declared.tree.Whole.TheVariants.{Text, Variable as VariableOf}
use Rattle.typed_tree.specs.declared.tree.Selector.{Selector}
use Rattle.typed_tree.specs.declared.tree.Selector.TheVariants.{Element}
use Rattle.types.specs.declared.form.Step.TheVariants as step
use Rattle.types.specs.declared.form.TypeId.{TypeId}
use Rattle.types.specs.Components.{components_of}
use Rattle.typed_tree.specs.declared.tree.Relation.{Relation}
use Rattle.typed_tree.specs.declared.tree.Representation.{Representation}
use Rattle.typed_tree.specs.WellFormed.{length_of}
use Rattle.typed_tree.specs.declared.tree.Expr.{Expr}
use Rattle.typed_tree.specs.declared.tree.Link.{Link}
use Rattle.typed_tree.specs.declared.tree.Stmt.{Stmt}
use Rattle.typed_tree.specs.declared.tree.Call.{Call}
use Rattle.typed_tree.specs.declared.tree.Designator.{Designator}
use Rattle.typed_tree.specs.declared.tree.Designator.TheVariants.{Single, Range}
use Rattle.typed_tree.specs.declared.tree.WithHead.{WithHead}
use Rattle.typed_tree.specs.declared.tree.WithRecord.{WithRecord}
use Rattle.typed_tree.specs.Accesses.{origin_of}
use Rattle.typed_tree.specs.declared.tree.Passed.{Passed}
use Rattle.typed_tree.specs.declared.tree.Passed.TheVariants as passed
use Rattle.typed_tree.specs.declared.tree.Expr.TheVariants as expr
use Rattle.typed_tree.specs.declared.tree.Stmt.TheVariants as stmt
use Rattle.typed_tree.specs.declared.tree.Stmt.TheOpen.Stmt-F.{Empty as Empty-F, Assign as Assign-F, Copy as Copy-F, Write as Write-F}
use Rattle.typed_tree.specs.declared.tree.Stmt.TheOpen.Stmt-F.{Compound as Compound-F, If as If-F}
use Rattle.typed_tree.specs.declared.tree.Stmt.TheOpen.Stmt-F.{While as While-F, Repeat as Repeat-F, For as For-F}
use Rattle.typed_tree.specs.declared.tree.Stmt.TheOpen.Stmt-F.{Case as Case-F, Call as Call-F, With as With-F}
use Rattle.typed_tree.specs.declared.tree.Stmt.TheOpen.{Stmt-F}
use Rattle.typed_tree.specs.declared.tree.Stmt.TheFolds.{fold-roll-Stmt, map-Stmt}
use Rattle.typed_tree.specs.declared.tree.Stmt.TheViews.{roll-Stmt}
use Rattle.meaning.specs.declared.value.Value.{Value}
use Rattle.meaning.specs.declared.value.Value.TheVariants.{Number, Members}
use Rattle.interpreter_state.specs.declared.work.Rounds.TheVariants.{Behind}
use Rattle.interpreter_state.specs.declared.work.Work.{Work}
use Rattle.interpreter_state.specs.declared.work.Work.TheVariants as work
use Rattle.meaning.specs.Meaning.{Surroundings}
use Rattle.meaning.specs.Store.{Place, kept, part}
use Rattle.meaning.specs.Effect.{State, Reply, Action, ◌>>=◌, and_then, give, require, use_turn, another, looped}
use Rattle.meaning.specs.Effect.{fetch, fetch_all, store, store_all, undefine, write, is_in, number_of, row_text, text_of}
use Rattle.meaning.specs.Meaning.{begun, gathered, opened, operated_both, with_one, with_range, with_record}
use Rattle.meaning.specs.Meaning.{Combination, Execution, effect_step, operated, in_turn, all_of}
use Rattle.meaning.specs.Meaning.{compared, selected, whole_of, default_width, written_of, width_of, parameter_of}
use Rattle.meaning.specs.Meaning.{line_ended, is_so, turn_if, for_between, for_turn, arm_of}
use Rattle.meaning.specs.Counting.{values_before}
use Rattle.meaning.specs.Meaning.{value_of, values_of, link_of, effect_of, Passing, all_passed, call_of, passing_of}
use Rattle.interpreter_state.specs.Answers.{bounds_tested, positive, value_before}
use Rattle.meaning.specs.Meaning.{Argument, OfValue, OfPlace, OfRow}
use Rattle.interpreter.specs.Pending.{Resumption, pending_of, resumed, chosen, further, while_rounds, repeat_rounds, counting}
use Rattle.interpreter.specs.Pending.{forgetting, turning_inside, turning_tested, whiling, repeating, counting_on, line_ending, linking}
use Rattle.interpreter.specs.Pending.{giving, giving_number, giving_place, giving_row, with_top, with_row, top_of, top_place, top_row, below_top}
use Rattle.interpreter.specs.Pending.{writing, writing_one, writing_row, placing, accessing, selecting, comparing}
use Rattle.interpreter.specs.Pending.{constructing, gathering, opening}
use Rattle.interpreter.specs.Pending.{assigning, assigning_row, calling, left_below, passing, performing, taken_from, tested, top_in_hand}
use Rattle.meaning.proofs.Expressions.{value-Variable, value-Monadic, value-Chain, value-Compare, value-Call, combination-Link}
use Rattle.meaning.proofs.Expressions.{passing-Value, passing-Whole, passing-Reference, value-Set}
use Rattle.meaning.proofs.Replies.{and_then-and_then, and_then-same}
use Rattle.meaning.proofs.Turns.{ExtendedCalls, extended_value, extended_effect, extended_statements}
use Rattle.meaning.proofs.Loops.{looped-rounds, while_uses, repeat_uses, counted_uses}
use Rattle.interpreter.proofs.Counts.{rounds_of, between-tested, turn-given}

-- the state after an entry
abbrev pub entered : ℕ → Surroundings → State → State
entered number env s = record s { visited = s.visited ++ record { number = number; environment = env.visible; store = s.store } ∷ [] }

-- what is pending after an expression's value
abbrev pub evaluated : Surroundings → Resumption → Expr → List Work → List Argument → Action (Unit {0})
evaluated env outer e works operands = giving (value_of e env) (pending_of env outer works) operands

pub does-Variable : (a : Access) (indexes : Vec Expr Global) (holds : Scalar) (defined : ℕ) (given : Expr) → given ≡ expr.Variable a indexes holds defined →
    (all : List Expr) → all ≡ indexes.items → (env : Surroundings) (outer : Resumption) (works : List Work) (operands : List Argument) (s : State) →
    evaluated env outer given works operands s ≡ accessing env a all (work.Fetch defined) (pending_of env outer works) operands (entered a.number env s)
does-Variable a indexes holds defined given is all same env outer works operands s =
    let then_rest : Value → Action (Unit {0}) = λ v. pending_of env outer works (OfValue v ∷ operands) in
    let place : List Expr → Reply (Option Place) = λ l. selected a.selectors.items (values_of l) env (begun (origin_of a) env) (entered a.number env s) in
    ap (λ (e : Expr). evaluated env outer e works operands s) is
    ∙ ap (λ (a : Action Value). giving a (pending_of env outer works) operands s) (value-Variable a indexes holds defined env)
    ∙ and_then-and_then (place indexes.items) (λ p. fetch p defined) then_rest
    ∙ ap (λ l. and_then (place l) (λ p. fetch p defined >>= then_rest)) (sym same)

pub does-Monadic : (n : ℕ) (operation : Monadic) (operand : Box Expr Global) (given : Expr) → given ≡ expr.Monadic n operation operand → (inner : Bor Expr) →
    inner.now ≡ operand.value → (env : Surroundings) (outer : Resumption) (works : List Work) (operands : List Argument) (s : State) →
    evaluated env outer given works operands s ≡ pending_of env outer (work.Value inner ∷ work.Monadic operation ∷ works) operands (entered n env s)
does-Monadic n operation operand given is inner same env outer works operands s =
    let then_rest : Value → Action (Unit {0}) = λ v. pending_of env outer works (OfValue v ∷ operands) in
    let value : Reply Value = value_of operand.value env (entered n env s) in
    let calculation : Value → Action ℤ = λ v. operated operation (number_of v) in
    ap (λ (e : Expr). evaluated env outer e works operands s) is
    ∙ ap (λ (a : Action Value). and_then (a s) then_rest) (value-Monadic n operation operand env)
    ∙ and_then-and_then value (λ v. calculation v >>= λ m. give (Number m)) then_rest
    ∙ and_then-same value _ _ (λ v t. and_then-and_then (calculation v t) (λ m. give (Number m)) then_rest)
    ∙ ap (λ (e : Expr). and_then (value_of e env (entered n env s)) (λ v. calculation v >>= λ m. then_rest (Number m))) (sym same)

-- the operators of a chain, with the operands in hand
linking-in_turn : (env : Surroundings) (links : List Combination) (next : Resumption) (v : Value) (operands : List Argument) (s : State) →
    and_then (in_turn links env v s) (λ w. next (OfValue w ∷ operands)) ≡ linking env links next (OfValue v ∷ operands) s
linking-in_turn env [] next v operands s = refl
linking-in_turn env (link ∷ links) next v operands s =
    and_then-and_then (link env v s) (λ w. in_turn links env w) (λ w. next (OfValue w ∷ operands))
    ∙ and_then-same (link env v s) _ _ (λ w t. linking-in_turn env links next w operands t)

pub does-Chain : (first : Box Expr Global) (rest : Vec Link Global) (given : Expr) → given ≡ expr.Chain first rest → (inner : Bor Expr) →
    inner.now ≡ first.value → (links : Bor (List Link)) → links.now ≡ rest.items →
    (env : Surroundings) (outer : Resumption) (works : List Work) (operands : List Argument) (s : State) →
    evaluated env outer given works operands s ≡ pending_of env outer (work.Value inner ∷ work.Links links ∷ works) operands s
does-Chain first rest given is inner same links all env outer works operands s =
    let then_rest : Value → Action (Unit {0}) = λ v. pending_of env outer works (OfValue v ∷ operands) in
    ap (λ (e : Expr). evaluated env outer e works operands s) is
    ∙ ap (λ (a : Action Value). and_then (a s) then_rest) (value-Chain first rest env)
    ∙ and_then-and_then (value_of first.value env s) (λ v. in_turn (map link_of rest.items) env v) then_rest
    ∙ and_then-same (value_of first.value env s) _ _ (λ v t. linking-in_turn env (map link_of rest.items) (pending_of env outer works) v operands t)
    ∙ ap (λ (e : Expr). and_then (value_of e env s) (λ v. linking env (map link_of rest.items) (pending_of env outer works) (OfValue v ∷ operands))) (sym same)
    ∙ ap (λ (l : List Link). and_then (value_of inner.now env s) (λ v. linking env (map link_of l) (pending_of env outer works) (OfValue v ∷ operands)))
    (sym all)

pub does-Links : (first : Link) (rest all : Bor (List Link)) → all.now ≡ first ∷ rest.now →
    (env : Surroundings) (outer : Resumption) (works : List Work) (operands : List Argument) (s : State) →
    resumed env (work.Links all) (pending_of env outer works) operands s ≡
    evaluated env outer first.operand (work.Combine first.operation ∷ work.Links rest ∷ works) operands (entered first.number env s)
does-Links first rest all is env outer works operands s =
    let left = top_of operands in
    let then_rest : Value → Action (Unit {0}) = λ w. linking env (map link_of rest.now) (pending_of env outer works) (OfValue w ∷ below_top operands) in
    let value : Reply Value = value_of first.operand env (entered first.number env s) in
    let combination : Value → Action Value = λ right. operated_both first.operation left right in
    ap (λ (l : List Link). linking env (map link_of l) (pending_of env outer works) operands s) is
    ∙ ap (λ (a : Action Value). and_then (a s) then_rest) (combination-Link first env left)
    ∙ and_then-and_then value combination then_rest

-- what is pending after a statement
abbrev pub executed : Surroundings → Resumption → Stmt → List Work → List Argument → Action (Unit {0})
executed env outer e works operands = effect_of e env >>= λ _. pending_of env outer works operands

-- a statement that is made of a layer, and then the rest
pub executed-rolled : (x : Stmt-F Stmt) (given made : Stmt) → given ≡ made → roll-Stmt x ≡ made →
    (env : Surroundings) (outer : Resumption) (works : List Work) (operands : List Argument) (s : State) →
    executed env outer given works operands s ≡
    and_then (effect_step (map-Stmt Stmt Execution effect_of x) env s) (λ _. pending_of env outer works operands)
executed-rolled x given made is rolls env outer works operands s =
    ap (λ (e : Stmt). executed env outer e works operands s) (is ∙ sym rolls)
    ∙ ap (λ (f : Execution). and_then (f env s) (λ _. pending_of env outer works operands)) (fold-roll-Stmt Execution effect_step x)

pub does-Empty : (n : ℕ) (given : Stmt) → given ≡ stmt.Empty n → (env : Surroundings) (outer : Resumption) (works : List Work) (operands : List Argument)
    (s : State) →
    executed env outer given works operands s ≡ pending_of env outer works operands (entered n env s)
does-Empty n given is env outer works operands s = executed-rolled (Empty-F n) given (stmt.Empty n) is (stmt.rolls-Empty n) env outer works operands s

pub does-Assign : (assignment : Assignment) (given : Stmt) → given ≡ stmt.Assign assignment →
    (env : Surroundings) (outer : Resumption) (works : List Work) (operands : List Argument) (s : State) →
    executed env outer given works operands s ≡
    assigning env assignment (pending_of env outer works) operands (entered assignment.target.number env (entered assignment.number env s))
does-Assign assignment given is env outer works operands s =
    let then_rest : Unit {0} → Action (Unit {0}) = λ _. pending_of env outer works operands in
    let target = assignment.target in
    let fits = assignment.fits in
    let value : Action Value = value_of assignment.value env in
    let place : Reply (Option Place) = selected target.selectors.items (values_of assignment.indexes.items) env (begun (origin_of target) env)
    (entered target.number env (entered assignment.number env s)) in
    let stored : Option Place → Value → Action (Unit {0}) = λ p v. require (is_in fits.range v) fits.site >>= λ _. store p v in
    executed-rolled (Assign-F assignment) given (stmt.Assign assignment) is (stmt.rolls-Assign assignment) env outer works operands s
    ∙ and_then-and_then place (λ p. value >>= stored p) then_rest
    ∙ and_then-same place _ _ (λ p t. and_then-and_then (value t) (stored p) then_rest
    ∙ and_then-same (value t) _ _ (λ v u. and_then-and_then (require (is_in fits.range v) fits.site u) (λ _. store p v) then_rest))

pub does-Copy : (copying : Copying) (given : Stmt) → given ≡ stmt.Copy copying →
    (env : Surroundings) (outer : Resumption) (works : List Work) (operands : List Argument) (s : State) →
    executed env outer given works operands s ≡
    assigning_row env copying (pending_of env outer works) operands (entered copying.target.number env (entered copying.number env s))
does-Copy copying given is env outer works operands s =
    let then_rest : Unit {0} → Action (Unit {0}) = λ _. pending_of env outer works operands in
    let target = copying.target in
    let place : Reply (Option Place) = selected target.selectors.items (values_of copying.indexes.items) env (begun (origin_of target) env)
    (entered target.number env (entered copying.number env s)) in
    let row : Action (List Value) = whole_of copying.value (values_of copying.value_indexes.items) env in
    let stored : Option Place → List Value → Action (Unit {0}) = λ p values. store_all p (components_of env.visible.types copying.type_id) values in
    executed-rolled (Copy-F copying) given (stmt.Copy copying) is (stmt.rolls-Copy copying) env outer works operands s
    ∙ and_then-and_then place (λ p. row >>= stored p) then_rest
    ∙ and_then-same place _ _ (λ p t. and_then-and_then (row t) (stored p) then_rest)

pub does-Write : (writing : Writing) (given : Stmt) → given ≡ stmt.Write writing → (all : Bor (List WriteParameter)) → all.now ≡ writing.parameters.items →
    (env : Surroundings) (outer : Resumption) (works : List Work) (operands : List Argument) (s : State) →
    executed env outer given works operands s ≡
    resumed env (work.Parameters all writing.ends_line) (pending_of env outer works) operands (entered writing.number env s)
does-Write writing given is all same env outer works operands s =
    let then_rest : Unit {0} → Action (Unit {0}) = λ _. pending_of env outer works operands in
    let written : List WriteParameter → Reply (Unit {0}) = λ l. all_of (map parameter_of l) env (entered writing.number env s) in
    executed-rolled (Write-F writing) given (stmt.Write writing) is (stmt.rolls-Write writing) env outer works operands s
    ∙ and_then-and_then (written writing.parameters.items) (λ _. line_ended writing.ends_line) then_rest
    ∙ ap (λ (l : List WriteParameter). and_then (written l) (λ _. line_ended writing.ends_line >>= then_rest)) (sym same)

pub does-Compound : (n : ℕ) (statements : Vec Stmt Global) (given : Stmt) → given ≡ stmt.Compound n statements → (all : Bor (List Stmt)) →
    all.now ≡ statements.items → (env : Surroundings) (outer : Resumption) (works : List Work) (operands : List Argument) (s : State) →
    executed env outer given works operands s ≡ pending_of env outer (work.Statements all ∷ works) operands (entered n env s)
does-Compound n statements given is all same env outer works operands s =
    let then_rest : Unit {0} → Action (Unit {0}) = λ _. pending_of env outer works operands in
    executed-rolled (Compound-F n statements) given (stmt.Compound n statements) is (stmt.rolls-Compound n statements) env outer works operands s
    ∙ ap (λ (l : List Stmt). and_then (all_of (map effect_of l) env (entered n env s)) then_rest) (sym same)

-- the statement behind `else` is the one of the layer
if-rolled : (n : ℕ) (condition : Expr) (consequence : Box Stmt Global) (alternative : Option (Box Stmt Global)) (given : Stmt) →
    given ≡ stmt.If n condition consequence alternative →
    (env : Surroundings) (outer : Resumption) (works : List Work) (operands : List Argument) (s : State) → executed env outer given works operands s ≡
    and_then ((value_of condition env >>= λ v. chosen (is_so v) consequence.value alternative env) (entered n env s)) (λ _. pending_of env outer works operands)
if-rolled n condition consequence None given is env outer works operands s =
    executed-rolled (If-F n condition consequence None) given _ is (stmt.rolls-If n condition consequence None) env outer works operands s
if-rolled n condition consequence (Some other) given is env outer works operands s =
    executed-rolled (If-F n condition consequence (Some other)) given _ is (stmt.rolls-If n condition consequence (Some other)) env outer works operands s

-- what is pending after the condition of an if
abbrev pub choosing : Surroundings → Resumption → Stmt → Option (Box Stmt Global) → List Work → Resumption
choosing env outer consequence alternative works = with_top (λ v below. chosen (is_so v) consequence alternative env >>= λ _. pending_of env outer works below)

pub does-If : (n : ℕ) (condition : Expr) (consequence : Box Stmt Global) (alternative : Option (Box Stmt Global)) (given : Stmt) →
    given ≡ stmt.If n condition consequence alternative → (one : Stmt) → one ≡ consequence.value →
    (env : Surroundings) (outer : Resumption) (works : List Work) (operands : List Argument) (s : State) →
    executed env outer given works operands s ≡ giving (value_of condition env) (choosing env outer one alternative works) operands (entered n env s)
does-If n condition consequence alternative given is one same env outer works operands s =
    let then_rest : Unit {0} → Action (Unit {0}) = λ _. pending_of env outer works operands in
    let tested : Reply Value = value_of condition env (entered n env s) in
    if-rolled n condition consequence alternative given is env outer works operands s
    ∙ and_then-and_then tested (λ v. chosen (is_so v) consequence.value alternative env) then_rest
    ∙ ap (λ (e : Stmt). and_then tested (λ v. chosen (is_so v) e alternative env >>= then_rest)) (sym same)

pub does-While : (head : LoopHead) (body : Box Stmt Global) (given : Stmt) → given ≡ stmt.While head body → (inner : Stmt) → inner ≡ body.value →
    (env : Surroundings) (outer : Resumption) (works : List Work) (operands : List Argument) (s : State) →
    executed env outer given works operands s ≡ whiling env head inner (pending_of env outer works) operands (entered head.number env s)
does-While head body given is inner same env outer works operands s =
    executed-rolled (While-F head body) given (stmt.While head body) is (stmt.rolls-While head body) env outer works operands s
    ∙ ap (λ (e : Stmt). whiling env head e (pending_of env outer works) operands (entered head.number env s)) (sym same)

-- what is pending after the condition of a while
abbrev pub while_tested : Surroundings → Resumption → LoopHead → Stmt → List Work → Resumption
while_tested env outer head body works =
    with_top (λ v below. further (while_rounds env head body) (turn_if (is_so v) (effect_of body env)) >>= λ _. pending_of env outer works below)

pub does-while-round : (env : Surroundings) (outer : Resumption) (calls : ExtendedCalls env.calls) (head : LoopHead) (body : Stmt) (works : List Work)
    (operands : List Argument) (s : State) →
    whiling env head body (pending_of env outer works) operands s ≡ giving (value_of head.condition env) (while_tested env outer head body works) operands s
does-while-round env outer calls head body works operands s =
    let then_rest : Unit {0} → Action (Unit {0}) = λ _. pending_of env outer works operands in
    let round = while_rounds env head body in
    let again : Option (Unit {0}) → Action (Unit {0}) = λ more. another more (looped round) in
    let turn : Value → Action (Option (Unit {0})) = λ v. turn_if (is_so v) (effect_of body env) in
    let uses = while_uses (value_of head.condition) (effect_of body) env (extended_value env calls head.condition) (extended_effect env calls body) in
    ap (λ (r : Reply (Unit {0})). and_then r then_rest) (looped-rounds round uses tt s)
    ∙ and_then-and_then (round tt s) again then_rest
    ∙ and_then-and_then (value_of head.condition env s) turn (λ more. again more >>= then_rest)
    ∙ and_then-same (value_of head.condition env s) _ _ (λ v t. sym (and_then-and_then (turn v t) again then_rest))

pub does-while-turn : (env : Surroundings) (outer : Resumption) (calls : ExtendedCalls env.calls) (head : Bor LoopHead) (body : Bor Stmt) (works : List Work)
    (operands : List Argument) (s : State) →
    is_so (top_of operands) ≡ true → while_tested env outer head.now body.now works operands s ≡
    turning_tested env (work.Statement body) head.now.condition (work.WhileTurn head body) (pending_of env outer works) (below_top operands) s
does-while-turn env outer calls head body works operands s so =
    let then_rest : Unit {0} → Action (Unit {0}) = λ _. pending_of env outer works (below_top operands) in
    let round = while_rounds env head.now body.now in
    let again : Option (Unit {0}) → Action (Unit {0}) = λ more. another more (looped round) in
    let inner = effect_of body.now env in
    ap (λ (b : Bool). and_then (further round (turn_if b inner) s) then_rest) so
    ∙ ap (λ (r : Reply (Unit {0})). and_then r then_rest) (turn-given (use_turn s) inner (Some tt) again)
    ∙ and_then-and_then (use_turn s) (λ _. inner >>= λ _. again (Some tt)) then_rest
    ∙ and_then-same (use_turn s) _ _ (λ _ t. and_then-and_then (inner t) (λ _. again (Some tt)) then_rest
    ∙ and_then-same (inner t) _ _ (λ _ u. does-while-round env outer calls head.now body.now works (below_top operands) u))

pub does-Repeat : (head : LoopHead) (statements : Vec Stmt Global) (given : Stmt) → given ≡ stmt.Repeat head statements →
    (all : List Stmt) → all ≡ statements.items → (env : Surroundings) (outer : Resumption) (works : List Work) (operands : List Argument) (s : State) →
    executed env outer given works operands s ≡ repeating env head all (pending_of env outer works) operands (entered head.number env s)
does-Repeat head statements given is all same env outer works operands s =
    executed-rolled (Repeat-F head statements) given (stmt.Repeat head statements) is (stmt.rolls-Repeat head statements) env outer works operands s
    ∙ ap (λ (l : List Stmt). repeating env head l (pending_of env outer works) operands (entered head.number env s)) (sym same)

pub does-repeat-round : (env : Surroundings) (outer : Resumption) (calls : ExtendedCalls env.calls) (head : Bor LoopHead) (statements : Bor (Vec Stmt Global))
    (inner : Bor (List Stmt)) (works : List Work) (operands : List Argument) (s : State) → inner.now ≡ statements.now.items →
    repeating env head.now statements.now.items (pending_of env outer works) operands s ≡
    turning_tested env (work.Statements inner) head.now.condition (work.Unless head statements) (pending_of env outer works) operands s
does-repeat-round env outer calls head statements inner works operands s same =
    let then_rest : Unit {0} → Action (Unit {0}) = λ _. pending_of env outer works operands in
    let condition = head.now.condition in
    let round = repeat_rounds env head.now statements.now.items in
    let again : Option (Unit {0}) → Action (Unit {0}) = λ more. another more (looped round) in
    let all : Action (Unit {0}) = all_of (map effect_of statements.now.items) env in
    let tested : Action Value = value_of condition env in
    let until : Value → Action (Option (Unit {0})) = λ v. give (if is_so v then None else Some tt) in
    let rest : Option (Unit {0}) → Action (Unit {0}) = λ more. again more >>= then_rest in
    let uses = repeat_uses (all_of (map effect_of statements.now.items)) (value_of condition) env (extended_statements env calls statements.now.items)
    (extended_value env calls condition) in
    ap (λ (r : Reply (Unit {0})). and_then r then_rest) (looped-rounds round uses tt s)
    ∙ and_then-and_then (round tt s) again then_rest
    ∙ and_then-and_then (use_turn s) (λ _. all >>= λ _. tested >>= until) rest
    ∙ and_then-same (use_turn s) _ _ (λ _ t. and_then-and_then (all t) (λ _. tested >>= until) rest
    ∙ and_then-same (all t) _ _ (λ _ u. and_then-and_then (tested u) until rest))
    ∙ ap (λ (l : List Stmt). and_then (use_turn s) (λ _. all_of (map effect_of l) env >>= λ _.
    giving tested (resumed env (work.Unless head statements) (pending_of env outer works)) operands)) (sym same)

pub does-unless : (env : Surroundings) (outer : Resumption) (head : Bor LoopHead) (statements : Bor (Vec Stmt Global)) (works : List Work)
    (operands : List Argument) (s : State) →
    is_so (top_of operands) ≡ false → resumed env (work.Unless head statements) (pending_of env outer works) operands s ≡
    repeating env head.now statements.now.items (pending_of env outer works) (below_top operands) s
does-unless env outer head statements works operands s so =
    ap (λ (b : Bool). and_then (further (repeat_rounds env head.now statements.now.items) (give (if b then None else Some tt)) s)
    (λ _. pending_of env outer works (below_top operands))) so

-- what is pending after the bounds of a for
abbrev pub bounding : Surroundings → Resumption → ForHead → Stmt → List Work → Resumption
bounding env outer head body works =
    with_top (λ last rest. with_top (λ first below. for_between head (effect_of body) env (number_of first) (number_of last)
    >>= λ _. forgetting (env.visible.variables head.control) (pending_of env outer works) below) rest)

pub does-For : (head : ForHead) (body : Box Stmt Global) (given : Stmt) → given ≡ stmt.For head body → (inner : Stmt) → inner ≡ body.value →
    (env : Surroundings) (outer : Resumption) (works : List Work) (operands : List Argument) (s : State) →
    executed env outer given works operands s ≡
    giving (value_of head.first.value env) (giving (value_of head.last.value env) (bounding env outer head inner works)) operands
    (entered head.number env s)
does-For head body given is inner same env outer works operands s =
    let then_rest : Unit {0} → Action (Unit {0}) = λ _. pending_of env outer works operands in
    let there = entered head.number env s in
    let first : Action Value = value_of head.first.value env in
    let last : Action Value = value_of head.last.value env in
    let between : Value → Value → Action (Unit {0}) = λ a b. for_between head (effect_of body.value) env (number_of a) (number_of b) in
    let behind : Unit {0} → Action (Unit {0}) = λ _. undefine (env.visible.variables head.control) in
    executed-rolled (For-F head body) given (stmt.For head body) is (stmt.rolls-For head body) env outer works operands s
    ∙ and_then-and_then (first there) (λ a. last >>= λ b. between a b >>= behind) then_rest
    ∙ and_then-same (first there) _ _ (λ a t. and_then-and_then (last t) (λ b. between a b >>= behind) then_rest
    ∙ and_then-same (last t) _ _ (λ b u. and_then-and_then (between a b u) behind then_rest))
    ∙ ap (λ (e : Stmt). giving first (giving last (bounding env outer head e works)) operands there) (sym same)

pub does-bounds : (env : Surroundings) (outer : Resumption) (head : ForHead) (body : Stmt) (works : List Work) (operands : List Argument) (s : State)
    (result : Result (Option (ℤ × ℤ)) ℕ) → bounds_tested head (number_of (top_of (below_top operands))) (number_of (top_of operands)) ≡ result →
    bounding env outer head body works operands s ≡
    and_then (rounds_of env head (effect_of body) result s)
    (λ _. forgetting (env.visible.variables head.control) (pending_of env outer works) (below_top (below_top operands)))
does-bounds env outer head body works operands s result is =
    let then_rest : Unit {0} → Action (Unit {0}) =
    λ _. forgetting (env.visible.variables head.control) (pending_of env outer works) (below_top (below_top operands)) in
    ap (λ (r : Reply (Unit {0})). and_then r then_rest)
    (between-tested env head (effect_of body) (number_of (top_of (below_top operands))) (number_of (top_of operands)) s
    ∙ ap (λ (r : Result (Option (ℤ × ℤ)) ℕ). rounds_of env head (effect_of body) r s) is)

pub does-for-round : (env : Surroundings) (calls : ExtendedCalls env.calls) (head : Bor ForHead) (first n last : ℤ) (body : Bor Stmt) (next : Resumption)
    (operands : List Argument) (s : State) → counting_on env head.now first n last body.now next operands s ≡
    turning_inside env (values_before head.now.direction first n) body.now (work.For head (Behind first n last) body) next operands
    (record s { store = kept s.store (env.visible.variables head.now.control) (Number n) })
does-for-round env calls head first n last body next operands s =
    let control = head.now.control in
    let then_rest : Unit {0} → Action (Unit {0}) = λ _. forgetting (env.visible.variables control) next operands in
    let each = counting env head.now first last body.now in
    let inner : ℤ → Action (Unit {0}) = λ m. effect_of body.now (for_turn head.now first env m) in
    let again : Option ℤ → Action (Unit {0}) = λ more. another more (looped each) in
    let there : State = record s { store = kept s.store (env.visible.variables control) (Number n) } in
    let behind = value_before head.now.direction last in
    let uses = counted_uses (env.visible.variables control) inner behind (λ m. extended_effect (for_turn head.now first env m) calls body.now) in
    ap (λ (r : Reply (Unit {0})). and_then r then_rest)
    (looped-rounds each uses n s ∙ turn-given (use_turn there) (inner n) (behind n) again)
    ∙ and_then-and_then (use_turn there) (λ _. inner n >>= λ _. again (behind n)) then_rest
    ∙ and_then-same (use_turn there) _ _ (λ _ t. and_then-and_then (inner n t) (λ _. again (behind n)) then_rest)

-- what is pending after the index of a case
abbrev pub casing : Surroundings → Resumption → CaseHead → List Stmt → List Work → Resumption
casing env outer head arms works =
    with_top (λ v below. arm_of head.site head.constants.items (map effect_of arms) (number_of v) env >>= λ _. pending_of env outer works below)

pub does-Case : (head : CaseHead) (arms : Vec Stmt Global) (given : Stmt) → given ≡ stmt.Case head arms → (all : List Stmt) → all ≡ arms.items →
    (env : Surroundings) (outer : Resumption) (works : List Work) (operands : List Argument) (s : State) →
    executed env outer given works operands s ≡
    giving (value_of head.index env) (casing env outer head all works) operands (entered head.number env s)
does-Case head arms given is all same env outer works operands s =
    let then_rest : Unit {0} → Action (Unit {0}) = λ _. pending_of env outer works operands in
    let value : Reply Value = value_of head.index env (entered head.number env s) in
    let arm : List Stmt → Value → Action (Unit {0}) = λ l v. arm_of head.site head.constants.items (map effect_of l) (number_of v) env in
    executed-rolled (Case-F head arms) given (stmt.Case head arms) is (stmt.rolls-Case head arms) env outer works operands s
    ∙ and_then-and_then value (arm arms.items) then_rest
    ∙ ap (λ (l : List Stmt). and_then value (λ v. arm l v >>= then_rest)) (sym same)

pub does-Statements : (first : Bor Stmt) (rest all : Bor (List Stmt)) → all.now ≡ first.now ∷ rest.now →
    (env : Surroundings) (outer : Resumption) (works : List Work) (operands : List Argument) (s : State) →
    resumed env (work.Statements all) (pending_of env outer works) operands s ≡ pending_of env outer (work.Statement first ∷ work.Statements rest ∷ works)
    operands s
does-Statements first rest all is env outer works operands s =
    let then_rest : Unit {0} → Action (Unit {0}) = λ _. pending_of env outer works operands in
    ap (λ (l : List Stmt). and_then (all_of (map effect_of l) env s) then_rest) is
    ∙ and_then-and_then (effect_of first.now env s) (λ _. all_of (map effect_of rest.now) env) then_rest

pub does-Parameters : (first : Bor WriteParameter) (rest all : Bor (List WriteParameter)) (ends_line : Bool) → all.now ≡ first.now ∷ rest.now →
    (env : Surroundings) (outer : Resumption) (works : List Work) (operands : List Argument) (s : State) →
    resumed env (work.Parameters all ends_line) (pending_of env outer works) operands s ≡
    writing_one env first.now (pending_of env outer (work.Parameters rest ends_line ∷ works)) operands s
does-Parameters first rest all ends_line is env outer works operands s =
    let then_rest : Unit {0} → Action (Unit {0}) = λ _. line_ended ends_line >>= λ _. pending_of env outer works operands in
    ap (λ (l : List WriteParameter). and_then (all_of (map parameter_of l) env s) then_rest) is
    ∙ and_then-and_then (parameter_of first.now env s) (λ _. all_of (map parameter_of rest.now) env) then_rest

pub does-no-Parameters : (all : Bor (List WriteParameter)) (ends_line : Bool) → all.now ≡ [] →
    (env : Surroundings) (outer : Resumption) (works : List Work) (operands : List Argument) (s : State) →
    resumed env (work.Parameters all ends_line) (pending_of env outer works) operands s ≡ line_ending ends_line (pending_of env outer works) operands s
does-no-Parameters all ends_line none env outer works operands s =
    ap (λ (l : List WriteParameter). and_then (all_of (map parameter_of l) env s) (λ _. line_ending ends_line (pending_of env outer works) operands)) none

pub does-Compare : (n : ℕ) (r : Relation) (left : Whole) (left_indexes : Vec Expr Global) (right : Whole) (right_indexes : Vec Expr Global)
    (given : Expr) → given ≡ expr.Compare n r left left_indexes right right_indexes →
    (all others : List Expr) → all ≡ left_indexes.items → others ≡ right_indexes.items →
    (env : Surroundings) (outer : Resumption) (works : List Work) (operands : List Argument) (s : State) → evaluated env outer given works operands s ≡
    giving_row (whole_of left (values_of all) env)
    (with_row (λ row. giving (comparing env n r right others row) (pending_of env outer works))) operands s
does-Compare n r left left_indexes right right_indexes given is all others same alike env outer works operands s =
    let then_rest : Value → Action (Unit {0}) = λ v. pending_of env outer works (OfValue v ∷ operands) in
    let row : List Expr → Reply (List Value) = λ l. whole_of left (values_of l) env s in
    ap (λ (e : Expr). evaluated env outer e works operands s) is
    ∙ ap (λ (a : Action Value). and_then (a s) then_rest) (value-Compare n r left left_indexes right right_indexes env)
    ∙ and_then-and_then (row left_indexes.items) (λ a. comparing env n r right right_indexes.items a) then_rest
    ∙ ap (λ l. and_then (row l) (λ a. comparing env n r right right_indexes.items a >>= then_rest)) (sym same)
    ∙ ap (λ l. and_then (row all) (λ a. comparing env n r right l a >>= then_rest)) (sym alike)

-- the right side of a relation, and then the relation of both rows
pub does-right-side : (n : ℕ) (r : Relation) (right : Bor Whole) (indexes : Bor (List Expr)) (env : Surroundings) (outer : Resumption) (works : List Work)
    (operands : List Argument) (s : State) → resumed env (work.RightSide n r right indexes) (pending_of env outer works) operands s ≡
    pending_of env outer (work.Whole right indexes ∷ work.Compare r ∷ works) operands (entered n env s)
does-right-side n r right indexes env outer works operands s =
    let then_rest : Value → Action (Unit {0}) = λ v. pending_of env outer works (OfValue v ∷ below_top operands) in
    and_then-and_then (whole_of right.now (values_of indexes.now) env (entered n env s)) (λ other. give (Number (compared r (top_row operands) other)))
    then_rest

-- a string that is written out
pub does-Text : (n : ℕ) (characters : Vec ℕ Global) (given : Whole) → given ≡ Text n characters → (indexes : List Expr) (row : List Value) →
    row ≡ map (λ c. Number (pos c)) characters.items → (env : Surroundings) (outer : Resumption) (works : List Work) (operands : List Argument) (s : State) →
    giving_row (whole_of given (values_of indexes) env) (pending_of env outer works) operands s ≡ pending_of env outer works (OfRow row ∷ operands)
    (entered n env s)
does-Text n characters given is indexes row same env outer works operands s =
    ap (λ (w : Whole). giving_row (whole_of w (values_of indexes) env) (pending_of env outer works) operands s) is
    ∙ ap (λ (l : List Value). pending_of env outer works (OfRow l ∷ operands) (entered n env s)) (sym same)

-- a whole value that is accessed, and then fetched
pub does-whole-Variable : (access : Access) (type_id : TypeId) (cells defined : ℕ) (given : Whole) → given ≡ VariableOf access type_id cells defined →
    (indexes : List Expr) (env : Surroundings) (outer : Resumption) (works : List Work) (operands : List Argument) (s : State) →
    giving_row (whole_of given (values_of indexes) env) (pending_of env outer works) operands s ≡
    accessing env access indexes (work.FetchRow type_id defined) (pending_of env outer works) operands (entered access.number env s)
does-whole-Variable access type_id cells defined given is indexes env outer works operands s =
    let then_rest : List Value → Action (Unit {0}) = λ row. pending_of env outer works (OfRow row ∷ operands) in
    ap (λ (w : Whole). giving_row (whole_of w (values_of indexes) env) (pending_of env outer works) operands s) is
    ∙ and_then-and_then (selected access.selectors.items (values_of indexes) env (begun (origin_of access) env) (entered access.number env s))
    (λ place. fetch_all place (components_of env.visible.types type_id) defined) then_rest

-- the selectors that lead on from a place
pub selecting-on : (env : Surroundings) (selectors : List Selector) (indexes : List Expr) (place : Option Place) (next : Resumption)
    (operands : List Argument) (s : State) → selecting env selectors indexes next (OfPlace place ∷ operands) s ≡
    giving_place (selected selectors (values_of indexes) env place) next operands s
selecting-on env [] indexes place next operands s = refl
selecting-on env (selector ∷ selectors) indexes place next operands s = refl

-- an index, its test, and then the rest of the selectors
pub does-Element : (fits : RangeTest) (rest : Bor (List Selector)) (index : Bor Expr) (others : Bor (List Expr)) (indexes : List Expr) →
    indexes ≡ index.now ∷ others.now → (env : Surroundings) (outer : Resumption) (works : List Work) (operands : List Argument) (s : State) →
    selecting env (Element fits 0 ∷ rest.now) indexes (pending_of env outer works) operands s ≡
    pending_of env outer (work.Value index ∷ work.Index fits ∷ work.Select rest others ∷ works) operands s
does-Element fits rest index others indexes is env outer works operands s =
    let place = top_place operands in
    let then_rest : Option Place → Action (Unit {0}) = λ p. pending_of env outer works (OfPlace p ∷ below_top operands) in
    let further : Option Place → Action (Option Place) = λ p. selected rest.now (values_of others.now) env p in
    let there : Value → Option Place = λ v. part place (step.Element (number_of v) ∷ []) in
    let tested : Value → Action (Unit {0}) = λ v. require (is_in fits.range v) fits.site in
    ap (λ (l : List Expr). selecting env (Element fits 0 ∷ rest.now) l (pending_of env outer works) operands s) is
    ∙ and_then-and_then (value_of index.now env s) (λ v. tested v >>= λ _. further (there v)) then_rest
    ∙ and_then-same (value_of index.now env s) _ _ (λ v t. and_then-and_then (tested v t) (λ _. further (there v)) then_rest
    ∙ sym (and_then-and_then (tested v t) (λ _. give (there v)) (λ p. further p >>= then_rest))
    ∙ and_then-same ((tested v >>= λ _. give (there v)) t) _ _
    (λ p u. sym (selecting-on env rest.now others.now p (pending_of env outer works) (below_top operands) u)))

pub does-Ordinal : (parameter : WriteParameter) (value : Expr) (representation : Representation) → parameter.value ≡ Ordinal value representation →
    (env : Surroundings) (next : Resumption) (operands : List Argument) (s : State) →
    and_then (parameter_of parameter env s) (λ _. next operands) ≡ writing env value representation parameter.width next operands s
does-Ordinal parameter value representation is env next operands s =
    let then_rest : Unit {0} → Action (Unit {0}) = λ _. next operands in
    let width : Action ℤ = width_of parameter.width (default_width representation) env in
    let written : Value → ℤ → Action (Unit {0}) = λ v w. write (text_of representation (number_of v) w) in
    ap (λ (w : Written). and_then (written_of w parameter.width env s) then_rest) is
    ∙ and_then-and_then (value_of value env s) (λ v. width >>= written v) then_rest
    ∙ and_then-same (value_of value env s) _ _ (λ v t. and_then-and_then (width t) (written v) then_rest)

pub does-String : (parameter : WriteParameter) (value : Whole) (indexes : Vec Expr Global) → parameter.value ≡ String value indexes →
    (all : List Expr) → all ≡ indexes.items → (env : Surroundings) (next : Resumption) (operands : List Argument) (s : State) →
    and_then (parameter_of parameter env s) (λ _. next operands) ≡ writing_row env value all parameter.width next operands s
does-String parameter value indexes is all same env next operands s =
    let then_rest : Unit {0} → Action (Unit {0}) = λ _. next operands in
    let row : List Expr → Reply (List Value) = λ l. whole_of value (values_of l) env s in
    let width : Action ℤ = width_of parameter.width (pos (length_of value)) env in
    let written : List Value → ℤ → Action (Unit {0}) = λ components w. write (row_text components w) in
    ap (λ (w : Written). and_then (written_of w parameter.width env s) then_rest) is
    ∙ and_then-and_then (row indexes.items) (λ components. width >>= written components) then_rest
    ∙ and_then-same (row indexes.items) _ _ (λ components t. and_then-and_then (width t) (written components) then_rest)
    ∙ ap (λ l. and_then (row l) (λ components. width >>= λ w. written components w >>= then_rest)) (sym same)

-- a string that is written in a width
pub does-wide : (given : Option Width) (width : Width) → given ≡ Some width → (value : Whole) (indexes : List Expr)
    (env : Surroundings) (outer : Resumption) (works : List Work) (operands : List Argument) (s : State) →
    writing_row env value indexes given (pending_of env outer works) operands s ≡
    giving_row (whole_of value (values_of indexes) env) (evaluated env outer width.value (work.WidthTest width.site ∷ work.WriteRow ∷ works)) operands s
does-wide given width is value indexes env outer works operands s =
    let row : Reply (List Value) = whole_of value (values_of indexes) env s in
    let tested : Value → Action ℤ = λ w. positive width.site (number_of w) in
    let written : List Value → ℤ → Action (Unit {0}) = λ components w. write (row_text components w) >>= λ _. pending_of env outer works operands in
    ap (λ (o : Option Width). writing_row env value indexes o (pending_of env outer works) operands s) is
    ∙ and_then-same row _ _ (λ components t. and_then-and_then (value_of width.value env t) tested (written components))

-- and in its length
pub does-long : (given : Option Width) → given ≡ None → (value : Bor Whole) (indexes : Bor (List Expr)) (places : ℕ) → places ≡ length_of value.now →
    (env : Surroundings) (outer : Resumption) (works : List Work) (operands : List Argument) (s : State) →
    writing_row env value.now indexes.now given (pending_of env outer works) operands s ≡
    pending_of env outer (work.Whole value indexes ∷ work.WriteRowIn places ∷ works) operands s
does-long given is value indexes places same env outer works operands s =
    let row : Reply (List Value) = whole_of value.now (values_of indexes.now) env s in
    let written : ℕ → List Value → Action (Unit {0}) = λ n components. write (row_text components (pos n)) >>= λ _. pending_of env outer works operands in
    ap (λ (o : Option Width). writing_row env value.now indexes.now o (pending_of env outer works) operands s) is
    ∙ ap (λ n. and_then row (written n)) (sym same)

pub does-Width : (given : Option Width) (width : Width) → given ≡ Some width → (default : ℤ) →
    (env : Surroundings) (outer : Resumption) (works : List Work) (operands : List Argument) (s : State) →
    giving_number (width_of given default env) (pending_of env outer works) operands s ≡
    evaluated env outer width.value (work.WidthTest width.site ∷ works) operands s
does-Width given width is default env outer works operands s =
    let tested : Value → Action ℤ = λ w. positive width.site (number_of w) in
    ap (λ (o : Option Width). giving_number (width_of o default env) (pending_of env outer works) operands s) is
    ∙ and_then-and_then (value_of width.value env s) tested (λ n. pending_of env outer works (OfValue (Number n) ∷ operands))

-- arguments that are passed are taken from what is in hand
passing-taken : (env : Surroundings) (ones : List Passing) (count : ℕ) → count ≡ length ones → (next : List Argument → Resumption)
    (operands : List Argument) (s : State) → and_then (all_passed ones env s) (λ arguments. next arguments operands) ≡
    passing env ones (λ in_hand. next (taken_from count in_hand) (left_below count in_hand)) operands s
passing-taken env [] count is next operands s =
    ap (λ n. next (taken_from n operands) (left_below n operands) s) (sym is)
passing-taken env (one ∷ ones) zero is next operands s = let no : ⊥ = omega (arith, is) in absurd no
passing-taken env (one ∷ ones) (suc count) is next operands s =
    and_then-and_then (one env s) (λ argument. all_passed ones env >>= λ arguments. give (argument ∷ arguments))
    (λ arguments. next arguments operands)
    ∙ and_then-same (one env s) _ _ (λ argument t.
    and_then-and_then (all_passed ones env t) (λ arguments. give (argument ∷ arguments)) (λ arguments. next arguments operands)
    ∙ passing-taken env ones count (omega (arith, is)) (λ arguments in_hand. next (top_in_hand in_hand ∷ arguments) (below_top in_hand))
    (argument ∷ operands) t)

-- a call, as an action before the rest
called-as : (call : Call) (actuals : List Passed) (env : Surroundings) (next : Resumption) (operands : List Argument) (s : State) →
    and_then (call_of call (map passing_of actuals) env s) (λ v. next (OfValue v ∷ operands)) ≡
    calling env call actuals next operands (entered call.number env s)
called-as call actuals env next operands s =
    let then_rest : Value → Action (Unit {0}) = λ v. next (OfValue v ∷ operands) in
    let there = entered call.number env s in
    and_then-and_then (all_passed (map passing_of actuals) env there) (λ arguments. env.calls call.block arguments env.visible) then_rest
    ∙ passing-taken env (map passing_of actuals) (length actuals) (sym (length-map actuals passing_of))
    (λ arguments below. giving (env.calls call.block arguments env.visible) next below) operands there

pub does-Call : (call : Call) (actuals : Vec Passed Global) (given : Expr) → given ≡ expr.Call call actuals → (same_call : Call) → same_call ≡ call →
    (all : List Passed) → all ≡ actuals.items → (env : Surroundings) (outer : Resumption) (works : List Work) (operands : List Argument) (s : State) →
    evaluated env outer given works operands s ≡ calling env same_call all (pending_of env outer works) operands (entered call.number env s)
does-Call call actuals given is same_call same all alike env outer works operands s =
    let next = pending_of env outer works in
    ap (λ (e : Expr). evaluated env outer e works operands s) is
    ∙ ap (λ (a : Action Value). giving a next operands s) (value-Call call actuals env)
    ∙ called-as call actuals.items env next operands s
    ∙ ap (λ (c : Call). calling env c actuals.items next operands (entered call.number env s)) (sym same)
    ∙ ap (λ (l : List Passed). calling env same_call l next operands (entered call.number env s)) (sym alike)

-- a procedure, whose value is discarded
pub does-procedure : (procedure : ProcedureCall) (given : Stmt) → given ≡ stmt.Call procedure →
    (env : Surroundings) (outer : Resumption) (works : List Work) (operands : List Argument) (s : State) →
    executed env outer given works operands s ≡
    performing env procedure (pending_of env outer works) operands (entered procedure.call.number env s)
does-procedure procedure given is env outer works operands s =
    let then_rest : Unit {0} → Action (Unit {0}) = λ _. pending_of env outer works operands in
    executed-rolled (Call-F procedure) given (stmt.Call procedure) is (stmt.rolls-Call procedure) env outer works operands s
    ∙ and_then-and_then (call_of procedure.call (map passing_of procedure.actuals.items) env s) (λ _. give tt) then_rest
    ∙ called-as procedure.call procedure.actuals.items env (pending_of env outer (work.Discard ∷ works)) operands s

-- actual parameters, the first one and then the others
pub does-passed : (first : Bor Passed) (rest all : Bor (List Passed)) → all.now ≡ first.now ∷ rest.now → (env : Surroundings) (next : Resumption)
    (operands : List Argument) (s : State) → resumed env (work.Pass all) next operands s ≡
    and_then (passing_of first.now env s) (λ argument. resumed env (work.Pass rest) next (argument ∷ operands))
does-passed first rest all is env next operands s = ap (λ (l : List Passed). passing env (map passing_of l) next operands s) is

pub does-passed-Value : (value : Expr) (fits : RangeTest) (given : Passed) → given ≡ passed.Value value fits → (env : Surroundings) (next : Resumption)
    (operands : List Argument) (s : State) → and_then (passing_of given env s) (λ argument. next (argument ∷ operands)) ≡
    giving (value_of value env) (with_top (λ v. giving (tested fits v) next)) operands s
does-passed-Value value fits given is env next operands s =
    let then_rest : Argument → Action (Unit {0}) = λ argument. next (argument ∷ operands) in
    let test : Value → Action (Unit {0}) = λ v. require (is_in fits.range v) fits.site in
    ap (λ (p : Passed). and_then (passing_of p env s) then_rest) is
    ∙ ap (λ (a : Action Argument). and_then (a s) then_rest) (passing-Value value fits env)
    ∙ and_then-and_then (value_of value env s) (λ v. test v >>= λ _. give (OfValue v)) then_rest
    ∙ and_then-same (value_of value env s) _ _ (λ v t. and_then-and_then (test v t) (λ _. give (OfValue v)) then_rest
    ∙ sym (and_then-and_then (test v t) (λ _. give v) (λ w. next (OfValue w ∷ operands))))

pub does-passed-Whole : (type_id : TypeId) (value : Whole) (indexes : Vec Expr Global) (given : Passed) → given ≡ passed.Whole type_id value indexes →
    (all : List Expr) → all ≡ indexes.items → (env : Surroundings) (next : Resumption) (operands : List Argument) (s : State) →
    and_then (passing_of given env s) (λ argument. next (argument ∷ operands)) ≡ giving_row (whole_of value (values_of all) env) next operands s
does-passed-Whole type_id value indexes given is all same env next operands s =
    let then_rest : Argument → Action (Unit {0}) = λ argument. next (argument ∷ operands) in
    ap (λ (p : Passed). and_then (passing_of p env s) then_rest) is
    ∙ ap (λ (a : Action Argument). and_then (a s) then_rest) (passing-Whole type_id value indexes env)
    ∙ and_then-and_then (whole_of value (values_of indexes.items) env s) (λ values. give (OfRow values)) then_rest
    ∙ ap (λ l. giving_row (whole_of value (values_of l) env) next operands s) (sym same)

pub does-passed-Reference : (type_id : TypeId) (access : Access) (indexes : Vec Expr Global) (given : Passed) →
    given ≡ passed.Reference type_id access indexes → (all : List Expr) → all ≡ indexes.items → (env : Surroundings) (next : Resumption)
    (operands : List Argument) (s : State) → and_then (passing_of given env s) (λ argument. next (argument ∷ operands)) ≡
    placing env access all next operands (entered access.number env s)
does-passed-Reference type_id access indexes given is all same env next operands s =
    let then_rest : Argument → Action (Unit {0}) = λ argument. next (argument ∷ operands) in
    let place : List Expr → Reply (Option Place) =
    λ l. selected access.selectors.items (values_of l) env (begun (origin_of access) env) (entered access.number env s) in
    ap (λ (p : Passed). and_then (passing_of p env s) then_rest) is
    ∙ ap (λ (a : Action Argument). and_then (a s) then_rest) (passing-Reference type_id access indexes env)
    ∙ and_then-and_then (place indexes.items) (λ p. give (OfPlace p)) then_rest
    ∙ ap (λ l. and_then (place l) (λ p. next (OfPlace p ∷ operands))) (sym same)

-- the set that designators make, with the members so far in hand
gathered-on : (env : Surroundings) (designators : List Designator) (members : List Expr) (next : Resumption) (set : ℕ) (operands : List Argument) (s : State) →
    and_then (gathered designators (values_of members) env set s) (λ more. next (OfValue (Members more) ∷ operands)) ≡
    gathering env designators members next (OfValue (Members set) ∷ operands) s
gathered-on env [] members next set operands s = refl
gathered-on env (Single site ∷ designators) [] next set operands s = refl
gathered-on env (Single site ∷ designators) (member ∷ members) next set operands s =
    let then_rest : ℕ → Action (Unit {0}) = λ more. next (OfValue (Members more) ∷ operands) in
    let others : ℕ → Action ℕ = λ more. gathered designators (values_of members) env more in
    and_then-and_then (value_of member env s) (λ v. with_one site v set >>= others) then_rest
    ∙ and_then-same (value_of member env s) _ _ (λ v t. and_then-and_then (with_one site v set t) others then_rest
    ∙ and_then-same (with_one site v set t) _ _ (λ more u. gathered-on env designators members next more operands u))
gathered-on env (Range site ∷ designators) [] next set operands s = refl
gathered-on env (Range site ∷ designators) (first ∷ []) next set operands s = refl
gathered-on env (Range site ∷ designators) (first ∷ last ∷ members) next set operands s =
    let then_rest : ℕ → Action (Unit {0}) = λ more. next (OfValue (Members more) ∷ operands) in
    let others : ℕ → Action ℕ = λ more. gathered designators (values_of members) env more in
    and_then-and_then (value_of first env s) (λ a. value_of last env >>= λ b. with_range site a b set >>= others) then_rest
    ∙ and_then-same (value_of first env s) _ _ (λ a t. and_then-and_then (value_of last env t) (λ b. with_range site a b set >>= others) then_rest
    ∙ and_then-same (value_of last env t) _ _ (λ b u. and_then-and_then (with_range site a b set u) others then_rest
    ∙ and_then-same (with_range site a b set u) _ _ (λ more w. gathered-on env designators members next more operands w)))

pub does-Set : (n : ℕ) (designators : Vec Designator Global) (members : Vec Expr Global) (given : Expr) → given ≡ expr.Set n designators members →
    (all : List Designator) → all ≡ designators.items → (each : List Expr) → each ≡ members.items →
    (env : Surroundings) (outer : Resumption) (works : List Work) (operands : List Argument) (s : State) →
    evaluated env outer given works operands s ≡ constructing env all each (pending_of env outer works) operands (entered n env s)
does-Set n designators members given is all same each alike env outer works operands s =
    let then_rest : Value → Action (Unit {0}) = λ v. pending_of env outer works (OfValue v ∷ operands) in
    let there = entered n env s in
    ap (λ (e : Expr). evaluated env outer e works operands s) is
    ∙ ap (λ (a : Action Value). and_then (a s) then_rest) (value-Set n designators members env)
    ∙ and_then-and_then (gathered designators.items (values_of members.items) env 0 there) (λ set. give (Members set)) then_rest
    ∙ gathered-on env designators.items members.items (pending_of env outer works) 0 operands there
    ∙ ap (λ (l : List Designator). constructing env l members.items (pending_of env outer works) operands there) (sym same)
    ∙ ap (λ (l : List Expr). constructing env all l (pending_of env outer works) operands there) (sym alike)

-- a with, and its records one after another
pub does-With : (head : WithHead) (body : Box Stmt Global) (given : Stmt) → given ≡ stmt.With head body → (all : List WithRecord) → all ≡ head.records.items →
    (inner : Stmt) → inner ≡ body.value → (env : Surroundings) (outer : Resumption) (works : List Work) (operands : List Argument) (s : State) →
    executed env outer given works operands s ≡ opening env all inner (pending_of env outer works) operands (entered head.number env s)
does-With head body given is all same inner alike env outer works operands s =
    let then_rest : Unit {0} → Action (Unit {0}) = λ _. pending_of env outer works operands in
    let there = entered head.number env s in
    executed-rolled (With-F head body) given (stmt.With head body) is (stmt.rolls-With head body) env outer works operands s
    ∙ and_then-and_then (opened head.records.items env there) (λ records. effect_of body.value (record env { records = records })) then_rest
    ∙ ap (λ (l : List WithRecord). opening env l body.value (pending_of env outer works) operands there) (sym same)
    ∙ ap (λ (e : Stmt). opening env all e (pending_of env outer works) operands there) (sym alike)

pub does-opening : (first : Bor WithRecord) (rest : Bor (List WithRecord)) (all : List WithRecord) → all ≡ first.now ∷ rest.now → (body : Bor (Box Stmt Global))
    (indexes : List Expr) → indexes ≡ first.now.indexes.items → (env : Surroundings) (next : Resumption) (operands : List Argument) (s : State) →
    opening env all body.now.value next operands s ≡
    accessing env first.now.access indexes (work.Within rest body) next operands (entered first.now.access.number env s)
does-opening first rest all is body indexes same env next operands s =
    let access = first.now.access in
    let there = entered access.number env s in
    let place : List Expr → Reply (Option Place) = λ l. selected access.selectors.items (values_of l) env (begun (origin_of access) env) there in
    let inside : List (Option Place) → Action (Unit {0}) =
    λ records. effect_of body.now.value (record env { records = records }) >>= λ _. next operands in
    ap (λ (l : List WithRecord). opening env l body.now.value next operands s) is
    ∙ and_then-and_then (place first.now.indexes.items) (λ p. opened rest.now (with_record env p)) inside
    ∙ ap (λ (l : List Expr). and_then (place l) (λ p. opened rest.now (with_record env p) >>= inside)) (sym same)

pub does-opened : (all : List WithRecord) → all ≡ [] → (body : Stmt) (env : Surroundings) (next : Resumption) (operands : List Argument) (s : State) →
    opening env all body next operands s ≡ and_then (effect_of body env s) (λ _. next operands)
does-opened all is body env next operands s = ap (λ (l : List WithRecord). opening env l body next operands s) is
