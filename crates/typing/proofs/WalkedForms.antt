-- Each constant, each expression and each statement goes a way.
use Rattle.std.proofs.Common.{◌≡◌, option_map, ℕ, suc, ◌+◌, ℤ, Bool, true, false, if◌then◌else◌, List, [], ◌∷◌, ◌++◌, map, Option, Some}
use Rattle.std.proofs.Common.{None, Vec, Ok, Err, ◌||◌, nat_eq, get_or, slice_get, refl, sym, ap, subst}
use Rattle.std.specs.List.{flat_map, list_any}
use Rattle.std.proofs.lemmas.Bool.{eq-eqb}
use Rattle.std.proofs.lemmas.Grind.{flat_map-append}
use Rattle.typed_tree.specs.WellFormed.{is_one_of}
use Rattle.std.specs.declared.alloc.Global.{Global}
use Rattle.place.specs.declared.Place.{Place}
use Rattle.syntax_tree.specs.declared.Name.{Name}
use Rattle.syntax_tree.specs.declared.Constant.{Constant}
use Rattle.syntax_tree.specs.declared.ConstantValue.{ConstantValue}
use Rattle.syntax_tree.specs.declared.ConstantValue.TheVariants as written_constant
use Rattle.syntax_tree.specs.declared.Direction.{Direction as SyntaxDirection}
use Rattle.syntax_tree.specs.declared.Operator.{Operator}
use Rattle.syntax_tree.specs.declared.Operator.TheVariants as op
use Rattle.syntax_tree.specs.declared.RelationalOperator.{RelationalOperator}
use Rattle.syntax_tree.specs.declared.Selector.{Selector}
use Rattle.syntax_tree.specs.declared.Selector.TheVariants as select
use Rattle.syntax_tree.specs.declared.Expr.{Expr}
use Rattle.syntax_tree.specs.declared.Link.{Link}
use Rattle.syntax_tree.specs.declared.Actual.{Actual}
use Rattle.syntax_tree.specs.declared.Expr.TheOpen as layer
use Rattle.syntax_tree.specs.declared.Expr.TheViews.{roll-Expr, roll-Link, roll-Actual}
use Rattle.syntax_tree.specs.declared.Expr.TheFolds.{map-Expr, map-Link, map-Actual, fold-roll-Expr, fold-roll-Link, fold-roll-Actual, ind-Expr, ind-Actual}
use Rattle.syntax_tree.specs.declared.Stmt.{Stmt}
use Rattle.syntax_tree.specs.declared.Stmt.TheOpen as stmt_layer
use Rattle.syntax_tree.specs.declared.Stmt.TheViews.{roll-Stmt}
use Rattle.syntax_tree.specs.declared.Stmt.TheFolds.{map-Stmt, fold-roll-Stmt, ind-Stmt}
use Rattle.syntax_tree.specs.Places.{arms_of, members_of}
use Rattle.syntax_tree.specs.declared.Designator.{Designator}
use Rattle.syntax_tree.specs.declared.Designator.TheVariants as designator
use Rattle.syntax_tree.specs.declared.RecordVariable.{RecordVariable}
use Rattle.types.specs.Forms.{Form}
use Rattle.types.specs.declared.form.TypeId.{TypeId}
use Rattle.types.specs.declared.form.TypeKind.{TypeKind}
use Rattle.types.specs.declared.form.TypeKind.TheVariants as kind_of_type
use Rattle.types.specs.Types.{is_string}
use Rattle.scopes.specs.declared.denotation.Denotation.{Denotation}
use Rattle.scopes.specs.declared.denotation.Denotation.TheVariants as denotes
use Rattle.scopes.specs.declared.denotation.FunctionOperation.{FunctionOperation}
use Rattle.scopes.specs.declared.denotation.FunctionOperation.TheVariants.{Calculates, Tests}
use Rattle.scopes.specs.declared.denotation.FunctionValue.{FunctionValue}
use Rattle.scopes.specs.declared.denotation.FunctionValue.TheVariants as function
use Rattle.scopes.specs.declared.denotation.RequiredProcedure.{RequiredProcedure}
use Rattle.scopes.specs.declared.denotation.File.{File}
use Rattle.scopes.specs.declared.denotation.File.TheVariants as file
use Rattle.scopes.specs.declared.denotation.InputFunction.{InputFunction}
use Rattle.scopes.specs.declared.denotation.InputFunction.TheVariants as asks
use Rattle.typed_tree.specs.declared.site.SiteKind.{SiteKind}
use Rattle.typed_tree.specs.declared.tree.Designator.{Designator as TreeDesignator}
use Rattle.typed_tree.specs.declared.tree.Dyadic.{Dyadic}
use Rattle.typed_tree.specs.declared.tree.Selector.{Selector as TreeSelector}
use Rattle.typed_tree.specs.Accesses.{Origin, index_count, root_of}
use Rattle.typed_tree.specs.declared.tree.Variable.{Variable}
use Rattle.typed_tree.specs.WellFormed.{is_variable_kind}
use Rattle.typed_tree.specs.declared.tree.Representation.{Representation}
use Rattle.typed_tree.specs.Look as Look
use Rattle.typed_tree.specs.Look.{Mark}
use Rattle.typing_rules.specs.declared.typed.Typed.{Typed}
use Rattle.typing_rules.specs.declared.typed.TypedValue.{TypedValue}
use Rattle.typing_rules.specs.declared.typed.TypedValue.TheVariants as value
use Rattle.typing.specs.Passing.{Passed, After, Passing, after, behind_marks, each, given, mark, pure, ◌>>=◌, ◌>>◌}
use Rattle.typing_rules.specs.Checked.{Checked, and_then}
use Rattle.typing.specs.Steps.{assign_result, close_record, enclosing_now, enter_as, heading_at, may_change, program_heading, variable_at}
use Rattle.typing_rules.specs.Checked.{or_mismatch}
use Rattle.typing.specs.Strings.{string_type, string_constant}
use Rattle.typing.specs.Constants as Constants
use Rattle.typing.specs.Functions as Functions
use Rattle.typing.specs.Expressions as Expressions
use Rattle.typing.specs.Expressions.{Denoted, Written, WrittenActual, WrittenLink, entire, expression, written_actual, written_link}
use Rattle.typing_rules.specs.Targets.{Copy, representation_of}
use Rattle.typing.specs.Statements as Statements
use Rattle.typing.specs.Statements.{WrittenVariable, statement, written_record}
use Rattle.typing.proofs.Ways.{Assigned, WayGoes, find_walks, targets_at, with_result}
use Rattle.typing.proofs.Ways.{Owner, Way, Walks, Tells, numbers_of, then_walks, test_walks, mark_walks, pure_walks, given_walks, enter_walks}
use Rattle.typing.proofs.Ways.{tells_then, tells_on, then_tells, pure_tells, given_tells, wants_file_walks}
use Rattle.typing.proofs.Ways.{test_tells, walk, add_type_walks, no_set_adds}
use Rattle.typing.proofs.Ways.{pass_walks, enter_loop_walks, for_body_walks, next_slot_walks, open_record_walks, close_record_walks}
use Rattle.typing_rules.specs.Typed.{typed}
use Rattle.typing_rules.specs.Denotations.{as_routine}

module _ (acts : Bool) (owner : Owner) (depth : ℕ) where
  -- ---- constants

  string_type_walks : (place : Place) (n : ℕ) → Walks (Way acts owner depth depth) (string_type place n)
  unfolding string_type
  string_type_walks place n =
      then_walks (given_walks _) λ last.
      then_walks (add_type_walks place _ (no_set_adds owner _ tt)) λ index.
      add_type_walks place _ (no_set_adds owner _ tt)

  string_constant_walks : (place : Place) (cs : List ℕ) → Walks (Way acts owner depth depth) (string_constant place cs)
  unfolding string_constant
  string_constant_walks place [] = search (walk, string_type_walks)
  string_constant_walks place (c ∷ []) = search walk
  string_constant_walks place (c ∷ d ∷ cs) = search (walk, string_type_walks)

  unsigned_walks : (value : ConstantValue) → Walks (Way acts owner depth depth) (Constants.unsigned_constant value)
  unfolding Constants.unsigned_constant
  unsigned_walks (written_constant.Number value place) = search walk
  unsigned_walks (written_constant.String text place) = search (walk, string_constant_walks)
  unsigned_walks (written_constant.Name name) = search walk

  pub constant_walks : (c : Constant) → Walks (Way acts owner depth depth) (Constants.constant c)
  unfolding Constants.constant
  constant_walks c = search (walk, unsigned_walks)

  pub ordinal_constant_walks : (c : Constant) → Walks (Way acts owner depth depth) (Constants.ordinal_constant c)
  unfolding Constants.ordinal_constant
  ordinal_constant_walks c = search (walk, constant_walks)

-- ---- targets

-- what comes behind the variable left of `:=`
abbrev pub access_typing : Name → List Selector → List Written → Denoted → Passing Statements.Accessed
access_typing name selectors ws variable = do
  may_change name.place (root_of variable.origin)
  enter_as Look.Access
  component ← Expressions.selected variable.selectors variable.type_id selectors ws
  found ← Expressions.kind_now component.1
  mark (Statements.target_mark found variable.origin component.0 component.1)
  pure (record { origin = variable.origin; selectors = component.0; type_id = component.1 })

-- a variable is told as assigned
abbrev pub IsTold : ℕ → Look.Look → Passed → Passed → Type 0
IsTold root look old new = list_any (nat_eq root) (flat_map targets_at look) ≡ true

any_second : (xs ys : List ℕ) (root : ℕ) → list_any (nat_eq root) ys ≡ true → list_any (nat_eq root) (xs ++ ys) ≡ true
any_second [] ys root is = is
any_second (x ∷ xs) ys root is = by (nat_eq root x) (any_second xs ys root is)
  where
    by : (test : Bool) → list_any (nat_eq root) (xs ++ ys) ≡ true → (test || list_any (nat_eq root) (xs ++ ys)) ≡ true
    by true more = refl
    by false more = more

told_behind : {A B : Type 0} (root : ℕ) (p : Passing A) (f : A → Passing B) → ((a : A) → Walks (IsTold root) (f a)) → Walks (IsTold root) (p >>= f)
told_behind {A} {B} root p f rest = record { walks = λ old. by old (p old) }
  where
    behind : (old between : Passed) (look : Look.Look) (outcome : Checked (After B)) → WayGoes (IsTold root) between outcome
        → WayGoes (IsTold root) old (behind_marks look outcome)
    behind old between look (Ok b) told =
        subst (λ l. list_any (nat_eq root) l ≡ true) (sym (flat_map-append targets_at look b.look))
        (any_second (flat_map targets_at look) (flat_map targets_at b.look) root told)
    behind old between look (Err why) told = tt

    by : (old : Passed) (outcome : Checked (After A))
        → WayGoes (IsTold root) old (and_then outcome (λ a. behind_marks a.look (f a.answer a.passed)))
    by old (Ok a) = behind old a.passed a.look (f a.answer a.passed) ((rest a.answer).walks a.passed)
    by old (Err why) = tt

pub access_told : (name : Name) (selectors : List Selector) (ws : List Written) (variable : Denoted)
    → Walks (IsTold (root_of variable.origin)) (access_typing name selectors ws variable)
access_told name selectors ws variable =
    told_behind (root_of variable.origin) (may_change name.place (root_of variable.origin)) _ λ _.
    told_behind (root_of variable.origin) (enter_as Look.Access) _ λ _.
    told_behind (root_of variable.origin) (Expressions.selected variable.selectors variable.type_id selectors ws) _ λ component.
    told_behind (root_of variable.origin) (Expressions.kind_now component.1) _ λ found.
    last component found
  where
    its : list_any (nat_eq (root_of variable.origin)) (root_of variable.origin ∷ []) ≡ true
    its = ap (λ b. b || false) (eq-eqb (root_of variable.origin) (root_of variable.origin) refl)

    last : (component : List TreeSelector × TypeId) (found : Option TypeKind)
        → Walks (IsTold (root_of variable.origin)) (mark (Statements.target_mark found variable.origin component.0 component.1)
        >> pure {A = Statements.Accessed} (record { origin = variable.origin; selectors = component.0; type_id = component.1 }))
    last component (Some kind_of_type.Structured) = record { walks = λ old. its }
    last component (Some (kind_of_type.Set base members)) = record { walks = λ old. its }
    last component (Some (kind_of_type.Ordinal range)) = record { walks = λ old. its }
    last component None = record { walks = λ old. its }

-- the result of a function, inside its block, is assigned, and nothing else changes
pub record AssignsResult (place : Place) (block : ℕ) (s : Passed) (a : After (ℕ × TypeId)) : Type 0 where
  pub root : ℕ
  pub type_id : TypeId
  pub inside : is_one_of (s.enclosing.block ∷ s.enclosing.around) block ≡ true
  pub result : (get_or s.headings block program_heading).result ≡ Some root
  pub found : Statements.or_no_variable place (slice_get s.variables root) ≡ Ok type_id
  pub is : after (root, type_id) [] (with_result root s) ≡ a

pub function_target_is : (place : Place) (block : ℕ) (s : Passed) (a : After (ℕ × TypeId)) → Statements.function_target place block s ≡ Ok a
    → AssignsResult place block s a
unfolding Statements.function_target enclosing_now heading_at variable_at assign_result
function_target_is place block s a is =
    by (is_one_of (s.enclosing.block ∷ s.enclosing.around) block) refl (get_or s.headings block program_heading).result refl is
  where
    found : (root : ℕ) (checked : Checked TypeId) → Statements.or_no_variable place (slice_get s.variables root) ≡ checked
        → is_one_of (s.enclosing.block ∷ s.enclosing.around) block ≡ true → (get_or s.headings block program_heading).result ≡ Some root
        → behind_marks [] (behind_marks [] (behind_marks [] (behind_marks [] (and_then (and_then checked (λ id. Ok (after id [] (with_result root s))))
        (λ b. behind_marks b.look (pure {A = ℕ × TypeId} (root, b.answer) b.passed)))))) ≡ Ok a
        → AssignsResult place block s a
    found root (Ok id) there inside result h = record { root = root; type_id = id; inside = inside; result = result; found = there; is = cc }
    found root (Err why) there inside result h = absurd cc

    by : (inside : Bool) → is_one_of (s.enclosing.block ∷ s.enclosing.around) block ≡ inside → (result : Option ℕ)
        → (get_or s.headings block program_heading).result ≡ result
        → behind_marks [] (behind_marks [] ((Statements.result_target place inside result >>= (λ root. variable_at root
        >>= (λ found. given (Statements.or_no_variable place found) >>= (λ id. pure {A = ℕ × TypeId} (root, id))))) s)) ≡ Ok a
        → AssignsResult place block s a
    by true inside (Some root) result h = found root (Statements.or_no_variable place (slice_get s.variables root)) refl inside result h
    by true inside None result h = absurd cc
    by false inside result is_result h = absurd cc

module _ (owner : Owner) (depth : ℕ) where
  abbrev pub Goes_by : {A : Type 0} → Passing A → Type 0
  Goes_by p = Walks (Way true owner depth depth) p

  abbrev Tells_by : {A : Type 0} → Passing A → (A → Type 0) → Type 0
  Tells_by p Says = Tells (Way true owner depth depth) p Says

  -- ---- expressions

  -- an expression, however it is passed
  pub record WrittenWalks (w : Written) : Type 0 where
    pub typing : (lead : Option SiteKind) → Goes_by (w.typing lead)
    pub passing : (wanted : TypeId) (callee position : ℕ) → Goes_by (w.passing wanted callee position)
    pub reading : Goes_by w.reading
    pub file : Goes_by w.file

  abbrev pub WidthWalks : Option Written → Type 0
  WidthWalks None = Unit {0}
  WidthWalks (Some w) = WrittenWalks w

  pub record ActualWalks (a : WrittenActual) : Type 0 where
    pub value : WrittenWalks a.value
    pub width : WidthWalks a.width

  abbrev pub LinkWalks : WrittenLink → Type 0
  LinkWalks l = (left : Typed) → Goes_by (l left)

  abbrev pub AllWalk : List Written → Type 0
  AllWalk [] = Unit {0}
  AllWalk (w ∷ ws) = WrittenWalks w × AllWalk ws

  abbrev pub ActualsWalk : List WrittenActual → Type 0
  ActualsWalk [] = Unit {0}
  ActualsWalk (a ∷ actuals) = ActualWalks a × ActualsWalk actuals

  abbrev pub LinksWalk : List WrittenLink → Type 0
  LinksWalk [] = Unit {0}
  LinksWalk (l ∷ ls) = LinkWalks l × LinksWalk ls

  behind_walks : (lead : Option SiteKind) (place : Place) → Goes_by (Expressions.behind lead place)
  unfolding Expressions.behind
  behind_walks None place = search walk
  behind_walks (Some kind) place = search walk

  spelled_walks : (place : Place) (id : Option ℕ) (cs : List ℕ) → Goes_by (Expressions.spelled place id cs)
  unfolding Expressions.spelled
  spelled_walks place id [] = search (walk, string_type_walks true owner depth)
  spelled_walks place id (c ∷ []) = search walk
  spelled_walks place id (c ∷ d ∷ cs) = search (walk, string_type_walks true owner depth)

  string_walks : (text : List ℕ) (place : Place) (lead : Option SiteKind) → Goes_by (Expressions.string text place lead)
  unfolding Expressions.string
  string_walks text place lead = search (walk, behind_walks, spelled_walks)

  pub selected_walks : (before : List TreeSelector) (type_id : TypeId) (selectors : List Selector) (ws : List Written) → AllWalk ws
      → Goes_by (Expressions.selected before type_id selectors ws)
  unfolding Expressions.index
  selected_walks before type_id [] ws laws = search walk
  selected_walks before type_id (select.Field name ∷ selectors) ws laws =
      let more = λ (before : List TreeSelector) (type_id : TypeId). selected_walks before type_id selectors ws laws in search (walk, more)
  selected_walks before type_id (select.Index place joined ∷ selectors) [] laws = search walk
  selected_walks before type_id (select.Index place joined ∷ selectors) (w ∷ ws) laws =
      let more = λ (before : List TreeSelector) (type_id : TypeId). selected_walks before type_id selectors ws laws.1 in
      search (walk, more, laws.0.typing) depth 8

  value_walks : (found : Option TypeKind) (origin : Origin) (selectors : List TreeSelector) (type_id : TypeId) (defined : ℕ) (lead : Option ℕ)
      → Goes_by (Expressions.value_of_kind found origin selectors type_id defined lead)
  unfolding Expressions.ordinal_value Expressions.set_value Expressions.whole_value
  value_walks (Some kind_of_type.Structured) origin selectors type_id defined lead = search walk
  value_walks (Some (kind_of_type.Set base members)) origin selectors type_id defined lead = search walk
  value_walks (Some (kind_of_type.Ordinal range)) origin selectors type_id defined lead = search walk
  value_walks None origin selectors type_id defined lead = search walk

  accessed_walks : (variable : Denoted) (selectors : List Selector) (ws : List Written) (place : Place) (lead : Option SiteKind) → AllWalk ws
      → Goes_by (Expressions.accessed variable selectors ws place lead)
  unfolding Expressions.accessed Expressions.kind_now
  accessed_walks variable selectors ws place lead laws = search (walk, behind_walks, selected_walks, value_walks) depth 12

  pub variable_of_walks : (place : Place) (d : Denotation) → Goes_by (Expressions.variable_of place d)
  variable_of_walks place (denotes.Field slot position offset type_id) = search walk
  variable_of_walks place other = search walk

  read_variable_walks : (name : Name) (selectors : List Selector) (ws : List Written) → AllWalk ws
      → Goes_by (Expressions.read_variable name selectors ws)
  unfolding Expressions.read_variable
  read_variable_walks name selectors ws laws = search (walk, variable_of_walks, selected_walks) depth 14

  file_walks : (name : Name) (selectors : List Selector) → Goes_by (Expressions.file_named name selectors)
  unfolding Expressions.file_named
  file_walks name [] = search walk
  file_walks name (selector ∷ selectors) = search walk

  passed_variable_walks : (name : Name) (selectors : List Selector) (ws : List Written) (wanted : TypeId) (callee position : ℕ) → AllWalk ws
      → Goes_by (Expressions.passed_variable name selectors ws wanted callee position)
  unfolding Expressions.passed_variable
  passed_variable_walks name selectors ws wanted callee position laws = search (walk, variable_of_walks, selected_walks) depth 12

  passed_value_walks : (type_id : TypeId) (w : Written) (callee position : ℕ) → WrittenWalks w → Goes_by (Expressions.passed_value type_id w callee position)
  unfolding Expressions.passed_value Expressions.kind_now Expressions.passed_ordinal Expressions.passed_set Expressions.passed_whole
  passed_value_walks type_id w callee position law = search (walk, by)
    where
      by : (found : Option TypeKind) → Goes_by (Expressions.passed_by_kind found type_id w callee position)
      by (Some kind_of_type.Structured) = search (walk, law.typing)
      by (Some (kind_of_type.Set base members)) = search (walk, law.typing)
      by (Some (kind_of_type.Ordinal range)) = search (walk, law.typing)
      by None = search (walk, law.typing)

  passed_to_walks : (formal : Option Variable) (w : Written) (callee position : ℕ) → WrittenWalks w → Goes_by (Expressions.passed_to formal w callee position)
  passed_to_walks None w callee position law = search walk
  passed_to_walks (Some formal) w callee position law = by (is_variable_kind formal.kind)
    where
      by : (variable : Bool) → Goes_by ((if variable then w.passing formal.type_id else Expressions.passed_value formal.type_id w) callee position)
      by true = law.passing formal.type_id callee position
      by false = passed_value_walks formal.type_id w callee position law

  actual_walks : (a : WrittenActual) (root callee position : ℕ) → ActualWalks a → Goes_by (Expressions.actual a root callee position)
  unfolding Expressions.actual
  actual_walks a root callee position law = search (walk, passed_to_walks, law.value)

  actuals_walk : (roots : List ℕ) (actuals : List WrittenActual) (callee position : ℕ) → ActualsWalk actuals
      → Goes_by (Expressions.actuals_for roots actuals callee position)
  actuals_walk [] actuals callee position laws = search walk
  actuals_walk (root ∷ roots) [] callee position laws = search walk
  actuals_walk (root ∷ roots) (a ∷ actuals) callee position laws =
      then_walks (actual_walks a root callee position laws.0) (λ _. actuals_walk roots actuals callee (position + 1) laws.1)

  routine_call_walks : (is_function : Bool) (callee : ℕ) (place : Place) (actuals : List WrittenActual) → ActualsWalk actuals
      → Goes_by (Expressions.routine_call is_function callee place actuals)
  unfolding Expressions.routine_call
  routine_call_walks is_function callee place actuals laws = search (walk, actuals_walk) depth 12

  result_variable_walks : (root : Option ℕ) → Goes_by (Expressions.result_variable root)
  result_variable_walks None = search walk
  result_variable_walks (Some root) = search walk

  function_value_walks : (callee : ℕ) (is_function : Bool) (place : Place) (actuals : List WrittenActual) (lead : Option SiteKind) → ActualsWalk actuals
      → Goes_by (Expressions.function_value callee is_function place actuals lead)
  unfolding Expressions.function_value
  function_value_walks callee false place actuals lead laws = search walk
  function_value_walks callee true place actuals lead laws = search (walk, behind_walks, routine_call_walks, result_variable_walks) depth 12

  input_test_walks : (function : InputFunction) (place : Place) → Goes_by (Expressions.input_test function place)
  unfolding Expressions.input_test
  input_test_walks asks.Eof place = search walk
  input_test_walks asks.Eoln place = search walk

  input_walks : (function : InputFunction) (place : Place) (lead : Option SiteKind) → Goes_by (Expressions.input_value function place lead)
  unfolding Expressions.input_value
  input_walks function place lead = search (walk, behind_walks, input_test_walks) depth 14

  denoted_walks : (d : Denotation) (place : Place) (lead : Option SiteKind) → Goes_by (Expressions.denoted d place lead)
  unfolding Expressions.denoted
  denoted_walks (denotes.Constant value type_id) place lead = search (walk, behind_walks)
  denoted_walks (denotes.Text number type_id) place lead = search (walk, behind_walks)
  denoted_walks (denotes.Variable root type_id) place lead = accessed_walks (entire root type_id) [] [] place lead tt
  denoted_walks (denotes.Field slot position offset type_id) place lead =
      then_walks (variable_of_walks place (denotes.Field slot position offset type_id)) (λ variable. accessed_walks variable [] [] place lead tt)
  denoted_walks (denotes.Routine block is_function) place lead = function_value_walks block is_function place [] lead tt
  denoted_walks (denotes.InputFunction function) place lead = input_walks function place lead
  denoted_walks other place lead = search walk

  operation_walks : (operator : Operator) (place : Place) → Goes_by (Expressions.operation operator place)
  unfolding Expressions.operation Expressions.tested
  operation_walks op.Plus place = search walk
  operation_walks other place = search walk

  operation_or_walks : (does : Option Dyadic) (operator : Operator) (place : Place) → Goes_by (Expressions.operation_or does operator place)
  unfolding Expressions.operation_or
  operation_or_walks None operator place = operation_walks operator place
  operation_or_walks (Some does) operator place = search walk

  link_walks : (operator : Operator) (place : Place) (w : Written) → WrittenWalks w → LinkWalks (Expressions.link operator place w)
  unfolding Expressions.link
  link_walks operator place w law left = search (walk, operation_or_walks, law.typing) depth 12

  links_walk : (left : Typed) (ls : List WrittenLink) → LinksWalk ls → Goes_by (Expressions.links left ls)
  links_walk left [] laws = search walk
  links_walk left (l ∷ ls) laws = then_walks (laws.0 left) (λ t. links_walk t ls laws.1)

  chain_walks : (w : Written) (ls : List WrittenLink) (lead : Option SiteKind) → WrittenWalks w → LinksWalk ls → Goes_by (Expressions.chain w ls lead)
  unfolding Expressions.chain
  chain_walks w ls lead law laws = search (walk, law.typing, links_walk) depth 12

  compares_walks : (left right : Option Copy) → Goes_by (Expressions.compares left right)
  unfolding Expressions.compares
  compares_walks (Some left) (Some right) = search walk
  compares_walks left right = search walk

  relation_walks : (left : Written) (operator : RelationalOperator) (place : Place) (right : Written) (lead : Option SiteKind) → WrittenWalks left
      → WrittenWalks right → Goes_by (Expressions.relation left operator place right lead)
  unfolding Expressions.relation
  relation_walks left operator place right lead law behind = search (walk, law.typing, behind.typing, compares_walks) depth 20

  -- ---- set constructors

  abbrev pub MembersWalk : List (Written × Option Written) → Type 0
  MembersWalk [] = Unit {0}
  MembersWalk (m ∷ ms) = WrittenWalks m.0 × WidthWalks m.1 × MembersWalk ms

  member_walks : (host : Option TypeId) (first : Written) (last : Option Written) → WrittenWalks first → WidthWalks last
      → Goes_by (Expressions.member host first last)
  unfolding Expressions.member Expressions.first_member Expressions.last_member
  member_walks host first None law other = search (walk, law.typing)
  member_walks host first (Some last) law other = search (walk, law.typing, other.typing) depth 12

  members_walk : (made : List TreeDesignator) (host : Option TypeId) (ms : List (Written × Option Written)) → MembersWalk ms
      → Goes_by (Expressions.members made host ms)
  members_walk made host [] laws = search walk
  members_walk made host (m ∷ ms) laws =
      then_walks (member_walks host m.0 m.1 laws.0 laws.1) (λ one. members_walk (made ++ one.0 ∷ []) (Some one.1) ms laws.2)

  constructed_walks : (place : Place) (ms : List (Written × Option Written)) (lead : Option SiteKind) → MembersWalk ms
      → Goes_by (Expressions.constructed place ms lead)
  unfolding Expressions.constructed
  constructed_walks place ms lead laws = search (walk, behind_walks, members_walk) depth 12

  calculation_walks : (calculated : FunctionValue) (place : Place) → Goes_by (Functions.calculation_of calculated place)
  unfolding Functions.calculation_of
  calculation_walks function.Same place = search walk
  calculation_walks other place = search walk

  begins_as_walks : (operation : FunctionOperation) (place : Place) → Goes_by (Functions.begins_as operation place)
  unfolding Functions.begins_as
  begins_as_walks (Calculates calculated) place = search (walk, calculation_walks)
  begins_as_walks (Tests tested) place = search walk

  -- the one actual of a required function
  only_walks : (place : Place) (actuals : List WrittenActual) → ActualsWalk actuals → (w : Written) → Expressions.only place actuals ≡ Ok w → WrittenWalks w
  only_walks place [] laws w is = absurd cc
  only_walks place (a ∷ b ∷ actuals) laws w is = absurd cc
  only_walks place (a ∷ []) laws w is = by a.value a.width is laws.0.value
    where
      by : (value : Written) (width : Option Written) → Expressions.without_width place value width ≡ Ok w → WrittenWalks value → WrittenWalks w
      by value None h law = let same : value ≡ w = cc in subst WrittenWalks same law
      by value (Some other) h law = absurd cc

  required_call_walks : (d : Denotation) (name : Name) (actuals : List WrittenActual) (lead : Option SiteKind) → ActualsWalk actuals
      → Goes_by (Expressions.required_call d name actuals lead)
  unfolding Expressions.required_call
  required_call_walks d name actuals lead laws =
      then_walks (given_walks _) λ f.
      then_walks (begins_as_walks f.does name.place) λ operation.
      then_walks (behind_walks lead name.place) λ id.
      then_walks (enter_walks _ (λ n. refl)) λ _.
      tells_then (given_tells WrittenWalks _ (only_walks name.place actuals laws)) λ w law.
      then_walks (test_walks _ (law.typing None)) λ does.
      then_walks (mark_walks (Look.Applied does.0) refl) λ _.
      pure_walks (typed does.1 id)

  input_call_walks : (function : InputFunction) (place : Place) (actuals : List WrittenActual) (lead : Option SiteKind) → ActualsWalk actuals
      → Goes_by (Expressions.input_call function place actuals lead)
  unfolding Expressions.input_call
  input_call_walks function place actuals lead laws =
      tells_then (given_tells WrittenWalks _ (only_walks place actuals laws)) λ w law.
      then_walks law.file λ named.
      then_walks (given_walks _) λ _.
      input_walks function place lead

  call_by_walks : (d : Denotation) (name : Name) (actuals : List WrittenActual) (lead : Option SiteKind) → ActualsWalk actuals
      → Goes_by (Expressions.call_by d name actuals lead)
  call_by_walks (denotes.Routine block is_function) name actuals lead laws = function_value_walks block is_function name.place actuals lead laws
  call_by_walks (denotes.InputFunction function) name actuals lead laws = input_call_walks function name.place actuals lead laws
  call_by_walks d name actuals lead laws = required_call_walks d name actuals lead laws

  -- ---- every expression

  written_walks : (place : Place) (typing : Option SiteKind → Passing Typed) → ((lead : Option SiteKind) → Goes_by (typing lead))
      → WrittenWalks (Expressions.written place typing)
  unfolding Expressions.no_variable Expressions.not_readable
  written_walks place typing walks = record {
    typing = walks;
    passing = λ wanted callee position. search walk;
    reading = search walk;
    file = search walk;
  }

  variable_walks : (name : Name) (selectors : List Selector) (ws : List Written) (typing : Option SiteKind → Passing Typed) → AllWalk ws
      → ((lead : Option SiteKind) → Goes_by (typing lead)) → WrittenWalks (Expressions.written_variable name selectors ws typing)
  variable_walks name selectors ws typing laws walks = record {
    typing = walks;
    passing = λ wanted callee position. passed_variable_walks name selectors ws wanted callee position laws;
    reading = read_variable_walks name selectors ws laws;
    file = file_walks name selectors;
  }

  abbrev ExprWalks : Expr → Type 0
  ExprWalks w = WrittenWalks (expression w)

  abbrev ActualOfWalks : Actual → Type 0
  ActualOfWalks w = ActualWalks (written_actual w)

  abbrev LinkOfWalks : Link → Type 0
  LinkOfWalks w = LinkWalks (written_link w)

  abbrev WithExpr : Type 0
  WithExpr = (w : Expr) × ExprWalks w

  abbrev WithActual : Type 0
  WithActual = (w : Actual) × ActualOfWalks w

  abbrev WithLink : Type 0
  WithLink = (w : Link) × LinkOfWalks w

  abbrev bare : layer.Expr-F WithExpr WithActual WithLink → layer.Expr-F Expr Actual Link
  bare y = map-Expr WithExpr WithActual WithLink Expr Actual Link (λ w. w.0) (λ w. w.0) (λ w. w.0) y

  abbrev bare_actual : layer.Actual-F WithExpr WithActual WithLink → layer.Actual-F Expr Actual Link
  bare_actual y = map-Actual WithExpr WithActual WithLink Expr Actual Link (λ w. w.0) (λ w. w.0) (λ w. w.0) y

  abbrev bare_link : layer.Link-F WithExpr WithActual WithLink → layer.Link-F Expr Actual Link
  bare_link y = map-Link WithExpr WithActual WithLink Expr Actual Link (λ w. w.0) (λ w. w.0) (λ w. w.0) y

  from_layer : (d : layer.Expr-F Expr Actual Link)
      → WrittenWalks (Expressions.expression_step (map-Expr Expr Actual Link Written WrittenActual WrittenLink expression written_actual written_link d))
      → ExprWalks (roll-Expr d)
  from_layer d law =
      subst WrittenWalks
      (sym (fold-roll-Expr Written WrittenActual WrittenLink Expressions.expression_step Expressions.actual_step Expressions.link_step d)) law

  all_walk : (ys : List WithExpr) → AllWalk (map expression (map (λ (y : WithExpr). y.0) ys))
  all_walk [] = tt
  all_walk (y ∷ ys) = (y.1, all_walk ys)

  all_actuals : (ys : List WithActual) → ActualsWalk (map written_actual (map (λ (y : WithActual). y.0) ys))
  all_actuals [] = tt
  all_actuals (y ∷ ys) = (y.1, all_actuals ys)

  all_members : (ds : List Designator) (ys : List WithExpr) → MembersWalk (members_of ds (map expression (map (λ (y : WithExpr). y.0) ys)))
  all_members [] ys = tt
  all_members (designator.Single ∷ ds) [] = tt
  all_members (designator.Single ∷ ds) (y ∷ ys) = (y.1, tt, all_members ds ys)
  all_members (designator.Range ∷ ds) [] = tt
  all_members (designator.Range ∷ ds) (y ∷ []) = tt
  all_members (designator.Range ∷ ds) (y ∷ z ∷ ys) = (y.1, z.1, all_members ds ys)

  all_links : (ys : List WithLink) → LinksWalk (map written_link (map (λ (y : WithLink). y.0) ys))
  all_links [] = tt
  all_links (y ∷ ys) = (y.1, all_links ys)

  expression_layer : (y : layer.Expr-F WithExpr WithActual WithLink) → ExprWalks (roll-Expr (bare y))
  unfolding Expressions.number Expressions.named Expressions.component Expressions.call Expressions.parenthesized Expressions.prefixed
  expression_layer (layer.Number value place) = from_layer (layer.Number value place) (written_walks place _ (λ lead. search (walk, behind_walks)))
  expression_layer (layer.Name name) = from_layer (layer.Name name) (variable_walks name [] [] _ tt (λ lead. search (walk, denoted_walks)))
  expression_layer (layer.Component name selectors indexes) =
      from_layer (bare (layer.Component name selectors indexes))
      (variable_walks name selectors.items _ _ (all_walk indexes.items)
      (λ lead. then_walks (find_walks name) λ d. then_walks (variable_of_walks name.place d) λ v. accessed_walks v selectors.items _ name.place lead
      (all_walk indexes.items)))
  expression_layer (layer.String text place) = from_layer (layer.String text place) (written_walks place _ (string_walks text.now place))
  expression_layer (layer.Call name actuals) =
      from_layer (bare (layer.Call name actuals))
      (written_walks name.place _ (λ lead. then_walks (find_walks name) λ d. call_by_walks d name _ lead
      (all_actuals actuals.items)))
  expression_layer (layer.Parenthesized place inner) =
      from_layer (bare (layer.Parenthesized place inner)) (written_walks place _ (λ lead. search (walk, behind_walks, inner.value.1.typing)))
  expression_layer (layer.Not place operand) =
      from_layer (bare (layer.Not place operand)) (written_walks place _ (λ lead. search (walk, behind_walks, operand.value.1.typing) depth 12))
  expression_layer (layer.Signed s place term) =
      from_layer (bare (layer.Signed s place term)) (written_walks place _ (λ lead. search (walk, behind_walks, term.value.1.typing) depth 12))
  expression_layer (layer.Chain first rest) =
      from_layer (bare (layer.Chain first rest)) (written_walks _ _ (λ lead. chain_walks _ _ lead first.value.1 (all_links rest.items)))
  expression_layer (layer.Relation left operator place right) =
      from_layer (bare (layer.Relation left operator place right))
      (written_walks _ _ (λ lead. relation_walks _ operator place _ lead left.value.1 right.value.1))
  expression_layer (layer.Set place designators values) =
      from_layer (bare (layer.Set place designators values))
      (written_walks place _ (λ lead. constructed_walks place _ lead (all_members designators.items values.items)))

  abbrev width_form : WithExpr → Option WithExpr → Option Written
  width_form value width =
      let d = bare_actual (record { value = value; width = width }) in
      (map-Actual Expr Actual Link Written WrittenActual WrittenLink expression written_actual written_link d).width

  width_law : (value : WithExpr) (width : Option WithExpr) → WidthWalks (width_form value width)
  width_law value None = tt
  width_law value (Some w) = w.1

  actual_layer : (y : layer.Actual-F WithExpr WithActual WithLink) → ActualOfWalks (roll-Actual (bare_actual y))
  actual_layer y =
      subst ActualWalks
      (sym (fold-roll-Actual Written WrittenActual WrittenLink Expressions.expression_step Expressions.actual_step Expressions.link_step (bare_actual y)))
      (record { value = y.value.1; width = width_law y.value y.width })

  link_layer : (y : layer.Link-F WithExpr WithActual WithLink) → LinkOfWalks (roll-Link (bare_link y))
  link_layer y =
      subst LinkWalks
      (sym (fold-roll-Link Written WrittenActual WrittenLink Expressions.expression_step Expressions.actual_step Expressions.link_step (bare_link y)))
      (link_walks y.operator y.place _ y.operand.1)

  pub expression_walks : (w : Expr) → ExprWalks w
  expression_walks =
      ind-Expr ExprWalks ActualOfWalks LinkOfWalks
      (λ x y is. subst (λ z. ExprWalks (roll-Expr z)) is (expression_layer y))
      (λ x y is. subst (λ z. ActualOfWalks (roll-Actual z)) is (actual_layer y))
      (λ x y is. subst (λ z. LinkOfWalks (roll-Link z)) is (link_layer y))

  pub written_actual_walks : (w : Actual) → ActualOfWalks w
  written_actual_walks =
      ind-Actual ExprWalks ActualOfWalks LinkOfWalks
      (λ x y is. subst (λ z. ExprWalks (roll-Expr z)) is (expression_layer y))
      (λ x y is. subst (λ z. ActualOfWalks (roll-Actual z)) is (actual_layer y))
      (λ x y is. subst (λ z. LinkOfWalks (roll-Link z)) is (link_layer y))

  indexes_walk : (ws : List Expr) → AllWalk (map expression ws)
  indexes_walk [] = tt
  indexes_walk (w ∷ ws) = (expression_walks w, indexes_walk ws)

  every_actual : (ws : List Actual) → ActualsWalk (map written_actual ws)
  every_actual [] = tt
  every_actual (w ∷ ws) = (written_actual_walks w, every_actual ws)

  -- ---- statements

  target_mark_walks : (found : Option TypeKind) (origin : Origin) (selectors : List TreeSelector) (id : TypeId)
      → Goes_by (mark (Statements.target_mark found origin selectors id))
  target_mark_walks (Some kind_of_type.Structured) origin selectors id = search walk
  target_mark_walks (Some (kind_of_type.Set base members)) origin selectors id = search walk
  target_mark_walks (Some (kind_of_type.Ordinal range)) origin selectors id = search walk
  target_mark_walks None origin selectors id = search walk

  access_walks : (name : Name) (selectors : List Selector) (ws : List Written) → AllWalk ws → (variable : Denoted)
      → Goes_by (access_typing name selectors ws variable)
  unfolding Expressions.kind_now
  access_walks name selectors ws laws variable = search (walk, selected_walks, target_mark_walks) depth 12

  target_walks : (name : Name) (selectors : List Selector) (ws : List Written) → AllWalk ws → Goes_by (Statements.target name selectors ws)
  unfolding Statements.target
  target_walks name selectors ws laws = then_walks (find_walks name) (λ d. by d (as_routine d) selectors)
    where
      result_goes : (old : Passed) (variable : ℕ × TypeId) (outcome : Checked (After Statements.Accessed))
          → WayGoes (Way true owner depth depth) (with_result variable.0 old) outcome → WayGoes (IsTold variable.0) (with_result variable.0 old) outcome
          → WayGoes (Way true owner depth depth) old (behind_marks [] outcome)
      result_goes old variable (Ok b) way told = Assigned variable.0 way told
      result_goes old variable (Err why) way told = tt

      result_walks : (block : ℕ) (old : Passed) (outcome : Checked (After (ℕ × TypeId))) → Statements.function_target name.place block old ≡ outcome
          → WayGoes (Way true owner depth depth) old
          (and_then (and_then outcome (λ v. behind_marks v.look (pure (entire v.answer.0 v.answer.1) v.passed)))
          (λ v. behind_marks v.look (access_typing name selectors ws v.answer v.passed)))
      result_walks block old (Err why) is = tt
      result_walks block old (Ok v) is =
          let assigns = function_target_is name.place block old v is in
          let variable : Denoted = entire assigns.root assigns.type_id in
          let start = with_result assigns.root old in
          subst (λ (u : After (ℕ × TypeId)). WayGoes (Way true owner depth depth) old
          (behind_marks (u.look ++ []) (access_typing name selectors ws (entire u.answer.0 u.answer.1) u.passed)))
          assigns.is
          (result_goes old (assigns.root, assigns.type_id) (access_typing name selectors ws variable start)
          ((access_walks name selectors ws laws variable).walks start)
          ((access_told name selectors ws variable).walks start))

      by : (d : Denotation) (routine : Option (ℕ × Bool)) (others : List Selector)
          → Goes_by (Statements.target_of routine others name.place d >>= access_typing name selectors ws)
      by d None others = then_walks (variable_of_walks name.place d) (access_walks name selectors ws laws)
      by d (Some routine) (selector ∷ others) = then_walks (variable_of_walks name.place d) (access_walks name selectors ws laws)
      by d (Some routine) [] = record {
        walks = λ old. result_walks routine.0 old (Statements.function_target name.place routine.0 old) refl;
      }

  becomes_walks : (found : Option TypeKind) (to : Statements.Accessed) (place : Place) (w : Written) → WrittenWalks w
      → Goes_by (Statements.assigned_by_kind found to place w)
  unfolding Statements.assigned Statements.copied
  becomes_walks (Some kind_of_type.Structured) to place w law = search (walk, law.typing)
  becomes_walks (Some (kind_of_type.Set base members)) to place w law = search (walk, law.typing)
  becomes_walks (Some (kind_of_type.Ordinal range)) to place w law = search (walk, law.typing)
  becomes_walks None to place w law = search (walk, law.typing)

  assignment_walks : (name : Name) (selectors : List Selector) (ws : List Written) (place : Place) (w : Written) → AllWalk ws → WrittenWalks w
      → Goes_by (Statements.assignment name selectors ws place w)
  unfolding Statements.assignment Expressions.kind_now
  assignment_walks name selectors ws place w laws law = search (walk, target_walks, becomes_walks)

  unless_wide_walks : (value : Written) (width : Option Written) → WrittenWalks value → Goes_by (Statements.unless_wide value width)
  unless_wide_walks value None law = law.file
  unless_wide_walks value (Some width) law = search walk

  -- the parameters behind the file are some of the call's
  behind_file_all : (wanted : File) (place : Place) (first : WrittenActual) (rest : List WrittenActual) (named : Option File) (found : List WrittenActual)
      → ActualsWalk (first ∷ rest) → Statements.behind_file wanted place first rest named ≡ Ok found → ActualsWalk found
  behind_file_all wanted place first rest None found laws is = let same : first ∷ rest ≡ found = cc in subst ActualsWalk same laws
  behind_file_all file.Input place first rest (Some file.Input) found laws is = let same : rest ≡ found = cc in subst ActualsWalk same laws.1
  behind_file_all file.Output place first rest (Some file.Output) found laws is = let same : rest ≡ found = cc in subst ActualsWalk same laws.1
  behind_file_all file.Input place first rest (Some file.Output) found laws is = absurd cc
  behind_file_all file.Output place first rest (Some file.Input) found laws is = absurd cc

  width_walks : (width : Option Written) → WidthWalks width → Goes_by (Statements.width width)
  unfolding Statements.width
  width_walks None law = search walk
  width_walks (Some w) law = search (walk, law.typing)

  -- how a value is written is no entry
  abbrev IsNoEntry : Mark → Type 0
  IsNoEntry one = numbers_of one ≡ ([], [], [])

  form_is : (place : Place) (types : List Form) (t : Typed) (form : Mark) → or_mismatch place (Statements.written_as types t) ≡ Ok form → IsNoEntry form
  form_is place types t form is = by t.value is
    where
      ordinal : (representation : Option Representation) → or_mismatch place (option_map Look.Written representation) ≡ Ok form → IsNoEntry form
      ordinal (Some r) h = let same : Look.Written r ≡ form = cc in subst IsNoEntry same refl
      ordinal None h = absurd cc

      string : (test : Bool) (source : Option TypeId) → or_mismatch place (if test then Some (Look.WrittenString source) else None) ≡ Ok form
          → IsNoEntry form
      string true source h = let same : Look.WrittenString source ≡ form = cc in subst IsNoEntry same refl
      string false source h = absurd cc

      by : (v : TypedValue) → or_mismatch place (Statements.written_value types v) ≡ Ok form → IsNoEntry form
      by (value.Ordinal id) h = ordinal (representation_of types id) h
      by (value.Set base) h = absurd cc
      by (value.Text id n) h = string (is_string types id) None h
      by (value.Whole id n) h = string (is_string types id) (Some id) h

  parameter_walks : (a : WrittenActual) → ActualWalks a → Goes_by (Statements.parameter a)
  unfolding Statements.parameter
  parameter_walks a law =
      tells_then (test_tells IsNoEntry _ (law.value.typing None) (form_is a.value.first)) λ form no_entry.
      then_walks (mark_walks form no_entry) λ _.
      width_walks a.width law.width

  parameters_walk : (actuals : List WrittenActual) → ActualsWalk actuals → Goes_by (each Statements.parameter actuals)
  parameters_walk [] laws = search walk
  parameters_walk (a ∷ actuals) laws = then_walks (parameter_walks a laws.0) (λ _. parameters_walk actuals laws.1)

  without_file_tells : (wanted : File) (place : Place) (actuals : List WrittenActual) → ActualsWalk actuals
      → Tells_by (Statements.without_file wanted place actuals) ActualsWalk
  unfolding Statements.without_file
  without_file_tells wanted place [] laws = pure_tells ActualsWalk [] tt
  without_file_tells wanted place (first ∷ rest) laws =
      then_tells (unless_wide_walks first.value first.width laws.0.value) λ named.
      given_tells ActualsWalk _ (λ found is. behind_file_all wanted place first rest named found laws is)

  parameters_tell : (place : Place) (procedure : RequiredProcedure) (actuals : List WrittenActual) → ActualsWalk actuals
      → Tells_by (Statements.parameters_of place procedure actuals) ActualsWalk
  unfolding Statements.parameters_of
  parameters_tell place procedure actuals laws =
      tells_on (without_file_tells procedure.file place actuals laws) λ found all.
      then_tells (given_walks (Statements.has_parameters place procedure found)) λ _.
      pure_tells ActualsWalk found all

  write_walks : (name : Name) (actuals : List WrittenActual) (procedure : RequiredProcedure) → ActualsWalk actuals
      → Goes_by (Statements.write name actuals procedure)
  unfolding Statements.write
  write_walks name actuals procedure laws =
      then_walks (enter_walks (λ n. Look.Write n name.place procedure.ends_line) (λ n. refl)) λ _.
      tells_then (parameters_tell name.place procedure actuals laws) λ values all.
      then_walks (parameters_walk values all) λ _.
      mark_walks Look.Ends refl

  read_parameter_walks : (a : WrittenActual) → ActualWalks a → Goes_by (Statements.read_parameter a)
  unfolding Statements.read_parameter
  read_parameter_walks a law = then_walks (given_walks _) (λ _. law.value.reading)

  read_parameters_walk : (actuals : List WrittenActual) → ActualsWalk actuals → Goes_by (each Statements.read_parameter actuals)
  read_parameters_walk [] laws = search walk
  read_parameters_walk (a ∷ actuals) laws = then_walks (read_parameter_walks a laws.0) (λ _. read_parameters_walk actuals laws.1)

  line_point_walks : (place : Place) (ends_line : Bool) → Goes_by (Statements.line_point place ends_line)
  unfolding Statements.line_point
  line_point_walks place false = search walk
  line_point_walks place true = search walk

  read_walks : (name : Name) (actuals : List WrittenActual) (procedure : RequiredProcedure) → ActualsWalk actuals
      → Goes_by (Statements.read name actuals procedure)
  unfolding Statements.read
  read_walks name actuals procedure laws =
      then_walks (line_point_walks name.place procedure.ends_line) λ line.
      then_walks (enter_walks (λ n. Look.Read n name.place line) (λ n. refl)) λ _.
      tells_then (parameters_tell name.place procedure actuals laws) λ variables all.
      then_walks (read_parameters_walk variables all) λ _.
      mark_walks Look.Ends refl

  by_file_walks : (one : File) (name : Name) (actuals : List WrittenActual) (procedure : RequiredProcedure) → ActualsWalk actuals
      → Goes_by (Statements.by_file one name actuals procedure)
  by_file_walks file.Input name actuals procedure laws = read_walks name actuals procedure laws
  by_file_walks file.Output name actuals procedure laws = write_walks name actuals procedure laws

  file_call_walks : (name : Name) (actuals : List WrittenActual) (procedure : RequiredProcedure) → ActualsWalk actuals
      → Goes_by (Statements.file_call name actuals procedure)
  unfolding Statements.file_call
  file_call_walks name actuals procedure laws =
      then_walks (wants_file_walks procedure.file name.place) (λ _. by_file_walks procedure.file name actuals procedure laws)

  declared_call_walks : (callee : ℕ) (is_function : Bool) (name : Name) (actuals : List Actual)
      → Goes_by (Statements.declared_call callee is_function name (map written_actual actuals))
  unfolding Statements.declared_call
  declared_call_walks callee true name actuals = search walk
  declared_call_walks callee false name actuals =
      then_walks (routine_call_walks false callee name.place (map written_actual actuals) (every_actual actuals)) (λ _. pure_walks tt)

  statement_call_walks : (routine : Option (ℕ × Bool)) (d : Denotation) (name : Name) (actuals : List Actual)
      → Goes_by (Statements.call_by routine d name (map written_actual actuals))
  unfolding Statements.required_call
  statement_call_walks None d name actuals =
      then_walks (given_walks _) (λ procedure. file_call_walks name (map written_actual actuals) procedure (every_actual actuals))
  statement_call_walks (Some routine) d name actuals = declared_call_walks routine.0 routine.1 name actuals

  procedure_call_walks : (name : Name) (actuals : List Actual) → Goes_by (Statements.procedure_call name (map written_actual actuals))
  unfolding Statements.procedure_call
  procedure_call_walks name actuals = search (walk, statement_call_walks)

  abbrev RowWalks : List (Passing (Unit {0})) → Type 0
  RowWalks statements = Goes_by (each (λ s. s) statements)

  pub compound_walks : (statements : List (Passing (Unit {0}))) → RowWalks statements → Goes_by (Statements.compound statements)
  unfolding Statements.compound
  compound_walks statements row =
      then_walks (enter_walks Look.Compound (λ n. refl)) λ _.
      then_walks row λ _.
      mark_walks Look.Ends refl

  condition_walks : (w : Written) → WrittenWalks w → Goes_by (Statements.condition w)
  unfolding Statements.condition
  condition_walks w law = search (walk, law.typing)

  abbrev OtherWalks : Option (Passing (Unit {0})) → Type 0
  OtherWalks None = Unit {0}
  OtherWalks (Some s) = Goes_by s

  alternative_walks : (other : Option (Passing (Unit {0}))) → OtherWalks other → Goes_by (Statements.alternative other)
  unfolding Statements.alternative
  alternative_walks None law = search walk
  alternative_walks (Some s) law = then_walks (mark_walks Look.Else refl) (λ _. law)

  tested_walks : (place : Place) (w : Written) → WrittenWalks w → Goes_by (Statements.tested place w)
  unfolding Statements.tested
  tested_walks place w law = search (walk, condition_walks, law)

  choice_walks : (place : Place) (w : Written) (consequence : Passing (Unit {0})) (other : Option (Passing (Unit {0}))) → WrittenWalks w
      → Goes_by consequence → OtherWalks other → Goes_by (Statements.choice place w consequence other)
  unfolding Statements.choice
  choice_walks place w consequence other law one two =
      then_walks (tested_walks place w law) λ _.
      then_walks one λ _.
      then_walks (alternative_walks other two) λ _.
      mark_walks Look.Ends refl

  while_walks : (place : Place) (w : Written) (body : Passing (Unit {0})) → WrittenWalks w → Goes_by body → Goes_by (Statements.while_loop place w body)
  unfolding Statements.while_loop
  while_walks place w body law one =
      then_walks (pass_walks place) λ _.
      then_walks (enter_loop_walks _ (λ n l. refl)) λ _.
      then_walks (condition_walks w law) λ _.
      then_walks (mark_walks Look.Do refl) λ _.
      then_walks one λ _.
      mark_walks Look.Ends refl

  repeat_walks : (place : Place) (statements : List (Passing (Unit {0}))) (w : Written) → RowWalks statements → WrittenWalks w
      → Goes_by (Statements.repeat_loop place statements w)
  unfolding Statements.repeat_loop
  repeat_walks place statements w row law =
      then_walks (pass_walks place) λ _.
      then_walks (enter_loop_walks _ (λ n l. refl)) λ _.
      then_walks row λ _.
      then_walks (mark_walks Look.Until refl) λ _.
      then_walks (condition_walks w law) λ _.
      mark_walks Look.Ends refl

  bound_walks : (control : ℕ) (type_id : TypeId) (w : Written) → WrittenWalks w → Goes_by (Statements.bound control type_id w)
  unfolding Statements.bound
  bound_walks control type_id w law = search (walk, law.typing)

  for_head_walks : (place : Place) (variable : Name) (first : Written) (direction : SyntaxDirection) (last : Written) → WrittenWalks first → WrittenWalks last
      → Goes_by (Statements.for_head place variable first direction last)
  unfolding Statements.for_head
  for_head_walks place variable first direction last one two = search (walk, bound_walks, one, two) depth 16

  for_walks : (place : Place) (variable : Name) (first : Written) (direction : SyntaxDirection) (last : Written) (body : Passing (Unit {0}))
      → WrittenWalks first → WrittenWalks last → Goes_by body → Goes_by (Statements.for_loop place variable first direction last body)
  for_walks place variable first direction last body one two three =
      then_walks (for_head_walks place variable first direction last one two) λ control.
      for_body_walks control body three

  row_walks : (type_id : TypeId) (before row : List ℤ) (cs : List Constant) → Goes_by (Statements.constant_row type_id before row cs)
  unfolding Statements.case_constant
  row_walks type_id before row [] = search walk
  row_walks type_id before row (c ∷ cs) = then_walks (test_walks _ (ordinal_constant_walks true owner depth c))
      (λ value. row_walks type_id before (row ++ value ∷ []) cs)

  abbrev ArmsWalk : List (List Constant × Passing (Unit {0})) → Type 0
  ArmsWalk [] = Unit {0}
  ArmsWalk (arm ∷ arms) = Goes_by arm.1 × ArmsWalk arms

  arms_walk : (type_id : TypeId) (before : List ℤ) (arms : List (List Constant × Passing (Unit {0}))) → ArmsWalk arms
      → Goes_by (Statements.case_arms type_id before arms)
  arms_walk type_id before [] laws = search walk
  arms_walk type_id before (arm ∷ arms) laws =
      then_walks (row_walks type_id before [] arm.0) λ row.
      then_walks (mark_walks (Look.Arm row) refl) λ _.
      then_walks laws.0 λ _.
      arms_walk type_id (before ++ row) arms laws.1

  case_walks : (place : Place) (w : Written) (arms : List (List Constant × Passing (Unit {0}))) → WrittenWalks w → ArmsWalk arms
      → Goes_by (Statements.case_statement place w arms)
  unfolding Statements.case_head Statements.case_body
  case_walks place w arms law laws = search (walk, law.typing, arms_walk) depth 12

  -- ---- records of a with

  -- a record is opened
  opened_walks : (one : WrittenVariable) → AllWalk one.indexes → Walks (Way true owner depth (suc depth)) (Statements.opened one)
  unfolding Statements.opened
  opened_walks one laws =
      then_walks (find_walks one.name) λ d.
      then_walks (variable_of_walks one.name.place d) λ variable.
      then_walks (enter_walks Look.Access (λ n. refl)) λ _.
      then_walks (selected_walks variable.selectors variable.type_id one.selectors one.indexes laws) λ component.
      then_walks (mark_walks (Look.Opens variable.origin component.0 (index_count component.0)) refl) λ _.
      open_record_walks one.name.place (Statements.opened_record variable.origin component.0 component.1)

-- how many regions are open behind records
abbrev behind_records : List WrittenVariable → ℕ → ℕ
behind_records [] depth = depth
behind_records (one ∷ others) depth = behind_records others (suc depth)

one_deeper : (records : List WrittenVariable) (depth : ℕ) → behind_records records (suc depth) ≡ suc (behind_records records depth)
one_deeper [] depth = refl
one_deeper (one ∷ others) depth = one_deeper others (suc depth)

module _ (owner : Owner) where
  abbrev RecordsWalk : List WrittenVariable → Type 0
  RecordsWalk [] = Unit {0}
  RecordsWalk (one ∷ others) = ((depth : ℕ) → AllWalk owner depth one.indexes) × RecordsWalk others

  opens_walk : (records : List WrittenVariable) (depth : ℕ) → RecordsWalk records
      → Walks (Way true owner depth (behind_records records depth)) (each Statements.opened records)
  opens_walk [] depth laws = pure_walks tt
  opens_walk (one ∷ others) depth laws = then_walks (opened_walks owner depth one (laws.0 depth)) (λ _. opens_walk others (suc depth) laws.1)

  closes_walk : (records : List WrittenVariable) (depth : ℕ) → Walks (Way true owner (behind_records records depth) depth) (each (λ _. close_record) records)
  closes_walk [] depth = pure_walks tt
  closes_walk (one ∷ others) depth =
      subst (λ n. Walks (Way true owner n depth) (each (λ _. close_record) (one ∷ others))) (sym (one_deeper others depth))
      (then_walks close_record_walks (λ _. closes_walk others depth))

  with_walks : (place : Place) (records : List WrittenVariable) (body : Passing (Unit {0})) → RecordsWalk records
      → ((depth : ℕ) → Goes_by owner depth body) → (depth : ℕ) → Goes_by owner depth (Statements.with_statement place records body)
  unfolding Statements.with_statement
  with_walks place records body laws law depth =
      then_walks (pass_walks place) λ _.
      then_walks next_slot_walks λ first_slot.
      then_walks (enter_walks (λ n. Look.With n first_slot) (λ n. refl)) λ _.
      then_walks (opens_walk records depth laws) λ _.
      then_walks (mark_walks Look.Do refl) λ _.
      then_walks (law (behind_records records depth)) λ _.
      then_walks (closes_walk records depth) λ _.
      mark_walks (Look.WithEnds first_slot) refl

  records_walk : (records : List RecordVariable) → RecordsWalk (map written_record records)
  records_walk [] = tt
  records_walk (one ∷ others) = ((λ depth. indexes_walk owner depth one.indexes.items), records_walk others)

  -- ---- every statement

  abbrev pub StmtWalks : Stmt → Type 0
  StmtWalks w = (depth : ℕ) → Goes_by owner depth (statement w)

  abbrev WithStmt : Type 0
  WithStmt = (w : Stmt) × StmtWalks w

  abbrev bare_stmt : stmt_layer.Stmt-F WithStmt → stmt_layer.Stmt-F Stmt
  bare_stmt y = map-Stmt WithStmt Stmt (λ w. w.0) y

  stmt_from_layer : (d : stmt_layer.Stmt-F Stmt)
      → ((depth : ℕ) → Goes_by owner depth (Statements.statement_step (map-Stmt Stmt (Passing (Unit {0})) statement d)))
      → StmtWalks (roll-Stmt d)
  stmt_from_layer d law depth = subst (Goes_by owner depth) (sym (fold-roll-Stmt (Passing (Unit {0})) Statements.statement_step d)) (law depth)

  rows_walk : (ys : List WithStmt) (depth : ℕ) → RowWalks owner depth (map statement (map (λ (y : WithStmt). y.0) ys))
  rows_walk [] depth = pure_walks tt
  rows_walk (y ∷ ys) depth = then_walks (y.1 depth) (λ _. rows_walk ys depth)

  all_arms : (rows : List (Vec Constant Global)) (ys : List WithStmt) (depth : ℕ)
      → ArmsWalk owner depth (arms_of rows (map statement (map (λ (y : WithStmt). y.0) ys)))
  all_arms [] ys depth = tt
  all_arms (row ∷ rows) [] depth = tt
  all_arms (row ∷ rows) (y ∷ ys) depth = (y.1 depth, all_arms rows ys depth)

  statement_layer : (y : stmt_layer.Stmt-F WithStmt) → StmtWalks (roll-Stmt (bare_stmt y))
  statement_layer stmt_layer.Empty = stmt_from_layer stmt_layer.Empty (λ depth. enter_walks Look.Empty (λ n. refl))
  statement_layer (stmt_layer.Assign name selectors indexes becomes value) =
      stmt_from_layer (stmt_layer.Assign name selectors indexes becomes value)
      (λ depth. assignment_walks owner depth name selectors.items _ becomes _ (indexes_walk owner depth indexes.items) (expression_walks owner depth value))
  statement_layer (stmt_layer.Call name actuals) =
      stmt_from_layer (stmt_layer.Call name actuals) (λ depth. procedure_call_walks owner depth name actuals.items)
  statement_layer (stmt_layer.Compound statements) =
      stmt_from_layer (bare_stmt (stmt_layer.Compound statements)) (λ depth. compound_walks owner depth _ (rows_walk statements.items depth))
  statement_layer (stmt_layer.If place condition consequence None) =
      stmt_from_layer (bare_stmt (stmt_layer.If place condition consequence None))
      (λ depth. choice_walks owner depth place _ _ None (expression_walks owner depth condition) (consequence.value.1 depth) tt)
  statement_layer (stmt_layer.If place condition consequence (Some other)) =
      stmt_from_layer (bare_stmt (stmt_layer.If place condition consequence (Some other)))
      (λ depth. choice_walks owner depth place _ _ _ (expression_walks owner depth condition) (consequence.value.1 depth) (other.value.1 depth))
  statement_layer (stmt_layer.While place condition body) =
      stmt_from_layer (bare_stmt (stmt_layer.While place condition body))
      (λ depth. while_walks owner depth place _ _ (expression_walks owner depth condition) (body.value.1 depth))
  statement_layer (stmt_layer.Repeat place statements condition) =
      stmt_from_layer (bare_stmt (stmt_layer.Repeat place statements condition))
      (λ depth. repeat_walks owner depth place _ _ (rows_walk statements.items depth) (expression_walks owner depth condition))
  statement_layer (stmt_layer.For place name first d end body) =
      stmt_from_layer (bare_stmt (stmt_layer.For place name first d end body))
      (λ depth. for_walks owner depth place name _ d _ _ (expression_walks owner depth first) (expression_walks owner depth end) (body.value.1 depth))
  statement_layer (stmt_layer.Case place index constants arms semicolon) =
      stmt_from_layer (bare_stmt (stmt_layer.Case place index constants arms semicolon))
      (λ depth. case_walks owner depth place _ _ (expression_walks owner depth index) (all_arms constants.items arms.items depth))
  statement_layer (stmt_layer.With place records body) =
      stmt_from_layer (bare_stmt (stmt_layer.With place records body)) (with_walks place _ _ (records_walk records.items) body.value.1)

  every_statement : (w : Stmt) → StmtWalks w
  every_statement = ind-Stmt StmtWalks (λ x y is. subst (λ z. StmtWalks (roll-Stmt z)) is (statement_layer y))

  pub statement_walks : (depth : ℕ) (w : Stmt) → Goes_by owner depth (statement w)
  statement_walks depth w = every_statement w depth

  statements_walk : (depth : ℕ) (ws : List Stmt) → RowWalks owner depth (map statement ws)
  statements_walk depth [] = pure_walks tt
  statements_walk depth (w ∷ ws) = then_walks (statement_walks depth w) (λ _. statements_walk depth ws)

  -- the compound statement of a block
  pub body_walks : (depth : ℕ) (ws : List Stmt) → Goes_by owner depth (Statements.compound (map statement ws))
  body_walks depth ws = compound_walks owner depth _ (statements_walk depth ws)
