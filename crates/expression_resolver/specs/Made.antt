-- How the answers are what typing says of expressions: what is made of a form is what typing answers, with its leading
-- site, and looks so; and operands are as they are taken. It says nothing of what typing answers.
use Rattle.std.specs.Prelude.{◌≡◌, ◌⊎◌, ℕ, List, [], ◌∷◌, ◌++◌, ◌&&◌, ◌||◌, flat_map, length, map, Result, Ok, Err}
use Rattle.std.specs.Prelude.{Bool, true, false, Option, Some, None, Vec, is_some}
use Rattle.std.specs.declared.alloc.Global.{Global}
use Rattle.memory.specs.Refused.{the_refusal}
use Rattle.place.specs.declared.Place.{Place}
use Rattle.syntax_tree.specs.declared.Actual.{Actual}
use Rattle.syntax_tree.specs.declared.Expr.{Expr as SyntaxExpr}
use Rattle.syntax_tree.specs.declared.Expr.TheViews.{out-Actual}
use Rattle.scopes.specs.declared.denotation.Denotation.{Denotation}
use Rattle.scopes.specs.declared.denotation.Denotation.TheVariants as denotes
use Rattle.typed_tree.specs.declared.fault.TypeFault.{TypeFault}
use Rattle.typed_tree.specs.declared.fault.TypeFault.TheVariants.{Memory, Mismatch}
use Rattle.typed_tree.specs.declared.site.SiteKind.{SiteKind}
use Rattle.typed_tree.specs.declared.tree.Designator.{Designator}
use Rattle.typed_tree.specs.declared.tree.Designator.TheVariants as designator
use Rattle.typed_tree.specs.declared.tree.Dyadic.{Dyadic}
use Rattle.typed_tree.specs.declared.tree.Dyadic.TheVariants as dyadic
use Rattle.typed_tree.specs.declared.tree.Expr.{Expr}
use Rattle.typed_tree.specs.declared.tree.Expr.TheFolds.{fold-Link}
use Rattle.typed_tree.specs.declared.tree.Fitted.{Fitted}
use Rattle.typed_tree.specs.declared.tree.RangeTest.{RangeTest}
use Rattle.typed_tree.specs.declared.tree.Scalar.{Scalar}
use Rattle.typed_tree.specs.declared.tree.Scalar.TheVariants as scalar
use Rattle.typed_tree.specs.declared.tree.Whole.{Whole}
use Rattle.typed_tree.specs.declared.tree.Link.{Link}
use Rattle.typed_tree.specs.declared.tree.Monadic.{Monadic}
use Rattle.typed_tree.specs.declared.tree.Passed.{Passed as PassedOne}
use Rattle.typed_tree.specs.declared.tree.Variable.{Variable}
use Rattle.types.specs.declared.form.TypeId.{TypeId}
use Rattle.types.specs.Types.{boolean}
use Rattle.typed_tree.specs.Entries.{joined}
use Rattle.typed_tree.specs.Kinds.{Held, expression_held, is_held, is_same, link_held, links_held, passed_held}
use Rattle.typed_tree.specs.Look.{Look, Text, Operation, Applied, Begins, Operator, Compared, Ends, look_call}
use Rattle.typed_tree.specs.Look.{Constructed, Constructs, look_expr, look_link, look_passed, look_whole}
use Rattle.typed_tree.specs.WellFormed.{members_wanted, placed}
use Rattle.typing_rules.specs.declared.typed.Typed.{Typed}
use Rattle.typing_rules.specs.declared.typed.TypedValue.{TypedValue}
use Rattle.typing.specs.Passing.{Passed, Passing, After, after, behind_marks, given, pure, ◌>>=◌}
use Rattle.typing_rules.specs.Checked.{Checked, and_then}
use Rattle.typing.specs.Passing.{◌>>◌, ◌>>?◌}
use Rattle.typing.specs.Steps.{enter, enter_as, host_type, site}
use Rattle.typing_rules.specs.Checked.{or_mismatch}
use Rattle.typing.specs.Expressions.{Written, behind, last_member}
use Rattle.typing_rules.specs.Targets.{Copy, copying, fitting}
use Rattle.typing_rules.specs.Typed.{is_scalar_value}
use Rattle.typing.specs.Expressions.{or_no_result}
use Rattle.typing_rules.specs.Targets.{test_kind, whole_copy}
use Rattle.typing_rules.specs.Typed.{typed, typed_set, typed_text}
use Rattle.typing.specs.Outcomes.{IsFault, Makes, Tells}
use Rattle.expression_resolver.specs.declared.typed.Begun.{Begun}
use Rattle.expression_resolver.specs.declared.typed.Members.{Members}
use Rattle.expression_resolver.specs.declared.typed.RightOperand.{RightOperand}
use Rattle.expression_resolver.specs.declared.typed.SitedMember.{SitedMember}
use Rattle.expression_resolver.specs.declared.typed.TypedCall.{TypedCall}
use Rattle.expression_resolver.specs.declared.typed.TypedExpr.{TypedExpr}
use Rattle.expression_resolver.specs.declared.typed.TypedLinks.{TypedLinks}
use Rattle.expression_resolver.specs.Values.{copy_of, look_value, scalar_of, value_of}

-- what an expression is
abbrev pub typed_of : TypedExpr → Typed
typed_of made = record { value = value_of made.value; site = made.site }

-- an expression
abbrev pub MakesTyped : Checked (After Typed) → Result TypedExpr TypeFault → Passed → Type 0
MakesTyped = Makes typed_of (λ made. look_value made.value)

-- ---- expressions that are entered

-- an expression is entered behind its leading site; or it has none, or one too many is entered
abbrev pub MakesBegun : Option SiteKind → Place → Passed → Result Begun TypeFault → Passed → Type 0
MakesBegun lead place old (Ok made) new =
    (middle : Passed) × (behind lead place old ≡ Ok (after made.site [] middle))
    × (enter middle ≡ Ok (after made.number [] new))
MakesBegun lead place old (Err why) new =
    IsFault (behind lead place old) why
    ⊎ ((site : Option ℕ) × (middle : Passed) × (behind lead place old ≡ Ok (after site [] middle))
    × (enter middle ≡ Err why))

-- the value of a string of a type, behind its leading site
abbrev pub text_entered : Option ℕ → TypeId → List ℕ → Passing Typed
text_entered site type_id characters = do
  enter_as (λ n. Text n characters)
  pure (typed_text type_id (length characters) site)

-- what is no routine of the program
abbrev pub is_alone : Denotation → Bool
is_alone (denotes.Routine block is_function) = false
is_alone d = true

-- ---- operators

-- an operation on an operand, with a result of a type
pub record IsMonadicOf (begun : Begun) (operation : Monadic) (operand : Expr) (type_id : TypeId) (made : TypedExpr)
    : Type 0 where
  pub looks : look_value made.value ≡ Operation begun.number ∷ (look_expr operand ++ (Applied operation ∷ []))
  pub is : typed_of made ≡ typed type_id begun.site

-- an operator and its right operand, and what they make of what stands to their left
abbrev pub MakesLink : Checked (After Typed) → Result (Link × Typed) TypeFault → Passed → Type 0
MakesLink = Makes (λ made. made.1) (λ made. look_link made.0)

-- the operators of a chain
abbrev pub MakesLinks : Checked (After Typed) → Result TypedLinks TypeFault → Passed → Type 0
MakesLinks = Makes (λ made. made.typed) (λ made. flat_map look_link made.links.items)

-- what comes of an operator with its right operand behind a left one
abbrev pub held_behind : Link → Held → Held
held_behind = fold-Link Held Bool (Held → Held) expression_held passed_held link_held

-- operators make an ordinal of an ordinal, or a set of a set, if they make something of these, and each takes its
-- operands
pub record AreHeldLinks (left value : TypedValue) (links : List Link) : Type 0 where
  pub scalar : is_scalar_value value ≡ is_scalar_value left
  pub held : (before : Held) → is_held (scalar_of left) before ≡ true
      → is_held (scalar_of value) (links_held before (map held_behind links)) ≡ true

-- a chain of a first operand with this leading site, and the operators behind it
pub record IsChainOf (first : Expr) (site : Option ℕ) (rest : TypedLinks) (made : TypedExpr) : Type 0 where
  pub looks : look_value made.value
      ≡ Begins ∷ (look_expr first ++ (flat_map look_link rest.links.items ++ (Ends ∷ [])))
  pub is : typed_of made ≡ record { value = rest.typed.value; site = site }

-- the operators behind such a left operand, unless they are refused
abbrev pub AreLinksOf : TypedValue → Result TypedLinks TypeFault → Type 0
AreLinksOf left (Ok rest) = AreHeldLinks left rest.typed.value rest.links.items
AreLinksOf left (Err why) = Unit {0}

-- a chain, as it is made of a first operand and the operators behind it
pub record IsChain (left : TypedExpr) (rest : TypedLinks) (made : TypedExpr) : Type 0 where
  pub scalar : is_scalar_value (value_of left.value) ≡ true
  pub looks : look_value made.value
      ≡ Begins ∷ (look_value left.value ++ (flat_map look_link rest.links.items ++ (Ends ∷ [])))
  pub is : typed_of made ≡ record { value = rest.typed.value; site = left.site }

-- the same, unless the operators are refused; K1 at a place where these make no ordinal and no set
abbrev pub MakesChain : Place → TypedExpr → Result TypedLinks TypeFault → Result TypedExpr TypeFault → Type 0
MakesChain place left (Ok rest) (Ok made) = IsChain left rest made
MakesChain place left (Ok rest) (Err why) =
    (why ≡ Memory the_refusal) ⊎ ((is_scalar_value (value_of left.value) ≡ false) × (why ≡ Mismatch place))
MakesChain place left (Err why) result = result ≡ Err why

-- how two strings look that are compared, behind the right one
abbrev pub look_compared : Option Copy → Option Copy → Look
look_compared (Some left) (Some right) = Compared left.source left.cells right.source right.cells ∷ []
look_compared left right = []

-- a value is such an ordinal or set
abbrev pub is_such : Scalar → TypedValue → Bool
is_such wanted value = is_scalar_value value && is_same wanted (scalar_of value)

-- both are structured
abbrev pub are_structured : TypedValue → TypedValue → Bool
are_structured left right = is_some (whole_copy left) && is_some (whole_copy right)

-- a relation takes two operands: two ordinals or two structured ones, two sets, or an ordinal and a set
abbrev pub relates : Dyadic → TypedValue → TypedValue → Bool
relates (dyadic.Relation relation) left right =
    (is_such scalar.Ordinal left && is_such scalar.Ordinal right) || are_structured left right
relates (dyadic.SetRelation relation) left right = is_such scalar.Set left && is_such scalar.Set right
relates dyadic.In left right = is_such scalar.Ordinal left && is_such scalar.Set right
relates other left right = false

-- the relation of two operands
pub record IsRelationOf (number : ℕ) (operation : Dyadic) (left right : TypedExpr) (made : TypedExpr) : Type 0 where
  pub looks : look_value made.value
      ≡ Begins ∷ (look_value left.value ++ (Operator number operation ∷ (look_value right.value
      ++ (look_compared (whole_copy (value_of left.value)) (whole_copy (value_of right.value)) ++ (Ends ∷ [])))))
  pub is : typed_of made ≡ typed boolean left.site

-- how a right operand looks behind a left one
abbrev pub look_right : TypedValue → RightOperand → Look
look_right left right =
    Operator right.number right.operation ∷ (look_value right.operand.value
    ++ (look_compared (whole_copy left) (whole_copy (value_of right.operand.value)) ++ (Ends ∷ [])))

abbrev pub MakesRight : Typed → Checked (After Typed) → Result RightOperand TypeFault → Passed → Type 0
MakesRight left = Makes (λ _. typed boolean left.site) (look_right left.value)

-- it is one that its relation takes, unless it is refused
abbrev pub IsRightOf : TypedValue → Result RightOperand TypeFault → Type 0
IsRightOf left (Ok right) = relates right.operation left (value_of right.operand.value) ≡ true
IsRightOf left (Err why) = Unit {0}

-- the relation of a left operand and a right one, unless that is refused
abbrev pub MakesRelation : TypedExpr → Result RightOperand TypeFault → Result TypedExpr TypeFault → Type 0
MakesRelation left (Ok right) (Ok made) = IsRelationOf right.number right.operation left right.operand made
MakesRelation left (Ok right) (Err why) = why ≡ Memory the_refusal
MakesRelation left (Err why) result = result ≡ Err why

-- ---- set constructors

-- a set of members, which is entered
pub record IsSetOf (begun : Begun) (members : Members) (made : TypedExpr) : Type 0 where
  pub looks : look_value made.value
      ≡ Constructs begun.number ∷ (flat_map look_expr members.values.items
      ++ (Constructed members.designators.items (length members.values.items) ∷ []))
  pub is : typed_of made ≡ typed_set (record { host = members.host; packed = None }) begun.site

-- the designators of a set constructor, and the host type of its members
abbrev pub MakesMembers
    : Checked (After (List Designator × Option TypeId)) → Result Members TypeFault → Passed → Type 0
MakesMembers =
    Makes (λ made. (made.designators.items, made.host)) (λ made. flat_map look_expr made.values.items)

-- a member that stands alone, or first in a range, with its site; and the last one of a range
abbrev pub MakesFirst : Checked (After (ℕ × TypeId)) → Result SitedMember TypeFault → Passed → Type 0
MakesFirst = Makes (λ made. (made.site, made.type_id)) (λ made. look_expr made.value)

abbrev pub MakesLast : Checked (After TypeId) → Result (TypeId × Expr) TypeFault → Passed → Type 0
MakesLast = Makes (λ made. made.0) (λ made. look_expr made.1)

-- a range behind its first value
abbrev pub range_behind : SitedMember → Written → Passing (Designator × TypeId)
range_behind first last s =
    behind_marks (look_expr first.value)
    ((last_member (Some first.type_id) last >>= (λ type_id. pure (designator.Range first.site, type_id))) s)

-- a member more, by so many values
pub record IsMemberBehind (count : ℕ) (outcome : Checked (After (Designator × TypeId))) (old new : Members)
    (now : Passed) : Type 0 where
  pub designator : Designator
  pub type_id : TypeId
  pub own : List Expr
  pub is : outcome ≡ Ok (after (designator, type_id) (flat_map look_expr own) now)
  pub designators : new.designators.items ≡ old.designators.items ++ designator ∷ []
  pub values : new.values.items ≡ old.values.items ++ own
  pub host : new.host ≡ Some type_id
  pub counted : length own ≡ count
  pub wanted : members_wanted (designator ∷ []) ≡ count

abbrev pub TakesMember
    : ℕ → Checked (After (Designator × TypeId)) → Members → Result (Unit {0}) TypeFault → Members → Passed → Type 0
TakesMember count outcome old (Ok _) new now = IsMemberBehind count outcome old new now
TakesMember count outcome old (Err why) new now = IsFault outcome why

-- ---- values that are assigned, or passed to value parameters

-- a value that is assigned to a scalar type, by its test, whose site stands at the place, before those of its own
unfoldable pub fitted : Scalar → TypeId → Place → Written → Passing RangeTest
fitted tested type_id place w = do
  id ← site (test_kind tested) place
  range ← w.typing None >>? (λ types t. or_mismatch place (fitting types type_id t))
  pure (record { site = id; tests = tested; range = range })

abbrev pub MakesFitted : Checked (After RangeTest) → Result Fitted TypeFault → Passed → Type 0
MakesFitted = Makes (λ made. made.fits) (λ made. look_expr made.value)

-- a value that is copied to a structured type; K1 at the place where it may not be
abbrev pub copied : TypeId → Place → Written → Passing Copy
copied type_id place w = w.typing None >>? (λ types t. or_mismatch place (copying types type_id t))

abbrev pub MakesCopied : Checked (After Copy) → Result (Whole × Vec Expr Global) TypeFault → Passed → Type 0
MakesCopied = Makes copy_of (λ made. look_whole made.0 made.1.items)

-- ---- calls

-- the value of the only actual
abbrev pub IsOnly : List Actual → SyntaxExpr → Type 0
IsOnly actuals value = (actual : Actual) × (actuals ≡ actual ∷ []) × ((out-Actual actual).value ≡ value)

-- actual parameters, for a callee, the first of them at the first place
abbrev pub look_actuals : ℕ → List PassedOne → Look
look_actuals callee made = joined (placed callee 0 (map look_passed made))

abbrev pub MakesActuals : ℕ → Checked (After (Unit {0})) → Result (Vec PassedOne Global) TypeFault → Passed → Type 0
MakesActuals callee = Makes (λ _. tt) (λ made. look_actuals callee made.items)

-- an actual parameter, for whatever callee and place of a formal one
abbrev pub MakesPassed
    : (ℕ → ℕ → Passing (Unit {0})) → Passed → Result PassedOne TypeFault → Passed → Type 0
MakesPassed typing old result new =
    (callee position : ℕ)
    → Makes (λ _. tt) (λ made. look_passed made callee position) (typing callee position old) result new

-- a call of a function, or of a procedure, by the root of its result
abbrev pub MakesCall : Bool → Checked (After (Option ℕ)) → Result TypedCall TypeFault → Passed → Type 0
MakesCall is_function = Makes (λ made. made.root) (λ made. look_call is_function made.call made.actuals.items)

-- the host type of the variable that is found, if one is: else K3 at a place
unfoldable pub host_found : Place → Option Variable → Passing TypeId
host_found place found = do
  result ← given (or_no_result place found)
  host_type result.type_id

abbrev pub IsHostOf : Checked (After (Option Variable)) → Place → Result TypeId TypeFault → Passed → Type 0
IsHostOf outcome place result new =
    Tells (and_then outcome (λ a. behind_marks a.look (host_found place a.answer a.passed))) result new
