-- How accesses are made: a variable as it is entered, the selectors behind it with their index expressions, and the
-- value of what is selected. It says nothing of what typing answers.
use Rattle.std.specs.Prelude.{◌≡◌, ℕ, suc, Bool, List, [], ◌∷◌, ◌++◌, flat_map, length, map, drop, Result}
use Rattle.std.specs.Prelude.{Ok, Err, Option}
use Rattle.place.specs.declared.Place.{Place}
use Rattle.syntax_tree.specs.declared.Name.{Name}
use Rattle.syntax_tree.specs.declared.Expr.{Expr as SyntaxExpr}
use Rattle.syntax_tree.specs.declared.Selector.{Selector}
use Rattle.syntax_tree.specs.declared.Selector.TheVariants as select
use Rattle.types.specs.declared.form.TypeId.{TypeId}
use Rattle.scopes.specs.declared.denotation.Denotation.{Denotation}
use Rattle.typed_tree.specs.declared.fault.TypeFault.{TypeFault}
use Rattle.typed_tree.specs.declared.site.SiteKind.{SiteKind}
use Rattle.typed_tree.specs.declared.site.SiteKind.TheVariants as kind
use Rattle.typed_tree.specs.declared.tree.Expr.{Expr}
use Rattle.typed_tree.specs.declared.tree.Selector.{Selector as TreeSelector}
use Rattle.typed_tree.specs.Accesses.{Origin, index_count, origin_by, root_of}
use Rattle.typed_tree.specs.Look.{Look, Access, look_expr}
use Rattle.typing_rules.specs.declared.typed.Typed.{Typed}
use Rattle.typing.specs.Passing.{Passed, Passing, After, after, behind_marks, pure, ◌>>=◌, ◌>>◌}
use Rattle.typing_rules.specs.Checked.{Checked}
use Rattle.typing.specs.Steps.{find, may_change, site, enter_as}
use Rattle.typing.specs.Expressions.{Denoted, Written, behind, expression, kind_now, selected, value_of_kind}
use Rattle.typing.specs.Expressions.{accessed, variable_of}
use Rattle.typing.specs.View.{denoted_of}
use Rattle.typing.specs.declared.records.DenotedVariable.{DenotedVariable}
use Rattle.typing.specs.Outcomes.{IsFault, Makes}
use Rattle.expression_resolver.specs.declared.typed.Entered.{Entered}
use Rattle.expression_resolver.specs.declared.typed.Reached.{Reached}
use Rattle.expression_resolver.specs.declared.typed.Selection.{Selection}

-- ---- a variable

-- the variable, or the field of a record of a with, that a name denotes
abbrev pub named_variable : Name → Passing Denoted
named_variable name = find name >>= variable_of name.place

abbrev pub MakesVariable : Checked (After Denoted) → Result DenotedVariable TypeFault → Passed → Type 0
MakesVariable = Makes denoted_of (λ _. [])

-- a variable is entered in an expression, by the site of its test and the leading one
unfoldable pub begun : Place → Option SiteKind → Passing (ℕ × Option ℕ)
begun place lead = do
  defined ← site kind.UndefinedVariable place
  id ← behind lead place
  enter_as Access
  pure (defined, id)

-- a variable that is entered, where its access begins
abbrev pub MakesEntered : Origin → Checked (After (ℕ × Option ℕ)) → Result Entered TypeFault → Passed → Type 0
MakesEntered origin outcome (Ok made) new =
    (outcome ≡ Ok (after (made.defined, made.site) (Access made.number ∷ []) new))
    × (origin_by made.root made.base ≡ origin)
MakesEntered origin outcome (Err why) new = IsFault outcome why

-- ---- selectors

-- these selectors lead to a value of a type, without index expressions
pub record IsBegunBy (before : List TreeSelector) (type_id : TypeId) (made : Selection) : Type 0 where
  pub selectors : made.selectors.items ≡ before
  pub indexes : made.indexes.items ≡ []
  pub is_of : made.type_id ≡ type_id

-- there are as many index expressions as the selectors take
abbrev pub IsCounted : Selection → Type 0
IsCounted made = index_count made.selectors.items ≡ length made.indexes.items

-- how the index expressions look
abbrev pub look_selection : Selection → Look
look_selection made = flat_map look_expr made.indexes.items

-- the selectors of an access
abbrev pub MakesSelection
    : Checked (After (List TreeSelector × TypeId)) → Result Selection TypeFault → Passed → Type 0
MakesSelection = Makes (λ made. (made.selectors.items, made.type_id)) look_selection

-- what is accessed of what a name denotes
unfoldable pub component_of : Denoted → List Selector → List Written → Passing (List TreeSelector × TypeId)
component_of variable selectors indexes = do
  enter_as Access
  selected variable.selectors variable.type_id selectors indexes

-- the same of a variable that may be changed, at the place of its name
unfoldable pub reached : Place → Denoted → List Selector → List Written → Passing (List TreeSelector × TypeId)
reached place variable selectors indexes = do
  may_change place (root_of variable.origin)
  component_of variable selectors indexes

-- how it looks
abbrev pub look_reached : Reached → Look
look_reached made = Access made.access.number ∷ flat_map look_expr made.indexes.items

abbrev pub MakesReached : Checked (After (List TreeSelector × TypeId)) → Result Reached TypeFault → Passed → Type 0
MakesReached = Makes (λ made. (made.access.selectors.items, made.type_id)) look_reached

-- an index, by the id of its site
abbrev pub MakesIndex : Checked (After ℕ) → Result (ℕ × Expr) TypeFault → Passed → Type 0
MakesIndex = Makes (λ made. made.0) (λ made. look_expr made.1)

-- typing behind what was selected so far
abbrev pub on : Selection → List Selector → List Written → Passed → Checked (After (List TreeSelector × TypeId))
on made more left = selected made.selectors.items made.type_id more left

-- a field is selected: typing goes on behind it
pub record IsFieldBehind (name : Name) (s : Passed) (old new : Selection) (now : Passed) : Type 0 where
  pub goes : (more : List Selector) → (left : List Written)
      → on old (select.Field name ∷ more) left s ≡ on new more left now
  pub indexes : new.indexes.items ≡ old.indexes.items
  pub counted : index_count new.selectors.items ≡ index_count old.selectors.items

abbrev pub SelectsField : Name → Passed → Selection → Result (Unit {0}) TypeFault → Selection → Passed → Type 0
SelectsField name s old (Ok _) new now = IsFieldBehind name s old new now
SelectsField name s old (Err why) new now =
    (more : List Selector) → (left : List Written) → IsFault (on old (select.Field name ∷ more) left s) why

-- an element is selected by an index: typing goes on behind it
pub record IsElementBehind (place : Place) (w : Written) (s : Passed) (old new : Selection) (now : Passed)
    : Type 0 where
  pub index : Expr
  pub goes : (joined : Bool) → (more : List Selector) → (left : List Written)
      → on old (select.Index place joined ∷ more) (w ∷ left) s ≡ behind_marks (look_expr index) (on new more left now)
  pub indexes : new.indexes.items ≡ old.indexes.items ++ index ∷ []
  pub counted : index_count new.selectors.items ≡ suc (index_count old.selectors.items)

abbrev pub SelectsElement
    : Place → Written → Passed → Selection → Result (Unit {0}) TypeFault → Selection → Passed → Type 0
SelectsElement place w s old (Ok _) new now = IsElementBehind place w s old new now
SelectsElement place w s old (Err why) new now =
    (joined : Bool) → (more : List Selector) → (left : List Written)
    → IsFault (on old (select.Index place joined ∷ more) (w ∷ left) s) why

-- the index expressions that are left behind those of what was selected
abbrev pub left_behind : Selection → List SyntaxExpr → List Written
left_behind made indexes = map expression (drop (length made.indexes.items) indexes)

-- one selector more: typing goes on behind it with the index expressions that are left then
pub record IsOneBehind (selector : Selector) (indexes : List SyntaxExpr) (s : Passed) (old new : Selection)
    (now : Passed) : Type 0 where
  pub own : Look
  pub looks : look_selection new ≡ look_selection old ++ own
  pub goes : (more : List Selector)
      → on old (selector ∷ more) (left_behind old indexes) s
      ≡ behind_marks own (on new more (left_behind new indexes) now)
  pub counted : IsCounted old → IsCounted new

abbrev pub SelectsOne
    : Selector → List SyntaxExpr → Passed → Selection → Result (Unit {0}) TypeFault → Selection → Passed → Type 0
SelectsOne selector indexes s old (Ok _) new now = IsOneBehind selector indexes s old new now
SelectsOne selector indexes s old (Err why) new now =
    (more : List Selector) → IsFault (on old (selector ∷ more) (left_behind old indexes) s) why

-- ---- values

-- the value of a component, by where its access begins, the sites of its variable, and the selectors
unfoldable pub value : Origin → ℕ × Option ℕ → List TreeSelector × TypeId → Passing Typed
value origin sites component = do
  found ← kind_now component.1
  value_of_kind found origin component.0 component.1 sites.0 sites.1

-- the value of what was selected of a variable that was entered
abbrev pub valued : Entered → Selection → Passing Typed
valued entered made s =
    behind_marks (Access entered.number ∷ look_selection made)
    (value (origin_by entered.root entered.base) (entered.defined, entered.site) (made.selectors.items, made.type_id) s)

-- the value of what a name denotes, a variable or a field of a record of a with
abbrev pub entire_value : Denotation → Place → Option SiteKind → Passing Typed
entire_value denotation place lead =
    variable_of place denotation >>= (λ variable. accessed variable [] [] place lead)
