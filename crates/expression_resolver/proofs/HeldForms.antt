-- What the value of each form is, as code builds it: an ordinal or a set, whose operands are as they are taken.
use Rattle.std.proofs.Common.{◌≡◌, ℕ, ℤ, ◌&&◌, Bool, true, List, [], ◌∷◌, ◌++◌, map, Box, Vec, refl, sym, ap, ap₂, ◌∙◌}
use Rattle.std.specs.declared.alloc.Global.{Global}
use Rattle.types.specs.declared.form.TypeId.{TypeId}
use Rattle.typed_tree.specs.declared.tree.Access.{Access}
use Rattle.typed_tree.specs.declared.tree.Designator.{Designator}
use Rattle.typed_tree.specs.declared.tree.InputTest.{InputTest}
use Rattle.typed_tree.specs.declared.tree.Monadic.{Monadic as MonadicOperation}
use Rattle.typed_tree.specs.declared.tree.RangeTest.{RangeTest}
use Rattle.typed_tree.specs.declared.tree.Scalar.{Scalar}
use Rattle.typed_tree.specs.declared.tree.Scalar.TheVariants as scalar
use Rattle.typed_tree.specs.declared.tree.Relation.{Relation}
use Rattle.typed_tree.specs.declared.tree.Whole.{Whole}
use Rattle.typed_tree.specs.declared.tree.Call.{Call}
use Rattle.typed_tree.specs.declared.tree.Expr.{Expr}
use Rattle.typed_tree.specs.declared.tree.Passed.{Passed}
use Rattle.typed_tree.specs.declared.tree.Passed.TheVariants as actual
use Rattle.typed_tree.specs.declared.tree.Link.{Link}
use Rattle.typed_tree.specs.declared.tree.Expr.TheVariants as tree
use Rattle.typed_tree.specs.declared.tree.Expr.TheOpen as layer
use Rattle.typed_tree.specs.declared.tree.Expr.TheViews.{roll-Link}
use Rattle.typed_tree.specs.declared.tree.Expr.TheFolds.{fold-roll-Expr, fold-roll-Passed, fold-roll-Link}
use Rattle.typed_tree.specs.Kinds.{Held, are_ordinal_indexes, expression_held, given, held_by, held_where, is_held, is_held_passed, is_held_value}
use Rattle.typed_tree.specs.Kinds.{is_ordinal_expr, is_same, link_held, links_held, passed_held, taken_left, taken_right}
use Rattle.typed_tree.proofs.Looks.{look_input, look_variable}
use Rattle.expression_resolver.specs.Made.{held_behind}
use Rattle.expression_resolver.specs.Values.{are_held_actuals}

abbrev Linking : Type 0
Linking = Held → Held

-- a value whose operands are as they are taken
pub same_scalar : (one : Scalar) → is_same one one ≡ true
same_scalar scalar.Ordinal = refl
same_scalar scalar.Set = refl

held_so : (one : Scalar) (test : Bool) → test ≡ true → is_held one (held_where test one) ≡ true
held_so one test so = ap (λ b. is_held one (held_where b one)) so ∙ same_scalar one

-- ---- expressions

pub held_constant : (number : ℕ) (value : ℤ) → is_held scalar.Ordinal (held_by (tree.Constant number value)) ≡ true
held_constant number value =
    ap (λ e. is_held scalar.Ordinal (held_by e)) (sym (tree.rolls-Constant number value))
    ∙ ap (is_held scalar.Ordinal) (fold-roll-Expr Held Bool Linking expression_held passed_held link_held (layer.Constant number value))

pub held_variable : (access : Access) (indexes : Vec Expr Global) (holds : Scalar) (defined : ℕ) → are_ordinal_indexes indexes.items ≡ true
    → is_held holds (held_by (tree.Variable access indexes holds defined)) ≡ true
held_variable access indexes holds defined so =
    ap (λ e. is_held holds (held_by e)) (sym (tree.rolls-Variable access indexes holds defined))
    ∙ ap (is_held holds) (fold-roll-Expr Held Bool Linking expression_held passed_held link_held (layer.Variable access indexes holds defined))
    ∙ held_so holds (are_ordinal_indexes indexes.items) so

pub held_monadic : (number : ℕ) (operation : MonadicOperation) (operand : Box Expr Global) → is_ordinal_expr operand.value ≡ true
    → is_held scalar.Ordinal (held_by (tree.Monadic number operation operand)) ≡ true
held_monadic number operation operand so =
    ap (λ e. is_held scalar.Ordinal (held_by e)) (sym (tree.rolls-Monadic number operation operand))
    ∙ ap (is_held scalar.Ordinal) (fold-roll-Expr Held Bool Linking expression_held passed_held link_held (layer.Monadic number operation operand))
    ∙ held_so scalar.Ordinal (is_ordinal_expr operand.value) so

pub held_chain : (first : Box Expr Global) (rest : Vec Link Global)
    → held_by (tree.Chain first rest) ≡ links_held (held_by first.value) (map held_behind rest.items)
held_chain first rest =
    ap held_by (sym (tree.rolls-Chain first rest)) ∙ fold-roll-Expr Held Bool Linking expression_held passed_held link_held (layer.Chain first rest)

pub held_compare : (number : ℕ) (relation : Relation) (left : Whole) (left_indexes : Vec Expr Global) (right : Whole) (right_indexes : Vec Expr Global)
    → is_held_value left left_indexes.items ≡ true → is_held_value right right_indexes.items ≡ true
    → is_held scalar.Ordinal (held_by (tree.Compare number relation left left_indexes right right_indexes)) ≡ true
held_compare number relation left left_indexes right right_indexes so also =
    ap (λ e. is_held scalar.Ordinal (held_by e)) (sym (tree.rolls-Compare number relation left left_indexes right right_indexes))
    ∙ ap (is_held scalar.Ordinal)
    (fold-roll-Expr Held Bool Linking expression_held passed_held link_held (layer.Compare number relation left left_indexes right right_indexes))
    ∙ held_so scalar.Ordinal (is_held_value left left_indexes.items && is_held_value right right_indexes.items) (ap₂ (λ a b. a && b) so also)

pub held_call : (call : Call) (actuals : Vec Passed Global) → are_held_actuals actuals.items ≡ true
    → is_held scalar.Ordinal (held_by (tree.Call call actuals)) ≡ true
held_call call actuals so =
    ap (λ e. is_held scalar.Ordinal (held_by e)) (sym (tree.rolls-Call call actuals))
    ∙ ap (is_held scalar.Ordinal) (fold-roll-Expr Held Bool Linking expression_held passed_held link_held (layer.Call call actuals))
    ∙ held_so scalar.Ordinal (are_held_actuals actuals.items) so

pub held_input : (number : ℕ) (asks : InputTest) → is_held scalar.Ordinal (held_by (tree.Input number asks)) ≡ true
held_input number asks =
    ap (λ e. is_held scalar.Ordinal (held_by e)) (sym (tree.rolls-Input number asks))
    ∙ ap (is_held scalar.Ordinal) (fold-roll-Expr Held Bool Linking expression_held passed_held link_held (layer.Input number asks))

-- what is asked of the input
pub ruleset input_forms = (held_input, look_input)

pub held_set : (number : ℕ) (designators : Vec Designator Global) (members : Vec Expr Global) → are_ordinal_indexes members.items ≡ true
    → is_held scalar.Set (held_by (tree.Set number designators members)) ≡ true
held_set number designators members so =
    ap (λ e. is_held scalar.Set (held_by e)) (sym (tree.rolls-Set number designators members))
    ∙ ap (is_held scalar.Set) (fold-roll-Expr Held Bool Linking expression_held passed_held link_held (layer.Set number designators members))
    ∙ held_so scalar.Set (are_ordinal_indexes members.items) so

-- what a variable holds that is read
pub ruleset read_forms = (held_variable, look_variable)

-- ---- actual parameters

pub held_passed_value : (value : Expr) (fits : RangeTest) → is_held_passed (actual.Value value fits) ≡ is_held fits.tests (held_by value)
held_passed_value value fits =
    ap is_held_passed (sym (actual.rolls-Value value fits)) ∙ fold-roll-Passed Held Bool Linking expression_held passed_held link_held (layer.Value value fits)

pub held_passed_whole : (type_id : TypeId) (value : Whole) (indexes : Vec Expr Global)
    → is_held_passed (actual.Whole type_id value indexes) ≡ is_held_value value indexes.items
held_passed_whole type_id value indexes =
    ap is_held_passed (sym (actual.rolls-Whole type_id value indexes))
    ∙ fold-roll-Passed Held Bool Linking expression_held passed_held link_held (layer.Whole type_id value indexes)

pub held_access : (type_id : TypeId) (access : Access) (indexes : Vec Expr Global)
    → is_held_passed (actual.Reference type_id access indexes) ≡ are_ordinal_indexes indexes.items
held_access type_id access indexes =
    ap is_held_passed (sym (actual.rolls-Reference type_id access indexes))
    ∙ fold-roll-Passed Held Bool Linking expression_held passed_held link_held (layer.Reference type_id access indexes)

-- ---- operators

-- an operator with its right operand, as it is made, behind a left one
pub held_linked : (link : layer.Link-F Expr Passed Link) (left : Held)
    → held_behind (roll-Link link) left
    ≡ held_where (is_held (taken_left link.operation) left && is_held (taken_right link.operation) (held_by link.operand)) (given link.operation)
held_linked link left = ap (λ behind. behind left) (fold-roll-Link Held Bool Linking expression_held passed_held link_held link)

-- operators, and then others
pub links_more : (left : Held) (links more : List (Held → Held)) → links_held left (links ++ more) ≡ links_held (links_held left links) more
links_more left [] more = refl
links_more left (link ∷ links) more = links_more (link left) links more
