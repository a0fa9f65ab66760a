use Rattle.std.proofs.lemmas.Bool.Decides.{nat_tests}
use Rattle.std.proofs.Common.{rules, ◌≡◌, ◌<◌, ◌+◌, ap₂, length, map, sym, ap, subst, ◌∙◌, arith, false}
use Rattle.std.proofs.Common.{IfOk, is_some, refl, true, ◌≤◌, [], Some, None, Ok}
use Rattle.syntax_tree.specs.declared.Designator.TheVariants as written
use Rattle.syntax_tree.specs.declared.Expr.TheViews.{out-Link}
use Rattle.types.specs.Types.{kind_of}
use Rattle.typed_tree.specs.declared.site.SiteKind.TheVariants.{SetMember}
use Rattle.typed_tree.specs.Kinds.{held_by}
use Rattle.typing_rules.specs.Targets.{fitting_value, members_test}
use Rattle.typing_rules.specs.declared.typed.Typed.{Typed}
use Rattle.expression_resolver.specs.Made.{AreHeldLinks, IsMemberBehind, MakesLinks, MakesRight, relates, typed_of}
use Rattle.expression_resolver.specs.Values.{look_value, tested_as, value_of}
use Rattle.expression_resolver.proofs.HeldForms.{held_passed_value}
use Rattle.expression_resolver.proofs.KeptKinds.{site_alike, tested_alike}
use Rattle.expression_resolver.proofs.MemberRows.{AreMembersFrom, member_stops, no_value, one_member, range_goes, range_next, range_stops, single_next}
use Rattle.expression_resolver.proofs.Operands.{fitting_kind, held_as, links_of, made_link, members_tested, more_links, relates_both}
use Rattle.std.proofs.lemmas.List.{length-map}
use Rattle.syntax_tree.specs.declared.Expr.TheViews.{out-Actual}
use Rattle.typed_tree.proofs.Looks.{look_function_call, look_passed_value}
use Rattle.typing.specs.Passing.{behind_marks}
use Rattle.typing.specs.Expressions.{Written, expression, written_actual, written_link, chain_behind, relation_behind}
use Rattle.typing.specs.Steps.{heading_at, variable_at}
use Rattle.typing.proofs.Rows.{behind_both, behind_nothing}
use Rattle.typing.proofs.Written.{typing_actual, typing_component}
use Rattle.typing.specs.Expressions as spec
use Rattle.typing.specs.Outcomes.{IsFault, Makes}
use Rattle.typing.specs.View.{denoted_of}
use Rattle.typed_tree.specs.declared.tree.Scalar.TheVariants as scalar
use Rattle.typed_tree.specs.Accesses.{index_count}
use Rattle.typed_tree.specs.Look.{look_expr, look_passed}
use Rattle.typing.proofs.Selectors.{index_passes}
use Rattle.typing_rules.specs.Operators.{result_of, relation_behind_value, may_relate}
use Rattle.expression_resolver.specs.Accesses.{SelectsOne}
use Rattle.expression_resolver.proofs.Selecting.{component_begins, component_stops, elements_take_one, element_selects, field_selects}
use Rattle.expression_resolver.proofs.Chains.{chain_begun, chain_joined, link_made, links_are, relation_begun, relation_joined, right_is}
use Rattle.expression_resolver.proofs.Named.{named_is}
use Rattle.expression_resolver.proofs.Actuals.{ArePassedFrom, one_held, one_passed}
use Rattle.expression_resolver.proofs.Calls.{value_by_host}
use Rattle.expression_resolver.proofs.PassedForms.{access_goes, no_width, ordinal_goes, other_kind}
use Rattle.expression_resolver.proofs.PassedForms.{variable_made}
use Rattle.expression_resolver.proofs.Scalars.{told_some}
use Rattle.typed_tree.specs.declared.fault.TypeFault.TheVariants.{Mismatch}
use Rattle.expression_resolver.proofs.expressions.+expressions.Goals as goal
use Rattle.expression_resolver.proofs.expressions.+expressions.Goals.{members-in-Single+in_ok-single-in-Single}
use Rattle.expression_resolver.proofs.expressions.+expressions.Goals.{members-in-Range+in-Some-get+in_ok-first-in-Range+in_ok-range-in-Range}

-- ---- a name

pub expression-returns-in_err-denotation-in-Name : goal.expression-returns-in_err-denotation-in-Name
expression-returns-in_err-denotation-in-Name t c =
    let named = named_is c.args.written.now c.in-Name.name c.in-Name.is c.args.lead c.args.typer.now in
    search (rules, named)

pub expression-returns-in-Routine : goal.expression-returns-in-Routine
unfolding spec.denoted
expression-returns-in-Routine t c =
    let named = named_is c.args.written.now c.in-Name.name c.in-Name.is c.args.lead c.args.typer.now in
    search (rules, named, behind_nothing)

pub expression-returns-in_default : goal.expression-returns-in_default
expression-returns-in_default t c =
    let named = named_is c.args.written.now c.in-Name.name c.in-Name.is c.args.lead c.args.typer.now in
    search (rules, named, behind_nothing)

-- ---- chains and relations

pub expression-returns-in_err-left-in-Chain : goal.expression-returns-in_err-left-in-Chain
expression-returns-in_err-left-in-Chain t c =
    let it = c.in-Chain in
    let begun = chain_begun c.args.written.now c.args.lead c.args.typer.now it.first it.rest c.deref-in-Chain-2.result.now it.is c.deref-in-Chain-2.ensures in
    search (rules, begun)

pub expression-returns-in_ok-left-in-Chain : goal.expression-returns-in_ok-left-in-Chain
expression-returns-in_ok-left-in-Chain t c =
    let it = c.in-Chain in
    let begun = chain_begun c.args.written.now c.args.lead c.args.typer.now it.first it.rest c.deref-in-Chain-2.result.now it.is c.deref-in-Chain-2.ensures in
    search (rules, begun, behind_both)

pub expression-returns-in_err-left-in-Relation : goal.expression-returns-in_err-left-in-Relation
expression-returns-in_err-left-in-Relation t c =
    let r = c.in-Relation in
    let begun = relation_begun c.args.written.now c.args.lead c.args.typer.now r.left r.operator r.place r.right c.deref-in-Relation.result.now
    r.right.value r.is c.deref-in-Relation.ensures refl in
    search (rules, begun)

pub expression-returns-in_ok-left-in-Relation : goal.expression-returns-in_ok-left-in-Relation
expression-returns-in_ok-left-in-Relation t c =
    let r = c.in-Relation in
    let begun = relation_begun c.args.written.now c.args.lead c.args.typer.now r.left r.operator r.place r.right c.deref-in-Relation.result.now
    c.deref-in-Relation-2.result.now r.is c.deref-in-Relation.ensures c.deref-in-Relation-2.ensures in
    search (rules, begun, behind_both)

-- ---- a component

pub component-returns-in_err-variable : goal.component-returns-in_err-variable
component-returns-in_err-variable t c =
    let stops = component_stops c.args.name.now c.args.selectors.now (map expression c.args.indexes.now) c.args.lead c.args.typer.now
    c.in_err-variable.field-0.0 c.in_err-variable.ensures.made in
    search (rules, stops)

pub component-returns-in_err-entered : goal.component-returns-in_err-entered
component-returns-in_err-entered t c =
    let begins = component_begins c.args.name.now c.args.selectors.now (map expression c.args.indexes.now) c.args.lead c.args.typer.now
    c.named_variable.new.typer (denoted_of c.in_ok-variable.variable) c.in_ok-variable.ensures.made in
    search (rules, begins)

pub component-returns-in_err-selection : goal.component-returns-in_err-selection
component-returns-in_err-selection t c =
    let begins = component_begins c.args.name.now c.args.selectors.now (map expression c.args.indexes.now) c.args.lead c.args.typer.now
    c.named_variable.new.typer (denoted_of c.in_ok-variable.variable) c.in_ok-variable.ensures.made in
    search (rules, begins)

pub component-returns : goal.component-returns
component-returns t c =
    let begins = component_begins c.args.name.now c.args.selectors.now (map expression c.args.indexes.now) c.args.lead c.args.typer.now
    c.named_variable.new.typer (denoted_of c.in_ok-variable.variable) c.in_ok-variable.ensures.made in
    search (rules, begins)

-- an element is selected
pub select_element-returns : goal.select_element-returns
select_element-returns t c =
    let made = c.args.selection.now in
    let e = c.in_ok-element.element in
    let site = c.in_ok-site.site in
    let now = c.index.new.typer in record {
      index = c.in_ok-site.index;
      goes = λ joined more left.
          index_passes made.selectors.items made.type_id more c.args.typer.now c.pass.new.self c.args.place joined (expression c.args.written.now) left
          c.pass.ensures e (sym c.element.ensures ∙ c.in_ok-element.was) site (look_expr c.in_ok-site.index) now c.in_ok-site.ensures.made
          ∙ ap (λ ones. behind_marks (look_expr c.in_ok-site.index) (spec.selected ones e.type_id more left now)) (sym c.in_ok-push.ensures.items);
      indexes = c.in_ok-push-2.ensures.items;
      counted =
          ap index_count c.in_ok-push.ensures.items
          ∙ elements_take_one made.selectors.items (record { site = site; tests = scalar.Ordinal; range = e.range }) e.cells;
    }

-- a selector more is a field
pub select-returns-in-Field : goal.select-returns-in-Field
select-returns-in-Field t c =
    subst (λ s. SelectsOne s c.args.indexes.now c.args.typer.now c.args.selection.now c.select_field.result c.select_field.new.selection
    c.select_field.new.typer) (sym c.in-Field.is)
    (field_selects c.args.indexes.now c.args.typer.now c.args.selection.now c.select_field.new.selection c.select_field.new.typer
    c.in-Field.name c.select_field.result c.select_field.ensures)

-- it is an index
pub select-returns-in-Some : goal.select-returns-in-Some
select-returns-in-Some t c =
    let taken = c.args.selection.now.indexes in
    let there : c.len.result < length c.args.indexes.now = grind (arith, nat_tests, c.in-Some.ensures.lookup.0) in
    let at : c.len.result ≡ length taken.items = grind (arith, c.len.ensures, taken.ok) in
    subst (λ s. SelectsOne s c.args.indexes.now c.args.typer.now c.args.selection.now c.select_element.result c.select_element.new.selection
    c.select_element.new.typer) (sym c.in-Index.is)
    (element_selects c.args.indexes.now c.args.typer.now c.args.selection.now c.select_element.new.selection c.select_element.new.typer
    c.in-Index.place c.in-Index.joined c.len.result at c.in-Some.index.now _ there c.in-Some.ensures.lookup.1
    c.select_element.result c.select_element.ensures)

-- ---- actual parameters

pub actual-returns-in-None-clause-made : goal.actual-returns-in-None-clause-made
unfolding spec.actual variable_at
actual-returns-in-None-clause-made t c = λ callee position.
    let read = typing_actual c.args.written.now in
    let free : is_some (out-Actual c.args.written.now).width ≡ false = search rules in
    let bare = no_width (expression (out-Actual c.args.written.now).value).first (out-Actual c.args.written.now).width free in
    search (rules, read, bare, behind_nothing)

pub actual-returns-in-VariableParameter-clause-made : goal.actual-returns-in-VariableParameter-clause-made
unfolding spec.actual variable_at
actual-returns-in-VariableParameter-clause-made t c = λ callee position.
    let read = typing_actual c.args.written.now in
    let free : is_some (out-Actual c.args.written.now).width ≡ false = search rules in
    let bare = no_width (expression (out-Actual c.args.written.now).value).first (out-Actual c.args.written.now).width free in
    let made = c.passed_variable.ensures.made callee position in
    search (rules, read, bare, made, behind_nothing)

pub actual-returns-in_default-clause-made : goal.actual-returns-in_default-clause-made
unfolding spec.actual variable_at
actual-returns-in_default-clause-made t c = λ callee position.
    let read = typing_actual c.args.written.now in
    let free : is_some (out-Actual c.args.written.now).width ≡ false = search rules in
    let bare = no_width (expression (out-Actual c.args.written.now).value).first (out-Actual c.args.written.now).width free in
    let other = other_kind c.in-Some.formal.kind c.in_default.not-VariableParameter in
    let made = c.passed_value.ensures.made callee position in
    search (rules, read, bare, other, made, behind_nothing)

-- one more is made
pub actuals_for-loop-i-preserved : goal.actuals_for-loop-i-preserved
actuals_for-loop-i-preserved t c =
    let here = c.loop-i in
    let within : here.i < length c.args.actuals.now = search rules in
    let rooted : here.i < length c.args.roots.now = grind (arith, within, c.requires) in
    record {
      from =
          subst (λ made. ArePassedFrom c.args.roots.now c.args.actuals.now c.args.typer.now (here.i + 1) made c.actual.new.typer)
          (sym c.push_reserved.ensures.items)
          (one_passed c.args.roots.now c.args.actuals.now c.args.typer.now here.i here.made.items here.typer here.invariant.from
          _ _ rooted within (search rules) (search rules) c.in_ok-actual.field-0 c.actual.new.typer c.in_ok-actual.ensures.made);
      held = one_held here.made.items c.in_ok-actual.field-0 c.push_reserved.new.self.items c.push_reserved.ensures.items here.invariant.held
          c.in_ok-actual.ensures.held;
      count = omega (arith, c.push_reserved.ensures.len);
      room = omega (arith, c.push_reserved.ensures.capacity);
    }

-- ---- values for value parameters

pub passed_value-returns-in-Some-Structured-clause-made : goal.passed_value-returns-in-Some-Structured-clause-made
unfolding spec.passed_value spec.kind_now
passed_value-returns-in-Some-Structured-clause-made t c = λ callee position.
    let made = c.passed_whole.ensures.made callee position in
    search (rules, made, behind_nothing)

pub passed_ordinal-returns-in_err-value-clause-made : goal.passed_ordinal-returns-in_err-value-clause-made
passed_ordinal-returns-in_err-value-clause-made t c = λ callee position.
    let goes = ordinal_goes c.args.type_id (expression c.args.written.now) callee position c.args.typer.now in
    search (rules, goes)

pub passed_ordinal-returns-clause-made : goal.passed_ordinal-returns-clause-made
passed_ordinal-returns-clause-made t c = λ callee position.
    let goes = ordinal_goes c.args.type_id (expression c.args.written.now) callee position c.args.typer.now in
    search (rules, goes, look_passed_value)

-- ---- variables for variable parameters

pub passed_access-returns-in_err-reached-clause-made : goal.passed_access-returns-in_err-reached-clause-made
passed_access-returns-in_err-reached-clause-made t c = λ callee position.
    let goes = access_goes c.args.name.now c.args.selectors.now (map expression c.args.indexes.now) c.args.wanted callee position c.args.typer.now
    c.named_variable.new.typer (denoted_of c.in_ok-variable.variable) c.in_ok-variable.ensures.made in
    search (rules, goes)

pub passed_access-returns-in-Err-clause-made : goal.passed_access-returns-in-Err-clause-made
passed_access-returns-in-Err-clause-made t c = λ callee position.
    let goes = access_goes c.args.name.now c.args.selectors.now (map expression c.args.indexes.now) c.args.wanted callee position c.args.typer.now
    c.named_variable.new.typer (denoted_of c.in_ok-variable.variable) c.in_ok-variable.ensures.made in
    search (rules, goes)

pub passed_access-returns-clause-made : goal.passed_access-returns-clause-made
passed_access-returns-clause-made t c = λ callee position.
    let goes = access_goes c.args.name.now c.args.selectors.now (map expression c.args.indexes.now) c.args.wanted callee position c.args.typer.now
    c.named_variable.new.typer (denoted_of c.in_ok-variable.variable) c.in_ok-variable.ensures.made in
    let looks = variable_made c.args.wanted c.in_ok-reached.reached (denoted_of c.in_ok-variable.variable).origin callee position
    c.in_ok-reached.ensures.origin c.in_ok-reached.ensures.counted in
    search (rules, goes, looks)

pub passed_variable-returns-in-Component-clause-made : goal.passed_variable-returns-in-Component-clause-made
passed_variable-returns-in-Component-clause-made t c =
    let component = c.in-Component in
    let s = c.args.typer.now in
    λ callee position.
    subst (λ o. Makes (λ _. tt) (λ made. look_passed made callee position) o c.passed_access-in-Component.result c.passed_access-in-Component.new.typer)
    (sym (ap (λ w. (expression w).passing c.args.wanted callee position s) component.is
    ∙ ap (λ (e : Written). e.passing c.args.wanted callee position s) (typing_component component.name component.selectors component.indexes)
    ∙ ap₂ (λ selectors indexes. spec.passed_variable component.name selectors (map expression indexes) c.args.wanted callee position s)
    (sym c.deref.ensures.value) (sym c.deref-in-Component.ensures.value)))
    (c.passed_access-in-Component.ensures.made callee position)

-- ---- calls

pub function_value-returns-in-Err : goal.function_value-returns-in-Err
unfolding spec.function_value
function_value-returns-in-Err t c =
    let by = value_by_host c.args.place c.in_ok-site.site c.in_ok-made.made.root c.routine_call.new.typer in
    search (rules, by)

pub function_value-returns : goal.function_value-returns
unfolding spec.function_value
function_value-returns t c =
    let by = value_by_host c.args.place c.in_ok-site.site c.in_ok-made.made.root c.routine_call.new.typer in
    search (rules, by, look_function_call)

pub routine_call-returns-in_err-found : goal.routine_call-returns-in_err-found
unfolding spec.routine_call heading_at
routine_call-returns-in_err-found t c = search (rules, length-map)

pub routine_call-returns-in_err-passed : goal.routine_call-returns-in_err-passed
unfolding spec.routine_call heading_at
routine_call-returns-in_err-passed t c =
    let stops = c.in_err-passed.ensures.made c.args.block in
    search (rules, length-map, stops)

pub routine_call-returns : goal.routine_call-returns
unfolding spec.routine_call heading_at
routine_call-returns t c = search (rules, length-map)

-- ---- a value that is assigned

pub fitted-returns-clause-kept : goal.fitted-returns-clause-kept
fitted-returns-clause-kept t c = λ id.
    tested_alike c.args.written.now None (typed_of c.in_ok-made.made) (look_value c.in_ok-made.made.value) c.site.new.self c.expression.new.typer
    c.in_ok-made.ensures id
    ∙ site_alike c.test_kind.result c.args.place c.in_ok-site.site c.args.typer.now c.site.new.self c.in_ok-site.ensures.taken id

pub fitted-returns-clause-held : goal.fitted-returns-clause-held
fitted-returns-clause-held t c =
    let value = value_of c.in_ok-made.made.value in
    let target = c.args.type_id in
    let new = c.expression.new.typer in
    let fits = told_some (fitting_value new.types target value) (Mismatch c.args.place) c.in_ok-range.range (search rules) in
    let tests : c.tested_as-tests.result ≡ tested_as (kind_of c.args.typer.now.types target) = search rules in
    let kind = (fitting_kind new.types target c.in_ok-range.range value fits).1 in
    let alike = tested_alike c.args.written.now None (typed_of c.in_ok-made.made) (look_value c.in_ok-made.made.value) c.site.new.self new
    c.in_ok-made.ensures target in
    let first = site_alike c.test_kind.result c.args.place c.in_ok-site.site c.args.typer.now c.site.new.self c.in_ok-site.ensures.taken target in
    held_as c.tested_as-tests.result value (held_by c.in_ok-range.value) (kind ∙ alike ∙ first ∙ sym tests) c.in_ok-range.ensures.1.held

pub passed_set-returns-clause-held : goal.passed_set-returns-clause-held
passed_set-returns-clause-held t c =
    let value = value_of c.in_ok-made.made.value in
    let new = c.expression.new.typer in
    let test : members_test new.types c.args.type_id c.first_place.result (typed_of c.in_ok-made.made) ≡ Ok c.in_ok-fits.fits = search rules in
    let told = members_tested new.types c.args.type_id c.first_place.result (typed_of c.in_ok-made.made) c.in_ok-fits.fits test in
    let kind = (fitting_kind new.types c.args.type_id c.in_ok-fits.fits.range value told.1).1 in
    let alike = tested_alike c.args.written.now (Some SetMember) (typed_of c.in_ok-made.made) (look_value c.in_ok-made.made.value) c.args.typer.now new
    c.in_ok-made.ensures c.args.type_id in
    held_passed_value c.in_ok-fits.value c.in_ok-fits.fits
    ∙ held_as c.in_ok-fits.fits.tests value (held_by c.in_ok-fits.value) (kind ∙ alike ∙ c.requires ∙ sym told.0) c.in_ok-fits.ensures.1.held

-- by the kind of the formal parameter's type
pub passed_value-returns-in-Some-Set-clause-made : goal.passed_value-returns-in-Some-Set-clause-made
unfolding spec.passed_value spec.kind_now
passed_value-returns-in-Some-Set-clause-made t c = λ callee position.
    let made = c.passed_set.ensures.made callee position in
    search (rules, made, behind_nothing)

pub passed_value-returns-in-Some-Ordinal-clause-made : goal.passed_value-returns-in-Some-Ordinal-clause-made
unfolding spec.passed_value spec.kind_now
passed_value-returns-in-Some-Ordinal-clause-made t c = λ callee position.
    let made = c.passed_ordinal.ensures.made callee position in
    search (rules, made, behind_nothing)

pub passed_value-returns-in-None-clause-made : goal.passed_value-returns-in-None-clause-made
unfolding spec.passed_value spec.kind_now
passed_value-returns-in-None-clause-made t c = λ callee position.
    let made = c.passed_ordinal-in-None.ensures.made callee position in
    search (rules, made, behind_nothing)

-- ---- operators

pub link-returns-clause-held : goal.link-returns-clause-held
link-returns-clause-held t c =
    let right = value_of c.in_ok-right.right.value in
    let gives = told_some (result_of (out-Link c.args.written.now).operator c.args.left.value right) (Mismatch (out-Link c.args.written.now).place)
    c.in_ok-value.value (search rules) in
    made_link (record { number = c.in_ok-number.number; operation = c.in_ok-operation.operation; operand = c.in_ok-value.operand }) c.args.left.value right
    c.in_ok-value.value
    (links_of (out-Link c.args.written.now).operator (out-Link c.args.written.now).place c.args.typer.now c.in_ok-operation.operation []
    c.operation_behind.new.self c.in_ok-value.value c.args.left.value right c.in_ok-operation.ensures gives)
    c.in_ok-value.ensures.1.held

pub links-loop-written-preserved : goal.links-loop-written-preserved
links-loop-written-preserved t c =
    let here = c.loop-written in record {
      from =
          link_made c.args.rest.now c.args.left c.args.typer.now here.written-index here.links.items here.typed here.typer here.invariant.from
          c.written-item.result c.loop-written-test.true c.written-item.is c.in_ok-link.link c.in_ok-link.now c.link.new.typer
          c.push_reserved.new.self.items c.push_reserved.ensures.items c.in_ok-link.ensures.made;
      held =
          subst (AreHeldLinks c.args.left.value c.in_ok-link.now.value) (sym c.push_reserved.ensures.items)
          (more_links c.args.left.value here.typed.value c.in_ok-link.now.value here.links.items c.in_ok-link.link here.invariant.held
          c.in_ok-link.ensures.held);
      count = omega (arith, c.push_reserved.ensures.len);
      room = omega (arith, c.push_reserved.ensures.capacity);
    }

pub chain-chain-requires : goal.chain-chain-requires
chain-chain-requires t c =
    let made = c.links-rest.result in record {
      held = links_are (value_of c.args.left.value) made
          (subst (λ (l : Typed). IfOk made (λ one. AreHeldLinks l.value one.typed.value one.links.items)) c.typed.ensures c.links-rest.ensures.held);
    }

pub chain-returns : goal.chain-returns
chain-returns t c =
    let rest = map written_link c.args.rest.now in
    let old = c.args.typer.now in
    let new = c.links-rest.new.typer in
    let made = subst (λ l. MakesLinks (spec.links l rest old) c.links-rest.result new) c.typed.ensures c.links-rest.ensures.made in
    chain_joined c.args.left c.args.place rest old new c.links-rest.result c.chain.result made c.chain.ensures

pub relation-relation-requires : goal.relation-relation-requires
relation-relation-requires t c =
    let made = c.right_operand-right.result in record {
      related = right_is (value_of c.args.left.value) made
          (subst (λ (l : Typed). IfOk made (λ one. relates one.operation l.value (value_of one.operand.value) ≡ true)) c.typed.ensures
          c.right_operand-right.ensures.related);
    }

pub relation-returns : goal.relation-returns
relation-returns t c =
    let behind_it = relation_behind c.args.operator c.args.place (expression c.args.right.now) in
    let old = c.args.typer.now in
    let new = c.right_operand-right.new.typer in
    let made = subst (λ l. MakesRight l (behind_it l old) c.right_operand-right.result new) c.typed.ensures c.right_operand-right.ensures.made in
    relation_joined c.args.left (behind_it (typed_of c.args.left) old) c.right_operand-right.result c.relation.result new made c.relation.ensures

pub right_operand-returns-clause-related : goal.right_operand-returns-clause-related
right_operand-returns-clause-related t c =
    let r = typed_of c.in_ok-operand.operand in
    let does : relation_behind_value c.args.operator c.args.left.value ≡ Some c.in_ok-operation.operation = search rules in
    let may : may_relate c.expression.new.typer.types c.args.operator c.args.left r ≡ true = search rules in
    relates_both c.expression.new.typer.types c.args.operator c.in_ok-operation.operation c.args.left r does may

-- ---- members

pub members-returns-in_default-clause-made : goal.members-returns-in_default-clause-made
members-returns-in_default-clause-made t c =
    let here = c.loop-designator in
    let taken : c.len-taken.result ≡ length here.made.values.items = grind (arith, c.len-taken.ensures, here.made.values.ok) in
    let none : length c.args.values.now ≤ c.len-taken.result = grind (arith, nat_tests, c.in_default.ensures.lookup.0) in
    no_value c.args.designators.now c.args.values.now c.args.typer.now here.designator-index here.made here.typer here.invariant (omega (arith, taken, none))

pub members-loop-designator-preserved : goal.members-loop-designator-preserved
members-loop-designator-preserved t c =
    let here = c.loop-designator in
    let first = c.in-Some.first.now in
    let at : c.len-taken.result ≡ length here.made.values.items = grind (arith, c.len-taken.ensures, here.made.values.ok) in
    let there : c.len-taken.result < length c.args.values.now = grind (arith, nat_tests, c.in-Some.ensures.lookup.0) in
    let new = c.match-designator in
    elim c.match-designator.branch [
      | members-in-Single+in_ok-single-in-Single w ↦
          subst (λ m. AreMembersFrom c.args.designators.now c.args.values.now c.args.typer.now (here.designator-index + 1) m new.typer) (sym w.made-is)
          (subst (λ s. AreMembersFrom c.args.designators.now c.args.values.now c.args.typer.now (here.designator-index + 1) w.single.new.made s)
          (sym w.typer-is)
          (one_member c.args.designators.now c.args.values.now c.args.typer.now here.designator-index here.made here.typer here.invariant (expression first)
          None 1
          (single_next c.args.designators.now c.args.values.now c.args.typer.now here.designator-index here.made here.typer here.invariant _ first
          c.len-taken.result c.loop-designator-test.true at there c.in-Some.ensures.lookup.1 written.Single w.in-Single.is)
          w.single.new.made w.single.new.typer w.in_ok-single-in-Single.ensures))
      | members-in-Range+in-Some-get+in_ok-first-in-Range+in_ok-range-in-Range w ↦
          subst (λ m. AreMembersFrom c.args.designators.now c.args.values.now c.args.typer.now (here.designator-index + 1) m new.typer) (sym w.made-is)
          (subst (λ s. AreMembersFrom c.args.designators.now c.args.values.now c.args.typer.now (here.designator-index + 1) w.range.new.made s) (sym w.typer-is)
          (one_member c.args.designators.now c.args.values.now c.args.typer.now here.designator-index here.made here.typer here.invariant (expression first)
          (Some (expression w.in-Some-get.last.now)) 2
          (range_next c.args.designators.now c.args.values.now c.args.typer.now here.designator-index here.made here.typer here.invariant _ first
          c.len-taken.result c.loop-designator-test.true at there c.in-Some.ensures.lookup.1 written.Single w.in-Some-get.last.now w.in-Some-get.last.now
          w.in-Range.is w.in-Some-get.ensures.lookup.3.0 w.in-Some-get.ensures.lookup.1)
          w.range.new.made w.range.new.typer
          (subst (λ o. IsMemberBehind 2 o here.made w.range.new.made w.range.new.typer)
          (sym (range_goes here.made.host (expression first) (expression w.in-Some-get.last.now) w.in_ok-first-in-Range.first here.typer
          w.first_member.new.typer w.in_ok-first-in-Range.ensures))
          w.in_ok-range-in-Range.ensures)))
    ]

-- the first value of a range is refused
pub members-returns-in_err-first-in-Range-clause-made : goal.members-returns-in_err-first-in-Range-clause-made
members-returns-in_err-first-in-Range-clause-made t c =
    let here = c.loop-designator in
    let first = c.in-Some.first.now in
    let last = c.in-Some-get.last.now in
    let at : c.len-taken.result ≡ length here.made.values.items = grind (arith, c.len-taken.ensures, here.made.values.ok) in
    let there : c.len-taken.result < length c.args.values.now = grind (arith, nat_tests, c.in-Some.ensures.lookup.0) in
    let next = range_next c.args.designators.now c.args.values.now c.args.typer.now here.designator-index here.made here.typer here.invariant _ first
    c.len-taken.result c.loop-designator-test.true at there c.in-Some.ensures.lookup.1 written.Single last last c.in-Range.is
    c.in-Some-get.ensures.lookup.3.0 c.in-Some-get.ensures.lookup.1 in
    let stops = member_stops c.args.designators.now c.args.values.now c.args.typer.now here.designator-index here.made here.typer here.invariant
    (expression first) (Some (expression last)) 2 next c.in_err-first-in-Range.field-0.0
    (range_stops here.made.host (expression first) (expression last) here.typer c.in_err-first-in-Range.field-0.0 c.in_err-first-in-Range.ensures) in
    search (rules, stops)

-- or its last one
pub members-returns-in_err-range-in-Range-clause-made : goal.members-returns-in_err-range-in-Range-clause-made
members-returns-in_err-range-in-Range-clause-made t c =
    let here = c.loop-designator in
    let first = c.in-Some.first.now in
    let last = c.in-Some-get.last.now in
    let at : c.len-taken.result ≡ length here.made.values.items = grind (arith, c.len-taken.ensures, here.made.values.ok) in
    let there : c.len-taken.result < length c.args.values.now = grind (arith, nat_tests, c.in-Some.ensures.lookup.0) in
    let next = range_next c.args.designators.now c.args.values.now c.args.typer.now here.designator-index here.made here.typer here.invariant _ first
    c.len-taken.result c.loop-designator-test.true at there c.in-Some.ensures.lookup.1 written.Single last last c.in-Range.is
    c.in-Some-get.ensures.lookup.3.0 c.in-Some-get.ensures.lookup.1 in
    let why = c.in_err-range-in-Range.field-0.0 in
    let goes = range_goes here.made.host (expression first) (expression last) c.in_ok-first-in-Range.first here.typer c.first_member.new.typer
    c.in_ok-first-in-Range.ensures in
    let stops = member_stops c.args.designators.now c.args.values.now c.args.typer.now here.designator-index here.made here.typer here.invariant
    (expression first) (Some (expression last)) 2 next why (subst (λ o. IsFault o why) (sym goes) c.in_err-range-in-Range.ensures) in
    search (rules, stops)
