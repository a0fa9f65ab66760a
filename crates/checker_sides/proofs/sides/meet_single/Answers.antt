use Rattle.std.proofs.Common.{rules, ◌≡◌, ◌∙◌, ◌==◌, ◌<◌, sym, ap, ap₂, map, length, Bool, true, false, Option, Some}
use Rattle.std.proofs.lemmas.Bool.{eqb-true}
use Rattle.typed_tree.specs.declared.tree.Tree.{Tree}
use Rattle.checker_state.specs.Conditions.{condition_of, conjunct_of, subject_of, turn_tellings}
use Rattle.checker_trail.specs.Trail.{seen}
use Rattle.checker_trail.proofs.ConditionsOf.{ordinals_of}
use Rattle.checker_trail.proofs.Ways.{moves-as, moves-stay}
use Rattle.checker_sides.specs.Sides.{all_met, expression_side, operation_met}
use Rattle.checker_sides.specs.declared.sides.Side.{Side}
use Rattle.checker_sides.proofs.SidesMet.{met-empty, some-there, turns-not_one, turns-one, turns-untold}
use Rattle.checker_sides.proofs.sides.meet_single.Goals as goal

pub returns-then-rest-ne1 : goal.returns-then-rest-ne1
returns-then-rest-ne1 c =
    let state = c.args.state.now in
    let tree = state.table.now in
    let ordinal = ordinals_of state in
    let left = subject_of (condition_of ordinal c.args.first.now) in
    moves-stay (all_met tree (turn_tellings left (map (conjunct_of ordinal) c.args.rest.now) c.args.truth) c.args.notes.now) state
    (turns-not_one tree ordinal left c.args.rest.now c.args.truth c.args.notes.now (seen state) c.if-rest-ne1.true)

pub returns-then-is_empty : goal.returns-then-is_empty
returns-then-is_empty c =
    let state = c.args.state.now in
    let tree = state.table.now in
    let ordinal = ordinals_of state in
    let tellings = turn_tellings (subject_of (condition_of ordinal c.args.first.now)) (map (conjunct_of ordinal) c.args.rest.now) c.args.truth in
    let is : (length c.args.notes.now == 0) ≡ true = search rules in
    moves-stay (all_met tree tellings c.args.notes.now) state
    (met-empty tree tellings c.args.notes.now (seen state) (eqb-true (length c.args.notes.now) 0 is))

pub returns : goal.returns
returns c =
    let state = c.args.state.now in
    let tree = state.table.now in
    let ordinal = ordinals_of state in
    let first = c.args.first.now in
    let truth = c.in-Some.truth in
    let link = c.index-rest-0.result in
    let note = c.index-notes-0.result in
    let is : (length c.args.notes.now == 0) ≡ false = search rules in
    let whole = λ (told : Option Bool). turn_tellings (subject_of (condition_of ordinal first)) (map (conjunct_of ordinal) c.args.rest.now) told in
    moves-as (all_met tree (whole c.args.truth) c.args.notes.now) c.meet_both.ensures
    (ap₂ (λ (left right : Option Side). operation_met (Some truth) link.operation left right (note.left, note.right) (seen state))
    (c.of-left.ensures ∙ ap (λ (own : Tree). expression_side own first) c.table.ensures)
    (c.of-right.ensures ∙ ap (λ (own : Tree). expression_side own link.operand) c.table-2.ensures)
    ∙ turns-one tree first c.args.rest.now truth c.args.notes.now (seen state) link note c.if-rest-ne1.false (sym c.index-rest-0.is)
    (some-there (length c.args.notes.now) is) (sym c.index-notes-0.is)
    ∙ ap (λ (told : Option Bool). all_met tree (whole told) c.args.notes.now (seen state)) (sym c.in-Some.is))

pub returns-in_default : goal.returns-in_default
returns-in_default c =
    let state = c.args.state.now in
    let tree = state.table.now in
    let ordinal = ordinals_of state in
    let left = subject_of (condition_of ordinal c.args.first.now) in
    moves-stay (all_met tree (turn_tellings left (map (conjunct_of ordinal) c.args.rest.now) c.args.truth) c.args.notes.now) state
    (turns-untold tree ordinal left c.args.rest.now c.args.truth c.args.notes.now (seen state) c.in_default.not-Some)
