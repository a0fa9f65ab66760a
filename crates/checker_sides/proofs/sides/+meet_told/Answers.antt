use Rattle.std.proofs.Common.{rules, ◌≡◌, ◌∙◌, ◌++◌, ◌+◌, ℕ, sym, ap, ap₂, map, length, drop, refl, subst, Bool, true, false, List, [], Option}
use Rattle.std.specs.List.{list_all}
use Rattle.std.proofs.lemmas.List.{drop_all}
use Rattle.std.specs.declared.alloc.Global.{Global}
use Rattle.std.specs.declared.boxed.Box.{Box}
use Rattle.std.specs.declared.vec.Vec.{Vec}
use Rattle.checker_expressions.specs.declared.noting.Noted.{Noted}
use Rattle.typed_tree.specs.declared.tree.Expr.{Expr}
use Rattle.typed_tree.specs.declared.tree.Link.{Link}
use Rattle.checker_state.specs.Conditions.{Condition, Telling, all_tellings, condition_of, conjunct_of, joins, subject_of, taken, turn_tellings}
use Rattle.checker_state.proofs.FormsOf.{condition-Monadic}
use Rattle.checker_trail.specs.Trail.{Moves, seen}
use Rattle.checker_trail.proofs.ConditionsOf.{ordinals_of}
use Rattle.checker_trail.proofs.Ways.{moves-as, moves-stay}
use Rattle.checker_sides.specs.Sides.{all_met}
use Rattle.checker_sides.proofs.SidesMet.{left-both, met-then, tellings-apart, tellings-inside, tellings-more, turns-many}
use Rattle.checker_sides.proofs.sides.+meet_told.Goals as goal

pub returns-then-not-join-clause-goes : goal.returns-then-not-join-clause-goes
returns-then-not-join-clause-goes t c =
    let state = c.args.state.now in
    let tree = state.table.now in
    let ordinal = ordinals_of state in
    let truth = c.args.truth in
    let notes = c.args.notes.now in
    let first = c.in-Chain.first in
    let rest = c.in-Chain.rest in
    let none : list_all (λ link. joins link.operation) rest.items ≡ false = search rules in
    moves-as (all_met tree ((condition_of ordinal c.args.condition.now).tellings truth) notes) c.meet_operands.ensures.goes
    (ap₂ (λ (f : Expr) (links : List Link). all_met tree (turn_tellings (subject_of (condition_of ordinal f)) (map (conjunct_of ordinal) links) truth) notes
    (seen state)) c.deref-then-not-join.ensures c.deref-then-not-join-2.ensures.value
    ∙ ap (λ (tellings : List Telling). all_met tree tellings notes (seen state))
    (tellings-apart ordinal c.args.condition.now first rest truth c.in-Chain.is none))

pub returns-then-not-join-clause-rest : goal.returns-then-not-join-clause-rest
returns-then-not-join-clause-rest t c = λ ordinal.
    let truth = c.args.truth in
    let notes = c.args.notes.now in
    let first = c.in-Chain.first in
    let rest = c.in-Chain.rest in
    let none : list_all (λ link. joins link.operation) rest.items ≡ false = search rules in
    c.meet_operands.ensures.rest ∙ ap (λ (links : List Link). drop (length links) notes) c.deref-then-not-join-2.ensures.value
    ∙ ap (λ (n : ℕ). drop n notes) (sym (turns-many ordinal (subject_of (condition_of ordinal first.value)) rest.items truth))
    ∙ ap (λ (tellings : List Telling). drop (length tellings) notes) (tellings-apart ordinal c.args.condition.now first rest truth c.in-Chain.is none)

pub loop-link-init : goal.loop-link-init
loop-link-init t c = record {
  goes = λ end more.
      let state = c.args.state.now in
      let ordinal = ordinals_of state in
      let middle = c.meet_told-left.new.state in
      subst (λ (tellings : List Telling). Moves (all_met state.table.now tellings notes) state end) (whole ordinal)
      (met-then ((condition_of ordinal first.value).tellings own) notes left (λ ordinal. all_tellings (map (conjunct_of ordinal) rest.items) own)
      (left_is ordinal)
      (subst (λ (e : Expr). Moves (all_met state.table.now ((condition_of ordinal e).tellings own) notes) state middle) c.deref-in-Chain-3.ensures
      c.meet_told-left.ensures.goes)
      (subst (λ (links : List Link). Moves (all_met middle.table.now (all_tellings (map (conjunct_of (ordinals_of middle)) links) own) left) middle end)
      c.deref-link-items.ensures.value more));
  rest = λ ordinal.
      let one = (condition_of ordinal first.value).tellings own in
      let two = all_tellings (map (conjunct_of ordinal) rest.items) own in
      ap (λ (links : List Link). drop (length (all_tellings (map (conjunct_of ordinal) links) own)) left) c.deref-link-items.ensures.value
      ∙ ap (drop (length two)) (left_is ordinal) ∙ left-both one two notes ∙ ap (λ (tellings : List Telling). drop (length tellings) notes) (whole ordinal);
}
  where
    truth : Option Bool
    truth = c.args.truth

    notes : List Noted
    notes = c.args.notes.now

    left : List Noted
    left = c.meet_told-left.result.now

    first : Box Expr Global
    first = c.in-Chain.first

    rest : Vec Link Global
    rest = c.in-Chain.rest

    own : Option Bool
    own = c.taken-own.result

    own_is : (ordinal : ℕ → Bool) → own ≡ taken (map (conjunct_of ordinal) rest.items) truth
    own_is ordinal =
        c.taken-own.ensures ordinal
        ∙ ap (λ (links : List Link). taken (map (conjunct_of ordinal) links) truth) c.deref-in-Chain-2.ensures.value

    all : list_all (λ link. joins link.operation) rest.items ≡ true
    all = search rules

    left_is : (ordinal : ℕ → Bool) → left ≡ drop (length ((condition_of ordinal first.value).tellings own)) notes
    left_is ordinal =
        c.meet_told-left.ensures.rest ordinal
        ∙ ap (λ (e : Expr). drop (length ((condition_of ordinal e).tellings own)) notes) c.deref-in-Chain-3.ensures

    whole : (ordinal : ℕ → Bool)
        → (condition_of ordinal first.value).tellings own ++ all_tellings (map (conjunct_of ordinal) rest.items) own
        ≡ (condition_of ordinal c.args.condition.now).tellings truth
    whole ordinal =
        ap (λ (o : Option Bool). (condition_of ordinal first.value).tellings o ++ all_tellings (map (conjunct_of ordinal) rest.items) o) (own_is ordinal)
        ∙ tellings-inside ordinal c.args.condition.now first rest truth c.in-Chain.is all

pub loop-link-preserved : goal.loop-link-preserved
loop-link-preserved t c =
    let state = c.loop-link.state in
    let own = c.taken-own.result in
    let links = c.deref-link-items.result.now in
    let i = c.loop-link.link-index in
    let link = c.link-item.result in
    let left = c.loop-link.left.now in
    let next = c.meet_told-left-in-loop-link in
    record {
      goes = λ end more.
          c.loop-link.invariant.goes end
          (subst (λ (tellings : List Telling). Moves (all_met state.table.now tellings left) state end)
          (tellings-more (ordinals_of state) links i link own c.loop-link-test.true c.link-item.is)
          (met-then ((condition_of (ordinals_of state) link.operand).tellings own) left next.result.now
          (λ ordinal. all_tellings (map (conjunct_of ordinal) (drop (i + 1) links)) own) (next.ensures.rest (ordinals_of state)) next.ensures.goes more));
      rest = λ ordinal.
          let one = (condition_of ordinal link.operand).tellings own in
          let two = all_tellings (map (conjunct_of ordinal) (drop (i + 1) links)) own in
          ap (drop (length two)) (next.ensures.rest ordinal) ∙ left-both one two left
          ∙ ap (λ (tellings : List Telling). drop (length tellings) left) (tellings-more ordinal links i link own c.loop-link-test.true c.link-item.is)
          ∙ c.loop-link.invariant.rest ordinal;
    }

pub returns-in-Monadic-clause-rest : goal.returns-in-Monadic-clause-rest
returns-in-Monadic-clause-rest t c = λ ordinal.
    let truth = c.args.truth in
    let notes = c.args.notes.now in
    let it = c.in-Monadic in
    c.meet_told.ensures.rest ordinal
    ∙ ap₂ (λ (e : Expr) (own : Option Bool). drop (length ((condition_of ordinal e).tellings own)) notes) c.deref.ensures c.under.ensures
    ∙ ap (λ (one : Condition). drop (length (one.tellings truth)) notes)
    (sym (ap (condition_of ordinal) it.is ∙ condition-Monadic ordinal it.number it.operation it.operand))

pub returns-after-loop-link-clause-goes : goal.returns-after-loop-link-clause-goes
returns-after-loop-link-clause-goes t c =
    let state = c.loop-link.state in
    let left = c.loop-link.left.now in
    let told = λ (links : List Link). all_tellings (map (conjunct_of (ordinals_of state)) links) c.taken-own.result in
    c.loop-link.invariant.goes state
    (subst (λ (links : List Link). Moves (all_met state.table.now (told links) left) state state)
    (sym (drop_all c.loop-link.link-index c.deref-link-items.result.now c.loop-link-test.false))
    (moves-stay (all_met state.table.now (told []) left) state refl))

pub returns-after-loop-link-clause-rest : goal.returns-after-loop-link-clause-rest
returns-after-loop-link-clause-rest t c = λ ordinal.
    let left = c.loop-link.left.now in
    let own = c.taken-own.result in
    sym (ap (λ (links : List Link). drop (length (all_tellings (map (conjunct_of ordinal) links) own)) left)
    (drop_all c.loop-link.link-index c.deref-link-items.result.now c.loop-link-test.false)) ∙ c.loop-link.invariant.rest ordinal
