use Rattle.std.proofs.Common.{◌≡◌, ◌∷◌, [], List, map, slice_get, sym, ◌∙◌, ap, subst}
use Rattle.interpreter_state.specs.declared.operand.Operand.{Operand}
use Rattle.meaning.specs.Effect.{Reply, State, and_then}
use Rattle.meaning.specs.Meaning.{assign, assign_all}
use Rattle.interpreter_state.specs.Views.{operand_seen}
use Rattle.interpreter.specs.declared.interpreter.Run.{Run}
use Rattle.interpreter.specs.Pending.{Sees, StoresIn}
use Rattle.interpreter.proofs.Resuming.{none_left}
use Rattle.interpreter.proofs.interpreter.Run.assign_all.Goals as goal

pub loop-root-preserved : goal.loop-root-preserved
loop-root-preserved c =
    let now = c.loop-root in
    let old = c.args.self.now in
    let new = c.assign.new.self in
    let root = c.in-Some.root.now in
    let argument = operand_seen c.in-Some-split_first.argument.now in (
      c.assign.ensures.same ∙ ap (λ (r : Run). record r { store = new.store }) now.invariant.0,
      λ visible s sees agrees.
          let before = now.invariant.1 visible s sees agrees in
          let there : State = record s { store = before.0 } in
          let sees_now = subst (λ (r : Run). Sees visible r.tree.now r.activation) (sym now.invariant.0) sees in
          let each = subst (λ (r : Run). StoresIn (assign r.tree.now.types (visible.variables root) (slice_get r.tree.now.variables.items root)
          argument there) there new) now.invariant.0 (c.in_ok-assign.ensures.agrees visible there sees_now before.1) in
          let all = assign_all old.tree.now visible in (
            each.0,
            each.2,
            before.2
                ∙ ap (λ l. all l (map operand_seen now.left.now) there) c.in-Some.ensures.cases.0
                ∙ ap (λ (l : List Operand). all (root ∷ c.in-Some.others.now) (map operand_seen l) there) c.in-Some-split_first.ensures.cases.0
                ∙ ap (λ (r : Reply (Unit {0})). and_then r (λ _. all c.in-Some.others.now (map operand_seen c.in-Some-split_first.rest.now))) each.1,
          ),
    )

pub returns-in_default-split_first-clause-agrees : goal.returns-in_default-split_first-clause-agrees
returns-in_default-split_first-clause-agrees c = λ visible s sees agrees.
    let now = c.loop-root in
    let before = now.invariant.1 visible s sees agrees in
    let there : State = record s { store = before.0 } in
    let all = assign_all c.args.self.now.tree.now visible in
    let none : now.left.now ≡ [] = none_left now.left.now c.in_default-split_first.ensures.cases in (
      before.0,
      before.2
          ∙ ap (λ l. all l (map operand_seen now.left.now) there) c.in-Some.ensures.cases.0
          ∙ ap (λ (l : List Operand). all (c.in-Some.root.now ∷ c.in-Some.others.now) (map operand_seen l) there) none,
      before.1,
    )

pub returns-in_default-clause-agrees : goal.returns-in_default-clause-agrees
returns-in_default-clause-agrees c = λ visible s sees agrees.
    let now = c.loop-root in
    let before = now.invariant.1 visible s sees agrees in
    let there : State = record s { store = before.0 } in
    let none : now.roots.now ≡ [] = none_left now.roots.now c.in_default.ensures.cases in (
      before.0,
      before.2 ∙ ap (λ l. assign_all c.args.self.now.tree.now visible l (map operand_seen now.left.now) there) none,
      before.1,
    )
