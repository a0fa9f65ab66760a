use Rattle.std.proofs.Common.{◌≡◌, ◌+◌, ◌-◌, ◌∷◌, [], ℕ, suc, List, filter, map, reverse, refl, sym, arith, ◌∙◌, ap, subst}
use Rattle.interpreter_state.specs.declared.activation.Activation.{Activation}
use Rattle.interpreter_state.specs.declared.work.Work.{Work}
use Rattle.typed_tree.specs.WellFormed.{is_one_of}
use Rattle.meaning.specs.Effect.{and_then}
use Rattle.meaning.specs.Meaning.{Argument, assign_all, effect_of, environment_of}
use Rattle.interpreter_state.specs.Views.{Visible, operand_seen, pairs_passed, records_in, visible_in}
use Rattle.interpreter_state.proofs.Sees.{own_of, sees_inner}
use Rattle.interpreter.specs.declared.interpreter.Run.{Run}
use Rattle.interpreter.specs.Pending.{Sees, operands_of, pending_of}
use Rattle.interpreter.proofs.Activating.{after_begin, agrees_begun, begins, begun_activation, behind, inside, starves}
use Rattle.interpreter.proofs.Resuming.{continues_as}
use Rattle.interpreter.proofs.interpreter.Run.begin.Goals as goal

pub returns-then-self-eq0-clause-does : goal.returns-then-self-eq0-clause-does
returns-then-self-eq0-clause-does c = λ env outer s agrees.
    let old = c.args.self.now in
    let turns = agrees.turns in
    let none : s.turns ≡ 0 = omega (arith, turns, c.if-self-eq0.true) in (
      env,
      outer,
      record s { starved = c.args.number ∷ s.living },
      agrees,
      starves old.tree.now old.activation.depth c.args.number c.args.block.now (map operand_seen c.args.arguments.now) env
          (pending_of env outer (reverse old.pending.items)) (operands_of old) s none,
    )

pub returns-clause-does : goal.returns-clause-does
returns-clause-does c = λ env outer s agrees.
    let old = c.args.self.now in
    let tree = old.tree.now in
    let depth = old.activation.depth in
    let left = old.turns - 1 in
    let number = c.args.number in
    let block = c.args.block.now in
    let arguments = map operand_seen c.args.arguments.now in
    let inner = c.in_ok-activation.activation in
    let new = c.assign_all.new.self in
    let turns = agrees.turns in
    let activations = agrees.activations in
    let some : old.turns ≡ suc left = omega (arith, c.if-self-eq0.false) in
    let some_left : s.turns ≡ suc left = omega (arith, some, turns) in
    let told : c.in-Some.called ≡ old.called + 1 = omega (arith, c.in-Some.ensures) in
    let same_number : c.in-Some.called ≡ s.activations = omega (arith, told, activations) in
    let activation = begun_activation s.activations number block arguments env.visible in
    let visible = environment_of tree activation in
    let there = inside tree depth activation in
    let round : List Visible = filter (λ (seen : Visible). is_one_of block.heading.around.items seen.block) (visible_in old.activation) in
    let sees : visible_in inner ≡ own_of activation ∷ round =
    c.in_ok-activation.ensures.visible
    ∙ ap (λ (n : ℕ). record { block = number; number = n; references = pairs_passed block.heading.parameters.items arguments } ∷ round) same_number in
    let sees_inside : Sees visible tree inner = record {
      variables = sees_inner tree activation (visible_in old.activation) (visible_in inner) agrees.visible.variables sees;
      types = refl;
    } in
    let sees_there = subst (λ (a : Activation). Sees visible tree a) (sym c.replace-activation.ensures.after) sees_inside in
    let start = after_begin left number s.store s in
    let stored = c.in_ok-assign_all.ensures.agrees visible start sees_there agrees.store in
    let after = stored.0 in
    let stores = ap (λ l. assign_all tree visible l arguments start) (sym c.deref.ensures.value) ∙ stored.1 in
    let begun : ℕ → Run → Run = λ n r. record old {
      turns = left;
      called = n;
      activation = r.activation;
      callers = r.callers;
      pending = r.pending;
      store = r.store;
    } in
    let same = c.assign_all.ensures.same in
    let alike : new ≡ begun (old.called + 1) new = same ∙ ap (λ n. begun n (begun c.in-Some.called (record old {
      activation = c.replace-activation.new.dest;
      callers = c.push.new.self;
      pending = c.replace-pending.new.dest;
      store = new.store;
    }))) told ∙ ap (begun (old.called + 1)) (sym same) in
    let outer_there = behind env outer old s there new.activation in
    let agreed = agrees_begun old new c.replace-activation.result c.replace-pending.result env outer s left number block arguments after agrees some c.requires
    (ap (λ (r : Run). visible_in r.activation) same ∙ ap visible_in c.replace-activation.ensures.after ∙ sees)
    (ap (λ (r : Run). r.activation.depth) same ∙ ap (λ (a : Activation). a.depth) c.replace-activation.ensures.after ∙ c.in_ok-activation.ensures.depth)
    (ap (λ (r : Run). r.callers.items) same ∙ c.in_ok-push.ensures.items) c.replace-activation.ensures.value (ap (λ v. v.items) c.replace-pending.ensures.value)
    (ap (λ (r : Run). records_in r.activation) same ∙ ap records_in c.replace-activation.ensures.after ∙ c.in_ok-activation.ensures.records)
    stored.2 alike in
    let none : new.pending.items ≡ [] =
    ap (λ (r : Run). r.pending.items) same ∙ ap (λ v. v.items) c.replace-pending.ensures.after ∙ c.new.ensures.items in
    let s2 = after_begin left number after s in
    continues_as there outer_there old c.do_next.new.self _ _ c.do_next.result
    (begins tree depth number block arguments env (pending_of env outer (reverse old.pending.items)) (operands_of old) s left after new.activation.result
    some_left
    (ap (λ (r : Run). r.activation.result) same ∙ ap (λ (a : Activation). a.result) c.replace-activation.ensures.after ∙ c.in_ok-activation.ensures.told) stores
    ∙ ap (λ (l : List Work). and_then (effect_of block.body there s2) (λ _. pending_of there outer_there (reverse l) (operands_of old))) (sym none)
    ∙ ap (λ (l : List Argument). and_then (effect_of block.body there s2) (λ _. pending_of there outer_there (reverse new.pending.items) l))
    (sym (ap operands_of same)))
    (c.do_next.ensures.does there outer_there s2 agreed)
