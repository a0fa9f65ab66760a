use Rattle.std.proofs.Common.{◌≡◌, ◌∷◌, List, Some, map, reverse, refl, slice_get, sym, arith, ◌∙◌, ap, subst}
use Rattle.std.proofs.lemmas.Option.{slice_get_read}
use Rattle.typed_tree.specs.declared.tree.Block.{Block}
use Rattle.meaning.specs.declared.outcome.Ending.TheVariants as ending
use Rattle.meaning.specs.Meaning.{Argument}
use Rattle.interpreter_state.specs.Views.{operand_seen}
use Rattle.interpreter.specs.declared.interpreter.Run.{Run}
use Rattle.interpreter.specs.Pending.{RunDoes, beginning, left_below, operands_of, pending_of, taken_from}
use Rattle.interpreter.proofs.Activating.{calls_block, calls_starved}
use Rattle.interpreter.proofs.Resuming.{goes_on_below, stops_below}
use Rattle.interpreter.proofs.interpreter.Run.activate.Goals as goal

pub returns-clause-does : goal.returns-clause-does
returns-clause-does c = λ env outer s agrees.
    let old = c.args.self.now in
    let tree = old.tree.now in
    let taken = c.arguments.new.self in
    let new = c.begin.new.self in
    let depth = old.activation.depth in
    let number = c.args.number in
    let count = c.args.count in
    let block = c.in-Some.block.now in
    let same = c.in_ok-arguments.ensures.same in
    let found : slice_get tree.blocks.items number ≡ Some block =
    ap (λ (r : Run). slice_get r.tree.now.blocks.items number) (sym same) ∙ ap (λ (l : List Block). slice_get l number) (sym c.deref.ensures.value)
    ∙ slice_get_read c.deref.result.now _ number block refl (omega (arith, c.in-Some.ensures.lookup)) c.in-Some.ensures.lookup.1 in
    let operands = operands_of old in
    let begins : List Argument → Run → Type 0 = λ arguments r. RunDoes (beginning r.tree.now r.activation.depth number block arguments) taken
    c.begin.result new in
    let arguments = ap (map operand_seen) c.deref-2.ensures.value ∙ c.in_ok-arguments.ensures.taken in
    let does = subst (λ l. begins l old) arguments (subst (begins (map operand_seen c.deref-2.result.now)) same c.begin.ensures.does) in
    goes_on_below old taken new env outer s (beginning tree depth number block (taken_from count operands)) (left_below count operands) c.begin.result _
    same c.in_ok-arguments.ensures.below
    (calls_block tree env number count depth block (pending_of env outer (reverse old.pending.items)) operands s agrees.calls found)
    agrees does

pub returns-then-self-eq0-clause-does : goal.returns-then-self-eq0-clause-does
returns-then-self-eq0-clause-does c = λ env outer s agrees.
    let old = c.args.self.now in
    let tree = old.tree.now in
    let taken = c.arguments.new.self in
    let number = c.args.number in
    let count = c.args.count in
    let block = c.in-Some.block.now in
    let same = c.in_ok-arguments.ensures.same in
    let found : slice_get tree.blocks.items number ≡ Some block =
    ap (λ (r : Run). slice_get r.tree.now.blocks.items number) (sym same) ∙ ap (λ (l : List Block). slice_get l number) (sym c.deref.ensures.value)
    ∙ slice_get_read c.deref.result.now _ number block refl (omega (arith, c.in-Some.ensures.lookup)) c.in-Some.ensures.lookup.1 in
    let turns = agrees.turns in
    let deep = agrees.deep in
    let one : taken.activation.depth ≡ old.activation.depth = ap (λ (r : Run). r.activation.depth) same in
    let none : s.turns ≡ 0 = omega (arith, one, turns, deep, c.if-self-eq0.true) in
    stops_below old taken env outer (record s { starved = number ∷ s.living }) _ ending.More same
    (calls_starved tree env number count old.activation.depth block (pending_of env outer (reverse old.pending.items)) (operands_of old) s agrees.calls found
    none) agrees
