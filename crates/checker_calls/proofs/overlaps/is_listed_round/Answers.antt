use Rattle.std.proofs.Common.{◌∙◌, ap}
use Rattle.std.specs.Prelude.{slice_get}
use Rattle.typed_tree.specs.declared.tree.Tree.{Tree}
use Rattle.checker_state.specs.Loops.{is_among}
use Rattle.checker_loops.specs.Pairs.{aliases_of}
use Rattle.checker_calls.specs.Overlaps.{is_declared_in}
use Rattle.checker_calls.proofs.Mapped.{unless-so, where-so}
use Rattle.checker_calls.proofs.overlaps.is_listed_round.Goals as goal

pub returns-then-not-is_declared_in : goal.returns-then-not-is_declared_in
returns-then-not-is_declared_in c =
    let pairs = c.args.pairs.now.pairs in
    let declared = λ (tree : Tree). is_declared_in pairs c.args.around.now (slice_get tree.variables.items c.args.root) in
    unless-so c.is_declared_in.result (declared c.args.pairs.now.tree) (is_among c.args.root (aliases_of pairs c.args.formal))
    (c.is_declared_in.ensures pairs ∙ ap declared c.tree.ensures) c.if-not-is_declared_in.true

pub returns-else-not-is_declared_in : goal.returns-else-not-is_declared_in
returns-else-not-is_declared_in c =
    let pairs = c.args.pairs.now.pairs in
    let declared = λ (tree : Tree). is_declared_in pairs c.args.around.now (slice_get tree.variables.items c.args.root) in
    where-so c.is_declared_in.result (declared c.args.pairs.now.tree) c.has.result (is_among c.args.root (aliases_of pairs c.args.formal))
    (c.is_declared_in.ensures pairs ∙ ap declared c.tree.ensures) c.if-not-is_declared_in.false c.has.ensures
