use Rattle.std.proofs.Common.{◌≡◌, ◌∙◌, ap, sym}
use Rattle.typed_tree.specs.declared.tree.Tree.{Tree}
use Rattle.checker_loops.specs.Loops.{round_of}
use Rattle.checker_loops.specs.View.{all_loop_aliases}
use Rattle.cert_checker.specs.View.{context_of}
use Rattle.cert_checker.proofs.walk.Walk.round.Goals as goal

pub returns : goal.returns
returns c = λ ready.
    let context = context_of c.args.self.now in
    let tree_is : c.tree.result.now ≡ context.tree = c.tree.ensures ∙ c.table.ensures in
    record {
      own_is = c.of.ensures.own_is;
      claims_are = c.of.ensures.claims_are;
      loop_is =
          c.of.ensures.loop_is context.pairs (ready ∙ ap (λ (tree : Tree). all_loop_aliases tree context.pairs context.claims) (sym tree_is))
          ∙ ap (λ (tree : Tree). round_of tree context.pairs context.claims c.args.number) tree_is;
    }
