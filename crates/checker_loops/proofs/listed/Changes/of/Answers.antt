use Rattle.std.proofs.Common.{List, ℕ, subst}
use Rattle.std.specs.List.Sorted.{IsPermutation}
use Rattle.checker_loops.proofs.Halves.{sorted-ascends, sorted-same}
use Rattle.checker_loops.proofs.listed.Changes.of.Goals as goal

pub invariant_of-result : goal.invariant_of-result
invariant_of-result c =
    let sorted = c.sort_unstable.new.self.items in (
      sorted-same c.args.listed.now sorted
          (subst (λ (from : List ℕ). IsPermutation from sorted) c.in_ok-sorted.ensures.items c.sort_unstable.ensures.permutation),
      sorted-ascends sorted c.sort_unstable.ensures.sorted,
    )
