use Rattle.std.proofs.Common.{rules}
use Rattle.std.proofs.lemmas.List.Sorted.{IsNonDecreasingBy-from_sort_by_key}
use Rattle.resolver.proofs.Arranged.{arranged_of}
use Rattle.resolver.proofs.program.arranged.Goals as goal

-- the numbers rise
pub returns : goal.returns
returns c =
    arranged_of c.args.made.items c.sort_by_key.new.self.items c.in_ok-sort_by_key.ensures.permutation
    (IsNonDecreasingBy-from_sort_by_key (λ one. one.number) _ c.in_ok-sort_by_key.ensures.sorted (λ a r q k. search rules)) c.blocks_of.result
    c.blocks_of.ensures
