use Rattle.std.proofs.Common.{◌≡◌, length, take}
use Rattle.analyser.proofs.verdicts.are_same.Given as goal

-- so far they are the same
abbrev pub invariant-loop-site : goal.invariant-loop-site
invariant-loop-site l =
    (goal.iterator-loop-site).can_next l.site-iterator × (goal.iterator-loop-site).is_finite l.site-iterator
    × (take (length l.yielded) l.sites ≡ take (length l.yielded) l.others)
