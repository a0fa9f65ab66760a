use Rattle.std.specs.List.{AllWithin}
use Rattle.test_words.specs.Rows.{GivesText}
use Rattle.test_words.proofs.rows.all_hold.Given as goal

-- each row so far gave its text
abbrev pub invariant-loop-number : goal.invariant-loop-number
invariant-loop-number g l = record {
  callable : goal.F-IsAlwaysCallable g l.told;
  given : AllWithin (λ row. GivesText (goal.F-post g l.told l.alloc) row.0 row.1.now) l.rows 0 l.number-counter;
}
