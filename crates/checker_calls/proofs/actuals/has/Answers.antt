use Rattle.std.proofs.Common.{arith, ◌∙◌, ◌≡◌, sym, ◌<◌, true, false, nat_le, nat_lt, inl, inr}
use Rattle.std.proofs.lemmas.Bool.{cases_lt}
use Rattle.checker_calls.proofs.Spans.{among-below, among-in, among-past}
use Rattle.checker_calls.proofs.actuals.has.Goals as goal

pub returns-then-span-row : goal.returns-then-span-row
returns-then-span-row c =
    let row = c.args.row in
    let last = c.end.result in
    elim (cases_lt row last) [
      | inl inside ↦
          let test : nat_lt row last ≡ true = grind (arith, inside) in
          test ∙ sym (among-in c.args.span.count c.args.span.first row c.if-span-row.true (omega (arith, inside, c.end.ensures)))
      | inr past ↦
          let test : nat_lt row last ≡ false = grind (arith, past) in
          test ∙ sym (among-past c.args.span.count c.args.span.first row (omega (arith, past, c.end.ensures)))
    ]

pub returns-else-span-row : goal.returns-else-span-row
returns-else-span-row c =
    let below : c.args.row < c.args.span.first = c.if-span-row.false in
    let test : nat_le c.args.span.first c.args.row ≡ false = grind (arith, below) in
    test ∙ sym (among-below c.args.span.count c.args.span.first c.args.row below)
