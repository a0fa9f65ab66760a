use Rattle.std.proofs.Common.{◌∙◌, ◌<◌, ◌≡◌, length, sym, is_some, true, false, arith}
use Rattle.typing.proofs.WaitingRows.{waits_here, waits_not_here}
use Rattle.typing.proofs.waiting.first_waiting.Goals as goal

-- the one here is the first
pub returns-then-is_some : goal.returns-then-is_some
returns-then-is_some c =
    let rows = c.args.waiting.now.entries in
    let within : c.loop-index.index < length rows = omega (arith, c.loop-index-test.true, c.len-index-end.ensures.len) in
    let some : is_some c.place_at-place.result ≡ true = sym c.is_some.ensures ∙ c.if-is_some.true in
    waits_here rows c.loop-index.index within c.place_at-place.result c.place_at-place.ensures some ∙ sym c.loop-index.invariant

-- it waits no longer
pub loop-index-preserved : goal.loop-index-preserved
loop-index-preserved c =
    let rows = c.args.waiting.now.entries in
    let within : c.loop-index.index < length rows = omega (arith, c.loop-index-test.true, c.len-index-end.ensures.len) in
    let none : is_some c.place_at-place.result ≡ false = sym c.is_some.ensures ∙ c.if-is_some.false in
    c.loop-index.invariant ∙ waits_not_here rows c.loop-index.index within c.place_at-place.result c.place_at-place.ensures none
