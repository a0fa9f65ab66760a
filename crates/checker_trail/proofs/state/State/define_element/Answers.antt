use Rattle.std.proofs.Common.{arith, ◌≡◌, length}
use Rattle.std.proofs.lemmas.List.{nil_from_length}
use Rattle.checker_state.specs.Stores.{with_element}
use Rattle.checker_state.specs.View.{said_point}
use Rattle.checker_trail.proofs.Elements.{alone-moves, longer-moves}
use Rattle.checker_trail.proofs.state.State.define_element.Goals as goal

pub returns-in-Err : goal.returns-in-Err
returns-in-Err c = c.run_short.ensures.moves (with_element c.args.row (said_point c.args.point))

pub returns-then-is_empty : goal.returns-then-is_empty
returns-then-is_empty c =
    let places = c.in-Ok.beside.places.items in
    let more = c.in-Ok.beside.longer.items in
    let none : length more ≡ 0 = grind arith in
    alone-moves c.args.row (said_point c.args.point) places c.deref.result.now more c.at.result c.if-self.false c.in-Ok.ensures (nil_from_length more none)
    c.deref.ensures.value c.at.ensures c.remove_all.ensures c.hold.ensures

pub returns : goal.returns
returns c =
    let places = c.in-Ok.beside.places.items in
    let more = c.in-Ok.beside.longer.items in
    longer-moves c.args.row (said_point c.args.point) places c.deref.result.now more c.deref-else-is_empty.result.now c.if-self.false c.in-Ok.ensures
    (λ none. grind arith) c.deref.ensures.value c.deref-else-is_empty.ensures.value c.remove_all.ensures c.hold_all.ensures
