use Rattle.std.proofs.Common.{◌++◌, ◌∷◌, [], ap, sym, ◌∙◌, subst}
use Rattle.std.specs.Prelude.{slice_set}
use Rattle.typed_tree.specs.WellFormed.{is_parameter_kind}
use Rattle.code_scheme.specs.Frames.{AreCounted}
use Rattle.code_scheme.proofs.Framed.{counted_as, counted_more, with_more}
use Rattle.code_scheme.proofs.frame.count_in.Goals as goal

pub returns : goal.returns
returns c = λ variables counts.
    let types = c.args.types.now in
    let variable = c.args.variable in
    let room = c.make_room.new.frames.items in
    let frame = c.index.result.now in
    let kept = counted_as types variables c.args.frames.now.items room counts c.in_ok-make_room.ensures.kept in
    let all = counted_more types variables variable room frame kept c.in_ok-make_room.ensures.room c.index.ensures in
    let is = c.with_slot.ensures ∙ ap (with_more frame (is_parameter_kind variable.kind)) c.slot_cells-cells.ensures in
    subst (λ w. AreCounted types (variables ++ (variable ∷ [])) (slice_set room variable.block w)) (sym is) all
