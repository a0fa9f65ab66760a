use Rattle.code_generator.proofs.known.known.Goals as goal

pub returns : goal.returns
returns c = record {
  cells = c.components_are_cells.ensures;
  once = c.components_stand_once.ensures;
  scalars = c.scalars_have_one_component.ensures;
  elements = c.elements_lie_in_order.ensures;
  fields = c.fields_lie_in_order.ensures;
  pieces = c.pieces_use_turns_exactly.ensures;
  rounds = c.loops_go_round_by_round.ensures;
  deeper = c.deeper_calls_change_nothing.ensures;
  output = c.output_only_grows.ensures;
  failures = c.read_failures_begin.ensures;
}
