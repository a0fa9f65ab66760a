use Rattle.std.proofs.Common.{None, ap, ◌∙◌, ◌++◌, ◌∷◌, []}
use Rattle.std.specs.Result.{result_unwrap_or}
use Rattle.resolver.proofs.blocks.end_routine.Goals as goal

-- the block is made
pub returns-clause-made : goal.returns-clause-made
returns-clause-made c = record {
  result = c.in_ok-told.field-0;
  later = c.result_at_end-told.new.self;
  tests = c.in_ok-told.ensures;
  ends = c.end_block.ensures;
  are =
      c.push_reserved.ensures.items
      ∙ ap (λ result. c.args.made.now.items ++ record {
        number = c.args.number;
        block = record {
          heading = record { around = c.args.begun.around; parameters = c.args.begun.parameters; result = result };
          body = c.args.body;
          end = c.args.end;
        };
      }
      ∷ []) (c.unwrap_or.ensures ∙ ap (λ told. result_unwrap_or told None) c.in_ok-told.was);
}
