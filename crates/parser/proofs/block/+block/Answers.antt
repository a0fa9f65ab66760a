use Rattle.std.proofs.Common.{◌≡◌, rules, Ok, Err, sym, ap, ◌∙◌}
use Rattle.memory.specs.Refused.{the_refusal}
use Rattle.reading.specs.declared.refusal.Refusal.TheVariants.{Memory}
use Rattle.reading.specs.Declarations as spec
use Rattle.reading.specs.Trees.{routine_outline}
use Rattle.parser.specs.Blocks.{block_below}
use Rattle.parser.proofs.Blocks.{block_at, block_made, built_block, routine_takes_one}
use Rattle.parser.proofs.Items.{items_fewer, many_go, many_stop, many_end}
use Rattle.parser.proofs.block.+block.Goals as goal

pub block-returns : goal.block-returns
block-returns t c =
    block_at c.args.levels c.args.cursor.now.rest.now
    ∙ block_made c.args.levels (block_below c.args.levels) c.args.cursor.now.rest.now _ _ _ _ _ _ _ _ _ _ c.in_ok-constants.ensures c.in-Ok.ensures
    c.in-Ok-block_part.ensures c.in-Ok-routines.ensures c.in-Ok-part.ensures
    ∙ ap (λ o. Ok (o, c.statement_part-part.new.cursor.rest.now))
    (sym (built_block c.in_ok-constants.constants c.in-Ok.made c.in-Ok-block_part.made c.in-Ok-routines.made c.in-Ok-part.made.0 c.in-Ok-part.made.1))

-- ---- procedures and functions

pub routines-loop-routines-smaller : goal.routines-loop-routines-smaller
routines-loop-routines-smaller t c =
    items_fewer spec.begins_routine (spec.routine (block_below c.args.levels)) routine_outline c.loop-routines.cursor.rest.now c.routine.result
    c.routine.new.cursor c.loop-routines.routines.items c.put.new.list.items c.routine.ensures (routine_takes_one c.args.levels) c.in_ok-put.ensures

pub routines-loop-routines-preserved : goal.routines-loop-routines-preserved
routines-loop-routines-preserved t c =
    many_go spec.begins_routine (spec.routine (block_below c.args.levels)) routine_outline c.loop-routines.cursor.rest.now c.routine.result
    c.routine.new.cursor c.loop-routines.routines.items c.put.new.list.items c.routine.ensures (routine_takes_one c.args.levels) c.loop-routines.invariant
    (sym c.begins_routine.ensures ∙ c.loop-routines-test.true) c.in_ok-put.ensures

pub routines-returns-in_err-put : goal.routines-returns-in_err-put
routines-returns-in_err-put t c =
    let why = c.in_err-put.field-0.0 in
    let left = c.routine.new.cursor in
    let stops : (¬ (why ≡ Memory the_refusal)) → spec.routines (block_below c.args.levels) c.args.cursor.now.rest.now ≡ Err (why, left.rest.now) =
    many_stop spec.begins_routine (spec.routine (block_below c.args.levels)) routine_outline c.loop-routines.cursor.rest.now c.routine.result left
    c.loop-routines.routines.items c.put.new.list.items c.routine.ensures c.loop-routines.invariant (sym c.begins_routine.ensures ∙ c.loop-routines-test.true)
    why
    c.in_err-put.ensures in
    search rules

pub routines-returns : goal.routines-returns
routines-returns t c =
    many_end spec.begins_routine (spec.routine (block_below c.args.levels)) c.loop-routines.cursor.rest.now c.loop-routines.invariant
    (sym c.begins_routine.ensures ∙ c.loop-routines-test.false)
