use Rattle.std.proofs.Common.{rules, ◌≡◌, [], Ok, map, sym, ap, subst, ◌∙◌}
use Rattle.syntax_tree.specs.declared.Block.{the_lemmas}
use Rattle.syntax_tree.specs.declared.Block.TheViews.{out-Block}
use Rattle.typing.specs.Outcomes.{IsFault}
use Rattle.typing.specs.Passing.{after, each}
use Rattle.typing.specs.Routines.{TypedRoutine, typed_block, typed_routine}
use Rattle.typing.specs.View.{enclosing_of}
use Rattle.declarations.specs.Known.{AreKnownRoutines}
use Rattle.declarations.specs.Parts.{block_declarations}
use Rattle.declarations.proofs.KeptBlocks.{declarations_keep, routine_keeps, routines_stay}
use Rattle.declarations.proofs.Opened.{routines_known}
use Rattle.resolver.specs.Made.{MakesStmt, are_held_made, look_made, statement_part}
use Rattle.resolver.proofs.BlockForms.{begun_stops, block_stops, body_answers, routine_answers, routine_next, routines_stop}
use Rattle.resolver.proofs.blocks.+blocks.Goals as goal

-- the names of its routines stay known behind its declarations
pub body-routines-requires : goal.body-routines-requires
body-routines-requires t c =
    let b = c.args.written.now in
    let old = c.args.typer.now in
    let new = c.declare.new.typer in
    let known = routines_stay (block_declarations b) (declarations_keep b) tt [] old new c.in_ok-declare.ensures (out-Block b).routines.items
    (routines_known old.regions b c.requires.known) in
    (search (rules, the_lemmas), subst (λ l. AreKnownRoutines l new.regions) (sym c.routines_of.ensures) known)

-- its routines stop
pub body-returns-in_err-routines-clause-made : goal.body-returns-in_err-routines-clause-made
body-returns-in_err-routines-clause-made t c =
    let b = c.args.written.now in
    let why = c.in_err-routines.field-0.0 in
    let refused = subst (λ l. IsFault (each (λ (r : TypedRoutine). r.typing) (map typed_routine l) c.declare.new.typer) why) c.routines_of.ensures
    c.in_err-routines.ensures.made in
    let stops = routines_stop b c.args.typer.now c.declare.new.typer c.in_ok-declare.ensures why refused in
    search (rules, stops)

-- its statements
pub body-returns-clause-made : goal.body-returns-clause-made
body-returns-clause-made t c =
    let b = c.args.written.now in
    let own = c.in_ok-routines.ensures.made in
    let there = c.routines.new.typer in
    let passes = subst (λ l. each (λ (r : TypedRoutine). r.typing) (map typed_routine l) c.declare.new.typer ≡ Ok (after tt (look_made own.0) there))
    c.routines_of.ensures own.2 in
    body_answers b c.args.typer.now c.declare.new.typer there c.statement_part.new.typer c.args.made.now.items c.statement_part.new.made.items own.0
    (c.statement_part.ensures.same ∙ own.1)
    c.in_ok-declare.ensures passes c.statement_part.result
    (subst (λ l. MakesStmt (statement_part l there) c.statement_part.result c.statement_part.new.typer) c.statements_of.ensures c.statement_part.ensures.made)

-- no block is made there
pub body-returns-clause-held_blocks : goal.body-returns-clause-held_blocks
body-returns-clause-held_blocks t c = λ before. ap are_held_made c.statement_part.ensures.same ∙ c.routines.ensures.held before

-- the next routine is made
pub routines-loop-next-preserved : goal.routines-loop-next-preserved
routines-loop-next-preserved t c =
    let written = c.args.written.now in
    let here = c.loop-next in
    let r = c.next-item.result in
    let new = c.routine.new.typer in
    let own = c.in_ok-routine.ensures.made in
    record {
      from =
          routine_next written c.args.typer.now c.args.made.now.items here.next-index here.made.items here.typer here.invariant.from r
          c.loop-next-test.true c.next-item.is own.0 c.routine.new.made.items new own.1 own.2;
      known =
          routines_stay (typed_routine r).typing (routine_keeps r) tt (look_made own.0) here.typer new own.2 written here.invariant.known;
      held = λ before. c.routine.ensures.held (here.invariant.held before);
    }

-- ---- the block of a routine

pub routine_block-returns-in_err-begun-clause-made : goal.routine_block-returns-in_err-begun-clause-made
routine_block-returns-in_err-begun-clause-made t c =
    let stops = begun_stops c.args.number c.args.name.now (typed_block c.args.written.now) c.args.typer.now c.in_err-begun.field-0.0
    c.in_err-begun.ensures.begun in
    search (rules, stops)

-- its declarations or its statements stop
pub routine_block-returns-in_err-body-clause-made : goal.routine_block-returns-in_err-body-clause-made
routine_block-returns-in_err-body-clause-made t c =
    let begins = c.in_ok-begun.ensures.begun in
    let stops = block_stops c.args.number c.args.name.now (typed_block c.args.written.now) c.args.typer.now c.begin_block.new.typer
    (enclosing_of c.in_ok-begun.begun.round) begins.0 begins.1 c.in_err-body.field-0.0 c.in_err-body.ensures.made in
    search (rules, stops)

-- it ends
pub routine_block-returns-clause-made : goal.routine_block-returns-clause-made
routine_block-returns-clause-made t c =
    let begins = c.in_ok-begun.ensures.begun in
    let typed = c.in_ok-body.ensures.made in
    routine_answers c.args.number c.args.name.now c.args.written.now c.args.typer.now c.begin_block.new.typer c.body.new.typer c.end_routine.new.typer
    c.in_ok-begun.begun begins.0 begins.1 begins.2 typed.0 c.in_ok-body.body typed.2 c.args.made.now.items c.body.new.made.items
    c.end_routine.new.made.items typed.1 c.end_routine.result c.end_routine.ensures.made
