use Rattle.std.proofs.Common.{rules, ◌≡◌, Bool, Option, Some, Ok, Err, sym, ap, subst, ◌∙◌}
use Rattle.memory.specs.Refused.{the_refusal}
use Rattle.lexer.specs.declared.token.Kind.TheVariants as kind
use Rattle.lexer.specs.declared.token.Symbol.TheVariants as symbol
use Rattle.lexer.specs.declared.token.Word.TheVariants as word
use Rattle.reading.specs.declared.refusal.Refusal.TheVariants.{Memory}
use Rattle.reading.specs.Outline as form
use Rattle.reading.specs.Reading.{separated}
use Rattle.reading.specs.Statements as spec
use Rattle.reading.specs.Trees.{stmt_outline}
use Rattle.reading.proofs.Uses.{arm_no_more, statement_no_more}
use Rattle.token_cursor.specs.Cursor.{Makes}
use Rattle.parser.specs.Built.{constants_outlines, arms_outlines}
use Rattle.parser.proofs.Arms.{arms_push}
use Rattle.parser.proofs.Listed.{listed_goes, listed_fewer, listed_ends, listed_stops}
use Rattle.parser.proofs.Pairs.{pairs_go, pairs_fewer, pairs_end, head_stops, inner_stops, behind_stops}
use Rattle.parser.proofs.Next.{statement_is}
use Rattle.parser.proofs.statement.+statement.Goals as goal

-- ---- a statement by what comes next

pub statement-returns-in-Some-Identifier : goal.statement-returns-in-Some-Identifier
statement-returns-in-Some-Identifier t c =
    subst (λ o. Makes stmt_outline o c.simple.result c.simple.new.cursor)
    (sym (statement_is c.args.levels c.in_ok-levels.levels c.args.cursor.now.rest.now (Some kind.Identifier) c.in_ok-levels.ensures.left (cc)))
    c.simple.ensures

pub statement-returns-in-Some-Word-If : goal.statement-returns-in-Some-Word-If
statement-returns-in-Some-Word-If t c =
    subst (λ o. Makes stmt_outline o c.conditional.result c.conditional.new.cursor)
    (sym (statement_is c.args.levels c.in_ok-levels.levels c.args.cursor.now.rest.now (Some (kind.Word word.If)) c.in_ok-levels.ensures.left (cc)))
    c.conditional.ensures

pub statement-returns-in-Some-Word-While : goal.statement-returns-in-Some-Word-While
statement-returns-in-Some-Word-While t c =
    subst (λ o. Makes stmt_outline o c.while_loop.result c.while_loop.new.cursor)
    (sym (statement_is c.args.levels c.in_ok-levels.levels c.args.cursor.now.rest.now (Some (kind.Word word.While)) c.in_ok-levels.ensures.left (cc)))
    c.while_loop.ensures

pub statement-returns-in-Some-Word-Repeat : goal.statement-returns-in-Some-Word-Repeat
statement-returns-in-Some-Word-Repeat t c =
    subst (λ o. Makes stmt_outline o c.repeat_loop.result c.repeat_loop.new.cursor)
    (sym (statement_is c.args.levels c.in_ok-levels.levels c.args.cursor.now.rest.now (Some (kind.Word word.Repeat)) c.in_ok-levels.ensures.left (cc)))
    c.repeat_loop.ensures

pub statement-returns-in-Some-Word-For : goal.statement-returns-in-Some-Word-For
statement-returns-in-Some-Word-For t c =
    subst (λ o. Makes stmt_outline o c.for_loop.result c.for_loop.new.cursor)
    (sym (statement_is c.args.levels c.in_ok-levels.levels c.args.cursor.now.rest.now (Some (kind.Word word.For)) c.in_ok-levels.ensures.left (cc)))
    c.for_loop.ensures

pub statement-returns-in-Some-Word-Case : goal.statement-returns-in-Some-Word-Case
statement-returns-in-Some-Word-Case t c =
    subst (λ o. Makes stmt_outline o c.case_of.result c.case_of.new.cursor)
    (sym (statement_is c.args.levels c.in_ok-levels.levels c.args.cursor.now.rest.now (Some (kind.Word word.Case)) c.in_ok-levels.ensures.left (cc)))
    c.case_of.ensures

pub statement-returns-in-Some-Word-With : goal.statement-returns-in-Some-Word-With
statement-returns-in-Some-Word-With t c =
    subst (λ o. Makes stmt_outline o c.with_fields.result c.with_fields.new.cursor)
    (sym (statement_is c.args.levels c.in_ok-levels.levels c.args.cursor.now.rest.now (Some (kind.Word word.With)) c.in_ok-levels.ensures.left (cc)))
    c.with_fields.ensures

-- ---- statements one behind another

pub statements-returns-in_err-put : goal.statements-returns-in_err-put
statements-returns-in_err-put t c =
    let why = c.in_err-put.field-0.0 in
    let left = c.statement.new.cursor in
    let stops : (¬ (why ≡ Memory the_refusal))
    → separated symbol.Semicolon (spec.statement c.args.levels) c.args.cursor.now.rest.now ≡ Err (why, left.rest.now) =
    listed_stops stmt_outline symbol.Semicolon (spec.statement c.args.levels) c.loop-statements.cursor.rest.now c.statement.result c.statement.new.cursor
    c.loop-statements.statements.items c.put.new.list.items c.statement.ensures c.loop-statements.invariant why c.in_err-put.ensures in
    search rules

pub statements-loop-statements-smaller : goal.statements-loop-statements-smaller
statements-loop-statements-smaller t c =
    listed_fewer stmt_outline symbol.Semicolon (spec.statement c.args.levels) c.loop-statements.cursor.rest.now c.statement.result c.statement.new.cursor
    c.loop-statements.statements.items c.put.new.list.items c.statement.ensures (statement_no_more c.args.levels) c.in_ok-put.ensures
    c.in-Some.field-0 c.take_symbol.new.self.rest.now c.in-Some.ensures

pub statements-loop-statements-preserved : goal.statements-loop-statements-preserved
statements-loop-statements-preserved t c =
    listed_goes stmt_outline symbol.Semicolon (spec.statement c.args.levels) c.loop-statements.cursor.rest.now c.statement.result c.statement.new.cursor
    c.loop-statements.statements.items c.put.new.list.items c.statement.ensures (statement_no_more c.args.levels) c.loop-statements.invariant
    c.in_ok-put.ensures c.in-Some.field-0
    c.take_symbol.new.self.rest.now c.in-Some.ensures

pub statements-returns-in_default : goal.statements-returns-in_default
statements-returns-in_default t c =
    listed_ends stmt_outline symbol.Semicolon (spec.statement c.args.levels) c.loop-statements.cursor.rest.now c.statement.result c.statement.new.cursor
    c.loop-statements.statements.items c.put.new.list.items c.statement.ensures c.loop-statements.invariant c.in_ok-put.ensures
    c.take_symbol.new.self.rest.now c.in_default.ensures

-- ---- the arms of a case

pub arms-returns-in_err-put : goal.arms-returns-in_err-put
unfolding spec.arm
arms-returns-in_err-put t c =
    let why = c.in_err-put.field-0.0 in
    let left = c.row.new.cursor in
    let stops : (¬ (why ≡ Memory the_refusal)) → spec.parts_to_end (spec.arm c.args.levels (spec.statement c.args.levels)) c.args.cursor.now.rest.now
    ≡ Err (why, left.rest.now) =
    head_stops constants_outlines stmt_outline form.arm spec.row (spec.statement c.args.levels) arms_outlines c.loop-arms.cursor.rest.now
    c.loop-arms.constants.items c.loop-arms.arms.items c.loop-arms.invariant c.row.result left
    c.put.new.list.items c.row.ensures why c.in_err-put.ensures in
    search rules

pub arms-returns-in_err-put-2 : goal.arms-returns-in_err-put-2
unfolding spec.arm
arms-returns-in_err-put-2 t c =
    let why = c.in_err-put-2.field-0.0 in
    let left = c.statement.new.cursor in
    let stops : (¬ (why ≡ Memory the_refusal)) → spec.parts_to_end (spec.arm c.args.levels (spec.statement c.args.levels)) c.args.cursor.now.rest.now
    ≡ Err (why, left.rest.now) =
    inner_stops constants_outlines stmt_outline form.arm spec.row (spec.statement c.args.levels) arms_outlines c.loop-arms.cursor.rest.now
    c.loop-arms.constants.items c.loop-arms.arms.items c.loop-arms.invariant c.row.result
    c.row.new.cursor c.put.new.list.items c.row.ensures c.in_ok-put.ensures
    c.statement.result left c.put-in-loop-arms.new.list.items c.statement.ensures why c.in_err-put-2.ensures in
    search rules

pub arms-returns-in_err-semicolon : goal.arms-returns-in_err-semicolon
unfolding spec.arm
arms-returns-in_err-semicolon t c =
    let why = c.in_err-semicolon.field-0.0 in
    let left = c.behind_arm.new.cursor in
    let stops : (¬ (why ≡ Memory the_refusal)) → spec.parts_to_end (spec.arm c.args.levels (spec.statement c.args.levels)) c.args.cursor.now.rest.now
    ≡ Err (why, left.rest.now) =
    λ m. behind_stops constants_outlines stmt_outline form.arm spec.row (spec.statement c.args.levels) arms_outlines c.loop-arms.cursor.rest.now
    c.loop-arms.constants.items c.loop-arms.arms.items c.loop-arms.invariant c.row.result
    c.row.new.cursor c.put.new.list.items c.row.ensures c.in_ok-put.ensures
    c.statement.result c.statement.new.cursor c.put-in-loop-arms.new.list.items c.statement.ensures c.in_ok-put-2.ensures
    why left.rest.now (c.in_err-semicolon.ensures m) in
    search rules

pub arms-returns-in-Some : goal.arms-returns-in-Some
unfolding spec.arm
arms-returns-in-Some t c =
    pairs_end constants_outlines stmt_outline form.arm spec.row (spec.statement c.args.levels) arms_outlines c.loop-arms.cursor.rest.now
    c.loop-arms.constants.items c.loop-arms.arms.items c.loop-arms.invariant c.row.result
    c.row.new.cursor c.put.new.list.items c.row.ensures c.in_ok-put.ensures
    c.statement.result c.statement.new.cursor c.put-in-loop-arms.new.list.items c.statement.ensures c.in_ok-put-2.ensures
    (arms_push (spec.statement c.args.levels)) c.behind_arm.new.cursor.rest.now c.in-Some.semicolon
    (c.in_ok-semicolon.ensures ∙ ap (λ (f : Option Bool). Ok (f, c.behind_arm.new.cursor.rest.now)) c.in-Some.is)

pub arms-loop-arms-smaller : goal.arms-loop-arms-smaller
unfolding spec.arm
arms-loop-arms-smaller t c =
    pairs_fewer constants_outlines stmt_outline form.arm spec.row (spec.statement c.args.levels) arms_outlines c.loop-arms.cursor.rest.now
    c.loop-arms.constants.items c.loop-arms.arms.items c.loop-arms.invariant c.row.result
    c.row.new.cursor c.put.new.list.items c.row.ensures c.in_ok-put.ensures
    c.statement.result c.statement.new.cursor c.put-in-loop-arms.new.list.items c.statement.ensures c.in_ok-put-2.ensures
    (arm_no_more c.args.levels) c.behind_arm.new.cursor.rest.now
    (c.in_ok-semicolon.ensures ∙ ap (λ (f : Option Bool). Ok (f, c.behind_arm.new.cursor.rest.now)) c.in_default.is)

pub arms-loop-arms-preserved : goal.arms-loop-arms-preserved
unfolding spec.arm
arms-loop-arms-preserved t c =
    pairs_go constants_outlines stmt_outline form.arm spec.row (spec.statement c.args.levels) arms_outlines c.loop-arms.cursor.rest.now
    c.loop-arms.constants.items c.loop-arms.arms.items c.loop-arms.invariant c.row.result
    c.row.new.cursor c.put.new.list.items c.row.ensures c.in_ok-put.ensures
    c.statement.result c.statement.new.cursor c.put-in-loop-arms.new.list.items c.statement.ensures c.in_ok-put-2.ensures
    (arm_no_more c.args.levels) (arms_push (spec.statement c.args.levels)) c.behind_arm.new.cursor.rest.now
    (c.in_ok-semicolon.ensures ∙ ap (λ (f : Option Bool). Ok (f, c.behind_arm.new.cursor.rest.now)) c.in_default.is)
