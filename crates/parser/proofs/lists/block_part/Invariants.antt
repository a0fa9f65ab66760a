use Rattle.std.proofs.Common.{map, length}
use Rattle.lexer.specs.declared.token.Kind.TheVariants as kind
use Rattle.reading.specs.Declarations as spec
use Rattle.reading.specs.Reading.{is_kind}
use Rattle.token_cursor.proofs.Turns.{Parts}
use Rattle.parser.proofs.Items.{some}
use Rattle.parser.proofs.lists.block_part.Given as goal

abbrev pub invariant-loop-found : goal.invariant-loop-found
invariant-loop-found g l =
    Parts (spec.part l.fn.word (g.I.Item.rule l.levels) l.fn.cursor.rest.now) (map g.I.Item.look l.found.items)
    (some (is_kind kind.Identifier) (g.I.Item.rule l.levels) l.cursor.rest.now)

abbrev pub decreases-loop-found : goal.decreases-loop-found
decreases-loop-found g l = length l.cursor.rest.now
