use Rattle.std.proofs.Common.{rules, ◌≡◌, map, Ok, Err, ◌∙◌}
use Rattle.memory.specs.Refused.{the_refusal}
use Rattle.lexer.specs.declared.token.Kind.TheVariants as kind
use Rattle.lexer.specs.declared.token.Symbol.TheVariants as symbol
use Rattle.reading.specs.declared.refusal.Refusal.TheVariants.{Memory}
use Rattle.reading.specs.Declarations as spec
use Rattle.reading.specs.Lexemes.{identifier}
use Rattle.reading.specs.Outline as form
use Rattle.reading.specs.Trees.{block_outline, name_outline}
use Rattle.token_cursor.proofs.Keeping.{followed_makes}
use Rattle.parser.specs.Syntax.{most}
use Rattle.parser.proofs.Programs.{program_is, ended_makes}
use Rattle.parser.proofs.program.program.Goals as goal

pub returns-in-Err : goal.returns-in-Err
returns-in-Err c =
    let why = c.in-Err.refusal in
    let names = map name_outline c.in_ok-parameters.parameters.items in
    let behind = c.followed_by.new.self.rest.now in
    let stops : (¬ (why ≡ Memory the_refusal)) → spec.program most c.args.cursor.now.rest.now ≡ Err (why, c.ended.new.cursor.rest.now) =
    λ m. program_is most c.args.cursor.now.rest.now c.expect_word.new.self.rest.now c.expect_name.new.self.rest.now behind c.in_ok-expect_word.field-0
    (identifier c.in_ok-name.name) names c.in_ok-expect_word.ensures c.in_ok-name.ensures
    (followed_makes (λ found. map name_outline found.items) (spec.parameters c.expect_name.new.self.rest.now) c.parameters-parameters.result
    (Ok c.in_ok-parameters.parameters) (kind.Symbol symbol.Semicolon) c.parameters-parameters.new.cursor c.followed_by.new.self
    c.parameters-parameters.ensures c.in_ok-parameters.ensures)
    ∙ ended_makes block_outline (form.program (identifier c.in_ok-name.name) names) c.ended.new.cursor (spec.block most behind) c.block-block.result (Err why)
    c.block-block.new.cursor c.block-block.ensures c.in-Err.ensures m in
    search rules

pub returns : goal.returns
returns c =
    let names = map name_outline c.in_ok-parameters.parameters.items in
    let behind = c.followed_by.new.self.rest.now in
    program_is most c.args.cursor.now.rest.now c.expect_word.new.self.rest.now c.expect_name.new.self.rest.now behind c.in_ok-expect_word.field-0
    (identifier c.in_ok-name.name) names c.in_ok-expect_word.ensures c.in_ok-name.ensures
    (followed_makes (λ found. map name_outline found.items) (spec.parameters c.expect_name.new.self.rest.now) c.parameters-parameters.result
    (Ok c.in_ok-parameters.parameters) (kind.Symbol symbol.Semicolon) c.parameters-parameters.new.cursor c.followed_by.new.self
    c.parameters-parameters.ensures c.in_ok-parameters.ensures)
    ∙ ended_makes block_outline (form.program (identifier c.in_ok-name.name) names) c.ended.new.cursor (spec.block most behind) c.block-block.result
    (Ok c.in-Ok.made) c.block-block.new.cursor c.block-block.ensures c.in-Ok.ensures
