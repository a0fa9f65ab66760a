use Rattle.interpreter.proofs.Resuming.{does_as}
use Rattle.interpreter.proofs.interpreter.Run.step.Goals as goal

pub returns-in-Statements-clause-does : goal.returns-in-Statements-clause-does
returns-in-Statements-clause-does c =
    does_as c.args.self.now c.statements.new.self c.args.work _ c.statements.result c.in-Statements.is c.statements.ensures.does

pub returns-in-Statement-clause-does : goal.returns-in-Statement-clause-does
returns-in-Statement-clause-does c = does_as c.args.self.now c.statement.new.self c.args.work _ c.statement.result c.in-Statement.is c.statement.ensures.does

pub returns-in-Choose-clause-does : goal.returns-in-Choose-clause-does
returns-in-Choose-clause-does c = does_as c.args.self.now c.choose.new.self c.args.work _ c.choose.result c.in-Choose.is c.choose.ensures.does

pub returns-in-WhileTurn-clause-does : goal.returns-in-WhileTurn-clause-does
returns-in-WhileTurn-clause-does c = does_as c.args.self.now c.while_turn.new.self c.args.work _ c.while_turn.result c.in-WhileTurn.is c.while_turn.ensures.does

pub returns-in-Unless-clause-does : goal.returns-in-Unless-clause-does
returns-in-Unless-clause-does c = does_as c.args.self.now c.unless.new.self c.args.work _ c.unless.result c.in-Unless.is c.unless.ensures.does

pub returns-in-For-clause-does : goal.returns-in-For-clause-does
returns-in-For-clause-does c = does_as c.args.self.now c.rounds.new.self c.args.work _ c.rounds.result c.in-For.is c.rounds.ensures.does

pub returns-in-Case-clause-does : goal.returns-in-Case-clause-does
returns-in-Case-clause-does c = does_as c.args.self.now c.case.new.self c.args.work _ c.case.result c.in-Case.is c.case.ensures.does

pub returns-in-Parameters-clause-does : goal.returns-in-Parameters-clause-does
returns-in-Parameters-clause-does c =
    does_as c.args.self.now c.parameters.new.self c.args.work _ c.parameters.result c.in-Parameters.is c.parameters.ensures.does

pub returns-in-Variables-clause-does : goal.returns-in-Variables-clause-does
returns-in-Variables-clause-does c =
    does_as c.args.self.now c.variables.new.self c.args.work _ c.variables.result c.in-Variables.is c.variables.ensures.does

pub returns-in-Read-clause-does : goal.returns-in-Read-clause-does
returns-in-Read-clause-does c = does_as c.args.self.now c.read.new.self c.args.work _ c.read.result c.in-Read.is c.read.ensures.does

pub returns-in-Width-clause-does : goal.returns-in-Width-clause-does
returns-in-Width-clause-does c = does_as c.args.self.now c.width.new.self c.args.work _ c.width.result c.in-Width.is c.width.ensures.does

pub returns-in-WidthTest-clause-does : goal.returns-in-WidthTest-clause-does
returns-in-WidthTest-clause-does c = does_as c.args.self.now c.width_test.new.self c.args.work _ c.width_test.result c.in-WidthTest.is c.width_test.ensures.does

pub returns-in-Store-clause-does : goal.returns-in-Store-clause-does
returns-in-Store-clause-does c = does_as c.args.self.now c.store.new.self c.args.work _ c.store.result c.in-Store.is c.store.ensures.does

pub returns-in-Value-clause-does : goal.returns-in-Value-clause-does
returns-in-Value-clause-does c = does_as c.args.self.now c.value.new.self c.args.work _ c.value.result c.in-Value.is c.value.ensures.does

pub returns-in-Monadic-clause-does : goal.returns-in-Monadic-clause-does
returns-in-Monadic-clause-does c = does_as c.args.self.now c.monadic.new.self c.args.work _ c.monadic.result c.in-Monadic.is c.monadic.ensures.does

pub returns-in-Links-clause-does : goal.returns-in-Links-clause-does
returns-in-Links-clause-does c = does_as c.args.self.now c.links.new.self c.args.work _ c.links.result c.in-Links.is c.links.ensures.does

pub returns-in-Combine-clause-does : goal.returns-in-Combine-clause-does
returns-in-Combine-clause-does c = does_as c.args.self.now c.combine.new.self c.args.work _ c.combine.result c.in-Combine.is c.combine.ensures.does

pub returns-in-WriteRow-clause-does : goal.returns-in-WriteRow-clause-does
returns-in-WriteRow-clause-does c = does_as c.args.self.now c.write_row.new.self c.args.work _ c.write_row.result c.in-WriteRow.is c.write_row.ensures.does

pub returns-in-WriteRowIn-clause-does : goal.returns-in-WriteRowIn-clause-does
returns-in-WriteRowIn-clause-does c =
    does_as c.args.self.now c.write_row_in.new.self c.args.work _ c.write_row_in.result c.in-WriteRowIn.is c.write_row_in.ensures.does

pub returns-in-StoreRow-clause-does : goal.returns-in-StoreRow-clause-does
returns-in-StoreRow-clause-does c = does_as c.args.self.now c.store_row.new.self c.args.work _ c.store_row.result c.in-StoreRow.is c.store_row.ensures.does

pub returns-in-Select-clause-does : goal.returns-in-Select-clause-does
returns-in-Select-clause-does c = does_as c.args.self.now c.select.new.self c.args.work _ c.select.result c.in-Select.is c.select.ensures.does

pub returns-in-Index-clause-does : goal.returns-in-Index-clause-does
returns-in-Index-clause-does c = does_as c.args.self.now c.index.new.self c.args.work _ c.index.result c.in-Index.is c.index.ensures.does

pub returns-in-Fetch-clause-does : goal.returns-in-Fetch-clause-does
returns-in-Fetch-clause-does c = does_as c.args.self.now c.fetch.new.self c.args.work _ c.fetch.result c.in-Fetch.is c.fetch.ensures.does

pub returns-in-Whole-clause-does : goal.returns-in-Whole-clause-does
returns-in-Whole-clause-does c = does_as c.args.self.now c.whole.new.self c.args.work _ c.whole.result c.in-Whole.is c.whole.ensures.does

pub returns-in-FetchRow-clause-does : goal.returns-in-FetchRow-clause-does
returns-in-FetchRow-clause-does c = does_as c.args.self.now c.fetch_row.new.self c.args.work _ c.fetch_row.result c.in-FetchRow.is c.fetch_row.ensures.does

pub returns-in-RightSide-clause-does : goal.returns-in-RightSide-clause-does
returns-in-RightSide-clause-does c = does_as c.args.self.now c.right_side.new.self c.args.work _ c.right_side.result c.in-RightSide.is c.right_side.ensures.does

pub returns-in-Compare-clause-does : goal.returns-in-Compare-clause-does
returns-in-Compare-clause-does c = does_as c.args.self.now c.compare.new.self c.args.work _ c.compare.result c.in-Compare.is c.compare.ensures.does

pub returns-in-Pass-clause-does : goal.returns-in-Pass-clause-does
returns-in-Pass-clause-does c = does_as c.args.self.now c.pass.new.self c.args.work _ c.pass.result c.in-Pass.is c.pass.ensures.does

pub returns-in-Test-clause-does : goal.returns-in-Test-clause-does
returns-in-Test-clause-does c = does_as c.args.self.now c.test.new.self c.args.work _ c.test.result c.in-Test.is c.test.ensures.does

pub returns-in-Discard-clause-does : goal.returns-in-Discard-clause-does
returns-in-Discard-clause-does c = does_as c.args.self.now c.discard.new.self c.args.work _ c.discard.result c.in-Discard.is c.discard.ensures.does

pub returns-in-Activate-clause-does : goal.returns-in-Activate-clause-does
returns-in-Activate-clause-does c = does_as c.args.self.now c.activate.new.self c.args.work _ c.activate.result c.in-Activate.is c.activate.ensures.does

pub returns-in-Gather-clause-does : goal.returns-in-Gather-clause-does
returns-in-Gather-clause-does c = does_as c.args.self.now c.gather.new.self c.args.work _ c.gather.result c.in-Gather.is c.gather.ensures.does

pub returns-in-AddMember-clause-does : goal.returns-in-AddMember-clause-does
returns-in-AddMember-clause-does c = does_as c.args.self.now c.add_member.new.self c.args.work _ c.add_member.result c.in-AddMember.is c.add_member.ensures.does

pub returns-in-AddRange-clause-does : goal.returns-in-AddRange-clause-does
returns-in-AddRange-clause-does c = does_as c.args.self.now c.add_range.new.self c.args.work _ c.add_range.result c.in-AddRange.is c.add_range.ensures.does

pub returns-in-With-clause-does : goal.returns-in-With-clause-does
returns-in-With-clause-does c = does_as c.args.self.now c.with.new.self c.args.work _ c.with.result c.in-With.is c.with.ensures.does

pub returns-in-Within-clause-does : goal.returns-in-Within-clause-does
returns-in-Within-clause-does c = does_as c.args.self.now c.within.new.self c.args.work _ c.within.result c.in-Within.is c.within.ensures.does
