-- The rules of the parts of lists leave no more tokens than there were, and those of items fewer.
use Rattle.std.proofs.Common.{◌≡◌, ℕ, List, refl}
use Rattle.lexer.specs.declared.token.Symbol.TheVariants as symbol
use Rattle.lexer.specs.declared.token.Token.{Token}
use Rattle.reading.specs.Reading.{Reading, separated}
use Rattle.reading.specs.Declarations as read
use Rattle.reading.specs.Statements.{constant}
use Rattle.reading.proofs.Uses.{NeverMore, TakesOne, name_no_more, constant_no_more, formal_no_more, definition_takes, type_takes, group_takes}
use Rattle.parser.specs.Lists.{LeavesNoMore, LeavesFewer}

no_more : {A : Type 0} {rule : Reading A} → NeverMore rule → LeavesNoMore rule
no_more h = record { no_more = λ tokens others made e. ((h tokens).makes (made, others) e).most }

fewer : {A : Type 0} {rule : Reading A} → TakesOne rule → LeavesFewer rule
fewer h = record { fewer = λ tokens others made e. ((h tokens).makes (made, others) e).fewer }

pub name_leaves : LeavesNoMore read.name
name_leaves = no_more name_no_more

pub constant_leaves : LeavesNoMore constant
constant_leaves = no_more constant_no_more

pub formal_leaves : LeavesNoMore read.formal
formal_leaves = no_more formal_no_more

pub definition_leaves : LeavesFewer read.definition
definition_leaves = fewer definition_takes

pub type_leaves : (levels : ℕ) → LeavesFewer (read.type_definition levels)
type_leaves levels = fewer (type_takes levels)

pub group_leaves : (levels : ℕ) → LeavesFewer (read.group levels)
group_leaves levels = fewer (group_takes levels)

-- names with a comma between each two
pub names_are : (tokens : List Token) → read.names tokens ≡ separated symbol.Comma read.name tokens
unfolding read.names
names_are tokens = refl

pub ruleset lists_of_names = (name_leaves, names_are)
