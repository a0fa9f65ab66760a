-- What the words of both commands are made of: the kinds of arguments as clap has them, and why words are not taken.
use Rattle.std.specs.Prelude.{◌≡◌, ⊤, Bool, true, false, codes, fold, List, [], Option, Some, None, is_some}
use Rattle.memory.specs.Refused.{the_refusal}
use Rattle.clap.specs.Words.{App, IsAmong, Rule, Text, app_of, args_of, first_value, found_of, groups_of}
use Rattle.clap.specs.Words.{kind_of, new_app, new_rule, with_rule}
use Rattle.clap.specs.Built.{IsParsedFrom}
use Rattle.clap.specs.declared.builder.command.Command.{Command}
use Rattle.clap.specs.declared.builder.command.Command.TheViews.{out-Command as fields_of}
use Rattle.clap.specs.declared.parser.matches.ArgMatches.{ArgMatches}
use Rattle.clap.specs.Simple.{on_top}
use Rattle.clap.specs.Faults.{fault_of}
use Rattle.clap.specs.declared.error.Error.{Error}
use Rattle.clap.specs.declared.error.kind.ErrorKind.{ErrorKind}
use Rattle.clap.specs.declared.error.kind.ErrorKind.TheVariants as kind
use Rattle.clap.specs.declared.builder.action.ArgAction.TheVariants.{Set, SetTrue}
use Rattle.command_line.specs.declared.WordsFault.{WordsFault}
use Rattle.command_line.specs.declared.WordsFault.TheVariants.{Memory, Words}

-- a fault of clap: want of memory is told alike wherever it comes from
abbrev pub words_fault : ErrorKind → Error → WordsFault
words_fault kind.OutOfMemory error = Memory the_refusal
words_fault _ error = Words error

-- the option `--NAME VALUE`
abbrev pub option : Text → Rule
option name = record (new_rule name) { long = Some name; value_names = 1; action = Some Set }

-- the flag `--NAME`
abbrev pub flag : Text → Rule
flag name = record (new_rule name) { long = Some name; action = Some SetTrue }

-- a value that stands by itself
abbrev pub value : Text → Rule
value name = record (new_rule name) { value_names = 1; action = Some Set }

-- an argument that has to be there
abbrev pub needed : Rule → Rule
needed argument = record argument { required = true }

-- the command of this name with no argument, which also knows `--help` and `--version`
abbrev pub named : Text → App
named name = on_top (λ s. record s { has_version = true }) (new_app name)

-- the same with these arguments
abbrev pub command_of : Text → List Rule → App
command_of name arguments = fold with_rule (named name) arguments

-- a command of clap's that is the one of this name with no argument, and has nothing else
pub record IsNamed (name : Text) (command : Command) : Type 0 where
  pub app : app_of command ≡ named name
  pub arguments : args_of command ≡ []
  pub groups : groups_of command ≡ []
  pub globals : (fields_of command).has_globals ≡ false
  pub negates : (fields_of command).subcommand_negates_reqs ≡ false

-- what a command of clap's parses has a value of this name
abbrev pub WantsValue : Text → Command → Type 0
WantsValue name command =
    (matches : ArgMatches) → IsParsedFrom command matches → is_some (first_value (found_of matches) name) ≡ true

-- what a flag is, by its text
pub record IsFlag (text : Option Text) (flag : Bool) : Type 0 where
  pub given : text ≡ Some (codes "true") → flag ≡ true
  pub left_out : text ≡ Some (codes "false") → flag ≡ false
  pub unknown : text ≡ None → flag ≡ false

-- words that a command doesn't take: there is no memory, or they have a fault, of a kind that is told
abbrev pub IsWordsFault : App → List Text → WordsFault → Type 0
IsWordsFault command words (Memory _) = ⊤
IsWordsFault command words (Words error) = IsAmong (kind_of error) (fault_of command words)
