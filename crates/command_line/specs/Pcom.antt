-- What the words `pcom [--cert FILE] [--write-cert FILE] [--keep-checks] [--go] SOURCE [CODE]` say: the matches that a
-- command of these six arguments has on them, by clap's own definitions.
use Rattle.std.specs.Prelude.{◌≡◌, codes, List, [], ◌∷◌, Option, Some, option_map}
use Rattle.clap.specs.Words.{App, Rule, Text, first_of, matches_of, one_of}
use Rattle.clap.specs.Faults.{fault_of}
use Rattle.command_line.specs.Words.{IsFlag, command_of, flag, needed, option, value}
use Rattle.command_line.specs.declared.pcom.PcomWords.{PcomWords}

-- its arguments
abbrev pub arguments : List Rule
arguments = option (codes "cert") ∷ option (codes "write-cert") ∷ flag (codes "keep-checks") ∷ flag (codes "go")
    ∷ needed (value (codes "source")) ∷ value (codes "code") ∷ []

-- the command
abbrev pub pcom : App
pcom = command_of (codes "pcom") arguments

-- the path of the source that the words give
abbrev pub source_in : List Text → Option Text
source_in words = first_of (codes "source") (matches_of pcom words)

-- the path to which the code is to be written, if the words give one
abbrev pub code_in : List Text → Option Text
code_in words = first_of (codes "code") (matches_of pcom words)

-- the path of the certificate, if the words give one
abbrev pub certificate_in : List Text → Option Text
certificate_in words = first_of (codes "cert") (matches_of pcom words)

-- the path to which the certificate is to be written, if the words give one
abbrev pub write_in : List Text → Option Text
write_in words = first_of (codes "write-cert") (matches_of pcom words)

-- "true" where the words have `--keep-checks`, and else "false"
abbrev pub keep_checks_in : List Text → Option Text
keep_checks_in words = one_of (codes "keep-checks") (matches_of pcom words)

-- "true" where the words have `--go`, and else "false"
abbrev pub go_in : List Text → Option Text
go_in words = one_of (codes "go") (matches_of pcom words)

-- words that are taken have no fault, and give the paths and the flags
pub record AreSaid (words : List Text) (said : PcomWords) : Type 0 where
  pub faultless : fault_of pcom words ≡ []
  pub source : source_in words ≡ Some said.source.now
  pub code : code_in words ≡ option_map (λ path. path.now) said.code
  pub cert : certificate_in words ≡ option_map (λ path. path.now) said.cert
  pub write_cert : write_in words ≡ option_map (λ path. path.now) said.write_cert
  pub keep_checks : IsFlag (keep_checks_in words) said.keep_checks
  pub go : IsFlag (go_in words) said.go
