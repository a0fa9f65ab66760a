-- What is made of a source before anything is written or told of it. It does not say what is done with it.
use Rattle.std.specs.Prelude.{◌≡◌, ⊤, ℕ, Bool, true, false, List, Option, Some, None}
use Rattle.command_line.specs.declared.pcom.PcomWords.{PcomWords}
use Rattle.pcode_assembler.specs.Contents.{spelling}
use Rattle.pcode_assembler.specs.declared.code.Code.{Code}
use Rattle.report.specs.declared.prepared.Prepared.{Prepared}
use Rattle.report.specs.declared.ready.Ready.{Ready}
use Rattle.report.specs.Pcom.{cells, code_of, open_sites, report_of, spelled}
use Rattle.report.specs.Ready.{IsReady}
use Rattle.report.specs.Refusals.{given}

-- a machine of all cells and the code's steps where the code is to be run, and else nothing
abbrev pub IsReadyIf : Bool → Code → Option Ready → Type 0
IsReadyIf true code None = ⊥
IsReadyIf true code (Some ready) = IsReady code cells ready
IsReadyIf false code held = held ≡ None

-- a text is there, where it is to be written to a path
abbrev pub IsThereFor : Option (List ℕ) → (wanted text : List ℕ) → Type 0
IsThereFor None wanted text = ⊤
IsThereFor (Some path) wanted text = text ≡ wanted

-- all that takes memory is made of what is compiled: the report, the certificate's spelling and the code's text where
-- they are to be written, and the machine and the steps where the code is to be run
pub record IsPrepared (words : PcomWords) (prepared : Prepared) : Type 0 where
  pub report : prepared.report.items ≡ report_of (open_sites prepared.compiled)
  pub certificate : IsThereFor (given words.write_cert) (spelled prepared.compiled) prepared.certificate.items
  pub code : IsThereFor (given words.code) (spelling (code_of words.keep_checks prepared.compiled)) prepared.code.items
  pub ready : IsReadyIf words.go (code_of words.keep_checks prepared.compiled) prepared.ready
