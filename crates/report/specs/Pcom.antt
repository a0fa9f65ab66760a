-- What `pcom` does, by its words: the source is read, and the certificate where one is named; it is compiled; the
-- certificate that was used and the text of the code are written where files are named for them; the open sites are
-- told; and under `--go` that code is run. It does not say how long that takes.
use Rattle.std.specs.Prelude.{ℕ, if◌then◌else◌, Bool, true, false, List, [], ◌∷◌, Option}
use Rattle.std.specs.Prelude.{Result, Ok, Err}
use Rattle.std.specs.List.{flat_map}
use Rattle.clap.specs.Words.{Text}
use Rattle.certificate.specs.Contents.{contents, spelling}
use Rattle.typed_tree.specs.declared.site.Site.{Site}
use Rattle.pcode_assembler.specs.declared.code.Code.{Code}
use Rattle.pcode_assembler.specs.Contents as code
use Rattle.command_line.specs.declared.pcom.PcomWords.{PcomWords}
use Rattle.command_line.specs.declared.WordsFault.{WordsFault}
use Rattle.command_line.specs.Pcom.{AreSaid}
use Rattle.command_line.specs.Pcom as command
use Rattle.command_line.specs.Words.{IsWordsFault}
use Rattle.report.specs.declared.compile.Compiled.{Compiled}
use Rattle.report_text.specs.declared.fault.Fault.{Fault}
use Rattle.report_text.specs.Text.{open_line, refusal_line, refusal_of, refusal_status}
use Rattle.report.specs.Courses.{Course, ends_with, reads, reads_if, runs, stops, tells, untaken, writes_if}
use Rattle.report.specs.Refusals.{IsRefusal, given}
use Rattle.report.specs.Whole.{IsCompiled}

-- how many cells a run has
abbrev pub cells : ℕ
cells = 1000000

-- the one spelling of the certificate that was used
abbrev pub spelled : Compiled → List ℕ
spelled compiled = spelling compiled.certificate.version (contents compiled.certificate)

-- the open sites, in order
abbrev pub open_sites : Compiled → List Site
open_sites compiled = compiled.verdict.open_sites.items

-- the report: a line for each open site, in order
abbrev pub report_of : List Site → List ℕ
report_of open_sites = flat_map open_line open_sites

-- the status of a report: 1 where a site is open
abbrev pub report_status : List Site → ℕ
report_status [] = 0
report_status (site ∷ more) = 1

-- the code that is written and run: without the checks of the sites that aren't open, or with all of them where they
-- are to be kept
abbrev pub code_of : Bool → Compiled → Code
code_of keeps_checks compiled = if keeps_checks then compiled.full else compiled.stripped

-- behind the report, of which all was taken or not, a code is run where the words say so
abbrev pub runs_if : Bool → Code → (status : ℕ) → Bool → Course
runs_if true code status told = runs code cells told status
runs_if false code status told = stops status

-- the open sites are told, and then the code is run
abbrev pub reports : PcomWords → Compiled → Course
reports words compiled = tells (report_of (open_sites compiled))
    (runs_if words.go (code_of words.keep_checks compiled) (report_status (open_sites compiled)))

-- the text of the code is written, and then the open sites are told
abbrev pub writes_code : PcomWords → Compiled → Course
writes_code words compiled =
    writes_if (given words.code) (code.spelling (code_of words.keep_checks compiled)) (reports words compiled)

-- a source with a certificate's text, or without one, is refused for what the first layer says that refuses it, and
-- that is told; or it is compiled, and the certificate that was used is written, and then the code
abbrev pub compiles_to : PcomWords → List ℕ → Option (List ℕ) → Result Compiled Fault → Course
compiles_to words source text (Err fault) acts answer =
    IsRefusal source text fault
    × ends_with (refusal_line (refusal_of fault)) (refusal_status (refusal_of fault)) acts answer
compiles_to words source text (Ok compiled) acts answer =
    IsCompiled source text compiled
    × writes_if (given words.write_cert) (spelled compiled) (writes_code words compiled) acts answer

abbrev pub compiles : PcomWords → List ℕ → Option (List ℕ) → Course
compiles words source text acts answer =
    (result : Result Compiled Fault) × compiles_to words source text result acts answer

-- the certificate's file is read, where one is named
abbrev pub by_source : PcomWords → List ℕ → Course
by_source words source = reads_if (given words.cert) (compiles words source)

-- the source is read
abbrev pub by_words : PcomWords → Course
by_words words = reads words.source.now (by_source words)

-- words that are taken say what is done; others get their answer
abbrev pub said : List Text → Result PcomWords WordsFault → Course
said texts (Ok words) acts answer = AreSaid texts words × by_words words acts answer
said texts (Err fault) acts answer = IsWordsFault command.pcom texts fault × untaken fault acts answer

abbrev pub pcom : List Text → Course
pcom texts acts answer = (result : Result PcomWords WordsFault) × said texts result acts answer
