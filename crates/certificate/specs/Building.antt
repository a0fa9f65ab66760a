-- How a reader of certificates comes from line to line: words of private functions alone. It does not say which texts
-- are certificates.
use Rattle.std.specs.Prelude.{◌≡◌, ◌≢◌, ℕ, Bool, true, List, [], ◌∷◌, ◌++◌, map, Option, Some, None, Result, Ok, Err}
use Rattle.std.specs.Prelude.{if◌then◌else◌}
use Rattle.std.specs.Global.{Vec}
use Rattle.std.specs.List.{list_all}
use Rattle.memory.specs.Refused.{the_refusal}
use Rattle.domain.specs.Interval.{between}
use Rattle.domain.specs.Facts.{Step, Path, Range, Defined, Order, Grows, said_spans}
use Rattle.domain.specs.Facts.{Fact as VariableFact}
use Rattle.domain.specs.declared.versions.Version.{Version}
use Rattle.text_lines.specs.Lines.{Line}
use Rattle.certificate.specs.declared.Section.{Section as KeptSection}
use Rattle.certificate.specs.declared.paths.PathWord.{PathWord}
use Rattle.certificate.specs.declared.fact_words.FactWords.{FactWords}
use Rattle.certificate.specs.declared.fact_words.FactWords.TheVariants as word
use Rattle.certificate.specs.declared.claim.ClaimLine.{ClaimLine as KeptClaim}
use Rattle.certificate.specs.declared.claim.ClaimLine.TheVariants as kept
use Rattle.certificate.specs.declared.claim.Content.{Content as KeptContent}
use Rattle.certificate.specs.declared.claim.Content.TheVariants as kept_content
use Rattle.certificate.specs.declared.order.Above.{Above as KeptAbove}
use Rattle.certificate.specs.declared.fault.ReadFault.{ReadFault}
use Rattle.certificate.specs.declared.fault.ReadFault.TheVariants.{Memory}
use Rattle.certificate.specs.Paths.{cut, step_in}
use Rattle.certificate.specs.Lines.{ClaimLine, Alias, Change, Entry, Exit, Fact, Content, Block, Loop, Claimed, line_of}
use Rattle.certificate.specs.Lines.{reading}
use Rattle.certificate.specs.Contents.{LoopClaims, Section, is_claim, is_empty, is_small, section_of}
use Rattle.certificate.specs.Text.{Above, fault_from, line_fault, nothing}

-- ---- what is read, as the definitions see it

-- the pieces of a text that begins with one
abbrev pub pieces : List ℕ → List (List ℕ)
pieces [] = []
pieces (byte ∷ more) = (byte ∷ (cut more).0) ∷ (cut more).1

-- the steps that a text says
abbrev pub steps_in : List ℕ → List Step
steps_in text = map step_in (pieces text)

abbrev pub word_path : PathWord → Path
word_path path = record { root = path.root; steps = steps_in path.steps.now }

abbrev pub word_fact : FactWords → VariableFact
word_fact (word.Range path first last) = Range (word_path path) (between first last)
word_fact (word.Defined path spans) = Defined (word_path path) (said_spans spans)
word_fact (word.Order root other number) = Order root other number
word_fact (word.Grows root growth) = Grows root growth

abbrev pub word_claim : KeptClaim → ClaimLine
word_claim (kept.Alias pair) = Alias pair
word_claim (kept.Change root) = Change root
word_claim (kept.Entry fact) = Entry (word_fact fact)
word_claim (kept.Exit fact) = Exit (word_fact fact)
word_claim (kept.Fact fact) = Fact (word_fact fact)

abbrev pub word_claims : Option KeptClaim → Option ClaimLine
word_claims None = None
word_claims (Some claim) = Some (word_claim claim)

abbrev pub said_content : KeptContent → Content
said_content (kept_content.Block number) = Block number
said_content (kept_content.Loop number) = Loop number
said_content (kept_content.Claimed claim) = Claimed (word_claim claim)

abbrev pub said_above : KeptAbove → Above
said_above above = record { block = above.block; loop_number = above.loop_number; claim = word_claims above.claim }

-- ---- sections line by line

-- a list whose last element is changed
abbrev pub in_last : {A : Type 0} → (A → A) → List A → List A
in_last change [] = []
in_last change (last ∷ []) = change last ∷ []
in_last change (one ∷ next ∷ more) = one ∷ in_last change (next ∷ more)

-- the claims of a loop with one more
abbrev pub in_loop : ClaimLine → LoopClaims → LoopClaims
in_loop (Change root) claims = record claims { changes = claims.changes ++ root ∷ [] }
in_loop (Fact fact) claims = record claims { facts = claims.facts ++ fact ∷ [] }
in_loop claim claims = claims

-- a section with one more claim of the block itself
abbrev pub in_block : ClaimLine → Section → Section
in_block (Alias pair) section = record section { aliases = section.aliases ++ pair ∷ [] }
in_block (Change root) section = record section { changes = section.changes ++ root ∷ [] }
in_block (Entry fact) section = record section { entry = section.entry ++ fact ∷ [] }
in_block (Exit fact) section = record section { exit = section.exit ++ fact ∷ [] }
in_block (Fact fact) section = section

-- a section with one more claim: of its last loop, if it has one
abbrev pub with_claim : ClaimLine → Section → Section
with_claim claim section =
    if is_empty section.loops then in_block claim section
    else record section { loops = in_last (in_loop claim) section.loops }

-- a section with one more line: of a new loop, or a claim
abbrev pub in_section : Content → Section → Section
in_section (Block number) section = section
in_section (Loop number) section =
    record section { loops = section.loops ++ record { number = number; changes = []; facts = [] } ∷ [] }
in_section (Claimed claim) section = with_claim claim section

-- a section of which nothing is said
abbrev pub begun : ℕ → Section
begun number = record { block = number; aliases = []; changes = []; entry = []; exit = []; loops = [] }

-- sections with one more line: of the last section, or of a new one
abbrev pub added : Content → List Section → List Section
added (Block number) sections = sections ++ begun number ∷ []
added (Loop number) sections = in_last (in_section (Loop number)) sections
added (Claimed claim) sections = in_last (in_section (Claimed claim)) sections

-- sections with more lines
abbrev pub built : List Section → List Content → List Section
built sections [] = sections
built sections (content ∷ more) = built (added content sections) more

-- a line that says something, with its end
abbrev pub said_line : Content → Line
said_line content = record { bytes = line_of content; ended = true }

-- a line's paths are right, and its numbers are in range
abbrev pub is_content : Version → Content → Bool
is_content version (Block number) = is_small number
is_content version (Loop number) = is_small number
is_content version (Claimed claim) = is_claim version claim

-- what a line says, if it has no fault, or its fault
abbrev pub IsContentAt : Version → Result KeptContent ReadFault → ℕ → Above → Line → List Line → Type 0
IsContentAt version (Ok content) number above line more =
    (line_fault version number above line more ≡ None) × (reading version line.bytes ≡ Ok (said_content content))
    × (line.ended ≡ true)
IsContentAt version (Err fault) number above line more = line_fault version number above line more ≡ Some fault

-- the sections that lines below the heading say, if none has a fault, or the first fault, or want of memory
abbrev pub AreRead : Version → Result (Vec KeptSection) ReadFault → List Line → Type 0
AreRead version (Ok sections) below =
    (fault_from version 2 nothing below ≡ None)
    × (said : List Content) × (list_all (is_content version) said ≡ true) × (below ≡ map said_line said)
    × (map section_of sections.items ≡ built [] said)
AreRead version (Err fault) below = fault ≢ Memory the_refusal → fault_from version 2 nothing below ≡ Some fault
