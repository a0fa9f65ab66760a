-- A text and the certificate that it spells.
use Rattle.std.proofs.Common.{◌≡◌, ◌≢◌, ℕ, Bool, true, false, List, [], ◌∷◌, ◌++◌, map, Option, Some, None, Result, Ok, Err, refl, sym, ap, ◌∙◌, append_assoc}
use Rattle.std.proofs.Common.{subst}
use Rattle.std.specs.Bool.{if◌then◌else◌}
use Rattle.std.specs.List.{flat_map, list_all}
use Rattle.std.specs.Result.{IsErrAnd}
use Rattle.std.specs.Str.{bytes_eq}
use Rattle.std.proofs.lemmas.Slice.Eq.{bytes_eq-Decides}
use Rattle.memory.specs.Refused.{the_refusal}
use Rattle.text_lines.specs.Lines.{Line, ended, lines}
use Rattle.text_lines.proofs.TextLines.{unlines, unlines-lines}
use Rattle.certificate.specs.declared.Certificate.{Certificate}
use Rattle.domain.specs.declared.versions.Version.{Version}
use Rattle.domain.specs.declared.versions.Version.TheVariants.{One, Three, Two}
use Rattle.certificate.specs.declared.fault.ReadFault.{ReadFault}
use Rattle.certificate.specs.declared.fault.ReadFault.TheVariants as fault
use Rattle.certificate.specs.Building.{built, is_content, said_line}
use Rattle.certificate.specs.Contents.{IsReadAs, Section, are_in_order, lines_of, heading, spelling}
use Rattle.certificate.specs.Lines.{Content, line_of}
use Rattle.certificate.specs.Text.{fault_behind, fault_from, fault_of_lines, first_fault, nothing, version_of}
use Rattle.certificate.proofs.Faults.{faultless-orderly, lines_again, orderly-faultless, orderly-fits, same_lines}
use Rattle.certificate.proofs.InOrder.{in_order, orderly}
use Rattle.certificate.proofs.Nested.{built_again, lines_of_sections}

version_is : (named version : Version) → (let a : Result Version ReadFault = Ok named in a ≡ Ok version) → named ≡ version
version_is named version same = cc

abbrev heading_line : Version → Line
heading_line version = record { bytes = heading version; ended = true }

heading_only : (bytes : List ℕ) (one two three : Bool) (version : Version) → bytes_eq bytes (heading One) ≡ one
    → bytes_eq bytes (heading Two) ≡ two → bytes_eq bytes (heading Three) ≡ three
    → (if one then Ok One else if two then Ok Two else if three then Ok Three else Err (fault.FirstLine 1)) ≡ Ok version → bytes ≡ heading version
heading_only bytes true two three version is other another named =
    (bytes_eq-Decides bytes (heading One)).0 is ∙ ap heading (version_is One version named)
heading_only bytes false true three version other is another named =
    (bytes_eq-Decides bytes (heading Two)).0 is ∙ ap heading (version_is Two version named)
heading_only bytes false false true version other another is named =
    (bytes_eq-Decides bytes (heading Three)).0 is ∙ ap heading (version_is Three version named)
heading_only bytes false false false version other another third named = absurd cc

ended_heading : (bytes : List ℕ) (ends : Bool) (version : Version) → version_of (record { bytes = bytes; ended = ends }) ≡ Ok version
    → ◌≡◌ {A = Line} (record { bytes = bytes; ended = ends }) (heading_line version)
ended_heading bytes true version named =
    ap (λ (b : List ℕ). let line : Line = record { bytes = b; ended = true } in line)
    (heading_only bytes _ _ _ version refl refl refl named)
ended_heading bytes false version named = absurd cc

unlines_said : (said : List Content) → unlines (map said_line said) ≡ flat_map (λ content. ended (line_of content)) said
unlines_said [] = refl
unlines_said (content ∷ said) =
    ap (λ rest. line_of content ++ 10 ∷ rest) (unlines_said said)
    ∙ sym (append_assoc (line_of content) (10 ∷ []) (flat_map (λ content. ended (line_of content)) said))

-- a text whose lines are a heading and those of said is spelled so
text_spelled : (text : List ℕ) (first : Line) (below : List Line) (said : List Content) (version : Version) → lines text ≡ first ∷ below
    → version_of first ≡ Ok version → below ≡ map said_line said
    → text ≡ ended (heading version) ++ flat_map (λ content. ended (line_of content)) said
text_spelled text first below said version text_is named below_is =
    sym (unlines-lines text) ∙ ap unlines (text_is ∙ ap (λ line. line ∷ below) (ended_heading first.bytes first.ended version named)
    ∙ ap (λ more. heading_line version ∷ more) below_is)
    ∙ ap (λ rest. heading version ++ 10 ∷ rest) (unlines_said said)
    ∙ sym (append_assoc (heading version) (10 ∷ []) (flat_map (λ content. ended (line_of content)) said))

-- sections that are read are in order, and the text is their spelling
pub read_exactly : (text : List ℕ) (first : Line) (below : List Line) (said : List Content) (sections : List Section) (version : Version)
    → lines text ≡ first ∷ below → version_of first ≡ Ok version → fault_from version 2 nothing below ≡ None
    → list_all (is_content version) said ≡ true → below ≡ map said_line said → sections ≡ built [] said
    → (are_in_order version sections ≡ true) × (text ≡ spelling version sections)
read_exactly text first below said sections version text_is named none fits below_is built_is =
    let orders = faultless-orderly version 2 nothing said fits (ap (fault_from version 2 nothing) (sym below_is) ∙ none) in
    let again = lines_of_sections version said orders in
    let same : sections ≡ again.0 = built_is ∙ ap (built []) again.1 ∙ built_again again.0 in
    let said_are : said ≡ lines_of sections = again.1 ∙ ap lines_of (sym same) in (
      sym (in_order version sections) ∙ ap (orderly version nothing) (sym said_are) ∙ orders,
      text_spelled text first below said version text_is named below_is
          ∙ ap (λ c. ended (heading version) ++ flat_map (λ content. ended (line_of content)) c) said_are,
    )

heading_first : (version : Version) (rest : List ℕ) → lines (ended (heading version) ++ rest) ≡ heading_line version ∷ lines rest
heading_first One rest = refl
heading_first Two rest = refl
heading_first Three rest = refl

-- the lines of a spelling
spelling_lines : (version : Version) (sections : List Section) → are_in_order version sections ≡ true
    → (orderly version nothing (lines_of sections) ≡ true)
    × (lines (spelling version sections) ≡ heading_line version ∷ map said_line (lines_of sections))
spelling_lines version sections right =
    let orders = in_order version sections ∙ right in (
      orders,
      heading_first version (flat_map (λ content. ended (line_of content)) (lines_of sections))
          ∙ ap (λ rest. heading_line version ∷ rest) (lines_again version (lines_of sections) (orderly-fits version nothing (lines_of sections) orders)),
    )

named_again : (version : Version) → version_of (heading_line version) ≡ Ok version
named_again One = refl
named_again Two = refl
named_again Three = refl

spelling_faultless : (version : Version) (sections : List Section) → are_in_order version sections ≡ true → first_fault (spelling version sections) ≡ None
spelling_faultless version sections right =
    let told = spelling_lines version sections right in
    ap fault_of_lines told.1 ∙ ap (λ named. fault_behind named (map said_line (lines_of sections))) (named_again version)
    ∙ orderly-faultless version 2 nothing (lines_of sections) told.0

none_is : (error : ReadFault) → (let o : Option ReadFault = Some error in o ≡ None) → ⊥
none_is error same = absurd cc

only_memory : (error : ReadFault) → (error ≢ fault.Memory the_refusal → Some error ≡ None) → error ≡ fault.Memory the_refusal
only_memory (fault.Memory _) told = refl
only_memory (fault.FirstLine line) told = absurd (none_is _ (told (λ same. absurd cc)))
only_memory (fault.NotInGrammar line) told = absurd (none_is _ (told (λ same. absurd cc)))
only_memory (fault.OutOfOrder line) told = absurd (none_is _ (told (λ same. absurd cc)))
only_memory (fault.OutOfRange line) told = absurd (none_is _ (told (λ same. absurd cc)))
only_memory (fault.Unended line) told = absurd (none_is _ (told (λ same. absurd cc)))

-- a text that spells sections in order is refused for want of memory alone
pub refused_for_memory : (error : ReadFault) (text : List ℕ) (version : Version) (sections : List Section)
    → (error ≢ fault.Memory the_refusal → Some error ≡ first_fault text) → are_in_order version sections ≡ true → text ≡ spelling version sections
    → error ≡ fault.Memory the_refusal
refused_for_memory error text version sections told right text_is =
    only_memory error (λ other. told other ∙ ap first_fault text_is ∙ spelling_faultless version sections right)

-- sections that are read from the spelling of others are these, and their version is
pub read_only : (text : List ℕ) (first : Line) (below : List Line) (said : List Content) (sections others : List Section) (named version : Version)
    → lines text ≡ first ∷ below → version_of first ≡ Ok named → list_all (is_content named) said ≡ true → below ≡ map said_line said
    → sections ≡ built [] said → are_in_order version others ≡ true → text ≡ spelling version others → (named ≡ version) × (sections ≡ others)
read_only text first below said sections others named version text_is named_is fits below_is built_is right spelled =
    let told = spelling_lines version others right in
    let all : first ∷ below ≡ heading_line version ∷ map said_line (lines_of others) = sym text_is ∙ ap lines spelled ∙ told.1 in
    let rest : below ≡ map said_line (lines_of others) = cc in
    let head : first ≡ heading_line version = cc in
    let one = version_is named version (sym named_is ∙ ap version_of head ∙ named_again version) in
    let these_fit = subst (λ version. list_all (is_content version) said ≡ true) one fits in
    let same = same_lines version said (lines_of others) these_fit (orderly-fits version nothing (lines_of others) told.0) (sym below_is ∙ rest) in
    (one, built_is ∙ ap (built []) same ∙ built_again others)

-- a fault below a heading is the text's first, and so is one of a heading
pub fault_below : (text : List ℕ) (first : Line) (below : List Line) (version : Version) (error : ReadFault) → lines text ≡ first ∷ below
    → version_of first ≡ Ok version → fault_from version 2 nothing below ≡ Some error → Some error ≡ first_fault text
fault_below text first below version error text_is named is =
    sym (ap fault_of_lines text_is ∙ ap (λ one. fault_behind one below) named ∙ is)

pub fault_of_heading : (text : List ℕ) (first : Line) (below : List Line) (error : ReadFault) → lines text ≡ first ∷ below
    → version_of first ≡ Err error → Some error ≡ first_fault text
fault_of_heading text first below error text_is unnamed =
    sym (ap fault_of_lines text_is ∙ ap (λ one. fault_behind one below) unnamed)

pub error_only : (version : Version) (sections : List Section) (answer : Result Certificate ReadFault) (error : ReadFault)
    → IsErrAnd answer (λ given. given ≡ error) → error ≡ fault.Memory the_refusal → IsReadAs version sections answer
error_only version sections (Ok certificate) error is only = absurd is
error_only version sections (Err given) error is only = is ∙ only
