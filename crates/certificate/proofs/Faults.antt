-- Lines that say something have no fault exactly where they may stand so.
use Rattle.std.proofs.Common.{◌≡◌, ℕ, suc, Bool, true, false, ◌&&◌, List, [], ◌∷◌, ◌++◌, map, Option, Some, None, refl, sym, ap, ◌∙◌, arith, decimal}
use Rattle.std.proofs.Common.{append_assoc, codes}
use Rattle.std.specs.Bool.{if◌then◌else◌}
use Rattle.std.specs.List.{flat_map, list_all}
use Rattle.std.proofs.lemmas.Bool.{and_from, and_parts}
use Rattle.domain.specs.declared.versions.Version.{Version}
use Rattle.domain.specs.declared.versions.Version.TheVariants.{One, Three, Two}
use Rattle.text_lines.specs.Lines.{Line, ended, lines}
use Rattle.text_lines.specs.Numerals.{is_number}
use Rattle.text_lines.proofs.Digits.{decimal-is_number}
use Rattle.certificate.specs.Lines.{ClaimLine, Alias, Change, Entry, Exit, Fact, Content, Block, Loop, Claimed}
use Rattle.certificate.specs.Text.{Above}
use Rattle.certificate.specs.declared.fault.ReadFault.{ReadFault}
use Rattle.certificate.specs.declared.fault.ReadFault.TheVariants.{OutOfOrder}
use Rattle.certificate.specs.Building.{is_content, said_line}
use Rattle.std.specs.Str.{bytes_eq}
use Rattle.certificate.specs.Contents.{heading, is_small}
use Rattle.certificate.specs.Lines.{line_of, reading}
use Rattle.certificate.specs.Text.{admits, below, fault_from, has_below, is_heading, or_else}
use Rattle.certificate.proofs.Again.{line_again, line_at}
use Rattle.certificate.proofs.InOrder.{has_line, orderly}
use Rattle.certificate.proofs.Numerals.{ok_is}
use Rattle.certificate.proofs.WordLaws.{small_is}

heading_number : (n : ℕ) → is_small n ≡ true → is_number (decimal n) ≡ true
heading_number n small = let limit = small_is n small in decimal-is_number n (omega arith)

-- a claim's line is no heading
no_word : (claim : ClaimLine) → (is_heading (codes "proc ") (said_line (Claimed claim)) ≡ false) ×
    (is_heading (codes "loop ") (said_line (Claimed claim)) ≡ false)
no_word (Alias pair) = (refl, refl)
no_word (Change root) = (refl, refl)
no_word (Entry fact) = (refl, refl)
no_word (Exit fact) = (refl, refl)
no_word (Fact fact) = (refl, refl)

same_below : (version : Version) (content : Content) (more : List Content) → list_all (is_content version) more ≡ true
    → has_below content (map said_line more) ≡ has_line content more
same_below version (Block number) [] fits = refl
same_below version (Block number) (Block next ∷ more) fits =
    rw (heading_number next (and_parts (is_small next) (list_all (is_content version) more) fits).0) refl
same_below version (Block number) (Loop next ∷ more) fits = refl
same_below version (Block number) (Claimed claim ∷ more) fits = rw ((no_word claim).0) refl
same_below version (Loop number) [] fits = refl
same_below version (Loop number) (Block next ∷ more) fits =
    rw (heading_number next (and_parts (is_small next) (list_all (is_content version) more) fits).0) refl
same_below version (Loop number) (Loop next ∷ more) fits = rw (heading_number next (and_parts (is_small next) (list_all (is_content version) more) fits).0) refl
same_below version (Loop number) (Claimed claim ∷ more) fits = rw ((no_word claim).0, (no_word claim).1) refl
same_below version (Claimed claim) more fits = refl

or_else-none : (first second : Option ReadFault) → or_else first second ≡ None → (first ≡ None) × (second ≡ None)
or_else-none None second none = (refl, none)
or_else-none (Some fault) second none = absurd cc

stands : (number : ℕ) (right : Bool) → (if right then None else Some (OutOfOrder number)) ≡ None → right ≡ true
stands number true none = refl
stands number false none = absurd cc

-- no line that says something is the heading of a text
no_heading_so : (named : List ℕ) (content : Content) → bytes_eq (line_of content) (codes "pcert " ++ named) ≡ false
no_heading_so named (Block number) = refl
no_heading_so named (Loop number) = refl
no_heading_so named (Claimed (Alias pair)) = refl
no_heading_so named (Claimed (Change root)) = refl
no_heading_so named (Claimed (Entry fact)) = refl
no_heading_so named (Claimed (Exit fact)) = refl
no_heading_so named (Claimed (Fact fact)) = refl

no_heading : (version : Version) (content : Content) → bytes_eq (line_of content) (heading version) ≡ false
no_heading One content = no_heading_so (codes "1") content
no_heading Two content = no_heading_so (codes "2") content
no_heading Three content = no_heading_so (codes "3") content

-- the fault of such lines goes on behind the first
fault_step : (version : Version) (number : ℕ) (above : Above) (content : Content) (more : List Content) → list_all (is_content version) (content ∷ more) ≡ true
    → fault_from version number above (map said_line (content ∷ more))
    ≡ or_else (if admits above content && has_line content more then None else Some (OutOfOrder number))
    (fault_from version (suc number) (below above content) (map said_line more))
fault_step version number above content more fits =
    let parts = and_parts (is_content version content) (list_all (is_content version) more) fits in
    rw (no_heading version content, line_again version content parts.0, same_below version content more parts.1) refl

-- such lines without a fault stand where they may
pub faultless-orderly : (version : Version) (number : ℕ) (above : Above) (said : List Content) → list_all (is_content version) said ≡ true
    → fault_from version number above (map said_line said) ≡ None → orderly version above said ≡ true
faultless-orderly version number above [] fits none = refl
faultless-orderly version number above (content ∷ more) fits none =
    let parts = and_parts (is_content version content) (list_all (is_content version) more) fits in
    let both = or_else-none _ _ (sym (fault_step version number above content more fits) ∙ none) in
    let right = and_parts (admits above content) (has_line content more) (stands number _ both.0) in
    and_from _ _ parts.0 (and_from _ _ right.0 (and_from _ _ right.1 (faultless-orderly version (suc number) (below above content) more parts.1 both.1)))

-- and those that may stand so have no fault, and numbers in range
pub orderly-fits : (version : Version) (above : Above) (said : List Content) → orderly version above said ≡ true → list_all (is_content version) said ≡ true
orderly-fits version above [] is = refl
orderly-fits version above (content ∷ more) is =
    let parts = and_parts (is_content version content) (admits above content && (has_line content more && orderly version (below above content) more)) is in
    let rest = and_parts (admits above content) (has_line content more && orderly version (below above content) more) parts.1 in
    and_from _ _ parts.0 (orderly-fits version (below above content) more
    (and_parts (has_line content more) (orderly version (below above content) more) rest.1).1)

pub orderly-faultless : (version : Version) (number : ℕ) (above : Above) (said : List Content) → orderly version above said ≡ true
    → fault_from version number above (map said_line said) ≡ None
orderly-faultless version number above [] is = refl
orderly-faultless version number above (content ∷ more) is =
    let parts = and_parts (is_content version content) (admits above content && (has_line content more && orderly version (below above content) more)) is in
    let rest = and_parts (admits above content) (has_line content more && orderly version (below above content) more) parts.1 in
    let last = and_parts (has_line content more) (orderly version (below above content) more) rest.1 in
    fault_step version number above content more (orderly-fits version above (content ∷ more) is)
    ∙ rw (rest.0, last.0) (orderly-faultless version (suc number) (below above content) more last.1)

-- the lines of a text of them
pub lines_again : (version : Version) (said : List Content) → list_all (is_content version) said ≡ true
    → lines (flat_map (λ content. ended (line_of content)) said) ≡ map said_line said
lines_again version [] fits = refl
lines_again version (content ∷ more) fits =
    let parts = and_parts (is_content version content) (list_all (is_content version) more) fits in
    ap lines (append_assoc (line_of content) (10 ∷ []) (flat_map (λ content. ended (line_of content)) more))
    ∙ line_at version content (flat_map (λ content. ended (line_of content)) more) parts.0
    ∙ ap (λ rest. said_line content ∷ rest) (lines_again version more parts.1)

-- what has the same lines is the same
pub same_lines : (version : Version) (a b : List Content) → list_all (is_content version) a ≡ true → list_all (is_content version) b ≡ true
    → map said_line a ≡ map said_line b → a ≡ b
same_lines version [] [] fits others same = refl
same_lines version [] (content ∷ b) fits others same = absurd cc
same_lines version (content ∷ a) [] fits others same = absurd cc
same_lines version (content ∷ a) (other ∷ b) fits others same =
    let parts = and_parts (is_content version content) (list_all (is_content version) a) fits in
    let other_parts = and_parts (is_content version other) (list_all (is_content version) b) others in
    let heads : said_line content ≡ said_line other = cc in
    let lines_same : line_of content ≡ line_of other = ap (λ (line : Line). line.bytes) heads in
    let read_same = sym (line_again version content parts.0) ∙ ap (reading version) lines_same ∙ line_again version other other_parts.0 in
    let rest = same_lines version a b parts.1 other_parts.1 cc in
    ap (λ c. c ∷ a) (ok_is content other read_same) ∙ ap (λ more. other ∷ more) rest
