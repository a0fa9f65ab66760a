-- Lines in order are those of sections, and adding them one after another builds these sections.
use Rattle.std.proofs.Common.{◌≡◌, ℕ, true, false, ◌&&◌, List, [], ◌∷◌, ◌++◌, map, refl, sym, ap, ◌∙◌, append_assoc}
use Rattle.std.specs.List.{flat_map}
use Rattle.std.specs.Option.{is_some}
use Rattle.std.proofs.lemmas.Bool.{and_from, and_parts}
use Rattle.std.proofs.lemmas.List.{append-nil}
use Rattle.domain.specs.declared.versions.Version.{Version}
use Rattle.certificate.specs.Lines.{ClaimLine, Alias, Change, Entry, Exit, Fact, Content, Block, Loop, Claimed}
use Rattle.certificate.specs.Text.{Above}
use Rattle.certificate.specs.Building.{added, begun, built, in_last, in_loop, in_section, is_content, with_claim}
use Rattle.certificate.specs.Contents.{LoopClaims, Section, are_listed, claim_order, claims_of_block, claims_of_loop, comes_behind, is_right}
use Rattle.certificate.specs.Contents.{lines_of, lines_of_loop, may_stand}
use Rattle.certificate.specs.Text.{admits, below, nothing}
use Rattle.certificate.proofs.InOrder.{has_line, orderly}
use Rattle.certificate.proofs.ByWord.{block_again, entry_in, exit_in, facts_in, loop_again, pairs_in, roots_in}

-- ---- lines one after another

pub built-append : (sections : List Section) (front back : List Content) → built sections (front ++ back) ≡ built (built sections front) back
built-append sections [] back = refl
built-append sections (content ∷ front) back = built-append (added content sections) front back

claims-append : (sections : List Section) (front back : List ClaimLine)
    → built sections (map Claimed (front ++ back)) ≡ built (built sections (map Claimed front)) (map Claimed back)
claims-append sections [] back = refl
claims-append sections (claim ∷ front) back = claims-append (added (Claimed claim) sections) front back

last_snoc : {A : Type 0} (change : A → A) (front : List A) (last : A) → in_last change (front ++ last ∷ []) ≡ front ++ change last ∷ []
last_snoc change [] last = refl
last_snoc change (one ∷ []) last = refl
last_snoc change (one ∷ next ∷ more) last = ap (λ rest. one ∷ rest) (last_snoc change (next ∷ more) last)

-- claims of one word go into one list of the last section
built_list : {A : Type 0} (made : A → ClaimLine) (filled : List A → Section)
    → ((front : List A) (one : A) → with_claim (made one) (filled front) ≡ filled (front ++ one ∷ []))
    → (sections : List Section) (front more : List A)
    → built (sections ++ filled front ∷ []) (map Claimed (map made more)) ≡ sections ++ filled (front ++ more) ∷ []
built_list made filled one_more sections front [] = ap (λ all. sections ++ filled all ∷ []) (sym (append-nil front))
built_list made filled one_more sections front (one ∷ more) =
    ap (λ so_far. built so_far (map Claimed (map made more)))
    (last_snoc (in_section (Claimed (made one))) sections (filled front) ∙ ap (λ section. sections ++ section ∷ []) (one_more front one))
    ∙ built_list made filled one_more sections (front ++ one ∷ []) more
    ∙ ap (λ all. sections ++ filled all ∷ []) (append_assoc front (one ∷ []) more)

-- a claim of the last loop of a section
in_last_loop : (claim : ClaimLine) (section : Section) (loops : List LoopClaims) (last : LoopClaims)
    → with_claim claim (record section { loops = loops ++ last ∷ [] }) ≡ record section { loops = loops ++ in_loop claim last ∷ [] }
in_last_loop claim section [] last = refl
in_last_loop claim section (one ∷ loops) last = ap (λ (l : List LoopClaims). record section { loops = l }) (last_snoc (in_loop claim) (one ∷ loops) last)

built_loop : (front : List Section) (section : Section) (claims : LoopClaims)
    → built (front ++ section ∷ []) (lines_of_loop claims) ≡ front ++ record section { loops = section.loops ++ claims ∷ [] } ∷ []
built_loop front section claims =
    let filled : LoopClaims → Section = λ last. record section { loops = section.loops ++ last ∷ [] } in
    let opened : LoopClaims = record { number = claims.number; changes = []; facts = [] } in
    let changed : LoopClaims = record { number = claims.number; changes = claims.changes; facts = [] } in
    let facts = map Claimed (map Fact claims.facts) in
    ap (λ sections. built sections (map Claimed (claims_of_loop claims))) (last_snoc (in_section (Loop claims.number)) front section)
    ∙ claims-append (front ++ filled opened ∷ []) (map Change claims.changes) (map Fact claims.facts)
    ∙ ap (λ sections. built sections facts)
    (built_list Change (λ changes. filled (record opened { changes = changes })) (λ changes root. in_last_loop (Change root) section section.loops _)
    front [] claims.changes)
    ∙ built_list Fact (λ facts. filled (record changed { facts = facts })) (λ facts fact. in_last_loop (Fact fact) section section.loops _)
    front [] claims.facts

built_loops : (front : List Section) (section : Section) (more : List LoopClaims)
    → built (front ++ section ∷ []) (flat_map lines_of_loop more) ≡ front ++ record section { loops = section.loops ++ more } ∷ []
built_loops front section [] = ap (λ (l : List LoopClaims). front ++ record section { loops = l } ∷ []) (sym (append-nil section.loops))
built_loops front section (claims ∷ more) =
    built-append (front ++ section ∷ []) (lines_of_loop claims) (flat_map lines_of_loop more)
    ∙ ap (λ sections. built sections (flat_map lines_of_loop more)) (built_loop front section claims)
    ∙ built_loops front (record section { loops = section.loops ++ claims ∷ [] }) more
    ∙ ap (λ (l : List LoopClaims). front ++ record section { loops = l } ∷ []) (append_assoc section.loops (claims ∷ []) more)

built_block : (front : List Section) (section : Section)
    → built (front ++ begun section.block ∷ []) (map Claimed (claims_of_block section)) ≡ front ++ record section { loops = [] } ∷ []
built_block front section =
    let none : Section = begun section.block in
    let aliased : Section = record none { aliases = section.aliases } in
    let changed : Section = record aliased { changes = section.changes } in
    let entered : Section = record changed { entry = section.entry } in
    let exit = map Exit section.exit in
    let entry = map Entry section.entry ++ exit in
    let changes = map Change section.changes ++ entry in
    claims-append (front ++ none ∷ []) (map Alias section.aliases) changes
    ∙ ap (λ sections. built sections (map Claimed changes))
    (built_list Alias (λ aliases. record none { aliases = aliases }) (λ aliases pair. refl) front [] section.aliases)
    ∙ claims-append (front ++ aliased ∷ []) (map Change section.changes) entry
    ∙ ap (λ sections. built sections (map Claimed entry))
    (built_list Change (λ changes. record aliased { changes = changes }) (λ changes root. refl) front [] section.changes)
    ∙ claims-append (front ++ changed ∷ []) (map Entry section.entry) exit
    ∙ ap (λ sections. built sections (map Claimed exit))
    (built_list Entry (λ entry. record changed { entry = entry }) (λ entry fact. refl) front [] section.entry)
    ∙ built_list Exit (λ exit. record entered { exit = exit }) (λ exit fact. refl) front [] section.exit

built_sections : (front sections : List Section) → built front (lines_of sections) ≡ front ++ sections
built_sections front [] = sym (append-nil front)
built_sections front (section ∷ sections) =
    let loops = flat_map lines_of_loop section.loops in
    built-append (front ++ begun section.block ∷ []) (map Claimed (claims_of_block section) ++ loops) (lines_of sections)
    ∙ ap (λ so_far. built so_far (lines_of sections))
    (built-append (front ++ begun section.block ∷ []) (map Claimed (claims_of_block section)) loops
    ∙ ap (λ so_far. built so_far loops) (built_block front section)
    ∙ built_loops front (record section { loops = [] }) section.loops)
    ∙ built_sections (front ++ section ∷ []) sections
    ∙ append_assoc front (section ∷ []) sections

-- the lines of sections build these sections
pub built_again : (sections : List Section) → built [] (lines_of sections) ≡ sections
built_again sections = built_sections [] sections

-- ---- lines in order are those of sections

-- what is said before the first heading, the loops before the first block, and the sections
record Parts : Type 0 where
  claims : List ClaimLine
  loops : List LoopClaims
  sections : List Section

abbrev section_in : ℕ → Parts → Section
section_in number parts = record {
  block = number;
  aliases = pairs_in parts.claims;
  changes = roots_in parts.claims;
  entry = entry_in parts.claims;
  exit = exit_in parts.claims;
  loops = parts.loops;
}

abbrev loop_in : ℕ → Parts → LoopClaims
loop_in number parts = record { number = number; changes = roots_in parts.claims; facts = facts_in parts.claims }

abbrev with_line : Content → Parts → Parts
with_line (Block number) parts = record { claims = []; loops = []; sections = section_in number parts ∷ parts.sections }
with_line (Loop number) parts = record { claims = []; loops = loop_in number parts ∷ parts.loops; sections = parts.sections }
with_line (Claimed claim) parts = record { claims = claim ∷ parts.claims; loops = parts.loops; sections = parts.sections }

abbrev parts_of : List Content → Parts
parts_of [] = record { claims = []; loops = []; sections = [] }
parts_of (content ∷ more) = with_line content (parts_of more)

abbrev said_by : Parts → List Content
said_by parts = map Claimed parts.claims ++ (flat_map lines_of_loop parts.loops ++ lines_of parts.sections)

orderly_parts : (version : Version) (above : Above) (content : Content) (more : List Content) → orderly version above (content ∷ more) ≡ true
    → (is_content version content ≡ true) × (admits above content ≡ true) × (orderly version (below above content) more ≡ true)
orderly_parts version above content more is =
    let first = and_parts (is_content version content) (admits above content && (has_line content more && orderly version (below above content) more)) is in
    let admitted = and_parts (admits above content) (has_line content more && orderly version (below above content) more) first.1 in
    (first.0, admitted.0, (and_parts (has_line content more) (orderly version (below above content) more) admitted.1).1)

-- the claims before the first heading are in order
claims_listed : (version : Version) (above : Above) (lines : List Content) → orderly version above lines ≡ true
    → are_listed claim_order (λ claim. claim) (is_right version (is_some above.loop_number)) above.claim (parts_of lines).claims ≡ true
claims_listed version above [] is = refl
claims_listed version above (Block number ∷ more) is = refl
claims_listed version above (Loop number ∷ more) is = refl
claims_listed version above (Claimed claim ∷ more) is =
    let parts = orderly_parts version above (Claimed claim) more is in
    let stands = and_parts (may_stand (is_some above.loop_number) claim) (comes_behind claim_order above.claim claim)
    (and_parts (is_some above.block) (may_stand (is_some above.loop_number) claim && comes_behind claim_order above.claim claim) parts.1).1 in
    and_from _ _ stands.1 (and_from _ _ (and_from _ _ parts.0 stands.0) (claims_listed version (below above (Claimed claim)) more parts.2))

-- lines that may stand below the heading of a text begin with no claim and no loop
begin_with_block : (version : Version) (lines : List Content) → orderly version nothing lines ≡ true
    → ((parts_of lines).claims ≡ []) × ((parts_of lines).loops ≡ [])
begin_with_block version [] is = (refl, refl)
begin_with_block version (Block number ∷ more) is = (refl, refl)
begin_with_block version (Loop number ∷ more) is = let never : false ≡ true = (orderly_parts version nothing (Loop number) more is).1 in absurd cc
begin_with_block version (Claimed claim ∷ more) is = let never : false ≡ true = (orderly_parts version nothing (Claimed claim) more is).1 in absurd cc

-- lines in order are those of their parts
said_again : (version : Version) (above : Above) (lines : List Content) → orderly version above lines ≡ true → lines ≡ said_by (parts_of lines)
said_again version above [] is = refl
said_again version above (Block number ∷ more) is =
    let rest = (orderly_parts version above (Block number) more is).2 in
    let parts = parts_of more in
    let loops = flat_map lines_of_loop parts.loops in
    ap (λ lines. Block number ∷ lines)
    (said_again version (below above (Block number)) more rest
    ∙ ap (λ claims. map Claimed claims ++ (loops ++ lines_of parts.sections))
    (block_again version parts.claims (claims_listed version (below above (Block number)) more rest))
    ∙ sym (append_assoc (map Claimed (claims_of_block (section_in number parts))) loops (lines_of parts.sections)))
said_again version above (Loop number ∷ more) is =
    let rest = (orderly_parts version above (Loop number) more is).2 in
    let parts = parts_of more in
    let loops = flat_map lines_of_loop parts.loops in
    let claims = map Claimed (claims_of_loop (loop_in number parts)) in
    ap (λ lines. Loop number ∷ lines)
    (said_again version (below above (Loop number)) more rest
    ∙ ap (λ claims. map Claimed claims ++ (loops ++ lines_of parts.sections))
    (loop_again version parts.claims (claims_listed version (below above (Loop number)) more rest))
    ∙ sym (append_assoc claims loops (lines_of parts.sections)))
said_again version above (Claimed claim ∷ more) is =
    ap (λ lines. Claimed claim ∷ lines) (said_again version (below above (Claimed claim)) more (orderly_parts version above (Claimed claim) more is).2)

-- lines in order below the heading are those of sections
pub lines_of_sections : (version : Version) (lines : List Content) → orderly version nothing lines ≡ true
    → (sections : List Section) × (lines ≡ lines_of sections)
lines_of_sections version lines is =
    let parts = parts_of lines in
    let none = begin_with_block version lines is in (
      parts.sections,
      said_again version nothing lines is
          ∙ ap (λ claims. map Claimed claims ++ (flat_map lines_of_loop parts.loops ++ lines_of parts.sections)) none.0
          ∙ ap (λ loops. flat_map lines_of_loop loops ++ lines_of parts.sections) none.1,
    )
