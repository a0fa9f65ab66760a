-- Lines that stand where they may are those of sections in order, and the other way round.
use Rattle.std.proofs.Common.{◌≡◌, ℕ, Bool, true, false, not, ◌&&◌, List, [], ◌∷◌, ◌++◌, map, Option, Some, None, refl, ap, ◌∙◌, append_assoc}
use Rattle.std.specs.List.{flat_map}
use Rattle.std.specs.Option.{is_some}
use Rattle.std.specs.Ordering.{nat_cmp}
use Rattle.domain.specs.declared.versions.Version.{Version}
use Rattle.certificate.specs.Lines.{ClaimLine, Content, Block, Loop, Claimed}
use Rattle.certificate.specs.Text.{Above}
use Rattle.certificate.specs.Building.{is_content}
use Rattle.certificate.specs.Contents.{LoopClaims, Section, are_claims, are_in_order, are_listed, claim_order, claims_of_block, claims_of_loop}
use Rattle.certificate.specs.Contents.{comes_behind, is_claim, is_empty, is_loop, is_right, is_section, is_small, lines_of, lines_of_loop, lines_of_section}
use Rattle.certificate.specs.Contents.{may_stand}
use Rattle.certificate.specs.Text.{admits, below, nothing}

-- a heading has below it what it needs there
abbrev pub has_line : Content → List Content → Bool
has_line (Block number) [] = false
has_line (Block number) (Block next ∷ more) = false
has_line (Block number) (Loop next ∷ more) = true
has_line (Block number) (Claimed claim ∷ more) = true
has_line (Loop number) [] = false
has_line (Loop number) (Block next ∷ more) = false
has_line (Loop number) (Loop next ∷ more) = false
has_line (Loop number) (Claimed claim ∷ more) = true
has_line (Claimed claim) more = true

-- lines may stand below others
abbrev pub orderly : Version → Above → List Content → Bool
orderly version above [] = true
orderly version above (content ∷ more) =
    is_content version content && (admits above content && (has_line content more && orderly version (below above content) more))

-- nothing more is said of a loop or a block itself, or of a block
abbrev ends_claims : List Content → Bool
ends_claims [] = true
ends_claims (Block number ∷ more) = true
ends_claims (Loop number ∷ more) = true
ends_claims (Claimed claim ∷ more) = false

abbrev ends_section : List Content → Bool
ends_section [] = true
ends_section (Block number ∷ more) = true
ends_section (Loop number ∷ more) = false
ends_section (Claimed claim ∷ more) = false

abbrev at : Option ℕ → Option ℕ → Option ClaimLine → Above
at block number claim = record { block = block; loop_number = number; claim = claim }

-- what is said behind claims doesn't hang on them, and what is said behind a block not on its loops
claims_forgotten : (version : Version) (b n : Option ℕ) (c d : Option ClaimLine) (rest : List Content) → ends_claims rest ≡ true
    → orderly version (at b n c) rest ≡ orderly version (at b n d) rest
claims_forgotten version b n c d [] ends = refl
claims_forgotten version b n c d (Block number ∷ rest) ends = refl
claims_forgotten version b n c d (Loop number ∷ rest) ends = refl
claims_forgotten version b n c d (Claimed claim ∷ rest) ends = absurd cc

section_forgotten : (version : Version) (b m n : Option ℕ) (c d : Option ClaimLine) (rest : List Content) → ends_section rest ≡ true
    → orderly version (at b m c) rest ≡ orderly version (at b n d) rest
section_forgotten version b m n c d [] ends = refl
section_forgotten version b m n c d (Block number ∷ rest) ends = refl
section_forgotten version b m n c d (Loop number ∷ rest) ends = absurd cc
section_forgotten version b m n c d (Claimed claim ∷ rest) ends = absurd cc

-- ---- claims

claim_and : (right stands behind claims rest : Bool)
    → (right && ((stands && behind) && (claims && rest))) ≡ ((behind && ((right && stands) && claims)) && rest)
claim_and true true true claims rest = refl
claim_and true true false claims rest = refl
claim_and true false true claims rest = refl
claim_and true false false claims rest = refl
claim_and false stands true claims rest = refl
claim_and false stands false claims rest = refl

claims_in_order : (version : Version) (b : ℕ) (n : Option ℕ) (last : Option ClaimLine) (claims : List ClaimLine) (rest : List Content) → ends_claims rest ≡ true
    → orderly version (at (Some b) n last) (map Claimed claims ++ rest)
    ≡ (are_listed claim_order (λ claim. claim) (is_right version (is_some n)) last claims && orderly version (at (Some b) n None) rest)
claims_in_order version b n last [] rest ends = claims_forgotten version (Some b) n last None rest ends
claims_in_order version b n last (claim ∷ claims) rest ends =
    ap (λ more. is_claim version claim && ((may_stand (is_some n) claim && comes_behind claim_order last claim) && more))
    (claims_in_order version b n (Some claim) claims rest ends)
    ∙ claim_and (is_claim version claim) (may_stand (is_some n) claim) (comes_behind claim_order last claim) _ _

-- ---- loops

loop_has_line : (n : ℕ) (claims : List ClaimLine) (rest : List Content) → ends_claims rest ≡ true
    → has_line (Loop n) (map Claimed claims ++ rest) ≡ not (is_empty claims)
loop_has_line n [] [] ends = refl
loop_has_line n [] (Block number ∷ rest) ends = refl
loop_has_line n [] (Loop number ∷ rest) ends = refl
loop_has_line n [] (Claimed claim ∷ rest) ends = absurd cc
loop_has_line n (claim ∷ claims) rest ends = refl

loop_and : (small behind some claims rest : Bool)
    → (small && (behind && (some && (claims && rest)))) ≡ (behind && ((small && (some && claims)) && rest))
loop_and true true true claims rest = refl
loop_and true true false claims rest = refl
loop_and true false some claims rest = refl
loop_and false true some claims rest = refl
loop_and false false some claims rest = refl

loop_in_order : (version : Version) (b : ℕ) (n : Option ℕ) (last : Option ClaimLine) (claims : LoopClaims) (rest : List Content) → ends_claims rest ≡ true
    → orderly version (at (Some b) n last) (lines_of_loop claims ++ rest)
    ≡ (comes_behind nat_cmp n claims.number && (is_loop version claims && orderly version (at (Some b) (Some claims.number) None) rest))
loop_in_order version b n last claims rest ends =
    let all = claims_of_loop claims in
    ap (λ some. is_small claims.number && (comes_behind nat_cmp n claims.number &&
    (some && orderly version (at (Some b) (Some claims.number) None) (map Claimed all ++ rest)))) (loop_has_line claims.number all rest ends)
    ∙ ap (λ more. is_small claims.number && (comes_behind nat_cmp n claims.number && (not (is_empty all) && more)))
    (claims_in_order version b (Some claims.number) None all rest ends)
    ∙ loop_and (is_small claims.number) (comes_behind nat_cmp n claims.number) (not (is_empty all)) (are_claims version true all)
    (orderly version (at (Some b) (Some claims.number) None) rest)

section_ends_claims : (rest : List Content) → ends_section rest ≡ true → ends_claims rest ≡ true
section_ends_claims [] ends = refl
section_ends_claims (Block number ∷ rest) ends = refl
section_ends_claims (Loop number ∷ rest) ends = absurd cc
section_ends_claims (Claimed claim ∷ rest) ends = absurd cc

loops_end_claims : (loops : List LoopClaims) (rest : List Content) → ends_section rest ≡ true → ends_claims (flat_map lines_of_loop loops ++ rest) ≡ true
loops_end_claims [] rest ends = section_ends_claims rest ends
loops_end_claims (claims ∷ loops) rest ends = refl

and_and : (behind right more rest : Bool) → (behind && (right && (more && rest))) ≡ ((behind && (right && more)) && rest)
and_and true true more rest = refl
and_and true false more rest = refl
and_and false right more rest = refl

loops_in_order : (version : Version) (b : ℕ) (n : Option ℕ) (last : Option ClaimLine) (loops : List LoopClaims) (rest : List Content) → ends_section rest ≡ true
    → orderly version (at (Some b) n last) (flat_map lines_of_loop loops ++ rest)
    ≡ (are_listed nat_cmp (λ claims. claims.number) (is_loop version) n loops && orderly version (at (Some b) None None) rest)
loops_in_order version b n last [] rest ends = section_forgotten version (Some b) n None last None rest ends
loops_in_order version b n last (claims ∷ loops) rest ends =
    ap (orderly version (at (Some b) n last)) (append_assoc (lines_of_loop claims) (flat_map lines_of_loop loops) rest)
    ∙ loop_in_order version b n last claims (flat_map lines_of_loop loops ++ rest) (loops_end_claims loops rest ends)
    ∙ ap (λ more. comes_behind nat_cmp n claims.number && (is_loop version claims && more)) (loops_in_order version b (Some claims.number) None loops rest ends)
    ∙ and_and (comes_behind nat_cmp n claims.number) (is_loop version claims)
    (are_listed nat_cmp (λ claims. claims.number) (is_loop version) (Some claims.number) loops)
    (orderly version (at (Some b) None None) rest)

-- ---- sections

section_has_line : (b : ℕ) (claims : List ClaimLine) (loops : List LoopClaims) (rest : List Content) → ends_section rest ≡ true
    → has_line (Block b) (map Claimed claims ++ (flat_map lines_of_loop loops ++ rest)) ≡ not (is_empty claims && is_empty loops)
section_has_line b [] [] [] ends = refl
section_has_line b [] [] (Block number ∷ rest) ends = refl
section_has_line b [] [] (Loop number ∷ rest) ends = absurd cc
section_has_line b [] [] (Claimed claim ∷ rest) ends = absurd cc
section_has_line b [] (claims ∷ loops) rest ends = refl
section_has_line b (claim ∷ claims) loops rest ends = refl

section_and : (small behind some claims loops rest : Bool)
    → (small && (behind && (some && (claims && (loops && rest))))) ≡ (behind && ((small && (some && (claims && loops))) && rest))
section_and true true true true loops rest = refl
section_and true true true false loops rest = refl
section_and true true false claims loops rest = refl
section_and true false some claims loops rest = refl
section_and false true some claims loops rest = refl
section_and false false some claims loops rest = refl

section_in_order : (version : Version) (b n : Option ℕ) (last : Option ClaimLine) (section : Section) (rest : List Content) → ends_section rest ≡ true
    → orderly version (at b n last) (lines_of_section section ++ rest)
    ≡ (comes_behind nat_cmp b section.block && (is_section version section && orderly version (at (Some section.block) None None) rest))
section_in_order version b n last section rest ends =
    let all = claims_of_block section in
    let more = flat_map lines_of_loop section.loops ++ rest in
    let some = not (is_empty all && is_empty section.loops) in
    let front : (Bool → Bool → Bool) = λ has more. is_small section.block && (comes_behind nat_cmp b section.block && (has && more)) in
    ap (λ lines. front (has_line (Block section.block) lines) (orderly version (at (Some section.block) None None) lines))
    (append_assoc (map Claimed all) (flat_map lines_of_loop section.loops) rest)
    ∙ ap (λ has. front has (orderly version (at (Some section.block) None None) (map Claimed all ++ more)))
    (section_has_line section.block all section.loops rest ends)
    ∙ ap (front some) (claims_in_order version section.block None None all more (loops_end_claims section.loops rest ends))
    ∙ ap (λ loops. front some (are_claims version false all && loops)) (loops_in_order version section.block None None section.loops rest ends)
    ∙ section_and (is_small section.block) (comes_behind nat_cmp b section.block) some (are_claims version false all)
    (are_listed nat_cmp (λ claims. claims.number) (is_loop version) None section.loops) (orderly version (at (Some section.block) None None) rest)

sections_end : (sections : List Section) → ends_section (lines_of sections) ≡ true
sections_end [] = refl
sections_end (section ∷ sections) = refl

sections_in_order : (version : Version) (b n : Option ℕ) (last : Option ClaimLine) (sections : List Section)
    → orderly version (at b n last) (lines_of sections) ≡ are_listed nat_cmp (λ section. section.block) (is_section version) b sections
sections_in_order version b n last [] = refl
sections_in_order version b n last (section ∷ sections) =
    section_in_order version b n last section (lines_of sections) (sections_end sections)
    ∙ ap (λ more. comes_behind nat_cmp b section.block && (is_section version section && more))
    (sections_in_order version (Some section.block) None None sections)

-- the lines of sections stand where they may exactly if the sections are in order
pub in_order : (version : Version) (sections : List Section) → orderly version nothing (lines_of sections) ≡ are_in_order version sections
in_order version sections = sections_in_order version None None None sections
