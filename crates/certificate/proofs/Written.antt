-- The lines that a writer of certificates puts one behind the other are the spelling.
use Rattle.std.proofs.Common.{◌≡◌, ℕ, List, [], ◌∷◌, ◌++◌, ◌∙◌, refl, sym, ap, map, codes}
use Rattle.std.specs.List.{flat_map}
use Rattle.std.proofs.lemmas.Grind.{flat_map-append}
use Rattle.domain.specs.declared.versions.Version.{Version}
use Rattle.text_lines.specs.Lines.{ended}
use Rattle.certificate.specs.Lines.{ClaimLine, Alias, Change, Entry, Exit, Fact, Content, Block, Loop, Claimed, claim_words, line_of}
use Rattle.certificate.specs.Contents.{LoopClaims, Section, claims_of_block, claims_of_loop, heading, lines_of, lines_of_loop}
use Rattle.certificate.specs.Contents.{lines_of_section, spelling}
use Rattle.certificate.specs.Writing.{alias_line, change_line, fact_line, loop_text, section_text}

-- the text of lines
abbrev text_of : List Content → List ℕ
text_of lines = flat_map (λ content. ended (line_of content)) lines

-- the text of claims
abbrev claims_text : List ClaimLine → List ℕ
claims_text claims = flat_map (λ claim. ended (claim_words claim)) claims

flat_map-map : {X Y A : Type 0} (f : Y → List A) (g : X → Y) (xs : List X) → flat_map f (map g xs) ≡ flat_map (λ x. f (g x)) xs
flat_map-map f g [] = refl
flat_map-map f g (x ∷ xs) = ap (λ more. f (g x) ++ more) (flat_map-map f g xs)

-- lists that are listed piece by piece, where each piece is listed
flat_map-flat_map : {X Y A : Type 0} (f : Y → List A) (g : X → List Y) (h : X → List A) → ((x : X) → h x ≡ flat_map f (g x)) → (xs : List X)
    → flat_map h xs ≡ flat_map f (flat_map g xs)
flat_map-flat_map f g h each [] = refl
flat_map-flat_map f g h each (x ∷ xs) =
    ap (λ text. text ++ flat_map h xs) (each x)
    ∙ ap (λ more. flat_map f (g x) ++ more) (flat_map-flat_map f g h each xs)
    ∙ sym (flat_map-append f (g x) (flat_map g xs))

abbrev block_text : Section → List ℕ
block_text section =
    flat_map alias_line section.aliases
    ++ (flat_map change_line section.changes
    ++ (flat_map (fact_line (codes "entry ")) section.entry ++ flat_map (fact_line (codes "exit ")) section.exit))

claimed : (claims : List ClaimLine) → claims_text claims ≡ text_of (map Claimed claims)
claimed claims = sym (flat_map-map (λ content. ended (line_of content)) Claimed claims)

-- claims of one word
of_word : {X : Type 0} (claim : X → ClaimLine) (xs : List X) → flat_map (λ x. ended (claim_words (claim x))) xs ≡ claims_text (map claim xs)
of_word claim xs = sym (flat_map-map (λ claim. ended (claim_words claim)) claim xs)

joined : (first more : List ClaimLine) (front rest : List ℕ) → front ≡ claims_text first → rest ≡ claims_text more
    → front ++ rest ≡ claims_text (first ++ more)
joined first more front rest first_is more_is =
    ap (λ text. text ++ rest) first_is
    ∙ ap (λ text. claims_text first ++ text) more_is
    ∙ sym (flat_map-append (λ claim. ended (claim_words claim)) first more)

loop_spelled : (claims : LoopClaims) → loop_text claims ≡ text_of (lines_of_loop claims)
loop_spelled claims =
    ap (λ text. ended (line_of (Loop claims.number)) ++ text)
    (joined (map Change claims.changes) (map Fact claims.facts) _ _ (of_word Change claims.changes) (of_word Fact claims.facts)
    ∙ claimed (claims_of_loop claims))

block_spelled : (section : Section) → block_text section ≡ text_of (map Claimed (claims_of_block section))
block_spelled section =
    joined (map Alias section.aliases) _ _ _ (of_word Alias section.aliases)
    (joined (map Change section.changes) _ _ _ (of_word Change section.changes)
    (joined (map Entry section.entry) _ _ _ (of_word Entry section.entry) (of_word Exit section.exit)))
    ∙ claimed (claims_of_block section)

section_spelled : (section : Section) → section_text section ≡ text_of (lines_of_section section)
section_spelled section =
    let loops = flat_map lines_of_loop section.loops in
    ap (λ text. ended (line_of (Block section.block)) ++ text)
    (ap (λ text. text ++ flat_map loop_text section.loops) (block_spelled section)
    ∙ ap (λ text. text_of (map Claimed (claims_of_block section)) ++ text)
    (flat_map-flat_map (λ content. ended (line_of content)) lines_of_loop loop_text loop_spelled section.loops)
    ∙ sym (flat_map-append (λ content. ended (line_of content)) (map Claimed (claims_of_block section)) loops))

sections_spelled : (sections : List Section) → flat_map section_text sections ≡ text_of (lines_of sections)
sections_spelled sections = flat_map-flat_map (λ content. ended (line_of content)) lines_of_section section_text section_spelled sections

-- a heading and the lines of sections
pub written : (version : Version) (sections : List Section) (front text : List ℕ) → front ≡ ended (heading version)
    → text ≡ front ++ flat_map section_text sections → text ≡ spelling version sections
written version sections front text front_is text_is =
    text_is
    ∙ ap (λ start. start ++ flat_map section_text sections) front_is
    ∙ ap (λ rest. ended (heading version) ++ rest) (sections_spelled sections)
