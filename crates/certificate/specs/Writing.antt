-- The lines that a writer of certificates puts one behind the other: words of private functions alone. It does not say
-- how a certificate is spelled.
use Rattle.std.specs.Prelude.{ℕ, List, ◌++◌, codes}
use Rattle.std.specs.List.{flat_map}
use Rattle.domain.specs.Facts.{Fact as VariableFact}
use Rattle.text_lines.specs.Lines.{ended}
use Rattle.certificate.specs.declared.AliasPair.{AliasPair}
use Rattle.certificate.specs.Lines.{Alias, Change, Block, Loop, claim_words, fact_words, line_of}
use Rattle.certificate.specs.Contents.{LoopClaims, Section}

-- the lines of claims
abbrev pub alias_line : AliasPair → List ℕ
alias_line pair = ended (claim_words (Alias pair))

abbrev pub change_line : ℕ → List ℕ
change_line root = ended (claim_words (Change root))

abbrev pub fact_line : (word : List ℕ) → VariableFact → List ℕ
fact_line word fact = ended (word ++ fact_words fact)

-- the lines of a loop, its heading first
abbrev pub loop_text : LoopClaims → List ℕ
loop_text claims =
    ended (line_of (Loop claims.number))
    ++ (flat_map change_line claims.changes ++ flat_map (fact_line (codes "fact ")) claims.facts)

-- the lines of a section, its heading first, and then those of the block itself
abbrev pub section_text : Section → List ℕ
section_text section =
    ended (line_of (Block section.block))
    ++ ((flat_map alias_line section.aliases
    ++ (flat_map change_line section.changes
    ++ (flat_map (fact_line (codes "entry ")) section.entry ++ flat_map (fact_line (codes "exit ")) section.exit)))
    ++ flat_map loop_text section.loops)
