-- The reader's way from line to line, and the whole text.
use Rattle.std.proofs.Common.{◌≡◌, ℕ, suc, ◌+◌, Bool, true, List, [], ◌∷◌, ◌++◌, map, Some, None, Ok, refl, sym, ap, ◌∙◌, arith}
use Rattle.std.specs.List.{list_all}
use Rattle.std.proofs.lemmas.Bool.{and_from, and_parts}
use Rattle.std.proofs.lemmas.List.{append-nil}
use Rattle.domain.specs.declared.versions.Version.{Version}
use Rattle.text_lines.specs.Lines.{Line}
use Rattle.certificate.specs.Text.{Above}
use Rattle.certificate.specs.declared.fault.ReadFault.{ReadFault}
use Rattle.certificate.specs.Building.{added, built, is_content, said_line}
use Rattle.certificate.specs.Contents.{Section}
use Rattle.certificate.specs.Lines.{Content, line_of, reading}
use Rattle.certificate.specs.Text.{below, below_line, fault_from, line_fault, nothing, or_else}
use Rattle.certificate.proofs.Nested.{built-append}
use Rattle.certificate.proofs.Spelled.{line_spelled}

-- the lines so far are those of said, which build the sections so far; the first fault is among the rest
pub record SoFar (version : Version) (all : List Line) (sections : List Section) (above : Above) (number : ℕ) (rest : List Line) : Type 0 where
  pub said : List Content
  pub fits : list_all (is_content version) said ≡ true
  pub lines_are : all ≡ map said_line said ++ rest
  pub built_is : sections ≡ built [] said
  pub fault_is : fault_from version 2 nothing all ≡ fault_from version number above rest

pub so_far-begins : (version : Version) (all : List Line) → SoFar version all [] nothing 2 all
so_far-begins version all = record { said = []; fits = refl; lines_are = refl; built_is = refl; fault_is = refl }

one_more : (n : ℕ) → suc n ≡ n + 1
one_more n = omega arith

all_snoc : (version : Version) (said : List Content) (content : Content) → list_all (is_content version) said ≡ true → is_content version content ≡ true
    → list_all (is_content version) (said ++ content ∷ []) ≡ true
all_snoc version [] content fits one = and_from _ _ one refl
all_snoc version (first ∷ said) content fits one =
    let parts = and_parts (is_content version first) (list_all (is_content version) said) fits in
    and_from _ _ parts.0 (all_snoc version said content parts.1 one)

map_snoc : (said : List Content) (content : Content) (rest : List Line)
    → map said_line said ++ said_line content ∷ rest ≡ map said_line (said ++ content ∷ []) ++ rest
map_snoc [] content rest = refl
map_snoc (first ∷ said) content rest = ap (λ more. said_line first ∷ more) (map_snoc said content rest)

is_said : (version : Version) (line : Line) (content : Content) → reading version line.bytes ≡ Ok content → line.ended ≡ true → line ≡ said_line content
is_said version line content is at_end =
    ap (λ (b : List ℕ). let l : Line = record { bytes = b; ended = line.ended } in l) (line_spelled version line.bytes content is).0
    ∙ ap (λ (e : Bool). let l : Line = record { bytes = line_of content; ended = e } in l) at_end

pub so_far-next : (version : Version) (all more : List Line) (sections new : List Section) (above : Above) (number : ℕ)
    (rest : List Line) (line : Line) (content : Content)
    → SoFar version all sections above number rest → rest ≡ line ∷ more
    → line_fault version number above line more ≡ None → reading version line.bytes ≡ Ok content → line.ended ≡ true
    → new ≡ added content sections → SoFar version all new (below above content) (number + 1) more
so_far-next version all more sections new above number rest line content so_far rest_is none is at_end new_is = record {
  said = so_far.said ++ content ∷ [];
  fits = all_snoc version so_far.said content so_far.fits (line_spelled version line.bytes content is).1;
  lines_are = so_far.lines_are ∙ ap (λ lines. map said_line so_far.said ++ lines) (rest_is ∙ ap (λ l. l ∷ more) (is_said version line content is at_end))
      ∙ map_snoc so_far.said content more;
  built_is = new_is ∙ ap (added content) so_far.built_is ∙ sym (built-append [] so_far.said (content ∷ []));
  fault_is = so_far.fault_is ∙ ap (fault_from version number above) rest_is
      ∙ ap (λ fault. or_else fault (fault_from version (suc number) (below_line above (reading version line.bytes)) more)) none
      ∙ ap (λ said. fault_from version (suc number) (below_line above said) more) is
      ∙ ap (λ n. fault_from version n (below above content) more) (one_more number);
}

pub so_far-fault : (version : Version) (all more : List Line) (sections : List Section) (above : Above) (number : ℕ)
    (rest : List Line) (line : Line) (fault : ReadFault)
    → SoFar version all sections above number rest → rest ≡ line ∷ more → line_fault version number above line more ≡ Some fault
    → fault_from version 2 nothing all ≡ Some fault
so_far-fault version all more sections above number rest line fault so_far rest_is is =
    so_far.fault_is ∙ ap (fault_from version number above) rest_is
    ∙ ap (λ first. or_else first (fault_from version (suc number) (below_line above (reading version line.bytes)) more)) is

pub so_far-ends : (version : Version) (all rest : List Line) (sections : List Section) (above : Above) (number : ℕ)
    → SoFar version all sections above number rest → rest ≡ []
    → (fault_from version 2 nothing all ≡ None)
    × (said : List Content) × (list_all (is_content version) said ≡ true) × (all ≡ map said_line said) × (sections ≡ built [] said)
so_far-ends version all rest sections above number so_far rest_is = (
  so_far.fault_is ∙ ap (fault_from version number above) rest_is,
  so_far.said,
  so_far.fits,
  so_far.lines_are ∙ ap (λ lines. map said_line so_far.said ++ lines) rest_is ∙ append-nil (map said_line so_far.said),
  so_far.built_is,
)
