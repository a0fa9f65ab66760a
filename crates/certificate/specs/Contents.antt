-- What a certificate says of each block and its loops, in which order it says it, and how it is spelled. ISO 7185:1990
-- knows no certificates. It does not say what its claims mean for a program.
use Rattle.std.specs.Prelude.{◌≡◌, ℕ, ℤ, pos, neg_ℤ, Bool, true, false, not, ◌&&◌, ◌||◌, nat_le, int_le, List, [], ◌∷◌}
use Rattle.std.specs.Prelude.{length, nat_lt}
use Rattle.std.specs.Prelude.{◌++◌, map, Option, Some, None, Result, Ok, Err, codes}
use Rattle.std.specs.List.{flat_map, list_all}
use Rattle.std.specs.declared.cmp.Ordering.{Ordering}
use Rattle.std.specs.Ordering.{is_lt, int_eq, nat_cmp, ordering_then}
use Rattle.std.specs.declared.cmp.Ordering.TheVariants.{Equal}
use Rattle.memory.specs.Refused.{the_refusal}
use Rattle.domain.specs.Facts.{Step, Path, Bound, Span, Elements, Field, Number, Plus, Range, Defined, Order}
use Rattle.domain.specs.Facts.{Grows}
use Rattle.domain.specs.Facts.{Fact as VariableFact, said_path, said_spans, subject_order}
use Rattle.domain.specs.Interval.{Interval}
use Rattle.domain.specs.Versions.{has, most_spans}
use Rattle.domain.specs.declared.growth.Growth.{Growth}
use Rattle.domain.specs.declared.versions.Extension.TheVariants.{Boxes, Growths}
use Rattle.domain.specs.declared.versions.Version.{Version}
use Rattle.domain.specs.declared.versions.Version.TheVariants.{One, Three, Two}
use Rattle.text_lines.specs.Lines.{ended}
use Rattle.certificate.specs.declared.AliasPair.{AliasPair}
use Rattle.certificate.specs.declared.Certificate.{Certificate}
use Rattle.certificate.specs.declared.Section.{Section as KeptSection}
use Rattle.certificate.specs.declared.LoopClaims.{LoopClaims as KeptLoop}
use Rattle.certificate.specs.declared.facts.Fact.{Fact as KeptFact}
use Rattle.certificate.specs.declared.facts.Fact.TheVariants as kept
use Rattle.certificate.specs.declared.fault.ReadFault.{ReadFault}
use Rattle.certificate.specs.declared.fault.ReadFault.TheVariants.{Memory}
use Rattle.certificate.specs.Words.{most, maxint}
use Rattle.certificate.specs.Paths.{is_name}
use Rattle.certificate.specs.Lines.{ClaimLine, Alias, Change, Entry, Exit, Fact, Content, Block, Loop, Claimed, ascends}
use Rattle.certificate.specs.Lines.{line_of}

-- what is claimed of a loop: what it changes, and the facts that hold whenever a turn begins
pub record LoopClaims : Type 0 where
  pub number : ℕ
  pub changes : List ℕ
  pub facts : List VariableFact

-- what is claimed of a block: which pairs of variables may share a place in it, what it changes, the facts that hold
-- where it begins and where it ends; and of its loops
pub record Section : Type 0 where
  pub block : ℕ
  pub aliases : List AliasPair
  pub changes : List ℕ
  pub entry : List VariableFact
  pub exit : List VariableFact
  pub loops : List LoopClaims

-- what a certificate says, wherever it lies in memory
abbrev pub said_fact : KeptFact → VariableFact
said_fact (kept.Range path range) = Range (said_path path) range
said_fact (kept.Defined path spans) = Defined (said_path path) (said_spans spans)
said_fact (kept.Order root other number) = Order root other number
said_fact (kept.Grows root growth) = Grows root growth

abbrev pub loop_of : KeptLoop → LoopClaims
loop_of claims =
    record { number = claims.number; changes = claims.changes.items; facts = map said_fact claims.facts.items }

abbrev pub section_of : KeptSection → Section
section_of section = record {
  block = section.block;
  aliases = section.aliases.items;
  changes = section.changes.items;
  entry = map said_fact section.entry.items;
  exit = map said_fact section.exit.items;
  loops = map loop_of section.loops.items;
}

abbrev pub contents : Certificate → List Section
contents certificate = map section_of certificate.sections.items

-- ---- what may be said in a certificate of a version

-- the number of a block, a loop or a variable
abbrev pub is_small : ℕ → Bool
is_small number = nat_le number most

-- another number
abbrev pub is_constant : ℤ → Bool
is_constant number = int_le (neg_ℤ (pos maxint)) number && int_le number (pos maxint)

-- a range has a number, or is the one without, 1 to 0
abbrev pub is_plain : Interval → Bool
is_plain range = int_le range.first range.last || (int_eq range.first (pos 1) && int_eq range.last (pos 0))

-- a step: elements where these may stand, and fields by right names
abbrev pub is_step : (elements : Bool) → Step → Bool
is_step elements Elements = elements
is_step elements (Field name) = is_name name

abbrev pub is_path : (elements : Bool) → Path → Bool
is_path elements path = is_small path.root && list_all (is_step elements) path.steps

abbrev pub is_bound : Bound → Bool
is_bound (Number number) = is_constant number
is_bound (Plus root number) = is_small root && is_constant number

abbrev pub is_span : Span → Bool
is_span span = is_bound span.first && is_bound span.last

-- spans are no more than a fact has at most
abbrev pub are_spans : Version → List Span → Bool
are_spans version spans = nat_le (length spans) (most_spans version) && list_all is_span spans

-- a growth has numbers in range, and no lower one above the upper one
abbrev pub is_growth : Growth → Bool
is_growth growth =
    (is_constant growth.first && is_constant growth.first_step)
    && ((is_constant growth.last && is_constant growth.last_step) && ascends growth)

-- a fact has right paths and spans, its numbers are in range, and the version has its form
abbrev pub is_fact : Version → VariableFact → Bool
is_fact version (Range path range) =
    is_path true path && (is_constant range.first && (is_constant range.last && is_plain range))
is_fact version (Defined path spans) = is_path (has version Boxes) path && are_spans version spans
is_fact version (Order root other number) = is_small root && (is_small other && is_constant number)
is_fact version (Grows root growth) = has version Growths && (is_small root && is_growth growth)

-- a claim's numbers are in range, and its facts right
abbrev pub is_claim : Version → ClaimLine → Bool
is_claim version (Alias pair) = is_small pair.first && is_small pair.second
is_claim version (Change root) = is_small root
is_claim version (Entry fact) = is_fact version fact
is_claim version (Exit fact) = is_fact version fact
is_claim version (Fact fact) = is_fact version fact

-- a claim is one of a loop, or of a block itself, with the smaller variable of a pair first
abbrev pub may_stand : (in_loop : Bool) → ClaimLine → Bool
may_stand in_loop (Alias pair) = not in_loop && nat_lt pair.first pair.second
may_stand in_loop (Change root) = true
may_stand in_loop (Entry fact) = not in_loop
may_stand in_loop (Exit fact) = not in_loop
may_stand in_loop (Fact fact) = in_loop

abbrev pub is_right : Version → (in_loop : Bool) → ClaimLine → Bool
is_right version in_loop claim = is_claim version claim && may_stand in_loop claim

-- ---- the order

-- the place of a claim's word among the words
abbrev pub word_place : ClaimLine → ℕ
word_place (Alias pair) = 0
word_place (Change root) = 1
word_place (Entry fact) = 2
word_place (Exit fact) = 3
word_place (Fact fact) = 4

abbrev pub pair_order : AliasPair → AliasPair → Ordering
pair_order a b = ordering_then (nat_cmp a.first b.first) (nat_cmp a.second b.second)

-- claims of one word, by what they say something of
abbrev pub order_in_word : ClaimLine → ClaimLine → Ordering
order_in_word (Alias a) (Alias b) = pair_order a b
order_in_word (Change a) (Change b) = nat_cmp a b
order_in_word (Entry a) (Entry b) = subject_order a b
order_in_word (Exit a) (Exit b) = subject_order a b
order_in_word (Fact a) (Fact b) = subject_order a b
order_in_word a b = Equal

-- by words, and then by what they say something of
abbrev pub claim_order : ClaimLine → ClaimLine → Ordering
claim_order a b = ordering_then (nat_cmp (word_place a) (word_place b)) (order_in_word a b)

-- something comes behind the last one
abbrev pub comes_behind : {K : Type 0} → (K → K → Ordering) → Option K → K → Bool
comes_behind order None key = true
comes_behind order (Some last) key = is_lt (order last key)

-- each comes behind the one before it, and is right
abbrev pub are_listed : {A K : Type 0} → (K → K → Ordering) → (A → K) → (A → Bool) → Option K → List A → Bool
are_listed order key is_right last [] = true
are_listed order key is_right last (one ∷ more) =
    comes_behind order last (key one) && (is_right one && are_listed order key is_right (Some (key one)) more)

abbrev pub is_empty : {A : Type 0} → List A → Bool
is_empty [] = true
is_empty (one ∷ more) = false

-- the claims of a loop: its changes, then its facts
abbrev pub claims_of_loop : LoopClaims → List ClaimLine
claims_of_loop claims = map Change claims.changes ++ map Fact claims.facts

-- the claims of a block itself: its pairs, then its changes, then the facts where it begins and where it ends
abbrev pub claims_of_block : Section → List ClaimLine
claims_of_block section =
    map Alias section.aliases
    ++ (map Change section.changes ++ (map Entry section.entry ++ map Exit section.exit))

-- claims of a loop, or of a block itself, are in order
abbrev pub are_claims : Version → (in_loop : Bool) → List ClaimLine → Bool
are_claims version in_loop claims = are_listed claim_order (λ claim. claim) (is_right version in_loop) None claims

-- something is claimed of a loop, in order
abbrev pub is_loop : Version → LoopClaims → Bool
is_loop version claims =
    is_small claims.number
    && (not (is_empty (claims_of_loop claims)) && are_claims version true (claims_of_loop claims))

-- something is claimed of a block itself or of loops of it, in order, the loops by their numbers
abbrev pub is_section : Version → Section → Bool
is_section version section =
    is_small section.block
    && (not (is_empty (claims_of_block section) && is_empty section.loops)
    && (are_claims version false (claims_of_block section)
    && are_listed nat_cmp (λ claims. claims.number) (is_loop version) None section.loops))

-- sections are in order, and so is what each says
abbrev pub are_in_order : Version → List Section → Bool
are_in_order version sections = are_listed nat_cmp (λ section. section.block) (is_section version) None sections

-- ---- the spelling

-- a line for each claim, a block's and a loop's heading first
abbrev pub lines_of_loop : LoopClaims → List Content
lines_of_loop claims = Loop claims.number ∷ map Claimed (claims_of_loop claims)

abbrev pub lines_of_section : Section → List Content
lines_of_section section =
    Block section.block ∷ (map Claimed (claims_of_block section) ++ flat_map lines_of_loop section.loops)

abbrev pub lines_of : List Section → List Content
lines_of sections = flat_map lines_of_section sections

-- the first line of a certificate of a version
abbrev pub heading : Version → List ℕ
heading One = codes "pcert 1"
heading Two = codes "pcert 2"
heading Three = codes "pcert 3"

-- the text of a certificate
abbrev pub spelling : Version → List Section → List ℕ
spelling version sections = ended (heading version) ++ flat_map (λ content. ended (line_of content)) (lines_of sections)

-- a certificate is in order, and a text is its spelling
pub record Spells (text : List ℕ) (certificate : Certificate) : Type 0 where
  pub in_order : are_in_order certificate.version (contents certificate) ≡ true
  pub text_is : text ≡ spelling certificate.version (contents certificate)

-- sections are answered, and their version, or memory ran out
abbrev pub IsReadAs : Version → List Section → Result Certificate ReadFault → Type 0
IsReadAs version sections (Ok certificate) = (certificate.version ≡ version) × (contents certificate ≡ sections)
IsReadAs version sections (Err fault) = fault ≡ Memory the_refusal
