-- Claims in order are those of each word, one word after another.
use Rattle.std.proofs.Common.{◌≡◌, ℕ, ◌≤◌, Bool, true, false, ◌&&◌, nat_le, List, [], ◌∷◌, ◌++◌, map, Option, Some, None, refl, ap, ◌∙◌, arith}
use Rattle.std.specs.List.{list_all}
use Rattle.std.specs.declared.cmp.Ordering.{Ordering}
use Rattle.std.specs.declared.cmp.Ordering.TheVariants.{Less, Equal, Greater}
use Rattle.std.specs.Ordering.{is_le, is_lt, nat_cmp, ordering_then}
use Rattle.std.proofs.lemmas.Bool.{and_from, and_parts}
use Rattle.std.proofs.lemmas.Bool.Decides.{nat_tests}
use Rattle.std.proofs.lemmas.List.{append-nil}
use Rattle.std.proofs.lemmas.Map.Keys.{le_from_is_le}
use Rattle.domain.specs.Facts.{Fact as VariableFact}
use Rattle.domain.specs.declared.versions.Version.{Version}
use Rattle.certificate.specs.declared.AliasPair.{AliasPair}
use Rattle.certificate.specs.Lines.{ClaimLine, Alias, Change, Entry, Exit, Fact}
use Rattle.certificate.specs.Contents.{are_claims, are_listed, claim_order, comes_behind, is_claim, is_right, may_stand, order_in_word, word_place}

-- ---- claims of one word

-- what is picked of each claim that has it
abbrev put : {A : Type 0} → Option A → List A → List A
put None more = more
put (Some one) more = one ∷ more

abbrev picked : {A : Type 0} → (ClaimLine → Option A) → List ClaimLine → List A
picked pick [] = []
picked pick (claim ∷ more) = put (pick claim) (picked pick more)

abbrev as_pair : ClaimLine → Option AliasPair
as_pair (Alias pair) = Some pair
as_pair claim = None

abbrev as_root : ClaimLine → Option ℕ
as_root (Change root) = Some root
as_root claim = None

abbrev as_entry : ClaimLine → Option VariableFact
as_entry (Entry fact) = Some fact
as_entry claim = None

abbrev as_exit : ClaimLine → Option VariableFact
as_exit (Exit fact) = Some fact
as_exit claim = None

abbrev as_fact : ClaimLine → Option VariableFact
as_fact (Fact fact) = Some fact
as_fact claim = None

abbrev pub pairs_in : List ClaimLine → List AliasPair
pairs_in claims = picked as_pair claims

abbrev pub roots_in : List ClaimLine → List ℕ
roots_in claims = picked as_root claims

abbrev pub entry_in : List ClaimLine → List VariableFact
entry_in claims = picked as_entry claims

abbrev pub exit_in : List ClaimLine → List VariableFact
exit_in claims = picked as_exit claims

abbrev pub facts_in : List ClaimLine → List VariableFact
facts_in claims = picked as_fact claims

-- the claims of five lists
abbrev kinds : List AliasPair → List ℕ → (entry exit facts : List VariableFact) → List ClaimLine
kinds pairs roots entry exit facts = map Alias pairs ++ (map Change roots ++ (map Entry entry ++ (map Exit exit ++ map Fact facts)))

abbrev kinds_in : List ClaimLine → List ClaimLine
kinds_in claims = kinds (pairs_in claims) (roots_in claims) (entry_in claims) (exit_in claims) (facts_in claims)

-- ---- claims of which none is of a word

put_none : {A : Type 0} (one : Option A) (more : List A) → one ≡ None → more ≡ [] → put one more ≡ []
put_none None more none empty = empty
put_none (Some a) more none empty = absurd cc

picked_none : {A : Type 0} (pick : ClaimLine → Option A) (test : ClaimLine → Bool) (claims : List ClaimLine)
    → ((claim : ClaimLine) → test claim ≡ true → pick claim ≡ None) → list_all test claims ≡ true → picked pick claims ≡ []
picked_none pick test [] none all = refl
picked_none pick test (claim ∷ more) none all =
    let parts = and_parts (test claim) (list_all test more) all in
    put_none (pick claim) (picked pick more) (none claim parts.0) (picked_none pick test more none parts.1)

-- claims whose word stands at a place or behind it
abbrev from_place : ℕ → ClaimLine → Bool
from_place place claim = nat_le place (word_place claim)

no_pair : (claim : ClaimLine) → from_place 1 claim ≡ true → as_pair claim ≡ None
no_pair (Alias pair) is = absurd cc
no_pair claim is = refl

no_root : (claim : ClaimLine) → from_place 2 claim ≡ true → as_root claim ≡ None
no_root (Change root) is = absurd cc
no_root claim is = refl

no_entry : (claim : ClaimLine) → from_place 3 claim ≡ true → as_entry claim ≡ None
no_entry (Entry fact) is = absurd cc
no_entry claim is = refl

no_exit : (claim : ClaimLine) → from_place 4 claim ≡ true → as_exit claim ≡ None
no_exit (Exit fact) is = absurd cc
no_exit claim is = refl

loop_pair : (claim : ClaimLine) → may_stand true claim ≡ true → as_pair claim ≡ None
loop_pair (Alias pair) is = absurd cc
loop_pair claim is = refl

loop_entry : (claim : ClaimLine) → may_stand true claim ≡ true → as_entry claim ≡ None
loop_entry (Entry fact) is = absurd cc
loop_entry claim is = refl

loop_exit : (claim : ClaimLine) → may_stand true claim ≡ true → as_exit claim ≡ None
loop_exit (Exit fact) is = absurd cc
loop_exit claim is = refl

block_fact : (claim : ClaimLine) → may_stand false claim ≡ true → as_fact claim ≡ None
block_fact (Fact fact) is = absurd cc
block_fact claim is = refl

-- ---- claims in order

then_up : (first second : Ordering) → is_lt (ordering_then first second) ≡ true → is_le first ≡ true
then_up Less second up = refl
then_up Equal second up = refl
then_up Greater second up = absurd cc

-- a claim behind another has no lower place
place_up : (claim next : ClaimLine) → is_lt (claim_order claim next) ≡ true → word_place claim ≤ word_place next
place_up claim next up =
    le_from_is_le (word_place claim) (word_place next) (then_up (nat_cmp (word_place claim) (word_place next)) (order_in_word claim next) up)

le_true : (m n k : ℕ) → nat_le m n ≡ true → n ≤ k → nat_le m k ≡ true
le_true m n k low up = grind (arith, nat_tests)

abbrev listed : Version → Bool → Option ClaimLine → List ClaimLine → Bool
listed version in_loop last claims = are_listed claim_order (λ claim. claim) (is_right version in_loop) last claims

listed_parts : (version : Version) (in_loop : Bool) (last : Option ClaimLine) (claim : ClaimLine) (more : List ClaimLine)
    → listed version in_loop last (claim ∷ more) ≡ true
    → (comes_behind claim_order last claim ≡ true) × (is_right version in_loop claim ≡ true) × (listed version in_loop (Some claim) more ≡ true)
listed_parts version in_loop last claim more is =
    let parts = and_parts (comes_behind claim_order last claim) (is_right version in_loop claim && listed version in_loop (Some claim) more) is in
    let rest = and_parts (is_right version in_loop claim) (listed version in_loop (Some claim) more) parts.1 in
    (parts.0, rest.0, rest.1)

all_from : (version : Version) (in_loop : Bool) (place : ℕ) (last : ClaimLine) (claims : List ClaimLine) → from_place place last ≡ true
    → listed version in_loop (Some last) claims ≡ true
    → list_all (from_place place) claims ≡ true
all_from version in_loop place last [] low is = refl
all_from version in_loop place last (claim ∷ more) low is =
    let parts = listed_parts version in_loop (Some last) claim more is in
    let up = le_true place (word_place last) (word_place claim) low (place_up last claim parts.0) in
    and_from _ _ up (all_from version in_loop place claim more up parts.2)

all_stand : (version : Version) (in_loop : Bool) (last : Option ClaimLine) (claims : List ClaimLine) → listed version in_loop last claims ≡ true
    → list_all (may_stand in_loop) claims ≡ true
all_stand version in_loop last [] is = refl
all_stand version in_loop last (claim ∷ more) is =
    let parts = listed_parts version in_loop last claim more is in
    and_from _ _ (and_parts (is_claim version claim) (may_stand in_loop claim) parts.1).1 (all_stand version in_loop (Some claim) more parts.2)

change_first : (pairs : List AliasPair) (roots : List ℕ) (entry exit facts : List VariableFact) (root : ℕ) (more : List ClaimLine) → pairs ≡ []
    → more ≡ kinds pairs roots entry exit facts → Change root ∷ more ≡ kinds pairs (root ∷ roots) entry exit facts
change_first [] roots entry exit facts root more no_pairs is = ap (λ claims. Change root ∷ claims) is
change_first (pair ∷ pairs) roots entry exit facts root more no_pairs is = absurd cc

entry_first : (pairs : List AliasPair) (roots : List ℕ) (entry exit facts : List VariableFact) (fact : VariableFact) (more : List ClaimLine) → pairs ≡ []
    → roots ≡ [] → more ≡ kinds pairs roots entry exit facts → Entry fact ∷ more ≡ kinds pairs roots (fact ∷ entry) exit facts
entry_first [] [] entry exit facts fact more no_pairs no_roots is = ap (λ claims. Entry fact ∷ claims) is
entry_first [] (root ∷ roots) entry exit facts fact more no_pairs no_roots is = absurd cc
entry_first (pair ∷ pairs) roots entry exit facts fact more no_pairs no_roots is = absurd cc

exit_first : (pairs : List AliasPair) (roots : List ℕ) (entry exit facts : List VariableFact) (fact : VariableFact) (more : List ClaimLine) → pairs ≡ []
    → roots ≡ [] → entry ≡ [] → more ≡ kinds pairs roots entry exit facts → Exit fact ∷ more ≡ kinds pairs roots entry (fact ∷ exit) facts
exit_first [] [] [] exit facts fact more no_pairs no_roots no_entry is = ap (λ claims. Exit fact ∷ claims) is
exit_first [] [] (one ∷ entry) exit facts fact more no_pairs no_roots no_entry is = absurd cc
exit_first [] (root ∷ roots) entry exit facts fact more no_pairs no_roots no_entry is = absurd cc
exit_first (pair ∷ pairs) roots entry exit facts fact more no_pairs no_roots no_entry is = absurd cc

fact_first : (pairs : List AliasPair) (roots : List ℕ) (entry exit facts : List VariableFact) (fact : VariableFact) (more : List ClaimLine) → pairs ≡ []
    → roots ≡ [] → entry ≡ [] → exit ≡ [] → more ≡ kinds pairs roots entry exit facts → Fact fact ∷ more ≡ kinds pairs roots entry exit (fact ∷ facts)
fact_first [] [] [] [] facts fact more no_pairs no_roots no_entry no_exit is = ap (λ claims. Fact fact ∷ claims) is
fact_first [] [] [] (one ∷ exit) facts fact more no_pairs no_roots no_entry no_exit is = absurd cc
fact_first [] [] (one ∷ entry) exit facts fact more no_pairs no_roots no_entry no_exit is = absurd cc
fact_first [] (root ∷ roots) entry exit facts fact more no_pairs no_roots no_entry no_exit is = absurd cc
fact_first (pair ∷ pairs) roots entry exit facts fact more no_pairs no_roots no_entry no_exit is = absurd cc

-- none of the claims behind one of a word is of a word before it
module _ (version : Version) (in_loop : Bool) (last : ClaimLine) (claims : List ClaimLine) (is : listed version in_loop (Some last) claims ≡ true) where
  pairs_none : from_place 1 last ≡ true → pairs_in claims ≡ []
  pairs_none low = picked_none as_pair (from_place 1) claims no_pair (all_from version in_loop 1 last claims low is)

  roots_none : from_place 2 last ≡ true → roots_in claims ≡ []
  roots_none low = picked_none as_root (from_place 2) claims no_root (all_from version in_loop 2 last claims low is)

  entry_none : from_place 3 last ≡ true → entry_in claims ≡ []
  entry_none low = picked_none as_entry (from_place 3) claims no_entry (all_from version in_loop 3 last claims low is)

  exit_none : from_place 4 last ≡ true → exit_in claims ≡ []
  exit_none low = picked_none as_exit (from_place 4) claims no_exit (all_from version in_loop 4 last claims low is)

listed_again : (version : Version) (in_loop : Bool) (last : Option ClaimLine) (claims : List ClaimLine) → listed version in_loop last claims ≡ true
    → claims ≡ kinds_in claims
listed_again version in_loop last [] is = refl
listed_again version in_loop last (Alias pair ∷ more) is =
    ap (λ claims. Alias pair ∷ claims) (listed_again version in_loop (Some (Alias pair)) more (listed_parts version in_loop last (Alias pair) more is).2)
listed_again version in_loop last (Change root ∷ more) is =
    let rest = (listed_parts version in_loop last (Change root) more is).2 in
    change_first _ _ _ _ _ root more (pairs_none version in_loop (Change root) more rest refl) (listed_again version in_loop (Some (Change root)) more rest)
listed_again version in_loop last (Entry fact ∷ more) is =
    let rest = (listed_parts version in_loop last (Entry fact) more is).2 in
    entry_first _ _ _ _ _ fact more (pairs_none version in_loop (Entry fact) more rest refl) (roots_none version in_loop (Entry fact) more rest refl)
    (listed_again version in_loop (Some (Entry fact)) more rest)
listed_again version in_loop last (Exit fact ∷ more) is =
    let rest = (listed_parts version in_loop last (Exit fact) more is).2 in
    exit_first _ _ _ _ _ fact more (pairs_none version in_loop (Exit fact) more rest refl) (roots_none version in_loop (Exit fact) more rest refl)
    (entry_none version in_loop (Exit fact) more rest refl) (listed_again version in_loop (Some (Exit fact)) more rest)
listed_again version in_loop last (Fact fact ∷ more) is =
    let rest = (listed_parts version in_loop last (Fact fact) more is).2 in
    fact_first _ _ _ _ _ fact more (pairs_none version in_loop (Fact fact) more rest refl) (roots_none version in_loop (Fact fact) more rest refl)
    (entry_none version in_loop (Fact fact) more rest refl) (exit_none version in_loop (Fact fact) more rest refl)
    (listed_again version in_loop (Some (Fact fact)) more rest)

-- claims of a loop, in order, are its changes and then its facts
pub loop_again : (version : Version) (claims : List ClaimLine) → are_claims version true claims ≡ true
    → claims ≡ map Change (roots_in claims) ++ map Fact (facts_in claims)
loop_again version claims is =
    let stand = all_stand version true None claims is in
    listed_again version true None claims is
    ∙ ap (λ pairs. kinds pairs (roots_in claims) (entry_in claims) (exit_in claims) (facts_in claims)) (picked_none as_pair _ claims loop_pair stand)
    ∙ ap (λ entry. kinds [] (roots_in claims) entry (exit_in claims) (facts_in claims)) (picked_none as_entry _ claims loop_entry stand)
    ∙ ap (λ exit. kinds [] (roots_in claims) [] exit (facts_in claims)) (picked_none as_exit _ claims loop_exit stand)

-- claims of a block itself, in order, are its pairs, its changes, and its facts
pub block_again : (version : Version) (claims : List ClaimLine) → are_claims version false claims ≡ true
    → claims ≡ map Alias (pairs_in claims) ++ (map Change (roots_in claims) ++ (map Entry (entry_in claims) ++ map Exit (exit_in claims)))
block_again version claims is =
    listed_again version false None claims is
    ∙ ap (kinds (pairs_in claims) (roots_in claims) (entry_in claims) (exit_in claims))
    (picked_none as_fact _ claims block_fact (all_stand version false None claims is))
    ∙ ap (λ exit. map Alias (pairs_in claims) ++ (map Change (roots_in claims) ++ (map Entry (entry_in claims) ++ exit)))
    (append-nil (map Exit (exit_in claims)))
