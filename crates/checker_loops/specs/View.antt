-- The loops of the program as the definitions see them. It does not say what is known of them.
use Rattle.std.specs.Prelude.{ℕ, ◌≡◌, ◌<◌, List, [], ◌++◌, Option, Some, None, get_or, length, map}
use Rattle.std.specs.Prelude.{◌&&◌, ◌∷◌, filter, if◌then◌else◌, nat_eq}
use Rattle.std.specs.BTreeMap.{BTreeMap, get}
use Rattle.std.specs.Ordering.{nat_cmp, ordering_then}
use Rattle.std.specs.declared.cmp.Ordering.{Ordering}
use Rattle.std.specs.Global.{Vec}
use Rattle.std.specs.List.{range_with_len}
use denote.Ref.{Bor}
use Rattle.certificate.specs.declared.AliasPair.{AliasPair}
use Rattle.certificate.specs.declared.LoopClaims.{LoopClaims as LoopLines}
use Rattle.certificate.specs.Contents.{LoopClaims, loop_of, said_fact}
use Rattle.domain.specs.Facts.{Fact, Range, Defined, Order, Grows, Span}
use Rattle.checker_rows.specs.Limits.{integer}
use Rattle.checker_state.specs.State as state
use Rattle.checker_state.specs.State.{Claim, at_most_by}
use Rattle.typed_tree.specs.declared.tree.Tree.{Tree}
use Rattle.checker_loops.specs.declared.loops.Claims.{Claims as KeptClaims}
use Rattle.checker_loops.specs.declared.rounds.Round.{Round as KeptRound}
use Rattle.checker_loops.specs.Loops.{Claims, Round, asked_of, claims_of, defined_of, or_else, round_of, rows_named}
use Rattle.checker_loops.specs.Loops.{touched, with_own}
use Rattle.checker_loops.specs.Growths.{Turns}
use Rattle.checker_loops.specs.declared.growths.Turns.{Turns as KeptTurns}
use Rattle.checker_loops.specs.Pairs.{Listed, aliases_of, declared_aliases, declares, partner}

-- ---- claims

-- what is claimed of a loop
abbrev pub said_claims : KeptClaims → Claims
said_claims claims = record { changes = claims.changes; facts = map said_fact claims.facts.now }

-- the rows of which a fact says something; an order, which speaks of none, is said once, and a growth not at all
abbrev pub rows_said : Tree → Fact → List ℕ
rows_said tree (Range path range) = rows_named tree path
rows_said tree (Defined path spans) = rows_named tree path
rows_said tree (Order root other number) = 0 ∷ []
rows_said tree (Grows root growth) = []

-- what it says there, by what it is of a row to be defined; a growth that values are integers, which they are
abbrev pub claim_by : (List Span → ℕ → Claim) → Fact → ℕ → Claim
claim_by defined (Range path range) row = state.Range row range
claim_by defined (Defined path spans) row = defined spans row
claim_by defined (Order root other number) row = at_most_by root other number
claim_by defined (Grows root growth) row = state.Range row integer

abbrev pub claim_at : Tree → Fact → ℕ → Claim
claim_at tree fact row = claim_by (defined_of tree) fact row

-- what is asked there
abbrev pub asked_at : Tree → Fact → ℕ → Claim
asked_at tree fact row = claim_by (asked_of tree) fact row

-- claims that the checker has found, as the definitions see them
abbrev pub found_as : Option (Bor LoopLines) → Option LoopClaims
found_as None = None
found_as (Some claims) = Some (loop_of claims.now)

-- what is claimed of a loop by those that were found
abbrev pub claims_found : Option (Bor LoopLines) → Claims
claims_found found = claims_of (found_as found)

-- claims were found for loops by their numbers: where some were known before, those stay
pub record AreFound (old new : List (Option (Bor LoopLines))) (found : ℕ → Option LoopClaims) : Type 0 where
  pub same_length : length new ≡ length old
  pub each : (number : ℕ) → number < length old
      → found_as (get_or new number None) ≡ or_else (found_as (get_or old number None)) (found number)

-- the pairs that a certificate lists, as the definitions see them
abbrev pub said_pair : AliasPair → ℕ × ℕ
said_pair pair = (pair.first, pair.second)

abbrev pub said_pairs : List AliasPair → List (ℕ × ℕ)
said_pairs pairs = map said_pair pairs

abbrev pub listed_of : Tree → List AliasPair → Listed
listed_of tree pairs = record { tree = tree; pairs = said_pairs pairs }

-- what rows of variables hold, and the row of a number; one that isn't there has none
abbrev pub partners_at : List (Vec ℕ) → ℕ → List ℕ
partners_at rows root = get_or (map (λ row. row.items) rows) root []

-- rows have the aliases of each variable by pairs
abbrev pub ArePartners : List (ℕ × ℕ) → List (Vec ℕ) → Type 0
ArePartners pairs rows = (root : ℕ) → partners_at rows root ≡ aliases_of pairs root

-- each variable of a pair has the other more
abbrev pub HaveEntered : AliasPair → (old new : List (Vec ℕ)) → Type 0
HaveEntered pair old new = (root : ℕ) → partners_at new root ≡ partners_at old root ++ partner root (said_pair pair)

-- what a table holds for a variable and a block
abbrev pub kept_row : Option (Vec ℕ) → List ℕ
kept_row None = []
kept_row (Some row) = row.items

abbrev pub Table : Type 0
Table = BTreeMap (ℕ × ℕ) (Vec ℕ)

-- the order of its keys
abbrev pub key_cmp : ℕ × ℕ → ℕ × ℕ → Ordering
key_cmp one other = ordering_then (nat_cmp one.0 other.0) (nat_cmp one.1 other.1)

abbrev pub row_at : Table → (root number : ℕ) → List ℕ
row_at table root number = kept_row (get key_cmp table (root, number))

-- a table has, of each variable and each block, the aliases that the block declares
abbrev pub AreByBlock : Listed → Table → Type 0
AreByBlock listed table = (root number : ℕ) → row_at table root number ≡ declared_aliases listed root number

-- a variable is more at a key
abbrev pub HasAt : (key : ℕ × ℕ) → ℕ → (old new : Table) → Type 0
HasAt key other old new = (root number : ℕ) → row_at new root number
    ≡ row_at old root number ++ (if nat_eq key.0 root && nat_eq key.1 number then other ∷ [] else [])

-- a variable is more at another and its own block
abbrev pub HasPartner : Tree → ℕ → ℕ → (old new : Table) → Type 0
HasPartner tree row other old new = (root number : ℕ) → row_at new root number
    ≡ row_at old root number ++ filter (declares tree number) (if nat_eq row root then other ∷ [] else [])

-- each variable of a pair has the other more, at its block
abbrev pub HaveEnteredByBlock : Tree → AliasPair → (old new : Table) → Type 0
HaveEnteredByBlock tree pair old new = (root number : ℕ) → row_at new root number
    ≡ row_at old root number ++ filter (declares tree number) (partner root (said_pair pair))

-- rows are as many as are wanted, and hold what they held
pub record AreWidened (number : ℕ) (old new : List (Vec ℕ)) : Type 0 where
  pub enough : number < length new
  pub same : (root : ℕ) → partners_at new root ≡ partners_at old root

-- the aliases of what a loop changes, by its number, and those of each loop
abbrev pub loop_aliases : Tree → Listed → List Claims → ℕ → List ℕ
loop_aliases tree listed claims number = (round_of tree listed claims number).aliases

abbrev pub all_loop_aliases : Tree → Listed → List Claims → List (List ℕ)
all_loop_aliases tree listed claims =
    map (loop_aliases tree listed claims) (range_with_len 0 (length tree.loops.items))

-- a loop of the checker: what is claimed of it, and the loop round its body, and at its head
abbrev pub claims_of_round : KeptRound → Claims
claims_of_round round = record { changes = round.changes.listed.now; facts = map said_fact round.facts.now }

abbrev pub loop_of_round : KeptRound → Round
loop_of_round round = record {
  changes = round.changes.listed.now;
  controls = round.controls.now;
  aliases = round.aliases.now;
  is_for = round.is_for;
}

abbrev pub head_round : KeptRound → Round
head_round round = with_own round.own (loop_of_round round)

-- the turns of a for statement
abbrev pub said_turns : KeptTurns → Turns
said_turns turns = record { depth = turns.depth; most = turns.most; touched = touched (head_round turns.round) }

-- the control variable of a for statement
abbrev pub own_controls : Option ℕ → List ℕ
own_controls None = []
own_controls (Some control) = control ∷ []
