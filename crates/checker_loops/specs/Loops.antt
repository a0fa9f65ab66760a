-- What a certificate claims of a loop, and what the checker goes by where a turn of it begins (ISO 7185:1990, 6.8.3.6).
-- It does not say that a loop keeps to that.
use Rattle.std.specs.Prelude.{ℕ, List, [], ◌∷◌, ◌++◌, Option, Some, None, Bool, false, if◌then◌else◌}
use Rattle.std.specs.Prelude.{flat_map, map, nat_eq, length, slice_get, slice_index_or}
use Rattle.std.specs.List.{list_all, range_with_len}
use Rattle.std.specs.Option.{is_some}
use Rattle.typed_tree.specs.declared.tree.Loop.{Loop}
use Rattle.typed_tree.specs.declared.tree.Tree.{Tree}
use Rattle.certificate.specs.declared.Certificate.{Certificate}
use Rattle.certificate.specs.Contents.{LoopClaims, Section, contents}
use Rattle.domain.specs.Facts as fact
use Rattle.domain.specs.Facts.{Path}
use Rattle.checker_rows.specs.Limits.{row_limits}
use Rattle.checker_rows.specs.Rows.{Named, index_at, part_named, rows_of, rows_touched, rows_under}
use Rattle.checker_state.specs.Bounds.{Bound, constant, plus}
use Rattle.checker_state.specs.State.{Claim, Defined, Range, Span, State, at_most_by, in_spans, table_of}
use Rattle.checker_state.specs.Loops.{gives_all, head, is_among}
use Rattle.checker_state.specs.Stores.{all_of_row}
use Rattle.checker_loops.specs.Pairs.{Listed, all_aliases_in}

-- what is claimed of a loop: the variables that it changes, and facts that hold whenever a turn begins
pub record Claims : Type 0 where
  pub changes : List ℕ
  pub facts : List fact.Fact

-- nothing is claimed
abbrev pub no_claims : Claims
no_claims = record { changes = []; facts = [] }

-- ---- what claims say

-- a bound of a certificate
abbrev pub said_bound : fact.Bound → Bound
said_bound (fact.Number n) = constant n
said_bound (fact.Plus root n) = plus root n

-- the rows under what a path names
abbrev pub rows_in : Tree → ℕ → Option Named → List ℕ
rows_in tree root None = []
rows_in tree root (Some named) = rows_under tree root named.steps

abbrev pub rows_named : Tree → Path → List ℕ
rows_named tree path = rows_in tree path.root (part_named tree path)

abbrev pub said_span : fact.Span → Span
said_span span = record { first = said_bound span.first; last = said_bound span.last }

-- what is defined of a row: all of it, or what lies in spans
abbrev pub defined_of : Tree → List fact.Span → ℕ → Claim
defined_of tree [] row = all_of_row (index_at (rows_of tree) row) row
defined_of tree (span ∷ spans) row = in_spans row (said_span span ∷ map said_span spans)

-- what is asked for that: all of a row is asked of the row, so that two stretches that meet don't give it together
abbrev pub asked_of : Tree → List fact.Span → ℕ → Claim
asked_of tree [] row = Defined row
asked_of tree (span ∷ spans) row = defined_of tree (span ∷ spans) row

-- what a claim says of rows, and of variables, by what it is of a row to be defined
abbrev pub said_by : (List fact.Span → ℕ → Claim) → Tree → fact.Fact → List Claim
said_by defined tree (fact.Range path range) = map (λ row. Range row range) (rows_named tree path)
said_by defined tree (fact.Defined path spans) = map (defined spans) (rows_named tree path)
said_by defined tree (fact.Order root other number) = at_most_by root other number ∷ []
said_by defined tree (fact.Grows root growth) = []

-- of a growth nothing: it goes by finished turns, and is no claim that each turn keeps (`Growths.antt`)
abbrev pub said : Tree → fact.Fact → List Claim
said tree fact = said_by (defined_of tree) tree fact

abbrev pub all_said : Tree → List fact.Fact → List Claim
all_said tree facts = flat_map (said tree) facts

-- what is asked of a state for a claim
abbrev pub asked : Tree → fact.Fact → List Claim
asked tree fact = said_by (asked_of tree) tree fact

-- a state gives each of several claims
abbrev pub gives_claims : Tree → State → List fact.Fact → Bool
gives_claims tree state facts = gives_all (table_of tree) state (flat_map (asked tree) facts)

-- ---- the claims of a certificate

-- what is claimed, if anything is
abbrev pub claims_of : Option LoopClaims → Claims
claims_of None = no_claims
claims_of (Some one) = record { changes = one.changes; facts = one.facts }

-- the claims on the loop of a number among those on several
abbrev pub found_among : ℕ → List LoopClaims → Option LoopClaims
found_among number [] = None
found_among number (one ∷ more) = if nat_eq one.number number then Some one else found_among number more

-- what is found first
abbrev pub or_else : Option LoopClaims → Option LoopClaims → Option LoopClaims
or_else None other = other
or_else (Some one) other = Some one

-- the claims on it in several sections
abbrev pub found_in : ℕ → List Section → Option LoopClaims
found_in number [] = None
found_in number (section ∷ sections) = or_else (found_among number section.loops) (found_in number sections)

-- the claims of a certificate on the loop of a number: none, where it doesn't speak of it
abbrev pub claims_on : Certificate → ℕ → Claims
claims_on certificate number = claims_of (found_in number (contents certificate))

-- the claims of a certificate on each loop of the program, by its number
abbrev pub all_claims : Tree → Certificate → List Claims
all_claims tree certificate = map (claims_on certificate) (range_with_len 0 (length tree.loops.items))

-- the claims on the loop of a number by those on all; none where there is no such loop
abbrev pub claims_at : List Claims → ℕ → Claims
claims_at claims number = slice_index_or claims number no_claims

-- a loop round a point: the variables that its claims list, the control variables of the for statements in it, the
-- aliases of both that are visible in its block, and whether it is a for statement (6.8.3.9)
pub record Round : Type 0 where
  pub changes : List ℕ
  pub controls : List ℕ
  pub aliases : List ℕ
  pub is_for : Bool

-- the control variables of the for statements inside a loop, by its row in the table; none where it has no row
abbrev pub controls_of : Option Loop → List ℕ
controls_of None = []
controls_of (Some row) = row.controls.items

abbrev pub controls_inside : Tree → ℕ → List ℕ
controls_inside tree number = controls_of (slice_get tree.loops.items number)

-- a loop is a for statement, by its row; it is none where it has no row
abbrev pub has_control : Option Loop → Bool
has_control None = false
has_control (Some row) = is_some row.control

abbrev pub is_for_statement : Tree → ℕ → Bool
is_for_statement tree number = has_control (slice_get tree.loops.items number)

-- the aliases of variables that are visible in the block of a loop, by its row; none where it has no row
abbrev pub aliases_there : Listed → List ℕ → Option Loop → List ℕ
aliases_there listed roots None = []
aliases_there listed roots (Some row) = all_aliases_in listed row.block roots

-- the loop of a number, by the claims on all loops and by the listed pairs
abbrev pub round_of : Tree → Listed → List Claims → ℕ → Round
round_of tree listed claims number =
    let changes = (claims_at claims number).changes in
    let controls = controls_inside tree number in
    record {
      changes = changes;
      controls = controls;
      aliases = aliases_there listed (controls ++ changes) (slice_get tree.loops.items number);
      is_for = is_for_statement tree number;
    }

-- a loop at its head: a for statement has a control variable of its own
abbrev pub with_own : Option ℕ → Round → Round
with_own None round = round
with_own (Some control) round = record round { controls = control ∷ round.controls }

-- what a loop touches
abbrev pub touched : Round → List ℕ
touched round = round.controls ++ (round.changes ++ round.aliases)

-- what is known at the head of a loop: what its turns leave, and the claims
abbrev pub head_of : Tree → Round → List fact.Fact → State → State
head_of tree round facts state =
    head (row_limits (rows_of tree)) (touched round) (rows_touched tree (touched round)) round.controls
    (all_said tree facts) state

-- each of these loops lists a variable
abbrev pub all_list : ℕ → List Round → Bool
all_list root rounds = list_all (λ round. is_among root round.changes) rounds
