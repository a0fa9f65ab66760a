-- Claims, turns of loops, and what is held with a bound in the place of a variable, one after another.
use Rattle.std.proofs.Common.{◌≡◌, ◌∙◌, sym, ap, refl, ℕ, ◌+◌, ◌<◌, List, [], ◌∷◌, ◌++◌, get_or, length, map, take, Option, Some}
use Rattle.std.specs.List.{filter_map}
use Rattle.std.proofs.lemmas.List.{take_more}
use Rattle.domain.specs.Interval.{Interval}
use Rattle.typed_tree.specs.declared.tree.Tree.{Tree}
use Rattle.checker_rows.specs.Limits.{row_limits}
use Rattle.checker_rows.specs.Rows.{rows_of}
use Rattle.checker_state.specs.declared.bound.Bound.{Bound as KeptBound}
use Rattle.checker_state.specs.declared.bound.Rebinding.TheVariants as rebinding
use Rattle.checker_state.specs.declared.held.Claim.{Claim as KeptClaim}
use Rattle.checker_state.specs.declared.held.Held.{Held as KeptHeld}
use Rattle.checker_trail.specs.declared.state.State.{State as Kept}
use Rattle.checker_state.specs.State.{Dead, Live, State, with_more, with_range}
use Rattle.checker_state.specs.Loops.{all_forgotten, replaced, with_claim, with_claims, with_forgotten, with_limits}
use Rattle.checker_trail.specs.Trail.{Moves, over_held, seen}
use Rattle.checker_state.specs.View.{held_by, said_bound, said_claim, said_form}
use Rattle.checker_known.proofs.HeldLists.{said_all}
use Rattle.checker_trail.proofs.Steps.{held-as, held-then}
use Rattle.checker_trail.proofs.Ways.{moves-as, moves-told}

pub forgotten-append : (roots : List ℕ) (root : ℕ) (state : State)
    → with_forgotten root (all_forgotten roots state) ≡ all_forgotten (roots ++ root ∷ []) state
forgotten-append [] root state = refl
forgotten-append (first ∷ roots) root state = forgotten-append roots root (with_forgotten first state)

pub claims-append : (claims : List KeptClaim) (claim : KeptClaim) (state : State)
    → with_claim (said_claim claim) (with_claims (map said_claim claims) state) ≡ with_claims (map said_claim (claims ++ claim ∷ [])) state
claims-append [] claim state = refl
claims-append (first ∷ claims) claim state = claims-append claims claim (with_claim (said_claim first) state)

limits-append : (limits : ℕ → Interval) (rows : List ℕ) (row : ℕ) (state : State)
    → with_range row (limits row) (with_limits limits rows state) ≡ with_limits limits (rows ++ row ∷ []) state
limits-append limits [] row state = refl
limits-append limits (first ∷ rows) row state = limits-append limits rows row (with_range first (limits first) state)

-- a row more may have other values of its type
pub limits-more : {a b c : Kept} (rows : List ℕ) (i row : ℕ) (range : Interval) → i < length rows → row ≡ get_or rows i row
    → range ≡ row_limits (rows_of b.table.now) row → Moves (with_limits (row_limits (rows_of a.table.now)) (take i rows)) a b
    → Moves (with_range row range) b c → Moves (with_limits (row_limits (rows_of a.table.now)) (take (i + 1) rows)) a c
limits-more {a = a} {b = b} rows i row range inside is range_is first rest =
    let limits = row_limits (rows_of a.table.now) in
    let both = moves-told (λ (tree : Tree) (state : State). with_range row (row_limits (rows_of tree) row) state) first
    (moves-as (with_range row (row_limits (rows_of b.table.now) row)) rest (ap (λ (r : Interval). with_range row r (seen b)) range_is)) in
    moves-as (with_limits limits (take (i + 1) rows)) both
    (limits-append limits (take i rows) row (seen a) ∙ ap (λ (last : ℕ). with_limits limits (take i rows ++ last ∷ []) (seen a)) is
    ∙ sym (ap (λ (some : List ℕ). with_limits limits some (seen a)) (take_more rows i row inside)))

-- what was held is held anew
pub anew-moves : {a b c : Kept} (there : List KeptHeld) → there ≡ a.known.held.items → Moves (over_held (λ held. [])) a b
    → Moves (over_held (with_more (said_all there))) b c → Moves (over_held (λ held. with_more held [])) a c
anew-moves there same first rest =
    held-as (λ held. with_more (said_all there) []) (λ held. with_more held [])
    (held-then (λ held. []) (with_more (said_all there)) (λ held. with_more (said_all there) []) first rest (λ held. refl))
    (ap (λ (held : List KeptHeld). with_more (said_all held) []) same)

over-replaced : (root : ℕ) (own : KeptBound) (state : State)
    → over_held (λ held. with_more (filter_map (held_by (rebinding.InPlace root own)) held) []) state ≡ replaced root (Some (said_bound own)) state
over-replaced root own Dead = refl
over-replaced root own (Live facts) = refl

pub replaced-moves : {a b c : Kept} (root : ℕ) (own : KeptBound) (form : Option KeptBound) → form ≡ Some own
    → Moves (over_held (filter_map (held_by (rebinding.InPlace root own)))) a b → Moves (over_held (λ held. with_more held [])) b c
    → Moves (replaced root (said_form form)) a c
replaced-moves {a = a} root own form is first rest =
    let change = filter_map (held_by (rebinding.InPlace root own)) in
    moves-as (replaced root (said_form form))
    (held-then change (λ held. with_more held []) (λ held. with_more (change held) []) first rest (λ held. refl))
    (over-replaced root own (seen a) ∙ ap (λ (of : Option KeptBound). replaced root (said_form of) (seen a)) (sym is))
