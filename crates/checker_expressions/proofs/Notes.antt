-- What the checker noted over a piece of a program, from what it noted over the parts of it.
use Rattle.std.proofs.Common.{◌≡◌, ◌∙◌, sym, ap, ap₂, refl, Bool, false, ℕ, ◌+◌, ◌<◌, ◌≤◌, List, [], ◌∷◌, ◌++◌, drop, get_or, length, map}
use Rattle.std.proofs.Common.{append_assoc, append-nil}
use Rattle.std.proofs.Math.ListN.{drop_of_length-le}
use Rattle.typed_tree.specs.declared.tree.Expr.{Expr}
use Rattle.typed_tree.specs.declared.tree.Link.{Link}
use Rattle.checker_state.specs.State.{State}
use Rattle.checker_state.specs.declared.value.Known.{Known}
use Rattle.checker_trail.proofs.Ways as ways
use Rattle.checker_loops.specs.Loops.{Claims}
use Rattle.checker_expressions.specs.declared.flow.Flow.{Flow}
use Rattle.checker_expressions.specs.declared.noting.Noted.{Noted}
use Rattle.checker_expressions.specs.View.{Flowed, FlowGoes, context_of, state_of}
use Rattle.checker_expressions.specs.Walk.{Context, Noting, Piece, Valued, Walking, ◌>>=◌, enter, followed, give, in_turn, joint_of}
use Rattle.checker_expressions.specs.Walk.{link_walk, noting_walk, operand_noted, piece_of, turns_noted, value_walk, valued, with_noted}
use Rattle.checker_expressions.proofs.Flows.{first-none, goes-alike, goes-as, goes-behind, goes-give, goes-then}
use Rattle.checker_expressions.proofs.InTurn.{item-cut}
use Rattle.checker_expressions.proofs.Unrolled.{link-right}

-- what is noted in a piece, and then in another by the value of the first
abbrev pub noted_behind : Noting → Walking Known → (Known → Noting) → Noting
noted_behind one first two context state =
    let done = first context state in
    one context state ++ two done.value context done.after

-- notes that are told otherwise
pub noted-alike : (before : List Noted) (one other : Noting) (walking : Walking Known) {old new : Flow} {value : Valued}
    → ((context : Context) (state : State) → one context state ≡ other context state)
    → FlowGoes (with_noted before one walking) old new value → FlowGoes (with_noted before other walking) old new value
noted-alike before one other walking {old = old} same goes =
    goes-alike (with_noted before one walking) (with_noted before other walking)
    (λ claims.
    let context = context_of old claims in
    ap (λ (notes : List Noted). valued (before ++ notes) (walking context (state_of old))) (same context (state_of old))) goes

-- one piece, and then another
pub noted-then : (before : List Noted) (one : Noting) (first : Walking Known) (two : Known → Noting) (next : Known → Walking Known) {old mid new : Flow}
    {a b : Valued} → FlowGoes (with_noted before one first) old mid a → FlowGoes (with_noted a.noted (two a.known) (next a.known)) mid new b
    → FlowGoes (with_noted before (noted_behind one first two) (first >>= next)) old new b
noted-then before one first two next {old = old} goes more =
    let rest = λ (value : Valued). with_noted value.noted (two value.known) (next value.known) in
    goes-alike (with_noted before one first >>= rest) (with_noted before (noted_behind one first two) (first >>= next))
    (λ claims.
    let context = context_of old claims in
    let done = first context (state_of old) in
    ap (λ (notes : List Noted). valued notes (followed done (next done.value context done.after)))
    (append_assoc before (one context (state_of old)) (two done.value context done.after)))
    (goes-then (with_noted before one first) rest goes more)

-- a piece in which nothing is noted
pub noted-none : (noted : List Noted) (walking : Walking Known) {old new : Flow} {a : Known} → FlowGoes walking old new a
    → FlowGoes (with_noted noted (λ context state. []) walking) old new (record { known = a; noted = noted })
noted-none noted walking {old = old} {new = new} {a = a} goes = record {
  unless_short = λ long.
      let flows = goes.unless_short long in
      record {
        was_long = flows.was_long;
        flowed = λ claims.
            let did = flows.flowed claims in
            record {
              grounds_are = did.grounds_are;
              goes = did.goes;
              value_is =
                  ap₂ (λ (known : Known) (notes : List Noted). let one : Valued = record { known = known; noted = notes } in one) did.value_is
                  (sym (append-nil noted));
              state_is = did.state_is;
              open_is = did.open_is;
              broken_is = did.broken_is;
            };
      };
}

-- an expression in which nothing is noted
pub noted-plain : (noted : List Noted) (e : Expr) {old new : Flow} {a : Known} → (piece_of e).noted ≡ (λ context state. [])
    → FlowGoes (value_walk e) old new a → FlowGoes (noting_walk noted e) old new (record { known = a; noted = noted })
noted-plain noted e none goes =
    goes-as (ap (λ (noting : Noting). with_noted noted noting (value_walk e)) (sym none)) (noted-none noted (value_walk e) goes)

-- a piece, and then one in which nothing is noted
pub noted-last : (before : List Noted) (one : Noting) (first : Walking Known) (next : Known → Walking Known) {old mid new : Flow} {a : Valued} {b : Known}
    → FlowGoes (with_noted before one first) old mid a → FlowGoes (next a.known) mid new b
    → FlowGoes (with_noted before one (first >>= next)) old new (record { known = b; noted = a.noted })
noted-last before one first next {a = a} goes more =
    let none = λ (known : Known). (let no : Noting = λ context state. [] in no) in
    noted-alike before (noted_behind one first none) one (first >>= next) (λ context state. append-nil (one context state))
    (noted-then before one first none next goes (noted-none a.noted (next a.known) more))

-- an entry, and then a piece
pub noted-entered : (number : ℕ) (before : List Noted) (one : Noting) (walking : Walking Known) {old new : Flow} {value : Valued}
    → FlowGoes (with_noted before one walking) old new value → FlowGoes (with_noted before one (enter number >>= λ _. walking)) old new value
noted-entered number before one walking goes =
    goes-alike (enter number >>= λ _. with_noted before one walking) (with_noted before one (enter number >>= λ _. walking)) (λ claims. refl)
    (goes-behind number (with_noted before one walking) goes)

-- both operands of an operator, the right one behind its walk
pub noted-operands : (before : List Noted) (left right : Known) (piece : Piece) {noted : List Noted} {old mid new : Flow} → FlowGoes piece.walk old mid right
    → FlowGoes (give (before ++ record { left = left; right = right } ∷ [])) mid new noted
    → FlowGoes (with_noted before (operand_noted false left piece) piece.walk) old new (record { known = right; noted = noted })
noted-operands before left right piece {noted = noted} {old = old} {mid = mid} {new = new} goes notes = record {
  unless_short = λ long.
      let rest = notes.unless_short long in
      let begin = goes.unless_short rest.was_long in
      record { was_long = begin.was_long; flowed = λ claims. both claims (begin.flowed claims) (rest.flowed claims) };
}
  where
    both : (claims : List Claims) → Flowed (context_of old claims) piece.walk old mid right
        → Flowed (context_of mid claims) (give (before ++ record { left = left; right = right } ∷ [])) mid new noted
        → Flowed (context_of old claims) (with_noted before (operand_noted false left piece) piece.walk) old new (record { known = right; noted = noted })
    both claims one two = record {
      grounds_are = two.grounds_are ∙ one.grounds_are;
      goes = ways.goes-then one.goes two.goes;
      value_is =
          ap (λ (notes : List Noted). let value : Valued = record { known = right; noted = notes } in value) two.value_is
          ∙ ap (λ (known : Known). let value : Valued = record { known = known; noted = before ++ record { left = left; right = known } ∷ [] } in value)
          one.value_is;
      state_is = two.state_is ∙ one.state_is;
      open_is = two.open_is ∙ append-nil mid.open_ids.items ∙ one.open_is;
      broken_is = two.broken_is ∙ first-none mid.broken ∙ one.broken_is;
    }

-- ---- operators

-- what is noted at these operators, and their walks
abbrev pub noting_in_turn : List Noted → Bool → List Link → Known → Walking Valued
noting_in_turn before inside links left = with_noted before (turns_noted inside (map joint_of links) left) (in_turn (map link_walk links) left)

pub noted-turn : (before : List Noted) (inside : Bool) (items : List Link) (i : ℕ) (link : Link) (left : Known) {value result : Valued}
    {old mid new : Flow} → i < length items → link ≡ get_or items i link
    → FlowGoes (with_noted before (operand_noted inside left (piece_of link.operand)) (link_walk link left)) old mid value
    → FlowGoes (noting_in_turn value.noted inside (drop (i + 1) items) value.known) mid new result
    → FlowGoes (noting_in_turn before inside (drop i items) left) old new result
noted-turn before inside items i link left within is one two =
    let rest = drop (i + 1) items in
    goes-as (sym (ap (λ (links : List Link). noting_in_turn before inside links left) (item-cut items i link within is)))
    (noted-then before (operand_noted inside left (joint_of link).right) (link_walk link left) (turns_noted inside (map joint_of rest))
    (in_turn (map link_walk rest))
    (goes-as (ap (λ (piece : Piece). with_noted before (operand_noted inside left piece) (link_walk link left)) (sym (link-right link))) one) two)

pub noted-end : (before : List Noted) (inside : Bool) (items : List Link) (i : ℕ) (left : Known) (flow : Flow) → length items ≤ i
    → FlowGoes (noting_in_turn before inside (drop i items) left) flow flow (record { known = left; noted = before })
noted-end before inside items i left flow past =
    goes-as (sym (ap (λ (links : List Link). noting_in_turn before inside links left) (drop_of_length-le items past)))
    (noted-none before (give left) (goes-give left flow))
