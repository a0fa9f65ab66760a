-- What each instruction over sets does to a store whose topmost cells are known, in a frame that begins anywhere; and that
-- a set joined to the empty one is itself.
use Rattle.code_generator.proofs.Words.{◌≡◌, ℕ, ◌+◌, ◌<◌, ◌≤◌, List, [], ◌∷◌, ◌++◌, length, Ok, ap, ◌∙◌, arith, Bool, ℤ}
use Rattle.code_generator.proofs.Words.{Cell, Number, Frames, Attempt}
use Rattle.std.specs.Prelude.{bit_and}
use Rattle.std.proofs.lemmas.Nat.{and_le_l, or_disjoint}
use Rattle.members.specs.Members as members
use Rattle.members.specs.declared.sets.Operator.TheVariants.{Union}
use Rattle.stack_machine.specs.declared.cell.Cell.TheVariants.{Set}
use Rattle.stack_machine.specs.Frames.{◌>>=◌, has_room_after, number, number_at, popped, pushed, truth}
use Rattle.stack_machine.specs.Sets.{is_member, load_set, number_and_set, on_sets, range_fits, related, set, set_at, set_operands, set_range, singleton}
use Rattle.stack_machine.specs.Sets.{top_set_is_within, two_sets}
use Rattle.code_generator.proofs.Acts.{framed, has_one, has_room, has_two, left_at, one_popped, operands_are, right_at, room_for_third, top_at, top_is, two}
use Rattle.code_generator.proofs.Acts.{two_popped}
use Rattle.code_generator.proofs.Lists.{length_one}

module _ (frame limit size : ℕ) where
  abbrev store : List Cell → Frames
  store = framed frame limit size

  -- a set that is pushed
  pub loads_set : (cells : List Cell) (s : ℕ) → length cells < limit → load_set s (store cells) ≡ Ok (store (cells ++ Set s ∷ []))
  loads_set cells s room = ap (λ r. r >>= λ _. Ok (pushed (Set s) (store cells))) (has_room frame limit size 0 cells (omega arith))

  module _ (below : List Cell) (linked : frame + 4 ≤ length below) where
    -- a number gives way to the set of it
    pub makes_one : (n : ℤ) → length below < limit → singleton (store (below ++ Number n ∷ [])) ≡ Ok (store (below ++ Set (members.of_one n) ∷ []))
    makes_one n room =
        let s = store (below ++ Number n ∷ []) in
        ap (λ r. r >>= λ _. has_room_after 1 s >>= λ _. number_at 1 s >>= λ m. Ok (pushed (Set (members.of_one m)) (popped 1 s)))
        (has_one frame limit size below linked (Number n))
        ∙ ap (λ r. r >>= λ _. number_at 1 s >>= λ m. Ok (pushed (Set (members.of_one m)) (popped 1 s)))
        (has_room frame limit size 1 (below ++ Number n ∷ []) (omega (arith, length_one below (Number n))))
        ∙ ap (λ o. number o >>= λ m. Ok (pushed (Set (members.of_one m)) (popped 1 s))) (top_at frame limit size below linked (Number n))
        ∙ ap (λ cs. Ok (store (cs ++ Set (members.of_one n) ∷ []))) (one_popped frame limit size below linked (Number n))

    -- two numbers give way to the set of all from one to the other
    pub makes_range : (a b : ℤ) → length below < limit
        → set_range (store (two frame limit size below linked a b)) ≡ Ok (store (below ++ Set (members.of_range a b) ∷ []))
    makes_range a b room =
        ap (λ r. r >>= λ ns. Ok (pushed (Set (members.of_range ns.0 ns.1)) (popped 2 (store (two frame limit size below linked a b)))))
        (operands_are frame limit size below linked a b room)
        ∙ ap (λ cs. Ok (store (cs ++ Set (members.of_range a b) ∷ []))) (two_popped frame limit size below linked (Number a) (Number b))

    -- whether they may be the bounds of a range of members
    pub fits_range : (a b : ℤ) → range_fits (store (two frame limit size below linked a b)) ≡ Ok (members.range_fits a b)
    fits_range a b = ap (λ r. r >>= λ ns. Ok (members.range_fits ns.0 ns.1)) (top_is frame limit size below linked a b)

    -- whether the members of a set lie in a range
    pub set_within : (low high : ℤ) (s : ℕ) → top_set_is_within low high (store (below ++ Set s ∷ [])) ≡ Ok (members.is_within s low high)
    set_within low high s =
        let there = store (below ++ Set s ∷ []) in
        ap (λ r. r >>= λ _. set_at 1 there >>= λ m. Ok (members.is_within m low high)) (has_one frame limit size below linked (Set s))
        ∙ ap (λ o. set o >>= λ m. Ok (members.is_within m low high)) (top_at frame limit size below linked (Set s))

    -- two sets on top
    module _ (a b : ℕ) where
      abbrev pub sets : List Cell
      sets = (below ++ Set a ∷ []) ++ Set b ∷ []

      sets_are : two_sets (store sets) ≡ Ok (a, b)
      sets_are =
          ap (λ o. set o >>= λ l. set_at 1 (store sets) >>= λ r. Ok (l, r)) (left_at frame limit size below linked (Set a) (Set b))
          ∙ ap (λ o. set o >>= λ r. Ok (a, r)) (right_at frame limit size below linked (Set a) (Set b))

      both_sets : length below < limit → set_operands (store sets) ≡ Ok (a, b)
      both_sets room =
          ap (λ r. r >>= λ _. has_room_after 2 (store sets) >>= λ _. two_sets (store sets)) (has_two frame limit size below linked (Set a) (Set b))
          ∙ ap (λ r. r >>= λ _. two_sets (store sets)) (room_for_third frame limit size below linked (Set a) (Set b) room) ∙ sets_are

      -- give way to a third
      pub on_sets_is : (f : ℕ → ℕ → ℕ) → length below < limit → on_sets f (store sets) ≡ Ok (store (below ++ Set (f a b) ∷ []))
      on_sets_is f room =
          ap (λ r. r >>= λ both. Ok (pushed (Set (f both.0 both.1)) (popped 2 (store sets)))) (both_sets room)
          ∙ ap (λ cs. Ok (store (cs ++ Set (f a b) ∷ []))) (two_popped frame limit size below linked (Set a) (Set b))

      -- or to whether they stand so
      pub related_is : (f : ℕ → ℕ → Bool) → length below < limit → related f (store sets) ≡ Ok (store (below ++ Number (truth (f a b)) ∷ []))
      related_is f room =
          ap (λ r. r >>= λ both. Ok (pushed (Number (truth (f both.0 both.1))) (popped 2 (store sets)))) (both_sets room)
          ∙ ap (λ cs. Ok (store (cs ++ Number (truth (f a b)) ∷ []))) (two_popped frame limit size below linked (Set a) (Set b))

    -- a number and a set give way to whether it is a member
    module _ (n : ℤ) (s : ℕ) where
      abbrev there : Frames
      there = store ((below ++ Number n ∷ []) ++ Set s ∷ [])

      abbrev set_then : ℤ → Attempt (ℤ × ℕ)
      set_then m = set_at 1 there >>= λ t. Ok (m, t)

      abbrev member_of : ℤ × ℕ → Attempt Frames
      member_of both = Ok (pushed (Number (truth (members.has both.1 both.0))) (popped 2 there))

      both_are : number_and_set there ≡ Ok (n, s)
      both_are =
          ap (λ o. number o >>= set_then) (left_at frame limit size below linked (Number n) (Set s))
          ∙ ap (λ o. set o >>= λ t. Ok (n, t)) (right_at frame limit size below linked (Number n) (Set s))

      pub member_is : length below < limit → is_member there ≡ Ok (store (below ++ Number (truth (members.has s n)) ∷ []))
      member_is room =
          ap (λ r. r >>= λ _. has_room_after 2 there >>= λ _. number_and_set there >>= member_of)
          (has_two frame limit size below linked (Number n) (Set s))
          ∙ ap (λ r. r >>= λ _. number_and_set there >>= member_of) (room_for_third frame limit size below linked (Number n) (Set s) room)
          ∙ ap (λ r. r >>= member_of) both_are
          ∙ ap (λ cs. Ok (store (cs ++ Number (truth (members.has s n)) ∷ []))) (two_popped frame limit size below linked (Number n) (Set s))

-- nothing is added to a set by the empty one
pub joined_empty : (s : ℕ) → members.of_two Union members.empty s ≡ s
joined_empty s =
    let none : bit_and 0 s ≡ 0 = omega (arith, and_le_l 0 s) in
    or_disjoint 0 s none ∙ omega arith
