-- The operators of a chain that were read so far, each with the operand behind it.
use Rattle.std.proofs.Common.{◌≡◌, ℕ, ◌<◌, List, [], ◌∷◌, ◌++◌, length, map, Some, None, Ok, Err, sym, ap, subst, ◌∙◌, append-nil}
use Rattle.std.proofs.lemmas.List.{map-append}
use Rattle.place.specs.declared.Place.{Place}
use Rattle.lexer.specs.declared.token.Token.{Token}
use Rattle.syntax_tree.specs.declared.Link.{Link}
use Rattle.syntax_tree.specs.declared.Operator.{Operator}
use Rattle.reading.specs.declared.refusal.Refusal.{Refusal}
use Rattle.reading.specs.Outline as form
use Rattle.reading.specs.Outline.{Outline}
use Rattle.reading.specs.Reading.{and_then, choose, loop, more, ends, pure, ◌>>=◌, operator_taken}
use Rattle.reading.specs.Expressions.{link_turn}
use Rattle.reading.specs.Trees.{link_outline}
use Rattle.reading.proofs.Uses.{NeverMore, factor_no_more, link_uses, term_no_more}
use Rattle.token_cursor.specs.Level.{level_number}
use Rattle.token_cursor.specs.declared.operator.Level.{Level}
use Rattle.token_cursor.specs.declared.operator.Level.TheVariants.{Sum, Product}
use Rattle.token_cursor.proofs.Turns.{Turns, turns_go, turns_end, turns_stop}
use Rattle.expression_parser.specs.Levels.{links, operand, turn_of}

operand_no_more : (level : Level) (levels : ℕ) → NeverMore (operand level levels)
operand_no_more Sum levels = term_no_more levels
operand_no_more Product levels = factor_no_more levels

module _ (level : Level) (levels : ℕ) (tokens : List Token) where
  -- a turn by the operator that was taken
  turn_is : (o : Operator) (place : Place) (mid : List Token) → operator_taken (level_number level) tokens ≡ Ok (Some (o, place), mid)
      → turn_of level levels tt tokens ≡ and_then (operand level levels mid) (λ x. pure (more tt (form.link o place x)))
  unfolding link_turn
  turn_is o place mid e =
      ap (λ r. and_then r (λ found. choose found (λ o. operand level levels >>= (λ x. pure (more tt (form.link o.0 o.1 x)))) (pure (ends tt)))) e

  turn_ends : (others : List Token) → operator_taken (level_number level) tokens ≡ Ok (None, others) → turn_of level levels tt tokens ≡ Ok (ends tt, others)
  unfolding link_turn
  turn_ends others e =
      ap (λ r. and_then r (λ found. choose found (λ o. operand level levels >>= (λ x. pure (more tt (form.link o.0 o.1 x)))) (pure (ends tt)))) e

  module _ (o : Operator) (place : Place) (mid : List Token) (taken : operator_taken (level_number level) tokens ≡ Ok (Some (o, place), mid)) where
    turn_more : (x : Outline) (others : List Token) → operand level levels mid ≡ Ok (x, others)
        → turn_of level levels tt tokens ≡ Ok (more tt (form.link o place x), others)
    turn_more x others e = turn_is o place mid taken ∙ ap (λ r. and_then r (λ x. pure (more tt (form.link o place x)))) e

    pub link_fewer : (x : Outline) (others : List Token) → operand level levels mid ≡ Ok (x, others) → length others < length tokens
    link_fewer x others e =
        link_uses (level_number level) (operand level levels) (operand_no_more level levels) tt tt (form.link o place x) tokens others
        (turn_more x others e)

    module _ (old : List Token) (made : List Link) (so_far : Turns (links level levels old) (map link_outline made) (loop (turn_of level levels) tt tokens))
      where
        -- one link more
        pub links_go : (x : Outline) (others : List Token) → operand level levels mid ≡ Ok (x, others) → (l : Link) (after : List Link)
            → after ≡ made ++ l ∷ [] → link_outline l ≡ form.link o place x
            → Turns (links level levels old) (map link_outline after) (loop (turn_of level levels) tt others)
        links_go x others e l after grown is =
            subst (λ front. Turns (links level levels old) front (loop (turn_of level levels) tt others))
            (sym (ap (map link_outline) grown ∙ map-append link_outline made (l ∷ []) ∙ ap (λ y. map link_outline made ++ y ∷ []) is))
            (turns_go (turn_of level levels) so_far (link_uses (level_number level) (operand level levels) (operand_no_more level levels)) tt
            (form.link o place x) others (turn_more x others e))

        -- an operand that stops
        pub links_stop : (why : Refusal) (others : List Token) → operand level levels mid ≡ Err (why, others)
            → links level levels old ≡ Err (why, others)
        links_stop why others e =
            turns_stop (turn_of level levels) so_far (why, others)
            (turn_is o place mid taken ∙ ap (λ r. and_then r (λ x. pure (more tt (form.link o place x)))) e)

  -- no link more
  pub links_end : (old : List Token) (made : List Link) → Turns (links level levels old) (map link_outline made) (loop (turn_of level levels) tt tokens)
      → (others : List Token) → operator_taken (level_number level) tokens ≡ Ok (None, others)
      → links level levels old ≡ Ok ((map link_outline made, tt), others)
  links_end old made so_far others e =
      turns_end (turn_of level levels) so_far tt others (turn_ends others e)
      ∙ ap (λ xs. Ok ((xs, tt), others)) (append-nil (map link_outline made))
