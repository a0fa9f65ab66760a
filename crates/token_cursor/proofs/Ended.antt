-- Parts up to an `end`, as they are read: the arms of a case and the fields of a record.
use Rattle.std.proofs.Common.{◌≡◌, ◌<◌, Bool, List, [], ◌∷◌, ◌++◌, length, Option, Some, None, Ok, Err, refl, sym, ap, ◌∙◌, append_assoc, arith}
use Rattle.lexer.specs.declared.token.Kind.TheVariants as kind
use Rattle.lexer.specs.declared.token.Symbol.TheVariants as symbol
use Rattle.lexer.specs.declared.token.Word.TheVariants as word
use Rattle.lexer.specs.declared.token.Token.{Token}
use Rattle.reading.specs.declared.refusal.Refusal.{Refusal}
use Rattle.reading.specs.Outline.{Outline}
use Rattle.reading.specs.Reading.{Outcome, Reading, and_then, ◌>>=◌, pure, choose, more, ends, loop}
use Rattle.reading.specs.Statements.{behind_arm, arm_turn, parts_to_end}
use Rattle.reading.proofs.Loops.{loop_goes, loop_ends, loop_stops}
use Rattle.reading.specs.Lexemes.{of_kind_at}
use Rattle.reading.proofs.Good.{either_kind}
use Rattle.reading.proofs.Makes.{Makes, expect_makes, gives, thence}
use Rattle.reading.proofs.Uses.{NeverMore, arm_uses, reads_fewer}
use Rattle.token_cursor.proofs.Turns.{Turns, ahead}

-- a semicolon behind which no `end` comes takes a token
behind_takes : (tokens : List Token) → Makes behind_arm tokens (λ found mid. found ≡ None → length mid < length tokens)
unfolding behind_arm
behind_takes tokens =
    either_kind (kind.Symbol symbol.Semicolon) tokens
    (λ place a r. either_kind (kind.Word word.End) a (λ end b s. gives (λ none. absurd cc))
    (λ _. gives (λ _. reads_fewer (of_kind_at (kind.Symbol symbol.Semicolon) place) [] tokens a r)))
    (λ _. thence (expect_makes (kind.Word word.End) tokens) λ end a s. gives (λ none. absurd cc))

module _ (part : Reading Outline) where
  -- a part and the semicolon behind it take a token
  pub ended_fewer : NeverMore part → (tokens mid rest : List Token) (a : Outline) → part tokens ≡ Ok (a, mid) → behind_arm mid ≡ Ok (None, rest)
      → length rest < length tokens
  ended_fewer fewer tokens mid rest a e n =
      let m = ((fewer tokens).makes (a, mid) e).most in let k = (behind_takes mid).makes (None, rest) n refl in omega arith

  abbrev first_of : Outline → List Outline × Bool → Reading (List Outline × Bool)
  first_of a r = pure (a ∷ r.0, r.1)

  parts_are : (tokens mid : List Token) (a : Outline) → part tokens ≡ Ok (a, mid)
      → parts_to_end part tokens ≡ and_then (loop (arm_turn part) tt mid) (first_of a)
  unfolding parts_to_end
  parts_are tokens mid a e = ap (λ o. and_then o (λ one. loop (arm_turn part) tt >>= (λ others. pure (one ∷ others.0, others.1)))) e

  parts_stop : (tokens : List Token) (why : Refusal × List Token) → part tokens ≡ Err why → parts_to_end part tokens ≡ Err why
  unfolding parts_to_end
  parts_stop tokens why e = ap (λ o. and_then o (λ one. loop (arm_turn part) tt >>= (λ others. pure (one ∷ others.0, others.1)))) e

  turn_is : (mid rest : List Token) (end : Option Bool) → behind_arm mid ≡ Ok (end, rest)
      → arm_turn part tt mid ≡ choose end (λ semicolon. pure (ends semicolon)) (part >>= (λ a. pure (more tt a))) rest
  unfolding arm_turn
  turn_is mid rest end e =
      ap (λ o. and_then o (λ end. choose end (λ semicolon. pure (ends semicolon)) (part >>= (λ a. pure (more tt a))))) e

  behind_stops : (mid : List Token) (why : Refusal × List Token) → behind_arm mid ≡ Err why → arm_turn part tt mid ≡ Err why
  unfolding arm_turn
  behind_stops mid why e =
      ap (λ o. and_then o (λ end. choose end (λ semicolon. pure (ends semicolon)) (part >>= (λ a. pure (more tt a))))) e

  second_first : (a b : Outline) (o : Outcome (List Outline × Bool))
      → and_then (and_then o (first_of b)) (first_of a) ≡ and_then (and_then o (first_of b)) (ahead (a ∷ []))
  second_first a b (Ok made) = refl
  second_first a b (Err stop) = refl

  goes_by : NeverMore part → (tokens mid rest : List Token) (a : Outline) → part tokens ≡ Ok (a, mid) → behind_arm mid ≡ Ok (None, rest)
      → (o : Outcome Outline) → part rest ≡ o → parts_to_end part tokens ≡ and_then (parts_to_end part rest) (ahead (a ∷ []))
  goes_by fewer tokens mid rest a e n (Ok (b, next)) h =
      parts_are tokens mid a e
      ∙ ap (λ o. and_then o (first_of a)) (loop_goes (arm_turn part) (arm_uses part fewer) tt tt b mid next
      (turn_is mid rest None n ∙ ap (λ o. and_then o (λ x. pure (more tt x))) h))
      ∙ second_first a b (loop (arm_turn part) tt next)
      ∙ ap (λ o. and_then o (ahead (a ∷ []))) (sym (parts_are rest next b h))
  goes_by fewer tokens mid rest a e n (Err why) h =
      parts_are tokens mid a e
      ∙ ap (λ o. and_then o (first_of a)) (loop_stops (arm_turn part) tt mid why
      (turn_is mid rest None n ∙ ap (λ o. and_then o (λ x. pure (more tt x))) h))
      ∙ ap (λ o. and_then o (ahead (a ∷ []))) (sym (parts_stop rest why h))

  joined : (front : List Outline) (a : Outline) (o : Outcome (List Outline × Bool))
      → and_then (and_then o (ahead (a ∷ []))) (ahead front) ≡ and_then o (ahead (front ++ a ∷ []))
  joined front a (Ok made) = ap (λ xs. Ok ((xs, made.0.1), made.1)) (sym (append_assoc front (a ∷ []) made.0.0))
  joined front a (Err stop) = refl

  module _ {whole : Outcome (List Outline × Bool)} {front : List Outline} (tokens : List Token)
      (so_far : Turns whole front (parts_to_end part tokens)) where
    -- a part more, behind which no `end` comes
    pub ended_goes : NeverMore part → (a : Outline) (mid rest : List Token) → part tokens ≡ Ok (a, mid) → behind_arm mid ≡ Ok (None, rest)
        → Turns whole (front ++ a ∷ []) (parts_to_end part rest)
    ended_goes fewer a mid rest e n = record {
      are =
          so_far.are ∙ ap (λ o. and_then o (ahead front)) (goes_by fewer tokens mid rest a e n (part rest) refl)
          ∙ joined front a (parts_to_end part rest);
    }

    -- the last part
    pub ended_ends : (a : Outline) (mid rest : List Token) (semicolon : Bool) → part tokens ≡ Ok (a, mid) → behind_arm mid ≡ Ok (Some semicolon, rest)
        → whole ≡ Ok ((front ++ a ∷ [], semicolon), rest)
    ended_ends a mid rest semicolon e n =
        so_far.are ∙ ap (λ o. and_then o (ahead front)) (parts_are tokens mid a e
        ∙ ap (λ o. and_then o (first_of a)) (loop_ends (arm_turn part) tt mid rest semicolon (turn_is mid rest (Some semicolon) n)))

    -- a part that stops, and one behind which neither comes
    pub ended_stops : (why : Refusal × List Token) → part tokens ≡ Err why → whole ≡ Err why
    ended_stops why e = so_far.are ∙ ap (λ o. and_then o (ahead front)) (parts_stop tokens why e)

    pub ended_stops_behind : (a : Outline) (mid : List Token) (why : Refusal × List Token) → part tokens ≡ Ok (a, mid) → behind_arm mid ≡ Err why
        → whole ≡ Err why
    ended_stops_behind a mid why e n =
        so_far.are ∙ ap (λ o. and_then o (ahead front)) (parts_are tokens mid a e
        ∙ ap (λ o. and_then o (first_of a)) (loop_stops (arm_turn part) tt mid why (behind_stops mid why n)))
