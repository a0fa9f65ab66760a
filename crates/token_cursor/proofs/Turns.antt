-- What a loop of a parser made so far, and what is left to its rule: the turns of a rule, and parts with a symbol
-- between each two.
use Rattle.std.proofs.Common.{◌≡◌, ◌<◌, List, [], ◌∷◌, ◌++◌, length, Some, None, Ok, Err, refl, sym, ap, subst, ◌∙◌, arith}
use Rattle.std.proofs.Common.{append_assoc, map}
use Rattle.std.proofs.lemmas.List.{map-append}
use Rattle.lexer.specs.declared.token.Kind.TheVariants as kind
use Rattle.lexer.specs.declared.token.Symbol.{Symbol}
use Rattle.lexer.specs.declared.token.Token.{Token}
use Rattle.reading.specs.declared.refusal.Refusal.{Refusal}
use Rattle.reading.specs.Lexemes.{of_kind_at}
use Rattle.reading.specs.Reading.{Outcome, Reading, and_then, pure, ◌>>=◌, choose, Turn, more, ends, loop, led_turn, separated, symbol_taken}
use Rattle.reading.proofs.Loops.{Uses, loop_goes, loop_ends, loop_stops}
use Rattle.reading.proofs.Uses.{NeverMore, led_uses, reads_fewer}
use Rattle.reading.proofs.Makes.{taken_makes}

-- how a list looks behind which one more was put
pub grown : {A T : Type 0} (look : T → A) (made : List T) (one : T) (after : List T) → after ≡ made ++ one ∷ []
    → map look after ≡ map look made ++ look one ∷ []
grown look made one after e = ap (map look) e ∙ map-append look made (one ∷ [])

-- ---- the turns of a rule

-- in front of what is made of the rest stands what was made so far
abbrev pub ahead : {A B : Type 0} → List A → List A × B → Reading (List A × B)
ahead front r = pure (front ++ r.0, r.1)

-- what a loop makes, by what it made so far and what it makes of the rest
pub record Turns {A B : Type 0} (whole : Outcome (List A × B)) (front : List A) (rest : Outcome (List A × B)) : Type 0 where
  pub are : whole ≡ and_then rest (ahead front)

nothing_ahead : {A B : Type 0} (o : Outcome (List A × B)) → o ≡ and_then o (ahead [])
nothing_ahead (Ok made) = refl
nothing_ahead (Err stop) = refl

pub turns_begin : {A B : Type 0} (whole : Outcome (List A × B)) → Turns whole [] whole
turns_begin whole = record { are = nothing_ahead whole }

one_more : {A B : Type 0} (front : List A) (a : A) (rest : Outcome (List A × B))
    → and_then (and_then rest (λ r. pure (a ∷ r.0, r.1))) (ahead front) ≡ and_then rest (ahead (front ++ a ∷ []))
one_more front a (Ok made) = ap (λ xs. Ok ((xs, made.0.1), made.1)) (sym (append_assoc front (a ∷ []) made.0.0))
one_more front a (Err stop) = refl

module _ {S A B : Type 0} (turn : S → Reading (Turn S A B)) {whole : Outcome (List A × B)} {front : List A} {state : S} {tokens : List Token}
    (so_far : Turns whole front (loop turn state tokens)) where
  -- a turn more
  pub turns_go : Uses turn → (next : S) (a : A) (others : List Token) → turn state tokens ≡ Ok (more next a, others)
      → Turns whole (front ++ a ∷ []) (loop turn next others)
  turns_go uses next a others e = record {
    are =
        so_far.are ∙ ap (λ o. and_then o (ahead front)) (loop_goes turn uses state next a tokens others e)
        ∙ one_more front a (loop turn next others);
  }

  -- the turn that ends the loop
  pub turns_end : (b : B) (others : List Token) → turn state tokens ≡ Ok (ends b, others) → whole ≡ Ok ((front ++ [], b), others)
  turns_end b others e = so_far.are ∙ ap (λ o. and_then o (ahead front)) (loop_ends turn state tokens others b e)

  -- a turn that stops
  pub turns_stop : (why : Refusal × List Token) → turn state tokens ≡ Err why → whole ≡ Err why
  turns_stop why e = so_far.are ∙ ap (λ o. and_then o (ahead front)) (loop_stops turn state tokens why e)

-- ---- parts with a symbol between each two

abbrev pub before : {A : Type 0} → List A → List A → Reading (List A)
before front xs = pure (front ++ xs)

-- what a list makes, by the parts that were made so far, each with the symbol behind it, and what it makes of the rest
pub record Parts {A : Type 0} (whole : Outcome (List A)) (front : List A) (rest : Outcome (List A)) : Type 0 where
  pub are : whole ≡ and_then rest (before front)

none_before : {A : Type 0} (o : Outcome (List A)) → o ≡ and_then o (before [])
none_before (Ok made) = refl
none_before (Err stop) = refl

pub parts_begin : {A : Type 0} (whole : Outcome (List A)) → Parts whole [] whole
parts_begin whole = record { are = none_before whole }

part_more : {A : Type 0} (front : List A) (a : A) (rest : Outcome (List A))
    → and_then (and_then rest (λ xs. pure (a ∷ xs))) (before front) ≡ and_then rest (before (front ++ a ∷ []))
part_more front a (Ok made) = ap (λ xs. Ok (xs, made.1)) (sym (append_assoc front (a ∷ []) made.0))
part_more front a (Err stop) = refl

-- a part in front of what the turns behind it made, and in front of others
abbrev first_of_turns : {A : Type 0} → A → List A × Unit {0} → Reading (List A)
first_of_turns a r = pure (a ∷ r.0)

abbrev turn_before : {A : Type 0} → A → List A × Unit {0} → Reading (List A × Unit {0})
turn_before a r = pure (a ∷ r.0, r.1)

abbrev first_of : {A : Type 0} → A → List A → Reading (List A)
first_of a xs = pure (a ∷ xs)

module _ {A : Type 0} (s : Symbol) (part : Reading A) where
  -- what a list makes behind its first part
  behind_first : A → List Token → Outcome (List A)
  behind_first a others = and_then (loop (led_turn s part) tt others) (first_of_turns a)

  list_is : (tokens others : List Token) (a : A) → part tokens ≡ Ok (a, others) → separated s part tokens ≡ behind_first a others
  unfolding separated behind_first
  list_is tokens others a e = ap (λ o. and_then o (λ one. loop (led_turn s part) tt >>= (λ r. pure (one ∷ r.0)))) e

  list_stops : (tokens : List Token) (why : Refusal × List Token) → part tokens ≡ Err why → separated s part tokens ≡ Err why
  unfolding separated
  list_stops tokens why e = ap (λ o. and_then o (λ one. loop (led_turn s part) tt >>= (λ r. pure (one ∷ r.0)))) e

  turn_more : (tokens next others : List Token) (place : _) (a : A) → symbol_taken s tokens ≡ Ok (Some place, next) → part next ≡ Ok (a, others)
      → led_turn s part tt tokens ≡ Ok (more tt a, others)
  unfolding led_turn
  turn_more tokens next others place a e h =
      ap (λ o. and_then o (λ found. choose found (λ _. part >>= (λ x. pure (more tt x))) (pure (ends tt)))) e
      ∙ ap (λ o. and_then o (λ x. pure (more tt x))) h

  turn_stops : (tokens next : List Token) (place : _) (why : Refusal × List Token) → symbol_taken s tokens ≡ Ok (Some place, next) → part next ≡ Err why
      → led_turn s part tt tokens ≡ Err why
  unfolding led_turn
  turn_stops tokens next place why e h =
      ap (λ o. and_then o (λ found. choose found (λ _. part >>= (λ x. pure (more tt x))) (pure (ends tt)))) e
      ∙ ap (λ o. and_then o (λ x. pure (more tt x))) h

  turn_ends : (tokens others : List Token) → symbol_taken s tokens ≡ Ok (None, others) → led_turn s part tt tokens ≡ Ok (ends tt, others)
  unfolding led_turn
  turn_ends tokens others e = ap (λ o. and_then o (λ found. choose found (λ _. part >>= (λ x. pure (more tt x))) (pure (ends tt)))) e

  second_first : (a b : A) (o : Outcome (List A × Unit {0}))
      → and_then (and_then o (turn_before b)) (first_of_turns a) ≡ and_then (and_then o (first_of_turns b)) (first_of a)
  second_first a b (Ok made) = refl
  second_first a b (Err stop) = refl

  -- behind a part and the symbol the list goes on as it began
  goes_by : NeverMore part → (tokens mid next : List Token) (place : _) (a : A) → part tokens ≡ Ok (a, mid) → symbol_taken s mid ≡ Ok (Some place, next)
      → (o : Outcome A) → part next ≡ o → separated s part tokens ≡ and_then (separated s part next) (first_of a)
  unfolding behind_first
  goes_by fewer tokens mid next place a e h (Ok (b, others)) f =
      list_is tokens mid a e
      ∙ ap (λ o. and_then o (first_of_turns a)) (loop_goes (led_turn s part) (led_uses s part fewer) tt tt b mid others (turn_more mid next others place b
      h f))
      ∙ second_first a b (loop (led_turn s part) tt others)
      ∙ ap (λ o. and_then o (first_of a)) (sym (list_is next others b f))
  goes_by fewer tokens mid next place a e h (Err why) f =
      list_is tokens mid a e
      ∙ ap (λ o. and_then o (first_of_turns a)) (loop_stops (led_turn s part) tt mid why (turn_stops mid next place why h f))
      ∙ ap (λ o. and_then o (first_of a)) (sym (list_stops next why f))

  module _ {whole : Outcome (List A)} {front : List A} {tokens : List Token} (so_far : Parts whole front (separated s part tokens)) where
    -- a part more, and the symbol behind it
    pub parts_go : NeverMore part → (a : A) (mid : List Token) (place : _) (next : List Token) → part tokens ≡ Ok (a, mid)
        → symbol_taken s mid ≡ Ok (Some place, next) → Parts whole (front ++ a ∷ []) (separated s part next)
    parts_go fewer a mid place next e h = record {
      are =
          so_far.are ∙ ap (λ o. and_then o (before front)) (goes_by fewer tokens mid next place a e h (part next) refl)
          ∙ part_more front a (separated s part next);
    }

    -- the last part
    pub parts_end : (a : A) (mid others : List Token) → part tokens ≡ Ok (a, mid) → symbol_taken s mid ≡ Ok (None, others)
        → whole ≡ Ok (front ++ a ∷ [], others)
    unfolding behind_first
    parts_end a mid others e h =
        so_far.are ∙ ap (λ o. and_then o (before front)) (list_is tokens mid a e
        ∙ ap (λ o. and_then o (first_of_turns a)) (loop_ends (led_turn s part) tt mid others tt (turn_ends mid others h)))

    -- a part that stops
    pub parts_stop : (why : Refusal × List Token) → part tokens ≡ Err why → whole ≡ Err why
    parts_stop why e = so_far.are ∙ ap (λ o. and_then o (before front)) (list_stops tokens why e)

  -- a part and the symbol behind it take a token
  pub parts_fewer : NeverMore part → (tokens mid next : List Token) (a : A) (place : _) → part tokens ≡ Ok (a, mid)
      → symbol_taken s mid ≡ Ok (Some place, next) → length next < length tokens
  parts_fewer fewer tokens mid next a place e h =
      let m = ((fewer tokens).makes (a, mid) e).most in
      let k = reads_fewer (of_kind_at (kind.Symbol s) place) [] mid next ((taken_makes (kind.Symbol s) mid).makes (Some place, next) h) in omega arith

-- the same by the list of what was made
module _ {A T : Type 0} (look : T → A) (s : Symbol) (part : Reading A) {whole : Outcome (List A)} (made : List T) {tokens : List Token}
    (so_far : Parts whole (map look made) (separated s part tokens)) (one : T) (after : List T) (put : after ≡ made ++ one ∷ []) (mid : List Token)
    (is : part tokens ≡ Ok (look one, mid)) where
  pub list_goes : NeverMore part → (place : _) (next : List Token) → symbol_taken s mid ≡ Ok (Some place, next)
      → Parts whole (map look after) (separated s part next)
  list_goes fewer place next e =
      subst (λ front. Parts whole front (separated s part next)) (sym (grown look made one after put)) (parts_go s part so_far fewer (look one) mid place next
      is e)

  pub list_ends : (others : List Token) → symbol_taken s mid ≡ Ok (None, others) → whole ≡ Ok (map look after, others)
  list_ends others e = parts_end s part so_far (look one) mid others is e ∙ ap (λ xs. Ok (xs, others)) (sym (grown look made one after put))
