-- The turns of a loop: how many there may be tells nothing, where each but the last takes a token.
use Rattle.std.proofs.Common.{◌≡◌, ℕ, zero, suc, ◌<◌, List, [], ◌∷◌, length, Ok, Err, refl, ap, subst, ◌∙◌, arith}
use Rattle.lexer.specs.declared.token.Token.{Token}
use Rattle.reading.specs.Reading.{Outcome, Reading, and_then, pure, Turn, more, ends, turned, loop_from, loop}
use Rattle.reading.proofs.Makes.{Makes, split}

module _ {S A B : Type 0} (turn : S → Reading (Turn S A B)) where
  -- each turn but the last takes a token
  abbrev pub Uses : Type 0
  Uses = (state next : S) (a : A) (tokens others : List Token) → turn state tokens ≡ Ok (more next a, others) → length others < length tokens

  -- what the turns behind one make
  abbrev pub behind : A → List A × B → Reading (List A × B)
  behind a r = pure (a ∷ r.0, r.1)

  -- what is made behind a turn, by what the next turns are
  same_turn : (again other : S → Reading (List A × B)) (state : S) (tokens : List Token)
      → ((next : S) (a : A) (others : List Token) → turn state tokens ≡ Ok (more next a, others) → again next others ≡ other next others)
      → (o : Outcome (Turn S A B)) → turn state tokens ≡ o → and_then o (turned again) ≡ and_then o (turned other)
  same_turn again other state tokens same (Ok (more next a, others)) e = ap (λ x. and_then x (behind a)) (same next a others e)
  same_turn again other state tokens same (Ok (ends b, others)) e = refl
  same_turn again other state tokens same (Err stop) e = refl

  enough : Uses → (n m : ℕ) (state : S) (tokens : List Token) → length tokens < n → length tokens < m → loop_from n turn state tokens ≡ loop_from m turn
      state tokens
  enough uses zero m state tokens h k = absurd (omega arith)
  enough uses (suc n) zero state tokens h k = absurd (omega arith)
  enough uses (suc n) (suc m) state tokens h k =
      same_turn (loop_from n turn) (loop_from m turn) state tokens
      (λ next a others e. let fewer = uses state next a tokens others e in enough uses n m next others (omega arith) (omega arith)) (turn state tokens) refl

  -- a turn that ends, and one that stops
  pub loop_ends : (state : S) (tokens others : List Token) (b : B) → turn state tokens ≡ Ok (ends b, others) → loop turn state tokens ≡ Ok (([], b), others)
  unfolding loop
  loop_ends state tokens others b e = ap (λ o. and_then o (turned (loop_from (length tokens) turn))) e

  pub loop_stops : (state : S) (tokens : List Token) (why : _) → turn state tokens ≡ Err why → loop turn state tokens ≡ Err why
  unfolding loop
  loop_stops state tokens why e = ap (λ o. and_then o (turned (loop_from (length tokens) turn))) e

  -- a turn behind which the others go on
  pub loop_goes : Uses → (state next : S) (a : A) (tokens others : List Token) → turn state tokens ≡ Ok (more next a, others)
      → loop turn state tokens ≡ and_then (loop turn next others) (behind a)
  unfolding loop
  loop_goes uses state next a tokens others e =
      let fewer = uses state next a tokens others e in
      ap (λ o. and_then o (turned (loop_from (length tokens) turn))) e
      ∙ ap (λ x. and_then x (behind a)) (enough uses (length tokens) (suc (length others)) next others (omega arith) (omega arith))

  -- what a turn makes, by what the loop makes
  abbrev pub Turned : (S → List Token → List A × B → List Token → Type 0) → S → List Token → Turn S A B → List Token → Type 0
  Turned R state tokens (more next a) others = (r : List A × B) (rest : List Token) → R next others r rest → R state tokens (a ∷ r.0, r.1) rest
  Turned R state tokens (ends b) others = R state tokens ([], b) others

  module _ (R : S → List Token → List A × B → List Token → Type 0) (each : (state : S) (tokens : List Token) → Makes (turn state) tokens (Turned R state
      tokens)) where
    turned_makes : (n : ℕ) (state : S) (tokens : List Token)
        → ((next : S) (others : List Token) (made : (List A × B) × List Token) → loop_from n turn next others ≡ Ok made → R next others made.0 made.1)
        → (t : Turn S A B) (others : List Token) → Turned R state tokens t others
        → (made : (List A × B) × List Token) → turned (loop_from n turn) t others ≡ Ok made → R state tokens made.0 made.1
    turned_makes n state tokens again (more next a) others is made h =
        let x = split (loop_from n turn next others) (behind a) made h in
        let same : ((a ∷ x.0.0.0, x.0.0.1), x.0.1) ≡ made = (let e = x.2 in cc) in
        subst (λ (m : (List A × B) × List Token). R state tokens m.0 m.1) same (is x.0.0 x.0.1 (again next others x.0 x.1))
    turned_makes n state tokens again (ends b) others is made h =
        let same : (([], b), others) ≡ made = cc in subst (λ (m : (List A × B) × List Token). R state tokens m.0 m.1) same is

    from_makes : (n : ℕ) (state : S) (tokens : List Token) (made : (List A × B) × List Token) → loop_from n turn state tokens ≡ Ok made → R state tokens
        made.0 made.1
    from_makes zero state tokens made h = absurd cc
    from_makes (suc n) state tokens made h =
        let x = split (turn state tokens) (turned (loop_from n turn)) made h in
        turned_makes n state tokens (from_makes n) x.0.0 x.0.1 ((each state tokens).makes x.0 x.1) made x.2

    pub loop_makes : (state : S) (tokens : List Token) → Makes (loop turn state) tokens (R state tokens)
    unfolding loop
    loop_makes state tokens = record { makes = from_makes (suc (length tokens)) state tokens }
