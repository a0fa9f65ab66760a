-- Parts one behind another, as they are read.
use Rattle.std.proofs.Common.{◌≡◌, ◌<◌, length, Result, Bool, true, false, if◌then◌else◌, List, [], ◌∷◌, ◌++◌, Option, Some, None, Ok, Err, map}
use Rattle.std.proofs.Common.{refl, sym, ap, subst, append_assoc, append-nil, ◌∙◌}
use Rattle.memory.specs.Refused.{the_refusal}
use Rattle.place.specs.declared.Place.{Place}
use Rattle.lexer.specs.declared.token.Kind.{Kind}
use Rattle.lexer.specs.declared.token.Kind.TheVariants as kind
use Rattle.lexer.specs.declared.token.Word.{Word}
use Rattle.lexer.specs.declared.token.Token.{Token}
use Rattle.reading.specs.declared.refusal.Refusal.{Refusal}
use Rattle.reading.specs.declared.refusal.Refusal.TheVariants.{Memory}
use Rattle.reading.specs.Reading.{Outcome, Reading, and_then, ◌>>=◌, pure, choose, is_kind, word_taken, next_kind, Turn, more, ends, loop, next_turn, many}
use Rattle.reading.specs.Outline.{Outline}
use Rattle.reading.specs.Declarations as read
use Rattle.reading.proofs.Loops.{loop_goes, loop_ends, loop_stops}
use Rattle.reading.proofs.Uses.{TakesOne, next_uses}
use Rattle.token_cursor.specs.declared.cursor.Cursor.{Cursor}
use Rattle.token_cursor.specs.Cursor.{Makes}
use Rattle.token_cursor.proofs.Turns.{Parts, before, parts_begin}
use Rattle.parser.specs.Lists.{LeavesFewer}
use Rattle.token_cursor.specs.Kept.{Puts}
use Rattle.token_cursor.proofs.Keeping.{WasPut, was_put, not_put}
use Rattle.parser.proofs.Listed.{looks_so}

pub takes_one : {A : Type 0} {rule : Reading A} → LeavesFewer rule → TakesOne rule
takes_one h tokens = record { makes = λ made e. record { fewer = h.fewer tokens made.1 made.0 e } }

abbrev row_of : {A : Type 0} → List A × Unit {0} → Reading (List A)
row_of r = pure r.0

abbrev turn_before : {A : Type 0} → A → List A × Unit {0} → Reading (List A × Unit {0})
turn_before a r = pure (a ∷ r.0, r.1)

abbrev first_of : {A : Type 0} → A → List A → Reading (List A)
first_of a xs = pure (a ∷ xs)

part_more : {A : Type 0} (front : List A) (a : A) (rest : Outcome (List A))
    → and_then (and_then rest (first_of a)) (before front) ≡ and_then rest (before (front ++ a ∷ []))
part_more front a (Ok made) = ap (λ xs. Ok (xs, made.1)) (sym (append_assoc front (a ∷ []) made.0))
part_more front a (Err stop) = refl

one_first : {A : Type 0} (a : A) (o : Outcome (List A × Unit {0})) → and_then (and_then o (turn_before a)) row_of ≡ and_then (and_then o row_of) (first_of a)
one_first a (Ok made) = refl
one_first a (Err stop) = refl

module _ {A : Type 0} (test : Option Kind → Bool) (part : Reading A) where
  turn_at : Bool → Reading (Turn (Unit {0}) A (Unit {0}))
  turn_at goes = if goes then part >>= (λ a. pure (more tt a)) else pure (ends tt)

  turn_is : (tokens : List Token) (goes : Bool) → test (next_kind tokens) ≡ goes → next_turn test part tt tokens ≡ turn_at goes tokens
  unfolding next_turn turn_at
  turn_is tokens goes e = ap (λ b. turn_at b tokens) e

  turn_more : (tokens rest : List Token) (a : A) → test (next_kind tokens) ≡ true → part tokens ≡ Ok (a, rest)
      → next_turn test part tt tokens ≡ Ok (more tt a, rest)
  unfolding turn_at
  turn_more tokens rest a e h = turn_is tokens true e ∙ ap (λ o. and_then o (λ x. pure (more tt x))) h

  -- none
  pub many_ends : (tokens : List Token) → test (next_kind tokens) ≡ false → many test part tokens ≡ Ok ([], tokens)
  unfolding many turn_at
  many_ends tokens e = ap (λ o. and_then o row_of) (loop_ends (next_turn test part) tt tokens tokens tt (turn_is tokens false e))

  pub many_stops : (tokens : List Token) (why : Refusal × List Token) → test (next_kind tokens) ≡ true → part tokens ≡ Err why
      → many test part tokens ≡ Err why
  unfolding many turn_at
  many_stops tokens why e h =
      ap (λ o. and_then o row_of)
      (loop_stops (next_turn test part) tt tokens why (turn_is tokens true e ∙ ap (λ o. and_then o (λ x. pure (more tt x))) h))

  -- one more
  pub many_goes : TakesOne part → (tokens rest : List Token) (a : A) → test (next_kind tokens) ≡ true → part tokens ≡ Ok (a, rest)
      → many test part tokens ≡ and_then (many test part rest) (first_of a)
  unfolding many
  many_goes fewer tokens rest a e h =
      ap (λ o. and_then o row_of) (loop_goes (next_turn test part) (next_uses test part fewer) tt tt a tokens rest (turn_more tokens rest a e h))
      ∙ one_first a (loop (next_turn test part) tt rest)

  -- one or more
  abbrev pub some : Reading (List A)
  some = part >>= (λ one. many test part >>= (λ others. pure (one ∷ others)))

  some_is : (tokens rest : List Token) (a : A) → part tokens ≡ Ok (a, rest) → some tokens ≡ and_then (many test part rest) (first_of a)
  some_is tokens rest a e = ap (λ o. and_then o (λ one. many test part >>= (λ others. pure (one ∷ others)))) e

  some_stops : (tokens : List Token) (why : Refusal × List Token) → part tokens ≡ Err why → some tokens ≡ Err why
  some_stops tokens why e = ap (λ o. and_then o (λ one. many test part >>= (λ others. pure (one ∷ others)))) e

  -- where another one begins, more are some
  more_by : TakesOne part → (tokens : List Token) (o : Outcome A) → test (next_kind tokens) ≡ true → part tokens ≡ o
      → many test part tokens ≡ some tokens
  more_by fewer tokens (Ok (a, rest)) e h = many_goes fewer tokens rest a e h ∙ sym (some_is tokens rest a h)
  more_by fewer tokens (Err why) e h = many_stops tokens why e h ∙ sym (some_stops tokens why h)

  -- a turn of a loop that reads them: what was read, and put behind the others
  module _ {T : Type 0} (look : T → A) (tokens : List Token) (read : Result T Refusal) (mid : Cursor) (front after : List T)
      (makes : Makes look (part tokens) read mid) where
    made : Puts front read (Ok tt) after → WasPut look (part tokens) mid front after
    made put = was_put look (part tokens) read mid front after makes put

    stopped : (why : Refusal) → Puts front read (Err why) after → (¬ (why ≡ Memory the_refusal)) → part tokens ≡ Err (why, mid.rest.now)
    stopped why put m = not_put look (part tokens) read mid front after why makes put m

    pub items_fewer : TakesOne part → Puts front read (Ok tt) after → length mid.rest.now < length tokens
    items_fewer fewer put = let p = made put in ((fewer tokens).makes (look p.made, mid.rest.now) p.read).fewer

    -- ---- one or more: an item more, and another one behind it; the last item; one that stops

    pub some_go : {whole : Outcome (List A)} → TakesOne part → Parts whole (map look front) (some tokens) → Puts front read (Ok tt) after
        → test (next_kind mid.rest.now) ≡ true → Parts whole (map look after) (some mid.rest.now)
    some_go {whole} fewer so_far put e =
        let p = made put in
        subst (λ row. Parts whole row (some mid.rest.now)) (looks_so look front after p.made p.behind)
        (record {
          are =
              so_far.are
              ∙ ap (λ o. and_then o (before (map look front)))
              (some_is tokens mid.rest.now (look p.made) p.read
              ∙ ap (λ o. and_then o (first_of (look p.made))) (more_by fewer mid.rest.now (part mid.rest.now) e refl))
              ∙ part_more (map look front) (look p.made) (some mid.rest.now);
        })

    pub some_end : {whole : Outcome (List A)} → Parts whole (map look front) (some tokens) → Puts front read (Ok tt) after
        → test (next_kind mid.rest.now) ≡ false → whole ≡ Ok (map look after, mid.rest.now)
    some_end {whole} so_far put e =
        let p = made put in
        so_far.are
        ∙ ap (λ o. and_then o (before (map look front)))
        (some_is tokens mid.rest.now (look p.made) p.read ∙ ap (λ o. and_then o (first_of (look p.made))) (many_ends mid.rest.now e))
        ∙ ap (λ row. Ok (row, mid.rest.now)) (looks_so look front after p.made p.behind)

    pub some_stop : {whole : Outcome (List A)} → Parts whole (map look front) (some tokens) → (why : Refusal)
        → Puts front read (Err why) after → (¬ (why ≡ Memory the_refusal)) → whole ≡ Err (why, mid.rest.now)
    some_stop {whole} so_far why put m =
        so_far.are ∙ ap (λ o. and_then o (before (map look front))) (some_stops tokens (why, mid.rest.now) (stopped why put m))

    -- ---- none or more

    pub many_go : {whole : Outcome (List A)} → TakesOne part → Parts whole (map look front) (many test part tokens) → test (next_kind tokens) ≡ true
        → Puts front read (Ok tt) after → Parts whole (map look after) (many test part mid.rest.now)
    many_go {whole} fewer so_far e put =
        let p = made put in
        subst (λ row. Parts whole row (many test part mid.rest.now)) (looks_so look front after p.made p.behind)
        (record {
          are =
              so_far.are
              ∙ ap (λ o. and_then o (before (map look front))) (many_goes fewer tokens mid.rest.now (look p.made) e p.read)
              ∙ part_more (map look front) (look p.made) (many test part mid.rest.now);
        })

    pub many_stop : {whole : Outcome (List A)} → Parts whole (map look front) (many test part tokens) → test (next_kind tokens) ≡ true → (why : Refusal)
        → Puts front read (Err why) after → (¬ (why ≡ Memory the_refusal)) → whole ≡ Err (why, mid.rest.now)
    many_stop {whole} so_far e why put m =
        so_far.are ∙ ap (λ o. and_then o (before (map look front))) (many_stops tokens (why, mid.rest.now) e (stopped why put m))

  pub many_end : {whole : Outcome (List A)} {front : List A} (tokens : List Token) → Parts whole front (many test part tokens)
      → test (next_kind tokens) ≡ false → whole ≡ Ok (front, tokens)
  many_end {whole} {front} tokens so_far e =
      so_far.are ∙ ap (λ o. and_then o (before front)) (many_ends tokens e) ∙ ap (λ row. Ok (row, tokens)) (append-nil front)

-- ---- a part of a block

module _ {T : Type 0} (look : T → Outline) (w : Word) (item : Reading Outline) (start rest : List Token) where
  -- it begins with its word symbol
  pub part_begins : (place : Place) → word_taken w start ≡ Ok (Some place, rest) → (front : List T) → front ≡ []
      → Parts (read.part w item start) (map look front) (some (is_kind kind.Identifier) item rest)
  unfolding read.part
  part_begins place e front none =
      subst (λ row. Parts (read.part w item start) (map look row) (some (is_kind kind.Identifier) item rest)) (sym none)
      (subst (λ o. Parts o [] (some (is_kind kind.Identifier) item rest))
      (sym (ap (λ o. and_then o (λ found. choose found (λ _. some (is_kind kind.Identifier) item) (pure []))) e))
      (parts_begin (some (is_kind kind.Identifier) item rest)))

  -- it is left out
  pub part_left_out : word_taken w start ≡ Ok (None, rest) → (front : List T) → front ≡ [] → read.part w item start ≡ Ok (map look front, rest)
  unfolding read.part
  part_left_out e front none =
      ap (λ o. and_then o (λ found. choose found (λ _. some (is_kind kind.Identifier) item) (pure []))) e
      ∙ ap (λ row. Ok (map look row, rest)) (sym none)
