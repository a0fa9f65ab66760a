-- Parts up to an `end` that are kept as two rows: what the heads of the parts are, and what stands behind each.
use Rattle.std.proofs.Common.{◌≡◌, ◌<◌, Bool, List, [], ◌∷◌, ◌++◌, length, Some, None, Result, Ok, Err, refl, sym, ap, subst, ◌∙◌}
use Rattle.std.proofs.Common.{arith, length-append}
use Rattle.memory.specs.Refused.{the_refusal}
use Rattle.lexer.specs.declared.token.Token.{Token}
use Rattle.reading.specs.declared.refusal.Refusal.{Refusal}
use Rattle.reading.specs.declared.refusal.Refusal.TheVariants.{Memory}
use Rattle.reading.specs.Outline.{Outline}
use Rattle.reading.specs.Reading.{Outcome, Reading, and_then, ◌>>=◌, pure}
use Rattle.reading.specs.Statements.{behind_arm, parts_to_end}
use Rattle.reading.proofs.Uses.{NeverMore}
use Rattle.token_cursor.specs.declared.cursor.Cursor.{Cursor}
use Rattle.token_cursor.specs.Cursor.{Makes}
use Rattle.token_cursor.proofs.Turns.{Turns, turns_begin}
use Rattle.token_cursor.specs.Kept.{Puts}
use Rattle.token_cursor.proofs.Keeping.{WasPut, was_put, not_put}
use Rattle.token_cursor.proofs.Ended.{ended_goes, ended_ends, ended_fewer, ended_stops, ended_stops_behind}

-- rows of which one is a head for each of the other
pub record Paired {X Y : Type 0} (rows : List X → List Y → List Outline) (whole : Outcome (List Outline × Bool)) (xs : List X) (ys : List Y)
    (rest : Outcome (List Outline × Bool)) : Type 0 where
  pub even : length xs ≡ length ys
  pub turns : Turns whole (rows xs ys) rest

-- a turn of the loop that reads them: a head was read and put behind the others, and so was what stands behind it
module _ {X Y : Type 0} (head : X → List Outline) (look : Y → Outline) (join : List Outline → Outline → Outline) (heads : Reading (List Outline))
    (inner : Reading Outline) (rows : List X → List Y → List Outline) where
  abbrev pub pair : Reading Outline
  pair = heads >>= (λ h. inner >>= (λ i. pure (join h i)))

  -- one pair more is one part more
  abbrev pub Pushes : Type 0
  Pushes = (xs : List X) (ys : List Y) (x : X) (y : Y) → length xs ≡ length ys
      → rows (xs ++ x ∷ []) (ys ++ y ∷ []) ≡ rows xs ys ++ join (head x) (look y) ∷ []

  pub pairs_begin : (whole : Outcome (List Outline × Bool)) → rows [] [] ≡ [] → (xs : List X) (ys : List Y) → xs ≡ [] → ys ≡ []
      → Paired rows whole xs ys whole
  pairs_begin whole none xs ys e f =
      subst (λ l. Paired rows whole l ys whole) (sym e) (subst (λ l. Paired rows whole [] l whole) (sym f)
      (record { even = refl; turns = subst (λ l. Turns whole l whole) (sym none) (turns_begin whole) }))

  module _ {whole : Outcome (List Outline × Bool)} (tokens : List Token) (xs : List X) (ys : List Y)
      (so_far : Paired rows whole xs ys (parts_to_end pair tokens)) (read : Result X Refusal) (mid : Cursor) (xs' : List X)
      (makes : Makes head (heads tokens) read mid) where
    -- a head that stops
    pub head_stops : (why : Refusal) → Puts xs read (Err why) xs' → (¬ (why ≡ Memory the_refusal)) → whole ≡ Err (why, mid.rest.now)
    head_stops why put m =
        ended_stops pair tokens so_far.turns (why, mid.rest.now)
        (ap (λ o. and_then o (λ h. inner >>= (λ i. pure (join h i)))) (not_put head (heads tokens) read mid xs xs' why makes put m))

    module _ (put : Puts xs read (Ok tt) xs') (found : Result Y Refusal) (last : Cursor) (ys' : List Y)
        (makes' : Makes look (inner mid.rest.now) found last) where
      first : WasPut head (heads tokens) mid xs xs'
      first = was_put head (heads tokens) read mid xs xs' makes put

      -- what stands behind it stops
      pub inner_stops : (why : Refusal) → Puts ys found (Err why) ys' → (¬ (why ≡ Memory the_refusal)) → whole ≡ Err (why, last.rest.now)
      inner_stops why put' m =
          ended_stops pair tokens so_far.turns (why, last.rest.now)
          (ap (λ o. and_then o (λ h. inner >>= (λ i. pure (join h i)))) first.read
          ∙ ap (λ o. and_then o (λ i. pure (join (head first.made) i))) (not_put look (inner mid.rest.now) found last ys ys' why makes' put' m))

      module _ (put' : Puts ys found (Ok tt) ys') where
        second : WasPut look (inner mid.rest.now) last ys ys'
        second = was_put look (inner mid.rest.now) found last ys ys' makes' put'

        one : Outline
        one = join (head first.made) (look second.made)

        was : pair tokens ≡ Ok (one, last.rest.now)
        unfolding one
        was =
            ap (λ o. and_then o (λ h. inner >>= (λ i. pure (join h i)))) first.read
            ∙ ap (λ o. and_then o (λ i. pure (join (head first.made) i))) second.read

        even_after : length xs' ≡ length ys'
        even_after =
            let e = so_far.even in let f = ap length first.behind in let g = ap length second.behind in
            omega (arith, length-append xs (first.made ∷ []), length-append ys (second.made ∷ []))

        longer : Pushes → rows xs ys ++ one ∷ [] ≡ rows xs' ys'
        unfolding one
        longer pushes =
            sym (ap (λ l. rows l ys') first.behind ∙ ap (λ l. rows (xs ++ first.made ∷ []) l) second.behind
            ∙ pushes xs ys first.made second.made so_far.even)

        -- no `end` comes
        pub pairs_go : NeverMore pair → Pushes → (rest : List Token) → behind_arm last.rest.now ≡ Ok (None, rest)
            → Paired rows whole xs' ys' (parts_to_end pair rest)
        pairs_go fewer pushes rest e = record {
          even = even_after;
          turns =
              subst (λ l. Turns whole l (parts_to_end pair rest)) (longer pushes)
              (ended_goes pair tokens so_far.turns fewer one last.rest.now rest was e);
        }

        pub pairs_fewer : NeverMore pair → (rest : List Token) → behind_arm last.rest.now ≡ Ok (None, rest) → length rest < length tokens
        pairs_fewer fewer rest e = ended_fewer pair fewer tokens last.rest.now rest one was e

        -- the `end` comes
        pub pairs_end : Pushes → (rest : List Token) (semicolon : Bool) → behind_arm last.rest.now ≡ Ok (Some semicolon, rest)
            → (length xs' ≡ length ys') × (whole ≡ Ok ((rows xs' ys', semicolon), rest))
        pairs_end pushes rest semicolon e = (
          even_after,
          ended_ends pair tokens so_far.turns one last.rest.now rest semicolon was e
              ∙ ap (λ l. Ok ((l, semicolon), rest)) (longer pushes),
        )

        -- neither comes
        pub behind_stops : (why : Refusal) (rest : List Token) → behind_arm last.rest.now ≡ Err (why, rest) → whole ≡ Err (why, rest)
        behind_stops why rest e = ended_stops_behind pair tokens so_far.turns one last.rest.now (why, rest) was e
