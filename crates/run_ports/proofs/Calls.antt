-- Calls of a reader, one after the other.
use Rattle.std.proofs.Common.{◌≡◌, ℕ, List, [], ◌∷◌, ◌++◌, length, map, refl, ap, sym, ◌∙◌, subst, append_assoc, append-nil, arith}
use Rattle.std.proofs.Common.{true}
use Rattle.std.specs.Prelude.{◌||◌}
use Rattle.std.proofs.KnownBytes.{Appends-nil, Appends-trans, Consumes-nil, Consumes-trans}
use Rattle.std.specs.Io.KnownBytes.{Appends, Consumes, IsAtEnd}
use Rattle.run_ports.specs.Seen.{Feeds}
use Rattle.run_ports.specs.Feeding.{Source, Tail, MayGo, Ended, Failed, MayGive, Gave, IsDone, Each, behind, before_calls, failed_calls, is_ended}
use Rattle.run_ports.specs.Feeding.{joined, last_call, whole}

-- ---- pieces

pub joined-append : (xs ys : List (List ℕ)) → joined (xs ++ ys) ≡ joined xs ++ joined ys
joined-append [] ys = refl
joined-append (x ∷ xs) ys = ap (λ l. x ++ l) (joined-append xs ys) ∙ sym (append_assoc x (joined xs) (joined ys))

-- the last call gave nothing
pub joined-calls : (pieces : List (List ℕ)) (tail : Tail) → joined (pieces ++ last_call tail) ≡ joined pieces
joined-calls pieces MayGo = ap joined (append-nil pieces)
joined-calls pieces Ended = joined-append pieces ([] ∷ []) ∙ append-nil (joined pieces)
joined-calls pieces Failed = joined-append pieces ([] ∷ []) ∙ append-nil (joined pieces)

-- one source behind another
pub behind-behind : (xs ys : List ℕ) (source : Source) → behind (xs ++ ys) source ≡ behind xs (behind ys source)
behind-behind xs ys source = ap (λ bytes. record source { bytes = bytes }) (append_assoc xs ys source.bytes)

lengths-append : (xs ys : List (List ℕ)) → map length (xs ++ ys) ≡ map length xs ++ map length ys
lengths-append [] ys = refl
lengths-append (x ∷ xs) ys = ap (λ l. length x ∷ l) (lengths-append xs ys)

-- ---- what was given before each call

pub before_calls-append : (given : List ℕ) (xs ys : List (List ℕ))
    → before_calls given (xs ++ ys) ≡ before_calls given xs ++ before_calls (given ++ joined xs) ys
before_calls-append given [] ys = ap (λ l. before_calls l ys) (sym (append-nil given))
before_calls-append given (x ∷ xs) ys =
    ap (λ l. given ∷ l) (before_calls-append (given ++ x) xs ys
    ∙ ap (λ l. before_calls (given ++ x) xs ++ before_calls l ys) (append_assoc given x (joined xs)))

pub Each-both : (P : List ℕ → Type 0) (xs ys : List (List ℕ)) → Each P xs → Each P ys → Each P (xs ++ ys)
Each-both P [] ys h k = k
Each-both P (x ∷ xs) ys h k = (h.0, Each-both P xs ys h.1 k)

pub Each-map : (P Q : List ℕ → Type 0) → ((given : List ℕ) → P given → Q given) → (xs : List (List ℕ)) → Each P xs → Each Q xs
Each-map P Q f [] h = tt
Each-map P Q f (x ∷ xs) h = (f x h.0, Each-map P Q f xs h.1)

-- calls behind more bytes
pub before_calls-behind : (P Q : List ℕ → Type 0) (base : List ℕ) → ((given : List ℕ) → P given → Q (base ++ given)) → (given : List ℕ) (ys : List (List ℕ))
    → Each P (before_calls given ys) → Each Q (before_calls (base ++ given) ys)
before_calls-behind P Q base f given [] h = tt
before_calls-behind P Q base f given (y ∷ ys) h =
    (f given h.0, subst (λ l. Each Q (before_calls l ys)) (sym (append_assoc base given y)) (before_calls-behind P Q base f (given ++ y) ys h.1))

-- what was needed first, and then behind that
pub needed-then : (P N Q : List ℕ → Type 0) (xs ys : List (List ℕ)) → ((given : List ℕ) → P given → Q given)
    → ((given : List ℕ) → N given → Q (joined xs ++ given)) → Each P (before_calls [] xs) → Each N (before_calls [] ys) → Each Q (before_calls [] (xs ++ ys))
needed-then P N Q xs ys f g h k =
    subst (Each Q) (sym (before_calls-append [] xs ys)) (Each-both Q (before_calls [] xs) (before_calls (joined xs) ys) (Each-map P Q f (before_calls [] xs) h)
    (subst (λ l. Each Q (before_calls l ys)) (append-nil (joined xs)) (before_calls-behind N Q (joined xs) g [] ys k)))

-- ---- tails

-- how the reader is behind both
abbrev pub tail_then : Tail → Tail → Tail
tail_then MayGo tail = tail
tail_then Ended tail = Ended
tail_then Failed tail = Failed

-- no call
pub no_calls : (pieces : List (List ℕ)) (tail : Tail) → pieces ++ last_call tail ≡ [] → (pieces ≡ []) × (tail ≡ MayGo)
no_calls [] MayGo e = (refl, refl)
no_calls [] Ended e = cc
no_calls [] Failed e = cc
no_calls (piece ∷ pieces) tail e = cc

-- a reader that is at its end isn't called again, and one that failed doesn't matter
pub record Follows (first : Tail) (pieces : List (List ℕ)) (second : Tail) : Type 0 where
  pub unfailed : failed_calls first ≡ 0
  pub once : is_ended first ≡ true → pieces ++ last_call second ≡ []

-- then it may go, or there are no more calls
pub data Either (first : Tail) (pieces : List (List ℕ)) (second : Tail) : Type 0 where
  Goes : first ≡ MayGo → Either first pieces second
  Rests : first ≡ Ended → pieces ≡ [] → second ≡ MayGo → Either first pieces second

pub either : (first : Tail) (pieces : List (List ℕ)) (second : Tail) → Follows first pieces second → Either first pieces second
either MayGo pieces second h = Goes refl
either Ended pieces second h = let none = no_calls pieces second (h.once refl) in Rests refl none.0 none.1
either Failed pieces second h = absurd (omega (arith, h.unfailed))

calls_then : (xs ys : List (List ℕ)) (first second : Tail) → Either first ys second
    → (xs ++ ys) ++ last_call (tail_then first second) ≡ (xs ++ last_call first) ++ (ys ++ last_call second)
calls_then xs ys first second (Goes e) =
    subst (λ t. (xs ++ ys) ++ last_call (tail_then t second) ≡ (xs ++ last_call t) ++ (ys ++ last_call second)) (sym e)
    (append_assoc xs ys (last_call second) ∙ ap (λ l. l ++ (ys ++ last_call second)) (sym (append-nil xs)))
calls_then xs ys first second (Rests e none rests) =
    subst (λ t. (xs ++ ys) ++ last_call (tail_then t second) ≡ (xs ++ last_call t) ++ (ys ++ last_call second)) (sym e)
    (subst (λ l. (xs ++ l) ++ [] ∷ [] ≡ (xs ++ [] ∷ []) ++ (l ++ last_call second)) (sym none)
    (subst (λ t. (xs ++ []) ++ [] ∷ [] ≡ (xs ++ [] ∷ []) ++ last_call t) (sym rests) (ap (λ l. l ++ [] ∷ []) (append-nil xs)
    ∙ sym (append-nil (xs ++ [] ∷ [])))))

-- the calls of both
pub calls-then : (xs ys : List (List ℕ)) (first second : Tail) → Follows first ys second
    → (xs ++ ys) ++ last_call (tail_then first second) ≡ (xs ++ last_call first) ++ (ys ++ last_call second)
calls-then xs ys first second h = calls_then xs ys first second (either first ys second h)

pub failed-then : (ys : List (List ℕ)) (first second : Tail) → Follows first ys second → failed_calls (tail_then first second) ≡ failed_calls second
failed-then ys MayGo second h = refl
failed-then ys Ended second h = ap failed_calls (sym (no_calls ys second (h.once refl)).1)
failed-then ys Failed second h = absurd (omega (arith, h.unfailed))

pub ended-then : (ys : List (List ℕ)) (first second : Tail) → Follows first ys second → is_ended (tail_then first second) ≡ (is_ended first || is_ended second)
ended-then ys MayGo second h = refl
ended-then ys Ended second h = refl
ended-then ys Failed second h = absurd (omega (arith, h.unfailed))

-- what may come behind both may come behind the second
pub may_second : (ys : List (List ℕ)) (first second : Tail) (source : Source) → Follows first ys second → MayGive (tail_then first second) source
    → MayGive second source
may_second ys MayGo second source h m = m
may_second ys Ended second source h m = subst (λ t. MayGive t source) (sym (no_calls ys second (h.once refl)).1) tt
may_second ys Failed second source h m = absurd (omega (arith, h.unfailed))

-- and with the second's pieces behind the first
pub may_first : (ys : List (List ℕ)) (first second : Tail) (source : Source) → Follows first ys second → MayGive (tail_then first second) source
    → MayGive first (behind (joined ys) source)
may_first ys MayGo second source h m = tt
may_first ys Ended second source h m = subst (λ l. behind (joined l) source ≡ whole []) (sym (no_calls ys second (h.once refl)).0) m
may_first ys Failed second source h m = absurd (omega (arith, h.unfailed))

-- ---- what is seen of the reader

-- no call
pub Gave-none : (a : Feeds) → Gave a a [] MayGo
Gave-none a = record {
  gives = Consumes-nil a.remaining;
  done = tt;
  asked = Appends-nil a.asked;
  failed = omega arith;
  unasked = λ e. refl;
}

done_then : (ys : List (List ℕ)) (first second : Tail) (b c : Feeds) → Follows first ys second → Gave b c ys second → IsDone first b.remaining
    → IsDone (tail_then first second) c.remaining
done_then ys MayGo second b c h k done = k.done
done_then ys Ended second b c h k done = subst (λ f. IsAtEnd f.remaining) (sym (k.unasked (h.once refl))) done
done_then ys Failed second b c h k done = absurd (omega (arith, h.unfailed))

no_more : (xs ys : List (List ℕ)) → xs ++ ys ≡ [] → (xs ≡ []) × (ys ≡ [])
no_more [] ys e = (refl, e)
no_more (x ∷ xs) ys e = cc

-- some calls, and then more
pub Gave-then : (a b c : Feeds) (xs ys : List (List ℕ)) (first second : Tail) → Follows first ys second → Gave a b xs first → Gave b c ys second
    → Gave a c (xs ++ ys) (tail_then first second)
Gave-then a b c xs ys first second f h k =
    let calls = calls-then xs ys first second f in
    record {
      gives = subst (Consumes a.remaining c.remaining) (sym (joined-append xs ys))
          (Consumes-trans a.remaining b.remaining c.remaining (joined xs) (joined ys) h.gives k.gives);
      done = done_then ys first second b c f k h.done;
      asked = subst (Appends a.asked c.asked) (sym (ap (map length) calls ∙ lengths-append (xs ++ last_call first) (ys ++ last_call second)))
          (Appends-trans a.asked b.asked c.asked (map length (xs ++ last_call first)) (map length (ys ++ last_call second)) h.asked k.asked);
      failed = omega (arith, h.failed, k.failed, failed-then ys first second f, f.unfailed);
      unasked = λ e. let none = no_more (xs ++ last_call first) (ys ++ last_call second) (sym calls ∙ e) in k.unasked none.1 ∙ h.unasked none.0;
    }
