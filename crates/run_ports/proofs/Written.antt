-- What a writer holds, and what is held back for it.
use Rattle.std.proofs.Common.{◌≡◌, ℕ, ◌+◌, ◌<◌, List, [], ◌∷◌, ◌++◌, length, take, drop, refl, ap, sym, ◌∙◌, append_assoc, append-nil, Option, Some, None}
use Rattle.std.proofs.Common.{Result, Ok, Err, arith, length-set, length-drop, length-append, get_or, subst, replicate, ◌≤◌, ◌-◌, ◌⊎◌, inl, inr, zero, suc}
use Rattle.std.proofs.lemmas.Bool.Decides.{nat_tests}
use Rattle.std.specs.Prelude.{◌/◌, ◌%◌, IfOk, slice_set, IsErr, ◌==◌, ◌&&◌, nat_lt, if◌then◌else◌}
use Rattle.std.proofs.Math.ListN.{take-append-drop}
use Rattle.std.proofs.lemmas.List.{take_all, take_more, take_more_set, replicate_more, replicate-append-replicate}
use Rattle.std.specs.Io.KnownBytes.{Appends}
use Rattle.run_ports.specs.Ports.{Ports, total, piece_of, pieces_of, Offers, Passes, Loses, PassesOrLoses, AppendsOrLoses}

-- to add nothing
pub Appends-none : (k : Option (List ℕ)) → Appends k k []
Appends-none None = tt
Appends-none (Some xs) = sym (append-nil xs)

-- one after the other
pub Appends-then : (a b c : Option (List ℕ)) (xs ys : List ℕ) → Appends a b xs → Appends b c ys → Appends a c (xs ++ ys)
Appends-then None b c xs ys h k = tt
Appends-then (Some zs) None c xs ys h k = absurd h
Appends-then (Some zs) (Some bs) None xs ys h k = absurd k
Appends-then (Some zs) (Some bs) (Some cs) xs ys h k = k ∙ ap (λ vs. vs ++ ys) h ∙ append_assoc zs xs ys

-- pieces, and then more
pub total-append : (xs ys : List ℕ) → total (xs ++ ys) ≡ total xs + total ys
total-append [] ys = omega arith
total-append (x ∷ xs) ys = let rest = total-append xs ys in omega (arith, rest)

-- nothing is offered
pub Offers-none : (a : Option (List ℕ)) → Offers a a []
Offers-none a = record { lengths = []; grew = Appends-none a; enough = omega arith; at_once = λ e. refl }

-- some pieces, and then more
pub Offers-then : (a b c : Option (List ℕ)) (ps qs : List ℕ) → Offers a b ps → Offers b c qs → Offers a c (ps ++ qs)
Offers-then a b c ps qs h k =
    let lengths = total-append h.lengths k.lengths in
    let pieces = total-append ps qs in
    let one = h.enough in
    let two = k.enough in
    record {
      lengths = h.lengths ++ k.lengths;
      grew = Appends-then a b c h.lengths k.lengths h.grew k.grew;
      enough = omega (arith, lengths, pieces, one, two);
      at_once = λ e.
          let first : total h.lengths ≡ total ps = omega (arith, lengths, pieces, one, two, e) in
          let second : total k.lengths ≡ total qs = omega (arith, lengths, pieces, one, two, e) in
          ap (λ l. l ++ k.lengths) (h.at_once first) ∙ ap (λ l. ps ++ l) (k.at_once second);
    }

-- what a writer was offered of a piece so far, when so many bytes of it are left
pub record Offering (before after : Option (List ℕ)) (whole rest : ℕ) : Type 0 where
  pub lengths : List ℕ
  pub grew : Appends before after lengths
  pub begun : ((lengths ≡ []) × (rest ≡ whole)) ⊎ ((more : List ℕ) × (lengths ≡ whole ∷ more) × (0 < whole) × (total more ≡ 0 → more ≡ []))

pub Offering-none : (a : Option (List ℕ)) (whole : ℕ) → Offering a a whole whole
Offering-none a whole = record { lengths = []; grew = Appends-none a; begun = inl (refl, refl) }

offered_more : (lengths : List ℕ) (whole rest : ℕ) → 0 < rest → ((lengths ≡ []) × (rest ≡ whole)) ⊎
    ((more : List ℕ) × (lengths ≡ whole ∷ more) × (0 < whole) × (total more ≡ 0 → more ≡ []))
    → (more : List ℕ) × (lengths ++ rest ∷ [] ≡ whole ∷ more) × (0 < whole) × (total more ≡ 0 → more ≡ [])
offered_more lengths whole rest some (inl h) = ([], ap (λ l. l ++ rest ∷ []) h.0 ∙ ap (λ n. n ∷ []) h.1, subst (λ n. 0 < n) h.1 some, λ e. refl)
offered_more lengths whole rest some (inr h) =
    (h.0 ++ rest ∷ [], ap (λ l. l ++ rest ∷ []) h.1, h.2, λ e. let sums = total-append h.0 (rest ∷ []) in absurd (omega (arith, sums, some, e)))

-- the writer is offered the rest, and takes some of it
pub Offering-more : (a b c : Option (List ℕ)) (whole rest rest' : ℕ) → 0 < rest → Offering a b whole rest → Appends b c (rest ∷ []) → Offering a c whole rest'
Offering-more a b c whole rest rest' some h grew = record {
  lengths = h.lengths ++ rest ∷ [];
  grew = Appends-then a b c h.lengths (rest ∷ []) h.grew grew;
  begun = inr (offered_more h.lengths whole rest some h.begun);
}

done_offering : (a b : Option (List ℕ)) (lengths : List ℕ) (whole : ℕ) → Appends a b lengths
    → ((lengths ≡ []) × (0 ≡ whole)) ⊎ ((more : List ℕ) × (lengths ≡ whole ∷ more) × (0 < whole) × (total more ≡ 0 → more ≡ [])) → Offers a b (piece_of whole)
done_offering a b lengths zero grew (inl h) = record { lengths = []; grew = subst (Appends a b) h.0 grew; enough = omega arith; at_once = λ e. refl }
done_offering a b lengths zero grew (inr h) = absurd (omega (arith, h.2))
done_offering a b lengths (suc n) grew (inl h) = absurd (omega (arith, h.1))
done_offering a b lengths (suc n) grew (inr h) = record {
  lengths = suc n ∷ h.0;
  grew = subst (Appends a b) h.1 grew;
  enough = omega arith;
  at_once = λ e. ap (λ l. suc n ∷ l) (h.3 (omega (arith, e)));
}

-- nothing is left of the piece
pub Offering-done : (a b : Option (List ℕ)) (whole rest : ℕ) → rest ≡ 0 → Offering a b whole rest → Offers a b (piece_of whole)
Offering-done a b whole rest e h =
    let none = subst (λ n. ((h.lengths ≡ []) × (n ≡ whole)) ⊎ ((more : List ℕ) × (h.lengths ≡ whole ∷ more) × (0 < whole) × (total more ≡ 0 → more ≡ []))) e
    h.begun in
    done_offering a b h.lengths whole h.grew none

-- to pass nothing
pub Passes-none : (a : Ports) → Passes a a []
Passes-none a = record {
  done = [];
  grew = Appends-none a.known;
  in_order = sym (append-nil a.held);
  pieces = 0;
  whole = refl;
  offers = Offers-none a.offered;
}

-- more is held back
pub Passes-held : (known offered : Option (List ℕ)) (held held' bytes : List ℕ) → held' ≡ held ++ bytes
    → Passes (record { known = known; offered = offered; held = held }) (record { known = known; offered = offered; held = held' }) bytes
Passes-held known offered held held' bytes e = record {
  done = [];
  grew = Appends-none known;
  in_order = e;
  pieces = 0;
  whole = refl;
  offers = Offers-none offered;
}

-- some bytes, and then more
pub Passes-then : (a b c : Ports) (xs ys : List ℕ) → Passes a b xs → Passes b c ys → Passes a c (xs ++ ys)
Passes-then a b c xs ys h k = record {
  done = h.done ++ k.done;
  grew = Appends-then a.known b.known c.known h.done k.done h.grew k.grew;
  in_order = append_assoc h.done k.done c.held ∙ ap (λ l. h.done ++ l) k.in_order ∙ sym (append_assoc h.done b.held ys) ∙ ap (λ l. l ++ ys) h.in_order
      ∙ append_assoc a.held xs ys;
  pieces = h.pieces + k.pieces;
  whole = omega (arith, length-append h.done k.done, h.whole, k.whole);
  offers = subst (Offers a.offered c.offered) (replicate-append-replicate h.pieces k.pieces 4096)
      (Offers-then a.offered b.offered c.offered (replicate h.pieces 4096) (replicate k.pieces 4096) h.offers k.offers);
}

-- the writer fails after some bytes
pub Loses-then : (a b : Ports) (known : Option (List ℕ)) (xs ys : List ℕ) → Passes a b xs → Loses b.known known (b.held ++ ys)
    → Loses a.known known (a.held ++ (xs ++ ys))
Loses-then a b known xs ys h k = record {
  done = h.done ++ k.done;
  lost = k.lost;
  grew = Appends-then a.known b.known known h.done k.done h.grew k.grew;
  in_order = sym (append_assoc a.held xs ys) ∙ ap (λ l. l ++ ys) (sym h.in_order) ∙ append_assoc h.done b.held ys ∙ ap (λ l. h.done ++ l) k.in_order
      ∙ sym (append_assoc h.done k.done k.lost);
}

-- more bytes are lost
pub Loses-more : (known known' : Option (List ℕ)) (held xs ys : List ℕ) → Loses known known' (held ++ xs) → Loses known known' (held ++ (xs ++ ys))
Loses-more known known' held xs ys h = record {
  done = h.done;
  lost = h.lost ++ ys;
  grew = h.grew;
  in_order = sym (append_assoc held xs ys) ∙ ap (λ l. l ++ ys) h.in_order ∙ append_assoc h.done h.lost ys;
}

-- some bytes, and then more or a failure
pub PassesOrLoses-then : {A E : Type 0} (answer : Result A E) (a b c : Ports) (xs ys : List ℕ) → Passes a b xs → PassesOrLoses answer b c ys
    → PassesOrLoses answer a c (xs ++ ys)
PassesOrLoses-then (Ok value) a b c xs ys h k = Passes-then a b c xs ys h k
PassesOrLoses-then (Err error) a b c xs ys h k = Loses-then a b c.known xs ys h k

-- the same bytes
pub PassesOrLoses-is : {A E : Type 0} (answer : Result A E) (a b : Ports) (xs ys : List ℕ) → xs ≡ ys → PassesOrLoses answer a b xs → PassesOrLoses answer a b ys
PassesOrLoses-is answer a b xs ys e h = subst (PassesOrLoses answer a b) e h

-- a whole piece goes out: what was held back, and some bytes with it
pub PassesOrLoses-piece : {A E : Type 0} (answer : Result A E) (a b : Ports) (bytes piece : List ℕ) → b.held ≡ [] → piece ≡ a.held ++ bytes
    → length piece ≡ 4096 → AppendsOrLoses answer a.known b.known piece → IfOk answer (λ _. Offers a.offered b.offered (piece_of (length piece)))
    → PassesOrLoses answer a b bytes
PassesOrLoses-piece (Ok value) a b bytes piece none e full h offers = record {
  done = piece;
  grew = h;
  in_order = ap (λ l. piece ++ l) none ∙ append-nil piece ∙ e;
  pieces = 1;
  whole = sym full;
  offers = subst (λ n. Offers a.offered b.offered (piece_of n)) full offers;
}
PassesOrLoses-piece (Err error) a b bytes piece none e full h offers = subst (Loses a.known b.known) e h

-- what is held back goes out behind the pieces
pub Offers-rest : (a b : Ports) (offered : Option (List ℕ)) (bytes : List ℕ) → a.held ≡ [] → length b.held < 4096 → Passes a b bytes
    → Offers b.offered offered (piece_of (length b.held)) → Offers a.offered offered (pieces_of (length bytes))
Offers-rest a b offered bytes none few h out =
    let order = ap length (h.in_order ∙ ap (λ l. l ++ bytes) none) in
    let sum = length-append h.done b.held in
    let full : length bytes / 4096 ≡ h.pieces = omega (arith, order, sum, h.whole, few) in
    let rest : length bytes % 4096 ≡ length b.held = omega (arith, order, sum, h.whole, few) in
    subst (λ n. Offers a.offered offered (replicate (length bytes / 4096) 4096 ++ piece_of n)) (sym rest)
    (subst (λ n. Offers a.offered offered (replicate n 4096 ++ piece_of (length b.held))) (sym full)
    (Offers-then a.offered b.offered offered (replicate h.pieces 4096) (piece_of (length b.held)) h.offers out))

-- a part of a piece goes out
pub Loses-part : (a b c : Option (List ℕ)) (bytes part rest rest' : List ℕ) (h : Loses a b bytes) → h.lost ≡ rest → Appends b c part → rest ≡ part ++ rest'
    → (got : Loses a c bytes) × (got.lost ≡ rest')
Loses-part a b c bytes part rest rest' h at grew e = (
  record {
    done = h.done ++ part;
    lost = rest';
    grew = Appends-then a b c h.done part h.grew grew;
    in_order = h.in_order ∙ ap (λ l. h.done ++ l) (at ∙ e) ∙ sym (append_assoc h.done part rest');
  },
  refl,
)

-- an answer that is an error
pub PassesOrLoses-err : {A E : Type 0} (answer : Result A E) (a c : Ports) (bytes : List ℕ) → IsErr answer → Loses a.known c.known (a.held ++ bytes)
    → PassesOrLoses answer a c bytes
PassesOrLoses-err (Ok value) a c bytes e h = cc
PassesOrLoses-err (Err error) a c bytes e h = h

-- one more byte of a row
pub Passes-row : (a b c : Ports) (bytes : List ℕ) (index : ℕ) → index < length bytes → Passes a b (take index bytes) → Passes b c (get_or bytes index 0 ∷ [])
    → Passes a c (take (index + 1) bytes)
Passes-row a b c bytes index h done one =
    subst (Passes a c) (sym (take_more bytes index 0 h)) (Passes-then a b c (take index bytes) (get_or bytes index 0 ∷ []) done one)

-- the writer fails at a byte of a row
pub Loses-row : (a b : Ports) (known : Option (List ℕ)) (bytes : List ℕ) (index : ℕ) → index < length bytes → Passes a b (take index bytes)
    → Loses b.known known (b.held ++ get_or bytes index 0 ∷ []) → Loses a.known known (a.held ++ bytes)
Loses-row a b known bytes index h done one =
    let upto = take index bytes ++ get_or bytes index 0 ∷ [] in
    let rest = drop (index + 1) bytes in
    let whole : upto ++ rest ≡ bytes = ap (λ xs. xs ++ rest) (sym (take_more bytes index 0 h)) ∙ take-append-drop (index + 1) bytes in
    subst (λ l. Loses a.known known (a.held ++ l)) whole
    (Loses-more a.known known a.held upto rest (Loses-then a b known (take index bytes) (get_or bytes index 0 ∷ []) done one))

-- one more of the same bytes
pub Passes-same : (a b c : Ports) (turn byte : ℕ) → Passes a b (replicate turn byte) → Passes b c (byte ∷ []) → Passes a c (replicate (turn + 1) byte)
Passes-same a b c turn byte done one =
    subst (Passes a c) (replicate_more turn byte) (Passes-then a b c (replicate turn byte) (byte ∷ []) done one)

-- the writer fails at one of the same bytes
pub Loses-same : (a b : Ports) (known : Option (List ℕ)) (count turn byte : ℕ) → turn < count → Passes a b (replicate turn byte)
    → Loses b.known known (b.held ++ byte ∷ []) → Loses a.known known (a.held ++ replicate count byte)
Loses-same a b known count turn byte h done one =
    let upto = replicate turn byte ++ byte ∷ [] in
    let rest = replicate (count - (turn + 1)) byte in
    let all : turn + 1 + (count - (turn + 1)) ≡ count = omega arith in
    let whole : upto ++ rest ≡ replicate count byte = ap (λ xs. xs ++ rest) (replicate_more turn byte)
    ∙ replicate-append-replicate (turn + 1) (count - (turn + 1)) byte ∙ ap (λ n. replicate n byte) all in
    subst (λ l. Loses a.known known (a.held ++ l)) whole
    (Loses-more a.known known a.held upto rest (Loses-then a b known (replicate turn byte) (byte ∷ []) done one))

-- the last byte of a piece
pub last_byte : (bytes : List ℕ) (held byte : ℕ) → held + 1 ≡ length bytes → slice_set bytes held byte ≡ take held bytes ++ byte ∷ []
last_byte bytes held byte h =
    let within : held < length bytes = omega arith in
    let whole : length (slice_set bytes held byte) ≤ held + 1 = omega (arith, length-set {A = ℕ}) in
    sym (take_all (held + 1) (slice_set bytes held byte) whole) ∙ take_more_set bytes held byte within

-- what is left of it
pub part_left : (rest : List ℕ) (count : ℕ) → drop count rest ≡ take (length rest - count) (drop count rest)
part_left rest count = sym (take_all (length rest - count) (drop count rest) (omega (arith, length-drop count rest)))

-- a write that takes some bytes doesn't count as a failure
pub none_failed : (piece : List ℕ) (count : ℕ) → 0 < count → ◌≡◌ {A = ℕ} (if (count == 0) && nat_lt 0 (length piece) then 1 else 0) 0
none_failed piece count h = grind (arith, nat_tests)
