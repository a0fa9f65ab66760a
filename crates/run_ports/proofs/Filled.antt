-- What is left to be read where a piece is asked for, and where a byte is taken.
use Rattle.std.proofs.Common.{◌≡◌, ℕ, ◌+◌, ◌-◌, ◌<◌, ◌≤◌, suc, List, [], ◌∷◌, ◌++◌, length, take, drop, get_or, refl, ap, sym, ◌∙◌, subst, append-nil, arith}
use Rattle.std.proofs.Common.{Bool, true, false, Ok, Err, length-take}
use Rattle.std.proofs.Math.ListN.{drop_of_length-le}
use Rattle.std.proofs.Math.Seq.{drop-cons}
use Rattle.std.proofs.lemmas.List.{take_more, take_more_set}
use Rattle.std.proofs.KnownBytes.{Consumes-nil, Consumes-kept}
use Rattle.std.specs.Prelude.{if◌then◌else◌, nat_eq, not, slice_set}
use Rattle.std.specs.Io.KnownBytes.{Appends, Consumes, IsAtEnd, Keeps}
use Rattle.text_input.specs.Input.{completed}
use Rattle.run_ports.specs.Seen.{Feeds}
use Rattle.run_ports.specs.declared.input.Input.{Input}
use Rattle.run_ports.specs.declared.fault.ReadStop.TheVariants as read_stop
use Rattle.run_ports.specs.Feeding.{Source, MayGo, Ended, Failed, Gave, behind, coming, completed_rest, left, readable_rest, window}
use Rattle.run_ports.specs.Steps.{Fills}

-- ---- line ends

completed-cons : (x : ℕ) (rest : List ℕ) → completed (x ∷ rest) ≡ x ∷ completed_rest (not (nat_eq x 10)) rest
completed-cons x [] = elim (nat_eq x 10) as (λ b. (if b then x ∷ [] else x ∷ 10 ∷ []) ≡ x ∷ completed_rest (not b) []) [ true ↦ refl | false ↦ refl ]
completed-cons x (y ∷ rest) =
    elim (nat_eq x 10) as (λ b. x ∷ completed (y ∷ rest) ≡ x ∷ completed_rest (not b) (y ∷ rest)) [ true ↦ refl | false ↦ refl ]

rest-cons : (b : Bool) (x : ℕ) (rest : List ℕ) → completed_rest b (x ∷ rest) ≡ completed (x ∷ rest)
rest-cons true x rest = refl
rest-cons false x rest = refl

-- a line end is missing behind more bytes where it is missing behind the last of them
pub completed-then : (b : Bool) (first : List ℕ) (x : ℕ) (rest : List ℕ)
    → completed_rest b ((first ++ x ∷ []) ++ rest) ≡ (first ++ x ∷ []) ++ completed_rest (not (nat_eq x 10)) rest
completed-then b [] x rest = rest-cons b x rest ∙ completed-cons x rest
completed-then b (y ∷ first) x rest =
    rest-cons b y ((first ++ x ∷ []) ++ rest) ∙ completed-cons y ((first ++ x ∷ []) ++ rest) ∙ ap (λ l. y ∷ l) (completed-then (not (nat_eq y 10)) first x rest)

readable_then : (fails b : Bool) (first : List ℕ) (x : ℕ) (bytes : List ℕ)
    → (if fails then (first ++ x ∷ []) ++ bytes else completed_rest b ((first ++ x ∷ []) ++ bytes))
    ≡ (first ++ x ∷ []) ++ (if fails then bytes else completed_rest (not (nat_eq x 10)) bytes)
readable_then true b first x bytes = refl
readable_then false b first x bytes = completed-then b first x bytes

-- ---- what is held

pub window-none : (input : Input) → input.next ≡ input.held → window input ≡ []
window-none input e =
    let most = length-take input.held input.bytes.items in
    drop_of_length-le (take input.held input.bytes.items) (omega (arith, most, e))

coming-goes : (input : Input) (source : Source) → input.is_at_end ≡ false → coming input source ≡ readable_rest input.is_in_line source
coming-goes input source e = ap (λ b. if b then [] else readable_rest input.is_in_line source) e

coming-ended : (input : Input) (source : Source) → input.is_at_end ≡ true → coming input source ≡ []
coming-ended input source e = ap (λ b. if b then [] else readable_rest input.is_in_line source) e

pub left-goes : (input : Input) (held : List ℕ) (source : Source) → window input ≡ held → input.is_at_end ≡ false
    → left input source ≡ held ++ readable_rest input.is_in_line source
left-goes input held source w e = ap (λ l. l ++ coming input source) w ∙ ap (λ l. held ++ l) (coming-goes input source e)

pub left-ended : (input : Input) (held : List ℕ) (source : Source) → window input ≡ held → input.is_at_end ≡ true → left input source ≡ held
left-ended input held source w e = ap (λ l. l ++ coming input source) w ∙ ap (λ l. held ++ l) (coming-ended input source e) ∙ append-nil held

-- ---- a call of the reader

pub Gave-failed : (a b : Feeds) → Keeps a.remaining b.remaining → Appends a.asked b.asked (0 ∷ []) → b.failures ≡ a.failures + 1 → Gave a b [] Failed
Gave-failed a b keeps asked failed = record {
  gives = Consumes-kept a.remaining a.remaining b.remaining [] (Consumes-nil a.remaining) keeps;
  done = tt;
  asked = asked;
  failed = failed;
  unasked = λ e. cc;
}

pub Gave-ended : (a b : Feeds) (bytes : List ℕ) (count : ℕ) → count ≡ 0 → 0 < length bytes
    → Consumes a.remaining b.remaining (take count bytes) × (count ≡ 0 → 0 < length bytes → IsAtEnd b.remaining)
    → Appends a.asked b.asked (count ∷ []) → b.failures ≡ a.failures + 0 → Gave a b [] Ended
Gave-ended a b bytes count none room read asked failed = record {
  gives = subst (λ n. Consumes a.remaining b.remaining (take n bytes)) none read.0;
  done = read.1 none room;
  asked = subst (λ n. Appends a.asked b.asked (n ∷ [])) none asked;
  failed = failed;
  unasked = λ e. cc;
}

pub Gave-piece : (a b : Feeds) (bytes piece : List ℕ) (count : ℕ) → take count bytes ≡ piece → count ≡ length (take count bytes)
    → Consumes a.remaining b.remaining (take count bytes) → Appends a.asked b.asked (count ∷ [])
    → b.failures ≡ a.failures + 0 → Gave a b (piece ∷ []) MayGo
Gave-piece a b bytes piece count all size gives asked failed = record {
  gives = subst (Consumes a.remaining b.remaining) (all ∙ sym (append-nil piece)) gives;
  done = tt;
  asked = subst (λ n. Appends a.asked b.asked (n ∷ [])) (size ∙ ap length all) asked;
  failed = failed;
  unasked = λ e. cc;
}

-- it failed
pub Fills-failed : (old new : Input) (a b : Feeds) → window old ≡ [] → window new ≡ [] → old.is_at_end ≡ false → new.is_at_end ≡ false
    → new.is_in_line ≡ old.is_in_line → Gave a b [] Failed → Fills (Err read_stop.ReadFailed) old new a b
Fills-failed old new a b none none' goes goes' line gave = record {
  pieces = [];
  tail = Failed;
  gave = gave;
  same = λ source may. left-goes old [] source none goes ∙ ap (λ l. readable_rest l source) (sym line) ∙ sym (left-goes new [] source none' goes');
  once = ([], refl);
  at_end = goes';
  failed = refl;
  held = λ e. cc;
  none = λ e. none';
}

-- it gave nothing
pub Fills-ended : (old new : Input) (a b : Feeds) → window old ≡ [] → old.is_at_end ≡ false → new.is_at_end ≡ true
    → window new ≡ completed_rest old.is_in_line []
    → Gave a b [] Ended → Fills (Ok tt) old new a b
Fills-ended old new a b none goes ends held gave = record {
  pieces = [];
  tail = Ended;
  gave = gave;
  same = λ source may. left-goes old [] source none goes ∙ ap (readable_rest old.is_in_line) may
      ∙ sym (left-ended new (completed_rest old.is_in_line []) source held ends);
  once = ([], refl);
  at_end = ends;
  failed = refl;
  held = λ e. cc;
  none = λ e. cc;
}

-- it gave a piece
pub Fills-piece : (old new : Input) (a b : Feeds) (first : List ℕ) (x : ℕ) → window old ≡ [] → old.is_at_end ≡ false → new.is_at_end ≡ false
    → new.next < new.held → window new ≡ first ++ x ∷ [] → new.is_in_line ≡ not (nat_eq x 10) → Gave a b ((first ++ x ∷ []) ∷ []) MayGo
    → Fills (Ok tt) old new a b
Fills-piece old new a b first x none goes goes' some held line gave = record {
  pieces = (first ++ x ∷ []) ∷ [];
  tail = MayGo;
  gave = gave;
  same = λ source may.
      let piece = first ++ x ∷ [] in
      left-goes old [] (behind (piece ++ []) source) none goes ∙ ap (λ l. readable_rest old.is_in_line (behind l source)) (append-nil piece)
      ∙ readable_then source.fails old.is_in_line first x source.bytes ∙ ap (λ l. piece ++ readable_rest l source) (sym line)
      ∙ sym (left-goes new piece source held goes');
  once = (first ++ x ∷ [], refl);
  at_end = goes';
  failed = refl;
  held = λ e. some;
  none = λ e. cc;
}

-- ---- a byte is taken

pub window-cons : (input : Input) → input.next < length (take input.held input.bytes.items)
    → window input ≡ get_or (take input.held input.bytes.items) input.next 0 ∷ drop (input.next + 1) (take input.held input.bytes.items)
window-cons input h =
    let more : suc input.next ≡ input.next + 1 = omega arith in
    drop-cons (take input.held input.bytes.items) input.next 0 h ∙ ap
    (λ n. get_or (take input.held input.bytes.items) input.next 0 ∷ drop n (take input.held input.bytes.items)) more

-- a piece by its last byte
pub last_of_piece : (items piece : List ℕ) (count x : ℕ) → 0 < count → count ≤ length items → items ≡ piece → x ≡ get_or items (count - 1) x
    → take count piece ≡ take (count - 1) items ++ x ∷ []
last_of_piece items piece count x some within e last =
    let before : count - 1 < length items = omega arith in
    let all : count ≡ count - 1 + 1 = omega arith in
    ap (take count) (sym e) ∙ ap (λ n. take n items) all ∙ take_more items (count - 1) x before ∙ ap (λ y. take (count - 1) items ++ y ∷ []) (sym last)

-- the line end that is supplied
pub line_end_held : (items : List ℕ) → 0 < length items → take 1 (slice_set items 0 10) ≡ 10 ∷ []
line_end_held items some = take_more_set items 0 10 some
