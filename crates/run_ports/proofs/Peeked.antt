-- The next byte is looked at: it is held, or the output goes out and the reader is called.
use Rattle.std.proofs.Common.{◌≡◌, ℕ, ℤ, pos, ◌+◌, ◌<◌, zero, suc, List, [], ◌∷◌, ◌++◌, length, take, drop, refl, ap, sym, ◌∙◌, subst, arith}
use Rattle.std.proofs.Common.{Bool, true, false, Option, None, Some, Result, Ok, Err, inr}
use Rattle.std.specs.Prelude.{◌||◌, if◌then◌else◌, nat_eq, MatchOption, is_none, is_some, not}
use Rattle.std.proofs.lemmas.List.{length-take-le}
use Rattle.std.proofs.lemmas.Bool.Decides.{nat_tests}
use Rattle.std.specs.Io.KnownBytes.{Appends}
use mir.Val.{bool_byte}
use Rattle.text_input.specs.declared.InputFault.{InputFault}
use Rattle.text_input.specs.declared.InputFault.TheVariants.{EndOfInput}
use Rattle.text_input.specs.Input.{Reading, Reads as ReadsIt, Fails, Ends}
use Rattle.run_ports.specs.Seen.{Feeds, Sunk}
use Rattle.run_ports.specs.declared.fault.ReadStop.{ReadStop}
use Rattle.run_ports.specs.declared.fault.ReadStop.TheVariants as read_stop
use Rattle.run_ports.specs.declared.input.Input.{Input}
use Rattle.run_ports.specs.declared.ports.RunPorts.{RunPorts}
use Rattle.run_ports.specs.Feeding.{Source, Tail, MayGo, Ended, Failed, MayGive, Each, behind, before_calls, coming, failed_calls, failing, fails_of}
use Rattle.run_ports.specs.Feeding.{is_ended, joined, last_call, left, window}
use Rattle.run_ports.specs.declared.output.Output.{Output}
use Rattle.run_ports.specs.Output.{held_by, ports}
use Rattle.run_ports.specs.Ports.{Ports, Loses, Offers, piece_of}
use Rattle.run_ports.specs.Reads.{Answers, GoesOutAs, Reads, lost_in, read_failures_in}
use Rattle.run_ports.specs.Steps.{Fills, looked_at, peeked}
use Rattle.run_ports.specs.Wanted.{one_if, read_wanted}
use Rattle.run_ports.specs.declared.wanted.Wanted.TheVariants as wanted
use Rattle.run_ports.proofs.Calls.{Gave-none}
use Rattle.run_ports.proofs.Filled.{left-ended, left-goes, window-none}
use Rattle.run_ports.proofs.Reading.{Begins, Reads-as, Reads-stops, or_false}

-- what is held of an input: no byte, or this one before others
abbrev pub IsFirst : Option ℕ → Input → Type 0
IsFirst byte input =
    MatchOption byte (input.next ≡ input.held)
    (λ byte. (window input ≡ byte ∷ drop (input.next + 1) (take input.held input.bytes.items)) × (input.next < input.held))

-- no byte is held, and the reader isn't at its end
abbrev pub spent_of : Input → Bool
spent_of input = if input.is_at_end then false else nat_eq input.next input.held

never : (b : Bool) → b ≡ true → b ≡ false → ⊥
never b e f = cc

-- ---- no call

some : (n : ℕ) → (n ≡ 0 → false ≡ true) → 0 < n
some zero h = let e : false ≡ true = h refl in cc
some (suc n) h = omega arith

end_known : (end spent : Bool) → (if end then false else spent) ≡ false → spent ≡ true → end ≡ true
end_known true spent e f = refl
end_known false spent e f = cc

peeked_held : (byte : Option ℕ) (input : Input) (source : Source) → spent_of input ≡ false → IsFirst byte input
    → peeked (fails_of input source) (left input source) ≡ ReadsIt byte (left input source)
peeked_held (Some byte) input source spent h =
    let rest = drop (input.next + 1) (take input.held input.bytes.items) in
    let all : left input source ≡ byte ∷ (rest ++ coming input source) = ap (λ l. l ++ coming input source) h.0 in
    ap (peeked (fails_of input source)) all ∙ ap (ReadsIt (Some byte)) (sym all)
peeked_held None input source spent h =
    let none = window-none input h in
    let same : nat_eq input.next input.held ≡ true = grind (arith, nat_tests) in
    let ended = end_known input.is_at_end (nat_eq input.next input.held) spent same in
    let all = left-ended input [] source none ended in
    ap (λ b. peeked (if b then false else source.fails) (left input source)) ended ∙ ap (peeked false) all ∙ ap (ReadsIt None) (sym all)

-- the byte that is held, or none at the end
pub Peek-held : (byte : Option ℕ) (run : RunPorts) (a : Feeds) (before : Ports)
    → spent_of run.input ≡ false → IsFirst byte run.input
    → Reads peeked (Ok byte) run run a a before before
Peek-held byte run a before spent h = record {
  pieces = [];
  tail = MayGo;
  gave = Gave-none a;
  answers = λ source may. peeked_held byte run.input source spent h;
  needed = tt;
  at_end = sym (or_false run.input.is_at_end);
  once = λ e. refl;
  failed = refl;
  out = refl;
}

-- the writer failed
pub Peek-lost : (old new : RunPorts) (a : Feeds) (before after : Ports) → new.input ≡ old.input → 0 < length before.held
    → Loses before.known after.known before.held → Reads peeked (Err read_stop.WriteFailed) old new a a before after
Peek-lost old new a before after same some lost = record {
  pieces = [];
  tail = MayGo;
  gave = Gave-none a;
  answers = λ source may. tt;
  needed = tt;
  at_end = ap (λ i. i.is_at_end) same ∙ sym (or_false old.input.is_at_end);
  once = λ e. refl;
  failed = refl;
  out = (refl, lost, some);
}

-- ---- a call

spent_goes : (end n : Bool) → (if end then false else n) ≡ true → (end ≡ false) × (n ≡ true)
spent_goes true n e = cc
spent_goes false n e = (refl, e)

spent_none : (input : Input) → spent_of input ≡ true → window input ≡ []
spent_none input e =
    let same = (spent_goes input.is_at_end (nat_eq input.next input.held) e).1 in
    window-none input (grind (arith, nat_tests))

pub spent_is : (input : Input) → spent_of input ≡ true → (input.is_at_end ≡ false) × (input.next ≡ input.held)
spent_is input e =
    let both = spent_goes input.is_at_end (nat_eq input.next input.held) e in
    let same = both.1 in
    (both.0, grind (arith, nat_tests))

-- all that was held back went out
pub record Out (before after : Ports) : Type 0 where
  pub none : after.held ≡ []
  pub grew : Appends before.known after.known before.held
  pub offers : Offers before.offered after.offered (piece_of (length before.held))

-- so many bytes are held
held_long : (output : Output) → output.held < output.bytes.len → length (held_by output) ≡ output.held
held_long output h =
    let items = output.bytes.ok.0 in
    length-take-le output.held output.bytes.items (omega (arith, items, h))

-- where the writer took all
pub Out-is : (before after : Sunk) (old new : Output) → old.held < old.bytes.len → new.held ≡ 0
    → Appends before.contents after.contents (held_by old) → Offers before.offered after.offered (piece_of old.held)
    → Out (ports before old) (ports after new)
Out-is before after old new few none grew offers = record {
  none = ap (λ n. take n new.bytes.items) none;
  grew = grew;
  offers = subst (λ n. Offers before.offered after.offered (piece_of n)) (sym (held_long old few)) offers;
}

-- the writer failed for some bytes
pub lost_some : (output : Output) → output.held < output.bytes.len → (output.held ≡ 0 → false ≡ true) → 0 < length (held_by output)
lost_some output few h = subst (λ n. 0 < n) (sym (held_long output few)) (some output.held h)

module _ (answer : Result (Unit {0}) ReadStop) (old new : RunPorts) (a b : Feeds) (before after : Ports) (f : Fills answer old.input new.input a b)
    (none : window old.input ≡ []) (goes : old.input.is_at_end ≡ false) (out : Out before after) where
  needed : Each (λ given. peeked true (left old.input (failing given)) ≡ Ends) (before_calls [] (f.pieces ++ last_call f.tail))
  needed =
      subst (λ l. Each (λ given. peeked true (left old.input (failing given)) ≡ Ends) (before_calls [] l)) (sym f.once.1)
      (ap (peeked true) (left-goes old.input [] (failing []) none goes), tt)

  went : GoesOutAs 0 (f.pieces ++ last_call f.tail) before after
  went = subst (λ l. GoesOutAs 0 l before after) (sym f.once.1) (out.none, out.grew, out.offers)

  told : (source : Source) → fails_of old.input source ≡ source.fails
  told source = ap (λ b. if b then false else source.fails) goes

  -- what is left is what the reader gave
  same_left : (x : Result (Option ℕ) ReadStop) (source : Source) → MayGive f.tail source
      → Answers x (peeked source.fails (left new.input source)) source.fails (left new.input source)
      → Answers x (peeked (fails_of old.input source) (left old.input (behind (joined f.pieces) source))) (fails_of old.input source) (left new.input source)
  same_left x source may h =
      subst (λ l. Answers x (peeked (fails_of old.input source) l) (fails_of old.input source) (left new.input source)) (sym (f.same source may))
      (subst (λ b. Answers x (peeked b (left new.input source)) b (left new.input source)) (sym (told source)) h)

  peeked_as : (x : Result (Option ℕ) ReadStop) → failed_calls f.tail ≡ read_failures_in x → lost_in x ≡ 0
      → ((source : Source) → MayGive f.tail source → Answers x (peeked source.fails (left new.input source)) source.fails (left new.input source))
      → Reads peeked x old new a b before after
  peeked_as x failed kept answers = record {
    pieces = f.pieces;
    tail = f.tail;
    gave = f.gave;
    answers = λ source may. same_left x source may (answers source may);
    needed = needed;
    at_end = f.at_end ∙ ap (λ b. b || is_ended f.tail) (sym goes);
    once = λ e. absurd (never old.input.is_at_end e goes);
    failed = failed;
    out = subst (λ n. GoesOutAs n (f.pieces ++ last_call f.tail) before after) (sym kept) went;
  }

peeked_given : (byte : Option ℕ) (input : Input) (tail : Tail) (source : Source) → input.is_at_end ≡ is_ended tail → failed_calls tail ≡ 0
    → (tail ≡ MayGo → input.next < input.held) → IsFirst byte input → MayGive tail source
    → peeked source.fails (left input source) ≡ ReadsIt byte (left input source)
peeked_given (Some byte) input tail source end failed some h may =
    let rest = drop (input.next + 1) (take input.held input.bytes.items) in
    let all : left input source ≡ byte ∷ (rest ++ coming input source) = ap (λ l. l ++ coming input source) h.0 in
    ap (peeked source.fails) all ∙ ap (ReadsIt (Some byte)) (sym all)
peeked_given None input MayGo source end failed some h may = absurd (omega (arith, some refl, h))
peeked_given None input Ended source end failed some h may =
    let all = left-ended input [] source (window-none input h) end in
    ap (λ b. peeked b (left input source)) (ap (λ s. s.fails) may) ∙ ap (peeked false) all ∙ ap (ReadsIt None) (sym all)
peeked_given None input Failed source end failed some h may = absurd (omega (arith, failed))

-- the reader gave bytes, or is at its end
pub Peek-filled : (byte : Option ℕ) (old new : RunPorts) (a b : Feeds) (before after : Ports) → Fills (Ok tt) old.input new.input a b
    → spent_of old.input ≡ true → Out before after → IsFirst byte new.input → Reads peeked (Ok byte) old new a b before after
Peek-filled byte old new a b before after f spent out h =
    peeked_as (Ok tt) old new a b before after f (spent_none old.input spent) (spent_is old.input spent).0 out (Ok byte) f.failed refl
    (λ source may. peeked_given byte new.input f.tail source f.at_end f.failed f.held h may)

peeked_failed : (input : Input) (tail : Tail) (source : Source) → input.is_at_end ≡ is_ended tail → failed_calls tail ≡ 1 → (tail ≡ Failed → window input ≡ [])
    → MayGive tail source → (peeked source.fails (left input source) ≡ Ends) × (source.fails ≡ true)
peeked_failed input MayGo source end failed none may = absurd (omega (arith, failed))
peeked_failed input Ended source end failed none may = absurd (omega (arith, failed))
peeked_failed input Failed source end failed none may =
    let all : left input (failing []) ≡ [] = left-goes input [] (failing []) (none refl) end in
    (ap (λ s. peeked s.fails (left input s)) may ∙ ap (peeked true) all, ap (λ s. s.fails) may)

-- the reader failed
pub Peek-failed : (e : ReadStop) (old new : RunPorts) (a b : Feeds) (before after : Ports) → e ≡ read_stop.ReadFailed → Fills (Err e) old.input new.input a b
    → spent_of old.input ≡ true → Out before after → Reads peeked (Err e) old new a b before after
Peek-failed e old new a b before after is f spent out =
    let failed : Fills (Err read_stop.ReadFailed) old.input new.input a b = subst (λ x. Fills (Err x) old.input new.input a b) is f in
    subst (λ x. Reads peeked (Err x) old new a b before after) (sym is)
    (peeked_as (Err read_stop.ReadFailed) old new a b before after failed (spent_none old.input spent) (spent_is old.input spent).0 out
    (Err read_stop.ReadFailed)
    failed.failed refl (λ source may. peeked_failed new.input failed.tail source failed.at_end failed.failed failed.none may))

-- ---- a byte that is needed

peeked_faults : {A : Type 0} (t : Reading A) (fails : Bool) (xs : List ℕ) (fault : InputFault) → peeked fails xs ≡ Fails fault → t ≡ Fails fault
peeked_faults t true [] fault e = cc
peeked_faults t false [] fault e = cc
peeked_faults t fails (x ∷ xs) fault e = cc

look_ends : (fails : Bool) (xs : List ℕ) → peeked fails xs ≡ Ends → looked_at xs ≡ Ends
look_ends fails [] e = refl
look_ends fails (x ∷ xs) e = cc

looks : Begins peeked (λ fails. looked_at)
looks = record { faults = λ fails xs. peeked_faults (looked_at xs) fails xs; ends = look_ends }

look_some : (byte : ℕ) (fails : Bool) (xs rest : List ℕ) → peeked fails xs ≡ ReadsIt (Some byte) rest → looked_at xs ≡ ReadsIt byte rest
look_some byte true [] rest e = cc
look_some byte false [] rest e = cc
look_some byte fails (x ∷ xs) rest e = cc

look_none : (fails : Bool) (xs rest : List ℕ) → peeked fails xs ≡ ReadsIt None rest
    → Answers {A = ℕ} (Err (read_stop.Input EndOfInput)) (looked_at xs) fails rest
look_none true [] rest e = cc
look_none false [] rest e = inr (refl, refl, refl)
look_none fails (x ∷ xs) rest e = cc

pub Look-some : (byte : ℕ) (old new : RunPorts) (a b : Feeds) (before after : Ports) → Reads peeked (Ok (Some byte)) old new a b before after
    → Reads (λ fails. looked_at) (Ok byte) old new a b before after
Look-some byte old new a b before after h =
    Reads-as peeked (λ fails. looked_at) (Ok (Some byte)) (Ok byte) old new a b before after refl refl (look_some byte) (look_ends true) h

-- nothing is left
pub Look-none : (old new : RunPorts) (a b : Feeds) (before after : Ports) → Reads peeked (Ok None) old new a b before after
    → Reads (λ fails. looked_at) (Err (read_stop.Input EndOfInput)) old new a b before after
Look-none old new a b before after h =
    Reads-as peeked (λ fails. looked_at) (Ok None) (Err (read_stop.Input EndOfInput)) old new a b before after refl refl look_none (look_ends true) h

pub Look-stops : (e : ReadStop) (old new : RunPorts) (a b : Feeds) (before after : Ports) → Reads peeked (Err e) old new a b before after
    → Reads (λ fails. looked_at) (Err e) old new a b before after
Look-stops e old new a b before after h = Reads-stops peeked (λ fails. looked_at) e old new a b before after looks h

-- ---- the end

end_ends : (fails : Bool) (xs : List ℕ) → peeked fails xs ≡ Ends → read_wanted wanted.End fails xs ≡ Ends
end_ends true [] e = refl
end_ends false [] e = cc
end_ends fails (x ∷ xs) e = cc

end_faults : (fails : Bool) (xs : List ℕ) (fault : InputFault) → peeked fails xs ≡ Fails fault → read_wanted wanted.End fails xs ≡ Fails fault
end_faults fails xs fault e = peeked_faults (read_wanted wanted.End fails xs) fails xs fault e

end_told : (byte : Option ℕ) (fails : Bool) (xs rest : List ℕ) → peeked fails xs ≡ ReadsIt byte rest
    → read_wanted wanted.End fails xs ≡ ReadsIt (one_if (is_none byte)) rest
end_told byte true [] rest e = cc
end_told None false [] rest e = cc
end_told (Some byte) false [] rest e = cc
end_told None fails (x ∷ xs) rest e = cc
end_told (Some byte) fails (x ∷ xs) rest e = cc

end_is : (byte : Option ℕ) (told : Bool) → is_some byte ≡ not told → one_if (is_none byte) ≡ pos (bool_byte told)
end_is None true e = refl
end_is None false e = cc
end_is (Some byte) true e = cc
end_is (Some byte) false e = refl

pub End-told : (byte : Option ℕ) (told : Bool) (n : ℤ) (old new : RunPorts) (a b : Feeds) (before after : Ports) → is_some byte ≡ not told
    → n ≡ pos (bool_byte told) → Reads peeked (Ok byte) old new a b before after → Reads (read_wanted wanted.End) (Ok n) old new a b before after
End-told byte told n old new a b before after e number h =
    subst (λ x. Reads (read_wanted wanted.End) (Ok x) old new a b before after) (end_is byte told e ∙ sym number)
    (Reads-as peeked (read_wanted wanted.End) (Ok byte) (Ok (one_if (is_none byte))) old new a b before after refl refl (end_told byte) (end_ends true) h)

pub End-stops : (e : ReadStop) (old new : RunPorts) (a b : Feeds) (before after : Ports) → Reads peeked (Err e) old new a b before after
    → Reads (read_wanted wanted.End) (Err e) old new a b before after
End-stops e old new a b before after h =
    Reads-stops peeked (read_wanted wanted.End) e old new a b before after (record { faults = end_faults; ends = end_ends }) h
