-- What operations on the input read, one after the other.
use Rattle.std.proofs.Common.{◌≡◌, ℕ, zero, suc, List, [], ◌∷◌, ◌++◌, length, refl, ap, sym, ◌∙◌, subst, append-nil, arith}
use Rattle.std.proofs.Common.{Bool, true, false, Result, Ok, Err, inl, inr}
use Rattle.std.specs.Prelude.{ℤ, ◌||◌, if◌then◌else◌}
use Rattle.std.specs.Io.KnownBytes.{Appends}
use Rattle.text_input.specs.declared.InputFault.{InputFault}
use Rattle.text_input.specs.Input.{Reading, Reads as ReadsIt, Fails, Ends}
use Rattle.run_ports.specs.Seen.{Feeds}
use Rattle.run_ports.specs.declared.fault.ReadStop.{ReadStop}
use Rattle.run_ports.specs.declared.fault.ReadStop.TheVariants as read_stop
use Rattle.run_ports.specs.declared.ports.RunPorts.{RunPorts}
use Rattle.run_ports.specs.Feeding.{Source, Tail, MayGo, Ended, Failed, MayGive, Each, behind, before_calls, failed_calls, failing, fails_of, is_ended}
use Rattle.run_ports.specs.Feeding.{joined, last_call, left}
use Rattle.run_ports.specs.Ports.{Ports, Offers, piece_of}
use Rattle.run_ports.specs.Reads.{Answers, GoesOutAs, Reads, lost_in, read_failures_in}
use Rattle.run_ports.specs.Steps.{InputTakes}
use Rattle.run_ports.specs.Wanted.{read_with}
use Rattle.run_ports.proofs.Calls.{Each-map, Follows, Gave-then, behind-behind, calls-then, ended-then, failed-then, joined-append, joined-calls, may_first}
use Rattle.run_ports.proofs.Calls.{may_second, needed-then, tail_then}
use Rattle.run_ports.proofs.Written.{Appends-then, Offers-then}

-- the same calls, for another reading and its answer
pub Reads-as : {A B : Type 0} (r : Bool → List ℕ → Reading A) (t : Bool → List ℕ → Reading B) (x : Result A ReadStop) (y : Result B ReadStop)
    (old new : RunPorts) (a b : Feeds) (before after : Ports) → read_failures_in y ≡ read_failures_in x → lost_in y ≡ lost_in x
    → ((fails : Bool) (xs rest : List ℕ) → Answers x (r fails xs) fails rest → Answers y (t fails xs) fails rest)
    → ((xs : List ℕ) → r true xs ≡ Ends → t true xs ≡ Ends) → Reads r x old new a b before after → Reads t y old new a b before after
Reads-as r t x y old new a b before after failed lost answers ends h = record {
  pieces = h.pieces;
  tail = h.tail;
  gave = h.gave;
  answers = λ source may.
      answers (fails_of old.input source) (left old.input (behind (joined h.pieces) source)) (left new.input source) (h.answers source may);
  needed = Each-map (λ given. r true (left old.input (failing given)) ≡ Ends) (λ given. t true (left old.input (failing given)) ≡ Ends)
      (λ given. ends (left old.input (failing given))) (before_calls [] (h.pieces ++ last_call h.tail)) h.needed;
  at_end = h.at_end;
  once = h.once;
  failed = h.failed ∙ sym failed;
  out = subst (λ n. GoesOutAs n (h.pieces ++ last_call h.tail) before after) (sym lost) h.out;
}

-- where one reading stops, the other does
pub record Begins {A B : Type 0} (r : Bool → List ℕ → Reading A) (t : Bool → List ℕ → Reading B) : Type 0 where
  pub faults : (fails : Bool) (xs : List ℕ) (fault : InputFault) → r fails xs ≡ Fails fault → t fails xs ≡ Fails fault
  pub ends : (fails : Bool) (xs : List ℕ) → r fails xs ≡ Ends → t fails xs ≡ Ends

-- the first operation stops
pub Reads-stops : {A B : Type 0} (r : Bool → List ℕ → Reading A) (t : Bool → List ℕ → Reading B) (e : ReadStop) (old new : RunPorts) (a b : Feeds)
    (before after : Ports) → Begins r t → Reads r (Err e) old new a b before after → Reads t (Err e) old new a b before after
Reads-stops {A} {B} r t (read_stop.Input fault) old new a b before after begins h =
    let answers : (fails : Bool) (xs rest : List ℕ) → Answers {A = A} (Err (read_stop.Input fault)) (r fails xs) fails rest
    → Answers {A = B} (Err (read_stop.Input fault)) (t fails xs) fails rest =
    λ fails xs rest x. elim x [ inl e ↦ inl (begins.faults fails xs fault e) | inr e ↦ inr (begins.ends fails xs e.0, e.1, e.2) ] in
    Reads-as r t (Err (read_stop.Input fault)) (Err (read_stop.Input fault)) old new a b before after refl refl answers (begins.ends true) h
Reads-stops r t read_stop.ReadFailed old new a b before after begins h =
    Reads-as r t (Err read_stop.ReadFailed) (Err read_stop.ReadFailed) old new a b before after refl refl
    (λ fails xs rest x. (begins.ends fails xs x.0, x.1)) (begins.ends true) h
Reads-stops r t read_stop.WriteFailed old new a b before after begins h =
    Reads-as r t (Err read_stop.WriteFailed) (Err read_stop.WriteFailed) old new a b before after refl refl (λ fails xs rest x. tt) (begins.ends true) h

-- what is read is made a number
pub With-told : {A : Type 0} (f : A → ℤ) (r : Bool → List ℕ → Reading A) (value : A) (old new : RunPorts) (a b : Feeds) (before after : Ports)
    → Reads r (Ok value) old new a b before after → Reads (λ fails bytes. read_with f (r fails bytes)) (Ok (f value)) old new a b before after
With-told f r value old new a b before after h =
    let t : Bool → List ℕ → Reading ℤ = λ fails bytes. read_with f (r fails bytes) in
    Reads-as r t (Ok value) (Ok (f value)) old new a b before after refl refl (λ fails xs rest e. ap (read_with f) e) (λ xs e. ap (read_with f) e) h

pub With-stops : {A : Type 0} (f : A → ℤ) (r : Bool → List ℕ → Reading A) (why : ReadStop) (old new : RunPorts) (a b : Feeds) (before after : Ports)
    → Reads r (Err why) old new a b before after → Reads (λ fails bytes. read_with f (r fails bytes)) (Err why) old new a b before after
With-stops f r why old new a b before after h =
    let t : Bool → List ℕ → Reading ℤ = λ fails bytes. read_with f (r fails bytes) in
    Reads-stops r t why old new a b before after (record { faults = λ fails xs fault e. ap (read_with f) e; ends = λ fails xs e. ap (read_with f) e }) h

-- ---- the output

goes_then : (n : ℕ) (xs ys : List (List ℕ)) (a b c : Ports) → GoesOutAs 0 xs a b → GoesOutAs n ys b c → GoesOutAs n (xs ++ ys) a c
goes_then n [] ys a b c h k = subst (λ p. GoesOutAs n ys p c) h k
goes_then zero (x ∷ xs) [] a b c h k =
    subst (λ p. (p.held ≡ []) × Appends a.known p.known a.held × Offers a.offered p.offered (piece_of (length a.held))) (sym k) h
goes_then zero (x ∷ xs) (y ∷ ys) a b c h k = (
  k.0,
  subst (Appends a.known c.known) (append-nil a.held)
      (Appends-then a.known b.known c.known a.held [] h.1 (subst (Appends b.known c.known) h.0 k.1)),
  subst (Offers a.offered c.offered) (append-nil (piece_of (length a.held)))
      (Offers-then a.offered b.offered c.offered (piece_of (length a.held)) [] h.2 (subst (λ l. Offers b.offered c.offered (piece_of (length l))) h.0 k.2)),
)
goes_then (suc n) (x ∷ xs) ys a b c h k = let none = ap length h.0 in absurd (omega (arith, k.2, none))

-- ---- the end

or_true : (b : Bool) → (b || true) ≡ true
or_true true = refl
or_true false = refl

pub or_false : (b : Bool) → (b || false) ≡ b
or_false true = refl
or_false false = refl

or_assoc : (a b c : Bool) → ((a || b) || c) ≡ (a || (b || c))
or_assoc true b c = refl
or_assoc false b c = refl

-- a reader that isn't at its end and didn't fail may go
goes : (end : Bool) (tail : Tail) → false ≡ (end || is_ended tail) → failed_calls tail ≡ 0 → (end ≡ false) × (tail ≡ MayGo)
goes true tail e f = cc
goes false MayGo e f = (refl, refl)
goes false Ended e f = cc
goes false Failed e f = absurd (omega (arith, f))

pub no_failure : (b : Bool) → (if b then false else false) ≡ false
no_failure true = refl
no_failure false = refl

-- that a byte is missing behind a failure is told the same behind some calls
same_fails : (old new : RunPorts) (tail : Tail) (given : List ℕ) (source : Source) → new.input.is_at_end ≡ (old.input.is_at_end || is_ended tail)
    → failed_calls tail ≡ 0 → MayGive tail (behind given source) → fails_of new.input source ≡ fails_of old.input source
same_fails old new MayGo given source e f may = ap (λ b. if b then false else source.fails) (e ∙ or_false old.input.is_at_end)
same_fails old new Ended given source e f may =
    let never : source.fails ≡ false = ap (λ s. s.fails) may in
    ap (λ b. if new.input.is_at_end then false else b) never ∙ no_failure new.input.is_at_end ∙ sym (no_failure old.input.is_at_end)
    ∙ ap (λ b. if old.input.is_at_end then false else b) (sym never)
same_fails old new Failed given source e f may = absurd (omega (arith, f))

-- ---- an operation, and then another

module _ {A B : Type 0} (r : Bool → List ℕ → Reading A) (c t : Bool → List ℕ → Reading B) (v : A) (y : Result B ReadStop) (old mid new : RunPorts)
    (f0 f1 f2 : Feeds) (p0 p1 p2 : Ports) (begins : Begins r t)
    (goes_on : (fails : Bool) (xs rest : List ℕ) → r fails xs ≡ ReadsIt v rest → t fails xs ≡ c fails rest)
    (h : Reads r (Ok v) old mid f0 f1 p0 p1) (k : Reads c y mid new f1 f2 p1 p2) where
  follows : Follows h.tail k.pieces k.tail
  follows = record { unfailed = h.failed; once = λ e. k.once (h.at_end ∙ ap (λ b. old.input.is_at_end || b) e ∙ or_true old.input.is_at_end) }

  calls : (h.pieces ++ k.pieces) ++ last_call (tail_then h.tail k.tail) ≡ (h.pieces ++ last_call h.tail) ++ (k.pieces ++ last_call k.tail)
  calls = calls-then h.pieces k.pieces h.tail k.tail follows

  abbrev Needed : List (List ℕ) → Type 0
  Needed pieces = Each (λ given. t true (left old.input (failing given)) ≡ Ends) (before_calls [] pieces)

  needed_behind : mid.input.is_at_end ≡ false → (given : List ℕ) → c true (left mid.input (failing given)) ≡ Ends
      → t true (left old.input (failing (joined (h.pieces ++ last_call h.tail) ++ given))) ≡ Ends
  needed_behind e given n =
      let may = goes old.input.is_at_end h.tail (sym e ∙ h.at_end) h.failed in
      let first = h.answers (failing given) (subst (λ tail. MayGive tail (failing given)) (sym may.1) tt) in
      let told : fails_of old.input (failing given) ≡ true = ap (λ b. if b then false else true) may.0 in
      let step = goes_on (fails_of old.input (failing given)) (left old.input (behind (joined h.pieces) (failing given)))
      (left mid.input (failing given)) first in
      ap (λ l. t true (left old.input (failing (l ++ given)))) (joined-calls h.pieces h.tail)
      ∙ ap (λ b. t b (left old.input (behind (joined h.pieces) (failing given)))) (sym told) ∙ step ∙ ap (λ b. c b (left mid.input (failing given))) told ∙ n

  needed_as : (end : Bool) → mid.input.is_at_end ≡ end → Needed ((h.pieces ++ last_call h.tail) ++ (k.pieces ++ last_call k.tail))
  needed_as true e =
      subst (λ l. Needed ((h.pieces ++ last_call h.tail) ++ l)) (sym (k.once e))
      (subst Needed (sym (append-nil (h.pieces ++ last_call h.tail)))
      (Each-map (λ given. r true (left old.input (failing given)) ≡ Ends) (λ given. t true (left old.input (failing given)) ≡ Ends)
      (λ given. begins.ends true (left old.input (failing given))) (before_calls [] (h.pieces ++ last_call h.tail)) h.needed))
  needed_as false e =
      needed-then (λ given. r true (left old.input (failing given)) ≡ Ends) (λ given. c true (left mid.input (failing given)) ≡ Ends)
      (λ given. t true (left old.input (failing given)) ≡ Ends) (h.pieces ++ last_call h.tail) (k.pieces ++ last_call k.tail)
      (λ given. begins.ends true (left old.input (failing given))) (needed_behind e) h.needed k.needed

  answers_then : (source : Source) → MayGive (tail_then h.tail k.tail) source
      → Answers y (t (fails_of old.input source) (left old.input (behind (joined (h.pieces ++ k.pieces)) source))) (fails_of old.input source)
      (left new.input source)
  answers_then source may =
      let second = may_second k.pieces h.tail k.tail source follows may in
      let first = may_first k.pieces h.tail k.tail source follows may in
      let between = behind (joined k.pieces) source in
      let step = goes_on (fails_of old.input source) (left old.input (behind (joined h.pieces) between)) (left mid.input between) (h.answers between first) in
      let told = same_fails old mid h.tail (joined k.pieces) source h.at_end h.failed first in
      let all : behind (joined (h.pieces ++ k.pieces)) source ≡ behind (joined h.pieces) between =
      ap (λ l. behind l source) (joined-append h.pieces k.pieces) ∙ behind-behind (joined h.pieces) (joined k.pieces) source in
      subst (λ s. Answers y (t (fails_of old.input source) (left old.input s)) (fails_of old.input source) (left new.input source)) (sym all)
      (subst (λ x. Answers y x (fails_of old.input source) (left new.input source)) (sym step)
      (subst (λ b. Answers y (c b (left mid.input between)) b (left new.input source)) told (k.answers source second)))

  no_more_calls : old.input.is_at_end ≡ true → (h.pieces ++ k.pieces) ++ last_call (tail_then h.tail k.tail) ≡ []
  no_more_calls e =
      let ended : mid.input.is_at_end ≡ true = h.at_end ∙ ap (λ b. b || is_ended h.tail) e in
      calls ∙ ap (λ l. l ++ (k.pieces ++ last_call k.tail)) (h.once e) ∙ k.once ended

  pub Reads-then : Reads t y old new f0 f2 p0 p2
  Reads-then = record {
    pieces = h.pieces ++ k.pieces;
    tail = tail_then h.tail k.tail;
    gave = Gave-then f0 f1 f2 h.pieces k.pieces h.tail k.tail follows h.gave k.gave;
    answers = answers_then;
    needed = subst Needed (sym calls) (needed_as mid.input.is_at_end refl);
    at_end = k.at_end ∙ ap (λ b. b || is_ended k.tail) h.at_end ∙ or_assoc old.input.is_at_end (is_ended h.tail) (is_ended k.tail)
        ∙ ap (λ b. old.input.is_at_end || b) (sym (ended-then k.pieces h.tail k.tail follows));
    once = no_more_calls;
    failed = failed-then k.pieces h.tail k.tail follows ∙ k.failed;
    out = subst (λ l. GoesOutAs (lost_in y) l p0 p2) (sym calls)
        (goes_then (lost_in y) (h.pieces ++ last_call h.tail) (k.pieces ++ last_call k.tail) p0 p1 p2 h.out k.out);
  }

-- an operation, and then the next byte is gone
pub Reads-takes : {A B : Type 0} (r : Bool → List ℕ → Reading A) (t : Bool → List ℕ → Reading B) (v : A) (w : B) (old mid new : RunPorts) (a b : Feeds)
    (before after : Ports) → InputTakes mid.input new.input
    → ((fails : Bool) (xs rest : List ℕ) (byte : ℕ) → r fails xs ≡ ReadsIt v (byte ∷ rest) → t fails xs ≡ ReadsIt w rest)
    → ((xs : List ℕ) → r true xs ≡ Ends → t true xs ≡ Ends) → Reads r (Ok v) old mid a b before after → Reads t (Ok w) old new a b before after
Reads-takes r t v w old mid new a b before after takes answers ends h = record {
  pieces = h.pieces;
  tail = h.tail;
  gave = h.gave;
  answers = λ source may.
      answers (fails_of old.input source) (left old.input (behind (joined h.pieces) source)) (left new.input source) takes.byte
      (h.answers source may ∙ ap (ReadsIt v) (takes.rest source));
  needed = Each-map (λ given. r true (left old.input (failing given)) ≡ Ends) (λ given. t true (left old.input (failing given)) ≡ Ends)
      (λ given. ends (left old.input (failing given))) (before_calls [] (h.pieces ++ last_call h.tail)) h.needed;
  at_end = takes.at_end ∙ h.at_end;
  once = h.once;
  failed = h.failed;
  out = h.out;
}

-- what is read from the first state on is what another reading reads from the second on
abbrev pub Continues : {A : Type 0} → (Bool → List ℕ → Reading A) → (Bool → List ℕ → Reading A) → RunPorts → RunPorts → Feeds → Feeds → Ports → Ports → Type 0
Continues {A} t c old mid f0 f1 p0 p1 =
    (y : Result A ReadStop) (new : RunPorts) (f2 : Feeds) (p2 : Ports) → Reads c y mid new f1 f2 p1 p2 → Reads t y old new f0 f2 p0 p2
