-- What is read of the next byte, which is looked at or taken.
use Rattle.std.proofs.Common.{◌≡◌, ℕ, ℤ, pos, ◌+◌, ◌-◌, ◌*◌, ◌<◌, ◌≤◌, List, [], ◌∷◌, refl, ap, sym, ◌∙◌, subst, arith}
use Rattle.std.proofs.Common.{Bool, true, false, Result, Ok, Err, ◌⊎◌, inl, inr}
use Rattle.std.specs.Prelude.{if◌then◌else◌, nat_eq, nat_le}
use Rattle.std.proofs.lemmas.Bool.Decides.{nat_tests}
use mir.Val.{bool_byte}
use Rattle.text_input.specs.declared.InputFault.{InputFault}
use Rattle.text_input.specs.declared.InputFault.TheVariants.{NotACharacter, NotANumber}
use Rattle.text_input.specs.Input.{Reading, Reads as ReadsIt, Fails, Ends, digits, is_blank, is_digit, number, read_character, read_integer, read_line}
use Rattle.text_input.specs.Input.{read_eoln, signed_at, unsigned_at}
use Rattle.run_ports.specs.Seen.{Feeds}
use Rattle.run_ports.specs.declared.fault.ReadStop.{ReadStop}
use Rattle.run_ports.specs.declared.ports.RunPorts.{RunPorts}
use Rattle.run_ports.specs.Ports.{Ports}
use Rattle.run_ports.specs.Reads.{Answers, Reads, lost_in, read_failures_in}
use Rattle.run_ports.specs.Steps.{InputTakes, byte_taken, looked_at, sign_taken}
use Rattle.run_ports.specs.Wanted.{one_if, read_with}
use Rattle.run_ports.proofs.Reading.{Begins, Reads-as, Reads-stops, Reads-takes, Reads-then}

-- ---- what a reading has

abbrev read_value : {A : Type 0} → A → Reading A → A
read_value a (ReadsIt value rest) = value
read_value a (Fails fault) = a
read_value a Ends = a

abbrev read_rest : {A : Type 0} → Reading A → List ℕ
read_rest (ReadsIt value rest) = rest
read_rest (Fails fault) = []
read_rest Ends = []

-- ---- the next byte is looked at

looked_faults : {A : Type 0} (t : List ℕ → Reading A) (xs : List ℕ) (fault : InputFault) → looked_at xs ≡ Fails fault → t xs ≡ Fails fault
looked_faults t [] fault e = cc
looked_faults t (x ∷ xs) fault e = cc

looked_ends : {A : Type 0} (t : List ℕ → Reading A) → t [] ≡ Ends → (xs : List ℕ) → looked_at xs ≡ Ends → t xs ≡ Ends
looked_ends t none [] e = none
looked_ends t none (x ∷ xs) e = cc

begins_looked : {A : Type 0} (t : List ℕ → Reading A) → t [] ≡ Ends → Begins (λ fails. looked_at) (λ fails. t)
begins_looked t none = record { faults = λ fails. looked_faults t; ends = λ fails. looked_ends t none }

looked_is : (byte : ℕ) (xs rest : List ℕ) → looked_at xs ≡ ReadsIt byte rest → (xs ≡ byte ∷ read_rest (byte_taken xs)) × (rest ≡ xs)
looked_is byte [] rest e = cc
looked_is byte (x ∷ xs) rest e = (ap (λ y. y ∷ xs) (ap (read_value 0) e), sym (ap read_rest e))

pub Looked-stops : {A : Type 0} (t : List ℕ → Reading A) (e : ReadStop) (old new : RunPorts) (a b : Feeds) (before after : Ports) → t [] ≡ Ends
    → Reads (λ fails. looked_at) (Err e) old new a b before after → Reads (λ fails. t) (Err e) old new a b before after
Looked-stops t e old new a b before after none h = Reads-stops (λ fails. looked_at) (λ fails. t) e old new a b before after (begins_looked t none) h

-- it tells the answer
pub Looked-as : {A : Type 0} (t : List ℕ → Reading A) (byte : ℕ) (y : Result A ReadStop) (old new : RunPorts) (a b : Feeds) (before after : Ports) → t [] ≡ Ends
    → read_failures_in y ≡ 0 → lost_in y ≡ 0 → ((fails : Bool) (xs : List ℕ) → Answers y (t (byte ∷ xs)) fails (byte ∷ xs))
    → Reads (λ fails. looked_at) (Ok byte) old new a b before after → Reads (λ fails. t) y old new a b before after
Looked-as t byte y old new a b before after none unfailed kept answers h =
    let told : (fails : Bool) (xs rest : List ℕ) → looked_at xs ≡ ReadsIt byte rest → Answers y (t xs) fails rest =
    λ fails xs rest e.
    let is = looked_is byte xs rest e in
    subst (λ l. Answers y (t xs) fails l) (sym is.1) (subst (λ l. Answers y (t l) fails l) (sym is.0) (answers fails (read_rest (byte_taken xs)))) in
    Reads-as (λ fails. looked_at) (λ fails. t) (Ok byte) y old new a b before after unfailed kept told (looked_ends t none) h

-- another reading goes on there
pub Looked-on : {A : Type 0} (c t : List ℕ → Reading A) (byte : ℕ) (y : Result A ReadStop) (old mid new : RunPorts) (f0 f1 f2 : Feeds) (p0 p1 p2 : Ports)
    → t [] ≡ Ends → ((xs : List ℕ) → t (byte ∷ xs) ≡ c (byte ∷ xs)) → Reads (λ fails. looked_at) (Ok byte) old mid f0 f1 p0 p1
    → Reads (λ fails. c) y mid new f1 f2 p1 p2 → Reads (λ fails. t) y old new f0 f2 p0 p2
Looked-on c t byte y old mid new f0 f1 f2 p0 p1 p2 none goes_on h k =
    let told : (fails : Bool) (xs rest : List ℕ) → looked_at xs ≡ ReadsIt byte rest → t xs ≡ c rest =
    λ fails xs rest e.
    let is = looked_is byte xs rest e in
    ap t is.0 ∙ goes_on (read_rest (byte_taken xs)) ∙ ap c (sym is.0 ∙ sym is.1) in
    Reads-then (λ fails. looked_at) (λ fails. c) (λ fails. t) byte y old mid new f0 f1 f2 p0 p1 p2 (begins_looked t none) told h k

-- ---- the next byte is taken

taken_faults : {A : Type 0} (t : List ℕ → Reading A) (xs : List ℕ) (fault : InputFault) → byte_taken xs ≡ Fails fault → t xs ≡ Fails fault
taken_faults t [] fault e = cc
taken_faults t (x ∷ xs) fault e = cc

taken_ends : {A : Type 0} (t : List ℕ → Reading A) → t [] ≡ Ends → (xs : List ℕ) → byte_taken xs ≡ Ends → t xs ≡ Ends
taken_ends t none [] e = none
taken_ends t none (x ∷ xs) e = cc

begins_taken : {A : Type 0} (t : List ℕ → Reading A) → t [] ≡ Ends → Begins (λ fails. byte_taken) (λ fails. t)
begins_taken t none = record { faults = λ fails. taken_faults t; ends = λ fails. taken_ends t none }

taken_is : (byte : ℕ) (xs rest : List ℕ) → byte_taken xs ≡ ReadsIt byte rest → xs ≡ byte ∷ rest
taken_is byte [] rest e = cc
taken_is byte (x ∷ xs) rest e = ap (λ y. y ∷ xs) (ap (read_value 0) e) ∙ ap (λ l. byte ∷ l) (ap read_rest e)

take_looked : (byte : ℕ) (fails : Bool) (xs rest : List ℕ) (next : ℕ) → looked_at xs ≡ ReadsIt byte (next ∷ rest) → byte_taken xs ≡ ReadsIt byte rest
take_looked byte fails [] rest next e = cc
take_looked byte fails (x ∷ xs) rest next e = ap (λ y. ReadsIt y xs) (ap (read_value 0) e) ∙ ap (λ r. ReadsIt byte (read_rest (byte_taken (read_rest r)))) e

-- a byte that was looked at is taken
pub Taken-is : (byte : ℕ) (old mid new : RunPorts) (a b : Feeds) (before after : Ports) → InputTakes mid.input new.input
    → Reads (λ fails. looked_at) (Ok byte) old mid a b before after → Reads (λ fails. byte_taken) (Ok byte) old new a b before after
Taken-is byte old mid new a b before after takes h =
    Reads-takes (λ fails. looked_at) (λ fails. byte_taken) byte byte old mid new a b before after takes (take_looked byte) (looked_ends byte_taken refl) h

pub Taken-stops : {A : Type 0} (t : List ℕ → Reading A) (e : ReadStop) (old new : RunPorts) (a b : Feeds) (before after : Ports) → t [] ≡ Ends
    → Reads (λ fails. byte_taken) (Err e) old new a b before after → Reads (λ fails. t) (Err e) old new a b before after
Taken-stops t e old new a b before after none h = Reads-stops (λ fails. byte_taken) (λ fails. t) e old new a b before after (begins_taken t none) h

-- it tells the answer
pub Taken-as : {A : Type 0} (t : List ℕ → Reading A) (byte : ℕ) (y : Result A ReadStop) (old new : RunPorts) (a b : Feeds) (before after : Ports) → t [] ≡ Ends
    → read_failures_in y ≡ 0 → lost_in y ≡ 0 → ((fails : Bool) (xs : List ℕ) → Answers y (t (byte ∷ xs)) fails xs)
    → Reads (λ fails. byte_taken) (Ok byte) old new a b before after → Reads (λ fails. t) y old new a b before after
Taken-as t byte y old new a b before after none unfailed kept answers h =
    let told : (fails : Bool) (xs rest : List ℕ) → byte_taken xs ≡ ReadsIt byte rest → Answers y (t xs) fails rest =
    λ fails xs rest e. subst (λ l. Answers y (t l) fails rest) (sym (taken_is byte xs rest e)) (answers fails rest) in
    Reads-as (λ fails. byte_taken) (λ fails. t) (Ok byte) y old new a b before after unfailed kept told (taken_ends t none) h

-- another reading goes on behind it
pub Taken-on : {A : Type 0} (c t : List ℕ → Reading A) (byte : ℕ) (y : Result A ReadStop) (old mid new : RunPorts) (f0 f1 f2 : Feeds) (p0 p1 p2 : Ports)
    → t [] ≡ Ends → ((xs : List ℕ) → t (byte ∷ xs) ≡ c xs) → Reads (λ fails. byte_taken) (Ok byte) old mid f0 f1 p0 p1
    → Reads (λ fails. c) y mid new f1 f2 p1 p2 → Reads (λ fails. t) y old new f0 f2 p0 p2
Taken-on c t byte y old mid new f0 f1 f2 p0 p1 p2 none goes_on h k =
    let told : (fails : Bool) (xs rest : List ℕ) → byte_taken xs ≡ ReadsIt byte rest → t xs ≡ c rest =
    λ fails xs rest e. ap t (taken_is byte xs rest e) ∙ goes_on rest in
    Reads-then (λ fails. byte_taken) (λ fails. c) (λ fails. t) byte y old mid new f0 f1 f2 p0 p1 p2 (begins_taken t none) told h k

-- ---- a sign

sign_cases : (blank minus plus is_negative : Bool) (x : ℕ) (xs rest : List ℕ)
    → (sign_taken xs ≡ ReadsIt is_negative rest → read_integer xs ≡ unsigned_at is_negative rest)
    → (if blank then sign_taken xs else if minus then ReadsIt true xs else if plus then ReadsIt false xs else ReadsIt false (x ∷ xs)) ≡ ReadsIt is_negative rest
    → (if blank then read_integer xs else if minus then unsigned_at true xs else if plus then unsigned_at false xs else unsigned_at false (x ∷ xs))
    ≡ unsigned_at is_negative rest
sign_cases true minus plus is_negative x xs rest h e = h e
sign_cases false true plus is_negative x xs rest h e = ap (λ r. unsigned_at (read_value true r) (read_rest r)) e
sign_cases false false true is_negative x xs rest h e = ap (λ r. unsigned_at (read_value true r) (read_rest r)) e
sign_cases false false false is_negative x xs rest h e = ap (λ r. unsigned_at (read_value true r) (read_rest r)) e

-- digits are read behind it
sign_then : (is_negative : Bool) (xs rest : List ℕ) → sign_taken xs ≡ ReadsIt is_negative rest → read_integer xs ≡ unsigned_at is_negative rest
sign_then is_negative [] rest e = cc
sign_then is_negative (x ∷ xs) rest e =
    sign_cases (is_blank x) (nat_eq x 45) (nat_eq x 43) is_negative x xs rest (sign_then is_negative xs rest) e

sign_faults_in : (blank minus plus : Bool) (x : ℕ) (xs : List ℕ) (fault : InputFault) → (sign_taken xs ≡ Fails fault → ⊥)
    → (if blank then sign_taken xs else if minus then ReadsIt true xs else if plus then ReadsIt false xs else ReadsIt false (x ∷ xs)) ≡ Fails fault → ⊥
sign_faults_in true minus plus x xs fault h e = h e
sign_faults_in false true plus x xs fault h e = cc
sign_faults_in false false true x xs fault h e = cc
sign_faults_in false false false x xs fault h e = cc

sign_faults : (xs : List ℕ) (fault : InputFault) → sign_taken xs ≡ Fails fault → ⊥
sign_faults [] fault e = cc
sign_faults (x ∷ xs) fault e = sign_faults_in (is_blank x) (nat_eq x 45) (nat_eq x 43) x xs fault (sign_faults xs fault) e

sign_ends_in : (blank minus plus : Bool) (x : ℕ) (xs : List ℕ) → (sign_taken xs ≡ Ends → read_integer xs ≡ Ends)
    → (if blank then sign_taken xs else if minus then ReadsIt true xs else if plus then ReadsIt false xs else ReadsIt false (x ∷ xs)) ≡ Ends
    → (if blank then read_integer xs else signed_at x xs) ≡ Ends
sign_ends_in true minus plus x xs h e = h e
sign_ends_in false true plus x xs h e = cc
sign_ends_in false false true x xs h e = cc
sign_ends_in false false false x xs h e = cc

sign_ends : (xs : List ℕ) → sign_taken xs ≡ Ends → read_integer xs ≡ Ends
sign_ends [] e = refl
sign_ends (x ∷ xs) e = sign_ends_in (is_blank x) (nat_eq x 45) (nat_eq x 43) x xs (sign_ends xs) e

begins_sign : Begins (λ fails. sign_taken) (λ fails. read_integer)
begins_sign = record { faults = λ fails xs fault e. absurd (sign_faults xs fault e); ends = λ fails. sign_ends }

pub Sign-stops : (e : ReadStop) (old new : RunPorts) (a b : Feeds) (before after : Ports) → Reads (λ fails. sign_taken) (Err e) old new a b before after
    → Reads (λ fails. read_integer) (Err e) old new a b before after
Sign-stops e old new a b before after h = Reads-stops (λ fails. sign_taken) (λ fails. read_integer) e old new a b before after begins_sign h

pub Sign-then : (is_negative : Bool) (y : Result ℤ ReadStop) (old mid new : RunPorts) (f0 f1 f2 : Feeds) (p0 p1 p2 : Ports)
    → Reads (λ fails. sign_taken) (Ok is_negative) old mid f0 f1 p0 p1 → Reads (λ fails. unsigned_at is_negative) y mid new f1 f2 p1 p2
    → Reads (λ fails. read_integer) y old new f0 f2 p0 p2
Sign-then is_negative y old mid new f0 f1 f2 p0 p1 p2 h k =
    Reads-then (λ fails. sign_taken) (λ fails. unsigned_at is_negative) (λ fails. read_integer) is_negative y old mid new f0 f1 f2 p0 p1 p2 begins_sign
    (λ fails. sign_then is_negative) h k

-- ---- characters and lines

pub character_at_end : (byte : ℕ) (xs : List ℕ) → byte ≡ 10 → read_character (byte ∷ xs) ≡ ReadsIt 32 xs
character_at_end byte xs e = ap (λ b. read_character (b ∷ xs)) e

pub character_is : (byte : ℕ) (xs : List ℕ) → (byte ≡ 10 → ⊥) → byte ≤ 127 → read_character (byte ∷ xs) ≡ ReadsIt byte xs
character_is byte xs other within =
    let test : nat_eq byte 10 ≡ false = grind (arith, nat_tests) in
    let test' : nat_le byte 127 ≡ true = grind (arith, nat_tests) in
    ap (λ b. if b then ReadsIt 32 xs else if nat_le byte 127 then ReadsIt byte xs else Fails NotACharacter) test
    ∙ ap (λ b. if b then ReadsIt byte xs else Fails NotACharacter) test'

pub character_above : (byte : ℕ) (xs : List ℕ) → 127 < byte → read_character (byte ∷ xs) ≡ Fails NotACharacter
character_above byte xs above =
    let test : nat_eq byte 10 ≡ false = grind (arith, nat_tests) in
    let test' : nat_le byte 127 ≡ false = grind (arith, nat_tests) in
    ap (λ b. if b then ReadsIt 32 xs else if nat_le byte 127 then ReadsIt byte xs else Fails NotACharacter) test
    ∙ ap (λ b. if b then ReadsIt byte xs else Fails NotACharacter) test'

-- whether one ends, as a number
line_end_is : (b : Bool) → one_if b ≡ pos (bool_byte b)
line_end_is true = refl
line_end_is false = refl

pub line_end_told : (byte : ℕ) (n : ℤ) (xs : List ℕ) → n ≡ pos (bool_byte (nat_eq byte 10)) → read_with one_if (read_eoln (byte ∷ xs)) ≡ ReadsIt n (byte ∷ xs)
line_end_told byte n xs e = ap (λ m. ReadsIt m (byte ∷ xs)) (line_end_is (nat_eq byte 10) ∙ sym e)

pub line_ends : (byte : ℕ) (xs : List ℕ) → byte ≡ 10 → read_line (byte ∷ xs) ≡ ReadsIt tt xs
line_ends byte xs e = ap (λ b. read_line (b ∷ xs)) e

pub line_goes : (byte : ℕ) (xs : List ℕ) → (byte ≡ 10 → ⊥) → read_line (byte ∷ xs) ≡ read_line xs
line_goes byte xs other =
    let test : nat_eq byte 10 ≡ false = grind (arith, nat_tests) in
    ap (λ b. if b then ReadsIt tt xs else read_line xs) test

-- ---- signs and digits

pub blank_is : (byte : ℕ) → (byte ≡ 10) ⊎ (byte ≡ 32) → is_blank byte ≡ true
blank_is byte (inl e) = ap is_blank e
blank_is byte (inr e) = ap is_blank e

pub blank_taken : (byte : ℕ) (xs : List ℕ) → is_blank byte ≡ true → sign_taken (byte ∷ xs) ≡ sign_taken xs
blank_taken byte xs e =
    ap (λ b. if b then sign_taken xs else if nat_eq byte 45 then ReadsIt true xs else if nat_eq byte 43 then ReadsIt false xs else ReadsIt false (byte ∷ xs)) e

pub minus_taken : (byte : ℕ) (xs : List ℕ) → byte ≡ 45 → sign_taken (byte ∷ xs) ≡ ReadsIt true xs
minus_taken byte xs e = ap (λ b. sign_taken (b ∷ xs)) e

pub plus_taken : (byte : ℕ) (xs : List ℕ) → byte ≡ 43 → sign_taken (byte ∷ xs) ≡ ReadsIt false xs
plus_taken byte xs e = ap (λ b. sign_taken (b ∷ xs)) e

pub no_sign : (byte : ℕ) (xs : List ℕ) → (byte ≡ 32 → ⊥) → (byte ≡ 10 → ⊥) → (byte ≡ 45 → ⊥) → (byte ≡ 43 → ⊥)
    → sign_taken (byte ∷ xs) ≡ ReadsIt false (byte ∷ xs)
no_sign byte xs space end minus plus =
    let test : is_blank byte ≡ false = grind (arith, nat_tests) in
    let test' : nat_eq byte 45 ≡ false = grind (arith, nat_tests) in
    let test'' : nat_eq byte 43 ≡ false = grind (arith, nat_tests) in
    ap (λ b. if b then sign_taken xs else if nat_eq byte 45 then ReadsIt true xs else if nat_eq byte 43 then ReadsIt false xs else ReadsIt false
    (byte ∷ xs)) test
    ∙ ap (λ b. if b then ReadsIt true xs else if nat_eq byte 43 then ReadsIt false xs else ReadsIt false (byte ∷ xs)) test'
    ∙ ap (λ b. if b then ReadsIt false xs else ReadsIt false (byte ∷ xs)) test''

pub digit_taken : (is_negative : Bool) (n byte : ℕ) (xs : List ℕ) → is_digit byte ≡ true
    → digits is_negative n (byte ∷ xs) ≡ digits is_negative (n * 10 + (byte - 48)) xs
digit_taken is_negative n byte xs e =
    ap (λ b. if b then digits is_negative (n * 10 + (byte - 48)) xs else number is_negative n (byte ∷ xs)) e

pub no_digit : (is_negative : Bool) (n byte : ℕ) (xs : List ℕ) → is_digit byte ≡ false → digits is_negative n (byte ∷ xs) ≡ number is_negative n (byte ∷ xs)
no_digit is_negative n byte xs e =
    ap (λ b. if b then digits is_negative (n * 10 + (byte - 48)) xs else number is_negative n (byte ∷ xs)) e

pub first_digit : (is_negative : Bool) (byte : ℕ) (xs : List ℕ) → is_digit byte ≡ true → unsigned_at is_negative (byte ∷ xs) ≡ digits is_negative 0 (byte ∷ xs)
first_digit is_negative byte xs e =
    let none : byte - 48 ≡ 0 * 10 + (byte - 48) = omega arith in
    ap (λ b. if b then digits is_negative (byte - 48) xs else Fails NotANumber) e ∙ ap (λ n. digits is_negative n xs) none
    ∙ sym (digit_taken is_negative 0 byte xs e)

pub no_number : (is_negative : Bool) (byte : ℕ) (xs : List ℕ) → is_digit byte ≡ false → unsigned_at is_negative (byte ∷ xs) ≡ Fails NotANumber
no_number is_negative byte xs e = ap (λ b. if b then digits is_negative (byte - 48) xs else Fails NotANumber) e
