-- What is promised of all steps is promised of their parts.
use Rattle.std.proofs.Common.{◌≡◌, ℕ, List, Option, None, Result, Ok, Err, IfOk, IfErr, false}
use Rattle.std.specs.Prelude.{MatchResult}
use Rattle.report.specs.declared.compile.Compiled.{Compiled}
use Rattle.report_text.specs.declared.fault.Fault.{Fault}
use Rattle.report.specs.Refusals.{IsRefusal, is_of_certificate}
use Rattle.report.proofs.RefusalLemmas.{not_of_certificate}
use Rattle.report.specs.Steps.{IsWhole}

-- what follows where all steps are gone through
pub if_whole : (R : Compiled → Type 0) (source : List ℕ) (text : Option (List ℕ)) (answer : Result Compiled Fault)
    → MatchResult answer (IsWhole source text) (IsRefusal source text)
    → ((compiled : Compiled) → IsWhole source text compiled → R compiled) → IfOk answer R
if_whole R source text (Ok compiled) h then = then compiled h
if_whole R source text (Err fault) h then = tt

-- and why a source is refused, where one of them refuses
pub if_refused : (source : List ℕ) (text : Option (List ℕ)) (answer : Result Compiled Fault) → MatchResult answer (IsWhole source text) (IsRefusal source text)
    → IfErr answer (IsRefusal source text)
if_refused source text (Ok compiled) h = tt
if_refused source text (Err fault) h = h

-- and that it isn't refused for a certificate, where no text of one is given
pub if_guessed : (source : List ℕ) (text : Option (List ℕ)) (answer : Result Compiled Fault) → text ≡ None
    → MatchResult answer (IsWhole source text) (IsRefusal source text) → IfErr answer (λ fault. is_of_certificate fault ≡ false)
if_guessed source text (Ok compiled) is h = tt
if_guessed source text (Err fault) is h = not_of_certificate source text fault is h
