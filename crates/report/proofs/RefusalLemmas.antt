-- The fault of a layer, as the whole compiler tells it, is a refusal of the source.
use Rattle.std.proofs.Common.{◌≡◌, ◌≢◌, ⊎_elim, ℕ, List, [], Option, None, Some, Result, Err, map, true, false, refl, sym, subst, ap, ◌∙◌}
use Rattle.std.specs.Prelude.{Bool, MatchResult, length, not, ◌||◌, ◌≤◌}
use Rattle.memory.specs.Refused.{the_refusal}
use Rattle.lexer.specs.declared.token.Token.{Token}
use Rattle.lexer.specs.declared.fault.LexFault.{LexFault}
use Rattle.lexer.specs.declared.fault.LexFault.TheVariants as lex
use Rattle.lexer.specs.Tokens.{IsTokenList, IsFirstFault, lexeme_of}
use Rattle.token_cursor.specs.declared.fault.ParseFault.{ParseFault}
use Rattle.token_cursor.specs.declared.fault.ParseFault.TheVariants as parse
use Rattle.place.specs.declared.Place.{Place}
use Rattle.syntax_tree.specs.declared.Program.{Program}
use Rattle.parser.specs.Syntax.{IsFaultOf, IsReadAs}
use Rattle.typed_tree.specs.declared.tree.Tree.{Tree}
use Rattle.typed_tree.specs.Entries.{entries_in_text}
use Rattle.typed_tree.specs.Look.{tree_look}
use Rattle.typed_tree.specs.WellFormed.{IsWellFormed, most_entries}
use Rattle.typed_tree.proofs.Measured.{entries_are}
use Rattle.typing.specs.Passing.{after}
use Rattle.typing.specs.Typing.{typing}
use Rattle.typing.specs.Outcomes.{IsFault}
use Rattle.typing_laws.proofs.Programs.{typing_is_lawful}
use Rattle.typed_tree.specs.declared.fault.TypeFault.{TypeFault}
use Rattle.typed_tree.specs.declared.fault.TypeFault.TheVariants as untyped
use Rattle.certificate.specs.declared.fault.ReadFault.{ReadFault}
use Rattle.certificate.specs.declared.fault.ReadFault.TheVariants as read
use Rattle.certificate.specs.Text.{first_fault}
use Rattle.code_generator.specs.declared.fault.GenFault.{GenFault}
use Rattle.code_generator.specs.declared.fault.GenFault.TheVariants as generate
use Rattle.code_generator.specs.Tables.{has_no_code, has_room}
use Rattle.code_scheme.specs.Large.{is_too_large}
use Rattle.report_text.specs.declared.fault.Fault.{Fault}
use Rattle.report_text.specs.declared.fault.Fault.TheVariants.{Memory, Lex, Parse, Typing, Certificate, Check, Code, Generate}
use Rattle.report_text.specs.Faults.{lexer_fault, parser_fault, typing_fault, certificate_fault, checker_fault, generator_fault}
use Rattle.certificate.specs.declared.Certificate.{Certificate as CertificateRead}
use Rattle.checker_expressions.specs.declared.fault.CheckFault.{CheckFault}
use Rattle.checker_expressions.specs.declared.fault.CheckFault.TheVariants as check
use Rattle.checker_expressions.specs.declared.fault.Rule.{Rule}
use Rattle.checker_expressions.specs.Walk.{first_breach}
use Rattle.cert_checker.specs.Promise.{IsAccepted, IsRefusedFor}
use Rattle.cert_checker.specs.Walk.{program_walk}
use Rattle.cert_checker.proofs.Huge.{not-huge}
use Rattle.report.specs.Headline.{IsWrittenAs, IsTypedTreeOf}
use Rattle.report.specs.Steps.{IsSoundTreeOf}
use Rattle.report.proofs.Room.{typed_has_room}
use Rattle.report.specs.Refusals.{AreOf, IsRefusal, is_of_certificate}

-- an answer that is this fault
pub refused_by : {A : Type 0} (P : A → Type 0) (source : List ℕ) (text : Option (List ℕ)) (answer : Result A Fault)
    (y fault : Fault) → answer ≡ Err y → y ≡ fault → IsRefusal source text fault → MatchResult answer P (IsRefusal source text)
refused_by P source text answer y fault is same h =
    subst (λ r. MatchResult r P (IsRefusal source text)) (sym is) (subst (IsRefusal source text) (sym same) h)

-- and one of the typed tree, whatever the certificate
pub untyped_by : (source : List ℕ) (answer : Result Tree Fault) (y fault : Fault) → answer ≡ Err y → y ≡ fault
    → ((text : Option (List ℕ)) → IsRefusal source text fault)
    → MatchResult answer (IsSoundTreeOf source) (λ fault. (text : Option (List ℕ)) → IsRefusal source text fault)
untyped_by source answer y fault is same h =
    subst (λ r. MatchResult r (IsSoundTreeOf source) (λ fault. (text : Option (List ℕ)) → IsRefusal source text fault)) (sym is)
    (λ text. subst (IsRefusal source text) (sym same) (h text))

-- tokens are refused of a source for its first fault
pub lexing-refusal : (source : List ℕ) (text : Option (List ℕ)) (fault : LexFault) → (fault ≢ lex.Memory the_refusal → IsFirstFault source fault)
    → IsRefusal source text (lexer_fault fault)
lexing-refusal source text (lex.Memory _) h = tt
lexing-refusal source text fault h = h (λ same. cc)

-- syntax is refused of a source whose tokens have that fault
pub parsing-refusal : (source : List ℕ) (text : Option (List ℕ)) (fault : ParseFault) (tokens : List Token)
    → IsTokenList source (map lexeme_of tokens) → IsFaultOf fault tokens
    → IsReadAs (Err fault) tokens → IsRefusal source text (parser_fault fault)
parsing-refusal source text (parse.Memory _) tokens list h read = tt
parsing-refusal source text fault tokens list h read = (tokens, list, h, read)

-- names and types are refused of a source that is written as a program, whose typing tells just that
pub typing-refusal : (source : List ℕ) (text : Option (List ℕ)) (fault : TypeFault) (program : Program)
    → IsWrittenAs source program → IsFault (typing program) fault
    → IsRefusal source text (typing_fault fault)
typing-refusal source text (untyped.Memory _) program written h = tt
typing-refusal source text fault program written h = (program, written, ⊎_elim (λ e. cc) (λ told. told) h)

-- a typed tree of a source has few entries
few_entries : (tree : Tree) (source : List ℕ) → IsTypedTreeOf tree source → length (entries_in_text tree) ≤ most_entries
few_entries tree source typed =
    let lawful = typing_is_lawful typed.0 (after tt (tree_look tree) typed.2.left) typed.2.typed in
    subst (λ (entries : List ℕ). length entries ≤ most_entries) (entries_are tree) lawful.few_entries

-- a certificate is refused for what it names, or for the first rule that it breaks; the checker has numbers for the tree
pub checking-refusal : (source : List ℕ) (text : Option (List ℕ)) (tree : Tree) (certificate : CertificateRead) (fault : CheckFault)
    → IsWellFormed tree → AreOf source text tree certificate
    → IsRefusedFor tree certificate fault → IsRefusal source text (checker_fault fault)
checking-refusal source text tree certificate (check.Memory _) well are h = tt
checking-refusal source text tree certificate check.TooLarge well are h = not-huge tree well (few_entries tree source are.typed) h
checking-refusal source text tree certificate check.Foreign well are h = (tree, certificate, are, h)
checking-refusal source text tree certificate (check.Broken rule place) well are h = (tree, certificate, are, h)

-- a typed tree of a source has no code only where there would be too much of it
pub large_alone : (tree : Tree) (source : List ℕ) → IsTypedTreeOf tree source → has_no_code tree ≡ true → is_too_large tree ≡ true
large_alone tree source typed none =
    by (is_too_large tree) (has_room tree) (typed_has_room tree source typed.0 typed.1.0 typed.1.1 typed.1.2 typed.2) none
  where
    by : (large room : Bool) → room ≡ true → (large || not room) ≡ true → large ≡ true
    by true room has h = refl
    by false true has h = absurd cc
    by false false has h = absurd cc

-- code is refused where there is too much of it
pub generation-refusal : (source : List ℕ) (text : Option (List ℕ)) (tree : Tree) (certificate : CertificateRead) (fault : GenFault)
    → AreOf source text tree certificate
    → (program_walk tree certificate).broken ≡ [] → (fault ≡ generate.TooLarge → is_too_large tree ≡ true)
    → IsRefusal source text (generator_fault fault)
generation-refusal source text tree certificate (generate.Memory _) are unbroken h = tt
generation-refusal source text tree certificate generate.TooLarge are unbroken h = (tree, certificate, are, unbroken, h refl)

-- a certificate is refused for its first faulty line
pub certificate-refusal : (source text : List ℕ) (tree : Tree) (fault : ReadFault) → IsTypedTreeOf tree source
    → (fault ≢ read.Memory the_refusal → first_fault text ≡ Some fault)
    → IsRefusal source (Some text) (certificate_fault fault)
certificate-refusal source text tree (read.Memory _) typed h = tt
certificate-refusal source text tree (read.FirstLine line) typed h = (tree, typed, h (λ same. cc))
certificate-refusal source text tree (read.NotInGrammar line) typed h = (tree, typed, h (λ same. cc))
certificate-refusal source text tree (read.OutOfOrder line) typed h = (tree, typed, h (λ same. cc))
certificate-refusal source text tree (read.OutOfRange line) typed h = (tree, typed, h (λ same. cc))
certificate-refusal source text tree (read.Unended line) typed h = (tree, typed, h (λ same. cc))

-- an accepted certificate isn't refused
never_foreign : (tree : Tree) (certificate : CertificateRead) → IsAccepted tree certificate → IsRefusedFor tree certificate check.Foreign → ⊥
never_foreign tree certificate accepted h = let both : true ≡ false = sym accepted.0 ∙ h in cc

never_broken : (tree : Tree) (certificate : CertificateRead) (rule : Rule) (place : Place) → IsAccepted tree certificate
    → IsRefusedFor tree certificate (check.Broken rule place) → ⊥
never_broken tree certificate rule place accepted h =
    let none : None ≡ Some (record { rule = rule; place = place }) = sym (ap first_breach accepted.1) ∙ h.1 in cc

-- without a certificate's text a source isn't refused for a certificate
pub not_of_certificate : (source : List ℕ) (text : Option (List ℕ)) (fault : Fault) → text ≡ None → IsRefusal source text fault
    → is_of_certificate fault ≡ false
not_of_certificate source None (Memory _) is h = refl
not_of_certificate source None (Lex fault) is h = refl
not_of_certificate source None (Parse fault) is h = refl
not_of_certificate source None (Typing fault) is h = refl
not_of_certificate source None (Certificate fault) is h = absurd h.2
not_of_certificate source None (Check (check.Memory _)) is h = absurd h
not_of_certificate source None (Check check.TooLarge) is h = absurd h
not_of_certificate source None (Check check.Foreign) is h = absurd (never_foreign h.0 h.1 h.2.serves.0 h.3)
not_of_certificate source None (Check (check.Broken rule place)) is h = absurd (never_broken h.0 h.1 rule place h.2.serves.0 h.3)
not_of_certificate source None (Generate fault) is h = refl
not_of_certificate source None (Code fault) is h = absurd h
not_of_certificate source (Some text) fault is h = absurd cc
