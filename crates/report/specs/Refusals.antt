-- Why a source is refused: the fault of the first layer that refuses, for nothing else but memory. Of syntax it stands
-- where the rules of reading stop; of names and types it is the first rule that the program breaks, with its place, and
-- so it is of a certificate.
use Rattle.std.specs.Prelude.{◌≡◌, ℕ, List, [], Option, Some, None, Err, Bool, true, false, map, option_map}
use denote.Ref.{Bor}
use Rattle.lexer.specs.declared.token.Token.{Token}
use Rattle.lexer.specs.Tokens.{IsTokenList, IsFirstFault, lexeme_of}
use Rattle.syntax_tree.specs.declared.Program.{Program}
use Rattle.token_cursor.specs.declared.fault.ParseFault.TheVariants as parse
use Rattle.parser.specs.Syntax.{IsFaultOf, IsReadAs}
use Rattle.typed_tree.specs.declared.tree.Tree.{Tree}
use Rattle.typed_tree.specs.declared.fault.TypeFault.TheVariants as untyped
use Rattle.typing.specs.Typing.{typing}
use Rattle.certificate.specs.declared.Certificate.{Certificate as CertificateRead}
use Rattle.certificate.specs.declared.fault.ReadFault.{ReadFault}
use Rattle.certificate.specs.Contents.{Spells, are_in_order, contents}
use Rattle.certificate.specs.Text.{first_fault}
use Rattle.checker_expressions.specs.declared.fault.CheckFault.TheVariants as check
use Rattle.cert_checker.specs.Promise.{IsAccepted, IsRefusedFor}
use Rattle.cert_checker.specs.Walk.{program_walk}
use Rattle.code_generator.specs.declared.fault.GenFault.TheVariants as generate
use Rattle.code_scheme.specs.Large.{is_too_large}
use Rattle.report_text.specs.declared.fault.Fault.{Fault}
use Rattle.report_text.specs.declared.fault.Fault.TheVariants.{Memory, Lex, Parse, Typing, Certificate, Check, Code}
use Rattle.report_text.specs.declared.fault.Fault.TheVariants.{Generate}
use Rattle.report.specs.Headline.{IsWrittenAs, IsTypedTreeOf}

-- the bytes of a text, or of a path, where one is given
abbrev pub given : Option (Bor (List ℕ)) → Option (List ℕ)
given = option_map (λ bytes. bytes.now)

-- the certificate that serves for a program: the one that the text spells, and without a text one that is accepted and
-- has a spelling
abbrev pub Serves : Option (List ℕ) → Tree → CertificateRead → Type 0
Serves (Some text) tree certificate = Spells text certificate
Serves None tree certificate =
    IsAccepted tree certificate × (are_in_order certificate.version (contents certificate) ≡ true)

-- a text is given, and this is its first fault
abbrev pub IsFaultIn : Option (List ℕ) → ReadFault → Type 0
IsFaultIn (Some text) fault = first_fault text ≡ Some fault
IsFaultIn None fault = ⊥

-- a source has this typed tree, and this certificate serves for it
pub record AreOf (source : List ℕ) (text : Option (List ℕ)) (tree : Tree) (certificate : CertificateRead) : Type 0 where
  pub typed : IsTypedTreeOf tree source
  pub serves : Serves text tree certificate

-- a fault of a certificate: of its text, or of what it claims
abbrev pub is_of_certificate : Fault → Bool
is_of_certificate (Certificate fault) = true
is_of_certificate (Check fault) = true
is_of_certificate _ = false

-- why a source with a certificate is refused: each layer is told only where those before it had no fault, and the want
-- of memory of each is told alike
abbrev pub IsRefusal : List ℕ → Option (List ℕ) → Fault → Type 0
IsRefusal source text (Memory _) = Unit {0}
IsRefusal source text (Lex fault) = IsFirstFault source fault
IsRefusal source text (Parse (parse.Memory _)) = ⊥
IsRefusal source text (Parse fault) =
    (tokens : List Token) × IsTokenList source (map lexeme_of tokens) × IsFaultOf fault tokens
    × IsReadAs (Err fault) tokens
IsRefusal source text (Typing (untyped.Memory _)) = ⊥
IsRefusal source text (Typing fault) = (program : Program) × IsWrittenAs source program × (typing program ≡ Err fault)
IsRefusal source text (Certificate fault) = (tree : Tree) × IsTypedTreeOf tree source × IsFaultIn text fault
IsRefusal source text (Check (check.Memory _)) = ⊥
IsRefusal source text (Check check.TooLarge) = ⊥
IsRefusal source text (Check fault) =
    (tree : Tree) × (certificate : CertificateRead) × AreOf source text tree certificate
    × IsRefusedFor tree certificate fault
IsRefusal source text (Generate (generate.Memory _)) = ⊥
IsRefusal source text (Generate generate.TooLarge) =
    (tree : Tree) × (certificate : CertificateRead) × AreOf source text tree certificate
    × ((program_walk tree certificate).broken ≡ []) × (is_too_large tree ≡ true)
IsRefusal source text (Code fault) = ⊥
