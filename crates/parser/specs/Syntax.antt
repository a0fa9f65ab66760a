-- Which tree a list of tokens has, and why it has none (ISO 7185:1990, 6.2 to 6.10).
-- This doesn't say what a rule makes of tokens: see Declarations in reading.
use Rattle.std.specs.Prelude.{◌≡◌, ℕ, ◌-◌, ◌≤◌, List, [], length, IsTrue, Option, Some, None, Result, Ok, Err}
use Rattle.std.specs.Prelude.{MatchResult}
use Rattle.place.specs.declared.Place.{Place}
use Rattle.lexer.specs.declared.token.Token.{Token}
use Rattle.token_cursor.specs.declared.fault.ParseFault.{ParseFault}
use Rattle.token_cursor.specs.declared.fault.ParseFault.TheVariants.{Memory, NoProgram, TooDeep, LeftOut}
use Rattle.syntax_tree.specs.declared.Program.{Program}
use Rattle.reading.specs.declared.refusal.Refusal.TheVariants as refusal
use Rattle.reading.specs.Declarations.{program}
use Rattle.reading.specs.Deep.{OpensUpTo}
use Rattle.reading.specs.Lexemes.{Spells}
use Rattle.reading.specs.Trees.{program_outline, program_spelling, is_program, nesting}
use Rattle.token_cursor.specs.LeftOut.{first_left_out}
use Rattle.token_cursor.specs.ParseFault.{place_at, place_or_end}

-- how deep a program may nest
abbrev pub most : ℕ
most = 128

-- a well formed tree that nests as deep as allowed, and that the tokens spell
pub record IsTreeOf (tree : Program) (tokens : List Token) : Type 0 where
  pub well_formed : IsTrue (is_program tree)
  pub nests : nesting tree ≤ most
  pub spelled : Spells tokens (program_spelling tree)

-- the tokens have no tree that nests as deep as allowed
abbrev pub HasNoTree : List Token → Type 0
HasNoTree tokens = (tree : Program) → ¬ IsTreeOf tree tokens

-- the tokens have no tree, however deep it nests
abbrev pub HasNoTreeAtAll : List Token → Type 0
HasNoTreeAtAll tokens = (tree : Program) → IsTrue (is_program tree) → ¬ Spells tokens (program_spelling tree)

-- one of the tokens stands at the place, or the last ends just before it
abbrev pub StandsAt : List Token → Place → Type 0
StandsAt tokens place = (number : ℕ) × (place ≡ place_at tokens number)

-- The fault is one of these tokens: a form left out before all others, at its first token. Nesting is told only where
-- it keeps the tokens from having a tree that is allowed, and P1 never for nesting alone, and at a token or the end.
abbrev pub IsFaultOf : ParseFault → List Token → Type 0
IsFaultOf (Memory _) tokens = Unit {0}
IsFaultOf (LeftOut place) tokens = first_left_out tokens ≡ Some place
IsFaultOf (NoProgram place) tokens = (first_left_out tokens ≡ None) × HasNoTreeAtAll tokens × StandsAt tokens place
IsFaultOf (TooDeep place) tokens = (first_left_out tokens ≡ None) × HasNoTree tokens

-- a fault that a rule of the grammar tells: a form left out is told before any rule is tried
abbrev pub IsOfRules : ParseFault → Type 0
IsOfRules (LeftOut place) = ⊥
IsOfRules _ = Unit {0}

-- the tokens up to this place open at least so many levels, and where it is that of no token all of them, up to the end
abbrev pub OpensTo : ℕ → Place → List Token → Type 0
OpensTo least place tokens = (at : Option Place) × (place ≡ place_or_end tokens at) × OpensUpTo least at tokens

-- nesting is told only where the tokens up to its place open at least so many levels
abbrev pub IsDeep : ℕ → List Token → ParseFault → Type 0
IsDeep least tokens fault = (place : Place) → fault ≡ TooDeep place → OpensTo least place tokens

-- an exact answer: a tree of the tokens, or a fault of theirs
abbrev pub Answers : Result Program ParseFault → List Token → Type 0
Answers answer tokens = MatchResult answer (λ tree. IsTreeOf tree tokens) (λ fault. IsFaultOf fault tokens)

-- What is read: the tree, as it looks, with nothing left; or why the rule of a program stops. P1 is told at the first
-- of the tokens that it leaves, with which no rule goes on, and P2 where the nesting passes the limit.
abbrev pub IsReadAs : Result Program ParseFault → List Token → Type 0
IsReadAs (Ok tree) tokens = program most tokens ≡ Ok (program_outline tree, [])
IsReadAs (Err (Memory _)) tokens = Unit {0}
IsReadAs (Err (LeftOut place)) tokens = Unit {0}
IsReadAs (Err (NoProgram place)) tokens =
    (left : List Token) × (program most tokens ≡ Err (refusal.NoProgram, left))
    × (place ≡ place_at tokens (length tokens - length left))
IsReadAs (Err (TooDeep place)) tokens =
    (at : Option Place) × (left : List Token) × (program most tokens ≡ Err (refusal.TooDeep at, left))
    × (place ≡ place_or_end tokens at)
