-- What is answered, by what the rule of a program makes of the tokens.
use Rattle.std.proofs.Common.{◌≡◌, ℕ, ◌-◌, ◌≤◌, ◌<◌, List, [], length, Option, None, Ok, Err, refl, sym, ap, ◌∙◌}
use Rattle.std.proofs.Common.{arith}
use Rattle.memory.specs.Refused.{the_refusal}
use Rattle.place.specs.declared.Place.{Place}
use Rattle.lexer.specs.declared.token.Token.{Token}
use Rattle.syntax_tree.specs.declared.Program.{Program}
use Rattle.reading.specs.declared.refusal.Refusal.{Refusal}
use Rattle.reading.specs.declared.refusal.Refusal.TheVariants.{Memory, NoProgram, TooDeep}
use Rattle.reading.specs.Declarations.{program}
use Rattle.reading.specs.Laws.{IsRead}
use Rattle.reading.specs.Reading.{Outcome}
use Rattle.reading.specs.Outline.{Outline}
use Rattle.reading.specs.Trees.{program_outline, nesting}
use Rattle.reading.proofs.DeepRules.{program_deep}
use Rattle.reading.proofs.Three.{read_is_spelled, spelled_is_read}
use Rattle.token_cursor.specs.LeftOut.{first_left_out}
use Rattle.token_cursor.specs.ParseFault.{fault_of, place_or_end}
use Rattle.parser.specs.Syntax.{most, HasNoTree, HasNoTreeAtAll, IsDeep, IsFaultOf, IsOfRules, IsReadAs, IsTreeOf}

module _ (tokens : List Token) (tree : Program) (left : List Token) (made : program most tokens ≡ Ok (program_outline tree, left)) where
  -- what is made is a tree of the tokens
  pub tree_is : IsTreeOf tree tokens
  tree_is =
      let r = read_is_spelled most tokens left tree made in record { well_formed = r.well_formed; nests = r.nests; spelled = r.spelled }

  pub tree_read : program most tokens ≡ Ok (program_outline tree, [])
  tree_read = made ∙ ap (λ l. Ok (program_outline tree, l)) (read_is_spelled most tokens left tree made).all

-- where the rule stops, there is no tree
made_and_stopped : (o : Outcome Outline) (made : Outline × List Token) (stop : Refusal × List Token) → o ≡ Ok made → o ≡ Err stop → ⊥
made_and_stopped o made stop e f = let g : ◌≡◌ {A = Outcome Outline} (Ok made) (Err stop) = sym e ∙ f in absurd cc

two_stops : (o : Outcome Outline) (at : Option Place) (left other : List Token) → o ≡ Err (TooDeep at, left) → o ≡ Err (NoProgram, other) → ⊥
two_stops o at left other e f =
    let g : ◌≡◌ {A = Outcome Outline} (Err (TooDeep at, left)) (Err (NoProgram, other)) = sym e ∙ f in
    let h : (TooDeep at, left) ≡ (NoProgram, other) = cc in
    let k : TooDeep at ≡ NoProgram = ap (λ (m : Refusal × List Token). m.0) h in absurd cc

pub no_tree : (tokens : List Token) (stop : Refusal × List Token) → program most tokens ≡ Err stop → HasNoTree tokens
no_tree tokens stop e = λ tree is.
    made_and_stopped (program most tokens) (program_outline tree, []) stop
    ((spelled_is_read most tokens tree is.well_formed is.spelled).within is.nests) e

pub no_tree_at_all : (tokens left : List Token) → program most tokens ≡ Err (NoProgram, left) → HasNoTreeAtAll tokens
no_tree_at_all tokens left e = λ tree well spelled.
    let none = no_tree tokens (NoProgram, left) e in
    let r : IsRead most tokens tree = spelled_is_read most tokens tree well spelled in
    let deep : most < nesting tree = within_or_deeper tree (λ n. none tree (record { well_formed = well; nests = n; spelled = spelled })) in
    let d = r.deeper deep in two_stops (program most tokens) d.0 d.1 left d.2 e
  where
    within_or_deeper : (tree : Program) → (¬ (nesting tree ≤ most)) → most < nesting tree
    within_or_deeper tree h = omega arith

-- ---- the fault that is told

module _ (tokens left : List Token) (why : Refusal) where
  abbrev pub Stops : Type 0
  Stops = (¬ (why ≡ Memory the_refusal)) → program most tokens ≡ Err (why, left)

pub fault_is : (tokens left : List Token) (why : Refusal) → first_left_out tokens ≡ None → Stops tokens left why
    → IsFaultOf (fault_of tokens (length left) why) tokens
fault_is tokens left (Memory _) none h = tt
fault_is tokens left NoProgram none h = (none, no_tree_at_all tokens left (h (λ e. absurd cc)), (length tokens - length left, refl))
fault_is tokens left (TooDeep at) none h = (none, no_tree tokens (TooDeep at, left) (h (λ e. absurd cc)))

pub fault_read : (tokens left : List Token) (why : Refusal) → Stops tokens left why → IsReadAs (Err (fault_of tokens (length left) why)) tokens
fault_read tokens left (Memory _) h = tt
fault_read tokens left NoProgram h = (left, h (λ e. absurd cc), refl)
fault_read tokens left (TooDeep at) h = (at, left, h (λ e. absurd cc), refl)

pub fault_deep : (tokens left : List Token) (why : Refusal) → Stops tokens left why → IsDeep most tokens (fault_of tokens (length left) why)
fault_deep tokens left (Memory _) h = λ place is. absurd cc
fault_deep tokens left NoProgram h = λ place is. absurd cc
fault_deep tokens left (TooDeep at) h = λ place is.
    let same : place_or_end tokens at ≡ place = cc in (at, sym same, (program_deep most).deep tokens at left (h (λ e. absurd cc)))

-- it is that of a rule
pub of_rules : (tokens : List Token) (left : ℕ) (why : Refusal) → IsOfRules (fault_of tokens left why)
of_rules tokens left (Memory _) = tt
of_rules tokens left NoProgram = tt
of_rules tokens left (TooDeep at) = tt
