-- The laws of reading.
use Rattle.std.proofs.Common.{◌≡◌, ℕ, max, List, [], Ok, sym, ap, ◌∙◌, arith}
use Rattle.lexer.specs.declared.token.Token.{Token}
use Rattle.syntax_tree.specs.declared.Program.{Program}
use Rattle.reading.specs.Outline.{Outline}
use Rattle.reading.specs.Trees.{program_outline, nesting}
use Rattle.reading.specs.Declarations.{program}
use Rattle.reading.specs.Reading.{Outcome}
use Rattle.reading.specs.Laws.{ReadIsSpelled, IsRead, SpelledIsRead, HasOneTree, TokensHaveOneTree}
use Rattle.reading.proofs.MadePrograms.{program_made}
use Rattle.reading.proofs.Answers.{Answers, reads, stops}
use Rattle.reading.proofs.ReadPrograms.{program_read}

pub read_is_spelled : ReadIsSpelled
read_is_spelled limit tokens left tree e =
    let g = (program_made limit tokens).makes (program_outline tree, left) e in
    record { well_formed = g.0.well; nests = g.0.nests; spelled = g.0.spelled; all = g.1 }

read_by : (limit : ℕ) (tokens : List Token) (tree : Program) → Answers limit (program_outline tree).depth (program limit) tokens (program_outline tree) []
    → IsRead limit tokens tree
read_by limit tokens tree (reads h e) = record { within = λ n. e; deeper = λ n. absurd (omega arith) }
read_by limit tokens tree (stops h at left e) = record { within = λ n. absurd (omega arith); deeper = λ n. (at, left, e) }

pub spelled_is_read : SpelledIsRead
spelled_is_read limit tokens tree well spelled = read_by limit tokens tree (program_read limit tree tokens spelled well)

same_made : {A : Type 0} (x y : A) (l : List Token) → ◌≡◌ {A = Outcome A} (Ok (x, l)) (Ok (y, l)) → x ≡ y
same_made {A} x y l e = let f : ◌≡◌ {A = A × List Token} (x, l) (y, l) = cc in ap (λ (m : A × List Token). m.0) f

pub one_tree : (tokens : List Token) → HasOneTree tokens
unfolding HasOneTree
one_tree tokens one two w v s t =
    let limit = max (nesting one) (nesting two) in
    let a = (spelled_is_read limit tokens one w s).within (omega arith) in
    let b = (spelled_is_read limit tokens two v t).within (omega arith) in
    ap (λ (o : Outline). o.notation) (same_made (program_outline one) (program_outline two) [] (sym a ∙ b))

pub tokens_have_one_tree : TokensHaveOneTree
tokens_have_one_tree = one_tree
