-- A statement by what comes next.
use Rattle.std.proofs.Common.{◌≡◌, ℕ, ◌+◌, List, Option, sym, ap, subst, ◌∙◌, add-one}
use Rattle.lexer.specs.declared.token.Kind.{Kind}
use Rattle.lexer.specs.declared.token.Token.{Token}
use Rattle.reading.specs.Reading.{next_kind}
use Rattle.reading.specs.Statements.{statement, statement_by}

pub statement_is : (levels left : ℕ) (tokens : List Token) (next : Option Kind) → left + 1 ≡ levels → next_kind tokens ≡ next
    → statement levels tokens ≡ statement_by left (statement left) next tokens
statement_is levels left tokens next e h =
    subst (λ n. statement n tokens ≡ statement_by left (statement left) next tokens) (sym (add-one left) ∙ e)
    (ap (λ k. statement_by left (statement left) k tokens) h)
