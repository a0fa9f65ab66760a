use Rattle.std.proofs.Common.{◌≡◌, ◌<◌, ℕ, List, [], ◌∷◌, true, false, length, nat_eq, reverse, sym, ◌∙◌, ap, subst, arith}
use Rattle.std.proofs.lemmas.Bool.{eqb-true}
use Rattle.interpreter.specs.Pending.{operands_of, pending_of}
use Rattle.interpreter.proofs.Advancing.{finishes, proceeds}
use Rattle.interpreter.proofs.Resuming.{none_left, taken}
use Rattle.interpreter.proofs.interpreter.Run.advance.Goals as goal

-- a list is empty where the test of its length says so, and else it isn't
is_empty : {A : Type 0} (xs : List A) (n : ℕ) → n ≡ length xs → nat_eq n 0 ≡ true → xs ≡ []
is_empty xs n is so = none_left xs (sym is ∙ eqb-true n 0 so)

has_more : {A : Type 0} (xs : List A) (n : ℕ) → n ≡ length xs → nat_eq n 0 ≡ false → 0 < length xs
has_more [] n is so = let never : nat_eq 0 0 ≡ false = subst (λ m. nat_eq m 0 ≡ false) is so in let no : ⊥ = cc in absurd no
has_more (x ∷ xs) n is so = omega arith

pub returns-in-Some-clause-does : goal.returns-in-Some-clause-does
returns-in-Some-clause-does c = λ env outer s agrees.
    let old = c.args.self.now in
    proceeds c.step.new.self _ _ c.step.result (taken env outer old c.pop.new.self.items c.in-Some.work s c.in-Some.ensures.items)
    (c.step.ensures.does env outer s agrees)

pub returns-then-is_empty-clause-does : goal.returns-then-is_empty-clause-does
returns-then-is_empty-clause-does c = λ env outer s agrees.
    let old = c.args.self.now in
    finishes old env outer s
    (none_left old.pending.items (sym old.pending.ok.0 ∙ c.in_default.ensures.cases.0))
    (is_empty old.callers.items _ old.callers.ok.0 (sym c.is_empty.ensures ∙ c.if-is_empty.true))
    agrees

pub returns-else-is_empty-clause-does : goal.returns-else-is_empty-clause-does
returns-else-is_empty-clause-does c = λ env outer s agrees.
    let old = c.args.self.now in
    let none : old.pending.items ≡ [] = none_left old.pending.items (sym old.pending.ok.0 ∙ c.in_default.ensures.cases.0) in
    let left : c.pop.new.self.items ≡ [] = none_left c.pop.new.self.items (sym c.pop.new.self.ok.0 ∙ c.in_default.ensures.cases.1) in
    proceeds c.leave.new.self _ _ c.leave.result (ap (λ l. pending_of env outer (reverse l) (operands_of old) s) none)
    (c.leave.ensures.does env outer s agrees left
    (has_more old.callers.items _ old.callers.ok.0 (sym c.is_empty.ensures ∙ c.if-is_empty.false)))
