-- Entries that were counted, in two parts.
use Rattle.std.proofs.Common.{◌≡◌, ◌∙◌, refl, sym, ap, ℕ, List, [], ◌∷◌, ◌++◌}
use Rattle.checker_expressions.specs.Visits.{all_counted}

module _ {Counter : Type 0} (counted : ℕ → Counter → Counter) where
  -- some entries, and then others
  pub counted-both : (one two : List ℕ) (visits : Counter) → all_counted counted (one ++ two) visits
      ≡ all_counted counted two (all_counted counted one visits)
  counted-both [] two visits = refl
  counted-both (number ∷ one) two visits = counted-both one two (counted number visits)

  -- one piece and then another
  pub counts-then : (before : Counter) {between after : Counter} (one two : List ℕ) {all : List ℕ} → all ≡ one ++ two
      → between ≡ all_counted counted one before → after ≡ all_counted counted two between → after ≡ all_counted counted all before
  counts-then before one two is first rest =
      rest ∙ ap (all_counted counted two) first ∙ sym (counted-both one two before) ∙ ap (λ (numbers : List ℕ). all_counted counted numbers before) (sym is)
