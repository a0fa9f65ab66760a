-- How many entries the checker counted.
use Rattle.std.proofs.Common.{arith, ◌≡◌, ap, ℕ, ◌+◌, ◌<◌, ◌≤◌, List, [], ◌∷◌, length}
use Rattle.checker_expressions.specs.Visits.{all_counted}
use Rattle.cert_checker.specs.Visits.{Visits, counted, most_counted, none_counted}

-- as many as the numbers, if they are few enough
pub counted-many : (numbers : List ℕ) (visits : Visits) → (all_counted counted numbers visits).entries < most_counted
    → (all_counted counted numbers visits).entries ≡ visits.entries + length numbers
counted-many [] visits few = omega arith
counted-many (number ∷ numbers) visits few =
    let rest = counted-many numbers (counted number visits) few in
    omega (arith, rest, few)

-- no more than that
pub counted-most : (numbers : List ℕ) (visits : Visits) → (all_counted counted numbers visits).entries ≤ visits.entries + length numbers
counted-most [] visits = omega arith
counted-most (number ∷ numbers) visits =
    let rest = counted-most numbers (counted number visits) in
    omega (arith, rest)

pub all-most : (numbers : List ℕ) (visits : Visits) → visits ≡ all_counted counted numbers none_counted → visits.entries ≤ length numbers
all-most numbers visits is =
    let entries = ap (λ (v : Visits). v.entries) is in
    let most = counted-most numbers none_counted in
    omega (arith, entries, most)
