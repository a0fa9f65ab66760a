-- The entries into the statements and expressions of a program: those of a run, and how those of a walk are counted. It
-- does not say what is entered, nor what a counter is.
use Rattle.std.specs.Prelude.{ℕ, List, [], ◌∷◌}
use Rattle.meaning.specs.Effect.{Reply, Gives, Stops, Visit}
use Rattle.checker_state.specs.Holds.{Moment}

-- the entries of a run
abbrev pub visits_of : {A : Type 0} → Reply A → List Visit
visits_of (Gives done state) = state.visited
visits_of (Stops ending state) = state.visited

-- the moment of an entry
abbrev pub moment_of : Visit → Moment
moment_of visit = record { environment = visit.environment; store = visit.store }

-- a counter after entries of these numbers, one after another, if it is so after one of a number
abbrev pub all_counted : {Counter : Type 0} → (ℕ → Counter → Counter) → List ℕ → Counter → Counter
all_counted counted [] counter = counter
all_counted counted (number ∷ numbers) counter = all_counted counted numbers (counted number counter)
