-- What the bearers of a path give, by the rows in which they are reached.
use Rattle.std.proofs.Common.{◌≡◌, ◌∙◌, ap, refl, sym, Bool, true, false, ◌&&◌, ◌||◌, List, [], ◌∷◌}
use Rattle.std.specs.List.{list_all}
use Rattle.std.proofs.lemmas.List.Folds.{list_all-map}
use denote.Ref.{Bor}
use Rattle.domain.specs.Interval.{Interval}
use Rattle.checker_rows.specs.declared.span.Span.{Span}
use Rattle.checker_rows.specs.View.{numbers}
use Rattle.checker_state.specs.declared.reach.Reach.{Reach}
use Rattle.checker_state.specs.View.{said_reach}
use Rattle.checker_calls.specs.declared.actuals.Bearers.{Bearers}
use Rattle.checker_calls.specs.declared.actuals.Bearers.TheVariants as kept
use Rattle.checker_calls.specs.Actuals.{Bearer, Passed, Reached}
use Rattle.checker_calls.specs.View.{said_bearers}

all-so : {A : Type 0} (test : A → Bool) (items : List A) → ((item : A) → test item ≡ true) → true ≡ list_all test items
all-so test [] so = refl
all-so test (item ∷ items) so = all-so test items so ∙ ap (λ b. b && list_all test items) (sym (so item))

-- what is passed as a value gives each of these
pub passed-so : (test : Bearer → Bool) (bearers : Bearers) (ranges : Bor (List Interval)) → bearers ≡ kept.Passed ranges
    → ((range : Interval) → test (Passed range) ≡ true) → true ≡ list_all test (said_bearers bearers)
passed-so test bearers ranges is so =
    all-so (λ range. test (Passed range)) ranges.now so ∙ sym (list_all-map test Passed ranges.now)
    ∙ ap (λ (b : Bearers). list_all test (said_bearers b)) (sym is)

pub passed-all : (test : Bearer → Bool) (bearers : Bearers) (ranges : Bor (List Interval)) (b : Bool) → bearers ≡ kept.Passed ranges
    → b ≡ list_all (λ range. test (Passed range)) ranges.now → b ≡ list_all test (said_bearers bearers)
passed-all test bearers ranges b is all =
    all ∙ sym (list_all-map test Passed ranges.now) ∙ ap (λ (some : Bearers). list_all test (said_bearers some)) (sym is)

pub reached-all : (test : Bearer → Bool) (bearers : Bearers) (rows : Span) (reach : Reach) (b : Bool) → bearers ≡ kept.Reached rows reach
    → b ≡ list_all (λ row. test (Reached row (said_reach reach))) (numbers rows) → b ≡ list_all test (said_bearers bearers)
reached-all test bearers rows reach b is all =
    all ∙ sym (list_all-map test (λ row. Reached row (said_reach reach)) (numbers rows))
    ∙ ap (λ (some : Bearers). list_all test (said_bearers some)) (sym is)

pub or-so : (a b one other : Bool) → a ≡ b → a ≡ false → one ≡ other → one ≡ (b || other)
or-so false b one other same none is = is ∙ ap (λ x. x || other) same
or-so true b one other same none is = absurd (cc)
