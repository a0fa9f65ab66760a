-- Calls of the program as the definitions see them: what is passed, and bounds. It does not say what is known of them.
use Rattle.std.specs.Prelude.{◌≡◌, ◌∷◌, ◌++◌, List, [], Option, Some, None, map, option_map}
use denote.Ref.{Bor}
use Rattle.typed_tree.specs.declared.tree.PathStep.{PathStep}
use Rattle.typed_tree.specs.Accesses.{origin_of, step_of}
use Rattle.checker_rows.specs.View.{numbers}
use Rattle.checker_state.specs.Bounds.{Bound, raised_bound}
use Rattle.checker_state.specs.State.{Span, moved}
use Rattle.checker_state.specs.View.{said_form, said_reach, said_span, said_term}
use Rattle.checker_state.specs.declared.term.Term.{Term}
use Rattle.checker_calls.specs.declared.actuals.Actual.{Actual as KeptActual}
use Rattle.checker_calls.specs.declared.actuals.Actual.TheVariants as kept
use Rattle.checker_calls.specs.declared.actuals.Bearers.{Bearers}
use Rattle.checker_calls.specs.declared.actuals.Bearers.TheVariants as bearers
use Rattle.checker_calls.specs.declared.actuals.Bindings.{Bindings}
use Rattle.checker_calls.specs.declared.limits.Limit.{Limit as KeptLimit}
use Rattle.checker_calls.specs.declared.between.Between.{Between as KeptBetween}
use Rattle.checker_calls.specs.declared.between.Limits.{Limits}
use Rattle.checker_calls.specs.declared.exit.Within.{Within}
use Rattle.checker_calls.specs.declared.exit.Within.TheVariants as within
use Rattle.checker_calls.specs.declared.ways.AccessWay.{AccessWay}
use Rattle.checker_calls.specs.Actuals.{Actual, Bearer, Binding, OfRows, OfValue, OfVariable, Passed, Reached, bound_to}
use Rattle.checker_calls.specs.Entry.{Between, Limit}
use Rattle.domain.specs.Facts as fact
use Rattle.domain.specs.declared.facts.Span.{Span as KeptSpan}

-- ---- what is passed

abbrev pub said_actual : KeptActual → Actual
said_actual (kept.Value range form) = OfValue range (said_form form)
said_actual (kept.Rows ranges) = OfRows ranges.items
said_actual (kept.Variable access reach) =
    OfVariable (origin_of access.now) access.now.selectors.items (said_reach reach)

abbrev pub said_found : Option (Bor KeptActual) → Option Actual
said_found None = None
said_found (Some actual) = Some (said_actual actual.now)

abbrev pub said_bearers : Bearers → List Bearer
said_bearers (bearers.Passed ranges) = map Passed ranges.now
said_bearers (bearers.Reached rows reach) = map (λ row. Reached row (said_reach reach)) (numbers rows)

abbrev pub said_bindings : Bindings → List Binding
said_bindings bindings = bound_to bindings.roots.now (map said_actual bindings.actuals.now)

-- ---- ways

-- what is left of a way
abbrev pub said_way : AccessWay → List PathStep
said_way way = way.path.now ++ map step_of way.selectors.now

-- its first step and what is left behind it, if there is one
abbrev pub IsSplit : List PathStep → Option (PathStep × AccessWay) → Type 0
IsSplit way None = way ≡ []
IsSplit way (Some (step, behind)) = way ≡ step ∷ said_way behind

-- ---- bounds

-- a form as tests have it
abbrev pub said_terms : Option Term → Option Bound
said_terms None = None
said_terms (Some term) = Some (said_term term)

abbrev pub said_limit : KeptLimit → Limit
said_limit limit = record {
  form = option_map (raised_bound limit.number) (said_form limit.form);
  range = moved limit.number limit.range;
  has_value = limit.has_value;
}

abbrev pub said_some_limit : Option KeptLimit → Option Limit
said_some_limit None = None
said_some_limit (Some limit) = Some (said_limit limit)

-- limits of a span, and of one or two
abbrev pub said_between : KeptBetween → Between
said_between limits = record { first = said_limit limits.first; last = said_limit limits.last }

abbrev pub said_some_between : Option KeptBetween → Option Between
said_some_between None = None
said_some_between (Some limits) = Some (said_between limits)

abbrev pub inner_limits : Option KeptBetween → List Between
inner_limits None = []
inner_limits (Some limits) = said_between limits ∷ []

abbrev pub said_limits : Limits → List Between
said_limits limits = said_between limits.span ∷ inner_limits limits.inner

abbrev pub said_some_limits : Option Limits → Option (List Between)
said_some_limits None = None
said_some_limits (Some limits) = Some (said_limits limits)

-- spans of a callee, and those at its end
abbrev pub inner_claimed : Option KeptSpan → List fact.Span
inner_claimed None = []
inner_claimed (Some span) = fact.said_span span ∷ []

abbrev pub said_within : Within → List Span
said_within within.All = []
said_within (within.One span) = said_span span ∷ []
said_within (within.Two span inner) = said_span span ∷ said_span inner ∷ []
