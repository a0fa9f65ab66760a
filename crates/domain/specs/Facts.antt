-- Paths, bounds and facts: what may be said of the variables at a point of a program (ISO 7185:1990, 6.5.1: a variable
-- is undefined or has a value), and the order in which facts are listed, each once. It does not say what a fact means
-- of a run.
use Rattle.std.specs.Prelude.{ℕ, ℤ, List, [], ◌∷◌, length, map}
use Rattle.std.specs.Cmp.Lexicographic.{slice_cmp}
use Rattle.std.specs.declared.cmp.Ordering.{Ordering}
use Rattle.std.specs.declared.cmp.Ordering.TheVariants.{Less, Equal, Greater}
use Rattle.std.specs.Ordering.{int_cmp, nat_cmp, ordering_then}
use Rattle.domain.specs.Interval.{Interval}
use Rattle.domain.specs.declared.facts.Bound.{Bound as KeptBound}
use Rattle.domain.specs.declared.facts.Bound.TheVariants as kept
use Rattle.domain.specs.declared.facts.Path.{Path as KeptPath}
use Rattle.domain.specs.declared.facts.Span.{Span as KeptSpan}
use Rattle.domain.specs.declared.facts.Spans.{Spans}
use Rattle.domain.specs.declared.facts.Spans.TheVariants as kept_spans
use Rattle.domain.specs.declared.facts.Step.{Step as KeptStep}
use Rattle.domain.specs.declared.facts.Step.TheVariants as kept_step
use Rattle.domain.specs.declared.growth.Growth.{Growth}

-- a step of a path: to all elements of an array, or to the field of a name
pub data Step : Type 0 where
  Elements : Step
  Field : (name : List ℕ) → Step

-- a way to a part of a variable, by its root number, or to a part of each of its elements
pub record Path : Type 0 where
  pub root : ℕ
  pub steps : List Step

-- a number, or the value of a variable plus a number
pub data Bound : Type 0 where
  Number : ℤ → Bound
  Plus : (root : ℕ) → ℤ → Bound

-- the numbers between two bounds
pub record Span : Type 0 where
  pub first : Bound
  pub last : Bound

-- what may be said of variables: each defined value at a path lies in a range; what lies at a path is defined, or each
-- element of it whose indexes lie in spans, the first index in the first, and so on; the value of a variable is at most
-- that of another plus a number; a defined value of a variable grows so with the turns of a for statement
pub data Fact : Type 0 where
  Range : Path → Interval → Fact
  Defined : Path → List Span → Fact
  Order : (root other : ℕ) → ℤ → Fact
  Grows : (root : ℕ) → Growth → Fact

-- ---- the order of facts

-- elements before fields, and fields by their names
abbrev pub step_order : Step → Step → Ordering
step_order Elements Elements = Equal
step_order Elements (Field name) = Less
step_order (Field name) Elements = Greater
step_order (Field a) (Field b) = slice_cmp nat_cmp a b

-- by variables, and then step by step
abbrev pub path_order : Path → Path → Ordering
path_order p q = ordering_then (nat_cmp p.root q.root) (slice_cmp step_order p.steps q.steps)

-- numbers before variables
abbrev pub bound_order : Bound → Bound → Ordering
bound_order (Number m) (Number n) = int_cmp m n
bound_order (Number m) (Plus root n) = Less
bound_order (Plus root m) (Number n) = Greater
bound_order (Plus a m) (Plus b n) = ordering_then (nat_cmp a b) (int_cmp m n)

-- by first bounds and then by last ones
abbrev pub span_order : Span → Span → Ordering
span_order a b = ordering_then (bound_order a.first b.first) (bound_order a.last b.last)

-- the place of a fact's form among the forms
abbrev pub rank : Fact → ℕ
rank (Range path range) = 0
rank (Defined path spans) = 1
rank (Order root other number) = 2
rank (Grows root growth) = 3

-- by forms, where fewer spans come first, then by paths or variables, then by spans: facts that it calls equal are one
-- but for the numbers of a range, an order or a growth
abbrev pub subject_order : Fact → Fact → Ordering
subject_order (Range p a) (Range q b) = path_order p q
subject_order (Defined p a) (Defined q b) =
    ordering_then (nat_cmp (length a) (length b)) (ordering_then (path_order p q) (slice_cmp span_order a b))
subject_order (Order a b m) (Order c d n) = ordering_then (nat_cmp a c) (nat_cmp b d)
subject_order (Grows a g) (Grows b h) = nat_cmp a b
subject_order f g = nat_cmp (rank f) (rank g)

-- ---- as programs keep them

-- what a path says
abbrev pub said_step : KeptStep → Step
said_step kept_step.Element = Elements
said_step (kept_step.Field name) = Field name.items

abbrev pub said_path : KeptPath → Path
said_path path = record { root = path.root; steps = map said_step path.steps.items }

-- what a bound says
abbrev pub said_bound : KeptBound → Bound
said_bound (kept.Number number) = Number number
said_bound (kept.Plus root number) = Plus root number

-- what spans say
abbrev pub said_span : KeptSpan → Span
said_span span = record { first = said_bound span.first; last = said_bound span.last }

abbrev pub said_spans : Spans → List Span
said_spans kept_spans.None = []
said_spans (kept_spans.One span) = said_span span ∷ []
said_spans (kept_spans.Two span inner) = said_span span ∷ said_span inner ∷ []
