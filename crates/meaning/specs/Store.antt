-- Places, the store and environments (ISO 7185:1990, 6.2.3.2, 6.5.1, 6.8.3.9): where the variables of activations lie,
-- and what they hold. It says nothing of cells, addresses or sizes.
use Rattle.std.specs.Prelude.{ℕ, Bool, false, ◌&&◌, List, [], ◌∷◌, ◌++◌, Option, Some, None, if◌then◌else◌, nat_eq}
use Rattle.std.specs.Ordering.{int_eq}
use Rattle.std.specs.Cmp.Lexicographic.{pointwise}
use Rattle.types.specs.declared.form.Step.{Step}
use Rattle.types.specs.declared.form.Step.TheVariants.{Element, Field}
use Rattle.types.specs.Forms.{Form}
use Rattle.meaning.specs.declared.value.Value.{Value}

-- where a scalar or a set lies: an activation, a variable of it, and the steps to a component
pub record Place : Type 0 where
  pub activation : ℕ
  pub variable : ℕ
  pub steps : List Step

-- a store, the latest writing first: it holds for a place what was written there last, or nothing where it is undefined
abbrev pub Store : Type 0
Store = List (Place × Option Value)

-- what is visible in a block: the variables by their roots, each with its place, and the types by their numbers; and
-- how many turns each for statement has finished that stands round the point in its activation, the outermost first
pub record Environment : Type 0 where
  pub variables : ℕ → Option Place
  pub types : List Form
  pub turns : List ℕ

-- inside one more for statement, which has finished so many turns
abbrev pub inside_for : Environment → ℕ → Environment
inside_for env finished = record env { turns = env.turns ++ finished ∷ [] }

-- the same step
abbrev pub step_eq : Step → Step → Bool
step_eq (Element i) (Element j) = int_eq i j
step_eq (Field a) (Field b) = nat_eq a b
step_eq (Element i) (Field b) = false
step_eq (Field a) (Element j) = false

-- the same place
abbrev pub place_eq : Place → Place → Bool
place_eq p q = nat_eq p.activation q.activation && (nat_eq p.variable q.variable && pointwise step_eq p.steps q.steps)

-- the part of a place to which steps lead, where there is a place
abbrev pub part : Option Place → List Step → Option Place
part None steps = None
part (Some p) steps = Some (record p { steps = p.steps ++ steps })

-- what a place holds, if it is defined
abbrev pub stored : Store → Place → Option Value
stored [] p = None
stored (entry ∷ store) p = if place_eq entry.0 p then entry.1 else stored store p

-- the store after a value was written
abbrev pub written : Store → Place → Value → Store
written store p v = (p, Some v) ∷ store

-- what a store holds, where there is a place and it is defined
abbrev pub held : Store → Option Place → Option Value
held store None = None
held store (Some p) = stored store p

-- the store after a value was written, where there is a place
abbrev pub kept : Store → Option Place → Value → Store
kept store None v = store
kept store (Some p) v = written store p v

-- the store after a place became undefined
abbrev pub undefined : Store → Place → Store
undefined store p = (p, None) ∷ store

-- the store after a place became undefined, where there is a place
abbrev pub forgotten : Store → Option Place → Store
forgotten store None = store
forgotten store (Some p) = undefined store p

-- the first steps of a row of steps
abbrev pub is_beginning : List Step → List Step → Bool
is_beginning [] steps = Bool.true
is_beginning (s ∷ ss) [] = false
is_beginning (s ∷ ss) (t ∷ ts) = step_eq s t && is_beginning ss ts

-- one place is a part of the other, or they are the same
abbrev pub overlap : Place → Place → Bool
overlap p q =
    nat_eq p.activation q.activation
    && (nat_eq p.variable q.variable
    && (if is_beginning p.steps q.steps then Bool.true else is_beginning q.steps p.steps))
