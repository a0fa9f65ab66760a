-- What the operations of the language answer: a number, or the site of an error; the numbers and arms that a test lets
-- through (ISO 7185:1990, 6.7.2, 6.8.3, 6.9.3).
-- It says nothing of how they are calculated.
use Rattle.std.specs.Prelude.{◌≡◌, ℕ, ℤ, List, [], ◌∷◌, Option, Some, None, Result, Ok, Err, Vec}
use Rattle.std.specs.Prelude.{int_lt, if◌then◌else◌}
use Rattle.std.specs.declared.alloc.Global.{Global}
use Rattle.members.specs.Members as sets
use Rattle.types.specs.declared.form.OrdinalRange.{OrdinalRange}
use Rattle.typed_tree.specs.declared.tree.Direction.{Direction}
use Rattle.typed_tree.specs.declared.tree.Direction.TheVariants.{To, DownTo}
use Rattle.typed_tree.specs.declared.tree.Dyadic.{Dyadic}
use Rattle.typed_tree.specs.declared.tree.ForHead.{ForHead}
use Rattle.typed_tree.specs.declared.tree.RangeTest.{RangeTest}
use Rattle.typed_tree.specs.declared.tree.Stmt.{Stmt}
use Rattle.meaning.specs.declared.outcome.Ending.TheVariants as ending
use Rattle.meaning.specs.declared.value.Value.{Value}
use Rattle.meaning.specs.declared.value.Value.TheVariants.{Number}
use Rattle.meaning.specs.Effect.{State, Action, ◌>>=◌, give, stop, require, is_in, is_positive, number_of}
use Rattle.meaning.specs.Meaning.{combined, is_among}
use Rattle.meaning.specs.Counting.{has_values, next_value}

-- a value or a number, or an error at a site
abbrev pub answered : {A : Type 0} → Result A ℕ → Action A
answered (Ok v) = give v
answered (Err site) = stop (ending.Error site)

-- a result is what an action gives, or the site of the error where it stops
abbrev pub Answers : {A : Type 0} → Action A → Result A ℕ → Type 0
Answers action result = (s : State) → action s ≡ answered result s

-- a number in a range, or the site of its test
abbrev pub number_tested : RangeTest → ℤ → Result ℤ ℕ
number_tested fits n = if is_in fits.range (Number n) then Ok n else Err fits.site

-- an index in a range, by its number, or the site of its test
abbrev pub index_tested : RangeTest → Value → Result ℤ ℕ
index_tested fits v = if is_in fits.range v then Ok (number_of v) else Err fits.site

-- two bounds, the first tested first
abbrev pub both_bounds : Result ℤ ℕ → Result ℤ ℕ → Result (Option (ℤ × ℤ)) ℕ
both_bounds (Err site) last = Err site
both_bounds (Ok first) (Err site) = Err site
both_bounds (Ok first) (Ok last) = Ok (Some (first, last))

-- the bounds of a for, if they leave any value between them
abbrev pub bounds_tested : ForHead → ℤ → ℤ → Result (Option (ℤ × ℤ)) ℕ
bounds_tested head first last =
    if has_values head.direction first last
    then both_bounds (number_tested head.first.fits first) (number_tested head.last.fits last)
    else Ok None

-- the arm at a value of the index of a case, if any constants hold it
abbrev pub arm_at : List (Vec ℤ Global) → List Stmt → ℤ → Option Stmt
arm_at [] arms n = None
arm_at (row ∷ rows) [] n = None
arm_at (row ∷ rows) (arm ∷ arms) n = if is_among row.items n then Some arm else arm_at rows arms n

-- the next value of a control variable on its way to the last one
abbrev pub value_before : Direction → ℤ → ℤ → Option ℤ
value_before To last n = if int_lt n last then Some (next_value To n) else None
value_before DownTo last n = if int_lt last n then Some (next_value DownTo n) else None

-- a value, if it lies in a range
abbrev pub checked : OrdinalRange → Value → Option Value
checked range v = if is_in range v then Some v else None

-- an operation on two numbers, as values
abbrev pub numbers_both : Dyadic → Value → Value → Action Value
numbers_both operation a b = combined operation (number_of a) (number_of b) >>= λ n. give (Number n)

-- a number, if it can be a member of a set
abbrev pub member_at : ℤ → Option ℤ
member_at n = if sets.can_be_member n then Some n else None

-- a width, tested at a site
abbrev pub positive : ℕ → ℤ → Action ℤ
positive site w = do
  _ ← require (is_positive w) site
  give w
