-- What a piece of a program does: from a state to a reply, which gives a value or stops (ISO 7185:1990, 6.7, 6.8).
-- It says nothing of how long that takes.
use Rattle.std.specs.Prelude.{ℕ, zero, suc, ℤ, pos, negsuc, ◌-◌, ◌++◌, ◌&&◌, Bool, List, [], ◌∷◌, Option, Some, None}
use Rattle.std.specs.Prelude.{if◌then◌else◌, int_le, length, map, replicate, take, codes}
use Rattle.std.specs.Fmt.{signed_decimal}
use Rattle.members.specs.Members as sets
use Rattle.text_input.specs.declared.InputFault.TheVariants.{EndOfInput}
use Rattle.text_input.specs.Input.{Reading, Reads, Fails, Ends, is_at_end}
use Rattle.types.specs.declared.form.OrdinalRange.{OrdinalRange}
use Rattle.types.specs.declared.form.Step.{Step}
use Rattle.typed_tree.specs.declared.tree.Representation.{Representation}
use Rattle.typed_tree.specs.declared.tree.Representation.TheVariants as representation
use Rattle.meaning.specs.declared.outcome.Ending.{Ending}
use Rattle.meaning.specs.declared.outcome.Ending.TheVariants as ending
use Rattle.meaning.specs.declared.value.Value.{Value}
use Rattle.meaning.specs.declared.value.Value.TheVariants.{Number, Members}
use Rattle.meaning.specs.Integers.{byte_of, is_integer_number, is_true, is_within}
use Rattle.meaning.specs.Store.{Environment, Place, Store, held, kept, forgotten, part}

-- an entry into the statement or expression with this number, with the environment, which tells the finished turns too,
-- and the store there; for theorems alone
pub record Visit : Type 0 where
  pub number : ℕ
  pub environment : Environment
  pub store : Store

-- what a run has made so far: the store, the input that is left, the output, the turns that are left, how many
-- activations there were, and the entries
pub record State : Type 0 where
  pub store : Store
  pub input : List ℕ
  pub output : List ℕ
  pub turns : ℕ
  pub activations : ℕ
  pub visited : List Visit
  -- the blocks of the activations that last, by number, the latest first
  pub living : List ℕ
  -- where no turn was left for an activation: its block, and those that lasted then
  pub starved : List ℕ

-- a value and the state after it, or an ending and the state there
pub data Reply (A : Type 0) : Type 0 where
  Gives : A → State → Reply A
  Stops : Ending → State → Reply A

-- what a piece does, from a state
abbrev pub Action : Type 0 → Type 0
Action A = State → Reply A

-- goes on from a reply
abbrev pub and_then : {A B : Type 0} → Reply A → (A → State → Reply B) → Reply B
and_then (Gives a s) next = next a s
and_then (Stops e s) next = Stops e s

-- one after the other
infixl 10 ◌>>=◌
abbrev pub ◌>>=◌ : {A B : Type 0} → Action A → (A → Action B) → Action B
(first >>= next) s = and_then (first s) next

-- a value, and nothing changes
abbrev pub give : {A : Type 0} → A → Action A
give a s = Gives a s

-- the run ends here
abbrev pub stop : {A : Type 0} → Ending → Action A
stop e s = Stops e s

-- an error at the site, unless the test holds
abbrev pub require : Bool → ℕ → Action (Unit {0})
require holds site = if holds then give tt else stop (ending.Error site)

-- the entry into a statement or expression
abbrev pub enter : ℕ → Environment → Action (Unit {0})
enter number env s =
    Gives tt (record s { visited = s.visited ++ record { number = number; environment = env; store = s.store } ∷ [] })

-- goes on with one turn less than there were, or ends where there was none
abbrev pub take_turn : ℕ → Action (Unit {0})
take_turn zero s = Stops ending.More s
take_turn (suc left) s = Gives tt (record s { turns = left })

-- uses a turn: each start of a loop's body and of a routine's block does
abbrev pub use_turn : Action (Unit {0})
use_turn s = take_turn s.turns s

-- goes on with an activation of a block more, which has the next number, and with one turn less than there were; or
-- ends where there was none
abbrev pub begin_with : ℕ → ℕ → Action ℕ
begin_with zero block s = Stops ending.More (record s { starved = block ∷ s.living })
begin_with (suc left) block s =
    Gives s.activations (record s {
      turns = left;
      activations = suc s.activations;
      living = block ∷ s.living;
    })

-- an activation of a block begins (6.2.3.2): it uses a turn, and has a number of its own
abbrev pub begin : ℕ → Action ℕ
begin block s = begin_with s.turns block s

-- the blocks of the activations that last
abbrev pub living_now : Action (List ℕ)
living_now s = Gives s.living s

-- an activation ends, and these last
abbrev pub end_with : List ℕ → Action (Unit {0})
end_with living s = Gives tt (record s { living = living })

-- a round of a loop: it tells whether another follows, and from what
abbrev pub Round : Type 0 → Type 0
Round A = A → Action (Option A)

-- another round, if one follows
abbrev pub another : {A : Type 0} → Option A → (A → Action (Unit {0})) → Action (Unit {0})
another None next = give tt
another (Some a) next = next a

-- the rounds of a loop, at most one more than a bound
abbrev pub looping : {A : Type 0} → ℕ → Round A → A → Action (Unit {0})
looping zero round a = round a >>= λ more. another more (λ b. stop ending.More)
looping (suc left) round a = round a >>= λ more. another more (looping left round)

-- a loop, from a start. A round behind which another follows uses a turn, so the bound ends no run that its turns
-- wouldn't end
abbrev pub looped : {A : Type 0} → Round A → A → Action (Unit {0})
looped round a s = looping s.turns round a s

-- the value of a place, or an error at the site where it is undefined
abbrev pub fetched : Option Value → ℕ → Action Value
fetched None site = stop (ending.Error site)
fetched (Some v) site = give v

-- the value at a place, in the store of the state; a variable that isn't visible has no place
abbrev pub fetch : Option Place → ℕ → Action Value
fetch place site s = fetched (held s.store place) site s

-- the number of a value, and the set that it is; what is no number counts as 0, what is no set as the empty one
abbrev pub number_of : Value → ℤ
number_of (Number n) = n
number_of (Members set) = pos 0

abbrev pub members_of : Value → ℕ
members_of (Number n) = sets.empty
members_of (Members set) = set

-- the values at the components of a place, in their order, or an error at the site where one of them is undefined
abbrev pub fetch_all : Option Place → List (List Step) → ℕ → Action (List Value)
fetch_all place [] site = give []
fetch_all place (steps ∷ components) site = do
  v ← fetch (part place steps) site
  values ← fetch_all place components site
  give (v ∷ values)

-- a value is written to a place, if there is one
abbrev pub store : Option Place → Value → Action (Unit {0})
store place v s = Gives tt (record s { store = kept s.store place v })

-- values are written to the components of a place, in their order
abbrev pub store_all : Option Place → List (List Step) → List Value → Action (Unit {0})
store_all place [] values = give tt
store_all place (steps ∷ components) [] = give tt
store_all place (steps ∷ components) (v ∷ values) = do
  _ ← store (part place steps) v
  store_all place components values

-- what a place holds becomes undefined, if there is a place
abbrev pub undefine : Option Place → Action (Unit {0})
undefine place s = Gives tt (record s { store = forgotten s.store place })

-- bytes are put behind the output
abbrev pub write : List ℕ → Action (Unit {0})
write bytes s = Gives tt (record s { output = s.output ++ bytes })

-- the bytes that were read are taken from the input; else the run ends at the point, also where nothing is left
abbrev pub taken : {A : Type 0} → ℕ → Reading A → Action A
taken point (Reads a rest) s = Gives a (record s { input = rest })
taken point (Fails fault) s = Stops (ending.Input point fault) s
taken point Ends s = Stops (ending.Input point EndOfInput) s

-- what is read of the input that is left, at a point
abbrev pub take_in : {A : Type 0} → ℕ → (List ℕ → Reading A) → Action A
take_in point reading s = taken point (reading s.input) s

-- nothing is left of the input
abbrev pub at_end : Action Bool
at_end s = Gives (is_at_end s.input) s

-- a value in the range of an ordinal type (6.4.2), and a set of which each member is (6.4.6); each range lies in that
-- of integer
abbrev pub is_in : OrdinalRange → Value → Bool
is_in range (Number n) = is_integer_number n && is_within range.first range.last n
is_in range (Members set) = sets.is_within set range.first range.last

-- a width that may be (6.9.3.1): at least 1
abbrev pub is_positive : ℤ → Bool
is_positive n = int_le (pos 1) n

-- how many places a width gives
abbrev pub places : ℤ → ℕ
places (pos n) = n
places (negsuc n) = 0

-- a character, set right in a width and never cut (6.9.3.2)
abbrev pub char_text : ℤ → ℤ → List ℕ
char_text n width = replicate (places width - 1) 32 ++ byte_of n ∷ []

-- an integer, set right in a width and never cut (6.9.3.3)
abbrev pub integer_text : ℤ → ℤ → List ℕ
integer_text n width = replicate (places width - length (signed_decimal n)) 32 ++ signed_decimal n

-- a string, set right in a width or cut to its first characters (6.9.3.6)
abbrev pub string_text : List ℕ → ℤ → List ℕ
string_text text width = replicate (places width - length text) 32 ++ take (places width) text

-- a Boolean is written as a string (6.9.3.5)
abbrev pub boolean_text : ℤ → ℤ → List ℕ
boolean_text n width = string_text (if is_true n then codes "true" else codes "false") width

-- the components of a string, as they are written in a width
abbrev pub row_text : List Value → ℤ → List ℕ
row_text components width = string_text (map (λ v. byte_of (number_of v)) components) width

-- the number of an ordinal as it is written in a width
abbrev pub text_of : Representation → ℤ → ℤ → List ℕ
text_of representation.Char n width = char_text n width
text_of representation.Integer n width = integer_text n width
text_of representation.Boolean n width = boolean_text n width
