-- Typing as a computation: it passes the forms of a program in the order of the text, and either meets the first broken
-- rule, or answers what a form is, how its typed form looks, and what is then known of the program.
-- It says nothing of what the rules are.
use Rattle.std.specs.Prelude.{ℕ, ◌++◌, Bool, List, [], ◌∷◌, Option, Ok, Err}
use Rattle.place.specs.declared.Place.{Place}
use Rattle.types.specs.Forms.{Form}
use Rattle.types.specs.declared.form.TypeId.{TypeId}
use Rattle.scopes.specs.Scopes.{Region}
use Rattle.typed_tree.specs.declared.fault.TypeFault.{TypeFault}
use Rattle.typed_tree.specs.declared.tree.PathStep.{PathStep}
use Rattle.typed_tree.specs.declared.tree.Variable.{Variable}
use Rattle.typed_tree.specs.Ids.{Stands}
use Rattle.typed_tree.specs.Look.{Mark, Look}
use Rattle.typing_rules.specs.Checked.{Checked, and_then}

-- a heading that was passed: the blocks round its block, the program's first; the roots of its parameters, and of its
-- result, if it is a function; the region of its parameters; and the cells that all of these take
pub record Headed : Type 0 where
  pub around : List ℕ
  pub parameters : List ℕ
  pub result : Option ℕ
  pub region : Region
  pub cells : ℕ

-- a block that is passed: its number, the blocks round it, the cells that its variables take so far, and the routines
-- that it declared with the directive forward or whose blocks came: each with the place of its name while it waits for
-- its block
pub record Enclosing : Type 0 where
  pub block : ℕ
  pub around : List ℕ
  pub cells : ℕ
  pub waiting : List (ℕ × Option Place)

-- a record of a with: the variable in which it lies, by its root number, the way on which it lies there, and its type
pub record OpenRecord : Type 0 where
  pub root : ℕ
  pub steps : List PathStep
  pub type_id : TypeId

-- what is known at a place of a program
pub record Passed : Type 0 where
  -- the regions round the place, the innermost first
  pub regions : List Region
  -- the types, by number
  pub types : List Form
  -- the characters of the strings that constants are, by number
  pub texts : List (List ℕ)
  -- the variables that are declared, by root number
  pub variables : List Variable
  -- the headings that were passed, by the numbers of their blocks
  pub headings : List Headed
  -- the block round the place
  pub enclosing : Enclosing
  -- input is a program parameter, and output is
  pub has_input : Bool
  pub has_output : Bool
  -- the sites, by id
  pub sites : List Stands
  -- the points, by id
  pub points : List Place
  -- how many statements and expressions were entered
  pub entries : ℕ
  -- how many loops began
  pub loops : ℕ
  -- the control variables of the for statements round the place, by root number, the outermost first
  pub controls : List ℕ
  -- the records of the with statements round the place, by slot
  pub records : List OpenRecord
  -- the variables of blocks round others that those may change, by root number
  pub threatened : List ℕ
  -- the results that are assigned, by root number
  pub assigned : List ℕ
  -- the latest token that was passed
  pub latest : Place

-- what a form is, how it looks, and what is known behind it
pub record After (A : Type 0) : Type 0 where
  pub answer : A
  pub look : Look
  pub passed : Passed

abbrev pub after : {A : Type 0} → A → Look → Passed → After A
after answer look passed = record { answer = answer; look = look; passed = passed }

-- from what is known before a form
abbrev pub Passing : Type 0 → Type 0
Passing A = Passed → Checked (After A)

-- what comes behind forms that look so
abbrev pub behind_marks : {A : Type 0} → Look → Checked (After A) → Checked (After A)
behind_marks look (Ok a) = Ok (after a.answer (look ++ a.look) a.passed)
behind_marks look (Err fault) = Err fault

infixl 10 ◌>>=◌
abbrev pub ◌>>=◌ : {A B : Type 0} → Passing A → (A → Passing B) → Passing B
p >>= f = λ s. and_then (p s) (λ a. behind_marks a.look (f a.answer a.passed))

infixl 10 ◌>>◌
abbrev pub ◌>>◌ : {A B : Type 0} → Passing A → Passing B → Passing B
p >> q = p >>= (λ _. q)

-- a form, and then a test of what it is, which passes nothing
infixl 10 ◌>>?◌
abbrev pub ◌>>?◌ : {A B : Type 0} → Passing A → (List Form → A → Checked B) → Passing B
p >>? test = λ s. and_then (p s) (λ a. and_then (test a.passed.types a.answer) (λ b. Ok (after b a.look a.passed)))

abbrev pub pure : {A : Type 0} → A → Passing A
pure a = λ s. Ok (after a [] s)

abbrev pub fail : {A : Type 0} → TypeFault → Passing A
fail fault = λ s. Err fault

-- a test by the table of types, which passes nothing
abbrev pub by_types : {A : Type 0} → (List Form → Checked A) → Passing A
by_types test = λ s. and_then (test s.types) (λ a. Ok (after a [] s))

-- a test that needs nothing of what is known
abbrev pub given : {A : Type 0} → Checked A → Passing A
given checked = λ s. and_then checked (λ a. Ok (after a [] s))

abbrev pub mark : Mark → Passing (Unit {0})
mark one = λ s. Ok (after tt (one ∷ []) s)

-- one after another
abbrev pub each : {A : Type 0} → (A → Passing (Unit {0})) → List A → Passing (Unit {0})
each step [] = pure tt
each step (x ∷ xs) = step x >> each step xs
