-- The ways that typing goes, from what is known at one place of a program to what is known at another, step by step; and
-- that a passing goes such a way whatever it answers. Each step says what it changes and which marks it leaves, and nothing of
-- answers. So what holds of no step and of two ways one behind the other holds of each form, as soon as it holds of each step.
use Rattle.std.proofs.Common.{◌≡◌, ℕ, suc, ◌+◌, ◌-◌, ◌<◌, Bool, true, false, if◌then◌else◌, nat_eq, nat_le, List, [], ◌∷◌, ◌++◌, length, take, Some, Result, Ok}
use Rattle.std.proofs.Common.{Err, IfOk}
use Rattle.std.proofs.Common.{slice_get, refl, arith}
use Rattle.std.specs.List.{flat_map, list_all, list_any}
use Rattle.std.proofs.lemmas.Bool.Decides.{nat_tests}
use Rattle.place.specs.declared.Place.{Place}
use Rattle.syntax_tree.specs.declared.Name.{Name}
use Rattle.types.specs.Forms.{Form, Set}
use Rattle.types.specs.declared.form.TypeId.{TypeId}
use Rattle.types.specs.Types.{form_at}
use Rattle.scopes.specs.Scopes.{Region, define, opened_with, outer}
use Rattle.scopes.specs.declared.denotation.Denotation.{Denotation}
use Rattle.scopes.specs.declared.denotation.File.{File}
use Rattle.scopes.specs.declared.denotation.File.TheVariants as file
use Rattle.scopes.specs.declared.fault.ScopeFault.{ScopeFault}
use Rattle.typed_tree.specs.declared.fault.TypeFault.{TypeFault}
use Rattle.typed_tree.specs.declared.fault.TypeFault.TheVariants.{TooMany}
use Rattle.typed_tree.specs.declared.site.SiteKind.{SiteKind}
use Rattle.typed_tree.specs.declared.tree.Variable.{Variable}
use Rattle.typed_tree.specs.declared.tree.VariableKind.{VariableKind}
use Rattle.typed_tree.specs.Accesses.{root_of}
use Rattle.typed_tree.specs.WellFormed.{most_entries, most_numbered}
use Rattle.typed_tree.specs.Look.{Mark, Look, BlockEnds, Controls, ForEnds, Target, WholeTarget, mark_blocks, mark_entries, mark_loops}
use Rattle.typing.specs.Names.{folded}
use Rattle.typing.specs.Passing.{Headed, Enclosing, OpenRecord}
use Rattle.typing.specs.Passing.{Passed, After, Passing, after, behind_marks, given, by_types, pure, fail, mark}
use Rattle.typing_rules.specs.Checked.{Checked, and_then, told}
use Rattle.typing.specs.Passing.{each, ◌>>=◌, ◌>>?◌}
use Rattle.typing.specs.Statements.{for_body}
use Rattle.typing.specs.Steps as Steps

-- ---- steps and ways

-- whose variables may be declared on a way, and names defined: nobody's, those of a block of a number, or anyone's, where blocks
-- begin and end too
pub data Owner : Type 0 where
  Nobody : Owner
  Of : ℕ → Owner
  Anyone : Owner

abbrev pub Owns : Owner → ℕ → Type 0
Owns Nobody block = ⊥
Owns (Of number) block = block ≡ number
Owns Anyone block = Unit {0}

abbrev pub Defines : Owner → Type 0
Defines Nobody = ⊥
Defines other = Unit {0}

abbrev pub IsNoSet : Form → Type 0
IsNoSet (Set packed host first last) = ⊥
IsNoSet other = Unit {0}

-- which forms of types are added on a way: where no names are defined, none of sets
abbrev pub Adds : Owner → Form → Type 0
Adds Nobody form = IsNoSet form
Adds other form = Unit {0}

pub defined_adds : (owner : Owner) → Defines owner → (form : Form) → Adds owner form
defined_adds Nobody defines form = absurd defines
defined_adds (Of number) defines form = tt
defined_adds Anyone defines form = tt

pub no_set_adds : (owner : Owner) (form : Form) → IsNoSet form → Adds owner form
no_set_adds Nobody form no_set = no_set
no_set_adds (Of number) form no_set = tt
no_set_adds Anyone form no_set = tt

-- the numbers that a mark has: of entries, of loops, and of blocks that end
abbrev pub numbers_of : Mark → List ℕ × List ℕ × List ℕ
numbers_of one = (mark_entries one, mark_loops one, mark_blocks one)

-- the roots of the variables that a mark tells as assigned, and of the result of the function whose block it ends
abbrev pub targets_at : Mark → List ℕ
targets_at (Target origin selectors indexes) = root_of origin ∷ []
targets_at (WholeTarget origin selectors indexes type_id) = root_of origin ∷ []
targets_at other = []

abbrev pub results_at : Mark → List ℕ
results_at (BlockEnds number around parameters (Some result) end) = result.root ∷ []
results_at other = []

-- a step of a way with marks, sites and changes, or of one without; from so many regions that were opened on the way to so many
pub data Step : Bool → Owner → ℕ → ℕ → Look → Passed → Passed → Type 0 where
  -- a token is passed
  Token : {acts : Bool} {owner : Owner} {depth : ℕ} {s : Passed} (place : Place) → Step acts owner depth depth [] s (record s { latest = place })
  -- an entry, by its number
  Entry :
      {owner : Owner} {depth : ℕ} {s : Passed} (one : Mark) → s.entries < most_entries → numbers_of one ≡ (s.entries ∷ [], [], [])
      → Step true owner depth depth (one ∷ []) s (record s { entries = s.entries + 1 })
  -- a loop, by its numbers
  Loop :
      {owner : Owner} {depth : ℕ} {s : Passed} (one : Mark) → s.entries < most_entries → s.loops < most_numbered
      → numbers_of one ≡ (s.entries ∷ [], s.loops ∷ [], [])
      → Step true owner depth depth (one ∷ []) s (record s { entries = s.entries + 1; loops = s.loops + 1 })
  -- any other form, or where one ends
  Marked : {owner : Owner} {depth : ℕ} {s : Passed} (one : Mark) → numbers_of one ≡ ([], [], []) → Step true owner depth depth (one ∷ []) s s
  Site :
      {owner : Owner} {depth : ℕ} {s : Passed} (kind : SiteKind) (place : Place) → length s.sites < Steps.most_sites
      → Step true owner depth depth [] s (record s { sites = s.sites ++ (kind, place) ∷ []; latest = place })
  Point :
      {owner : Owner} {depth : ℕ} {s : Passed} (place : Place) → length s.points < Steps.most_sites
      → Step true owner depth depth [] s (record s { points = s.points ++ place ∷ []; latest = place })
  -- a variable may be changed from here on
  Threat : {owner : Owner} {depth : ℕ} {s : Passed} (root : ℕ) → Step true owner depth depth [] s (record s { threatened = Steps.with_one s.threatened root })
  -- a type and the characters of a string, by their numbers
  Typed :
      {acts : Bool} {owner : Owner} {depth : ℕ} {s : Passed} (form : Form) → Adds owner form
      → Step acts owner depth depth [] s (record s { types = s.types ++ form ∷ [] })
  Text :
      {acts : Bool} {owner : Owner} {depth : ℕ} {s : Passed} (characters : List ℕ)
      → Step acts owner depth depth [] s (record s { texts = s.texts ++ characters ∷ [] })
  -- a file is a program parameter: whether each is
  Given :
      {acts : Bool} {owner : Owner} {depth : ℕ} {s : Passed} (input output : Bool)
      → Step acts owner depth depth [] s (record s { has_input = input; has_output = output })
  -- a name is defined
  Define :
      {acts : Bool} {owner : Owner} {depth : ℕ} {s : Passed} (name : List ℕ) (denotation : Denotation) (regions : List Region) → Defines owner
      → define name denotation s.regions ≡ Ok regions → Step acts owner depth depth [] s (record s { regions = regions })
  -- a variable, and the cells that are counted then
  Declare :
      {acts : Bool} {owner : Owner} {depth : ℕ} {s : Passed} (variable : Variable) (cells : ℕ) → Owns owner variable.block
      → Step acts owner depth depth [] s (record s { variables = s.variables ++ variable ∷ []; enclosing = record (s.enclosing) { cells = cells } })
  -- a region is opened, or closed
  Open : {acts : Bool} {depth : ℕ} {s : Passed} (region : Region) → Step acts Anyone depth (suc depth) [] s (record s { regions = region ∷ s.regions })
  Close : {acts : Bool} {depth : ℕ} {s : Passed} → Step acts Anyone (suc depth) depth [] s (record s { regions = outer s.regions })
  -- a record of a with is opened, whose fields are the names of a region, or closed
  Record :
      {owner : Owner} {depth : ℕ} {s : Passed} (region : Region) (opened : OpenRecord)
      → Step true owner depth (suc depth) [] s (record s { regions = region ∷ s.regions; records = s.records ++ opened ∷ [] })
  RecordEnds :
      {owner : Owner} {depth : ℕ} {s : Passed}
      → Step true owner (suc depth) depth [] s (record s { regions = outer s.regions; records = take (length s.records - 1) s.records })
  -- a block ends whose result, if it has one, is assigned
  Ended :
      {depth : ℕ} {s : Passed} (one : Mark) → mark_entries one ≡ [] → mark_loops one ≡ []
      → list_all (λ root. list_any (nat_eq root) s.assigned) (results_at one) ≡ true → Step true Anyone depth depth (one ∷ []) s s
  -- another block is round the place, or other routines of it wait
  Block : {acts : Bool} {depth : ℕ} {s : Passed} (enclosing : Enclosing) → Step acts Anyone depth depth [] s (record s { enclosing = enclosing })
  Heading :
      {acts : Bool} {depth : ℕ} {s : Passed} (headed : Headed) → Step acts Anyone depth depth [] s (record s { headings = s.headings ++ headed ∷ [] })

abbrev pub with_result : ℕ → Passed → Passed
with_result root s = record s { assigned = Steps.with_one s.assigned root }

abbrev pub with_control : ℕ → Passed → Passed
with_control root s = record s { controls = s.controls ++ root ∷ [] }

abbrev pub without_control : Passed → Passed
without_control s = record s { controls = take (length s.controls - 1) s.controls }

pub data Way : Bool → Owner → ℕ → ℕ → Look → Passed → Passed → Type 0 where
  Stay : {acts : Bool} {owner : Owner} {depth : ℕ} {s : Passed} → Way acts owner depth depth [] s s
  One : {acts : Bool} {owner : Owner} {from to : ℕ} {look : Look} {old new : Passed} → Step acts owner from to look old new
      → Way acts owner from to look old new
  Then :
      {acts : Bool} {owner : Owner} {from between to : ℕ} {look more : Look} {old now new : Passed} → Way acts owner from between look old now
      → Way acts owner between to more now new → Way acts owner from to (look ++ more) old new
  -- the statement of a for
  Controlled :
      {owner : Owner} {depth : ℕ} {look : Look} {old new : Passed} (root : ℕ) → Way true owner depth depth look (with_control root old) new
      → Way true owner depth depth (Controls root ∷ (look ++ (ForEnds ∷ []))) old (without_control new)
  -- a result is assigned, and then its target is told
  Assigned :
      {owner : Owner} {depth : ℕ} {look : Look} {old new : Passed} (root : ℕ) → Way true owner depth depth look (with_result root old) new
      → list_any (nat_eq root) (flat_map targets_at look) ≡ true → Way true owner depth depth look old new

-- whatever is answered, what is known before and behind is related so, and it looks so
abbrev pub WayGoes : {A : Type 0} → (Look → Passed → Passed → Type 0) → Passed → Checked (After A) → Type 0
WayGoes R old outcome = IfOk outcome (λ a. R a.look old a.passed)

pub record Walks (R : Look → Passed → Passed → Type 0) {A : Type 0} (p : Passing A) : Type 0 where
  pub walks : (old : Passed) → WayGoes R old (p old)

-- the same, and the answer is such a one
pub record Tells (R : Look → Passed → Passed → Type 0) {A : Type 0} (p : Passing A) (Says : A → Type 0) : Type 0 where
  pub tells : (old : Passed) → IfOk (p old) (λ a. R a.look old a.passed × Says a.answer)

-- ---- one behind another

walk_tells : {R : Look → Passed → Passed → Type 0} {A : Type 0} {p : Passing A} → Walks R p → Tells R p (λ _. Unit {0})
walk_tells {R = R} {A = A} {p = p} walks = record { tells = λ old. by old (p old) (walks.walks old) }
  where
    by : (old : Passed) (outcome : Checked (After A)) → WayGoes R old outcome → IfOk outcome (λ a. R a.look old a.passed × Unit {0})
    by old (Ok a) way = (way, tt)
    by old (Err why) way = tt

module _ {acts : Bool} {owner : Owner} {A B : Type 0} where
  then_goes : (from between to : ℕ) (Says : A → Type 0) (f : A → Passing B) → ((a : A) → Says a → Walks (Way acts owner between to) (f a)) → (old : Passed)
      (outcome : Checked (After A)) → IfOk outcome (λ a. Way acts owner from between a.look old a.passed × Says a.answer)
      → WayGoes (Way acts owner from to) old (and_then outcome (λ a. behind_marks a.look (f a.answer a.passed)))
  then_goes from between to Says f walks old (Err why) told = tt
  then_goes from between to Says f walks old (Ok a) told = by (f a.answer a.passed) ((walks a.answer told.1).walks a.passed)
    where
      by : (outcome : Checked (After B)) → WayGoes (Way acts owner between to) a.passed outcome → WayGoes (Way acts owner from to) old
          (behind_marks a.look outcome)
      by (Ok b) more = Then told.0 more
      by (Err why) more = tt

  pub tells_then : {from between to : ℕ} {p : Passing A} {Says : A → Type 0} {f : A → Passing B} → Tells (Way acts owner from between) p Says
      → ((a : A) → Says a → Walks (Way acts owner between to) (f a)) → Walks (Way acts owner from to) (p >>= f)
  tells_then {from = from} {between = between} {to = to} {p = p} {Says = Says} {f = f} first rest = record {
    walks = λ old. then_goes from between to Says f rest old (p old) (first.tells old);
  }

  pub then_walks : {from between to : ℕ} {p : Passing A} {f : A → Passing B} → Walks (Way acts owner from between) p
      → ((a : A) → Walks (Way acts owner between to) (f a)) → Walks (Way acts owner from to) (p >>= f)
  then_walks {p = p} first rest = tells_then {p = p} {Says = λ _. Unit {0}} (walk_tells first) (λ a _. rest a)

  told_on : (from between to : ℕ) (Says : A → Type 0) (More : B → Type 0) (f : A → Passing B)
      → ((a : A) → Says a → Tells (Way acts owner between to) (f a) More) → (old : Passed) (outcome : Checked (After A))
      → IfOk outcome (λ a. Way acts owner from between a.look old a.passed × Says a.answer)
      → IfOk (and_then outcome (λ a. behind_marks a.look (f a.answer a.passed))) (λ b. Way acts owner from to b.look old b.passed × More b.answer)
  told_on from between to Says More f rest old (Err why) told = tt
  told_on from between to Says More f rest old (Ok a) told = by (f a.answer a.passed) ((rest a.answer told.1).tells a.passed)
    where
      by : (outcome : Checked (After B)) → IfOk outcome (λ b. Way acts owner between to b.look a.passed b.passed × More b.answer)
          → IfOk (behind_marks a.look outcome) (λ b. Way acts owner from to b.look old b.passed × More b.answer)
      by (Ok b) more = (Then told.0 more.0, more.1)
      by (Err why) more = tt

  pub tells_on : {from between to : ℕ} {p : Passing A} {Says : A → Type 0} {More : B → Type 0} {f : A → Passing B}
      → Tells (Way acts owner from between) p Says → ((a : A) → Says a → Tells (Way acts owner between to) (f a) More)
      → Tells (Way acts owner from to) (p >>= f) More
  tells_on {from = from} {between = between} {to = to} {p = p} {Says = Says} {More = More} {f = f} first rest = record {
    tells = λ old. told_on from between to Says More f rest old (p old) (first.tells old);
  }

  pub then_tells : {from between to : ℕ} {p : Passing A} {More : B → Type 0} {f : A → Passing B} → Walks (Way acts owner from between) p
      → ((a : A) → Tells (Way acts owner between to) (f a) More) → Tells (Way acts owner from to) (p >>= f) More
  then_tells {p = p} first rest = tells_on {p = p} {Says = λ _. Unit {0}} (walk_tells first) (λ a _. rest a)

  -- the same among regions that stay open
  pub goes_on : {depth : ℕ} {p : Passing A} {f : A → Passing B} → Walks (Way acts owner depth depth) p
      → ((a : A) → Walks (Way acts owner depth depth) (f a)) → Walks (Way acts owner depth depth) (p >>= f)
  goes_on first rest = then_walks first rest

module _ {A B : Type 0} where
  tested_tells : (R : Look → Passed → Passed → Type 0) (Says : B → Type 0) (test : List Form → A → Checked B)
      → ((types : List Form) (a : A) (b : B) → test types a ≡ Ok b → Says b)
      → (old : Passed) (outcome : Checked (After A)) → WayGoes R old outcome
      → IfOk (and_then outcome (λ a. and_then (test a.passed.types a.answer) (λ b. Ok (after b a.look a.passed)))) (λ b. R b.look old b.passed × Says b.answer)
  tested_tells R Says test says old (Err why) way = tt
  tested_tells R Says test says old (Ok a) way = by (test a.passed.types a.answer) (says a.passed.types a.answer)
    where
      by : (checked : Checked B) → ((b : B) → checked ≡ Ok b → Says b)
          → IfOk (and_then checked (λ b. Ok (after b a.look a.passed))) (λ b. R b.look old b.passed × Says b.answer)
      by (Ok b) it = (way, it b refl)
      by (Err why) it = tt

  pub test_tells : {R : Look → Passed → Passed → Type 0} {p : Passing A} (Says : B → Type 0) (test : List Form → A → Checked B) → Walks R p
      → ((types : List Form) (a : A) (b : B) → test types a ≡ Ok b → Says b) → Tells R (p >>? test) Says
  test_tells {R = R} {p = p} Says test first says = record { tells = λ old. tested_tells R Says test says old (p old) (first.walks old) }

told_goes : {R : Look → Passed → Passed → Type 0} {A : Type 0} {p : Passing A} {Says : A → Type 0} → Tells R p Says → Walks R p
told_goes {R = R} {A = A} {p = p} {Says = Says} told = record { walks = λ old. by old (p old) (told.tells old) }
  where
    by : (old : Passed) (outcome : Checked (After A)) → IfOk outcome (λ a. R a.look old a.passed × Says a.answer) → WayGoes R old outcome
    by old (Ok a) it = it.0
    by old (Err why) it = tt

pub test_walks : {R : Look → Passed → Passed → Type 0} {A B : Type 0} {p : Passing A} (test : List Form → A → Checked B) → Walks R p → Walks R (p >>? test)
test_walks test first = told_goes (test_tells (λ _. Unit {0}) test first (λ types a b is. tt))

checked_tells : {A : Type 0} (R : Look → Passed → Passed → Type 0) (Says : A → Type 0) (old : Passed) → R [] old old → (checked : Checked A)
    → ((a : A) → checked ≡ Ok a → Says a) → IfOk (and_then checked (λ a. Ok (after a [] old))) (λ a. R a.look old a.passed × Says a.answer)
checked_tells R Says old stay (Ok a) says = (stay, says a refl)
checked_tells R Says old stay (Err why) says = tt

module _ {acts : Bool} {owner : Owner} {depth : ℕ} {A : Type 0} where
  pub pure_walks : (a : A) → Walks (Way acts owner depth depth) (pure a)
  pure_walks a = record { walks = λ old. Stay }

  pub pure_tells : (Says : A → Type 0) (a : A) → Says a → Tells (Way acts owner depth depth) (pure a) Says
  pure_tells Says a says = record { tells = λ old. (Stay, says) }

  pub fail_walks : (why : TypeFault) → Walks (Way acts owner depth depth) {A = A} (fail why)
  fail_walks why = record { walks = λ old. tt }

  pub given_tells : (Says : A → Type 0) (checked : Checked A) → ((a : A) → checked ≡ Ok a → Says a) → Tells (Way acts owner depth depth) (given checked) Says
  given_tells Says checked says = record { tells = λ old. checked_tells (Way acts owner depth depth) Says old Stay checked says }

  pub given_walks : (checked : Checked A) → Walks (Way acts owner depth depth) (given checked)
  given_walks checked = told_goes (given_tells (λ _. Unit {0}) checked (λ a is. tt))

  pub by_types_walks : (test : List Form → Checked A) → Walks (Way acts owner depth depth) (by_types test)
  by_types_walks test = record { walks = λ old. (given_walks (test old.types)).walks old }

module _ {acts : Bool} {owner : Owner} {depth : ℕ} {A : Type 0} where
  pub each_walks : (step : A → Passing (Unit {0})) (forms : List A) → ((a : A) → Walks (Way acts owner depth depth) (step a))
      → Walks (Way acts owner depth depth) (each step forms)
  each_walks step [] walks = pure_walks tt
  each_walks step (form ∷ forms) walks = then_walks (walks form) (λ _. each_walks step forms walks)

-- ---- steps

module _ (R : Look → Passed → Passed → Type 0) {A : Type 0} (old : Passed) where
  unless_goes : (test : Bool) (why : TypeFault) (a : After A) → (test ≡ false → R a.look old a.passed) → WayGoes R old (if test then Err why else Ok a)
  unless_goes true why a way = tt
  unless_goes false why a way = way refl

  if_goes : (test : Bool) (why : TypeFault) (a : After A) → R a.look old a.passed → WayGoes R old (if test then Ok a else Err why)
  if_goes true why a way = way
  if_goes false why a way = tt

  answered_goes : {B : Type 0} (checked : Checked B) (f : B → After A) → ((b : B) → checked ≡ Ok b → R (f b).look old (f b).passed)
      → WayGoes R old (and_then checked (λ b. Ok (f b)))
  answered_goes (Ok b) f way = way b refl
  answered_goes (Err why) f way = tt

pub below : (a b : ℕ) → nat_le a b ≡ false → b < a
below a b h = grind (arith, nat_tests)

module _ {acts : Bool} {owner : Owner} {depth : ℕ} where
  pub pass_walks : (place : Place) → Walks (Way acts owner depth depth) (Steps.pass place)
  unfolding Steps.pass
  pass_walks place = record { walks = λ old. One (Token place) }

  pub find_walks : (name : Name) → Walks (Way acts owner depth depth) (Steps.find name)
  unfolding Steps.find
  find_walks name = record { walks = λ old. answered_goes (Way acts owner depth depth) old _ _ (λ denotation is. One (Token name.place)) }

  pub may_control_walks : (place : Place) (root : ℕ) → Walks (Way acts owner depth depth) (Steps.may_control place root)
  unfolding Steps.may_control
  may_control_walks place root = record { walks = λ old. if_goes (Way acts owner depth depth) old _ _ _ Stay }

  pub add_type_walks : (place : Place) (form : Form) → Adds owner form → Walks (Way acts owner depth depth) (Steps.add_type place form)
  unfolding Steps.add_type
  add_type_walks place form adds = record { walks = λ old. answered_goes (Way acts owner depth depth) old _ _ (λ id is. One (Typed form adds)) }

  pub host_type_walks : (id : TypeId) → Walks (Way acts owner depth depth) (Steps.host_type id)
  unfolding Steps.host_type
  host_type_walks id = record { walks = λ old. Stay }

  pub keep_text_walks : (characters : List ℕ) → Walks (Way acts owner depth depth) (Steps.keep_text characters)
  unfolding Steps.keep_text
  keep_text_walks characters = record { walks = λ old. One (Text characters) }

  pub text_at_walks : (number : ℕ) → Walks (Way acts owner depth depth) (Steps.text_at number)
  unfolding Steps.text_at
  text_at_walks number = record { walks = λ old. Stay }

  pub latest_walks : Walks (Way acts owner depth depth) Steps.latest
  unfolding Steps.latest
  latest_walks = record { walks = λ old. Stay }

  pub give_file_walks : (file : File) → Walks (Way acts owner depth depth) (Steps.give_file file)
  unfolding Steps.give_file
  give_file_walks file.Input = record { walks = λ old. One (Given true old.has_output) }
  give_file_walks file.Output = record { walks = λ old. One (Given old.has_input true) }

  pub wants_file_walks : (file : File) (place : Place) → Walks (Way acts owner depth depth) (Steps.wants_file file place)
  unfolding Steps.wants_file
  wants_file_walks file place = record { walks = λ old. if_goes (Way acts owner depth depth) old _ _ _ Stay }

  pub next_root_walks : (place : Place) → Walks (Way acts owner depth depth) (Steps.next_root place)
  unfolding Steps.next_root
  next_root_walks place = record { walks = λ old. unless_goes (Way acts owner depth depth) old _ _ _ (λ _. Stay) }

  pub enclosing_now_walks : Walks (Way acts owner depth depth) Steps.enclosing_now
  unfolding Steps.enclosing_now
  enclosing_now_walks = record { walks = λ old. Stay }

  pub may_nest_walks : (place : Place) → Walks (Way acts owner depth depth) (Steps.may_nest place)
  unfolding Steps.may_nest
  may_nest_walks place = record { walks = λ old. if_goes (Way acts owner depth depth) old _ _ _ Stay }

  pub next_block_walks : (place : Place) → Walks (Way acts owner depth depth) (Steps.next_block place)
  unfolding Steps.next_block
  next_block_walks place = record { walks = λ old. unless_goes (Way acts owner depth depth) old _ _ _ (λ _. Stay) }

  pub heading_at_walks : (number : ℕ) → Walks (Way acts owner depth depth) (Steps.heading_at number)
  unfolding Steps.heading_at
  heading_at_walks number = record { walks = λ old. Stay }

  pub variable_at_walks : (root : ℕ) → Walks (Way acts owner depth depth) (Steps.variable_at root)
  unfolding Steps.variable_at
  variable_at_walks root = record { walks = λ old. Stay }

  pub next_slot_walks : Walks (Way acts owner depth depth) Steps.next_slot
  unfolding Steps.next_slot
  next_slot_walks = record { walks = λ old. Stay }

  pub record_at_walks : (slot : ℕ) → Walks (Way acts owner depth depth) (Steps.record_at slot)
  unfolding Steps.record_at
  record_at_walks slot = record { walks = λ old. Stay }

  pub is_assigned_walks : (place : Place) (root : ℕ) → Walks (Way acts owner depth depth) (Steps.is_assigned place root)
  unfolding Steps.is_assigned
  is_assigned_walks place root = record { walks = λ old. if_goes (Way acts owner depth depth) old _ _ _ Stay }

module _ {owner : Owner} {depth : ℕ} where
  pub mark_walks : (one : Mark) → numbers_of one ≡ ([], [], []) → Walks (Way true owner depth depth) (mark one)
  mark_walks one none = record { walks = λ old. One (Marked one none) }

  pub enter_walks : (marked : ℕ → Mark) → ((number : ℕ) → numbers_of (marked number) ≡ (number ∷ [], [], []))
      → Walks (Way true owner depth depth) (Steps.enter_as marked)
  unfolding Steps.enter
  enter_walks marked entry = record { walks = λ old. by old (nat_le most_entries old.entries) refl }
    where
      by : (old : Passed) (test : Bool) → nat_le most_entries old.entries ≡ test
          → WayGoes (Way true owner depth depth) old
          (and_then (if test then Err (TooMany old.latest) else Ok (after old.entries [] (record old { entries = old.entries + 1 })))
          (λ a. behind_marks a.look (mark (marked a.answer) a.passed)))
      by old true test = tt
      by old false test = One (Entry (marked old.entries) (below most_entries old.entries test) (entry old.entries))

  pub enter_loop_walks : (marked : ℕ → ℕ → Mark) → ((n l : ℕ) → numbers_of (marked n l) ≡ (n ∷ [], l ∷ [], []))
      → Walks (Way true owner depth depth) (Steps.enter_loop marked)
  unfolding Steps.begin_loop Steps.enter
  enter_loop_walks marked entry = record { walks = λ old. by old (nat_le most_entries old.entries) refl }
    where
      numbered : (old : Passed) → old.entries < most_entries → (test : Bool) → nat_le most_numbered old.loops ≡ test
          → WayGoes (Way true owner depth depth) old
          (and_then (behind_marks {A = ℕ × ℕ} [] (and_then
          (if test then Err (TooMany old.latest) else Ok (after old.loops [] (record old { entries = old.entries + 1; loops = old.loops + 1 })))
          (λ l. behind_marks {A = ℕ × ℕ} l.look (pure {A = ℕ × ℕ} (old.entries, l.answer) l.passed))))
          (λ b. behind_marks b.look (mark (marked b.answer.0 b.answer.1) b.passed)))
      numbered old few true test = tt
      numbered old few false test =
          One (Loop (marked old.entries old.loops) few (below most_numbered old.loops test) (entry old.entries old.loops))

      by : (old : Passed) (test : Bool) → nat_le most_entries old.entries ≡ test
          → WayGoes (Way true owner depth depth) old
          (and_then (and_then (if test then Err (TooMany old.latest) else Ok (after old.entries [] (record old { entries = old.entries + 1 })))
          (λ b. behind_marks {A = ℕ × ℕ} b.look ((Steps.number_loop >>= (λ l. pure {A = ℕ × ℕ} (b.answer, l))) b.passed)))
          (λ b. behind_marks b.look (mark (marked b.answer.0 b.answer.1) b.passed)))
      by old true test = tt
      by old false test = numbered old (below most_entries old.entries test) (nat_le most_numbered old.loops) refl

  pub site_walks : (kind : SiteKind) (place : Place) → Walks (Way true owner depth depth) (Steps.site kind place)
  unfolding Steps.site
  site_walks kind place = record {
    walks = λ old. unless_goes (Way true owner depth depth) old (nat_le Steps.most_sites (length old.sites)) _ _ (λ few. One (Site kind place (below _ _ few)));
  }

  pub point_walks : (place : Place) → Walks (Way true owner depth depth) (Steps.point place)
  unfolding Steps.point
  point_walks place = record {
    walks = λ old. unless_goes (Way true owner depth depth) old (nat_le Steps.most_sites (length old.points)) _ _ (λ few. One (Point place (below _ _ few)));
  }

  pub may_change_walks : (place : Place) (root : ℕ) → Walks (Way true owner depth depth) (Steps.may_change place root)
  unfolding Steps.may_change
  may_change_walks place root = record {
    walks = λ old. unless_goes (Way true owner depth depth) old _ _ _ (λ _. by old (Steps.is_own old.enclosing.block (slice_get old.variables root)));
  }
    where
      by : (old : Passed) (own : Bool) → Way true owner depth depth [] old (if own then old else record old { threatened = Steps.with_one old.threatened root })
      by old true = Stay
      by old false = One (Threat root)

  pub open_record_walks : (place : Place) (opened : OpenRecord) → Walks (Way true owner depth (suc depth)) (Steps.open_record place opened)
  unfolding Steps.open_record
  open_record_walks place opened = record { walks = λ old. by old (nat_le most_entries (length old.records)) }
    where
      by : (old : Passed) (test : Bool)
          → WayGoes {A = Unit {0}} (Way true owner depth (suc depth)) old
          (if test then Err (TooMany place)
          else and_then (Steps.field_definitions old.types place opened.type_id (length old.records) (form_at old.types opened.type_id))
          (λ definitions. Ok (after tt [] (record old { regions = opened_with definitions ∷ old.regions; records = old.records ++ opened ∷ [] }))))
      by old true = tt
      by old false = answered_goes (Way true owner depth (suc depth)) old _ _ (λ definitions is. One (Record _ opened))

  pub close_record_walks : Walks (Way true owner (suc depth) depth) Steps.close_record
  unfolding Steps.close_record
  close_record_walks = record { walks = λ old. One RecordEnds }

  pub for_body_walks : (root : ℕ) (body : Passing (Unit {0})) → Walks (Way true owner depth depth) body
      → Walks (Way true owner depth depth) (for_body root body)
  unfolding for_body Steps.begin_control Steps.end_control
  for_body_walks root body law = record { walks = λ old. by old (body (with_control root old)) (law.walks (with_control root old)) }
    where
      by : (old : Passed) (outcome : Checked (After (Unit {0}))) → WayGoes (Way true owner depth depth) (with_control root old) outcome
          → WayGoes (Way true owner depth depth) old
          (behind_marks [] (behind_marks (Controls root ∷ [])
          (and_then outcome (λ b. behind_marks b.look (behind_marks [] (mark ForEnds (without_control b.passed)))))))
      by old (Ok b) way = Controlled root way
      by old (Err why) way = tt

-- ---- definitions

module _ {acts : Bool} {owner : Owner} {depth : ℕ} where
  pub declare_walks : (name : Name) (denotation : Denotation) → Defines owner → Walks (Way acts owner depth depth) (Steps.declare name denotation)
  unfolding Steps.declare
  declare_walks name denotation defines = record { walks = λ old. by old (define (folded name.text.now) denotation old.regions) refl }
    where
      by : (old : Passed) (outcome : Result (List Region) ScopeFault) → define (folded name.text.now) denotation old.regions ≡ outcome
          → WayGoes {A = Unit {0}} (Way acts owner depth depth) old
          (and_then (told name.place outcome) (λ regions. Ok (after tt [] (record old { regions = regions }))))
      by old (Ok regions) is = One (Define (folded name.text.now) denotation regions defines is)
      by old (Err why) is = tt

  pub reserve_walks : (place : Place) (block : ℕ) (kind : VariableKind) (type_id : TypeId) → Owns owner block
      → Walks (Way acts owner depth depth) (Steps.reserve place block kind type_id)
  unfolding Steps.reserve
  reserve_walks place block kind type_id owns = record { walks = λ old. unless_goes (Way acts owner depth depth) old _ _ _ (λ _. One (Declare _ _ owns)) }

-- ---- steps round blocks

module _ {acts : Bool} {depth : ℕ} where
  pub open_block_walks : (names : List (List ℕ)) → Walks (Way acts Anyone depth (suc depth)) (Steps.open_block names)
  unfolding Steps.open_block
  open_block_walks names = record { walks = λ old. One (Open _) }

  pub open_beside_walks : (region : Region) (names : List (List ℕ)) → Walks (Way acts Anyone depth (suc depth)) (Steps.open_beside region names)
  unfolding Steps.open_beside
  open_beside_walks region names = record { walks = λ old. One (Open _) }

  pub open_required_walks : Walks (Way acts Anyone depth (suc depth)) Steps.open_required
  unfolding Steps.open_required
  open_required_walks = record { walks = λ old. One (Open _) }

  pub close_block_walks : Walks (Way acts Anyone (suc depth) depth) Steps.close_block
  unfolding Steps.close_block
  close_block_walks = record { walks = λ old. One Close }

  pub with_enclosing_walks : (enclosing : Enclosing) → Walks (Way acts Anyone depth depth) (Steps.with_enclosing enclosing)
  unfolding Steps.with_enclosing
  with_enclosing_walks enclosing = record { walks = λ old. One (Block enclosing) }

  pub add_heading_walks : (headed : Headed) → Walks (Way acts Anyone depth depth) (Steps.add_heading headed)
  unfolding Steps.add_heading
  add_heading_walks headed = record { walks = λ old. One (Heading headed) }

-- each of these, for a search
pub ruleset walk = (
  enter_walks,
  enter_loop_walks,
  goes_on,
  test_walks,
  pure_walks,
  fail_walks,
  mark_walks,
  given_walks,
  by_types_walks,
  each_walks,
  pass_walks,
  site_walks,
  point_walks,
  find_walks,
  may_change_walks,
  may_control_walks,
  add_type_walks,
  host_type_walks,
  keep_text_walks,
  text_at_walks,
  latest_walks,
  give_file_walks,
  wants_file_walks,
  next_root_walks,
  enclosing_now_walks,
  may_nest_walks,
  next_block_walks,
  heading_at_walks,
  variable_at_walks,
  next_slot_walks,
  record_at_walks,
  is_assigned_walks,
  declare_walks,
  reserve_walks,
  with_enclosing_walks,
  add_heading_walks,
)
