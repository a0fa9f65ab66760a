-- Finished turns are told by entries, and change nothing else: two runs that differ in them alone go the same way.
use Rattle.std.specs.Prelude.{if◌then◌else◌}
use Rattle.std.proofs.Common.{◌≡◌, ℕ, zero, suc, List, [], ◌∷◌, ◌++◌, append-nil, Option, Some, None, map, slice_get, nat_eq, refl, sym, ◌∙◌, ap, subst}
use Rattle.std.proofs.Math.Path.{fun_ext}
use Rattle.text_input.specs.Input.{Reading, Reads, Fails, Ends}
use Rattle.typed_tree.specs.declared.tree.Tree.{Tree}
use Rattle.typed_tree.specs.declared.tree.Block.{Block}
use Rattle.typed_tree.specs.declared.tree.Stmt.{Stmt}
use Rattle.typed_tree.specs.declared.tree.Variable.{Variable as DeclaredVariable}
use Rattle.typed_tree.specs.declared.tree.VariableKind.{VariableKind}
use Rattle.typed_tree.specs.declared.tree.VariableKind.TheVariants as kind
use Rattle.typed_tree.specs.WellFormed.{is_one_of}
use Rattle.meaning.specs.declared.outcome.Ending.{Ending}
use Rattle.meaning.specs.declared.outcome.Ending.TheVariants as ending
use Rattle.meaning.specs.declared.value.Value.{Value}
use Rattle.meaning.specs.Store.{Environment, Place, held}
use Rattle.meaning.specs.Effect.{State, Visit, Reply, Gives, Stops, Action, Round, ◌>>=◌, and_then, give, stop, enter, take_turn, use_turn, begin_with, begin}
use Rattle.meaning.specs.Effect.{living_now, end_with, another, looping, looped, fetched, fetch, store, undefine, write, taken, take_in, at_end}
use Rattle.meaning.specs.Meaning.{Activation, Argument, Calls, activated, assign_all, calls_of, effect_of, environment_of, executed, home_of, result_of}
use Rattle.meaning.specs.Meaning.{seen_from}
use Rattle.meaning.specs.Laws.{FinishedTurnsAreOnlyTold, standing, state_after, untold, untold_reply, untold_visit}
use Rattle.meaning.proofs.Turns.{activation_of}
use Rattle.meaning.proofs.Walks.{Closed, ClosedBehind, RelatedCalls, behind, closed_behind, of_effect, of_executed}

-- from states that differ in told turns alone, the replies do
abbrev pub Alike : (A : Type 0) → Action A → Action A → Type 0
Alike A action other = (s t : State) → untold s ≡ untold t → untold_reply (action s) ≡ untold_reply (other t)

-- an action that reads no entries
plain-alike : {A : Type 0} (action : Action A) → ((s : State) → untold_reply (action s) ≡ action (untold s)) → Alike A action action
plain-alike action same s t is = same s ∙ ap action is ∙ sym (same t)

-- ---- entries

map_append : {A B : Type 0} (f : A → B) (xs ys : List A) → map f (xs ++ ys) ≡ map f xs ++ map f ys
map_append f [] ys = refl
map_append f (x ∷ xs) ys = ap (λ l. f x ∷ l) (map_append f xs ys)

enter-untold : (number : ℕ) (visible : Environment) (s : State)
    → untold_reply (enter number visible s) ≡ enter number (record visible { turns = [] }) (untold s)
enter-untold number visible s =
    let entry : Visit = record { number = number; environment = visible; store = s.store } in
    ap (λ (visits : List Visit). Gives tt (record s { visited = visits })) (map_append untold_visit s.visited (entry ∷ []))

enter-alike : (outer : List ℕ) (number : ℕ) (visible : Environment) → Alike (Unit {0}) (enter number visible) (enter number (behind outer visible))
enter-alike outer number visible s t is =
    enter-untold number visible s ∙ ap (enter number (record visible { turns = [] })) is ∙ sym (enter-untold number (behind outer visible) t)

-- ---- the other actions

fetched-untold : (found : Option Value) (site : ℕ) (s : State) → untold_reply (fetched found site s) ≡ fetched found site (untold s)
fetched-untold None site s = refl
fetched-untold (Some v) site s = refl

taken-untold : {A : Type 0} (point : ℕ) (reading : Reading A) (s : State) → untold_reply (taken point reading s) ≡ taken point reading (untold s)
taken-untold point (Reads a rest) s = refl
taken-untold point (Fails fault) s = refl
taken-untold point Ends s = refl

turn-untold : (turns : ℕ) (s : State) → untold_reply (take_turn turns s) ≡ take_turn turns (untold s)
turn-untold zero s = refl
turn-untold (suc left) s = refl

begin-untold : (turns block : ℕ) (s : State) → untold_reply (begin_with turns block s) ≡ begin_with turns block (untold s)
begin-untold zero block s = refl
begin-untold (suc left) block s = refl

give-alike : {A : Type 0} (a : A) → Alike A (give a) (give a)
give-alike a = plain-alike (give a) (λ s. refl)

stop-alike : {A : Type 0} (e : Ending) → Alike A (stop e) (stop e)
stop-alike e = plain-alike (stop e) (λ s. refl)

-- ---- one after the other

-- what a reply gives, or another value
abbrev given : {A : Type 0} → A → Reply A → A
given other (Gives a s) = a
given other (Stops e s) = other

then-alike : {A B : Type 0} (action other : Action A) (next rest : A → Action B) → Alike A action other → ((a : A) → Alike B (next a) (rest a))
    → Alike B (action >>= next) (other >>= rest)
then-alike {A} {B} action other next rest first each s t is = by (action s) (other t) (first s t is)
  where
    by : (reply answer : Reply A) → untold_reply reply ≡ untold_reply answer → untold_reply (and_then reply next) ≡ untold_reply (and_then answer rest)
    by (Gives a u) (Gives b w) same =
        let value : a ≡ b = ap (given a) same in
        let states : untold u ≡ untold w = ap (λ (r : Reply A). state_after r) same in
        subst (λ (c : A). untold_reply (next a u) ≡ untold_reply (rest c w)) value (each a u w states)
    by (Gives a u) (Stops e w) same = absurd cc
    by (Stops e u) (Gives b w) same = absurd cc
    by (Stops e u) (Stops f w) same = cc

-- ---- loops

another-alike : {A : Type 0} (more : Option A) (next rest : A → Action (Unit {0})) → ((a : A) → Alike (Unit {0}) (next a) (rest a))
    → Alike (Unit {0}) (another more next) (another more rest)
another-alike None next rest each = give-alike tt
another-alike (Some a) next rest each = each a

module _ {A : Type 0} (round other : Round A) (each : (a : A) → Alike (Option A) (round a) (other a)) where
  looping-alike : (bound : ℕ) (a : A) → Alike (Unit {0}) (looping bound round a) (looping bound other a)
  looping-alike zero a =
      then-alike (round a) (other a) (λ more. another more (λ b. stop ending.More)) (λ more. another more (λ b. stop ending.More)) (each a)
      (λ more. another-alike more (λ b. stop ending.More) (λ b. stop ending.More) (λ b. stop-alike ending.More))
  looping-alike (suc left) a =
      then-alike (round a) (other a) (λ more. another more (looping left round)) (λ more. another more (looping left other)) (each a)
      (λ more. another-alike more (looping left round) (looping left other) (looping-alike left))

  looped-alike : (a : A) → Alike (Unit {0}) (looped round a) (looped other a)
  looped-alike a s t is =
      looping-alike s.turns a s t is ∙ ap (λ bound. untold_reply (looping bound other a t)) (ap (λ (u : State). u.turns) is)

alike_closed : (outer : List ℕ) → ClosedBehind outer Alike
alike_closed outer = closed_behind outer Alike (record {
  follows = λ action other next rest first each. then-alike action other next rest first each;
  gives = λ a. give-alike a;
  errs = λ site. stop-alike (ending.Error site);
  enters = enter-alike outer;
  fetches = λ place site. plain-alike (fetch place site) (λ s. fetched-untold (held s.store place) site s);
  stores = λ place v. plain-alike (store place v) (λ s. refl);
  undefines = λ place. plain-alike (undefine place) (λ s. refl);
  writes = λ bytes. plain-alike (write bytes) (λ s. refl);
  turns = plain-alike use_turn (λ s. turn-untold s.turns s);
  takes = λ point reading. plain-alike (take_in point reading) (λ s. taken-untold point (reading s.input) s);
  asks = plain-alike at_end (λ s. refl);
  refuses = λ point why. stop-alike (ending.Input point why);
}) (λ A round other each a. looped-alike round other each a)

-- ---- calls: no finished turns of the caller's are told in an activation

module _ (tree : Tree) (number : ℕ) (block : Block) (arguments : List Argument) (outer : List ℕ) (caller : Environment) (activation : ℕ) where
  abbrev one : Activation
  one = activation_of number block arguments caller activation

  abbrev other : Activation
  other = activation_of number block arguments (behind outer caller) activation

  home-same : (root : ℕ) (way : VariableKind) → home_of one root way ≡ home_of other root way
  home-same root kind.VariableParameter = refl
  home-same root kind.Local = refl
  home-same root kind.ValueParameter = refl
  home-same root kind.Result = refl

  seen-same : (root : ℕ) (found : Option DeclaredVariable) → seen_from one root found ≡ seen_from other root found
  seen-same root None = refl
  seen-same root (Some variable) =
      ap (λ (home : Option Place). if nat_eq variable.block number then home
      else (if is_one_of block.heading.around.items variable.block then caller.variables root else None)) (home-same root variable.kind)

  environment-same : environment_of tree one ≡ environment_of tree other
  environment-same =
      ap (λ (variables : ℕ → Option Place). record { variables = variables; types = tree.types; turns = [] })
      (fun_ext (λ (root : ℕ). seen-same root (slice_get tree.variables.items root)))

  executed-same : (calls : Calls) → executed tree calls block one ≡ executed tree calls block other
  executed-same calls =
      ap (λ (visible : Environment). assign_all tree visible block.heading.parameters.items arguments
      >>= λ _. effect_of block.body (record { visible = visible; records = []; calls = calls }) >>= λ _. result_of block.heading.result visible)
      environment-same

module _ (tree : Tree) where
  activated-alike : (outer : List ℕ) (calls : Calls) → RelatedCalls Alike (alike_closed []) calls calls → (number : ℕ) (block : Option Block)
      (arguments : List Argument) (caller : Environment)
      → Alike Value (activated tree calls number block arguments caller) (activated tree calls number block arguments (behind outer caller))
  activated-alike outer calls related number None arguments caller = give-alike _
  activated-alike outer calls related number (Some block) arguments caller =
      then-alike living_now living_now _ _ (plain-alike living_now (λ s. refl))
      (λ living. then-alike (begin number) (begin number) _ _ (plain-alike (begin number) (λ s. begin-untold s.turns number s))
      (λ activation. then-alike (executed tree calls block (activation_of number block arguments caller activation))
      (executed tree calls block (activation_of number block arguments (behind outer caller) activation)) _ _
      (subst (λ (action : Action Value). Alike Value (executed tree calls block (activation_of number block arguments caller activation)) action)
      (executed-same tree number block arguments outer caller activation calls)
      (of_executed Alike (alike_closed []) tree calls calls related block (activation_of number block arguments caller activation)))
      (λ v. then-alike (end_with living) (end_with living) (λ _. give v) (λ _. give v) (plain-alike (end_with living) (λ s. refl)) (λ _. give-alike v))))

  calls-alike : (depth : ℕ) (outer : List ℕ) → RelatedCalls Alike (alike_closed outer) (calls_of tree depth) (calls_of tree depth)
  calls-alike zero outer number arguments caller = stop-alike ending.More
  calls-alike (suc depth) outer number arguments caller =
      activated-alike outer (calls_of tree depth) (calls-alike depth []) number (slice_get tree.blocks.items number) arguments caller

pub turns_are_only_told : FinishedTurnsAreOnlyTold
turns_are_only_told tree depth visible records turns statement s =
    let bare = record visible { turns = [] } in
    let calls = calls_of tree depth in
    let reply = λ (told : List ℕ). untold_reply (effect_of statement (standing tree depth (record visible { turns = told }) records) s) in
    let as_bare : (told : List ℕ) → reply [] ≡ reply told = λ told.
    subst (λ (l : List ℕ). reply [] ≡ reply l) (append-nil told)
    (of_effect Alike (alike_closed told) bare calls calls (calls-alike tree depth told) statement records s s refl) in
    sym (as_bare turns) ∙ as_bare visible.turns
