-- In a store whose values lie in the types of their places, those of what is visible lie in the limits of its types; stores keep that, and what aliases get
-- by them is what is stored to places of their types.
use Rattle.std.proofs.Common.{arith, ◌≡◌, ⊎_elim, inl, inr, ◌∙◌, sym, ap, refl, subst, ℕ, ◌+◌, ◌<◌, Bool, true, false, ◌||◌}
use Rattle.std.proofs.Common.{nat_eq, List, [], ◌∷◌, ◌++◌, Option, Some, None, length}
use Rattle.std.specs.List.{Contains}
use Rattle.std.specs.Option.{option_and_then}
use Rattle.std.specs.Prelude.{is_some, slice_get, slice_index_or}
use Rattle.std.proofs.lemmas.Bool.{both_ways, cases_Bool, eq-eqb, eqb-true, false_from_ne_true}
use Rattle.std.proofs.lemmas.List.Folds.{list_any-append}
use Rattle.std.proofs.lemmas.Option.{same_Some, slice_get_past}
use Rattle.types.specs.Forms.{Form}
use Rattle.types.specs.Types.{is_scalar, is_structured, scalar_range_of}
use Rattle.types.specs.declared.form.OrdinalRange.{OrdinalRange}
use Rattle.types.specs.declared.form.Step.{Step}
use Rattle.types.specs.declared.form.TypeId.{TypeId}
use Rattle.typed_tree.specs.WellFormed.{is_round, is_visible, of_one, outline_of}
use Rattle.typed_tree.specs.declared.tree.Tree.{Tree}
use Rattle.typed_tree.specs.declared.tree.Variable.{Variable}
use Rattle.domain.specs.Hulls.{common-has_set_left}
use Rattle.domain.specs.Ranges.{common-has_left}
use Rattle.meaning.specs.declared.value.Value.{Value}
use Rattle.meaning.specs.declared.value.Value.TheVariants.{Members, Number}
use Rattle.meaning.specs.Store.{Environment, Place, Store, stored}
use Rattle.meaning.specs.Store as store
use Rattle.checker_rows.specs.Limits.{integer, limits_or_integer, row_limits}
use Rattle.checker_rows.specs.Rows.{Parts, Row, all_parts, is_structured_variable, no_parts, rows_of, rows_under, type_at, values_at}
use Rattle.checker_rows.proofs.Accessed.{IsLeafRow, IsOwnRow, row-is}
use Rattle.checker_rows.proofs.Numbered.{leaf-row, own-parts, own-row, own-values, own_of, some-at}
use Rattle.checker_state.specs.Holds.{IsIn, IsOfRow, component_at, moment, part_of, value_at}
use Rattle.checker_state.specs.Knows.{IsKept, Shows}
use Rattle.checker_state.specs.Loops.{is_among}
use Rattle.checker_loops.specs.Loops.{Round, all_list, touched}
use Rattle.checker_loops.specs.Pairs.{aliases_of}
use Rattle.checker_loops.proofs.Touched.{all_control}
use Rattle.checker_loops.specs.Aliases.{Stored, same_types}
use Rattle.checker_loops.proofs.AliasesHold.{AreAliased}
use Rattle.checker_loops.proofs.AliasedStores.{AreWritten, Pairs, all-pass, or-true, value-came}
use Rattle.checker_calls.specs.Environments.{Begun, LiesIn, Proper, Typed, place_type, type_led}
pub use Rattle.checker_loops.proofs.AliasedStores.{stored-of}
use Rattle.checker_state.proofs.Apart.{part}
use Rattle.checker_loops.proofs.VariableRows.{own-row_steps, scalar-unstructured, under-whole}
use Rattle.checker_calls.proofs.PlaceTypes.{IsTypeOf, leaf-typed, part-typed}

-- ---- what is visible

at-some : {A : Type 0} (found : Option A) → (found ≡ None → ⊥) → (one : A) × (found ≡ Some one)
at-some None some = absurd (some refl)
at-some (Some one) some = (one, refl)

nothing-at : (found : Option Place) (place : Place) → found ≡ None → found ≡ Some place → ⊥
nothing-at None place none is = cc
nothing-at (Some p) place none is = cc

unseen : (found : Option Variable) (test : Variable → Bool) → found ≡ None → of_one test found ≡ true → ⊥
unseen None test none is = cc
unseen (Some variable) test none is = cc

module _ (tree : Tree) (pairs : List (ℕ × ℕ)) (block activations : ℕ) (env : Environment) (proper : Proper tree pairs block activations env) where
  -- what has a place is visible in the block
  pub seen : (root : ℕ) (place : Place) → env.variables root ≡ Some place → is_visible (outline_of tree) block root ≡ true
  seen root place at =
      ⊎_elim (λ (is : is_visible (outline_of tree) block root ≡ true). is)
      (λ (isnt : is_visible (outline_of tree) block root ≡ false). absurd (nothing-at (env.variables root) place (proper.only root isnt) at))
      (cases_Bool (is_visible (outline_of tree) block root))

  -- it is declared
  pub declared : (root : ℕ) → is_visible (outline_of tree) block root ≡ true
      → (variable : Variable) × (slice_get tree.variables.items root ≡ Some variable)
  declared root is =
      at-some (slice_get tree.variables.items root)
      (λ none. unseen (slice_get tree.variables.items root) (λ variable. is_round (outline_of tree) block variable.block) none is)

  -- and so none has one beyond the variables of the program
  pub shows : Shows (length tree.variables.items) env
  shows = record {
    only = λ root beyond.
        proper.only root
        (⊎_elim
        (λ (is : is_visible (outline_of tree) block root ≡ true).
        absurd (unseen (slice_get tree.variables.items root) (λ variable. is_round (outline_of tree) block variable.block)
        (slice_get_past tree.variables.items root beyond) is))
        (λ isnt. isnt) (cases_Bool (is_visible (outline_of tree) block root)));
  }

  -- a part of a variable lies at a place of the type to which its steps lead
  pub part-type : (root : ℕ) (home : Place) (variable : Variable) (steps : List Step) → env.variables root ≡ Some home
      → slice_get tree.variables.items root ≡ Some variable → place_type tree (part home steps) ≡ type_led tree.types steps variable.type_id
  part-type root home variable steps at is =
      part-typed tree home steps ∙ ap (option_and_then (type_led tree.types steps)) (proper.typed root home variable at is)

  -- that of an entire variable is the variable's
  pub whole-type : (root : ℕ) (home : Place) (own : TypeId) (variable : Variable) → env.variables root ≡ Some home
      → slice_get tree.variables.items root ≡ Some variable → place_type tree (part home []) ≡ Some own → variable.type_id ≡ own
  whole-type root home own variable at is typed = same_Some variable.type_id own (sym (part-type root home variable [] at is) ∙ typed)

  -- that of a component of a row is the row's
  row-typed : (row : ℕ) (steps : List Step) (home : Place) (own : TypeId) → IsOfRow (all_parts tree) row steps
      → env.variables (slice_index_or (all_parts tree) row no_parts).root ≡ Some home → place_type tree (part home steps) ≡ Some own
      → (found : Row) × (slice_get (rows_of tree) row ≡ Some found) × IsTypeOf tree.types own found.leaf
  row-typed row steps home own of_row at typed = ⊎_elim own-typed leaf-of-type (row-is tree row steps of_row)
    where
      root_is : (root : ℕ) → (slice_index_or (all_parts tree) row no_parts).root ≡ root → env.variables root ≡ Some home
      root_is root is = ap env.variables (sym is) ∙ at

      own-typed : IsOwnRow tree row steps → (found : Row) × (slice_get (rows_of tree) row ≡ Some found) × IsTypeOf tree.types own found.leaf
      own-typed is =
          let variable = some-at tree.variables.items row is.within in
          let root = ap (λ (p : Parts). p.root) (own-parts tree row is.within) in
          let same = whole-type row home own variable.0 (root_is row root) variable.1
          (subst (λ (s : List Step). place_type tree (part home s) ≡ Some own) is.steps_are typed) in (
            own_of tree.types row variable.0,
            own-row tree row variable.0 variable.1,
            record { values_are = ap (scalar_range_of tree.types) (sym same); type_is = λ one_value. ap Some same },
          )

      leaf-of-type : IsLeafRow tree row steps → (found : Row) × (slice_get (rows_of tree) row ≡ Some found) × IsTypeOf tree.types own found.leaf
      leaf-of-type is =
          let e : 0 + is.leaf.root ≡ is.leaf.root = omega arith in
          let root = ap (λ (p : Parts). p.root) is.parts_are ∙ is.leaf.root_is ∙ e in (
            is.row,
            ap (slice_get (rows_of tree)) is.number_is ∙ leaf-row tree is.k ∙ is.is,
            leaf-typed tree.types steps is.leaf.variable.type_id own is.row.leaf (is.leaf.j, is.leaf.leaf_is) is.named
                (sym (part-type is.leaf.root home is.leaf.variable steps (root_is is.leaf.root root) is.leaf.variable_is) ∙ typed),
          )

  row-values : (row : ℕ) (steps : List Step) (home : Place) (own : TypeId) → IsOfRow (all_parts tree) row steps
      → env.variables (slice_index_or (all_parts tree) row no_parts).root ≡ Some home → place_type tree (part home steps) ≡ Some own
      → values_at (rows_of tree) row ≡ scalar_range_of tree.types own
  row-values row steps home own of_row at typed =
      let found = row-typed row steps home own of_row at typed in
      ap (option_and_then (λ (r : Row). r.leaf.values)) found.1 ∙ sym found.2.values_are

  pub row-type : (row : ℕ) (steps : List Step) (home : Place) (own : TypeId) → IsOfRow (all_parts tree) row steps
      → env.variables (slice_index_or (all_parts tree) row no_parts).root ≡ Some home → place_type tree (part home steps) ≡ Some own
      → is_scalar tree.types own ≡ true → type_at (rows_of tree) row ≡ Some own
  row-type row steps home own of_row at typed one_value =
      let found = row-typed row steps home own of_row at typed in
      ap (option_and_then (λ (r : Row). r.leaf.type_id)) found.1 ∙ found.2.type_is one_value

  -- a structured variable as a whole is of no scalar type
  whole-plain : (root : ℕ) (home : Place) (own : TypeId) → env.variables root ≡ Some home → place_type tree (part home []) ≡ Some own
      → is_scalar tree.types own ≡ true → is_structured_variable tree root ≡ false
  whole-plain root home own at typed one_value =
      let variable = declared root (seen root home at) in
      let same = whole-type root home own variable.0 at variable.1 typed in
      ap (of_one (λ (v : Variable). is_structured tree.types v.type_id)) variable.1
      ∙ false_from_ne_true (is_structured tree.types variable.0.type_id)
      (λ structured. scalar-unstructured tree.types own one_value (subst (λ (t : TypeId). is_structured tree.types t ≡ true) same structured))

  -- a row with a component of a scalar type is one of those under its variable
  row-under : (row : ℕ) (steps : List Step) (home : Place) (own : TypeId) → IsOfRow (all_parts tree) row steps
      → env.variables (slice_index_or (all_parts tree) row no_parts).root ≡ Some home → place_type tree (part home steps) ≡ Some own
      → is_scalar tree.types own ≡ true → Contains (rows_under tree (slice_index_or (all_parts tree) row no_parts).root []) row
  row-under row steps home own of_row at typed one_value =
      under-whole tree row steps of_row
      (λ within.
      let root = ap (λ (p : Parts). p.root) (own-parts tree row within) in
      let none = own-row_steps tree row steps within of_row in
      whole-plain row home own (ap env.variables (sym root) ∙ at) (subst (λ (s : List Step). place_type tree (part home s) ≡ Some own) none typed) one_value)

-- ---- values

-- each value of a component of a row lies in the limits of the row, and that of each part of a variable is an integer or a set of such; a structured
-- variable as a whole has none
pub record InTypes (tree : Tree) (env : Environment) (store : Store) : Type 0 where
  pub components : (row : ℕ) (steps : List Step) (v : Value) → IsOfRow (all_parts tree) row steps
      → component_at (all_parts tree) (moment env store) row steps ≡ Some v → IsIn (row_limits (rows_of tree) row) v
  pub integers : (root : ℕ) (steps : List Step) (v : Value) → value_at (moment env store) root steps ≡ Some v → IsIn integer v
  pub whole : (root : ℕ) (v : Value) → value_at (moment env store) root [] ≡ Some v → is_structured_variable tree root ≡ false

-- a value of an ordinal type is an integer, and so is each member of a set
pub type-integer : (types : List Form) (id : TypeId) (v : Value) → LiesIn types id v → IsIn integer v
type-integer types id (Number n) (range, is, inside, kind) = common-has_left integer (record { first = range.first; last = range.last }) n inside
type-integer types id (Members set) (range, is, (fits, each), kind) =
    (fits, common-has_set_left integer (record { first = range.first; last = range.last }) set each)

lies-in : (types : List Form) (id : TypeId) (values : Option OrdinalRange) (v : Value) → values ≡ scalar_range_of types id → LiesIn types id v
    → IsIn (limits_or_integer values) v
lies-in types id values v same (range, is, inside, kind) =
    subst (λ (r : Option OrdinalRange). IsIn (limits_or_integer r) v) (sym (same ∙ is)) inside

-- a variable's own row has the type of the variable, and its limits
module _ (tree : Tree) (root : ℕ) (variable : Variable) (is : slice_get tree.variables.items root ≡ Some variable) where
  pub own-row_type : type_at (rows_of tree) root ≡ Some variable.type_id
  own-row_type = ap (option_and_then (λ (row : Row). row.leaf.type_id)) (own-row tree root variable is)

  pub own-row_limits : row_limits (rows_of tree) root ≡ limits_or_integer (scalar_range_of tree.types variable.type_id)
  own-row_limits = ap limits_or_integer (own-values tree root variable is)

pub in-types : (tree : Tree) (pairs : List (ℕ × ℕ)) (block activations : ℕ) (env : Environment) (store : Store)
    → Proper tree pairs block activations env → Typed tree store → InTypes tree env store
in-types tree pairs block activations env store proper typed = record {
  components = λ row steps v of_row is.
      let root = (slice_index_or (all_parts tree) row no_parts).root in
      let at = stored-of store (env.variables root) steps v is in
      let own = typed (part at.0 steps) v at.2 in
      lies-in tree.types own.0 (values_at (rows_of tree) row) v
      (row-values tree pairs block activations env proper row steps at.0 own.0 of_row at.1 own.1) own.2;
  integers = λ root steps v is.
      let at = stored-of store (env.variables root) steps v is in
      let own = typed (part at.0 steps) v at.2 in
      type-integer tree.types own.0 v own.2;
  whole = λ root v is.
      let at = stored-of store (env.variables root) [] v is in
      let own = typed (part at.0 []) v at.2 in
      whole-plain tree pairs block activations env proper root at.0 own.0 at.1 own.1 (ap is_some own.2.1);
}

-- ---- stores

-- each value that is stored is one of the type of its place
abbrev pub AreTyped : Tree → Environment → ℕ → Pairs → Type 0
AreTyped tree env root pairs =
    (pair : List Step × Value) (place : Place) → Contains pairs pair → store.part (env.variables root) pair.0 ≡ Some place
    → (own : TypeId) × (place_type tree place ≡ Some own) × LiesIn tree.types own pair.1

module _ (tree : Tree) (env : Environment) (aliases : List ℕ) (root : ℕ) (stores : Pairs) (before after : Store)
    (written : AreWritten env aliases root stores before after) where
  pub written-typed : AreTyped tree env root stores → Typed tree before → Typed tree after
  written-typed each typed place v is =
      ⊎_elim (λ was. typed place v was)
      (λ (own : (pair : List Step × Value) × Contains stores pair × (store.part (env.variables root) pair.0 ≡ Some place) × (v ≡ pair.1)).
      let lies = each own.0 place own.1 own.2 in (lies.0, lies.1, subst (LiesIn tree.types lies.0) (sym own.3) lies.2))
      (written.came place v is)

  pub written-begun : (activations : ℕ) (home : Place) → env.variables root ≡ Some home → home.activation < activations → Begun activations before
      → Begun activations after
  written-begun activations home at young begun place v is =
      ⊎_elim (λ was. begun place v was)
      (λ (own : (pair : List Step × Value) × Contains stores pair × (store.part (env.variables root) pair.0 ≡ Some place) × (v ≡ pair.1)).
      let same : Some (part home own.0.0) ≡ Some place = ap (λ (found : Option Place). store.part found own.0.0) (sym at) ∙ own.2 in
      let one : part home own.0.0 ≡ place = same_Some (part home own.0.0) place same in
      subst (λ (p : Place). p.activation < activations) one young)
      (written.came place v is)

-- ---- what aliases get

-- types that are one are the same
pub both-same : (one other : Option TypeId) (own : TypeId) → one ≡ Some own → other ≡ Some own → same_types one other ≡ true
both-same one other own first second =
    ap (λ (t : Option TypeId). same_types t other) first ∙ ap (same_types (Some own)) second ∙ eq-eqb own.index own.index refl

-- each value that is stored is one of these, for its place
abbrev pub AreStoredAs : Tree → Environment → ℕ → Pairs → List Stored → Type 0
AreStoredAs tree env root pairs stored =
    (pair : List Step × Value) (place : Place) (own : TypeId) → Contains pairs pair → store.part (env.variables root) pair.0 ≡ Some place
    → place_type tree place ≡ Some own → is_scalar tree.types own ≡ true
    → (one : Stored) × Contains stored one × (one.type_id ≡ Some own) × IsIn one.range pair.1

module _ (tree : Tree) (pairs : List (ℕ × ℕ)) (block activations : ℕ) (env : Environment) (proper : Proper tree pairs block activations env)
    (aliases : List ℕ) (root : ℕ) (stores : Pairs) (before after : Store) (written : AreWritten env aliases root stores before after)
    (typed : AreTyped tree env root stores) (stored : List Stored) (each : AreStoredAs tree env root stores stored) where
  abbrev Came : ℕ → List Step → Value → Type 0
  Came other steps v =
      (pair : List Step × Value) × Contains stores pair × (store.part (env.variables root) pair.0 ≡ store.part (env.variables other) steps) × (v ≡ pair.1)

  came-as : (row : ℕ) (steps : List Step) (home : Place) (v : Value) → IsOfRow (all_parts tree) row steps
      → env.variables (slice_index_or (all_parts tree) row no_parts).root ≡ Some home
      → Came (slice_index_or (all_parts tree) row no_parts).root steps v
      → (one : Stored) × Contains stored one × (same_types one.type_id (type_at (rows_of tree) row) ≡ true) × IsIn one.range v
      × Contains (rows_under tree (slice_index_or (all_parts tree) row no_parts).root []) row
  came-as row steps home v of_row at (pair, inside, same, is) =
      let place_is : store.part (env.variables root) pair.0 ≡ Some (part home steps) = same ∙ ap (λ (found : Option Place). store.part found steps) at in
      let own = typed pair (part home steps) inside place_is in
      let one_value : is_scalar tree.types own.0 ≡ true = ap is_some own.2.1 in
      let found = each pair (part home steps) own.0 inside place_is own.1 one_value in
      let type_is = row-type tree pairs block activations env proper row steps home own.0 of_row at own.1 one_value in (
        found.0,
        found.1,
        both-same found.0.type_id (type_at (rows_of tree) row) own.0 found.2 type_is,
        subst (IsIn found.0.range) (sym is) found.3,
        row-under tree pairs block activations env proper row steps home own.0 of_row at own.1 one_value,
      )

  pub are-aliased : AreAliased tree env aliases stored before after
  are-aliased = record {
    each = λ row steps v among of_row is.
        let alias = (slice_index_or (all_parts tree) row no_parts).root in
        ⊎_elim (λ was. inl was)
        (λ (own : Came alias steps v).
        let at = stored-of after (env.variables alias) steps v is in
        inr (came-as row steps at.0 v of_row at.1 own))
        (value-came env aliases root stores before after written alias steps v is);
  }

-- ---- loops round a store

-- what a loop's turns change, it touches, and the aliases of that as far as they are visible in a block
abbrev pub IsClosedIn : Tree → List (ℕ × ℕ) → ℕ → Round → Type 0
IsClosedIn tree pairs block round =
    (root alias : ℕ) → is_visible (outline_of tree) block root ≡ true → is_visible (outline_of tree) block alias ≡ true
    → is_among root (round.controls ++ round.changes) ≡ true → is_among alias (aliases_of pairs root) ≡ true → is_among alias (touched round) ≡ true

changes-touched : (root : ℕ) (round : Round) → is_among root (round.controls ++ round.changes) ≡ true → is_among root (touched round) ≡ true
changes-touched root round among =
    let test = λ (other : ℕ). nat_eq other root in
    let parts = list_any-append test round.controls round.changes in
    list_any-append test round.controls (round.changes ++ round.aliases)
    ∙ ap (λ (b : Bool). is_among root round.controls || b) (list_any-append test round.changes round.aliases)
    ∙ or-three (is_among root round.controls) (is_among root round.changes) (is_among root round.aliases) (sym parts ∙ among)
  where
    or-three : (a b c : Bool) → (a || b) ≡ true → (a || (b || c)) ≡ true
    or-three true b c is = refl
    or-three false true c is = refl
    or-three false false c is = absurd (cc)

-- of what a loop lists, or of what controls a for statement in it, it touches all that may get its values
pub round-kept : (tree : Tree) (pairs : List (ℕ × ℕ)) (block activations : ℕ) (env : Environment) → Proper tree pairs block activations env
    → (root : ℕ) (home : Place) → env.variables root ≡ Some home → (round : Round) → IsClosedIn tree pairs block round
    → is_among root (round.controls ++ round.changes) ≡ true → (before after : Store)
    → IsKept env (root ∷ aliases_of pairs root) [] before after → IsKept env (touched round) round.controls before after
round-kept tree pairs block activations env proper root home at round closed among before after kept = record {
  values = λ other apart steps. value-same other apart steps (env.variables other) refl;
  defined = λ other among steps has. kept.defined other refl steps has;
}
  where
    nothing-same : (other : ℕ) (steps : List Step) (s : Store) → env.variables other ≡ None → value_at (moment env s) other steps ≡ None
    nothing-same other steps s none = ap (λ (found : Option Place). part_of s found steps) none

    value-same : (other : ℕ) → is_among other (touched round) ≡ false → (steps : List Step) → (found : Option Place) → env.variables other ≡ found
        → value_at (moment env after) other steps ≡ value_at (moment env before) other steps
    value-same other apart steps None there = nothing-same other steps after there ∙ sym (nothing-same other steps before there)
    value-same other apart steps (Some place) there =
        let visible = seen tree pairs block activations env proper in
        let differ : nat_eq root other ≡ false =
        false_from_ne_true (nat_eq root other) (λ same.
        both_ways (is_among other (touched round)) apart
        (subst (λ (r : ℕ). is_among r (touched round) ≡ true) (eqb-true root other same) (changes-touched root round among))) in
        let free : is_among other (aliases_of pairs root) ≡ false =
        false_from_ne_true (is_among other (aliases_of pairs root)) (λ alias.
        both_ways (is_among other (touched round)) apart (closed root other (visible root home at) (visible other place there) among alias)) in
        kept.values other (ap (λ (b : Bool). b || is_among other (aliases_of pairs root)) differ ∙ free) steps

listed-among : (root : ℕ) (round : Round) → is_among root round.changes ≡ true → is_among root (round.controls ++ round.changes) ≡ true
listed-among root round is =
    list_any-append (λ (other : ℕ). nat_eq other root) round.controls round.changes
    ∙ ap (λ (b : Bool). is_among root round.controls || b) is ∙ or-true (is_among root round.controls)

control-among : (root : ℕ) (round : Round) → is_among root round.controls ≡ true → is_among root (round.controls ++ round.changes) ≡ true
control-among root round is =
    list_any-append (λ (other : ℕ). nat_eq other root) round.controls round.changes ∙ ap (λ (b : Bool). b || is_among root round.changes) is

module _ (tree : Tree) (pairs : List (ℕ × ℕ)) (block activations : ℕ) (env : Environment) (proper : Proper tree pairs block activations env)
    (root : ℕ) (home : Place) (at : env.variables root ≡ Some home) (rounds : List Round)
    (closed : (round : Round) → Contains rounds round → IsClosedIn tree pairs block round) (before after : Store)
    (kept : IsKept env (root ∷ aliases_of pairs root) [] before after) where
  -- a store to a variable that each loop lists
  pub listed-keeps : all_list root rounds ≡ true → (round : Round) → Contains rounds round → IsKept env (touched round) round.controls before after
  listed-keeps listed round inside =
      round-kept tree pairs block activations env proper root home at round (closed round inside)
      (listed-among root round (all-pass (λ (one : Round). is_among root one.changes) rounds round inside listed)) before after kept

  -- or to one that controls a for statement in each
  pub control-keeps : all_control root rounds ≡ true → (round : Round) → Contains rounds round → IsKept env (touched round) round.controls before after
  control-keeps controls round inside =
      round-kept tree pairs block activations env proper root home at round (closed round inside)
      (control-among root round (all-pass (λ (one : Round). is_among root one.controls) rounds round inside controls)) before after kept
