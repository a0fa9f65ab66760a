-- What is known behind a change of an entire variable holds.
use Rattle.std.proofs.Common.{◌≡◌, ⊎_elim, ◌∙◌, sym, ap, refl, subst, ℕ, ◌<◌, ℤ, Bool, true, false, cond, List, [], ◌∷◌, Option, Some, None, length}
use Rattle.std.proofs.Common.{arith, append-nil}
use Rattle.std.specs.List.{Contains}
use Rattle.std.specs.Ordering.{int_eq}
use Rattle.std.specs.Option.{option_and_then, option_map}
use Rattle.std.specs.Prelude.{is_some, slice_get}
use Rattle.std.proofs.lemmas.Bool.{false≢true}
use Rattle.std.proofs.lemmas.Option.{none-some, same_Some, slice_get_within}
use Rattle.types.specs.Types.{form_at, form_kind, form_range, is_ordinal, kind_of, kind_range, scalar_range, scalar_range_of}
use Rattle.types.specs.Forms.{Form}
use Rattle.types.specs.declared.form.OrdinalRange.{OrdinalRange}
use Rattle.types.specs.declared.form.Step.{Step}
use Rattle.types.specs.declared.form.TypeId.{TypeId}
use Rattle.types.specs.declared.form.TypeKind.{TypeKind}
use Rattle.types.specs.declared.form.TypeKind.TheVariants as kind
use Rattle.typed_tree.specs.Accesses.{AtVariable, accessed, led}
use Rattle.typed_tree.specs.declared.tree.Variable.{Variable}
use Rattle.typed_tree.specs.declared.tree.Tree.{Tree}
use Rattle.domain.specs.Interval.{HasMember, Interval}
use Rattle.meaning.specs.Counting.{next_value}
use Rattle.meaning.specs.declared.value.Value.{Value}
use Rattle.meaning.specs.declared.value.Value.TheVariants.{Number}
use Rattle.meaning.specs.Kinds.{IsOfKind}
use Rattle.meaning.specs.Store.{Environment, Place, Store, written}
use Rattle.meaning.specs.Store as store
use Rattle.checker_state.specs.Bounds.{Bound}
use Rattle.checker_state.specs.Holds.{HasNumber, IsIn, moment, value_at}
use Rattle.checker_state.specs.Knows.{IsFormApart, IsOfForm, IsStep, Knows, bound_rests}
use Rattle.checker_state.specs.Changes.{assigned}
use Rattle.checker_state.proofs.Apart.{part}
use Rattle.checker_state.proofs.Assigned.{assignments-hold}
use Rattle.checker_rows.specs.Limits.{limits_or_integer, row_limits}
use Rattle.checker_rows.specs.Rows.{all_parts, is_ordinal_variable, rows_of, type_at}
use Rattle.checker_rows.proofs.Numbered.{own-values}
use Rattle.checker_state.specs.State.{State}
use Rattle.checker_state.specs.State.{table_of}
use Rattle.checker_loops.specs.Pairs.{aliases_in}
use Rattle.checker_loops.specs.Ways.{Way, turn_ended}
use Rattle.checker_loops.proofs.OnWay.{Between, MayBe, ended-known}
use Rattle.checker_loops.proofs.Tabled.{are-rows}
use Rattle.checker_loops.specs.Aliases.{Stored, unless_alias, with_aliases_stored}
use Rattle.checker_loops.proofs.AliasesHold.{IsReady, aliases-ready}
use Rattle.checker_loops.proofs.AliasedStores.{AreWritten, IsApart, Pairs, at-head, head-or_tail, one-written, whole-changes}
use Rattle.checker_calls.specs.Environments.{LiesIn, Proper, place_type}
use Rattle.checker_calls.proofs.Headings.{one-there}
use Rattle.checker_calls.proofs.SeenAliases.{listed_pairs}
use Rattle.checker_calls.proofs.AliasedTypes.{AreStoredAs, AreTyped, are-aliased, declared, own-row_type, seen, whole-type}

-- a value for the whole of a variable
abbrev pub whole : Value → Pairs
whole v = ([], v) ∷ []

pub whole-only : (v : Value) (pair : List Step × Value) → Contains (whole v) pair → ([], v) ≡ pair
whole-only v pair inside = ⊎_elim (λ same. same) (λ none. absurd (omega (arith, none.1))) (head-or_tail ([], v) pair [] inside)

-- a value is one of the type of a variable
abbrev pub LiesInVariable : Tree → ℕ → Value → Type 0
LiesInVariable tree root v =
    (id : TypeId) × (accessed tree.variables.items tree.types (AtVariable root) [] ≡ Some id) × LiesIn tree.types id v

-- a number in the range of an ordinal type is one of that
number-lies : (types : List Form) (id : TypeId) (n : ℤ) → is_ordinal types id ≡ true → HasMember (limits_or_integer (scalar_range_of types id)) n
    → LiesIn types id (Number n)
number-lies types id n ordinal inside = by (form_at types id) refl ordinal inside
  where
    of-kind : (found : TypeKind) → kind_of types id ≡ Some found → is_some (kind_range found) ≡ true → HasMember (limits_or_integer (scalar_range found)) n
        → LiesIn types id (Number n)
    of-kind (kind.Ordinal range) is ordinal inside =
        (range, ap (option_and_then scalar_range) is, inside, subst (λ (k : Option TypeKind). IsOfKind k (Number n)) (sym is) tt)
    of-kind (kind.Set base members) is ordinal inside = absurd (false≢true ordinal)
    of-kind kind.Structured is ordinal inside = absurd (false≢true ordinal)

    by : (form : Option Form) → form_at types id ≡ form → is_some (option_and_then form_range form) ≡ true
        → HasMember (limits_or_integer (option_and_then scalar_range (option_map form_kind form))) n → LiesIn types id (Number n)
    by None is ordinal inside = absurd (false≢true ordinal)
    by (Some form) is ordinal inside = of-kind (form_kind form) (ap (option_map form_kind) is) ordinal inside

-- so is one in that of an ordinal variable
pub number-lies_in : (tree : Tree) (root : ℕ) (n : ℤ) → is_ordinal_variable tree root ≡ true → HasMember (row_limits (rows_of tree) root) n
    → LiesInVariable tree root (Number n)
number-lies_in tree root n ordinal inside =
    let variable = one-there (λ (v : Variable). is_ordinal tree.types v.type_id) (slice_get tree.variables.items root) ordinal in
    let id = variable.0.type_id in (
      id,
      ap (option_and_then (λ (v : Variable). led tree.types [] v.type_id)) variable.1,
      number-lies tree.types id n variable.2
          (subst (λ (values : Option OrdinalRange). HasMember (limits_or_integer values) n) (own-values tree root variable.0 variable.1) inside),
    )

-- ---- forms

pub form-unless : (aliases : List ℕ) (env : Environment) (store : Store) (form : Option Bound) (v : Value) → IsOfForm (moment env store) form v
    → IsOfForm (moment env store) (unless_alias aliases form) v
form-unless aliases env store None v of_form = of_form
form-unless aliases env store (Some form) v of_form = by (bound_rests aliases form)
  where
    by : (among : Bool) → IsOfForm (moment env store) (cond among None (Some form)) v
    by true = tt
    by false = of_form

-- a form that is left is that which there was, and rests on no alias
pub unless-some : (aliases : List ℕ) (form : Option Bound) (b : Bound) → unless_alias aliases form ≡ Some b
    → (form ≡ Some b) × (bound_rests aliases b ≡ false)
unless-some aliases None b is = absurd (none-some b is)
unless-some aliases (Some form) b is = by (bound_rests aliases form) refl is
  where
    by : (among : Bool) → bound_rests aliases form ≡ among → cond among None (Some form) ≡ Some b
        → (Some form ≡ Some b) × (bound_rests aliases b ≡ false)
    by true here is = absurd (none-some b is)
    by false here is = (is, subst (λ (c : Bound). bound_rests aliases c ≡ false) (same_Some form b is) here)

pub form-apart : (aliases : List ℕ) (form : Option Bound) → IsFormApart aliases (unless_alias aliases form)
form-apart aliases form bound is = (unless-some aliases form bound is).1

-- ---- the store of a value

-- the whole of a variable lies at its place
pub whole-written : (env : Environment) (aliases : List ℕ) (root : ℕ) (home : Place) → env.variables root ≡ Some home → IsApart env root home aliases
    → (before : Store) (v : Value) → AreWritten env aliases root (whole v) before (written before home v)
whole-written env aliases root home at apart before v =
    subst (λ (steps : List Step). AreWritten env aliases root (whole v) before (written before (record home { steps = steps }) v))
    (append-nil home.steps) (one-written env aliases root home at apart before [] v)

pub whole-has : (env : Environment) (aliases : List ℕ) (root : ℕ) (v : Value) (before after : Store) → AreWritten env aliases root (whole v) before after
    → value_at (moment env after) root [] ≡ Some v
whole-has env aliases root v before after are =
    let pair : List Step × Value = ([], v) in
    let has = are.has pair (at-head pair []) in
    let sure = are.sure pair has.0 (at-head pair []) has.1 in
    let same = whole-only v sure.0 sure.1 in
    has.1 ∙ ap (λ (w : Value). Some w) (sure.3 ∙ ap (λ (p : List Step × Value). p.1) (sym same))

module _ (tree : Tree) (pairs : List (ℕ × ℕ)) (block activations : ℕ) (env : Environment) (proper : Proper tree pairs block activations env)
    (root : ℕ) (home : Place) (at : env.variables root ≡ Some home) where
  abbrev variables : ℕ
  variables = length tree.variables.items

  within-variables : root < variables
  within-variables =
      let variable = declared tree pairs block activations env proper root (seen tree pairs block activations env proper root home at) in
      slice_get_within tree.variables.items root variable.0 variable.1

  -- a value of a variable's type lies in the type of its place
  pub whole-typed : (v : Value) → LiesInVariable tree root v → AreTyped tree env root (whole v)
  whole-typed v lies pair place listed place_is =
      let variable = declared tree pairs block activations env proper root (seen tree pairs block activations env proper root home at) in
      let same = whole-only v pair listed in
      let own : place ≡ home =
      same_Some place home
      (sym place_is ∙ ap (λ (p : List Step × Value). store.part (env.variables root) p.0) (sym same)
      ∙ ap (λ (found : Option Place). store.part found []) at ∙ ap (λ (s : List Step). Some (record home { steps = s })) (append-nil home.steps)) in
      let id : variable.0.type_id ≡ lies.0 =
      same_Some variable.0.type_id lies.0 (sym (ap (option_and_then (λ (x : Variable). led tree.types [] x.type_id)) variable.1) ∙ lies.1) in
      let typed : place_type tree place ≡ Some lies.0 =
      ap (place_type tree) own ∙ proper.typed root home variable.0 at variable.1 ∙ ap (λ (t : TypeId). Some t) id in
      (lies.0, typed, subst (λ (p : List Step × Value). LiesIn tree.types lies.0 p.1) same lies.2)

  abbrev aliases : List ℕ
  aliases = aliases_in (listed_pairs tree pairs) block root

  -- what an assignment tells of the aliases
  abbrev told : Interval → List Stored
  told range = record { type_id = type_at (rows_of tree) root; range = range } ∷ []

  module _ (v : Value) (before after : Store) (are : AreWritten env aliases root (whole v) before after) (typed : AreTyped tree env root (whole v)) where
    stored-as : (range : Interval) → IsIn range v → AreStoredAs tree env root (whole v) (told range)
    stored-as range inside pair place own listed place_is type_is one_value =
        let same = whole-only v pair listed in
        let there : part home [] ≡ place =
        same_Some (part home []) place
        (sym (ap (λ (found : Option Place). store.part found []) at)
        ∙ ap (λ (p : List Step × Value). store.part (env.variables root) p.0) same ∙ place_is) in
        let variable = declared tree pairs block activations env proper root (seen tree pairs block activations env proper root home at) in
        let one : variable.0.type_id ≡ own =
        whole-type tree pairs block activations env proper root home own variable.0 at variable.1 (ap (place_type tree) there ∙ type_is) in
        let same_type : type_at (rows_of tree) root ≡ Some own = own-row_type tree root variable.0 variable.1 ∙ ap Some one in (
          record { type_id = type_at (rows_of tree) root; range = range },
          at-head (record { type_id = type_at (rows_of tree) root; range = range }) [],
          same_type,
          subst (λ (p : List Step × Value). IsIn range p.1) same inside,
        )

    assigned-ready : (range : Interval) → IsIn range v → (state : State) → Knows (all_parts tree) variables env state before
        → IsReady tree variables env aliases (with_aliases_stored tree aliases (told range) state) before after
    assigned-ready range inside state known =
        aliases-ready tree variables env aliases (told range) state before after
        (are-aliased tree pairs block activations env proper aliases root (whole v) before after are typed (told range) (stored-as range inside)) known

    -- behind an assignment
    pub assigned-knows : (range : Interval) (form : Option Bound) (step : Option Interval) (state : State) → IsIn range v → IsOfForm (moment env before) form v
        → IsStep (moment env before) root step v
        → Knows (all_parts tree) variables env state before
        → Knows (all_parts tree) variables env
        (assigned root range (unless_alias aliases form) step (with_aliases_stored tree aliases (told range) state)) after
    assigned-knows range form step state inside of_form is_step known =
        let ready_state = with_aliases_stored tree aliases (told range) state in
        let ready = assigned-ready range inside state known in
        let own = unless_alias aliases form in
        let changes = whole-changes env aliases root (whole v) before after are
        (λ pair listed. sym (ap (λ (p : List Step × Value). p.0) (whole-only v pair listed))) in
        assignments-hold (all_parts tree) (table_of tree) (are-rows tree) env aliases ready_state before after root range own step v within-variables
        changes (whole-has env aliases root v before after are) ready.knows ready.loose inside (form-unless aliases env before form v of_form)
        (form-apart aliases form) is_step

-- ---- a control variable, of which no alias is visible

-- where a turn ends and another follows
pub ended-knows : (tree : Tree) (env : Environment) (way : Way) (state : State) (before after : Store) (x y n : ℤ)
    → way.control < length tree.variables.items → AreWritten env [] way.control (whole (Number (next_value way.direction n))) before after
    → HasNumber (moment env before) way.control n → HasMember way.last.values y → Between way.direction x y n → int_eq n y ≡ false
    → MayBe env after way.last.form y → Knows (all_parts tree) (length tree.variables.items) env state before
    → Knows (all_parts tree) (length tree.variables.items) env (turn_ended way state) after
ended-knows tree env way state before after x y n within are has other between apart last known =
    let m = next_value way.direction n in
    let changes = whole-changes env [] way.control (whole (Number m)) before after are
    (λ pair listed. sym (ap (λ (p : List Step × Value). p.0) (whole-only (Number m) pair listed))) in
    ended-known (all_parts tree) (table_of tree) (are-rows tree) env way state before after x y n within changes has other between apart
    (whole-has env [] way.control (Number m) before after are) last known
