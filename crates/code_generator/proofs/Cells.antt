-- Where the variables of a block lie in its frame: each behind those before it, within the cells that the block has.
use Rattle.code_generator.proofs.Words.{◌≡◌, ℕ, zero, suc, ◌+◌, ◌<◌, ◌≤◌, ◌⊎◌, inl, inr, ⊎_elim, List, [], ◌∷◌, length, take, Option, Some, None, refl, sym, ap}
use Rattle.code_generator.proofs.Words.{◌∙◌, subst, arith, Bool, true, false, eq-eqb, if◌then◌else◌, nat_eq, not, slice_get, ◌&&◌, and_parts, cases_lt}
use Rattle.code_generator.proofs.Words.{eqb-true, false≢true, sum_by-cons, none-some, same_Some, slice_get_within, components_of, Form, cells_of, Block, Tree}
use Rattle.code_generator.proofs.Words.{Variable, VariableKind, IsWellFormed, is_parameter_kind, is_variable_kind, Place, Home, Scope, cells_where}
use Rattle.code_generator.proofs.Words.{is_parameter_of, other_cells, parameter_cells, slot_cells, variable_home}
use Rattle.std.specs.Prelude.{filter, sum_by}
use Rattle.std.proofs.lemmas.Bool.{cases_eq, ltb-false, or_parts}
use Rattle.std.proofs.lemmas.Option.{cond_some}
use Rattle.typed_tree.specs.declared.tree.VariableKind.TheVariants as kinds
use Rattle.typed_tree.specs.WellFormed.{variables_of}
use Rattle.meaning.specs.Store.{place_eq}
use Rattle.code_scheme.specs.Scopes.{home_of, home_or_none, homes_from, homes_of, is_other_of, offset, start_of}
use Rattle.code_generator.specs.Known.{Known}
use Rattle.code_scheme.specs.Large.{is_too_large, one_passes_too_much, passes_too_much}
use Rattle.code_generator.proofs.Alike.{Activation, Extent, Lies}
use Rattle.code_generator.proofs.Nesting.{well_block}
use Rattle.code_generator.proofs.Places.{place_other, place_same}

-- ---- the cells of those variables of which a test holds

sum_if : {X : Type 0} (f : X → ℕ) (b : Bool) (x : X) (xs : List X) → sum_by f (if b then x ∷ xs else xs) ≡ (if b then f x else 0) + sum_by f xs
sum_if f true x xs = sum_by-cons f x xs
sum_if f false x xs = omega arith

module _ (types : List Form) (test : Variable → Bool) where
  pub where_cons : (x : Variable) (variables : List Variable)
      → cells_where types test (x ∷ variables) ≡ (if test x then slot_cells types x else 0) + cells_where types test variables
  where_cons x variables = sum_if (slot_cells types) (test x) x (filter test variables)

  its_own : (v : Variable) → test v ≡ true → (if test v then slot_cells types v else 0) ≡ slot_cells types v
  its_own v e = ap (λ b. if b then slot_cells types v else 0) e

  -- those before a variable and its own are among those before a later one
  pub where_before : (variables : List Variable) (i j : ℕ) (v : Variable) → i < j → slice_get variables i ≡ Some v → test v ≡ true
      → cells_where types test (take i variables) + slot_cells types v ≤ cells_where types test (take j variables)
  where_before [] i j v less at holds = absurd (none-some v at)
  where_before (x ∷ variables) i zero v less at holds = absurd (omega arith)
  where_before (x ∷ variables) zero (suc j) v less at holds =
      let same = same_Some x v at in
      let own = its_own v holds in
      let first : (if test x then slot_cells types x else 0) ≡ (if test v then slot_cells types v else 0) =
      ap (λ (y : Variable). if test y then slot_cells types y else 0) same in
      omega (arith, where_cons x (take j variables), own, first)
  where_before (x ∷ variables) (suc i) (suc j) v less at holds =
      let rest = where_before variables i j v (omega arith) at holds in
      omega (arith, where_cons x (take i variables), where_cons x (take j variables))

  -- and among all
  pub where_within : (variables : List Variable) (i : ℕ) (v : Variable) → slice_get variables i ≡ Some v → test v ≡ true
      → cells_where types test (take i variables) + slot_cells types v ≤ cells_where types test variables
  where_within [] i v at holds = absurd (none-some v at)
  where_within (x ∷ variables) zero v at holds =
      let same = same_Some x v at in
      let own = its_own v holds in
      let first : (if test x then slot_cells types x else 0) ≡ (if test v then slot_cells types v else 0) =
      ap (λ (y : Variable). if test y then slot_cells types y else 0) same in
      omega (arith, where_cons x variables, own, first)
  where_within (x ∷ variables) (suc i) v at holds =
      let rest = where_within variables i v at holds in
      omega (arith, where_cons x (take i variables), where_cons x variables)

-- the other variables of a block take no more cells than all of it
other_kind : (types : List Form) (v : Variable) (own : Bool) (kind : VariableKind) → v.kind ≡ kind
    → (if own && not (is_parameter_kind kind) then slot_cells types v else 0) ≤ (if own then cells_of types v.type_id else 0)
other_kind types v true kinds.Local is =
    let same : slot_cells types v ≡ cells_of types v.type_id = ap (λ k. if is_variable_kind k then 1 else cells_of types v.type_id) is in omega arith
other_kind types v true kinds.Result is =
    let same : slot_cells types v ≡ cells_of types v.type_id = ap (λ k. if is_variable_kind k then 1 else cells_of types v.type_id) is in omega arith
other_kind types v true kinds.ValueParameter is = omega arith
other_kind types v true kinds.VariableParameter is = omega arith
other_kind types v false kind is = omega arith

pub others_within : (types : List Form) (number : ℕ) (variables : List Variable)
    → cells_where types (is_other_of number) variables ≤ sum_by (λ (v : Variable). cells_of types v.type_id) (variables_of number variables)
others_within types number [] = omega arith
others_within types number (v ∷ variables) =
    omega (
      arith,
      where_cons types (is_other_of number) v variables,
      sum_if (λ (w : Variable). cells_of types w.type_id) (nat_eq v.block number) v (variables_of number variables),
      other_kind types v (nat_eq v.block number) v.kind refl,
      others_within types number variables,
    )

module _ (tree : Tree) where
  abbrev variables : List Variable
  variables = tree.variables.items

  -- ---- the parameters of a block are few

  each_passes : (number : ℕ) (blocks : List Block) (k m : ℕ) (block : Block) → number + k ≡ m → one_passes_too_much tree number blocks ≡ false
      → slice_get blocks k ≡ Some block → passes_too_much tree m ≡ false
  each_passes number [] k m block is fits at = absurd (none-some block at)
  each_passes number (first ∷ blocks) zero m block is fits at =
      let n : number ≡ m = omega (arith, is) in
      subst (λ i. passes_too_much tree i ≡ false) n (or_parts (passes_too_much tree number) (one_passes_too_much tree (suc number) blocks) fits).0
  each_passes number (first ∷ blocks) (suc k) m block is fits at =
      each_passes (suc number) blocks k m block (omega (arith, is))
      (or_parts (passes_too_much tree number) (one_passes_too_much tree (suc number) blocks) fits).1 at

  pub few_passed : is_too_large tree ≡ false → (number : ℕ) (block : Block) → slice_get tree.blocks.items number ≡ Some block
      → parameter_cells tree number ≤ 65536
  few_passed short number block at =
      let fits = (or_parts _ (one_passes_too_much tree 0 tree.blocks.items) short).1 in
      ltb-false 65536 (parameter_cells tree number) (each_passes 0 tree.blocks.items number number block (omega arith) fits at)

  -- ---- where variables begin

  start_by : (root : ℕ) (v : Variable) (kind : Bool) → is_parameter_kind v.kind ≡ kind
      → start_of tree root v
      ≡ 4 + (if kind then cells_where tree.types (is_parameter_of v.block) (take root variables)
      else parameter_cells tree v.block + cells_where tree.types (is_other_of v.block) (take root variables))
  start_by root v kind is =
      ap (λ b. 4 + (if b then cells_where tree.types (is_parameter_of v.block) (take root variables)
      else parameter_cells tree v.block + cells_where tree.types (is_other_of v.block) (take root variables))) is

  -- a variable is a parameter of its block, or another
  is_its : (v : Variable) (n : ℕ) (kind : Bool) → v.block ≡ n → is_parameter_kind v.kind ≡ kind → is_parameter_of n v ≡ kind
  is_its v n kind own is = ap (λ b. b && is_parameter_kind v.kind) (own_block v n own) ∙ is
    where
      own_block : (v : Variable) (n : ℕ) → v.block ≡ n → nat_eq v.block n ≡ true
      own_block v n own = eq-eqb v.block n own

  is_other : (v : Variable) (n : ℕ) → v.block ≡ n → is_parameter_kind v.kind ≡ false → is_other_of n v ≡ true
  is_other v n own is = ap (λ b. b && not (is_parameter_kind v.kind)) (eq-eqb v.block n own) ∙ ap not is

  pub starts_as_parameter : (root : ℕ) (v : Variable) → is_parameter_kind v.kind ≡ true
      → start_of tree root v ≡ 4 + cells_where tree.types (is_parameter_of v.block) (take root variables)
  starts_as_parameter root v is = start_by root v true is

  pub starts_as_other : (root : ℕ) (v : Variable) → is_parameter_kind v.kind ≡ false
      → start_of tree root v ≡ 4 + (parameter_cells tree v.block + cells_where tree.types (is_other_of v.block) (take root variables))
  starts_as_other root v is = start_by root v false is

  -- a parameter ends before the other variables
  pub parameter_ends : (root : ℕ) (v : Variable) → slice_get variables root ≡ Some v → is_parameter_kind v.kind ≡ true
      → start_of tree root v + slot_cells tree.types v ≤ 4 + parameter_cells tree v.block
  parameter_ends root v at is =
      let start = starts_as_parameter root v is in
      let inside = where_within tree.types (is_parameter_of v.block) variables root v at (is_its v v.block true refl is) in
      omega (arith, start, inside)

  pub other_ends : (root : ℕ) (v : Variable) → slice_get variables root ≡ Some v → is_parameter_kind v.kind ≡ false
      → start_of tree root v + slot_cells tree.types v ≤ 4 + parameter_cells tree v.block + other_cells tree v.block
  other_ends root v at is =
      let start = starts_as_other root v is in
      let inside = where_within tree.types (is_other_of v.block) variables root v at (is_other v v.block refl is) in
      omega (arith, start, inside)

  pub variable_ends : (root : ℕ) (v : Variable) → slice_get variables root ≡ Some v
      → start_of tree root v + slot_cells tree.types v ≤ 4 + parameter_cells tree v.block + other_cells tree v.block
  variable_ends root v at = by (is_parameter_kind v.kind) refl
    where
      by : (kind : Bool) → is_parameter_kind v.kind ≡ kind
          → start_of tree root v + slot_cells tree.types v ≤ 4 + parameter_cells tree v.block + other_cells tree v.block
      by true is = let inside = parameter_ends root v at is in omega arith
      by false is = other_ends root v at is

  -- one of two variables of a block ends before the other begins
  starts_after : (i j : ℕ) (v w : Variable) (a b : Bool) → i < j → slice_get variables i ≡ Some v → slice_get variables j ≡ Some w → v.block ≡ w.block
      → is_parameter_kind v.kind ≡ a → is_parameter_kind w.kind ≡ b
      → (start_of tree i v + slot_cells tree.types v ≤ start_of tree j w) ⊎ (start_of tree j w + slot_cells tree.types w ≤ start_of tree i v)
  starts_after i j v w true true less at at' same is is' =
      let start = starts_as_parameter i v is in
      let start' = starts_as_parameter j w is' in
      let inside = where_before tree.types (is_parameter_of w.block) variables i j v less at (is_its v w.block true same is) in
      let mine = ap (λ n. cells_where tree.types (is_parameter_of n) (take i variables)) same in
      inl (omega (arith, start, start', inside, mine))
  starts_after i j v w false false less at at' same is is' =
      let start = starts_as_other i v is in
      let start' = starts_as_other j w is' in
      let inside = where_before tree.types (is_other_of w.block) variables i j v less at (is_other v w.block same is) in
      let mine = ap (λ n. cells_where tree.types (is_other_of n) (take i variables)) same in
      let front = ap (parameter_cells tree) same in
      inl (omega (arith, start, start', inside, mine, front))
  starts_after i j v w true false less at at' same is is' =
      let ends = parameter_ends i v at is in
      let start' = starts_as_other j w is' in
      let front = ap (parameter_cells tree) same in
      inl (omega (arith, ends, start', front))
  starts_after i j v w false true less at at' same is is' =
      let ends = parameter_ends j w at' is' in
      let start = starts_as_other i v is in
      let front = ap (parameter_cells tree) same in
      inr (omega (arith, ends, start, front))

  pub starts_apart : (i j : ℕ) (v w : Variable) → (i ≡ j → ⊥) → slice_get variables i ≡ Some v → slice_get variables j ≡ Some w → v.block ≡ w.block
      → (start_of tree i v + slot_cells tree.types v ≤ start_of tree j w) ⊎ (start_of tree j w + slot_cells tree.types w ≤ start_of tree i v)
  starts_apart i j v w differ at at' same =
      ⊎_elim
      (λ (less : i < j). starts_after i j v w (is_parameter_kind v.kind) (is_parameter_kind w.kind) less at at' same refl refl)
      (λ (more : j ≤ i).
      ⊎_elim (λ first. inr first) (λ second. inl second)
      (starts_after j i w v (is_parameter_kind w.kind) (is_parameter_kind v.kind) (omega (arith, differ)) at' at (sym same) refl refl))
      (cases_lt i j)

  -- ---- the variables that an activation owns

  abbrev own_extent : ℕ → ℕ → Option Variable → Option Extent
  own_extent number root None = None
  own_extent number root (Some v) =
      if nat_eq v.block number && not (is_variable_kind v.kind)
      then Some (record { start = start_of tree root v; components = components_of tree.types v.type_id }) else None

  -- those of an activation of a block, but for its variable parameters
  abbrev pub owned_in : ℕ → ℕ → Option Extent
  owned_in number root = own_extent number root (slice_get variables root)

  -- what is known of one
  pub record Owned (number root : ℕ) (e : Extent) : Type 0 where
    pub variable : Variable
    pub declared : slice_get variables root ≡ Some variable
    pub own : variable.block ≡ number
    pub no_reference : is_variable_kind variable.kind ≡ false
    pub extent_is : record { start = start_of tree root variable; components = components_of tree.types variable.type_id } ≡ e

  pub owned : (number root : ℕ) (e : Extent) → owned_in number root ≡ Some e → Owned number root e
  owned number root e is = by (slice_get variables root) refl is
    where
      not_true : (b : Bool) → not b ≡ true → b ≡ false
      not_true true e = absurd (false≢true e)
      not_true false e = refl

      by : (o : Option Variable) → slice_get variables root ≡ o → own_extent number root o ≡ Some e → Owned number root e
      by None at is = absurd (none-some e is)
      by (Some v) at is =
          let found = cond_some (nat_eq v.block number && not (is_variable_kind v.kind))
          (record { start = start_of tree root v; components = components_of tree.types v.type_id }) e is in
          let parts = and_parts (nat_eq v.block number) (not (is_variable_kind v.kind)) found.0 in
          record {
            variable = v;
            declared = at;
            own = eqb-true v.block number parts.0;
            no_reference = not_true (is_variable_kind v.kind) parts.1;
            extent_is = found.1;
          }

  pub owned_back : (number root : ℕ) (v : Variable) → slice_get variables root ≡ Some v → v.block ≡ number → is_variable_kind v.kind ≡ false
      → owned_in number root ≡ Some (record { start = start_of tree root v; components = components_of tree.types v.type_id })
  owned_back number root v at own plain =
      ap (own_extent number root) at
      ∙ ap (λ b. if b && not (is_variable_kind v.kind) then Some (record { start = start_of tree root v; components = components_of tree.types v.type_id })
      else None) (eq-eqb v.block number own)
      ∙ ap (λ b. if not b then Some (record { start = start_of tree root v; components = components_of tree.types v.type_id }) else None) plain

  pub slot_of : (known : Known) (v : Variable) → is_variable_kind v.kind ≡ false → slot_cells tree.types v ≡ length (components_of tree.types v.type_id)
  slot_of known v plain = ap (λ b. if b then 1 else cells_of tree.types v.type_id) plain ∙ sym (known.cells tree.types v.type_id)

  -- each lies in the frame, behind the links and before what is held
  pub lies_inside : (known : Known) (a : Activation) (number : ℕ) (p : Place) (c : ℕ) → a.owns ≡ owned_in number → Lies a p c
      → (a.frame + 4 ≤ c) × (c < a.frame + (4 + parameter_cells tree number + other_cells tree number))
  lies_inside known a number p c owns l =
      let o = owned number p.variable l.extent (ap (λ (f : ℕ → Option Extent). f p.variable) (sym owns) ∙ l.owned) in
      let start : start_of tree p.variable o.variable ≡ l.extent.start = ap (λ (e : Extent). e.start) o.extent_is in
      let long : length (components_of tree.types o.variable.type_id) ≡ length l.extent.components = ap (λ (e : Extent). length e.components) o.extent_is in
      let inside = slice_get_within l.extent.components l.inward p.steps l.reached in
      let ends = variable_ends p.variable o.variable o.declared in
      let front = ap (parameter_cells tree) o.own in
      let rest = ap (other_cells tree) o.own in
      let cell = l.cell_is in
      let first = begins_behind p.variable o.variable in
      (omega (arith, start, first, cell), omega (arith, start, long, inside, ends, front, rest, cell, slot_of known o.variable o.no_reference))
    where
      begins_behind : (root : ℕ) (v : Variable) → 4 ≤ start_of tree root v
      begins_behind root v = by (is_parameter_kind v.kind) refl
        where
          by : (kind : Bool) → is_parameter_kind v.kind ≡ kind → 4 ≤ start_of tree root v
          by true is = omega (arith, starts_as_parameter root v is)
          by false is = omega (arith, starts_as_other root v is)

  -- two scalars of one activation are one, or they lie apart
  module _ (known : Known) (a : Activation) (number : ℕ) (owns : a.owns ≡ owned_in number) (p q : Place) (c d : ℕ) (l : Lies a p c) (m : Lies a q d) where
    same_activation : p.activation ≡ q.activation
    same_activation = l.its ∙ sym m.its

    abbrev first : Owned number p.variable l.extent
    first = owned number p.variable l.extent (ap (λ (f : ℕ → Option Extent). f p.variable) (sym owns) ∙ l.owned)

    abbrev second : Owned number q.variable m.extent
    second = owned number q.variable m.extent (ap (λ (f : ℕ → Option Extent). f q.variable) (sym owns) ∙ m.owned)

    of_one : p.variable ≡ q.variable → (l.inward ≡ m.inward) ⊎ (l.inward ≡ m.inward → ⊥)
        → ((c ≡ d) × (place_eq p q ≡ true)) ⊎ ((c ≡ d → ⊥) × (place_eq p q ≡ false))
    of_one same_variable at =
        let same = same_Some l.extent m.extent (sym l.owned ∙ ap a.owns same_variable ∙ m.owned) in
        let row : components_of tree.types first.variable.type_id ≡ l.extent.components = ap (λ (x : Extent). x.components) first.extent_is in
        let starts = ap (λ (x : Extent). x.start) same in
        let here = l.cell_is in
        let there = m.cell_is in
        let reached : slice_get l.extent.components m.inward ≡ Some q.steps = ap (λ (x : Extent). slice_get x.components m.inward) same ∙ m.reached in
        ⊎_elim
        (λ (e : l.inward ≡ m.inward).
        inl (
          omega arith,
          place_same p q same_activation same_variable
              (same_Some p.steps q.steps (sym l.reached ∙ ap (slice_get l.extent.components) e ∙ reached)),
        ))
        (λ (e : l.inward ≡ m.inward → ⊥).
        inr (
          (λ f. e (omega arith)),
          place_other p q (λ v s. e
              (known.once tree.types first.variable.type_id l.inward m.inward p.steps (ap (λ r. slice_get r l.inward) row ∙ l.reached)
              (ap (λ r. slice_get r m.inward) row ∙ reached ∙ ap Some (sym s)))),
        ))
        at

    of_two : (p.variable ≡ q.variable → ⊥) → ((c ≡ d) × (place_eq p q ≡ true)) ⊎ ((c ≡ d → ⊥) × (place_eq p q ≡ false))
    of_two differ =
        let here = l.cell_is in
        let there = m.cell_is in
        let inside = slice_get_within l.extent.components l.inward p.steps l.reached in
        let inside' = slice_get_within m.extent.components m.inward q.steps m.reached in
        let start : start_of tree p.variable first.variable ≡ l.extent.start = ap (λ (e : Extent). e.start) first.extent_is in
        let start' : start_of tree q.variable second.variable ≡ m.extent.start = ap (λ (e : Extent). e.start) second.extent_is in
        let long : length (components_of tree.types first.variable.type_id)
        ≡ length l.extent.components = ap (λ (e : Extent). length e.components) first.extent_is in
        let long' : length (components_of tree.types second.variable.type_id) ≡ length m.extent.components =
        ap (λ (e : Extent). length e.components) second.extent_is in
        let slot = slot_of known first.variable first.no_reference in
        let slot' = slot_of known second.variable second.no_reference in
        inr (
          (λ f.
              ⊎_elim
              (λ (before : start_of tree p.variable first.variable + slot_cells tree.types first.variable ≤ start_of tree q.variable second.variable).
              let no : ⊥ = omega (arith, before, here, there, inside, inside', start, start', long, long', slot, slot', f) in no)
              (λ (behind : start_of tree q.variable second.variable + slot_cells tree.types second.variable ≤ start_of tree p.variable first.variable).
              let no : ⊥ = omega (arith, behind, here, there, inside, inside', start, start', long, long', slot, slot', f) in no)
              (starts_apart p.variable q.variable first.variable second.variable differ first.declared second.declared (first.own ∙ sym second.own))),
          place_other p q (λ v s. differ v),
        )

    pub own_scalars : ((c ≡ d) × (place_eq p q ≡ true)) ⊎ ((c ≡ d → ⊥) × (place_eq p q ≡ false))
    own_scalars =
        ⊎_elim (λ (same : p.variable ≡ q.variable). of_one same (cases_eq l.inward m.inward)) of_two (cases_eq p.variable q.variable)

  -- ---- where code finds them

  home_there : (from : ℕ) (vs : List Variable) (k root : ℕ) (v : Variable) → from + k ≡ root → slice_get vs k ≡ Some v
      → slice_get (homes_from tree from vs) k ≡ Some (home_of tree root v)
  home_there from [] k root v is at = absurd (none-some v at)
  home_there from (w ∷ vs) zero root v is at =
      let n : from ≡ root = omega (arith, is) in
      ap (λ (x : Variable). Some (home_of tree from x)) (same_Some w v at) ∙ ap (λ i. Some (home_of tree i v)) n
  home_there from (w ∷ vs) (suc k) root v is at = home_there (suc from) vs k root v (omega (arith, is)) at

  pub home_is : (scope : Scope) (root : ℕ) (v : Variable) → scope.homes ≡ homes_of tree → slice_get variables root ≡ Some v
      → variable_home scope root ≡ home_of tree root v
  home_is scope root v is at =
      ap (λ (homes : List Home). home_or_none (slice_get homes root)) is ∙ ap home_or_none (home_there 0 variables root root v (omega arith) at)

  module _ (well : IsWellFormed tree) (short : is_too_large tree ≡ false) (number : ℕ) (block : Block)
      (block_is : slice_get tree.blocks.items number ≡ Some block) where
    pub others_few : other_cells tree number ≤ 65536
    others_few =
        let w = well_block tree well number block block_is in
        let most = w.few in
        omega (arith, others_within tree.types number variables)

    -- all variables of the block begin where an offset reaches
    pub start_near : (root : ℕ) (v : Variable) → slice_get variables root ≡ Some v → v.block ≡ number
        → (start_of tree root v + slot_cells tree.types v ≤ 16777215) × (offset (start_of tree root v) ≡ start_of tree root v)
    start_near root v at own =
        let small = few_passed short number block block_is in
        let few = others_few in
        let ends = variable_ends root v at in
        let front = ap (parameter_cells tree) own in
        let rest = ap (other_cells tree) own in
        (omega (arith, small, few, ends, front, rest), omega (arith, small, few, ends, front, rest))
