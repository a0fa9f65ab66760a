-- No alias of a control variable is visible where its for statement stands: a pair names a variable parameter of a block, and the other variable is one
-- too or stands round that block.
use Rattle.std.proofs.Common.{arith, ◌≡◌, ◌⊎◌, ⊎_elim, ◌∙◌, sym, ap, subst, ℕ, zero, suc, ◌<◌, ◌≤◌, Bool, true, false, not, ◌&&◌, ◌||◌}
use Rattle.std.proofs.Common.{nat_eq, List, []}
use Rattle.std.specs.Prelude.{slice_get}
use Rattle.std.specs.List.{Contains}
use Rattle.std.proofs.lemmas.Bool.{and_parts, eqb-true, false≢true, false_from_ne_true, or_cases}
use Rattle.std.proofs.lemmas.Option.{same_Some}
use Rattle.typed_tree.specs.WellFormed.{IsWellFormed, Outline, encloses, is_control, is_declared, is_local_kind, is_one_of, is_result_kind, is_round}
use Rattle.typed_tree.specs.WellFormed.{is_variable_kind, is_visible, leads_to_ordinal, outline_of}
use Rattle.typed_tree.specs.Accesses.{AtVariable}
use Rattle.typed_tree.specs.declared.tree.Tree.{Tree}
use Rattle.typed_tree.specs.declared.tree.Variable.{Variable}
use Rattle.typed_tree.specs.declared.tree.VariableKind.{VariableKind}
use Rattle.typed_tree.specs.declared.tree.VariableKind.TheVariants as kind
use Rattle.checker_state.specs.Loops.{is_among}
use Rattle.checker_loops.specs.Pairs.{aliases_of}
use Rattle.checker_calls.proofs.Headings.{is-declared, one-there, well-placed}
use Rattle.checker_calls.proofs.Places.{listed-pair}
use Rattle.checker_calls.specs.Names.{has_parameter, is_outward, is_round_about, is_variable_parameter}

-- a pair is one of a block
abbrev pub IsKnownPair : Tree → ℕ → ℕ → Type 0
IsKnownPair tree first second =
    (block : ℕ) × ((has_parameter tree block first second ≡ true) ⊎ (has_parameter tree block second first ≡ true))

no-both : (one : VariableKind) → is_local_kind one ≡ true → is_variable_kind one ≡ true → ⊥
no-both kind.Local local variable = false≢true variable
no-both kind.ValueParameter local variable = false≢true local
no-both kind.VariableParameter local variable = false≢true local
no-both kind.Result local variable = false≢true local

module _ (tree : Tree) (well : IsWellFormed tree) where
  abbrev outline : Outline
  outline = outline_of tree

  -- the number of what stands round a block is no higher
  below : (bound from block : ℕ) → from < bound → is_round outline from block ≡ true → block ≤ from
  below zero from block small round = absurd (omega (arith, small))
  below (suc bound) from block small round =
      let own = one-there (encloses block from) (slice_get outline.headings from) round in
      ⊎_elim
      (λ (same : nat_eq block from ≡ true). let is = eqb-true block from same in omega (arith, is))
      (λ (among : is_one_of own.0.around.items block ≡ true).
      let declared = is-declared outline from own.0 block (well-placed tree well from own.0 own.1) among in
      let lower = declared.before in
      let less = below bound declared.last block (omega (arith, lower, small)) (declared.inside block among) in
      omega (arith, less, lower))
      (or_cases (nat_eq block from) (is_one_of own.0.around.items block) own.2)

  -- a local variable is no variable parameter
  not-passed : (block other root : ℕ) → is_declared outline block is_local_kind root ≡ true → is_variable_parameter tree other root ≡ true → ⊥
  not-passed block other root local passed =
      let one = one-there (λ (v : Variable). nat_eq v.block block && is_local_kind v.kind) (slice_get tree.variables.items root) local in
      let two = one-there (λ (v : Variable). nat_eq v.block other && is_variable_kind v.kind) (slice_get tree.variables.items root) passed in
      let same = same_Some one.0 two.0 (sym one.1 ∙ two.1) in
      no-both one.0.kind (and_parts (nat_eq one.0.block block) (is_local_kind one.0.kind) one.2).1
      (subst (λ (v : Variable). is_variable_kind v.kind ≡ true) (sym same) (and_parts (nat_eq two.0.block other) (is_variable_kind two.0.kind) two.2).1)

  -- where the parameter of a block is visible, a variable round the block isn't local
  not-round : (block other control alias : ℕ) → is_declared outline block is_local_kind control ≡ true → is_variable_parameter tree other alias ≡ true
      → is_round_about tree other control ≡ true → is_visible outline block alias ≡ true → ⊥
  not-round block other control alias local passed about seen =
      let outward = (and_parts (is_outward tree other control) _ about).0 in
      let parts = and_parts (is_visible outline other control) _ outward in
      let own = one-there (λ (v : Variable). nat_eq v.block block && is_local_kind v.kind) (slice_get tree.variables.items control) local in
      let of_block = eqb-true own.0.block block (and_parts (nat_eq own.0.block block) (is_local_kind own.0.kind) own.2).0 in
      let shown = one-there (λ (v : Variable). is_round outline other v.block) (slice_get tree.variables.items control) parts.0 in
      let same = same_Some shown.0 own.0 (sym shown.1 ∙ own.1) in
      let round : is_round outline other block ≡ true =
      subst (λ (n : ℕ). is_round outline other n ≡ true) (ap (λ (v : Variable). v.block) same ∙ of_block) shown.2 in
      let formal = one-there (λ (v : Variable). nat_eq v.block other && is_variable_kind v.kind) (slice_get tree.variables.items alias) passed in
      let of_other = eqb-true formal.0.block other (and_parts (nat_eq formal.0.block other) (is_variable_kind formal.0.kind) formal.2).0 in
      let visible = one-there (λ (v : Variable). is_round outline block v.block) (slice_get tree.variables.items alias) seen in
      let alike = same_Some visible.0 formal.0 (sym visible.1 ∙ formal.1) in
      let back : is_round outline block other ≡ true =
      subst (λ (n : ℕ). is_round outline block n ≡ true) (ap (λ (v : Variable). v.block) alike ∙ of_other) visible.2 in
      let one = below (suc other) other block (omega arith) round in
      let two = below (suc block) block other (omega arith) back in
      let equal : block ≡ other = omega (arith, one, two) in
      let here : is_declared outline other is_local_kind control ≡ true =
      subst (λ (n : ℕ). is_declared outline n is_local_kind control ≡ true) equal local in
      false≢true
      (sym (ap (λ (b : Bool). not (b || is_declared outline other is_result_kind control)) here) ∙ parts.1)

  one-hidden : (block other control alias : ℕ) → is_declared outline block is_local_kind control ≡ true → is_visible outline block alias ≡ true
      → has_parameter tree other alias control ≡ true → ⊥
  one-hidden block other control alias local seen has =
      let parts = and_parts (is_variable_parameter tree other alias) _ has in
      ⊎_elim (λ passed. not-passed block other control local passed) (λ about. not-round block other control alias local parts.0 about seen)
      (or_cases (is_variable_parameter tree other control) (is_round_about tree other control) parts.1)

  none-hidden : (block other control alias : ℕ) → is_declared outline block is_local_kind control ≡ true → has_parameter tree other control alias ≡ true → ⊥
  none-hidden block other control alias local has = not-passed block other control local (and_parts (is_variable_parameter tree other control) _ has).0

  pub hidden-controls : (pairs : List (ℕ × ℕ)) → ((first second : ℕ) → Contains pairs (first, second) → IsKnownPair tree first second)
      → (block control alias : ℕ) → is_control outline block control ≡ true → is_among alias (aliases_of pairs control) ≡ true
      → is_visible outline block alias ≡ false
  hidden-controls pairs known block control alias controls among =
      let local = (and_parts (is_declared outline block is_local_kind control) (leads_to_ordinal outline block (AtVariable control) [] 0) controls).0 in
      false_from_ne_true (is_visible outline block alias)
      (λ seen.
      ⊎_elim
      (λ one.
      let k = known control alias one in
      ⊎_elim (λ has. none-hidden block k.0 control alias local has) (λ has. one-hidden block k.0 control alias local seen has) k.1)
      (λ two.
      let k = known alias control two in
      ⊎_elim (λ has. one-hidden block k.0 control alias local seen has) (λ has. none-hidden block k.0 control alias local has) k.1)
      (listed-pair pairs control alias among))
