-- Calls leave the control variable of a for statement as it is, if no other variable that is visible lies where it does: by the depth
-- of activations in one another, from the text of each block, which spares the control variables of the others.
use Rattle.std.specs.Prelude.{if◌then◌else◌, not, slice_get}
use Rattle.std.specs.List.{list_any}
use Rattle.std.proofs.Common.{arith, ◌≡◌, ⊎_elim, ℕ, zero, suc, ◌+◌, ◌<◌, ◌≤◌, zero-add, List, [], ◌∷◌, Bool, true, false}
use Rattle.std.proofs.Common.{Option, Some, None, nat_eq, refl, sym, ap, ◌∙◌}
use Rattle.std.proofs.lemmas.Bool.{false≢true, or_left, or_right}
use Rattle.std.proofs.lemmas.List.Folds.{list_any-append}
use Rattle.std.proofs.lemmas.Option.{none-some, same_Some}
use Rattle.typed_tree.specs.declared.tree.Block.{Block}
use Rattle.typed_tree.specs.declared.tree.Tree.{Tree}
use Rattle.typed_tree.specs.declared.tree.Variable.{Variable}
use Rattle.typed_tree.specs.Loops.{controls_of}
use Rattle.typed_tree.specs.Threats.{controls_but, is_none_of}
use Rattle.typed_tree.specs.WellFormed.{IsWellFormed, outline_of}
use Rattle.meaning.specs.declared.outcome.Ending.TheVariants as ending
use Rattle.meaning.specs.declared.value.Value.{Value}
use Rattle.meaning.specs.Effect.{Action, State, and_then, begin_with, end_with, give}
use Rattle.meaning.specs.Effect as effect
use Rattle.meaning.specs.Laws.{state_after}
use Rattle.meaning.specs.Meaning.{Activation, Argument, Calls, OfPlace, OfRow, OfValue, activated, calls_of, environment_of, executed, own_place}
use Rattle.meaning.specs.Meaning.{place_for, place_passed}
use Rattle.meaning.specs.Store.{Environment, Place}
use Rattle.checker_calls.specs.Environments.{LiesUnder}
use Rattle.checker_calls.proofs.Callee.{Outer, Own, PassedTo, Seen, either-cond, seen-as}
use Rattle.checker_expressions.proofs.EffectsKept.{IsOwn, Keeps, Leaving, MayWrite, Standing, keeps-give, keeps-stop, keeps-then, leaves-same, leaves-then}
use Rattle.checker_expressions.proofs.EffectsKept.{watching}
use Rattle.cert_checker.proofs.EffectsParameters.{begun-body, keeps-received, well-body}
use Rattle.cert_checker.proofs.EffectsRoutines.{keeps-end, keeps-result, leaves-begun}
use Rattle.cert_checker.proofs.SparedText.{AllMayPass, CallsKeep, MayChangeOthers, text-kept}

-- of the variables that are visible, this one alone lies over a place
abbrev pub IsAlone : Place → ℕ → Environment → Type 0
IsAlone place root visible = (other : ℕ) (home : Place) → visible.variables other ≡ Some home → LiesUnder home place → other ≡ root

-- a variable controls a for statement of a block, which declares it
pub record Controls (tree : Tree) (block control : ℕ) : Type 0 where
  pub body : Block
  pub block_is : slice_get tree.blocks.items block ≡ Some body
  pub among : list_any (λ one. nat_eq one control) (controls_of body.body) ≡ true
  pub variable : Variable
  pub variable_is : slice_get tree.variables.items control ≡ Some variable
  pub own : variable.block ≡ block

-- calls leave what lies where a control variable alone does
abbrev pub SpareControls : Tree → Calls → Type 0
SpareControls tree calls =
    (block control : ℕ) → Controls tree block control → (place : Place) (caller : Environment) → IsAlone place control caller
    → CallsKeep (watching place caller) calls

-- it is a control variable of a block that isn't this one
among-but : (but start : ℕ) (blocks : List Block) (k : ℕ) (block : Block) (root : ℕ) → slice_get blocks k ≡ Some block → nat_eq (start + k) but ≡ false
    → list_any (λ one. nat_eq one root) (controls_of block.body) ≡ true → list_any (λ one. nat_eq one root) (controls_but but start blocks) ≡ true
among-but but start [] k block root is other among = absurd (none-some block is)
among-but but start (first ∷ blocks) zero block root is other among =
    let same = same_Some first block is in
    let here : start + 0 ≡ start = omega arith in
    let own : list_any (λ one. nat_eq one root) (if nat_eq start but then [] else controls_of first.body) ≡ true =
    ap (λ (b : Bool). list_any (λ one. nat_eq one root) (if b then [] else controls_of first.body)) (ap (λ (n : ℕ). nat_eq n but) (sym here) ∙ other)
    ∙ ap (λ (b : Block). list_any (λ one. nat_eq one root) (controls_of b.body)) same ∙ among in
    list_any-append (λ one. nat_eq one root) (if nat_eq start but then [] else controls_of first.body) (controls_but but (suc start) blocks)
    ∙ or_left (list_any (λ one. nat_eq one root) (if nat_eq start but then [] else controls_of first.body))
    (list_any (λ one. nat_eq one root) (controls_but but (suc start) blocks)) own
among-but but start (first ∷ blocks) (suc k) block root is other among =
    let next : start + suc k ≡ suc start + k = omega arith in
    list_any-append (λ one. nat_eq one root) (if nat_eq start but then [] else controls_of first.body) (controls_but but (suc start) blocks)
    ∙ or_right (list_any (λ one. nat_eq one root) (if nat_eq start but then [] else controls_of first.body))
    (list_any (λ one. nat_eq one root) (controls_but but (suc start) blocks))
    (among-but but (suc start) blocks k block root is (ap (λ (n : ℕ). nat_eq n but) (sym next) ∙ other) among)

-- what is passed to a formal parameter may be written
passed-may : (at : Standing) (root : ℕ) (home : Place) (argument : Argument) → place_passed argument ≡ Some home
    → AllMayPass at (argument ∷ []) → MayWrite at home
passed-may at root home (OfValue v) is may = absurd (none-some home is)
passed-may at root home (OfRow values) is may = absurd (none-some home is)
passed-may at root home (OfPlace found) is may = may.0 home is

for-may : (at : Standing) (root : ℕ) (home : Place) (parameters : List ℕ) (arguments : List Argument) → AllMayPass at arguments
    → place_for root parameters arguments ≡ Some home → MayWrite at home
for-may at root home [] arguments may is = absurd (none-some home is)
for-may at root home (parameter ∷ parameters) [] may is = absurd (none-some home is)
for-may at root home (parameter ∷ parameters) (argument ∷ arguments) may is =
    ⊎_elim (λ here. passed-may at root home argument here.1 (may.0, tt)) (λ there. for-may at root home parameters arguments may.1 there.1)
    (either-cond (nat_eq parameter root) (place_passed argument) (place_for root parameters arguments) (Some home) is)

-- what is left of one place is left, whatever is visible
left-as : (home : Place) (visible other : Environment) (s t : State) → Leaving (watching home visible) s t → Leaving (watching home other) s t
left-as home visible other s t left = record {
  grows = left.grows;
  leaves = record { values = left.leaves.values; defined = left.leaves.defined };
}

module _ (tree : Tree) (well : IsWellFormed tree) (block control : ℕ) (controls : Controls tree block control) (home : Place) where
  module _ (calls : Calls) (spared : SpareControls tree calls) (number : ℕ) (callee : Block) (callee_is : slice_get tree.blocks.items number ≡ Some callee)
      (arguments : List Argument) (caller : Environment) (alone : IsAlone home control caller) (may : AllMayPass (watching home caller) arguments)
      (activation_number : ℕ) (later : home.activation < activation_number) where
    abbrev activation : Activation
    activation = record { number = activation_number; block = number; heading = callee.heading; arguments = arguments; caller = caller }

    abbrev visible : Environment
    visible = environment_of tree activation

    abbrev at : Standing
    at = watching home visible

    -- what lies over the place in the activation is the control variable, of another block
    over-control : (root : ℕ) (place : Place) → visible.variables root ≡ Some place → LiesUnder place home → (root ≡ control) × (nat_eq block number ≡ false)
    over-control root place seen lies =
        let found = seen-as tree activation root place seen in
        by found.0 found.1 found.2
      where
        by : (variable : Variable) → slice_get tree.variables.items root ≡ Some variable → Seen activation root variable place
            → (root ≡ control) × (nat_eq block number ≡ false)
        by variable there (Own own kind_is place_is) =
            let level = ap (λ (p : Place). p.activation) place_is in
            let same = lies.0 in
            absurd (omega (arith, level, same, later))
        by variable there (PassedTo own kind_is place_is) =
            let same = lies.0 in
            absurd (for-may (watching home caller) root place callee.heading.parameters.items arguments may place_is (omega (arith, same)) lies)
        by variable there (Outer other around place_is) =
            let root_is = alone root place place_is lies in
            let alike : variable ≡ controls.variable =
            same_Some variable controls.variable (sym there ∙ ap (slice_get tree.variables.items) root_is ∙ controls.variable_is) in
            let of_block : variable.block ≡ block = ap (λ (v : Variable). v.block) alike ∙ controls.own in
            (root_is, ap (λ (b : ℕ). nat_eq b number) (sym of_block) ∙ other)

    alone-inside : IsAlone home control visible
    alone-inside root place seen lies = (over-control root place seen lies).0

    -- what the block doesn't spare may be changed
    others : MayChangeOthers at (controls_but number 0 tree.blocks.items)
    others root free place seen earlier lies =
        let over = over-control root place seen lies in
        let plain : 0 + block ≡ block = zero-add block in
        let among = among-but number 0 tree.blocks.items block controls.body control controls.block_is
        (ap (λ (b : ℕ). nat_eq b number) plain ∙ over.1) controls.among in
        false≢true (sym (ap not among) ∙ (ap (is_none_of (controls_but number 0 tree.blocks.items)) (sym over.0) ∙ free))

    own : (root : ℕ) → IsOwn at (Some (own_place activation_number root))
    own root place seen =
        let level = ap (λ (p : Place). p.activation) (same_Some (own_place activation_number root) place seen) in
        (omega arith, λ earlier. absurd (omega (arith, level, earlier, later)))

    keeps-executed : Keeps at (executed tree calls callee activation)
    keeps-executed =
        keeps-then at _ _ (keeps-received at tree well activation callee callee_is refl refl own)
        (λ _. keeps-then at _ _
        (text-kept at calls (λ turns. spared block control controls home (record visible { turns = turns }) alone-inside) (outline_of tree) number refl
        callee.body [] [] [] tt
        (well-body tree well number callee callee_is) (begun-body tree well number callee callee_is) (controls_but number 0 tree.blocks.items) others
        (well.unthreatened number callee callee_is))
        (λ _. keeps-result at callee.heading.result visible))

    keeps-activation : (living : List ℕ) → Keeps at (effect.◌>>=◌ (executed tree calls callee activation) (λ v. effect.◌>>=◌ (end_with living) (λ _. give v)))
    keeps-activation living = keeps-then at _ _ keeps-executed (λ v. keeps-then at _ _ (keeps-end at living) (λ _. keeps-give at v))

  module _ (calls : Calls) (spared : SpareControls tree calls) (number : ℕ) (callee : Block) (callee_is : slice_get tree.blocks.items number ≡ Some callee)
      (arguments : List Argument) (caller : Environment) (alone : IsAlone home control caller) (may : AllMayPass (watching home caller) arguments)
      (s : State) (begun : suc home.activation ≤ s.activations) where
    abbrev inner : ℕ → Action Value
    inner number_of_it = effect.◌>>=◌
        (executed tree calls callee
        (record { number = number_of_it; block = number; heading = callee.heading; arguments = arguments; caller = caller }))
        (λ v. effect.◌>>=◌ (end_with s.living) (λ _. give v))

    begun-leaves : (turns : ℕ) → Leaving (watching home caller) s (state_after (and_then (begin_with turns number s) inner))
    begun-leaves zero = leaves-same (watching home caller) s _ refl refl
    begun-leaves (suc left) =
        let next : State = record s { turns = left; activations = suc s.activations; living = number ∷ s.living } in
        let later : home.activation < s.activations = omega (arith, begun) in
        let environment = visible calls spared number callee callee_is arguments caller alone may s.activations later in
        let kept = keeps-activation calls spared number callee callee_is arguments caller alone may s.activations later s.living in
        leaves-then (watching home caller) s next (state_after (inner s.activations next)) (leaves-begun (watching home caller) s next refl refl)
        (left-as home environment caller next (state_after (inner s.activations next)) (kept.left next (omega (arith, begun))))

  keeps-activated : (calls : Calls) → SpareControls tree calls → (number : ℕ) (arguments : List Argument) (caller : Environment) → IsAlone home control caller
      → AllMayPass (watching home caller) arguments → (found : Option Block) → slice_get tree.blocks.items number ≡ found
      → Keeps (watching home caller) (activated tree calls number found arguments caller)
  keeps-activated calls spared number arguments caller alone may None is = keeps-give (watching home caller) _
  keeps-activated calls spared number arguments caller alone may (Some callee) is = record {
    left = λ s begun. begun-leaves calls spared number callee is arguments caller alone may s begun s.turns;
  }

-- by the depth of activations in one another
pub spared-calls : (tree : Tree) → IsWellFormed tree → (depth : ℕ) → SpareControls tree (calls_of tree depth)
spared-calls tree well zero block control controls home caller alone number arguments may = keeps-stop (watching home caller) Value ending.More
spared-calls tree well (suc depth) block control controls home caller alone number arguments may =
    keeps-activated tree well block control controls home (calls_of tree depth) (spared-calls tree well depth) number arguments caller alone may
    (slice_get tree.blocks.items number) refl
