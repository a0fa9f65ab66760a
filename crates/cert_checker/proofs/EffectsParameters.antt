-- The formal parameters of a block: each is a variable that the block declares, and they are apart from one another; so where
-- values are passed to them, no place is written but those of the activation.
use Rattle.std.specs.Prelude.{◌≤◌, if◌then◌else◌, slice_get}
use Rattle.std.specs.Cmp.Lexicographic.{pointwise}
use Rattle.std.specs.List.{Contains}
use Rattle.std.proofs.lemmas.List.Elements.{Contains-append_left, Contains-append_right}
use Rattle.std.proofs.Common.{arith, ◌≡◌, ◌⊎◌, inl, inr, ⊎_elim, ℕ, suc, ◌+◌, zero-add, List, [], ◌∷◌, ◌++◌, Bool, true, false, ◌&&◌, ◌||◌}
use Rattle.std.proofs.Common.{Option, Some, None, nat_eq, refl, sym, ap, ◌∙◌, subst}
use Rattle.std.proofs.lemmas.Bool.{and_parts, cases_Bool, eq-eqb, eqb-true, false≢true, or_cases, or_right}
use Rattle.types.specs.Components.{components_of}
use Rattle.types.specs.Forms.{Form}
use Rattle.typed_tree.specs.declared.tree.Tree.{Tree}
use Rattle.typed_tree.specs.declared.tree.Block.{Block}
use Rattle.typed_tree.specs.declared.tree.Heading.{Heading}
use Rattle.typed_tree.specs.declared.tree.Variable.{Variable}
use Rattle.typed_tree.specs.declared.tree.VariableKind.{VariableKind}
use Rattle.typed_tree.specs.declared.tree.VariableKind.TheVariants as kind
use Rattle.typed_tree.specs.WellFormed.{IsWellFormed, are_all, are_few_cells, is_heading, is_local_kind, is_one_of, is_parameter_kind, is_placed}
use Rattle.typed_tree.specs.WellFormed.{is_result_kind, is_result_or_none, is_well_formed_block, is_well_formed_stmt, outline_of, result_roots, roots_where}
use Rattle.typed_tree.specs.Kinds.{is_held_stmt}
use Rattle.typed_tree.specs.Records.{begins_in}
use Rattle.typed_tree.proofs.Blocks.{is_well_formed_at}
use Rattle.meaning.specs.Store.{Environment, Place}
use Rattle.meaning.specs.Effect.{Action, give, store}
use Rattle.meaning.specs.Effect as effect
use Rattle.meaning.specs.Meaning.{Activation, Argument, OfPlace, OfRow, OfValue, assign, assign_all, home_of, own_place, place_for}
use Rattle.meaning.specs.Meaning.{environment_of, place_passed, seen_from}
use Rattle.checker_state.specs.Loops.{is_among}
use Rattle.checker_loops.specs.Sections.{BlockClaims, block_claims_at}
use Rattle.checker_loops.specs.Starts.{is_own}
use Rattle.checker_rows.proofs.Numbered.{has-contains}
use Rattle.checker_loops.proofs.AliasedStores.{all-pass}
use Rattle.checker_calls.proofs.Callee.{in-roots}
use Rattle.checker_expressions.proofs.EffectsKept.{IsOwn, Keeps, MayWriteTo, Standing, keeps-give, keeps-store, keeps-store_all, keeps-then, lies-itself}
use Rattle.checker_expressions.proofs.EffectsKept.{listing, own-write}
use Rattle.checker_expressions.proofs.EffectsCalls.{DeclareTheirs, Grounds, activation_from, not-among, standing_from}

-- ---- blocks of a well formed tree

pub well-block : (tree : Tree) → IsWellFormed tree → (number : ℕ) (block : Block) → slice_get tree.blocks.items number ≡ Some block
    → is_well_formed_block (outline_of tree) number block ≡ true
well-block tree well number block is =
    subst (λ (n : ℕ). is_well_formed_block (outline_of tree) n block ≡ true) (zero-add number)
    (is_well_formed_at (outline_of tree) 0 tree.blocks.items well.blocks number block is)

-- its statement is
pub well-body : (tree : Tree) → IsWellFormed tree → (number : ℕ) (block : Block) → slice_get tree.blocks.items number ≡ Some block
    → is_well_formed_stmt (outline_of tree) number block.body ≡ true
well-body tree well number block is =
    let outline = outline_of tree in
    let body = is_well_formed_stmt outline number block.body in
    let one = and_parts (is_heading outline number block.heading) (are_few_cells outline number && body) (well-block tree well number block is) in
    (and_parts (are_few_cells outline number) body one.1).1

-- its operands are as they are taken
pub held-body : (tree : Tree) → IsWellFormed tree → (number : ℕ) (block : Block) → slice_get tree.blocks.items number ≡ Some block
    → is_held_stmt block.body ≡ true
held-body tree well number block is =
    all-pass (λ (b : Block). is_held_stmt b.body) tree.blocks.items block (has-contains tree.blocks.items block (number, is)) well.held

-- and each access in it begins at what is there
pub begun-body : (tree : Tree) → IsWellFormed tree → (number : ℕ) (block : Block) → slice_get tree.blocks.items number ≡ Some block
    → begins_in block.body [] ≡ true
begun-body tree well number block is =
    all-pass (λ (b : Block). begins_in b.body []) tree.blocks.items block (has-contains tree.blocks.items block (number, is)) well.there

-- ---- the roots of parameters

roots-same : (first second : List ℕ) → pointwise nat_eq first second ≡ true → first ≡ second
roots-same [] [] is = refl
roots-same [] (b ∷ second) is = absurd (cc)
roots-same (a ∷ first) [] is = absurd (cc)
roots-same (a ∷ first) (b ∷ second) is =
    let parts = and_parts (nat_eq a b) (pointwise nat_eq first second) is in
    ap (λ (x : ℕ). x ∷ first) (eqb-true a b parts.0) ∙ ap (λ (xs : List ℕ). b ∷ xs) (roots-same first second parts.1)

-- the variable of a root that is found among variables, of which the first has a root
record IsFound (test : Variable → Bool) (start : ℕ) (variables : List Variable) (root : ℕ) : Type 0 where
  position : ℕ
  variable : Variable
  root_is : root ≡ start + position
  there : slice_get variables position ≡ Some variable
  passes : test variable ≡ true

found-later : (test : Variable → Bool) (start : ℕ) (first : Variable) (variables : List Variable) (root : ℕ) → IsFound test (suc start) variables root
    → IsFound test start (first ∷ variables) root
found-later test start first variables root found = record {
  position = suc found.position;
  variable = found.variable;
  root_is = (let is = found.root_is in omega (arith, is));
  there = found.there;
  passes = found.passes;
}

found-by : (test : Variable → Bool) (start : ℕ) (first : Variable) (variables : List Variable) (root : ℕ) (passes : Bool) → test first ≡ passes
    → (is_among root (roots_where test (suc start) variables) ≡ true → IsFound test (suc start) variables root)
    → is_among root
    (if passes then start ∷ roots_where test (suc start) variables else roots_where test (suc start) variables) ≡ true
    → IsFound test start (first ∷ variables) root
found-by test start first variables root true is later among =
    ⊎_elim
    (λ (same : nat_eq start root ≡ true). record {
      position = 0;
      variable = first;
      root_is = (let one = eqb-true start root same in omega (arith, one));
      there = refl;
      passes = is;
    })
    (λ (more : is_among root (roots_where test (suc start) variables) ≡ true). found-later test start first variables root (later more))
    (or_cases (nat_eq start root) (is_among root (roots_where test (suc start) variables)) among)
found-by test start first variables root false is later among = found-later test start first variables root (later among)

found-where : (test : Variable → Bool) (start : ℕ) (variables : List Variable) (root : ℕ) → is_among root (roots_where test start variables) ≡ true
    → IsFound test start variables root
found-where test start [] root among = absurd (cc)
found-where test start (first ∷ variables) root among =
    found-by test start first variables root (test first) refl (found-where test (suc start) variables root) among

-- these roots are apart
abbrev AreApart : List ℕ → Type 0
AreApart [] = Unit {0}
AreApart (root ∷ roots) = (is_among root roots ≡ false) × AreApart roots

apart-by : (passes : Bool) (start : ℕ) (roots : List ℕ) → (is_among start roots ≡ true → ⊥) → AreApart roots
    → AreApart (if passes then start ∷ roots else roots)
apart-by true start roots other apart = (not-among start roots other, apart)
apart-by false start roots other apart = apart

apart-where : (test : Variable → Bool) (start : ℕ) (variables : List Variable) → AreApart (roots_where test start variables)
apart-where test start [] = tt
apart-where test start (first ∷ variables) =
    apart-by (test first) start (roots_where test (suc start) variables)
    (λ among. let is = (found-where test (suc start) variables start among).root_is in omega (arith, is))
    (apart-where test (suc start) variables)

-- ---- the parameters of a block

abbrev declares_parameter : ℕ → Variable → Bool
declares_parameter number variable = nat_eq variable.block number && is_parameter_kind variable.kind

parameters-are : (tree : Tree) → IsWellFormed tree → (number : ℕ) (block : Block) → slice_get tree.blocks.items number ≡ Some block
    → block.heading.parameters.items ≡ roots_where (declares_parameter number) 0 tree.variables.items
parameters-are tree well number block is =
    let outline = outline_of tree in
    let heading = block.heading in
    let body = is_well_formed_stmt outline number block.body in
    let last = are_all outline number is_result_kind (result_roots heading.result) && is_result_or_none outline heading.result in
    let all = are_all outline number is_parameter_kind heading.parameters.items in
    let one = and_parts (is_heading outline number heading) (are_few_cells outline number && body) (well-block tree well number block is) in
    let two = and_parts (is_placed outline number heading) (all && last) one.0 in
    let three = and_parts all last two.1 in
    roots-same heading.parameters.items (roots_where (declares_parameter number) 0 tree.variables.items) three.0

-- each is a variable that the block declares
pub declare-theirs : (tree : Tree) → IsWellFormed tree → DeclareTheirs tree
declare-theirs tree well number block root is among =
    let test = declares_parameter number in
    let found = found-where test 0 tree.variables.items root
    (subst (λ (roots : List ℕ). is_among root roots ≡ true) (parameters-are tree well number block is) among) in
    let own = (and_parts (nat_eq found.variable.block number) (is_parameter_kind found.variable.kind) found.passes).0 in
    let root_is = found.root_is in
    let position_is : found.position ≡ root = omega (arith, root_is) in (
      found.variable,
      subst (λ (k : ℕ). slice_get tree.variables.items k ≡ Some found.variable) position_is found.there,
      eqb-true found.variable.block number own,
    )

parameters-apart : (tree : Tree) → IsWellFormed tree → (number : ℕ) (block : Block) → slice_get tree.blocks.items number ≡ Some block
    → AreApart block.heading.parameters.items
parameters-apart tree well number block is =
    subst AreApart (sym (parameters-are tree well number block is)) (apart-where (declares_parameter number) 0 tree.variables.items)

-- ---- what is passed is written

-- a place is one of the activation's own, or what is passed
abbrev IsPlaced : Standing → Option Place → Option Place → Type 0
IsPlaced at found passed = IsOwn at found ⊎ (found ≡ passed)

placed-write : (at : Standing) (found : Option Place) → IsPlaced at found None → MayWriteTo at found
placed-write at found (inl own) = own-write at found own
placed-write at found (inr is) = λ place seen. absurd (cc)

keeps-assign : (at : Standing) (types : List Form) (found : Option Place) (formal : Option Variable) (argument : Argument)
    → IsPlaced at found (place_passed argument) → Keeps at (assign types found formal argument)
keeps-assign at types found formal (OfValue v) placed = keeps-store at found v (placed-write at found placed)
keeps-assign at types found None (OfRow values) placed = keeps-give at tt
keeps-assign at types found (Some formal) (OfRow values) placed =
    keeps-store_all at found (components_of types formal.type_id) values (placed-write at found placed)
keeps-assign at types found None (OfPlace other) placed = keeps-give at tt
keeps-assign at types found (Some formal) (OfPlace other) placed = keeps-give at tt

-- the place of each of these roots is the activation's own, or what is passed for it
abbrev ArePlaced : Standing → Environment → List ℕ → List Argument → Type 0
ArePlaced at visible roots arguments =
    (root : ℕ) → is_among root roots ≡ true → IsPlaced at (visible.variables root) (place_for root roots arguments)

first-passed : (root : ℕ) (roots : List ℕ) (argument : Argument) (arguments : List Argument)
    → place_for root (root ∷ roots) (argument ∷ arguments) ≡ place_passed argument
first-passed root roots argument arguments =
    ap (λ (same : Bool). if same then place_passed argument else place_for root roots arguments) (eq-eqb root root refl)

later-passed : (root other : ℕ) (roots : List ℕ) (argument : Argument) (arguments : List Argument) → nat_eq root other ≡ false
    → place_for other (root ∷ roots) (argument ∷ arguments) ≡ place_for other roots arguments
later-passed root other roots argument arguments is =
    ap (λ (same : Bool). if same then place_passed argument else place_for other roots arguments) is

among-first : (root : ℕ) (roots : List ℕ) → is_among root (root ∷ roots) ≡ true
among-first root roots = ap (λ (same : Bool). same || is_among root roots) (eq-eqb root root refl)

-- one that stands behind is another
other-root : (root other : ℕ) (roots : List ℕ) → is_among root roots ≡ false → is_among other roots ≡ true → nat_eq root other ≡ false
other-root root other roots apart among =
    ⊎_elim
    (λ (same : nat_eq root other ≡ true).
    absurd (false≢true (sym apart ∙ ap (λ (r : ℕ). is_among r roots) (eqb-true root other same) ∙ among)))
    (λ (is : nat_eq root other ≡ false). is) (cases_Bool (nat_eq root other))

keeps-assign_all : (at : Standing) (tree : Tree) (visible : Environment) (roots : List ℕ) (arguments : List Argument) → AreApart roots
    → ArePlaced at visible roots arguments → Keeps at (assign_all tree visible roots arguments)
keeps-assign_all at tree visible [] arguments apart placed = keeps-give at tt
keeps-assign_all at tree visible (root ∷ roots) [] apart placed = keeps-give at tt
keeps-assign_all at tree visible (root ∷ roots) (argument ∷ arguments) apart placed =
    let found = visible.variables root in
    let first : IsPlaced at found (place_passed argument) =
    subst (IsPlaced at found) (first-passed root roots argument arguments) (placed root (among-first root roots)) in
    keeps-then at _ _ (keeps-assign at tree.types found (slice_get tree.variables.items root) argument first)
    (λ _. keeps-assign_all at tree visible roots arguments apart.1
    (λ other among.
    subst (IsPlaced at (visible.variables other))
    (later-passed root other roots argument arguments (other-root root other roots apart.0 among))
    (placed other (or_right (nat_eq root other) (is_among other roots) among))))

-- ---- an activation

-- what a block declares is seen in its activation where it lies
seen-own : (activation : Activation) (root : ℕ) (variable : Variable) → variable.block ≡ activation.block
    → seen_from activation root (Some variable) ≡ home_of activation root variable.kind
seen-own activation root variable own =
    ap (λ (same : Bool). if same then home_of activation root variable.kind
    else (if is_one_of activation.heading.around.items variable.block then activation.caller.variables root else None))
    (eq-eqb variable.block activation.block own)

-- what a block declares is placed so in an activation of it, whose own places may be written
pub home-placed : (at : Standing) (activation : Activation) → ((root : ℕ) → IsOwn at (Some (own_place activation.number root)))
    → (root : ℕ) (one : VariableKind) → IsPlaced at (home_of activation root one) (place_for root activation.heading.parameters.items activation.arguments)
home-placed at activation own root kind.VariableParameter = inr refl
home-placed at activation own root kind.Local = inl (own root)
home-placed at activation own root kind.ValueParameter = inl (own root)
home-placed at activation own root kind.Result = inl (own root)

-- what is passed to a block is written where it may be
pub keeps-received : (at : Standing) (tree : Tree) → IsWellFormed tree → (activation : Activation) (block : Block)
    → slice_get tree.blocks.items activation.block ≡ Some block → activation.heading ≡ block.heading → at.visible ≡ environment_of tree activation
    → ((root : ℕ) → IsOwn at (Some (own_place activation.number root)))
    → Keeps at (assign_all tree at.visible block.heading.parameters.items activation.arguments)
keeps-received at tree well activation block is headed visible_is own =
    keeps-assign_all at tree at.visible block.heading.parameters.items activation.arguments (parameters-apart tree well activation.block block is)
    (λ root among.
    let (variable, found, of_block) = declare-theirs tree well activation.block block root is among in
    let home : at.visible.variables root ≡ home_of activation root variable.kind =
    ap (λ (visible : Environment). visible.variables root) visible_is ∙ ap (seen_from activation root) found ∙ seen-own activation root variable of_block in
    subst (λ (place : Option Place). IsPlaced at place (place_for root block.heading.parameters.items activation.arguments)) (sym home)
    (subst (λ (heading : Heading). IsPlaced at (home_of activation root variable.kind) (place_for root heading.parameters.items activation.arguments)) headed
    (home-placed at activation own root variable.kind)))

own-at : (at : Standing) (root : ℕ) → at.settled ≤ at.number → IsOwn at (Some (own_place at.number root))
own-at at root few place is =
    let same : own_place at.number root ≡ place = cc in
    let number_is : at.number ≡ place.activation = ap (λ (p : Place). p.activation) same in
    (omega (arith, number_is, few), λ earlier. absurd (omega (arith, number_is, earlier)))

module _ (tree : Tree) (blocks : List BlockClaims) (number : ℕ) (block : Block) (arguments : List Argument) (caller : Environment) (s : effect.State) where
  abbrev activation : Activation
  activation = activation_from number block arguments caller s

  abbrev at : Standing
  at = standing_from tree blocks number block arguments caller s

  visible-home : (root : ℕ) (variable : Variable) → slice_get tree.variables.items root ≡ Some variable → variable.block ≡ number
      → at.visible.variables root ≡ home_of activation root variable.kind
  visible-home root variable found own = ap (seen_from activation root) found ∙ seen-own activation root variable own

  pub keeps-passing : IsWellFormed tree → slice_get tree.blocks.items number ≡ Some block
      → Keeps at (assign_all tree at.visible block.heading.parameters.items arguments)
  keeps-passing well is = keeps-received at tree well activation block is refl refl (λ root. own-at at root (omega arith))

  own-home : (root : ℕ) (home : Place) (one : VariableKind) → (is_local_kind one || is_result_kind one) ≡ true
      → home_of activation root one ≡ Some home → home.activation ≡ s.activations
  own-home root home kind.VariableParameter own is = absurd (cc)
  own-home root home kind.ValueParameter own is = absurd (cc)
  own-home root home kind.Local own is =
      let same : own_place s.activations root ≡ home = cc in sym (ap (λ (p : Place). p.activation) same)
  own-home root home kind.Result own is =
      let same : own_place s.activations root ≡ home = cc in sym (ap (λ (p : Place). p.activation) same)

  -- an activation that begins stands on the claims of its block
  pub activation-grounds : Grounds tree blocks number at
  activation-grounds = record {
    few = omega arith;
    lists = λ root home inside seen. (root, home, inside, seen, lies-itself home);
    own = λ root variable home found owns seen.
        let parts = and_parts (nat_eq variable.block number) (is_local_kind variable.kind || is_result_kind variable.kind) owns in
        let at_home = own-home root home variable.kind parts.1 (sym (visible-home root variable found (eqb-true variable.block number parts.0)) ∙ seen) in
        (omega (arith, at_home), λ earlier. absurd (omega (arith, at_home, earlier)));
  }

  -- so does what it does behind the assignments of its value parameters: its own variables are listed too
  abbrev pub behind : Standing
  behind =
      listing (suc s.activations) s.activations ((block_claims_at blocks number).changes ++ roots_where (is_own number) 0 tree.variables.items) at.visible

  pub behind-grounds : Grounds tree blocks number behind
  behind-grounds = record {
    few = omega arith;
    lists = λ root home inside seen. (
      root,
      home,
      Contains-append_left (block_claims_at blocks number).changes (roots_where (is_own number) 0 tree.variables.items) root inside,
      seen,
      lies-itself home,
    );
    own = λ root variable home found owns seen.
        let parts = and_parts (nat_eq variable.block number) (is_local_kind variable.kind || is_result_kind variable.kind) owns in
        let at_home = own-home root home variable.kind parts.1 (sym (visible-home root variable found (eqb-true variable.block number parts.0)) ∙ seen) in
        let here : 0 + root ≡ root = omega arith in (
          omega (arith, at_home),
          λ earlier. (
            root,
            home,
            Contains-append_right (block_claims_at blocks number).changes (roots_where (is_own number) 0 tree.variables.items) root
                (subst (Contains (roots_where (is_own number) 0 tree.variables.items)) here
                (in-roots (is_own number) 0 tree.variables.items root variable found owns)),
            seen,
            lies-itself home,
          ),
        );
  }
