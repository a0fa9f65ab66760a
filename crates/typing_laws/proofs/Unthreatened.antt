-- In a tree that looks as a typed one does, no block threatens the control variables of another, and no for statement its own.
use Rattle.std.specs.declared.alloc.Global.{Global}
use Rattle.std.proofs.Common.{Vec, ℤ, ◌≡◌, ℕ, suc, ◌+◌, Bool, true, false, ◌&&◌, ◌||◌, not, nat_eq, if◌then◌else◌, List, [], ◌∷◌, ◌++◌, length, map}
use Rattle.std.proofs.Common.{Option, Some, None, slice_get, refl, sym, ap, subst, ◌∙◌, arith, append_assoc, ⊎_elim}
use Rattle.std.specs.Prelude.{IsPermutation, flat_map}
use Rattle.std.specs.List.{list_all, range_with_len}
use Rattle.std.specs.Option.{option_and_then}
use Rattle.std.proofs.lemmas.Bool.{and_from, cases_Bool, eqb-true, eq-eqb, or_cases, or_left, or_right}
use Rattle.std.proofs.lemmas.Grind.{flat_map-append}
use Rattle.std.proofs.lemmas.List.Folds.{list_any-append}
use Rattle.typed_tree.specs.declared.tree.Block.{Block}
use Rattle.typed_tree.specs.declared.tree.Tree.{Tree}
use Rattle.typed_tree.specs.declared.tree.Stmt.{Stmt}
use Rattle.typed_tree.specs.declared.tree.Stmt.TheOpen.{Stmt-F}
use Rattle.typed_tree.specs.declared.tree.Stmt.TheOpen.Stmt-F.{Compound, If, While, Repeat, For, Case, With}
use Rattle.typed_tree.specs.Accesses.{AtVariable}
use Rattle.typed_tree.specs.declared.tree.Stmt.TheFolds.{map-Stmt, fold-roll-Stmt, ind-Stmt}
use Rattle.typed_tree.specs.declared.tree.Stmt.TheViews.{roll-Stmt}
use Rattle.typed_tree.specs.Entries.{joined, of_block}
use Rattle.typed_tree.specs.Loops.{Inside, all_inside, controls_of, inside_of, statement_inside}
use Rattle.typed_tree.specs.Look.{Look, Mark, Ends, Else, Then, Do, Until, Fits, Controls, ForEnds, arms_look, heading_look, look_block}
use Rattle.typed_tree.specs.Look.{WithEnds, look_expr, look_record, look_stmt, statement_look, tree_look}
use Rattle.typed_tree.specs.Threats.{controls_but, is_none_of, spares}
use Rattle.typed_tree.proofs.Quiet.{inner_stmt}
use Rattle.typing_laws.specs.Controls.{AreUnthreatened, Each, IsKeptBy, in_blocks, mark_behind, mark_changes, mark_controls, spared_behind}
use Rattle.typing_laws.proofs.Kept.{changes_of}
use Rattle.typing_laws.proofs.OwnBlocks.{among, has, look_at, none_some, own_block}
use Rattle.typing_laws.proofs.Placed.{placed_as_far, placed_inner}
use Rattle.typing_laws.proofs.Sparing.{cut, some_same, tells_stmt}

-- ---- the control variables of a statement are told by how it looks

abbrev told_in : Look → List ℕ
told_in look = flat_map mark_controls look

abbrev HasControls : Look → List ℕ → Type 0
HasControls look controls = (root : ℕ) → has controls root ≡ true → has (told_in look) root ≡ true

behind_others : (look more : Look) (controls : List ℕ) → HasControls more controls → HasControls (look ++ more) controls
behind_others look more controls told root is =
    ap (λ (roots : List ℕ). has roots root) (flat_map-append mark_controls look more) ∙ list_any-append (λ one. nat_eq one root) (told_in look) (told_in more)
    ∙ or_right (has (told_in look) root) (has (told_in more) root) (told root is)

before_others : (look more : Look) (controls : List ℕ) → HasControls look controls → HasControls (look ++ more) controls
before_others look more controls told root is =
    ap (λ (roots : List ℕ). has roots root) (flat_map-append mark_controls look more) ∙ list_any-append (λ one. nat_eq one root) (told_in look) (told_in more)
    ∙ or_left (has (told_in look) root) (has (told_in more) root) (told root is)

both_told : (look more : Look) (controls others : List ℕ) → HasControls look controls → HasControls more others
    → HasControls (look ++ more) (controls ++ others)
both_told look more controls others one two root is =
    ⊎_elim (λ first. before_others look more controls one root first) (λ second. behind_others look more others two root second)
    (or_cases (has controls root) (has others root) (sym (list_any-append (λ one. nat_eq one root) controls others) ∙ is))

none_told : (look : Look) → HasControls look []
none_told look root is = absurd cc

abbrev Told : Type 0
Told = (s : Stmt) × HasControls (look_stmt s) (inside_of s).controls

all_told : (statements : List Told) (end : Look)
    → HasControls (joined (map look_stmt (map (λ s. s.0) statements)) ++ end) (all_inside (map inside_of (map (λ s. s.0) statements))).controls
all_told [] end = none_told end
all_told (statement ∷ statements) end =
    let more = joined (map look_stmt (map (λ (s : Told). s.0) statements)) in
    let others = (all_inside (map inside_of (map (λ (s : Told). s.0) statements))).controls in
    subst (λ (look : Look). HasControls look ((inside_of statement.0).controls ++ others)) (sym (append_assoc (look_stmt statement.0) more end))
    (both_told (look_stmt statement.0) (more ++ end) (inside_of statement.0).controls others statement.1 (all_told statements end))

arms_told : (rows : List (Vec ℤ Global)) (arms : List Told)
    → HasControls (arms_look rows (map look_stmt (map (λ s. s.0) arms))) (all_inside (map inside_of (map (λ s. s.0) arms))).controls
arms_told rows [] = none_told (arms_look rows [])
arms_told [] (arm ∷ arms) =
    both_told (look_stmt arm.0) (arms_look [] (map look_stmt (map (λ s. s.0) arms))) (inside_of arm.0).controls
    (all_inside (map inside_of (map (λ s. s.0) arms))).controls arm.1 (arms_told [] arms)
arms_told (row ∷ rows) (arm ∷ arms) =
    both_told (look_stmt arm.0) (arms_look rows (map look_stmt (map (λ s. s.0) arms))) (inside_of arm.0).controls
    (all_inside (map inside_of (map (λ s. s.0) arms))).controls arm.1 (arms_told rows arms)

abbrev bare : Stmt-F Told → Stmt-F Stmt
bare = map-Stmt Told Stmt (λ s. s.0)

controls_layer : (y : Stmt-F Told)
    → HasControls (statement_look (map-Stmt Stmt Look look_stmt (bare y))) (statement_inside (map-Stmt Stmt Inside inside_of (bare y))).controls
controls_layer (Compound number statements) = all_told statements.items (Ends ∷ [])
controls_layer (If number condition consequence None) =
    let own = (inside_of consequence.value.0).controls in
    behind_others (look_expr condition) (Then ∷ (look_stmt consequence.value.0 ++ (Ends ∷ []))) (own ++ [])
    (both_told (look_stmt consequence.value.0) (Ends ∷ []) own [] consequence.value.1 (none_told (Ends ∷ [])))
controls_layer (If number condition consequence (Some other)) =
    let own = (inside_of consequence.value.0).controls in
    let others = (inside_of other.value.0).controls in
    behind_others (look_expr condition) (Then ∷ (look_stmt consequence.value.0 ++ (Else ∷ (look_stmt other.value.0 ++ (Ends ∷ []))))) (own ++ others)
    (both_told (look_stmt consequence.value.0) (Else ∷ (look_stmt other.value.0 ++ (Ends ∷ []))) own others consequence.value.1
    (before_others (look_stmt other.value.0) (Ends ∷ []) others other.value.1))
controls_layer (While head body) =
    behind_others (look_expr head.condition) (Do ∷ (look_stmt body.value.0 ++ (Ends ∷ []))) (inside_of body.value.0).controls
    (before_others (look_stmt body.value.0) (Ends ∷ []) (inside_of body.value.0).controls body.value.1)
controls_layer (Repeat head statements) = all_told statements.items (Until ∷ (look_expr head.condition ++ (Ends ∷ [])))
controls_layer (For head body) = λ root is.
    let own = (inside_of body.value.0).controls in
    let last = look_expr head.last.value in
    let inside = Fits (AtVariable head.control) [] head.last.fits ∷ Controls head.control ∷ (look_stmt body.value.0 ++ (ForEnds ∷ [])) in
    let first = look_expr head.first.value in
    let more = Fits (AtVariable head.control) [] head.first.fits ∷ (last ++ inside) in
    let told = behind_others first more own
    (behind_others last inside own (before_others (look_stmt body.value.0) (ForEnds ∷ []) own body.value.1)) in
    ⊎_elim (λ same. or_left (nat_eq head.control root) (has (told_in (first ++ more)) root) same)
    (λ later. or_right (nat_eq head.control root) (has (told_in (first ++ more)) root) (told root later))
    (or_cases (nat_eq head.control root) (has own root) is)
controls_layer (Case head arms) =
    let inside = arms_look head.constants.items (map look_stmt (map (λ (s : Told). s.0) arms.items)) in
    let controls = (all_inside (map inside_of (map (λ (s : Told). s.0) arms.items))).controls in
    behind_others (look_expr head.index) (inside ++ (Ends ∷ [])) controls
    (before_others inside (Ends ∷ []) controls (arms_told head.constants.items arms.items))
controls_layer (With head body) =
    behind_others (flat_map look_record head.records.items) (Do ∷ (look_stmt body.value.0 ++ (WithEnds head.first_slot ∷ [])))
    (inside_of body.value.0).controls (before_others (look_stmt body.value.0) (WithEnds head.first_slot ∷ []) (inside_of body.value.0).controls body.value.1)
controls_layer other = λ root is. absurd cc

controls_told : (s : Stmt) → HasControls (look_stmt s) (inside_of s).controls
controls_told =
    ind-Stmt (λ s. HasControls (look_stmt s) (inside_of s).controls)
    (λ x y is.
    subst (λ (z : Stmt-F Stmt). HasControls (look_stmt (roll-Stmt z)) (inside_of (roll-Stmt z)).controls) is
    (subst (λ (look : Look). HasControls look (inside_of (roll-Stmt (bare y))).controls) (sym (fold-roll-Stmt Look statement_look (bare y)))
    (subst (λ (inside : Inside). HasControls (statement_look (map-Stmt Stmt Look look_stmt (bare y))) inside.controls)
    (sym (fold-roll-Stmt Inside statement_inside (bare y))) (controls_layer y))))

-- ---- more variables that are spared

abbrev SparesAll : List ℕ → List ℕ → Type 0
SparesAll extra changes = list_all (is_none_of extra) changes ≡ true

none_of_both : (own extra : List ℕ) (root : ℕ) → is_none_of own root ≡ true → is_none_of extra root ≡ true → is_none_of (own ++ extra) root ≡ true
none_of_both own extra root one two =
    ap not (list_any-append (λ one. nat_eq one root) own extra) ∙ by (has own root) (has extra root) one two
  where
    by : (a b : Bool) → not a ≡ true → not b ≡ true → not (a || b) ≡ true
    by true b one two = absurd cc
    by false b one two = two

all_of_both : (own extra changes : List ℕ) → SparesAll own changes → SparesAll extra changes → SparesAll (own ++ extra) changes
all_of_both own extra [] one two = refl
all_of_both own extra (root ∷ changes) one two =
    let first = both_parts (is_none_of own root) (list_all (is_none_of own) changes) one in
    let second = both_parts (is_none_of extra root) (list_all (is_none_of extra) changes) two in
    and_from (is_none_of (own ++ extra) root) (list_all (is_none_of (own ++ extra)) changes) (none_of_both own extra root first.0 second.0)
    (all_of_both own extra changes first.1 second.1)
  where
    both_parts : (a b : Bool) → (a && b) ≡ true → (a ≡ true) × (b ≡ true)
    both_parts true b is = (refl, is)
    both_parts false b is = absurd cc

if_true : (b : Bool) (own behind : List ℕ) → (if b then Some own else None) ≡ Some behind → (b ≡ true) × (own ≡ behind)
if_true true own behind is = (refl, some_same own behind is)
if_true false own behind is = absurd cc

plain_with : (changes own extra behind : List ℕ) → SparesAll extra changes
    → (if list_all (is_none_of own) changes then Some own else None) ≡ Some behind
    → (if list_all (is_none_of (own ++ extra)) changes then Some (own ++ extra) else None) ≡ Some (behind ++ extra)
plain_with changes own extra behind apart is =
    let k = if_true (list_all (is_none_of own) changes) own behind is in
    ap (λ (b : Bool). if b then Some (own ++ extra) else None) (all_of_both own extra changes k.0 apart) ∙ ap (λ (all : List ℕ). Some (all ++ extra)) k.1

mark_with : (mark : Mark) (own extra behind : List ℕ) → SparesAll extra (mark_changes mark) → mark_behind mark own ≡ Some behind
    → mark_behind mark (own ++ extra) ≡ Some (behind ++ extra)
mark_with (Controls control) own extra behind apart is = ap (λ (all : List ℕ). Some (all ++ extra)) (some_same (control ∷ own) behind is)
mark_with ForEnds [] extra behind apart is = absurd cc
mark_with ForEnds (root ∷ own) extra behind apart is = ap (λ (all : List ℕ). Some (all ++ extra)) (some_same own behind is)
mark_with other own extra behind apart is = plain_with (mark_changes other) own extra behind apart is

all_parts : (extra first more : List ℕ) → SparesAll extra (first ++ more) → SparesAll extra first × SparesAll extra more
all_parts extra [] more all = (refl, all)
all_parts extra (root ∷ first) more all =
    by (is_none_of extra root) (all_parts extra first more) all
  where
    by : (b : Bool) → (SparesAll extra (first ++ more) → SparesAll extra first × SparesAll extra more)
        → (b && list_all (is_none_of extra) (first ++ more)) ≡ true
        → ((b && list_all (is_none_of extra) first) ≡ true) × SparesAll extra more
    by true rest is = rest is
    by false rest is = absurd cc

look_with : (look : Look) (own extra behind : List ℕ) → SparesAll extra (changes_of look) → spared_behind own look ≡ Some behind
    → spared_behind (own ++ extra) look ≡ Some (behind ++ extra)
look_with [] own extra behind apart is = ap (λ (all : List ℕ). Some (all ++ extra)) (some_same own behind is)
look_with (mark ∷ look) own extra behind apart is =
    let parts = all_parts extra (mark_changes mark) (changes_of look) apart in
    by (mark_behind mark own) refl is parts.0 (λ mid there. look_with look mid extra behind parts.1 there)
  where
    by : (found : Option (List ℕ)) → mark_behind mark own ≡ found → option_and_then (λ (more : List ℕ). spared_behind more look) found ≡ Some behind
        → SparesAll extra (mark_changes mark)
        → ((mid : List ℕ) → spared_behind mid look ≡ Some behind → spared_behind (mid ++ extra) look ≡ Some (behind ++ extra))
        → option_and_then (λ (more : List ℕ). spared_behind more look) (mark_behind mark (own ++ extra)) ≡ Some (behind ++ extra)
    by None there is apart each = absurd cc
    by (Some mid) there is apart each =
        ap (option_and_then (λ (more : List ℕ). spared_behind more look)) (mark_with mark own extra mid apart there) ∙ each mid is

-- ---- blocks

each_at : {A : Type 0} (Holds : A → Type 0) (f : ℕ → A) (roots : List ℕ) (rest : List A) → Each Holds (map f roots ++ rest) → (root : ℕ) → has roots root ≡ true
    → Holds (f root)
each_at Holds f [] rest all root is = absurd cc
each_at Holds f (first ∷ roots) rest all root is =
    ⊎_elim (λ same. subst (λ (n : ℕ). Holds (f n)) (eqb-true first root same) all.0) (λ later. each_at Holds f roots rest all.1 root later)
    (or_cases (nat_eq first root) (has roots root) is)

each_rest : {A : Type 0} (Holds : A → Type 0) (xs rest : List A) → Each Holds (xs ++ rest) → Each Holds rest
each_rest Holds [] rest all = all
each_rest Holds (x ∷ xs) rest all = each_rest Holds xs rest all.1

module _ (tree : Tree) where
  -- a block's own part of what is told block by block
  part_of : (roots : Mark → List ℕ) (Holds : ℕ × ℕ → Type 0) → ((number : ℕ) (block : Block) → roots (heading_look number block.heading block.end) ≡ [])
      → (bodies : List ℕ) → Each Holds (in_blocks roots (flat_map (look_at tree) bodies)) → (number : ℕ) (block : Block)
      → slice_get tree.blocks.items number ≡ Some block
      → has bodies number ≡ true → (root : ℕ) → has (flat_map roots (look_stmt block.body)) root ≡ true → Holds (number, root)
  part_of roots Holds none [] all number block is among root told = absurd cc
  part_of roots Holds none (first ∷ bodies) all number block is among root told =
      by (slice_get tree.blocks.items first) refl all
      (λ rest differs. part_of roots Holds none bodies rest number block is (sym (ap (λ (b : Bool). b || has bodies number) differs) ∙ among) root told)
    where
      rest_is : (other : Block) → in_blocks roots (look_block first other ++ flat_map (look_at tree) bodies)
          ≡ map (λ (one : ℕ). (first, one)) (flat_map roots (look_stmt other.body)) ++ in_blocks roots (flat_map (look_at tree) bodies)
      rest_is other =
          placed_as_far roots first other.heading.around.items other.heading.parameters.items other.heading.result other.end (look_stmt other.body)
          (flat_map (look_at tree) bodies)
          ∙ ap (λ l. l ++ in_blocks roots (flat_map (look_at tree) bodies))
          (placed_inner roots first other.heading.around.items other.heading.parameters.items other.heading.result other.end (look_stmt other.body)
          (inner_stmt other.body) (none first other))

      gone : slice_get tree.blocks.items first ≡ None → first ≡ number → ⊥
      gone there same = none_some (sym there ∙ ap (slice_get tree.blocks.items) same ∙ is)

      by : (found : Option Block) → slice_get tree.blocks.items first ≡ found
          → Each Holds (in_blocks roots (of_block look_block first found ++ flat_map (look_at tree) bodies))
          → (Each Holds (in_blocks roots (flat_map (look_at tree) bodies)) → nat_eq first number ≡ false → Holds (number, root)) → Holds (number, root)
      by None there all later =
          ⊎_elim (λ same. absurd (gone there (eqb-true first number same))) (λ differs. later all differs) (cases_Bool (nat_eq first number))
      by (Some other) there all later =
          let parts = subst (Each Holds) (rest_is other) all in
          ⊎_elim
          (λ same.
          let here : Some other ≡ Some block = sym there ∙ ap (slice_get tree.blocks.items) (eqb-true first number same) ∙ is in
          subst (λ (n : ℕ). Holds (n, root)) (eqb-true first number same)
          (each_at Holds (λ (one : ℕ). (first, one)) (flat_map roots (look_stmt other.body)) (in_blocks roots (flat_map (look_at tree) bodies)) parts root
          (subst (λ (b : Block). has (flat_map roots (look_stmt b.body)) root ≡ true) (sym (some_same other block here)) told)))
          (λ differs. later (each_rest Holds (map (λ (one : ℕ). (first, one)) (flat_map roots (look_stmt other.body)))
          (in_blocks roots (flat_map (look_at tree) bodies)) parts) differs)
          (cases_Bool (nat_eq first number))

  -- each block leaves none of its for statements open
  own_spared : (bodies : List ℕ) (behind : List ℕ) → spared_behind [] (flat_map (look_at tree) bodies) ≡ Some behind → (number : ℕ) (block : Block)
      → slice_get tree.blocks.items number ≡ Some block → has bodies number ≡ true → spared_behind [] (look_stmt block.body) ≡ Some []
  own_spared = own_block tree spared_behind [] (λ last is. sym (some_same [] last is)) cut ended
    where
      ended : (number : ℕ) (other : Block) (mid : List ℕ) → spared_behind [] (look_block number other) ≡ Some mid
          → (spared_behind [] (look_stmt other.body) ≡ Some []) × (mid ≡ [])
      ended number other mid one =
          let parts = cut [] mid (look_stmt other.body) (heading_look number other.heading other.end ∷ []) one in
          let told = tells_stmt other.body [] parts.0 parts.1 in
          let last : Some parts.0 ≡ Some mid = parts.2 in
          (parts.1 ∙ ap Some told.1, sym (some_same parts.0 mid last) ∙ told.1)

  -- a control variable of another block is that of a block of another number
  elsewhere : (but start : ℕ) (blocks : List Block) (root : ℕ) → has (controls_but but start blocks) root ≡ true
      → (k : ℕ) × (block : Block) × (slice_get blocks k ≡ Some block) × (nat_eq (start + k) but ≡ false) × (has (controls_of block.body) root ≡ true)
  elsewhere but start [] root is = absurd cc
  elsewhere but start (block ∷ blocks) root is =
      ⊎_elim (λ here. by (nat_eq start but) refl here)
      (λ later.
      let k = elsewhere but (suc start) blocks root later in
      let next : suc start + k.0 ≡ start + suc k.0 = omega arith in
      (suc k.0, k.1, k.2, subst (λ (n : ℕ). nat_eq n but ≡ false) next k.3, k.4))
      (or_cases (has (if nat_eq start but then [] else controls_of block.body) root) (has (controls_but but (suc start) blocks) root)
      (sym (list_any-append (λ one. nat_eq one root) (if nat_eq start but then [] else controls_of block.body) (controls_but but (suc start) blocks)) ∙ is))
    where
      by : (own : Bool) → nat_eq start but ≡ own → has (if own then [] else controls_of block.body) root ≡ true
          → (k : ℕ) × (other : Block) × (slice_get (block ∷ blocks) k ≡ Some other) × (nat_eq (start + k) but ≡ false)
          × (has (controls_of other.body) root ≡ true)
      by true own here = absurd cc
      by false own here = let plain : start ≡ start + 0 = omega arith in (0, block, refl, subst (λ (n : ℕ). nat_eq n but ≡ false) plain own, here)

  not_has : (roots : List ℕ) (root : ℕ) → (has roots root ≡ true → ⊥) → is_none_of roots root ≡ true
  not_has roots root other = by (has roots root) other
    where
      by : (b : Bool) → (b ≡ true → ⊥) → not b ≡ true
      by true other = absurd (other refl)
      by false other = refl

  all_not : (roots changes : List ℕ) → ((root : ℕ) → has changes root ≡ true → has roots root ≡ true → ⊥) → SparesAll roots changes
  all_not roots [] other = refl
  all_not roots (root ∷ changes) other =
      and_from (is_none_of roots root) (list_all (is_none_of roots) changes)
      (not_has roots root (other root (or_left (nat_eq root root) (has changes root) (eq-eqb root root refl))))
      (all_not roots changes (λ one is. other one (or_right (nat_eq root one) (has changes one) is)))

  module _ (bodies : IsPermutation (range_with_len 0 (length tree.blocks.items)) tree.bodies.items) (unthreatened : AreUnthreatened (tree_look tree))
      (spared : spared_behind [] (tree_look tree) ≡ Some []) where
    apart : (number : ℕ) (block : Block) → slice_get tree.blocks.items number ≡ Some block → (root : ℕ) → has (changes_of (look_stmt block.body)) root ≡ true
        → has (controls_but number 0 tree.blocks.items) root ≡ true → ⊥
    apart number block is root changes controls =
        let k = elsewhere number 0 tree.blocks.items root controls in
        let plain : 0 + k.0 ≡ k.0 = omega arith in
        let kept = part_of mark_controls (IsKeptBy (tree_look tree)) (λ n b. refl) tree.bodies.items unthreatened k.0 k.1 k.2
        (among tree bodies k.0 k.1 k.2) root
        (controls_told k.1.body root k.4) in
        let same = part_of mark_changes (λ (change : ℕ × ℕ). change.1 ≡ root → change.0 ≡ k.0) (λ n b. refl) tree.bodies.items kept number block is
        (among tree bodies number block is) root changes refl in
        let differs : nat_eq k.0 number ≡ false = subst (λ (n : ℕ). nat_eq n number ≡ false) plain k.3 in
        let alike : nat_eq k.0 number ≡ true = eq-eqb k.0 number (sym same) in
        no (sym differs ∙ alike)
      where
        no : ◌≡◌ {A = Bool} false true → ⊥
        no h = absurd cc

    pub are_unthreatened : (number : ℕ) (block : Block) → slice_get tree.blocks.items number ≡ Some block
        → spares block.body (controls_but number 0 tree.blocks.items) ≡ true
    are_unthreatened number block is =
        let extra = controls_but number 0 tree.blocks.items in
        let own = own_spared tree.bodies.items [] spared number block is (among tree bodies number block is) in
        let all = look_with (look_stmt block.body) [] extra [] (all_not extra (changes_of (look_stmt block.body)) (apart number block is)) own in
        (tells_stmt block.body extra extra all).0
